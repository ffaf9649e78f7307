-- How dates are shown.
use Rattle.std.specs.Prelude.{◌≡◌, ◌≢◌, ◌==◌, ℕ, Bool, true, false, if◌then◌else◌, List, drop, length, Option, Some, None, IsSome}
use Rattle.std.specs.Prelude.{option_map, ok_or, Result, Ok, Err, String, string_bytes, codes}
use Rattle.std.specs.List.{starts_with}
use Rattle.std.specs.Result.{result_map_both}
use Rattle.std.specs.Global.{Global}
use Rattle.std.specs.declared.alloc.AllocError.{AllocError}
use Rattle.jiff.specs.declared.zoned.Zoned.{Zoned}
use Rattle.gix_date.specs.Printing.Formats.{Prints}
use Rattle.gix_date.specs.Printing.NamedFormats.{Printed, format_named, printed_by}
use Rattle.gix_date.specs.declared.error.Error.{Error}
use Rattle.gix_date.specs.declared.error.Error.TheVariants as errors
use Rattle.gix_date.specs.declared.time.Time.{Time}
use Rattle.gix_date.specs.declared.time.format.Format.{Format}
use Rattle.git_date.specs.Formats.Format.{format_bytes, shown_by_format}
use Rattle.git_date.specs.Formats.Pieces.{checked}
use Rattle.git_date.specs.Show.Modes.{mode_named}
use Rattle.git_date.specs.Show.Dates.{shown}
use Rattle.git_date.specs.Show.Clocks.{moment_of}
use Rattle.git_date.specs.declared.mode.DateMode.{DateMode}
use Rattle.git_date_tool.specs.declared.answers.refusals.Refusal.{Refusal}
use Rattle.git_date_tool.specs.declared.answers.refusals.Refusal.TheVariants.{NotShown}
use Rattle.git_date_tool.specs.declared.answers.DateLine.{DateLine}
use Rattle.git_date_tool.specs.declared.answers.DateLine.TheVariants as lines
use Rattle.git_date_tool.specs.declared.answers.Shown.{Shown}
use Rattle.git_date_tool.specs.declared.answers.Shown.TheVariants as shows
use Rattle.git_date_tool.specs.declared.answers.NoWay.{NoWay}
use Rattle.git_date_tool.specs.declared.answers.NoWay.TheVariants as lacks

-- What is shown of a date: what a mode of Git shows, what a format of gix-date prints, or what a format of Git shows, by the clock of the
-- moment's zone or by the time's own.
pub data Way : Type 0 where
  Git : DateMode → Way
  Gix : Printed → Way
  ByFormat : List ℕ → Bool → Way

-- what the code has of it
abbrev pub way_of : Shown → Way
way_of (shows.Git mode) = Git mode
way_of (shows.Gix format) = Gix (printed_by format)
way_of (shows.ByFormat format local) = ByFormat (format_bytes format) local

-- what stands after a front, in a text that begins so
abbrev pub after_front : List ℕ → List ℕ → Option (List ℕ)
after_front front text = if starts_with (λ a b. a == b) text front then Some (drop (length front) text) else None

-- a format of Git, or its first fault
abbrev pub by_format : Bool → List ℕ → Result Way NoWay
by_format local format = result_map_both (λ whole. ByFormat whole local) lacks.Format (checked format)

-- a format of gix-date, or else a mode of Git
abbrev pub format_or_mode : Option Printed → Option DateMode → Result Way NoWay
format_or_mode (Some format) mode = Ok (Gix format)
format_or_mode None mode = ok_or (option_map Git mode) lacks.Unknown

-- by what stands after `format:` and after `format-local:`
abbrev pub way_after : Option (List ℕ) → Option (List ℕ) → List ℕ → Result Way NoWay
way_after (Some format) _ name = by_format false format
way_after None (Some format) name = by_format true format
way_after None None name = format_or_mode (format_named name) (mode_named name)

-- what a name stands for
abbrev pub way_named : List ℕ → Result Way NoWay
way_named name = way_after (after_front (codes "format:") name) (after_front (codes "format-local:") name) name

-- the text of a date
abbrev pub line_text : DateLine → List ℕ
line_text (lines.Git text) = text.bytes
line_text (lines.Gix text) = string_bytes text
line_text (lines.ByFormat text) = string_bytes text

-- Git shows this text, or nothing
abbrev pub IsShownByGit : Option (List ℕ) → Result (Result DateLine Refusal) AllocError → Type 0
IsShownByGit text (Ok (Ok line)) = text ≡ Some (line_text line)
IsShownByGit text (Ok (Err e)) = (text ≡ None) × (e ≡ NotShown)
IsShownByGit text (Err e) = ⊥

-- what printing came to
abbrev pub IsPrinted : Result (String Global) Error → Result (Result DateLine Refusal) AllocError → Type 0
IsPrinted (Ok text) (Ok (Ok line)) = string_bytes text ≡ line_text line
IsPrinted (Err e) (Ok (Err refusal)) = (e ≢ errors.Memory) × (refusal ≡ NotShown)
IsPrinted (Err e) (Err memory) = e ≡ errors.Memory
IsPrinted _ _ = ⊥

-- a format of gix-date prints so
abbrev pub IsShownByGix : Format → Time → Result (Result DateLine Refusal) AllocError → Type 0
IsShownByGix format time result = (printed : Result (String Global) Error) × Prints time format printed × IsPrinted printed result

-- the same by a format of Git: there may be no memory for the text
abbrev pub IsShownByFormat : Option (List ℕ) → Result (Result DateLine Refusal) AllocError → Type 0
IsShownByFormat text (Ok line) = IsShownByGit text (Ok line)
IsShownByFormat text (Err memory) = IsSome text

-- what showing a time at a moment comes to
abbrev pub IsShown : Shown → Zoned → Time → Result (Result DateLine Refusal) AllocError → Type 0
IsShown (shows.Git mode) now time result = IsShownByGit (shown (moment_of now) mode time) result
IsShown (shows.Gix format) now time result = IsShownByGix format time result
IsShown (shows.ByFormat format local) now time result =
    IsShownByFormat (shown_by_format (moment_of now).zone local (format_bytes format) time) result

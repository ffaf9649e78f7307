-- Dates as Git shows them.
use Rattle.std.specs.Prelude.{ℕ, List, [], Bool, true, false, ℤ, pos, if◌then◌else◌, Option, Some, None, option_map}
use Rattle.std.specs.Int.Signed.{lt_z}
use Rattle.gix_date.specs.Text.Front.{◌>>=◌}
use Rattle.gix_date.specs.Fields.Layout.{LocalTime}
use Rattle.gix_date.specs.Header.Text.{written_text}
use Rattle.gix_date.specs.Printing.NamedTexts.{short_text, iso8601_text, iso8601_strict_text, git_rfc2822_text}
use Rattle.gix_date.specs.Text.Numbers.{decimal_text}
use Rattle.gix_date.specs.declared.time.Time.{Time}
use Rattle.git_date.specs.Show.Ages.{relative_text}
use Rattle.git_date.specs.Show.Clocks.{Moment, own_clock, zone_clock, is_written_offset}
use Rattle.git_date.specs.Show.Human.{human_text}
use Rattle.git_date.specs.Show.Texts.{git_default_text}
use Rattle.git_date.specs.declared.mode.DateKind.{DateKind}
use Rattle.git_date.specs.declared.mode.DateKind.TheVariants.{Relative, Iso8601Strict, Iso8601, Rfc2822, Short, Default, Human, Raw, Unix}
use Rattle.git_date.specs.declared.mode.DateMode.{DateMode}

-- the clock by which a time is shown
abbrev pub shown_clock : Moment → Bool → Time → Option LocalTime
shown_clock now local t = if local then zone_clock now.zone t.seconds else own_clock t

-- the offset that is shown without a clock
unfoldable pub shown_offset : Moment → Bool → Time → Option ℤ
shown_offset now local t =
    if local then option_map (λ clock. clock.offset) (zone_clock now.zone t.seconds)
    else (if is_written_offset t.offset then Some t.offset else None)

abbrev pub raw_text : ℤ → ℤ → List ℕ
raw_text seconds offset = written_text (record { seconds = seconds; offset = offset })

-- the age of a time; Git's moments have no sign, so that before 1970 it has none
unfoldable pub relative_shown : ℤ → ℤ → Option (List ℕ)
relative_shown now seconds = if lt_z now (pos 0) then None else Some (relative_text now seconds)

-- a human date needs the clock of now as well, which is from 1970 on
abbrev pub human_shown : Moment → Bool → Time → Option (List ℕ)
human_shown now local t =
    shown_clock now local t >>= λ clock. zone_clock now.zone now.seconds >>= λ today.
    Some (human_text local clock today (relative_text now.seconds t.seconds))

-- the kinds that show a time as Git stores it
abbrev pub is_stored : DateKind → Bool
is_stored Raw = true
is_stored Unix = true
is_stored _ = false

-- the kinds that show a clock and nothing else
abbrev pub is_clock_kind : DateKind → Bool
is_clock_kind Iso8601Strict = true
is_clock_kind Iso8601 = true
is_clock_kind Rfc2822 = true
is_clock_kind Short = true
is_clock_kind Default = true
is_clock_kind _ = false

-- what these kinds show of a clock
abbrev pub clock_text : DateKind → Bool → LocalTime → List ℕ
clock_text Iso8601Strict local t = iso8601_strict_text t
clock_text Iso8601 local t = iso8601_text t
clock_text Rfc2822 local t = git_rfc2822_text t
clock_text Short local t = short_text t
clock_text Default local t = git_default_text local t
clock_text _ local t = []

-- what each kind shows of a time from 1970 on
abbrev pub shown_by : DateKind → Moment → Bool → Time → Option (List ℕ)
shown_by Relative now local t = relative_shown now.seconds t.seconds
shown_by Iso8601Strict now local t = option_map (clock_text Iso8601Strict local) (shown_clock now local t)
shown_by Iso8601 now local t = option_map (clock_text Iso8601 local) (shown_clock now local t)
shown_by Rfc2822 now local t = option_map (clock_text Rfc2822 local) (shown_clock now local t)
shown_by Short now local t = option_map (clock_text Short local) (shown_clock now local t)
shown_by Default now local t = option_map (clock_text Default local) (shown_clock now local t)
shown_by Human now local t = human_shown now local t
shown_by Raw now local t = option_map (raw_text t.seconds) (shown_offset now local t)
shown_by Unix now local t = Some (decimal_text t.seconds)

-- What Git shows of a time. None in every mode before 1970; of an age at a moment before 1970; of the time's own offset with seconds or
-- from 100 hours on; of its own clock before 1970 or after 9999; of the zone's after the last second of `jiff`.
unfoldable pub shown : Moment → DateMode → Time → Option (List ℕ)
shown now mode t = if lt_z t.seconds (pos 0) then None else shown_by mode.kind now mode.local t

-- Why a text is answered by no date, and what that is called.
use Rattle.std.specs.Prelude.{ℕ, Bool, true, false, List, Option, Some, None, codes}
use Rattle.gix_date.specs.declared.error.CarefulError.{CarefulError}
use Rattle.gix_date.specs.declared.error.CarefulError.TheVariants as careful
use Rattle.gix_date.specs.declared.error.ParseError.{ParseError}
use Rattle.gix_date.specs.declared.error.ParseError.TheVariants as gix
use Rattle.git_date.specs.declared.error.DateError.{DateError}
use Rattle.git_date.specs.declared.error.DateError.TheVariants as git
use Rattle.git_date_tool.specs.declared.answers.refusals.Refusal.{Refusal}
use Rattle.git_date_tool.specs.declared.answers.refusals.Refusal.TheVariants.{NotText, UnknownFormat, DateConversion, MissingMoment, Range}
use Rattle.git_date_tool.specs.declared.answers.refusals.Refusal.TheVariants.{Unreadable, NumberTooLarge, BackTooFar, YearRefused, Unclear}
use Rattle.git_date_tool.specs.declared.answers.refusals.Refusal.TheVariants.{AfterYear9999, NotUnderstood, Ignored, NoHeader, NotCanonical}
use Rattle.git_date_tool.specs.declared.answers.refusals.Refusal.TheVariants.{NotShown}

-- what a refusal is called
abbrev pub refusal_name : Refusal → List ℕ
refusal_name NotText = codes "not text"
refusal_name UnknownFormat = codes "error unknown-format"
refusal_name DateConversion = codes "error date-conversion"
refusal_name MissingMoment = codes "error missing-moment"
refusal_name Range = codes "error range"
refusal_name Unreadable = codes "error unreadable"
refusal_name (NumberTooLarge place) = codes "error number-too-large"
refusal_name (BackTooFar place) = codes "error back-too-far"
refusal_name (YearRefused place) = codes "error year-refused"
refusal_name (Unclear place) = codes "error unclear"
refusal_name AfterYear9999 = codes "error after-year-9999"
refusal_name NotUnderstood = codes "error not-understood"
refusal_name (Ignored place) = codes "error ignored"
refusal_name NoHeader = codes "error no-header"
refusal_name NotCanonical = codes "error not-canonical"
refusal_name NotShown = codes "error not-shown"

-- the place that a refusal is about
abbrev pub refusal_place : Refusal → Option ℕ
refusal_place (NumberTooLarge place) = Some place
refusal_place (BackTooFar place) = Some place
refusal_place (YearRefused place) = Some place
refusal_place (Unclear place) = Some place
refusal_place (Ignored place) = Some place
refusal_place _ = None

-- the reader does not understand the text, or a word of it
abbrev pub is_unclear : Refusal → Bool
is_unclear NotUnderstood = true
is_unclear (Ignored place) = true
is_unclear Unreadable = true
is_unclear (Unclear place) = true
is_unclear UnknownFormat = true
is_unclear NoHeader = true
is_unclear _ = false

-- the refusal of Git's readers
abbrev pub of_git : DateError → Refusal
of_git git.Unreadable = Unreadable
of_git (git.NumberTooLarge place) = NumberTooLarge place
of_git (git.BackTooFar place) = BackTooFar place
of_git (git.YearRefused place) = YearRefused place
of_git git.Range = Range

-- that of gix-date's reader
abbrev pub of_gix : ParseError → Refusal
of_gix gix.UnknownFormat = UnknownFormat
of_gix gix.DateConversion = DateConversion
of_gix gix.MissingNow = MissingMoment
of_gix gix.Range = Range

-- that of the careful reader
abbrev pub of_careful : CarefulError → Refusal
of_careful (careful.Unclear place) = Unclear place
of_careful careful.AfterYear9999 = AfterYear9999
of_careful (careful.Refused e) = of_gix e

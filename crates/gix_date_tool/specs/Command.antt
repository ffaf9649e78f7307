-- What the words of a command line ask for.
use Rattle.std.specs.Prelude.{◌≡◌, ℕ, List, [], ◌∷◌, Option, Some, None, Result, Ok, Err, codes}
use Rattle.std.specs.Option.{ForSome}
use Rattle.std.specs.Result.{result_ok}
use Rattle.gix_date.specs.Fields.Zoned.{IsConvertible}
use Rattle.gix_date.specs.declared.time.Time.{Time}
use Rattle.gix_date.specs.Text.Names.{value_named}
use Rattle.gix_date_tool.specs.declared.program.arguments.Mode.{Mode}
use Rattle.streams.specs.Moments.{moment_or_why}
use Rattle.streams.specs.declared.program.NoMoment.{NoMoment}
use Rattle.gix_date_tool.specs.declared.program.arguments.WrongWords.{WrongWords}
use Rattle.gix_date_tool.specs.declared.program.arguments.WrongWords.TheVariants.{NoMode, UnknownMode, NowWithoutParse, AfterNow}
use Rattle.gix_date_tool.specs.declared.program.arguments.WrongWords.TheVariants.{NoMoment as NoMomentIn}
use Rattle.gix_date_tool.specs.declared.program.arguments.Request.{Request}
use Rattle.gix_date_tool.specs.declared.program.arguments.Request.TheVariants.{Run, Usage}
use Rattle.gix_date_tool.specs.declared.program.arguments.Mode.TheVariants.{Check, Parse, Sign}

-- the word `check` asks for Check, `parse` for Parse and `sign` for Sign, without a moment
abbrev pub mode_of : List ℕ → Option Mode
mode_of = value_named ((codes "check", Check) ∷ (codes "parse", Parse) ∷ (codes "sign", Sign) ∷ [])

-- what `parse` asks for at a moment, or why there is none
abbrev pub at_moment : Result Time NoMoment → Result (Mode × Option Time) WrongWords
at_moment (Ok t) = Ok (Parse, Some t)
at_moment (Err why) = Err (NoMomentIn why)

-- what a mode with these words after it asks for: `parse` alone takes one more
abbrev pub asked_of : Mode → List (List ℕ) → Result (Mode × Option Time) WrongWords
asked_of mode [] = Ok (mode, None)
asked_of Parse (now ∷ []) = at_moment (moment_or_why now)
asked_of Parse (now ∷ next ∷ more) = Err AfterNow
asked_of Check (now ∷ more) = Err NowWithoutParse
asked_of Sign (now ∷ more) = Err NowWithoutParse

abbrev pub asked_by : Option Mode → List (List ℕ) → Result (Mode × Option Time) WrongWords
asked_by None more = Err UnknownMode
asked_by (Some mode) more = asked_of mode more

-- what the words of a command line ask for, or what is wrong with them
abbrev pub asked : List (List ℕ) → Result (Mode × Option Time) WrongWords
asked [] = Err NoMode
asked (word ∷ more) = asked_by (mode_of word) more

-- the mode and the moment that words ask for, or nothing
abbrev pub command_of : List (List ℕ) → Option (Mode × Option Time)
command_of words = result_ok (asked words)

-- the request asks for the same, or says what is wrong
abbrev pub IsAnswer : Result (Mode × Option Time) WrongWords → Request → Type 0
IsAnswer wanted (Run mode now) = wanted ≡ Ok (mode, now)
IsAnswer wanted (Usage why) = wanted ≡ Err why

abbrev pub IsRequest : List (List ℕ) → Request → Type 0
IsRequest words request = IsAnswer (asked words) request

-- a run that is asked for may be made
abbrev pub IsRunnable : Request → Type 0
IsRunnable (Run mode now) = ForSome now IsConvertible
IsRunnable (Usage why) = Unit {0}

-- What the words of a command line ask for.
use Rattle.std.specs.Prelude.{ℕ, true, false, List, [], ◌∷◌, Result, Ok, Err, if◌then◌else◌, codes}
use Rattle.std.specs.Str.{bytes_eq}
use Rattle.git_ident_tool.specs.declared.verdicts.Telling.TheVariants.{Faults, All}
use Rattle.git_ident_tool.specs.declared.program.Command.{Command}
use Rattle.git_ident_tool.specs.declared.program.Command.TheVariants.{Judge, Help, Version}
use Rattle.git_ident_tool.specs.declared.program.Request.{Request}
use Rattle.git_ident_tool.specs.declared.program.Step.{Step}
use Rattle.git_ident_tool.specs.declared.program.Step.TheVariants.{On, Instead, Wrong}
use Rattle.git_ident_tool.specs.declared.program.WrongWords.{WrongWords}
use Rattle.git_ident_tool.specs.declared.program.WrongWords.TheVariants.{NoOption}

-- what a word comes to after others, by which this is asked
abbrev pub step_of : Request → List ℕ → Step
step_of request word =
    if bytes_eq word (codes "--all") then On (record request { telling = All })
    else if bytes_eq word (codes "--lines") then On (record request { lines = true })
    else if bytes_eq word (codes "--help") then Instead Help
    else if bytes_eq word (codes "-h") then Instead Help
    else if bytes_eq word (codes "--version") then Instead Version
    else Wrong

-- what is asked without a word: faults are told of, in objects
abbrev pub first_asked : Request
first_asked = record { telling = Faults; lines = false }

-- what a word comes to: nothing more is read, or what is asked by it goes on
abbrev pub by_step : Step → (Request → Result Command WrongWords) → Result Command WrongWords
by_step (On next) more = more next
by_step (Instead command) more = Ok command
by_step Wrong more = Err NoOption

-- what words ask for after others, by which this is asked
unfoldable pub asked_from : Request → List (List ℕ) → Result Command WrongWords
asked_from request [] = Ok (Judge request)
asked_from request (word ∷ words) = by_step (step_of request word) (λ next. asked_from next words)

-- what the words of a command line ask for, or what is wrong with them
abbrev pub asked : List (List ℕ) → Result Command WrongWords
asked words = asked_from first_asked words

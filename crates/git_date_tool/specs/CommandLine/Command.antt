-- What the words of a command line ask for.
use Rattle.std.specs.Prelude.{ℕ, Bool, false, ◌==◌, ◌||◌, List, [], ◌∷◌, length, map, if◌then◌else◌, Option, Some, None, option_map, Result}
use Rattle.std.specs.Prelude.{Ok, Err, codes, string_bytes}
use Rattle.std.specs.List.{find}
use Rattle.std.specs.Borrow.{Bor}
use Rattle.std.specs.List.{after_first, before_first, position_or_len}
use Rattle.std.specs.Option.{is_some}
use Rattle.std.specs.Str.{bytes_eq}
use Rattle.gix_date.specs.Text.Characters.{minus}
use Rattle.gix_date.specs.Text.Names.{value_named}
use Rattle.git_date_tool.specs.Answers.Shown.{Way, way_named, way_of}
use Rattle.git_date_tool.specs.CommandLine.Wrong.{about, late_option, no_option, no_reader, no_value, no_way, option_text, twice}
use Rattle.git_date_tool.specs.CommandLine.Wrong.{two_demands, wrong_words}
use Rattle.git_date_tool.specs.declared.program.arguments.Command.{Command}
use Rattle.git_date_tool.specs.declared.program.arguments.Command.TheVariants as commands
use Rattle.git_date_tool.specs.declared.program.arguments.Given.{Given}
use Rattle.git_date_tool.specs.declared.program.arguments.Given.TheVariants.{Now, Zone, As, Show}
use Rattle.git_date_tool.specs.declared.program.arguments.Request.{Request}
use Rattle.git_date_tool.specs.declared.program.arguments.Step.{Step}
use Rattle.git_date_tool.specs.declared.program.arguments.Step.TheVariants as steps
use Rattle.git_date_tool.specs.declared.answers.Reader.{Reader}
use Rattle.git_date_tool.specs.declared.answers.Reader.TheVariants.{Exact, Approxidate, Careful, Gix, Header}
use Rattle.git_date_tool.specs.declared.answers.Strictness.{Strictness}
use Rattle.git_date_tool.specs.declared.answers.Strictness.TheVariants.{Lenient, Strict}
use Rattle.git_date_tool.specs.declared.answers.NoWay.{NoWay}

-- how texts are answered; what no option says is not there
pub record Asked : Type 0 where
  pub reader : Option Reader
  pub shown : Option Way
  pub strictness : Option Strictness
  pub now : Option (List ℕ)
  pub zone : Option (List ℕ)
  pub texts : List (List ℕ)

-- what a command line asks for: texts to be answered, the help, or the version
pub data Ask : Type 0 where
  Answer : Asked → Ask
  Help : Ask
  Version : Ask

-- a request of the code
abbrev pub request_view : Request → Asked
request_view r = record {
  reader = r.reader;
  shown = option_map way_of r.shown;
  strictness = r.strictness;
  now = option_map (λ now. now.now) r.now;
  zone = option_map (λ z. z.now) r.zone;
  texts = map string_bytes r.texts.now;
}

-- what the code has of it
abbrev pub command_view : Command → Ask
command_view (commands.Answer r) = Answer (request_view r)
command_view commands.Help = Help
command_view commands.Version = Version

-- a request of the code, and the option that waits for its value
abbrev pub taken_view : Request × Option Given → Asked × Option Given
taken_view both = (request_view both.0, both.1)

-- what is asked for without a word
abbrev pub first_asked : Asked
first_asked = record { reader = None; shown = None; strictness = None; now = None; zone = None; texts = [] }

-- a word is an option, or none that the program has
abbrev pub is_option : List ℕ → Bool
is_option [] = false
is_option (b ∷ bs) = b == minus

-- the option of a name
abbrev pub option_named : List ℕ → Option Given
option_named = value_named ((codes "--now", Now) ∷ (codes "--zone", Zone) ∷ (codes "--as", As) ∷ (codes "--show", Show) ∷ [])

-- the reader of a name
abbrev pub reader_named : List ℕ → Option Reader
reader_named =
    value_named ((codes "exact", Exact) ∷ (codes "approxidate", Approxidate) ∷ (codes "careful", Careful) ∷ (codes "gix", Gix) ∷
    (codes "header", Header) ∷ [])

-- Below, what is wrong is what is said of it.

-- after the value of an option none waits
abbrev pub with_reader : Asked → List ℕ → Option Reader → Result (Asked × Option Given) (List ℕ)
with_reader a value (Some reader) = Ok (record a { reader = Some reader }, None)
with_reader a value None = Err (about value no_reader)

abbrev pub with_shown : Asked → List ℕ → Result Way NoWay → Result (Asked × Option Given) (List ℕ)
with_shown a value (Ok way) = Ok (record a { shown = Some way }, None)
with_shown a value (Err why) = Err (about value (no_way why))

-- whether an option was given
abbrev pub is_given : Asked → Given → Bool
is_given a Now = is_some a.now
is_given a Zone = is_some a.zone
is_given a As = is_some a.reader
is_given a Show = is_some a.shown

-- with an option's value, which was not given before
abbrev pub with_new_value : Asked → Given → List ℕ → Result (Asked × Option Given) (List ℕ)
with_new_value a Now value = Ok (record a { now = Some value }, None)
with_new_value a Zone value = Ok (record a { zone = Some value }, None)
with_new_value a As value = with_reader a value (reader_named value)
with_new_value a Show value = with_shown a value (way_named value)

-- with an option's value, which may be given once
abbrev pub with_value : Asked → Given → List ℕ → Result (Asked × Option Given) (List ℕ)
with_value a given value = if is_given a given then Err (about (option_text given) twice) else with_new_value a given value

-- the byte between an option and its value
abbrev pub is_equals : ℕ → Bool
is_equals b = b == 61

-- the name of an option, and the value after `=`
abbrev pub cut_word : List ℕ → List ℕ × Option (List ℕ)
cut_word word =
    if position_or_len is_equals word == length word then (word, None)
    else (before_first is_equals word, Some (after_first is_equals word))

-- these of the code
abbrev pub cut_view : Bor (List ℕ) × Option (Bor (List ℕ)) → List ℕ × Option (List ℕ)
cut_view cut = (cut.0.now, option_map (λ value. value.now) cut.1)

-- with an option, whose value stands after `=`, or is the next word
abbrev pub with_option : Asked → Given → Option (List ℕ) → Result (Asked × Option Given) (List ℕ)
with_option a given (Some value) = with_value a given value
with_option a given None = Ok (a, Some given)

-- with the option of a name, if there is one
abbrev pub with_any_option : Asked → List ℕ → Option Given → Option (List ℕ) → Result (Asked × Option Given) (List ℕ)
with_any_option a word (Some given) value = with_option a given value
with_any_option a word None value = Err (about word no_option)

-- with how much has to be understood, which only one option may say
abbrev pub demand_if_first : Asked → List ℕ → Strictness → Option Strictness → Result (Asked × Option Given) (List ℕ)
demand_if_first a word strictness None = Ok (record a { strictness = Some strictness }, None)
demand_if_first a word strictness (Some before) = Err (about word two_demands)

abbrev pub with_demand : Asked → List ℕ → Strictness → Result (Asked × Option Given) (List ℕ)
with_demand a word strictness = demand_if_first a word strictness a.strictness

-- what an option adds
abbrev pub taken : Asked → List ℕ → Result (Asked × Option Given) (List ℕ)
taken a word =
    if bytes_eq word (codes "--strict") then with_demand a word Strict
    else if bytes_eq word (codes "--lenient") then with_demand a word Lenient
    else with_any_option a word (option_named (cut_word word).0) (cut_word word).1

-- the first option among words
abbrev pub first_option : List (List ℕ) → Option (List ℕ)
first_option words = find is_option words

-- with texts, by the first option among them
abbrev pub with_texts_by : Option (List ℕ) → Asked → List (List ℕ) → Result Ask (List ℕ)
with_texts_by (Some word) a texts = Err (about word late_option)
with_texts_by None a texts = Ok (Answer (record a { texts = texts }))

-- with texts, among which no option may stand
abbrev pub with_texts : Asked → List (List ℕ) → Result Ask (List ℕ)
with_texts a texts = with_texts_by (first_option texts) a texts

-- at the end of the words no option may wait for its value
abbrev pub at_end : Asked → Option Given → Result Ask (List ℕ)
at_end a (Some given) = Err (about (option_text given) no_value)
at_end a None = Ok (Answer a)

-- what a word comes to: an option or a value, the first text, the word before the texts, the help or the version, or a wrong one
pub data Stepped : Type 0 where
  On : Asked → Option Given → Stepped
  Here : Stepped
  After : Stepped
  Instead : Ask → Stepped
  Wrong : List ℕ → Stepped

-- a step of the code
abbrev pub step_view : Step → Stepped
step_view (steps.On next waits) = On (request_view next) waits
step_view steps.Here = Here
step_view steps.After = After
step_view (steps.Instead command) = Instead (command_view command)
step_view (steps.Wrong why) = Wrong (wrong_words why)

-- the step of a word that is an option or a value
abbrev pub step_on : Result (Asked × Option Given) (List ℕ) → Stepped
step_on (Ok next) = On next.0 next.1
step_on (Err why) = Wrong why

-- what a word comes to that is no value
abbrev pub step_first : Asked → List ℕ → Stepped
step_first a word =
    if bytes_eq word (codes "--") then After
    else if is_option word
    then (if bytes_eq word (codes "--help") || bytes_eq word (codes "-h") then Instead Help
    else if bytes_eq word (codes "--version") then Instead Version
    else step_on (taken a word))
    else Here

-- What the next word comes to. `--` ends the options.
abbrev pub step_of : Asked → Option Given → List ℕ → Stepped
step_of a (Some given) word = step_on (with_value a given word)
step_of a None word = step_first a word

-- with all these texts
abbrev pub with_all : Asked → List (List ℕ) → Asked
with_all a texts = record a { texts = texts }

-- by what a word comes to, with it and after it
abbrev pub by_step : Stepped → Asked → List (List ℕ) → List (List ℕ) → (Asked → Option Given → Result Ask (List ℕ)) → Result Ask (List ℕ)
by_step (On next waits) a here after later = later next waits
by_step Here a here after later = with_texts a here
by_step After a here after later = Ok (Answer (with_all a after))
by_step (Instead ask) a here after later = Ok ask
by_step (Wrong why) a here after later = Err why

-- words after others: options and their values, and then the texts
unfoldable pub asked_from : Asked → Option Given → List (List ℕ) → Result Ask (List ℕ)
asked_from a waits [] = at_end a waits
asked_from a waits (word ∷ more) =
    by_step (step_of a waits word) a (word ∷ more) more (λ next waiting. asked_from next waiting more)

-- what the words of a command line ask for, or what is said of what is wrong with them
abbrev pub asked : List (List ℕ) → Result Ask (List ℕ)
asked words = asked_from first_asked None words

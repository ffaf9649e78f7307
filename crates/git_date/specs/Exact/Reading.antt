-- The reader: one token after the other, and what the whole text says.
use Rattle.std.specs.Prelude.{ℕ, ◌-◌, Bool, true, false, List, ◌∷◌, length, ℤ, pos, ◌==◌, if◌then◌else◌, Option, Some, None, Result, Ok}
use Rattle.std.specs.Prelude.{Err, option_map}
use Rattle.std.specs.Option.{option_or}
use Rattle.gix_date.specs.Text.Characters.{plus, minus}
use Rattle.gix_date.specs.Fields.Zoned.{is_instant}
use Rattle.git_date.specs.Tokens.Steps.{and_then}
use Rattle.git_date.specs.Tokens.Strings.{nul_place, before_nul}
use Rattle.git_date.specs.Tokens.Tokens.{Token, Letters, Digits, Mark, tokens, bytes_left, is_end, walked}
use Rattle.git_date.specs.Rules.Fields.{unknown, is_leap}
use Rattle.git_date.specs.Rules.Words.{letters_rule, without_ending}
use Rattle.git_date.specs.Rules.Dates.{exact_seconds}
use Rattle.git_date.specs.Rules.Digits.{Stepped, digits_rule}
use Rattle.git_date.specs.Rules.Offsets.{offset_rule, at_text}
use Rattle.git_date.specs.declared.fields.Fields.{Fields}
use Rattle.git_date.specs.declared.fields.dates.Now.{Now}
use Rattle.git_date.specs.declared.reader.Reading.{Reading}
use Rattle.git_date.specs.declared.reader.Said.{Said}
use Rattle.git_date.specs.declared.error.Fault.{Fault}
use Rattle.git_date.specs.declared.error.Fault.TheVariants as fault
use Rattle.git_date.specs.declared.error.DateError.{DateError}
use Rattle.git_date.specs.declared.error.DateError.TheVariants.{Unreadable, NumberTooLarge, YearRefused, BackTooFar, Range}

-- what follows a number is read without its ending
abbrev pub ended : {A : Type 0} → Result (A × List Token) Fault → Result (A × List Token) Fault
ended step = and_then step (λ found. Ok (found.0, without_ending found.1))

-- a sign, directly before digits or not
unfoldable pub sign_rule : Fields → Bool → List Token → Stepped
sign_rule f behind (Digits run ∷ more) = ended (offset_rule f behind run more)
sign_rule f behind more = Ok (Some f, more)

-- the rule of a token, which takes of the next what it needs
abbrev pub rule : Now → Fields → Token → List Token → Stepped
rule now f (Letters run) more = Ok (letters_rule f run more, more)
rule now f (Digits run) more = ended (digits_rule now f run more)
rule now f (Mark byte) more =
    if byte == plus then sign_rule f false more
    else (if byte == minus then sign_rule f true more else Ok (Some f, more))

-- before the first token
abbrev pub nothing_read : Reading
nothing_read = record { fields = unknown; ignored = None }

-- what is read then: a token that no rule used is ignored, and the first such is kept, by how many bytes were left
abbrev pub read_on : Reading → ℕ → Option Fields → Reading
read_on r left (Some next) = record r { fields = next }
read_on r left None = record r { ignored = option_or r.ignored (Some left) }

-- one step: a line feed that no rule takes ends the reading
abbrev pub step : Now → Reading → Token → List Token → (Reading → List Token → Result Reading Fault) → Result Reading Fault
step now r t more go =
    if is_end t then Ok r
    else and_then (rule now r.fields t more) (λ next. go (read_on r (bytes_left (t ∷ more)) next.0) next.1)

abbrev pub steps : Now → ℕ → Reading → List Token → Result Reading Fault
steps now n r ts = walked (step now) n r ts

-- what the tokens of a text say, one after the other: it has no more of them than bytes
unfoldable pub reading_of : Now → List ℕ → Result Reading Fault
reading_of now text = steps now (length text) nothing_read (tokens text)

-- a place in a text, by how many bytes are left from there on
abbrev pub place_in : List ℕ → ℕ → ℕ
place_in text left = length text - left

abbrev pub error_of : List ℕ → Fault → DateError
error_of text (fault.NumberTooLarge left) = NumberTooLarge (place_in text left)
error_of text (fault.YearRefused left) = YearRefused (place_in text left)
error_of text (fault.BackTooFar left) = BackTooFar (place_in text left)
error_of text fault.Range = Range

-- `@`: its seconds are those of the instant, and nothing is ignored
unfoldable pub at_said : ℕ × ℤ → Result Said DateError
at_said (n, minutes) =
    if is_instant (pos n) then Ok (record { seconds = pos n; offset = Some minutes; epoch = true; leap = false; ignored = None })
    else Err Range

-- what was read, if it comes to the seconds of an instant
abbrev pub by_seconds : List ℕ → Reading → Option ℤ → Result Said DateError
by_seconds text r None = Err Unreadable
by_seconds text r (Some seconds) =
    if is_instant seconds
    then Ok (record {
      seconds = seconds;
      offset = r.fields.offset;
      epoch = r.fields.epoch;
      leap = is_leap r.fields;
      ignored = option_map (place_in text) r.ignored;
    })
    else Err Range

unfoldable pub fields_said : List ℕ → Result Reading Fault → Result Said DateError
fields_said text (Ok r) = by_seconds text r (exact_seconds r.fields)
fields_said text (Err e) = Err (error_of text e)

abbrev pub at_or_fields : Now → List ℕ → Option (ℕ × ℤ) → Result Said DateError
at_or_fields now text (Some found) = at_said found
at_or_fields now text None = fields_said text (reading_of now text)

-- what a text without NUL says
unfoldable pub string_said : Now → List ℕ → Result Said DateError
string_said now text = at_or_fields now text (at_text (tokens text))

-- what is said, where what begins at this place is ignored too, if there is one
abbrev pub said_up_to : Option ℕ → Result Said DateError → Result Said DateError
said_up_to place (Ok said) = Ok (record said { ignored = option_or said.ignored place })
said_up_to place (Err e) = Err e

-- What a text says up to its first NUL, before a zone is asked. It has the seconds that a clock has counted, or those of the
-- instant.
unfoldable pub said_by : Now → List ℕ → Result Said DateError
said_by now text = said_up_to (nul_place text) (string_said now (before_nul text))

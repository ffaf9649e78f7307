-- Texts that calls put into a buffer of the caller.
use Rattle.std.specs.Prelude.{◌≡◌, ℕ, List, ◌++◌, ◌^◌, ◌-◌, min, drop, length, nat_le, if◌then◌else◌, Result, Ok, Err, ok_or}
use Rattle.gix_date.specs.Header.Text.{header_text}
use Rattle.gix_date.specs.declared.time.Time.{Time}
use Rattle.gix_date_c.specs.Values.Refusals.{place_after, with_status}
use Rattle.gix_date_c.specs.Values.Statuses.{number_of}
use Rattle.gix_date_c.specs.declared.values.refusal.Refusal.{Refusal}
use Rattle.gix_date_c.specs.declared.values.status.Status.{Status}
use Rattle.gix_date_c.specs.declared.values.status.Status.TheVariants.{Done, NoRoom, OffsetTooWide}

-- a number as a `usize` tells it: one that is greater than all of these as the greatest
abbrev pub as_usize : ℕ → ℕ
as_usize n = min n (2 ^ 64 - 1)

-- what a call leaves and answers: the bytes of the buffer, how many bytes the text has, and the number of the status
pub record Outcome : Type 0 where
  pub bytes : List ℕ
  pub len : ℕ
  pub status : ℕ

-- the same by its parts
abbrev pub outcome : List ℕ → ℕ → ℕ → Outcome
outcome bytes len status = record { bytes = bytes; len = len; status = status }

-- a buffer with a text at its front
abbrev pub with_text : List ℕ → List ℕ → List ℕ
with_text text bytes = text ++ drop (length text) bytes

-- The text goes to the front of a buffer that has room for it, and no other is changed. How many bytes it has is told
-- in both cases.
abbrev pub text_outcome : List ℕ → List ℕ → Outcome
text_outcome text bytes =
    if nat_le (length text) (length bytes)
    then record { bytes = with_text text bytes; len = as_usize (length text); status = number_of Done }
    else record { bytes = bytes; len = as_usize (length text); status = number_of NoRoom }

-- what a call does with a buffer that gives this text, or has none for this reason
abbrev pub outcome_of : Result (List ℕ) Status → List ℕ → Outcome
outcome_of (Ok text) bytes = text_outcome text bytes
outcome_of (Err refusal) bytes = record { bytes = bytes; len = 0; status = number_of refusal }

-- a call puts an answer of which this is known into a buffer
abbrev pub Puts : (Result (List ℕ) Status → Type 0) → List ℕ → List ℕ → ℕ → ℕ → Type 0
Puts Answers old bytes len status =
    (answer : Result (List ℕ) Status) × Answers answer × (outcome bytes len status ≡ outcome_of answer old)

-- the same of an answer that may have a place, which is that of the refusal, or as it was
abbrev pub PutsRead : (Result (List ℕ) Refusal → Type 0) → List ℕ × ℕ → Outcome × ℕ → Type 0
PutsRead Answers old new =
    (answer : Result (List ℕ) Refusal) × Answers answer × (new.0 ≡ outcome_of (with_status answer) old.0)
    × (new.1 ≡ place_after answer old.1)

-- the header text of a time
abbrev pub header_text_answer : Time → Result (List ℕ) Status
header_text_answer t = ok_or (header_text t) OffsetTooWide

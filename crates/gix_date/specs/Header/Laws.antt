-- What the laws of headers say.
use Rattle.std.specs.Prelude.{◌≡◌, ◌↔◌, ◌/◌, ℕ, List, true, Some, IsSomeAnd, unsigned_abs, int_lt, pos}
use Rattle.gix_date.specs.Fields.ClockNumbers.{seconds_per_minute}
use Rattle.gix_date.specs.Header.Canonical.{is_canonical_header}
use Rattle.gix_date.specs.Header.Reading.{header_time}
use Rattle.gix_date.specs.Header.Text.{header_text}
use Rattle.gix_date.specs.declared.time.Time.{Time}

-- reading and then writing gives the same text
pub record ComesBack (text : List ℕ) : Type 0 where
  pub time : Time
  pub is_read : header_time text ≡ Some time
  pub is_written : header_text time ≡ Some text

-- the text comes back iff it is canonical
abbrev pub CanonicalIffUnchanged : List ℕ → Type 0
CanonicalIffUnchanged text = ComesBack text ↔ (is_canonical_header text ≡ true)

-- the time has a header text, and is read from it
abbrev pub RoundTripsThroughHeader : Time → Type 0
RoundTripsThroughHeader t = IsSomeAnd (header_text t) (λ text. header_time text ≡ Some t)

-- the times have equal seconds, equal signs of their offsets, and equal whole minutes of these
abbrev pub AreAlike : Time → Time → Type 0
AreAlike a b =
    (a.seconds ≡ b.seconds)
    × (int_lt a.offset (pos 0) ≡ int_lt b.offset (pos 0))
    × (unsigned_abs a.offset / seconds_per_minute ≡ unsigned_abs b.offset / seconds_per_minute)

-- header texts are equal iff times are alike
abbrev pub AreWrittenAlike : Time → Time → Type 0
AreWrittenAlike a b = (header_text a ≡ header_text b) ↔ AreAlike a b

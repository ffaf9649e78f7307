-- Lines at the front of an input that are headers.
use Rattle.std.specs.Prelude.{◌≡◌, ◌≤◌, ℕ, true, List, ◌++◌, codes, length}
use Rattle.gix_date.specs.Header.Canonical.{is_canonical_header}
use Rattle.gix_date.specs.Header.CanonicalBytes.{are_usual_seconds}
use Rattle.gix_date.specs.Header.Reading.{IsHeaderLine}
use Rattle.gix_date.specs.declared.time.Time.{Time}
use Rattle.streams.specs.Lines.{IsLine, with_newline}
use Rattle.streams.specs.declared.usual.TheConstants.{MAX_HEADER}

-- the input begins with a canonical header of few bytes, and these bytes stand after it
pub record HasHeaderInFront (input after : List ℕ) : Type 0 where
  pub header : List ℕ
  pub whole : input ≡ header ++ after
  pub is_line : IsLine header
  pub is_canonical : is_canonical_header header ≡ true
  pub is_short : length header ≤ MAX_HEADER

-- the input begins with a line that is a canonical header of few bytes, and these bytes stand after its newline
pub record BeginsWithHeader (input after : List ℕ) : Type 0 where
  pub line : List ℕ
  pub whole : input ≡ with_newline line ++ after
  pub is_line : IsLine line
  pub is_canonical : is_canonical_header line ≡ true
  pub is_short : length line ≤ MAX_HEADER

-- the input begins with a line that is a header of this time, and these bytes stand after its newline
pub record BeginsWithTime (input : List ℕ) (time : Time) (after : List ℕ) : Type 0 where
  pub line : List ℕ
  pub whole : input ≡ with_newline line ++ after
  pub is_header : IsHeaderLine line time

-- the input begins with these seconds and the offset `-0000` as a line, and these bytes stand after its newline
pub record BeginsWithUnknown (input seconds after : List ℕ) : Type 0 where
  pub whole : input ≡ with_newline (seconds ++ codes " -0000") ++ after
  pub is_line : IsLine (seconds ++ codes " -0000")
  pub are_seconds : are_usual_seconds seconds ≡ true
  pub is_short : length (seconds ++ codes " -0000") ≤ MAX_HEADER

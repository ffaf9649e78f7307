-- The header texts that come back when they are read and written.
use Rattle.std.specs.Prelude.{ℕ, Bool, true, false, ◌&&◌, not, is_none, nat_lt, List, codes, Option, Some, None}
use Rattle.std.specs.Option.{option_map_or}
use Rattle.std.specs.List.{before_first, after_first}
use Rattle.std.specs.Str.{bytes_eq}
use Rattle.gix_date.specs.Text.Characters.{is_space}
use Rattle.gix_date.specs.Text.Numbers.{decimal_text, int_value}
use Rattle.gix_date.specs.Fields.Offsets.{offset_fields}
use Rattle.gix_date.specs.Header.Reading.{header_time}
use Rattle.gix_date.specs.declared.parsing.headers.HeaderKind.{HeaderKind}
use Rattle.gix_date.specs.declared.parsing.headers.HeaderKind.TheVariants.{Canonical, Lenient, NoHeader}
use Rattle.gix_date.specs.declared.parsing.offset.OffsetFields.{OffsetFields}
use Rattle.gix_date.specs.declared.time.Time.{Time}

-- the word is the decimal text of its value
abbrev pub is_decimal_text : List ℕ → Bool
is_decimal_text word = option_map_or (λ n. bytes_eq (decimal_text n) word) (int_value word) false

-- minutes are below 60, and there are no seconds
abbrev pub has_whole_minutes : OffsetFields → Bool
has_whole_minutes f = nat_lt f.minutes 60 && is_none f.seconds

-- a sign, two digits of hours and two of minutes below 60, and not `-0000`
abbrev pub is_canonical_offset : List ℕ → Bool
is_canonical_offset word =
    option_map_or has_whole_minutes (offset_fields word) false && not (bytes_eq word (codes "-0000"))

-- a canonical header: the decimal text of an `i64`, one space, and a sign, two digits of hours and two of minutes below
-- 60, but not `-0000`
abbrev pub is_canonical_header : List ℕ → Bool
is_canonical_header text =
    is_decimal_text (before_first is_space text) && is_canonical_offset (after_first is_space text)

-- the kind of a header that is canonical or not, and is read as this time or none
abbrev pub kind_of : Bool → Option Time → HeaderKind
kind_of true time = Canonical
kind_of false (Some t) = Lenient t
kind_of false None = NoHeader

-- what a text is as a header
abbrev pub header_kind : List ℕ → HeaderKind
header_kind text = kind_of (is_canonical_header text) (header_time text)

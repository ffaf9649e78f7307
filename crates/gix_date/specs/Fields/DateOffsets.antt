-- The offsets of formatted dates: what a whole text says by its digits, or in RFC 2822 by the name of a zone.
use Rattle.std.specs.Prelude.{ℕ, Bool, ◌&&◌, List, [], ◌∷◌, ◌++◌, ℤ, pos, neg_ℤ, unsigned_abs, ◌==◌, nat_le, codes, if◌then◌else◌, Option}
use Rattle.std.specs.Prelude.{Some, None, is_some, option_map, unwrap_or}
use Rattle.std.specs.Option.{option_or}
use Rattle.gix_date.specs.Fields.ClockNumbers.{max_minute, max_second, hours_in, minutes_in}
use Rattle.gix_date.specs.Text.Characters.{colon}
use Rattle.gix_date.specs.Text.Front.{skip_char, ◌>>=◌}
use Rattle.gix_date.specs.Fields.Offsets.{offset_sign, read_sign, offset_fields, offset_by}
use Rattle.gix_date.specs.Text.Names.{named_in}
use Rattle.gix_date.specs.Text.Numbers.{two_digits, two_digit_value, read_two_digits}
use Rattle.gix_date.specs.declared.parsing.offset.OffsetFields.{OffsetFields}

-- hours of at most 25, and minutes and seconds of at most 59
abbrev pub is_jiff_offset : OffsetFields → Bool
is_jiff_offset f = nat_le f.hours 25 && nat_le f.minutes max_minute && nat_le (unwrap_or f.seconds 0) max_second

-- the offset of such fields
abbrev pub jiff_offset : OffsetFields → Option ℤ
jiff_offset f = offset_by is_jiff_offset f

-- the whole text is a sign, two digits of hours, two of minutes, and perhaps two of seconds
unfoldable pub compact_offset : List ℕ → Option ℤ
compact_offset text = offset_fields text >>= jiff_offset

-- nothing more, or a colon and two digits more
unfoldable pub last_colon_pair : List ℕ → Option (Option ℕ)
last_colon_pair [] = Some None
last_colon_pair (c ∷ tens ∷ ones ∷ []) =
    if c == colon then option_map Some (two_digit_value tens ones) else None
last_colon_pair _ = None

-- the whole text is such an offset, with a colon between the pairs
unfoldable pub strict_offset : List ℕ → Option ℤ
strict_offset text = do
  sign ← read_sign text
  hours ← read_two_digits sign.1
  rest ← skip_char colon hours.1
  minutes ← read_two_digits rest
  seconds ← last_colon_pair minutes.1
  jiff_offset (record { sign = sign.0; hours = hours.0; minutes = minutes.0; seconds = seconds })

-- so many seconds west of UTC
abbrev pub west : ℕ → ℤ
west seconds = neg_ℤ (pos seconds)

-- the offsets of zones by their names in RFC 2822
abbrev pub zone_names : List (List ℕ × ℤ)
zone_names =
    (codes "ut", pos 0) ∷ (codes "gmt", pos 0) ∷ (codes "edt", west 14_400) ∷ (codes "est", west 18_000)
    ∷ (codes "cdt", west 18_000) ∷ (codes "cst", west 21_600) ∷ (codes "mdt", west 21_600)
    ∷ (codes "mst", west 25_200) ∷ (codes "pdt", west 25_200) ∷ (codes "pst", west 28_800) ∷ []

-- the offset of a zone's name in RFC 2822, in any letter case
unfoldable pub named_zone : List ℕ → Option ℤ
named_zone name = named_in zone_names name

-- the whole text is a sign, two digits of hours and two of minutes
unfoldable pub rfc2822_offset : List ℕ → Option ℤ
rfc2822_offset text = do
  fields ← offset_fields text
  if is_some fields.seconds then None else jiff_offset fields

-- such an offset, or a zone's name
unfoldable pub rfc2822_zone : List ℕ → Option ℤ
rfc2822_zone text = option_or (rfc2822_offset text) (named_zone text)

-- an offset as `+hh:mm`
abbrev pub strict_offset_text : ℤ → List ℕ
strict_offset_text offset =
    offset_sign offset ∷ two_digits (hours_in (unsigned_abs offset))
    ++ colon ∷ two_digits (minutes_in (unsigned_abs offset))

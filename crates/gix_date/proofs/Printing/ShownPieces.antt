-- The pieces of a printed text.
use Rattle.std.proofs.Common.{◌≡◌, ◌∙◌, ℕ, ℤ, pos, ◌+◌, ◌-◌, ◌/◌, ◌%◌, ◌<◌, ◌≤◌, Bool, true, false, List, [], ◌∷◌, ◌++◌, Option, Ok, Err}
use Rattle.std.proofs.Common.{Result, refl, sym, ap, arith, append_assoc, decimal, length, get_or, replicate, min, inl, inr, zero, suc}
use Rattle.std.proofs.Common.{unsigned_abs, lit<, if◌then◌else◌, map}
use Rattle.std.specs.Prelude.{nat_lt}
use Rattle.std.specs.List.{concat, list_all}
use Rattle.std.proofs.lemmas.Bool.Decides.{nat_tests}
use Rattle.std.proofs.lemmas.List.{append-nil}
use Rattle.std.proofs.lemmas.Str.{IsUtf8-from_ascii}
use Rattle.std.proofs.lemmas.Str.Ascii.{IsAscii-nil, IsAscii-cons}
use Rattle.std.specs.Str.{IsUtf8, IsAscii}
use Rattle.std.proofs.lemmas.Bool.{cases_order, and_parts as both}
use Rattle.std.proofs.lemmas.Int.{ints}
use Rattle.std.proofs.lemmas.Fmt.{decimal_digit, decimal_step, IsAscii-decimal}
use Rattle.jiff.specs.Types.{PlainZoned}
use Rattle.jiff_core.proofs.CalendarLemmas.{days_in_month_bounds}
use Rattle.jiff_core.proofs.SignedLemmas.{signed_arith, one_part}
use Rattle.jiff_core.specs.declared.civil.date.Date.{Date}
use Rattle.jiff_core.specs.declared.civil.iso_week_date.ISOWeekDate.{ISOWeekDate}
use Rattle.jiff_core.specs.declared.error.Error.{Error}
use Rattle.jiff_strtime.specs.Directive.{plain}
use Rattle.jiff_strtime.specs.Show.{Context, Shown, show_format, padded, int_text, no_pad, offset_text, weekday_name, short}
use Rattle.jiff_strtime.specs.Text.{Parts, weekday_names}
use Rattle.jiff_strtime.specs.declared.directive.Config.{Config}
use Rattle.jiff_strtime.specs.declared.directive.Locale.TheVariants.{Default}
use Rattle.jiff_tz.specs.Abbreviation.{abbreviation_text}
use Rattle.jiff_tz.specs.Zone.{zone_name}
use Rattle.gix_date.specs.Fields.Offsets.{compact_offset_text}
use Rattle.gix_date.specs.Fields.Layout.{LocalTime}
use Rattle.gix_date.specs.Fields.FieldTexts.{four_digits}
use Rattle.gix_date.specs.Fields.DateOffsets.{strict_offset_text}
use Rattle.gix_date.specs.Printing.NamedTexts.{local_time, ShowsFourDigitFields, ShowsText}
use Rattle.gix_date.specs.Text.Names.{day_names, day_name}
use Rattle.gix_date.specs.Text.Numbers.{two_digits}
use Rattle.gix_date.specs.Printing.Formats.{IsShown, IsUnprinted}
use Rattle.gix_date.proofs.Printing.Printing.{filled_parts}

-- the printer's context with these parts
abbrev pub context : Parts → Result Date Error → Result ISOWeekDate Error → Result ℤ Error → Context
context parts date iso second = record { parts = parts; date = date; iso = iso; second = second }

abbrev pub strict_config : Config
strict_config = record { locale = Default; lenient = false }

-- whatever the zone's names and the dates and instants of a context came to, the pattern shows this text
abbrev pub AlwaysShows : List ℕ → PlainZoned → List ℕ → Type 0
AlwaysShows pattern z text =
    (abbreviation : List ℕ) (name : Option (List ℕ)) (date : Result Date Error) (iso : Result ISOWeekDate Error) (second : Result ℤ Error)
    → show_format strict_config pattern (context (filled_parts z abbreviation name) date iso second) ≡ Ok text

-- the pattern always shows this text of a zoned value with four-digit fields
abbrev pub AlwaysShowsText : List ℕ → (LocalTime → List ℕ) → Type 0
AlwaysShowsText pattern text = (z : PlainZoned) → ShowsFourDigitFields z → AlwaysShows pattern z (text (local_time z))

config_is : (config : Config) → config.locale ≡ Default → config.lenient ≡ false → config ≡ strict_config
config_is config l s = rw (l, s) refl

-- so that text is all that can be shown
pub shown-only : (pattern : List ℕ) (z : PlainZoned) (text : List ℕ) → AlwaysShows pattern z text → (shown : Shown)
    → IsShown pattern z shown → shown ≡ Ok text
shown-only pattern z text always shown h =
    let cx = h.is_shown.context in
    let info = h.are_printed.are_parts.0 in
    let parts = filled_parts z (abbreviation_text info.abbreviation) (zone_name z.time_zone) in
    let named = ap (λ (p : Parts). let q : Parts = record p { weekday = parts.weekday } in q) h.are_printed.are_parts.2 in
    let at_cx = ap (λ (p : Parts). context p cx.date cx.iso cx.second) (h.is_shown.is_context.parts ∙ h.are_printed.is_filled ∙ named) in
    sym h.is_shown.shown_is
    ∙ ap (λ (c : Config). show_format c pattern cx) (config_is h.config h.locale h.strict)
    ∙ ap (λ (x : Context). show_format strict_config pattern x) at_cx
    ∙ always (abbreviation_text info.abbreviation) (zone_name z.time_zone) cx.date cx.iso cx.second

abbrev pub text_or_none : Shown → List ℕ
text_or_none (Ok text) = text
text_or_none (Err e) = []

pub never-refused : (pattern : List ℕ) (z : PlainZoned) (text : List ℕ) → ((shown : Shown) → IsShown pattern z shown → shown ≡ Ok text)
    → IsUtf8 text
    → IsUnprinted pattern z → ⊥
never-refused pattern z text only u (inl (e, h)) =
    let clash : ◌≡◌ {A = Shown} (Err e) (Ok text) = only (Err e) h in
    cc
never-refused pattern z text only u (inr (shown, h, bad)) =
    let same : shown ≡ text = ap text_or_none (only (Ok shown) h) in
    bad (rw same u)

pub shows-text : (pattern : List ℕ) (text : LocalTime → List ℕ)
    → ((z : PlainZoned) → ShowsFourDigitFields z → AlwaysShows pattern z (text (local_time z)))
    → ((z : PlainZoned) → ShowsFourDigitFields z → IsAscii (text (local_time z))) → ShowsText pattern text
shows-text pattern text always ascii z o =
    let only = shown-only pattern z (text (local_time z)) (always z o) in
    (only, never-refused pattern z (text (local_time z)) only (IsUtf8-from_ascii (text (local_time z)) (ascii z o)))

-- pieces one after the other, as the printer adds them
abbrev pub joined_text : List ℕ → List (List ℕ) → List ℕ
joined_text shown [] = shown
joined_text shown (piece ∷ pieces) = joined_text (shown ++ piece) pieces

pub joined_text-is : (shown : List ℕ) (pieces : List (List ℕ)) → joined_text shown pieces ≡ shown ++ concat pieces
joined_text-is shown [] = sym (append-nil shown)
joined_text-is shown (piece ∷ pieces) = joined_text-is (shown ++ piece) pieces ∙ append_assoc shown piece (concat pieces)

-- a number of a directive with nothing between `%` and its letter, and with `-` there
abbrev pub number : ℕ → ℤ → List ℕ
number width n = int_text plain 48 width n

abbrev pub bare : ℤ → List ℕ
bare n = int_text no_pad 48 2 n

number-padded : (width n : ℕ) → number width (pos n) ≡ padded n 48 width
number-padded width n = grind (arith, ints)

pub decimal-two : (n : ℕ) → 10 ≤ n → n < 100 → decimal n ≡ (48 + n / 10) ∷ (48 + n % 10) ∷ []
decimal-two n low high = grind (arith, decimal_step, decimal_digit)

padded-by : (n : ℕ) (ds : List ℕ) → decimal n ≡ ds → (width : ℕ) → padded n 48 width ≡ replicate (min width 20 - length ds) 48 ++ ds
padded-by n ds e width = ap (λ (t : List ℕ). replicate (min width 20 - length t) 48 ++ t) e

padded-small : (n : ℕ) → n < 10 → padded n 48 2 ≡ two_digits n
padded-small n small = grind (arith, padded-by, decimal_digit)

padded-two : (n : ℕ) → n < 100 → padded n 48 2 ≡ two_digits n
padded-two n h = grind (arith, cases_order, padded-small, padded-by, decimal-two)

decimal-four : (n : ℕ) → 1000 ≤ n → n ≤ 9999 → decimal n ≡ four_digits n
decimal-four n low high = grind (arith, decimal_step, decimal_digit)

pub number-two : (n : ℕ) → n < 100 → number 2 (pos n) ≡ two_digits n
number-two n h = number-padded 2 n ∙ padded-two n h

pub number-four : (n : ℕ) → 1000 ≤ n → n ≤ 9999 → number 4 (pos n) ≡ four_digits n
number-four n low high = number-padded 4 n ∙ padded-by n _ (decimal-four n low high) 4

bare-padded : (n : ℕ) → padded n 48 0 ≡ decimal n
bare-padded n = grind (arith)

pub number-bare : (n : ℕ) → bare (pos n) ≡ decimal n
number-bare n = grind (arith, ints, bare-padded)

-- a name in a table of names that are cut to three letters
pub short_of : (names : List (List ℕ)) (n : ℕ) → short (get_or names n []) ≡ get_or (map short names) n []
short_of (name ∷ names) (suc n) = short_of names n
short_of names n = refl

pub weekday-short : (n : ℕ) → short (weekday_name n) ≡ day_name n
weekday-short n = short_of weekday_names n

-- an offset of whole minutes
minutes-are : (n : ℕ) → n / 60 % 60 ≡ n % 3600 / 60
minutes-are n = omega arith

pub zone-is : (o : ℤ) → unsigned_abs o % 60 ≡ 0 → unsigned_abs o / 3600 < 100 → offset_text o false true false ≡ compact_offset_text o
zone-is o whole few_hours = grind (arith, minutes-are, padded-two, append-nil)

pub strict-zone-is : (o : ℤ) → unsigned_abs o % 60 ≡ 0 → unsigned_abs o / 3600 < 100 → offset_text o true true false ≡ strict_offset_text o
strict-zone-is o whole few_hours = grind (arith, minutes-are, padded-two)

-- what a zoned value with four-digit fields shows
pub record InRange (t : LocalTime) : Type 0 where
  pub low : 1000 ≤ t.date.year
  pub high : t.date.year ≤ 9999
  pub day : t.date.day < 100
  pub month : t.date.month < 100
  pub hour : t.clock.hour < 100
  pub minute : t.clock.minute < 100
  pub second : t.clock.second < 100
  pub hours : unsigned_abs t.offset / 3600 < 100
  pub whole : unsigned_abs t.offset % 60 ≡ 0

pub in-range : (z : PlainZoned) → ShowsFourDigitFields z → InRange (local_time z)
in-range z o = grind (arith, days_in_month_bounds, signed_arith, one_part)

pub ascii-two : (n : ℕ) → n < 100 → IsAscii (two_digits n)
ascii-two n h = IsAscii-cons _ (_ ∷ []) (omega arith) (IsAscii-cons _ [] (omega arith) IsAscii-nil)

pub ascii-four : (n : ℕ) → n ≤ 9999 → IsAscii (four_digits n)
ascii-four n h = grind (arith, ascii-two)

pub ascii-bare : (n : ℕ) → n < 100 → IsAscii (decimal n)
ascii-bare n h = IsAscii-decimal n (omega arith)

-- a name in a table whose names are ASCII
abbrev is_low : ℕ → Bool
is_low b = nat_lt b 128

ascii_by : (t : List ℕ) → list_all is_low t ≡ true → IsAscii t
ascii_by [] h = IsAscii-nil
ascii_by (c ∷ t) h =
    let parts = both (is_low c) (list_all is_low t) h in
    IsAscii-cons c t (grind (arith, nat_tests, parts.0)) (ascii_by t parts.1)

pub name_ascii : (names : List (List ℕ)) (n : ℕ) → list_all (list_all is_low) names ≡ true → IsAscii (get_or names n [])
name_ascii [] n h = IsAscii-nil
name_ascii (name ∷ names) zero h = ascii_by name ((both (list_all is_low name) (list_all (list_all is_low) names) h).0)
name_ascii (name ∷ names) (suc n) h = name_ascii names n ((both (list_all is_low name) (list_all (list_all is_low) names) h).1)

pub ascii-weekday : (n : ℕ) → IsAscii (day_name n)
ascii-weekday n = name_ascii day_names n refl

pub sign_of : (negative : Bool) → (if negative then 45 else 43) < 128
sign_of true = lit< tt
sign_of false = lit< tt

pub ascii-zone : (o : ℤ) → unsigned_abs o / 3600 < 100 → IsAscii (compact_offset_text o)
ascii-zone o hours = grind (arith, sign_of, ascii-two)

pub ascii-strict-zone : (o : ℤ) → unsigned_abs o / 3600 < 100 → IsAscii (strict_offset_text o)
ascii-strict-zone o hours = grind (arith, sign_of, ascii-two)

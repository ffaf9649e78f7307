-- What the strict printer shows by a named pattern is its text: not only nothing else, but that.
use Rattle.std.proofs.Common.{rules, ◌≡◌, ◌∙◌, ◌+◌, ◌/◌, ◌++◌, ℤ, unsigned_abs, Bool, true, length, Bor, option_map, arith, get_or, lit<}
use Rattle.std.proofs.Common.{if◌then◌else◌, ◌<◌, ◌≤◌, ℕ, List, [], ◌∷◌, decimal, Option, Some, None, Result, Ok, Err, IfOk, IfErr, String}
use Rattle.std.proofs.Common.{Global, refl, sym, ap, subst, inl, inr, false, string_bytes, suc}
use Rattle.std.proofs.lemmas.Fmt.{decimal_digit}
use Rattle.jiff.specs.Types.{PlainZoned}
use Rattle.jiff_core.specs.declared.error.Error.TheVariants.{Missing}
use Rattle.jiff_core.specs.declared.error.Part.TheVariants.{Date as NoDate, Year}
use Rattle.jiff_strtime.specs.Text.{Parts, from_hour, parts_of}
use Rattle.jiff_tz.specs.Abbreviation.{abbreviation_text, colon_digits, offset_text}
use Rattle.jiff_tz.specs.Zone.{zone_name, utc_offset, IsInfoAt}
use Rattle.jiff_tz.specs.PosixRule as PosixRule
use Rattle.jiff_tz.specs.Tzif as Table
use Rattle.jiff_tz.specs.declared.abbreviation.Abbreviation.{Abbreviation}
use Rattle.jiff_tz.specs.declared.info.Dst.TheVariants.{No}
use Rattle.jiff_tz.specs.declared.info.OffsetInfo.{OffsetInfo}
use Rattle.jiff_tz.specs.declared.timezone.TimeZone.{TimeZone}
use Rattle.jiff_tz.specs.declared.timezone.TimeZone.TheVariants.{Fixed, Posix, Tzif}
use Rattle.std.proofs.Math.Seq.{take-length}
use Rattle.std.proofs.lemmas.Str.{IsAscii-append, IsUtf8-from_ascii}
use Rattle.std.proofs.lemmas.Str.Ascii.{IsAscii-nil, IsAscii-cons}
use Rattle.std.specs.Str.{IsUtf8, IsAscii, bytes_eq}
use Rattle.jiff_core.proofs.SignedLemmas.{signed_arith, one_part}
use Rattle.jiff_core.specs.Calendar.{weekday_number}
use Rattle.jiff_core.specs.Date.{weekday_of, epoch_day}
use Rattle.jiff_core.specs.Weekday.{monday_zero}
use Rattle.jiff_core.specs.declared.civil.weekday.Weekday.{Weekday}
use Rattle.jiff_core.specs.declared.civil.weekday.Weekday.TheVariants.{Monday, Tuesday, Wednesday, Thursday, Friday, Saturday, Sunday}
use Rattle.jiff_strtime.specs.declared.tm.BrokenDownTime.{BrokenDownTime}
use Rattle.jiff.specs.Words.{plain_zoned}
use Rattle.gix_date.specs.Fields.Layout.{LocalTime}
use Rattle.gix_date.specs.Printing.NamedTexts.{IsShownByAll, short_pattern, short_text, iso8601_pattern, iso8601_text}
use Rattle.gix_date.specs.Printing.NamedTexts.{iso8601_strict_pattern, iso8601_strict_text}
use Rattle.gix_date.proofs.Printing.Appended.{begun}
use Rattle.gix_date.proofs.Printing.NamedTexts.{formats_printed}
use Rattle.gix_date.specs.Printing.LocalClocks.{clock_of, HasFourDigitFields}
use Rattle.gix_date.specs.Printing.Formats.{IsShown, IsPatternText, PrintsPattern, HasParts}
use Rattle.gix_date.specs.Fields.Zoned.{IsConvertible}
use Rattle.gix_date.specs.Text.Numbers.{two_digits}
use Rattle.gix_date.specs.declared.error.Error.{Error}
use Rattle.gix_date.specs.declared.error.Error.TheVariants as errors
use Rattle.gix_date.specs.declared.time.Time.{Time}
use Rattle.gix_date.proofs.Printing.LocalClocks.{moment-of, moment-shows, clock_is_shown, four-digits-from}
use Rattle.gix_date.proofs.Printing.Printing.{are-printed, filled_parts}
use Rattle.gix_date.proofs.Printing.ShownPieces.{AlwaysShows, AlwaysShowsText, ascii-two, sign_of, context, decimal-two, strict_config}

-- the abbreviation with this text
abbrev named_so : (text : List ℕ) → length text ≤ 15 → IsAscii text → Abbreviation
named_so text short ascii = record
    { bytes = text; len = length text; fits = short; text = ∣ subst IsUtf8 (sym (take-length text)) (IsUtf8-from_ascii text ascii) ∣₁ }

named-so : (text : List ℕ) (short : length text ≤ 15) (ascii : IsAscii text) → abbreviation_text (named_so text short ascii) ≡ text
unfolding abbreviation_text
named-so text short ascii = take-length text

-- an offset as an abbreviation is short, and ASCII
abbrev behind_hours : Bool → Bool → ℕ → ℕ → List ℕ
behind_hours has_seconds has_minutes m s =
    if has_seconds then colon_digits m ++ colon_digits s else (if has_minutes then colon_digits m else [])

colon-ascii : (n : ℕ) → n < 100 → IsAscii (colon_digits n)
colon-ascii n h = IsAscii-cons 58 (two_digits n) (lit< tt) (ascii-two n h)

behind-ascii : (has_seconds has_minutes : Bool) (m s : ℕ) → m < 100 → s < 100 → IsAscii (behind_hours has_seconds has_minutes m s)
behind-ascii true b m s in_m in_s = IsAscii-append (colon_digits m) (colon_digits s) (colon-ascii m in_m) (colon-ascii s in_s)
behind-ascii false true m s in_m in_s = colon-ascii m in_m
behind-ascii false false m s in_m in_s = IsAscii-nil

behind-short : (has_seconds has_minutes : Bool) (m s : ℕ) → length (behind_hours has_seconds has_minutes m s) ≤ 6
behind-short false true m s = omega arith
behind-short x b m s = omega arith

offset-ascii : (o : ℤ) → unsigned_abs o / 3600 < 100 → IsAscii (offset_text o)
offset-ascii o hours = grind (arith, sign_of, ascii-two, behind-ascii)

offset-short : (o : ℤ) → length (offset_text o) ≤ 15
offset-short o = grind (arith, behind-short)

utc-ascii : IsAscii (85 ∷ 84 ∷ 67 ∷ [])
utc-ascii = IsAscii-cons 85 (84 ∷ 67 ∷ []) (lit< tt) (IsAscii-cons 84 (67 ∷ []) (lit< tt) (IsAscii-cons 67 [] (lit< tt) IsAscii-nil))

-- something holds at each instant in each zone
some-info : (tz : TimeZone) (n : ℤ) → (info : OffsetInfo) × IsInfoAt tz n info
some-info (Fixed o) n =
    let hours : unsigned_abs o.seconds / 3600 < 100 = omega (arith, signed_arith, one_part o.seconds, o.in_range) in
    let short = offset-short o.seconds in
    let ascii = offset-ascii o.seconds hours in (
      record { offset = o; abbreviation = named_so (offset_text o.seconds) short ascii; dst = No },
      (refl, named-so (offset_text o.seconds) short ascii, refl),
    )
some-info (Posix tz) n = (PosixRule.info_at tz n, refl)
some-info (Tzif z) n = (Table.info_at z.now n, refl)
some-info tz n = (
  record { offset = utc_offset; abbreviation = named_so (85 ∷ 84 ∷ 67 ∷ []) (lit< tt) utc-ascii; dst = No },
  (refl, named-so (85 ∷ 84 ∷ 67 ∷ []) (lit< tt) utc-ascii, refl),
)

lent : List ℕ → Bor (List ℕ)
lent text = record { ref_ptr = (0, 0); now = text }

lent-back : (name : Option (List ℕ)) → option_map (λ s. s.now) (option_map lent name) ≡ name
unfolding lent
lent-back None = refl
lent-back (Some text) = refl

-- each day has a day of the week
abbrev week : List Weekday
week = Monday ∷ Tuesday ∷ Wednesday ∷ Thursday ∷ Friday ∷ Saturday ∷ Sunday ∷ []

some-weekday : (n : ℕ) → n < 7 → (w : Weekday) × (monday_zero w ≡ n)
some-weekday (suc (suc (suc (suc (suc (suc (suc n))))))) h = absurd (omega arith)
some-weekday n h = (get_or week n Sunday, refl)

in-week : (day : ℤ) → weekday_number day < 7
unfolding weekday_number
in-week day = omega (arith, signed_arith)

-- each zoned value has parts that are printed
has-parts : (z : PlainZoned) → HasParts z
unfolding lent
has-parts z =
    let w = some-weekday (weekday_of z.datetime.date) (in-week (epoch_day z.datetime.date)) in
    let info = some-info z.time_zone z.timestamp.nanosecond in
    let abbreviation = abbreviation_text info.0.abbreviation in
    let name = zone_name z.time_zone in
    let filled : BrokenDownTime = record {
      year = Some z.datetime.date.year;
      month = Some z.datetime.date.month;
      day = Some z.datetime.date.day;
      day_of_year = None;
      iso_week_year = None;
      iso_week = None;
      week_sun = None;
      week_mon = None;
      hour = Some z.datetime.time.hour;
      minute = Some z.datetime.time.minute;
      second = Some z.datetime.time.second;
      subsec = Some z.datetime.time.subsec_nanosecond;
      offset = Some z.offset;
      weekday = Some w.0;
      meridiem = Some (from_hour z.datetime.time.hour);
      timestamp = Some z.timestamp;
      tz_abbreviation = Some (lent abbreviation);
      iana = option_map lent name;
    } in
    let with_weekday : parts_of filled ≡ filled_parts z abbreviation (option_map (λ s. s.now) (option_map lent name)) =
    ap (λ (d : ℕ). let q : Parts =
    record (filled_parts z abbreviation (option_map (λ s. s.now) (option_map lent name))) { weekday = Some d } in q) w.1 in
    let same : parts_of filled ≡ filled_parts z abbreviation name = with_weekday
    ∙ ap (λ (t : Option (List ℕ)). filled_parts z abbreviation t) (lent-back name) in
    (filled, are-printed z info.0 abbreviation name (parts_of filled) info.1 refl refl same)

-- a text that is always shown is shown: no date, no week and no instant of a context is needed
pub shows-always : (pattern : List ℕ) (z : PlainZoned) (text : List ℕ) → AlwaysShows pattern z text → IsShown pattern z (Ok text)
shows-always pattern z text always =
    let h = has-parts z in
    let info = h.1.are_parts.0 in
    let parts = filled_parts z (abbreviation_text info.abbreviation) (zone_name z.time_zone) in
    let named = ap (λ (p : Parts). let q : Parts = record p { weekday = parts.weekday } in q) h.1.are_parts.2 in
    let filled_is : parts_of h.0 ≡ parts = h.1.is_filled ∙ named in
    record {
      config = strict_config;
      locale = refl;
      strict = refl;
      filled = h.0;
      are_printed = h.1;
      is_shown = record {
        context = context parts (Err (Missing Year)) (Err (Missing NoDate)) (Err (Missing Year));
        is_context = record { parts = sym filled_is; date = inr (inl refl); iso = refl; second = inl (inl (inr (inl refl))) };
        shown_is = always (abbreviation_text info.abbreviation) (zone_name z.time_zone) (Err (Missing Year)) (Err (Missing NoDate))
            (Err (Missing Year));
      };
    }

-- so it shows its text of each zoned value with four-digit fields with that clock
pub named-shown : (pattern named : List ℕ) (text : LocalTime → List ℕ) (local : LocalTime) (bytes : List ℕ)
    → AlwaysShowsText named text → pattern ≡ named → bytes ≡ text local → IsShownByAll pattern local bytes
named-shown pattern named text local bytes always p b z four_digits shows = grind (arith, shows-always)

-- each of the patterns without names
bytes_eq-true : (pattern : List ℕ) → bytes_eq pattern short_pattern ≡ true → pattern ≡ short_pattern
bytes_eq-true pattern p = search rules

pub short_shown : (pattern : List ℕ) (local : LocalTime) (old bytes : List ℕ) → bytes_eq pattern short_pattern ≡ true → old ≡ []
    → bytes ≡ old ++ short_text local → IsShownByAll pattern local bytes
short_shown pattern local old bytes p e b = named-shown pattern short_pattern short_text local bytes formats_printed.short.always
    (bytes_eq-true pattern p) (begun old bytes (short_text local) e b)

pub iso8601_shown : (pattern : List ℕ) (local : LocalTime) (old bytes : List ℕ) → pattern ≡ iso8601_pattern → old ≡ []
    → bytes ≡ old ++ iso8601_text local → IsShownByAll pattern local bytes
iso8601_shown pattern local old bytes p e b =
    named-shown pattern iso8601_pattern iso8601_text local bytes formats_printed.iso8601.always p (begun old bytes (iso8601_text local) e b)

pub strict_shown : (pattern : List ℕ) (local : LocalTime) (old bytes : List ℕ) → pattern ≡ iso8601_strict_pattern → old ≡ []
    → bytes ≡ old ++ iso8601_strict_text local → IsShownByAll pattern local bytes
strict_shown pattern local old bytes p e b = named-shown pattern iso8601_strict_pattern iso8601_strict_text local bytes
    formats_printed.iso8601_strict.always p (begun old bytes (iso8601_strict_text local) e b)

pub ruleset numbers_shown = (short_shown, iso8601_shown, strict_shown)

-- what a copy of this text comes to is what the pattern prints
pub copy-prints : (pattern : List ℕ) (t : Time) (text : List ℕ) (r : Result (String Global) Error) → IsConvertible t
    → IsPatternText t pattern text → IfOk r (λ copy. string_bytes copy ≡ text) → IfErr r (λ e. e ≡ errors.Memory)
    → PrintsPattern t pattern r
copy-prints pattern t text (Ok copy) converts (z, m, shown) ok err =
    (z, m, subst (λ (s : List ℕ). IsShown pattern (plain_zoned z) (Ok s)) (sym ok) shown)
copy-prints pattern t text (Err e) converts h ok err = inr (inl (err, converts))

-- what shows by such a clock is the text of its time
pub named_text : (pattern : List ℕ) (t : Time) (bytes : List ℕ) → IsShownByAll pattern (clock_of t) bytes
    → IsConvertible t → HasFourDigitFields t → IsPatternText t pattern bytes
named_text pattern t bytes shown converts four_digits =
    let m = moment-of t converts in
    let shows = moment-shows t m.0 m.1 in
    let z = plain_zoned m.0 in
    (m.0, m.1, shown z (four-digits-from z t shows four_digits) (clock_is_shown z t shows))

-- the day of the month, in one digit or two
pub day_of_one : (day : ℕ) → day < 10 → (48 + day) ∷ [] ≡ decimal day
day_of_one day h = sym (decimal_digit day h)

pub day_of_two : (day : ℕ) → 10 ≤ day → day < 100 → two_digits day ≡ decimal day
day_of_two day low high = sym (decimal-two day low high)

-- What the named patterns show: the pieces of their layouts.
use Rattle.std.proofs.Common.{rules}
use Rattle.std.proofs.Common.{◌≡◌, ◌∙◌, ℕ, ℤ, pos, ◌-◌, ◌<◌, true, false, nat_lt, List, [], ◌∷◌, ◌++◌, Option, Ok, Result, refl, ap, codes}
use Rattle.std.proofs.Common.{arith, get_or, lit<, replicate, zero, suc, unsigned_abs, sym}
use Rattle.std.proofs.lemmas.List.{append-nil}
use Rattle.std.proofs.lemmas.Str.{IsAscii-append}
use Rattle.std.proofs.lemmas.List.Folds.{concat-append}
use Rattle.std.proofs.lemmas.Str.Ascii.{IsAscii-nil, IsAscii-cons}
use Rattle.std.specs.List.{concat}
use Rattle.std.specs.Str.{IsAscii}
use Rattle.std.specs.Fmt.{decimal}
use Rattle.jiff.specs.Types.{PlainZoned}
use Rattle.jiff_core.specs.declared.civil.date.Date.{Date}
use Rattle.jiff_core.specs.declared.civil.iso_week_date.ISOWeekDate.{ISOWeekDate}
use Rattle.jiff_core.specs.declared.error.Error.{Error}
use Rattle.jiff_strtime.specs.Directive.{read_flag, colon_rest}
use Rattle.jiff_strtime.specs.Number.{fold_digits}
use Rattle.jiff_strtime.specs.Show.{Shown, show_format, show_steps, directive_text, text_of, offset_text, weekday_name, short}
use Rattle.jiff_strtime.specs.Text.{month_names as full_names}
use Rattle.gix_date.specs.Text.Characters.{space, comma, colon, letter_t}
use Rattle.gix_date.specs.Fields.Layout.{LocalTime, Piece, DayName, Rfc2822DayName, MonthName, Day, Year, PlainDate, Clock, Rfc2822Clock}
use Rattle.gix_date.specs.Fields.Layout.{Spaces, LetterT, Offset, ColonOffset, Rfc2822Offset, print_piece, print_pieces}
use Rattle.gix_date.specs.Text.Names.{day_name, month_names}
use Rattle.gix_date.specs.Text.Numbers.{two_digits}
use Rattle.gix_date.specs.Printing.NamedTexts.{local_time, ShowsFourDigitFields, ShowsText, short_pattern, short_text, rfc2822_pattern}
use Rattle.gix_date.specs.Printing.NamedTexts.{rfc2822_text, git_rfc2822_pattern, git_rfc2822_text, iso8601_pattern, iso8601_text}
use Rattle.gix_date.specs.Printing.NamedTexts.{iso8601_strict_pattern, iso8601_strict_text, gitoxide_pattern, gitoxide_text}
use Rattle.gix_date.specs.Printing.NamedTexts.{default_pattern, default_text}
use Rattle.gix_date.specs.Families.Patterns.{short_layout, rfc2822_layout, iso8601_layout, iso8601_strict_layout, gitoxide_layout}
use Rattle.gix_date.specs.Families.Patterns.{default_layout}
use Rattle.gix_date.proofs.Printing.Printing.{filled_parts}
use Rattle.gix_date.proofs.Printing.ShownPieces.{AlwaysShows, AlwaysShowsText, InRange, ascii-bare, ascii-four, ascii-strict-zone}
use Rattle.gix_date.proofs.Printing.ShownPieces.{ascii-two, ascii-weekday, ascii-zone, bare, context, in-range, joined_text, joined_text-is}
use Rattle.gix_date.proofs.Printing.ShownPieces.{number, number-bare, number-four, number-two, shows-text, strict-zone-is, strict_config}
use Rattle.gix_date.proofs.Printing.ShownPieces.{weekday-short, zone-is, short_of, name_ascii}

-- what `jiff` shows for a piece: the year apart, since it has a sign there
abbrev pub jiff_piece : (ℕ → List ℕ) → Piece → ℤ → LocalTime → List (List ℕ)
jiff_piece day DayName y t = short (weekday_name t.weekday) ∷ []
jiff_piece day Rfc2822DayName y t = short (weekday_name t.weekday) ∷ codes "," ∷ codes " " ∷ []
jiff_piece day MonthName y t = short (get_or full_names (t.date.month - 1) []) ∷ []
jiff_piece day Day y t = day t.date.day ∷ []
jiff_piece day Year y t = number 4 y ∷ []
jiff_piece day PlainDate y t = number 4 y ∷ codes "-" ∷ number 2 (pos t.date.month) ∷ codes "-" ∷ number 2 (pos t.date.day) ∷ []
jiff_piece day Clock y t =
    number 2 (pos t.clock.hour) ∷ codes ":" ∷ number 2 (pos t.clock.minute) ∷ codes ":" ∷ number 2 (pos t.clock.second) ∷ []
jiff_piece day Rfc2822Clock y t =
    number 2 (pos t.clock.hour) ∷ codes ":" ∷ number 2 (pos t.clock.minute) ∷ codes ":" ∷ number 2 (pos t.clock.second) ∷ []
jiff_piece day Spaces y t = codes " " ∷ []
jiff_piece day LetterT y t = codes "T" ∷ []
jiff_piece day Offset y t = offset_text t.offset false true false ∷ []
jiff_piece day ColonOffset y t = offset_text t.offset true true false ∷ []
jiff_piece day Rfc2822Offset y t = offset_text t.offset false true false ∷ []

-- and for pieces: after them as many empty ones as are given
abbrev pub jiff_pieces : (ℕ → List ℕ) → List Piece → ℤ → LocalTime → ℕ → List (List ℕ)
jiff_pieces day [] y t blanks = replicate blanks []
jiff_pieces day (p ∷ ps) y t blanks = jiff_piece day p y t ++ jiff_pieces day ps y t blanks

abbrev pub jiff_two : ℕ → List ℕ
jiff_two d = number 2 (pos d)

abbrev pub jiff_bare : ℕ → List ℕ
jiff_bare d = bare (pos d)

-- a day of the month, as jiff shows it and as it is printed
pub record ShowsDay (jiff_day day : ℕ → List ℕ) : Type 0 where
  pub same : (n : ℕ) → n < 100 → jiff_day n ≡ day n
  pub ascii : (n : ℕ) → n < 100 → IsAscii (day n)

two-shown : ShowsDay jiff_two two_digits
two-shown = record { same = number-two; ascii = ascii-two }

bare-shown : ShowsDay jiff_bare decimal
bare-shown = record { same = λ n h. number-bare n; ascii = ascii-bare }

blank : (n : ℕ) → concat (replicate n []) ≡ []
blank zero = refl
blank (suc n) = blank n

alone : (x y : List ℕ) → x ≡ y → x ++ [] ≡ y
alone x y e = append-nil x ∙ e

piece-shown : {jiff_day day : ℕ → List ℕ} → ShowsDay jiff_day day → (p : Piece) (t : LocalTime) → InRange t
    → concat (jiff_piece jiff_day p (pos t.date.year) t) ≡ print_piece day p t
piece-shown {jiff_day} {day} d DayName t r = alone _ _ (weekday-short t.weekday)
piece-shown {jiff_day} {day} d Rfc2822DayName t r = rw (weekday-short t.weekday) refl
piece-shown {jiff_day} {day} d MonthName t r = alone _ _ (short_of full_names (t.date.month - 1))
piece-shown {jiff_day} {day} d Day t r = alone _ _ (d.same t.date.day r.day)
piece-shown {jiff_day} {day} d Year t r = alone _ _ (number-four t.date.year r.low r.high)
piece-shown {jiff_day} {day} d PlainDate t r = grind (arith, number-four, number-two)
piece-shown {jiff_day} {day} d Clock t r = grind (arith, number-two)
piece-shown {jiff_day} {day} d Rfc2822Clock t r = grind (arith, number-two)
piece-shown {jiff_day} {day} d Spaces t r = refl
piece-shown {jiff_day} {day} d LetterT t r = refl
piece-shown {jiff_day} {day} d Offset t r = alone _ _ (zone-is t.offset r.whole r.hours)
piece-shown {jiff_day} {day} d ColonOffset t r = alone _ _ (strict-zone-is t.offset r.whole r.hours)
piece-shown {jiff_day} {day} d Rfc2822Offset t r = alone _ _ (zone-is t.offset r.whole r.hours)

pieces-shown : {jiff_day day : ℕ → List ℕ} → ShowsDay jiff_day day → (ps : List Piece) (t : LocalTime) (blanks : ℕ)
    → InRange t → concat (jiff_pieces jiff_day ps (pos t.date.year) t blanks) ≡ print_pieces day ps t
pieces-shown {jiff_day} {day} d [] t blanks r = blank blanks
pieces-shown {jiff_day} {day} d (p ∷ ps) t blanks r =
    concat-append (jiff_piece jiff_day p (pos t.date.year) t) (jiff_pieces jiff_day ps (pos t.date.year) t blanks)
    ∙ ap (λ (x : List ℕ). x ++ concat (jiff_pieces jiff_day ps (pos t.date.year) t blanks)) (piece-shown d p t r)
    ∙ ap (λ (x : List ℕ). print_piece day p t ++ x) (pieces-shown d ps t blanks r)

-- what is printed is ASCII
mark : (b : ℕ) → b < 128 → (t : List ℕ) → IsAscii t → IsAscii (b ∷ t)
mark b h t a = IsAscii-cons b t h a

clock-ascii : (t : LocalTime) → InRange t
    → IsAscii (two_digits t.clock.hour ++ colon ∷ two_digits t.clock.minute ++ colon ∷ two_digits t.clock.second)
clock-ascii t r = grind (arith, ascii-two, mark)

piece-ascii : {jiff_day day : ℕ → List ℕ} → ShowsDay jiff_day day → (p : Piece) (t : LocalTime) → InRange t
    → IsAscii (print_piece day p t)
piece-ascii {jiff_day} {day} d DayName t r = ascii-weekday t.weekday
piece-ascii {jiff_day} {day} d Rfc2822DayName t r = IsAscii-append (day_name t.weekday) (comma ∷ space ∷ []) (ascii-weekday t.weekday)
    (mark comma (lit< tt) (space ∷ []) (mark space (lit< tt) [] IsAscii-nil))
piece-ascii {jiff_day} {day} d MonthName t r = name_ascii month_names (t.date.month - 1) refl
piece-ascii {jiff_day} {day} d Day t r = d.ascii t.date.day r.day
piece-ascii {jiff_day} {day} d Year t r = ascii-four t.date.year r.high
piece-ascii {jiff_day} {day} d PlainDate t r = grind (arith, ascii-four, ascii-two, mark)
piece-ascii {jiff_day} {day} d Clock t r = clock-ascii t r
piece-ascii {jiff_day} {day} d Rfc2822Clock t r = clock-ascii t r
piece-ascii {jiff_day} {day} d Spaces t r = mark space (lit< tt) [] IsAscii-nil
piece-ascii {jiff_day} {day} d LetterT t r = mark letter_t (lit< tt) [] IsAscii-nil
piece-ascii {jiff_day} {day} d Offset t r = ascii-zone t.offset r.hours
piece-ascii {jiff_day} {day} d ColonOffset t r = ascii-strict-zone t.offset r.hours
piece-ascii {jiff_day} {day} d Rfc2822Offset t r = ascii-zone t.offset r.hours

pieces-ascii : {jiff_day day : ℕ → List ℕ} → ShowsDay jiff_day day → (ps : List Piece) (t : LocalTime) → InRange t
    → IsAscii (print_pieces day ps t)
pieces-ascii {jiff_day} {day} d [] t r = IsAscii-nil
pieces-ascii {jiff_day} {day} d (p ∷ ps) t r =
    IsAscii-append (print_piece day p t) (print_pieces day ps t) (piece-ascii d p t r) (pieces-ascii d ps t r)

-- by the pattern jiff shows these pieces
abbrev pub ShowsPieces : List ℕ → (ℕ → List ℕ) → List Piece → ℕ → Type 0
ShowsPieces pattern jiff_day ps blanks =
    (z : PlainZoned) (abbreviation : List ℕ) (name : Option (List ℕ)) (date : Result Date Error) (iso : Result ISOWeekDate Error)
    (second : Result ℤ Error)
    → nat_lt z.datetime.date.month 1 ≡ false → nat_lt 12 z.datetime.date.month ≡ false
    → show_format strict_config pattern (context (filled_parts z abbreviation name) date iso second)
    ≡ Ok (joined_text [] (jiff_pieces jiff_day ps z.datetime.date.year (local_time z) blanks))

shown : List ℕ → Shown
shown text = Ok text

always : (pattern : List ℕ) {jiff_day day : ℕ → List ℕ} → ShowsDay jiff_day day → (ps : List Piece) (blanks : ℕ)
    → ShowsPieces pattern jiff_day ps blanks → (z : PlainZoned) → ShowsFourDigitFields z
    → AlwaysShows pattern z (print_pieces day ps (local_time z))
unfolding shown
always pattern {jiff_day} {day} d ps blanks shows z o abbreviation name date iso second =
    let in_year = z.datetime.date in
    let low : nat_lt in_year.month 1 ≡ false = grind (arith, in_year.month_in) in
    let high : nat_lt 12 in_year.month ≡ false = grind (arith, in_year.month_in) in
    let t = local_time z in
    shows z abbreviation name date iso second low high
    ∙ ap (λ (v : ℤ). shown (joined_text [] (jiff_pieces jiff_day ps v t blanks)))
    (o.year_is ∙ ap pos (sym (ap (λ (v : ℤ). unsigned_abs v) o.year_is)))
    ∙ ap shown (joined_text-is [] (jiff_pieces jiff_day ps (pos t.date.year) t blanks) ∙ pieces-shown d ps t blanks (in-range z o))

-- whatever is shown of a zoned value with four-digit fields is this text, and that is shown
pub record IsTextOf (pattern : List ℕ) (text : LocalTime → List ℕ) : Type 0 where
  pub only : ShowsText pattern text
  pub always : AlwaysShowsText pattern text

by-pieces : (pattern : List ℕ) {jiff_day day : ℕ → List ℕ} → ShowsDay jiff_day day → (ps : List Piece) (blanks : ℕ)
    → ShowsPieces pattern jiff_day ps blanks → IsTextOf pattern (λ t. print_pieces day ps t)
by-pieces pattern {jiff_day} {day} d ps blanks shows = search (rules, shown, always, shows-text, pieces-ascii, in-range)

-- by each of the seven patterns
pub record AreTexts : Type 0 where
  pub short : IsTextOf short_pattern short_text
  pub rfc2822 : IsTextOf rfc2822_pattern rfc2822_text
  pub git_rfc2822 : IsTextOf git_rfc2822_pattern git_rfc2822_text
  pub iso8601 : IsTextOf iso8601_pattern iso8601_text
  pub iso8601_strict : IsTextOf iso8601_strict_pattern iso8601_strict_text
  pub gitoxide : IsTextOf gitoxide_pattern gitoxide_text
  pub default : IsTextOf default_pattern default_text

pub formats_printed : AreTexts
unfolding show_steps directive_text text_of read_flag colon_rest fold_digits
formats_printed = record {
  short = by-pieces short_pattern two-shown short_layout 3 (λ z abbreviation name date iso second low high. refl);
  rfc2822 = by-pieces rfc2822_pattern two-shown rfc2822_layout 8 (λ z abbreviation name date iso second low high. rw (low, high) refl);
  git_rfc2822 =
      by-pieces git_rfc2822_pattern bare-shown rfc2822_layout 9 (λ z abbreviation name date iso second low high. rw (low, high) refl);
  iso8601 = by-pieces iso8601_pattern two-shown iso8601_layout 7 (λ z abbreviation name date iso second low high. refl);
  iso8601_strict =
      by-pieces iso8601_strict_pattern two-shown iso8601_strict_layout 8 (λ z abbreviation name date iso second low high. refl);
  gitoxide = by-pieces gitoxide_pattern two-shown gitoxide_layout 8 (λ z abbreviation name date iso second low high. rw (low, high) refl);
  default = by-pieces default_pattern bare-shown default_layout 9 (λ z abbreviation name date iso second low high. rw (low, high) refl);
}

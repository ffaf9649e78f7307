-- What usual letters and marks show, one by one.
use Rattle.std.proofs.Common.{◌≡◌, ◌∙◌, ◌-◌, ◌<◌, ◌≤◌, ℕ, suc, zero, ℤ, pos, Bool, true, false, List, []}
use Rattle.std.proofs.Common.{◌∷◌, ◌++◌, length, take, drop, get_or}
use Rattle.std.proofs.Common.{refl, ap, sym, arith, unsigned_abs, Ok, append_assoc, append-nil, length-drop}
use Rattle.std.proofs.Math.Seq.{take-length}
use Rattle.std.proofs.lemmas.Bool.Decides.{nat_tests}
use Rattle.std.proofs.lemmas.Fmt.{decimal_digit}
use Rattle.std.proofs.lemmas.Int.{ints}
use Rattle.std.specs.Prelude.{nat_lt, int_le, int_lt, if◌then◌else◌, ◌==◌}
use Rattle.jiff.specs.Types.{PlainZoned}
use Rattle.jiff_core.specs.Date.{weekday_of}
use Rattle.jiff_strtime.specs.Directive.{plain, read_flag, colon_rest}
use Rattle.jiff_strtime.specs.Number.{fold_digits}
use Rattle.jiff_strtime.specs.Show.{Context, int_text, padded, show_format, show_steps, items_from, directive_text, text_of}
use Rattle.jiff_strtime.specs.Show.{offset_text, weekday_name, short, two_text}
use Rattle.jiff_strtime.specs.Text.{month_names as full_names}
use Rattle.gix_date.specs.Fields.FieldTexts.{four_digits, date_text, clock_text}
use Rattle.gix_date.specs.Fields.Layout.{LocalTime}
use Rattle.gix_date.specs.Fields.Offsets.{compact_offset_text}
use Rattle.gix_date.specs.Printing.NamedTexts.{local_time, IsShownByAll, ShowsFourDigitFields}
use Rattle.gix_date.specs.Printing.Patterns.{Unseen, spaced_day, context_of, strict, ShowsLetter, ShowsFront}
use Rattle.gix_date.specs.Text.Names.{day_name, month_name}
use Rattle.gix_date.specs.Text.Numbers.{two_digits}
use Rattle.gix_date.proofs.Printing.ShownPieces.{number, number-two, number-four, in-range, weekday-short, short_of, zone-is, decimal-two}
use Rattle.gix_date.proofs.Printing.ShownTexts.{shows-always}

-- a letter by which the printer says this of a zoned value, whatever follows it
abbrev Says : ℕ → (PlainZoned → List ℕ) → Type 0
Says letter said =
    (z : PlainZoned) (u : Unseen) (fuel : ℕ) (rest old : List ℕ)
    → nat_lt z.datetime.date.month 1 ≡ false → nat_lt 12 z.datetime.date.month ≡ false
    → show_steps (suc fuel) strict (37 ∷ letter ∷ rest) (context_of z u) old ≡ show_steps fuel strict rest (context_of z u) (old ++ said z)

letter-by : (letter : ℕ) (said : PlainZoned → List ℕ) (text : LocalTime → List ℕ) → Says letter said
    → ((z : PlainZoned) → ShowsFourDigitFields z → said z ≡ text (local_time z))
    → (t : LocalTime) (l : ℕ) (old new : List ℕ) → l ≡ letter → new ≡ old ++ text t → ShowsLetter t l old new
unfolding ShowsLetter
letter-by letter said text says same t l old new el en rest z four e u fuel =
    let in_year = z.datetime.date in
    let low : nat_lt in_year.month 1 ≡ false = grind (arith, in_year.month_in) in
    let high : nat_lt 12 in_year.month ≡ false = grind (arith, in_year.month_in) in
    ap (λ (k : ℕ). show_steps (suc fuel) strict (37 ∷ k ∷ rest) (context_of z u) old) el
    ∙ says z u fuel rest old low high
    ∙ ap (λ (xs : List ℕ). show_steps fuel strict rest (context_of z u) (old ++ xs)) (same z four ∙ ap text e)
    ∙ ap (λ (xs : List ℕ). show_steps fuel strict rest (context_of z u) xs) (sym en)

-- a text with a byte is not empty
some-length : (c : ℕ) (rest : List ℕ) → (length (c ∷ rest) == 0) ≡ false
some-length c rest = grind (arith, nat_tests)

-- numbers and names as the printer says them
padded-zeros : (width n : ℕ) → padded n 48 width ≡ number width (pos n)
padded-zeros width n =
    let e : int_le (pos 0) (pos n) ≡ true = grind (arith, ints) in
    rw e refl

two-said : (n : ℕ) → n < 100 → two_text (pos n) ≡ two_digits n
two-said n h =
    let e : int_lt (pos n) (pos 0) ≡ false = grind (arith, ints) in
    rw e (padded-zeros 2 n ∙ number-two n h)

year-number : (z : PlainZoned) → ShowsFourDigitFields z → z.datetime.date.year ≡ pos (local_time z).date.year
year-number z o = o.year_is ∙ ap pos (sym (ap (λ (v : ℤ). unsigned_abs v) o.year_is))

abbrev year_said : ℤ → List ℕ
year_said y = (if int_lt y (pos 0) then 45 ∷ [] else []) ++ padded (unsigned_abs y) 48 4

year-said : (n : ℕ) → 1000 ≤ n → n ≤ 9999 → year_said (pos n) ≡ four_digits n
year-said n low high =
    let e : int_lt (pos n) (pos 0) ≡ false = grind (arith, ints) in
    rw e (padded-zeros 4 n ∙ number-four n low high)

spaced-said : (n : ℕ) → n < 100 → (b : Bool) → nat_lt n 10 ≡ b → padded n 32 2 ≡ spaced_day n
spaced-said n h true e =
    let small : n < 10 = grind (arith, nat_tests) in
    rw (decimal_digit n small, e) refl
spaced-said n h false e =
    let low : 10 ≤ n = grind (arith, nat_tests) in
    rw (decimal-two n low h, e) refl

spaced-number : (n : ℕ) → n < 100 → int_text plain 32 2 (pos n) ≡ spaced_day n
spaced-number n h =
    let e : int_le (pos 0) (pos n) ≡ true = grind (arith, ints) in
    rw e (spaced-said n h (nat_lt n 10) refl)

joined : (mark : ℕ) (a b c x y z : List ℕ) → a ≡ x → b ≡ y → c ≡ z
    → (((a ++ (mark ∷ [])) ++ b) ++ (mark ∷ [])) ++ c ≡ x ++ (mark ∷ (y ++ (mark ∷ z)))
joined mark a b c x y z ea eb ec = rw (ea, eb, ec) (simp append_assoc refl)

-- what the printer says by each usual letter
record AreSaid : Type 0 where
  year : Says 89 (λ z. number 4 z.datetime.date.year)
  month : Says 109 (λ z. number 2 (pos z.datetime.date.month))
  day : Says 100 (λ z. number 2 (pos z.datetime.date.day))
  hour : Says 72 (λ z. number 2 (pos z.datetime.time.hour))
  minute : Says 77 (λ z. number 2 (pos z.datetime.time.minute))
  second : Says 83 (λ z. number 2 (pos z.datetime.time.second))
  spaced : Says 101 (λ z. int_text plain 32 2 (pos z.datetime.date.day))
  weekday : Says 97 (λ z. short (weekday_name (weekday_of z.datetime.date)))
  name : Says 98 (λ z. short (get_or full_names (z.datetime.date.month - 1) []))
  offset : Says 122 (λ z. offset_text z.offset.seconds false true false)
  date : Says 70 (λ z. (((year_said z.datetime.date.year ++ (45 ∷ [])) ++ two_text (pos z.datetime.date.month)) ++ (45 ∷ []))
      ++ two_text (pos z.datetime.date.day))
  clock : Says 84 (λ z. (((two_text (pos z.datetime.time.hour) ++ (58 ∷ [])) ++ two_text (pos z.datetime.time.minute)) ++ (58 ∷ []))
      ++ two_text (pos z.datetime.time.second))

said : AreSaid
unfolding show_steps directive_text text_of read_flag colon_rest fold_digits items_from
said = record {
  year = λ z u fuel rest old low high. rw (some-length 37 (89 ∷ rest), some-length 89 rest) refl;
  month = λ z u fuel rest old low high. rw (some-length 37 (109 ∷ rest), some-length 109 rest) refl;
  day = λ z u fuel rest old low high. rw (some-length 37 (100 ∷ rest), some-length 100 rest) refl;
  hour = λ z u fuel rest old low high. rw (some-length 37 (72 ∷ rest), some-length 72 rest) refl;
  minute = λ z u fuel rest old low high. rw (some-length 37 (77 ∷ rest), some-length 77 rest) refl;
  second = λ z u fuel rest old low high. rw (some-length 37 (83 ∷ rest), some-length 83 rest) refl;
  spaced = λ z u fuel rest old low high. rw (some-length 37 (101 ∷ rest), some-length 101 rest) refl;
  weekday = λ z u fuel rest old low high. rw (some-length 37 (97 ∷ rest), some-length 97 rest) refl;
  name = λ z u fuel rest old low high. rw (some-length 37 (98 ∷ rest), some-length 98 rest, low, high) refl;
  offset = λ z u fuel rest old low high. rw (some-length 37 (122 ∷ rest), some-length 122 rest) refl;
  date = λ z u fuel rest old low high. rw (some-length 37 (70 ∷ rest), some-length 70 rest) refl;
  clock = λ z u fuel rest old low high. rw (some-length 37 (84 ∷ rest), some-length 84 rest) refl;
}

pub year_goes : (t : LocalTime) (l : ℕ) (old new : List ℕ) → l ≡ 89 → new ≡ old ++ four_digits t.date.year → ShowsLetter t l old new
year_goes = letter-by 89 _ (λ t. four_digits t.date.year) said.year
    (λ z o. ap (number 4) (year-number z o) ∙ number-four (local_time z).date.year (in-range z o).low (in-range z o).high)

pub month_goes : (t : LocalTime) (l : ℕ) (old new : List ℕ) → l ≡ 109 → new ≡ old ++ two_digits t.date.month → ShowsLetter t l old new
month_goes = letter-by 109 _ (λ t. two_digits t.date.month) said.month (λ z o. number-two z.datetime.date.month (in-range z o).month)

pub day_goes : (t : LocalTime) (l : ℕ) (old new : List ℕ) → l ≡ 100 → new ≡ old ++ two_digits t.date.day → ShowsLetter t l old new
day_goes = letter-by 100 _ (λ t. two_digits t.date.day) said.day (λ z o. number-two z.datetime.date.day (in-range z o).day)

pub hour_goes : (t : LocalTime) (l : ℕ) (old new : List ℕ) → l ≡ 72 → new ≡ old ++ two_digits t.clock.hour → ShowsLetter t l old new
hour_goes = letter-by 72 _ (λ t. two_digits t.clock.hour) said.hour (λ z o. number-two z.datetime.time.hour (in-range z o).hour)

pub minute_goes : (t : LocalTime) (l : ℕ) (old new : List ℕ) → l ≡ 77 → new ≡ old ++ two_digits t.clock.minute → ShowsLetter t l old new
minute_goes = letter-by 77 _ (λ t. two_digits t.clock.minute) said.minute (λ z o. number-two z.datetime.time.minute (in-range z o).minute)

pub second_goes : (t : LocalTime) (l : ℕ) (old new : List ℕ) → l ≡ 83 → new ≡ old ++ two_digits t.clock.second → ShowsLetter t l old new
second_goes = letter-by 83 _ (λ t. two_digits t.clock.second) said.second (λ z o. number-two z.datetime.time.second (in-range z o).second)

pub spaced_goes : (t : LocalTime) (l : ℕ) (old new : List ℕ) → l ≡ 101 → new ≡ old ++ spaced_day t.date.day → ShowsLetter t l old new
spaced_goes = letter-by 101 _ (λ t. spaced_day t.date.day) said.spaced (λ z o. spaced-number z.datetime.date.day (in-range z o).day)

pub weekday_goes : (t : LocalTime) (l : ℕ) (old new : List ℕ) → l ≡ 97 → new ≡ old ++ day_name t.weekday → ShowsLetter t l old new
weekday_goes = letter-by 97 _ (λ t. day_name t.weekday) said.weekday (λ z o. weekday-short (local_time z).weekday)

pub name_goes : (t : LocalTime) (l : ℕ) (old new : List ℕ) → l ≡ 98 → new ≡ old ++ month_name t.date.month → ShowsLetter t l old new
name_goes = letter-by 98 _ (λ t. month_name t.date.month) said.name (λ z o. short_of full_names (z.datetime.date.month - 1))

pub offset_goes : (t : LocalTime) (l : ℕ) (old new : List ℕ) → l ≡ 122 → new ≡ old ++ compact_offset_text t.offset → ShowsLetter t l old new
offset_goes = letter-by 122 _ (λ t. compact_offset_text t.offset) said.offset
    (λ z o. zone-is z.offset.seconds (in-range z o).whole (in-range z o).hours)

pub date_goes : (t : LocalTime) (l : ℕ) (old new : List ℕ) → l ≡ 70 → new ≡ old ++ date_text t.date → ShowsLetter t l old new
date_goes = letter-by 70 _ (λ t. date_text t.date) said.date
    (λ z o. let r = in-range z o in
    joined 45 _ _ _ _ _ _ (ap year_said (year-number z o) ∙ year-said (local_time z).date.year r.low r.high)
    (two-said z.datetime.date.month r.month) (two-said z.datetime.date.day r.day))

pub clock_goes : (t : LocalTime) (l : ℕ) (old new : List ℕ) → l ≡ 84 → new ≡ old ++ clock_text t.clock → ShowsLetter t l old new
clock_goes = letter-by 84 _ (λ t. clock_text t.clock) said.clock
    (λ z o. let r = in-range z o in
    joined 58 _ _ _ _ _ _ (two-said z.datetime.time.hour r.hour) (two-said z.datetime.time.minute r.minute)
    (two-said z.datetime.time.second r.second))

pub ruleset letters_go = (
  year_goes,
  month_goes,
  day_goes,
  hour_goes,
  minute_goes,
  second_goes,
  spaced_goes,
  weekday_goes,
  name_goes,
  offset_goes,
  date_goes,
  clock_goes,
)

-- what is left is cut off by its length
pub tail-is : (k : ℕ) (xs : List ℕ) → take (length xs - k) (drop k xs) ≡ drop k xs
tail-is k xs = ap (λ (n : ℕ). take n (drop k xs)) (sym (length-drop k xs)) ∙ take-length (drop k xs)

-- a mark first
pub mark-goes : (t : LocalTime) (pattern rest old new : List ℕ) → 0 < length pattern → (get_or pattern 0 0 ≡ 37 → ⊥)
    → get_or pattern 0 0 < 128 → rest ≡ drop 1 pattern → new ≡ old ++ (get_or pattern 0 0 ∷ []) → ShowsFront t pattern rest old new
unfolding show_steps
mark-goes t [] rest old new len bare low back is = absurd (omega (arith, len))
mark-goes t (c ∷ more) rest old new len bare low back is =
    let mark : (c == 37) ≡ false = grind (arith, nat_tests, bare) in
    let ascii : nat_lt c 128 ≡ true = grind (arith, nat_tests) in
    rw (back, is) (record {
      shorter = omega arith;
      step = λ z o e u fuel. rw (some-length c more, mark, ascii) refl;
    })

-- a letter first
pub letter-goes : (t : LocalTime) (pattern rest old new : List ℕ) → 2 ≤ length pattern → get_or pattern 0 0 ≡ 37 → rest ≡ drop 2 pattern
    → ShowsLetter t (get_or pattern 1 0) old new → ShowsFront t pattern rest old new
unfolding ShowsLetter
letter-goes t [] rest old new len first back shows = absurd (omega (arith, len))
letter-goes t (c ∷ []) rest old new len first back shows = absurd (omega (arith, len))
letter-goes t (c ∷ letter ∷ more) rest old new len first back shows = rw (first, back) (record { shorter = omega arith; step = shows more })

-- this is left of a pattern, after what was shown
pub record SoFar (t : LocalTime) (pattern rest shown : List ℕ) : Type 0 where
  pub fuel : ℕ
  pub enough : length rest ≤ fuel
  pub same : (z : PlainZoned) → ShowsFourDigitFields z → local_time z ≡ t → (u : Unseen)
      → show_format strict pattern (context_of z u) ≡ show_steps fuel strict rest (context_of z u) shown

pub so-far-all : (t : LocalTime) (pattern shown : List ℕ) → shown ≡ [] → SoFar t pattern pattern shown
so-far-all t pattern shown e = rw e (record { fuel = length pattern; enough = omega arith; same = λ z o c u. refl })

one-more : (n : ℕ) → 0 < n → (m : ℕ) × (n ≡ suc m)
one-more zero h = absurd (omega (arith, h))
one-more (suc m) h = (m, refl)

pub so-far-next : (t : LocalTime) (pattern rest further old new : List ℕ) → SoFar t pattern rest old → 0 < length rest
    → ShowsFront t rest further old new → SoFar t pattern further new
so-far-next t pattern rest further old new s h front =
    let m = one-more s.fuel (omega (arith, h, s.enough)) in
    record {
      fuel = m.0;
      enough = omega (arith, front.shorter, s.enough, m.1);
      same = λ z o c u. s.same z o c u ∙ ap (λ (n : ℕ). show_steps n strict rest (context_of z u) old) m.1 ∙ front.step z o c u m.0;
    }

ended : (fuel : ℕ) (rest shown : List ℕ) (cx : Context) → length rest ≡ 0 → show_steps fuel strict rest cx shown ≡ Ok shown
unfolding show_steps
ended fuel (c ∷ rest) shown cx h = absurd (omega (arith, h))
ended zero [] shown cx h = refl
ended (suc fuel) [] shown cx h =
    ap (λ (xs : List ℕ). show_steps fuel strict [] cx xs) (append-nil shown) ∙ ended fuel [] shown cx h

pub so-far-end : (t : LocalTime) (pattern rest shown : List ℕ) → SoFar t pattern rest shown → length rest ≡ 0 → IsShownByAll pattern t shown
so-far-end t pattern rest shown s h z o c =
    shows-always pattern z shown (λ abbreviation name date iso second.
    let u : Unseen = record { abbreviation = abbreviation; name = name; date = date; iso = iso; second = second } in
    s.same z o c u ∙ ended s.fuel rest shown (context_of z u) h)

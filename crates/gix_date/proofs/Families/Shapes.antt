-- The first family that holds a text is one of its shape's: no other family holds a text of that shape.
use Rattle.std.proofs.Common.{rules}
use Rattle.std.proofs.Common.{◌≡◌, ◌∙◌, ℕ, ℤ, Bool, true, false, cond, List, [], ◌∷◌, ◌++◌, drop, refl, ap, sym, subst, arith, Option, Some}
use Rattle.std.proofs.Common.{None, is_some, inl, inr, ◌⊎◌, IsUtf8}
use Rattle.std.proofs.lemmas.Bool.{and_parts as both}
use Rattle.std.proofs.lemmas.Bool.Decides.{nat_tests}
use Rattle.std.specs.Char.{is_ascii_digit, is_ascii_alphabetic}
use Rattle.std.specs.Prelude.{◌==◌, ◌&&◌, ◌||◌, if◌then◌else◌}
use Rattle.std.specs.Int.Signed.{le_z}
use Rattle.gix_date.specs.Families.Answer.{Absolute}
use Rattle.gix_date.specs.Text.Characters.{at_sign, comma, minus, dot, space, is_space, letter_t}
use Rattle.gix_date.specs.Families.Order.{AtText, Short, Rfc2822, Iso8601, Iso8601Strict, Gitoxide, Default, BareEpoch, GitForm}
use Rattle.gix_date.specs.Families.Order.{RelativeText, RawText, first_family_by}
use Rattle.gix_date.specs.Fields.DateFields.{read_name, read_plain_date, skip_day_name, skip_weekday}
use Rattle.gix_date.specs.Fields.FieldTexts.{IsField, IsYear, AreSpaces, IsMonthName}
use Rattle.gix_date.specs.Text.Front.{skip_char}
use Rattle.gix_date.specs.Text.Numbers.{int_value, read_field}
use Rattle.gix_date.specs.Families.Patterns.{rfc2822_answer, gitoxide_answer, default_answer}
use Rattle.gix_date.specs.Families.Epoch.{at_time, epoch_time, min_bare_epoch, utc_time}
use Rattle.gix_date.specs.Git.Forms.{git_time}
use Rattle.gix_date.specs.Families.Raw.{OffsetRule, raw_time_by}
use Rattle.gix_date.specs.Families.Shapes.{are_two_digits, are_four_digits, begins_with_at, begins_with_letter, begins_with_year}
use Rattle.gix_date.specs.Families.Shapes.{begins_with_dashed_day, begins_with_dotted_day, begins_with_compact_day, begins_with_count}
use Rattle.gix_date.specs.Families.Shapes.{letter_shape, shape_of, shape_families, first_among, IsDispatched, row_families, IsInItsRow}
use Rattle.gix_date.specs.declared.parsing.shape.Shape.TheVariants.{AtSign, Rfc2822Day, NamedDay, Word, WholeNumber}
use Rattle.gix_date.proofs.Families.Apart.{NoPlainDate, NoDayFirst, no-day, no-field, no-rfc2822-first, no-rfc2822-year, no-plain}
use Rattle.gix_date.proofs.Families.Apart.{no-spaces, no_weekday, no-year, digit-no-minus, no-epoch}
use Rattle.gix_date.proofs.Families.Disjoint.{GitFront, year-front, compact-year, raw-words, int-first, no-git, letter_visible}
use Rattle.gix_date.proofs.Families.Disjoint.{number-no-front}
use Rattle.gix_date.proofs.Families.Exclusive.{rfc2822-begins, git-no-day}
use Rattle.gix_date.proofs.Fields.FieldsRead.{Begins, BeginsNot, begins-append, digit-no-letter, letter-no-digit}
use Rattle.gix_date.proofs.Text.FirstWords.{is_visible}
use Rattle.gix_date.proofs.Text.FirstBytes.{no-raw-front, no-raw-byte, no-git-byte, no-plain-by, plain-front, plain-year}
use Rattle.gix_date.proofs.Fast.FastHeaders.{AreNumberBytes, is_number_byte, int-number, one-word, int-no-byte, letter-no-number}
use Rattle.gix_date.proofs.Relative.QuietDates.{quiet-int}
use Rattle.gix_date.proofs.Relative.QuietWords.{no-relative}
use Rattle.gix_date.proofs.Fields.FieldsTaken.{none-unless}

-- Which families do not hold a text, by each test of its front that it fails.
no-at : (rule : OffsetRule) (text : List ℕ) → begins_with_at text ≡ false → at_time rule text ≡ None
unfolding at_time begins_with_at skip_char
no-at rule [] h = refl
no-at rule (c ∷ rest) h = rw h refl

no-names : (text : List ℕ) → begins_with_letter text ≡ false → NoDayFirst text
unfolding begins_with_letter
no-names [] h = no-day [] (no_weekday [] tt)
no-names (c ∷ rest) h = no-day (c ∷ rest) (no_weekday (c ∷ rest) h)

letter-so : (text : List ℕ) → Begins is_ascii_alphabetic text → begins_with_letter text ≡ true
unfolding begins_with_letter
letter-so [] h = absurd h
letter-so (c ∷ rest) h = h

year-so : (year rest : List ℕ) (n : ℕ) → IsYear year n → begins_with_year (year ++ (minus ∷ rest)) ≡ true
unfolding begins_with_year
year-so (a ∷ b ∷ c ∷ d ∷ []) rest n y = rw (y.0, y.1, y.2, y.3) refl
year-so year rest n y = absurd y

no-dates : (text : List ℕ) → begins_with_year text ≡ false → NoPlainDate text
no-dates text h = no-plain-by text (none-unless (read_plain_date text) (λ found e. (
    let p = plain-year text found e in
    let no : true ≡ false = sym (ap begins_with_year p.whole ∙ year-so p.year p.rest p.number p.is_year) ∙ h in
    cc
    )))

-- A text is no number, no Git text and no raw text if its first byte is visible, and neither a digit nor a sign.
record NoNumber (rule : OffsetRule) (text : List ℕ) : Type 0 where
  pub epoch : epoch_time text ≡ None
  pub git : git_time text ≡ None
  pub raw : raw_time_by rule text ≡ None

no-number : (rule : OffsetRule) (c : ℕ) (rest : List ℕ) → IsUtf8 (c ∷ rest) → is_visible c ≡ true → is_number_byte c ≡ false
    → is_ascii_digit c ≡ false
    → NoNumber rule (c ∷ rest)
no-number rule c rest u v n d = grind (arith, no-epoch, none-unless, int-no-byte, no-git-byte, no-raw-byte)

at-dispatched : (rule : OffsetRule) (text : List ℕ) → IsUtf8 text → begins_with_at text ≡ true
    → first_family_by rule text ≡ first_among rule (shape_families AtSign) text
unfolding begins_with_at first_family_by
at-dispatched rule [] u h = absurd cc
at-dispatched rule (c ∷ rest) u h = grind (arith, nat_tests, no-plain, no-year, no-day, no_weekday, no-number, no-rfc2822-first)

-- A text that begins with a letter: its fourth byte decides which dates it can be.
weekday-or : (text : List ℕ) → (skip_weekday text ≡ None) ⊎ (skip_weekday text ≡ Some (drop 3 text))
unfolding skip_weekday read_name
weekday-or (a ∷ b ∷ c ∷ rest) = grind (arith)
weekday-or text = inl refl

no-comma : (text : List ℕ) → read_field text ≡ None → skip_char comma (drop 3 text) ≡ None → rfc2822_answer text ≡ None
unfolding rfc2822_answer skip_day_name
no-comma text f h = elim (weekday-or text) [ inl w ↦ rw (w, f) refl | inr w ↦ rw (w, h, f) refl ]

no-space : (text : List ℕ) → BeginsNot is_space (drop 3 text) → NoDayFirst text
unfolding gitoxide_answer default_answer
no-space text h = grind (arith, no-spaces, weekday-or, no-day)

record Lettered (rule : OffsetRule) (text : List ℕ) : Type 0 where
  pub at : at_time rule text ≡ None
  pub dates : NoPlainDate text
  pub field : read_field text ≡ None
  pub number : NoNumber rule text

lettered : (rule : OffsetRule) (text : List ℕ) → IsUtf8 text → begins_with_at text ≡ false → begins_with_letter text ≡ true
    → Lettered rule text
unfolding begins_with_letter
lettered rule [] u n h = absurd cc
lettered rule (c ∷ rest) u n h =
    search (rules, letter-no-digit, no-at, no-plain, no-year, no-field, no-number, letter_visible, letter-no-number)

rfc2822-dispatched : (rule : OffsetRule) (text : List ℕ) → Lettered rule text → BeginsNot is_space (drop 3 text)
    → first_family_by rule text ≡ first_among rule (shape_families Rfc2822Day) text
unfolding first_family_by
rfc2822-dispatched rule text l h = grind (arith, no-space)

named-dispatched : (rule : OffsetRule) (text : List ℕ) → Lettered rule text → skip_char comma (drop 3 text) ≡ None
    → first_family_by rule text ≡ first_among rule (shape_families NamedDay) text
unfolding first_family_by
named-dispatched rule text l h = grind (arith, no-comma)

word-dispatched : (rule : OffsetRule) (text : List ℕ) → Lettered rule text → skip_char comma (drop 3 text) ≡ None
    → BeginsNot is_space (drop 3 text)
    → first_family_by rule text ≡ first_among rule (shape_families Word) text
unfolding first_family_by
word-dispatched rule text l h k = grind (arith, no-space, no-comma)

letter-dispatched : (rule : OffsetRule) (text : List ℕ) → Lettered rule text
    → first_family_by rule text ≡ first_among rule (shape_families (letter_shape text)) text
unfolding letter_shape skip_char
letter-dispatched rule (a ∷ b ∷ c ∷ d ∷ rest) l = grind (arith, rfc2822-dispatched, nat_tests, named-dispatched, word-dispatched)
letter-dispatched rule text l = word-dispatched rule text l refl tt

-- A text that begins with a year is no mail date, number or raw text if a visible byte ends its first digits.
record AfterYear (rule : OffsetRule) (text : List ℕ) : Type 0 where
  pub rfc2822 : rfc2822_answer text ≡ None
  pub epoch : epoch_time text ≡ None
  pub raw : raw_time_by rule text ≡ None

int-no-front : (text : List ℕ) (n : ℤ) → int_value text ≡ Some n → GitFront text → ⊥
int-no-front text n e g = number-no-front text text (int-first text n e) g refl

after-year : (rule : OffsetRule) (year rest : List ℕ) (n : ℕ) → IsYear year n → GitFront (year ++ rest) → AfterYear rule (year ++ rest)
after-year rule year rest n y g = grind (arith, no-rfc2822-year, no-epoch, none-unless, int-no-front, no-raw-front)

four-are : (a b c d : ℕ) → are_four_digits a b c d ≡ true
    → (is_ascii_digit a ≡ true) × (is_ascii_digit b ≡ true) × (is_ascii_digit c ≡ true) × (is_ascii_digit d ≡ true)
four-are a b c d h = grind (arith, both)

after-mark : (rule : OffsetRule) (a b c d mark : ℕ) (rest : List ℕ) → are_four_digits a b c d ≡ true → is_visible mark ≡ true
    → is_ascii_digit mark ≡ false
    → AfterYear rule (a ∷ b ∷ c ∷ d ∷ mark ∷ rest)
after-mark rule a b c d mark rest h v n =
    let k = four-are a b c d h in
    let year = a ∷ b ∷ c ∷ d ∷ [] in
    let y : IsYear year _ = (k.0, k.1, k.2, k.3, refl) in
    after-year rule year (mark ∷ rest) _ y (year-front year _ mark rest y v n)

is-visible : (c mark : ℕ) → (c == mark) ≡ true → is_visible mark ≡ true → is_visible c ≡ true
is-visible c mark h v = let same : c ≡ mark = grind (arith, nat_tests, h) in ap is_visible same ∙ v

is-no-digit : (c mark : ℕ) → (c == mark) ≡ true → is_ascii_digit mark ≡ false → is_ascii_digit c ≡ false
is-no-digit c mark h n = let same : c ≡ mark = grind (arith, nat_tests, h) in ap is_ascii_digit same ∙ n

dashed-after : (rule : OffsetRule) (text : List ℕ) → begins_with_year text ≡ true → AfterYear rule text
unfolding begins_with_year
dashed-after rule (a ∷ b ∷ c ∷ d ∷ mark ∷ rest) h =
    let front = both (are_four_digits a b c d) (mark == minus) h in
    after-mark rule a b c d mark rest front.0 (is-visible mark minus front.1 refl) (is-no-digit mark minus front.1 refl)
dashed-after rule text h = absurd cc

-- A day that begins a text, by its first byte and by whether `-` stands after the year.
record DayFirst (year : Bool) (text : List ℕ) : Type 0 where
  pub letter : begins_with_letter text ≡ false
  pub marked : begins_with_year text ≡ year

day-first : (a b c d mark : ℕ) (rest : List ℕ) (year : Bool) → are_four_digits a b c d ≡ true → (mark == minus) ≡ year
    → DayFirst year (a ∷ b ∷ c ∷ d ∷ mark ∷ rest)
unfolding begins_with_letter begins_with_year
day-first a b c d mark rest year h m = record { letter = digit-no-letter a (four-are a b c d h).0; marked = rw (h, m) refl }

-- a day in one of Git's own forms, but for the flexible one
record DayOfGit (rule : OffsetRule) (text : List ℕ) : Type 0 where
  pub after : AfterYear rule text
  pub first : DayFirst false text

dotted-day : (rule : OffsetRule) (text : List ℕ) → begins_with_dotted_day text ≡ true → DayOfGit rule text
unfolding begins_with_dotted_day
dotted-day rule (a ∷ b ∷ c ∷ d ∷ mark ∷ e ∷ f ∷ second ∷ rest) h =
    let all = both (are_four_digits a b c d && mark == dot && are_two_digits e f) (second == dot) h in
    let some = both (are_four_digits a b c d && mark == dot) (are_two_digits e f) all.0 in
    let front = both (are_four_digits a b c d) (mark == dot) some.0 in
    record {
      after = after-mark rule a b c d mark (e ∷ f ∷ second ∷ rest) front.0 (is-visible mark dot front.1 refl)
          (is-no-digit mark dot front.1 refl);
      first = day-first a b c d mark (e ∷ f ∷ second ∷ rest) false front.0 (grind (arith, nat_tests, front.1));
    }
dotted-day rule text h = absurd cc

compact-day : (rule : OffsetRule) (text : List ℕ) → begins_with_compact_day text ≡ true → DayOfGit rule text
unfolding begins_with_compact_day
compact-day rule (a ∷ b ∷ c ∷ d ∷ m0 ∷ m1 ∷ d0 ∷ d1 ∷ mark ∷ rest) h =
    let all = both (are_four_digits a b c d && are_four_digits m0 m1 d0 d1) (mark == letter_t) h in
    let front = both (are_four_digits a b c d) (are_four_digits m0 m1 d0 d1) all.0 in
    let k = four-are a b c d front.0 in
    let more = four-are m0 m1 d0 d1 front.1 in
    let year = a ∷ b ∷ c ∷ d ∷ [] in
    let y : IsYear year _ = (k.0, k.1, k.2, k.3, refl) in
    record {
      after = after-year rule year (m0 ∷ m1 ∷ d0 ∷ d1 ∷ mark ∷ rest) _ y
          (compact-year year _ m0 m1 d0 d1 mark rest y more.0 more.1 more.2 more.3 (is-visible mark letter_t all.1 refl)
          (is-no-digit mark letter_t all.1 refl));
      first = day-first a b c d m0 (m1 ∷ d0 ∷ d1 ∷ mark ∷ rest) false front.0 (digit-no-minus m0 more.0);
    }
compact-day rule text h = absurd cc

git-day : (rule : OffsetRule) (text : List ℕ) → (begins_with_dotted_day text || begins_with_compact_day text) ≡ true → DayOfGit rule text
git-day rule text h = by (begins_with_dotted_day text) refl h
  where
    by : (b : Bool) → begins_with_dotted_day text ≡ b → (b || begins_with_compact_day text) ≡ true → DayOfGit rule text
    by true e h = dotted-day rule text e
    by false e h = compact-day rule text h

-- A text with a space in it is no number.
gap-in : (front rest : List ℕ) (c : ℕ) → AreNumberBytes (front ++ (c ∷ rest)) → is_number_byte c ≡ true
gap-in [] rest c h = h.0
gap-in (d ∷ front) rest c h = gap-in front rest c h.1

space-no-number : (c : ℕ) → is_space c ≡ true → is_number_byte c ≡ false
space-no-number c h = grind (arith, nat_tests, h)

int-no-gap : (front gap rest : List ℕ) (n : ℤ) → AreSpaces gap → int_value (front ++ (gap ++ rest)) ≡ Some n → ⊥
int-no-gap front [] rest n s e = absurd s
int-no-gap front (g ∷ gap) rest n s e = grind (arith, int-number, gap-in, space-no-number)

pub int-no-raw : (rule : OffsetRule) (text : List ℕ) (n : ℤ) → int_value text ≡ Some n → raw_time_by rule text ≡ None
int-no-raw rule text n i = none-unless (raw_time_by rule text) (λ t e. (
    let r = raw-words rule text t e in
    let no : r.front ∷ r.zone ∷ [] ≡ text ∷ [] = sym r.is ∙ one-word text (int-number text n i) in
    cc
    ))

-- A text that begins with a count and a space is no Git text and no number. A mail date begins so, or with a letter.
record CountFirst (text : List ℕ) : Type 0 where
  pub git : git_time text ≡ None
  pub int : int_value text ≡ None

count-by : (count gap rest : List ℕ) (n : ℕ) → IsUtf8 (count ++ (gap ++ rest)) → IsField count n → AreSpaces gap
    → CountFirst (count ++ (gap ++ rest))
count-by count gap rest n u f s = grind (arith, none-unless, git-no-day, int-no-gap)

count-first : (text : List ℕ) → IsUtf8 text → begins_with_count text ≡ true → CountFirst text
unfolding begins_with_count
count-first (a ∷ b ∷ c ∷ rest) u h =
    let front = both (is_ascii_digit a) (b == space || is_ascii_digit b && c == space) h in
    by (b == space) refl front.0 front.1
  where
    by : (s : Bool) → (b == space) ≡ s → is_ascii_digit a ≡ true → (s || is_ascii_digit b && c == space) ≡ true
        → CountFirst (a ∷ b ∷ c ∷ rest)
    by true g d k = count-by (a ∷ []) (b ∷ []) (c ∷ rest) _ u (d, refl) (g, refl)
    by false g d k = let two = both (is_ascii_digit b) (c == space) k in
        count-by (a ∷ b ∷ []) (c ∷ []) rest _ u (d, two.0, refl) (two.1, refl)
count-first text u h = absurd cc

count-so : (day gap month rest : List ℕ) (n m : ℕ) → IsField day n → AreSpaces gap → IsMonthName month m
    → begins_with_count (day ++ (gap ++ (month ++ rest))) ≡ true
unfolding begins_with_count
count-so [] gap month rest n m f s k = absurd f
count-so day [] month rest n m f s k = absurd s
count-so day gap [] rest n m f s k = absurd k.0
count-so (a ∷ []) (g ∷ []) (l ∷ month) rest n m f s k = rw (f.0, s.0) refl
count-so (a ∷ []) (g ∷ h ∷ gap) (l ∷ month) rest n m f s k = rw (f.0, s.0) refl
count-so (a ∷ b ∷ []) (g ∷ gap) (l ∷ month) rest n m f s k = grind (arith)
count-so (a ∷ b ∷ c ∷ day) gap month rest n m f s k = absurd f

no-rfc2822 : (text : List ℕ) → begins_with_letter text ≡ false → begins_with_count text ≡ false → rfc2822_answer text ≡ None
no-rfc2822 text l c = grind (arith, none-unless, rfc2822-begins, letter-so, begins-append, count-so)

-- A number alone is a bare epoch, or no family holds it.
no-count : (text : List ℕ) (n : ℤ) → IsUtf8 text → int_value text ≡ Some n → (b : Bool) → begins_with_count text ≡ b → b ≡ false
no-count text n u e true h = let no : None ≡ Some n = sym (count-first text u h).int ∙ e in absurd cc
no-count text n u e false h = refl

number-no-at : (text : List ℕ) → AreNumberBytes text → begins_with_at text ≡ false
unfolding begins_with_at
number-no-at [] h = refl
number-no-at (c ∷ rest) h = grind (arith, nat_tests, h.0)

number-no-letter : (text : List ℕ) → AreNumberBytes text → begins_with_letter text ≡ false
unfolding begins_with_letter
number-no-letter [] h = refl
number-no-letter (c ∷ rest) h = grind (arith, nat_tests, h.0)

int-dispatched : (rule : OffsetRule) (text : List ℕ) (n : ℤ) → IsUtf8 text → int_value text ≡ Some n
    → first_family_by rule text ≡ first_among rule (shape_families WholeNumber) text
unfolding first_family_by
int-dispatched rule text n u e =
    let k = int-number text n e in
    let bytes = subst AreNumberBytes (sym k.whole) k.bytes in
    let letter = number-no-letter text bytes in
    let names = no-names text letter in
    let rfc2822 = no-rfc2822 text letter (no-count text n u e (begins_with_count text) refl) in
    let dates = no-plain-by text (none-unless (read_plain_date text) (λ found h. int-no-front text n e (plain-front text found h))) in
    let git : git_time text ≡ None = none-unless (git_time text) (λ t h. no-git text u (int-first text n e) t h) in
    rw (
      no-at rule text (number-no-at text bytes),
      dates.short,
      rfc2822,
      dates.iso8601,
      dates.strict,
      names.gitoxide,
      names.default,
      git,
      no-relative text u (quiet-int text n e),
      int-no-raw rule text n e,
    ) refl

-- Each shape, by the tests of `shape_of` in their order.
pub is_dispatched : (rule : OffsetRule) (text : List ℕ) → IsUtf8 text → IsDispatched rule text
unfolding shape_of first_family_by
is_dispatched rule text u = grind (
  arith,
  at-dispatched,
  letter-dispatched,
  lettered,
  no-names,
  dashed-after,
  no-at,
  no-dates,
  git-day,
  count-first,
  no-epoch,
  int-dispatched,
  no-rfc2822,
)

-- The seven rows, by their tests.
dashed-first : (text : List ℕ) → begins_with_dashed_day text ≡ true → DayFirst true text
unfolding begins_with_dashed_day
dashed-first (a ∷ b ∷ c ∷ d ∷ mark ∷ e ∷ f ∷ second ∷ rest) h =
    let all = both (are_four_digits a b c d && mark == minus && are_two_digits e f) (second == minus) h in
    let some = both (are_four_digits a b c d && mark == minus) (are_two_digits e f) all.0 in
    let front = both (are_four_digits a b c d) (mark == minus) some.0 in
    day-first a b c d mark (e ∷ f ∷ second ∷ rest) true front.0 front.1
dashed-first text h = absurd cc

-- which families do not hold a text of Git's days
git-day-row : (rule : OffsetRule) (text : List ℕ) → begins_with_at text ≡ false → DayOfGit rule text
    → first_family_by rule text ≡ first_among rule (GitForm ∷ RelativeText ∷ []) text
unfolding first_family_by
git-day-row rule text ea day = grind (arith, no-names, no-dates, no-at)

pub is_in_its_row : (rule : OffsetRule) (text : List ℕ) → IsUtf8 text → IsInItsRow rule text
unfolding row_families first_family_by
is_in_its_row rule text u =
    by (begins_with_at text) (int_value text) (begins_with_dashed_day text) (begins_with_dotted_day text) (begins_with_compact_day text)
    (begins_with_letter text) refl refl refl refl refl refl
  where
    by : (a : Bool) (i : Option ℤ) (s d k l : Bool) → begins_with_at text ≡ a → int_value text ≡ i → begins_with_dashed_day text ≡ s
        → begins_with_dotted_day text ≡ d → begins_with_compact_day text ≡ k → begins_with_letter text ≡ l
        → first_family_by rule text
        ≡ first_among rule (cond a (AtText ∷ RelativeText ∷ []) (cond (is_some i) (BareEpoch ∷ [])
        (cond s (Short ∷ Iso8601 ∷ Iso8601Strict ∷ GitForm ∷ RelativeText ∷ []) (cond d (GitForm ∷ RelativeText ∷ [])
        (cond k (GitForm ∷ RelativeText ∷ []) (cond l (Rfc2822 ∷ Gitoxide ∷ Default ∷ RelativeText ∷ [])
        (Short ∷ Rfc2822 ∷ Iso8601 ∷ Iso8601Strict ∷ GitForm ∷ RelativeText ∷ RawText ∷ []))))))) text
    by true i s d k l ea ei es ed ek el = at-dispatched rule text u ea
    by false (Some n) s d k l ea ei es ed ek el = int-dispatched rule text n u ei
    by false None true d k l ea ei es ed ek el =
        let day = dashed-first text es in
        let names = no-names text day.letter in
        let after = dashed-after rule text day.marked in
        rw (no-at rule text ea, after.rfc2822, names.gitoxide, names.default, after.epoch, after.raw) refl
    by false None false true k l ea ei es ed ek el = git-day-row rule text ea (dotted-day rule text ed)
    by false None false false true l ea ei es ed ek el = git-day-row rule text ea (compact-day rule text ek)
    by false None false false false true ea ei es ed ek el =
        let l = lettered rule text u ea el in
        rw (l.at, l.dates.short, l.dates.iso8601, l.dates.strict, l.number.epoch, l.number.git, l.number.raw) refl
    by false None false false false false ea ei es ed ek el =
        let names = no-names text el in
        rw (no-at rule text ea, names.gitoxide, names.default, no-epoch text ei) refl

pub number-first : (rule : OffsetRule) (text : List ℕ) (n : ℤ) → IsUtf8 text → int_value text ≡ Some n
    → first_family_by rule text ≡ (if le_z min_bare_epoch n then Some (Absolute (utc_time n)) else None)
unfolding epoch_time
number-first rule text n u e = grind (arith, int-dispatched)

-- the time of an at text that is a number after its `@`
pub at_int : (rule : OffsetRule) (text rest : List ℕ) (n : ℤ) → skip_char at_sign text ≡ Some rest → int_value rest ≡ Some n
    → at_time rule text ≡ Some (utc_time n)
unfolding at_time
at_int rule text rest n s e = rw (s, int-no-raw rule rest n e, e) refl

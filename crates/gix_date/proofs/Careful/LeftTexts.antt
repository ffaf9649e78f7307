-- What is left of a text where a form stops is its end, so that the text may be cut there.
use Rattle.std.proofs.Common.{arith, ◌≡◌, ◌∙◌, ℕ, ℤ, Bool, true, false, cond, List, [], ◌∷◌, ◌++◌, length, refl, ap, sym, subst, append-nil}
use Rattle.std.proofs.Common.{append_assoc, Option, Some, None, option_map, inl, inr, take-append-drop}
use Rattle.std.proofs.lemmas.Option.{same_Some as some-is, cond_some as guard}
use Rattle.std.specs.Char.{is_ascii_digit}
use Rattle.std.specs.List.{prefix_len}
use Rattle.std.specs.Prelude.{drop, take, is_some, unwrap_or}
use Rattle.gix_date.specs.Careful.Fronts.{Part, left_by, perhaps, taken_by, skip_number, skip_marked, skip_day, skip_clock, skip_named_day}
use Rattle.gix_date.specs.Careful.Fronts.{skip_offset, skip_git_day, skip_bare_fraction, skip_git_clock, git_parts, iso8601_parts}
use Rattle.gix_date.specs.Careful.Fronts.{strict_parts, rfc2822_parts, gitoxide_parts, default_parts, IsRestOf}
use Rattle.gix_date.specs.Careful.Grammar.{AreSomeDigits}
use Rattle.gix_date.specs.Fields.Civil.{is_date, is_clock}
use Rattle.gix_date.specs.Fields.DateFields.{skip_spaces, skip_weekday, skip_day_name, read_month, read_plain_date, read_clock}
use Rattle.gix_date.specs.Fields.DateFields.{read_rfc2822_clock}
use Rattle.gix_date.specs.Text.Front.{ReadFront, skip_char, ◌>>=◌}
use Rattle.gix_date.specs.Git.Forms.{git_front}
use Rattle.gix_date.specs.Text.Characters.{colon, dot}
use Rattle.gix_date.specs.Text.Numbers.{read_two_digits, read_field, read_year}
use Rattle.gix_date.proofs.Fields.FieldsTaken.{went, first-or, front-passes, after-taken, field-taken, two-taken, year-taken, spaces-taken}
use Rattle.gix_date.proofs.Fields.FieldsTaken.{month-taken, weekday-taken, prefix-taken, date-taken, clock-taken, rfc2822-clock-taken}
use Rattle.gix_date.proofs.Git.Fronts.{front-taken}

-- what `IsRestOf` says
abbrev EndsIn : List ℕ → List ℕ → Type 0
EndsIn text rest = (front : List ℕ) × (text ≡ front ++ rest)

abbrev IsPart : Part → Type 0
IsPart part = (text rest : List ℕ) → part text ≡ Some rest → EndsIn text rest

abbrev AreParts : List Part → Type 0
AreParts [] = Unit {0}
AreParts (part ∷ parts) = IsPart part × AreParts parts

through : (a b c : List ℕ) → EndsIn a b → EndsIn b c → EndsIn a c
through a b c f g = (f.0 ++ g.0, f.1 ∙ ap (λ (t : List ℕ). f.0 ++ t) g.1 ∙ sym (append_assoc f.0 g.0 c))

turned : (a b c : List ℕ) → b ≡ c → EndsIn a b → EndsIn a c
turned a b c e h = subst (EndsIn a) e h

left-is : (parts : List Part) (whole rest : List ℕ) → AreParts parts → EndsIn whole rest → EndsIn whole (left_by parts whole rest)
left-is [] whole [] h r = ([], refl)
left-is [] whole (c ∷ rest) h r = r
left-is (part ∷ parts) whole rest h r = by (λ next k. left-is parts whole next h.1 k) (part rest) refl
  where
    by : ((next : List ℕ) → EndsIn whole next → EndsIn whole (left_by parts whole next)) → (o : Option (List ℕ)) → part rest ≡ o
        → EndsIn whole (unwrap_or (option_map (left_by parts whole) o) rest)
    by more None e = r
    by more (Some next) e = more next (through whole rest next r (h.0 rest next e))

-- the same of parts that begin anywhere, and may take all
left-all : (parts : List Part) (text : List ℕ) → AreParts parts → EndsIn text (left_by parts [] text)
left-all [] [] h = ([], refl)
left-all [] (c ∷ text) h = ([], refl)
left-all (part ∷ parts) text h = by (λ next. left-all parts next h.1) (part text) refl
  where
    by : ((next : List ℕ) → EndsIn next (left_by parts [] next)) → (o : Option (List ℕ)) → part text ≡ o
        → EndsIn text (unwrap_or (option_map (left_by parts []) o) text)
    by more None e = ([], refl)
    by more (Some next) e = through text next (left_by parts [] next) (h.0 text next e) (more next)

perhaps-is : (part : Part) → IsPart part → IsPart (perhaps part)
perhaps-is part h text rest e = grind (arith, turned, some-is)

taken-is : {A : Type 0} (read : List ℕ → ReadFront A)
    → ((text : List ℕ) (value : A) (rest : List ℕ) → read text ≡ Some (value, rest) → EndsIn text rest) → IsPart (taken_by read)
taken-is {A} read h text rest e = by (read text) refl e
  where
    by : (o : Option (A × List ℕ)) → read text ≡ o → option_map (λ (f : A × List ℕ). f.1) o ≡ Some rest → EndsIn text rest
    by None f e = absurd cc
    by (Some (value, next)) f e = turned text next rest (some-is next rest e) (h text value next f)

offset-is : (offset : List ℕ → Option ℤ) → IsPart (skip_offset offset)
offset-is offset text rest e = by (is_some (offset text)) e
  where
    by : (b : Bool) → cond b (Some []) None ≡ Some rest → EndsIn text rest
    by true e = turned text [] rest (some-is [] rest e) (text, sym (append-nil text))
    by false e = absurd cc

spaces-is : IsPart skip_spaces
spaces-is text rest e = let h = spaces-taken text rest e in (h.text, h.whole)

char-is : (mark : ℕ) → IsPart (skip_char mark)
char-is mark text rest e = (mark ∷ [], after-taken mark text rest e)

month-is : IsPart (taken_by read_month)
month-is = taken-is read_month (λ text value rest e. let h = month-taken text value rest e in (h.text, h.whole))

year-is : IsPart (taken_by read_year)
year-is = taken-is read_year (λ text value rest e. let h = year-taken text value rest e in (h.text, h.whole))

field-is : IsPart (taken_by read_field)
field-is = taken-is read_field (λ text value rest e. let h = field-taken text value rest e in (h.text, h.whole))

rfc2822-clock-is : IsPart (taken_by read_rfc2822_clock)
rfc2822-clock-is = taken-is read_rfc2822_clock (λ text value rest e. let h = rfc2822-clock-taken text value rest e in (h.text, h.whole))

prefix-is : IsPart skip_day_name
prefix-is text rest e = let h = prefix-taken text rest e in (h.text, h.whole)

-- a part that is read and passes a test
tested-is : {A : Type 0} (read : List ℕ → ReadFront A) (test : A → Bool)
    → ((text : List ℕ) (value : A) (rest : List ℕ) → read text ≡ Some (value, rest) → EndsIn text rest)
    → IsPart (λ text. read text >>= λ (d : A × List ℕ). cond (test d.0) (Some d.1) None)
tested-is {A} read test h text rest e =
    let d = went (read text) (λ (d : A × List ℕ). cond (test d.0) (Some d.1) None) rest e in
    turned text d.0.1 rest (guard (test d.0.0) d.0.1 rest d.2).1 (h text d.0.0 d.0.1 d.1)

day_is_named : IsPart skip_day
unfolding skip_day
day_is_named = tested-is read_plain_date is_date (λ text value rest e. let h = date-taken text value rest e in (h.text, h.whole))

clock-is : IsPart skip_clock
unfolding skip_clock
clock-is = tested-is read_clock is_clock (λ text value rest e. let h = clock-taken text value rest e in (h.text, h.whole))

git-day-is : IsPart skip_git_day
unfolding skip_git_day
git-day-is = tested-is git_front is_date
    (λ text value rest e. let h = front-taken text value rest e in (h.day ++ h.gap, h.whole ∙ sym (append_assoc h.day h.gap rest)))

named-day-is : IsPart skip_named_day
unfolding skip_named_day
named-day-is text rest e =
    let d = went (skip_weekday text) skip_spaces rest e in
    let h = weekday-taken text d.0 d.1 in
    through text d.0 rest (h.name, h.whole) (spaces-is d.0 rest d.2)

-- a number at the front is a run of digits
number-taken : (text rest : List ℕ) → skip_number text ≡ Some rest → (run : List ℕ) × (text ≡ run ++ rest) × AreSomeDigits run
unfolding skip_number
number-taken [] rest e = absurd cc
number-taken (c ∷ t) rest e =
    let n = prefix_len is_ascii_digit t in
    let g = guard (is_ascii_digit c) (drop n t) rest e in (
      c ∷ take n t,
      ap (λ xs. c ∷ xs) (sym (take-append-drop n t) ∙ ap (λ xs. take n t ++ xs) g.1),
      rw (g.0, front-passes is_ascii_digit t) refl,
    )

-- the same after a mark
marked-taken : (mark : ℕ) (text rest : List ℕ) → skip_marked mark text ≡ Some rest
    → (run : List ℕ) × (text ≡ mark ∷ (run ++ rest)) × AreSomeDigits run
unfolding skip_marked
marked-taken mark text rest e = grind (arith, went, number-taken, after-taken)

-- six digits and a fraction
abbrev IsBare : List ℕ → List ℕ → Type 0
IsBare text rest =
    (six : List ℕ) × (fraction : List ℕ) × (text ≡ six ++ dot ∷ (fraction ++ rest)) × (length six ≡ 6) × AreSomeDigits six
    × AreSomeDigits fraction

bare-taken : (text rest : List ℕ) → skip_bare_fraction text ≡ Some rest → IsBare text rest
unfolding skip_bare_fraction
bare-taken text rest e =
    let h = went (read_two_digits text) (λ (h : ℕ × List ℕ). read_two_digits h.1 >>= λ m. read_two_digits m.1 >>= λ s. skip_marked dot s.1)
    rest e in
    let m = went (read_two_digits h.0.1) (λ (m : ℕ × List ℕ). read_two_digits m.1 >>= λ s. skip_marked dot s.1) rest h.2 in
    let s = went (read_two_digits m.0.1) (λ (s : ℕ × List ℕ). skip_marked dot s.1) rest m.2 in
    let a = two-taken text h.0.0 h.0.1 h.1 in
    let b = two-taken h.0.1 m.0.0 m.0.1 m.1 in
    let c = two-taken m.0.1 s.0.0 s.0.1 s.1 in
    let f = marked-taken dot s.0.1 rest s.2 in (
      a.tens ∷ a.ones ∷ b.tens ∷ b.ones ∷ c.tens ∷ c.ones ∷ [],
      f.0,
      a.whole ∙ ap (λ t. a.tens ∷ a.ones ∷ t) (b.whole ∙ ap (λ t. b.tens ∷ b.ones ∷ t) (c.whole ∙ ap (λ t. c.tens ∷ c.ones ∷ t) f.1)),
      refl,
      rw (a.is_tens, a.is_ones, b.is_tens, b.is_ones, c.is_tens, c.is_ones) refl,
      f.2,
    )

number-is : IsPart skip_number
number-is text rest e = let h = number-taken text rest e in (h.0, h.1)

marked-is : (mark : ℕ) → IsPart (skip_marked mark)
marked-is mark text rest e = let h = marked-taken mark text rest e in (mark ∷ h.0, h.1)

bare-is : IsPart skip_bare_fraction
bare-is text rest e = let h = bare-taken text rest e in (h.0 ++ dot ∷ h.1, h.2 ∙ sym (append_assoc h.0 (dot ∷ h.1) rest))

clock-parts : List Part
clock-parts = skip_marked colon ∷ skip_marked colon ∷ skip_marked dot ∷ []

git-clock-is : IsPart skip_git_clock
unfolding skip_git_clock clock-parts
git-clock-is text rest e =
    elim (first-or (skip_bare_fraction text) (option_map (left_by clock-parts []) (skip_number text)) rest e) [
      | inl h ↦ bare-is text rest h
      | inr h ↦ by (skip_number text) refl h
    ]
  where
    by : (o : Option (List ℕ)) → skip_number text ≡ o → option_map (left_by clock-parts []) o ≡ Some rest → EndsIn text rest
    by None f e = absurd cc
    by (Some next) f e =
        turned text (left_by clock-parts [] next) rest (some-is (left_by clock-parts [] next) rest e)
        (through text next (left_by clock-parts [] next) (number-is text next f)
        (left-all clock-parts next (marked-is colon, (marked-is colon, (marked-is dot, tt)))))

-- What is left where each form stops.

pub git_left : (text rest : List ℕ) → rest ≡ left_by git_parts text text → IsRestOf text rest
unfolding IsRestOf
git_left text rest e = turned text _ rest (sym e) (left-is git_parts text text (
  perhaps-is skip_spaces spaces-is,
  (git-day-is, (perhaps-is skip_spaces spaces-is, (git-clock-is, (perhaps-is skip_spaces spaces-is, (offset-is _, tt))))),
) ([], refl))

pub iso8601_left : (text rest : List ℕ) → rest ≡ left_by iso8601_parts text text → IsRestOf text rest
unfolding IsRestOf
iso8601_left text rest e = turned text _ rest (sym e)
    (left-is iso8601_parts text text (day_is_named, (spaces-is, (clock-is, (spaces-is, (offset-is _, tt))))) ([], refl))

pub strict_left : (text rest : List ℕ) → rest ≡ left_by strict_parts text text → IsRestOf text rest
unfolding IsRestOf
strict_left text rest e =
    turned text _ rest (sym e) (left-is strict_parts text text (day_is_named, (char-is _, (clock-is, (offset-is _, tt)))) ([], refl))

pub rfc2822_left : (text rest : List ℕ) → rest ≡ left_by rfc2822_parts text text → IsRestOf text rest
unfolding IsRestOf
rfc2822_left text rest e = turned text _ rest (sym e) (left-is rfc2822_parts text text (
  perhaps-is skip_day_name prefix-is,
  (field-is, (spaces-is, (month-is, (spaces-is, (year-is, (spaces-is, (rfc2822-clock-is, (spaces-is, (offset-is _, tt))))))))),
) (
  [],
  refl,
))

pub gitoxide_left : (text rest : List ℕ) → rest ≡ left_by gitoxide_parts text text → IsRestOf text rest
unfolding IsRestOf
gitoxide_left text rest e = turned text _ rest (sym e) (left-is gitoxide_parts text text
    (named-day-is, (month-is, (spaces-is, (field-is, (spaces-is, (year-is, (spaces-is, (clock-is, (spaces-is, (offset-is _, tt))))))))))
    ([], refl))

pub default_left : (text rest : List ℕ) → rest ≡ left_by default_parts text text → IsRestOf text rest
unfolding IsRestOf
default_left text rest e = turned text _ rest (sym e) (left-is default_parts text text
    (named-day-is, (month-is, (spaces-is, (field-is, (spaces-is, (clock-is, (spaces-is, (year-is, (spaces-is, (offset-is _, tt))))))))))
    ([], refl))

-- Which families hold texts of one another.
use Rattle.std.proofs.Common.{rules}
use Rattle.std.proofs.Common.{◌≡◌, ◌≢◌, ◌∙◌, ◌<◌, ◌≤◌, ℕ, ℤ, true, false, List, [], ◌∷◌, ◌++◌, length, filter, get_or, refl, ap, sym, subst}
use Rattle.std.proofs.Common.{arith, append-nil, append_assoc, map, encode_utf8_all, Some, None, Option, is_some, option_map, inl, inr, ◌⊎◌}
use Rattle.std.proofs.Common.{IsUtf8, zero, suc}
use Rattle.std.proofs.lemmas.Bool.{cases_order, and_parts as both}
use Rattle.std.proofs.lemmas.Bool.Decides.{nat_tests}
use Rattle.std.proofs.lemmas.Str.{IsUtf8-drop, IsCharBoundary-after_ascii, IsUtf8-from_ascii, chars-append, chars-IsAscii, encodes-IsAscii}
use Rattle.std.specs.Char.{is_ascii_digit, is_ascii_alphabetic, is_whitespace, is_not_whitespace}
use Rattle.std.specs.List.{list_all}
use Rattle.std.specs.Option.{option_or}
use Rattle.std.specs.Prelude.{◌==◌, nat_lt}
use Rattle.std.specs.Str.{trim, trim_start, trim_end, all_ascii_digits, chars, NonePass, skip_leading_whitespace, drop_trailing_whitespace}
use Rattle.gix_date.specs.Fields.FieldTexts.{IsSign, IsYear, IsField, IsMonthName, IsDayPrefix, AreSpaces}
use Rattle.gix_date.specs.Families.Answer.{FamilyAnswer, Absolute, Relative}
use Rattle.gix_date.specs.Text.Characters.{at_sign, comma, minus, space, is_space}
use Rattle.gix_date.specs.Families.Epoch.{at_time, epoch_time, utc_time}
use Rattle.gix_date.specs.Families.Order.{Family, AtText, Short, Rfc2822, Iso8601, Iso8601Strict, Gitoxide, Default, BareEpoch, GitForm}
use Rattle.gix_date.specs.Families.Order.{RelativeText, RawText, families, family_answer, answers_before_git, first_family_by}
use Rattle.gix_date.specs.Families.Laws.{AreExclusive, Holds, overlap}
use Rattle.gix_date.specs.Text.Front.{skip_char}
use Rattle.gix_date.specs.Git.Forms.{git_time, git_form, git_front, dotted_front, compact_front, flexible_front, read_marked_date}
use Rattle.gix_date.specs.Git.Forms.{read_compact_date}
use Rattle.gix_date.specs.Text.Numbers.{int_value}
use Rattle.gix_date.specs.Families.Patterns.{short_answer, rfc2822_answer, iso8601_answer, gitoxide_answer, default_answer, short_layout}
use Rattle.gix_date.specs.Families.Patterns.{iso8601_layout, gitoxide_layout, default_layout}
use Rattle.gix_date.specs.Fields.DateFields.{skip_weekday}
use Rattle.gix_date.specs.Families.Raw.{OffsetRule, raw_time_by}
use Rattle.gix_date.specs.Relative.Dates.{relative_date, RelativeDate}
use Rattle.gix_date.specs.Text.SpaceWords.{space_words, runs}
use Rattle.gix_date.specs.Fields.Layout.{LocalTime, DayName, BeginsWith}
use Rattle.gix_date.specs.declared.time.Time.{Time}
use Rattle.gix_date.proofs.Families.Apart.{at-first, before-git-apart, NoPlainDate, NoDayFirst, no-day, no_pair, no_pair_of, pair_read}
use Rattle.gix_date.proofs.Families.Apart.{one-no-pair}
use Rattle.gix_date.proofs.Text.AsciiCuts.{ascii-by, space_is_ascii}
use Rattle.gix_date.proofs.Families.Disjoint.{are_disjoint, raw-words, quiet-raw, epoch-int, git-front, front-digits, letter_visible}
use Rattle.gix_date.proofs.Families.Disjoint.{digit_visible}
use Rattle.gix_date.proofs.Fields.FieldsRead.{Begins, name-begins, letter-no-digit, year-read}
use Rattle.gix_date.proofs.Fields.FieldsTaken.{went, after-taken, weekday-taken, none-unless, same-first}
use Rattle.gix_date.proofs.Text.FirstWords.{AreVisible, visible_stays, are-ascii, first-begins, trimmed-words}
use Rattle.gix_date.proofs.Fields.Layouts.{Rfc2822Front, rfc2822-front, dates_spelled}
use Rattle.gix_date.proofs.Relative.QuietWords.{IsQuiet, no-relative}
use Rattle.gix_date.proofs.Relative.QuietDates.{quiet-after, quiet-dated, quiet-rfc2822, quiet-strict, quiet-int, field-digits, year-digits}
use Rattle.gix_date.proofs.Printing.ReadBack.{first-at, some-counts}
use Rattle.gix_date.proofs.Text.FirstBytes.{no-git-byte, no-raw-front, no-raw-byte, plain-front, no-plain-by}
use Rattle.gix_date.proofs.Fast.FastHeaders.{offset-taken, letter-no-number}
use Rattle.gix_date.proofs.Text.WordSteps.{runs_skip, run_first, stops}

-- Texts that begin with a letter, or with visible bytes alone.
git-no-letter : (name rest : List ℕ) → IsUtf8 (name ++ rest) → Begins is_ascii_alphabetic name
    → git_time (name ++ rest) ≡ None
git-no-letter [] rest u h = absurd h
git-no-letter (c ∷ name) rest u h = no-git-byte c (name ++ rest) u (letter_visible c h) (letter-no-digit c h)

pub skip-visible : (x : List ℕ) → AreVisible x → skip_leading_whitespace x ≡ x
skip-visible [] h = refl
skip-visible (c ∷ x) h = rw (visible_stays c h.0) refl

pub drop-visible : (x : List ℕ) → AreVisible x → drop_trailing_whitespace x ≡ x
drop-visible [] h = refl
drop-visible (c ∷ x) h = rw (visible_stays c h.0) (ap (λ (t : List ℕ). c ∷ t) (drop-visible x h.1))

pub trim-visible : (x : List ℕ) → AreVisible x → trim x ≡ x
unfolding trim_start trim_end
trim-visible x h = grind (arith, are-ascii, chars-IsAscii, skip-visible, encodes-IsAscii, drop-visible)

-- a word of visible bytes, spaces, and what stands after them
pub space-white : (c : ℕ) → is_space c ≡ true → is_whitespace c ≡ true
space-white c h = let is : c ≡ space = grind (arith, nat_tests, h) in rw is refl

none-stay : (gap : List ℕ) → list_all is_space gap ≡ true → NonePass is_not_whitespace gap
none-stay [] h = tt
none-stay (c ∷ gap) h = let p = both (is_space c) (list_all is_space gap) h in (rw (space-white c p.0) refl, none-stay gap p.1)

none-white : (t : List ℕ) → AreVisible t → NonePass is_whitespace t
none-white [] h = tt
none-white (c ∷ t) h = (visible_stays c h.0, none-white t h.1)

word-then : (x : ℕ) (xs : List ℕ) (g : ℕ) (gap rest : List ℕ) → AreVisible (x ∷ xs) → AreSpaces (g ∷ gap)
    → space_words ((x ∷ xs) ++ ((g ∷ gap) ++ rest)) ≡ (x ∷ xs) ∷ space_words rest
unfolding space_words
word-then x xs g gap rest v s =
    let word = x ∷ xs in
    let spaces = g ∷ gap in
    let all : list_all is_space spaces ≡ true = rw (s.0, s.1) refl in
    let a = are-ascii word v in
    let b = ascii-by is_space space_is_ascii spaces all in
    let read_word : chars (word ++ (spaces ++ rest)) ≡ word ++ chars (spaces ++ rest) =
    chars-append word (spaces ++ rest) (IsUtf8-from_ascii word a)
    ∙ ap (λ (t : List ℕ). t ++ chars (spaces ++ rest)) (chars-IsAscii word a) in
    let read_gap : chars (spaces ++ rest) ≡ spaces ++ chars rest =
    chars-append spaces rest (IsUtf8-from_ascii spaces b)
    ∙ ap (λ (t : List ℕ). t ++ chars rest) (chars-IsAscii spaces b) in
    let cut : runs (word ++ (spaces ++ chars rest)) ≡ word ∷ runs (chars rest) =
    run_first x xs (spaces ++ chars rest) (none-white word v) (stops g (gap ++ chars rest) (space-white g s.0))
    ∙ ap (λ (rs : List (List ℕ)). word ∷ rs) (runs_skip spaces (chars rest) (none-stay spaces all)) in
    ap (λ (cs : List ℕ). map encode_utf8_all (runs cs)) (read_word ∙ ap (λ (t : List ℕ). word ++ t) read_gap)
    ∙ ap (map encode_utf8_all) cut
    ∙ ap (λ (t : List ℕ). t ∷ map encode_utf8_all (runs (chars rest))) (encodes-IsAscii word a)

-- a raw text is none of the formatted dates, nor an at text
raw-clash : (rule : OffsetRule) (text : List ℕ) (t : Time) → raw_time_by rule text ≡ Some t
    → raw_time_by rule text ≡ None → ⊥
raw-clash rule text t e h = let clash : None ≡ Some t = sym h ∙ e in cc

raw-no-letter : (rule : OffsetRule) (name rest : List ℕ) (t : Time) → Begins is_ascii_alphabetic name
    → raw_time_by rule (name ++ rest) ≡ Some t → ⊥
raw-no-letter rule [] rest t h e = absurd h
raw-no-letter rule (c ∷ name) rest t h e = grind (arith, raw-clash, no-raw-byte, letter_visible, letter-no-number)

pub field-visible : (day : List ℕ) (n : ℕ) → IsField day n → AreVisible day
field-visible [] n h = tt
field-visible (a ∷ []) n h = (digit_visible a h.0, tt)
field-visible (a ∷ b ∷ []) n h = (digit_visible a h.0, (digit_visible b h.1, tt))
field-visible (a ∷ b ∷ c ∷ t) n h = absurd h

mark-no-letter : (c : ℕ) (s : _) → IsSign c s → is_ascii_alphabetic c ≡ false
mark-no-letter c s (inl p) = rw p.0 refl
mark-no-letter c s (inr p) = rw p.0 refl

two-same : (a b c d : List ℕ) (ws : List (List ℕ)) → a ∷ b ∷ [] ≡ c ∷ d ∷ ws → b ≡ d
two-same a b c d ws e = cc

raw-no-day : (rule : OffsetRule) (day gap month rest : List ℕ) (n m : ℕ) (t : Time) → IsField day n → AreSpaces gap
    → IsMonthName month m → raw_time_by rule (day ++ (gap ++ (month ++ rest))) ≡ Some t → ⊥
raw-no-day rule [] gap month rest n m t h s k e = absurd h
raw-no-day rule day [] month rest n m t h s k e = absurd s
raw-no-day rule day gap [] rest n m t h s k e = absurd k.0
raw-no-day rule (c ∷ day) (g ∷ gap) (l ∷ month) rest n m t h s k e =
    let r = raw-words rule ((c ∷ day) ++ ((g ∷ gap) ++ ((l ∷ month) ++ rest))) t e in
    let letter = name-begins (l ∷ month) k.0 in
    let b = first-begins l [] (month ++ rest) (letter_visible l letter, tt) in
    let words : r.front ∷ r.zone ∷ [] ≡ (c ∷ day) ∷ (l ∷ b.rest) ∷ b.words =
    sym r.is ∙ word-then c day g gap ((l ∷ month) ++ rest) (field-visible (c ∷ day) n h) s
    ∙ ap (λ (ws : List (List ℕ)). (c ∷ day) ∷ ws) b.is in
    let o = offset-taken r.zone r.fields r.is_fields in
    let same : l ∷ b.rest ≡ o.mark ∷ (o.h0 ∷ o.h1 ∷ o.m0 ∷ o.m1 ∷ o.last) =
    sym (two-same r.front r.zone (c ∷ day) (l ∷ b.rest) b.words words) ∙ o.whole in
    let first : l ≡ o.mark = same-first l o.mark b.rest _ same in
    let clash : true ≡ false =
    sym letter ∙ ap is_ascii_alphabetic first ∙ mark-no-letter o.mark r.fields.sign o.is_mark in
    cc

-- a mail date begins with a letter, or with a day and a month
abbrev pub BeginsMail : List ℕ → Type 0
BeginsMail text =
    ((name : List ℕ) × (rest : List ℕ) × (text ≡ name ++ rest) × Begins is_ascii_alphabetic name)
    ⊎ ((h : Rfc2822Front text) × (text ≡ h.day ++ (h.gap ++ (h.month ++ h.rest))))

pub rfc2822-begins : (text : List ℕ) (answer : FamilyAnswer) → rfc2822_answer text ≡ Some answer → BeginsMail text
rfc2822-begins text answer a = let h = rfc2822-front text answer a in by h h.is_prefix
  where
    by : (h : Rfc2822Front text) → (h.prefix ≡ []) ⊎ IsDayPrefix h.prefix → BeginsMail text
    by h (inl none) = inr (h, h.whole ∙ ap (λ (p : List ℕ). p ++ (h.day ++ (h.gap ++ (h.month ++ h.rest)))) none)
    by h (inr named) =
        let more = h.day ++ (h.gap ++ (h.month ++ h.rest)) in
        inl (
          named.name,
          comma ∷ (named.gap ++ more),
          h.whole ∙ ap (λ (p : List ℕ). p ++ more) named.whole
              ∙ append_assoc named.name (comma ∷ named.gap) more,
          name-begins named.name named.is_name.0,
        )

raw-no-rfc2822 : (rule : OffsetRule) (text : List ℕ) (t : Time) → raw_time_by rule text ≡ Some t
    → rfc2822_answer text ≡ None
raw-no-rfc2822 rule text t e = grind (arith, none-unless, rfc2822-begins, raw-no-letter, raw-no-day)

-- A day alone is no Git text: nothing stands after its day.
abbrev day_text : List ℕ → List ℕ → List ℕ → List ℕ
day_text year month day = year ++ (minus ∷ (month ++ (minus ∷ day)))

day-no-form : (year month day : List ℕ) (n m d : ℕ) → IsYear year n → IsField month m → IsField day d
    → git_form (day_text year month day) ≡ None
unfolding git_form git_front dotted_front compact_front flexible_front read_marked_date read_compact_date skip_char
day-no-form year (a ∷ []) day n m d y h k = grind (arith, year-read, no_pair, no_pair_of)
day-no-form year (a ∷ b ∷ []) [] n m d y h k = absurd k
day-no-form year (a ∷ b ∷ []) (c ∷ []) n m d y h k = grind (arith, year-read, no_pair, pair_read, one-no-pair)
day-no-form year (a ∷ b ∷ []) (c ∷ e ∷ []) n m d y h k = grind (arith, year-read, no_pair, pair_read)
day-no-form year (a ∷ b ∷ []) (c ∷ e ∷ f ∷ t) n m d y h k = absurd k
day-no-form year month day n m d y h k = absurd h

pub digits-visible : (t : List ℕ) → all_ascii_digits t ≡ true → AreVisible t
digits-visible [] h = tt
digits-visible (c ∷ t) h = let parts = both (is_ascii_digit c) (all_ascii_digits t) h in (digit_visible c parts.0, digits-visible t parts.1)

pub visible-append : (s t : List ℕ) → AreVisible s → AreVisible t → AreVisible (s ++ t)
visible-append [] t h k = k
visible-append (c ∷ s) t h k = (h.0, visible-append s t h.1 k)

short-no-git : (text : List ℕ) (answer : FamilyAnswer) → short_answer text ≡ Some answer → git_time text ≡ None
unfolding git_time
short-no-git text answer e =
    let a = (dates_spelled.short text answer).0 e in
    let h = a.are.is in
    let split : text ≡ day_text h.year h.month h.day =
    a.are.whole ∙ ap (λ (r : List ℕ). a.are.front ++ r) a.are.more ∙ append-nil a.are.front ∙ h.whole
    ∙ append_assoc h.year (minus ∷ h.month) (minus ∷ h.day) in
    let visible : AreVisible (day_text h.year h.month h.day) =
    visible-append h.year (minus ∷ (h.month ++ (minus ∷ h.day))) (digits-visible h.year (year-digits h.year a.time.date.year h.is_year)) (
      refl,
      visible-append h.month (minus ∷ h.day) (field-visible h.month a.time.date.month h.is_month)
          (refl, field-visible h.day a.time.date.day h.is_day),
    ) in
    ap git_time split ∙ ap git_form (trim-visible (day_text h.year h.month h.day) visible)
    ∙ day-no-form h.year h.month h.day a.time.date.year a.time.date.month a.time.date.day h.is_year h.is_month h.is_day

-- A mail date is no Git text: its first word is a day of the month, or begins with a letter.
pub git-no-day : (day gap rest : List ℕ) (n : ℕ) (t : Time) → IsUtf8 (day ++ (gap ++ rest)) → IsField day n → AreSpaces gap
    → git_time (day ++ (gap ++ rest)) ≡ Some t → ⊥
unfolding git_time
git-no-day [] gap rest n t u h s e = absurd h
git-no-day (c ∷ day) [] rest n t u h s e = absurd s
git-no-day (c ∷ day) (g ∷ gap) rest n t u h s e =
    let text = (c ∷ day) ++ ((g ∷ gap) ++ rest) in
    let f = git-front (trim text) t e in
    let b = first-begins f.first f.more f.rest f.visible in
    let same : c ∷ day ≡ f.first ∷ (f.more ++ b.rest) =
    same-first (c ∷ day) (f.first ∷ (f.more ++ b.rest)) (space_words rest) b.words
    (sym (word-then c day g gap rest (field-visible (c ∷ day) n h) s) ∙ sym (trimmed-words text u) ∙ ap space_words f.whole ∙ b.is) in
    let digits = front-digits (f.first ∷ f.more) b.rest (ap all_ascii_digits (sym same) ∙ field-digits (c ∷ day) n h) in
    let clash : true ≡ false = sym digits ∙ f.mixed in
    cc

pub rfc2822-no-git : (text : List ℕ) (answer : FamilyAnswer) → IsUtf8 text → rfc2822_answer text ≡ Some answer
    → git_time text ≡ None
rfc2822-no-git text answer u a = grind (arith, rfc2822-begins, git-no-letter, none-unless, git-no-day)

-- A relative text is of no other family but Git's own forms: the texts of the others are quiet.
quiet-rest : (rule : OffsetRule) (rest : List ℕ) (t : Time) (raw : Option Time) (int : Option ℤ) → IsUtf8 rest
    → raw_time_by rule rest ≡ raw → int_value rest ≡ int → option_or raw (option_map utc_time int) ≡ Some t
    → IsQuiet rest
quiet-rest rule rest t (Some v) int u e f h = quiet-raw rule rest v u e
quiet-rest rule rest t None (Some n) u e f h = quiet-int rest n f
quiet-rest rule rest t None None u e f h = absurd cc

after-utf8 : (rest : List ℕ) → IsUtf8 (at_sign ∷ rest) → IsUtf8 rest
after-utf8 rest u =
    IsUtf8-drop (at_sign ∷ rest) 1 u (IsCharBoundary-after_ascii (at_sign ∷ rest) 0 u (omega arith) (omega arith))

quiet-at : (rule : OffsetRule) (text : List ℕ) (t : Time) → IsUtf8 text → at_time rule text ≡ Some t → IsQuiet text
unfolding at_time
quiet-at rule text t u e = grind (arith, went, after-taken, quiet-after, quiet-rest, after-utf8)

-- What a family answers, as a fact.
abbrev pub Answered : OffsetRule → Family → List ℕ → Type 0
Answered rule family text = (answer : FamilyAnswer) × (family_answer rule family text ≡ Some answer)

pub answered : (rule : OffsetRule) (family : Family) (text : List ℕ) → Holds rule family text
    → Answered rule family text
answered rule family text h = grind (arith)

pub absolute : (r : Option Time) → is_some (option_map Absolute r) ≡ true → (t : Time) × (r ≡ Some t)
absolute (Some t) e = (t, refl)
absolute None e = absurd cc

pub none-held : {A : Type 0} (r : Option A) → is_some r ≡ true → r ≡ None → ⊥
none-held (Some x) e n = absurd cc
none-held None e n = absurd cc

pub none-mapped : {A B : Type 0} (f : A → B) (r : Option A) → is_some (option_map f r) ≡ true → r ≡ None → ⊥
none-mapped f (Some x) e n = absurd cc
none-mapped f None e n = absurd cc

-- no quiet text is relative
pub quiet-clash : (rule : OffsetRule) (text : List ℕ) → IsUtf8 text → IsQuiet text → Holds rule RelativeText text → ⊥
quiet-clash rule text u q h = none-mapped (λ (d : RelativeDate). Relative d) (relative_date text) h (no-relative text u q)

is-quiet : (rule : OffsetRule) (family : Family) (text : List ℕ) → IsUtf8 text → family ≢ RelativeText
    → overlap family RelativeText ≡ false → Holds rule family text → IsQuiet text
is-quiet rule AtText text u n o h = let t = absolute (at_time rule text) h in quiet-at rule text t.0 u t.1
is-quiet rule Short text u n o h = let a = answered rule Short text h in quiet-dated _ _ short_layout tt dates_spelled.short text a.0 a.1
is-quiet rule Rfc2822 text u n o h = let a = answered rule Rfc2822 text h in quiet-rfc2822 text a.0 a.1
is-quiet rule Iso8601 text u n o h = let a = answered rule Iso8601 text h in
    quiet-dated _ _ iso8601_layout tt dates_spelled.iso8601 text a.0 a.1
is-quiet rule Iso8601Strict text u n o h = let a = answered rule Iso8601Strict text h in quiet-strict text a.0 a.1
is-quiet rule Gitoxide text u n o h = let a = answered rule Gitoxide text h in
    quiet-dated _ _ gitoxide_layout tt dates_spelled.gitoxide text a.0 a.1
is-quiet rule Default text u n o h = let a = answered rule Default text h in
    quiet-dated _ _ default_layout tt dates_spelled.default text a.0 a.1
is-quiet rule BareEpoch text u n o h = let t = absolute (epoch_time text) h in let i = epoch-int text t.0 t.1 in quiet-int text i.0 i.1
is-quiet rule GitForm text u n o h = absurd cc
is-quiet rule RelativeText text u n o h = absurd (n refl)
is-quiet rule RawText text u n o h = let t = absolute (raw_time_by rule text) h in quiet-raw rule text t.0 u t.1

-- Git's own forms
named-no-git : {IsMore : List ℕ → Type 0} (time : LocalTime) (text : List ℕ) → IsUtf8 text → BeginsWith DayName time IsMore text
    → git_time text ≡ None
named-no-git time text u h = ap git_time h.whole ∙ git-no-letter h.front h.rest (subst IsUtf8 h.whole u) (name-begins h.front h.is.0)

git-clash : (rule : OffsetRule) (family : Family) (text : List ℕ) → IsUtf8 text → family ≢ GitForm
    → overlap family GitForm ≡ false → Holds rule family text → git_time text ≡ None
git-clash rule AtText text u n o h = grind (arith, absolute, at-first, no-git-byte)
git-clash rule Short text u n o h = let a = answered rule Short text h in short-no-git text a.0 a.1
git-clash rule Rfc2822 text u n o h = let a = answered rule Rfc2822 text h in rfc2822-no-git text a.0 u a.1
git-clash rule Gitoxide text u n o h = let a = answered rule Gitoxide text h in let d = (dates_spelled.gitoxide text a.0).0 a.1 in
    named-no-git d.time text u d.are
git-clash rule Default text u n o h = let a = answered rule Default text h in let d = (dates_spelled.default text a.0).0 a.1 in
    named-no-git d.time text u d.are
git-clash rule BareEpoch text u n o h = let t = absolute (epoch_time text) h in (are_disjoint rule text u).epoch_git t.0 t.1
git-clash rule GitForm text u n o h = absurd (n refl)
git-clash rule RawText text u n o h = let t = absolute (raw_time_by rule text) h in (are_disjoint rule text u).raw_git t.0 t.1
git-clash rule family text u n o h = absurd cc

-- raw texts
raw-no-at : (rule : OffsetRule) (text : List ℕ) (t v : Time) → raw_time_by rule text ≡ Some t
    → at_time rule text ≡ Some v → ⊥
raw-no-at rule text t v e h = grind (arith, at-first, raw-clash, no-raw-byte)

raw-no-plain : (rule : OffsetRule) (text : List ℕ) (t : Time) → raw_time_by rule text ≡ Some t → NoPlainDate text
raw-no-plain rule text t e = search (rules, no-plain-by, none-unless, raw-clash, no-raw-front, plain-front)

raw-no-named : (rule : OffsetRule) (text : List ℕ) (t : Time) → raw_time_by rule text ≡ Some t → NoDayFirst text
raw-no-named rule text t e =
    no-day text (none-unless (skip_weekday text) (λ r h. (let w =
    weekday-taken text r h in raw-no-letter rule w.name r t (name-begins w.name w.is_name.0) (ap (raw_time_by rule) (sym w.whole) ∙ e))))

raw-alone : (rule : OffsetRule) (family : Family) (text : List ℕ) (t : Time) → IsUtf8 text → family ≢ RawText
    → raw_time_by rule text ≡ Some t → Holds rule family text → ⊥
raw-alone rule AtText text t u n e h = let v = absolute (at_time rule text) h in raw-no-at rule text t v.0 e v.1
raw-alone rule Short text t u n e h = none-held (short_answer text) h (raw-no-plain rule text t e).short
raw-alone rule Rfc2822 text t u n e h = none-held (rfc2822_answer text) h (raw-no-rfc2822 rule text t e)
raw-alone rule Iso8601 text t u n e h = none-held (iso8601_answer text) h (raw-no-plain rule text t e).iso8601
raw-alone rule Iso8601Strict text t u n e h = grind (arith, none-held, raw-no-plain)
raw-alone rule Gitoxide text t u n e h = none-held (gitoxide_answer text) h (raw-no-named rule text t e).gitoxide
raw-alone rule Default text t u n e h = none-held (default_answer text) h (raw-no-named rule text t e).default
raw-alone rule BareEpoch text t u n e h =
    none-mapped (λ (t : Time). Absolute t) (epoch_time text) h ((are_disjoint rule text u).raw_epoch t e)
raw-alone rule GitForm text t u n e h = none-mapped (λ (t : Time). Absolute t) (git_time text) h ((are_disjoint rule text u).raw_git t e)
raw-alone rule RelativeText text t u n e h = quiet-clash rule text u (quiet-raw rule text t u e) h
raw-alone rule RawText text t u n e h = absurd (n refl)

-- the families before Git's own forms, by their places
abbrev pub place : Family → ℕ
place AtText = 0
place Short = 1
place Rfc2822 = 2
place Iso8601 = 3
place Iso8601Strict = 4
place Gitoxide = 5
place Default = 6
place BareEpoch = 7
place GitForm = 8
place RelativeText = 9
place RawText = 10

abbrev family_at : ℕ → Family
family_at n = get_or families n RawText

place-back : (family : Family) → family_at (place family) ≡ family
place-back AtText = refl
place-back family = refl

two-of : (answers : List (Option FamilyAnswer)) (i j : ℕ) (x y : FamilyAnswer) → i < j → get_or answers i None ≡ Some x
    → get_or answers j None ≡ Some y → length (filter is_some answers) ≤ 1 → ⊥
two-of (a ∷ answers) i zero x y l h k m = omega (arith, l)
two-of (Some a ∷ answers) zero (suc j) x y l h k m = let more = some-counts j answers y k in omega (arith, more, m)
two-of (None ∷ answers) (suc i) (suc j) x y l h k m = two-of answers i j x y (omega (arith, l)) h k m
two-of (Some a ∷ answers) (suc i) (suc j) x y l h k m = let more = some-counts j answers y k in omega (arith, more, m)
two-of answers i j x y l h k m = absurd cc

holds-at : (rule : OffsetRule) (family : Family) (text : List ℕ) → nat_lt (place family) 8 ≡ true
    → get_or (answers_before_git rule text) (place family) None ≡ family_answer rule family text
holds-at rule GitForm text e = absurd cc
holds-at rule RelativeText text e = absurd cc
holds-at rule RawText text e = absurd cc
holds-at rule family text e = refl

early-clash : (rule : OffsetRule) (a b : Family) (text : List ℕ) → nat_lt (place a) 8 ≡ true → nat_lt (place b) 8 ≡ true
    → a ≢ b → Holds rule a text → Holds rule b text → ⊥
early-clash rule a b text e f n h k =
    let x = answered rule a text h in
    let y = answered rule b text k in
    by-order (cases_order (place a) (place b)) (holds-at rule a text e ∙ x.1) (holds-at rule b text f ∙ y.1) (before-git-apart rule text)
  where
    by-order : {x y : FamilyAnswer} → (place a ≡ place b) ⊎ ((place a < place b) ⊎ (place b < place a))
        → get_or (answers_before_git rule text) (place a) None ≡ Some x → get_or (answers_before_git rule text) (place b) None ≡ Some y
        → length (filter is_some (answers_before_git rule text)) ≤ 1 → ⊥
    by-order (inl same) first second one = n (sym (place-back a) ∙ ap family_at same ∙ place-back b)
    by-order (inr (inl less)) first second one = two-of (answers_before_git rule text) (place a) (place b) _ _ less first second one
    by-order (inr (inr more)) first second one = two-of (answers_before_git rule text) (place b) (place a) _ _ more second first one

-- `overlap` is the same both ways
flip-git : (family : Family) → overlap GitForm family ≡ overlap family GitForm
flip-git AtText = refl
flip-git family = refl

flip-relative : (family : Family) → overlap RelativeText family ≡ overlap family RelativeText
flip-relative AtText = refl
flip-relative family = refl

-- two families that do not overlap
clash : (rule : OffsetRule) (a b : Family) (text : List ℕ) → IsUtf8 text → a ≢ b → overlap a b ≡ false
    → Holds rule a text → Holds rule b text → ⊥
clash rule RawText b text u n o h k = let t = absolute (raw_time_by rule text) h in raw-alone rule b text t.0 u (λ e. n (sym e)) t.1 k
clash rule a RawText text u n o h k = let t = absolute (raw_time_by rule text) k in raw-alone rule a text t.0 u n t.1 h
clash rule RelativeText b text u n o h k =
    quiet-clash rule text u (is-quiet rule b text u (λ e. n (sym e)) (sym (flip-relative b) ∙ o) k) h
clash rule a RelativeText text u n o h k = quiet-clash rule text u (is-quiet rule a text u n o h) k
clash rule GitForm b text u n o h k =
    none-mapped (λ (t : Time). Absolute t) (git_time text) h (git-clash rule b text u (λ e. n (sym e)) (sym (flip-git b) ∙ o) k)
clash rule a GitForm text u n o h k = none-mapped (λ (t : Time). Absolute t) (git_time text) k (git-clash rule a text u n o h)
clash rule a b text u n o h k = early-clash rule a b text refl refl n h k

pub are_exclusive : (rule : OffsetRule) (text : List ℕ) → IsUtf8 text → AreExclusive rule text
are_exclusive rule text u a b n o h = grind (arith, none-unless, clash)

-- What comes first.
pub differ : (a b : Family) → (place a == place b) ≡ false → a ≢ b
differ a b e s = grind (arith, nat_tests, clash)

raw-first : (rule : OffsetRule) (text : List ℕ) → IsUtf8 text → Holds rule RawText text
    → first_family_by rule text ≡ family_answer rule RawText text
unfolding first_family_by
raw-first rule text u h =
    let none : (b : Family) → (place RawText == place b) ≡ false → overlap RawText b ≡ false
    → family_answer rule b text ≡ None = λ b d o. are_exclusive rule text u RawText b (differ RawText b d) o h in
    let a = answered rule RawText text h in
    rw (
      none AtText refl refl,
      none Short refl refl,
      none Rfc2822 refl refl,
      none Iso8601 refl refl,
      none Iso8601Strict refl refl,
      none Gitoxide refl refl,
      none Default refl refl,
      none BareEpoch refl refl,
      none GitForm refl refl,
      none RelativeText refl refl,
      a.1,
    )
    refl

pub alone-first : (rule : OffsetRule) (family : Family) (text : List ℕ) → IsUtf8 text → family ≢ GitForm
    → family ≢ RelativeText → Holds rule family text → first_family_by rule text ≡ family_answer rule family text
alone-first rule GitForm text u n m h = absurd (n refl)
alone-first rule RelativeText text u n m h = absurd (m refl)
alone-first rule RawText text u n m h = raw-first rule text u h
alone-first rule family text u n m h = let a = answered rule family text h in first-at rule (place family) text a.0 a.1 ∙ sym a.1

pub raw-first-family : (rule : OffsetRule) (text : List ℕ) (t : Time) → IsUtf8 text → raw_time_by rule text ≡ Some t
    → first_family_by rule text ≡ Some (Absolute t)
raw-first-family rule text t u e = grind (arith, raw-first)

pub epoch-first-family : (rule : OffsetRule) (text : List ℕ) (t : Time) → IsUtf8 text → epoch_time text ≡ Some t
    → first_family_by rule text ≡ Some (Absolute t)
epoch-first-family rule text t u e =
    alone-first rule BareEpoch text u (differ BareEpoch GitForm refl) (differ BareEpoch RelativeText refl)
    (ap (λ (r : Option Time). is_some (option_map Absolute r)) e)
    ∙ ap (option_map Absolute) e

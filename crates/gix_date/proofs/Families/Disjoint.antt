-- Raw texts, bare epochs and Git texts exclude one another, and the first two are not relative.
use Rattle.std.proofs.lemmas.Grind.{common_steps}
use Rattle.std.proofs.Common.{rules}
use Rattle.std.proofs.Common.{◌≡◌, ◌∙◌, ℕ, ℤ, true, false, List, [], ◌∷◌, ◌++◌, refl, ap, sym, subst, arith, Some, Option, inl, inr, IsUtf8}
use Rattle.std.proofs.lemmas.Option.{cond_some as guard, same_Some as same_some}
use Rattle.std.proofs.lemmas.Bool.{and_parts as both}
use Rattle.std.proofs.lemmas.Bool.Decides.{nat_tests}
use Rattle.std.specs.Char.{is_ascii_digit, is_ascii_alphabetic}
use Rattle.std.specs.Str.{all_ascii_digits, trim}
use Rattle.gix_date.specs.Text.Characters.{minus, dot, letter_t}
use Rattle.gix_date.specs.Families.Epoch.{epoch_time}
use Rattle.gix_date.specs.Fields.FieldTexts.{IsYear, IsDigit, IsPair}
use Rattle.gix_date.specs.Git.Forms.{git_front, git_form, git_time, time_with_rest}
use Rattle.gix_date.specs.Git.Grammar.{IsGitDate, IsGitFront}
use Rattle.gix_date.specs.Families.Laws.{AreDisjoint}
use Rattle.gix_date.specs.Text.Numbers.{int_value}
use Rattle.gix_date.specs.Fields.Offsets.{offset_fields, offset_of}
use Rattle.gix_date.specs.Families.Raw.{OffsetRule, raw_time_by, raw_offset_by}
use Rattle.gix_date.specs.Text.SpaceWords.{space_words, first_words}
use Rattle.gix_date.specs.declared.clock.DateFields.{DateFields}
use Rattle.gix_date.specs.declared.parsing.offset.OffsetFields.{OffsetFields}
use Rattle.gix_date.specs.declared.time.Time.{Time}
use Rattle.gix_date.proofs.Families.Apart.{mixed, int-digits}
use Rattle.gix_date.proofs.Fields.FieldsTaken.{time_at, went, none-unless, same-first}
use Rattle.gix_date.proofs.Git.Fronts.{front-taken, joined}
use Rattle.gix_date.proofs.Text.FirstWords.{AreVisible, is_visible, first-begins, trimmed-words}
use Rattle.gix_date.proofs.Fast.FastHeaders.{int-number, one-word}
use Rattle.gix_date.proofs.Relative.QuietWords.{IsQuiet, no-relative}
use Rattle.gix_date.proofs.Relative.QuietDates.{quiet-int, quiet-offset, quiet-two-words}

-- What a Git text begins with: a digit, and not digits alone.
pub record GitFront (text : List ℕ) : Type 0 where
  pub first : ℕ
  pub more : List ℕ
  pub rest : List ℕ
  pub whole : text ≡ (first ∷ more) ++ rest
  pub visible : AreVisible (first ∷ more)
  pub digit : is_ascii_digit first ≡ true
  pub mixed : all_ascii_digits (first ∷ more) ≡ false

pub digit_visible : (c : ℕ) → is_ascii_digit c ≡ true → is_visible c ≡ true
digit_visible c h = grind (arith, nat_tests, h)

pub year-front : (year : List ℕ) (n : ℕ) (mark : ℕ) (rest : List ℕ) → IsYear year n → is_visible mark ≡ true
    → is_ascii_digit mark ≡ false → GitFront (year ++ (mark ∷ rest))
year-front (a ∷ b ∷ c ∷ e ∷ []) n mark rest h v d =
    record {
      first = a;
      more = b ∷ c ∷ e ∷ mark ∷ [];
      rest = rest;
      whole = refl;
      visible = (digit_visible a h.0, (digit_visible b h.1, (digit_visible c h.2, (digit_visible e h.3, (v, tt)))));
      digit = h.0;
      mixed = mixed (a ∷ b ∷ c ∷ e ∷ []) mark [] d;
    }
year-front year n mark rest h v d = absurd h

pub compact-year : (year : List ℕ) (n : ℕ) (m0 m1 d0 d1 mark : ℕ) (rest : List ℕ) → IsYear year n → IsDigit m0
    → IsDigit m1 → IsDigit d0 → IsDigit d1 → is_visible mark ≡ true → is_ascii_digit mark ≡ false
    → GitFront (year ++ (m0 ∷ m1 ∷ d0 ∷ d1 ∷ mark ∷ rest))
compact-year (a ∷ b ∷ c ∷ e ∷ []) n m0 m1 d0 d1 mark rest h p q r s v d =
    record {
      first = a;
      more = b ∷ c ∷ e ∷ m0 ∷ m1 ∷ d0 ∷ d1 ∷ mark ∷ [];
      rest = rest;
      whole = refl;
      visible = (
        digit_visible a h.0,
        (
          digit_visible b h.1,
          (
            digit_visible c h.2,
            (digit_visible e h.3, (digit_visible m0 p, (digit_visible m1 q, (digit_visible d0 r, (digit_visible d1 s, (v, tt)))))),
          ),
        ),
      );
      digit = h.0;
      mixed = mixed (a ∷ b ∷ c ∷ e ∷ m0 ∷ m1 ∷ d0 ∷ d1 ∷ []) mark [] d;
    }
compact-year year n m0 m1 d0 d1 mark rest h p q r s v d = absurd h

-- two digits and two, with `T` after them
pairs-front : (year month day : List ℕ) (n m d : ℕ) (rest : List ℕ) → IsYear year n → IsPair month m → IsPair day d
    → GitFront (year ++ (month ++ (day ++ (letter_t ∷ rest))))
pairs-front year (a ∷ b ∷ []) [] n m d rest y p q = absurd q
pairs-front year (a ∷ b ∷ []) (c ∷ []) n m d rest y p q = absurd q
pairs-front year (a ∷ b ∷ []) (c ∷ e ∷ []) n m d rest y p q = compact-year year n a b c e letter_t rest y p.0 p.1 q.0 q.1 refl refl
pairs-front year (a ∷ b ∷ []) (c ∷ e ∷ f ∷ t) n m d rest y p q = absurd q
pairs-front year month day n m d rest y p q = absurd p

date-front : (mark day rest : List ℕ) (date : DateFields) (h : IsGitDate mark day date)
    → GitFront (h.year ++ (mark ++ (h.month ++ (mark ++ (h.day ++ rest))))) → GitFront (day ++ rest)
date-front mark day rest date h f = grind (arith, joined)

marked-front : (mark : ℕ) (day rest : List ℕ) (date : DateFields) → is_visible mark ≡ true → is_ascii_digit mark ≡ false
    → IsGitDate (mark ∷ []) day date → GitFront (day ++ rest)
marked-front mark day rest date v d h = grind (arith, nat_tests, common_steps, date-front, year-front)

front-begins : (day gap rest : List ℕ) (date : DateFields) → IsGitFront day gap date → GitFront (day ++ (gap ++ rest))
front-begins day gap rest date (inl h) = marked-front dot day (gap ++ rest) date refl refl h.0
front-begins day gap rest date (inr (inl h)) = grind (arith, nat_tests, common_steps, date-front, pairs-front)
front-begins day gap rest date (inr (inr h)) = marked-front minus day (gap ++ rest) date refl refl h.0

pub git-front : (x : List ℕ) (t : Time) → git_form x ≡ Some t → GitFront x
unfolding git_form
git-front x t e =
    let found = went (git_front x) (λ (f : DateFields × List ℕ). time_with_rest f.0 f.1) t e in
    let f = front-taken x found.0.0 found.0.1 found.1 in
    subst GitFront (sym f.whole) (front-begins f.day f.gap found.0.1 found.0.0 f.is)

-- A text whose first word is an int text.
pub record FirstNumber (text : List ℕ) : Type 0 where
  pub word : List ℕ
  pub words : List (List ℕ)
  pub is : space_words text ≡ word ∷ words
  pub value : ℤ
  pub is_value : int_value word ≡ Some value

pub front-digits : (a b : List ℕ) → all_ascii_digits (a ++ b) ≡ true → all_ascii_digits a ≡ true
front-digits [] b h = refl
front-digits (c ∷ a) b h =
    let parts = both (is_ascii_digit c) (all_ascii_digits (a ++ b)) h in
    rw parts.0 (front-digits a b parts.1)

-- no text with such a first word begins as a Git text does
pub number-no-front : (text other : List ℕ) → FirstNumber text → GitFront other → space_words text ≡ space_words other → ⊥
number-no-front text other f g w =
    let b = first-begins g.first g.more g.rest g.visible in
    let same : f.word ≡ g.first ∷ (g.more ++ b.rest) =
    same-first f.word (g.first ∷ (g.more ++ b.rest)) f.words b.words (sym f.is ∙ w ∙ ap space_words g.whole ∙ b.is) in
    let digits = front-digits (g.first ∷ g.more) b.rest
    (int-digits g.first (g.more ++ b.rest) f.value g.digit (ap int_value (sym same) ∙ f.is_value)) in
    let clash : true ≡ false = sym digits ∙ g.mixed in
    cc

pub no-git : (text : List ℕ) → IsUtf8 text → FirstNumber text → (t : Time) → git_time text ≡ Some t → ⊥
unfolding git_time
no-git text u f t e = number-no-front text (trim text) f (git-front (trim text) t e) (sym (trimmed-words text u))

pub letter_visible : (c : ℕ) → is_ascii_alphabetic c ≡ true → is_visible c ≡ true
letter_visible c h = grind (arith, nat_tests, h)

-- The two words of a raw text, by whatever rule for its offset, and the one of a bare epoch.
pub record RawWords (rule : OffsetRule) (text : List ℕ) (t : Time) : Type 0 where
  pub front : List ℕ
  pub zone : List ℕ
  pub is : space_words text ≡ front ∷ zone ∷ []
  pub value : ℤ
  pub is_value : int_value front ≡ Some value
  pub fields : OffsetFields
  pub is_fields : offset_fields zone ≡ Some fields
  pub allowed : rule fields ≡ true
  pub time : record { seconds = value; offset = offset_of fields } ≡ t

pub two-words-are : (ws : List (List ℕ)) (a b : List ℕ) (second : Option (List ℕ)) → first_words ws ≡ Some (a, second)
    → second ≡ Some b → ws ≡ a ∷ b ∷ []
two-words-are ws a b second e h = grind (arith, same_some)

pub raw-words : (rule : OffsetRule) (text : List ℕ) (t : Time) → raw_time_by rule text ≡ Some t → RawWords rule text t
unfolding raw_time_by raw_offset_by
raw-words rule text t e = grind (arith, went, time_at, guard, two-words-are, same_some)

pub epoch-int : (text : List ℕ) (t : Time) → epoch_time text ≡ Some t → (n : ℤ) × (int_value text ≡ Some n)
unfolding epoch_time
epoch-int text t e = let n = went (int_value text) _ t e in (n.0, n.1)

pub raw-first : (rule : OffsetRule) (text : List ℕ) (t : Time) → RawWords rule text t → FirstNumber text
raw-first rule text t r = record { word = r.front; words = r.zone ∷ []; is = r.is; value = r.value; is_value = r.is_value }

pub int-first : (text : List ℕ) (n : ℤ) → int_value text ≡ Some n → FirstNumber text
int-first text n e = search (rules, one-word, int-number)

pub raw-no-epoch : (rule : OffsetRule) (text : List ℕ) (t u : Time) → raw_time_by rule text ≡ Some t
    → epoch_time text ≡ Some u → ⊥
raw-no-epoch rule text t u e h =
    let r = raw-words rule text t e in
    let n = epoch-int text u h in
    let clash : r.front ∷ r.zone ∷ [] ≡ text ∷ [] = sym r.is ∙ one-word text (int-number text n.0 n.1) in
    cc

pub quiet-raw : (rule : OffsetRule) (text : List ℕ) (t : Time) → IsUtf8 text → raw_time_by rule text ≡ Some t
    → IsQuiet text
quiet-raw rule text t u e =
    let r = raw-words rule text t e in
    quiet-two-words text r.front r.zone u r.is (quiet-int r.front r.value r.is_value) (quiet-offset r.zone r.fields r.is_fields)

-- No text is of two of these families, and none of the first two is relative.
pub are_disjoint : (rule : OffsetRule) (text : List ℕ) → IsUtf8 text → AreDisjoint rule text
are_disjoint rule text u = record {
  raw_epoch = λ t e. none-unless (epoch_time text) (λ v h. raw-no-epoch rule text t v e h);
  raw_git = λ t e. none-unless (git_time text) (λ v h. no-git text u (raw-first rule text t (raw-words rule text t e)) v h);
  raw_relative = λ t e. no-relative text u (quiet-raw rule text t u e);
  epoch_git = λ t e. (let n = epoch-int text t e in none-unless (git_time text) (λ v h. no-git text u (int-first text n.0 n.1) v h));
  epoch_relative = λ t e. (let n = epoch-int text t e in no-relative text u (quiet-int text n.0 n.1));
}

-- Which texts are not raw, not of a Git form and no plain date, by their first bytes.
use Rattle.std.proofs.Common.{arith}
use Rattle.std.proofs.Common.{◌≡◌, ◌∙◌, ℕ, true, false, List, [], ◌∷◌, ◌++◌, refl, ap, sym, Some, None, IsUtf8}
use Rattle.std.specs.Char.{is_ascii_digit}
use Rattle.std.specs.Str.{trim}
use Rattle.gix_date.specs.Text.Characters.{minus}
use Rattle.gix_date.specs.declared.clock.DateFields.{DateFields}
use Rattle.gix_date.proofs.Fields.FieldsTaken.{went, year-taken, after-taken, date_at, none-unless, same-first}
use Rattle.gix_date.specs.Text.Front.{skip_char, ◌>>=◌}
use Rattle.gix_date.specs.Fields.FieldTexts.{IsYear}
use Rattle.gix_date.specs.Git.Forms.{git_time}
use Rattle.gix_date.specs.Text.Numbers.{int_value, read_year, read_field}
use Rattle.gix_date.specs.Fields.DateFields.{read_plain_date}
use Rattle.gix_date.specs.Families.Patterns.{short_answer, iso8601_answer, iso8601_strict_answer}
use Rattle.gix_date.specs.Families.Raw.{OffsetRule, raw_time_by}
use Rattle.gix_date.specs.Text.SpaceWords.{space_words}
use Rattle.gix_date.proofs.Families.Apart.{NoPlainDate}
use Rattle.gix_date.proofs.Families.Disjoint.{GitFront, year-front, git-front, raw-words, raw-first, number-no-front}
use Rattle.gix_date.proofs.Text.FirstWords.{is_visible, first-begins, trimmed-words}
use Rattle.gix_date.proofs.Fast.FastHeaders.{is_number_byte, int-no-byte}

-- no raw text begins with a digit and has another byte in its first word's front
pub no-raw-front : (rule : OffsetRule) (text : List ℕ) → GitFront text → raw_time_by rule text ≡ None
no-raw-front rule text g =
    none-unless (raw_time_by rule text) (λ t e. number-no-front text text (raw-first rule text t (raw-words rule text t e)) g refl)

-- no raw text begins with a visible byte that is no digit and no sign, and no Git text with one that is no digit
pub no-raw-byte : (rule : OffsetRule) (c : ℕ) (t : List ℕ) → is_visible c ≡ true → is_number_byte c ≡ false
    → raw_time_by rule (c ∷ t) ≡ None
no-raw-byte rule c t v h = none-unless (raw_time_by rule (c ∷ t)) (λ u e.
    let f = raw-first rule (c ∷ t) u (raw-words rule (c ∷ t) u e) in
    let b = first-begins c [] t (v, tt) in
    let same : f.word ≡ c ∷ b.rest = same-first f.word (c ∷ b.rest) f.words b.words (sym f.is ∙ b.is) in
    int-no-byte c b.rest f.value h (ap int_value (sym same) ∙ f.is_value))

pub no-git-byte : (c : ℕ) (t : List ℕ) → IsUtf8 (c ∷ t) → is_visible c ≡ true → is_ascii_digit c ≡ false → git_time (c ∷ t) ≡ None
unfolding git_time
no-git-byte c t u v h = none-unless (git_time (c ∷ t)) (λ w e.
    let g = git-front (trim (c ∷ t)) w e in
    let a = first-begins g.first g.more g.rest g.visible in
    let b = first-begins c [] t (v, tt) in
    let same : c ∷ b.rest ≡ g.first ∷ (g.more ++ a.rest) = same-first (c ∷ b.rest) (g.first ∷ (g.more ++ a.rest)) b.words a.words
    (sym b.is ∙ sym (trimmed-words (c ∷ t) u) ∙ ap space_words g.whole ∙ a.is) in
    let first : c ≡ g.first = same-first c g.first b.rest (g.more ++ a.rest) same in
    let clash : true ≡ false = sym g.digit ∙ ap is_ascii_digit (sym first) ∙ h in
    cc)

pub no-plain-by : (text : List ℕ) → read_plain_date text ≡ None → NoPlainDate text
unfolding short_answer iso8601_answer iso8601_strict_answer
no-plain-by text h = record { short = rw h refl; iso8601 = rw h refl; strict = rw h refl }

-- a day at the front
-- what a text begins with that has a day at its front: a year and `-`
pub record PlainYear (text : List ℕ) : Type 0 where
  pub year : List ℕ
  pub number : ℕ
  pub rest : List ℕ
  pub whole : text ≡ year ++ (minus ∷ rest)
  pub is_year : IsYear year number

pub plain-year : (x : List ℕ) (date : DateFields × List ℕ) → read_plain_date x ≡ Some date → PlainYear x
unfolding read_plain_date
plain-year x date e =
    let year = went (read_year x) (λ year. skip_char minus year.1 >>= λ r. read_field r >>= λ month. skip_char minus month.1
    >>= λ s. read_field s >>= λ day. Some (date_at year.0 month.0 day.0 day.1)) date e in
    let next = went (skip_char minus year.0.1) (λ r. read_field r >>= λ month. skip_char minus month.1 >>= λ s. read_field s
    >>= λ day. Some (date_at year.0.0 month.0 day.0 day.1)) date year.2 in
    let y = year-taken x year.0.0 year.0.1 year.1 in
    record {
      year = y.text;
      number = year.0.0;
      rest = next.0;
      whole = y.whole
          ∙ ap (λ (t : List ℕ). y.text ++ t) (after-taken minus year.0.1 next.0 next.1);
      is_year = y.is;
    }

pub plain-front : (x : List ℕ) (date : DateFields × List ℕ) → read_plain_date x ≡ Some date → GitFront x
plain-front x date e = grind (arith, plain-year, year-front)

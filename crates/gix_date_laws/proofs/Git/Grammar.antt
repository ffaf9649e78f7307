-- Git's own forms are read where they are so written, and nowhere else.
use Rattle.std.proofs.Common.{◌≡◌, ◌∙◌, ℕ, true, false, List, [], ◌∷◌, ◌++◌, refl, ap, subst, arith, Some, None, inl, inr}
use Rattle.std.proofs.lemmas.Option.{same_Some as same_some}
use Rattle.std.proofs.lemmas.Bool.Decides.{nat_tests}
use Rattle.std.specs.Option.{option_or}
use Rattle.std.specs.Prelude.{◌==◌}
use Rattle.std.specs.Str.{trim}
use Rattle.gix_date.specs.Fields.FieldTexts.{IsPair, IsYear}
use Rattle.gix_date.specs.Families.Patterns.{Accepts}
use Rattle.gix_date.specs.Fields.Civil.{civil_instant, read_date}
use Rattle.gix_date.specs.Text.Front.{skip_char, ◌>>=◌}
use Rattle.gix_date.specs.Git.Clock.{git_clock}
use Rattle.gix_date.specs.Git.ClockCut.{clock_cut}
use Rattle.gix_date.specs.Git.Forms.{git_offset, git_time, git_form, git_front, dotted_front, compact_front, flexible_front}
use Rattle.gix_date.specs.Git.Forms.{read_marked_date, read_compact_date, time_with_rest, time_of_cut}
use Rattle.gix_date.specs.Git.Grammar.{IsGitDate, IsGitFront, IsGitText}
use Rattle.gix_date.specs.Text.Characters.{space, dot, minus, letter_t}
use Rattle.gix_date.specs.Text.Numbers.{read_two_digits}
use Rattle.gix_date.specs.Fields.Layout.{LocalDate}
use Rattle.gix_date.specs.declared.time.Time.{Time}
use Rattle.gix_date.proofs.Families.Apart.{no_pair}
use Rattle.gix_date.proofs.Git.ClockCuts.{cut_means, means_cut}
use Rattle.gix_date.proofs.Fields.FieldsRead.{year-read}
use Rattle.gix_date.proofs.Fields.FieldsTaken.{time_at, went}
use Rattle.gix_date.proofs.Git.Fronts.{Gap, front-taken, joined}
use Rattle.gix_date_laws.proofs.Numbers.Grammars.{pair-of}
use Rattle.gix_date_laws.proofs.Git.Clocks.{clock-is, is-clock}
use Rattle.gix_date_laws.proofs.Git.Offsets.{offset-is, is-offset}

abbrev IsTaken : Gap → List ℕ → Type 0
IsTaken gap mark = (rest : List ℕ) → gap (mark ++ rest) ≡ Some rest

is-date : (gap : Gap) (mark : List ℕ) → IsTaken gap mark → (text : List ℕ) (date : LocalDate) (rest : List ℕ) → IsGitDate mark text date
    → read_date read_two_digits gap (text ++ rest) ≡ Some (date, rest)
is-date gap mark taken text date rest h = grind (arith, joined, year-read, pair-of)

-- The rest.
-- such a text, and where its offset stands
abbrev pub IsTextWith : List ℕ → List ℕ → Time → Type 0
IsTextWith zone text t = (h : IsGitText text t) × (h.zone ≡ zone)

pub text-of : (text day gap rest : List ℕ) (date : LocalDate) (t : Time) → trim text ≡ day ++ (gap ++ rest) → IsGitFront day gap date
    → time_with_rest date rest ≡ Some t → IsTextWith (clock_cut (trim rest)).1 text t
unfolding time_of_cut
text-of text day gap rest date t w f e =
    let cut = clock_cut (trim rest) in
    let clock = went (git_clock cut.0) (λ k. git_offset cut.1 >>= λ o. civil_instant date k o >>= λ s. Some (time_at s o)) t e in
    let offset = went (git_offset cut.1) (λ o. civil_instant date clock.0 o >>= λ s. Some (time_at s o)) t clock.2 in
    let seconds = went (civil_instant date clock.0 offset.0) (λ s. Some (time_at s offset.0)) t offset.2 in
    subst (IsTextWith cut.1 text) (same_some (time_at seconds.0 offset.0) t seconds.2) (
      record {
        day = day;
        gap = gap;
        rest = rest;
        clock = cut.0;
        zone = cut.1;
        date = date;
        time = clock.0;
        whole = w;
        front = f;
        cut = cut_means (trim rest) cut.0 cut.1 refl;
        is_clock = clock-is cut.0 clock.0 clock.1;
        is_offset = offset-is cut.1 offset.0 offset.1;
        is_instant = seconds.1;
      },
      refl,
    )

pub rest-of : (text : List ℕ) (t : Time) (h : IsGitText text t) → time_with_rest h.date h.rest ≡ Some t
unfolding time_of_cut
rest-of text t h = rw
    (means_cut (trim h.rest) h.clock h.zone h.cut, is-clock h.clock h.time h.is_clock, is-offset h.zone t.offset h.is_offset, h.is_instant)
    refl

pub form-is : (text : List ℕ) (t : Time) → git_form (trim text) ≡ Some t → IsGitText text t
unfolding git_form
form-is text t e =
    let found = went (git_front (trim text)) (λ (f : LocalDate × List ℕ). time_with_rest f.0 f.1) t e in
    let f = front-taken (trim text) found.0.0 found.0.1 found.1 in
    (text-of text f.day f.gap found.0.1 found.0.0 t f.whole f.is found.2).0

-- The other way round.
skipped : (c : ℕ) → IsTaken (skip_char c) (c ∷ [])
unfolding skip_char
skipped c rest = let same : (c == c) ≡ true = grind (arith, nat_tests) in rw same refl

kept : IsTaken (λ (x : List ℕ). Some x) []
kept rest = refl

pair-digit : (x t : List ℕ) (n : ℕ) → IsPair x n → skip_char dot (x ++ t) ≡ None
unfolding skip_char
pair-digit (a ∷ b ∷ []) t n h = let no : (a == dot) ≡ false = grind (arith, nat_tests, h.0) in rw no refl
pair-digit x t n h = absurd h

by-dotted : (x day rest : List ℕ) (date : LocalDate) → x ≡ day ++ (space ∷ rest) → IsGitDate (dot ∷ []) day date
    → git_front x ≡ Some (date, rest)
unfolding git_front dotted_front read_marked_date
by-dotted x day rest date w d =
    let read : read_date read_two_digits (skip_char dot) x ≡ Some (date, space ∷ rest) = ap (read_date read_two_digits (skip_char dot)) w
    ∙ is-date (skip_char dot) (dot ∷ []) (skipped dot) day date (space ∷ rest) d in
    rw (read, skipped space rest) refl

pub no-dotted-by : (x year more : List ℕ) (n : ℕ) → x ≡ year ++ more → IsYear year n → skip_char dot more ≡ None → dotted_front x ≡ None
unfolding dotted_front read_marked_date
no-dotted-by x year more n w y e = ap dotted_front w ∙ rw (year-read year more n y, e) refl

by-compact : (x day rest : List ℕ) (date : LocalDate) → x ≡ day ++ (letter_t ∷ rest) → IsGitDate [] day date
    → git_front x ≡ Some (date, rest)
unfolding git_front compact_front read_compact_date
by-compact x day rest date w d =
    let more = d.month ++ (d.day ++ (letter_t ∷ rest)) in
    let split : x ≡ d.year ++ more = w ∙ ap (λ (k : List ℕ). k ++ (letter_t ∷ rest)) d.whole
    ∙ joined d.year [] d.month d.day (letter_t ∷ rest) in
    let dotted =
    no-dotted-by x d.year more date.year split d.is_year (pair-digit d.month (d.day ++ (letter_t ∷ rest)) date.month d.is_month) in
    let read : read_date read_two_digits (λ (y : List ℕ). Some y) x ≡ Some (date, letter_t ∷ rest) =
    ap (read_date read_two_digits (λ (y : List ℕ). Some y)) w ∙ is-date (λ (y : List ℕ). Some y) [] kept day date (letter_t ∷ rest) d in
    rw (dotted, read, skipped letter_t rest) refl

pub no-compact-by : (x year more : List ℕ) (n : ℕ) → x ≡ year ++ (minus ∷ more) → IsYear year n → compact_front x ≡ None
unfolding compact_front read_compact_date
no-compact-by x year more n w y = ap compact_front w ∙ rw (year-read year (minus ∷ more) n y, no_pair minus more refl) refl

pub dash-no-dot : (more : List ℕ) → skip_char dot (minus ∷ more) ≡ None
unfolding skip_char
dash-no-dot more = refl

by-flexible : (x day left rest : List ℕ) (date : LocalDate) → x ≡ day ++ left → IsGitDate (minus ∷ []) day date
    → option_or (skip_char letter_t left) (skip_char space left) ≡ Some rest → git_front x ≡ Some (date, rest)
unfolding git_front flexible_front read_marked_date
by-flexible x day left rest date w d g =
    let more = d.month ++ (minus ∷ (d.day ++ left)) in
    let split : x ≡ d.year ++ (minus ∷ more) = w ∙ ap (λ (k : List ℕ). k ++ left) d.whole ∙ joined d.year (minus ∷ []) d.month d.day left in
    let dotted = no-dotted-by x d.year (minus ∷ more) date.year split d.is_year (dash-no-dot more) in
    let compact = no-compact-by x d.year more date.year split d.is_year in
    let read : read_date read_two_digits (skip_char minus) x ≡ Some (date, left) = ap (read_date read_two_digits (skip_char minus)) w
    ∙ is-date (skip_char minus) (minus ∷ []) (skipped minus) day date left d in
    rw (dotted, compact, read, g) refl

t-gap : (rest : List ℕ) → option_or (skip_char letter_t (letter_t ∷ rest)) (skip_char space (letter_t ∷ rest)) ≡ Some rest
unfolding skip_char
t-gap rest = refl

space-gap : (rest : List ℕ) → option_or (skip_char letter_t (space ∷ rest)) (skip_char space (space ∷ rest)) ≡ Some rest
unfolding skip_char
space-gap rest = refl

pub front-of : (x day gap rest : List ℕ) (date : LocalDate) → x ≡ day ++ (gap ++ rest) → IsGitFront day gap date
    → git_front x ≡ Some (date, rest)
front-of x day gap rest date w (inl f) = by-dotted x day rest date (w ∙ ap (λ (g : List ℕ). day ++ (g ++ rest)) f.1) f.0
front-of x day gap rest date w (inr (inl f)) = by-compact x day rest date (w ∙ ap (λ (g : List ℕ). day ++ (g ++ rest)) f.1) f.0
front-of x day gap rest date w (inr (inr (d, inl g))) =
    by-flexible x day (letter_t ∷ rest) rest date (w ∙ ap (λ (k : List ℕ). day ++ (k ++ rest)) g) d (t-gap rest)
front-of x day gap rest date w (inr (inr (d, inr g))) =
    by-flexible x day (space ∷ rest) rest date (w ∙ ap (λ (k : List ℕ). day ++ (k ++ rest)) g) d (space-gap rest)

is-form : (text : List ℕ) (t : Time) → IsGitText text t → git_form (trim text) ≡ Some t
unfolding git_form
is-form text t h = rw (front-of (trim text) h.day h.gap h.rest h.date h.whole h.front) (rest-of text t h)

-- Git's own forms hold the texts that are written so, and no others
pub record GitIsSpelled : Type 0 where
  pub accepts : Accepts git_time IsGitText

pub git_spelled : GitIsSpelled
unfolding git_time
git_spelled = record { accepts = λ text t. (form-is text t, is-form text t) }

-- Raw texts, at texts and bare epochs: what the exact reader says of their seconds and offset.
use Rattle.std.proofs.Common.{◌≡◌, ◌∙◌, ◌⊎◌, inl, inr, ℕ, ℤ, pos, neg_ℤ, ◌*ℤ◌, nat_lt, Bool, true, false, cond, List, [], ◌∷◌, ◌++◌, Option}
use Rattle.std.proofs.Common.{Some, None, IsUtf8, Ok, refl, ap, sym, subst, arith, append-nil}
use Rattle.std.specs.Prelude.{◌==◌, option_map}
use Rattle.std.proofs.lemmas.Bool.Decides.{nat_tests}
use Rattle.std.proofs.lemmas.Str.{IsUtf8-drop, IsCharBoundary-after_ascii}
use Rattle.jiff_core.proofs.SignedLemmas.{signed_arith}
use Rattle.gix_date.proofs.Families.Disjoint.{RawWords, raw-words}
use Rattle.gix_date.proofs.Fast.FastHeaders.{IsOffsetText, offset-taken}
use Rattle.gix_date.proofs.Fields.FieldsTaken.{went, first-or, after-taken}
use Rattle.gix_date.proofs.Fields.Instants.{instant_holds}
use Rattle.gix_date.specs.Families.Epoch.{at_time}
use Rattle.gix_date.specs.Families.Patterns.{midnight}
use Rattle.gix_date.specs.Families.Raw.{OffsetRule, raw_time_by}
use Rattle.gix_date.specs.Fields.Civil.{civil_seconds}
use Rattle.gix_date.specs.Fields.Offsets.{SignedPairs}
use Rattle.gix_date.specs.Fields.Zoned.{is_instant}
use Rattle.gix_date.specs.Text.Characters.{at_sign, plus, minus, space}
use Rattle.gix_date.specs.Text.Front.{◌>>=◌}
use Rattle.gix_date.specs.Text.Numbers.{int_value}
use Rattle.gix_date.specs.declared.time.Time.{Time}
use Rattle.git_date.proofs.Rules.ClocksBack.{shown_of, clock-is}
use Rattle.git_date.proofs.Rules.Kept.{either}
use Rattle.git_date.proofs.Exact.NoSeconds.{unsaid}
use Rattle.git_date.proofs.Exact.PrintedClocks.{HasNoDigits, run-before, sign-before, at}
use Rattle.git_date.proofs.Text.TokenRuns.{mark-first}
use Rattle.git_date.specs.Rules.Dates.{exact_seconds, is_month, month_start, first_of, seconds_after}
use Rattle.git_date.specs.Rules.Digits.{with_epoch}
use Rattle.git_date.specs.Rules.Fields.{unknown}
use Rattle.git_date.specs.Tokens.Numbers.{number}
use Rattle.git_date.specs.Rules.Offsets.{at_text, padded_number, wide_minutes, white, without_white}
use Rattle.git_date.specs.Tokens.Tokens.{Token, Digits, Mark, tokens}
use Rattle.git_date.specs.Types.Names.{Fields, Now}
use Rattle.git_date_laws.proofs.Agreement.Answers.{FitsAt}
use Rattle.git_date_laws.proofs.Agreement.Numbers.{IsBare, IsSigned, int-is, number-goes}
use Rattle.git_date_laws.proofs.Agreement.Steps.{has-sign, AreQuiet, quiet-free, Ends, IsPartial, Fits, Goes, goes, Ready, over, skip}
use Rattle.git_date_laws.proofs.Agreement.Steps.{no-offset, offset-goes, IsRun, offset-run, minutes_at, ends-free}
use Rattle.git_date_laws.proofs.Agreement.Words.{AreTwo, two-words}

-- fields without a year or a minute come to no seconds
no-seconds : (f : Fields) → IsPartial f → exact_seconds f ≡ None
unfolding exact_seconds
no-seconds f p = grind (arith, unsaid)

-- an epoch comes to its own seconds
pub from-month : (b : Bool) (start s : ℤ) (next : ℤ → ℤ) → (cond b (Some start) None >>= λ x. Some (next x)) ≡ Some s → next start ≡ s
from-month true start s next e = cc
from-month false start s next e = absurd cc

epoch-is : (n : ℕ) (s : ℤ) → is_instant (pos n) ≡ true → exact_seconds (with_epoch unknown (shown_of (pos n))) ≡ Some s → s ≡ pos n
unfolding exact_seconds month_start
epoch-is n s instant e =
    let within = instant_holds (pos n) instant in
    let c = shown_of (pos n) in
    sym (from-month (is_month c.date.year c.date.month) (civil_seconds (first_of c.date.year c.date.month) midnight (pos 0)) s
    (λ start. seconds_after start (Some c.date.day) c.clock.hour c.clock.minute c.clock.second) e)
    ∙ (clock-is (pos n) (omega (arith, signed_arith), omega (arith, signed_arith, within))).seconds

-- what does not begin with `@`, seconds, a space and a sign
not-at : (c : ℕ) (ts : List Token) → (c == at_sign) ≡ false → at_text (Mark c ∷ ts) ≡ None
unfolding at_text
not-at c (Digits run ∷ Mark g ∷ Mark s ∷ more) h = rw h refl
not-at c ts h = refl

no-at-in : (x rest : List ℕ) (n : ℤ) → IsBare x n ⊎ IsSigned x → HasNoDigits (tokens rest) → at_text (tokens (x ++ rest)) ≡ None
unfolding at_text
no-at-in x rest n (inl b) free = ap at_text (run-before x rest (tokens rest) b.some b.digits refl free)
no-at-in x rest n (inr s) free = grind (arith, sign-before, not-at)

pub no-fit : (t : Time) (found : Option (ℕ × ℤ)) → found ≡ None → FitsAt t found
no-fit t found e = subst (FitsAt t) (sym e) tt

module _ (now : Now) (t : Time) where
  no-time : (f : Fields) → IsPartial f → Fits now t (Ok (at f))
  no-time f p = λ s m none off exact. absurd (let clash = sym (no-seconds f p) ∙ exact in cc)

  never : (f : Fields) → IsPartial f → Ready now t f
  never f p = λ s m off exact. absurd (let clash = sym (no-seconds f p) ∙ exact in cc)

  epoch-ready : (n : ℕ) → t.seconds ≡ pos n → is_instant (pos n) ≡ true → Ready now t (with_epoch unknown (shown_of (pos n)))
  epoch-ready n e instant = λ s m off exact. e ∙ sym (epoch-is n s instant exact)

  -- an int text alone
  int-goes : (x : List ℕ) (n : ℤ) → int_value x ≡ Some n → Goes now t unknown (tokens x)
  unfolding tokens
  int-goes x n e =
      subst (λ (text : List ℕ). Goes now t unknown (tokens text)) (append-nil x)
      (number-goes now t x [] n (int-is x n e) tt (λ f p. over now t f (no-time f p))
      (λ k is instant. over now t (with_epoch unknown (shown_of (pos k))) (no-offset now t _ refl)))

  module _ (rule : OffsetRule) (text : List ℕ) (r : RawWords rule text t) (two : AreTwo text r.front r.zone) where
    k : IsOffsetText r.zone r.fields
    k = offset-taken r.zone r.fields r.is_fields

    abbrev tail : List ℕ
    tail = two.first ∷ (two.between ++ (r.zone ++ two.after))

    tail-ends : Ends (tokens tail)
    tail-ends =
        let q = two.quiet_between in
        let s = has-sign k.mark r.fields k.is_mark in
        let free = subst (λ (zone : List ℕ). HasNoDigits (tokens (zone ++ two.after)))
        (sym (k.whole ∙ ap (λ (c : ℕ). c ∷ k.h0 ∷ k.h1 ∷ k.m0 ∷ k.m1 ∷ k.last) s.is))
        (subst HasNoDigits (sym (sign-before s.behind _)) tt) in
        subst Ends (sym (mark-first two.first (two.between ++ (r.zone ++ two.after)) q.0.no_letter q.0.no_digit))
        (q.0.no_colon, quiet-free two.between (r.zone ++ two.after) q.1 free)

    tail-goes : (f : Fields) → Fits now t (Ok (at f)) → Ready now t f → Goes now t f (tokens tail)
    tail-goes f stop ready =
        skip now t f (two.first ∷ two.between) (r.zone ++ two.after) two.quiet_between stop
        (offset-goes now t f r.fields r.zone two.after k (sym (ap (λ (u : Time). u.offset) r.time)) two.quiet_after stop ready)

    pub raw-text-goes : Goes now t unknown (tokens text)
    raw-text-goes =
        subst (λ (text : List ℕ). Goes now t unknown (tokens text)) (sym two.whole)
        (skip now t unknown two.before (r.front ++ tail) two.quiet_before (no-offset now t unknown refl)
        (number-goes now t r.front tail r.value (int-is r.front r.value r.is_value) tail-ends (λ f p. tail-goes f (no-time f p) (never f p))
        (λ n is instant. tail-goes (with_epoch unknown (shown_of (pos n))) (no-offset now t _ refl)
        (epoch-ready n (sym (ap (λ (u : Time). u.seconds) r.time) ∙ is) instant))))

    pub raw-no-at : at_text (tokens text) ≡ None
    raw-no-at = ap (λ (text : List ℕ). at_text (tokens text)) two.whole ∙ by two.before two.quiet_before
      where
        by : (before : List ℕ) → AreQuiet before → at_text (tokens (before ++ (r.front ++ tail))) ≡ None
        by [] q = no-at-in r.front tail r.value (int-is r.front r.value r.is_value) (ends-free (tokens tail) tail-ends)
        by (c ∷ before) q = ap at_text (mark-first c (before ++ (r.front ++ tail)) q.0.no_letter q.0.no_digit)
            ∙ not-at c (tokens (before ++ (r.front ++ tail))) q.0.no_at

-- after `@`
wide-fits : (now : Now) (t : Time) (n : ℕ) (behind : Bool) (fields : SignedPairs) (ts more : List Token) → IsRun fields ts more
    → t.seconds ≡ pos n
    → (fields.seconds ≡ None → t.offset ≡ pos 60 *ℤ cond behind (neg_ℤ (minutes_at fields)) (minutes_at fields))
    → FitsAt t (option_map (λ minutes. (n, minutes)) (padded_number ts >>= λ found. wide_minutes behind found.0 found.1))
unfolding padded_number white without_white
wide-fits now t n behind fields ts more r e o = grind (arith, nat_lt, nat_tests, minutes_at, signed_arith, either)

module _ (now : Now) (t : Time) (rule : OffsetRule) (text : List ℕ) (r : RawWords rule text t) (two : AreTwo text r.front r.zone) (n : ℕ)
    (seconds : t.seconds ≡ pos n) where
  abbrev zone : IsOffsetText r.zone r.fields
  zone = offset-taken r.zone r.fields r.is_fields

  abbrev digits : List ℕ
  digits = (zone.h0 ∷ zone.h1 ∷ zone.m0 ∷ zone.m1 ∷ zone.last) ++ two.after

  at-sign-fits : (behind : Bool) (run : List ℕ) (gap : ℕ) → number run ≡ n
      → (r.fields.seconds ≡ None → t.offset ≡ pos 60 *ℤ cond behind (neg_ℤ (minutes_at r.fields)) (minutes_at r.fields))
      → FitsAt t (at_text (Mark at_sign ∷ Digits run ∷ Mark gap ∷ Mark (cond behind minus plus) ∷ tokens digits))
  unfolding at_text
  at-sign-fits true run gap e o =
      either (FitsAt t) (gap == space) _ _ (wide-fits now t (number run) true r.fields (tokens digits) (tokens two.after)
      (offset-run r.fields r.zone two.after zone two.quiet_after) (seconds ∙ ap pos (sym e)) o) tt
  at-sign-fits false run gap e o =
      either (FitsAt t) (gap == space) _ _ (wide-fits now t (number run) false r.fields (tokens digits) (tokens two.after)
      (offset-run r.fields r.zone two.after zone two.quiet_after) (seconds ∙ ap pos (sym e)) o) tt

  at-gap-fits : (run : List ℕ) (gap : ℕ) (between : List ℕ) → number run ≡ n → AreQuiet between
      → FitsAt t (at_text (Mark at_sign ∷ Digits run ∷ Mark gap ∷ tokens (between ++ (r.zone ++ two.after))))
  unfolding at_text
  at-gap-fits run gap [] e q =
      let s = has-sign zone.mark r.fields zone.is_mark in
      let whole = ap (λ (x : List ℕ). tokens (x ++ two.after)) zone.whole ∙ ap (λ (c : ℕ). tokens (c ∷ digits)) s.is
      ∙ sign-before s.behind digits in
      subst (λ (ts : List Token). FitsAt t (at_text (Mark at_sign ∷ Digits run ∷ Mark gap ∷ ts))) (sym whole)
      (at-sign-fits s.behind run gap e (λ none. sym (ap (λ (u : Time). u.offset) r.time) ∙ s.minutes none))
  at-gap-fits run gap (c ∷ between) e q =
      subst (λ (ts : List Token). FitsAt t (at_text (Mark at_sign ∷ Digits run ∷ Mark gap ∷ ts)))
      (sym (mark-first c (between ++ (r.zone ++ two.after)) q.0.no_letter q.0.no_digit))
      (rw (q.0.no_plus, q.0.no_minus) (either (FitsAt t) (gap == space) _ _ tt tt))

-- the time of an at text
module _ (now : Now) (t : Time) (rule : OffsetRule) (text : List ℕ) (r : RawWords rule text t) (two : AreTwo text r.front r.zone) where
  abbrev back : List ℕ
  back = two.first ∷ (two.between ++ (r.zone ++ two.after))

  at-number-fits : IsBare r.front r.value ⊎ IsSigned r.front → FitsAt t (at_text (Mark at_sign ∷ tokens (r.front ++ back)))
  unfolding at_text
  at-number-fits (inl b) =
      let q = two.quiet_between.0 in
      let whole = run-before r.front back _ b.some b.digits
      (mark-first two.first (two.between ++ (r.zone ++ two.after)) q.no_letter q.no_digit) tt in
      subst (λ (ts : List Token). FitsAt t (at_text (Mark at_sign ∷ ts))) (sym whole)
      (at-gap-fits now t rule text r two (number r.front) (sym (ap (λ (u : Time). u.seconds) r.time) ∙ b.is) r.front two.first two.between
      refl two.quiet_between.1)
  at-number-fits (inr s) =
      subst (λ (ts : List Token). FitsAt t (at_text (Mark at_sign ∷ ts)))
      (sym (ap (λ (x : List ℕ). tokens (x ++ back)) s.whole ∙ sign-before s.behind (s.run ++ back))) tt

  at-front-fits : (before : List ℕ) → AreQuiet before → FitsAt t (at_text (Mark at_sign ∷ tokens (before ++ (r.front ++ back))))
  unfolding at_text
  at-front-fits [] q = at-number-fits (int-is r.front r.value r.is_value)
  at-front-fits (c ∷ before) q = subst (λ (ts : List Token). FitsAt t (at_text (Mark at_sign ∷ ts)))
      (sym (mark-first c (before ++ (r.front ++ back)) q.0.no_letter q.0.no_digit)) tt

  pub at-raw-fits : FitsAt t (at_text (tokens (at_sign ∷ text)))
  at-raw-fits =
      subst (λ (ts : List Token). FitsAt t (at_text ts)) (sym (mark-first at_sign text refl refl))
      (subst (λ (text : List ℕ). FitsAt t (at_text (Mark at_sign ∷ tokens text))) (sym two.whole)
      (at-front-fits two.before two.quiet_before))

-- what the steps over a text come to
abbrev pub Reads : Now → Time → List ℕ → Type 0
Reads now t text = Goes now t unknown (tokens text) × FitsAt t (at_text (tokens text))

pub raw-reads : (now : Now) (rule : OffsetRule) (text : List ℕ) (t : Time) → IsUtf8 text → raw_time_by rule text ≡ Some t → Reads now t text
raw-reads now rule text t u e =
    let r = raw-words rule text t e in
    let two = two-words text r.front r.zone u r.is in
    (raw-text-goes now t rule text r two, no-fit t (at_text (tokens text)) (raw-no-at now t rule text r two))

pub int-reads : (now : Now) (text : List ℕ) (t : Time) (n : ℤ) → int_value text ≡ Some n → Reads now t text
unfolding tokens
int-reads now text t n e =
    let none = ap (λ (x : List ℕ). at_text (tokens x)) (sym (append-nil text)) ∙ no-at-in text [] n (int-is text n e) tt in
    (int-goes now t text n e, no-fit t (at_text (tokens text)) none)

at-parts : (rule : OffsetRule) (text : List ℕ) (t : Time) → at_time rule text ≡ Some t
    → (rest : List ℕ) × (text ≡ at_sign ∷ rest) × ((raw_time_by rule rest ≡ Some t) ⊎ ((n : ℤ) × (int_value rest ≡ Some n)))
unfolding at_time
at-parts rule text t e = grind (arith, went, after-taken, first-or)

at-int-fits : (t : Time) (x : List ℕ) (n : ℤ) → IsBare x n ⊎ IsSigned x → FitsAt t (at_text (tokens (at_sign ∷ x)))
unfolding at_text tokens
at-int-fits t x n (inl b) =
    let whole : tokens x ≡ Digits x ∷ [] = ap tokens (sym (append-nil x)) ∙ run-before x [] [] b.some b.digits refl tt in
    subst (λ (ts : List Token). FitsAt t (at_text ts))
    (sym (mark-first at_sign x refl refl ∙ ap (λ (ts : List Token). Mark at_sign ∷ ts) whole)) tt
at-int-fits t x n (inr s) = grind (arith, mark-first, sign-before)

after-at : (now : Now) (t : Time) (rest : List ℕ) → Goes now t unknown (tokens rest) → Goes now t unknown (tokens (at_sign ∷ rest))
after-at now t rest h = subst (Goes now t unknown) (sym (mark-first at_sign rest refl refl))
    (goes now t unknown (Mark at_sign) (tokens rest) (λ end. no-offset now t unknown refl) h)

pub at-reads : (now : Now) (rule : OffsetRule) (text : List ℕ) (t : Time) → IsUtf8 text → at_time rule text ≡ Some t → Reads now t text
at-reads now rule text t u e =
    let p = at-parts rule text t e in
    subst (Reads now t) (sym p.1) (elim p.2 [
      | inl h ↦
          let rest = IsUtf8-drop (at_sign ∷ p.0) 1 (subst IsUtf8 p.1 u)
          (IsCharBoundary-after_ascii (at_sign ∷ p.0) 0 (subst IsUtf8 p.1 u) (omega arith) (omega arith)) in
          let r = raw-words rule p.0 t h in
          let two = two-words p.0 r.front r.zone rest r.is in
          (after-at now t p.0 (raw-text-goes now t rule p.0 r two), at-raw-fits now t rule p.0 r two)
      | inr h ↦ (after-at now t p.0 (int-goes now t p.0 h.0 h.1), at-int-fits t p.0 h.0 (int-is p.0 h.0 h.1))
    ])

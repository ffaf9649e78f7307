-- Clocks of Git's own forms are read where they are so written, and nowhere else.
use Rattle.std.proofs.Common.{◌≡◌, ◌∙◌, ◌≤◌, ◌+◌, ◌-◌, ◌*◌, ℕ, Bool, true, false, cond, List, [], ◌∷◌, refl, ap, ap₂, sym, subst, arith}
use Rattle.std.proofs.Common.{Some, None, Option, inl, inr, ◌⊎◌}
use Rattle.std.proofs.lemmas.Option.{same_Some as same_some}
use Rattle.std.proofs.lemmas.Bool.Decides.{nat_tests}
use Rattle.std.specs.Char.{is_ascii}
use Rattle.std.specs.List.{list_all, slice_split, before_first}
use Rattle.std.specs.Prelude.{nat_lt}
use Rattle.std.specs.Str.{trim}
use Rattle.gix_date.specs.Fields.FieldTexts.{IsPair, IsDigit}
use Rattle.gix_date.specs.Text.Front.{◌>>=◌}
use Rattle.gix_date.specs.Fields.Layout.{LocalClock}
use Rattle.gix_date.specs.Git.Clock.{digits_at_most, clock_of_fields, clock_of_parts, clock_with_colons, clock_without_colons}
use Rattle.gix_date.specs.Git.Clock.{read_pair_or_end, trimmed_clock, git_clock}
use Rattle.gix_date.specs.Git.Grammar.{IsUpTo, AreClockParts, AreClockPairs, IsGitClock}
use Rattle.gix_date.specs.Text.Characters.{is_colon, is_dot, has_colon}
use Rattle.gix_date.specs.Text.Numbers.{read_two_digits}
use Rattle.gix_date.specs.Text.SpaceWords.{is_nonempty}
use Rattle.gix_date.proofs.Fields.FieldsTaken.{went, two-taken}
use Rattle.gix_date_laws.proofs.Numbers.Grammars.{pair-of}
use Rattle.gix_date.proofs.Git.ClockParts.{all_digits as all-digits}

abbrev clock_at : ℕ → ℕ → ℕ → LocalClock
clock_at h m s = record { hour = h; minute = m; second = s }

-- Parts between colons.
within : (most v n : ℕ) (b : Bool) → nat_lt most v ≡ b → cond b None (Some v) ≡ Some n → (n ≡ v) × (n ≤ most)
within most v n true e h = absurd cc
within most v n false e h = grind (arith, same_some, nat_tests)

up-to : (most : ℕ) (t : List ℕ) (n : ℕ) → digits_at_most most t ≡ Some n → IsUpTo most t n
unfolding digits_at_most
up-to most [] n e = absurd cc
up-to most (c ∷ t) n e = grind (arith, within, all-digits)

is-up-to : (most : ℕ) (t : List ℕ) (n : ℕ) → IsUpTo most t n → digits_at_most most t ≡ Some n
unfolding digits_at_most
is-up-to most [] n h = absurd (omega (arith, h.0.0))
is-up-to most (c ∷ t) n h = grind (arith, all-digits, nat_tests)

fields-are : (h m s : Option ℕ) (c : LocalClock) → clock_of_fields h m s ≡ Some c
    → (h ≡ Some c.hour) × (m ≡ Some c.minute) × (s ≡ Some c.second)
fields-are (Some h) (Some m) (Some s) c e = grind (arith, same_some)
fields-are h m s c e = absurd cc

parts-are : (parts : List (List ℕ)) (c : LocalClock) → clock_of_parts parts ≡ Some c → AreClockParts parts c
parts-are [] c e = absurd cc
parts-are (h ∷ []) c e = grind (arith, fields-are, up-to, same_some)
parts-are (h ∷ m ∷ []) c e = grind (arith, fields-are, up-to, same_some)
parts-are (h ∷ m ∷ s ∷ more) c e = grind (arith, fields-are, up-to)

are-parts : (parts : List (List ℕ)) (c : LocalClock) → AreClockParts parts c → clock_of_parts parts ≡ Some c
are-parts [] c p = absurd p
are-parts (h ∷ []) c p =
    rw (is-up-to 23 h c.hour p.0) (ap₂ (λ (m s : ℕ). Some (clock_at c.hour m s)) (sym p.1) (sym p.2))
are-parts (h ∷ m ∷ []) c p =
    rw (is-up-to 23 h c.hour p.0, is-up-to 59 m c.minute p.1) (ap (λ (s : ℕ). Some (clock_at c.hour c.minute s)) (sym p.2))
are-parts (h ∷ m ∷ s ∷ more) c p =
    rw (is-up-to 23 h c.hour p.0, is-up-to 59 m c.minute p.1, is-up-to 59 s c.second p.2) refl

-- Pairs of digits.
two : (a b : ℕ) (t : List ℕ) (p : ℕ × List ℕ) → read_two_digits (a ∷ b ∷ t) ≡ Some p → IsPair (a ∷ b ∷ []) p.0 × (p.1 ≡ t)
two a b t p h =
    let k = two-taken (a ∷ b ∷ t) p.0 p.1 h in
    let same : k.tens ∷ k.ones ∷ p.1 ≡ a ∷ b ∷ t = sym k.whole in
    let tens : k.tens ≡ a = cc in
    let ones : k.ones ≡ b = cc in
    ((subst IsDigit tens k.is_tens, subst IsDigit ones k.is_ones, k.value ∙ ap₂ (λ (x y : ℕ). 10 * (x - 48) + (y - 48)) tens ones), cc)

two-of-none : (p : ℕ × List ℕ) → read_two_digits [] ≡ Some p → ⊥
two-of-none p h = let k = two-taken [] p.0 p.1 h in let clash : [] ≡ k.tens ∷ k.ones ∷ p.1 = k.whole in cc

two-of-one : (c : ℕ) (p : ℕ × List ℕ) → read_two_digits (c ∷ []) ≡ Some p → ⊥
two-of-one c p h = let k = two-taken (c ∷ []) p.0 p.1 h in let clash : c ∷ [] ≡ k.tens ∷ k.ones ∷ p.1 = k.whole in cc

abbrev ended : ℕ → ℕ → ℕ × List ℕ → Option LocalClock
ended h m s = cond (is_nonempty s.1) None (Some (clock_at h m s.0))

abbrev with_seconds : ℕ → ℕ × List ℕ → Option LocalClock
with_seconds h m = read_pair_or_end m.1 >>= ended h m.0

seconds-are : (a b d e : ℕ) (t : List ℕ) (h m : ℕ) (c : LocalClock) → IsPair (a ∷ b ∷ []) h → IsPair (d ∷ e ∷ []) m
    → with_seconds h (m, t) ≡ Some c → AreClockPairs (a ∷ b ∷ d ∷ e ∷ t) c
unfolding read_pair_or_end
seconds-are a b d e [] h m c i j k = subst (AreClockPairs (a ∷ b ∷ d ∷ e ∷ [])) (same_some (clock_at h m 0) c k) (i, j, refl)
seconds-are a b d e (f ∷ []) h m c i j k = let s = went (read_two_digits (f ∷ [])) (ended h m) c k in absurd (two-of-one f s.0 s.1)
seconds-are a b d e (f ∷ g ∷ t) h m c i j k = grind (arith, went, two, same_some)

minutes-are : (a b : ℕ) (t : List ℕ) (h : ℕ) (c : LocalClock) → IsPair (a ∷ b ∷ []) h → (read_pair_or_end t >>= with_seconds h) ≡ Some c
    → AreClockPairs (a ∷ b ∷ t) c
unfolding read_pair_or_end
minutes-are a b [] h c i k = subst (AreClockPairs (a ∷ b ∷ [])) (same_some (clock_at h 0 0) c k) (i, refl, refl)
minutes-are a b (d ∷ []) h c i k = let m = went (read_two_digits (d ∷ [])) (with_seconds h) c k in absurd (two-of-one d m.0 m.1)
minutes-are a b (d ∷ e ∷ t) h c i k = grind (arith, went, two, seconds-are)

pairs-are : (x : List ℕ) (c : LocalClock) → clock_without_colons x ≡ Some c → AreClockPairs x c
unfolding clock_without_colons
pairs-are [] c k = let h = went (read_two_digits []) (λ h. read_pair_or_end h.1 >>= with_seconds h.0) c k in absurd (two-of-none h.0 h.1)
pairs-are (a ∷ []) c k = grind (arith, went, two-of-one)
pairs-are (a ∷ b ∷ t) c k =
    let h = went (read_two_digits (a ∷ b ∷ t)) (λ h. read_pair_or_end h.1 >>= with_seconds h.0) c k in
    let p = two a b t h.0 h.1 in
    minutes-are a b t h.0.0 c p.0 (subst (λ (r : List ℕ). (read_pair_or_end r >>= with_seconds h.0.0) ≡ Some c) p.1 h.2)

are-pairs : (x : List ℕ) (c : LocalClock) → AreClockPairs x c → clock_without_colons x ≡ Some c
unfolding clock_without_colons read_pair_or_end
are-pairs (a ∷ b ∷ []) c p =
    rw (pair-of (a ∷ b ∷ []) c.hour [] p.0) (ap₂ (λ (m s : ℕ). Some (clock_at c.hour m s)) (sym p.1) (sym p.2))
are-pairs (a ∷ b ∷ d ∷ e ∷ []) c p =
    rw (pair-of (a ∷ b ∷ []) c.hour (d ∷ e ∷ []) p.0, pair-of (d ∷ e ∷ []) c.minute [] p.1)
    (ap (λ (s : ℕ). Some (clock_at c.hour c.minute s)) (sym p.2))
are-pairs (a ∷ b ∷ d ∷ e ∷ f ∷ g ∷ []) c p =
    rw (
      pair-of (a ∷ b ∷ []) c.hour (d ∷ e ∷ f ∷ g ∷ []) p.0,
      pair-of (d ∷ e ∷ []) c.minute (f ∷ g ∷ []) p.1,
      pair-of (f ∷ g ∷ []) c.second [] p.2,
    ) refl
are-pairs x c p = absurd p

-- The clock.
trimmed-is : (x : List ℕ) (c : LocalClock) → trimmed_clock x ≡ Some c
    → (list_all is_ascii x ≡ true)
    × (((has_colon x ≡ true) × AreClockParts (slice_split is_colon x) c) ⊎ ((has_colon x ≡ false) × AreClockPairs x c))
unfolding trimmed_clock clock_with_colons
trimmed-is x c e = grind (arith, parts-are, pairs-are)

is-trimmed : (x : List ℕ) (c : LocalClock) → list_all is_ascii x ≡ true
    → ((has_colon x ≡ true) × AreClockParts (slice_split is_colon x) c) ⊎ ((has_colon x ≡ false) × AreClockPairs x c)
    → trimmed_clock x ≡ Some c
unfolding trimmed_clock clock_with_colons
is-trimmed x c a (inl p) = rw (a, p.0) (are-parts (slice_split is_colon x) c p.1)
is-trimmed x c a (inr p) = rw (a, p.0) (are-pairs x c p.1)

pub clock-is : (text : List ℕ) (c : LocalClock) → git_clock text ≡ Some c → IsGitClock text c
unfolding git_clock
clock-is text c e =
    let t = trimmed-is (trim (before_first is_dot text)) c e in
    record { shown = trim (before_first is_dot text); is_shown = refl; ascii = t.0; is = t.1 }

pub is-clock : (text : List ℕ) (c : LocalClock) → IsGitClock text c → git_clock text ≡ Some c
unfolding git_clock
is-clock text c h = ap trimmed_clock (sym h.is_shown) ∙ is-trimmed h.shown c h.ascii h.is

-- Words that may stand so one after the other are `count unit (and? count unit)* ago`.
use Rattle.std.proofs.Common.{arith}
use Rattle.std.proofs.Common.{◌≡◌, ◌∙◌, ◌⊎◌, inl, inr, ℕ, ℤ, Bool, true, false, List, [], ◌∷◌, refl, ap, sym, Some, None}
use Rattle.std.proofs.Math.Bool.{or-false}
use Rattle.std.proofs.lemmas.Bool.{and_parts as both, or_cases, and_from as joined-true}
use Rattle.std.specs.Option.{is_some}
use Rattle.std.specs.Prelude.{◌&&◌, ◌||◌}
use Rattle.gix_date.specs.Careful.Texts.{is_and, is_plain_count, may_follow}
use Rattle.gix_date.specs.Relative.Words.{PeriodUnit, is_ago, unit_of}
use Rattle.gix_date.specs.Relative.Roles.{has_unit}
use Rattle.gix_date.specs.Careful.Grammar.{IsUnitName, IsCountAndUnit, GoesOn, ArePairsAgo}
use Rattle.gix_date_laws.proofs.Clear.Pieces.{chain}
use Rattle.gix_date_laws.proofs.Clear.Counts.{some-of, count-plain, plain-count, count-no-unit, count-no-and, count-no-ago, and-no-count}
use Rattle.gix_date_laws.proofs.Clear.Counts.{and-no-unit, and-no-ago, ago-no-count, ago-no-unit, ago-no-and, unit-no-count, unit-no-and}
use Rattle.gix_date_laws.proofs.Clear.Counts.{unit-no-ago}
use Rattle.gix_date_laws.proofs.Clear.Units.{unit-named, named-unit}

-- what may follow a count, a unit, `and` and `ago`
after-count : (c w : List ℕ) → is_plain_count c ≡ true → may_follow c w ≡ has_unit w
after-count c w h = rw (h, count-no-unit c h, count-no-and c h) (or-false (has_unit w))

after-and : (a w : List ℕ) → is_and a ≡ true → may_follow a w ≡ is_plain_count w
after-and a w h = rw (and-no-count a h, and-no-unit a h, h) refl

unit-only : (uw pw aw gw : Bool) → ((false && uw) || ((true && (pw || aw || gw)) || (false && pw))) ≡ (pw || aw || gw)
unit-only uw false false true = refl
unit-only uw x aw gw = refl

after-unit : (u w : List ℕ) → has_unit u ≡ true → may_follow u w ≡ (is_plain_count w || is_and w || is_ago w)
after-unit u w h = rw (unit-no-count u h, h, unit-no-and u h) (unit-only (has_unit w) (is_plain_count w) (is_and w) (is_ago w))

-- a unit, as a test and as a fact
unit-is : (w : List ℕ) → has_unit w ≡ true → (u : PeriodUnit) × IsUnitName w u
unfolding has_unit
unit-is w h = let u = some-of (unit_of w) h in (u.0, unit-named w u.0 u.1)

pub is-unit : (w : List ℕ) (u : PeriodUnit) → IsUnitName w u → has_unit w ≡ true
unfolding has_unit
is-unit w u h = ap is_some (named-unit w u h)

-- Words that may stand so are pairs and `ago`.
abbrev Ends : List (List ℕ) → Type 0
Ends words = (pairs : List (ℤ × PeriodUnit)) × GoesOn pairs words

-- the words after a count are a unit and the rest
pair-of : (c unit : List ℕ) → is_plain_count c ≡ true → has_unit unit ≡ true → (pair : ℤ × PeriodUnit) × IsCountAndUnit c unit pair
pair-of c unit h u =
    let n = plain-count c h in
    let m = unit-is unit u in
    ((n.0, m.0), (n.1, m.1))

-- the three ways to go on after a unit
ago-ends : (w : List ℕ) (rest : List (List ℕ)) → is_ago w ≡ true → chain (Some w) rest ≡ true → Ends (w ∷ rest)
ago-ends w [] h e = ([], (w, refl, h))
ago-ends w (x ∷ rest) h e = grind (arith, both, chain, ago-no-count, ago-no-unit, ago-no-and)

count-ends : (w x : List ℕ) (rest : List (List ℕ)) → is_plain_count w ≡ true → chain (Some w) (x ∷ rest) ≡ true
    → (has_unit x ≡ true → chain (Some x) rest ≡ true → Ends rest) → Ends (w ∷ x ∷ rest)
count-ends w x rest h e more =
    let parts = both (may_follow w x) (chain (Some x) rest) e in
    let unit : has_unit x ≡ true = sym (after-count w x h) ∙ parts.0 in
    let pair = pair-of w x h unit in
    let end = more unit parts.1 in
    (pair.0 ∷ end.0, (w, x, rest, inl refl, pair.1, end.1))

and-ends : (w c x : List ℕ) (rest : List (List ℕ)) → is_and w ≡ true → chain (Some w) (c ∷ x ∷ rest) ≡ true
    → (has_unit x ≡ true → chain (Some x) rest ≡ true → Ends rest) → Ends (w ∷ c ∷ x ∷ rest)
and-ends w c x rest h e more =
    let first = both (may_follow w c) (chain (Some c) (x ∷ rest)) e in
    let count : is_plain_count c ≡ true = sym (after-and w c h) ∙ first.0 in
    let parts = both (may_follow c x) (chain (Some x) rest) first.1 in
    let unit : has_unit x ≡ true = sym (after-count c x count) ∙ parts.0 in
    let pair = pair-of c x count unit in
    let end = more unit parts.1 in
    (pair.0 ∷ end.0, (c, x, rest, inr (w, refl, h), pair.1, end.1))

no-count-end : (w : List ℕ) → is_plain_count w ≡ true → chain (Some w) [] ≡ true → ⊥
no-count-end w h e = let bad : true ≡ false = sym e ∙ count-no-ago w h in cc

no-and-end : (w : List ℕ) → is_and w ≡ true → chain (Some w) [] ≡ true → ⊥
no-and-end w h e = let bad : true ≡ false = sym e ∙ and-no-ago w h in cc

no-and-count-end : (w x : List ℕ) → is_and w ≡ true → chain (Some w) (x ∷ []) ≡ true → ⊥
no-and-count-end w x h e = grind (arith, both, chain, no-count-end, after-and)

abbrev Kind : List ℕ → Type 0
Kind w = (is_plain_count w ≡ true) ⊎ ((is_and w ≡ true) ⊎ (is_ago w ≡ true))

kind-of : (u w : List ℕ) → has_unit u ≡ true → may_follow u w ≡ true → Kind w
kind-of u w h e = grind (arith, or_cases, after-unit)

one-ends : (w : List ℕ) → Kind w → chain (Some w) [] ≡ true → Ends (w ∷ [])
one-ends w (inl c) e = absurd (no-count-end w c e)
one-ends w (inr (inl a)) e = absurd (no-and-end w a e)
one-ends w (inr (inr a)) e = ago-ends w [] a e

two-ends : (w x : List ℕ) → Kind w → chain (Some w) (x ∷ []) ≡ true → (has_unit x ≡ true → chain (Some x) [] ≡ true → Ends [])
    → Ends (w ∷ x ∷ [])
two-ends w x (inl c) e more = count-ends w x [] c e more
two-ends w x (inr (inl a)) e more = absurd (no-and-count-end w x a e)
two-ends w x (inr (inr a)) e more = ago-ends w (x ∷ []) a e

more-ends : (w x y : List ℕ) (rest : List (List ℕ)) → Kind w → chain (Some w) (x ∷ y ∷ rest) ≡ true
    → (has_unit x ≡ true → chain (Some x) (y ∷ rest) ≡ true → Ends (y ∷ rest))
    → (has_unit y ≡ true → chain (Some y) rest ≡ true → Ends rest) → Ends (w ∷ x ∷ y ∷ rest)
more-ends w x y rest (inl c) e first second = count-ends w x (y ∷ rest) c e first
more-ends w x y rest (inr (inl a)) e first second = and-ends w x y rest a e second
more-ends w x y rest (inr (inr a)) e first second = ago-ends w (x ∷ y ∷ rest) a e

unit-ends : (u : List ℕ) (words : List (List ℕ)) → has_unit u ≡ true → chain (Some u) words ≡ true → Ends words
unit-ends u [] h e = let bad : true ≡ false = sym e ∙ unit-no-ago u h in absurd cc
unit-ends u (w ∷ []) h e = grind (arith, both, chain, one-ends, kind-of)
unit-ends u (w ∷ x ∷ []) h e =
    let parts = both (may_follow u w) (chain (Some w) (x ∷ [])) e in
    two-ends w x (kind-of u w h parts.0) parts.1 (λ k f. unit-ends x [] k f)
unit-ends u (w ∷ x ∷ y ∷ rest) h e =
    let parts = both (may_follow u w) (chain (Some w) (x ∷ y ∷ rest)) e in
    more-ends w x y rest (kind-of u w h parts.0) parts.1 (λ k f. unit-ends x (y ∷ rest) k f) (λ k f. unit-ends y rest k f)

pub words-are : (words : List (List ℕ)) → chain None words ≡ true → (pairs : List (ℤ × PeriodUnit)) × ArePairsAgo pairs words
words-are [] e = absurd cc
words-are (c ∷ []) e = grind (arith, both, chain, no-count-end)
words-are (c ∷ unit ∷ rest) e =
    let first = both (is_plain_count c) (chain (Some c) (unit ∷ rest)) e in
    let parts = both (may_follow c unit) (chain (Some unit) rest) first.1 in
    let has : has_unit unit ≡ true = sym (after-count c unit first.0) ∙ parts.0 in
    let pair = pair-of c unit first.0 has in
    let end = unit-ends unit rest has parts.1 in
    (pair.0 ∷ end.0, (c, unit, rest, refl, pair.1, end.1))

-- The other way round.
pair-chain : (c unit : List ℕ) (pair : ℤ × PeriodUnit) (rest : List (List ℕ)) → IsCountAndUnit c unit pair → chain (Some unit) rest ≡ true
    → chain (Some c) (unit ∷ rest) ≡ true
pair-chain c unit pair rest p more =
    let follows : may_follow c unit ≡ true = after-count c unit (count-plain c pair.0 p.0).plain ∙ is-unit unit pair.1 p.1 in
    joined-true (may_follow c unit) (chain (Some unit) rest) follows more

end-chain : (u : List ℕ) (pairs : List (ℤ × PeriodUnit)) (words : List (List ℕ)) → has_unit u ≡ true → GoesOn pairs words
    → chain (Some u) words ≡ true
end-chain u [] words h g = grind (arith, after-unit, ago-no-count, ago-no-and, chain, joined-true)
end-chain u (pair ∷ pairs) words h g =
    let plain = (count-plain g.0 pair.0 g.4.0).plain in
    let more = pair-chain g.0 g.1 pair g.2 g.4 (end-chain g.1 pairs g.2 (is-unit g.1 pair.1 g.4.1) g.5) in
    by plain more g.3
  where
    by : is_plain_count g.0 ≡ true → chain (Some g.0) (g.1 ∷ g.2) ≡ true
        → (words ≡ g.0 ∷ g.1 ∷ g.2) ⊎ ((word : List ℕ) × (words ≡ word ∷ g.0 ∷ g.1 ∷ g.2) × (is_and word ≡ true))
        → chain (Some u) words ≡ true
    by plain more (inl e) =
        let follows : may_follow u g.0 ≡ true = after-unit u g.0 h ∙ rw plain refl in
        ap (chain (Some u)) e ∙ joined-true (may_follow u g.0) (chain (Some g.0) (g.1 ∷ g.2)) follows more
    by plain more (inr a) =
        let first : may_follow u a.0 ≡ true = after-unit u a.0 h ∙ rw (and-no-count a.0 a.2, a.2) refl in
        let second : may_follow a.0 g.0 ≡ true = after-and a.0 g.0 a.2 ∙ plain in
        ap (chain (Some u)) a.1 ∙ joined-true (may_follow u a.0) (chain (Some a.0) (g.0 ∷ g.1 ∷ g.2)) first
        (joined-true (may_follow a.0 g.0) (chain (Some g.0) (g.1 ∷ g.2)) second more)

pub are-words : (pairs : List (ℤ × PeriodUnit)) (words : List (List ℕ)) → ArePairsAgo pairs words → chain None words ≡ true
are-words [] words h = absurd h
are-words (pair ∷ pairs) words h =
    let plain = (count-plain h.0 pair.0 h.4.0).plain in
    ap (chain None) h.3
    ∙ joined-true (is_plain_count h.0) (chain (Some h.0) (h.1 ∷ h.2)) plain
    (pair-chain h.0 h.1 pair h.2 h.4 (end-chain h.1 pairs h.2 (is-unit h.1 pair.1 h.4.1) h.5))

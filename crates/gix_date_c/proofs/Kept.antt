-- The bytes of a part that are kept, which are put one after the other.
use Rattle.std.proofs.Common.{◌≡◌, ◌∙◌, ℕ, ◌+◌, ◌<◌, ◌≤◌, Bool, true, false, cond, List, [], ◌∷◌, ◌++◌, length, take, drop, get_or, filter}
use Rattle.std.proofs.Common.{sym, ap, ap₂, arith, length-append}
use Rattle.std.proofs.lemmas.Grind.{take_at_read}
use Rattle.std.proofs.lemmas.List.{append_assoc, append-nil, take-append-drop, length-take-le}
use Rattle.std.proofs.lemmas.List.Elements.{filter-append}
use Rattle.std.proofs.lemmas.List.Sums.{length-filter}
use Rattle.std.specs.Prelude.{Result, Ok, Err, IfErr}
use Rattle.std.specs.Result.{result_map_both}
use Rattle.gix_signature.specs.declared.error.IdentFault.{IdentFault}
use Rattle.gix_date_c.specs.Idents.{ident_status}
use Rattle.gix_date_c.specs.Values.Buffers.{with_text}
use Rattle.gix_date_c.specs.declared.values.status.Status.{Status}
use Rattle.gix_date_c.proofs.Pieces.{piece-after}

-- what is kept of one byte more
kept-next : (p : ℕ → Bool) (xs : List ℕ) (i : ℕ) → i < length xs
    → filter p (take (i + 1) xs) ≡ filter p (take i xs) ++ filter p (get_or xs i 0 ∷ [])
kept-next p xs i h = ap (λ ys. filter p ys) (take_at_read xs i 0 h).1 ∙ filter-append p (take i xs) (get_or xs i 0 ∷ [])

pub kept-yes : (p : ℕ → Bool) (xs : List ℕ) (i : ℕ) → i < length xs → p (get_or xs i 0) ≡ true
    → filter p (take (i + 1) xs) ≡ filter p (take i xs) ++ (get_or xs i 0 ∷ [])
kept-yes p xs i h is = kept-next p xs i h ∙ ap (λ b. filter p (take i xs) ++ cond b (get_or xs i 0 ∷ []) []) is

pub kept-no : (p : ℕ → Bool) (xs : List ℕ) (i : ℕ) → i < length xs → p (get_or xs i 0) ≡ false
    → filter p (take (i + 1) xs) ≡ filter p (take i xs)
kept-no p xs i h is = kept-next p xs i h ∙ ap (λ b. filter p (take i xs) ++ cond b (get_or xs i 0 ∷ []) []) is
    ∙ append-nil (filter p (take i xs))

-- what is kept of a front is no longer than what is kept of all
pub kept-within : (p : ℕ → Bool) (xs : List ℕ) (i : ℕ) → length (filter p (take i xs)) ≤ length (filter p xs)
kept-within p xs i =
    let all : filter p xs ≡ filter p (take i xs) ++ filter p (drop i xs) = ap (λ ys. filter p ys) (sym (take-append-drop i xs))
    ∙ filter-append p (take i xs) (drop i xs) in
    omega (arith, ap (λ (ys : List ℕ). length ys) all, length-append (filter p (take i xs)) (filter p (drop i xs)))

-- a piece that is put after others that lie at a place
pub put-next : (old cur new written piece : List ℕ) (at place : ℕ) → at ≤ length old → place ≡ at + length written
    → cur ≡ take at old ++ (written ++ drop place old)
    → new ≡ take place cur ++ (piece ++ drop (place + length piece) cur)
    → new ≡ take at old ++ ((written ++ piece) ++ drop (place + length piece) old)
put-next old cur new written piece at place within is_place is_cur is_new =
    let front : List ℕ = take at old ++ written in
    let long : place ≡ length front = is_place
    ∙ sym (length-append (take at old) written ∙ ap (λ n. n + length written) (length-take-le at old within)) in
    let here : cur ≡ with_text front old = is_cur ∙ sym (append_assoc (take at old) written (drop place old))
    ∙ ap (λ n. front ++ drop n old) long in
    let put : new ≡ with_text (front ++ piece) old = piece-after front piece old cur new place long here is_new in
    let after : length (front ++ piece) ≡ place + length piece = length-append front piece ∙ ap (λ n. n + length piece) (sym long) in
    put ∙ ap (λ n. (front ++ piece) ++ drop n old) after
    ∙ append_assoc front piece (drop (place + length piece) old)
    ∙ append_assoc (take at old) written (piece ++ drop (place + length piece) old)
    ∙ ap (λ ys. take at old ++ ys) (sym (append_assoc written piece (drop (place + length piece) old)))

-- a byte more, which is kept and put there
pub step-yes : (p : ℕ → Bool) (part old cur new : List ℕ) (at place next i : ℕ) → at ≤ length old → i < length part
    → p (get_or part i 0) ≡ true
    → place ≡ at + length (filter p (take i part)) → cur ≡ take at old ++ (filter p (take i part) ++ drop place old)
    → next ≡ place + 1 → new ≡ take place cur ++ ((get_or part i 0 ∷ []) ++ drop (place + 1) cur)
    → (next ≡ at + length (filter p (take (i + 1) part))) × (new ≡ take at old ++ (filter p (take (i + 1) part) ++ drop next old))
step-yes p part old cur new at place next i within inside is is_place is_cur is_next is_new =
    let more = kept-yes p part i inside is in
    let written : List ℕ = filter p (take i part) in
    let put = put-next old cur new written (get_or part i 0 ∷ []) at place within is_place is_cur is_new in (
      omega (arith, is_next, is_place, ap (λ (ys : List ℕ). length ys) more, length-append written (get_or part i 0 ∷ [])),
      put ∙ ap₂ (λ ys n. take at old ++ (ys ++ drop n old)) (sym more) (sym is_next),
    )

-- a byte more, which is left out
pub step-no : (p : ℕ → Bool) (part old cur : List ℕ) (at place i : ℕ) → i < length part → p (get_or part i 0) ≡ false
    → place ≡ at + length (filter p (take i part)) → cur ≡ take at old ++ (filter p (take i part) ++ drop place old)
    → (place ≡ at + length (filter p (take (i + 1) part))) × (cur ≡ take at old ++ (filter p (take (i + 1) part) ++ drop place old))
step-no p part old cur at place i inside is is_place is_cur =
    let more = kept-no p part i inside is in
    (is_place ∙ ap (λ ys. at + length ys) (sym more), is_cur ∙ ap (λ ys. take at old ++ (ys ++ drop place old)) (sym more))

-- a byte more has room
pub step-fits : (p : ℕ → Bool) (part : List ℕ) (at place i room : ℕ) → i < length part → p (get_or part i 0) ≡ true
    → place ≡ at + length (filter p (take i part)) → at + length (filter p part) ≤ room → place + 1 ≤ room
step-fits p part at place i room inside is is_place fits =
    let more = kept-yes p part i inside is in
    omega (
      arith,
      is_place,
      fits,
      kept-within p part (i + 1),
      ap (λ (ys : List ℕ). length ys) more,
      length-append (filter p (take i part)) (get_or part i 0 ∷ []),
    )

-- what is refused without the line is refused with it
pub refused_so : (due : Result (List ℕ) IdentFault) (r : Result (Unit {0}) Status) → r ≡ result_map_both (λ line. tt {0}) ident_status due
    → IfErr r (λ s. Err s ≡ result_map_both (λ line. line) ident_status due)
refused_so (Ok line) (Ok u) e = tt
refused_so (Ok line) (Err s) e = absurd cc
refused_so (Err fault) (Ok u) e = tt
refused_so (Err fault) (Err s) e = cc

pub ruleset kept_lengths = (length-filter)

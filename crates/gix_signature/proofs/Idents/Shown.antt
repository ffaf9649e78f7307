-- What Git shows of a line that is cut.
use Rattle.std.proofs.Common.{◌≡◌, ◌∙◌, ℕ, ◌+◌, Bool, true, false, cond, not, List, [], ◌∷◌, ◌++◌, length, take, drop, Some}
use Rattle.std.proofs.Common.{None, IsSomeAnd, refl, ap, arith, length-append}
use Rattle.std.proofs.Math.Seq.{take-append_seam, drop-append-add}
use Rattle.std.proofs.lemmas.Bool.{and_from}
use Rattle.std.proofs.lemmas.Bool.Decides.{nat_tests}
use Rattle.std.proofs.lemmas.List.{reverse-append, take-append-le, take_all}
use Rattle.std.proofs.lemmas.List.Folds.{prefix_len-append}
use Rattle.std.specs.List.{list_all, list_any, prefix_len, suffix_len, position_or_len, before_first, after_first}
use Rattle.gix_date.proofs.Text.AsciiCuts.{all-append}
use Rattle.gix_signature.specs.Signature.{Parts, is_allowed, is_part, line_of, opening, closing}
use Rattle.gix_signature.specs.Ident.Bytes.{is_opening, is_closing, is_blank, ends_line}
use Rattle.gix_signature.specs.Ident.Texts.{without_end}
use Rattle.gix_signature.specs.Ident.Parts.{IdentText, line_parts, has_identity, date_parts, date_text}
use Rattle.gix_signature.specs.Ident.Laws.{CutIsShown}
use Rattle.gix_signature.proofs.Cuts.{ArePlain, plain, all-of, marked, no-opening, after_name}
use Rattle.gix_signature.proofs.Texts.{one_there, passed}

-- all of a run at the front passes
pub run-all : (p : ℕ → Bool) (xs : List ℕ) → list_all p xs ≡ true → prefix_len p xs ≡ length xs
run-all p xs h = let all = passed p xs in grind (arith, nat_tests, all, h)

-- a run ends before a byte that does not pass
pub run-len : (p : ℕ → Bool) (xs ys : List ℕ) (c : ℕ) → list_all p xs ≡ true → p c ≡ false → prefix_len p (xs ++ (c ∷ ys)) ≡ length xs
run-len p xs ys c h k =
    let whole = prefix_len-append p xs (c ∷ ys) in
    let all = passed p xs in
    grind (arith, nat_tests, whole, all, h, k)

-- the first byte that passes, after some that do not
pub place-at : (p : ℕ → Bool) (xs ys : List ℕ) (c : ℕ) → list_all (λ b. not (p b)) xs ≡ true → p c ≡ true
    → position_or_len p (xs ++ (c ∷ ys)) ≡ length xs
place-at p xs ys c others is = run-len (λ b. not (p b)) xs ys c others (ap not is)

pub before-at : (p : ℕ → Bool) (xs ys : List ℕ) (c : ℕ) → list_all (λ b. not (p b)) xs ≡ true → p c ≡ true
    → before_first p (xs ++ (c ∷ ys)) ≡ xs
before-at p xs ys c others is = ap (λ n. take n (xs ++ (c ∷ ys))) (place-at p xs ys c others is) ∙ take-append_seam xs (c ∷ ys)

pub after-at : (p : ℕ → Bool) (xs ys : List ℕ) (c : ℕ) → list_all (λ b. not (p b)) xs ≡ true → p c ≡ true
    → after_first p (xs ++ (c ∷ ys)) ≡ ys
after-at p xs ys c others is = ap (λ n. drop (n + 1) (xs ++ (c ∷ ys))) (place-at p xs ys c others is) ∙ drop-append-add xs (c ∷ ys) 1

pub there-at : (p : ℕ → Bool) (xs ys : List ℕ) (c : ℕ) → list_all (λ b. not (p b)) xs ≡ true → p c ≡ true
    → list_any p (xs ++ (c ∷ ys)) ≡ true
there-at p xs ys c others is = grind (arith, one_there, place-at, length-append)

-- one more byte at the end
pub last-len : (p : ℕ → Bool) (xs : List ℕ) (c : ℕ) → suffix_len p (xs ++ (c ∷ [])) ≡ cond (p c) (1 + suffix_len p xs) 0
last-len p xs c = ap (λ ys. prefix_len p ys) (reverse-append xs (c ∷ []))

-- blanks at the end are cut, one more or not
pub end-more : (p : ℕ → Bool) (xs : List ℕ) (c : ℕ) → p c ≡ true → without_end p (xs ++ (c ∷ [])) ≡ without_end p xs
end-more p xs c is = grind (arith, last-len, length-append, take-append-le)

-- what ends with another byte keeps its end
pub end-stays : (p : ℕ → Bool) (xs : List ℕ) (c : ℕ) → p c ≡ false → without_end p (xs ++ (c ∷ [])) ≡ xs ++ (c ∷ [])
end-stays p xs c h = grind (arith, last-len, take_all)

-- no byte of a line that is cut ends it
abbrev pub goes_on : ℕ → Bool
goes_on c = not (ends_line c)

abbrev pub not_closing : ℕ → Bool
not_closing c = not (is_closing c)

on : (xs : List ℕ) → is_part xs ≡ true → list_all goes_on xs ≡ true
on = all-of is_allowed goes_on (λ c h. grind (arith, nat_tests, h))

pub no-closing : (xs : List ℕ) → is_part xs ≡ true → list_all not_closing xs ≡ true
no-closing = all-of is_allowed not_closing (λ c h. grind (arith, nat_tests, h))

pub all-on : (p : Parts) → ArePlain p → list_all goes_on (line_of p) ≡ true
all-on p are = grind (arith, all-append, after_name, on)

-- without such a byte all of a text stands before it
pub all_stand_before : (p : ℕ → Bool) (xs : List ℕ) → list_all (λ c. not (p c)) xs ≡ true → before_first p xs ≡ xs
all_stand_before p xs h = ap (λ n. take n xs) (run-all (λ c. not (p c)) xs h) ∙ take_all (length xs) xs (omega arith)

-- the name with the space after it, and what stands between the brackets
pub record Cut (line : List ℕ) (p : Parts) : Type 0 where
  pub has : has_identity line ≡ true
  pub name : before_first is_opening line ≡ p.name ++ (32 ∷ [])
  pub rest : after_first is_opening line ≡ p.email ++ (closing ∷ (32 ∷ p.time))
  pub email : before_first is_closing (after_first is_opening line) ≡ p.email

pub cut-of : (p : Parts) → ArePlain p → Cut (line_of p) p
cut-of p are =
    let blank : List ℕ = 32 ∷ [] in
    let front : list_all (λ b. not (is_opening b)) (p.name ++ blank) ≡ true =
    all-append (λ b. not (is_opening b)) p.name blank (no-opening p.name are.name) refl in
    let same : line_of p ≡ (p.name ++ blank) ++ (opening ∷ after_name p) = marked p.name (after_name p) in
    let rest : after_first is_opening (line_of p) ≡ p.email ++ (closing ∷ (32 ∷ p.time)) =
    ap (λ l. after_first is_opening l) same ∙ after-at is_opening (p.name ++ blank) (after_name p) opening front refl in
    let closes = no-closing p.email are.email in
    record {
      has = and_from (list_any is_opening (line_of p)) (list_any is_closing (after_first is_opening (line_of p)))
          (ap (λ l. list_any is_opening l) same ∙ there-at is_opening (p.name ++ blank) (after_name p) opening front refl)
          (ap (λ l. list_any is_closing l) rest ∙ there-at is_closing p.email (32 ∷ p.time) closing closes refl);
      rest = rest;
      name = ap (λ l. before_first is_opening l) same ∙ before-at is_opening (p.name ++ blank) (after_name p) opening front refl;
      email = ap (λ l. before_first is_closing l) rest ∙ before-at is_closing p.email (32 ∷ p.time) closing closes refl;
    }

shown-by : (line : List ℕ) (p : Parts) → Cut line p → (b : Bool) → has_identity line ≡ b → b ≡ true
    → IsSomeAnd (cond b (Some (record {
      name = without_end is_blank (before_first is_opening line);
      email =
          before_first is_closing (after_first is_opening line);
      date = date_parts (date_text line);
    })) None)
    (λ (i : IdentText). (i.name ≡ without_end is_blank p.name) × (i.email ≡ p.email))
shown-by line p cut true e t = (ap (λ l. without_end is_blank l) cut.name ∙ end-more is_blank p.name 32 refl, cut.email)
shown-by line p cut false e t = absurd cc

shown : (line : List ℕ) (p : Parts) → Cut line p
    → IsSomeAnd (line_parts line) (λ (i : IdentText). (i.name ≡ without_end is_blank p.name) × (i.email ≡ p.email))
unfolding line_parts
shown line p cut = shown-by line p cut (has_identity line) refl cut.has

pub cut_is_shown : (line : List ℕ) → CutIsShown line
cut_is_shown line p h =
    let are = plain p h.allowed in
    let cut = cut-of p are in
    rw (h.whole, all_stand_before ends_line (line_of p) (all-on p are)) (shown (line_of p) p cut)

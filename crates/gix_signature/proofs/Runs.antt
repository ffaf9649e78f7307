-- Parts of lines, and where a line is cut at them.
use Rattle.std.proofs.Common.{◌≡◌, ◌≢◌, ◌∙◌, ℕ, Bool, true, false, ◌==◌, List, [], ◌∷◌, ◌++◌, length, take, drop}
use Rattle.std.proofs.Common.{ap, ap₂, sym, get_or, reverse, arith, length-append}
use Rattle.std.proofs.Math.Seq.{drop-append_seam}
use Rattle.std.proofs.lemmas.List.{take-append-drop, reverse-append}
use Rattle.std.specs.List.{list_all, prefix_len, IsLastAndRest}
use Rattle.gix_signature.specs.Signature.{is_allowed, is_part}
use Rattle.gix_signature.proofs.Texts.{passed}
use Rattle.gix_signature.proofs.Idents.Near.{run-passes}
use Rattle.gix_signature.proofs.Idents.Shown.{run-len}

-- all bytes pass where the run at the front is the whole
pub all_passed : (text : List ℕ) (n : ℕ) → n ≡ prefix_len is_allowed text → (n == length text) ≡ is_part text
all_passed text n at = ap (λ k. k == length text) at ∙ passed is_allowed text

-- what stands from the first byte on that does not pass
rest-at : (p : ℕ → Bool) (xs ys : List ℕ) (c : ℕ) → list_all p xs ≡ true → p c ≡ false
    → drop (prefix_len p (xs ++ (c ∷ ys))) (xs ++ (c ∷ ys)) ≡ c ∷ ys
rest-at p xs ys c h k = rw (run-len p xs ys c h k) (drop-append_seam xs (c ∷ ys))

pub cut_is : (text part rest more : List ℕ) (n byte : ℕ) → n ≡ prefix_len is_allowed text → part ≡ take n text → rest ≡ drop n text
    → rest ≡ (byte ∷ []) ++ more → (text ≡ part ++ (byte ∷ more)) × (is_part part ≡ true)
cut_is text part rest more n byte at is_part_of is_rest h = (
  sym (take-append-drop n text) ∙ ap₂ (λ a b. a ++ b) (sym is_part_of) (sym is_rest ∙ h),
  ap is_part (is_part_of ∙ ap (λ k. take k text) at) ∙ run-passes is_allowed text,
)

pub cut_none : (text rest : List ℕ) (n byte : ℕ) → n ≡ prefix_len is_allowed text → rest ≡ drop n text → is_allowed byte ≡ false
    → ((more : List ℕ) → rest ≢ (byte ∷ []) ++ more) → (part more : List ℕ) → is_part part ≡ true → text ≢ part ++ (byte ∷ more)
cut_none text rest n byte at is_rest ends none part more passes whole =
    none more
    (is_rest ∙ ap (λ k. drop k text) at ∙ ap (λ l. drop (prefix_len is_allowed l) l) whole ∙ rest-at is_allowed part more byte passes ends)

-- the last byte of a text
last-same : (xs ys : List ℕ) (a b : ℕ) → xs ++ (a ∷ []) ≡ ys ++ (b ∷ []) → a ≡ b
last-same xs ys a b e =
    ap (λ l. get_or l 0 0) (sym (reverse-append xs (a ∷ [])) ∙ ap (λ (l : List ℕ). reverse l) e ∙ reverse-append ys (b ∷ []))

pub no_last : (text name front : List ℕ) (last byte : ℕ) → IsLastAndRest text last front → last ≢ byte → text ≢ name ++ (byte ∷ [])
no_last text name front last byte is other e =
    other (last-same front name last byte (sym is.0 ∙ e))

pub none_last : (text name : List ℕ) (byte : ℕ) → length text ≡ 0 → text ≢ name ++ (byte ∷ [])
none_last text name byte none e = omega (arith, none, ap (λ (l : List ℕ). length l) e, length-append name (byte ∷ []))

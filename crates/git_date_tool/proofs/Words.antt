-- Words of letters and digits.
use Rattle.std.proofs.Common.{ℕ, ◌+◌, ◌<◌, ◌≤◌, length, cond, true, false, Bool, ◌≡◌, List, [], ◌∷◌, suc, zero, take, arith, refl, sym}
use Rattle.std.proofs.Common.{subst}
use Rattle.std.proofs.lemmas.List.Sums.{prefix_len-le-length}
use Rattle.std.proofs.lemmas.Str.{IsUtf8-from_ascii}
use Rattle.std.specs.Char.{is_ascii_alphanumeric}
use Rattle.std.specs.List.{prefix_len}
use Rattle.std.specs.Prelude.{IsAscii, IsUtf8, ◌==◌, ◌||◌}
use Rattle.gix_date.specs.Text.Characters.{minus, plus}
use Rattle.git_date_tool.specs.Answers.Warnings.{word_len}

-- a letter or a digit is ASCII
byte_is_ascii : (b : ℕ) → is_ascii_alphanumeric b ≡ true → b < 128
byte_is_ascii b h = grind (arith, h)

nothing_is_ascii : IsAscii []
nothing_is_ascii i = omega arith

more_is_ascii : (b : ℕ) (bs : List ℕ) → b < 128 → IsAscii bs → IsAscii (b ∷ bs)
more_is_ascii b bs h k zero = h
more_is_ascii b bs h k (suc i) = k i

-- so are those in front
word_by : (b : ℕ) (bs : List ℕ) (passes : Bool) → is_ascii_alphanumeric b ≡ passes → IsAscii (take (prefix_len is_ascii_alphanumeric bs) bs)
    → IsAscii (take (prefix_len is_ascii_alphanumeric (b ∷ bs)) (b ∷ bs))
word_by b bs true e h =
    let n = prefix_len is_ascii_alphanumeric bs in
    let one : 1 + n ≡ suc n = omega arith in
    rw e (subst (λ (k : ℕ). IsAscii (take k (b ∷ bs))) (sym one) (more_is_ascii b (take n bs) (byte_is_ascii b e) h))
word_by b bs false e h = rw e nothing_is_ascii

letters_are_ascii : (text : List ℕ) → IsAscii (take (prefix_len is_ascii_alphanumeric text) text)
letters_are_ascii [] = nothing_is_ascii
letters_are_ascii (b ∷ bs) = word_by b bs (is_ascii_alphanumeric b) refl (letters_are_ascii bs)

pub letters_within : (text : List ℕ) → prefix_len is_ascii_alphanumeric text ≤ length text
letters_within text = prefix_len-le-length is_ascii_alphanumeric text

signed_within : (b : ℕ) (bs : List ℕ) (sign : Bool)
    → cond sign (1 + prefix_len is_ascii_alphanumeric bs) (prefix_len is_ascii_alphanumeric (b ∷ bs)) ≤ length (b ∷ bs)
signed_within b bs true = let h = letters_within bs in omega (arith, h)
signed_within b bs false = letters_within (b ∷ bs)

pub word_within : (text : List ℕ) → word_len text ≤ length text
word_within [] = omega arith
word_within (b ∷ bs) = signed_within b bs (b == plus || b == minus)

-- a sign in front is ASCII too
sign_by : (b : ℕ) (bs : List ℕ) (sign : Bool) → (b == plus || b == minus) ≡ sign
    → IsAscii (take (cond sign (1 + prefix_len is_ascii_alphanumeric bs) (prefix_len is_ascii_alphanumeric (b ∷ bs))) (b ∷ bs))
sign_by b bs true e =
    let n = prefix_len is_ascii_alphanumeric bs in
    let one : 1 + n ≡ suc n = omega arith in
    subst (λ (k : ℕ). IsAscii (take k (b ∷ bs))) (sym one) (more_is_ascii b (take n bs) (grind (arith, e)) (letters_are_ascii bs))
sign_by b bs false e = letters_are_ascii (b ∷ bs)

word_is_ascii : (text : List ℕ) → IsAscii (take (word_len text) text)
word_is_ascii [] = nothing_is_ascii
word_is_ascii (b ∷ bs) = sign_by b bs (b == plus || b == minus) refl

pub word_is_utf8 : (text : List ℕ) (n : ℕ) → n ≡ word_len text → IsUtf8 (take n text)
word_is_utf8 text n is =
    subst (λ (k : ℕ). IsUtf8 (take k text)) (sym is) (IsUtf8-from_ascii (take (word_len text) text) (word_is_ascii text))

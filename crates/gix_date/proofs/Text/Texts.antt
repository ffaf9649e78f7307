-- Bytes that may be no text.
use Rattle.std.proofs.Common.{◌≡◌, ℕ, List, false, cond, ap}
use Rattle.std.proofs.lemmas.Bool.{false_from_ne_true as false_unless}
use Rattle.std.proofs.lemmas.Str.{is_utf8-from_IsUtf8, IsUtf8-from_is_utf8}
use Rattle.std.specs.Str.{is_utf8, IsUtf8}

-- bytes that are no text
pub no_text : (bytes : List ℕ) → (IsUtf8 bytes → ⊥) → is_utf8 bytes ≡ false
no_text bytes h = false_unless (is_utf8 bytes) (λ u. h (IsUtf8-from_is_utf8 bytes u))

-- a choice by whether the bytes are text, where they are
pub if_text : {T : Type 0} (bytes : List ℕ) (x y : T) → IsUtf8 bytes → cond (is_utf8 bytes) x y ≡ x
if_text bytes x y h = ap (λ b. cond b x y) (is_utf8-from_IsUtf8 bytes h)

-- and where they are not
pub if_no_text : {T : Type 0} (bytes : List ℕ) (x y : T) → (IsUtf8 bytes → ⊥) → cond (is_utf8 bytes) x y ≡ y
if_no_text bytes x y h = ap (λ b. cond b x y) (no_text bytes h)

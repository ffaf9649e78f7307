-- Pieces that are put into a buffer, one after the other.
use Rattle.std.proofs.Common.{◌≡◌, ◌∙◌, ℕ, ◌+◌, List, [], ◌++◌, take, drop, length, codes, refl, sym, ap, ap₂}
use Rattle.std.proofs.Math.Nat.{zero-add}
use Rattle.std.proofs.Math.Seq.{take-append_seam, drop-append-add}
use Rattle.std.proofs.lemmas.List.{append_assoc, drop-drop, length-append}
use Rattle.gix_date_c.specs.Values.Buffers.{with_text}

-- a piece that is put after what is at the front lies after it
pub piece-after : (front piece old cur new : List ℕ) (at : ℕ) → at ≡ length front → cur ≡ with_text front old
    → new ≡ take at cur ++ (piece ++ drop (at + length piece) cur) → new ≡ with_text (front ++ piece) old
piece-after front piece old cur new at is_at is_cur is_new =
    let before : take (length front) (with_text front old) ≡ front = take-append_seam front (drop (length front) old) in
    let after : drop (length front + length piece) (with_text front old) ≡ drop (length (front ++ piece)) old =
    drop-append-add front (drop (length front) old) (length piece)
    ∙ drop-drop (length piece) (length front) old ∙ ap (λ n. drop n old) (sym (length-append front piece)) in
    let put : new ≡ front ++ (piece ++ drop (length (front ++ piece)) old) =
    is_new ∙ rw (is_at, is_cur) (ap₂ (λ x y. x ++ (piece ++ y)) before after) in
    put ∙ sym (append_assoc front piece (drop (length (front ++ piece)) old))

-- five pieces, one after the other
five-pieces : (a b c d e : List ℕ) → (((a ++ b) ++ c) ++ d) ++ e ≡ a ++ (b ++ (c ++ (d ++ e)))
five-pieces a b c d e = simp append_assoc

-- three pieces, of which each is put after those before it
pub three_put : (a b c old one two new : List ℕ) (i j : ℕ) → one ≡ take 0 old ++ (a ++ drop (0 + length a) old) → i ≡ 0 + length a
    → two ≡ take i one ++ (b ++ drop (i + length b) one) → j ≡ i + length b → new ≡ take j two ++ (c ++ drop (j + length c) two)
    → new ≡ with_text (a ++ (b ++ c)) old
three_put a b c old one two new i j is_one is_i is_two is_j is_new =
    let first : one ≡ with_text a old = piece-after [] a old old one 0 refl refl is_one in
    let at_i : i ≡ length a = is_i ∙ zero-add (length a) in
    let second = piece-after a b old one two i at_i first is_two in
    let at_j : j ≡ length (a ++ b) = is_j ∙ ap (λ n. n + length b) at_i ∙ sym (length-append a b) in
    piece-after (a ++ b) c old two new j at_j second is_new ∙ ap (λ path. with_text path old) (append_assoc a b c)

-- the pieces of a line
pub line_put : (name email time old one two three four new : List ℕ) (i j k n : ℕ)
    → one ≡ take 0 old ++ (name ++ drop (0 + length name) old)
    → i ≡ 0 + length name
    → two ≡ take i one ++ (codes " <" ++ drop (i + length (codes " <")) one) → j ≡ i + length (codes " <")
    → three ≡ take j two ++ (email ++ drop (j + length email) two) → k ≡ j + length email
    → four ≡ take k three ++ (codes "> " ++ drop (k + length (codes "> ")) three) → n ≡ k + length (codes "> ")
    → new ≡ take n four ++ (time ++ drop (n + length time) four)
    → new ≡ with_text (name ++ (codes " <" ++ (email ++ (codes "> " ++ time)))) old
line_put name email time old one two three four new i j k n is_one is_i is_two is_j is_three is_k is_four is_n is_new =
    let first : one ≡ with_text name old = piece-after [] name old old one 0 refl refl is_one in
    let at_i : i ≡ length name = is_i ∙ zero-add (length name) in
    let second = piece-after name (codes " <") old one two i at_i first is_two in
    let at_j : j ≡ length (name ++ codes " <") = is_j ∙ ap (λ n. n + 2) at_i ∙ sym (length-append name (codes " <")) in
    let third = piece-after (name ++ codes " <") email old two three j at_j second is_three in
    let at_k : k ≡ length ((name ++ codes " <") ++ email) = is_k ∙ ap (λ n. n + length email) at_j
    ∙ sym (length-append (name ++ codes " <") email) in
    let fourth = piece-after ((name ++ codes " <") ++ email) (codes "> ") old three four k at_k third is_four in
    let at_n : n ≡ length (((name ++ codes " <") ++ email) ++ codes "> ") =
    is_n ∙ ap (λ n. n + 2) at_k ∙ sym (length-append ((name ++ codes " <") ++ email) (codes "> ")) in
    piece-after (((name ++ codes " <") ++ email) ++ codes "> ") time old four new n at_n fourth is_new
    ∙ ap (λ line. with_text line old) (five-pieces name (codes " <") email (codes "> ") time)

-- How far the identity lines of a block are told of, line by line.
use Rattle.std.proofs.Common.{◌≡◌, ◌∙◌, ◌⊎◌, inl, inr, ℕ, ℤ, ◌+◌, ◌-◌, ◌<◌, ◌≤◌, ◌^◌, Bool, ◌==◌, List, [], ◌∷◌, ◌++◌, length, refl, sym}
use Rattle.std.proofs.Common.{ap, subst, arith}
use Rattle.std.proofs.Common.{length-append, Option, Some, None, option_map, ok_or, Result, Ok, Err, IfOk, length-take}
use Rattle.std.proofs.Math.Nat.{add-zero, zero-add}
use Rattle.std.proofs.lemmas.List.Sums.{prefix_len-le-length}
use Rattle.std.specs.List.{flat_map, position_or_len}
use Rattle.std.specs.Result.{result_unwrap_or}
use Rattle.gix_date.specs.Text.Characters.{newline}
use Rattle.gix_signature.specs.Ident.Bytes.{is_opening, ends_line}
use Rattle.gix_signature.specs.Ident.Again.{is_line_of}
use Rattle.gix_signature.specs.Ident.Fsck.{fsck_of}
use Rattle.gix_signature.specs.Ident.Parts.{DateText, IdentText, ident_parts, ident_places}
use Rattle.gix_signature.specs.Ident.Times.{git_time}
use Rattle.gix_signature.specs.Ident.Texts.{whole_line}
use Rattle.gix_signature.specs.declared.ident.GitTime.{GitTime}
use Rattle.streams.specs.Lines.{IsCutAfter, with_newline}
use Rattle.gix_date_c.specs.Idents.{fsck_number, git_time_for_c, ident_answer, ident_for_c, time_shown}
use Rattle.gix_date_c.specs.Lines.Columns.{status_after}
use Rattle.gix_date_c.specs.Lines.Idents.{FitsInBlock, IdentColumns, TellsIdents, ident_in_block, ident_room, idents_after}
use Rattle.gix_date_c.specs.Lines.Idents.{placed_lines, shown_offset_after, shown_seconds_after, with_ident}
use Rattle.gix_date_c.specs.Values.Statuses.{number_of}
use Rattle.gix_date_c.specs.declared.ident.CIdent.{CIdent}
use Rattle.gix_date_c.specs.declared.values.status.Status.{Status}
use Rattle.gix_date_c.specs.declared.values.status.Status.TheVariants.{Done, NoIdentity}
use Rattle.gix_date_c.proofs.Blocks.Columns.{changed-by, changed-kept, changed-set}
use Rattle.gix_date_c.proofs.Blocks.Parts.{SoFar, SoFar-before, SoFar-first, SoFar-next, SoFar-none}

pub length-placed : (before : ℕ) (lines : List (List ℕ)) → length (placed_lines before lines) ≡ length lines
length-placed before [] = refl
length-placed before (l ∷ lines) = omega (arith, length-placed (before + length (with_newline l)) lines)

-- one line more, and how many bytes stand before it
placed-next : (before : ℕ) (lines : List (List ℕ)) (line : List ℕ)
    → placed_lines before (lines ++ line ∷ []) ≡ placed_lines before lines ++ (before + length (flat_map with_newline lines), line) ∷ []
placed-next before [] line = ap (λ (n : ℕ). (n, line) ∷ []) (sym (add-zero before))
placed-next before (l ∷ lines) line =
    let next = before + length (with_newline l) in
    let rest = flat_map with_newline lines in
    let sum : next + length rest ≡ before + length (with_newline l ++ rest) = omega (arith, length-append (with_newline l) rest) in
    ap (λ more. (before, l) ∷ more)
    (placed-next next lines line ∙ ap (λ (n : ℕ). placed_lines next lines ++ (n, line) ∷ []) sum)

-- the arrays, as a call has them
abbrev pub columns : List CIdent → List ℤ → List ℤ → List ℕ → List ℕ → IdentColumns
columns p s o m n = record { parts = p; seconds = s; offsets = o; messages = m; statuses = n }

same-columns : (p p' : List CIdent) (s s' o o' : List ℤ) (m m' n n' : List ℕ) → p ≡ p' → s ≡ s' → o ≡ o' → m ≡ m' → n ≡ n'
    → columns p s o m n ≡ columns p' s' o' m' n'
same-columns p p' s s' o o' m m' n n' a b c d e = cc

-- one line more, of which this is answered
told-next : (lines : List (ℕ × List ℕ)) (line : ℕ × List ℕ) (answer : Result CIdent Status) (old : IdentColumns)
    → ident_in_block line ≡ answer
    → with_ident (length lines) answer (fsck_number (fsck_of line.1)) (idents_after lines old) ≡ idents_after (lines ++ line ∷ []) old
told-next lines line (Ok parts) old is =
    same-columns _ _ _ _ _ _ _ _ _ _
    (sym (changed-set (λ line cell. result_unwrap_or (ident_in_block line) cell) lines line old.parts parts
    (λ cell. ap (λ a. result_unwrap_or a cell) is)))
    (sym (changed-by (parts.has_date == 0) (λ line. shown_seconds_after (ident_in_block line)) lines line old.seconds parts.shown.seconds
    (λ cell. ap (λ a. shown_seconds_after a cell) is)))
    (sym (changed-by (parts.has_date == 0) (λ line. shown_offset_after (ident_in_block line)) lines line old.offsets parts.shown.offset
    (λ cell. ap (λ a. shown_offset_after a cell) is)))
    (sym (changed-set (λ line cell. fsck_number (fsck_of line.1)) lines line old.messages (fsck_number (fsck_of line.1)) (λ cell. refl)))
    (sym (changed-set (λ line. status_after (ident_in_block line)) lines line old.statuses (number_of Done)
    (λ cell. ap (λ a. status_after a cell) is)))
told-next lines line (Err refusal) old is =
    same-columns _ _ _ _ _ _ _ _ _ _
    (sym (changed-kept (λ line cell. result_unwrap_or (ident_in_block line) cell) lines line old.parts
    (λ cell. ap (λ a. result_unwrap_or a cell) is)))
    (sym (changed-kept (λ line. shown_seconds_after (ident_in_block line)) lines line old.seconds
    (λ cell. ap (λ a. shown_seconds_after a cell) is)))
    (sym (changed-kept (λ line. shown_offset_after (ident_in_block line)) lines line old.offsets
    (λ cell. ap (λ a. shown_offset_after a cell) is)))
    (sym (changed-set (λ line cell. fsck_number (fsck_of line.1)) lines line old.messages (fsck_number (fsck_of line.1)) (λ cell. refl)))
    (sym (changed-set (λ line. status_after (ident_in_block line)) lines line old.statuses (number_of refusal)
    (λ cell. ap (λ a. status_after a cell) is)))

-- so many lines of a block are told of, and this is left
pub record Telling (block : List ℕ) (old new : IdentColumns) (far : List ℕ × ℕ) : Type 0 where
  pub lines : List (List ℕ)
  pub so_far : SoFar block far.0 lines
  pub stored : new ≡ idents_after (placed_lines 0 lines) old
  pub counted : far.1 ≡ length lines
  pub within : far.1 ≤ ident_room old

pub Telling-none : (block : List ℕ) (old : IdentColumns) → Telling block old old (block, 0)
Telling-none block old = record { lines = []; so_far = SoFar-none block; stored = refl; counted = refl; within = omega arith }

pub Telling-next : (block : List ℕ) (old new newer : IdentColumns) (left line after : List ℕ) (done : ℕ)
    → Telling block old new (left, done) → done < ident_room old → IsCutAfter left (line, after)
    → newer ≡ with_ident done (ident_in_block (length block - length left, line)) (fsck_number (fsck_of line)) new
    → Telling block old newer (after, done + 1)
Telling-next block old new newer left line after done h room cut put =
    let placed = placed_lines 0 h.lines in
    let here : ℕ × List ℕ = (length block - length left, line) in
    let many : done ≡ length placed = h.counted ∙ sym (length-placed 0 h.lines) in
    let bytes = SoFar-before block left line after h.lines h.so_far cut in
    let stands : 0 + length (flat_map with_newline h.lines) ≡ length block - length left = zero-add _ ∙ sym bytes in
    let all : placed_lines 0 (h.lines ++ line ∷ []) ≡ placed ++ here ∷ [] =
    placed-next 0 h.lines line ∙ ap (λ (n : ℕ). placed ++ (n, line) ∷ []) stands in
    record {
      lines = h.lines ++ line ∷ [];
      so_far = SoFar-next block left line after h.lines h.so_far cut;
      stored = put ∙ ap (λ n. with_ident n (ident_in_block here) (fsck_number (fsck_of line)) new) many
          ∙ ap (λ cells. with_ident (length placed) (ident_in_block here) (fsck_number (fsck_of line)) cells) h.stored
          ∙ told-next placed here (ident_in_block here) old refl ∙ ap (λ lines. idents_after lines old) (sym all);
      counted = omega (arith, length-append h.lines (line ∷ []), h.counted);
      within = omega arith;
    }

pub Telling-all : (block : List ℕ) (old new : IdentColumns) (left : List ℕ) (done : ℕ) → Telling block old new (left, done)
    → (left ≡ []) ⊎ (done ≡ ident_room old) → TellsIdents block old new (done, length block - length left)
Telling-all block old new left done h end = record {
  lines = h.lines;
  first = SoFar-first block left h.lines (ident_room old) h.so_far (subst (λ n. n ≤ ident_room old) h.counted h.within)
      (subst (λ n. (left ≡ []) ⊎ (n ≡ ident_room old)) h.counted end);
  stored = h.stored;
  counted = h.counted;
}

-- a line and the bytes before it are no more than the block
cut-within : (left line after : List ℕ) → IsCutAfter left (line, after) → length line ≤ length left
cut-within left line after (is_line, inl cut) = omega (arith, ap (λ (xs : List ℕ). length xs) cut, length-append line (newline ∷ after))
cut-within left line after (is_line, inr last) = omega (arith, ap (λ (xs : List ℕ). length xs) last.0)

line-within : (block left line after : List ℕ) (lines : List (List ℕ)) → SoFar block left lines → IsCutAfter left (line, after)
    → (length block - length left) + length line ≤ length block
line-within block left line after lines far cut =
    let p = far.part in
    let whole : length block ≡ length p.front + length p.beyond =
    ap (λ (xs : List ℕ). length xs) p.whole ∙ length-append p.front p.beyond in
    let same : length left ≡ length p.beyond = ap (λ (xs : List ℕ). length xs) far.left_is in
    omega (arith, cut-within left line after cut, whole, same)

-- 64 bits hold the places of a line in a block that they hold
fits-by : (before : ℕ) (line : List ℕ) (parts : Option IdentText) (is_back : IdentText → Bool) → before + length line < 2 ^ 63
    → IfOk (ok_or (option_map (λ i. ident_for_c (ident_places line) (is_back i) i) parts) NoIdentity) (FitsInBlock before)
fits-by before line None is_back h = tt
fits-by before line (Some i) is_back h =
    let short : length (whole_line line) ≤ length line = omega (arith, length-take (position_or_len ends_line line) line) in
    let opens : position_or_len is_opening (whole_line line) ≤ length (whole_line line) = prefix_len-le-length _ (whole_line line) in
    record { name = omega arith; email = omega arith; rest = omega arith; seconds = omega arith; offset = omega arith }

pub fits : (block left line after : List ℕ) (lines : List (List ℕ)) (answer : Result CIdent Status) → SoFar block left lines
    → IsCutAfter left (line, after) → length block < 2 ^ 63 → answer ≡ ident_answer line
    → IfOk answer (FitsInBlock (length block - length left))
fits block left line after lines answer far cut size is =
    let before = length block - length left in
    let within : before + length line < 2 ^ 63 = omega (arith, line-within block left line after lines far cut) in
    subst (λ a. IfOk a (FitsInBlock before)) (sym is)
    (fits-by before line (ident_parts line) (λ i. is_line_of (whole_line line) i) within)

-- the time of a date that is shown
pub usual_time : (date : Option DateText) (t : GitTime) → option_map git_time date ≡ Some t → git_time_for_c t ≡ time_shown date
usual_time None t h = absurd cc
usual_time (Some d) t h = let same : git_time d ≡ t = cc in ap git_time_for_c (sym same)

-- Where the lines of a block stand, and what the cells of an identity line hold after a call.
use Rattle.std.proofs.Common.{◌≡◌, ◌∙◌, ℕ, zero, suc, ◌+◌, ◌<◌, List, [], ◌∷◌, ◌++◌, length, take, drop, get_or, slice_get, refl, sym, ap}
use Rattle.std.proofs.Common.{ap₂, subst, arith}
use Rattle.std.proofs.Common.{append_assoc, length-append, Option, Some, None, IfSome, IfOk, option_map, ok_or, Bool, ◌-◌, ◌≤◌}
use Rattle.std.proofs.Math.Nat.{add-zero, zero-add}
use Rattle.std.proofs.Math.Seq.{take-append_seam, drop-append_seam, drop-append-add}
use Rattle.std.specs.List.{flat_map, position_or_len}
use Rattle.std.specs.Result.{result_unwrap_or}
use Rattle.gix_date.specs.Text.Characters.{newline}
use Rattle.gix_signature.specs.Ident.Fsck.{fsck_of}
use Rattle.gix_signature.specs.Signature.{closing}
use Rattle.gix_signature.specs.Ident.Again.{is_line_of}
use Rattle.gix_signature.specs.Ident.Bytes.{ends_line}
use Rattle.gix_signature.specs.Ident.Laws.{HaveTheirPlaces, StandsAt}
use Rattle.gix_signature.specs.Ident.Parts.{DateText, IdentText, ident_parts, ident_places}
use Rattle.gix_signature.specs.Ident.Texts.{whole_line}
use Rattle.gix_signature.specs.declared.ident.IdentPlaces.{IdentPlaces}
use Rattle.gix_signature.proofs.Idents.Places.{places_hold}
use Rattle.std.proofs.lemmas.List.{drop-take, take-take, drop-drop, length-take, length-drop}
use Rattle.streams.specs.Lines.{last_line, with_newline}
use Rattle.gix_date_c.specs.Idents.{fsck_number, ident_for_c}
use Rattle.gix_date_c.specs.Laws.{HoldsIdent, IdentLinesAreTold, PartsStand}
use Rattle.gix_date_c.specs.Lines.Columns.{changed, status_after}
use Rattle.gix_date_c.specs.Lines.Idents.{IdentColumns, answer_in_block, parts_in_block, ident_in_block, idents_after, placed_lines}
use Rattle.gix_date_c.specs.Lines.Idents.{shown_offset_after, shown_seconds_after}
use Rattle.gix_date_c.specs.declared.values.status.Status.TheVariants.{NoIdentity}
use Rattle.gix_date_c.proofs.Blocks.Idents.{length-placed}

four : (a b c d : List ℕ) → ((a ++ b) ++ c) ++ d ≡ a ++ ((b ++ c) ++ d)
four a b c d = simp append_assoc

five : (a b c d e : List ℕ) → (((a ++ b) ++ c) ++ d) ++ e ≡ a ++ (b ++ (c ++ (d ++ e)))
five a b c d e = simp append_assoc

-- how many bytes stand before the line of an index
placed-at : (before : ℕ) (lines : List (List ℕ)) (i : ℕ) → i < length lines
    → get_or (placed_lines before lines) i (0, []) ≡ (before + length (flat_map with_newline (take i lines)), get_or lines i [])
placed-at before [] i h = absurd (omega arith)
placed-at before (l ∷ lines) zero h = ap (λ (n : ℕ). (n, l)) (sym (add-zero before))
placed-at before (l ∷ lines) (suc i) h =
    let next = before + length (with_newline l) in
    let rest = flat_map with_newline (take i lines) in
    let sum : next + length rest ≡ before + length (with_newline l ++ rest) = omega (arith, length-append (with_newline l) rest) in
    placed-at next lines i (omega arith) ∙ ap (λ (n : ℕ). (n, get_or lines i [])) sum

line-stands : (lines : List (List ℕ)) (rest tail : List ℕ) (i : ℕ) → i < length (lines ++ last_line rest)
    → StandsAt ((flat_map with_newline lines ++ rest) ++ tail) (length (flat_map with_newline (take i (lines ++ last_line rest))))
    (get_or (lines ++ last_line rest) i [])
line-stands [] [] tail i h = absurd (omega arith)
line-stands [] (b ∷ bs) tail zero h = take-append_seam (b ∷ bs) tail
line-stands [] (b ∷ bs) tail (suc i) h = absurd (omega arith)
line-stands (l ∷ lines) rest tail zero h =
    ap (λ xs. take (length l) xs) (five l (newline ∷ []) (flat_map with_newline lines) rest tail)
    ∙ take-append_seam l (newline ∷ (flat_map with_newline lines ++ (rest ++ tail)))
line-stands (l ∷ lines) rest tail (suc i) h =
    let more = lines ++ last_line rest in
    let front = flat_map with_newline (take i more) in
    let part = get_or more i [] in
    let same = four (with_newline l) (flat_map with_newline lines) rest tail in
    ap₂ (λ (n : ℕ) xs. take (length part) (drop n xs)) (length-append (with_newline l) front) same
    ∙ ap (λ xs. take (length part) xs) (drop-append-add (with_newline l) ((flat_map with_newline lines ++ rest) ++ tail) (length front))
    ∙ line-stands lines rest tail i (omega arith)

get-changed : {A B : Type 0} (change : B → A → A) (values : List B) (cells : List A) (i : ℕ) (value : B) → i < length values
    → slice_get (changed change values cells) i ≡ option_map (change (get_or values i value)) (slice_get cells i)
get-changed change [] cells i value h = absurd (omega arith)
get-changed change (v ∷ vs) [] i value h = refl
get-changed change (v ∷ vs) (c ∷ cs) zero value h = refl
get-changed change (v ∷ vs) (c ∷ cs) (suc i) value h = get-changed change vs cs i value (omega arith)

-- what stands in a text that stands in another
stands-in : (outer inner part : List ℕ) (at place : ℕ) → StandsAt outer at inner → place ≤ length inner → StandsAt inner place part
    → StandsAt outer (at + place) part
stands-in outer inner part at place h within k =
    let n = length inner in
    let m = length part in
    let rest = drop at outer in
    let size : length (take m (drop place inner)) ≡ m = ap (λ (xs : List ℕ). length xs) k in
    let room : m ≤ n - place = omega (arith, size, length-take m (drop place inner), length-drop place inner) in
    let whole : n ≡ place + (n - place) = omega arith in
    let same : drop place inner ≡ take (n - place) (drop place rest) =
    ap (λ xs. drop place xs) (sym h) ∙ ap (λ (j : ℕ). drop place (take j rest)) whole ∙ drop-take place (n - place) rest in
    ap (λ xs. take m xs) (sym (drop-drop place at outer)) ∙ sym (take-take m (n - place) (drop place rest) room)
    ∙ ap (λ xs. take m xs) (sym same) ∙ k

front-stands : (n : ℕ) (xs : List ℕ) → take (length (take n xs)) xs ≡ take n xs
front-stands zero xs = refl
front-stands (suc n) [] = refl
front-stands (suc n) (x ∷ xs) = ap (λ l. x ∷ l) (front-stands n xs)

-- a part that stands between others
part-stands : (line part tail : List ℕ) (n : ℕ) → line ≡ take n line ++ (part ++ (closing ∷ tail))
    → (n ≤ length line) × StandsAt line n part
part-stands line part tail n whole =
    let front = take n line in
    let rest = part ++ (closing ∷ tail) in
    let size : length line ≡ length front + length rest = ap (λ (xs : List ℕ). length xs) whole ∙ length-append front rest in
    let more : length rest ≡ length part + length (closing ∷ tail) = length-append part (closing ∷ tail) in
    let short : length front ≡ n = omega (arith, size, more, length-take n line) in (
      omega (arith, size, short),
      ap (λ xs. take (length part) (drop n xs)) whole ∙ ap (λ (k : ℕ). take (length part) (drop k (front ++ rest))) (sym short)
          ∙ ap (λ xs. take (length part) xs) (drop-append_seam front rest) ∙ take-append_seam part (closing ∷ tail),
    )

-- the parts of a line that stands in a block
module _ (block line : List ℕ) (before : ℕ) (h : StandsAt block before line) where
  abbrev whole : List ℕ
  whole = whole_line line

  abbrev at : IdentPlaces
  at = ident_places line

  whole-stands : StandsAt block before whole
  whole-stands = subst (λ (n : ℕ). StandsAt block n whole) (add-zero before)
      (stands-in block line whole before 0 h (omega arith) (front-stands (position_or_len ends_line line) line))

  date-stands : (date : Option DateText)
      → IfSome date (λ (d : DateText). StandsAt whole at.seconds d.seconds × StandsAt whole at.offset d.offset)
      → IfSome date (λ (d : DateText). StandsAt block (before + at.seconds) d.seconds × StandsAt block (before + at.offset) d.offset)
  date-stands None k = tt
  date-stands (Some d) k = (
    stands-in block whole d.seconds before at.seconds whole-stands (omega arith) k.0,
    stands-in block whole d.offset before at.offset whole-stands (omega arith) k.1,
  )

  stand-by : (i : IdentText) (is_back : Bool) → HaveTheirPlaces whole at i
      → PartsStand block i (parts_in_block before (ident_for_c at is_back i))
  stand-by i is_back k =
      let email = part-stands whole i.email (drop at.rest whole) at.email k.whole in (
        stands-in block whole i.name before 0 whole-stands (omega arith) k.name,
        stands-in block whole i.email before at.email whole-stands email.0 email.1,
        date-stands i.date k.date,
      )

  some-stand : (parts : Option IdentText) → IfSome parts (HaveTheirPlaces whole at)
      → IfSome parts (λ (i : IdentText).
      IfOk (answer_in_block before (ok_or (option_map (λ i. ident_for_c at (is_line_of whole i) i) parts) NoIdentity)) (PartsStand block i))
  some-stand None k = tt
  some-stand (Some i) k = stand-by i (is_line_of whole i) k

  parts-stand : IfSome (ident_parts line) (λ (i : IdentText). IfOk (ident_in_block (before, line)) (PartsStand block i))
  parts-stand = some-stand (ident_parts line) (places_hold line)

holds : (lines : List (ℕ × List ℕ)) (old : IdentColumns) (block line : List ℕ) (i before : ℕ) → StandsAt block before line
    → i < length lines
    → get_or lines i (0, []) ≡ (before, line) → HoldsIdent block old (idents_after lines old) i (before, line)
holds lines old block line i before stands h here =
    record {
      stands = stands;
      parts_stand = parts-stand block line before stands;
      parts =
          get-changed (λ line cell. result_unwrap_or (ident_in_block line) cell) lines old.parts i (0, []) h
          ∙ ap (λ (l : ℕ × List ℕ). option_map (result_unwrap_or (ident_in_block l)) (slice_get old.parts i)) here;
      seconds =
          get-changed (λ line. shown_seconds_after (ident_in_block line)) lines old.seconds i (0, []) h
          ∙ ap (λ (l : ℕ × List ℕ). option_map (shown_seconds_after (ident_in_block l)) (slice_get old.seconds i)) here;
      offsets =
          get-changed (λ line. shown_offset_after (ident_in_block line)) lines old.offsets i (0, []) h
          ∙ ap (λ (l : ℕ × List ℕ). option_map (shown_offset_after (ident_in_block l)) (slice_get old.offsets i)) here;
      messages =
          get-changed (λ line cell. fsck_number (fsck_of line.1)) lines old.messages i (0, []) h
          ∙ ap (λ (l : ℕ × List ℕ). option_map (λ cell. fsck_number (fsck_of l.1)) (slice_get old.messages i)) here;
      statuses =
          get-changed (λ line. status_after (ident_in_block line)) lines old.statuses i (0, []) h
          ∙ ap (λ (l : ℕ × List ℕ). option_map (status_after (ident_in_block l)) (slice_get old.statuses i)) here;
    }

-- each line that a call has told of
pub ident_lines_are_told : IdentLinesAreTold
unfolding IdentLinesAreTold
ident_lines_are_told block old new done h i k =
    let p = h.first.part in
    let line = get_or h.lines i [] in
    let before = length (flat_map with_newline (take i h.lines)) in
    let within : i < length h.lines = subst (λ (n : ℕ). i < n) h.counted k in
    let here : get_or (placed_lines 0 h.lines) i (0, []) ≡ (before, line) =
    placed-at 0 h.lines i within ∙ ap (λ (n : ℕ). (n, line)) (zero-add before) in
    let among : i < length (p.lines ++ last_line p.rest) = subst (λ (ls : List (List ℕ)). i < length ls) h.first.lines_are within in
    let whole : (flat_map with_newline p.lines ++ p.rest) ++ p.beyond ≡ block =
    ap (λ xs. xs ++ p.beyond) (sym p.splits.whole) ∙ sym p.whole in
    let all = p.lines ++ last_line p.rest in
    let stands = subst (λ xs. StandsAt xs (length (flat_map with_newline (take i all))) (get_or all i []))
    whole (line-stands p.lines p.rest p.beyond i among) in
    let at = subst (λ (ls : List (List ℕ)). StandsAt block (length (flat_map with_newline (take i ls))) (get_or ls i []))
    (sym h.first.lines_are) stands in
    let size : i < length (placed_lines 0 h.lines) = omega (arith, length-placed 0 h.lines) in
    let held = holds (placed_lines 0 h.lines) old block line i before at size here in
    (before, subst (λ (cells : IdentColumns). HoldsIdent block old cells i (before, line)) (sym h.stored) held)

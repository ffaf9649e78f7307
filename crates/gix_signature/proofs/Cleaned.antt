-- What Git writes of a name and an email, and a written or canonical time: such a line passes.
use Rattle.std.proofs.lemmas.Grind.{common_steps}
use Rattle.std.proofs.Common.{◌≡◌, ◌∙◌, ℕ, ◌+◌, ◌*◌, ◌/◌, ◌%◌, ◌<◌, ◌≤ℤ◌, Bool, true, false, cond, not, ◌||◌, ◌==◌, List, [], ◌∷◌, ◌++◌}
use Rattle.std.proofs.Common.{length, ℤ, pos, negsuc, neg_ℤ, Option, Some, None, Err, IfOk, ok_or, option_map, unsigned_abs, FitsSigned}
use Rattle.std.proofs.Common.{w64, refl, ap, sym, subst, arith, append_assoc}
use Rattle.std.proofs.lemmas.Bool.{and_from, and_parts}
use Rattle.std.proofs.lemmas.Bool.Decides.{nat_tests}
use Rattle.std.proofs.lemmas.Int.{ints}
use Rattle.std.proofs.lemmas.List.{append-nil}
use Rattle.std.proofs.lemmas.List.Elements.{filter-append}
use Rattle.std.proofs.lemmas.List.Sums.{list_all-from_AllPass}
use Rattle.std.proofs.lemmas.Option.{same_Some}
use Rattle.std.specs.List.{list_all, list_any, filter}
use Rattle.std.specs.Prelude.{int_lt}
use Rattle.gix_date.proofs.Fast.FastHeaders.{usual-header}
use Rattle.gix_date.proofs.Fields.FieldsTaken.{time_at}
use Rattle.gix_date.proofs.Header.HeaderLaws.{canonical_taken, canonical_back, header-fits, decimal-int, zone-read, written_fields}
use Rattle.gix_date.proofs.Header.HeaderLaws.{sign_for}
use Rattle.gix_date.specs.Fields.Offsets.{compact_offset_text, signed}
use Rattle.gix_date.specs.Header.Reading.{header_time}
use Rattle.gix_date.specs.Header.Text.{header_text}
use Rattle.gix_date.specs.Text.Characters.{space}
use Rattle.gix_date.specs.Text.Numbers.{decimal_text}
use Rattle.gix_date.specs.declared.time.Time.{Time}
use Rattle.gix_signature.specs.Signature.{is_allowed, is_part, line_of}
use Rattle.gix_signature.specs.Ident.Bytes.{is_blank, is_crud, is_kept, is_bracket, is_newline, is_nul}
use Rattle.gix_signature.specs.Ident.Texts.{without_front, without_end}
use Rattle.gix_signature.specs.Ident.Due.{cleaned, ident_due, cleaned_parts}
use Rattle.gix_signature.specs.Ident.Laws.{PassesAs, WrittenPasses, CanonicalPasses, in_minutes}
use Rattle.gix_signature.specs.declared.error.IdentFault.TheVariants.{NulInPart, EmptyName, OnlyCrud, BeforeEpoch, OffsetTooWide}
use Rattle.gix_signature.proofs.Cuts.{ArePlain, plain}
use Rattle.gix_signature.proofs.Idents.Shown.{end-more, end-stays}
use Rattle.gix_signature.proofs.Texts.{none_is}
use Rattle.gix_signature.proofs.Written.{text-is}
use Rattle.gix_signature.proofs.Idents.Passing.{passes-as}

-- A list that grows at its end.
from-end : (P : List ℕ → Type 0) → ((xs : List ℕ) (c : ℕ) → P xs → P (xs ++ (c ∷ []))) → (front xs : List ℕ) → P front → P (front ++ xs)
from-end P more front [] h = subst P (sym (append-nil front)) h
from-end P more front (x ∷ xs) h = subst P (append_assoc front (x ∷ []) xs) (from-end P more (front ++ (x ∷ [])) xs (more front x h))

-- no blank and no byte that is left out is other than crud
no-crud : (c : ℕ) → is_crud c ≡ false → (is_blank c ≡ false) × (is_kept c ≡ true)
no-crud c h = (grind (arith, nat_tests, h), grind (arith, nat_tests, h))

abbrev EndsKept : List ℕ → Type 0
EndsKept xs = without_end is_blank (filter is_kept (without_end is_crud xs)) ≡ filter is_kept (without_end is_crud xs)

ends-by : (xs : List ℕ) (c : ℕ) (b : Bool) → is_crud c ≡ b → EndsKept xs → EndsKept (xs ++ (c ∷ []))
ends-by xs c true e h = subst (λ ys. without_end is_blank (filter is_kept ys) ≡ filter is_kept ys) (sym (end-more is_crud xs c e)) h
ends-by xs c false e h = grind (arith, no-crud, filter-append, end-stays)

-- no blank stands at the end of what is cleaned
cleaned-ends : (part : List ℕ) → without_end is_blank (cleaned part) ≡ cleaned part
cleaned-ends part = from-end EndsKept (λ xs c h. ends-by xs c (is_crud c) refl h) [] (without_front is_crud part) refl

abbrev not_nul : ℕ → Bool
not_nul c = not (is_nul c)

none-nul : (xs : List ℕ) → list_any is_nul xs ≡ false → list_all not_nul xs ≡ true
none-nul xs h = none_is is_nul xs ∙ ap not h

not-both : (a b : Bool) → not a ≡ true → not b ≡ true → not (a || b) ≡ true
not-both a b h k = grind arith

kept-by : (x : ℕ) (xs : List ℕ) (b : Bool) → is_kept x ≡ b → not_nul x ≡ true → is_part xs ≡ true → is_part (cond b (x ∷ xs) xs) ≡ true
kept-by x xs true e h k = and_from (is_allowed x) (is_part xs) (not-both (is_bracket x || is_newline x) (is_nul x) e h) k
kept-by x xs false e h k = k

kept-part : (xs : List ℕ) → list_all not_nul xs ≡ true → is_part (filter is_kept xs) ≡ true
kept-part [] h = refl
kept-part (x ∷ xs) h = let each = and_parts (not_nul x) (list_all not_nul xs) h in
    kept-by x (filter is_kept xs) (is_kept x) refl each.0 (kept-part xs each.1)

-- what is cleaned may be a part
cleaned-part : (part : List ℕ) → list_any is_nul part ≡ false → is_part (cleaned part) ≡ true
cleaned-part part h = grind (arith, nat_tests, common_steps, kept-part, list_all-from_AllPass, none-nul)

-- A time from the epoch on.
dated : (name email text : List ℕ) (z o : ℤ) → pos 0 ≤ℤ z → FitsSigned w64 z → unsigned_abs o < 360000
    → text ≡ decimal_text z ++ (space ∷ compact_offset_text o)
    → ArePlain (record { name = name; email = email; time = text })
    → PassesAs (without_end is_blank name) email (in_minutes (record { seconds = z; offset = o }))
    (line_of (record { name = name; email = email; time = text }))
dated name email text (pos n) o from f short whole are = passes-as name email n o (omega (arith, f.sfits)) short text whole are
dated name email text (negsuc n) o from f short whole are = absurd (grind (arith, ints, from))

-- a header text is read as its time in whole minutes
minutes-said : (b : Bool) (m : ℕ)
    → signed (sign_for b) (3600 * (m / 3600) + 60 * (m % 3600 / 60) + 0) ≡ cond b (neg_ℤ (pos (60 * (m / 60)))) (pos (60 * (m / 60)))
minutes-said true m = ap (λ n. neg_ℤ (pos n)) (omega arith)
minutes-said false m = ap pos (omega arith)

read-in-minutes : (t : Time) → FitsSigned w64 t.seconds → unsigned_abs t.offset < 360000
    → header_time (decimal_text t.seconds ++ (space ∷ compact_offset_text t.offset)) ≡ Some (in_minutes t)
read-in-minutes t f short =
    usual-header (decimal_text t.seconds) (compact_offset_text t.offset) t.seconds (written_fields t.offset) (decimal-int t.seconds f)
    (zone-read t.offset short)
    ∙ ap (λ o. Some (time_at t.seconds o)) (minutes-said (int_lt t.offset (pos 0)) (unsigned_abs t.offset))

pub canonical_passes : (line : List ℕ) → CanonicalPasses line
canonical_passes line p t cut canonical read from =
    let back = canonical_back p.time (canonical_taken p.time canonical) in
    let r = back.time in
    let f = header-fits p.time r back.is_read in
    let is = text-is r p.time f back.is_written in
    let same : in_minutes r ≡ t = same_Some (in_minutes r) t (sym (ap header_time is.whole ∙ read-in-minutes r f is.short) ∙ read) in
    let start : pos 0 ≤ℤ r.seconds = subst (λ z. pos 0 ≤ℤ z) (sym (ap (λ (t : Time). t.seconds) same)) from in
    subst (λ l. PassesAs (without_end is_blank p.name) p.email t l) (sym cut.whole)
    (subst (λ t. PassesAs (without_end is_blank p.name) p.email t (line_of p)) same
    (dated p.name p.email p.time r.seconds r.offset start f is.short is.whole (plain p cut.allowed)))

-- What is due is read again.
module _ (name email : List ℕ) (t : Time) (f : FitsSigned w64 t.seconds) where
  abbrev Passes : List ℕ → Type 0
  Passes line = PassesAs (cleaned name) (cleaned email) (in_minutes t) line

  due-line : (text : List ℕ) → is_part (cleaned name) ≡ true → is_part (cleaned email) ≡ true → pos 0 ≤ℤ t.seconds
      → header_text t ≡ Some text → Passes (line_of (cleaned_parts name email text))
  due-line text a b from h =
      let is = text-is t text f h in
      let at = dated (cleaned name) (cleaned email) text t.seconds t.offset from f is.short is.whole
      (record { name = a; email = b; time = is.stands }) in
      subst (λ n. PassesAs n (cleaned email) (in_minutes t) (line_of (cleaned_parts name email text))) (cleaned-ends name) at

  due-dated : (b : Bool) → int_lt t.seconds (pos 0) ≡ b → (o : Option (List ℕ)) → header_text t ≡ o → is_part (cleaned name) ≡ true
      → is_part (cleaned email) ≡ true
      → IfOk (cond b (Err BeforeEpoch) (ok_or (option_map (λ time. line_of (cleaned_parts name email time)) o) OffsetTooWide)) Passes
  due-dated true e o h a b = tt
  due-dated false e None h a b = tt
  due-dated false e (Some text) h a b = due-line text a b (grind (arith, ints, e)) h

  due-by : (n m e c : Bool) → list_any is_nul name ≡ n → list_any is_nul email ≡ m
      → IfOk
      (cond (n || m) (Err NulInPart) (cond e (Err EmptyName) (cond c (Err OnlyCrud) (cond (int_lt t.seconds (pos 0)) (Err BeforeEpoch)
      (ok_or (option_map (λ time. line_of (cleaned_parts name email time)) (header_text t)) OffsetTooWide))))) Passes
  due-by true m e c h k = tt
  due-by false true e c h k = tt
  due-by false false true c h k = tt
  due-by false false false true h k = tt
  due-by false false false false h k =
      due-dated (int_lt t.seconds (pos 0)) refl (header_text t) refl (cleaned-part name h) (cleaned-part email k)

  pub written_passes : WrittenPasses name email t
  unfolding ident_due
  written_passes = due-by (list_any is_nul name) (list_any is_nul email) (length name == 0) (list_all is_crud name) refl refl

use Rattle.std.proofs.Common.{◌≡◌, ◌∙◌, ◌+◌, ◌<◌, ◌++◌, ℕ, List, [], ◌∷◌, length, take, get_or, refl, ap, sym, append_assoc, append-nil}
use Rattle.std.proofs.Common.{arith}
use Rattle.std.proofs.lemmas.List.{take_more}
use Rattle.gix_date.specs.Fields.Layout.{LocalTime}
use Rattle.git_date.specs.declared.format.flags.Flags.{Flags}
use Rattle.git_date.specs.declared.format.texts.Inner.{Inner}
use Rattle.git_date.specs.Formats.Texts.{inner_text, inner_texts}
use Rattle.git_date.specs.Formats.Flags.{inner_flags}
use Rattle.git_date.proofs.format.texts.inner_part.Goals as goal

-- The texts of a composite's pieces, one after the other.
texts-append : (flags : Flags) (t : LocalTime) (xs ys : List Inner)
    → inner_texts flags t (xs ++ ys) ≡ inner_texts flags t xs ++ inner_texts flags t ys
texts-append flags t [] ys = refl
texts-append flags t (x ∷ xs) ys =
    ap (λ (text : List ℕ). inner_text flags t x ++ text) (texts-append flags t xs ys)
    ∙ sym (append_assoc (inner_text flags t x) (inner_texts flags t xs) (inner_texts flags t ys))

texts-one : (flags : Flags) (t : LocalTime) (x : Inner) → inner_texts flags t (x ∷ []) ≡ inner_text flags t x
texts-one flags t x = append-nil (inner_text flags t x)

inner-more : (flags : Flags) (t : LocalTime) (pieces : List Inner) (i : ℕ) (d : Inner) (part new : List ℕ) (inner : Flags)
    → i < length pieces
    → part ≡ inner_texts flags t (take i pieces) → inner ≡ flags → new ≡ part ++ inner_text inner t (get_or pieces i d)
    → new ≡ inner_texts flags t (take (i + 1) pieces)
inner-more flags t pieces i d part new inner h done is made =
    made ∙ ap (λ (text : List ℕ). text ++ inner_text inner t (get_or pieces i d)) done
    ∙ ap (λ (f : Flags). inner_texts flags t (take i pieces) ++ inner_text f t (get_or pieces i d)) is
    ∙ ap (λ (text : List ℕ). inner_texts flags t (take i pieces) ++ text) (sym (texts-one flags t (get_or pieces i d)))
    ∙ sym (texts-append flags t (take i pieces) (get_or pieces i d ∷ []))
    ∙ ap (λ (xs : List Inner). inner_texts flags t xs) (sym (take_more pieces i d h))

pub pieces-preserved : goal.pieces-preserved
pieces-preserved c =
    let flags = c.inner.ensures in
    let width : c.inner.result.width ≡ 0 = ap (λ (f : Flags). f.width) flags in (
      inner-more (inner_flags c.args.flags) c.args.t c.inner-inner-items.result.now c.pieces.inner-index _ c.pieces.part.bytes
          c.push_inner.new.part.bytes c.inner.result
          c.pieces-test.true c.pieces.invariant.0 flags c.push_inner.ensures.bytes,
      omega (arith, width),
    )

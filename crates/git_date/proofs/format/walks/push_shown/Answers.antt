use Rattle.std.proofs.Common.{rules, subst, ◌≡◌, ◌∙◌, ◌++◌, sym, ap, List, ℕ, string_bytes}
use Rattle.git_date.specs.Formats.Format.{pieces_text}
use Rattle.git_date.specs.Formats.Pieces.{Piece}
use Rattle.git_date.specs.Formats.Shown.{shown_of}
use Rattle.git_date.proofs.Formats.Short.{left-passed, left-ok, passes-after}
use Rattle.git_date.proofs.Formats.Walks.{Left, left-all, left-end, pieces-are, some-left, none-left}
use Rattle.git_date.proofs.format.walks.push_shown.Goals as goal

pub pieces-init : goal.pieces-init
pieces-init c = (
  search rules,
  left-all c.args.text.now _ (ap (λ (xs : List ℕ). string_bytes c.args.out.now ++ xs) c.new-part.ensures),
)

pub pieces-preserved-in-Some : goal.pieces-preserved-in-Some
pieces-preserved-in-Some c = (
  search rules,
  left-passed (shown_of c.args.shown.now) c.args.text.now c.pieces.rest.now _ _ _ _ c.pieces.invariant.1
      (some-left c.pieces.rest.now c.pieces-test.ensures) (passes-after (string_bytes c.pieces.out) _ _ _ _ _ c.in-Some.ensures.passes),
)

pub push_apart-requires-clause-whole : goal.push_apart-requires-clause-whole
push_apart-requires-clause-whole c =
    left-ok c.args.text.now c.pieces.rest.now _ c.pieces.invariant.1 (some-left c.pieces.rest.now c.pieces-test.ensures) c.requires

pub pieces-preserved : goal.pieces-preserved
pieces-preserved c =
    let base = string_bytes c.pieces.out in
    let kept = subst (λ (xs : List ℕ). Left c.args.text.now c.pieces.rest.now
    (λ done. base ++ xs ≡ string_bytes c.args.out.now ++ pieces_text (shown_of c.args.shown.now) done))
    (sym c.in_default.ensures.kept) c.pieces.invariant.1 in (
      search rules,
      left-passed (shown_of c.args.shown.now) c.args.text.now c.pieces.rest.now _ _ _ _ kept
          (some-left c.pieces.rest.now c.pieces-test.ensures) c.in_ok-rest.ensures,
    )

pub returns : goal.returns
returns c =
    let left = c.pieces.invariant.1 in
    let all = pieces-are c.args.text.now left.done
    (left-end c.args.text.now c.pieces.rest.now _ left (none-left c.pieces.rest.now c.pieces-test.ensures)) in
    c.in_ok-push_str.ensures.bytes ∙ ap (λ (xs : List ℕ). string_bytes c.pieces.out ++ xs) c.as_str.ensures.value
    ∙ left.so_far ∙ ap (λ (ps : List Piece). string_bytes c.args.out.now ++ pieces_text (shown_of c.args.shown.now) ps) all

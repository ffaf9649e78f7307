use Rattle.std.proofs.Common.{◌∙◌, ◌++◌, ap, List, ℕ, string_bytes}
use Rattle.git_date.specs.Formats.Pieces.{piece_of}
use Rattle.git_date.specs.Formats.Shown.{shown_of}
use Rattle.git_date.proofs.Formats.Short.{apart, no-fault-first}
use Rattle.git_date.proofs.format.walks.push_apart.Goals as goal

pub unreachable-requires : goal.unreachable-requires
unreachable-requires c = no-fault-first c.args.text.now c.in_default.field-0 c.requires.whole c.in_default.ensures.value

pub returns : goal.returns
returns c =
    let old = string_bytes c.args.out.now in
    apart (shown_of c.args.shown.now) c.args.text.now c.in-Ok.rest.now old c.args.part.now.bytes (string_bytes c.push_str.new.self)
    (string_bytes c.push_str-2.new.self) c.clear.new.self.bytes c.as_str-2.result.now (piece_of c.in-Ok.piece) c.in-Ok.ensures.value
    c.in-Ok.ensures.shorter
    (c.in_ok-push_str.ensures.bytes ∙ ap (λ (xs : List ℕ). old ++ xs) c.as_str.ensures.value) c.clear.ensures
    c.in_ok-push_str-2.ensures.bytes (c.as_str-2.ensures ∙ c.chunk_of.ensures)

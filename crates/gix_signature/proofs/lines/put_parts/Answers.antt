use Rattle.std.proofs.Common.{rules, Err, ℕ, List, subst}
use Rattle.std.specs.Prelude.{codes}
use Rattle.gix_signature.specs.Signature.{line_of}
use Rattle.gix_signature.specs.Ident.Due.{part_put, parts_put}
use Rattle.gix_signature.specs.Writing.{Puts}
use Rattle.gix_signature.proofs.Pieces.{Puts-more, Puts-after}
use Rattle.gix_signature.proofs.lines.put_parts.Goals as goal

pub returns-in_err-put_bytes : goal.returns-in_err-put_bytes
returns-in_err-put_bytes g c =
    let old = g.W.Sink.known c.args.out.now in
    let named = g.W.Sink.known c.put_part.new.out in
    let new = g.W.Sink.known c.put_bytes.new.out in
    let kind = c.in_err-put_bytes.field-0.0 in
    let fact : Puts old new (line_of (parts_put c.args.is_whole c.args.name.now c.args.email.now c.args.time.now)) (Err kind) =
    Puts-after old named new (part_put c.args.is_whole c.args.name.now) _ (Err kind) c.in_ok-put_part.ensures
    (Puts-more named new (codes " <") _ kind c.in_err-put_bytes.ensures) in
    search (rules, fact)

pub returns-in_err-put_part-2 : goal.returns-in_err-put_part-2
returns-in_err-put_part-2 g c =
    let old = g.W.Sink.known c.args.out.now in
    let named = g.W.Sink.known c.put_part.new.out in
    let opened = g.W.Sink.known c.put_bytes.new.out in
    let new = g.W.Sink.known c.put_part-2.new.out in
    let kind = c.in_err-put_part-2.field-0.0 in
    let fact : Puts old new (line_of (parts_put c.args.is_whole c.args.name.now c.args.email.now c.args.time.now)) (Err kind) =
    Puts-after old named new (part_put c.args.is_whole c.args.name.now) _ (Err kind) c.in_ok-put_part.ensures
    (Puts-after named opened new (codes " <") _ (Err kind) c.in_ok-put_bytes.ensures
    (Puts-more opened new (part_put c.args.is_whole c.args.email.now) _ kind c.in_err-put_part-2.ensures)) in
    search (rules, fact)

pub returns-in_err-put_bytes-2 : goal.returns-in_err-put_bytes-2
returns-in_err-put_bytes-2 g c =
    let old = g.W.Sink.known c.args.out.now in
    let named = g.W.Sink.known c.put_part.new.out in
    let opened = g.W.Sink.known c.put_bytes.new.out in
    let mailed = g.W.Sink.known c.put_part-2.new.out in
    let new = g.W.Sink.known c.put_bytes-2.new.out in
    let kind = c.in_err-put_bytes-2.field-0.0 in
    let fact : Puts old new (line_of (parts_put c.args.is_whole c.args.name.now c.args.email.now c.args.time.now)) (Err kind) =
    Puts-after old named new (part_put c.args.is_whole c.args.name.now) _ (Err kind) c.in_ok-put_part.ensures
    (Puts-after named opened new (codes " <") _ (Err kind) c.in_ok-put_bytes.ensures
    (Puts-after opened mailed new (part_put c.args.is_whole c.args.email.now) _ (Err kind) c.in_ok-put_part-2.ensures
    (Puts-more mailed new (codes "> ") _ kind c.in_err-put_bytes-2.ensures))) in
    search (rules, fact)

pub returns : goal.returns
returns g c =
    let old = g.W.Sink.known c.args.out.now in
    let named = g.W.Sink.known c.put_part.new.out in
    let opened = g.W.Sink.known c.put_bytes.new.out in
    let mailed = g.W.Sink.known c.put_part-2.new.out in
    let closed = g.W.Sink.known c.put_bytes-2.new.out in
    let new = g.W.Sink.known c.put_bytes-3.new.out in
    let r = c.put_bytes-3.result in
    let last = subst (λ (t : List ℕ). Puts closed new t r) c.as_bytes.ensures.value c.put_bytes-3.ensures in
    Puts-after old named new (part_put c.args.is_whole c.args.name.now) _ r c.in_ok-put_part.ensures
    (Puts-after named opened new (codes " <") _ r c.in_ok-put_bytes.ensures
    (Puts-after opened mailed new (part_put c.args.is_whole c.args.email.now) _ r c.in_ok-put_part-2.ensures
    (Puts-after mailed closed new (codes "> ") _ r c.in_ok-put_bytes-2.ensures last)))

use Rattle.std.proofs.Common.{◌≡◌, ◌∙◌, [], ◌∷◌, ◌++◌, drop, refl, ap, sym, arith}
use Rattle.gix_date.proofs.Text.AsciiCuts.{all-append}
use Rattle.gix_signature.specs.Signature.{HasNoCut, is_allowed}
use Rattle.gix_signature.proofs.Cuts.{the-front, the-rest, after_name, marked, plain, around_ascii, bad_time, no_time}
use Rattle.gix_signature.proofs.lines.cut_line.Goals as goal
use Rattle.gix_signature.proofs.lines.cut_line.Goals.{then-is_empty-via-then-is_empty, then-is_empty-via-else-is_empty+then-not-is_part}

pub returns-in_err-front : goal.returns-in_err-front
returns-in_err-front c =
    let fact : HasNoCut c.args.line.now =
    λ q cut. c.in_err-front.ensures (q.name ++ (32 ∷ [])) (after_name q)
    (all-append is_allowed q.name (32 ∷ []) (plain q cut.allowed).name refl)
    (c.as_bytes.ensures.value ∙ cut.whole ∙ marked q.name (after_name q)) in
    rw c.from_residual.ensures fact

pub returns-in_err-name : goal.returns-in_err-name
returns-in_err-name c =
    let whole = sym c.as_bytes.ensures.value ∙ c.in_ok-front.ensures.0 in
    let fact : HasNoCut c.args.line.now =
    λ q cut. c.in_err-name.ensures q.name (the-front c.args.line.now c.in_ok-front.front.now c.in_ok-front.inside.now q whole cut).0 in
    rw c.from_residual-in_err-name.ensures fact

pub returns-in_err-email : goal.returns-in_err-email
returns-in_err-email c =
    let whole = sym c.as_bytes.ensures.value ∙ c.in_ok-front.ensures.0 in
    let fact : HasNoCut c.args.line.now =
    λ q cut. c.in_err-email.ensures q.email (32 ∷ q.time) (plain q cut.allowed).email
    (the-front c.args.line.now c.in_ok-front.front.now c.in_ok-front.inside.now q whole cut).1 in
    rw c.from_residual-in_err-email.ensures fact

pub returns-in_err-time : goal.returns-in_err-time
returns-in_err-time c =
    let whole = sym c.as_bytes.ensures.value ∙ c.in_ok-front.ensures.0 in
    let fact : HasNoCut c.args.line.now =
    λ q cut. c.in_err-time.ensures q.time
    (the-rest c.in_ok-front.inside.now c.in_ok-email.email.now c.in_ok-email.rest.now q c.in_ok-email.ensures.0 (plain q cut.allowed)
    (the-front c.args.line.now c.in_ok-front.front.now c.in_ok-front.inside.now q whole cut).1).1 in
    rw c.from_residual-in_err-time.ensures fact

pub returns-then-is_empty : goal.returns-then-is_empty
returns-then-is_empty c =
    λ q cut.
    let whole = sym c.as_bytes.ensures.value ∙ c.in_ok-front.ensures.0 in
    let rest =
    (the-rest c.in_ok-front.inside.now c.in_ok-email.email.now c.in_ok-email.rest.now q c.in_ok-email.ensures.0 (plain q cut.allowed)
    (the-front c.args.line.now c.in_ok-front.front.now c.in_ok-front.inside.now q whole cut).1).1 in
    let same : c.in_ok-time.time.now ≡ q.time = ap (drop 1) (sym c.in_ok-time.ensures ∙ rest) in
    elim c.then-is_empty.branch [
      | then-is_empty-via-then-is_empty w ↦ no_time c.in_ok-time.time.now q same cut.allowed w.if-is_empty.ensures
      | then-is_empty-via-else-is_empty+then-not-is_part w ↦
          bad_time c.in_ok-time.time.now q same cut.allowed (sym w.is_part.ensures ∙ w.if-not-is_part.true)
    ]

pub text_of-requires : goal.text_of-requires
text_of-requires c =
    let whole = sym c.as_bytes.ensures.value ∙ c.in_ok-front.ensures.0 in
    let front = (around_ascii c.args.line.now c.in_ok-front.front.now c.in_ok-front.inside.now 60 (omega arith) whole c.utf8.line).0 in
    (around_ascii c.in_ok-front.front.now c.in_ok-name.name.now [] 32 (omega arith) c.in_ok-name.ensures front).0

pub text_of-requires-2 : goal.text_of-requires-2
text_of-requires-2 c =
    let whole = sym c.as_bytes.ensures.value ∙ c.in_ok-front.ensures.0 in
    let inside = (around_ascii c.args.line.now c.in_ok-front.front.now c.in_ok-front.inside.now 60 (omega arith) whole c.utf8.line).1 in
    (around_ascii c.in_ok-front.inside.now c.in_ok-email.email.now c.in_ok-email.rest.now 62 (omega arith) c.in_ok-email.ensures.0 inside).0

pub text_of-requires-3 : goal.text_of-requires-3
text_of-requires-3 c =
    let whole = sym c.as_bytes.ensures.value ∙ c.in_ok-front.ensures.0 in
    let inside = (around_ascii c.args.line.now c.in_ok-front.front.now c.in_ok-front.inside.now 60 (omega arith) whole c.utf8.line).1 in
    let rest =
    (around_ascii c.in_ok-front.inside.now c.in_ok-email.email.now c.in_ok-email.rest.now 62 (omega arith) c.in_ok-email.ensures.0
    inside).1 in
    (around_ascii c.in_ok-email.rest.now [] c.in_ok-time.time.now 32 (omega arith) c.in_ok-time.ensures rest).1

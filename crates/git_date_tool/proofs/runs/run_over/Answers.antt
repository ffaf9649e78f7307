use Rattle.std.proofs.Common.{arith, ◌∙◌, ◌∷◌, [], ap, ◌+◌, subst, sym, take, drop, map, string_bytes, append_assoc, Ok, Err}
use Rattle.streams.specs.Changes.{change}
use Rattle.streams.specs.Serving.{service}
use Rattle.git_date_tool.specs.Runs.{AnswersTo, SendsReplies, turn_of}
use Rattle.git_date_tool.specs.Served.{more_lines, no_lines}
use Rattle.git_date_tool.proofs.Answering.{faulted-beyond, run_over, texts-all, texts-more, texts-around}
use Rattle.git_date_tool.proofs.runs.run_over.Goals as goal

pub loop-text-init : goal.loop-text-init
loop-text-init g c = no_lines (service c.new-answering.result (g.W.Sink.known c.args.writer.now) (g.M.Sink.known c.args.messages.now))

pub loop-text-preserved : goal.loop-text-preserved
loop-text-preserved g c =
    let texts = c.args.texts.now in
    let i = c.loop-text.text-index in
    let text = c.as_bytes.result.now in
    let first = service c.new-answering.result (g.W.Sink.known c.args.writer.now) (g.M.Sink.known c.args.messages.now) in
    let mid = service c.loop-text.answering (g.W.Sink.known c.loop-text.writer) (g.M.Sink.known c.loop-text.messages) in
    let next = service c.serve.new.self (g.W.Sink.known c.serve.new.out) (g.M.Sink.known c.serve.new.messages) in
    subst (λ ts. AnswersTo first next ts (Ok tt))
    (sym (texts-more texts i c.text-item.result text c.loop-text-test.true (c.as_bytes.ensures.value ∙ ap string_bytes c.text-item.is)))
    (more_lines first mid next (map string_bytes (take i texts)) (text ∷ []) (Ok tt) c.loop-text.invariant c.in_default.ensures)

pub returns-in-Err : goal.returns-in-Err
returns-in-Err g c =
    let texts = c.args.texts.now in
    let i = c.loop-text.text-index in
    let text = c.as_bytes.result.now in
    let before = map string_bytes (take i texts) in
    let after = map string_bytes (drop (i + 1) texts) in
    let first = service c.new-answering.result (g.W.Sink.known c.args.writer.now) (g.M.Sink.known c.args.messages.now) in
    let mid = service c.loop-text.answering (g.W.Sink.known c.loop-text.writer) (g.M.Sink.known c.loop-text.messages) in
    let next = service c.serve.new.self (g.W.Sink.known c.serve.new.out) (g.M.Sink.known c.serve.new.messages) in
    let fault = c.in-Err.fault in
    let joined = more_lines first mid next before (text ∷ []) (Err fault) c.loop-text.invariant c.in-Err.ensures in
    let whole =
    texts-around texts i c.text-item.result text c.loop-text-test.true (c.as_bytes.ensures.value ∙ ap string_bytes c.text-item.is)
    ∙ sym (append_assoc before (text ∷ []) after) in
    let beyond = faulted-beyond (turn_of first.server) _ after (SendsReplies first next) (change first.told next.told) fault joined in
    run_over c.args.query.now first.server next.server first.out next.out first.told next.told (map string_bytes texts) (Err fault)
    c.new-answering.ensures.turn c.new-answering.ensures.verdict c.new-answering.ensures.unsent tt
    (subst (λ ts. AnswersTo first next ts (Err fault)) (sym whole) beyond)

pub returns-in-Ok : goal.returns-in-Ok
returns-in-Ok g c =
    let texts = c.args.texts.now in
    let first = service c.new-answering.result (g.W.Sink.known c.args.writer.now) (g.M.Sink.known c.args.messages.now) in
    let mid = service c.loop-text.answering (g.W.Sink.known c.loop-text.writer) (g.M.Sink.known c.loop-text.messages) in
    let last = service c.settle.new.self (g.W.Sink.known c.settle.new.out) (g.M.Sink.known c.loop-text.messages) in
    let joined = more_lines first mid last (map string_bytes (take c.loop-text.text-index texts)) [] (Ok tt) c.loop-text.invariant
    (c.in-Ok.ensures.serves last.told) in
    run_over c.args.query.now first.server last.server first.out last.out first.told last.told (map string_bytes texts) (Ok tt)
    c.new-answering.ensures.turn c.new-answering.ensures.verdict c.new-answering.ensures.unsent c.in-Ok.ensures.settled
    (subst (λ ts. AnswersTo first last ts (Ok tt))
    (texts-all texts c.loop-text.text-index (omega (arith, c.loop-text-test.false))) joined)

pub returns-in-Err-settle : goal.returns-in-Err-settle
returns-in-Err-settle g c =
    let texts = c.args.texts.now in
    let first = service c.new-answering.result (g.W.Sink.known c.args.writer.now) (g.M.Sink.known c.args.messages.now) in
    let mid = service c.loop-text.answering (g.W.Sink.known c.loop-text.writer) (g.M.Sink.known c.loop-text.messages) in
    let last = service c.settle.new.self (g.W.Sink.known c.settle.new.out) (g.M.Sink.known c.loop-text.messages) in
    let fault = c.in-Err-settle.fault in
    let joined = more_lines first mid last (map string_bytes (take c.loop-text.text-index texts)) [] (Err fault) c.loop-text.invariant
    (c.in-Err-settle.ensures.serves last.told) in
    run_over c.args.query.now first.server last.server first.out last.out first.told last.told (map string_bytes texts) (Err fault)
    c.new-answering.ensures.turn c.new-answering.ensures.verdict c.new-answering.ensures.unsent tt
    (subst (λ ts. AnswersTo first last ts (Err fault))
    (texts-all texts c.loop-text.text-index (omega (arith, c.loop-text-test.false))) joined)

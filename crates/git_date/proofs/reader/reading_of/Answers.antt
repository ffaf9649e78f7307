use Rattle.std.proofs.Common.{◌∙◌, sym, subst}
use Rattle.git_date.specs.Tokens.Tokens.{token_of}
use Rattle.git_date.specs.Exact.Reading.{step, nothing_read, reading_of}
use Rattle.git_date.specs.declared.reader.Reading.{Reading}
use Rattle.git_date.proofs.Text.Folds.{Left, left-all, left-none, left-ends, left-next, step-end, step-refused, step-next}
use Rattle.git_date.proofs.reader.reading_of.Goals as goal

pub tokens-init : goal.tokens-init
unfolding reading_of
tokens-init c = left-all (step c.args.now) c.args.text.now nothing_read

pub tokens-preserved : goal.tokens-preserved
tokens-preserved c =
    subst (λ (r : Reading). Left (step c.args.now) (reading_of c.args.now c.args.text.now) c.in-Ok.step.1.now r)
    (sym c.read_on-reading.ensures)
    (left-next (step c.args.now) (reading_of c.args.now c.args.text.now) c.tokens.rest.now c.in-Some.after.now c.in-Ok.step.1.now
    c.tokens.reading _ (token_of c.in-Some.token)
    c.tokens.invariant c.in-Some.ensures.tokens c.in-Some.ensures.shorter
    (step-next c.args.now c.tokens.rest.now c.in-Some.after.now c.in-Ok.step.1.now c.tokens.reading c.in-Ok.step.0
    (token_of c.in-Some.token)
    c.in-Some.ensures.tokens (sym c.is_end.ensures ∙ c.if-is_end.false) c.in-Ok.ensures.value) c.in-Ok.ensures.shorter)

pub returns-then-is_end : goal.returns-then-is_end
returns-then-is_end c =
    left-ends (step c.args.now) (reading_of c.args.now c.args.text.now) _ c.tokens.rest.now c.in-Some.after.now c.tokens.reading
    (token_of c.in-Some.token)
    c.tokens.invariant c.in-Some.ensures.tokens c.in-Some.ensures.shorter
    (step-end c.args.now c.tokens.reading (token_of c.in-Some.token) _ (sym c.is_end.ensures ∙ c.if-is_end.true))

pub returns : goal.returns
returns c = left-none (step c.args.now) (reading_of c.args.now c.args.text.now) c.tokens.rest.now c.tokens.reading c.tokens.invariant
    c.in_default.ensures.tokens

pub returns-in-Err : goal.returns-in-Err
returns-in-Err c =
    left-ends (step c.args.now) (reading_of c.args.now c.args.text.now) _ c.tokens.rest.now c.in-Some.after.now c.tokens.reading
    (token_of c.in-Some.token)
    c.tokens.invariant c.in-Some.ensures.tokens c.in-Some.ensures.shorter
    (step-refused c.args.now c.tokens.reading (token_of c.in-Some.token) _ c.in-Err.fault (sym c.is_end.ensures ∙ c.if-is_end.false)
    c.in-Err.ensures.value)

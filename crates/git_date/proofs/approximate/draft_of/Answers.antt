use Rattle.std.proofs.Common.{sym, subst}
use Rattle.jiff.specs.Words.{plain_zone}
use Rattle.git_date.specs.Approximate.Reading.{approximate_step, draft_of}
use Rattle.git_date.specs.Approximate.Drafts.{first_draft}
use Rattle.git_date.specs.Exact.Zones.{states_of}
use Rattle.git_date.specs.Tokens.Tokens.{token_of}
use Rattle.git_date.specs.declared.approximate.drafts.Draft.{Draft}
use Rattle.git_date.proofs.Text.Folds.{Left, left-all, left-none, left-ends, left-next, draft-refused, draft-next}
use Rattle.git_date.proofs.approximate.draft_of.Goals as goal

pub tokens-init : goal.tokens-init
unfolding draft_of
tokens-init c =
    subst (λ (d : Draft). Left (approximate_step (states_of (plain_zone c.args.zone.now)) c.args.today.now)
    (draft_of (states_of (plain_zone c.args.zone.now)) c.args.today.now c.args.text.now) c.args.text.now d) (sym c.first-draft.ensures)
    (left-all (approximate_step (states_of (plain_zone c.args.zone.now)) c.args.today.now) c.args.text.now
    (first_draft c.args.today.now.shown))

pub tokens-preserved : goal.tokens-preserved
tokens-preserved c =
    left-next (approximate_step (states_of (plain_zone c.args.zone.now)) c.args.today.now)
    (draft_of (states_of (plain_zone c.args.zone.now)) c.args.today.now c.args.text.now) c.tokens.rest.now c.in-Some.after.now
    c.in-Ok.step.1.now c.tokens.draft c.in-Ok.step.0
    (token_of c.in-Some.token) c.tokens.invariant c.in-Some.ensures.tokens c.in-Some.ensures.shorter
    (draft-next (states_of (plain_zone c.args.zone.now)) c.args.today.now c.tokens.draft c.in-Ok.step.0 (token_of c.in-Some.token) _ _
    c.in-Ok.ensures.value) c.in-Ok.ensures.shorter

pub returns : goal.returns
returns c = left-none (approximate_step (states_of (plain_zone c.args.zone.now)) c.args.today.now)
    (draft_of (states_of (plain_zone c.args.zone.now)) c.args.today.now c.args.text.now) c.tokens.rest.now c.tokens.draft c.tokens.invariant
    c.in_default.ensures.tokens

pub returns-in-Err : goal.returns-in-Err
returns-in-Err c =
    left-ends (approximate_step (states_of (plain_zone c.args.zone.now)) c.args.today.now)
    (draft_of (states_of (plain_zone c.args.zone.now)) c.args.today.now c.args.text.now) _ c.tokens.rest.now c.in-Some.after.now
    c.tokens.draft (token_of c.in-Some.token)
    c.tokens.invariant c.in-Some.ensures.tokens c.in-Some.ensures.shorter
    (draft-refused (states_of (plain_zone c.args.zone.now)) c.args.today.now c.tokens.draft (token_of c.in-Some.token) _ c.in-Err.fault
    c.in-Err.ensures.value)

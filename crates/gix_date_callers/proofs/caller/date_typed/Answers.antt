use Rattle.gix_date_callers.proofs.caller.date_typed.Goals as goal

-- the moment is the one that `to_zoned` gave
pub returns-clause-typed : goal.returns-clause-typed
returns-clause-typed c = λ convertible. (c.in_ok-moment.moment, c.in_ok-moment.ensures.value, c.parse.ensures.outcome)

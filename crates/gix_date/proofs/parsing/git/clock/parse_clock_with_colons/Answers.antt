use Rattle.std.proofs.Common.{ap, ◌∙◌, rules, Some}
use Rattle.gix_date.specs.Text.Characters.{is_colon}
use Rattle.gix_date.specs.Git.Clock.{clock_of_fields, digits_at_most}
use Rattle.gix_date.proofs.Git.ClockParts.{by_one, by_two, by_three, more_parts}
use Rattle.gix_date.proofs.parsing.git.clock.parse_clock_with_colons.Goals as goal

pub returns-in_default-clause-value : goal.returns-in_default-clause-value
returns-in_default-clause-value c =
    c.clock_of_fields.ensures.value ∙ ap (λ x. clock_of_fields x (Some 0) (Some 0)) c.digits_at_most.ensures.value
    ∙ by_one c.args.text.now (c.in_default.ensures.byte (search rules) (λ w o h. h))

pub returns-in_default-split_once-clause-value : goal.returns-in_default-split_once-clause-value
returns-in_default-split_once-clause-value c =
    let first = c.in-Some.ensures.byte (search rules) (λ w o h. h) in
    c.clock_of_fields-in_default-split_once.ensures.value
    ∙ ap (λ x. clock_of_fields x c.digits_at_most-in_default-split_once-2.result (Some 0))
    c.digits_at_most-in_default-split_once.ensures.value
    ∙ ap (λ x. clock_of_fields (digits_at_most 23 c.in-Some.hours.now) x (Some 0)) c.digits_at_most-in_default-split_once-2.ensures.value
    ∙ by_two c.args.text.now c.in-Some.hours.now c.in-Some.rest.now
    (more_parts is_colon c.args.text.now c.in-Some.hours.now c.in-Some.rest.now first.2 first.0 first.1)
    (c.in_default-split_once.ensures.byte (search rules) (λ w o h. h))

pub returns-clause-value : goal.returns-clause-value
returns-clause-value c =
    let first = c.in-Some.ensures.byte (search rules) (λ w o h. h) in
    let second = c.in-Some-split_once.ensures.byte (search rules) (λ w o h. h) in
    c.clock_of_fields-2.ensures.value
    ∙ ap (λ x. clock_of_fields x c.digits_at_most-3.result c.digits_at_most-4.result) c.digits_at_most-2.ensures.value
    ∙ ap (λ x. clock_of_fields (digits_at_most 23 c.in-Some.hours.now) x c.digits_at_most-4.result) c.digits_at_most-3.ensures.value
    ∙ ap (λ x. clock_of_fields (digits_at_most 23 c.in-Some.hours.now) (digits_at_most 59 c.in-Some-split_once.minutes.now) x)
    c.digits_at_most-4.ensures.value
    ∙ by_three c.args.text.now c.in-Some.hours.now c.in-Some-split_once.minutes.now c.in-Some.rest.now c.before-seconds.result.now
    c.in-Some-split_once.seconds.now
    (more_parts is_colon c.args.text.now c.in-Some.hours.now c.in-Some.rest.now first.2 first.0 first.1)
    (more_parts is_colon c.in-Some.rest.now c.in-Some-split_once.minutes.now c.in-Some-split_once.seconds.now second.2 second.0 second.1)
    c.before-seconds.ensures

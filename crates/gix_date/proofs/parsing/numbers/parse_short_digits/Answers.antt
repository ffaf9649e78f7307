use Rattle.std.proofs.Common.{rules, arith, ◌≡◌, ◌∙◌, ◌<◌, ◌^◌, ◌+◌, ◌*◌, sym, get_or, true}
use Rattle.std.specs.Char.{is_ascii_digit}
use Rattle.gix_date.proofs.Text.ShortDigits.{so_far-small, value-more, digits-more}
use Rattle.gix_date.proofs.parsing.numbers.parse_short_digits.Goals as goal

pub overflow_mul-value : goal.overflow_mul-value
overflow_mul-value c =
    let small = so_far-small c.args.digits.now c.loop-digit.digit-index 17 c.loop-digit.invariant.0 (omega arith) (omega arith) in
    let fits : 10 * c.loop-digit.value < 2 ^ 64 = omega (arith, small, c.loop-digit.invariant.1) in
    search rules

pub overflow_add-value : goal.overflow_add-value
overflow_add-value c =
    let small = so_far-small c.args.digits.now c.loop-digit.digit-index 17 c.loop-digit.invariant.0 (omega arith) (omega arith) in
    let byte = c.type_inv.digits c.loop-digit.digit-index in
    let fits : 10 * c.loop-digit.value + c.from.result < 2 ^ 64 = omega (arith, small, c.loop-digit.invariant.1, c.from.ensures, byte) in
    search rules

pub loop-digit-preserved : goal.loop-digit-preserved
loop-digit-preserved c =
    let digits = c.args.digits.now in
    let i = c.loop-digit.digit-index in
    let digit : is_ascii_digit (get_or digits i 0) ≡ true = sym c.is_ascii_digit.ensures.value ∙ c.if-not-is_ascii_digit.false in
    let more = value-more digits i (omega arith) digit in
    (digits-more digits i (omega arith) c.loop-digit.invariant.0 digit, omega (arith, more, c.loop-digit.invariant.1, c.from.ensures))

pub returns-clause-small : goal.returns-clause-small
returns-clause-small c =
    let small = so_far-small c.args.digits.now c.loop-digit.digit-index 18 c.loop-digit.invariant.0 (omega arith) (omega arith) in
    omega (arith, small, c.loop-digit.invariant.1)

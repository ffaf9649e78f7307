use Rattle.std.proofs.Common.{◌<◌, length, arith, rules}
use Rattle.gix_signature.proofs.Idents.UsualDates.{all_read, small_so_far}
use Rattle.gix_signature.proofs.ident.usual.small_number.Goals as goal

pub overflow_mul-value : goal.overflow_mul-value
overflow_mul-value c =
    let ds = c.args.digits.now in
    let within : c.loop-digit.digit-index < length ds = search rules in
    omega (
      arith,
      small_so_far ds c.loop-digit.digit-index c.loop-digit.value c.requires.digits c.requires.short within c.loop-digit.invariant,
    )

pub returns-clause-small : goal.returns-clause-small
returns-clause-small c =
    (all_read c.args.digits.now c.loop-digit.digit-index c.loop-digit.value c.requires.digits c.requires.short c.loop-digit-test.false
    c.loop-digit.invariant).1

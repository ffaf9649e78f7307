use Rattle.std.proofs.Common.{◌≡◌, length, get_or, sym, arith}
use Rattle.gix_date.proofs.Fast.Pairs.{AreTen, five_pairs, ten-from}
use Rattle.gix_date.proofs.parsing.numbers.parse_ten_digits.Goals as goal

ten : (c : goal.After-from-in-len10-4) → let ps = c.in_ok-a-in-len10.field-0 in
    AreTen c.args.digits.now (five_pairs (get_or ps 0 0) (get_or ps 1 0) (get_or ps 2 0) (get_or ps 3 0) c.in_ok-last-in-len10.last)
ten c =
    let long : length c.args.digits.now ≡ 10 = omega (arith, c.in-len10.len_at_least, c.in-len10.len_below) in
    ten-from c.args.digits.now c.in_ok-a-in-len10.field-0 c.in_ok-last-in-len10.last long c.in_ok-a-in-len10.ensures
    (sym c.in_ok-last-in-len10.ensures.value)

pub returns-in_ok-last-in-len10-clause-digits : goal.returns-in_ok-last-in-len10-clause-digits
returns-in_ok-last-in-len10-clause-digits c = (ten c).digits

pub returns-in_ok-last-in-len10-clause-value : goal.returns-in_ok-last-in-len10-clause-value
returns-in_ok-last-in-len10-clause-value c =
    let value = (ten c).value in
    omega (
      arith,
      value,
      c.from.ensures,
      c.from-in-len10.ensures,
      c.from-in-len10-2.ensures,
      c.from-in-len10-3.ensures,
      c.from-in-len10-4.ensures,
    )

pub returns-in_ok-last-in-len10-clause-small : goal.returns-in_ok-last-in-len10-clause-small
returns-in_ok-last-in-len10-clause-small c =
    let small = (ten c).small in
    omega (
      arith,
      small,
      c.from.ensures,
      c.from-in-len10.ensures,
      c.from-in-len10-2.ensures,
      c.from-in-len10-3.ensures,
      c.from-in-len10-4.ensures,
    )

use Rattle.std.proofs.Common.{◌≡◌, true, take}
use Rattle.std.specs.Str.{all_ascii_digits}
use Rattle.std.specs.Str.Parse.{digits_value}
use Rattle.gix_date.proofs.parsing.numbers.parse_short_digits.Given as goal

abbrev pub invariant-loop-digit : goal.invariant-loop-digit
invariant-loop-digit l = (all_ascii_digits (take l.digit-index l.digits) ≡ true) × (l.value ≡ digits_value 10 (take l.digit-index l.digits))

-- Zones that are not asked.
use Rattle.std.proofs.Common.{arith}
use Rattle.std.proofs.Common.{◌≡◌, ℕ, ℤ, List, true, Option, Some, None, Result, Ok, Err, refl}
use Rattle.std.specs.Option.{is_some}
use Rattle.jiff.specs.Types.{TimeZone}
use Rattle.jiff.specs.declared.zoned.Zoned.{Zoned}
use Rattle.git_date.specs.Exact.Outcome.{date_of, date_at, said_offset}
use Rattle.git_date.specs.Types.Names.{Said}
use Rattle.git_date.specs.declared.reader.ExactDate.{ExactDate}
use Rattle.git_date.specs.declared.error.DateError.{DateError}
use Rattle.git_date.proofs.Exact.ZoneOffsets.{moved}
use Rattle.git_date_laws.specs.Laws.{IgnoresZone, IsOfEveryZone}

pub zones : (moment : Zoned) (text : List ℕ) → IgnoresZone moment text
zones moment text tz other minutes result f = grind (arith, moved)

-- a date tells whether an offset was said
at-told : (said : Said) (minutes : ℤ) (date : ExactDate) → Ok date ≡ date_at said minutes → date.has_offset ≡ is_some said.offset
unfolding date_at
at-told said minutes date h = grind (arith)

pub told : (tz : TimeZone) (read : Result Said DateError) (date : ExactDate) → Ok date ≡ date_of tz read
    → date.has_offset ≡ is_some (said_offset read)
told tz (Err e) date h = absurd cc
told tz (Ok said) date h = grind (arith, at-told)

in-other : (other : TimeZone) (read : Result Said DateError) (date : ExactDate) (offset : Option ℤ) → is_some offset ≡ true
    → ((minutes : ℤ) → offset ≡ Some minutes → Ok date ≡ date_of other read) → Ok date ≡ date_of other read
in-other other read date (Some minutes) some h = h minutes refl
in-other other read date None some h = absurd cc

pub every_zone : (moment : Zoned) (text : List ℕ) → IsOfEveryZone moment text
every_zone moment text tz other date has h = grind (arith, in-other, told, moved)

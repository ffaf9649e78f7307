-- The zone of an offset, and of a text that names no file.
use Rattle.std.proofs.Common.{◌≡◌, ◌==◌, ◌||◌, if◌then◌else◌, refl, rules, ℕ, ℤ, Bool, true, false, List, length, Option, Some, None}
use Rattle.std.proofs.Common.{is_some, subst}
use Rattle.std.specs.Str.{bytes_eq}
use Rattle.jiff_tz.specs.PosixReader.{read_whole}
use Rattle.jiff_tz.specs.PosixText.{TzText}
use Rattle.git_date.specs.Exact.Places.{IsUtcOrRule, IsZoneWithoutFile, file_of, is_utc, rule_of, without_colon}
use Rattle.git_date.specs.declared.zone_texts.TheConstants.{MACHINE_ZONE}
use Rattle.jiff.specs.Placed.{fixed_zone}
use Rattle.jiff.specs.Types.{Offset, TimeZone}
use Rattle.git_date_tool.specs.Zones.Zones.{IsFixedAt, IsOffsetZone}

pub fixed_at : (seconds : ℤ) (o : Offset) (zone : TimeZone) → o.seconds ≡ seconds → zone ≡ fixed_zone o → IsFixedAt seconds zone
unfolding IsFixedAt
fixed_at seconds o zone is same = (o, is, same)

pub offset_said : (said : Option ℤ) (seconds : ℤ) (zone : TimeZone) → Some seconds ≡ said → IsFixedAt seconds zone
    → IsOffsetZone said (Some zone)
offset_said said seconds zone is h = subst (λ (said : Option ℤ). IsOffsetZone said (Some zone)) is h

-- a text that names no file is UTC or a rule
no-lack : (name : List ℕ) (found : Option (List ℕ)) (a b c : Bool) (rule : Option TzText) → read_whole name ≡ rule
    → found ≡ (if a || is_some rule then None else Some name) → found ≡ None → IsUtcOrRule ((a || b) || c) name None → ⊥
unfolding rule_of
no-lack name found true b c rule e d f w = search rules
no-lack name found false true c rule e d f w = search rules
no-lack name found false false true rule e d f w = search rules
no-lack name found false false false (Some t) e d f w = search rules
no-lack name found false false false None e d f w = search rules

pub no_lack : (tz : List ℕ) → file_of tz ≡ None → IsZoneWithoutFile tz None → ⊥
unfolding file_of
no_lack tz none lacks =
    let name = without_colon tz in
    no-lack name (file_of tz) (length name == 0) (bytes_eq name MACHINE_ZONE.now) (is_utc name) (read_whole name) refl refl none lacks

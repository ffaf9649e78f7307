-- What a zone says of instants, and how far its clock is from UTC.
use Rattle.std.proofs.Common.{◌≡◌, ◌∙◌, ℤ, Bool, true, false, cond, Option, Some, None, Result, Ok, Err, refl, sym, arith, ap, nat_eq, of_z}
use Rattle.std.proofs.Common.{FitsSigned, w32}
use Rattle.jiff.specs.Types.{TimeZone, UTC, Unknown, Fixed, Posix, Tzif}
use Rattle.jiff.specs.Words.{nanos_of_seconds, offset_at, IsFixed, IsInfoAt, IsOffsetSeconds}
use Rattle.jiff_core.proofs.SignedLemmas.{nat_eq-bits}
use Rattle.jiff_core.specs.declared.Offset.{Offset}
use Rattle.jiff_tz.specs.Flag.{is_dst}
use Rattle.jiff_tz.specs.declared.info.OffsetInfo.{OffsetInfo}
use Rattle.jiff_tz.specs.declared.posix.Dst.{Dst}
use Rattle.jiff_tz.specs.declared.posix.TimeZone.{TimeZone as RuleZone}
use Rattle.jiff_tz.specs.declared.tzif.Tzif.{Tzif as TableZone}
use Rattle.jiff_tz.specs.declared.tzif.transition.LocalTimeType.{LocalTimeType}
use Rattle.jiff_tz.specs.PosixRule as rule
use Rattle.jiff_tz.specs.PosixRule.{match_some}
use Rattle.jiff_tz.specs.Tzif as table
use Rattle.jiff_tz.specs.Zone.{zero_in_range}
use Rattle.gix_date.specs.Fields.Zoned.{is_instant}
use Rattle.git_date.specs.Exact.Outcome.{date_of, said_offset, at_offset}
use Rattle.git_date.specs.Exact.Zones.{daylight_at, state_there, states_of}
use Rattle.git_date.specs.declared.zones.ZoneState.{ZoneState}
use Rattle.git_date.specs.declared.reader.Said.{Said}
use Rattle.git_date.specs.declared.error.DateError.{DateError}
use Rattle.std.proofs.lemmas.Bool.Decides.{nat_tests}
use Rattle.std.specs.Ordering.{int_eq}

-- what a zone says of an instant
pub says-there : (tz : TimeZone) (s : ℤ) (there : ZoneState) → is_instant s ≡ true → there ≡ state_there tz (nanos_of_seconds s)
    → Some there ≡ states_of tz s
says-there tz s there e is = ap Some is ∙ ap (λ (b : Bool). cond b (Some (state_there tz (nanos_of_seconds s))) None) (sym e)

-- what it says something of is an instant
pub is-instant-there : (tz : TimeZone) (s : ℤ) (there : ZoneState) → Some there ≡ states_of tz s → is_instant s ≡ true
is-instant-there tz s there h = by (is_instant s) h
  where
    by : (b : Bool) → Some there ≡ cond b (Some (state_there tz (nanos_of_seconds s))) None → b ≡ true
    by true h = refl
    by false h = absurd cc

pub daylight-told : (tz : TimeZone) (n : ℤ) (info : OffsetInfo) → IsInfoAt tz n info → is_dst info.dst ≡ daylight_at tz n
unfolding daylight_at
daylight-told (Posix z) n info h = ap (λ (i : OffsetInfo). is_dst i.dst) h
daylight-told (Tzif z) n info h = ap (λ (i : OffsetInfo). is_dst i.dst) h
daylight-told x n info h = ap is_dst h.2

-- a zone of one offset has no daylight saving time
pub fixed-flag : (tz : TimeZone) (n : ℤ) → IsFixed tz → daylight_at tz n ≡ false
unfolding daylight_at
fixed-flag UTC n h = refl
fixed-flag Unknown n h = refl
fixed-flag (Fixed offset) n h = refl
fixed-flag (Posix z) n h = absurd h
fixed-flag (Tzif z) n h = absurd h

-- what holds at an instant, by a rule or a table, has the offset that the zone has there

rule-offset : (z : RuleZone) (n : ℤ) → (rule.info_at z n).offset ≡ rule.offset_at z n
rule-offset z n = by (rule.dst_at z n)
  where
    by : (found : Option Dst)
        → (match_some found (rule.std_info z) rule.dst_info).offset ≡ match_some found z.std_offset (λ (d : Dst). d.offset)
    by (Some d) = refl
    by None = refl

table-offset : (z : TableZone) (n : ℤ) → (table.info_at z n).offset ≡ table.offset_at z n
table-offset z n =
    by (table.rule_after z (table.count_at z (table.floor_second n))) (table.type_after z (table.count_at z (table.floor_second n)))
  where
    by : (found : Option RuleZone) (last : LocalTimeType)
        → (match_some found (table.info_of last) (λ (z : RuleZone). rule.info_at z n)).offset
        ≡ match_some found last.offset (λ (z : RuleZone). rule.offset_at z n)
    by (Some z) last = rule-offset z n
    by None last = refl

pub offset-told : (tz : TimeZone) (n : ℤ) (info : OffsetInfo) → IsInfoAt tz n info → info.offset.seconds ≡ offset_at tz n
unfolding offset_at
offset-told UTC n info h = h.0
offset-told Unknown n info h = h.0
offset-told (Fixed o) n info h = ap (λ (o : Offset). o.seconds) h.0
offset-told (Posix z) n info h = ap (λ (i : OffsetInfo). i.offset.seconds) h ∙ ap (λ (o : Offset). o.seconds) (rule-offset z n)
offset-told (Tzif z) n info h = ap (λ (i : OffsetInfo). i.offset.seconds) h ∙ ap (λ (o : Offset). o.seconds) (table-offset z.now n)

-- an offset of a zone is less than 26 hours
pub offset-near : (tz : TimeZone) (n : ℤ) → IsOffsetSeconds (offset_at tz n)
unfolding offset_at
offset-near UTC n = zero_in_range
offset-near Unknown n = zero_in_range
offset-near (Fixed o) n = o.in_range
offset-near (Posix z) n = (rule.offset_at z n).in_range
offset-near (Tzif z) n = (table.offset_at z.now n).in_range

-- offsets that are compared by their bits

pub same-bits : (a b : ℤ) → FitsSigned w32 a → FitsSigned w32 b → of_z w32 a ≡ of_z w32 b → int_eq a b ≡ true
same-bits a b fits other e =
    let same : nat_eq (of_z w32 a) (of_z w32 b) ≡ true = grind (arith, nat_tests) in
    sym (nat_eq-bits w32 a b fits other) ∙ same

pub other-bits : (a b : ℤ) → FitsSigned w32 a → FitsSigned w32 b → ¬ (of_z w32 a ≡ of_z w32 b) → int_eq a b ≡ false
other-bits a b fits other e =
    let unlike : nat_eq (of_z w32 a) (of_z w32 b) ≡ false = grind (arith, nat_tests) in
    sym (nat_eq-bits w32 a b fits other) ∙ unlike

-- an offset that is said leaves nothing to the zone
pub moved : (tz other : TimeZone) (read : Result Said DateError) (minutes : ℤ) → said_offset read ≡ Some minutes
    → date_of tz read ≡ date_of other read
moved tz other (Err e) minutes f = refl
moved tz other (Ok said) minutes f = ap (at_offset tz said) f ∙ ap (at_offset other said) (sym f)

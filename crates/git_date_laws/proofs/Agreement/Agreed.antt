-- Both readers read the same time.
use Rattle.std.proofs.Common.{arith}
use Rattle.std.proofs.Common.{◌≡◌, ◌≢◌, ◌≤ℤ◌, ℕ, pos, nat_lt, true, List, Option, Some, None, Ok, IsUtf8, option_map, refl, ap, sym, subst}
use Rattle.jiff.specs.declared.zoned.Zoned.{Zoned}
use Rattle.gix_date.proofs.Families.Disjoint.{epoch-int}
use Rattle.gix_date.proofs.Families.Exclusive.{answered, differ, alone-first}
use Rattle.gix_date.proofs.Fields.Layouts.{dates_spelled}
use Rattle.gix_date.specs.Families.Answer.{FamilyAnswer, Absolute, OffsetAboveDay, NoInstant, Relative}
use Rattle.gix_date.specs.Families.Epoch.{at_time, epoch_time}
use Rattle.gix_date.specs.Families.Laws.{Holds}
use Rattle.gix_date.specs.Families.Order.{Family, AtText, Rfc2822, Iso8601, Iso8601Strict, Gitoxide, Default, BareEpoch, GitForm}
use Rattle.gix_date.specs.Families.Order.{RelativeText, RawText, family_answer, first_family_by, ParseNoAllocOutcome}
use Rattle.gix_date.specs.Families.Patterns.{Accepts, IsMeaning, rfc2822_layout, iso8601_layout, iso8601_strict_layout, gitoxide_layout}
use Rattle.gix_date.specs.Families.Patterns.{default_layout, date_answer, time_answer}
use Rattle.gix_date.specs.Families.Raw.{OffsetRule, raw_time_by}
use Rattle.gix_date.specs.Fields.Layout.{LocalTime, Piece}
use Rattle.gix_date.specs.Relative.Steps.{zone_of}
use Rattle.gix_date.specs.declared.time.Time.{Time}
use Rattle.git_date.specs.Rules.Dates.{now_of}
use Rattle.git_date.specs.Types.Names.{Now}
use Rattle.git_date_laws.specs.Agree.{AgreesOnSeconds, AgreesOnDates, has_seconds, has_clock, HasNoLeapSecond}
use Rattle.git_date_laws.proofs.Agreement.Answers.{time-is}
use Rattle.git_date_laws.proofs.Agreement.Dates.{IsRead, date-reads, mail-read, iso-read, strict-read, gitoxide-read, default-read}
use Rattle.git_date_laws.proofs.Agreement.Seconds.{Reads, raw-reads, int-reads, at-reads}

-- what such a family answers is a time, if the whole call does
abbrev IsAbsolute : FamilyAnswer → Type 0
IsAbsolute (Relative date) = ⊥
IsAbsolute answer = Unit {0}

answer_is : (now : Option Zoned) (answer : FamilyAnswer) (time : Time) → IsAbsolute answer → ParseNoAllocOutcome (Some answer) now (Ok time)
    → answer ≡ Absolute time
answer_is now (Absolute t) time a h = let same : time ≡ t = cc in ap Absolute (sym same)
answer_is now (Relative date) time a h = absurd a
answer_is now OffsetAboveDay time a h = absurd cc
answer_is now NoInstant time a h = absurd cc

first-is : (rule : OffsetRule) (family : Family) (text : List ℕ) (now : Option Zoned) (time : Time) → IsUtf8 text → family ≢ GitForm
    → family ≢ RelativeText
    → ((answer : FamilyAnswer) → family_answer rule family text ≡ Some answer → IsAbsolute answer) → Holds rule family text
    → ParseNoAllocOutcome (first_family_by rule text) now (Ok time) → family_answer rule family text ≡ Some (Absolute time)
first-is rule family text now time u a b absolute h outcome = grind (arith, answered, alone-first, answer_is, absolute)

-- seconds, and clocks, are times
of-time : (found : Option Time) (answer : FamilyAnswer) → option_map Absolute found ≡ Some answer → IsAbsolute answer
of-time (Some t) answer e = let same : Absolute t ≡ answer = cc in subst IsAbsolute same tt
of-time None answer e = absurd cc

absolute : (found : Option Time) (t : Time) → option_map Absolute found ≡ Some (Absolute t) → found ≡ Some t
absolute (Some x) t e = cc
absolute None t e = absurd cc

of-clock : (l : LocalTime) (answer : FamilyAnswer) → time_answer l ≡ Some answer → IsAbsolute answer
unfolding date_answer
of-clock l answer e = grind (arith, nat_lt)

module _ (rule : OffsetRule) (moment : Zoned) (text : List ℕ) (u : IsUtf8 text) where
  abbrev this : Now
  this = now_of moment

  first : (family : Family) (now : Option Zoned) (time : Time) → family ≢ GitForm → family ≢ RelativeText
      → ((answer : FamilyAnswer) → family_answer rule family text ≡ Some answer → IsAbsolute answer)
      → Holds rule family text → ParseNoAllocOutcome (first_family_by rule text) now (Ok time)
      → family_answer rule family text ≡ Some (Absolute time)
  first family now time = first-is rule family text now time u

  seconds-read : (family : Family) (now : Option Zoned) (t : Time) → has_seconds family ≡ true → Holds rule family text
      → ParseNoAllocOutcome (first_family_by rule text) now (Ok t) → Reads this t text
  seconds-read AtText now t is h e =
      at-reads this rule text t u (absolute (at_time rule text) t
      (first AtText now t (differ AtText GitForm refl) (differ AtText RelativeText refl) (of-time (at_time rule text)) h e))
  seconds-read BareEpoch now t is h e =
      let n = epoch-int text t (absolute (epoch_time text) t
      (first BareEpoch now t (differ BareEpoch GitForm refl) (differ BareEpoch RelativeText refl) (of-time (epoch_time text)) h e)) in
      int-reads this text t n.0 n.1
  seconds-read RawText now t is h e =
      raw-reads this rule text t u (absolute (raw_time_by rule text) t
      (first RawText now t (differ RawText GitForm refl) (differ RawText RelativeText refl) (of-time (raw_time_by rule text)) h e))
  seconds-read family now t is h e = absurd cc

  formatted : (family : Family) (layout : List Piece) → Accepts (family_answer rule family) (IsMeaning layout time_answer) → IsRead layout
      → family ≢ GitForm → family ≢ RelativeText
      → (now : Option Zoned) (t : Time) → Holds rule family text → pos 0 ≤ℤ t.seconds → HasNoLeapSecond text
      → ParseNoAllocOutcome (first_family_by rule text) now (Ok t) → Reads this t text
  formatted family layout spelled r a b now t h since free e =
      date-reads layout r this t text since free ((spelled text (Absolute t)).0
      (first family now t a b (λ answer e. let m = (spelled text answer).0 e in of-clock m.time answer m.comes) h e))

  dates-read : (family : Family) (now : Option Zoned) (t : Time) → has_clock family ≡ true → Holds rule family text → pos 0 ≤ℤ t.seconds
      → HasNoLeapSecond text
      → ParseNoAllocOutcome (first_family_by rule text) now (Ok t) → Reads this t text
  dates-read Rfc2822 now t is h = formatted Rfc2822 rfc2822_layout dates_spelled.rfc2822 mail-read (differ Rfc2822 GitForm refl)
      (differ Rfc2822 RelativeText refl) now t h
  dates-read Iso8601 now t is h = formatted Iso8601 iso8601_layout dates_spelled.iso8601 iso-read (differ Iso8601 GitForm refl)
      (differ Iso8601 RelativeText refl) now t h
  dates-read Iso8601Strict now t is h = formatted Iso8601Strict iso8601_strict_layout dates_spelled.iso8601_strict strict-read
      (differ Iso8601Strict GitForm refl) (differ Iso8601Strict RelativeText refl) now t h
  dates-read Gitoxide now t is h = formatted Gitoxide gitoxide_layout dates_spelled.gitoxide gitoxide-read (differ Gitoxide GitForm refl)
      (differ Gitoxide RelativeText refl) now t h
  dates-read Default now t is h = formatted Default default_layout dates_spelled.default default-read (differ Default GitForm refl)
      (differ Default RelativeText refl) now t h
  dates-read family now t is h = absurd cc

  pub seconds_agree : AgreesOnSeconds rule moment text
  seconds_agree family now t date is h e said has none =
      let reads = seconds-read family now t is h e in
      time-is this (zone_of moment) t text date reads.0 reads.1 said has none

  pub dates_agree : AgreesOnDates rule moment text
  dates_agree family now t date is h since free e said has none =
      let reads = dates-read family now t is h since free e in
      time-is this (zone_of moment) t text date reads.0 reads.1 said has none

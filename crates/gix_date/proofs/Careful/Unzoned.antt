-- A date in which no offset is written has an instant.
use Rattle.std.proofs.Common.{arith}
use Rattle.std.proofs.Common.{◌≡◌, ◌∙◌, ap, sym, subst, ℕ, ℤ, Bool, true, false, cond, List, refl, Option, Some, None}
use Rattle.std.specs.Option.{option_or, option_map}
use Rattle.std.specs.Prelude.{◌&&◌, IfSome}
use Rattle.gix_date.specs.Careful.Dates.{unzoned_day, unzoned_git_time, unzoned_time}
use Rattle.gix_date.specs.Families.Epoch.{utc_time}
use Rattle.gix_date.specs.Fields.Civil.{is_date, is_clock, civil_seconds, civil_instant}
use Rattle.gix_date.specs.Text.Front.{◌>>=◌}
use Rattle.gix_date.specs.Git.ClockCut.{Cut}
use Rattle.gix_date.specs.Git.Forms.{time_of_cut}
use Rattle.gix_date.specs.Fields.Zoned.{is_instant}
use Rattle.gix_date.specs.declared.clock.ClockFields.{ClockFields}
use Rattle.gix_date.specs.declared.clock.DateFields.{DateFields}
use Rattle.gix_date.specs.declared.time.Time.{Time}

abbrev pub HasInstant : Option Time → Type 0
HasInstant found = IfSome found (λ t. is_instant t.seconds ≡ true)

either : (a b : Option Time) → HasInstant a → HasInstant b → HasInstant (option_or a b)
either (Some t) b h k = h
either None b h k = k

after : {A : Type 0} → (a : Option A) → (f : A → Option Time) → ((x : A) → HasInstant (f x)) → HasInstant (a >>= f)
after None f h = tt
after (Some x) f h = h x

unless : (b : Bool) (a : Option Time) → HasInstant a → HasInstant (cond b None a)
unless true a h = tt
unless false a h = h

chosen : (a b c : Bool) (s : ℤ) → is_instant s ≡ c → IfSome (cond (a && b && c) (Some s) None) (λ s. is_instant s ≡ true)
chosen true true true s e = e
chosen a b c s e = tt

civil_has : (d : DateFields) (c : ClockFields) (offset : ℤ) → IfSome (civil_instant d c offset) (λ s. is_instant s ≡ true)
unfolding civil_instant
civil_has d c offset = chosen (is_date d) (is_clock c) (is_instant (civil_seconds d c offset)) (civil_seconds d c offset) refl

in_utc : (a : Option ℤ) → IfSome a (λ s. is_instant s ≡ true) → HasInstant (option_map utc_time a)
in_utc None h = tt
in_utc (Some s) h = h

at_offset : (a : Option ℤ) (offset : ℤ) → IfSome a (λ s. is_instant s ≡ true)
    → HasInstant (a >>= λ s. Some (record { seconds = s; offset = offset }))
at_offset None offset h = tt
at_offset (Some s) offset h = h

pub day_has : (text : List ℕ) → HasInstant (unzoned_day text)
unfolding unzoned_day
day_has text = grind (arith, after, unless, in_utc, civil_has)

pub day_instant : (text : List ℕ) (t : Time) → Some t ≡ unzoned_day text → is_instant t.seconds ≡ true
day_instant text t e = subst HasInstant (sym e) (day_has text)

cut_has : (date : DateFields) (cut : Cut) → HasInstant (time_of_cut date cut)
unfolding time_of_cut
cut_has date cut = grind (arith, after, at_offset, civil_has)

pub git_has : (text : List ℕ) → HasInstant (unzoned_git_time text)
unfolding unzoned_git_time
git_has text = grind (arith, after, unless, cut_has)

pub git_instant : (text : List ℕ) (zoned : Bool) (t : Time) → unzoned_git_time text ≡ cond zoned None (Some t) → zoned ≡ false
    → is_instant t.seconds ≡ true
git_instant text zoned t e f = subst HasInstant (e ∙ ap (λ (b : Bool). cond b None (Some t)) f) (git_has text)

pub unzoned_has : (text : List ℕ) → HasInstant (unzoned_time text)
unfolding unzoned_time
unzoned_has text = either (unzoned_day text) (unzoned_git_time text) (day_has text) (git_has text)

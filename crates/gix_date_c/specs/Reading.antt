-- What reading a text comes to, where it may be refused at a place.
use Rattle.std.specs.Prelude.{◌≡◌, ℕ, List, Bool, true, false, Result, Ok, Err}
use Rattle.jiff.specs.Types.{TimeZone}
use Rattle.jiff.specs.declared.zoned.Zoned.{Zoned}
use Rattle.gix_date_c.specs.Moments.{IsNow, IsPlaced, Place}
use Rattle.gix_date_c.specs.Values.Refusals.{refused}
use Rattle.gix_date_c.specs.declared.moment.CInstant.{CInstant}
use Rattle.gix_date_c.specs.declared.values.refusal.Refusal.{Refusal}
use Rattle.gix_date_c.specs.declared.values.status.Status.{Status}
use Rattle.gix_date_c.specs.declared.values.status.Status.TheVariants.{NotText}

-- what is read of bytes that are text; of others it is told that they are none
abbrev pub IfText : {T : Type 0} → Bool → (Result T Refusal → Type 0) → Result T Refusal → Type 0
IfText true Reads answer = Reads answer
IfText false Reads answer = answer ≡ Err (refused NotText)

-- what a reader comes to at a moment, or where there is none for this reason
abbrev pub IsReadAt : {M T : Type 0} → (M → List ℕ → Result T Refusal → Type 0) → Result M Status → List ℕ
    → Result T Refusal → Type 0
IsReadAt Reads (Ok now) text answer = Reads now text answer
IsReadAt Reads (Err status) text answer = answer ≡ Err (refused status)

-- what a reader comes to at an instant in a zone of which this is known
abbrev pub IsReadIn : {T : Type 0} → (Zoned → List ℕ → Result T Refusal → Type 0) → (Result TimeZone Status → Type 0)
    → CInstant → List ℕ → Result T Refusal → Type 0
IsReadIn Reads IsZone instant text answer =
    (now : Result Zoned Status) × IsNow IsZone instant now × IsReadAt Reads now text answer

-- the same of a reader that takes the instant and the zone apart
abbrev pub IsReadPlaced : {T : Type 0} → (Place → List ℕ → Result T Refusal → Type 0) → (Result TimeZone Status → Type 0)
    → CInstant → List ℕ → Result T Refusal → Type 0
IsReadPlaced Reads IsZone instant text answer =
    (place : Result Place Status) × IsPlaced IsZone instant place × IsReadAt Reads place text answer

-- What calls store for the caller.
use Rattle.std.specs.Prelude.{◌≡◌, ℕ, Result, Ok, Err}
use Rattle.gix_date_c.specs.Values.Refusals.{place_after, with_status}
use Rattle.gix_date_c.specs.Values.Statuses.{number_of}
use Rattle.gix_date_c.specs.declared.values.refusal.Refusal.{Refusal}
use Rattle.gix_date_c.specs.declared.values.status.Status.{Status}
use Rattle.gix_date_c.specs.declared.values.status.Status.TheVariants.{Done}

-- What a call did that gives a value: it is there; or what was there is as it was, and the status says why.
abbrev pub Stores : {T : Type 0} → Result T Status → T → T → ℕ → Type 0
Stores (Ok value) old new status = (new ≡ value) × (status ≡ number_of Done)
Stores (Err refusal) old new status = (new ≡ old) × (status ≡ number_of refusal)

-- What a call did that reads a text, of whose answer this is known: beside the value there is a place, which is that of the refusal, or as
-- it was.
abbrev pub StoresRead : {T : Type 0} → (Result T Refusal → Type 0) → T × ℕ → T × ℕ → ℕ → Type 0
StoresRead {T} Answers old new status =
    (answer : Result T Refusal) × Answers answer × Stores (with_status answer) old.0 new.0 status
    × (new.1 ≡ place_after answer old.1)

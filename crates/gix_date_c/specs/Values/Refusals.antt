-- Why texts are refused, as C is told.
use Rattle.std.specs.Prelude.{ℕ, Some, None, unwrap_or, Result, Ok, Err}
use Rattle.std.specs.Result.{result_map_both}
use Rattle.gix_date_c.specs.declared.values.refusal.Refusal.{Refusal}
use Rattle.gix_date_c.specs.declared.values.status.Status.{Status}

abbrev pub refused : Status → Refusal
refused status = record { status = status; place = None }

abbrev pub refused_at : Status → ℕ → Refusal
refused_at status place = record { status = status; place = Some place }

-- what was read, or the status of the refusal
abbrev pub with_status : {T : Type 0} → Result T Refusal → Result T Status
with_status answer = result_map_both (λ t. t) (λ refusal. refusal.status) answer

-- the place that a call leaves: that of the refusal, and else what was there
abbrev pub place_after : {T : Type 0} → Result T Refusal → ℕ → ℕ
place_after (Ok value) old = old
place_after (Err refusal) old = unwrap_or refusal.place old

-- Times as C has them, and what calls that give one answer.
use Rattle.std.specs.Prelude.{ℕ, List, Result, ok_or}
use Rattle.std.specs.Result.{result_map_both}
use Rattle.gix_date.specs.Header.Reading.{header_time}
use Rattle.gix_date.specs.declared.time.Time.{Time}
use Rattle.gix_date_c.specs.Values.Statuses.{if_text}
use Rattle.gix_date_c.specs.Values.Stores.{Stores}
use Rattle.gix_date_c.specs.declared.values.status.Status.{Status}
use Rattle.gix_date_c.specs.declared.values.status.Status.TheVariants.{InvalidTime}
use Rattle.gix_date_c.specs.declared.values.time.CTime.{CTime}

-- a time of C as one of the library
abbrev pub load_time : CTime → Time
load_time t = record { seconds = t.seconds; offset = t.offset }

-- a time of the library as C has it
abbrev pub time_for_c : Time → CTime
time_for_c t = record { seconds = t.seconds; offset = t.offset }

-- `Stores` of a time
abbrev pub StoresTime : Result Time Status → CTime → CTime → ℕ → Type 0
StoresTime answer = Stores (result_map_both time_for_c (λ status. status) answer)

-- the time that a header says
abbrev pub header_answer : List ℕ → Result Time Status
header_answer text = if_text text (ok_or (header_time text) InvalidTime)

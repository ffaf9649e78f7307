-- What the cells of a line hold after a call for many lines.
use Rattle.std.proofs.Common.{◌≡◌, ◌∙◌, ℕ, ℤ, pos, zero, suc, ◌<◌, List, [], ◌∷◌, length, get_or, refl, ap, ap₂, subst, arith, Result, Ok}
use Rattle.std.proofs.Common.{Err}
use Rattle.std.proofs.lemmas.Slice.Zip.{AllZip-long}
use Rattle.std.specs.List.{AllZip}
use Rattle.gix_date_c.specs.Laws.{LinesAreTexts, time_at}
use Rattle.gix_date_c.specs.Lines.Columns.{Columns, changed, offset_after, room_of, seconds_after, status_after}
use Rattle.gix_date_c.specs.Lines.Readers.{IsLineRead}
use Rattle.gix_date_c.specs.Values.Stores.{Stores}
use Rattle.gix_date_c.specs.declared.lines.reader.LineReader.{LineReader}
use Rattle.gix_date_c.specs.declared.values.status.Status.{Status}
use Rattle.gix_date_c.specs.declared.values.status.Status.TheVariants.{NotText}
use Rattle.gix_date_c.specs.declared.values.time.CTime.{CTime}

cell-changed : {A B : Type 0} (change : B → A → A) (values : List B) (cells : List A) (i : ℕ) (value : B) (cell : A) → i < length values
    → i < length cells
    → get_or (changed change values cells) i cell ≡ change (get_or values i value) (get_or cells i cell)
cell-changed change [] cells i value cell h k = absurd (omega arith)
cell-changed change (v ∷ vs) [] i value cell h k = absurd (omega arith)
cell-changed change (v ∷ vs) (c ∷ cs) zero value cell h k = refl
cell-changed change (v ∷ vs) (c ∷ cs) (suc i) value cell h k = cell-changed change vs cs i value cell (omega arith) (omega arith)

zip-at : {A B : Type 0} (R : A → B → Type 0) (xs : List A) (ys : List B) (i : ℕ) (x : A) (y : B) → AllZip R xs ys → i < length xs
    → R (get_or xs i x) (get_or ys i y)
zip-at R [] ys i x y h k = absurd (omega arith)
zip-at R (a ∷ more) [] i x y h k = absurd h
zip-at R (a ∷ more) (b ∷ bs) zero x y h k = h.0
zip-at R (a ∷ more) (b ∷ bs) (suc i) x y h k = zip-at R more bs i x y h.1 (omega arith)

stored-so : (answer : Result CTime Status) (old new : CTime) (before status : ℕ) → new.seconds ≡ seconds_after answer old.seconds
    → new.offset ≡ offset_after answer old.offset → status ≡ status_after answer before → Stores answer old new status
stored-so (Ok time) old new before status s o n = (ap₂ (λ (a b : ℤ). record { seconds = a; offset = b }) s o, n)
stored-so (Err refusal) old new before status s o n = (ap₂ (λ (a b : ℤ). record { seconds = a; offset = b }) s o, n)

-- each line that is read leaves in its cells what the call for one text stores
pub lines_are_texts : (reader : LineReader) → LinesAreTexts reader
lines_are_texts reader block old new done h i k =
    let none : Result CTime Status = Err NotText in
    let line : i < length h.lines = subst (λ (n : ℕ). i < n) h.counted k in
    let many = AllZip-long (IsLineRead reader) h.lines h.answers h.each in
    let answer : i < length h.answers = omega arith in
    let room : i < room_of old = omega (arith, h.first.within) in (
      get_or h.answers i none,
      zip-at (IsLineRead reader) h.lines h.answers i [] none h.each line,
      stored-so (get_or h.answers i none) (time_at old i) (time_at new i) (get_or old.statuses i 0) (get_or new.statuses i 0)
          (ap (λ (c : Columns). get_or c.seconds i (pos 0)) h.stored
          ∙ cell-changed seconds_after h.answers old.seconds i none (pos 0) answer (omega arith))
          (ap (λ (c : Columns). get_or c.offsets i (pos 0)) h.stored
          ∙ cell-changed offset_after h.answers old.offsets i none (pos 0) answer (omega arith))
          (ap (λ (c : Columns). get_or c.statuses i 0) h.stored
          ∙ cell-changed status_after h.answers old.statuses i none 0 answer (omega arith)),
    )

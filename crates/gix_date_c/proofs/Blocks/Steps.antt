-- How far a block is read or checked, line by line.
use Rattle.std.proofs.Common.{◌≡◌, ◌∙◌, ◌⊎◌, ℕ, ◌+◌, ◌-◌, ◌<◌, ◌≤◌, List, [], ◌∷◌, ◌++◌, length, refl, sym, ap, subst, arith, length-append}
use Rattle.std.proofs.Common.{Result, Ok, append_assoc, inl, true, Option, Bor}
use Rattle.std.specs.Prelude.{MatchOption}
use Rattle.std.proofs.Math.ListN.{set}
use Rattle.std.proofs.lemmas.Str.{IsUtf8-from_ascii, is_utf8-from_IsUtf8}
use Rattle.std.proofs.lemmas.Slice.Zip.{AllZip-long}
use Rattle.std.specs.List.{AllZip}
use Rattle.gix_date.specs.Header.Canonical.{is_canonical_header}
use Rattle.gix_date.specs.Text.Characters.{newline}
use Rattle.gix_date.specs.declared.time.Time.{Time}
use Rattle.streams.specs.Lines.{IsCutAfter}
use Rattle.streams.specs.Usual.{BeginsWithHeader, BeginsWithTime}
use Rattle.gix_date_c.specs.Git.Dates.{bool_for_c}
use Rattle.gix_date_c.specs.Lines.Blocks.{ChecksLines, DoesLines, IsChecked, IsFirstRead}
use Rattle.gix_date_c.specs.Lines.Columns.{Columns, changed, columns_after, room_of, with_answer}
use Rattle.gix_date_c.specs.Lines.Readers.{IsLineRead, for_c}
use Rattle.gix_date_c.specs.Values.Times.{header_answer, time_for_c}
use Rattle.gix_date_c.specs.declared.lines.reader.LineReader.{LineReader}
use Rattle.gix_date_c.specs.declared.lines.reader.LineReader.TheVariants.{Header}
use Rattle.gix_date_c.specs.declared.values.status.Status.{Status}
use Rattle.gix_date_c.specs.declared.values.time.CTime.{CTime}
use Rattle.gix_date_c.proofs.Blocks.Columns.{changed-set, stored-next}
use Rattle.gix_date_c.proofs.Blocks.Parts.{SoFar, SoFar-first, SoFar-next, SoFar-none}

-- one line more has its answer
AllZip-more : (Reads : List ℕ → Result CTime Status → Type 0) (lines : List (List ℕ)) (answers : List (Result CTime Status)) (line : List ℕ)
    (answer : Result CTime Status) → AllZip Reads lines answers → Reads line answer
    → AllZip Reads (lines ++ line ∷ []) (answers ++ answer ∷ [])
AllZip-more Reads [] [] line answer h k = (k, tt)
AllZip-more Reads [] (a ∷ more) line answer h k = absurd h
AllZip-more Reads (l ∷ ls) [] line answer h k = absurd h
AllZip-more Reads (l ∷ ls) (a ∷ more) line answer h k = (h.0, AllZip-more Reads ls more line answer h.1 k)

-- so many lines of a block are read, and this is left
pub record Reading (Reads : List ℕ → Result CTime Status → Type 0) (block : List ℕ) (old new : Columns) (far : List ℕ × ℕ) : Type 0 where
  pub lines : List (List ℕ)
  pub answers : List (Result CTime Status)
  pub so_far : SoFar block far.0 lines
  pub each : AllZip Reads lines answers
  pub stored : new ≡ columns_after answers old
  pub counted : far.1 ≡ length lines
  pub within : far.1 ≤ room_of old

pub Reading-none : (Reads : List ℕ → Result CTime Status → Type 0) (block : List ℕ) (old : Columns) → Reading Reads block old old (block, 0)
Reading-none Reads block old = record {
  lines = [];
  answers = [];
  so_far = SoFar-none block;
  each = tt;
  stored = refl;
  counted = refl;
  within = omega arith;
}

pub Reading-next : (Reads : List ℕ → Result CTime Status → Type 0) (block : List ℕ) (old new newer : Columns) (left line after : List ℕ)
    (done : ℕ)
    (answer : Result CTime Status) → Reading Reads block old new (left, done) → done < room_of old → IsCutAfter left (line, after)
    → Reads line answer
    → newer ≡ with_answer done answer new → Reading Reads block old newer (after, done + 1)
Reading-next Reads block old new newer left line after done answer h room cut reads put =
    let many : done ≡ length h.answers = h.counted ∙ sym (AllZip-long Reads h.lines h.answers h.each) in
    record {
      lines = h.lines ++ line ∷ [];
      answers = h.answers ++ answer ∷ [];
      so_far = SoFar-next block left line after h.lines h.so_far cut;
      each = AllZip-more Reads h.lines h.answers line answer h.each reads;
      stored = put ∙ ap (λ n. with_answer n answer new) many ∙ ap (λ cells. with_answer (length h.answers) answer cells) h.stored
          ∙ stored-next h.answers answer old;
      counted = omega (arith, length-append h.lines (line ∷ []), h.counted);
      within = omega arith;
    }

pub Reading-all : (Reads : List ℕ → Result CTime Status → Type 0) (block : List ℕ) (old new : Columns) (left : List ℕ) (done : ℕ)
    → Reading Reads block old new (left, done) → (left ≡ []) ⊎ (done ≡ room_of old)
    → DoesLines Reads block old new (done, length block - length left)
Reading-all Reads block old new left done h end = record {
  lines = h.lines;
  answers = h.answers;
  first = SoFar-first block left h.lines (room_of old) h.so_far (subst (λ n. n ≤ room_of old) h.counted h.within)
      (subst (λ n. (left ≡ []) ⊎ (n ≡ room_of old)) h.counted end);
  each = h.each;
  stored = h.stored;
  counted = h.counted;
}

-- so many lines of a block are checked, and this is left
pub record Checking (block old new : List ℕ) (far : List ℕ × ℕ) : Type 0 where
  pub lines : List (List ℕ)
  pub so_far : SoFar block far.0 lines
  pub stored : new ≡ changed (λ line cell. bool_for_c (is_canonical_header line)) lines old
  pub counted : far.1 ≡ length lines
  pub within : far.1 ≤ length old

pub Checking-none : (block old : List ℕ) → Checking block old old (block, 0)
Checking-none block old = record { lines = []; so_far = SoFar-none block; stored = refl; counted = refl; within = omega arith }

pub Checking-next : (block old new newer left line after : List ℕ) (done : ℕ) → Checking block old new (left, done) → done < length old
    → IsCutAfter left (line, after) → newer ≡ set new done (bool_for_c (is_canonical_header line))
    → Checking block old newer (after, done + 1)
Checking-next block old new newer left line after done h room cut put =
    let cell = bool_for_c (is_canonical_header line) in
    record {
      lines = h.lines ++ line ∷ [];
      so_far = SoFar-next block left line after h.lines h.so_far cut;
      stored = put ∙ ap (λ n. set new n cell) h.counted ∙ ap (λ cells. set cells (length h.lines) cell) h.stored
          ∙ sym (changed-set (λ line cell. bool_for_c (is_canonical_header line)) h.lines line old cell (λ _. refl));
      counted = omega (arith, length-append h.lines (line ∷ []), h.counted);
      within = omega arith;
    }

pub Checking-all : (block old new left : List ℕ) (done : ℕ) → Checking block old new (left, done) → (left ≡ []) ⊎ (done ≡ length old)
    → ChecksLines block old new (done, length block - length left)
Checking-all block old new left done h end = record {
  lines = h.lines;
  first = SoFar-first block left h.lines (length old) h.so_far (subst (λ n. n ≤ length old) h.counted h.within)
      (subst (λ n. (left ≡ []) ⊎ (n ≡ length old)) h.counted end);
  stored = h.stored;
  counted = h.counted;
}

-- a usual header in front is canonical
pub canonical_checked : (input after : List ℕ) → BeginsWithHeader input after → IsChecked input true after
canonical_checked input after h = record {
  line = h.line;
  cut = (h.is_line, inl (h.whole ∙ append_assoc h.line (newline ∷ []) after));
  is = sym h.is_canonical;
}

-- a usual header in front is read as its time
pub header_read : (input after : List ℕ) (time : Time) → BeginsWithTime input time after
    → IsFirstRead (IsLineRead Header) input (Ok (time_for_c time)) after
header_read input after time h =
    let text = is_utf8-from_IsUtf8 h.line (IsUtf8-from_ascii h.line h.is_header.is_ascii) in
    let says : Ok (time_for_c time) ≡ for_c (header_answer h.line) = rw (text, h.is_header.says) refl in
    record {
      line = h.line;
      cut = (h.is_header.is_line, inl (h.whole ∙ append_assoc h.line (newline ∷ []) after));
      reads = says;
    }

-- so it is by the reader of headers
pub header_reader : (reader : LineReader) (input : List ℕ) (found : Option (Result CTime Status × Bor (List ℕ))) → reader ≡ Header
    → MatchOption found (input ≡ []) (λ answer. IsFirstRead (IsLineRead Header) input answer.0 answer.1.now)
    → MatchOption found (input ≡ []) (λ answer. IsFirstRead (IsLineRead reader) input answer.0 answer.1.now)
header_reader reader input found is h =
    subst (λ (r : LineReader). MatchOption found (input ≡ []) (λ answer. IsFirstRead (IsLineRead r) input answer.0 answer.1.now)) (sym is) h

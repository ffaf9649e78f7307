-- What formats show: themselves, and times as Git stores them.
use Rattle.std.proofs.Common.{◌≡◌, ◌∙◌, ◌<◌, ℕ, Bool, true, false, cond, List, [], ◌∷◌, ◌++◌, length, refl, ap, sym, arith, append-nil, ℤ}
use Rattle.std.proofs.Common.{Option, Some, None, Ok, codes}
use Rattle.std.proofs.Math.Seq.{drop-length, take-length}
use Rattle.std.specs.List.{list_any}
use Rattle.std.specs.Prelude.{◌&&◌, ◌||◌, option_map}
use Rattle.jiff.specs.Types.{TimeZone}
use Rattle.gix_date.specs.Fields.Layout.{LocalTime}
use Rattle.gix_date.specs.Printing.LocalClocks.{clock_of}
use Rattle.gix_date.specs.Text.Front.{◌>>=◌}
use Rattle.gix_date.specs.Text.Numbers.{decimal_text}
use Rattle.gix_date.specs.declared.time.Time.{Time}
use Rattle.git_date.specs.Show.Clocks.{own_clock, has_own_clock}
use Rattle.git_date.specs.Show.Dates.{raw_text}
use Rattle.git_date.specs.Tokens.Numbers.{number}
use Rattle.git_date.specs.Formats.Format.{shown_by_format, shown_pieces, asks_seconds, pieces_text}
use Rattle.git_date.specs.Formats.Pieces.{Piece, Text, is_percent, text_len, next_piece, pieces, pieces_in, pieces_or_none, made_at}
use Rattle.git_date.specs.Formats.Shown.{Shown, shown_at, own_shown}
use Rattle.git_date.proofs.Formats.Pieces.{next_text}
use Rattle.git_date.proofs.Formats.Walks.{Left, left-all, left-next, left-end, pieces-are}
use Rattle.git_date_laws.specs.Formats.{ShowsItself, ShowsStored, IsOfKnownYear}

-- no percent sign
plain-by : (c : ℕ) (rest : List ℕ) (b : Bool) → is_percent c ≡ b → (b || list_any is_percent rest) ≡ false
    → (list_any is_percent rest ≡ false → text_len rest ≡ length rest) → text_len (c ∷ rest) ≡ length (c ∷ rest)
plain-by c rest true e h more = absurd cc
plain-by c rest false e h more = rw e (omega (arith, more h))

all-text : (format : List ℕ) → list_any is_percent format ≡ false → text_len format ≡ length format
all-text [] h = refl
all-text (c ∷ rest) h = plain-by c rest (is_percent c) refl h (all-text rest)

abbrev IsWhole : List ℕ → List Piece → Type 0
IsWhole format done = done ≡ Text format ∷ []

one-piece : (format : List ℕ) → 0 < length format → list_any is_percent format ≡ false → Text format ∷ [] ≡ pieces_or_none format
one-piece format h plain =
    let all = all-text format plain in
    let next : Ok (Text format, []) ≡ next_piece format =
    next_text format format [] (length format) h (sym all) (λ e. absurd (omega arith)) (sym (take-length format))
    (sym (drop-length format)) in
    let start : Left format format (λ done. done ≡ []) = left-all format (λ done. done ≡ []) refl in
    let left : Left format [] (IsWhole format) =
    left-next format format [] (λ done. done ≡ []) (IsWhole format) (Text format) start h next h
    (λ done e. ap (λ (ps : List Piece). ps ++ Text format ∷ []) e) in
    sym left.so_far ∙ pieces-are format left.done (left-end format [] (IsWhole format) left refl)

no-piece : [] ≡ pieces_or_none []
unfolding pieces pieces_in
no-piece = refl

pub and-false : (b : Bool) → (b && false) ≡ false
and-false true = refl
and-false false = refl

-- pieces that ask for no seconds are shown
by-found : (ps : List Piece) (text : List ℕ) (found : Option Shown) → asks_seconds ps ≡ false
    → ((shown : Shown) → pieces_text shown ps ≡ text)
    → (found >>= shown_pieces ps) ≡ option_map (λ shown. text) found
by-found ps text None h is = refl
by-found ps text (Some shown) h is = grind (arith, and-false)

pub shows_itself : (zone : TimeZone) (local : Bool) (format : List ℕ) (t : Time) → ShowsItself zone local format t
unfolding shown_by_format
shows_itself zone local [] t plain =
    ap (λ (ps : List Piece). shown_at zone local t >>= shown_pieces ps) (sym no-piece)
    ∙ by-found [] [] (shown_at zone local t) refl (λ shown. refl)
shows_itself zone local (c ∷ rest) t plain =
    ap (λ (ps : List Piece). shown_at zone local t >>= shown_pieces ps) (sym (one-piece (c ∷ rest) (omega arith) plain))
    ∙ by-found (Text (c ∷ rest) ∷ []) (c ∷ rest) (shown_at zone local t) refl (λ shown. append-nil (c ∷ rest))

-- the own clock shows the time's offset
abbrev offset_in : ℤ → Option LocalTime → ℤ
offset_in other None = other
offset_in other (Some clock) = clock.offset

offset-by : (b : Bool) (t : Time) (clock : LocalTime) → cond b (Some (clock_of t)) None ≡ Some clock → clock.offset ≡ t.offset
unfolding clock_of
offset-by true t clock e = ap (λ (found : Option LocalTime). offset_in t.offset found) (sym e)
offset-by false t clock e = absurd cc

own-offset : (t : Time) (clock : LocalTime) → own_clock t ≡ Some clock → clock.offset ≡ t.offset
unfolding own_clock
own-offset t clock e = offset-by (has_own_clock t) t clock e

seconds-shown : (zone : TimeZone) (t : Time) (k : IsOfKnownYear t)
    → shown_by_format zone false (codes "%s") t ≡ Some (decimal_text t.seconds)
unfolding shown_by_format own_shown pieces pieces_in next_piece made_at number
seconds-shown zone t k = grind (arith, append-nil)

raw-shown : (zone : TimeZone) (t : Time) (k : IsOfKnownYear t)
    → shown_by_format zone false (codes "%s %z") t ≡ Some (raw_text t.seconds t.offset)
unfolding shown_by_format own_shown pieces pieces_in next_piece made_at number
raw-shown zone t k = grind (arith, append-nil, own-offset)

pub shows_stored : (zone : TimeZone) (t : Time) → ShowsStored zone t
unfolding ShowsStored
shows_stored zone t k = (seconds-shown zone t k, raw-shown zone t k)

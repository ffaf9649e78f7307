-- What is printed by a pattern, or is not, and what is printed without an owned text.
use Rattle.std.proofs.Common.{◌≡◌, ◌∙◌, ◌≤◌, ◌<◌, ◌^◌, ℕ, List, length, Bool, true, false, Result, Ok, Err, IsUtf8, inl, inr, refl, sym, ap}
use Rattle.std.proofs.Common.{subst, arith, string_bytes, None}
use Rattle.std.specs.Prelude.{String}
use Rattle.std.specs.Global.{Global}
use Rattle.std.proofs.lemmas.Str.{is_utf8-from_IsUtf8}
use Rattle.std.specs.Str.{is_utf8}
use Rattle.gix_date.proofs.Header.HeaderLaws.{canonical-utf8}
use Rattle.gix_date.proofs.Text.Texts.{no_text}
use Rattle.gix_date.specs.Header.Canonical.{is_canonical_header}
use Rattle.gix_date.specs.Printing.NamedFormats.{format_numbered}
use Rattle.gix_date.specs.Printing.Formats.{IsTextOf, IsPatternText, Prints}
use Rattle.gix_date.specs.declared.error.Error.{Error}
use Rattle.gix_date.specs.declared.time.Time.{Time}
use Rattle.gix_date.specs.declared.time.format.Format.{Format}
use Rattle.gix_date.specs.declared.time.format.Format.TheVariants.{Custom, Unix, Raw}
use Rattle.gix_date_c.specs.Printing.{IsFormatted, IsPatternPrinted, IsPrinted, PrintsPatternSo, PrintsSo}
use Rattle.gix_date_c.specs.declared.values.status.Status.{Status}
use Rattle.gix_date_c.specs.declared.values.status.Status.TheVariants.{NoSuchOption, NotText}
use Rattle.gix_date_c.specs.Values.Buffers.{Puts, outcome, outcome_of}
use denote.RawPtr.{null_ptr}

-- a pattern that is no text is refused as such
pub not_text-refused : (Prints : Result (String Global) Error → Type 0) (is_text : Bool) (status : Status)
    → (status ≡ NotText) × (is_text ≡ false) → IsPatternPrinted Prints is_text (Err status)
not_text-refused Prints is_text status (is, not_text) = subst (λ b. IsPatternPrinted Prints b (Err status)) (sym not_text) (ap Err is)

-- A short text as the value of an owned one. No block of memory stands behind it: contracts speak of its bytes alone.
owned : Global → (text : List ℕ) → length text < 2 ^ 63 → IsUtf8 text → String Global
owned alloc text short is_text = record {
  bytes = record {
    ptr = null_ptr;
    len = length text;
    cap = length text;
    alloc = alloc;
    items = text;
    ok = (refl, omega arith);
    small = short;
  };
  ok = ∣ is_text ∣₁;
}

-- so a text is printed if each owned text with its bytes is
pub text-printed : (IsResult : Result (String Global) Error → Type 0) (alloc : Global) (text : List ℕ) → length text ≤ 120
    → IsUtf8 text → ((s : String Global) → string_bytes s ≡ text → IsResult (Ok s)) → IsPrinted IsResult (Ok text)
unfolding owned
text-printed IsResult alloc text short is_text prints =
    let s = owned alloc text (omega (arith, short)) is_text in
    (Ok s, prints s refl, refl)

-- by a pattern that is text
pub text-by_pattern : (IsResult : Result (String Global) Error → Type 0) (is_text : Bool) (answer : Result (List ℕ) Status)
    → is_text ≡ true → IsPrinted IsResult answer → IsPatternPrinted IsResult is_text answer
text-by_pattern IsResult is_text answer is printed = subst (λ b. IsPatternPrinted IsResult b answer) (sym is) printed

-- the text of a time in a format is what printing gives
in-format : (t : Time) (format : Format) (text : List ℕ) (s : String Global) → IsTextOf t format text → string_bytes s ≡ text
    → Prints t format (Ok s)
in-format t Unix text s is bytes = bytes ∙ is
in-format t Raw text s is bytes = subst (IsTextOf t Raw) (sym bytes) is
in-format t (Custom format) text s is bytes = subst (IsTextOf t (Custom format)) (sym bytes) is

-- also where seconds are wanted if there is none
pub text-prints : (or_unix : Bool) (t : Time) (format : Format) (text : List ℕ) (s : String Global) → IsTextOf t format text
    → string_bytes s ≡ text
    → PrintsSo or_unix t format (Ok s)
text-prints false t format text s is bytes = in-format t format text s is bytes
text-prints true t format text s is bytes = inl (in-format t format text s is bytes)

-- so is the text by a pattern
pub pattern-prints : (or_unix : Bool) (t : Time) (pattern text : List ℕ) (s : String Global) → IsPatternText t pattern text
    → string_bytes s ≡ text
    → PrintsPatternSo or_unix t pattern (Ok s)
pattern-prints false t pattern text s is bytes = subst (IsPatternText t pattern) (sym bytes) is
pattern-prints true t pattern text s is bytes = inl (subst (IsPatternText t pattern) (sym bytes) is)

-- a number without a format
pub no_format : (Prints : Format → Result (String Global) Error → Type 0) (number : ℕ) (old bytes : List ℕ) (len status : ℕ)
    → None ≡ format_numbered number
    → outcome bytes len status ≡ outcome_of (Err NoSuchOption) old → Puts (IsFormatted Prints number) old bytes len status
no_format Prints number old bytes len status none is = (Err NoSuchOption, inr (sym none, refl), is)

pub ruleset texts = (is_utf8-from_IsUtf8)

-- bytes that are no text are no canonical header
not_canonical : (text : List ℕ) (canonical : Bool) → is_canonical_header text ≡ canonical → is_utf8 text ≡ false → false ≡ canonical
not_canonical text false is e = refl
not_canonical text true is e =
    let clash : true ≡ false = sym (is_utf8-from_IsUtf8 text (canonical-utf8 text is)) ∙ e in absurd cc

pub no_header : (text : List ℕ) → (IsUtf8 text → ⊥) → false ≡ is_canonical_header text
no_header text h = not_canonical text _ refl (no_text text h)

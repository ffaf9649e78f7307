-- Relative dates: how their texts are written, and the instants that they name.
use Rattle.std.proofs.Common.{rules, ◌≡◌, ◌∙◌, ◌↔◌, ◌+◌, ℕ, ℤ, pos, ◌-ℤ◌, Bool, true, false, cond, List, [], ◌∷◌, ◌++◌, length, refl, ap}
use Rattle.std.proofs.Common.{sym, arith, length-append, Option, Some, None, inl, inr, ◌⊎◌, IsUtf8}
use Rattle.std.proofs.Math.Numerals.{one-add}
use Rattle.std.proofs.lemmas.List.{reverse-append, reverse-reverse}
use Rattle.std.specs.List.{prefix_len}
use Rattle.std.specs.Prelude.{codes, not, reverse}
use Rattle.std.proofs.lemmas.Option.{cond_some as guard}
use Rattle.std.specs.Option.{option_or}
use Rattle.std.specs.Str.{trim}
use Rattle.jiff.specs.Words.{zoned_nanos, nanos_of_seconds}
use Rattle.jiff.specs.declared.zoned.Zoned.{Zoned}
use Rattle.jiff_core.proofs.SignedLemmas.{signed_arith}
use Rattle.gix_date.specs.Relative.Dates.{RelativeDate, MinusPairs, MinusSeconds, AreNamedOnce, date_names, named_date, pairs_date}
use Rattle.gix_date.specs.Relative.Dates.{relative_date}
use Rattle.gix_date.specs.Relative.Pairs.{HasPair, IsRelativeText, is_even}
use Rattle.gix_date.specs.Relative.Roles.{pairs, is_count_word, next_is_free}
use Rattle.gix_date.specs.Relative.Words.{relative_words}
use Rattle.gix_date.specs.Text.Names.{named_in}
use Rattle.gix_date.proofs.Relative.Chains.{named-once}
use Rattle.gix_date.proofs.Relative.CountRuns.{free_after}
use Rattle.gix_date.proofs.Relative.FixedTimes.{names-before}
use Rattle.gix_date.proofs.Relative.QuietWords.{lower-same, like-named, named-alone}
use Rattle.gix_date.proofs.Relative.RolePlaces.{meant}
use Rattle.gix_date.proofs.Fields.FieldsTaken.{none-unless}
use Rattle.gix_date_laws.specs.AnyZone.{IsWord, NamesInstant}

-- one word has no pair
one-no-pair : (ws : List (List ℕ)) (w : List ℕ) → ws ≡ w ∷ [] → HasPair ws → ⊥
one-no-pair ws w e h =
    let size : length (h.0 ++ h.1 ∷ h.2 ∷ h.3) ≡ 1 = ap length (sym h.4 ∙ e) in
    omega (arith, size, length-append h.0 (h.1 ∷ h.2 ∷ h.3))

found-or : (a b : Option RelativeDate) (date : RelativeDate) → option_or a b ≡ Some date → (a ≡ Some date) ⊎ (b ≡ Some date)
found-or (Some d) b date e = inl e
found-or None b date e = inr e

text-is : (text : List ℕ) (date : RelativeDate) → relative_date text ≡ Some date → IsRelativeText text date
unfolding relative_date named_date pairs_date
text-is text date e = grind (arith, found-or, guard, meant)

is-text : (text : List ℕ) → IsUtf8 text → (date : RelativeDate) → IsRelativeText text date → relative_date text ≡ Some date
unfolding relative_date named_date pairs_date
is-text text u date (inl h) = ap (λ (r : Option RelativeDate). option_or r (pairs_date text)) h
is-text text u date (inr h) =
    let words = relative_words text in
    let none : named_in date_names (trim text) ≡ None =
    none-unless (named_in date_names (trim text)) (λ d e. one-no-pair words (trim text) (named-alone text u d e) h.0.0) in
    ap (λ (r : Option RelativeDate). option_or r (pairs_date text)) none
    ∙ ap (λ b. cond b (Some (MinusPairs (pairs words))) None) ((meant words).1 h.0) ∙ ap (λ (d : RelativeDate). Some d) (sym h.1)

pub relative-spelled : (text : List ℕ) → IsUtf8 text → (date : RelativeDate) → (relative_date text ≡ Some date) ↔ IsRelativeText text date
relative-spelled text u date = (text-is text date, is-text text u date)

-- A word is free by the number of count words directly before it.
even_next : (b : Bool) (n : ℕ) → is_even (cond b (1 + n) 0) ≡ cond b (not (is_even n)) true
even_next true n = ap is_even (one-add n)
even_next false n = refl

none-before : next_is_free [] ≡ true
unfolding next_is_free
none-before = refl

-- the words from the last to the first
from-last : (words : List (List ℕ)) → next_is_free (reverse words) ≡ is_even (prefix_len is_count_word words)
from-last [] = none-before
from-last (w ∷ words) =
    ap next_is_free (reverse-append (w ∷ []) words)
    ∙ free_after (reverse words) w
    ∙ ap (λ b. cond (is_count_word w) (not b) true) (from-last words)
    ∙ sym (even_next (is_count_word w) (prefix_len is_count_word words))

pub free-by-parity : (front : List (List ℕ)) → next_is_free front ≡ is_even (prefix_len is_count_word (reverse front))
free-by-parity front = ap next_is_free (sym (reverse-reverse front)) ∙ from-last (reverse front)

-- The dates of names.
now-date : named_in date_names (codes "now") ≡ Some (MinusSeconds (pos 0))
now-date = refl

today-date : named_in date_names (codes "today") ≡ Some (MinusSeconds (pos 0))
today-date = refl

yesterday-date : named_in date_names (codes "yesterday") ≡ Some (MinusSeconds (pos 86_400))
yesterday-date = refl

-- a text that is a word says what the word says
word-date : (word text : List ℕ) (date : RelativeDate) → named_in date_names word ≡ Some date → IsWord word text
    → relative_date text ≡ Some date
unfolding relative_date named_date
word-date word text date e is = grind (arith, like-named, lower-same)

names-instant : (word text : List ℕ) (seconds : ℤ) (z : Zoned) (due : ℤ) → named_in date_names word ≡ Some (MinusSeconds seconds)
    → due ≡ zoned_nanos z -ℤ nanos_of_seconds seconds
    → IsWord word text → NamesInstant text z due
names-instant word text seconds z due e at is = (
  MinusSeconds seconds,
  word-date word text (MinusSeconds seconds) e is,
  names-before (MinusSeconds seconds) z due (λ j. (λ h. (h.0 ∙ sym at, h.1), λ h. (h.0 ∙ at, h.1))),
)

less-none : (i : ℤ) → i ≡ (i -ℤ nanos_of_seconds (pos 0))
less-none i = omega (arith, signed_arith)

pub now_names : (text : List ℕ) (z : Zoned) → IsWord (codes "now") text → NamesInstant text z (zoned_nanos z)
now_names text z = names-instant (codes "now") text (pos 0) z (zoned_nanos z) now-date (less-none (zoned_nanos z))

pub today_names : (text : List ℕ) (z : Zoned) → IsWord (codes "today") text → NamesInstant text z (zoned_nanos z)
today_names text z = names-instant (codes "today") text (pos 0) z (zoned_nanos z) today-date (less-none (zoned_nanos z))

pub yesterday_names : (text : List ℕ) (z : Zoned) → IsWord (codes "yesterday") text
    → NamesInstant text z (zoned_nanos z -ℤ nanos_of_seconds (pos 86_400))
yesterday_names text z = search (rules, names-instant, yesterday-date)

-- a relative date names one time at most
pub record NamesOnce : Type 0 where
  pub once : AreNamedOnce

pub named_once : NamesOnce
named_once = record { once = named-once }

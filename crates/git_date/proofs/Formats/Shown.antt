-- What a zone's clock shows, with its seconds and its abbreviation.
use Rattle.std.proofs.Common.{◌≡◌, ◌∙◌, ℕ, ℤ, Bool, true, false, cond, List, Option, Some, None, refl, ap}
use Rattle.jiff.specs.Types.{TimeZone, UTC, Unknown, Fixed, Posix, Tzif}
use Rattle.jiff.specs.Words.{IsInfoAt}
use Rattle.jiff_tz.specs.Abbreviation.{abbreviation_text}
use Rattle.jiff_tz.specs.declared.info.OffsetInfo.{OffsetInfo}
use Rattle.gix_date.specs.Fields.Layout.{LocalTime}
use Rattle.git_date.specs.Show.Clocks.{has_zone_clock, zone_clock}
use Rattle.git_date.specs.Formats.Shown.{Shown, zone_abbreviation, zone_shown, zone_shown_by}

-- a zone's abbreviation is that of its definition
pub abbreviation_is : (zone : TimeZone) (n : ℤ) (info : OffsetInfo) → IsInfoAt zone n info
    → abbreviation_text info.abbreviation ≡ zone_abbreviation zone n
abbreviation_is UTC n info h = h.1
abbreviation_is Unknown n info h = h.1
abbreviation_is (Fixed offset) n info h = h.1
abbreviation_is (Posix rule) n info h = ap (λ (i : OffsetInfo). abbreviation_text i.abbreviation) h
abbreviation_is (Tzif table) n info h = ap (λ (i : OffsetInfo). abbreviation_text i.abbreviation) h

abbrev made : LocalTime → Option ℤ → List ℕ → Shown
made clock seconds abbreviation = record { clock = clock; seconds = seconds; abbreviation = abbreviation }

pub same_shown : (clock : LocalTime) (s r : Option ℤ) (a b : List ℕ) → s ≡ r → a ≡ b → made clock s a ≡ made clock r b
same_shown clock s r a b e f = ap (λ (x : Option ℤ). made clock x a) e ∙ ap (λ (x : List ℕ). made clock r x) f

dated-by : (b : Bool) (clock found : LocalTime) → Some clock ≡ cond b (Some found) None → b ≡ true
dated-by true clock found e = refl
dated-by false clock found e = absurd cc

pub clock_dated : (zone : TimeZone) (s : ℤ) (clock : LocalTime) → Some clock ≡ zone_clock zone s → has_zone_clock s ≡ true
unfolding zone_clock
clock_dated zone s clock e = dated-by (has_zone_clock s) clock _ e

abbrev by_zone : TimeZone → ℤ → Option LocalTime → Option Shown
by_zone zone s found = elim found [ Some clock ↦ Some (zone_shown_by zone s clock) | None ↦ None ]

pub no_clock : (zone : TimeZone) (s : ℤ) → None ≡ zone_clock zone s → None ≡ zone_shown zone s
unfolding zone_shown
no_clock zone s e = ap (λ (found : Option LocalTime). by_zone zone s found) e

pub a_clock : (zone : TimeZone) (s : ℤ) (clock : LocalTime) (shown : Shown) → Some clock ≡ zone_clock zone s
    → shown ≡ zone_shown_by zone s clock
    → Some shown ≡ zone_shown zone s
unfolding zone_shown
a_clock zone s clock shown e is = ap (λ (x : Shown). let r : Option Shown = Some x in r) is
    ∙ ap (λ (found : Option LocalTime). by_zone zone s found) e

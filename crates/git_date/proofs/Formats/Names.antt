-- Names are ASCII.
use Rattle.std.proofs.Common.{◌≡◌, ◌-◌, ℕ, zero, suc, Bool, true, false, cond, List, [], ◌∷◌, get_or, nat_lt, refl}
use Rattle.std.proofs.lemmas.Bool.{and_parts}
use Rattle.std.specs.Char.{is_ascii}
use Rattle.std.specs.List.{list_all}
use Rattle.gix_date.specs.Fields.Layout.{LocalTime}
use Rattle.gix_date.specs.Text.Names.{day_names, month_names, whole_day_names, whole_month_names}
use Rattle.git_date.specs.Formats.Names.{name_text}
use Rattle.git_date.specs.declared.format.directives.Name.{Name}
use Rattle.git_date.specs.declared.format.directives.Name.TheVariants.{ShortDay, LongDay, ShortMonth, LongMonth, HalfDay, SmallHalfDay}
use Rattle.git_date.specs.declared.format.directives.Name.TheVariants.{LineFeed, Tab}

abbrev ascii : List ℕ → Bool
ascii text = list_all is_ascii text

one-ascii : (names : List (List ℕ)) (place : ℕ) → list_all ascii names ≡ true → ascii (get_or names place []) ≡ true
one-ascii [] place h = refl
one-ascii (name ∷ names) zero h = (and_parts (ascii name) (list_all ascii names) h).0
one-ascii (name ∷ names) (suc place) h = one-ascii names place (and_parts (ascii name) (list_all ascii names) h).1

half-ascii : (b : Bool) (x y : List ℕ) → ascii x ≡ true → ascii y ≡ true → ascii (cond b x y) ≡ true
half-ascii true x y h k = h
half-ascii false x y h k = k

pub name_ascii : (name : Name) (t : LocalTime) → list_all is_ascii (name_text name t) ≡ true
name_ascii ShortDay t = one-ascii day_names t.weekday refl
name_ascii LongDay t = one-ascii whole_day_names t.weekday refl
name_ascii ShortMonth t = one-ascii month_names (t.date.month - 1) refl
name_ascii LongMonth t = one-ascii whole_month_names (t.date.month - 1) refl
name_ascii HalfDay t = half-ascii (nat_lt t.clock.hour 12) _ _ refl refl
name_ascii SmallHalfDay t = half-ascii (nat_lt t.clock.hour 12) _ _ refl refl
name_ascii LineFeed t = refl
name_ascii Tab t = refl

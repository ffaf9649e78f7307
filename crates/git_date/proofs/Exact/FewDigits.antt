-- A text of fewer than three digits, and without a colon, says no clock: the exact reader does not read it, and has no other
-- refusal.
use Rattle.std.proofs.Common.{◌≡◌, ◌∙◌, ◌<◌, ◌≤◌, ◌+◌, ℕ, Bool, true, false, cond, List, [], ◌∷◌, length, nat_le, nat_lt, Option, Some}
use Rattle.std.proofs.Common.{None, is_none, Err, refl, sym, subst, arith}
use Rattle.std.specs.Prelude.{not, ◌==◌, ◌&&◌, ◌||◌, option_map, Result, Ok}
use Rattle.std.specs.Char.{is_ascii_alphabetic, is_ascii_digit}
use Rattle.std.specs.List.{count_by, list_any}
use Rattle.std.specs.Option.{option_or, option_map_or}
use Rattle.std.proofs.lemmas.List.Sums.{sum_by-cons}
use Rattle.std.proofs.lemmas.Bool.{and_parts, not-true}
use Rattle.std.proofs.lemmas.Bool.Decides.{nat_tests}
use Rattle.gix_date.specs.Text.Characters.{colon}
use Rattle.git_date.specs.Rules.Dates.{year_said, year_date, recent_date}
use Rattle.git_date.specs.Rules.Digits.{Stepped, is_epoch, bare_digits, few_digits, two_digit_year, or_month, digits_rule, group_or_bare}
use Rattle.git_date.specs.Rules.Digits.{group_said, grouped}
use Rattle.git_date.specs.Exact.Fast.{has_few_digits}
use Rattle.git_date.specs.Rules.Groups.{ReadTokens, marked_number, is_group_mark, third_or_none, group_of, year_first_group}
use Rattle.git_date.specs.Rules.Groups.{day_month_group, group_rule, large_in}
use Rattle.git_date.specs.Tokens.Numbers.{number}
use Rattle.git_date.specs.Exact.Reading.{nothing_read, reading_of, fields_said}
use Rattle.git_date.specs.Tokens.Tokens.{Token, Letters, Digits, Mark, letter_before, digit_before, tokens, bytes_left}
use Rattle.git_date.specs.declared.fields.dates.Dated.{Dated}
use Rattle.git_date.specs.declared.fields.dates.Dated.TheVariants as dated
use Rattle.git_date.specs.declared.fields.dates.Now.{Now}
use Rattle.git_date.specs.declared.error.DateError.TheVariants.{Unreadable}
use Rattle.git_date.specs.declared.fields.Fields.{Fields}
use Rattle.git_date.specs.declared.fields.groups.Group.{Group}
use Rattle.git_date.specs.declared.fields.groups.Number.{Number}
use Rattle.git_date.proofs.Rules.Kept.{either, group_after}
use Rattle.git_date.proofs.Exact.NoSeconds.{AreAll, Keeps, Quiet, not-large, no-seconds}
use Rattle.git_date.specs.Tokens.Steps.{and_then}
use Rattle.git_date.specs.declared.error.Fault.{Fault}

-- tokens of no long number, and of no colon
abbrev pub Tame : Token → Type 0
Tame (Letters run) = Unit {0}
Tame (Digits run) = (length run ≤ 2) × (number run ≤ 99)
Tame (Mark byte) = (byte == colon) ≡ false

-- no minute is known, and nothing is refused
abbrev NoMinute : Option ℕ → Option ℕ → Type 0
NoMinute year minute = minute ≡ None

abbrev HasNoMinute : Fields → Type 0
HasNoMinute f = f.minute ≡ None

abbrev NoneHasMinute : Option Fields → Type 0
NoneHasMinute o = Keeps NoMinute o

abbrev IsQuiet : Stepped → Type 0
IsQuiet step = Quiet NoMinute step

abbrev QuietDated : Dated → Type 0
QuietDated (dated.Taken f) = HasNoMinute f
QuietDated dated.Refused = Unit {0}
QuietDated dated.YearRefused = ⊥

-- digits by their width
month-kept : (f : Fields) (n : ℕ) → HasNoMinute f → NoneHasMinute (or_month f n)
month-kept f n e = either NoneHasMinute (nat_le 1 n && nat_le n 12 && is_none f.month) _ None e tt

year-kept : (f : Fields) (n : ℕ) (o : Option ℕ) → HasNoMinute f
    → NoneHasMinute (option_or (option_map (λ year. record f { year = Some year }) o) (or_month f n))
year-kept f n (Some year) e = e
year-kept f n None e = month-kept f n e

few-quiet : (f : Fields) (width n : ℕ) → HasNoMinute f → NoneHasMinute (few_digits f width n)
unfolding few_digits
few-quiet f width n e =
    either NoneHasMinute (nat_le 1 n && nat_le n 31 && is_none f.day) _ _ e (year-kept f n (cond (width == 2) (two_digit_year f n) None) e)

bare-quiet : (f : Fields) (run : List ℕ) (more : List Token) → HasNoMinute f → length run ≤ 2 → IsQuiet (bare_digits f run more)
unfolding bare_digits
bare-quiet f run more e h =
    let eight : (length run == 8) ≡ false = grind (arith, nat_tests) in
    let six : (length run == 6) ≡ false = grind (arith, nat_tests) in
    let four : (length run == 4) ≡ false = grind (arith, nat_tests) in
    rw (eight, six, four) (either IsQuiet (length run == 1 || length run == 2) _ _ (few-quiet f (length run) (number run) e) tt)

-- groups
abbrev IsMarkedSmall : ReadTokens (ℕ × Number) → Type 0
IsMarkedSmall None = Unit {0}
IsMarkedSmall (Some found) = ((found.0.0 == colon) ≡ false) × (found.0.1.value ≤ 99) × AreAll Tame found.1

abbrev IsThirdSmall : Option Number → Type 0
IsThirdSmall None = Unit {0}
IsThirdSmall (Some n) = n.value ≤ 99

record IsGroupSmall (g : Group) : Type 0 where
  mark : (g.mark == colon) ≡ false
  first : g.first ≤ 99
  second : g.second.value ≤ 99
  third : IsThirdSmall g.third

abbrev IsReadSmall : ReadTokens Group → Type 0
IsReadSmall None = Unit {0}
IsReadSmall (Some found) = IsGroupSmall found.0

marked-small : (ts : List Token) → AreAll Tame ts → IsMarkedSmall (marked_number ts)
unfolding marked_number
marked-small (Mark byte ∷ Digits run ∷ more) q = (q.0, q.1.0.1, q.1.1)
marked-small ts q = tt

third-small : (mark first : ℕ) (second : Number) (more : List Token) (found : ReadTokens (ℕ × Number)) → (mark == colon) ≡ false
    → first ≤ 99 → second.value ≤ 99 → IsMarkedSmall found
    → IsReadSmall (Some (third_or_none mark first second more found))
third-small mark first second more None m a b h = record { mark = m; first = a; second = b; third = tt }
third-small mark first second more (Some found) m a b h =
    either (λ (g : Group × List Token). IsReadSmall (Some g)) (found.0.0 == mark) _ _
    (record { mark = m; first = a; second = b; third = h.1 }) (record { mark = m; first = a; second = b; third = tt })

after-small : (first : ℕ) (found : ReadTokens (ℕ × Number)) → first ≤ 99 → IsMarkedSmall found → IsReadSmall (group_after first found)
after-small first None a h = tt
after-small first (Some found) a h =
    either IsReadSmall (is_group_mark found.0.0) _ _
    (third-small found.0.0 first found.0.1 found.1 (marked_number found.1) h.0 a h.1 (marked-small found.1 h.2)) tt

none-large : (mark first : ℕ) (second : Number) (third : Option Number) → second.value ≤ 99 → IsThirdSmall third
    → large_in (record { mark = mark; first = first; second = second; third = third }) ≡ None
none-large mark first second None h g = rw (not-large second.value h) refl
none-large mark first second (Some third) h g = rw (not-large second.value h, not-large third.value g) refl

-- a date leaves the minute as it is
date-leaves : (f next : Fields) (year month day : ℕ) → year_date f year month day ≡ dated.Taken next → next.minute ≡ f.minute
unfolding year_date
date-leaves f next year month day e = grind (arith, nat_tests)

recent-leaves : (now : Now) (f next : Fields) (month day : ℕ) (third : Option ℕ) → recent_date now f month day third ≡ Some next
    → next.minute ≡ f.minute
unfolding recent_date
recent-leaves now f next month day third e = grind (arith, nat_tests)

year-leaves : (f next : Fields) (g : Group) → year_first_group f g ≡ dated.Taken next → next.minute ≡ f.minute
year-leaves f next g e = grind (arith, date-leaves)

day-leaves : (now : Now) (f next : Fields) (g : Group) → day_month_group now f g ≡ dated.Taken next → next.minute ≡ f.minute
unfolding day_month_group
day-leaves now f next g e = grind (arith, recent-leaves)

group-leaves : (now : Now) (f next : Fields) (g : Group) → (g.mark == colon) ≡ false → group_rule now f g ≡ dated.Taken next
    → next.minute ≡ f.minute
unfolding group_rule
group-leaves now f next g m e = grind (arith, nat_tests, year-leaves, day-leaves)

-- a year from 71 to 99 is not refused
year-taken : (f : Fields) (year month day : ℕ) → 70 < year → year ≤ 99 → year_date f year month day ≡ dated.YearRefused → ⊥
unfolding year_date year_said
year-taken f year month day l h e = grind (arith, nat_tests)

day-taken : (now : Now) (f : Fields) (g : Group) → day_month_group now f g ≡ dated.YearRefused → ⊥
unfolding day_month_group
day-taken now f g e = grind (arith, nat_tests)

group-taken : (now : Now) (f : Fields) (g : Group) → (g.mark == colon) ≡ false → g.first ≤ 99 → group_rule now f g ≡ dated.YearRefused → ⊥
unfolding group_rule
group-taken now f g m h e = grind (arith, nat_tests, year-taken, day-taken)

group-quiet : (now : Now) (f : Fields) (g : Group) → HasNoMinute f → IsGroupSmall g → QuietDated (group_rule now f g)
group-quiet now f g e h = by (group_rule now f g) refl
  where
    by : (d : Dated) → group_rule now f g ≡ d → QuietDated d
    by (dated.Taken next) is = group-leaves now f next g h.mark is ∙ e
    by dated.Refused is = tt
    by dated.YearRefused is = group-taken now f g h.mark h.first is

-- what a group says
abbrev QuietSaid : Result (Option (Fields × List Token)) Fault → Type 0
QuietSaid (Ok None) = Unit {0}
QuietSaid (Ok (Some found)) = HasNoMinute found.0
QuietSaid (Err fault) = ⊥

by-dated : (left : ℕ) (g : Group) (more : List Token) (d : Dated) → large_in g ≡ None → QuietDated d → QuietSaid (grouped left g more d)
by-dated left g more (dated.Taken f) e q = rw e q
by-dated left g more dated.Refused e q = tt
by-dated left g more dated.YearRefused e q = absurd q

grouped-quiet : (now : Now) (f : Fields) (left : ℕ) (found : ReadTokens Group) → HasNoMinute f → IsReadSmall found
    → QuietSaid (option_map_or (λ found. grouped left found.0 found.1 (group_rule now f found.0)) found (Ok None))
grouped-quiet now f left None e h = tt
grouped-quiet now f left (Some found) e h =
    let g = found.0 in
    by-dated left g found.1 (group_rule now f g) (none-large g.mark g.first g.second g.third h.second h.third) (group-quiet now f g e h)

or-bare-quiet : (f : Fields) (run : List ℕ) (more : List Token) (said : Result (Option (Fields × List Token)) Fault) → QuietSaid said
    → IsQuiet (bare_digits f run more)
    → IsQuiet (and_then said (group_or_bare f run more))
or-bare-quiet f run more (Ok None) q bare = bare
or-bare-quiet f run more (Ok (Some found)) q bare = q
or-bare-quiet f run more (Err fault) q bare = absurd q

small-number : (f : Fields) (n : ℕ) → n ≤ 99 → is_epoch f n ≡ false
small-number f n h = let low : nat_le 100_000_000 n ≡ false = grind (arith, nat_tests) in rw low refl

digits-quiet : (now : Now) (f : Fields) (run : List ℕ) (more : List Token) → HasNoMinute f → AreAll Tame (Digits run ∷ more)
    → IsQuiet (digits_rule now f run more)
unfolding digits_rule group_said group_of
digits-quiet now f run more e q =
    rw (small-number f (number run) q.0.1, not-large (number run) q.0.1)
    (or-bare-quiet f run more _
    (grouped-quiet now f (bytes_left (Digits run ∷ more)) (group_after (number run) (marked_number more)) e
    (after-small (number run) (marked_number more) q.0.1 (marked-small more q.1))) (bare-quiet f run more e q.0.0))

-- the tokens of such a text
abbrev digits_in : List Token → ℕ
digits_in [] = 0
digits_in (Letters run ∷ more) = digits_in more
digits_in (Digits run ∷ more) = length run + digits_in more
digits_in (Mark byte ∷ more) = digits_in more

abbrev AllDigits : List ℕ → Type 0
AllDigits [] = Unit {0}
AllDigits (c ∷ run) = (c ≤ 57) × AllDigits run

abbrev IsPlain : Token → Type 0
IsPlain (Letters run) = Unit {0}
IsPlain (Digits run) = AllDigits run
IsPlain (Mark byte) = (byte == colon) ≡ false

abbrev ArePlain : List Token → Type 0
ArePlain [] = Unit {0}
ArePlain (t ∷ more) = IsPlain t × ArePlain more

-- a text has so many digits, and no colon
record HasTokens (ts : List Token) (count : ℕ) : Type 0 where
  plain : ArePlain ts
  few : digits_in ts ≤ count

letter-plain : (c : ℕ) (ts : List Token) (n k : ℕ) → n ≤ k → HasTokens ts n → HasTokens (letter_before c ts) k
letter-plain c [] n k l h = record { plain = (tt, tt); few = omega arith }
letter-plain c (Letters run ∷ more) n k l h = record { plain = h.plain; few = omega (arith, h.few) }
letter-plain c (Digits run ∷ more) n k l h = record { plain = (tt, h.plain); few = omega (arith, h.few) }
letter-plain c (Mark byte ∷ more) n k l h = record { plain = (tt, h.plain); few = omega (arith, h.few) }

digit-plain : (c : ℕ) (ts : List Token) (n : ℕ) → c ≤ 57 → HasTokens ts n → HasTokens (digit_before c ts) (1 + n)
digit-plain c [] n d h = record { plain = ((d, tt), tt); few = omega arith }
digit-plain c (Letters run ∷ more) n d h = record { plain = ((d, tt), h.plain); few = omega (arith, h.few) }
digit-plain c (Digits run ∷ more) n d h = record { plain = ((d, h.plain.0), h.plain.1); few = omega (arith, h.few) }
digit-plain c (Mark byte ∷ more) n d h = record { plain = ((d, tt), h.plain); few = omega (arith, h.few) }

abbrev has_colon : List ℕ → Bool
has_colon text = list_any (λ c. c == colon) text

byte-plain : (letter digit : Bool) (c : ℕ) (ts : List Token) (n : ℕ) → is_ascii_digit c ≡ digit → (c == colon) ≡ false → HasTokens ts n
    → HasTokens (cond letter (letter_before c ts) (cond digit (digit_before c ts) (Mark c ∷ ts))) (cond digit 1 0 + n)
byte-plain true digit c ts n e f h = letter-plain c ts n (cond digit 1 0 + n) (omega arith) h
byte-plain false true c ts n e f h = let d : c ≤ 57 = grind (arith, nat_tests) in digit-plain c ts n d h
byte-plain false false c ts n e f h = record { plain = (f, h.plain); few = omega (arith, h.few) }

no-colon : (a b : Bool) → (a || b) ≡ false → (a ≡ false) × (b ≡ false)
no-colon true b e = absurd cc
no-colon false b e = (refl, e)

plain-of : (text : List ℕ) → has_colon text ≡ false → HasTokens (tokens text) (count_by is_ascii_digit text)
unfolding tokens
plain-of [] e = record { plain = tt; few = omega arith }
plain-of (c ∷ text) e =
    let none = no-colon (c == colon) (has_colon text) e in
    subst (λ (n : ℕ). HasTokens (tokens (c ∷ text)) n) (sym (sum_by-cons (λ (c : ℕ). cond (is_ascii_digit c) 1 0) c text))
    (byte-plain (is_ascii_alphabetic c) (is_ascii_digit c) c (tokens text) (count_by is_ascii_digit text) refl none.0
    (plain-of text none.1))

small-run : (run : List ℕ) → AllDigits run → length run ≤ 2 → number run ≤ 99
unfolding number
small-run [] d h = omega arith
small-run (a ∷ []) d h = omega (arith, d.0)
small-run (a ∷ b ∷ []) d h = omega (arith, d.0, d.1.0)
small-run (a ∷ b ∷ c ∷ run) d h = absurd (omega arith)

tame-from : (ts : List Token) → ArePlain ts → digits_in ts ≤ 2 → AreAll Tame ts
tame-from [] p h = tt
tame-from (Letters run ∷ more) p h = (tt, tame-from more p.1 h)
tame-from (Digits run ∷ more) p h = ((omega arith, small-run run p.0 (omega arith)), tame-from more p.1 (omega arith))
tame-from (Mark byte ∷ more) p h = (p.0, tame-from more p.1 h)

-- the steps over such tokens
tame-steps : (now : Now) (text : List ℕ) → AreAll Tame (tokens text) → fields_said text (reading_of now text) ≡ Err Unreadable
unfolding reading_of
tame-steps now text q =
    no-seconds NoMinute Tame (λ year minute e. rw e refl) (λ run q. q.1) now (digits-quiet now) text (length text) nothing_read
    (tokens text) refl q

pub digits_are_few : (now : Now) (text : List ℕ) → has_few_digits text ≡ true → fields_said text (reading_of now text) ≡ Err Unreadable
digits_are_few now text e =
    let both = and_parts (not (has_colon text)) (nat_lt (count_by is_ascii_digit text) 3) e in
    let has = plain-of text (not-true (has_colon text) both.0) in
    let few = has.few in
    let less : count_by is_ascii_digit text < 3 = let t = both.1 in grind (arith, nat_tests) in
    tame-steps now text (tame-from (tokens text) has.plain (omega arith))

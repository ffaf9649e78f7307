-- What careful reading says: what the first family answers, a date of the moment's zone, or a refusal.
use Rattle.std.proofs.Common.{arith}
use Rattle.std.proofs.Common.{rules}
use Rattle.std.proofs.Common.{◌≡◌, ◌∙◌, ℕ, Bool, true, false, List, refl, ap, sym, Option, Some, None, Ok, inl, inr, ◌⊎◌}
use Rattle.std.specs.Option.{option_map}
use Rattle.std.specs.Prelude.{is_some, is_none, ◌||◌, ◌&&◌, not}
use Rattle.std.specs.Str.{IsUtf8}
use Rattle.jiff.specs.declared.zoned.Zoned.{Zoned}
use Rattle.gix_date.specs.Careful.Dates.{unzoned_day, unzoned_git_time, unzoned_time}
use Rattle.gix_date.specs.Careful.Fronts.{longest_front}
use Rattle.gix_date.specs.Careful.Laws.{IsParsedToo, HasNoLocalDate}
use Rattle.gix_date.specs.Careful.Outcome.{Reading, Local, First, Unclear, AfterYear9999, careful_reading, clear_or, date_reading, git_or}
use Rattle.gix_date.specs.Careful.Outcome.{has_word_before, is_clear_answer, is_in_years, in_years_or_late, local_date, local_or}
use Rattle.gix_date.specs.Careful.Outcome.{names_no_other_day, pairs_or, reading_of_texts, unzoned_or, unzoned_reading, CarefulOutcome}
use Rattle.gix_date.specs.Careful.Texts.{unclear_place}
use Rattle.gix_date.specs.Families.Answer.{Absolute}
use Rattle.gix_date.specs.Families.Order.{first_family_by}
use Rattle.gix_date.specs.Families.Raw.{allows}
use Rattle.gix_date.specs.Git.Forms.{git_time}
use Rattle.gix_date.specs.declared.parsing.careful.CarefulOptions.{CarefulOptions}
use Rattle.gix_date.specs.declared.parsing.careful.Texts.{Texts}
use Rattle.gix_date.specs.declared.parsing.careful.Texts.TheVariants as texts
use Rattle.gix_date.specs.declared.parsing.careful.WithoutOffset.{WithoutOffset}
use Rattle.gix_date.specs.declared.parsing.careful.WithoutOffset.TheVariants as zone
use Rattle.gix_date.specs.declared.time.Time.{Time}
use Rattle.gix_date_laws.proofs.Shared.Agreement.{comes_first}
use Rattle.gix_date_laws.proofs.Clear.Dates.{careful-pairs, answers-pairs}
use Rattle.gix_date_laws.proofs.Clear.Grammar.{PairsAnswer, careful-text}
use Rattle.gix_date_laws.proofs.Whole.Reading.{plain_time, answers, unzoned-by-day, unzoned-by-git}

abbrev FirstOf : CarefulOptions → List ℕ → Reading
FirstOf options text = First (first_family_by (allows options.raw) text)

data Says (options : CarefulOptions) (text : List ℕ) (reading : Reading) : Type 0 where
  first : reading ≡ FirstOf options text → Says options text reading
  unclear : (place : ℕ) → reading ≡ Unclear place → Says options text reading
  late : reading ≡ AfterYear9999 → Says options text reading
  local : (t : Time) → reading ≡ Local t → local_date options.without_offset text ≡ Some t → Says options text reading

all-says : (options : CarefulOptions) (text : List ℕ) (date : Option Time) → local_date options.without_offset text ≡ date
    → Says options text (local_or date (FirstOf options text))
all-says options text None e = first refl
all-says options text (Some t) e = local t refl e

-- a date without an offset
unzoned-says : (options : CarefulOptions) (text : List ℕ) → IsUtf8 text → (t : Time) → unzoned_time text ≡ Some t
    → (without : WithoutOffset) → options.without_offset ≡ without → Says options text (unzoned_reading without t)
unzoned-says options text u t e zone.Utc z = first (ap First (sym (answers (allows options.raw) text t u e)))
unzoned-says options text u t e zone.MomentsZone z = local t refl (ap (λ (w : WithoutOffset). local_date w text) z ∙ e)

whole-says : (options : CarefulOptions) (text : List ℕ) → IsUtf8 text → (t : Time)
    → first_family_by (allows options.raw) text ≡ Some (Absolute t) → (unzoned : Option Time) → unzoned_git_time text ≡ unzoned
    → Says options text (unzoned_or options.without_offset unzoned (First (Some (Absolute t))))
whole-says options text u t a None e = first (ap First (sym a))
whole-says options text u t a (Some k) e = unzoned-says options text u k (unzoned-by-git text k u e) options.without_offset refl

clear-says : (options : CarefulOptions) (text : List ℕ) (clear : Bool) (reading : Reading) (place : ℕ) → Says options text reading
    → Says options text (clear_or clear reading place)
clear-says options text true reading place h = h
clear-says options text false reading place h = unclear place refl

years-say : (options : CarefulOptions) (text : List ℕ) (in_years : Bool) (reading : Reading) → Says options text reading
    → Says options text (in_years_or_late in_years reading)
years-say options text true reading h = h
years-say options text false reading h = late refl

git-first : (options : CarefulOptions) (text : List ℕ) (t : Time) → IsUtf8 text → git_time text ≡ Some t
    → first_family_by (allows options.raw) text ≡ Some (Absolute t)
git-first options text t u e = (comes_first (allows options.raw) text u).git (ap (λ o. is_some (option_map Absolute o)) e)
    ∙ ap (option_map Absolute) e

day-says : (options : CarefulOptions) (text : List ℕ) (place : ℕ) → IsUtf8 text → (day : Option Time) → unzoned_day text ≡ day → Says
    options text
    (unzoned_or options.without_offset day (date_reading (allows options.raw) text place (first_family_by (allows options.raw) text)))
day-says options text place u None e =
    let answer = first_family_by (allows options.raw) text in
    let clear = is_clear_answer (allows options.raw) text answer || (is_none answer && not (has_word_before text place)) in
    let said = clear_or clear (FirstOf options text) place in
    let years = is_in_years (allows options.raw) text answer in
    clear-says options text (names_no_other_day text answer) (in_years_or_late years said) 0
    (years-say options text years said (clear-says options text clear (FirstOf options text) place (first refl)))
day-says options text place u (Some t) e = unzoned-says options text u t (unzoned-by-day text t e) options.without_offset refl

git-says : (options : CarefulOptions) (text : List ℕ) (place : ℕ) → IsUtf8 text → (git : Option Time) → git_time text ≡ git
    → Says options text (git_or options text place git)
git-says options text place u None e = day-says options text place u (unzoned_day text) refl
git-says options text place u (Some t) e = search (rules, clear-says, whole-says, git-first)

pairs-says : (options : CarefulOptions) (text : List ℕ) → IsUtf8 text → (place : Option ℕ) → unclear_place text ≡ place
    → Says options text (pairs_or options text place)
pairs-says options text u None e =
    let found = careful-text text e in
    first (ap (λ ps. First (PairsAnswer ps)) (careful-pairs text found.0 found.1)
    ∙ ap First (sym (answers-pairs (allows options.raw) text u found.0 found.1)))
pairs-says options text u (Some place) e = git-says options text (longest_front text place) u (git_time text) refl

texts-say : (options : CarefulOptions) (text : List ℕ) → IsUtf8 text → (which : Texts)
    → Says options text (reading_of_texts which options text)
texts-say options text u texts.All = all-says options text (local_date options.without_offset text) refl
texts-say options text u texts.Careful = pairs-says options text u (unclear_place text) refl

says : (options : CarefulOptions) (text : List ℕ) → IsUtf8 text → Says options text (careful_reading options text)
unfolding careful_reading
says options text u = texts-say options text u options.texts

-- `parse_with` reads the same time.
no-time : (place : ℕ) (now : Option Zoned) (t : Time) → CarefulOutcome (Unclear place) now (Ok t) → ⊥
no-time place now t e = cc

no-late-time : (now : Option Zoned) (t : Time) → CarefulOutcome AfterYear9999 now (Ok t) → ⊥
no-late-time now t e = cc

no-local : (options : CarefulOptions) (text : List ℕ) → (options.without_offset ≡ zone.Utc) ⊎ HasNoLocalDate text
    → (t : Time) (without : WithoutOffset) → options.without_offset ≡ without → local_date without text ≡ Some t → ⊥
no-local options text h t zone.Utc z e = cc
no-local options text (inl utc) t zone.MomentsZone z e = let bad : zone.Utc ≡ zone.MomentsZone = sym utc ∙ z in cc
no-local options text (inr none) t zone.MomentsZone z e = let bad : None ≡ Some t = sym none ∙ e in cc

pub parsed_too : (options : CarefulOptions) (text : List ℕ) → IsUtf8 text → IsParsedToo options text
parsed_too options text u none now t h = grind (arith, says, plain_time, no-time, no-late-time, no-local)

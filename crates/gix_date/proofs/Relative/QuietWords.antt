-- Texts whose words say nothing of a moment: no unit, no `ago`, no name of a day. No such text is relative.
use Rattle.std.proofs.Common.{◌≡◌, ◌∙◌, ◌-◌, ℕ, Bool, true, false, cond, List, [], ◌∷◌, ◌++◌, filter, length, map, take, get_or, refl, ap}
use Rattle.std.proofs.Common.{ap₂, sym, arith, Some, None, Option, IsUtf8, flat_map}
use Rattle.std.proofs.Math.ListN.{get_or-map}
use Rattle.std.proofs.Math.Bool.{and-false}
use Rattle.std.proofs.lemmas.Bool.{and_parts as both, not-true as not_is}
use Rattle.std.proofs.lemmas.Bool.Decides.{nat_tests}
use Rattle.std.proofs.lemmas.List.{take-map, length-map}
use Rattle.std.proofs.lemmas.List.Splits.{slice_split-cons_no}
use Rattle.std.proofs.lemmas.Slice.Eq.{bytes_eq-Decides}
use Rattle.std.proofs.lemmas.Str.{IsUtf8-from_ascii}
use Rattle.std.specs.Char.{is_ascii_alphanumeric, to_ascii_lowercase}
use Rattle.std.specs.List.{slice_split, onto_first, list_all, list_any}
use Rattle.std.specs.Prelude.{◌==◌, ◌||◌, ◌&&◌, not, is_none, codes}
use Rattle.std.specs.Str.{trim, bytes_eq, str_to_ascii_lowercase}
use Rattle.gix_date.specs.Text.Names.{is_name, named_in}
use Rattle.gix_date.proofs.Relative.RelativeWordSteps.{run_ascii}
use Rattle.gix_date.proofs.Text.Places.{any_place, all_places}
use Rattle.gix_date.specs.Relative.Dates.{relative_date, date_names, named_date, pairs_date, RelativeDate}
use Rattle.gix_date.specs.Relative.Words.{relative_words, is_gap, singular, named_unit, unit_names, unit_of, is_ago}
use Rattle.gix_date.specs.Relative.Roles.{are_pairs, has_pair, all_units, has_flag, has_unit, is_count_word, next_is_free, has_next}
use Rattle.gix_date.specs.Relative.Roles.{next_is_unit}
use Rattle.gix_date.specs.Text.SpaceWords.{is_nonempty}
use Rattle.gix_date.proofs.Text.AsciiCuts.{ascii-by}
use Rattle.gix_date.proofs.Fields.FieldsTaken.{none_is}
use Rattle.gix_date.proofs.Text.FirstWords.{trimmed-words}
use Rattle.gix_date.proofs.Text.WordsWithin.{words-within}

-- no unit, no `ago`, and no name of a day
abbrev pub says_nothing : List ℕ → Bool
says_nothing word = not (has_unit word) && not (is_ago word) && is_none (named_date word)

-- a text of such words alone
abbrev pub IsQuiet : List ℕ → Type 0
IsQuiet text = list_all says_nothing (relative_words text) ≡ true

record SaysNothing (word : List ℕ) : Type 0 where
  pub unit : has_unit word ≡ false
  pub ago : is_ago word ≡ false
  pub name : named_date word ≡ None

says-parts : (word : List ℕ) → says_nothing word ≡ true → SaysNothing word
says-parts word h = grind (arith, both, not_is, none_is)

pub says-by : (word : List ℕ) → has_unit word ≡ false → is_ago word ≡ false → named_date word ≡ None → says_nothing word ≡ true
says-by word u a n = rw (u, a, n) refl

-- Such words are no pairs.
abbrev is_flag : List (List ℕ) → List ℕ → List (List ℕ) → Bool
is_flag front word back = next_is_free front && is_ago word

abbrev is_count : List (List ℕ) → List ℕ → Bool
is_count front word = next_is_free front && is_count_word word

abbrev starts_pair : List (List ℕ) → List ℕ → List (List ℕ) → Bool
starts_pair front word back = is_count front word && has_next back

abbrev counts_unit : List (List ℕ) → List ℕ → List (List ℕ) → Bool
counts_unit front word back = not (is_count front word) || next_is_unit back

no-flag : (front words : List (List ℕ)) → list_all says_nothing words ≡ true → any_place is_flag front words ≡ false
no-flag front [] h = refl
no-flag front (word ∷ words) h =
    let parts = both (says_nothing word) (list_all says_nothing words) h in
    rw ((says-parts word parts.0).ago, and-false (next_is_free front), no-flag (front ++ word ∷ []) words parts.1) refl

no-unit : (front words : List (List ℕ)) → list_all says_nothing words ≡ true → any_place starts_pair front words ≡ true
    → all_places counts_unit front words ≡ false
no-unit front [] h e = absurd cc
no-unit front (word ∷ []) h e = let no = and-false (is_count front word) in absurd cc
no-unit front (word ∷ period ∷ words) h e =
    let parts = both (says_nothing word) (list_all says_nothing (period ∷ words)) h in
    let next = both (says_nothing period) (list_all says_nothing words) parts.1 in
    by_count (is_count front word) (says-parts period next.0).unit (no-unit (front ++ word ∷ []) (period ∷ words) parts.1) e
  where
    by_count : (count : Bool) {unit pair units : Bool} → unit ≡ false → (pair ≡ true → units ≡ false) → ((count && true) || pair) ≡ true
        → ((not count || unit) && units) ≡ false
    by_count true u more e = rw u refl
    by_count false u more e = more e

no-pairs-by : (words : List (List ℕ)) (pair : Bool) → has_pair words ≡ pair → list_all says_nothing words ≡ true → are_pairs words ≡ false
unfolding are_pairs has_pair all_units has_flag
no-pairs-by words true e h = rw (e, no-unit [] words h e, no-flag [] words h) refl
no-pairs-by words false e h = rw e refl

-- A word of letters and digits is the only one of its text.
pub no_gap : (c : ℕ) → is_ascii_alphanumeric c ≡ true → is_gap c ≡ false
no_gap c h = rw h refl

one-run : (t : List ℕ) → list_all is_ascii_alphanumeric t ≡ true → slice_split is_gap t ≡ t ∷ []
one-run [] h = refl
one-run (c ∷ t) h =
    let parts = both (is_ascii_alphanumeric c) (list_all is_ascii_alphanumeric t) h in
    slice_split-cons_no is_gap c t (no_gap c parts.0) ∙ ap (onto_first c) (one-run t parts.1)

pub one-run-word : (c : ℕ) (t : List ℕ) → list_all is_ascii_alphanumeric (c ∷ t) ≡ true → relative_words (c ∷ t) ≡ (c ∷ t) ∷ []
unfolding relative_words
one-run-word c t h = ap (filter is_nonempty) (one-run (c ∷ t) h)

-- Words that differ in case alone say the same.
pub same_class : (c : ℕ) → is_ascii_alphanumeric (to_ascii_lowercase c) ≡ is_ascii_alphanumeric c
same_class c = grind (arith, nat_tests)

classes : (t : List ℕ) → list_all is_ascii_alphanumeric (str_to_ascii_lowercase t) ≡ list_all is_ascii_alphanumeric t
classes [] = refl
classes (c ∷ t) = ap₂ (λ (a b : Bool). a && b) (same_class c) (classes t)

pub lower-same : (word name : List ℕ) → is_name word name ≡ true → str_to_ascii_lowercase word ≡ str_to_ascii_lowercase name
lower-same word name h = (bytes_eq-Decides (str_to_ascii_lowercase word) (str_to_ascii_lowercase name)).0 h

pub like-ago : (word name : List ℕ) → str_to_ascii_lowercase word ≡ str_to_ascii_lowercase name → is_ago word ≡ is_ago name
like-ago word name e = ap (λ (t : List ℕ). bytes_eq t (str_to_ascii_lowercase (codes "ago"))) e

pub like-name : (word name : List ℕ) → str_to_ascii_lowercase word ≡ str_to_ascii_lowercase name → is_name word ≡ is_name name
like-name word name e = grind (arith)

pub like-named : {A : Type 0} (table : List (List ℕ × A)) (word name : List ℕ) → str_to_ascii_lowercase word ≡ str_to_ascii_lowercase name
    → named_in table word ≡ named_in table name
like-named {A} [] word name e = refl
like-named {A} ((other, said) ∷ rows) word name e =
    ap₂ (λ (b : Bool) (found : Option A). cond b (Some said) found) (ap (λ (is : List ℕ → Bool). is other) (like-name word name e))
    (like-named rows word name e)

like-date : (word name : List ℕ) → str_to_ascii_lowercase word ≡ str_to_ascii_lowercase name → named_date name ≡ None
    → named_date word ≡ None
unfolding named_date
like-date word name e h = like-named date_names word name e ∙ h

pub like-unit : (word name : List ℕ) → str_to_ascii_lowercase word ≡ str_to_ascii_lowercase name → named_unit word ≡ named_unit name
unfolding named_unit
like-unit word name e = like-named unit_names word name e

-- the same without a final `s`, of a word in small letters
abbrev pub without_s : List ℕ → List ℕ
without_s t = cond (get_or t (length t - 1) 0 == 115) (take (length t - 1) t) t

is_s : (c : ℕ) → (c == 115 || c == 83) ≡ (to_ascii_lowercase c == 115)
is_s c = grind (arith, nat_tests)

lower_cond : (b : Bool) (x y : List ℕ) → str_to_ascii_lowercase (cond b x y) ≡ cond b (str_to_ascii_lowercase x) (str_to_ascii_lowercase y)
lower_cond true x y = refl
lower_cond false x y = refl

pub lower-singular : (word : List ℕ) → str_to_ascii_lowercase (singular word) ≡ without_s (str_to_ascii_lowercase word)
unfolding singular
lower-singular word =
    let place = length word - 1 in
    let long : length (str_to_ascii_lowercase word) ≡ length word = length-map word to_ascii_lowercase in
    let last : to_ascii_lowercase (get_or word place 0) ≡ get_or (str_to_ascii_lowercase word) place 0 =
    sym (get_or-map to_ascii_lowercase word place 0) in
    ap (λ (b : Bool). str_to_ascii_lowercase (cond b (take place word) word)) (is_s (get_or word place 0) ∙ ap (λ (c : ℕ). c == 115) last)
    ∙ lower_cond (get_or (str_to_ascii_lowercase word) place 0 == 115) (take place word) word
    ∙ ap (λ (t : List ℕ). cond (get_or (str_to_ascii_lowercase word) place 0 == 115) t (str_to_ascii_lowercase word))
    (sym (take-map to_ascii_lowercase place word))
    ∙ ap (λ (n : ℕ). cond (get_or (str_to_ascii_lowercase word) (n - 1) 0 == 115) (take (n - 1) (str_to_ascii_lowercase word))
    (str_to_ascii_lowercase word)) (sym long)

pub like-singular : (word name : List ℕ) → str_to_ascii_lowercase word ≡ str_to_ascii_lowercase name → has_unit word ≡ has_unit name
unfolding has_unit unit_of
like-singular word name e = grind (arith, like-unit, lower-singular)

-- a word that is a name, in any letter case, says what the name says
pub like : (word name : List ℕ) → is_name word name ≡ true → says_nothing name ≡ true → says_nothing word ≡ true
like word name e h = grind (arith, lower-same, says-parts, says-by, like-singular, like-ago, like-date)

by-first : {T : Type 0} (a b : Bool) (first : a ≡ true → T) (more : b ≡ true → T) → (a || b) ≡ true → T
by-first true b first more e = first refl
by-first false b first more e = more e

pub like-any : (word : List ℕ) (names : List (List ℕ)) → list_all says_nothing names ≡ true → list_any (is_name word) names ≡ true
    → says_nothing word ≡ true
like-any word [] h e = absurd cc
like-any word (name ∷ names) h e =
    let parts = both (says_nothing name) (list_all says_nothing names) h in
    by-first (is_name word name) (list_any (is_name word) names) (λ f. like word name f parts.0) (λ m. like-any word names parts.1 m) e

-- A word that is in a table is one of its names.
abbrev pub names_of : {A : Type 0} → List (List ℕ × A) → List (List ℕ)
names_of table = map (λ row. row.0) table

pub named-any : {A : Type 0} (table : List (List ℕ × A)) (x : List ℕ) (a : A) → named_in table x ≡ Some a
    → list_any (is_name x) (names_of table) ≡ true
named-any [] x a e = absurd cc
named-any ((name, said) ∷ rows) x a e = by-row (is_name x name) (named-any rows x a) e
  where
    by-row : (b : Bool) → (named_in rows x ≡ Some a → list_any (is_name x) (names_of rows) ≡ true)
        → cond b (Some said) (named_in rows x) ≡ Some a → (b || list_any (is_name x) (names_of rows)) ≡ true
    by-row true more e = refl
    by-row false more e = more e

-- A text that is a name of a day is no quiet text.
abbrev day_words : List (List ℕ)
day_words = names_of date_names

pub any-run : (x : List ℕ) (names : List (List ℕ)) → list_all (list_all is_ascii_alphanumeric) names ≡ true
    → list_any (is_name x) names ≡ true → list_all is_ascii_alphanumeric x ≡ true
any-run x [] h e = absurd cc
any-run x (name ∷ names) h e =
    let parts = both (list_all is_ascii_alphanumeric name) (list_all (list_all is_ascii_alphanumeric) names) h in
    by-first (is_name x name) (list_any (is_name x) names)
    (λ f. sym (classes x) ∙ ap (list_all is_ascii_alphanumeric) (lower-same x name f) ∙ classes name ∙ parts.0)
    (λ m. any-run x names parts.1 m) e

named-word : (x : List ℕ) (d : RelativeDate) → named_date x ≡ Some d → list_all is_ascii_alphanumeric x ≡ true → relative_words x ≡ x ∷ []
unfolding named_date
named-word [] d e h = absurd cc
named-word (c ∷ t) d e h = one-run-word c t h

-- such a text is that word alone
pub named-alone : (text : List ℕ) → IsUtf8 text → (d : RelativeDate) → named_date (trim text) ≡ Some d
    → relative_words text ≡ trim text ∷ []
unfolding named_date
named-alone text u d e =
    let x = trim text in
    let run = any-run x day_words refl (named-any date_names x d e) in
    words-within text u ∙ ap (λ (ws : List (List ℕ)). flat_map relative_words ws) (sym (trimmed-words text u))
    ∙ sym (words-within x (IsUtf8-from_ascii x (ascii-by is_ascii_alphanumeric run_ascii x run))) ∙ named-word x d e run

not-named : (text : List ℕ) → IsUtf8 text → IsQuiet text → (d : RelativeDate) → named_date (trim text) ≡ Some d → ⊥
not-named text u q d e = grind (arith, both, named-alone, says-parts)

-- no quiet text is relative
pub no-relative : (text : List ℕ) → IsUtf8 text → IsQuiet text → relative_date text ≡ None
unfolding relative_date pairs_date
no-relative text u q = grind (arith, not-named, no-pairs-by)

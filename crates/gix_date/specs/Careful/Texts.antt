-- Which relative texts leave nothing to guess.
use Rattle.std.specs.Prelude.{ℕ, Bool, false, not, ◌&&◌, ◌||◌, List, length, take, drop, slice_index, ◌==◌, codes, if◌then◌else◌, Option}
use Rattle.std.specs.Prelude.{Some, None, option_map, zero, suc, ◌<◌}
use Rattle.std.specs.Char.{is_ascii_alphanumeric, is_ascii_whitespace}
use Rattle.std.specs.List.{prefix_len}
use Rattle.std.specs.Option.{option_or}
use Rattle.gix_date.specs.Git.ClockCut.{last_place}
use Rattle.gix_date.specs.Relative.Roles.{is_count_word, has_unit}
use Rattle.gix_date.specs.Relative.Words.{is_ago}
use Rattle.gix_date.specs.Text.Characters.{comma, dot, minus, underscore}
use Rattle.gix_date.specs.Text.Names.{is_name}

-- a letter or digit of ASCII stands at this place
abbrev pub in_word : List ℕ → ℕ → Bool
in_word text place = is_ascii_alphanumeric (slice_index text place)

-- a word ends directly before this place
abbrev pub after_word : List ℕ → ℕ → Bool
after_word text zero = false
after_word text (suc before) = in_word text before

-- a word begins at this place
abbrev pub begins_word : List ℕ → ℕ → Bool
begins_word text place = in_word text place && not (after_word text place)

-- the word that begins at this place
abbrev pub word_at : List ℕ → ℕ → List ℕ
word_at text place = take (prefix_len is_ascii_alphanumeric (drop place text)) (drop place text)

-- a character of ASCII stands at this place
abbrev pub IsWordPlace : List ℕ → ℕ → Type 0
IsWordPlace text place = (place < length text) × (slice_index text place < 128)

-- the last word that begins before this place
abbrev pub word_before : List ℕ → ℕ → Option (List ℕ)
word_before text place = option_map (word_at text) (last_place (begins_word text) place)

-- a count, but not `last`: digits, or `one` to `ten`
abbrev pub is_plain_count : List ℕ → Bool
is_plain_count word = is_count_word word && not (is_name word (codes "last"))

abbrev pub is_and : List ℕ → Bool
is_and word = is_name word (codes "and")

-- The second word may follow the first: a unit follows a count; a count, `and` or `ago` follows a unit; and a count
-- follows `and`.
abbrev pub may_follow : List ℕ → List ℕ → Bool
may_follow first second =
    (is_plain_count first && has_unit second)
    || ((has_unit first && (is_plain_count second || is_and second || is_ago second))
    || (is_and first && is_plain_count second))

-- the word may follow the one before it; the first word is a count
abbrev pub may_stand_after : Option (List ℕ) → List ℕ → Bool
may_stand_after None word = is_plain_count word
may_stand_after (Some before) word = may_follow before word

-- `,`, `.`, `_` or white space of ASCII
abbrev pub is_separator : ℕ → Bool
is_separator b = is_ascii_whitespace b || (b == comma || (b == dot || b == underscore))

-- a separator stands at this place, or a `-` directly after a word, where it is no sign of a number
abbrev pub separates : List ℕ → ℕ → Bool
separates text place =
    is_separator (slice_index text place) || (slice_index text place == minus && after_word text place)

-- nothing is ambiguous at this place: a word fits the one before it, or it goes on, or words are separated
unfoldable pub is_clear_at : List ℕ → ℕ → Bool
is_clear_at text place =
    if begins_word text place then may_stand_after (word_before text place) (word_at text place)
    else (in_word text place || separates text place)

-- the last word is `ago`
abbrev pub ends_in_ago : Option (List ℕ) → Bool
ends_in_ago None = false
ends_in_ago (Some word) = is_ago word

-- the first place below n that fails a test
abbrev pub first_failure : (ℕ → Bool) → ℕ → Option ℕ
first_failure test zero = None
first_failure test (suc n) = option_or (first_failure test n) (if test n then None else Some n)

-- Where the text stops being clear: at the first place that is not, or at its end if its last word is not `ago`. `None`
-- if it is careful.
unfoldable pub unclear_place : List ℕ → Option ℕ
unclear_place text =
    option_or (first_failure (is_clear_at text) (length text))
    (if ends_in_ago (word_before text (length text)) then None else Some (length text))

-- What is clear is ASCII.
use Rattle.std.proofs.lemmas.Grind.{common_steps}
use Rattle.std.proofs.Common.{◌≡◌, ◌<◌, ℕ, Bool, true, false, cond, List, refl, arith}
use Rattle.std.proofs.lemmas.Bool.{and_parts as both}
use Rattle.std.proofs.lemmas.Bool.Decides.{nat_tests}
use Rattle.std.specs.Prelude.{◌&&◌, ◌||◌, not, slice_index, ◌==◌}
use Rattle.gix_date.specs.Careful.Texts.{after_word, begins_word, in_word, is_clear_at, is_separator, separates}
use Rattle.gix_date.specs.Text.Characters.{minus}
use Rattle.gix_date.proofs.Relative.RelativeWordSteps.{run_ascii as word_is_ascii}

separator_is_ascii : (b : ℕ) → is_separator b ≡ true → b < 128
separator_is_ascii b h = grind (arith, nat_tests, h)

dash_is_ascii : (b : ℕ) (before : Bool) → (b == minus && before) ≡ true → b < 128
dash_is_ascii b true h = grind (arith, nat_tests, h)
dash_is_ascii b false h = grind (arith, nat_tests, h)

either : (a b : Bool) (n : ℕ) → (a ≡ true → n < 128) → (b ≡ true → n < 128) → (a || b) ≡ true → n < 128
either true b n f g h = f refl
either false b n f g h = g h

chosen : (text : List ℕ) (place : ℕ) (begins fits : Bool) → begins_word text place ≡ begins
    → cond begins fits (in_word text place || separates text place) ≡ true → slice_index text place < 128
chosen text place true fits e h = word_is_ascii (slice_index text place) (both (in_word text place) (not (after_word text place)) e).0
chosen text place false fits e h = grind (arith, nat_tests, common_steps, either, word_is_ascii, separator_is_ascii, dash_is_ascii)

pub clear_is_ascii : (text : List ℕ) (place : ℕ) → is_clear_at text place ≡ true → slice_index text place < 128
unfolding is_clear_at
clear_is_ascii text place h = grind (arith, chosen)

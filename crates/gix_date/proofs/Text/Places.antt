-- Tests of places, by what stands before a word, the word, and what stands after.
use Rattle.std.proofs.Common.{ℕ, Bool, List}
use Rattle.std.specs.List.{list_any, list_all}
use Rattle.gix_date.specs.Text.Places.{places_after}

abbrev pub Words : Type 0
Words = List (List ℕ)

abbrev pub any_place : (Words → List ℕ → Words → Bool) → Words → Words → Bool
any_place t front words = list_any (λ p. t p.front p.word p.back) (places_after front words)

abbrev pub all_places : (Words → List ℕ → Words → Bool) → Words → Words → Bool
all_places t front words = list_all (λ p. t p.front p.word p.back) (places_after front words)

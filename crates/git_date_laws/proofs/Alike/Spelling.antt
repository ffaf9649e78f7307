-- Words that may be spelled otherwise, as in letter case, and say the same.
use Rattle.std.proofs.Common.{◌≡◌, ◌+◌, ℕ, ℤ, Bool, cond, List, [], ◌∷◌, length, refl, ap₂, is_some, Some, option_map}
use Rattle.std.specs.Prelude.{◌==◌, ◌&&◌, ◌||◌, codes, take, nat_le}
use Rattle.std.specs.List.{position, find, list_any}
use Rattle.gix_date.specs.Text.Names.{is_name, named_in, number_names, whole_month_names}
use Rattle.git_date.specs.Tokens.Names.{is_zone_name, zone_rows, is_weekday, zone_named}
use Rattle.gix_date.specs.Text.LongNames.{is_short, long_day_names, month_of_word, weekday_of_word}
use Rattle.git_date.specs.Rules.Words.{filler_words, ending_words, is_filler, half_or_filler, with_word, is_ending, with_zone}
use Rattle.git_date.specs.Types.Names.{Fields}
use Rattle.git_date.specs.Approximate.Words.{moment_names, moment_named, count_named, is_unit, unit_names, unit_named, meaning_of}
use Rattle.git_date.specs.Types.MeaningCases as meaning
use Rattle.git_date.specs.Types.UnitCases as counted
use Rattle.std.specs.Option.{option_or}

-- a spelling of words that no name tells from another, byte for byte
pub record IsSpelling (spell : List ℕ → List ℕ) : Type 0 where
  pub named : (word name : List ℕ) → is_name (spell word) name ≡ is_name word name
  pub sized : (word : List ℕ) → length (spell word) ≡ length word

module _ (spell : List ℕ → List ℕ) (same : IsSpelling spell) where
  pub short-agrees : (word name : List ℕ) → is_short (spell word) name ≡ is_short word name
  short-agrees word name = rw (same.sized word, same.named word (take (length word) name))

  zone-agrees : (word name : List ℕ) → is_zone_name (spell word) name ≡ is_zone_name word name
  zone-agrees word name = ap₂ ◌||◌ (same.named word name) (short-agrees word name)

  pub month-agrees : (word : List ℕ) → month_of_word (spell word) ≡ month_of_word word
  unfolding month_of_word
  month-agrees word = λ i. option_map (λ place. place + 1) (position (λ name. short-agrees word name i) whole_month_names)

  weekday-agrees : (word : List ℕ) → is_weekday (spell word) ≡ is_weekday word
  unfolding is_weekday weekday_of_word
  weekday-agrees word = λ i. is_some (position (λ name. short-agrees word name i) long_day_names)

  zone-named-agrees : (word : List ℕ) → zone_named (spell word) ≡ zone_named word
  unfolding zone_named
  zone-named-agrees word = λ i. option_map (λ (row : List ℕ × ℤ). row.1) (find (λ (row : List ℕ × ℤ). zone-agrees word row.0 i) zone_rows)

  pub filler-agrees : (word : List ℕ) → is_filler (spell word) ≡ is_filler word
  filler-agrees word = λ i. list_any (λ name. same.named word name i) filler_words

  pub ending-agrees : (word : List ℕ) → is_ending (spell word) ≡ is_ending word
  ending-agrees word = λ i. list_any (λ name. same.named word name i) ending_words

  half-agrees : (f : Fields) (word : List ℕ) → half_or_filler f (spell word) ≡ half_or_filler f word
  half-agrees f word = rw (same.named word (codes "PM"), same.named word (codes "AM"), filler-agrees word)

  pub word-agrees : (f : Fields) (word : List ℕ) → with_word f (spell word) ≡ with_word f word
  unfolding with_word
  word-agrees f word =
      λ i. option_or (option_map (λ month. record f { month = Some month }) (month-agrees word i))
      (cond (weekday-agrees word i) (Some f) (option_or (option_map (with_zone f) (zone-named-agrees word i)) (half-agrees f word i)))

  -- what words say
  named-agrees : {A : Type 0} (rows : List (List ℕ × A)) (word : List ℕ) → named_in rows (spell word) ≡ named_in rows word
  named-agrees [] word = refl
  named-agrees ((name, said) ∷ rows) word =
      ap₂ (λ (b : Bool) other. cond b (Some said) other) (same.named word name) (named-agrees rows word)

  moment-agrees : (word : List ℕ) → moment_named (spell word) ≡ moment_named word
  unfolding moment_named
  moment-agrees word = named-agrees moment_names word

  count-agrees : (word : List ℕ) → count_named (spell word) ≡ count_named word
  unfolding count_named
  count-agrees word =
      λ i. cond (same.named word (codes "last") i) (Some 1)
      (option_map (λ place. place + 1) (position (λ name. same.named word name i) number_names))

  begins-agrees : (word name : List ℕ)
      → (nat_le (length (spell word)) (length name) && is_name (spell word) (take (length (spell word)) name))
      ≡ (nat_le (length word) (length name) && is_name word (take (length word) name))
  begins-agrees word name = rw (same.sized word, same.named word (take (length word) name))

  is-unit-agrees : (word name : List ℕ) → is_unit (spell word) name ≡ is_unit word name
  is-unit-agrees word name =
      λ i. same.named word name i || (same.sized word i + 1 == length name && begins-agrees word name i)

  unit-agrees : (word : List ℕ) → unit_named (spell word) ≡ unit_named word
  unfolding unit_named
  unit-agrees word = λ i. option_map (λ row. row.1) (find (λ row. is-unit-agrees word row.0 i) unit_names)

  weekday-named-agrees : (word : List ℕ) → weekday_of_word (spell word) ≡ weekday_of_word word
  unfolding weekday_of_word
  weekday-named-agrees word = λ i. position (λ name. short-agrees word name i) long_day_names

  pub meaning-agrees : (word : List ℕ) → meaning_of (spell word) ≡ meaning_of word
  unfolding meaning_of
  meaning-agrees word =
      λ i. option_or (option_map meaning.Month (month-agrees word i))
      (option_or (moment-agrees word i) (option_or (option_map meaning.Count (count-agrees word i))
      (option_or (option_map (λ day. meaning.Unit (counted.Weekday day)) (weekday-named-agrees word i))
      (option_map meaning.Unit (unit-agrees word i)))))

-- The formatted dates that begin alike, with a day written with `-` or with names: the day is read once for all of them.
use Rattle.std.proofs.Common.{◌≡◌, ◌∙◌, ℕ, true, false, length, List, [], ◌∷◌, ◌==◌, Option, Some, None, ℤ, pos, refl, sym, ap, arith}
use Rattle.std.proofs.lemmas.Bool.Decides.{nat_tests}
use Rattle.std.specs.Option.{option_or}
use Rattle.gix_date.specs.Families.Answer.{FamilyAnswer, Absolute}
use Rattle.gix_date.specs.Families.Epoch.{utc_time}
use Rattle.gix_date.specs.Families.Patterns.{short_answer, iso8601_answer, iso8601_strict_answer, gitoxide_answer, default_answer}
use Rattle.gix_date.specs.Families.Patterns.{real_day_answer, time_answer, midnight}
use Rattle.gix_date.specs.Fields.Civil.{civil_instant}
use Rattle.gix_date.specs.Fields.DateFields.{read_plain_date, skip_spaces}
use Rattle.gix_date.specs.Text.Front.{skip_char, ◌>>=◌}
use Rattle.gix_date.specs.Fields.Layout.{Piece, DayName, MonthName, Day, Year, Spaces, Clock, Offset, LetterT, ColonOffset, layout_answer}
use Rattle.gix_date.specs.Families.AfterDay.{dashed_answer, answer_after, named_day_answer, read_named_day}
use Rattle.gix_date.specs.declared.clock.DateFields.{DateFields}
use Rattle.gix_date.proofs.Fields.Instants.{is-dated}

-- the answers after a day
abbrev pub alone : DateFields → List ℕ → Option FamilyAnswer
alone = answer_after [] real_day_answer

abbrev pub iso : DateFields → List ℕ → Option FamilyAnswer
iso = answer_after (Spaces ∷ Clock ∷ Spaces ∷ Offset ∷ []) time_answer

abbrev pub strict : DateFields → List ℕ → Option FamilyAnswer
strict = answer_after (LetterT ∷ Clock ∷ ColonOffset ∷ []) time_answer

-- without a day there is none
pub no_plain_day : (text : List ℕ) → read_plain_date text ≡ None → None ≡ dashed_answer text
unfolding short_answer iso8601_answer iso8601_strict_answer
no_plain_day text e = rw e refl

-- a day that has an instant answers it
pub day_with_instant : (date : DateFields) (s : ℤ) → Some s ≡ civil_instant date midnight (pos 0)
    → Some (Absolute (utc_time s)) ≡ alone date []
day_with_instant date s e = rw (is-dated date midnight (pos 0) s e, sym e) refl

-- with one they are those of what stands after it
pub after-day : (text : List ℕ) (date : DateFields) (rest : List ℕ) → read_plain_date text ≡ Some (date, rest)
    → dashed_answer text ≡ option_or (alone date rest) (option_or (iso date rest) (strict date rest))
unfolding short_answer iso8601_answer iso8601_strict_answer
after-day text date rest e = rw e refl

or-none : (x : Option FamilyAnswer) → option_or x None ≡ x
or-none None = refl
or-none (Some a) = refl

-- where nothing stands after it, the day is alone
pub day_alone : (text : List ℕ) (date : DateFields) (rest : List ℕ) → read_plain_date text ≡ Some (date, rest) → (length rest == 0) ≡ true
    → dashed_answer text ≡ alone date []
unfolding skip_spaces skip_char
day_alone text date [] e empty = after-day text date [] e ∙ or-none (alone date [])
day_alone text date (c ∷ cs) e empty = grind (arith, nat_tests)

-- where more stands after it, that is ISO 8601
pub day_then_clock : (text : List ℕ) (date : DateFields) (rest : List ℕ) (a : FamilyAnswer)
    → read_plain_date text ≡ Some (date, rest) → (length rest == 0) ≡ false → Some a ≡ iso date rest → Some a ≡ dashed_answer text
day_then_clock text date [] a e more is = absurd cc
day_then_clock text date (c ∷ cs) a e more is =
    ap (λ x. option_or x (strict date (c ∷ cs))) is ∙ sym (after-day text date (c ∷ cs) e)

-- or else its strict form
pub day_then_t : (text : List ℕ) (date : DateFields) (rest : List ℕ) (x : Option FamilyAnswer)
    → read_plain_date text ≡ Some (date, rest) → (length rest == 0) ≡ false → None ≡ iso date rest → x ≡ strict date rest
    → x ≡ dashed_answer text
day_then_t text date [] x e more none is = absurd cc
day_then_t text date (c ∷ cs) x e more none is =
    is ∙ ap (λ y. option_or y (strict date (c ∷ cs))) none ∙ sym (after-day text date (c ∷ cs) e)

-- The dates with names: the day of the week, the month and the day are read once for both.

-- a step of both readings, where they go on alike after it
step : {A P T B D : Type 0} (o : Option A) (f : A → Option P) (read : P → Option T) (answer : T → Option B) (g : A → Option D)
    (k : D → Option B)
    → ((a : A) → (f a >>= read >>= answer) ≡ (g a >>= k)) → (o >>= f >>= read >>= answer) ≡ (o >>= g >>= k)
step None f read answer g k same = refl
step (Some a) f read answer g k same = same a

-- a form that begins with these is what stands after them
named-day : (pieces : List Piece) (text : List ℕ)
    → layout_answer (DayName ∷ Spaces ∷ MonthName ∷ Spaces ∷ Day ∷ Spaces ∷ pieces) time_answer text
    ≡ (read_named_day text >>= λ found. answer_after pieces time_answer found.0 found.1)
unfolding read_named_day
named-day pieces text = grind (arith, step)

-- the answers after them
abbrev pub year-first : DateFields → List ℕ → Option FamilyAnswer
year-first = answer_after (Year ∷ Spaces ∷ Clock ∷ Spaces ∷ Offset ∷ []) time_answer

abbrev pub clock-first : DateFields → List ℕ → Option FamilyAnswer
clock-first = answer_after (Clock ∷ Spaces ∷ Year ∷ Spaces ∷ Offset ∷ []) time_answer

-- without them there is none
pub no_named_day : (text : List ℕ) → read_named_day text ≡ None → None ≡ named_day_answer text
unfolding gitoxide_answer default_answer
no_named_day text e =
    rw (named-day (Year ∷ Spaces ∷ Clock ∷ Spaces ∷ Offset ∷ []) text, named-day (Clock ∷ Spaces ∷ Year ∷ Spaces ∷ Offset ∷ []) text, e)
    refl

-- with them the year comes first, or else the clock
pub after_named_day : (text : List ℕ) (date : DateFields) (rest : List ℕ) → read_named_day text ≡ Some (date, rest)
    → named_day_answer text ≡ option_or (year-first date rest) (clock-first date rest)
unfolding gitoxide_answer default_answer
after_named_day text date rest e =
    rw (named-day (Year ∷ Spaces ∷ Clock ∷ Spaces ∷ Offset ∷ []) text, named-day (Clock ∷ Spaces ∷ Year ∷ Spaces ∷ Offset ∷ []) text, e)
    refl

pub day_then_year : (text : List ℕ) (date : DateFields) (rest : List ℕ) (a : FamilyAnswer)
    → read_named_day text ≡ Some (date, rest) → Some a ≡ year-first date rest → Some a ≡ named_day_answer text
day_then_year text date rest a e is =
    ap (λ x. option_or x (clock-first date rest)) is ∙ sym (after_named_day text date rest e)

pub day_then_hour : (text : List ℕ) (date : DateFields) (rest : List ℕ) (x : Option FamilyAnswer)
    → read_named_day text ≡ Some (date, rest) → None ≡ year-first date rest → x ≡ clock-first date rest → x ≡ named_day_answer text
day_then_hour text date rest x e none is =
    is ∙ ap (λ y. option_or y (clock-first date rest)) none ∙ sym (after_named_day text date rest e)

pub ruleset plain_days = (no_plain_day, day_alone, day_then_clock, day_then_t)

pub ruleset named_days = (no_named_day, day_then_year, day_then_hour)

-- Which family comes first where two hold a text, and that only the relative one answers a relative date.
use Rattle.std.proofs.Common.{arith}
use Rattle.std.proofs.Common.{◌≡◌, ◌≢◌, ℕ, true, false, List, [], ◌∷◌, ◌++◌, refl, subst, map, Some, None, Option, option_map, IsUtf8}
use Rattle.std.proofs.lemmas.Bool.{and_parts as both, not-true as not_is}
use Rattle.std.specs.List.{list_all}
use Rattle.std.specs.Option.{option_or}
use Rattle.std.specs.Prelude.{◌==◌, not}
use Rattle.gix_date.specs.Families.Answer.{FamilyAnswer, Absolute, Relative}
use Rattle.gix_date.specs.Families.Epoch.{at_time, epoch_time}
use Rattle.gix_date.specs.Families.Order.{Family, AtText, Short, Rfc2822, Iso8601, Iso8601Strict, Gitoxide, Default, BareEpoch, GitForm}
use Rattle.gix_date.specs.Families.Order.{RelativeText, RawText, families_before_git, family_answer, first_answer_of, first_family_by}
use Rattle.gix_date.specs.Families.Laws.{Holds, overlap}
use Rattle.gix_date.specs.Text.Front.{◌>>=◌}
use Rattle.gix_date.specs.Git.Forms.{git_time}
use Rattle.gix_date.specs.Families.Patterns.{short_answer, rfc2822_answer, iso8601_answer, iso8601_strict_answer, gitoxide_answer}
use Rattle.gix_date.specs.Families.Patterns.{default_answer, short_layout, rfc2822_layout, iso8601_layout, iso8601_strict_layout}
use Rattle.gix_date.specs.Families.Patterns.{gitoxide_layout, default_layout, time_answer, real_day_answer, date_answer}
use Rattle.gix_date.specs.Families.Raw.{OffsetRule, raw_time_by}
use Rattle.gix_date.specs.Relative.Dates.{relative_date, RelativeDate}
use Rattle.gix_date.specs.Fields.Layout.{LocalTime, Piece, read_pieces, nothing_read, layout_answer}
use Rattle.gix_date.specs.declared.time.Time.{Time}
use Rattle.gix_date.proofs.Families.Exclusive.{place, differ, answered, are_exclusive}

-- where Git's own forms come first, and relative texts
pub git-first : (rule : OffsetRule) (text : List ℕ) → IsUtf8 text → family_answer rule Iso8601 text ≡ None
    → family_answer rule Iso8601Strict text ≡ None → Holds rule GitForm text
    → first_family_by rule text ≡ family_answer rule GitForm text
unfolding first_family_by
git-first rule text u p q h =
    let none : (b : Family) → (place GitForm == place b) ≡ false → overlap GitForm b ≡ false
    → family_answer rule b text ≡ None = λ b d o. are_exclusive rule text u GitForm b (differ GitForm b d) o h in
    let a = answered rule GitForm text h in
    rw (
      none AtText refl refl,
      none Short refl refl,
      none Rfc2822 refl refl,
      p,
      q,
      none Gitoxide refl refl,
      none Default refl refl,
      none BareEpoch refl refl,
      a.1,
    ) refl

pub relative-first : (rule : OffsetRule) (text : List ℕ) → IsUtf8 text → family_answer rule GitForm text ≡ None
    → Holds rule RelativeText text → first_family_by rule text ≡ family_answer rule RelativeText text
unfolding first_family_by
relative-first rule text u g h =
    let none : (b : Family) → (place RelativeText == place b) ≡ false → overlap RelativeText b ≡ false
    → family_answer rule b text ≡ None = λ b d o. are_exclusive rule text u RelativeText b (differ RelativeText b d) o h in
    let a = answered rule RelativeText text h in
    rw (
      none AtText refl refl,
      none Short refl refl,
      none Rfc2822 refl refl,
      none Iso8601 refl refl,
      none Iso8601Strict refl refl,
      none Gitoxide refl refl,
      none Default refl refl,
      none BareEpoch refl refl,
      g,
      a.1,
    ) refl

-- No moment is asked where the first family is not the relative one.
abbrev IsNotRelative : Option FamilyAnswer → Type 0
IsNotRelative (Some (Relative date)) = ⊥
IsNotRelative _ = Unit {0}

not-relative : (r : Option Time) → IsNotRelative (option_map Absolute r)
not-relative (Some t) = tt
not-relative None = tt

time-not-relative : (t : LocalTime) → IsNotRelative (time_answer t)
unfolding date_answer
time-not-relative t = grind (arith)

day-not-relative : (t : LocalTime) → IsNotRelative (real_day_answer t)
day-not-relative t = grind (arith)

read-not-relative : (read : Option LocalTime) (of_time : LocalTime → Option FamilyAnswer) → ((t : LocalTime) → IsNotRelative (of_time t))
    → IsNotRelative (read >>= of_time)
read-not-relative (Some t) of_time h = h t
read-not-relative None of_time h = tt

dated-not-relative : (layout : List Piece) (text : List ℕ) → IsNotRelative (layout_answer layout time_answer text)
dated-not-relative layout text = read-not-relative (read_pieces layout nothing_read text) time_answer time-not-relative

-- no other family answers a relative date
is-not-relative : (rule : OffsetRule) (family : Family) (text : List ℕ) → family ≢ RelativeText
    → IsNotRelative (family_answer rule family text)
unfolding short_answer rfc2822_answer iso8601_answer iso8601_strict_answer gitoxide_answer default_answer
is-not-relative rule AtText text n = not-relative (at_time rule text)
is-not-relative rule Short text n = read-not-relative (read_pieces short_layout nothing_read text) real_day_answer day-not-relative
is-not-relative rule Rfc2822 text n = dated-not-relative rfc2822_layout text
is-not-relative rule Iso8601 text n = dated-not-relative iso8601_layout text
is-not-relative rule Iso8601Strict text n = dated-not-relative iso8601_strict_layout text
is-not-relative rule Gitoxide text n = dated-not-relative gitoxide_layout text
is-not-relative rule Default text n = dated-not-relative default_layout text
is-not-relative rule BareEpoch text n = not-relative (epoch_time text)
is-not-relative rule GitForm text n = not-relative (git_time text)
is-not-relative rule RelativeText text n = absurd (n refl)
is-not-relative rule RawText text n = not-relative (raw_time_by rule text)

-- after families that are not the relative one
abbrev IsRelativeAfter : OffsetRule → List ℕ → RelativeDate → List Family → Type 0
IsRelativeAfter rule text date front =
    first_answer_of (map (λ family. family_answer rule family text) (front ++ (RelativeText ∷ RawText ∷ []))) ≡ Some (Relative date)

counting-last : (counts : Option RelativeDate) (raw : Option Time) (date : RelativeDate)
    → first_answer_of (option_map Relative counts ∷ option_map Absolute raw ∷ []) ≡ Some (Relative date) → counts ≡ Some date
counting-last (Some d) raw date e = cc
counting-last None (Some t) date e = absurd cc
counting-last None None date e = absurd cc

counting-by : (rule : OffsetRule) (text : List ℕ) (date : RelativeDate) (front : List Family)
    → list_all (λ family. not (place family == place RelativeText)) front ≡ true → IsRelativeAfter rule text date front
    → relative_date text ≡ Some date
counting-by rule text date [] h e = counting-last (relative_date text) (raw_time_by rule text) date e
counting-by rule text date (family ∷ front) h e =
    let p = both (not (place family == place RelativeText)) (list_all (λ other. not (place other == place RelativeText)) front) h in
    let n = differ family RelativeText (not_is (place family == place RelativeText) p.0) in
    next (counting-by rule text date front p.1) (family_answer rule family text) (is-not-relative rule family text n) e
  where
    next : (IsRelativeAfter rule text date front → relative_date text ≡ Some date) → (found : Option FamilyAnswer) → IsNotRelative found
        → option_or found (first_answer_of (map (λ other. family_answer rule other text) (front ++ (RelativeText ∷ RawText ∷ []))))
        ≡ Some (Relative date)
        → relative_date text ≡ Some date
    next more None n e = more e
    next more (Some x) n e = absurd (subst IsNotRelative e n)

pub counting : (rule : OffsetRule) (text : List ℕ) (date : RelativeDate) → first_family_by rule text ≡ Some (Relative date)
    → relative_date text ≡ Some date
unfolding first_family_by
counting rule text date e = counting-by rule text date (families_before_git ++ (GitForm ∷ [])) refl e

-- The dates of mail, as the exact reader reads them: the name of the day, the second and the offset's digits may be missing.
use Rattle.std.proofs.Common.{◌≡◌, ◌∙◌, ◌<◌, ◌≤◌, inl, inr, ℕ, ℤ, pos, neg_ℤ, ◌*ℤ◌, nat_lt, Bool, true, false, cond, List, [], ◌∷◌, ◌++◌}
use Rattle.std.proofs.Common.{Option, Some, None, Ok, refl, ap, sym, subst, arith, append_assoc, append-nil}
use Rattle.std.specs.Prelude.{codes}
use Rattle.std.specs.Option.{is_some}
use Rattle.std.specs.Str.{str_to_ascii_lowercase}
use Rattle.std.proofs.lemmas.Bool.Decides.{nat_tests}
use Rattle.std.proofs.lemmas.Option.{cond_some as guard}
use Rattle.std.proofs.lemmas.Slice.Eq.{bytes_eq-Decides}
use Rattle.gix_date.proofs.Fast.FastHeaders.{offset-taken}
use Rattle.gix_date.proofs.Fields.FieldsTaken.{went, first-or}
use Rattle.gix_date.specs.Fields.DateOffsets.{rfc2822_zone, rfc2822_offset, named_zone, is_jiff_offset, jiff_offset}
use Rattle.gix_date.specs.Fields.FieldTexts.{AreMinutes}
use Rattle.gix_date.specs.Fields.Layout.{LocalTime, BeginsWith, DayName, Rfc2822DayName, Rfc2822Clock, Rfc2822Offset}
use Rattle.gix_date.specs.Fields.Offsets.{offset_fields, offset_of}
use Rattle.gix_date.specs.Text.Characters.{colon, comma, space}
use Rattle.gix_date.specs.Text.LongNames.{month_of_word, weekday_of_word}
use Rattle.gix_date.specs.Text.Names.{is_name}
use Rattle.gix_date.specs.declared.time.Time.{Time}
use Rattle.git_date.proofs.Exact.PrintedClocks.{at, small-rule, taken-rule, after-clock, clock-taken, numbered, two-numbers, or_bare}
use Rattle.git_date.proofs.Text.TokenRuns.{mark-first}
use Rattle.git_date.specs.Types.DatedCases.{Taken}
use Rattle.git_date.specs.Rules.Dates.{exact_seconds}
use Rattle.git_date.specs.Rules.Digits.{group_said}
use Rattle.git_date.specs.Rules.Fields.{unknown}
use Rattle.git_date.specs.Rules.Groups.{number_at, marked_number, group_of, group_rule, large_in}
use Rattle.git_date.specs.Tokens.Names.{is_weekday, zone_named}
use Rattle.git_date.specs.Tokens.Numbers.{number}
use Rattle.git_date.specs.Exact.Reading.{rule}
use Rattle.git_date.specs.Tokens.Tokens.{Token, Letters, Digits, Mark, tokens}
use Rattle.git_date.specs.Types.Names.{Fields, Group, Now, Number}
use Rattle.git_date.specs.Rules.Words.{with_word, letters_rule, without_ending}
use Rattle.git_date_laws.proofs.Alike.Texts.{lowered, tokens-lower, in_lower_case}
use Rattle.git_date_laws.proofs.Alike.Spelling.{word-agrees}
use Rattle.git_date_laws.proofs.Agreement.Fields.{IsOf, AreFields, field-is, gap-quiet, IsSpaced}
use Rattle.git_date_laws.proofs.Agreement.Parts.{all_of, ready, stop, piece, clock-part, weekday-part}
use Rattle.git_date_laws.proofs.Agreement.Steps.{IsQuiet, Fits, Goes, Step, After, goes, over, skip, no-offset, offset-goes}
use Rattle.git_date_laws.specs.Agree.{HasNoLeapSecond}

-- a clock without seconds
abbrev pair_at : ℕ → Number → Group
pair_at first second = record { mark = colon; first = first; second = second; third = None }

two-of : (first : ℕ) (b : List ℕ) (more : List Token)
    → group_of first (Mark colon ∷ Digits b ∷ Mark space ∷ more) ≡ Some (pair_at first (number_at b (Mark space ∷ more)), Mark space ∷ more)
unfolding group_of marked_number
two-of first b (Letters run ∷ more) = refl
two-of first b ts = refl

pair-small : (first : ℕ) (second : Number) → second.value < 60 → large_in (pair_at first second) ≡ None
pair-small first second h = let a : nat_lt 2_147_483_647 second.value ≡ false = grind (arith, nat_tests) in rw a refl

pair-clock : (now : Now) (g : Fields) (h m left : ℕ) → h < 24 → m < 60
    → group_rule now g (pair_at h (numbered m left)) ≡ Taken (record g { hour = Some h; minute = Some m; second = Some 0 })
unfolding group_rule
pair-clock now g h m left a b = rw (clock-taken g h m 0 a b (omega arith)) refl

pair-rule : (now : Now) (g : Fields) (a b : List ℕ) (h m : ℕ) (more : List Token) → number a ≡ h → number b ≡ m → h < 24 → m < 60
    → rule now g (Digits a) (Mark colon ∷ Digits b ∷ Mark space ∷ more)
    ≡ Ok (Some (record g { hour = Some h; minute = Some m; second = Some 0 }), Mark space ∷ more)
unfolding without_ending group_said
pair-rule now g a b h m more hh mm low high =
    grind (arith, or_bare, numbered, small-rule, two-of, taken-rule, pair-small, pair-clock, after-clock)

-- a zone's name, in any letter case
lowered-one : (ts : List Token) (word : List ℕ) → lowered ts ≡ Letters word ∷ []
    → (run : List ℕ) × (ts ≡ Letters run ∷ []) × (str_to_ascii_lowercase run ≡ word)
lowered-one [] word e = absurd cc
lowered-one (Letters run ∷ []) word e = (run, refl, cc)
lowered-one (Letters run ∷ t ∷ more) word e = grind (arith, lowered)
lowered-one (Digits run ∷ more) word e = absurd cc
lowered-one (Mark byte ∷ more) word e = absurd cc

comma-quiet : IsQuiet comma
comma-quiet = record { no_letter = refl; no_digit = refl; no_plus = refl; no_minus = refl; no_colon = refl; no_at = refl }

-- the offset of the first of some names
pub by-row : (b : Bool) (v o : ℤ) (rest : Option ℤ) (G : Type 0) → cond b (Some v) rest ≡ Some o → (b ≡ true → v ≡ o → G)
    → (rest ≡ Some o → G) → G
by-row true v o rest G e first later = first refl cc
by-row false v o rest G e first later = later e

module _ (now : Now) (t : Time) (l : LocalTime) (is : IsOf l t) (f : AreFields l) (late : 1969 ≤ l.date.year) where
  abbrev zoned : ℤ → Fields
  zoned minutes = record (all_of l) { offset = Some minutes }

  zoned-fits : (minutes : ℤ) → l.offset ≡ pos 60 *ℤ minutes → Fits now t (Ok (at (zoned minutes)))
  unfolding exact_seconds
  zoned-fits minutes e = λ s m none off exact.
      let known : minutes ≡ m = cc in
      let same : t.offset ≡ pos 60 *ℤ m = is.offset ∙ e ∙ ap (λ (k : ℤ). pos 60 *ℤ k) known in
      let counted = ready now t l is f late s m same exact in
      λ i. record { seconds = counted i; offset = same i }

  -- a name says its offset, or nothing
  name-goes : (x name : List ℕ) (said : Option Fields) → is_name x name ≡ true
      → tokens (str_to_ascii_lowercase name) ≡ Letters (str_to_ascii_lowercase name) ∷ []
      → with_word (all_of l) (str_to_ascii_lowercase name) ≡ said → After now t said [] → Goes now t (all_of l) (tokens x)
  unfolding letters_rule
  name-goes x name said named word says go =
      let lower : str_to_ascii_lowercase x ≡ str_to_ascii_lowercase name =
      (bytes_eq-Decides (str_to_ascii_lowercase x) (str_to_ascii_lowercase name)).0 named in
      let one = lowered-one (tokens x) (str_to_ascii_lowercase name) (sym (tokens-lower x) ∙ ap tokens lower ∙ word) in
      let same : with_word (all_of l) one.0 ≡ said = sym (word-agrees str_to_ascii_lowercase in_lower_case (all_of l) one.0)
      ∙ ap (with_word (all_of l)) one.2 ∙ says in
      subst (Goes now t (all_of l)) (sym one.1)
      (goes now t (all_of l) (Letters one.0) [] (λ end. absurd cc) (subst (λ (o : Option Fields). After now t o []) (sym same) go))

  -- the zones of mail
  gone : (minutes : ℤ) → l.offset ≡ pos 60 *ℤ minutes → After now t (Some (zoned minutes)) []
  unfolding tokens
  gone minutes e = over now t (zoned minutes) (zoned-fits minutes e)

  zone-goes : (x : List ℕ) → named_zone x ≡ Some l.offset → Goes now t (all_of l) (tokens x)
  unfolding named_zone tokens with_word month_of_word is_weekday weekday_of_word zone_named
  zone-goes x e =
      let G = Goes now t (all_of l) (tokens x) in
      let west : ℕ → ℤ = λ minutes. neg_ℤ (pos minutes) in
      by-row (is_name x (codes "ut")) _ _ _ G e (λ b o. name-goes x (codes "ut") None b refl refl tt) (λ e.
      by-row (is_name x (codes "gmt")) _ _ _ G e
      (λ b o. name-goes x (codes "gmt") (Some (zoned (pos 0))) b refl refl (gone (pos 0) (sym o))) (λ e.
      by-row (is_name x (codes "edt")) _ _ _ G e
      (λ b o. name-goes x (codes "edt") (Some (zoned (west 240))) b refl refl (gone (west 240) (sym o))) (λ e.
      by-row (is_name x (codes "est")) _ _ _ G e
      (λ b o. name-goes x (codes "est") (Some (zoned (west 300))) b refl refl (gone (west 300) (sym o))) (λ e.
      by-row (is_name x (codes "cdt")) _ _ _ G e
      (λ b o. name-goes x (codes "cdt") (Some (zoned (west 300))) b refl refl (gone (west 300) (sym o))) (λ e.
      by-row (is_name x (codes "cst")) _ _ _ G e
      (λ b o. name-goes x (codes "cst") (Some (zoned (west 360))) b refl refl (gone (west 360) (sym o))) (λ e.
      by-row (is_name x (codes "mdt")) _ _ _ G e
      (λ b o. name-goes x (codes "mdt") (Some (zoned (west 360))) b refl refl (gone (west 360) (sym o))) (λ e.
      by-row (is_name x (codes "mst")) _ _ _ G e
      (λ b o. name-goes x (codes "mst") (Some (zoned (west 420))) b refl refl (gone (west 420) (sym o))) (λ e.
      by-row (is_name x (codes "pdt")) _ _ _ G e
      (λ b o. name-goes x (codes "pdt") (Some (zoned (west 420))) b refl refl (gone (west 420) (sym o))) (λ e.
      by-row (is_name x (codes "pst")) _ _ _ G e
      (λ b o. name-goes x (codes "pst") (Some (zoned (west 480))) b refl refl (gone (west 480) (sym o))) (λ e. absurd cc))))))))))

  digits-goes : (x : List ℕ) → rfc2822_offset x ≡ Some l.offset → Goes now t (all_of l) (tokens x)
  unfolding rfc2822_offset
  digits-goes x e =
      let fields = went (offset_fields x) (λ y. cond (is_some y.seconds) None (jiff_offset y)) l.offset e in
      let g = guard (is_jiff_offset fields.0) (offset_of fields.0) l.offset
      (no-seconds (is_some fields.0.seconds) (jiff_offset fields.0) fields.2) in
      subst (λ (y : List ℕ). Goes now t (all_of l) (tokens y)) (append-nil x)
      (offset-goes now t (all_of l) fields.0 x [] (offset-taken x fields.0 fields.1) (is.offset ∙ sym g.1) tt (stop now t l is f late)
      (ready now t l is f late))
    where
      no-seconds : (b : Bool) (o : Option ℤ) → cond b None o ≡ Some l.offset → o ≡ Some l.offset
      no-seconds true o e = absurd cc
      no-seconds false o e = e

  module _ (M : List ℕ → Type 0) (text : List ℕ) where
    pub zone-part : (p : BeginsWith Rfc2822Offset l M text) → p.rest ≡ [] → Goes now t (all_of l) (tokens text)
    unfolding rfc2822_zone
    zone-part p e =
        subst (λ (x : List ℕ). Goes now t (all_of l) (tokens x)) (sym (p.whole ∙ ap (λ (x : List ℕ). p.front ++ x) e ∙ append-nil p.front))
        (elim (first-or (rfc2822_offset p.front) (named_zone p.front) l.offset p.is)
        [ inl h ↦ digits-goes p.front h | inr h ↦ zone-goes p.front h ])

    -- a clock with seconds or without
    pub mail-clock-part : (g : Fields) (p : BeginsWith Rfc2822Clock l M text) → HasNoLeapSecond text → IsSpaced (tokens p.rest)
        → g.offset ≡ None
        → Goes now t (record g { hour = Some l.clock.hour; minute = Some l.clock.minute; second = Some l.clock.second }) (tokens p.rest)
        → Goes now t g (tokens text)
    mail-clock-part g p free s none go = elim p.is [
      | inl k ↦ clock-part now t l is f late M text g (record { front = p.front; rest = p.rest; whole = p.whole; is = k; more = p.more })
          space s.more free s.is refl none go
      | inr k ↦ minutes k
    ]
      where
        minutes : AreMinutes p.front l.clock → Goes now t g (tokens text)
        minutes k =
            let next : ℕ → Fields = λ second. record g { hour = Some l.clock.hour; minute = Some l.clock.minute; second = Some second } in
            let a = (field-is k.hour l.clock.hour k.is_hour).0 in
            let b = (field-is k.minute l.clock.minute k.is_minute).0 in
            let whole = ap tokens (append_assoc k.hour (colon ∷ k.minute) p.rest)
            ∙ two-numbers colon k.hour k.minute p.rest l.clock.hour l.clock.minute (Mark space ∷ s.more) refl refl a b s.is tt in
            subst (λ (x : List ℕ). Goes now t g (tokens x)) (sym (p.whole ∙ ap (λ (x : List ℕ). x ++ p.rest) k.whole))
            (piece now t l is f late g (k.hour ++ (colon ∷ k.minute)) p.rest (Digits k.hour)
            (Mark colon ∷ Digits k.minute ∷ Mark space ∷ s.more) whole none
            (subst (Step now t) (sym (pair-rule now g k.hour k.minute l.clock.hour l.clock.minute s.more a.is b.is f.hour f.minute))
            (subst (λ (second : ℕ). Goes now t (next second) (Mark space ∷ s.more)) k.at_its_start
            (subst (Goes now t (next l.clock.second)) s.is go))))

    -- the name of the day and a comma, or nothing
    pub prefix-part : (p : BeginsWith Rfc2822DayName l M text)
        → ((month : Option ℕ) → Goes now t (record unknown { month = month }) (tokens p.rest)) → Goes now t unknown (tokens text)
    prefix-part p go = elim p.is [
      | inl e ↦ subst (λ (x : List ℕ). Goes now t unknown (tokens x)) (sym (p.whole ∙ ap (λ (x : List ℕ). x ++ p.rest) e)) (go None)
      | inr k ↦
          let rest = comma ∷ (k.gap ++ p.rest) in
          let whole : text ≡ k.name ++ rest = p.whole ∙ ap (λ (x : List ℕ). x ++ p.rest) k.whole
          ∙ append_assoc k.name (comma ∷ k.gap) p.rest in
          let named : BeginsWith DayName l (λ x. Unit {0}) text =
          record { front = k.name; rest = rest; whole = whole; is = k.is_name; more = tt } in
          weekday-part now t l is f late (λ x. Unit {0}) text named comma (tokens (k.gap ++ p.rest))
          (mark-first comma (k.gap ++ p.rest) refl refl)
          (λ any. skip now t (record unknown { month = any }) (comma ∷ k.gap) p.rest (comma-quiet, gap-quiet k.gap k.are_spaces)
          (no-offset now t _ refl) (go any))
    ]

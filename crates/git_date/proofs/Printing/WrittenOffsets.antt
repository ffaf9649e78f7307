-- What a time has that is made of a line's, and the pieces of a mail's date.
use Rattle.std.proofs.Common.{refl, ◌≡◌, ◌≢◌, ◌≤◌, ◌<◌, ◌++◌, ℕ, ℤ, pos, Bool, true, false, List, arith}
use Rattle.std.proofs.Common.{cond, ap, ◌∙◌, decimal, append_assoc, [], ◌∷◌, unsigned_abs, nat_lt, Result, Ok, Err}
use Rattle.gix_date.specs.declared.time.Time.{Time}
use Rattle.std.specs.Int.Signed.{lt_z}
use Rattle.gix_signature.specs.Ident.Times.{time_of_git, minutes_told, widest_minutes}
use Rattle.gix_signature.specs.declared.error.IdentFault.{IdentFault}
use Rattle.gix_signature.specs.declared.ident.GitTime.{GitTime}
use Rattle.gix_date.specs.Fields.FieldTexts.{four_digits, clock_text}
use Rattle.gix_date.specs.Fields.Layout.{LocalTime, print_pieces}
use Rattle.gix_date.specs.Text.Characters.{comma, space}
use Rattle.gix_date.specs.Text.Names.{day_name, month_name}
use Rattle.git_date.specs.Show.Clocks.{Moment}
use Rattle.git_date.specs.Show.OwnDates.{short_decimals, is_without_offset, own_clock_shown, own_date_shown_by, rfc2822_front}
use Rattle.git_date.specs.Show.OwnDates.{before_day, then_month}
use Rattle.git_date.specs.declared.mode.DateKind.{DateKind}
use Rattle.git_date.specs.declared.mode.DateKind.TheVariants.{Relative, Human, Raw, Unix}

-- a time that is made of a line's has its seconds, and its offset is short
of-choice : (b : Bool) (n : ℕ) (fault : IdentFault) (u t : Time) → (nat_lt 35_791_394 n ≡ b)
    → ◌≡◌ {A = Result Time IdentFault} (Ok t) (cond b (Err fault) (Ok u)) → (n ≤ 35_791_394) × (t ≡ u)
of-choice true n fault u t h e = cc
of-choice false n fault u t h e = (grind arith, cc)

made : (g : GitTime) (t : Time) → Ok t ≡ time_of_git g → (minutes_told (unsigned_abs g.offset) ≤ 35_791_394) × (t.seconds ≡ g.seconds)
unfolding time_of_git
made g t e =
    let parts =
    of-choice (nat_lt widest_minutes (minutes_told (unsigned_abs g.offset))) (minutes_told (unsigned_abs g.offset)) _ _ t refl e in
    (parts.0, ap (λ (x : Time). x.seconds) parts.1)

pub made_seconds : (g : GitTime) (t : Time) → Ok t ≡ time_of_git g → lt_z g.seconds (pos 0) ≡ false → lt_z t.seconds (pos 0) ≡ false
made_seconds g t e h = ap (λ (s : ℤ). lt_z s (pos 0)) (made g t e).1 ∙ h

pub made_short : (g : GitTime) (t : Time) → Ok t ≡ time_of_git g → unsigned_abs g.offset < short_decimals
made_short g t e = omega (arith, (made g t e).0)

-- the kinds that show a line's clock and nothing else
pub by_clock : (kind : DateKind) (now : Moment) (t : GitTime) → is_without_offset kind ≡ false → kind ≢ Human → kind ≢ Raw
    → own_date_shown_by kind now t ≡ own_clock_shown kind t
by_clock Relative now t w nh nr = cc
by_clock Human now t w nh nr = absurd (nh refl)
by_clock Raw now t w nh nr = absurd (nr refl)
by_clock Unix now t w nh nr = cc
by_clock kind now t w nh nr = refl

-- what was appended piece by piece was appended at once
joined : (x name day month year clock : List ℕ)
    → ((((x ++ name) ++ day) ++ month) ++ year) ++ clock ≡ x ++ (name ++ (day ++ (month ++ (year ++ clock))))
joined x name day month year clock = simp append_assoc

pub front_is : (x : List ℕ) (t : LocalTime)
    → then_month ((x ++ before_day t) ++ decimal t.date.day) t ≡ x ++ print_pieces decimal rfc2822_front t
unfolding then_month before_day
front_is x t =
    joined x (day_name t.weekday ++ comma ∷ space ∷ []) (decimal t.date.day) (space ∷ month_name t.date.month)
    (space ∷ four_digits t.date.year) (space ∷ clock_text t.clock)

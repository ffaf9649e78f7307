-- Laws of dates as Git shows them.
use Rattle.std.proofs.Common.{arith}
use Rattle.std.proofs.Common.{◌≡◌, ◌≢◌, ℕ, Bool, true, false, cond, List, Option, Some, None, option_map, refl}
use Rattle.std.proofs.lemmas.Bool.{false_from_ne_true}
use Rattle.gix_date.specs.Printing.LocalClocks.{clock_of}
use Rattle.gix_date.specs.Printing.NamedTexts.{default_text}
use Rattle.gix_date.specs.declared.time.Time.{Time}
use Rattle.git_date.specs.Show.Clocks.{own_clock}
use Rattle.git_date.specs.Show.Texts.{git_default_text, unknown_offset}

-- printers
pub when-shown : (past : Bool) (x : Option (List ℕ)) (text : List ℕ) → cond past None x ≡ Some text → (past ≡ false) × (x ≡ Some text)
when-shown true x text e = (cc, cc)
when-shown false x text e = (refl, e)

pub mapped : {A : Type 0} (show : A → List ℕ) (b : Bool) (clock : A) (text : List ℕ)
    → option_map show (cond b (Some clock) None) ≡ Some text → (b ≡ true) × (show clock ≡ text)
mapped show true clock text e = (refl, cc)
mapped show false clock text e = (cc, cc)

-- a known offset is shown after the default date
known-default : (t : Time) → t.offset ≢ unknown_offset → git_default_text false (clock_of t) ≡ default_text (clock_of t)
unfolding clock_of
known-default t other = grind (arith, false_from_ne_true)

pub default-mapped : (t : Time) (text : List ℕ) → t.offset ≢ unknown_offset → option_map (git_default_text false) (own_clock t) ≡ Some text
    → option_map default_text (own_clock t) ≡ Some text
unfolding own_clock
default-mapped t text other e = grind (arith, known-default)

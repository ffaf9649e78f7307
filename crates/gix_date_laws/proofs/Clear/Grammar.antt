-- The texts that are clear at each place are the careful ones.
use Rattle.std.proofs.Common.{arith}
use Rattle.std.proofs.Common.{◌≡◌, ◌∙◌, ◌↔◌, ℕ, ℤ, false, List, ap, sym, Option, Some, None}
use Rattle.gix_date.specs.Careful.Grammar.{IsCarefulOf, IsCarefulText, words_of}
use Rattle.gix_date.specs.Careful.Texts.{unclear_place}
use Rattle.gix_date.specs.Families.Answer.{FamilyAnswer, Relative}
use Rattle.gix_date.specs.Relative.Words.{PeriodUnit}
use Rattle.gix_date.specs.Relative.Dates.{MinusPairs}
use Rattle.gix_date.specs.Relative.Roles.{pairs}
use Rattle.gix_date_laws.proofs.Clear.Pieces.{cut-of, scan-is}
use Rattle.gix_date_laws.proofs.Clear.Scan.{scan, clear-scan, scan-clear}
use Rattle.gix_date_laws.proofs.Clear.Words.{words-are, are-words}

pub careful-text : (text : List ℕ) → unclear_place text ≡ None → IsCarefulText text
careful-text text e =
    let h = clear-scan text e in
    let o = cut-of text h in
    let words =
    words-are (words_of o.pieces) (sym (scan-is o.front o.pieces o.separated o.apart) ∙ ap (scan None false) (sym o.whole) ∙ h) in
    (words.0, record { front = o.front; pieces = o.pieces; whole = o.whole; separated = o.separated; apart = o.apart; words = words.1 })

pub text-careful : (text : List ℕ) (pairs : List (ℤ × PeriodUnit)) → IsCarefulOf text pairs → unclear_place text ≡ None
text-careful text pairs o = grind (arith, scan-clear, scan, scan-is, are-words)

pub careful-spelled : (text : List ℕ) → (unclear_place text ≡ None) ↔ IsCarefulText text
careful-spelled text = (careful-text text, λ q. text-careful text q.0 q.1)

abbrev pub PairsAnswer : List (ℤ × PeriodUnit) → Option FamilyAnswer
PairsAnswer pairs = Some (Relative (MinusPairs pairs))

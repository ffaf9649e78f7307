use Rattle.std.proofs.Common.{◌≡◌, ◌∙◌, ℕ, List, ◌++◌, Option, Some, None, IfNone, codes, ap, sym, subst, rules}
use Rattle.std.proofs.lemmas.List.{append_cancel_left}
use Rattle.gix_date.specs.Header.Reading.{header_time}
use Rattle.gix_date.specs.declared.time.Time.{Time}
use Rattle.gix_signature.specs.Signature.{Parts, IsCut, OneCut, parts_of}
use Rattle.gix_date_callers.specs.Authored.{IsAuthored}
use Rattle.gix_date_callers.proofs.header_caller.author_time.Goals as goal

-- the one cut of the line says no time
no-time : (r : Option Time) (line author : List ℕ) (s : Parts) → r ≡ header_time s.time → line ≡ codes "author " ++ author → IsCut author s
    → OneCut author
    → IfNone r ((p : Parts) → IsAuthored line p → header_time p.time ≡ None)
no-time (Some t) line author s e whole cut one = tt
no-time None line author s e whole cut one = λ p a.
    let same = append_cancel_left (codes "author ") a.signature author (sym a.whole ∙ whole) in
    let parts = one p s (subst (λ x. IsCut x p) same a.cut) cut in
    ap (λ (q : Parts). header_time q.time) parts ∙ sym e

pub returns-clause-none : goal.returns-clause-none
returns-clause-none c =
    let author = c.in_ok-author.author.now in
    let whole : c.args.line.now ≡ codes "author " ++ author = search rules in
    no-time c.time_of.result c.args.line.now author (parts_of c.in_ok-from_line.field-0) c.time_of.ensures whole c.in_ok-from_line.ensures
    c.one_cut.ensures

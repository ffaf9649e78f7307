-- What is written of a signature line's parts.
use Rattle.std.proofs.Common.{arith}
use Rattle.std.proofs.Common.{◌≡◌, ◌∙◌, ℕ, List, [], Option, Some, None, Result, Ok, Err, ok_or, option_map, unwrap_or, sym, ap}
use Rattle.gix_date.specs.Header.Reading.{header_time}
use Rattle.gix_date.specs.Header.Text.{header_text}
use Rattle.gix_date.specs.Header.TimeBuf.{HoldsText}
use Rattle.gix_date.specs.declared.error.Error.{Error}
use Rattle.gix_date.specs.declared.time.Time.{Time}
use Rattle.gix_date.proofs.Header.HeaderTexts.{no-text-held}
use Rattle.gix_signature.specs.Signature.{HasNoCut, Parts, IsCut, line_of, parts_of}
use Rattle.gix_signature.specs.Writing.{line_due}
use Rattle.gix_signature.specs.declared.error.SignatureError.{SignatureError}
use Rattle.gix_signature.specs.declared.error.SignatureError.TheVariants.{OffsetTooWide}
use Rattle.gix_signature.specs.declared.lines.SignatureRef.{SignatureRef}
use Rattle.gix_date.specs.declared.parsing.TimeBuf.{TimeBuf}
use Rattle.gix_signature.proofs.Cuts.{the_cut, plain}
use Rattle.gix_signature.proofs.Written.{due-is}
use Rattle.gix_date_tool.specs.Signed.{IsSigned, IsUnsigned}

abbrev ok-line : Result (List ℕ) SignatureError → List ℕ
ok-line (Ok line) = line
ok-line (Err e) = []

pub same-line : (x y : List ℕ) → ◌≡◌ {A = Result (List ℕ) SignatureError} (Ok x) (Ok y) → x ≡ y
same-line x y e = ap ok-line e

same-time : (t r : Time) → Some t ≡ Some r → t ≡ r
same-time t r e = ap (λ o. unwrap_or o t) e

-- a text is written again as one line
pub signed-once : (text a b : List ℕ) → IsSigned text a → IsSigned text b → a ≡ b
signed-once text a b h g = grind (arith, the_cut, same-time, same-line)

-- one without a cut is not
pub no_cut_unsigned : (text : List ℕ) → HasNoCut text → IsUnsigned text
unfolding IsUnsigned
no_cut_unsigned text none line h = none h.parts h.cut

-- one from whose last part no time is read is not
no-time-unsigned : (text : List ℕ) (p : Parts) → IsCut text p → header_time p.time ≡ None → IsUnsigned text
unfolding IsUnsigned
no-time-unsigned text p cut none line h =
    let clash : Some h.time ≡ None = sym h.read ∙ ap (λ (q : Parts). header_time q.time) (the_cut text h.parts p h.cut.whole cut) ∙ none in
    absurd cc

pub no_time_unsigned : (text : List ℕ) (s : SignatureRef) (found : Option Time) → IsCut text (parts_of s) → found ≡ header_time s.time.now
    → found ≡ None → IsUnsigned text
no_time_unsigned text s found cut read none = no-time-unsigned text (parts_of s) cut (sym read ∙ none)

-- what is due of the parts of a line, by what text their time has
pub due-of : (text : List ℕ) (p : Parts) (t : Time) (o : Option (List ℕ)) → IsCut text p → header_text t ≡ o
    → line_due p.name p.email t
    ≡ ok_or (option_map line_of (option_map (λ x. record { name = p.name; email = p.email; time = x }) o)) OffsetTooWide
due-of text p t o cut e = grind (arith, plain, due-is)

-- nor is one whose time has no header text
wide-unsigned : (text : List ℕ) (p : Parts) (t : Time) (refusal : Error) → IsCut text p → header_time p.time ≡ Some t
    → HoldsText t (Err refusal) → IsUnsigned text
unfolding IsUnsigned
wide-unsigned text p t refusal cut read refused line h =
    let wide : header_text t ≡ None = no-text-held t refusal refused in
    let parts = the_cut text h.parts p h.cut.whole cut in
    let times : h.time ≡ t = same-time h.time t (sym h.read ∙ ap (λ (q : Parts). header_time q.time) parts ∙ read) in
    let dues : line_due h.parts.name h.parts.email h.time ≡ line_due p.name p.email t =
    λ i. line_due (parts i).name (parts i).email (times i) in
    let clash : ◌≡◌ {A = Result (List ℕ) SignatureError} (Ok line) (Err OffsetTooWide) = sym h.due ∙ dues ∙ due-of text p t None cut wide in
    absurd cc

pub wide_unsigned : (text : List ℕ) (s : SignatureRef) (found : Option Time) (t : Time) (held : Result TimeBuf Error) (refusal : Error)
    → IsCut text (parts_of s)
    → found ≡ header_time s.time.now → found ≡ Some t → HoldsText t held → held ≡ Err refusal → IsUnsigned text
wide_unsigned text s found t held refusal cut read is refused e =
    wide-unsigned text (parts_of s) t refusal cut (sym read ∙ is) (rw e at refused)

-- Laws of judging lines, which a server has to have.
use Rattle.std.proofs.Common.{◌≡◌, true, false, Bool, ℕ, List, [], ◌∷◌, ◌++◌, ◌&&◌, refl, sym, ap, ◌∙◌, subst, append_assoc, Ok, Err}
use Rattle.std.proofs.lemmas.List.Concat.{flat_map-append}
use Rattle.std.proofs.lemmas.List.Folds.{list_all-append}
use Rattle.std.specs.List.{list_all}
use Rattle.gix_date.specs.Devices.StreamState.{StreamState, Takes, TakesProperPrefix}
use Rattle.gix_date.proofs.Text.KnownBytes.{Appends-append, Cut-after}
use Rattle.streams.specs.Changes.{change}
use Rattle.streams.specs.Serving.{Joins, Stays}
use Rattle.streams.specs.declared.error.ToolError.{ToolError}
use Rattle.streams.specs.declared.error.ToolError.TheVariants as errors
use Rattle.streams.proofs.Sending.{Appends-nil}
use Rattle.git_ident_tool.specs.Lines.{BreaksAt, JudgesTo, texts_due}
use Rattle.git_ident_tool.specs.Verdicts.{is_clean, text_due}
use Rattle.git_ident_tool.specs.declared.judging.Judging.{Judging}
use Rattle.git_ident_tool.specs.declared.verdicts.Telling.{Telling}

and_true : (a : Bool) → (a && true) ≡ a
and_true true = refl
and_true false = refl

and_assoc : (a b c : Bool) → ((a && b) && c) ≡ (a && (b && c))
and_assoc true b c = refl
and_assoc false b c = refl

-- what was written of lines, and a fault at the last of more
breaks-after : (telling : Telling) (a b c : StreamState) (lines more : List (List ℕ)) (fault : ToolError)
    → Takes a b (texts_due telling lines)
    → BreaksAt telling (change b c) more fault → BreaksAt telling (change a c) (lines ++ more) fault
breaks-after telling a b c lines more (errors.Write kind) h k = (
  subst (TakesProperPrefix a c) (sym (flat_map-append (text_due telling) lines more))
      (Cut-after a b c (texts_due telling lines) (texts_due telling more) h k.0),
  k.1,
)
breaks-after telling a b c lines more errors.Memory h k = (
  lines ++ k.0,
  k.1,
  ap (λ xs. lines ++ xs) k.2 ∙ sym (append_assoc lines k.0 (k.1 ∷ [])),
  subst (Takes a c) (sym (flat_map-append (text_due telling) lines k.0))
      (Appends-append a.bytes b.bytes c.bytes (texts_due telling lines) (texts_due telling k.0) h k.3),
)
breaks-after telling a b c lines more (errors.Read kind) h k = absurd k
breaks-after telling a b c lines more errors.LineTooLong h k = absurd k
breaks-after telling a b c lines more errors.TooManyLines h k = absurd k

-- no line changes nothing
pub no_lines : Stays JudgesTo
no_lines s = (Appends-nil s.out.bytes, ap (λ clean. record s.server { clean = clean }) (sym (and_true s.server.clean)))

-- some lines, and then more
pub more_lines : Joins JudgesTo
more_lines a b c lines more (Ok u) h k =
    let telling = a.server.judge.telling in
    let same = ap (λ (s : Judging). s.judge.telling) h.1 in
    let next = subst (λ t. Takes b.out c.out (texts_due t more)) same k.0 in (
      subst (Takes a.out c.out) (sym (flat_map-append (text_due telling) lines more))
          (Appends-append a.out.bytes b.out.bytes c.out.bytes (texts_due telling lines) (texts_due telling more) h.0 next),
      k.1 ∙ ap (λ (s : Judging). record s { clean = s.clean && list_all is_clean more }) h.1
          ∙ ap (λ clean. record a.server { clean = clean }) (and_assoc a.server.clean (list_all is_clean lines) (list_all is_clean more)
          ∙ ap (λ x. a.server.clean && x) (sym (list_all-append is_clean lines more))),
    )
more_lines a b c lines more (Err fault) h k =
    let same = ap (λ (s : Judging). s.judge.telling) h.1 in
    breaks-after a.server.judge.telling a.out b.out c.out lines more fault h.0
    (subst (λ t. BreaksAt t (change b.out c.out) more fault) same k)

-- `to_str` passes its buffer and its time on to `TimeBuf::write_text`, and its result to `or_too_wide`. What `write_text`
-- promises of `ok_or result OffsetTooWide` is what `to_str` promises of its result.
use Rattle.std.proofs.Common.{[], ◌∷◌, refl, sym}
use Rattle.std.proofs.raw_atomic.Walks.{proved, leaves}
use base.Logic.{id⊢}
use base.Fml.{ftrue, flft}
use mir.Syntax.{named}
use contract.Monad.{fact}
use contract.Running.{tables}
use types.Kit.{‵, raw, ◌⊛◌, some, later, ◌$◌, ◌∵◌, !, qed, done, move, keep, drop, use1, use2, split, join, pick, await, rewrite, suffices}
use types.Run.{enter, addr, stop, no_more, and_then, returns}
use types.ByLocal.{alloc_all, pass_all, free_all, look_at, get, through, sets, lands_as}
use denote.Exit.{yes, no}
use denote.Enum.Loose.{loose_lawful}
use denote.Laws.{Is, shows}
use denote.Ref.{MutRef, ShrRef, mut_vals, mut_Tells, shr_vals, shr_Tells}
use denote.Signature.{plain, type_at, shr_ref_to, named_lft}
use denote.Steps.{nothing, heard, peeks}
use denote.Text.{str-field}
use denote.Triple.Call.{calls_at}
use denote.Triple.Clauses.{Lasts, lasts, at_exit}
use denote.Triple.Entry.{Res}
use denote.Triple.Spec.{triple_of}
use denote.Triple.Table.{framed}
use denote.Triple.Walked.{Stays, walk_of, stay_dropped, Goes-dropped, Goes-spent_ref}
use borrow.Table.Str.{str_laws}
use Rattle.std.specs.Prelude.{◌≡◌, ok_or}
use Rattle.std.specs.contracts.option.Option as Option
use Rattle.std.proofs.option.Option.TheLaws as Option-laws
use Rattle.std.specs.contracts.result.Result as Result
use Rattle.std.proofs.result.Result.TheLaws as Result-laws
use Rattle.gix_date.specs.declared.error.Error.TheVariants.{OffsetTooWide}
use Rattle.gix_date.specs.contracts.error.Error as Error
use Rattle.gix_date.proofs.error.Error.TheLaws as Error-laws
use Rattle.gix_date.specs.contracts.time.Time as Time
use Rattle.gix_date.specs.contracts.parsing.TimeBuf as TimeBuf
use Rattle.gix_date.specs.contracts.time.Time.to_str as f
use Rattle.gix_date.proofs.time.Time.to_str.Statement.{statement}
use Rattle.gix_date.proofs.time.Time.to_str.Code as code
use Rattle.gix_date.specs.contracts.parsing.TimeBuf.write_text as g
use Rattle.gix_date.proofs.parsing.TimeBuf.write_text.Met.{met}
use Rattle.gix_date.specs.contracts.parsing.or_too_wide as h
use Rattle.gix_date.proofs.parsing.or_too_wide.Met.{met as met-h}

abbrev stayed : Stays f.ended.signature.params f.ended.kept
stayed = (stay_dropped _ yes, (stay_dropped _ no, tt))

pub to_str_spec : {M : Type 1} → statement M
to_str_spec 𝓤 𝓛 𝓜 𝓡 wired =
    let c = f.clauses 𝓛 𝓜.mem 𝓡.returns in let W = walk_of 𝓛 f.ended stayed c in
    proved 𝓛 f.ended stayed c 𝓜 𝓡 (
      Goes-dropped 𝓛 2 (shr_ref_to (0 ∷ []) tt (plain (λ _. Time.the_row))) yes (λ κs x w. refl),
      (Goes-spent_ref 𝓛 2 (1 ∷ []) tt (plain (λ _. TimeBuf.the_row)), tt),
    )
    f.Key.name code.function (code.unfolded 𝓤 𝓛.H 𝓜 𝓡 wired)
    (λ κs. (shr_vals, (mut_vals, tt))) (λ κs. (shr_Tells (named 0) κs.0 Time.the_row, (mut_Tells (named 1) κs.1.0 TimeBuf.the_row, tt)))
    (λ κs qs bounds a _ are.
    let self = a.0 in let buf = a.1.0 in
    let G = triple_of 𝓛 g.signature (g.spec 𝓛 𝓜.mem 𝓡.returns) in
    let y : W.Ghost = ((κs, qs, bounds, a, (shr_vals self, (mut_vals buf, tt))), tt) in
    let z : G.Ghost = (((κs.1.0, (κs.0, tt)), (qs.1.0, (qs.0, tt)), bounds, (buf, (self, tt)), (mut_vals buf, (shr_vals self, tt))), tt) in
    let O = type_at g.signature.result z.0.0 in
    let R = type_at f.signature.result κs in
    let promises : Res f.signature κs → _ = λ r. (c κs a).ensures tt r (at_exit f.ended κs a (tt, (tt, tt))) in
    let ℓ = named_lft 2 1 tt κs in
    qed 𝓛 (((‵ (flft κs.0 qs.0) ⊛ ‵ (flft κs.1.0 qs.1.0) ⊛ ‵ ftrue) ⊛ ‵ ((ShrRef (named 0) κs.0 Time.the_row).own_val self (shr_vals self))
    ⊛ ‵ ((MutRef (named 1) κs.1.0 TimeBuf.the_row).own_val buf (mut_vals buf)) ⊛ ‵ ftrue) ∷ ‵ ftrue ∷ []) ∵
    split ! $ move ! (1 ∷ []) $ split ! $ move ! (1 ∷ []) $ split ! $ move ! (3 ∷ []) $ split ! $ move ! (1 ∷ []) $ split ! $
    keep ! (3 ∷ 5 ∷ 2 ∷ 0 ∷ []) $
    -- [the buffer; the time; the token of the time's lifetime; the token of the buffer's]
    enter ! _ _ _ _ _ $ alloc_all ! (λ l. pass_all ! refl ((tt, tt), ((tt, tt), tt)) $
    sets ! (addr ! (through ! refl (stop !))) refl (tt, tt) $
    nothing ! $ move ! (2 ∷ 0 ∷ []) $ join ! $ move ! (1 ∷ 0 ∷ []) $ join ! $
    -- [the arguments; the token of the time's lifetime; the token of the buffer's]
    nothing ! $ move ! (2 ∷ 0 ∷ []) $ join ! $ move ! (2 ∷ 0 ∷ []) $ join ! $ join ! $
    nothing ! $ move ! (1 ∷ 0 ∷ []) $ use2 𝓛 (raw (G.pre z)) (id⊢ 𝓤 _) $
    calls_at ! (framed 𝓤 𝓛.H 𝓜 (tables 𝓤 𝓛.H 𝓜 𝓡 𝓡.env)) G (met 𝓤 𝓛 𝓜 𝓡 (code.calls-gix_date::parsing::TimeBuf::write_text 𝓡.env wired)) z
    (and_then ! (get ! refl) (and_then ! (get ! refl) (no_more !))) (λ u.
    use1 𝓛
    (later (some (λ (o : Res g.signature z.0.0). ((‵ (flft κs.1.0 qs.1.0) ⊛ ‵ (flft κs.0 qs.0) ⊛ ‵ ftrue) ⊛ ‵ (O.own_val o (u ∷ []))) ⊛
    some (λ (ws : Lasts g.ended z.0.0 z.0.3). ‵ (lasts g.ended z.0.0 z.0.3 ws) ⊛ raw (promises (ok_or o OffsetTooWide)))))) (id⊢ 𝓤 _) $
    await ! tt $ pick ! (λ o. split ! $ split ! $ move ! (2 ∷ []) $ pick ! (λ ws. split ! $ drop ! $
    -- [the promises; the tokens; the text, if there is one]
    move ! (1 ∷ []) $ split ! $ move ! (1 ∷ []) $ split ! $ move ! (1 ∷ []) $ drop ! $ move ! (3 ∷ 2 ∷ 0 ∷ 1 ∷ []) $
    -- [the text, if there is one; the promises; the token of the time's lifetime; the token of the buffer's]
    peeks ! O (Is O) (shows 𝓛 O) o (u ∷ []) (λ is_option.
    lands_as ! refl refl (((loose_lawful (Option.the_type (str-field ℓ).row)
    (Option-laws.the_loose (str-field ℓ).row (str_laws ℓ)) tt 𝓛).typed o (u ∷ []) is_option).0) $
    nothing ! $ move ! (1 ∷ 0 ∷ []) $ join ! $ nothing ! $ move ! (4 ∷ 0 ∷ []) $ join ! $ join ! $
    -- [the arguments; the promises; the token of the time's lifetime]
    let H = triple_of 𝓛 h.signature (h.spec 𝓛 𝓜.mem 𝓡.returns) in
    let x : H.Ghost = (((κs.1.0, tt), (qs.1.0, tt), tt, (o, tt), (u ∷ [], tt)), tt) in
    nothing ! $ move ! (1 ∷ 0 ∷ []) $ use2 𝓛 (raw (H.pre x)) (id⊢ 𝓤 _) $
    calls_at ! (framed 𝓤 𝓛.H 𝓜 (tables 𝓤 𝓛.H 𝓜 𝓡 𝓡.env)) H (met-h 𝓤 𝓛 𝓜 𝓡 (code.calls-gix_date::parsing::or_too_wide 𝓡.env wired)) x
    (and_then ! (get ! refl) (no_more !)) (λ v.
    use1 𝓛 (later (some (λ (r : Res f.signature κs). ((‵ (flft κs.1.0 qs.1.0) ⊛ ‵ ftrue) ⊛ ‵ (R.own_val r (v ∷ []))) ⊛
    some (λ (ws : Lasts h.ended x.0.0 x.0.3). ‵ (lasts h.ended x.0.0 x.0.3 ws) ⊛ raw (fact 𝓤 (r ≡ ok_or o OffsetTooWide)))))) (id⊢ 𝓤 _) $
    await ! tt $ pick ! (λ r. split ! $ split ! $ move ! (2 ∷ []) $ pick ! (λ ws. split ! $ drop ! $ heard ! _ (λ is_result.
    -- [the token of the buffer's lifetime; the result; the promises; the token of the time's]
    split ! $ move ! (1 ∷ []) $ drop ! $ rewrite ! 2 (λ (r : Res f.signature κs). raw (promises r)) (sym is_result) refl
    $ move ! (1 ∷ 2 ∷ 3 ∷ 0 ∷ []) $
    -- [the result; the promises; the token of the time's lifetime; the token of the buffer's]
    peeks ! R (Is R) (shows 𝓛 R) r (v ∷ []) (λ is.
    lands_as ! refl refl (((loose_lawful (Result.the_type (str-field ℓ).row Error.the_row)
    (Result-laws.the_loose (str-field ℓ).row Error.the_row (str_laws ℓ) Error-laws.the_row_laws) tt 𝓛).typed r (v ∷ []) is).0) $
    returns ! (look_at ! 0 refl) $ free_all ! refl $
    suffices ! _ (leaves 𝓛 f.ended stayed c y v r (tt, (tt, tt)) (tt, (tt, tt))) $
    join ! $ nothing ! $ nothing ! $ join ! $ nothing ! $ join ! $ join ! $
    nothing ! $ move ! (3 ∷ 0 ∷ []) $ join ! $ move ! (2 ∷ 0 ∷ []) $ join ! $ join ! $ done !)))))))))))

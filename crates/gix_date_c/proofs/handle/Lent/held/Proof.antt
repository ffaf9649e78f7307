-- `held` reads the pointer, and hands it out as a `&` to the zone, which lasts as long as the `&` to what C shows.
use mathlib.Core.Path.{◌≡◌, refl, sym, ap}
use mathlib.Core.List.{List, [], ◌∷◌}
use mir.Syntax.{named}
use mir.Val.{Val, vptr}
use base.Fml.{ftrue, fsep, flft}
use contract.Monad.{fact}
use contract.Running.{tables}
use types.Kit.{‵, raw, ◌⊛◌, later, at_ret, ◌$◌, ◌∵◌, !, qed, move, keep, use1, use2, split, join, fsplit, fjoin, feq_i, await, rewrite}
use types.Kit.{suffices, frame, done}
use types.Part.{whole, sub, look_in}
use types.Run.{stop, fld, addr, load, of_opd, first, blocks, exec, returns, enter}
use types.ByLocal.{alloc_all, pass_all, free_all, look_at, get, through, sets, sets_last, is, env}
use denote.Builtin.{RefOf}
use denote.Exit.{yes}
use denote.Laws.{Is, shows}
use denote.Memory.{cell_at}
use denote.Opens.{shr_dup}
use denote.RawPtr.{InBlock, block_of, count_of, at_block, ptr_val}
use denote.Ref.{ShrRef, shr_vals, shr_Tells}
use denote.Signature.{plain}
use denote.Steps.{nothing, heard, peeks, looks, shuts}
use denote.Struct.Lending.{in_block_says}
use denote.Triple.Walked.{says, Stays, stay_dropped, walk_of, ends_at, Goes-dropped}
use Rattle.std.specs.Prelude.{Some}
use Rattle.std.proofs.raw_atomic.Walks.{proved}
use Rattle.gix_date_c.specs.contracts.zone.held.Held as held
use Rattle.gix_date_c.specs.contracts.handle.Lent.{the_row as R}
use Rattle.gix_date_c.proofs.handle.Lent.TheLaws.{lowered, lowers, the_row_laws}
use Rattle.gix_date_c.proofs.Shown.{lies, opened, shows_zone}
use Rattle.gix_date_c.specs.contracts.handle.Lent.held as f
use Rattle.gix_date_c.proofs.handle.Lent.held.Statement.{statement}
use Rattle.gix_date_c.proofs.handle.Lent.held.Code as code

abbrev dropped : Stays f.ended.signature.params f.ended.kept
dropped = (stay_dropped (RefOf (0 ∷ []) tt (plain (λ _. R)) (λ _. tt)) yes, tt)

pub held_spec : {M : Type 1} → statement M
held_spec 𝓤 𝓛 𝓜 𝓡 wired =
    let c = f.clauses 𝓛 𝓜.mem 𝓡.returns in let W = walk_of 𝓛 f.ended dropped c in let 𝓣 = tables 𝓤 𝓛.H 𝓜 𝓡 𝓡.env in
    proved 𝓛 f.ended dropped c 𝓜 𝓡 (Goes-dropped 𝓛 1 (RefOf (0 ∷ []) tt (plain (λ _. R)) (λ _. tt)) yes (λ κs x w. refl), tt)
    f.Key.name code.function (code.unfolded 𝓤 𝓛.H 𝓜 𝓡 wired)
    (λ κs. (shr_vals, tt)) (λ κs. (shr_Tells (named 0) κs.0 R, tt)) (λ κs qs bounds a _ are.
    let b = a.0.ref_ptr.0 in let o = a.0.ref_ptr.1 in let d = a.0.now in let κ = κs.0 in
    let y : W.Ghost = ((κs, qs, bounds, a, (shr_vals a.0, tt)), tt) in
    let Holds : Type 0 = (value : held.the_row.Denot) × (d.held ≡ Some value) in
    let pb = block_of d.at in let po = count_of d.at in
    qed 𝓛 (((‵ (flft κ qs.0) ⊛ ‵ ftrue) ⊛ ‵ (fsep ((ShrRef (named 0) κ R).own_val a.0 (shr_vals a.0)) ftrue)) ∷ raw (fact 𝓤 Holds) ∷ []) ∵
    move ! (1 ∷ []) $ heard ! Holds (λ holds. split ! $ split ! $ move ! (2 ∷ []) $ fsplit ! $ fsplit ! $ keep ! (1 ∷ 3 ∷ []) $
    enter ! _ _ _ _ _ $ alloc_all ! (λ l. pass_all ! refl ((tt, tt), tt) $
    shr_dup ! R the_row_laws.shr_laws d b o κ $ move ! (0 ∷ 2 ∷ []) $
    use2 𝓛 (later (‵ (lies κ d.at holds.0) ⊛ ‵ (flft κ qs.0))) (shows_zone 𝓛 κ d holds.0 holds.1 b o qs.0) $ await ! tt $ split ! $
    fsplit ! $ use1 𝓛 (raw (fact 𝓤 (InBlock d.at))) (in_block_says 𝓛 d.at) $ heard ! (InBlock d.at) (λ inb.
    -- [the zone; the token; the `&` to what C shows]
    move ! (2 ∷ 1 ∷ []) $ looks ! tt R (opened 𝓛) d b o (λ q vs. move ! (1 ∷ []) $ peeks ! R (Is R) (shows 𝓛 R) d vs (λ shown.
    let ev : vs ≡ lowered d ∷ [] = lowers.val_is d vs shown in
    rewrite ! 1 (λ (ws : List Val). ‵ (cell_at q R.mir ws b o)) ev refl $ first ! $ blocks ! $
    sets ! (is ! (of_opd ! (load ! (through ! refl (fld ! refl (stop !))) (look_in ! 1 (sub ! 0 refl (whole !)))))
    (ap ptr_val (at_block d.at inb))) refl (tt, tt) $
    sets ! (of_opd ! (get ! refl)) refl (tt, tt) $
    sets_last ! (addr ! (through ! refl (stop !))) refl (tt, tt) $ exec ! 𝓣.C 𝓣.Λ (env code.Mir.locals l) code.Mir.t-2 (at_ret _ (W.post y))
    $
    rewrite ! 1 (λ (ws : List Val). ‵ (cell_at q R.mir ws b o)) (sym ev) refl $ move ! (1 ∷ 0 ∷ 2 ∷ []) $ shuts ! tt R q d vs b o $
    sets ! (of_opd ! (get ! refl)) refl (tt, tt) $ move ! (0 ∷ 2 ∷ []) $
    returns ! (look_at ! 0 refl) $ free_all ! refl $ keep ! (0 ∷ 1 ∷ []) $
    suffices ! _ (ends_at 𝓛 f.ended dropped c y (vptr pb po) (record { ref_ptr = (pb, po); now = holds.0 }) (tt, tt) (tt, tt))
    $ says ! (sym holds.1) $
    nothing ! $ move ! (1 ∷ 0 ∷ []) $ join ! $ frame ! $ nothing ! $ nothing ! $ fjoin ! $ frame ! $
    feq_i ! (List Val) (vptr pb po ∷ []) (vptr pb po ∷ []) refl $ fjoin ! $ done !))))))

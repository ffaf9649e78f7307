-- `of` keeps the pointer that `into_raw` gives, and the right to free its block goes into the handle with it. That right is the same for
-- each
-- `Global`, so the handle may hold another than the box did.
use mathlib.Core.Path.{refl, ap}
use mathlib.Core.List.{[], ◌∷◌}
use base.Fraction.{full_share}
use base.Logic.{emp, id⊢}
use base.Fml.{ftrue, fsep, flft}
use contract.BorrowLft.{◌⊑◌}
use contract.Monad.{fact}
use contract.Running.{tables}
use types.Kit.{‵, raw, ◌⊛◌, some, later, ◌$◌, ◌∵◌, !, qed, move, keep, drop, use0, use1, split, join, fsplit, fjoin, feq_l, pick, await}
use types.Kit.{suffices, group, done}
use types.Part.{agg}
use types.Run.{of_opd, no_more, and_then, returns, enter}
use types.ByLocal.{alloc_all, pass_all, free_all, look_at, get, sets, lands_as}
use denote.Exit.{yes, no}
use denote.Param.NoDrop.{glues}
use denote.RawPtr.{Ptr, RawPtr, rawptr_Lawful}
use denote.Signature.{plain}
use denote.Steps.{nothing, only}
use denote.Triple.Call.{calls_at}
use denote.Triple.Clauses.{Lasts, lasts}
use denote.Triple.Spec.{triple_of}
use denote.Triple.Table.{framed}
use denote.Triple.Walked.{says, Stays, stay_dropped, walk_of, ends_at, Goes-dropped}
use Rattle.std.specs.Prelude.{Some}
use Rattle.std.proofs.raw_atomic.Walks.{proved}
use Rattle.std_heap.specs.contracts.Global as heap
use Rattle.std_heap.specs.contracts.GlobalAllocator.TheImpl.{ghosts, dict}
use Rattle.std_heap.proofs.GlobalAllocator.TheImpl.Met.{passed}
use Rattle.std_heap.proofs.Global.TheLaws as heap_laws
use Rattle.std_alloc.proofs.ResultValues.{and_tt}
use Rattle.std_alloc.proofs.boxed.Box.TheLaws as box_laws
use Rattle.std_alloc.specs.contracts.boxed.Box.into_raw as callee
use Rattle.std_alloc.proofs.boxed.Box.into_raw.Met.{met}
use Rattle.gix_date_c.specs.Handles.{held_owns}
use Rattle.gix_date_c.specs.contracts.zone.held.Held as held
use Rattle.gix_date_c.proofs.zone.held.Held.TheLaws as held_laws
use Rattle.gix_date_c.specs.contracts.handle.Handle as handle
use Rattle.gix_date_c.proofs.handle.Handle.TheLaws as handle_laws
use Rattle.gix_date_c.proofs.Boxed.{Zone, Alloc, zone_laws, alloc_laws, Boxed, boxed_laws, lets_zone_go, lets_alloc_go, zone_goes, fits}
use Rattle.gix_date_c.proofs.Boxed.{never_ends, outlive}
use Rattle.gix_date_c.specs.contracts.handle.Handle.of as f
use Rattle.gix_date_c.proofs.handle.Handle.of.Statement.{statement}
use Rattle.gix_date_c.proofs.handle.Handle.of.Code as code

abbrev dropped : Stays f.ended.signature.params f.ended.kept
dropped = (stay_dropped _ yes, (stay_dropped _ no, tt))

pub of_spec : {M : Type 1} → statement M
unfolding Rattle.gix_date_c.proofs.Destruct++none.drop.Code.code
of_spec {M} 𝓤 𝓛 𝓜 𝓡 wired =
    let c = f.clauses 𝓛 𝓜.mem 𝓡.returns in let W = walk_of 𝓛 f.ended dropped c in let 𝓣 = tables 𝓤 𝓛.H 𝓜 𝓡 𝓡.env in
    let lows = box_laws.lowers held.the_row heap.the_row ghosts held_laws.the_row_laws heap_laws.the_row_laws heap_laws.the_told in
    proved 𝓛 f.ended dropped c 𝓜 𝓡
    (Goes-dropped 𝓛 0 (plain (λ _. heap.the_row)) yes (λ κs x w. refl), (Goes-dropped 𝓛 0 (plain (λ _. Boxed)) no (λ κs x w. refl), tt))
    f.Key.name code.function (code.unfolded 𝓤 𝓛.H 𝓜 𝓡 wired)
    (λ κs. ((λ x. heap_laws.lowered x ∷ []), ((λ x. lows.lowered x ∷ []), tt))) (λ κs. (heap_laws.lowers.val_is, (lows.val_is, tt)))
    (λ κs qs bounds a _ are.
    let b = a.1.0 in let us = lows.lowered b ∷ [] in
    let y : W.Ghost = ((κs, qs, bounds, a, (heap_laws.lowered a.0 ∷ [], (us, tt))), tt) in
    let typed = (boxed_laws.lawful 𝓛).typed b us are.1.0 in
    let G = triple_of 𝓛 (callee.signature Zone Alloc ghosts dict lets_alloc_go lets_zone_go)
    (callee.spec Zone Alloc ghosts dict lets_alloc_go lets_zone_go 𝓛 𝓜.mem 𝓡.returns) in
    let E = callee.ended Zone Alloc ghosts dict lets_alloc_go lets_zone_go in
    let z : G.Ghost = ((([], ([], tt)), (full_share, (full_share, tt)), tt, (b, tt), (us, tt)), tt) in
    let tokens = ‵ (flft [] full_share) ⊛ ‵ (flft [] full_share) ⊛ ‵ ftrue in
    qed 𝓛
    ((‵ ftrue ⊛ ‵ (fsep (heap.the_row.own_val a.0 (heap_laws.lowered a.0 ∷ [])) (fsep (Boxed.own_val b us) ftrue))) ∷ raw (emp 𝓤) ∷ [])
    ∵
    split ! $ drop ! $ fsplit ! $ drop ! $ fsplit ! $ keep ! (0 ∷ []) $ nothing ! $ move ! (1 ∷ 0 ∷ []) $ fjoin ! $
    use0 𝓛 tokens (never_ends 𝓛) $ join ! $ nothing !
    $ use1 𝓛 (raw (fact 𝓤 ([] ⊑ Zone.lives)) ⊛ raw (fact 𝓤 ([] ⊑ Alloc.lives)) ⊛ ‵ ftrue) (outlive 𝓛 (emp 𝓤)) $
    move ! (1 ∷ 0 ∷ []) $ join ! $ use1 𝓛 (raw (G.pre z)) (id⊢ 𝓤 _) $
    -- [what `into_raw` asks for]
    enter ! _ _ _ _ _ $ alloc_all ! (λ l. pass_all ! refl ((tt, ((tt, tt), tt)), typed) $ sets ! (of_opd ! (get ! refl)) refl typed.0 $
    calls_at ! (framed 𝓤 𝓛.H 𝓜 𝓣) G (met 𝓤 𝓛 𝓜 𝓡 (code.calls-std_alloc::boxed::Box::into_raw 𝓡.env wired) Zone Alloc zone_laws alloc_laws
    ghosts dict lets_alloc_go lets_zone_go
    (passed 𝓡.env (code.calls-std_heap::GlobalAllocator::allocate 𝓡.env wired)
    (code.calls-std_heap::GlobalAllocator::deallocate 𝓡.env wired) (code.calls-std_heap::GlobalAllocator::grow 𝓡.env wired)
    (code.calls-std_heap::GlobalAllocator::shrink 𝓡.env wired) M 𝓤 𝓛 𝓜 𝓡)
    (glues "gix_date_c::Destruct++none::drop" 𝓡.env (code.calls-gix_date_c::Destruct++none::drop 𝓡.env wired) Alloc alloc_laws M 𝓤 𝓛 𝓜 𝓡)
    (zone_goes 𝓤 𝓛 𝓜 𝓡 (code.calls-gix_date_c::gix_date_c++zone++held++Held+Destruct::drop 𝓡.env wired))) z
    (and_then ! (get ! refl) (no_more !)) (λ v.
    use1 𝓛 (later (some (λ (p : Ptr). (tokens ⊛ ‵ (RawPtr.own_val p (v ∷ []))) ⊛
    some (λ (ws : Lasts E z.0.0 z.0.3). ‵ (lasts E z.0.0 z.0.3 ws) ⊛ ‵ (held_owns a.0 p (Some b.value)))))) (id⊢ 𝓤 _) $
    await ! tt $ pick ! (λ p. split ! $ split ! $ drop ! $ feq_l ! (λ is. pick ! (λ ws. split ! $ drop ! $
    -- [what the handle is to hold]
    let at_typed = ((rawptr_Lawful 𝓛).typed p _ refl).0 in
    let h : handle.the_row.Denot = record { at = p; alloc = a.0; held = Some b.value } in
    lands_as ! (ap only is) refl at_typed $ sets ! (of_opd ! (get ! refl)) refl at_typed $
    sets ! (agg ! (and_then ! (get ! refl) (and_then ! (get ! refl) (no_more !)))) refl
    (and_tt _ at_typed.0, (at_typed.1, (((tt, tt), tt), tt))) $
    returns ! (look_at ! 0 refl) $ free_all ! refl $
    suffices ! _ (ends_at 𝓛 f.ended dropped c y (handle_laws.lowered h) h (tt, (tt, tt)) (tt, (tt, tt))) $ says ! refl $
    use1 𝓛 (‵ (handle.the_row.own_val h (handle_laws.lowered h ∷ []))) (fits 𝓛 h) $
    nothing ! $ nothing ! $ fjoin ! $ nothing ! $ fjoin ! $ nothing ! $ group ! 3 $ done !))))))

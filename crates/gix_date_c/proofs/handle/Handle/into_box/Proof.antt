-- `into_box` reads the two fields and hands them to `from_raw`. A handle that holds a zone owns just what `from_raw` asks for: the zone at
-- the
-- pointer, and the right to free its block. The tokens that `from_raw` wants are those of `'static`, within which a zone and a `Global`
-- lie.
use mathlib.Core.Path.{◌≡◌, refl, sym, ap, ◌∙◌}
use mathlib.Core.List.{[], ◌∷◌}
use base.Fraction.{full_share}
use base.Logic.{id⊢}
use base.Fml.{ftrue, fsep, flft}
use contract.BorrowLft.{◌⊑◌}
use contract.Monad.{fact}
use contract.Running.{tables}
use types.Kit.{‵, raw, ◌⊛◌, some, later, at_ret, ◌$◌, ◌∵◌, !, qed, move, keep, drop, use0, use1, split, join, fsplit, fjoin, feq_i, pick}
use types.Kit.{await, rewrite, suffices, group, done}
use types.Part.{whole, sub}
use types.Run.{stop, fld, of_opd, no_more, and_then, first, blocks, exec, returns, enter}
use types.ByLocal.{alloc_all, pass_all, free_all, look_at, get, get_in, sets, lands_last, env}
use denote.Exit.{yes}
use denote.Laws.{Is, shows}
use denote.Param.NoDrop.{glues}
use denote.RawPtr.{ptr_val, rawptr_Lawful}
use denote.Signature.{plain}
use denote.Steps.{nothing, owned, heard, peeks}
use denote.Struct.Laws.{makes}
use denote.Triple.Call.{calls_at_last}
use denote.Triple.Clauses.{Lasts, lasts}
use denote.Triple.Spec.{triple_of}
use denote.Triple.Table.{framed}
use denote.Triple.Walked.{says, Stays, stay_dropped, walk_of, ends_at, Goes-dropped}
use Rattle.std.specs.Prelude.{Some}
use Rattle.std.proofs.raw_atomic.Walks.{proved}
use Rattle.std_heap.specs.contracts.Global as heap
use Rattle.std_heap.specs.contracts.GlobalAllocator.TheImpl.{ghosts, dict}
use Rattle.std_heap.proofs.GlobalAllocator.TheImpl.Met.{passed}
use Rattle.std_heap.proofs.Global.TheLaws as heap_laws
use Rattle.std_alloc.specs.contracts.boxed.Box.from_raw as callee
use Rattle.std_alloc.proofs.boxed.Box.from_raw.Met.{met}
use Rattle.gix_date_c.specs.Handles.{held_owns}
use Rattle.gix_date_c.specs.contracts.zone.held.Held as held
use Rattle.gix_date_c.proofs.Boxed.{Zone, Alloc, zone_laws, alloc_laws, Boxed, boxed_laws, lets_alloc_go, one_global, never_ends, outlive}
use Rattle.gix_date_c.specs.contracts.handle.Handle as handle
use Rattle.gix_date_c.proofs.handle.Handle.TheLaws as handle_laws
use Rattle.gix_date_c.specs.contracts.handle.Handle.into_box as f
use Rattle.gix_date_c.proofs.handle.Handle.into_box.Statement.{statement}
use Rattle.gix_date_c.proofs.handle.Handle.into_box.Code as code

abbrev dropped : Stays f.ended.signature.params f.ended.kept
dropped = (stay_dropped _ yes, tt)

pub into_box_spec : {M : Type 1} → statement M
unfolding Rattle.gix_date_c.proofs.Destruct++none.drop.Code.code
into_box_spec {M} 𝓤 𝓛 𝓜 𝓡 wired =
    let c = f.clauses 𝓛 𝓜.mem 𝓡.returns in let W = walk_of 𝓛 f.ended dropped c in let 𝓣 = tables 𝓤 𝓛.H 𝓜 𝓡 𝓡.env in
    proved 𝓛 f.ended dropped c 𝓜 𝓡 (Goes-dropped 𝓛 0 (plain (λ _. handle.the_row)) yes (λ κs x w. refl), tt)
    f.Key.name code.function (code.unfolded 𝓤 𝓛.H 𝓜 𝓡 wired)
    (λ κs. ((λ h. handle_laws.lowered h ∷ []), tt)) (λ κs. (handle_laws.lowers.val_is, tt)) (λ κs qs bounds a _ are.
    let h = a.0 in let us = handle_laws.lowered h ∷ [] in let vs = heap_laws.lowered h.alloc ∷ [] in
    let y : W.Ghost = ((κs, qs, bounds, a, (us, tt)), tt) in
    let Holds : Type 0 = (value : held.the_row.Denot) × (h.held ≡ Some value) in
    let typed = (handle_laws.the_field_laws.lawful 𝓛).typed h us are.0 in
    let at_typed = ((rawptr_Lawful 𝓛).typed h.at _ refl).0 in
    qed 𝓛 ((‵ ftrue ⊛ ‵ (fsep (handle.the_row.own_val h us) ftrue)) ∷ raw (fact 𝓤 Holds) ∷ []) ∵ move ! (1 ∷ []) $ heard ! Holds (λ holds.
    split ! $ drop ! $ fsplit ! $ fsplit ! $ move ! (1 ∷ []) $ keep ! (0 ∷ [])
    $ rewrite ! 0 (λ x. ‵ (held_owns h.alloc h.at x)) holds.1 refl $
    -- [the zone at the pointer, with the right to free its block]
    let G = triple_of 𝓛 (callee.signature Zone Alloc ghosts dict lets_alloc_go)
    (callee.spec Zone Alloc ghosts dict lets_alloc_go 𝓛 𝓜.mem 𝓡.returns) in
    let E = callee.ended Zone Alloc ghosts dict lets_alloc_go in let tokens = ‵ (flft [] full_share) ⊛ ‵ (flft [] full_share) ⊛ ‵ ftrue in
    let z : G.Ghost =
    ((([], ([], tt)), (full_share, (full_share, tt)), tt, (h.alloc, (h.at, tt)), (vs, (ptr_val h.at ∷ [], tt))), holds.0) in
    use1 𝓛 (raw (fact 𝓤 ([] ⊑ Zone.lives)) ⊛ raw (fact 𝓤 ([] ⊑ Alloc.lives)) ⊛ ‵ (held_owns h.alloc h.at (Some holds.0))) (outlive 𝓛 _) $
    nothing ! $ feq_i ! _ (ptr_val h.at ∷ []) _ refl $ fjoin !
    $ owned ! heap.the_row (Is heap.the_row) (makes heap.the_type heap_laws.the_plain 𝓛) h.alloc vs (one_global h.alloc) $ fjoin ! $
    use0 𝓛 tokens (never_ends 𝓛) $ join ! $ join ! $ use1 𝓛 (raw (G.pre z)) (id⊢ 𝓤 _) $
    -- [what `from_raw` asks for]
    enter ! _ _ _ _ _ $ alloc_all ! (λ l. pass_all ! refl typed $
    sets ! (of_opd ! (get_in ! (fld ! refl (stop !)) (sub ! 0 refl (whole !)))) refl at_typed $
    sets ! (of_opd ! (get_in ! (fld ! refl (stop !)) (sub ! 1 refl (whole !)))) refl (tt, ((tt, tt), tt)) $
    first ! $ blocks ! $ sets ! (of_opd ! (get ! refl)) refl at_typed $
    calls_at_last ! (framed 𝓤 𝓛.H 𝓜 𝓣) G
    (met 𝓤 𝓛 𝓜 𝓡 (code.calls-std_alloc::boxed::Box::from_raw 𝓡.env wired) Zone Alloc zone_laws alloc_laws ghosts dict lets_alloc_go
    (passed 𝓡.env (code.calls-std_heap::GlobalAllocator::allocate 𝓡.env wired)
    (code.calls-std_heap::GlobalAllocator::deallocate 𝓡.env wired) (code.calls-std_heap::GlobalAllocator::grow 𝓡.env wired)
    (code.calls-std_heap::GlobalAllocator::shrink 𝓡.env wired) M 𝓤 𝓛 𝓜 𝓡)
    (glues "gix_date_c::Destruct++none::drop" 𝓡.env (code.calls-gix_date_c::Destruct++none::drop 𝓡.env wired) Alloc alloc_laws M 𝓤 𝓛 𝓜 𝓡)) z
    (and_then ! (get ! refl) (and_then ! (get ! refl) (no_more !))) (λ v.
    use1 𝓛 (later (some (λ (r : Boxed.Denot). (tokens ⊛ ‵ (Boxed.own_val r (v ∷ []))) ⊛
    some (λ (ws : Lasts E z.0.0 z.0.3). ‵ (lasts E z.0.0 z.0.3 ws) ⊛ raw (fact 𝓤 (r.value ≡ holds.0)) ⊛ raw (fact 𝓤 (r.alloc ≡ h.alloc))))))
    (id⊢ 𝓤 _) $
    await ! tt
    $ pick ! (λ r. split ! $ split ! $ drop ! $ move ! (1 ∷ []) $ pick ! (λ ws. split ! $ drop ! $ split ! $ heard ! _ (λ same. drop ! $
    peeks ! Boxed (Is Boxed) (shows 𝓛 Boxed) r (v ∷ []) (λ is.
    -- [the box]
    let box_typed = ((boxed_laws.lawful 𝓛).typed r (v ∷ []) is).0 in
    lands_last ! refl box_typed $ exec ! 𝓣.C 𝓣.Λ (env code.Mir.locals l) code.Mir.t-4 (at_ret _ (W.post y)) $
    sets ! (of_opd ! (get ! refl)) refl box_typed $ returns ! (look_at ! 0 refl) $ free_all ! refl $
    suffices ! _ (ends_at 𝓛 f.ended dropped c y v r (tt, tt) (tt, tt)) $ says ! (ap Some same ∙ sym holds.1) $
    nothing ! $ nothing ! $ fjoin ! $ nothing ! $ group ! 3 $ done !))))))))

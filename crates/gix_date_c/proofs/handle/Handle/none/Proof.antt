-- `none` writes null beside the allocator. A handle that holds nothing is had for nothing.
use mathlib.Core.Path.{refl}
use mathlib.Core.List.{[], ◌∷◌}
use lib.Dec.{lit<}
use base.Logic.{emp}
use types.Kit.{‵, raw, ◌$◌, ◌∵◌, !, qed, drop, use1, group, fjoin, suffices, done}
use types.Part.{agg}
use types.Run.{no_more, and_then, lit, returns, enter}
use types.ByLocal.{alloc_all, pass_all, free_all, look_at, get, sets}
use denote.Exit.{yes}
use denote.RawPtr.{null_ptr}
use denote.Signature.{plain}
use denote.Steps.{nothing}
use denote.Triple.Entry.{on_entry}
use denote.Triple.Walked.{says, Stays, stay_dropped, walk_of, ends_at, Goes-dropped}
use Rattle.std.specs.Prelude.{None}
use Rattle.std.proofs.raw_atomic.Walks.{proved}
use Rattle.std_heap.specs.contracts.Global as heap
use Rattle.std_heap.proofs.Global.TheLaws as heap_laws
use Rattle.gix_date_c.proofs.Boxed.{fits}
use Rattle.gix_date_c.specs.contracts.handle.Handle as handle
use Rattle.gix_date_c.proofs.handle.Handle.TheLaws as handle_laws
use Rattle.gix_date_c.specs.contracts.handle.Handle.none as f
use Rattle.gix_date_c.proofs.handle.Handle.none.Statement.{statement}
use Rattle.gix_date_c.proofs.handle.Handle.none.Code as code

abbrev dropped : Stays f.ended.signature.params f.ended.kept
dropped = (stay_dropped _ yes, tt)

pub none_spec : {M : Type 1} → statement M
none_spec 𝓤 𝓛 𝓜 𝓡 wired =
    let c = f.clauses 𝓛 𝓜.mem 𝓡.returns in let W = walk_of 𝓛 f.ended dropped c in
    proved 𝓛 f.ended dropped c 𝓜 𝓡 (Goes-dropped 𝓛 0 (plain (λ _. heap.the_row)) yes (λ κs x w. refl), tt)
    f.Key.name code.function (code.unfolded 𝓤 𝓛.H 𝓜 𝓡 wired)
    (λ κs. ((λ a. heap_laws.lowered a ∷ []), tt)) (λ κs. (heap_laws.lowers.val_is, tt)) (λ κs qs bounds a _ are.
    let y : W.Ghost = ((κs, qs, bounds, a, (heap_laws.lowered a.0 ∷ [], tt)), tt) in
    let h : handle.the_row.Denot = record { at = null_ptr; alloc = a.0; held = None } in
    qed 𝓛 (raw (on_entry 𝓛 f.signature κs qs a y.0.4) ∷ raw (emp 𝓤) ∷ []) ∵ drop ! $ drop ! $
    enter ! _ _ _ _ _ $ alloc_all ! (λ l. pass_all ! refl ((tt, ((tt, tt), tt)), tt) $
    sets ! (agg ! (and_then ! (lit ! tt) (and_then ! (get ! refl) (no_more !)))) refl
    (tt, (record { fits = lit< tt }, (((tt, tt), tt), tt))) $
    returns ! (look_at ! 0 refl) $ free_all ! refl $
    suffices ! _ (ends_at 𝓛 f.ended dropped c y (handle_laws.lowered h) h (tt, tt) (tt, tt)) $ says ! refl $
    nothing ! $ use1 𝓛 (‵ (handle.the_row.own_val h (handle_laws.lowered h ∷ []))) (fits 𝓛 h) $
    nothing ! $ nothing ! $ fjoin ! $ nothing ! $ group ! 3 $ done !))

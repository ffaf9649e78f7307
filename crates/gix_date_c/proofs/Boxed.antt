-- What the walks of a handle share: what it is made of, and what they pass to `Box`.
use mathlib.Core.Path.{refl}
use mathlib.Core.List.{[], ◌∷◌}
use seplogic.Ra.Ura.{Ura}
use mir.Raw.{raw as bare}
use mir.Syntax.{Dict, impl, method, no_args, tnil, tcons, dnil}
use mir.Val.{vunit, vstruct, vcons, vnil}
use base.Fraction.{full_share}
use base.Logic.{SProp, ent, sep, ex, emp, id⊢}
use base.Fml.{ftrue, fsep, flft}
use contract.Monad.{fact, fact_i}
use contract.Running.{Running}
use contract.BorrowLft.{◌⊑◌}
use prog.Model.{Model}
use prog.Wired.{Wired}
use types.Logic.{Logic, sem}
use types.Kit.{‵, raw, ◌⊛◌, some, later, ◌$◌, ◌∵◌, !, qed, by, move, keep, use0, use1, split, join, fjoin, pick, await, updating, now, show}
use types.Kit.{frame, done}
use denote.Builtin.{unit}
use denote.Exit.{no}
use denote.Laws.{Is}
use denote.Param.{arg, layout}
use denote.Param.Glue as glue
use denote.Param.Laws.{Laws, arg_laws}
use denote.RattleType.{RattleType}
use denote.RawPtr.{rawptr_pure}
use denote.Steps.{nothing, owned}
use denote.Struct.Owning.{shape, to}
use denote.Struct.Struct.{Struct, Struct-Makes}
use denote.Triple.Clauses.{Lasts, lasts}
use denote.Triple.Spec.{triple_of, Back}
use denote.Triple.Table.{run_framed, widened}
use Rattle.std_heap.specs.contracts.Global as heap
use Rattle.std_heap.specs.contracts.GlobalAllocator.TheImpl.{ghosts}
use Rattle.std_heap.proofs.Global.TheLaws as heap_laws
use Rattle.std_alloc.specs.contracts.boxed.Box as box
use Rattle.std_alloc.proofs.boxed.Box.TheLaws as box_laws
use Rattle.gix_date_c.specs.Handles.{held_owns}
use Rattle.gix_date_c.specs.contracts.handle.Handle as handle
use Rattle.gix_date_c.proofs.handle.Handle.TheLaws as handle_laws
use Rattle.gix_date_c.specs.contracts.zone.held.Held as held
use Rattle.gix_date_c.proofs.zone.held.Held.TheLaws as held_laws
use Rattle.gix_date_c.specs.contracts.gix_date_c++zone++held++Held+Destruct.drop as drops
use Rattle.gix_date_c.proofs.gix_date_c++zone++held++Held+Destruct.drop.Symbol as drops_symbol
use Rattle.gix_date_c.proofs.gix_date_c++zone++held++Held+Destruct.drop.Met as drops_met

-- a zone and a `Global` as arguments for type parameters
abbrev pub Zone : RattleType
Zone = arg (bare (layout held.the_row)) no held.the_row

abbrev pub Alloc : RattleType
Alloc = arg (bare (layout heap.the_row)) no heap.the_row

abbrev pub zone_laws : Laws Zone
zone_laws = arg_laws (bare (layout held.the_row)) no held.the_row held_laws.the_row_laws refl

abbrev pub alloc_laws : Laws Alloc
alloc_laws = arg_laws (bare (layout heap.the_row)) no heap.the_row heap_laws.the_row_laws refl

abbrev pub Boxed : RattleType
Boxed = box.the_row held.the_row heap.the_row ghosts

abbrev pub boxed_laws : Laws Boxed
boxed_laws = box_laws.the_row_laws held.the_row heap.the_row ghosts held_laws.the_row_laws heap_laws.the_row_laws

-- how they are let go
abbrev pub lets_zone_go : Dict
lets_zone_go = impl ("gix_date_c::gix_date_c++zone++held++Held+Destruct::drop" ∷ []) tnil dnil

abbrev pub lets_alloc_go : Dict
lets_alloc_go = impl ("gix_date_c::Destruct++none::drop" ∷ []) (tcons (layout Alloc) tnil) dnil

-- a `Global` has one machine value, of no bytes
pub one_global : (a : heap.the_row.Denot) → Is heap.the_row a (heap_laws.lowered a ∷ [])
one_global a = ((vstruct (vcons vunit vnil) ∷ [], tt), (refl, (((vunit ∷ [], tt), (refl, (refl, tt))), tt)))

-- the two fields that a handle has
abbrev Data : RattleType
Data = Struct (shape handle.the_type)

module _ {M : Type 1} {𝓤 : Ura M} (𝓛 : Logic 𝓤) where
  -- A pointer and a `Global` are had for nothing, so that a handle is no more than what it holds.
  pub fits : (h : handle.the_row.Denot)
      → ent 𝓤 (sem 𝓛 (held_owns h.alloc h.at h.held)) (sem 𝓛 (handle.the_row.own_val h (handle_laws.lowered h ∷ [])))
  fits h = qed 𝓛 (‵ (held_owns h.alloc h.at h.held) ∷ []) ∵
      owned ! Data (Is Data) (Struct-Makes 𝓛 (shape handle.the_type) (rawptr_pure, (heap_laws.the_field_plain, tt))) (to handle.the_type h)
      (handle_laws.lowered h ∷ [])
      ((_, (_, tt)), (refl, (refl, (one_global h.alloc, tt)))) $ fjoin ! $ done !

  -- `'static` never ends, and its token is had for nothing.
  pub never_ends : ent 𝓤 (emp 𝓤) (sep 𝓤 (𝓛.A.lft [] full_share) (sep 𝓤 (𝓛.A.lft [] full_share) (emp 𝓤)))
  never_ends = qed 𝓛 [] ∵ use0 𝓛 (‵ (flft [] full_share)) (𝓛.lfts.lft-nil full_share) $ frame !
      $ use0 𝓛 (‵ (flft [] full_share)) (𝓛.lfts.lft-nil full_share) $ frame ! $ done !

  -- A zone and a `Global` name nothing that ends before it.
  pub outlive : (P : SProp 𝓤) → ent 𝓤 P (sep 𝓤 (fact 𝓤 ([] ⊑ Zone.lives)) (sep 𝓤 (fact 𝓤 ([] ⊑ Alloc.lives)) P))
  outlive P = qed 𝓛 (raw P ∷ []) ∵ use0 𝓛 (raw (fact 𝓤 ([] ⊑ Zone.lives))) (fact_i 𝓤 _ (emp 𝓤) (held_laws.the_within [])) $ frame ! $
      use0 𝓛 (raw (fact 𝓤 ([] ⊑ Alloc.lives))) (fact_i 𝓤 _ (emp 𝓤) (heap_laws.the_within [])) $ frame ! $ done !

-- The drop of a zone asks for no token. So it can be called with that of any lifetime, which it hands back.
pub zone_goes : {M : Type 1} (𝓤 : Ura M) (𝓛 : Logic 𝓤) (𝓜 : Model 𝓤 𝓛.H) (𝓡 : Running 𝓤 𝓛.H 𝓜) → Wired 𝓡.env drops_symbol.code
    → glue.Met 𝓛 𝓜 𝓡 𝓡.env Zone lets_zone_go
zone_goes 𝓤 𝓛 𝓜 𝓡 wired z =
    let k = method lets_zone_go 0 no_args in let r = 𝓡.env k in
    let D = triple_of 𝓛 drops.signature (drops.spec 𝓛 𝓜.mem 𝓡.returns) in let y : D.Ghost = ((tt, tt, tt, z.0.3, z.0.4), tt) in
    let G = triple_of 𝓛 (glue.signature Zone) (glue.spent 𝓛 Zone) in
    let token = ‵ (flft z.0.0.0 z.0.1.0) in
    qed 𝓛
    (((token ⊛ ‵ ftrue) ⊛ ‵ (fsep (held.the_row.own_val z.0.3.0 z.0.4.0) ftrue)) ∷ (raw (fact 𝓤 (z.0.0.0 ⊑ Zone.lives)) ⊛ ‵ ftrue) ∷ [])
    {P = 𝓡.run r (D.args y) (G.post z)} (
    split ! $ split ! $ move ! (2 ∷ 0 ∷ []) $ keep ! (0 ∷ 1 ∷ []) $ nothing ! $ join ! $ nothing ! $ move ! (1 ∷ 0 ∷ []) $ join ! $
    use1 𝓛 (raw (𝓡.run r (D.args y) (D.post y)))
    (widened 𝓤 𝓛.H D 𝓜 𝓡 𝓡.env (𝓡.env drops_symbol.name) r (drops_symbol.as_method 𝓡.env wired k refl) (drops_met.met 𝓤 𝓛 𝓜 𝓡 wired) y)
    $
    by ! (run_framed 𝓤 𝓛.H 𝓜 𝓡 r (D.args y) (D.post y) (G.post z) (𝓛.A.lft z.0.0.0 z.0.1.0)
    (λ v. qed 𝓛 (raw (D.post y v) ∷ token ∷ []) ∵ updating ! $
    use1 𝓛 (later (some (λ (u : Unit {0}).
    (‵ ftrue ⊛ ‵ (unit.own_val u (v ∷ []))) ⊛ some (λ (ws : Lasts drops.ended tt z.0.3). ‵ (lasts drops.ended tt z.0.3 ws) ⊛ ‵ ftrue))))
    (id⊢ 𝓤 _) $
    await ! tt $ pick ! (λ u. split ! $ split ! $ now ! $ show ! (λ (x : Unit {0}).
    sep 𝓤 (Back 𝓛 (glue.signature Zone) z.0 v x) (ex 𝓤 (λ (ws : Unit {0} × Unit {0}). sep 𝓤 (sem 𝓛 (fsep ftrue ftrue)) (emp 𝓤)))) u $
    keep ! (3 ∷ 1 ∷ []) $ nothing ! $ move ! (1 ∷ 0 ∷ []) $ join ! $ join ! $ frame !
    $ show ! (λ (ws : Unit {0} × Unit {0}). sep 𝓤 (sem 𝓛 (fsep ftrue ftrue)) (emp 𝓤)) (tt, tt) $
    nothing ! $ nothing ! $ nothing ! $ join ! $ done !))))

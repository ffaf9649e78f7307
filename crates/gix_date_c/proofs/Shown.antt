-- What C shows of a zone can be had twice, and shows the zone for as long as a `&` to it lasts.
use mathlib.Core.Path.{◌≡◌, refl, sym}
use mathlib.Core.List.{List, [], ◌∷◌, ◌++◌}
use Prim.Native.Nat.{ℕ}
use seplogic.Ra.Ura.{Ura}
use mir.Val.{Val}
use base.Fraction.{full_share}
use base.Share
use base.Share.{halves}
use base.Logic.{ent, sep, ex, emp, id⊢, upd_i, never_e}
use base.Fml.{Lft, Share, Incl, Fml, ftrue, fsep, fseps, fwand, fupd, fdead, fbor, flft}
use base.Before.{before, chain}
use contract.BorrowLft.{meet_⊑_left}
use ghost.Rules.{Halves}
use types.Logic.{Logic, sem}
use types.Kit.{‵, ◌⊛◌, later, ◌$◌, ◌∵◌, !, qed, move, keep, use0, use1, use2, use3, split, fsplit, fsplit3, fjoin, fpick, fpack, assume}
use types.Kit.{suffices, await, updating, now, show, rewrite, done}
use types.Tokens.{lft_new, bor_new, obor_alter, bor_fracture, shr_bor-open}
use denote.Laws.{Is, Copy, shows}
use denote.Memory.{part_of, part_at, cell_at, shared_of, hidden_shr, share_laws}
use denote.Opens.{Opens, Opened-one, unhide, hide}
use denote.RattleType.{RattleType}
use denote.RawPtr.{Ptr, block_ptr, null_ptr, block_of, count_of, in_block, lies_at, rawptr_pure}
use denote.SharingLaws.{contraction}
use denote.Steps.{nothing, peeks, owned}
use denote.Struct.Lending.{lent_at, lent_at_shr_laws}
use denote.Struct.Owning.{shape, to}
use denote.Struct.Struct.{Struct, Struct-Makes}
use Rattle.std.specs.Prelude.{Option, None, Some}
use Rattle.gix_date_c.specs.Handles.{held_shown}
use Rattle.gix_date_c.specs.contracts.zone.held.Held as held
use Rattle.gix_date_c.proofs.zone.held.Held.TheLaws as held_laws
use Rattle.gix_date_c.specs.contracts.handle.Lent as lent
use Rattle.gix_date_c.proofs.handle.Lent.TheLaws as lent_laws

abbrev Zone : Type 0
Zone = held.the_row.Denot

abbrev R : RattleType
R = lent.the_row

abbrev D : Type 0
D = R.Denot

abbrev Data : RattleType
Data = Struct (shape lent.the_type)

-- the zone at a pointer, for a lifetime
abbrev pub lies : Lft → Ptr → Zone → Fml
lies κ at x = fsep (in_block at ftrue) (hidden_shr held.the_row κ x (block_of at) (count_of at))

module _ {M : Type 1} {𝓤 : Ura M} (𝓛 : Logic 𝓤) where
  open 𝓛 use {H, A}

  lies-twice : (κ : Lft) (at : Ptr) (x : Zone) → ent 𝓤 (sem 𝓛 (lies κ at x)) (sep 𝓤 (sem 𝓛 (lies κ at x)) (sem 𝓛 (lies κ at x)))
  lies-twice κ at x = contraction 𝓛 (lent_at held.the_row at x) (lent_at_shr_laws held.the_row held_laws.the_row_laws.shr_laws at x) κ

  lies-before : (κ κ' : Lft) (at : Ptr) (x : Zone) → ent 𝓤 (sep 𝓤 (sem 𝓛 (before κ κ')) (sem 𝓛 (lies κ' at x))) (sem 𝓛 (lies κ at x))
  lies-before κ κ' at x = (lent_at_shr_laws held.the_row held_laws.the_row_laws.shr_laws at x).mono M 𝓤 𝓛 κ κ'

  shown-twice : (κ : Lft) (at : Ptr) (h : Option Zone)
      → ent 𝓤 (sem 𝓛 (held_shown κ at h)) (sep 𝓤 (sem 𝓛 (held_shown κ at h)) (sem 𝓛 (held_shown κ at h)))
  shown-twice κ at None = qed 𝓛 (‵ ftrue ∷ []) {P = sep 𝓤 (emp 𝓤) (emp 𝓤)} (use0 𝓛 (‵ ftrue) (id⊢ 𝓤 (emp 𝓤)) $ done !)
  shown-twice κ at (Some x) = qed 𝓛 (‵ (held_shown κ at (Some x)) ∷ []) ∵ fsplit ! $ fpick ! (λ q.
      use1 𝓛 (‵ (flft κ (Share.left q)) ⊛ ‵ (flft κ (Share.right q))) (𝓛.lfts.lft_split κ q) $ split ! $ move ! (2 ∷ []) $
      use1 𝓛 (‵ (lies κ at x) ⊛ ‵ (lies κ at x)) (lies-twice κ at x) $ split ! $
      move ! (2 ∷ []) $ fpack ! Share (λ r. flft κ r) (Share.left q) $ move ! (0 ∷ 1 ∷ []) $ fjoin ! $
      move ! (2 ∷ []) $ fpack ! Share (λ r. flft κ r) (Share.right q) $ move ! (0 ∷ 2 ∷ []) $ fjoin ! $ done !)

  copied : Copy 𝓛 R
  copied = record {
    twice = λ d vs. qed 𝓛 (‵ (R.own_val d vs) ∷ []) ∵ fsplit ! $ peeks ! Data (Is Data) (shows 𝓛 Data) (to lent.the_type d) vs (λ is.
        move ! (1 ∷ []) $ use1 𝓛 (‵ (held_shown d.life d.at d.held) ⊛ ‵ (held_shown d.life d.at d.held)) (shown-twice d.life d.at d.held)
        $ split ! $
        move ! (2 ∷ 0 ∷ []) $ fjoin ! $ move ! (1 ∷ []) $
        owned ! Data (Is Data) (Struct-Makes 𝓛 (shape lent.the_type) (rawptr_pure, tt)) (to lent.the_type d) vs is $ fjoin ! $ done !);
  }

  pub halved : (d : D) (b o : ℕ) → Halves 𝓤 H A (λ q. part_at R q d b o)
  halved d b o = let L = share_laws 𝓛 R (Is R) (shows 𝓛 R) (λ x. lent_laws.lowered x ∷ []) lent_laws.lowers.val_is copied in
      record {
        cut = λ q. L.cut q (Share.left q) (Share.right q) (halves q) d b o;
        join =
            λ q. L.join q (Share.left q) (Share.right q) (halves q) d b o;
      }

  pub opened : Opens 𝓛 R
  opened d b o =
      (Opened-one 𝓛 (λ q. part_at R q d b o) (halved d b o), contraction 𝓛 (shared_of R d b o) (lent_laws.the_row_laws.shr_laws d b o))

  module _ (κ : Lft) (d : D) (x : Zone) (e : d.held ≡ Some x) (b o : ℕ) where
    back : (r s : Share) (vs : List Val)
        → ent 𝓤 (sep 𝓤 (sem 𝓛 (lies d.life d.at x)) (sep 𝓤 (sem 𝓛 (Data.own_val (to lent.the_type d) vs)) (sem 𝓛 (cell_at s R.mir vs b o))))
        (sem 𝓛 (fwand (fsep (fdead κ) (fseps (flft d.life r ∷ []))) (fupd (part_at R s d b o))))
    unfolding part_of fseps
    back r s vs = qed 𝓛 (‵ (lies d.life d.at x) ∷ ‵ (Data.own_val (to lent.the_type d) vs) ∷ ‵ (cell_at s R.mir vs b o) ∷ []) ∵
        assume ! (‵ (fsep (fdead κ) (fsep (flft d.life r) ftrue)))
        $ suffices ! (sem 𝓛 (part_at R s d b o)) (upd_i 𝓤 (sem 𝓛 (part_at R s d b o))) $
        fsplit3 ! $ move ! (1 ∷ 3 ∷ []) $ fpack ! Share (λ q. flft d.life q) r $ fjoin !
        $ rewrite ! 0 (λ (h : Option Zone). ‵ (held_shown d.life d.at h)) (sym e) refl $
        move ! (3 ∷ 0 ∷ []) $ fjoin ! $ move ! (3 ∷ 0 ∷ []) $ fjoin ! $
        fpack ! (List Val) (λ us. fsep (cell_at s R.mir us b o) (R.own_val d us)) vs $ keep ! (0 ∷ []) $ done !

    -- The part of the zone's lifetime is lent for as long as the `&` lasts, so the zone lasts that long.
    pub shows_zone : (q : Share)
        → ent 𝓤 (sep 𝓤 (sem 𝓛 (hidden_shr R κ d b o)) (A.lft κ q)) (H.⇛ (sep 𝓤 (sem 𝓛 (lies κ d.at x)) (A.lft κ q)))
    unfolding part_of fseps
    shows_zone q = qed 𝓛 (‵ (hidden_shr R κ d b o) ∷ ‵ (flft κ q) ∷ []) {P = H.⇛ (sep 𝓤 (sem 𝓛 (lies κ d.at x)) (A.lft κ q))} (
        updating ! $ unhide !
        $ shr_bor-open ! tt (halved d b o) (λ s. move ! (1 ∷ []) $ fpick ! (λ vs. fsplit ! $ move ! (1 ∷ []) $ fsplit ! $
        move ! (1 ∷ []) $ rewrite ! 0 (λ (h : Option Zone). ‵ (held_shown d.life d.at h)) e refl $ fsplit ! $ fpick ! (λ r.
        -- [the part of the lifetime; the zone; the data; the cell; the open borrow]
        move ! (1 ∷ []) $ use1 𝓛 (‵ (lies d.life d.at x) ⊛ ‵ (lies d.life d.at x)) (lies-twice d.life d.at x) $ split ! $
        move ! (1 ∷ 3 ∷ 4 ∷ []) $ use3 𝓛 (‵ (fwand (fsep (fdead κ) (fseps (flft d.life r ∷ []))) (fupd (part_at R s d b o)))) (back r s vs)
        $
        -- [the way back; the zone; the part; the open borrow]
        move ! (2 ∷ []) $ nothing ! $ move ! (1 ∷ 0 ∷ []) $ fjoin ! $ move ! (3 ∷ 0 ∷ 1 ∷ []) $ obor_alter ! tt (flft d.life r ∷ []) $
        use1 𝓛 (‵ (fbor κ (flft d.life r)) ⊛ ‵ ftrue) (id⊢ 𝓤 _) $ split ! $ bor_fracture ! tt (λ t. flft d.life t) r $
        nothing ! $ fpack ! (Incl (d.life ++ κ) d.life) (λ _. ftrue) (meet_⊑_left d.life κ) $ move ! (1 ∷ 0 ∷ []) $ fjoin ! $
        fpack ! (List Lft) (λ νs. chain νs κ d.life) (d.life ∷ []) $ move ! (0 ∷ 3 ∷ []) $
        use2 𝓛 (‵ (lies κ d.at x)) (lies-before κ d.life d.at x) $ now ! $ keep ! (0 ∷ 2 ∷ []) $ done !))))

  -- There is something to show of each zone that lies at a pointer, where that is not taken back.
  pub shown_from : (p : Ptr) (x : Zone)
      → ent 𝓤 (sem 𝓛 (lies_at held.the_row full_share p x)) (H.⇛ (ex 𝓤 (λ (α : ℕ). sem 𝓛 (held_shown (α ∷ []) p (Some x)))))
  shown_from (block_ptr b o) x = qed 𝓛 (‵ (part_at held.the_row full_share x b o) ∷ [])
      {P = H.⇛ (ex 𝓤 (λ (α : ℕ). sem 𝓛 (held_shown (α ∷ []) (block_ptr b o) (Some x))))} (
      updating ! $ lft_new ! tt (λ α. move ! (1 ∷ []) $ bor_new ! tt (α ∷ []) $ move ! (0 ∷ 2 ∷ []) $
      use2 𝓛 (later (‵ (shared_of held.the_row x b o (α ∷ [])) ⊛ ‵ (flft (α ∷ []) full_share)))
      (held_laws.the_row_laws.shares 𝓛 x (α ∷ []) ((α ∷ [], full_share) ∷ []) b o (held_laws.the_within (α ∷ [])) (λ a m. m)) $ await ! tt
      $ split ! $ hide ! $
      nothing ! $ fjoin ! $ move ! (1 ∷ []) $ fpack ! Share (λ q. flft (α ∷ []) q) full_share $ fjoin ! $
      now ! $ show ! (λ (β : ℕ). sem 𝓛 (held_shown (β ∷ []) (block_ptr b o) (Some x))) α $ keep ! (0 ∷ []) $ done !))
  shown_from null_ptr x = never_e 𝓤 _

  -- A pointer is had for nothing, so what C shows is no more than the zone.
  pub fits : (d : D) → ent 𝓤 (sem 𝓛 (held_shown d.life d.at d.held)) (sem 𝓛 (R.own_val d (lent_laws.lowered d ∷ [])))
  fits d = qed 𝓛 (‵ (held_shown d.life d.at d.held) ∷ []) ∵
      owned ! Data (Is Data) (Struct-Makes 𝓛 (shape lent.the_type) (rawptr_pure, tt)) (to lent.the_type d) (lent_laws.lowered d ∷ [])
      ((_, tt), (refl, (refl, tt))) $ fjoin ! $ done !

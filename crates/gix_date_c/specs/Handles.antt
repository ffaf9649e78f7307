-- What a handle of C owns.
use Rattle.std.specs.Prelude.{ℕ, Option, None, Some}
use Rattle.std.specs.Box.Ownership.{box_owns}
use Rattle.std.specs.Global.{Global}
use Rattle.std.specs.contracts.impls.GlobalAllocator.TheImpl.{ghosts}
use base.Fml.{Lft, Share, Fml, ftrue, fsep, fex, flft}
use denote.Memory.{hidden_shr}
use denote.RawPtr.{Ptr, block_of, count_of, in_block}
use Rattle.gix_date_c.specs.contracts.zone.held.Held.{the_row}
use Rattle.gix_date_c.specs.declared.zone.held.Held.{Held}
use Rattle.gix_date_c.specs.declared.handle.TheConstants.{HOLDS}

-- the zone that is held lies at this pointer, in a block that this handle alone may free; if none is held the pointer owns nothing
abbrev pub held_owns : Global → Ptr → Option Held → Fml
held_owns alloc at None = ftrue
held_owns alloc at (Some held) = box_owns (ghosts.dealloc_token alloc) the_row at held

-- the zone that is held lies at this pointer, and stays as it is for a lifetime, of which this is a part; if none is held the pointer shows
-- nothing
abbrev pub held_shown : Lft → Ptr → Option Held → Fml
held_shown κ at None = ftrue
held_shown κ at (Some held) =
    fsep (fex Share (λ q. flft κ q)) (fsep (in_block at ftrue) (hidden_shr the_row κ held (block_of at) (count_of at)))

-- how C tells whether something is held
abbrev pub kind_of : Option Held → ℕ
kind_of None = 0
kind_of (Some held) = HOLDS

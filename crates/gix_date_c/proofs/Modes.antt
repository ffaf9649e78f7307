-- The numbers of modes.
use Rattle.std.proofs.Common.{◌≡◌, Bool, true, false, Some, refl}
use Rattle.git_date.specs.declared.mode.DateKind.{DateKind}
use Rattle.git_date.specs.declared.mode.DateKind.TheVariants.{Relative, Iso8601Strict, Iso8601, Rfc2822, Short, Default, Human, Raw, Unix}
use Rattle.git_date.specs.declared.mode.DateMode.{DateMode}
use Rattle.gix_date_c.specs.Git.Modes.{kind_number, kind_numbered, mode_for_c, mode_of, IsNumbered}

kind-back : (kind : DateKind) → kind_numbered (kind_number kind) ≡ Some kind
kind-back Relative = refl
kind-back Iso8601Strict = refl
kind-back Iso8601 = refl
kind-back Rfc2822 = refl
kind-back Short = refl
kind-back Default = refl
kind-back Human = refl
kind-back Raw = refl
kind-back Unix = refl

mode-back : (kind : DateKind) (local : Bool)
    → mode_of (mode_for_c (record { kind = kind; local = local })) ≡ Some (record { kind = kind; local = local })
mode-back kind true = rw (kind-back kind) refl
mode-back kind false = rw (kind-back kind) refl

pub numbered : (mode : DateMode) → IsNumbered mode
numbered mode = (kind-back mode.kind, mode-back mode.kind mode.local)

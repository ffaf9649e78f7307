-- Values that there are only where a test holds.
use Rattle.std.proofs.Common.{◌≡◌, ◌∙◌, Bool, true, false, cond, Option, Some, None, ap, sym}

pub none-where : {A : Type 0} (b : Bool) (x : A) → b ≡ false → ◌≡◌ {A = Option A} None (cond b (Some x) None)
none-where b x e = ap (λ (b : Bool). cond b (Some x) None) (sym e)

pub some-where : {A : Type 0} (b : Bool) (y x : A) → b ≡ true → y ≡ x → Some y ≡ cond b (Some x) None
some-where b y x e is = ap Some is ∙ ap (λ (b : Bool). cond b (Some x) None) (sym e)

-- What the laws of order, equality and hash say of a comparison, a test and what is fed to a hasher.
use Rattle.std.specs.Prelude.{◌≡◌, ◌↔◌, ◌++◌, Bool, IsTrue}
use Rattle.std.specs.Hash.{HashWrites}
use Rattle.std.specs.Hash as fed
use Rattle.std.specs.Ordering.{int_cmp, on, then_cmp}
use Rattle.std.specs.declared.cmp.Ordering.{Ordering}
use Rattle.std.specs.declared.cmp.Ordering.TheVariants.{Equal}
use Rattle.gix_date.specs.declared.time.Time.{Time}

-- times compare by seconds, then by offsets
abbrev pub ComparesParts : (Time → Time → Ordering) → Type 0
ComparesParts compare =
    (a b : Time) → compare a b ≡ then_cmp (on (λ t. t.seconds) int_cmp) (on (λ t. t.offset) int_cmp) a b

-- `Equal` iff the test passes: two times compare as `Equal` iff they pass the test
abbrev pub AgreesWith : (Time → Time → Ordering) → (Time → Time → Bool) → Type 0
AgreesWith compare test = (a b : Time) → (compare a b ≡ Equal) ↔ IsTrue (test a b)

-- the test is equality: two values pass it iff they are the same
abbrev pub IsEquality : {A : Type 0} → (A → A → Bool) → Type 0
IsEquality {A} test = (a b : A) → IsTrue (test a b) ↔ (a ≡ b)

-- a hasher gets seconds, then the offset
abbrev pub FeedsParts : (Time → HashWrites) → Type 0
FeedsParts feed = (t : Time) → feed t ≡ fed.i64 t.seconds ++ fed.i32 t.offset

-- equal times hash alike: two times that pass the test feed a hasher the same
abbrev pub FeedsAlike : (Time → Time → Bool) → (Time → HashWrites) → Type 0
FeedsAlike test feed = (a b : Time) → IsTrue (test a b) → feed a ≡ feed b

-- How long a header text is, and where there is one.
use Rattle.std.proofs.Common.{◌≡◌, ℕ, ◌+◌, Bool, true, false, cond, List, length, arith, length-append, refl, Some, None, Err, ℤ, pos}
use Rattle.std.proofs.Common.{negsuc, ◌<◌}
use Rattle.std.proofs.lemmas.Bool.Decides.{nat_tests}
use Rattle.std.proofs.lemmas.Int.{ints}
use Rattle.std.specs.Prelude.{IfSome, IsSome, unsigned_abs, nat_lt}
use Rattle.jiff.specs.Words.{IsOffsetSeconds}
use Rattle.gix_date.specs.Header.Text.{header_text}
use Rattle.gix_date.specs.Text.Numbers.{decimal_text}
use Rattle.gix_date.specs.Header.TimeBuf.{HoldsText}
use Rattle.gix_date.specs.declared.error.Error.{Error}
use Rattle.gix_date.specs.declared.error.Error.TheVariants.{OffsetTooWide}
use Rattle.gix_date.specs.declared.time.Time.{Time}
use Rattle.gix_date.specs.declared.time.TheConstants.{HUNDRED_HOURS}

some_of : (b : Bool) (xs : List ℕ) (P : List ℕ → Type 0) → P xs → IfSome (cond b (Some xs) None) P
some_of true xs P h = h
some_of false xs P h = tt

-- six bytes more than its seconds
pub length_header_text : (t : Time) (n : ℕ) → n ≡ length (decimal_text t.seconds) + 6 → IfSome (header_text t) (λ text. n ≡ length text)
unfolding header_text
length_header_text t n h = grind (arith, some_of, length-append)

is_some_of : (b : Bool) (xs : List ℕ) → b ≡ true → IsSome (cond b (Some xs) None)
is_some_of true xs h = refl
is_some_of false xs h = cc

short_of : (offset : ℤ) → IsOffsetSeconds offset → unsigned_abs offset < HUNDRED_HOURS
short_of (pos n) h = grind (arith, ints, h.1)
short_of (negsuc n) h = grind (arith, ints, h.0)

-- an offset that a zone can have is short of 100 hours
pub fitting_has_text : (t : Time) → IsOffsetSeconds t.offset → IsSome (header_text t)
unfolding header_text
fitting_has_text t h = is_some_of (nat_lt (unsigned_abs t.offset) HUNDRED_HOURS) _ (grind (arith, nat_tests, short_of t.offset h))

-- a time whose text no buffer could hold has none
pub no-text-held : (t : Time) (refusal : Error) → HoldsText t (Err refusal) → header_text t ≡ None
no-text-held t OffsetTooWide h = h
no-text-held t _ h = absurd h

-- Runs of what is kept, that a sink takes one after the other.
use Rattle.std.proofs.Common.{arith, ◌≡◌, ◌∙◌, ℕ, Bool, List, ◌++◌, take, drop, Err, sym, ap, subst, append_assoc, rules}
use Rattle.std.specs.List.{filter, prefix_len}
use Rattle.std.specs.declared.io.ErrorKind.{ErrorKind}
use Rattle.gix_date.specs.Devices.StreamState.{StreamState, Takes}
use Rattle.gix_signature.specs.Writing.{Puts}
use Rattle.gix_signature.proofs.Pieces.{Puts-more, Puts-after, Takes-then}
use Rattle.gix_signature.proofs.Texts.{kept-run}
use Rattle.gix_signature.specs.Ident.Bytes.{is_kept}
use Rattle.gix_signature.proofs.lines.put_kept.Goals as goal

-- what is kept of a rest: its first run, and what is kept of the rest after that
whole : (p : ℕ → Bool) (text rest written run : List ℕ) → filter p text ≡ written ++ filter p rest → run ≡ take (prefix_len p rest) rest
    → filter p text ≡ written ++ (run ++ filter p (drop 1 (drop (prefix_len p rest) rest)))
whole p text rest written run e is = grind (arith, kept-run)

-- a fault within a run is one within the whole
cut-within : (old mid new : StreamState) (p : ℕ → Bool) (text rest written run : List ℕ) (kind : ErrorKind)
    → filter p text ≡ written ++ filter p rest
    → run ≡ take (prefix_len p rest) rest → Takes old mid written → Puts mid new run (Err kind) → Puts old new (filter p text) (Err kind)
cut-within old mid new p text rest written run kind e is h k =
    let after = filter p (drop 1 (drop (prefix_len p rest) rest)) in
    subst (λ t. Puts old new t (Err kind)) (sym (whole p text rest written run e is))
    (Puts-after old mid new written (run ++ after) (Err kind) h (Puts-more mid new run after kind k))

-- what was taken so far, and a run more
one-run-more : (old mid new : StreamState) (p : ℕ → Bool) (text rest next written run : List ℕ) → filter p text ≡ written ++ filter p rest
    → run ≡ take (prefix_len p rest) rest → next ≡ drop 1 (drop (prefix_len p rest) rest) → Takes old mid written → Takes mid new run
    → (all : List ℕ) × (filter p text ≡ all ++ filter p next) × Takes old new all
one-run-more old mid new p text rest next written run e is then h k = (
  written ++ run,
  whole p text rest written run e is ∙ sym (append_assoc written run (filter p (drop 1 (drop (prefix_len p rest) rest))))
      ∙ ap (λ ys. (written ++ run) ++ filter p ys) (sym then),
  Takes-then old mid new written run h k,
)

pub returns-in_err-put_bytes : goal.returns-in_err-put_bytes
returns-in_err-put_bytes g c =
    let rest = c.loop-rest.rest.now in
    let old = g.W.Sink.known c.args.out.now in
    let mid = g.W.Sink.known c.loop-rest.out in
    let new = g.W.Sink.known c.put_bytes.new.out in
    let kind = c.in_err-put_bytes.field-0.0 in
    let run : c.split_at.result.0.now ≡ take (prefix_len is_kept rest) rest = c.split_at.ensures.front
    ∙ ap (λ (n : ℕ). take n rest) c.kept_len.ensures.value in
    let fact : Puts old new (filter is_kept c.args.text.now) (Err kind) =
    cut-within old mid new is_kept c.args.text.now rest c.loop-rest.invariant.0 _ kind c.loop-rest.invariant.1 run c.loop-rest.invariant.2
    c.in_err-put_bytes.ensures in
    search (rules, fact)

pub loop-rest-preserved : goal.loop-rest-preserved
loop-rest-preserved g c =
    let rest = c.loop-rest.rest.now in
    let old = g.W.Sink.known c.args.out.now in
    let mid = g.W.Sink.known c.loop-rest.out in
    let new = g.W.Sink.known c.put_bytes.new.out in
    let run : c.split_at.result.0.now ≡ take (prefix_len is_kept rest) rest = c.split_at.ensures.front
    ∙ ap (λ (n : ℕ). take n rest) c.kept_len.ensures.value in
    let next : c.after_one-rest.result.now ≡ drop 1 (drop (prefix_len is_kept rest) rest) =
    c.after_one-rest.ensures
    ∙ ap (λ (xs : List ℕ). drop 1 xs) (c.split_at.ensures.back ∙ ap (λ (n : ℕ). drop n rest) c.kept_len.ensures.value) in
    one-run-more old mid new is_kept c.args.text.now rest c.after_one-rest.result.now c.loop-rest.invariant.0 c.split_at.result.0.now
    c.loop-rest.invariant.1 run next c.loop-rest.invariant.2 c.in_ok-put_bytes.ensures

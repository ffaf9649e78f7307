use Rattle.std.proofs.Common.{◌≡◌, ◌∙◌, ◌<◌, length, sym, ap, arith, true, false, refl}
use Rattle.gix_date.specs.Careful.Texts.{in_word, is_clear_at, may_stand_after, separates}
use Rattle.gix_date.proofs.Careful.Failures.{stopped, ended}
use Rattle.gix_date.proofs.Careful.WholeWords.{walked-none, walked-gap, walked-word, word-clear, gap-clear}
use Rattle.gix_date.proofs.parsing.relative.pairs.unclear_place.Goals.{After-may_stand_after, After-separates}
use Rattle.gix_date.proofs.parsing.relative.pairs.unclear_place.Goals as goal

pub loop-place-init : goal.loop-place-init
loop-place-init c = record { bytes = c.as_bytes-bytes.ensures.value; walked = walked-none c.args.text.now c.utf8.text }

-- the place is within the text, and a word is clear there as the code finds
word-here : (c : After-may_stand_after) → (c.loop-place.place < length c.args.text.now)
    × (in_word c.args.text.now c.loop-place.place ≡ true) × (is_clear_at c.args.text.now c.loop-place.place ≡ c.may_stand_after.result)
word-here c =
    let text = c.args.text.now in
    let place = c.loop-place.place in
    let word : in_word text place ≡ true = ap (λ bs. in_word bs place) (sym c.as_bytes-bytes.ensures.value)
    ∙ sym c.is_ascii_alphanumeric.ensures.value ∙ c.if-is_ascii_alphanumeric.true in
    let fits = c.may_stand_after.ensures ∙ ap (may_stand_after _) c.word_at-word.ensures in (
      omega (arith, c.loop-place-test.true, ap length c.as_bytes-bytes.ensures.value),
      word,
      word-clear text place _ _ c.loop-place.invariant.walked word fits,
    )

pub returns-then-not-may_stand_after-clause-place : goal.returns-then-not-may_stand_after-clause-place
returns-then-not-may_stand_after-clause-place c =
    let h = word-here (goal.at.returns-then-not-may_stand_after-clause-place c).After-may_stand_after in
    stopped c.args.text.now c.loop-place.place c.loop-place.invariant.walked.clear (h.2 ∙ c.if-not-may_stand_after.true) h.0

pub loop-place-preserved-then-is_ascii_alphanumeric : goal.loop-place-preserved-then-is_ascii_alphanumeric
loop-place-preserved-then-is_ascii_alphanumeric c =
    let h = word-here (goal.at.loop-place-preserved-then-is_ascii_alphanumeric c).After-may_stand_after in
    record {
      bytes = c.as_bytes-bytes.ensures.value;
      walked = walked-word c.args.text.now c.loop-place.place _ c.word_at-word.result.now c.utf8.text c.loop-place.invariant.walked h.0 h.1
          (h.2 ∙ c.if-not-may_stand_after.false) c.word_at-word.ensures;
    }

-- the same of a byte that is in no word
gap-here : (c : After-separates) → (c.loop-place.place < length c.args.text.now) × (in_word c.args.text.now c.loop-place.place ≡ false)
    × (is_clear_at c.args.text.now c.loop-place.place ≡ c.separates.result)
gap-here c =
    let text = c.args.text.now in
    let place = c.loop-place.place in
    let gap : in_word text place ≡ false = ap (λ bs. in_word bs place) (sym c.as_bytes-bytes.ensures.value)
    ∙ sym c.is_ascii_alphanumeric.ensures.value ∙ c.if-is_ascii_alphanumeric.false in
    let fits : c.separates.result ≡ separates text place = c.separates.ensures
    ∙ ap (λ bs. separates bs place) c.as_bytes-bytes.ensures.value in (
      omega (arith, c.loop-place-test.true, ap length c.as_bytes-bytes.ensures.value),
      gap,
      gap-clear text place _ c.loop-place.invariant.walked gap ∙ sym fits,
    )

pub returns-then-not-separates-clause-place : goal.returns-then-not-separates-clause-place
returns-then-not-separates-clause-place c =
    let h = gap-here (goal.at.returns-then-not-separates-clause-place c).After-separates in
    stopped c.args.text.now c.loop-place.place c.loop-place.invariant.walked.clear (h.2 ∙ c.if-not-separates.true) h.0

pub returns-then-not-separates-clause-boundary : goal.returns-then-not-separates-clause-boundary
returns-then-not-separates-clause-boundary c = c.loop-place.invariant.walked.boundary

pub loop-place-preserved : goal.loop-place-preserved
loop-place-preserved c =
    let h = gap-here (goal.at.loop-place-preserved c).After-separates in
    record {
      bytes = c.as_bytes-bytes.ensures.value;
      walked = walked-gap c.args.text.now c.loop-place.place _ _ c.utf8.text c.loop-place.invariant.walked h.0 h.1
          (h.2 ∙ c.if-not-separates.false) refl;
    }

pub returns-then-ends_in_ago-clause-place : goal.returns-then-ends_in_ago-clause-place
returns-then-ends_in_ago-clause-place c =
    let text = c.args.text.now in
    let w = c.loop-place.invariant.walked in
    let end : c.loop-place.place ≡ length text =
    omega (arith, c.loop-place-test.false, w.within, ap length c.as_bytes-bytes.ensures.value) in
    sym (ended text c.loop-place.place _ true w.clear w.last end (sym c.if-ends_in_ago.true ∙ c.ends_in_ago.ensures))

pub returns-clause-place : goal.returns-clause-place
returns-clause-place c =
    let text = c.args.text.now in
    let w = c.loop-place.invariant.walked in
    let end : c.loop-place.place ≡ length text =
    omega (arith, c.loop-place-test.false, w.within, ap length c.as_bytes-bytes.ensures.value) in
    sym (ended text c.loop-place.place _ false w.clear w.last end (sym c.if-ends_in_ago.false ∙ c.ends_in_ago.ensures))

pub returns-clause-boundary : goal.returns-clause-boundary
returns-clause-boundary c = c.loop-place.invariant.walked.boundary

-- What is left to read of a text.
use Rattle.std.proofs.Common.{◌≡◌, ◌∙◌, ◌<◌, ◌≤◌, ℕ, zero, suc, Bool, true, false, cond, List, [], ◌∷◌, length, refl, ap, sym, arith}
use Rattle.std.proofs.Common.{Option, Result, Ok, Err}
use Rattle.git_date.specs.Approximate.Reading.{Read}
use Rattle.git_date.specs.Approximate.Reading as approximate
use Rattle.git_date.specs.Exact.Zones.{States}
use Rattle.git_date.specs.Tokens.Tokens.{Token, tokens, bytes_left, texts, is_end, walked}
use Rattle.git_date.specs.Rules.Digits.{Stepped}
use Rattle.git_date.specs.Exact.Reading.{read_on, rule}
use Rattle.git_date.specs.Exact.Reading as exact
use Rattle.git_date.specs.declared.approximate.Today.{Today}
use Rattle.git_date.specs.declared.approximate.drafts.Draft.{Draft}
use Rattle.git_date.specs.declared.fields.dates.Now.{Now}
use Rattle.git_date.specs.declared.error.Fault.{Fault}
use Rattle.git_date.specs.declared.fields.Fields.{Fields}
use Rattle.git_date.specs.declared.reader.Reading.{Reading}
use Rattle.git_date.proofs.Text.TokenRuns.{texts_are}
use Rattle.git_date.proofs.Text.Walked.{Go, Step, nothing-left}
use Rattle.git_date.specs.Tokens.Steps.{and_then}

-- what stands in `rest`, read after this, gives what the whole text does; there are steps enough
pub record Left {S : Type 0} (step : Step S) (whole : Result S Fault) (rest : List ℕ) (s : S) : Type 0 where
  pub count : ℕ
  pub enough : length rest ≤ count
  pub same : walked step count s (tokens rest) ≡ whole

pub left-all : {S : Type 0} (step : Step S) (text : List ℕ) (s : S) → Left step (walked step (length text) s (tokens text)) text s
left-all step text s = record { count = length text; enough = omega arith; same = refl }

pub left-none : {S : Type 0} (step : Step S) (whole : Result S Fault) (rest : List ℕ) (s : S) → Left step whole rest s → tokens rest ≡ []
    → Ok s ≡ whole
left-none step whole rest s left e = sym (nothing-left step left.count s) ∙ ap (walked step left.count s) (sym e) ∙ left.same

first-by : {S : Type 0} (step : Step S) (whole : Result S Fault) (n : ℕ) (rest after : List ℕ) (s : S) (t : Token) → length rest ≤ n
    → walked step n s (tokens rest) ≡ whole → tokens rest ≡ t ∷ tokens after → length after < length rest
    → (m : ℕ) × (length after ≤ m) × (step s t (tokens after) (λ next more. walked step m next more) ≡ whole)
unfolding walked
first-by step whole zero rest after s t enough same e shorter = absurd (omega arith)
first-by step whole (suc n) rest after s t enough same e shorter = (n, omega arith, ap (walked step (suc n) s) (sym e) ∙ same)

-- a step that ends the reading
pub left-ends : {S : Type 0} (step : Step S) (whole value : Result S Fault) (rest after : List ℕ) (s : S) (t : Token)
    → Left step whole rest s
    → tokens rest ≡ t ∷ tokens after → length after < length rest → ((go : Go S) → step s t (tokens after) go ≡ value) → value ≡ whole
left-ends step whole value rest after s t left e shorter is =
    let found = first-by step whole left.count rest after s t left.enough left.same e shorter in
    sym (is (λ next more. walked step found.0 next more)) ∙ found.2

-- one that goes on
pub left-next : {S : Type 0} (step : Step S) (whole : Result S Fault) (rest after further : List ℕ) (s next : S) (t : Token)
    → Left step whole rest s
    → tokens rest ≡ t ∷ tokens after → length after < length rest → ((go : Go S) → step s t (tokens after) go ≡ go next (tokens further))
    → length further ≤ length after → Left step whole further next
left-next step whole rest after further s next t left e shorter is less =
    let found = first-by step whole left.count rest after s t left.enough left.same e shorter in
    record { count = found.0; enough = omega (arith, found.1); same = sym (is (λ next more. walked step found.0 next more)) ∙ found.2 }

-- steps of the exact reader
stepped : (now : Now) (r : Reading) (t : Token) (more : List Token) (b : Bool) (s : Stepped) (go : Go Reading) → is_end t ≡ b
    → rule now r.fields t more ≡ s
    → exact.step now r t more go ≡ cond b (Ok r) (and_then s (λ next. go (read_on r (bytes_left (t ∷ more)) next.0) next.1))
stepped now r t more b s go e is = rw (e, is) refl

pub step-end : (now : Now) (r : Reading) (t : Token) (more : List Token) → is_end t ≡ true → (go : Go Reading)
    → exact.step now r t more go ≡ Ok r
step-end now r t more e go = stepped now r t more true (rule now r.fields t more) go e refl

pub step-refused : (now : Now) (r : Reading) (t : Token) (more : List Token) (fault : Fault) → is_end t ≡ false
    → Err fault ≡ rule now r.fields t more
    → (go : Go Reading) → exact.step now r t more go ≡ Err fault
step-refused now r t more fault e is go = stepped now r t more false (Err fault) go e (sym is)

-- so many bytes are left from a token on
bytes-at : (rest after : List ℕ) (t : Token) → tokens rest ≡ t ∷ tokens after → bytes_left (t ∷ tokens after) ≡ length rest
bytes-at rest after t e = ap (λ (ts : List Token). length (texts ts)) (sym e) ∙ ap (λ (bytes : List ℕ). length bytes) (texts_are rest)

pub step-next : (now : Now) (rest after further : List ℕ) (r : Reading) (next : Option Fields) (t : Token) → tokens rest ≡ t ∷ tokens after
    → is_end t ≡ false
    → Ok (next, tokens further) ≡ rule now r.fields t (tokens after)
    → (go : Go Reading) → exact.step now r t (tokens after) go ≡ go (read_on r (length rest) next) (tokens further)
step-next now rest after further r next t e on is go =
    stepped now r t (tokens after) false (Ok (next, tokens further)) go on (sym is)
    ∙ ap (λ (left : ℕ). go (read_on r left next) (tokens further)) (bytes-at rest after t e)

-- steps of the approximate reader
abbrev draft_step : States → Today → Step Draft
draft_step zone today d t more go = approximate.approximate_step zone today d t more go

pub draft-refused : (zone : States) (today : Today) (d : Draft) (t : Token) (more : List Token) (fault : Fault)
    → Err fault ≡ approximate.approximate_rule zone today d t more
    → (go : Go Draft) → draft_step zone today d t more go ≡ Err fault
draft-refused zone today d t more fault is go = ap (λ (s : Read). and_then s (λ next. go next.0 next.1)) (sym is)

pub draft-next : (zone : States) (today : Today) (d next : Draft) (t : Token) (more rest : List Token)
    → Ok (next, rest) ≡ approximate.approximate_rule zone today d t more
    → (go : Go Draft) → draft_step zone today d t more go ≡ go next rest
draft-next zone today d next t more rest is go = ap (λ (s : Read). and_then s (λ next. go next.0 next.1)) (sym is)

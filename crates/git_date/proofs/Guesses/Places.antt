-- Where the places of approximate answers and of their refusals are: at characters of the text.
use Rattle.std.proofs.Common.{◌≡◌, ◌∙◌, ap, subst, pos, ℕ, List, [], length, sym, Option, Some, None, IfSome, Result, Ok, Err}
use Rattle.std.specs.Prelude.{◌||◌, bytes_eq, codes}
use Rattle.std.specs.Int.Signed.{le_z}
use Rattle.jiff.specs.declared.zoned.Zoned.{Zoned}
use Rattle.gix_date.specs.Relative.Steps.{zone_of}
use Rattle.gix_date.specs.declared.time.Time.{Time}
use Rattle.git_date.specs.Approximate.Reading.{draft_of, answer, answer_of, guess_by, answer_up_to, string_guess, guess, is_unreadable}
use Rattle.git_date.specs.Approximate.Reading.{exact_or_guess, approximate, HasApproximatePlacesIn}
use Rattle.git_date.specs.Approximate.Drafts.{first_draft, settle}
use Rattle.git_date.specs.Approximate.Expiry.{expiry_of, expiry_by, fixed_expiry, HasExpiryPlacesIn}
use Rattle.git_date.specs.Approximate.Zones.{shown_in, filled_time}
use Rattle.git_date.specs.Exact.Zones.{States, states_of}
use Rattle.git_date.specs.Rules.Dates.{now_of}
use Rattle.git_date.specs.Exact.Outcome.{date_of, HasPlacesIn}
use Rattle.git_date.specs.Exact.Reading.{said_by}
use Rattle.git_date.specs.Tokens.Strings.{before_nul, nul_place}
use Rattle.git_date.specs.Tokens.Tokens.{tokens}
use Rattle.git_date.specs.declared.approximate.Approximate.{Approximate}
use Rattle.git_date.specs.declared.approximate.Today.{Today}
use Rattle.git_date.specs.declared.approximate.drafts.Draft.{Draft}
use Rattle.git_date.specs.declared.approximate.expiry.Expiry.{Expiry}
use Rattle.git_date.specs.declared.approximate.zone.ZoneClock.{ZoneClock}
use Rattle.git_date.specs.declared.reader.ExactDate.{ExactDate}
use Rattle.git_date.specs.declared.fields.dates.Now.{Now}
use Rattle.git_date.specs.declared.error.DateError.{DateError}
use Rattle.git_date.specs.declared.error.Fault.{Fault}
use Rattle.git_date.specs.declared.error.Fault.TheVariants as fault
use Rattle.git_date.proofs.Rules.Kept.{IsFaultAt, IsAt, either}
use Rattle.git_date.proofs.Guesses.KeptDrafts.{IsDraftedAt, settle-at, steps-on}
use Rattle.git_date.proofs.Exact.Places.{Ends, IsPlaceOf, kept, runs-of, ignored-in, up-to-in, error-before, places}
use Rattle.git_date.proofs.Text.TokenRuns.{texts_are}

-- the place of what is ignored in the end, or that of a refusal
abbrev IsGivenAt : (ℕ → Type 0) → Result Draft Fault → Type 0
IsGivenAt P (Ok d) = IsAt P (settle d).ignored
IsGivenAt P (Err e) = IsFaultAt P e

given-at : (P : ℕ → Type 0) (given : Result Draft Fault) → IsDraftedAt P given → IsGivenAt P given
given-at P (Ok d) h = (settle-at P d h).1
given-at P (Err fault) h = h

draft-at : (zone : States) (today : Today) (text : List ℕ) → IsGivenAt (IsPlaceOf text) (draft_of zone today text)
unfolding draft_of
draft-at zone today text =
    given-at (IsPlaceOf text) _
    (steps-on (IsPlaceOf text) (Ends text) (kept text) zone today (length text) (first_draft today.shown) (tokens text)
    ([], sym (texts_are text), runs-of text) (tt, tt))

-- the places of an answer
answer-in : (text : List ℕ) (d : Draft) (time : Option Time) → IsAt (IsPlaceOf text) d.ignored
    → HasApproximatePlacesIn text (answer text d time)
answer-in text d None h = tt
answer-in text d (Some time) h = either (HasApproximatePlacesIn text) (le_z (pos 0) time.seconds) _ _ (ignored-in text d.ignored h) tt

answer-of-in : (zone : States) (today : Today) (text : List ℕ) (given : Result Draft Fault) → IsGivenAt (IsPlaceOf text) given
    → HasApproximatePlacesIn text (answer_of zone today text given)
answer-of-in zone today text (Ok d) h = answer-in text (settle d) (filled_time zone today.shown.clock (settle d).last (settle d).fields) h
answer-of-in zone today text (Err fault.Range) h = tt
answer-of-in zone today text x h = h

guess-by-in : (zone : States) (now : Now) (text : List ℕ) (shown : Option ZoneClock)
    → HasApproximatePlacesIn text (guess_by zone now text shown)
guess-by-in zone now text None = tt
guess-by-in zone now text (Some shown) =
    let today : Today = record { now = now; shown = shown } in
    answer-of-in zone today text (draft_of zone today text) (draft-at zone today text)

string-guess-in : (zone : States) (now : Now) (text : List ℕ) → HasApproximatePlacesIn text (string_guess zone now text)
unfolding string_guess
string-guess-in zone now text = guess-by-in zone now text (shown_in zone now.seconds)

answer-up-to-in : (text : List ℕ) (found : Result Approximate DateError) → HasApproximatePlacesIn (before_nul text) found
    → HasApproximatePlacesIn text (answer_up_to (nul_place text) found)
answer-up-to-in text (Ok date) h = up-to-in text date.ignored h
answer-up-to-in text (Err e) h = error-before text e h

guess-in : (zone : States) (now : Now) (text : List ℕ) → HasApproximatePlacesIn text (guess zone now text)
unfolding guess
guess-in zone now text = answer-up-to-in text (string_guess zone now (before_nul text)) (string-guess-in zone now (before_nul text))

exact-or-in : (text : List ℕ) (exact : Result ExactDate DateError) (guessed : Result Approximate DateError) → HasPlacesIn text exact
    → HasApproximatePlacesIn text guessed → HasApproximatePlacesIn text (exact_or_guess exact guessed)
exact-or-in text (Ok date) guessed h g = h
exact-or-in text (Err e) guessed h g = either (HasApproximatePlacesIn text) (is_unreadable e) guessed (Err e) g h

approximate-places : (moment : Zoned) (text : List ℕ) → HasApproximatePlacesIn text (approximate moment text)
approximate-places moment text =
    exact-or-in text (date_of (zone_of moment) (said_by (now_of moment) text)) (guess (states_of (zone_of moment)) (now_of moment) text)
    (places (zone_of moment) (now_of moment) text) (guess-in (states_of (zone_of moment)) (now_of moment) text)

-- what expires
dated-in : (text : List ℕ) (date : Result Approximate DateError) → HasApproximatePlacesIn text date
    → HasExpiryPlacesIn text (expiry_of date)
dated-in text (Ok date) h = either (HasExpiryPlacesIn text) date.understood _ _ h tt
dated-in text (Err e) h = h

abbrev HasNoPlaces : List ℕ → Option Expiry → Type 0
HasNoPlaces text fixed = IfSome fixed (λ said. HasExpiryPlacesIn text (Ok said))

fixed-in : (text word : List ℕ) → HasNoPlaces text (fixed_expiry word)
fixed-in text word =
    either (HasNoPlaces text) (bytes_eq word (codes "never") || bytes_eq word (codes "false")) _ _ tt
    (either (HasNoPlaces text) (bytes_eq word (codes "all") || bytes_eq word (codes "now")) _ _ tt tt)

expiry-by-in : (moment : Zoned) (text : List ℕ) (fixed : Option Expiry) → HasNoPlaces text fixed
    → HasExpiryPlacesIn text (expiry_by moment text fixed)
expiry-by-in moment text (Some said) fixed = fixed
expiry-by-in moment text None fixed = dated-in text (approximate moment text) (approximate-places moment text)

pub expiry_places : (moment : Zoned) (text : List ℕ) → HasExpiryPlacesIn text (expiry_by moment text (fixed_expiry (before_nul text)))
expiry_places moment text = expiry-by-in moment text (fixed_expiry (before_nul text)) (fixed-in text (before_nul text))

-- those of an answer that is guessed where there is no exact one
pub guessed_places : (moment : Zoned) (text : List ℕ) (e : DateError) (found : Result Approximate DateError)
    → found ≡ exact_or_guess (Err e) (guess (states_of (zone_of moment)) (now_of moment) text)
    → Err e ≡ date_of (zone_of moment) (said_by (now_of moment) text)
    → HasApproximatePlacesIn text found
guessed_places moment text e found is exact =
    let whole : found ≡ approximate moment text =
    is ∙ ap (λ (exact : Result ExactDate DateError). exact_or_guess exact (guess (states_of (zone_of moment)) (now_of moment) text))
    exact in
    subst (HasApproximatePlacesIn text) (sym whole) (approximate-places moment text)

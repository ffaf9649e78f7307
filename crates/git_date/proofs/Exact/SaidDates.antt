-- What a text says whatever the moment, as a date whatever the zone.
use Rattle.std.proofs.Common.{◌≡◌, ◌∙◌, ℤ, List, ℕ, IfSome, Some, None, Result, Ok, sym, ap, subst}
use Rattle.jiff.specs.Types.{TimeZone}
use Rattle.git_date.specs.Exact.Fast.{Says, SaysDate, SaysFields, Tells, said_alone}
use Rattle.git_date.specs.Exact.Reading.{said_by, fields_said}
use Rattle.git_date.specs.declared.fields.Fields.{Fields}
use Rattle.git_date.specs.Exact.Outcome.{HasPlacesIn, IsPlaceIn, at_offset, date_at, date_of}
use Rattle.git_date.specs.declared.fields.dates.Now.{Now}
use Rattle.git_date.proofs.Exact.Places.{places}
use Rattle.git_date.specs.declared.error.DateError.{DateError}
use Rattle.git_date.specs.declared.reader.ExactDate.{ExactDate}
use Rattle.git_date.specs.declared.reader.Said.{Said}

-- by its own offset
pub said_is_date : (text : List ℕ) (said : Said) (minutes : ℤ) (date : ExactDate) (answer : Result ExactDate DateError) → Says text said
    → said.offset ≡ Some minutes → answer ≡ date_at said minutes → answer ≡ Ok date → SaysDate text date
said_is_date text said minutes date answer says offset is e = λ now tz.
    ap (date_of tz) (says now) ∙ ap (at_offset tz said) offset ∙ sym is ∙ e

-- what it ignores has a place in the text
pub said_places : (now : Now) (tz : TimeZone) (text : List ℕ) (date : ExactDate) → SaysDate text date → IfSome date.ignored (IsPlaceIn text)
said_places now tz text date h = subst (HasPlacesIn text) (h now tz) (places tz now text)

-- without an offset
pub seconds_tell : (text : List ℕ) (n : ℕ) → Says text (said_alone n) → Tells text (Ok (said_alone n))
unfolding Tells
seconds_tell text n says = says

pub fields_tell : (text : List ℕ) (f : Fields) (said : Result Said DateError) → SaysFields text f
    → said ≡ fields_said text (Ok (record { fields = f; ignored = None })) → Tells text said
unfolding Tells
fields_tell text f said says made now = says now ∙ sym made

pub told : (text : List ℕ) (now : Now) (said : Result Said DateError) → Tells text said → said_by now text ≡ said
unfolding Tells
told text now said tells = tells now

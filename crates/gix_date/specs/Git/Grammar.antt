-- What Git's own forms are made of, as facts.
use Rattle.std.specs.Prelude.{◌≡◌, ◌≤◌, ◌⊎◌, ℕ, ℤ, pos, true, false, List, [], ◌∷◌, ◌++◌, Some, None}
use Rattle.std.specs.Char.{is_ascii}
use Rattle.std.specs.List.{list_all, slice_split, before_first}
use Rattle.std.specs.Str.{trim}
use Rattle.gix_date.specs.Fields.FieldTexts.{AreDigits, IsPair, IsSign, IsYear}
use Rattle.gix_date.specs.Fields.Civil.{civil_instant}
use Rattle.gix_date.specs.Fields.ClockNumbers.{max_hour, max_minute, max_second}
use Rattle.gix_date.specs.Fields.Offsets.{offset_of}
use Rattle.gix_date.specs.Git.Cuts.{IsCut}
use Rattle.gix_date.specs.Git.Forms.{without_colons}
use Rattle.gix_date.specs.Text.Characters.{space, dot, minus, letter_t, letter_z, is_colon, is_dot, has_colon}
use Rattle.gix_date.specs.declared.clock.ClockFields.{ClockFields}
use Rattle.gix_date.specs.declared.clock.DateFields.{DateFields}
use Rattle.gix_date.specs.declared.parsing.offset.OffsetFields.{OffsetFields}
use Rattle.gix_date.specs.declared.time.Time.{Time}

-- the date of a Git text: four digits, two and two, with this mark between them, which write this date
pub record IsGitDate (mark text : List ℕ) (date : DateFields) : Type 0 where
  pub year : List ℕ
  pub month : List ℕ
  pub day : List ℕ
  pub whole : text ≡ year ++ (mark ++ (month ++ (mark ++ day)))
  pub is_year : IsYear year date.year
  pub is_month : IsPair month date.month
  pub is_day : IsPair day date.day

-- a Git date and the gap after it: `YYYY.MM.DD` and a space, `YYYYMMDD` and `T`, or `YYYY-MM-DD` and one of these
abbrev pub IsGitFront : List ℕ → List ℕ → DateFields → Type 0
IsGitFront text gap date =
    (IsGitDate (dot ∷ []) text date × (gap ≡ space ∷ []))
    ⊎ (IsGitDate [] text date × (gap ≡ letter_t ∷ []))
    ⊎ (IsGitDate (minus ∷ []) text date × ((gap ≡ letter_t ∷ []) ⊎ (gap ≡ space ∷ [])))

-- one digit or more, whose number is at most this
abbrev pub IsUpTo : ℕ → List ℕ → ℕ → Type 0
IsUpTo most text n = AreDigits text n × (n ≤ most)

-- What stands between colons: hours, perhaps minutes and perhaps seconds. What follows these is ignored.
abbrev pub AreClockParts : List (List ℕ) → ClockFields → Type 0
AreClockParts [] c = ⊥
AreClockParts (h ∷ []) c = IsUpTo max_hour h c.hour × (c.minute ≡ 0) × (c.second ≡ 0)
AreClockParts (h ∷ m ∷ []) c = IsUpTo max_hour h c.hour × IsUpTo max_minute m c.minute × (c.second ≡ 0)
AreClockParts (h ∷ m ∷ s ∷ more) c =
    IsUpTo max_hour h c.hour × IsUpTo max_minute m c.minute × IsUpTo max_second s c.second

-- two, four or six digits: hours, minutes and seconds
abbrev pub AreClockPairs : List ℕ → ClockFields → Type 0
AreClockPairs (a ∷ b ∷ []) c = IsPair (a ∷ b ∷ []) c.hour × (c.minute ≡ 0) × (c.second ≡ 0)
AreClockPairs (a ∷ b ∷ d ∷ e ∷ []) c =
    IsPair (a ∷ b ∷ []) c.hour × IsPair (d ∷ e ∷ []) c.minute × (c.second ≡ 0)
AreClockPairs (a ∷ b ∷ d ∷ e ∷ f ∷ g ∷ []) c =
    IsPair (a ∷ b ∷ []) c.hour × IsPair (d ∷ e ∷ []) c.minute × IsPair (f ∷ g ∷ []) c.second
AreClockPairs text c = ⊥

-- The clock of a Git text: the text before its first dot, trimmed, is ASCII and writes this clock, as parts between
-- colons or as two, four or six digits.
pub record IsGitClock (text : List ℕ) (c : ClockFields) : Type 0 where
  pub shown : List ℕ
  pub is_shown : shown ≡ trim (before_first is_dot text)
  pub ascii : list_all is_ascii shown ≡ true
  pub is : ((has_colon shown ≡ true) × AreClockParts (slice_split is_colon shown) c)
      ⊎ ((has_colon shown ≡ false) × AreClockPairs shown c)

-- The text is a sign, two digits of hours and perhaps two of minutes, colons aside, and writes this offset. Hours are at
-- most 23, and minutes at most 59.
pub record IsSignedOffset (text : List ℕ) (n : ℤ) : Type 0 where
  pub mark : ℕ
  pub body : List ℕ
  pub hours : List ℕ
  pub minutes : List ℕ
  pub fields : OffsetFields
  pub whole : text ≡ mark ∷ body
  pub digits : without_colons body ≡ hours ++ minutes
  pub is_mark : IsSign mark fields.sign
  pub are_hours : IsPair hours fields.hours × (fields.hours ≤ max_hour)
  pub are_minutes : (IsPair minutes fields.minutes × (fields.minutes ≤ max_minute))
      ⊎ ((minutes ≡ []) × (fields.minutes ≡ 0))
  pub no_seconds : fields.seconds ≡ None
  pub value : n ≡ offset_of fields

-- the text writes this offset: nothing or `Z` is 0, else it is signed digits
abbrev pub IsGitOffset : List ℕ → ℤ → Type 0
IsGitOffset text n =
    (((text ≡ []) ⊎ (text ≡ letter_z ∷ [])) × (n ≡ pos 0)) ⊎ IsSignedOffset text n

-- A text in one of Git's own forms: the trimmed text is a date, a gap and a rest, which is cut into a clock and an
-- offset. These have an instant.
pub record IsGitText (text : List ℕ) (t : Time) : Type 0 where
  pub day : List ℕ
  pub gap : List ℕ
  pub rest : List ℕ
  pub clock : List ℕ
  pub zone : List ℕ
  pub date : DateFields
  pub time : ClockFields
  pub whole : trim text ≡ day ++ (gap ++ rest)
  pub front : IsGitFront day gap date
  pub cut : IsCut (trim rest) clock zone
  pub is_clock : IsGitClock clock time
  pub is_offset : IsGitOffset zone t.offset
  pub is_instant : civil_instant date time t.offset ≡ Some t.seconds

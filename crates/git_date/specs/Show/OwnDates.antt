-- Dates as Git shows an identity line's own: by the clock of the line, with the offset as the line writes it.
use Rattle.std.specs.Prelude.{ℕ, List, [], ◌∷◌, ◌++◌, Bool, true, false, ◌||◌, ℤ, pos, neg_ℤ, if◌then◌else◌}
use Rattle.std.specs.Prelude.{Option, Some, None, Result, Ok, Err}
use Rattle.std.specs.Fmt.{decimal}
use Rattle.std.specs.Int.Signed.{lt_z}
use Rattle.std.specs.Option.{ok_or}
use Rattle.std.specs.Ordering.{int_eq}
use Rattle.gix_date.specs.Text.Characters.{space, colon, comma}
use Rattle.gix_date.specs.Text.Numbers.{two_digits, decimal_text}
use Rattle.gix_date.specs.Text.Names.{day_name, month_name}
use Rattle.gix_date.specs.Fields.FieldTexts.{four_digits, clock_text}
use Rattle.gix_date.specs.Fields.Layout.{LocalTime, Piece, Rfc2822DayName, MonthName, Day, Year, PlainDate, Clock, Spaces, LetterT}
use Rattle.gix_date.specs.Fields.Layout.{print_pieces}
use Rattle.gix_date.specs.Fields.Offsets.{offset_sign}
use Rattle.gix_date.specs.Printing.LocalClocks.{clock_of, local_seconds, last_of_year_9999}
use Rattle.gix_date.specs.Printing.NamedTexts.{short_text, bare_default_text}
use Rattle.gix_date.specs.declared.time.Time.{Time}
use Rattle.gix_signature.specs.Ident.Times.{time_of_git, offset_digits}
use Rattle.gix_signature.specs.declared.error.IdentFault.{IdentFault}
use Rattle.gix_signature.specs.declared.ident.GitTime.{GitTime}
use Rattle.git_date.specs.Exact.Decimals.{offset_to_decimal}
use Rattle.git_date.specs.Show.Ages.{relative_text}
use Rattle.git_date.specs.Show.Clocks.{Moment, zone_clock}
use Rattle.git_date.specs.Show.Dates.{shown_by}
use Rattle.git_date.specs.Show.Human.{distance_of, human_text}
use Rattle.git_date.specs.declared.mode.DateKind.{DateKind}
use Rattle.git_date.specs.declared.mode.DateKind.TheVariants.{Relative, Iso8601Strict, Iso8601, Rfc2822, Short, Default, Human, Raw, Unix}
use Rattle.git_date.specs.declared.mode.DateMode.{DateMode}
use Rattle.git_date.specs.declared.show.human.Distance.{Distance}
use Rattle.git_date.specs.declared.show.human.Distance.TheVariants.{FewDays}
use Rattle.git_date.specs.declared.show.own.OwnDateError.{OwnDateError}
use Rattle.git_date.specs.declared.show.own.OwnDateError.TheVariants.{Range, BeforeEpoch, OffsetTooWide}

-- the numbers of offsets of at most eight digits, as all are that a clock has
abbrev pub short_decimals : ℕ
short_decimals = 100_000_000

-- an offset by its decimal number, with nothing or a colon before the minutes: `+0060`, `+51800`, `+518:00`
abbrev pub written_offset_text : List ℕ → ℤ → List ℕ
written_offset_text mark offset = offset_sign offset ∷ offset_digits mark offset

-- an offset in seconds, as Git writes it
unfoldable pub offset_text : ℤ → List ℕ
offset_text offset = written_offset_text [] (offset_to_decimal offset)

-- a space and a written offset
abbrev pub spaced_offset_text : ℤ → List ℕ
spaced_offset_text offset = space ∷ written_offset_text [] offset

-- `-0001`, by which Git marks an unknown offset
abbrev pub unknown_decimal : ℤ
unknown_decimal = neg_ℤ (pos 1)

-- what a clock shows that has counted so many seconds, from 1970 on and in years of four digits
abbrev pub dated_clock : ℤ → Result LocalTime OwnDateError
dated_clock local =
    if lt_z local (pos 0) then Err BeforeEpoch
    else (if lt_z last_of_year_9999 local then Err Range else Ok (clock_of (record { seconds = local; offset = pos 0 })))

-- the clock of a time, unless its offset is too wide
abbrev pub clock_by : Result Time IdentFault → Result LocalTime OwnDateError
clock_by (Ok t) = dated_clock (local_seconds t)
clock_by (Err fault) = Err OffsetTooWide

-- what a line's own clock shows
unfoldable pub line_clock : GitTime → Result LocalTime OwnDateError
line_clock t = clock_by (time_of_git t)

-- the pieces of dates before their offset: `YYYY-MM-DDThh:mm:ss`, `YYYY-MM-DD hh:mm:ss` and `Www, D Mmm YYYY hh:mm:ss`
abbrev pub strict_front : List Piece
strict_front = PlainDate ∷ LetterT ∷ Clock ∷ []

abbrev pub iso_front : List Piece
iso_front = PlainDate ∷ Spaces ∷ Clock ∷ []

abbrev pub rfc2822_front : List Piece
rfc2822_front = Rfc2822DayName ∷ Day ∷ Spaces ∷ MonthName ∷ Spaces ∷ Year ∷ Spaces ∷ Clock ∷ []

-- what stands before the day of a mail's date: `Www, `
unfoldable pub before_day : LocalTime → List ℕ
before_day t = day_name t.weekday ++ comma ∷ space ∷ []

-- a text, and what stands after the day of a mail's date: ` Mmm YYYY hh:mm:ss`
unfoldable pub then_month : List ℕ → LocalTime → List ℕ
then_month text t = text ++ space ∷ month_name t.date.month ++ space ∷ four_digits t.date.year ++ space ∷ clock_text t.clock

-- the default date says no unknown offset
abbrev pub known_offset_text : ℤ → List ℕ
known_offset_text offset = if int_eq offset unknown_decimal then [] else spaced_offset_text offset

-- what a kind with a clock and nothing else shows of an offset and a clock
abbrev pub own_clock_text : DateKind → ℤ → LocalTime → List ℕ
own_clock_text Iso8601Strict offset t = print_pieces two_digits strict_front t ++ written_offset_text (colon ∷ []) offset
own_clock_text Iso8601 offset t = print_pieces two_digits iso_front t ++ spaced_offset_text offset
own_clock_text Rfc2822 offset t = print_pieces decimal rfc2822_front t ++ spaced_offset_text offset
own_clock_text Short offset t = short_text t
own_clock_text Default offset t = bare_default_text t ++ known_offset_text offset
own_clock_text _ offset t = []

-- after the clock of a few days ago a human date says the offset, if it is written otherwise than that of today
abbrev pub few_days_offset : Distance → ℤ → ℤ → List ℕ
few_days_offset FewDays offset today = if int_eq offset today then [] else spaced_offset_text offset
few_days_offset _ offset today = []

-- a human date: what it shows of a local clock, and the offset
abbrev pub own_human_text : ℤ → LocalTime → LocalTime → List ℕ → List ℕ
own_human_text offset t today age =
    human_text true t today age ++ few_days_offset (distance_of t.date today.date) offset (offset_to_decimal today.offset)

-- what is shown of a clock, if there is one
abbrev pub shown_of_clock : (LocalTime → Result (List ℕ) OwnDateError) → Result LocalTime OwnDateError → Result (List ℕ) OwnDateError
shown_of_clock show (Ok clock) = show clock
shown_of_clock show (Err e) = Err e

-- a human date needs the clock of now as well
abbrev pub human_by : Moment → GitTime → Option LocalTime → LocalTime → Result (List ℕ) OwnDateError
human_by now t (Some today) clock = Ok (own_human_text t.offset clock today (relative_text now.seconds t.seconds))
human_by now t None clock = Err Range

-- the kinds that show no offset of a time, and no clock
abbrev pub is_without_offset : DateKind → Bool
is_without_offset Relative = true
is_without_offset Unix = true
is_without_offset _ = false

-- what a kind with a clock and nothing else shows
abbrev pub own_clock_shown : DateKind → GitTime → Result (List ℕ) OwnDateError
own_clock_shown kind t = shown_of_clock (λ clock. Ok (own_clock_text kind t.offset clock)) (line_clock t)

-- what the other kinds show of a line's seconds and offset
abbrev pub own_date_shown_by : DateKind → Moment → GitTime → Result (List ℕ) OwnDateError
own_date_shown_by Raw now t = Ok (decimal_text t.seconds ++ spaced_offset_text t.offset)
own_date_shown_by Human now t = shown_of_clock (human_by now t (zone_clock now.zone now.seconds)) (line_clock t)
own_date_shown_by kind now t = own_clock_shown kind t

-- What Git shows of an identity line's time. A mode by the zone's clock and a kind without offset show what they show of any time
-- of these seconds. Before 1970 nothing is shown.
unfoldable pub own_date_shown : Moment → DateMode → GitTime → Result (List ℕ) OwnDateError
own_date_shown now mode t =
    if lt_z t.seconds (pos 0) then Err BeforeEpoch
    else (if mode.local
    || is_without_offset mode.kind then ok_or (shown_by mode.kind now mode.local (record { seconds = t.seconds; offset = pos 0 })) Range
    else own_date_shown_by mode.kind now t)

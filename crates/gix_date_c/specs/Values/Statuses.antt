-- The statuses that calls answer, and their numbers.
use Rattle.std.specs.Prelude.{ℕ, List, Result, Err, if◌then◌else◌}
use Rattle.std.specs.Str.{is_utf8}
use Rattle.gix_date_c.specs.declared.values.status.Status.{Status}
use Rattle.gix_date_c.specs.declared.values.status.Status.TheVariants as statuses

-- the number of a status, which a header has under the same name
abbrev pub number_of : Status → ℕ
number_of statuses.Done = 0
number_of statuses.NotText = 1
number_of statuses.NoSuchOption = 2
number_of statuses.NoRoom = 3
number_of statuses.InvalidTime = 4
number_of statuses.UnknownFormat = 5
number_of statuses.DateConversion = 6
number_of statuses.MissingNow = 7
number_of statuses.Range = 8
number_of statuses.InvalidInstant = 9
number_of statuses.InvalidZone = 10
number_of statuses.Conversion = 11
number_of statuses.OffsetTooWide = 12
number_of statuses.Pattern = 13
number_of statuses.Memory = 14
number_of statuses.NoSignature = 15
number_of statuses.BadPart = 16
number_of statuses.Unclear = 17
number_of statuses.Unreadable = 18
number_of statuses.NumberTooLarge = 19
number_of statuses.BackTooFar = 20
number_of statuses.YearRefused = 21
number_of statuses.GitRange = 22
number_of statuses.AfterYear9999 = 23
number_of statuses.FlagRefused = 24
number_of statuses.UnknownDirective = 25
number_of statuses.WidthTooLarge = 26
number_of statuses.NoIdentity = 27
number_of statuses.NulInPart = 28
number_of statuses.EmptyName = 29
number_of statuses.OnlyCrud = 30
number_of statuses.BeforeEpoch = 31
number_of statuses.ZoneCountsLeapSeconds = 32

-- what is answered of bytes that are text, and else that they are not
abbrev pub if_text : {T : Type 0} → List ℕ → Result T Status → Result T Status
if_text bytes answer = if is_utf8 bytes then answer else Err statuses.NotText

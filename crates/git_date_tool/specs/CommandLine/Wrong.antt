-- What may be wrong with a command line.
use Rattle.std.specs.Prelude.{ℕ, List, [], ◌++◌, Option, Some, None, option_map, codes}
use Rattle.std.specs.Borrow.{Bor}
use Rattle.std.specs.Fmt.{decimal}
use Rattle.git_date.specs.declared.format.error.FormatFault.{FormatFault}
use Rattle.git_date.specs.declared.format.error.FormatFault.TheVariants as formats
use Rattle.streams.specs.Moments.{no_moment_words}
use Rattle.git_date_tool.specs.declared.answers.NoWay.{NoWay}
use Rattle.git_date_tool.specs.declared.answers.NoWay.TheVariants.{Unknown, Format}
use Rattle.git_date_tool.specs.declared.program.arguments.Given.{Given}
use Rattle.git_date_tool.specs.declared.program.arguments.Given.TheVariants.{Now, Zone, As, Show}
use Rattle.git_date_tool.specs.declared.program.wrong.WrongWords.{WrongWords}
use Rattle.git_date_tool.specs.declared.program.wrong.WrongWords.TheVariants.{UnknownOption, NoValue, Twice, TwoDemands, UnknownReader}
use Rattle.git_date_tool.specs.declared.program.wrong.WrongWords.TheVariants.{UnknownMode, WrongFormat, LateOption, NotText, NoMoment}
use Rattle.git_date_tool.specs.declared.program.wrong.WrongWords.TheVariants.{NoZone}
use Rattle.git_date_tool.specs.declared.zones.ZoneFault.{ZoneFault}
use Rattle.git_date_tool.specs.declared.zones.ZoneFault.TheVariants as faults
use Rattle.git_date.specs.declared.zone_texts.TheConstants.{MACHINE_ZONE}
use Rattle.git_date_tool.specs.declared.zones.ZoneText.{ZoneText}
use Rattle.git_date_tool.specs.declared.zones.ZoneText.TheVariants as texts

-- what an option is called
abbrev pub option_text : Given → List ℕ
option_text Now = codes "--now"
option_text Zone = codes "--zone"
option_text As = codes "--as"
option_text Show = codes "--show"

-- what is said of a word: the word in quotes, and then this
abbrev pub about : List ℕ → List ℕ → List ℕ
about word text = codes "'" ++ (word ++ (codes "' " ++ text))

-- what is said, of a word if of one
abbrev pub about_any : Option (List ℕ) → List ℕ → List ℕ
about_any (Some word) text = about word text
about_any None text = text

-- a word of the code
abbrev pub subject_of : Option (Bor (List ℕ)) → Option (List ℕ)
subject_of word = option_map (λ w. w.now) word

-- the text that says no zone, or else the file of the machine
abbrev pub zone_subject : ZoneText → Option (List ℕ)
zone_subject (texts.Zone text) = Some text.now
zone_subject (texts.Tz text) = Some text.now
zone_subject texts.TzNotText = None
zone_subject texts.TzNoMemory = None
zone_subject texts.Machine = Some MACHINE_ZONE.now

-- the word that is wrong, where it is one
abbrev pub wrong_subject : WrongWords → Option (List ℕ)
wrong_subject (UnknownOption word) = Some word.now
wrong_subject (NoValue given) = Some (option_text given)
wrong_subject (Twice given) = Some (option_text given)
wrong_subject (TwoDemands word) = Some word.now
wrong_subject (UnknownReader word) = Some word.now
wrong_subject (UnknownMode word) = Some word.now
wrong_subject (WrongFormat word fault) = Some word.now
wrong_subject (LateOption word) = Some word.now
wrong_subject NotText = None
wrong_subject (NoMoment text why) = Some text.now
wrong_subject (NoZone text fault) = zone_subject text

abbrev pub no_option : List ℕ
no_option = codes "is no option; --help lists them, and a text may stand after --"

abbrev pub no_value : List ℕ
no_value = codes "has no value"

abbrev pub twice : List ℕ
twice = codes "is given twice"

abbrev pub two_demands : List ℕ
two_demands = codes "stands beside another --strict or --lenient"

abbrev pub no_reader : List ℕ
no_reader = codes "is no reader; expected exact, approxidate, careful, gix or header"

abbrev pub no_mode : List ℕ
no_mode = codes "is no way to show a date; expected one such as iso8601, human or RFC2822"

-- before and after the place of a format's fault
abbrev pub no_format : List ℕ
no_format = codes "is no format: the directive at byte "

abbrev pub format_fault_text : FormatFault → List ℕ
format_fault_text (formats.FlagRefused place) = codes " takes no flags and no width"
format_fault_text (formats.UnknownDirective place) = codes " is unknown"
format_fault_text (formats.WidthTooLarge place) = codes " has a width above 255"

-- the place, which counts from the format's start
abbrev pub format_fault_place : FormatFault → ℕ
format_fault_place (formats.FlagRefused place) = place
format_fault_place (formats.UnknownDirective place) = place
format_fault_place (formats.WidthTooLarge place) = place

-- why a name stands for no way to show a date
abbrev pub no_way : NoWay → List ℕ
no_way Unknown = no_mode
no_way (Format fault) = no_format ++ (decimal (format_fault_place fault) ++ format_fault_text fault)

abbrev pub late_option : List ℕ
late_option = codes "stands after a text; write options before all texts, or -- before these"

abbrev pub not_text : List ℕ
not_text = codes "a word is not UTF-8"

-- how begins what is said of it
abbrev pub zone_lead : ZoneText → List ℕ
zone_lead (texts.Zone text) = codes "is no zone: "
zone_lead (texts.Tz text) = codes "of TZ is no zone: "
zone_lead texts.TzNotText = codes "TZ says no zone: "
zone_lead texts.TzNoMemory = codes "TZ says no zone: "
zone_lead texts.Machine = codes "is no zone: "

-- why it says no zone
abbrev pub zone_fault_text : ZoneFault → List ℕ
zone_fault_text faults.NotText = codes "it is not UTF-8"
zone_fault_text faults.NoName = codes "there is none of this name; expected one such as Europe/Berlin, or a rule such as EST5EDT,M3.2.0,M11.1.0, and for --zone also an offset to 25:59, as +0800"
zone_fault_text faults.NoFolder =
    codes "for names a time zone database is missing; expected a rule such as EST5EDT,M3.2.0,M11.1.0, and for --zone also +0800"
zone_fault_text faults.CountsLeapSeconds = codes "its file counts leap seconds, as no time of Git does"
zone_fault_text faults.NoFile = codes "there is no such file"
zone_fault_text faults.Denied = codes "its file may not be read"
zone_fault_text faults.NotRegular = codes "it is a folder, a pipe or a device"
zone_fault_text faults.TooLarge = codes "its file has more than 1048576 bytes"
zone_fault_text faults.NotTzif = codes "its file is no TZif"

-- how what is said begins
abbrev pub wrong_lead : WrongWords → List ℕ
wrong_lead (WrongFormat word fault) = no_format
wrong_lead (NoMoment text why) = codes "is no moment: "
wrong_lead (NoZone text fault) = zone_lead text
wrong_lead _ = []

-- what is said of it then
abbrev pub wrong_text : WrongWords → List ℕ
wrong_text (UnknownOption word) = no_option
wrong_text (NoValue given) = no_value
wrong_text (Twice given) = twice
wrong_text (TwoDemands word) = two_demands
wrong_text (UnknownReader word) = no_reader
wrong_text (UnknownMode word) = no_mode
wrong_text (WrongFormat word fault) = format_fault_text fault
wrong_text (LateOption word) = late_option
wrong_text NotText = not_text
wrong_text (NoMoment text why) = no_moment_words why
wrong_text (NoZone text fault) = zone_fault_text fault

-- the place that is said between them, where there is one
abbrev pub wrong_place : WrongWords → Option ℕ
wrong_place (WrongFormat word fault) = Some (format_fault_place fault)
wrong_place _ = None

abbrev pub place_digits : Option ℕ → List ℕ
place_digits None = []
place_digits (Some place) = decimal place

-- what is said of what is wrong
abbrev pub wrong_words : WrongWords → List ℕ
wrong_words why = about_any (wrong_subject why) (wrong_lead why ++ (place_digits (wrong_place why) ++ wrong_text why))

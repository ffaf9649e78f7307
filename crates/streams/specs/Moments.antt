-- The moment that a word of a command line says, or why it is none.
use Rattle.std.specs.Prelude.{ℕ, List, Option, Some, None, Result, Ok, Err, if◌then◌else◌, codes}
use Rattle.gix_date.specs.Families.Answer.{FamilyAnswer, Absolute, OffsetAboveDay, NoInstant}
use Rattle.gix_date.specs.Families.Answer as answers
use Rattle.gix_date.specs.Families.Order.{first_family, first_family_by}
use Rattle.gix_date.specs.Families.Raw.{is_minute_offset}
use Rattle.gix_date.specs.Fields.Zoned.{is_convertible}
use Rattle.gix_date.specs.declared.time.Time.{Time}
use Rattle.streams.specs.declared.program.NoMoment.{NoMoment}
use Rattle.streams.specs.declared.program.NoMoment.TheVariants.{UnknownFormat, RawOffset, DateConversion, Relative, Conversion}

-- Why a text that is not read is no moment. By the rule of whole minutes it would be a time, or not.
abbrev pub why_unread : Option FamilyAnswer → NoMoment
why_unread (Some (Absolute t)) = RawOffset
why_unread _ = UnknownFormat

-- the time that an answer gives, where it converts, or why there is none; why a text is not read, is given
abbrev pub moment_of_answer : NoMoment → Option FamilyAnswer → Result Time NoMoment
moment_of_answer unread None = Err unread
moment_of_answer unread (Some (Absolute t)) = if is_convertible t then Ok t else Err Conversion
moment_of_answer unread (Some OffsetAboveDay) = Err unread
moment_of_answer unread (Some NoInstant) = Err DateConversion
moment_of_answer unread (Some (answers.Relative date)) = Err Relative

-- the time that a text is a moment of, or why there is none
abbrev pub moment_or_why : List ℕ → Result Time NoMoment
moment_or_why now = moment_of_answer (why_unread (first_family_by is_minute_offset now)) (first_family now)

-- why NOW is no moment
abbrev pub no_moment_words : NoMoment → List ℕ
no_moment_words UnknownFormat = codes "NOW is in no known date format, or its offset is above 23:59; expected a date, such as \"2022-08-18 12:45:06 +0800\" or \"1660874655 +0800\""
no_moment_words RawOffset = codes "NOW has an offset that a raw date may not have; expected at most 14:45, and 00, 15, 30 or 45 minutes"
no_moment_words DateConversion = codes "NOW is beyond the last instant that can be computed with"
no_moment_words Relative = codes "NOW is a relative date, and has no moment to count from"
no_moment_words Conversion = codes "NOW is too far from 1970"

-- What is said of a fault.
use Rattle.std.specs.Prelude.{ℕ, List, Option, Some, codes}
use Rattle.streams.specs.Messages.{message}
use Rattle.streams.specs.Messages as streams
use Rattle.git_ident_tool.specs.declared.error.Fault.{Fault}
use Rattle.git_ident_tool.specs.declared.error.Fault.TheVariants.{Tool, Refused, Stream}
use Rattle.git_ident_tool.specs.declared.error.HeaderFault.{HeaderFault}
use Rattle.git_ident_tool.specs.declared.error.HeaderFault.TheVariants.{BadHeader, BadSize, NoObject}
use Rattle.git_ident_tool.specs.declared.error.StreamFault.{StreamFault}
use Rattle.git_ident_tool.specs.declared.error.StreamFault.TheVariants.{BadEnd, EarlyEnd, TooMany}

-- why a line is no header
abbrev pub header_words : HeaderFault → List ℕ
header_words BadHeader = codes "a line is no header of an object"
header_words BadSize = codes "a header has no size below 18446744073709551616"
header_words NoObject = codes "an object is missing or ambiguous"

-- why an input is no stream of objects
abbrev pub stream_words : StreamFault → List ℕ
stream_words BadEnd = codes "no newline stands after an object"
stream_words EarlyEnd = codes "the input ends within an object"
stream_words TooMany = codes "there are more than 18446744073709551615 objects or lines"

-- what is said of a fault
abbrev pub fault_message : Fault → Option (List ℕ)
fault_message (Tool fault) = streams.fault_message (codes "git_ident") fault
fault_message (Refused why) = Some (message (codes "git_ident") (header_words why))
fault_message (Stream why) = Some (message (codes "git_ident") (stream_words why))

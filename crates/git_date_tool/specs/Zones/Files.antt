-- What a fault of reading a zone's file says.
use Rattle.std.specs.declared.io.ErrorKind.{ErrorKind}
use Rattle.std.specs.declared.io.ErrorKind.TheVariants as kinds
use Rattle.git_date_tool.specs.declared.zones.NoZone.{NoZone}
use Rattle.git_date_tool.specs.declared.zones.NoZone.TheVariants.{Memory, Fault, Text}
use Rattle.git_date_tool.specs.declared.zones.ZoneFault.TheVariants.{NoFile, Denied}

-- there is no such file, or it may not be read; any other fault is the machine's
abbrev pub no_zone_of : ErrorKind → NoZone
no_zone_of kinds.OutOfMemory = Memory
no_zone_of kinds.NotFound = Text NoFile
no_zone_of kinds.NotADirectory = Text NoFile
no_zone_of kinds.InvalidFilename = Text NoFile
no_zone_of kinds.FilesystemLoop = Text NoFile
no_zone_of kinds.PermissionDenied = Text Denied
no_zone_of kind = Fault kind

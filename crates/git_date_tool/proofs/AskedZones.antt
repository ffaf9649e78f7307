-- What the zone that is asked for is taken from, and that zone.
use Rattle.std.proofs.Common.{◌≡◌, subst, inl, inr, ℕ, ℤ, List, Option, Some, None, sym}
use Rattle.jiff.specs.Types.{TimeZone}
use Rattle.git_date.specs.Exact.Places.{IsZoneWithoutFile, file_of}
use Rattle.git_date.specs.Exact.ZoneTexts.{zone_offset}
use Rattle.git_date_tool.specs.Zones.Zones.{IsAskedZone, IsFileSource, IsFileZone, IsFixedAt, IsFixedSource, IsNamedSource, IsNamedZone}
use Rattle.git_date_tool.specs.Zones.Zones.{IsSaidSource, IsSourceOf, IsTaken, IsTextOf, IsTextSource, IsTextZone, MayLackZone, NeedsSystem}
use Rattle.git_date_tool.specs.CommandLine.Command.{Asked}
use Rattle.git_date_tool.specs.Program.{StartsNot, without_zone}
use Rattle.git_date_tool.specs.declared.program.Outcome.{Outcome}
use Rattle.git_date_tool.specs.declared.zones.NoZone.{NoZone as Lack}
use Rattle.git_date_tool.specs.declared.zones.NoZone.TheVariants as lacks
use Rattle.git_date_tool.specs.declared.zones.ZoneSource.{ZoneSource}
use Rattle.git_date_tool.specs.declared.zones.ZoneSource.TheVariants as sources
use Rattle.git_date_tool.specs.declared.zones.ZoneText.{ZoneText}
use Rattle.git_date_tool.specs.declared.zones.ZoneText.TheVariants as texts

-- that of a text, of a file, and of an offset
said : (tz : List ℕ) (source : ZoneSource) (zone : TimeZone) → IsSaidSource tz source → IsTaken source zone
    → IsZoneWithoutFile tz (Some zone)
said tz (sources.Plain z) zone h t = subst (λ (k : TimeZone). IsZoneWithoutFile tz (Some k)) (sym t) h
said tz (sources.Table table) zone h t = absurd h

file : (source : ZoneSource) (zone : TimeZone) → IsFileSource source → IsTaken source zone → IsFileZone zone
file (sources.Plain z) zone h t = absurd h
file (sources.Table table) zone h t = (table, h, t)

fixed : (seconds : ℤ) (source : ZoneSource) (zone : TimeZone) → IsFixedSource seconds source → IsTaken source zone → IsFixedAt seconds zone
fixed seconds (sources.Plain z) zone h t = subst (λ (k : TimeZone). IsFixedAt seconds k) (sym t) h
fixed seconds (sources.Table table) zone h t = absurd h

-- that of a value of `TZ`
named : (name : Option (List ℕ)) (tz : List ℕ) (source : ZoneSource) (zone : TimeZone) → IsNamedSource name tz source → IsTaken source zone
    → IsNamedZone name tz zone
named (Some name) tz source zone (inl h) t = inl (file source zone h t)
named (Some name) tz source zone (inr h) t = inr (said tz source zone h t)
named None tz source zone h t = said tz source zone h t

-- that of ZONE
of_text : (offset : Option ℤ) (text : List ℕ) (source : ZoneSource) (zone : TimeZone) → IsTextSource offset text source
    → IsTaken source zone
    → IsTextZone offset text zone
of_text (Some seconds) text source zone h t = fixed seconds source zone h t
of_text None text source zone h t = named (file_of text) text source zone h t

-- the zone that is taken from there is asked for
pub taken_is : (asked : Option (List ℕ)) (text : ZoneText) (source : ZoneSource) (zone : TimeZone) → IsTextOf asked text
    → IsSourceOf text source
    → IsTaken source zone → IsAskedZone asked zone
taken_is asked (texts.Zone text) source zone is h t =
    subst (λ (a : Option (List ℕ)). IsAskedZone a zone) (sym is) (of_text (zone_offset text.now) text.now source zone h t)
taken_is asked (texts.Tz text) source zone is h t =
    subst (λ (a : Option (List ℕ)). IsAskedZone a zone) (sym is) (text.now, named (file_of text.now) text.now source zone h t)
taken_is asked texts.TzNotText source zone is h t = absurd h
taken_is asked texts.TzNoMemory source zone is h t = absurd h
taken_is asked texts.Machine source zone is h t =
    subst (λ (a : Option (List ℕ)). IsAskedZone a zone) (sym is) (h.0, named (file_of h.0) h.0 source zone h.1 t)

-- where no zone can be taken
may-lack : (asked : Option (List ℕ)) (text : ZoneText) → IsTextOf asked text → MayLackZone text → NeedsSystem asked
may-lack asked (texts.Zone text) is h = subst (λ (a : Option (List ℕ)). NeedsSystem a) (sym is) h
may-lack asked x is h = subst (λ (a : Option (List ℕ)). NeedsSystem a) (sym is) tt

-- without a zone the program does not start
lacking : (a : Asked) (text : ZoneText) (why : Lack) → IsTextOf a.zone text → MayLackZone text → StartsNot a (without_zone text why)
lacking a text lacks.Memory is may = may-lack a.zone text is may
lacking a text (lacks.Fault kind) is may = may-lack a.zone text is may
lacking a text (lacks.Text fault) is may = (is, may)

pub starts-not : (a : Asked) (text : ZoneText) (why : Lack) (outcome : Outcome) → IsTextOf a.zone text → MayLackZone text
    → outcome ≡ without_zone text why → StartsNot a outcome
starts-not a text why outcome is may e = subst (λ (o : Outcome). StartsNot a o) (sym e) (lacking a text why is may)

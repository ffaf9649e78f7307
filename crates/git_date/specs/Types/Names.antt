-- The types of the code that definitions speak of, by names that other crates can use.
use Rattle.git_date.specs.declared.fields.dates.Now.{Now as TheNow}
use Rattle.git_date.specs.declared.fields.dates.Dated.{Dated as TheDated}
use Rattle.git_date.specs.declared.error.Fault.{Fault as TheFault}
use Rattle.git_date.specs.declared.fields.Fields.{Fields as TheFields}
use Rattle.git_date.specs.declared.fields.groups.Group.{Group as TheGroup}
use Rattle.git_date.specs.declared.fields.groups.Number.{Number as TheNumber}
use Rattle.git_date.specs.declared.fields.offsets.Padded.{Padded as ThePadded}
use Rattle.git_date.specs.declared.reader.Reading.{Reading as TheReading}
use Rattle.git_date.specs.declared.reader.Said.{Said as TheSaid}
use Rattle.git_date.specs.declared.approximate.Today.{Today as TheToday}
use Rattle.git_date.specs.declared.approximate.drafts.Draft.{Draft as TheDraft}
use Rattle.git_date.specs.declared.approximate.drafts.LastShown.{LastShown as TheLastShown}
use Rattle.git_date.specs.declared.approximate.meanings.Meaning.{Meaning as TheMeaning}
use Rattle.git_date.specs.declared.approximate.meanings.Unit.{Unit as TheUnit}
use Rattle.git_date.specs.declared.approximate.zone.ZoneClock.{ZoneClock as TheZoneClock}
use Rattle.git_date.specs.declared.approximate.zone.Found.{Found as TheFound}
use Rattle.git_date.specs.declared.show.ages.Age.{Age as TheAge}
use Rattle.git_date.specs.declared.zones.Asked.{Asked as TheAsked}
use Rattle.git_date.specs.declared.zones.Trail.{Trail as TheTrail}
use Rattle.git_date.specs.declared.zones.ZoneState.{ZoneState as TheZoneState}

abbrev pub Now : Type 0
Now = TheNow

abbrev pub Dated : Type 0
Dated = TheDated

abbrev pub Fault : Type 0
Fault = TheFault

abbrev pub Fields : Type 0
Fields = TheFields

abbrev pub Group : Type 0
Group = TheGroup

abbrev pub Number : Type 0
Number = TheNumber

abbrev pub Padded : Type 0
Padded = ThePadded

abbrev pub Reading : Type 0
Reading = TheReading

abbrev pub Said : Type 0
Said = TheSaid

abbrev pub Today : Type 0
Today = TheToday

abbrev pub Draft : Type 0
Draft = TheDraft

abbrev pub LastShown : Type 0
LastShown = TheLastShown

abbrev pub Meaning : Type 0
Meaning = TheMeaning

abbrev pub Unit : Type 0
Unit = TheUnit

abbrev pub ZoneClock : Type 0
ZoneClock = TheZoneClock

abbrev pub Found : Type 0
Found = TheFound

abbrev pub Age : Type 0
Age = TheAge

abbrev pub Asked : Type 0
Asked = TheAsked

abbrev pub Trail : Type 0
Trail = TheTrail

abbrev pub ZoneState : Type 0
ZoneState = TheZoneState

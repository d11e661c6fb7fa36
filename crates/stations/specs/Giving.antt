-- What the code keeps of a call, and of a moment.
use Rattle.std.specs.Prelude.{List}
use Rattle.stations.specs.declared.deeds.Given.{Given}
use Rattle.stations.specs.declared.moments.AtMoment.{AtMoment}
use Rattle.stations.specs.Deeds.{Deed}
use Rattle.stations.specs.Moments.{Moment}
use Rattle.stations.specs.Stations.{deed_by, GainsDeed}

abbrev pub deed_of : Given → Deed
deed_of given = deed_by given.was_up given.front given.event.now given.made.now given.answer

abbrev pub GainsDeedBy : Given → List Deed → List Deed → Type 0
GainsDeedBy given old new = GainsDeed given.was_up given.front given.event.now given.made.now given.answer old new

abbrev pub moment_of : AtMoment → Moment
moment_of moment = record { table = moment.table.now; deeds = moment.deeds.now.items }

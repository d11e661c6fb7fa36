-- What is seen of outages.
use Rattle.std.specs.Prelude.{List}
use Rattle.match_file.specs.declared.outage.Outage.{Outage}
use Rattle.serving.specs.declared.outages.Outages.{Outages}

abbrev pub outages_in : Outages → List Outage
outages_in outages = outages.listed.items

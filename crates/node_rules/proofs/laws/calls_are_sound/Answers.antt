use Rattle.node_rules.proofs.Sounding.{appends_are_begun, calls_are_sound, lines_are_refused_down}
use Rattle.node_rules.proofs.laws.calls_are_sound.Goals as goal

pub returns-clause-appends : goal.returns-clause-appends
returns-clause-appends c = appends_are_begun c.layers_below.ensures

pub returns-clause-calls : goal.returns-clause-calls
returns-clause-calls c = calls_are_sound c.layers_below.ensures

pub returns-clause-lines : goal.returns-clause-lines
returns-clause-lines c = lines_are_refused_down

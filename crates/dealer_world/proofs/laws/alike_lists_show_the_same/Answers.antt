use Rattle.dealer_world.proofs.Reading.{alike_lists}
use Rattle.dealer_world.proofs.laws.alike_lists_show_the_same.Goals as goal

pub returns : goal.returns
returns c = alike_lists c.beginnings_are_alike.ensures.lines

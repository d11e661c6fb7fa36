use Rattle.dealer_world.proofs.cluster.Cluster.down.Goals as goal

pub invariant_of-result : goal.invariant_of-result
invariant_of-result g c = rw c.new.ensures.all record { count = c.requires.count; at_places = c.requires.at_places; behind = c.requires.behind }

use Rattle.dealer_world.specs.Viewing.{view_of}
use Rattle.dealer_world.proofs.Promising.{promised_new, promised, backed}
use Rattle.dealer_world.proofs.Answering.{addressed, never_conflicts}
use Rattle.dealer_world.proofs.cluster.Cluster.step.Goals as goal

pub returns-clause-promised : goal.returns-clause-promised
returns-clause-promised g c = promised g.D.Disk (view_of c.advance.new.self) c.runs_show_one_list.ensures c.advance.new.self.behind

pub returns-clause-backed : goal.returns-clause-backed
returns-clause-backed g c = backed g.D.Disk (view_of c.advance.new.self) c.runs_are_backed.ensures c.images_are_seen.ensures c.advance.new.self.at_places c.advance.new.self.behind

pub returns-clause-promised_new : goal.returns-clause-promised_new
returns-clause-promised_new g c = promised_new g.D.Disk (view_of c.advance.new.self) (promised g.D.Disk (view_of c.advance.new.self) c.runs_show_one_list.ensures c.advance.new.self.behind)

pub returns-clause-addressed : goal.returns-clause-addressed
returns-clause-addressed g c = addressed g.D.Disk (view_of c.advance.new.self) c.runs_send_to_nodes.ensures c.advance.new.self.behind

pub returns-clause-conflict : goal.returns-clause-conflict
returns-clause-conflict g c =
    never_conflicts g.D.Disk (view_of c.args.self.now) (view_of c.advance.new.self) c.args.event.now c.advance.result c.runs_never_conflict.ensures c.seen_as_one.ensures.up c.args.self.now.at_places
    c.args.self.now.count c.requires c.args.self.now.behind c.advance.ensures.stepped

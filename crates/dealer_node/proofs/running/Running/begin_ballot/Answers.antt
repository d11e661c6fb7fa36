use Rattle.std.proofs.Common.{ap, rules}
use Rattle.paxos_wire.specs.Fits.{IsBallot}
use Rattle.proposer.specs.declared.prepare.Prepare.{Prepare}
use Rattle.dealer_node.specs.Outs.{told_by}
use Rattle.dealer_node.proofs.Proposed.{begun_taken, begun_at}
use Rattle.dealer_node.proofs.running.Running.begin_ballot.Goals as goal

pub returns-clause-taken : goal.returns-clause-taken
returns-clause-taken c = λ s is told.
    begun_taken c.args.member.now c.args.self.now c.begin.new.self c.on_promise.new.self s c.higher-seen.result c.in-Ok.prepare.ballot c.front-slot.result c.node.result c.nodes.result c.node-in-Ok.result c.args.told.now (told_by c.args.made.now) c.send_to_others.new.frames.texts
    c.requires.at is c.front-slot.ensures.value c.node.ensures.value c.nodes.ensures.value c.node-in-Ok.ensures.value (ap (λ (p : Prepare). p.ballot) c.in-Ok.ensures.prepare) c.in-Ok.ensures.begun c.on_promise.ensures told
    c.send_to_others.ensures.texts c.send_to_others.ensures.fits

pub returns-clause-ballot : goal.returns-clause-ballot
returns-clause-ballot c = search rules

pub returns-clause-at : goal.returns-clause-at
returns-clause-at c =
    let is : IsBallot c.in-Ok.prepare.ballot = search rules in
    begun_at c.args.member.now c.args.self.now c.begin.new.self c.on_promise.new.self c.higher-seen.result c.in-Ok.prepare.ballot c.front-slot.result c.node.result c.args.told.now
    c.requires.at is (ap (λ (p : Prepare). p.ballot) c.in-Ok.ensures.prepare) c.in-Ok.ensures.begun c.on_promise.ensures c.requires.told

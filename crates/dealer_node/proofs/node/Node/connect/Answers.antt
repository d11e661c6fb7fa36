use Rattle.std.proofs.Common.{refl, ap, subst, Ok, sym, Some}
use Rattle.node_rules.specs.Seats.{connecting}
use Rattle.node_rules.specs.Calls.{Connect}
use Rattle.dealer_node.specs.NodeInside.{node_of, IsKept}
use Rattle.dealer_node.specs.Outs.{nothing_told}
use Rattle.dealer_node.proofs.Worked.{memory_took, nothing_more}
use Rattle.dealer_node.proofs.Settled.{seen_at, taken_at, refuses_at, up_took, kept_some}
use Rattle.dealer_node.proofs.node.Node.connect.Goals as goal
use Rattle.dealer_node.proofs.node.Node.connect.Goals.{in-None, in-Some}

pub invariant_of-self : goal.invariant_of-self
invariant_of-self g c = elim c.match-self.branch [
  | in-None w ↦ subst IsKept (sym w.self-inside-is) c.self.invariant
  | in-Some w ↦ subst IsKept (sym w.self-inside-is) (record { at = w.connect.ensures.at c.self.inside.member (kept_some c.self.inside w.in-Some.up w.in-Some.is c.self.invariant); has_disk = refl; blank = c.self.invariant.blank })
]

pub returns-clause-taken : goal.returns-clause-taken
returns-clause-taken g c s honest seen = elim c.match-self.branch [
  | in-None w ↦ refuses_at g.D.Disk c.args.self.now c.self.inside c.match-self.self-inside s (Connect c.args.seat) nothing_told c.match-self.result c.self.view_is w.in-None.is w.self-inside-is w.result-is (λ place. refl) seen
  | in-Some w ↦
      let there = seen_at g.D.Disk c.args.self.now c.self.inside (Some w.in-Some.up) s c.self.view_is w.in-Some.is seen in
      let turn = connecting c.args.seat s in
      let did = memory_took g.D.Disk c.self.inside.member s (Ok turn) turn w.in-Some.up w.connect.new.self nothing_told nothing_told there.by refl (w.connect.ensures.runs c.self.inside.member s there.by.running) refl refl there.by.stands (nothing_more nothing_told s) (λ one at. absurd at) in
      taken_at g.D.Disk c.args.self.now c.self.inside c.match-self.self-inside (Some w.in-Some.up) _ s (Connect c.args.seat) nothing_told nothing_told c.match-self.result (Ok tt) c.self.view_is w.in-Some.is (ap node_of w.self-inside-is) w.result-is
      (up_took g.D.Disk c.self.inside.member c.self.inside.blank c.self.inside.disk c.self.inside.disk w.in-Some.up (record w.in-Some.up { running = w.connect.new.self }) s (Connect c.args.seat) (Ok turn) nothing_told nothing_told there refl did)
]

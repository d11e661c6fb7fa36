use Rattle.std.proofs.Common.{ap, ◌∙◌, Some}
use Rattle.std.specs.Prelude.{Option}
use Rattle.dealer_node.specs.Nodes.{Node}
use Rattle.dealer_node.specs.declared.up.Up.{Up}
use Rattle.dealer_node.specs.NodeInside.{node_of}
use Rattle.dealer_node.specs.Outs.{nothing_told}
use Rattle.dealer_node.specs.Working.{head_of}
use Rattle.acceptor.specs.Stored.{store_of}
use Rattle.dealer_node.proofs.Settled.{noted, no_disk, stopped_at, picked_at}
use Rattle.dealer_node.proofs.node.Node.stop.Goals as goal
use Rattle.dealer_node.proofs.node.Node.stop.Goals.{in-Some, in_default}

pub returns-clause-taken : goal.returns-clause-taken
returns-clause-taken g c s honest seen = elim c.match-self.branch [
  | in-Some w ↦
      stopped_at g.D.Disk c.args.self.now c.self.inside c.match-self.self-inside w.in-Some.disk w.stop.new.self s nothing_told
      (c.self.view_is ∙ c.go_down.ensures) w.in-Some.is
      (ap node_of w.self-inside-is ∙ ap (λ (u : Option (Up g.row.D.Denot)). noted g.D.Disk c.self.inside.member c.self.inside.blank (Some w.stop.new.self) u) (ap (λ (n : Node g.row.D.Denot). n.up) (c.self.view_is ∙ c.go_down.ensures))) (λ up is. c.what_is_kept_is_left.ensures (head_of c.args.self.now.member) s.store (store_of up.acceptor) is.keeps)
      w.stop.ensures.crash w.stop.ensures.time seen
  | in_default w ↦ absurd (no_disk g.D.Disk c.self.inside c.self.invariant (ap (λ (n : Node g.row.D.Denot). n.up) (c.self.view_is ∙ c.go_down.ensures)) w.in_default.is)
]

pub returns-clause-picked : goal.returns-clause-picked
returns-clause-picked g c honest = elim c.match-self.branch [
  | in-Some w ↦
      picked_at g.D.Disk c.args.self.now c.self.inside c.match-self.self-inside w.in-Some.disk w.stop.new.self c.args.pick
      (c.self.view_is ∙ c.go_down.ensures) w.in-Some.is
      (ap node_of w.self-inside-is ∙ ap (λ (u : Option (Up g.row.D.Denot)). noted g.D.Disk c.self.inside.member c.self.inside.blank (Some w.stop.new.self) u) (ap (λ (n : Node g.row.D.Denot). n.up) (c.self.view_is ∙ c.go_down.ensures)))
      (w.stop.ensures.picked honest)
  | in_default w ↦ absurd (no_disk g.D.Disk c.self.inside c.self.invariant (ap (λ (n : Node g.row.D.Denot). n.up) (c.self.view_is ∙ c.go_down.ensures)) w.in_default.is)
]

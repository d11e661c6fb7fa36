use Rattle.std.proofs.Common.{◌≡◌, ◌≤◌}
use Rattle.match_file.specs.Outages.{out_at}
use Rattle.match_file.proofs.outages.out_at.Given as goal

abbrev pub invariant-loop-node : goal.invariant-loop-node
invariant-loop-node l = record {
  counted : l.out ≡ out_at l.outages l.count l.node;
  most : l.out ≤ l.node;
}

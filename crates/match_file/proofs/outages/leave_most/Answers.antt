use Rattle.std.proofs.Common.{◌<◌, arith}
use Rattle.match_file.proofs.Outing.{starts_are_enough, starts_are_counts}
use Rattle.match_file.proofs.outages.leave_most.Goals as goal

pub returns : goal.returns
returns c =
    let three = c.nodes_are_few_and_odd.ensures.least c.args.nodes c.requires in
    let some : 0 < c.args.nodes = omega (arith, three) in (
      λ true. starts_are_enough c.args.nodes c.args.outages.now some (c.leave_most_at_starts.ensures.0 true),
      λ most. c.leave_most_at_starts.ensures.1 (starts_are_counts c.args.nodes c.args.outages.now most),
    )

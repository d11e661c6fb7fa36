use Rattle.std.proofs.Common.{◌≡◌, ◌+◌, ◌-◌, ◌<◌, ◌≤◌, List, length, get_or, set, sym, subst, vec_len, vec_capacity, arith}
use Rattle.dealer_world.specs.declared.begun.Begun.{Begun}
use Rattle.dealer_world.specs.KeptStarts.{Kept, AreCounted}
use Rattle.dealer_world.proofs.Counting.{count_at_most, one_more}
use Rattle.dealer_world.proofs.starts.Starts.push_reserved.Goals as goal

pub overflow_add-self : goal.overflow_add-self
overflow_add-self c =
    let begun = c.self.inside.begun in
    let counts = c.self.inside.counts in
    let node = c.args.node in
    let less : node < 256 = omega (arith, c.ranges.node.fits) in
    let most : get_or counts node 0 ≤ length begun.items = count_at_most begun.items counts node less c.self.invariant in
    let size : vec_len begun ≡ length begun.items = omega (arith, begun.ok.0) in
    let room : 1 ≤ vec_capacity begun - vec_len begun = subst (λ (k : Kept). 1 ≤ k.room) (sym c.self.view_is) c.requires in
    omega (arith, most, size, room, begun.small)

pub invariant_of-self : goal.invariant_of-self
invariant_of-self c =
    let counts = c.self.inside.counts in
    let node = c.args.node in
    let less : node < 256 = omega (arith, c.ranges.node.fits) in
    subst (λ (begun : List Begun). AreCounted begun (set counts node (get_or counts node 0 + 1))) (sym c.push_reserved.ensures.items)
    (one_more c.self.inside.begun.items counts node less c.self.invariant)

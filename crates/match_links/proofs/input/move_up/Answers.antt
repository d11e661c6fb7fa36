use Rattle.std.proofs.Common.{◌≡◌, ◌-◌, List, ℕ, arith, length, take, drop, append_assoc, length-take, length-drop}
use Rattle.std.proofs.lemmas.List.{take_at}
use Rattle.match_links.proofs.input.move_up.Goals as goal

-- what stood behind is in front
pub returns-clause-moved : goal.returns-clause-moved
returns-clause-moved c =
    let front : List ℕ = drop c.args.count (take c.args.len c.args.room.now) in
    let many : length front ≡ c.args.len - c.args.count = omega (arith, length-drop c.args.count (take c.args.len c.args.room.now), length-take c.args.len c.args.room.now) in
    rw (c.rotate_left.ensures.after, append_assoc) (take_at front _ _ many)

use Rattle.std.specs.Prelude.{◌≡◌, ℕ, None, get_or}
use Rattle.node_peers.proofs.aside.no_frames.Given as goal

abbrev pub invariant-loop : goal.invariant-loop
invariant-loop l = (number : ℕ) → get_or l.frames.items number None ≡ None

use Rattle.std.proofs.Common.{◌≡◌, ℕ, None, get_or}
use Rattle.node_peers.proofs.links.no_links.Given as goal

abbrev pub invariant-loop : goal.invariant-loop
invariant-loop l = (place : ℕ) → get_or l.links.items place None ≡ None

use Rattle.std.proofs.Common.{◌≡◌, ℕ, [], map, get_or, length}
use Rattle.match_links.proofs.memory_logs.empty_logs.Given as goal

abbrev pub invariant-loop : goal.invariant-loop
invariant-loop l = record {
  empty : (node : ℕ) → get_or (map (λ log. log.items) l.logs.items) node [] ≡ [];
  count : length l.logs.items ≡ l.counter;
}

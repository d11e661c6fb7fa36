use Rattle.std.proofs.Common.{◌≡◌, ℕ, inl, inr, replicate, get_or, arith}
use Rattle.std.proofs.lemmas.Bool.{cases_lt}
use Rattle.std.proofs.lemmas.Grind.{common_steps}
use Rattle.node_runs.proofs.Accounts.{begun}
use Rattle.node_runs.proofs.note_limits.NoteLimits.new.Goals as goal

nothing : (n group : ℕ) → ◌≡◌ {A = ℕ} (get_or (replicate n 0) group 0) 0
nothing n group = elim (cases_lt group n) [
  | inl within ↦ grind (arith, common_steps)
  | inr past ↦ grind (arith, common_steps)
]

pub returns-clause-account : goal.returns-clause-account
returns-clause-account c = begun _ c.new.ensures (λ group. nothing 199 group)

use Rattle.std.proofs.Common.{◌≡◌, ℕ, None, inl, inr, replicate, get_or, arith}
use Rattle.std.specs.Prelude.{Option}
use Rattle.std.proofs.lemmas.Bool.{cases_lt}
use Rattle.std.proofs.lemmas.Grind.{common_steps}
use Rattle.node_service.specs.declared.server_notice.ServerNotice.{ServerNotice}
use Rattle.node_runs.proofs.waiting_notes.WaitingNotes.new.Goals as goal

nothing : (n group : ℕ) → ◌≡◌ {A = Option ServerNotice} (get_or (replicate n None) group None) None
nothing n group = elim (cases_lt group n) [
  | inl within ↦ grind (arith, common_steps)
  | inr past ↦ grind (arith, common_steps)
]

pub returns-clause-holds : goal.returns-clause-holds
returns-clause-holds c = record { account = c.new.ensures.account; newest = λ group. nothing 199 group }

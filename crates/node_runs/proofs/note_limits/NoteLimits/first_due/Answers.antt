use Rattle.std.proofs.Common.{◌≡◌, ℕ, false, inl, inr, sym, ◌∙◌, subst, arith}
use Rattle.std.proofs.lemmas.Bool.{cases_lt}
use Rattle.node_runs.specs.NoteLimits.{has_due}
use Rattle.node_runs.proofs.note_limits.NoteLimits.first_due.Goals as goal

pub loop-group-preserved : goal.loop-group-preserved
loop-group-preserved c = λ group least less. elim (cases_lt group c.loop-group.group) [
  | inl within ↦ c.loop-group.invariant group least within
  | inr past ↦
      let same : c.loop-group.group ≡ group = omega arith in
      subst (λ (g : ℕ). has_due c.args.self.now g ≡ false) same (sym c.is_due.ensures ∙ c.if-is_due.false)
]

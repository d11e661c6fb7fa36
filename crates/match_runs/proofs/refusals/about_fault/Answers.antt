use Rattle.std.proofs.Common.{inl, refl, sym, ◌∙◌}
use Rattle.match_runs.specs.Refusals.{alone}
use Rattle.match_runs.proofs.refusals.about_fault.Goals as goal

pub returns : goal.returns
returns g c = alone (inl (sym c.is_of_answer.ensures ∙ c.if-is_of_answer.false)) refl

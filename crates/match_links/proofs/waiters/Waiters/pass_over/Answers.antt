use Rattle.std.proofs.Common.{rules}
use Rattle.std.proofs.lemmas.Fn.{filter_same}
use Rattle.match_links.specs.Waiters.{stays}
use Rattle.match_links.proofs.waiters.Waiters.pass_over.Goals as goal

pub returns : goal.returns
returns c = filter_same _ stays _ (λ held b f' k. search rules) _ _ c.retain.ensures.filtered

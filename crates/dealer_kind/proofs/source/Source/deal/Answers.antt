use Rattle.std.proofs.lemmas.Grind.{elements}
use Rattle.std.proofs.Common.{rules, arith}
use Rattle.dealer_kind.proofs.source.Source.deal.Goals as goal

pub returns-in-Seed : goal.returns-in-Seed
returns-in-Seed c = search rules

pub returns-in-Listed : goal.returns-in-Listed
returns-in-Listed c = grind (arith, elements)

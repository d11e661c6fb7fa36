use Rattle.std.proofs.lemmas.Grind.{common_steps}
use Rattle.std.proofs.Common.{rules, arith}
use Rattle.game_def.specs.WholeFile.{game_of}
use Rattle.game_def.proofs.Amounts.{blinds_fit}
use Rattle.game_def.proofs.building.build.Goals as goal

pub amounts_of-requires-2-clause-fitting : goal.amounts_of-requires-2-clause-fitting
amounts_of-requires-2-clause-fitting c = rw c.player_count-players.ensures (blinds_fit (game_of c.args.entries.now) c.requires.is_game)

pub amounts_of-requires-clause-fitting : goal.amounts_of-requires-clause-fitting
amounts_of-requires-clause-fitting c = search rules

pub invariant_of-result : goal.invariant_of-result
invariant_of-result c = grind (arith, common_steps)

pub returns : goal.returns
returns c = grind (arith, common_steps)

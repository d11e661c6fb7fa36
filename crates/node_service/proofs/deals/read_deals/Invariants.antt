use Rattle.std.specs.List.{AllByRecursion}
use Rattle.match_log.proofs.Tallies.{older}
use Rattle.node_service.proofs.Dealt.{IsDealt}
use Rattle.node_service.proofs.deals.read_deals.Given as goal

abbrev pub invariant-loop-hand : goal.invariant-loop-hand
invariant-loop-hand l = AllByRecursion (IsDealt l.table.game.players) (older l.table.hands l.hand)

use Rattle.std.proofs.Common.{subst}
use Rattle.game_def.specs.Game.{IsGame}
use Rattle.slot_log.specs.Hand.{Match}
use Rattle.slot_log.proofs.Inside.{seen_count, seen_hands}
use Rattle.slot_log.proofs.table.Table.limits.Goals as goal

pub returns : goal.returns
returns c =
    let table = c.args.self.now in
    let is_game = subst (λ (n : Match). IsGame n.game) c.self.view_is c.limits.ensures in
    let most = seen_count c.self.inside table c.self.view_is c.self.invariant in
    let hands = seen_hands c.self.inside table c.self.view_is c.self.invariant in
    record {
      game = is_game;
      hands = hands;
      most = most;
      range = λ command fits. c.fitting_is_in_range.ensures table.game table.count table.hands command is_game most hands fits;
    }

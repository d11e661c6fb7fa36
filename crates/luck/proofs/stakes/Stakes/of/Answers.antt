use Rattle.std.proofs.Common.{◌≡◌, ◌∙◌, length, ap, sym, subst, arith}
use Rattle.game_def.specs.Game.{IsGame}
use Rattle.match_log.proofs.Settling.{somebody_has_most_as, length_amounts, length_folds}
use Rattle.luck.proofs.stakes.Stakes.of.Goals as goal

pub invariant_of-result : goal.invariant_of-result
invariant_of-result c =
    let game = c.args.play.now.game in
    let past = c.args.play.now.past in
    let is : IsGame game = subst IsGame c.game-game.ensures c.limits.ensures in
    let players : length c.amounts.result.items ≡ game.players = ap length c.amounts.ensures.value ∙ length_amounts game past in
    record {
      least = omega (arith, players, is.least_players);
      most = omega (arith, players, is.most_players);
      folds = ap length c.folds.ensures ∙ length_folds game past ∙ sym players;
      amounts = c.amounts.ensures.most;
      greatest = somebody_has_most_as game past c.amounts.result.items c.amounts.result.items c.folds.result.items c.somebody_has_the_greatest_amount.ensures is c.actions-actions.ensures.legal c.amounts.ensures.value c.amounts.ensures.value c.folds.ensures c.amounts.ensures.greatest;
    }

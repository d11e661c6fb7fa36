use Rattle.std.proofs.Common.{◌∙◌, ◌+◌, ◌/◌, ◌%◌, ◌∷◌, [], ◌++◌, ℕ, ap, cond, ltb}
use Rattle.side_pots.proofs.OddChips.{shared_winner, shared_loser, shared_as}
use Rattle.side_pots.proofs.shares.with_shares.Goals as goal
use Rattle.side_pots.proofs.shares.with_shares.Goals.{then-winners-position, else-winners-position}

pub loop-position-preserved : goal.loop-position-preserved
loop-position-preserved c =
    elim c.if-winners-position.branch [
      | then-winners-position w ↦
          shared_as c.args.won.now (c.loop-position.shared.items ++ c.if-winners-position.amount ∷ []) c.push.new.self.items c.args.winners.now c.args.pot
          (c.loop-position.winners_before + 1) c.if-winners-position.winners_before (c.loop-position.position + 1) c.push.ensures.items w.winners_before-is
          (shared_winner c.args.won.now c.loop-position.shared.items c.args.winners.now c.args.pot c.loop-position.winners_before c.loop-position.position
          w.share_of_winner-amount.result c.if-winners-position.amount c.loop-position-test.true c.requires.winners w.if-winners-position.true
          (w.share_of_winner-amount.ensures.value ∙ ap (λ (n : ℕ). c.args.pot / n + cond (ltb c.loop-position.winners_before (c.args.pot % n)) 1 0) c.winner_count-count.ensures)
          w.amount-is c.loop-position.invariant)
      | else-winners-position w ↦
          shared_as c.args.won.now (c.loop-position.shared.items ++ c.if-winners-position.amount ∷ []) c.push.new.self.items c.args.winners.now c.args.pot
          c.loop-position.winners_before c.if-winners-position.winners_before (c.loop-position.position + 1) c.push.ensures.items w.winners_before-is
          (shared_loser c.args.won.now c.loop-position.shared.items c.args.winners.now c.args.pot c.loop-position.winners_before c.loop-position.position
          c.if-winners-position.amount c.loop-position-test.true c.requires.winners w.if-winners-position.false w.amount-is c.loop-position.invariant)
    ]

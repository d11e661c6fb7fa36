use Rattle.std.proofs.Common.{◌≡◌, ℕ, subst, arith}
use Rattle.hand_rank.specs.Best.{IsBestLeavingOut}
use Rattle.hand_rank.proofs.Greatest.{best_of_seven_first, best_of_seven_more, best_of_seven_all, length_left_out}
use Rattle.hand_rank.proofs.all_fives.best_of_all_fives.Goals as goal

pub loop-left_out-init : goal.loop-left_out-init
loop-left_out-init c =
    best_of_seven_first c.args.cards.now c.without.result c.best_of_six-best.result (length_left_out c.args.cards.now c.without.result _ 6 c.without.ensures.others c.told-cards) c.without.ensures.others c.best_of_six-best.ensures

pub loop-left_out-preserved : goal.loop-left_out-preserved
loop-left_out-preserved c =
    best_of_seven_more c.args.cards.now c.without-in-loop-left_out.result c.loop-left_out.left_out c.loop-left_out.best c.best_of_six.result c.max-best.result
    (length_left_out c.args.cards.now c.without-in-loop-left_out.result _ 6 c.without-in-loop-left_out.ensures.others c.told-cards)
    c.max-best.ensures c.without-in-loop-left_out.ensures.others c.without-in-loop-left_out.ensures.before c.best_of_six.ensures c.loop-left_out.invariant

pub returns : goal.returns
returns c =
    let end_at : c.loop-left_out.left_out ≡ 6 = omega arith in
    let P : ℕ → Type 0 = λ n. IsBestLeavingOut c.args.cards.now 0 n c.loop-left_out.best in
    best_of_seven_all c.args.cards.now c.loop-left_out.best c.told-cards (subst P end_at c.loop-left_out.invariant)

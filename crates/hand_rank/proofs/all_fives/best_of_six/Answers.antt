use Rattle.std.proofs.Common.{◌≡◌, ℕ, subst, arith}
use Rattle.hand_rank.specs.Best.{IsBestLeavingOut}
use Rattle.hand_rank.proofs.Greatest.{best_of_one, best_with_more, best_from_worth, length_left_out}
use Rattle.hand_rank.proofs.all_fives.best_of_six.Goals as goal

pub loop-left_out-init : goal.loop-left_out-init
loop-left_out-init c =
    best_of_one c.args.cards.now c.without.result c.args.from c.value_of_slice-best.result c.without.ensures.others (best_from_worth c.without.result c.value_of_slice-best.result (length_left_out c.args.cards.now c.without.result _ 5 c.without.ensures.others c.requires.count) c.value_of_slice-best.ensures)

pub loop-left_out-preserved : goal.loop-left_out-preserved
loop-left_out-preserved c =
    best_with_more c.args.cards.now c.without-in-loop-left_out.result c.args.from c.loop-left_out.left_out c.loop-left_out.best c.value_of_slice.result c.max-best.result
    c.max-best.ensures c.without-in-loop-left_out.ensures.others (best_from_worth c.without-in-loop-left_out.result c.value_of_slice.result (length_left_out c.args.cards.now c.without-in-loop-left_out.result _ 5 c.without-in-loop-left_out.ensures.others c.requires.count) c.value_of_slice.ensures) c.loop-left_out.invariant

pub returns : goal.returns
returns c =
    let end_at : c.loop-left_out.left_out ≡ 6 = omega (arith, c.requires.place) in
    let P : ℕ → Type 0 = λ n. IsBestLeavingOut c.args.cards.now c.args.from n c.loop-left_out.best in
    subst P end_at c.loop-left_out.invariant

use Rattle.std.proofs.Common.{sym, ◌∙◌, arith}
use Rattle.std.proofs.lemmas.Bool.Decides.{nat_tests}
use lib.Pointwise.{pointwise_decides}
use Rattle.matchstate.proofs.comparison.are_same_cards.Goals as goal

pub returns : goal.returns
returns c =
    let h = c.eq.ensures in
    let told = pointwise_decides (λ x y. grind (arith, nat_tests)) c.args.first.now c.args.second.now in
    (λ passed. told.0 (sym h ∙ passed), λ same. h ∙ told.1 same)

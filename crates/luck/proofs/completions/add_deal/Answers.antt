use Rattle.std.proofs.Common.{◌≡◌, ◌∙◌, ℕ, List, Result, Ok, IfOk, ap, subst}
use Rattle.luck.specs.CardList.{cards_of}
use Rattle.luck.specs.Means.{pay}
use Rattle.luck.proofs.Adds.{adds_one}
use Rattle.luck.proofs.completions.add_deal.Goals as goal

ok_is : {E : Type 0} (result : Result (List ℕ) E) (deal cards : List ℕ) → result ≡ Ok deal → IfOk result (λ d. d ≡ cards) → deal ≡ cards
ok_is {E} result deal cards is value = subst (λ (r : Result (List ℕ) E). IfOk r (λ d. d ≡ cards)) is value

pub returns : goal.returns
returns c =
    let spent = c.args.stakes.now.spent in
    let folded = c.args.stakes.now.folded in
    let deal = ok_is c.new.result c.unwrap-deal.result c.as_slice.result.now c.unwrap-deal.ensures c.new.ensures.value ∙ c.as_slice.ensures.value in
    adds_one spent folded (cards_of c.args.cards.now) c.as_slice-2.result.now c.args.sums.now _ c.add.ensures.deals
    (c.as_slice-2.ensures.value ∙ c.pay.ensures.value ∙ ap (pay spent folded) deal) c.add.ensures.each

use Rattle.hand_rank.proofs.Greatest.{best_is_one}
use Rattle.hand_rank.proofs.laws.order_of_cards_is_of_no_account.Goals as goal

pub returns : goal.returns
returns c = λ cards reordered one other seven moved. best_is_one cards reordered one other moved

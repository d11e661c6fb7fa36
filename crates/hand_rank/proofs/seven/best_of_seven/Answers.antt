use Rattle.hand_rank.specs.Profile.{IsSeven}
use Rattle.hand_rank.proofs.Values.{found_suit, no_suit}
use Rattle.hand_rank.proofs.seven.best_of_seven.Goals as goal
use Rattle.std.proofs.Common.{◌∙◌, sym}

pub returns-in-Some : goal.returns-in-Some
returns-in-Some c =
    let seven : IsSeven c.args.cards.now = record { count = c.told-cards; distinct = c.requires; ranks = c.of-profile.ensures.ranks } in
    let suit = found_suit c.args.cards.now c.in-Some.suit (sym c.flush_suit.ensures ∙ c.in-Some.is) in
    c.best_with_flush.ensures c.args.cards.now c.in-Some.suit seven c.of-profile.ensures.profile suit.low suit.many c.suited_ranks.ensures

pub returns-in-None : goal.returns-in-None
returns-in-None c =
    let seven : IsSeven c.args.cards.now = record { count = c.told-cards; distinct = c.requires; ranks = c.of-profile.ensures.ranks } in
    c.best_without_flush.ensures c.args.cards.now seven c.of-profile.ensures.profile (no_suit c.args.cards.now (sym c.flush_suit.ensures ∙ c.in-None.is))

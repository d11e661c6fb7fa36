use Rattle.std.proofs.Common.{◌<◌, take}
use Rattle.std.specs.List.{All}
use Rattle.card_core.specs.Card.{rank_of}
use Rattle.hand_rank.specs.Profile.{IsProfileOf}
use Rattle.hand_rank.proofs.profile.Profile.of.Given as goal

abbrev pub invariant-loop-card : goal.invariant-loop-card
invariant-loop-card l = record { profile : IsProfileOf l.profile (take l.card-index l.cards); ranks : All (λ card. rank_of card < 13) (take l.card-index l.cards) }

use Rattle.std.proofs.Common.{◌≡◌, ℕ, ◌+◌, ◌<◌, ◌∙◌, ap, sym, subst, take, length, bit_or, arith}
use Rattle.card_core.specs.Card.{rank_of, suit_of}
use Rattle.hand_rank.specs.declared.rank_set.RankSet.{RankSet}
use Rattle.hand_rank.specs.Profile.{suited_count}
use Rattle.hand_rank.specs.Ranks.{IsAtLeast}
use Rattle.hand_rank.proofs.Profiles.{suited_more, suited_no_more}
use Rattle.hand_rank.proofs.seven.suited_ranks.Goals as goal
use Rattle.hand_rank.proofs.seven.suited_ranks.Goals.{then-suit, else-suit}

pub loop-card-preserved : goal.loop-card-preserved
loop-card-preserved c =
    let P : RankSet → Type 0 = λ set. IsAtLeast set.bits 1 (suited_count (take (c.loop-card.card-index + 1) c.args.cards.now) c.args.suit) in
    let within : c.loop-card.card-index < length c.args.cards.now = omega arith in
    let suit : c.suit.result ≡ suit_of c.card-item.result = c.suit.ensures.value ∙ ap suit_of (sym c.card-item.is) in
    elim c.if-suit.branch [
      | then-suit w ↦
          let rank : w.rank.result ≡ rank_of c.card-item.result = w.rank.ensures.value ∙ ap rank_of (sym c.card-item.is) in
          subst P (sym w.ranks-is)
          (suited_more c.loop-card.ranks.bits w.either-ranks.result.bits c.args.suit c.card-item.result w.rank.result c.loop-card.card-index c.args.cards.now within c.card-item.is (sym suit ∙ w.if-suit.true) (sym rank) (w.either-ranks.ensures ∙ ap (bit_or c.loop-card.ranks.bits) w.of.ensures) c.loop-card.invariant)
      | else-suit w ↦
          subst P (sym w.ranks-is)
          (suited_no_more c.loop-card.ranks.bits c.args.suit c.card-item.result c.loop-card.card-index c.args.cards.now within c.card-item.is (λ (same : suit_of c.card-item.result ≡ c.args.suit). w.if-suit.false (suit ∙ same)) c.loop-card.invariant)
    ]

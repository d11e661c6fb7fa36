use Rattle.std.proofs.Common.{◌≡◌, ℕ, ◌<◌, ◌∙◌, ap, take, length, sym, subst, arith}
use Rattle.std.proofs.lemmas.List.{get_or_read}
use Rattle.std.proofs.lemmas.List.Elements.{All-more}
use Rattle.card_core.specs.Card.{rank_of}
use Rattle.hand_rank.proofs.Profiles.{profile_step}
use Rattle.hand_rank.proofs.profile.Profile.of.Goals as goal

pub loop-card-preserved : goal.loop-card-preserved
loop-card-preserved c =
    let value : c.rank.result ≡ rank_of c.card-item.result = c.rank.ensures.value ∙ ap rank_of (sym c.card-item.is) in
    let below : ℕ → Type 0 = λ n. n < 13 in
    let low : rank_of c.card-item.result < 13 = subst below value c.rank.ensures.range in
    let within : c.loop-card.card-index < length c.args.cards.now = omega arith in
    let P : ℕ → Type 0 = λ n. rank_of n < 13 in
    record {
      profile = profile_step c.with-profile.result c.args.cards.now c.loop-card.card-index c.card-item.result within c.card-item.is (c.with-profile.ensures (take c.loop-card.card-index c.args.cards.now) c.card-item.result (sym value) c.loop-card.invariant.profile);
      ranks = All-more (λ card. rank_of card < 13) c.args.cards.now c.loop-card.card-index 0 within c.loop-card.invariant.ranks (subst P (get_or_read c.args.cards.now c.loop-card.card-index c.card-item.result within c.card-item.is 0) low);
    }

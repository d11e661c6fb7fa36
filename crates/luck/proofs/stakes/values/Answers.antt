use Rattle.std.proofs.Common.{◌≡◌, ◌<◌, ◌∙◌, ap, sym, take, length, arith}
use Rattle.std.proofs.lemmas.List.{length-set}
use Rattle.card_core.specs.Deal.{player_count}
use Rattle.match_log.specs.BestFive.{best_worth}
use Rattle.match_log.specs.Payoffs.{seven_of, values_of}
use Rattle.match_log.proofs.ByPosition.{fill_range, whole_range}
use Rattle.luck.proofs.stakes.values.Goals as goal

pub loop-position-preserved : goal.loop-position-preserved
loop-position-preserved c =
    let within : c.loop-position.position < length c.loop-position.values = omega (arith, c.loop-position.invariant.places, c.players-players.ensures.most) in
    record {
      places = length-set c.loop-position.values c.loop-position.position c.value.result ∙ c.loop-position.invariant.places;
      so_far = fill_range (λ position. best_worth (seven_of c.args.deal.now position)) c.loop-position.values c.loop-position.position c.value.result within c.loop-position.invariant.so_far c.value.ensures;
    }

pub returns : goal.returns
unfolding values_of
returns c =
    let all : c.loop-position.position ≡ player_count c.args.deal.now = omega (arith, c.players-players.ensures.value, c.players-players.ensures.least) in
    ap (λ n. take n c.loop-position.values) (sym all) ∙ whole_range (λ position. best_worth (seven_of c.args.deal.now position)) (take c.loop-position.position c.loop-position.values) c.loop-position.position (player_count c.args.deal.now) c.loop-position.invariant.so_far all

use Rattle.std.proofs.Common.{◌≡◌, ◌∙◌, ◌+◌, ◌*◌, ◌<◌, ◌≤◌, ℕ, suc, ℤ, pos, ◌+ℤ◌, ◌-ℤ◌, List, Bool, length, get_or, refl, sym, ap, subst, arith}
use Rattle.std.proofs.lemmas.Int.{ints}
use Rattle.std.proofs.lemmas.List.Elements.{All-get_or, All-from_get_or}
use Rattle.card_core.specs.Deal.{IsDeal}
use Rattle.game_def.specs.Game.{Game}
use Rattle.betting.specs.Betting.{Betting}
use Rattle.betting.specs.Rounds.{current_round, turns}
use Rattle.betting.specs.declared.action.Action.{Action}
use Rattle.slot_log.specs.Hand.{Hand}
use Rattle.match_log.specs.Payoffs.{IsWithin, most_payoff, amounts_of, folds_of}
use Rattle.match_log.proofs.Settling.{length_amounts}
use Rattle.luck.specs.Lucks.{deals_at, mean_at, luck_through}
use Rattle.luck.specs.Streets.{before_street}
use Rattle.luck.proofs.Lucky.{nothing_at, none_within, luck_none, luck_more, mean_as, luck_within, within_wider, nobody_lucky}
use Rattle.luck.proofs.Totals.{total_as}
use Rattle.luck.proofs.hand_luck.hand_luck.Goals as goal

-- the amounts and the folds of the street
spent_are : (game : Game) (past : List Action) (street : ℕ) (play : Betting) (spent : List ℕ) → play ≡ record { game = game; past = before_street game (street + 1) past } → spent ≡ amounts_of play.game play.past → spent ≡ amounts_of game (before_street game (suc street) past)
spent_are game past street play spent before is =
    let next : street + 1 ≡ suc street = omega arith in
    is ∙ ap (λ (b : Betting). amounts_of b.game b.past) before ∙ ap (λ n. amounts_of game (before_street game n past)) next

folds_are : (game : Game) (past : List Action) (street : ℕ) (play : Betting) (folded : List Bool) → play ≡ record { game = game; past = before_street game (street + 1) past } → folded ≡ folds_of play.game play.past → folded ≡ folds_of game (before_street game (suc street) past)
folds_are game past street play folded before is =
    let next : street + 1 ≡ suc street = omega arith in
    is ∙ ap (λ (b : Betting). folds_of b.game b.past) before ∙ ap (λ n. folds_of game (before_street game n past)) next

dealt : (game : Game) (past : List Action) (street : ℕ) (spent deal : List ℕ) → spent ≡ amounts_of game (before_street game (suc street) past) → IsDeal game.players deal → IsDeal (length spent) deal
dealt game past street spent deal are is = subst (λ n. IsDeal n deal) (sym (ap length are ∙ length_amounts game (before_street game (suc street) past))) is

pub means-before-requires-clause-dealt : goal.means-before-requires-clause-dealt
means-before-requires-clause-dealt c =
    dealt c.args.play.now.game c.args.play.now.past c.loop-street.street c.of-stakes.result.spent c.args.deal.now (spent_are c.args.play.now.game c.args.play.now.past c.loop-street.street c.before_street.result c.of-stakes.result.spent c.before_street.ensures c.of-stakes.ensures.spent) c.requires

pub means-behind-requires-clause-dealt : goal.means-behind-requires-clause-dealt
means-behind-requires-clause-dealt c =
    dealt c.args.play.now.game c.args.play.now.past c.loop-street.street c.of-stakes.result.spent c.args.deal.now (spent_are c.args.play.now.game c.args.play.now.past c.loop-street.street c.before_street.result c.of-stakes.result.spent c.before_street.ensures c.of-stakes.ensures.spent) c.requires

pub add_moved-requires-clause-lucks : goal.add_moved-requires-clause-lucks
add_moved-requires-clause-lucks c =
    let few : most_payoff * (4000 * c.loop-street.street) ≤ most_payoff * 8000 = omega (arith, c.loop-street-test.true, c.round-street-end.ensures.last) in
    within_wider (most_payoff * (4000 * c.loop-street.street)) (most_payoff * 8000) c.loop-street.lucks few c.loop-street.invariant.within

pub loop-street-init : goal.loop-street-init
loop-street-init c = record {
  places = refl;
  each = λ position within. nothing_at position within ∙ sym (luck_none c.args.key.now c.args.play.now.game c.args.number (record { deal = c.args.deal.now; past = c.args.play.now.past }) position);
  within = none_within (most_payoff * (4000 * 0));
  zero_sum = refl;
}

pub loop-street-preserved : goal.loop-street-preserved
loop-street-preserved c =
    let game = c.args.play.now.game in
    let past = c.args.play.now.past in
    let street = c.loop-street.street in
    let deal = c.args.deal.now in
    let hand : Hand = record { deal = deal; past = past } in
    let spent = spent_are game past street c.before_street.result c.of-stakes.result.spent c.before_street.ensures c.of-stakes.ensures.spent in
    let folds = folds_are game past street c.before_street.result c.of-stakes.result.folded c.before_street.ensures c.of-stakes.ensures.folded in
    let players : length c.of-stakes.result.spent ≡ game.players = ap length spent ∙ length_amounts game (before_street game (suc street) past) in
    let next : street + 1 ≡ suc street = omega arith in
    let same : street ≡ street = omega arith in
    let moved : (position : ℕ) → position < 10 → get_or c.add_moved.new.lucks position (pos 0) ≡ get_or c.loop-street.lucks position (pos 0) +ℤ (get_or c.means-behind.result position (pos 0) -ℤ get_or c.means-before.result position (pos 0)) = c.add_moved.ensures.each in
    let each : (position : ℕ) → position < 10 → get_or c.add_moved.new.lucks position (pos 0) ≡ luck_through c.args.key.now game c.args.number hand position (street + 1) =
    λ position within.
    let behind : get_or c.means-behind.result position (pos 0) ≡ mean_at game hand (suc street) position (deals_at c.args.key.now c.args.number game.players deal (suc street)) =
    c.means-behind.ensures.each position within ∙ mean_as c.args.key.now c.args.number deal position c.of-stakes.result.spent _ c.of-stakes.result.folded _ _ game.players (street + 1) (suc street) spent folds players next in
    let before : get_or c.means-before.result position (pos 0) ≡ mean_at game hand (suc street) position (deals_at c.args.key.now c.args.number game.players deal street) =
    c.means-before.ensures.each position within ∙ mean_as c.args.key.now c.args.number deal position c.of-stakes.result.spent _ c.of-stakes.result.folded _ _ game.players street street spent folds players same in
    moved position within
    ∙ ap (λ (z : ℤ). z +ℤ (get_or c.means-behind.result position (pos 0) -ℤ get_or c.means-before.result position (pos 0))) (c.loop-street.invariant.each position within)
    ∙ ap (λ (z : ℤ). luck_through c.args.key.now game c.args.number hand position street +ℤ (z -ℤ get_or c.means-before.result position (pos 0))) behind
    ∙ ap (λ (z : ℤ). luck_through c.args.key.now game c.args.number hand position street +ℤ (mean_at game hand (suc street) position (deals_at c.args.key.now c.args.number game.players deal (suc street)) -ℤ z)) before
    ∙ sym (luck_more c.args.key.now game c.args.number hand position street) in
    record {
      places = c.add_moved.ensures.places;
      each = each;
      within = All-from_get_or (IsWithin (most_payoff * (4000 * (street + 1)))) c.add_moved.new.lucks (pos 0)
          (λ position place.
          let below : position < 10 = omega (arith, c.add_moved.ensures.places, place) in
          subst (IsWithin (most_payoff * (4000 * (street + 1)))) (sym (moved position below))
          (luck_within street _ _ _
          (All-get_or (IsWithin (most_payoff * (4000 * street))) c.loop-street.lucks position (pos 0) (omega (arith, c.loop-street.invariant.places, below)) c.loop-street.invariant.within)
          (All-get_or (IsWithin (most_payoff * 2000)) c.means-behind.result position (pos 0) (omega (arith, c.means-behind.ensures.places, below)) c.means-behind.ensures.within)
          (All-get_or (IsWithin (most_payoff * 2000)) c.means-before.result position (pos 0) (omega (arith, c.means-before.ensures.places, below)) c.means-before.ensures.within)));
      zero_sum = omega (arith, ints, c.add_moved.ensures.total, c.means-behind.ensures.zero_sum, c.means-before.ensures.zero_sum, c.loop-street.invariant.zero_sum);
    }

pub returns-clause-each : goal.returns-clause-each
returns-clause-each c = λ position within.
    let all : c.loop-street.street ≡ current_round c.args.play.now.game (turns c.args.play.now.game c.args.play.now.past) = omega (arith, c.loop-street-test.false, c.round-street-end.ensures.value) in
    c.loop-street.invariant.each position within
    ∙ ap (luck_through c.args.key.now c.args.play.now.game c.args.number (record { deal = c.args.deal.now; past = c.args.play.now.past }) position) all

pub returns-clause-zero_sum : goal.returns-clause-zero_sum
returns-clause-zero_sum c =
    let game = c.args.play.now.game in
    let hand : Hand = record { deal = c.args.deal.now; past = c.args.play.now.past } in
    let rounds = current_round game (turns game c.args.play.now.past) in
    let all : c.loop-street.street ≡ rounds = omega (arith, c.loop-street-test.false, c.round-street-end.ensures.value) in
    let luck : ℕ → ℤ = λ position. luck_through c.args.key.now game c.args.number hand position rounds in
    let each : (k : ℕ) → k < length c.loop-street.lucks → get_or c.loop-street.lucks k (pos 0) ≡ luck (0 + k) =
    λ k within.
    let here : k ≡ 0 + k = omega arith in
    c.loop-street.invariant.each k (omega (arith, c.loop-street.invariant.places, within))
    ∙ ap (luck_through c.args.key.now game c.args.number hand k) all ∙ ap luck here in
    sym (total_as c.loop-street.lucks luck 0 game.players (omega (arith, c.loop-street.invariant.places, c.players-players.ensures.most, c.players-players.ensures.value)) each
    (λ k above within. nobody_lucky c.args.key.now game c.args.number hand (0 + k) rounds (omega (arith, above))))
    ∙ c.loop-street.invariant.zero_sum

pub returns-clause-within : goal.returns-clause-within
returns-clause-within c =
    let few : most_payoff * (4000 * c.loop-street.street) ≤ most_payoff * 12000 = omega (arith, c.loop-street-test.false, c.loop-street.auto.street-end, c.round-street-end.ensures.last) in
    within_wider (most_payoff * (4000 * c.loop-street.street)) (most_payoff * 12000) c.loop-street.lucks few c.loop-street.invariant.within

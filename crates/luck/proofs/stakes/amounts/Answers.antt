use Rattle.std.proofs.Common.{◌≡◌, ◌<◌, ◌≤◌, ◌∙◌, sym, subst, length, arith, List, ℕ}
use Rattle.std.specs.List.{All}
use Rattle.game_def.specs.Game.{IsGame, stack_of}
use Rattle.betting.specs.Betting.{history}
use Rattle.betting.specs.Turns.{spent, max_spent}
use Rattle.match_log.specs.Payoffs.{amounts_of}
use Rattle.match_log.proofs.ByPosition.{all_and_one, stack_fits, whole_range}
use Rattle.luck.proofs.stakes.amounts.Goals as goal
use Rattle.side_pots.proofs.OddChips.{push_range, room_in_range}

pub push-requires : goal.push-requires
push-requires c =
    let room : length c.loop-position.amounts.items < c.players-position-end.result =
    room_in_range (spent c.args.play.now.game (history c.args.play.now)) c.loop-position.amounts.items c.loop-position.position c.players-position-end.result c.loop-position.invariant.so_far (omega arith) in
    omega (arith, room, c.players-position-end.ensures.most)

pub loop-position-preserved : goal.loop-position-preserved
loop-position-preserved c =
    let game = c.args.play.now.game in
    let past = history c.args.play.now in
    let amount : ℕ = c.spent.result in
    let is : IsGame game = subst IsGame c.game.ensures c.limits.ensures in
    let fits : stack_of game c.loop-position.position ≤ 2147483647 = stack_fits game c.loop-position.position is (omega (arith, c.players-position-end.ensures.value)) in
    record {
      so_far = c.push.ensures.items ∙ push_range (spent game past) c.loop-position.amounts.items c.loop-position.position amount c.loop-position.invariant.so_far c.spent.ensures.value;
      most = subst (λ (xs : List ℕ). All (λ a. a ≤ 2147483647) xs) (sym c.push.ensures.items) (all_and_one (λ a. a ≤ 2147483647) c.loop-position.amounts.items amount c.loop-position.invariant.most (omega (arith, c.spent.ensures.most, fits)));
      greatest = subst (λ (xs : List ℕ). All (λ a. a ≤ max_spent game past) xs) (sym c.push.ensures.items) (all_and_one (λ a. a ≤ max_spent game past) c.loop-position.amounts.items amount c.loop-position.invariant.greatest c.spent.ensures.greatest);
    }

pub returns-clause-value : goal.returns-clause-value
unfolding amounts_of
returns-clause-value c =
    let all : c.loop-position.position ≡ c.args.play.now.game.players = omega (arith, c.players-position-end.ensures.value) in
    whole_range (spent c.args.play.now.game (history c.args.play.now)) c.loop-position.amounts.items c.loop-position.position c.args.play.now.game.players c.loop-position.invariant.so_far all

use Rattle.std.proofs.Common.{◌≡◌, ◌<◌, ◌≤◌, ◌∙◌, ap, sym, subst, map, length, arith, List, ℕ}
use Rattle.std.specs.List.{All, range_with_len}
use Rattle.game_def.specs.Game.{stack_of}
use Rattle.betting.specs.Betting.{history}
use Rattle.betting.specs.Rounds.{turns}
use Rattle.betting.specs.Turns.{spent, max_spent}
use Rattle.match_log.specs.Payoffs.{amounts_of}
use Rattle.match_log.proofs.ByPosition.{all_and_one, stack_fits, whole_range}
use Rattle.match_log.proofs.settlement.amounts.Goals as goal
use Rattle.side_pots.proofs.OddChips.{push_range, room_in_range}

pub push-requires : goal.push-requires
push-requires c =
    let room : length c.loop-position.amounts.items < c.players-position-end.result =
    room_in_range (spent c.args.game.now (history c.args.play.now)) c.loop-position.amounts.items c.loop-position.position c.players-position-end.result c.loop-position.invariant.so_far (omega arith) in
    omega (arith, room, c.players-position-end.ensures.most)

pub loop-position-preserved : goal.loop-position-preserved
loop-position-preserved c =
    let game = c.args.game.now in
    let past = history c.args.play.now in
    let amount : ℕ = c.spent.result in
    let here : amount ≡ spent game past c.loop-position.position = c.spent.ensures.value ∙ ap (λ g. spent g past c.loop-position.position) c.requires in
    let stack : amount ≤ stack_of game c.loop-position.position = subst (λ g. amount ≤ stack_of g c.loop-position.position) c.requires c.spent.ensures.most in
    let fits : stack_of game c.loop-position.position ≤ 2147483647 = stack_fits game c.loop-position.position c.limits.ensures (omega (arith, c.players-position-end.ensures.value)) in
    let greatest : amount ≤ max_spent game past = subst (λ g. amount ≤ max_spent g past) c.requires c.spent.ensures.greatest in
    record {
      so_far = c.push.ensures.items ∙ push_range (spent game past) c.loop-position.amounts.items c.loop-position.position amount c.loop-position.invariant.so_far here;
      most = subst (λ (xs : List ℕ). All (λ a. a ≤ 2147483647) xs) (sym c.push.ensures.items) (all_and_one (λ a. a ≤ 2147483647) c.loop-position.amounts.items amount c.loop-position.invariant.most (omega (arith, stack, fits)));
      greatest = subst (λ (xs : List ℕ). All (λ a. a ≤ max_spent game past) xs) (sym c.push.ensures.items) (all_and_one (λ a. a ≤ max_spent game past) c.loop-position.amounts.items amount c.loop-position.invariant.greatest greatest);
    }

pub returns-clause-value : goal.returns-clause-value
unfolding amounts_of
returns-clause-value c =
    let all : c.loop-position.position ≡ c.args.game.now.players = omega (arith, c.players-position-end.ensures.value) in
    let same : history c.args.play.now ≡ turns c.args.game.now c.args.play.now.past = ap (λ game. turns game c.args.play.now.past) c.requires in
    whole_range (spent c.args.game.now (history c.args.play.now)) c.loop-position.amounts.items c.loop-position.position c.args.game.now.players c.loop-position.invariant.so_far all
    ∙ ap (λ past. map (spent c.args.game.now past) (range_with_len 0 c.args.game.now.players)) same

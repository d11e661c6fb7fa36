use Rattle.std.proofs.Common.{◌≡◌, ◌∙◌, ◌+◌, ◌≤◌, ◌<◌, ◌++◌, ◌∷◌, [], List, take, drop, reverse, get_or, sym, ap, subst, arith}
use Rattle.game_def.specs.Game.{Game, IsGame}
use Rattle.betting.specs.declared.action.Action.{Action}
use Rattle.betting.specs.declared.action.Action.TheVariants.{Fold}
use Rattle.betting.specs.Betting.{Betting}
use Rattle.betting.specs.Legal.{CanAct, Legal}
use Rattle.betting.specs.Rounds.{current_round, turns}
use Rattle.luck.specs.Streets.{before_street}
use Rattle.luck.proofs.Replays.{legal_before, needed, none_needed, before_later, split_at, one_more}
use Rattle.luck.proofs.streets.before_street.Goals as goal

pub loop-action-init : goal.loop-action-init
loop-action-init c =
    record {
      same_game = ap (λ (b : Betting). b.game) c.new-replay.ensures ∙ c.game-2.ensures;
      so_far = ap (λ (b : Betting). b.past) c.new-replay.ensures;
      needed =
          let none : c.new-replay.result.past ≡ [] = ap (λ (b : Betting). b.past) c.new-replay.ensures in
          ap (before_street c.args.play.now.game c.args.street) none ∙ none_needed c.args.play.now.game c.args.street ∙ sym none;
    }

betting_is : (b : Betting) (game : Game) (past : List Action) → b.game ≡ game → b.past ≡ past → b ≡ record { game = game; past = past }
betting_is b game past same so = ap (λ (g : Game). let r : Betting = record { game = g; past = b.past } in r) same ∙ ap (λ (p : List Action). let r : Betting = record { game = game; past = p } in r) so

pub returns-then-round-street : goal.returns-then-round-street
returns-then-round-street c =
    let game = c.args.play.now.game in
    let past = c.args.play.now.past in
    let replayed = c.loop-action.replay.past in
    let later = reverse (drop c.loop-action.action-index c.actions-action-items.result.now) in
    let split : past ≡ later ++ replayed = split_at past c.actions-action-items.result.now c.loop-action.action-index c.actions-action-items.ensures.value ∙ ap (λ p. later ++ p) (sym c.loop-action.invariant.so_far) in
    let legal : Legal game (later ++ replayed) = subst (Legal game) split c.actions-action-items.ensures.legal in
    let begun : c.args.street ≤ current_round game (turns game replayed) =
    omega (arith, c.if-round-street.true, c.round.ensures.value, ap (λ g. current_round g (turns g replayed)) c.loop-action.invariant.same_game) in
    betting_is c.loop-action.replay game (before_street game c.args.street past) c.loop-action.invariant.same_game
    (sym (ap (before_street game c.args.street) split ∙ before_later c.rounds_go_on.ensures game c.args.street later replayed (subst IsGame c.game.ensures c.limits.ensures) legal begun ∙ c.loop-action.invariant.needed))

pub take_action-requires : goal.take_action-requires
take_action-requires c =
    let game = c.args.play.now.game in
    let past = c.args.play.now.past in
    let items = c.actions-action-items.result.now in
    let place = c.loop-action.action-index in
    let action = get_or items place Fold in
    let more : action ∷ c.loop-action.replay.past ≡ reverse (take (place + 1) items) = ap (λ p. action ∷ p) c.loop-action.invariant.so_far ∙ one_more items place Fold c.loop-action-test.true in
    let split : past ≡ reverse (drop (place + 1) items) ++ action ∷ c.loop-action.replay.past = split_at past items (place + 1) c.actions-action-items.ensures.value ∙ ap (λ p. reverse (drop (place + 1) items) ++ p) (sym more) in
    let legal : Legal game (action ∷ c.loop-action.replay.past) = legal_before game (reverse (drop (place + 1) items)) (action ∷ c.loop-action.replay.past) (subst (Legal game) split c.actions-action-items.ensures.legal) in
    subst (λ g. CanAct g (turns g c.loop-action.replay.past) action) (sym c.loop-action.invariant.same_game) legal.1

pub loop-action-preserved : goal.loop-action-preserved
loop-action-preserved c =
    let game = c.args.play.now.game in
    let items = c.actions-action-items.result.now in
    let place = c.loop-action.action-index in
    let action = get_or items place Fold in
    let past_is : c.take_action.new.self.past ≡ action ∷ c.loop-action.replay.past = ap (λ (b : Betting). b.past) c.take_action.ensures in
    let earlier : current_round game (turns game c.loop-action.replay.past) < c.args.street =
    omega (arith, c.if-round-street.false, c.round.ensures.value, ap (λ g. current_round g (turns g c.loop-action.replay.past)) c.loop-action.invariant.same_game) in
    record {
      same_game = ap (λ (b : Betting). b.game) c.take_action.ensures ∙ c.loop-action.invariant.same_game;
      so_far = past_is ∙ ap (λ p. action ∷ p) c.loop-action.invariant.so_far ∙ one_more items place Fold c.loop-action-test.true;
      needed = ap (before_street game c.args.street) past_is ∙ needed game c.args.street action c.loop-action.replay.past earlier ∙ sym past_is;
    }

use Rattle.std.proofs.Common.{ℕ, List, subst}
use Rattle.betting.specs.Rounds.{turns}
use Rattle.game_def.specs.Game.{Game}
use Rattle.seat_relay.specs.Mending.{read_part, IsMended}
use Rattle.seat_relay.proofs.mending.mended_answer.Goals as goal

pub returns-clause-mended : goal.returns-clause-mended
returns-clause-mended c =
    let game : Game = c.args.game.now in
    let read : IsMended c.in-Some.play.game (turns c.in-Some.play.game c.in-Some.play.past) (read_part game c.args.field.now) c.mended-action.result =
    subst (λ (part : List ℕ). IsMended c.in-Some.play.game (turns c.in-Some.play.game c.in-Some.play.past) part c.mended-action.result) c.read_part.ensures c.mended-action.ensures in
    let mended : IsMended game (turns game c.in-Some.play.past) (read_part game c.args.field.now) c.mended-action.result =
    subst (λ (of : Game). IsMended of (turns of c.in-Some.play.past) (read_part game c.args.field.now) c.mended-action.result) c.in-Some.ensures.game read in
    record {
      past = c.in-Some.play.past;
      to_answer = c.in-Some.ensures.turn;
      action = c.mended-action.result;
      is_mended = mended;
      whole = c.in_ok-answer_text.ensures.whole;
      reads_back = c.in_ok-answer_text.ensures.reads_back _ mended.allowed;
    }

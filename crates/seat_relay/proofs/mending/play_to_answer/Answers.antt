use Rattle.std.proofs.Common.{◌≡◌, ℕ, ◌<◌, ◌≤◌, ◌^◌, List, decimal, Option, Some, None, ap, sym, subst, ◌∙◌, arith}
use Rattle.game_def.specs.Game.{Game}
use Rattle.betting.specs.Rounds.{to_act, turns}
use Rattle.betting.specs.Betting.{Betting, history}
use Rattle.betting.specs.Text.{text}
use Rattle.betting.specs.declared.action.Action.{Action}
use Rattle.matchstate.specs.Line.{Fields}
use Rattle.seat_relay.specs.PlaceInside.{fields_in}
use Rattle.seat_relay.proofs.mending.play_to_answer.Goals as goal

abbrev play_of : Game → List Action → Betting
play_of game past = record { game = game; past = past }

same_some : {A : Type 0} (x y : A) → Some x ≡ Some y → x ≡ y
same_some x y e = cc

-- who is to act is the same of the same play
acts_so : (play : Betting) (game : Game) (past : List Action) (turn : Option ℕ) → Some play ≡ Some (play_of game past) → turn ≡ to_act play.game (history play) → turn ≡ to_act game (turns game past)
acts_so play game past turn same is = subst (λ (p : Betting). turn ≡ to_act p.game (history p)) (same_some play (play_of game past) same) is

same_turn : (turn position : ℕ) (act : Option ℕ) → Some turn ≡ act → act ≡ Some position → turn ≡ position
same_turn turn position act one two = same_some turn position (one ∙ two)

below : (play : Betting) (game : Game) (past : List Action) (turn position : ℕ) → Some play ≡ Some (play_of game past) → turn < play.game.players → game.players ≤ 10 → turn ≡ position → position < 2 ^ 32
below play game past turn position same within most is =
    let least : turn < game.players = subst (λ (p : Betting). turn < p.game.players) (same_some play (play_of game past) same) within in
    omega arith

pub returns-in_err-fields-clause-only : goal.returns-in_err-fields-clause-only
returns-in_err-fields-clause-only c = λ past is. absurd (c.in_err-fields.ensures.only is.fields is.has_fields)

pub returns-in_err-play-clause-only : goal.returns-in_err-play-clause-only
returns-in_err-play-clause-only c = λ past is.
    let same : fields_in c.in_ok-fields.fields ≡ is.fields = c.in_ok-fields.ensures.only is.fields is.has_fields in
    let betting : c.in_ok-fields.fields.betting.now ≡ text c.args.game.now past = ap (λ (f : Fields). f.betting) same ∙ is.betting in
    let got = c.in_err-play.ensures.only past is.legal betting in
    cc

pub returns-in_err-turn-clause-only : goal.returns-in_err-turn-clause-only
returns-in_err-turn-clause-only c = λ past is.
    let same : fields_in c.in_ok-fields.fields ≡ is.fields = c.in_ok-fields.ensures.only is.fields is.has_fields in
    let betting : c.in_ok-fields.fields.betting.now ≡ text c.args.game.now past = ap (λ (f : Fields). f.betting) same ∙ is.betting in
    let got : Some c.in_ok-play.play ≡ Some (play_of c.args.game.now past) = c.in_ok-play.ensures.only past is.legal betting in
    let none : None ≡ to_act c.args.game.now (turns c.args.game.now past) = acts_so c.in_ok-play.play c.args.game.now past None got c.in_err-turn.ensures.value in
    let some = is.turn in
    cc

pub returns-in_err-position-clause-only : goal.returns-in_err-position-clause-only
returns-in_err-position-clause-only c = λ past is.
    let same : fields_in c.in_ok-fields.fields ≡ is.fields = c.in_ok-fields.ensures.only is.fields is.has_fields in
    let betting : c.in_ok-fields.fields.betting.now ≡ text c.args.game.now past = ap (λ (f : Fields). f.betting) same ∙ is.betting in
    let got : Some c.in_ok-play.play ≡ Some (play_of c.args.game.now past) = c.in_ok-play.ensures.only past is.legal betting in
    let acts : Some c.in_ok-turn.turn ≡ to_act c.args.game.now (turns c.args.game.now past) = acts_so c.in_ok-play.play c.args.game.now past (Some c.in_ok-turn.turn) got c.in_ok-turn.ensures.value in
    let one : c.in_ok-turn.turn ≡ is.position = same_turn _ _ _ acts is.turn in
    let least : is.position < 2 ^ 32 = below c.in_ok-play.play c.args.game.now past c.in_ok-turn.turn is.position got c.in_ok-turn.ensures.seat c.limits.ensures.most_players one in
    let text : c.in_ok-fields.fields.position.now ≡ decimal is.position = ap (λ (f : Fields). f.position) same ∙ is.position_text in
    let read = c.in_err-position.ensures.only is.position least text in
    cc

pub returns-else-turn-position-clause-only : goal.returns-else-turn-position-clause-only
returns-else-turn-position-clause-only c = λ past is.
    let same : fields_in c.in_ok-fields.fields ≡ is.fields = c.in_ok-fields.ensures.only is.fields is.has_fields in
    let betting : c.in_ok-fields.fields.betting.now ≡ text c.args.game.now past = ap (λ (f : Fields). f.betting) same ∙ is.betting in
    let got : Some c.in_ok-play.play ≡ Some (play_of c.args.game.now past) = c.in_ok-play.ensures.only past is.legal betting in
    let acts : Some c.in_ok-turn.turn ≡ to_act c.args.game.now (turns c.args.game.now past) = acts_so c.in_ok-play.play c.args.game.now past (Some c.in_ok-turn.turn) got c.in_ok-turn.ensures.value in
    let one : c.in_ok-turn.turn ≡ is.position = same_turn _ _ _ acts is.turn in
    let least : is.position < 2 ^ 32 = below c.in_ok-play.play c.args.game.now past c.in_ok-turn.turn is.position got c.in_ok-turn.ensures.seat c.limits.ensures.most_players one in
    let text : c.in_ok-fields.fields.position.now ≡ decimal is.position = ap (λ (f : Fields). f.position) same ∙ is.position_text in
    let read : Some c.in_ok-position.position ≡ Some is.position = c.in_ok-position.ensures.only is.position least text in
    let two : c.in_ok-position.position ≡ is.position = same_some _ _ read in
    absurd (c.if-turn-position.false (one ∙ sym two))

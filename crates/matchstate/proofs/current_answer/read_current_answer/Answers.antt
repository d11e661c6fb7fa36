use Rattle.std.proofs.Common.{◌≡◌, ℕ, ◌<◌, List, Option, Some, None, true, false, refl, sym, ap, ◌∙◌, subst}
use Rattle.std.proofs.lemmas.Bool.{false≢true}
use Rattle.game_def.specs.Game.{Game}
use Rattle.betting.specs.Betting.{Betting}
use Rattle.betting.specs.Rounds.{turns}
use Rattle.card_core.specs.Deal.{IsDeal}
use Rattle.matchstate.specs.ActionText.{IsActionText}
use Rattle.matchstate.specs.Line.{IsLine}
use Rattle.matchstate.specs.SeatHand.{view_in_hand}
use Rattle.matchstate.specs.View.{View}
use Rattle.matchstate.proofs.Missing.{missing}
use Rattle.matchstate.proofs.current_answer.read_current_answer.Goals as goal

pub is_line_in-requires-clause-below : goal.is_line_in-requires-clause-below
is_line_in-requires-clause-below c = let at = c.in_ok-at.at in subst (λ (g : Game). at.position < g.players) (sym c.in_ok-at.ensures.some.same_game) c.in_ok-at.ensures.some.below

pub is_line_in-requires-clause-number : goal.is_line_in-requires-clause-number
is_line_in-requires-clause-number c = c.in_ok-at.ensures.some.number

pub is_line_in-requires-clause-dealt : goal.is_line_in-requires-clause-dealt
is_line_in-requires-clause-dealt c = let at = c.in_ok-at.at in subst (λ (g : Game). IsDeal g.players at.deal.now) (sym c.in_ok-at.ensures.some.same_game) c.in_ok-at.ensures.some.dealt

pub returns-in_err-line-clause-missing : goal.returns-in_err-line-clause-missing
returns-in_err-line-clause-missing c =
    λ _ view action current answer. missing _ c.in_err-line.was (c.cut_last_field.ensures.only answer.line answer.field answer.cut.last answer.cut.whole)

pub returns-in_err-at-clause-missing : goal.returns-in_err-at-clause-missing
returns-in_err-at-clause-missing c =
    λ _ view action current answer.
    let none = c.in_err-at.ensures.none refl in
    let clash : ◌≡◌ {A = Option View} None (Some view) = sym none ∙ current in
    cc

pub returns-then-not-is_line_in-clause-missing : goal.returns-then-not-is_line_in-clause-missing
returns-then-not-is_line_in-clause-missing c =
    λ _ view action current answer.
    let at = c.in_ok-at.at in
    let game = c.args.table.now.game in
    let same = c.in_ok-line.ensures.only answer.line answer.field answer.cut.last answer.cut.whole in
    let by_text : IsLine game c.in_ok-line.line.now view = subst (λ (t : List ℕ). IsLine game t view) (sym same.0) answer.line_is in
    let views : ◌≡◌ {A = Option View} (Some view) (Some (view_in_hand game at)) = sym current ∙ c.in_ok-at.ensures.some.current in
    let its : view ≡ view_in_hand game at = cc in
    let line : IsLine game c.in_ok-line.line.now (view_in_hand game at) = subst (IsLine game c.in_ok-line.line.now) its by_text in
    let own = subst (λ (g : Game). IsLine g c.in_ok-line.line.now (view_in_hand g at)) (sym c.in_ok-at.ensures.some.same_game) line in
    let clash : false ≡ true = sym c.if-not-is_line_in.true ∙ c.is_line_in.ensures.1 own in
    false≢true clash

pub returns-in_err-action-clause-missing : goal.returns-in_err-action-clause-missing
returns-in_err-action-clause-missing c =
    λ _ view action current answer.
    let at = c.in_ok-at.at in
    let game = c.args.table.now.game in
    let same = c.in_ok-line.ensures.only answer.line answer.field answer.cut.last answer.cut.whole in
    let views : ◌≡◌ {A = Option View} (Some view) (Some (view_in_hand game at)) = sym current ∙ c.in_ok-at.ensures.some.current in
    let its : view ≡ view_in_hand game at = cc in
    let past = ap (λ (v : View). v.past) its in
    let by_text = subst (λ (t : List ℕ). IsActionText game (turns game view.past) t action) (sym same.1) answer.action_is in
    let by_past = subst (λ p. IsActionText game (turns game p) c.in_ok-line.field.now action) past by_text in
    let own = subst (λ (g : Game). IsActionText g (turns g at.play.now.past) c.in_ok-line.field.now action) (sym c.in_ok-at.ensures.some.same_game) by_past in
    let got = c.read_action.ensures.only action own in
    let was = c.in_err-action.was in
    cc

pub returns-clause-found : goal.returns-clause-found
returns-clause-found c =
    let at = c.in_ok-at.at in
    let game = c.args.table.now.game in
    let some = c.in_ok-at.ensures.some in
    record {
      view = view_in_hand game at;
      current = some.current;
      is_answer = record {
        line = c.in_ok-line.line.now;
        field = c.in_ok-line.field.now;
        cut = record { whole = c.in_ok-line.ensures.found.0; last = c.in_ok-line.ensures.found.1 };
        line_is = subst (λ (g : Game). IsLine g c.in_ok-line.line.now (view_in_hand g at)) some.same_game (c.is_line_in.ensures.0 c.if-not-is_line_in.false);
        action_is = subst (λ (g : Game). IsActionText g (turns g at.play.now.past) c.in_ok-line.field.now c.in_ok-action.action) some.same_game c.in_ok-action.ensures.found;
      };
      same_hand = refl;
      same_position = refl;
      same_play = ap (λ (g : Game). let b : Betting = record { game = g; past = at.play.now.past } in b) some.same_game;
    }

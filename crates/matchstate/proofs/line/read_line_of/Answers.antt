use Rattle.std.proofs.Common.{◌≡◌, ℕ, List, Option, Some, true, false, refl, sym, ap, ◌∙◌, subst}
use Rattle.std.proofs.lemmas.Bool.{false≢true}
use Rattle.game_def.specs.Game.{Game}
use Rattle.betting.specs.declared.action.Action.{Action}
use Rattle.betting.specs.Text.{text}
use Rattle.matchstate.specs.Cards.{AreSeen}
use Rattle.matchstate.specs.Line.{Fields, AreNumbers}
use Rattle.matchstate.specs.FieldsInside.{fields_in}
use Rattle.matchstate.specs.View.{sees, rounds_seen}
use Rattle.matchstate.proofs.Missing.{missing}
use Rattle.matchstate.proofs.line.read_line_of.Goals as goal

same_first : (found : Option (ℕ × ℕ)) (first second other more : ℕ) → found ≡ Some (first, second) → found ≡ Some (other, more) → first ≡ other
same_first found first second other more is was =
    let both : ◌≡◌ {A = ℕ × ℕ} (first, second) (other, more) = cc in
    ap (λ (pair : ℕ × ℕ). pair.0) both

pub returns-in_err-fields-clause-missing : goal.returns-in_err-fields-clause-missing
returns-in_err-fields-clause-missing c =
    λ _ view past line. missing _ c.in_err-fields.was (c.fields_of.ensures.only line.fields line.has_fields)

pub returns-in_err-position-clause-missing : goal.returns-in_err-position-clause-missing
returns-in_err-position-clause-missing c =
    λ _ view past line.
    let same : fields_in c.in_ok-fields.fields ≡ line.fields = c.in_ok-fields.ensures.only line.fields line.has_fields in
    let numbers = subst (λ (f : Fields). AreNumbers c.args.play.now.game f view.position view.hand) (sym same) line.numbers in
    let own = subst (λ (g : Game). AreNumbers g (fields_in c.in_ok-fields.fields) view.position view.hand) (sym c.game.ensures) numbers in
    let got = c.numbers_of.ensures.only view.position view.hand own in
    let was = c.in_err-position.was in
    cc

pub returns-then-not-is-clause-missing : goal.returns-then-not-is-clause-missing
returns-then-not-is-clause-missing c =
    λ _ view past line.
    let play = c.args.play.now in
    let same : fields_in c.in_ok-fields.fields ≡ line.fields = c.in_ok-fields.ensures.only line.fields line.has_fields in
    let betting : c.in_ok-fields.fields.betting.now ≡ text play.game play.past = ap (λ (f : Fields). f.betting) same ∙ line.betting.betting_text ∙ ap (text play.game) past in
    let clash : false ≡ true = sym c.if-not-is.true ∙ c.is.ensures.1 (betting ∙ sym c.of.ensures.text) in
    false≢true clash

pub returns-in_err-seen-clause-missing : goal.returns-in_err-seen-clause-missing
returns-in_err-seen-clause-missing c =
    λ _ view past line.
    let play = c.args.play.now in
    let same : fields_in c.in_ok-fields.fields ≡ line.fields = c.in_ok-fields.ensures.only line.fields line.has_fields in
    let numbers = subst (λ (f : Fields). AreNumbers play.game f view.position view.hand) (sym same) line.numbers in
    let own = subst (λ (g : Game). AreNumbers g (fields_in c.in_ok-fields.fields) view.position view.hand) (sym c.game.ensures) numbers in
    let got = c.numbers_of.ensures.only view.position view.hand own in
    let was = c.in_ok-position.was in
    let position : view.position ≡ c.in_ok-position.position = same_first c.numbers_of.result view.position view.hand c.in_ok-position.position c.in_ok-position.hand got was in
    let by_past = subst (λ (p : List Action). AreSeen play.game.players (sees play.game p view.position) (rounds_seen play.game p) view.holes view.boards) past line.cards.seen in
    let seen = subst (λ (p : ℕ). AreSeen play.game.players (sees play.game play.past p) (rounds_seen play.game play.past) view.holes view.boards) position by_past in
    missing _ c.in_err-seen.was (c.read_sight.ensures.only view.holes view.boards seen (ap (λ (f : Fields). f.cards) same ∙ line.cards.cards_text))

pub returns-clause-found : goal.returns-clause-found
returns-clause-found c = record {
  fields = fields_in c.in_ok-fields.fields;
  has_fields = c.in_ok-fields.ensures.found;
  same_game = refl;
  numbers = subst (λ (g : Game). AreNumbers g (fields_in c.in_ok-fields.fields) c.in_ok-position.position c.in_ok-position.hand) c.game.ensures c.in_ok-position.ensures.found;
  betting = record { betting_text = c.is.ensures.0 c.if-not-is.false ∙ c.of.ensures.text; legal = c.of.ensures.legal };
  cards = record { cards_text = c.in_ok-seen.ensures.found; seen = c.in_ok-seen.ensures.seen };
}

use Rattle.std.proofs.Common.{◌≡◌, ◌∙◌, ap, sym, refl, [], List}
use Rattle.std.specs.Prelude.{ℕ, None, Option, replicate}
use Rattle.game_def.specs.Game.{Game}
use Rattle.slot_log.specs.Hand.{Match}
use Rattle.slot_log.specs.Dealer as dealer
use Rattle.proposer.specs.Campaigns.{Proposing}
use Rattle.learner.specs.Learning.{new_learned}
use Rattle.seat_session.specs.Session.{Standing as Talk}
use Rattle.dealer_kind.specs.Kind.{Setting, hands_after}
use Rattle.dealer_node.proofs.running.Running.new.Goals as goal

no_hands : (setting : Setting) → hands_after setting [] ≡ []
unfolding dealer.hands_of
no_hands setting = refl

pub returns-clause-runs : goal.returns-clause-runs
returns-clause-runs c = λ found.
    let setting : Setting = c.args.member.now.setting in
    record {
      up = refl;
      campaign = ap (λ (p : Proposing). p.campaign) c.new.ensures;
      learned = c.in_ok-new.ensures ∙ ap (λ n. new_learned n) c.nodes-2.ensures.value;
      hands = record {
        game = ap (λ (m : Match). m.game) c.new-3.ensures ∙ c.game-3.ensures;
        count = ap (λ (m : Match). m.count) c.new-3.ensures ∙ c.hands.ensures.value;
        hands = ap (λ (m : Match). m.hands) c.new-3.ensures ∙ sym (no_hands setting);
      };
      waits = refl;
      greatest = refl;
      sessions = c.in_ok-new-2.ensures ∙ (let players : c.players-players.result ≡ setting.game.players = c.players-players.ensures.value ∙ ap (λ (g : Game). g.players) c.game-2.ensures in ap (λ (n : ℕ). let none : List (Option Talk) = replicate n None in none) players);
    }

-- The log of a match that is over, whose deals are fair, is one that is accepted.
use Rattle.std.proofs.Common.{◌≡◌, ℕ, true, List, [], ◌∷◌, ◌++◌, sym, ap, subst, ◌∙◌, arith, length}
use Rattle.std.specs.List.{AllByRecursion}
use Rattle.game_def.specs.Game.{Game}
use Rattle.card_core.specs.Deal.{IsDeal, player_count}
use Rattle.betting.specs.declared.action.Action.{Action}
use Rattle.slot_log.specs.Hand.{Hand}
use Rattle.slot_log.specs.Dealer.{is_match_over}
use Rattle.slot_log.specs.Laws.{HandsComeOfCommands}
use Rattle.slot_log.specs.Played.{AreHands, IsLegalHand, acts_of, commands_of}
use Rattle.slot_log.specs.declared.command.Command.{Command}
use Rattle.slot_log.specs.declared.command.Command.TheVariants.{Deal}
use Rattle.match_log.specs.Check.{DealsFairly, IsMatchLog}
use Rattle.match_log.specs.Log.{log_of as lines_of, log_lines}
use Rattle.dealer_kind.specs.Kind.{Setting, hands_after, log_of}
use Rattle.dealer_kind.specs.Plans.{IsSetting}

acts_are_fair : (hand : ℕ) (past : List Action) (more : List Command) → AllByRecursion DealsFairly more → AllByRecursion DealsFairly (acts_of hand past ++ more)
acts_are_fair hand [] more fair = fair
acts_are_fair hand (action ∷ past) more fair = (tt, acts_are_fair hand past more fair)

commands_are_fair : (game : Game) (hands : List Hand) → AllByRecursion (IsLegalHand game) hands → AllByRecursion (λ (hand : Hand). IsDeal game.players hand.deal) hands
    → AllByRecursion DealsFairly (commands_of hands)
commands_are_fair game [] legal fair = tt
commands_are_fair game (hand ∷ earlier) legal fair =
    let players : player_count hand.deal ≡ game.players = omega (arith, legal.0.card_count) in
    acts_are_fair (length earlier) hand.past (Deal (length earlier) hand.deal ∷ commands_of earlier)
    (subst (λ (n : ℕ). IsDeal n hand.deal) (sym players) fair.0, commands_are_fair game earlier legal.1 fair.1)

-- the log after some commands is that of all others that make the same hands
same_log : (setting : Setting) (one other : List Command) → hands_after setting one ≡ hands_after setting other → log_of setting one ≡ log_of setting other
unfolding log_lines
same_log setting one other same = ap (lines_of setting.game setting.title setting.names) same

pub accepted : HandsComeOfCommands → (setting : Setting) (commands : List Command) → IsSetting setting → AreHands setting.game setting.title.hands (hands_after setting commands)
    → AllByRecursion (λ (hand : Hand). IsDeal setting.game.players hand.deal) (hands_after setting commands) → is_match_over setting.game setting.title.hands (hands_after setting commands) ≡ true
    → IsMatchLog setting.game (log_of setting commands)
accepted law setting commands within hands fair over =
    let same : hands_after setting (commands_of (hands_after setting commands)) ≡ hands_after setting commands =
    law setting.game setting.title.hands (hands_after setting commands) hands.legal hands.earlier_finished hands.within in
    record {
      title = setting.title;
      is_title = record { name = within.match_name; game = within.game_word; least = within.least; most = within.most };
      names = setting.names;
      are_names = within.seat_names;
      commands = commands_of (hands_after setting commands);
      deals = commands_are_fair setting.game (hands_after setting commands) hands.legal fair;
      over = ap (is_match_over setting.game setting.title.hands) same ∙ over;
      lines = same_log setting commands (commands_of (hands_after setting commands)) (sym same);
    }

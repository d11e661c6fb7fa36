-- What holds of the dealers of matches.
use Rattle.std.specs.Prelude.{◌≡◌, ◌≢◌, ◌↔◌, ℕ, ◌<◌, Bool, true, List, Some, Ok, length}
use Rattle.game_def.specs.Game.{IsGame}
use Rattle.betting.specs.declared.action.Action.{Action}
use Rattle.slot_log.specs.Dealer.{Fits, IsDealing, next_away}
use Rattle.slot_log.specs.declared.command.Command.{Command}
use Rattle.slot_log.specs.declared.command.Command.TheVariants.{Act, Away}
use Rattle.matchstate.specs.View.{View, IsView, seat_view}
use Rattle.seat_session.specs.Saying.{SaysAct}
use Rattle.seat_session.specs.Lines.{HasNoFeed, text_of}
use Rattle.seat_session.specs.Laws.{HoldsLine, IsRestOf}
use Rattle.seat_session.specs.Session.{Standing, Answers}
use Rattle.seat_session.specs.declared.said.Said.TheVariants.{Act as SaidAct}
use Rattle.protocol_model.specs.Messages.{Message}
use Rattle.protocol_model.specs.Arrivals.{Arrival}
use Rattle.protocol_model.specs.Dealers.{HasNoFeed as HasNoLineFeed, HasLine}
use Rattle.protocol_model.specs.Laws.{HasOrigin}
use Rattle.dealer_kind.specs.Kind.{Setting, hands_after, says, orders, dealer_of}
use Rattle.dealer_kind.specs.Owning.{OwnsDeals, IsDealtSaidOrOrdered}
use Rattle.dealer_kind.specs.Plans.{IsSetting}

-- where each node's own commands are deals, a command's origin is what it is for a deal, for an act and for a player who is away
abbrev pub OriginsAreOfTheirKind : Type 0
OriginsAreOfTheirKind = (setting : Setting) (own : ℕ → Command → Bool) (n : ℕ) (ever : List Message) (came : List Arrival) (command : Command) → OwnsDeals own
    → HasOrigin (dealer_of setting own) n ever came command → IsDealtSaidOrOrdered (dealer_of setting own) n ever came command

-- a line says no deal
abbrev pub LinesSayActs : Type 0
LinesSayActs = (setting : Setting) (before : List Command) (seat : ℕ) (line : List ℕ) (command : Command) → says setting before seat line command ≡ true
    → IsDealing command → ⊥

-- nor that a player is away
abbrev pub LinesSayNoAway : Type 0
LinesSayNoAway = (setting : Setting) (before : List Command) (seat : ℕ) (line : List ℕ) (hand index : ℕ) → says setting before seat line (Away hand index) ≡ true → ⊥

-- an order means the command by which the player to act of the hand that runs is played for, and no other
abbrev pub OrdersPlayForTheNext : Type 0
OrdersPlayForTheNext = (setting : Setting) (before : List Command) (command : Command) → IsSetting setting
    → (orders setting before command ≡ true) ↔ (next_away setting.game (hands_after setting before) ≡ Some command)

-- an act that a session takes from a line and that fits is one that the line says
abbrev pub SessionsSay : Type 0
SessionsSay = (setting : Setting) (before : List Command) (seat : ℕ) (line : List ℕ) (hand index : ℕ) (action : Action) → seat < setting.game.players
    → SaysAct setting.game (hands_after setting before) seat (text_of line) hand index action
    → Fits setting.game setting.title.hands (hands_after setting before) (Act hand index action)
    → says setting before seat line (Act hand index action) ≡ true

-- and an act that a line says, a session takes from it, and it fits
abbrev pub SaidIsHeard : Type 0
SaidIsHeard = (setting : Setting) (before : List Command) (seat : ℕ) (line : List ℕ) (hand index : ℕ) (action : Action) (view : View) → IsGame setting.game
    → seat_view setting.game (hands_after setting before) seat ≡ Some view → IsView view
    → says setting before seat line (Act hand index action) ≡ true
    → SaysAct setting.game (hands_after setting before) seat (text_of line) hand index action
    × Fits setting.game setting.title.hands (hands_after setting before) (Act hand index action)

-- the protocol and the sessions mean the same by a whole line, and by no line feed
abbrev pub OneMeaningOfLines : Type 0
OneMeaningOfLines = (bytes line : List ℕ) → (HoldsLine bytes line ↔ HasLine bytes line) × (HasNoFeed bytes ↔ HasNoLineFeed bytes)

-- an act that a session answers, of bytes that came since it began, stands there in a whole line that says it
abbrev pub AnswersAreHeard : Type 0
AnswersAreHeard = (setting : Setting) (before : List Command) (seat : ℕ) (bytes : List ℕ) (old new : Standing) (hand index : ℕ) (action : Action)
    → seat < setting.game.players → IsRestOf bytes old
    → Answers setting.game (hands_after setting before) seat old (Some (Ok (SaidAct (Act hand index action)))) new
    → Fits setting.game setting.title.hands (hands_after setting before) (Act hand index action)
    → (line : List ℕ) × HasLine bytes line × (says setting before seat line (Act hand index action) ≡ true)

-- What a list of commands says of the acts of seats.
use Rattle.std.specs.Prelude.{◌≡◌, ℕ, ◌+◌, ◌%◌, ◌==◌, ◌<◌, min, if◌then◌else◌, Bool, true, false, List, [], ◌∷◌, length, get_or, Option, Some, None, is_none}
use Rattle.betting.specs.Betting.{Betting}
use Rattle.betting.specs.Rounds.{to_act, turns}
use Rattle.clockwork.specs.declared.seat_watch.Acts.{Acts}
use Rattle.game_def.specs.Game.{Game}
use Rattle.slot_log.specs.Hand.{Hand}
use Rattle.slot_log.specs.Dealer.{hands_of, reason_of}
use Rattle.slot_log.specs.declared.command.Command.{Command}
use Rattle.slot_log.specs.declared.command.Command.TheVariants.{Deal, Act, Away}
use Rattle.node_service.specs.declared.limits.TheConstants.{SEATS}
use Rattle.node_service.specs.declared.newest_hand.NewestHand.{NewestHand}
use Rattle.node_service.specs.declared.seat_acts.SeatActs.{SeatActs}

-- no act is known
abbrev pub no_acts : Acts
no_acts = record { has_acted = false; defaults = 0 }

-- one more took effect: a default action is one more in a row, and an act that the seat said itself ends the row
abbrev pub and_act : Command → Acts → Acts
and_act (Deal hand deal) acts = acts
and_act (Act hand index action) acts = record { has_acted = true; defaults = 0 }
and_act (Away hand index) acts = record { has_acted = acts.has_acted; defaults = min 4294967295 (acts.defaults + 1) }

-- the seat to act in the newest of these hands
abbrev pub seat_in_newest : ℕ → ℕ → Option ℕ → Option ℕ
seat_in_newest hand players None = None
seat_in_newest hand players (Some position) = Some ((position + hand) % players)

abbrev pub seat_of : Game → List Hand → Option ℕ
seat_of game [] = None
seat_of game (newest ∷ earlier) = seat_in_newest (length earlier) game.players (to_act game (turns game newest.past))

abbrev pub is_seat : Option ℕ → ℕ → Bool
is_seat None seat = false
is_seat (Some other) seat = other == seat

-- whose act a command is after these hands: where it takes effect, that of the seat to act
abbrev pub actor_of : Game → ℕ → List Hand → Command → Option ℕ
actor_of game count hands command = if is_none (reason_of game count hands command) then seat_of game hands else None

abbrev pub acts_after : Bool → Command → Acts → Acts
acts_after is_its command acts = if is_its then and_act command acts else acts

-- the acts of a seat by all these commands, the newest first: whether it said one itself, and how many of its newest ones in a row are default actions
abbrev pub acts_of : Game → ℕ → List Command → ℕ → Acts
acts_of game count [] seat = no_acts
acts_of game count (command ∷ earlier) seat = acts_after (is_seat (actor_of game count (hands_of game count earlier) command) seat) command (acts_of game count earlier seat)

-- ---- how they are kept

abbrev pub acts_at : List Acts → ℕ → Acts
acts_at all seat = get_or all seat no_acts

-- one more of this seat, if it is one, and of the others as before
abbrev pub Gains : Option ℕ → Command → List Acts → List Acts → Type 0
Gains acting command old new = (seat : ℕ) → seat < SEATS → acts_at new seat ≡ acts_after (is_seat acting seat) command (acts_at old seat)

-- the betting is that of the newest hand
abbrev pub IsBettingOf : Game → List Hand → Option Betting → Type 0
IsBettingOf game [] play = play ≡ None
IsBettingOf game (newest ∷ earlier) play = play ≡ Some (record { game = game; past = newest.past })

-- it is the newest of these hands
pub record IsNewestOf (newest : NewestHand) (hands : List Hand) : Type 0 where
  pub dealt : newest.dealt ≡ length hands
  pub play : IsBettingOf newest.game hands newest.play

-- which these commands make, the newest first
abbrev pub IsNewestBy : NewestHand → List Command → Type 0
IsNewestBy newest commands = IsNewestOf newest (hands_of newest.game newest.count commands)

-- what is kept is what these commands say, the newest first
pub record AreActsBy (acts : SeatActs) (commands : List Command) : Type 0 where
  pub newest : IsNewestBy acts.newest commands
  pub all : (seat : ℕ) → seat < SEATS → acts_at acts.all seat ≡ acts_of acts.newest.game acts.newest.count commands seat

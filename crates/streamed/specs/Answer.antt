-- What a script line says to the dealer, and the answer to it.
use Rattle.std.specs.Prelude.{◌≡◌, ℕ, List, [], ◌∷◌, ◌++◌, length, Option, Some, None, codes, decimal}
use Rattle.std.specs.List.{flat_map, range_with_len}
use Rattle.std.specs.Option.{option_to_list}
use Rattle.game_def.specs.Game.{Game}
use Rattle.betting.specs.Rounds.{turns}
use Rattle.betting.specs.Fault.{fault_text}
use Rattle.card_core.specs.Deal.{IsDeal}
use Rattle.slot_log.specs.Hand.{Hand}
use Rattle.slot_log.specs.Dealer.{finished_count, hands_of, reason_of}
use Rattle.slot_log.specs.declared.command.Command.{Command}
use Rattle.slot_log.specs.declared.command.Command.TheVariants.{Deal, Act, Away}
use Rattle.slot_log.specs.declared.reason.Reason.{Reason}
use Rattle.slot_log.specs.declared.reason.Reason.TheVariants.{MatchDone, NoHand, HandRunning, WrongHand, WrongIndex, WrongCards, Illegal}
use Rattle.matchstate.specs.ActionText.{IsActionText}
use Rattle.matchstate.specs.Cards.{deal_text}
use Rattle.matchstate.specs.Line.{line_text}
use Rattle.matchstate.specs.View.{seat_view}
use Rattle.streamed.specs.Names.{IsNamesLine}
use Rattle.streamed.specs.Told.{commands_of}
use Rattle.streamed.specs.Logged.{logged}
use Rattle.streamed.specs.declared.script_line.ScriptLine.{ScriptLine}
use Rattle.streamed.specs.declared.script_line.ScriptLine.TheVariants.{Names, Told, Bad}

-- a line tells the dealer to deal the next hand, by `deal ` and a deal's text, or is the next action of the newest hand, or tells by `away` that its player
-- to act is played for
abbrev pub Tells : Game → List Hand → List ℕ → Command → Type 0
Tells game hands text (Deal hand deal) =
    (hand ≡ finished_count game hands) × IsDeal game.players deal × (text ≡ codes "deal " ++ deal_text game.players deal)
Tells game [] text (Act hand index action) = ⊥
Tells game (newest ∷ earlier) text (Act hand index action) =
    (hand ≡ length earlier) × (index ≡ length newest.past) × IsActionText game (turns game newest.past) text action
Tells game [] text (Away hand index) = ⊥
Tells game (newest ∷ earlier) text (Away hand index) = (hand ≡ length earlier) × (index ≡ length newest.past) × (text ≡ codes "away")

-- what a line says: until the seats are named only a line that names them is right, and after that only a command
abbrev pub Says : Game → Option (List (List ℕ)) → List Hand → List ℕ → ScriptLine → Type 0
Says game None hands text (Names names) = IsNamesLine game.players names text
Says game None hands text (Told command) = ⊥
Says game None hands text Bad = (names : List (List ℕ)) → ¬ (IsNamesLine game.players names text)
Says game (Some told) hands text (Names names) = ⊥
Says game (Some told) hands text (Told command) = Tells game hands text command
Says game (Some told) hands text Bad = (command : Command) → ¬ (Tells game hands text command)

-- names of so many seats come once, and before all commands
abbrev pub ComesInTurn : ℕ → Option (List (List ℕ)) → ScriptLine → Type 0
ComesInTurn players None (Names names) = length names ≡ players
ComesInTurn players None (Told command) = ⊥
ComesInTurn players None Bad = Unit {0}
ComesInTurn players (Some told) (Names names) = ⊥
ComesInTurn players (Some told) (Told command) = Unit {0}
ComesInTurn players (Some told) Bad = Unit {0}

-- a seat's number, a space, and the line that the seat gets after these hands
abbrev pub line_for : Game → List Hand → ℕ → List ℕ
line_for game hands seat = decimal seat ++ codes " " ++ flat_map line_text (option_to_list (seat_view game hands seat)) ++ 10 ∷ []

-- the lines of all seats
abbrev pub lines_for : Game → List Hand → List ℕ
lines_for game hands = flat_map (line_for game hands) (range_with_len 0 game.players)

abbrev pub bad_script : List ℕ
bad_script = codes "E 110 BadScript" ++ 10 ∷ []

-- an action that isn't allowed is refused by its fault; a deal while a hand runs, an action while none does and
-- any command after the match are bad script lines
abbrev pub refusal : Reason → List ℕ
refusal MatchDone = bad_script
refusal NoHand = bad_script
refusal HandRunning = bad_script
refusal WrongHand = bad_script
refusal WrongIndex = bad_script
refusal WrongCards = bad_script
refusal (Illegal fault) = codes "E " ++ fault_text fault ++ 10 ∷ []

-- the reply to a command after others: every seat's line where it takes effect, else why it doesn't
abbrev pub reply_to : Game → ℕ → List Command → Command → List ℕ
reply_to game count commands command =
    elim (reason_of game count (hands_of game count commands) command) [ None ↦ lines_for game (hands_of game count (command ∷ commands)) | Some reason ↦ refusal reason ]

-- what a line brings by itself
abbrev pub reply : Game → ℕ → List ScriptLine → ScriptLine → List ℕ
reply game count before (Names names) = []
reply game count before (Told command) = reply_to game count (commands_of before) command
reply game count before Bad = bad_script

-- the answer to a line after others: its reply, and behind it the log's further lines where the log is printed
abbrev pub answer : Game → ℕ → Option (List ℕ) → List ScriptLine → ScriptLine → List ℕ
answer game count log before said = reply game count before said ++ logged game count log before said

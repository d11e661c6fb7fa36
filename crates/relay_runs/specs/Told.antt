-- What nodes are told comes from the bot, and answers the line that it was given last when it was said.
use Rattle.std.specs.Prelude.{◌≡◌, ℕ, List, [], ◌∷◌, ◌++◌, Option}
use Rattle.std.specs.List.{AllByRecursion}
use Rattle.game_def.specs.Game.{Game}
use Rattle.matchstate.specs.Free.{IsFreeOf}
use Rattle.node_wires.specs.declared.line.Line.TheVariants.{Seat}
use Rattle.node_wires.specs.Passages.{Passage, came_over}
use Rattle.seat_relay.specs.Relaying.{Line, Event, Pushes, all_given}
use Rattle.seat_relay.specs.declared.mode.Mode.{Mode}
use Rattle.seat_relay.specs.Laws.{fresh}
use Rattle.relay_runs.specs.declared.desk.Desk.{Desk}
use Rattle.relay_runs.specs.Said.{said_over}
use Rattle.relay_runs.specs.Heard.{with_feeds, IsSaidFor}
use Rattle.relay_runs.specs.Course.{Course}

-- it is said for a line that stands whole, with a line feed behind it, in what came over the bot's connection
pub record CameFromBot (mended : Option Game) (passed : List Passage) (text : List ℕ) : Type 0 where
  pub raws : List (List ℕ)
  pub raw : List ℕ
  pub rest : List ℕ
  pub came : came_over passed (Seat 0) ≡ with_feeds (raws ++ raw ∷ []) ++ rest
  pub free : IsFreeOf 10 raw
  pub said_for : IsSaidFor mended raw text

-- it is a line, a colon and anything; and when it was said to a node, that line was the last one that the bot had been given
pub record WasCurrent (mode : Mode) (nodes : ℕ) (events : List Event) (node : ℕ) (text : List ℕ) : Type 0 where
  pub front : List Event
  pub behind : List Event
  pub moment : events ≡ front ++ Pushes node ∷ behind
  pub lines : List Line
  pub line : Line
  pub given_last : all_given (fresh mode nodes) front ≡ lines ++ line ∷ []
  pub field : List ℕ
  pub whole : text ≡ line.text ++ 58 ∷ field

-- an answer that was said over a node's connection
pub record IsAnswer (desk : Desk) (passed : List Passage) (node : ℕ) (text : List ℕ) : Type 0 where
  pub came : CameFromBot desk.mended passed text
  pub current : WasCurrent desk.relay.mode desk.relay.nodes desk.relay.events node text

-- each answer that was said over the connection of a node is what the bot said, or where answers are mended what that is mended to; and it answers the line that was the newest then
abbrev pub AnswersCame : Type 0
AnswersCame = (desk : Desk) (passed : List Passage) → Course desk passed → (node : ℕ) → AllByRecursion (IsAnswer desk passed node) (said_over node desk.relay)

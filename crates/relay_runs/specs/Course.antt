-- How a relay comes to where it stands, since its bot was taken in.
use Rattle.std.specs.Prelude.{◌≡◌, ℕ, ◌<◌, List, [], ◌∷◌, ◌++◌, Option, option_to_list, IfSome}
use Rattle.std.specs.List.{AllByRecursion}
use Rattle.matchstate.specs.Free.{IsFreeOf}
use Rattle.node_wires.specs.declared.line.Line.TheVariants.{Peer, Caller, Seat, Guest, Asker}
use Rattle.node_wires.specs.Passages.{Passage, Began, Came, Wrote, Gave, Logged, Tried, Ended, Closed, Saw, Waited, Called, came_over}
use Rattle.seat_relay.specs.Relaying.{Line, Event}
use Rattle.seat_relay.specs.Laws.{begun}
use Rattle.relay_runs.specs.declared.desk.Desk.{Desk}
use Rattle.relay_runs.specs.Since.{begun_over}
use Rattle.relay_runs.specs.Said.{waits_at, IsBeginning, lines_given, IsSaid}
use Rattle.relay_runs.specs.Heard.{with_feeds, IsLineOf, IsHeard}
use Rattle.relay_runs.specs.Own.{IsOwned}
use Rattle.relay_runs.specs.Few.{IsFew}

-- what happened to the relay's machine is what passed: as many connections began, it was told what came, and what was written is what it says; nothing else passed; and few bytes wait
pub record Explains (desk : Desk) (passed : List Passage) : Type 0 where
  pub begun : (node : ℕ) → begun node desk.relay.events ≡ begun_over passed (Peer node)
  pub said : IsSaid desk passed
  pub heard : IsHeard desk passed
  pub own : IsOwned desk passed
  pub few : IsFew desk

-- a piece comes only where of this line nothing but a beginning waits: each whole line before it was taken
abbrev pub ComesBehind : Desk → Passage → Type 0
ComesBehind desk (Began line) = Unit {0}
ComesBehind desk (Came (Peer node) bytes) = IsBeginning (waits_at desk.from_nodes.items node)
ComesBehind desk (Came (Seat seat) bytes) = IsBeginning desk.from_bot.waiting
ComesBehind desk (Came (Caller place) bytes) = Unit {0}
ComesBehind desk (Came (Guest place) bytes) = Unit {0}
ComesBehind desk (Came (Asker place) bytes) = Unit {0}
ComesBehind desk (Wrote line bytes) = Unit {0}
ComesBehind desk (Gave place seat) = Unit {0}
ComesBehind desk (Logged text) = Unit {0}
ComesBehind desk (Tried line way) = Unit {0}
ComesBehind desk (Ended line way) = Unit {0}
ComesBehind desk (Closed line) = Unit {0}
ComesBehind desk (Saw moment) = Unit {0}
ComesBehind desk (Waited most) = Unit {0}
ComesBehind desk Called = Unit {0}

-- one event more at most, and one passage more at most, each behind what came before; how connections begin, how the relay serves its bot, and the game by which answers are mended, stay
pub record IsNext (old new : Desk) (passed_old passed_new : List Passage) : Type 0 where
  pub hello : new.opening ≡ old.opening
  pub mode : new.relay.mode ≡ old.relay.mode
  pub nodes : new.relay.nodes ≡ old.relay.nodes
  pub mended : new.mended ≡ old.mended
  pub event : Option Event
  pub happened : new.relay.events ≡ old.relay.events ++ option_to_list event
  pub passage : Option Passage
  pub passed : passed_new ≡ passed_old ++ option_to_list passage
  pub behind : IfSome passage (ComesBehind old)

-- from where nothing had happened, step by step: at each what happened is what passed
pub data Course : Desk → List Passage → Type 0 where
  begin : (desk : Desk) → desk.relay.events ≡ [] → Explains desk [] → Course desk []
  step : (old new : Desk) (passed_old passed_new : List Passage) → Course old passed_old → IsNext old new passed_old passed_new → Explains new passed_new → Course new passed_new

-- ---- what follows

-- at the end too
abbrev pub CoursesExplain : Type 0
CoursesExplain = (desk : Desk) (passed : List Passage) → Course desk passed → Explains desk passed

-- the line stands whole, with a line feed behind it, in what had come at some moment over the connection that a node had then, which began before
pub record CameFrom (passed : List Passage) (line : Line) : Type 0 where
  pub front : List Passage
  pub behind : List Passage
  pub moment : passed ≡ front ++ behind
  pub node : ℕ
  pub began : 0 < begun_over front (Peer node)
  pub raws : List (List ℕ)
  pub raw : List ℕ
  pub rest : List ℕ
  pub came : came_over front (Peer node) ≡ with_feeds (raws ++ raw ∷ []) ++ rest
  pub free : IsFreeOf 10 raw
  pub is_line : IsLineOf raw line

-- each line that the bot was given came from a node, over a connection that began since the bot was taken in
abbrev pub LinesCame : Type 0
LinesCame = (desk : Desk) (passed : List Passage) → Course desk passed → AllByRecursion (CameFrom passed) (lines_given desk.relay)

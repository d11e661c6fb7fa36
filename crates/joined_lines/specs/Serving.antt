-- Relays and bots whose connections lead to the servers of a match.
use Rattle.std.specs.Prelude.{◌≡◌, ◌⊎◌, ℕ, ◌<◌, List, [], ◌++◌, length, Option, None, IsTrue}
use Rattle.std.proofs.Common.{get_or}
use Rattle.std.specs.List.{AllByRecursion}
use Rattle.promise_store.specs.declared.disk.Disk.{Ghosts}
use Rattle.slot_log.specs.Beginnings.{IsBeginning}
use Rattle.dealer_kind.specs.Kind.{Setting}
use Rattle.dealer_kind.specs.Plans.{Plan, IsPlan}
use Rattle.dealer_kind.specs.declared.source.Source.{Source}
use Rattle.node_rules.specs.Standings.{place_of}
use Rattle.dealer_node.specs.Nodes.{Node}
use Rattle.dealer_world.specs.RuleRuns.{plan_of}
use Rattle.stations.specs.Deeds.{Deed, Doing}
use Rattle.stations.specs.Joining.{IsTrueOrder, AreProcesses}
use Rattle.stations.specs.Stations.{Look}
use Rattle.stations.specs.Together.{HaveIncarnations, HaveHistories}
use Rattle.node_wires.specs.declared.line.Line.TheVariants.{Peer, Seat}
use Rattle.node_wires.specs.Passages.{Passage, came_over, wrote_over}
use Rattle.relay_runs.specs.Course.{Course}
use Rattle.node_service.specs.Bots.{AreBotsOf}
use Rattle.node_service.specs.Crossing.{Carries}
use Rattle.node_service.specs.Served.{Served}
use Rattle.joined_lines.specs.Chosen.{IsByChosen}
use Rattle.joined_lines.specs.Coming.{SeatRelay, BotConnection, HaveLines}
use Rattle.joined_lines.specs.Processes.{IsProcessOf, AreStations}

-- ---- the premises on servers

-- the server of a process at some moment: the tables that its node had by then are the first of those that it had in all; its bots were told lines off these alone, and
-- what crossed its wires is what they were told
pub record IsServerOf {N : Type 0} (look : Look N) (served : Served N) : Type 0 where
  pub moments : IsBeginning served.look.moments look.moments
  pub bots : AreBotsOf served.look served.bots
  pub carries : Carries served

module _ {D : Type 0} (g : Ghosts D) where
  -- the server of one of the match's processes had written this first, by some moment, to the bot that sat at this seat then
  pub record IsOfServer (plan : Plan) (stations : List (Option (Look (Node D)))) (had : HaveIncarnations g plan stations) (seat : ℕ) (came : List ℕ) : Type 0 where
    pub node : ℕ
    pub is_node : node < length stations
    pub look : Look (Node D)
    pub process : IsProcessOf g (place_of plan node) (get_or stations node None) (had node is_node) look
    pub served : Served (Node D)
    pub server : IsServerOf look served
    pub lost : List ℕ
    pub bytes : wrote_over served.passed (Seat seat) ≡ came ++ lost

  -- at each moment nothing has come over the connection to a node, or the beginning of what a server had written to this seat
  abbrev pub ComeOfServers : (plan : Plan) (stations : List (Option (Look (Node D)))) → HaveIncarnations g plan stations → ℕ → List Passage → Type 0
  ComeOfServers plan stations had seat passed =
      (node : ℕ) (front behind : List Passage) → passed ≡ front ++ behind → (came_over front (Peer node) ≡ []) ⊎ IsOfServer plan stations had seat (came_over front (Peer node))

  -- a relay came to where it stands by its turns, and its connections led to servers of these processes
  pub record LeadsToServers (plan : Plan) (stations : List (Option (Look (Node D)))) (had : HaveIncarnations g plan stations) (relay : SeatRelay) : Type 0 where
    pub course : Course relay.desk relay.passed
    pub come : ComeOfServers plan stations had relay.seat relay.passed

  -- over a bot's connection came the beginning of what a server of these processes had written to its seat, and to that server the beginning of what the bot said over it
  pub record ComesOfServer (plan : Plan) (stations : List (Option (Look (Node D)))) (had : HaveIncarnations g plan stations) (bot : BotConnection) : Type 0 where
    pub server : IsOfServer plan stations had bot.seat bot.came
    pub later : List ℕ
    pub heard : bot.said ≡ came_over server.served.passed (Seat bot.seat) ++ later

  -- ---- the law

  -- what holds of all processes of a match, with these histories in this order
  pub record AreJoined (stations : List (Option (Look (Node D)))) (setting : Setting) (sources : List Source) (had : HaveIncarnations g (plan_of setting sources) stations)
      (histories : ℕ → List Deed) (all : List Doing) : Type 0 where
    -- they are processes of which the laws of stations speak
    pub processes : AreProcesses setting sources histories all
    -- and of all relays and bots whose connections led to their servers the bots have the lines of one dealer
    pub lines : (relays : List SeatRelay) → AllByRecursion (LeadsToServers (plan_of setting sources) stations had) relays
        → (bots : List BotConnection) → AllByRecursion (ComesOfServer (plan_of setting sources) stations had) bots
        → IsByChosen (length sources) all (λ commands. HaveLines setting commands relays bots)

  -- histories of the nodes, of which that holds in each order in which each frame had been sent before it came
  pub record AreJoinedInEachOrder (stations : List (Option (Look (Node D)))) (setting : Setting) (sources : List Source) (had : HaveIncarnations g (plan_of setting sources) stations) : Type 0 where
    pub histories : ℕ → List Deed
    pub have : HaveHistories g (plan_of setting sources) stations had histories
    pub joined : (all : List Doing) → IsTrueOrder (length sources) histories all → AreJoined stations setting sources had histories all

  -- there are such histories of all processes of a match, by the premises of what is promised of stations
  abbrev pub ServersTellOneMatch : Type 0
  ServersTellOneMatch = (stations : List (Option (Look (Node D)))) → AreStations g stations → (setting : Setting) (sources : List Source) → IsPlan (plan_of setting sources) → length stations ≡ length sources
      → IsTrue g.is_honest → (had : HaveIncarnations g (plan_of setting sources) stations) → ∥ AreJoinedInEachOrder stations setting sources had ∥₁

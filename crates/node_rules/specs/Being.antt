-- Whose standing is whose: a node's standing is that of a node of the world where it says what that node holds, has got, sent, knows
-- and heard, nothing beyond it, and leaves nothing out.
use Rattle.std.specs.Prelude.{◌≡◌, ℕ, ◌<◌, ◌≤◌, ◌+◌, Bool, true, false, List, length, Option, Some, None}
use Rattle.game_def.specs.Game.{Game}
use Rattle.paxos_wire.specs.declared.limits.TheConstants.{SLOTS, WINDOW}
use Rattle.paxos_wire.specs.declared.ballot.Ballot.{Ballot}
use Rattle.slot_log.specs.Slots.{IsLog, known_at}
use Rattle.slot_log.specs.declared.command.Command.{Command}
use Rattle.slot_log.specs.declared.command.Command.TheVariants.{Deal}
use Rattle.protocol_model.specs.Sets.{In}
use Rattle.protocol_model.specs.Ballots.{Below, AtMost}
use Rattle.protocol_model.specs.Messages.{Vote, Message, Prepare, Refuse, Accept}
use Rattle.protocol_model.specs.Backing.{IsWithinPromise}
use Rattle.protocol_model.specs.Nodes.{Node}
use Rattle.protocol_model.specs.Dealers.{Dealer}
use Rattle.protocol_model.specs.Moves.{IsAtHand}
use Rattle.proposer.specs.declared.campaign.Campaign.{Campaign}
use Rattle.proposer.specs.Counted.{CountsFrom, CountsAll, MarksSent}
use Rattle.learner.specs.Learning.{Learned}
use Rattle.learner.specs.Counted.{CountsFrom as CountsVotesFrom, CountsAll as CountsAllVotes, KnowsChosen}
use Rattle.seat_session.specs.Lines.{IsPartial}
use Rattle.seat_session.specs.Session.{Standing as Talk, fresh, is_closed}
use Rattle.seat_session.specs.Laws.{Event, joined, Happens, IsRestOf}
use Rattle.dealer_kind.specs.Kind.{dealer_of}
use Rattle.dealer_kind.specs.Plans.{HasNodes, IsSetting}
use Rattle.node_rules.specs.Standings.{Place, Standing, applied, front_of}
use Rattle.node_rules.specs.Proposing.{own_value}
use Rattle.node_rules.specs.Proposed.{IsProposed, IsSettled}
use Rattle.node_rules.specs.Seats.{session_at}
use Rattle.node_rules.specs.Seen.{Sees}

-- the node is one of three, five or seven of a match, and its deals are its own
pub record IsPlace (own : ℕ → Command → Bool) (place : Place) : Type 0 where
  pub few : HasNodes place.nodes
  pub node : place.node < place.nodes
  pub match : IsSetting place.setting
  pub owns : (hand : ℕ) (deal : List ℕ) → place.deals hand ≡ Some deal → own place.node (Deal hand deal) ≡ true

-- ---- the proposer

-- the ballot is the node's own and promised, its promises that came are counted, its proposals that were sent are marked and stored, and no refusal
-- that came tells a greater one
pub record Campaigns (n i : ℕ) (node : Node) (campaign : Campaign) : Type 0 where
  pub own : campaign.ballot.node ≡ i
  pub promised : node.store.promise ≡ campaign.ballot
  pub prepared : In (Prepare campaign.ballot campaign.first) node.sent
  pub counts : CountsFrom node.has campaign
  pub counts_all : CountsAll n node.has campaign
  pub marks : MarksSent node.sent campaign
  pub votes : (slot : ℕ) (vote : Vote) → node.store.votes slot ≡ Some vote → vote.ballot ≡ campaign.ballot
      → In (Accept campaign.ballot slot vote.command) node.sent
  pub unrefused : (sender : ℕ) (refused : Ballot) (slot : ℕ) (greater : Ballot) → In (Refuse sender refused slot greater) node.has
      → Below campaign.ballot greater → ⊥

abbrev pub IsCampaign : ℕ → ℕ → Node → Option Campaign → Type 0
IsCampaign n i node None = Unit {0}
IsCampaign n i node (Some campaign) = Campaigns n i node campaign

-- the node began the ballot since its start, promised none since, and got no refusal that tells a greater one
pub record Stands (node : Node) (ballot : Ballot) (first : ℕ) : Type 0 where
  pub began : In (Prepare ballot first) node.sent
  pub promised : node.store.promise ≡ ballot
  pub unrefused : (sender : ℕ) (refused : Ballot) (slot : ℕ) (greater : Ballot) → In (Refuse sender refused slot greater) node.has
      → Below ballot greater → ⊥

-- what it began and proposed is no higher than its promise; and a ballot that it stands by it prepares or leads, as long as its front is among
-- the ballot's slots
pub record IsProposer (n i : ℕ) (node : Node) (front : ℕ) (campaign : Option Campaign) : Type 0 where
  pub is_campaign : IsCampaign n i node campaign
  pub began : (ballot : Ballot) (first : ℕ) → In (Prepare ballot first) node.sent
      → AtMost ballot node.store.promise × (ballot.node ≡ i) × (first ≤ front)
  pub proposed : (ballot : Ballot) (slot : ℕ) (command : Command) → In (Accept ballot slot command) node.sent → AtMost ballot node.store.promise
  pub stands : (ballot : Ballot) (first : ℕ) → Stands node ballot first → front < first + WINDOW → front < SLOTS
      → (found : Campaign) × (campaign ≡ Some found) × (found.ballot ≡ ballot) × (found.first ≡ first)

-- ---- the learner

-- what is known is what the node knows; and of the votes that came those are counted that came while their slots were among the 64 from
-- the front on
pub record IsLearner (n : ℕ) (has : List Message) (known : List (ℕ × Command)) (learned : Learned) : Type 0 where
  pub nodes : learned.nodes ≡ n
  pub log : IsLog learned.log
  pub knows : (slot : ℕ) (command : Command) → known_at learned.log slot ≡ Some command → In (slot, command) known
  pub only : (slot : ℕ) (command : Command) → In (slot, command) known → known_at learned.log slot ≡ Some command
  -- the votes that came in time
  pub in_time : List Message
  pub came : (message : Message) → In message in_time → In message has
  pub counts : CountsVotesFrom in_time learned
  pub counts_all : CountsAllVotes in_time learned
  pub knows_chosen : KnowsChosen in_time learned

-- ---- seats

-- the act that waits was said or handed on, and fits
abbrev pub IsPending : Dealer → ℕ → Node → List Command → Option Command → Type 0
IsPending dealer i node before None = Unit {0}
IsPending dealer i node before (Some act) = IsAtHand dealer i node act × (dealer.fits before act ≡ true)

-- a session goes on, and stands where the bytes that came since the seat connected lead to; no whole line of them waits for its answer
pub record IsTalk (game : Game) (seat : ℕ) (talk : Talk) (bytes : List ℕ) : Type 0 where
  pub goes_on : is_closed talk.phase ≡ false
  pub answered : IsPartial talk.waiting
  pub rest : IsRestOf bytes talk
  pub events : List Event
  pub pieces : joined events ≡ bytes
  pub leads_here : Happens game seat fresh events talk

-- a seat has a session exactly where it is connected
abbrev pub IsSession : Game → ℕ → Option Talk → Option (List ℕ) → Type 0
IsSession game seat None None = Unit {0}
IsSession game seat None (Some bytes) = ⊥
IsSession game seat (Some talk) None = ⊥
IsSession game seat (Some talk) (Some bytes) = IsTalk game seat talk bytes

-- and so of all seats
abbrev pub AreSessions : Game → List (Option Talk) → (ℕ → Option (List ℕ)) → Type 0
AreSessions game sessions heard = (seat : ℕ) → IsSession game seat (session_at sessions seat) (heard seat)

-- ---- the whole

-- what a running node's standing says, but for its seats, where it has shown the effect of no more than these commands
pub record Knows (dealer : Dealer) (place : Place) (upto : List Command) (s : Standing) (node : Node) : Type 0 where
  pub up : node.up ≡ true
  pub store : node.store ≡ s.store
  pub within : IsWithinPromise node.store
  pub proposer : IsProposer place.nodes place.node node (front_of s) s.campaign
  pub learner : IsLearner place.nodes node.has node.known s.learned
  pub pending : IsPending dealer place.node node upto s.pending
  pub places : length s.sessions ≡ place.setting.game.players
  pub shown : node.shown ≤ length upto
  pub seen : Sees node.has node.store.promise s.seen
  pub proposals : IsProposed place.nodes place.node upto (front_of s) (own_value place s) node.store node.has node.sent

-- and all that it says of a running node, which leaves nothing to propose
pub record Runs (dealer : Dealer) (place : Place) (s : Standing) (node : Node) : Type 0 where
  pub unbegun : s.begun ≡ s.store
  pub knows : Knows dealer place (applied s) s node
  pub sessions : AreSessions place.setting.game s.sessions node.heard
  pub settled : IsSettled place s

-- the standing says what this node of the world holds, has got, sent, knows and heard
pub record IsOf (own : ℕ → Command → Bool) (place : Place) (s : Standing) (node : Node) : Type 0 where
  pub up : node.up ≡ s.up
  pub store : node.store ≡ s.store
  pub begun : node.begun ≡ s.begun
  pub runs : s.up ≡ true → Runs (dealer_of place.setting own) place s node

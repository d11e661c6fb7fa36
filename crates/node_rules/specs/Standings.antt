-- A node of a match, and all that it holds and knows, as one value.
use Rattle.std.specs.Prelude.{ℕ, Bool, true, false, List, Option, Some, None, length, replicate, slice_get}
use Rattle.slot_log.specs.Hand.{Hand}
use Rattle.slot_log.specs.Slots.{front}
use Rattle.slot_log.specs.declared.command.Command.{Command}
use Rattle.paxos_wire.specs.declared.ballot.Ballot.{Ballot}
use Rattle.protocol_model.specs.Ballots.{no_ballot}
use Rattle.protocol_model.specs.Stores.{Store}
use Rattle.proposer.specs.declared.campaign.Campaign.{Campaign}
use Rattle.seat_session.specs.Session.{Standing as Talk}
use Rattle.learner.specs.Learning.{Learned, new_learned}
use Rattle.dealer_kind.specs.Kind.{Setting, hands_after}
use Rattle.dealer_kind.specs.Plans.{Plan}
use Rattle.dealer_kind.specs.Sources.{deal_of}
use Rattle.dealer_kind.specs.declared.source.Source.{Source}

-- a node of a match: its number, how many nodes there are, and its own deal of each hand
pub record Place : Type 0 where
  pub setting : Setting
  pub nodes : ℕ
  pub node : ℕ
  pub deals : ℕ → Option (List ℕ)

abbrev pub deals_from : ℕ → Option Source → ℕ → Option (List ℕ)
deals_from players None hand = None
deals_from players (Some source) hand = deal_of players source hand

-- a node of a planned match has its deals from its source
abbrev pub place_of : Plan → ℕ → Place
place_of plan node = record {
  setting = plan.setting;
  nodes = length plan.sources;
  node = node;
  deals = deals_from plan.setting.game.players (slice_get plan.sources node);
}

-- what a node holds and knows
pub record Standing : Type 0 where
  pub up : Bool
  pub store : Store
  -- what the next start finds if the append that was begun went through; while the node is up, its store
  pub begun : Store
  -- the ballot that it prepares or leads
  pub campaign : Option Campaign
  -- the commands that it knows, of which it applied those below the front, and the votes that it counts
  pub learned : Learned
  -- the act that waits to be proposed
  pub pending : Option Command
  -- the greatest ballot of all frames that it got
  pub seen : Ballot
  -- by seat: where its session stands
  pub sessions : List (Option Talk)

-- the commands that it applied, newest first
abbrev pub applied : Standing → List Command
applied s = s.learned.log.below

-- the first slot whose command it doesn't know
abbrev pub front_of : Standing → ℕ
front_of s = front s.learned.log

-- the hands that it dealt and played
abbrev pub hands_at : Place → Standing → List Hand
hands_at place s = hands_after place.setting (applied s)

-- no seat is connected
abbrev pub no_sessions : Place → List (Option Talk)
no_sessions place = replicate place.setting.game.players None

-- just started, with the store that it found
abbrev pub started : Place → Store → Standing
started place found = record {
  up = true;
  store = found;
  begun = found;
  campaign = None;
  learned = new_learned place.nodes;
  pending = None;
  seen = no_ballot;
  sessions = no_sessions place;
}

-- stopped: all but the store is lost, and an append may have been begun
abbrev pub stopped : Place → Store → Store → Standing
stopped place store begun = record (started place store) { up = false; begun = begun }

-- with another store, and no append begun
abbrev pub with_stored : Standing → Store → Standing
with_stored s store = record s { store = store; begun = store }

-- it leads no longer, nor does it prepare
abbrev pub idle : Standing → Standing
idle s = record s { campaign = None }

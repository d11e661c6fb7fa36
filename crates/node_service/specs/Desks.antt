-- How a node's process at its wires is seen.
use Rattle.std.specs.Prelude.{◌≡◌, ◌⊎◌, ℕ, List}
use Rattle.promise_store.specs.declared.disk.Disk.{Ghosts}
use Rattle.node_wires.specs.declared.wire.Wire.{Ghosts as OfWire}
use Rattle.node_wires.specs.Passages.{logged_in, seats_in, calls_in}
use Rattle.dealer_node.specs.Nodes.{Node}
use Rattle.stations.specs.Looking.{look_of}
use Rattle.node_service.specs.declared.desk.Desk.{Desk}
use Rattle.node_peers.specs.Peering.{own_of, passed_of, frames_of, heard_of}
use Rattle.node_service.specs.Bots.{KeepBots}
use Rattle.node_service.specs.Asking.{GivesOnly, IsNoLine}
use Rattle.node_service.specs.Crossing.{Carries}
use Rattle.node_service.specs.Company.{HearsOn}
use Rattle.node_service.specs.Seated.{SatBefore}
use Rattle.node_service.specs.Served.{Served}
use Rattle.node_service.specs.Apartness.{PutsOffApart}
use Rattle.node_service.specs.Sittings.{Loosens}

module _ {D W : Type 0} {disk : Ghosts D} (wire : OfWire W) where
  abbrev pub served_by : Desk D W disk → Served (Node D)
  served_by desk = record {
    look = look_of desk.member.station;
    started = desk.member.is_started;
    terms = desk.member.terms;
    passed = wire.passed desk.wire;
    log_failed = desk.log_failed;
    sent = frames_of desk.company.peers;
    heard = heard_of desk.company.peers;
    sittings = desk.sittings;
    apart = desk.apart;
    own = own_of desk.company.peers;
    lines = passed_of desk.company.peers;
    bots = desk.seats.seats.items;
    guests = desk.seats.guests;
    askers = desk.askers.askers.items;
  }

  -- nothing passed, and nothing waits or is given but what was
  abbrev pub IsUntouched : Desk D W disk → Desk D W disk → Type 0
  IsUntouched old new = (wire.passed new.wire ≡ wire.passed old.wire) × ((passed_of new.company.peers ≡ passed_of old.company.peers) × ((new.seats ≡ old.seats) × (new.askers ≡ old.askers)))

  -- the node isn't called, the log stays, nothing is handed to peers, and nothing is taken of them or of seats; bots of seats may be let go of, or told lines off tables of the node, or while it is apart to come again later, and
  -- those who ask are given nothing but such lines; what crosses the wires goes by all of them as before
  pub record IsKeptWith (such : List ℕ → Type 0) (old new : Desk D W disk) : Type 0 where
    pub member : new.member ≡ old.member
    pub log_failed : new.log_failed ≡ old.log_failed
    pub sent : frames_of new.company.peers ≡ frames_of old.company.peers
    pub bots : KeepBots (look_of old.member.station) (look_of new.member.station) old.seats.seats.items new.seats.seats.items
    pub sat : SatBefore old.seats.seats.items new.seats.seats.items
    pub guests : new.seats.guests ≡ old.seats.guests
    pub heard : heard_of new.company.peers ≡ heard_of old.company.peers
    pub calls : calls_in (wire.passed new.wire) ≡ calls_in (wire.passed old.wire)
    pub log : logged_in (wire.passed new.wire) ≡ logged_in (wire.passed old.wire)
    pub seats : seats_in (wire.passed new.wire) ≡ seats_in (wire.passed old.wire)
    pub sittings : Loosens old.sittings new.sittings
    pub hears : (new.company.peers ≡ old.company.peers) ⊎ HearsOn old.company.peers new.company.peers
    pub asked : GivesOnly such old.askers.askers.items new.askers.askers.items
    pub waits : PutsOffApart old.apart new.apart old.seats.seats.items new.seats.seats.items
    pub carried : IsUntouched old new ⊎ (Carries (served_by old) → Carries (served_by new))

  -- and they are given nothing
  abbrev pub IsKept : Desk D W disk → Desk D W disk → Type 0
  IsKept old new = IsKeptWith IsNoLine old new

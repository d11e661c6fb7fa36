-- A node's process as it is seen.
use Rattle.std.specs.Prelude.{Bool, List, Option}
use Rattle.node_wires.specs.Passages.{Passage}
use Rattle.stations.specs.Stations.{Look}
use Rattle.node_links.specs.declared.own.Own.{Own}
use Rattle.node_seats.specs.declared.guests.Guests.{Guests}
use Rattle.node_seats.specs.declared.seat.Seat.{Seat}
use Rattle.node_status.specs.declared.asker.Asker.{Asker}
use Rattle.node_service.specs.declared.apart.Apart.{Apart}
use Rattle.node_service.specs.declared.sitting.Sittings.{Sittings}
use Rattle.node_service.specs.declared.terms.Terms.{Terms}

-- its station, whether that was started, and the terms of its match; what passed over its wires, whether its log couldn't be written; the frames that were handed
-- to its peers, and what was told of its peers, each in order; how the bots of its seats are, and whether it is apart; whose peers it has, and
-- what passed over their lines, as they put it down; and its seats, who came to their ports and hasn't shown a token yet, and those who ask how it is
pub record Served (N : Type 0) : Type 0 where
  pub look : Look N
  pub started : Bool
  pub terms : Terms
  pub passed : List Passage
  pub log_failed : Bool
  pub sent : List Passage
  pub heard : List Passage
  pub sittings : Sittings
  pub apart : Apart
  pub own : Own
  pub lines : List Passage
  pub bots : List Seat
  pub guests : Option Guests
  pub askers : List Asker

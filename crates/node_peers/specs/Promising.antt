-- What peers are known to have promised.
use Rattle.std.specs.Prelude.{◌≡◌, ℕ, true, slice_get, Option}
use Rattle.paxos_wire.specs.declared.ballot.Ballot.{Ballot}
use Rattle.peer_codes.specs.declared.hello.Hello.{Hello}
use Rattle.node_links.specs.Promising.{promises_less}
use Rattle.node_peers.specs.declared.peers.Peers.{Peers}
use Rattle.node_peers.specs.Showing.{promised_in}

-- the greatest ballot that the peer of this number is known to have promised; none is of a number that no node has
abbrev pub promise_of : Peers → ℕ → Option Ballot
promise_of peers number = promised_in (slice_get peers.peers.items number)

-- a Hello promises less than its node is known to have promised
abbrev pub IsOlder : Peers → Hello → Type 0
IsOlder peers hello = promises_less hello.promised (promise_of peers hello.ends.from) ≡ true

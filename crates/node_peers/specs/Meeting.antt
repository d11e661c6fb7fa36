-- What is known of other nodes where a Hello is judged.
use Rattle.std.specs.Prelude.{◌≡◌, ◌<◌, ℕ, List, Option, Some, None, Ok}
use Rattle.peer_codes.specs.declared.hello.Hello.{Hello}
use Rattle.node_links.specs.declared.own.Own.{Own}
use Rattle.node_links.specs.declared.own.Met.{Met}
use Rattle.node_links.specs.Judging.{met_at, judged_known}
use Rattle.node_peers.specs.declared.peer.Peer.{Peer}
use Rattle.node_peers.specs.Knowing.{known_of}

-- of each of the first so many nodes the lives that are known of it
abbrev pub AreMet : Own → ℕ → List Met → List Peer → Type 0
AreMet own count met peers = (number : ℕ) → number < count → (met_at met number).lives ≡ known_of own number peers

-- a Hello that is taken was judged by this
abbrev pub IsKnownBy : Own → List Met → Option Hello → Type 0
IsKnownBy own met None = Unit {0}
IsKnownBy own met (Some hello) = judged_known own met hello ≡ Ok tt

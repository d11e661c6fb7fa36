-- Which Hello is taken, and the first fault of one that isn't.
use Rattle.std.specs.Prelude.{◌≡◌, ℕ, ◌==◌, ◌&&◌, not, nat_lt, Bool, true, false, if◌then◌else◌, List, get_or, Option, Some, None, Result, Ok, Err}
use Rattle.std.specs.Str.{bytes_eq}
use Rattle.byteorder.specs.Endian.{big_number}
use Rattle.peer_codes.specs.declared.hello.Ends.{Ends}
use Rattle.peer_codes.specs.declared.hello.Life.{Life}
use Rattle.peer_codes.specs.declared.hello.Link.{Link}
use Rattle.peer_codes.specs.declared.hello.Link.TheVariants.{Plain, Coded}
use Rattle.peer_codes.specs.declared.hello.Hello.{Hello}
use Rattle.peer_codes.specs.declared.fault.RecordFault.TheVariants.{BadHello}
use Rattle.node_links.specs.declared.own.Own.{Own}
use Rattle.node_links.specs.declared.own.Known.TheVariants.{Nothing}
use Rattle.node_links.specs.declared.own.Met.{Met}
use Rattle.node_links.specs.declared.peer_fault.Digests.{Digests}
use Rattle.node_links.specs.declared.peer_fault.Mismatch.TheVariants.{Digest, Nodes, Number}
use Rattle.node_links.specs.declared.peer_fault.WrongNumber.{WrongNumber}
use Rattle.node_links.specs.declared.peer_fault.WrongNumber.TheVariants.{Speaker, Called, Caller}
use Rattle.node_links.specs.declared.peer_fault.Whose.TheVariants as whose
use Rattle.node_links.specs.declared.peer_fault.PeerFault.{PeerFault}
use Rattle.node_links.specs.declared.peer_fault.PeerFault.TheVariants as faults
use Rattle.node_links.specs.Knowing.{is_replaced}

-- of a connection with codes
abbrev pub is_coded : Link → Bool
is_coded Plain = false
is_coded (Coded nonce) = true

-- the one that was dialled speaks to this node, or one of a greater number that dialled
abbrev pub is_awaited : ℕ → Option ℕ → Ends → Bool
is_awaited number (Some peer) ends = ends.to == number && ends.from == peer
is_awaited number None ends = ends.to == number && nat_lt number ends.from

-- which number is wrong of one that isn't awaited: of the dialled one its own comes first, of one that dialled the number that it calls
abbrev pub wrong_number : ℕ → Option ℕ → Ends → WrongNumber
wrong_number number (Some peer) ends =
    if ends.from == peer then Called (record { said = ends.to; expected = number })
    else Speaker (record { said = ends.from; expected = peer })
wrong_number number None ends =
    if ends.to == number then Caller (record { said = ends.from; expected = number })
    else Called (record { said = ends.to; expected = number })

-- another life is kept than this one
abbrev pub is_other : Option Life → Life → Bool
is_other None life = false
is_other (Some kept) life = not (bytes_eq kept.bytes life.bytes)

abbrev pub unmet : Met
unmet = record { lives = Nothing; is_here = false }

-- what is known of a node
abbrev pub met_at : List Met → ℕ → Met
met_at met number = get_or met number unmet

-- of a node of this match
abbrev pub judged_node : Own → Met → Hello → Result (Unit {0}) PeerFault
judged_node own known hello =
    if known.is_here then Err faults.AlreadyHere
    else (if is_other hello.kept own.life then Err (faults.StoreReplaced whose.Own)
    else (if is_replaced known.lives hello.life then Err (faults.StoreReplaced whose.Other)
    else Ok tt))

-- the heads of the own digest and of the Hello's
abbrev pub heads_of : Own → Hello → Digests
heads_of own hello = record { here = big_number 4 own.digest.bytes; there = big_number 4 hello.digest.bytes }

-- of this match, of as many nodes, and of the node that was to speak
abbrev pub judged_match : Own → Option ℕ → Hello → Result (Unit {0}) PeerFault
judged_match own dialled hello =
    if not (bytes_eq hello.digest.bytes own.digest.bytes) then Err (faults.OtherMatch (Digest (heads_of own hello)))
    else (if not (hello.ends.nodes == own.nodes) then Err (faults.OtherMatch (Nodes (record { said = hello.ends.nodes; expected = own.nodes })))
    else (if not (is_awaited own.number dialled hello.ends) then Err (faults.OtherMatch (Number (wrong_number own.number dialled hello.ends)))
    else Ok tt))

-- and then as the node that it is
abbrev pub judged_known : Own → List Met → Hello → Result (Unit {0}) PeerFault
judged_known own met hello = judged_node own (met_at met hello.ends.from) hello

abbrev pub both : Result (Unit {0}) PeerFault → Result (Unit {0}) PeerFault → Result (Unit {0}) PeerFault
both (Err fault) next = Err fault
both (Ok done) next = next

-- on a connection without codes both at once
abbrev pub judged : Own → Option ℕ → List Met → Hello → Result (Unit {0}) PeerFault
judged own dialled met hello =
    if is_coded hello.link then Err (faults.Record BadHello)
    else both (judged_match own dialled hello) (judged_known own met hello)

-- where a Hello is taken and none was before, it was judged by this that is known of the other nodes
abbrev pub IsKnown : Own → List Met → Option Hello → Option Hello → Type 0
IsKnown own met None (Some hello) = judged_known own met hello ≡ Ok tt
IsKnown own met None None = Unit {0}
IsKnown own met (Some earlier) taken = Unit {0}

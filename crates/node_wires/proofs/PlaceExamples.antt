-- Who dials from where, and who makes room for whom, on values.
use Rattle.std.proofs.Common.{◌≡◌, ℕ, zero, suc, ◌≤◌, Bool, true, false, Option, Some, None, [], ◌∷◌, refl, arith}
use Rattle.std.specs.declared.net.ip_addr.IpAddr.{IpAddr}
use Rattle.std.specs.declared.net.ip_addr.IpAddr.TheVariants.{V4, V6}
use Rattle.node_wires.specs.declared.comer.Comer.{Comer}
use Rattle.node_wires.specs.declared.comer.Comer.TheVariants.{Caller, Guest}
use Rattle.node_wires.specs.declared.coming.Stander.{Stander}
use Rattle.node_wires.specs.declared.coming.Coming.{Coming}
use Rattle.node_wires.specs.declared.nodes.Nodes.{Nodes}
use Rattle.node_wires.specs.Nodes.{is_same, is_source, source_of, is_home}
use Rattle.node_wires.specs.Places.{places_of, first_of, is_stranger_of, is_open_to, is_open_to_guest, rank_of, IsLeast, better}

abbrev host : ℕ → IpAddr
host last = V4 (record { octets = 10 ∷ 0 ∷ 0 ∷ last ∷ [] })

-- 10.0.0.last as an address of IPv6
abbrev mapped : ℕ → IpAddr
mapped last = V6 (record { segments = 0 ∷ 0 ∷ 0 ∷ 0 ∷ 0 ∷ 65535 ∷ 2560 ∷ last ∷ [] })

same : is_same (host 7) (host 7) ≡ true
same = refl

another : is_same (host 7) (host 8) ≡ false
another = refl

not_mapped : is_same (host 7) (mapped 7) ≡ false
not_mapped = refl

-- ---- from where a node dials besides

there : is_source (source_of 2 (host 8) ∷ source_of 1 (host 7) ∷ []) 1 (host 7) ≡ true
there = refl

of_another_node : is_source (source_of 2 (host 7) ∷ source_of 1 (host 8) ∷ []) 1 (host 7) ≡ false
of_another_node = refl

-- ---- which places are open

-- whoever comes has the places of others, and who comes from where a node dials has none of them
last_of_others : (nodes : Nodes) → is_home nodes (host 9) ≡ false → is_open_to Caller nodes (host 9) 15 ≡ true
last_of_others nodes no_home = rw no_home refl

no_place_of_others : (nodes : Nodes) → is_home nodes (host 9) ≡ true → is_open_to Caller nodes (host 9) 15 ≡ false
no_place_of_others nodes home = rw home refl

-- two places behind those are of node 0, and the next two of node 1
all_callers : places_of Caller ≡ 30
all_callers = refl

first_guest : first_of (Guest 3) ≡ 54
first_guest = refl

-- behind the places of guests of any seat two are of seat 0, and the next two of seat 1
place_of_any_seat : is_open_to_guest 1 25 ≡ true
place_of_any_seat = refl

place_of_another_seat : is_open_to_guest 1 27 ≡ false
place_of_another_seat = refl

place_of_its_own : is_open_to_guest 1 28 ≡ true
place_of_its_own = refl

last_of_its_own : is_open_to_guest 1 29 ≡ true
last_of_its_own = refl

all_guests : places_of (Guest 1) ≡ 46
all_guests = refl

-- ---- who makes room

abbrev who : Option ℕ → ℕ → Stander
who turn since = record { address = host 9; turn = turn; since = since }

-- he comes from 10.0.0.8 one second after the start
abbrev one : Bool → Comer → Coming
one is_crowded comer = record { comer = comer; address = host 8; now = 1000000; is_crowded = is_crowded }

free_place : rank_of (one false Caller) 3 None ≡ Some 0
free_place = refl

after_his_time : rank_of (one false Caller) 3 (Some (who (Some 7) 700000)) ≡ Some 7
after_his_time = refl

not_before : rank_of (one false Caller) 3 (Some (who (Some 7) 700001)) ≡ None
not_before = refl

at_once_where_it_is_kept : rank_of (one false Caller) 16 (Some (who (Some 7) 1000000)) ≡ Some 7
at_once_where_it_is_kept = refl

guests_after_their_time : rank_of (one false (Guest 1)) 3 (Some (who (Some 7) 700000)) ≡ Some 7
guests_after_their_time = refl

no_guest_before : rank_of (one false (Guest 1)) 3 (Some (who (Some 7) 700001)) ≡ None
no_guest_before = refl

-- a place of a seat alone is taken last, whoever stands elsewhere
last_of_all : rank_of (one true (Guest 1)) 28 None ≡ Some 18446744073709551615
last_of_all = refl

nobody_who_waits_there : rank_of (one true (Guest 1)) 28 (Some (who None 0)) ≡ None
nobody_who_waits_there = refl

nobody_who_is_known : rank_of (one false Caller) 3 (Some (who None 0)) ≡ None
nobody_who_is_known = refl

-- where too many of one address stand he takes no free place, and that of nobody from elsewhere
no_free_place : rank_of (one true Caller) 3 None ≡ None
no_free_place = refl

nobody_from_elsewhere : rank_of (one true Caller) 3 (Some (who (Some 7) 0)) ≡ None
nobody_from_elsewhere = refl

stranger : is_stranger_of (host 9) (who (Some 7) 0) ≡ true
stranger = refl

no_stranger : is_stranger_of (host 9) (who None 0) ≡ false
no_stranger = refl

-- ---- the place that is taken

the_older : better (Some (record { place = 1; rank = 7 })) 4 (Some 5) ≡ Some (record { place = 4; rank = 5 })
the_older = refl

first_of_two_free : better (Some (record { place = 1; rank = 0 })) 4 (Some 0) ≡ Some (record { place = 1; rank = 0 })
first_of_two_free = refl

-- of three places that are taken in turn 7, not at all, and in turn 5 it is the last
abbrev three : ℕ → Option ℕ
three zero = Some 7
three (suc zero) = None
three (suc (suc place)) = Some 5

not_the_first : IsLeast three 3 0 7 → ⊥
not_the_first least = let e : 7 ≤ 5 = least.no_sooner 2 5 (omega arith) refl in omega (arith, e)

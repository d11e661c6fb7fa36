-- What a node reads of a key, of tokens, of absent seats and of where its status is asked for; and near misses.
use Rattle.std.proofs.Common.{◌≡◌, ℕ, pos, Bool, true, false, List, [], ◌∷◌, ◌++◌, replicate, slice_index, Some, None, refl, ap, arith}
use Rattle.std.specs.Prelude.{codes}
use Rattle.std.specs.declared.net.ip_addr.IpAddr.TheVariants as Ip
use Rattle.std.specs.declared.net.socket_addr.SocketAddr.{SocketAddr}
use Rattle.std.specs.declared.net.socket_addr.SocketAddr.TheVariants.{V4}
use Rattle.hex.proofs.OnLiterals.{hex_on_literals}
use Rattle.toml.specs.Data.{Data, string, integer, array, table, Members, no_members, member}
use Rattle.toml.specs.View.{items_of}
use Rattle.match_file.specs.declared.absent.Absent.TheVariants.{Wait, Play}
use Rattle.match_file.specs.declared.key.Key.{Key}
use Rattle.match_file.specs.declared.key.Key.TheVariants.{Node, Stores, Port, Away, KeyFile, Peers, Tokens, Patience, Start}
use Rattle.match_file.specs.declared.match_fault.MatchFault.TheVariants.{BadEntry}
use Rattle.match_file.specs.Keys.{key_text}
use Rattle.match_file.specs.Said.{IsAbsent}
use Rattle.match_file.specs.Addresses.{is_loopback, has_key, is_usable, with_host, SaysStatus}
use Rattle.match_file.specs.Tokens.{SaysDigest, SaysTokens}
use Rattle.match_file.specs.Absences.{SaysAway}
use Rattle.match_file.specs.NodeEntries.{SaysKey, IsUnrun}
use Rattle.match_file.specs.Unused.{unused_keys, unused_by_node}
use Rattle.match_file.proofs.Tokening.{no_digest, none_for_far, other_count}

-- a file with one entry
abbrev only : Key → Data → Members
only key entry = member (key_text key) entry no_members

abbrev keyed : Members
keyed = only KeyFile (string (codes "match.key"))

-- ---- the key

with_a_key : has_key keyed ≡ true
with_a_key = refl

without : has_key (only Stores (string (codes "key"))) ≡ false
without = refl

key_said : SaysKey keyed (Some (codes "match.key"))
key_said = refl

no_other_key : SaysKey keyed (Some (codes "key")) → ⊥
no_other_key says = let e : string (codes "match.key") ≡ string (codes "key") = says in cc

no_key_passed_over : SaysKey keyed None → ⊥
no_key_passed_over says = says

none_said : SaysKey no_members None
none_said = tt

no_key_of_a_number : IsAbsent (SaysKey (only KeyFile (integer (pos 1))))
no_key_of_a_number None says = says
no_key_of_a_number (Some path) says = let e : integer (pos 1) ≡ string path = says in cc

-- ---- addresses

abbrev at : ℕ → ℕ → SocketAddr
at first port = V4 (record { ip = record { octets = first ∷ 8 ∷ 8 ∷ 8 ∷ [] }; port = port })

any_address_with_a_key : is_usable true (at 8 7000) 1 ≡ true
any_address_with_a_key = refl

no_port_0_with_a_key : is_usable true (at 8 0) 1 ≡ false
no_port_0_with_a_key = refl

one_port_too_few_with_a_key : is_usable true (at 8 65535) 2 ≡ false
one_port_too_few_with_a_key = refl

abbrev own : ℕ → ℕ → Bool
own first last = is_loopback (Ip.V4 (record { octets = first ∷ 0 ∷ 0 ∷ last ∷ [] }))

this_machine : own 127 1 ≡ true
this_machine = refl

this_machine_too : own 127 255 ≡ true
this_machine_too = refl

network-no : own 10 1 ≡ false
network-no = refl

above-no : own 128 1 ≡ false
above-no = refl

abbrev own_of_v6 : List ℕ → ℕ → Bool
own_of_v6 front last = is_loopback (Ip.V6 (record { segments = front ++ last ∷ [] }))

this_machine_v6 : own_of_v6 (replicate 7 0) 1 ≡ true
this_machine_v6 = refl

any_machine_v6-no : own_of_v6 (replicate 7 0) 0 ≡ false
any_machine_v6-no = refl

network_v6-no : own_of_v6 (0xfd00 ∷ replicate 6 0) 1 ≡ false
network_v6-no = refl

-- ---- the status

port_alone : with_host (codes "21900") ≡ codes "127.0.0.1:21900"
port_alone = refl

host_and_port : with_host (codes "10.0.0.7:21900") ≡ codes "10.0.0.7:21900"
host_and_port = refl

host_of_v6 : with_host (codes "[::1]:21900") ≡ codes "[::1]:21900"
host_of_v6 = refl

abbrev with_status : Data → Data
with_status entry = table (member (codes "status") entry no_members)

not_asked : SaysStatus (table no_members) None
not_asked = refl

no_status_passed_over : SaysStatus (with_status (string (codes "21900"))) None → ⊥
no_status_passed_over says = let e : Some (string (codes "21900")) ≡ None = says in cc

no_status_of_a_number : IsAbsent (SaysStatus (with_status (integer (pos 21900))))
no_status_of_a_number None says = let e : Some (integer (pos 21900)) ≡ None = says in cc
no_status_of_a_number (Some address) says = let e : Some (integer (pos 21900)) ≡ Some (string says.0) = says.1 in cc

-- ---- tokens

abbrev ten : List ℕ
ten = codes "0a0a0a0a0a0a0a0a0a0a0a0a0a0a0a0a0a0a0a0a0a0a0a0a0a0a0a0a0a0a0a0a"

small_digits : SaysDigest (string ten) (replicate 32 10)
unfolding hex_on_literals
small_digits = record { digits = ten; text = refl; bytes = refl }

abbrev large_ten : List ℕ
large_ten = codes "0A0A0A0A0A0A0A0A0A0A0A0A0A0A0A0A0A0A0A0A0A0A0A0A0A0A0A0A0A0A0A0A"

large_digits : SaysDigest (string large_ten) (replicate 32 10)
unfolding hex_on_literals
large_digits = record { digits = large_ten; text = refl; bytes = refl }

-- a byte less, a token in place of its digest, no text
no_digest_of_31 : IsAbsent (SaysDigest (string (codes "0a0a0a0a0a0a0a0a0a0a0a0a0a0a0a0a0a0a0a0a0a0a0a0a0a0a0a0a0a0a0a")))
unfolding hex_on_literals
no_digest_of_31 = no_digest _ (codes "0a0a0a0a0a0a0a0a0a0a0a0a0a0a0a0a0a0a0a0a0a0a0a0a0a0a0a0a0a0a0a") _ refl refl

no_digest_of_a_word : IsAbsent (SaysDigest (string (codes "alice")))
unfolding hex_on_literals
no_digest_of_a_word = no_digest _ (codes "alice") _ refl refl

no_digest_of_a_number : IsAbsent (SaysDigest (integer (pos 10)))
no_digest_of_a_number digest says = let e : integer (pos 10) ≡ string says.digits = says.text in cc

abbrev near_seat : SocketAddr
near_seat = V4 (record { ip = record { octets = 127 ∷ 0 ∷ 0 ∷ 1 ∷ [] }; port = 7000 })

-- without a key, and where bots are on the machine of their node, none are wanted
none_without_a_key : SaysTokens 2 (at 10 7000 ∷ []) no_members None
none_without_a_key = (refl, refl)

none_for_near_seats : SaysTokens 2 (near_seat ∷ near_seat ∷ []) keyed None
none_for_near_seats = (refl, refl)

wanted_for_one_far_seat : IsAbsent (SaysTokens 2 (near_seat ∷ at 10 7000 ∷ []) keyed)
wanted_for_one_far_seat = none_for_far 2 (near_seat ∷ at 10 7000 ∷ []) keyed refl refl

abbrev two_tokens : Members
two_tokens = only Tokens (array (items_of (string ten ∷ string ten ∷ [])))

-- they are taken without a key, too
tokens_said : SaysTokens 2 [] two_tokens (Some (replicate 32 10 ∷ replicate 32 10 ∷ []))
tokens_said = ((string ten ∷ string ten ∷ [], refl, (small_digits, (small_digits, tt))), refl)

no_tokens_passed_over : SaysTokens 2 [] two_tokens None → ⊥
no_tokens_passed_over says = let e : Some (array (items_of (string ten ∷ string ten ∷ []))) ≡ None = says.0 in cc

not_for_three : IsAbsent (SaysTokens 3 [] two_tokens)
not_for_three = other_count 3 [] two_tokens (string ten ∷ string ten ∷ []) refl (λ same. omega (arith, same))

-- ---- absent seats

nothing_said_of_them : SaysAway no_members None
nothing_said_of_them = tt

nothing_said_is_not_waiting : SaysAway no_members (Some Wait) → ⊥
nothing_said_is_not_waiting says = says

played_for : SaysAway (only Away (string (codes "play"))) (Some Play)
played_for = refl

waited_for : SaysAway (only Away (string (codes "wait"))) (Some Wait)
waited_for = refl

not_the_other : SaysAway (only Away (string (codes "wait"))) (Some Play) → ⊥
not_the_other says =
    let same : codes "wait" ≡ codes "play" = cc in
    let e : 119 ≡ 112 = ap (λ (text : List ℕ). slice_index text 0) same in
    omega (arith, e)

no_other_word : IsAbsent (SaysAway (only Away (string (codes "never"))))
no_other_word None says = says
no_other_word (Some Wait) says = let e : string (codes "never") ≡ string (codes "wait") = says in cc
no_other_word (Some Play) says = let e : string (codes "never") ≡ string (codes "play") = says in cc

-- ---- in which order they are told

abbrev in_folders : Members → Members
in_folders more = member (codes "stores") (string (codes "s")) (member (codes "logs") (string (codes "l")) more)

key_told : IsUnrun 2 (in_folders (only KeyFile (integer (pos 1)))) (BadEntry KeyFile)
key_told = (((codes "s", refl), (codes "l", refl)), (None, tt), no_key_of_a_number)

-- absent seats are told before a key
away_told : IsUnrun 2 (in_folders (member (codes "away") (string (codes "never")) keyed)) (BadEntry Away)
away_told = (((codes "s", refl), (codes "l", refl)), no_other_word)

no_key_before_away : IsUnrun 2 (in_folders (member (codes "away") (string (codes "never")) (only KeyFile (integer (pos 1))))) (BadEntry KeyFile) → ⊥
no_key_before_away wrong = no_other_word wrong.1.0 wrong.1.1

no_key_before_logs : IsUnrun 2 (only Stores (string (codes "s"))) (BadEntry KeyFile) → ⊥
no_key_before_logs wrong = let e : None ≡ Some (string wrong.0.1.0) = wrong.0.1.1 in cc

no_peers_before_key : IsUnrun 2 (in_folders (only KeyFile (integer (pos 1)))) (BadEntry Peers) → ⊥
no_peers_before_key wrong = no_key_of_a_number wrong.2.0 wrong.2.1

no_patience_before_seats : IsUnrun 2 (in_folders (only Patience (integer (pos 0)))) (BadEntry Patience) → ⊥
no_patience_before_seats wrong = let e : None ≡ Some (array (items_of wrong.1.seats_of.0)) = wrong.1.seats_of.1 in cc

no_start_before_seats : IsUnrun 2 (in_folders (only Start (integer (pos 0)))) (BadEntry Start) → ⊥
no_start_before_seats wrong = let e : None ≡ Some (array (items_of wrong.1.seats_of.0)) = wrong.1.seats_of.1 in cc

-- `status` and `from` stand in a node's table alone
all_used : unused_keys (member (codes "key") (string (codes "k")) (member (codes "patience") (integer (pos 9)) (member (codes "start") (integer (pos 9)) (member (codes "tokens") (array (items_of [])) no_members)))) ≡ []
all_used = refl

status_at_the_top : unused_keys (member (codes "from") (string (codes "::1")) (member (codes "status") (string (codes "21900")) no_members)) ≡ codes "from" ∷ codes "status" ∷ []
status_at_the_top = refl

key_is_used : unused_by_node keyed ≡ []
key_is_used = refl

start_is_used : unused_by_node (member (codes "away") (string (codes "wait")) (member (codes "start") (integer (pos 9)) no_members)) ≡ []
start_is_used = refl

port_is_not : unused_by_node (member (codes "start") (integer (pos 9)) (member (codes "port") (integer (pos 7000)) no_members)) ≡ Port ∷ []
port_is_not = refl

-- a node goes by `from` in its table
abbrev from_there : Data
from_there = table (member (codes "from") (string (codes "::1")) no_members)

from_is_used : unused_by_node (only Node (array (items_of (table no_members ∷ from_there ∷ [])))) ≡ []
from_is_used = refl

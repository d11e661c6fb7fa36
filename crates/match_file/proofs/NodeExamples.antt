-- What is kept of nodes in processes of their own, byte for byte, what is digested of a source, and what a node reads
-- of a match file; and near misses.
use Rattle.std.proofs.Common.{◌≡◌, ◌≢◌, ℕ, List, [], ◌∷◌, ◌++◌, length, replicate, slice_index, Some, None, Vec, Global, refl, ap, arith}
use Rattle.std.specs.Prelude.{codes, pos}
use Rattle.std.specs.Fmt.{digits}
use Rattle.std.specs.List.{flat_map}
use Rattle.hex.specs.Hex.{encode_with}
use Rattle.card_core.proofs.Examples.{heads_up}
use Rattle.toml.specs.Data.{Data, string, integer, array, table, Members, no_members, member}
use Rattle.toml.specs.View.{items_of}
use Rattle.dealer_kind.specs.declared.source.Source.TheVariants.{Seed, Listed}
use Rattle.match_file.specs.declared.node_kept.NodeKept.{NodeKept}
use Rattle.match_file.specs.declared.logs_kept.LogsKept.{LogsKept}
use Rattle.match_file.specs.declared.key.Key.TheVariants.{Logs, Port, Peers, Seats}
use Rattle.match_file.specs.declared.match_fault.MatchFault.TheVariants.{BadEntry}
use Rattle.match_file.specs.Identities.{identified_text, node_kept_text, life_text, logs_kept_text}
use Rattle.match_file.specs.SourceTexts.{deal_line, source_text}
use Rattle.match_file.specs.Unused.{unused_keys, unused_by_node, unused_in_node}
use Rattle.match_file.specs.NodeEntries.{IsUnrun}

-- ---- kept texts

-- an identity of sixteen bytes 10, of which each is the digits 0a
identity : identified_text (replicate 16 10) (codes "x\n") ≡ codes "# match.id 0a0a0a0a0a0a0a0a0a0a0a0a0a0a0a0a\nx\n"
unfolding encode_with
identity = refl

-- large digits say nothing
no_large_digits : identified_text (replicate 16 10) [] ≢ codes "# match.id 0A0A0A0A0A0A0A0A0A0A0A0A0A0A0A0A\n"
unfolding encode_with
no_large_digits same = let e : 97 ≡ 65 = ap (λ (text : List ℕ). slice_index text 12) same in omega (arith, e)

abbrev second : NodeKept
second = record { node = 1; life = replicate 16 255; decks = replicate 32 16 }

kept_of_a_node : node_kept_text second ≡ codes "# node.kept 1\nnode 1\nlife ffffffffffffffffffffffffffffffff\ndecks 1010101010101010101010101010101010101010101010101010101010101010\n"
unfolding digits encode_with
kept_of_a_node = refl

life_of_a_peer : life_text (replicate 16 255) ≡ codes "life ffffffffffffffffffffffffffffffff\n"
unfolding encode_with
life_of_a_peer = refl

-- a line that was cut says no life of sixteen bytes: it is too short
cut_line : (life : List ℕ) → life_text life ≡ codes "life ff\n" → length life ≡ 16 → ⊥
unfolding encode_with
cut_line [] same many = omega (arith, many)
cut_line (a ∷ []) same many = omega (arith, many)
cut_line (a ∷ b ∷ life) same many = cc

abbrev logs_from_3 : LogsKept
logs_from_3 = record { life = replicate 16 255; first = 3 }

logs_of_a_store : logs_kept_text logs_from_3 ≡ codes "life ffffffffffffffffffffffffffffffff\nfirst 3\n"
unfolding digits encode_with
logs_of_a_store = refl

-- numbers have no leading zeros
no_leading_zero : logs_kept_text logs_from_3 ≢ codes "life ffffffffffffffffffffffffffffffff\nfirst 03\n"
unfolding digits encode_with
no_leading_zero same = let e : 51 ≡ 48 = ap (λ (text : List ℕ). slice_index text 44) same in omega (arith, e)

-- ---- sources

seed : source_text (Seed 7) ≡ codes "seed 7\n"
unfolding digits
seed = refl

greater_seed : source_text (Seed 9223372036854775807) ≡ codes "seed 9223372036854775807\n"
unfolding digits
greater_seed = refl

-- the tens of diamonds and the aces of spades against the eights and tens of hearts and clubs
one_deal : (deals : Vec (List ℕ) Global) → deals.items ≡ heads_up ∷ [] → source_text (Listed deals) ≡ codes "deals\nTdAs|8hTc/2c8c3h/9c/Kh\n"
one_deal deals is = ap (λ (items : List (List ℕ)). codes "deals\n" ++ flat_map deal_line items) is

no_deals : (deals : Vec (List ℕ) Global) → deals.items ≡ [] → source_text (Listed deals) ≡ codes "deals\n"
no_deals deals is = ap (λ (items : List (List ℕ)). codes "deals\n" ++ flat_map deal_line items) is

-- another seed has another text, and no list has a seed's
no_other_seed : source_text (Seed 71) ≢ source_text (Seed 7)
unfolding digits
no_other_seed same = cc

no_seed_for_a_list : (number : ℕ) (deals : Vec (List ℕ) Global) → source_text (Listed deals) ≢ source_text (Seed number)
no_seed_for_a_list number deals same = let e : 100 ≡ 115 = ap (λ (text : List ℕ). slice_index text 0) same in omega (arith, e)

-- ---- what a node reads

-- two nodes of a table, each with keys of its own
abbrev reached : Data
reached = table (member (codes "peers") (string (codes "10.0.0.7:21000")) (member (codes "seats") (string (codes "10.0.0.7:22000")) (member (codes "seed") (integer (pos 7)) no_members)))

abbrev of_both : Members
of_both =
    member (codes "away") (string (codes "never")) (member (codes "name") (string (codes "m1")) (member (codes "node") (array (items_of (reached ∷ reached ∷ []))) (member (codes "port") (integer (pos 1)) no_members)))

-- no command reads `peers` at the top of a file, nor `port` and `peer` in a node's table
nothing_unused : unused_keys of_both ≡ []
nothing_unused = refl

peers_at_the_top : unused_keys (member (codes "peers") (string (codes "10.0.0.7:21000")) no_members) ≡ codes "peers" ∷ []
peers_at_the_top = refl

abbrev misspelt : Members
misspelt =
    member (codes "node")
    (array (items_of (reached ∷ table (member (codes "peer") (string (codes "10.0.0.7:21000")) (member (codes "port") (integer (pos 1)) (member (codes "seed") (integer (pos 7)) no_members))) ∷ []))) no_members

nothing_unused_in_node_0 : unused_in_node 0 misspelt ≡ []
nothing_unused_in_node_0 = refl

two_unused_in_node_1 : unused_in_node 1 misspelt ≡ codes "peer" ∷ codes "port" ∷ []
two_unused_in_node_1 = refl

no_node_2 : unused_in_node 2 misspelt ≡ []
no_node_2 = refl

-- by these a node doesn't go, right or wrong
one_unused_by_node : unused_by_node of_both ≡ Port ∷ []
one_unused_by_node = refl

none_unused_by_node : unused_by_node (member (codes "stores") (string (codes "s")) no_members) ≡ []
none_unused_by_node = refl

abbrev in_folder : Members
in_folder = member (codes "stores") (string (codes "s")) no_members

-- where there is a folder of stores alone, logs are told
logs_told : IsUnrun 2 in_folder (BadEntry Logs)
logs_told = ((codes "s", refl), λ folder says. let e : None ≡ Some (string folder) = says in cc)

no_peers_before_stores : IsUnrun 2 no_members (BadEntry Peers) → ⊥
no_peers_before_stores wrong = let e : None ≡ Some (string wrong.0.0.0) = wrong.0.0.1 in cc

no_seats_before_logs : IsUnrun 2 in_folder (BadEntry Seats) → ⊥
no_seats_before_logs wrong = let e : None ≡ Some (string wrong.0.1.0) = wrong.0.1.1 in cc

-- no port is asked for
no_port : IsUnrun 2 no_members (BadEntry Port) → ⊥
no_port wrong = absurd wrong.3

-- What match files say, worked out: each example computes, and a near miss doesn't meet its definition.
use Rattle.std.proofs.Common.{◌≡◌, ℕ, zero, suc, ◌<◌, ◌≤◌, ◌*◌, pos, List, [], ◌∷◌, length, Option, Some, None, Ok, refl, ap, sym, ◌∙◌, arith}
use Rattle.std.specs.Prelude.{codes}
use Rattle.std.specs.Fmt.{digits}
use Rattle.std.specs.List.{All, IsDistinct}
use Rattle.card_core.proofs.Examples.{heads_up, heads_up-deal}
use Rattle.toml.specs.Data.{Data, string, integer, array, table, Members, no_members, member}
use Rattle.toml.specs.View.{items_of}
use Rattle.toml.proofs.OnLiterals.{toml_on_literals}
use Rattle.match_file.specs.declared.key.Key.{Key}
use Rattle.match_file.specs.declared.absent.Absent.TheVariants.{Wait, Play}
use Rattle.match_file.specs.declared.key.Key.TheVariants.{Name, Game, Hands, Names, Port, Away}
use Rattle.match_file.specs.declared.outage.Outage.{Outage}
use Rattle.match_file.specs.declared.match_fault.MatchFault.TheVariants.{BadEntry, Unreadable}
use Rattle.match_file.specs.declared.difference.Difference.TheVariants as other
use Rattle.match_file.specs.Kept.{Kept, Keeps, IsFirst, kept_text, difference_text}
use Rattle.match_file.specs.Unused.{unused_keys}
use Rattle.game_def.specs.Game.{Game as GameValue}
use Rattle.match_file.specs.Keys.{key_text}
use Rattle.match_file.specs.Said.{IsAbsent, EachSays, SaysName, SaysDeal, SaysDeals, SaysSource}
use Rattle.match_file.proofs.Each.{each-length}
use Rattle.match_file.proofs.Views.{items_of-same}
use Rattle.match_file.proofs.Told.{some_array}
use Rattle.match_file.specs.Matches.{HasMembers, SaysTitle, SaysHands, SaysNames, SaysPort}
use Rattle.match_file.specs.Absences.{SaysAbsent}
use Rattle.match_file.specs.Outages.{out_at, LeaveMost}
use Rattle.match_file.specs.Refusals.{IsNamed, IsRefused, IsUnnamed, IsUnserved}
use Rattle.match_file.proofs.Outing.{starts_are_enough}
use Rattle.dealer_kind.specs.declared.source.Source.TheVariants.{Seed, Listed}
use Rattle.matchstate.specs.Cards.{deal_text}

-- a file with one entry
abbrev only : Key → Data → Members
only key entry = member (key_text key) entry no_members

same_length : (text other : List ℕ) → Some (string text) ≡ Some (string other) → length text ≡ length other
same_length text other e = let same : text ≡ other = cc in ap length same

-- ---- the text

two_entries : HasMembers (codes "name = \"m1\"\nport = 2000\n") (member (codes "name") (string (codes "m1")) (member (codes "port") (integer (pos 2000)) no_members))
unfolding toml_on_literals
two_entries = record { utf8 = (codes "name = \"m1\"\nport = 2000\n", (refl, refl)); toml = refl }

key_twice : (members : Members) → HasMembers (codes "port = 1\nport = 1\n") members → ⊥
unfolding toml_on_literals
key_twice members has = let no : None ≡ Some members = has.toml in cc

-- ---- the name of the match

title : SaysTitle (only Name (string (codes "m1"))) (codes "m1")
title = record { text = refl; is_name = record { least = omega arith; most = omega arith; bytes = (refl, (refl, tt)) } }

no_title_of_a_number : IsAbsent (SaysTitle (only Name (integer (pos 1))))
no_title_of_a_number name says = let e : Some (integer (pos 1)) ≡ Some (string name) = says.text in cc

no_title_at_another_key : IsAbsent (SaysTitle (only Game (string (codes "m1"))))
no_title_at_another_key name says = let e : None ≡ Some (string name) = says.text in cc

no_empty_title : SaysTitle (only Name (string [])) [] → ⊥
no_empty_title says = let least : 1 ≤ 0 = says.is_name.least in absurd (omega arith)

no_other_title : SaysTitle (only Name (string (codes "m1"))) (codes "m") → ⊥
no_other_title says = omega (arith, same_length _ _ says.text)

-- ---- hands, names, port

one_hand : SaysHands (only Hands (integer (pos 1))) 1
one_hand = record { number = refl; least = omega arith; most = omega arith }

most_hands : SaysHands (only Hands (integer (pos 10000))) 10000
most_hands = record { number = refl; least = omega arith; most = omega arith }

hands_said : (said hands : ℕ) → SaysHands (only Hands (integer (pos said))) hands → said ≡ hands
hands_said said hands says = let e : Some (integer (pos said)) ≡ Some (integer (pos hands)) = says.number in cc

no_hand : IsAbsent (SaysHands (only Hands (integer (pos 0))))
no_hand hands says = omega (arith, says.least, hands_said 0 hands says)

too_many_hands : IsAbsent (SaysHands (only Hands (integer (pos 10001))))
too_many_hands hands says = omega (arith, says.most, hands_said 10001 hands says)

abbrev alice_and_bob : List Data
alice_and_bob = string (codes "alice") ∷ string (codes "bob") ∷ []

alice_is_named : SaysName (string (codes "alice")) (codes "alice")
alice_is_named = record { text = refl; is_name = record { least = omega arith; most = omega arith; bytes = (refl, (refl, (refl, (refl, (refl, tt))))) } }

bob_is_named : SaysName (string (codes "bob")) (codes "bob")
bob_is_named = record { text = refl; is_name = record { least = omega arith; most = omega arith; bytes = (refl, (refl, (refl, tt))) } }

two_names : SaysNames 2 (only Names (array (items_of alice_and_bob))) (codes "alice" ∷ codes "bob" ∷ [])
unfolding IsDistinct
two_names = record {
  texts = (alice_and_bob, refl, (alice_is_named, (bob_is_named, tt)));
  are_names = record { one_each = refl; each_name = (alice_is_named.is_name, (bob_is_named.is_name, tt)); distinct = ((refl, tt), (tt, tt)) };
}

not_in_another_order : SaysNames 2 (only Names (array (items_of alice_and_bob))) (codes "bob" ∷ codes "alice" ∷ []) → ⊥
not_in_another_order says = omega (arith, first_said says.texts.0 (items_of-same says.texts.0 alice_and_bob (some_array _ _ (sym says.texts.1))) says.texts.2)
  where
    first_said : (items : List Data) → items ≡ alice_and_bob → EachSays SaysName items (codes "bob" ∷ codes "alice" ∷ []) → length (codes "alice") ≡ length (codes "bob")
    first_said [] is each = absurd each
    first_said (item ∷ items) is each =
        let here : item ≡ string (codes "alice") = cc in
        same_length (codes "alice") (codes "bob") (ap Some (sym here ∙ each.0.text))

not_for_three : (names : List (List ℕ)) → SaysNames 3 (only Names (array (items_of alice_and_bob))) names → ⊥
not_for_three names says =
    let same : says.texts.0 ≡ alice_and_bob = items_of-same says.texts.0 alice_and_bob (some_array _ _ (sym says.texts.1)) in
    omega (arith, says.are_names.one_each, ap length same, each-length SaysName says.texts.0 names says.texts.2)

least_port : SaysPort (only Port (integer (pos 1024))) 1024
least_port = record { number = refl; least = omega arith; most = omega arith }

greatest_port : SaysPort (only Port (integer (pos 65000))) 65000
greatest_port = record { number = refl; least = omega arith; most = omega arith }

port_said : (said port : ℕ) → SaysPort (only Port (integer (pos said))) port → said ≡ port
port_said said port says = let e : Some (integer (pos said)) ≡ Some (integer (pos port)) = says.number in cc

too_low : IsAbsent (SaysPort (only Port (integer (pos 1023))))
too_low port says = omega (arith, says.least, port_said 1023 port says)

too_high : IsAbsent (SaysPort (only Port (integer (pos 65001))))
too_high port says = omega (arith, says.most, port_said 65001 port says)

no_port_as_a_text : IsAbsent (SaysPort (only Port (string (codes "2000"))))
no_port_as_a_text port says = let e : Some (string (codes "2000")) ≡ Some (integer (pos port)) = says.number in cc

-- ---- where deals come from

abbrev seed_7 : Data
seed_7 = integer (pos 7)

abbrev ten_ace_text : Data
ten_ace_text = string (codes "TdAs|8hTc/2c8c3h/9c/Kh")

ten_ace_is_said : SaysDeal 2 ten_ace_text heads_up
ten_ace_is_said = record { text = refl; dealt = heads_up-deal }

seeded : SaysSource 2 1 (table (member (codes "seed") seed_7 no_members)) (Seed 7)
seeded = (refl, refl)

no_seed_beside_deals : IsAbsent (SaysSource 2 1 (table (member (codes "deals") (array (items_of (ten_ace_text ∷ []))) (member (codes "seed") seed_7 no_members))))
no_seed_beside_deals (Seed seed) says = let e : Some (array (items_of (ten_ace_text ∷ []))) ≡ None = says.1 in cc
no_seed_beside_deals (Listed deals) says = let e : Some seed_7 ≡ None = says.0 in cc

one_deal : SaysDeals 2 1 (Some (array (items_of (ten_ace_text ∷ [])))) (heads_up ∷ [])
one_deal = ((ten_ace_text ∷ [], refl, (ten_ace_is_said, tt)), omega arith)

too_few_deals : IsAbsent (SaysDeals 2 2 (Some (array (items_of (ten_ace_text ∷ [])))))
too_few_deals deals says =
    let same : says.0.0 ≡ ten_ace_text ∷ [] = items_of-same says.0.0 (ten_ace_text ∷ []) (some_array _ _ (sym says.0.1)) in
    omega (arith, says.1, ap length same, each-length (SaysDeal 2) says.0.0 deals says.0.2)

-- a deal that no hand needs is to be a deal's text, too
no_number_behind_the_deals : IsAbsent (SaysDeals 2 1 (Some (array (items_of (ten_ace_text ∷ seed_7 ∷ [])))))
no_number_behind_the_deals deals says = second_said says.0.0 deals (items_of-same says.0.0 (ten_ace_text ∷ seed_7 ∷ []) (some_array _ _ (sym says.0.1))) says.0.2
  where
    second_said : (items : List Data) (deals : List (List ℕ)) → items ≡ ten_ace_text ∷ seed_7 ∷ [] → EachSays (SaysDeal 2) items deals → ⊥
    second_said [] deals is each = cc
    second_said (item ∷ []) deals is each = cc
    second_said (item ∷ other ∷ items) [] is each = absurd each
    second_said (item ∷ other ∷ items) (deal ∷ []) is each = absurd each.1
    second_said (item ∷ other ∷ items) (deal ∷ next ∷ deals) is each =
        let here : other ≡ seed_7 = cc in
        let e : seed_7 ≡ string (deal_text 2 next) = sym here ∙ each.1.0.text in
        cc

-- ---- outages

abbrev outage : ℕ → ℕ → Option ℕ → Outage
outage node at back = record { node = node; at = at; back = back }

-- node 0 is out from 1 command on until there are 5, node 1 from 5 on
abbrev in_turn : List Outage
in_turn = outage 0 1 (Some 5) ∷ outage 1 5 None ∷ []

one_out : (out_at in_turn 0 3 ≡ 0) × (out_at in_turn 4 3 ≡ 1) × (out_at in_turn 5 3 ≡ 1)
one_out = (refl, refl, refl)

most_stay : LeaveMost 3 in_turn
most_stay = starts_are_enough 3 in_turn (omega arith) (λ k d within. at_each k d within)
  where
    at_each : All (λ outage. 2 * out_at in_turn outage.at 3 < 3) in_turn
    at_each zero d within = omega arith
    at_each (suc zero) d within = omega arith
    at_each (suc (suc k)) d within = absurd (omega arith)

-- one command longer, and at 5 both are out
two_of_three_out : LeaveMost 3 (outage 0 1 (Some 6) ∷ outage 1 5 None ∷ []) → ⊥
two_of_three_out stay = omega (arith, stay 5)

-- ---- the first fault

abbrev unread : Members
unread = member (codes "game") (string (codes "g")) (member (codes "hands") (integer (pos 0)) (member (codes "name") (string (codes "m")) no_members))

named : IsNamed unread
named = (
  (codes "m", record { text = refl; is_name = record { least = omega arith; most = omega arith; bytes = (refl, tt) } }),
  (codes "g", record { text = refl; is_word = record { least = omega arith; most = omega arith; printable = ((omega arith, omega arith), tt) } }),
)

-- a game file that can't be read is told, and not the wrong number of hands
unreadable : IsRefused None unread Unreadable
unreadable = (named, refl)

no_hands_before_the_game : IsRefused None unread (BadEntry Hands) → ⊥
no_hands_before_the_game wrong = let e : None ≡ Some (Ok wrong.1.0) = wrong.1.1 in cc

-- where both names are wrong, that of the match is told
no_game_before_the_name : IsUnnamed no_members (BadEntry Game) → ⊥
no_game_before_the_name wrong = let e : None ≡ Some (string wrong.0.0) = wrong.0.1.text in cc

no_port_before_stores : IsUnserved 3 no_members (BadEntry Port) → ⊥
no_port_before_stores wrong = let e : None ≡ Some (string wrong.0.0) = wrong.0.1 in cc

-- ---- a kept match

abbrev limit_game : ℕ → GameValue
limit_game stack = record {
  players = 2;
  stacks = stack ∷ stack ∷ [];
  blinds = 5 ∷ 10 ∷ [];
  raise_sizes = Some (10 ∷ 10 ∷ 20 ∷ 20 ∷ []);
  first_players = 1 ∷ 0 ∷ 0 ∷ 0 ∷ [];
  max_raises = 3 ∷ 4 ∷ 4 ∷ 4 ∷ [];
}

abbrev kept : List ℕ → List ℕ → ℕ → List (List ℕ) → ℕ → GameValue → Kept
kept name game hands names nodes values = record {
  setting = record { game = values; title = record { name = name; game = game; hands = hands }; names = names };
  nodes = nodes;
}

abbrev seats : List (List ℕ)
seats = codes "alice" ∷ codes "bob" ∷ []

abbrev tonight : Kept
tonight = kept (codes "tonight") (codes "l2.game") 20 seats 3 (limit_game 200)

its_text : kept_text tonight (codes "GAMEDEF\nlimit\n") ≡ codes "# match.kept 1\nname tonight\ngame l2.game\nhands 20\nnames alice|bob\nnodes 3\n\nGAMEDEF\nlimit\n"
unfolding digits
its_text = refl

no_match_of_another_form : IsAbsent (Keeps (codes "# match.kept 2\n"))
no_match_of_another_form old keeps = let form : codes "# match.kept 2\n" ≡ kept_text old keeps.game = keeps.form in cc

another_name : IsFirst (kept (codes "today") (codes "l2.game") 20 seats 3 (limit_game 200)) tonight other.Name
another_name same = cc

another_game : IsFirst (kept (codes "tonight") (codes "nolimit.game") 20 seats 3 (limit_game 200)) tonight other.Game
another_game = (refl, λ same. cc)

more_hands : IsFirst (kept (codes "tonight") (codes "l2.game") 21 seats 3 (limit_game 200)) tonight (other.Hands (record { kept = 21; expected = 20 }))
more_hands = (refl, refl, (λ same. omega (arith, same), refl, refl))

-- the kept count comes first
no_counts_turned_round : IsFirst (kept (codes "tonight") (codes "l2.game") 21 seats 3 (limit_game 200)) tonight (other.Hands (record { kept = 20; expected = 21 })) → ⊥
no_counts_turned_round first = let e : 20 ≡ 21 = first.2.1 in omega (arith, e)

seats_in_another_order : IsFirst (kept (codes "tonight") (codes "l2.game") 20 (codes "bob" ∷ codes "alice" ∷ []) 3 (limit_game 200)) tonight other.Names
seats_in_another_order = (refl, λ same. cc)

more_nodes : IsFirst (kept (codes "tonight") (codes "l2.game") 20 seats 5 (limit_game 200)) tonight (other.Nodes (record { kept = 5; expected = 3 }))
more_nodes = (refl, refl, (λ same. omega (arith, same), refl, refl))

other_stacks : IsFirst (kept (codes "tonight") (codes "l2.game") 20 seats 3 (limit_game 201)) tonight other.Values
other_stacks = (refl, refl, refl, λ same. let e : 201 ≡ 200 = stack_said same in omega (arith, e))
  where
    stack_said : {x y : ℕ} → limit_game x ≡ limit_game y → x ≡ y
    stack_said {x} {y} same = let e : x ∷ x ∷ [] ≡ y ∷ y ∷ [] = ap (λ (g : GameValue). g.stacks) same in cc

other_hands_text : difference_text (other.Hands (record { kept = 10000; expected = 3000 })) ≡ codes "hands 10000, not 3000"
unfolding digits
other_hands_text = refl

other_nodes_text : difference_text (other.Nodes (record { kept = 5; expected = 3 })) ≡ codes "nodes 5, not 3"
unfolding digits
other_nodes_text = refl

-- what differs behind the first isn't told
no_values_before_the_name : IsFirst (kept (codes "today") (codes "l2.game") 20 seats 3 (limit_game 201)) tonight other.Values → ⊥
no_values_before_the_name first = let e : codes "today" ≡ codes "tonight" = ap (λ title. title.name) first.0 in cc

-- ---- seats that were dropped

waited_for_without_an_entry : SaysAbsent no_members Wait
waited_for_without_an_entry = refl

not_played_for_without_an_entry : SaysAbsent no_members Play → ⊥
not_played_for_without_an_entry says = cc

waited_for : SaysAbsent (only Away (string (codes "wait"))) Wait
waited_for = refl

played_for : SaysAbsent (only Away (string (codes "play"))) Play
played_for = refl

-- the first byte of a text
abbrev first_byte : List ℕ → ℕ
first_byte [] = 0
first_byte (byte ∷ bytes) = byte

same_first : (text other : List ℕ) → string text ≡ string other → first_byte text ≡ first_byte other
same_first text other e = let same : text ≡ other = cc in ap first_byte same

not_both : SaysAbsent (only Away (string (codes "play"))) Wait → ⊥
not_both says = omega (arith, same_first (codes "play") (codes "wait") says)

no_other_word : IsAbsent (SaysAbsent (only Away (string (codes "never"))))
no_other_word Wait says = omega (arith, same_length (codes "never") (codes "wait") (ap Some says))
no_other_word Play says = omega (arith, same_length (codes "never") (codes "play") (ap Some says))

no_number : IsAbsent (SaysAbsent (only Away (integer (pos 1))))
no_number absent says = cc

-- ---- keys that no command reads

one_unused : unused_keys (member (codes "name") (string (codes "m1")) (member (codes "outages") (array (items_of [])) (member (codes "port") (integer (pos 2000)) no_members))) ≡ codes "outages" ∷ []
one_unused = refl

name_is_read : unused_keys (only Name (string (codes "m1"))) ≡ []
name_is_read = refl

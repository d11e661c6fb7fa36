-- The dealer of a match of two players: what it does computes.
use Rattle.std.proofs.Common.{◌≡◌, ℕ, ◌≤◌, inl, inr, true, false, Bool, List, [], ◌∷◌, ◌++◌, Some, None, Vec, Global, length, refl, ap, arith}
use Rattle.std.specs.Prelude.{codes, slice_get}
use Rattle.betting.specs.declared.action.Action.TheVariants.{Fold, Call, Raise}
use Rattle.slot_log.specs.declared.command.Command.{Command}
use Rattle.slot_log.specs.declared.command.Command.TheVariants.{Deal, Act, Away}
use Rattle.matchstate.specs.Line.{line}
use Rattle.match_log.proofs.Examples.{opened, two_players, ten_ace, twos_threes, alice_and_bob}
use Rattle.protocol_model.specs.Dealers.{Dealer, text_of, Seat, Log}
use Rattle.protocol_model.proofs.ArrivalExamples.{nothing_said, nothing_ordered}
use Rattle.deck_draw.specs.Deck.{drawn}
use Rattle.dealer_kind.specs.Kind.{Setting, dealer_of}
use Rattle.dealer_kind.specs.Owning.{OwnsDeals, either, IsDealtSaidOrOrdered}
use Rattle.dealer_kind.specs.Sources.{deal_of, is_deal, owns, HasDeals}
use Rattle.dealer_kind.specs.Plans.{IsSetting, HasNodes}
use Rattle.dealer_kind.specs.declared.source.Source.{Source}
use Rattle.dealer_kind.specs.declared.source.Source.TheVariants.{Seed, Listed}

abbrev setting : Setting
setting = record { game = two_players; title = record { name = codes "m"; game = codes "l2.game"; hands = 1 }; names = alice_and_bob }

-- nobody owns anything here
abbrev dealer : Dealer
dealer = dealer_of setting (λ node command. false)

-- ---- whose deals are whose

-- a node's own deal is its own, another node's isn't, nor is one of a node that there isn't
deals_are_the_nodes_own : (first second : Source) → deal_of 2 first 0 ≡ Some ten_ace → deal_of 2 second 0 ≡ Some twos_threes
    → (owns 2 (first ∷ second ∷ []) 0 (Deal 0 ten_ace) ≡ true) × (owns 2 (first ∷ second ∷ []) 1 (Deal 0 ten_ace) ≡ false)
    × (owns 2 (first ∷ second ∷ []) 2 (Deal 0 ten_ace) ≡ false)
deals_are_the_nodes_own first second ten twos = (ap (λ d. is_deal d ten_ace) ten, ap (λ d. is_deal d ten_ace) twos, refl)

-- by either of two each node owns what it owns by the second too
by_the_second : either (λ node command. false) (λ node command. true) 0 (Deal 0 ten_ace) ≡ true
by_the_second = refl

by_neither : either (λ node command. false) (λ node command. false) 0 (Deal 0 ten_ace) ≡ false
by_neither = refl

-- a node that owned all commands would own acts
owns_acts : OwnsDeals (λ node command. true) → ⊥
owns_acts owns = owns 0 (Act 0 0 Call) refl

-- an act that every node owned, and that nobody said, comes from nowhere
unsaid_act : IsDealtSaidOrOrdered (dealer_of setting (λ node command. true)) 3 [] [] (Act 0 0 Call) → ⊥
unsaid_act said = nothing_said (dealer_of setting (λ node command. true)) 3 [] (Act 0 0 Call) said

-- nor does one that plays for a player who is away, where nobody ordered it
unordered_away : IsDealtSaidOrOrdered (dealer_of setting (λ node command. true)) 3 [] [] (Away 0 0) → ⊥
unordered_away order = nothing_ordered (dealer_of setting (λ node command. true)) 3 [] (Away 0 0) order

-- an act is nobody's own, nor is one that plays for a player who is away
no_act : (first : Source) → owns 2 (first ∷ []) 0 (Act 0 0 Call) ≡ false
no_act first = refl

no_away : (first : Source) → owns 2 (first ∷ []) 0 (Away 0 0) ≡ false
no_away first = refl

drawn_deal : deal_of 2 (Seed 7) 3 ≡ Some (drawn 7 3 2)
drawn_deal = refl

listed_deal : (deals : Vec (List ℕ) Global) → deals.items ≡ ten_ace ∷ []
    → (deal_of 2 (Listed deals) 0 ≡ Some ten_ace) × (deal_of 2 (Listed deals) 1 ≡ None)
listed_deal deals one = (ap (λ ds. slice_get ds 0) one, ap (λ ds. slice_get ds 1) one)

-- one deal is too few for two hands
too_few_deals : (deals : Vec (List ℕ) Global) → deals.items ≡ ten_ace ∷ [] → HasDeals 2 2 (Listed deals) → ⊥
too_few_deals deals one has = omega (arith, ap length one, has.0)

-- ---- what fits, and what is shown

header : text_of dealer [] Log ≡ Some (codes "# name/game/hands m l2.game 1\n")
unfolding opened
header = refl

fits_first : dealer.fits [] (Deal 0 ten_ace) ≡ true
unfolding opened
fits_first = refl

-- of a match of one hand there is no second one, and no act before the first
no_second_hand : dealer.fits [] (Deal 1 ten_ace) ≡ false
unfolding opened
no_second_hand = refl

no_act_yet : dealer.fits [] (Act 0 0 Call) ≡ false
unfolding opened
no_act_yet = refl

nothing_shown_yet : text_of dealer [] (Seat 1) ≡ None
unfolding opened
nothing_shown_yet = refl

shown : text_of dealer (Deal 0 ten_ace ∷ []) (Seat 1) ≡ Some (codes "MATCHSTATE:1:0::|8hTc")
unfolding opened
shown = refl

no_third_seat : text_of dealer (Deal 0 ten_ace ∷ []) (Seat 2) ≡ None
unfolding opened
no_third_seat = refl

-- without the test of the seat there would be a line for it
bare_line_of_no_seat : line two_players 1 (Deal 0 ten_ace ∷ []) 3 ≡ Some (codes "MATCHSTATE:1:0::|8hTc")
unfolding opened
bare_line_of_no_seat = refl

scored : text_of dealer (Act 0 0 Fold ∷ Deal 0 ten_ace ∷ []) Log ≡ Some (codes "# name/game/hands m l2.game 1\nSTATE:0:f:TdAs|8hTc:5|-5:alice|bob\nSCORE:5|-5:alice|bob\n")
unfolding opened
scored = refl

-- ---- what a line says

said : dealer.says (Deal 0 ten_ace ∷ []) 1 (codes "MATCHSTATE:1:0::|8hTc:c") (Act 0 0 Call) ≡ true
unfolding opened
said = refl

-- a carriage return at the line's end is no part of what it says
said_with_return : dealer.says (Deal 0 ten_ace ∷ []) 1 (codes "MATCHSTATE:1:0::|8hTc:c" ++ 13 ∷ []) (Act 0 0 Call) ≡ true
unfolding opened
said_with_return = refl

not_another_action : dealer.says (Deal 0 ten_ace ∷ []) 1 (codes "MATCHSTATE:1:0::|8hTc:c") (Act 0 0 Fold) ≡ false
unfolding opened
not_another_action = refl

not_another_index : dealer.says (Deal 0 ten_ace ∷ []) 1 (codes "MATCHSTATE:1:0::|8hTc:c") (Act 0 1 Call) ≡ false
unfolding opened
not_another_index = refl

not_in_turn : dealer.says (Deal 0 ten_ace ∷ []) 0 (codes "MATCHSTATE:0:0::TdAs|:c") (Act 0 0 Call) ≡ false
unfolding opened
not_in_turn = refl

not_of_another_seat : dealer.says (Deal 0 ten_ace ∷ []) 0 (codes "MATCHSTATE:1:0::|8hTc:c") (Act 0 0 Call) ≡ false
unfolding opened
not_of_another_seat = refl

-- seat 3 of a table of two isn't seat 1
not_of_no_seat : dealer.says (Deal 0 ten_ace ∷ []) 3 (codes "MATCHSTATE:1:0::|8hTc:c") (Act 0 0 Call) ≡ false
unfolding opened
not_of_no_seat = refl

no_deal_is_said : dealer.says [] 1 (codes "MATCHSTATE:1:0::|8hTc:c") (Deal 0 ten_ace) ≡ false
unfolding opened
no_deal_is_said = refl

-- the line of an earlier state says nothing any more
not_the_old_line : dealer.says (Act 0 0 Call ∷ Deal 0 ten_ace ∷ []) 1 (codes "MATCHSTATE:1:0::|8hTc:c") (Act 0 1 Call) ≡ false
unfolding opened
not_the_old_line = refl

-- no line says that a player is away, also where it says what would be done for him
no_away_is_said : dealer.says (Deal 0 ten_ace ∷ []) 1 (codes "MATCHSTATE:1:0::|8hTc:f") (Away 0 0) ≡ false
unfolding opened
no_away_is_said = refl

-- ---- what an order means

ordered_at_the_first_turn : dealer.orders (Deal 0 ten_ace ∷ []) (Away 0 0) ≡ true
unfolding opened
ordered_at_the_first_turn = refl

ordered_at_the_second_turn : dealer.orders (Act 0 0 Call ∷ Deal 0 ten_ace ∷ []) (Away 0 1) ≡ true
unfolding opened
ordered_at_the_second_turn = refl

not_the_turn_before : dealer.orders (Act 0 0 Call ∷ Deal 0 ten_ace ∷ []) (Away 0 0) ≡ false
unfolding opened
not_the_turn_before = refl

nothing_to_order_yet : dealer.orders [] (Away 0 0) ≡ false
unfolding opened
nothing_to_order_yet = refl

nothing_to_order_any_more : dealer.orders (Act 0 0 Fold ∷ Deal 0 ten_ace ∷ []) (Away 0 1) ≡ false
unfolding opened
nothing_to_order_any_more = refl

-- the same action, but an act of the player's
no_act_is_ordered : dealer.orders (Deal 0 ten_ace ∷ []) (Act 0 0 Fold) ≡ false
unfolding opened
no_act_is_ordered = refl

no_deal_is_ordered : dealer.orders [] (Deal 0 ten_ace) ≡ false
unfolding opened
no_deal_is_ordered = refl

-- ---- limits

-- a match has a hand at least
no_hands : IsSetting (record setting { title = record setting.title { hands = 0 } }) → ⊥
no_hands within = omega (arith, within.least)

three : HasNodes 3
three = inl refl

seven : HasNodes 7
seven = inr (inr refl)

-- no other number of nodes: not an even one, and none above seven
other_counts : (n : ℕ) → (n ≡ 3 → ⊥) → (n ≡ 5 → ⊥) → (n ≡ 7 → ⊥) → HasNodes n → ⊥
other_counts n three five seven nodes = elim nodes [ inl e ↦ three e | inr more ↦ elim more [ inl e ↦ five e | inr e ↦ seven e ] ]

not_four : HasNodes 4 → ⊥
not_four = other_counts 4 (λ e. omega (arith, e)) (λ e. omega (arith, e)) (λ e. omega (arith, e))

not_six : HasNodes 6 → ⊥
not_six = other_counts 6 (λ e. omega (arith, e)) (λ e. omega (arith, e)) (λ e. omega (arith, e))

not_nine : HasNodes 9 → ⊥
not_nine = other_counts 9 (λ e. omega (arith, e)) (λ e. omega (arith, e)) (λ e. omega (arith, e))

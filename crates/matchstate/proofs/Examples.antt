-- Worked lines that pin the definitions; each computes.
use Rattle.std.proofs.Common.{◌≡◌, ◌≤◌, ℕ, zero, suc, Bool, true, false, eqb, List, [], ◌∷◌, Option, Some, None, refl, sym, subst, arith, ◌⊎◌, inl, inr, map, rules}
use Rattle.std.specs.Prelude.{codes, IsTrue}
use Rattle.std.specs.Fmt.{digits}
use Rattle.std.specs.List.{IsDistinct}
use Rattle.std.proofs.lemmas.Bool.Decides.{nat_tests}
use Rattle.std.proofs.lemmas.Option.{same_Some}
use Rattle.game_def.specs.Game.{Game}
use Rattle.betting.specs.declared.action.Action.{Action}
use Rattle.betting.specs.declared.action.Action.TheVariants.{Fold, Call, Raise}
use Rattle.betting.specs.Turns.{count_below, max_spent, spent, folded, live, live_count, unfolded_count, has_answered, owes, owing_count, actions_in, raises_in, min_to}
use Rattle.betting.specs.Rounds.{is_alone, can_bet_on, ends_round, over, current_round, first_from, first_cyclic, search_start, to_act, with_turn, turns}
use Rattle.betting.specs.Legal.{limit_to, least_raise, greatest_raise, no_raise, wrong_amount, fault_of_raise, fault_at, fault_of, CanAct}
use Rattle.betting.specs.Text.{text, action_text}
use Rattle.slot_log.specs.Hand.{Hand}
use Rattle.slot_log.specs.Dealer.{hands_of}
use Rattle.slot_log.specs.declared.command.Command.TheVariants.{Deal, Act}
use Rattle.card_core.specs.Deal.{IsDeal}
use Rattle.matchstate.specs.Cards.{cards_text, seen_counts, shown_text, deal_text, AreSeen, AreSeenOf}
use Rattle.matchstate.specs.ActionText.{IsActionText}
use Rattle.matchstate.specs.View.{View, sees, is_showdown, seat_of, position_of, view_of}
use Rattle.matchstate.specs.Line.{Fields, HasFields, line, line_text}
use Rattle.matchstate.specs.Laws.{Place, hole, board, card_at, Agree, SeatSees, Alike}
use Rattle.matchstate.proofs.Seen.{place_from_seen}

-- opens all of them
unfoldable pub opened : ℕ
unfolding hands_of count_below max_spent spent folded live live_count unfolded_count has_answered owes owing_count actions_in raises_in min_to is_alone can_bet_on ends_round over current_round first_from first_cyclic search_start to_act with_turn turns limit_to least_raise greatest_raise no_raise wrong_amount fault_of_raise fault_at fault_of action_text text digits IsDistinct
opened = 0

-- two players, limit
abbrev pub limit_pair : Game
limit_pair = record {
  players = 2;
  stacks = 2147483647 ∷ 2147483647 ∷ [];
  blinds = 10 ∷ 5 ∷ [];
  raise_sizes = Some (10 ∷ 10 ∷ 20 ∷ 20 ∷ []);
  first_players = 1 ∷ 0 ∷ 0 ∷ 0 ∷ [];
  max_raises = 3 ∷ 4 ∷ 4 ∷ 4 ∷ [];
}

-- three players, limit
abbrev pub limit_three : Game
limit_three = record {
  players = 3;
  stacks = 2147483647 ∷ 2147483647 ∷ 2147483647 ∷ [];
  blinds = 5 ∷ 10 ∷ 0 ∷ [];
  raise_sizes = Some (10 ∷ 10 ∷ 20 ∷ 20 ∷ []);
  first_players = 2 ∷ 0 ∷ 0 ∷ 0 ∷ [];
  max_raises = 3 ∷ 4 ∷ 4 ∷ 4 ∷ [];
}

-- two players, no-limit
abbrev pub no_limit_pair : Game
no_limit_pair = record {
  players = 2;
  stacks = 20000 ∷ 20000 ∷ [];
  blinds = 100 ∷ 50 ∷ [];
  raise_sizes = None;
  first_players = 1 ∷ 0 ∷ 0 ∷ 0 ∷ [];
  max_raises = 255 ∷ 255 ∷ 255 ∷ 255 ∷ [];
}

-- TdAs|8hTc/2c8c3h/9c/Kh
abbrev pub first_deal : List ℕ
first_deal = 33 ∷ 51 ∷ 26 ∷ 32 ∷ 0 ∷ 24 ∷ 6 ∷ 28 ∷ 46 ∷ []

-- 2d2h|3d3s/4c5c6c/7c/8d
abbrev pub second_deal : List ℕ
second_deal = 1 ∷ 2 ∷ 5 ∷ 7 ∷ 8 ∷ 12 ∷ 16 ∷ 20 ∷ 25 ∷ []

-- 2c3d|4c5d|6c7d/TsJsQs/Ks/As
abbrev pub deal_of_three : List ℕ
deal_of_three = 0 ∷ 5 ∷ 8 ∷ 13 ∷ 16 ∷ 21 ∷ 35 ∷ 39 ∷ 43 ∷ 47 ∷ 51 ∷ []

-- ---- cards

two_cards : cards_text (33 ∷ 51 ∷ []) ≡ codes "TdAs"
two_cards = refl

first_deal_text : deal_text 2 first_deal ≡ codes "TdAs|8hTc/2c8c3h/9c/Kh"
first_deal_text = refl

first_deal_up_to_the_flop : shown_text 2 1 first_deal ≡ codes "TdAs|8hTc/2c8c3h"
first_deal_up_to_the_flop = refl

counts_where_the_second_of_three_is_seen : seen_counts 3 (λ position. eqb position 1) ≡ 0 ∷ 2 ∷ 0 ∷ []
counts_where_the_second_of_three_is_seen = refl

deal_of_three_text : deal_text 3 deal_of_three ≡ codes "2c3d|4c5d|6c7d/TsJsQs/Ks/As"
deal_of_three_text = refl

-- ---- seats

first_hand_seats : map (seat_of 3 0) (0 ∷ 1 ∷ 2 ∷ []) ≡ 0 ∷ 1 ∷ 2 ∷ []
first_hand_seats = refl

second_hand_seats : map (seat_of 3 1) (0 ∷ 1 ∷ 2 ∷ []) ≡ 1 ∷ 2 ∷ 0 ∷ []
second_hand_seats = refl

second_hand_positions : map (position_of 3 1) (0 ∷ 1 ∷ 2 ∷ []) ≡ 2 ∷ 0 ∷ 1 ∷ []
second_hand_positions = refl

-- ---- lines; the commands stand newest first

no_line_before_the_deal : line limit_pair 1 [] 0 ≡ None
unfolding opened
no_line_before_the_deal = refl

first_line_of_seat_0 : line limit_pair 1 (Deal 0 first_deal ∷ []) 0 ≡ Some (codes "MATCHSTATE:0:0::TdAs|")
unfolding opened
first_line_of_seat_0 = refl

first_line_of_seat_1 : line limit_pair 1 (Deal 0 first_deal ∷ []) 1 ≡ Some (codes "MATCHSTATE:1:0::|8hTc")
unfolding opened
first_line_of_seat_1 = refl

flop_line_of_seat_0 : line limit_pair 1 (Act 0 3 Call ∷ Act 0 2 (Raise 40) ∷ Act 0 1 (Raise 30) ∷ Act 0 0 (Raise 20) ∷ Deal 0 first_deal ∷ []) 0 ≡ Some (codes "MATCHSTATE:0:0:rrrc/:TdAs|/2c8c3h")
unfolding opened
flop_line_of_seat_0 = refl

flop_line_of_seat_1 : line limit_pair 1 (Act 0 3 Call ∷ Act 0 2 (Raise 40) ∷ Act 0 1 (Raise 30) ∷ Act 0 0 (Raise 20) ∷ Deal 0 first_deal ∷ []) 1 ≡ Some (codes "MATCHSTATE:1:0:rrrc/:|8hTc/2c8c3h")
unfolding opened
flop_line_of_seat_1 = refl

-- a hand ended by a fold shows nothing
fold_line_of_seat_0 : line limit_pair 1 (Act 0 0 Fold ∷ Deal 0 first_deal ∷ []) 0 ≡ Some (codes "MATCHSTATE:0:0:f:TdAs|")
unfolding opened
fold_line_of_seat_0 = refl

fold_line_of_seat_1 : line limit_pair 1 (Act 0 0 Fold ∷ Deal 0 first_deal ∷ []) 1 ≡ Some (codes "MATCHSTATE:1:0:f:|8hTc")
unfolding opened
fold_line_of_seat_1 = refl

-- in the second hand the seats have moved on
second_hand_of_seat_0 : line limit_pair 2 (Deal 1 second_deal ∷ Act 0 0 Fold ∷ Deal 0 first_deal ∷ []) 0 ≡ Some (codes "MATCHSTATE:1:1::|3d3s")
unfolding opened
second_hand_of_seat_0 = refl

second_hand_of_seat_1 : line limit_pair 2 (Deal 1 second_deal ∷ Act 0 0 Fold ∷ Deal 0 first_deal ∷ []) 1 ≡ Some (codes "MATCHSTATE:0:1::2d2h|")
unfolding opened
second_hand_of_seat_1 = refl

-- a hand as the actions taken in it, newest first
abbrev pub played : List ℕ → List Action → Hand
played deal past = record { deal = deal; past = past }

-- at a showdown all who haven't folded are shown, to everybody
showdown_line : line_text (view_of limit_pair 0 0 (played first_deal (Call ∷ Call ∷ Call ∷ Call ∷ Call ∷ Call ∷ Call ∷ Raise 40 ∷ Raise 30 ∷ Raise 20 ∷ []))) ≡ codes "MATCHSTATE:0:0:rrrc/cc/cc/cc:TdAs|8hTc/2c8c3h/9c/Kh"
unfolding opened
showdown_line = refl

-- but nobody who has
showdown_of_three_for_the_small_blind : line_text (view_of limit_three 1 0 (played deal_of_three (Call ∷ Call ∷ Call ∷ Call ∷ Call ∷ Call ∷ Call ∷ Fold ∷ Call ∷ []))) ≡ codes "MATCHSTATE:1:0:cfc/cc/cc/cc:|4c5d|6c7d/TsJsQs/Ks/As"
unfolding opened
showdown_of_three_for_the_small_blind = refl

showdown_of_three_for_who_folded : line_text (view_of limit_three 0 0 (played deal_of_three (Call ∷ Call ∷ Call ∷ Call ∷ Call ∷ Call ∷ Call ∷ Fold ∷ Call ∷ []))) ≡ codes "MATCHSTATE:0:0:cfc/cc/cc/cc:2c3d|4c5d|6c7d/TsJsQs/Ks/As"
unfolding opened
showdown_of_three_for_who_folded = refl

-- an all-in that ends the hand shows all rounds
all_in_line : line_text (view_of no_limit_pair 0 0 (played first_deal (Call ∷ Raise 20000 ∷ []))) ≡ codes "MATCHSTATE:0:0:r20000c///:TdAs|8hTc/2c8c3h/9c/Kh"
unfolding opened
all_in_line = refl

no_showdown_after_a_fold : is_showdown limit_pair (Fold ∷ []) ≡ false
unfolding opened
no_showdown_after_a_fold = refl

-- ---- what is seen of a deal, and a card that stands there twice

pub first_deal_dealt : IsDeal 2 first_deal
unfolding opened
first_deal_dealt =
    record {
      count = refl;
      cards_of_the_pack = (omega arith, (omega arith, (omega arith, (omega arith, (omega arith, (omega arith, (omega arith, (omega arith, (omega arith, tt)))))))));
      distinct = search rules;
    }

seen_of_the_first_deal : AreSeenOf 2 (λ p. eqb p 1) 1 ([] ∷ (26 ∷ 32 ∷ []) ∷ []) ((0 ∷ 24 ∷ 6 ∷ []) ∷ []) first_deal
seen_of_the_first_deal = record { dealt = first_deal_dealt; hole_cards = refl; board_cards = refl }

no_card_twice : AreSeen 2 (λ p. eqb p 0) 0 ((33 ∷ 33 ∷ []) ∷ [] ∷ []) [] → ⊥
unfolding opened
no_card_twice seen =
    let place = place_from_seen 2 (λ p. eqb p 0) 0 ((33 ∷ 33 ∷ []) ∷ [] ∷ []) [] seen.0 seen.1 in
    let apart : ◌≡◌ {A = Bool} true false = place.distinct.0.0 in
    cc

-- ---- actions' texts

raise_reads : IsActionText no_limit_pair [] (codes "r200") (Raise 200)
unfolding opened
raise_reads = (refl, omega arith)

raise_is_allowed : CanAct limit_pair [] (Raise 20)
unfolding opened CanAct
raise_is_allowed =
    (1, refl, (record { raises_left = omega arith; room = omega arith; somebody_to_call = omega arith; chips_left = omega arith }, omega arith, omega arith))

limit_raise_reads : IsActionText limit_pair [] (codes "r") (Raise 20)
limit_raise_reads = (refl, inl raise_is_allowed)

limit_raise_is_no_other : IsActionText limit_pair [] (codes "r") (Raise 0) → ⊥
unfolding opened CanAct
limit_raise_is_no_other (whole, inl can) =
    let at : can.0 ≡ 1 = same_Some can.0 1 (sym can.1) in
    let low : least_raise limit_pair [] 1 ≤ 0 = subst (λ p. least_raise limit_pair [] p ≤ 0) at can.2.1 in
    absurd (omega arith)
limit_raise_is_no_other (whole, inr none) = none.1 20 raise_is_allowed

no_leading_zero : IsActionText no_limit_pair [] (codes "r0200") (Raise 200) → ⊥
unfolding opened
no_leading_zero text = let e : ◌≡◌ {A = List ℕ} (codes "r0200") (codes "r200") = text.0 in cc

-- ---- a text that isn't a line's

hello_is_no_line : (fields : Fields) → HasFields (codes "HELLO") fields → ⊥
hello_is_no_line fields has = let whole = has.whole in cc

-- ---- what agrees, and what doesn't

abbrev pub small_view : List ℕ → View
small_view cards = record { game = limit_pair; position = 0; hand = 0; past = []; holes = cards ∷ [] ∷ []; boards = [] }

other_cards_disagree : Agree (small_view (33 ∷ 51 ∷ [])) (small_view (33 ∷ 50 ∷ [])) → ⊥
other_cards_disagree (inl apart) = apart refl
other_cards_disagree (inr on_hand) = let same = on_hand.cards (hole 0 1) 51 50 refl refl in absurd (omega arith)

-- ---- what a seat doesn't see may differ, what it sees may not

-- TdAs|2h2s/2c8c3h/9c/Kh
abbrev pub like_first_deal : List ℕ
like_first_deal = 33 ∷ 51 ∷ 2 ∷ 3 ∷ 0 ∷ 24 ∷ 6 ∷ 28 ∷ 46 ∷ []

not_seen : (p : ℕ) → IsTrue (sees limit_pair [] 0 (suc p)) → ⊥
unfolding opened
not_seen p seen =
    let other : eqb (suc p) 0 ≡ false = grind (arith, nat_tests) in
    let clash : ◌≡◌ {A = Bool} false true = rw other at seen in
    cc

seat_0_sees_its_own : (n : ℕ) (place : Place) → SeatSees limit_pair (played first_deal [] ∷ []) 0 0 place ⊎ SeatSees limit_pair (played like_first_deal [] ∷ []) 0 0 place → card_at first_deal place ≡ card_at like_first_deal place
unfolding opened
seat_0_sees_its_own n (hole zero i) seen = refl
seat_0_sees_its_own n (hole (suc p) i) (inl seen) = absurd (not_seen p seen)
seat_0_sees_its_own n (hole (suc p) i) (inr seen) = absurd (not_seen p seen)
seat_0_sees_its_own n (board i) (inl seen) = absurd (omega arith)
seat_0_sees_its_own n (board i) (inr seen) = absurd (omega arith)

alike_for_seat_0 : Alike limit_pair 1 0 (Deal 0 first_deal ∷ []) (Deal 0 like_first_deal ∷ [])
unfolding opened
alike_for_seat_0 = ((refl, refl, λ place seen. seat_0_sees_its_own 0 place seen), tt)

not_alike_for_seat_1 : Alike limit_pair 1 1 (Deal 0 first_deal ∷ []) (Deal 0 like_first_deal ∷ []) → ⊥
unfolding opened
not_alike_for_seat_1 alike = let same : ◌≡◌ {A = Option ℕ} (Some 26) (Some 2) = alike.0.2 (hole 1 0) (inl refl) in cc

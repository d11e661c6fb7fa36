-- Worked lists of commands that pin the dealer's definitions; each computes.
use Rattle.std.proofs.Common.{◌≡◌, ℕ, ◌<◌, ◌≤◌, Bool, true, false, List, [], ◌∷◌, Some, None, refl, sym, subst, arith}
use Rattle.game_def.specs.Game.{Game}
use Rattle.betting.specs.declared.action.Action.{Action}
use Rattle.betting.specs.declared.action.Action.TheVariants.{Fold, Call, Raise}
use Rattle.betting.specs.declared.fault.ActFault.TheVariants.{TooManyRaises}
use Rattle.betting.specs.Turns.{count_below, max_spent, spent, folded, live, live_count, unfolded_count, has_answered, owes, owing_count, actions_in, raises_in, min_to}
use Rattle.betting.specs.Rounds.{is_alone, can_bet_on, ends_round, over, current_round, first_from, first_cyclic, search_start, to_act, with_turn, turns}
use Rattle.betting.specs.Legal.{limit_to, least_raise, greatest_raise, no_raise, wrong_amount, fault_of_raise, fault_at, fault_of, CanAct}
use Rattle.slot_log.specs.Hand.{Hand}
use Rattle.slot_log.specs.Dealer.{hands_of, effect_of, reason_of, Fits, hand_at}
use Rattle.slot_log.specs.Played.{commands_of, deals_of, IsLegalHand, AreEarlierFinished, AreHands}
use Rattle.slot_log.specs.Range.{IsInRange}
use Rattle.slot_log.specs.declared.command.Command.TheVariants.{Deal, Act}
use Rattle.slot_log.specs.declared.effect.Effect.TheVariants.{Dealt, Acted, HandOver, MatchOver, None as Nothing}
use Rattle.slot_log.specs.declared.reason.Reason.TheVariants.{MatchDone, NoHand, HandRunning, WrongHand, WrongIndex, WrongCards, Illegal}

-- opens all of them
unfoldable pub opened : ℕ
unfolding hands_of count_below max_spent spent folded live live_count unfolded_count has_answered owes owing_count actions_in raises_in min_to is_alone can_bet_on ends_round over current_round first_from first_cyclic search_start to_act with_turn turns limit_to least_raise greatest_raise no_raise wrong_amount fault_of_raise fault_at fault_of
opened = 0

-- two players, limit
abbrev pub limit_game : Game
limit_game = record {
  players = 2;
  stacks = 2147483647 ∷ 2147483647 ∷ [];
  blinds = 10 ∷ 5 ∷ [];
  raise_sizes = Some (10 ∷ 10 ∷ 20 ∷ 20 ∷ []);
  first_players = 1 ∷ 0 ∷ 0 ∷ 0 ∷ [];
  max_raises = 3 ∷ 4 ∷ 4 ∷ 4 ∷ [];
}

-- TdAs|8hTc/2c8c3h/9c/Kh
abbrev pub first_deal : List ℕ
first_deal = 33 ∷ 51 ∷ 26 ∷ 32 ∷ 0 ∷ 24 ∷ 6 ∷ 28 ∷ 46 ∷ []

-- 2d2h|3d3s/4c5c6c/7c/8d
abbrev pub second_deal : List ℕ
second_deal = 1 ∷ 2 ∷ 5 ∷ 7 ∷ 8 ∷ 12 ∷ 16 ∷ 20 ∷ 25 ∷ []

abbrev pub hand : List ℕ → List Action → Hand
hand deal past = record { deal = deal; past = past }

-- lists of commands stand newest first
nothing_dealt : hands_of limit_game 2 [] ≡ []
unfolding opened
nothing_dealt = refl

first_hand_dealt : hands_of limit_game 2 (Deal 0 first_deal ∷ []) ≡ hand first_deal [] ∷ []
unfolding opened
first_hand_dealt = refl

-- the second copy of an act does nothing
same_act_twice : hands_of limit_game 1 (Act 0 0 Call ∷ Act 0 0 Call ∷ Deal 0 first_deal ∷ []) ≡ hand first_deal (Call ∷ []) ∷ []
unfolding opened
same_act_twice = refl

act_acts : effect_of limit_game 1 (hand first_deal [] ∷ []) (Act 0 0 Call) ≡ Acted
unfolding opened
act_acts = refl

second_copy_does_nothing : effect_of limit_game 1 (hand first_deal (Call ∷ []) ∷ []) (Act 0 0 Call) ≡ Nothing WrongIndex
unfolding opened
second_copy_does_nothing = refl

-- a hand ends by a fold, the next is dealt, and with its end the match is over
two_hands : hands_of limit_game 2 (Act 1 0 Fold ∷ Deal 1 second_deal ∷ Act 0 0 Fold ∷ Deal 0 first_deal ∷ []) ≡ hand second_deal (Fold ∷ []) ∷ hand first_deal (Fold ∷ []) ∷ []
unfolding opened
two_hands = refl

fold_ends_the_hand : effect_of limit_game 2 (hand first_deal [] ∷ []) (Act 0 0 Fold) ≡ HandOver
unfolding opened
fold_ends_the_hand = refl

last_fold_ends_the_match : effect_of limit_game 2 (hand second_deal [] ∷ hand first_deal (Fold ∷ []) ∷ []) (Act 1 0 Fold) ≡ MatchOver
unfolding opened
last_fold_ends_the_match = refl

deal_deals : effect_of limit_game 2 (hand first_deal (Fold ∷ []) ∷ []) (Deal 1 second_deal) ≡ Dealt
unfolding opened
deal_deals = refl

-- each reason
deal_after_the_match : reason_of limit_game 1 (hand first_deal (Fold ∷ []) ∷ []) (Deal 1 second_deal) ≡ Some MatchDone
unfolding opened
deal_after_the_match = refl

deal_while_a_hand_runs : reason_of limit_game 2 (hand first_deal [] ∷ []) (Deal 1 second_deal) ≡ Some HandRunning
unfolding opened
deal_while_a_hand_runs = refl

deal_of_another_hand : reason_of limit_game 2 [] (Deal 1 first_deal) ≡ Some WrongHand
unfolding opened
deal_of_another_hand = refl

deal_for_three : reason_of limit_game 2 [] (Deal 0 (40 ∷ 41 ∷ first_deal)) ≡ Some WrongCards
unfolding opened
deal_for_three = refl

act_before_the_deal : reason_of limit_game 2 [] (Act 0 0 Call) ≡ Some NoHand
unfolding opened
act_before_the_deal = refl

act_after_the_hand : reason_of limit_game 2 (hand first_deal (Fold ∷ []) ∷ []) (Act 0 1 Call) ≡ Some NoHand
unfolding opened
act_after_the_hand = refl

act_after_the_match : reason_of limit_game 1 (hand first_deal (Fold ∷ []) ∷ []) (Act 0 1 Call) ≡ Some MatchDone
unfolding opened
act_after_the_match = refl

act_of_another_hand : reason_of limit_game 2 (hand first_deal [] ∷ []) (Act 1 0 Call) ≡ Some WrongHand
unfolding opened
act_of_another_hand = refl

fourth_raise : reason_of limit_game 2 (hand first_deal (Raise 40 ∷ Raise 30 ∷ Raise 20 ∷ []) ∷ []) (Act 0 3 (Raise 50)) ≡ Some (Illegal TooManyRaises)
unfolding opened
fourth_raise = refl

-- hands by number, in the order of dealing
hand_by_number : hand_at (hand second_deal [] ∷ hand first_deal (Fold ∷ []) ∷ []) 0 ≡ Some (hand first_deal (Fold ∷ []))
hand_by_number = refl

no_hand_by_number : hand_at (hand first_deal [] ∷ []) 1 ≡ None
no_hand_by_number = refl

-- what fits, and near misses
deal_fits : Fits limit_game 2 (hand first_deal (Fold ∷ []) ∷ []) (Deal 1 second_deal)
unfolding opened
deal_fits = record { goes_on = omega arith; none_runs = refl; next_hand = refl; card_count = refl }

second_deal_does_not_fit : Fits limit_game 2 (hand first_deal [] ∷ []) (Deal 1 second_deal) → ⊥
unfolding opened
second_deal_does_not_fit fits = let runs : ◌≡◌ {A = Bool} true false = fits.none_runs in cc

second_copy_does_not_fit : Fits limit_game 1 (hand first_deal (Call ∷ []) ∷ []) (Act 0 0 Call) → ⊥
second_copy_does_not_fit fits = let next : ◌≡◌ {A = ℕ} 0 1 = fits.next_index in absurd (omega arith)

-- hands as commands: two that were played, the first with two actions
pub commands_of_two_hands : commands_of (hand second_deal (Fold ∷ []) ∷ hand first_deal (Fold ∷ Call ∷ []) ∷ []) ≡ Act 1 0 Fold ∷ Deal 1 second_deal ∷ Act 0 1 Fold ∷ Act 0 0 Call ∷ Deal 0 first_deal ∷ []
commands_of_two_hands = refl

pub commands_of_none : commands_of [] ≡ []
commands_of_none = refl

pub deals_of_two_hands : deals_of (Act 1 0 Fold ∷ Deal 1 second_deal ∷ Act 0 0 Call ∷ Deal 0 first_deal ∷ []) ≡ second_deal ∷ first_deal ∷ []
deals_of_two_hands = refl

pub one_fold_is_legal : IsLegalHand limit_game (hand first_deal (Fold ∷ []))
unfolding opened CanAct
one_fold_is_legal = record { card_count = refl; legal = (tt, (1, refl, omega arith)) }

-- the player with the greatest blind faces nothing after a call
pub fold_after_call_is_not_legal : IsLegalHand limit_game (hand first_deal (Fold ∷ Call ∷ [])) → ⊥
unfolding opened CanAct
fold_after_call_is_not_legal legal_hand =
    let can = legal_hand.legal.1 in
    let acts : Some 0 ≡ Some can.0 = can.1 in
    let first : 0 ≡ can.0 = cc in
    let facing : spent limit_game (turns limit_game (Call ∷ [])) can.0 < 10 = can.2 in
    let less : 10 < 10 = subst (λ position. spent limit_game (turns limit_game (Call ∷ [])) position < 10) (sym first) facing in omega arith

pub deal_for_three_is_not_legal : IsLegalHand limit_game (hand (40 ∷ 41 ∷ first_deal) []) → ⊥
deal_for_three_is_not_legal legal_hand = let count : ◌≡◌ {A = ℕ} 11 9 = legal_hand.card_count in omega arith

pub newest_runs : AreEarlierFinished limit_game (hand second_deal [] ∷ hand first_deal (Fold ∷ []) ∷ [])
unfolding opened
newest_runs = (refl, tt)

-- a hand that is dealt while another runs doesn't come of commands
pub two_run : AreEarlierFinished limit_game (hand second_deal [] ∷ hand first_deal [] ∷ []) → ⊥
unfolding opened
two_run finished = let runs : ◌≡◌ {A = Bool} false true = finished.0 in cc

second_deal_does_nothing : hands_of limit_game 2 (commands_of (hand second_deal [] ∷ hand first_deal [] ∷ [])) ≡ hand first_deal [] ∷ []
unfolding opened
second_deal_does_nothing = refl

-- nor does a hand beyond those of the match
hand_beyond_the_match : hands_of limit_game 1 (commands_of (hand second_deal (Fold ∷ []) ∷ hand first_deal (Fold ∷ []) ∷ [])) ≡ hand first_deal (Fold ∷ []) ∷ []
unfolding opened
hand_beyond_the_match = refl

-- ---- hands of a match, and ranges

pub two_hands_of_two : AreHands limit_game 2 (hand second_deal [] ∷ hand first_deal (Fold ∷ []) ∷ [])
unfolding opened CanAct
two_hands_of_two = record {
  legal = (record { card_count = refl; legal = tt }, (record { card_count = refl; legal = (tt, (1, refl, omega arith)) }, tt));
  earlier_finished = (refl, tt);
  within = omega arith;
}

two_hands_of_one : AreHands limit_game 1 (hand second_deal [] ∷ hand first_deal (Fold ∷ []) ∷ []) → ⊥
two_hands_of_one are = let within : 2 ≤ 1 = are.within in omega arith

last_act_in_range : IsInRange (Act 9999 255 (Raise 2147483647))
last_act_in_range = (omega arith, omega arith, omega arith)

last_deal_in_range : IsInRange (Deal 9999 first_deal)
last_deal_in_range = omega arith

hand_above_range : IsInRange (Deal 10000 first_deal) → ⊥
hand_above_range below = omega arith

hand_of_an_act_above_range : IsInRange (Act 10000 0 Call) → ⊥
hand_of_an_act_above_range below = let hand : 10000 < 10000 = below.0 in omega arith

index_above_range : IsInRange (Act 0 256 Fold) → ⊥
index_above_range below = let index : 256 < 256 = below.1 in omega arith

amount_above_range : IsInRange (Act 0 0 (Raise 2147483648)) → ⊥
amount_above_range below = let amount : 2147483648 ≤ 2147483647 = below.2 in omega arith

-- Worked hands and lists of commands that pin what is done for a player who is away; each computes.
use Rattle.std.proofs.Common.{◌≡◌, ℕ, ◌<◌, List, [], ◌∷◌, Some, None, refl, arith}
use Rattle.game_def.specs.Game.{Game}
use Rattle.betting.specs.declared.action.Action.{Action}
use Rattle.betting.specs.declared.action.Action.TheVariants.{Fold, Call, Raise}
use Rattle.betting.specs.Rounds.{turns}
use Rattle.betting.specs.Legal.{CanAct}
use Rattle.slot_log.specs.Away.{away_action}
use Rattle.slot_log.specs.Dealer.{hands_of, effect_of, reason_of, Fits, next_away}
use Rattle.slot_log.specs.Played.{deals_of}
use Rattle.slot_log.specs.Range.{IsInRange}
use Rattle.slot_log.specs.declared.command.Command.TheVariants.{Deal, Act, Away}
use Rattle.slot_log.specs.declared.effect.Effect.TheVariants.{Acted, HandOver, MatchOver, None as Nothing}
use Rattle.slot_log.specs.declared.reason.Reason.TheVariants.{MatchDone, NoHand, WrongHand, WrongIndex}
use Rattle.slot_log.proofs.Examples.{opened, limit_game, first_deal, second_deal, hand}

-- what is done after these actions of the hand, newest first
abbrev done : Game → List Action → Action
done game past = away_action game (turns game past)

-- ---- folds where something is faced, and else calls

small_blind_folds : done limit_game [] ≡ Fold
unfolding opened
small_blind_folds = refl

-- two players whose blinds are alike
abbrev even_blinds : Game
even_blinds = record limit_game { blinds = 10 ∷ 10 ∷ [] }

even_blind_calls : done even_blinds [] ≡ Call
unfolding opened
even_blind_calls = refl

big_blind_calls_after_a_call : done limit_game (Call ∷ []) ≡ Call
unfolding opened
big_blind_calls_after_a_call = refl

big_blind_folds_after_a_raise : done limit_game (Raise 20 ∷ []) ≡ Fold
unfolding opened
big_blind_folds_after_a_raise = refl

first_on_the_flop_calls : done limit_game (Call ∷ Call ∷ []) ≡ Call
unfolding opened
first_on_the_flop_calls = refl

second_on_the_flop_folds_after_a_raise : done limit_game (Raise 20 ∷ Call ∷ Call ∷ []) ≡ Fold
unfolding opened
second_on_the_flop_folds_after_a_raise = refl

-- three players, no-limit; the one at position 1 has 150 chips
abbrev short_stack : Game
short_stack = record {
  players = 3;
  stacks = 1000 ∷ 150 ∷ 5000 ∷ [];
  blinds = 50 ∷ 100 ∷ 0 ∷ [];
  raise_sizes = None;
  first_players = 2 ∷ 0 ∷ 0 ∷ 0 ∷ [];
  max_raises = 255 ∷ 255 ∷ 255 ∷ 255 ∷ [];
}

-- a raise over his all-in is faced
raise_over_a_short_all_in_folds : done short_stack (Raise 200 ∷ Raise 150 ∷ Call ∷ Call ∷ []) ≡ Fold
unfolding opened
raise_over_a_short_all_in_folds = refl

-- once it is called nobody faces it, although he has put in less
called_over_a_short_all_in_calls : done short_stack (Call ∷ Raise 200 ∷ Raise 150 ∷ Call ∷ Call ∷ []) ≡ Call
unfolding opened
called_over_a_short_all_in_calls = refl

-- ---- as a command

plays_for_the_small_blind : hands_of limit_game 1 (Away 0 0 ∷ Deal 0 first_deal ∷ []) ≡ hand first_deal (Fold ∷ []) ∷ []
unfolding opened
plays_for_the_small_blind = refl

same_away_twice : hands_of limit_game 1 (Away 0 1 ∷ Away 0 1 ∷ Act 0 0 Call ∷ Deal 0 first_deal ∷ []) ≡ hand first_deal (Call ∷ Call ∷ []) ∷ []
unfolding opened
same_away_twice = refl

call_for_him_acts : effect_of limit_game 1 (hand first_deal (Call ∷ []) ∷ []) (Away 0 1) ≡ Acted
unfolding opened
call_for_him_acts = refl

fold_for_him_ends_the_hand : effect_of limit_game 2 (hand first_deal [] ∷ []) (Away 0 0) ≡ HandOver
unfolding opened
fold_for_him_ends_the_hand = refl

fold_for_him_ends_the_match : effect_of limit_game 1 (hand first_deal [] ∷ []) (Away 0 0) ≡ MatchOver
unfolding opened
fold_for_him_ends_the_match = refl

-- it comes too late for a turn that was taken, and an act too late for one that was played for
away_after_the_act : effect_of limit_game 1 (hand first_deal (Raise 20 ∷ []) ∷ []) (Away 0 0) ≡ Nothing WrongIndex
unfolding opened
away_after_the_act = refl

act_after_the_away : effect_of limit_game 1 (hand first_deal (Call ∷ Call ∷ []) ∷ []) (Act 0 1 (Raise 20)) ≡ Nothing WrongIndex
unfolding opened
act_after_the_away = refl

-- each reason
away_before_the_deal : reason_of limit_game 2 [] (Away 0 0) ≡ Some NoHand
unfolding opened
away_before_the_deal = refl

away_after_the_hand : reason_of limit_game 2 (hand first_deal (Fold ∷ []) ∷ []) (Away 0 1) ≡ Some NoHand
unfolding opened
away_after_the_hand = refl

away_after_the_match : reason_of limit_game 1 (hand first_deal (Fold ∷ []) ∷ []) (Away 0 1) ≡ Some MatchDone
unfolding opened
away_after_the_match = refl

away_of_another_hand : reason_of limit_game 2 (hand first_deal [] ∷ []) (Away 1 1) ≡ Some WrongHand
unfolding opened
away_of_another_hand = refl

away_of_the_next_index : reason_of limit_game 2 (hand first_deal [] ∷ []) (Away 0 1) ≡ Some WrongIndex
unfolding opened
away_of_the_next_index = refl

-- what fits, and a near miss
away_fits : Fits limit_game 1 (hand first_deal (Call ∷ []) ∷ []) (Away 0 1)
unfolding opened CanAct
away_fits = record { goes_on = omega arith; runs = refl; same_hand = refl; next_index = refl; allowed = (0, refl, tt) }

away_of_the_index_before_does_not_fit : Fits limit_game 1 (hand first_deal (Call ∷ []) ∷ []) (Away 0 0) → ⊥
away_of_the_index_before_does_not_fit fits = let next : ◌≡◌ {A = ℕ} 0 1 = fits.next_index in absurd (omega arith)

-- ---- the command for the player to act

nobody_to_play_for : next_away limit_game [] ≡ None
nobody_to_play_for = refl

nobody_after_the_hand : next_away limit_game (hand first_deal (Fold ∷ []) ∷ []) ≡ None
unfolding opened
nobody_after_the_hand = refl

first_turn : next_away limit_game (hand first_deal [] ∷ []) ≡ Some (Away 0 0)
unfolding opened
first_turn = refl

second_turn_of_the_second_hand : next_away limit_game (hand second_deal (Call ∷ []) ∷ hand first_deal (Fold ∷ []) ∷ []) ≡ Some (Away 1 1)
unfolding opened
second_turn_of_the_second_hand = refl

-- ---- no deal, and in range

deals_beside_an_away : deals_of (Deal 1 second_deal ∷ Away 0 0 ∷ Deal 0 first_deal ∷ []) ≡ second_deal ∷ first_deal ∷ []
deals_beside_an_away = refl

last_away_in_range : IsInRange (Away 9999 255)
last_away_in_range = (omega arith, omega arith)

hand_of_an_away_above_range : IsInRange (Away 10000 0) → ⊥
hand_of_an_away_above_range below = let hand : 10000 < 10000 = below.0 in omega arith

index_of_an_away_above_range : IsInRange (Away 0 256) → ⊥
index_of_an_away_above_range below = let index : 256 < 256 = below.1 in omega arith

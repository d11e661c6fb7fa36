-- What the definitions say of small cases, and what they don't: a hand that ends by a fold, and one that ends by an all-in.
use Rattle.std.proofs.Common.{◌≡◌, ℕ, false, List, [], ◌∷◌, codes, Some, None, refl, ap, arith, length, Option}
use Rattle.std.specs.Prelude.{unwrap_or}
use Rattle.std.specs.List.{count_by}
use Rattle.betting.specs.declared.action.Action.{Action}
use Rattle.betting.specs.declared.action.Action.TheVariants.{Fold, Call, Raise}
use Rattle.slot_log.specs.Hand.{Hand}
use Rattle.slot_log.specs.declared.command.Command.{Command}
use Rattle.slot_log.specs.declared.command.Command.TheVariants.{Deal, Act}
use Rattle.matchstate.proofs.Examples.{opened, no_limit_pair, first_deal, second_deal}
use Rattle.seat_relay.specs.Relaying.{Line}
use Rattle.line_cursor.specs.declared.cursor.Cursor.{Cursor}
use Rattle.line_cursor.specs.Past.{hands_at, seat_line_at}
use Rattle.line_cursor.specs.Cursors.{cursor_at, newest_cursor, cursors, is_over_after, next_cursor}
use Rattle.line_cursor.specs.Naming.{is_action_letter, NamesPlace, MayCome, IsNamed}
use Rattle.line_cursor.specs.declared.named_line.NamedLine.TheVariants.{Told}
use Rattle.line_cursor.specs.Laws.{Follow}
use Rattle.line_cursor.specs.Telling.{AreTold}

abbrev hand : List ℕ → List Action → Hand
hand deal past = record { deal = deal; past = past }

-- a first hand that ended by a fold, and a second one in which one player went all in and the other called
abbrev two_hands : List Hand
two_hands = hand second_deal (Call ∷ Raise 20000 ∷ []) ∷ hand first_deal (Fold ∷ []) ∷ []

-- ---- what a match had come to

before_the_fold : hands_at two_hands 0 0 ≡ Some (hand first_deal [] ∷ [])
before_the_fold = refl

after_the_fold : hands_at two_hands 0 1 ≡ Some (hand first_deal (Fold ∷ []) ∷ [])
after_the_fold = refl

after_the_raise : hands_at two_hands 1 1 ≡ Some (hand second_deal (Raise 20000 ∷ []) ∷ hand first_deal (Fold ∷ []) ∷ [])
after_the_raise = refl

newest : hands_at two_hands 1 2 ≡ Some two_hands
newest = refl

no_third_action : hands_at two_hands 1 3 ≡ None
no_third_action = refl

no_third_hand : hands_at two_hands 2 0 ≡ None
no_third_hand = refl

line_before_the_fold : seat_line_at no_limit_pair two_hands 1 0 0 ≡ Some (codes "MATCHSTATE:1:0::|8hTc")
unfolding opened
line_before_the_fold = refl

-- the called all-in shows both hands and the whole board
line_of_the_all_in : seat_line_at no_limit_pair two_hands 0 1 2 ≡ Some (codes "MATCHSTATE:1:1:r20000c///:2d2h|3d3s/4c5c6c/7c/8d")
unfolding opened
line_of_the_all_in = refl

-- ---- places

newest_place : newest_cursor two_hands ≡ Some (cursor_at 1 2)
newest_place = refl

after_a_deal_an_action : next_cursor no_limit_pair two_hands (cursor_at 0 0) ≡ cursor_at 0 1
after_a_deal_an_action = refl

after_a_fold_a_deal : next_cursor no_limit_pair two_hands (cursor_at 0 1) ≡ cursor_at 1 0
unfolding opened
after_a_fold_a_deal = refl

after_a_called_all_in_a_deal : next_cursor no_limit_pair two_hands (cursor_at 1 2) ≡ cursor_at 2 0
unfolding opened
after_a_called_all_in_a_deal = refl

a_raise_ends_no_hand : is_over_after no_limit_pair (hand first_deal (Raise 20000 ∷ []) ∷ []) 0 1 ≡ false
unfolding opened
a_raise_ends_no_hand = refl

-- of commands, newest first: the second copy of the fold has no effect, and so no line
abbrev commands : List Command
commands = Deal 1 second_deal ∷ Act 0 0 Fold ∷ Act 0 0 Fold ∷ Deal 0 first_deal ∷ []

three_places : cursors no_limit_pair 2 commands ≡ cursor_at 0 0 ∷ cursor_at 0 1 ∷ cursor_at 1 0 ∷ []
unfolding opened cursors
three_places = refl

-- a place that is left out makes no row
a_gap_does_not_follow : Follow no_limit_pair two_hands (cursor_at 0 0 ∷ cursor_at 1 0 ∷ []) → ⊥
a_gap_does_not_follow follow = let clash : 1 ≡ 0 = ap (λ (cursor : Cursor). cursor.hand) follow.0 in omega (arith, clash)

-- ---- texts that name a place

five_actions : count_by is_action_letter (codes "r300c/cr600f") ≡ 5
five_actions = refl

abbrev named_text : List ℕ
named_text = codes "MATCHSTATE:1:2:cr300c/:|8hTc/2c8c3h"

names_its_place : NamesPlace named_text (cursor_at 2 3)
unfolding opened
names_its_place = record {
  betting = codes "cr300c/";
  has_fields = record {
    position = codes "1";
    cards = codes "|8hTc/2c8c3h";
    whole = refl;
    position_field = (omega arith, tt);
    hand_field = (omega arith, tt);
    betting_field = (omega arith, (omega arith, (omega arith, (omega arith, (omega arith, (omega arith, (omega arith, tt)))))));
  };
  hand_below = omega arith;
  action_count = refl;
}

-- before the first deal the first line may come, but none of a hand that the match hasn't
the_first_may_come : MayCome no_limit_pair 2 [] 0 (cursor_at 0 0)
the_first_may_come = record { hand_not_over = omega arith; hand_within = omega arith; not_yet = refl }

a_third_hand_of_two_will_not_come : MayCome no_limit_pair 2 two_hands 0 (cursor_at 2 0) → ⊥
a_third_hand_of_two_will_not_come may = let within = may.hand_within in omega arith

what_came_will_not_come : MayCome no_limit_pair 2 two_hands 0 (cursor_at 1 2) → ⊥
unfolding opened
what_came_will_not_come may = let not_yet = may.not_yet in absurd cc

-- the line before the fold was told there, and not after the fold
told_before_the_fold : IsNamed no_limit_pair 2 two_hands 1 (codes "MATCHSTATE:1:0::|8hTc") (Told (cursor_at 0 0))
unfolding opened
told_before_the_fold = refl

not_told_after_the_fold : IsNamed no_limit_pair 2 two_hands 1 (codes "MATCHSTATE:1:0::|8hTc") (Told (cursor_at 0 1)) → ⊥
unfolding opened
not_told_after_the_fold told =
    let longer : ◌≡◌ {A = ℕ} 22 21 = ap (λ (line : Option (List ℕ)). length (unwrap_or line [])) told in
    omega (arith, longer)

-- ---- lines that are told

abbrev one_deal : List Command
one_deal = Deal 0 first_deal ∷ []

abbrev first_line : Line
first_line = record { text = codes "MATCHSTATE:0:0::TdAs|"; place = record { hand = 0; len = 0 } }

the_first_line_is_told : AreTold no_limit_pair 1 0 one_deal (cursor_at 0 0) (first_line ∷ [])
unfolding opened
the_first_line_is_told = (record { earlier = one_deal; is_beginning = ([], refl); view = _; found = refl; line_is = refl }, tt)

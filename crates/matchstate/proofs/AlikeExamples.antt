-- Witnesses of what fits, agrees and is alike for a seat, and near misses.
use Rattle.std.proofs.Common.{◌≡◌, ℕ, zero, suc, ◌+◌, ◌*◌, ◌<◌, Bool, true, false, eqb, List, [], ◌∷◌, take, drop, get_or, Option, Some, None, refl, sym, ap, ◌∙◌, arith, ◌⊎◌, inl, inr}
use Rattle.std.specs.Prelude.{codes, IsTrue}
use Rattle.std.specs.List.{slice_get}
use Rattle.std.proofs.lemmas.Bool.Decides.{nat_tests}
use Rattle.std.proofs.lemmas.List.{drop-drop}
use Rattle.game_def.specs.Game.{Game}
use Rattle.card_core.specs.Deal.{hole_of}
use Rattle.betting.specs.declared.action.Action.TheVariants.{Fold, Call, Raise}
use Rattle.betting.specs.declared.fault.ActFault.TheVariants.{RaiseTooLarge}
use Rattle.betting.specs.Rounds.{turns}
use Rattle.betting.proofs.Legal.{can_act-none, none-can_act}
use Rattle.slot_log.specs.Dealer.{ActFits, hands_of}
use Rattle.slot_log.specs.declared.command.Command.{Command}
use Rattle.slot_log.specs.declared.command.Command.TheVariants.{Deal, Act, Away}
use Rattle.matchstate.specs.View.{view_of, sees, seat_of, position_of}
use Rattle.matchstate.specs.Laws.{IsBeginning, Place, hole, board, card_at, shown_at, Agree, SeatSees, Alike}
use Rattle.matchstate.proofs.Examples.{opened, limit_pair, no_limit_pair, first_deal, like_first_deal, played}

-- ---- acts that fit

call_fits : ActFits limit_pair 1 (played first_deal []) [] 0 0 Call
unfolding opened
call_fits = record { goes_on = omega arith; runs = refl; same_hand = refl; next_index = refl; allowed = none-can_act limit_pair [] Call refl }

next_call_fits : ActFits limit_pair 1 (played first_deal (Call ∷ [])) [] 0 1 Call
unfolding opened
next_call_fits = record { goes_on = omega arith; runs = refl; same_hand = refl; next_index = refl; allowed = none-can_act limit_pair (turns limit_pair (Call ∷ [])) Call refl }

same_index_again_none : ActFits limit_pair 1 (played first_deal (Call ∷ [])) [] 0 0 Call → ⊥
same_index_again_none fits = let next = fits.next_index in absurd (omega arith)

another_hand_none : ActFits limit_pair 1 (played first_deal []) [] 1 0 Call → ⊥
another_hand_none fits = let same = fits.same_hand in absurd (omega arith)

large_raise_none : ActFits limit_pair 1 (played first_deal []) [] 0 0 (Raise 21) → ⊥
unfolding opened
large_raise_none fits = let wrong : Some (RaiseTooLarge 20) ≡ None = can_act-none limit_pair [] (Raise 21) fits.allowed in cc

finished_hand_none : ActFits limit_pair 2 (played first_deal (Fold ∷ [])) [] 0 1 Call → ⊥
unfolding opened
finished_hand_none fits = let runs : ◌≡◌ {A = Bool} true false = fits.runs in cc

finished_match_none : ActFits limit_pair 1 (played first_deal (Fold ∷ [])) [] 0 1 Call → ⊥
unfolding opened
finished_match_none fits = let some = fits.goes_on in absurd (omega arith)

-- ---- views that agree

-- one position's view before an action, the other's behind it: they show no place both
before_and_behind : Agree (view_of limit_pair 0 0 (played first_deal [])) (view_of limit_pair 1 0 (played first_deal (Raise 20 ∷ [])))
unfolding opened
before_and_behind = inr (record { actions = inl (Raise 20 ∷ [], refl); texts = inl (codes "r", refl); cards = apart })
  where
    apart : (place : Place) (card other : ℕ) → shown_at (view_of limit_pair 0 0 (played first_deal [])) place ≡ Some card → shown_at (view_of limit_pair 1 0 (played first_deal (Raise 20 ∷ []))) place ≡ Some other → card ≡ other
    apart (hole zero i) card other shown also = cc
    apart (hole (suc zero) i) card other shown also = cc
    apart (hole (suc (suc p)) i) card other shown also = cc
    apart (board i) card other shown also = cc

-- at a showdown both positions see the same
at_the_showdown : Agree (view_of no_limit_pair 0 0 (played first_deal (Call ∷ Raise 20000 ∷ []))) (view_of no_limit_pair 1 0 (played first_deal (Call ∷ Raise 20000 ∷ [])))
unfolding opened
at_the_showdown = inr (record { actions = inl ([], refl); texts = inl ([], refl); cards = same })
  where
    same : (place : Place) (card other : ℕ) → shown_at (view_of no_limit_pair 0 0 (played first_deal (Call ∷ Raise 20000 ∷ []))) place ≡ Some card → shown_at (view_of no_limit_pair 1 0 (played first_deal (Call ∷ Raise 20000 ∷ []))) place ≡ Some other → card ≡ other
    same (hole p i) card other shown also = cc
    same (board i) card other shown also = cc

other_hands_agree : Agree (view_of limit_pair 0 0 (played first_deal (Fold ∷ []))) (view_of limit_pair 0 1 (played first_deal (Call ∷ [])))
other_hands_agree = inl (λ same. absurd (omega arith))

other_actions_disagree : Agree (view_of limit_pair 0 0 (played first_deal (Call ∷ []))) (view_of limit_pair 0 0 (played first_deal (Raise 20 ∷ []))) → ⊥
unfolding opened
other_actions_disagree (inl apart) = apart refl
other_actions_disagree (inr on_hand) = elim on_hand.texts [
  | inl begins ↦ let first : ◌≡◌ {A = ℕ} 114 99 = ap (λ t. get_or t 0 0) begins.1 in absurd (omega arith)
  | inr begins ↦ let first : ◌≡◌ {A = ℕ} 99 114 = ap (λ t. get_or t 0 0) begins.1 in absurd (omega arith)
]

-- ---- what a seat sees at a showdown

-- both players all-in at once
abbrev all_in : List ℕ → List Command
all_in deal = Act 0 1 Call ∷ Act 0 0 (Raise 20000) ∷ Deal 0 deal ∷ []

-- TdAs|8hTc/2c8c3h/9c/Kh and TdAs|2h2s/2c8c3h/9c/Kh
shown_cards_not_alike : Alike no_limit_pair 1 0 (all_in first_deal) (all_in like_first_deal) → ⊥
unfolding opened
shown_cards_not_alike alike = let same : ◌≡◌ {A = Option ℕ} (Some 26) (Some 2) = alike.1.1.0.2 (hole 1 0) (inl refl) in cc

-- before it they are
abbrev raised : List ℕ → List Command
raised deal = Act 0 0 (Raise 20000) ∷ Deal 0 deal ∷ []

not_seen : (p : ℕ) → IsTrue (sees no_limit_pair (Raise 20000 ∷ []) 0 (suc p)) → ⊥
unfolding opened
not_seen p seen =
    let other : eqb (suc p) 0 ≡ false = grind (arith, nat_tests) in
    let clash : ◌≡◌ {A = Bool} false true = rw other at seen in
    cc

own_cards : (place : Place) → SeatSees no_limit_pair (hands_of no_limit_pair 1 (raised first_deal)) 0 0 place ⊎ SeatSees no_limit_pair (hands_of no_limit_pair 1 (raised like_first_deal)) 0 0 place → card_at first_deal place ≡ card_at like_first_deal place
unfolding opened
own_cards (hole zero i) seen = refl
own_cards (hole (suc p) i) (inl seen) = absurd (not_seen p seen)
own_cards (hole (suc p) i) (inr seen) = absurd (not_seen p seen)
own_cards (board i) (inl seen) = absurd (omega arith)
own_cards (board i) (inr seen) = absurd (omega arith)

alike_before_the_showdown : Alike no_limit_pair 1 0 (raised first_deal) (raised like_first_deal)
unfolding opened
alike_before_the_showdown = ((refl, refl, refl), ((refl, refl, own_cards), tt))

-- so lists may differ for a seat whose beginnings are alike for it
raised_begins : IsBeginning (raised first_deal) (all_in first_deal)
raised_begins = (Act 0 1 Call ∷ [], refl)

-- three players, no-limit, equal stacks
abbrev no_limit_three : Game
no_limit_three = record {
  players = 3;
  stacks = 1000 ∷ 1000 ∷ 1000 ∷ [];
  blinds = 50 ∷ 100 ∷ 0 ∷ [];
  raise_sizes = None;
  first_players = 2 ∷ 0 ∷ 0 ∷ 0 ∷ [];
  max_raises = 255 ∷ 255 ∷ 255 ∷ 255 ∷ [];
}

-- 2c3d|4c5d|6c7d/TsJsQs/Ks/As and 2c3d|4c5d|AcAd/TsJsQs/Ks/As
abbrev deal_of_three : List ℕ
deal_of_three = 0 ∷ 5 ∷ 8 ∷ 13 ∷ 16 ∷ 21 ∷ 35 ∷ 39 ∷ 43 ∷ 47 ∷ 51 ∷ []

abbrev like_deal_of_three : List ℕ
like_deal_of_three = 0 ∷ 5 ∷ 8 ∷ 13 ∷ 48 ∷ 49 ∷ 35 ∷ 39 ∷ 43 ∷ 47 ∷ 51 ∷ []

-- the third player folds, the others go all-in
abbrev two_all_in : List ℕ → List Command
two_all_in deal = Act 0 2 Call ∷ Act 0 1 (Raise 1000) ∷ Act 0 0 Fold ∷ Deal 0 deal ∷ []

-- the cards behind the third player's
later_cards : (p : ℕ) → hole_of deal_of_three (suc (suc (suc p))) ≡ hole_of like_deal_of_three (suc (suc (suc p)))
later_cards p =
    let place : 2 * suc (suc (suc p)) ≡ 6 + 2 * p = omega arith in
    ap (λ n. take 2 (drop n deal_of_three)) place ∙ ap (take 2) (sym (drop-drop (2 * p) 6 deal_of_three))
    ∙ ap (take 2) (drop-drop (2 * p) 6 like_deal_of_three) ∙ ap (λ n. take 2 (drop n like_deal_of_three)) (sym place)

all_but_the_folded : (place : Place) → SeatSees no_limit_three (hands_of no_limit_three 1 (two_all_in deal_of_three)) 0 0 place ⊎ SeatSees no_limit_three (hands_of no_limit_three 1 (two_all_in like_deal_of_three)) 0 0 place → card_at deal_of_three place ≡ card_at like_deal_of_three place
unfolding opened
all_but_the_folded (hole zero i) seen = refl
all_but_the_folded (hole (suc zero) i) seen = refl
all_but_the_folded (hole (suc (suc zero)) i) (inl seen) = cc
all_but_the_folded (hole (suc (suc zero)) i) (inr seen) = cc
all_but_the_folded (hole (suc (suc (suc p))) i) seen = ap (λ cards. slice_get cards i) (later_cards p)
all_but_the_folded (board i) seen = refl

-- nobody sees what was folded
alike_at_the_showdown : Alike no_limit_three 1 0 (two_all_in deal_of_three) (two_all_in like_deal_of_three)
unfolding opened
alike_at_the_showdown = ((refl, refl, refl), ((refl, refl, refl), ((refl, refl, refl), ((refl, refl, all_but_the_folded), tt))))

-- but who folded it
not_alike_for_who_folded : Alike no_limit_three 1 2 (two_all_in deal_of_three) (two_all_in like_deal_of_three) → ⊥
unfolding opened
not_alike_for_who_folded alike = let same : ◌≡◌ {A = Option ℕ} (Some 16) (Some 48) = alike.1.1.1.0.2 (hole 2 0) (inl refl) in cc

-- ---- board cards of rounds that aren't reached

-- TdAs|8hTc/2c8c3h/9d/Kh, with another turn, and TdAs|8hTc/2c8c3s/9c/Kh, with another flop
abbrev other_turn : List ℕ
other_turn = 33 ∷ 51 ∷ 26 ∷ 32 ∷ 0 ∷ 24 ∷ 6 ∷ 29 ∷ 46 ∷ []

abbrev other_flop : List ℕ
other_flop = 33 ∷ 51 ∷ 26 ∷ 32 ∷ 0 ∷ 24 ∷ 7 ∷ 28 ∷ 46 ∷ []

-- the flop is dealt
abbrev to_the_flop : List ℕ → List Command
to_the_flop deal = Act 0 1 Call ∷ Act 0 0 Call ∷ Deal 0 deal ∷ []

no_third : (p : ℕ) → IsTrue (sees limit_pair (Call ∷ Call ∷ []) 0 (suc (suc p))) → ⊥
unfolding opened
no_third p seen =
    let other : eqb (suc (suc p)) 0 ≡ false = grind (arith, nat_tests) in
    let clash : ◌≡◌ {A = Bool} false true = rw other at seen in
    cc

flop_is_the_same : (i : ℕ) → i < 3 → card_at first_deal (board i) ≡ card_at other_turn (board i)
flop_is_the_same zero below = refl
flop_is_the_same (suc zero) below = refl
flop_is_the_same (suc (suc zero)) below = refl
flop_is_the_same (suc (suc (suc i))) below = absurd (omega arith)

all_but_the_turn : (place : Place) → SeatSees limit_pair (hands_of limit_pair 1 (to_the_flop first_deal)) 0 0 place ⊎ SeatSees limit_pair (hands_of limit_pair 1 (to_the_flop other_turn)) 0 0 place → card_at first_deal place ≡ card_at other_turn place
unfolding opened
all_but_the_turn (hole zero i) seen = refl
all_but_the_turn (hole (suc zero) i) seen = refl
all_but_the_turn (hole (suc (suc p)) i) (inl seen) = absurd (no_third p seen)
all_but_the_turn (hole (suc (suc p)) i) (inr seen) = absurd (no_third p seen)
all_but_the_turn (board i) (inl seen) = flop_is_the_same i seen
all_but_the_turn (board i) (inr seen) = flop_is_the_same i seen

alike_but_for_the_turn : Alike limit_pair 1 0 (to_the_flop first_deal) (to_the_flop other_turn)
unfolding opened
alike_but_for_the_turn = ((refl, refl, refl), ((refl, refl, refl), ((refl, refl, all_but_the_turn), tt)))

not_alike_with_another_flop : Alike limit_pair 1 0 (to_the_flop first_deal) (to_the_flop other_flop) → ⊥
unfolding opened
not_alike_with_another_flop alike = let same : ◌≡◌ {A = Option ℕ} (Some 6) (Some 7) = alike.1.1.0.2 (board 2) (inl (omega arith)) in cc

-- an action isn't hidden from anybody
not_alike_with_another_action : Alike limit_pair 1 0 (Act 0 0 Call ∷ Deal 0 first_deal ∷ []) (Act 0 0 Fold ∷ Deal 0 first_deal ∷ []) → ⊥
not_alike_with_another_action alike = let same = alike.0.2 in cc

-- ---- a player who is away

-- bob, who faces the big blind, is away
abbrev played_for : List ℕ → List Command
played_for deal = Away 0 0 ∷ Deal 0 deal ∷ []

-- so he folds, and alice sees her own cards alone
not_seen_after_the_fold : (p : ℕ) → IsTrue (sees limit_pair (Fold ∷ []) 0 (suc p)) → ⊥
unfolding opened
not_seen_after_the_fold p seen =
    let other : eqb (suc p) 0 ≡ false = grind (arith, nat_tests) in
    let clash : ◌≡◌ {A = Bool} false true = rw other at seen in
    cc

own_cards_after_the_fold : (place : Place) → SeatSees limit_pair (hands_of limit_pair 1 (played_for first_deal)) 0 0 place ⊎ SeatSees limit_pair (hands_of limit_pair 1 (played_for like_first_deal)) 0 0 place → card_at first_deal place ≡ card_at like_first_deal place
unfolding opened
own_cards_after_the_fold (hole zero i) seen = refl
own_cards_after_the_fold (hole (suc p) i) (inl seen) = absurd (not_seen_after_the_fold p seen)
own_cards_after_the_fold (hole (suc p) i) (inr seen) = absurd (not_seen_after_the_fold p seen)
own_cards_after_the_fold (board i) (inl seen) = absurd (omega arith)
own_cards_after_the_fold (board i) (inr seen) = absurd (omega arith)

alike_where_one_is_played_for : Alike limit_pair 1 0 (played_for first_deal) (played_for like_first_deal)
unfolding opened
alike_where_one_is_played_for = ((refl, refl), ((refl, refl, own_cards_after_the_fold), tt))

-- whether he acts himself isn't hidden, nor at which turn he is played for
not_alike_with_his_own_fold : Alike limit_pair 1 0 (played_for first_deal) (Act 0 0 Fold ∷ Deal 0 first_deal ∷ []) → ⊥
not_alike_with_his_own_fold alike = alike.0

not_alike_with_another_turn : Alike limit_pair 1 0 (played_for first_deal) (Away 0 1 ∷ Deal 0 first_deal ∷ []) → ⊥
not_alike_with_another_turn alike = absurd (omega (arith, alike.0.1))

-- ---- positions

third_hand_of_seat_0 : position_of 3 2 0 ≡ 1
third_hand_of_seat_0 = refl

third_hand_of_position_1 : seat_of 3 2 1 ≡ 0
third_hand_of_position_1 = refl

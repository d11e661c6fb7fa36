-- The hands that a table's fields hold.
use Rattle.std.proofs.Common.{◌≡◌, ℕ, ◌+◌, ◌≤◌, Bool, true, cond, List, [], ◌∷◌, ◌++◌, map, reverse, length, Option, Some, None, refl, sym, ap, ◌∙◌, subst, IfNone}
use Rattle.std.specs.List.{AllByRecursion}
use Rattle.std.specs.Option.{option_to_list}
use Rattle.game_def.specs.Game.{Game}
use Rattle.betting.specs.Rounds.{over}
use Rattle.betting.specs.Betting.{history}
use Rattle.betting.specs.declared.action.Action.{Action}
use Rattle.slot_log.specs.declared.reason.Reason.TheVariants.{NoHand}
use Rattle.slot_log.specs.Hand.{Match}
use Rattle.slot_log.specs.Dealer.{is_finished, finished_count, act_reason}
use Rattle.slot_log.specs.TableInside.{hands_in, match_of, IsKept}
use Rattle.slot_log.specs.PlayedHand.{hand_of, IsOf}
use Rattle.slot_log.specs.declared.played_hand.PlayedHand.{PlayedHand}
use Rattle.slot_log.specs.declared.table.Table.TheInside.{Inside}
use Rattle.slot_log.specs.Played.{IsLegalHand, AreEarlierFinished, AreHands}
use Rattle.slot_log.proofs.Hands.{finished_before, finished_with, hands_from, reverse-cons}

pub none_dealt : (t : Inside) → IsKept t → t.newest ≡ None → hands_in t ≡ []
none_dealt t kept none =
    let empty : t.earlier.items ≡ [] = let fact : (o : Option PlayedHand) → Type 0 = λ o. IfNone o (t.earlier.items ≡ []) in subst fact none kept.begun in
    rw (none, empty) refl

pub some_dealt : (t : Inside) (hand : PlayedHand) → t.newest ≡ Some hand → hands_in t ≡ hand_of hand ∷ reverse (map hand_of t.earlier.items)
some_dealt t hand some = ap (λ o. map hand_of (option_to_list o) ++ reverse (map hand_of t.earlier.items)) some

pub newest_of : (t : Inside) (hand : PlayedHand) → IsKept t → t.newest ≡ Some hand → IsOf t.game hand
newest_of t hand kept some =
    let fact : (o : Option PlayedHand) → Type 0 = λ o. AllByRecursion (IsOf t.game) (option_to_list o) in
    (subst fact some kept.newest_hand).0

-- what the play says is what the hand says
pub newest_over : (t : Inside) (hand : PlayedHand) (b : Bool) → IsKept t → t.newest ≡ Some hand → b ≡ over hand.play.game (history hand.play) → b ≡ is_finished t.game (hand_of hand)
newest_over t hand b kept some told =
    let same = (newest_of t hand kept some).same_game in
    told ∙ ap (λ game. is_finished game (hand_of hand)) same

pub count_none : (t : Inside) → IsKept t → t.newest ≡ None → finished_count t.game (hands_in t) ≡ t.earlier.len
count_none t kept none =
    let empty : t.earlier.items ≡ [] = let fact : (o : Option PlayedHand) → Type 0 = λ o. IfNone o (t.earlier.items ≡ []) in subst fact none kept.begun in
    let e = ap (finished_count t.game) (none_dealt t kept none) in
    e ∙ sym (t.earlier.ok.0 ∙ ap length empty)

pub count_some : (t : Inside) (hand : PlayedHand) (b : Bool) → IsKept t → t.newest ≡ Some hand → b ≡ over hand.play.game (history hand.play) → finished_count t.game (hands_in t) ≡ cond b 1 0 + t.earlier.len
count_some t hand b kept some told =
    let e = ap (finished_count t.game) (some_dealt t hand some) in
    let f = finished_with t.game (hand_of hand) (reverse (map hand_of t.earlier.items)) in
    let g = finished_before t.game t.earlier.items kept.finished in
    let h = newest_over t hand b kept some told in
    e ∙ f ∙ ap (λ n. cond (is_finished t.game (hand_of hand)) 1 0 + n) (g ∙ sym t.earlier.ok.0) ∙ ap (λ c. cond c 1 0 + t.earlier.len) (sym h)

-- the model's parts
pub hands_are : (t : Inside) (m : Match) → match_of t ≡ m → m.hands ≡ hands_in t
hands_are t m e = ap (λ (n : Match). n.hands) (sym e)

pub game_is : (t : Inside) (m : Match) → match_of t ≡ m → m.game ≡ t.game
game_is t m e = ap (λ (n : Match). n.game) (sym e)

pub finished_none : (t : Inside) (m : Match) → match_of t ≡ m → IsKept t → t.newest ≡ None → t.earlier.len ≡ finished_count m.game m.hands
finished_none t m view kept none = subst (λ (n : Match). t.earlier.len ≡ finished_count n.game n.hands) view (sym (count_none t kept none))

pub finished_some : (t : Inside) (m : Match) (hand : PlayedHand) (b c : Bool) → match_of t ≡ m → IsKept t → t.newest ≡ Some hand → b ≡ over hand.play.game (history hand.play) → b ≡ c → cond c 1 0 + t.earlier.len ≡ finished_count m.game m.hands
finished_some t m hand b c view kept some told is =
    subst (λ (n : Match). cond c 1 0 + t.earlier.len ≡ finished_count n.game n.hands) view
    (ap (λ d. cond d 1 0 + t.earlier.len) (sym is) ∙ sym (count_some t hand b kept some told))

-- why an act doesn't fit, by the fields
pub act_reason_none : (t : Inside) (m : Match) (hand index : ℕ) (action : Action) → match_of t ≡ m → IsKept t → t.newest ≡ None → Some NoHand ≡ act_reason m.game m.hands hand index action
act_reason_none t m hand index action view kept none =
    subst (λ (n : Match). Some NoHand ≡ act_reason n.game n.hands hand index action) view (rw (none_dealt t kept none) refl)

-- ---- what a table's hands are

of_game : (game : Game) (hand : PlayedHand) → IsOf game hand → IsLegalHand game (hand_of hand)
of_game game hand is = record { card_count = is.dealt.count; legal = is.legal }

all_of : (game : Game) (hands : List PlayedHand) → AllByRecursion (IsOf game) hands → AllByRecursion (IsLegalHand game) (map hand_of hands)
all_of game [] all = tt
all_of game (hand ∷ hands) all = (of_game game hand all.0, all_of game hands all.1)

pub all_joined : {X : Type 0} (P : X → Type 0) (xs ys : List X) → AllByRecursion P xs → AllByRecursion P ys → AllByRecursion P (xs ++ ys)
all_joined P [] ys first second = second
all_joined P (x ∷ xs) ys first second = (first.0, all_joined P xs ys first.1 second)

pub all_reversed : {X : Type 0} (P : X → Type 0) (xs : List X) → AllByRecursion P xs → AllByRecursion P (reverse xs)
all_reversed P [] all = tt
all_reversed P (x ∷ xs) all = rw (reverse-cons x xs) (all_joined P (reverse xs) (x ∷ []) (all_reversed P xs all.1) (all.0, tt))

all_finished : (game : Game) (hands : List PlayedHand) → AllByRecursion (λ hand. is_finished game (hand_of hand) ≡ true) hands → AllByRecursion (λ hand. is_finished game hand ≡ true) (map hand_of hands)
all_finished game [] all = tt
all_finished game (hand ∷ hands) all = (all.0, all_finished game hands all.1)

earlier_are : (game : Game) (newest : Option PlayedHand) (earlier : List PlayedHand) → IfNone newest (earlier ≡ []) → AllByRecursion (λ hand. is_finished game (hand_of hand) ≡ true) earlier
    → AreEarlierFinished game (hands_from newest earlier)
earlier_are game None earlier begun all = rw begun tt
earlier_are game (Some hand) earlier begun all = all_reversed (λ hand. is_finished game hand ≡ true) (map hand_of earlier) (all_finished game earlier all)

newest_are : (game : Game) (newest : Option PlayedHand) → AllByRecursion (IsOf game) (option_to_list newest) → AllByRecursion (IsLegalHand game) (map hand_of (option_to_list newest))
newest_are game newest all = all_of game (option_to_list newest) all

pub kept_hands : (t : Inside) → IsKept t → AreHands t.game t.count (hands_in t)
kept_hands t kept = record {
  legal = all_joined (IsLegalHand t.game) (map hand_of (option_to_list t.newest)) (reverse (map hand_of t.earlier.items))
      (newest_are t.game t.newest kept.newest_hand)
      (all_reversed (IsLegalHand t.game) (map hand_of t.earlier.items) (all_of t.game t.earlier.items kept.earlier_hands));
  earlier_finished = earlier_are t.game t.newest t.earlier.items kept.begun kept.finished;
  within = kept.within;
}

pub seen_hands : (t : Inside) (m : Match) → match_of t ≡ m → IsKept t → AreHands m.game m.count m.hands
seen_hands t m view kept = subst (λ (n : Match). AreHands n.game n.count n.hands) view (kept_hands t kept)

pub seen_count : (t : Inside) (m : Match) → match_of t ≡ m → IsKept t → m.count ≤ 10000
seen_count t m view kept = subst (λ (n : Match). n.count ≤ 10000) view kept.most

-- A table keeps its invariant where a hand begins.
use Rattle.std.proofs.Common.{◌≡◌, ℕ, ◌+◌, ◌<◌, ◌≤◌, true, false, not, cond, List, [], ◌∷◌, ◌++◌, map, reverse, length, Option, Some, None, refl, sym, ap, ◌∙◌, subst, arith, IfNone}
use Rattle.std.specs.List.{AllByRecursion}
use Rattle.std.specs.Option.{option_to_list}
use Rattle.std.proofs.lemmas.Bool.{not-false}
use Rattle.std.proofs.lemmas.List.{length-append}
use Rattle.std.proofs.SliceLists.{all_by_recursion_push}
use Rattle.game_def.specs.Game.{Game}
use Rattle.betting.specs.declared.action.Action.{Action}
use Rattle.betting.specs.Laws.{AllowedWithoutFault}
use Rattle.slot_log.specs.Hand.{Hand}
use Rattle.slot_log.specs.Dealer.{is_finished, is_running, finished_count, reason_of}
use Rattle.slot_log.specs.PlayedHand.{hand_of, IsOf}
use Rattle.slot_log.specs.TableInside.{hands_in, IsKept, NewestAllows}
use Rattle.slot_log.specs.declared.command.Command.TheVariants.{Act}
use Rattle.slot_log.specs.declared.played_hand.PlayedHand.{PlayedHand}
use Rattle.slot_log.specs.declared.table.Table.TheInside.{Inside}
use Rattle.slot_log.proofs.Hands.{finished_before, finished_with, length-earlier}
use Rattle.slot_log.proofs.Inside.{some_dealt, newest_of}
use Rattle.slot_log.proofs.Fitting.{fits_from_none}

-- a table with a newest hand
kept_with : (u : Inside) (hand : PlayedHand) → u.newest ≡ Some hand → 1 ≤ u.count → u.count ≤ 10000 → length u.earlier.items + 1 ≤ u.count → AllByRecursion (IsOf u.game) u.earlier.items → IsOf u.game hand → AllByRecursion (λ h. is_finished u.game (hand_of h) ≡ true) u.earlier.items → IsKept u
kept_with u hand some least most room earlier newest finished =
    let dealt = ap length (some_dealt u hand some) in
    let before = length-earlier u.earlier.items in
    let first : (o : Option PlayedHand) → Type 0 = λ o. AllByRecursion (IsOf u.game) (option_to_list o) in
    let second : (o : Option PlayedHand) → Type 0 = λ o. IfNone o (u.earlier.items ≡ []) in
    record {
      least = least;
      most = most;
      within = omega arith;
      earlier_hands = earlier;
      newest_hand = subst first (sym some) (newest, tt);
      begun = subst second (sym some) tt;
      finished = finished;
    }

module _ (t u : Inside) (hand : PlayedHand) (kept : IsKept t) (game : u.game ≡ t.game) (count : u.count ≡ t.count) (newest : u.newest ≡ Some hand) (begins : IsOf u.game hand) where
  pub kept_first : t.newest ≡ None → u.earlier.items ≡ t.earlier.items → IsKept u
  kept_first none items =
      let empty : u.earlier.items ≡ [] = let fact : (o : Option PlayedHand) → Type 0 = λ o. IfNone o (t.earlier.items ≡ []) in items ∙ subst fact none kept.begun in
      let least = kept.least in
      let most = kept.most in
      let length_is = ap length empty in
      kept_with u hand newest (omega arith) (omega arith) (omega arith) (rw empty tt) begins (rw empty tt)

  pub kept_next : (last : PlayedHand) → t.newest ≡ Some last → u.earlier.items ≡ t.earlier.items ++ last ∷ [] → is_running t.game (hands_in t) ≡ false → finished_count t.game (hands_in t) < t.count → IsKept u
  kept_next last some items none_runs goes_on =
      let dealt = some_dealt t last some in
      let stopped : not (is_finished t.game (hand_of last)) ≡ false = rw dealt at none_runs in
      let over : is_finished t.game (hand_of last) ≡ true = not-false (is_finished t.game (hand_of last)) stopped in
      let counted = ap (finished_count t.game) dealt ∙ finished_with t.game (hand_of last) (reverse (map hand_of t.earlier.items)) in
      let before = finished_before t.game t.earlier.items kept.finished in
      let one : ◌≡◌ {A = ℕ} (cond (is_finished t.game (hand_of last)) 1 0) 1 = rw over refl in
      let length_is = ap length items ∙ length-append t.earlier.items (last ∷ []) in
      let least = kept.least in
      let most = kept.most in
      let all_of : AllByRecursion (IsOf t.game) u.earlier.items =
      subst (AllByRecursion (IsOf t.game)) (sym items) (all_by_recursion_push (IsOf t.game) t.earlier.items last kept.earlier_hands (newest_of t last kept some)) in
      let all_over : AllByRecursion (λ h. is_finished t.game (hand_of h) ≡ true) u.earlier.items =
      subst (AllByRecursion (λ h. is_finished t.game (hand_of h) ≡ true)) (sym items) (all_by_recursion_push (λ h. is_finished t.game (hand_of h) ≡ true) t.earlier.items last kept.finished over) in
      kept_with u hand newest (omega arith) (omega arith) (omega arith)
      (subst (λ (g : Game). AllByRecursion (IsOf g) u.earlier.items) (sym game) all_of) begins
      (subst (λ (g : Game). AllByRecursion (λ h. is_finished g (hand_of h) ≡ true) u.earlier.items) (sym game) all_over)

-- an act without a reason against it is allowed
pub newest_allows : AllowedWithoutFault → (game : Game) (count : ℕ) (hands : List Hand) (hand index : ℕ) (action : Action) → reason_of game count hands (Act hand index action) ≡ None → NewestAllows game hands action
newest_allows law game count [] hand index action none = fits_from_none law game count [] (Act hand index action) none
newest_allows law game count (newest ∷ earlier) hand index action none =
    let fits = fits_from_none law game count (newest ∷ earlier) (Act hand index action) none in
    (fits.runs, fits.allowed)

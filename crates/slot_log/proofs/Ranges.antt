-- The hands that commands make, and the ranges of a command that fits them.
use Rattle.std.proofs.Common.{◌≡◌, ℕ, zero, suc, ◌≤◌, true, false, List, [], ◌∷◌, ◌++◌, length, reverse, get_or, Option, Some, None, refl, sym, ap, ◌∙◌, arith}
use Rattle.std.specs.List.{AllByRecursion, slice_get}
use Rattle.std.proofs.lemmas.Bool.{not-false}
use Rattle.std.proofs.lemmas.List.{length-reverse}
use Rattle.game_def.specs.Game.{Game, IsGame, stack_of, most_chips}
use Rattle.betting.specs.declared.action.Action.{Action}
use Rattle.betting.specs.declared.action.Action.TheVariants.{Fold, Call, Raise}
use Rattle.betting.specs.Rounds.{turns}
use Rattle.betting.specs.Legal.{CanAct, Legal}
use Rattle.betting.specs.Laws.{AllowedWithoutFault, HandsEnd, RaisesGoUp}
use Rattle.slot_log.specs.Hand.{Hand}
use Rattle.slot_log.specs.Dealer.{is_finished, is_running, finished_count, ActFits, Fits, act_for, with_action, with_command, hands_of, reason_of}
use Rattle.slot_log.specs.Played.{AreEarlierFinished, AreHands}
use Rattle.slot_log.specs.Range.{IsAmount, IsInRange}
use Rattle.slot_log.specs.declared.limits.TheConstants.{HANDS}
use Rattle.slot_log.specs.Laws.{FitsWithoutReason, CommandsMakeHands, FittingIsInRange, NewestIsFound}
use Rattle.slot_log.specs.declared.command.Command.{Command}
use Rattle.slot_log.specs.declared.command.Command.TheVariants.{Deal, Act, Away}
use Rattle.slot_log.specs.declared.reason.Reason.{Reason}
use Rattle.slot_log.proofs.Hands.{count_all, reverse-cons, at_end}
use Rattle.slot_log.proofs.Fitting.{fits_from_none, none_from_fits}

pub fits_without_reason : AllowedWithoutFault → FitsWithoutReason
fits_without_reason law game count hands command = (none_from_fits law game count hands command, fits_from_none law game count hands command)

-- ---- the hands that commands make

all_finished : (game : Game) (hands : List Hand) → AreEarlierFinished game hands → is_running game hands ≡ false → AllByRecursion (λ hand. is_finished game hand ≡ true) hands
all_finished game [] earlier none_runs = tt
all_finished game (newest ∷ hands) earlier none_runs = (not-false (is_finished game newest) none_runs, earlier)

after_act : (game : Game) (count : ℕ) (newest : Hand) (earlier : List Hand) (hand index : ℕ) (action : Action) → AreHands game count (newest ∷ earlier)
    → ActFits game count newest earlier hand index action → AreHands game count (with_action (newest ∷ earlier) action)
after_act game count newest earlier hand index action are fits = record {
  legal = (record { card_count = are.legal.0.card_count; legal = (are.legal.0.legal, fits.allowed) }, are.legal.1);
  earlier_finished = are.earlier_finished;
  within = are.within;
}

after_fitting : (game : Game) (count : ℕ) (hands : List Hand) (command : Command) → AreHands game count hands → Fits game count hands command → AreHands game count (with_command game hands command)
after_fitting game count hands (Deal hand deal) are fits =
    let finished = all_finished game hands are.earlier_finished fits.none_runs in
    let counted : finished_count game hands ≡ length hands = count_all (is_finished game) hands finished in
    let goes_on = fits.goes_on in
    record {
      legal = (record { card_count = fits.card_count; legal = tt }, are.legal);
      earlier_finished = finished;
      within = omega (arith, counted, goes_on);
    }
after_fitting game count [] (Act hand index action) are fits = absurd fits
after_fitting game count (newest ∷ earlier) (Act hand index action) are fits = after_act game count newest earlier hand index action are fits
after_fitting game count [] (Away hand index) are fits = absurd fits
after_fitting game count (newest ∷ earlier) (Away hand index) are fits =
    after_act game count newest earlier hand index (act_for game (newest ∷ earlier)) are fits

after_reason : AllowedWithoutFault → (game : Game) (count : ℕ) (hands : List Hand) (command : Command) (reason : Option Reason) → reason_of game count hands command ≡ reason → AreHands game count hands
    → AreHands game count (elim reason [ None ↦ with_command game hands command | Some reason ↦ hands ])
after_reason law game count hands command None is are = after_fitting game count hands command are (fits_from_none law game count hands command is)
after_reason law game count hands command (Some reason) is are = are

pub commands_make_hands : AllowedWithoutFault → CommandsMakeHands
unfolding hands_of
commands_make_hands law game count [] = record { legal = tt; earlier_finished = tt; within = omega arith }
commands_make_hands law game count (command ∷ earlier) =
    after_reason law game count (hands_of game count earlier) command (reason_of game count (hands_of game count earlier) command) refl (commands_make_hands law game count earlier)

-- ---- the ranges

at_most : (most : ℕ) (xs : List ℕ) (i : ℕ) → AllByRecursion (λ x. x ≤ most) xs → get_or xs i 0 ≤ most
at_most most [] i all = omega arith
at_most most (x ∷ xs) zero all = all.0
at_most most (x ∷ xs) (suc i) all = at_most most xs i all.1

amount_fits : RaisesGoUp → (game : Game) (past : List Action) (action : Action) → IsGame game → Legal game past → CanAct game (turns game past) action → IsAmount action
unfolding CanAct
amount_fits law game past Fold is_game legal can = tt
amount_fits law game past Call is_game legal can = tt
amount_fits law game past (Raise amount) is_game legal can =
    let within : amount ≤ stack_of game can.0 = (law game past can.0 amount is_game legal can.1 can).1 in
    let most : stack_of game can.0 ≤ most_chips = at_most most_chips game.stacks can.0 is_game.stacks_fit in
    omega (arith, within, most)

act_in_range : HandsEnd → RaisesGoUp → (game : Game) (count : ℕ) (newest : Hand) (earlier : List Hand) (hand index : ℕ) (action : Action) → IsGame game → count ≤ HANDS
    → AreHands game count (newest ∷ earlier) → ActFits game count newest earlier hand index action → IsInRange (Act hand index action)
act_in_range ends up game count newest earlier hand index action is_game few are fits =
    let same_hand : hand ≡ length earlier = fits.same_hand in
    let next_index : index ≡ length newest.past = fits.next_index in
    let within : suc (length earlier) ≤ count = are.within in
    let acts : suc (length newest.past) ≤ 256 = ends game (action ∷ newest.past) is_game (are.legal.0.legal, fits.allowed) in
    (omega (arith, few, same_hand, within), omega (arith, next_index, acts), amount_fits up game newest.past action is_game are.legal.0.legal fits.allowed)

pub fitting_is_in_range : HandsEnd → RaisesGoUp → FittingIsInRange
fitting_is_in_range ends up game count hands (Deal hand deal) is_game few are fits =
    let next = fits.next_hand in
    let goes_on = fits.goes_on in
    omega (arith, few, next, goes_on)
fitting_is_in_range ends up game count [] (Act hand index action) is_game few are fits = absurd fits
fitting_is_in_range ends up game count (newest ∷ earlier) (Act hand index action) is_game few are fits = act_in_range ends up game count newest earlier hand index action is_game few are fits
fitting_is_in_range ends up game count [] (Away hand index) is_game few are fits = absurd fits
fitting_is_in_range ends up game count (newest ∷ earlier) (Away hand index) is_game few are fits =
    let within = act_in_range ends up game count newest earlier hand index (act_for game (newest ∷ earlier)) is_game few are fits in
    (within.0, within.1)

-- ---- the newest hand

pub newest_is_found : NewestIsFound
newest_is_found newest earlier =
    ap (λ hands. slice_get hands (length earlier)) (reverse-cons newest earlier)
    ∙ ap (λ place. slice_get (reverse earlier ++ newest ∷ []) place) (sym (length-reverse earlier))
    ∙ at_end (reverse earlier) newest

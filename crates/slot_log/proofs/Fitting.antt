-- A command fits exactly where there is no reason against it.
use Rattle.std.proofs.Common.{◌≡◌, ℕ, ◌+◌, ◌*◌, false, not, eqb, leb, List, [], ◌∷◌, length, Option, Some, None, refl, arith}
use Rattle.std.specs.Option.{option_map}
use Rattle.std.proofs.lemmas.Bool.Decides.{nat_tests}
use Rattle.game_def.specs.Game.{Game}
use Rattle.betting.specs.declared.action.Action.{Action}
use Rattle.betting.specs.declared.fault.ActFault.{ActFault}
use Rattle.betting.specs.Rounds.{turns}
use Rattle.betting.specs.Legal.{fault_of}
use Rattle.slot_log.specs.Hand.{Hand}
use Rattle.slot_log.specs.Dealer.{ActFits, Fits, act_for, finished_count, is_finished, is_running, reason_of}
use Rattle.slot_log.specs.declared.command.Command.{Command}
use Rattle.slot_log.specs.declared.command.Command.TheVariants.{Deal, Act, Away}
use Rattle.slot_log.specs.declared.reason.Reason.TheVariants.{MatchDone, NoHand, HandRunning, WrongHand, WrongIndex, WrongCards, Illegal}
use Rattle.betting.specs.Laws.{AllowedWithoutFault}
use Rattle.slot_log.proofs.Allowed.{past_test}

pub no_reason : (fault : Option ActFault) → option_map Illegal fault ≡ None → fault ≡ None
no_reason None e = refl
no_reason (Some fault) e = cc

act_from_none : AllowedWithoutFault → (game : Game) (count : ℕ) (newest : Hand) (earlier : List Hand) (hand index : ℕ) (action : Action)
    → reason_of game count (newest ∷ earlier) (Act hand index action) ≡ None → ActFits game count newest earlier hand index action
act_from_none law game count newest earlier hand index action none =
    let first = past_test (leb count (finished_count game (newest ∷ earlier))) MatchDone _ none in
    let second = past_test (is_finished game newest) NoHand _ first.1 in
    let third = past_test (not (eqb hand (length earlier))) WrongHand _ second.1 in
    let fourth = past_test (not (eqb index (length newest.past))) WrongIndex _ third.1 in
    let f1 : leb count (finished_count game (newest ∷ earlier)) ≡ false = first.0 in
    let f3 : not (eqb hand (length earlier)) ≡ false = third.0 in
    let f4 : not (eqb index (length newest.past)) ≡ false = fourth.0 in
    record {
      goes_on = grind (arith, nat_tests);
      runs = second.0;
      same_hand = grind (arith, nat_tests);
      next_index = grind (arith, nat_tests);
      allowed = (law game (turns game newest.past) action).1 (no_reason _ fourth.1);
    }

pub fits_from_none : AllowedWithoutFault → (game : Game) (count : ℕ) (hands : List Hand) (command : Command) → reason_of game count hands command ≡ None → Fits game count hands command
fits_from_none law game count hands (Deal hand deal) none =
    let first = past_test (leb count (finished_count game hands)) MatchDone _ none in
    let second = past_test (is_running game hands) HandRunning _ first.1 in
    let third = past_test (not (eqb hand (finished_count game hands))) WrongHand _ second.1 in
    let fourth = past_test (not (eqb (length deal) (2 * game.players + 5))) WrongCards _ third.1 in
    let f1 : leb count (finished_count game hands) ≡ false = first.0 in
    let f3 : not (eqb hand (finished_count game hands)) ≡ false = third.0 in
    let f4 : not (eqb (length deal) (2 * game.players + 5)) ≡ false = fourth.0 in
    record {
      goes_on = grind (arith, nat_tests);
      none_runs = second.0;
      next_hand = grind (arith, nat_tests);
      card_count = grind (arith, nat_tests);
    }
fits_from_none law game count [] (Act hand index action) none =
    let first = past_test (leb count (finished_count game [])) MatchDone _ none in
    let rest = first.1 in
    cc
fits_from_none law game count (newest ∷ earlier) (Act hand index action) none = act_from_none law game count newest earlier hand index action none
fits_from_none law game count [] (Away hand index) none =
    let first = past_test (leb count (finished_count game [])) MatchDone _ none in
    let rest = first.1 in
    cc
fits_from_none law game count (newest ∷ earlier) (Away hand index) none =
    act_from_none law game count newest earlier hand index (act_for game (newest ∷ earlier)) none

none_from_act : AllowedWithoutFault → (game : Game) (count : ℕ) (newest : Hand) (earlier : List Hand) (hand index : ℕ) (action : Action)
    → ActFits game count newest earlier hand index action → reason_of game count (newest ∷ earlier) (Act hand index action) ≡ None
none_from_act law game count newest earlier hand index action fits =
    let goes_on = fits.goes_on in
    let same_hand = fits.same_hand in
    let next_index = fits.next_index in
    let f1 : leb count (finished_count game (newest ∷ earlier)) ≡ false = grind (arith, nat_tests) in
    let f2 : is_finished game newest ≡ false = fits.runs in
    let f3 : not (eqb hand (length earlier)) ≡ false = grind (arith, nat_tests) in
    let f4 : not (eqb index (length newest.past)) ≡ false = grind (arith, nat_tests) in
    let f5 : fault_of game (turns game newest.past) action ≡ None = (law game (turns game newest.past) action).0 fits.allowed in
    rw (f1, f2, f3, f4, f5) refl

pub none_from_fits : AllowedWithoutFault → (game : Game) (count : ℕ) (hands : List Hand) (command : Command) → Fits game count hands command → reason_of game count hands command ≡ None
none_from_fits law game count hands (Deal hand deal) fits =
    let goes_on = fits.goes_on in
    let next_hand = fits.next_hand in
    let card_count = fits.card_count in
    let f1 : leb count (finished_count game hands) ≡ false = grind (arith, nat_tests) in
    let f2 : is_running game hands ≡ false = fits.none_runs in
    let f3 : not (eqb hand (finished_count game hands)) ≡ false = grind (arith, nat_tests) in
    let f4 : not (eqb (length deal) (2 * game.players + 5)) ≡ false = grind (arith, nat_tests) in
    rw (f1, f2, f3, f4) refl
none_from_fits law game count [] (Act hand index action) fits = absurd fits
none_from_fits law game count (newest ∷ earlier) (Act hand index action) fits = none_from_act law game count newest earlier hand index action fits
none_from_fits law game count [] (Away hand index) fits = absurd fits
none_from_fits law game count (newest ∷ earlier) (Away hand index) fits =
    none_from_act law game count newest earlier hand index (act_for game (newest ∷ earlier)) fits

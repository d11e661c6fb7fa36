-- The hands of a list of commands that ends the match are played by the rules to their end.
use Rattle.std.proofs.Common.{◌≡◌, ℕ, ◌≤◌, Bool, true, false, cond, List, [], ◌∷◌, length, Option, Some, None, refl, ap, subst, arith}
use Rattle.std.specs.List.{AllByRecursion}
use Rattle.std.proofs.lemmas.Bool.{not-false}
use Rattle.std.proofs.lemmas.Bool.Decides.{nat_tests}
use Rattle.std.proofs.lemmas.List.Sums.{sum_by-cons}
use Rattle.game_def.specs.Game.{Game}
use Rattle.card_core.specs.Deal.{IsDeal, player_count}
use Rattle.betting.specs.declared.action.Action.{Action}
use Rattle.betting.specs.Legal.{Legal}
use Rattle.betting.specs.Laws.{AllowedWithoutFault}
use Rattle.slot_log.specs.Hand.{Hand}
use Rattle.slot_log.specs.Dealer.{is_finished, finished_count, is_running, hands_of, reason_of, act_for, with_action, with_command, ActFits}
use Rattle.slot_log.specs.declared.command.Command.{Command}
use Rattle.slot_log.specs.declared.command.Command.TheVariants.{Deal, Act, Away}
use Rattle.slot_log.specs.declared.reason.Reason.{Reason}
use Rattle.match_log.specs.Check.{DealsFairly, IsPlayed}
use Rattle.match_log.specs.Verdict.{HandsEndFinished}
use Rattle.match_log.proofs.SoFar.{finished_all}
use Rattle.slot_log.proofs.Fitting.{fits_from_none}

-- dealt, and legal so far
pub record IsBegun (game : Game) (hand : Hand) : Type 0 where
  pub dealt : IsDeal game.players hand.deal
  pub legal : Legal game hand.past

-- all but the newest are played to their end
abbrev AreInOrder : Game → List Hand → Type 0
AreInOrder game [] = Unit {0}
AreInOrder game (newest ∷ earlier) = IsBegun game newest × AllByRecursion (IsPlayed game) earlier

-- and there are no more than the match has
record IsCourse (game : Game) (count : ℕ) (hands : List Hand) : Type 0 where
  in_order : AreInOrder game hands
  few : length hands ≤ count

-- where no hand runs all are played to their end
all_played : (game : Game) (hands : List Hand) → AreInOrder game hands → is_running game hands ≡ false → AllByRecursion (IsPlayed game) hands
all_played game [] in_order none_runs = tt
all_played game (newest ∷ earlier) in_order none_runs =
    (record { dealt = in_order.0.dealt; legal = in_order.0.legal; finished = not-false (is_finished game newest) none_runs }, in_order.1)

act_fits : (game : Game) (count : ℕ) (newest : Hand) (earlier : List Hand) (number index : ℕ) (action : Action) → ActFits game count newest earlier number index action
    → IsCourse game count (newest ∷ earlier) → IsCourse game count (with_action (newest ∷ earlier) action)
act_fits game count newest earlier number index action fits course =
    let few = course.few in
    record {
      in_order = (record { dealt = course.in_order.0.dealt; legal = (course.in_order.0.legal, fits.allowed) }, course.in_order.1);
      few = omega arith;
    }

command_fits : AllowedWithoutFault → (game : Game) (count : ℕ) (hands : List Hand) (command : Command) → DealsFairly command → reason_of game count hands command ≡ None → IsCourse game count hands → IsCourse game count (with_command game hands command)
command_fits law game count hands (Deal number deal) fair none course =
    let fits = fits_from_none law game count hands (Deal number deal) none in
    let before : AllByRecursion (IsPlayed game) hands = all_played game hands course.in_order fits.none_runs in
    let players : player_count deal ≡ game.players = omega (arith, fits.card_count) in
    record {
      in_order = (record { dealt = subst (λ (n : ℕ). IsDeal n deal) players fair; legal = tt }, before);
      few = omega (arith, fits.goes_on, finished_all game hands before);
    }
command_fits law game count [] (Act number index action) fair none course = absurd (fits_from_none law game count [] (Act number index action) none)
command_fits law game count (newest ∷ earlier) (Act number index action) fair none course =
    act_fits game count newest earlier number index action (fits_from_none law game count (newest ∷ earlier) (Act number index action) none) course
command_fits law game count [] (Away number index) fair none course = absurd (fits_from_none law game count [] (Away number index) none)
command_fits law game count (newest ∷ earlier) (Away number index) fair none course =
    act_fits game count newest earlier number index (act_for game (newest ∷ earlier)) (fits_from_none law game count (newest ∷ earlier) (Away number index) none) course

course_of : (law : AllowedWithoutFault) (game : Game) (count : ℕ) (commands : List Command) → AllByRecursion DealsFairly commands → IsCourse game count (hands_of game count commands)
unfolding hands_of
course_of law game count [] fair = record { in_order = tt; few = omega arith }
course_of law game count (command ∷ earlier) fair = by (course_of law game count earlier fair.1) (reason_of game count (hands_of game count earlier) command) refl
  where
    by : IsCourse game count (hands_of game count earlier) → (reason : Option Reason) → reason_of game count (hands_of game count earlier) command ≡ reason → IsCourse game count (elim reason [ None ↦ with_command game (hands_of game count earlier) command | Some why ↦ hands_of game count earlier ])
    by before None e = command_fits law game count (hands_of game count earlier) command fair.0 e before
    by before (Some why) e = before

-- where as many are finished as the match has, the newest is
finished_newest : (game : Game) (count : ℕ) (hands : List Hand) → IsCourse game count hands → count ≤ finished_count game hands → AllByRecursion (IsPlayed game) hands × (length hands ≡ count)
finished_newest game count [] course over = (tt, let few = course.few in let none : finished_count game [] ≡ 0 = refl in omega arith)
finished_newest game count (newest ∷ earlier) course over =
    by (is_finished game newest) refl
  where
    by : (b : Bool) → is_finished game newest ≡ b → AllByRecursion (IsPlayed game) (newest ∷ earlier) × (length (newest ∷ earlier) ≡ count)
    by true e =
        let one : ◌≡◌ {A = ℕ} (cond (is_finished game newest) 1 0) 1 = ap (λ (b : Bool). cond b 1 0) e in (
          (record { dealt = course.in_order.0.dealt; legal = course.in_order.0.legal; finished = e }, course.in_order.1),
          omega (arith, course.few, over, one, sum_by-cons (λ (h : Hand). cond (is_finished game h) 1 0) newest earlier, finished_all game earlier course.in_order.1),
        )
    by false e =
        let none : ◌≡◌ {A = ℕ} (cond (is_finished game newest) 1 0) 0 = ap (λ (b : Bool). cond b 1 0) e in
        absurd (omega (arith, course.few, over, none, sum_by-cons (λ (h : Hand). cond (is_finished game h) 1 0) newest earlier, finished_all game earlier course.in_order.1))

pub hands_end_finished : AllowedWithoutFault → HandsEndFinished
hands_end_finished law game count commands fair over =
    let enough : count ≤ finished_count game (hands_of game count commands) = grind (arith, nat_tests) in
    finished_newest game count (hands_of game count commands) (course_of law game count commands fair) enough

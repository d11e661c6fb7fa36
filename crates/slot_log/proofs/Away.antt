-- What is done for a player who is away.
use Rattle.std.proofs.Common.{◌≡◌, ℕ, suc, ◌<◌, ◌≤◌, Bool, true, false, cond, if◌then◌else◌, List, [], ◌∷◌, length, Option, Some, None, refl, sym, ap, ◌∙◌, subst, arith}
use Rattle.std.specs.Prelude.{nat_lt}
use Rattle.std.specs.Option.{option_map}
use Rattle.std.proofs.lemmas.Bool.{ltb-true}
use Rattle.game_def.specs.Game.{Game, IsGame}
use Rattle.betting.specs.declared.action.Action.{Action}
use Rattle.betting.specs.declared.action.Action.TheVariants.{Fold, Call}
use Rattle.betting.specs.declared.fault.ActFault.{ActFault}
use Rattle.betting.specs.declared.fault.ActFault.TheVariants.{Finished, FoldNotFacing}
use Rattle.betting.specs.Turns.{Turn, max_spent, spent}
use Rattle.betting.specs.Rounds.{over, to_act, turns}
use Rattle.betting.specs.Legal.{CanAct, Legal, fault_at, fault_of}
use Rattle.betting.specs.Laws.{AllowedWithoutFault, SomebodyMayCall}
use Rattle.slot_log.specs.Away.{away_action}
use Rattle.slot_log.specs.Hand.{Hand}
use Rattle.slot_log.specs.Dealer.{Fits, is_finished, finished_count}
use Rattle.slot_log.specs.Played.{AreHands}
use Rattle.slot_log.specs.Laws.{AwayIsNeverIllegal, NextAwayFits, NoOtherAwayFits}
use Rattle.slot_log.specs.declared.command.Command.{Command}
use Rattle.slot_log.specs.declared.command.Command.TheVariants.{Away}
use Rattle.slot_log.specs.declared.reason.Reason.TheVariants.{MatchDone, NoHand, WrongHand, WrongIndex, Illegal}
use Rattle.slot_log.proofs.Hands.{count_all, finished_with}

away_by : (game : Game) (past : List Turn) (position : ℕ) (b : Bool) → nat_lt (spent game past position) (max_spent game past) ≡ b → to_act game past ≡ Some position
    → CanAct game past (if b then Fold else Call)
unfolding CanAct
away_by game past position true e is = (position, is, ltb-true (spent game past position) (max_spent game past) e)
away_by game past position false e is = (position, is, tt)

-- what is done by what would be wrong with a fold
abbrev pub unless_wrong : Option ActFault → Action
unless_wrong None = Fold
unless_wrong (Some fault) = Call

by_test : (b : Bool) → (if b then Fold else Call) ≡ unless_wrong (if b then None else Some FoldNotFacing)
by_test true = refl
by_test false = refl

by_position : (game : Game) (past : List Turn) (o : Option ℕ)
    → ◌≡◌ {A = Action} (elim o [ None ↦ Call | Some position ↦ if nat_lt (spent game past position) (max_spent game past) then Fold else Call ])
    (unless_wrong (elim o [ None ↦ Some Finished | Some position ↦ fault_at game past position Fold ]))
unfolding fault_at
by_position game past None = refl
by_position game past (Some position) = by_test (nat_lt (spent game past position) (max_spent game past))

pub by_fault : (game : Game) (past : List Turn) → away_action game past ≡ unless_wrong (fault_of game past Fold)
unfolding fault_of
by_fault game past = by_position game past (to_act game past)

-- in a hand that isn't over it is allowed
pub away_allowed : SomebodyMayCall → (game : Game) (past : List Action) → IsGame game → Legal game past → over game (turns game past) ≡ false
    → CanAct game (turns game past) (away_action game (turns game past))
unfolding CanAct
away_allowed law game past is_game legal runs =
    let can = law game past is_game legal runs in
    let pick : Option ℕ → Action =
    λ o. elim o [ None ↦ Call | Some position ↦ if nat_lt (spent game (turns game past) position) (max_spent game (turns game past)) then Fold else Call ] in
    subst (CanAct game (turns game past)) (sym (ap pick can.1)) (away_by game (turns game past) can.0 _ refl can.1)

-- the hand that runs is one that the match goes on with
goes_on : (game : Game) (count : ℕ) (newest : Hand) (earlier : List Hand) → AreHands game count (newest ∷ earlier) → is_finished game newest ≡ false
    → finished_count game (newest ∷ earlier) < count
goes_on game count newest earlier are runs =
    let none : ◌≡◌ {A = ℕ} (cond (is_finished game newest) 1 0) 0 = rw runs refl in
    let within : suc (length earlier) ≤ count = are.within in
    omega (arith, finished_with game newest earlier, none, count_all (is_finished game) earlier are.earlier_finished, within)

next_by : SomebodyMayCall → (game : Game) (count : ℕ) (newest : Hand) (earlier : List Hand) (command : Command) (b : Bool) → is_finished game newest ≡ b → IsGame game
    → AreHands game count (newest ∷ earlier) → ◌≡◌ {A = Option Command} (if b then None else Some (Away (length earlier) (length newest.past))) (Some command)
    → Fits game count (newest ∷ earlier) command
next_by law game count newest earlier command true runs is_game are is = absurd cc
next_by law game count newest earlier command false runs is_game are is =
    let same : Away (length earlier) (length newest.past) ≡ command = cc in
    subst (Fits game count (newest ∷ earlier)) same (record {
      goes_on = goes_on game count newest earlier are runs;
      runs = runs;
      same_hand = refl;
      next_index = refl;
      allowed = away_allowed law game newest.past is_game are.legal.0.legal runs;
    })

pub next_away_fits : SomebodyMayCall → NextAwayFits
next_away_fits law game count [] command is_game are is = absurd cc
next_away_fits law game count (newest ∷ earlier) command is_game are is = next_by law game count newest earlier command (is_finished game newest) refl is_game are is

pub no_other_away_fits : NoOtherAwayFits
no_other_away_fits game count [] hand index fits = absurd fits
no_other_away_fits game count (newest ∷ earlier) hand index fits =
    let runs : is_finished game newest ≡ false = fits.runs in
    let hand_is : hand ≡ length earlier = fits.same_hand in
    let index_is : index ≡ length newest.past = fits.next_index in
    rw runs (ap (λ n. Some (Away n (length newest.past))) (sym hand_is) ∙ ap (λ n. Some (Away hand n)) (sym index_is))

-- a chain of tests that ends in a fault has passed all others
illegal_by : (match_over finished hand index : Bool) (fault : Option ActFault) (found : ActFault)
    → (if match_over then Some MatchDone else (if finished then Some NoHand else (if hand then Some WrongHand else (if index then Some WrongIndex else option_map Illegal fault)))) ≡ Some (Illegal found)
    → (finished ≡ false) × (fault ≡ Some found)
illegal_by true finished hand index fault found e = absurd cc
illegal_by false true hand index fault found e = absurd cc
illegal_by false false true index fault found e = absurd cc
illegal_by false false false true fault found e = absurd cc
illegal_by false false false false None found e = absurd cc
illegal_by false false false false (Some fault) found e = let same : fault ≡ found = cc in (refl, ap Some same)

pub away_is_never_illegal : AllowedWithoutFault → SomebodyMayCall → AwayIsNeverIllegal
away_is_never_illegal without law game count [] hand index fault is_game are e = absurd (no_hand _ e)
  where
    no_hand : (b : Bool) → (if b then Some MatchDone else Some NoHand) ≡ Some (Illegal fault) → ⊥
    no_hand true e = cc
    no_hand false e = cc
away_is_never_illegal without law game count (newest ∷ earlier) hand index fault is_game are e =
    let found = illegal_by _ (is_finished game newest) _ _ (fault_of game (turns game newest.past) (away_action game (turns game newest.past))) fault e in
    let none = (without game (turns game newest.past) (away_action game (turns game newest.past))).0
    (away_allowed law game newest.past is_game are.legal.0.legal found.0) in
    let clash : ◌≡◌ {A = Option ActFault} None (Some fault) = sym none ∙ found.1 in cc

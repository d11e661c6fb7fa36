-- All hands but the newest are finished, whatever the commands.
use Rattle.std.proofs.Common.{◌≡◌, ℕ, suc, List, [], ◌∷◌, length, Some, None, refl, arith, true, false, cond}
use Rattle.std.proofs.lemmas.Bool.{not-false}
use Rattle.std.proofs.lemmas.List.Sums.{sum_by-cons}
use Rattle.game_def.specs.Game.{Game}
use Rattle.slot_log.specs.Hand.{Hand}
use Rattle.slot_log.specs.Dealer.{is_finished, finished_count, is_running, is_match_over, deal_reason, reason_of, with_command, hands_after}
use Rattle.slot_log.specs.declared.command.Command.{Command}
use Rattle.slot_log.specs.declared.command.Command.TheVariants.{Deal, Act, Away}
use Rattle.slot_log.proofs.Allowed.{past_test}

pub finished_more : (game : Game) (newest : Hand) (earlier : List Hand) → is_finished game newest ≡ true → finished_count game (newest ∷ earlier) ≡ suc (finished_count game earlier)
finished_more game newest earlier ended =
    let one : ◌≡◌ {A = ℕ} (cond (is_finished game newest) 1 0) 1 = rw ended refl in
    omega (arith, sum_by-cons (λ hand. cond (is_finished game hand) 1 0) newest earlier)

-- all hands but the newest are finished
abbrev pub EarlierOver : Game → List Hand → Type 0
EarlierOver game [] = Unit {0}
EarlierOver game (newest ∷ earlier) = finished_count game earlier ≡ length earlier

-- where none runs all are
pub all_over : (game : Game) (hands : List Hand) → EarlierOver game hands → is_running game hands ≡ false → finished_count game hands ≡ length hands
all_over game [] over none = refl
all_over game (newest ∷ earlier) over none =
    let more = finished_more game newest earlier (not-false (is_finished game newest) none) in
    omega arith

-- no hand runs where one is dealt
pub none_runs : (game : Game) (count : ℕ) (hands : List Hand) (hand : ℕ) (deal : List ℕ) → reason_of game count hands (Deal hand deal) ≡ None → is_running game hands ≡ false
none_runs game count hands hand deal fits = (past_test (is_running game hands) _ _ (past_test (is_match_over game count hands) _ (deal_reason game hands hand deal) fits).1).0

over_with : (game : Game) (count : ℕ) (hands : List Hand) (command : Command) → EarlierOver game hands → reason_of game count hands command ≡ None → EarlierOver game (with_command game hands command)
over_with game count hands (Deal hand deal) over fits = all_over game hands over (none_runs game count hands hand deal fits)
over_with game count [] (Act hand index action) over fits = tt
over_with game count (newest ∷ earlier) (Act hand index action) over fits = over
over_with game count [] (Away hand index) over fits = tt
over_with game count (newest ∷ earlier) (Away hand index) over fits = over

pub over_after : (game : Game) (count : ℕ) (hands : List Hand) (command : Command) → EarlierOver game hands → EarlierOver game (hands_after game count hands command)
over_after game count hands command over =
    elim (reason_of game count hands command) as (λ r. reason_of game count hands command ≡ r → EarlierOver game (elim r [ None ↦ with_command game hands command | Some reason ↦ hands ])) [
      | None ↦ λ fits. over_with game count hands command over fits
      | Some reason ↦ λ does_nothing. over
    ] refl

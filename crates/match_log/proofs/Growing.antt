-- What each command adds to the log, and so that it only grows.
use Rattle.std.proofs.Common.{◌≡◌, ℕ, suc, List, [], ◌∷◌, ◌++◌, length, sym, ◌∙◌, ap, refl, append_assoc, arith, true, false, not, cond}
use Rattle.std.specs.Prelude.{Option, Some, None, is_none, nat_le}
use Rattle.std.specs.List.{flat_map}
use Rattle.std.specs.Option.{option_to_list}
use Rattle.std.proofs.lemmas.Bool.{lt-leb}
use Rattle.std.proofs.lemmas.List.{append-nil}
use Rattle.std.proofs.lemmas.List.Sums.{sum_by-cons}
use Rattle.game_def.specs.Game.{Game}
use Rattle.betting.specs.declared.action.Action.{Action}
use Rattle.slot_log.specs.Hand.{Hand}
use Rattle.slot_log.specs.Dealer.{is_finished, finished_count, is_match_over, reason_of, deal_reason, act_reason, act_for, hands_of, with_action, with_command}
use Rattle.slot_log.specs.declared.command.Command.{Command}
use Rattle.slot_log.specs.declared.command.Command.TheVariants.{Deal, Act, Away}
use Rattle.slot_log.specs.declared.reason.Reason.{Reason}
use Rattle.match_log.specs.Lines.{header_line, state_line, score_line}
use Rattle.match_log.specs.Log.{Title, state_lines, log_of, log_lines}
use Rattle.match_log.specs.Further.{last_line, score_of, further_lines, log_added}
use Rattle.match_log.specs.Laws.{LogsGrow, CommandsAddToTheLog, LogsBeginWithTheirHeader}
use Rattle.matchstate.proofs.Seats.{newest_at}
use Rattle.matchstate.proofs.Earlier.{finished_more, EarlierOver, all_over, none_runs, over_after}
use Rattle.slot_log.proofs.Allowed.{past_test}

-- ---- how many hands are finished

finished_same : (game : Game) (newest : Hand) (earlier : List Hand) → is_finished game newest ≡ false → finished_count game (newest ∷ earlier) ≡ finished_count game earlier
finished_same game newest earlier runs =
    let none : ◌≡◌ {A = ℕ} (cond (is_finished game newest) 1 0) 0 = rw runs refl in
    omega (arith, sum_by-cons (λ hand. cond (is_finished game hand) 1 0) newest earlier)

-- ---- why a command fits

-- the match goes on
goes_on : (game : Game) (count : ℕ) (hands : List Hand) (command : Command) → reason_of game count hands command ≡ None → is_match_over game count hands ≡ false
goes_on game count hands (Deal hand deal) fits = (past_test (is_match_over game count hands) _ (deal_reason game hands hand deal) fits).0
goes_on game count hands (Act hand index action) fits = (past_test (is_match_over game count hands) _ (act_reason game hands hand index action) fits).0
goes_on game count hands (Away hand index) fits = (past_test (is_match_over game count hands) _ (act_reason game hands hand index (act_for game hands)) fits).0

-- the newest hand runs where one acts
newest_runs : (game : Game) (count : ℕ) (newest : Hand) (earlier : List Hand) (hand index : ℕ) (action : Action) → reason_of game count (newest ∷ earlier) (Act hand index action) ≡ None → is_finished game newest ≡ false
newest_runs game count newest earlier hand index action fits =
    (past_test (is_finished game newest) _ _ (past_test (is_match_over game count (newest ∷ earlier)) _ (act_reason game (newest ∷ earlier) hand index action) fits).1).0

-- ---- all hands but the newest are finished, whatever the commands

earlier_over : (game : Game) (count : ℕ) (commands : List Command) → EarlierOver game (hands_of game count commands)
unfolding hands_of
earlier_over game count [] = tt
earlier_over game count (command ∷ earlier) = over_after game count (hands_of game count earlier) command (earlier_over game count earlier)

-- ---- the lines of a hand's end

newest_line : (game : Game) (names : List (List ℕ)) (newest : Hand) (earlier : List Hand) (finished : ℕ) → finished ≡ suc (length earlier) → last_line game names (newest ∷ earlier) finished ≡ state_line game names (length earlier) newest
newest_line game names newest earlier finished all =
    ap (last_line game names (newest ∷ earlier)) all
    ∙ ap (λ (found : Option Hand). flat_map (state_line game names (length earlier)) (option_to_list found)) (newest_at newest earlier)
    ∙ append-nil (state_line game names (length earlier) newest)

no_score : (game : Game) (count : ℕ) (names : List (List ℕ)) (hands : List Hand) → is_match_over game count hands ≡ false → score_of game count names hands ≡ []
no_score game count names hands goes = ap (λ b. cond b (score_line game names hands) []) goes

-- the log with a newest hand
grown : (game : Game) (title : Title) (names : List (List ℕ)) (before : List Hand) (newest : Hand) (earlier : List Hand) → state_lines game names before ≡ state_lines game names earlier → is_match_over game title.hands before ≡ false → finished_count game before ≡ finished_count game earlier → finished_count game earlier ≡ length earlier → log_of game title names (newest ∷ earlier) ≡ log_of game title names before ++ further_lines game title.hands names (newest ∷ earlier)
unfolding log_of state_lines
grown game title names before newest earlier same goes finished all =
    let count : ℕ = title.hands in
    let head : List ℕ = header_line title.name title.game count in
    let hands : List Hand = newest ∷ earlier in
    let line : List ℕ = state_line game names (length earlier) newest in
    let lines : List ℕ = state_lines game names earlier in
    let score : List ℕ = score_of game count names hands in
    let so_far : log_of game title names before ≡ head ++ lines =
    ap (λ z. head ++ (state_lines game names before ++ z)) (no_score game count names before goes) ∙ ap (λ z. head ++ z) (append-nil (state_lines game names before) ∙ same) in
    elim (is_finished game newest) as (λ b. is_finished game newest ≡ b → head ++ ((lines ++ cond b line []) ++ score) ≡ log_of game title names before ++ cond (not b) [] (last_line game names hands (finished_count game hands) ++ score)) [
      | true ↦ λ ended.
          let last : last_line game names hands (finished_count game hands) ≡ line = newest_line game names newest earlier _ (finished_more game newest earlier ended ∙ ap (λ n. suc n) all) in
          ap (λ z. head ++ z) (append_assoc lines line score) ∙ sym (append_assoc head lines (line ++ score)) ∙ ap (λ z. z ++ (line ++ score)) (sym so_far)
          ∙ ap (λ z. log_of game title names before ++ (z ++ score)) (sym last)
      | false ↦ λ runs.
          let still : is_match_over game count hands ≡ false = ap (nat_le count) (finished_same game newest earlier runs ∙ sym finished) ∙ goes in
          let none : score ≡ [] = no_score game count names hands still in
          ap (λ z. head ++ ((lines ++ []) ++ z)) none ∙ ap (λ z. head ++ z) (append-nil (lines ++ []) ∙ append-nil lines) ∙ sym so_far ∙ sym (append-nil (log_of game title names before))
    ] refl

-- the log after an act that takes effect
act_grows : (game : Game) (title : Title) (names : List (List ℕ)) (hands : List Hand) (hand index : ℕ) (action : Action) → EarlierOver game hands
    → reason_of game title.hands hands (Act hand index action) ≡ None
    → log_of game title names (with_action hands action) ≡ log_of game title names hands ++ further_lines game title.hands names (with_action hands action)
unfolding state_lines
act_grows game title names [] hand index action over fits =
    let none = (past_test (is_match_over game title.hands []) _ (act_reason game [] hand index action) fits).1 in cc
act_grows game title names (newest ∷ earlier) hand index action over fits =
    let runs : is_finished game newest ≡ false = newest_runs game title.hands newest earlier hand index action fits in
    let before : state_lines game names (newest ∷ earlier) ≡ state_lines game names earlier =
    ap (λ b. state_lines game names earlier ++ cond b (state_line game names (length earlier) newest) []) runs ∙ append-nil (state_lines game names earlier) in
    grown game title names (newest ∷ earlier) (record newest { past = action ∷ newest.past }) earlier before (goes_on game title.hands (newest ∷ earlier) (Act hand index action) fits) (finished_same game newest earlier runs) over

-- the log after a command that takes effect
pub log_grows : (game : Game) (title : Title) (names : List (List ℕ)) (hands : List Hand) (command : Command) → EarlierOver game hands → reason_of game title.hands hands command ≡ None → log_of game title names (with_command game hands command) ≡ log_of game title names hands ++ further_lines game title.hands names (with_command game hands command)
unfolding state_lines
log_grows game title names hands (Deal hand deal) over fits =
    grown game title names hands (record { deal = deal; past = [] }) hands refl (goes_on game title.hands hands (Deal hand deal) fits) refl (all_over game hands over (none_runs game title.hands hands hand deal fits))
log_grows game title names hands (Act hand index action) over fits = act_grows game title names hands hand index action over fits
log_grows game title names hands (Away hand index) over fits = act_grows game title names hands hand index (act_for game hands) over fits

-- ---- the log after a command

pub commands_add : CommandsAddToTheLog
unfolding log_lines hands_of
commands_add game title names commands command = by (reason_of game title.hands hands command) refl
  where
    hands : List Hand
    hands = hands_of game title.hands commands

    by : (r : Option Reason) → reason_of game title.hands hands command ≡ r
        → log_of game title names (elim r [ None ↦ with_command game hands command | Some reason ↦ hands ])
        ≡ log_of game title names hands ++ cond (is_none r) (further_lines game title.hands names (elim r [ None ↦ with_command game hands command | Some reason ↦ hands ])) []
    by None fits = log_grows game title names hands command (earlier_over game title.hands commands) fits
    by (Some reason) refused = sym (append-nil (log_of game title names hands))

pub logs_grow : LogsGrow
logs_grow game title names [] commands = ([], sym (append-nil (log_lines game title names commands)))
logs_grow game title names (command ∷ later) commands =
    let before = logs_grow game title names later commands in
    let added : List ℕ = log_added game title.hands names (later ++ commands) command in (
      before.0 ++ added,
      commands_add game title names (later ++ commands) command ∙ ap (λ z. z ++ added) before.1
          ∙ append_assoc (log_lines game title names commands) before.0 added,
    )

-- ---- the log of no commands

pub begins_with_header : LogsBeginWithTheirHeader
unfolding log_lines log_of hands_of state_lines
begins_with_header game title names some =
    let head : List ℕ = header_line title.name title.game title.hands in
    ap (λ z. head ++ z) (no_score game title.hands names [] (lt-leb title.hands 0 (omega arith))) ∙ append-nil head

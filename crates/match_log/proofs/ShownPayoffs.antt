-- What a hand pays depends on what its line shows alone: at a showdown it shows all cards, and otherwise the
-- cards don't count.
use Rattle.std.proofs.Common.{◌≡◌, ℕ, ◌+◌, ◌<◌, ◌≤◌, Bool, true, false, not, cond, List, [], ◌∷◌, ◌++◌, map, take, drop, get_or, zero, suc, sym, ◌∙◌, ap, subst, arith, inl, inr, ◌⊎◌}
use Rattle.std.specs.List.{range_with_len}
use Rattle.std.proofs.lemmas.List.{take-append-drop, drop-drop, append-nil, get_or_past}
use Rattle.std.proofs.lemmas.Bool.{cases_lt}
use Rattle.std.proofs.lemmas.List.FromFn.{get_or-map-range_with_len, length-map-range_with_len}
use Rattle.game_def.specs.Game.{Game}
use Rattle.card_core.specs.Deal.{IsDeal, hole_of, board_of}
use Rattle.betting.specs.declared.action.Action.{Action}
use Rattle.betting.specs.Laws.{ShowdownsShowAllRounds}
use Rattle.betting.specs.Rounds.{over, turns}
use Rattle.betting.specs.Turns.{count_below, unfolded_count, folded}
use Rattle.side_pots.specs.Pots.{payoffs}
use Rattle.side_pots.specs.Laws.{AtMostOneUnfolded, LonePlayerNeedsNoShowdown}
use Rattle.matchstate.specs.Cards.{holes_of, boards_of}
use Rattle.matchstate.specs.View.{rounds_seen}
use Rattle.match_log.specs.BestFive.{best_worth}
use Rattle.match_log.specs.Payoffs.{seven_of, values_of, amounts_of, folds_of, payoffs_of}
use Rattle.match_log.specs.Lines.{shown_cards}
use Rattle.match_log.specs.Verdict.{PayoffsAreThoseShown}
use Rattle.matchstate.specs.OneToOne.{ShownDealsAreOneToOne}
use Rattle.side_pots.proofs.Settled.{map_range-same}
use Rattle.match_log.proofs.Settling.{length_values}

-- ---- all cards shown

-- the board's streets are the board
streets : (board : List ℕ) → take 3 board ++ (take 1 (drop 3 board) ++ drop 4 board) ≡ board
streets board =
    ap (λ (t : List ℕ). take 3 board ++ (take 1 (drop 3 board) ++ t)) (sym (drop-drop 1 3 board))
    ∙ ap (λ (t : List ℕ). take 3 board ++ t) (take-append-drop 1 (drop 3 board))
    ∙ take-append-drop 3 board

abbrev joined : List (List ℕ) → List ℕ
joined [] = []
joined (cards ∷ others) = cards ++ joined others

joined_board : (deal : List ℕ) → joined (take 3 (boards_of deal)) ≡ board_of deal
joined_board deal = ap (λ (t : List ℕ). take 3 (board_of deal) ++ (take 1 (drop 3 (board_of deal)) ++ t)) (append-nil (drop 4 (board_of deal))) ∙ streets (board_of deal)

same_board : (first second : List ℕ) → take 3 (boards_of first) ≡ take 3 (boards_of second) → board_of first ≡ board_of second
same_board first second same = sym (joined_board first) ∙ ap joined same ∙ joined_board second

same_hole : (players : ℕ) (first second : List ℕ) (position : ℕ) → position < players → holes_of players first ≡ holes_of players second → hole_of first position ≡ hole_of second position
same_hole players first second position within same =
    sym (get_or-map-range_with_len (hole_of first) 0 players position position [] within (omega arith))
    ∙ ap (λ (holes : List (List ℕ)). get_or holes position []) same
    ∙ get_or-map-range_with_len (hole_of second) 0 players position position [] within (omega arith)

same_values : (players : ℕ) (first second : List ℕ) → holes_of players first ≡ holes_of players second → board_of first ≡ board_of second → values_of players first ≡ values_of players second
unfolding values_of
same_values players first second holes board =
    map_range-same (λ position. best_worth (seven_of first position)) (λ position. best_worth (seven_of second position)) 0 players (λ position from to.
    ap (λ (hole : List ℕ). best_worth (hole ++ board_of first)) (same_hole players first second position (omega arith) holes)
    ∙ ap (λ (board : List ℕ). best_worth (hole_of second position ++ board)) board)

-- ---- one player left

one_more : (b : Bool) → b ≡ true → ◌≡◌ {A = ℕ} (cond b 1 0) 1
one_more b e = ap (λ (t : Bool). cond t 1 0) e

count_some : (passes : ℕ → Bool) (place count : ℕ) → place < count → passes place ≡ true → 1 ≤ count_below passes count
unfolding count_below
count_some passes place zero within passing = absurd (omega arith)
count_some passes place (suc count) within passing = by (count_some passes place count) (cases_lt place count)
  where
    by : (place < count → passes place ≡ true → 1 ≤ count_below passes count) → (place < count) ⊎ (count ≤ place) → 1 ≤ count_below passes (suc count)
    by before (inl below) = omega (arith, before below passing)
    by before (inr above) = let same : place ≡ count = omega arith in omega (arith, one_more (passes count) (ap passes (sym same) ∙ passing))

-- of two that pass the second comes later
count_two : (passes : ℕ → Bool) (place later count : ℕ) → place < later → later < count → passes place ≡ true → passes later ≡ true → 2 ≤ count_below passes count
unfolding count_below
count_two passes place later zero apart within first second = absurd (omega arith)
count_two passes place later (suc count) apart within first second = by (count_two passes place later count apart) (cases_lt later count)
  where
    by : (later < count → passes place ≡ true → passes later ≡ true → 2 ≤ count_below passes count) → (later < count) ⊎ (count ≤ later) → 2 ≤ count_below passes (suc count)
    by before (inl below) = omega (arith, before below first second)
    by before (inr above) =
        let same : later ≡ count = omega arith in
        omega (arith, one_more (passes count) (ap passes (sym same) ∙ second), count_some passes place count (omega arith) first)

-- who hasn't folded by the list is a player who hasn't
unfolded_at : (game : Game) (past : List Action) (position : ℕ) → get_or (folds_of game past) position true ≡ false → (position < game.players) × (not (folded (turns game past) position) ≡ true)
unfolding folds_of
unfolded_at game past position unfolded = by (cases_lt position game.players)
  where
    by : (position < game.players) ⊎ (game.players ≤ position) → (position < game.players) × (not (folded (turns game past) position) ≡ true)
    by (inl within) =
        let at : get_or (map (folded (turns game past)) (range_with_len 0 game.players)) position true ≡ folded (turns game past) position = get_or-map-range_with_len (folded (turns game past)) 0 game.players position position true within (omega arith) in
        (within, ap not (sym at ∙ unfolded))
    by (inr beyond) =
        let past_end : get_or (map (folded (turns game past)) (range_with_len 0 game.players)) position true ≡ true =
        get_or_past (map (folded (turns game past)) (range_with_len 0 game.players)) position true (omega (arith, length-map-range_with_len (folded (turns game past)) 0 game.players)) in
        let differs : ◌≡◌ {A = Bool} true false = sym past_end ∙ unfolded in
        cc

lone : (game : Game) (past : List Action) → unfolded_count game (turns game past) < 2 → AtMostOneUnfolded (folds_of game past)
unfolding unfolded_count
lone game past few first second one other =
    let here = unfolded_at game past first one in
    let there = unfolded_at game past second other in
    by here there (cases_lt first second) (cases_lt second first)
  where
    passes : ℕ → Bool
    passes position = not (folded (turns game past) position)

    by : (first < game.players) × (passes first ≡ true) → (second < game.players) × (passes second ≡ true) → (first < second) ⊎ (second ≤ first) → (second < first) ⊎ (first ≤ second) → first ≡ second
    by here there (inl less) greater = absurd (omega (arith, few, count_two passes first second game.players less there.0 here.1 there.1))
    by here there (inr up) (inl less) = absurd (omega (arith, few, count_two passes second first game.players less here.0 there.1 here.1))
    by here there (inr up) (inr down) = omega arith

-- ---- both cases

module _ (deals : ShownDealsAreOneToOne) (shows : ShowdownsShowAllRounds) (alone : LonePlayerNeedsNoShowdown) where
  deals_pay : (game : Game) (past : List Action) (first second : List ℕ) → over game (turns game past) ≡ true → IsDeal game.players first → IsDeal game.players second → shown_cards game past first ≡ shown_cards game past second
      → payoffs (amounts_of game past) (folds_of game past) (values_of game.players first) ≡ payoffs (amounts_of game past) (folds_of game past) (values_of game.players second)
  deals_pay game past first second ended dealt again same = by (cases_lt (unfolded_count game (turns game past)) 2)
    where
      by : (unfolded_count game (turns game past) < 2) ⊎ (2 ≤ unfolded_count game (turns game past)) → payoffs (amounts_of game past) (folds_of game past) (values_of game.players first) ≡ payoffs (amounts_of game past) (folds_of game past) (values_of game.players second)
      by (inl few) =
          alone (amounts_of game past) (folds_of game past) (values_of game.players first) (values_of game.players second)
          (length_values game.players first ∙ sym (length_values game.players second)) (lone game past few)
      by (inr several) =
          let shown = deals game.players (rounds_seen game past) first second dealt again same in
          let rounds : rounds_seen game past ≡ 3 = shows game (turns game past) ended several in
          let boards : take 3 (boards_of first) ≡ take 3 (boards_of second) = subst (λ (n : ℕ). take n (boards_of first) ≡ take n (boards_of second)) rounds shown.1 in
          ap (payoffs (amounts_of game past) (folds_of game past)) (same_values game.players first second shown.0 (same_board first second boards))

  pub payoffs_shown : PayoffsAreThoseShown
  unfolding payoffs_of
  payoffs_shown game first second is played another same_past same_cards =
      ap (λ (past : List Action). payoffs (amounts_of game past) (folds_of game past) (values_of game.players first.deal)) same_past
      ∙ deals_pay game second.past first.deal second.deal another.finished played.dealt another.dealt
      (sym (ap (λ (past : List Action). shown_cards game past first.deal) same_past) ∙ same_cards)

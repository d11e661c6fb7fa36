-- The lines of one more hand, however the log is read.
use Rattle.std.proofs.Common.{◌≡◌, ℕ, ◌+◌, ◌<◌, ◌≤◌, pos, List, [], ◌∷◌, ◌++◌, length, sym, ◌∙◌, ap, arith}
use Rattle.std.specs.List.{AllByRecursion, flat_map, range_with_len}
use Rattle.sha2.specs.Sha256.{sha256}
use Rattle.game_def.specs.Game.{Game, IsGame}
use Rattle.card_core.specs.Deal.{IsDeal}
use Rattle.betting.specs.Betting.{Betting}
use Rattle.betting.specs.Laws.{RoundsGoOn}
use Rattle.betting.specs.Legal.{Legal}
use Rattle.betting.specs.Rounds.{current_round, turns}
use Rattle.betting.specs.declared.action.Action.{Action}
use Rattle.side_pots.specs.Pots.{total}
use Rattle.slot_log.specs.Hand.{Hand}
use Rattle.matchstate.specs.Cards.{holes_of, board_shown}
use Rattle.matchstate.specs.View.{rounds_seen}
use Rattle.match_log.specs.Check.{IsMatchLog, IsPlayed}
use Rattle.match_log.specs.Lines.{names_field, state_line, score_line}
use Rattle.match_log.specs.Names.{IsName, AreNames, names_by_position}
use Rattle.match_log.specs.Verdict.{HandsEndFinished, PayoffsAreThoseShown}
use Rattle.match_log.proofs.FieldBytes.{by_position_are_names, length_by_position}
use Rattle.luck.specs.Lines.{position_line, hand_lines}
use Rattle.luck.specs.Lucks.{lucks_of}
use Rattle.luck.proofs.Hands.{same_lines, same_lucks}
use Rattle.luck.proofs.Told.{hands_in, IsTold, next_hand_of, more_told}

-- what is read of a line
abbrev pub IsReadAs : Game → List (List ℕ) → ℕ → Hand → List ℕ → Betting → List ℕ → List ℕ → List ℕ → Type 0
IsReadAs game names number hand behind play deal named rest =
    (play ≡ record { game = game; past = hand.past }) × (IsDeal game.players deal) × (holes_of game.players deal ≡ holes_of game.players hand.deal)
    × (board_shown (rounds_seen game hand.past) deal ≡ board_shown (rounds_seen game hand.past) hand.deal) × (named ≡ names_field (names_by_position game.players number names)) × (rest ≡ behind)

rounds_few : RoundsGoOn → (game : Game) (past : List Action) → IsGame game → Legal game past → current_round game (turns game past) ≤ 3
unfolding current_round turns
rounds_few law game [] is legal = omega arith
rounds_few law game (action ∷ past) is legal = (law game past action is legal).1

module _ (game : Game) (log : List ℕ) (read : IsMatchLog game log) (ends : HandsEndFinished) (law : PayoffsAreThoseShown) (is : IsGame game) (number : ℕ) (rest : List ℕ) where
  played : AllByRecursion (IsPlayed game) (hands_in game log read) × (length (hands_in game log read) ≡ read.title.hands)
  played = ends game read.title.hands read.commands read.deals read.over

  -- the next line is a hand's
  pub line_there : (out : List ℕ) → number < read.title.hands → IsTold game log read number rest out
      → (hand : Hand) × (behind : List ℕ) × (IsPlayed game hand × (rest ≡ state_line game read.names number hand ++ behind))
  line_there out more told =
      let next = next_hand_of game read.names (hands_in game log read) number (score_line game read.names (hands_in game log read)) rest (omega (arith, played.1, more)) played.0 told.text in
      (next.hand, next.behind, (next.played, next.line))

  pub told_more : (out behind after key : List ℕ) (play : Betting) (deal named : List ℕ) → number < read.title.hands → IsTold game log read number rest out → key ≡ sha256 log
      → RoundsGoOn
      → ((names : List (List ℕ)) (count : ℕ) (hand : Hand) (end : List ℕ) → AreNames game.players names → IsPlayed game hand → rest ≡ state_line game names count hand ++ end → IsReadAs game names count hand end play deal named behind)
      → ((names : List (List ℕ)) → length names ≡ play.game.players → AllByRecursion IsName names → named ≡ names_field names
      → after ≡ out ++ flat_map (position_line key play.game names number (record { deal = deal; past = play.past })) (range_with_len 0 play.game.players))
      → total (lucks_of key play.game number (record { deal = deal; past = play.past })) ≡ pos 0
      → IsTold game log read (number + 1) behind after
  unfolding hand_lines
  told_more out behind after key play deal named more told same rounds line put zero_sum =
      let next = next_hand_of game read.names (hands_in game log read) number (score_line game read.names (hands_in game log read)) rest (omega (arith, played.1, more)) played.0 told.text in
      let facts = line read.names number next.hand next.behind read.are_names next.played next.line in
      let by_position = names_by_position game.players number read.names in
      let some : 1 ≤ game.players = omega (arith, is.least_players) in
      let count : length by_position ≡ play.game.players = length_by_position game.players number read.names ∙ sym (ap (λ (b : Betting). b.game.players) facts.0) in
      let lines = put by_position count (by_position_are_names game.players number read.names some read.are_names) facts.4 in
      more_told game log read number rest out behind after told next facts.5
      (lines
      ∙ ap (λ (b : Betting). out ++ flat_map (position_line key b.game by_position number (record { deal = deal; past = b.past })) (range_with_len 0 b.game.players)) facts.0
      ∙ ap (λ (k : List ℕ). out ++ flat_map (position_line k game by_position number (record { deal = deal; past = next.hand.past })) (range_with_len 0 game.players)) same
      ∙ ap (λ (t : List ℕ). out ++ t) (same_lines law (sha256 log) game by_position number next.hand deal is next.played facts.1 facts.2 facts.3 (rounds_few rounds game next.hand.past is next.played.legal)))
      (ap total (sym (same_lucks (sha256 log) game number next.hand deal next.played facts.1 facts.2 facts.3 (rounds_few rounds game next.hand.past is next.played.legal)))
      ∙ ap (λ (k : List ℕ). total (lucks_of k game number (record { deal = deal; past = next.hand.past }))) (sym same)
      ∙ ap (λ (b : Betting). total (lucks_of key b.game number (record { deal = deal; past = b.past }))) (sym facts.0)
      ∙ zero_sum)

pub hands_count : (game : Game) (log : List ℕ) (read : IsMatchLog game log) → HandsEndFinished → length (hands_in game log read) ≡ read.title.hands
hands_count game log read ends = (ends game read.title.hands read.commands read.deals read.over).1

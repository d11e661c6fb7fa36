-- Where a hand is over and several players haven't folded, all rounds are shown.
use Rattle.std.proofs.Common.{◌≡◌, ◌≤◌, true, false, ◌&&◌, ◌||◌, eqb, ltb, List, [], ◌∷◌, refl, sym, ◌∙◌, arith, inl, inr}
use Rattle.std.proofs.lemmas.Bool.{cases_lt, cases_eq, eq-eqb, ne_eqb, lt-ltb, le-ltb}
use Rattle.game_def.specs.Game.{Game}
use Rattle.betting.specs.Turns.{Turn, live_count, unfolded_count, owing_count}
use Rattle.betting.specs.Rounds.{over, current_round}
use Rattle.betting.specs.Laws.{ShowdownsShowAllRounds}
use Rattle.betting.proofs.Advance.{current-turn, over-turn}

module _ (game : Game) (turn : Turn) (past : List Turn) (ended : over game (turn ∷ past) ≡ true) (several : 2 ≤ unfolded_count game (turn ∷ past)) where
  not_alone : ltb (unfolded_count game (turn ∷ past)) 2 ≡ false
  not_alone = le-ltb _ _ several

  -- the newest turn ended its round, and that was the last, or fewer than two are live
  ends : (eqb (owing_count game turn.round (turn ∷ past)) 0 && (ltb (live_count game (turn ∷ past)) 2 || eqb turn.round 3)) ≡ true
  ends = rw not_alone at (sym (over-turn game turn.player turn.round turn.action past) ∙ ended)

  shown : current_round game (turn ∷ past) ≡ 3
  shown = elim (cases_eq (owing_count game turn.round (turn ∷ past)) 0) [
    | inr owing ↦ absurd (let test : eqb (owing_count game turn.round (turn ∷ past)) 0 ≡ false = ne_eqb _ _ owing in let wrong : false ≡ true = rw test at ends in cc)
    | inl paid ↦
        let closed : eqb (owing_count game turn.round (turn ∷ past)) 0 ≡ true = eq-eqb _ _ paid in
        elim (cases_lt (live_count game (turn ∷ past)) 2) [
          | inl few ↦
              let bets : ltb 1 (live_count game (turn ∷ past)) ≡ false = le-ltb _ _ (omega arith) in
              rw (current-turn game turn.player turn.round turn.action past, not_alone, closed, bets) refl
          | inr many ↦
              let bets : ltb 1 (live_count game (turn ∷ past)) ≡ true = lt-ltb _ _ (omega arith) in
              let some_bet : ltb (live_count game (turn ∷ past)) 2 ≡ false = le-ltb _ _ many in
              elim (cases_eq turn.round 3) [
                | inr early ↦ absurd (let test : eqb turn.round 3 ≡ false = ne_eqb _ _ early in let wrong : false ≡ true = rw (closed, some_bet, test) at ends in cc)
                | inl last ↦ rw (current-turn game turn.player turn.round turn.action past, not_alone, closed, bets) (omega arith)
              ]
        ]
  ]

pub showdowns_show_all_rounds : ShowdownsShowAllRounds
unfolding over
showdowns_show_all_rounds game [] ended several = cc
showdowns_show_all_rounds game (turn ∷ past) ended several = shown game turn past ended several

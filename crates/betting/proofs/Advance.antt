-- What a turn does to its round.
use Rattle.std.proofs.Common.{◌≡◌, ℕ, ◌+◌, ◌<◌, ◌≤◌, min, true, false, cond, ◌&&◌, ◌||◌, eqb, ltb, List, ◌∷◌, refl, arith, inl, inr, ◌⊎◌}
use Rattle.std.proofs.lemmas.Bool.{cases_lt, cases_eq, eq-eqb, ne_eqb, lt-ltb, le-ltb}
use Rattle.game_def.specs.Game.{Game}
use Rattle.betting.specs.declared.action.Action.{Action}
use Rattle.betting.specs.Turns.{Turn, turn_by, live_count, unfolded_count, owing_count}
use Rattle.betting.specs.Rounds.{is_alone, can_bet_on, ends_round, over, current_round}

-- the five ways on from a turn of the round
pub data Advance (game : Game) (past : List Turn) (round : ℕ) : Type 0 where
  won : unfolded_count game past < 2 → current_round game past ≡ round → over game past ≡ true → Advance game past round
  goes_on : 2 ≤ unfolded_count game past → 0 < owing_count game round past → current_round game past ≡ round → over game past ≡ false → Advance game past round
  begins : 2 ≤ unfolded_count game past → owing_count game round past ≡ 0 → 2 ≤ live_count game past → round < 3 → current_round game past ≡ round + 1 → over game past ≡ false → Advance game past round
  ends : 2 ≤ unfolded_count game past → owing_count game round past ≡ 0 → 2 ≤ live_count game past → round ≡ 3 → current_round game past ≡ round → over game past ≡ true → Advance game past round
  shows : 2 ≤ unfolded_count game past → owing_count game round past ≡ 0 → live_count game past < 2 → current_round game past ≡ 3 → over game past ≡ true → Advance game past round

module _ (game : Game) (p r : ℕ) (a : Action) (h : List Turn) where
  pub current-turn : current_round game (turn_by p r a ∷ h) ≡
      cond (ltb (unfolded_count game (turn_by p r a ∷ h)) 2) r
      (cond (eqb (owing_count game r (turn_by p r a ∷ h)) 0) (cond (ltb 1 (live_count game (turn_by p r a ∷ h))) (min 3 (r + 1)) 3) r)
  unfolding current_round is_alone ends_round can_bet_on
  current-turn = refl

  pub over-turn : over game (turn_by p r a ∷ h) ≡
      (ltb (unfolded_count game (turn_by p r a ∷ h)) 2
      || (eqb (owing_count game r (turn_by p r a ∷ h)) 0 && (ltb (live_count game (turn_by p r a ∷ h)) 2 || eqb r 3)))
  unfolding over is_alone ends_round
  over-turn = refl

  pub advance : r ≤ 3 → Advance game (turn_by p r a ∷ h) r
  advance fits = elim (cases_lt (unfolded_count game (turn_by p r a ∷ h)) 2) [
    | inl alone ↦
        let test : ltb (unfolded_count game (turn_by p r a ∷ h)) 2 ≡ true = lt-ltb _ _ alone in
        won alone (rw (current-turn, test) refl) (rw (over-turn, test) refl)
    | inr several ↦
        let test : ltb (unfolded_count game (turn_by p r a ∷ h)) 2 ≡ false = le-ltb _ _ several in
        elim (cases_eq (owing_count game r (turn_by p r a ∷ h)) 0) [
          | inr owing ↦
              let open_round : eqb (owing_count game r (turn_by p r a ∷ h)) 0 ≡ false = ne_eqb _ _ owing in
              goes_on several (omega arith) (rw (current-turn, test, open_round) refl) (rw (over-turn, test, open_round) refl)
          | inl paid ↦
              let closed : eqb (owing_count game r (turn_by p r a ∷ h)) 0 ≡ true = eq-eqb _ _ paid in
              elim (cases_lt (live_count game (turn_by p r a ∷ h)) 2) [
                | inl few ↦
                    let bets : ltb 1 (live_count game (turn_by p r a ∷ h)) ≡ false = le-ltb _ _ (omega arith) in
                    let none_bets : ltb (live_count game (turn_by p r a ∷ h)) 2 ≡ true = lt-ltb _ _ few in
                    shows several paid few (rw (current-turn, test, closed, bets) refl) (rw (over-turn, test, closed, none_bets) refl)
                | inr many ↦
                    let bets : ltb 1 (live_count game (turn_by p r a ∷ h)) ≡ true = lt-ltb _ _ (omega arith) in
                    let some_bet : ltb (live_count game (turn_by p r a ∷ h)) 2 ≡ false = le-ltb _ _ many in
                    elim (cases_lt r 3) [
                      | inl early ↦
                          let not_last : eqb r 3 ≡ false = ne_eqb _ _ (omega arith) in
                          begins several paid many early (rw (current-turn, test, closed, bets) (omega arith)) (rw (over-turn, test, closed, some_bet, not_last) refl)
                      | inr late ↦
                          let last : r ≡ 3 = omega arith in
                          let is_last : eqb r 3 ≡ true = eq-eqb _ _ last in
                          ends several paid many last (rw (current-turn, test, closed, bets) (omega arith)) (rw (over-turn, test, closed, some_bet, is_last) refl)
                    ]
              ]
        ]
  ]

  pub round_fits : r ≤ 3 → current_round game (turn_by p r a ∷ h) ≤ 3
  round_fits fits = elim (advance fits) [
    | won x y z ↦ omega (arith, y)
    | goes_on w x y z ↦ omega (arith, y)
    | begins u v w x y z ↦ omega (arith, x, y)
    | ends u v w x y z ↦ omega (arith, y)
    | shows u v x y z ↦ omega (arith, y)
  ]

  -- the round stays, or it had ended and a later one begins
  pub round_moves : r ≤ 3 → (current_round game (turn_by p r a ∷ h) ≡ r) ⊎ (r < current_round game (turn_by p r a ∷ h))
  round_moves fits = elim (advance fits) [
    | won x y z ↦ inl y
    | goes_on w x y z ↦ inl y
    | begins u v w x y z ↦ inr (omega (arith, y))
    | ends u v w x y z ↦ inl y
    | shows u v x y z ↦ elim (cases_lt r 3) [ inl early ↦ inr (omega (arith, y)) | inr late ↦ inl (omega (arith, y)) ]
  ]

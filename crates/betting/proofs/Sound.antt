-- What holds of the history of every legal play.
use Rattle.std.proofs.Common.{◌≡◌, ℕ, ◌+◌, ◌*◌, ◌<◌, ◌≤◌, Bool, true, false, not, ltb, List, length, Option, Some, None, refl, sym, ap, ◌∙◌, inl, inr}
use Rattle.std.specs.Prelude.{is_none}
use Rattle.std.proofs.lemmas.Bool.{ltb-true, and_parts, not-true}
use Rattle.game_def.specs.Game.{Game, stack_of, most_chips}
use Rattle.betting.specs.Turns.{Turn, max_spent, spent, folded, live, has_answered, owes, owing_count, actions_in, raises_in, min_to}
use Rattle.betting.specs.Rounds.{over, current_round, search_start, to_act, first_cyclic}
use Rattle.betting.proofs.Counts.{count_below-witness}
use Rattle.betting.proofs.Search.{Before, before_cases, FirstCyclic, first_cyclic-finds, first_cyclic-some}

pub record Sound (game : Game) (h : List Turn) : Type 0 where
  pub start_fits : search_start game h ≤ game.players
  pub round_fits : current_round game h ≤ 3
  pub within_stack : (q : ℕ) → q < game.players → spent game h q ≤ stack_of game q
  pub within_most : (q : ℕ) → q < game.players → spent game h q ≤ max_spent game h
  pub top : (q : ℕ) × (q < game.players) × (folded h q ≡ false) × (spent game h q ≡ max_spent game h)
  pub most_fits : max_spent game h ≤ most_chips
  pub full_raise : max_spent game h < min_to game (current_round game h) h
  pub full_raise_fits : min_to game (current_round game h) h ≤ 2 * most_chips
  pub in_order : (q s : ℕ) → q < game.players → s < game.players → live game h q ≡ true → live game h s ≡ true
      → has_answered (current_round game h) h q ≡ true → Before (search_start game h) q s → has_answered (current_round game h) h s ≡ true
  pub somebody_owes : over game h ≡ false → 0 < owing_count game (current_round game h) h
  pub no_later_action : (s : ℕ) → current_round game h < s → actions_in s h ≡ 0
  pub no_later_raise : (s : ℕ) → current_round game h < s → raises_in s h ≡ 0
  pub raises_fit : raises_in (current_round game h) h ≤ actions_in (current_round game h) h
  pub room : actions_in (current_round game h) h + owing_count game (current_round game h) h ≤ 64
  pub past_fits : length h ≤ 64 * current_round game h + actions_in (current_round game h) h

-- the player to act is the first live one, and he owes an action
pub record IsNext (game : Game) (h : List Turn) (position : ℕ) : Type 0 where
  pub open_hand : over game h ≡ false
  pub found : FirstCyclic (live game h) game.players (search_start game h) position
  pub owing : owes game (current_round game h) h position ≡ true

owes_parts : (game : Game) (h : List Turn) (r q : ℕ) → owes game r h q ≡ true → (live game h q ≡ true) × (has_answered r h q ≡ false)
unfolding owes
owes_parts game h r q e =
    let parts : (live game h q ≡ true) × (not (has_answered r h q) ≡ true) = and_parts _ _ e in
    (parts.0, not-true _ parts.1)

owes_from : (game : Game) (h : List Turn) (r q : ℕ) → live game h q ≡ true → has_answered r h q ≡ false → owes game r h q ≡ true
unfolding owes
owes_from game h r q e f = rw (e, f) refl

pub live_parts : (game : Game) (h : List Turn) (q : ℕ) → live game h q ≡ true → (folded h q ≡ false) × (spent game h q < stack_of game q)
unfolding live
live_parts game h q e =
    let parts : (not (folded h q) ≡ true) × (ltb (spent game h q) (stack_of game q) ≡ true) = and_parts _ _ e in
    (not-true _ parts.0, ltb-true _ _ parts.1)

to_act-open : (game : Game) (h : List Turn) → over game h ≡ false → to_act game h ≡ first_cyclic (live game h) game.players (search_start game h)
unfolding to_act
to_act-open game h e =
    let pick : Bool → Option ℕ = λ b. elim b [ true ↦ None | false ↦ first_cyclic (live game h) game.players (search_start game h) ] in ap pick e

pub to_act-over : (game : Game) (h : List Turn) → over game h ≡ true → to_act game h ≡ None
unfolding to_act
to_act-over game h e =
    let pick : Bool → Option ℕ = λ b. elim b [ true ↦ None | false ↦ first_cyclic (live game h) game.players (search_start game h) ] in ap pick e

module _ (game : Game) (h : List Turn) (sound : Sound game h) where
  next_owes : (position : ℕ) → over game h ≡ false → FirstCyclic (live game h) game.players (search_start game h) position → owes game (current_round game h) h position ≡ true
  next_owes position open_hand found =
      (elim (has_answered (current_round game h) h position) as (λ b. has_answered (current_round game h) h position ≡ b → owes game (current_round game h) h position ≡ true) [
        | false ↦ λ e. owes_from game h (current_round game h) position found.passes e
        | true ↦ λ e. absurd (contradiction e)
      ]) refl
    where
      contradiction : has_answered (current_round game h) h position ≡ true → ⊥
      contradiction e =
          let witness : (k : ℕ) × (k < game.players) × (owes game (current_round game h) h k ≡ true) =
          unfold owing_count in count_below-witness (owes game (current_round game h) h) game.players (sound.somebody_owes open_hand) in
          let parts : (live game h witness.0 ≡ true) × (has_answered (current_round game h) h witness.0 ≡ false) = owes_parts game h (current_round game h) witness.0 witness.2 in
          elim (before_cases (search_start game h) position witness.0) [
            | inl earlier ↦
                let answered : has_answered (current_round game h) h witness.0 ≡ true =
                sound.in_order position witness.0 found.most witness.1 found.passes parts.0 e earlier in cc
            | inr (inl same) ↦ let answered : has_answered (current_round game h) h witness.0 ≡ true = rw (← same) e in cc
            | inr (inr later) ↦ let dead : live game h witness.0 ≡ false = found.first witness.0 witness.1 later in cc
          ]

  pub next_is : (position : ℕ) → to_act game h ≡ Some position → IsNext game h position
  next_is position e =
      (elim (over game h) as (λ b. over game h ≡ b → IsNext game h position) [
        | true ↦ λ is. absurd (let none : to_act game h ≡ None = to_act-over game h is in cc)
        | false ↦ λ is.
            let found : FirstCyclic (live game h) game.players (search_start game h) position =
            first_cyclic-finds (live game h) game.players (search_start game h) position sound.start_fits (sym (to_act-open game h is) ∙ e) in
            record { open_hand = is; found = found; owing = next_owes position is found }
      ]) refl

  -- in a hand that isn't over somebody is to act
  pub somebody_acts : over game h ≡ false → (position : ℕ) × (to_act game h ≡ Some position)
  somebody_acts is =
      let witness : (k : ℕ) × (k < game.players) × (owes game (current_round game h) h k ≡ true) =
      unfold owing_count in count_below-witness (owes game (current_round game h) h) game.players (sound.somebody_owes is) in
      let parts : (live game h witness.0 ≡ true) × (has_answered (current_round game h) h witness.0 ≡ false) = owes_parts game h (current_round game h) witness.0 witness.2 in
      let found : (p : ℕ) × (first_cyclic (live game h) game.players (search_start game h) ≡ Some p) =
      first_cyclic-some (live game h) game.players (search_start game h) witness.0 sound.start_fits witness.1 parts.0 in
      (found.0, to_act-open game h is ∙ found.1)

  -- nobody is to act exactly where the hand is over
  pub acts_unless_over : is_none (to_act game h) ≡ over game h
  acts_unless_over =
      (elim (over game h) as (λ b. over game h ≡ b → is_none (to_act game h) ≡ b) [
        | true ↦ λ is. ap is_none (to_act-over game h is)
        | false ↦ λ is. ap is_none (somebody_acts is).1
      ]) refl

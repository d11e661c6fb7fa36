-- The slashes behind each action: at most three, and found at the action's place.
use Rattle.std.proofs.Common.{◌≡◌, ℕ, suc, ◌<◌, ◌≤◌, inl, inr, List, [], ◌∷◌, length, take, reverse, get_or, unwrap_or, refl, sym, ap, ◌∙◌, arith}
use Rattle.std.proofs.lemmas.List.{reverse-append, length-reverse, reverse-reverse, get_or_append_left, get_or_past, take-append-le}
use Rattle.std.proofs.Math.Seq.{get_or-append_seam, take-append_seam}
use Rattle.std.proofs.lemmas.Bool.{cases_lt}
use Rattle.game_def.specs.Game.{Game}
use Rattle.betting.specs.declared.action.Action.{Action}
use Rattle.betting.specs.declared.action.Action.TheVariants.{Fold}
use Rattle.betting.specs.Rounds.{current_round, is_alone, to_act, turns, with_turn}
use Rattle.betting.specs.Text.{slash_count, slash_counts}
use Rattle.betting.specs.Laws.{SlashesStandBehindActions}
use Rattle.betting.proofs.Advance.{round_fits}

pub rounds_fit : (game : Game) (past : List Action) → current_round game (turns game past) ≤ 3
unfolding turns with_turn current_round is_alone
rounds_fit game [] = omega arith
rounds_fit game (action ∷ past) =
    round_fits game (unwrap_or (to_act game (turns game past)) 0) (current_round game (turns game past)) action (turns game past) (rounds_fit game past)

pub slash_counts-length : (game : Game) (past : List Action) → length (slash_counts game past) ≡ length past
unfolding slash_counts
slash_counts-length game [] = refl
slash_counts-length game (action ∷ past) = ap suc (slash_counts-length game past)

-- at the places in front, and at the last
module _ {X : Type 0} (x d : X) (xs : List X) where
  in_front : (i : ℕ) → i < length xs → get_or (reverse (x ∷ xs)) i d ≡ get_or (reverse xs) i d
  in_front i below = ap (λ l. get_or l i d) (reverse-append (x ∷ []) xs) ∙ get_or_append_left (reverse xs) (x ∷ []) d i (omega (arith, length-reverse xs, below))

  at_last : get_or (reverse (x ∷ xs)) (length xs) d ≡ x
  at_last = ap (λ n. get_or (reverse (x ∷ xs)) n d) (sym (length-reverse xs)) ∙ ap (λ l. get_or l (length (reverse xs)) d) (reverse-append (x ∷ []) xs) ∙ get_or-append_seam (reverse xs) x [] d

  before_front : (i : ℕ) → i < length xs → take i (reverse (x ∷ xs)) ≡ take i (reverse xs)
  before_front i below = ap (take i) (reverse-append (x ∷ []) xs) ∙ take-append-le i (reverse xs) (x ∷ []) (omega (arith, length-reverse xs, below))

  before_last : take (length xs) (reverse (x ∷ xs)) ≡ reverse xs
  before_last = ap (λ n. take n (reverse (x ∷ xs))) (sym (length-reverse xs)) ∙ ap (take (length (reverse xs))) (reverse-append (x ∷ []) xs) ∙ take-append_seam (reverse xs) (x ∷ [])

stands : (game : Game) (past : List Action) (index : ℕ) (other : Action) → index < length past
    → get_or (reverse (slash_counts game past)) index 0 ≡ slash_count game (reverse (take index (reverse past))) (get_or (reverse past) index other)
unfolding slash_counts
stands game [] index other below = absurd (omega (arith, below))
stands game (action ∷ past) index other below =
    let count : ℕ = slash_count game past action in
    let counts : List ℕ = slash_counts game past in
    let same : length counts ≡ length past = slash_counts-length game past in
    elim (cases_lt index (length past)) [
      | inl front ↦
          in_front count 0 counts index (omega (arith, same, front)) ∙ stands game past index other front
          ∙ ap (λ l. slash_count game (reverse l) (get_or (reverse past) index other)) (sym (before_front action other past index front))
          ∙ ap (λ a. slash_count game (reverse (take index (reverse (action ∷ past)))) a) (sym (in_front action other past index front))
      | inr behind ↦
          let last : index ≡ length past = omega (arith, below, behind) in
          rw last (ap (λ n. get_or (reverse (count ∷ counts)) n 0) (sym same) ∙ at_last count 0 counts
          ∙ ap (λ l. slash_count game l action) (sym (ap reverse (before_last action other past) ∙ reverse-reverse past))
          ∙ ap (λ a. slash_count game (reverse (take (length past) (reverse (action ∷ past)))) a) (sym (at_last action other past)))
    ]

pub slashes_stand_behind_actions : SlashesStandBehindActions
slashes_stand_behind_actions game actions index other below =
    stands game (reverse actions) index other (omega (arith, length-reverse actions, below))
    ∙ ap (λ l. slash_count game (reverse (take index l)) (get_or l index other)) (reverse-reverse actions)

pub slashes-few : (game : Game) (past : List Action) (index : ℕ) → get_or (reverse (slash_counts game past)) index 0 ≤ 3
slashes-few game past index =
    let long : length (reverse (slash_counts game past)) ≡ length past = length-reverse (slash_counts game past) ∙ slash_counts-length game past in
    elim (cases_lt index (length past)) [
      | inl below ↦
          let before : List Action = reverse (take index (reverse past)) in
          let action : Action = get_or (reverse past) index Fold in
          let is : get_or (reverse (slash_counts game past)) index 0 ≡ slash_count game before action = stands game past index Fold below in
          let fits : current_round game (turns game (action ∷ before)) ≤ 3 = rounds_fit game (action ∷ before) in
          omega (arith, is, fits)
      | inr past_end ↦
          let none : get_or (reverse (slash_counts game past)) index 0 ≡ 0 = get_or_past (reverse (slash_counts game past)) index 0 (omega (arith, long, past_end)) in
          omega (arith, none)
    ]

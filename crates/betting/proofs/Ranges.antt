-- The amounts that may be raised to.
use Rattle.std.proofs.Common.{◌≡◌, ℕ, ◌≤◌, min, List, Option, Some, None, refl, sym, ◌∙◌, arith, subst}
use Rattle.std.specs.Prelude.{IsSome, slice_index, option_map}
use Rattle.std.proofs.lemmas.Option.{same_Some}
use Rattle.game_def.specs.Game.{Game, stack_of, raise_size_of}
use Rattle.betting.specs.declared.action.Action.TheVariants.{Raise}
use Rattle.betting.specs.declared.fault.ActFault.{ActFault}
use Rattle.betting.specs.Turns.{Turn, min_to}
use Rattle.betting.specs.Rounds.{current_round, to_act}
use Rattle.betting.specs.Legal.{CanAct, Allows, IsRaiseRange, limit_to, least_raise, greatest_raise, no_raise}
use Rattle.betting.proofs.Legal.{may-none, none-may}

pub no_range_over : (game : Game) (h : List Turn) → to_act game h ≡ None → (amount : ℕ) → CanAct game h (Raise amount) → ⊥
unfolding CanAct
no_range_over game h none amount can = let wrong : Some can.0 ≡ None = sym can.1 ∙ none in cc

allowed_at : (game : Game) (h : List Turn) (p amount : ℕ) → to_act game h ≡ Some p → CanAct game h (Raise amount) → Allows game h p (Raise amount)
unfolding CanAct
allowed_at game h p amount acts can =
    let same : can.0 ≡ p = same_Some _ _ (sym can.1 ∙ acts) in
    subst (λ q. Allows game h q (Raise amount)) same can.2

pub no_range_closed : (game : Game) (h : List Turn) (p : ℕ) (fault : ActFault) → to_act game h ≡ Some p → Some fault ≡ no_raise game h p → (amount : ℕ) → CanAct game h (Raise amount) → ⊥
no_range_closed game h p fault acts closed amount can =
    let may : no_raise game h p ≡ None = may-none game h p (allowed_at game h p amount acts can).0 in
    let wrong : Some fault ≡ None = closed ∙ may in cc

least_within : (game : Game) (h : List Turn) (p : ℕ) → least_raise game h p ≤ greatest_raise game h p
unfolding least_raise greatest_raise
least_within game h p =
    elim (raise_size_of game (current_round game h)) as (λ o.
    elim o [ None ↦ min (min_to game (current_round game h) h) (stack_of game p) | Some size ↦ limit_to game h p size ]
    ≤ elim o [ None ↦ stack_of game p | Some size ↦ limit_to game h p size ]) [
      | None ↦ omega arith
      | Some size ↦ omega arith
    ]

can_raise : (game : Game) (h : List Turn) (p amount : ℕ) → to_act game h ≡ Some p → Allows game h p (Raise amount) → CanAct game h (Raise amount)
unfolding CanAct
can_raise game h p amount acts allowed = (p, acts, allowed)

pub range_open : (game : Game) (h : List Turn) (p least greatest : ℕ) → to_act game h ≡ Some p → None ≡ no_raise game h p → least ≡ least_raise game h p → greatest ≡ greatest_raise game h p → IsRaiseRange game h least greatest
range_open game h p least greatest acts open_raise e f =
    let within : least_raise game h p ≤ greatest_raise game h p = least_within game h p in
    record {
      some = omega (arith, e, f);
      legal = λ amount. (
        (λ can. let allowed : Allows game h p (Raise amount) = allowed_at game h p amount acts can in (omega (arith, e, allowed.1), omega (arith, f, allowed.2))),
        (λ between. can_raise game h p amount acts (none-may game h p (sym open_raise), omega (arith, e, between.0), omega (arith, f, between.1))),
      );
    }

pub range_fixed : (game : Game) (h : List Turn) (p least greatest : ℕ) → IsSome game.raise_sizes → least ≡ least_raise game h p → greatest ≡ greatest_raise game h p → least ≡ greatest
range_fixed game h p least greatest limit e f = e ∙ one_amount ∙ sym f
  where
    sized : (o : Option (List ℕ)) → IsSome o → IsSome (option_map (λ sizes. slice_index sizes (current_round game h)) o)
    sized None is = is
    sized (Some sizes) is = refl

    same : (o : Option ℕ) → IsSome o
        → (let least_by : ℕ = elim o [ None ↦ min (min_to game (current_round game h) h) (stack_of game p) | Some size ↦ limit_to game h p size ] in
        let greatest_by : ℕ = elim o [ None ↦ stack_of game p | Some size ↦ limit_to game h p size ] in least_by ≡ greatest_by)
    same None is = absurd (cc)
    same (Some size) is = refl

    one_amount : least_raise game h p ≡ greatest_raise game h p
    one_amount = unfold least_raise greatest_raise in same (raise_size_of game (current_round game h)) (sized game.raise_sizes limit)

-- Legal plays: what holds of their histories, and which actions are allowed next.
use Rattle.std.proofs.Common.{◌≡◌, ℕ, suc, ◌+◌, ◌*◌, ◌<◌, ◌≤◌, true, false, ltb, leb, List, [], ◌∷◌, length, Option, Some, None, refl, sym, ap, ◌∙◌, arith, inl, inr, unwrap_or}
use Rattle.std.specs.Prelude.{slice_index}
use Rattle.std.proofs.lemmas.Bool.{cases_lt, lt-ltb, le-ltb, le-leb, lt-leb}
use Rattle.game_def.specs.Game.{Game, IsGame, stack_of}
use Rattle.betting.specs.declared.action.Action.{Action}
use Rattle.betting.specs.declared.action.Action.TheVariants.{Fold, Call, Raise}
use Rattle.betting.specs.declared.fault.ActFault.{ActFault}
use Rattle.betting.specs.declared.fault.ActFault.TheVariants.{Finished, FoldNotFacing, TooManyRaises, NobodyToCall, RaiseTooSmall, RaiseTooLarge, RoundFull}
use Rattle.betting.specs.Turns.{Turn, turn_by, max_spent, spent, live_count, actions_in, raises_in}
use Rattle.betting.specs.Rounds.{current_round, to_act, with_turn, turns}
use Rattle.betting.specs.Legal.{CanAct, Allows, MayRaise, Legal, least_raise, greatest_raise, no_raise, wrong_amount, fault_of, fault_at, fault_of_raise}
use Rattle.betting.proofs.Sound.{Sound, IsNext, next_is}
use Rattle.betting.proofs.SoundSteps.{sound-start, sound-turn}

pub with_turn-is : (game : Game) (h : List Turn) (p : ℕ) (a : Action) → to_act game h ≡ Some p → with_turn game h a ≡ turn_by p (current_round game h) a ∷ h
unfolding with_turn
with_turn-is game h p a e = ap (λ o. turn_by (unwrap_or o 0) (current_round game h) a ∷ h) e

pub turns-cons : (game : Game) (past : List Action) (p : ℕ) (a : Action) → to_act game (turns game past) ≡ Some p → turns game (a ∷ past) ≡ turn_by p (current_round game (turns game past)) a ∷ turns game past
unfolding turns
turns-cons game past p a e = with_turn-is game (turns game past) p a e

pub sound_legal : (game : Game) → IsGame game → (past : List Action) → Legal game past → Sound game (turns game past)
unfolding turns CanAct
sound_legal game is_game [] legal = sound-start game is_game
sound_legal game is_game (a ∷ past) legal =
    let before : Sound game (turns game past) = sound_legal game is_game past legal.0 in
    let next : IsNext game (turns game past) legal.1.0 = next_is game (turns game past) before legal.1.0 legal.1.1 in
    rw (with_turn-is game (turns game past) legal.1.0 a legal.1.1) (sound-turn game is_game (turns game past) before legal.1.0 next a legal.1.2)

pub length-turns : (game : Game) (past : List Action) → length (turns game past) ≡ length past
unfolding turns with_turn
length-turns game [] = refl
length-turns game (a ∷ past) = ap suc (length-turns game past)

-- a hand has at most 256 actions
pub length-legal : (game : Game) → IsGame game → (past : List Action) → Legal game past → length past ≤ 256
length-legal game is_game past legal =
    let sound : Sound game (turns game past) = sound_legal game is_game past legal in
    let fits : length (turns game past) ≤ 64 * current_round game (turns game past) + actions_in (current_round game (turns game past)) (turns game past) = sound.past_fits in
    let same : length (turns game past) ≡ length past = length-turns game past in
    let round : current_round game (turns game past) ≤ 3 = sound.round_fits in
    let room = sound.room in
    omega arith

pub fault_of-position : (game : Game) (h : List Turn) (a : Action) (p : ℕ) → to_act game h ≡ Some p → fault_of game h a ≡ fault_at game h p a
unfolding fault_of
fault_of-position game h a p e =
    let pick : Option ℕ → Option ActFault = λ o. elim o [ None ↦ Some Finished | Some position ↦ fault_at game h position a ] in ap pick e

pub fault_of-finished : (game : Game) (h : List Turn) (a : Action) → to_act game h ≡ None → fault_of game h a ≡ Some Finished
unfolding fault_of
fault_of-finished game h a e =
    let pick : Option ℕ → Option ActFault = λ o. elim o [ None ↦ Some Finished | Some position ↦ fault_at game h position a ] in ap pick e

pub may-none : (game : Game) (h : List Turn) (p : ℕ) → MayRaise game h p → no_raise game h p ≡ None
unfolding no_raise
may-none game h p may =
    let one : leb (slice_index game.max_raises (current_round game h)) (raises_in (current_round game h) h) ≡ false = lt-leb _ _ may.raises_left in
    let two : ltb 64 (actions_in (current_round game h) h + game.players) ≡ false = le-ltb _ _ may.room in
    let three : ltb (live_count game h) 2 ≡ false = le-ltb _ _ may.somebody_to_call in
    let four : leb (stack_of game p) (max_spent game h) ≡ false = lt-leb _ _ may.chips_left in
    rw (one, two, three, four) refl

pub none-may : (game : Game) (h : List Turn) (p : ℕ) → no_raise game h p ≡ None → MayRaise game h p
unfolding no_raise
none-may game h p e =
    elim (cases_lt (raises_in (current_round game h) h) (slice_index game.max_raises (current_round game h))) [
      | inr spent_up ↦ absurd (let one : leb (slice_index game.max_raises (current_round game h)) (raises_in (current_round game h) h) ≡ true = le-leb _ _ spent_up in let wrong : Some TooManyRaises ≡ None = rw one at e in cc)
      | inl raises_left ↦
          let one : leb (slice_index game.max_raises (current_round game h)) (raises_in (current_round game h) h) ≡ false = lt-leb _ _ raises_left in
          elim (cases_lt 64 (actions_in (current_round game h) h + game.players)) [
            | inl full ↦ absurd (let two : ltb 64 (actions_in (current_round game h) h + game.players) ≡ true = lt-ltb _ _ full in let wrong : Some RoundFull ≡ None = rw (one, two) at e in cc)
            | inr room ↦
                let two : ltb 64 (actions_in (current_round game h) h + game.players) ≡ false = le-ltb _ _ room in
                elim (cases_lt (live_count game h) 2) [
                  | inl few ↦ absurd (let three : ltb (live_count game h) 2 ≡ true = lt-ltb _ _ few in let wrong : Some NobodyToCall ≡ None = rw (one, two, three) at e in cc)
                  | inr many ↦
                      let three : ltb (live_count game h) 2 ≡ false = le-ltb _ _ many in
                      elim (cases_lt (max_spent game h) (stack_of game p)) [
                        | inr short ↦ absurd (let four : leb (stack_of game p) (max_spent game h) ≡ true = le-leb _ _ short in let wrong : Some (RaiseTooLarge (stack_of game p)) ≡ None = rw (one, two, three, four) at e in cc)
                        | inl chips_left ↦ record { raises_left = raises_left; room = room; somebody_to_call = many; chips_left = chips_left }
                      ]
                ]
          ]
    ]

amount-none : (game : Game) (h : List Turn) (p amount : ℕ) → least_raise game h p ≤ amount → amount ≤ greatest_raise game h p → wrong_amount game h p amount ≡ None
unfolding wrong_amount
amount-none game h p amount least most =
    let five : ltb amount (least_raise game h p) ≡ false = le-ltb _ _ least in
    let six : ltb (greatest_raise game h p) amount ≡ false = le-ltb _ _ most in
    rw (five, six) refl

none-amount : (game : Game) (h : List Turn) (p amount : ℕ) → wrong_amount game h p amount ≡ None → (least_raise game h p ≤ amount) × (amount ≤ greatest_raise game h p)
unfolding wrong_amount
none-amount game h p amount e =
    elim (cases_lt amount (least_raise game h p)) [
      | inl small ↦ absurd (let five : ltb amount (least_raise game h p) ≡ true = lt-ltb _ _ small in let wrong : Some (RaiseTooSmall (least_raise game h p)) ≡ None = rw five at e in cc)
      | inr least ↦
          let five : ltb amount (least_raise game h p) ≡ false = le-ltb _ _ least in
          elim (cases_lt (greatest_raise game h p) amount) [
            | inl large ↦ absurd (let six : ltb (greatest_raise game h p) amount ≡ true = lt-ltb _ _ large in let wrong : Some (RaiseTooLarge (greatest_raise game h p)) ≡ None = rw (five, six) at e in cc)
            | inr most ↦ (least, most)
          ]
    ]

pub fault_of_raise-open : (game : Game) (h : List Turn) (p amount : ℕ) → no_raise game h p ≡ None → fault_of_raise game h p amount ≡ wrong_amount game h p amount
unfolding fault_of_raise
fault_of_raise-open game h p amount e =
    let pick : Option ActFault → Option ActFault = λ o. elim o [ Some fault ↦ Some fault | None ↦ wrong_amount game h p amount ] in ap pick e

pub fault_of_raise-closed : (game : Game) (h : List Turn) (p amount : ℕ) (fault : ActFault) → no_raise game h p ≡ Some fault → fault_of_raise game h p amount ≡ Some fault
unfolding fault_of_raise
fault_of_raise-closed game h p amount fault e =
    let pick : Option ActFault → Option ActFault = λ o. elim o [ Some fault ↦ Some fault | None ↦ wrong_amount game h p amount ] in ap pick e

allows-none : (game : Game) (h : List Turn) (p : ℕ) (a : Action) → Allows game h p a → fault_at game h p a ≡ None
unfolding fault_at
allows-none game h p Fold facing = let test : ltb (spent game h p) (max_spent game h) ≡ true = lt-ltb _ _ facing in rw test refl
allows-none game h p Call _ = refl
allows-none game h p (Raise amount) allowed =
    fault_of_raise-open game h p amount (may-none game h p allowed.0) ∙ amount-none game h p amount allowed.1 allowed.2

none-allows : (game : Game) (h : List Turn) (p : ℕ) (a : Action) → fault_at game h p a ≡ None → Allows game h p a
unfolding fault_at fault_of_raise
none-allows game h p Fold e = elim (cases_lt (spent game h p) (max_spent game h)) [
  | inl facing ↦ facing
  | inr even ↦ absurd (let test : ltb (spent game h p) (max_spent game h) ≡ false = le-ltb _ _ even in let wrong : Some FoldNotFacing ≡ None = rw test at e in cc)
]
none-allows game h p Call e = tt
none-allows game h p (Raise amount) e =
    (elim (no_raise game h p) as (λ o. no_raise game h p ≡ o → (let found : Option ActFault = elim o [ Some fault ↦ Some fault | None ↦ wrong_amount game h p amount ] in found ≡ None) → Allows game h p (Raise amount)) [
      | Some fault ↦ λ is wrong. absurd (cc)
      | None ↦ λ is none.
          let ends : (least_raise game h p ≤ amount) × (amount ≤ greatest_raise game h p) = none-amount game h p amount none in
          (none-may game h p is, ends.0, ends.1)
    ]) refl e

-- an action is allowed exactly where there is no fault
pub can_act-none : (game : Game) (h : List Turn) (a : Action) → CanAct game h a → fault_of game h a ≡ None
unfolding CanAct
can_act-none game h a can = fault_of-position game h a can.0 can.1 ∙ allows-none game h can.0 a can.2

pub none-can_act : (game : Game) (h : List Turn) (a : Action) → fault_of game h a ≡ None → CanAct game h a
unfolding CanAct fault_of
none-can_act game h a e =
    (elim (to_act game h) as (λ o. to_act game h ≡ o → elim o [ None ↦ Some Finished | Some position ↦ fault_at game h position a ] ≡ None → (position : ℕ) × (to_act game h ≡ Some position) × Allows game h position a) [
      | None ↦ λ is wrong. absurd (cc)
      | Some p ↦ λ is none. (p, is, none-allows game h p a none)
    ]) refl e

-- the faults of a fold and of an amount, one by one
pub fold_faces : (game : Game) (h : List Turn) (p : ℕ) → spent game h p < max_spent game h → None ≡ fault_at game h p Fold
unfolding fault_at
fold_faces game h p facing = let test : ltb (spent game h p) (max_spent game h) ≡ true = lt-ltb _ _ facing in rw test refl

pub fold_even : (game : Game) (h : List Turn) (p : ℕ) → max_spent game h ≤ spent game h p → Some FoldNotFacing ≡ fault_at game h p Fold
unfolding fault_at
fold_even game h p even = let test : ltb (spent game h p) (max_spent game h) ≡ false = le-ltb _ _ even in rw test refl

module _ (game : Game) (h : List Turn) (p amount : ℕ) (none : None ≡ no_raise game h p) where
  pub amount_small : (least : ℕ) → least ≡ least_raise game h p → amount < least → Some (RaiseTooSmall least) ≡ fault_of_raise game h p amount
  unfolding wrong_amount
  amount_small least e b =
      let test : ltb amount (least_raise game h p) ≡ true = lt-ltb _ _ (omega (arith, e)) in
      sym (fault_of_raise-open game h p amount (sym none) ∙ (rw (test, e) refl))

  pub amount_large : (least greatest : ℕ) → least ≡ least_raise game h p → greatest ≡ greatest_raise game h p → least ≤ amount → greatest < amount → Some (RaiseTooLarge greatest) ≡ fault_of_raise game h p amount
  unfolding wrong_amount
  amount_large least greatest e f a b =
      let test : ltb amount (least_raise game h p) ≡ false = le-ltb _ _ (omega (arith, e)) in
      let too : ltb (greatest_raise game h p) amount ≡ true = lt-ltb _ _ (omega (arith, f)) in
      sym (fault_of_raise-open game h p amount (sym none) ∙ (rw (test, too, f) refl))

  pub amount_right : (least greatest : ℕ) → least ≡ least_raise game h p → greatest ≡ greatest_raise game h p → least ≤ amount → amount ≤ greatest → None ≡ fault_of_raise game h p amount
  unfolding wrong_amount
  amount_right least greatest e f a b =
      let test : ltb amount (least_raise game h p) ≡ false = le-ltb _ _ (omega (arith, e)) in
      let too : ltb (greatest_raise game h p) amount ≡ false = le-ltb _ _ (omega (arith, f)) in
      sym (fault_of_raise-open game h p amount (sym none) ∙ (rw (test, too) refl))

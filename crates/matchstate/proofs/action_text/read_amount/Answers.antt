use Rattle.std.proofs.Common.{◌≡◌, ℕ, ◌^◌, ◌<◌, ◌≤◌, List, ◌∷◌, Option, Some, None, IsSome, sym, ap, subst, arith, inl, inr, decimal, rules}
use Rattle.std.specs.Bool.{IsTrue}
use Rattle.game_def.specs.Game.{Game}
use Rattle.betting.specs.Turns.{Turn}
use Rattle.betting.specs.Legal.{IsRaiseRange}
use Rattle.matchstate.specs.ActionText.{IsRaiseText}
use Rattle.matchstate.proofs.action_text.read_amount.Goals as goal

no_limit_only : (sizes : Option (List ℕ)) (game : Game) (past : List Turn) (digits : List ℕ) (amount : ℕ) (read : Option ℕ) → (IsSome sizes → ⊥) → ((n : ℕ) → n < 2 ^ 32 → digits ≡ decimal n → read ≡ Some n) → IsRaiseText sizes game past (114 ∷ digits) amount → read ≡ Some amount
no_limit_only None game past digits amount read none only text = let e = text.0 in only amount text.1 (cc)
no_limit_only (Some sizes) game past digits amount read none only text = absurd (none (search rules))

limit_only : (sizes : Option (List ℕ)) (game : Game) (past : List Turn) (digits : List ℕ) (amount least greatest : ℕ) → IsSome sizes → IsRaiseRange game past least greatest → least ≡ greatest → IsRaiseText sizes game past (114 ∷ digits) amount → least ≡ amount
limit_only None game past digits amount least greatest some range same text = absurd (search (rules, some))
limit_only (Some sizes) game past digits amount least greatest some range same text =
    elim text.1 [
      | inl can ↦ let within = (range.legal amount).0 can in let low : least ≤ amount = within.0 in let high : amount ≤ greatest = within.1 in omega arith
      | inr none ↦ absurd (none.1 least ((range.legal least).1 (omega arith, range.some)))
    ]

pub returns-then-not-is_limit-clause-only : goal.returns-then-not-is_limit-clause-only
returns-then-not-is_limit-clause-only c =
    λ amount text.
    let play = c.args.play.now in
    let no_sizes : IsSome play.game.raise_sizes → ⊥ = λ some.
    let is : IsTrue c.is_limit.result = c.is_limit.ensures.1 (subst (λ (g : Game). IsSome g.raise_sizes) (sym c.game.ensures) some) in
    let no = c.if-not-is_limit.true in
    search rules in
    no_limit_only play.game.raise_sizes play.game _ c.args.digits.now amount c.read_number.result no_sizes c.read_number.ensures.only text

pub returns-in-Some-clause-only : goal.returns-in-Some-clause-only
returns-in-Some-clause-only c =
    λ amount text.
    let play = c.args.play.now in
    let is : IsTrue c.is_limit.result = let no = c.if-not-is_limit.false in search rules in
    let some : IsSome play.game.raise_sizes = subst (λ (g : Game). IsSome g.raise_sizes) c.game.ensures (c.is_limit.ensures.0 is) in
    ap Some (limit_only play.game.raise_sizes play.game _ c.args.digits.now amount c.in-Some.least c.in-Some.field-0-1 some c.in-Some.ensures.ends (c.in-Some.ensures.fixed some) text)

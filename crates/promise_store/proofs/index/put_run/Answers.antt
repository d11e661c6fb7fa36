use Rattle.std.proofs.Common.{◌≡◌, ℕ, ◌+◌, ◌<◌, List, [], ◌∷◌, ◌++◌, Option, length, take, drop, get_or, refl, sym, ◌∙◌, ap, subst, arith, take-append-drop}
use Rattle.std.proofs.lemmas.List.{take_more, drop_more, length-take-le}
use Rattle.slot_log.specs.declared.command.Command.{Command}
use Rattle.paxos_wire.specs.Fits.{IsBallot}
use Rattle.promise_store.specs.declared.placed.Placed.{Placed}
use Rattle.promise_store.specs.Index.{found}
use Rattle.promise_store.specs.Holding.{Kept, next_at, placed_of, with_votes}
use Rattle.promise_store.proofs.Indexed.{behind_all, behind_push, with_one, votes_push, IsBehind, is_behind, beginning_most, holds_more}
use Rattle.promise_store.proofs.index.put_run.Goals as goal

-- one command more of a list
one_more : (xs : List Command) (i : ℕ) (x : Command) → x ≡ get_or xs i x → i < length xs → take (i + 1) xs ≡ take i xs ++ x ∷ []
one_more xs i x is low = take_more xs i x low ∙ ap (λ (y : Command). take i xs ++ y ∷ []) (sym is)

around : (xs : List Command) (i : ℕ) (x : Command) → x ≡ get_or xs i x → i < length xs → take i xs ++ x ∷ drop (i + 1) xs ≡ xs
around xs i x is low = ap (λ (l : List Command). take i xs ++ l) (ap (λ (y : Command). y ∷ drop (i + 1) xs) is ∙ sym (drop_more xs i x low)) ∙ take-append-drop i xs

where_it_is : (first here : Placed) (xs : List Command) (i : ℕ) → here ≡ behind_all first (take i xs) → IsBehind first here (take i xs)
where_it_is first here xs i is = subst (λ (p : Placed). IsBehind first p (take i xs)) (sym is) (is_behind first (take i xs))

pub loop-command-init : goal.loop-command-init
loop-command-init c = record { rising = c.requires.rising; capacity = refl; len = omega arith; here = refl; found = λ held has slot. has slot; range = λ ballot all. all }

pub overflow_add-placed : goal.overflow_add-placed
overflow_add-placed c =
    let here = where_it_is c.args.first c.loop-command.placed c.args.commands.now c.loop-command.command-index c.loop-command.invariant.here in
    let low : c.loop-command.command-index < length c.args.commands.now = omega (arith, c.loop-command-test.true) in
    omega (arith, here.slot, length-take-le c.loop-command.command-index c.args.commands.now (omega (arith, low)), low, c.requires.slots)

pub overflow_add-placed-in-loop-command : goal.overflow_add-placed-in-loop-command
overflow_add-placed-in-loop-command c =
    let xs = c.args.commands.now in
    let i = c.loop-command.command-index in
    let x = c.command-item.result in
    let low : i < length xs = omega (arith, c.loop-command-test.true) in
    let here = where_it_is c.args.first c.loop-command.placed xs i c.loop-command.invariant.here in
    omega (arith, here.inside, c.command_len.ensures.value, beginning_most (take i xs) x (drop (i + 1) xs) xs (around xs i x c.command-item.is low), c.requires.inside)

pub loop-command-preserved : goal.loop-command-preserved
loop-command-preserved c =
    let xs = c.args.commands.now in
    let i = c.loop-command.command-index in
    let x = c.command-item.result in
    let first = c.args.first in
    let placed = c.loop-command.placed in
    let inv = c.loop-command.invariant in
    let low : i < length xs = omega (arith, c.loop-command-test.true) in
    let step : take (i + 1) xs ≡ take i xs ++ x ∷ [] = one_more xs i x c.command-item.is low in
    let here = where_it_is first placed xs i inv.here in
    record {
      rising = c.put.ensures.rising;
      capacity = c.put.ensures.capacity ∙ inv.capacity;
      len = omega (arith, c.put.ensures.len, inv.len);
      here = (λ j. record { place = placed.place; ballot = placed.ballot; slot = placed.slot + 1; length = placed.length; inside = placed.inside + c.command_len.ensures.value j })
          ∙ ap (λ (p : Placed). next_at p x) inv.here ∙ sym (behind_push first (take i xs) x) ∙ ap (behind_all first) (sym step);
      found = λ held has slot.
          let all : with_one placed x (with_votes first (take i xs) held) ≡ with_votes first (take (i + 1) xs) held =
          ap (λ (p : Placed). with_one p x (with_votes first (take i xs) held)) inv.here ∙ sym (votes_push first (take i xs) x held) ∙ ap (λ (l : List Command). with_votes first l held) (sym step) in
          holds_more (λ k. found k c.loop-command.entries.items) (λ k. found k c.put.new.entries.items) (with_votes first (take i xs) held) placed x (λ k. inv.found held has k) (λ k. c.put.ensures.found k) slot
          ∙ ap (λ (f : ℕ → Option Kept). placed_of (f slot)) all;
      range = λ ballot all. c.put.ensures.range (subst IsBallot (sym here.ballot) ballot)
          (omega (arith, here.slot, length-take-le i xs (omega (arith, low)), low, c.requires.slots)) (inv.range ballot all);
    }

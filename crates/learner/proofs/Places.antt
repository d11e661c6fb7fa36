-- Where a command's tally stands, and what one more node makes of the tallies.
use Rattle.std.proofs.Common.{ℕ, ◌≡◌, ◌<◌, ◌+◌, Bool, true, false, zero, suc, List, [], ◌∷◌, ◌++◌, refl, ap, arith, if◌then◌else◌, length, get_or, set}
use Rattle.paxos_wire.specs.declared.ballot.Ballot.{Ballot}
use Rattle.slot_log.specs.declared.command.Command.{Command}
use Rattle.learner.specs.declared.tally.Tally.{Tally}
use Rattle.learner.specs.Tallies.{no_nodes, is_of, skipped, nodes_for, with_node}

module _ (b : Ballot) (c : Command) where
  abbrev fresh : ℕ → Tally
  fresh from = record { ballot = b; command = c; nodes = set no_nodes from true }

  abbrev marked : Tally → ℕ → Tally
  marked t from = record { ballot = t.ballot; command = t.command; nodes = set t.nodes from true }

  new_step : (from : ℕ) (t : Tally) (ts : List Tally) (y : Bool) → suc (length ts) ≡ (if y then 0 else 1 + skipped b c ts)
      → (length ts ≡ skipped b c ts → ts ++ fresh from ∷ [] ≡ with_node b c from ts)
      → t ∷ (ts ++ fresh from ∷ []) ≡ (if y then marked t from ∷ ts else t ∷ with_node b c from ts)
  new_step from t ts true h rest = absurd (omega (arith, h))
  new_step from t ts false h rest = ap (λ us. t ∷ us) (rest (omega (arith, h)))

  -- where there is no tally of it yet
  pub put_new : (from : ℕ) (ts : List Tally) → length ts ≡ skipped b c ts → ts ++ fresh from ∷ [] ≡ with_node b c from ts
  put_new from [] h = refl
  put_new from (t ∷ ts) h = new_step from t ts (is_of b c t) h (put_new from ts)

  nodes_new_step : (t : Tally) (ts : List Tally) (y : Bool) → suc (length ts) ≡ (if y then 0 else 1 + skipped b c ts)
      → (length ts ≡ skipped b c ts → nodes_for b c ts ≡ no_nodes) → (if y then t.nodes else nodes_for b c ts) ≡ no_nodes
  nodes_new_step t ts true h rest = absurd (omega (arith, h))
  nodes_new_step t ts false h rest = rest (omega (arith, h))

  pub nodes_new : (ts : List Tally) → length ts ≡ skipped b c ts → nodes_for b c ts ≡ no_nodes
  nodes_new [] h = refl
  nodes_new (t ∷ ts) h = nodes_new_step t ts (is_of b c t) h (nodes_new ts)

  put_step : (from place : ℕ) (t x : Tally) (ts : List Tally) (y : Bool) → place ≡ (if y then 0 else 1 + skipped b c ts) → place < suc (length ts)
      → x ≡ get_or (t ∷ ts) place x
      → ((rest : ℕ) → rest ≡ skipped b c ts → rest < length ts → x ≡ get_or ts rest x → set ts rest (marked x from) ≡ with_node b c from ts)
      → set (t ∷ ts) place (marked x from) ≡ (if y then marked t from ∷ ts else t ∷ with_node b c from ts)
  put_step from zero t x ts true h within is rest = ap (λ u. marked u from ∷ ts) is
  put_step from (suc place) t x ts true h within is rest = absurd (omega arith)
  put_step from zero t x ts false h within is rest = absurd (omega arith)
  put_step from (suc place) t x ts false h within is rest = ap (λ us. t ∷ us) (rest place (omega arith) (omega arith) is)

  -- and where there is one
  pub put_at : (from place : ℕ) (x : Tally) (ts : List Tally) → place ≡ skipped b c ts → place < length ts → x ≡ get_or ts place x
      → set ts place (marked x from) ≡ with_node b c from ts
  put_at from place x [] h within is = absurd (omega arith)
  put_at from place x (t ∷ ts) h within is = put_step from place t x ts (is_of b c t) h within is (λ rest e w i. put_at from rest x ts e w i)

  nodes_step : (place : ℕ) (t x : Tally) (ts : List Tally) (y : Bool) → place ≡ (if y then 0 else 1 + skipped b c ts) → place < suc (length ts)
      → x ≡ get_or (t ∷ ts) place x
      → ((rest : ℕ) → rest ≡ skipped b c ts → rest < length ts → x ≡ get_or ts rest x → x.nodes ≡ nodes_for b c ts)
      → x.nodes ≡ (if y then t.nodes else nodes_for b c ts)
  nodes_step zero t x ts true h within is rest = ap (λ (u : Tally). u.nodes) is
  nodes_step (suc place) t x ts true h within is rest = absurd (omega arith)
  nodes_step zero t x ts false h within is rest = absurd (omega arith)
  nodes_step (suc place) t x ts false h within is rest = rest place (omega arith) (omega arith) is

  pub nodes_at : (place : ℕ) (x : Tally) (ts : List Tally) → place ≡ skipped b c ts → place < length ts → x ≡ get_or ts place x → x.nodes ≡ nodes_for b c ts
  nodes_at place x [] h within is = absurd (omega arith)
  nodes_at place x (t ∷ ts) h within is = nodes_step place t x ts (is_of b c t) h within is (λ rest e w i. nodes_at rest x ts e w i)

-- What holds of every number of nodes that a match may have.
use Rattle.std.proofs.Common.{◌≡◌, ℕ, ◌+◌, ◌*◌, ◌≤◌, inl, inr, sym, subst, arith, lit≤}
use Rattle.paxos_wire.specs.declared.limits.TheConstants.{NODES}
use Rattle.dealer_kind.specs.Plans.{HasNodes}

pub three_nodes : (nodes : ℕ) → HasNodes nodes → 3 ≤ nodes
three_nodes nodes (inl e) = omega (arith, e)
three_nodes nodes (inr (inl e)) = omega (arith, e)
three_nodes nodes (inr (inr e)) = omega (arith, e)

pub few_nodes : (nodes : ℕ) → HasNodes nodes → nodes ≤ NODES
few_nodes nodes (inl e) = subst (λ n. n ≤ NODES) (sym e) (lit≤ tt)
few_nodes nodes (inr (inl e)) = subst (λ n. n ≤ NODES) (sym e) (lit≤ tt)
few_nodes nodes (inr (inr e)) = subst (λ n. n ≤ NODES) (sym e) (lit≤ tt)

pub odd_nodes : (nodes : ℕ) → HasNodes nodes → (quorum : ℕ) × (2 * quorum ≡ nodes + 1)
odd_nodes nodes (inl e) = (2, omega (arith, e))
odd_nodes nodes (inr (inl e)) = (3, omega (arith, e))
odd_nodes nodes (inr (inr e)) = (4, omega (arith, e))

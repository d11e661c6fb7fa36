-- A set to which nodes are added one by one has those whose promises were counted, and counts as they do.
use Rattle.std.proofs.Common.{◌≡◌, ℕ, zero, suc, ◌<◌, ◌≤◌, Bool, false, List, length, refl, arith}
use Rattle.paxos_wire.specs.declared.limits.TheConstants.{NODES}
use Rattle.paxos_wire.specs.NodeSets.{count, has}
use Rattle.proposer.specs.declared.campaign.Campaign.{Campaign}
use Rattle.proposer.specs.Campaigns.{has_promised}

-- of the first n nodes those whose promises were counted are in the set, and no other node is
pub record AreAdded (campaign : Campaign) (nodes : List Bool) (n : ℕ) : Type 0 where
  pub places : length nodes ≡ NODES
  pub counted : (node : ℕ) → node < n → has nodes node ≡ has_promised campaign node
  pub rest : (node : ℕ) → n ≤ node → has nodes node ≡ false

-- sets that have the same of the first n nodes count the same of them
pub count_same : (p q : ℕ → Bool) (n : ℕ) → ((node : ℕ) → node < n → p node ≡ q node) → count p n ≡ count q n
count_same p q zero same = refl
count_same p q (suc n) same = rw (same n (omega arith), count_same p q n (λ node low. same node (omega (arith, low)))) refl

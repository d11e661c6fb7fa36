-- Which of what is held is within the ranges of frames.
use Rattle.std.specs.Prelude.{◌≡◌, ℕ, ◌^◌, ◌<◌, Some, List}
use Rattle.paxos_wire.specs.declared.ballot.Ballot.{Ballot}
use Rattle.paxos_wire.specs.declared.limits.TheConstants.{NODES}
use Rattle.paxos_wire.specs.Fits.{IsBallot, IsSlot}
use Rattle.promise_store.specs.declared.placed.Placed.{Placed}
use Rattle.promise_store.specs.Index.{found}

-- a ballot within the ranges of frames, or, in round 0, of node 0: none
pub record IsBallotOrNone (b : Ballot) : Type 0 where
  pub last : b.round < 2 ^ 32
  pub node : b.node < NODES
  pub none : b.round ≡ 0 → b.node ≡ 0

-- the entry that is found at a slot has a ballot and a slot within the ranges of frames
abbrev pub AreInRange : List Placed → Type 0
AreInRange entries = (slot : ℕ) (placed : Placed) → found slot entries ≡ Some placed → IsBallot placed.ballot × IsSlot placed.slot

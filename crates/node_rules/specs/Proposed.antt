-- What a node proposed in the ballot that it promised last, and that it leaves nothing unproposed.
use Rattle.std.specs.Prelude.{◌≡◌, ℕ, ◌≤◌, ◌⊎◌, true, false, nat_le, List, length, Option, Some, None, Ok}
use Rattle.paxos_wire.specs.declared.limits.TheConstants.{SLOTS}
use Rattle.paxos_wire.specs.declared.ballot.Ballot.{Ballot}
use Rattle.slot_log.specs.declared.command.Command.{Command}
use Rattle.protocol_model.specs.Sets.{In}
use Rattle.protocol_model.specs.Messages.{Message, Accept}
use Rattle.protocol_model.specs.Quorums.{IsFree, IsGreatestTold}
use Rattle.protocol_model.specs.Stores.{Store}
use Rattle.proposer.specs.Campaigns.{leads}
use Rattle.node_rules.specs.Standings.{Place, Standing, front_of}
use Rattle.node_rules.specs.Proposing.{proposal_at}

-- the value of a slot in a ballot, by the promises of the ballot that are had and by what the node has of its own: the told command of the
-- greatest ballot, or where none was told the own one
abbrev pub IsValue : ℕ → List Message → Ballot → ℕ → Option Command → Command → Type 0
IsValue n has ballot slot own command = IsGreatestTold n has ballot slot command ⊎ (IsFree n has ballot slot × (own ≡ Some command))

-- what node i proposed since its start in the ballot that it promised last: it is its own ballot, it voted for each of these commands itself, none
-- stands beyond the commands that it applied but such as were told, and the one at its front is the value there
pub record IsProposed (n i : ℕ) (upto : List Command) (front : ℕ) (own : Option Command) (store : Store) (has sent : List Message) : Type 0 where
  pub ballots : (ballot : Ballot) (slot : ℕ) (command : Command) → In (Accept ballot slot command) sent → ballot.node ≡ i
  pub voted : (slot : ℕ) (command : Command) → In (Accept store.promise slot command) sent
      → store.votes slot ≡ Some (record { ballot = store.promise; command = command })
  pub told : (slot : ℕ) (command : Command) → In (Accept store.promise slot command) sent
      → (slot ≤ length upto) ⊎ IsGreatestTold n has store.promise slot command
  pub by_rule : (command : Command) → In (Accept store.promise front command) sent → IsValue n has store.promise front own command

-- where the node leads, there is a slot at its front, and nothing is left to propose there
abbrev pub IsSettled : Place → Standing → Type 0
IsSettled place s = leads place.nodes s.campaign ≡ true → (nat_le SLOTS (front_of s) ≡ false) × (proposal_at place s ≡ Ok None)

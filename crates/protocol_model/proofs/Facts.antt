-- What holds of the messages that were ever sent, whoever is up.
use Rattle.std.proofs.Common.{◌≡◌, ℕ, ◌⊎◌, inl, inr, true, List, length}
use Rattle.paxos_wire.specs.declared.ballot.Ballot.{Ballot}
use Rattle.slot_log.specs.declared.command.Command.{Command}
use Rattle.protocol_model.specs.Laws.{IsOwned}
use Rattle.protocol_model.specs.Sets.{In}
use Rattle.protocol_model.specs.Ballots.{Below, AtMost}
use Rattle.paxos_wire.specs.declared.entry.Entry.{Entry}
use Rattle.protocol_model.specs.Messages.{Vote, entry_of, Message, Covers, Prepare, Promise, Refuse, Accept, Accepted, Chosen, Ask, Forward, Said}
use Rattle.protocol_model.specs.Quorums.{IsChosen, AreChosen, IsFree, IsGreatestTold}
use Rattle.protocol_model.specs.Dealers.{Dealer}
use Rattle.protocol_model.proofs.Sets.{Within}
use Rattle.protocol_model.proofs.Quorums.{chosen_stays, all_chosen_stay, promises_stay, greatest_stays}

-- a quorum's promises allow to propose the command
abbrev pub IsSafe : ℕ → List Message → Ballot → ℕ → Command → Type 0
IsSafe n ever ballot slot command = IsGreatestTold n ever ballot slot command ⊎ IsFree n ever ballot slot

-- the command fits after chosen ones at all slots below its own
abbrev pub IsFitting : Dealer → ℕ → List Message → ℕ → Command → Type 0
IsFitting dealer n ever slot command =
    (before : List Command) × AreChosen n ever before × (slot ≡ length before) × (dealer.fits before command ≡ true)

-- some node owns it, or noted that it was said
abbrev pub HasSource : Dealer → ℕ → List Message → Command → Type 0
HasSource dealer n ever command = IsOwned dealer n command ⊎ ((node : ℕ) × In (Said node command) ever)

-- what stands behind a message, once and for all
abbrev pub IsRight : Dealer → ℕ → List Message → Message → Type 0
IsRight dealer n ever (Prepare ballot slot) = Unit {0}
IsRight dealer n ever (Promise sender ballot first told) =
    (entry : Entry) → In entry told → In (Accept entry.ballot entry.slot entry.command) ever × Below entry.ballot ballot
IsRight dealer n ever (Refuse sender ballot slot greater) = Unit {0}
IsRight dealer n ever (Accept ballot slot command) =
    IsSafe n ever ballot slot command × IsFitting dealer n ever slot command × HasSource dealer n ever command
IsRight dealer n ever (Accepted sender ballot slot command) = In (Accept ballot slot command) ever
IsRight dealer n ever (Chosen sender slot command) = IsChosen n ever slot command
IsRight dealer n ever (Ask sender slot) = Unit {0}
IsRight dealer n ever (Forward sender act) = In (Said sender act) ever
IsRight dealer n ever (Said sender act) = Unit {0}

-- the entries tell of a vote at the slot, of this ballot or a greater one
abbrev pub TellsAtLeast : List Entry → ℕ → Ballot → Type 0
TellsAtLeast told slot ballot = (vote : Vote) × In (entry_of slot vote) told × AtMost ballot vote.ballot

pub record Facts (dealer : Dealer) (n : ℕ) (ever : List Message) : Type 0 where
  pub right : (message : Message) → In message ever → IsRight dealer n ever message
  -- in one ballot and slot one command is proposed
  pub one : (ballot : Ballot) (slot : ℕ) (c d : Command) → In (Accept ballot slot c) ever → In (Accept ballot slot d) ever → c ≡ d
  -- a promise tells of what its sender accepted in lower ballots
  pub told : (sender : ℕ) (ballot : Ballot) (first : ℕ) (told : List Entry) (lower : Ballot) (slot : ℕ) (command : Command)
      → In (Promise sender ballot first told) ever → In (Accepted sender lower slot command) ever → Covers first slot → Below lower ballot
      → TellsAtLeast told slot lower

pub safe_stays : (n : ℕ) (xs ys : List Message) (ballot : Ballot) (slot : ℕ) (command : Command)
    → Within xs ys → IsSafe n xs ballot slot command → IsSafe n ys ballot slot command
safe_stays n xs ys ballot slot command within (inl g) = inl (greatest_stays n xs ys ballot slot command within g)
safe_stays n xs ys ballot slot command within (inr f) = inr (promises_stay n xs ys ballot slot _ within f)

pub source_stays : (dealer : Dealer) (n : ℕ) (xs ys : List Message) (command : Command)
    → Within xs ys → HasSource dealer n xs command → HasSource dealer n ys command
source_stays dealer n xs ys command within (inl own) = inl own
source_stays dealer n xs ys command within (inr s) = inr (s.0, within _ s.1)

pub right_stays : (dealer : Dealer) (n : ℕ) (xs ys : List Message) (message : Message)
    → Within xs ys → IsRight dealer n xs message → IsRight dealer n ys message
right_stays dealer n xs ys (Prepare ballot slot) within r = tt
right_stays dealer n xs ys (Promise sender ballot first told) within r = λ entry here. (within _ (r entry here).0, (r entry here).1)
right_stays dealer n xs ys (Refuse sender ballot slot greater) within r = tt
right_stays dealer n xs ys (Accept ballot slot command) within r =
    (safe_stays n xs ys ballot slot command within r.0, (r.1.0, all_chosen_stay n xs ys r.1.0 within r.1.1, r.1.2, r.1.3), source_stays dealer n xs ys command within r.2)
right_stays dealer n xs ys (Accepted sender ballot slot command) within r = within _ r
right_stays dealer n xs ys (Chosen sender slot command) within r = chosen_stays n xs ys slot command within r
right_stays dealer n xs ys (Ask sender slot) within r = tt
right_stays dealer n xs ys (Forward sender act) within r = within _ r
right_stays dealer n xs ys (Said sender act) within r = tt

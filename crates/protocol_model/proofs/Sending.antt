-- What one more message asks for, and that all that held before goes on to hold.
use Rattle.std.proofs.Common.{◌≡◌, ◌≢◌, ℕ, inl, inr, true, List, [], ◌∷◌, ap, sym, ◌∙◌, subst}
use Rattle.paxos_wire.specs.declared.ballot.Ballot.{Ballot}
use Rattle.slot_log.specs.declared.command.Command.{Command}
use Rattle.protocol_model.specs.Sets.{In}
use Rattle.protocol_model.specs.Ballots.{Below, AtMost}
use Rattle.paxos_wire.specs.declared.entry.Entry.{Entry}
use Rattle.protocol_model.specs.Messages.{Message, sender_of, Covers, Prepare, Promise, Refuse, Accept, Accepted, Chosen, Ask, Forward, Said}
use Rattle.protocol_model.specs.Quorums.{IsChosen}
use Rattle.protocol_model.specs.Dealers.{Dealer}
use Rattle.protocol_model.specs.Nodes.{Node}
use Rattle.protocol_model.specs.Moves.{with_sent}
use Rattle.protocol_model.proofs.Sets.{Within}
use Rattle.protocol_model.proofs.Ballots.{not_below}
use Rattle.protocol_model.proofs.Quorums.{chosen_stays}
use Rattle.protocol_model.proofs.Facts.{IsRight, TellsAtLeast, Facts, right_stays}
use Rattle.protocol_model.proofs.Stores.{IsBacked, Holds, holds_for_others, holds_for_own}

-- what a node knows is true, and what it sent is backed
pub record NodeFacts (n i : ℕ) (ever : List Message) (node : Node) : Type 0 where
  pub store : Holds i ever node.store
  pub begun : Holds i ever node.begun
  pub same : node.up ≡ true → node.begun ≡ node.store
  pub has : Within node.has ever
  pub sent : (message : Message) → In message node.sent → In message ever × (sender_of message ≡ i)
  -- it proposed since its start all that was ever proposed in a ballot that it began since its start
  pub fresh : (ballot : Ballot) (first slot : ℕ) (command : Command) → In (Prepare ballot first) node.sent
      → In (Accept ballot slot command) ever → In (Accept ballot slot command) node.sent
  pub known : (slot : ℕ) (command : Command) → In (slot, command) node.known → IsChosen n ever slot command

-- the message conflicts with none that was sent
abbrev pub IsNew : List Message → Message → Type 0
IsNew ever (Prepare ballot slot) = (s : ℕ) (command : Command) → In (Accept ballot s command) ever → ⊥
IsNew ever (Promise sender ballot first told) =
    (lower : Ballot) (slot : ℕ) (command : Command) → In (Accepted sender lower slot command) ever → Covers first slot → Below lower ballot
    → TellsAtLeast told slot lower
IsNew ever (Refuse sender ballot slot greater) = Unit {0}
IsNew ever (Accept ballot slot command) = (other : Command) → In (Accept ballot slot other) ever → ⊥
IsNew ever (Accepted sender ballot slot command) =
    (other : Ballot) (first : ℕ) (told : List Entry) → In (Promise sender other first told) ever → AtMost other ballot
IsNew ever (Chosen sender slot command) = Unit {0}
IsNew ever (Ask sender slot) = Unit {0}
IsNew ever (Forward sender act) = Unit {0}
IsNew ever (Said sender act) = Unit {0}

same_command : (ballot : Ballot) (slot : ℕ) (c d : Command) (message : Message) → Accept ballot slot c ≡ message → Accept ballot slot d ≡ message → c ≡ d
same_command ballot slot c d message e f = cc

no_both : (sender other : ℕ) (ballot lower : Ballot) (first slot : ℕ) (told : List Entry) (command : Command) (message : Message)
    → Promise sender ballot first told ≡ message → Accepted other lower slot command ≡ message → ⊥
no_both sender other ballot lower first slot told command message e f = cc

no_prepare : (ballot other : Ballot) (first slot : ℕ) (command : Command) (message : Message) → Prepare ballot first ≡ message → Accept other slot command ≡ message → ⊥
no_prepare ballot other first slot command message e f = cc

pub facts_grow : (dealer : Dealer) (n : ℕ) (ever : List Message) (message : Message) → Facts dealer n ever
    → IsRight dealer n ever message → IsNew ever message → Facts dealer n (message ∷ ever)
facts_grow dealer n ever message facts right new = record {
  right = λ m here. elim here [
    | inl e ↦ subst (IsRight dealer n (message ∷ ever)) (sym e) (right_stays dealer n ever (message ∷ ever) message (λ x h. inr h) right)
    | inr old ↦ right_stays dealer n ever (message ∷ ever) m (λ x h. inr h) (facts.right m old)
  ];
  one = λ ballot slot c d first second. elim first [
    | inl e ↦ elim second [
      | inl f ↦ same_command ballot slot c d message e f
      | inr old ↦ absurd ((let now : IsNew ever (Accept ballot slot c) = subst (IsNew ever) (sym e) new in now) d old)
    ]
    | inr older ↦ elim second [
      | inl f ↦ absurd ((let now : IsNew ever (Accept ballot slot d) = subst (IsNew ever) (sym f) new in now) c older)
      | inr old ↦ facts.one ballot slot c d older old
    ]
  ];
  told = λ sender ballot first told lower slot command promise accepted covers below. elim promise [
    | inl e ↦ elim accepted [
      | inl f ↦ absurd (no_both sender sender ballot lower first slot told command message e f)
      | inr old ↦ (let now : IsNew ever (Promise sender ballot first told) = subst (IsNew ever) (sym e) new in now) lower slot command old covers below
    ]
    | inr older ↦ elim accepted [
      | inl f ↦ absurd (not_below ballot lower
          ((let now : IsNew ever (Accepted sender lower slot command) = subst (IsNew ever) (sym f) new in now) ballot first told older) below)
      | inr old ↦ facts.told sender ballot first told lower slot command older old covers below
    ]
  ];
}

-- another node's message changes nothing for a node
pub others_keep : (n j : ℕ) (ever : List Message) (node : Node) (message : Message) → sender_of message ≢ j
    → NodeFacts n j ever node → NodeFacts n j (message ∷ ever) node
others_keep n j ever node message other facts = record {
  store = holds_for_others j ever node.store message other facts.store;
  begun = holds_for_others j ever node.begun message other facts.begun;
  same = facts.same;
  has = λ m here. inr (facts.has m here);
  sent = λ m here. (inr (facts.sent m here).0, (facts.sent m here).1);
  fresh = λ ballot first slot command begun proposed. elim proposed [
    | inl e ↦ absurd (other (ap sender_of (sym e) ∙ (facts.sent (Prepare ballot first) begun).1))
    | inr old ↦ facts.fresh ballot first slot command begun old
  ];
  known = λ slot command here. chosen_stays n ever (message ∷ ever) slot command (λ x h. inr h) (facts.known slot command here);
}

-- a node sends what its stores back
pub sender_keeps : (n i : ℕ) (ever : List Message) (node : Node) (message : Message) → sender_of message ≡ i
    → IsBacked node.store message → IsBacked node.begun message → IsNew ever message
    → NodeFacts n i ever node → NodeFacts n i (message ∷ ever) (with_sent node (message ∷ []))
sender_keeps n i ever node message own stored begun new facts = record {
  store = holds_for_own i ever node.store message stored facts.store;
  begun = holds_for_own i ever node.begun message begun facts.begun;
  same = facts.same;
  has = λ m here. inr (facts.has m here);
  sent = λ m here. elim here [
    | inl e ↦ (inl e, ap sender_of e ∙ own)
    | inr old ↦ (inr (facts.sent m old).0, (facts.sent m old).1)
  ];
  fresh = λ ballot first slot command prepared proposed. elim prepared [
    | inl e ↦ elim proposed [
      | inl f ↦ absurd (no_prepare ballot ballot first slot command message e f)
      | inr old ↦ absurd ((let now : IsNew ever (Prepare ballot first) = subst (IsNew ever) (sym e) new in now) slot command old)
    ]
    | inr older ↦ elim proposed [
      | inl f ↦ inl f
      | inr old ↦ inr (facts.fresh ballot first slot command older old)
    ]
  ];
  known = λ slot command here. chosen_stays n ever (message ∷ ever) slot command (λ x h. inr h) (facts.known slot command here);
}

-- what a step of node i keeps
pub record Kept (dealer : Dealer) (n i : ℕ) (ever later : List Message) (new : Node) : Type 0 where
  pub facts : Facts dealer n later
  pub node : NodeFacts n i later new
  pub others : (j : ℕ) (node : Node) → j ≢ i → NodeFacts n j ever node → NodeFacts n j later node

pub silent : (dealer : Dealer) (n i : ℕ) (ever : List Message) (new : Node) → Facts dealer n ever → NodeFacts n i ever new → Kept dealer n i ever ever new
silent dealer n i ever new facts node = record { facts = facts; node = node; others = λ j other ne kept. kept }

-- a message may be sent that is right, new and backed
pub sends : (dealer : Dealer) (n i : ℕ) (ever : List Message) (node : Node) (message : Message) → Facts dealer n ever → NodeFacts n i ever node
    → sender_of message ≡ i → IsRight dealer n ever message → IsNew ever message → IsBacked node.store message → IsBacked node.begun message
    → Kept dealer n i ever (message ∷ ever) (with_sent node (message ∷ []))
sends dealer n i ever node message facts kept own right new stored begun = record {
  facts = facts_grow dealer n ever message facts right new;
  node = sender_keeps n i ever node message own stored begun new kept;
  others = λ j other ne holds. others_keep n j ever other message (λ same. ne (sym same ∙ own)) holds;
}

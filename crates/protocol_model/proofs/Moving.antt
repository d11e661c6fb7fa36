-- Each move keeps what holds.
use Rattle.std.proofs.Common.{◌≡◌, ℕ, suc, ◌<◌, ◌⊎◌, inl, inr, true, false, true≢false, Some, List, [], ◌∷◌, ◌++◌, length, refl, ap, sym, subst, subst₂, Option, None}
use Rattle.paxos_wire.specs.declared.ballot.Ballot.{Ballot}
use Rattle.slot_log.specs.declared.command.Command.{Command}
use Rattle.protocol_model.specs.Sets.{In}
use Rattle.protocol_model.specs.Ballots.{Below, AtMost}
use Rattle.paxos_wire.specs.declared.entry.Entry.{Entry}
use Rattle.protocol_model.specs.Messages.{Vote, vote_of, Message, Covers, Prepare, Promise, Refuse, Accept, Accepted, Chosen, Ask, Forward, Said}
use Rattle.protocol_model.specs.Quorums.{IsChosen, AreChosen}
use Rattle.protocol_model.specs.Stores.{Store, promised, voted, Tells}
use Rattle.protocol_model.specs.Dealers.{Dealer}
use Rattle.protocol_model.specs.Nodes.{Node, Knows}
use Rattle.protocol_model.specs.Moves
use Rattle.protocol_model.specs.Moves.{Output, nothing, sending, with_store, with_sent, IsAtHand, FitsAtFront, MayPropose, Move}
use Rattle.protocol_model.proofs.Sets.{put_same}
use Rattle.protocol_model.proofs.Ballots.{at_most_self, at_most_trans, not_below, below_of_at_most}
use Rattle.protocol_model.proofs.Quorums.{chosen_stays, greatest_stays, promises_stay}
use Rattle.protocol_model.proofs.Facts.{IsSafe, IsFitting, HasSource, Facts, TellsAtLeast}
use Rattle.protocol_model.proofs.Stores.{IsBacked, Holds, promised_holds, voted_holds, append_holds}
use Rattle.protocol_model.proofs.Sending.{NodeFacts, Kept, silent, sends}

moved : (dealer : Dealer) (n i : ℕ) (ever : List Message) (out o : Output) (new v : Node) → out ≡ o → new ≡ v
    → Kept dealer n i ever (o.sent ++ ever) v → Kept dealer n i ever (out.sent ++ ever) new
moved dealer n i ever out o new v eo en kept = subst₂ (λ x y. Kept dealer n i ever (x.sent ++ ever) y) (sym eo) (sym en) kept

pub knows_chosen : (n : ℕ) (ever : List Message) (known : List (ℕ × Command)) (commands : List Command)
    → ((slot : ℕ) (command : Command) → In (slot, command) known → IsChosen n ever slot command) → Knows known commands → AreChosen n ever commands
knows_chosen n ever known [] chosen knows = tt
knows_chosen n ever known (command ∷ before) chosen knows =
    (chosen (length before) command knows.0, knows_chosen n ever known before chosen knows.1)

-- the node with other stores
restored : (n i : ℕ) (ever : List Message) (node : Node) (store : Store) → NodeFacts n i ever node → Holds i ever store
    → NodeFacts n i ever (with_store node store)
restored n i ever node store facts holds = record {
  store = holds;
  begun = holds;
  same = λ up. refl;
  has = facts.has;
  sent = facts.sent;
  fresh = facts.fresh;
  known = facts.known;
}

gets_keeps : (n i : ℕ) (ever : List Message) (node : Node) (message : Message) → In message ever → NodeFacts n i ever node
    → NodeFacts n i ever (record node { has = message ∷ node.has })
gets_keeps n i ever node message here facts = record {
  store = facts.store;
  begun = facts.begun;
  same = facts.same;
  has = λ m there. elim there [ inl e ↦ subst (λ x. In x ever) (sym e) here | inr old ↦ facts.has m old ];
  sent = facts.sent;
  fresh = facts.fresh;
  known = facts.known;
}

same_slot : (s t : ℕ) (c d : Command) → (let p : ℕ × Command = (s, c) in p) ≡ (t, d) → (s ≡ t) × (c ≡ d)
same_slot s t c d e = (ap (λ p. p.0) e, ap (λ p. p.1) e)

learns_keeps : (n i : ℕ) (ever : List Message) (node : Node) (slot : ℕ) (command : Command) → IsChosen n ever slot command → NodeFacts n i ever node
    → NodeFacts n i ever (record node { known = (slot, command) ∷ node.known })
learns_keeps n i ever node slot command chosen facts = record {
  store = facts.store;
  begun = facts.begun;
  same = facts.same;
  has = facts.has;
  sent = facts.sent;
  fresh = facts.fresh;
  known = λ s c here. elim here [
    | inl e ↦ let both = same_slot s slot c command e in subst₂ (IsChosen n ever) (sym both.0) (sym both.1) chosen
    | inr old ↦ facts.known s c old
  ];
}

-- its promises are no higher than its store's
no_promise_above : (n i : ℕ) (ever : List Message) (node : Node) (ballot : Ballot) → NodeFacts n i ever node → AtMost node.store.promise ballot
    → (other : Ballot) (first : ℕ) (told : List Entry) → In (Promise i other first told) ever → AtMost other ballot
no_promise_above n i ever node ballot facts at_most other first told here =
    at_most_trans other node.store.promise ballot (facts.store.backs (Promise i other first told) here refl) at_most

-- a promise of the store's own entries is right and new
tells_right : (dealer : Dealer) (n i : ℕ) (ever : List Message) (node : Node) (ballot : Ballot) (first : ℕ) (told : List Entry)
    → NodeFacts n i ever node → Below node.store.promise ballot → Tells node.store first told
    → (entry : Entry) → In entry told → In (Accept entry.ballot entry.slot entry.command) ever × Below entry.ballot ballot
tells_right dealer n i ever node ballot first told facts below tells entry here =
    let held = facts.store.proposed entry.slot (vote_of entry) (tells.only entry here).1 in
    (held.0, below_of_at_most entry.ballot node.store.promise ballot held.1 below)

tells_new : (n i : ℕ) (ever : List Message) (node : Node) (first : ℕ) (told : List Entry)
    → NodeFacts n i ever node → Tells node.store first told
    → (lower : Ballot) (slot : ℕ) (command : Command) → In (Accepted i lower slot command) ever → Covers first slot → TellsAtLeast told slot lower
tells_new n i ever node first told facts tells lower slot command here covers =
    let held = facts.store.backs (Accepted i lower slot command) here refl in
    (held.1.0, tells.all slot held.1.0 covers held.1.1, held.1.2)

promises_keeps : (dealer : Dealer) (n i : ℕ) (ever : List Message) (node : Node) (ballot : Ballot) (slot : ℕ) (told : List Entry)
    → Facts dealer n ever → NodeFacts n i ever node → Below node.store.promise ballot → Tells node.store slot told
    → Kept dealer n i ever (Promise i ballot slot told ∷ ever) (with_sent (with_store node (promised node.store ballot)) (Promise i ballot slot told ∷ []))
promises_keeps dealer n i ever node ballot slot told facts kept below tells =
    let between = with_store node (promised node.store ballot) in
    let held = restored n i ever node (promised node.store ballot) kept (promised_holds i ever node.store ballot below kept.store) in
    sends dealer n i ever between (Promise i ballot slot told) facts held refl
    (tells_right dealer n i ever node ballot slot told kept below tells)
    (λ lower s command here covers _. tells_new n i ever node slot told kept tells lower s command here covers)
    (at_most_self ballot) (at_most_self ballot)

-- no proposal of a ballot above the promise was made
no_proposal : (n i : ℕ) (ever : List Message) (node : Node) (ballot : Ballot) → NodeFacts n i ever node → ballot.node ≡ i → Below node.store.promise ballot
    → (s : ℕ) (command : Command) → In (Accept ballot s command) ever → ⊥
no_proposal n i ever node ballot facts own below s command here =
    not_below ballot node.store.promise (facts.store.backs (Accept ballot s command) here own) below

no_prepare_accepted : (i : ℕ) (ballot lower : Ballot) (slot s : ℕ) (command : Command) → Accepted i lower s command ≡ Prepare ballot slot → ⊥
no_prepare_accepted i ballot lower slot s command e = cc

begins_keeps : (dealer : Dealer) (n i : ℕ) (ever : List Message) (node : Node) (ballot : Ballot) (slot : ℕ) (told : List Entry)
    → Facts dealer n ever → NodeFacts n i ever node → ballot.node ≡ i → Below node.store.promise ballot → Tells node.store slot told
    → Kept dealer n i ever (Promise i ballot slot told ∷ Prepare ballot slot ∷ ever)
    (with_sent (with_store node (promised node.store ballot)) (Promise i ballot slot told ∷ Prepare ballot slot ∷ []))
begins_keeps dealer n i ever node ballot slot told facts kept own below tells =
    let between = with_store node (promised node.store ballot) in
    let held = restored n i ever node (promised node.store ballot) kept (promised_holds i ever node.store ballot below kept.store) in
    let first = sends dealer n i ever between (Prepare ballot slot) facts held own tt
    (no_proposal n i ever node ballot kept own below) (at_most_self ballot) (at_most_self ballot) in
    let second = sends dealer n i (Prepare ballot slot ∷ ever) (with_sent between (Prepare ballot slot ∷ [])) (Promise i ballot slot told) first.facts first.node refl
    (λ entry here. let right = tells_right dealer n i ever node ballot slot told kept below tells entry here in (inr right.0, right.1))
    (λ lower s command here covers _. elim here [
      | inl e ↦ absurd (no_prepare_accepted i ballot lower slot s command e)
      | inr old ↦ tells_new n i ever node slot told kept tells lower s command old covers
    ])
    (at_most_self ballot) (at_most_self ballot) in
    record { facts = second.facts; node = second.node; others = λ j other ne holds. second.others j other ne (first.others j other ne holds) }

at_hand_source : (dealer : Dealer) (n i : ℕ) (ever : List Message) (node : Node) (command : Command) → i < n → Facts dealer n ever → NodeFacts n i ever node
    → IsAtHand dealer i node command → HasSource dealer n ever command
at_hand_source dealer n i ever node command within facts kept (inl own) = inl (i, within, own)
at_hand_source dealer n i ever node command within facts kept (inr (inl said)) = inr (i, (kept.sent _ said).0)
at_hand_source dealer n i ever node command within facts kept (inr (inr passed)) =
    inr (passed.0, facts.right (Forward passed.0 command) (kept.has _ passed.1))

told_fits : (dealer : Dealer) (n : ℕ) (ever : List Message) (ballot : Ballot) (slot : ℕ) (command : Command) → Facts dealer n ever
    → (greatest : Ballot) → In (Accept greatest slot command) ever → IsFitting dealer n ever slot command × HasSource dealer n ever command
told_fits dealer n ever ballot slot command facts greatest here =
    let right = facts.right (Accept greatest slot command) here in (right.1, right.2)

proposal_right : (dealer : Dealer) (n i : ℕ) (ever : List Message) (node : Node) (ballot : Ballot) (slot : ℕ) (command : Command) → i < n
    → Facts dealer n ever → NodeFacts n i ever node → MayPropose dealer n i node ballot slot command
    → IsSafe n ever ballot slot command × IsFitting dealer n ever slot command × HasSource dealer n ever command
proposal_right dealer n i ever node ballot slot command within facts kept (inl greatest) =
    let told = greatest.1 in
    let proposed = facts.right (Promise told.0 ballot told.1 told.2) (kept.has _ told.3) _ told.4 in
    let rest = told_fits dealer n ever ballot slot command facts greatest.0 proposed.0 in
    (inl (greatest_stays n node.has ever ballot slot command kept.has greatest), rest.0, rest.1)
proposal_right dealer n i ever node ballot slot command within facts kept (inr own) =
    let front = own.2 in (
      inr (promises_stay n node.has ever ballot slot _ kept.has own.0),
      (front.0, knows_chosen n ever node.known front.0 kept.known front.1, front.2, front.4),
      at_hand_source dealer n i ever node command within facts kept own.1,
    )

proposes_keeps : (dealer : Dealer) (n i : ℕ) (ever : List Message) (node : Node) (ballot : Ballot) (first slot : ℕ) (command : Command) → i < n
    → Facts dealer n ever → NodeFacts n i ever node → In (Prepare ballot first) node.sent
    → ((other : Command) → In (Accept ballot slot other) node.sent → ⊥) → ballot.node ≡ i → MayPropose dealer n i node ballot slot command
    → Kept dealer n i ever (Accept ballot slot command ∷ ever) (with_sent node (Accept ballot slot command ∷ []))
proposes_keeps dealer n i ever node ballot first slot command within facts kept prepared none own may =
    let begun = kept.sent _ prepared in
    sends dealer n i ever node (Accept ballot slot command) facts kept own
    (proposal_right dealer n i ever node ballot slot command within facts kept may)
    (λ other here. none other (kept.fresh ballot first slot other prepared here))
    (kept.store.backs (Prepare ballot first) begun.0 begun.1) (kept.begun.backs (Prepare ballot first) begun.0 begun.1)

accepts_keeps : (dealer : Dealer) (n i : ℕ) (ever : List Message) (node : Node) (ballot : Ballot) (slot : ℕ) (command : Command)
    → Facts dealer n ever → NodeFacts n i ever node → In (Accept ballot slot command) ever → AtMost node.store.promise ballot
    → Kept dealer n i ever (Accepted i ballot slot command ∷ ever)
    (with_sent (with_store node (voted node.store slot (record { ballot = ballot; command = command }))) (Accepted i ballot slot command ∷ []))
accepts_keeps dealer n i ever node ballot slot command facts kept here at_most =
    let v : Vote = record { ballot = ballot; command = command } in
    let store = voted node.store slot v in
    let held = restored n i ever node store kept (voted_holds i ever node.store slot v at_most here kept.store) in
    let backed : IsBacked store (Accepted i ballot slot command) = (at_most_self ballot, (v, put_same node.store.votes slot (Some v), at_most_self ballot)) in
    sends dealer n i ever (with_store node store) (Accepted i ballot slot command) facts held refl here
    (no_promise_above n i ever node ballot kept at_most) backed backed

repeats_keeps : (dealer : Dealer) (n i : ℕ) (ever : List Message) (node : Node) (ballot : Ballot) (slot : ℕ) (command : Command)
    → Facts dealer n ever → NodeFacts n i ever node → node.up ≡ true → node.store.votes slot ≡ Some (record { ballot = ballot; command = command })
    → AtMost node.store.promise ballot → Kept dealer n i ever (Accepted i ballot slot command ∷ ever) (with_sent node (Accepted i ballot slot command ∷ []))
repeats_keeps dealer n i ever node ballot slot command facts kept up stored at_most =
    let v : Vote = record { ballot = ballot; command = command } in
    let held = kept.store.proposed slot v stored in
    sends dealer n i ever node (Accepted i ballot slot command) facts kept refl held.0
    (no_promise_above n i ever node ballot kept at_most) (held.1, (v, stored, at_most_self ballot))
    (subst (λ (s : Store). AtMost ballot s.promise × ((w : Vote) × (s.votes slot ≡ Some w) × AtMost ballot w.ballot)) (sym (kept.same up))
    (held.1, (v, stored, at_most_self ballot)))

stops_keeps : (n i : ℕ) (ever : List Message) (node : Node) (begun : Store) → NodeFacts n i ever node → Holds i ever begun
    → NodeFacts n i ever (record node { begun = begun; up = false })
stops_keeps n i ever node begun facts holds = record {
  store = facts.store;
  begun = holds;
  same = λ up. absurd (true≢false (sym up));
  has = facts.has;
  sent = facts.sent;
  fresh = facts.fresh;
  known = facts.known;
}

starts_keeps : (n i : ℕ) (ever : List Message) (node : Node) (store : Store) → NodeFacts n i ever node → (store ≡ node.store) ⊎ (store ≡ node.begun)
    → NodeFacts n i ever (record {
      store = store;
      begun = store;
      up = true;
      starts = suc node.starts;
      has = [];
      sent = [];
      known = [];
      shown = 0;
      heard = λ seat. None;
    })
starts_keeps n i ever node store facts found =
    let holds : Holds i ever store = elim found [ inl e ↦ subst (Holds i ever) (sym e) facts.store | inr e ↦ subst (Holds i ever) (sym e) facts.begun ] in
    record {
      store = holds;
      begun = holds;
      same = λ up. refl;
      has = λ m here. absurd here;
      sent = λ m here. absurd here;
      fresh = λ ballot first slot command here _. absurd here;
      known = λ slot command here. absurd here;
    }

-- what changes neither stores nor messages
same_facts : (n i : ℕ) (ever : List Message) (node : Node) (shown : ℕ) (heard : ℕ → Option (List ℕ)) → NodeFacts n i ever node
    → NodeFacts n i ever (record node { shown = shown; heard = heard })
same_facts n i ever node shown heard facts = record {
  store = facts.store;
  begun = facts.begun;
  same = facts.same;
  has = facts.has;
  sent = facts.sent;
  fresh = facts.fresh;
  known = facts.known;
}

pub move_keeps : (dealer : Dealer) (n i : ℕ) (ever : List Message) (old : Node) (out : Output) (new : Node) → i < n
    → Facts dealer n ever → NodeFacts n i ever old → Move dealer n i ever old out new → Kept dealer n i ever (out.sent ++ ever) new
move_keeps dealer n i ever old out new within facts kept (Moves.gets message up here eo en) =
    moved dealer n i ever out _ new _ eo en (silent dealer n i ever _ facts (gets_keeps n i ever old message here kept))
move_keeps dealer n i ever old out new within facts kept (Moves.hears seat bytes up eo en) =
    moved dealer n i ever out _ new _ eo en (silent dealer n i ever _ facts (same_facts n i ever old old.shown _ kept))
move_keeps dealer n i ever old out new within facts kept (Moves.connects seat up eo en) =
    moved dealer n i ever out _ new _ eo en (silent dealer n i ever _ facts (same_facts n i ever old old.shown _ kept))
move_keeps dealer n i ever old out new within facts kept (Moves.drops seat up eo en) =
    moved dealer n i ever out _ new _ eo en (silent dealer n i ever _ facts (same_facts n i ever old old.shown _ kept))
move_keeps dealer n i ever old out new within facts kept (Moves.closes seat up eo en) =
    moved dealer n i ever out _ new _ eo en (silent dealer n i ever _ facts (same_facts n i ever old old.shown _ kept))
move_keeps dealer n i ever old out new within facts kept (Moves.notes seat bytes before line act up connected knows heard says eo en) =
    moved dealer n i ever out _ new _ eo en (sends dealer n i ever old (Said i act) facts kept refl tt tt tt tt)
move_keeps dealer n i ever old out new within facts kept (Moves.ordered before act up knows hole orders eo en) =
    moved dealer n i ever out _ new _ eo en (sends dealer n i ever old (Said i act) facts kept refl tt tt tt tt)
move_keeps dealer n i ever old out new within facts kept (Moves.begins ballot slot told up own below tells eo en) =
    moved dealer n i ever out _ new _ eo en (begins_keeps dealer n i ever old ballot slot told facts kept own below tells)
move_keeps dealer n i ever old out new within facts kept (Moves.promises ballot slot told up here below tells eo en) =
    moved dealer n i ever out _ new _ eo en (promises_keeps dealer n i ever old ballot slot told facts kept below tells)
move_keeps dealer n i ever old out new within facts kept (Moves.proposes ballot first slot command up prepared none own may eo en) =
    moved dealer n i ever out _ new _ eo en (proposes_keeps dealer n i ever old ballot first slot command within facts kept prepared none own may)
move_keeps dealer n i ever old out new within facts kept (Moves.accepts ballot slot command up here at_most eo en) =
    moved dealer n i ever out _ new _ eo en (accepts_keeps dealer n i ever old ballot slot command facts kept (kept.has _ here) at_most)
move_keeps dealer n i ever old out new within facts kept (Moves.repeats ballot slot command up stored at_most eo en) =
    moved dealer n i ever out _ new _ eo en (repeats_keeps dealer n i ever old ballot slot command facts kept up stored at_most)
move_keeps dealer n i ever old out new within facts kept (Moves.refuses ballot slot greater up eo en) =
    moved dealer n i ever out _ new _ eo en (sends dealer n i ever old (Refuse i ballot slot greater) facts kept refl tt tt tt tt)
move_keeps dealer n i ever old out new within facts kept (Moves.learns slot command up chosen eo en) =
    moved dealer n i ever out _ new _ eo en
    (silent dealer n i ever _ facts (learns_keeps n i ever old slot command (chosen_stays n old.has ever slot command kept.has chosen) kept))
move_keeps dealer n i ever old out new within facts kept (Moves.believes sender slot command up here eo en) =
    moved dealer n i ever out _ new _ eo en
    (silent dealer n i ever _ facts (learns_keeps n i ever old slot command (facts.right (Chosen sender slot command) (kept.has _ here)) kept))
move_keeps dealer n i ever old out new within facts kept (Moves.tells slot command up knows eo en) =
    moved dealer n i ever out _ new _ eo en (sends dealer n i ever old (Chosen i slot command) facts kept refl (kept.known slot command knows) tt tt tt)
move_keeps dealer n i ever old out new within facts kept (Moves.asks slot up eo en) =
    moved dealer n i ever out _ new _ eo en (sends dealer n i ever old (Ask i slot) facts kept refl tt tt tt tt)
move_keeps dealer n i ever old out new within facts kept (Moves.forwards act up said eo en) =
    moved dealer n i ever out _ new _ eo en (sends dealer n i ever old (Forward i act) facts kept refl (kept.sent _ said).0 tt tt tt)
move_keeps dealer n i ever old out new within facts kept (Moves.shows commands reader text up knows more shown eo en) =
    moved dealer n i ever out _ new _ eo en (silent dealer n i ever _ facts (same_facts n i ever old _ old.heard kept))
move_keeps dealer n i ever old out new within facts kept (Moves.stops begun up append eo en) =
    moved dealer n i ever out _ new _ eo en
    (silent dealer n i ever _ facts (stops_keeps n i ever old begun kept (append_holds i ever old.has old.store begun kept.has append kept.store)))
move_keeps dealer n i ever old out new within facts kept (Moves.starts store down found eo en) =
    moved dealer n i ever out _ new _ eo en (silent dealer n i ever _ facts (starts_keeps n i ever old store kept found))

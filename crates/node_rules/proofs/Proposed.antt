-- What a node proposed, as it gets and sends messages, learns and votes.
use Rattle.std.proofs.Common.{◌≡◌, ℕ, ◌<◌, ◌≤◌, ◌⊎◌, inl, inr, Bool, true, false, if◌then◌else◌, ◌&&◌, List, [], ◌∷◌, ◌++◌, Option, Some, None, sym, ap, subst, ◌∙◌, arith, length}
use Rattle.std.specs.Prelude.{is_none}
use Rattle.std.proofs.lemmas.List.{length-append}
use Rattle.paxos_wire.specs.declared.ballot.Ballot.{Ballot}
use Rattle.slot_log.specs.declared.command.Command.{Command}
use Rattle.protocol_model.specs.Sets.{In}
use Rattle.protocol_model.specs.Ballots.{Below, AtMost}
use Rattle.protocol_model.specs.Messages.{Message, Accept}
use Rattle.protocol_model.specs.Quorums.{IsGreatestTold}
use Rattle.protocol_model.specs.Stores.{Store, promised}
use Rattle.learner.specs.Learning.{Learned}
use Rattle.dealer_kind.specs.Kind.{fits}
use Rattle.node_rules.specs.Standings.{Place, Standing, applied}
use Rattle.node_rules.specs.Proposing.{own_deal, fitting, own_value}
use Rattle.node_rules.specs.Seats.{waiting}
use Rattle.node_rules.specs.Proposed.{IsValue, IsProposed}
use Rattle.protocol_model.proofs.Ballots.{not_below}
use Rattle.protocol_model.proofs.Quorums.{promises_stay, greatest_stays}

-- ---- more messages are had

pub value_more : (n : ℕ) (messages has : List Message) (ballot : Ballot) (slot : ℕ) (own other : Option Command) (command : Command) → ((m : Message) → In m messages → In m has)
    → (own ≡ Some command → other ≡ Some command) → IsValue n messages ballot slot own command → IsValue n has ballot slot other command
value_more n messages has ballot slot own other command inside same (inl told) = inl (greatest_stays n messages has ballot slot command inside told)
value_more n messages has ballot slot own other command inside same (inr free) =
    inr (promises_stay n messages has ballot slot (λ entry. ⊥) inside free.0, same free.1)

told_more : (n : ℕ) (messages has : List Message) (ballot : Ballot) (slot : ℕ) (command : Command) (upto : List Command) → ((m : Message) → In m messages → In m has)
    → (slot ≤ length upto) ⊎ IsGreatestTold n messages ballot slot command → (slot ≤ length upto) ⊎ IsGreatestTold n has ballot slot command
told_more n messages has ballot slot command upto inside (inl low) = inl low
told_more n messages has ballot slot command upto inside (inr told) = inr (greatest_stays n messages has ballot slot command inside told)

-- a proposal beyond the commands that were applied is of what was told
beyond : (n : ℕ) (has : List Message) (ballot : Ballot) (slot : ℕ) (own : Option Command) (command : Command) (upto : List Command) → length upto < slot
    → (slot ≤ length upto) ⊎ IsGreatestTold n has ballot slot command → IsValue n has ballot slot own command
beyond n has ballot slot own command upto above (inl low) = absurd (omega (arith, above, low))
beyond n has ballot slot own command upto above (inr told) = inl told

-- ---- a message is got, or sent, that is no proposal

pub got_proposed : (n i : ℕ) (upto : List Command) (at : ℕ) (own : Option Command) (store : Store) (has sent : List Message) (m : Message)
    → IsProposed n i upto at own store has sent → IsProposed n i upto at own store (m ∷ has) sent
got_proposed n i upto at own store has sent m p = record {
  ballots = p.ballots;
  voted = p.voted;
  told = λ s c h. told_more n has (m ∷ has) store.promise s c upto (λ o k. inr k) (p.told s c h);
  by_rule = λ c h. value_more n has (m ∷ has) store.promise at own own c (λ o k. inr k) (λ e. e) (p.by_rule c h);
}

pub sent_proposed : (n i : ℕ) (upto : List Command) (at : ℕ) (own : Option Command) (store : Store) (has sent more : List Message)
    → ((b : Ballot) (s : ℕ) (c : Command) → In (Accept b s c) more → In (Accept b s c) sent)
    → IsProposed n i upto at own store has sent → IsProposed n i upto at own store has more
sent_proposed n i upto at own store has sent more before p = record {
  ballots = λ b s c h. p.ballots b s c (before b s c h);
  voted = λ s c h. p.voted s c (before store.promise s c h);
  told = λ s c h. p.told s c (before store.promise s c h);
  by_rule = λ c h. p.by_rule c (before store.promise at c h);
}

-- ---- nothing was proposed in the ballot

pub none_proposed : (n i : ℕ) (upto : List Command) (at : ℕ) (own : Option Command) (store : Store) (has sent : List Message)
    → ((b : Ballot) (s : ℕ) (c : Command) → In (Accept b s c) sent → b.node ≡ i)
    → ((s : ℕ) (c : Command) → In (Accept store.promise s c) sent → ⊥) → IsProposed n i upto at own store has sent
none_proposed n i upto at own store has sent ballots none = record {
  ballots = ballots;
  voted = λ s c h. absurd (none s c h);
  told = λ s c h. absurd (none s c h);
  by_rule = λ c h. absurd (none at c h);
}

-- a ballot above the promise is promised
pub promised_proposed : (n i : ℕ) (upto : List Command) (at : ℕ) (own : Option Command) (store : Store) (ballot : Ballot) (has more sent others : List Message)
    → Below store.promise ballot → ((b : Ballot) (s : ℕ) (c : Command) → In (Accept b s c) sent → AtMost b store.promise)
    → ((b : Ballot) (s : ℕ) (c : Command) → In (Accept b s c) others → In (Accept b s c) sent)
    → IsProposed n i upto at own store has sent → IsProposed n i upto at own (promised store ballot) more others
promised_proposed n i upto at own store ballot has more sent others up low before p =
    none_proposed n i upto at own (promised store ballot) more others (λ b s c h. p.ballots b s c (before b s c h))
    (λ s c h. not_below ballot store.promise (low ballot s c (before ballot s c h)) up)

-- ---- a proposal

pub accept_is : (a b : Ballot) (s t : ℕ) (c d : Command) → ◌≡◌ {A = Message} (Accept a s c) (Accept b t d) → (a ≡ b) × (s ≡ t) × (c ≡ d)
accept_is a b s t c d e = ((let k : a ≡ b = cc in k), (let k : s ≡ t = cc in k), (let k : c ≡ d = cc in k))

-- ---- more is known, applied, and waits

-- the front moves on over what was applied, or nothing changes
pub learned_proposed : (n i : ℕ) (place : Place) (s : Standing) (upto : List Command) (new : Learned) (later : List Command) (store : Store) (has sent : List Message)
    → length upto ≤ length (applied s) → new.log.below ≡ later ++ applied s → IsProposed n i upto (length (applied s)) (own_value place s) store has sent
    → IsProposed n i upto (length new.log.below) (own_value place (record s { learned = new })) store has sent
learned_proposed n i place s upto new [] store has sent low e p =
    subst (λ (l : List Command). IsProposed n i upto (length l) (own_value place (record s { learned = record new { log = record new.log { below = l } } })) store has sent) (sym e) p
learned_proposed n i place s upto new (c ∷ later) store has sent low e p = record {
  ballots = p.ballots;
  voted = p.voted;
  told = p.told;
  by_rule = λ d h. beyond n has store.promise (length new.log.below) (own_value place (record s { learned = new })) d upto
      (let k = ap length e ∙ length-append (c ∷ later) (applied s) in omega (arith, k, low)) (p.told (length new.log.below) d h);
}

-- a command below the front is applied
pub taken_proposed : (n i : ℕ) (upto : List Command) (command : Command) (at : ℕ) (own other : Option Command) (store : Store) (has sent : List Message) → length upto < at
    → IsProposed n i upto at own store has sent → IsProposed n i (command ∷ upto) at other store has sent
taken_proposed n i upto command at own other store has sent below p = record {
  ballots = p.ballots;
  voted = p.voted;
  told = λ s c h. elim (p.told s c h) [ inl low ↦ inl (omega (arith, low)) | inr told ↦ inr told ];
  by_rule = λ c h. beyond n has store.promise at other c upto below (p.told at c h);
}

-- an act waits where none did: what the node had of its own it has still
waits_same : (old : Option Command) (b : Bool) (act command : Command) → old ≡ Some command → (if is_none old && b then Some act else old) ≡ Some command
waits_same None b act command e = absurd (cc)
waits_same (Some held) b act command e = e

fitting_same : (place : Place) (s : Standing) (deal old new : Option Command) (command : Command) → (old ≡ Some command → new ≡ Some command)
    → fitting place s deal old ≡ Some command → fitting place s deal new ≡ Some command
fitting_same place s None old new command same e = same e
fitting_same place s (Some deal) old new command same e = by_fit (fits place.setting (applied s) deal) e
  where
    by_fit : (b : Bool) → (if b then Some deal else old) ≡ Some command → (if b then Some deal else new) ≡ Some command
    by_fit true h = h
    by_fit false h = same h

pub waiting_value : (place : Place) (act : Command) (s : Standing) (command : Command) → own_value place s ≡ Some command
    → own_value place (record s { pending = waiting place act s }) ≡ Some command
waiting_value place act s command e =
    fitting_same place s (own_deal place s) s.pending (waiting place act s) command (waits_same s.pending (fits place.setting (applied s) act) act command) e

pub pending_proposed : (n i : ℕ) (upto : List Command) (at : ℕ) (own other : Option Command) (store : Store) (has sent : List Message) → ((c : Command) → own ≡ Some c → other ≡ Some c)
    → IsProposed n i upto at own store has sent → IsProposed n i upto at other store has sent
pending_proposed n i upto at own other store has sent same p = record {
  ballots = p.ballots;
  voted = p.voted;
  told = p.told;
  by_rule = λ c h. value_more n has has store.promise at own other c (λ o k. k) (same c) (p.by_rule c h);
}

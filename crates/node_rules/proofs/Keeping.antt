-- What a standing says of its node stays so, as the node gets and sends messages.
use Rattle.std.proofs.Common.{ℕ, ◌≤◌, inl, inr, List, [], ◌∷◌, Option, Some, None, refl, sym, subst, arith}
use Rattle.paxos_wire.specs.declared.ballot.Ballot.{Ballot}
use Rattle.slot_log.specs.declared.command.Command.{Command}
use Rattle.protocol_model.specs.Sets.{In}
use Rattle.protocol_model.specs.Messages.{Message, Prepare, Promise, Refuse, Accept, Accepted, Chosen, Ask, Forward, Said}
use Rattle.protocol_model.specs.Dealers.{Dealer}
use Rattle.protocol_model.specs.Nodes.{Node, Knows as KnowsCommands}
use Rattle.protocol_model.specs.Stores.{Store}
use Rattle.protocol_model.specs.Moves.{with_store, with_sent, IsAtHand}
use Rattle.proposer.specs.declared.campaign.Campaign.{Campaign}
use Rattle.node_rules.specs.Standings.{Place, Standing, front_of}
use Rattle.node_rules.specs.Seen.{Sees}
use Rattle.node_rules.specs.Being.{IsCampaign, Stands, IsProposer, IsLearner, IsPending, Knows}
use Rattle.node_rules.specs.Given.{Given}
use Rattle.node_rules.specs.Proposing.{own_value}
use Rattle.node_rules.proofs.Proposed.{got_proposed, sent_proposed}

-- ---- what is known, heard or shown changes, and nothing else

abbrev pub with_others : Node → List (ℕ × Command) → (ℕ → Option (List ℕ)) → ℕ → Node
with_others node known heard shown = record node { known = known; heard = heard; shown = shown }

others_campaign : (n i : ℕ) (node : Node) (known : List (ℕ × Command)) (heard : ℕ → Option (List ℕ)) (shown : ℕ) (c : Option Campaign) → IsCampaign n i node c
    → IsCampaign n i (with_others node known heard shown) c
others_campaign n i node known heard shown None h = tt
others_campaign n i node known heard shown (Some c) h = record {
  own = h.own;
  promised = h.promised;
  prepared = h.prepared;
  counts = h.counts;
  counts_all = h.counts_all;
  marks = h.marks;
  votes = h.votes;
  unrefused = h.unrefused;
}

-- the front may go on
pub others_proposer : (n i : ℕ) (node : Node) (known : List (ℕ × Command)) (heard : ℕ → Option (List ℕ)) (shown front further : ℕ) (c : Option Campaign) → front ≤ further
    → IsProposer n i node front c → IsProposer n i (with_others node known heard shown) further c
others_proposer n i node known heard shown front further c low p = record {
  is_campaign = others_campaign n i node known heard shown c p.is_campaign;
  began = λ b f h. let old = p.began b f h in (old.0, old.1, (let l = old.2 in omega arith));
  proposed = p.proposed;
  stands = λ b f st near left. p.stands b f (record { began = st.began; promised = st.promised; unrefused = st.unrefused }) (omega arith) (omega arith);
}

pub others_pending : (d : Dealer) (i : ℕ) (node : Node) (known : List (ℕ × Command)) (heard : ℕ → Option (List ℕ)) (shown : ℕ) (upto : List Command) (c : Option Command)
    → IsPending d i node upto c → IsPending d i (with_others node known heard shown) upto c
others_pending d i node known heard shown upto None h = tt
others_pending d i node known heard shown upto (Some act) h = h

-- ---- a message is got

abbrev pub with_got : Node → Message → Node
with_got node m = record node { has = m ∷ node.has }

-- it is no answer to a Prepare
abbrev pub IsNoAnswer : Message → Type 0
IsNoAnswer (Prepare ballot slot) = Unit {0}
IsNoAnswer (Promise sender ballot slot told) = ⊥
IsNoAnswer (Refuse sender ballot slot promised) = ⊥
IsNoAnswer (Accept ballot slot command) = Unit {0}
IsNoAnswer (Accepted sender ballot slot command) = Unit {0}
IsNoAnswer (Chosen sender slot command) = Unit {0}
IsNoAnswer (Ask sender slot) = Unit {0}
IsNoAnswer (Forward sender command) = Unit {0}
IsNoAnswer (Said sender command) = Unit {0}

got_campaign : (g : Given) (n i : ℕ) (node : Node) (m : Message) (c : Option Campaign) → IsNoAnswer m → IsCampaign n i node c → IsCampaign n i (with_got node m) c
got_campaign g n i node m None other h = tt
got_campaign g n i node m (Some c) other h = record {
  own = h.own;
  promised = h.promised;
  prepared = h.prepared;
  counts = g.others node.has c m h.counts;
  counts_all = g.others_all n node.has c m (λ k told e. subst IsNoAnswer (sym e) other) h.counts_all;
  marks = h.marks;
  votes = h.votes;
  unrefused = λ k r s up had low. elim had [ inl e ↦ absurd (subst IsNoAnswer (sym e) other) | inr old ↦ h.unrefused k r s up old low ];
}

-- less was refused before
pub stood_before : (node : Node) (m : Message) (b : Ballot) (f : ℕ) → Stands (with_got node m) b f → Stands node b f
stood_before node m b f st = record { began = st.began; promised = st.promised; unrefused = λ k r s up h. st.unrefused k r s up (inr h) }

pub got_proposer : (g : Given) (n i : ℕ) (node : Node) (m : Message) (front : ℕ) (c : Option Campaign) → IsNoAnswer m → IsProposer n i node front c
    → IsProposer n i (with_got node m) front c
got_proposer g n i node m front c other p = record {
  is_campaign = got_campaign g n i node m c other p.is_campaign;
  began = p.began;
  proposed = p.proposed;
  stands = λ b f st. p.stands b f (stood_before node m b f st);
}

pub got_learner : (n : ℕ) (has : List Message) (known : List (ℕ × Command)) (m : Message) (s : Standing) → IsLearner n has known s.learned
    → IsLearner n (m ∷ has) known s.learned
got_learner n has known m s l = record {
  nodes = l.nodes;
  log = l.log;
  knows = l.knows;
  only = l.only;
  in_time = l.in_time;
  came = λ o h. inr (l.came o h);
  counts = l.counts;
  counts_all = l.counts_all;
  knows_chosen = l.knows_chosen;
}

hand_got : (d : Dealer) (i : ℕ) (node : Node) (m : Message) (c : Command) → IsAtHand d i node c → IsAtHand d i (with_got node m) c
hand_got d i node m c (inl own) = inl own
hand_got d i node m c (inr (inl said)) = inr (inl said)
hand_got d i node m c (inr (inr passed)) = inr (inr (passed.0, inr passed.1))

pub got_pending : (d : Dealer) (i : ℕ) (node : Node) (m : Message) (upto : List Command) (c : Option Command) → IsPending d i node upto c → IsPending d i (with_got node m) upto c
got_pending d i node m upto None h = tt
got_pending d i node m upto (Some c) h = (hand_got d i node m c h.0, h.1)

pub got_knows : (g : Given) (d : Dealer) (place : Place) (upto : List Command) (s : Standing) (node : Node) (m : Message) (seen : Ballot) → IsNoAnswer m
    → Sees (m ∷ node.has) node.store.promise seen → Knows d place upto s node → Knows d place upto (record s { seen = seen }) (with_got node m)
got_knows g d place upto s node m seen other sees k = record {
  up = k.up;
  store = k.store;
  within = k.within;
  proposer = got_proposer g place.nodes place.node node m (front_of s) s.campaign other k.proposer;
  learner = got_learner place.nodes node.has node.known m s k.learner;
  pending = got_pending d place.node node m upto s.pending k.pending;
  places = k.places;
  shown = k.shown;
  seen = sees;
  proposals = got_proposed place.nodes place.node upto (front_of s) (own_value place s) node.store node.has node.sent m k.proposals;
}

-- ---- a message is sent that is neither a Prepare nor a proposal

abbrev pub IsQuiet : Message → Type 0
IsQuiet (Prepare ballot slot) = ⊥
IsQuiet (Promise sender ballot slot told) = Unit {0}
IsQuiet (Refuse sender ballot slot promised) = Unit {0}
IsQuiet (Accept ballot slot command) = ⊥
IsQuiet (Accepted sender ballot slot command) = Unit {0}
IsQuiet (Chosen sender slot command) = Unit {0}
IsQuiet (Ask sender slot) = Unit {0}
IsQuiet (Forward sender command) = Unit {0}
IsQuiet (Said sender command) = Unit {0}

sent_campaign : (g : Given) (n i : ℕ) (node : Node) (m : Message) (c : Option Campaign) → IsQuiet m → IsCampaign n i node c → IsCampaign n i (with_sent node (m ∷ [])) c
sent_campaign g n i node m None quiet h = tt
sent_campaign g n i node m (Some c) quiet h = record {
  own = h.own;
  promised = h.promised;
  prepared = inr h.prepared;
  counts = h.counts;
  counts_all = h.counts_all;
  marks = g.others_marks node.sent c m (λ s k e. subst IsQuiet (sym e) quiet) h.marks;
  votes = λ s v e b. inr (h.votes s v e b);
  unrefused = h.unrefused;
}

pub prepared_before : (node : Node) (m : Message) (b : Ballot) (f : ℕ) → IsQuiet m → In (Prepare b f) (m ∷ node.sent) → In (Prepare b f) node.sent
prepared_before node m b f quiet (inl e) = absurd (subst IsQuiet (sym e) quiet)
prepared_before node m b f quiet (inr h) = h

pub proposed_before : (node : Node) (m : Message) (b : Ballot) (s : ℕ) (c : Command) → IsQuiet m → In (Accept b s c) (m ∷ node.sent) → In (Accept b s c) node.sent
proposed_before node m b s c quiet (inl e) = absurd (subst IsQuiet (sym e) quiet)
proposed_before node m b s c quiet (inr h) = h

pub sent_proposer : (g : Given) (n i : ℕ) (node : Node) (m : Message) (front : ℕ) (c : Option Campaign) → IsQuiet m → IsProposer n i node front c
    → IsProposer n i (with_sent node (m ∷ [])) front c
sent_proposer g n i node m front c quiet p = record {
  is_campaign = sent_campaign g n i node m c quiet p.is_campaign;
  began = λ b f h. p.began b f (prepared_before node m b f quiet h);
  proposed = λ b s k h. p.proposed b s k (proposed_before node m b s k quiet h);
  stands = λ b f st. p.stands b f (record { began = prepared_before node m b f quiet st.began; promised = st.promised; unrefused = st.unrefused });
}

hand_sent : (d : Dealer) (i : ℕ) (node : Node) (m : Message) (c : Command) → IsAtHand d i node c → IsAtHand d i (with_sent node (m ∷ [])) c
hand_sent d i node m c (inl own) = inl own
hand_sent d i node m c (inr (inl said)) = inr (inl (inr said))
hand_sent d i node m c (inr (inr passed)) = inr (inr passed)

pub sent_pending : (d : Dealer) (i : ℕ) (node : Node) (m : Message) (upto : List Command) (c : Option Command) → IsPending d i node upto c
    → IsPending d i (with_sent node (m ∷ [])) upto c
sent_pending d i node m upto None h = tt
sent_pending d i node m upto (Some c) h = (hand_sent d i node m c h.0, h.1)

pub sent_knows : (g : Given) (d : Dealer) (place : Place) (upto : List Command) (s : Standing) (node : Node) (m : Message) → IsQuiet m
    → Knows d place upto s node → Knows d place upto s (with_sent node (m ∷ []))
sent_knows g d place upto s node m quiet k = record {
  up = k.up;
  store = k.store;
  within = k.within;
  proposer = sent_proposer g place.nodes place.node node m (front_of s) s.campaign quiet k.proposer;
  learner = k.learner;
  pending = sent_pending d place.node node m upto s.pending k.pending;
  places = k.places;
  shown = k.shown;
  seen = k.seen;
  proposals = sent_proposed place.nodes place.node upto (front_of s) (own_value place s) node.store node.has node.sent (m ∷ node.sent)
      (λ b l c h. proposed_before node m b l c quiet h) k.proposals;
}

-- and so are several
pub sent_all_knows : (g : Given) (d : Dealer) (place : Place) (upto : List Command) (s : Standing) (node : Node) (messages : List Message) → ((m : Message) → In m messages → IsQuiet m)
    → Knows d place upto s node → Knows d place upto s (with_sent node messages)
sent_all_knows g d place upto s node [] quiet k = k
sent_all_knows g d place upto s node (m ∷ messages) quiet k =
    sent_knows g d place upto s (with_sent node messages) m (quiet m (inl refl)) (sent_all_knows g d place upto s node messages (λ o h. quiet o (inr h)) k)

pub pending_all : (d : Dealer) (i : ℕ) (node : Node) (messages : List Message) (upto : List Command) (c : Option Command) → IsPending d i node upto c
    → IsPending d i (with_sent node messages) upto c
pending_all d i node [] upto c h = h
pending_all d i node (m ∷ messages) upto c h = sent_pending d i (with_sent node messages) m upto c (pending_all d i node messages upto c h)

-- more is known
pub commands_more : (known : List (ℕ × Command)) (k : ℕ × Command) (commands : List Command) → KnowsCommands known commands → KnowsCommands (k ∷ known) commands
commands_more known k [] h = tt
commands_more known k (c ∷ cs) h = (inr h.0, commands_more known k cs h.1)

-- ---- the store changes

pub stored_pending : (d : Dealer) (i : ℕ) (node : Node) (store : Store) (upto : List Command) (c : Option Command) → IsPending d i node upto c
    → IsPending d i (with_store node store) upto c
stored_pending d i node store upto None h = tt
stored_pending d i node store upto (Some c) h = h

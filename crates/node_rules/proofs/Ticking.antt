-- A ballot is begun, on the path of a call.
use Rattle.std.proofs.Common.{◌≡◌, ℕ, ◌<◌, ◌≤◌, ◌+◌, ◌⊎◌, inl, inr, Bool, true, false, true≢false, if◌then◌else◌, List, [], ◌∷◌, ◌++◌, Option, Some, Ok, Err, refl, sym, ap, subst, ◌∙◌, arith, map}
use Rattle.std.proofs.lemmas.List.{append-nil}
use Rattle.paxos_wire.specs.declared.ballot.Ballot.{Ballot}
use Rattle.paxos_wire.specs.declared.entry.Entry.{Entry}
use Rattle.paxos_wire.specs.declared.message.Message.{Message as Wire}
use Rattle.paxos_wire.specs.declared.message.Message.TheVariants as frame
use Rattle.slot_log.specs.declared.command.Command.{Command}
use Rattle.protocol_model.specs.Sets.{In}
use Rattle.protocol_model.specs.Ballots.{Below, AtMost}
use Rattle.protocol_model.specs.Messages.{vote_of, Message, Prepare, Promise, Refuse, Accept}
use Rattle.protocol_model.specs.Stores.{Store, promised, Tells}
use Rattle.protocol_model.specs.Nodes.{Node}
use Rattle.protocol_model.specs.Arrivals.{Arrival}
use Rattle.protocol_model.specs.Moves.{nothing, with_store, with_sent, more, gets, begins}
use Rattle.proposer.specs.declared.campaign.Campaign.{Campaign}
use Rattle.proposer.specs.Campaigns.{next_ballot, new_campaign}
use Rattle.node_rules.specs.Standings.{applied, front_of}
use Rattle.node_rules.specs.Sending.{Frame, to_others}
use Rattle.node_rules.specs.Showing.{Piece}
use Rattle.node_rules.specs.Turns.{Turn, Spent, still, joined, behind}
use Rattle.protocol_model.specs.Votes.{told_by}
use Rattle.node_rules.specs.Proposing.{higher, greatest_seen, is_over, is_spent, prepared, beginning, ticking, own_value}
use Rattle.node_rules.proofs.Proposed.{promised_proposed}
use Rattle.node_rules.specs.Seen.{ballots_in, IsTold, Sees}
use Rattle.node_rules.specs.Being.{Campaigns, IsPending}
use Rattle.node_rules.specs.Called.{Carry, CarryAll, AreShown, log_after}
use Rattle.node_rules.proofs.Carrying.{joined_carry, joined_all, others_carry, others_all, note_carry, note_all}
use Rattle.protocol_model.proofs.Ballots.{at_most_trans, at_most_self, at_most_of_below, not_below}
use Rattle.node_rules.proofs.Ordering.{higher_is, sees_own, sees_up}
use Rattle.protocol_model.proofs.Backing.{promise_within}
use Rattle.node_rules.proofs.Keeping.{with_got, got_learner, got_pending, sent_pending, stored_pending}
use Rattle.node_rules.proofs.Paths.{Hearing, Scope, dealer_in, Path, Goes, three_in}
use Rattle.node_rules.proofs.Steps.{go_on}
use Rattle.protocol_model.proofs.Votes.{tells}

-- ---- the ballot

pub above : (a b : Ballot) (i : ℕ) → AtMost a b → Below a (next_ballot i b)
above a b i h = inl (round_of h)
  where
    round_of : AtMost a b → a.round < b.round + 1
    round_of (inl l) = omega arith
    round_of (inr t) = let e = t.0 in omega (arith, e)

-- it is above all that was told
untold : (messages : List Message) (promise seen : Ballot) (i : ℕ) (b : Ballot) → Sees messages promise seen → IsTold messages b
    → Below b (next_ballot i (higher seen promise))
untold messages promise seen i b sees told =
    above b (higher seen promise) i (elim (sees.all b told) [
      | inl low ↦ at_most_trans b seen (higher seen promise) low (higher_is seen promise).0
      | inr low ↦ at_most_trans b promise (higher seen promise) low (higher_is seen promise).1
    ])

entry_ballot : (told : List Entry) (b : Ballot) → In b (map (λ (e : Entry). e.ballot) told) → (e : Entry) × In e told × (b ≡ e.ballot)
entry_ballot [] b h = absurd h
entry_ballot (e ∷ es) b (inl same) = (e, inl refl, same)
entry_ballot (e ∷ es) b (inr h) = let t = entry_ballot es b h in (t.0, inr t.1, t.2)

-- ---- it is begun

begin : (x : Scope) (came : List Arrival) (heard : Hearing) (t : Turn) (ends : x.ends ≡ true) (p : Path x came heard (applied t.after) t)
    → Path x came heard (applied t.after) (joined t (beginning x.place (next_ballot x.place.node (greatest_seen t.after)) t.after))
begin x came heard t ends p = record {
  sent = m ∷ prepare ∷ p.sent;
  shown = p.shown;
  got = m ∷ p.got;
  node = last;
  chain = more _ begun nothing _ _
      (more _ p.node (record { sent = m ∷ prepare ∷ []; shown = []; came = [] }) _ _ p.chain
      (begins ballot front told p.knows.up refl up tells_it refl refl) refl)
      (gets m p.knows.up (inl refl) refl refl) refl;
  knows = record {
    up = p.knows.up;
    store = ap (λ (st : Store). promised st ballot) p.knows.store;
    within = promise_within p.node.store ballot p.knows.within up;
    proposer = record {
      is_campaign = campaigns;
      began = λ b f h. began_now b f h;
      proposed = λ b s c h. at_most_trans b p.node.store.promise ballot (p.knows.proposer.proposed b s c (proposed_then b s c h)) (at_most_of_below p.node.store.promise ballot up);
      stands = λ b f st near left. stands_now b f st.began st.promised;
    };
    learner = got_learner x.place.nodes p.node.has p.node.known m t.after p.knows.learner;
    pending = got_pending (dealer_in x) i begun m (applied t.after) t.after.pending (sent_both t.after.pending p.knows.pending);
    places = p.knows.places;
    shown = p.knows.shown;
    seen = sees_own p.node.has m ballot t.after.seen (λ b h. low b h) (sees_up p.node.has p.node.store.promise ballot t.after.seen (at_most_of_below p.node.store.promise ballot up) p.knows.seen);
    proposals = promised_proposed x.place.nodes x.place.node (applied t.after) (front_of t.after) (own_value x.place t.after) p.node.store ballot p.node.has (m ∷ p.node.has) p.node.sent (m ∷ prepare ∷ p.node.sent) up
        p.knows.proposer.proposed (λ b s c h. proposed_then b s c h) p.knows.proposals;
  };
  commands = p.commands;
  hears = p.hears;
  talks = p.talks;
  runs = p.runs;
  begun = refl;
  unbegun = refl;
  starts = p.starts;
  has = ap (λ (l : List Message). m ∷ l) p.has;
  carry = subst (λ (l : List Frame). Carry x.place.nodes i l (m ∷ prepare ∷ p.sent)) (append-nil (t.frames ++ to_others x.place w))
      (joined_carry x.place.nodes i (t.frames ++ to_others x.place w) [] (prepare ∷ p.sent) (m ∷ [])
      (joined_carry x.place.nodes i t.frames (to_others x.place w) p.sent (prepare ∷ []) p.carry (others_carry x.place.nodes i w prepare (three_in x) refl tt refl))
      (note_carry x.place.nodes i m refl refl));
  all = subst (λ (l : List Frame). CarryAll x.place.nodes i l (m ∷ prepare ∷ p.sent)) (append-nil (t.frames ++ to_others x.place w))
      (joined_all x.place.nodes i (t.frames ++ to_others x.place w) [] (prepare ∷ p.sent) (m ∷ [])
      (joined_all x.place.nodes i t.frames (to_others x.place w) p.sent (prepare ∷ []) p.all (others_all x.place.nodes i w prepare (three_in x) refl))
      (note_all x.place.nodes i m refl));
  pieces = λ ends. subst (λ (l : List Piece). AreShown i x.start x.log l p.shown) (sym (append-nil t.shown)) (p.pieces ends);
  logged = λ ends. ap (log_after x.log) (append-nil t.shown) ∙ p.logged ends;
  unshown = p.unshown;
  unvoted = λ q. absurd (true≢false (sym ends ∙ q));
  unstored = λ q. absurd (true≢false (sym ends ∙ q));
  got_only = λ o h. elim h [ inl e ↦ inr (inl e) | inr old ↦ elim (p.got_only o old) [ inl a ↦ inl a | inr b ↦ inr (inr (inr b)) ] ];
  got_all = λ o h. inr (p.got_all o h);
}
  where
    i : ℕ
    i = x.place.node

    front : ℕ
    front = front_of t.after

    ballot : Ballot
    ballot = next_ballot x.place.node (greatest_seen t.after)

    told : List Entry
    told = told_by t.after.store (front_of t.after)

    prepare : Message
    prepare = Prepare (next_ballot x.place.node (greatest_seen t.after)) (front_of t.after)

    w : Wire
    w = frame.Prepare (next_ballot x.place.node (greatest_seen t.after)) (front_of t.after)

    m : Message
    m = Promise x.place.node (next_ballot x.place.node (greatest_seen t.after)) (front_of t.after) (told_by t.after.store (front_of t.after))

    up : Below p.node.store.promise ballot
    up = subst (λ (st : Store). Below st.promise ballot) (sym p.knows.store)
        (above t.after.store.promise (higher t.after.seen t.after.store.promise) i (higher_is t.after.seen t.after.store.promise).1)

    tells_it : Tells p.node.store front told
    tells_it = subst (λ (st : Store). Tells st front told) (sym p.knows.store) (tells t.after.store front)

    begun : Node
    begun = with_sent (with_store p.node (promised p.node.store ballot)) (m ∷ prepare ∷ [])

    last : Node
    last = with_got begun m

    c : Campaign
    c = prepared x.place ballot t.after

    sent_both : (act : Option Command) → IsPending (dealer_in x) i p.node (applied t.after) act
        → IsPending (dealer_in x) i begun (applied t.after) act
    sent_both act h =
        sent_pending (dealer_in x) i (with_sent (with_store p.node (promised p.node.store ballot)) (prepare ∷ [])) m (applied t.after) act
        (sent_pending (dealer_in x) i (with_store p.node (promised p.node.store ballot)) prepare (applied t.after) act
        (stored_pending (dealer_in x) i p.node (promised p.node.store ballot) (applied t.after) act h))

    stays : (c.ballot ≡ ballot) × (c.first ≡ front)
    stays = x.given.promise_stays x.place.nodes (new_campaign ballot front) i ballot front told

    -- all that was told is below the ballot
    below_it : (b : Ballot) → IsTold p.node.has b → Below b ballot
    below_it b h = untold p.node.has t.after.store.promise t.after.seen i b
        (subst (λ (st : Store). Sees p.node.has st.promise t.after.seen) p.knows.store p.knows.seen) h

    low : (b : Ballot) → In b (ballots_in m) → AtMost b ballot
    low b (inl e) = subst (λ (y : Ballot). AtMost y ballot) (sym e) (at_most_self ballot)
    low b (inr h) =
        let e = entry_ballot told b h in
        subst (λ (y : Ballot). AtMost y ballot) (sym e.2)
        (at_most_trans e.0.ballot p.node.store.promise ballot (p.knows.within e.0.slot (vote_of e.0) (tells_it.only e.0 e.1).1) (at_most_of_below p.node.store.promise ballot up))

    prepared_then : (b : Ballot) (f : ℕ) → In (Prepare b f) (m ∷ prepare ∷ p.node.sent) → ((b ≡ ballot) × (f ≡ front)) ⊎ In (Prepare b f) p.node.sent
    prepared_then b f (inl e) = absurd (cc)
    prepared_then b f (inr (inl e)) = inl ((let s : b ≡ ballot = cc in s), (let s : f ≡ front = cc in s))
    prepared_then b f (inr (inr h)) = inr h

    proposed_then : (b : Ballot) (s : ℕ) (k : Command) → In (Accept b s k) (m ∷ prepare ∷ p.node.sent) → In (Accept b s k) p.node.sent
    proposed_then b s k (inl e) = absurd (cc)
    proposed_then b s k (inr (inl e)) = absurd (cc)
    proposed_then b s k (inr (inr h)) = h

    began_now : (b : Ballot) (f : ℕ) → In (Prepare b f) (m ∷ prepare ∷ p.node.sent) → AtMost b ballot × (b.node ≡ x.place.node) × (f ≤ front_of t.after)
    began_now b f h = elim (prepared_then b f h) [
      | inl new ↦ (subst (λ (y : Ballot). AtMost y ballot) (sym new.0) (at_most_self ballot), ap (λ (y : Ballot). y.node) new.0, (let e = new.1 in omega (arith, e)))
      | inr old ↦ (let k = p.knows.proposer.began b f old in (at_most_trans b p.node.store.promise ballot k.0 (at_most_of_below p.node.store.promise ballot up), k.1, k.2))
    ]

    stands_now : (b : Ballot) (f : ℕ) → In (Prepare b f) (m ∷ prepare ∷ p.node.sent) → ballot ≡ b
        → (found : Campaign) × (◌≡◌ {A = Option Campaign} (Some c) (Some found)) × (found.ballot ≡ b) × (found.first ≡ f)
    stands_now b f h same = elim (prepared_then b f h) [
      | inl new ↦ (c, refl, stays.0 ∙ sym new.0, stays.1 ∙ sym new.1)
      | inr old ↦ absurd (not_below b p.node.store.promise (p.knows.proposer.began b f old).0 (subst (Below p.node.store.promise) same up))
    ]

    no_proposal : (s : ℕ) (k : Command) → In (Accept ballot s k) (m ∷ prepare ∷ p.node.sent) → ⊥
    no_proposal s k h = not_below ballot p.node.store.promise (p.knows.proposer.proposed ballot s k (proposed_then ballot s k h)) up

    no_promise : (node : ℕ) (entries : List Entry) → In (Promise node ballot front entries) p.node.has → ⊥
    no_promise node entries h = not_below ballot ballot (at_most_self ballot) (below_it ballot (Promise node ballot front entries, h, inl refl))

    campaigns : Campaigns x.place.nodes i last c
    campaigns = record {
      own = ap (λ (b : Ballot). b.node) stays.0;
      promised = sym stays.0;
      prepared = inr (inl (λ j. Prepare (stays.0 j) (stays.1 j)));
      counts = x.given.promise x.place.nodes (m ∷ p.node.has) (new_campaign ballot front) i ballot front told (inl refl) (x.given.begin (m ∷ p.node.has) ballot front);
      counts_all = x.given.promise_all x.place.nodes p.node.has (new_campaign ballot front) i ballot front told
          (x.given.begin_all x.place.nodes p.node.has ballot front (x.given.most_nodes x.place.nodes x.is_place.few) no_promise);
      marks = x.given.promise_marks x.place.nodes (m ∷ prepare ∷ p.node.sent) (new_campaign ballot front) i ballot front told
          (x.given.begin_marks (m ∷ prepare ∷ p.node.sent) ballot front no_proposal);
      votes = λ s v e b. absurd (not_below ballot p.node.store.promise (subst (λ (y : Ballot). AtMost y p.node.store.promise) (b ∙ stays.0) (p.knows.within s v e)) up);
      unrefused = λ k r s b had above. elim had [
        | inl e ↦ absurd (cc)
        | inr old ↦ not_below ballot b (at_most_of_below ballot b (subst (λ (y : Ballot). Below y b) stays.0 above)) (below_it b (Refuse k r s b, old, inr (inl refl)))
      ];
    }

-- ---- a tick

tick_by : (x : Scope) (came : List Arrival) (heard : Hearing) (t : Turn) (ends : x.ends ≡ true) (over spent : Bool) → Path x came heard (applied t.after) t
    → Goes x came heard (behind t (if over then Ok (still t.after)
    else if spent then Err Spent
    else Ok (beginning x.place (next_ballot x.place.node (greatest_seen t.after)) t.after)))
tick_by x came heard t ends true spent p = go_on x came heard (applied t.after) t p
tick_by x came heard t ends false true p = tt
tick_by x came heard t ends false false p = begin x came heard t ends p

pub tick : (x : Scope) (came : List Arrival) (heard : Hearing) (t : Turn) (ends : x.ends ≡ true) → Path x came heard (applied t.after) t → Goes x came heard (behind t (ticking x.place t.after))
tick x came heard t ends p = tick_by x came heard t ends (is_over x.place t.after) (is_spent t.after) p

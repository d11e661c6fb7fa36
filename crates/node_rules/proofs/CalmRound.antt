-- The calm round goes on to its end.
use Rattle.std.proofs.Common.{◌≡◌, ◌≢◌, ℕ, suc, ◌<◌, ◌≤◌, ◌+◌, ◌*◌, ◌⊎◌, inl, inr, true, false, ◌==◌, List, [], ◌∷◌, ◌++◌, map, Option, Some, Ok, refl, sym, ap, subst, ◌∙◌, arith, length}
use Rattle.std.proofs.lemmas.Bool.Decides.{eqb_tells}
use Rattle.paxos_wire.specs.Spelling.{frame as bytes_of}
use Rattle.paxos_wire.specs.Faults.{reading}
use Rattle.slot_log.specs.Slots.{IsLog}
use Rattle.slot_log.specs.declared.command.Command.{Command}
use Rattle.protocol_model.specs.Sets.{In, put}
use Rattle.protocol_model.specs.Messages.{Accepted}
use Rattle.protocol_model.specs.Frames.{answers}
use Rattle.protocol_model.specs.CommandRuns.{proposed}
use Rattle.protocol_model.specs.Stores.{Store}
use Rattle.protocol_model.specs.Votes.{is_of_ballot, command_run_at}
use Rattle.proposer.specs.declared.campaign.Campaign.{Campaign}
use Rattle.proposer.specs.Campaigns.{with_promise}
use Rattle.proposer.specs.CommandRuns.{run_by, with_marks}
use Rattle.proposer.proofs.SafeRuns.{PassedRun, passed_run}
use Rattle.learner.specs.Learning.{Learned}
use Rattle.learner.specs.CommandRuns.{hearing_run}
use Rattle.node_rules.proofs.CalmPromises.{IsCounted}
use Rattle.node_rules.specs.Standings.{Standing, front_of}
use Rattle.node_rules.specs.Sending.{one, to_others}
use Rattle.node_rules.specs.Turns.{Turn, still, joined}
use Rattle.node_rules.specs.Proposing.{prepared, own_value}
use Rattle.node_rules.specs.Rules.{asking, on_message}
use Rattle.node_rules.specs.Calm.{Rise, without, Event, Ticks, delivers, round}
use Rattle.node_rules.specs.CalmRound.{place_in, Sent, sent_by, AreReadBack, GoOn, AreKnown, HasMovedOn}
use Rattle.protocol_model.proofs.Sets.{Within, in_first, in_later, put_same, put_other}
use Rattle.node_rules.proofs.OwnRuns.{votes_outside}
use Rattle.node_rules.proofs.Asked.{asked_same}
use Rattle.node_rules.proofs.Carrying.{has_to}
use Rattle.node_rules.proofs.Settled.{marked_at}
use Rattle.node_rules.proofs.Electing.{covered}
use Rattle.node_rules.proofs.Counting.{Counts, GrowsByEach, votes_grow, answers_had}
use Rattle.node_rules.proofs.Members.{AreDistinct, above_all, rise_distinct, without_in, in_without, without_rise, without_length}
use Rattle.node_rules.proofs.CalmTurns.{Round, place_at, ballot_in, slot_in, told_in, stores_in, IsRest, no_vote, unvoted_slot, begun_counted, begun_turn, ticked_turn, prepare_in, promise_in, promised_turn, prepare_turn, IsPreparing, with_counted, preparing_more, promise_turn, made_in, none_marked, completed_turn, completed_run, completing_turn, accept_in, accepted_in, HasPromised, accepted_turn, accept_turn, IsLeading, counted_low, with_heard_vote, accepted_goes, leading_more, LastTurn, last_turn, more_counted, are_ahead, are_taken, new_over}
use Rattle.paxos_wire.specs.declared.ballot.Ballot.{Ballot}
use Rattle.protocol_model.specs.Ballots.{AtMost}
use Rattle.protocol_model.proofs.Ballots.{at_most_self, at_most_of_below}
use Rattle.node_rules.proofs.NextBallots.{seen_below}
use Rattle.node_rules.proofs.CalmSteps.{sent_in, ended, deliver, prepare_framed, tick_first}

-- ---- the other members

pub record Others (r : Round) (others : List ℕ) : Type 0 where
  pub rise : Rise 0 r.n others
  pub member : (j : ℕ) → In j others → In j r.members
  pub other : (j : ℕ) → In j others → j ≡ r.i → ⊥
  pub all : (j : ℕ) → In j r.members → (j ≡ r.i → ⊥) → In j others
  pub size : suc (length others) ≡ length r.members

others_of : (r : Round) → IsRest r → Others r (without r.i r.members)
others_of r rest = record {
  rise = without_rise r.i 0 r.n r.members rest.quorum.rise;
  member = λ j h. (without_in r.i r.members j h).0;
  other = λ j h. (without_in r.i r.members j h).1;
  all = λ j h other. in_without r.i r.members j h other;
  size = without_length r.i r.n r.members (rise_distinct 0 r.n r.members rest.quorum.rise) rest.member;
}

-- those that are still to come are the numbers from here on
pub record ToCome (r : Round) (others : List ℕ) (from : ℕ) (todo : List ℕ) : Type 0 where
  pub rise : Rise from r.n todo
  pub inside : (k : ℕ) → In k todo → In k others
  pub split : (k : ℕ) → In k others → (k < from) ⊎ In k todo

next_come : (r : Round) (others : List ℕ) (from j : ℕ) (todo : List ℕ) → ToCome r others from (j ∷ todo) → ToCome r others (j + 1) todo
next_come r others from j todo c = record {
  rise = c.rise.2;
  inside = λ k h. c.inside k (inr h);
  split = λ k h. elim (c.split k h) [
    | inl l ↦ inl (let low = c.rise.0 in omega arith)
    | inr come ↦ elim come [ inl e ↦ inl (omega (arith, e)) | inr h ↦ inr h ]
  ];
}

-- the first of them is done
done_is : (r : Round) (others : List ℕ) (from j : ℕ) (todo : List ℕ) → ToCome r others from (j ∷ todo) → (k : ℕ) → In k others → k < j + 1 → (k < from) ⊎ (k ≡ j)
done_is r others from j todo c k h l = elim (c.split k h) [
  | inl low ↦ inl low
  | inr come ↦ elim come [
    | inl e ↦ inr e
    | inr later ↦ absurd (let a = (above_all (j + 1) r.n todo k c.rise.2 later).0 in omega arith)
  ]
]

-- none is left
all_done : (r : Round) (others : List ℕ) (from : ℕ) → ToCome r others from [] → (k : ℕ) → In k others → k < from
all_done r others from c k h = elim (c.split k h) [ inl l ↦ l | inr none ↦ absurd none ]

-- ---- what is on its way

pub record IsTold (r : Round) (j : ℕ) (sent : List Sent) : Type 0 where
  pub way : In (record { from = j; to = r.i; message = promise_in r j }) sent
  pub reads : reading (bytes_of (promise_in r j)) ≡ Ok (promise_in r j)

pub record IsVoted (r : Round) (j : ℕ) (sent : List Sent) : Type 0 where
  pub way : In (record { from = j; to = r.i; message = accepted_in r }) sent
  pub reads : reading (bytes_of (accepted_in r)) ≡ Ok (accepted_in r)

told_later : (r : Round) (j : ℕ) (new sent : List Sent) → IsTold r j sent → IsTold r j (new ++ sent)
told_later r j new sent t = record { way = in_later new sent (record { from = j; to = r.i; message = promise_in r j }) t.way; reads = t.reads }

voted_later : (r : Round) (j : ℕ) (new sent : List Sent) → IsVoted r j sent → IsVoted r j (new ++ sent)
voted_later r j new sent t = record { way = in_later new sent (record { from = j; to = r.i; message = accepted_in r }) t.way; reads = t.reads }

-- ---- all Prepares

pub record Prepares (r : Round) (others : List ℕ) (from : ℕ) (st : ℕ → Standing) (sent : List Sent) : Type 0 where
  pub preparing : IsPreparing r (r.i ∷ []) (st r.i)
  pub waits : (j : ℕ) → In j others → from ≤ j → st j ≡ r.standings j
  pub promised_so : (j : ℕ) → In j others → j < from → HasPromised r j (st j)
  pub way : (j : ℕ) → In j others → In (record { from = r.i; to = j; message = prepare_in r }) sent
  pub reads : (j : ℕ) → In j others → reading (bytes_of (prepare_in r)) ≡ Ok (prepare_in r)
  pub told : (j : ℕ) → In j others → j < from → IsTold r j sent

abbrev prepared_turn : Round → ℕ → Turn
prepared_turn r j = joined (joined (promised_turn r j) (still (promised_turn r j).after)) (asking r.i (prepare_in r) (promised_turn r j).after)

promised_after : (r : Round) → IsRest r → (j : ℕ) → In j r.members → HasPromised r j (prepared_turn r j).after
promised_after r rest j h = subst (HasPromised r j) (sym (asked_same r.i (prepare_in r) (promised_turn r j).after)) (record { up = rest.up j h; store = refl; learned = refl })

promise_framed : (r : Round) (j : ℕ) → In (record { to = r.i; message = promise_in r j }) (prepared_turn r j).frames
promise_framed r j = in_first (one r.i (promise_in r j) ++ []) (asking r.i (prepare_in r) (promised_turn r j).after).frames (record { to = r.i; message = promise_in r j }) (inl refl)

prepares_on : (r : Round) → IsRest r → (others : List ℕ) → Others r others → (from j : ℕ) (todo : List ℕ) → ToCome r others from (j ∷ todo) → (st : ℕ → Standing) (sent : List Sent) → Prepares r others from st sent
    → AreReadBack (prepared_turn r j).frames → Prepares r others (j + 1) (put st j (prepared_turn r j).after) (sent_by j (prepared_turn r j).frames ++ sent)
prepares_on r rest others o from j todo c st sent p back = record {
  preparing = subst (IsPreparing r (r.i ∷ [])) (sym (put_other st j (prepared_turn r j).after r.i (λ e. o.other j jin (sym e)))) p.preparing;
  waits = λ k h l. put_other st j (prepared_turn r j).after k (λ e. absurd (omega (arith, e))) ∙ p.waits k h (let low = c.rise.0 in omega arith);
  promised_so = λ k h l. elim (done_is r others from j todo c k h l) [
    | inl low ↦ subst (HasPromised r k) (sym (put_other st j (prepared_turn r j).after k (λ e. let b = c.rise.0 in absurd (omega (arith, e))))) (p.promised_so k h low)
    | inr e ↦ subst (λ (m : ℕ). HasPromised r m (put st j (prepared_turn r j).after m)) (sym e) (subst (HasPromised r j) (sym (put_same st j (prepared_turn r j).after)) (promised_after r rest j (o.member j jin)))
  ];
  way = λ k h. in_later (sent_by j (prepared_turn r j).frames) sent (record { from = r.i; to = k; message = prepare_in r }) (p.way k h);
  reads = p.reads;
  told = λ k h l. elim (done_is r others from j todo c k h l) [
    | inl low ↦ told_later r k (sent_by j (prepared_turn r j).frames) sent (p.told k h low)
    | inr e ↦ subst (λ (m : ℕ). IsTold r m (sent_by j (prepared_turn r j).frames ++ sent)) (sym e) (record {
      way = in_first (sent_by j (prepared_turn r j).frames) sent (record { from = j; to = r.i; message = promise_in r j }) (sent_in j (prepared_turn r j).frames r.i (promise_in r j) (promise_framed r j));
      reads = back (record { to = r.i; message = promise_in r j }) (promise_framed r j);
    })
  ];
}
  where
    jin : In j others
    jin = c.inside j (inl refl)

all_prepares : (r : Round) → IsRest r → (others : List ℕ) → Others r others → (todo : List ℕ) (from : ℕ) → ToCome r others from todo → (IsSo : (ℕ → Standing) → Type 0) (st : ℕ → Standing) (sent : List Sent)
    → Prepares r others from st sent → (events : List Event)
    → ((new : ℕ → Standing) (more : List Sent) → ((j : ℕ) → In j others → HasPromised r j (new j)) → IsPreparing r (r.i ∷ []) (new r.i) → ((j : ℕ) → In j others → IsTold r j more)
    → GoOn (place_in r.setting r.n r.deals) IsSo new more events)
    → GoOn (place_in r.setting r.n r.deals) IsSo st sent (map (λ j. delivers r.i j (prepare_in r)) todo ++ events)
all_prepares r rest others o [] from c IsSo st sent p events later =
    later st sent (λ j h. p.promised_so j h (all_done r others from c j h)) p.preparing (λ j h. p.told j h (all_done r others from c j h))
all_prepares r rest others o (j ∷ todo) from c IsSo st sent p events later =
    let jin : In j others = c.inside j (inl refl) in
    let same : st j ≡ r.standings j = p.waits j jin c.rise.0 in
    deliver r IsSo st sent r.i j (prepare_in r) (map (λ k. delivers r.i k (prepare_in r)) todo ++ events) (prepared_turn r j)
    (ap (λ (s : Standing). s.up) same ∙ rest.up j (o.member j jin)) (p.reads j jin) (p.way j jin)
    (ap (on_message (place_at r j) r.i (prepare_in r)) same ∙ prepare_turn r rest j (o.member j jin))
    (λ back. all_prepares r rest others o todo (j + 1) (next_come r others from j todo c) IsSo (put st j (prepared_turn r j).after) (sent_by j (prepared_turn r j).frames ++ sent)
    (prepares_on r rest others o from j todo c st sent p back) events later)

-- ---- all Promises

pub record Promises (r : Round) (others : List ℕ) (counted : List ℕ) (from : ℕ) (st : ℕ → Standing) (sent : List Sent) : Type 0 where
  pub preparing : IsPreparing r counted (st r.i)
  pub distinct : AreDistinct r.n counted
  pub inside : (m : ℕ) → In m counted → In m r.members
  pub done : (m : ℕ) → In m others → m < from → In m counted
  pub own : In r.i counted
  pub only : (m : ℕ) → In m counted → (m ≡ r.i) ⊎ (m < from)
  pub promised_so : (j : ℕ) → In j others → HasPromised r j (st j)
  pub told : (j : ℕ) → In j others → IsTold r j sent

-- no member has promised a ballot above the round's, nor has the node seen one, which it has promised itself
pub record IsLow (r : Round) (st : ℕ → Standing) : Type 0 where
  pub seen : AtMost (st r.i).seen (ballot_in r)
  pub own : (st r.i).store.promise ≡ ballot_in r
  pub promises : (k : ℕ) → In k r.members → AtMost (st k).store.promise (ballot_in r)

promised_low : (r : Round) (j : ℕ) (s : Standing) → HasPromised r j s → AtMost s.store.promise (ballot_in r)
promised_low r j s p = subst (λ (st : Store). AtMost st.promise (ballot_in r)) (sym p.store) (at_most_self (ballot_in r))

-- the state once the node proposed
pub record Proposes (r : Round) (others : List ℕ) (from : ℕ) (st : ℕ → Standing) (sent : List Sent) : Type 0 where
  pub leading : IsLeading r (r.i ∷ []) (st r.i)
  pub waits : (j : ℕ) → In j others → from ≤ j → HasPromised r j (st j)
  pub way : (j : ℕ) → In j others → In (record { from = r.i; to = j; message = accept_in r }) sent
  pub reads : (j : ℕ) → In j others → reading (bytes_of (accept_in r)) ≡ Ok (accept_in r)
  pub voted_so : (j : ℕ) → In j others → j < from → IsVoted r j sent
  pub low : (j : ℕ) → In j others → AtMost (st j).store.promise (ballot_in r)

not_counted : (r : Round) (others : List ℕ) → Others r others → (counted : List ℕ) (from j : ℕ) (todo : List ℕ) → ToCome r others from (j ∷ todo) → ((m : ℕ) → In m counted → (m ≡ r.i) ⊎ (m < from)) → In j counted → ⊥
not_counted r others o counted from j todo c only h = elim (only j h) [
  | inl e ↦ o.other j (c.inside j (inl refl)) e
  | inr l ↦ (let low = c.rise.0 in absurd (omega arith))
]

distinct_more : (r : Round) → IsRest r → (others : List ℕ) → Others r others → (counted : List ℕ) (from j : ℕ) (todo : List ℕ) → ToCome r others from (j ∷ todo) → ((m : ℕ) → In m counted → (m ≡ r.i) ⊎ (m < from))
    → AreDistinct r.n counted → AreDistinct r.n (j ∷ counted)
distinct_more r rest others o counted from j todo c only d = (rest.low j (o.member j (c.inside j (inl refl))), not_counted r others o counted from j todo c only, d)

inside_more : (r : Round) (others : List ℕ) → Others r others → (counted : List ℕ) (from j : ℕ) (todo : List ℕ) → ToCome r others from (j ∷ todo) → ((m : ℕ) → In m counted → In m r.members)
    → (m : ℕ) → In m (j ∷ counted) → In m r.members
inside_more r others o counted from j todo c inside m (inl e) = subst (λ (k : ℕ). In k r.members) (sym e) (o.member j (c.inside j (inl refl)))
inside_more r others o counted from j todo c inside m (inr h) = inside m h

only_more : (r : Round) (others : List ℕ) (counted : List ℕ) (from j : ℕ) (todo : List ℕ) → ToCome r others from (j ∷ todo) → ((m : ℕ) → In m counted → (m ≡ r.i) ⊎ (m < from))
    → (m : ℕ) → In m (j ∷ counted) → (m ≡ r.i) ⊎ (m < j + 1)
only_more r others counted from j todo c only m (inl e) = inr (omega (arith, e))
only_more r others counted from j todo c only m (inr h) = elim (only m h) [ inl e ↦ inl e | inr l ↦ inr (let low = c.rise.0 in omega arith) ]

done_more : (r : Round) (others : List ℕ) (counted : List ℕ) (from j : ℕ) (todo : List ℕ) → ToCome r others from (j ∷ todo) → ((m : ℕ) → In m others → m < from → In m counted)
    → (m : ℕ) → In m others → m < j + 1 → In m (j ∷ counted)
done_more r others counted from j todo c done m h l = elim (done_is r others from j todo c m h l) [ inl low ↦ inr (done m h low) | inr e ↦ inl e ]

-- the last one makes all members
all_in : (r : Round) (others : List ℕ) → Others r others → (counted : List ℕ) (from j : ℕ) → ToCome r others from (j ∷ []) → ((m : ℕ) → In m others → m < from → In m counted) → In r.i counted
    → (m : ℕ) → In m r.members → In m (j ∷ counted)
all_in r others o counted from j c done own m h = by_node (eqb_tells m r.i)
  where
    by_node : ((m == r.i) ≡ true) × (m ≡ r.i) ⊎ ((m == r.i) ≡ false) × (m ≢ r.i) → In m (j ∷ counted)
    by_node (inl same) = inr (subst (λ (k : ℕ). In k counted) (sym same.1) own)
    by_node (inr ne) = done_more r others counted from j [] c done m (o.all m h ne.1) (all_done r others (j + 1) (next_come r others from j [] c) m (o.all m h ne.1))

half : (r : Round) → IsRest r → (k more : ℕ) → k + suc more ≡ length r.members → 2 * k ≤ r.n
half r rest k more e = let q = rest.quorum.least in omega (arith, e, q)

-- node i proposes
leads_then : (r : Round) → IsRest r → (counted : List ℕ) (s : Standing) (p : IsPreparing r counted s) (j : ℕ) → AreDistinct r.n (j ∷ counted) → 2 * length counted ≤ r.n
    → ((m : ℕ) → In m (j ∷ counted) → In m r.members) → ((m : ℕ) → In m r.members → In m (j ∷ counted)) → r.n < 2 * length (j ∷ counted)
    → IsLeading r (r.i ∷ []) (completed_turn r counted s p j).after
leads_then r rest counted s p j distinct less inside all enough = record {
  up = p.up;
  campaign = with_marks k (Ok (Some (made_in r)));
  has = refl;
  ballot = c.ballot_is;
  covers = covered k.first (slot_in r) (let e = c.first_is in omega (arith, e)) (let e = c.first_is in omega (arith, e));
  marked = marked_at r.given r.n [] k (front_of u) own (made_in r) (none_marked k c.unproposed) made_so tests.ballot (slot_in r) (omega arith) (let some = rest.least in omega (arith, some));
  sent = proposed (ballot_in r) (slot_in r) r.commands ++ [];
  marks = r.given.proposal_marks r.n [] k (front_of u) own (made_in r) made_so (none_marked k c.unproposed);
  votes = λ m v e out same. no_vote r rest r.i rest.member m v
      (ap (λ (st : Store). st.votes m) (sym p.store) ∙ (sym (votes_outside r.given s.store (ballot_in r) (slot_in r) r.commands whole m out) ∙ e)) same;
  seen = counted_low r rest j (inside j (inl refl)) s p.seen;
  promise = elim (r.given.command_run_promise s.store (ballot_in r) (slot_in r) r.commands) [ inl same ↦ same ∙ ap (λ (st : Store). st.promise) p.store | inr new ↦ new ];
  log = (new_over r rest s p.learned).log ∙ ap (λ (l : Learned). l.log) p.learned;
  nodes = r.given.run_nodes s.learned r.i (ballot_in r) (slot_in r) r.commands ∙ nodes;
  more = grows.grows.more;
  counts = grows.grows.counts;
  voted_in = λ m h. elim h [
    | inl e ↦ subst (λ (x : ℕ). Within (answers x (ballot_in r) (slot_in r) r.commands) grows.grows.more) (sym e)
        (answers_had r.given (rest.came r.i rest.member) s.learned (hearing_run s.learned r.i (ballot_in r) (slot_in r) r.commands) r.i (ballot_in r) (slot_in r) r.commands grows (are_ahead r rest s.learned same_log))
    | inr none ↦ absurd none
  ];
  only = λ voter m d h. only_own voter m d h;
}
  where
    u : Standing
    u = with_counted r counted s p j

    own : Option Command
    own = own_value (place_at r r.i) (with_counted r counted s p j)

    k : Campaign
    k = with_promise r.n p.campaign j (ballot_in r) (slot_in r) (told_in r j)

    c : IsCounted (ballot_in r) (slot_in r) (stores_in r) (j ∷ counted) (with_promise r.n p.campaign j (ballot_in r) (slot_in r) (told_in r j))
    c = more_counted r rest counted s p j distinct.2 less distinct.1 distinct.0

    made_so : run_by r.n (with_promise r.n p.campaign j (ballot_in r) (slot_in r) (told_in r j)) (front_of (with_counted r counted s p j)) (own_value (place_at r r.i) (with_counted r counted s p j)) ≡ Ok (Some (made_in r))
    made_so = completed_run r rest counted s p j distinct less inside all enough

    tests : PassedRun r.n k (front_of u) own (made_in r)
    tests = passed_run r.n k (front_of u) own (made_in r) made_so

    same_log : s.learned.log ≡ (r.standings r.i).learned.log
    same_log = ap (λ (l : Learned). l.log) p.learned

    nodes : s.learned.nodes ≡ r.n
    nodes = ap (λ (l : Learned). l.nodes) p.learned ∙ rest.nodes r.i rest.member

    whole : command_run_at s.store (ballot_in r) (slot_in r) r.commands ≡ r.commands
    whole = r.given.command_run_whole s.store (ballot_in r) (slot_in r) r.commands
        (λ m low high. ap (λ (st : Store). is_of_ballot (st.votes m) (ballot_in r)) p.store ∙ unvoted_slot r rest r.i rest.member m)

    grows : GrowsByEach (rest.came r.i rest.member) s.learned (hearing_run s.learned r.i (ballot_in r) (slot_in r) r.commands) r.i (ballot_in r) (slot_in r) r.commands
    grows = votes_grow r.given (rest.came r.i rest.member) s.learned r.i (ballot_in r) (slot_in r) r.commands (subst IsLog (sym same_log) (rest.log r.i rest.member))
        (subst (λ (m : ℕ). r.i < m) (sym nodes) (rest.low r.i rest.member)) rest.most (are_taken r rest s.learned same_log r.i)
        (subst (Counts (rest.came r.i rest.member)) (sym p.learned) (rest.counts r.i rest.member))

    only_own : (voter m : ℕ) (d : Command) → In (Accepted voter (ballot_in r) m d) grows.grows.more → (slot_in r ≤ m) × (m < slot_in r + length r.commands) × In voter (r.i ∷ [])
    only_own voter m d h = elim (grows.only (Accepted voter (ballot_in r) m d) h) [
      | inl one ↦ (let at = (r.given.in_answers r.i voter (ballot_in r) (ballot_in r) (slot_in r) m d r.commands).0 one in (at.2, at.3, inl at.0))
      | inr old ↦ absurd (rest.unvoted r.i rest.member voter m d old)
    ]

abbrev counted_turn : (r : Round) (counted : List ℕ) (s : Standing) → IsPreparing r counted s → ℕ → Turn
counted_turn r counted s p j = joined (joined (still (with_counted r counted s p j)) (still (with_counted r counted s p j))) (asking j (promise_in r j) (with_counted r counted s p j))

abbrev proposed_turn : (r : Round) (counted : List ℕ) (s : Standing) → IsPreparing r counted s → ℕ → Turn
proposed_turn r counted s p j = joined (joined (still (with_counted r counted s p j)) (completed_turn r counted s p j)) (asking j (promise_in r j) (completed_turn r counted s p j).after)

accept_framed : (r : Round) → (counted : List ℕ) (s : Standing) (p : IsPreparing r counted s) (j k : ℕ) → k < r.n → (k ≡ r.i → ⊥) → In (record { to = k; message = accept_in r }) (proposed_turn r counted s p j).frames
accept_framed r counted s p j k low other =
    in_first (to_others (place_at r r.i) (accept_in r) ++ to_others (place_at r r.i) (accepted_in r)) [] (record { to = k; message = accept_in r })
    (in_first (to_others (place_at r r.i) (accept_in r)) (to_others (place_at r r.i) (accepted_in r)) (record { to = k; message = accept_in r }) (has_to r.n r.i k (accept_in r) low other))

all_promises : (r : Round) → IsRest r → (others : List ℕ) → Others r others → (todo : List ℕ) (j from : ℕ) (counted : List ℕ) → ToCome r others from (j ∷ todo) → length counted + suc (length todo) ≡ length r.members
    → (IsSo : (ℕ → Standing) → Type 0) (st : ℕ → Standing) (sent : List Sent) → Promises r others counted from st sent → (events : List Event)
    → ((new : ℕ → Standing) (more : List Sent) → Proposes r others 0 new more → GoOn (place_in r.setting r.n r.deals) IsSo new more events)
    → GoOn (place_in r.setting r.n r.deals) IsSo st sent (delivers j r.i (promise_in r j) ∷ (map (λ k. delivers k r.i (promise_in r k)) todo ++ events))
all_promises r rest others o [] j from counted c size IsSo st sent p events later =
    deliver r IsSo st sent j r.i (promise_in r j) events t p.preparing.up (p.told j jin).reads (p.told j jin).way
    (completing_turn r rest counted (st r.i) p.preparing j distinct (half r rest (length counted) 0 size) (inside_more r others o counted from j [] c p.inside) (all_in r others o counted from j c p.done p.own)
    (let q = rest.quorum.most in omega (arith, q, size)))
    (λ back. later (put st r.i t.after) (sent_by r.i t.frames ++ sent) (record {
      leading = subst (IsLeading r (r.i ∷ [])) (sym (put_same st r.i t.after)) (leads_then r rest counted (st r.i) p.preparing j distinct (half r rest (length counted) 0 size)
          (inside_more r others o counted from j [] c p.inside) (all_in r others o counted from j c p.done p.own) (let q = rest.quorum.most in omega (arith, q, size)));
      waits = λ k h l. subst (HasPromised r k) (sym (put_other st r.i t.after k (o.other k h))) (p.promised_so k h);
      way = λ k h. in_first (sent_by r.i t.frames) sent (record { from = r.i; to = k; message = accept_in r }) (sent_in r.i t.frames k (accept_in r) (framed k h));
      reads = λ k h. back (record { to = k; message = accept_in r }) (framed k h);
      voted_so = λ k h l. absurd (omega arith);
      low = λ k h. subst (λ (s : Standing). AtMost s.store.promise (ballot_in r)) (sym (put_other st r.i t.after k (o.other k h))) (promised_low r k (st k) (p.promised_so k h));
    }))
  where
    jin : In j others
    jin = c.inside j (inl refl)

    t : Turn
    t = proposed_turn r counted (st r.i) p.preparing j

    distinct : AreDistinct r.n (j ∷ counted)
    distinct = distinct_more r rest others o counted from j [] c p.only p.distinct

    framed : (k : ℕ) → In k others → In (record { to = k; message = accept_in r }) (proposed_turn r counted (st r.i) p.preparing j).frames
    framed k h = accept_framed r counted (st r.i) p.preparing j k (rest.low k (o.member k h)) (o.other k h)
all_promises r rest others o (next ∷ todo) j from counted c size IsSo st sent p events later =
    deliver r IsSo st sent j r.i (promise_in r j) (delivers next r.i (promise_in r next) ∷ (map (λ k. delivers k r.i (promise_in r k)) todo ++ events)) (counted_turn r counted (st r.i) p.preparing j)
    p.preparing.up (p.told j (c.inside j (inl refl))).reads (p.told j (c.inside j (inl refl))).way
    (promise_turn r rest counted (st r.i) p.preparing j (distinct_more r rest others o counted from j (next ∷ todo) c p.only p.distinct) (half r rest (length counted) (suc (length todo)) size)
    (half r rest (suc (length counted)) (length todo) (omega (arith, size))))
    (λ back. all_promises r rest others o todo next (j + 1) (j ∷ counted) (next_come r others from j (next ∷ todo) c) (omega (arith, size)) IsSo
    (put st r.i (counted_turn r counted (st r.i) p.preparing j).after) sent
    (record {
      preparing = subst (IsPreparing r (j ∷ counted)) (sym (put_same st r.i (counted_turn r counted (st r.i) p.preparing j).after))
          (preparing_more r rest counted (st r.i) p.preparing j p.distinct (half r rest (length counted) (suc (length todo)) size) (not_counted r others o counted from j (next ∷ todo) c p.only)
          (rest.low j (o.member j (c.inside j (inl refl)))) (o.member j (c.inside j (inl refl))));
      distinct = distinct_more r rest others o counted from j (next ∷ todo) c p.only p.distinct;
      inside = inside_more r others o counted from j (next ∷ todo) c p.inside;
      done = done_more r others counted from j (next ∷ todo) c p.done;
      own = inr p.own;
      only = only_more r others counted from j (next ∷ todo) c p.only;
      promised_so = λ k h. subst (HasPromised r k) (sym (put_other st r.i (counted_turn r counted (st r.i) p.preparing j).after k (o.other k h))) (p.promised_so k h);
      told = p.told;
    }) events later)

-- ---- all Accepts

abbrev voted_turn : Round → ℕ → Standing → Turn
voted_turn r j s = joined (joined (accepted_turn r j s) (still (accepted_turn r j s).after)) (asking r.i (accept_in r) (accepted_turn r j s).after)

vote_framed : (r : Round) → IsRest r → (j : ℕ) (s : Standing) → (j ≡ r.i → ⊥) → In (record { to = r.i; message = accepted_in r }) (voted_turn r j s).frames
vote_framed r rest j s other =
    in_first ((to_others (place_at r j) (accepted_in r) ++ []) ++ []) (asking r.i (accept_in r) (accepted_turn r j s).after).frames (record { to = r.i; message = accepted_in r })
    (in_first (to_others (place_at r j) (accepted_in r) ++ []) [] (record { to = r.i; message = accepted_in r })
    (in_first (to_others (place_at r j) (accepted_in r)) [] (record { to = r.i; message = accepted_in r })
    (has_to r.n j r.i (accepted_in r) (rest.low r.i rest.member) (λ e. other (sym e)))))

all_accepts : (r : Round) → IsRest r → (others : List ℕ) → Others r others → (todo : List ℕ) (from : ℕ) → ToCome r others from todo → (IsSo : (ℕ → Standing) → Type 0) (st : ℕ → Standing) (sent : List Sent)
    → Proposes r others from st sent → (events : List Event)
    → ((new : ℕ → Standing) (more : List Sent) → IsLeading r (r.i ∷ []) (new r.i) → ((j : ℕ) → In j others → IsVoted r j more) → ((j : ℕ) → In j others → AtMost (new j).store.promise (ballot_in r))
    → GoOn (place_in r.setting r.n r.deals) IsSo new more events)
    → GoOn (place_in r.setting r.n r.deals) IsSo st sent (map (λ j. delivers r.i j (accept_in r)) todo ++ events)
all_accepts r rest others o [] from c IsSo st sent p events later = later st sent p.leading (λ j h. p.voted_so j h (all_done r others from c j h)) p.low
all_accepts r rest others o (j ∷ todo) from c IsSo st sent p events later =
    deliver r IsSo st sent r.i j (accept_in r) (map (λ k. delivers r.i k (accept_in r)) todo ++ events) t (p.waits j jin c.rise.0).up (p.reads j jin) (p.way j jin)
    (accept_turn r rest j (o.member j jin) (st j) (p.waits j jin c.rise.0))
    (λ back. all_accepts r rest others o todo (j + 1) (next_come r others from j todo c) IsSo (put st j t.after) (sent_by j t.frames ++ sent) (record {
      leading = subst (IsLeading r (r.i ∷ [])) (sym (put_other st j t.after r.i (λ e. o.other j jin (sym e)))) p.leading;
      waits = λ k h l. subst (HasPromised r k) (sym (put_other st j t.after k (λ e. absurd (omega (arith, e))))) (p.waits k h (let low = c.rise.0 in omega arith));
      way = λ k h. in_later (sent_by j t.frames) sent (record { from = r.i; to = k; message = accept_in r }) (p.way k h);
      reads = p.reads;
      voted_so = λ k h l. elim (done_is r others from j todo c k h l) [
        | inl low ↦ voted_later r k (sent_by j t.frames) sent (p.voted_so k h low)
        | inr e ↦ subst (λ (m : ℕ). IsVoted r m (sent_by j t.frames ++ sent)) (sym e) (record {
          way = in_first (sent_by j t.frames) sent (record { from = j; to = r.i; message = accepted_in r }) (sent_in j t.frames r.i (accepted_in r) framed);
          reads = back (record { to = r.i; message = accepted_in r }) framed;
        })
      ];
      low = λ k h. low_at k h (eqb_tells k j);
    }) events later)
  where
    jin : In j others
    jin = c.inside j (inl refl)

    t : Turn
    t = voted_turn r j (st j)

    voted_low : AtMost (voted_turn r j (st j)).after.store.promise (ballot_in r)
    voted_low = subst (λ (s : Standing). AtMost s.store.promise (ballot_in r)) (sym (asked_same r.i (accept_in r) (accepted_turn r j (st j)).after))
        (elim (r.given.command_run_promise (st j).store (ballot_in r) (slot_in r) r.commands) [
          | inl same ↦ subst (λ (b : Ballot). AtMost b (ballot_in r)) (sym same) (p.low j jin)
          | inr new ↦ subst (λ (b : Ballot). AtMost b (ballot_in r)) (sym new) (at_most_self (ballot_in r))
        ])

    low_at : (k : ℕ) → In k others → ((k == j) ≡ true) × (k ≡ j) ⊎ ((k == j) ≡ false) × (k ≢ j) → AtMost (put st j (voted_turn r j (st j)).after k).store.promise (ballot_in r)
    low_at k h (inl same) = subst (λ (m : ℕ). AtMost (put st j (voted_turn r j (st j)).after m).store.promise (ballot_in r)) (sym same.1)
        (subst (λ (s : Standing). AtMost s.store.promise (ballot_in r)) (sym (put_same st j (voted_turn r j (st j)).after)) voted_low)
    low_at k h (inr other) = subst (λ (s : Standing). AtMost s.store.promise (ballot_in r)) (sym (put_other st j (voted_turn r j (st j)).after k other.1)) (p.low k h)

    framed : In (record { to = r.i; message = accepted_in r }) (voted_turn r j (st j)).frames
    framed = vote_framed r rest j (st j) (o.other j jin)

-- ---- all Accepteds

pub record Votes (r : Round) (others : List ℕ) (voters : List ℕ) (from : ℕ) (st : ℕ → Standing) (sent : List Sent) : Type 0 where
  pub leading : IsLeading r voters (st r.i)
  pub distinct : AreDistinct r.n voters
  pub done : (m : ℕ) → In m others → m < from → In m voters
  pub own : In r.i voters
  pub only : (m : ℕ) → In m voters → (m ≡ r.i) ⊎ (m < from)
  pub voted_so : (j : ℕ) → In j others → IsVoted r j sent
  pub low : (j : ℕ) → In j others → AtMost (st j).store.promise (ballot_in r)

abbrev pub MovedLow : Round → (ℕ → Standing) → Type 0
MovedLow r st = HasMovedOn r.i (slot_in r) r.commands st × IsLow r st

abbrev heard_turn : Round → Standing → ℕ → Turn
heard_turn r s j = joined (joined (still (with_heard_vote r s j)) (still (with_heard_vote r s j))) (asking j (accepted_in r) (with_heard_vote r s j))

all_votes : (r : Round) → IsRest r → (others : List ℕ) → Others r others → (todo : List ℕ) (j from : ℕ) (voters : List ℕ) → ToCome r others from (j ∷ todo) → length voters + suc (length todo) ≡ length r.members
    → (st : ℕ → Standing) (sent : List Sent) → Votes r others voters from st sent
    → GoOn (place_in r.setting r.n r.deals) (MovedLow r) st sent (map (λ k. delivers k r.i (accepted_in r)) (j ∷ todo))
all_votes r rest others o [] j from voters c size st sent p =
    deliver r (MovedLow r) st sent j r.i (accepted_in r) [] l.turn p.leading.up (p.voted_so j jin).reads (p.voted_so j jin).way l.goes
    (λ back. ended (place_in r.setting r.n r.deals) (MovedLow r) (put st r.i l.turn.after) (sent_by r.i l.turn.frames ++ sent) (
      subst (λ (s : Standing). (slot_in r + length r.commands ≤ front_of s) × AreKnown s.learned.log (slot_in r) r.commands) (sym here) (l.learned.passed, l.learned.known),
      record {
        seen = subst (λ (s : Standing). AtMost s.seen (ballot_in r)) (sym here) l.seen;
        own = ap (λ (s : Standing). s.store.promise) here ∙ l.promise;
        promises = λ k h. low_at k h (eqb_tells k r.i);
      },
    ))
  where
    jin : In j others
    jin = c.inside j (inl refl)

    l : LastTurn r (st r.i) j
    l = last_turn r rest voters (st r.i) p.leading j (rest.low j (o.member j (c.inside j (inl refl)))) (all_in r others o voters from j c p.done p.own)

    here : put st r.i l.turn.after r.i ≡ l.turn.after
    here = put_same st r.i l.turn.after

    low_at : (k : ℕ) → In k r.members → ((k == r.i) ≡ true) × (k ≡ r.i) ⊎ ((k == r.i) ≡ false) × (k ≢ r.i) → AtMost (put st r.i l.turn.after k).store.promise (ballot_in r)
    low_at k h (inl same) = subst (λ (m : ℕ). AtMost (put st r.i l.turn.after m).store.promise (ballot_in r)) (sym same.1)
        (subst (λ (b : Ballot). AtMost b (ballot_in r)) (sym (ap (λ (s : Standing). s.store.promise) here ∙ l.promise)) (at_most_self (ballot_in r)))
    low_at k h (inr other) = subst (λ (s : Standing). AtMost s.store.promise (ballot_in r)) (sym (put_other st r.i l.turn.after k other.1)) (p.low k (o.all k h other.1))
all_votes r rest others o (next ∷ todo) j from voters c size st sent p =
    deliver r (MovedLow r) st sent j r.i (accepted_in r) (map (λ k. delivers k r.i (accepted_in r)) (next ∷ todo)) (heard_turn r (st r.i) j)
    p.leading.up (p.voted_so j (c.inside j (inl refl))).reads (p.voted_so j (c.inside j (inl refl))).way
    (accepted_goes r rest voters (st r.i) p.leading j (distinct_more r rest others o voters from j (next ∷ todo) c p.only p.distinct) (half r rest (suc (length voters)) (length todo) (omega (arith, size))))
    (λ back. all_votes r rest others o todo next (j + 1) (j ∷ voters) (next_come r others from j (next ∷ todo) c) (omega (arith, size)) (put st r.i (heard_turn r (st r.i) j).after)
    (sent_by r.i (heard_turn r (st r.i) j).frames ++ sent) (record {
      leading = subst (IsLeading r (j ∷ voters)) (sym (put_same st r.i (heard_turn r (st r.i) j).after ∙ asked_same j (accepted_in r) (with_heard_vote r (st r.i) j)))
          (leading_more r rest voters (st r.i) p.leading j (distinct_more r rest others o voters from j (next ∷ todo) c p.only p.distinct) (half r rest (suc (length voters)) (length todo) (omega (arith, size))));
      distinct = distinct_more r rest others o voters from j (next ∷ todo) c p.only p.distinct;
      done = done_more r others voters from j (next ∷ todo) c p.done;
      own = inr p.own;
      only = only_more r others voters from j (next ∷ todo) c p.only;
      voted_so = λ k h. voted_later r k (sent_by r.i (heard_turn r (st r.i) j).frames) sent (p.voted_so k h);
      low = λ k h. subst (λ (s : Standing). AtMost s.store.promise (ballot_in r)) (sym (put_other st r.i (heard_turn r (st r.i) j).after k (o.other k h))) (p.low k h);
    }))

-- ---- the whole

first_come : (r : Round) (others : List ℕ) → Others r others → ToCome r others 0 others
first_come r others o = record { rise = o.rise; inside = λ k h. h; split = λ k h. inr h }

begun_state : (r : Round) → IsRest r → IsPreparing r (r.i ∷ []) (begun_turn r).after
begun_state r rest = record {
  up = rest.up r.i rest.member;
  campaign = prepared (place_at r r.i) (ballot_in r) (r.standings r.i);
  has = refl;
  counts = begun_counted r rest;
  store = refl;
  learned = refl;
  pending = refl;
  seen = at_most_of_below (r.standings r.i).seen (ballot_in r) (seen_below r.i (r.standings r.i));
}

by_others : (r : Round) → IsRest r → (others : List ℕ) → Others r others
    → GoOn (place_in r.setting r.n r.deals) (MovedLow r) r.standings []
    (Ticks r.i ∷ (map (λ j. delivers r.i j (prepare_in r)) others ++ (map (λ j. delivers j r.i (promise_in r j)) others
    ++ (map (λ j. delivers r.i j (accept_in r)) others ++ map (λ j. delivers j r.i (accepted_in r)) others))))
by_others r rest [] o = absurd (let q = rest.quorum.most in let m = r.given.least_nodes r.n rest.few in let s = o.size in omega (arith, q, m, s))
by_others r rest (j ∷ todo) o =
    tick_first r Moved _ (rest.up r.i rest.member) rest.few rest.not_over rest.not_spent
    (λ back. all_prepares r rest others o others 0 come Moved (put r.standings r.i (ticked_turn r).after) (sent_by r.i (ticked_turn r).frames ++ [])
    (record {
      preparing = subst (IsPreparing r (r.i ∷ [])) (sym (put_same r.standings r.i (ticked_turn r).after)) (begun_state r rest);
      waits = λ k h l. put_other r.standings r.i (ticked_turn r).after k (o.other k h);
      promised_so = λ k h l. absurd (omega arith);
      way = λ k h. in_first (sent_by r.i (ticked_turn r).frames) [] (record { from = r.i; to = k; message = prepare_in r })
          (sent_in r.i (ticked_turn r).frames k (prepare_in r) (prepare_framed r k (rest.low k (o.member k h)) (o.other k h)));
      reads = λ k h. back (record { to = k; message = prepare_in r }) (prepare_framed r k (rest.low k (o.member k h)) (o.other k h));
      told = λ k h l. absurd (omega arith);
    })
    (map (λ k. delivers k r.i (promise_in r k)) others ++ (map (λ k. delivers r.i k (accept_in r)) others ++ map (λ k. delivers k r.i (accepted_in r)) others))
    (λ st sent promised_so preparing told. all_promises r rest others o todo j 0 (r.i ∷ []) come (let s = o.size in omega (arith, s)) Moved st sent (record {
      preparing = preparing;
      distinct = (rest.low r.i rest.member, (λ h. h), tt);
      inside = λ m h. elim h [ inl e ↦ subst (λ (k : ℕ). In k r.members) (sym e) rest.member | inr none ↦ absurd none ];
      done = λ m h l. absurd (omega arith);
      own = inl refl;
      only = λ m h. elim h [ inl e ↦ inl e | inr none ↦ absurd none ];
      promised_so = promised_so;
      told = told;
    })
    (map (λ k. delivers r.i k (accept_in r)) others ++ map (λ k. delivers k r.i (accepted_in r)) others)
    (λ st sent p. all_accepts r rest others o others 0 come Moved st sent p (map (λ k. delivers k r.i (accepted_in r)) others)
    (λ st sent leading voted_so low. all_votes r rest others o todo j 0 (r.i ∷ []) come (let s = o.size in omega (arith, s)) st sent (record {
      leading = leading;
      distinct = (rest.low r.i rest.member, (λ h. h), tt);
      done = λ m h l. absurd (omega arith);
      own = inl refl;
      only = λ m h. elim h [ inl e ↦ inl e | inr none ↦ absurd none ];
      voted_so = voted_so;
      low = low;
    })))))
  where
    others : List ℕ
    others = j ∷ todo

    come : ToCome r (j ∷ todo) 0 (j ∷ todo)
    come = first_come r (j ∷ todo) o

    Moved : (ℕ → Standing) → Type 0
    Moved = MovedLow r

-- the round of members at rest
pub rounds_go_on : (r : Round) → IsRest r → GoOn (place_in r.setting r.n r.deals) (MovedLow r) r.standings [] (round r.standings r.i r.members r.commands)
rounds_go_on r rest = by_others r rest (without r.i r.members) (others_of r rest)

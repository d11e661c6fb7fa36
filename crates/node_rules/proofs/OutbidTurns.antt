-- A ballot that the member who promised most refuses: its three events, and the members' standings behind them.
use Rattle.std.proofs.Common.{◌≡◌, ◌≢◌, ℕ, ◌<◌, ◌⊎◌, inl, inr, Bool, true, false, ◌==◌, if◌then◌else◌, List, [], ◌∷◌, ◌++◌, Some, None, Result, Ok, refl, sym, ap, subst, ◌∙◌}
use Rattle.std.proofs.lemmas.Bool.Decides.{eqb_tells}
use Rattle.paxos_wire.specs.declared.ballot.Ballot.{Ballot}
use Rattle.paxos_wire.specs.declared.message.Message.{Message as Wire}
use Rattle.paxos_wire.specs.declared.message.Message.TheVariants as frame
use Rattle.paxos_wire.specs.Order.{is_below}
use Rattle.protocol_model.specs.Sets.{In, put}
use Rattle.protocol_model.specs.Ballots.{Below, AtMost}
use Rattle.protocol_model.proofs.Sets.{in_first, put_same, put_other}
use Rattle.protocol_model.proofs.Ballots.{at_most_self, below_cases}
use Rattle.proposer.specs.declared.campaign.Campaign.{Campaign}
use Rattle.proposer.specs.Campaigns.{next_ballot, has_quorum, leads, refused_from}
use Rattle.dealer_kind.specs.Plans.{HasNodes}
use Rattle.node_rules.specs.Standings.{Place, Standing}
use Rattle.node_rules.specs.Sending.{one}
use Rattle.node_rules.specs.Turns.{Turn, Refusal, still, joined}
use Rattle.node_rules.specs.Accepting.{refusing}
use Rattle.node_rules.specs.Proposing.{higher, is_over, is_spent, prepared, closing, hearing_refusal}
use Rattle.node_rules.specs.Proposed.{IsSettled}
use Rattle.node_rules.specs.Rules.{highest, seeing, asking, on_message}
use Rattle.node_rules.specs.Calm.{ballot_after, Event, Ticks, delivers}
use Rattle.node_rules.specs.CalmRound.{place_in, Sent, sent_by, GoOn}
use Rattle.node_rules.proofs.Ordering.{both_ways, higher_is}
use Rattle.node_rules.proofs.Asked.{asked_same}
use Rattle.node_rules.proofs.KeptVotes.{KeepsVotes, keeps_self}
use Rattle.node_rules.proofs.CalmTurns.{Round, place_at, ballot_in, slot_in, prepare_in, promised_turn, begun_unled, begun_turn, ticked_turn, unled_close, quiet_close, message_turn}
use Rattle.node_rules.proofs.CalmSteps.{sent_in, deliver, prepare_framed, tick_first}

-- ---- the greatest ballot seen

higher_up : (a b : Ballot) → AtMost a b → higher a b ≡ b
higher_up a b h = let is = higher_is a b in elim is.2 [ inl old ↦ old ∙ both_ways a b h (subst (AtMost b) old is.1) | inr new ↦ new ]

higher_down : (a b : Ballot) → AtMost b a → higher a b ≡ a
higher_down a b h = let is = higher_is a b in elim is.2 [ inl old ↦ old | inr new ↦ new ∙ both_ways b a h (subst (AtMost a) new is.0) ]

-- what a node has seen once its ballot was refused for a promise that isn't below it
refused_seen : (seen own promise : Ballot) → AtMost seen own → AtMost own promise → higher (highest seen (own ∷ promise ∷ [])) own ≡ promise
refused_seen seen own promise low high =
    ap (λ (b : Ballot). higher (higher b promise) own) (higher_up seen own low)
    ∙ (ap (λ (b : Ballot). higher b own) (higher_up own promise high) ∙ higher_down promise own high)

-- ---- closes

-- a node with nothing left to propose rests
settled_close : (place : Place) (s : Standing) → IsSettled place s → closing place s ≡ Ok (still s)
settled_close place s settled = by_lead (leads place.nodes s.campaign) refl
  where
    by_lead : (b : Bool) → leads place.nodes s.campaign ≡ b → closing place s ≡ Ok (still s)
    by_lead true led = quiet_close place s (settled led).0 (settled led).1
    by_lead false unled = unled_close place s unled

-- nor does one that is refused lead, if it didn't before
refused_leads_not : (n : ℕ) (campaign : Campaign) (promise : Ballot) → has_quorum n campaign ≡ false → leads n (refused_from (Some campaign) promise) ≡ false
refused_leads_not n campaign promise e = by_test (is_below campaign.ballot promise)
  where
    by_test : (b : Bool) → leads n (if b then None else Some campaign) ≡ false
    by_test true = refl
    by_test false = e

-- ---- the Prepare that is refused

not_below_test : (a b : Ballot) → (Below a b → ⊥) → is_below a b ≡ false
not_below_test a b not = elim (below_cases a b) [ inl low ↦ absurd (not low.1) | inr most ↦ most.0 ]

abbrev refused_after : Round → ℕ → Standing
refused_after r j = seeing (prepare_in r) (r.standings j)

abbrev refused_turn : Round → ℕ → Turn
refused_turn r j = joined (joined (refusing r.i (ballot_in r) (slot_in r) (refused_after r j)) (still (refused_after r j))) (asking r.i (prepare_in r) (refused_after r j))

refuse_turn : (r : Round) (j : ℕ) → (Below (r.standings j).store.promise (ballot_in r) → ⊥) → IsSettled (place_at r j) (r.standings j)
    → on_message (place_at r j) r.i (prepare_in r) (r.standings j) ≡ Ok (refused_turn r j)
refuse_turn r j above settled =
    message_turn (place_at r j) r.i (prepare_in r) (r.standings j) (refusing r.i (ballot_in r) (slot_in r) (refused_after r j)) (still (refused_after r j))
    (ap (λ (b : Bool). let x : Result Turn Refusal = Ok (if b then promised_turn r j else refusing r.i (ballot_in r) (slot_in r) (refused_after r j)) in x)
    (not_below_test (r.standings j).store.promise (ballot_in r) above))
    (settled_close (place_at r j) (refused_after r j) settled)

-- ---- the Refuse

abbrev refuse_in : Round → ℕ → Wire
refuse_in r j = frame.Refuse (ballot_in r) (slot_in r) (r.standings j).store.promise

abbrev outbid_after : Round → ℕ → Standing
outbid_after r j = (hearing_refusal (r.standings j).store.promise (seeing (refuse_in r j) (begun_turn r).after)).after

abbrev outbid_turn : Round → ℕ → Turn
outbid_turn r j = joined (joined (still (outbid_after r j)) (still (outbid_after r j))) (asking j (refuse_in r j) (outbid_after r j))

hear_turn : (r : Round) (j : ℕ) → HasNodes r.n → on_message (place_at r r.i) j (refuse_in r j) (begun_turn r).after ≡ Ok (outbid_turn r j)
hear_turn r j few =
    message_turn (place_at r r.i) j (refuse_in r j) (begun_turn r).after (still (outbid_after r j)) (still (outbid_after r j)) refl
    (unled_close (place_at r r.i) (outbid_after r j)
    (refused_leads_not r.n (prepared (place_at r r.i) (ballot_in r) (r.standings r.i)) (r.standings j).store.promise (begun_unled r few)))

refuse_framed : (r : Round) (j : ℕ) → In (record { to = r.i; message = refuse_in r j }) (refused_turn r j).frames
refuse_framed r j = in_first (one r.i (refuse_in r j) ++ []) (asking r.i (prepare_in r) (refused_after r j)).frames (record { to = r.i; message = refuse_in r j }) (inl refl)

-- ---- the standings behind it

abbrev pub outbid_standings : Round → ℕ → ℕ → Standing
outbid_standings r j = put (put (put r.standings r.i (ticked_turn r).after) j (refused_turn r j).after) r.i (outbid_turn r j).after

pub outbid_own : (r : Round) (j : ℕ) → outbid_standings r j r.i ≡ outbid_after r j
outbid_own r j = put_same (put (put r.standings r.i (ticked_turn r).after) j (refused_turn r j).after) r.i (outbid_turn r j).after

refused_one : (r : Round) (j : ℕ) → j ≢ r.i → outbid_standings r j j ≡ refused_after r j
refused_one r j ne =
    put_other (put (put r.standings r.i (ticked_turn r).after) j (refused_turn r j).after) r.i (outbid_turn r j).after j ne
    ∙ (put_same (put r.standings r.i (ticked_turn r).after) j (refused_turn r j).after ∙ asked_same r.i (prepare_in r) (refused_after r j))

unasked_one : (r : Round) (j k : ℕ) → k ≢ r.i → k ≢ j → outbid_standings r j k ≡ r.standings k
unasked_one r j k ne other =
    put_other (put (put r.standings r.i (ticked_turn r).after) j (refused_turn r j).after) r.i (outbid_turn r j).after k ne
    ∙ (put_other (put r.standings r.i (ticked_turn r).after) j (refused_turn r j).after k other ∙ put_other r.standings r.i (ticked_turn r).after k ne)

-- another node's store is what it was
pub stored_same : (r : Round) (j k : ℕ) → j ≢ r.i → k ≢ r.i → (outbid_standings r j k).store ≡ (r.standings k).store
stored_same r j k ne other = by_node (eqb_tells k j)
  where
    by_node : ((k == j) ≡ true) × (k ≡ j) ⊎ ((k == j) ≡ false) × (k ≢ j) → (outbid_standings r j k).store ≡ (r.standings k).store
    by_node (inl same) = subst (λ (m : ℕ). (outbid_standings r j m).store ≡ (r.standings m).store) (sym same.1) (ap (λ (s : Standing). s.store) (refused_one r j ne))
    by_node (inr third) = ap (λ (s : Standing). s.store) (unasked_one r j k other third.1)

-- and all keep their votes and what they know
pub outbid_keeps : (r : Round) (j k : ℕ) → j ≢ r.i → AtMost (r.standings r.i).store.promise (ballot_in r) → KeepsVotes (r.standings k) (outbid_standings r j k)
outbid_keeps r j k ne low = by_node (eqb_tells k r.i) (eqb_tells k j)
  where
    by_node : ((k == r.i) ≡ true) × (k ≡ r.i) ⊎ ((k == r.i) ≡ false) × (k ≢ r.i) → ((k == j) ≡ true) × (k ≡ j) ⊎ ((k == j) ≡ false) × (k ≢ j)
        → KeepsVotes (r.standings k) (outbid_standings r j k)
    by_node (inl own) any =
        subst (λ (m : ℕ). KeepsVotes (r.standings m) (outbid_standings r j m)) (sym own.1)
        (subst (KeepsVotes (r.standings r.i)) (sym (outbid_own r j)) (record { up = refl; votes = refl; promise = low; learned = refl; pending = refl }))
    by_node (inr other) (inl same) =
        subst (λ (m : ℕ). KeepsVotes (r.standings m) (outbid_standings r j m)) (sym same.1)
        (subst (KeepsVotes (r.standings j)) (sym (refused_one r j ne)) (record { up = refl; votes = refl; promise = at_most_self (r.standings j).store.promise; learned = refl; pending = refl }))
    by_node (inr other) (inr third) = subst (KeepsVotes (r.standings k)) (sym (unasked_one r j k other.1 third.1)) (keeps_self (r.standings k))

-- its next ballot is of the round above that promise
pub next_is : (r : Round) (j : ℕ) → AtMost (r.standings r.i).seen (ballot_in r) → AtMost (ballot_in r) (r.standings j).store.promise
    → ballot_after r.i (outbid_standings r j r.i) ≡ next_ballot r.i (r.standings j).store.promise
next_is r j low high =
    ap (ballot_after r.i) (outbid_own r j)
    ∙ ap (next_ballot r.i) (refused_seen (r.standings r.i).seen (ballot_in r) (r.standings j).store.promise low high)

-- ---- the three events

pub outbid_goes : (r : Round) (j : ℕ) → j < r.n → j ≢ r.i → (r.standings r.i).up ≡ true → (r.standings j).up ≡ true → HasNodes r.n → is_over (place_at r r.i) (r.standings r.i) ≡ false → is_spent (r.standings r.i) ≡ false
    → (Below (r.standings j).store.promise (ballot_in r) → ⊥) → IsSettled (place_at r j) (r.standings j) → (IsSo : (ℕ → Standing) → Type 0) (events : List Event)
    → ((more : List Sent) → GoOn (place_in r.setting r.n r.deals) IsSo (outbid_standings r j) more events)
    → GoOn (place_in r.setting r.n r.deals) IsSo r.standings [] (Ticks r.i ∷ (delivers r.i j (prepare_in r) ∷ (delivers j r.i (refuse_in r j) ∷ events)))
outbid_goes r j low ne up up_j few not_over not_spent above settled IsSo events later =
    tick_first r IsSo (delivers r.i j (prepare_in r) ∷ (delivers j r.i (refuse_in r j) ∷ events)) up few not_over not_spent (λ back.
    deliver r IsSo (put r.standings r.i (ticked_turn r).after) (sent_by r.i (ticked_turn r).frames ++ []) r.i j (prepare_in r) (delivers j r.i (refuse_in r j) ∷ events) (refused_turn r j)
    (ap (λ (s : Standing). s.up) still_here ∙ up_j) (back (record { to = j; message = prepare_in r }) (prepare_framed r j low ne))
    (in_first (sent_by r.i (ticked_turn r).frames) [] (record { from = r.i; to = j; message = prepare_in r }) (sent_in r.i (ticked_turn r).frames j (prepare_in r) (prepare_framed r j low ne)))
    (ap (on_message (place_at r j) r.i (prepare_in r)) still_here ∙ refuse_turn r j above settled)
    (λ back_too. deliver r IsSo (put (put r.standings r.i (ticked_turn r).after) j (refused_turn r j).after) (sent_by j (refused_turn r j).frames ++ (sent_by r.i (ticked_turn r).frames ++ []))
    j r.i (refuse_in r j) events (outbid_turn r j) (ap (λ (s : Standing). s.up) begun_here ∙ up) (back_too (record { to = r.i; message = refuse_in r j }) (refuse_framed r j))
    (in_first (sent_by j (refused_turn r j).frames) (sent_by r.i (ticked_turn r).frames ++ []) (record { from = j; to = r.i; message = refuse_in r j })
    (sent_in j (refused_turn r j).frames r.i (refuse_in r j) (refuse_framed r j)))
    (ap (on_message (place_at r r.i) j (refuse_in r j)) begun_here ∙ hear_turn r j few)
    (λ back_last. later (sent_by r.i (outbid_turn r j).frames ++ (sent_by j (refused_turn r j).frames ++ (sent_by r.i (ticked_turn r).frames ++ []))))))
  where
    still_here : put r.standings r.i (ticked_turn r).after j ≡ r.standings j
    still_here = put_other r.standings r.i (ticked_turn r).after j ne

    begun_here : put (put r.standings r.i (ticked_turn r).after) j (refused_turn r j).after r.i ≡ (begun_turn r).after
    begun_here = put_other (put r.standings r.i (ticked_turn r).after) j (refused_turn r j).after r.i (λ e. ne (sym e)) ∙ put_same r.standings r.i (ticked_turn r).after

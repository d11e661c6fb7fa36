-- How a close ends: it proposes at most once, and then nothing is left to propose.
use Rattle.std.proofs.Common.{◌≡◌, ◌<◌, ◌≤◌, ◌⊎◌, inl, inr, Bool, true, false, true≢false, if◌then◌else◌, ◌&&◌, List, Option, Some, None, Result, Ok, Err, refl, sym, ap, subst, ◌∙◌, arith, length}
use Rattle.std.specs.Prelude.{nat_le}
use Rattle.std.proofs.lemmas.Bool.{leb-false}
use Rattle.paxos_wire.specs.declared.limits.TheConstants.{SLOTS}
use Rattle.slot_log.specs.Slots.{Log, front}
use Rattle.protocol_model.specs.Stores.{Store}
use Rattle.protocol_model.specs.Arrivals.{Arrival}
use Rattle.proposer.specs.declared.campaign.Campaign.{Campaign}
use Rattle.proposer.specs.declared.fault.ProposeFault.{ProposeFault}
use Rattle.proposer.specs.Campaigns.{has_quorum, leads}
use Rattle.node_rules.specs.Standings.{Place, Standing, applied, front_of, idle}
use Rattle.node_rules.specs.Turns.{Turn, Refusal, still, joined, behind, and_then}
use Rattle.node_rules.specs.Proposing.{own_value, proposing, closing_by, proposal_at, closing}
use Rattle.proposer.specs.declared.accept_run.AcceptRun.{AcceptRun}
use Rattle.proposer.specs.CommandRuns.{run_from_campaign, marked_run_from}
use Rattle.node_rules.proofs.Paths.{Hearing, Scope, Path, Goes}
use Rattle.node_rules.proofs.OwnRuns.{unmarked}
use Rattle.node_rules.proofs.Closing.{IsMade, made_by, IsOwnRun, own_run}
use Rattle.node_rules.proofs.Settled.{and_left, turn_made, Fresh, fresh, made_turn, made_rests}

-- ---- nothing is left to propose

pub record IsRest (place : Place) (s : Standing) : Type 0 where
  pub in_range : (leads place.nodes s.campaign && nat_le SLOTS (front_of s)) ≡ false
  pub nothing : proposal_at place s ≡ Ok None

-- then a close changes nothing
rest_by : (place : Place) (s : Standing) (b : Bool) (r : Result (Option AcceptRun) ProposeFault) → b ≡ false → r ≡ Ok None
    → ◌≡◌ {A = Result Turn Refusal} (if b then Ok (still (idle s)) else closing_by place r (record s { campaign = marked_run_from s.campaign r })) (Ok (still s))
rest_by place s true r eb er = absurd (true≢false eb)
rest_by place s false (Ok (Some made)) eb er = absurd (let e = er in cc)
rest_by place s false (Err fault) eb er = absurd (let e = er in cc)
rest_by place s false (Ok None) eb er = ap (λ (c : Option Campaign). let r : Result Turn Refusal = Ok (still (record s { campaign = c })) in r) (unmarked s.campaign)

pub rest_closes : (place : Place) (s : Standing) → IsRest place s → closing place s ≡ Ok (still s)
rest_closes place s r = rest_by place s (leads place.nodes s.campaign && nat_le SLOTS (front_of s)) (proposal_at place s) r.in_range r.nothing

-- a node with no ballot of its own has nothing to propose
pub idle_rests : (place : Place) (s : Standing) → s.campaign ≡ None → IsRest place s
idle_rests place s e = record {
  in_range = ap (λ (c : Option Campaign). leads place.nodes c && nat_le SLOTS (front_of s)) e;
  nothing = ap (λ (c : Option Campaign). run_from_campaign place.nodes c (front_of s) (own_value place s)) e;
}

-- ---- how a close ends

-- the node proposes from its front on, in a ballot of its own that its store has promised, and votes for that itself
pub record Proposes (place : Place) (s : Standing) (turn : Turn) : Type 0 where
  pub campaign : Campaign
  pub made : AcceptRun
  pub is : IsMade place s campaign made
  pub fresh : Fresh place s campaign made
  pub mine : made.ballot.node ≡ place.node
  pub slot : made.slot ≡ front_of s
  pub least : 1 ≤ length made.commands
  pub left : front_of s < SLOTS
  pub promised : s.store.promise ≡ made.ballot
  pub turn_is : turn ≡ turn_made place s campaign made

-- it leads on, or no longer, and proposes nothing; or it proposes
pub data Closed (place : Place) (s : Standing) (turn : Turn) : Type 0 where
  rests : (campaign : Option Campaign) → turn ≡ still (record s { campaign = campaign }) → Closed place s turn
  proposes : Proposes place s turn → Closed place s turn

pub record Closes (place : Place) (s : Standing) (outcome : Result Turn Refusal) : Type 0 where
  pub turn : Turn
  pub is : outcome ≡ Ok turn
  pub closed : Closed place s turn
  pub rest : IsRest place turn.after

pub close_is : (x : Scope) (came : List Arrival) (heard : Hearing) (t : Turn) (p : Path x came heard (applied t.after) t)
    → Closes x.place t.after (closing x.place t.after)
close_is x came heard t p = close_by (leads x.place.nodes t.after.campaign && nat_le SLOTS (front_of t.after)) refl
  where
    by_campaign : (made : AcceptRun) → (leads x.place.nodes t.after.campaign && nat_le SLOTS (front_of t.after)) ≡ false
        → (found : (f : Campaign) × IsMade x.place t.after f made)
        → Closes x.place t.after (proposing x.place made (record t.after { campaign = marked_run_from t.after.campaign (Ok (Some made)) }))
    by_campaign made in_range (c, is) = record {
      turn = turn_made x.place t.after c made;
      is = made_turn x.place t.after c made is.has shows;
      closed = proposes (record {
        campaign = c;
        made = made;
        is = is;
        fresh = shows;
        mine = o.mine;
        slot = o.slot;
        least = o.least;
        left = left;
        promised = ap (λ (st : Store). st.promise) (sym p.knows.store) ∙ o.promised;
        turn_is = refl;
      });
      rest = record {
        in_range = ap (λ (l : Log). has_quorum x.place.nodes c && nat_le SLOTS (front l)) shows.over.log
            ∙ (ap (λ (y : Option Campaign). leads x.place.nodes y && nat_le SLOTS (front_of t.after)) (sym is.has) ∙ in_range);
        nothing = made_rests x.place t.after c made shows;
      };
    }
      where
        o : IsOwnRun x.place t.after p.node c made
        o = own_run x came heard t p c made is

        shows : Fresh x.place t.after c made
        shows = fresh x came heard t p c made is o

        left : front_of t.after < SLOTS
        left = let l = leb-false SLOTS (front_of t.after) (and_left (has_quorum x.place.nodes c) (nat_le SLOTS (front_of t.after)) shows.quorum
            (ap (λ (y : Option Campaign). leads x.place.nodes y && nat_le SLOTS (front_of t.after)) (sym is.has) ∙ in_range)) in omega (arith, l)

    closes_by : (leads x.place.nodes t.after.campaign && nat_le SLOTS (front_of t.after)) ≡ false → (r : Result (Option AcceptRun) ProposeFault) → proposal_at x.place t.after ≡ r
        → Closes x.place t.after (closing_by x.place r (record t.after { campaign = marked_run_from t.after.campaign r }))
    closes_by in_range (Ok None) e = record {
      turn = still (record t.after { campaign = marked_run_from t.after.campaign (Ok None) });
      is = refl;
      closed = rests (marked_run_from t.after.campaign (Ok None)) refl;
      rest = subst (λ (c : Option Campaign). IsRest x.place (record t.after { campaign = c })) (sym (unmarked t.after.campaign)) (record { in_range = in_range; nothing = e });
    }
    closes_by in_range (Err fault) e = record {
      turn = still (idle t.after);
      is = refl;
      closed = rests None refl;
      rest = idle_rests x.place (idle t.after) refl;
    }
    closes_by in_range (Ok (Some made)) e = by_campaign made in_range (made_by x.place t.after made t.after.campaign refl e)

    close_by : (b : Bool) → (leads x.place.nodes t.after.campaign && nat_le SLOTS (front_of t.after)) ≡ b
        → Closes x.place t.after (if b then Ok (still (idle t.after))
        else closing_by x.place (proposal_at x.place t.after) (record t.after { campaign = marked_run_from t.after.campaign (proposal_at x.place t.after) }))
    close_by true e = record { turn = still (idle t.after); is = refl; closed = rests None refl; rest = idle_rests x.place (idle t.after) refl }
    close_by false e = closes_by e (proposal_at x.place t.after) refl

-- ---- a rule and then the close

-- the rule's turn, to which a path leads, and behind it the close's
pub record Splits (x : Scope) (came : List Arrival) (heard : Hearing) (r : Result Turn Refusal) (outcome : Result Turn Refusal) : Type 0 where
  pub first : Turn
  pub is : r ≡ Ok first
  pub path : Path x came heard (applied first.after) first
  pub closes : Closes x.place first.after (closing x.place first.after)
  pub whole : outcome ≡ Ok (joined first closes.turn)

-- it is one, or the rule refused
pub splits : (x : Scope) (came : List Arrival) (heard : Hearing) (r : Result Turn Refusal) → Goes x came heard r
    → Splits x came heard r (and_then r (closing x.place)) ⊎ ((refusal : Refusal) × (r ≡ Err refusal) × (and_then r (closing x.place) ≡ Err refusal))
splits x came heard (Ok u) p =
    let c = close_is x came heard u p in
    inl (record { first = u; is = refl; path = p; closes = c; whole = ap (λ (r : Result Turn Refusal). behind u r) c.is })
splits x came heard (Err refusal) p = inr (refusal, refl, refl)

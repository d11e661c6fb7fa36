-- What is proposed is safe; who leads, and what a leader proposes.
use Rattle.std.proofs.Common.{ℕ, ◌≡◌, ◌<◌, ◌+◌, inl, inr, Bool, true, false, not, List, Option, Some, None, Result, Ok, Err, refl, sym, ap, subst, arith, if◌then◌else◌, is_some}
use Rattle.std.specs.Prelude.{nat_lt, ◌↔◌}
use Rattle.std.proofs.lemmas.Bool.{ltb-true, ltb-false, lt-ltb, le-ltb}
use Rattle.paxos_wire.specs.declared.limits.TheConstants.{WINDOW}
use Rattle.paxos_wire.specs.declared.entry.Entry.{Entry}
use Rattle.slot_log.specs.declared.command.Command.{Command}
use Rattle.protocol_model.specs.Sets.{In}
use Rattle.protocol_model.specs.Ballots.{AtMost}
use Rattle.protocol_model.specs.Messages.{Message, Promise, Covers, Accept as accept}
use Rattle.protocol_model.specs.Quorums.{HasPromise, HasPromises, IsTold, IsGreatestTold}
use Rattle.proposer.specs.declared.campaign.Campaign.{Campaign}
use Rattle.proposer.specs.declared.accept.Accept.{Accept}
use Rattle.proposer.specs.declared.fault.ProposeFault.{ProposeFault}
use Rattle.proposer.specs.declared.fault.ProposeFault.TheVariants.{OutOfWindow}
use Rattle.proposer.specs.Campaigns.{promise_by, has_promised, has_quorum, is_covered, is_proposed, greatest_told, value_of, accept_of, proposal_by}
use Rattle.proposer.specs.Counted.{CountsFrom, CountsAll, MarksSent, HasQuorum, Tells, IsGreatest}
use Rattle.proposer.specs.Laws.{IsSafe}
use Rattle.protocol_model.proofs.Quorums.{count_within}
use Rattle.proposer.proofs.Greatest.{greatest_decides}

-- ---- promises had

has_promise : (n : ℕ) (has : List Message) (c : Campaign) (slot node : ℕ) (IsSo : Entry → Type 0) → CountsFrom has c → Covers c.first slot → node < n
    → ((e : Entry) → Tells n c slot e → IsSo e) → (p : Option (List Entry)) → promise_by c node ≡ p → is_some p ≡ true → HasPromise has node c.ballot slot IsSo
has_promise n has c slot node IsSo counts covers is so None e q = absurd (cc)
has_promise n has c slot node IsSo counts covers is so (Some told) e q = (c.first, told, counts node told e, covers, λ entry m at. so entry (node, told, is, e, m, at))

pub has_promises : (n : ℕ) (has : List Message) (c : Campaign) (slot : ℕ) (IsSo : Entry → Type 0) → CountsFrom has c → Covers c.first slot
    → has_quorum n c ≡ true → ((e : Entry) → Tells n c slot e → IsSo e) → HasPromises n has c.ballot slot IsSo
has_promises n has c slot IsSo counts covers leads so =
    (has_promised c, ltb-true _ _ leads, λ node is q. has_promise n has c slot node IsSo counts covers is so (promise_by c node) refl q)

pub is_told : (n : ℕ) (has : List Message) (c : Campaign) (slot : ℕ) (e : Entry) → CountsFrom has c → Tells n c slot e → IsTold has c.ballot slot (record { ballot = e.ballot; command = e.command })
is_told n has c slot e counts t =
    (t.0, c.first, t.1, counts t.0 t.1 t.3, subst (λ (x : Entry). In x t.1) (λ i. record { slot = t.5 i; ballot = e.ballot; command = e.command }) t.4)

-- ---- the tests of a proposal

-- what an Accept shows of the tests before it
pub record Passed (n : ℕ) (c : Campaign) (slot : ℕ) (own : Option Command) (made : Accept) : Type 0 where
  pub leads : has_quorum n c ≡ true
  pub covers : Covers c.first slot
  pub unmarked : is_proposed c slot ≡ false
  pub made_of : accept_of c slot (value_of (greatest_told c slot n) own) ≡ Some made

covered_by : (first slot : ℕ) (low high : Bool) → nat_lt slot first ≡ low → nat_lt slot (first + WINDOW) ≡ high → (if low then false else high) ≡ true → Covers first slot
covered_by first slot true high el eh h = absurd (cc)
covered_by first slot false true el eh h = let a = ltb-false slot first el in let b = ltb-true slot (first + WINDOW) eh in (a, omega arith)
covered_by first slot false false el eh h = absurd (cc)

pub covered_is : (first slot : ℕ) → Covers first slot → is_covered first slot ≡ true
covered_is first slot h = rw (le-ltb slot first h.0) (lt-ltb slot (first + WINDOW) (omega arith))

passed_by : (n : ℕ) (c : Campaign) (slot : ℕ) (own : Option Command) (made : Accept) (lead covered marked : Bool)
    → has_quorum n c ≡ lead → is_covered c.first slot ≡ covered → is_proposed c slot ≡ marked
    → (let r : Result (Option Accept) ProposeFault =
    if not lead then Ok None else if not covered then Err OutOfWindow else if marked then Ok None else Ok (accept_of c slot (value_of (greatest_told c slot n) own))
    in r) ≡ Ok (Some made)
    → Passed n c slot own made
passed_by n c slot own made false covered marked el ec em h = absurd (cc)
passed_by n c slot own made true false marked el ec em h = absurd (cc)
passed_by n c slot own made true true true el ec em h = absurd (cc)
passed_by n c slot own made true true false el ec em h = record { leads = el; covers = covered_by c.first slot _ _ refl refl ec; unmarked = em; made_of = cc }

pub passed : (n : ℕ) (c : Campaign) (slot : ℕ) (own : Option Command) (made : Accept) → proposal_by n c slot own ≡ Ok (Some made) → Passed n c slot own made
passed n c slot own made h = passed_by n c slot own made _ _ _ refl refl refl h

-- ---- what is proposed

safe_value : (n : ℕ) (has : List Message) (c : Campaign) (slot : ℕ) (own : Option Command) (made : Accept) (told : Option Entry) → CountsFrom has c → Covers c.first slot
    → has_quorum n c ≡ true → IsGreatest n c slot told → accept_of c slot (value_of told own) ≡ Some made → IsSafe n has c slot own made
safe_value n has c slot None made None counts covers leads g h = absurd (cc)
safe_value n has c slot (Some command) made None counts covers leads g h =
    let same : made ≡ record { ballot = c.ballot; slot = slot; command = command } = cc in
    record {
      ballot = ap (λ (a : Accept). a.ballot) same;
      slot = ap (λ (a : Accept). a.slot) same;
      covered = covers;
      command = inr (has_promises n has c slot (λ e. ⊥) counts covers leads g, sym (ap (λ (a : Accept). Some a.command) same));
    }
safe_value n has c slot own made (Some e) counts covers leads g h =
    let same : made ≡ record { ballot = c.ballot; slot = slot; command = e.command } = cc in
    record {
      ballot = ap (λ (a : Accept). a.ballot) same;
      slot = ap (λ (a : Accept). a.slot) same;
      covered = covers;
      command = inl (subst (λ (x : Command). IsGreatestTold n has c.ballot slot x) (sym (ap (λ (a : Accept). a.command) same))
          (e.ballot, is_told n has c slot e counts g.0, has_promises n has c slot (λ x. AtMost x.ballot e.ballot) counts covers leads g.1));
    }

pub safe : (n : ℕ) (has : List Message) (c : Campaign) (slot : ℕ) (own : Option Command) (made : Accept)
    → CountsFrom has c → proposal_by n c slot own ≡ Ok (Some made) → IsSafe n has c slot own made
safe n has c slot own made counts h =
    let p = passed n c slot own made h in safe_value n has c slot own made (greatest_told c slot n) counts p.covers p.leads (greatest_decides n c slot) p.made_of

-- ---- who leads

promised_had : (has : List Message) (c : Campaign) (node : ℕ) → CountsFrom has c → (p : Option (List Entry)) → promise_by c node ≡ p → is_some p ≡ true
    → (told : List Entry) × In (Promise node c.ballot c.first told) has
promised_had has c node counts None e q = absurd (cc)
promised_had has c node counts (Some told) e q = (told, counts node told e)

quorum_had : (n : ℕ) (has : List Message) (c : Campaign) → CountsFrom has c → has_quorum n c ≡ true → HasQuorum n has c.ballot c.first
quorum_had n has c counts leads = (has_promised c, ltb-true _ _ leads, λ node is q. promised_had has c node counts (promise_by c node) refl q)

leads_if : (n : ℕ) (has : List Message) (c : Campaign) → CountsAll n has c → HasQuorum n has c.ballot c.first → (b : Bool) → has_quorum n c ≡ b → b ≡ true
leads_if n has c counts q true e = refl
leads_if n has c counts q false e =
    let more = count_within q.0 (has_promised c) n (λ node is yes. let told = q.2 node is yes in counts.counted e node told.0 is told.1) in
    let few = ltb-false n _ e in
    let many = q.1 in absurd (omega arith)

pub leads_with : (n : ℕ) (has : List Message) (c : Campaign) → CountsAll n has c → HasQuorum n has c.ballot c.first → has_quorum n c ≡ true
leads_with n has c counts q = leads_if n has c counts q (has_quorum n c) refl

pub quorum_leads : (n : ℕ) (has : List Message) (c : Campaign) → CountsFrom has c → CountsAll n has c → (has_quorum n c ≡ true) ↔ HasQuorum n has c.ballot c.first
quorum_leads n has c from all = (quorum_had n has c from, leads_with n has c all)

pub unmarked_if : (sent : List Message) (c : Campaign) (slot : ℕ) → MarksSent sent c → Covers c.first slot → ((command : Command) → In (accept c.ballot slot command) sent → ⊥)
    → (b : Bool) → is_proposed c slot ≡ b → b ≡ false
unmarked_if sent c slot marks covers none true e = let m = marks.only slot covers e in absurd (none m.0 m.1)
unmarked_if sent c slot marks covers none false e = refl

pub proposes : (n : ℕ) (has sent : List Message) (c : Campaign) (slot : ℕ) (own : Option Command)
    → CountsAll n has c → MarksSent sent c → HasQuorum n has c.ballot c.first → Covers c.first slot
    → ((command : Command) → In (accept c.ballot slot command) sent → ⊥)
    → proposal_by n c slot own ≡ Ok (accept_of c slot (value_of (greatest_told c slot n) own))
proposes n has sent c slot own counts marks q covers none =
    rw (leads_with n has c counts q, covered_is c.first slot covers, unmarked_if sent c slot marks covers none (is_proposed c slot) refl) refl

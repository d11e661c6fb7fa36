-- What asks nothing of the store leaves it as it is.
use Rattle.std.proofs.Common.{◌≡◌, ℕ, Bool, true, false, List, refl, ap, sym, ◌∙◌, subst}
use Rattle.std.specs.Prelude.{Option, Some, None, IfSome, Result, Ok, Err, if◌then◌else◌}
use Rattle.paxos_wire.specs.declared.ballot.Ballot.{Ballot}
use Rattle.paxos_wire.specs.declared.entry.Entry.{Entry}
use Rattle.slot_log.specs.declared.slot_fault.SlotFault.{SlotFault}
use Rattle.proposer.specs.declared.campaign.Campaign.{Campaign}
use Rattle.proposer.specs.Campaigns.{counting_from, is_counted, is_outbid, refused_from}
use Rattle.learner.specs.Learning.{Learned}
use Rattle.std.specs.Prelude.{slice_set}
use Rattle.node_rules.specs.Standings.{Place, Standing, front_of}
use Rattle.node_rules.specs.Turns.{Turn, still, and_then, joined}
use Rattle.node_rules.specs.Learning.{learning, asking_on}
use Rattle.node_rules.specs.Applying.{applying}
use Rattle.dealer_node.specs.declared.running.Running.{Running}
use Rattle.dealer_node.specs.Outs.{Told}
use Rattle.dealer_node.specs.Members.{Membership}
use Rattle.dealer_node.specs.Running.{IsRunning}
use Rattle.dealer_node.specs.Storeless.{KeepsStore, TakesStoreless}
use Rattle.node_rules.proofs.Results.{ok_is}
use Rattle.node_rules.proofs.Asked.{asked_on}
use Rattle.dealer_node.proofs.Messages.{no_messages}
use Rattle.dealer_node.proofs.Worked.{nothing_more}

-- ---- the ballot stays

same_ballot : (campaign : Campaign) (from : ℕ) (told : List Entry) (b : Bool)
    → (let c : Campaign = if b then record campaign { promises = slice_set campaign.promises from (Some told) } else campaign in c.ballot) ≡ campaign.ballot
same_ballot campaign from told true = refl
same_ballot campaign from told false = refl

counted_stands : (n : ℕ) (campaign : Option Campaign) (from : ℕ) (ballot : Ballot) (slot : ℕ) (told : List Entry) (promise : Ballot)
    → IfSome campaign (λ (c : Campaign). c.ballot ≡ promise) → IfSome (counting_from n campaign from ballot slot told) (λ (c : Campaign). c.ballot ≡ promise)
counted_stands n None from ballot slot told promise stands = tt
counted_stands n (Some campaign) from ballot slot told promise stands = same_ballot campaign from told (is_counted n campaign from ballot slot) ∙ stands

pub counted_keeps : (n : ℕ) (s : Standing) (from : ℕ) (ballot : Ballot) (slot : ℕ) (told : List Entry) → KeepsStore s (record s { campaign = counting_from n s.campaign from ballot slot told })
counted_keeps n s from ballot slot told = record { store = refl; begun = refl; stands = counted_stands n s.campaign from ballot slot told s.store.promise }

refused_stands : (campaign : Option Campaign) (promise : Ballot) (b : Bool) → IfSome campaign (λ (c : Campaign). c.ballot ≡ promise)
    → IfSome (if b then None else campaign) (λ (c : Campaign). c.ballot ≡ promise)
refused_stands campaign promise true stands = tt
refused_stands campaign promise false stands = stands

pub refused_keeps : (s : Standing) (promised : Ballot) → KeepsStore s (record s { campaign = refused_from s.campaign promised })
refused_keeps s promised = record { store = refl; begun = refl; stands = refused_stands s.campaign s.store.promise (is_outbid s.campaign promised) }

-- ---- what was learned

same_keeps : (s after other : Standing) → after ≡ other → KeepsStore s after → KeepsStore s other
same_keeps s after other e keeps = subst (λ (t : Standing). KeepsStore s t) e keeps

applied_keeps : (place : Place) (learned : Learned) (s : Standing) → KeepsStore s (applying place learned s).after
applied_keeps place learned s = record { store = refl; begun = refl; stands = λ stands. stands }

pub learned_keeps : {A : Type 0} (place : Place) (answer : Result A SlotFault) (learned : Learned) (s : Standing) (turn : Turn) → learning place answer learned s ≡ Ok turn → KeepsStore s turn.after
learned_keeps place (Ok answer) learned s turn e = same_keeps s (applying place learned s).after turn.after (ap (λ (t : Turn). t.after) (ok_is (applying place learned s) turn e)) (applied_keeps place learned s)
learned_keeps place (Err fault) learned s turn e = absurd (cc)

pub believed_keeps : {A : Type 0} (place : Place) (answer : Result A SlotFault) (learned : Learned) (s : Standing) (from : ℕ) (turn : Turn)
    → and_then (learning place answer learned s) (λ told. Ok (asking_on from (front_of s) told)) ≡ Ok turn → KeepsStore s turn.after
believed_keeps place (Ok answer) learned s from turn e =
    let first : Standing = (applying place learned s).after in
    let same : (asking_on from (front_of s) first).after ≡ turn.after = ap (λ (t : Turn). t.after) (ok_is (joined (applying place learned s) (asking_on from (front_of s) first)) turn e) in
    same_keeps s first turn.after (sym (asked_on from (front_of s) first) ∙ same) (applied_keeps place learned s)
believed_keeps place (Err fault) learned s from turn e = absurd (cc)

-- ---- nothing is sent or shown

pub still_taken : (member : Membership) (running : Running) (s after : Standing) (told : Told) → IsRunning member running after → KeepsStore s after → TakesStoreless member running told told s (Ok (still after))
still_taken member running s after told is keeps = record {
  takes = record { turn = still after; rule = refl; taken = record { runs = is; told = nothing_more told after; fits = no_messages } };
  keeps = keeps;
}

-- What is counted came, and what is marked was sent, from the beginning of a ballot on.
use Rattle.std.proofs.Common.{ℕ, ◌≡◌, ◌≢◌, ◌<◌, ◌-◌, ◌⊎◌, inl, inr, Bool, true, false, true≢false, not, zero, suc, List, [], ◌∷◌, Option, Some, None, Ok, refl, sym, ◌∙◌, ap, subst, arith, ◌==◌, if◌then◌else◌, length, get_or, set, length-set, get_or-set_same, get_or-set_other}
use Rattle.std.proofs.lemmas.Bool.{eqb-true}
use Rattle.std.proofs.lemmas.Bool.Decides.{eqb_tells}
use Rattle.paxos_wire.specs.declared.limits.TheConstants.{WINDOW}
use Rattle.paxos_wire.specs.declared.ballot.Ballot.{Ballot}
use Rattle.paxos_wire.specs.declared.entry.Entry.{Entry}
use Rattle.slot_log.specs.declared.command.Command.{Command}
use Rattle.protocol_model.specs.Sets.{In}
use Rattle.protocol_model.proofs.Sets.{all_same}
use Rattle.protocol_model.proofs.Ballots.{same_if}
use Rattle.protocol_model.specs.Messages.{Message, Promise, Covers, Accept as accept}
use Rattle.proposer.specs.declared.campaign.Campaign.{Campaign}
use Rattle.proposer.specs.declared.accept.Accept.{Accept}
use Rattle.proposer.specs.Campaigns.{has_promised, has_quorum, is_counted, with_promise, with_mark, new_campaign, greatest_told, value_of, accept_of, proposal_by}
use Rattle.paxos_wire.specs.Order.{is_same_ballot}
use Rattle.proposer.specs.Counted.{CountsFrom, MarksSent}
use Rattle.proposer.proofs.Safe.{passed}

-- ---- promises

-- a place that is set holds what was set, or there is no such place
set_at : {X : Type 0} (xs : List (Option X)) (i : ℕ) (x y : X) → get_or (set xs i (Some x)) i None ≡ Some y → x ≡ y
set_at [] i x y h = absurd (cc)
set_at (z ∷ zs) zero x y h = cc
set_at (z ∷ zs) (suc i) x y h = set_at zs i x y h

counted_from : (has : List Message) (c : Campaign) (from : ℕ) (told : List Entry) → In (Promise from c.ballot c.first told) has → CountsFrom has c
    → CountsFrom has (record c { promises = set c.promises from (Some told) })
counted_from has c from told h counts node other e = by_case (eqb_tells node from)
  where
    by_case : ((node == from) ≡ true) × (node ≡ from) ⊎ ((node == from) ≡ false) × (node ≢ from) → In (Promise node c.ballot c.first other) has
    by_case (inl same) =
        let one : told ≡ other = set_at c.promises from told other (ap (λ k. get_or (set c.promises from (Some told)) k None) (sym same.1) ∙ e) in
        subst (λ k. In (Promise k c.ballot c.first other) has) (sym same.1) (subst (λ (t : List Entry). In (Promise from c.ballot c.first t) has) one h)
    by_case (inr ne) = counts node other (sym (get_or-set_other c.promises from node (Some told) None ne.1) ∙ e)

counted_by : (lead ballot slot had : Bool) → (if lead then false else if not ballot then false else if not slot then false else not had) ≡ true → (ballot ≡ true) × (slot ≡ true)
counted_by true ballot slot had h = absurd (cc)
counted_by false false slot had h = absurd (cc)
counted_by false true false had h = absurd (cc)
counted_by false true true had h = (refl, refl)

promise_if : (n : ℕ) (has : List Message) (c : Campaign) (from : ℕ) (ballot : Ballot) (first : ℕ) (told : List Entry)
    → In (Promise from ballot first told) has → CountsFrom has c → (b : Bool) → is_counted n c from ballot first ≡ b
    → CountsFrom has (if b then record c { promises = set c.promises from (Some told) } else c)
promise_if n has c from ballot first told h counts false e = counts
promise_if n has c from ballot first told h counts true e =
    let is = counted_by (has_quorum n c) (is_same_ballot ballot c.ballot) (first == c.first) (has_promised c from) e in
    counted_from has c from told
    (subst (λ (k : ℕ). In (Promise from c.ballot k told) has) (eqb-true first c.first is.1)
    (subst (λ (b : Ballot). In (Promise from b first told) has) (same_if ballot c.ballot is.0) h)) counts

pub promise_counts : (n : ℕ) (has : List Message) (c : Campaign) (from : ℕ) (ballot : Ballot) (first : ℕ) (told : List Entry)
    → In (Promise from ballot first told) has → CountsFrom has c → CountsFrom has (with_promise n c from ballot first told)
promise_counts n has c from ballot first told h counts = promise_if n has c from ballot first told h counts _ refl

-- ---- marks

pub begin_marks : (sent : List Message) (ballot : Ballot) (first : ℕ)
    → ((slot : ℕ) (command : Command) → In (accept ballot slot command) sent → ⊥) → MarksSent sent (new_campaign ballot first)
begin_marks sent ballot first none = record {
  places = refl;
  all = λ slot command m. absurd (none slot command m);
  only = λ slot covers is. absurd (true≢false (sym is ∙ all_same false WINDOW (slot - first)));
}

made_is : (c : Campaign) (slot : ℕ) (value : Option Command) (made : Accept) → accept_of c slot value ≡ Some made → (made.ballot ≡ c.ballot) × (made.slot ≡ slot)
made_is c slot None made h = absurd (cc)
made_is c slot (Some command) made h =
    let same : made ≡ record { ballot = c.ballot; slot = slot; command = command } = cc in
    (ap (λ (a : Accept). a.ballot) same, ap (λ (a : Accept). a.slot) same)

pub mark_step : (sent : List Message) (c : Campaign) (made : Accept) → made.ballot ≡ c.ballot → Covers c.first made.slot → MarksSent sent c
    → MarksSent (accept made.ballot made.slot made.command ∷ sent) (record c { proposed = set c.proposed (made.slot - c.first) true })
mark_step sent c made ballot covers marks = record { places = length-set _ _ _ ∙ marks.places; all = all; only = only }
  where
    room : made.slot - c.first < length c.proposed
    room = let p = marks.places in omega arith

    here : get_or (set c.proposed (made.slot - c.first) true) (made.slot - c.first) false ≡ true
    here = get_or-set_same c.proposed (made.slot - c.first) true false room

    kept : (slot : ℕ) → get_or c.proposed (slot - c.first) false ≡ true → get_or (set c.proposed (made.slot - c.first) true) (slot - c.first) false ≡ true
    kept slot is = elim (eqb_tells (slot - c.first) (made.slot - c.first)) [
      | inl same ↦ ap (λ k. get_or (set c.proposed (made.slot - c.first) true) k false) same.1 ∙ here
      | inr ne ↦ get_or-set_other c.proposed (made.slot - c.first) (slot - c.first) true false ne.1 ∙ is
    ]

    all : (slot : ℕ) (command : Command) → In (accept c.ballot slot command) (accept made.ballot made.slot made.command ∷ sent)
        → Covers c.first slot × (get_or (set c.proposed (made.slot - c.first) true) (slot - c.first) false ≡ true)
    all slot command (inl same) =
        let at : made.slot ≡ slot = cc in
        (subst (Covers c.first) at covers, ap (λ k. get_or (set c.proposed (made.slot - c.first) true) (k - c.first) false) (sym at) ∙ here)
    all slot command (inr older) = let m = marks.all slot command older in (m.0, kept slot m.1)

    only : (slot : ℕ) → Covers c.first slot → get_or (set c.proposed (made.slot - c.first) true) (slot - c.first) false ≡ true
        → (command : Command) × In (accept c.ballot slot command) (accept made.ballot made.slot made.command ∷ sent)
    only slot at is = elim (eqb_tells (slot - c.first) (made.slot - c.first)) [
      | inl same ↦
          let e = same.1 in
          let one : slot ≡ made.slot = omega arith in
          (made.command, inl (λ i. accept (sym ballot i) (one i) made.command))
      | inr ne ↦ let m = marks.only slot at (sym (get_or-set_other c.proposed (made.slot - c.first) (slot - c.first) true false ne.1) ∙ is) in (m.0, inr m.1)
    ]

pub proposal_marks : (n : ℕ) (sent : List Message) (c : Campaign) (slot : ℕ) (own : Option Command) (made : Accept)
    → proposal_by n c slot own ≡ Ok (Some made) → MarksSent sent c
    → MarksSent (accept made.ballot made.slot made.command ∷ sent) (with_mark c (Ok (Some made)))
proposal_marks n sent c slot own made h marks =
    let p = passed n c slot own made h in
    let is = made_is c slot (value_of (greatest_told c slot n) own) made p.made_of in
    mark_step sent c made is.0 (subst (Covers c.first) (sym is.1) p.covers) marks

-- The promises of a calm round, counted, and the value that they make.
use Rattle.std.proofs.Common.{◌≡◌, ◌≢◌, ℕ, zero, suc, ◌+◌, ◌-◌, ◌<◌, ◌≤◌, ◌*◌, ◌⊎◌, inl, inr, Bool, true, false, not, ◌==◌, if◌then◌else◌, List, [], ◌∷◌, Option, Some, None, refl, sym, ap, subst, ◌∙◌, arith, length, get_or, set, replicate, get_or-set_same, get_or-set_other, length-set, eq-eqb}
use Rattle.std.specs.Prelude.{nat_lt, is_some}
use Rattle.std.proofs.lemmas.Bool.{lt-ltb}
use Rattle.std.proofs.lemmas.Bool.Decides.{eqb_tells}
use Rattle.std.proofs.lemmas.Option.{cond_some}
use Rattle.paxos_wire.specs.declared.limits.TheConstants.{NODES, SLOTS, WINDOW}
use Rattle.paxos_wire.specs.declared.ballot.Ballot.{Ballot}
use Rattle.paxos_wire.specs.declared.entry.Entry.{Entry}
use Rattle.slot_log.specs.declared.command.Command.{Command}
use Rattle.protocol_model.specs.Sets.{In}
use Rattle.protocol_model.proofs.Sets.{all_same}
use Rattle.protocol_model.specs.Ballots.{AtMost}
use Rattle.protocol_model.specs.Messages.{Vote, entry_of, vote_of}
use Rattle.protocol_model.specs.Stores.{Store}
use Rattle.proposer.specs.declared.campaign.Campaign.{Campaign}
use Rattle.proposer.specs.Campaigns.{promise_by, new_campaign, has_promised, has_quorum, is_counted, is_covered, is_proposed, with_promise, greatest_told}
use Rattle.proposer.specs.CommandRuns.{may_follow, in_front, told_commands}
use Rattle.proposer.proofs.Safe.{covered_is}
use Rattle.proposer.proofs.ToldCommands.{none_past}
use Rattle.paxos_wire.specs.Order.{is_same_ballot}
use Rattle.proposer.specs.Counted.{IsGreatest}
use Rattle.proposer.specs.Counted as counted_of
use Rattle.protocol_model.specs.Votes.{told_by}
use Rattle.node_rules.specs.Calm.{IsGreatestHeld, AreGreatestHeld, IsUnheld}
use Rattle.node_rules.specs.Standings.{Standing}
use Rattle.node_rules.specs.Given.{Given}
use Rattle.node_rules.proofs.Ordering.{both_ways}
use Rattle.protocol_model.proofs.Votes.{tells}
use Rattle.node_rules.proofs.Members.{is_in, is_in_in, in_is, count_same, count_list, AreDistinct}

-- of these nodes the promises are counted, each telling its node's votes; nothing was proposed
pub record IsCounted (ballot : Ballot) (first : ℕ) (stores : ℕ → Store) (counted : List ℕ) (k : Campaign) : Type 0 where
  pub ballot_is : k.ballot ≡ ballot
  pub first_is : k.first ≡ first
  pub places : length k.promises ≡ NODES
  pub unproposed : k.proposed ≡ replicate WINDOW false
  pub promises : (m : ℕ) → promise_by k m ≡ (if is_in counted m then Some (told_by (stores m) first) else None)

pub new_counted : (ballot : Ballot) (first : ℕ) (stores : ℕ → Store) → IsCounted ballot first stores [] (new_campaign ballot first)
new_counted ballot first stores = record { ballot_is = refl; first_is = refl; places = refl; unproposed = refl; promises = λ m. all_same {A = Option (List Entry)} None NODES m }

same_self : (b : Ballot) → is_same_ballot b b ≡ true
same_self b = λ j. if eq-eqb b.round b.round refl j then eq-eqb b.node b.node refl j else false

promised_if : (b : Bool) (told : List Entry) → is_some (if b then Some told else None) ≡ b
promised_if true told = refl
promised_if false told = refl

pub promised_is : (ballot : Ballot) (first : ℕ) (stores : ℕ → Store) (counted : List ℕ) (k : Campaign) (m : ℕ) → IsCounted ballot first stores counted k → has_promised k m ≡ is_in counted m
promised_is ballot first stores counted k m c = ap is_some (c.promises m) ∙ promised_if (is_in counted m) (told_by (stores m) first)

-- a quorum has promised where there are enough of them
pub quorum_is : (n : ℕ) (ballot : Ballot) (first : ℕ) (stores : ℕ → Store) (counted : List ℕ) (k : Campaign) → AreDistinct n counted → IsCounted ballot first stores counted k
    → has_quorum n k ≡ nat_lt n (2 * length counted)
quorum_is n ballot first stores counted k distinct c =
    ap (λ (x : ℕ). nat_lt n (2 * x)) (count_same (has_promised k) (is_in counted) n (λ m l. promised_is ballot first stores counted k m c) ∙ count_list n counted distinct)

-- one more promise counts
pub counts_more : (n : ℕ) (ballot : Ballot) (first : ℕ) (stores : ℕ → Store) (counted : List ℕ) (k : Campaign) (j : ℕ) → has_quorum n k ≡ false → is_in counted j ≡ false → j < NODES
    → IsCounted ballot first stores counted k → IsCounted ballot first stores (j ∷ counted) (with_promise n k j ballot first (told_by (stores j) first))
counts_more n ballot first stores counted k j quorum out low c =
    subst (IsCounted ballot first stores (j ∷ counted)) (sym (ap (λ (b : Bool). if b then record k { promises = set k.promises j (Some (told_by (stores j) first)) } else k) taken)) (record {
      ballot_is = c.ballot_is;
      first_is = c.first_is;
      places = length-set k.promises j (Some (told_by (stores j) first)) ∙ c.places;
      unproposed = c.unproposed;
      promises = λ m. promise_at m (eqb_tells m j);
    })
  where
    taken : is_counted n k j ballot first ≡ true
    taken = (λ i. if quorum i then false
        else if not (is_same_ballot ballot (c.ballot_is i)) then false
        else if not (first == c.first_is i) then false
        else not (promised_is ballot first stores counted k j c i))
        ∙ (λ i. if not (same_self ballot i) then false
        else if not (eq-eqb first first refl i) then false
        else not (out i))

    promise_at : (m : ℕ) → ((m == j) ≡ true) × (m ≡ j) ⊎ ((m == j) ≡ false) × (m ≢ j)
        → get_or (set k.promises j (Some (told_by (stores j) first))) m None ≡ (if (if m == j then true else is_in counted m) then Some (told_by (stores m) first) else None)
    promise_at m (inl same) =
        ap (λ (y : ℕ). get_or (set k.promises j (Some (told_by (stores j) first))) y None) same.1
        ∙ (get_or-set_same k.promises j (Some (told_by (stores j) first)) None (let p = c.places in omega (arith, p))
        ∙ (ap (λ (y : ℕ). Some (told_by (stores y) first)) (sym same.1)
        ∙ sym (ap (λ (b : Bool). if (if b then true else is_in counted m) then Some (told_by (stores m) first) else None) same.0)))
    promise_at m (inr other) =
        get_or-set_other k.promises j m (Some (told_by (stores j) first)) None other.1
        ∙ (c.promises m ∙ sym (ap (λ (b : Bool). if (if b then true else is_in counted m) then Some (told_by (stores m) first) else None) other.0))

-- ---- the value

-- members' votes of one ballot at the slot are for one command
abbrev pub Agree : (ℕ → Standing) → List ℕ → ℕ → Type 0
Agree standings members slot = (m k : ℕ) → In m members → In k members → (v w : Vote) → (standings m).store.votes slot ≡ Some v → (standings k).store.votes slot ≡ Some w → v.ballot ≡ w.ballot
    → v.command ≡ w.command

-- who tells of an entry at a slot has this vote
pub record TellsVote (standings : ℕ → Standing) (members : List ℕ) (slot : ℕ) (entry : Entry) : Type 0 where
  pub node : ℕ
  pub member : In node members
  pub vote : (standings node).store.votes slot ≡ Some (vote_of entry)

told_vote : (n : ℕ) (ballot : Ballot) (first slot : ℕ) (standings : ℕ → Standing) (members counted : List ℕ) (k : Campaign) (entry : Entry) → IsCounted ballot first (λ m. (standings m).store) counted k
    → ((m : ℕ) → In m counted → In m members) → counted_of.Tells n k slot entry → TellsVote standings members slot entry
told_vote n ballot first slot standings members counted k entry c inside (m, told, low, promise, had, at) =
    let is = cond_some (is_in counted m) (told_by (standings m).store first) told (sym (c.promises m) ∙ promise) in
    let only = (tells (standings m).store first).only entry (subst (λ (l : List Entry). In entry l) (sym is.1) had) in
    record { node = m; member = inside m (is_in_in counted m is.0); vote = subst (λ (s : ℕ). (standings m).store.votes s ≡ Some (vote_of entry)) at only.1 }

vote_told : (n : ℕ) (ballot : Ballot) (first slot : ℕ) (standings : ℕ → Standing) (counted : List ℕ) (k : Campaign) (m : ℕ) (v : Vote) → IsCounted ballot first (λ m. (standings m).store) counted k
    → first ≤ slot → slot < first + WINDOW → m < n → In m counted → (standings m).store.votes slot ≡ Some v → counted_of.Tells n k slot (entry_of slot v)
vote_told n ballot first slot standings counted k m v c least most low had e = (
  m,
  told_by (standings m).store first,
  low,
  c.promises m ∙ ap (λ (b : Bool). if b then Some (told_by (standings m).store first) else None) (in_is counted m had),
  (tells (standings m).store first).all slot v (least, omega (arith, most)) e,
  refl,
)

-- an entry of the slot is told, and it has this command
pub record IsTold (k : Campaign) (slot n : ℕ) (command : Command) : Type 0 where
  pub entry : Entry
  pub told : greatest_told k slot n ≡ Some entry
  pub same : entry.command ≡ command

-- by all members' promises: the command of the greatest ballot that they hold at a slot
pub greatest_value : (g : Given) (n : ℕ) (ballot : Ballot) (first slot : ℕ) (standings : ℕ → Standing) (members counted : List ℕ) (k : Campaign) (command : Command)
    → IsCounted ballot first (λ m. (standings m).store) counted k → ((m : ℕ) → In m counted → In m members) → ((m : ℕ) → In m members → In m counted) → ((m : ℕ) → In m members → m < n)
    → first ≤ slot → slot < first + WINDOW → Agree standings members slot → IsGreatestHeld standings members slot command → IsTold k slot n command
greatest_value g n ballot first slot standings members counted k command c inside all low least most agree held = by_told (greatest_told k slot n) refl (g.greatest n k slot)
  where
    here : counted_of.Tells n k slot (entry_of slot held.greatest)
    here = vote_told n ballot first slot standings counted k held.held.0 held.greatest c least most (low held.held.0 held.held.1) (all held.held.0 held.held.1) held.held.2

    by_told : (told : Option Entry) → greatest_told k slot n ≡ told → IsGreatest n k slot told → IsTold k slot n command
    by_told None e none = absurd (none (entry_of slot held.greatest) here)
    by_told (Some entry) e (told, above) =
        let who = told_vote n ballot first slot standings members counted k entry c inside told in
        let low_one : AtMost entry.ballot held.greatest.ballot = held.above (vote_of entry) (who.node, who.member, who.vote) in
        let high_one : AtMost held.greatest.ballot entry.ballot = above (entry_of slot held.greatest) here in
        record {
          entry = entry;
          told = e;
          same = agree who.node held.held.0 who.member held.held.1 (vote_of entry) held.greatest who.vote held.held.2 (both_ways entry.ballot held.greatest.ballot low_one high_one) ∙ held.same;
        }

-- and none of a slot where they hold nothing
pub none_held : (g : Given) (n : ℕ) (ballot : Ballot) (first slot : ℕ) (standings : ℕ → Standing) (members counted : List ℕ) (k : Campaign)
    → IsCounted ballot first (λ m. (standings m).store) counted k → ((m : ℕ) → In m counted → In m members) → IsUnheld standings members slot → greatest_told k slot n ≡ None
none_held g n ballot first slot standings members counted k c inside none = by_told (greatest_told k slot n) refl (g.greatest n k slot)
  where
    by_told : (told : Option Entry) → greatest_told k slot n ≡ told → IsGreatest n k slot told → greatest_told k slot n ≡ None
    by_told None e h = e
    by_told (Some entry) e (told, above) =
        let who = told_vote n ballot first slot standings members counted k entry c inside told in absurd (none (vote_of entry) (who.node, who.member, who.vote))

-- ---- what is told from the front on

-- of the slots behind the front so many are told, each with the command that the members hold
pub told_are : (g : Given) (n : ℕ) (ballot : Ballot) (first : ℕ) (standings : ℕ → Standing) (members counted : List ℕ) (k : Campaign)
    → IsCounted ballot first (λ m. (standings m).store) counted k → ((m : ℕ) → In m counted → In m members) → ((m : ℕ) → In m members → In m counted) → ((m : ℕ) → In m members → m < n)
    → ((slot : ℕ) → Agree standings members slot) → (more slot : ℕ) (commands : List Command) → first ≤ slot → slot + more ≤ first + WINDOW → slot + length commands ≤ SLOTS
    → length commands ≤ more → (length commands ≡ more) ⊎ ((slot + length commands ≡ SLOTS) ⊎ IsUnheld standings members (slot + length commands))
    → AreGreatestHeld standings members slot commands → told_commands n k more slot ≡ commands
unfolding told_commands
told_are g n ballot first standings members counted k c inside all low agree zero slot [] least most slots few ends held = refl
told_are g n ballot first standings members counted k c inside all low agree zero slot (command ∷ later) least most slots few ends held = absurd (omega (arith, few))
told_are g n ballot first standings members counted k c inside all low agree (suc more) slot [] least most slots few ends held = by_end ends
  where
    here : slot + 0 ≡ slot
    here = omega arith

    shut : may_follow k slot ≡ false → (if may_follow k slot then in_front (greatest_told k slot n) (told_commands n k more (slot + 1)) else []) ≡ []
    shut e = ap (λ (b : Bool). if b then in_front (greatest_told k slot n) (told_commands n k more (slot + 1)) else []) e

    untold : greatest_told k slot n ≡ None → (if may_follow k slot then in_front (greatest_told k slot n) (told_commands n k more (slot + 1)) else []) ≡ []
    untold e = ap (λ (o : Option Entry). if may_follow k slot then in_front o (told_commands n k more (slot + 1)) else []) e ∙ either (may_follow k slot)
      where
        either : (b : Bool) → ◌≡◌ {A = List Command} (if b then [] else []) []
        either true = refl
        either false = refl

    by_end : (0 ≡ suc more) ⊎ ((slot + 0 ≡ SLOTS) ⊎ IsUnheld standings members (slot + 0))
        → (if may_follow k slot then in_front (greatest_told k slot n) (told_commands n k more (slot + 1)) else []) ≡ []
    by_end (inl e) = absurd (omega (arith, e))
    by_end (inr (inl last)) = shut (none_past k slot (omega (arith, last)))
    by_end (inr (inr none)) = untold (none_held g n ballot first slot standings members counted k c inside (subst (IsUnheld standings members) here none))
told_are g n ballot first standings members counted k c inside all low agree (suc more) slot (command ∷ later) least most slots few ends held =
    (λ j. if follows j then in_front (told.told j) (told_commands n k more (slot + 1)) else [])
    ∙ (ap (λ (d : Command). d ∷ told_commands n k more (slot + 1)) told.same
    ∙ ap (λ (l : List Command). command ∷ l) (told_are g n ballot first standings members counted k c inside all low agree more (slot + 1) later (omega (arith, least)) (omega (arith, most))
    (omega (arith, slots)) (omega (arith, few)) ends_later held.1))
  where
    told : IsTold k slot n command
    told = greatest_value g n ballot first slot standings members counted k command c inside all low least (omega (arith, most)) (agree slot) held.0

    follows : may_follow k slot ≡ true
    follows = λ j. if not (covers j) then false else if not (is_slot j) then false else not (unmarked j)
      where
        covers : is_covered k.first slot ≡ true
        covers = covered_is k.first slot (let e = c.first_is in (omega (arith, e, least), omega (arith, e, most)))

        is_slot : nat_lt slot SLOTS ≡ true
        is_slot = lt-ltb slot SLOTS (omega (arith, slots))

        unmarked : is_proposed k slot ≡ false
        unmarked = ap (λ (l : List Bool). get_or l (slot - k.first) false) c.unproposed ∙ all_same false WINDOW (slot - k.first)

    ends_later : (length later ≡ more) ⊎ ((slot + 1 + length later ≡ SLOTS) ⊎ IsUnheld standings members (slot + 1 + length later))
    ends_later = elim ends [
      | inl e ↦ inl (omega (arith, e))
      | inr other ↦ elim other [
        | inl e ↦ inr (inl (omega (arith, e)))
        | inr none ↦ inr (inr (let same : slot + length (command ∷ later) ≡ slot + 1 + length later = omega arith in subst (IsUnheld standings members) same none))
      ]
    ]

-- A command run is safe, its slots are marked once they are sent, and it ends where no told command may follow.
use Rattle.std.proofs.Common.{ℕ, zero, suc, ◌≡◌, ◌<◌, ◌≤◌, ◌+◌, ◌-◌, ◌⊎◌, inl, inr, Bool, true, false, true≢false, not, List, [], ◌∷◌, ◌++◌, Option, Some, None, Result, Ok, Err, refl, sym, ap, subst, ◌∙◌, arith, append_assoc, if◌then◌else◌, length, set}
use Rattle.std.specs.Prelude.{nat_lt}
use Rattle.std.proofs.lemmas.Bool.{ltb-true, ltb-false}
use Rattle.paxos_wire.specs.declared.limits.TheConstants.{WINDOW, SLOTS}
use Rattle.paxos_wire.specs.declared.entry.Entry.{Entry}
use Rattle.slot_log.specs.declared.command.Command.{Command}
use Rattle.protocol_model.specs.Sets.{In}
use Rattle.protocol_model.specs.Ballots.{AtMost}
use Rattle.protocol_model.specs.Messages.{Message, Covers, Accept as accept}
use Rattle.protocol_model.specs.Quorums.{IsFree, IsGreatestTold}
use Rattle.protocol_model.specs.CommandRuns.{proposed, MayProposeEach}
use Rattle.proposer.specs.declared.campaign.Campaign.{Campaign}
use Rattle.proposer.specs.declared.accept_run.AcceptRun.{AcceptRun}
use Rattle.proposer.specs.declared.fault.ProposeFault.{ProposeFault}
use Rattle.proposer.specs.declared.fault.ProposeFault.TheVariants.{OutOfWindow}
use Rattle.proposer.specs.Campaigns.{has_quorum, is_covered, is_proposed, greatest_told, value_of, accept_of, proposal_by}
use Rattle.proposer.specs.CommandRuns.{may_follow, in_front, told_commands, commands_of, commands_at, accept_run_of, run_by, run_of_one, marked_places, with_marks}
use Rattle.proposer.specs.Counted.{CountsFrom, CountsAll, MarksSent, HasQuorum, IsGreatest}
use Rattle.proposer.specs.CommandRunLaws.{IsAlone, IsSafeCommandRun, Ends}
use Rattle.proposer.proofs.Greatest.{greatest_decides}
use Rattle.proposer.proofs.Safe.{has_promises, is_told, covered_is, leads_with, unmarked_if}
use Rattle.proposer.proofs.Kept.{mark_step}
use Rattle.proposer.proofs.ToldCommands.{follows, covered_means, stays_covered, all_covered}

-- ---- the tests of a command run

-- what it shows of the tests before it
pub record PassedRun (n : ℕ) (c : Campaign) (slot : ℕ) (own : Option Command) (made : AcceptRun) : Type 0 where
  pub leads : has_quorum n c ≡ true
  pub low : c.first ≤ slot
  pub high : slot < c.first + WINDOW
  pub unmarked : is_proposed c slot ≡ false
  pub ballot : made.ballot ≡ c.ballot
  pub begins : made.slot ≡ slot
  pub commands : made.commands ≡ commands_at n c slot own
  pub least : 1 ≤ length made.commands

made_by : (n : ℕ) (c : Campaign) (slot : ℕ) (own : Option Command) (made : AcceptRun) (commands : List Command)
    → has_quorum n c ≡ true → is_covered c.first slot ≡ true → is_proposed c slot ≡ false → commands_at n c slot own ≡ commands
    → accept_run_of c slot commands ≡ Some made → PassedRun n c slot own made
made_by n c slot own made [] leads covered unmarked e h = absurd (cc)
made_by n c slot own made (command ∷ more) leads covered unmarked e h =
    let same : made ≡ record { ballot = c.ballot; slot = slot; commands = command ∷ more } = cc in
    let within = covered_means c.first slot covered in
    let count : length made.commands ≡ length (command ∷ more) = ap (λ (a : AcceptRun). length a.commands) same in
    record {
      leads = leads;
      low = within.0;
      high = within.1;
      unmarked = unmarked;
      ballot = ap (λ (a : AcceptRun). a.ballot) same;
      begins = ap (λ (a : AcceptRun). a.slot) same;
      commands = ap (λ (a : AcceptRun). a.commands) same ∙ sym e;
      least = omega (arith, count);
    }

passed_by : (n : ℕ) (c : Campaign) (slot : ℕ) (own : Option Command) (made : AcceptRun) (lead covered marked : Bool)
    → has_quorum n c ≡ lead → is_covered c.first slot ≡ covered → is_proposed c slot ≡ marked
    → (let r : Result (Option AcceptRun) ProposeFault =
    if not lead then Ok None else if not covered then Err OutOfWindow else if marked then Ok None else Ok (accept_run_of c slot (commands_at n c slot own))
    in r) ≡ Ok (Some made)
    → PassedRun n c slot own made
passed_by n c slot own made false covered marked el ec em h = absurd (cc)
passed_by n c slot own made true false marked el ec em h = absurd (cc)
passed_by n c slot own made true true true el ec em h = absurd (cc)
passed_by n c slot own made true true false el ec em h = made_by n c slot own made (commands_at n c slot own) el ec em refl (cc)

pub passed_run : (n : ℕ) (c : Campaign) (slot : ℕ) (own : Option Command) (made : AcceptRun) → run_by n c slot own ≡ Ok (Some made) → PassedRun n c slot own made
passed_run n c slot own made h = passed_by n c slot own made _ _ _ refl refl refl h

-- ---- what is proposed is safe

pub none_told_is_free : (n : ℕ) (has : List Message) (c : Campaign) (slot : ℕ)
    → CountsFrom has c → has_quorum n c ≡ true → Covers c.first slot → greatest_told c slot n ≡ None → IsFree n has c.ballot slot
none_told_is_free n has c slot counts leads covers none =
    has_promises n has c slot (λ e. ⊥) counts covers leads (subst (IsGreatest n c slot) none (greatest_decides n c slot))

module _ (n : ℕ) (has sent : List Message) (c : Campaign) (counts : CountsFrom has c) (marks : MarksSent sent c) (leads : has_quorum n c ≡ true) where
  told_safe : (slot : ℕ) (e : Entry) → Covers c.first slot → greatest_told c slot n ≡ Some e → IsGreatestTold n has c.ballot slot e.command
  told_safe slot e covers told =
      let g = subst (IsGreatest n c slot) told (greatest_decides n c slot) in
      (e.ballot, is_told n has c slot e counts g.0, has_promises n has c slot (λ x. AtMost x.ballot e.ballot) counts covers leads g.1)

  nothing_sent : (slot : ℕ) → is_proposed c slot ≡ false → (other : Command) → In (accept c.ballot slot other) sent → ⊥
  nothing_sent slot unmarked other sent_there = true≢false (sym (marks.all slot other sent_there).1 ∙ unmarked)

  covers_at : (slot : ℕ) → c.first ≤ slot → slot < c.first + WINDOW → Covers c.first slot
  covers_at slot low high = (low, omega (arith, high))

  each_by : (slot : ℕ) (b : Bool) (told : Option Entry) (behind : List Command) → may_follow c slot ≡ b → greatest_told c slot n ≡ told
      → MayProposeEach n has sent c.ballot (slot + 1) behind → MayProposeEach n has sent c.ballot slot (if b then in_front told behind else [])
  each_by slot false told behind eb et rest = tt
  each_by slot true None behind eb et rest = tt
  each_by slot true (Some entry) behind eb et rest =
      let on = follows c slot eb in (told_safe slot entry (covers_at slot on.low on.high) et, nothing_sent slot on.unmarked, rest)

  each_told : (more slot : ℕ) → MayProposeEach n has sent c.ballot slot (told_commands n c more slot)
  unfolding told_commands
  each_told zero slot = tt
  each_told (suc more) slot = each_by slot (may_follow c slot) (greatest_told c slot n) (told_commands n c more (slot + 1)) refl refl (each_told more (slot + 1))

  pub all_safe : (slot : ℕ) (own : Option Command) (told : Option Entry) → c.first ≤ slot → slot < c.first + WINDOW → is_proposed c slot ≡ false → greatest_told c slot n ≡ told
      → 1 ≤ length (commands_of told (told_commands n c (WINDOW - 1) (slot + 1)) own)
      → MayProposeEach n has sent c.ballot slot (commands_of told (told_commands n c (WINDOW - 1) (slot + 1)) own)
      ⊎ IsAlone n has sent c.ballot slot own (commands_of told (told_commands n c (WINDOW - 1) (slot + 1)) own)
  all_safe slot own (Some entry) low high unmarked e some =
      inl (told_safe slot entry (covers_at slot low high) e, nothing_sent slot unmarked, each_told (WINDOW - 1) (slot + 1))
  all_safe slot (Some command) None low high unmarked e some =
      inr (command, refl, refl, none_told_is_free n has c slot counts leads (covers_at slot low high) e, nothing_sent slot unmarked)
  all_safe slot None None low high unmarked e some = absurd (omega (arith, some))

-- it stays below the last slot
slots_by : (campaign : Campaign) (slot : ℕ) (b : Bool) (told : Option Entry) (behind : List Command) → may_follow campaign slot ≡ b → slot ≤ SLOTS
    → (slot + 1 ≤ SLOTS → slot + 1 + length behind ≤ SLOTS) → slot + length (if b then in_front told behind else []) ≤ SLOTS
slots_by campaign slot false told behind e most rest = omega (arith, most)
slots_by campaign slot true None behind e most rest = omega (arith, most)
slots_by campaign slot true (Some entry) behind e most rest =
    let one = follows campaign slot e in
    let is_slot = one.is_slot in
    let all = rest (omega (arith, is_slot)) in omega (arith, all)

slots_told : (n : ℕ) (campaign : Campaign) (more slot : ℕ) → slot ≤ SLOTS → slot + length (told_commands n campaign more slot) ≤ SLOTS
unfolding told_commands
slots_told n campaign zero slot most = omega (arith, most)
slots_told n campaign (suc more) slot most =
    slots_by campaign slot (may_follow campaign slot) (greatest_told campaign slot n) (told_commands n campaign more (slot + 1)) refl most (λ behind. slots_told n campaign more (slot + 1) behind)

slots_all : (n : ℕ) (campaign : Campaign) (slot : ℕ) (own : Option Command) (told : Option Entry) → slot < SLOTS
    → slot + length (commands_of told (told_commands n campaign (WINDOW - 1) (slot + 1)) own) ≤ SLOTS
slots_all n campaign slot own (Some entry) low = let behind = slots_told n campaign (WINDOW - 1) (slot + 1) (omega (arith, low)) in omega (arith, behind)
slots_all n campaign slot (Some command) None low = omega (arith, low)
slots_all n campaign slot None None low = omega (arith, low)

pub safe_run : (n : ℕ) (has sent : List Message) (c : Campaign) (slot : ℕ) (own : Option Command) (made : AcceptRun)
    → CountsFrom has c → MarksSent sent c → run_by n c slot own ≡ Ok (Some made) → IsSafeCommandRun n has sent c slot own made
safe_run n has sent c slot own made counts marks h =
    let p = passed_run n c slot own made h in
    let count : length made.commands ≡ length (commands_at n c slot own) = ap length p.commands in
    let covered = all_covered n c slot own (greatest_told c slot n) p.high in
    record {
      ballot = p.ballot;
      begins = p.begins;
      least = p.least;
      low = p.low;
      high = omega (arith, count, covered);
      slots = λ low. let ends = slots_all n c slot own (greatest_told c slot n) low in omega (arith, count, ends);
      commands = subst (λ (cs : List Command). MayProposeEach n has sent c.ballot slot cs ⊎ IsAlone n has sent c.ballot slot own cs) (sym p.commands)
          (all_safe n has sent c counts marks p.leads slot own (greatest_told c slot n) p.low p.high p.unmarked refl (let some = p.least in omega (arith, count, some)));
    }

pub leader_proposes_run : (n : ℕ) (has sent : List Message) (c : Campaign) (slot : ℕ) (own : Option Command)
    → CountsAll n has c → MarksSent sent c → HasQuorum n has c.ballot c.first → Covers c.first slot
    → ((command : Command) → In (accept c.ballot slot command) sent → ⊥)
    → run_by n c slot own ≡ Ok (accept_run_of c slot (commands_at n c slot own))
leader_proposes_run n has sent c slot own counts marks q covers none =
    rw (leads_with n has c counts q, covered_is c.first slot covers, unmarked_if sent c slot marks covers none (is_proposed c slot) refl) refl

-- ---- one alone

none_behind : (n : ℕ) (c : Campaign) (more slot : ℕ) → (may_follow c slot ≡ false) ⊎ (greatest_told c slot n ≡ None) → told_commands n c more slot ≡ []
unfolding told_commands
none_behind n c zero slot ends = refl
none_behind n c (suc more) slot (inl shut) = ap (λ (b : Bool). if b then in_front (greatest_told c slot n) (told_commands n c more (slot + 1)) else []) shut
none_behind n c (suc more) slot (inr untold) = by (may_follow c slot)
  where
    by : (b : Bool) → (if b then in_front (greatest_told c slot n) (told_commands n c more (slot + 1)) else []) ≡ []
    by true = ap (λ (o : Option Entry). in_front o (told_commands n c more (slot + 1))) untold
    by false = refl

one_value : (c : Campaign) (slot : ℕ) (own : Option Command) (told : Option Entry)
    → ◌≡◌ {A = Result (Option AcceptRun) ProposeFault} (Ok (accept_run_of c slot (commands_of told [] own))) (run_of_one (Ok (accept_of c slot (value_of told own))))
one_value c slot own (Some entry) = refl
one_value c slot (Some command) None = refl
one_value c slot None None = refl

one_by : (c : Campaign) (slot : ℕ) (own : Option Command) (told : Option Entry) (lead covered marked : Bool)
    → (let r : Result (Option AcceptRun) ProposeFault =
    if not lead then Ok None else if not covered then Err OutOfWindow else if marked then Ok None else Ok (accept_run_of c slot (commands_of told [] own))
    in r)
    ≡ run_of_one (if not lead then Ok None else if not covered then Err OutOfWindow else if marked then Ok None else Ok (accept_of c slot (value_of told own)))
one_by c slot own told false covered marked = refl
one_by c slot own told true false marked = refl
one_by c slot own told true true true = refl
one_by c slot own told true true false = one_value c slot own told

pub one_is_a_proposal : (n : ℕ) (c : Campaign) (slot : ℕ) (own : Option Command) → (may_follow c (slot + 1) ≡ false) ⊎ (greatest_told c (slot + 1) n ≡ None)
    → run_by n c slot own ≡ run_of_one (proposal_by n c slot own)
one_is_a_proposal n c slot own ends =
    ap (λ (behind : List Command). let r : Result (Option AcceptRun) ProposeFault =
    if not (has_quorum n c) then Ok None else if not (is_covered c.first slot) then Err OutOfWindow else if is_proposed c slot then Ok None
    else Ok (accept_run_of c slot (commands_of (greatest_told c slot n) behind own)) in r) (none_behind n c (WINDOW - 1) (slot + 1) ends)
    ∙ one_by c slot own (greatest_told c slot n) (has_quorum n c) (is_covered c.first slot) (is_proposed c slot)

-- ---- where it ends

shut_by : (c : Campaign) (slot : ℕ) (below within low marked : Bool) → nat_lt slot c.first ≡ below → nat_lt slot (c.first + WINDOW) ≡ within
    → nat_lt slot SLOTS ≡ low → is_proposed c slot ≡ marked → c.first ≤ slot → slot ≤ c.first + WINDOW
    → (if not (if below then false else within) then false else if not low then false else not marked) ≡ false
    → (slot ≡ c.first + WINDOW) ⊎ ((SLOTS ≤ slot) ⊎ (is_proposed c slot ≡ true))
shut_by c slot true within low marked a b d e least most h = let under = ltb-true slot c.first a in absurd (omega (arith, under, least))
shut_by c slot false false low marked a b d e least most h = let above = ltb-false slot (c.first + WINDOW) b in inl (omega (arith, above, most))
shut_by c slot false true false marked a b d e least most h = inr (inl (ltb-false slot SLOTS d))
shut_by c slot false true true true a b d e least most h = inr (inr e)
shut_by c slot false true true false a b d e least most h = absurd (let clash : true ≡ false = h in cc)

ends_if : (n : ℕ) (c : Campaign) (slot : ℕ) → c.first ≤ slot → slot ≤ c.first + WINDOW → (may_follow c slot ≡ false) ⊎ (greatest_told c slot n ≡ None) → Ends n c slot
ends_if n c slot least most (inl shut) = elim (shut_by c slot _ _ _ _ refl refl refl refl least most shut) [
  | inl end ↦ inl end
  | inr other ↦ elim other [ inl past ↦ inr (inl past) | inr marked ↦ inr (inr (inl marked)) ]
]
ends_if n c slot least most (inr untold) = inr (inr (inr untold))

it_ends : (n : ℕ) (c : Campaign) (more slot : ℕ) → length (told_commands n c more slot) < more
    → (may_follow c (slot + length (told_commands n c more slot)) ≡ false) ⊎ (greatest_told c (slot + length (told_commands n c more slot)) n ≡ None)
unfolding told_commands
it_ends n c zero slot short = absurd (omega (arith, short))
it_ends n c (suc more) slot short = by (may_follow c slot) (greatest_told c slot n) refl refl (λ lt. it_ends n c more (slot + 1) lt) short
  where
    by : (b : Bool) (o : Option Entry) → may_follow c slot ≡ b → greatest_told c slot n ≡ o
        → (length (told_commands n c more (slot + 1)) < more → (may_follow c (slot + 1 + length (told_commands n c more (slot + 1))) ≡ false) ⊎ (greatest_told c (slot + 1 + length (told_commands n c more (slot + 1))) n ≡ None))
        → length (if b then in_front o (told_commands n c more (slot + 1)) else []) < suc more
        → (may_follow c (slot + length (if b then in_front o (told_commands n c more (slot + 1)) else [])) ≡ false)
        ⊎ (greatest_told c (slot + length (if b then in_front o (told_commands n c more (slot + 1)) else [])) n ≡ None)
    by false o eb et later lt = (let none : slot ≡ slot + 0 = omega arith in subst (λ (s : ℕ). (may_follow c s ≡ false) ⊎ (greatest_told c s n ≡ None)) none (inl eb))
    by true None eb et later lt = (let none : slot ≡ slot + 0 = omega arith in subst (λ (s : ℕ). (may_follow c s ≡ false) ⊎ (greatest_told c s n ≡ None)) none (inr et))
    by true (Some entry) eb et later lt =
        let next : slot + 1 + length (told_commands n c more (slot + 1)) ≡ slot + suc (length (told_commands n c more (slot + 1))) = omega arith in
        subst (λ (s : ℕ). (may_follow c s ≡ false) ⊎ (greatest_told c s n ≡ None)) next (later (omega (arith, lt)))

at_most_so_many : (n : ℕ) (c : Campaign) (more slot : ℕ) → length (told_commands n c more slot) ≤ more
unfolding told_commands
at_most_so_many n c zero slot = omega arith
at_most_so_many n c (suc more) slot = by (may_follow c slot) (greatest_told c slot n) (at_most_so_many n c more (slot + 1))
  where
    by : (b : Bool) (o : Option Entry) → length (told_commands n c more (slot + 1)) ≤ more → length (if b then in_front o (told_commands n c more (slot + 1)) else []) ≤ suc more
    by false o rest = omega arith
    by true None rest = omega arith
    by true (Some entry) rest = omega (arith, rest)

short_or_whole : (a b : ℕ) → a ≤ b → (a < b) ⊎ (a ≡ b)
short_or_whole a b most = grind arith

told_ends : (n : ℕ) (c : Campaign) (slot : ℕ) → c.first ≤ slot → slot < c.first + WINDOW → Ends n c (slot + 1 + length (told_commands n c (WINDOW - 1) (slot + 1)))
told_ends n c slot least most =
    let high = stays_covered n c (WINDOW - 1) (slot + 1) (omega (arith, most)) in
    elim (short_or_whole (length (told_commands n c (WINDOW - 1) (slot + 1))) (WINDOW - 1) (at_most_so_many n c (WINDOW - 1) (slot + 1))) [
      | inl short ↦ ends_if n c (slot + 1 + length (told_commands n c (WINDOW - 1) (slot + 1))) (omega (arith, least)) (omega (arith, high)) (it_ends n c (WINDOW - 1) (slot + 1) short)
      | inr whole ↦ inl (omega (arith, whole, least, high))
    ]

run_ends_by : (n : ℕ) (c : Campaign) (slot : ℕ) (own : Option Command) (told : Option Entry) (entry : Entry) → c.first ≤ slot → slot < c.first + WINDOW → told ≡ Some entry
    → Ends n c (slot + length (commands_of told (told_commands n c (WINDOW - 1) (slot + 1)) own))
run_ends_by n c slot own None entry least most e = absurd (cc)
run_ends_by n c slot own (Some other) entry least most e =
    let behind : slot + 1 + length (told_commands n c (WINDOW - 1) (slot + 1)) ≡ slot + suc (length (told_commands n c (WINDOW - 1) (slot + 1))) = omega arith in
    subst (Ends n c) behind (told_ends n c slot least most)

pub run_ends : (n : ℕ) (c : Campaign) (slot : ℕ) (own : Option Command) (made : AcceptRun) (entry : Entry)
    → greatest_told c slot n ≡ Some entry → run_by n c slot own ≡ Ok (Some made) → Ends n c (slot + length made.commands)
run_ends n c slot own made entry told h =
    let p = passed_run n c slot own made h in
    subst (λ (cs : List Command). Ends n c (slot + length cs)) (sym p.commands) (run_ends_by n c slot own (greatest_told c slot n) entry p.low p.high told)

-- ---- counts and marks are kept

pub run_counts : (has : List Message) (c : Campaign) (made : Result (Option AcceptRun) ProposeFault) → CountsFrom has c → CountsFrom has (with_marks c made)
run_counts has c (Ok (Some made)) counts = counts
run_counts has c (Ok None) counts = counts
run_counts has c (Err fault) counts = counts

pub run_counts_all : (n : ℕ) (has : List Message) (c : Campaign) (made : Result (Option AcceptRun) ProposeFault) → CountsAll n has c → CountsAll n has (with_marks c made)
run_counts_all n has c (Ok (Some made)) all = record { places = all.places; counted = all.counted }
run_counts_all n has c (Ok None) all = all
run_counts_all n has c (Err fault) all = all

pub run_stays : (c : Campaign) (made : Result (Option AcceptRun) ProposeFault) → ((with_marks c made).ballot ≡ c.ballot) × ((with_marks c made).first ≡ c.first)
run_stays c (Ok (Some made)) = (refl, refl)
run_stays c (Ok None) = (refl, refl)
run_stays c (Err fault) = (refl, refl)

marks_each : (sent : List Message) (c : Campaign) (slot : ℕ) (commands : List Command) → c.first ≤ slot → slot + length commands ≤ c.first + WINDOW → MarksSent sent c
    → MarksSent (proposed c.ballot slot commands ++ sent) (record c { proposed = marked_places c.proposed (slot - c.first) (length commands) })
marks_each sent c slot [] low high marks = record { places = marks.places; all = marks.all; only = marks.only }
marks_each sent c slot (command ∷ more) low high marks =
    let one = mark_step sent c (record { ballot = c.ballot; slot = slot; command = command }) refl (low, omega (arith, high)) marks in
    let now : Campaign = record c { proposed = set c.proposed (slot - c.first) true } in
    let place : slot + 1 - c.first ≡ slot - c.first + 1 = omega (arith, low) in
    let rest = marks_each (accept c.ballot slot command ∷ sent) now (slot + 1) more (omega (arith, low)) (omega (arith, high)) one in
    subst (λ (s : List Message). MarksSent s (record c { proposed = marked_places c.proposed (slot - c.first) (length (command ∷ more)) }))
    (sym (append_assoc (proposed c.ballot (slot + 1) more) (accept c.ballot slot command ∷ []) sent))
    (subst (λ (p : ℕ). MarksSent (proposed c.ballot (slot + 1) more ++ accept c.ballot slot command ∷ sent) (record c { proposed = marked_places (set c.proposed (slot - c.first) true) p (length more) })) place rest)

pub run_marks : (n : ℕ) (sent : List Message) (c : Campaign) (slot : ℕ) (own : Option Command) (made : AcceptRun) → run_by n c slot own ≡ Ok (Some made) → MarksSent sent c
    → MarksSent (proposed made.ballot made.slot made.commands ++ sent) (with_marks c (Ok (Some made)))
run_marks n sent c slot own made h marks =
    let p = passed_run n c slot own made h in
    let count : length made.commands ≡ length (commands_at n c slot own) = ap length p.commands in
    let covered = all_covered n c slot own (greatest_told c slot n) p.high in
    let begins = p.begins in
    let low = p.low in
    subst (λ b. MarksSent (proposed b made.slot made.commands ++ sent) (with_marks c (Ok (Some made)))) (sym p.ballot)
    (marks_each sent c made.slot made.commands (omega (arith, begins, low)) (omega (arith, begins, count, covered)) marks)

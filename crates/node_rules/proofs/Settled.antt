-- After its close a call leaves nothing to propose.
use Rattle.std.proofs.Common.{◌≡◌, ℕ, ◌<◌, ◌≤◌, ◌+◌, ◌-◌, inl, inr, Bool, true, false, not, if◌then◌else◌, ◌&&◌, List, [], ◌∷◌, ◌++◌, Option, Some, None, Result, Ok, Err, refl, sym, ap, subst, ◌∙◌, arith, length, replicate, drop, reverse}
use Rattle.std.specs.Prelude.{nat_le, is_err, IsOk}
use Rattle.std.proofs.lemmas.List.{append-nil, length-reverse, drop_all}
use Rattle.paxos_wire.specs.declared.limits.TheConstants.{SLOTS, WINDOW}
use Rattle.paxos_wire.specs.declared.ballot.Ballot.{Ballot}
use Rattle.paxos_wire.specs.declared.message.Message.{Message as Wire}
use Rattle.paxos_wire.specs.declared.message.Message.TheVariants as frame
use Rattle.slot_log.specs.Slots.{Log, front, known_at}
use Rattle.slot_log.specs.declared.command.Command.{Command}
use Rattle.slot_log.specs.declared.slot_fault.SlotFault.{SlotFault}
use Rattle.slot_log.specs.declared.slot_fault.SlotFault.TheVariants.{Conflict as KnownOther}
use Rattle.protocol_model.specs.Sets.{In}
use Rattle.protocol_model.specs.Messages.{Message, Prepare, Accept, Accepted}
use Rattle.protocol_model.specs.CommandRuns.{proposed}
use Rattle.protocol_model.specs.Quorums.{IsChosenIn}
use Rattle.protocol_model.specs.Nodes.{Node}
use Rattle.protocol_model.specs.Arrivals.{Arrival}
use Rattle.protocol_model.specs.Worlds.{World, Reached, IsAfter}
use Rattle.proposer.specs.declared.accept_run.AcceptRun.{AcceptRun}
use Rattle.proposer.specs.declared.campaign.Campaign.{Campaign}
use Rattle.proposer.specs.declared.fault.ProposeFault.{ProposeFault}
use Rattle.proposer.specs.declared.fault.ProposeFault.TheVariants.{OutOfWindow}
use Rattle.proposer.specs.Campaigns.{has_quorum, leads, is_covered, is_proposed}
use Rattle.proposer.specs.CommandRuns.{commands_at, accept_run_of, run_by, with_marks, marked_run_from}
use Rattle.proposer.specs.Counted.{MarksSent}
use Rattle.proposer.proofs.SafeRuns.{PassedRun, passed_run}
use Rattle.learner.specs.declared.chosen.Chosen.{Chosen as Learnt}
use Rattle.learner.specs.Learning.{Learned, is_open, is_other, completes, answer_to, hearing, counting, knowing}
use Rattle.learner.specs.CommandRuns.{hearing_each, chosen_each, is_refused, answer_to_run, hearing_run}
use Rattle.learner.specs.Counted.{CountsFrom}
use Rattle.node_rules.specs.Standings.{Place, Standing, applied, front_of, with_stored, idle}
use Rattle.node_rules.specs.Sending.{Frame, to_others}
use Rattle.node_rules.specs.Turns.{Turn, Refusal, still, sending, joined, behind, and_then}
use Rattle.node_rules.specs.Applying.{passed, taking_all, scene_of, applying}
use Rattle.node_rules.specs.Learning.{learning, counting_votes}
use Rattle.protocol_model.specs.Votes.{command_run_at, taking_command_run}
use Rattle.node_rules.specs.Accepting.{voting}
use Rattle.node_rules.specs.Proposing.{own_value, proposing, closing_by, proposal_at, closing}
use Rattle.node_rules.specs.Given.{Given}
use Rattle.node_rules.specs.Being.{Campaigns, IsLearner}
use Rattle.node_rules.specs.Proposed.{IsSettled}
use Rattle.node_rules.specs.Rules.{asking}
use Rattle.node_rules.proofs.Results.{ok_is}
use Rattle.node_rules.proofs.Paths.{Hearing, Scope, dealer_in, Path, Goes, three_in}
use Rattle.learner.proofs.Kept.{open_means}
use Rattle.node_rules.proofs.Learning.{world_now}
use Rattle.node_rules.proofs.Asked.{asked_same}
use Rattle.protocol_model.proofs.Sets.{in_first}
use Rattle.node_rules.proofs.OwnRuns.{unmarked, in_proposed, at_slot, source_once}
use Rattle.node_rules.proofs.Electing.{covered}
use Rattle.node_rules.proofs.Closing.{IsMade, made_by, IsOwnRun, own_run, made_frames, standing_voted}
use Rattle.node_rules.proofs.Sourcing.{had_was_sent}

-- ---- a node's own vote is no quorum

-- of what was proposed just now no other node's answer is there
pub alone : (x : Scope) (came : List Arrival) (heard : Hearing) (upto : List Command) (t : Turn) (p : Path x came heard upto t) (ballot : Ballot) (first slot : ℕ) (command : Command) (messages : List Message)
    → In (Prepare ballot first) p.node.sent → ((other : Command) → In (Accept ballot slot other) p.node.sent → ⊥)
    → ((m : Message) → In m messages → In m p.node.has)
    → IsChosenIn x.place.nodes (Accepted x.place.node ballot slot command ∷ messages) ballot slot command → ⊥
alone x came heard upto t p ballot first slot command messages began once inside (quorum, most, answers) =
    x.given.one_node x.place.nodes x.place.node quorum (three_in x) (λ k below is. own_only k (answers k below is)) most
  where
    now : (later : World) × Reached (dealer_in x) x.place.nodes later × IsAfter x.world x.place.node (record { sent = p.sent; shown = p.shown; came = came }) p.node later
    now = world_now x came heard upto t p

    own_only : (k : ℕ) → In (Accepted k ballot slot command) (Accepted x.place.node ballot slot command ∷ messages) → k ≡ x.place.node
    own_only k (inl e) = cc
    own_only k (inr h) =
        let had : In (Accepted k ballot slot command) (now.0.nodes x.place.node).has =
        subst (λ (y : Node). In (Accepted k ballot slot command) y.has) (sym now.2.moved) (inside (Accepted k ballot slot command) h) in
        let ever : In (Accepted k ballot slot command) now.0.ever = had_was_sent (dealer_in x) x.place.nodes x.place.node now.0 (Accepted k ballot slot command) now.1 had in
        absurd (once command (subst (λ (y : Node). In (Accept ballot slot command) y.sent) now.2.moved
        (x.given.own_proposal (dealer_in x) x.place.nodes x.place.node now.0 ballot first slot command now.1
        (subst (λ (y : Node). In (Prepare ballot first) y.sent) (sym now.2.moved) began)
        (x.given.proposed (dealer_in x) x.place.nodes k now.0 ballot slot command now.1 ever))))

-- where a vote completes nothing it is counted or passed over, and nothing more is known
record PassesOne (l : Learned) (from : ℕ) (ballot : Ballot) (slot : ℕ) (command : Command) : Type 0 where
  pub answer : answer_to l from ballot slot command ≡ Ok None
  pub log : (hearing l from ballot slot command).log ≡ l.log

passes_one : (l : Learned) (from : ℕ) (ballot : Ballot) (slot : ℕ) (command : Command) → (is_open l.log slot ≡ true → completes l from ballot slot command ≡ true → ⊥)
    → PassesOne l from ballot slot command
passes_one l from ballot slot command not_done = by_test (is_open l.log slot) (completes l from ballot slot command) refl refl
  where
    other : Bool
    other = is_other (known_at l.log slot) command

    by_test : (a b : Bool) → is_open l.log slot ≡ a → completes l from ballot slot command ≡ b → PassesOne l from ballot slot command
    by_test false b ea eb = record {
      answer = ap (λ (y : Bool). if not y then Ok None else if not (completes l from ballot slot command) then Ok None else if other then Err KnownOther else Ok (Some (record { slot = slot; command = command }))) ea;
      log = ap (λ (y : Bool). (let k : Learned = if not y then l else if not (completes l from ballot slot command) then counting l from ballot slot command else if other then l else knowing (counting l from ballot slot command) slot command in k.log)) ea;
    }
    by_test true false ea eb = record {
      answer = (λ j. if not (ea j) then Ok None else if not (eb j) then Ok None else if other then Err KnownOther else Ok (Some (record { slot = slot; command = command })));
      log = (λ j. (let k : Learned = if not (ea j) then l else if not (eb j) then counting l from ballot slot command else if other then l else knowing (counting l from ballot slot command) slot command in k.log));
    }
    by_test true true ea eb = absurd (not_done ea eb)

-- with a vote of the node more the messages choose nothing at these slots
abbrev pub ChooseNothing : ℕ → List Message → ℕ → Ballot → ℕ → ℕ → Type 0
ChooseNothing n messages from ballot slot count =
    (k : ℕ) (command : Command) → slot ≤ k → k < slot + count → IsChosenIn n (Accepted from ballot k command ∷ messages) ballot k command → ⊥

one_over : (g : Given) (l : Learned) (messages : List Message) (from : ℕ) (ballot : Ballot) (slot : ℕ) (command : Command) → CountsFrom messages l
    → (IsChosenIn l.nodes (Accepted from ballot slot command ∷ messages) ballot slot command → ⊥) → PassesOne l from ballot slot command
one_over g l messages from ballot slot command counts nothing_chosen =
    passes_one l from ballot slot command (λ ahead done.
    let m : Message = Accepted from ballot slot command in
    nothing_chosen (g.completed (m ∷ messages) l from ballot slot command (g.more messages l m counts) (inl refl) (open_means l.log slot ahead) done))

-- nor with one for a slot below them
chooses_still : (n : ℕ) (messages : List Message) (from : ℕ) (ballot : Ballot) (slot : ℕ) (command : Command) (count : ℕ) → ChooseNothing n messages from ballot (slot + 1) count
    → ChooseNothing n (Accepted from ballot slot command ∷ messages) from ballot (slot + 1) count
chooses_still n messages from ballot slot command count before k c low high (quorum, most, votes) = before k c low high (quorum, most, λ voter below is. vote_of voter (votes voter below is))
  where
    vote_of : (voter : ℕ) → In (Accepted voter ballot k c) (Accepted from ballot k c ∷ Accepted from ballot slot command ∷ messages) → In (Accepted voter ballot k c) (Accepted from ballot k c ∷ messages)
    vote_of voter (inl e) = inl e
    vote_of voter (inr (inl e)) = absurd (let same : k ≡ slot = cc in omega (arith, same, low))
    vote_of voter (inr (inr h)) = inr h

each_over : (g : Given) (l : Learned) (messages : List Message) (from : ℕ) (ballot : Ballot) (slot : ℕ) (commands : List Command) → CountsFrom messages l
    → ChooseNothing l.nodes messages from ballot slot (length commands) → (hearing_each l from ballot slot commands).log ≡ l.log
unfolding hearing_each
each_over g l messages from ballot slot [] counts nothing_chosen = refl
each_over g l messages from ballot slot (command ∷ later) counts nothing_chosen =
    let m : Message = Accepted from ballot slot command in
    let stays : (hearing l from ballot slot command).nodes ≡ l.nodes = (g.nodes_stay l from ballot slot command).0 in
    each_over g (hearing l from ballot slot command) (m ∷ messages) from ballot (slot + 1) later (g.answer_counts (m ∷ messages) l from ballot slot command (inl refl) (g.more messages l m counts))
    (subst (λ (n : ℕ). ChooseNothing n (m ∷ messages) from ballot (slot + 1) (length later)) (sym stays)
    (chooses_still l.nodes messages from ballot slot command (length later) (λ k c low high. nothing_chosen k c (omega (arith, low)) (omega (arith, high)))))
    ∙ (let one = one_over g l messages from ballot slot command counts (nothing_chosen slot command (omega arith) (omega arith)) in one.log)

none_refused : (g : Given) (l : Learned) (messages : List Message) (from : ℕ) (ballot : Ballot) (slot : ℕ) (commands : List Command) → CountsFrom messages l
    → ChooseNothing l.nodes messages from ballot slot (length commands) → is_refused l from ballot slot commands ≡ false
unfolding is_refused
none_refused g l messages from ballot slot [] counts nothing_chosen = refl
none_refused g l messages from ballot slot (command ∷ later) counts nothing_chosen =
    let one = one_over g l messages from ballot slot command counts (nothing_chosen slot command (omega arith) (omega arith)) in
    ap (λ (r : Result (Option Learnt) SlotFault). if is_err r then true else is_refused l from ballot (slot + 1) later) one.answer
    ∙ none_refused g l messages from ballot (slot + 1) later counts (λ k c low high. nothing_chosen k c (omega (arith, low)) (omega (arith, high)))

-- votes for commands at slots that follow one another, which complete nothing
pub record PassesOver (l : Learned) (from : ℕ) (ballot : Ballot) (slot : ℕ) (commands : List Command) : Type 0 where
  pub ok : IsOk (answer_to_run l from ballot slot commands)
  pub log : (hearing_run l from ballot slot commands).log ≡ l.log

pub run_ok_if : (l : Learned) (from : ℕ) (ballot : Ballot) (slot : ℕ) (commands : List Command) → is_refused l from ballot slot commands ≡ false → IsOk (answer_to_run l from ballot slot commands)
run_ok_if l from ballot slot commands taken =
    subst (λ (b : Bool). let r : Result (List Bool) SlotFault = if b then Err KnownOther else Ok (chosen_each l from ballot slot commands ++ replicate (WINDOW - length commands) false) in IsOk r) (sym taken) refl

pub passes_over : (g : Given) (l : Learned) (messages : List Message) (from : ℕ) (ballot : Ballot) (slot : ℕ) (commands : List Command) → CountsFrom messages l
    → ChooseNothing l.nodes messages from ballot slot (length commands) → PassesOver l from ballot slot commands
passes_over g l messages from ballot slot commands counts nothing_chosen =
    let taken = none_refused g l messages from ballot slot commands counts nothing_chosen in
    record {
      ok = run_ok_if l from ballot slot commands taken;
      log = ap (λ (b : Bool). (let k : Learned = if b then l else hearing_each l from ballot slot commands in k.log)) taken
          ∙ each_over g l messages from ballot slot commands counts nothing_chosen;
    }

-- ---- nothing is left to propose

-- what is marked isn't proposed again
pub marked_none : (n : ℕ) (c : Campaign) (at : ℕ) (own : Option Command) → is_covered c.first at ≡ true → is_proposed c at ≡ true → run_by n c at own ≡ Ok None
marked_none n c at own covered marked = by_quorum (has_quorum n c)
  where
    by_quorum : (q : Bool) → (if not q then Ok None
        else if not (is_covered c.first at) then Err OutOfWindow
        else if is_proposed c at then Ok None
        else Ok (accept_run_of c at (commands_at n c at own))) ≡ Ok None
    by_quorum false = refl
    by_quorum true = λ j. if not (covered j) then Err OutOfWindow
        else if marked j then Ok None
        else Ok (accept_run_of c at (commands_at n c at own))

-- the marks stand at the slots of what is proposed
pub marked_at : (g : Given) (n : ℕ) (sent : List Message) (c : Campaign) (at : ℕ) (own : Option Command) (made : AcceptRun) → MarksSent sent c → run_by n c at own ≡ Ok (Some made)
    → made.ballot ≡ c.ballot → (k : ℕ) → made.slot ≤ k → k < made.slot + length made.commands → is_proposed (with_marks c (Ok (Some made))) k ≡ true
marked_at g n sent c at own made marks so ballot k low high =
    let new = g.proposal_marks n sent c at own made so marks in
    let here = at_slot made.ballot made.slot made.commands k low high in
    (new.all k here.0 (in_first (proposed made.ballot made.slot made.commands) sent (Accept c.ballot k here.0)
    (subst (λ (b : Ballot). In (Accept b k here.0) (proposed made.ballot made.slot made.commands)) ballot (in_proposed made.ballot made.slot made.commands (Accept made.ballot k here.0) here.1)))).1

-- ---- what is applied where no more is known

none_passed : (old new : Log) → new ≡ old → passed old new ≡ []
none_passed old new e =
    ap (λ (l : Log). drop (front old) (reverse l.below)) e
    ∙ (ap (λ (k : ℕ). drop k (reverse old.below)) (sym (length-reverse old.below)) ∙ drop_all (length (reverse old.below)) (reverse old.below) (omega arith))

pub applying_same : (place : Place) (new : Learned) (s : Standing) → new.log ≡ s.learned.log → applying place new s ≡ still (record s { learned = new })
unfolding taking_all
applying_same place new s e = λ j. record {
  after = record s { learned = new; pending = (taking_all place.setting s.sessions (none_passed s.learned.log new.log e j) (scene_of s)).pending };
  frames = [];
  shown = (taking_all place.setting s.sessions (none_passed s.learned.log new.log e j) (scene_of s)).shown;
  faults = [];
}

-- where it isn't refused, what was learned is applied
pub learning_ok : {A : Type 0} (place : Place) (answer : Result A SlotFault) (new : Learned) (s : Standing) → IsOk answer → learning place answer new s ≡ Ok (applying place new s)
learning_ok place (Ok a) new s ok = refl
learning_ok place (Err fault) new s ok = absurd (cc)

-- votes that complete nothing show nothing
pub counted_is : (place : Place) (from : ℕ) (ballot : Ballot) (slot : ℕ) (commands : List Command) (s : Standing) → PassesOver s.learned from ballot slot commands
    → counting_votes place from ballot slot commands s ≡ Ok (still (record s { learned = hearing_run s.learned from ballot slot commands }))
counted_is place from ballot slot commands s p =
    learning_ok place (answer_to_run s.learned from ballot slot commands) (hearing_run s.learned from ballot slot commands) s p.ok
    ∙ ap (λ (t : Turn). let r : Result Turn Refusal = Ok t in r) (applying_same place (hearing_run s.learned from ballot slot commands) s p.log)

-- ---- a proposal, as one turn

-- the standing once the proposal is voted for: marked, stored, and the own votes counted
abbrev pub standing_made : Place → Standing → Campaign → AcceptRun → Standing
standing_made place s c made = record (standing_voted s c made) { learned = hearing_run s.learned place.node made.ballot made.slot made.commands }

-- it goes to the others, and then the votes
abbrev pub turn_made : Place → Standing → Campaign → AcceptRun → Turn
turn_made place s c made = record { after = standing_made place s c made; frames = made_frames place made; shown = []; faults = [] }

-- commands that are taken whole are voted for, in one turn
pub voting_is : (place : Place) (ballot : Ballot) (slot : ℕ) (commands : List Command) (s : Standing) → command_run_at s.store ballot slot commands ≡ commands
    → PassesOver s.learned place.node ballot slot commands
    → voting place ballot slot commands s
    ≡ Ok (joined (sending (to_others place (frame.Accepted ballot slot commands)) (with_stored s (taking_command_run s.store ballot slot commands)))
    (still (record (with_stored s (taking_command_run s.store ballot slot commands)) { learned = hearing_run s.learned place.node ballot slot commands })))
voting_is place ballot slot commands s whole over =
    ap (λ (cs : List Command). behind (sending (to_others place (frame.Accepted ballot slot cs)) after) (counting_votes place place.node ballot slot cs after)) whole
    ∙ ap (λ (r : Result Turn Refusal). behind (sending (to_others place (frame.Accepted ballot slot commands)) after) r) (counted_is place place.node ballot slot commands after over)
  where
    after : Standing
    after = with_stored s (taking_command_run s.store ballot slot commands)

proposing_is : (place : Place) (made : AcceptRun) (s : Standing) → command_run_at s.store made.ballot made.slot made.commands ≡ made.commands
    → PassesOver s.learned place.node made.ballot made.slot made.commands
    → proposing place made s ≡ Ok (record {
      after = record (with_stored s (taking_command_run s.store made.ballot made.slot made.commands)) { learned = hearing_run s.learned place.node made.ballot made.slot made.commands };
      frames = made_frames place made;
      shown = [];
      faults = [];
    })
proposing_is place made s whole over =
    ap (λ (r : Result Turn Refusal). behind (sending (to_others place (frame.Accept made.ballot made.slot made.commands)) s) r) (voting_is place made.ballot made.slot made.commands s whole over)
    ∙ ap (λ (l : List Frame). let r : Result Turn Refusal = Ok (record {
      after = record (with_stored s (taking_command_run s.store made.ballot made.slot made.commands)) { learned = hearing_run s.learned place.node made.ballot made.slot made.commands };
      frames = to_others place (frame.Accept made.ballot made.slot made.commands) ++ l;
      shown = [];
      faults = [];
    }) in r) (append-nil (to_others place (frame.Accepted made.ballot made.slot made.commands)))

-- what the path of a proposal shows
pub record Fresh (place : Place) (s : Standing) (c : Campaign) (made : AcceptRun) : Type 0 where
  pub quorum : has_quorum place.nodes c ≡ true
  pub covered : is_covered c.first (front_of s) ≡ true
  pub marked : is_proposed (with_marks c (Ok (Some made))) (front_of s) ≡ true
  pub whole : command_run_at s.store made.ballot made.slot made.commands ≡ made.commands
  pub over : PassesOver s.learned place.node made.ballot made.slot made.commands

pub fresh : (x : Scope) (came : List Arrival) (heard : Hearing) (t : Turn) (p : Path x came heard (applied t.after) t) (c : Campaign) (made : AcceptRun) → IsMade x.place t.after c made
    → IsOwnRun x.place t.after p.node c made → Fresh x.place t.after c made
fresh x came heard t p c made is o = record {
  quorum = passed_tests.leads;
  covered = covered c.first (front_of t.after) passed_tests.low passed_tests.high;
  marked = marked_at x.given x.place.nodes p.node.sent c (front_of t.after) (own_value x.place t.after) made camp.marks is.made_so o.ballot (front_of t.after)
      (let at = o.slot in omega (arith, at)) (let at = o.slot in let some = o.least in omega (arith, at, some));
  whole = o.whole;
  over = passes_over x.given t.after.learned l.in_time x.place.node made.ballot made.slot made.commands l.counts nothing_chosen;
}
  where
    camp : Campaigns x.place.nodes x.place.node p.node c
    camp = o.camp

    l : IsLearner x.place.nodes p.node.has p.node.known t.after.learned
    l = p.knows.learner

    passed_tests : PassedRun x.place.nodes c (front_of t.after) (own_value x.place t.after) made
    passed_tests = passed_run x.place.nodes c (front_of t.after) (own_value x.place t.after) made is.made_so

    nothing_chosen : ChooseNothing t.after.learned.nodes p.knows.learner.in_time x.place.node made.ballot made.slot (length made.commands)
    nothing_chosen k command low high chosen =
        alone x came heard (applied t.after) t p made.ballot c.first k command p.knows.learner.in_time
        (subst (λ (b : Ballot). In (Prepare b c.first) p.node.sent) (sym o.ballot) camp.prepared)
        (source_once x.place.nodes p.node.has p.node.sent (own_value x.place t.after) made.ballot made.slot made.commands o.source k low high) p.knows.learner.came
        (subst (λ (n : ℕ). IsChosenIn n (Accepted x.place.node made.ballot k command ∷ p.knows.learner.in_time) made.ballot k command) p.knows.learner.nodes chosen)

pub made_turn : (place : Place) (s : Standing) (c : Campaign) (made : AcceptRun) → s.campaign ≡ Some c → Fresh place s c made
    → proposing place made (record s { campaign = marked_run_from s.campaign (Ok (Some made)) }) ≡ Ok (turn_made place s c made)
made_turn place s c made has f =
    ap (λ (y : Option Campaign). proposing place made (record s { campaign = marked_run_from y (Ok (Some made)) })) has
    ∙ proposing_is place made (record s { campaign = Some (with_marks c (Ok (Some made))) }) f.whole f.over

-- ---- nothing is left to propose

unled : (place : Place) (s : Standing) → IsSettled place (idle s)
unled place s leads_on = let clash : false ≡ true = leads_on in absurd (cc)

pub and_left : (a b : Bool) → a ≡ true → (a && b) ≡ false → b ≡ false
and_left true b e h = h
and_left false b e h = absurd (cc)

pub made_rests : (place : Place) (s : Standing) (c : Campaign) (made : AcceptRun) → Fresh place s c made → proposal_at place (standing_made place s c made) ≡ Ok None
made_rests place s c made f =
    ap (λ (l : Log). run_by place.nodes (with_marks c (Ok (Some made))) (front l) (own_value place (standing_made place s c made))) f.over.log
    ∙ marked_none place.nodes (with_marks c (Ok (Some made))) (front_of s) (own_value place (standing_made place s c made)) f.covered f.marked

made_settled : (place : Place) (s : Standing) (c : Campaign) (made : AcceptRun) → s.campaign ≡ Some c → (leads place.nodes s.campaign && nat_le SLOTS (front_of s)) ≡ false → Fresh place s c made
    → IsSettled place (standing_made place s c made)
made_settled place s c made has room f leads_on = (
  ap (λ (l : Log). nat_le SLOTS (front l)) f.over.log ∙ and_left (leads place.nodes s.campaign) (nat_le SLOTS (front_of s)) (ap (leads place.nodes) has ∙ f.quorum) room,
  made_rests place s c made f,
)

closed_by : (x : Scope) (came : List Arrival) (heard : Hearing) (t : Turn) (p : Path x came heard (applied t.after) t) (b : Bool) (r : Result (Option AcceptRun) ProposeFault) (c : Turn)
    → (leads x.place.nodes t.after.campaign && nat_le SLOTS (front_of t.after)) ≡ b → proposal_at x.place t.after ≡ r
    → (if b then Ok (still (idle t.after)) else closing_by x.place r (record t.after { campaign = marked_run_from t.after.campaign r })) ≡ Ok c → IsSettled x.place c.after
closed_by x came heard t p true r c eb er e = subst (λ (y : Turn). IsSettled x.place y.after) (ok_is (still (idle t.after)) c e) (unled x.place t.after)
closed_by x came heard t p false (Err fault) c eb er e =
    subst (λ (y : Turn). IsSettled x.place y.after) (ok_is (still (idle (record t.after { campaign = marked_run_from t.after.campaign (Err fault) }))) c e)
    (unled x.place (record t.after { campaign = marked_run_from t.after.campaign (Err fault) }))
closed_by x came heard t p false (Ok None) c eb er e =
    subst (λ (y : Turn). IsSettled x.place y.after) (ok_is (still (record t.after { campaign = marked_run_from t.after.campaign (Ok None) })) c e)
    (subst (λ (y : Option Campaign). IsSettled x.place (record t.after { campaign = y })) (sym (unmarked t.after.campaign))
    (λ leads_on. (and_left (leads x.place.nodes t.after.campaign) (nat_le SLOTS (front_of t.after)) leads_on eb, er)))
closed_by x came heard t p false (Ok (Some made)) c eb er e = by_campaign (made_by x.place t.after made t.after.campaign refl er)
  where
    by_campaign : (found : (f : Campaign) × IsMade x.place t.after f made) → IsSettled x.place c.after
    by_campaign (k, is) =
        let f = fresh x came heard t p k made is (own_run x came heard t p k made is) in
        subst (λ (y : Turn). IsSettled x.place y.after) (ok_is (turn_made x.place t.after k made) c (sym (made_turn x.place t.after k made is.has f) ∙ e))
        (made_settled x.place t.after k made is.has eb f)

-- after the close of a call nothing is left to propose
pub closed : (x : Scope) (came : List Arrival) (heard : Hearing) (t : Turn) (p : Path x came heard (applied t.after) t) (c : Turn) → closing x.place t.after ≡ Ok c → IsSettled x.place c.after
closed x came heard t p c e =
    closed_by x came heard t p (leads x.place.nodes t.after.campaign && nat_le SLOTS (front_of t.after)) (proposal_at x.place t.after) c refl refl e

-- ---- whole calls

pub behind_ok : (t : Turn) (r : Result Turn Refusal) (c : Turn) → behind t r ≡ Ok c → (u : Turn) × (r ≡ Ok u) × (c.after ≡ u.after)
behind_ok t (Ok u) c e = (u, refl, ap (λ (y : Turn). y.after) (sym (ok_is (joined t u) c e)))
behind_ok t (Err r) c e = absurd (cc)

-- a stage, and then the close
pub then_closed : (x : Scope) (came : List Arrival) (heard : Hearing) (r : Result Turn Refusal) (turn : Turn) → Goes x came heard r → and_then r (closing x.place) ≡ Ok turn
    → IsSettled x.place turn.after
then_closed x came heard (Err e) turn goes h = absurd (cc)
then_closed x came heard (Ok u) turn goes h =
    let b = behind_ok u (closing x.place u.after) turn h in
    subst (IsSettled x.place) (sym b.2) (closed x came heard u goes b.0 b.1)

-- a stage, the close, and what is asked for then
pub asked_closed : (x : Scope) (came : List Arrival) (heard : Hearing) (from : ℕ) (w : Wire) (r : Result Turn Refusal) (turn : Turn) → Goes x came heard r
    → and_then (and_then r (closing x.place)) (λ closed. Ok (asking from w closed)) ≡ Ok turn → IsSettled x.place turn.after
asked_closed x came heard from w r turn goes h = by_close (and_then r (closing x.place)) refl h
  where
    by_close : (c : Result Turn Refusal) → and_then r (closing x.place) ≡ c → and_then c (λ closed. Ok (asking from w closed)) ≡ Ok turn → IsSettled x.place turn.after
    by_close (Err e) ec k = absurd (cc)
    by_close (Ok c) ec k =
        subst (IsSettled x.place) (sym (asked_same from w c.after) ∙ ap (λ (y : Turn). y.after) (ok_is (joined c (asking from w c.after)) turn k))
        (then_closed x came heard r c goes ec)

-- ---- what a close comes to

-- the node gives its ballot up, or rests, or proposes
pub data Closes (place : Place) (s : Standing) (node : Node) (c : Turn) : Type 0 where
  gives_up : c ≡ still (idle s) → Closes place s node c
  rests : c ≡ still s → Closes place s node c
  makes : (k : Campaign) (made : AcceptRun) → IsMade place s k made → IsOwnRun place s node k made → Fresh place s k made → c ≡ turn_made place s k made → Closes place s node c

closes_by : (x : Scope) (came : List Arrival) (heard : Hearing) (t : Turn) (p : Path x came heard (applied t.after) t) (b : Bool) (r : Result (Option AcceptRun) ProposeFault) (c : Turn)
    → proposal_at x.place t.after ≡ r
    → (if b then Ok (still (idle t.after)) else closing_by x.place r (record t.after { campaign = marked_run_from t.after.campaign r })) ≡ Ok c → Closes x.place t.after p.node c
closes_by x came heard t p true r c er e = gives_up (sym (ok_is (still (idle t.after)) c e))
closes_by x came heard t p false (Err fault) c er e = gives_up (sym (ok_is (still (idle t.after)) c e))
closes_by x came heard t p false (Ok None) c er e =
    rests (sym (ok_is (still (record t.after { campaign = marked_run_from t.after.campaign (Ok None) })) c e) ∙ ap (λ (y : Option Campaign). still (record t.after { campaign = y })) (unmarked t.after.campaign))
closes_by x came heard t p false (Ok (Some made)) c er e = by_campaign (made_by x.place t.after made t.after.campaign refl er)
  where
    by_campaign : (found : (f : Campaign) × IsMade x.place t.after f made) → Closes x.place t.after p.node c
    by_campaign (k, is) =
        let o = own_run x came heard t p k made is in
        let f = fresh x came heard t p k made is o in
        makes k made is o f (sym (ok_is (turn_made x.place t.after k made) c (sym (made_turn x.place t.after k made is.has f) ∙ e)))

pub closes : (x : Scope) (came : List Arrival) (heard : Hearing) (t : Turn) (p : Path x came heard (applied t.after) t) (c : Turn) → closing x.place t.after ≡ Ok c → Closes x.place t.after p.node c
closes x came heard t p c e = closes_by x came heard t p (leads x.place.nodes t.after.campaign && nat_le SLOTS (front_of t.after)) (proposal_at x.place t.after) c refl e

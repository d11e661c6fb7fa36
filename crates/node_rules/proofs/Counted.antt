-- What a node proposes: its own vote for it is counted, and it is what was told, or the node's own.
use Rattle.std.proofs.Common.{◌≡◌, ℕ, zero, suc, ◌<◌, ◌≤◌, ◌⊎◌, ◌+◌, ◌-◌, inl, inr, Bool, true, false, if◌then◌else◌, List, [], ◌∷◌, ◌++◌, Option, Some, None, Result, Ok, Err, refl, sym, ap, subst, ◌∙◌, arith, length}
use Rattle.std.specs.Prelude.{min}
use Rattle.std.proofs.lemmas.List.{append-nil}
use Rattle.paxos_wire.specs.declared.limits.TheConstants.{SLOTS, WINDOW}
use Rattle.paxos_wire.specs.declared.ballot.Ballot.{Ballot}
use Rattle.paxos_wire.specs.declared.message.Message.{Message as Wire}
use Rattle.paxos_wire.specs.declared.message.Message.TheVariants as frame
use Rattle.slot_log.specs.Slots.{Log, front, known_at}
use Rattle.slot_log.specs.declared.command.Command.{Command}
use Rattle.protocol_model.specs.Sets.{In}
use Rattle.protocol_model.specs.Ballots.{Below}
use Rattle.protocol_model.specs.Messages.{Message, Prepare, Accept, Accepted}
use Rattle.protocol_model.specs.Frames.{carried, proposals, answers as votes_for}
use Rattle.protocol_model.specs.CommandRuns.{MayProposeEach}
use Rattle.protocol_model.specs.Quorums.{IsFree}
use Rattle.paxos_wire.specs.declared.entry.Entry.{Entry}
use Rattle.protocol_model.specs.Nodes.{Node}
use Rattle.protocol_model.specs.Arrivals.{Arrival}
use Rattle.protocol_model.specs.Worlds.{World}
use Rattle.paxos_wire.specs.Order.{is_below}
use Rattle.proposer.specs.declared.campaign.Campaign.{Campaign}
use Rattle.proposer.specs.declared.accept_run.AcceptRun.{AcceptRun}
use Rattle.proposer.specs.Campaigns.{next_ballot, has_quorum, greatest_told}
use Rattle.proposer.specs.CommandRuns.{alone, told_commands, commands_of, run_by, with_marks}
use Rattle.proposer.specs.CommandRunLaws.{IsAlone, IsSafeCommandRun, Ends}
use Rattle.proposer.specs.Counted.{CountsFrom, MarksSent}
use Rattle.proposer.proofs.SafeRuns.{PassedRun, passed_run}
use Rattle.learner.specs.Learning.{answer_to_chosen, believing as with_chosen}
use Rattle.learner.specs.CommandRuns.{answer_to_run, hearing_run}
use Rattle.learner.specs.Counted.{IsOpen, CountsAll}
use Rattle.seat_session.specs.Session.{Standing as Talk}
use Rattle.node_rules.specs.Standings.{Place, Standing, applied, front_of}
use Rattle.node_rules.specs.Sending.{Frame, one, to_others}
use Rattle.node_rules.specs.Turns.{Turn, Refusal, Spent, still, joined, behind}
use Rattle.node_rules.specs.Learning.{comes_to_window, told_of, telling_from, next_window, telling}
use Rattle.node_rules.specs.Accepting.{preparing}
use Rattle.node_rules.specs.Proposing.{greatest_seen, is_over, is_spent, beginning, own_value}
use Rattle.node_rules.specs.Seats.{session_at, with_session, connecting, dropping, left, is_others, forwarding, HearsPiece}
use Rattle.node_rules.specs.Calls.{Call, Start, Tick, Away, Line, Connect, Drop, Stop}
use Rattle.node_rules.specs.Calls as call
use Rattle.node_rules.specs.Rules.{seeing, taking, asking, stopping, IsTurnUp, IsTurnBy}
use Rattle.node_rules.specs.Being.{Campaigns, IsLearner}
use Rattle.node_rules.specs.Called.{Comes, IsSaid}
use Rattle.node_rules.specs.Given.{Given}
use Rattle.node_rules.specs.Sound.{Stands}
use Rattle.node_rules.specs.Outcomes.{IsAnswered}
use Rattle.node_rules.specs.LawsAnswers.{asks_if, AnswersPrepare, AnswersAccept, acts_in, forwards}
use Rattle.node_rules.specs.LawsAnswers as answers
use Rattle.node_rules.specs.LawsVotes.{OwnVotesAreInTime, RefusedBallotsEnd}
use Rattle.node_rules.specs.LawsRuns.{AreGreatestTold, EndsAt, IsProposal, CommandRunsAreTold}
use Rattle.protocol_model.proofs.Sets.{in_split}
use Rattle.node_rules.proofs.OwnRuns.{answer_of}
use Rattle.node_rules.proofs.Sent.{sent_by_chain}
use Rattle.node_rules.proofs.Carrying.{in_to}
use Rattle.node_rules.proofs.Paths.{Hearing, Scope, dealer_in, first_in, Path}
use Rattle.node_rules.proofs.Results.{ok_is, ok_not}
use Rattle.node_rules.proofs.Closing.{campaigns_of, IsMade, IsOwnRun, own_run}
use Rattle.node_rules.proofs.Settled.{Fresh, standing_made}
use Rattle.node_rules.proofs.Counting.{GrowsByEach, votes_grow, answers_had, had_in_time}
use Rattle.node_rules.proofs.Resting.{Closed, rests, proposes}
use Rattle.node_rules.proofs.Led.{tick_splits, order_turn, piece_splits, frame_turn}
use Rattle.node_rules.proofs.Noting.{played_for}
use Rattle.node_rules.proofs.Asked.{question, asked_same}
use Rattle.node_rules.proofs.Answered.{prepare_answer, learned_frames, chosen_frames, accept_answer, answers_frames}

-- ---- frames without a proposal

abbrev ProposesNothing : List Frame → Type 0
ProposesNothing frames = (f : Frame) → In f frames → (ballot : Ballot) (slot : ℕ) (commands : List Command) → f.message ≡ frame.Accept ballot slot commands → ⊥

-- what isn't one
abbrev IsOther : Wire → Type 0
IsOther w = (ballot : Ballot) (slot : ℕ) (commands : List Command) → w ≡ frame.Accept ballot slot commands → ⊥

nothing_at_all : ProposesNothing []
nothing_at_all f h b k c e = h

by_one : (to : ℕ) (w : Wire) → IsOther w → ProposesNothing (one to w)
by_one to w other f (inl same) b k c e = other b k c (sym (ap (λ (x : Frame). x.message) same) ∙ e)
by_one to w other f (inr none) b k c e = none

by_others : (place : Place) (w : Wire) → IsOther w → ProposesNothing (to_others place w)
by_others place w other f h b k c e = other b k c (sym (in_to place.nodes place.nodes place.node w f (omega arith) h).2 ∙ e)

by_both : (fs gs : List Frame) → ProposesNothing fs → ProposesNothing gs → ProposesNothing (fs ++ gs)
by_both fs gs a b f h ballot slot command e = elim (in_split fs gs f h) [ inl x ↦ a f x ballot slot command e | inr x ↦ b f x ballot slot command e ]

by_same : (fs gs : List Frame) → fs ≡ gs → ProposesNothing gs → ProposesNothing fs
by_same fs gs e none = subst ProposesNothing (sym e) none

by_asks : (b : Bool) (to slot : ℕ) → ProposesNothing (asks_if b to slot)
by_asks true to slot = by_one to (frame.Ask slot) (λ b k c e. cc)
by_asks false to slot = nothing_at_all

by_told : (to slot : ℕ) (known : Option Command) → ProposesNothing (told_of to slot known)
by_told to slot None = nothing_at_all
by_told to slot (Some command) = by_one to (frame.Chosen slot command) (λ b k c e. cc)

by_telling : (log : Log) (to slot k : ℕ) → ProposesNothing (telling_from log to slot k)
unfolding telling_from
by_telling log to slot zero = nothing_at_all
by_telling log to slot (suc k) = by_both (told_of to slot (known_at log slot)) (telling_from log to (slot + 1) k) (by_told to slot (known_at log slot)) (by_telling log to (slot + 1) k)

by_forward : (place : Place) (promise : Ballot) (act : Command) (b : Bool) → ProposesNothing (if b then one promise.node (frame.Forward act) else [])
by_forward place promise act true = by_one promise.node (frame.Forward act) (λ b k c e. cc)
by_forward place promise act false = nothing_at_all

by_forwards : (place : Place) (promise : Ballot) (acts : List Command) → ProposesNothing (forwards place promise acts)
by_forwards place promise [] = nothing_at_all
by_forwards place promise (act ∷ acts) =
    by_both (if is_others place promise then one promise.node (frame.Forward act) else []) (forwards place promise acts) (by_forward place promise act (is_others place promise)) (by_forwards place promise acts)

-- ---- the rules of messages propose nothing

asking_frames : (from : ℕ) (message : Wire) (s : Standing) → ProposesNothing (asking from message s).frames
asking_frames from message s = elim (question from message s) [
  | inl e ↦ subst (λ (t : Turn). ProposesNothing t.frames) (sym e) nothing_at_all
  | inr e ↦ subst (λ (t : Turn). ProposesNothing t.frames) (sym e) (by_one from (frame.Ask (front_of s)) (λ b k c q. cc))
]

of_prepare : (s : Standing) (from : ℕ) (ballot : Ballot) (slot : ℕ) (frames : List Frame) → AnswersPrepare s.store from ballot slot frames → ProposesNothing frames
of_prepare s from ballot slot frames (answers.promises told above tells e) = by_same frames (one from (frame.Promise ballot slot told)) e (by_one from (frame.Promise ballot slot told) (λ b k c q. cc))
of_prepare s from ballot slot frames (answers.AnswersPrepare.refuses low e) =
    by_same frames (one from (frame.Refuse ballot slot s.store.promise)) e (by_one from (frame.Refuse ballot slot s.store.promise) (λ b k c q. cc))

of_accept : (place : Place) (s : Standing) (from : ℕ) (ballot : Ballot) (slot : ℕ) (commands : List Command) (frames : List Frame) → AnswersAccept place s.store from ballot slot commands frames → ProposesNothing frames
of_accept place s from ballot slot commands frames (answers.accepts above e) = by_same frames _ e (by_others place _ (λ b k c q. cc))
of_accept place s from ballot slot commands frames (answers.AnswersAccept.refuses low e) =
    by_same frames (one from (frame.Refuse ballot slot s.store.promise)) e (by_one from (frame.Refuse ballot slot s.store.promise) (λ b k c q. cc))

message_frames : (place : Place) (s : Standing) (from : ℕ) (message : Wire) (first : Turn) → taking place from message (seeing message s) ≡ Ok first → ProposesNothing first.frames
message_frames place s from (frame.Prepare ballot slot) first is =
    let s0 : Standing = seeing (frame.Prepare ballot slot) s in
    by_same first.frames (preparing from ballot slot s0).frames (ap (λ (t : Turn). t.frames) (sym (ok_is (preparing from ballot slot s0) first is)))
    (of_prepare s0 from ballot slot (preparing from ballot slot s0).frames (prepare_answer place from ballot slot s0 (is_below s0.store.promise ballot) refl))
message_frames place s from (frame.Promise ballot slot told) first is = by_same first.frames [] (ap (λ (t : Turn). t.frames) (sym (ok_is _ first is))) nothing_at_all
message_frames place s from (frame.Refuse ballot slot promised) first is = by_same first.frames [] (ap (λ (t : Turn). t.frames) (sym (ok_is _ first is))) nothing_at_all
message_frames place s from (frame.Accept ballot slot commands) first is =
    let s0 : Standing = seeing (frame.Accept ballot slot commands) s in
    of_accept place s0 from ballot slot commands first.frames (accept_answer place from ballot slot commands s0 first (is_below ballot s0.store.promise) refl is)
message_frames place s from (frame.Accepted ballot slot commands) first is =
    let s0 : Standing = seeing (frame.Accepted ballot slot commands) s in
    by_same first.frames [] (learned_frames place (answer_to_run s0.learned from ballot slot commands) (hearing_run s0.learned from ballot slot commands) s0 first is) nothing_at_all
message_frames place s from (frame.Chosen slot command) first is =
    let s0 : Standing = seeing (frame.Chosen slot command) s in
    by_same first.frames (asks_if (comes_to_window (front_of s) (front_of first.after)) from (front_of first.after))
    (chosen_frames place (answer_to_chosen s0.learned.log slot command) (with_chosen s0.learned slot command) s0 from first is)
    (by_asks (comes_to_window (front_of s) (front_of first.after)) from (front_of first.after))
message_frames place s from (frame.Ask slot) first is =
    by_same first.frames (telling from slot (seeing (frame.Ask slot) s)).frames (ap (λ (t : Turn). t.frames) (sym (ok_is (telling from slot (seeing (frame.Ask slot) s)) first is)))
    (by_telling s.learned.log from slot (min (front_of s) (next_window slot) - slot))
message_frames place s from (frame.Forward command) first is = by_same first.frames [] (ap (λ (t : Turn). t.frames) (sym (ok_is _ first is))) nothing_at_all

tick_frames : (place : Place) (s : Standing) (first : Turn) (over spent : Bool)
    → (if over then Ok (still s) else if spent then Err Spent else Ok (beginning place (next_ballot place.node (greatest_seen s)) s)) ≡ Ok first → ProposesNothing first.frames
tick_frames place s first true spent is = by_same first.frames [] (ap (λ (t : Turn). t.frames) (sym (ok_is (still s) first is))) nothing_at_all
tick_frames place s first false true is = absurd (ok_not first Spent (sym is))
tick_frames place s first false false is =
    by_same first.frames _ (ap (λ (t : Turn). t.frames) (sym (ok_is (beginning place (next_ballot place.node (greatest_seen s)) s) first is)))
    (by_others place (frame.Prepare (next_ballot place.node (greatest_seen s)) (front_of s)) (λ b k c e. cc))

heard_frames : (place : Place) (s : Standing) (seat : ℕ) (bytes : List ℕ) (heard : Turn) (session : Option Talk) → HearsPiece place seat bytes session s heard → ProposesNothing heard.frames
heard_frames place s seat bytes heard None hears = by_same heard.frames [] (ap (λ (t : Turn). t.frames) hears) nothing_at_all
heard_frames place s seat bytes heard (Some old) (said, new, drains, same) =
    by_same heard.frames (forwards place s.store.promise (acts_in said))
    (ap (λ (t : Turn). t.frames) same ∙ answers_frames place seat said (still (with_session s seat (left new)))) (by_forwards place s.store.promise (acts_in said))

-- ---- a proposal is the close's, and its own vote is counted

-- the frame that says it
same_ballot : (b : Ballot) (first : ℕ) (commands : List Command) (ballot : Ballot) (slot : ℕ) (command : Command) → In (Accept ballot slot command) (proposals b first commands) → b ≡ ballot
same_ballot b first [] ballot slot command h = absurd h
same_ballot b first (other ∷ more) ballot slot command (inl e) = cc
same_ballot b first (other ∷ more) ballot slot command (inr h) = same_ballot b (first + 1) more ballot slot command h

no_proposal : (i : ℕ) (b : Ballot) (first : ℕ) (commands : List Command) (ballot : Ballot) (slot : ℕ) (command : Command) → In (Accept ballot slot command) (votes_for i b first commands) → ⊥
no_proposal i b first [] ballot slot command h = h
no_proposal i b first (other ∷ more) ballot slot command (inl e) = cc
no_proposal i b first (other ∷ more) ballot slot command (inr h) = no_proposal i b (first + 1) more ballot slot command h

-- a frame's proposals, among which this is
abbrev IsAmong : ℕ → Wire → Ballot → ℕ → Command → Type 0
IsAmong i w ballot slot command = (first : ℕ) × (commands : List Command) × (w ≡ frame.Accept ballot first commands) × In (Accept ballot slot command) (proposals ballot first commands)

accept_in : (i : ℕ) (w : Wire) (ballot : Ballot) (slot : ℕ) (command : Command) → In (Accept ballot slot command) (carried i w) → IsAmong i w ballot slot command
accept_in i (frame.Prepare b k) ballot slot command (inl e) = absurd (cc)
accept_in i (frame.Prepare b k) ballot slot command (inr h) = absurd h
accept_in i (frame.Promise b k told) ballot slot command (inl e) = absurd (cc)
accept_in i (frame.Promise b k told) ballot slot command (inr h) = absurd h
accept_in i (frame.Refuse b k promised) ballot slot command (inl e) = absurd (cc)
accept_in i (frame.Refuse b k promised) ballot slot command (inr h) = absurd h
accept_in i (frame.Accept b k commands) ballot slot command h =
    let same = same_ballot b k commands ballot slot command h in
    (k, commands, ap (λ (y : Ballot). frame.Accept y k commands) same, subst (λ (y : Ballot). In (Accept ballot slot command) (proposals y k commands)) same h)
accept_in i (frame.Accepted b k commands) ballot slot command h = absurd (no_proposal i b k commands ballot slot command h)
accept_in i (frame.Chosen k c) ballot slot command (inl e) = absurd (cc)
accept_in i (frame.Chosen k c) ballot slot command (inr h) = absurd h
accept_in i (frame.Ask k) ballot slot command (inl e) = absurd (cc)
accept_in i (frame.Ask k) ballot slot command (inr h) = absurd h
accept_in i (frame.Forward c) ballot slot command (inl e) = absurd (cc)
accept_in i (frame.Forward c) ballot slot command (inr h) = absurd h

same_accept : (a b : Ballot) (k l : ℕ) (c d : List Command) → frame.Accept a k c ≡ frame.Accept b l d → (a ≡ b) × (k ≡ l) × (c ≡ d)
same_accept a b k l c d e = ((let s : a ≡ b = cc in s), (let s : k ≡ l = cc in s), (let s : c ≡ d = cc in s))

-- what the learner then counts, what the node leads, and what made it
pub record OwnProposal (place : Place) (old : Node) (s : Standing) (ballot : Ballot) (slot : ℕ) (commands : List Command) : Type 0 where
  pub at_front : slot ≡ front_of s
  pub slots : slot + length commands ≤ SLOTS
  pub came : List Message
  pub all : CountsAll came s.learned
  pub has_votes : (m : Message) → In m (votes_for place.node ballot slot commands) → In m came
  -- the campaign before it, whose marks stand for proposals of calls before
  pub campaign : Campaign
  pub made_so : run_by place.nodes campaign (front_of s) (own_value place s) ≡ Ok (Some (record { ballot = ballot; slot = slot; commands = commands }))
  pub leads : s.campaign ≡ Some (with_marks campaign (Ok (Some (record { ballot = ballot; slot = slot; commands = commands }))))
  pub of_ballot : ballot ≡ campaign.ballot
  pub sent : List Message
  pub marks : MarksSent sent campaign
  pub before : (b : Ballot) (k : ℕ) (c : Command) → In (Accept b k c) sent → In (Accept b k c) old.sent

-- a path that proposed nothing has no proposals but those of the calls before
old_proposals : (x : Scope) (came : List Arrival) (heard : Hearing) (t : Turn) (p : Path x came heard (applied t.after) t) → ProposesNothing t.frames
    → (b : Ballot) (k : ℕ) (c : Command) → In (Accept b k c) p.node.sent → In (Accept b k c) (first_in x).sent
old_proposals x came heard t p none b k c h =
    elim (sent_by_chain (dealer_in x) x.place.nodes x.place.node x.world.ever (first_in x) (record { sent = p.sent; shown = p.shown; came = came }) p.node (Accept b k c) p.chain h) [
      | inl now ↦ elim (let all = p.all in all.covers (Accept b k c) now) [
        | inl note ↦ absurd note
        | inr said ↦ (let f = said.1.0 in
            let a = accept_in x.place.node f.message b k c said.1.3 in absurd (none f said.1.1 b a.0 a.1 a.2))
      ]
      | inr old ↦ old
    ]

closed_own : (x : Scope) (came : List Arrival) (heard : Hearing) (t : Turn) (p : Path x came heard (applied t.after) t) (c : Turn) → ProposesNothing t.frames → Closed x.place t.after c
    → (f : Frame) → In f c.frames → (ballot : Ballot) (slot : ℕ) (commands : List Command) → f.message ≡ frame.Accept ballot slot commands
    → OwnProposal x.place (first_in x) c.after ballot slot commands
closed_own x came heard t p c none (rests campaign e) f h ballot slot commands is = absurd (subst (λ (l : List Frame). In f l) (ap (λ (u : Turn). u.frames) e) h)
closed_own x came heard t p c none (proposes o) f h ballot slot commands is =
    subst (λ (y : Standing). OwnProposal x.place (first_in x) y ballot slot commands) (sym (ap (λ (u : Turn). u.after) o.turn_is))
    (subst (λ (m : AcceptRun). OwnProposal x.place (first_in x) (standing_made x.place t.after o.campaign o.made) m.ballot m.slot m.commands) same own)
  where
    accept : Wire
    accept = (let made = o.made in frame.Accept made.ballot made.slot made.commands)

    vote : Wire
    vote = (let made = o.made in frame.Accepted made.ballot made.slot made.commands)

    made_is : (made : AcceptRun) → frame.Accept made.ballot made.slot made.commands ≡ frame.Accept ballot slot commands → made ≡ record { ballot = ballot; slot = slot; commands = commands }
    made_is made e = let a = same_accept made.ballot ballot made.slot slot made.commands commands e in λ j. record { ballot = a.0 j; slot = a.1 j; commands = a.2 j }

    no_vote : (made : AcceptRun) → frame.Accepted made.ballot made.slot made.commands ≡ frame.Accept ballot slot commands → ⊥
    no_vote made e = cc

    same : o.made ≡ record { ballot = ballot; slot = slot; commands = commands }
    same = elim (in_split (to_others x.place accept) (to_others x.place vote) f (subst (λ (l : List Frame). In f l) (ap (λ (u : Turn). u.frames) o.turn_is) h)) [
      | inl first ↦ made_is o.made (sym (in_to x.place.nodes x.place.nodes x.place.node accept f (omega arith) first).2 ∙ is)
      | inr later ↦ absurd (no_vote o.made (sym (in_to x.place.nodes x.place.nodes x.place.node vote f (omega arith) later).2 ∙ is))
    ]

    -- by its parts, the proposal
    own_by : (k : Campaign) (made : AcceptRun) → IsMade x.place t.after k made → Fresh x.place t.after k made → front_of t.after < SLOTS
        → OwnProposal x.place (first_in x) (standing_made x.place t.after k made) made.ballot made.slot made.commands
    own_by k made has fresh left = record {
      at_front = r.slot ∙ sym (ap front fresh.over.log);
      slots = r.slots left;
      came = grows.grows.more;
      all = (let counts = grows.grows.counts in counts.counts_all);
      has_votes = answers_had x.given p.knows.learner.in_time t.after.learned (hearing_run t.after.learned x.place.node made.ballot made.slot made.commands) x.place.node made.ballot made.slot made.commands grows are_ahead;
      campaign = k;
      made_so = ap (λ (l : Log). run_by x.place.nodes k (front l) (own_value x.place (record t.after { learned = record t.after.learned { log = l } }))) fresh.over.log ∙ has.made_so;
      leads = refl;
      of_ballot = r.ballot;
      sent = p.node.sent;
      marks = (let camp = r.camp in camp.marks);
      before = old_proposals x came heard t p none;
    }
      where
        r : IsOwnRun x.place t.after p.node k made
        r = own_run x came heard t p k made has

        l : IsLearner x.place.nodes p.node.has p.node.known t.after.learned
        l = p.knows.learner

        grows : GrowsByEach p.knows.learner.in_time t.after.learned (hearing_run t.after.learned x.place.node made.ballot made.slot made.commands) x.place.node made.ballot made.slot made.commands
        grows = votes_grow x.given p.knows.learner.in_time t.after.learned x.place.node made.ballot made.slot made.commands p.knows.learner.log
            (subst (λ (n : ℕ). x.place.node < n) (sym p.knows.learner.nodes) x.is_place.node) r.most fresh.over.ok
            (record { counts_from = p.knows.learner.counts; counts_all = p.knows.learner.counts_all; knows_chosen = p.knows.learner.knows_chosen })

        are_ahead : (k : ℕ) → made.slot ≤ k → k < made.slot + length made.commands → IsOpen t.after.learned.log k
        are_ahead k low high =
            let slot_is = r.slot in
            let most = r.most in
            let end = r.slots left in
            record { reached = omega (arith, slot_is, low); within = omega (arith, slot_is, most, high); is_slot = omega (arith, end, high) }

    own : (let made = o.made in OwnProposal x.place (first_in x) (standing_made x.place t.after o.campaign o.made) made.ballot made.slot made.commands)
    own = own_by o.campaign o.made o.is o.fresh o.left

-- a proposal among the frames of a rule, its close and a question
whole_own : (x : Scope) (came : List Arrival) (heard : Hearing) (first : Turn) (p : Path x came heard (applied first.after) first) (c : Turn) (last : List Frame) → Closed x.place first.after c
    → ProposesNothing first.frames → ProposesNothing last → (frames : List Frame) → frames ≡ (first.frames ++ c.frames) ++ last
    → (f : Frame) → In f frames → (ballot : Ballot) (slot : ℕ) (commands : List Command) → f.message ≡ frame.Accept ballot slot commands
    → OwnProposal x.place (first_in x) c.after ballot slot commands
whole_own x came heard first p c last closed none_first none_last frames e f inside ballot slot commands is =
    elim (in_split (first.frames ++ c.frames) last f (subst (λ (l : List Frame). In f l) e inside)) [
      | inl a ↦ elim (in_split first.frames c.frames f a) [
        | inl b ↦ absurd (none_first f b ballot slot commands is)
        | inr b ↦ closed_own x came heard first p c none_first closed f b ballot slot commands is
      ]
      | inr a ↦ absurd (none_last f a ballot slot commands is)
    ]

nothing_sent : (frames : List Frame) (f : Frame) → frames ≡ [] → In f frames → ⊥
nothing_sent frames f e inside = subst (λ (l : List Frame). In f l) e inside

own_up : (g : Given) (own : ℕ → Command → Bool) (place : Place) (world : World) (s : Standing) (called : Call) (turn : Turn) (st : Stands own place world s) → s.up ≡ true
    → Comes place world.ever called → IsTurnUp place s called (Ok turn) → (f : Frame) → In f turn.frames
    → (ballot : Ballot) (slot : ℕ) (commands : List Command) → f.message ≡ frame.Accept ballot slot commands → OwnProposal place (world.nodes place.node) turn.after ballot slot commands
own_up g own place world s (Start found) turn st up comes h f inside ballot slot commands is =
    absurd (nothing_sent turn.frames f (ap (λ (t : Turn). t.frames) (ok_is turn (still s) h)) inside)
own_up g own place world s Tick turn st up comes h f inside ballot slot commands is = elim (tick_splits g own place world s st up) [
  | inl split ↦ (let whole = ok_is turn (joined split.first split.closes.turn) (h ∙ split.whole) in
      subst (λ (y : Standing). OwnProposal place (world.nodes place.node) y ballot slot commands) (sym (ap (λ (t : Turn). t.after) whole))
      (whole_own _ _ _ split.first split.path split.closes.turn [] split.closes.closed (tick_frames place s split.first (is_over place s) (is_spent s) split.is) nothing_at_all turn.frames
      (ap (λ (t : Turn). t.frames) whole ∙ sym (append-nil (split.first.frames ++ split.closes.turn.frames))) f inside ballot slot commands is))
  | inr none ↦ absurd (ok_not turn none.0 (h ∙ none.2))
]
own_up g own place world s Away turn st up comes h f inside ballot slot commands is =
    let o = order_turn g own place world s st up turn h in
    subst (λ (y : Standing). OwnProposal place (world.nodes place.node) y ballot slot commands) (sym (ap (λ (t : Turn). t.after) o.whole))
    (whole_own _ _ _ (played_for place o.act s) o.sits.path o.closes.turn [] o.closes.closed (by_forward place s.store.promise o.act (is_others place s.store.promise)) nothing_at_all turn.frames
    (ap (λ (t : Turn). t.frames) o.whole ∙ sym (append-nil (forwarding place o.act s ++ o.closes.turn.frames))) f inside ballot slot commands is)
own_up g own place world s (call.Frame from bytes) turn st up comes h f inside ballot slot commands is =
    let r = frame_turn g own place world s st up from bytes turn comes h in
    let c : Turn = r.split.closes.turn in
    subst (λ (y : Standing). OwnProposal place (world.nodes place.node) y ballot slot commands) (sym (ap (λ (t : Turn). t.after) r.whole ∙ asked_same from r.message c.after))
    (whole_own _ _ _ r.split.first r.split.path c (asking from r.message c.after).frames r.split.closes.closed (message_frames place s from r.message r.split.first r.split.is)
    (asking_frames from r.message c.after) turn.frames (ap (λ (t : Turn). t.frames) r.whole) f inside ballot slot commands is)
own_up g own place world s (Line seat bytes) turn st up comes (heard, hears, e) f inside ballot slot commands is =
    let p = piece_splits g own place world s st up seat bytes heard comes hears in
    let whole = ok_is turn (joined heard p.closes.turn) (e ∙ ap (λ (k : Result Turn Refusal). behind heard k) p.closes.is) in
    subst (λ (y : Standing). OwnProposal place (world.nodes place.node) y ballot slot commands) (sym (ap (λ (t : Turn). t.after) whole))
    (whole_own _ _ _ heard p.path p.closes.turn [] p.closes.closed (heard_frames place s seat bytes heard (session_at s.sessions seat) hears) nothing_at_all turn.frames
    (ap (λ (t : Turn). t.frames) whole ∙ sym (append-nil (heard.frames ++ p.closes.turn.frames))) f inside ballot slot commands is)
own_up g own place world s (Connect seat) turn st up comes h f inside ballot slot commands is =
    absurd (nothing_sent turn.frames f (ap (λ (t : Turn). t.frames) (ok_is turn (connecting seat s) h)) inside)
own_up g own place world s (Drop seat) turn st up comes h f inside ballot slot commands is =
    absurd (nothing_sent turn.frames f (ap (λ (t : Turn). t.frames) (ok_is turn (dropping seat s) h)) inside)
own_up g own place world s Stop turn st up comes h f inside ballot slot commands is =
    absurd (nothing_sent turn.frames f (ap (λ (t : Turn). t.frames) (ok_is turn (stopping place s) h)) inside)

own_of : (g : Given) (own : ℕ → Command → Bool) (place : Place) (world : World) (s : Standing) (called : Call) (turn : Turn) (f : Frame) (ballot : Ballot) (slot : ℕ) (commands : List Command)
    → IsAnswered own place world s called turn → s.up ≡ true → In f turn.frames → f.message ≡ frame.Accept ballot slot commands
    → OwnProposal place (world.nodes place.node) turn.after ballot slot commands
own_of g own place world s called turn f ballot slot commands answered up inside is =
    own_up g own place world s called turn answered.stands up answered.comes (subst (λ b. IsTurnBy b place s called (Ok turn)) up answered.turn_is) f inside ballot slot commands is

-- one of its commands: its own vote is had, and which campaign the node leads
pub record OwnVote (place : Place) (s : Standing) (ballot : Ballot) (slot : ℕ) (command : Command) : Type 0 where
  pub came : List Message
  pub all : CountsAll came s.learned
  pub has_vote : In (Accepted place.node ballot slot command) came
  pub reached : front_of s ≤ slot
  pub is_slot : slot < SLOTS
  pub campaign : Campaign
  pub leads : s.campaign ≡ Some campaign
  pub of_ballot : campaign.ballot ≡ ballot

own_said : (g : Given) (own : ℕ → Command → Bool) (place : Place) (world : World) (s : Standing) (called : Call) (turn : Turn) (ballot : Ballot) (slot : ℕ) (command : Command)
    → IsAnswered own place world s called turn → s.up ≡ true → IsSaid place.node turn.frames (Accept ballot slot command) → OwnVote place turn.after ballot slot command
own_said g own place world s called turn ballot slot command answered up (to, (f, inside, goes, says)) =
    let a = accept_in place.node f.message ballot slot command says in
    let r = own_of g own place world s called turn f ballot a.0 a.1 answered up inside a.2 in
    let at = (g.in_proposals ballot ballot a.0 slot command a.1).0 a.3 in
    let front_is = r.at_front in
    let end = r.slots in
    let low = at.1 in
    let high = at.2 in
    record {
      came = r.came;
      all = r.all;
      has_vote = r.has_votes (Accepted place.node ballot slot command) (answer_of place.node ballot a.0 a.1 ballot slot command a.3);
      reached = omega (arith, front_is, low);
      is_slot = omega (arith, end, high);
      campaign = with_marks r.campaign (Ok (Some (record { ballot = ballot; slot = a.0; commands = a.1 })));
      leads = r.leads;
      of_ballot = sym r.of_ballot;
    }

pub own_votes_are_in_time : Given → OwnVotesAreInTime
own_votes_are_in_time g own place world s called turn ballot slot command answered up taken said =
    let v = own_said g own place world s called turn ballot slot command answered up said in
    had_in_time g place.nodes taken.called.last.has taken.called.last.known turn.after.learned v.came place.node ballot slot command
    (taken.called.of.runs answered.runs).knows.learner v.all answered.stands.is_place.node v.reached v.is_slot v.has_vote

-- what it proposes it leads, and it leads no ballot that was refused
pub refused_ballots_end : Given → RefusedBallotsEnd
refused_ballots_end g own place world s called turn ballot slot command sender refused at greater answered up taken had above said =
    let v = own_said g own place world s called turn ballot slot command answered up said in
    (campaigns_of place.nodes place.node taken.called.last turn.after.campaign v.campaign v.leads (taken.called.of.runs answered.runs).knows.proposer.is_campaign).unrefused
    sender refused at greater had (subst (λ (b : Ballot). Below b greater) (sym v.of_ballot) above)

-- ---- what a proposal has in it

are_told : (n : ℕ) (has sent : List Message) (ballot : Ballot) (slot : ℕ) (commands : List Command) → MayProposeEach n has sent ballot slot commands → AreGreatestTold n has ballot slot commands
are_told n has sent ballot slot [] may = tt
are_told n has sent ballot slot (command ∷ more) may = (may.0, are_told n has sent ballot (slot + 1) more may.2)

-- where it ends: by the messages that are had, and by what was sent before
ends_at : (g : Given) (n : ℕ) (has sent old : List Message) (c : Campaign) (slot : ℕ) → CountsFrom has c → MarksSent sent c → has_quorum n c ≡ true
    → ((b : Ballot) (k : ℕ) (d : Command) → In (Accept b k d) sent → In (Accept b k d) old)
    → c.first ≤ slot → slot ≤ c.first + WINDOW → slot ≤ SLOTS → Ends n c slot → EndsAt n has old c.ballot c.first slot
ends_at g n has sent old c slot counts marks leads before low high most ends = by_covered (below_or_at slot (c.first + WINDOW) high) ends
  where
    below_or_at : (a b : ℕ) → a ≤ b → (a < b) ⊎ (a ≡ b)
    below_or_at a b le = grind arith

    by_covered : (slot < c.first + WINDOW) ⊎ (slot ≡ c.first + WINDOW) → Ends n c slot → EndsAt n has old c.ballot c.first slot
    by_covered (inr end) ends = inl end
    by_covered (inl within) (inl end) = inl end
    by_covered (inl within) (inr (inl past)) = inr (inl (omega (arith, most, past)))
    by_covered (inl within) (inr (inr (inl marked))) = let m = marks.only slot (low, omega (arith, within)) marked in inr (inr (inr (m.0, before c.ballot slot m.0 m.1)))
    by_covered (inl within) (inr (inr (inr untold))) = inr (inr (inl (g.none_told n has c slot counts leads (low, omega (arith, within)) untold)))

pub command_runs_are_told : Given → CommandRunsAreTold
command_runs_are_told g own place world s called turn f ballot slot commands answered up taken inside is = record {
  first = c.first;
  prepared = subst (λ (b : Ballot). In (Prepare b c.first) last.sent) (sym r.of_ballot) camp.prepared;
  at_front = r.at_front;
  slots = r.slots;
  proposal = subst (λ (b : Ballot). IsProposal place.nodes last.has mine old ballot c.first slot commands) r.of_ballot
      (subst (λ (b : Ballot). IsProposal place.nodes last.has mine old b c.first slot commands) (sym r.of_ballot)
      (subst (λ (k : ℕ). IsProposal place.nodes last.has mine old c.ballot c.first k commands) (sym r.at_front) by_safe));
}
  where
    last : Node
    last = taken.called.last

    old : List Message
    old = (world.nodes place.node).sent

    mine : Option Command
    mine = own_value place turn.after

    r : OwnProposal place (world.nodes place.node) turn.after ballot slot commands
    r = own_of g own place world s called turn f ballot slot commands answered up inside is

    c : Campaign
    c = r.campaign

    made : AcceptRun
    made = record { ballot = ballot; slot = slot; commands = commands }

    camp : Campaigns place.nodes place.node taken.called.last (with_marks r.campaign (Ok (Some (record { ballot = ballot; slot = slot; commands = commands }))))
    camp = campaigns_of place.nodes place.node last turn.after.campaign (with_marks c (Ok (Some made))) r.leads (taken.called.of.runs answered.runs).knows.proposer.is_campaign

    counts : CountsFrom taken.called.last.has r.campaign
    counts = camp.counts

    safe : IsSafeCommandRun place.nodes taken.called.last.has r.sent r.campaign (front_of turn.after) (own_value place turn.after) (record { ballot = ballot; slot = slot; commands = commands })
    safe = g.safe place.nodes last.has r.sent c (front_of turn.after) mine made counts r.marks r.made_so

    passed_tests : PassedRun place.nodes r.campaign (front_of turn.after) (own_value place turn.after) (record { ballot = ballot; slot = slot; commands = commands })
    passed_tests = passed_run place.nodes c (front_of turn.after) mine made r.made_so

    ends : (entry : Entry) → greatest_told r.campaign (front_of turn.after) place.nodes ≡ Some entry
        → EndsAt place.nodes taken.called.last.has (world.nodes place.node).sent r.campaign.ballot r.campaign.first (front_of turn.after + length commands)
    ends entry told =
        let low = safe.low in
        let high = safe.high in
        let at = r.at_front in
        let most = r.slots in
        ends_at g place.nodes last.has r.sent old c (front_of turn.after + length commands) counts r.marks passed_tests.leads r.before
        (omega (arith, low)) high (omega (arith, at, most)) (g.ends place.nodes c (front_of turn.after) mine made entry told r.made_so)

    -- where none is told at the front it is the own one
    alone_by : (value : Option Command) → own_value place turn.after ≡ value → commands ≡ alone value → IsFree place.nodes taken.called.last.has r.campaign.ballot (front_of turn.after)
        → IsProposal place.nodes taken.called.last.has (own_value place turn.after) (world.nodes place.node).sent r.campaign.ballot r.campaign.first (front_of turn.after) commands
    alone_by None e is_alone free = absurd (let some = safe.least in let none : length commands ≡ 0 = ap (λ (cs : List Command). length cs) is_alone in omega (arith, some, none))
    alone_by (Some command) e is_alone free = inr (command, is_alone, free, e)

    by_source : (entry : Entry) → greatest_told r.campaign (front_of turn.after) place.nodes ≡ Some entry
        → MayProposeEach place.nodes taken.called.last.has r.sent r.campaign.ballot (front_of turn.after) commands
        ⊎ IsAlone place.nodes taken.called.last.has r.sent r.campaign.ballot (front_of turn.after) (own_value place turn.after) commands
        → IsProposal place.nodes taken.called.last.has (own_value place turn.after) (world.nodes place.node).sent r.campaign.ballot r.campaign.first (front_of turn.after) commands
    by_source entry told (inl may) = inl (safe.least, are_told place.nodes last.has r.sent c.ballot (front_of turn.after) commands may, ends entry told)
    by_source entry told (inr (d, is_alone, is_own, free, once)) = inr (d, is_alone, free, is_own)

    by_told : (told : Option Entry) → greatest_told r.campaign (front_of turn.after) place.nodes ≡ told
        → IsProposal place.nodes taken.called.last.has (own_value place turn.after) (world.nodes place.node).sent r.campaign.ballot r.campaign.first (front_of turn.after) commands
    by_told None e =
        alone_by mine refl
        (passed_tests.commands ∙ ap (λ (o : Option Entry). commands_of o (told_commands place.nodes c (WINDOW - 1) (front_of turn.after + 1)) mine) e)
        (g.none_told place.nodes last.has c (front_of turn.after) counts passed_tests.leads (passed_tests.low, (let high = passed_tests.high in omega (arith, high))) e)
    by_told (Some entry) e = by_source entry e safe.commands

    by_safe : IsProposal place.nodes taken.called.last.has (own_value place turn.after) (world.nodes place.node).sent r.campaign.ballot r.campaign.first (front_of turn.after) commands
    by_safe = by_told (greatest_told c (front_of turn.after) place.nodes) refl

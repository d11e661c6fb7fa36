-- Frames and ticks are paths.
use Rattle.std.proofs.Common.{◌≡◌, ◌≢◌, ℕ, ◌+◌, ◌<◌, ◌≤◌, inl, inr, Bool, true, false, if◌then◌else◌, ◌&&◌, List, [], ◌∷◌, Some, Result, Ok, Err, refl, sym, subst, ◌∙◌, arith, length}
use Rattle.std.specs.Prelude.{is_none}
use Rattle.paxos_wire.specs.declared.ballot.Ballot.{Ballot}
use Rattle.paxos_wire.specs.declared.fault.FrameFault.{FrameFault}
use Rattle.paxos_wire.specs.declared.message.Message.{Message as Wire}
use Rattle.paxos_wire.specs.declared.message.Message.TheVariants as frame
use Rattle.slot_log.specs.declared.command.Command.{Command}
use Rattle.protocol_model.specs.Sets.{In}
use Rattle.protocol_model.specs.Messages.{Message, Prepare, Promise, Refuse, Accept, Accepted, Chosen, Ask, Forward}
use Rattle.protocol_model.specs.Frames.{carried, proposals, answers}
use Rattle.protocol_model.specs.Arrivals.{Arrival}
use Rattle.learner.specs.Learning.{answer_to_chosen, believing as with_chosen}
use Rattle.dealer_kind.specs.Kind.{fits}
use Rattle.node_rules.specs.Standings.{Standing, applied, front_of}
use Rattle.node_rules.specs.Turns.{Turn, Refusal, still, behind, and_then}
use Rattle.node_rules.specs.Accepting.{preparing, accepting}
use Rattle.node_rules.specs.Learning.{learning, counting_votes, asking_on, telling}
use Rattle.node_rules.specs.Proposing.{ticking, closing}
use Rattle.node_rules.specs.Seats.{waiting, pending_act}
use Rattle.node_rules.specs.Rules.{ballots_of, highest, seeing, taking, asking, on_read}
use Rattle.node_rules.specs.Being.{IsPending}
use Rattle.node_rules.specs.Called.{said_in, IsSent}
use Rattle.protocol_model.proofs.Sets.{in_later}
use Rattle.node_rules.proofs.Paths.{Hearing, Scope, dealer_in, first_in, Path, Goes, has_in}
use Rattle.node_rules.proofs.Steps.{go_on}
use Rattle.node_rules.proofs.Proposed.{waiting_value}
use Rattle.paxos_wire.specs.Fits.{HasCommands}
use Rattle.node_rules.proofs.Promising.{prepare}
use Rattle.node_rules.proofs.Voting.{accept}
use Rattle.node_rules.proofs.Learning.{count, tell}
use Rattle.node_rules.proofs.Asking.{behind_still, ask_on, ask_above, tell_known, with_pending}
use Rattle.node_rules.proofs.Closing.{close}
use Rattle.node_rules.proofs.Ticking.{tick}
use Rattle.node_rules.proofs.Beginning.{Runs, hearing_of, begin, begin_frame, begin_frames, of_proposals, of_answers, begin_promise, begin_refusal, and_goes}

-- ---- an act that another node hands on

waits_by : (x : Scope) (came : List Arrival) (heard : Hearing) (t : Turn) (p : Path x came heard (applied t.after) t) (act : Command) (a b : Bool)
    → fits x.place.setting (applied t.after) act ≡ b
    → (sender : ℕ) → In (Forward sender act) p.node.has
    → IsPending (dealer_in x) x.place.node p.node (applied t.after) (if a && b then Some act else t.after.pending)
waits_by x came heard t p act true true e sender had = (inr (inr (sender, had)), e)
waits_by x came heard t p act true false e sender had = p.knows.pending
waits_by x came heard t p act false b e sender had = p.knows.pending

pub hand_on : (x : Scope) (came : List Arrival) (heard : Hearing) (t : Turn) (p : Path x came heard (applied t.after) t) (sender : ℕ) (act : Command) → In (Forward sender act) p.node.has
    → Path x came heard (applied t.after) (record t { after = pending_act x.place act t.after })
hand_on x came heard t p sender act had =
    with_pending x came heard (applied t.after) t (waiting x.place act t.after) p
    (waits_by x came heard t p act (is_none t.after.pending) (fits x.place.setting (applied t.after) act) refl sender had) (waiting_value x.place act t.after)

-- ---- each message

pub stood : (x : Scope) (came : List Arrival) (heard : Hearing) (s : Standing) (r : Result Turn Refusal) → Goes x came heard (behind (still s) r) → Goes x came heard r
stood x came heard s r goes = subst (Goes x came heard) (behind_still s r) goes

-- what another node tells as chosen, and what is asked for then
pub chosen_goes : (x : Scope) (s : Standing) (from slot : ℕ) (command : Command) → Runs x s → x.messages ≡ carried from (frame.Chosen slot command)
    → IsSent x.place x.world.ever from (carried from (frame.Chosen slot command))
    → Goes x [] (hearing_of s (first_in x)) (taking x.place from (frame.Chosen slot command) (seeing (frame.Chosen slot command) s))
chosen_goes x s from slot command r one sent =
    let h : Hearing = hearing_of s (first_in x) in
    let m : Message = Chosen from slot command in
    let p = begin_frame x s m [] r one (sent.sent m (inl refl)) tt refl in
    let s0 : Standing = seeing (frame.Chosen slot command) s in
    and_goes x [] h (learning x.place (answer_to_chosen s0.learned.log slot command) (with_chosen s0.learned slot command) s0) (λ told. Ok (asking_on from (front_of s0) told))
    (stood x [] h s0 (learning x.place (answer_to_chosen s0.learned.log slot command) (with_chosen s0.learned slot command) s0)
    (tell x [] h (still s0) from slot command p (has_in x [] h (applied s) (still s0) p m (subst (λ (l : List Message). In m l) (sym one) (inl refl)))
    (in_later p.sent x.world.ever m (sent.sent m (inl refl)))))
    (λ u q. ask_on x [] h u from (front_of s0) q sent.node sent.other)

-- an Accept of another node
accept_goes : (x : Scope) (s : Standing) (from : ℕ) (ballot : Ballot) (slot : ℕ) (commands : List Command) → x.ends ≡ true → Runs x s → 1 ≤ length commands
    → x.messages ≡ proposals ballot slot commands → IsSent x.place x.world.ever from (proposals ballot slot commands)
    → Goes x [] (hearing_of s (first_in x)) (accepting x.place from ballot slot commands (record s { seen = highest s.seen (ballot ∷ []) }))
accept_goes x s from ballot slot [] ends r some are sent = absurd (omega (arith, some))
accept_goes x s from ballot slot (command ∷ later) ends r some are sent =
    let h : Hearing = hearing_of s (first_in x) in
    let s0 : Standing = record s { seen = highest s.seen (ballot ∷ []) } in
    let first : Message = Accept ballot slot command in
    let p = begin_frames x s ballot first (proposals ballot (slot + 1) later) r are (λ m inside. sent.sent m inside) (of_proposals ballot slot (command ∷ later)) in
    stood x [] h s0 _
    (accept x [] h (still s0) ends from ballot slot command later p (λ m inside. has_in x [] h (applied s) _ p m (subst (λ (l : List Message). In m l) (sym are) inside))
    sent.node sent.other (λ e. sent.other (sym (sent.sender first (inl refl)) ∙ e)))

-- an Accepted
pub accepted_goes : (x : Scope) (s : Standing) (from : ℕ) (ballot : Ballot) (slot : ℕ) (commands : List Command) → Runs x s → 1 ≤ length commands
    → x.messages ≡ answers from ballot slot commands → IsSent x.place x.world.ever from (answers from ballot slot commands)
    → Goes x [] (hearing_of s (first_in x)) (counting_votes x.place from ballot slot commands (record s { seen = highest s.seen (ballot ∷ []) }))
accepted_goes x s from ballot slot [] r some are sent = absurd (omega (arith, some))
accepted_goes x s from ballot slot (command ∷ later) r some are sent =
    let h : Hearing = hearing_of s (first_in x) in
    let s0 : Standing = record s { seen = highest s.seen (ballot ∷ []) } in
    let p = begin_frames x s ballot (Accepted from ballot slot command) (answers from ballot (slot + 1) later) r are (λ m inside. sent.sent m inside) (of_answers from ballot slot (command ∷ later)) in
    stood x [] h s0 _
    (count x [] h (still s0) from ballot slot (command ∷ later) p (λ m inside. has_in x [] h (applied s) _ p m (subst (λ (l : List Message). In m l) (sym are) inside)) sent.node)

pub taken : (x : Scope) (s : Standing) (from : ℕ) (w : Wire) → HasCommands w → x.ends ≡ true → Runs x s
    → x.messages ≡ carried from w → IsSent x.place x.world.ever from (carried from w)
    → Goes x [] (hearing_of s (first_in x)) (taking x.place from w (seeing w s))
taken x s from (frame.Prepare ballot slot) some ends r one sent =
    let h : Hearing = hearing_of s (first_in x) in
    let m : Message = Prepare ballot slot in
    let p = begin_frame x s m (ballot ∷ []) r one (sent.sent m (inl refl)) tt refl in
    stood x [] h (seeing (frame.Prepare ballot slot) s) (Ok (preparing from ballot slot (seeing (frame.Prepare ballot slot) s)))
    (prepare x [] h (still (seeing (frame.Prepare ballot slot) s)) from ballot slot ends p (has_in x [] h (applied s) _ p m (subst (λ (l : List Message). In m l) (sym one) (inl refl))) sent.node sent.other)
taken x s from (frame.Promise ballot slot told) some ends r one sent =
    begin_promise x s from ballot slot told (ballots_of (frame.Promise ballot slot told)) r one (sent.sent (Promise from ballot slot told) (inl refl)) refl
taken x s from (frame.Refuse ballot slot promised) some ends r one sent =
    begin_refusal x s from ballot slot promised (ballots_of (frame.Refuse ballot slot promised)) r one (sent.sent (Refuse from ballot slot promised) (inl refl)) refl
taken x s from (frame.Accept ballot slot commands) some ends r one sent = accept_goes x s from ballot slot commands ends r some.0 one sent
taken x s from (frame.Accepted ballot slot commands) some ends r one sent = accepted_goes x s from ballot slot commands r some.0 one sent
taken x s from (frame.Chosen slot command) some ends r one sent = chosen_goes x s from slot command r one sent
taken x s from (frame.Ask slot) some ends r one sent =
    let h : Hearing = hearing_of s (first_in x) in
    let m : Message = Ask from slot in
    let p = begin_frame x s m [] r one (sent.sent m (inl refl)) tt refl in
    stood x [] h (seeing (frame.Ask slot) s) (Ok (telling from slot (seeing (frame.Ask slot) s))) (tell_known x [] h (still (seeing (frame.Ask slot) s)) from slot p sent.node sent.other)
taken x s from (frame.Forward act) some ends r one sent =
    let h : Hearing = hearing_of s (first_in x) in
    let m : Message = Forward from act in
    let p = begin_frame x s m [] r one (sent.sent m (inl refl)) tt refl in
    hand_on x [] h (still (seeing (frame.Forward act) s)) p from act (has_in x [] h (applied s) _ p m (subst (λ (l : List Message). In m l) (sym one) (inl refl)))

asked : (x : Scope) (came : List Arrival) (heard : Hearing) (t : Turn) (from : ℕ) (w : Wire) → Path x came heard (applied t.after) t → from < x.place.nodes → from ≢ x.place.node
    → Goes x came heard (behind t (Ok (asking from w t.after)))
asked x came heard t from (frame.Prepare ballot slot) p below other = ask_above x came heard t from slot p below other
asked x came heard t from (frame.Promise ballot slot told) p below other = go_on x came heard (applied t.after) t p
asked x came heard t from (frame.Refuse ballot slot promised) p below other = go_on x came heard (applied t.after) t p
asked x came heard t from (frame.Accept ballot slot commands) p below other = ask_above x came heard t from slot p below other
asked x came heard t from (frame.Accepted ballot slot commands) p below other = ask_above x came heard t from slot p below other
asked x came heard t from (frame.Chosen slot command) p below other = go_on x came heard (applied t.after) t p
asked x came heard t from (frame.Ask slot) p below other = go_on x came heard (applied t.after) t p
asked x came heard t from (frame.Forward act) p below other = go_on x came heard (applied t.after) t p

-- a whole frame
pub frame_goes : (x : Scope) (s : Standing) (from : ℕ) (read : Result Wire FrameFault) → ((w : Wire) → read ≡ Ok w → HasCommands w) → x.ends ≡ true → Runs x s
    → x.messages ≡ said_in from read → IsSent x.place x.world.ever from (said_in from read)
    → Goes x [] (hearing_of s (first_in x)) (on_read x.place from read s)
frame_goes x s from (Err fault) some ends r one sent = tt
frame_goes x s from (Ok w) some ends r one sent =
    let h : Hearing = hearing_of s (first_in x) in
    and_goes x [] h (and_then (taking x.place from w (seeing w s)) (closing x.place)) (λ closed. Ok (asking from w closed))
    (and_goes x [] h (taking x.place from w (seeing w s)) (closing x.place) (taken x s from w (some w refl) ends r one sent) (λ u q. close x [] h u ends q))
    (λ u q. asked x [] h u from w q sent.node sent.other)

-- a tick
pub tick_goes : (x : Scope) (s : Standing) → x.ends ≡ true → Runs x s → x.messages ≡ []
    → Goes x [] (hearing_of s (first_in x)) (and_then (ticking x.place s) (closing x.place))
tick_goes x s ends r quiet =
    let h : Hearing = hearing_of s (first_in x) in
    and_goes x [] h (ticking x.place s) (closing x.place) (stood x [] h s (ticking x.place s) (tick x [] h (still s) ends (begin x s r quiet))) (λ u q. close x [] h u ends q)

-- A message of another node: what it asks, the close, and a last question.
use Rattle.std.proofs.Common.{◌≡◌, ℕ, ◌+◌, ◌*◌, ◌≤◌, inl, inr, Bool, true, false, List, Result, Ok, Err, refl, ap, sym, subst, ◌∙◌, arith, length, vec_len}
use Rattle.std.specs.Prelude.{◌⊎◌, Option, Some, None, if◌then◌else◌, nat_le, ◌&&◌}
use Rattle.paxos_wire.specs.declared.ballot.Ballot.{Ballot}
use Rattle.paxos_wire.specs.declared.message.Message.{Message}
use Rattle.paxos_wire.specs.declared.message.Message.TheVariants as frame
use Rattle.slot_log.specs.declared.command.Command.{Command}
use Rattle.slot_log.specs.declared.slot_fault.SlotFault.{SlotFault}
use Rattle.promise_store.specs.declared.disk.Disk.{Ghosts}
use Rattle.protocol_model.specs.Stores.{Store}
use Rattle.paxos_wire.specs.Order.{is_below}
use Rattle.proposer.specs.declared.campaign.Campaign.{Campaign}
use Rattle.learner.specs.Learning.{Learned, answer_to_chosen, believing as with_chosen}
use Rattle.learner.specs.CommandRuns.{answer_to_run, hearing_run}
use Rattle.node_rules.specs.Standings.{Place, Standing, front_of, idle}
use Rattle.node_rules.specs.Turns.{Turn, Refusal, Conflict, still, sending, joined, behind, and_then}
use Rattle.node_rules.specs.Learning.{learning, asking_on}
use Rattle.protocol_model.specs.Votes.{command_run_at, taking_command_run}
use Rattle.node_rules.specs.Accepting.{refusing, promising, voting}
use Rattle.node_rules.specs.Standings.{with_stored}
use Rattle.node_rules.specs.Sending.{to_others}
use Rattle.node_rules.specs.Proposing.{closing, closing_by as closing_by_rule, proposal_at}
use Rattle.proposer.specs.Campaigns.{leads}
use Rattle.proposer.specs.CommandRuns.{marked_run_from}
use Rattle.proposer.specs.declared.accept_run.AcceptRun.{AcceptRun}
use Rattle.proposer.specs.declared.fault.ProposeFault.{ProposeFault}
use Rattle.paxos_wire.specs.declared.limits.TheConstants.{SLOTS}
use Rattle.node_rules.specs.Rules.{seeing, taking, asking, on_message}
use Rattle.paxos_wire.specs.declared.limits.TheConstants.{MOST_SINGLE_FRAME}
use Rattle.dealer_node.specs.declared.limits.TheConstants.{FRAMES_TO_ALL, FRAMES_OF_A_CLOSE, ANSWERS_OF_A_CALL, FRAMES_OF_AN_ANSWER}
use Rattle.dealer_node.specs.declared.up.Up.{Up}
use Rattle.dealer_node.specs.declared.running.Running.{Running}
use Rattle.dealer_node.specs.declared.made.Made.{Made}
use Rattle.dealer_node.specs.declared.made.Need.{Need}
use Rattle.dealer_node.specs.declared.fault.NodeFault.{NodeFault}
use Rattle.dealer_node.specs.declared.fault.NodeFault.TheVariants as fault
use Rattle.promise_store.specs.declared.fault.StoreFault.TheVariants.{Disk}
use Rattle.dealer_node.specs.Texts.{byte_total}
use Rattle.dealer_node.specs.Rooms.{Grows}
use Rattle.dealer_node.specs.Outs.{Told}
use Rattle.dealer_node.specs.Members.{Membership, place_at}
use Rattle.dealer_node.specs.Running.{IsRunning, IsTaken, CanLearn, ahead_of}
use Rattle.dealer_node.specs.Calling.{commands_in, frames_behind, CanTake}
use Rattle.dealer_node.specs.Working.{disk_under, ComesTo, IsDone, IsUp, Took, Failed, Works, HasLeft}
use Rattle.node_rules.proofs.Asked.{asked_on, asked_same}
use Rattle.dealer_node.proofs.Left.{left_beside, less_left, less_learn, sent_left}
use Rattle.dealer_node.proofs.Within.{call_learn}
use Rattle.dealer_node.proofs.Worked.{OneAppends, same_turn, done_behind, then_works, first_failed, works_from}
use Rattle.dealer_node.proofs.Stored.{telling_keeps, telling_done}

-- ---- either the store stays, or there is nothing to close

-- a node that leads nothing proposes nothing
idle_closes : (place : Place) (s : Standing) → s.campaign ≡ None → closing place s ≡ Ok (still s)
idle_closes place s none =
    let P : Option Campaign → Type 0 = λ c. closing place (record s { campaign = c }) ≡ Ok (still (record s { campaign = c })) in
    subst P (sym none) refl

-- the store stays as it is, or the node leads nothing
abbrev pub Quiet : Standing → Turn → Type 0
Quiet s turn = ((turn.after.store ≡ s.store) × (turn.after.begun ≡ s.begun)) ⊎ ((turn.after.campaign ≡ None) × (turn.after.begun ≡ turn.after.store))

appends_once : (place : Place) (s : Standing) (turn : Turn) → Quiet s turn → OneAppends s turn.after (closing place turn.after)
appends_once place s turn (inl (store, begun)) = inl store
appends_once place s turn (inr (none, unbegun)) = inr (still turn.after, idle_closes place turn.after none, refl, unbegun)

-- a turn with the store as it was
stays : (s : Standing) (known turn : Turn) (r : Result Turn Refusal) → r ≡ Ok known → known.after.store ≡ s.store → known.after.begun ≡ s.begun → r ≡ Ok turn → Quiet s turn
stays s known turn r is same begun rule = inl (ap (λ (t : Turn). t.after.store) (same_turn turn known r rule is) ∙ same, ap (λ (t : Turn). t.after.begun) (same_turn turn known r rule is) ∙ begun)

-- a turn that leads nothing
leads_nothing : (s : Standing) (turn : Turn) → turn.after.campaign ≡ None → turn.after.begun ≡ turn.after.store → Quiet s turn
leads_nothing s turn none unbegun = inr (none, unbegun)

prepares : (place : Place) (from : ℕ) (ballot : Ballot) (slot : ℕ) (s : Standing) (turn : Turn) (b : Bool) → (let r : Result Turn Refusal = Ok (if b then promising from ballot slot s else refusing from ballot slot s) in r) ≡ Ok turn → Quiet s turn
prepares place from ballot slot s turn true rule =
    let e = same_turn turn (promising from ballot slot s) (Ok turn) refl (sym rule) in
    leads_nothing s turn (ap (λ (t : Turn). t.after.campaign) e) (ap (λ (t : Turn). t.after.begun) e ∙ sym (ap (λ (t : Turn). t.after.store) e))
prepares place from ballot slot s turn false rule = stays s (refusing from ballot slot s) turn _ refl refl refl rule

votes : (place : Place) (ballot : Ballot) (slot : ℕ) (commands : List Command) (s : Standing) (turn : Turn) → voting place ballot slot commands (idle s) ≡ Ok turn → Quiet s turn
votes place ballot slot commands s turn rule =
    let x : Standing = with_stored (idle s) (taking_command_run s.store ballot slot commands) in
    let kept = telling_keeps place ballot slot (command_run_at s.store ballot slot commands) x turn rule in
    leads_nothing s turn kept.campaign (kept.begun ∙ sym kept.store)

accepts : (place : Place) (from : ℕ) (ballot : Ballot) (slot : ℕ) (commands : List Command) (s : Standing) (turn : Turn) (b : Bool)
    → (if b then Ok (refusing from ballot slot s) else voting place ballot slot commands (idle s)) ≡ Ok turn → Quiet s turn
accepts place from ballot slot commands s turn true rule = stays s (refusing from ballot slot s) turn _ refl refl refl rule
accepts place from ballot slot commands s turn false rule = votes place ballot slot commands s turn rule

learns : {A : Type 0} (place : Place) (answer : Result A SlotFault) (learned : Learned) (s : Standing) (turn : Turn) → learning place answer learned s ≡ Ok turn → Quiet s turn
learns place (Ok answer) learned s turn rule = stays s _ turn _ refl refl refl rule
learns place (Err why) learned s turn rule = let never : Err (Conflict s.store) ≡ Ok turn = rule in absurd (cc)

believes : {A : Type 0} (place : Place) (from old : ℕ) (answer : Result A SlotFault) (learned : Learned) (s : Standing) (turn : Turn)
    → and_then (learning place answer learned s) (λ told. Ok (asking_on from old told)) ≡ Ok turn → Quiet s turn
believes place from old (Ok answer) learned s turn rule =
    stays s _ turn _ refl (ap (λ (x : Standing). x.store) (asked_on from old _)) (ap (λ (x : Standing). x.begun) (asked_on from old _)) rule
believes place from old (Err why) learned s turn rule = let never : Err (Conflict s.store) ≡ Ok turn = rule in absurd (cc)

quiet : (place : Place) (from : ℕ) (message : Message) (s : Standing) (turn : Turn) → taking place from message s ≡ Ok turn → Quiet s turn
quiet place from (frame.Prepare ballot slot) s turn rule = prepares place from ballot slot s turn (is_below s.store.promise ballot) rule
quiet place from (frame.Promise ballot slot entries) s turn rule = stays s _ turn _ refl refl refl rule
quiet place from (frame.Refuse ballot slot promised) s turn rule = stays s _ turn _ refl refl refl rule
quiet place from (frame.Accept ballot slot commands) s turn rule = accepts place from ballot slot commands s turn (is_below ballot s.store.promise) rule
quiet place from (frame.Accepted ballot slot commands) s turn rule =
    learns place (answer_to_run s.learned from ballot slot commands) (hearing_run s.learned from ballot slot commands) s turn rule
quiet place from (frame.Chosen slot command) s turn rule =
    believes place from (front_of s) (answer_to_chosen s.learned.log slot command) (with_chosen s.learned slot command) s turn rule
quiet place from (frame.Ask slot) s turn rule = stays s _ turn _ refl refl refl rule
quiet place from (frame.Forward command) s turn rule = stays s _ turn _ refl refl refl rule

-- ---- the whole

both_done : (outcome : Result Turn Refusal) (next : Standing → Result Turn Refusal) → ((x : Standing) → IsDone (next x)) → IsDone outcome → IsDone (and_then outcome next)
both_done (Ok turn) next ends done = done_behind turn (next turn.after) (ends turn.after)
both_done (Err (Conflict store)) next ends done = tt
both_done (Err why) next ends done = absurd done

closing_done_by : (place : Place) (proposal : Result (Option AcceptRun) ProposeFault) (s : Standing) → IsDone (closing_by_rule place proposal s)
closing_done_by place (Ok (Some made)) s =
    done_behind (sending (to_others place (frame.Accept made.ballot made.slot made.commands)) s) (voting place made.ballot made.slot made.commands s)
    (telling_done place made.ballot made.slot (command_run_at s.store made.ballot made.slot made.commands) (with_stored s (taking_command_run s.store made.ballot made.slot made.commands)))
closing_done_by place (Ok None) s = tt
closing_done_by place (Err why) s = tt

closing_done : (place : Place) (s : Standing) → IsDone (closing place s)
closing_done place s = by (leads place.nodes s.campaign && nat_le SLOTS (front_of s))
  where
    by : (b : Bool) → IsDone (if b then Ok (still (idle s)) else closing_by_rule place (proposal_at place s) (record s { campaign = marked_run_from s.campaign (proposal_at place s) }))
    by true = tt
    by false = closing_done_by place (proposal_at place s) (record s { campaign = marked_run_from s.campaign (proposal_at place s) })

module _ {D : Type 0} (g : Ghosts D) where
  -- the ballots of a message are seen
  pub seen_up : (member : Membership) (s : Standing) (message : Message) (old : Up D) (running : Running) → IsUp g member old s → IsRunning member running (seeing message s) → IsUp g member (record old { running = running }) (seeing message s)
  seen_up member s message old running is runs = record { running = runs; keeps = is.keeps; unbegun = is.unbegun; stands = is.stands }

  -- last, a question
  ask_took : (member : Membership) (s : Standing) (from : ℕ) (message : Message) (up : Up D) (earlier later : Told) → IsUp g member up s → IsTaken member up.running earlier later (asking from message s)
      → Took g member s (Ok (asking from message s)) up up earlier later
  ask_took member s from message up earlier later is taken =
      let turn : Turn = asking from message s in
      let same = asked_same from message s in
      record {
        turn = turn;
        rule = refl;
        now = subst (λ (x : Standing). IsUp g member up x) (sym same) is;
        told = taken.told;
        fits = taken.fits;
        moments = λ t image was. inl was;
        untouched = λ still. refl;
      }

  -- where the question comes
  pub message_took : (member : Membership) (s : Standing) (from : ℕ) (message : Message) (old seen taken closed : Up D) (told between before later : Told)
      → disk_under seen ≡ disk_under old
      → (first : Took g member (seeing message s) (taking (place_at member) from message (seeing message s)) seen taken told between)
      → (second : Took g member first.turn.after (closing (place_at member) first.turn.after) taken closed between before)
      → ((x : Standing) → IsRunning member closed.running x → IsTaken member closed.running before later (asking from message x))
      → Took g member s (on_message (place_at member) from message s) old closed told later
  message_took member s from message old seen taken closed told between before later disk first second question =
      let x : Standing = seeing message s in
      let place = place_at member in
      let both : Took g member x (and_then (taking place from message x) (closing place)) seen closed told before =
      then_works g member x (closing place) (taking place from message x) seen taken closed told between before (Ok tt) first (appends_once place x first.turn (quiet place from message x first.turn first.rule)) second in
      let third : Took g member both.turn.after (Ok (asking from message both.turn.after)) closed closed before later = ask_took member both.turn.after from message closed before later both.now (question both.turn.after both.now.running) in
      let all : Took g member x (on_message place from message s) seen closed told later =
      then_works g member x (λ c. Ok (asking from message c)) (and_then (taking place from message x) (closing place)) seen closed closed told before later (Ok tt) both
      (inr (asking from message both.turn.after, refl, ap (λ (y : Standing). y.store) (asked_same from message both.turn.after), ap (λ (y : Standing). y.begun) (asked_same from message both.turn.after) ∙ both.now.unbegun)) third in
      works_from g member s x (on_message place from message s) seen old closed told later (Ok tt) refl disk all

  -- a fault of what came first is one of the whole
  later_failed : (member : Membership) (s : Standing) (next : Standing → Result Turn Refusal) (outcome : Result Turn Refusal) (a b : Up D)
      → ((left : Store) → (left ≡ s.store) ⊎ ComesTo outcome left → (left ≡ s.store) ⊎ ComesTo (and_then outcome next) left)
      → ((x : Standing) → IsDone (next x)) → Failed g member s outcome a b → Failed g member s (and_then outcome next) a b
  later_failed member s next outcome a b goes ends f = record { left = f.left; comes = goes f.left f.comes; done = both_done outcome next ends f.done; leaves = f.leaves; moments = f.moments }

  pub later_fails : (member : Membership) (s : Standing) (next : Standing → Result Turn Refusal) (outcome : Result Turn Refusal) (a b : Up D) (earlier later : Told) (why : NodeFault)
      → ((left : Store) → (left ≡ s.store) ⊎ ComesTo outcome left → (left ≡ s.store) ⊎ ComesTo (and_then outcome next) left)
      → ((x : Standing) → IsDone (next x)) → Works g member s outcome a b earlier later (Err why) → Works g member s (and_then outcome next) a b earlier later (Err why)
  later_fails member s next outcome a b earlier later (fault.Store Disk) goes ends w = later_failed member s next outcome a b goes ends w
  later_fails member s next outcome a b earlier later fault.Conflict goes ends w = first_failed g member s next outcome a b w
  later_fails member s next outcome a b earlier later why goes ends w = absurd w

  -- what a message leaves, the close and the question leave too
  asking_goes : (s : Standing) (from : ℕ) (message : Message) (outcome : Result Turn Refusal) (left : Store) → (left ≡ s.store) ⊎ ComesTo outcome left
      → (left ≡ s.store) ⊎ ComesTo (and_then outcome (λ c. Ok (asking from message c))) left
  asking_goes s from message outcome left (inl e) = inl e
  asking_goes s from message outcome left (inr (inr rule)) = inr (inr (ap (λ (o : Result Turn Refusal). and_then o (λ c. Ok (asking from message c))) rule))
  asking_goes s from message outcome left (inr (inl (turn, rule, e))) =
      inr (inl (joined turn (asking from message turn.after), ap (λ (o : Result Turn Refusal). and_then o (λ c. Ok (asking from message c))) rule, e ∙ sym (ap (λ (y : Standing). y.begun) (asked_same from message turn.after))))

  closing_by : (place : Place) (s : Standing) (outcome : Result Turn Refusal) (turn : Turn) (left : Store) → s.begun ≡ s.store → outcome ≡ Ok turn → left ≡ turn.after.begun → Quiet s turn
      → (left ≡ s.store) ⊎ ComesTo (and_then outcome (closing place)) left
  closing_by place s outcome turn left unbegun rule e (inl (store, begun)) = inl (e ∙ begun ∙ unbegun)
  closing_by place s outcome turn left unbegun rule e (inr (none, after)) =
      inr (inl (joined turn (still turn.after), ap (λ (o : Result Turn Refusal). and_then o (closing place)) rule ∙ ap (behind turn) (idle_closes place turn.after none), e))

  closing_goes : (place : Place) (s : Standing) (from : ℕ) (message : Message) (left : Store) → s.begun ≡ s.store → (left ≡ s.store) ⊎ ComesTo (taking place from message s) left
      → (left ≡ s.store) ⊎ ComesTo (and_then (taking place from message s) (closing place)) left
  closing_goes place s from message left unbegun (inl e) = inl e
  closing_goes place s from message left unbegun (inr (inr rule)) = inr (inr (ap (λ (o : Result Turn Refusal). and_then o (closing place)) rule))
  closing_goes place s from message left unbegun (inr (inl (turn, rule, e))) = closing_by place s (taking place from message s) turn left unbegun rule e (quiet place from message s turn rule)

  -- where the close fails
  pub close_failed : (member : Membership) (s : Standing) (from : ℕ) (message : Message) (old seen taken closed : Up D) (told between before : Told) (why : NodeFault)
      → disk_under seen ≡ disk_under old
      → (first : Took g member (seeing message s) (taking (place_at member) from message (seeing message s)) seen taken told between)
      → Works g member first.turn.after (closing (place_at member) first.turn.after) taken closed between before (Err why)
      → Works g member s (on_message (place_at member) from message s) old closed told before (Err why)
  close_failed member s from message old seen taken closed told between before why disk first second =
      let x : Standing = seeing message s in
      let place = place_at member in
      let outcome = and_then (taking place from message x) (closing place) in
      let both = then_works g member x (closing place) (taking place from message x) seen taken closed told between before (Err why) first (appends_once place x first.turn (quiet place from message x first.turn first.rule)) second in
      works_from g member s x (on_message place from message s) seen old closed told before (Err why) refl disk
      (later_fails member x (λ c. Ok (asking from message c)) outcome seen closed told before why (asking_goes x from message outcome) (λ c. tt) both)

  -- where the message itself fails
  pub take_failed : (member : Membership) (s : Standing) (from : ℕ) (message : Message) (old seen taken : Up D) (told before : Told) (why : NodeFault)
      → disk_under seen ≡ disk_under old → s.begun ≡ s.store
      → Works g member (seeing message s) (taking (place_at member) from message (seeing message s)) seen taken told before (Err why)
      → Works g member s (on_message (place_at member) from message s) old taken told before (Err why)
  take_failed member s from message old seen taken told before why disk unbegun first =
      let x : Standing = seeing message s in
      let place = place_at member in
      let outcome = and_then (taking place from message x) (closing place) in
      works_from g member s x (on_message place from message s) seen old taken told before (Err why) refl disk
      (later_fails member x (λ c. Ok (asking from message c)) outcome seen taken told before why (asking_goes x from message outcome) (λ c. tt)
      (later_fails member x (closing place) (taking place from message x) seen taken told before why (λ left. closing_goes place x from message left unbegun) (closing_done place) first))

-- ---- room

-- so much is left, whatever was needed
left_of : (running : Running) (made : Made) (answers commands frames : ℕ) → CanLearn running made answers commands → frames ≤ made.frames.text_room → MOST_SINGLE_FRAME * frames ≤ made.frames.byte_room
    → HasLeft running made (record {
      frames = length made.frames.texts + frames;
      frame_bytes = byte_total made.frames.texts + MOST_SINGLE_FRAME * frames;
      texts = length made.shown.texts + 11 * (ahead_of running + commands);
      text_bytes = byte_total made.shown.texts + 45716 * (ahead_of running + commands);
      faults = vec_len made.faults;
    }) answers commands frames
left_of running made answers commands frames learn texts bytes = record {
  learn = learn;
  texts = texts;
  bytes = bytes;
  frames_made = omega arith;
  bytes_made = omega arith;
  texts_shown = omega arith;
  bytes_shown = omega arith;
  faults_told = omega arith;
}

-- nothing of the room is gone where the ballots are seen
pub seen_left : (old new : Running) (made : Made) (need : Need) (answers commands frames : ℕ) → new ≡ record old { seen = new.seen } → HasLeft old made need answers commands frames
    → HasLeft new made need answers commands frames
seen_left old new made need answers commands frames rest left =
    subst (λ (r : Running). HasLeft r made need answers commands frames) (sym rest) (left_beside old new old made need answers commands frames left)

-- a message whose ballots were seen has room for its answer, for each of its commands, and behind it for the close and a question
pub message_left : (old new : Running) (made : Made) (need : Need) (k most : ℕ) → new ≡ record old { seen = new.seen } → HasLeft old made need ANSWERS_OF_A_CALL (k + most) (frames_behind k most)
    → HasLeft new made need (1 + 1) (0 + most + k) (1 + FRAMES_OF_A_CLOSE * most + (FRAMES_OF_AN_ANSWER + FRAMES_TO_ALL * k))
message_left old new made need k most rest left =
    seen_left old new made need (1 + 1) (0 + most + k) (1 + FRAMES_OF_A_CLOSE * most + (FRAMES_OF_AN_ANSWER + FRAMES_TO_ALL * k)) rest
    (less_left old made need (1 + 1) (0 + most + k) (1 + FRAMES_OF_A_CLOSE * most + (FRAMES_OF_AN_ANSWER + FRAMES_TO_ALL * k)) ANSWERS_OF_A_CALL (k + most) (frames_behind k most)
    (omega arith) (omega arith) (omega arith) left)

-- a question was asked
pub asked_left : (running : Running) (earlier later : Made) (need : Need) (answers commands frames : ℕ) → later ≡ record earlier { frames = later.frames } → Grows earlier.frames later.frames 1 MOST_SINGLE_FRAME
    → HasLeft running earlier need answers commands (frames + 1) → HasLeft running later need answers commands frames
asked_left running earlier later need answers commands frames rest grows left =
    subst (λ (m : Made). HasLeft running m need answers commands frames) (sym rest)
    (sent_left running earlier later.frames need answers commands frames (frames + 1) 1 1 (omega arith) (omega arith) grows left)

module _ {D : Type 0} (up : Up D) (made : Made) (message : Message) (most : ℕ) (can : CanTake up made message most) where
  -- there is room for all of a message's call, whatever was made before
  pub taking_left : HasLeft up.running made (record {
    frames = length made.frames.texts + frames_behind (commands_in message) most;
    frame_bytes = byte_total made.frames.texts + MOST_SINGLE_FRAME * frames_behind (commands_in message) most;
    texts = length made.shown.texts + 11 * (ahead_of up.running + (commands_in message + most));
    text_bytes = byte_total made.shown.texts + 45716 * (ahead_of up.running + (commands_in message + most));
    faults = vec_len made.faults;
  }) ANSWERS_OF_A_CALL (commands_in message + most) (frames_behind (commands_in message) most)
  taking_left =
      left_of up.running made ANSWERS_OF_A_CALL (commands_in message + most) (frames_behind (commands_in message) most)
      (call_learn up made ANSWERS_OF_A_CALL (commands_in message + most) (frames_behind (commands_in message) most) can.room) can.room.shown.frames can.room.shown.frame_bytes

  -- and for what it tells, once its ballots were seen
  pub seen_learn : (seen : Running) → seen ≡ record up.running { seen = seen.seen } → CanLearn seen made 1 (commands_in message)
  seen_learn seen rest =
      let all = message_left up.running seen made _ (commands_in message) most rest taking_left in
      less_learn seen made 1 (commands_in message) (1 + 1) (0 + most + commands_in message) (omega arith) (omega arith) all.learn

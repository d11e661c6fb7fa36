-- A call by the rules is a call of the world.
use Rattle.std.proofs.Common.{◌≡◌, ◌≢◌, ℕ, suc, ◌+◌, ◌<◌, ◌⊎◌, inl, inr, Bool, true, false, true≢false, cond, List, [], ◌∷◌, ◌++◌, map, reverse, Ok, Err, refl, ap, sym, ◌∙◌, subst, arith}
use Rattle.std.specs.Prelude.{Result}
use Rattle.std.proofs.lemmas.List.{reverse-reverse, reverse-append, append-nil}
use Rattle.paxos_wire.specs.declared.message.Message.{Message as Content}
use Rattle.paxos_wire.specs.declared.fault.FrameFault.{FrameFault}
use Rattle.paxos_wire.specs.Faults.{reading}
use Rattle.slot_log.specs.declared.command.Command.{Command}
use Rattle.protocol_model.specs.Sets.{In}
use Rattle.protocol_model.specs.Messages.{Message, Accept, Accepted}
use Rattle.protocol_model.specs.Frames.{carried}
use Rattle.protocol_model.specs.Arrivals as model
use Rattle.protocol_model.specs.Stores.{Store}
use Rattle.protocol_model.specs.Nodes.{Node as WorldNode}
use Rattle.protocol_model.specs.Dealers.{Reader, Seat, Log}
use Rattle.protocol_model.specs.Moves
use Rattle.protocol_model.specs.Moves.{Shown, nothing}
use Rattle.protocol_model.specs.Worlds.{World, Reached}
use Rattle.dealer_kind.specs.Kind.{dealer_of, log_of}
use Rattle.node_rules.specs.Standings.{Place, Standing, applied, front_of}
use Rattle.node_rules.specs.Sending.{Frame as Outgoing}
use Rattle.node_rules.specs.Showing.{Piece, header}
use Rattle.node_rules.specs.Turns.{Turn, Refusal, Down, still}
use Rattle.node_rules.specs.Rules.{IsTurn, IsTurnDown, IsTurnBy, standing_after, starting}
use Rattle.node_rules.specs.Calls.{Call, Start, Tick, Away, Line, Connect, Drop, Stop}
use Rattle.node_rules.specs.Calls as call
use Rattle.node_rules.specs.Being.{IsPlace, IsOf}
use Rattle.node_rules.specs.Called.{Comes, IsSaidTo, IsSaid, AreShown, text_in, text_with, texts_of, log_with, came_in, Called as RuleCalled, Ends, took, refused, failed, unchanged, events_by, events_of}
use Rattle.node_rules.specs.Called as rule
use Rattle.node_rules.specs.Sound.{Stands, CallsAreSound, LinesAreRefusedDown}
use Rattle.dealer_world.specs.Records.{Frame, Arrived, Ordered, said, said_by, messages_of}
use Rattle.dealer_world.specs.Calls.{Made, nothing_made, AreTold, added_by, log_after, read_by, HasKnown, BringsAll, frames_in, log_before, IsSound, HasHeader, Called}
use Rattle.dealer_world.specs.Runs.{AreWritten, text_by_rule, arrived_by, arrived_at, begins_by, Keeps, IsSeated, Ruled, IsOfRule}
use Rattle.node_rules.proofs.Results.{ok_is, err_is, ok_not}
use Rattle.node_rules.proofs.Beginning.{commands_known}
use Rattle.protocol_model.proofs.Sets.{in_first, in_later, in_split, only_in}
use Rattle.slot_log.proofs.Hands.{reverse-cons}
use Rattle.dealer_world.proofs.Lists.{reverse_map}
use Rattle.dealer_world.proofs.Starting.{starts_in, is_start, chain_counts}

-- ---- frames

said_as : (i : ℕ) (outgoing : Outgoing) (frame : Frame) → frame.from ≡ i → reading frame.bytes ≡ Ok outgoing.message → said_by frame ≡ carried i outgoing.message
said_as i outgoing frame from read = ap (messages_of frame.from) read ∙ ap (λ k. carried k outgoing.message) from

is_said : (i : ℕ) (outgoing : List Outgoing) (frames : List Frame) (message : Message) → AreWritten i outgoing frames → In message (said frames) → IsSaid i outgoing message
is_said i [] [] message written h = elim h [ ]
is_said i [] (frame ∷ frames) message written h = absurd written
is_said i (first ∷ more) [] message written h = absurd written
is_said i (first ∷ more) (frame ∷ frames) message (from, to, text, read, rest) h = elim (in_split (said_by frame) (said frames) message h) [
  | inl here ↦ (first.to, (first, inl refl, refl, subst (In message) (said_as i first frame from read) here))
  | inr there ↦ let found = is_said i more frames message rest there in (found.0, (found.1.0, inr found.1.1, found.1.2, found.1.3))
]

said_is : (i : ℕ) (outgoing : List Outgoing) (frames : List Frame) (message : Message) → AreWritten i outgoing frames → IsSaid i outgoing message → In message (said frames)
said_is i [] frames message written (to, (sent, there, is, says)) = elim there [ ]
said_is i (first ∷ more) [] message written found = absurd written
said_is i (first ∷ more) (frame ∷ frames) message (from, to, text, read, rest) (other, (sent, inl same, is, says)) =
    in_first (said_by frame) (said frames) message (subst (In message) (sym (said_as i first frame from read)) (subst (λ (o : Outgoing). In message (carried i o.message)) same says))
said_is i (first ∷ more) (frame ∷ frames) message (from, to, text, read, rest) (other, (sent, inr there, is, says)) =
    in_later (said_by frame) (said frames) message (said_is i more frames message rest (other, (sent, there, is, says)))

written_from : (i : ℕ) (outgoing : List Outgoing) (frames : List Frame) (frame : Frame) → AreWritten i outgoing frames → In frame frames
    → (sent : Outgoing) × In sent outgoing × (frame.from ≡ i) × (frame.to ≡ sent.to) × (reading frame.bytes ≡ Ok sent.message)
written_from i [] [] frame written there = elim there [ ]
written_from i [] (first ∷ frames) frame written there = absurd written
written_from i (sent ∷ more) [] frame written there = absurd written
written_from i (sent ∷ more) (first ∷ frames) frame (from, to, text, read, rest) (inl same) =
    (sent, inl refl, subst (λ (f : Frame). f.from ≡ i) (sym same) from, subst (λ (f : Frame). f.to ≡ sent.to) (sym same) to, subst (λ (f : Frame). reading f.bytes ≡ Ok sent.message) (sym same) read)
written_from i (sent ∷ more) (first ∷ frames) frame (from, to, text, read, rest) (inr there) =
    let found = written_from i more frames frame rest there in (found.0, inr found.1, found.2, found.3, found.4)

none_written : (i : ℕ) (frames : List Frame) → AreWritten i [] frames → frames ≡ []
none_written i [] written = refl
none_written i (frame ∷ frames) written = absurd written

-- ---- what is shown

log_with_is : (log : List ℕ) (reader : Reader) (text : List ℕ) → log_with log reader text ≡ log ++ added_by reader text
log_with_is log (Seat seat) text = sym (append-nil log)
log_with_is log Log text = refl

logs_behind : (log : List ℕ) (pieces : List Piece) (piece : Piece) → rule.log_after log (pieces ++ piece ∷ []) ≡ log_with (rule.log_after log pieces) piece.reader piece.text
logs_behind log [] piece = refl
logs_behind log (first ∷ pieces) piece = logs_behind (log_with log first.reader first.text) pieces piece

texts_behind : (log : List ℕ) (pieces : List Piece) (piece : Piece) → texts_of log (pieces ++ piece ∷ []) ≡ texts_of log pieces ++ text_with (rule.log_after log pieces) piece.reader piece.text ∷ []
texts_behind log [] piece = refl
texts_behind log (first ∷ pieces) piece = ap (λ texts. text_with log first.reader first.text ∷ texts) (texts_behind (log_with log first.reader first.text) pieces piece)

-- the log after pieces, newest first
same_log : (log : List ℕ) (newest : List Piece) → rule.log_after log (reverse newest) ≡ log_after log (map text_by_rule newest)
same_log log [] = refl
same_log log (piece ∷ before) =
    ap (rule.log_after log) (reverse-cons piece before)
    ∙ (logs_behind log (reverse before) piece
    ∙ (log_with_is (rule.log_after log (reverse before)) piece.reader piece.text
    ∙ ap (λ l. l ++ added_by piece.reader piece.text) (same_log log before)))

text_reader : (log : List ℕ) (reader : Reader) (text : List ℕ) → (text_with log reader text).reader ≡ reader
text_reader log (Seat seat) text = refl
text_reader log Log text = refl

text_read : (log : List ℕ) (reader : Reader) (text : List ℕ) → (text_with log reader text).text ≡ read_by reader log text
text_read log (Seat seat) text = refl
text_read log Log text = refl

told_by_rule : (i start : ℕ) (log : List ℕ) (shown : List Shown) (newest : List Piece) → map text_in shown ≡ reverse (texts_of log (reverse newest))
    → ((text : Shown) → In text shown → text.node ≡ i) → ((text : Shown) → In text shown → text.start ≡ start) → AreTold i start log shown (map text_by_rule newest)
told_by_rule i start log [] [] texts of_node of_start = tt
told_by_rule i start log (first ∷ more) [] texts of_node of_start = absurd cc
told_by_rule i start log shown (piece ∷ before) texts of_node of_start =
    by_shown shown (texts ∙ (ap (λ ps. reverse (texts_of log ps)) (reverse-cons piece before) ∙ (ap reverse (texts_behind log (reverse before) piece)
    ∙ reverse-append (texts_of log (reverse before)) (text_with (rule.log_after log (reverse before)) piece.reader piece.text ∷ [])))) of_node of_start
    (λ more rest of of_start'. told_by_rule i start log more before rest of of_start')
  where
    by_shown : (all : List Shown) → map text_in all ≡ text_with (rule.log_after log (reverse before)) piece.reader piece.text ∷ reverse (texts_of log (reverse before))
        → ((text : Shown) → In text all → text.node ≡ i) → ((text : Shown) → In text all → text.start ≡ start)
        → ((more : List Shown) → map text_in more ≡ reverse (texts_of log (reverse before)) → ((text : Shown) → In text more → text.node ≡ i) → ((text : Shown) → In text more → text.start ≡ start)
        → AreTold i start log more (map text_by_rule before))
        → AreTold i start log all (map text_by_rule (piece ∷ before))
    by_shown [] is node start_of rest = absurd cc
    by_shown (first ∷ more) is node start_of rest =
        let head : text_in first ≡ text_with (rule.log_after log (reverse before)) piece.reader piece.text = cc in
        let tail : map text_in more ≡ reverse (texts_of log (reverse before)) = cc in (
          record {
            of_node = node first (inl refl);
            in_start = start_of first (inl refl);
            to_reader = ap (λ (t : rule.Text). t.reader) head ∙ text_reader (rule.log_after log (reverse before)) piece.reader piece.text;
            whole = ap (λ (t : rule.Text). t.text) head ∙ (text_read (rule.log_after log (reverse before)) piece.reader piece.text ∙ ap (λ l. read_by piece.reader l piece.text) (same_log log before));
          },
          rest more tail (λ text there. node text (inr there)) (λ text there. start_of text (inr there)),
        )

-- ---- the whole, where the call is one by the rules

-- what of it came, and how often it started
record CameBy (i : ℕ) (arrived : List Arrived) (began : Bool) (came : List model.Arrival) (last : WorldNode) : Type 0 where
  brings : BringsAll i began arrived (map (λ (arrival : model.Arrival). arrival.event) came) ⊎ ((came ≡ []) × (last.up ≡ false))
  starts : starts_in came ≡ cond began 1 0

built : (own : ℕ → Command → Bool) (place : Place) (world : World) (log base : List ℕ) (called : Call) (events : List (List model.Event)) (frames : List Outgoing) (shown : List Piece) (arrived : List Arrived) (made : Made) (new : Standing)
    → (c : RuleCalled own place world.ever (world.nodes place.node) base (came_in called) events frames shown new)
    → place.node < place.nodes → AreWritten place.node frames made.frames → made.texts ≡ map text_by_rule shown
    → base ≡ log_before made.began log
    → CameBy place.node arrived made.began c.output.came c.last
    → (made.began ≡ true → HasHeader made.texts) → (arrived ≢ [] → (world.nodes place.node).up ≡ true)
    → (made.began ≡ false → made.texts ≢ [] → (world.nodes place.node).up ≡ true)
    → ((node front : ℕ) → In (Ordered node front) arrived → HasKnown (world.nodes place.node) front)
    → Called (IsOfRule own place) (dealer_of place.setting own) place.nodes place.node world.ever (world.nodes place.node) log arrived made new
built own place world log base called events frames shown arrived made new c within written texts same came header runs speaks knew =
    let i = place.node in
    let counts = chain_counts (dealer_of place.setting own) place.nodes i world.ever (world.nodes i) c.output c.last c.chain in
    let newest : reverse made.texts ≡ map text_by_rule (reverse shown) = ap reverse texts ∙ reverse_map text_by_rule shown in
    let log_is : rule.log_after base shown ≡ log_after base (reverse made.texts) =
    ap (rule.log_after base) (sym (reverse-reverse shown)) ∙ (same_log base (reverse shown) ∙ ap (log_after base) (sym newest)) in
    record {
      output = c.output;
      last = c.last;
      chain = c.chain;
      of = subst (λ b. IsOfRule own place new c.last (log_after b (reverse made.texts))) same (record { of = c.of; logs = λ up. sym log_is ∙ c.logged up });
      carries = λ message h. c.carry.said message (is_said i frames made.frames message written h);
      accepted = λ sender ballot slot command h. said_is i frames made.frames (Accepted sender ballot slot command) written (c.carry.accepted sender ballot slot command h);
      accepts = λ ballot slot command h.
          let proposed = is_said i frames made.frames (Accept ballot slot command) written h in
          let mine : ballot.node ≡ i = c.carry.own (Accept ballot slot command) (c.carry.said (Accept ballot slot command) proposed) in
          subst (λ k. In (Accepted k ballot slot command) (said made.frames)) (sym mine)
          (said_is i frames made.frames (Accepted i ballot slot command) written (c.carry.accepts ballot slot command proposed));
      own = λ frame there.
          let found = written_from i frames made.frames frame written there in
          let others = c.carry.others found.0 found.1 in
          record {
            is_node = subst (λ k. k < place.nodes) (sym found.2) within;
            to_node = subst (λ k. k < place.nodes) (sym found.3) others.0;
            other = λ equal. others.1 (sym found.3 ∙ (equal ∙ found.2));
            own = λ message h. c.carry.own message (c.carry.said message (found.0.to, (found.0, found.1, refl, subst (In message) (said_as i found.0 frame found.2 found.4) h))) ∙ sym found.2;
          };
      told = subst (λ b. AreTold i c.last.starts b c.output.shown (reverse made.texts)) same (subst (AreTold i c.last.starts base c.output.shown) (sym newest)
          (told_by_rule i c.last.starts base c.output.shown (reverse shown) (c.shown.texts ∙ ap (λ ps. reverse (texts_of base ps)) (sym (reverse-reverse shown))) c.shown.of_node c.shown.of_start));
      starts = starts_by made.began (starts_in c.output.came) (world.nodes i).starts c.last.starts counts.starts came.starts;
      header = header;
      runs = runs;
      awake = λ still up. counts.awake (came.starts ∙ ap (λ b. cond b 1 0) still) up;
      speaks = speaks;
      knew = knew;
      came = came.brings;
    }
  where
    starts_by : (began : Bool) (count was now : ℕ) → count + was ≡ now → count ≡ cond began 1 0 → now ≡ cond began (suc was) was
    starts_by true count was now sum is = omega arith
    starts_by false count was now sum is = omega arith

-- ---- each way in which a call may end

made_none : (made : Made) → made.frames ≡ [] → made.texts ≡ [] → made.began ≡ false → made ≡ nothing_made
made_none made frames texts began =
    ap (λ fs. let m : Made = record made { frames = fs } in m) frames
    ∙ (ap (λ ts. let m : Made = record { frames = []; texts = ts; began = made.began } in m) texts
    ∙ ap (λ b. let m : Made = record { frames = []; texts = []; began = b } in m) began)

-- a call that changes nothing
still_called : (own : ℕ → Command → Bool) (place : Place) (world : World) (log : List ℕ) (s : Standing) (arrived : List Arrived) (made : Made) (new : Standing)
    → IsOfRule own place s (world.nodes place.node) log → new ≡ s → arrived ≡ [] → made ≡ nothing_made
    → Called (IsOfRule own place) (dealer_of place.setting own) place.nodes place.node world.ever (world.nodes place.node) log arrived made new
still_called own place world log s arrived made new of same none_arrived none_made =
    subst (λ (n : Standing). Called (IsOfRule own place) (dealer_of place.setting own) place.nodes place.node world.ever (world.nodes place.node) log arrived made n) (sym same)
    (subst (λ (a : List Arrived). Called (IsOfRule own place) (dealer_of place.setting own) place.nodes place.node world.ever (world.nodes place.node) log a made s) (sym none_arrived)
    (subst (λ (m : Made). Called (IsOfRule own place) (dealer_of place.setting own) place.nodes place.node world.ever (world.nodes place.node) log [] m s) (sym none_made)
    record {
      output = nothing;
      last = world.nodes place.node;
      chain = Moves.none nothing (world.nodes place.node) refl refl;
      of = of;
      carries = λ message h. elim h [ ];
      accepted = λ sender ballot slot command h. elim h [ ];
      accepts = λ ballot slot command h. elim h [ ];
      own = λ frame h. elim h [ ];
      told = tt;
      starts = refl;
      header = λ is. absurd (true≢false (sym is));
      runs = λ some. absurd (some refl);
      awake = λ still up. up;
      speaks = λ still some. absurd (some refl);
      knew = λ node front h. elim h [ ];
      came = inl refl;
    }))

still_by : (own : ℕ → Command → Bool) (place : Place) (world : World) (log : List ℕ) (s : Standing) (frames : List Outgoing) (shown : List Piece) (arrived : List Arrived) (made : Made) (new : Standing)
    → IsOfRule own place s (world.nodes place.node) log → new ≡ s → frames ≡ [] → shown ≡ [] → arrived ≡ [] → made.began ≡ false
    → AreWritten place.node frames made.frames → made.texts ≡ map text_by_rule shown
    → Called (IsOfRule own place) (dealer_of place.setting own) place.nodes place.node world.ever (world.nodes place.node) log arrived made new
still_by own place world log s frames shown arrived made new of same no_frames no_pieces none_arrived not_begun written texts =
    still_called own place world log s arrived made new of same none_arrived
    (made_none made (none_written place.node made.frames (subst (λ fs. AreWritten place.node fs made.frames) no_frames written)) (texts ∙ ap (map text_by_rule) no_pieces) not_begun)

-- how many starts are among events
starts_of : List model.Event → ℕ
starts_of [] = 0
starts_of (event ∷ events) = is_start event + starts_of events

starts_in_events : (came : List model.Arrival) → starts_in came ≡ starts_of (events_of came)
unfolding starts_of
starts_in_events [] = refl
starts_in_events (latest ∷ before) = ap (λ n. is_start latest.event + n) (starts_in_events before)

no_event : (out : List model.Arrival) → events_of out ≡ [] → out ≡ []
no_event [] is = refl
no_event (arrival ∷ out) is = absurd cc

-- what a call that was taken by a node that runs brought
took_up : (i front : ℕ) (called : Call) (events : List model.Event) → In events (rule.taken_events i front true called) → BringsAll i false (arrived_by i front called) events × (starts_of events ≡ 0)
unfolding starts_of
took_up i front (Start found) events (inl is) = (is, ap starts_of is)
took_up i front (Start found) events (inr none) = elim none [ ]
took_up i front Tick events (inl is) = (is, ap starts_of is)
took_up i front Tick events (inr none) = elim none [ ]
took_up i front Away events (inl is) = ((refl, refl, inl is), ap starts_of is)
took_up i front Away events (inr none) = elim none [ ]
took_up i front (call.Frame from bytes) events (inl is) = ((refl, refl, is), ap starts_of is)
took_up i front (call.Frame from bytes) events (inr none) = elim none [ ]
took_up i front (Line seat bytes) events (inl is) = ((refl, refl, inl is), ap starts_of is)
took_up i front (Line seat bytes) events (inr (inl is)) = ((refl, refl, inr is), ap starts_of is)
took_up i front (Line seat bytes) events (inr (inr none)) = elim none [ ]
took_up i front (Connect seat) events (inl is) = ((refl, refl, is), ap starts_of is)
took_up i front (Connect seat) events (inr none) = elim none [ ]
took_up i front (Drop seat) events (inl is) = ((refl, refl, is), ap starts_of is)
took_up i front (Drop seat) events (inr none) = elim none [ ]
took_up i front Stop events (inl is) = (is, ap starts_of is)
took_up i front Stop events (inr none) = elim none [ ]

-- one that failed
failed_up : (i front : ℕ) (called : Call) (events : List model.Event) → In events (rule.failed_events i front called) → (BringsAll i false (arrived_by i front called) events ⊎ (events ≡ [])) × (starts_of events ≡ 0)
unfolding starts_of
failed_up i front (Start found) events (inl is) = (inr is, ap starts_of is)
failed_up i front (Start found) events (inr none) = elim none [ ]
failed_up i front Tick events (inl is) = (inr is, ap starts_of is)
failed_up i front Tick events (inr none) = elim none [ ]
failed_up i front Away events (inl is) = (inr is, ap starts_of is)
failed_up i front Away events (inr (inl is)) = (inl (refl, refl, inl is), ap starts_of is)
failed_up i front Away events (inr (inr none)) = elim none [ ]
failed_up i front (call.Frame from bytes) events (inl is) = (inr is, ap starts_of is)
failed_up i front (call.Frame from bytes) events (inr none) = elim none [ ]
failed_up i front (Line seat bytes) events (inl is) = (inr is, ap starts_of is)
failed_up i front (Line seat bytes) events (inr (inl is)) = (inl (refl, refl, inl is), ap starts_of is)
failed_up i front (Line seat bytes) events (inr (inr none)) = elim none [ ]
failed_up i front (Connect seat) events (inl is) = (inr is, ap starts_of is)
failed_up i front (Connect seat) events (inr none) = elim none [ ]
failed_up i front (Drop seat) events (inl is) = (inr is, ap starts_of is)
failed_up i front (Drop seat) events (inr none) = elim none [ ]
failed_up i front Stop events (inl is) = (inr is, ap starts_of is)
failed_up i front Stop events (inr none) = elim none [ ]

-- one that was refused: nothing came, and of what would have come from a seat the node is down
refused_up : LinesAreRefusedDown → (place : Place) (s : Standing) (called : Call) (refusal : Refusal) (events : List model.Event) → s.up ≡ true
    → IsTurn place s called (Err refusal) → events ≡ [] → BringsAll place.node false (arrived_by place.node (front_of s) called) events ⊎ ((standing_after place s (Err refusal)).up ≡ false)
refused_up law place s (Start found) refusal events up turn none = inl none
refused_up law place s Tick refusal events up turn none = inl none
refused_up law place s Away refusal events up turn none = inl (refl, refl, inr none)
refused_up law place s (call.Frame from bytes) refusal events up turn none = inl (refl, refl, none)
refused_up law place s (Line seat bytes) refusal events up turn none = inr (law place s seat bytes refusal turn up)
refused_up law place s (Connect seat) refusal events up turn none = absurd (ok_not _ refusal (sym (subst (λ b. IsTurnBy b place s (Connect seat) (Err refusal)) up turn)))
refused_up law place s (Drop seat) refusal events up turn none = absurd (ok_not _ refusal (sym (subst (λ b. IsTurnBy b place s (Drop seat) (Err refusal)) up turn)))
refused_up law place s Stop refusal events up turn none = inl none

not_begun_up : (called : Call) → begins_by true called ≡ false
not_begun_up (Start found) = refl
not_begun_up Tick = refl
not_begun_up Away = refl
not_begun_up (call.Frame from bytes) = refl
not_begun_up (Line seat bytes) = refl
not_begun_up (Connect seat) = refl
not_begun_up (Drop seat) = refl
not_begun_up Stop = refl

-- ---- a node that is down

-- refused, it is as it was
down_refused : (place : Place) (s : Standing) (called : Call) (refusal : Refusal) → IsTurnDown place s called (Err refusal) → refusal ≡ Down
down_refused place s (Start found) refusal (which, is) = absurd (ok_not _ refusal (sym is))
down_refused place s Tick refusal is = err_is refusal Down is
down_refused place s Away refusal is = err_is refusal Down is
down_refused place s (call.Frame from bytes) refusal is = err_is refusal Down is
down_refused place s (Line seat bytes) refusal is = err_is refusal Down is
down_refused place s (Connect seat) refusal is = err_is refusal Down is
down_refused place s (Drop seat) refusal is = err_is refusal Down is
down_refused place s Stop refusal is = absurd (ok_not _ refusal (sym is))

-- taken, it is started, or as it was
abbrev IsStill : Standing → Call → Turn → Type 0
IsStill s called turn = (turn ≡ still s) × (begins_by false called ≡ false)

abbrev IsStarting : Place → Call → Turn → Type 0
IsStarting place called turn = (found : Store) × (called ≡ Start found) × (turn ≡ starting place found)

down_took : (place : Place) (s : Standing) (called : Call) (turn : Turn) → IsTurnDown place s called (Ok turn) → IsStill s called turn ⊎ IsStarting place called turn
down_took place s (Start found) turn (which, is) = inr (found, refl, ok_is turn _ is)
down_took place s Tick turn is = absurd (ok_not turn Down is)
down_took place s Away turn is = absurd (ok_not turn Down is)
down_took place s (call.Frame from bytes) turn is = absurd (ok_not turn Down is)
down_took place s (Line seat bytes) turn is = absurd (ok_not turn Down is)
down_took place s (Connect seat) turn is = absurd (ok_not turn Down is)
down_took place s (Drop seat) turn is = absurd (ok_not turn Down is)
down_took place s Stop turn is = inl (ok_is turn _ is, refl)

messages_are : (from : ℕ) (read : Result Content FrameFault) → messages_of from read ≡ rule.said_in from read
messages_are from (Ok content) = refl
messages_are from (Err fault) = refl

-- what came to a node that runs may come
pub comes_up : (place : Place) (front : ℕ) (ever : List Message) (called : Call) (arrived : List Arrived) → IsSeated place.setting.game.players called → arrived ≡ arrived_by place.node front called
    → ((frame : Frame) → In frame (frames_in arrived) → IsSound place.nodes place.node ever frame) → Comes place ever called
comes_up place front ever (Start found) arrived seated is sound = tt
comes_up place front ever Tick arrived seated is sound = tt
comes_up place front ever Away arrived seated is sound = tt
comes_up place front ever (call.Frame from bytes) arrived seated is sound =
    let frame : Frame = record { from = from; to = place.node; bytes = bytes } in
    let good = sound frame (subst (λ (a : List Arrived). In frame (frames_in a)) (sym is) (inl refl)) in
    record {
      node = good.is_node;
      other = good.other;
      sent = λ message h. good.sent message (subst (In message) (sym (messages_are from (reading bytes))) h);
      sender = λ message h. good.own message (subst (In message) (sym (messages_are from (reading bytes))) h);
    }
comes_up place front ever (Line seat bytes) arrived seated is sound = seated
comes_up place front ever (Connect seat) arrived seated is sound = seated
comes_up place front ever (Drop seat) arrived seated is sound = seated
comes_up place front ever Stop arrived seated is sound = tt

arrived_some : (i front : ℕ) (up : Bool) (called : Call) (arrived : List Arrived) → arrived ≡ arrived_at up i front called → arrived ≢ [] → up ≡ true
arrived_some i front true called arrived is some = refl
arrived_some i front false called arrived is some = absurd (some is)

starts_of_one : (i : ℕ) → starts_of (model.Started i ∷ []) ≡ 1
unfolding starts_of
starts_of_one i = refl

starts_of_none : starts_of [] ≡ 0
unfolding starts_of
starts_of_none = refl

-- ---- what a node knew when an order came

-- of the calls an order alone brings one, with the node's front
order_of : (i front : ℕ) (called : Call) (node below : ℕ) → In (Ordered node below) (arrived_by i front called) → below ≡ front
order_of i front (Start found) node below there = elim there [ ]
order_of i front Tick node below there = elim there [ ]
order_of i front Away node below (inl is) = cc
order_of i front Away node below (inr none) = elim none [ ]
order_of i front (call.Frame from bytes) node below (inl is) = absurd cc
order_of i front (call.Frame from bytes) node below (inr none) = elim none [ ]
order_of i front (Line seat bytes) node below (inl is) = absurd cc
order_of i front (Line seat bytes) node below (inr none) = elim none [ ]
order_of i front (Connect seat) node below (inl is) = absurd cc
order_of i front (Connect seat) node below (inr none) = elim none [ ]
order_of i front (Drop seat) node below (inl is) = absurd cc
order_of i front (Drop seat) node below (inr none) = elim none [ ]
order_of i front Stop node below there = elim there [ ]

pub knew_at : (own : ℕ → Command → Bool) (place : Place) (world : World) (s : Standing) (called : Call) (node front : ℕ) → IsOf own place s (world.nodes place.node) → s.up ≡ true
    → In (Ordered node front) (arrived_by place.node (front_of s) called) → HasKnown (world.nodes place.node) front
knew_at own place world s called node front of up there = (
  applied s,
  sym (order_of place.node (front_of s) called node front there),
  commands_known s.learned.log (world.nodes place.node).known (of.runs up).knows.learner.knows,
)

-- ---- a call by the rules, at a node that runs

abbrev IsRuled : (ℕ → Command → Bool) → Place → World → List ℕ → List Arrived → Made → Standing → Type 0
IsRuled own place world log arrived made new =
    Called (IsOfRule own place) (dealer_of place.setting own) place.nodes place.node world.ever (world.nodes place.node) log arrived made new

up_built : (own : ℕ → Command → Bool) (place : Place) (world : World) (log : List ℕ) (s : Standing) (called : Call) (events : List (List model.Event)) (frames : List Outgoing) (shown : List Piece) (arrived : List Arrived) (made : Made) (new : Standing)
    → place.node < place.nodes → IsOfRule own place s (world.nodes place.node) log → s.up ≡ true
    → (c : RuleCalled own place world.ever (world.nodes place.node) (rule.log_before place s) (came_in called) events frames shown new)
    → AreWritten place.node frames made.frames → made.texts ≡ map text_by_rule shown → made.began ≡ false
    → (BringsAll place.node false arrived (events_of c.output.came) ⊎ ((c.output.came ≡ []) × (c.last.up ≡ false))) → starts_of (events_of c.output.came) ≡ 0
    → arrived ≡ arrived_by place.node (front_of s) called
    → IsRuled own place world log arrived made new
up_built own place world log s called events frames shown arrived made new within of up c written texts not_begun brings none came =
    let first_up : (world.nodes place.node).up ≡ true = of.of.up ∙ up in
    let base : rule.log_before place s ≡ log_before made.began log =
    ap (λ b. cond b (log_of place.setting (applied s)) []) up ∙ (sym (of.logs up) ∙ ap (λ b. log_before b log) (sym not_begun)) in
    built own place world log (rule.log_before place s) called events frames shown arrived made new c within written texts base
    (record {
      brings = subst (λ b. BringsAll place.node b arrived (events_of c.output.came) ⊎ ((c.output.came ≡ []) × (c.last.up ≡ false))) (sym not_begun) brings;
      starts = starts_in_events c.output.came ∙ (none ∙ ap (λ b. cond b 1 0) (sym not_begun));
    })
    (λ begun. absurd (true≢false (sym begun ∙ not_begun)))
    (λ some. first_up) (λ still some. first_up)
    (λ node front there. knew_at own place world s called node front of.of up (subst (In (Ordered node front)) came there))

-- ---- a call by the rules

pub called_by_rule : (own : ℕ → Command → Bool) (place : Place) (world : World) (log : List ℕ) (s : Standing) (called : Call) (arrived : List Arrived) (made : Made) (new : Standing)
    → CallsAreSound → LinesAreRefusedDown → IsPlace own place → Reached (dealer_of place.setting own) place.nodes world
    → IsOfRule own place s (world.nodes place.node) log → Ruled place s called arrived made new
    → ((frame : Frame) → In frame (frames_in arrived) → IsSound place.nodes place.node world.ever frame)
    → IsRuled own place world log arrived made new
called_by_rule own place world log s called arrived made new law refused_down is_place reached of r sound =
    by_end r.ends refl s.up refl r.keeps
  where
    stands : Stands own place world s
    stands = record { is_place = is_place; reached = reached; of = of.of }

    by_end : (ends : Ends place s called new r.frames r.shown) → r.ends ≡ ends → (up : Bool) → s.up ≡ up → Keeps place s called new r.frames r.shown ends arrived made.began
        → IsRuled own place world log arrived made new
    by_end (unchanged same no_frames no_pieces) is up is_up (none_arrived, not_begun) =
        still_by own place world log s r.frames r.shown arrived made new of same no_frames no_pieces none_arrived not_begun r.written r.texts
    by_end (refused refusal turn same no_frames no_pieces) is false down (came, not_begun) =
        let is_down = down_refused place s called refusal (subst (λ b. IsTurnBy b place s called (Err refusal)) down turn) in
        still_by own place world log s r.frames r.shown arrived made new of (same ∙ ap (λ (k : Refusal). standing_after place s (Err k)) is_down) no_frames no_pieces
        (came ∙ ap (λ b. arrived_at b place.node (front_of s) called) down) not_begun r.written r.texts
    by_end (failed outcome begun up turn either same no_frames no_pieces) is false down (came, not_begun) = absurd (true≢false (sym up ∙ down))
    by_end (took turn turned same frames_are pieces_are) is false down (came, begins) = elim (down_took place s called turn (subst (λ b. IsTurnBy b place s called (Ok turn)) down turned)) [
      | inl (is_still, not_begun) ↦
          still_by own place world log s r.frames r.shown arrived made new of (same ∙ ap (λ (t : Turn). t.after) is_still) (frames_are ∙ ap (λ (t : Turn). t.frames) is_still) (pieces_are ∙ ap (λ (t : Turn). t.shown) is_still)
          (came ∙ ap (λ b. arrived_at b place.node (front_of s) called) down) (begins ∙ (ap (λ b. begins_by b called) down ∙ not_begun)) r.written r.texts
      | inr (found, is_start_call, is_starting) ↦
          let c = law own place world s called new r.frames r.shown stands (subst (Comes place world.ever) (sym is_start_call) tt) (took turn turned same frames_are pieces_are) in
          let begun : made.began ≡ true = begins ∙ (ap (λ b. begins_by b called) down ∙ ap (begins_by false) is_start_call) in
          let none_arrived : arrived ≡ [] = came ∙ ap (λ b. arrived_at b place.node (front_of s) called) down in
          let base : rule.log_before place s ≡ log_before made.began log = ap (λ b. cond b (log_of place.setting (applied s)) []) down ∙ ap (λ b. log_before b log) (sym begun) in
          let events : In (events_of c.output.came) ((model.Started place.node ∷ []) ∷ []) =
          subst (λ (k : Call). In (events_of c.output.came) (rule.taken_events place.node (front_of s) false k)) is_start_call (subst (λ b. In (events_of c.output.came) (rule.taken_events place.node (front_of s) b called)) down c.happened) in
          let one : events_of c.output.came ≡ model.Started place.node ∷ [] = only_in _ _ events in
          let text : made.texts ≡ text_by_rule (header place.setting) ∷ [] = r.texts ∙ ap (map text_by_rule) (pieces_are ∙ ap (λ (t : Turn). t.shown) is_starting) in
          built own place world log (rule.log_before place s) called (rule.taken_events place.node (front_of s) s.up called) r.frames r.shown arrived made new c is_place.node r.written r.texts base
          (record {
            brings = inl (subst (λ b. BringsAll place.node b arrived (events_of c.output.came)) (sym begun) (subst (λ (a : List Arrived). BringsAll place.node true a (events_of c.output.came)) (sym none_arrived) one));
            starts = starts_in_events c.output.came ∙ (ap starts_of one ∙ (starts_of_one place.node ∙ ap (λ b. cond b 1 0) (sym begun)));
          })
          (λ is_begun. (text_by_rule (header place.setting), subst (In (text_by_rule (header place.setting))) (sym text) (inl refl), refl))
          (λ some. absurd (some none_arrived)) (λ still_now some. absurd (true≢false (sym begun ∙ still_now)))
          (λ node front there. elim (subst (In (Ordered node front)) none_arrived there) [ ])
    ]
    by_end (took turn turned same frames_are pieces_are) is true up (came, begins) =
        let came_up : arrived ≡ arrived_by place.node (front_of s) called = came ∙ ap (λ b. arrived_at b place.node (front_of s) called) up in
        let c = law own place world s called new r.frames r.shown stands (comes_up place (front_of s) world.ever called arrived r.seated came_up sound) (took turn turned same frames_are pieces_are) in
        let events = took_up place.node (front_of s) called (events_of c.output.came) (subst (λ b. In (events_of c.output.came) (rule.taken_events place.node (front_of s) b called)) up c.happened) in
        up_built own place world log s called (rule.taken_events place.node (front_of s) s.up called) r.frames r.shown arrived made new is_place.node of up c r.written r.texts
        (begins ∙ (ap (λ b. begins_by b called) up ∙ not_begun_up called))
        (inl (subst (λ (a : List Arrived). BringsAll place.node false a (events_of c.output.came)) (sym came_up) events.0)) events.1 came_up
    by_end (refused refusal turn same no_frames no_pieces) is true up (came, not_begun) =
        let came_up : arrived ≡ arrived_by place.node (front_of s) called = came ∙ ap (λ b. arrived_at b place.node (front_of s) called) up in
        let c = law own place world s called new r.frames r.shown stands (comes_up place (front_of s) world.ever called arrived r.seated came_up sound) (refused refusal turn same no_frames no_pieces) in
        let none : events_of c.output.came ≡ [] = only_in _ _ c.happened in
        up_built own place world log s called ([] ∷ []) r.frames r.shown arrived made new is_place.node of up c r.written r.texts not_begun
        (elim (refused_up refused_down place s called refusal (events_of c.output.came) up turn none) [
          | inl brings ↦ inl (subst (λ (a : List Arrived). BringsAll place.node false a (events_of c.output.came)) (sym came_up) brings)
          | inr down ↦ inr (no_event c.output.came none, c.of.up ∙ (ap (λ (n : Standing). n.up) same ∙ down))
        ]) (ap starts_of none ∙ starts_of_none) came_up
    by_end (failed outcome begun was_up turn either same no_frames no_pieces) is true up (came, not_begun) =
        let came_up : arrived ≡ arrived_by place.node (front_of s) called = came ∙ ap (λ b. arrived_at b place.node (front_of s) called) up in
        let c = law own place world s called new r.frames r.shown stands (comes_up place (front_of s) world.ever called arrived r.seated came_up sound) (failed outcome begun was_up turn either same no_frames no_pieces) in
        let events = failed_up place.node (front_of s) called (events_of c.output.came) c.happened in
        up_built own place world log s called (rule.failed_events place.node (front_of s) called) r.frames r.shown arrived made new is_place.node of up c r.written r.texts not_begun
        (elim events.0 [
          | inl brings ↦ inl (subst (λ (a : List Arrived). BringsAll place.node false a (events_of c.output.came)) (sym came_up) brings)
          | inr none ↦ inr (no_event c.output.came none, c.of.up ∙ ap (λ (n : Standing). n.up) same)
        ]) events.1 came_up

-- what a call that was broken off brought
pub events_left : (i front : ℕ) (called : Call) (came : List model.Arrival) → In (events_of came) (rule.failed_events i front called) → BringsAll i false (arrived_by i front called) (events_of came) ⊎ (came ≡ [])
events_left i front called came there = elim (failed_up i front called (events_of came) there).0 [ inl brings ↦ inl brings | inr none ↦ inr (no_event came none) ]

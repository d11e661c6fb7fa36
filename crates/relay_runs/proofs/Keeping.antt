-- What happened stays what passed, call by call.
use Rattle.std.proofs.Common.{◌≡◌, ◌⊎◌, ℕ, ◌+◌, ◌<◌, ◌≤◌, ◌==◌, Bool, true, false, if◌then◌else◌, List, [], ◌∷◌, ◌++◌, append_assoc, append-nil, length, set, inl, inr, Option, Some, None, option_to_list, IfSome, add-zero, refl, ap, sym, subst, ◌∙◌, arith}
use Rattle.std.proofs.lemmas.Bool.{cases_eq, eq-eqb, ne_eqb, false≢true}
use Rattle.byte_queue.specs.Queued.{Queued}
use Rattle.node_wires.specs.declared.line.Line.{Line as Wire}
use Rattle.node_wires.specs.declared.line.Line.TheVariants.{Peer, Seat}
use Rattle.node_wires.specs.declared.way.Way.{Way}
use Rattle.node_wires.specs.declared.way.Way.TheVariants.{Reading, Writing}
use Rattle.node_wires.specs.declared.halt.Halt.TheVariants as halts
use Rattle.node_wires.specs.Passages.{Passage, Began, Came, Wrote, Gave, Logged, Tried, Ended, Closed, Saw, Waited, Called, came_over, came_by, wrote_over, wrote_by}
use Rattle.seat_relay.specs.declared.mode.Mode.{Mode}
use Rattle.seat_relay.specs.Relaying.{Line, Standing, Event, Begins, Ends, Tells, Closes, Says, Pushes, Story, after, answered, given, all_given, with_event, is_given, is_even, link_at}
use Rattle.seat_relay.specs.Laws.{fresh, begun}
use Rattle.relay_runs.specs.declared.desk.Desk.{Desk}
use Rattle.relay_runs.specs.declared.opening.Opening.{Opening}
use Rattle.relay_runs.specs.Since.{is_taken_in, since_bot, bots_in, begins_there, begun_over}
use Rattle.relay_runs.specs.Said.{ended, bytes_of_lines, bytes_of_answers, greeting, asks, asked_behind, asked_over, first_of, lines_given, said_over, begins_at, over_by, over_behind, waits_at, AreEmpty, first_over, IsSaid, Halts, Reads, Writes}
use Rattle.relay_runs.specs.Heard.{IsHeard}
use Rattle.relay_runs.specs.Own.{is_own, IsOwn, was_dialled, IsNoneDialled, IsOwned}
use Rattle.relay_runs.specs.Few.{IsTail, IsFew}
use Rattle.relay_runs.specs.Course.{Explains, ComesBehind, IsNext, Course}
use Rattle.relay_runs.specs.Kept.{GoesOn, BeginsAnew, IsMode, are_mended, FirstStands, Keeps, Stays}
use Rattle.relay_runs.proofs.Writing.{write_behind, came_more, own_line, since_more, since_taken, bots_same, bots_more, bots_one, more_begun}
use Rattle.relay_runs.proofs.Waiting.{waits_here, waits_elsewhere, set_back}
use Rattle.relay_runs.proofs.Hearing.{heard_alike, heard_still, heard_read_node, heard_read_bot, heard_fresh}
use Rattle.relay_runs.proofs.Happening.{given_more, over_more, begun_more, lines_more, answers_more, more_over, over_is, over_begins}
use Rattle.relay_runs.proofs.Owning.{owned_alike, owned_more, owned_came, owned_wrote, owned_dialled, owned_fresh}
use Rattle.relay_runs.proofs.Bounds.{tail_same, tail_behind, few_alike, as_long, behind_piece, first_then, first_now, SaysFew, few_event, few_lines, few_fresh}
use Rattle.relay_runs.proofs.Courses.{courses_explain}

-- ---- together

grows_on : (a b c : Desk) (x y z : List Passage) → (Course b (since_bot y) → Course c (since_bot z)) → GoesOn a b x y ⊎ BeginsAnew b x y → GoesOn b c y z ⊎ BeginsAnew c y z → GoesOn a c x z ⊎ BeginsAnew c x z
grows_on a b c x y z course (inl one) (inl two) =
    inl (record { bots = two.bots ∙ one.bots; more = one.more ++ two.more; happened = two.happened ∙ (ap (λ (es : List Event). es ++ two.more) one.happened ∙ append_assoc a.relay.events one.more two.more) })
grows_on a b c x y z course (inl one) (inr two) = inr (record { bots = subst (λ (n : ℕ). n < bots_in z) one.bots two.bots; course = two.course })
grows_on a b c x y z course (inr one) (inl two) = inr (record { bots = subst (λ (n : ℕ). bots_in x < n) (sym two.bots) one.bots; course = course one.course })
grows_on a b c x y z course (inr one) (inr two) =
    let first : bots_in x < bots_in y = one.bots in let second : bots_in y < bots_in z = two.bots in inr (record { bots = omega arith; course = two.course })

pub kept_on : (a b c : Desk) (x y z : List Passage) → Keeps a b x y → Keeps b c y z → Keeps a c x z
kept_on a b c x y z one two = record {
  hello = two.hello ∙ one.hello;
  mended = two.mended ∙ one.mended;
  course = λ s. two.course (one.course s);
  mode = λ newest is. two.mode newest (one.mode newest is);
  stands = λ is. two.stands (one.stands is);
  grows = grows_on a b c x y z two.course one.grows two.grows;
}

-- where the bots' lines begin, as long as none is taken in
mode_same : (a b : Desk) (x y : List Passage) → b.opening ≡ a.opening → b.relay.mode ≡ a.relay.mode → bots_in y ≡ bots_in x → (newest : Bool) → IsMode newest a x → IsMode newest b y
mode_same a b x y opening relay bots newest is = record {
  next = λ none. ap (λ (o : Opening). o.newest) opening ∙ is.next (sym bots ∙ none);
  later = λ some. ap (λ (o : Opening). o.newest) opening ∙ is.later (subst (λ (n : ℕ). 0 < n) bots some);
  first = λ one. ap (λ (m : Mode). m.newest) relay ∙ is.first (sym bots ∙ one);
  further = λ more. ap (λ (m : Mode). m.newest) relay ∙ is.further (subst (λ (n : ℕ). 1 < n) bots more);
}

stands_same : (a b : Desk) → b.relay.mode ≡ a.relay.mode → b.mended ≡ a.mended → FirstStands a → FirstStands b
stands_same a b mode mended is = ap (λ (m : Mode). m.first_stands) mode ∙ (is ∙ ap are_mended (sym mended))

pub kept_same : (a b : Desk) (x y : List Passage) → b ≡ a → y ≡ x → Keeps a b x y
kept_same a b x y e f = record {
  hello = ap (λ (d : Desk). d.opening.token.items) e;
  mended = ap (λ (d : Desk). d.mended) e;
  mode = mode_same a b x y (ap (λ (d : Desk). d.opening) e) (ap (λ (d : Desk). d.relay.mode) e) (ap bots_in f);
  stands = stands_same a b (ap (λ (d : Desk). d.relay.mode) e) (ap (λ (d : Desk). d.mended) e);
  course = λ s. subst (λ (d : Desk). Course d (since_bot y)) (sym e) (subst (λ (ps : List Passage). Course a (since_bot ps)) (sym f) s);
  grows = inl (record { bots = ap bots_in f; more = []; happened = ap (λ (d : Desk). d.relay.events) e ∙ sym (append-nil a.relay.events) });
}

-- ---- one step

-- one event more at most and one passage more at most, by which what happened stays what passed
record Steps (a b : Desk) (x y : List Passage) : Type 0 where
  next : IsNext a b x y
  begun : ((node : ℕ) → begun node a.relay.events ≡ begun_over x (Peer node)) → (node : ℕ) → begun node b.relay.events ≡ begun_over y (Peer node)
  said : IsSaid a x → IsSaid b y
  heard : IsHeard a x → IsHeard b y
  own : IsOwned a x → IsOwned b y
  few : IsFew a → IsFew b

course_on : (a b : Desk) (x y : List Passage) → Steps a b x y → Course a x → Course b y
course_on a b x y s c =
    let was : Explains a x = courses_explain a x c in
    Course.step a b x y c s.next (record { begun = s.begun was.begun; said = s.said was.said; heard = s.heard was.heard; own = s.own was.own; few = s.few was.few })

-- nothing passes
kept_quietly : (a b : Desk) (x : List Passage) → Steps a b (since_bot x) (since_bot x) → Keeps a b x x
kept_quietly a b x s = record {
  hello = ap (λ (o : Opening). o.token.items) s.next.hello;
  mended = s.next.mended;
  mode = mode_same a b x x s.next.hello s.next.mode refl;
  stands = stands_same a b s.next.mode s.next.mended;
  course = course_on a b (since_bot x) (since_bot x) s;
  grows = inl (record { bots = refl; more = option_to_list s.next.event; happened = s.next.happened });
}

-- something does
kept_passing : (a b : Desk) (x y : List Passage) (p : Passage) → y ≡ x ++ p ∷ [] → is_taken_in p ≡ false → Steps a b (since_bot x) (since_bot x ++ p ∷ []) → Keeps a b x y
kept_passing a b x y p f isnt s = record {
  hello = ap (λ (o : Opening). o.token.items) s.next.hello;
  mended = s.next.mended;
  mode = mode_same a b x y s.next.hello s.next.mode (bots_same x y p f isnt);
  stands = stands_same a b s.next.mode s.next.mended;
  course = λ c. subst (Course b) (sym (since_more x y p f isnt)) (course_on a b (since_bot x) (since_bot x ++ p ∷ []) s c);
  grows = inl (record { bots = bots_same x y p f isnt; more = option_to_list s.next.event; happened = s.next.happened });
}

-- ---- without an event

-- both halves of what was written and waits
joined : (w v p q : List ℕ) → v ≡ w → q ≡ p → v ++ q ≡ w ++ p
joined w v p q f e = ap (λ (l : List ℕ). l ++ q) f ∙ ap (λ (l : List ℕ). w ++ l) e

steps_by : (a b : Desk) (x y : List Passage) (p : Option Passage) → y ≡ x ++ option_to_list p → ((node : ℕ) → begun_over y (Peer node) ≡ begun_over x (Peer node)) → b.opening ≡ a.opening → b.mended ≡ a.mended
    → b.relay ≡ a.relay → wrote_over y (Seat 0) ++ b.to_bot.waiting ≡ wrote_over x (Seat 0) ++ a.to_bot.waiting
    → ((node : ℕ) → wrote_over y (Peer node) ++ waits_at b.to_nodes.items node ≡ wrote_over x (Peer node) ++ waits_at a.to_nodes.items node) → (IsHeard a x → IsHeard b y)
    → (IsOwned a x → IsOwned b y) → IfSome p (ComesBehind a) → (IsFew a → IsFew b) → Steps a b x y
steps_by a b x y p f counts hello mended relay bot others heard own behind few = record {
  next = record { hello = hello; mode = ap (λ (r : Story). r.mode) relay; nodes = ap (λ (r : Story). r.nodes) relay; mended = mended; event = None; happened = ap (λ (r : Story). r.events) relay ∙ sym (append-nil a.relay.events); passage = p; passed = f; behind = behind };
  begun = λ was node. ap (λ (r : Story). begun node r.events) relay ∙ (was node ∙ sym (counts node));
  heard = heard;
  own = own;
  few = few;
  said = λ s. record {
    bot = bot ∙ (s.bot ∙ ap (λ (r : Story). bytes_of_lines (lines_given r)) (sym relay));
    nodes = λ node.
        others node ∙ (s.nodes node
        ∙ (ap (λ (o : Opening). first_of o.token.items (asked_over node a.relay) ++ bytes_of_answers (said_over node a.relay)) (sym hello)
        ∙ ap (λ (r : Story). first_of b.opening.token.items (asked_over node r) ++ bytes_of_answers (said_over node r)) (sym relay)));
  };
}

-- what waits stays, and nothing passes
pub kept_quiet : (a b : Desk) (x : List Passage) → b.opening ≡ a.opening → b.mended ≡ a.mended → b.dialled.items ≡ a.dialled.items → b.relay ≡ a.relay → b.to_bot.waiting ≡ a.to_bot.waiting → b.to_nodes.items ≡ a.to_nodes.items
    → (b.is_seated ≡ false → a.is_seated ≡ false) → (IsHeard a (since_bot x) → IsHeard b (since_bot x)) → Keeps a b x x
kept_quiet a b x hello mended dialled relay bot queues seat heard =
    kept_quietly a b x (steps_by a b (since_bot x) (since_bot x) None (sym (append-nil (since_bot x))) (λ node. refl) hello mended relay (ap (λ (l : List ℕ). wrote_over (since_bot x) (Seat 0) ++ l) bot)
    (λ node. ap (λ (qs : List Queued). wrote_over (since_bot x) (Peer node) ++ waits_at qs node) queues) heard (owned_alike a b (since_bot x) dialled seat) tt
    (few_alike a b hello relay (as_long _ _ bot) (λ node. tail_same _ _ (ap (λ (qs : List Queued). waits_at qs node) queues))))

pub kept_alike : (a b : Desk) (x : List Passage) → b.opening ≡ a.opening → b.mended ≡ a.mended → b.dialled.items ≡ a.dialled.items → b.relay ≡ a.relay → b.to_bot.waiting ≡ a.to_bot.waiting → b.to_nodes.items ≡ a.to_nodes.items
    → b.from_nodes.items ≡ a.from_nodes.items → b.from_bot.waiting ≡ a.from_bot.waiting → b.passes_over ≡ a.passes_over → b.is_seated ≡ a.is_seated → Keeps a b x x
kept_alike a b x hello mended dialled relay bot queues from_nodes from_bot over seat =
    kept_quiet a b x hello mended dialled relay bot queues (λ off. sym seat ∙ off) (heard_alike a b (since_bot x) (since_bot x) mended relay (λ at. refl) from_nodes from_bot over seat)

-- the queues of nodes were taken out and put back
pub kept_idle : (a b : Desk) (x y : List Passage) → b.opening ≡ a.opening → b.mended ≡ a.mended → b.dialled.items ≡ a.dialled.items → b.relay ≡ a.relay → b.to_bot.waiting ≡ a.to_bot.waiting
    → ((node : ℕ) → waits_at b.to_nodes.items node ≡ waits_at a.to_nodes.items node) → ((node : ℕ) → waits_at b.from_nodes.items node ≡ waits_at a.from_nodes.items node)
    → b.from_bot.waiting ≡ a.from_bot.waiting → b.passes_over ≡ a.passes_over → b.is_seated ≡ a.is_seated → y ≡ x → Keeps a b x y
kept_idle a b x y hello mended dialled relay bot to_nodes from_nodes from_bot over seat f =
    let z : List Passage = since_bot x in
    subst (Keeps a b x) (sym f)
    (kept_quietly a b x (steps_by a b z z None (sym (append-nil z)) (λ node. refl) hello mended relay (ap (λ (l : List ℕ). wrote_over z (Seat 0) ++ l) bot)
    (λ node. ap (λ (l : List ℕ). wrote_over z (Peer node) ++ l) (to_nodes node)) (heard_still a b z mended relay from_nodes from_bot over seat) (owned_alike a b z dialled (λ off. sym seat ∙ off)) tt
    (few_alike a b hello relay (as_long _ _ bot) (λ node. tail_same _ _ (to_nodes node)))))

-- a piece is written or read, by which no connection begins
same_count : (x : List Passage) (p : Passage) (node : ℕ) → begins_there (Peer node) p ≡ false → begun_over (x ++ p ∷ []) (Peer node) ≡ begun_over x (Peer node)
same_count x p node isnt = more_begun x (x ++ p ∷ []) p (Peer node) refl ∙ (ap (λ (t : Bool). begun_over x (Peer node) + (if t then 1 else 0)) isnt ∙ add-zero (begun_over x (Peer node)))

-- ---- what moves nothing

-- a read or a write that is halted, a connection that is closed, a look at the clock, a wait
abbrev IsIdle : Passage → Type 0
IsIdle (Began line) = ⊥
IsIdle (Came line bytes) = ⊥
IsIdle (Wrote line bytes) = ⊥
IsIdle (Gave place seat) = ⊥
IsIdle (Logged text) = ⊥
IsIdle (Tried line way) = is_own line ≡ true
IsIdle (Ended line way) = is_own line ≡ true
IsIdle (Closed line) = is_own line ≡ true
IsIdle (Saw moment) = Unit {0}
IsIdle (Waited most) = Unit {0}
IsIdle Called = ⊥

idle_taken : (p : Passage) → IsIdle p → is_taken_in p ≡ false
idle_taken (Began at) is = absurd is
idle_taken (Came at bytes) is = absurd is
idle_taken (Wrote at bytes) is = absurd is
idle_taken (Gave place seat) is = absurd is
idle_taken (Logged text) is = absurd is
idle_taken (Tried at way) is = refl
idle_taken (Ended at way) is = refl
idle_taken (Closed at) is = refl
idle_taken (Saw moment) is = refl
idle_taken (Waited most) is = refl
idle_taken Called is = absurd is

idle_begins : (line : Wire) (p : Passage) → IsIdle p → begins_there line p ≡ false
idle_begins line (Began at) is = absurd is
idle_begins line (Came at bytes) is = absurd is
idle_begins line (Wrote at bytes) is = absurd is
idle_begins line (Gave place seat) is = absurd is
idle_begins line (Logged text) is = absurd is
idle_begins line (Tried at way) is = refl
idle_begins line (Ended at way) is = refl
idle_begins line (Closed at) is = refl
idle_begins line (Saw moment) is = refl
idle_begins line (Waited most) is = refl
idle_begins line Called is = absurd is

idle_own : (p : Passage) → IsIdle p → IsOwn p
idle_own (Began at) is = absurd is
idle_own (Came at bytes) is = absurd is
idle_own (Wrote at bytes) is = absurd is
idle_own (Gave place seat) is = absurd is
idle_own (Logged text) is = absurd is
idle_own (Tried at way) is = is
idle_own (Ended at way) is = is
idle_own (Closed at) is = is
idle_own (Saw moment) is = tt
idle_own (Waited most) is = tt
idle_own Called is = absurd is

idle_wrote : (line : Wire) (before : List ℕ) (p : Passage) → IsIdle p → wrote_by line before p ≡ before
idle_wrote line before (Began at) is = absurd is
idle_wrote line before (Came at bytes) is = absurd is
idle_wrote line before (Wrote at bytes) is = absurd is
idle_wrote line before (Gave place seat) is = absurd is
idle_wrote line before (Logged text) is = absurd is
idle_wrote line before (Tried at way) is = refl
idle_wrote line before (Ended at way) is = refl
idle_wrote line before (Closed at) is = refl
idle_wrote line before (Saw moment) is = refl
idle_wrote line before (Waited most) is = refl
idle_wrote line before Called is = absurd is

idle_came : (line : Wire) (before : List ℕ) (p : Passage) → IsIdle p → came_by line before p ≡ before
idle_came line before (Began at) is = absurd is
idle_came line before (Came at bytes) is = absurd is
idle_came line before (Wrote at bytes) is = absurd is
idle_came line before (Gave place seat) is = absurd is
idle_came line before (Logged text) is = absurd is
idle_came line before (Tried at way) is = refl
idle_came line before (Ended at way) is = refl
idle_came line before (Closed at) is = refl
idle_came line before (Saw moment) is = refl
idle_came line before (Waited most) is = refl
idle_came line before Called is = absurd is

idle_behind : (desk : Desk) (p : Passage) → IsIdle p → ComesBehind desk p
idle_behind desk (Began at) is = absurd is
idle_behind desk (Came at bytes) is = absurd is
idle_behind desk (Wrote at bytes) is = absurd is
idle_behind desk (Gave place seat) is = absurd is
idle_behind desk (Logged text) is = absurd is
idle_behind desk (Tried at way) is = tt
idle_behind desk (Ended at way) is = tt
idle_behind desk (Closed at) is = tt
idle_behind desk (Saw moment) is = tt
idle_behind desk (Waited most) is = tt
idle_behind desk Called is = absurd is

-- the desk stays
pub kept_rest : (a : Desk) (x y : List Passage) (p : Passage) → IsIdle p → y ≡ x ++ p ∷ [] → Keeps a a x y
kept_rest a x y p is f =
    let z : List Passage = since_bot x in
    let wrote : (line : Wire) → wrote_over (z ++ p ∷ []) line ≡ wrote_over z line = λ line. write_behind line [] z p ∙ idle_wrote line (wrote_over z line) p is in
    kept_passing a a x y p f (idle_taken p is)
    (steps_by a a z (z ++ p ∷ []) (Some p) refl (λ node. same_count z p node (idle_begins (Peer node) p is)) refl refl refl
    (ap (λ (l : List ℕ). l ++ a.to_bot.waiting) (wrote (Seat 0)))
    (λ node. ap (λ (l : List ℕ). l ++ waits_at a.to_nodes.items node) (wrote (Peer node)))
    (heard_alike a a z (z ++ p ∷ []) refl refl (λ at. came_more at [] z p ∙ idle_came at (came_over z at) p is) refl refl refl refl)
    (owned_more a a z p refl refl (idle_own p is) (λ node. idle_begins (Peer node) p is) (λ node. inr (idle_came (Peer node) [] p is, idle_wrote (Peer node) [] p is)))
    (idle_behind a p is) (λ few. few))

kept_halted : (a : Desk) (x y : List Passage) (way : Way) (line : Wire) → is_own line ≡ true → Halts way line x y → Keeps a a x y
kept_halted a x y way line own (inl f) = kept_same a a x y refl f
kept_halted a x y way line own (inr (halts.Later, f)) = kept_rest a x y (Tried line way) own f
kept_halted a x y way line own (inr (halts.Ended, f)) = kept_rest a x y (Ended line way) own f

-- behind what leaves all as it is
then_rest : (a b : Desk) (x y : List Passage) → Keeps a b x x → Keeps b b x y → Keeps a b x y
then_rest a b x y one two = kept_on a b b x x y one two

pub kept_to_bot : (a b : Desk) (x y : List Passage) → b.opening ≡ a.opening → b.mended ≡ a.mended → b.dialled.items ≡ a.dialled.items → b.relay ≡ a.relay → b.to_nodes.items ≡ a.to_nodes.items → b.from_nodes.items ≡ a.from_nodes.items
    → b.from_bot.waiting ≡ a.from_bot.waiting → b.passes_over ≡ a.passes_over → b.is_seated ≡ a.is_seated → Writes (Seat 0) a.to_bot.waiting b.to_bot.waiting x y → Keeps a b x y
kept_to_bot a b x y hello mended dialled relay queues from_nodes from_bot over seat (inl wrote) =
    let z : List Passage = since_bot x in
    let piece : List ℕ = wrote.0 in
    let p : Passage = Wrote (Seat 0) piece in
    kept_passing a b x y p wrote.2 refl
    (steps_by a b z (z ++ p ∷ []) (Some p) refl (λ node. same_count z p node refl) hello mended relay
    (ap (λ (l : List ℕ). l ++ b.to_bot.waiting) (write_behind (Seat 0) [] z p)
    ∙ (append_assoc (wrote_over z (Seat 0)) piece b.to_bot.waiting ∙ ap (λ (l : List ℕ). wrote_over z (Seat 0) ++ l) (sym wrote.1)))
    (λ node. joined _ _ _ _ (write_behind (Peer node) [] z p) (ap (λ (qs : List Queued). waits_at qs node) queues))
    (heard_alike a b z (z ++ p ∷ []) mended relay (λ at. came_more at [] z p) from_nodes from_bot over seat)
    (owned_more a b z p dialled seat refl (λ node. refl) (λ node. inr (refl, refl))) tt
    (few_alike a b hello relay (behind_piece _ _ piece wrote.1) (λ node. tail_same _ _ (ap (λ (qs : List Queued). waits_at qs node) queues))))
kept_to_bot a b x y hello mended dialled relay queues from_nodes from_bot over seat (inr none) =
    then_rest a b x y (kept_alike a b x hello mended dialled relay none.0 queues from_nodes from_bot over seat) (kept_halted b x y Writing (Seat 0) refl none.1)

-- the queue of a node that was put back as it was
put_back : (a b : Desk) (node : ℕ) (queue : Queued) → b.to_nodes.items ≡ set a.to_nodes.items node queue → node < length a.to_nodes.items → queue.waiting ≡ waits_at a.to_nodes.items node
    → (other : ℕ) → waits_at b.to_nodes.items other ≡ waits_at a.to_nodes.items other
put_back a b node queue queues within q other = ap (λ (qs : List Queued). waits_at qs other) queues ∙ set_back a.to_nodes.items node queue within q other

-- a piece was written of what waits for a node
tails_wrote : (a b : Desk) (node : ℕ) (queue : Queued) (piece : List ℕ) → b.to_nodes.items ≡ set a.to_nodes.items node queue → node < length a.to_nodes.items → waits_at a.to_nodes.items node ≡ piece ++ queue.waiting
    → (other : ℕ) → IsTail (waits_at b.to_nodes.items other) (waits_at a.to_nodes.items other)
tails_wrote a b node queue piece queues within parts other =
    let P : ℕ → Type 0 = λ n. IsTail (waits_at b.to_nodes.items n) (waits_at a.to_nodes.items n) in
    elim (cases_eq node other) [
      | inl same ↦ subst P same (subst (λ (l : List ℕ). IsTail l (waits_at a.to_nodes.items node)) (sym (waits_here a.to_nodes.items b.to_nodes.items node queue queues within)) (tail_behind _ _ piece parts))
      | inr differs ↦ tail_same _ _ (waits_elsewhere a.to_nodes.items b.to_nodes.items node other queue queues differs)
    ]

pub kept_to_node : (a b : Desk) (x y : List Passage) (node : ℕ) (queue : Queued) → was_dialled a.dialled.items node ≡ true → b.opening ≡ a.opening → b.mended ≡ a.mended → b.dialled.items ≡ a.dialled.items → b.relay ≡ a.relay → b.to_bot.waiting ≡ a.to_bot.waiting
    → b.to_nodes.items ≡ set a.to_nodes.items node queue → node < length a.to_nodes.items → b.from_nodes.items ≡ a.from_nodes.items → b.from_bot.waiting ≡ a.from_bot.waiting → b.passes_over ≡ a.passes_over → b.is_seated ≡ a.is_seated
    → Writes (Peer node) (waits_at a.to_nodes.items node) queue.waiting x y → Keeps a b x y
kept_to_node a b x y node queue is hello mended dialled relay bot queues within from_nodes from_bot over seat (inl wrote) =
    let z : List Passage = since_bot x in
    let piece : List ℕ = wrote.0 in
    let p : Passage = Wrote (Peer node) piece in
    let P : ℕ → Type 0 = λ other. wrote_over (z ++ p ∷ []) (Peer other) ++ waits_at b.to_nodes.items other ≡ wrote_over z (Peer other) ++ waits_at a.to_nodes.items other in
    kept_passing a b x y p wrote.2 refl
    (steps_by a b z (z ++ p ∷ []) (Some p) refl (λ other. same_count z p other refl) hello mended relay
    (joined _ _ _ _ (write_behind (Seat 0) [] z p) bot)
    (λ other. elim (cases_eq node other) [
      | inl same ↦ subst P same (joined _ _ _ _
          (write_behind (Peer node) [] z p ∙ ap (λ (t : Bool). if t then wrote_over z (Peer node) ++ piece else wrote_over z (Peer node)) (own_line (Peer node)))
          (waits_here a.to_nodes.items b.to_nodes.items node queue queues within)
          ∙ (append_assoc (wrote_over z (Peer node)) piece queue.waiting ∙ ap (λ (l : List ℕ). wrote_over z (Peer node) ++ l) (sym wrote.1)))
      | inr differs ↦ joined _ _ _ _
          (write_behind (Peer other) [] z p ∙ ap (λ (t : Bool). if t then wrote_over z (Peer other) ++ piece else wrote_over z (Peer other)) (ne_eqb node other differs))
          (waits_elsewhere a.to_nodes.items b.to_nodes.items node other queue queues differs)
    ])
    (heard_alike a b z (z ++ p ∷ []) mended relay (λ at. came_more at [] z p) from_nodes from_bot over seat)
    (owned_wrote a b z node piece dialled seat is) tt
    (few_alike a b hello relay (as_long _ _ bot) (tails_wrote a b node queue piece queues within wrote.1)))
kept_to_node a b x y node queue is hello mended dialled relay bot queues within from_nodes from_bot over seat (inr none) =
    then_rest a b x y (kept_idle a b x x hello mended dialled relay bot (put_back a b node queue queues within none.0) (λ other. ap (λ (qs : List Queued). waits_at qs other) from_nodes) from_bot over seat refl)
    (kept_halted b x y Writing (Peer node) refl none.1)

-- ---- a read

steps_read : (a b : Desk) (z : List Passage) (line : Wire) (piece : List ℕ) → b.opening ≡ a.opening → b.mended ≡ a.mended → b.relay ≡ a.relay → b.to_bot.waiting ≡ a.to_bot.waiting → b.to_nodes.items ≡ a.to_nodes.items
    → (IsHeard a z → IsHeard b (z ++ Came line piece ∷ [])) → (IsOwned a z → IsOwned b (z ++ Came line piece ∷ [])) → ComesBehind a (Came line piece) → Steps a b z (z ++ Came line piece ∷ [])
steps_read a b z line piece hello mended relay bot queues heard own behind =
    let p : Passage = Came line piece in
    steps_by a b z (z ++ p ∷ []) (Some p) refl (λ node. same_count z p node refl) hello mended relay (joined _ _ _ _ (write_behind (Seat 0) [] z p) bot)
    (λ node. joined _ _ _ _ (write_behind (Peer node) [] z p) (ap (λ (qs : List Queued). waits_at qs node) queues)) heard own behind
    (few_alike a b hello relay (as_long _ _ bot) (λ node. tail_same _ _ (ap (λ (qs : List Queued). waits_at qs node) queues)))

pub kept_read_bot : (a b : Desk) (x y : List Passage) → b.opening ≡ a.opening → b.mended ≡ a.mended → b.dialled.items ≡ a.dialled.items → b.relay ≡ a.relay → b.to_bot.waiting ≡ a.to_bot.waiting → b.to_nodes.items ≡ a.to_nodes.items
    → b.from_nodes.items ≡ a.from_nodes.items → b.passes_over ≡ a.passes_over → b.is_seated ≡ a.is_seated → Reads (Seat 0) a.from_bot.waiting b.from_bot.waiting x y → Keeps a b x y
kept_read_bot a b x y hello mended dialled relay bot queues from_nodes over seat (inl came) =
    kept_passing a b x y (Came (Seat 0) came.0) came.2 refl
    (steps_read a b (since_bot x) (Seat 0) came.0 hello mended relay bot queues (heard_read_bot a b (since_bot x) came.0 mended relay from_nodes over seat came.1 came.3.short came.4)
    (owned_more a b (since_bot x) (Came (Seat 0) came.0) dialled seat refl (λ node. refl) (λ node. inr (refl, refl))) came.3)
kept_read_bot a b x y hello mended dialled relay bot queues from_nodes over seat (inr none) =
    then_rest a b x y (kept_alike a b x hello mended dialled relay bot queues from_nodes none.0 over seat) (kept_halted b x y Reading (Seat 0) refl none.1)

pub kept_read_node : (a b : Desk) (x y : List Passage) (node : ℕ) (queue : Queued) → was_dialled a.dialled.items node ≡ true → b.opening ≡ a.opening → b.mended ≡ a.mended → b.dialled.items ≡ a.dialled.items → b.relay ≡ a.relay → b.to_bot.waiting ≡ a.to_bot.waiting
    → b.to_nodes.items ≡ a.to_nodes.items → b.from_nodes.items ≡ set a.from_nodes.items node queue → node < length a.from_nodes.items → b.from_bot.waiting ≡ a.from_bot.waiting → b.passes_over ≡ a.passes_over → b.is_seated ≡ a.is_seated
    → Reads (Peer node) (waits_at a.from_nodes.items node) queue.waiting x y → Keeps a b x y
kept_read_node a b x y node queue is hello mended dialled relay bot queues from_nodes within from_bot over seat (inl came) =
    kept_passing a b x y (Came (Peer node) came.0) came.2 refl
    (steps_read a b (since_bot x) (Peer node) came.0 hello mended relay bot queues (heard_read_node a b (since_bot x) node queue came.0 mended relay from_nodes within from_bot over seat came.1 came.3.short came.4)
    (owned_came a b (since_bot x) node came.0 dialled seat is) came.3)
kept_read_node a b x y node queue is hello mended dialled relay bot queues from_nodes within from_bot over seat (inr none) =
    then_rest a b x y
    (kept_idle a b x x hello mended dialled relay bot (λ other. ap (λ (qs : List Queued). waits_at qs other) queues)
    (λ other. ap (λ (qs : List Queued). waits_at qs other) from_nodes ∙ set_back a.from_nodes.items node queue within none.0 other) from_bot over seat refl)
    (kept_halted b x y Reading (Peer node) refl none.1)

-- ---- an event

steps_event : (a b : Desk) (x y : List Passage) (e : Event) (p : Option Passage) → y ≡ x ++ option_to_list p → ((node : ℕ) → begun_over y (Peer node) ≡ begun_over x (Peer node) + (if begins_at node e then 1 else 0))
    → b.relay ≡ with_event a.relay e → a.relay.standing ≡ after (fresh a.relay.mode a.relay.nodes) a.relay.events → b.opening ≡ a.opening → b.mended ≡ a.mended
    → wrote_over y (Seat 0) ++ b.to_bot.waiting ≡ (wrote_over x (Seat 0) ++ a.to_bot.waiting) ++ bytes_of_lines (given a.relay.standing e)
    → ((node : ℕ) → begins_at node e ≡ false → wrote_over y (Peer node) ++ waits_at b.to_nodes.items node ≡ (wrote_over x (Peer node) ++ waits_at a.to_nodes.items node) ++ bytes_of_answers (more_over node a.relay.standing e))
    → ((node : ℕ) → begins_at node e ≡ true → wrote_over y (Peer node) ++ waits_at b.to_nodes.items node ≡ greeting b.opening.token.items (asks a.relay.standing)) → (IsHeard a x → IsHeard b y) → (IsOwned a x → IsOwned b y) → IfSome p (ComesBehind a) → (IsFew a → IsFew b) → Steps a b x y
steps_event a b x y e p f counts story follows hello mended bot others first heard own behind few =
    let happened : b.relay.events ≡ a.relay.events ++ e ∷ [] = ap (λ (r : Story). r.events) story in
    record {
      next = record { hello = hello; mode = ap (λ (r : Story). r.mode) story; nodes = ap (λ (r : Story). r.nodes) story; mended = mended; event = Some e; happened = happened; passage = p; passed = f; behind = behind };
      begun = λ was node. ap (λ (es : List Event). begun node es) happened
          ∙ (begun_more node a.relay.events e ∙ (ap (λ (n : ℕ). n + (if begins_at node e then 1 else 0)) (was node) ∙ sym (counts node)));
      heard = heard;
      own = own;
      few = few;
      said = λ s.
          let start : Standing = fresh a.relay.mode a.relay.nodes in
          let now : Story = with_event a.relay e in
          record {
            bot =
                let more : lines_given now ≡ lines_given a.relay ++ given a.relay.standing e =
                given_more start a.relay.events e ∙ ap (λ (n : Standing). lines_given a.relay ++ given n e) (sym follows) in
                bot ∙ (ap (λ (bs : List ℕ). bs ++ bytes_of_lines (given a.relay.standing e)) s.bot
                ∙ (sym (lines_more (lines_given a.relay) (given a.relay.standing e))
                ∙ (ap bytes_of_lines (sym more) ∙ ap (λ (r : Story). bytes_of_lines (lines_given r)) (sym story))));
            nodes = λ node.
                let before : List (List ℕ) = said_over node a.relay in
                let more : List (List ℕ) = more_over node a.relay.standing e in
                let over : said_over node now ≡ over_by node a.relay.standing before e =
                over_more node start [] a.relay.events e ∙ ap (λ (n : Standing). over_by node n before e) (sym follows) in
                let into : bytes_of_answers (said_over node now) ≡ bytes_of_answers (said_over node b.relay) = ap (λ (r : Story). bytes_of_answers (said_over node r)) (sym story) in
                let P : Bool → Type 0 = λ t. begins_at node e ≡ t → wrote_over y (Peer node) ++ waits_at b.to_nodes.items node ≡ first_over node b ++ bytes_of_answers (said_over node now) in
                let step : P (begins_at node e) = elim (begins_at node e) as P [
                  | true ↦ λ is_it.
                      let first_lines : List ℕ = greeting b.opening.token.items (asks a.relay.standing) in
                      first node is_it ∙ (sym (append-nil first_lines) ∙ joined _ _ _ _ (sym (first_now a b node e story follows is_it))
                      (ap bytes_of_answers (sym (over ∙ over_begins node a.relay.standing before e is_it))))
                  | false ↦ λ isnt.
                      others node isnt ∙ (ap (λ (bs : List ℕ). bs ++ bytes_of_answers more) (s.nodes node)
                      ∙ (append_assoc (first_over node a) (bytes_of_answers before) (bytes_of_answers more)
                      ∙ joined _ _ _ _ (sym (first_then a b node e story follows hello isnt))
                      (sym (answers_more before more) ∙ ap bytes_of_answers (sym (over ∙ over_is node a.relay.standing before e isnt)))))
                ] in
                step refl ∙ ap (λ (bs : List ℕ). first_over node b ++ bs) into;
          };
    }

-- one by which nothing is said and nothing passes
kept_silent : (a b : Desk) (x : List Passage) (e : Event) → b.relay ≡ with_event a.relay e → a.relay.standing ≡ after (fresh a.relay.mode a.relay.nodes) a.relay.events → b.opening ≡ a.opening → b.mended ≡ a.mended → b.dialled.items ≡ a.dialled.items
    → b.to_bot.waiting ≡ a.to_bot.waiting → ((node : ℕ) → waits_at b.to_nodes.items node ≡ waits_at a.to_nodes.items node)
    → given a.relay.standing e ≡ [] → ((node : ℕ) → more_over node a.relay.standing e ≡ []) → ((node : ℕ) → begins_at node e ≡ false) → b.is_seated ≡ a.is_seated
    → (IsHeard a (since_bot x) → IsHeard b (since_bot x)) → Keeps a b x x
kept_silent a b x e story follows hello mended dialled bot queues none no_more isnt seat heard =
    let z : List Passage = since_bot x in
    kept_quietly a b x (steps_event a b z z e None (sym (append-nil z))
    (λ node. sym (add-zero (begun_over z (Peer node))) ∙ ap (λ (t : Bool). begun_over z (Peer node) + (if t then 1 else 0)) (sym (isnt node)))
    story follows hello mended
    (ap (λ (l : List ℕ). wrote_over z (Seat 0) ++ l) bot ∙ (sym (append-nil (wrote_over z (Seat 0) ++ a.to_bot.waiting)) ∙ ap (λ (ls : List Line). (wrote_over z (Seat 0) ++ a.to_bot.waiting) ++ bytes_of_lines ls) (sym none)))
    (λ node n. ap (λ (l : List ℕ). wrote_over z (Peer node) ++ l) (queues node)
    ∙ (sym (append-nil (wrote_over z (Peer node) ++ waits_at a.to_nodes.items node)) ∙ ap (λ (said : List (List ℕ)). (wrote_over z (Peer node) ++ waits_at a.to_nodes.items node) ++ bytes_of_answers said) (sym (no_more node))))
    (λ node is_it. absurd (false≢true (sym (isnt node) ∙ is_it)))
    heard (owned_alike a b z dialled (λ off. sym seat ∙ off)) tt
    (λ f. few_event a b e story follows hello (subst (λ (l : List ℕ). length l < 65536 + 4098) (sym bot) f.bot) (λ node n. inl (no_more node, queues node))
    (λ node is_it. absurd (false≢true (sym (isnt node) ∙ is_it))) f))

pub kept_ends : (a b : Desk) (x y : List Passage) (node : ℕ) → b.relay ≡ with_event a.relay (Ends node) → a.relay.standing ≡ after (fresh a.relay.mode a.relay.nodes) a.relay.events → b.opening ≡ a.opening → b.mended ≡ a.mended → b.dialled.items ≡ a.dialled.items
    → b.to_bot.waiting ≡ a.to_bot.waiting → b.to_nodes.items ≡ a.to_nodes.items → y ≡ x ++ Closed (Peer node) ∷ [] → b.is_seated ≡ a.is_seated → (IsHeard a (since_bot x) → IsHeard b (since_bot x)) → Keeps a b x y
kept_ends a b x y node story follows hello mended dialled bot queues f seat heard =
    then_rest a b x y (kept_silent a b x (Ends node) story follows hello mended dialled bot (λ n. ap (λ (qs : List Queued). waits_at qs n) queues) refl (λ n. refl) (λ n. refl) seat heard)
    (kept_rest b x y (Closed (Peer node)) refl f)

-- the bot's connection is closed
pub kept_closed : (a b : Desk) (x y : List Passage) → b.opening ≡ a.opening → b.mended ≡ a.mended → b.dialled.items ≡ a.dialled.items → b.relay ≡ a.relay → b.to_bot.waiting ≡ a.to_bot.waiting
    → b.to_nodes.items ≡ a.to_nodes.items → b.from_nodes.items ≡ a.from_nodes.items → b.from_bot.waiting ≡ a.from_bot.waiting → b.passes_over ≡ a.passes_over → b.is_seated ≡ a.is_seated → y ≡ x ++ Closed (Seat 0) ∷ [] → Keeps a b x y
kept_closed a b x y hello mended dialled relay bot to_nodes from_nodes from_bot over seat f =
    then_rest a b x y (kept_alike a b x hello mended dialled relay bot to_nodes from_nodes from_bot over seat) (kept_rest b x y (Closed (Seat 0)) refl f)

pub kept_says : (a b : Desk) (x : List Passage) (text : List ℕ) → b.relay ≡ with_event a.relay (Says text) → a.relay.standing ≡ after (fresh a.relay.mode a.relay.nodes) a.relay.events → b.opening ≡ a.opening → b.mended ≡ a.mended → b.dialled.items ≡ a.dialled.items
    → b.to_bot.waiting ≡ a.to_bot.waiting → b.to_nodes.items ≡ a.to_nodes.items → b.is_seated ≡ a.is_seated → (IsHeard a (since_bot x) → IsHeard b (since_bot x)) → Keeps a b x x
kept_says a b x text story follows hello mended dialled bot queues seat heard =
    kept_silent a b x (Says text) story follows hello mended dialled bot (λ n. ap (λ (qs : List Queued). waits_at qs n) queues) refl (λ n. refl) (λ n. refl) seat heard

-- a node says that the match is over
pub kept_closes : (a b : Desk) (x : List Passage) (node : ℕ) → b.relay ≡ with_event a.relay (Closes node) → a.relay.standing ≡ after (fresh a.relay.mode a.relay.nodes) a.relay.events
    → b.opening ≡ a.opening → b.mended ≡ a.mended → b.dialled.items ≡ a.dialled.items → b.to_bot.waiting ≡ a.to_bot.waiting → b.to_nodes.items ≡ a.to_nodes.items
    → b.is_seated ≡ a.is_seated → (IsHeard a (since_bot x) → IsHeard b (since_bot x)) → Keeps a b x x
kept_closes a b x node story follows hello mended dialled bot queues seat heard =
    kept_silent a b x (Closes node) story follows hello mended dialled bot (λ n. ap (λ (qs : List Queued). waits_at qs n) queues) refl (λ n. refl) (λ n. refl) seat heard

-- a line is told that the bot isn't given
pub kept_old : (a b : Desk) (x : List Passage) (node : ℕ) (line : Line) → b.relay ≡ with_event a.relay (Tells node line) → a.relay.standing ≡ after (fresh a.relay.mode a.relay.nodes) a.relay.events
    → b.opening ≡ a.opening → b.mended ≡ a.mended → b.dialled.items ≡ a.dialled.items → b.to_bot.waiting ≡ a.to_bot.waiting → b.to_nodes.items ≡ a.to_nodes.items → is_given a.relay.standing node line ≡ false
    → b.is_seated ≡ a.is_seated → (IsHeard a (since_bot x) → IsHeard b (since_bot x)) → Keeps a b x x
kept_old a b x node line story follows hello mended dialled bot queues old seat heard =
    kept_silent a b x (Tells node line) story follows hello mended dialled bot (λ n. ap (λ (qs : List Queued). waits_at qs n) queues) (ap (λ (t : Bool). if t then line ∷ [] else []) old) (λ n. refl) (λ n. refl) seat heard

-- and one that it is
pub kept_given : (a b : Desk) (x : List Passage) (node : ℕ) (line : Line) → b.relay ≡ with_event a.relay (Tells node line) → a.relay.standing ≡ after (fresh a.relay.mode a.relay.nodes) a.relay.events
    → b.opening ≡ a.opening → b.mended ≡ a.mended → b.dialled.items ≡ a.dialled.items → b.to_bot.waiting ≡ a.to_bot.waiting ++ ended line.text → b.to_nodes.items ≡ a.to_nodes.items → is_given a.relay.standing node line ≡ true
    → length a.to_bot.waiting < 65536 → length line.text ≤ 4096 → b.is_seated ≡ a.is_seated → (IsHeard a (since_bot x) → IsHeard b (since_bot x)) → Keeps a b x x
kept_given a b x node line story follows hello mended dialled bot queues news few short seat heard =
    let z : List Passage = since_bot x in
    let before : List ℕ = wrote_over z (Seat 0) ++ a.to_bot.waiting in
    let one : given a.relay.standing (Tells node line) ≡ line ∷ [] = ap (λ (t : Bool). if t then line ∷ [] else []) news in
    kept_quietly a b x (steps_event a b z z (Tells node line) None (sym (append-nil z)) (λ n. sym (add-zero (begun_over z (Peer n)))) story follows hello mended
    (ap (λ (l : List ℕ). wrote_over z (Seat 0) ++ l) bot ∙ (sym (append_assoc (wrote_over z (Seat 0)) a.to_bot.waiting (ended line.text))
    ∙ (ap (λ (l : List ℕ). before ++ l) (sym (append-nil (ended line.text))) ∙ ap (λ (ls : List Line). before ++ bytes_of_lines ls) (sym one))))
    (λ n isnt. ap (λ (qs : List Queued). wrote_over z (Peer n) ++ waits_at qs n) queues ∙ sym (append-nil (wrote_over z (Peer n) ++ waits_at a.to_nodes.items n)))
    (λ n is_it. absurd cc)
    heard (owned_alike a b z dialled (λ off. sym seat ∙ off)) tt
    (few_event a b (Tells node line) story follows hello (few_lines a.to_bot.waiting line.text b.to_bot.waiting bot few short) (λ n isnt. inl (refl, ap (λ (qs : List Queued). waits_at qs n) queues)) (λ n is_it. absurd cc)))

pub kept_dial : (a b : Desk) (x y : List Passage) (node : ℕ) (queue : Queued) → b.relay ≡ with_event a.relay (Begins node) → a.relay.standing ≡ after (fresh a.relay.mode a.relay.nodes) a.relay.events
    → b.opening ≡ a.opening → b.mended ≡ a.mended → b.dialled.items ≡ set a.dialled.items node true → b.to_bot.waiting ≡ a.to_bot.waiting → b.to_nodes.items ≡ set a.to_nodes.items node queue → node < length a.to_nodes.items
    → queue.waiting ≡ greeting a.opening.token.items (asks a.relay.standing) → y ≡ x ++ Began (Peer node) ∷ [] → b.is_seated ≡ true → (IsHeard a (since_bot x) → IsHeard b (since_bot x ++ Began (Peer node) ∷ [])) → Keeps a b x y
kept_dial a b x y node queue story follows hello mended dialled bot queues within q f seat heard =
    let z : List Passage = since_bot x in
    let p : Passage = Began (Peer node) in
    let began : (other : ℕ) → wrote_over (z ++ p ∷ []) (Peer other) ≡ (if node == other then [] else wrote_over z (Peer other)) = λ other. write_behind (Peer other) [] z p in
    let first_lines : Opening → List ℕ = λ o. greeting o.token.items (asks a.relay.standing) in
    let same_lines : first_lines a.opening ≡ first_lines b.opening = ap first_lines (sym hello) in
    let P : ℕ → Type 0 = λ other. wrote_over (z ++ p ∷ []) (Peer other) ++ waits_at b.to_nodes.items other ≡ first_lines b.opening in
    kept_passing a b x y p f refl (steps_event a b z (z ++ p ∷ []) (Begins node) (Some p) refl (λ other. more_begun z (z ++ p ∷ []) p (Peer other) refl) story follows hello mended
    (joined _ _ _ _ (write_behind (Seat 0) [] z p) bot ∙ sym (append-nil (wrote_over z (Seat 0) ++ a.to_bot.waiting)))
    (λ other isnt. elim (cases_eq node other) [
      | inl same ↦ absurd (false≢true (sym isnt ∙ eq-eqb node other same))
      | inr differs ↦ joined _ _ _ _ (began other ∙ ap (λ (t : Bool). if t then [] else wrote_over z (Peer other)) isnt) (waits_elsewhere a.to_nodes.items b.to_nodes.items node other queue queues differs)
          ∙ sym (append-nil (wrote_over z (Peer other) ++ waits_at a.to_nodes.items other))
    ])
    (λ other is_it. elim (cases_eq node other) [
      | inl same ↦ subst P same (joined [] _ _ _ (began node ∙ ap (λ (t : Bool). if t then [] else wrote_over z (Peer node)) (own_line (Peer node)))
          (waits_here a.to_nodes.items b.to_nodes.items node queue queues within ∙ q) ∙ same_lines)
      | inr differs ↦ absurd (false≢true (sym (ne_eqb node other differs) ∙ is_it))
    ])
    heard (owned_dialled a b z node dialled seat) tt
    (λ few. few_event a b (Begins node) story follows hello (subst (λ (l : List ℕ). length l < 65536 + 4098) (sym bot) few.bot)
    (λ other isnt. elim (cases_eq node other) [
      | inl same ↦ absurd (false≢true (sym isnt ∙ eq-eqb node other same))
      | inr differs ↦ inl (refl, waits_elsewhere a.to_nodes.items b.to_nodes.items node other queue queues differs)
    ])
    (λ other is_it. elim (cases_eq node other) [
      | inl same ↦ subst (λ (n : ℕ). waits_at b.to_nodes.items n ≡ first_lines b.opening) same (waits_here a.to_nodes.items b.to_nodes.items node queue queues within ∙ (q ∙ same_lines))
      | inr differs ↦ absurd (false≢true (sym (ne_eqb node other differs) ∙ is_it))
    ]) few))

-- ---- a bot is taken in

nothing_given : (s : Standing) → all_given s [] ≡ []
unfolding all_given
nothing_given s = refl

nothing_said : (node : ℕ) (s : Standing) (token : List ℕ) → [] ≡ first_of token (asked_behind node s None []) ++ bytes_of_answers (over_behind node s [] [])
unfolding asked_behind over_behind
nothing_said node s token = refl

pub course_begins : (b : Desk) → b.relay.events ≡ [] → b.from_bot.waiting ≡ [] → b.passes_over ≡ false → b.is_seated ≡ false → b.to_bot.waiting ≡ [] → AreEmpty b.from_nodes.items → AreEmpty b.to_nodes.items → IsNoneDialled b.dialled.items → Course b []
course_begins b story from_bot over seat to_bot from_nodes to_nodes none =
    let start : Standing = fresh b.relay.mode b.relay.nodes in
    Course.begin b story (record {
      begun = λ node. ap (λ (es : List Event). begun node es) story;
      said = record {
        bot = to_bot ∙ (ap bytes_of_lines (sym (nothing_given start)) ∙ ap (λ (es : List Event). bytes_of_lines (all_given start es)) (sym story));
        nodes = λ node. to_nodes node ∙ subst (λ (es : List Event). [] ≡ first_of b.opening.token.items (asked_behind node start None es) ++ bytes_of_answers (over_behind node start [] es)) (sym story)
            (nothing_said node start b.opening.token.items);
      };
      heard = heard_fresh b story from_bot over seat from_nodes;
      own = owned_fresh b none;
      few = few_fresh b to_bot to_nodes;
    })

none_more : (n m : ℕ) → m ≡ n + 1 → m ≡ 0 → ⊥
none_more n m is none = omega arith

none_was : (n m : ℕ) → m ≡ n + 1 → m ≡ 1 → n ≡ 0
none_was n m is one = omega arith

some_was : (n m : ℕ) → m ≡ n + 1 → 1 < m → 0 < n
some_was n m is more = omega arith

-- one bot more
mode_taken : (a b : Desk) (x y : List Passage) → b.opening.newest ≡ true → b.relay.mode.newest ≡ a.opening.newest → bots_in y ≡ bots_in x + 1 → (newest : Bool) → IsMode newest a x → IsMode newest b y
mode_taken a b x y opening relay bots newest is = record {
  next = λ none. absurd (none_more (bots_in x) (bots_in y) bots none);
  later = λ some. opening;
  first = λ one. relay ∙ is.next (none_was (bots_in x) (bots_in y) bots one);
  further = λ more. relay ∙ is.later (some_was (bots_in x) (bots_in y) bots more);
}

pub kept_taken : (a b : Desk) (x y : List Passage) → b.opening.token.items ≡ a.opening.token.items → b.opening.newest ≡ true → b.relay.mode ≡ record { newest = a.opening.newest; first_stands = are_mended a.mended } → b.mended ≡ a.mended → b.relay.events ≡ [] → b.from_bot.waiting ≡ []
    → b.passes_over ≡ false → b.is_seated ≡ false → b.to_bot.waiting ≡ [] → AreEmpty b.from_nodes.items → AreEmpty b.to_nodes.items → IsNoneDialled b.dialled.items → y ≡ x ++ Began (Seat 0) ∷ [] → Keeps a b x y
kept_taken a b x y token opening relay mended story from_bot over seat to_bot from_nodes to_nodes none f =
    let course : Course b (since_bot y) = subst (Course b) (sym (since_taken x y (Began (Seat 0)) f refl)) (course_begins b story from_bot over seat to_bot from_nodes to_nodes none) in
    record {
      hello = token;
      mended = mended;
      course = λ was. course;
      mode = mode_taken a b x y opening (ap (λ (m : Mode). m.newest) relay) (bots_one x y (Began (Seat 0)) f refl);
      stands = λ was. ap (λ (m : Mode). m.first_stands) relay ∙ ap are_mended (sym mended);
      grows = inr (record { bots = bots_more x y (Began (Seat 0)) f refl; course = course });
    }

-- ---- an answer

own_answer : (s : Standing) (node : ℕ) (answer : List ℕ) → s.kept ≡ Some answer → is_even (link_at s.links node) ≡ true → answered s (Pushes node) ≡ answer ∷ []
unfolding answered
own_answer s node answer kept may = ap (λ (t : Bool). if t then option_to_list s.kept else []) may ∙ ap option_to_list kept

no_answer : (s : Standing) (node : ℕ) → is_even (link_at s.links node) ≡ false → answered s (Pushes node) ≡ []
unfolding answered
no_answer s node may = ap (λ (t : Bool). if t then option_to_list s.kept else []) may

pub kept_said : (a b : Desk) (x : List Passage) (node : ℕ) (queue : Queued) (answer : List ℕ) → b.relay ≡ with_event a.relay (Pushes node) → a.relay.standing ≡ after (fresh a.relay.mode a.relay.nodes) a.relay.events
    → b.opening ≡ a.opening → b.mended ≡ a.mended → b.dialled.items ≡ a.dialled.items → b.to_bot.waiting ≡ a.to_bot.waiting → b.to_nodes.items ≡ set a.to_nodes.items node queue → node < length a.to_nodes.items
    → queue.waiting ≡ waits_at a.to_nodes.items node ++ ended answer → a.relay.standing.kept ≡ Some answer → is_even (link_at a.relay.standing.links node) ≡ true
    → waits_at a.to_nodes.items node ≡ [] → b.is_seated ≡ a.is_seated → (IsHeard a (since_bot x) → IsHeard b (since_bot x)) → Keeps a b x x
kept_said a b x node queue answer story follows hello mended dialled bot queues within q kept may none seat heard =
    let z : List Passage = since_bot x in
    let P : ℕ → Type 0 = λ other. wrote_over z (Peer other) ++ waits_at b.to_nodes.items other ≡ (wrote_over z (Peer other) ++ waits_at a.to_nodes.items other) ++ bytes_of_answers (more_over other a.relay.standing (Pushes node)) in
    let own : more_over node a.relay.standing (Pushes node) ≡ answer ∷ [] =
    ap (λ (t : Bool). if t then answered a.relay.standing (Pushes node) else []) (eq-eqb node node refl) ∙ own_answer a.relay.standing node answer kept may in
    let before : List ℕ = wrote_over z (Peer node) ++ waits_at a.to_nodes.items node in
    kept_quietly a b x (steps_event a b z z (Pushes node) None (sym (append-nil z)) (λ other. sym (add-zero (begun_over z (Peer other)))) story follows hello mended
    (ap (λ (l : List ℕ). wrote_over z (Seat 0) ++ l) bot ∙ sym (append-nil (wrote_over z (Seat 0) ++ a.to_bot.waiting)))
    (λ other isnt. elim (cases_eq node other) [
      | inl same ↦ subst P same (ap (λ (l : List ℕ). wrote_over z (Peer node) ++ l) (waits_here a.to_nodes.items b.to_nodes.items node queue queues within ∙ q)
          ∙ (sym (append_assoc (wrote_over z (Peer node)) (waits_at a.to_nodes.items node) (ended answer))
          ∙ (ap (λ (l : List ℕ). before ++ l) (sym (append-nil (ended answer))) ∙ ap (λ (said : List (List ℕ)). before ++ bytes_of_answers said) (sym own))))
      | inr differs ↦ ap (λ (l : List ℕ). wrote_over z (Peer other) ++ l) (waits_elsewhere a.to_nodes.items b.to_nodes.items node other queue queues differs)
          ∙ (sym (append-nil (wrote_over z (Peer other) ++ waits_at a.to_nodes.items other))
          ∙ ap (λ (t : Bool). (wrote_over z (Peer other) ++ waits_at a.to_nodes.items other) ++ bytes_of_answers (if t then answered a.relay.standing (Pushes node) else [])) (sym (ne_eqb node other differs)))
    ])
    (λ other is_it. absurd cc)
    heard (owned_alike a b z dialled (λ off. sym seat ∙ off)) tt
    (λ few. few_event a b (Pushes node) story follows hello (subst (λ (l : List ℕ). length l < 65536 + 4098) (sym bot) few.bot)
    (λ other isnt. elim (cases_eq node other) [
      | inl same ↦ subst (λ (n : ℕ). SaysFew a b n (Pushes node)) same
          (inr (answer, own, waits_here a.to_nodes.items b.to_nodes.items node queue queues within ∙ (q ∙ ap (λ (l : List ℕ). l ++ ended answer) none)))
      | inr differs ↦ inl (
        ap (λ (t : Bool). if t then answered a.relay.standing (Pushes node) else []) (ne_eqb node other differs),
        waits_elsewhere a.to_nodes.items b.to_nodes.items node other queue queues differs,
      )
    ])
    (λ other is_it. absurd cc) few))

pub kept_unsaid : (a b : Desk) (x : List Passage) (node : ℕ) (queue : Queued) → b.relay ≡ with_event a.relay (Pushes node) → a.relay.standing ≡ after (fresh a.relay.mode a.relay.nodes) a.relay.events
    → b.opening ≡ a.opening → b.mended ≡ a.mended → b.dialled.items ≡ a.dialled.items → b.to_bot.waiting ≡ a.to_bot.waiting → b.to_nodes.items ≡ set a.to_nodes.items node queue → node < length a.to_nodes.items
    → queue.waiting ≡ waits_at a.to_nodes.items node → is_even (link_at a.relay.standing.links node) ≡ false → b.is_seated ≡ a.is_seated → (IsHeard a (since_bot x) → IsHeard b (since_bot x)) → Keeps a b x x
kept_unsaid a b x node queue story follows hello mended dialled bot queues within q may seat heard =
    kept_silent a b x (Pushes node) story follows hello mended dialled bot (put_back a b node queue queues within q) refl
    (λ other. elim (node == other) as (λ (t : Bool). (if t then answered a.relay.standing (Pushes node) else []) ≡ []) [ true ↦ no_answer a.relay.standing node may | false ↦ refl ]) (λ n. refl) seat heard

-- ---- where nothing passes

pub stays_on : (a b c : Desk) → Stays a b → Stays b c → Stays a c
stays_on a b c one two = record { kept = λ x. kept_on a b c x x x (one.kept x) (two.kept x) }

pub stays_same : (a b : Desk) → b ≡ a → Stays a b
stays_same a b e = record { kept = λ x. kept_same a b x x e refl }

pub stays_alike : (a b : Desk) → b.opening ≡ a.opening → b.mended ≡ a.mended → b.dialled.items ≡ a.dialled.items → b.relay ≡ a.relay → b.to_bot.waiting ≡ a.to_bot.waiting → b.to_nodes.items ≡ a.to_nodes.items → b.from_nodes.items ≡ a.from_nodes.items
    → b.from_bot.waiting ≡ a.from_bot.waiting → b.passes_over ≡ a.passes_over → b.is_seated ≡ a.is_seated → Stays a b
stays_alike a b hello mended dialled relay bot queues from_nodes from_bot over seat = record { kept = λ x. kept_alike a b x hello mended dialled relay bot queues from_nodes from_bot over seat }

pub stays_kept : (a b : Desk) (x y : List Passage) → Stays a b → y ≡ x → Keeps a b x y
stays_kept a b x y stays f = subst (Keeps a b x) (sym f) (stays.kept x)

-- A call keeps the world behind a record.
use Rattle.std.proofs.Common.{◌≡◌, ◌≢◌, ℕ, zero, suc, ◌+◌, ◌-◌, ◌<◌, ◌≤◌, inl, inr, Bool, true, false, cond, Some, List, [], ◌∷◌, ◌++◌, map, reverse, length, get_or, set, refl, ap, sym, ◌∙◌, subst, append_assoc, arith, length-set}
use Rattle.std.proofs.lemmas.Bool.{cases_eq, false≢true}
use Rattle.std.proofs.Math.Logic.{∥∥₁_map}
use Rattle.protocol_model.specs.Sets.{In}
use Rattle.protocol_model.specs.Messages.{Message, Accept, Accepted}
use Rattle.protocol_model.specs.Arrivals as model
use Rattle.protocol_model.specs.Nodes.{Node as WorldNode}
use Rattle.protocol_model.specs.Dealers.{Dealer}
use Rattle.protocol_model.specs.Worlds.{World, Reached, IsAfter, new_world}
use Rattle.dealer_world.specs.Records.{Record, Frame, Arrived, Delivered, Came, Connected, Dropped, Ordered, Arrival, Start, log_in, log_of, start_count, last_start, said}
use Rattle.dealer_world.specs.Unforged.{IsUnforged, ArePlaced}
use Rattle.dealer_world.specs.Hearing.{heard_by}
use Rattle.dealer_world.specs.Headline.{Era, said_in}
use Rattle.dealer_world.specs.Calls.{Made, Called, Calls, IsSound, IsOwn, frames_in, log_after, AreTold}
use Rattle.dealer_world.specs.Views.{placed_at, starts_after, grown}
use Rattle.dealer_world.specs.Behind.{Behind, EachNode, AreHeard, ArePieces, IsHeardNow, AreOrdered}
use Rattle.dealer_world.specs.Given.{Reaches, KnownIsChosen}
use Rattle.protocol_model.proofs.Sets.{in_first, in_later, in_split}
use Rattle.dealer_world.proofs.Saying.{said_append, in_said, unforged_before, came_was_sent}
use Rattle.dealer_world.proofs.Pieces.{newest_first, log_own, log_other, log_before_it, pieces_more, begun_after, headers_after, count_own, count_after_other}
use Rattle.dealer_world.proofs.Heard.{IsAt, hears, was_heard_on, others_at}
use Rattle.dealer_world.proofs.Ordering.{orders_later}

-- each node but one stays so
each_later : {Node : Type 0} (IsSo WillBe : ℕ → Node → Type 0) (k : ℕ) (nodes : List Node)
    → ((j : ℕ) (node : Node) → k ≤ j → IsSo j node → WillBe j node) → EachNode IsSo k nodes → EachNode WillBe k nodes
each_later IsSo WillBe k [] stays each = tt
each_later IsSo WillBe k (node ∷ nodes) stays (is, each) = (stays k node (omega arith) is, each_later IsSo WillBe (k + 1) nodes (λ j other le. stays j other (omega arith)) each)

pub each_at : {Node : Type 0} (IsSo : ℕ → Node → Type 0) (k i : ℕ) (nodes : List Node) (d : Node) → i < length nodes → EachNode IsSo k nodes → IsSo (k + i) (get_or nodes i d)
each_at IsSo k i [] d less each = absurd (omega arith)
each_at IsSo k zero (node ∷ nodes) d less (is, each) = let e : k ≡ k + 0 = omega arith in subst (λ j. IsSo j node) e is
each_at IsSo k (suc i) (node ∷ nodes) d less (is, each) =
    let e : (k + 1) + i ≡ k + suc i = omega arith in
    subst (λ j. IsSo j (get_or nodes i d)) e (each_at IsSo (k + 1) i nodes d (omega arith) each)

each_set : {Node : Type 0} (IsSo WillBe : ℕ → Node → Type 0) (k i : ℕ) (nodes : List Node) (new : Node)
    → ((j : ℕ) (node : Node) → j ≢ k + i → IsSo j node → WillBe j node) → WillBe (k + i) new
    → EachNode IsSo k nodes → EachNode WillBe k (set nodes i new)
each_set IsSo WillBe k i [] new others is each = tt
each_set IsSo WillBe k zero (node ∷ nodes) new others is (was, each) =
    let e : k + 0 ≡ k = omega arith in
    (subst (λ j. WillBe j new) e is, each_later IsSo WillBe (k + 1) nodes (λ j other le. others j other (λ same. omega arith)) each)
each_set IsSo WillBe k (suc i) (node ∷ nodes) new others is (was, each) =
    let e : k + suc i ≡ (k + 1) + i = omega arith in (
      others k node (λ same. omega arith) was,
      each_set IsSo WillBe (k + 1) i nodes new (λ j other ne. others j other (λ same. ne (same ∙ e))) (subst (λ j. WillBe j new) e is) each,
    )

pub frame_at : (i : ℕ) (arrived : List Arrived) (frame : Frame) → ((what : Arrived) → In what arrived → IsAt i what) → In frame (frames_in arrived) → frame.to ≡ i
frame_at i [] frame at there = elim there [ ]
frame_at i (Delivered first ∷ more) frame at (inl is) = ap (λ (f : Frame). f.to) is ∙ at (Delivered first) (inl refl)
frame_at i (Delivered first ∷ more) frame at (inr there) = frame_at i more frame (λ what later. at what (inr later)) there
frame_at i (Came node seat bytes ∷ more) frame at there = frame_at i more frame (λ what later. at what (inr later)) there
frame_at i (Connected node seat ∷ more) frame at there = frame_at i more frame (λ what later. at what (inr later)) there
frame_at i (Dropped node seat ∷ more) frame at there = frame_at i more frame (λ what later. at what (inr later)) there
frame_at i (Ordered node front ∷ more) frame at there = frame_at i more frame (λ what later. at what (inr later)) there

-- a frame that was sent is sound for the node that it goes to
pub sound_of : {Node : Type 0} (IsOf : ℕ → Node → WorldNode → List ℕ → Type 0) (dealer : Dealer) (nodes : List Node) (now : Record) (before : List Era) (i : ℕ)
    → (b : Behind IsOf dealer nodes now before) → (frame : Frame) → In frame now.sent → frame.to ≡ i → IsSound (length nodes) i b.world.ever frame
sound_of IsOf dealer nodes now before i b frame sent to =
    let own = b.own frame sent in
    record {
      is_node = own.is_node;
      other = λ same. own.other (to ∙ sym same);
      sent = λ message h. b.carried message (in_later (said_in before) (said now.sent) message (in_said frame now.sent message sent h));
      own = own.own;
    }

-- how often node i was started, after the call
count_now : (starts : List Start) (i : ℕ) (began : Bool) → start_count (starts_after starts i began) i ≡ cond began (suc (start_count starts i)) (start_count starts i)
count_now starts i true = count_own starts i (start_count starts i)
count_now starts i false = refl

starts_now : (began : Bool) (was now base count now_count : ℕ) → suc was ≡ base + count → now ≡ cond began (suc was) was → now_count ≡ cond began (suc count) count → suc now ≡ base + now_count
starts_now true was now base count now_count before is_now is_count = omega arith
starts_now false was now base count now_count before is_now is_count = omega arith

started_now : (began : Bool) (P : Type 0) (count now_count : ℕ) → now_count ≡ cond began (suc count) count → P → (began ≡ false → P → 1 ≤ count) → 1 ≤ now_count
started_now true P count now_count is_count p before = omega arith
started_now false P count now_count is_count p before = let a = before refl p in omega arith

split_said : (said_before sent_said more_said ever out : List Message) (message : Message)
    → (In message (said_before ++ sent_said) → In message ever) → (In message more_said → In message out)
    → In message (said_before ++ (sent_said ++ more_said)) → In message (out ++ ever)
split_said said_before sent_said more_said ever out message old new h = elim (in_split said_before (sent_said ++ more_said) message h) [
  | inl first ↦ in_later out ever message (old (in_first said_before sent_said message first))
  | inr rest ↦ elim (in_split sent_said more_said message rest) [
    | inl sent ↦ in_later out ever message (old (in_later said_before sent_said message sent))
    | inr more ↦ in_first out ever message (new more)
  ]
]

join_said : (said_before sent_said more_said ever out : List Message) (message : Message)
    → (In message ever → In message (said_before ++ sent_said)) → (In message out → In message more_said)
    → In message (out ++ ever) → In message (said_before ++ (sent_said ++ more_said))
join_said said_before sent_said more_said ever out message old new h = elim (in_split out ever message h) [
  | inl now ↦ in_later said_before (sent_said ++ more_said) message (in_later sent_said more_said message (new now))
  | inr was ↦ elim (in_split said_before sent_said message (old was)) [
    | inl first ↦ in_first said_before (sent_said ++ more_said) message first
    | inr sent ↦ in_later said_before (sent_said ++ more_said) message (in_first sent_said more_said message sent)
  ]
]

-- what the call brings to what was heard
record Hears (n i : ℕ) (later : World) (delivered : List Arrival) (before : List Era) : Type 0 where
  heard : AreHeard later.came delivered before
  now : IsHeardNow n later delivered

hears_later : {Node : Type 0} (IsOf : ℕ → Node → WorldNode → List ℕ → Type 0) (dealer : Dealer) (n i : ℕ) (world later : World) (log : List ℕ) (arrived : List Arrived) (made : Made) (new : Node)
    (delivered : List Arrival) (count : ℕ) (before : List Era) (called : Called (IsOf i) dealer n i world.ever (world.nodes i) log arrived made new)
    → i < n → IsAfter world i called.output called.last later → ((what : Arrived) → In what arrived → IsAt i what)
    → AreHeard world.came delivered before → IsHeardNow n world delivered
    → Hears n i later (delivered ++ map (placed_at count) arrived) before
hears_later IsOf dealer n i world later log arrived made new delivered count before called within after at heard now = elim called.came [
  | inl brings ↦
      let all = hears i made.began arrived count called.output.came world.came delivered before at brings
      (λ some seat bytes is. now i seat bytes within (called.runs some) is) heard in
      record {
        heard = subst (λ came. AreHeard came (delivered ++ map (placed_at count) arrived) before) (sym after.came) all.0;
        now = λ j seat bytes less up is. elim (cases_eq j i) [
          | inl same ↦
              let up_now : called.last.up ≡ true = sym (ap (λ (node : WorldNode). node.up) after.moved) ∙ subst (λ k. (later.nodes k).up ≡ true) same up in
              subst (λ k. heard_by (delivered ++ map (placed_at count) arrived) k seat ≡ Some bytes) (sym same)
              (all.1 seat (λ still bytes' was. now i seat bytes' within (called.awake still up_now) was) bytes
              (subst (λ came. model.heard_in came i seat ≡ Some bytes) after.came (subst (λ k. model.heard_in later.came k seat ≡ Some bytes) same is)))
          | inr other ↦
              let stays = all.2 j seat other in
              stays.1 ∙ now j seat bytes less (sym (ap (λ (node : WorldNode). node.up) (after.others j other)) ∙ up)
              (sym stays.0 ∙ subst (λ came. model.heard_in came j seat ≡ Some bytes) after.came is)
        ];
      }
  | inr (none, down) ↦
      let same_came : later.came ≡ world.came = after.came ∙ ap (λ out. out ++ world.came) none in
      record {
        heard = subst (λ came. AreHeard came (delivered ++ map (placed_at count) arrived) before) (sym same_came)
            (λ earlier node seat bytes beginning is. elim (heard earlier node seat bytes beginning is) [
              | inl here ↦ inl (was_heard_on delivered (map (placed_at count) arrived) node seat bytes here)
              | inr there ↦ inr there
            ]);
        now = λ j seat bytes less up is. elim (cases_eq j i) [
          | inl same ↦ absurd (false≢true (sym down ∙ (sym (ap (λ (node : WorldNode). node.up) after.moved) ∙ subst (λ k. (later.nodes k).up ≡ true) same up)))
          | inr other ↦
              others_at i j seat count arrived delivered at other
              ∙ now j seat bytes less (sym (ap (λ (node : WorldNode). node.up) (after.others j other)) ∙ up)
              (subst (λ came. model.heard_in came j seat ≡ Some bytes) same_came is)
        ];
      }
]

pub extends : {Node : Type 0} (IsOf : ℕ → Node → WorldNode → List ℕ → Type 0) (dealer : Dealer) (i : ℕ) (nodes : List Node) (old new : Node) (arrived : List Arrived) (made : Made)
    (now : Record) (before : List Era)
    → Reaches → KnownIsChosen → i < length nodes → get_or nodes i old ≡ old → Calls IsOf dealer (length nodes) i old arrived made new
    → ((what : Arrived) → In what arrived → IsAt i what) → ((frame : Frame) → In frame (frames_in arrived) → In frame now.sent)
    → Behind IsOf dealer nodes now before → Behind IsOf dealer (set nodes i new) (grown now i arrived made) before
extends IsOf dealer i nodes old new arrived made now before reach known within at calls is_at were_sent b =
    let n = length nodes in
    let zero_i : 0 + i ≡ i = omega arith in
    let log = log_of now.shown i (last_start now.starts i) in
    let k = last_start (starts_after now.starts i made.began) i in
    let of = subst (λ node. IsOf i node (b.world.nodes i) log) at
    (subst (λ j. IsOf j (get_or nodes i old) (b.world.nodes j) (log_of now.shown j (last_start now.starts j))) zero_i
    (each_at (λ j node. IsOf j node (b.world.nodes j) (log_of now.shown j (last_start now.starts j))) 0 i nodes old within b.are_of)) in
    let called = calls b.world log b.reached within of (λ frame there. sound_of IsOf dealer nodes now before i b frame (were_sent frame there) (frame_at i arrived frame is_at there)) in
    let reached = reach dealer n i new_world b.world called.output called.last b.reached within called.chain in
    let later = reached.0 in
    let after : IsAfter b.world i called.output called.last later = reached.2 in
    let count = count_now now.starts i made.began in
    let some_started : made.texts ≢ [] → 1 ≤ start_count (starts_after now.starts i made.began) i =
    λ some. started_now made.began (made.texts ≢ []) (start_count now.starts i) (start_count (starts_after now.starts i made.began) i) count some
    (λ still texts. b.started i within (called.speaks still texts)) in
    let starts_i : suc called.last.starts ≡ b.base i + start_count (starts_after now.starts i made.began) i =
    starts_now made.began (b.world.nodes i).starts called.last.starts (b.base i) (start_count now.starts i) (start_count (starts_after now.starts i made.began) i)
    (b.starts i within) called.starts count in
    let newest = newest_first now.shown i k made.texts in
    let log_is = log_before_it now i made.began b.begun in
    let heard = hears_later IsOf dealer n i b.world later log arrived made new now.delivered (length now.sent) before called within after is_at b.heard b.heard_now in
    record {
      world = later;
      reached = subst (λ m. Reached dealer m later) (sym (length-set nodes i new)) reached.1;
      are_of = each_set (λ j node. IsOf j node (b.world.nodes j) (log_of now.shown j (last_start now.starts j)))
          (λ j node. IsOf j node (later.nodes j) (log_of (grown now i arrived made).shown j (last_start (grown now i arrived made).starts j))) 0 i nodes new
          (λ j node ne is.
          let other : i ≢ j = λ same. ne (sym same ∙ sym zero_i) in
          subst (λ there. IsOf j node there (log_of (grown now i arrived made).shown j (last_start (grown now i arrived made).starts j))) (sym (after.others j (λ same. other (sym same))))
          (subst (IsOf j node (b.world.nodes j))
          (sym (ap (λ ps. log_in ps j (last_start (starts_after now.starts i made.began) j)) newest
          ∙ (log_other i k j (last_start (starts_after now.starts i made.began) j) (reverse made.texts) (reverse now.shown) other
          ∙ ap (λ (m : ℕ). log_in (reverse now.shown) j (m - 1)) (count_after_other now.starts i j made.began other)))) is))
          (subst (λ j. IsOf j new (later.nodes j) (log_of (grown now i arrived made).shown j (last_start (grown now i arrived made).starts j))) (sym zero_i)
          (subst (λ there. IsOf i new there (log_of (grown now i arrived made).shown i k)) (sym after.moved)
          (subst (IsOf i new called.last)
          (sym (ap (λ ps. log_in ps i k) newest ∙ (log_own i k (reverse made.texts) (reverse now.shown) ∙ ap (λ l. log_after l (reverse made.texts)) log_is)))
          called.of))) b.are_of;
      carried = λ message h. subst (In message) (sym after.ever)
          (split_said (said_in before) (said now.sent) (said made.frames) b.world.ever called.output.sent message (b.carried message) (called.carries message)
          (subst (λ ms. In message (said_in before ++ ms)) (said_append now.sent made.frames) h));
      accepted = λ sender ballot slot command h. subst (λ ms. In (Accepted sender ballot slot command) (said_in before ++ ms)) (sym (said_append now.sent made.frames))
          (join_said (said_in before) (said now.sent) (said made.frames) b.world.ever called.output.sent (Accepted sender ballot slot command)
          (b.accepted sender ballot slot command) (called.accepted sender ballot slot command) (subst (In (Accepted sender ballot slot command)) after.ever h));
      accepts = λ ballot slot command h. subst (In (Accepted ballot.node ballot slot command)) (sym (said_append now.sent made.frames))
          (elim (in_split (said now.sent) (said made.frames) (Accept ballot slot command) (subst (In (Accept ballot slot command)) (said_append now.sent made.frames) h)) [
            | inl was ↦ in_first (said now.sent) (said made.frames) (Accepted ballot.node ballot slot command) (b.accepts ballot slot command was)
            | inr is_new ↦ in_later (said now.sent) (said made.frames) (Accepted ballot.node ballot slot command) (called.accepts ballot slot command is_new)
          ]);
      own = λ frame h. subst (λ m. IsOwn m frame) (sym (length-set nodes i new)) (elim (in_split now.sent made.frames frame h) [
        | inl sent ↦ b.own frame sent
        | inr new_one ↦ called.own frame new_one
      ]);
      base = b.base;
      latest = called.output.shown ++ b.latest;
      older = b.older;
      shown = after.shown ∙ (ap (λ xs. called.output.shown ++ xs) b.shown ∙ sym (append_assoc called.output.shown b.latest b.older));
      pieces = subst (ArePieces b.base (called.output.shown ++ b.latest)) (sym newest)
          (pieces_more b.base i k called.last.starts called.output.shown b.latest (reverse made.texts) (reverse now.shown)
          (λ some.
          let least = some_started (λ none. some (ap reverse none)) in
          omega arith)
          (subst (λ l. AreTold i called.last.starts l called.output.shown (reverse made.texts)) (sym log_is) called.told)
          b.pieces);
      eras = b.eras;
      starts = λ j less. elim (cases_eq j i) [
        | inl same ↦ subst (λ m. suc (later.nodes m).starts ≡ b.base m + start_count (starts_after now.starts i made.began) m) (sym same)
            (ap (λ (node : WorldNode). suc node.starts) after.moved ∙ starts_i)
        | inr other ↦ ap (λ (node : WorldNode). suc node.starts) (after.others j other)
            ∙ (b.starts j (subst (λ m. j < m) (length-set nodes i new) less)
            ∙ ap (λ m. b.base j + m) (sym (count_after_other now.starts i j made.began (λ same. other (sym same)))))
      ];
      started = λ j less up. elim (cases_eq j i) [
        | inl same ↦
            let up_now : called.last.up ≡ true = sym (ap (λ (node : WorldNode). node.up) after.moved) ∙ subst (λ m. (later.nodes m).up ≡ true) same up in
            subst (λ m. 1 ≤ start_count (starts_after now.starts i made.began) m) (sym same)
            (started_now made.began (called.last.up ≡ true) (start_count now.starts i) (start_count (starts_after now.starts i made.began) i) count up_now
            (λ still is_up. b.started i within (called.awake still is_up)))
        | inr other ↦ subst (λ m. 1 ≤ m) (sym (count_after_other now.starts i j made.began (λ same. other (sym same))))
            (b.started j (subst (λ m. j < m) (length-set nodes i new) less) (sym (ap (λ (node : WorldNode). node.up) (after.others j other)) ∙ up))
      ];
      begun = begun_after now i arrived made some_started b.begun;
      headers = headers_after now i arrived made called.header b.headers;
      heard = heard.heard;
      heard_now = subst (λ m. IsHeardNow m later (now.delivered ++ map (placed_at (length now.sent)) arrived)) (sym (length-set nodes i new)) heard.now;
      ordered = subst (λ m. AreOrdered m later.came (grown now i arrived made) before) (sym (length-set nodes i new))
          (orders_later known dealer n i b.world later.came called.output.came made.began arrived made now before b.reached b.accepted
          (elim called.came [ inl brings ↦ inl brings | inr none ↦ inr none.0 ]) after.came called.knew b.ordered);
    }

-- A step's fact about the world, from the one before.
pub stepped : {Node : Type 0} (IsOf : ℕ → Node → WorldNode → List ℕ → Type 0) (dealer : Dealer) (i : ℕ) (nodes : List Node) (old new : Node) (arrived : List Arrived) (made : Made)
    (now : Record) (before : List Era)
    → Reaches → KnownIsChosen → i < length nodes → get_or nodes i old ≡ old → Calls IsOf dealer (length nodes) i old arrived made new
    → ((what : Arrived) → In what arrived → IsAt i what) → ArePlaced now.sent now.delivered
    → (IsUnforged now.sent now.delivered → ∥ Behind IsOf dealer nodes now before ∥₁)
    → IsUnforged (grown now i arrived made).sent (grown now i arrived made).delivered
    → ∥ Behind IsOf dealer (set nodes i new) (grown now i arrived made) before ∥₁
stepped IsOf dealer i nodes old new arrived made now before reach known within at calls is_at placed behind unforged =
    ∥∥₁_map (behind (unforged_before now.sent made.frames now.delivered (map (placed_at (length now.sent)) arrived) placed unforged))
    (extends IsOf dealer i nodes old new arrived made now before reach known within at calls is_at (came_was_sent now.sent made.frames now.delivered arrived unforged))

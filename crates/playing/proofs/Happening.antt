-- What comes of an event, of a delivery and of a new cluster, as it is printed.
use Rattle.std.proofs.Common.{◌≡◌, ◌≢◌, ℕ, ◌+◌, ◌-◌, ◌≤◌, ◌<◌, Bool, true, false, List, [], ◌∷◌, ◌++◌, length, take, replicate, ap, subst, sym, ◌∙◌, refl, arith, length-append, length-set, Result, Err}
use Rattle.std.specs.Prelude.{slice_get, slice_set, Some}
use Rattle.std.specs.List.{flat_map}
use Rattle.std.proofs.lemmas.Grind.{flat_map-append}
use Rattle.std.proofs.lemmas.List.{append-nil, take_more, length-replicate}
use Rattle.std.proofs.lemmas.Option.{slice_get_within, get_or_from_slice_get}
use Rattle.promise_store.specs.declared.memory_disk.MemoryDisk.{MemoryDisk}
use Rattle.promise_store.specs.contracts.memory_disk.MemoryDiskDisk.TheImpl.{ghosts as in_memory}
use Rattle.dealer_node.specs.Nodes.{Node}
use Rattle.dealer_node.specs.declared.fault.NodeFault.{NodeFault}
use Rattle.dealer_node.specs.declared.fault.NodeFault.TheVariants.{OutOfMemory}
use Rattle.dealer_world.specs.Records.{Piece}
use Rattle.dealer_world.specs.declared.event.Event.{Event}
use Rattle.dealer_world.specs.Events.{node_of}
use Rattle.dealer_world.specs.Stepping.{View, Stepped}
use Rattle.playing.specs.Showing.{event_text}
use Rattle.playing.specs.Playing.{Scene, Happens, delivering, header_text}
use Rattle.playing.specs.PlayingInside.{marks_of}
use Rattle.playing.proofs.Marking.{marked_all, marked_more}
use Rattle.playing.proofs.Gaining.{frames_gained}

-- a cluster with marks, as a scene
abbrev pub marked : View (Node MemoryDisk) → List Bool → Scene
marked view marks = record { cluster = view; delivered = marks_of (length view.all.sent) marks }

-- an event that finds memory
pub happened : (old new : View (Node MemoryDisk)) (marks : List Bool) (e : Event) (answer : Result (Unit {0}) NodeFault) (text : List ℕ) → (answer ≡ Err OutOfMemory → ⊥)
    → Stepped in_memory old e answer new → length marks ≤ length old.all.sent → text ≡ event_text (node_of e) (length old.all.sent) new.last answer
    → Happens (marked old marks) e text (marked new marks)
happened old new marks e answer text ample stepped within printed = record {
  answer = answer;
  finds_memory = ample;
  stepped = stepped;
  printed = printed;
  delivered = ap (λ (n : ℕ). marks_of n marks) (frames_gained in_memory old e answer new stepped ample)
      ∙ marked_more (length old.all.sent) (length new.last.frames) marks within;
}

-- marks of all frames are as many as frames
marks_are_all : (count : ℕ) (marks : List Bool) → length marks ≤ count → marks ≡ marks_of count marks → length marks ≡ count
marks_are_all count marks within same =
    let long : length marks ≡ length marks + (count - length marks) =
    ap length same ∙ length-append marks (replicate (count - length marks) false) ∙ ap (λ (n : ℕ). length marks + n) (length-replicate (count - length marks) false) in
    omega (arith, long, within)

-- where all frames are marked, one more mark is the delivery of that frame
pub delivering_is : (view : View (Node MemoryDisk)) (before marks : List Bool) (number : ℕ) (old : Scene) → length before ≤ length view.all.sent → before ≡ old.delivered
    → marks ≡ slice_set before number true → marked view before ≡ old → marked view marks ≡ delivering number old
delivering_is view before marks number old within all set_one same =
    let count = length view.all.sent in
    let full : length before ≡ count = marks_are_all count before within (all ∙ sym (ap (λ (s : Scene). s.delivered) same)) in
    let long : length marks ≡ count = ap length set_one ∙ length-set before number true ∙ full in
    let marks_are : marks_of count marks ≡ slice_set old.delivered number true = marked_all count marks long ∙ set_one ∙ ap (λ (d : List Bool). slice_set d number true) all in
    ap (λ (d : List Bool). record { cluster = view; delivered = d }) marks_are
    ∙ ap (λ (v : View (Node MemoryDisk)). record { cluster = v; delivered = slice_set old.delivered number true }) (ap (λ (s : Scene). s.cluster) same)

-- one piece more
pub header_more : (shown : List Piece) (i : ℕ) (piece : Piece) → slice_get shown i ≡ Some piece
    → flat_map header_text (take (i + 1) shown) ≡ flat_map header_text (take i shown) ++ header_text piece
header_more shown i piece is =
    ap (flat_map header_text) (take_more shown i piece (slice_get_within shown i piece is) ∙ ap (λ y. take i shown ++ y ∷ []) (get_or_from_slice_get shown i piece piece is))
    ∙ flat_map-append header_text (take i shown) (piece ∷ []) ∙ ap (λ z. flat_map header_text (take i shown) ++ z) (append-nil (header_text piece))

-- What a turn does.
use Rattle.std.specs.Prelude.{◌≡◌, ◌⊎◌, ℕ, Bool, true, List, [], ◌++◌, map, Some, None, Result, Ok, Err, OnOk}
use Rattle.promise_store.specs.declared.disk.Disk.{Ghosts}
use Rattle.dealer_node.specs.Nodes.{Node}
use Rattle.dealer_node.specs.declared.fault.NodeFault.{NodeFault}
use Rattle.dealer_node.specs.declared.fault.NodeFault.TheVariants as fault
use Rattle.dealer_node.specs.Seeing.{begun_of}
use Rattle.dealer_world.specs.Events.{node_of}
use Rattle.dealer_world.specs.Promise.{IsPromised, HasNoForged}
use Rattle.dealer_world.specs.Stepping.{View, Stepped}
use Rattle.serving.specs.declared.progress.Progress.{Progress}
use Rattle.serving.specs.declared.waiting.Waiting.{Waiting}
use Rattle.serving.specs.declared.due.Due.{Due}
use Rattle.serving.specs.declared.turn.Turn.{Turn}
use Rattle.serving.specs.declared.turn.Turn.TheVariants as turn
use Rattle.serving.specs.declared.serve_fault.ServeFault.{ServeFault}
use Rattle.serving.specs.declared.serve_fault.ServeFault.TheVariants as serve
use Rattle.match_links.specs.Passages.{Passage}
use Rattle.serving.specs.Served.{Served}
use Rattle.serving.specs.Giving.{Gives, counted, all_emptied, taken, to_give}
use Rattle.serving.specs.Placed.{places_in}
use Rattle.serving.specs.Dues.{IsDue, IsNext, SentNothing}
use Rattle.serving.specs.Going.{Settled, IsKept, OnlyLeave, AsksRepair, piece_after}
use Rattle.serving.specs.Turning.{turn_of, fault_in, IsWaiting, Tells, MayFail}

-- a store's fault is mended where it is its first; others need nothing
abbrev pub Mends : NodeFault → ℕ → Progress → Bool → Progress → Type 0
Mends (fault.Store why) node old mends new = AsksRepair old node mends new
Mends other node old mends new = (mends ≡ true) × (new ≡ old)

-- what is known goes on after a call of a node was settled and so much was given: a store that failed for the first time asks for repair; seats that weren't told
-- a line of theirs may leave, and no seat goes anywhere else
abbrev pub Ends : Result (Unit {0}) NodeFault → Waiting → List Passage → List Passage → Progress → Progress → Type 0
Ends (Err (fault.Store why)) waiting lines given settled new = (asked : Progress) × AsksRepair settled (node_of waiting.event) true asked × IsKept asked new
    × OnlyLeave lines given (places_in asked.places) (places_in new.places)
Ends other waiting lines given settled new = IsKept settled new × OnlyLeave lines given (places_in settled.places) (places_in new.places)

-- what passed between two moments: this was taken from the links, and then they were given the pieces that weren't given yet, or the
-- first of them
pub record Passes {N : Type 0} (took : List Passage) (old new : Served N) : Type 0 where
  pub given : List Passage
  pub passed : new.passed ≡ old.passed ++ (took ++ given)
  pub gives : Gives (places_in new.progress.places) new.view.all.shown old.shown new.shown given

-- all that the record has was given
abbrev pub HasGivenAll : {N : Type 0} → Served N → Type 0
HasGivenAll now = now.shown ≡ counted now.view.all.shown

-- at first each log is emptied, and then all is given that the record has, since the links were as they were; nothing was read yet
pub record Opens {N : Type 0} (nodes : ℕ) (before : List Passage) (new : Served N) : Type 0 where
  pub given : List Passage
  pub passed : new.passed ≡ before ++ (all_emptied nodes ++ given)
  pub gives : Gives (places_in new.progress.places) new.view.all.shown 0 new.shown given
  pub all_given : HasGivenAll new
  pub unread : new.piece ≡ []

-- a turn whose event was answered so was ended by this answer: what wasn't given yet was given to its readers, or the first pieces of it
pub record Closes {N : Type 0} (waiting : Waiting) (called : Result (Unit {0}) NodeFault) (old : Served N) (answer : Result Turn ServeFault) (new : Served N) : Type 0 where
  pub passes : Passes [] old new
  pub ends : OnOk answer (Ends called waiting (to_give new.view.all.shown old.shown new.shown) passes.given old.progress new.progress)
  pub all_given : OnOk answer (HasGivenAll new)
  pub tells : Tells (turn_of waiting.number waiting.seat waiting.event) waiting.event called answer

module _ {D : Type 0} (g : Ghosts D) where
  -- what is promised of a cluster's record is so still: no frame is forged anew, and each node has begun what it had
  pub record KeepsPromise (old new : View (Node D)) : Type 0 where
    pub promised : IsPromised g new
    pub unforged : HasNoForged old → HasNoForged new
    pub begun : map (begun_of g) new.nodes ≡ map (begun_of g) old.nodes

  -- what is known after an event was given and answered so, and so much of what was to be given was
  pub record Went (view : View (Node D)) (waiting : Waiting) (called : Result (Unit {0}) NodeFault) (lines given : List Passage) (old new : Progress) : Type 0 where
    pub settled : Progress
    pub settles : Settled g view waiting.event (turn_of waiting.number waiting.seat waiting.event) old settled
    pub ends : Ends called waiting lines given settled new

  -- this event was given to the cluster, for which this was taken from the links, and answered so; where it found no memory it waits
  pub record Gave (waiting : Waiting) (took : List Passage) (old : Served (Node D)) (answer : Result Turn ServeFault) (new : Served (Node D)) : Type 0 where
    pub called : Result (Unit {0}) NodeFault
    pub of_match : IsWaiting old.view waiting
    pub stepped : Stepped g old.view waiting.event called new.view
    pub tells : Tells (turn_of waiting.number waiting.seat waiting.event) waiting.event called answer
    pub again : called ≡ Err fault.OutOfMemory → (new.waiting ≡ Some waiting) × (new.progress ≡ old.progress) × (new.piece ≡ old.piece)
    pub given : (called ≡ Err fault.OutOfMemory → ⊥) → new.waiting ≡ None
    pub passes : Passes took old new
    pub went : OnOk answer (Went new.view waiting called (to_give new.view.all.shown old.shown new.shown) passes.given old.progress new.progress)
    pub all_given : OnOk answer (HasGivenAll new)
    pub refused : new.refused ≡ fault_in called
    pub named : (called ≡ Err fault.OutOfMemory → ⊥) → new.called ≡ node_of waiting.event
    pub piece : (called ≡ Err fault.OutOfMemory → ⊥) → new.piece ≡ piece_after waiting.event old.piece

  -- what is due couldn't be taken from the links
  abbrev pub FailsAt : Served (Node D) → ServeFault → Type 0
  FailsAt old why = (what : Due) × IsDue g old.view old.progress what × MayFail old.view.config what why

  -- no call was made: all is over, a seat sent nothing, it is 92, which may come at any turn (that it comes of the links' room alone no clause says), or what is
  -- due couldn't be taken
  abbrev pub DidNothing : Served (Node D) → Result Turn ServeFault → Type 0
  DidNothing old (Ok t) = ((t ≡ turn.Over) × IsNext g old.view old.progress old.waiting None) ⊎ SentNothing g old.view old.progress old.waiting t
  DidNothing old (Err why) = (why ≡ serve.Node fault.OutOfMemory) ⊎ FailsAt old why

  -- a turn did what is due: it gave the one event that is next to the cluster, or nothing
  abbrev pub Turned : Served (Node D) → Result Turn ServeFault → Served (Node D) → Type 0
  Turned old answer new =
      ((new ≡ old) × DidNothing old answer)
      ⊎ ((waiting : Waiting) × IsNext g old.view old.progress old.waiting (Some waiting) × Gave waiting (taken old.waiting (Some waiting)) old answer new)

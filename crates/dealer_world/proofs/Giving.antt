-- An event, given to its node.
use Rattle.std.proofs.Common.{◌≡◌, ◌∙◌, inl, Bool, true, false, [], Result, Err, OnOk, IfErr, subst, sym, refl, IsTrue, arith}
use Rattle.promise_store.specs.declared.disk.Disk.{Ghosts}
use Rattle.protocol_model.specs.Stores.{Store, empty_store}
use Rattle.node_rules.specs.Standings.{Place, Standing}
use Rattle.node_rules.specs.Called.{unchanged}
use Rattle.promise_store.specs.declared.fault.StoreFault.{StoreFault}
use Rattle.promise_store.specs.declared.fault.StoreFault.TheVariants.{Disk}
use Rattle.node_rules.specs.Calls.{Call}
use Rattle.dealer_node.specs.Nodes.{Node}
use Rattle.dealer_node.specs.declared.fault.NodeFault.{NodeFault}
use Rattle.dealer_node.specs.declared.fault.NodeFault.TheVariants as fault
use Rattle.dealer_node.specs.Members.{place_at}
use Rattle.dealer_node.specs.Outs.{Told, nothing_told}
use Rattle.dealer_node.specs.Seeing.{member_in, IsSeen}
use Rattle.dealer_node.specs.Taking.{Takes, StaysItself, MayBegin, IsOfStart, FindsStore, StopsBy}
use Rattle.dealer_world.specs.declared.event.Event.{Event}
use Rattle.dealer_world.specs.declared.event.Event.TheVariants as event
use Rattle.dealer_world.specs.Events.{call_of}
use Rattle.dealer_world.specs.Stepping.{IsGiven, MakesOfDisk}
use Rattle.dealer_world.proofs.Ruled.{fault_is}

begins_nothing : (up : Bool) (place : Place) (s : Standing) (called : Call) → (next : Store) × MayBegin up place s called next
begins_nothing true place s called = (s.store, inl refl)
begins_nothing false place s called = (s.begun, refl)

no_fault : (answer : Result (Unit {0}) NodeFault) (why : StoreFault) → answer ≡ Err fault.OutOfMemory → answer ≡ Err (fault.Store why) → ⊥
no_fault answer why none failed = let e = fault_is _ _ (sym none ∙ failed) in cc

not_store : (answer : Result (Unit {0}) NodeFault) → answer ≡ Err fault.OutOfMemory → answer ≡ Err (fault.Store Disk) → ⊥
not_store answer none failed = no_fault answer Disk none failed

module _ {D : Type 0} (g : Ghosts D) where
  pub started : (e : Event) (old new : Node D) (earlier told : Told) (answer : Result (Unit {0}) NodeFault) → earlier ≡ nothing_told
      → ((s : Standing) → IsTrue g.is_honest → IsSeen g old s → (found : Store) × Takes g (call_of found e) s old new earlier told answer)
      → StaysItself g old new earlier told answer → MakesOfDisk g e old new answer → IsGiven g e old new told answer
  started e old new earlier told answer empty taken stays disk = record {
    disk = disk;
    taken = λ s honest seen. let t = taken s honest seen in (t.0, subst (λ from. Takes g (call_of t.0 e) s old new from told answer) empty t.1);
    stays = subst (λ from. StaysItself g old new from told answer) empty stays;
  }

  pub given : (called : Call) (e : Event) (old new : Node D) (earlier told : Told) (answer : Result (Unit {0}) NodeFault) → earlier ≡ nothing_told → called ≡ call_of empty_store e
      → ((s : Standing) → IsTrue g.is_honest → IsSeen g old s → Takes g called s old new earlier told answer)
      → StaysItself g old new earlier told answer → MakesOfDisk g e old new answer → IsGiven g e old new told answer
  given called e old new earlier told answer empty is taken stays disk =
      started e old new earlier told answer empty (λ s honest seen. (empty_store, subst (λ c. Takes g c s old new earlier told answer) is (taken s honest seen))) stays disk

  -- an event that was refused for want of memory made nothing of the disk
  nothing_of_disk : (e : Event) (node : Node D) (answer : Result (Unit {0}) NodeFault) → answer ≡ Err fault.OutOfMemory → MakesOfDisk g e node node answer
  nothing_of_disk (event.Frame from to bytes) node answer none = tt
  nothing_of_disk (event.Line number seat bytes) node answer none = tt
  nothing_of_disk (event.Tick number) node answer none = tt
  nothing_of_disk (event.Away number) node answer none = tt
  nothing_of_disk (event.Connect number seat) node answer none = tt
  nothing_of_disk (event.Drop number seat) node answer none = tt
  nothing_of_disk (event.Stop number pick) node answer none = λ honest. subst (λ (a : Result (Unit {0}) NodeFault). OnOk a (StopsBy g pick node node)) (sym none) tt
  nothing_of_disk (event.Start number) node answer none = record {
    faults = subst (λ (a : Result (Unit {0}) NodeFault). IfErr a IsOfStart) (sym none) tt;
    opens = inl (refl, none);
    found = λ honest down. subst (λ (a : Result (Unit {0}) NodeFault). OnOk a (FindsStore g node node)) (sym none) tt;
    refused = λ honest why failed. absurd (no_fault answer why none failed);
  }

  -- a call that wasn't made: there was no memory
  pub not_given : (e : Event) (node : Node D) (answer : Result (Unit {0}) NodeFault) → answer ≡ Err fault.OutOfMemory → IsGiven g e node node nothing_told answer
  not_given e node answer none = record {
    taken = λ s honest seen. let begun = begins_nothing s.up (place_at (member_in node)) s (call_of empty_store e) in (
      empty_store,
      record {
        after = s;
        frames = [];
        shown = [];
        faults = [];
        now = seen;
        ends = unchanged refl refl refl;
        answered = (refl, inl none);
        fails = tt;
        told = refl;
        fits = λ one there. elim there [ ];
        next = begun.0;
        may_begin = begun.1;
        moments = λ t image was. inl was;
      },
    );
    stays = record {
      member = refl;
      begun = refl;
      counts = omega arith;
      rose = λ failed. absurd (not_store answer none failed);
      unmade = λ err. refl;
    };
    disk = nothing_of_disk e node answer none;
  }

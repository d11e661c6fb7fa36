-- A match goes on from the same eras, turn after turn.
use Rattle.std.proofs.Common.{◌≡◌, ℕ, Bool, List, map, length, inl, inr, sym, subst}
use Rattle.std.specs.Prelude.{Result}
use Rattle.promise_store.specs.declared.disk.Disk.{Ghosts}
use Rattle.dealer_kind.specs.Plans.{Plan}
use Rattle.dealer_node.specs.Nodes.{Node}
use Rattle.dealer_node.specs.Seeing.{begun_of}
use Rattle.dealer_world.specs.Headline.{Era}
use Rattle.dealer_world.specs.Promise.{GoesOnFrom}
use Rattle.dealer_world.specs.Ruling.{GoesOn}
use Rattle.dealer_world.specs.Stepping.{View}
use Rattle.serving.specs.Served.{Served}
use Rattle.serving.specs.Turned.{Turned}
use Rattle.serving.specs.declared.turn.Turn.{Turn}
use Rattle.serving.specs.declared.serve_fault.ServeFault.{ServeFault}

-- what a cluster goes on from rests on its match, on whether it was opened, and on what its nodes began with
goes_on_alike : {D : Type 0} (g : Ghosts D) (old new : View (Node D)) (before : List Era) → new.config ≡ old.config → new.opened ≡ old.opened
    → map (begun_of g) new.nodes ≡ map (begun_of g) old.nodes → GoesOnFrom g old before → GoesOnFrom g new before
goes_on_alike g old new before config opened begun goes =
    subst (λ (o : Bool). GoesOn o new.config.setting (length new.config.sources) before (map (begun_of g) new.nodes)) (sym opened)
    (subst (λ (plan : Plan). GoesOn old.opened plan.setting (length plan.sources) before (map (begun_of g) new.nodes)) (sym config)
    (subst (λ (files : List (List ℕ)). GoesOn old.opened old.config.setting (length old.config.sources) before files) (sym begun) goes))

pub turn_goes_on : {D : Type 0} (g : Ghosts D) (old new : Served (Node D)) (answer : Result Turn ServeFault) (before : List Era) → Turned g old answer new
    → map (begun_of g) new.view.nodes ≡ map (begun_of g) old.view.nodes → GoesOnFrom g old.view before → GoesOnFrom g new.view before
turn_goes_on g old new answer before (inl (same, idle)) begun goes = subst (λ (s : Served (Node _)). GoesOnFrom g s.view before) (sym same) goes
turn_goes_on g old new answer before (inr (waiting, next, gave)) begun goes =
    goes_on_alike g old.view new.view before gave.stepped.same_config gave.stepped.same_opened begun goes

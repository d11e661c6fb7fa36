-- What is promised of a cluster follows from the run behind it; and runs, an event longer.
use Rattle.std.proofs.Common.{refl, ◌≡◌, ℕ, ◌<◌, ◌+◌, List, [], ◌∷◌, ◌++◌, length, take, get_or, Result, Err, inl, inr, ap, sym, ◌∙◌, subst}
use Rattle.std.proofs.Math.Logic.{∥∥₁_map, ∥∥₁_elim}
use Rattle.std.proofs.lemmas.List.{take_more}
use Rattle.promise_store.specs.declared.disk.Disk.{Ghosts}
use Rattle.dealer_node.specs.Nodes.{Node}
use Rattle.dealer_node.specs.declared.fault.NodeFault.{NodeFault}
use Rattle.dealer_node.specs.declared.fault.NodeFault.TheVariants as fault
use Rattle.dealer_world.specs.declared.event.Event.{Event}
use Rattle.dealer_world.specs.RuleRuns.{RunsShowOneList, RunsAreBacked, IsBacked as IsBackedRule}
use Rattle.dealer_world.specs.Stepping.{View, Stepped, Ran, more}
use Rattle.dealer_world.specs.Promise.{IsPromised, IsPromisedNew, IsBackedBy}
use Rattle.dealer_world.specs.Ruling.{AreAtPlaces, IsBehind, GoesOn}
use Rattle.std.specs.Prelude.{map}
use Rattle.dealer_node.specs.Seeing.{begun_of}
use Rattle.promise_store.specs.Journals.{header}
use Rattle.promise_store.specs.Laws.{IsBacked}
use Rattle.protocol_model.specs.Stores.{empty_store}
use Rattle.node_rules.specs.Standings.{Standing, place_of, stopped}
use Rattle.dealer_world.proofs.Keeping.{each_here}
use Rattle.dealer_world.proofs.Ruled.{same_count, seen_at}
use Rattle.dealer_world.proofs.Leaving.{ImagesAreSeen, left_at}

module _ {D : Type 0} (g : Ghosts D) where
  pub promised : (view : View (Node D)) → RunsShowOneList → IsBehind g view.opened view.config view.nodes view.all → IsPromised g view
  promised view law behind before goes honest unforged =
      ∥∥₁_map (behind before goes honest) (λ ruled. law view.config.setting (length view.config.sources) before view.config.sources _ ruled.runs unforged)

  pub ran_more : (first between last : View (Node D)) (events : List Event) (k : ℕ) (e : Event) (answer : Result (Unit {0}) NodeFault) → k < length events → e ≡ get_or events k e
      → Ran g first (take k events) between → Stepped g between e answer last → (answer ≡ Err fault.OutOfMemory → ⊥) → Ran g first (take (k + 1) events) last
  ran_more first between last events k e answer within is ran stepped ample =
      more (take k events) between e answer _ last ran stepped ample (take_more events k e within ∙ ap (λ (x : Event). take k events ++ x ∷ []) (sym is))

  -- what was said is backed, by each image
  pub backed : (view : View (Node D)) → RunsAreBacked → ImagesAreSeen g → ∥ AreAtPlaces view.config view.nodes ∥₁ → IsBehind g view.opened view.config view.nodes view.all → IsBackedBy g view
  backed view law images at_places behind before goes honest unforged i d image frame message less is sent from says =
      let head = header i (length view.config.sources) in
      ∥∥₁_elim at_places (hlevel) (λ each. ∥∥₁_map (behind before goes honest) (λ ruled.
      let e : Standing = stopped (place_of view.config i) empty_store empty_store in
      let s : Standing = get_or ruled.standings i e in
      let back = each_here (IsBackedRule view.all.sent) i ruled.standings e (subst (λ n. i < n) (same_count g view.nodes ruled.standings ruled.seen) less)
      (law view.config.setting (length view.config.sources) before view.config.sources _ ruled.runs unforged) frame message sent from says in
      elim (left_at g view.config i (get_or view.nodes i d) s image images (each i d less) (seen_at g view.nodes ruled.standings i d e less ruled.seen) is) as (λ _. IsBacked head image message) [
        | inl stands ↦ (s.store, stands, back.0)
        | inr stands ↦ (s.begun, stands, back.1)
      ]))

  -- of a cluster that was never opened
  pub promised_new : (view : View (Node D)) → IsPromised g view → IsPromisedNew g view
  promised_new view all new honest unforged =
      all [] (subst (λ opened. GoesOn opened view.config.setting (length view.config.sources) [] (map (begun_of g) view.nodes)) (sym new) refl) honest unforged

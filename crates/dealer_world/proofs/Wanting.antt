-- Why nodes of a cluster don't start: memory or a disk fails.
use Rattle.std.proofs.Common.{◌≡◌, ◌<◌, ◌+◌, ℕ, suc, inl, inr, Bool, true, false, List, [], ◌∷◌, map, length, get_or, set, Result, Ok, Err, IsTrue, IfErr, ap, sym, ◌∙◌, subst, arith}
use Rattle.std.proofs.lemmas.List.{length-map}
use Rattle.promise_store.specs.declared.disk.Disk.{Ghosts}
use Rattle.promise_store.specs.declared.fault.StoreFault.TheVariants.{Disk}
use Rattle.promise_store.specs.Journals.{header}
use Rattle.promise_store.specs.Holding.{StandsFor}
use Rattle.protocol_model.specs.Stores.{Store, empty_store}
use Rattle.node_rules.specs.Standings.{Place, Standing, place_of, stopped}
use Rattle.node_rules.specs.Sending.{Frame as Outgoing}
use Rattle.node_rules.specs.Showing.{Piece as Shown, SeatFault}
use Rattle.node_rules.specs.Turns.{Refusal}
use Rattle.node_rules.specs.Calls.{Start}
use Rattle.node_rules.specs.Rules.{IsTurnBy}
use Rattle.node_rules.specs.Called.{Ends, took, refused, failed, unchanged}
use Rattle.dealer_node.specs.Nodes.{Node}
use Rattle.dealer_node.specs.declared.fault.NodeFault.{NodeFault}
use Rattle.dealer_node.specs.declared.fault.NodeFault.TheVariants as fault
use Rattle.dealer_node.specs.Members.{place_at}
use Rattle.dealer_kind.specs.Plans.{Plan}
use Rattle.dealer_node.specs.Seeing.{member_in, IsSeen, begun_of}
use Rattle.dealer_node.specs.Taking.{Answered}
use Rattle.dealer_world.specs.declared.event.Event.{Event}
use Rattle.dealer_world.specs.declared.event.Event.TheVariants as event
use Rattle.dealer_world.specs.Events.{node_of}
use Rattle.dealer_world.specs.Stepping.{View, Stepped}
use Rattle.dealer_world.specs.Ruling.{AreSeen}
use Rattle.dealer_world.specs.Beginning.{IsWant, IsCreatedAt, IsReopenedAt, AreEach, HaveStores}
use Rattle.dealer_world.proofs.Founding.{first_of, rest_of, from_0, created, created_seen}
use Rattle.dealer_world.proofs.Ruled.{err_is, seen_at, seen_set}

-- a start is never refused
never_refused : (up : Bool) (place : Place) (s : Standing) (found : Store) (refusal : Refusal) → IsTurnBy up place s (Start found) (Err refusal) → ⊥
never_refused true place s found refusal is = cc
never_refused false place s found refusal (finds, is) = cc

wants_by : (place : Place) (s : Standing) (found : Store) (after : Standing) (frames : List Outgoing) (shown : List Shown) (faults : List SeatFault) (answer : Result (Unit {0}) NodeFault) (why : NodeFault)
    → answer ≡ Err why → (ends : Ends place s (Start found) after frames shown) → Answered place s (Start found) after frames shown ends faults answer → IsWant why
wants_by place s found after frames shown faults answer why is (took turn rule a b c) (told, ok) = absurd (let e : Ok tt ≡ Err why = sym ok ∙ is in cc)
wants_by place s found after frames shown faults answer why is (refused refusal rule a b c) (told, err) = absurd (never_refused s.up place s found refusal rule)
wants_by place s found after frames shown faults answer why is (failed outcome begun ran rule d a b c) (told, err) = inr (err_is why (fault.Store Disk) answer is err)
wants_by place s found after frames shown faults answer why is (unchanged a b c) (told, inl none) = inl (err_is why fault.OutOfMemory answer is none)
wants_by place s found after frames shown faults answer why is (unchanged a b c) (told, inr (start, err)) = inr (err_is why (fault.Store Disk) answer is err)

-- what holds of the fault of a refused answer
pub on_fault : {A : Type 0} (answer : Result A NodeFault) (why : NodeFault) (Holds : NodeFault → Type 0) → answer ≡ Err why → Holds why → IfErr answer Holds
on_fault {A = A} answer why Holds is so = subst (λ (a : Result A NodeFault). IfErr a Holds) (sym is) so

abbrev waiting : {N : Type 0} → Plan → (ℕ → Store) → ℕ → List N → List Standing
waiting plan stores k [] = []
waiting plan stores k (node ∷ nodes) = stopped (place_of plan k) (stores k) (stores k) ∷ waiting plan stores (k + 1) nodes

module _ {D : Type 0} (g : Ghosts D) where
  -- the nodes after an event are seen as some standings, if they were before
  pub seen_on : (old new : View (Node D)) (e : Event) (answer : Result (Unit {0}) NodeFault) (standings : List Standing) → Stepped g old e answer new → IsTrue g.is_honest → AreSeen g old.nodes standings
      → (after : List Standing) × AreSeen g new.nodes after
  seen_on old new e answer standings stepped honest are =
      let d : Standing = stopped (place_at (member_in stepped.before)) empty_store empty_store in
      let s : Standing = get_or standings (node_of e) d in
      let seen : IsSeen g stepped.before s = subst (λ node. IsSeen g node s) stepped.at (seen_at g old.nodes standings (node_of e) stepped.before d stepped.within are) in
      let takes = (stepped.given.taken s honest seen).1 in (
        set standings (node_of e) takes.after,
        subst (λ (nodes : List (Node D)). AreSeen g nodes (set standings (node_of e) takes.after)) (sym stepped.others) (seen_set g old.nodes standings (node_of e) stepped.after takes.after are takes.now),
      )

  -- a start that isn't answered by Ok found no memory, or its disk failed
  pub start_wants : (old new : View (Node D)) (k : ℕ) (answer : Result (Unit {0}) NodeFault) (why : NodeFault) (standings : List Standing) → Stepped g old (event.Start k) answer new → IsTrue g.is_honest
      → AreSeen g old.nodes standings → answer ≡ Err why → IsWant why
  start_wants old new k answer why standings stepped honest are is =
      let d : Standing = stopped (place_at (member_in stepped.before)) empty_store empty_store in
      let s : Standing = get_or standings k d in
      let seen : IsSeen g stepped.before s = subst (λ node. IsSeen g node s) stepped.at (seen_at g old.nodes standings k stepped.before d stepped.within are) in
      let t = stepped.given.taken s honest seen in
      wants_by (place_at (member_in stepped.before)) s t.0 t.1.after t.1.frames t.1.shown t.1.faults answer why is t.1.ends t.1.answered

  -- ---- the nodes before they are started

  waiting_seen : (plan : Plan) (stores : ℕ → Store) (k : ℕ) (nodes : List (Node D)) → AreEach (λ i. IsReopenedAt g plan (k + i)) nodes
      → ((i : ℕ) → i < length nodes → StandsFor (header (k + i) (length plan.sources)) (get_or (map (begun_of g) nodes) i []) (stores (k + i))) → AreSeen g nodes (waiting plan stores k nodes)
  waiting_seen plan stores k [] each have = tt
  waiting_seen plan stores k (node ∷ nodes) each have =
      let here : k + 0 ≡ k = omega arith in (
        (first_of (IsReopenedAt g plan) k node nodes each).seen (stores k) (stores k)
            (inl (subst (λ j. StandsFor (header j (length plan.sources)) (begun_of g node) (stores j)) here (have 0 (omega arith)))),
        waiting_seen plan stores (k + 1) nodes (rest_of (IsReopenedAt g plan) k node nodes each) (λ i less.
            let next : k + suc i ≡ (k + 1) + i = omega arith in
            subst (λ j. StandsFor (header j (length plan.sources)) (get_or (map (begun_of g) nodes) i []) (stores j)) next (have (suc i) (omega arith))),
      )

  pub reopened_are_seen : (plan : Plan) (stores : ℕ → Store) (nodes : List (Node D)) (files : List (List ℕ)) → AreEach (IsReopenedAt g plan) nodes → map (begun_of g) nodes ≡ files
      → HaveStores (length plan.sources) files stores → (standings : List Standing) × AreSeen g nodes standings
  reopened_are_seen plan stores nodes files each are have = (
    waiting plan stores 0 nodes,
    waiting_seen plan stores 0 nodes (from_0 g (IsReopenedAt g plan) nodes each) (λ i less.
        let here : i ≡ 0 + i = omega arith in
        subst (λ j. StandsFor (header j (length plan.sources)) (get_or (map (begun_of g) nodes) i []) (stores j)) here
        (subst (λ (fs : List (List ℕ)). StandsFor (header i (length plan.sources)) (get_or fs i []) (stores i)) (sym are)
        (have i (subst (λ n. i < n) (sym (length-map nodes (begun_of g)) ∙ ap length are) less)))),
  )

  pub created_are_seen : (plan : Plan) (nodes : List (Node D)) → AreEach (IsCreatedAt g plan) nodes → (standings : List Standing) × AreSeen g nodes standings
  created_are_seen plan nodes each = (created plan 0 nodes, created_seen g plan 0 nodes (from_0 g (IsCreatedAt g plan) nodes each))

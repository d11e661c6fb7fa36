-- The processes that a node had.
use Rattle.std.proofs.Common.{ℕ, ◌∙◌, inl, inr, List, [], ◌∷◌, ◌++◌, IsTrue, refl, sym, subst}
use Rattle.std.proofs.Math.Logic.{∥∥₁_map, ∥∥₁_elim}
use Rattle.promise_store.specs.declared.disk.Disk.{Ghosts}
use Rattle.promise_store.specs.Journals.{header}
use Rattle.promise_store.specs.Holding.{StandsFor}
use Rattle.protocol_model.specs.Stores.{empty_store}
use Rattle.node_rules.specs.Standings.{Place}
use Rattle.dealer_node.specs.Nodes.{Node}
use Rattle.dealer_node.specs.Seeing.{front_in, begun_of}
use Rattle.stations.specs.Deeds.{Deed, new_at}
use Rattle.stations.specs.Stations.{Look, HoldsAfter, LeavesFile, died, broke_off, DeathsAtRestAreDeeds, DeathsInsideAreDeeds}
use Rattle.stations.specs.Incarnations.{IsProcess, Ended, at_rest, inside, Incarnations, new_store, one_more, IsHistoryOf, IncarnationsAreDeeds}

new_left : (place : Place) (file : List ℕ) → StandsFor (header place.node place.nodes) file empty_store → LeavesFile place file []
new_left place file is = record { s = new_at place; did = refl; down = refl; held = inl is }

module _ {D : Type 0} (g : Ghosts D) where
  -- where a process was after its last whole call
  where_it_was : (place : Place) (found : List ℕ) (look : Look (Node D)) (before : List Deed) → IsProcess g place found look → IsTrue g.is_honest → LeavesFile place found before
      → ∥ HoldsAfter g place look.node (look.deeds ++ before) ∥₁
  where_it_was place found look before is honest left =
      subst (λ (p : Place). ∥ HoldsAfter g p look.node (look.deeds ++ before) ∥₁) is.placed
      (is.has.true_to before ∣ (subst (λ (p : Place). LeavesFile p (begun_of g look.node) before) (sym is.placed) (subst (λ (file : List ℕ). LeavesFile place file before) (sym is.begun) left)) ∣₁ honest)

  abbrev HasHistoryTo : (place : Place) (found left : List ℕ) → Incarnations g place found → Ended g place found left → Type 0
  HasHistoryTo place found left incarnations ended = (deeds : List Deed) × IsHistoryOf g place left (one_more found left incarnations ended) deeds × LeavesFile place left deeds

  ended_so : DeathsAtRestAreDeeds g → DeathsInsideAreDeeds g → (place : Place) (found left : List ℕ) (incarnations : Incarnations g place found) (ended : Ended g place found left) (before : List Deed)
      → IsTrue g.is_honest → IsHistoryOf g place found incarnations before → LeavesFile place found before → ∥ HasHistoryTo place found left incarnations ended ∥₁
  ended_so rests breaks place found left incarnations (at_rest look is image) before honest history was =
      ∥∥₁_elim is.has.at_place (hlevel) (λ placed.
      ∥∥₁_map (where_it_was place found look before is honest was) (λ at.
      (died ∷ (look.deeds ++ before), (before, died ∷ look.deeds, history, refl, refl), rests place look.node (look.deeds ++ before) left (placed ∙ is.placed) image at)))
  ended_so rests breaks place found left incarnations (inside look is e new told answer here is_for given since) before honest history was =
      ∥∥₁_elim is.has.at_place (hlevel) (λ placed.
      ∥∥₁_map (where_it_was place found look before is honest was) (λ at.
      elim (breaks place e look.node new told answer (look.deeds ++ before) left (placed ∙ is.placed) here is_for given honest since at) [
        | inl kept ↦ (died ∷ (look.deeds ++ before), (before, died ∷ look.deeds, history, inl refl, refl), kept)
        | inr broken ↦
            (broke_off (front_in look.node) e ∷ (look.deeds ++ before), (before, broke_off (front_in look.node) e ∷ look.deeds, history, inr refl, refl), broken)
      ]))

  pub incarnations_are_deeds : DeathsAtRestAreDeeds g → DeathsInsideAreDeeds g → IncarnationsAreDeeds g
  incarnations_are_deeds rests breaks place _ (new_store file is) honest = ∣ ([], refl, new_left place file is) ∣₁
  incarnations_are_deeds rests breaks place _ (one_more found left incarnations ended) honest =
      ∥∥₁_elim (incarnations_are_deeds rests breaks place found incarnations honest) (hlevel)
      (λ earlier. ended_so rests breaks place found left incarnations ended earlier.0 honest earlier.1 earlier.2)

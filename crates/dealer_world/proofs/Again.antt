-- What goes on from files goes on from others that stand for the same stores.
use Rattle.std.proofs.Common.{◌≡◌, ◌⊎◌, ℕ, zero, suc, ◌+◌, ◌<◌, inl, inr, true, List, [], ◌∷◌, length, get_or, ◌∙◌, subst, arith}
use Rattle.std.proofs.Math.Logic.{∥∥₁_map}
use Rattle.promise_store.specs.Journals.{header}
use Rattle.promise_store.specs.Holding.{StandsFor}
use Rattle.protocol_model.specs.Stores.{Store, empty_store}
use Rattle.dealer_kind.specs.Kind.{Setting}
use Rattle.node_rules.specs.Standings.{Standing}
use Rattle.dealer_world.specs.Headline.{Era}
use Rattle.dealer_world.specs.Ruling.{AreLeft, Leaves, GoesOn, new_stores, a_run}

-- the later files, of nodes from this one on, stand for what the earlier ones stand for
abbrev StandAsWell : ℕ → ℕ → List (List ℕ) → List (List ℕ) → Type 0
StandAsWell n first earlier later =
    (i k : ℕ) (store : Store) → k ≡ first + i → i < length earlier → StandsFor (header k n) (get_or earlier i []) store → StandsFor (header k n) (get_or later i []) store

left_as_well : (n first : ℕ) (begun : ℕ → Store) (earlier later : List (List ℕ)) (standings : List Standing) → length later ≡ length earlier → StandAsWell n first earlier later
    → AreLeft n first begun earlier standings → AreLeft n first begun later standings
left_as_well n first begun [] [] [] same as_well left = left
left_as_well n first begun [] [] (s ∷ standings) same as_well left = left
left_as_well n first begun [] (file ∷ later) standings same as_well left = absurd (omega (arith, same))
left_as_well n first begun (file ∷ earlier) [] standings same as_well left = absurd (omega (arith, same))
left_as_well n first begun (file ∷ earlier) (other ∷ later) [] same as_well left = left
left_as_well n first begun (file ∷ earlier) (other ∷ later) (s ∷ standings) same as_well (held, rest) = (
  elim held [
    | inl stands ↦ inl (as_well 0 first s.store (omega arith) (omega arith) stands)
    | inr stands ↦ inr (as_well 0 first (begun first) (omega arith) (omega arith) stands)
  ],
  left_as_well n (first + 1) begun earlier later standings (omega (arith, same)) (λ i k store is less stands. as_well (suc i) k store (omega (arith, is)) (omega (arith, less)) stands) rest,
)

pub goes_on_again : (setting : Setting) (n : ℕ) (eras : List Era) (earlier later : List (List ℕ)) → length later ≡ length earlier
    → ((i : ℕ) (store : Store) → i < length earlier → StandsFor (header i n) (get_or earlier i []) store → StandsFor (header i n) (get_or later i []) store)
    → GoesOn true setting n eras earlier → GoesOn true setting n eras later
goes_on_again setting n eras earlier later same as_well goes = ∥∥₁_map goes again
  where
    again : Leaves setting n eras earlier → Leaves setting n eras later
    again (new_stores none count have) = new_stores none (same ∙ count) (λ i less. as_well i empty_store (omega (arith, less, same)) (have i (omega (arith, less, same))))
    again (a_run left) = a_run (record {
      before = left.before;
      latest = left.latest;
      are = left.are;
      sources = left.sources;
      old = left.old;
      runs = left.runs;
      begun = left.begun;
      ends = left.ends;
      same = left.same;
      unforged = left.unforged;
      held = left_as_well n 0 left.begun earlier later left.old.standings same (λ i k store is less stands.
          subst (λ (j : ℕ). StandsFor (header j n) (get_or earlier i []) store → StandsFor (header j n) (get_or later i []) store) (omega (arith, is)) (as_well i store less) stands) left.held;
    })

-- Which of what is held is within the ranges of frames.
use Rattle.std.proofs.Common.{◌≡◌, ◌⊎◌, inl, inr, ℕ, Bool, true, false, refl, sym, ◌∙◌, ap, subst, arith, List, [], ◌∷◌}
use Rattle.std.specs.Prelude.{nat_eq, if◌then◌else◌, Option, Some, None}
use Rattle.std.proofs.lemmas.Bool.{cases_eq}
use Rattle.std.proofs.lemmas.Bool.Decides.{nat_tests}
use Rattle.std.proofs.lemmas.Option.{same_Some}
use Rattle.paxos_wire.specs.declared.ballot.Ballot.{Ballot}
use Rattle.paxos_wire.specs.Fits.{IsBallot, IsSlot}
use Rattle.protocol_model.specs.Ballots.{no_ballot}
use Rattle.promise_store.specs.declared.placed.Placed.{Placed}
use Rattle.promise_store.specs.Index.{found, later}
use Rattle.paxos_wire.specs.Order.{is_below}
use Rattle.promise_store.specs.Ranges.{IsBallotOrNone, AreInRange}

pub ballot_or_none : (b : Ballot) → IsBallotOrNone b → (b ≡ no_ballot) ⊎ IsBallot b
ballot_or_none b within = elim (cases_eq b.round 0) [
  | inl is ↦ inl (λ i. record { round = is i; node = within.none is i })
  | inr other ↦ inr (record { first = omega (arith, other); last = within.last; node = within.node })
]

pub found_slot : (slot : ℕ) (xs : List Placed) (p : Placed) → found slot xs ≡ Some p → p.slot ≡ slot
found_slot slot [] p is = absurd (let e : None ≡ Some p = is in cc)
found_slot slot (x ∷ xs) p is = here (nat_eq slot x.slot) refl is (λ later. found_slot slot xs p later)
  where
    here : (b : Bool) → nat_eq slot x.slot ≡ b → (if b then Some x else found slot xs) ≡ Some p → (found slot xs ≡ Some p → p.slot ≡ slot) → p.slot ≡ slot
    here true same is rest = sym (ap (λ (y : Placed). y.slot) (same_Some x p is)) ∙ grind (arith, nat_tests, same)
    here false other is rest = rest is

-- an entry more, within the ranges, among others that are
module _ (old new : List Placed) (placed : Placed) (ballot : IsBallot placed.ballot) (slot : IsSlot placed.slot) (all : AreInRange old) where
  abbrev IsIn : Placed → Type 0
  IsIn p = IsBallot p.ballot × IsSlot p.slot

  of_both : (k : ℕ) (b : Bool) (e p : Placed) → found k old ≡ Some e → Some p ≡ Some (if b then e else placed) → IsIn p
  of_both k true e p was is = all k p (was ∙ sym is)
  of_both k false e p was is = subst IsIn (sym (same_Some p placed is)) (ballot, slot)

  of_later : (k : ℕ) (was : Option Placed) (p : Placed) → found k old ≡ was → Some p ≡ Some (later (λ e. e.ballot) was placed) → IsIn p
  of_later k None p was is = subst IsIn (sym (same_Some p placed is)) (ballot, slot)
  of_later k (Some e) p was is = of_both k (is_below placed.ballot e.ballot) e p was is

  at : (k : ℕ) (b : Bool) (p : Placed) → Some p ≡ (if b then Some (later (λ e. e.ballot) (found k old) placed) else found k old) → IsIn p
  at k true p is = of_later k (found k old) p refl is
  at k false p is = all k p (sym is)

  pub range_put : ((k : ℕ) → found k new ≡ (if nat_eq k placed.slot then Some (later (λ e. e.ballot) (found k old) placed) else found k old)) → AreInRange new
  range_put put k p is = at k (nat_eq k placed.slot) p (sym is ∙ put k)

-- The place that is taken the soonest, with one place more.
use Rattle.std.proofs.Common.{◌≡◌, ℕ, ◌+◌, ◌<◌, ◌≤◌, List, Option, Some, None, Bool, true, false, nat_lt, inl, inr, refl, ap, sym, ◌∙◌, arith}
use Rattle.std.specs.Prelude.{if◌then◌else◌}
use Rattle.std.proofs.lemmas.Bool.{cases_eq, ltb-true, ltb-false}
use Rattle.node_wires.specs.declared.coming.Best.{Best}
use Rattle.std.specs.declared.net.ip_addr.IpAddr.{IpAddr}
use Rattle.node_wires.specs.declared.comer.Comer.{Comer}
use Rattle.node_wires.specs.declared.nodes.Nodes.{Nodes}
use Rattle.node_wires.specs.declared.wired.Wired.{Wired}
use Rattle.node_wires.specs.Places.{IsLeast, IsBest, IsFor, better, rank, rank_of, coming_by, places_of, is_open_to, standing_at}

before : (other n : ℕ) → other < n + 1 → (other ≡ n → ⊥) → other < n
before other n within differs = omega (arith, within, differs)

none_more : (rank : ℕ → Option ℕ) (n : ℕ) → ((other : ℕ) → other < n → rank other ≡ None) → rank n ≡ None → (other : ℕ) → other < n + 1 → rank other ≡ None
none_more rank n none is other within =
    elim (cases_eq other n) [ inl same ↦ ap rank same ∙ is | inr differs ↦ none other (before other n within differs) ]

none_some : (rank : ℕ → Option ℕ) (other its : ℕ) → rank other ≡ None → rank other ≡ Some its → ⊥
none_some rank other its none some = let e : None ≡ Some its = sym none ∙ some in cc

same_rank : (rank : ℕ → Option ℕ) (other n its found : ℕ) → other ≡ n → rank n ≡ Some found → rank other ≡ Some its → found ≤ its
same_rank rank other n its found same is some = let e : Some found ≡ Some its = sym is ∙ sym (ap rank same) ∙ some in grind (arith, e)

-- the first that is taken
first_found : (rank : ℕ → Option ℕ) (n found : ℕ) → ((other : ℕ) → other < n → rank other ≡ None) → rank n ≡ Some found → IsLeast rank (n + 1) n found
first_found rank n found none is = record {
  within = omega arith;
  ranked = is;
  no_sooner = λ other its within some. elim (cases_eq other n) [
    | inl same ↦ same_rank rank other n its found same is some
    | inr differs ↦ absurd (none_some rank other its (none other (before other n within differs)) some)
  ];
}

-- one that is taken sooner
sooner : (rank : ℕ → Option ℕ) (n found place least : ℕ) → IsLeast rank n place least → rank n ≡ Some found → found < least → IsLeast rank (n + 1) n found
sooner rank n found place least it is less = record {
  within = omega arith;
  ranked = is;
  no_sooner = λ other its within some. elim (cases_eq other n) [
    | inl same ↦ same_rank rank other n its found same is some
    | inr differs ↦ omega (arith, less, it.no_sooner other its (before other n within differs) some)
  ];
}

-- one that isn't
stays : (rank : ℕ → Option ℕ) (n found place least : ℕ) → IsLeast rank n place least → rank n ≡ Some found → least ≤ found → IsLeast rank (n + 1) place least
stays rank n found place least it is most = record {
  within = omega (arith, it.within);
  ranked = it.ranked;
  no_sooner = λ other its within some. elim (cases_eq other n) [
    | inl same ↦ omega (arith, most, same_rank rank other n its found same is some)
    | inr differs ↦ it.no_sooner other its (before other n within differs) some
  ];
}

-- one that isn't taken
passed_by : (rank : ℕ → Option ℕ) (n place least : ℕ) → IsLeast rank n place least → rank n ≡ None → IsLeast rank (n + 1) place least
passed_by rank n place least it none = record {
  within = omega (arith, it.within);
  ranked = it.ranked;
  no_sooner = λ other its within some. elim (cases_eq other n) [
    | inl same ↦ absurd (none_some rank n its none (sym (ap rank same) ∙ some))
    | inr differs ↦ it.no_sooner other its (before other n within differs) some
  ];
}

by_less : (rank : ℕ → Option ℕ) (n found : ℕ) (it : Best) (b : Bool) → nat_lt found it.rank ≡ b → IsLeast rank n it.place it.rank → rank n ≡ Some found → IsBest rank (n + 1) (if b then Some (record { place = n; rank = found }) else Some it)
by_less rank n found it true less least is = sooner rank n found it.place it.rank least is (ltb-true found it.rank less)
by_less rank n found it false less least is = stays rank n found it.place it.rank least is (ltb-false found it.rank less)

with_rank : (rank : ℕ → Option ℕ) (n : ℕ) (best : Option Best) (its : Option ℕ) → rank n ≡ its → IsBest rank n best → IsBest rank (n + 1) (better best n its)
with_rank rank n None None is none = none_more rank n none is
with_rank rank n None (Some found) is none = first_found rank n found none is
with_rank rank n (Some it) None is least = passed_by rank n it.place it.rank least is
with_rank rank n (Some it) (Some found) is least = by_less rank n found it (nat_lt found it.rank) refl least is

pub grows : (rank : ℕ → Option ℕ) (n : ℕ) (best : Option Best) → IsBest rank n best → IsBest rank (n + 1) (better best n (rank n))
grows rank n best is = with_rank rank n best (rank n) refl is

open_if_ranked : (b : Bool) (found : Option ℕ) (turn : ℕ) → (if b then found else None) ≡ Some turn → b ≡ true
open_if_ranked true found turn is = refl
open_if_ranked false found turn is = let e : None ≡ Some turn = is in cc

-- the best of all places is for who comes
pub is_for : (nodes : Nodes) (lines : List (Option Wired)) (comer : Comer) (address : IpAddr) (now : ℕ) (best : Best) → IsBest (rank nodes lines (coming_by lines comer nodes address now)) (places_of comer) (Some best) → IsFor nodes lines comer address now best.place
is_for nodes lines comer address now best first = record {
  turn = best.rank;
  first = first;
  open_to = open_if_ranked (is_open_to comer nodes address best.place) (rank_of (coming_by lines comer nodes address now) best.place (standing_at lines comer best.place)) best.rank first.ranked;
}

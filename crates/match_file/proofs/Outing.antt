-- The counts at which the most nodes are out: those where an outage begins.
use Rattle.std.proofs.Common.{◌≡◌, ℕ, zero, suc, ◌*◌, ◌<◌, ◌≤◌, ◌⊎◌, inl, inr, Bool, true, false, cond, ◌&&◌, ◌||◌, nat_le, eqb, List, [], ◌∷◌, length, get_or, Option, Some, None, refl, subst, arith}
use Rattle.std.proofs.lemmas.Bool.{cases_lt, or_left, or_right, or_cases}
use Rattle.std.proofs.lemmas.Bool.Decides.{nat_tests}
use Rattle.std.proofs.lemmas.Grind.{common_steps}
use Rattle.std.specs.List.{All, AllByRecursion}
use Rattle.match_log.proofs.FieldCuts.{All-weaker}
use Rattle.match_file.specs.declared.outage.Outage.{Outage}
use Rattle.match_file.specs.Outages.{goes_on, is_out, is_node_out, out_at, LeaveMost}

-- an outage begins then, and none later up to the count
record IsLatest (outages : List Outage) (count : ℕ) (k : ℕ) (latest : Outage) : Type 0 where
  within : k < length outages
  place : (d : Outage) → get_or outages k d ≡ latest
  begun : latest.at ≤ count
  others : AllByRecursion (λ p. p.at ≤ count → p.at ≤ latest.at) outages

abbrev NoneBegun : List Outage → ℕ → Type 0
NoneBegun outages count = AllByRecursion (λ p. count < p.at) outages

later : (x : Outage) (xs : List Outage) (count k : ℕ) (o : Outage) → IsLatest xs count k o → (x.at ≤ count → x.at ≤ o.at) → IsLatest (x ∷ xs) count (suc k) o
later x xs count k o found here = record { within = omega (arith, found.within); place = found.place; begun = found.begun; others = (here, found.others) }

first : (x : Outage) (xs : List Outage) (count : ℕ) → x.at ≤ count → AllByRecursion (λ p. p.at ≤ count → p.at ≤ x.at) xs → IsLatest (x ∷ xs) count 0 x
first x xs count begun others = record { within = omega arith; place = λ d. refl; begun = begun; others = (λ _. omega arith, others) }

latest : (outages : List Outage) (count : ℕ) → NoneBegun outages count ⊎ ((k : ℕ) × (o : Outage) × IsLatest outages count k o)
latest [] count = inl tt
latest (x ∷ xs) count =
    elim (cases_lt count x.at) [
      | inl above ↦
          elim (latest xs count) [
            | inl none ↦ inl (above, none)
            | inr found ↦ inr (suc found.0, found.1, later x xs count found.0 found.1 found.2 (λ le. absurd (omega arith)))
          ]
      | inr begun ↦
          elim (latest xs count) [
            | inl none ↦ inr (0, x, first x xs count begun (All-weaker (λ (p : Outage). count < p.at) (λ (p : Outage). p.at ≤ count → p.at ≤ x.at) xs (λ p above le. absurd (omega arith)) none))
            | inr found ↦
                elim (cases_lt found.1.at x.at) [
                  | inr below ↦ inr (suc found.0, found.1, later x xs count found.0 found.1 found.2 (λ _. below))
                  | inl above ↦
                      inr (0, x, first x xs count begun (All-weaker (λ (p : Outage). p.at ≤ count → p.at ≤ found.1.at) (λ (p : Outage). p.at ≤ count → p.at ≤ x.at) xs (λ p le begins. let step : p.at ≤ found.1.at = le begins in omega arith) found.2.others))
                ]
          ]
    ]

still : (n node a count m : ℕ) (back : Option ℕ) → (a ≤ count → a ≤ m) → m ≤ count → ((eqb n node && nat_le a count) && goes_on count back) ≡ true → ((eqb n node && nat_le a m) && goes_on m back) ≡ true
still n node a count m None begins below out = grind (arith, nat_tests, common_steps)
still n node a count m (Some back) begins below out = grind (arith, nat_tests, common_steps)

-- who is out at a count is out where the latest outage begins
still_out : (outages : List Outage) (count m node : ℕ) → AllByRecursion (λ p. p.at ≤ count → p.at ≤ m) outages → m ≤ count → is_node_out outages count node ≡ true → is_node_out outages m node ≡ true
still_out [] count m node all below out = out
still_out (p ∷ ps) count m node all below out =
    elim (or_cases (is_out count node p) (is_node_out ps count node) out) [
      | inl here ↦ or_left (is_out m node p) (is_node_out ps m node) (still p.node node p.at count m p.back all.0 below here)
      | inr more ↦ or_right (is_out m node p) (is_node_out ps m node) (still_out ps count m node all.1 below more)
    ]

if_more : (a b : Bool) → (a ≡ true → b ≡ true) → cond a 1 0 ≤ cond b 1 0
if_more true b h = rw (h refl) (omega arith)
if_more false b h = omega arith

more_out : (outages : List Outage) (count m nodes : ℕ) → ((node : ℕ) → is_node_out outages count node ≡ true → is_node_out outages m node ≡ true) → out_at outages count nodes ≤ out_at outages m nodes
more_out outages count m zero still = omega arith
more_out outages count m (suc nodes) still = omega (arith, more_out outages count m nodes still, if_more (is_node_out outages count nodes) (is_node_out outages m nodes) (still nodes))

none_out : (outages : List Outage) (count node : ℕ) → NoneBegun outages count → is_node_out outages count node ≡ false
none_out [] count node none = refl
none_out (p ∷ ps) count node none = rw (none_out ps count node none.1) (early p.node node p.at count p.back none.0)
  where
    early : (n node a count : ℕ) (back : Option ℕ) → count < a → (((eqb n node && nat_le a count) && goes_on count back) || false) ≡ false
    early n node a count None above = grind (arith, nat_tests, common_steps)
    early n node a count (Some back) above = grind (arith, nat_tests, common_steps)

all_in : (outages : List Outage) (count nodes : ℕ) → NoneBegun outages count → out_at outages count nodes ≡ 0
all_in outages count zero none = refl
all_in outages count (suc nodes) none = rw (all_in outages count nodes none, none_out outages count nodes none) refl

-- so these counts are enough
pub starts_are_enough : (nodes : ℕ) (outages : List Outage) → 0 < nodes → All (λ outage. 2 * out_at outages outage.at nodes < nodes) outages → LeaveMost nodes outages
starts_are_enough nodes outages some starts =
    λ count.
    elim (latest outages count) [
      | inl none ↦ let zero_out = all_in outages count nodes none in omega arith
      | inr found ↦
          let start = starts found.0 found.1 found.2.within in
          let here = subst (λ (o : Outage). 2 * out_at outages o.at nodes < nodes) (found.2.place found.1) start in
          let most = more_out outages count found.1.at nodes (λ node. still_out outages count found.1.at node found.2.others found.2.begun) in
          omega arith
    ]

pub starts_are_counts : (nodes : ℕ) (outages : List Outage) → LeaveMost nodes outages → All (λ outage. 2 * out_at outages outage.at nodes < nodes) outages
starts_are_counts nodes outages most = λ k d within. most (get_or outages k d).at

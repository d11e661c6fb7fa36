-- What is in place for one test of the positions is so for another that says the same.
use Rattle.std.proofs.Common.{◌≡◌, ℕ, zero, suc, ◌+◌, ◌<◌, ◌≤◌, Bool, cond, nat_eq, List, map, refl, sym, ap, ◌∙◌, subst, arith}
use Rattle.std.specs.List.{IsDistinct, range_with_len}
use Rattle.matchstate.specs.Cards.{AreSeen, all_cards}
use Rattle.matchstate.specs.SeenCards.{AreCounted}
use Rattle.matchstate.proofs.Seen.{place_from_seen, seen_from_place}

same_counts : (f g : ℕ → Bool) (a n : ℕ) → ((p : ℕ) → p < a + n → f p ≡ g p) → map {B = ℕ} (λ p. cond (f p) 2 0) (range_with_len a n) ≡ map {B = ℕ} (λ p. cond (g p) 2 0) (range_with_len a n)
same_counts f g a zero same = refl
same_counts f g a (suc n) same =
    let here : ◌≡◌ {A = ℕ} (cond (f a) 2 0) (cond (g a) 2 0) = ap (λ b. cond b 2 0) (same a (omega arith)) in
    let rest = same_counts f g (a + 1) n (λ p below. same p (omega arith)) in
    cc

-- cards that are counted right and distinct are seen of some deal
pub seen_from_counted : (f g : ℕ → Bool) (players rounds : ℕ) (holes boards : List (List ℕ)) → players ≤ 10 → rounds ≤ 3 → ((p : ℕ) → p < players → f p ≡ g p) → AreCounted players f rounds holes boards → IsDistinct nat_eq (all_cards holes boards) → AreSeen players g rounds holes boards
seen_from_counted f g players rounds holes boards few most same counted distinct =
    seen_from_place players g rounds holes boards few most
    (record {
      hole_counts = counted.hole_counts ∙ same_counts f g 0 players (λ p below. same p (omega arith));
      board_counts = counted.board_counts;
      pack = counted.pack;
      distinct = distinct;
    })

-- and what is seen of a deal is counted right and distinct
pub counted_from_seen : (f g : ℕ → Bool) (players rounds : ℕ) (holes boards : List (List ℕ)) → ((p : ℕ) → p < players → f p ≡ g p) → AreSeen players g rounds holes boards → AreCounted players f rounds holes boards × IsDistinct nat_eq (all_cards holes boards)
counted_from_seen f g players rounds holes boards same seen =
    let place = place_from_seen players g rounds holes boards seen.0 seen.1 in
    let counted : AreCounted players f rounds holes boards =
    record {
      hole_counts = place.hole_counts ∙ sym (same_counts f g 0 players (λ p below. same p (omega arith)));
      board_counts = place.board_counts;
      pack = place.pack;
    } in
    (counted, place.distinct)

-- the same, where the counts go by other names
pub expected : {f g : ℕ → Bool} {n m r s : ℕ} (holes boards : List (List ℕ)) → n ≡ m → r ≡ s → ((p : ℕ) → p < m → f p ≡ g p) → AreSeen m g s holes boards → AreCounted n f r holes boards × IsDistinct nat_eq (all_cards holes boards)
expected {f} {g} {n} {m} {r} {s} holes boards players rounds same seen =
    let told = counted_from_seen f g m s holes boards same seen in
    (subst (λ k. AreCounted k f r holes boards) (sym players) (subst (λ k. AreCounted m f k holes boards) (sym rounds) told.0), told.1)

use Rattle.std.proofs.lemmas.Grind.{elements}
use Rattle.std.proofs.Common.{◌≡◌, ◌≢◌, ℕ, zero, suc, ◌<◌, ◌≤◌, List, [], ◌∷◌, ◌++◌, map, length, get_or, Option, Some, None, refl, sym, ap, ◌∙◌, MatchOption, IfSome, arith}
use Rattle.std.specs.Borrow.{Bor}
use Rattle.std.specs.List.{HoldsAt, slice_get}
use Rattle.std.specs.Option.{option_map, option_to_list}
use Rattle.std.proofs.lemmas.Option.{slice_get-map, slice_get_read, slice_get_past}
use Rattle.std.proofs.lemmas.List.{length-map}
use Rattle.slot_log.specs.Hand.{Hand, Match}
use Rattle.slot_log.specs.Dealer.{hand_at}
use Rattle.slot_log.specs.PlayedHand.{hand_of}
use Rattle.slot_log.specs.declared.played_hand.PlayedHand.{PlayedHand}
use Rattle.slot_log.proofs.Hands.{hands_from, reverse-hands}
use Rattle.slot_log.proofs.table.Table.hand.Goals as goal

got : (r : Option (Bor PlayedHand)) (xs : List PlayedHand) (i : ℕ) → MatchOption r (length xs ≤ i) (λ x. (i < length xs) × HoldsAt (λ y. x.now ≡ y) xs i) → IfSome r (λ x. x.now ≡ get_or xs i x.now) → option_map (λ found. hand_of found.now) r ≡ option_map hand_of (slice_get xs i)
got None xs i past at = ap (option_map hand_of) (sym (slice_get_past xs i past))
got (Some x) xs i past at = ap (option_map hand_of) (sym (slice_get_read xs (length xs) i x.now refl past.0 at))

before_last : (xs : List Hand) (o : Option Hand) (i : ℕ) → i ≢ length xs → slice_get (xs ++ option_to_list o) i ≡ slice_get xs i
before_last [] None i other = refl
before_last [] (Some x) zero other = absurd (other refl)
before_last [] (Some x) (suc i) other = refl
before_last (x ∷ xs) o zero other = refl
before_last (x ∷ xs) o (suc i) other = before_last xs o i (λ e. other (ap suc e))

map_option : (o : Option PlayedHand) → map hand_of (option_to_list o) ≡ option_to_list (option_map hand_of o)
map_option None = refl
map_option (Some x) = refl

pub returns-else-place-len-clause-value : goal.returns-else-place-len-clause-value
returns-else-place-len-clause-value c =
    let t = c.self.inside in
    let other : c.args.hand ≢ length (map hand_of t.earlier.items) =
    λ same. c.if-place-len.false (same ∙ length-map t.earlier.items hand_of ∙ sym t.earlier.ok.0 ∙ sym c.len.ensures) in
    let found = got c.get.result c.deref.result.now c.args.hand c.get.ensures.lookup.3 c.get.ensures.lookup.1 in
    let items = c.deref.ensures.value in
    let at : hand_at (hands_from t.newest t.earlier.items) c.args.hand ≡ option_map hand_of (slice_get t.earlier.items c.args.hand) =
    ap (λ hs. slice_get hs c.args.hand) (reverse-hands t.newest t.earlier.items ∙ ap (λ o. map hand_of t.earlier.items ++ o) (map_option t.newest))
    ∙ before_last (map hand_of t.earlier.items) (option_map hand_of t.newest) c.args.hand other
    ∙ slice_get-map hand_of t.earlier.items c.args.hand in
    found ∙ ap (λ xs. option_map hand_of (slice_get xs c.args.hand)) items ∙ sym at ∙ ap (λ (m : Match). hand_at m.hands c.args.hand) c.self.view_is

pub returns-then-place-len-clause-value : goal.returns-then-place-len-clause-value
returns-then-place-len-clause-value c = grind (arith, elements)

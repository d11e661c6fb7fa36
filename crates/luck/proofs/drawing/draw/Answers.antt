use Rattle.std.proofs.Common.{◌≡◌, ◌∙◌, ◌+◌, ◌≤◌, ◌++◌, ℕ, List, length, min, take, nat_eq, sym, ap, subst, arith}
use Rattle.std.specs.List.{IsDistinct}
use Rattle.std.proofs.lemmas.List.{length-append, take_all}
use Rattle.luck.specs.CardList.{cards_of}
use Rattle.luck.specs.Left.{left_of}
use Rattle.luck.proofs.Drawn.{front_of, left_enough, drawn_board, drawn_apart}
use Rattle.luck.proofs.drawing.draw.Goals as goal

whole : (c : goal.After-others-in-loop-card-1) → cards_of c.loop-card.deal ≡ cards_of c.args.known.now ++ c.partial_shuffle-board.result.0.now
whole c = c.loop-card.invariant ∙ ap (λ xs. cards_of c.args.known.now ++ xs) (take_all c.loop-card.card-index c.partial_shuffle-board.result.0.now c.loop-card-test.false)

left_is : (c : goal.After-others-in-loop-card-1) → cards_of c.left_cards-left.result ≡ left_of (cards_of c.args.known.now)
left_is c = c.left_cards-left.ensures ∙ ap left_of c.as_slice.ensures.value

copied : (c : goal.After-others-in-loop-card-1) → c.copy_from_slice.new.self ≡ cards_of c.left_cards-left.result
copied c = c.copy_from_slice.ensures.after ∙ c.as_slice-2.ensures.value

shuffled : (c : goal.After-others-in-loop-card-1) (filler : List ℕ) → take (length c.as_slice-count.result.now) (c.copy_from_slice.new.self ++ filler) ≡ left_of (cards_of c.args.known.now)
shuffled c filler =
    front_of c.copy_from_slice.new.self filler (length c.as_slice-count.result.now) (ap length (c.as_slice-count.ensures.value ∙ sym (copied c)))
    ∙ copied c ∙ left_is c

enough : (known : List ℕ) → length known ≤ 20 → min 5 (length (left_of known)) ≡ 5
enough known few = omega (arith, left_enough known)

five : (c : goal.After-others-in-loop-card-1) → length c.partial_shuffle-board.result.0.now ≡ 5
five c = c.partial_shuffle-board.ensures.len ∙ ap (λ (xs : List ℕ). min 5 (length xs)) (shuffled c _) ∙ enough (cards_of c.args.known.now) c.requires.few

pub returns-clause-value : goal.returns-clause-value
returns-clause-value c =
    whole c ∙ ap (λ board. cards_of c.args.known.now ++ board)
    (drawn_board _ (left_of (cards_of c.args.known.now)) c.partial_shuffle-board.result.1.now c.partial_shuffle-board.result.0.now _ _ c.partial_shuffle-board.ensures.drawn (shuffled c _) (five c))

pub returns-clause-count : goal.returns-clause-count
returns-clause-count c = ap length (whole c) ∙ length-append (cards_of c.args.known.now) c.partial_shuffle-board.result.0.now ∙ ap (λ n. length (cards_of c.args.known.now) + n) (five c)

pub returns-clause-distinct : goal.returns-clause-distinct
returns-clause-distinct c =
    subst (IsDistinct nat_eq) (sym (whole c))
    (drawn_apart (cards_of c.args.known.now) _ c.partial_shuffle-board.result.1.now c.partial_shuffle-board.result.0.now c.requires.distinct (shuffled c _) c.partial_shuffle-board.ensures.permutation)

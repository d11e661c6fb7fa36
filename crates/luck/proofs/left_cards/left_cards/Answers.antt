use Rattle.std.proofs.Common.{◌≡◌, ◌∙◌, ◌≤◌, ◌++◌, ◌∷◌, [], ℕ, List, true, false, not, length, sym, ap, arith}
use Rattle.std.specs.List.{filter, range_with_len}
use Rattle.std.proofs.lemmas.List.FromFn.{length-range_with_len}
use Rattle.luck.specs.CardList.{cards_of}
use Rattle.luck.specs.Left.{left_of}
use Rattle.luck.proofs.Left.{is_left, left_more, left_same, filter_fewer}
use Rattle.luck.proofs.left_cards.left_cards.Goals as goal
use Rattle.luck.proofs.left_cards.left_cards.Goals.{then-not-has_number, else-not-has_number}

pub with-left-requires : goal.with-left-requires
with-left-requires c =
    let p = is_left c.args.known.now in
    let fewer : length (filter p (range_with_len 0 c.loop-number.number)) ≤ length (range_with_len 0 c.loop-number.number) = filter_fewer p (range_with_len 0 c.loop-number.number) in
    omega (arith, fewer, length-range_with_len 0 c.loop-number.number, ap length c.loop-number.invariant)

pub loop-number-preserved : goal.loop-number-preserved
loop-number-preserved c =
    let p = is_left c.args.known.now in
    elim c.if-not-has_number.branch [
      | then-not-has_number w ↦
          let passes : p c.loop-number.number ≡ true = ap not (sym c.has_number.ensures ∙ w.if-not-has_number.true) in
          ap cards_of w.left-is ∙ w.with-left.ensures ∙ ap (λ (card : ℕ). cards_of c.loop-number.left ++ card ∷ []) w.from_number.ensures
          ∙ ap (λ (cards : List ℕ). cards ++ c.loop-number.number ∷ []) c.loop-number.invariant ∙ sym (left_more p c.loop-number.number passes)
      | else-not-has_number w ↦
          let fails : p c.loop-number.number ≡ false = ap not (sym c.has_number.ensures ∙ w.if-not-has_number.false) in
          ap cards_of w.left-is ∙ c.loop-number.invariant ∙ sym (left_same p c.loop-number.number fails)
    ]

pub returns : goal.returns
unfolding left_of
returns c =
    let all : c.loop-number.number ≡ 52 = omega arith in
    c.loop-number.invariant ∙ ap (λ n. filter (is_left c.args.known.now) (range_with_len 0 n)) all

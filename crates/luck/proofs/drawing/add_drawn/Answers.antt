use Rattle.std.proofs.Common.{◌≡◌, ◌∙◌, ◌∷◌, ◌++◌, [], ℕ, List, refl, sym, ap, subst, arith}
use Rattle.card_core.specs.Deal.{board_of}
use Rattle.rand.specs.Shuffle.{partially_shuffled}
use Rattle.rand_core.specs.Stream.{Stream}
use Rattle.rand_core.specs.Steps.{stream_of, steps_u32}
use Rattle.rand_chacha.specs.ChaCha.{next_word}
use Rattle.luck.specs.CardList.{cards_of}
use Rattle.luck.specs.Draws.{drawn}
use Rattle.luck.specs.Left.{left_of}
use Rattle.luck.specs.Sums.{AddsPaid}
use Rattle.luck.proofs.Adds.{adds_none, adds_both}
use Rattle.luck.proofs.Drawn.{drawn_more}
use Rattle.luck.proofs.drawing.add_drawn.Goals as goal

pub loop-number-init : goal.loop-number-init
unfolding drawn
loop-number-init c = record { stream = refl; count = omega arith; adds = adds_none c.args.stakes.now.spent c.args.stakes.now.folded c.args.sums.now }

pub loop-number-preserved : goal.loop-number-preserved
loop-number-preserved c =
    let spent = c.args.stakes.now.spent in
    let folded = c.args.stakes.now.folded in
    let known = cards_of c.args.known.now in
    let start : Stream = stream_of (steps_u32 (next_word 10)) c.args.generator.now in
    let before : List (List ℕ) × Stream = drawn known start c.loop-number._number in
    let more = drawn_more known start c.loop-number._number in
    let deal : cards_of c.draw-deal.result ≡ known ++ board_of (partially_shuffled (left_of known) 5 before.1).0 =
    c.draw-deal.ensures.value ∙ ap (λ (t : Stream). known ++ board_of (partially_shuffled (left_of known) 5 t).0) c.loop-number.invariant.stream in
    let added : AddsPaid spent folded ((known ++ board_of (partially_shuffled (left_of known) 5 before.1).0) ∷ []) c.loop-number.sums c.add_deal.new.sums =
    subst (λ (d : List ℕ). AddsPaid spent folded (d ∷ []) c.loop-number.sums c.add_deal.new.sums) deal c.add_deal.ensures in
    let both = adds_both spent folded before.0 ((known ++ board_of (partially_shuffled (left_of known) 5 before.1).0) ∷ []) c.args.sums.now c.loop-number.sums c.add_deal.new.sums c.loop-number.invariant.adds added in
    record {
      stream =
          c.draw-deal.ensures.stream ∙ ap (λ (t : Stream). (partially_shuffled (left_of known) 5 t).1) c.loop-number.invariant.stream
          ∙ sym (ap (λ (p : List (List ℕ) × Stream). p.1) more);
      count = omega (arith, c.add_deal.ensures.count, c.loop-number.invariant.count);
      adds = subst (λ (deals : List (List ℕ)). AddsPaid spent folded deals c.args.sums.now c.add_deal.new.sums) (sym (ap (λ (p : List (List ℕ) × Stream). p.0) more)) both;
    }

pub returns : goal.returns
returns c =
    let all : c.loop-number._number ≡ c.args.count = omega arith in
    subst (λ (n : ℕ). AddsPaid c.args.stakes.now.spent c.args.stakes.now.folded (drawn (cards_of c.args.known.now) (stream_of (steps_u32 (next_word 10)) c.args.generator.now) n).0 c.args.sums.now c.loop-number.sums) all c.loop-number.invariant.adds

use Rattle.std.proofs.Common.{◌≡◌, ◌<◌, cond, [], length, ◌∙◌, arith, length-set}
use Rattle.card_core.specs.Deal.{hole_of}
use Rattle.matchstate.specs.View.{sees}
use Rattle.matchstate.proofs.Sights.{sight_next}
use Rattle.matchstate.proofs.sight.holes_in_sight.Goals as goal

pub loop-position-preserved : goal.loop-position-preserved
loop-position-preserved c =
    let inv = c.loop-position.invariant in
    let i = c.loop-position.position in
    let holes = c.loop-position.holes in
    let hole = c.hole_in_sight-hole.result in
    let play = c.args.play.now in
    let ten : length holes ≡ 10 = inv.0 in
    let test = c.loop-position-test.true in
    let most = c.players-position-end.ensures.most in
    let below : i < length holes = omega arith in (
      length-set holes i hole ∙ ten,
      sight_next (λ p. cond (sees play.game play.past c.args.viewer p) (hole_of c.args.deal.now p) []) holes i hole below inv.1 c.hole_in_sight-hole.ensures,
    )

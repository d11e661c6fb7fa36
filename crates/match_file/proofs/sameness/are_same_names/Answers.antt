use Rattle.std.proofs.Common.{refl, arith}
use Rattle.match_file.proofs.SameGames.{lists_same}
use Rattle.match_file.proofs.sameness.are_same_names.Goals as goal

pub returns : goal.returns
returns c = (
  λ shown. lists_same c.args.names.now c.args.others.now (omega (arith, c.if-names-others.false)) (λ k d within. c.loop-place.invariant k d (omega (arith, within, c.loop-place-test.false))),
  λ same. refl,
)

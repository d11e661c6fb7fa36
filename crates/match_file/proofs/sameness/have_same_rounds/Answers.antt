use Rattle.std.proofs.Common.{refl, arith}
use Rattle.match_file.proofs.SameGames.{numbers_same, sizes_same}
use Rattle.match_file.proofs.sameness.have_same_rounds.Goals as goal

pub returns : goal.returns
returns c =
    let game = c.args.game.now in
    let other = c.args.other.now in
    let one = c.limits.ensures in
    let two = c.limits-2.ensures in
    let each = c.loop-round.invariant in
    let all = c.loop-round-test.false in (
      λ shown. (
        sizes_same game.raise_sizes other.raise_sizes one.four_sizes two.four_sizes (λ k within. (each k (omega (arith, within, all))).0),
        numbers_same game.first_players other.first_players 4 one.first_each two.first_each (λ k within. (each k (omega (arith, within, all))).1),
        numbers_same game.max_raises other.max_raises 4 one.raises_each two.raises_each (λ k within. (each k (omega (arith, within, all))).2),
      ),
      λ same. refl,
    )

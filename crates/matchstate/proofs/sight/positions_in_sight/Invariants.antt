use Rattle.std.proofs.Common.{◌≡◌, ℕ, ◌<◌, length}
use Rattle.matchstate.specs.SeenCards.{seen_at}
use Rattle.matchstate.specs.View.{sees}
use Rattle.matchstate.proofs.sight.positions_in_sight.Given as goal

abbrev pub invariant-loop-position : goal.invariant-loop-position
invariant-loop-position l =
    (length l.seen ≡ 10)
    × ((p : ℕ) → p < l.position → seen_at l.seen p ≡ sees l.play.game l.play.past l.viewer p)

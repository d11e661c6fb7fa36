use Rattle.std.proofs.Common.{◌≡◌, ℕ, ◌+◌, Option, ap, sym, ◌∙◌, subst, arith}
use Rattle.node_wires.specs.declared.coming.Best.{Best}
use Rattle.node_wires.specs.Places.{rank, IsBest, better}
use Rattle.node_wires.proofs.Choosing.{grows}
use Rattle.node_wires.proofs.connections.Connections.best_for.Goals as goal

pub loop-place-preserved : goal.loop-place-preserved
loop-place-preserved c =
    let own = c.args.self.now in
    let its : ℕ → Option ℕ = rank own.nodes own.lines.items c.args.coming in
    let best = c.loop-place.best in
    let place = c.loop-place.place in
    let P : Option Best → Type 0 = λ one. IsBest its (place + 1) one in
    subst P (sym (c.better-best.ensures ∙ ap (λ (found : Option ℕ). better best place found) c.rank-rank.ensures)) (grows its place best c.loop-place.invariant)

pub returns : goal.returns
returns c =
    let own = c.args.self.now in
    let its : ℕ → Option ℕ = rank own.nodes own.lines.items c.args.coming in
    let all : c.loop-place.place ≡ c.places-place-end.result = omega (arith, c.loop-place-test.false) in
    let P : ℕ → Type 0 = λ count. IsBest its count c.loop-place.best in
    subst P (all ∙ c.places-place-end.ensures) c.loop-place.invariant

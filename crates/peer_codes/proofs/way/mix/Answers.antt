use Rattle.std.proofs.Common.{◌≡◌, ◌∙◌, ◌+◌, ℕ, suc, List, ap, bit_xor, arith, length, slice_set, slice_index_or}
use Rattle.peer_codes.proofs.Mixing.{mixed, none_mixed, one_mixed, all_mixed}
use Rattle.peer_codes.proofs.way.mix.Goals as goal

pub loop-place-init : goal.loop-place-init
loop-place-init c = none_mixed _ _

pub loop-place-preserved : goal.loop-place-preserved
loop-place-preserved c =
    let xs = c.args.bytes.now in
    let ys = c.args.others.now in
    let i = c.loop-place.place in
    let low = c.loop-place-test.true in
    let enough = c.requires in
    let next : suc i ≡ i + 1 = omega arith in
    ap (λ (items : List ℕ). slice_set items i (bit_xor (slice_index_or items i 0) (slice_index_or ys i 0))) c.loop-place.invariant
    ∙ (one_mixed xs ys i 0 0 (omega (arith, low)) (omega (arith, low, enough)) ∙ ap (λ n. mixed n xs ys) next)

pub returns : goal.returns
returns c =
    let xs = c.args.bytes.now in
    let ys = c.args.others.now in
    let high = c.loop-place-test.false in
    let most = c.loop-place.auto.place-end in
    let all : c.loop-place.place ≡ length xs = omega (arith, high, most) in
    c.loop-place.invariant ∙ (ap (λ n. mixed n xs ys) all ∙ all_mixed xs ys c.requires)

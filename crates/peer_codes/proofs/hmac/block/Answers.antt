use Rattle.std.proofs.Common.{◌≡◌, ◌∙◌, ◌++◌, ◌-◌, ℕ, suc, ◌+◌, List, ap, bit_xor, arith, length, map, replicate, slice_set, slice_index_or, length-append}
use Rattle.peer_codes.proofs.Mapping.{mapped, begins, one_more, all_mapped}
use Rattle.peer_codes.proofs.hmac.block.Goals as goal

pub loop-byte-init : goal.loop-byte-init
loop-byte-init c = begins _ _

pub loop-byte-preserved : goal.loop-byte-preserved
loop-byte-preserved c =
    let key = c.copy_from_slice.new.self in
    let xs : List ℕ = key ++ replicate 32 0 in
    let f : ℕ → ℕ = (λ byte. bit_xor byte c.args.mask) in
    let i = c.loop-byte.byte-index in
    let size : length xs ≡ length key + 32 = length-append key (replicate 32 0) in
    let len = c.copy_from_slice.ensures.len in
    let low = c.loop-byte-test.true in
    let next : suc i ≡ i + 1 = omega arith in
    ap (λ (items : List ℕ). slice_set items i (f (slice_index_or items i 0))) c.loop-byte.invariant
    ∙ (one_more f xs i 0 (omega (arith, size, len, low)) ∙ ap (λ n. mapped f n xs) next)

pub returns : goal.returns
returns c =
    let key = c.copy_from_slice.new.self in
    let xs : List ℕ = key ++ replicate 32 0 in
    let f : ℕ → ℕ = (λ byte. bit_xor byte c.args.mask) in
    let i = c.loop-byte.byte-index in
    let size : length xs ≡ length key + 32 = length-append key (replicate 32 0) in
    let len = c.copy_from_slice.ensures.len in
    let high = c.loop-byte-test.false in
    let most = c.loop-byte.auto.byte-index-end in
    let all : i ≡ length xs = omega (arith, size, len, high, most) in
    let told = c.told-key in
    let rest : 32 ≡ 64 - length c.args.key.now = omega (arith, told) in
    c.loop-byte.invariant ∙ (ap (λ n. mapped f n xs) all ∙ (all_mapped f xs
    ∙ (ap (λ (k : List ℕ). map f (k ++ replicate 32 0)) c.copy_from_slice.ensures.after ∙ ap (λ n. map f (c.args.key.now ++ replicate n 0)) rest)))

use Rattle.std.proofs.Common.{◌≡◌, ℕ, ◌+◌, ◌*◌, ◌-◌, take, drop, ap, ◌∙◌, arith}
use Rattle.peer_codes.specs.Reading.{kept_of}
use Rattle.node_links.proofs.LivesLaws.{one_read}
use Rattle.node_links.proofs.lives.lives_of.Goals as goal

pub loop-number-preserved : goal.loop-number-preserved
loop-number-preserved c =
    let at : ℕ = 16 * c.loop-number.number in
    let long : (at + 16) - at ≡ 16 = omega arith in
    one_read c.loop-number.number c.args.bytes.now c.loop-number.lives c.life_of.result c.loop-number.invariant (c.life_of.ensures ∙ ap (λ (n : ℕ). kept_of (take n (drop at c.args.bytes.now))) long)

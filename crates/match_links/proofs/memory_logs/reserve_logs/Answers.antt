use Rattle.std.proofs.Common.{rules, arith, ◌≡◌, ◌<◌, ℕ, Vec, Global, map, get_or, length, ap, ◌∙◌}
use Rattle.match_links.specs.Room.{byte_room}
use Rattle.match_links.proofs.Passed.{put_same, in_place, count_at, count_kept, count_more}
use Rattle.match_links.proofs.memory_logs.reserve_logs.Goals as goal

pub returns-in_err-reserve-clause-same : goal.returns-in_err-reserve-clause-same
returns-in_err-reserve-clause-same c =
    let logs = c.loop-node.logs.items in
    let within : c.loop-node.node < length logs = search rules in
    put_same (λ (log : Vec ℕ Global). log.items) logs c.loop-node.node c.reserve.new.self within
    (c.in_err-reserve.ensures.items ∙ ap (λ (log : Vec ℕ Global). log.items) c.index_mut.ensures.value ∙ in_place (λ (log : Vec ℕ Global). log.items) logs c.loop-node.node c.index_mut.result.now within)
    ∙ c.loop-node.invariant.same

pub returns-in_err-reserve-clause-kept : goal.returns-in_err-reserve-clause-kept
returns-in_err-reserve-clause-kept c = λ i.
    let logs = c.loop-node.logs.items in
    let within : c.loop-node.node < length logs = search rules in
    let here : byte_room c.index_mut.result.now ≡ get_or (map byte_room logs) c.loop-node.node 0 =
    ap byte_room c.index_mut.ensures.value ∙ count_at byte_room logs c.loop-node.node c.index_mut.result.now within in
    let before = c.loop-node.invariant.kept i in
    let after = count_kept byte_room logs c.loop-node.node i c.reserve.new.self within (omega (arith, here, c.in_err-reserve.ensures)) in
    omega (arith, before, after)

pub loop-node-preserved : goal.loop-node-preserved
loop-node-preserved c =
    let logs = c.loop-node.logs.items in
    let within : c.loop-node.node < length logs = search rules in
    let here : byte_room c.index_mut.result.now ≡ get_or (map byte_room logs) c.loop-node.node 0 =
    ap byte_room c.index_mut.ensures.value ∙ count_at byte_room logs c.loop-node.node c.index_mut.result.now within in
    record {
      same = put_same (λ (log : Vec ℕ Global). log.items) logs c.loop-node.node c.reserve.new.self within
          (c.in_ok-reserve.ensures.items ∙ ap (λ (log : Vec ℕ Global). log.items) c.index_mut.ensures.value ∙ in_place (λ (log : Vec ℕ Global). log.items) logs c.loop-node.node c.index_mut.result.now within)
          ∙ c.loop-node.invariant.same;
      long = search rules;
      kept = λ i. omega (arith, c.loop-node.invariant.kept i, count_kept byte_room logs c.loop-node.node i c.reserve.new.self within (omega (arith, here, c.in_ok-reserve.ensures)));
      ready = count_more byte_room logs c.loop-node.node c.args.text c.reserve.new.self within (omega (arith, c.in_ok-reserve.ensures.ok)) c.loop-node.invariant.ready;
    }

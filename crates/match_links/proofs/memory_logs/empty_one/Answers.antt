use Rattle.std.proofs.Common.{rules, arith, ◌≡◌, ◌<◌, map, get_or, length, ap, ◌∙◌}
use Rattle.match_links.specs.Room.{byte_room}
use Rattle.match_links.proofs.Passed.{put_in, count_at, count_kept}
use Rattle.match_links.proofs.memory_logs.empty_one.Goals as goal

pub returns-clause-emptied : goal.returns-clause-emptied
returns-clause-emptied c = search (rules, put_in)

pub returns-clause-kept : goal.returns-clause-kept
returns-clause-kept c = λ i.
    let logs = c.args.logs.now.items in
    let within : c.args.node < length logs = search rules in
    let here : byte_room c.index_mut.result.now ≡ get_or (map byte_room logs) c.args.node 0 =
    ap byte_room c.index_mut.ensures.value ∙ count_at byte_room logs c.args.node c.index_mut.result.now within in
    count_kept byte_room logs c.args.node i c.clear.new.self within (omega (arith, here, c.clear.ensures.capacity, c.clear.ensures.len))

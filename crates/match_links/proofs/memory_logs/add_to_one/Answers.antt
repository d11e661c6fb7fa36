use Rattle.std.proofs.Common.{rules, arith, ◌≡◌, ◌<◌, ◌++◌, ℕ, List, [], Vec, Global, map, get_or, length, ap, ◌∙◌}
use Rattle.match_links.specs.Room.{byte_room}
use Rattle.match_links.proofs.Passed.{put_more, put_same, in_place, count_at, count_left}
use Rattle.match_links.proofs.memory_logs.add_to_one.Goals as goal

pub returns-in-Ok-clause-added : goal.returns-in-Ok-clause-added
returns-in-Ok-clause-added c = λ i.
    let logs = c.args.logs.now.items in
    let within : c.args.node < length logs = search rules in
    let here : (c.index_mut.result.now).items ≡ get_or (map (λ (log : Vec ℕ Global). log.items) logs) c.args.node [] =
    ap (λ (log : Vec ℕ Global). log.items) c.index_mut.ensures.value ∙ in_place (λ (log : Vec ℕ Global). log.items) logs c.args.node c.index_mut.result.now within in
    put_more (λ (log : Vec ℕ Global). log.items) logs c.args.node i c.extend_from_slice.new.self c.args.text.now within
    (c.in-Ok.ensures.items ∙ ap (λ (bytes : List ℕ). bytes ++ c.args.text.now) here)

pub returns-in-Err-clause-failed : goal.returns-in-Err-clause-failed
returns-in-Err-clause-failed c =
    let logs = c.args.logs.now.items in
    let within : c.args.node < length logs = search rules in
    put_same (λ (log : Vec ℕ Global). log.items) logs c.args.node c.extend_from_slice.new.self within
    (c.in-Err.ensures.items ∙ ap (λ (log : Vec ℕ Global). log.items) c.index_mut.ensures.value ∙ in_place (λ (log : Vec ℕ Global). log.items) logs c.args.node c.index_mut.result.now within)

-- what the log had room for it has still, but for the text
pub returns-in-Ok-clause-used : goal.returns-in-Ok-clause-used
returns-in-Ok-clause-used c = λ i.
    let logs = c.args.logs.now.items in
    let within : c.args.node < length logs = search rules in
    let here : byte_room c.index_mut.result.now ≡ get_or (map byte_room logs) c.args.node 0 =
    ap byte_room c.index_mut.ensures.value ∙ count_at byte_room logs c.args.node c.index_mut.result.now within in
    count_left byte_room logs c.args.node i (length c.args.text.now) c.extend_from_slice.new.self within
    (omega (arith, here, c.in-Ok.ensures.capacity, c.in-Ok.ensures.len))

pub returns-in-Err-clause-used : goal.returns-in-Err-clause-used
returns-in-Err-clause-used c = λ i.
    let logs = c.args.logs.now.items in
    let within : c.args.node < length logs = search rules in
    let here : byte_room c.index_mut.result.now ≡ get_or (map byte_room logs) c.args.node 0 =
    ap byte_room c.index_mut.ensures.value ∙ count_at byte_room logs c.args.node c.index_mut.result.now within in
    count_left byte_room logs c.args.node i (length c.args.text.now) c.extend_from_slice.new.self within
    (omega (arith, here, c.in-Err.ensures.capacity, c.in-Err.ensures.len))

use Rattle.std.proofs.Common.{◌≡◌, ◌∙◌}
use Rattle.stations.specs.Looking.{look_of}
use Rattle.node_seats.specs.declared.bot.Telling.{Telling}
use Rattle.node_seats.specs.declared.words.Asked.TheVariants as asks
use Rattle.node_seats.specs.Seating.{bot_at, waits_at}
use Rattle.node_service.specs.Bots.{HadTableSince}
use Rattle.node_service.proofs.Apartness.{over_off}
use Rattle.node_service.proofs.Bots.{had_now, some_of, bots_over}
use Rattle.node_service.proofs.Owing.{told_ended, over_before}
use Rattle.node_service.proofs.seat_lines.end.Goals as goal

pub returns-clause-bots : goal.returns-clause-bots
returns-clause-bots g c =
    let look = look_of c.args.member.now.station in
    let table = c.table-table.result.now in
    let seats = c.args.seats.now.seats.items in
    let had : HadTableSince look.moments look table = had_now c.args.member.now.station c.station.result.now c.node.result.now table c.station.ensures c.limits.ensures c.node.ensures c.table-table.ensures.now in
    let seat = c.args.seat in
    let bot = bot_at seats seat in
    let found = some_of (λ (t : Telling). t.next ≡ c.in-Some.next) bot.telling c.in-Some.ensures.next in
    let asked : bot.words.asked ≡ asks.Nothing → ⊥ = (λ e. c.asks.ensures.asks c.if-not-asks.false (c.asked.ensures.asked ∙ e)) in
    bots_over look table seat c.in-Some.next seats c.part.new.self.seats.items found.0 found.1.0 found.1.1 had asked (c.is_behind_all.ensures.behind c.if-not-is_behind_all.false seat) c.part.ensures.parts c.part.ensures.says

pub returns-then-not-is_behind_all-clause-over : goal.returns-then-not-is_behind_all-clause-over
returns-then-not-is_behind_all-clause-over g c = λ done.
    over_before (look_of c.args.member.now.station) c.node.result.now c.table-table.result.now c.args.seat c.in-Some.next (bot_at c.args.seats.now.seats.items c.args.seat) c.node.ensures c.table-table.ensures.now c.in-Some.ensures.next
    (c.is_behind_all.ensures.before c.if-not-is_behind_all.true c.args.seat)

pub returns-clause-told : goal.returns-clause-told
returns-clause-told g c =
    let old = c.args.seats.now.seats.items in
    let new = c.part.new.self.seats.items in
    let seat = c.args.seat in
    told_ended seat (bot_at old seat) (bot_at new seat) (waits_at old seat) (waits_at new seat) c.part.ensures.parts c.part.ensures.says.here

pub returns-clause-waits : goal.returns-clause-waits
returns-clause-waits g c = over_off c.args.seat c.args.seats.now.seats.items c.part.new.self.seats.items c.part.ensures.parts c.part.ensures.says

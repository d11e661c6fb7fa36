use Rattle.std.proofs.Common.{◌≡◌, List, ℕ, sym, subst, ◌∙◌}
use Rattle.stations.specs.Looking.{look_of}
use Rattle.node_seats.specs.declared.words.Asked.{Asked}
use Rattle.node_seats.specs.declared.words.Asked.TheVariants as asks
use Rattle.node_seats.specs.Seating.{bot_at}
use Rattle.node_service.specs.Bots.{IsRefusedBy, HadTableSince}
use Rattle.node_service.proofs.Apartness.{refused_off}
use Rattle.node_service.proofs.Bots.{had_now, bots_refused}
use Rattle.node_service.proofs.seat_lines.refuse.Goals as goal

pub returns-clause-bots : goal.returns-clause-bots
returns-clause-bots g c =
    let look = look_of c.args.member.now.station in
    let table = c.table-table.result.now in
    let seats = c.args.seats.now.seats.items in
    let had : HadTableSince look.moments look table = had_now c.args.member.now.station c.station.result.now c.node.result.now table c.station.ensures c.limits.ensures c.node.ensures c.table-table.ensures.now in
    let seat = c.args.seat in
    let words = (bot_at seats seat).words in
    let asked : words.asked ≡ asks.Line = sym c.asked-asked.ensures.asked ∙ c.names_line.ensures c.if-not-names_line.false in
    let named : IsRefusedBy table seat asks.Line words.named = subst (λ (n : List ℕ). IsRefusedBy table seat asks.Line n) c.asked-asked.ensures.named (c.has_line.ensures c.if-has_line.false) in
    bots_refused look table seat seats c.part.new.self.seats.items had (subst (λ (a : Asked). IsRefusedBy table seat a words.named) (sym asked) named) c.part.ensures.parts c.part.ensures.says

pub returns-clause-waits : goal.returns-clause-waits
returns-clause-waits g c = refused_off c.args.seat c.args.seats.now.seats.items c.part.new.self.seats.items c.part.ensures.parts c.part.ensures.says

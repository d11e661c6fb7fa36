use Rattle.std.proofs.Common.{List, ℕ, subst}
use Rattle.stations.specs.Looking.{look_of}
use Rattle.node_seats.specs.declared.words.Asked.{Asked}
use Rattle.node_seats.specs.Seating.{bot_at}
use Rattle.node_service.specs.declared.seat_lines.Start.{Start}
use Rattle.node_service.specs.declared.seat_lines.Start.TheVariants.{Never}
use Rattle.node_service.specs.Bots.{StartsBy, IsRefusedBy, IsStart, HadTableSince}
use Rattle.node_service.proofs.Apartness.{begun_off, refused_off}
use Rattle.node_service.proofs.Bots.{had_now, bots_begun, bots_refused}
use Rattle.node_service.proofs.seat_lines.begin.Goals as goal

pub returns-in-At-clause-bots : goal.returns-in-At-clause-bots
returns-in-At-clause-bots g c =
    let look = look_of c.args.member.now.station in
    let table = c.table-table.result.now in
    let seats = c.args.seats.now.seats.items in
    let had : HadTableSince look.moments look table = had_now c.args.member.now.station c.station.result.now c.node.result.now table c.station.ensures c.limits.ensures c.node.ensures c.table-table.ensures.now in
    let seat = c.args.seat in
    let at = c.in-At.at in
    let words = (bot_at seats seat).words in
    let first : StartsBy table seat c.asked-asked.result.0 c.asked-asked.result.1.now at =
    subst (λ (s : Start). IsStart table seat c.asked-asked.result.0 c.asked-asked.result.1.now s) c.in-At.is c.start_of.ensures in
    let named : StartsBy table seat c.asked-asked.result.0 words.named at = subst (λ (n : List ℕ). StartsBy table seat c.asked-asked.result.0 n at) c.asked-asked.ensures.named first in
    bots_begun look table seat at seats c.begin.new.self.seats.items had (subst (λ (a : Asked). StartsBy table seat a words.named at) c.asked-asked.ensures.asked named) c.begin.ensures.begins c.begin.ensures.says

pub returns-in-Never-clause-bots : goal.returns-in-Never-clause-bots
returns-in-Never-clause-bots g c =
    let look = look_of c.args.member.now.station in
    let table = c.table-table.result.now in
    let seats = c.args.seats.now.seats.items in
    let had : HadTableSince look.moments look table = had_now c.args.member.now.station c.station.result.now c.node.result.now table c.station.ensures c.limits.ensures c.node.ensures c.table-table.ensures.now in
    let seat = c.args.seat in
    let words = (bot_at seats seat).words in
    let start : IsStart table seat c.asked-asked.result.0 c.asked-asked.result.1.now Never = subst (λ (s : Start). IsStart table seat c.asked-asked.result.0 c.asked-asked.result.1.now s) c.in-Never.is c.start_of.ensures in
    let named : IsRefusedBy table seat c.asked-asked.result.0 words.named = subst (λ (n : List ℕ). IsRefusedBy table seat c.asked-asked.result.0 n) c.asked-asked.ensures.named start.0 in
    bots_refused look table seat seats c.part.new.self.seats.items had (subst (λ (a : Asked). IsRefusedBy table seat a words.named) c.asked-asked.ensures.asked named) c.part.ensures.parts c.part.ensures.says

pub returns-in-At-clause-waits : goal.returns-in-At-clause-waits
returns-in-At-clause-waits g c = begun_off c.in-At.at c.args.seat c.args.seats.now.seats.items c.begin.new.self.seats.items c.begin.ensures.begins c.begin.ensures.says

pub returns-in-Never-clause-waits : goal.returns-in-Never-clause-waits
returns-in-Never-clause-waits g c = refused_off c.args.seat c.args.seats.now.seats.items c.part.new.self.seats.items c.part.ensures.parts c.part.ensures.says

use Rattle.std.proofs.Common.{◌∙◌, ap, None}
use Rattle.std.proofs.Math.ListN.{set}
use Rattle.std.proofs.lemmas.List.{map-set}
use Rattle.dealer_node.specs.Turned.{talk_of}
use Rattle.dealer_node.specs.Seated.{Seated}
use Rattle.dealer_node.proofs.seats.Seats.drop_seat.Goals as goal

pub returns : goal.returns
returns c =
    let items = c.self.inside.sessions.items in
    map-set talk_of items c.args.seat None ∙ ap (λ (v : Seated). set v.talks c.args.seat None) c.self.view_is

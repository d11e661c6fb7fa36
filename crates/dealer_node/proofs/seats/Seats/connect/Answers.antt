use Rattle.std.proofs.Common.{◌∙◌, ap, Some}
use Rattle.std.proofs.Math.ListN.{set}
use Rattle.std.proofs.lemmas.List.{map-set}
use Rattle.seat_session.specs.Session.{Standing as Talk, fresh}
use Rattle.dealer_node.specs.Turned.{talk_of, talks}
use Rattle.dealer_node.specs.Seated.{Seated}
use Rattle.dealer_node.proofs.seats.Seats.connect.Goals as goal

pub returns : goal.returns
returns c =
    let items = c.self.inside.sessions.items in
    map-set talk_of items c.args.seat (Some c.new.result)
    ∙ (ap (λ (t : Talk). set (talks items) c.args.seat (Some t)) c.new.ensures.standing ∙ ap (λ (v : Seated). set v.talks c.args.seat (Some fresh)) c.self.view_is)

use Rattle.std.proofs.Common.{◌≡◌, ◌∙◌, ap, sym, subst, arith, ◌<◌, length, None, List}
use Rattle.std.proofs.Math.ListN.{set}
use Rattle.std.proofs.lemmas.List.{map-set, set-set, get_or_default, length-map}
use Rattle.std.specs.Prelude.{Option, IfSome, false}
use Rattle.seat_session.specs.Session.{Conversation, Standing as Talk, is_closed}
use Rattle.dealer_node.specs.Turned.{talk_of, talks}
use Rattle.dealer_node.specs.Members.{place_at}
use Rattle.dealer_node.specs.SeatsInside.{AreOwn}
use Rattle.dealer_node.specs.Seated.{Seated, IsSeatedAt}
use Rattle.dealer_node.proofs.Seating.{piece_turn, own_still, can_hear}
use Rattle.dealer_node.proofs.seats.Seats.seat_hears.Goals as goal

pub session_hears-kept-requires-clause-session : goal.session_hears-kept-requires-clause-session
session_hears-kept-requires-clause-session c = λ session found.
    let items = c.self.inside.sessions.items in
    let here : c.args.seat < length items = omega (arith, ap (λ (v : Seated). length v.talks) c.self.view_is, length-map items talk_of, c.requires.seats, c.requires.sits.within) in
    can_hear items c.args.seat c.args.piece.now c.args.limit c.args.self.now session (ap (λ (v : Seated). v.talks) c.self.view_is) (ap (λ (v : Seated). v.rooms) c.self.view_is) c.self.invariant.kept
    (get_or_default items c.args.seat None _ here ∙ (sym c.index_mut.ensures.value ∙ (sym c.take-session.ensures.value ∙ found))) c.requires.bytes c.requires.limit

pub invariant_of-self : goal.invariant_of-self
invariant_of-self c =
    let items = c.self.inside.sessions.items in
    let here : c.args.seat < length items = omega (arith, ap (λ (v : Seated). length v.talks) c.self.view_is, length-map items talk_of, c.requires.seats, c.requires.sits.within) in
    record {
      kept = subst AreOwn (sym (set-set items c.args.seat c.take-session.new.self c.session_hears-kept.result))
          (own_still items c.args.seat c.session_hears-kept.result here c.self.invariant.kept (λ one found. (
            subst (λ (r : Option Conversation). IfSome r (λ s. s.seat ≡ c.args.seat)) found c.session_hears-kept.ensures.own,
            subst (λ (r : Option Conversation). IfSome r (λ s. is_closed s.standing.phase ≡ false)) found c.session_hears-kept.ensures.stays,
          )));
    }

pub returns-clause-heard : goal.returns-clause-heard
returns-clause-heard c = λ s stands.
    let items = c.self.inside.sessions.items in
    let here : c.args.seat < length items = omega (arith, ap (λ (v : Seated). length v.talks) c.self.view_is, length-map items talk_of, c.requires.seats, c.requires.sits.within) in
    let twice = set-set items c.args.seat c.take-session.new.self c.session_hears-kept.result in
    piece_turn (place_at c.args.member.now) c.args.table.now c.args.promised c.args.seat c.args.piece.now items c.take-session.result c.session_hears-kept.result c.args.pending.now c.session_hears-kept.new.pending _ _
    (talks (set (set items c.args.seat c.take-session.new.self) c.args.seat c.session_hears-kept.result)) s
    (get_or_default items c.args.seat None _ here ∙ (sym c.index_mut.ensures.value ∙ sym c.take-session.ensures.value))
    (ap talks twice ∙ map-set talk_of items c.args.seat c.session_hears-kept.result)
    c.session_hears-kept.ensures.hears
    (subst (λ (ts : List (Option Talk)). IsSeatedAt (place_at c.args.member.now) ts c.args.table.now c.args.promised c.args.pending.now s) (sym (ap (λ (v : Seated). v.talks) c.self.view_is)) stands)

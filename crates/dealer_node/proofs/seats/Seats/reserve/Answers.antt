use Rattle.std.proofs.Common.{◌∙◌, ap, sym, arith, ◌<◌, length, None}
use Rattle.std.proofs.lemmas.List.{get_or_default, length-map}
use Rattle.dealer_node.specs.Turned.{talk_of}
use Rattle.dealer_node.specs.Seated.{Seated}
use Rattle.dealer_node.proofs.Seating.{own_still, own_without, talks_without, room_made}
use Rattle.dealer_node.proofs.seats.Seats.reserve.Goals as goal

pub invariant_of-self : goal.invariant_of-self
invariant_of-self c =
    let items = c.self.inside.sessions.items in
    let here : c.args.seat < length items = omega (arith, ap (λ (v : Seated). length v.talks) c.self.view_is, length-map items talk_of, c.requires) in
    let found = get_or_default items c.args.seat None _ here ∙ sym c.index_mut.ensures.value in
    record {
      kept = own_still items c.args.seat c.reserve_in.new.session here c.self.invariant.kept
          (own_without c.args.seat c.index_mut.result.now c.reserve_in.new.session (λ one is. (c.self.invariant.kept.own c.args.seat one (found ∙ is), c.self.invariant.kept.stays c.args.seat one (found ∙ is))) c.reserve_in.ensures.same);
    }

pub invariant_of-self-2 : goal.invariant_of-self-2
invariant_of-self-2 c =
    let items = c.self.inside.sessions.items in
    let here : c.args.seat < length items = omega (arith, ap (λ (v : Seated). length v.talks) c.self.view_is, length-map items talk_of, c.requires) in
    let found = get_or_default items c.args.seat None _ here ∙ sym c.index_mut.ensures.value in
    record {
      kept = own_still items c.args.seat c.reserve_in.new.session here c.self.invariant.kept
          (own_without c.args.seat c.index_mut.result.now c.reserve_in.new.session (λ one is. (c.self.invariant.kept.own c.args.seat one (found ∙ is), c.self.invariant.kept.stays c.args.seat one (found ∙ is))) c.reserve_in.ensures.same);
    }

pub returns-in_err-reserve_in-clause-same : goal.returns-in_err-reserve_in-clause-same
returns-in_err-reserve_in-clause-same c =
    let items = c.self.inside.sessions.items in
    let here : c.args.seat < length items = omega (arith, ap (λ (v : Seated). length v.talks) c.self.view_is, length-map items talk_of, c.requires) in
    let found = get_or_default items c.args.seat None _ here ∙ sym c.index_mut.ensures.value in
    talks_without items c.args.seat c.index_mut.result.now c.reserve_in.new.session found c.reserve_in.ensures.same ∙ ap (λ (v : Seated). v.talks) c.self.view_is

pub returns-clause-same : goal.returns-clause-same
returns-clause-same c =
    let items = c.self.inside.sessions.items in
    let here : c.args.seat < length items = omega (arith, ap (λ (v : Seated). length v.talks) c.self.view_is, length-map items talk_of, c.requires) in
    let found = get_or_default items c.args.seat None _ here ∙ sym c.index_mut.ensures.value in
    talks_without items c.args.seat c.index_mut.result.now c.reserve_in.new.session found c.reserve_in.ensures.same ∙ ap (λ (v : Seated). v.talks) c.self.view_is

pub returns-clause-room : goal.returns-clause-room
returns-clause-room c =
    let items = c.self.inside.sessions.items in
    let here : c.args.seat < length items = omega (arith, ap (λ (v : Seated). length v.talks) c.self.view_is, length-map items talk_of, c.requires) in
    room_made items c.args.seat c.reserve_in.new.session c.args.more here c.in_ok-reserve_in.ensures.room

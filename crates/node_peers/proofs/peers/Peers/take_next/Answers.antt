use Rattle.std.proofs.Common.{Vec, Global, List, Option, refl, sym, ap, subst, ◌∙◌}
use Rattle.node_peers.specs.declared.aside.Aside.{Aside}
use Rattle.node_peers.specs.declared.own_front.OwnFront.{OwnFront}
use Rattle.node_peers.specs.declared.notice.Notice.{Notice}
use Rattle.node_peers.specs.declared.peer.Peer.{Peer}
use Rattle.node_peers.specs.Leaving.{Passes, none, aside_of, newest_of, waits_of}
use Rattle.node_peers.specs.Peering.{own_of}
use Rattle.node_peers.proofs.Growing.{stays_on}
use Rattle.node_peers.proofs.Leaving.{SameLook, passes_on, passes_told, passes_none}
use Rattle.node_peers.proofs.peers.Peers.take_next.Goals as goal

pub loop-init : goal.loop-init
loop-init c = record { stays = (refl, (refl, (refl, refl))); peers = refl; newest = refl; front = refl; passes = none }

pub loop-preserved : goal.loop-preserved
loop-preserved c =
    let start = c.args.self.now in
    let mid = c.loop.self in
    let popped = c.pop.new.self in
    let passed = c.pass.new.self in
    let was = c.loop.invariant in
    let kept = c.in_default.ensures.kept in
    let newest = ap (λ (a : Aside). a.newest) c.in_ok-waited.ensures.aside ∙ was.newest in
    let look : SameLook (own_of start) popped.own start.peers.items mid.peers.items (newest_of start) popped.aside.newest start.own_front.front mid.own_front.front =
    record { own_is = c.in_ok-waited.ensures.stays.0 ∙ was.stays.0; peers_are = ap (λ (v : Vec Peer Global). v.items) was.peers; newest_are = newest; front_is = ap (λ (f : OwnFront). f.front) was.front } in
    record {
      stays = stays_on start.lines popped passed.lines (stays_on start.lines mid.lines popped was.stays c.in_ok-waited.ensures.stays) c.in_default.ensures.stays;
      peers = kept.peers ∙ was.peers;
      newest = kept.newest ∙ newest;
      front = kept.front ∙ was.front;
      passes =
          passes_on (own_of start) popped.own start.peers.items mid.peers.items (newest_of start) popped.aside.newest start.own_front.front mid.own_front.front (waits_of start) (aside_of start) (waits_of mid)
          c.in_ok-waited.waited popped.notices.items (waits_of passed) (aside_of mid) popped.aside.frames.items (aside_of passed) look c.in_ok-waited.ensures.next (ap (λ (a : Aside). a.frames.items) c.in_ok-waited.ensures.aside)
          kept.waits was.passes c.in_default.ensures.passes;
    }

pub returns-in-Some-clause-passes : goal.returns-in-Some-clause-passes
returns-in-Some-clause-passes c =
    let start = c.args.self.now in
    let mid = c.loop.self in
    let popped = c.pop.new.self in
    let passed = c.pass.new.self in
    let was = c.loop.invariant in
    let look : SameLook (own_of start) popped.own start.peers.items mid.peers.items (newest_of start) popped.aside.newest start.own_front.front mid.own_front.front =
    record {
      own_is = c.in_ok-waited.ensures.stays.0 ∙ was.stays.0;
      peers_are = ap (λ (v : Vec Peer Global). v.items) was.peers;
      newest_are = ap (λ (a : Aside). a.newest) c.in_ok-waited.ensures.aside ∙ was.newest;
      front_is = ap (λ (f : OwnFront). f.front) was.front;
    } in
    passes_told (own_of start) popped.own start.peers.items mid.peers.items (newest_of start) popped.aside.newest start.own_front.front mid.own_front.front (waits_of start) (aside_of start) (waits_of mid)
    c.in_ok-waited.waited popped.notices.items (waits_of passed) c.in-Some.notice (aside_of mid) popped.aside.frames.items (aside_of passed) look c.in_ok-waited.ensures.next (ap (λ (a : Aside). a.frames.items) c.in_ok-waited.ensures.aside)
    c.in-Some.ensures.kept.waits was.passes c.in-Some.ensures.passes

pub returns-in_err-waited-clause-passes : goal.returns-in_err-waited-clause-passes
returns-in_err-waited-clause-passes c =
    let start = c.args.self.now in
    let mid = c.loop.self in
    let popped = c.pop.new.self in
    let empty = c.in_err-waited.ensures.none refl in
    subst (λ (n : Option Notice). Passes (own_of start) start.peers.items (newest_of start) start.own_front.front (waits_of start) (aside_of start) n popped.notices.items popped.aside.frames.items) (sym c.from_residual.ensures)
    (passes_none (own_of start) start.peers.items (newest_of start) start.own_front.front (waits_of start) (aside_of start) (waits_of mid) popped.notices.items (aside_of mid) popped.aside.frames.items (empty.1 ∙ sym empty.0)
    (ap (λ (a : Aside). a.frames.items) c.in_err-waited.ensures.aside) c.loop.invariant.passes)

pub returns-clause-passes : goal.returns-clause-passes
returns-clause-passes c =
    let start = c.args.self.now in
    let mid = c.loop.self in
    passes_none (own_of start) start.peers.items (newest_of start) start.own_front.front (waits_of start) (aside_of start) (waits_of mid) (waits_of mid) (aside_of mid) (aside_of mid) refl refl c.loop.invariant.passes

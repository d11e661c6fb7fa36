use Rattle.std.proofs.Common.{◌∙◌, ◌++◌, suc, List, ℕ, sym, ap, subst, refl, drop}
use Rattle.std.specs.List.{flat_map, AllByRecursion}
use Rattle.paxos_wire.specs.declared.message.Message.{Message}
use Rattle.paxos_wire.specs.Fits.{IsMessage}
use Rattle.paxos_wire.proofs.StreamLaws.{one_split}
use Rattle.paxos_wire.proofs.Pieces.{nothing_partial, cut_at, taken, faulted, ended, fed_more}
use Rattle.paxos_wire.proofs.read_streams.read_stream.Goals as goal

pub loop-piece-init : goal.loop-piece-init
loop-piece-init c = record {
  stream = rw (c.new-messages.ensures.items, c.new-feed.ensures) refl;
  each = subst (λ (ms : List Message). AllByRecursion IsMessage ms) (sym c.new-messages.ensures.items) tt;
  partial = nothing_partial c.new-feed.result.waiting c.new-feed.ensures;
}

pub loop-piece-preserved : goal.loop-piece-preserved
loop-piece-preserved c =
    let took = taken c.loop-piece.feed.waiting c.deref.result.now c.feed.new.self.waiting c.loop-piece.invariant.partial c.in_ok-feed.ensures.ok ∙ ap (λ (w : List ℕ). c.loop-piece.feed.waiting ++ w) c.deref.ensures.value in
    record {
      stream = fed_more (λ piece. piece.items) c.args.pieces.now c.loop-piece.piece-index c.piece-item.result c.loop-piece.messages.items c.take_messages.new.messages.items c.loop-piece.feed.waiting c.feed.new.self.waiting c.take_messages.new.feed.waiting
          c.loop-piece-test.true c.piece-item.is c.loop-piece.invariant.stream took c.in_ok-fault.ensures.stream;
      each = c.in_ok-fault.ensures.each c.loop-piece.invariant.each;
      partial = rw c.in_default.is at c.in_ok-fault.ensures.rest;
    }

pub returns-in-Some-clause-splits : goal.returns-in-Some-clause-splits
returns-in-Some-clause-splits c =
    let cut = cut_at (λ piece. piece.items) c.args.pieces.now c.loop-piece.piece-index c.piece-item.result c.loop-piece-test.true c.piece-item.is in
    let faulty = rw c.in-Some.is at c.in_ok-fault.ensures.rest in
    let took = taken c.loop-piece.feed.waiting c.deref.result.now c.feed.new.self.waiting c.loop-piece.invariant.partial c.in_ok-feed.ensures.ok ∙ ap (λ (w : List ℕ). c.loop-piece.feed.waiting ++ w) c.deref.ensures.value in
    faulted _ _ c.piece-item.result.items (flat_map (λ piece. piece.items) (drop (suc c.loop-piece.piece-index) c.args.pieces.now)) c.loop-piece.messages.items c.take_messages.new.messages.items c.loop-piece.feed.waiting c.feed.new.self.waiting c.take_messages.new.feed.waiting c.in-Some.fault
    cut c.loop-piece.invariant.stream took c.in_ok-fault.ensures.stream (c.in_ok-fault.ensures.each c.loop-piece.invariant.each) faulty

pub returns-in-Some-clause-only : goal.returns-in-Some-clause-only
returns-in-Some-clause-only c = λ others fault split. one_split _ _ _ _ _ split (returns-in-Some-clause-splits c)

pub returns-clause-only : goal.returns-clause-only
returns-clause-only c = λ others fault split. one_split _ _ _ _ _ split (ended (λ piece. piece.items) c.args.pieces.now c.loop-piece.piece-index c.loop-piece.messages.items c.loop-piece.feed.waiting c.loop-piece-test.false c.loop-piece.invariant.stream c.loop-piece.invariant.each c.loop-piece.invariant.partial)

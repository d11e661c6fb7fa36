use Rattle.std.proofs.Common.{◌∙◌, ◌+◌, ◌<◌, sym, ap, subst, Some, arith, rules}
use Rattle.std.specs.Prelude.{◌^◌}
use Rattle.paxos_wire.specs.Fits.{IsSlot}
use Rattle.slot_log.specs.declared.command.Command.{Command}
use Rattle.promise_store.specs.declared.stage.Stage.TheVariants.{New}
use Rattle.promise_store.specs.Shown.{vote_pair, placed_ballot}
use Rattle.promise_store.proofs.Entries.{indexed}
use Rattle.promise_store.proofs.Ranges.{found_slot}
use Rattle.promise_store.proofs.store.Store.entry.Goals as goal

pub returns-in-Ok-clause-found : goal.returns-in-Ok-clause-found
returns-in-Ok-clause-found g c head held keeps honest =
    let store = c.args.self.now in
    let placed = c.in-Some.placed in
    let entry = indexed head (g.D.Disk.seen store.disk) keeps.records (keeps.first, New, keeps.settled.journal honest) c.args.slot store.held placed (keeps.indexes honest) (sym c.find.ensures ∙ c.in-Some.is) in
    let small : placed.place + placed.inside < 2 ^ 64 = omega (arith, entry.2.within, g.met.D.Disk.is_small store.disk honest) in
    let read = c.in-Ok.ensures.found honest small entry.0 entry.2.rest entry.2.is entry.2.text in
    ap (λ (command : Command). Some (placed.ballot, command)) read ∙ sym (ap vote_pair (ap (λ s. s.votes c.args.slot) keeps.is ∙ entry.1))

pub returns-after-matches-clause-asking : goal.returns-after-matches-clause-asking
returns-after-matches-clause-asking g c = record {
  keeps = search rules;
  reads = search rules;
  held = search rules;
  sound = λ head held keeps honest.
      let store = c.args.self.now in
      let placed = c.in-Some.placed in
      let entry = indexed head (g.D.Disk.seen store.disk) keeps.records (keeps.first, New, keeps.settled.journal honest) c.args.slot store.held placed (keeps.indexes honest) (sym c.find.ensures ∙ c.in-Some.is) in
      let small : placed.place + placed.inside < 2 ^ 64 = omega (arith, entry.2.within, g.met.D.Disk.is_small store.disk honest) in
      c.in-Err.ensures.found honest small entry.0 entry.2.rest entry.2.is entry.2.text;
  failed = search rules;
  stays = search rules;
  closed = search rules;
  as_before = search rules;
  only = search rules;
}

pub returns-in-Ok-clause-range : goal.returns-in-Ok-clause-range
returns-in-Ok-clause-range g c =
    let held = c.args.self.now.held in
    let found = sym c.find.ensures ∙ c.in-Some.is in
    let within = held.entries_in_range c.args.slot c.in-Some.placed found in
    record {
      slot = subst IsSlot (found_slot c.args.slot held.entries.items c.in-Some.placed found) within.1;
      ballot = within.0;
      command = c.in-Ok.ensures.range;
    }

pub returns-in-Ok-clause-shown : goal.returns-in-Ok-clause-shown
returns-in-Ok-clause-shown g c = ap placed_ballot (sym (sym c.find.ensures ∙ c.in-Some.is))

use Rattle.promise_store.proofs.Ordered.{find_there, find_nowhere, find_past}
use Rattle.promise_store.proofs.index.find.Goals as goal

pub returns-then-place-entries : goal.returns-then-place-entries
returns-then-place-entries c = find_past c.args.slot c.args.entries.now c.position-place.result c.position-place.ensures c.if-place-entries.true

pub returns-then-entry-slot : goal.returns-then-entry-slot
returns-then-entry-slot c = find_there c.args.slot c.args.entries.now c.position-place.result _ c.position-place.ensures c.if-place-entries.false c.if-entry-slot.true

pub returns-else-entry-slot : goal.returns-else-entry-slot
returns-else-entry-slot c = find_nowhere c.args.slot c.args.entries.now c.position-place.result _ c.requires c.position-place.ensures c.if-place-entries.false c.if-entry-slot.false

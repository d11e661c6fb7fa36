use Rattle.promise_store.proofs.held.Held.take_record.Goals as goal

pub returns : goal.returns
returns c = record { held = λ held small indexes. c.note.ensures.held held small (c.reserve.ensures.same held indexes) }

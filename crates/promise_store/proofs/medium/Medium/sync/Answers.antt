use Rattle.std.proofs.Common.{◌≡◌, ◌∷◌, ◌++◌, [], length, rules}
use Rattle.promise_store.specs.declared.call.Call.TheVariants.{Synced}
use Rattle.promise_store.proofs.Calls.{tied_synced}
use Rattle.promise_store.proofs.medium.Medium.sync.Goals as goal

pub invariant_of-self-2 : goal.invariant_of-self-2
invariant_of-self-2 c =
    let old = c.args.self.now in
    let more : c.note.new.calls.items ≡ old.calls.items ++ Synced ∷ [] = search rules in
    let end : c.len-self.result ≡ length c.note.new.calls.items = search rules in
    record { tied = tied_synced old.bytes.items old.base.items old.based old.unsynced old.begun old.calls.items old.tied c.note.new.calls.items c.len-self.result more end }

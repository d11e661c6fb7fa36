use Rattle.std.proofs.Common.{rules}
use Rattle.promise_store.proofs.once_disk.OnceDisk.bytes.Goals as goal

pub returns : goal.returns
returns c = search rules

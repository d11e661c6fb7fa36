use Rattle.std.proofs.Common.{rules}
use Rattle.promise_store.proofs.memory_disk.MemoryDisk.bytes.Goals as goal

pub returns : goal.returns
returns c = search rules

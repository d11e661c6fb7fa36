use Rattle.std.proofs.Common.{rules}
use Rattle.promise_store.proofs.memory_disk.MemoryDisk.new.Goals as goal

pub returns-clause-fuses : goal.returns-clause-fuses
returns-clause-fuses c = search rules

use Rattle.std.proofs.Common.{rules}
use Rattle.promise_store.proofs.file_disk.FileDisk.new.Goals as goal

pub returns : goal.returns
returns c = search rules

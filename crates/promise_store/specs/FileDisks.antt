-- What is seen of a file of the system.
use Rattle.std.specs.Prelude.{ℕ, Option}
use Rattle.std.specs.declared.io.Error.{Error}
use Rattle.promise_store.specs.declared.file_disk.FileDisk.{FileDisk}

-- how many of its calls have failed
abbrev pub failures_of : FileDisk → ℕ
failures_of disk = disk.failures

-- by which error the system last refused a call
abbrev pub error_of : FileDisk → Option Error
error_of disk = disk.error

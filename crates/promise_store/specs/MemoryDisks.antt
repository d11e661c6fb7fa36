-- What is seen of a disk in memory.
use Rattle.std.specs.Prelude.{ℕ, Option, Some, None, List, [], ◌∷◌, ◌++◌, drop}
use Rattle.promise_store.specs.declared.memory_disk.MemoryDisk.{MemoryDisk}
use Rattle.promise_store.specs.declared.medium.Medium.{Medium}

-- the file of a disk in memory
abbrev pub medium_of : MemoryDisk → Medium
medium_of disk = disk.medium

abbrev pub none_or_one : Option ℕ → List ℕ
none_or_one None = []
none_or_one (Some left) = left ∷ []

-- how many calls pass before all fail: now, and after each stop to come
abbrev pub fuses_of : MemoryDisk → List ℕ
fuses_of disk = none_or_one disk.left ++ drop disk.next_fuse disk.fuses.items

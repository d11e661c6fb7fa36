-- What is seen of a disk of whose calls one alone fails.
use Rattle.std.specs.Prelude.{ℕ, Option}
use Rattle.promise_store.specs.declared.once_disk.OnceDisk.{OnceDisk}
use Rattle.promise_store.specs.declared.medium.Medium.{Medium}

abbrev pub medium_of : OnceDisk → Medium
medium_of disk = disk.medium

-- how many calls pass before the one that fails
abbrev pub left_of : OnceDisk → Option ℕ
left_of disk = disk.left

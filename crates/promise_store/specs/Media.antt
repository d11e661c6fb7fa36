-- What is seen of a file in memory.
use Rattle.std.specs.Prelude.{◌≡◌, ℕ, Bool, true, false, Option, Some, None, zero, suc, List, [], length, take}
use Rattle.promise_store.specs.Disks.{Only}
use Rattle.promise_store.specs.declared.call.Call.{Call}
use Rattle.promise_store.specs.declared.medium.Medium.{Medium}
use Rattle.promise_store.specs.Calls.{events, contents, picked, IsImage, Since}

abbrev pub seen_of : Medium → List ℕ
seen_of m = (contents (events m.calls.items)).seen

abbrev pub images_of : Medium → List ℕ → Type 0
images_of m = IsImage (contents (events m.calls.items))

-- what a number picks of what a crash may leave
abbrev pub image_of : Medium → ℕ → List ℕ
image_of m = picked (contents (events m.calls.items)).base (contents (events m.calls.items)).pending

-- the calls that changed it, or what a crash may leave of it, the oldest first
abbrev pub calls_of : Medium → List Call
calls_of m = m.calls.items

abbrev pub moment_of : Medium → ℕ
moment_of m = length (events m.calls.items)

abbrev pub since_of : Medium → ℕ → List ℕ → Type 0
since_of m t = Since t (events m.calls.items)

abbrev pub count_of : Medium → ℕ
count_of m = m.failures

-- what a read gave after the calls before its beginning
abbrev pub begun_of : Medium → List ℕ
begun_of m = (contents (events (take m.begun m.calls.items))).seen

-- an empty file, none of whose calls failed: a crash leaves nothing else
pub record IsEmpty (m : Medium) : Type 0 where
  pub seen : seen_of m ≡ []
  pub images : Only [] (images_of m)
  pub begun : begun_of m ≡ []
  pub count : count_of m ≡ 0

-- whether a call passes where so many more do before one fails; none said: it does
abbrev pub passes_with : Option ℕ → Bool
passes_with None = true
passes_with (Some zero) = false
passes_with (Some (suc left)) = true

-- how many more pass after it; those of a disk whose fuse is burnt fail from then on
abbrev pub burnt : Option ℕ → Option ℕ
burnt None = None
burnt (Some zero) = Some zero
burnt (Some (suc left)) = Some left

-- the same, where one call alone fails
abbrev pub burnt_once : Option ℕ → Option ℕ
burnt_once None = None
burnt_once (Some zero) = None
burnt_once (Some (suc left)) = Some left

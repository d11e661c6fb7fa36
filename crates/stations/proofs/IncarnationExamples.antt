-- Two processes of a node over disks in memory, one after the other: what the one left is what the next was begun on.
use Rattle.std.proofs.Common.{◌≡◌, ℕ, ◌⊎◌, ◌∙◌, inl, inr, true, Some, None, List, [], ◌∷◌, length, refl, ap, sym, subst, arith}
use Rattle.std.proofs.Math.Logic.{∥∥₁_map}
use Rattle.promise_store.specs.declared.memory_disk.MemoryDisk.{MemoryDisk}
use Rattle.promise_store.specs.contracts.memory_disk.MemoryDiskDisk.TheImpl.{ghosts as in_memory}
use Rattle.promise_store.specs.MemoryDisks.{medium_of}
use Rattle.promise_store.specs.Media.{calls_of, begun_of as begun_in}
use Rattle.promise_store.specs.Calls.{Event, wrote, synced, events, contents, landed, IsImage}
use Rattle.promise_store.specs.Journals.{header}
use Rattle.promise_store.specs.Holding.{StandsFor}
use Rattle.promise_store.specs.declared.stage.Stage.TheVariants.{New}
use Rattle.protocol_model.specs.Stores.{empty_store}
use Rattle.dealer_kind.specs.Kind.{hands_after}
use Rattle.dealer_kind.specs.Plans.{Plan}
use Rattle.dealer_kind.specs.declared.source.Source.TheVariants.{Seed}
use Rattle.node_rules.specs.Standings.{Place, place_of}
use Rattle.node_rules.proofs.Examples.{opened as opened_up, setting}
use Rattle.dealer_node.specs.Nodes.{Node}
use Rattle.dealer_node.specs.Seeing.{disk_in, images_by, images_of}
use Rattle.dealer_world.specs.RuleRuns.{plan_of}
use Rattle.stations.specs.Moments.{moment_now}
use Rattle.stations.specs.Stations.{Look, opened, died, IsTrueTo}
use Rattle.stations.specs.Incarnations.{IsProcess, Ended, at_rest, Incarnations, new_store, one_more, IsHistoryOf}
use Rattle.stations.specs.Together.{PastIncarnations, MayFind}
use Rattle.stations.proofs.OwnTables.{tables_now, no_tables}

abbrev plan : Plan
plan = plan_of setting (Seed 7 ∷ Seed 8 ∷ Seed 9 ∷ [])

abbrev place : Place
place = place_of plan 0

-- ---- files

-- a new store of node 0 of three
abbrev created : List ℕ
created = 72 ∷ 68 ∷ 74 ∷ 50 ∷ 0 ∷ 3 ∷ 0 ∷ 0 ∷ 0 ∷ []

stands : StandsFor (header 0 3) created empty_store
stands = record { records = []; journal = (New, New, record { gate = 0; rest = []; stands = refl; shut = λ e. omega (arith, e); each = tt; text = refl }); is = refl }

-- of a promise that was being appended a part of the bytes is there, behind a gate that is shut
abbrev torn : List ℕ
torn = 72 ∷ 68 ∷ 74 ∷ 50 ∷ 0 ∷ 3 ∷ 0 ∷ 0 ∷ 0 ∷ 0 ∷ 6 ∷ 1 ∷ 0 ∷ []

abbrev with_promise : List ℕ
with_promise = 72 ∷ 68 ∷ 74 ∷ 50 ∷ 0 ∷ 3 ∷ 0 ∷ 0 ∷ 1 ∷ 0 ∷ 6 ∷ 1 ∷ 0 ∷ 0 ∷ 0 ∷ 1 ∷ 0 ∷ 0 ∷ []

-- ---- a process that was opened

none_dealt : [] ≡ hands_after setting []
unfolding opened_up
none_dealt = refl

-- node 0, down over this disk
abbrev node_over : MemoryDisk → Node MemoryDisk
node_over disk = record {
  member = record { setting = setting; source = Seed 7; nodes = 3; node = 0 };
  blank = record { game = setting.game; count = setting.title.hands; hands = []; room = 0 };
  disk = Some disk;
  up = None;
}

-- and its process
abbrev look : MemoryDisk → Look (Node MemoryDisk)
look disk = record { config = plan; number = 0; node = node_over disk; deeds = []; moments = moment_now (node_over disk) [] ∷ [] }

-- a file was written on the disk and synced, and then the disk was begun
pub record IsBegunOn (file : List ℕ) (disk : MemoryDisk) : Type 0 where
  calls : events (calls_of (medium_of disk)) ≡ synced ∷ wrote 0 file true ∷ []
  begun : begun_in (medium_of disk) ≡ file

module _ (file : List ℕ) (whole : landed 1 [] 0 file ≡ file) (disk : MemoryDisk) (on : IsBegunOn file disk) where
  nothing_else : (image : List ℕ) → IsImage (contents (synced ∷ wrote 0 file true ∷ [])) image → image ≡ file
  nothing_else image (inl is) = is ∙ whole
  nothing_else image (inr is) = is ∙ whole

  -- a crash leaves the file, and nothing else
  leaves_it : images_of in_memory (look disk).node file
  leaves_it = subst (λ (calls : List Event). IsImage (contents calls) file) (sym on.calls) (inl (sym whole))

  leaves_nothing_else : (image : List ℕ) → images_of in_memory (look disk).node image → image ≡ file
  leaves_nothing_else image left = nothing_else image (subst (λ (calls : List Event). IsImage (contents calls) image) on.calls left)

  goes_on_from_there : IsTrueTo in_memory place (node_over disk) []
  goes_on_from_there before left honest = ∥∥₁_map left (λ was. record {
    s = was.s;
    seen = record {
      by = record {
        stopped = was.down;
        leaves = λ image at.
            subst (λ (f : List ℕ). StandsFor (header 0 3) f was.s.store ⊎ StandsFor (header 0 3) f was.s.begun) (on.begun ∙ sym (leaves_nothing_else image at)) was.held;
      };
      blank = record { game = refl; count = refl; hands = none_dealt };
    };
    did = was.did;
  })

  is_process : IsProcess in_memory place file (look disk)
  is_process = record {
    placed = refl;
    begun = on.begun;
    has = record {
      here = omega arith;
      at_place = ∣ refl ∣₁;
      newest = refl;
      true_to = goes_on_from_there;
      tables = tables_now in_memory place (node_over disk) [] [] ∣ refl ∣₁ goes_on_from_there (no_tables in_memory place (node_over disk));
      works = ∣ opened (look disk) refl refl refl refl ∣₁;
    };
  }

-- ---- two that died before they were started

module _ (first second : MemoryDisk) (begun : IsBegunOn created first) (again : IsBegunOn created second) where
  first_incarnation : Ended in_memory place created created
  first_incarnation = at_rest (look first) (is_process created refl first begun) (leaves_it created refl first begun)

  second_incarnation : Ended in_memory place created created
  second_incarnation = at_rest (look second) (is_process created refl second again) (leaves_it created refl second again)

  two_incarnations : Incarnations in_memory place created
  two_incarnations = one_more created created (one_more created created (new_store created stands) first_incarnation) second_incarnation

  what_they_did : IsHistoryOf in_memory place created two_incarnations (died ∷ died ∷ [])
  unfolding two_incarnations first_incarnation second_incarnation
  what_they_did = (died ∷ [], died ∷ [], ([], died ∷ [], refl, refl, refl), refl, refl)

  abbrev both : PastIncarnations in_memory place
  both = record { file = created; incarnations = two_incarnations }

  -- the node's next process finds what the last one left, and nothing else
  what_the_next_finds : MayFind in_memory place None both created
  what_the_next_finds = refl

  what_it_does_not_find : MayFind in_memory place None both with_promise → ⊥
  what_it_does_not_find same = let more : 18 ≡ 9 = ap (λ (file : List ℕ). length file) same in omega (arith, more)

-- one that was begun on what the one before it didn't leave
begun_on_another : (disk : MemoryDisk) → IsBegunOn with_promise disk → IsProcess in_memory place created (look disk) → ⊥
begun_on_another disk on is = let more : 18 ≡ 9 = ap (λ (file : List ℕ). length file) (sym on.begun ∙ is.begun) in omega (arith, more)

-- ---- one that died inside an append, and the next

-- the bytes of the promise were written behind the gate, and not yet synced
abbrev appending : List Event
appending = wrote 9 (0 ∷ 6 ∷ 1 ∷ 0 ∷ 0 ∷ 0 ∷ 1 ∷ 0 ∷ 0 ∷ []) true ∷ synced ∷ wrote 0 created true ∷ []

a_part_is_left : IsImage (contents appending) torn
a_part_is_left = inr (torn, record { before = refl; after = refl; no_shorter = omega arith; no_longer = omega arith }, refl)

module _ (running : Look (Node MemoryDisk)) (is : IsProcess in_memory place created running) (disk : MemoryDisk) (its : disk_in running.node ≡ Some disk)
    (calls : events (calls_of (medium_of disk)) ≡ appending) (next : MemoryDisk) (on : IsBegunOn torn next) where
  dies_there : Ended in_memory place created torn
  dies_there = at_rest running is (subst (λ d. images_by in_memory d torn) (sym its) (subst (λ (c : List Event). IsImage (contents c) torn) (sym calls) a_part_is_left))

  goes_on : Incarnations in_memory place torn
  goes_on = one_more torn torn (one_more created torn (new_store created stands) dies_there) (at_rest (look next) (is_process torn refl next on) (leaves_it torn refl next on))

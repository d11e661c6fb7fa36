-- What `serve` makes of its server, and what it tells of it.
use Rattle.std.specs.Prelude.{◌≡◌, ◌⊎◌, ℕ, ◌+◌, ◌-◌, ◌^◌, List, map, Option, is_some, Result, Ok, Err}
use Rattle.std.specs.Io.KnownBytes.{Keeps}
use Rattle.promise_store.specs.declared.disk.Disk.{Ghosts}
use Rattle.dealer_node.specs.Nodes.{Node}
use Rattle.dealer_node.specs.declared.fault.NodeFault.TheVariants.{Spent}
use Rattle.dealer_world.specs.Stepping.{View}
use Rattle.serving.specs.Dues.{IsAwaited}
use Rattle.serving.specs.Served.{Served}
use Rattle.serving.specs.Turned.{Turned}
use Rattle.serving.specs.declared.turn.Turn.{Turn}
use Rattle.serving.specs.declared.turn.Turn.TheVariants.{Over}
use Rattle.serving.specs.declared.serve_fault.ServeFault.{ServeFault}
use Rattle.serving.specs.declared.serve_fault.ServeFault.TheVariants.{Node as OfNode}
use Rattle.operator_notes.specs.Notes.{AreNoted, note_line}
use Rattle.match_runs.specs.Notes.{names_in, first_notes}
use Rattle.match_runs.specs.Score.{TellsScore}
use Rattle.match_runs.specs.Turning.{waits_after, AreDealt, TellsAfter}
use Rattle.operator_notes.specs.declared.seat_ports.SeatPorts.{SeatPorts}

-- what the last turn answered, by how serving ended
abbrev pub last_turn : Result (Unit {0}) ServeFault → Result Turn ServeFault
last_turn (Ok done) = Ok Over
last_turn (Err fault) = Err fault

-- behind the last turn the score is told, and of a refused one nothing
abbrev pub TellsLast : {N : Type 0} → Result (Unit {0}) ServeFault → View N → Option (List ℕ) → Option (List ℕ) → Type 0
TellsLast (Ok done) view held held_after = TellsScore view.all.shown held held_after
TellsLast (Err fault) view held held_after = Keeps held held_after

module _ {D : Type 0} (g : Ghosts D) (ports : SeatPorts) where
  -- the notes of a turn, before which so many in a row had waited: who is awaited, if anybody is and it wasn't told before; and what the turn did,
  -- of an order by the hands that had been dealt before it at its node
  pub record TellsTurn (old : Served (Node D)) (waits : ℕ) (turn : Turn) (new : Served (Node D)) (held held_after : Option (List ℕ)) : Type 0 where
    pub awaited : Option (ℕ × ℕ)
    pub is_awaited : IsAwaited g old awaited
    pub between : Option (List ℕ)
    pub first : AreNoted (map note_line (first_notes waits (names_in old.view) ports awaited)) held between
    pub dealt : List ℕ
    pub are_dealt : AreDealt g old.view dealt
    pub after : TellsAfter ports (is_some awaited) dealt (waits_after turn waits) turn new between held_after

  -- so many turns after one another, each of which was answered Ok and told; so many of the last of them waited
  pub data Turns (first : Served (Node D)) (start : Option (List ℕ)) : ℕ → ℕ → Served (Node D) → Option (List ℕ) → Type 0 where
    none : Turns first start 0 0 first start
    more : (count waits : ℕ) (turn : Turn) (between last : Served (Node D)) (held held_after : Option (List ℕ)) → Turns first start count waits between held
        → Turned g between (Ok turn) last → TellsTurn between waits turn last held held_after → Turns first start (count + 1) (waits_after turn waits) last held_after

  -- the notes of the last turn, before which so many in a row had waited: who is awaited, if anybody is and it wasn't told before; and how it ended
  pub record TellsEnd (old : Served (Node D)) (waits : ℕ) (answer : Result (Unit {0}) ServeFault) (new : Served (Node D)) (held held_after : Option (List ℕ)) : Type 0 where
    pub awaited : Option (ℕ × ℕ)
    pub is_awaited : IsAwaited g old awaited
    pub between : Option (List ℕ)
    pub first : AreNoted (map note_line (first_notes waits (names_in old.view) ports awaited)) held between
    pub last : TellsLast answer new.view between held_after

  -- turns were made until one said that all is over, or was refused
  pub record Ends (old : Served (Node D)) (answer : Result (Unit {0}) ServeFault) (new : Served (Node D)) (start held_after : Option (List ℕ)) : Type 0 where
    pub count : ℕ
    pub waits : ℕ
    pub before : Served (Node D)
    pub held : Option (List ℕ)
    pub turns : Turns old start count waits before held
    pub ended : Turned g before (last_turn answer) new
    pub told : TellsEnd before waits answer new held held_after

  -- 2 ^ 64 - 1 turns were made, and all is not over
  pub record TurnsOut (old : Served (Node D)) (answer : Result (Unit {0}) ServeFault) (new : Served (Node D)) (start held_after : Option (List ℕ)) : Type 0 where
    pub waits : ℕ
    pub turns : Turns old start (2 ^ 64 - 1) waits new held_after
    pub refused : answer ≡ Err (OfNode Spent)

  -- the one or the other
  abbrev pub IsServed : Served (Node D) → Result (Unit {0}) ServeFault → Served (Node D) → Option (List ℕ) → Option (List ℕ) → Type 0
  IsServed old answer new start held_after = Ends old answer new start held_after ⊎ TurnsOut old answer new start held_after

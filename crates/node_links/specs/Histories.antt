-- What happens to a connection from its beginning on, and what one that is open goes by.
use Rattle.std.specs.Prelude.{◌≡◌, ◌⊎◌, ℕ, List, [], ◌∷◌, Option, Result, Ok}
use Rattle.peer_codes.specs.declared.fault.RecordFault.{RecordFault}
use Rattle.peer_codes.specs.declared.hello.Hello.{Hello}
use Rattle.peer_codes.specs.declared.version.Version.{Version}
use Rattle.peer_codes.specs.declared.records.Record.{Record}
use Rattle.peer_codes.specs.declared.records.Record.TheVariants as record_of
use Rattle.node_links.specs.declared.own.Own.{Own}
use Rattle.node_links.specs.declared.own.Met.{Met}
use Rattle.node_links.specs.declared.phase.Phase.{Phase}
use Rattle.node_links.specs.declared.phase.Phase.TheVariants as phases
use Rattle.node_links.specs.declared.plain_connection.PlainConnection.{PlainConnection}
use Rattle.node_links.specs.Judging.{judged}
use Rattle.node_links.specs.Steps.{step_by, settled}
use Rattle.node_links.specs.Connections.{IsFront}

-- what changes how far a connection is
pub data Happening : Type 0 where
  -- a record was read, or bytes that are none
  Came : (read : Result Record RecordFault) → Happening
  -- the Hello that came was judged
  Judged : (own : Own) (dialled : Option ℕ) (met : List Met) → Happening

abbrev pub phase_after : Phase → Happening → Phase
phase_after phase (Came read) = (step_by phase read).phase
phase_after phase (Judged own dialled met) = settled own dialled met phase

-- how far a connection is, of the side that dialled in this version or was dialled, behind all that happened to it, the newest
-- first
abbrev pub phase_behind : Option Version → List Happening → Phase
phase_behind mine [] = phases.Greeting mine
phase_behind mine (happening ∷ before) = phase_after (phase_behind mine before) happening

-- one of these is such
abbrev pub Happened : (Happening → Type 0) → List Happening → Type 0
Happened P [] = ⊥
Happened P (happening ∷ before) = P happening ⊎ Happened P before

-- a record came that is this Hello
abbrev pub HelloCame : Hello → Happening → Type 0
HelloCame hello (Came read) = read ≡ Ok (record_of.Hello hello)
HelloCame hello (Judged own dialled met) = ⊥

-- this Hello was judged, and taken
abbrev pub WasTaken : Hello → Happening → Type 0
WasTaken hello (Came read) = ⊥
WasTaken hello (Judged own dialled met) = judged own dialled met hello ≡ Ok tt

-- this Hello came, and was taken later
abbrev pub IsTaken : Hello → List Happening → Type 0
IsTaken hello [] = ⊥
IsTaken hello (happening ∷ before) = (WasTaken hello happening × Happened (HelloCame hello) before) ⊎ IsTaken hello before

-- of a connection before and after a call: nothing changed, or what stood in front of what came was taken, and happened to it
abbrev pub HasRead : PlainConnection → PlainConnection → Type 0
HasRead old new = (new ≡ old) ⊎ ((read : Result Record RecordFault) × (IsFront old.came.waiting read new.came.waiting × (new.phase ≡ phase_after old.phase (Came read))))

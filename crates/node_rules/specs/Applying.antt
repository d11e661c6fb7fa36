-- Applying the commands that the front has passed.
use Rattle.std.specs.Prelude.{List, [], ◌∷◌, ◌++◌, drop, reverse, Option, Some, None, if◌then◌else◌}
use Rattle.slot_log.specs.Slots.{Log, front}
use Rattle.slot_log.specs.declared.command.Command.{Command}
use Rattle.seat_session.specs.Session.{Standing as Talk}
use Rattle.dealer_kind.specs.Kind.{Setting, hands_after, fits}
use Rattle.learner.specs.Learning.{Learned}
use Rattle.node_rules.specs.Standings.{Place, Standing, applied}
use Rattle.node_rules.specs.Showing.{Piece, news}
use Rattle.node_rules.specs.Turns.{Turn}

-- what changes while commands are applied: those applied, newest first, the act that waits, and what was shown
pub record Scene : Type 0 where
  pub applied : List Command
  pub pending : Option Command
  pub shown : List Piece

-- an act that waits is forgotten once it doesn't fit
abbrev pub kept : Setting → List Command → Option Command → Option Command
kept setting before None = None
kept setting before (Some act) = if fits setting before act then Some act else None

-- what is shown of a command after those before it: nothing of one that has no effect
abbrev pub shown_of : Setting → List (Option Talk) → List Command → Command → List Piece
shown_of setting sessions before command =
    if fits setting before command then news setting sessions (hands_after setting (command ∷ before)) else []

-- a command is applied
abbrev pub taking : Setting → List (Option Talk) → Command → Scene → Scene
taking setting sessions command scene = record {
  applied = command ∷ scene.applied;
  pending = kept setting (command ∷ scene.applied) scene.pending;
  shown = scene.shown ++ shown_of setting sessions scene.applied command;
}

-- commands are applied one after another; they stand oldest first
unfoldable pub taking_all : Setting → List (Option Talk) → List Command → Scene → Scene
taking_all setting sessions [] scene = scene
taking_all setting sessions (command ∷ later) scene = taking_all setting sessions later (taking setting sessions command scene)

-- the commands by which the front went on, oldest first
abbrev pub passed : Log → Log → List Command
passed old new = drop (front old) (reverse new.below)

abbrev pub scene_of : Standing → Scene
scene_of s = record { applied = applied s; pending = s.pending; shown = [] }

-- once this is known, all that the front has passed is applied
abbrev pub applying : Place → Learned → Standing → Turn
applying place learned s =
    let scene = taking_all place.setting s.sessions (passed s.learned.log learned.log) (scene_of s) in
    record {
      after = record s { learned = learned; pending = scene.pending };
      frames = [];
      shown = scene.shown;
      faults = [];
    }

-- A table, an act that waits and texts, as a scene of the rules.
use Rattle.std.specs.Prelude.{◌≡◌, ℕ, List, ◌++◌, map, Option, IfSome}
use Rattle.paxos_wire.specs.Fits.{IsInRange}
use Rattle.slot_log.specs.Hand.{Match}
use Rattle.slot_log.specs.declared.command.Command.{Command}
use Rattle.dealer_kind.specs.Kind.{Setting, hands_after}
use Rattle.node_rules.specs.Applying.{Scene}
use Rattle.dealer_node.specs.declared.reader.Reader.{Reader}
use Rattle.dealer_node.specs.Texts.{Marked}
use Rattle.dealer_node.specs.Turned.{printed}

-- the table has the hands that these commands make
pub record IsTableOf (setting : Setting) (applied : List Command) (table : Match) : Type 0 where
  pub game : table.game ≡ setting.game
  pub count : table.count ≡ setting.title.hands
  pub hands : table.hands ≡ hands_after setting applied

-- the table is one of the match, of which there are as many sessions as seats
pub record IsTableAt (setting : Setting) (sessions : ℕ) (table : Match) : Type 0 where
  pub game : table.game ≡ setting.game
  pub count : table.count ≡ setting.title.hands
  pub seats : sessions ≡ setting.game.players

-- the table is that of the commands applied, the act that waits is the scene's, and what it shows stands behind other texts
pub record IsScene (setting : Setting) (scene : Scene) (table : Match) (pending : Option Command) (before texts : List (Marked Reader)) : Type 0 where
  pub hands : IsTableOf setting scene.applied table
  pub waits : pending ≡ scene.pending
  pub shown : texts ≡ before ++ map printed scene.shown

-- whatever scene table, act and texts are of, they are of the one that the rule makes of it then
abbrev pub PlaysOn : Setting → (Scene → Scene) → Match → Option Command → List (Marked Reader) → Match → Option Command → List (Marked Reader) → Type 0
PlaysOn setting rule table pending texts later waits more =
    (scene : Scene) (before : List (Marked Reader)) → IsScene setting scene table pending before texts → IsScene setting (rule scene) later waits before more

-- the act that waits has its numbers within their ranges, where the one that waited had
abbrev pub StaysInRange : Option Command → Option Command → Type 0
StaysInRange waited waits = IfSome waited (λ command. IsInRange command) → IfSome waits (λ command. IsInRange command)

-- What the lines of a kept match say, before it is read.
use Rattle.std.specs.Prelude.{ℕ, List}
use Rattle.game_def.specs.Text.{HasNoFeed}
use Rattle.match_file.specs.Kept.{lines}
use Rattle.match_file.specs.declared.kept_lines.KeptLines.{KeptLines}

-- what stands on each line behind its word, and what behind the lines
pub record Said : Type 0 where
  pub name : List ℕ
  pub game : List ℕ
  pub hands : List ℕ
  pub names : List ℕ
  pub nodes : List ℕ
  pub rest : List ℕ

abbrev pub said_in : KeptLines → Said
said_in found = record { name = found.name.now; game = found.game.now; hands = found.hands.now; names = found.names.now; nodes = found.nodes.now; rest = found.rest.now }

abbrev pub text_of : Said → List ℕ
text_of said = lines said.name said.game said.hands said.names said.nodes said.rest

-- each stands on one line
pub record IsOneEach (said : Said) : Type 0 where
  pub name : HasNoFeed said.name
  pub game : HasNoFeed said.game
  pub hands : HasNoFeed said.hands
  pub names : HasNoFeed said.names
  pub nodes : HasNoFeed said.nodes

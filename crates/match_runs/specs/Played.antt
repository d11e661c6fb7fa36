-- Scripts of the command `play`, and what it writes for them.
use Rattle.std.specs.Prelude.{ℕ, List}
use Rattle.dealer_kind.specs.Plans.{Plan}
use Rattle.playing.specs.Playing.{Scene, Plays, HasOneList}
use Rattle.streamed.specs.Script.{AreLines}

-- what is written for a match and a script: the headers of a new cluster's logs and the answer to each whole line; a rest without a line feed isn't read.
-- One list of chosen commands is behind all that the cluster showed
pub record Played (plan : Plan) (bytes output : List ℕ) : Type 0 where
  pub lines : List (List ℕ)
  pub rest : List ℕ
  pub last : Scene
  pub are_lines : AreLines bytes lines rest
  pub plays : Plays plan lines output last
  pub shows : HasOneList last

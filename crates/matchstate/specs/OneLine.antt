-- A view has one line, and a line says one view.
use Rattle.std.specs.Prelude.{◌≡◌, ℕ, List, Result, Ok}
use Rattle.game_def.specs.Game.{Game, IsGame}
use Rattle.matchstate.specs.View.{View, IsView}
use Rattle.matchstate.specs.Line.{IsLine, ReadsAs, line_text}
use Rattle.matchstate.specs.declared.line_fault.LineFault.{LineFault}

-- the text of what some viewer could see is a line that says it
abbrev pub TextsAreLines : Type 0
TextsAreLines = (view : View) → IsGame view.game → IsView view → IsLine view.game (line_text view) view

-- what a line says some viewer could see, and the line is its text
abbrev pub LinesAreTexts : Type 0
LinesAreTexts = (game : Game) (bytes : List ℕ) (view : View) → IsLine game bytes view → IsView view × (bytes ≡ line_text view)

-- a line says one view
abbrev pub LinesSayOneView : Type 0
LinesSayOneView = (game : Game) (bytes : List ℕ) (first second : View) → IsGame game → IsLine game bytes first → IsLine game bytes second → first ≡ second

-- whatever the text of a view reads as is that view
abbrev pub TextsReadBack : Type 0
TextsReadBack = (view : View) (result : Result View LineFault) → IsGame view.game → IsView view → ReadsAs view.game (line_text view) result → result ≡ Ok view

-- How far a script was read and answered, byte by byte and line by line.
use Rattle.std.proofs.Common.{◌≡◌, ◌≢◌, ℕ, ◌+◌, ◌<◌, List, [], ◌∷◌, ◌++◌, length, take, drop, get_or, sym, ◌∙◌, ap, subst, refl, append_assoc}
use Rattle.std.specs.Prelude.{Option}
use Rattle.std.specs.Io.KnownBytes.{Appends}
use Rattle.std.proofs.lemmas.List.{append-nil, take_more, take-append-drop}
use Rattle.std.proofs.KnownBytes.{Appends-trans}
use Rattle.game_def.specs.Game.{Game}
use Rattle.slot_log.specs.Hand.{Hand}
use Rattle.slot_log.specs.Dealer.{hands_of}
use Rattle.streamed.specs.Answer.{Says, answer}
use Rattle.streamed.specs.Told.{commands_of, names_of}
use Rattle.streamed.specs.Script.{Script, SayInTurn, answers}
use Rattle.streamed.specs.Running.{Stands, Shows, Begins}
use Rattle.streamed.specs.declared.dealing.Dealing.{Dealing}
use Rattle.streamed.specs.declared.running.Running.{Running}
use Rattle.streamed.specs.declared.script_line.ScriptLine.{ScriptLine}
use Rattle.streamed.proofs.Lines.{line_ends, line_goes_on, take_again}

-- what a line says of a match is what it says after the lines so far
pub says_as : (game : Game) (count : ℕ) (log : Option (List ℕ)) (before : List ScriptLine) (d : Dealing) (line : List ℕ) (said : ScriptLine) → Stands game count log before d → Says d.table.game d.names d.table.hands line said → Says game (names_of before) (hands_of game count (commands_of before)) line said
says_as game count log before d line said stands says =
    let of_game : Game → Type 0 = λ g. Says g d.names d.table.hands line said in
    let of_names : Option (List (List ℕ)) → Type 0 = λ n. Says game n d.table.hands line said in
    let of_hands : List Hand → Type 0 = λ h. Says game (names_of before) h line said in
    subst of_hands stands.hands_are (subst of_names stands.names_are (subst of_game stands.game_is says))

-- the answers so far are what is to be written for what was read
pub script_so_far : (game : Game) (count : ℕ) (log start now : Option (List ℕ)) (seen : List ℕ) (r : Running) → (shows : Shows game count log start seen r now) → Script game count log seen (answers game count log shows.says)
script_so_far game count log start now seen r shows = record {
  lines = shows.lines;
  rest = shows.rest;
  says = shows.says;
  are_lines = shows.are_lines;
  say_in_turn = shows.say_in_turn;
  written = refl;
}

-- and they are a beginning of it, whatever is read behind
pub begins_so_far : (game : Game) (count : ℕ) (log start now : Option (List ℕ)) (seen behind : List ℕ) (r : Running) → Shows game count log start seen r now → Begins game count log start (seen ++ behind) now
begins_so_far game count log start now seen behind r shows = record {
  front = seen;
  behind = behind;
  front_read = refl;
  output = answers game count log shows.says;
  script = script_so_far game count log start now seen r shows;
  shown = answers game count log shows.says;
  missing = [];
  front_shown = sym (append-nil (answers game count log shows.says));
  written = shows.written;
}

-- a beginning stays one where more is read
pub begins_still : (game : Game) (count : ℕ) (log start now : Option (List ℕ)) (read more : List ℕ) → Begins game count log start read now → Begins game count log start (read ++ more) now
begins_still game count log start now read more begins = record {
  front = begins.front;
  behind = begins.behind ++ more;
  front_read = ap (λ z. z ++ more) begins.front_read ∙ append_assoc begins.front begins.behind more;
  output = begins.output;
  script = begins.script;
  shown = begins.shown;
  missing = begins.missing;
  front_shown = begins.front_shown;
  written = begins.written;
}

-- a byte that is no line feed
pub byte_kept : (game : Game) (count : ℕ) (log start now : Option (List ℕ)) (seen : List ℕ) (byte : ℕ) (r after : Running) → byte ≢ 10 → after.dealing ≡ r.dealing → after.line.items ≡ take 336 (r.line.items ++ byte ∷ []) → Shows game count log start seen r now → Shows game count log start (seen ++ byte ∷ []) after now
byte_kept game count log start now seen byte r after other same line shows =
    let front : take 336 (r.line.items ++ byte ∷ []) ≡ take 336 (shows.rest ++ byte ∷ []) =
    ap (λ z. take 336 (z ++ byte ∷ [])) shows.kept ∙ take_again 336 shows.rest byte in
    let standing : Dealing → Type 0 = λ d. Stands game count log shows.says d in
    record {
      lines = shows.lines;
      rest = shows.rest ++ byte ∷ [];
      says = shows.says;
      are_lines = line_goes_on seen shows.lines shows.rest byte other shows.are_lines;
      say_in_turn = shows.say_in_turn;
      stands = subst standing (sym same) shows.stands;
      kept = line ∙ front;
      written = shows.written;
    }

-- what a line feed brings: what the line says, the match after it, and the answer
pub record LineEnds (r : Running) (said : ScriptLine) (after : Dealing) (text : List ℕ) : Type 0 where
  pub says : (line : List ℕ) → r.line.items ≡ take 336 line → Says r.dealing.table.game r.dealing.names r.dealing.table.hands line said
  pub stands : (game : Game) (count : ℕ) (log : Option (List ℕ)) (before : List ScriptLine) → Stands game count log before r.dealing → Stands game count log (said ∷ before) after
  pub answered : (game : Game) (count : ℕ) (log : Option (List ℕ)) (before : List ScriptLine) → Stands game count log before r.dealing → text ≡ answer game count log before said

-- by what reading its front, taking what it says and the answer bring, where the answer was empty before
pub line_taken : (r : Running) (said : ScriptLine) (after : Dealing) (text : List ℕ) {front empty written : List ℕ} → front ≡ r.line.items → empty ≡ [] → text ≡ written
    → ((line : List ℕ) → front ≡ take 336 line → Says r.dealing.table.game r.dealing.names r.dealing.table.hands line said)
    → ((game : Game) (count : ℕ) (log : Option (List ℕ)) (before : List ScriptLine) → Stands game count log before r.dealing → Stands game count log (said ∷ before) after)
    → ((game : Game) (count : ℕ) (log : Option (List ℕ)) (before : List ScriptLine) → Stands game count log before r.dealing → written ≡ empty ++ answer game count log before said)
    → LineEnds r said after text
line_taken r said after text kept_as none shown says stands answered = record {
  says = λ line kept. says line (kept_as ∙ kept);
  stands = stands;
  answered = λ game count log before is. shown ∙ answered game count log before is ∙ ap (λ z. z ++ answer game count log before said) none;
}

-- the line says this in its turn
ended_turn : (game : Game) (count : ℕ) (log start now : Option (List ℕ)) (seen text : List ℕ) (r : Running) (said : ScriptLine) (after : Dealing) → LineEnds r said after text → (shows : Shows game count log start seen r now) → SayInTurn game count (shows.rest ∷ shows.lines) (said ∷ shows.says)
ended_turn game count log start now seen text r said after ends shows =
    (shows.say_in_turn, says_as game count log shows.says r.dealing shows.rest said shows.stands (ends.says shows.rest shows.kept))

ended_output : (game : Game) (count : ℕ) (log start now : Option (List ℕ)) (seen text : List ℕ) (r : Running) (said : ScriptLine) (after : Dealing) → LineEnds r said after text → (shows : Shows game count log start seen r now) → answers game count log shows.says ++ text ≡ answers game count log (said ∷ shows.says)
ended_output game count log start now seen text r said after ends shows =
    ap (λ z. answers game count log shows.says ++ z) (ends.answered game count log shows.says shows.stands)

-- a line feed whose answer is written
pub line_answered : (game : Game) (count : ℕ) (log start now then : Option (List ℕ)) (seen text : List ℕ) (r : Running) (said : ScriptLine) (after : Running) → LineEnds r said after.dealing text → after.line.items ≡ [] → Appends now then text → Shows game count log start seen r now → Shows game count log start (seen ++ 10 ∷ []) after then
line_answered game count log start now then seen text r said after ends empty sent shows =
    let written : Appends start then (answers game count log shows.says ++ text) = Appends-trans start now then _ text shows.written sent in
    let appended : List ℕ → Type 0 = λ z. Appends start then z in
    record {
      lines = shows.rest ∷ shows.lines;
      rest = [];
      says = said ∷ shows.says;
      are_lines = line_ends seen shows.lines shows.rest shows.are_lines;
      say_in_turn = ended_turn game count log start now seen text r said after.dealing ends shows;
      stands = ends.stands game count log shows.says shows.stands;
      kept = empty;
      written = subst appended (ended_output game count log start now seen text r said after.dealing ends shows) written;
    }

-- a line feed whose answer is written in part
pub line_begun : (game : Game) (count : ℕ) (log start now then : Option (List ℕ)) (seen text shown missing : List ℕ) (r : Running) (said : ScriptLine) (after : Dealing) → LineEnds r said after text → text ≡ shown ++ missing → Appends now then shown → Shows game count log start seen r now → Begins game count log start (seen ++ 10 ∷ []) then
line_begun game count log start now then seen text shown missing r said after ends parts sent shows =
    let before : List ℕ = answers game count log shows.says in
    record {
      front = seen ++ 10 ∷ [];
      behind = [];
      front_read = sym (append-nil (seen ++ 10 ∷ []));
      output = answers game count log (said ∷ shows.says);
      script = record {
        lines = shows.rest ∷ shows.lines;
        rest = [];
        says = said ∷ shows.says;
        are_lines = line_ends seen shows.lines shows.rest shows.are_lines;
        say_in_turn = ended_turn game count log start now seen text r said after ends shows;
        written = refl;
      };
      shown = before ++ shown;
      missing = missing;
      front_shown = sym (ended_output game count log start now seen text r said after ends shows) ∙ ap (λ z. before ++ z) parts ∙ sym (append_assoc before shown missing);
      written = Appends-trans start now then before shown shows.written sent;
    }

-- the last of a piece's bytes so far, and those behind it
pub piece_split : (seen piece : List ℕ) (i : ℕ) → i < length piece → ((seen ++ take i piece) ++ get_or piece i 0 ∷ []) ++ drop (i + 1) piece ≡ seen ++ piece
piece_split seen piece i within =
    ap (λ z. z ++ drop (i + 1) piece) (append_assoc seen (take i piece) (get_or piece i 0 ∷ []) ∙ ap (λ z. seen ++ z) (sym (take_more piece i 0 within)))
    ∙ append_assoc seen (take (i + 1) piece) (drop (i + 1) piece) ∙ ap (λ z. seen ++ z) (take-append-drop (i + 1) piece)

-- the answers so far are a beginning of what is to be written for what was read
pub begins_here : (game : Game) (count : ℕ) (log start now : Option (List ℕ)) (seen : List ℕ) (r : Running) → Shows game count log start seen r now → Begins game count log start seen now
begins_here game count log start now seen r shows = record {
  front = seen;
  behind = [];
  front_read = sym (append-nil seen);
  output = answers game count log shows.says;
  script = script_so_far game count log start now seen r shows;
  shown = answers game count log shows.says;
  missing = [];
  front_shown = sym (append-nil (answers game count log shows.says));
  written = shows.written;
}

-- What the log has after a line of the script that it hadn't before.
use Rattle.std.proofs.Common.{◌≡◌, ℕ, ◌≤◌, List, [], ◌∷◌, ◌++◌, length, drop, ◌∙◌, ap, refl, true, false, cond}
use Rattle.std.specs.Prelude.{Option, Some, None, IsSome, is_none}
use Rattle.std.proofs.lemmas.List.{append-nil}
use Rattle.std.proofs.Math.Seq.{drop-append_seam, drop-length}
use Rattle.game_def.specs.Game.{Game}
use Rattle.slot_log.specs.Dealer.{reason_of, hands_of}
use Rattle.slot_log.specs.declared.command.Command.{Command}
use Rattle.slot_log.specs.declared.reason.Reason.{Reason}
use Rattle.match_log.specs.Log.{log_lines}
use Rattle.match_log.specs.Further.{further_lines as lines_further}
use Rattle.match_log.proofs.Growing.{commands_add, begins_with_header}
use Rattle.streamed.specs.Told.{commands_of, names_of}
use Rattle.streamed.specs.Logged.{title_of, log_after, lettered, logged}
use Rattle.streamed.specs.Further.{further_lines, printed, printed_header}
use Rattle.streamed.specs.declared.script_line.ScriptLine.{ScriptLine}
use Rattle.streamed.specs.declared.script_line.ScriptLine.TheVariants.{Names, Told}

-- ---- the log after a line of the script

-- no further line where the log is the same
pub none_logged : (game : Game) (count : ℕ) (log : Option (List ℕ)) (before : List ScriptLine) (said : ScriptLine) → ((word : List ℕ) → log_after game count word (said ∷ before) ≡ log_after game count word before) → logged game count log before said ≡ []
none_logged game count None before said same = refl
none_logged game count (Some word) before said same =
    ap (λ (z : List ℕ). lettered (drop (length (log_after game count word before)) z)) (same word)
    ∙ ap lettered (drop-length (log_after game count word before))

-- the further lines where the log has grown
pub some_logged : (game : Game) (count : ℕ) (log : Option (List ℕ)) (before : List ScriptLine) (said : ScriptLine) (further : List ℕ) → ((word : List ℕ) → log_after game count word (said ∷ before) ≡ log_after game count word before ++ further) → logged game count log before said ≡ printed log further
some_logged game count None before said further grows = refl
some_logged game count (Some word) before said further grows =
    ap (λ (z : List ℕ). lettered (drop (length (log_after game count word before)) z)) (grows word)
    ∙ ap lettered (drop-append_seam (log_after game count word before) further)

-- the line that names the seats
pub names_logged : (game : Game) (count : ℕ) (log : Option (List ℕ)) (before : List ScriptLine) (names : List (List ℕ)) → 1 ≤ count → names_of before ≡ None → commands_of before ≡ [] → logged game count log before (Names names) ≡ printed_header log count
names_logged game count None before names some unnamed none = refl
names_logged game count (Some word) before names some unnamed none =
    let title = title_of count word in
    let earlier : log_after game count word before ≡ [] = ap (λ (n : Option (List (List ℕ))). elim n [ None ↦ [] | Some told ↦ log_lines game title told (commands_of before) ]) unnamed in
    ap (λ (z : List ℕ). lettered (drop (length z) (log_lines game title names (commands_of before)))) earlier
    ∙ ap (λ (z : List Command). lettered (log_lines game title names z)) none
    ∙ ap lettered (begins_with_header game title names some)

-- ---- a command

-- what a command adds to the log, where there is one
added : (game : Game) (count : ℕ) (word : List ℕ) (commands : List Command) (command : Command) (told : List (List ℕ)) (r : Option Reason) → reason_of game count (hands_of game count commands) command ≡ r → log_lines game (title_of count word) told (command ∷ commands) ≡ log_lines game (title_of count word) told commands ++ cond (is_none r) (lines_further game count told (hands_of game count (command ∷ commands))) []
added game count word commands command told r is =
    commands_add game (title_of count word) told commands command
    ∙ ap (λ (reason : Option Reason). log_lines game (title_of count word) told commands ++ cond (is_none reason) (lines_further game count told (hands_of game count (command ∷ commands))) []) is

lines_grow : (game : Game) (count : ℕ) (word : List ℕ) (commands : List Command) (command : Command) (names : Option (List (List ℕ))) → IsSome names → reason_of game count (hands_of game count commands) command ≡ None → elim names [ None ↦ [] | Some told ↦ log_lines game (title_of count word) told (command ∷ commands) ] ≡ elim names [ None ↦ [] | Some told ↦ log_lines game (title_of count word) told commands ] ++ further_lines game count names (hands_of game count (command ∷ commands))
lines_grow game count word commands command None named fits = let no : false ≡ true = named in cc
lines_grow game count word commands command (Some told) named fits = added game count word commands command told None fits

-- a command that takes effect
pub told_logged : (game : Game) (count : ℕ) (log : Option (List ℕ)) (before : List ScriptLine) (command : Command) → IsSome (names_of before) → reason_of game count (hands_of game count (commands_of before)) command ≡ None → logged game count log before (Told command) ≡ printed log (further_lines game count (names_of before) (hands_of game count (command ∷ commands_of before)))
told_logged game count log before command named fits =
    some_logged game count log before (Told command) (further_lines game count (names_of before) (hands_of game count (command ∷ commands_of before)))
    (λ word. lines_grow game count word (commands_of before) command (names_of before) named fits)

lines_stay : (game : Game) (count : ℕ) (word : List ℕ) (commands : List Command) (command : Command) (reason : Reason) (names : Option (List (List ℕ))) → reason_of game count (hands_of game count commands) command ≡ Some reason → ◌≡◌ {A = List ℕ} (elim names [ None ↦ [] | Some told ↦ log_lines game (title_of count word) told (command ∷ commands) ]) (elim names [ None ↦ [] | Some told ↦ log_lines game (title_of count word) told commands ])
lines_stay game count word commands command reason None refused = refl
lines_stay game count word commands command reason (Some told) refused = added game count word commands command told (Some reason) refused ∙ append-nil (log_lines game (title_of count word) told commands)

-- one that doesn't
pub refused_logged : (game : Game) (count : ℕ) (log : Option (List ℕ)) (before : List ScriptLine) (command : Command) (reason : Reason) → reason_of game count (hands_of game count (commands_of before)) command ≡ Some reason → logged game count log before (Told command) ≡ []
refused_logged game count log before command reason refused =
    none_logged game count log before (Told command) (λ word. lines_stay game count word (commands_of before) command reason (names_of before) refused)

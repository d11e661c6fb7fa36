-- What a line tells the dealer, and the lines of all seats.
use Rattle.std.proofs.Common.{◌≡◌, ◌≢◌, ℕ, ◌+◌, length, codes, List, [], ◌∷◌, ◌++◌, sym, ◌∙◌, ap, arith}
use Rattle.std.specs.Prelude.{Option, Some, None, IfNone, map}
use Rattle.std.specs.List.{flat_map, range_with_len}
use Rattle.std.proofs.lemmas.Grind.{flat_map-append}
use Rattle.std.proofs.lemmas.List.{append-nil}
use Rattle.std.proofs.lemmas.List.FromFn.{map-range_with_len_more}
use Rattle.std.proofs.lemmas.List.Folds.{flat_map-map}
use Rattle.game_def.specs.Game.{Game}
use Rattle.betting.specs.declared.action.Action.{Action}
use Rattle.slot_log.specs.Hand.{Hand}
use Rattle.slot_log.specs.declared.command.Command.{Command}
use Rattle.slot_log.specs.declared.command.Command.TheVariants.{Deal, Act, Away}
use Rattle.streamed.specs.Answer.{ComesInTurn, Says, Tells}
use Rattle.streamed.specs.declared.script_line.ScriptLine.{ScriptLine}
use Rattle.streamed.specs.declared.script_line.ScriptLine.TheVariants.{Names, Told, Bad}

-- the line tells no deal, no action, or not that the player to act is played for
abbrev pub NoDeal : Game → List Hand → List ℕ → Type 0
NoDeal game hands text = (hand : ℕ) (deal : List ℕ) → ¬ (Tells game hands text (Deal hand deal))

abbrev pub NoAct : Game → List Hand → List ℕ → Type 0
NoAct game hands text = (hand index : ℕ) (action : Action) → ¬ (Tells game hands text (Act hand index action))

abbrev pub NoAway : Game → List Hand → List ℕ → Type 0
NoAway game hands text = (hand index : ℕ) → ¬ (Tells game hands text (Away hand index))

-- a line that tells none of these tells no command
no_command : (game : Game) (hands : List Hand) (text : List ℕ) → NoDeal game hands text → NoAct game hands text → NoAway game hands text → (command : Command) → ¬ (Tells game hands text command)
no_command game hands text deals acts aways (Deal hand deal) told = deals hand deal told
no_command game hands text deals acts aways (Act hand index action) told = acts hand index action told
no_command game hands text deals acts aways (Away hand index) told = aways hand index told

pub none_told : (game : Game) (hands : List Hand) (text : List ℕ) (read : Option Command) → NoDeal game hands text → IfNone read (NoAct game hands text) → IfNone read (NoAway game hands text) → IfNone read ((command : Command) → ¬ (Tells game hands text command))
none_told game hands text None deals acts aways = no_command game hands text deals acts aways
none_told game hands text (Some command) deals acts aways = tt

-- a line of another text doesn't tell that the player to act is played for, nor does any before the first deal
pub no_away_by_text : (game : Game) (hands : List Hand) (text : List ℕ) → text ≢ codes "away" → NoAway game hands text
no_away_by_text game [] text other hand index told = told
no_away_by_text game (newest ∷ earlier) text other hand index told = other told.2

pub no_away_undealt : (game : Game) (hands : List Hand) (text : List ℕ) → length hands ≡ 0 → NoAway game hands text
no_away_undealt game [] text none hand index told = told
no_away_undealt game (newest ∷ earlier) text none hand index told = omega (arith, none)

-- what is said of one number more
pub one_more : (f : ℕ → List ℕ) (n : ℕ) → flat_map f (range_with_len 0 (n + 1)) ≡ flat_map f (range_with_len 0 n) ++ f n
one_more f n =
    let same : (m : ℕ) → flat_map f (map (λ x. x) (range_with_len 0 m)) ≡ flat_map f (range_with_len 0 m) = λ m. flat_map-map f (λ x. x) (range_with_len 0 m) in
    let split : map (λ (x : ℕ). x) (range_with_len 0 (n + 1)) ≡ map (λ x. x) (range_with_len 0 n) ++ n ∷ [] = map-range_with_len_more (λ x. x) 0 n n (omega arith) in
    sym (same (n + 1)) ∙ ap (flat_map f) split ∙ flat_map-append f (map (λ x. x) (range_with_len 0 n)) (n ∷ [])
    ∙ ap (λ z. z ++ flat_map f (n ∷ [])) (same n) ∙ ap (λ z. flat_map f (range_with_len 0 n) ++ z) (append-nil (f n))

-- what a line says comes in turn
pub says_in_turn : (game : Game) (names : Option (List (List ℕ))) (hands : List Hand) (line : List ℕ) (said : ScriptLine) → Says game names hands line said → ComesInTurn game.players names said
says_in_turn game None hands line (Names told) says = says.are_names.one_each
says_in_turn game None hands line (Told command) says = says
says_in_turn game None hands line Bad says = tt
says_in_turn game (Some names) hands line (Names told) says = says
says_in_turn game (Some names) hands line (Told command) says = tt
says_in_turn game (Some names) hands line Bad says = tt

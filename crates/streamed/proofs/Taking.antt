-- What a command that is taken does to a match, and the answer to it.
use Rattle.std.proofs.Common.{◌≡◌, ℕ, List, ◌∷◌, sym, ◌∙◌, ap, subst, refl, ◌++◌, ◌≤◌, [], Bool, true, false, cond}
use Rattle.std.specs.Prelude.{Option, Some, None, IsSome, IsNone, IfNone}
use Rattle.std.proofs.lemmas.List.{append-nil}
use Rattle.game_def.specs.Game.{Game}
use Rattle.slot_log.specs.Hand.{Hand, Match}
use Rattle.slot_log.specs.Dealer.{hands_of, hands_after, reason_of, effect_of}
use Rattle.slot_log.specs.declared.command.Command.{Command}
use Rattle.slot_log.specs.declared.command.Command.TheVariants.{Deal, Act, Away}
use Rattle.slot_log.specs.declared.reason.Reason.{Reason}
use Rattle.slot_log.specs.declared.effect.Effect.{Effect}
use Rattle.slot_log.specs.declared.effect.Effect.TheVariants.{Dealt, Acted, HandOver, MatchOver, None as Nothing}
use Rattle.streamed.specs.Told.{commands_of, names_of}
use Rattle.streamed.specs.Logged.{logged}
use Rattle.streamed.specs.Further.{further_lines, printed, printed_header}
use Rattle.streamed.specs.Answer.{answer, reply_to, lines_for, refusal}
use Rattle.streamed.proofs.Logging.{names_logged, told_logged, refused_logged}
use Rattle.streamed.specs.Running.{Stands}
use Rattle.streamed.specs.declared.dealing.Dealing.{Dealing}
use Rattle.streamed.specs.declared.script_line.ScriptLine.{ScriptLine}
use Rattle.streamed.specs.declared.script_line.ScriptLine.TheVariants.{Names, Told}

-- once the seats are named nothing more is asked of the commands
some_told : (names : Option (List (List ℕ))) (P : Type 0) → IsSome names → IfNone names P
some_told (Some told) P named = tt
some_told None P named = let no : false ≡ true = named in cc

-- the hands after a command
hands_stand : (game : Game) (count : ℕ) (log : Option (List ℕ)) (before : List ScriptLine) (d : Dealing) (command : Command) (hands : List Hand) → hands ≡ hands_after d.table.game d.table.count d.table.hands command → Stands game count log before d → hands ≡ hands_of game count (command ∷ commands_of before)
unfolding hands_of
hands_stand game count log before d command hands taken stands =
    taken ∙ ap (λ (g : Game). hands_after g d.table.count d.table.hands command) stands.game_is
    ∙ ap (λ (n : ℕ). hands_after game n d.table.hands command) stands.count_is
    ∙ ap (λ (h : List Hand). hands_after game count h command) stands.hands_are

-- the match after a command
pub stands_after : (game : Game) (count : ℕ) (log : Option (List ℕ)) (before : List ScriptLine) (d after : Dealing) (command : Command) → IsSome d.names → after.table.game ≡ d.table.game → after.table.count ≡ d.table.count → after.table.hands ≡ hands_after d.table.game d.table.count d.table.hands command → after.names ≡ d.names → after.log ≡ d.log → Stands game count log before d → Stands game count log (Told command ∷ before) after
stands_after game count log before d after command named same_game same_count taken same_names same_log stands = record {
  game_is = same_game ∙ stands.game_is;
  count_is = same_count ∙ stands.count_is;
  hands_are = hands_stand game count log before d command after.table.hands taken stands;
  names_are = same_names ∙ stands.names_are;
  log_is = same_log ∙ stands.log_is;
  names_first = some_told (names_of before) _ (let told : Option (List (List ℕ)) → Type 0 = λ n. IsSome n in subst told stands.names_are named);
}

-- a command that does something has no reason not to
no_reason : (r : Option Reason) (e : Effect) → ((x : Reason) → ¬ (elim r [ None ↦ e | Some reason ↦ Nothing reason ] ≡ Nothing x)) → r ≡ None
no_reason None e some = refl
no_reason (Some reason) e some = absurd (some reason refl)

pub fitting : (game : Game) (count : ℕ) (hands : List Hand) (command : Command) (effect : Effect) → effect ≡ effect_of game count hands command → ((x : Reason) → ¬ (effect ≡ Nothing x)) → reason_of game count hands command ≡ None
fitting game count hands command effect is_effect some = no_reason _ _ (λ x e. some x (is_effect ∙ e))

-- one that does nothing has the reason that its effect tells
deal_refused : (r : Option Reason) (e : Effect) (reason : Reason) → ¬ (e ≡ Nothing reason) → elim r [ None ↦ e | Some why ↦ Nothing why ] ≡ Nothing reason → r ≡ Some reason
deal_refused None e reason other is = absurd (other is)
deal_refused (Some why) e reason other is = cc

never_nothing : (runs over : Bool) (reason : Reason) → ¬ (cond runs Acted (cond over MatchOver HandOver) ≡ Nothing reason)
never_nothing true over reason e = cc
never_nothing false true reason e = cc
never_nothing false false reason e = cc

pub refused_by : (game : Game) (count : ℕ) (hands : List Hand) (command : Command) (effect : Effect) (reason : Reason) → effect ≡ effect_of game count hands command → effect ≡ Nothing reason → reason_of game count hands command ≡ Some reason
refused_by game count hands (Deal hand deal) effect reason is_effect nothing =
    deal_refused (reason_of game count hands (Deal hand deal)) Dealt reason (λ e. let no : Dealt ≡ Nothing reason = e in cc) (sym is_effect ∙ nothing)
refused_by game count hands (Act hand index action) effect reason is_effect nothing =
    deal_refused (reason_of game count hands (Act hand index action)) _ reason (never_nothing _ _ reason) (sym is_effect ∙ nothing)
refused_by game count hands (Away hand index) effect reason is_effect nothing =
    deal_refused (reason_of game count hands (Away hand index)) _ reason (never_nothing _ _ reason) (sym is_effect ∙ nothing)

without_reason : (r : Option Reason) (lines : List ℕ) → r ≡ None → elim r [ None ↦ lines | Some reason ↦ refusal reason ] ≡ lines
without_reason None lines e = refl
without_reason (Some reason) lines e = cc

-- the reply to a command that takes effect, and what the log has further
fits_here : (game : Game) (count : ℕ) (log : Option (List ℕ)) (before : List ScriptLine) (d : Dealing) (command : Command) (reason : Option Reason) → reason_of d.table.game d.table.count d.table.hands command ≡ reason → Stands game count log before d → reason_of game count (hands_of game count (commands_of before)) command ≡ reason
fits_here game count log before d command reason is_reason stands =
    sym (ap (λ (g : Game). reason_of g d.table.count d.table.hands command) stands.game_is
    ∙ ap (λ (n : ℕ). reason_of game n d.table.hands command) stands.count_is
    ∙ ap (λ (h : List Hand). reason_of game count h command) stands.hands_are) ∙ is_reason

-- the answer to a command that takes effect
pub effect_answer : (game : Game) (count : ℕ) (log : Option (List ℕ)) (before : List ScriptLine) (d : Dealing) (command : Command) (table : Match) → IsSome d.names → reason_of d.table.game d.table.count d.table.hands command ≡ None → table.game ≡ d.table.game → table.count ≡ d.table.count → table.hands ≡ hands_after d.table.game d.table.count d.table.hands command → Stands game count log before d → lines_for table.game table.hands ++ printed d.log (further_lines table.game table.count d.names table.hands) ≡ answer game count log before (Told command)
effect_answer game count log before d command table named fits same_game same_count taken stands =
    let hands : List Hand = hands_of game count (command ∷ commands_of before) in
    let fit = fits_here game count log before d command None fits stands in
    let told : IsSome (names_of before) = let some : Option (List (List ℕ)) → Type 0 = λ n. IsSome n in subst some stands.names_are named in
    ap (λ (g : Game). lines_for g table.hands ++ printed d.log (further_lines g table.count d.names table.hands)) (same_game ∙ stands.game_is)
    ∙ ap (λ (n : ℕ). lines_for game table.hands ++ printed d.log (further_lines game n d.names table.hands)) (same_count ∙ stands.count_is)
    ∙ ap (λ (h : List Hand). lines_for game h ++ printed d.log (further_lines game count d.names h)) (hands_stand game count log before d command table.hands taken stands)
    ∙ ap (λ (n : Option (List (List ℕ))). lines_for game hands ++ printed d.log (further_lines game count n hands)) stands.names_are
    ∙ ap (λ (l : Option (List ℕ)). lines_for game hands ++ printed l (further_lines game count (names_of before) hands)) stands.log_is
    ∙ ap (λ z. lines_for game hands ++ z) (sym (told_logged game count log before command told fit))
    ∙ ap (λ z. z ++ logged game count log before (Told command)) (sym (without_reason _ (lines_for game hands) fit))

with_reason : (r : Option Reason) (reason : Reason) (lines : List ℕ) → r ≡ Some reason → elim r [ None ↦ lines | Some why ↦ refusal why ] ≡ refusal reason
with_reason None reason lines e = cc
with_reason (Some why) reason lines e = ap refusal (let same : why ≡ reason = cc in same)

-- the answer to one that doesn't
pub refused_answer : (game : Game) (count : ℕ) (log : Option (List ℕ)) (before : List ScriptLine) (d : Dealing) (command : Command) (reason : Reason) → reason_of d.table.game d.table.count d.table.hands command ≡ Some reason → Stands game count log before d → refusal reason ≡ answer game count log before (Told command)
refused_answer game count log before d command reason refused stands =
    let here = fits_here game count log before d command (Some reason) refused stands in
    sym (with_reason _ reason (lines_for game (hands_of game count (command ∷ commands_of before))) here)
    ∙ sym (append-nil (reply_to game count (commands_of before) command))
    ∙ ap (λ z. reply_to game count (commands_of before) command ++ z) (sym (refused_logged game count log before command reason here))

-- the answer to the line that names the seats
pub names_answer : (game : Game) (count : ℕ) (log : Option (List ℕ)) (before : List ScriptLine) (d : Dealing) (names : List (List ℕ)) → IsNone d.names → 1 ≤ d.table.count → Stands game count log before d → printed_header d.log d.table.count ≡ answer game count log before (Names names)
names_answer game count log before d names first some stands =
    let least : 1 ≤ count = let positive : ℕ → Type 0 = λ n. 1 ≤ n in subst positive stands.count_is some in
    let unnamed : names_of before ≡ None = sym stands.names_are ∙ is_none_of d.names first in
    let none : commands_of before ≡ [] = let fact : Option (List (List ℕ)) → Type 0 = λ n. IfNone n (commands_of before ≡ []) in subst fact unnamed stands.names_first in
    ap (λ (l : Option (List ℕ)). printed_header l d.table.count) stands.log_is ∙ ap (printed_header log) stands.count_is
    ∙ sym (names_logged game count log before names least unnamed none)
  where
    is_none_of : (names : Option (List (List ℕ))) → IsNone names → names ≡ None
    is_none_of None first = refl
    is_none_of (Some told) first = cc

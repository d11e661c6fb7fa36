-- The newest hand by the commands that were applied, and whose act each of them is.
use Rattle.std.proofs.Common.{◌≡◌, ℕ, ◌+◌, ◌-◌, ◌<◌, ◌≤◌, min, Bool, true, false, not, cond, if◌then◌else◌, List, [], ◌∷◌, length, take, get_or, reverse, Option, Some, None, refl, sym, ap, ◌∙◌, subst, arith, add-one}
use Rattle.std.specs.Prelude.{is_none}
use Rattle.std.proofs.Math.Seq.{take-suc}
use Rattle.std.proofs.lemmas.List.{reverse-append}
use Rattle.std.proofs.lemmas.Bool.{not-true}
use Rattle.game_def.specs.Game.{Game}
use Rattle.betting.specs.Betting.{Betting, history}
use Rattle.betting.specs.Rounds.{turns}
use Rattle.betting.specs.Legal.{fault_of}
use Rattle.betting.specs.declared.action.Action.{Action}
use Rattle.betting.specs.declared.action.Action.TheVariants.{Fold}
use Rattle.slot_log.specs.Hand.{Hand}
use Rattle.slot_log.specs.Dealer.{is_finished, is_running, finished_count, is_match_over, act_reason, act_for, reason_of, with_command, hands_after, hands_of}
use Rattle.slot_log.specs.Played.{AreHands}
use Rattle.slot_log.specs.declared.command.Command.{Command}
use Rattle.slot_log.specs.declared.command.Command.TheVariants.{Deal, Act, Away}
use Rattle.slot_log.specs.declared.reason.Reason.{Reason}
use Rattle.slot_log.specs.declared.reason.Reason.TheVariants.{MatchDone}
use Rattle.slot_log.proofs.Away.{by_fault, unless_wrong}
use Rattle.slot_log.proofs.Hands.{count_all, finished_with}
use Rattle.node_service.specs.declared.newest_hand.NewestHand.{NewestHand}
use Rattle.node_service.specs.Acts.{IsBettingOf, IsNewestOf, IsNewestBy}

-- ---- the newest hand

not_false : (b : Bool) → not b ≡ false → b ≡ true
not_false true is = refl
not_false false is = absurd (cc)

pub finished_running : (game : Game) (count : ℕ) (hands : List Hand) → AreHands game count hands → is_running game hands ≡ true → finished_count game hands ≡ length hands - 1
finished_running game count [] are runs = absurd (cc)
finished_running game count (newest ∷ earlier) are runs =
    let is : is_finished game newest ≡ false = not-true (is_finished game newest) runs in
    let here : ◌≡◌ {A = ℕ} (cond (is_finished game newest) 1 0) 0 = rw is refl in
    omega (arith, finished_with game newest earlier, count_all (is_finished game) earlier are.earlier_finished, here)

pub finished_resting : (game : Game) (count : ℕ) (hands : List Hand) → AreHands game count hands → is_running game hands ≡ false → finished_count game hands ≡ length hands
finished_resting game count [] are rests = refl
finished_resting game count (newest ∷ earlier) are rests =
    let is : is_finished game newest ≡ true = not_false (is_finished game newest) rests in
    let here : ◌≡◌ {A = ℕ} (cond (is_finished game newest) 1 0) 1 = rw is refl in
    omega (arith, finished_with game newest earlier, count_all (is_finished game) earlier are.earlier_finished, here)

-- what is done for who is away
pub away_there : (game : Game) (hands : List Hand) (o : Option Betting) (play : Betting) → IsBettingOf game hands o → o ≡ Some play → act_for game hands ≡ unless_wrong (fault_of play.game (history play) Fold)
away_there game [] o play is some = absurd (cc)
away_there game (newest ∷ earlier) o play is some =
    let same : play ≡ record { game = game; past = newest.past } = cc in
    by_fault game (turns game newest.past) ∙ sym (ap (λ (b : Betting). unless_wrong (fault_of b.game (history b) Fold)) same)

-- ---- what becomes of it

pub none_dealt : (game : Game) (count : ℕ) → hands_of game count [] ≡ []
unfolding hands_of
none_dealt game count = refl

one_more : (game : Game) (count : ℕ) (commands : List Command) (command : Command) → hands_of game count (command ∷ commands) ≡ hands_after game count (hands_of game count commands) command
unfolding hands_of
one_more game count commands command = refl

-- by whether there is a reason against a command
after_by : (game : Game) (hands : List Hand) (command : Command) (o : Option Reason)
    → ◌≡◌ {A = List Hand} (elim o [ None ↦ with_command game hands command | Some reason ↦ hands ]) (if is_none o then with_command game hands command else hands)
after_by game hands command None = refl
after_by game hands command (Some reason) = refl

after_so : (game : Game) (count : ℕ) (hands : List Hand) (command : Command) (b : Bool) → is_none (reason_of game count hands command) ≡ b → hands_after game count hands command ≡ (if b then with_command game hands command else hands)
after_so game count hands command b is =
    after_by game hands command (reason_of game count hands command) ∙ ap (λ (t : Bool). if t then with_command game hands command else hands) is

none_more : (game : Game) (count : ℕ) (commands : List Command) (command : Command) → is_none (reason_of game count (hands_of game count commands) command) ≡ false → hands_of game count (command ∷ commands) ≡ hands_of game count commands
none_more game count commands command refused = one_more game count commands command ∙ after_so game count (hands_of game count commands) command false refused

one_with : (game : Game) (count : ℕ) (commands : List Command) (command : Command) → is_none (reason_of game count (hands_of game count commands) command) ≡ true
    → hands_of game count (command ∷ commands) ≡ with_command game (hands_of game count commands) command
one_with game count commands command fits = one_more game count commands command ∙ after_so game count (hands_of game count commands) command true fits

pub untaken : (newest : NewestHand) (commands : List Command) (command : Command) → is_none (reason_of newest.game newest.count (hands_of newest.game newest.count commands) command) ≡ false → IsNewestBy newest commands
    → IsNewestBy newest (command ∷ commands)
untaken newest commands command refused is = subst (λ (hands : List Hand). IsNewestOf newest hands) (sym (none_more newest.game newest.count commands command refused)) is

-- it is that of the hands which a command that fits makes
pub taken : (newest : NewestHand) (game : Game) (count : ℕ) (commands : List Command) (command : Command) → newest.game ≡ game → newest.count ≡ count → is_none (reason_of game count (hands_of game count commands) command) ≡ true
    → IsNewestOf newest (with_command game (hands_of game count commands) command) → IsNewestBy newest (command ∷ commands)
taken newest game count commands command g k fits is =
    subst (λ (hands : List Hand). IsNewestOf newest hands)
    (sym (ap (λ (x : Game). hands_of x newest.count (command ∷ commands)) g ∙ ap (λ (x : ℕ). hands_of game x (command ∷ commands)) k ∙ one_with game count commands command fits)) is

pub dealt_more : (newest : NewestHand) (commands : List Command) (command : Command) (hand : ℕ) (deal : List ℕ) → command ≡ Deal hand deal → newest.count ≤ 10000
    → AreHands newest.game newest.count (hands_of newest.game newest.count commands) → is_none (reason_of newest.game newest.count (hands_of newest.game newest.count commands) command) ≡ true → IsNewestBy newest commands
    → (after : NewestHand) → after ≡ record newest { dealt = min 4294967295 (newest.dealt + 1); play = Some (record { game = newest.game; past = [] }) } → IsNewestBy after (command ∷ commands)
dealt_more newest commands command hand deal is most are fits by after same =
    let hands = hands_of newest.game newest.count commands in
    taken after newest.game newest.count commands command (ap (λ (n : NewestHand). n.game) same) (ap (λ (n : NewestHand). n.count) same) fits
    (subst (λ (c : Command). IsNewestOf after (with_command newest.game hands c)) (sym is) (record {
      dealt = let within = are.within in let here = by.dealt in ap (λ (n : NewestHand). n.dealt) same ∙ omega (arith, within, here, most);
      play = ap (λ (n : NewestHand). n.play) same ∙ ap (λ (g : Game). Some (record { game = g; past = [] })) (sym (ap (λ (n : NewestHand). n.game) same));
    }))

-- a command that plays on fits where its act does
none_so : (o : Option Reason) → is_none o ≡ true → o ≡ None
none_so None is = refl
none_so (Some reason) is = absurd (cc)

act_fits_by : (ended : Bool) (o : Option Reason) → is_none (if ended then Some MatchDone else o) ≡ true → o ≡ None
act_fits_by true o fits = absurd (cc)
act_fits_by false o fits = none_so o fits

pub act_fits : (game : Game) (count : ℕ) (hands : List Hand) (hand index : ℕ) (action : Action) → is_none (reason_of game count hands (Act hand index action)) ≡ true → act_reason game hands hand index action ≡ None
act_fits game count hands hand index action fits = act_fits_by (is_match_over game count hands) (act_reason game hands hand index action) fits

pub away_fits : (game : Game) (count : ℕ) (hands : List Hand) (hand index : ℕ) → is_none (reason_of game count hands (Away hand index)) ≡ true → act_reason game hands hand index (act_for game hands) ≡ None
away_fits game count hands hand index fits = act_fits_by (is_match_over game count hands) (act_reason game hands hand index (act_for game hands)) fits

-- ---- one command after another

pub one_further : (commands : List Command) (place : ℕ) (command : Command) → place < length commands → get_or commands place command ≡ command → reverse (take (place + 1) commands) ≡ command ∷ reverse (take place commands)
one_further commands place command within is =
    rw add-one
    (ap reverse (take-suc commands place command within)
    ∙ reverse-append (take place commands) (get_or commands place command ∷ [])
    ∙ ap (λ (c : Command). c ∷ reverse (take place commands)) is)

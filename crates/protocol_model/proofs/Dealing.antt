-- One list of chosen commands behind all that was shown.
use Rattle.std.proofs.Common.{◌≡◌, ℕ, suc, ◌≤◌, ◌⊎◌, inl, inr, true, Some, List, [], ◌∷◌, length, refl, ap, sym, ◌∙◌, subst, arith}
use Rattle.slot_log.specs.declared.command.Command.{Command}
use Rattle.protocol_model.specs.Sets.{In, IsBeginning}
use Rattle.protocol_model.specs.Messages.{Message, Accept}
use Rattle.protocol_model.specs.Quorums.{IsChosen, AreChosen}
use Rattle.protocol_model.specs.Dealers.{Dealer, AllFit, text_of}
use Rattle.protocol_model.specs.Moves.{Shown}
use Rattle.protocol_model.specs.Worlds.{World, Reached}
use Rattle.protocol_model.specs.Laws.{OneDealer, HasOrigin}
use Rattle.protocol_model.proofs.Choice.{chosen_was_proposed, one_list}
use Rattle.protocol_model.proofs.Facts.{Facts, HasSource}
use Rattle.protocol_model.proofs.Runs.{world_facts}
use Rattle.protocol_model.proofs.Showing.{shown_facts}
use Rattle.protocol_model.proofs.Saying.{was_given}

-- chosen commands fit after those before them
all_fit : (dealer : Dealer) (n : ℕ) (ever : List Message) (commands : List Command) → Facts dealer n ever → AreChosen n ever commands → AllFit dealer commands
all_fit dealer n ever [] facts chosen = tt
all_fit dealer n ever (command ∷ before) facts chosen =
    let here = chosen_was_proposed dealer n ever chosen.0.0 (length before) command facts chosen.0.1 in
    let right = facts.right (Accept chosen.0.0 (length before) command) here in
    let fitting = right.1 in
    let same = one_list dealer n ever fitting.0 before facts fitting.1 chosen.1 (sym fitting.2) in
    (subst (λ xs. dealer.fits xs command ≡ true) same fitting.3, all_fit dealer n ever before facts chosen.1)

-- the beginning of this length
beginning : (n : ℕ) (ever : List Message) (commands : List Command) (k : ℕ) → AreChosen n ever commands → k ≤ length commands
    → (first : List Command) × IsBeginning first commands × AreChosen n ever first × (length first ≡ k)
beginning n ever [] k chosen le = ([], ([], refl), tt, omega arith)
beginning n ever (command ∷ before) k chosen le =
    let cases : (k ≡ suc (length before)) ⊎ (k ≤ length before) = grind arith in
    elim cases [
      | inl e ↦ (command ∷ before, ([], refl), chosen, sym e)
      | inr less ↦ let rest = beginning n ever before k chosen.1 less in
          (rest.0, (command ∷ rest.1.0, ap (λ xs. command ∷ xs) rest.1.1), rest.2, rest.3)
    ]

-- a list of chosen commands that is as long as each of those behind what was shown
longest : (dealer : Dealer) (n : ℕ) (ever : List Message) (shown : List Shown)
    → ((one : Shown) → In one shown → (commands : List Command) × AreChosen n ever commands × (length commands ≡ one.count) × (text_of dealer commands one.reader ≡ Some one.text))
    → (commands : List Command) × AreChosen n ever commands × ((one : Shown) → In one shown → one.count ≤ length commands)
longest dealer n ever [] source = ([], tt, λ one here. absurd here)
longest dealer n ever (latest ∷ before) source =
    let rest = longest dealer n ever before (λ one here. source one (inr here)) in
    let now = source latest (inl refl) in
    let cases : (length now.0 ≤ length rest.0) ⊎ (length rest.0 ≤ length now.0) = grind arith in
    elim cases [
      | inl less ↦ (
        rest.0,
        rest.1,
        λ one here. elim here [
          | inl e ↦ let same = ap (λ (s : Shown). s.count) e in omega (arith, now.2)
          | inr old ↦ rest.2 one old
        ],
      )
      | inr more ↦ (
        now.0,
        now.1,
        λ one here. elim here [
          | inl e ↦ let same = ap (λ (s : Shown). s.count) e in omega (arith, now.2)
          | inr old ↦ let le = rest.2 one old in omega arith
        ],
      )
    ]

pub one_dealer : (dealer : Dealer) (n : ℕ) (world : World) → Reached dealer n world → OneDealer dealer n world
one_dealer dealer n world run =
    let facts = (world_facts dealer n world run).facts in
    let shown = shown_facts dealer n world run in
    let list = longest dealer n world.ever world.shown shown.source in
    record {
      commands = list.0;
      chosen = list.1;
      fitting = all_fit dealer n world.ever list.0 facts list.1;
      shown = λ one here.
          let source = shown.source one here in
          let first = beginning n world.ever list.0 one.count list.1 (list.2 one here) in
          let same = one_list dealer n world.ever source.0 first.0 facts source.1 first.2 (source.2 ∙ sym first.3) in
          (first.0, first.1, first.3, subst (λ xs. text_of dealer xs one.reader ≡ Some one.text) same source.3);
      forward = shown.forward;
    }

has_origin : (dealer : Dealer) (n : ℕ) (world : World) (command : Command) → Reached dealer n world → HasSource dealer n world.ever command
    → HasOrigin dealer n world.ever world.came command
has_origin dealer n world command run (inl own) = inl own
has_origin dealer n world command run (inr source) = inr (was_given dealer n world source.0 command run source.1)

pub chosen_has_origin : (dealer : Dealer) (n : ℕ) (world : World) (slot : ℕ) (command : Command) → Reached dealer n world
    → IsChosen n world.ever slot command → HasOrigin dealer n world.ever world.came command
chosen_has_origin dealer n world slot command run chosen =
    let facts = (world_facts dealer n world run).facts in
    let right = facts.right (Accept chosen.0 slot command) (chosen_was_proposed dealer n world.ever chosen.0 slot command facts chosen.1) in
    has_origin dealer n world command run right.2

-- of two lists of chosen commands the shorter is a beginning of the longer
pub shorter_begins : (dealer : Dealer) (n : ℕ) (world : World) (shorter longer : List Command) → Reached dealer n world
    → AreChosen n world.ever shorter → AreChosen n world.ever longer → length shorter ≤ length longer → IsBeginning shorter longer
shorter_begins dealer n world shorter longer run first second le =
    let facts = (world_facts dealer n world run).facts in
    let found = beginning n world.ever longer (length shorter) second le in
    let same = one_list dealer n world.ever found.0 shorter facts found.2 first found.3 in
    subst (λ xs. IsBeginning xs longer) same found.1

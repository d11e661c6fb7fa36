use Rattle.std.proofs.Common.{◌≡◌, ℕ, ◌-◌, Bool, true, false, not, List, ◌∷◌, ◌++◌, drop, replicate, Option, Some, None, IfSome, refl, ap, ◌∙◌, sym, subst}
use Rattle.std.specs.Borrow.{Bor}
use Rattle.std.proofs.lemmas.List.{take-append-drop}
use Rattle.game_def.specs.Game.{Game}
use Rattle.betting.specs.declared.action.Action.{Action}
use Rattle.betting.specs.Betting.{Betting, history}
use Rattle.betting.specs.Rounds.{current_round, turns}
use Rattle.betting.specs.Legal.{CanAct}
use Rattle.betting.specs.Text.{action_text}
use Rattle.matchstate.proofs.Words.{cut_word, word_reads, text_of_read}
use Rattle.matchstate.proofs.betting_field.read_turn.Goals as goal

ok_after : (ok err : Bool) → ok ≡ not err → err ≡ false → ok ≡ true
ok_after ok err e f = e ∙ ap not f

err_after : (ok err : Bool) → ok ≡ not err → err ≡ true → ok ≡ false
err_after ok err e f = e ∙ ap not f

rounds : {b : Betting} {game : Game} {past : List Action} → b.game ≡ game → b.past ≡ past → current_round b.game (history b) ≡ current_round game (turns game past)
rounds {b} {game} {past} same_game same_past = rw (same_game, same_past) refl

ends : {a b x y : ℕ} → a ≡ x → b ≡ y → a - b ≡ x - y
ends first second = rw (first, second) refl

IfSome-with : {P Q : Bor (List ℕ) → Type 0} (r : Option (Bor (List ℕ))) → IfSome r P → ((x : Bor (List ℕ)) → P x → Q x) → IfSome r Q
IfSome-with None p f = tt
IfSome-with (Some x) p f = f x p

pub returns-in_err-action-clause-only : goal.returns-in_err-action-clause-only
returns-in_err-action-clause-only c =
    λ action behind begins none.
    let play = c.args.play.now in
    let reads = word_reads play.game play.past c.args.bytes.now action behind c.word_len.result c.split_at.result.0.now c.requires.limits begins none c.word_len.ensures.value c.split_at.ensures.front in
    let got = c.read_action.ensures.only action reads in
    let was = c.in_err-action.was in
    cc

pub returns-then-is_err-clause-only : goal.returns-then-is_err-clause-only
returns-then-is_err-clause-only c =
    λ action behind begins none.
    let play = c.args.play.now in
    let reads = word_reads play.game play.past c.args.bytes.now action behind c.word_len.result c.split_at.result.0.now c.requires.limits begins none c.word_len.ensures.value c.split_at.ensures.front in
    let got = c.read_action.ensures.only action reads in
    let was = c.in_ok-action.was in
    let same : action ≡ c.in_ok-action.action = cc in
    let ok = c.act.ensures.allowed.1 (subst (CanAct play.game (turns play.game play.past)) same begins.can) in
    let not_ok = err_after _ _ c.is_err.ensures.negation c.if-is_err.true in
    let clash : true ≡ false = sym ok ∙ not_ok in
    cc

pub returns-clause-found : goal.returns-clause-found
returns-clause-found c =
    let play = c.args.play.now in
    let action = c.in_ok-action.action in
    let ok = ok_after _ _ c.is_err.ensures.negation c.if-is_err.false in
    let can = c.act.ensures.allowed.0 ok in
    let after = rw ok at c.act.ensures.after in
    let new_game = ap (λ (b : Betting). b.game) after in
    let new_past = ap (λ (b : Betting). b.past) after in
    let slashes = ap (λ n. replicate n 47) (c.saturating_sub.ensures ∙ ends (c.round.ensures.value ∙ rounds new_game new_past) c.round-before.ensures.value) in
    let front = sym c.split_at.ensures.front ∙ text_of_read play.game (turns play.game play.past) c.split_at.result.0.now action c.in_ok-action.ensures.found in
    let cut = sym (take-append-drop c.word_len.result c.args.bytes.now) in
    IfSome-with c.after_slashes.result c.after_slashes.ensures.found
    (λ rest stood.
    let back = sym c.split_at.ensures.back ∙ stood ∙ ap (λ s. s ++ rest.now) slashes in (
      action,
      record {
        can = can;
        text_is = cut ∙ ap (λ f. f ++ drop c.word_len.result c.args.bytes.now) front ∙ ap (λ b. action_text play.game action ++ b) back;
      },
      new_past,
    ))

pub returns-clause-only : goal.returns-clause-only
returns-clause-only c =
    λ action behind begins none.
    let play = c.args.play.now in
    let cut = cut_word play.game play.past c.args.bytes.now action behind c.word_len.result c.requires.limits begins none c.word_len.ensures.value in
    let reads = word_reads play.game play.past c.args.bytes.now action behind c.word_len.result c.split_at.result.0.now c.requires.limits begins none c.word_len.ensures.value c.split_at.ensures.front in
    let got = c.read_action.ensures.only action reads in
    let was = c.in_ok-action.was in
    let same : c.in_ok-action.action ≡ action = cc in
    let ok = ok_after _ _ c.is_err.ensures.negation c.if-is_err.false in
    let after = rw ok at c.act.ensures.after in
    let new_game = ap (λ (b : Betting). b.game) after in
    let new_past = ap (λ (b : Betting). b.past) after ∙ ap (λ a. a ∷ play.past) same in
    let slashes = ap (λ n. replicate n 47) (c.saturating_sub.ensures ∙ ends (c.round.ensures.value ∙ rounds new_game new_past) c.round-before.ensures.value) in
    (c.after_slashes.ensures.only behind (c.split_at.ensures.back ∙ cut.1 ∙ ap (λ s. s ++ behind) (sym slashes)), new_past)

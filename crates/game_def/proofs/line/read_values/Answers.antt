use Rattle.std.proofs.Common.{◌≡◌, ◌≤◌, ◌∷◌, ◌∙◌, sym, ap, refl, true, false, length, arith, List, ℕ}
use Rattle.std.proofs.lemmas.Bool.{eqb-true}
use Rattle.std.proofs.lemmas.Result.{err_from_is_err_and}
use Rattle.game_def.specs.Key.{allows}
use Rattle.game_def.specs.Text.{words}
use Rattle.game_def.specs.Reading.{numbers, values}
use Rattle.game_def.proofs.Counting.{resumed, starts, goes_full, goes_on, stops, ended, fit_more}
use Rattle.game_def.proofs.line.read_values.Goals as goal

pub loop-word-init : goal.loop-word-init
loop-word-init c = rw c.new-found.ensures (record { whole = starts c.args.key (words c.args.text.now); fitting = refl })

pub returns-in_err-number-clause-value : goal.returns-in_err-number-clause-value
returns-in_err-number-clause-value c =
    let p = err_from_is_err_and c.from_residual.result c.from_residual.ensures.1 in
    let cut : words c.loop-word.rest.now ≡ c.in-Some.word.now ∷ words c.in-Some.after.now = c.in-Some.ensures in
    let whole = c.loop-word.invariant.whole in
    rw (p.1, p.2) (sym whole ∙ rw cut (stops c.args.key c.loop-word.found.items c.loop-word.too_many c.in-Some.word.now c.in_err-number.field-0.0 (words c.in-Some.after.now) (sym c.in_err-number.ensures)))

pub loop-word-preserved-then-is_full : goal.loop-word-preserved-then-is_full
loop-word-preserved-then-is_full c =
    let cut : words c.loop-word.rest.now ≡ c.in-Some.word.now ∷ words c.in-Some.after.now = c.in-Some.ensures in
    let full : 10 ≤ length c.loop-word.found.items = let e = eqb-true _ _ (sym c.is_full.ensures.value ∙ c.if-is_full.true) in omega arith in
    record {
      whole = sym (goes_full c.args.key c.loop-word.found.items c.loop-word.too_many c.in-Some.word.now c.in_ok-number.number (words c.in-Some.after.now) (sym c.in_ok-number.ensures) full)
          ∙ ap (λ (texts : List (List ℕ)). resumed c.args.key c.loop-word.found.items c.loop-word.too_many (numbers c.args.key texts)) (sym cut) ∙ c.loop-word.invariant.whole;
      fitting = c.loop-word.invariant.fitting;
    }

pub loop-word-preserved : goal.loop-word-preserved
loop-word-preserved c =
    let cut : words c.loop-word.rest.now ≡ c.in-Some.word.now ∷ words c.in-Some.after.now = c.in-Some.ensures in
    rw c.push.ensures.items (record {
      whole = sym (goes_on c.args.key c.loop-word.found.items c.loop-word.too_many c.in-Some.word.now c.in_ok-number.number (words c.in-Some.after.now) (sym c.in_ok-number.ensures))
          ∙ ap (λ (texts : List (List ℕ)). resumed c.args.key c.loop-word.found.items c.loop-word.too_many (numbers c.args.key texts)) (sym cut) ∙ c.loop-word.invariant.whole;
      fitting = fit_more c.args.key c.loop-word.found.items c.in-Some.word.now c.in_ok-number.number c.loop-word.invariant.fitting (sym c.in_ok-number.ensures);
    })

pub returns-then-too_many-clause-value : goal.returns-then-too_many-clause-value
returns-then-too_many-clause-value c =
    ended c.args.key c.loop-word.found.items c.loop-word.too_many (words c.loop-word.rest.now) (values c.args.key (words c.args.text.now)) c.in_default.ensures c.loop-word.invariant.whole
    ∙ rw c.if-too_many.true refl

pub returns-then-not-allows-clause-value : goal.returns-then-not-allows-clause-value
returns-then-not-allows-clause-value c =
    let refused : allows c.args.key (length c.loop-word.found.items) ≡ false = ap (allows c.args.key) (sym c.len.ensures.value) ∙ sym c.allows.ensures ∙ c.if-not-allows.true in
    ended c.args.key c.loop-word.found.items c.loop-word.too_many (words c.loop-word.rest.now) (values c.args.key (words c.args.text.now)) c.in_default.ensures c.loop-word.invariant.whole
    ∙ rw (c.if-too_many.false, refused) refl

pub returns-clause-value : goal.returns-clause-value
returns-clause-value c =
    let taken : allows c.args.key (length c.loop-word.found.items) ≡ true = ap (allows c.args.key) (sym c.len.ensures.value) ∙ sym c.allows.ensures ∙ c.if-not-allows.false in
    ended c.args.key c.loop-word.found.items c.loop-word.too_many (words c.loop-word.rest.now) (values c.args.key (words c.args.text.now)) c.in_default.ensures c.loop-word.invariant.whole
    ∙ rw (c.if-too_many.false, taken) refl

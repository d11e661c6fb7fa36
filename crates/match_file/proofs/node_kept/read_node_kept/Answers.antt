use Rattle.std.proofs.Common.{List, ℕ, [], length, decimal, refl, ap, ◌∙◌, Some}
use Rattle.std.specs.Prelude.{◌==◌}
use Rattle.std.proofs.lemmas.Bool.{false≢true}
use Rattle.std.proofs.lemmas.Option.{same_Some}
use Rattle.match_log.proofs.Free.{decimal_text_free}
use Rattle.match_file.proofs.NodeLines.{node_on, life_on, decks_on, node_same}
use Rattle.match_file.proofs.node_kept.read_node_kept.Goals as goal

pub returns-in_err-text-clause-only : goal.returns-in_err-text-clause-only
returns-in_err-text-clause-only c = λ kept within is. absurd (c.in_err-text.ensures.only (node_on kept) is)

pub returns-in_err-number-clause-only : goal.returns-in_err-number-clause-only
returns-in_err-number-clause-only c =
    λ kept within is.
    let text = c.in_ok-text.ensures.only (node_on kept) is in
    absurd (c.in_err-number.ensures.only (decimal kept.node) (life_on kept) (decimal_text_free 10 refl kept.node) text)

pub returns-in_err-node-clause-only : goal.returns-in_err-node-clause-only
returns-in_err-node-clause-only c =
    λ kept within is.
    let text = c.in_ok-text.ensures.only (node_on kept) is in
    let number = c.in_ok-number.ensures.only (decimal kept.node) (life_on kept) (decimal_text_free 10 refl kept.node) text in
    let read = c.in_err-node.ensures.only kept.node within.node number.0 in
    absurd (let e = read in cc)

pub returns-in_err-life-clause-only : goal.returns-in_err-life-clause-only
returns-in_err-life-clause-only c =
    λ kept within is.
    let text = c.in_ok-text.ensures.only (node_on kept) is in
    let number = c.in_ok-number.ensures.only (decimal kept.node) (life_on kept) (decimal_text_free 10 refl kept.node) text in
    absurd (c.in_err-life.ensures.only kept.life (decks_on kept) within.life_bytes within.life_length number.1)

pub returns-in_err-decks-clause-only : goal.returns-in_err-decks-clause-only
returns-in_err-decks-clause-only c =
    λ kept within is.
    let text = c.in_ok-text.ensures.only (node_on kept) is in
    let number = c.in_ok-number.ensures.only (decimal kept.node) (life_on kept) (decimal_text_free 10 refl kept.node) text in
    let life = c.in_ok-life.ensures.only kept.life (decks_on kept) within.life_bytes within.life_length number.1 in
    absurd (c.in_err-decks.ensures.only kept.decks [] within.decks_bytes within.decks_length life.1)

pub returns-then-is_empty-clause-only : goal.returns-then-is_empty-clause-only
returns-then-is_empty-clause-only c =
    λ kept within is.
    let text = c.in_ok-text.ensures.only (node_on kept) is in
    let number = c.in_ok-number.ensures.only (decimal kept.node) (life_on kept) (decimal_text_free 10 refl kept.node) text in
    let life = c.in_ok-life.ensures.only kept.life (decks_on kept) within.life_bytes within.life_length number.1 in
    let decks = c.in_ok-decks.ensures.only kept.decks [] within.decks_bytes within.decks_length life.1 in
    ap Some (node_same _ kept (same_Some _ _ (c.in_ok-node.ensures.only kept.node within.node number.0)) life.0 decks.0)

pub returns-else-is_empty-clause-only : goal.returns-else-is_empty-clause-only
returns-else-is_empty-clause-only c =
    λ kept within is.
    let text = c.in_ok-text.ensures.only (node_on kept) is in
    let number = c.in_ok-number.ensures.only (decimal kept.node) (life_on kept) (decimal_text_free 10 refl kept.node) text in
    let life = c.in_ok-life.ensures.only kept.life (decks_on kept) within.life_bytes within.life_length number.1 in
    let decks = c.in_ok-decks.ensures.only kept.decks [] within.decks_bytes within.decks_length life.1 in
    absurd (false≢true (c.if-is_empty.ensures ∙ ap (λ (t : List ℕ). length t == 0) decks.1))

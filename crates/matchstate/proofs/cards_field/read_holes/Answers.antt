use Rattle.std.proofs.Common.{◌≡◌, ℕ, ◌+◌, ◌<◌, ◌≤◌, [], ◌∷◌, ◌++◌, cond, map, ap, sym, ◌∙◌, arith, length, take, drop, get_or, length-set}
use Rattle.std.specs.List.{join_by}
use Rattle.std.proofs.lemmas.List.{drop_all, take_all}
use Rattle.std.proofs.lemmas.List.Prefix.{end_rest}
use Rattle.matchstate.specs.Cards.{cards_text}
use Rattle.matchstate.specs.SeenCards.{hole_in, seen_at}
use Rattle.matchstate.proofs.Joined.{joined, joined_is, hole_next, All-hole, count_of_holes, count_of_hole, text_more, counts_more, pack_more, same_more}
use Rattle.matchstate.proofs.Missing.{missing}
use Rattle.matchstate.proofs.cards_field.read_holes.Goals as goal

pub returns-in_err-text-clause-only : goal.returns-in_err-text-clause-only
returns-in_err-text-clause-only c =
    λ holes behind counts all is.
    let stands = c.loop-position.invariant.5 holes behind counts all (is ∙ ap (λ t. t ++ behind) (sym (joined_is holes))) in
    let next = hole_next _ _ holes counts c.loop-position.position c.loop-position.rest.now behind c.loop-position-test.true stands.0 in
    absurd (missing _ c.in_err-text.was (c.after_separator.ensures.only _ next))

pub returns-in_err-hole-clause-only : goal.returns-in_err-hole-clause-only
returns-in_err-hole-clause-only c =
    λ holes behind counts all is.
    let p = c.loop-position.position in
    let stands = c.loop-position.invariant.5 holes behind counts all (is ∙ ap (λ t. t ++ behind) (sym (joined_is holes))) in
    let text = c.in_ok-text.ensures.only _ (hole_next _ _ holes counts p c.loop-position.rest.now behind c.loop-position-test.true stands.0) in
    let found = c.read_hole.ensures.only (get_or holes p []) (joined (p + 1) (drop (p + 1) holes) ++ behind) (count_of_hole _ _ holes counts p c.loop-position-test.true) (All-hole (λ card. card < 52) holes p all) text in
    absurd (missing _ c.in_err-hole.was found)

pub loop-position-preserved : goal.loop-position-preserved
loop-position-preserved c =
    let p = c.loop-position.position in
    let kept = c.loop-position.holes in
    let hole = c.in_ok-hole.hole in
    let want : ℕ → ℕ = λ q. cond (seen_at c.args.sees.now q) 2 0 in
    let inv = c.loop-position.invariant in
    let told = c.in_ok-hole.ensures in
    let ten : length kept ≡ 10 = inv.0 in
    let test : p < c.args.players = c.loop-position-test.true in
    let few = c.requires in
    let below : p < length kept = omega arith in
    let moved = c.split_at.ensures.back ∙ ap (λ n. drop n c.in_ok-text.text.now) c.hole_len.ensures in
    let cards = told.found ∙ ap (λ r. cards_text (hole_in hole) ++ r) (sym moved) in (
      length-set kept p hole ∙ ten,
      omega arith,
      text_more kept p hole below c.args.bytes.now c.loop-position.rest.now c.in_ok-text.text.now c.split_at.result.1.now inv.2 c.in_ok-text.ensures.found cards,
      counts_more kept p hole below want inv.3 told.count,
      pack_more kept p hole below inv.4 told.pack,
      λ holes behind counts all is.
          let stands = inv.5 holes behind counts all is in
          let players = count_of_holes want c.args.players holes counts in
          let within : p < length holes = omega arith in
          let text = c.in_ok-text.ensures.only _ (hole_next want c.args.players holes counts p c.loop-position.rest.now behind test stands.0) in
          let found = told.only (get_or holes p []) (joined (p + 1) (drop (p + 1) holes) ++ behind) (count_of_hole want c.args.players holes counts p test) (All-hole (λ card. card < 52) holes p all) text in
          (moved ∙ found.1, same_more kept p hole below holes within stands.1 found.0),
    )

pub returns-clause-found : goal.returns-clause-found
returns-clause-found c =
    let inv = c.loop-position.invariant in
    let p = c.loop-position.position in
    let low : p ≤ c.args.players = inv.1 in
    let high : c.args.players ≤ p = c.loop-position-test.false in
    let at : p ≡ c.args.players = omega arith in
    let kept = c.loop-position.holes in
    let front = map hole_in (take c.args.players kept) in
    let whole = inv.2 ∙ ap (λ n. joined 0 (map hole_in (take n kept)) ++ c.loop-position.rest.now) at in
    let rest = end_rest c.args.bytes.now c.loop-position.rest.now (joined 0 front) whole in
    whole ∙ ap (λ t. t ++ c.loop-position.rest.now) (joined_is front) ∙ ap (λ r. join_by cards_text (124 ∷ []) front ++ r) (sym rest)

pub returns-clause-only : goal.returns-clause-only
returns-clause-only c =
    λ holes behind counts all is.
    let inv = c.loop-position.invariant in
    let p = c.loop-position.position in
    let want : ℕ → ℕ = λ q. cond (seen_at c.args.sees.now q) 2 0 in
    let low : p ≤ c.args.players = inv.1 in
    let high : c.args.players ≤ p = c.loop-position-test.false in
    let at : p ≡ c.args.players = omega arith in
    let kept = c.loop-position.holes in
    let stands = inv.5 holes behind counts all (is ∙ ap (λ t. t ++ behind) (sym (joined_is holes))) in
    let players = count_of_holes want c.args.players holes counts in
    let none = drop_all p holes (omega arith) in
    let rest_is = stands.0 ∙ ap (λ hs. joined p hs ++ behind) none in
    let rest = end_rest c.args.bytes.now c.loop-position.rest.now (joined 0 (map hole_in (take p kept))) inv.2 in
    (ap (λ n. map hole_in (take n kept)) (sym at) ∙ stands.1 ∙ take_all p holes (omega arith), rest ∙ rest_is)

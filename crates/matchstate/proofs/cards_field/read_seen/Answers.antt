use Rattle.std.proofs.Common.{◌≡◌, [], ◌∷◌, ◌++◌, map, ap, sym, ◌∙◌, arith, length, take, drop}
use Rattle.std.specs.List.{join_by}
use Rattle.std.specs.Option.{option_to_list}
use Rattle.std.proofs.lemmas.List.{drop_all, length-drop}
use Rattle.matchstate.specs.Cards.{cards_text}
use Rattle.matchstate.specs.SeenCards.{hole_in, seen_at}
use Rattle.matchstate.proofs.Parts.{streets_text, parts_of, field_joined, counted_joined}
use Rattle.matchstate.proofs.Missing.{missing}
use Rattle.matchstate.proofs.cards_field.read_seen.Goals as goal

pub returns-in_err-flop-clause-only : goal.returns-in_err-flop-clause-only
returns-in_err-flop-clause-only c =
    λ holes boards counted is.
    let parts = parts_of c.args.players (seen_at c.args.sees.now) c.args.rounds holes boards c.args.bytes.now c.requires.rounds counted is in
    let s = parts.split in
    let first = c.in_ok-holes.ensures.only holes (streets_text s.flop ++ (streets_text s.turn ++ (streets_text s.river ++ []))) counted.hole_counts parts.holes_pack parts.text_is in
    let board = c.split_at.ensures.back ∙ first.1 in
    absurd (missing _ c.in_err-flop.was (c.read_street.ensures.only s.flop (streets_text s.turn ++ (streets_text s.river ++ [])) s.flop_count parts.flop_pack board))

pub returns-in_err-turn-clause-only : goal.returns-in_err-turn-clause-only
returns-in_err-turn-clause-only c =
    λ holes boards counted is.
    let parts = parts_of c.args.players (seen_at c.args.sees.now) c.args.rounds holes boards c.args.bytes.now c.requires.rounds counted is in
    let s = parts.split in
    let first = c.in_ok-holes.ensures.only holes (streets_text s.flop ++ (streets_text s.turn ++ (streets_text s.river ++ []))) counted.hole_counts parts.holes_pack parts.text_is in
    let flop = c.in_ok-flop.ensures.only s.flop (streets_text s.turn ++ (streets_text s.river ++ [])) s.flop_count parts.flop_pack (c.split_at.ensures.back ∙ first.1) in
    let later = c.split_at-2.ensures.back ∙ flop.1 in
    absurd (missing _ c.in_err-turn.was (c.read_street-2.ensures.only s.turn (streets_text s.river ++ []) s.turn_count parts.turn_pack later))

pub returns-in_err-river-clause-only : goal.returns-in_err-river-clause-only
returns-in_err-river-clause-only c =
    λ holes boards counted is.
    let parts = parts_of c.args.players (seen_at c.args.sees.now) c.args.rounds holes boards c.args.bytes.now c.requires.rounds counted is in
    let s = parts.split in
    let first = c.in_ok-holes.ensures.only holes (streets_text s.flop ++ (streets_text s.turn ++ (streets_text s.river ++ []))) counted.hole_counts parts.holes_pack parts.text_is in
    let flop = c.in_ok-flop.ensures.only s.flop (streets_text s.turn ++ (streets_text s.river ++ [])) s.flop_count parts.flop_pack (c.split_at.ensures.back ∙ first.1) in
    let turn = c.in_ok-turn.ensures.only s.turn (streets_text s.river ++ []) s.turn_count parts.turn_pack (c.split_at-2.ensures.back ∙ flop.1) in
    let last = c.split_at-3.ensures.back ∙ turn.1 in
    absurd (missing _ c.in_err-river.was (c.read_street-3.ensures.only s.river [] s.river_count parts.river_pack last))

pub returns-then-len-last-clause-only : goal.returns-then-len-last-clause-only
returns-then-len-last-clause-only c =
    λ holes boards counted is.
    let parts = parts_of c.args.players (seen_at c.args.sees.now) c.args.rounds holes boards c.args.bytes.now c.requires.rounds counted is in
    let s = parts.split in
    let first = c.in_ok-holes.ensures.only holes (streets_text s.flop ++ (streets_text s.turn ++ (streets_text s.river ++ []))) counted.hole_counts parts.holes_pack parts.text_is in
    let flop = c.in_ok-flop.ensures.only s.flop (streets_text s.turn ++ (streets_text s.river ++ [])) s.flop_count parts.flop_pack (c.split_at.ensures.back ∙ first.1) in
    let turn = c.in_ok-turn.ensures.only s.turn (streets_text s.river ++ []) s.turn_count parts.turn_pack (c.split_at-2.ensures.back ∙ flop.1) in
    let river = c.in_ok-river.ensures.only s.river [] s.river_count parts.river_pack (c.split_at-3.ensures.back ∙ turn.1) in
    let none = ap length river.1 in
    let longer = c.if-len-last.true in
    omega (arith, length-drop c.in_ok-river.len c.split_at-3.result.1.now)

pub returns-clause-found : goal.returns-clause-found
returns-clause-found c =
    let low = c.in_ok-river.ensures.within in
    let high = c.if-len-last.false in
    let none : drop c.in_ok-river.len c.split_at-3.result.1.now ≡ [] = drop_all c.in_ok-river.len c.split_at-3.result.1.now high in
    let river = sym c.split_at-3.ensures.back ∙ c.in_ok-river.ensures.found ∙ ap (λ r. streets_text (option_to_list c.in_ok-river.river) ++ r) none in
    let turn = sym c.split_at-2.ensures.back ∙ c.in_ok-turn.ensures.found ∙ ap (λ r. streets_text (option_to_list c.in_ok-turn.turn) ++ r) river in
    let flop = sym c.split_at.ensures.back ∙ c.in_ok-flop.ensures.found ∙ ap (λ r. streets_text (option_to_list c.in_ok-flop.flop) ++ r) turn in
    let holes = map hole_in (take c.args.players c.in_ok-holes.holes) in
    c.in_ok-holes.ensures.found ∙ ap (λ r. join_by cards_text (124 ∷ []) holes ++ r) flop
    ∙ field_joined holes (option_to_list c.in_ok-flop.flop) (option_to_list c.in_ok-turn.turn) (option_to_list c.in_ok-river.river)

pub returns-clause-counted : goal.returns-clause-counted
returns-clause-counted c =
    counted_joined c.args.players (seen_at c.args.sees.now) c.args.rounds (map hole_in (take c.args.players c.in_ok-holes.holes)) (option_to_list c.in_ok-flop.flop) (option_to_list c.in_ok-turn.turn) (option_to_list c.in_ok-river.river)
    c.requires.rounds c.in_ok-holes.ensures.counts c.in_ok-flop.ensures.counts c.in_ok-turn.ensures.counts c.in_ok-river.ensures.counts
    c.in_ok-holes.ensures.pack c.in_ok-flop.ensures.pack c.in_ok-turn.ensures.pack c.in_ok-river.ensures.pack

pub returns-clause-only : goal.returns-clause-only
returns-clause-only c =
    λ holes boards counted is.
    let parts = parts_of c.args.players (seen_at c.args.sees.now) c.args.rounds holes boards c.args.bytes.now c.requires.rounds counted is in
    let s = parts.split in
    let first = c.in_ok-holes.ensures.only holes (streets_text s.flop ++ (streets_text s.turn ++ (streets_text s.river ++ []))) counted.hole_counts parts.holes_pack parts.text_is in
    let flop = c.in_ok-flop.ensures.only s.flop (streets_text s.turn ++ (streets_text s.river ++ [])) s.flop_count parts.flop_pack (c.split_at.ensures.back ∙ first.1) in
    let turn = c.in_ok-turn.ensures.only s.turn (streets_text s.river ++ []) s.turn_count parts.turn_pack (c.split_at-2.ensures.back ∙ flop.1) in
    let river = c.in_ok-river.ensures.only s.river [] s.river_count parts.river_pack (c.split_at-3.ensures.back ∙ turn.1) in (
      first.0,
      ap (λ f. f ++ (option_to_list c.in_ok-turn.turn ++ option_to_list c.in_ok-river.river)) flop.0
          ∙ ap (λ t. s.flop ++ (t ++ option_to_list c.in_ok-river.river)) turn.0 ∙ ap (λ r. s.flop ++ (s.turn ++ r)) river.0 ∙ sym s.is,
    )

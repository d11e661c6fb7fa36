use Rattle.std.proofs.Common.{◌≡◌, ℕ, ◌<◌, List, ◌∷◌, ◌++◌, length, Bool, true, false, eqb, Some, ap, ◌∙◌, sym, subst, arith}
use Rattle.std.proofs.lemmas.Bool.Decides.{nat_tests}
use Rattle.game_def.specs.Game.{Game}
use Rattle.betting.specs.declared.action.Action.{Action}
use Rattle.betting.specs.Betting.{Betting}
use Rattle.betting.specs.Legal.{Legal}
use Rattle.betting.specs.Text.{text}
use Rattle.matchstate.specs.Reading.{BeginsWith}
use Rattle.matchstate.proofs.Texts.{text_none}
use Rattle.matchstate.proofs.Behind.{Behind, behind_all, next_behind, behind_none, text_with}
use Rattle.matchstate.proofs.Missing.{missing}
use Rattle.matchstate.proofs.betting_field.read_betting.Goals as goal

pub loop-rest-init : goal.loop-rest-init
loop-rest-init c =
    let new = c.new-play.ensures in
    let none = ap (λ (b : Betting). b.past) new in
    let game = c.args.game.now in
    let bytes = c.args.bytes.now in (
      ap (λ (b : Betting). b.game) new,
      subst (Legal game) (sym none) tt,
      subst (λ past. bytes ≡ text game past ++ bytes) (sym none) (ap (λ t. t ++ bytes) (sym (text_none game))),
      λ whole legal is. subst (λ past. Behind game past bytes whole) (sym none) (behind_all game whole bytes is),
    )

-- an empty text has no byte, any other has one
some_left : (n : ℕ) (empty : Bool) → empty ≡ eqb n 0 → empty ≡ false → 0 < n
some_left n empty told is = let test : eqb n 0 ≡ false = sym told ∙ is in grind (arith, nat_tests)

none_left : (n : ℕ) (empty : Bool) → empty ≡ eqb n 0 → empty ≡ true → n ≡ 0
none_left n empty told is = let test : eqb n 0 ≡ true = sym told ∙ is in grind (arith, nat_tests)

pub returns-in_err-rest-clause-only : goal.returns-in_err-rest-clause-only
returns-in_err-rest-clause-only c =
    λ whole legal is.
    let inv = c.loop-rest.invariant in
    let play = c.loop-rest.play in
    let some = some_left (length c.loop-rest.rest.now) c.is_empty.result c.is_empty.ensures c.loop-rest-test.true in
    let next = next_behind c.args.game.now play.past c.loop-rest.rest.now whole (inv.3 whole legal is) legal some in
    let same : play.game ≡ c.args.game.now = inv.0 in
    let begins = subst (λ (g : Game). BeginsWith g play.past c.loop-rest.rest.now next.action next.behind) (sym same) next.begins in
    absurd (missing _ c.in_err-rest.was (c.read_turn.ensures.only next.action next.behind begins next.no_digit).0)

pub loop-rest-preserved : goal.loop-rest-preserved
loop-rest-preserved c =
    let inv = c.loop-rest.invariant in
    let play = c.loop-rest.play in
    let game = c.args.game.now in
    let same : play.game ≡ game = inv.0 in
    let found = c.in_ok-rest.ensures.found in
    let begins : BeginsWith game play.past c.loop-rest.rest.now found.0 c.in_ok-rest.rest.now =
    subst (λ (g : Game). BeginsWith g play.past c.loop-rest.rest.now found.0 c.in_ok-rest.rest.now) same found.1 in
    let new_past : c.read_turn.new.play.past ≡ found.0 ∷ play.past = found.2 in (
      c.in_ok-rest.ensures.game ∙ same,
      subst (Legal game) (sym new_past) (inv.1, begins.can),
      subst (λ past. c.args.bytes.now ≡ text game past ++ c.in_ok-rest.rest.now) (sym new_past)
          (text_with game play.past c.args.bytes.now c.loop-rest.rest.now found.0 c.in_ok-rest.rest.now inv.2 begins.text_is),
      λ whole legal is.
          let some = some_left (length c.loop-rest.rest.now) c.is_empty.result c.is_empty.ensures c.loop-rest-test.true in
          let next = next_behind game play.past c.loop-rest.rest.now whole (inv.3 whole legal is) legal some in
          let next_begins = subst (λ (g : Game). BeginsWith g play.past c.loop-rest.rest.now next.action next.behind) (sym same) next.begins in
          let only = c.in_ok-rest.ensures.only next.action next.behind next_begins next.no_digit in
          subst (λ past. Behind game past c.in_ok-rest.rest.now whole) (sym only.1)
          (subst (λ rest. Behind game (next.action ∷ play.past) rest whole) (sym only.0) next.others),
    )

pub returns-clause-only : goal.returns-clause-only
returns-clause-only c =
    λ whole legal is.
    let inv = c.loop-rest.invariant in
    let play = c.loop-rest.play in
    let none = none_left (length c.loop-rest.rest.now) c.is_empty.result c.is_empty.ensures c.loop-rest-test.false in
    let same_game : play.game ≡ c.args.game.now = inv.0 in
    let same_past : play.past ≡ whole = behind_none c.args.game.now play.past c.loop-rest.rest.now whole (inv.3 whole legal is) none in
    ap Some (ap (λ (g : Game). let b : Betting = record { game = g; past = play.past } in b) same_game ∙ ap (λ (past : List Action). let b : Betting = record { game = c.args.game.now; past = past } in b) same_past)

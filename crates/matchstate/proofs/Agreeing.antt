-- Lines of beginnings of one list of commands agree.
use Rattle.std.proofs.Common.{◌≡◌, ℕ, zero, suc, Bool, true, false, cond, List, [], ◌∷◌, ◌++◌, map, reverse, length, take, drop, get_or, Option, Some, None, refl, sym, ap, ◌∙◌, subst, arith, ◌⊎◌, inl, inr, append_assoc}
use Rattle.std.specs.List.{slice_get, concat, range_with_len}
use Rattle.std.specs.Option.{option_map}
use Rattle.std.proofs.Output.{concat-append}
use Rattle.std.proofs.lemmas.Bool.{cases_lt}
use Rattle.std.proofs.lemmas.Bool.Decides.{eqb_tells}
use Rattle.std.proofs.lemmas.List.{get_or_past, take-append-drop}
use Rattle.std.proofs.lemmas.List.FromFn.{get_or-map-range_with_len, length-map-range_with_len}
use Rattle.game_def.specs.Game.{Game}
use Rattle.betting.specs.declared.action.Action.{Action}
use Rattle.betting.specs.Laws.{BettingTextsExtend}
use Rattle.betting.specs.Text.{text}
use Rattle.card_core.specs.Deal.{hole_of}
use Rattle.slot_log.specs.Hand.{Hand}
use Rattle.slot_log.specs.Dealer.{act_for, hands_of, hands_after, with_command, with_action, with_deal, reason_of, hand_at}
use Rattle.slot_log.specs.declared.reason.Reason.{Reason}
use Rattle.slot_log.specs.declared.command.Command.{Command}
use Rattle.slot_log.specs.declared.command.Command.TheVariants.{Deal, Act, Away}
use Rattle.slot_log.proofs.Hands.{got_before, reverse-cons}
use Rattle.matchstate.specs.Cards.{boards_of}
use Rattle.matchstate.specs.View.{View, view_of, sees, rounds_seen, position_of, seat_view}
use Rattle.matchstate.specs.Line.{line_text}
use Rattle.matchstate.specs.Laws.{IsBeginning, IsTextBeginning, Place, hole, board, card_at, shown_at, AgreeOnHand, Agree, LinesAgree}
use Rattle.matchstate.proofs.Seats.{newest_at}

-- ---- a view shows the deal's cards

shown_hole : (f : ℕ → Bool) (cards : ℕ → List ℕ) (players position i card : ℕ) → slice_get (get_or (map (λ p. cond (f p) (cards p) []) (range_with_len 0 players)) position []) i ≡ Some card → slice_get (cards position) i ≡ Some card
shown_hole f cards players position i card shown =
    elim (cases_lt position players) [
      | inl below ↦
          let at = get_or-map-range_with_len (λ p. cond (f p) (cards p) []) 0 players position position [] below (omega arith) in
          by_test (f position) (ap (λ h. slice_get h i) (sym at) ∙ shown)
      | inr past ↦
          let none = get_or_past (map (λ p. cond (f p) (cards p) []) (range_with_len 0 players)) position [] (omega (arith, length-map-range_with_len (λ p. cond (f p) (cards p) []) 0 players)) in
          let empty : slice_get [] i ≡ Some card = ap (λ h. slice_get h i) (sym none) ∙ shown in
          cc
    ]
  where
    by_test : (b : Bool) → slice_get (cond b (cards position) []) i ≡ Some card → slice_get (cards position) i ≡ Some card
    by_test true e = e
    by_test false e = cc

shown_is : (game : Game) (viewer number : ℕ) (h : Hand) (place : Place) (card : ℕ) → shown_at (view_of game viewer number h) place ≡ Some card → card_at h.deal place ≡ Some card
shown_is game viewer number h (hole position i) card shown = shown_hole (sees game h.past viewer) (hole_of h.deal) game.players position i card shown
shown_is game viewer number h (board i) card shown =
    let rounds = rounds_seen game h.past in
    let parts = concat-append (take rounds (boards_of h.deal)) (drop rounds (boards_of h.deal)) in
    let whole = ap concat (take-append-drop rounds (boards_of h.deal)) in
    ap (λ b. slice_get b i) (sym whole ∙ parts) ∙ got_before (concat (take rounds (boards_of h.deal))) (concat (drop rounds (boards_of h.deal))) i card shown

-- ---- hands only grow

-- each hand stays, with the same deal and perhaps more actions
Kept : List Hand → List Hand → Type 0
Kept earlier later =
    (number : ℕ) (h : Hand) → hand_at earlier number ≡ Some h → (k : Hand) × (hand_at later number ≡ Some k) × (k.deal ≡ h.deal) × IsBeginning h.past k.past

Kept-same : (hands : List Hand) → Kept hands hands
unfolding Kept
Kept-same hands number h at = (h, at, refl, ([], refl))

Kept-then : (a b c : List Hand) → Kept a b → Kept b c → Kept a c
unfolding Kept
Kept-then a b c first second number h at =
    let one = first number h at in
    let two = second number one.0 one.1 in
    (two.0, two.1, two.2 ∙ one.2, (two.3.0 ++ one.3.0, two.3.1 ∙ ap (λ p. two.3.0 ++ p) one.3.1 ∙ sym (append_assoc two.3.0 one.3.0 h.past)))

replaced : (xs : List Hand) (y z : Hand) (number : ℕ) (h : Hand) → slice_get (xs ++ y ∷ []) number ≡ Some h → (slice_get (xs ++ z ∷ []) number ≡ Some h) ⊎ ((h ≡ y) × (slice_get (xs ++ z ∷ []) number ≡ Some z))
replaced [] y z zero h at = inr (cc, refl)
replaced [] y z (suc number) h at = cc
replaced (x ∷ xs) y z zero h at = inl at
replaced (x ∷ xs) y z (suc number) h at = replaced xs y z number h at

Kept-deal : (hands : List Hand) (deal : List ℕ) → Kept hands (with_deal hands deal)
unfolding Kept
Kept-deal hands deal number h at =
    let new : Hand = record { deal = deal; past = [] } in
    (h, ap (λ hs. slice_get hs number) (reverse-cons new hands) ∙ got_before (reverse hands) (new ∷ []) number h at, refl, ([], refl))

Kept-action : (hands : List Hand) (action : Action) → Kept hands (with_action hands action)
unfolding Kept
Kept-action [] action number h at = (h, at, refl, ([], refl))
Kept-action (newest ∷ earlier) action number h at =
    let new : Hand = record newest { past = action ∷ newest.past } in
    let there = ap (λ hs. slice_get hs number) (sym (reverse-cons newest earlier)) ∙ at in
    let back = ap (λ hs. slice_get hs number) (reverse-cons new earlier) in
    elim (replaced (reverse earlier) newest new number h there) [
      | inl same ↦ (h, back ∙ same, refl, ([], refl))
      | inr last ↦ (new, back ∙ last.1, sym (ap (λ (k : Hand). k.deal) last.0), (action ∷ [], ap (λ past. action ∷ past) (sym (ap (λ (k : Hand). k.past) last.0))))
    ]

Kept-after : (game : Game) (count : ℕ) (hands : List Hand) (command : Command) → Kept hands (hands_after game count hands command)
Kept-after game count hands command = by_reason command (reason_of game count hands command)
  where
    by_reason : (c : Command) (reason : Option Reason) → Kept hands (elim reason as (λ _. List Hand) [ None ↦ with_command game hands c | Some why ↦ hands ])
    by_reason (Deal hand deal) None = Kept-deal hands deal
    by_reason (Act hand index action) None = Kept-action hands action
    by_reason (Away hand index) None = Kept-action hands (act_for game hands)
    by_reason c (Some why) = Kept-same hands

Kept-commands : (game : Game) (count : ℕ) (newer earlier : List Command) → Kept (hands_of game count earlier) (hands_of game count (newer ++ earlier))
unfolding hands_of
Kept-commands game count [] earlier = Kept-same (hands_of game count earlier)
Kept-commands game count (command ∷ newer) earlier =
    Kept-then (hands_of game count earlier) (hands_of game count (newer ++ earlier)) (hands_of game count ((command ∷ newer) ++ earlier))
    (Kept-commands game count newer earlier) (Kept-after game count (hands_of game count (newer ++ earlier)) command)

-- of two beginnings of one list one is a beginning of the other
one_begins : (n m first second : List Command) → n ++ first ≡ m ++ second → IsBeginning first second ⊎ IsBeginning second first
one_begins [] m first second e = inr (m, e)
one_begins (x ∷ n) [] first second e = inl (x ∷ n, sym e)
one_begins (x ∷ n) (y ∷ m) first second e = one_begins n m first second (cc)

-- ---- two views of one hand

-- the view of a seat is of the newest hand
pub record OfNewest (game : Game) (hands : List Hand) (v : View) : Type 0 where
  pub viewer : ℕ
  pub number : ℕ
  pub newest : Hand
  pub at : hand_at hands number ≡ Some newest
  pub is : v ≡ view_of game viewer number newest

of_newest : (game : Game) (hands : List Hand) (seat : ℕ) (v : View) → seat_view game hands seat ≡ Some v → OfNewest game hands v
of_newest game [] seat v e = cc
of_newest game (newest ∷ earlier) seat v e =
    record {
      viewer = position_of game.players (length earlier) seat;
      number = length earlier;
      newest = newest;
      at = newest_at newest earlier;
      is = cc;
    }

text_begins : BettingTextsExtend → (game : Game) (first second : List Action) → IsBeginning first second → IsTextBeginning (text game first) (text game second)
text_begins extend game first second begins =
    let longer = extend game begins.0 first in
    (longer.0, ap (text game) begins.1 ∙ longer.1)

-- a hand, and the same hand with more actions
agree_along : BettingTextsExtend → (game : Game) (viewer other number : ℕ) (h k : Hand) → k.deal ≡ h.deal → IsBeginning h.past k.past → AgreeOnHand (view_of game viewer number h) (view_of game other number k)
agree_along extend game viewer other number h k deal begins =
    record {
      actions = inl begins;
      texts = inl (text_begins extend game h.past k.past begins);
      cards = λ place card another first second.
          let a = shown_is game viewer number h place card first in
          let b = shown_is game other number k place another second in
          let c : card_at h.deal place ≡ Some another = ap (λ d. card_at d place) (sym deal) ∙ b in
          cc;
    }

-- agreement is of both alike
agree_turned : {v w : View} → AgreeOnHand v w → AgreeOnHand w v
agree_turned agree = record { actions = turned agree.actions; texts = turned agree.texts; cards = λ place card other first second. sym (agree.cards place other card second first) }
  where
    turned : {P Q : Type 0} → P ⊎ Q → Q ⊎ P
    turned (inl p) = inr p
    turned (inr q) = inl q

agree_newest : BettingTextsExtend → (game : Game) (first second : List Hand) (v w : View) → Kept first second ⊎ Kept second first → OfNewest game first v → OfNewest game second w → Agree v w
unfolding Kept
agree_newest extend game first second v w kept a b =
    elim (eqb_tells a.number b.number) [
      | inr apart ↦ inl (λ same. apart.1 (ap (λ (u : View). u.hand) (sym a.is) ∙ same ∙ ap (λ (u : View). u.hand) b.is))
      | inl together ↦
          let number : a.number ≡ b.number = together.1 in
          let by_kept : AgreeOnHand (view_of game a.viewer a.number a.newest) (view_of game b.viewer a.number b.newest) =
          elim kept [
            | inl forwards ↦
                let later = forwards a.number a.newest a.at in
                let same : Some later.0 ≡ Some b.newest = sym later.1 ∙ ap (hand_at second) number ∙ b.at in
                let k : later.0 ≡ b.newest = cc in
                agree_along extend game a.viewer b.viewer a.number a.newest b.newest (ap (λ (h : Hand). h.deal) (sym k) ∙ later.2) (subst (λ (h : Hand). IsBeginning a.newest.past h.past) k later.3)
            | inr backwards ↦
                let later = backwards b.number b.newest b.at in
                let same : Some later.0 ≡ Some a.newest = sym later.1 ∙ ap (hand_at first) (sym number) ∙ a.at in
                let k : later.0 ≡ a.newest = cc in
                agree_turned (agree_along extend game b.viewer a.viewer a.number b.newest a.newest (ap (λ (h : Hand). h.deal) (sym k) ∙ later.2) (subst (λ (h : Hand). IsBeginning b.newest.past h.past) k later.3))
          ] in
          let first_is : AgreeOnHand v (view_of game b.viewer a.number b.newest) = subst (λ (u : View). AgreeOnHand u (view_of game b.viewer a.number b.newest)) (sym a.is) by_kept in
          inr (subst (λ (u : View). AgreeOnHand v u) (ap (λ n. view_of game b.viewer n b.newest) number ∙ sym b.is) first_is)
    ]

pub lines_agree : BettingTextsExtend → LinesAgree
lines_agree extend game count commands first second first_begins second_begins seat other v w sees_first sees_second =
    let kept : Kept (hands_of game count first) (hands_of game count second) ⊎ Kept (hands_of game count second) (hands_of game count first) =
    elim (one_begins first_begins.0 second_begins.0 first second (sym first_begins.1 ∙ second_begins.1)) [
      | inl begins ↦ inl (subst (λ l. Kept (hands_of game count first) (hands_of game count l)) (sym begins.1) (Kept-commands game count begins.0 first))
      | inr begins ↦ inr (subst (λ l. Kept (hands_of game count second) (hands_of game count l)) (sym begins.1) (Kept-commands game count begins.0 second))
    ] in (
      ap (option_map line_text) sees_first,
      ap (option_map line_text) sees_second,
      agree_newest extend game (hands_of game count first) (hands_of game count second) v w kept
          (of_newest game (hands_of game count first) seat v sees_first) (of_newest game (hands_of game count second) other w sees_second),
    )

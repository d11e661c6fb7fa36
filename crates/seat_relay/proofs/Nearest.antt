-- What is said for a player whose answer the dealer would refuse.
use Rattle.std.proofs.Common.{◌≡◌, ℕ, ◌+◌, ◌*◌, ◌-◌, ◌^◌, ◌<◌, ◌≤◌, min, max, true, false, List, [], ◌∷◌, length, take, get_or, ap, sym, subst, ◌∙◌, arith, refl, decimal, Option, Some, None, IsSome}
use Rattle.std.specs.List.{list_all}
use Rattle.std.specs.Char.{is_ascii_digit, digit_value}
use Rattle.std.specs.Str.Parse.{digits_value}
use Rattle.std.proofs.lemmas.Bool.{false≢true}
use Rattle.std.proofs.lemmas.Bool.Decides.{nat_tests}
use Rattle.std.proofs.lemmas.Int.Digits.{digits_value_more}
use Rattle.std.proofs.lemmas.Fmt.{decimal_is_IsNumeral}
use Rattle.std.proofs.lemmas.List.Elements.{recursion_from_All}
use Rattle.std.proofs.lemmas.List.Sums.{AllPass-from_list_all}
use Rattle.matchstate.proofs.CardTexts.{All-at}
use Rattle.game_def.specs.Game.{Game}
use Rattle.betting.specs.declared.action.Action.{Action}
use Rattle.betting.specs.declared.action.Action.TheVariants.{Fold, Call, Raise}
use Rattle.betting.specs.Turns.{Turn}
use Rattle.betting.specs.Rounds.{to_act}
use Rattle.betting.specs.Legal.{CanAct}
use Rattle.matchstate.specs.ActionText.{IsActionText, IsRaiseText}
use Rattle.betting.specs.Legal.{fault_of}
use Rattle.betting.specs.declared.fault.ActFault.{ActFault}
use Rattle.betting.proofs.Legal.{can_act-none, none-can_act}
use Rattle.std.specs.Option.{is_some}
use Rattle.seat_relay.specs.Mending.{IsRaiseTo, IsNearest, MayRaiseSome, IsMended}

digit_is : (byte : ℕ) → is_ascii_digit byte ≡ true → digit_value byte ≡ byte - 48
digit_is byte digit =
    let low : 48 ≤ byte = grind (arith, nat_tests) in
    let high : byte ≤ 57 = grind (arith, nat_tests) in
    grind (arith, nat_tests)

most_grown : (value digit : ℕ) → min (min (min value 4294967295 * 10) 4294967295 + digit) 4294967295 ≡ min (value * 10 + digit) 4294967295
most_grown value digit = grind (arith, nat_tests)

-- somebody is to act: he may call
pub may_call : (game : Game) (past : List Turn) (next : Option ℕ) → to_act game past ≡ next → IsSome next → CanAct game past Call
unfolding CanAct
may_call game past None is some = absurd (false≢true some)
may_call game past (Some position) is some = (position, is, tt)

amount_grown : (digits : List ℕ) (place so_far : ℕ) → place < length digits → list_all is_ascii_digit digits ≡ true → so_far ≡ min (digits_value 10 (take place digits)) 4294967295
    → min (min (so_far * 10) 4294967295 + (get_or digits place 0 - 48)) 4294967295 ≡ min (digits_value 10 (take (place + 1) digits)) 4294967295
amount_grown digits place so_far within all is =
    let value : ℕ = digits_value 10 (take place digits) in
    let digit : ℕ = get_or digits place 0 in
    let own : is_ascii_digit digit ≡ true = All-at (λ byte. is_ascii_digit byte ≡ true) digits place within (recursion_from_All (λ byte. is_ascii_digit byte ≡ true) digits (AllPass-from_list_all is_ascii_digit digits all)) in
    ap (λ n. min (min (n * 10) 4294967295 + (digit - 48)) 4294967295) is
    ∙ most_grown value (digit - 48)
    ∙ ap (λ d. min (value * 10 + d) 4294967295) (sym (digit_is digit own))
    ∙ ap (λ n. min n 4294967295) (sym (digits_value_more 10 digits place within))

pub amount_by_steps : (digits : List ℕ) (place so_far times digit sum : ℕ) → place < length digits → list_all is_ascii_digit digits ≡ true → so_far ≡ min (digits_value 10 (take place digits)) 4294967295
    → times ≡ min (so_far * 10) 4294967295 → digit ≡ get_or digits place 0 - 48 → sum ≡ min (times + digit) 4294967295 → sum ≡ min (digits_value 10 (take (place + 1) digits)) 4294967295
amount_by_steps digits place so_far times digit sum within all is t d s =
    s ∙ ap (λ n. min (n + digit) 4294967295) t ∙ ap (λ n. min (min (so_far * 10) 4294967295 + n) 4294967295) d ∙ amount_grown digits place so_far within all is

-- ---- what is said

-- two raises that one text asks for go to one amount
same_amount : (game : Game) (field : List ℕ) (first second : ℕ) → IsRaiseTo game field first → IsRaiseTo game field second → first ≡ second
same_amount game field first second f s =
    let same : f.digits ≡ s.digits = let a = f.written in let b = s.written in cc in
    f.worth ∙ (ap (digits_value 10) same ∙ sym s.worth)

near_is : (game : Game) (past : List Turn) (amount near : ℕ) (n : IsNearest game past amount (Raise near)) → near ≡ max n.least (min n.greatest amount)
near_is game past amount near n = let is = n.is_raise in cc

-- the player's own raise is the nearest to itself
own_nearest : (game : Game) (past : List Turn) (field : List ℕ) (amount near wanted : ℕ) (sizes : Option (List ℕ)) → sizes ≡ None → game.raise_sizes ≡ sizes → IsRaiseTo game field amount
    → IsNearest game past amount (Raise near) → IsRaiseText sizes game past field wanted → CanAct game past (Raise wanted) → Raise near ≡ Raise wanted
own_nearest game past field amount near wanted None none is raise n text can =
    let digits : raise.digits ≡ decimal wanted = let a = raise.written in let b = text.0 in cc in
    let small : wanted < 2 ^ 32 = text.1 in
    let worth : amount ≡ wanted = raise.worth ∙ (ap (digits_value 10) digits ∙ (decimal_is_IsNumeral wanted (omega (arith, small))).1) in
    let ends = (n.range.legal wanted).0 can in
    let least : n.least ≤ wanted = ends.0 in
    let greatest : wanted ≤ n.greatest = ends.1 in
    let at : near ≡ max n.least (min n.greatest amount) = near_is game past amount near n in
    let same : near ≡ wanted = grind (arith, nat_tests) in
    ap Raise same
own_nearest game past field amount near wanted (Some sizes) none is raise n text can = absurd cc

own_at_nearest : (game : Game) (past : List Turn) (field : List ℕ) (amount near : ℕ) (wanted : Action) → IsRaiseTo game field amount → IsNearest game past amount (Raise near)
    → IsActionText game past field wanted → CanAct game past wanted → Raise near ≡ wanted
own_at_nearest game past field amount near Fold raise n text can = let written : field ≡ 102 ∷ [] = text in let e : 114 ≡ 102 = ap (λ (l : List ℕ). get_or l 0 0) (sym raise.written ∙ written) in absurd (omega (arith, e))
own_at_nearest game past field amount near Call raise n text can = let written : field ≡ 99 ∷ [] = text in let e : 114 ≡ 99 = ap (λ (l : List ℕ). get_or l 0 0) (sym raise.written ∙ written) in absurd (omega (arith, e))
own_at_nearest game past field amount near (Raise wanted) raise n text can = own_nearest game past field amount near wanted game.raise_sizes raise.no_limit refl raise n text can

pub nearest_is_mended : (game : Game) (past : List Turn) (field : List ℕ) (near : ℕ) → (amount : ℕ) × IsRaiseTo game field amount × IsNearest game past amount (Raise near) → IsMended game past field (Raise near)
nearest_is_mended game past field near (amount, raise, n) =
    let some : n.least ≤ n.greatest = n.range.some in
    let at : near ≡ max n.least (min n.greatest amount) = near_is game past amount near n in
    let from : n.least ≤ near = grind (arith, nat_tests) in
    let to : near ≤ n.greatest = grind (arith, nat_tests) in
    record {
      allowed = (n.range.legal near).1 (from, to);
      own = λ wanted text can. own_at_nearest game past field amount near wanted raise n text can;
      nearest_end = λ other asked may. subst (λ a. IsNearest game past a (Raise near)) (same_amount game field amount other raise asked) n;
      else_call = λ useless. absurd (useless.no_nearest amount raise (n.least, (n.range.legal n.least).1 (omega arith, some)));
    }

pub other_is_mended : (game : Game) (past : List Turn) (field : List ℕ) (action : Action) → ((amount : ℕ) → IsRaiseTo game field amount → ¬ MayRaiseSome game past) → CanAct game past action
    → ((wanted : Action) → IsActionText game past field wanted → CanAct game past wanted → action ≡ wanted)
    → (((wanted : Action) → IsActionText game past field wanted → ¬ CanAct game past wanted) → action ≡ Call) → IsMended game past field action
other_is_mended game past field action none allowed own call = record {
  allowed = allowed;
  own = own;
  nearest_end = λ amount raise may. absurd (none amount raise may);
  else_call = λ useless. call useless.not_allowed;
}

-- ---- by the fault of an action

pub fault_is_none : (game : Game) (past : List Turn) (action : Action) {fault : Option ActFault} → fault_of game past action ≡ fault → is_some fault ≡ false → CanAct game past action
fault_is_none game past action {fault = None} is none = none-can_act game past action is
fault_is_none game past action {fault = Some fault} is none = absurd cc

pub is_fault : (game : Game) (past : List Turn) (action : Action) {fault : Option ActFault} → fault_of game past action ≡ fault → is_some fault ≡ true → CanAct game past action → ⊥
is_fault game past action {fault = None} is some can = absurd cc
is_fault game past action {fault = Some fault} is some can = let none = can_act-none game past action can in absurd cc

pub only_action : (game : Game) (past : List Turn) {first second : Action} → Some first ≡ Some second → CanAct game past first → CanAct game past second
only_action game past {first = first} {second = second} same can = let e : first ≡ second = cc in subst (CanAct game past) e can

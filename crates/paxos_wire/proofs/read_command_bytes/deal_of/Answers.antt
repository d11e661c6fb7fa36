use Rattle.std.proofs.Common.{◌≡◌, ◌∙◌, ◌+◌, ◌-◌, ◌*◌, ◌/◌, ap, subst, sym, refl, Some, ℕ, List, length, take, nat_eq}
use Rattle.std.specs.List.{IsDistinct}
use Rattle.paxos_wire.proofs.Counts.{of_players}
use Rattle.paxos_wire.proofs.Distinct.{deal_is, deal_none, deal_none_cards}
use Rattle.paxos_wire.proofs.read_command_bytes.deal_of.Goals as goal

pub returns-in_default : goal.returns-in_default
returns-in_default c = sym (deal_none_cards c.args.bytes.now (λ h. absurd cc (c.in_default.ensures.cards.1 h)))

pub returns-in-Ok : goal.returns-in-Ok
returns-in-Ok c =
    let kept = c.in-Some.ensures.value in
    let distinct = subst (λ (xs : List ℕ). IsDistinct nat_eq xs) kept (c.in-Ok.ensures.ok.0 refl).1 in
    ap Some (c.in-Ok.ensures.value ∙ kept) ∙ sym (deal_is c.args.bytes.now (c.in-Some.ensures.cards.0 refl) distinct)

pub returns-in-Err : goal.returns-in-Err
returns-in-Err c =
    let kept = c.in-Some.ensures.value in
    let count = of_players (length c.args.bytes.now) c.requires in
    let len : length (take (length c.args.bytes.now) c.in-Some.cards) ≡ 2 * ((length c.args.bytes.now - 5) / 2) + 5 = ap length kept ∙ count.odd in
    sym (deal_none c.args.bytes.now (λ distinct. absurd cc (c.in-Err.ensures.ok.1 (len, subst (λ (xs : List ℕ). IsDistinct nat_eq xs) (sym kept) distinct))))

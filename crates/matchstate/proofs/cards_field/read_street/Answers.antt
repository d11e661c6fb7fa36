use Rattle.std.proofs.Common.{◌≡◌, ℕ, ◌+◌, ◌*◌, List, [], ◌∷◌, ◌++◌, Bool, cond, true, ap, sym, ◌∙◌, arith, length, length-append, drop}
use Rattle.std.proofs.lemmas.List.{drop_at}
use Rattle.matchstate.specs.Cards.{cards_text}
use Rattle.matchstate.proofs.CardTexts.{length_cards_text, street_begun, street_unbegun}
use Rattle.matchstate.proofs.Missing.{missing}
use Rattle.matchstate.proofs.cards_field.read_street.Goals as goal

choice : {b : Bool} {n : ℕ} {xs : List ℕ} → b ≡ true → xs ≡ cond b (n ∷ []) [] → xs ≡ n ∷ []
choice {b} {n} {xs} begun e = e ∙ ap (λ t. cond t (n ∷ []) []) begun

pub returns-in_err-text-clause-only : goal.returns-in_err-text-clause-only
returns-in_err-text-clause-only g c =
    λ street behind count all is.
    let s = street_begun g.row.N street c.args.bytes.now behind (choice c.if-begun.true count) all is in
    absurd (missing _ c.in_err-text.was (c.after_byte.ensures.only (cards_text s.cards ++ behind) s.text_is))

pub returns-in_err-cards-clause-only : goal.returns-in_err-cards-clause-only
returns-in_err-cards-clause-only g c =
    λ street behind count all is.
    let s = street_begun g.row.N street c.args.bytes.now behind (choice c.if-begun.true count) all is in
    let text = c.in_ok-text.ensures.only (cards_text s.cards ++ behind) s.text_is in
    let got = c.read_cards.ensures.only s.cards behind s.count s.pack text in
    let was = c.in_err-cards.was in
    cc

pub returns-in_ok-cards-clause-within : goal.returns-in_ok-cards-clause-within
returns-in_ok-cards-clause-within g c =
    let slash = ap length c.in_ok-text.ensures.found in
    let found = c.in_ok-cards.ensures.found in
    let whole = ap length found.0 in
    let count : length c.in_ok-cards.cards ≡ g.row.N = found.2 in
    let text = length_cards_text c.in_ok-cards.cards in
    omega (arith, length-append (cards_text c.in_ok-cards.cards) (drop (2 * g.row.N) c.in_ok-text.text.now))

pub returns-in_ok-cards-clause-only : goal.returns-in_ok-cards-clause-only
returns-in_ok-cards-clause-only g c =
    λ street behind count all is.
    let s = street_begun g.row.N street c.args.bytes.now behind (choice c.if-begun.true count) all is in
    let text = c.in_ok-text.ensures.only (cards_text s.cards ++ behind) s.text_is in
    let got = c.in_ok-cards.ensures.only s.cards behind s.count s.pack text in
    let same : c.in_ok-cards.cards ≡ s.cards = cc in
    let length_is : length (47 ∷ cards_text s.cards) ≡ 2 * g.row.N + 1 = let l = length_cards_text s.cards in let n = s.count in omega arith in
    (ap (λ cards. cards ∷ []) same ∙ sym s.is, ap (drop (2 * g.row.N + 1)) s.text_is ∙ drop_at (47 ∷ cards_text s.cards) behind (2 * g.row.N + 1) length_is)

pub returns-else-begun-clause-only : goal.returns-else-begun-clause-only
returns-else-begun-clause-only g c =
    λ street behind count all is.
    let none = street_unbegun street c.args.bytes.now behind (count ∙ ap (λ t. cond t (g.row.N ∷ []) []) c.if-begun.false) is in
    (sym none.0, none.1)

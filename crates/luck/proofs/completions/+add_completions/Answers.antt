use Rattle.std.proofs.Common.{◌≡◌, ◌∙◌, ◌+◌, ◌-◌, ◌*◌, ◌<◌, ◌≤◌, ◌++◌, ◌∷◌, [], ℕ, List, length, take, drop, nat_eq, sym, ap, subst, arith}
use Rattle.std.specs.List.{IsDistinct}
use Rattle.std.proofs.lemmas.List.{length-append, length-map}
use Rattle.match_log.specs.BestFive.{choices}
use Rattle.luck.specs.CardList.{cards_of}
use Rattle.luck.specs.Sums.{AddsPaid}
use Rattle.luck.proofs.Adds.{adds_none, adds_both}
use Rattle.luck.proofs.Completing.{with_choices, with_first, without_first, front_distinct, first_and_rest, split_few, split_deals, whole_deals, no_deals, one_deal}
use Rattle.luck.proofs.completions.+add_completions.Goals as goal

-- behind the first of the other cards
abbrev rest_of : List ℕ → List ℕ
rest_of others = take (length others - 1) (drop 1 others)

pub add_deal-requires-clause-distinct : goal.add_deal-requires-clause-distinct
add_deal-requires-clause-distinct t c = front_distinct (cards_of c.args.known) c.args.others.now c.requires.distinct

pub add_deal-requires-clause-few : goal.add_deal-requires-clause-few
add_deal-requires-clause-few t c =
    let all : length (cards_of c.args.known) ≡ 2 * length c.args.stakes.now.spent + 5 = omega (arith, c.if-as_slice-players.true, ap length c.as_slice.ensures.value, c.players-players.ensures.value) in
    omega (arith, c.requires.few, one_deal (2 * length c.args.stakes.now.spent + 5) (cards_of c.args.known) c.args.others.now all)

pub returns-then-as_slice-players : goal.returns-then-as_slice-players
returns-then-as_slice-players t c =
    let all : length (cards_of c.args.known) ≡ 2 * length c.args.stakes.now.spent + 5 = omega (arith, c.if-as_slice-players.true, ap length c.as_slice.ensures.value, c.players-players.ensures.value) in
    subst (λ (deals : List (List ℕ)). AddsPaid c.args.stakes.now.spent c.args.stakes.now.folded deals c.args.sums.now c.add_deal.new.sums)
    (sym (whole_deals (2 * length c.args.stakes.now.spent + 5) (cards_of c.args.known) c.args.others.now all)) c.add_deal.ensures

pub add_completions-requires : goal.add_completions-requires
add_completions-requires t c =
    let places = 2 * length c.args.stakes.now.spent + 5 in
    let known = cards_of c.args.known in
    let others = c.args.others.now in
    let first = c.first-item.result in
    let less : length known < places = omega (arith, c.requires.known, c.if-as_slice-players.false, ap length c.as_slice.ensures.value, c.players-players.ensures.value) in
    let whole : others ≡ first ∷ rest_of others = first_and_rest others first c.in-len1-up.len_at_least c.first-item.is in
    let room : length (cards_of c.with.result) ≤ places = omega (arith, less, ap length c.with.ensures, length-append known (first ∷ [])) in
    let distinct : IsDistinct nat_eq (cards_of c.with.result ++ rest_of others) =
    subst (λ (cards : List ℕ). IsDistinct nat_eq (cards ++ rest_of others)) (sym c.with.ensures)
    (with_first known first (rest_of others) (subst (λ (cards : List ℕ). IsDistinct nat_eq (known ++ cards)) whole c.requires.distinct)) in
    let few : c.args.sums.now.deals + length (choices (places - length (cards_of c.with.result)) (rest_of others)) ≤ 10000 =
    omega (arith, c.requires.few, split_few places known others first (rest_of others) less whole, ap (λ (cards : List ℕ). length (choices (places - length cards) (rest_of others))) c.with.ensures) in
    let shorter : length (rest_of others) < length others = omega (arith, ap length whole) in
    (omega (arith, shorter, c.decreases), (room, (distinct, few)))

pub add_completions-requires-in-len1-up : goal.add_completions-requires-in-len1-up
add_completions-requires-in-len1-up t c =
    let places = 2 * length c.args.stakes.now.spent + 5 in
    let known = cards_of c.args.known in
    let others = c.args.others.now in
    let first = c.first-item.result in
    let less : length known < places = omega (arith, c.requires.known, c.if-as_slice-players.false, ap length c.as_slice.ensures.value, c.players-players.ensures.value) in
    let whole : others ≡ first ∷ rest_of others = first_and_rest others first c.in-len1-up.len_at_least c.first-item.is in
    let distinct : IsDistinct nat_eq (known ++ rest_of others) = without_first known first (rest_of others) (subst (λ (cards : List ℕ). IsDistinct nat_eq (known ++ cards)) whole c.requires.distinct) in
    let with_it : length (with_choices (cards_of c.with.result) (places - length (cards_of c.with.result)) (rest_of others)) ≡ length (choices (places - length (known ++ first ∷ [])) (rest_of others)) =
    length-map (choices (places - length (cards_of c.with.result)) (rest_of others)) (λ more. cards_of c.with.result ++ more)
    ∙ ap (λ (cards : List ℕ). length (choices (places - length cards) (rest_of others))) c.with.ensures in
    let few : c.add_completions.new.sums.deals + length (choices (places - length known) (rest_of others)) ≤ 10000 =
    omega (arith, c.requires.few, split_few places known others first (rest_of others) less whole, c.add_completions.ensures.count, with_it) in
    let shorter : length (rest_of others) < length others = omega (arith, ap length whole) in
    (omega (arith, shorter, c.decreases), (c.requires.known, (distinct, few)))

pub returns-in-empty : goal.returns-in-empty
returns-in-empty t c =
    let places = 2 * length c.args.stakes.now.spent + 5 in
    let less : length (cards_of c.args.known) < places = omega (arith, c.requires.known, c.if-as_slice-players.false, ap length c.as_slice.ensures.value, c.players-players.ensures.value) in
    subst (λ (deals : List (List ℕ)). AddsPaid c.args.stakes.now.spent c.args.stakes.now.folded deals c.args.sums.now c.args.sums.now)
    (sym (no_deals places (cards_of c.args.known) c.args.others.now less c.in-empty.len_below)) (adds_none c.args.stakes.now.spent c.args.stakes.now.folded c.args.sums.now)

pub returns-in-len1-up : goal.returns-in-len1-up
returns-in-len1-up t c =
    let spent = c.args.stakes.now.spent in
    let folded = c.args.stakes.now.folded in
    let places = 2 * length spent + 5 in
    let known = cards_of c.args.known in
    let others = c.args.others.now in
    let first = c.first-item.result in
    let less : length known < places = omega (arith, c.requires.known, c.if-as_slice-players.false, ap length c.as_slice.ensures.value, c.players-players.ensures.value) in
    let whole : others ≡ first ∷ rest_of others = first_and_rest others first c.in-len1-up.len_at_least c.first-item.is in
    let with_it : AddsPaid spent folded (with_choices (known ++ first ∷ []) (places - length (known ++ first ∷ [])) (rest_of others)) c.args.sums.now c.add_completions.new.sums =
    subst (λ (cards : List ℕ). AddsPaid spent folded (with_choices cards (places - length cards) (rest_of others)) c.args.sums.now c.add_completions.new.sums) c.with.ensures c.add_completions.ensures in
    let both = adds_both spent folded _ (with_choices known (places - length known) (rest_of others)) c.args.sums.now c.add_completions.new.sums c.add_completions-in-len1-up.new.sums with_it c.add_completions-in-len1-up.ensures in
    subst (λ (deals : List (List ℕ)). AddsPaid spent folded deals c.args.sums.now c.add_completions-in-len1-up.new.sums) (sym (split_deals places known others first (rest_of others) less whole)) both

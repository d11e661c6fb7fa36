-- The commands behind the records deal no card twice: what is a node's own by its source is a deal.
use Rattle.std.proofs.Common.{◌≡◌, ℕ, zero, suc, ◌≤◌, Bool, true, false, ◌||◌, Option, Some, None, IfSome, List, [], ◌∷◌, All, slice_get, refl, sym, subst, arith}
use Rattle.std.specs.List.{AllByRecursion}
use Rattle.std.proofs.lemmas.List.Elements.{All-head, All-tail}
use Rattle.std.proofs.lemmas.Slice.Eq.{bytes_eq-Decides}
use Rattle.card_core.specs.Deal.{IsDeal, player_count}
use Rattle.deck_draw.specs.Deck.{drawn}
use Rattle.slot_log.specs.declared.command.Command.{Command}
use Rattle.slot_log.specs.declared.command.Command.TheVariants.{Deal, Act, Away}
use Rattle.match_log.specs.Check.{DealsFairly}
use Rattle.protocol_model.specs.Quorums.{IsChosen, AreChosen}
use Rattle.dealer_kind.specs.Kind.{Setting}
use Rattle.dealer_kind.specs.Sources.{deal_of, HasDeals, is_deal, deals, owns}
use Rattle.dealer_kind.specs.declared.source.Source.{Source}
use Rattle.dealer_kind.specs.declared.source.Source.TheVariants.{Seed, Listed}
use Rattle.dealer_world.specs.Headline.{Era, said_in, owned_in, dealer_in, HasOrigin, OneList}
use Rattle.dealer_world.specs.RecordLaws.{HaveDeals}

-- what is drawn is a deal
abbrev pub DrawsAreDeals : Type 0
DrawsAreDeals = (seed hand players : ℕ) → players ≤ 10 → IsDeal players (drawn seed hand players)

pub each_at : {X : Type 0} (P : X → Type 0) (xs : List X) (k : ℕ) → All P xs → IfSome (slice_get xs k) P
each_at P [] k all = tt
each_at P (x ∷ xs) zero all = All-head P x xs all
each_at P (x ∷ xs) (suc k) all = each_at P xs k (All-tail P x xs all)

is_that_deal : (players : ℕ) (found : Option (List ℕ)) (deal : List ℕ) → IfSome found (IsDeal players) → is_deal found deal ≡ true → IsDeal players deal
is_that_deal players None deal dealt is = absurd cc
is_that_deal players (Some one) deal dealt is = subst (IsDeal players) (sym ((bytes_eq-Decides deal one).0 is)) dealt

has_deal : DrawsAreDeals → (players hands : ℕ) (source : Source) (hand : ℕ) → players ≤ 10 → HasDeals players hands source → IfSome (deal_of players source hand) (IsDeal players)
has_deal draws players hands (Seed seed) hand few has = draws seed hand players few
has_deal draws players hands (Listed listed) hand few has = each_at (IsDeal players) listed.items hand has.1

own_deal : DrawsAreDeals → (players hands : ℕ) (source : Option Source) (hand : ℕ) (deal : List ℕ) → players ≤ 10 → IfSome source (HasDeals players hands)
    → deals players source (Deal hand deal) ≡ true → IsDeal players deal
own_deal draws players hands None hand deal few has is = absurd cc
own_deal draws players hands (Some source) hand deal few has is = is_that_deal players (deal_of players source hand) deal (has_deal draws players hands source hand few has) is

either_way : (a b : Bool) (P : Type 0) → (a ≡ true → P) → (b ≡ true → P) → (a || b) ≡ true → P
either_way true b P first second is = first refl
either_way false b P first second is = second is

owned_deal : DrawsAreDeals → (setting : Setting) (eras : List Era) (node hand : ℕ) (deal : List ℕ) → setting.game.players ≤ 10 → HaveDeals setting eras
    → owned_in setting.game.players eras node (Deal hand deal) ≡ true → IsDeal setting.game.players deal
owned_deal draws setting [] node hand deal few have is = absurd cc
owned_deal draws setting (era ∷ before) node hand deal few have is =
    either_way (owns setting.game.players era.sources node (Deal hand deal)) (owned_in setting.game.players before node (Deal hand deal)) (IsDeal setting.game.players deal)
    (own_deal draws setting.game.players setting.title.hands (slice_get era.sources node) hand deal few (each_at (HasDeals setting.game.players setting.title.hands) era.sources node have.0))
    (owned_deal draws setting before node hand deal few have.1) is

fair : (players : ℕ) (deal : List ℕ) → IsDeal players deal → IsDeal (player_count deal) deal
fair players deal dealt =
    let count : players ≡ player_count deal = omega (arith, dealt.count) in
    subst (λ n. IsDeal n deal) count dealt

-- a chosen command deals no card twice
chosen_fairly : DrawsAreDeals → (setting : Setting) (n : ℕ) (eras : List Era) → setting.game.players ≤ 10 → HaveDeals setting eras
    → (command : Command) → HasOrigin (dealer_in setting eras) n eras command → DealsFairly command
chosen_fairly draws setting n eras few have (Deal hand deal) origin = fair setting.game.players deal (owned_deal draws setting eras origin.0 hand deal few have origin.2)
chosen_fairly draws setting n eras few have (Act hand index action) origin = tt
chosen_fairly draws setting n eras few have (Away hand index) origin = tt

all_fairly : (n : ℕ) (eras : List Era) → ((slot : ℕ) (command : Command) → IsChosen n (said_in eras) slot command → DealsFairly command)
    → (commands : List Command) → AreChosen n (said_in eras) commands → AllByRecursion DealsFairly commands
all_fairly n eras fairly [] chosen = tt
all_fairly n eras fairly (command ∷ before) chosen = (fairly _ command chosen.0, all_fairly n eras fairly before chosen.1)

pub deals_fairly : DrawsAreDeals → (setting : Setting) (n : ℕ) (eras : List Era) → setting.game.players ≤ 10 → HaveDeals setting eras
    → (one : OneList (dealer_in setting eras) n eras) → AllByRecursion DealsFairly one.commands
deals_fairly draws setting n eras few have one =
    all_fairly n eras (λ slot command chosen. chosen_fairly draws setting n eras few have command (one.origin slot command chosen)) one.commands one.chosen

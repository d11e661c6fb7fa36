-- What entries of a match file say. Bytes stand for texts.
use Rattle.std.specs.Prelude.{◌≡◌, ℕ, ◌<◌, ◌≤◌, pos, List, [], ◌∷◌, length, codes, Option, Some, None}
use Rattle.card_core.specs.Deal.{IsDeal}
use Rattle.matchstate.specs.Cards.{deal_text}
use Rattle.match_log.specs.Names.{IsName}
use Rattle.dealer_kind.specs.declared.source.Source.{Source}
use Rattle.dealer_kind.specs.declared.source.Source.TheVariants.{Seed, Listed}
use Rattle.toml.specs.Data.{Data, string, integer, array, get}
use Rattle.toml.specs.View.{items_of}
use Rattle.match_file.specs.declared.outage.Outage.{Outage}

-- there is none
abbrev pub IsAbsent : {T : Type 0} → (T → Type 0) → Type 0
IsAbsent {T} P = (x : T) → ¬ (P x)

-- there is one
abbrev pub IsThere : {T : Type 0} → (T → Type 0) → Type 0
IsThere {T} P = (x : T) × P x

-- they are as many, and each says the one in its place
abbrev pub EachSays : {T : Type 0} → (Data → T → Type 0) → List Data → List T → Type 0
EachSays Says [] [] = Unit {0}
EachSays Says [] (x ∷ xs) = ⊥
EachSays Says (d ∷ ds) [] = ⊥
EachSays Says (d ∷ ds) (x ∷ xs) = Says d x × EachSays Says ds xs

-- an array of so many items, each of which says the one in its place
abbrev pub SaysEach : {T : Type 0} → (Data → T → Type 0) → Option Data → List T → Type 0
SaysEach Says entry xs = (items : List Data) × (entry ≡ Some (array (items_of items))) × EachSays Says items xs

-- nothing where there is no entry, and else what the entry says
abbrev pub SaysIfThere : {T : Type 0} → (Data → T → Type 0) → Option Data → Option T → Type 0
SaysIfThere Says None None = Unit {0}
SaysIfThere Says None (Some x) = ⊥
SaysIfThere Says (Some entry) None = ⊥
SaysIfThere Says (Some entry) (Some x) = Says entry x

-- a name, as a text
pub record SaysName (entry : Data) (name : List ℕ) : Type 0 where
  pub text : entry ≡ string name
  pub is_name : IsName name

-- the deal's text with all its cards
pub record SaysDeal (players : ℕ) (entry : Data) (deal : List ℕ) : Type 0 where
  pub text : entry ≡ string (deal_text players deal)
  pub dealt : IsDeal players deal

-- deals, at least one for each hand
abbrev pub SaysDeals : ℕ → ℕ → Option Data → List (List ℕ) → Type 0
SaysDeals players hands entry deals = SaysEach (SaysDeal players) entry deals × (hands ≤ length deals)

-- a node's table has a seed or a list of deals, not both
abbrev pub SaysSource : ℕ → ℕ → Data → Source → Type 0
SaysSource players hands entry (Seed seed) = (get (codes "seed") entry ≡ Some (integer (pos seed))) × (get (codes "deals") entry ≡ None)
SaysSource players hands entry (Listed deals) = (get (codes "seed") entry ≡ None) × SaysDeals players hands (get (codes "deals") entry) deals.items

-- when an outage ends: a number above that of its beginning, or no entry
abbrev pub SaysBack : Option Data → ℕ → Option ℕ → Type 0
SaysBack entry at None = entry ≡ None
SaysBack entry at (Some back) = (entry ≡ Some (integer (pos back))) × (at < back)

-- a table with the number of a node, one of so many, and when it is out
pub record SaysOutage (nodes : ℕ) (entry : Data) (outage : Outage) : Type 0 where
  pub node : get (codes "node") entry ≡ Some (integer (pos outage.node))
  pub below : outage.node < nodes
  pub begins : get (codes "at") entry ≡ Some (integer (pos outage.at))
  pub ends : SaysBack (get (codes "back") entry) outage.at outage.back

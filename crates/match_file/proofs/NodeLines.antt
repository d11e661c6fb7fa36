-- The lines of what is kept beside a node's store.
use Rattle.std.proofs.Common.{◌≡◌, ℕ, List, [], ap, ◌∙◌, codes, decimal}
use Rattle.hex.specs.Hex.{encode_lower}
use Rattle.match_file.specs.Kept.{line}
use Rattle.match_file.specs.Identities.{life_line}
use Rattle.match_file.specs.declared.node_kept.NodeKept.{NodeKept}
use Rattle.match_file.specs.declared.logs_kept.LogsKept.{LogsKept}

abbrev pub decks_on : NodeKept → List ℕ
decks_on kept = line (codes "decks ") (encode_lower kept.decks) []

abbrev pub life_on : NodeKept → List ℕ
life_on kept = life_line kept.life (decks_on kept)

abbrev pub node_on : NodeKept → List ℕ
node_on kept = line (codes "node ") (decimal kept.node) (life_on kept)

abbrev kept : ℕ → List ℕ → List ℕ → NodeKept
kept node life decks = record { node = node; life = life; decks = decks }

pub node_same : (a b : NodeKept) → a.node ≡ b.node → a.life ≡ b.life → a.decks ≡ b.decks → a ≡ b
node_same a b node life decks =
    ap (λ (n : ℕ). kept n a.life a.decks) node ∙ (ap (λ (l : List ℕ). kept b.node l a.decks) life ∙ ap (λ (d : List ℕ). kept b.node b.life d) decks)

abbrev pub first_on : LogsKept → List ℕ
first_on logs = line (codes "first ") (decimal logs.first) []

abbrev logs : List ℕ → ℕ → LogsKept
logs life first = record { life = life; first = first }

pub logs_same : (a b : LogsKept) → a.life ≡ b.life → a.first ≡ b.first → a ≡ b
logs_same a b life first = ap (λ (l : List ℕ). logs l a.first) life ∙ ap (λ (n : ℕ). logs b.life n) first

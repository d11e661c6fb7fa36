-- What calls of lines, and of peers, leave of them, one after another.
use Rattle.std.proofs.Common.{◌≡◌, List, ap, ◌∙◌}
use Rattle.node_wires.specs.Passages.{Passage}
use Rattle.node_wires.specs.declared.passages.Passages.{Passages}
use Rattle.node_peers.specs.Growing.{Grew, Stays}
use Rattle.node_peers.specs.declared.lines.Lines.{Lines}
use Rattle.node_peers.proofs.Adding.{nothing_added, added_on}

pub grew_on : (a b c : Lines) (w x y : List Passage) → Grew a b w x → Grew b c x y → Grew a c w y
grew_on a b c w x y one two = (two.0 ∙ one.0, (added_on _ _ _ _ _ _ one.1.0 two.1.0, (two.1.1.0 ∙ one.1.1.0, two.1.1.1 ∙ one.1.1.1)))

-- nothing passed, neither over them nor over the wire
pub stayed : (a b : Lines) (w x : List Passage) → Stays a b → x ≡ w → Grew a b w x
stayed a b w x stays e = (stays.0, (nothing_added _ _ _ _ (ap (λ (p : Passages). p.items) stays.1.0) e, stays.1.1))

pub stays_on : (a b c : Lines) → Stays a b → Stays b c → Stays a c
stays_on a b c one two = (two.0 ∙ one.0, (two.1.0 ∙ one.1.0, (two.1.1.0 ∙ one.1.1.0, two.1.1.1 ∙ one.1.1.1)))

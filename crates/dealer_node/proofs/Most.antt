-- No more is shown than was needed.
use Rattle.std.proofs.Common.{◌≡◌, ℕ, ◌+◌, ◌≤◌, arith, sym, ap, subst, ◌∙◌}
use Rattle.std.proofs.lemmas.List.{append-nil}
use Rattle.std.specs.Prelude.{[], ◌++◌, length, Option, Some}
use Rattle.dealer_node.specs.declared.made.Made.{Made}
use Rattle.dealer_node.specs.declared.made.Need.{Need}
use Rattle.dealer_node.specs.declared.most_shown.MostShown.{MostShown}
use Rattle.dealer_node.specs.declared.node.Node.TheInside.{Inside}
use Rattle.dealer_node.specs.declared.up.Up.{Up}
use Rattle.dealer_node.specs.Nodes.{Node}
use Rattle.dealer_node.specs.NodeInside.{node_of}
use Rattle.dealer_node.specs.Texts.{byte_total}
use Rattle.dealer_node.specs.Outs.{Told, told_by, both_told, nothing_told}
use Rattle.dealer_node.specs.Handling.{IsWithin}
use Rattle.dealer_node.specs.Most.{most_after, ShowsWithin}

-- nothing was shown
pub none_shown : (most : MostShown) (earlier later : Told) → later ≡ earlier → ShowsWithin most earlier later
none_shown most earlier later same = record {
  more = [];
  behind = ap (λ (t : Told). t.shown) same ∙ sym (append-nil earlier.shown);
  pieces = omega arith;
  bytes = omega arith;
}

-- what was shown was made, and no more than was needed
pub made_shown : (most : MostShown) (need : Need) (made : Made) (earlier between later : Told) → later ≡ both_told between (told_by made) → between ≡ earlier
    → IsWithin made need → need.texts ≤ most.pieces → need.text_bytes ≤ most.bytes → ShowsWithin most earlier later
made_shown most need made earlier between later behind same within texts bytes = record {
  more = made.shown.texts;
  behind = ap (λ (t : Told). t.shown) behind ∙ ap (λ (t : Told). t.shown ++ made.shown.texts) same;
  pieces = omega (arith, within.texts, texts);
  bytes = omega (arith, within.text_bytes, bytes);
}

-- at a start: the header, behind nothing
pub start_shown : (most : MostShown) (first made : Made) (earlier between later : Told) → told_by first ≡ nothing_told → later ≡ both_told between (told_by made) → between ≡ earlier
    → length made.shown.texts ≤ length first.shown.texts + 1 → byte_total made.shown.texts ≤ byte_total first.shown.texts + 263 → 1 ≤ most.pieces → 263 ≤ most.bytes
    → ShowsWithin most earlier later
start_shown most first made earlier between later nothing behind same texts bytes pieces total =
    let no_texts = ap (λ (t : Told). length t.shown) nothing in
    let no_bytes = ap (λ (t : Told). byte_total t.shown) nothing in
    record {
      more = made.shown.texts;
      behind = ap (λ (t : Told). t.shown) behind ∙ ap (λ (t : Told). t.shown ++ made.shown.texts) same;
      pieces = omega (arith, no_texts, texts, pieces);
      bytes = omega (arith, no_bytes, bytes, total);
    }

-- from what runs at a node to the node
pub shows_at : {D : Type 0} (now : Node D) (i : Inside D) (up : Up D) (applied : Option (Up D) → ℕ) (earlier old later : Told) → node_of i ≡ now → i.up ≡ Some up → earlier ≡ old
    → ShowsWithin (most_after (applied (Some up))) earlier later → ShowsWithin (most_after (applied now.up)) old later
shows_at {D} now i up applied earlier old later view is same shows =
    let most : most_after (applied (Some up)) ≡ most_after (applied now.up) = ap (λ (u : Option (Up D)). most_after (applied u)) (sym is) ∙ ap (λ (n : Node D). most_after (applied n.up)) view in
    subst (λ (m : MostShown). ShowsWithin m old later) most (subst (λ (t : Told). ShowsWithin (most_after (applied (Some up))) t later) same shows)

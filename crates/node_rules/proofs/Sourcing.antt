-- What a node has was sent.
use Rattle.std.proofs.Common.{◌≡◌, ◌≢◌, ℕ, ◌⊎◌, inl, inr, List, ◌∷◌, refl, ap, sym, ◌∙◌, subst}
use Rattle.std.proofs.lemmas.Bool.{cases_eq}
use Rattle.protocol_model.specs.Sets.{In}
use Rattle.protocol_model.specs.Messages.{Message}
use Rattle.protocol_model.specs.Dealers.{Dealer}
use Rattle.protocol_model.specs.Nodes.{Node}
use Rattle.protocol_model.specs.Moves as move
use Rattle.protocol_model.specs.Moves.{Output, Move}
use Rattle.protocol_model.specs.Worlds as world
use Rattle.protocol_model.specs.Worlds.{World, IsAfter, Run, Reached, new_world}
use Rattle.protocol_model.proofs.Sets.{in_later}

-- a move that gets nothing
keeps : (old new changed : Node) (ever : List Message) → new ≡ changed → changed.has ≡ old.has → (m : Message) → In m new.has → In m old.has ⊎ In m ever
keeps old new changed ever e same m h = inl (subst (λ (l : List Message). In m l) (ap (λ (y : Node). y.has) e ∙ same) h)

-- what a node has after a move it had before, or it was sent
move_has : (dealer : Dealer) (n i : ℕ) (ever : List Message) (old : Node) (out : Output) (new : Node) → Move dealer n i ever old out new
    → (m : Message) → In m new.has → In m old.has ⊎ In m ever
move_has dealer n i ever old out new (move.gets message up sent o e) m h =
    got (subst (λ (l : List Message). In m l) (ap (λ (y : Node). y.has) e) h)
  where
    got : In m (message ∷ old.has) → In m old.has ⊎ In m ever
    got (inl same) = inr (subst (λ (x : Message). In x ever) (sym same) sent)
    got (inr k) = inl k
move_has dealer n i ever old out new (move.connects seat up o e) m h = keeps old new _ ever e refl m h
move_has dealer n i ever old out new (move.drops seat up o e) m h = keeps old new _ ever e refl m h
move_has dealer n i ever old out new (move.closes seat up o e) m h = keeps old new _ ever e refl m h
move_has dealer n i ever old out new (move.hears seat bytes up o e) m h = keeps old new _ ever e refl m h
move_has dealer n i ever old out new (move.notes seat bytes before line command up heard knows has says o e) m h = keeps old new _ ever e refl m h
move_has dealer n i ever old out new (move.ordered before command up knows hole orders o e) m h = keeps old new _ ever e refl m h
move_has dealer n i ever old out new (move.begins ballot slot told up own below tells o e) m h = keeps old new _ ever e refl m h
move_has dealer n i ever old out new (move.promises ballot slot told up had below tells o e) m h = keeps old new _ ever e refl m h
move_has dealer n i ever old out new (move.proposes ballot first slot command up began none own may o e) m h = keeps old new _ ever e refl m h
move_has dealer n i ever old out new (move.accepts ballot slot command up had above o e) m h = keeps old new _ ever e refl m h
move_has dealer n i ever old out new (move.repeats ballot slot command up held above o e) m h = keeps old new _ ever e refl m h
move_has dealer n i ever old out new (move.refuses ballot slot greater up o e) m h = keeps old new _ ever e refl m h
move_has dealer n i ever old out new (move.learns slot command up chosen o e) m h = keeps old new _ ever e refl m h
move_has dealer n i ever old out new (move.believes sender slot command up had o e) m h = keeps old new _ ever e refl m h
move_has dealer n i ever old out new (move.tells slot command up knows o e) m h = keeps old new _ ever e refl m h
move_has dealer n i ever old out new (move.asks slot up o e) m h = keeps old new _ ever e refl m h
move_has dealer n i ever old out new (move.forwards command up said o e) m h = keeps old new _ ever e refl m h
move_has dealer n i ever old out new (move.shows commands reader text up knows low is o e) m h = keeps old new _ ever e refl m h
move_has dealer n i ever old out new (move.stops begun up append o e) m h = keeps old new _ ever e refl m h
move_has dealer n i ever old out new (move.starts store down left o e) m h = absurd (subst (λ (l : List Message). In m l) (ap (λ (y : Node). y.has) e) h)

-- all that nodes have was sent
abbrev AreSent : World → Type 0
AreSent w = (j : ℕ) (m : Message) → In m (w.nodes j).has → In m w.ever

step_sent : (dealer : Dealer) (n : ℕ) (old : World) (i : ℕ) (out : Output) (node : Node) (new : World)
    → AreSent old → Move dealer n i old.ever (old.nodes i) out node → IsAfter old i out node new → AreSent new
step_sent dealer n old i out node new sent step after j m h = subst (λ (l : List Message). In m l) (sym after.ever) (in_later out.sent old.ever m (by_node (cases_eq j i)))
  where
    by_node : (j ≡ i) ⊎ (j ≢ i) → In m old.ever
    by_node (inl e) = elim (move_has dealer n i old.ever (old.nodes i) out node step m (subst (λ (y : Node). In m y.has) (ap new.nodes e ∙ after.moved) h)) [
      | inl had ↦ sent i m had
      | inr now ↦ now
    ]
    by_node (inr other) = sent j m (subst (λ (y : Node). In m y.has) (after.others j other) h)

sent_on : (dealer : Dealer) (n : ℕ) (first last : World) → AreSent first → Run dealer n first last → AreSent last
sent_on dealer n first last sent world.start = sent
sent_on dealer n first last sent (world.more between i out node end run within step after) =
    step_sent dealer n between i out node end (sent_on dealer n first between sent run) step after

pub had_was_sent : (dealer : Dealer) (n i : ℕ) (w : World) (m : Message) → Reached dealer n w → In m (w.nodes i).has → In m w.ever
had_was_sent dealer n i w m run h = sent_on dealer n new_world w (λ j o k. absurd k) run i m h

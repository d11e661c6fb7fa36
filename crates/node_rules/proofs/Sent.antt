-- What a node sent in a chain of moves.
use Rattle.std.proofs.Common.{◌≡◌, ℕ, ◌⊎◌, inl, inr, List, ◌++◌, sym, ap, subst}
use Rattle.protocol_model.specs.Sets.{In}
use Rattle.protocol_model.specs.Messages.{Message}
use Rattle.protocol_model.specs.Dealers.{Dealer}
use Rattle.protocol_model.specs.Nodes.{Node}
use Rattle.protocol_model.specs.Moves.{Output, Move, gets, connects, drops, closes, hears, notes, ordered, begins, promises, proposes, accepts, repeats, refuses, learns, believes, tells, asks, forwards, shows, stops, starts, Chain, none, more}
use Rattle.protocol_model.proofs.Sets.{in_later, in_first, in_split}

-- ---- what a chain of moves sent

same_sent : (new old : Node) (m : Message) → new ≡ old → In m new.sent → In m old.sent
same_sent new old m e h = subst (λ (k : Node). In m k.sent) e h

-- the node has sent no more than this
sent_one : (new : Node) (old sent : List Message) (out : Output) (m : Message) → new.sent ≡ sent ++ old → out.sent ≡ sent → In m new.sent → In m out.sent ⊎ In m old
sent_one new old sent out m en eo h = elim (in_split sent old m (subst (λ (l : List Message). In m l) en h)) [
  | inl one ↦ inl (subst (λ (l : List Message). In m l) (sym eo) one)
  | inr before ↦ inr before
]

sent_after_move : (dealer : Dealer) (n i : ℕ) (ever : List Message) (old : Node) (out : Output) (new : Node) (m : Message) → Move dealer n i ever old out new → In m new.sent → In m out.sent ⊎ In m old.sent
sent_after_move dealer n i ever old out new m (gets message up sent eo en) h = inr (same_sent new _ m en h)
sent_after_move dealer n i ever old out new m (connects seat up eo en) h = inr (same_sent new _ m en h)
sent_after_move dealer n i ever old out new m (drops seat up eo en) h = inr (same_sent new _ m en h)
sent_after_move dealer n i ever old out new m (closes seat up eo en) h = inr (same_sent new _ m en h)
sent_after_move dealer n i ever old out new m (hears seat bytes up eo en) h = inr (same_sent new _ m en h)
sent_after_move dealer n i ever old out new m (notes seat bytes before line command up heard knows line_had says eo en) h =
    sent_one new old.sent _ out m (ap (λ (k : Node). k.sent) en) (ap (λ (o : Output). o.sent) eo) h
sent_after_move dealer n i ever old out new m (ordered before command up knows hole orders eo en) h =
    sent_one new old.sent _ out m (ap (λ (k : Node). k.sent) en) (ap (λ (o : Output). o.sent) eo) h
sent_after_move dealer n i ever old out new m (begins ballot slot told up mine above tells_it eo en) h =
    sent_one new old.sent _ out m (ap (λ (k : Node). k.sent) en) (ap (λ (o : Output). o.sent) eo) h
sent_after_move dealer n i ever old out new m (promises ballot slot told up had above tells_it eo en) h =
    sent_one new old.sent _ out m (ap (λ (k : Node). k.sent) en) (ap (λ (o : Output). o.sent) eo) h
sent_after_move dealer n i ever old out new m (proposes ballot first slot command up began once mine may eo en) h =
    sent_one new old.sent _ out m (ap (λ (k : Node). k.sent) en) (ap (λ (o : Output). o.sent) eo) h
sent_after_move dealer n i ever old out new m (accepts ballot slot command up had above eo en) h =
    sent_one new old.sent _ out m (ap (λ (k : Node). k.sent) en) (ap (λ (o : Output). o.sent) eo) h
sent_after_move dealer n i ever old out new m (repeats ballot slot command up held above eo en) h =
    sent_one new old.sent _ out m (ap (λ (k : Node). k.sent) en) (ap (λ (o : Output). o.sent) eo) h
sent_after_move dealer n i ever old out new m (refuses ballot slot greater up eo en) h =
    sent_one new old.sent _ out m (ap (λ (k : Node). k.sent) en) (ap (λ (o : Output). o.sent) eo) h
sent_after_move dealer n i ever old out new m (learns slot command up chosen eo en) h = inr (same_sent new _ m en h)
sent_after_move dealer n i ever old out new m (believes sender slot command up had eo en) h = inr (same_sent new _ m en h)
sent_after_move dealer n i ever old out new m (tells slot command up known eo en) h =
    sent_one new old.sent _ out m (ap (λ (k : Node). k.sent) en) (ap (λ (o : Output). o.sent) eo) h
sent_after_move dealer n i ever old out new m (asks slot up eo en) h =
    sent_one new old.sent _ out m (ap (λ (k : Node). k.sent) en) (ap (λ (o : Output). o.sent) eo) h
sent_after_move dealer n i ever old out new m (forwards command up said eo en) h =
    sent_one new old.sent _ out m (ap (λ (k : Node). k.sent) en) (ap (λ (o : Output). o.sent) eo) h
sent_after_move dealer n i ever old out new m (shows commands reader text up knows low is eo en) h = inr (same_sent new _ m en h)
sent_after_move dealer n i ever old out new m (stops begun up append eo en) h = inr (same_sent new _ m en h)
sent_after_move dealer n i ever old out new m (starts store down found eo en) h = absurd (same_sent new _ m en h)

pub sent_by_chain : (dealer : Dealer) (n i : ℕ) (ever : List Message) (old : Node) (out : Output) (new : Node) (m : Message) → Chain dealer n i ever old out new → In m new.sent
    → In m out.sent ⊎ In m old.sent
sent_by_chain dealer n i ever old out new m (none o k eo en) h = inr (same_sent new old m en h)
sent_by_chain dealer n i ever old out new m (more earlier between later o k chain move eo) h =
    elim (sent_after_move dealer n i (earlier.sent ++ ever) between later new m move h) [
      | inl one ↦ inl (subst (λ (y : Output). In m y.sent) (sym eo) (in_first later.sent earlier.sent m one))
      | inr before ↦ elim (sent_by_chain dealer n i ever old earlier between m chain before) [
        | inl one ↦ inl (subst (λ (y : Output). In m y.sent) (sym eo) (in_later later.sent earlier.sent m one))
        | inr first ↦ inr first
      ]
    ]

-- Starts in a chain of moves: what came tells of each, and a node that is down does nothing else.
use Rattle.std.proofs.Common.{◌≡◌, ℕ, ◌+◌, true, List, [], ◌∷◌, ◌++◌, refl, ap, sym, ◌∙◌, arith}
use Rattle.protocol_model.specs.Messages.{Message}
use Rattle.protocol_model.specs.Arrivals.{Event, Arrival, Started, Connected, Dropped, Closed, Came, Ordered}
use Rattle.protocol_model.specs.Nodes.{Node}
use Rattle.protocol_model.specs.Dealers.{Dealer}
use Rattle.protocol_model.specs.Moves
use Rattle.protocol_model.specs.Moves.{Output, Move, Chain}

abbrev pub is_start : Event → ℕ
is_start (Started node) = 1
is_start (Connected node seat) = 0
is_start (Dropped node seat) = 0
is_start (Ordered node front) = 0
is_start (Closed node seat) = 0
is_start (Came node seat bytes) = 0

-- how many starts are among these
abbrev pub starts_in : List Arrival → ℕ
starts_in [] = 0
starts_in (latest ∷ before) = is_start latest.event + starts_in before

starts_append : (later earlier : List Arrival) → starts_in (later ++ earlier) ≡ starts_in later + starts_in earlier
starts_append [] earlier = omega arith
starts_append (latest ∷ later) earlier = let e = starts_append later earlier in omega arith

-- each start is counted, and without one only a node that was up is up
pub record Counts (old : Node) (out : Output) (new : Node) : Type 0 where
  pub starts : starts_in out.came + old.starts ≡ new.starts
  pub awake : starts_in out.came ≡ 0 → new.up ≡ true → old.up ≡ true

quiet : (old : Node) (out o : Output) (new v : Node) → out ≡ o → new ≡ v → starts_in o.came ≡ 0 → v.starts ≡ old.starts → old.up ≡ true → Counts old out new
quiet old out o new v eo en none same up = record {
  starts = let a = ap (λ (x : Output). starts_in x.came) eo in let b = ap (λ (x : Node). x.starts) en in omega arith;
  awake = λ still is. up;
}

move_counts : (dealer : Dealer) (n i : ℕ) (ever : List Message) (old : Node) (out : Output) (new : Node) → Move dealer n i ever old out new → Counts old out new
move_counts dealer n i ever old out new (Moves.gets message up sent eo en) = quiet old out _ new _ eo en refl refl up
move_counts dealer n i ever old out new (Moves.connects seat up eo en) = quiet old out _ new _ eo en refl refl up
move_counts dealer n i ever old out new (Moves.drops seat up eo en) = quiet old out _ new _ eo en refl refl up
move_counts dealer n i ever old out new (Moves.closes seat up eo en) = quiet old out _ new _ eo en refl refl up
move_counts dealer n i ever old out new (Moves.hears seat bytes up eo en) = quiet old out _ new _ eo en refl refl up
move_counts dealer n i ever old out new (Moves.notes seat bytes before line command up heard knows holds says eo en) = quiet old out _ new _ eo en refl refl up
move_counts dealer n i ever old out new (Moves.ordered before command up knows hole orders eo en) = quiet old out _ new _ eo en refl refl up
move_counts dealer n i ever old out new (Moves.begins ballot slot told up own below tells eo en) = quiet old out _ new _ eo en refl refl up
move_counts dealer n i ever old out new (Moves.promises ballot slot told up has below tells eo en) = quiet old out _ new _ eo en refl refl up
move_counts dealer n i ever old out new (Moves.proposes ballot first slot command up prepared unproposed own may eo en) = quiet old out _ new _ eo en refl refl up
move_counts dealer n i ever old out new (Moves.accepts ballot slot command up has most eo en) = quiet old out _ new _ eo en refl refl up
move_counts dealer n i ever old out new (Moves.repeats ballot slot command up stored most eo en) = quiet old out _ new _ eo en refl refl up
move_counts dealer n i ever old out new (Moves.refuses ballot slot greater up eo en) = quiet old out _ new _ eo en refl refl up
move_counts dealer n i ever old out new (Moves.learns slot command up chosen eo en) = quiet old out _ new _ eo en refl refl up
move_counts dealer n i ever old out new (Moves.believes sender slot command up has eo en) = quiet old out _ new _ eo en refl refl up
move_counts dealer n i ever old out new (Moves.tells slot command up knows eo en) = quiet old out _ new _ eo en refl refl up
move_counts dealer n i ever old out new (Moves.asks slot up eo en) = quiet old out _ new _ eo en refl refl up
move_counts dealer n i ever old out new (Moves.forwards command up said eo en) = quiet old out _ new _ eo en refl refl up
move_counts dealer n i ever old out new (Moves.shows commands reader text up knows least shows eo en) = quiet old out _ new _ eo en refl refl up
move_counts dealer n i ever old out new (Moves.stops begun up append eo en) = quiet old out _ new _ eo en refl refl up
move_counts dealer n i ever old out new (Moves.starts store down found eo en) = record {
  starts = let a = ap (λ (x : Output). starts_in x.came) eo in let b = ap (λ (x : Node). x.starts) en in omega arith;
  awake = λ still is. let a = ap (λ (x : Output). starts_in x.came) eo in absurd (omega arith);
}

pub chain_counts : (dealer : Dealer) (n i : ℕ) (ever : List Message) (old : Node) (out : Output) (new : Node) → Chain dealer n i ever old out new → Counts old out new
chain_counts dealer n i ever old out new (Moves.none _ _ eo en) = record {
  starts = let a = ap (λ (x : Output). starts_in x.came) eo in let b = ap (λ (x : Node). x.starts) en in omega arith;
  awake = λ still up. sym (ap (λ (x : Node). x.up) en) ∙ up;
}
chain_counts dealer n i ever old out new (Moves.more earlier between later _ _ chain move eo) =
    let first = chain_counts dealer n i ever old earlier between chain in
    let last = move_counts dealer n i (earlier.sent ++ ever) between later new move in
    let sum = ap (λ (x : Output). starts_in x.came) eo ∙ starts_append later.came earlier.came in
    record {
      starts = let a = first.starts in let b = last.starts in omega arith;
      awake = λ still up. first.awake (omega arith) (last.awake (omega arith) up);
    }

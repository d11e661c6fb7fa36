-- Feeding a stream piece by piece.
use Rattle.std.proofs.Common.{◌≡◌, ℕ, zero, suc, ◌+◌, ◌<◌, ◌≤◌, List, [], ◌∷◌, ◌++◌, length, take, drop, get_or, Some, None, sym, ap, subst, ◌∙◌, arith, append_assoc, inl, inr}
use Rattle.std.specs.List.{flat_map, AllByRecursion}
use Rattle.std.proofs.lemmas.List.{take_all, take_more, flat_map_more}
use Rattle.std.proofs.lemmas.List.Concat.{flat_map-cons}
use Rattle.paxos_wire.specs.declared.fault.FrameFault.{FrameFault}
use Rattle.paxos_wire.specs.declared.message.Message.{Message}
use Rattle.paxos_wire.specs.Fits.{IsMessage}
use Rattle.paxos_wire.specs.Stream.{needed, IsPartial, IsFaulty, Takes, IsStreamOf, Splits}
use Rattle.paxos_wire.proofs.StreamLaws.{piece_more, fault_stays}

-- nothing is less than a frame
pub nothing_partial : (rest : List ℕ) → rest ≡ [] → IsPartial rest
unfolding needed
nothing_partial rest e = rw e (omega arith)

-- all pieces are those before, this one and those behind it
pub cut_at : {A : Type 0} (f : A → List ℕ) (xs : List A) (i : ℕ) (x : A) → i < length xs → x ≡ get_or xs i x
    → flat_map f xs ≡ flat_map f (take i xs) ++ (f x ++ flat_map f (drop (suc i) xs))
cut_at f [] i x lt is = absurd (omega arith)
cut_at f (y ∷ ys) zero x lt is = flat_map-cons f y ys ∙ ap (λ a. f a ++ flat_map f ys) (sym is)
cut_at {A} f (y ∷ ys) (suc i) x lt is =
    let rest = cut_at f ys i x (omega arith) is in
    flat_map-cons f y ys ∙ ap (λ (w : List ℕ). f y ++ w) rest ∙ sym (append_assoc (f y) (flat_map f (take i ys)) (f x ++ flat_map f (drop (suc i) ys))) ∙ ap (λ (w : List ℕ). w ++ (f x ++ flat_map f (drop (suc i) ys))) (sym (flat_map-cons f y (take i ys)))

-- what isn't at fault takes the piece
pub taken : (old piece new : List ℕ) → IsPartial old → Takes old piece new → new ≡ old ++ piece
taken old piece new partial (inl appended) = appended
taken old piece new partial (inr faulty) = absurd (omega (arith, partial, faulty.1.there))

-- the fault that came with a piece is that of the whole stream
pub faulted : (all front piece more : List ℕ) (ms new : List Message) (waiting fed left : List ℕ) (f : FrameFault)
    → all ≡ front ++ (piece ++ more) → IsStreamOf ms waiting front → fed ≡ waiting ++ piece → ((stream : List ℕ) → IsStreamOf ms fed stream → IsStreamOf new left stream)
    → AllByRecursion IsMessage new → IsFaulty left f → Splits all new (Some f)
faulted all front piece more ms new waiting fed left f parts so_far took same each faulty =
    let begun : IsStreamOf ms fed (front ++ piece) = subst (λ (w : List ℕ). IsStreamOf ms w (front ++ piece)) (sym took) (piece_more ms waiting piece front so_far) in
    let whole : IsStreamOf new (left ++ more) ((front ++ piece) ++ more) = piece_more new left more (front ++ piece) (same (front ++ piece) begun) in
    record {
      rest = left ++ more;
      whole = subst (λ (w : List ℕ). IsStreamOf new (left ++ more) w) (append_assoc front piece more ∙ sym parts) whole;
      each = each;
      ends = fault_stays left more f faulty;
    }

-- without a fault the stream ends in less than a frame
pub ended : {A : Type 0} (f : A → List ℕ) (xs : List A) (i : ℕ) (ms : List Message) (waiting : List ℕ)
    → length xs ≤ i → IsStreamOf ms waiting (flat_map f (take i xs)) → AllByRecursion IsMessage ms → IsPartial waiting → Splits (flat_map f xs) ms None
ended f xs i ms waiting le so_far each partial = record { rest = waiting; whole = subst (λ (w : List ℕ). IsStreamOf ms waiting w) (ap (flat_map f) (take_all i xs le)) so_far; each = each; ends = partial }

-- one piece more was fed, and nothing of the stream is lost
pub fed_more : {A : Type 0} (f : A → List ℕ) (xs : List A) (i : ℕ) (x : A) (ms new : List Message) (waiting fed left : List ℕ) → i < length xs → x ≡ get_or xs i x
    → IsStreamOf ms waiting (flat_map f (take i xs)) → fed ≡ waiting ++ f x → ((stream : List ℕ) → IsStreamOf ms fed stream → IsStreamOf new left stream)
    → IsStreamOf new left (flat_map f (take (i + 1) xs))
fed_more {A} f xs i x ms new waiting fed left lt is so_far took same =
    let front : flat_map f (take (i + 1) xs) ≡ flat_map f (take i xs) ++ f x = ap (flat_map f) (take_more xs i x lt ∙ ap (λ (y : A). take i xs ++ y ∷ []) (sym is)) ∙ sym (flat_map_more f [] (take i xs) x) in
    let begun : IsStreamOf ms fed (flat_map f (take i xs) ++ f x) = subst (λ (w : List ℕ). IsStreamOf ms w (flat_map f (take i xs) ++ f x)) (sym took) (piece_more ms waiting (f x) (flat_map f (take i xs)) so_far) in
    subst (λ (w : List ℕ). IsStreamOf new left w) (sym front) (same (flat_map f (take i xs) ++ f x) begun)

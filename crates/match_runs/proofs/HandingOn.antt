-- What passed over the links while turns were made, beside what the record showed.
use Rattle.std.proofs.Common.{◌≡◌, ℕ, ◌≤◌, List, [], ◌∷◌, ◌++◌, length, take, drop, inl, inr, refl, sym, ap, subst, ◌∙◌, append_assoc, arith}
use Rattle.std.specs.Prelude.{Option, Some, None, Result, Ok}
use Rattle.std.specs.List.{flat_map}
use Rattle.std.proofs.lemmas.List.{append-nil, take-append-le, take-take, drop-append-le, drop_all, take-append-drop, length-take-le}
use Rattle.std.proofs.lemmas.Grind.{flat_map-append}
use Rattle.promise_store.specs.declared.disk.Disk.{Ghosts}
use Rattle.protocol_model.specs.Dealers.{Reader}
use Rattle.dealer_node.specs.Nodes.{Node}
use Rattle.dealer_node.specs.declared.fault.NodeFault.{NodeFault}
use Rattle.dealer_node.specs.Outs.{Told as Made}
use Rattle.dealer_world.specs.Records.{Piece}
use Rattle.dealer_world.specs.Stepping.{View, Gains, nothing, call}
use Rattle.dealer_world.specs.declared.event.Event.{Event}
use Rattle.dealer_world.specs.declared.event.Event.TheVariants as event
use Rattle.match_links.specs.Passages.{Passage}
use Rattle.serving.specs.declared.place.Place.{Place}
use Rattle.serving.specs.declared.waiting.Waiting.{Waiting}
use Rattle.serving.specs.declared.turn.Turn.{Turn}
use Rattle.serving.specs.declared.serve_fault.ServeFault.{ServeFault}
use Rattle.serving.specs.Giving.{given_to, given_as, taken, taken_for, IsGiven, AreGiven}
use Rattle.serving.specs.Served.{Served}
use Rattle.serving.specs.Turned.{Turned, Gave, HasGivenAll}
use Rattle.match_runs.specs.Passing.{put_by, told_by, IsPart, pieces_between, IsWithin, HandsOn}

-- ---- parts of lists

part_none : {X : Type 0} (ys : List X) → IsPart [] ys
part_none [] = refl
part_none (y ∷ ys) = inl (part_none ys)

part_all : {X : Type 0} (xs : List X) → IsPart xs xs
part_all [] = refl
part_all (x ∷ xs) = inr (xs, refl, part_all xs)

part_joined : {X : Type 0} (a xs b ys : List X) → IsPart a xs → IsPart b ys → IsPart (a ++ b) (xs ++ ys)
part_joined {X} a [] b ys p q = subst (λ (z : List X). IsPart (z ++ b) ys) (sym p) q
part_joined a (x ∷ xs) b ys (inl p) q = inl (part_joined a xs b ys p q)
part_joined a (x ∷ xs) b ys (inr (rest, is, p)) q = inr (rest ++ b, ap (λ z. z ++ b) is, part_joined rest xs b ys p q)

-- pieces up to a moment, and those from there on
joined_between : (xs more : List Piece) (o m n : ℕ) → o ≤ m → m ≤ n → m ≤ length xs
    → pieces_between xs o m ++ pieces_between (xs ++ more) m n ≡ pieces_between (xs ++ more) o n
joined_between xs more o m n first second within =
    let zs = take n (xs ++ more) in
    let front : take m zs ≡ take m xs = take-take m n (xs ++ more) second ∙ take-append-le m xs more within in
    let size : length (take m zs) ≡ m = ap length front ∙ length-take-le m xs within in
    ap (λ z. drop o z ++ drop m zs) (sym front)
    ∙ sym (drop-append-le o (take m zs) (drop m zs) (omega (arith, first, size)))
    ∙ ap (drop o) (take-append-drop m zs)

-- ---- what is taken for an event goes to nobody

taken_for_none : (e : Event) → (flat_map put_by (taken_for e) ≡ []) × (flat_map told_by (taken_for e) ≡ [])
taken_for_none (event.Frame from to bytes) = (refl, refl)
taken_for_none (event.Line node seat bytes) = (refl, refl)
taken_for_none (event.Tick node) = (refl, refl)
taken_for_none (event.Away node) = (refl, refl)
taken_for_none (event.Connect node seat) = (refl, refl)
taken_for_none (event.Drop node seat) = (refl, refl)
taken_for_none (event.Stop node pick) = (refl, refl)
taken_for_none (event.Start node) = (refl, refl)

taken_none : (before : Option Waiting) (waiting : Waiting) → (flat_map put_by (taken before (Some waiting)) ≡ []) × (flat_map told_by (taken before (Some waiting)) ≡ [])
taken_none None waiting = taken_for_none waiting.event
taken_none (Some before) waiting = (refl, refl)

-- ---- pieces that were given

one_put : (places : List Place) (piece : Piece) (given : List Passage) → IsGiven places piece given → flat_map put_by given ≡ put_by (given_as piece)
one_put places piece given (inl is) = ap (flat_map put_by) is ∙ append-nil (put_by (given_as piece))
one_put places piece given (inr ((seat, reader, away), none)) =
    ap (flat_map put_by) none ∙ subst (λ (r : Reader). [] ≡ put_by (given_to r piece.node piece.text)) (sym reader) refl

one_told : (places : List Place) (piece : Piece) (given : List Passage) → IsGiven places piece given → IsPart (flat_map told_by given) (told_by (given_as piece))
one_told places piece given (inl is) =
    subst (λ (z : List Passage). IsPart z (told_by (given_as piece))) (sym (ap (flat_map told_by) is ∙ append-nil (told_by (given_as piece)))) (part_all (told_by (given_as piece)))
one_told places piece given (inr (away, none)) =
    subst (λ (z : List Passage). IsPart (flat_map told_by z) (told_by (given_as piece))) (sym none) (part_none (told_by (given_as piece)))

all_put : (places : List Place) (pieces : List Piece) (given : List Passage) → AreGiven places pieces given
    → flat_map put_by given ≡ flat_map (λ piece. put_by (given_as piece)) pieces
all_put places [] given is = ap (flat_map put_by) is
all_put places (piece ∷ pieces) given (first, rest, one, more, parts) =
    ap (flat_map put_by) parts ∙ flat_map-append put_by first rest ∙ ap (λ z. z ++ flat_map put_by rest) (one_put places piece first one)
    ∙ ap (λ z. put_by (given_as piece) ++ z) (all_put places pieces rest more)

all_told : (places : List Place) (pieces : List Piece) (given : List Passage) → AreGiven places pieces given
    → IsPart (flat_map told_by given) (flat_map (λ piece. told_by (given_as piece)) pieces)
all_told places [] given is = ap (flat_map told_by) is
all_told places (piece ∷ pieces) given (first, rest, one, more, parts) =
    subst (λ (z : List Passage). IsPart z (flat_map (λ p. told_by (given_as p)) (piece ∷ pieces))) (sym (ap (flat_map told_by) parts ∙ flat_map-append told_by first rest))
    (part_joined (flat_map told_by first) (told_by (given_as piece)) (flat_map told_by rest) (flat_map (λ p. told_by (given_as p)) pieces)
    (one_told places piece first one) (all_told places pieces rest more))

-- ---- from moment to moment

pub hands_here : {N : Type 0} (s : Served N) → IsWithin s → HandsOn s s
hands_here s within =
    let nothing_between : pieces_between s.view.all.shown s.shown s.shown ≡ [] =
    drop_all s.shown (take s.shown s.view.all.shown) (omega (arith, length-take-le s.shown s.view.all.shown within)) in
    record {
      passing = [];
      passed = sym (append-nil s.passed);
      more = [];
      grown = sym (append-nil s.view.all.shown);
      onwards = omega arith;
      within = within;
      logs = ap (flat_map (λ piece. put_by (given_as piece))) (sym nothing_between);
      seats = part_none (flat_map (λ piece. told_by (given_as piece)) (pieces_between s.view.all.shown s.shown s.shown));
    }

-- the record only grows
shown_grows : {N : Type 0} (e : Event) (is_up : _) (front : ℕ) (told : Made) (old new : View N) (answer : Result (Unit {0}) NodeFault) → Gains e is_up front told old new answer
    → (more : List Piece) × (new.all.shown ≡ old.all.shown ++ more)
shown_grows e is_up front told old new answer (nothing want is all last) = ([], ap (λ r. r.shown) all ∙ sym (append-nil old.all.shown))
shown_grows e is_up front told old new answer (call got is all last) = (_, ap (λ r. r.shown) all)

gives_on : {D : Type 0} (g : Ghosts D) (waiting : Waiting) (old new : Served (Node D)) (answer : Result Turn ServeFault) → Gave g waiting (taken old.waiting (Some waiting)) old answer new → HandsOn old new
gives_on g waiting old new answer gave =
    let took = taken old.waiting (Some waiting) in
    let given = gave.passes.given in
    let gives = gave.passes.gives in
    let none = taken_none old.waiting waiting in
    let grows = shown_grows _ _ _ _ _ _ _ gave.stepped.gains in
    record {
      passing = took ++ given;
      passed = gave.passes.passed;
      more = grows.0;
      grown = grows.1;
      onwards = gives.onwards;
      within = gives.within;
      logs = flat_map-append put_by took given ∙ ap (λ z. z ++ flat_map put_by given) none.0 ∙ all_put _ _ given gives.each;
      seats = subst (λ (z : List Passage). IsPart z (flat_map (λ p. told_by (given_as p)) (pieces_between new.view.all.shown old.shown new.shown)))
          (sym (flat_map-append told_by took given ∙ ap (λ z. z ++ flat_map told_by given) none.1)) (all_told _ _ given gives.each);
    }

pub turn_hands_on : {D : Type 0} (g : Ghosts D) (old new : Served (Node D)) (answer : Result Turn ServeFault) → IsWithin old → Turned g old answer new → HandsOn old new
turn_hands_on g old new answer within (inl (same, idle)) = subst (HandsOn old) (sym same) (hands_here old within)
turn_hands_on g old new answer within (inr (waiting, next, gave)) = gives_on g waiting old new answer gave

pub hands_on_twice : {N : Type 0} (a b c : Served N) → HandsOn a b → HandsOn b c → HandsOn a c
hands_on_twice a b c p q =
    let whole : c.view.all.shown ≡ b.view.all.shown ++ q.more = q.grown in
    let joined = joined_between b.view.all.shown q.more a.shown b.shown c.shown p.onwards q.onwards p.within in
    let pieces : pieces_between b.view.all.shown a.shown b.shown ++ pieces_between c.view.all.shown b.shown c.shown ≡ pieces_between c.view.all.shown a.shown c.shown =
    subst (λ (z : List Piece). pieces_between b.view.all.shown a.shown b.shown ++ pieces_between z b.shown c.shown ≡ pieces_between z a.shown c.shown) (sym whole) joined in
    record {
      passing = p.passing ++ q.passing;
      passed = q.passed ∙ ap (λ z. z ++ q.passing) p.passed ∙ append_assoc a.passed p.passing q.passing;
      more = p.more ++ q.more;
      grown = q.grown ∙ ap (λ z. z ++ q.more) p.grown ∙ append_assoc a.view.all.shown p.more q.more;
      onwards = omega (arith, p.onwards, q.onwards);
      within = q.within;
      logs = flat_map-append put_by p.passing q.passing ∙ ap (λ z. z ++ flat_map put_by q.passing) p.logs
          ∙ ap (λ z. flat_map (λ piece. put_by (given_as piece)) (pieces_between b.view.all.shown a.shown b.shown) ++ z) q.logs
          ∙ sym (flat_map-append (λ piece. put_by (given_as piece)) (pieces_between b.view.all.shown a.shown b.shown) (pieces_between c.view.all.shown b.shown c.shown))
          ∙ ap (flat_map (λ piece. put_by (given_as piece))) pieces;
      seats = subst (λ (z : List Piece). IsPart (flat_map told_by (p.passing ++ q.passing)) (flat_map (λ piece. told_by (given_as piece)) z)) pieces
          (subst (λ (z : List Passage). IsPart (flat_map told_by (p.passing ++ q.passing)) z)
          (sym (flat_map-append (λ piece. told_by (given_as piece)) (pieces_between b.view.all.shown a.shown b.shown) (pieces_between c.view.all.shown b.shown c.shown)))
          (subst (λ (z : List Passage). IsPart z (flat_map (λ piece. told_by (given_as piece)) (pieces_between b.view.all.shown a.shown b.shown)
          ++ flat_map (λ piece. told_by (given_as piece)) (pieces_between c.view.all.shown b.shown c.shown)))
          (sym (flat_map-append told_by p.passing q.passing))
          (part_joined (flat_map told_by p.passing) (flat_map (λ piece. told_by (given_as piece)) (pieces_between b.view.all.shown a.shown b.shown))
          (flat_map told_by q.passing) (flat_map (λ piece. told_by (given_as piece)) (pieces_between c.view.all.shown b.shown c.shown)) p.seats q.seats)));
    }

-- a turn that was answered Ok leaves nothing ungiven
pub turn_gives_all : {D : Type 0} (g : Ghosts D) (old new : Served (Node D)) (t : Turn) → HasGivenAll old → Turned g old (Ok t) new → HasGivenAll new
turn_gives_all g old new t all (inl (same, idle)) = subst HasGivenAll (sym same) all
turn_gives_all g old new t all (inr (waiting, next, gave)) = gave.all_given

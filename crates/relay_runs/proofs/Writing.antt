-- What passes, call by call.
use Rattle.std.proofs.Common.{◌≡◌, ℕ, ◌+◌, ◌<◌, ◌≤◌, ◌==◌, Bool, true, false, if◌then◌else◌, List, [], ◌∷◌, ◌++◌, take, drop, length, inl, inr, refl, ap, sym, subst, ◌∙◌, add-zero, arith}
use Rattle.std.proofs.lemmas.List.{take-append-drop}
use Rattle.std.proofs.lemmas.Bool.{eq-eqb}
use Rattle.node_wires.specs.declared.line.Line.{Line}
use Rattle.node_wires.specs.declared.line.Line.TheVariants.{Peer, Caller, Seat, Guest, Asker}
use Rattle.node_wires.specs.declared.way.Way.TheVariants.{Reading, Writing}
use Rattle.node_wires.specs.declared.halt.Halt.{Halt}
use Rattle.node_wires.specs.Passages.{Passage, Came, Wrote, halted_as, is_line, came_by, came_behind, wrote_by, wrote_behind}
use Rattle.relay_runs.specs.Since.{is_taken_in, since_by, since_behind, since_bot, bots_in, begins_there, begun_over}
use Rattle.relay_runs.specs.Said.{IsBeginning, Reads, Writes}

pub write_behind : (line : Line) (before : List ℕ) (xs : List Passage) (p : Passage) → wrote_behind line before (xs ++ p ∷ []) ≡ wrote_by line (wrote_behind line before xs) p
write_behind line before [] p = refl
write_behind line before (x ∷ xs) p = write_behind line (wrote_by line before x) xs p

pub came_more : (line : Line) (before : List ℕ) (xs : List Passage) (p : Passage) → came_behind line before (xs ++ p ∷ []) ≡ came_by line (came_behind line before xs) p
came_more line before [] p = refl
came_more line before (x ∷ xs) p = came_more line (came_by line before x) xs p

own_number : (n : ℕ) → (n == n) ≡ true
own_number n = eq-eqb n n refl

pub own_line : (line : Line) → is_line line line ≡ true
own_line (Peer n) = own_number n
own_line (Caller n) = own_number n
own_line (Seat n) = own_number n
own_line (Guest n) = own_number n
own_line (Asker n) = own_number n

-- ---- one call of a wire

pub nothing_written : (line : Line) (old new : List ℕ) (x y : List Passage) → new ≡ old → y ≡ x → Writes line old new x y
nothing_written line old new x y e f = inr (e, inl f)

pub written_in_vain : (line : Line) (halt : Halt) (old new : List ℕ) (x y : List Passage) → new ≡ old → y ≡ x ++ halted_as Writing line halt ∷ [] → Writes line old new x y
written_in_vain line halt old new x y e f = inr (e, inr (halt, f))

pub some_written : (line : Line) (count : ℕ) (old bytes new : List ℕ) (x y : List Passage) → bytes ≡ old → new ≡ drop count old → y ≡ x ++ Wrote line (take count bytes) ∷ [] → Writes line old new x y
some_written line count old bytes new x y same e f =
    inl (take count old, sym (take-append-drop count old) ∙ ap (λ (l : List ℕ). take count old ++ l) (sym e), subst (λ (w : List ℕ). y ≡ x ++ Wrote line (take count w) ∷ []) same f)

pub nothing_read : (line : Line) (old new : List ℕ) (x y : List Passage) → new ≡ old → y ≡ x → Reads line old new x y
nothing_read line old new x y e f = inr (e, inl f)

pub read_in_vain : (line : Line) (halt : Halt) (old new : List ℕ) (x y : List Passage) → new ≡ old → y ≡ x ++ halted_as Reading line halt ∷ [] → Reads line old new x y
read_in_vain line halt old new x y e f = inr (e, inr (halt, f))

pub some_read : (line : Line) (piece old new : List ℕ) (x y : List Passage) → IsBeginning old → length piece ≤ 512 → new ≡ old ++ piece → y ≡ x ++ Came line piece ∷ [] → Reads line old new x y
some_read line piece old new x y begins short e f = inl (piece, e, f, begins, short)

pub writes_as : (line : Line) (old other new : List ℕ) (x y : List Passage) → other ≡ old → Writes line old new x y → Writes line other new x y
writes_as line old other new x y e w = subst (λ (o : List ℕ). Writes line o new x y) (sym e) w

pub reads_as : (line : Line) (old other new : List ℕ) (x y : List Passage) → other ≡ old → Reads line old new x y → Reads line other new x y
reads_as line old other new x y e r = subst (λ (o : List ℕ). Reads line o new x y) (sym e) r

-- ---- since a bot was taken in

since_behind_more : (before x : List Passage) (p : Passage) → since_behind before (x ++ p ∷ []) ≡ since_by (since_behind before x) p
since_behind_more before [] p = refl
since_behind_more before (one ∷ x) p = since_behind_more (since_by before one) x p

pub since_more : (x y : List Passage) (p : Passage) → y ≡ x ++ p ∷ [] → is_taken_in p ≡ false → since_bot y ≡ since_bot x ++ p ∷ []
since_more x y p f isnt = ap since_bot f ∙ (since_behind_more [] x p ∙ ap (λ (t : Bool). if t then [] else since_bot x ++ p ∷ []) isnt)

pub since_taken : (x y : List Passage) (p : Passage) → y ≡ x ++ p ∷ [] → is_taken_in p ≡ true → since_bot y ≡ []
since_taken x y p f is = ap since_bot f ∙ (since_behind_more [] x p ∙ ap (λ (t : Bool). if t then [] else since_bot x ++ p ∷ []) is)

bots_behind : (x : List Passage) (p : Passage) → bots_in (x ++ p ∷ []) ≡ bots_in x + (if is_taken_in p then 1 else 0)
bots_behind [] p = omega arith
bots_behind (one ∷ x) p = let h : bots_in (x ++ p ∷ []) ≡ bots_in x + (if is_taken_in p then 1 else 0) = bots_behind x p in omega arith

pub bots_same : (x y : List Passage) (p : Passage) → y ≡ x ++ p ∷ [] → is_taken_in p ≡ false → bots_in y ≡ bots_in x
bots_same x y p f isnt = ap bots_in f ∙ (bots_behind x p ∙ (ap (λ (t : Bool). bots_in x + (if t then 1 else 0)) isnt ∙ add-zero (bots_in x)))

pub bots_more : (x y : List Passage) (p : Passage) → y ≡ x ++ p ∷ [] → is_taken_in p ≡ true → bots_in x < bots_in y
bots_more x y p f is =
    let h : bots_in y ≡ bots_in x + 1 = ap bots_in f ∙ (bots_behind x p ∙ ap (λ (t : Bool). bots_in x + (if t then 1 else 0)) is) in omega arith

pub bots_one : (x y : List Passage) (p : Passage) → y ≡ x ++ p ∷ [] → is_taken_in p ≡ true → bots_in y ≡ bots_in x + 1
bots_one x y p f is = ap bots_in f ∙ (bots_behind x p ∙ ap (λ (t : Bool). bots_in x + (if t then 1 else 0)) is)

-- ---- connections that began

begun_behind : (x : List Passage) (p : Passage) (line : Line) → begun_over (x ++ p ∷ []) line ≡ begun_over x line + (if begins_there line p then 1 else 0)
begun_behind [] p line = omega arith
begun_behind (one ∷ x) p line = let h : begun_over (x ++ p ∷ []) line ≡ begun_over x line + (if begins_there line p then 1 else 0) = begun_behind x p line in omega arith

pub more_begun : (x y : List Passage) (p : Passage) (line : Line) → y ≡ x ++ p ∷ [] → begun_over y line ≡ begun_over x line + (if begins_there line p then 1 else 0)
more_begun x y p line f = ap (λ (ps : List Passage). begun_over ps line) f ∙ begun_behind x p line

-- How what a call shows comes behind what was shown before.
use Rattle.std.proofs.Common.{◌≡◌, ◌≢◌, ℕ, suc, ◌+◌, ◌<◌, ◌≤◌, inl, inr, ◌==◌, ◌&&◌, Bool, true, false, cond, eq-eqb, ne_eqb, eqb-true, List, [], ◌∷◌, ◌++◌, map, reverse, refl, ap, sym, ◌∙◌, subst, arith}
use Rattle.std.proofs.lemmas.List.{append-nil, reverse-append}
use Rattle.std.proofs.lemmas.Bool.{and_parts, cond_both}
use Rattle.protocol_model.specs.Sets.{In}
use Rattle.protocol_model.specs.Dealers.{Reader, Seat, Log}
use Rattle.protocol_model.specs.Moves.{Shown}
use Rattle.dealer_world.specs.Records.{Record, Arrived, Start, Piece, logged_by, log_in, log_of, start_count, last_start}
use Rattle.dealer_world.specs.Headline.{text_by}
use Rattle.dealer_world.specs.Calls.{Text, Made, AreTold, added_by, log_after, log_before, read_by, HasHeader}
use Rattle.dealer_world.specs.Views.{piece_of, starts_after, grown}
use Rattle.dealer_world.specs.Behind.{ArePieces, AreBegun, HaveHeaders}
use Rattle.protocol_model.proofs.Sets.{in_first, in_later, in_split}
use Rattle.dealer_world.proofs.Lists.{cons_not_nil, reverse_map, in_reversed}

both_own : (i k : ℕ) → ((i == i) && (k == k)) ≡ true
both_own i k = ap (λ b. b && (k == k)) (eq-eqb i i refl) ∙ eq-eqb k k refl

-- what a text of a node and start adds to that log, and to another's
logged_own : (reader : Reader) (i k : ℕ) (text : List ℕ) → logged_by reader (record { node = i; start = k; reader = reader; text = text }) i k ≡ added_by reader text
logged_own (Seat seat) i k text = refl
logged_own Log i k text = ap (λ b. cond b text []) (both_own i k)

logged_other : (reader : Reader) (i k j l : ℕ) (text : List ℕ) → i ≢ j
    → logged_by reader (record { node = i; start = k; reader = reader; text = text }) j l ≡ []
logged_other (Seat seat) i k j l text other = refl
logged_other Log i k j l text other = ap (λ b. cond (b && (k == l)) text []) (ne_eqb i j other)

-- the log behind these texts
pub log_own : (i k : ℕ) (texts : List Text) (before : List Piece) → log_in (map (piece_of i k) texts ++ before) i k ≡ log_after (log_in before i k) texts
log_own i k [] before = refl
log_own i k (text ∷ texts) before =
    ap (λ log. log ++ logged_by text.reader (piece_of i k text) i k) (log_own i k texts before)
    ∙ ap (λ added. log_after (log_in before i k) texts ++ added) (logged_own text.reader i k text.text)

pub log_other : (i k j l : ℕ) (texts : List Text) (before : List Piece) → i ≢ j → log_in (map (piece_of i k) texts ++ before) j l ≡ log_in before j l
log_other i k j l [] before other = refl
log_other i k j l (text ∷ texts) before other =
    ap (λ log. log ++ logged_by text.reader (piece_of i k text) j l) (log_other i k j l texts before other)
    ∙ (ap (λ added. log_in before j l ++ added) (logged_other text.reader i k j l text.text other) ∙ append-nil (log_in before j l))

-- what was shown before and now, newest first
pub newest_first : (shown : List Piece) (i k : ℕ) (texts : List Text)
    → reverse (shown ++ map (piece_of i k) texts) ≡ map (piece_of i k) (reverse texts) ++ reverse shown
newest_first shown i k texts = reverse-append shown (map (piece_of i k) texts) ∙ ap (λ xs. xs ++ reverse shown) (reverse_map (piece_of i k) texts)

whole_by : (reader : Reader) (i k : ℕ) (text log : List ℕ) (before : List Piece) → log_in before i k ≡ log
    → read_by reader log text ≡ text_by reader before (record { node = i; start = k; reader = reader; text = text })
whole_by (Seat seat) i k text log before is = refl
whole_by Log i k text log before is = ap (λ l. l ++ text) (sym is)

-- texts that were told are pieces behind those before
pub pieces_more : (base : ℕ → ℕ) (i k start : ℕ) (out latest : List Shown) (texts : List Text) (before : List Piece)
    → (texts ≢ [] → start ≡ base i + k) → AreTold i start (log_in before i k) out texts → ArePieces base latest before
    → ArePieces base (out ++ latest) (map (piece_of i k) texts ++ before)
pieces_more base i k start [] latest [] before starts told pieces = pieces
pieces_more base i k start [] latest (text ∷ texts) before starts told pieces = absurd told
pieces_more base i k start (shown ∷ out) latest [] before starts told pieces = absurd told
pieces_more base i k start (shown ∷ out) latest (text ∷ texts) before starts (first, told) pieces = (
  record {
    node = first.of_node;
    start = first.in_start ∙ starts (cons_not_nil text texts);
    reader = first.to_reader;
    whole = first.whole ∙ whole_by text.reader i k text.text (log_after (log_in before i k) texts) (map (piece_of i k) texts ++ before) (log_own i k texts before);
  },
  pieces_more base i k start out latest texts before (λ some. starts (cons_not_nil text texts)) told pieces,
)

-- counts of starts
count_step : (b : Bool) (more_count old_count all_count : ℕ) → all_count ≡ old_count + more_count
    → cond b (1 + all_count) all_count ≡ cond b (1 + old_count) old_count + more_count
count_step true more_count old_count all_count e = omega arith
count_step false more_count old_count all_count e = e

pub count_more : (starts more : List Start) (j : ℕ) → start_count (starts ++ more) j ≡ start_count starts j + start_count more j
count_more [] more j = omega arith
count_more (begun ∷ starts) more j = count_step (begun.node == j) (start_count more j) (start_count starts j) (start_count (starts ++ more) j) (count_more starts more j)

pub count_own : (starts : List Start) (i : ℕ) (k : ℕ) → start_count (starts ++ (record { node = i; start = k }) ∷ []) i ≡ suc (start_count starts i)
count_own starts i k =
    let e = count_more starts ((record { node = i; start = k }) ∷ []) i in
    let one : cond (i == i) (1 + 0) 0 ≡ 1 = ap (λ b. cond b 1 0) (eq-eqb i i refl) in
    omega arith

pub count_other : (starts : List Start) (i k j : ℕ) → i ≢ j → start_count (starts ++ (record { node = i; start = k }) ∷ []) j ≡ start_count starts j
count_other starts i k j other =
    let e = count_more starts ((record { node = i; start = k }) ∷ []) j in
    let none : cond (i == j) (1 + 0) 0 ≡ 0 = ap (λ b. cond b 1 0) (ne_eqb i j other) in
    omega arith

pub count_after_other : (starts : List Start) (i j : ℕ) (began : Bool) → i ≢ j → start_count (starts_after starts i began) j ≡ start_count starts j
count_after_other starts i j true other = count_other starts i (start_count starts i) j other
count_after_other starts i j false other = refl

pub no_fewer : (starts : List Start) (i : ℕ) (began : Bool) (j : ℕ) → start_count starts j ≤ start_count (starts_after starts i began) j
no_fewer starts i true j = let e = count_more starts ((record { node = i; start = start_count starts i }) ∷ []) j in omega arith
no_fewer starts i false j = omega arith

-- no piece is of a start that hasn't begun, so that start's log is empty
pub none_logged : (before : List Piece) (i k : ℕ) → ((piece : Piece) → In piece before → piece.node ≡ i → piece.start < k) → log_in before i k ≡ []
none_logged [] i k fewer = refl
none_logged (latest ∷ before) i k fewer =
    ap (λ log. log ++ logged_by latest.reader latest i k) (none_logged before i k (λ piece there. fewer piece (inr there)))
    ∙ none_by latest.reader
  where
    never : ((latest.node == i) && (latest.start == k)) ≡ true → ⊥
    never both =
        let parts = and_parts (latest.node == i) (latest.start == k) both in
        let start : latest.start ≡ k = eqb-true latest.start k parts.1 in
        let below = fewer latest (inl refl) (eqb-true latest.node i parts.0) in
        omega arith

    none_by : (reader : Reader) → logged_by reader latest i k ≡ []
    none_by (Seat seat) = refl
    none_by Log = cond_both ((latest.node == i) && (latest.start == k)) latest.text [] (λ text. text ≡ []) (λ both. absurd (never both)) (λ not_both. refl)

-- the log behind which a call of node i shows what it shows
pub log_before_it : (now : Record) (i : ℕ) (began : Bool) → AreBegun now
    → log_in (reverse now.shown) i (last_start (starts_after now.starts i began) i) ≡ log_before began (log_of now.shown i (last_start now.starts i))
log_before_it now i true begun =
    let count : start_count (starts_after now.starts i true) i ≡ suc (start_count now.starts i) = count_own now.starts i (start_count now.starts i) in
    let last : start_count now.starts i ≡ last_start (starts_after now.starts i true) i = omega arith in
    subst (λ k. log_in (reverse now.shown) i k ≡ []) last
    (none_logged (reverse now.shown) i (start_count now.starts i)
    (λ piece there node. subst (λ j. piece.start < start_count now.starts j) node (begun piece (in_reversed now.shown piece there))))
log_before_it now i false begun = refl

-- all that is shown after the call is of starts that were begun
in_map_piece : (i k : ℕ) (texts : List Text) (piece : Piece) → In piece (map (piece_of i k) texts) → (piece.node ≡ i) × (piece.start ≡ k)
in_map_piece i k [] piece there = elim there [ ]
in_map_piece i k (text ∷ texts) piece (inl is) = (ap (λ (p : Piece). p.node) is, ap (λ (p : Piece). p.start) is)
in_map_piece i k (text ∷ texts) piece (inr there) = in_map_piece i k texts piece there

some_there : {A : Type 0} (xs : List A) (x : A) → In x xs → xs ≢ []
some_there [] x there = elim there [ ]
some_there (y ∷ xs) x there = cons_not_nil y xs

in_map_texts : (i k : ℕ) (texts : List Text) (piece : Piece) → In piece (map (piece_of i k) texts) → texts ≢ []
in_map_texts i k [] piece there = elim there [ ]
in_map_texts i k (text ∷ texts) piece there = cons_not_nil text texts

pub begun_after : (now : Record) (i : ℕ) (arrived : List Arrived) (made : Made)
    → (made.texts ≢ [] → 1 ≤ start_count (starts_after now.starts i made.began) i) → AreBegun now → AreBegun (grown now i arrived made)
begun_after now i arrived made some begun piece there =
    let k = last_start (starts_after now.starts i made.began) i in
    elim (in_split now.shown (map (piece_of i k) made.texts) piece there) [
      | inl old ↦ let a = begun piece old in let b = no_fewer now.starts i made.began piece.node in omega arith
      | inr new ↦
          let is = in_map_piece i k made.texts piece new in
          let a = some (in_map_texts i k made.texts piece new) in
          subst (λ j. piece.start < start_count (starts_after now.starts i made.began) j) (sym is.0) (let e : piece.start ≡ k = is.1 in omega arith)
    ]

-- and each start has its header
header_in : (i k : ℕ) (texts : List Text) (text : Text) → In text texts → In (piece_of i k text) (map (piece_of i k) texts)
header_in i k [] text there = elim there [ ]
header_in i k (other ∷ texts) text (inl is) = inl (ap (piece_of i k) is)
header_in i k (other ∷ texts) text (inr there) = inr (header_in i k texts text there)

pub headers_after : (now : Record) (i : ℕ) (arrived : List Arrived) (made : Made)
    → (made.began ≡ true → HasHeader made.texts) → HaveHeaders now → HaveHeaders (grown now i arrived made)
headers_after now i arrived made header headers = by_began made.began refl
  where
    old : (k : ℕ) (begun : Start) → In begun now.starts
        → (piece : Piece) × In piece (now.shown ++ map (piece_of i k) made.texts) × (piece.reader ≡ Log) × (piece.node ≡ begun.node) × (piece.start ≡ begun.start)
    old k begun there =
        let found = headers begun there in
        (found.0, in_first now.shown (map (piece_of i k) made.texts) found.0 found.1, found.2, found.3, found.4)

    by_began : (began : Bool) → made.began ≡ began → (begun : Start) → In begun (starts_after now.starts i began)
        → (piece : Piece) × In piece (now.shown ++ map (piece_of i (last_start (starts_after now.starts i began) i)) made.texts)
        × (piece.reader ≡ Log) × (piece.node ≡ begun.node) × (piece.start ≡ begun.start)
    by_began false is begun there = old (last_start now.starts i) begun there
    by_began true is begun there =
        let k = last_start (starts_after now.starts i true) i in
        elim (in_split now.starts ((record { node = i; start = start_count now.starts i }) ∷ []) begun there) [
          | inl before ↦ old k begun before
          | inr latest ↦ elim latest [
            | inr never ↦ elim never [ ]
            | inl same ↦
                let found = header is in
                let count = count_own now.starts i (start_count now.starts i) in
                let last : k ≡ start_count now.starts i = omega arith in (
                  piece_of i k found.0,
                  in_later now.shown (map (piece_of i k) made.texts) _ (header_in i k made.texts found.0 found.1),
                  found.2,
                  sym (ap (λ (b : Start). b.node) same),
                  last ∙ sym (ap (λ (b : Start). b.start) same),
                )
          ]
        ]

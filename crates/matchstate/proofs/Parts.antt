-- A cards field in its four parts: hole cards, flop, turn, river.
use Rattle.std.proofs.Common.{◌≡◌, ℕ, zero, suc, ◌<◌, ◌≤◌, Bool, cond, leb, List, [], ◌∷◌, ◌++◌, map, length, take, refl, sym, ap, ◌∙◌, subst, arith}
use Rattle.std.specs.List.{AllByRecursion, concat, flat_map, join_by, range_with_len}
use Rattle.std.proofs.Output.{concat-append}
use Rattle.std.proofs.lemmas.List.{append-nil, map-append}
use Rattle.std.proofs.lemmas.List.Concat.{flat_map-append}
use Rattle.slot_log.proofs.Inside.{all_joined}
use Rattle.matchstate.specs.Cards.{cards_text, cards_field}
use Rattle.matchstate.specs.SeenCards.{AreCounted}
use Rattle.matchstate.proofs.Joined.{All-part}

-- the text of rounds that have begun
abbrev pub streets_text : List (List ℕ) → List ℕ
streets_text streets = flat_map (λ cards. 47 ∷ cards_text cards) streets

abbrev pub AllOfPack : List ℕ → Type 0
AllOfPack cards = AllByRecursion (λ card. card < 52) cards

-- the board cards of the later rounds, round by round
pub record Rounds (rounds : ℕ) (boards : List (List ℕ)) : Type 0 where
  pub flop : List (List ℕ)
  pub turn : List (List ℕ)
  pub river : List (List ℕ)
  pub is : boards ≡ flop ++ (turn ++ river)
  pub flop_count : map length flop ≡ cond (leb 1 rounds) (3 ∷ []) []
  pub turn_count : map length turn ≡ cond (leb 2 rounds) (1 ∷ []) []
  pub river_count : map length river ≡ cond (leb 3 rounds) (1 ∷ []) []

parted : (rounds : ℕ) (boards : List (List ℕ)) → rounds ≤ 3 → map length boards ≡ take rounds (3 ∷ 1 ∷ 1 ∷ []) → Rounds rounds boards
parted zero [] most count = record { flop = []; turn = []; river = []; is = refl; flop_count = refl; turn_count = refl; river_count = refl }
parted zero (f ∷ boards) most count = cc
parted (suc zero) [] most count = cc
parted (suc zero) (f ∷ []) most count = record { flop = f ∷ []; turn = []; river = []; is = refl; flop_count = count; turn_count = refl; river_count = refl }
parted (suc zero) (f ∷ t ∷ boards) most count = cc
parted (suc (suc zero)) [] most count = cc
parted (suc (suc zero)) (f ∷ []) most count = cc
parted (suc (suc zero)) (f ∷ t ∷ []) most count = record { flop = f ∷ []; turn = t ∷ []; river = []; is = refl; flop_count = cc; turn_count = cc; river_count = refl }
parted (suc (suc zero)) (f ∷ t ∷ r ∷ boards) most count = cc
parted (suc (suc (suc zero))) [] most count = cc
parted (suc (suc (suc zero))) (f ∷ []) most count = cc
parted (suc (suc (suc zero))) (f ∷ t ∷ []) most count = cc
parted (suc (suc (suc zero))) (f ∷ t ∷ r ∷ []) most count = record { flop = f ∷ []; turn = t ∷ []; river = r ∷ []; is = refl; flop_count = cc; turn_count = cc; river_count = cc }
parted (suc (suc (suc zero))) (f ∷ t ∷ r ∷ more ∷ boards) most count = cc
parted (suc (suc (suc (suc rounds)))) boards most count = absurd (omega arith)

-- the parts of a field's text
pub record Parts (rounds : ℕ) (holes boards : List (List ℕ)) (bytes : List ℕ) : Type 0 where
  pub split : Rounds rounds boards
  pub text_is : bytes ≡ join_by cards_text (124 ∷ []) holes ++ (streets_text split.flop ++ (streets_text split.turn ++ (streets_text split.river ++ [])))
  pub holes_pack : AllOfPack (concat holes)
  pub flop_pack : AllOfPack (concat split.flop)
  pub turn_pack : AllOfPack (concat split.turn)
  pub river_pack : AllOfPack (concat split.river)

pub parts_of : (players : ℕ) (sees : ℕ → Bool) (rounds : ℕ) (holes boards : List (List ℕ)) (bytes : List ℕ) → rounds ≤ 3 → AreCounted players sees rounds holes boards → bytes ≡ cards_field holes boards → Parts rounds holes boards bytes
parts_of players sees rounds holes boards bytes most counted is =
    let split = parted rounds boards most counted.board_counts in
    let field = join_by cards_text (124 ∷ []) holes in
    let streets : streets_text boards ≡ streets_text split.flop ++ (streets_text split.turn ++ (streets_text split.river ++ [])) =
    ap streets_text split.is ∙ flat_map-append (λ cards. 47 ∷ cards_text cards) split.flop (split.turn ++ split.river)
    ∙ ap (λ r. streets_text split.flop ++ r) (flat_map-append (λ cards. 47 ∷ cards_text cards) split.turn split.river ∙ ap (λ r. streets_text split.turn ++ r) (sym (append-nil (streets_text split.river)))) in
    let whole = All-part (λ card. card < 52) (concat holes) (concat boards) counted.pack in
    let all : AllOfPack (concat split.flop ++ (concat split.turn ++ concat split.river)) =
    subst AllOfPack (ap concat split.is ∙ concat-append split.flop (split.turn ++ split.river) ∙ ap (λ r. concat split.flop ++ r) (concat-append split.turn split.river)) whole.1 in
    let first = All-part (λ card. card < 52) (concat split.flop) (concat split.turn ++ concat split.river) all in
    let later = All-part (λ card. card < 52) (concat split.turn) (concat split.river) first.1 in
    record {
      split = split;
      text_is = is ∙ ap (λ r. field ++ r) streets;
      holes_pack = whole.0;
      flop_pack = first.0;
      turn_pack = later.0;
      river_pack = later.1;
    }

-- and the parts together
pub field_joined : (holes flop turn river : List (List ℕ)) → join_by cards_text (124 ∷ []) holes ++ (streets_text flop ++ (streets_text turn ++ (streets_text river ++ []))) ≡ cards_field holes (flop ++ (turn ++ river))
field_joined holes flop turn river =
    ap (λ r. join_by cards_text (124 ∷ []) holes ++ r)
    (ap (λ r. streets_text flop ++ (streets_text turn ++ r)) (append-nil (streets_text river))
    ∙ ap (λ r. streets_text flop ++ r) (sym (flat_map-append (λ cards. 47 ∷ cards_text cards) turn river))
    ∙ sym (flat_map-append (λ cards. 47 ∷ cards_text cards) flop (turn ++ river)))

pub counted_joined : (players : ℕ) (sees : ℕ → Bool) (rounds : ℕ) (holes flop turn river : List (List ℕ)) → rounds ≤ 3 → map length holes ≡ map (λ p. cond (sees p) 2 0) (range_with_len 0 players) → map length flop ≡ cond (leb 1 rounds) (3 ∷ []) [] → map length turn ≡ cond (leb 2 rounds) (1 ∷ []) [] → map length river ≡ cond (leb 3 rounds) (1 ∷ []) [] → AllOfPack (concat holes) → AllOfPack (concat flop) → AllOfPack (concat turn) → AllOfPack (concat river) → AreCounted players sees rounds holes (flop ++ (turn ++ river))
counted_joined players sees rounds holes flop turn river most counts c1 c2 c3 ah a1 a2 a3 =
    record {
      hole_counts = counts;
      board_counts = map-append length flop (turn ++ river) ∙ ap (λ r. map length flop ++ r) (map-append length turn river) ∙ joined_counts;
      pack = all_joined (λ card. card < 52) (concat holes) (concat (flop ++ (turn ++ river))) ah
          (subst AllOfPack (sym (concat-append flop (turn ++ river) ∙ ap (λ r. concat flop ++ r) (concat-append turn river)))
          (all_joined (λ card. card < 52) (concat flop) (concat turn ++ concat river) a1 (all_joined (λ card. card < 52) (concat turn) (concat river) a2 a3)));
    }
  where
    by_rounds : (n : ℕ) → n ≤ 3 → cond {A = List ℕ} (leb 1 n) (3 ∷ []) [] ++ (cond {A = List ℕ} (leb 2 n) (1 ∷ []) [] ++ cond {A = List ℕ} (leb 3 n) (1 ∷ []) []) ≡ take {A = ℕ} n (3 ∷ 1 ∷ 1 ∷ [])
    by_rounds zero small = refl
    by_rounds (suc zero) small = refl
    by_rounds (suc (suc zero)) small = refl
    by_rounds (suc (suc (suc zero))) small = refl
    by_rounds (suc (suc (suc (suc n)))) small = absurd (omega arith)

    joined_counts : map length flop ++ (map length turn ++ map length river) ≡ take rounds (3 ∷ 1 ∷ 1 ∷ [])
    joined_counts = rw (c1, c2, c3) (by_rounds rounds most)

-- Entries that pass all tests define a game, and those that define one pass.
use Rattle.std.proofs.Common.{◌≡◌, ℕ, zero, suc, ◌-◌, ◌<◌, ◌≤◌, Bool, true, false, cond, ◌||◌, eqb, leb, ltb, List, [], ◌∷◌, length, map, fold, max, replicate, Option, Some, None, Result, Ok, Err, IsSome, IfSome, IsTrue, refl, sym, ap, ◌∙◌, arith, inl, inr}
use Rattle.std.specs.Prelude.{unwrap_or}
use Rattle.std.specs.List.{list_all, AllByRecursion}
use Rattle.std.proofs.lemmas.Bool.{cases_Bool, and_parts, and_from, eqb-true, eq-eqb, leb-true, le-leb, ltb-true, lt-ltb}
use Rattle.std.proofs.lemmas.Slice.Eq.{bytes_eq-Decides}
use Rattle.std.proofs.lemmas.List.{length-map, length-replicate}
use Rattle.std.proofs.lemmas.List.Elements.{All-replicate, recursion_from_All}
use Rattle.game_def.specs.Game.{Game, IsGame, most_chips, big_blind}
use Rattle.game_def.specs.Key.{place_of, same_key, fits}
use Rattle.game_def.specs.Entries.{values_of, values_or, has_nolimit, AreEntries}
use Rattle.game_def.specs.GameFile.{Defines}
use Rattle.game_def.specs.Reading.{◌>>=◌}
use Rattle.game_def.specs.WholeFile.{single, players_of, has_values, has_count, each_passes, greatest_blind, required, counts, playable, fault_of, passed, all_passed, game_of}
use Rattle.game_def.proofs.Amounts.{big_blind_within}
use Rattle.game_def.specs.declared.key.Key.{Key}
use Rattle.game_def.specs.declared.key.Key.TheVariants.{Limit, Nolimit, NumPlayers, NumRounds, Stack, Blind, RaiseSize, FirstPlayer, MaxRaises, NumSuits, NumRanks, NumHoleCards, NumBoardCards}
use Rattle.game_def.specs.declared.entry.Entry.{Entry}
use Rattle.game_def.specs.declared.test.Test.{Test}

-- ---- steps and tests

-- the value of a step that did not fail
pub bind_ok : {A B F : Type 0} (r : Result A F) (f : A → Result B F) (y : B) → (r >>= f) ≡ Ok y → (x : A) × (r ≡ Ok x) × (f x ≡ Ok y)
bind_ok (Ok x) f y e = (x, refl, e)
bind_ok (Err d) f y e = absurd cc

tests_pass : (entries : List Entry) (foot : ℕ) (tests : List Test) → passed entries foot tests ≡ Ok tt → AllByRecursion (λ one. one.passes ≡ true) tests
unfolding fault_of
tests_pass entries foot [] e = tt
tests_pass entries foot (one ∷ tests) e =
    elim (cases_Bool one.passes) [
      | inl is ↦ (is, tests_pass entries foot tests (rw is at e))
      | inr is ↦ absurd (let f = rw is at e in cc)
    ]

pass_tests : (entries : List Entry) (foot : ℕ) (tests : List Test) → AllByRecursion (λ one. one.passes ≡ true) tests → passed entries foot tests ≡ Ok tt
unfolding fault_of
pass_tests entries foot [] all = refl
pass_tests entries foot (one ∷ tests) all = rw all.0 (pass_tests entries foot tests all.1)

-- ---- lists of values

all_from : {X : Type 0} (p : X → Bool) (P : X → Type 0) → ((x : X) → p x ≡ true → P x) → (xs : List X) → list_all p xs ≡ true → AllByRecursion P xs
all_from p P each [] h = tt
all_from p P each (x ∷ xs) h = let parts = and_parts _ _ h in (each x parts.0, all_from p P each xs parts.1)

all_to : {X : Type 0} (p : X → Bool) (P : X → Type 0) → ((x : X) → P x → p x ≡ true) → (xs : List X) → AllByRecursion P xs → list_all p xs ≡ true
all_to p P each [] h = refl
all_to p P each (x ∷ xs) h = and_from _ _ (each x h.0) (all_to p P each xs h.1)

all_map : (f : ℕ → ℕ) (P : ℕ → Type 0) (xs : List ℕ) → AllByRecursion (λ x. P (f x)) xs → AllByRecursion P (map f xs)
all_map f P [] h = tt
all_map f P (x ∷ xs) h = (h.0, all_map f P xs h.1)

all_unmap : (f : ℕ → ℕ) (P : ℕ → Type 0) (xs : List ℕ) → AllByRecursion P (map f xs) → AllByRecursion (λ x. P (f x)) xs
all_unmap f P [] h = tt
all_unmap f P (x ∷ xs) h = (h.0, all_unmap f P xs h.1)

all_both : (P Q R : ℕ → Type 0) → ((x : ℕ) → P x → Q x → R x) → (xs : List ℕ) → AllByRecursion P xs → AllByRecursion Q xs → AllByRecursion R xs
all_both P Q R each [] p q = tt
all_both P Q R each (x ∷ xs) p q = (each x p.0 q.0, all_both P Q R each xs p.1 q.1)

all_replicate : (P : ℕ → Type 0) (n x : ℕ) → P x → AllByRecursion P (replicate n x)
all_replicate P n x h = recursion_from_All P (replicate n x) (All-replicate P n x h)

all_or : (P : ℕ → Type 0) (o : Option (List ℕ)) (otherwise : List ℕ) → IfSome o (AllByRecursion P) → AllByRecursion P otherwise → AllByRecursion P (unwrap_or o otherwise)
all_or P None otherwise h k = k
all_or P (Some xs) otherwise h k = h

no_blinds : (players : ℕ) → fold max 0 (replicate players 0) ≡ 0
no_blinds zero = refl
no_blinds (suc players) = no_blinds players

greatest_or : (o : Option (List ℕ)) (players : ℕ) → fold max 0 (unwrap_or o (replicate players 0)) ≡ fold max 0 (unwrap_or o [])
greatest_or None players = no_blinds players
greatest_or (Some xs) players = refl

stacks_above : (blind players : ℕ) (o : Option (List ℕ)) → each_passes (λ stack. ltb blind stack) (ltb blind most_chips) o ≡ true → AllByRecursion (λ stack. blind < stack) (unwrap_or o (replicate players most_chips))
stacks_above blind players None h = all_replicate (λ stack. blind < stack) players most_chips (ltb-true _ _ h)
stacks_above blind players (Some xs) h = all_from (λ stack. ltb blind stack) (λ stack. blind < stack) (λ stack e. ltb-true blind stack e) xs h

firsts_play_of : (players : ℕ) (o : Option (List ℕ)) → 0 < players → IfSome o (AllByRecursion (λ n. 1 ≤ n)) → IfSome o (AllByRecursion (λ n. n ≤ players))
    → AllByRecursion (λ first. first < players) (map (λ position. position - 1) (unwrap_or o (replicate 4 1)))
firsts_play_of players None some low high = (some, (some, (some, (some, tt))))
firsts_play_of players (Some xs) some low high =
    all_map (λ position. position - 1) (λ first. first < players) xs
    (all_both (λ n. 1 ≤ n) (λ n. n ≤ players) (λ n. n - 1 < players) (λ n p q. omega arith) xs low high)

-- ---- a key's values

single_is : (o : Option (List ℕ)) → 2 ≤ single o → o ≡ Some (single o ∷ [])
single_is None h = absurd (omega arith)
single_is (Some []) h = absurd (omega arith)
single_is (Some (x ∷ [])) h = refl
single_is (Some (x ∷ y ∷ xs)) h = absurd (omega arith)

values_are : (wanted : List ℕ) (o : Option (List ℕ)) → has_values wanted o ≡ true → o ≡ Some wanted
values_are wanted None h = absurd cc
values_are wanted (Some xs) h = ap (λ (ys : List ℕ). Some ys) ((bytes_eq-Decides xs wanted).0 h)

count_is : (n : ℕ) (o : Option (List ℕ)) (otherwise : List ℕ) → has_count n o ≡ true → length otherwise ≡ n → length (unwrap_or o otherwise) ≡ n
count_is n None otherwise h k = k
count_is n (Some xs) otherwise h k = eqb-true _ _ h

count_back : (n : ℕ) (o : Option (List ℕ)) (otherwise : List ℕ) → length (unwrap_or o otherwise) ≡ n → has_count n o ≡ true
count_back n None otherwise h = refl
count_back n (Some xs) otherwise h = eq-eqb _ _ h

each_is : (p : ℕ → Bool) (P : ℕ → Type 0) (given : Bool) (o : Option (List ℕ)) → ((x : ℕ) → p x ≡ true → P x) → each_passes p given o ≡ true → IfSome o (AllByRecursion P)
each_is p P given None each h = tt
each_is p P given (Some xs) each h = all_from p P each xs h

-- ---- the numbers that a key may have

key_at : ℕ → Key
key_at place =
    cond (eqb place 3) Stack (cond (eqb place 4) Blind (cond (eqb place 5) RaiseSize (cond (eqb place 6) FirstPlayer (cond (eqb place 7) MaxRaises Limit))))

fits_by_place : (key : Key) (n : ℕ) → fits key n ≡ fits (key_at (place_of key)) n
unfolding key_at
fits_by_place Limit n = refl
fits_by_place Nolimit n = refl
fits_by_place NumPlayers n = refl
fits_by_place NumRounds n = refl
fits_by_place Stack n = refl
fits_by_place Blind n = refl
fits_by_place RaiseSize n = refl
fits_by_place FirstPlayer n = refl
fits_by_place MaxRaises n = refl
fits_by_place NumSuits n = refl
fits_by_place NumRanks n = refl
fits_by_place NumHoleCards n = refl
fits_by_place NumBoardCards n = refl

fits_same : (one other : Key) → same_key one other ≡ true → (n : ℕ) → fits one n ≡ fits other n
fits_same one other same n =
    fits_by_place one n ∙ ap (λ (place : ℕ). fits (key_at place) n) (eqb-true _ _ same) ∙ sym (fits_by_place other n)

all_same : (p q : ℕ → Bool) → ((n : ℕ) → p n ≡ q n) → (xs : List ℕ) → list_all p xs ≡ list_all q xs
all_same p q same [] = refl
all_same p q same (x ∷ xs) = rw (same x, all_same p q same xs) refl

-- what is found for a key are numbers that it may have
values_fit : (key : Key) (entries : List Entry) → AllByRecursion (λ entry. IsTrue (list_all (fits entry.key) entry.values.items)) entries → IfSome (values_of entries key) (λ xs. list_all (fits key) xs ≡ true)
values_fit key [] fitting = tt
values_fit key (entry ∷ entries) fitting =
    elim (cases_Bool (same_key entry.key key)) [
      | inl is ↦ rw is (sym (all_same (fits entry.key) (fits key) (fits_same entry.key key is) entry.values.items) ∙ fitting.0)
      | inr is ↦ rw is (values_fit key entries fitting.1)
    ]

fit_each : (P : ℕ → Type 0) (p : ℕ → Bool) (o : Option (List ℕ)) → ((n : ℕ) → p n ≡ true → P n) → IfSome o (λ xs. list_all p xs ≡ true) → IfSome o (AllByRecursion P)
fit_each P p None each h = tt
fit_each P p (Some xs) each h = all_from p P each xs h

-- the game of a limit game's sizes, and of none in a no-limit game
sizes_or : (nolimit : Bool) (P : List ℕ → Type 0) (o : Option (List ℕ)) → (nolimit ≡ false → IfSome o P) → IfSome (cond nolimit None o) P
sizes_or true P o h = tt
sizes_or false P o h = h refl

sized : (nolimit : Bool) (o : Option (List ℕ)) → (nolimit || each_passes (λ size. ltb 0 size) false o) ≡ true → nolimit ≡ false → IsSome o × IfSome o (AllByRecursion (λ size. 1 ≤ size))
sized true o h limit = absurd cc
sized false None h limit = absurd cc
sized false (Some xs) h limit = (refl, all_from (λ size. ltb 0 size) (λ size. 1 ≤ size) (λ size e. ltb-true 0 size e) xs h)

four_if : (o : Option (List ℕ)) → has_count 4 o ≡ true → IfSome o (λ sizes. length sizes ≡ 4)
four_if None h = tt
four_if (Some xs) h = eqb-true _ _ h

game_is : (entries : List Entry) → AreEntries entries
    → AllByRecursion (λ one. one.passes ≡ true) (required entries) → AllByRecursion (λ one. one.passes ≡ true) (counts entries) → AllByRecursion (λ one. one.passes ≡ true) (playable entries)
    → IsGame (game_of entries)
game_is entries are a b c =
    let players = players_of entries in
    let range = and_parts (leb 2 players) (leb players 10) a.0 in
    let least : 2 ≤ players = leb-true _ _ range.0 in
    let most : players ≤ 10 = leb-true _ _ range.1 in
    let stacks = values_of entries Stack in
    let sizes = values_of entries RaiseSize in
    let firsts = values_of entries FirstPlayer in
    let raises = values_of entries MaxRaises in
    let blind : big_blind (game_of entries) ≡ greatest_blind entries = greatest_or (values_of entries Blind) players in
    let stack_range : IfSome stacks (AllByRecursion (λ stack. stack ≤ most_chips)) = fit_each (λ stack. stack ≤ most_chips) (fits Stack) stacks (λ n e. leb-true n most_chips e) (values_fit Stack entries are.fitting) in
    let size_range : IfSome sizes (AllByRecursion (λ size. size ≤ most_chips)) = fit_each (λ size. size ≤ most_chips) (fits RaiseSize) sizes (λ n e. leb-true n most_chips e) (values_fit RaiseSize entries are.fitting) in
    let raise_range : IfSome raises (AllByRecursion (λ n. n ≤ 255)) = fit_each (λ n. n ≤ 255) (fits MaxRaises) raises (λ n e. leb-true n 255 e) (values_fit MaxRaises entries are.fitting) in
    let first_range : IfSome firsts (AllByRecursion (λ n. 1 ≤ n)) = fit_each (λ n. 1 ≤ n) (fits FirstPlayer) firsts (λ n e. leb-true 1 n (and_parts (leb 1 n) (leb n 10) e).0) (values_fit FirstPlayer entries are.fitting) in
    let first_within : IfSome firsts (AllByRecursion (λ n. n ≤ players)) = each_is (λ n. leb n players) (λ n. n ≤ players) true firsts (λ n e. leb-true n players e) c.0 in
    let above : AllByRecursion (λ stack. greatest_blind entries < stack) (unwrap_or stacks (replicate players most_chips)) = stacks_above (greatest_blind entries) players stacks c.1.1.0 in
    record {
      least_players = least;
      most_players = most;
      stack_each = count_is players stacks (replicate players most_chips) b.0 (length-replicate players most_chips);
      blind_each = count_is players (values_of entries Blind) (replicate players 0) b.1.0 (length-replicate players 0);
      stacks_fit = all_or (λ stack. stack ≤ most_chips) stacks (replicate players most_chips) stack_range (all_replicate (λ stack. stack ≤ most_chips) players most_chips (omega arith));
      stacks_above = rw blind above;
      some_blind = rw blind (leb-true 1 (greatest_blind entries) c.1.0);
      four_sizes = sizes_or (has_nolimit entries) (λ xs. length xs ≡ 4) sizes (λ limit. four_if sizes b.1.1.0);
      sizes_fit = sizes_or (has_nolimit entries) (AllByRecursion (λ size. size ≤ most_chips)) sizes (λ limit. size_range);
      some_size = sizes_or (has_nolimit entries) (AllByRecursion (λ size. 1 ≤ size)) sizes (λ limit. (sized (has_nolimit entries) sizes c.1.1.1.0 limit).1);
      first_each = length-map (unwrap_or firsts (replicate 4 1)) (λ position. position - 1) ∙ count_is 4 firsts (replicate 4 1) b.1.1.1.0 refl;
      firsts_play = firsts_play_of players firsts (omega arith) first_range first_within;
      raises_each = count_is 4 raises (replicate 4 255) b.1.1.1.1.0 refl;
      raises_fit = all_or (λ n. n ≤ 255) raises (replicate 4 255) raise_range (all_replicate (λ n. n ≤ 255) 4 255 (omega arith));
    }

pub passing_defines : (entries : List Entry) (foot : ℕ) → AreEntries entries → all_passed entries foot ≡ Ok tt → Defines entries (game_of entries)
unfolding all_passed
passing_defines entries foot are passes =
    let one = bind_ok (passed entries foot (required entries)) (λ u. passed entries foot (counts entries) >>= λ v. passed entries foot (playable entries)) tt passes in
    let two = bind_ok (passed entries foot (counts entries)) (λ v. passed entries foot (playable entries)) tt one.2 in
    let a = tests_pass entries foot (required entries) one.1 in
    let b = tests_pass entries foot (counts entries) two.1 in
    let c = tests_pass entries foot (playable entries) two.2 in
    let range = and_parts (leb 2 (players_of entries)) (leb (players_of entries) 10) a.0 in
    record {
      once = are.once;
      players = single_is (values_of entries NumPlayers) (leb-true _ _ range.0);
      rounds = values_are (4 ∷ []) (values_of entries NumRounds) a.1.0;
      suits = values_are (4 ∷ []) (values_of entries NumSuits) a.1.1.0;
      ranks = values_are (13 ∷ []) (values_of entries NumRanks) a.1.1.1.0;
      hole_cards = values_are (2 ∷ []) (values_of entries NumHoleCards) a.1.1.1.1.0;
      board_cards = values_are (0 ∷ 3 ∷ 1 ∷ 1 ∷ []) (values_of entries NumBoardCards) a.1.1.1.1.1.0;
      stacks = refl;
      blinds = refl;
      four_sizes = count_is 4 (values_of entries RaiseSize) (replicate 4 0) b.1.1.0 refl;
      raise_sizes = refl;
      sizes_of_limit = λ limit. (sized (has_nolimit entries) (values_of entries RaiseSize) c.1.1.1.0 limit).0;
      first_players = refl;
      max_raises = refl;
      is_game = game_is entries are a b c;
    }

-- ---- what defines a game passes

same_fields : (one other : Game) → one.players ≡ other.players → one.stacks ≡ other.stacks → one.blinds ≡ other.blinds → one.raise_sizes ≡ other.raise_sizes → one.first_players ≡ other.first_players → one.max_raises ≡ other.max_raises → one ≡ other
same_fields one other players stacks blinds sizes firsts raises =
    λ i. record { players = players i; stacks = stacks i; blinds = blinds i; raise_sizes = sizes i; first_players = firsts i; max_raises = raises i }

-- a game is what its entries say
pub defined_is : (entries : List Entry) (game : Game) → Defines entries game → game ≡ game_of entries
defined_is entries game defines =
    let players : game.players ≡ players_of entries = sym (ap single defines.players) in
    same_fields game (game_of entries) players
    (defines.stacks ∙ ap (λ (n : ℕ). values_or entries Stack (replicate n most_chips)) players)
    (defines.blinds ∙ ap (λ (n : ℕ). values_or entries Blind (replicate n 0)) players)
    defines.raise_sizes defines.first_players defines.max_raises

each_back : (p : ℕ → Bool) (P : ℕ → Type 0) (given : Bool) (otherwise : List ℕ) (o : Option (List ℕ)) → ((x : ℕ) → P x → p x ≡ true) → given ≡ true → AllByRecursion P (unwrap_or o otherwise) → each_passes p given o ≡ true
each_back p P given otherwise None each h all = h
each_back p P given otherwise (Some xs) each h all = all_to p P each xs all

sized_back : (nolimit : Bool) (o : Option (List ℕ)) → (nolimit ≡ false → IsSome o) → IfSome (cond nolimit None o) (AllByRecursion (λ size. 1 ≤ size)) → (nolimit || each_passes (λ size. ltb 0 size) false o) ≡ true
sized_back true o some sizes = refl
sized_back false None some sizes = absurd (let h = some refl in cc)
sized_back false (Some xs) some sizes = all_to (λ size. ltb 0 size) (λ size. 1 ≤ size) (λ size h. lt-ltb 0 size h) xs sizes

pub defining_passes : (entries : List Entry) (foot : ℕ) → Defines entries (game_of entries) → all_passed entries foot ≡ Ok tt
unfolding all_passed
defining_passes entries foot d =
    let players = players_of entries in
    let is = d.is_game in
    let blind : big_blind (game_of entries) ≡ greatest_blind entries = greatest_or (values_of entries Blind) players in
    let blind_low : greatest_blind entries < most_chips = rw (← blind) (big_blind_within (game_of entries) is) in
    let above : AllByRecursion (λ stack. greatest_blind entries < stack) (values_or entries Stack (replicate players most_chips)) = rw blind at is.stacks_above in
    let firsts = values_or entries FirstPlayer (replicate 4 1) in
    let within : AllByRecursion (λ position. position - 1 < players) firsts = all_unmap (λ position. position - 1) (λ first. first < players) firsts is.firsts_play in
    let a : AllByRecursion (λ one. one.passes ≡ true) (required entries) =
    (and_from _ _ (le-leb 2 players is.least_players) (le-leb players 10 is.most_players), (rw d.rounds refl, (rw d.suits refl, (rw d.ranks refl, (rw d.hole_cards refl, (rw d.board_cards refl, tt)))))) in
    let b : AllByRecursion (λ one. one.passes ≡ true) (counts entries) = (
      count_back players (values_of entries Stack) (replicate players most_chips) is.stack_each,
      (
        count_back players (values_of entries Blind) (replicate players 0) is.blind_each,
        (
          count_back 4 (values_of entries RaiseSize) (replicate 4 0) d.four_sizes,
          (
            count_back 4 (values_of entries FirstPlayer) (replicate 4 1) (sym (length-map firsts (λ position. position - 1)) ∙ is.first_each),
            (count_back 4 (values_of entries MaxRaises) (replicate 4 255) is.raises_each, tt),
          ),
        ),
      ),
    ) in
    let c : AllByRecursion (λ one. one.passes ≡ true) (playable entries) = (
      each_back (λ position. leb position players) (λ position. position - 1 < players) true (replicate 4 1) (values_of entries FirstPlayer) (λ position h. le-leb position players (omega (arith, is.least_players))) refl within,
      (
        le-leb 1 (greatest_blind entries) (rw blind at is.some_blind),
        (
          each_back (λ stack. ltb (greatest_blind entries) stack) (λ stack. greatest_blind entries < stack) (ltb (greatest_blind entries) most_chips) (replicate players most_chips) (values_of entries Stack) (λ stack h. lt-ltb (greatest_blind entries) stack h) (lt-ltb (greatest_blind entries) most_chips blind_low) above,
          (sized_back (has_nolimit entries) (values_of entries RaiseSize) d.sizes_of_limit is.some_size, tt),
        ),
      ),
    ) in
    rw (pass_tests entries foot (required entries) a, pass_tests entries foot (counts entries) b) (pass_tests entries foot (playable entries) c)

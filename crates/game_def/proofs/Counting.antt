-- Values kept one after the other, of which no more than ten are kept.
use Rattle.std.proofs.Common.{◌≡◌, ℕ, ◌<◌, ◌≤◌, Bool, true, false, cond, ◌&&◌, List, [], ◌∷◌, ◌++◌, length, Result, Ok, Err, IsTrue, refl, sym, ap, ◌∙◌, append_assoc, arith, inl, inr}
use Rattle.std.specs.List.{list_all}
use Rattle.std.proofs.lemmas.Bool.{cases_Bool, lt-leb, ne_eqb, and_right}
use Rattle.std.proofs.lemmas.List.{length-append, append-nil}
use Rattle.std.proofs.lemmas.List.Folds.{list_all-append}
use Rattle.game_def.specs.Key.{allows, fits}
use Rattle.game_def.specs.GameFile.{number_of}
use Rattle.game_def.specs.Reading.{◌>>=◌, is_number, number, numbers, counted, values}
use Rattle.game_def.specs.declared.key.Key.{Key}
use Rattle.game_def.specs.declared.key.Key.TheVariants.{Limit, Nolimit, NumPlayers, NumRounds, Stack, Blind, RaiseSize, FirstPlayer, MaxRaises, NumSuits, NumRanks, NumHoleCards, NumBoardCards}
use Rattle.game_def.specs.declared.fault_kind.FaultKind.{FaultKind}
use Rattle.game_def.specs.declared.fault_kind.FaultKind.TheVariants.{WrongCount, BadNumber}

-- the values kept so far and those still to be read; where there were too many, the count is wrong
abbrev pub resumed : Key → List ℕ → Bool → Result (List ℕ) FaultKind → Result (List ℕ) FaultKind
resumed key kept too_many (Ok more) = cond too_many (Err WrongCount) (counted key (kept ++ more))
resumed key kept too_many (Err fault) = Err fault

resumed_none : (key : Key) (read : Result (List ℕ) FaultKind) → resumed key [] false read ≡ (read >>= λ found. counted key found)
resumed_none key (Ok more) = refl
resumed_none key (Err fault) = refl

pub starts : (key : Key) (texts : List (List ℕ)) → resumed key [] false (numbers key texts) ≡ values key texts
unfolding values
starts key texts = resumed_none key (numbers key texts)

-- no line has more than ten values
many : (key : Key) (count : ℕ) → 10 < count → allows key count ≡ false
many Limit count h = ne_eqb _ _ (omega arith)
many Nolimit count h = ne_eqb _ _ (omega arith)
many NumPlayers count h = ne_eqb _ _ (omega arith)
many NumRounds count h = ne_eqb _ _ (omega arith)
many Stack count h = and_right _ _ (lt-leb _ _ h)
many Blind count h = and_right _ _ (lt-leb _ _ h)
many RaiseSize count h = and_right _ _ (lt-leb _ _ h)
many FirstPlayer count h = and_right _ _ (lt-leb _ _ h)
many MaxRaises count h = and_right _ _ (lt-leb _ _ h)
many NumSuits count h = ne_eqb _ _ (omega arith)
many NumRanks count h = ne_eqb _ _ (omega arith)
many NumHoleCards count h = ne_eqb _ _ (omega arith)
many NumBoardCards count h = and_right _ _ (lt-leb _ _ h)

full_step : (key : Key) (kept : List ℕ) (too_many : Bool) (first : ℕ) (read : Result (List ℕ) FaultKind) → 10 ≤ length kept
    → resumed key kept too_many (read >>= λ others. Ok (first ∷ others)) ≡ resumed key kept true read
full_step key kept true first (Ok more) full = refl
full_step key kept false first (Ok more) full =
    rw (many key (length (kept ++ first ∷ more)) (omega (arith, length-append kept (first ∷ more)))) refl
full_step key kept too_many first (Err fault) full = refl

more_step : (key : Key) (kept : List ℕ) (too_many : Bool) (first : ℕ) (read : Result (List ℕ) FaultKind)
    → resumed key kept too_many (read >>= λ others. Ok (first ∷ others)) ≡ resumed key (kept ++ first ∷ []) too_many read
more_step key kept too_many first (Ok more) = ap (λ (all : List ℕ). cond too_many (Err WrongCount) (counted key all)) (sym (append_assoc kept (first ∷ []) more))
more_step key kept too_many first (Err fault) = refl

-- a further value, where ten are kept already
pub goes_full : (key : Key) (kept : List ℕ) (too_many : Bool) (word : List ℕ) (first : ℕ) (texts : List (List ℕ)) → number key word ≡ Ok first → 10 ≤ length kept
    → resumed key kept too_many (numbers key (word ∷ texts)) ≡ resumed key kept true (numbers key texts)
unfolding numbers
goes_full key kept too_many word first texts h full = rw h (full_step key kept too_many first (numbers key texts) full)

-- a further value that is kept
pub goes_on : (key : Key) (kept : List ℕ) (too_many : Bool) (word : List ℕ) (first : ℕ) (texts : List (List ℕ)) → number key word ≡ Ok first
    → resumed key kept too_many (numbers key (word ∷ texts)) ≡ resumed key (kept ++ first ∷ []) too_many (numbers key texts)
unfolding numbers
goes_on key kept too_many word first texts h = rw h (more_step key kept too_many first (numbers key texts))

-- a value that is none
pub stops : (key : Key) (kept : List ℕ) (too_many : Bool) (word : List ℕ) (fault : FaultKind) (texts : List (List ℕ)) → number key word ≡ Err fault
    → resumed key kept too_many (numbers key (word ∷ texts)) ≡ Err fault
unfolding numbers
stops key kept too_many word fault texts h = rw h refl

-- no value is left
pub ends : (key : Key) (kept : List ℕ) (too_many : Bool) → resumed key kept too_many (numbers key []) ≡ cond too_many (Err WrongCount) (counted key kept)
unfolding numbers
ends key kept too_many = rw (append-nil kept) refl

fits_by : (key : Key) (word : List ℕ) (is : Bool) (first : ℕ) → cond (is && fits key (number_of word)) (Ok (number_of word)) (Err BadNumber) ≡ Ok first → fits key first ≡ true
fits_by key word false first e = absurd cc
fits_by key word true first e =
    elim (cases_Bool (fits key (number_of word))) [
      | inl fit ↦
          let e2 = rw fit at e in
          let same : number_of word ≡ first = cc e2 in
          rw (← same) fit
      | inr unfit ↦ let e2 = rw unfit at e in absurd (cc e2)
    ]

pub fit_more : (key : Key) (kept word : List ℕ) (first : ℕ) → IsTrue (list_all (fits key) kept) → number key word ≡ Ok first → IsTrue (list_all (fits key) (kept ++ first ∷ []))
unfolding number
fit_more key kept word first fit e =
    let last = fits_by key word (is_number word) first e in
    list_all-append (fits key) kept (first ∷ []) ∙ rw (fit, last) refl

-- what the values are, once no word is left
pub ended : (key : Key) (kept : List ℕ) (too_many : Bool) (texts : List (List ℕ)) (whole : Result (List ℕ) FaultKind) → texts ≡ []
    → resumed key kept too_many (numbers key texts) ≡ whole → whole ≡ cond too_many (Err WrongCount) (counted key kept)
ended key kept too_many texts whole none so_far = sym so_far ∙ ap (λ (words : List (List ℕ)). resumed key kept too_many (numbers key words)) none ∙ ends key kept too_many

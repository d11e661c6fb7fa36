-- Which bytes can't stand in the pieces of a line.
use Rattle.std.proofs.Common.{◌≡◌, ◌≢◌, ℕ, zero, suc, ◌+◌, ◌/◌, ◌%◌, ◌<◌, ◌≤◌, Bool, true, false, cond, eqb, List, [], ◌∷◌, ◌++◌, replicate, Option, Some, None, decimal, refl, sym, ap, ◌∙◌, arith}
use Rattle.std.specs.Char.{is_ascii_digit}
use Rattle.std.specs.Fmt.{digits, digits_onto, digit_glyph}
use Rattle.std.specs.List.{AllByRecursion}
use Rattle.std.proofs.lemmas.Bool.{false≢true}
use Rattle.std.proofs.lemmas.Bool.Decides.{nat_tests}
use Rattle.std.proofs.Math.Nat.{mod-lt}
use Rattle.game_def.specs.Game.{Game}
use Rattle.betting.specs.declared.action.Action.{Action}
use Rattle.betting.specs.declared.action.Action.TheVariants.{Fold, Call, Raise}
use Rattle.betting.specs.Text.{text, action_text}
use Rattle.slot_log.proofs.Inside.{all_joined}
use Rattle.match_log.specs.Names.{IsName, IsGameWord, is_name_byte}
use Rattle.matchstate.specs.Free.{IsFreeOf}

pub free_append : (byte : ℕ) (xs ys : List ℕ) → IsFreeOf byte xs → IsFreeOf byte ys → IsFreeOf byte (xs ++ ys)
free_append byte xs ys = all_joined (λ (other : ℕ). other ≢ byte) xs ys

-- a byte that fails a test that each byte passes
pub free_by_test : (test : ℕ → Bool) (byte : ℕ) → test byte ≡ false → (text : List ℕ) → AllByRecursion (λ other. test other ≡ true) text → IsFreeOf byte text
free_by_test test byte fails [] all = tt
free_by_test test byte fails (first ∷ text) all = (λ same. false≢true (sym fails ∙ ap test (sym same) ∙ all.0), free_by_test test byte fails text all.1)

pub name_free : (byte : ℕ) → is_name_byte byte ≡ false → (name : List ℕ) → IsName name → IsFreeOf byte name
name_free byte fails name is = free_by_test is_name_byte byte fails name is.bytes

pub word_free : (word : List ℕ) → IsGameWord word → IsFreeOf 32 word
word_free word is = printable_free word is.printable
  where
    printable_free : (text : List ℕ) → AllByRecursion (λ byte. (33 ≤ byte) × (byte ≤ 126)) text → IsFreeOf 32 text
    printable_free [] all = tt
    printable_free (byte ∷ text) all = let least : 33 ≤ byte = all.0.0 in (λ same. omega arith, printable_free text all.1)

-- ---- decimals

glyph_is : (digit : ℕ) → digit < 10 → digit_glyph false digit ≡ 48 + digit
glyph_is digit small = grind (arith, nat_tests)

glyph_digit : (digit : ℕ) → digit < 10 → is_ascii_digit (digit_glyph false digit) ≡ true
glyph_digit digit small = ap is_ascii_digit (glyph_is digit small) ∙ digit_of
  where
    digit_of : is_ascii_digit (48 + digit) ≡ true
    digit_of = grind (arith, nat_tests)

glyph_apart : (byte digit : ℕ) → is_ascii_digit byte ≡ false → digit < 10 → digit_glyph false digit ≢ byte
glyph_apart byte digit no_digit small same = false≢true (sym no_digit ∙ ap is_ascii_digit (sym same) ∙ glyph_digit digit small)

onto_free : (byte : ℕ) → is_ascii_digit byte ≡ false → (fuel number : ℕ) (behind : List ℕ) → IsFreeOf byte behind → IsFreeOf byte (digits_onto fuel 10 false number behind)
onto_free byte no_digit zero number behind free = free
onto_free byte no_digit (suc fuel) number behind free =
    let last : number % 10 < 10 = mod-lt number (omega arith) in
    let more : IsFreeOf byte (digit_glyph false (number % 10) ∷ behind) = (glyph_apart byte (number % 10) no_digit last, free) in
    by_test (eqb (number / 10) 0) _ _ more (onto_free byte no_digit fuel (number / 10) (digit_glyph false (number % 10) ∷ behind) more)
  where
    by_test : (test : Bool) (xs ys : List ℕ) → IsFreeOf byte xs → IsFreeOf byte ys → IsFreeOf byte (cond test xs ys)
    by_test true xs ys one other = one
    by_test false xs ys one other = other

pub decimal_text_free : (byte : ℕ) → is_ascii_digit byte ≡ false → (number : ℕ) → IsFreeOf byte (decimal number)
unfolding digits
decimal_text_free byte no_digit number = onto_free byte no_digit 64 number [] tt

-- ---- betting texts

replicate_free : (byte other count : ℕ) → other ≢ byte → IsFreeOf byte (replicate count other)
replicate_free byte other zero apart = tt
replicate_free byte other (suc count) apart = (apart, replicate_free byte other count apart)

raise_free : (sizes : Option (List ℕ)) (amount : ℕ) → IsFreeOf 58 (elim sizes as (λ _. List ℕ) [ None ↦ 114 ∷ decimal amount | Some _ ↦ 114 ∷ [] ])
raise_free None amount = (omega arith, decimal_text_free 58 refl amount)
raise_free (Some sizes) amount = (omega arith, tt)

action_free : (game : Game) (action : Action) → IsFreeOf 58 (action_text game action)
unfolding action_text
action_free game Fold = (omega arith, tt)
action_free game Call = (omega arith, tt)
action_free game (Raise amount) = raise_free game.raise_sizes amount

pub betting_free : (game : Game) (past : List Action) → IsFreeOf 58 (text game past)
unfolding text
betting_free game [] = tt
betting_free game (action ∷ past) =
    free_append 58 (text game past ++ action_text game action) _ (free_append 58 (text game past) (action_text game action) (betting_free game past) (action_free game action))
    (replicate_free 58 47 _ (omega arith))

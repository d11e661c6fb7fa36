-- Numbers and fields of a hand's line as a log may say them, and near misses.
use Rattle.std.proofs.Common.{◌≡◌, ℕ, zero, suc, ◌≤◌, List, [], ◌∷◌, length, replicate, codes, Some, None, true, pos, negsuc, slice_index_or, ◌<◌, refl, sym, ap, inl, inr, arith}
use Rattle.std.specs.Char.{is_ascii_digit}
use Rattle.std.specs.List.{AllByRecursion, slice_index}
use Rattle.betting.specs.declared.action.Action.TheVariants.{Fold}
use Rattle.match_log.specs.Check.{said_text}
use Rattle.match_log.specs.Numeral.{IsDecimal, IsWhole}
use Rattle.match_log.specs.Payoffs.{total_of}
use Rattle.matchstate.specs.Free.{IsFreeOf}
use Rattle.match_log.specs.Reading.{MayBeSeats, Fields, AreApart, AreOfHand, AreKnown, AreNamed, HasSaid, IsNext}
use Rattle.match_log.specs.declared.checked.Checked.{Checked}
use Rattle.match_log.proofs.Examples.{opened, two_players, alice_and_bob, ten_ace, two_names}
use Rattle.match_log.proofs.VerdictExamples.{folded_hand, hand_played}

-- ---- decimals

nought : IsDecimal (codes "0")
nought = record { digits = (refl, tt); some = omega arith; plain = λ _. refl }

ten : IsDecimal (codes "10")
ten = record { digits = (refl, (refl, tt)); some = omega arith; plain = λ e. let one : 49 ≡ 48 = e in absurd (omega arith) }

nines : (count : ℕ) → AllByRecursion (λ byte. is_ascii_digit byte ≡ true) (replicate count 57)
nines zero = tt
nines (suc count) = (refl, nines count)

-- a number may be of any length
long : IsDecimal (replicate 70 57)
long = record { digits = nines 70; some = omega arith; plain = λ e. let nine : 57 ≡ 48 = e in absurd (omega arith) }

no_leading_zero : IsDecimal (codes "07") → ⊥
no_leading_zero decimal = let count : ◌≡◌ {A = ℕ} 2 1 = decimal.plain refl in absurd (omega (arith, count))

no_empty_decimal : IsDecimal [] → ⊥
no_empty_decimal decimal = let some : 1 ≤ 0 = decimal.some in absurd (omega arith)

no_letter : IsDecimal (codes "1x") → ⊥
no_letter decimal = let letter : is_ascii_digit 120 ≡ true = decimal.digits.1.0 in cc

-- ---- whole numbers

loss : IsWhole (codes "-10")
loss = inr (record { digits = codes "10"; decimal = ten; some = λ same. let count : ◌≡◌ {A = ℕ} 2 1 = ap length same in absurd (omega (arith, count)); whole = refl })

gain : IsWhole (codes "10")
gain = inl ten

pub no_minus_nought : IsWhole (codes "-0") → ⊥
no_minus_nought (inl decimal) = let minus : is_ascii_digit 45 ≡ true = decimal.digits.0 in cc
no_minus_nought (inr negative) = let whole : 45 ∷ 48 ∷ [] ≡ 45 ∷ negative.digits = negative.whole in let same : 48 ∷ [] ≡ negative.digits = cc in negative.some (sym same)

no_plus : IsWhole (codes "+5") → ⊥
no_plus (inl decimal) = let plus : is_ascii_digit 43 ≡ true = decimal.digits.0 in cc
no_plus (inr negative) = let first : ◌≡◌ {A = ℕ} 43 45 = ap (λ (text : List ℕ). slice_index text 0) negative.whole in absurd (omega (arith, first))

-- ---- lines as they are said

-- with the right number and values it is the hand's line, and with others another one
as_said : said_text two_players (codes "0") (record { deal = ten_ace; past = Fold ∷ [] }) (codes "5" ∷ codes "-5" ∷ []) alice_and_bob ≡ codes "STATE:0:f:TdAs|8hTc:5|-5:alice|bob\n"
unfolding opened said_text
as_said = refl

otherwise : said_text two_players (codes "12") (record { deal = ten_ace; past = Fold ∷ [] }) (codes "5" ∷ codes "-4" ∷ []) alice_and_bob ≡ codes "STATE:12:f:TdAs|8hTc:5|-4:alice|bob\n"
unfolding opened said_text
otherwise = refl

-- ---- names of a line

colon_free : IsFreeOf 58 (codes "5|-5")
colon_free = (omega arith, (omega arith, (omega arith, (omega arith, tt))))

no_colon : IsFreeOf 58 (codes "5:") → ⊥
no_colon free = free.1.0 refl

any_names_first : MayBeSeats 2 None alice_and_bob
any_names_first = two_names

the_same_names_later : MayBeSeats 2 (Some alice_and_bob) alice_and_bob
the_same_names_later = refl

no_others_later : MayBeSeats 2 (Some alice_and_bob) (codes "bob" ∷ codes "alice" ∷ []) → ⊥
no_others_later same = cc

any_seats_named_first : AreNamed [] alice_and_bob (codes "bob" ∷ codes "alice" ∷ [])
any_seats_named_first = tt

no_others_named_later : AreNamed (folded_hand ∷ []) alice_and_bob (codes "bob" ∷ codes "alice" ∷ []) → ⊥
no_others_named_later same = cc

none_known_at_first : AreKnown 2 alice_and_bob [] None
none_known_at_first = refl

-- places behind the players' don't count
known_later : AreKnown 2 alice_and_bob (folded_hand ∷ []) (Some (codes "alice" ∷ codes "bob" ∷ codes "carol" ∷ []))
known_later = refl

not_unknown_later : AreKnown 2 alice_and_bob (folded_hand ∷ []) None → ⊥
not_unknown_later known = known

-- ---- fields of a line

-- whatever values are said
abbrev pub folded_fields : Fields
folded_fields = record { number = codes "0"; betting = codes "f"; cards = codes "TdAs|8hTc"; values = codes "10|-10"; names = codes "alice|bob" }

said_of_the_hand : AreOfHand two_players folded_fields folded_hand (codes "10" ∷ codes "-10" ∷ []) alice_and_bob
unfolding opened
said_of_the_hand = record {
  numbered = nought;
  played = hand_played;
  betting_text = refl;
  cards_text = refl;
  value_each = refl;
  whole_values = (gain, (loss, tt));
  values_text = refl;
  name_each = refl;
  each_name = two_names.each_name;
  names_text = refl;
}

one_value_too_few : AreOfHand two_players (record folded_fields { values = codes "10" }) folded_hand (codes "10" ∷ []) alice_and_bob → ⊥
one_value_too_few said = let count : ◌≡◌ {A = ℕ} 1 2 = said.value_each in absurd (omega (arith, count))

no_colon_in_a_field : AreApart (record folded_fields { betting = codes "f:" }) → ⊥
no_colon_in_a_field apart = apart.betting_field.1.0 refl

-- ---- what lines have said

abbrev pub after_one : Checked
after_one = record { names = Some alice_and_bob; score = record { totals = pos 5 ∷ negsuc 4 ∷ []; hands = 1 } }

each_total : (seat : ℕ) → seat < 2 → slice_index_or after_one.score.totals seat (pos 0) ≡ total_of two_players (folded_hand ∷ []) seat
unfolding opened
each_total zero few = refl
each_total (suc zero) few = refl
each_total (suc (suc seat)) few = absurd (omega (arith, few))

one_said : HasSaid two_players alice_and_bob (folded_hand ∷ []) after_one
one_said = record { tally = record { count = refl; each_seat = each_total }; known = refl }

one_hand_not_counted : HasSaid two_players alice_and_bob (folded_hand ∷ []) (record after_one { score = record { totals = pos 5 ∷ negsuc 4 ∷ []; hands = 0 } }) → ⊥
one_hand_not_counted said = let count : ◌≡◌ {A = ℕ} 0 1 = said.tally.count in absurd (omega (arith, count))

-- the hand's right line, and x behind it
first_line : IsNext two_players alice_and_bob [] (codes "STATE:0:f:TdAs|8hTc:5|-5:alice|bob\nx") (codes "x") after_one
unfolding opened
first_line = record { seats = alice_and_bob; are_names = two_names; named = tt; hand = folded_hand; played = hand_played; line = refl; said = one_said }

use Rattle.std.proofs.Common.{◌≡◌, ◌^◌, ◌<◌, ℕ, List, length, take, eqb, decimal, Option, sym, refl, ap, ◌∙◌, subst, inr, arith}
use Rattle.std.specs.Str.Parse.{digits_value}
use Rattle.std.proofs.lemmas.Bool.{false≢true}
use Rattle.slot_log.specs.Hand.{Hand}
use Rattle.match_log.specs.Check.{HasState}
use Rattle.match_log.specs.Lines.{values_field, names_field}
use Rattle.match_log.specs.Names.{names_by_position}
use Rattle.match_log.specs.Payoffs.{payoffs_of}
use Rattle.match_log.specs.Reading.{MayBeSeats}
use Rattle.match_log.proofs.States.{in_fields, to_state, fit_seats, seats_are_names, printed, right_line}
use Rattle.match_log.proofs.Tallies.{hand_more}
use Rattle.match_log.proofs.checked.Checked.take_hand.Goals as goal

pub returns-in_default-clause-fault : goal.returns-in_default-clause-fault
returns-in_default-clause-fault c =
    λ names hands are said. (
      λ empty. false≢true (sym c.if-is_empty.false ∙ c.is_empty.ensures ∙ ap (λ (xs : List ℕ). eqb (length xs) 0) empty),
      λ begins. false≢true (sym c.if-begins_line.false ∙ c.begins_line.ensures.1 begins),
      λ number hand values has.
          let line = in_fields c.args.game.now names hands c.args.self.now.names c.args.bytes.now number hand values are said.known has in
          c.in_default.ensures.only line.fields line.behind hand values line.by_position line.is line.of_hand,
    )

-- no names of seats were found
abbrev NoSeats : ℕ → List (List ℕ) → ℕ → Option (List (List ℕ)) → Type 0
NoSeats n by_position value known = (seats : List (List ℕ)) → length seats ≡ n → take n by_position ≡ names_by_position n value seats → MayBeSeats n known seats → ⊥

pub returns-in_default-seats-clause-fault : goal.returns-in_default-seats-clause-fault
returns-in_default-seats-clause-fault c =
    λ names hands are said. (
      λ empty. false≢true (sym c.if-is_empty.false ∙ c.is_empty.ensures ∙ ap (λ (xs : List ℕ). eqb (length xs) 0) empty),
      λ begins. false≢true (sym c.if-begins_line.false ∙ c.begins_line.ensures.1 begins),
      λ number hand values has.
          let game = c.args.game.now in
          let known : Option (List (List ℕ)) = c.args.self.now.names in
          let line = in_fields game names hands known c.args.bytes.now number hand values are said.known has in
          let read = c.in-Some.ensures.only line.fields line.behind hand values line.by_position line.is line.of_hand in
          let value : digits_value 10 c.in-Some.line.number.now ≡ digits_value 10 number = ap (digits_value 10) (read.0 ∙ line.numbered) in
          let none : NoSeats game.players c.in-Some.line.names (digits_value 10 c.in-Some.line.number.now) known =
          subst (λ (n : ℕ). NoSeats n c.in-Some.line.names (digits_value 10 c.in-Some.line.number.now) known) c.players.ensures.value
          (λ seats count is may. false≢true (c.in_default-seats.ensures.only seats count is may)) in
          none line.seated.seats line.seated.count (read.1 ∙ line.seated.said ∙ ap (λ (n : ℕ). names_by_position game.players n line.seated.seats) (sym value)) line.seated.may,
    )

-- the seats that were found, of a game of so many players
found_seats : (n players : ℕ) (number other : List ℕ) (by_position seats : List (List ℕ)) (known : Option (List (List ℕ))) → n ≡ players → number ≡ other
    → take n by_position ≡ names_by_position n (digits_value 10 number) (take n seats) → MayBeSeats n known (take n seats)
    → (take players by_position ≡ names_by_position players (digits_value 10 other) (take players seats)) × MayBeSeats players known (take players seats)
found_seats n players number other by_position seats known same same_number said may = (
  subst (λ (k : ℕ). take k by_position ≡ names_by_position k (digits_value 10 number) (take k seats)) same said ∙ ap (λ (digits : List ℕ). names_by_position players (digits_value 10 digits) (take players seats)) same_number,
  subst (λ (k : ℕ). MayBeSeats k known (take k seats)) same may,
)

pub returns-then-not-is_number_printed-clause-fault : goal.returns-then-not-is_number_printed-clause-fault
returns-then-not-is_number_printed-clause-fault c =
    λ names hands are said.
    let game = c.args.game.now in
    let known : Option (List (List ℕ)) = c.args.self.now.names in
    let found = c.in-Some.ensures.found in
    let seats =
    found_seats c.players.result game.players c.in-Some.line.number.now found.0.number c.in-Some.line.names c.in-Some-seats.names known c.players.ensures.value found.1 c.in-Some-seats.ensures.found c.in-Some-seats.ensures.fit in
    let fit = fit_seats game.players names hands known (digits_value 10 found.0.number) (take game.players c.in-Some.line.names) (take game.players c.in-Some-seats.names) said.known seats.0 seats.1 in
    let count : c.hands.result ≡ length hands = c.hands.ensures.value ∙ said.tally.count in
    inr (
      found.0.number,
      (record { deal = c.in-Some.line.deal; past = c.in-Some.line.play.past }),
      found.4.0,
      to_state game names hands c.args.bytes.now found.0 c.in-Some.line.behind.now (record { deal = c.in-Some.line.deal; past = c.in-Some.line.play.past }) found.4.0 (take game.players c.in-Some.line.names) found.3 found.4.1 fit,
      λ same. false≢true (sym c.if-not-is_number_printed.true ∙ c.is_number_printed.ensures.1 (found.1 ∙ same ∙ ap decimal (sym count))),
    )

pub returns-then-not-are_values_printed-clause-fault : goal.returns-then-not-are_values_printed-clause-fault
returns-then-not-are_values_printed-clause-fault c =
    λ names hands are said.
    let game = c.args.game.now in
    let known : Option (List (List ℕ)) = c.args.self.now.names in
    let found = c.in-Some.ensures.found in
    let hand : Hand = record { deal = c.in-Some.line.deal; past = c.in-Some.line.play.past } in
    let seats =
    found_seats c.players.result game.players c.in-Some.line.number.now found.0.number c.in-Some.line.names c.in-Some-seats.names known c.players.ensures.value found.1 c.in-Some-seats.ensures.found c.in-Some-seats.ensures.fit in
    let fit = fit_seats game.players names hands known (digits_value 10 found.0.number) (take game.players c.in-Some.line.names) (take game.players c.in-Some-seats.names) said.known seats.0 seats.1 in
    let count : c.hands.result ≡ length hands = c.hands.ensures.value ∙ said.tally.count in
    let number : found.0.number ≡ decimal (length hands) = sym found.1 ∙ c.is_number_printed.ensures.0 c.if-not-is_number_printed.false ∙ ap decimal count in
    let state : HasState game names hands c.args.bytes.now found.0.number hand found.4.0 =
    to_state game names hands c.args.bytes.now found.0 c.in-Some.line.behind.now hand found.4.0 (take game.players c.in-Some.line.names) found.3 found.4.1 fit in (
      hand,
      found.4.0,
      subst (λ (digits : List ℕ). HasState game names hands c.args.bytes.now digits hand found.4.0) number state,
      λ same.
          false≢true (sym c.if-not-are_values_printed.true ∙ c.are_values_printed.ensures.1
          (found.2 ∙ found.4.1.values_text ∙ ap names_field same ∙ printed (payoffs_of game hand) ∙ ap values_field (sym (c.as_slice.ensures.value ∙ c.payoffs-payoffs.ensures.value)))),
    )

pub returns-clause-next : goal.returns-clause-next
returns-clause-next c =
    λ names hands are said.
    let game = c.args.game.now in
    let known : Option (List (List ℕ)) = c.args.self.now.names in
    let found = c.in-Some.ensures.found in
    let hand : Hand = record { deal = c.in-Some.line.deal; past = c.in-Some.line.play.past } in
    let by_position : List (List ℕ) = take game.players c.in-Some.line.names in
    let seats : List (List ℕ) = take game.players c.in-Some-seats.names in
    let fit = found_seats c.players.result game.players c.in-Some.line.number.now found.0.number c.in-Some.line.names c.in-Some-seats.names known c.players.ensures.value found.1 c.in-Some-seats.ensures.found c.in-Some-seats.ensures.fit in
    let count : c.hands.result ≡ length hands = c.hands.ensures.value ∙ said.tally.count in
    let number : found.0.number ≡ decimal (length hands) = sym found.1 ∙ c.is_number_printed.ensures.0 c.if-not-is_number_printed.false ∙ ap decimal count in
    let paid : c.as_slice.result.now ≡ payoffs_of game hand = c.as_slice.ensures.value ∙ c.payoffs-payoffs.ensures.value in
    let paid_again : c.as_slice-2.result.now ≡ payoffs_of game hand = c.as_slice-2.ensures.value ∙ c.payoffs-payoffs.ensures.value in
    let values : found.0.values ≡ values_field (payoffs_of game hand) = sym found.2 ∙ c.are_values_printed.ensures.0 c.if-not-are_values_printed.false ∙ ap values_field paid in
    let named = seats_are_names game.players names hands known seats are said.known fit.1 in
    let small : length hands < 2 ^ 64 = omega (arith, count, c.hands.ensures.most) in
    record {
      seats = seats;
      are_names = named.0;
      named = named.1;
      hand = hand;
      played = found.4.1.played;
      line = right_line game (length hands) c.args.bytes.now found.0 c.in-Some.line.behind.now hand found.4.0 by_position seats small found.3 found.4.1 number values fit.0;
      said = record {
        tally = hand_more game hands hand c.args.self.now.score c.add.new.self c.as_slice-2.result.now paid_again c.add.ensures.hands c.add.ensures.totals said.tally;
        known = refl;
      };
    }

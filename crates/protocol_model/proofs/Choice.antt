-- The theorem of 'Paxos Made Simple': what is chosen stays chosen.
use Rattle.std.proofs.Common.{◌≡◌, ℕ, inl, inr, List, [], ◌∷◌, length, refl, sym, subst, arith}
use Rattle.paxos_wire.specs.declared.ballot.Ballot.{Ballot}
use Rattle.slot_log.specs.declared.command.Command.{Command}
use Rattle.protocol_model.specs.Sets.{In}
use Rattle.protocol_model.specs.Ballots.{Below, AtMost}
use Rattle.protocol_model.specs.Messages.{Message, Promise, Accept, Accepted}
use Rattle.protocol_model.specs.Quorums.{IsChosenIn, IsChosen, AreChosen}
use Rattle.protocol_model.specs.Dealers.{Dealer}
use Rattle.protocol_model.proofs.Ballots.{at_most_trans, equal_or_below, compared, induct}
use Rattle.protocol_model.proofs.Quorums.{quorums_meet}
use Rattle.protocol_model.proofs.Facts.{Facts, IsSafe}

-- what was chosen in a ballot was proposed in it
pub chosen_was_proposed : (dealer : Dealer) (n : ℕ) (ever : List Message) (ballot : Ballot) (slot : ℕ) (command : Command)
    → Facts dealer n ever → IsChosenIn n ever ballot slot command → In (Accept ballot slot command) ever
chosen_was_proposed dealer n ever ballot slot command facts chosen =
    let member = quorums_meet n chosen.0 chosen.0 chosen.1 chosen.1 in
    facts.right (Accepted member.0 ballot slot command) (chosen.2 member.0 member.1 member.2)

-- a proposal of the ballot carries the command that was chosen in a lower one
abbrev Carries : List Message → Ballot → ℕ → Command → Ballot → Type 0
Carries ever lower slot chosen ballot = (command : Command) → Below lower ballot → In (Accept ballot slot command) ever → command ≡ chosen

carries_told : (dealer : Dealer) (n : ℕ) (ever : List Message) (lower : Ballot) (slot : ℕ) (c : Command) → Facts dealer n ever
    → IsChosenIn n ever lower slot c → (greatest : Ballot) (command : Command) → AtMost lower greatest → In (Accept greatest slot command) ever
    → Carries ever lower slot c greatest → command ≡ c
carries_told dealer n ever lower slot c facts chosen greatest command at_most proposed carries =
    elim (equal_or_below lower greatest at_most) [
      | inl e ↦ facts.one greatest slot command c proposed (subst (λ b. In (Accept b slot c) ever) e (chosen_was_proposed dealer n ever lower slot c facts chosen))
      | inr below ↦ carries command below proposed
    ]

carries_step : (dealer : Dealer) (n : ℕ) (ever : List Message) (lower : Ballot) (slot : ℕ) (c : Command) → Facts dealer n ever
    → IsChosenIn n ever lower slot c → (ballot : Ballot) → ((a : Ballot) → Below a ballot → Carries ever lower slot c a)
    → (command : Command) → Below lower ballot → IsSafe n ever ballot slot command → command ≡ c
carries_step dealer n ever lower slot c facts chosen ballot ih command below (inl g) =
    let promises = g.2 in
    let member = quorums_meet n promises.0 chosen.0 promises.1 chosen.1 in
    let promise = promises.2 member.0 member.1 member.2 in
    let least = facts.told member.0 ballot promise.0 promise.1 lower slot c promise.2 (chosen.2 member.0 member.1 member.3) promise.3 below in
    let at_most = at_most_trans lower least.0.ballot g.0 least.2 (promise.4 _ least.1 refl) in
    let told = g.1 in
    let proposed = facts.right (Promise told.0 ballot told.1 told.2) told.3 _ told.4 in
    carries_told dealer n ever lower slot c facts chosen g.0 command at_most proposed.0 (ih g.0 proposed.1)
carries_step dealer n ever lower slot c facts chosen ballot ih command below (inr free) =
    let member = quorums_meet n free.0 chosen.0 free.1 chosen.1 in
    let promise = free.2 member.0 member.1 member.2 in
    let least = facts.told member.0 ballot promise.0 promise.1 lower slot c promise.2 (chosen.2 member.0 member.1 member.3) promise.3 below in
    absurd (promise.4 _ least.1 refl)

-- every proposal of a greater ballot carries what was chosen
pub later_carries : (dealer : Dealer) (n : ℕ) (ever : List Message) (lower : Ballot) (slot : ℕ) (c : Command) → Facts dealer n ever
    → IsChosenIn n ever lower slot c → (ballot : Ballot) → Carries ever lower slot c ballot
later_carries dealer n ever lower slot c facts chosen =
    induct (Carries ever lower slot c) (λ ballot ih command below proposed.
    carries_step dealer n ever lower slot c facts chosen ballot ih command below (facts.right (Accept ballot slot command) proposed).0)

-- at a slot one command is chosen
pub one_chosen : (dealer : Dealer) (n : ℕ) (ever : List Message) (slot : ℕ) (c d : Command) → Facts dealer n ever
    → IsChosen n ever slot c → IsChosen n ever slot d → c ≡ d
one_chosen dealer n ever slot c d facts first second =
    let proposed_first = chosen_was_proposed dealer n ever first.0 slot c facts first.1 in
    let proposed_second = chosen_was_proposed dealer n ever second.0 slot d facts second.1 in
    elim (compared first.0 second.0) [
      | inl below ↦ sym (later_carries dealer n ever first.0 slot c facts first.1 second.0 d below proposed_second)
      | inr (inl e) ↦ facts.one second.0 slot c d (subst (λ b. In (Accept b slot c) ever) e proposed_first) proposed_second
      | inr (inr below) ↦ later_carries dealer n ever second.0 slot d facts second.1 first.0 c below proposed_first
    ]

-- so lists of chosen commands that are equally long are equal
pub one_list : (dealer : Dealer) (n : ℕ) (ever : List Message) (xs ys : List Command) → Facts dealer n ever
    → AreChosen n ever xs → AreChosen n ever ys → length xs ≡ length ys → xs ≡ ys
one_list dealer n ever [] [] facts p q e = refl
one_list dealer n ever [] (y ∷ ys) facts p q e = absurd (omega arith)
one_list dealer n ever (x ∷ xs) [] facts p q e = absurd (omega arith)
one_list dealer n ever (x ∷ xs) (y ∷ ys) facts p q e =
    let rest = one_list dealer n ever xs ys facts p.1 q.1 (omega arith) in
    let head = one_chosen dealer n ever (length ys) x y facts (subst (λ zs. IsChosen n ever (length zs) x) rest p.0) q.0 in
    λ i. head i ∷ rest i

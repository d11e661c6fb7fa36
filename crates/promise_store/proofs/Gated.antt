-- Records one after another behind open gates.
use Rattle.std.proofs.Common.{◌≡◌, ℕ, ◌+◌, ◌≤◌, List, [], ◌∷◌, ◌++◌, length, sym, ◌∙◌, ap, arith, append_assoc, length-append}
use Rattle.std.specs.Prelude.{◌/◌, ◌%◌, ◌*◌}
use Rattle.std.specs.List.{flat_map, AllByRecursion}
use Rattle.std.proofs.lemmas.List.{append-nil}
use Rattle.std.proofs.lemmas.List.Concat.{flat_map-cons}
use Rattle.std.proofs.lemmas.Option.{some_pair_parts}
use Rattle.slot_log.proofs.Hands.{same_fronts}
use Rattle.paxos_wire.specs.declared.ballot.Ballot.{Ballot}
use Rattle.paxos_wire.specs.declared.version.Version.TheVariants.{New}
use Rattle.paxos_wire.specs.declared.limits.TheConstants.{SLOTS}
use Rattle.slot_log.specs.declared.command.Command.{Command}
use Rattle.slot_log.specs.declared.command.Command.TheVariants.{Deal, Act, Away}
use Rattle.betting.specs.declared.action.Action.TheVariants.{Fold, Call, Raise}
use Rattle.slot_log.specs.Range.{IsInRange}
use Rattle.paxos_wire.specs.Fits.{IsBallot, IsSlot, IsDealt, IsCommand, IsCommandRun}
use Rattle.paxos_wire.specs.Spelling.{ballot_text, slot_text, command_text, run_text}
use Rattle.paxos_wire.specs.Reading.{below_at, ballot_at, command_at, commands_at}
use Rattle.paxos_wire.proofs.Numbers.{below_again}
use Rattle.paxos_wire.proofs.CommandLaws.{ballot_again, command_again}
use Rattle.paxos_wire.proofs.CommandRuns.{commands_again}
use Rattle.promise_store.specs.declared.records.Record.{Record}
use Rattle.promise_store.specs.declared.records.Record.TheVariants.{Promised, VotedOne, Opened, Voted}
use Rattle.promise_store.specs.Records.{payload, IsRecord, counted, record_text}
use Rattle.promise_store.specs.Journals.{gated}

-- a list of bytes with its length in front ends by itself
same_counted : (p q x y : List ℕ) → counted p ++ x ≡ counted q ++ y → (p ≡ q) × (x ≡ y)
same_counted p q x y same =
    let high : length p / 256 ≡ length q / 256 = cc in
    let low : length p % 256 ≡ length q % 256 = cc in
    let rest : p ++ x ≡ q ++ y = cc in
    same_fronts p q x y (omega (arith, high, low)) rest

same_ballots : (a b : Ballot) (x y : List ℕ) → IsBallot a → IsBallot b → ballot_text a ++ x ≡ ballot_text b ++ y → (a ≡ b) × (x ≡ y)
same_ballots a b x y is_a is_b same = some_pair_parts a b x y (sym (ballot_again New a x is_a is_a.node) ∙ ap (ballot_at New) same ∙ ballot_again New b y is_b is_b.node)

same_slots : (a b : ℕ) (x y : List ℕ) → IsSlot a → IsSlot b → slot_text a ++ x ≡ slot_text b ++ y → (a ≡ b) × (x ≡ y)
same_slots a b x y is_a is_b same = some_pair_parts a b x y (sym (below_again 4 SLOTS a x is_a (omega arith)) ∙ ap (below_at 4 SLOTS) same ∙ below_again 4 SLOTS b y is_b (omega arith))

same_commands : (a b : Command) (x y : List ℕ) → IsCommand a → IsCommand b → command_text a ++ x ≡ command_text b ++ y → (a ≡ b) × (x ≡ y)
same_commands a b x y is_a is_b same = some_pair_parts a b x y (sym (command_again a x is_a) ∙ ap command_at same ∙ command_again b y is_b)

pub slot_of_run : (slot : ℕ) (cs : List Command) → IsCommandRun slot cs → IsSlot slot
slot_of_run slot cs run = omega (arith, run.least, run.slots)

heads : {x y : ℕ} {xs ys : List ℕ} → x ∷ xs ≡ y ∷ ys → x ≡ y
heads e = cc

tails : {x y : ℕ} {xs ys : List ℕ} → x ∷ xs ≡ y ∷ ys → xs ≡ ys
tails e = cc

same_runs : (cs ds : List Command) → AllByRecursion IsInRange cs → AllByRecursion IsDealt cs → AllByRecursion IsInRange ds → AllByRecursion IsDealt ds → run_text cs ≡ run_text ds → cs ≡ ds
same_runs cs ds range_c dealt_c range_d dealt_d same =
    let size : length cs ≡ length ds = heads same in
    let text : flat_map command_text cs ≡ flat_map command_text ds = tails same in
    let first = commands_again cs [] range_c dealt_c in
    let second = commands_again ds [] range_d dealt_d in
    (some_pair_parts cs ds [] [] (sym first ∙ ap (commands_at (length cs)) (ap (λ (w : List ℕ). w ++ []) text) ∙ ap (λ (n : ℕ). commands_at n (flat_map command_text ds ++ [])) size ∙ second)).0

abbrev pub kind_of : List ℕ → ℕ
kind_of [] = 0
kind_of (kind ∷ rest) = kind

abbrev pub behind_kind : List ℕ → List ℕ
behind_kind [] = []
behind_kind (kind ∷ rest) = rest

-- a payload is of one record
pub same_payloads : (r s : Record) → IsRecord r → IsRecord s → payload r ≡ payload s → r ≡ s
same_payloads (Promised a) (Promised b) is_a is_b same =
    let rest : ballot_text a ≡ ballot_text b = ap behind_kind same in
    ap Promised (same_ballots a b [] [] is_a is_b (ap (λ (l : List ℕ). l ++ []) rest)).0
same_payloads (Promised a) (VotedOne b slot command) is_a is_b same = absurd (let kinds = ap kind_of same in omega (arith, kinds))
same_payloads (Promised a) Opened is_a is_b same = absurd (let kinds = ap kind_of same in omega (arith, kinds))
same_payloads (Promised a) (Voted b slot commands) is_a is_b same = absurd (let kinds = ap kind_of same in omega (arith, kinds))
same_payloads (VotedOne b slot command) (Promised a) is_b is_a same = absurd (let kinds = ap kind_of same in omega (arith, kinds))
same_payloads (VotedOne a slot command) (VotedOne b other another) is_a is_b same =
    let rest : ballot_text a ++ (slot_text slot ++ command_text command) ≡ ballot_text b ++ (slot_text other ++ command_text another) = ap behind_kind same in
    let one = same_ballots a b _ _ is_a.0 is_b.0 rest in
    let two = same_slots slot other _ _ is_a.1 is_b.1 one.1 in
    let three = same_commands command another [] [] is_a.2 is_b.2 (ap (λ (l : List ℕ). l ++ []) two.1) in
    (λ i. VotedOne (one.0 i) (two.0 i) (three.0 i))
same_payloads (VotedOne b slot command) Opened is_b is_a same = absurd (let kinds = ap kind_of same in omega (arith, kinds))
same_payloads (VotedOne b slot command) (Voted a other commands) is_b is_a same = absurd (let kinds = ap kind_of same in omega (arith, kinds))
same_payloads Opened (Promised b) is_a is_b same = absurd (let kinds = ap kind_of same in omega (arith, kinds))
same_payloads Opened (VotedOne b slot command) is_a is_b same = absurd (let kinds = ap kind_of same in omega (arith, kinds))
same_payloads Opened Opened is_a is_b same = (λ i. Opened)
same_payloads Opened (Voted b slot commands) is_a is_b same = absurd (let kinds = ap kind_of same in omega (arith, kinds))
same_payloads (Voted b slot commands) (Promised a) is_b is_a same = absurd (let kinds = ap kind_of same in omega (arith, kinds))
same_payloads (Voted b slot commands) (VotedOne a other command) is_b is_a same = absurd (let kinds = ap kind_of same in omega (arith, kinds))
same_payloads (Voted b slot commands) Opened is_b is_a same = absurd (let kinds = ap kind_of same in omega (arith, kinds))
same_payloads (Voted a slot commands) (Voted b other others) is_a is_b same =
    let rest : ballot_text a ++ (slot_text slot ++ run_text commands) ≡ ballot_text b ++ (slot_text other ++ run_text others) = ap behind_kind same in
    let one = same_ballots a b _ _ is_a.0 is_b.0 rest in
    let two = same_slots slot other _ _ (slot_of_run slot commands is_a.1) (slot_of_run other others is_b.1) one.1 in
    let three = same_runs commands others is_a.1.each is_a.2 is_b.1.each is_b.2 two.1 in
    (λ i. Voted (one.0 i) (two.0 i) (three i))

-- a record's text ends by itself
pub same_records : (r s : Record) (x y : List ℕ) → IsRecord r → IsRecord s → record_text r ++ x ≡ record_text s ++ y → (r ≡ s) × (x ≡ y)
same_records r s x y is_r is_s same =
    let both = same_counted (payload r) (payload s) x y same in
    (same_payloads r s is_r is_s both.0, both.1)

pub gated_push : (records : List Record) (r : Record) (rest : List ℕ) → gated (records ++ r ∷ []) ++ rest ≡ gated records ++ 1 ∷ (record_text r ++ rest)
gated_push [] r rest = ap (λ (l : List ℕ). 1 ∷ (l ++ rest)) (append-nil (record_text r))
gated_push (first ∷ records) r rest =
    ap (λ (l : List ℕ). 1 ∷ l) (append_assoc (record_text first) (gated (records ++ r ∷ [])) rest
    ∙ ap (λ (l : List ℕ). record_text first ++ l) (gated_push records r rest)
    ∙ sym (append_assoc (record_text first) (gated records) (1 ∷ (record_text r ++ rest))))

pub length_gated_push : (front : List Record) (r : Record) → length (gated (front ++ r ∷ [])) ≡ length (gated front) + length (payload r) + 3
length_gated_push front r =
    let same = sym (append-nil (gated (front ++ r ∷ []))) ∙ gated_push front r [] in
    omega (arith, ap length same, length-append (gated front) (1 ∷ (record_text r ++ [])), length-append (payload r) [])

-- no command is longer: six bytes, and the cards of ten players and of the board
pub command_most : (c : Command) → IsDealt c → length (command_text c) ≤ 31
command_most (Deal hand cards) dealt = omega (arith, dealt.most, dealt.deal.count)
command_most (Act hand index Fold) dealt = omega arith
command_most (Act hand index Call) dealt = omega arith
command_most (Act hand index (Raise amount)) dealt = omega arith
command_most (Away hand index) dealt = omega arith

pub commands_most : (cs : List Command) → AllByRecursion IsDealt cs → length (flat_map command_text cs) ≤ 31 * length cs
commands_most [] dealt = omega arith
commands_most (c ∷ cs) dealt =
    let long : length (flat_map command_text (c ∷ cs)) ≡ length (command_text c) + length (flat_map command_text cs) = ap length (flat_map-cons command_text c cs) ∙ length-append (command_text c) (flat_map command_text cs) in
    let first = command_most c dealt.0 in
    let others = commands_most cs dealt.1 in
    omega (arith, long, first, others)

-- no payload is longer than that of 64 such deals
pub payload_most : (r : Record) → IsRecord r → length (payload r) ≤ 1995
payload_most (Promised ballot) is = omega arith
payload_most (VotedOne ballot slot command) is = omega (arith, command_most command is.2.cards)
payload_most Opened is = omega arith
payload_most (Voted ballot slot commands) is = omega (arith, commands_most commands is.2, is.1.most)

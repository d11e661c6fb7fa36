-- Frames of either version: what is read is what is written, and what is written is read again.
use Rattle.std.proofs.Common.{◌≡◌, ℕ, suc, ◌+◌, ◌*◌, ◌<◌, ◌≤◌, lit≤, Bool, true, false, not, ◌||◌, cond, ltb, leb, eqb, List, [], ◌∷◌, ◌++◌, length, map, slice_index, drop, Option, Some, None, Ok, Err, refl, sym, ap, subst, ◌∙◌, arith, inl, inr, length-append}
use Rattle.std.specs.List.{flat_map, AllByRecursion}
use Rattle.std.proofs.lemmas.Bool.{ltb-false, le-ltb, leb-true, eqb-true, eq-eqb, not-false, and_parts}
use Rattle.std.proofs.lemmas.List.Concat.{flat_map-cons}
use Rattle.slot_log.specs.declared.command.Command.{Command}
use Rattle.slot_log.specs.declared.command.Command.TheVariants.{Deal, Act, Away}
use Rattle.betting.specs.declared.action.Action.TheVariants.{Fold, Call, Raise}
use Rattle.paxos_wire.specs.declared.limits.TheConstants.{VERSION, OLD_VERSION, LEAST_LENGTH, MOST_LENGTH, MOST_COMMAND, RUN_FRONT, MOST_FRAME, MOST_RUN_FRAME, MOST_SINGLE_FRAME}
use Rattle.paxos_wire.specs.declared.ballot.Ballot.{Ballot}
use Rattle.paxos_wire.specs.declared.entry.Entry.{Entry}
use Rattle.paxos_wire.specs.declared.fault.FrameFault.{FrameFault}
use Rattle.paxos_wire.specs.declared.fault.FrameFault.TheVariants.{TooShort, TooLong, BadVersion, BadKind, BadBody}
use Rattle.paxos_wire.specs.declared.message.Message.{Message}
use Rattle.paxos_wire.specs.declared.message.Message.TheVariants.{Prepare, Promise, Refuse, Accept, Accepted, Chosen, Ask, Forward}
use Rattle.std.specs.Option.{unwrap_or}
use Rattle.byteorder.specs.Endian.{big_bytes}
use Rattle.byteorder.specs.Numbers.{big_number-reads_back}
use Rattle.paxos_wire.specs.declared.version.Version.{Version}
use Rattle.paxos_wire.specs.declared.version.Version.TheVariants.{Old, New}
use Rattle.paxos_wire.specs.Versions.{version_byte, nodes_in, is_version, version_of}
use Rattle.paxos_wire.specs.Fits.{IsDealt, IsEntry, IsCommandRun, Fits, IsMessage, IsSingle, IsOld, HasNodesBelow, HasOneCommand, most_bytes}
use Rattle.paxos_wire.specs.Spelling.{command_text, entry_text, kind, proposed_text, payload, frame_of, frame, old_frame, IsText}
use Rattle.paxos_wire.specs.Reading.{body_of}
use Rattle.paxos_wire.specs.Faults.{length_field, is_kind, header_fault, fault_of, behind, reading}
use Rattle.paxos_wire.proofs.Steps.{IsBytes}
use Rattle.paxos_wire.proofs.Numbers.{wide4}
use Rattle.paxos_wire.proofs.MessageLaws.{HasCountOf, body_is, body_again}
use Rattle.slot_log.proofs.Allowed.{past_test}

-- ---- lengths

command_most : (c : Command) → IsDealt c → length (command_text c) ≤ 31
command_most (Deal hand cards) dealt = omega (arith, dealt.most, dealt.deal.count)
command_most (Act hand index Fold) dealt = omega arith
command_most (Act hand index Call) dealt = omega arith
command_most (Act hand index (Raise amount)) dealt = omega arith
command_most (Away hand index) dealt = omega arith

entries_most : (es : List Entry) → AllByRecursion IsDealt (map (λ e. e.command) es) → length (flat_map entry_text es) ≤ 40 * length es
entries_most [] cards = omega arith
entries_most (e ∷ es) cards =
    let first = command_most e.command cards.0 in
    let rest = entries_most es cards.1 in
    let whole : length (flat_map entry_text (e ∷ es)) ≡ length (entry_text e) + length (flat_map entry_text es) = ap length (flat_map-cons entry_text e es) ∙ length-append (entry_text e) (flat_map entry_text es) in
    omega (arith, whole, first, rest)

commands_most : (cs : List Command) → AllByRecursion IsDealt cs → length (flat_map command_text cs) ≤ MOST_COMMAND * length cs
commands_most [] cards = omega arith
commands_most (c ∷ cs) cards =
    let first = command_most c cards.0 in
    let rest = commands_most cs cards.1 in
    let whole : length (flat_map command_text (c ∷ cs)) ≡ length (command_text c) + length (flat_map command_text cs) = ap length (flat_map-cons command_text c cs) ∙ length-append (command_text c) (flat_map command_text cs) in
    omega (arith, whole, first, rest)

-- a byte for the count, in the version that has one
proposed_most : (version : Version) (cs : List Command) → AllByRecursion IsDealt cs → length (proposed_text version cs) ≤ 1 + MOST_COMMAND * length cs
proposed_most Old cs cards = omega (arith, commands_most cs cards)
proposed_most New cs cards = omega (arith, commands_most cs cards)

pub kind_most : (version : Version) (m : Message) → IsMessage m → 4 + length (payload version m) ≤ most_bytes m
kind_most version (Prepare b s) fits = omega arith
kind_most version (Promise b s es) fits = omega (arith, entries_most es fits.cards, fits.numbers.2.most)
kind_most version (Refuse b s p) fits = omega arith
kind_most version (Accept b s cs) fits = omega (arith, proposed_most version cs fits.cards)
kind_most version (Accepted b s cs) fits = omega (arith, proposed_most version cs fits.cards)
kind_most version (Chosen s c) fits = omega (arith, command_most c fits.cards.0)
kind_most version (Ask s) fits = omega arith
kind_most version (Forward c) fits = omega (arith, command_most c fits.cards.0)

run_most : (s : ℕ) (cs : List Command) → IsCommandRun s cs → RUN_FRONT + MOST_COMMAND * length cs ≤ MOST_RUN_FRAME
run_most s cs run = omega (arith, run.most)

kinds_most : (m : Message) → IsMessage m → most_bytes m ≤ MOST_FRAME
kinds_most (Prepare b s) fits = lit≤ tt
kinds_most (Promise b s es) fits = lit≤ tt
kinds_most (Refuse b s p) fits = lit≤ tt
kinds_most (Accept b s cs) fits = omega (arith, run_most s cs fits.numbers.1)
kinds_most (Accepted b s cs) fits = omega (arith, run_most s cs fits.numbers.1)
kinds_most (Chosen s c) fits = lit≤ tt
kinds_most (Ask s) fits = lit≤ tt
kinds_most (Forward c) fits = lit≤ tt

pub payload_most : (version : Version) (m : Message) → IsMessage m → 4 + length (payload version m) ≤ MOST_FRAME
payload_most version m fits = omega (arith, kind_most version m fits, kinds_most m fits)

singles_most : (m : Message) → IsSingle m → most_bytes m ≤ MOST_SINGLE_FRAME
singles_most (Prepare b s) single = lit≤ tt
singles_most (Promise b s es) single = absurd single
singles_most (Refuse b s p) single = lit≤ tt
singles_most (Accept b s cs) single = omega (arith, single)
singles_most (Accepted b s cs) single = omega (arith, single)
singles_most (Chosen s c) single = lit≤ tt
singles_most (Ask s) single = lit≤ tt
singles_most (Forward c) single = lit≤ tt

single_most : (version : Version) (m : Message) → IsMessage m → IsSingle m → 4 + length (payload version m) ≤ MOST_SINGLE_FRAME
single_most version m fits single = omega (arith, kind_most version m fits, singles_most m single)

kind_passes : (m : Message) → is_kind (kind m) ≡ true
kind_passes (Prepare b s) = refl
kind_passes (Promise b s es) = refl
kind_passes (Refuse b s p) = refl
kind_passes (Accept b s c) = refl
kind_passes (Accepted b s c) = refl
kind_passes (Chosen s c) = refl
kind_passes (Ask s) = refl
kind_passes (Forward c) = refl

version_passes : (version : Version) → is_version (version_byte version) ≡ true
version_passes Old = refl
version_passes New = refl

version_again : (version : Version) → version_of (version_byte version) ≡ version
version_again Old = refl
version_again New = refl

-- the length in front of a frame, whatever follows it
length_field_of : (version : Version) (m : Message) (rest : List ℕ) → IsMessage m → length_field (frame_of version m ++ rest) ≡ length (payload version m)
unfolding frame_of
length_field_of version m rest fits = big_number-reads_back 4 (length (payload version m)) (payload version m ++ rest) (omega (arith, payload_most version m fits))

no_header_fault : (version : Version) (m : Message) → IsMessage m → header_fault (frame_of version m) ≡ None
unfolding header_fault frame_of
no_header_fault version m fits =
    let field : length_field (frame_of version m) ≡ length (payload version m) = big_number-reads_back 4 (length (payload version m)) (payload version m) (omega (arith, payload_most version m fits)) in
    let least : ltb (length (payload version m)) LEAST_LENGTH ≡ false = le-ltb _ _ (omega arith) in
    let most : ltb MOST_LENGTH (length (payload version m)) ≡ false = le-ltb _ _ (omega (arith, payload_most version m fits)) in
    let long : ltb (length (frame_of version m)) 4 ≡ false = le-ltb _ _ (omega arith) in
    let whole : eqb (length (frame_of version m)) (4 + length (payload version m)) ≡ true = eq-eqb _ _ (omega arith) in
    rw (long, field, least, most, whole, version_passes version, kind_passes m) refl

frame_of_again : (version : Version) (m : Message) → IsMessage m → HasNodesBelow (nodes_in version) m → HasCountOf version m → reading (frame_of version m) ≡ Ok m
unfolding reading frame_of
frame_of_again version m fits nodes one = rw (no_header_fault version m fits, version_again version, body_again version m fits nodes one) refl

-- the length's four bytes, and what they count
frame_of_length : (version : Version) (m : Message) → length (frame_of version m) ≡ 4 + length (payload version m)
unfolding frame_of
frame_of_length version m = omega arith

-- the new version has all nodes that there are
nodes_below : (m : Message) → Fits m → HasNodesBelow (nodes_in New) m
nodes_below (Prepare b s) fits = fits.0.node
nodes_below (Promise b s es) fits = (fits.0.node, entry_nodes es fits.2.each)
  where
    entry_nodes : (es : List Entry) → AllByRecursion IsEntry es → AllByRecursion (λ e. e.ballot.node < nodes_in New) es
    entry_nodes [] each = tt
    entry_nodes (e ∷ es) each = (each.0.ballot.node, entry_nodes es each.1)
nodes_below (Refuse b s p) fits = (fits.0.node, fits.2.node)
nodes_below (Accept b s c) fits = fits.0.node
nodes_below (Accepted b s c) fits = fits.0.node
nodes_below (Chosen s c) fits = tt
nodes_below (Ask s) fits = tt
nodes_below (Forward c) fits = tt

-- and tells every count
counted_new : (m : Message) → HasCountOf New m
counted_new (Prepare b s) = tt
counted_new (Promise b s es) = tt
counted_new (Refuse b s p) = tt
counted_new (Accept b s cs) = tt
counted_new (Accepted b s cs) = tt
counted_new (Chosen s c) = tt
counted_new (Ask s) = tt
counted_new (Forward c) = tt

-- the old one tells of one command
counted_old : (m : Message) → HasOneCommand m → HasCountOf Old m
counted_old (Prepare b s) one = tt
counted_old (Promise b s es) one = tt
counted_old (Refuse b s p) one = tt
counted_old (Accept b s cs) one = one
counted_old (Accepted b s cs) one = one
counted_old (Chosen s c) one = tt
counted_old (Ask s) one = tt
counted_old (Forward c) one = tt

one_command : (m : Message) → HasCountOf Old m → HasOneCommand m
one_command (Prepare b s) one = tt
one_command (Promise b s es) one = tt
one_command (Refuse b s p) one = tt
one_command (Accept b s cs) one = one
one_command (Accepted b s cs) one = one
one_command (Chosen s c) one = tt
one_command (Ask s) one = tt
one_command (Forward c) one = tt

pub frame_again : (m : Message) → IsMessage m → reading (frame m) ≡ Ok m
frame_again m fits = frame_of_again New m fits (nodes_below m fits.numbers) (counted_new m)

pub old_frame_again : (m : Message) → IsMessage m → IsOld m → reading (old_frame m) ≡ Ok m
old_frame_again m fits old = frame_of_again Old m fits old.0 (counted_old m old.1)

pub frame_most : (m : Message) → IsMessage m → length (frame m) ≤ MOST_FRAME
frame_most m fits = omega (arith, frame_of_length New m, payload_most New m fits)

pub kind_frame_most : (m : Message) → IsMessage m → length (frame m) ≤ most_bytes m
kind_frame_most m fits = omega (arith, frame_of_length New m, kind_most New m fits)

-- an Accepted has the frame of an Accept but for its kind
pub run_frame_most : (b : Ballot) (s : ℕ) (cs : List Command) → IsMessage (Accept b s cs) → (length (frame (Accept b s cs)) ≤ MOST_RUN_FRAME) × (length (frame (Accepted b s cs)) ≤ MOST_RUN_FRAME)
run_frame_most b s cs fits =
    let most = run_most s cs fits.numbers.1 in
    let other : IsMessage (Accepted b s cs) = record { numbers = fits.numbers; cards = fits.cards } in
    (omega (arith, kind_frame_most (Accept b s cs) fits, most), omega (arith, kind_frame_most (Accepted b s cs) other, most))

pub single_frame_most : (m : Message) → IsMessage m → IsSingle m → length (frame m) ≤ MOST_SINGLE_FRAME
single_frame_most m fits single = omega (arith, frame_of_length New m, single_most New m fits single)

-- ---- texts of either version

-- what a text's length says, and that it is read
pub record IsFramed (m : Message) (text : List ℕ) : Type 0 where
  pub least : 4 + LEAST_LENGTH ≤ length text
  pub most : length text ≤ 4 + MOST_LENGTH
  pub field : (rest : List ℕ) → 4 + length_field (text ++ rest) ≡ length text
  pub read : reading text ≡ Ok m

framed : (version : Version) (m : Message) → IsMessage m → HasNodesBelow (nodes_in version) m → HasCountOf version m → IsFramed m (frame_of version m)
framed version m fits nodes one =
    let len = frame_of_length version m in
    record {
      least = omega (arith, len);
      most = omega (arith, len, payload_most version m fits);
      field = λ rest. omega (arith, len, length_field_of version m rest fits);
      read = frame_of_again version m fits nodes one;
    }

pub text_framed : (m : Message) (text : List ℕ) → IsMessage m → IsText m text → IsFramed m text
text_framed m text fits (inl new) = subst (λ (t : List ℕ). IsFramed m t) (sym new) (framed New m fits (nodes_below m fits.numbers) (counted_new m))
text_framed m text fits (inr old) = subst (λ (t : List ℕ). IsFramed m t) (sym old.1) (framed Old m fits old.0.0 (counted_old m old.0.1))

text_of : (version : Version) (m : Message) (text : List ℕ) → HasNodesBelow (nodes_in version) m → HasCountOf version m → text ≡ frame_of version m → IsText m text
text_of Old m text nodes one is = inr ((nodes, one_command m one), is)
text_of New m text nodes one is = inl is

-- ---- what was read is a frame

-- what no fault of the header says
record IsHeaded (bytes : List ℕ) : Type 0 where
  pub long : 4 ≤ length bytes
  pub least : LEAST_LENGTH ≤ length_field bytes
  pub most : length_field bytes ≤ MOST_LENGTH
  pub whole : length bytes ≡ 4 + length_field bytes
  pub version_passes : is_version (slice_index bytes 4) ≡ true
  pub kind_passes : is_kind (slice_index bytes 5) ≡ true

is_headed : (bytes : List ℕ) → header_fault bytes ≡ None → IsHeaded bytes
unfolding header_fault
is_headed bytes e =
    let a = past_test (ltb (length bytes) 4) TooShort (cond (ltb (length_field bytes) LEAST_LENGTH) (Some TooShort) (cond (ltb MOST_LENGTH (length_field bytes)) (Some TooLong) (cond (not (eqb (length bytes) (4 + length_field bytes))) (Some BadBody) (cond (not (is_version (slice_index bytes 4))) (Some BadVersion) (cond (not (is_kind (slice_index bytes 5))) (Some BadKind) None))))) e in
    let b = past_test (ltb (length_field bytes) LEAST_LENGTH) TooShort (cond (ltb MOST_LENGTH (length_field bytes)) (Some TooLong) (cond (not (eqb (length bytes) (4 + length_field bytes))) (Some BadBody) (cond (not (is_version (slice_index bytes 4))) (Some BadVersion) (cond (not (is_kind (slice_index bytes 5))) (Some BadKind) None)))) a.1 in
    let c = past_test (ltb MOST_LENGTH (length_field bytes)) TooLong (cond (not (eqb (length bytes) (4 + length_field bytes))) (Some BadBody) (cond (not (is_version (slice_index bytes 4))) (Some BadVersion) (cond (not (is_kind (slice_index bytes 5))) (Some BadKind) None))) b.1 in
    let d = past_test (not (eqb (length bytes) (4 + length_field bytes))) BadBody (cond (not (is_version (slice_index bytes 4))) (Some BadVersion) (cond (not (is_kind (slice_index bytes 5))) (Some BadKind) None)) c.1 in
    let f = past_test (not (is_version (slice_index bytes 4))) BadVersion (cond (not (is_kind (slice_index bytes 5))) (Some BadKind) None) d.1 in
    let g = past_test (not (is_kind (slice_index bytes 5))) BadKind None f.1 in
    record {
      long = ltb-false _ _ a.0;
      least = ltb-false _ _ b.0;
      most = ltb-false _ _ c.0;
      whole = eqb-true _ _ (not-false _ d.0);
      version_passes = not-false _ f.0;
      kind_passes = not-false _ g.0;
    }

pub behind_ok : (fault : Option FrameFault) (read : Option Message) (m : Message) → behind fault read ≡ Ok m → (fault ≡ None) × (read ≡ Some m)
behind_ok (Some f) read m e = absurd cc
behind_ok None (Some n) m e = (refl, cc)
behind_ok None None m e = absurd cc

behind_err : (fault : Option FrameFault) (read : Option Message) (f : FrameFault) → behind fault read ≡ Err f → f ≡ unwrap_or fault BadBody
behind_err (Some g) read f e = cc
behind_err None (Some n) f e = absurd cc
behind_err None None f e = cc

byte_by : (old : Bool) (byte : ℕ) → eqb byte OLD_VERSION ≡ old → (old || eqb byte VERSION) ≡ true → version_byte (cond old Old New) ≡ byte
byte_by true byte is passes = sym (eqb-true byte OLD_VERSION is)
byte_by false byte is passes = sym (eqb-true byte VERSION passes)

byte_is : (byte : ℕ) → is_version byte ≡ true → version_byte (version_of byte) ≡ byte
byte_is byte passes = byte_by (eqb byte OLD_VERSION) byte refl passes

-- the six bytes in front of a body
headed_is : (bytes : List ℕ) (m : Message) → IsBytes bytes → IsHeaded bytes → body_of (version_of (slice_index bytes 4)) (slice_index bytes 5) (drop 6 bytes) ≡ Some m → IsMessage m × IsText m bytes
unfolding frame_of
headed_is [] m fits h e = absurd (omega (arith, h.long))
headed_is (a ∷ []) m fits h e = absurd (omega (arith, h.long))
headed_is (a ∷ b ∷ []) m fits h e = absurd (omega (arith, h.long))
headed_is (a ∷ b ∷ c ∷ []) m fits h e = absurd (omega (arith, h.long))
headed_is (a ∷ b ∷ c ∷ d ∷ []) m fits h e = absurd (omega (arith, h.least, h.whole))
headed_is (a ∷ b ∷ c ∷ d ∷ v ∷ []) m fits h e = absurd (omega (arith, h.least, h.whole))
headed_is (a ∷ b ∷ c ∷ d ∷ v ∷ k ∷ bytes) m fits h e =
    let kinds = and_parts (leb 1 k) (leb k 8) h.kind_passes in
    let version : Version = version_of v in
    let is = body_is version k bytes m (leb-true _ _ kinds.0) (leb-true _ _ kinds.1) (λ i. fits (suc (suc (suc (suc (suc (suc i))))))) e in
    let byte : version_byte version ≡ v = byte_is v h.version_passes in
    let behind_length : v ∷ k ∷ bytes ≡ payload version m = cc (byte, is.kind_is, is.text) in
    let len : length_field (a ∷ b ∷ c ∷ d ∷ v ∷ k ∷ bytes) ≡ length (payload version m) = omega (arith, h.whole, ap length behind_length) in
    let front : big_bytes 4 (length (payload version m)) ≡ a ∷ b ∷ c ∷ d ∷ [] = ap (big_bytes 4) (sym len) ∙ wide4.back (a ∷ b ∷ c ∷ d ∷ v ∷ k ∷ bytes) h.long fits in
    let whole : a ∷ b ∷ c ∷ d ∷ v ∷ k ∷ bytes ≡ frame_of version m = ap (λ (t : List ℕ). a ∷ b ∷ c ∷ d ∷ t) behind_length ∙ ap (λ (t : List ℕ). t ++ payload version m) (sym front) in
    (is.fits, text_of version m (a ∷ b ∷ c ∷ d ∷ v ∷ k ∷ bytes) is.nodes is.one whole)

pub frame_is : (bytes : List ℕ) (m : Message) → IsBytes bytes → reading bytes ≡ Ok m → IsMessage m × IsText m bytes
unfolding reading
frame_is bytes m fits e =
    let parts = behind_ok (header_fault bytes) (body_of (version_of (slice_index bytes 4)) (slice_index bytes 5) (drop 6 bytes)) m e in
    headed_is bytes m fits (is_headed bytes parts.0) parts.1

pub fault_is : (bytes : List ℕ) (f : FrameFault) → reading bytes ≡ Err f → f ≡ fault_of bytes
unfolding reading
fault_is bytes f e = behind_err (header_fault bytes) (body_of (version_of (slice_index bytes 4)) (slice_index bytes 5) (drop 6 bytes)) f e

-- Reading fields from the front of bytes: a value and the bytes after it, or nothing.
use Rattle.std.specs.Prelude.{◌≡◌, ℕ, zero, suc, ◌+◌, ◌%◌, Bool, true, false, not, ◌&&◌, ◌==◌, nat_eq, nat_lt, nat_le, if◌then◌else◌, List, [], ◌∷◌, length, take, drop, Option, Some, None}
use Rattle.std.specs.List.{list_any, list_all}
use Rattle.byteorder.specs.Endian.{big_number}
use Rattle.betting.specs.declared.action.Action.{Action}
use Rattle.betting.specs.declared.action.Action.TheVariants.{Fold, Call, Raise}
use Rattle.slot_log.specs.declared.command.Command.{Command}
use Rattle.slot_log.specs.declared.command.Command.TheVariants.{Deal, Act, Away}
use Rattle.paxos_wire.specs.declared.limits.TheConstants.{SLOTS, HANDS, ACTIONS, MOST_CHIPS, WINDOW}
use Rattle.paxos_wire.specs.declared.ballot.Ballot.{Ballot}
use Rattle.paxos_wire.specs.declared.entry.Entry.{Entry}
use Rattle.paxos_wire.specs.declared.message.Message.{Message}
use Rattle.paxos_wire.specs.declared.message.Message.TheVariants.{Prepare, Promise, Refuse, Accept, Accepted, Chosen, Ask, Forward}
use Rattle.paxos_wire.specs.declared.version.Version.{Version}
use Rattle.paxos_wire.specs.declared.version.Version.TheVariants.{Old, New}
use Rattle.paxos_wire.specs.Versions.{nodes_in}

infixl 10 ◌>>=◌
abbrev pub ◌>>=◌ : {A B : Type 0} → Option A → (A → Option B) → Option B
(Some x) >>= f = f x
None >>= f = None

-- what a reader of the program gave, seen by view, is what reading gives
abbrev pub Gives : {X Y : Type 0} → (X → Y) → Option X → Option Y → Type 0
Gives view None read = read ≡ None
Gives view (Some x) read = read ≡ Some (view x)

-- a value that stands a test
abbrev pub when : {A : Type 0} → Bool → A → Option A
when test x = if test then Some x else None

abbrev pub byte_at : List ℕ → Option (ℕ × List ℕ)
byte_at [] = None
byte_at (byte ∷ rest) = Some (byte, rest)

-- a number of n bytes
abbrev pub number_at : ℕ → List ℕ → Option (ℕ × List ℕ)
number_at n bytes = if nat_lt (length bytes) n then None else Some (big_number n bytes, drop n bytes)

unfoldable pub below_at : ℕ → ℕ → List ℕ → Option (ℕ × List ℕ)
below_at n limit bytes = do
  number ← number_at n bytes
  when (nat_lt number.0 limit) number

-- a ballot of a node that this version has
unfoldable pub ballot_at : Version → List ℕ → Option (Ballot × List ℕ)
ballot_at version bytes = do
  round ← number_at 4 bytes
  node ← byte_at round.1
  when (nat_lt 0 round.0 && nat_lt node.0 (nodes_in version)) (record { round = round.0; node = node.0 }, node.1)

unfoldable pub action_of : ℕ → ℕ → Option Action
action_of zero amount = when (amount == 0) Fold
action_of (suc zero) amount = when (amount == 0) Call
action_of (suc (suc zero)) amount = when (nat_le amount MOST_CHIPS) (Raise amount)
action_of (suc (suc (suc kind))) amount = None

unfoldable pub action_at : List ℕ → Option (Action × List ℕ)
action_at bytes = do
  kind ← byte_at bytes
  amount ← number_at 4 kind.1
  action ← action_of kind.0 amount.0
  Some (action, amount.1)

-- each is a card of the pack
abbrev pub are_cards : List ℕ → Bool
are_cards cards = list_all (λ card. nat_lt card 52) cards

-- none stands there twice
abbrev pub are_distinct : List ℕ → Bool
are_distinct [] = true
are_distinct (card ∷ cards) = not (list_any (λ other. nat_eq card other) cards) && are_distinct cards

-- two cards for each of two to ten players, and five
abbrev pub is_count : ℕ → Bool
is_count count = nat_le 9 count && nat_le count 25 && count % 2 == 1

-- distinct cards of the pack
unfoldable pub deal_of : List ℕ → Option (List ℕ)
deal_of cards = when (are_cards cards && are_distinct cards) cards

-- so many bytes at the front
abbrev pub bytes_at : ℕ → List ℕ → Option (List ℕ × List ℕ)
bytes_at count bytes = if nat_lt (length bytes) count then None else Some (take count bytes, drop count bytes)

unfoldable pub deal_at : List ℕ → Option (List ℕ × List ℕ)
deal_at bytes = do
  count ← byte_at bytes
  cards ← (if is_count count.0 then bytes_at count.0 count.1 else None)
  deal ← deal_of cards.0
  Some (deal, cards.1)

unfoldable pub dealt_at : ℕ → List ℕ → Option (Command × List ℕ)
dealt_at hand bytes = do
  deal ← deal_at bytes
  Some (Deal hand deal.0, deal.1)

unfoldable pub acted_at : ℕ → List ℕ → Option (Command × List ℕ)
acted_at hand bytes = do
  index ← below_at 2 ACTIONS bytes
  action ← action_at index.1
  Some (Act hand index.0 action.0, action.1)

unfoldable pub away_at : ℕ → List ℕ → Option (Command × List ℕ)
away_at hand bytes = do
  index ← below_at 2 ACTIONS bytes
  Some (Away hand index.0, index.1)

unfoldable pub command_at : List ℕ → Option (Command × List ℕ)
command_at bytes = do
  kind ← byte_at bytes
  hand ← below_at 4 HANDS kind.1
  (if kind.0 == 1 then dealt_at hand.0 hand.1
      else (if kind.0 == 2 then acted_at hand.0 hand.1
      else (if kind.0 == 3 then away_at hand.0 hand.1 else None)))

-- so many commands
unfoldable pub commands_at : ℕ → List ℕ → Option (List Command × List ℕ)
commands_at zero bytes = Some ([], bytes)
commands_at (suc count) bytes = do
  first ← command_at bytes
  others ← commands_at count first.1
  Some (first.0 ∷ others.0, others.1)

unfoldable pub entry_at : Version → List ℕ → Option (Entry × List ℕ)
entry_at version bytes = do
  slot ← below_at 4 SLOTS bytes
  ballot ← ballot_at version slot.1
  command ← command_at ballot.1
  Some (record { slot = slot.0; ballot = ballot.0; command = command.0 }, command.1)

-- an entry whose slot lies from one slot on and below another
unfoldable pub entry_within : Version → ℕ → ℕ → List ℕ → Option (Entry × List ℕ)
entry_within version from limit bytes = do
  entry ← entry_at version bytes
  when (nat_le from entry.0.slot && nat_lt entry.0.slot limit) entry

-- so many entries, whose slots rise from one slot on and stay below another
unfoldable pub entries_at : Version → ℕ → ℕ → ℕ → List ℕ → Option (List Entry × List ℕ)
entries_at version zero from limit bytes = Some ([], bytes)
entries_at version (suc count) from limit bytes = do
  first ← entry_within version from limit bytes
  others ← entries_at version count (first.0.slot + 1) limit first.1
  Some (first.0 ∷ others.0, others.1)

unfoldable pub promise_at : Version → Ballot → ℕ → List ℕ → Option (Message × List ℕ)
promise_at version ballot slot bytes = do
  count ← byte_at bytes
  entries ← (if nat_le count.0 WINDOW then entries_at version count.0 slot (slot + WINDOW) count.1 else None)
  Some (Promise ballot slot entries.0, entries.1)

unfoldable pub refuse_at : Version → Ballot → ℕ → List ℕ → Option (Message × List ℕ)
refuse_at version ballot slot bytes = do
  promised ← ballot_at version bytes
  Some (Refuse ballot slot promised.0, promised.1)

-- how many commands an Accept has, 1 to 64, and the bytes behind that count, which in the old version isn't there: there
-- it is one command
unfoldable pub behind_count : Version → List ℕ → Option (ℕ × List ℕ)
behind_count Old bytes = Some (1, bytes)
behind_count New bytes = do
  count ← byte_at bytes
  when (nat_lt 0 count.0 && nat_le count.0 WINDOW) count

-- so many commands, for the slots from this one on, all of which there are
unfoldable pub proposed_at : Version → ℕ → List ℕ → Option (List Command × List ℕ)
proposed_at version slot bytes = do
  count ← behind_count version bytes
  commands ← commands_at count.0 count.1
  when (nat_le (slot + count.0) SLOTS) commands

-- Accept and Accepted
unfoldable pub accept_at : Version → (Ballot → ℕ → List Command → Message) → Ballot → ℕ → List ℕ → Option (Message × List ℕ)
accept_at version made ballot slot bytes = do
  commands ← proposed_at version slot bytes
  Some (made ballot slot commands.0, commands.1)

-- the kinds 1 to 5, which begin with a ballot and a slot
unfoldable pub of_ballot_at : Version → ℕ → List ℕ → Option (Message × List ℕ)
of_ballot_at version kind bytes = do
  ballot ← ballot_at version bytes
  slot ← below_at 4 SLOTS ballot.1
  (if kind == 1 then Some (Prepare ballot.0 slot.0, slot.1)
      else (if kind == 2 then promise_at version ballot.0 slot.0 slot.1
      else (if kind == 3 then refuse_at version ballot.0 slot.0 slot.1
      else (if kind == 4 then accept_at version Accept ballot.0 slot.0 slot.1
      else accept_at version Accepted ballot.0 slot.0 slot.1))))

unfoldable pub chosen_at : List ℕ → Option (Message × List ℕ)
chosen_at bytes = do
  slot ← below_at 4 SLOTS bytes
  command ← command_at slot.1
  Some (Chosen slot.0 command.0, command.1)

unfoldable pub ask_at : List ℕ → Option (Message × List ℕ)
ask_at bytes = do
  slot ← below_at 4 SLOTS bytes
  Some (Ask slot.0, slot.1)

abbrev pub may_go_on : Command → Bool
may_go_on (Deal hand cards) = false
may_go_on (Act hand index action) = true
may_go_on (Away hand index) = true

unfoldable pub forward_at : List ℕ → Option (Message × List ℕ)
forward_at bytes = do
  command ← command_at bytes
  when (may_go_on command.0) (Forward command.0, command.1)

-- the fields of a kind from 1 to 8
unfoldable pub message_at : Version → ℕ → List ℕ → Option (Message × List ℕ)
message_at version kind bytes =
    if nat_le kind 5 then of_ballot_at version kind bytes
    else (if kind == 6 then chosen_at bytes else (if kind == 7 then ask_at bytes else forward_at bytes))

-- all of the bytes
unfoldable pub body_of : Version → ℕ → List ℕ → Option Message
body_of version kind bytes = do
  message ← message_at version kind bytes
  when (length message.1 == 0) message.0

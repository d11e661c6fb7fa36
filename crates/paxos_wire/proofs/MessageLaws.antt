-- Messages: what is read is what is written, and what is written is read again.
use Rattle.std.proofs.Common.{◌≡◌, ℕ, zero, suc, ◌+◌, ◌<◌, ◌≤◌, true, cond, ◌&&◌, ltb, leb, eqb, List, [], ◌∷◌, ◌++◌, length, map, Some, None, refl, sym, ap, subst, ◌∙◌, arith, inl, inr}
use Rattle.std.specs.List.{flat_map, AllByRecursion}
use Rattle.std.proofs.lemmas.Bool.{ltb-true, lt-ltb, leb-true, leb-false, le-leb, eqb-true, eqb-false, and_parts}
use Rattle.std.proofs.lemmas.List.{append-nil, nil_from_length}
use Rattle.std.proofs.lemmas.Option.{same_Some}
use Rattle.slot_log.specs.declared.command.Command.{Command}
use Rattle.slot_log.specs.declared.command.Command.TheVariants.{Deal, Act, Away}
use Rattle.paxos_wire.specs.declared.limits.TheConstants.{SLOTS, WINDOW}
use Rattle.paxos_wire.specs.declared.ballot.Ballot.{Ballot}
use Rattle.paxos_wire.specs.declared.entry.Entry.{Entry}
use Rattle.paxos_wire.specs.declared.message.Message.{Message}
use Rattle.paxos_wire.specs.declared.message.Message.TheVariants.{Prepare, Promise, Refuse, Accept, Accepted, Chosen, Ask, Forward}
use Rattle.paxos_wire.specs.declared.version.Version.{Version}
use Rattle.paxos_wire.specs.declared.version.Version.TheVariants.{Old, New}
use Rattle.paxos_wire.specs.Versions.{nodes_in}
use Rattle.paxos_wire.specs.Fits.{IsInRange, IsDealt, AreEntries, IsCommandRun, IsMessage, MayGoOn, HasNodesBelow}
use Rattle.paxos_wire.specs.Spelling.{ballot_text, slot_text, command_text, run_text, entry_text, entries_text, kind, proposed_text, body}
use Rattle.paxos_wire.specs.Reading.{◌>>=◌, when, byte_at, below_at, ballot_at, command_at, commands_at, entries_at, promise_at, refuse_at, behind_count, proposed_at, accept_at, of_ballot_at, chosen_at, ask_at, may_go_on, forward_at, message_at, body_of}
use Rattle.paxos_wire.proofs.Steps.{IsBytes, bind_some, when_some, then_some, either, both}
use Rattle.paxos_wire.proofs.Numbers.{byte_text, byte_takes, wide4, below_takes, below_again}
use Rattle.paxos_wire.proofs.CommandLaws.{IsBallotIn, ballot_takes, ballot_again, command_takes, command_again}
use Rattle.paxos_wire.proofs.CommandRuns.{commands_take, commands_again}
use Rattle.paxos_wire.proofs.EntryLaws.{entries_take, entries_again}

-- so many commands as the version can tell of: the old one has no count
abbrev pub IsCountOf : Version → List Command → Type 0
IsCountOf Old commands = length commands ≡ 1
IsCountOf New commands = Unit {0}

-- the same of a message
abbrev pub HasCountOf : Version → Message → Type 0
HasCountOf version (Prepare ballot slot) = Unit {0}
HasCountOf version (Promise ballot slot entries) = Unit {0}
HasCountOf version (Refuse ballot slot promised) = Unit {0}
HasCountOf version (Accept ballot slot commands) = IsCountOf version commands
HasCountOf version (Accepted ballot slot commands) = IsCountOf version commands
HasCountOf version (Chosen slot command) = Unit {0}
HasCountOf version (Ask slot) = Unit {0}
HasCountOf version (Forward command) = Unit {0}

-- a message of this kind was taken from the front
pub record TakesMessage (version : Version) (of_kind : ℕ) (bytes : List ℕ) (x : Message × List ℕ) : Type 0 where
  pub parts : bytes ≡ body version x.0 ++ x.1
  pub rest : IsBytes x.1
  pub kind_is : kind x.0 ≡ of_kind
  pub fits : IsMessage x.0
  pub nodes : HasNodesBelow (nodes_in version) x.0
  pub one : HasCountOf version x.0

-- the same, for what stands behind a ballot and a slot
pub record TakesTail (version : Version) (of_kind : ℕ) (b : Ballot) (s : ℕ) (bytes : List ℕ) (x : Message × List ℕ) : Type 0 where
  pub parts : (ballot_text b ++ slot_text s) ++ bytes ≡ body version x.0 ++ x.1
  pub rest : IsBytes x.1
  pub kind_is : kind x.0 ≡ of_kind
  pub fits : IsMessage x.0
  pub nodes : HasNodesBelow (nodes_in version) x.0
  pub one : HasCountOf version x.0

-- the commands of an Accept, with their count where the version has one
pub record TakesCounted (version : Version) (bytes : List ℕ) (count : ℕ) (x : List Command × List ℕ) : Type 0 where
  pub parts : bytes ≡ proposed_text version x.0 ++ x.1
  pub rest : IsBytes x.1
  pub len : length x.0 ≡ count
  pub least : 1 ≤ length x.0
  pub most : length x.0 ≤ WINDOW
  pub range : AllByRecursion IsInRange x.0
  pub cards : AllByRecursion IsDealt x.0
  pub one : IsCountOf version x.0

counted_takes : (version : Version) (bytes : List ℕ) (counted : ℕ × List ℕ) (x : List Command × List ℕ) → IsBytes bytes → behind_count version bytes ≡ Some counted → commands_at counted.0 counted.1 ≡ Some x → TakesCounted version bytes counted.0 x
unfolding behind_count
counted_takes Old bytes counted x fits found read =
    let same : (1, bytes) ≡ counted = same_Some (1, bytes) counted found in
    let begun : commands_at 1 bytes ≡ Some x = ap (λ (c : ℕ × List ℕ). commands_at c.0 c.1) same ∙ read in
    let t = commands_take 1 bytes x fits begun in
    let count : 1 ≡ counted.0 = ap (λ (c : ℕ × List ℕ). c.0) same in
    record { parts = t.parts; rest = t.rest; len = t.len ∙ count; least = omega (arith, t.len); most = omega (arith, t.len); range = t.range; cards = t.cards; one = t.len }
counted_takes New bytes counted x fits found read =
    let a = bind_some (byte_at bytes) (λ count. when (ltb 0 count.0 && leb count.0 WINDOW) count) counted found in
    let g = when_some (ltb 0 a.0.0 && leb a.0.0 WINDOW) a.0 counted a.2 in
    let tests = and_parts (ltb 0 a.0.0) (leb a.0.0 WINDOW) g.0 in
    let least : 0 < a.0.0 = ltb-true 0 a.0.0 tests.0 in
    let most : a.0.0 ≤ WINDOW = leb-true a.0.0 WINDOW tests.1 in
    let t0 = byte_takes bytes a.0 fits a.1 in
    let begun : commands_at a.0.0 a.0.1 ≡ Some x = ap (λ (c : ℕ × List ℕ). commands_at c.0 c.1) g.1 ∙ read in
    let t1 = commands_take a.0.0 a.0.1 x t0.rest begun in
    let parts : bytes ≡ run_text x.0 ++ x.1 =
    both bytes (byte_text a.0.0) a.0.1 (flat_map command_text x.0) x.1 t0.parts t1.parts ∙ ap (λ (n : ℕ). n ∷ (flat_map command_text x.0 ++ x.1)) (sym t1.len) in
    record {
      parts = parts;
      rest = t1.rest;
      len = t1.len ∙ ap (λ (c : ℕ × List ℕ). c.0) g.1;
      least = omega (arith, t1.len, least);
      most = omega (arith, t1.len, most);
      range = t1.range;
      cards = t1.cards;
      one = tt;
    }

-- the commands of an Accept at this slot
record TakesRun (version : Version) (s : ℕ) (bytes : List ℕ) (x : List Command × List ℕ) : Type 0 where
  pub parts : bytes ≡ proposed_text version x.0 ++ x.1
  pub rest : IsBytes x.1
  pub run : IsCommandRun s x.0
  pub cards : AllByRecursion IsDealt x.0
  pub one : IsCountOf version x.0

run_takes : (version : Version) (s : ℕ) (bytes : List ℕ) (x : List Command × List ℕ) → IsBytes bytes → proposed_at version s bytes ≡ Some x → TakesRun version s bytes x
unfolding proposed_at
run_takes version s bytes x fits e =
    let a = bind_some (behind_count version bytes) (λ count. commands_at count.0 count.1 >>= λ commands. when (leb (s + count.0) SLOTS) commands) x e in
    let c = bind_some (commands_at a.0.0 a.0.1) (λ commands. when (leb (s + a.0.0) SLOTS) commands) x a.2 in
    let g = when_some (leb (s + a.0.0) SLOTS) c.0 x c.2 in
    let t = counted_takes version bytes a.0 c.0 fits a.1 c.1 in
    let below : s + a.0.0 ≤ SLOTS = leb-true (s + a.0.0) SLOTS g.0 in
    let slots : s + length c.0.0 ≤ SLOTS = omega (arith, below, t.len) in
    subst (λ (y : List Command × List ℕ). TakesRun version s bytes y) g.1
    (record { parts = t.parts; rest = t.rest; run = record { least = t.least; most = t.most; slots = slots; each = t.range }; cards = t.cards; one = t.one })

module _ (version : Version) (b : Ballot) (s : ℕ) (is_ballot : IsBallotIn version b) (is_slot : s < SLOTS) where
  promise_takes : (bytes : List ℕ) (x : Message × List ℕ) → IsBytes bytes → promise_at version b s bytes ≡ Some x → TakesTail version 2 b s bytes x
  unfolding promise_at
  promise_takes bytes x fits e =
      let a = bind_some (byte_at bytes) (λ count. cond (leb count.0 WINDOW) (entries_at version count.0 s (s + WINDOW) count.1) None >>= λ entries. Some (Promise b s entries.0, entries.1)) x e in
      let c = bind_some (cond (leb a.0.0 WINDOW) (entries_at version a.0.0 s (s + WINDOW) a.0.1) None) (λ entries. Some (Promise b s entries.0, entries.1)) x a.2 in
      let g = then_some (leb a.0.0 WINDOW) (entries_at version a.0.0 s (s + WINDOW) a.0.1) c.0 c.1 in
      let t0 = byte_takes bytes a.0 fits a.1 in
      let t1 = entries_take version a.0.0 s (s + WINDOW) a.0.1 c.0 t0.rest g.1 in
      let most : length c.0.0 ≤ WINDOW = omega (arith, leb-true _ _ g.0, t1.len) in
      let tail : bytes ≡ entries_text c.0.0 ++ c.0.1 = both bytes (byte_text a.0.0) a.0.1 (flat_map entry_text c.0.0) c.0.1 t0.parts t1.parts ∙ ap (λ (n : ℕ). n ∷ (flat_map entry_text c.0.0 ++ c.0.1)) (sym t1.len) in
      subst (λ (y : Message × List ℕ). TakesTail version 2 b s bytes y) (same_Some (Promise b s c.0.0, c.0.1) x c.2)
      (record {
        parts = ap (λ (w : List ℕ). (ballot_text b ++ slot_text s) ++ w) tail;
        rest = t1.rest;
        kind_is = refl;
        fits = record { numbers = (is_ballot.ballot, is_slot, record { most = most; each = t1.each; rise = t1.rise }); cards = t1.cards };
        nodes = (is_ballot.node, t1.nodes);
        one = tt;
      })

  refuse_takes : (bytes : List ℕ) (x : Message × List ℕ) → IsBytes bytes → refuse_at version b s bytes ≡ Some x → TakesTail version 3 b s bytes x
  unfolding refuse_at
  refuse_takes bytes x fits e =
      let a = bind_some (ballot_at version bytes) (λ promised. Some (Refuse b s promised.0, promised.1)) x e in
      let t = ballot_takes version bytes a.0 fits a.1 in
      subst (λ (y : Message × List ℕ). TakesTail version 3 b s bytes y) (same_Some (Refuse b s a.0.0, a.0.1) x a.2)
      (record {
        parts = ap (λ (w : List ℕ). (ballot_text b ++ slot_text s) ++ w) t.parts;
        rest = t.rest;
        kind_is = refl;
        fits = record { numbers = (is_ballot.ballot, is_slot, t.fits.ballot); cards = tt };
        nodes = (is_ballot.node, t.fits.node);
        one = tt;
      })

  accept_takes : (bytes : List ℕ) (x : Message × List ℕ) → IsBytes bytes → accept_at version Accept b s bytes ≡ Some x → TakesTail version 4 b s bytes x
  unfolding accept_at
  accept_takes bytes x fits e =
      let a = bind_some (proposed_at version s bytes) (λ commands. Some (Accept b s commands.0, commands.1)) x e in
      let t = run_takes version s bytes a.0 fits a.1 in
      subst (λ (y : Message × List ℕ). TakesTail version 4 b s bytes y) (same_Some (Accept b s a.0.0, a.0.1) x a.2)
      (record {
        parts = ap (λ (w : List ℕ). (ballot_text b ++ slot_text s) ++ w) t.parts;
        rest = t.rest;
        kind_is = refl;
        fits = record { numbers = (is_ballot.ballot, t.run); cards = t.cards };
        nodes = is_ballot.node;
        one = t.one;
      })

  accepted_takes : (bytes : List ℕ) (x : Message × List ℕ) → IsBytes bytes → accept_at version Accepted b s bytes ≡ Some x → TakesTail version 5 b s bytes x
  unfolding accept_at
  accepted_takes bytes x fits e =
      let a = bind_some (proposed_at version s bytes) (λ commands. Some (Accepted b s commands.0, commands.1)) x e in
      let t = run_takes version s bytes a.0 fits a.1 in
      subst (λ (y : Message × List ℕ). TakesTail version 5 b s bytes y) (same_Some (Accepted b s a.0.0, a.0.1) x a.2)
      (record {
        parts = ap (λ (w : List ℕ). (ballot_text b ++ slot_text s) ++ w) t.parts;
        rest = t.rest;
        kind_is = refl;
        fits = record { numbers = (is_ballot.ballot, t.run); cards = t.cards };
        nodes = is_ballot.node;
        one = t.one;
      })

  tail_takes : (k : ℕ) (bytes : List ℕ) (x : Message × List ℕ) → 1 ≤ k → k ≤ 5 → IsBytes bytes
      → cond (eqb k 1) (Some (Prepare b s, bytes)) (cond (eqb k 2) (promise_at version b s bytes) (cond (eqb k 3) (refuse_at version b s bytes) (cond (eqb k 4) (accept_at version Accept b s bytes) (accept_at version Accepted b s bytes)))) ≡ Some x
      → TakesTail version k b s bytes x
  tail_takes zero bytes x low high fits e = absurd (omega arith)
  tail_takes (suc zero) bytes x low high fits e = subst (λ (y : Message × List ℕ). TakesTail version 1 b s bytes y) (same_Some (Prepare b s, bytes) x e) (record { parts = refl; rest = fits; kind_is = refl; fits = record { numbers = (is_ballot.ballot, is_slot); cards = tt }; nodes = is_ballot.node; one = tt })
  tail_takes (suc (suc zero)) bytes x low high fits e = promise_takes bytes x fits e
  tail_takes (suc (suc (suc zero))) bytes x low high fits e = refuse_takes bytes x fits e
  tail_takes (suc (suc (suc (suc zero)))) bytes x low high fits e = accept_takes bytes x fits e
  tail_takes (suc (suc (suc (suc (suc zero))))) bytes x low high fits e = accepted_takes bytes x fits e
  tail_takes (suc (suc (suc (suc (suc (suc k)))))) bytes x low high fits e = absurd (omega arith)

pub of_ballot_takes : (version : Version) (k : ℕ) (bytes : List ℕ) (x : Message × List ℕ) → 1 ≤ k → k ≤ 5 → IsBytes bytes → of_ballot_at version k bytes ≡ Some x → TakesMessage version k bytes x
unfolding of_ballot_at
of_ballot_takes version k bytes x low high fits e =
    let a = bind_some (ballot_at version bytes) (λ ballot. below_at 4 SLOTS ballot.1 >>= λ slot. cond (eqb k 1) (Some (Prepare ballot.0 slot.0, slot.1)) (cond (eqb k 2) (promise_at version ballot.0 slot.0 slot.1) (cond (eqb k 3) (refuse_at version ballot.0 slot.0 slot.1) (cond (eqb k 4) (accept_at version Accept ballot.0 slot.0 slot.1) (accept_at version Accepted ballot.0 slot.0 slot.1))))) x e in
    let c = bind_some (below_at 4 SLOTS a.0.1) (λ slot. cond (eqb k 1) (Some (Prepare a.0.0 slot.0, slot.1)) (cond (eqb k 2) (promise_at version a.0.0 slot.0 slot.1) (cond (eqb k 3) (refuse_at version a.0.0 slot.0 slot.1) (cond (eqb k 4) (accept_at version Accept a.0.0 slot.0 slot.1) (accept_at version Accepted a.0.0 slot.0 slot.1))))) x a.2 in
    let t0 = ballot_takes version bytes a.0 fits a.1 in
    let t1 = below_takes 4 SLOTS wide4 a.0.1 c.0 t0.rest c.1 in
    let t2 = tail_takes version a.0.0 c.0.0 t0.fits t1.fits k c.0.1 x low high t1.rest c.2 in
    record { parts = both bytes (ballot_text a.0.0) a.0.1 (slot_text c.0.0) c.0.1 t0.parts t1.parts ∙ t2.parts; rest = t2.rest; kind_is = t2.kind_is; fits = t2.fits; nodes = t2.nodes; one = t2.one }

chosen_takes : (version : Version) (bytes : List ℕ) (x : Message × List ℕ) → IsBytes bytes → chosen_at bytes ≡ Some x → TakesMessage version 6 bytes x
unfolding chosen_at
chosen_takes version bytes x fits e =
    let a = bind_some (below_at 4 SLOTS bytes) (λ slot. command_at slot.1 >>= λ command. Some (Chosen slot.0 command.0, command.1)) x e in
    let c = bind_some (command_at a.0.1) (λ command. Some (Chosen a.0.0 command.0, command.1)) x a.2 in
    let t0 = below_takes 4 SLOTS wide4 bytes a.0 fits a.1 in
    let t1 = command_takes a.0.1 c.0 t0.rest c.1 in
    subst (λ (y : Message × List ℕ). TakesMessage version 6 bytes y) (same_Some (Chosen a.0.0 c.0.0, c.0.1) x c.2)
    (record { parts = both bytes (slot_text a.0.0) a.0.1 (command_text c.0.0) c.0.1 t0.parts t1.parts; rest = t1.rest; kind_is = refl; fits = record { numbers = (t0.fits, t1.fits.numbers); cards = (t1.fits.cards, tt) }; nodes = tt; one = tt })

ask_takes : (version : Version) (bytes : List ℕ) (x : Message × List ℕ) → IsBytes bytes → ask_at bytes ≡ Some x → TakesMessage version 7 bytes x
unfolding ask_at
ask_takes version bytes x fits e =
    let a = bind_some (below_at 4 SLOTS bytes) (λ slot. Some (Ask slot.0, slot.1)) x e in
    let t = below_takes 4 SLOTS wide4 bytes a.0 fits a.1 in
    subst (λ (y : Message × List ℕ). TakesMessage version 7 bytes y) (same_Some (Ask a.0.0, a.0.1) x a.2) (record { parts = t.parts; rest = t.rest; kind_is = refl; fits = record { numbers = t.fits; cards = tt }; nodes = tt; one = tt })

goes_on : (c : Command) → may_go_on c ≡ true → MayGoOn c
goes_on (Deal hand cards) e = absurd cc
goes_on (Act hand index action) e = tt
goes_on (Away hand index) e = tt

passes : (c : Command) → MayGoOn c → may_go_on c ≡ true
passes (Deal hand cards) h = absurd h
passes (Act hand index action) h = refl
passes (Away hand index) h = refl

forward_takes : (version : Version) (bytes : List ℕ) (x : Message × List ℕ) → IsBytes bytes → forward_at bytes ≡ Some x → TakesMessage version 8 bytes x
unfolding forward_at
forward_takes version bytes x fits e =
    let a = bind_some (command_at bytes) (λ command. when (may_go_on command.0) (Forward command.0, command.1)) x e in
    let t = command_takes bytes a.0 fits a.1 in
    let g = when_some (may_go_on a.0.0) (Forward a.0.0, a.0.1) x a.2 in
    subst (λ (y : Message × List ℕ). TakesMessage version 8 bytes y) g.1 (record { parts = t.parts; rest = t.rest; kind_is = refl; fits = record { numbers = (goes_on a.0.0 g.0, t.fits.numbers); cards = (t.fits.cards, tt) }; nodes = tt; one = tt })

pub message_takes : (version : Version) (k : ℕ) (bytes : List ℕ) (x : Message × List ℕ) → 1 ≤ k → k ≤ 8 → IsBytes bytes → message_at version k bytes ≡ Some x → TakesMessage version k bytes x
unfolding message_at
message_takes version k bytes x low high fits e =
    elim (either (leb k 5) (of_ballot_at version k bytes) (cond (eqb k 6) (chosen_at bytes) (cond (eqb k 7) (ask_at bytes) (forward_at bytes))) x e) [
      | inl (small, read) ↦ of_ballot_takes version k bytes x low (leb-true _ _ small) fits read
      | inr (large, read) ↦
          elim (either (eqb k 6) (chosen_at bytes) (cond (eqb k 7) (ask_at bytes) (forward_at bytes)) x read) [
            | inl (six, chosen) ↦ subst (λ (n : ℕ). TakesMessage version n bytes x) (sym (eqb-true k 6 six)) (chosen_takes version bytes x fits chosen)
            | inr (other, later) ↦
                elim (either (eqb k 7) (ask_at bytes) (forward_at bytes) x later) [
                  | inl (seven, ask) ↦ subst (λ (n : ℕ). TakesMessage version n bytes x) (sym (eqb-true k 7 seven)) (ask_takes version bytes x fits ask)
                  | inr (last, forward) ↦
                      let above : 5 < k = leb-false _ _ large in
                      let not_six = eqb-false k 6 other in
                      let not_seven = eqb-false k 7 last in
                      let eight : 8 ≡ k = omega arith in
                      subst (λ (n : ℕ). TakesMessage version n bytes x) eight (forward_takes version bytes x fits forward)
                ]
          ]
    ]

-- the fields of a message of this kind, and nothing else
pub record IsBody (version : Version) (of_kind : ℕ) (bytes : List ℕ) (m : Message) : Type 0 where
  pub text : bytes ≡ body version m
  pub kind_is : kind m ≡ of_kind
  pub fits : IsMessage m
  pub nodes : HasNodesBelow (nodes_in version) m
  pub one : HasCountOf version m

pub body_is : (version : Version) (k : ℕ) (bytes : List ℕ) (m : Message) → 1 ≤ k → k ≤ 8 → IsBytes bytes → body_of version k bytes ≡ Some m → IsBody version k bytes m
unfolding body_of
body_is version k bytes m low high fits e =
    let a = bind_some (message_at version k bytes) (λ message. when (eqb (length message.1) 0) message.0) m e in
    let t = message_takes version k bytes a.0 low high fits a.1 in
    let g = when_some (eqb (length a.0.1) 0) a.0.0 m a.2 in
    let nothing : a.0.1 ≡ [] = nil_from_length a.0.1 (eqb-true _ _ g.0) in
    subst (λ (n : Message). IsBody version k bytes n) g.1
    (record { text = t.parts ∙ ap (λ (r : List ℕ). body version a.0.0 ++ r) nothing ∙ append-nil (body version a.0.0); kind_is = t.kind_is; fits = t.fits; nodes = t.nodes; one = t.one })

promise_again : (version : Version) (b : Ballot) (s : ℕ) (es : List Entry) (rest : List ℕ) → AreEntries s es → AllByRecursion (λ e. e.ballot.node < nodes_in version) es → AllByRecursion IsDealt (map (λ e. e.command) es)
    → promise_at version b s (entries_text es ++ rest) ≡ Some (Promise b s es, rest)
unfolding promise_at
promise_again version b s es rest fits nodes cards = rw (le-leb (length es) WINDOW fits.most, entries_again version es s (s + WINDOW) rest fits.each nodes fits.rise cards) refl

accept_again : (version : Version) (made : Ballot → ℕ → List Command → Message) (b : Ballot) (s : ℕ) (cs : List Command) (rest : List ℕ) → IsCommandRun s cs → AllByRecursion IsDealt cs → IsCountOf version cs
    → accept_at version made b s (proposed_text version cs ++ rest) ≡ Some (made b s cs, rest)
unfolding accept_at proposed_at behind_count
accept_again Old made b s cs rest run cards one =
    let read : commands_at 1 (flat_map command_text cs ++ rest) ≡ Some (cs, rest) = ap (λ (n : ℕ). commands_at n (flat_map command_text cs ++ rest)) (sym one) ∙ commands_again cs rest run.each cards in
    let slots : s + 1 ≤ SLOTS = omega (arith, run.slots, one) in
    rw (read, le-leb (s + 1) SLOTS slots) refl
accept_again New made b s cs rest run cards one =
    let least : 0 < length cs = omega (arith, run.least) in
    rw (lt-ltb 0 (length cs) least, le-leb (length cs) WINDOW run.most, commands_again cs rest run.each cards, le-leb (s + length cs) SLOTS run.slots) refl

pub message_again : (version : Version) (m : Message) (rest : List ℕ) → IsMessage m → HasNodesBelow (nodes_in version) m → HasCountOf version m → message_at version (kind m) (body version m ++ rest) ≡ Some (m, rest)
unfolding message_at of_ballot_at refuse_at chosen_at ask_at forward_at
message_again version (Prepare b s) rest fits nodes one =
    rw (ballot_again version b (slot_text s ++ rest) fits.numbers.0 nodes, below_again 4 SLOTS s rest fits.numbers.1 (omega arith)) refl
message_again version (Promise b s es) rest fits nodes one =
    rw (ballot_again version b (slot_text s ++ (entries_text es ++ rest)) fits.numbers.0 nodes.0, below_again 4 SLOTS s (entries_text es ++ rest) fits.numbers.1 (omega arith), promise_again version b s es rest fits.numbers.2 nodes.1 fits.cards) refl
message_again version (Refuse b s p) rest fits nodes one =
    rw (ballot_again version b (slot_text s ++ (ballot_text p ++ rest)) fits.numbers.0 nodes.0, below_again 4 SLOTS s (ballot_text p ++ rest) fits.numbers.1 (omega arith), ballot_again version p rest fits.numbers.2 nodes.1) refl
message_again version (Accept b s cs) rest fits nodes one =
    let run = fits.numbers.1 in
    let slot : s < SLOTS = omega (arith, run.slots, run.least) in
    rw (ballot_again version b (slot_text s ++ (proposed_text version cs ++ rest)) fits.numbers.0 nodes, below_again 4 SLOTS s (proposed_text version cs ++ rest) slot (omega arith), accept_again version Accept b s cs rest run fits.cards one) refl
message_again version (Accepted b s cs) rest fits nodes one =
    let run = fits.numbers.1 in
    let slot : s < SLOTS = omega (arith, run.slots, run.least) in
    rw (ballot_again version b (slot_text s ++ (proposed_text version cs ++ rest)) fits.numbers.0 nodes, below_again 4 SLOTS s (proposed_text version cs ++ rest) slot (omega arith), accept_again version Accepted b s cs rest run fits.cards one) refl
message_again version (Chosen s c) rest fits nodes one =
    rw (below_again 4 SLOTS s (command_text c ++ rest) fits.numbers.0 (omega arith), command_again c rest (record { numbers = fits.numbers.1; cards = fits.cards.0 })) refl
message_again version (Ask s) rest fits nodes one = rw (below_again 4 SLOTS s rest fits.numbers (omega arith)) refl
message_again version (Forward c) rest fits nodes one =
    rw (command_again c rest (record { numbers = fits.numbers.1; cards = fits.cards.0 }), passes c fits.numbers.0) refl

pub body_again : (version : Version) (m : Message) → IsMessage m → HasNodesBelow (nodes_in version) m → HasCountOf version m → body_of version (kind m) (body version m) ≡ Some m
unfolding body_of
body_again version m fits nodes one = rw (ap (message_at version (kind m)) (sym (append-nil (body version m))) ∙ message_again version m [] fits nodes one) refl

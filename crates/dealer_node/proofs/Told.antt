-- Slots that are told as chosen, one after another.
use Rattle.std.proofs.Common.{◌≡◌, ℕ, zero, suc, ◌+◌, List, [], ◌++◌, refl, ap, sym, ◌∙◌, subst, append_assoc, add-one, arith}
use Rattle.std.specs.Prelude.{map, Some, None}
use Rattle.std.proofs.lemmas.List.{map-append, append-nil}
use Rattle.slot_log.specs.Slots.{Log, known_at}
use Rattle.slot_log.specs.declared.command.Command.{Command}
use Rattle.paxos_wire.specs.Fits.{IsMessage}
use Rattle.paxos_wire.specs.declared.message.Message.TheVariants.{Chosen}
use Rattle.node_rules.specs.Sending.{Frame, one}
use Rattle.node_rules.specs.Learning.{told_of, telling_from}
use Rattle.dealer_node.specs.Texts.{Marked}
use Rattle.dealer_node.specs.Turned.{framed}
use Rattle.dealer_node.specs.Fitting.{AreMessages}
use Rattle.dealer_node.proofs.Messages.{no_messages, one_message, both_messages}

none_told : (log : Log) (to slot : ℕ) → telling_from log to slot 0 ≡ []
unfolding telling_from
none_told log to slot = refl

one_told : (log : Log) (to slot : ℕ) → telling_from log to slot 1 ≡ told_of to slot (known_at log slot)
unfolding telling_from
one_told log to slot = append-nil (told_of to slot (known_at log slot))

pub nothing_told_yet : (texts : List (Marked ℕ)) (log : Log) (to slot : ℕ) → texts ≡ texts ++ map framed (telling_from log to slot 0)
nothing_told_yet texts log to slot = sym (ap (λ t. texts ++ map framed t) (none_told log to slot) ∙ append-nil texts)

pub told_none : (texts : List (Marked ℕ)) (log : Log) (to slot : ℕ) → None ≡ known_at log slot → texts ≡ texts ++ map framed (telling_from log to slot 1)
told_none texts log to slot none = sym (ap (λ t. texts ++ map framed t) (one_told log to slot ∙ ap (told_of to slot) (sym none)) ∙ append-nil texts)

pub told_some : (texts new : List (Marked ℕ)) (log : Log) (to slot : ℕ) (command : Command) → Some command ≡ known_at log slot → new ≡ texts ++ map framed (one to (Chosen slot command))
    → new ≡ texts ++ map framed (telling_from log to slot 1)
told_some texts new log to slot command some e = e ∙ ap (λ t. texts ++ map framed t) (sym (one_told log to slot ∙ ap (told_of to slot) (sym some)))

-- one slot more at the end
further : (log : Log) (to slot more : ℕ) → telling_from log to slot (more + 1) ≡ telling_from log to slot more ++ telling_from log to (slot + more) 1
unfolding telling_from
further log to slot zero = let e : slot ≡ slot + 0 = omega arith in ap (λ s. told_of to s (known_at log s) ++ []) e
further log to slot (suc more) =
    let next = further log to (slot + 1) more in
    let place : (slot + 1) + more ≡ slot + suc more = omega arith in
    let front = told_of to slot (known_at log slot) in
    ap (λ k. telling_from log to slot k) (add-one (suc more))
    ∙ (ap (λ n. front ++ telling_from log to (slot + 1) n) (sym (add-one more))
    ∙ (ap (λ t. front ++ t) next ∙ (ap (λ s. front ++ (telling_from log to (slot + 1) more ++ telling_from log to s 1)) place
    ∙ sym (append_assoc front (telling_from log to (slot + 1) more) (telling_from log to (slot + suc more) 1)))))

pub told_on : (old texts new : List (Marked ℕ)) (log : Log) (to slot more : ℕ) → texts ≡ old ++ map framed (telling_from log to slot more) → new ≡ texts ++ map framed (telling_from log to (slot + more) 1)
    → new ≡ old ++ map framed (telling_from log to slot (more + 1))
told_on old texts new log to slot more before e =
    e ∙ ap (λ t. t ++ map framed (telling_from log to (slot + more) 1)) before ∙ append_assoc old (map framed (telling_from log to slot more)) (map framed (telling_from log to (slot + more) 1))
    ∙ ap (λ t. old ++ t) (sym (map-append framed (telling_from log to slot more) (telling_from log to (slot + more) 1)) ∙ ap (map framed) (sym (further log to slot more)))

-- ---- each has a frame

pub none_said : (log : Log) (to slot : ℕ) → AreMessages (telling_from log to slot 0)
none_said log to slot = subst (λ (fs : List Frame). AreMessages fs) (sym (none_told log to slot)) no_messages

pub said_none : (log : Log) (to slot : ℕ) → None ≡ known_at log slot → AreMessages (telling_from log to slot 1)
said_none log to slot none = subst (λ (fs : List Frame). AreMessages fs) (sym (one_told log to slot ∙ ap (told_of to slot) (sym none))) no_messages

pub said_some : (log : Log) (to slot : ℕ) (command : Command) → Some command ≡ known_at log slot → IsMessage (Chosen slot command) → AreMessages (telling_from log to slot 1)
said_some log to slot command some is =
    subst (λ (fs : List Frame). AreMessages fs) (sym (one_told log to slot ∙ ap (told_of to slot) (sym some))) (one_message to (Chosen slot command) is)

pub said_on : (log : Log) (to slot more : ℕ) → AreMessages (telling_from log to slot more) → AreMessages (telling_from log to (slot + more) 1) → AreMessages (telling_from log to slot (more + 1))
said_on log to slot more before one =
    subst (λ (fs : List Frame). AreMessages fs) (sym (further log to slot more)) (both_messages (telling_from log to slot more) (telling_from log to (slot + more) 1) before one)

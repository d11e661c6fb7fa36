use Rattle.std.proofs.Common.{◌≡◌, ℕ, List, [], ◌∷◌, ◌++◌, sym, ◌∙◌, ap, append_assoc}
use Rattle.std.specs.List.{flat_map}
use Rattle.slot_log.specs.declared.command.Command.{Command}
use Rattle.paxos_wire.specs.Spelling.{command_text}
use Rattle.promise_store.specs.declared.records.Record.{Record}
use Rattle.promise_store.specs.Records.{payload}
use Rattle.promise_store.proofs.texts.push_payload.Goals as goal

-- one part behind the other
joined : (all one two three four five : List ℕ) (ballot slot text : List ℕ) (kind count : ℕ) → one ≡ all ++ kind ∷ [] → two ≡ one ++ ballot → three ≡ two ++ slot → four ≡ three ++ count ∷ [] → five ≡ four ++ text
    → five ≡ all ++ kind ∷ (ballot ++ (slot ++ count ∷ text))
joined all one two three four five ballot slot text kind count a b c d e =
    e ∙ ap (λ (l : List ℕ). l ++ text) (d ∙ ap (λ (l : List ℕ). l ++ count ∷ []) (c ∙ ap (λ (l : List ℕ). l ++ slot) (b ∙ ap (λ (l : List ℕ). l ++ ballot) a))) ∙ simp append_assoc

pub returns-in-Voted-clause-items : goal.returns-in-Voted-clause-items
returns-in-Voted-clause-items c =
    joined c.args.bytes.now.items c.push-in-Voted.new.self.items c.push_all-in-Voted.new.out.items c.push_all-in-Voted-2.new.out.items c.push-in-Voted-2.new.self.items c.push_commands.new.bytes.items _ _ _ _ _
    c.push-in-Voted.ensures.items
    (c.push_all-in-Voted.ensures.items ∙ ap (λ (l : List ℕ). c.push-in-Voted.new.self.items ++ l) c.ballot_bytes-in-Voted.ensures)
    (c.push_all-in-Voted-2.ensures.items ∙ ap (λ (l : List ℕ). c.push_all-in-Voted.new.out.items ++ l) c.slot_bytes.ensures)
    (c.push-in-Voted-2.ensures.items ∙ ap (λ (n : ℕ). c.push_all-in-Voted-2.new.out.items ++ n ∷ []) c.len.ensures.value)
    (c.push_commands.ensures.items ∙ ap (λ (cs : List Command). c.push-in-Voted-2.new.self.items ++ flat_map command_text cs) c.as_slice.ensures.value)
    ∙ ap (λ (r : Record). c.args.bytes.now.items ++ payload r) (sym c.in-Voted.is)

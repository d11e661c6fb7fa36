-- Commands one after the other: what is read is what is written, and what is written is read again.
use Rattle.std.proofs.Common.{◌≡◌, ℕ, zero, suc, List, [], ◌∷◌, ◌++◌, length, Option, Some, None, IfSome, IsSome, IsSomeAnd, Bor, refl, sym, ap, subst, ◌∙◌, append_assoc}
use Rattle.std.specs.List.{flat_map, AllByRecursion}
use Rattle.std.proofs.lemmas.List.Concat.{flat_map-cons}
use Rattle.std.proofs.lemmas.Option.{same_Some}
use Rattle.slot_log.specs.declared.command.Command.{Command}
use Rattle.slot_log.specs.Range.{IsInRange}
use Rattle.paxos_wire.specs.Fits.{IsDealt}
use Rattle.paxos_wire.specs.Spelling.{command_text}
use Rattle.paxos_wire.specs.Reading.{◌>>=◌, Gives, command_at, commands_at}
use Rattle.paxos_wire.proofs.Steps.{IsBytes, bind_some, both}
use Rattle.paxos_wire.proofs.CommandLaws.{command_takes, command_again}

-- so many commands were taken from the front
pub record TakesCommands (count : ℕ) (bytes : List ℕ) (x : List Command × List ℕ) : Type 0 where
  pub parts : bytes ≡ flat_map command_text x.0 ++ x.1
  pub rest : IsBytes x.1
  pub len : length x.0 ≡ count
  pub range : AllByRecursion IsInRange x.0
  pub cards : AllByRecursion IsDealt x.0

pub commands_take : (count : ℕ) (bytes : List ℕ) (x : List Command × List ℕ) → IsBytes bytes → commands_at count bytes ≡ Some x → TakesCommands count bytes x
unfolding commands_at
commands_take zero bytes x fits e = subst (λ (y : List Command × List ℕ). TakesCommands 0 bytes y) (same_Some ([], bytes) x e) (record { parts = refl; rest = fits; len = refl; range = tt; cards = tt })
commands_take (suc count) bytes x fits e =
    let a = bind_some (command_at bytes) (λ first. commands_at count first.1 >>= λ others. Some (first.0 ∷ others.0, others.1)) x e in
    let b = bind_some (commands_at count a.0.1) (λ others. Some (a.0.0 ∷ others.0, others.1)) x a.2 in
    let t = command_takes bytes a.0 fits a.1 in
    let ts = commands_take count a.0.1 b.0 t.rest b.1 in
    let whole : bytes ≡ flat_map command_text (a.0.0 ∷ b.0.0) ++ b.0.1 = both bytes (command_text a.0.0) a.0.1 (flat_map command_text b.0.0) b.0.1 t.parts ts.parts ∙ ap (λ (w : List ℕ). w ++ b.0.1) (sym (flat_map-cons command_text a.0.0 b.0.0)) in
    subst (λ (y : List Command × List ℕ). TakesCommands (suc count) bytes y) (same_Some (a.0.0 ∷ b.0.0, b.0.1) x b.2)
    (record { parts = whole; rest = ts.rest; len = ap suc ts.len; range = (t.fits.numbers, ts.range); cards = (t.fits.cards, ts.cards) })

pub commands_again : (cs : List Command) (rest : List ℕ) → AllByRecursion IsInRange cs → AllByRecursion IsDealt cs → commands_at (length cs) (flat_map command_text cs ++ rest) ≡ Some (cs, rest)
unfolding commands_at
commands_again [] rest range cards = refl
commands_again (c ∷ cs) rest range cards =
    let regrouped : flat_map command_text (c ∷ cs) ++ rest ≡ command_text c ++ (flat_map command_text cs ++ rest) = ap (λ (w : List ℕ). w ++ rest) (flat_map-cons command_text c cs) ∙ append_assoc (command_text c) (flat_map command_text cs) rest in
    ap (commands_at (suc (length cs))) regrouped ∙ rw (command_again c (flat_map command_text cs ++ rest) (record { numbers = range.0; cards = cards.0 }), commands_again cs rest range.1 cards.1) refl

-- what a reader of the program left in its room, and the bytes after it
module _ (count : ℕ) (bytes : List ℕ) (room : List Command) where
  pub record IsReadInto (r : Option (Bor (List ℕ))) : Type 0 where
    pub found : IfSome r (λ rest. bytes ≡ flat_map command_text room ++ rest.now)
    pub len : IsSome r → length room ≡ count
    pub range : IsSome r → AllByRecursion IsInRange room
    pub dealt : IsSome r → AllByRecursion IsDealt room

  pub run_found : (r : Option (Bor (List ℕ))) → IsBytes bytes → Gives (λ rest. (room, rest.now)) r (commands_at count bytes) → IsReadInto r
  run_found None fits given = record { found = tt; len = λ h. absurd cc; range = λ h. absurd cc; dealt = λ h. absurd cc }
  run_found (Some rest) fits given =
      let t = commands_take count bytes (room, rest.now) fits given in
      record { found = t.parts; len = λ h. t.len; range = λ h. t.range; dealt = λ h. t.cards }

  pub run_only : (r : Option (Bor (List ℕ))) → Gives (λ rest. (room, rest.now)) r (commands_at count bytes) → (cs : List Command) (rest : List ℕ) → length cs ≡ count
      → AllByRecursion IsInRange cs → AllByRecursion IsDealt cs → bytes ≡ flat_map command_text cs ++ rest → IsSomeAnd r (λ x. (room ≡ cs) × (x.now ≡ rest))
  run_only None given cs rest len range dealt is =
      let again : commands_at count bytes ≡ Some (cs, rest) = ap (commands_at count) is ∙ ap (λ (n : ℕ). commands_at n (flat_map command_text cs ++ rest)) (sym len) ∙ commands_again cs rest range dealt in
      absurd (cc (given, again))
  run_only (Some x) given cs rest len range dealt is =
      let again : commands_at count bytes ≡ Some (cs, rest) = ap (commands_at count) is ∙ ap (λ (n : ℕ). commands_at n (flat_map command_text cs ++ rest)) (sym len) ∙ commands_again cs rest range dealt in
      let pair : List Command × List ℕ = (room, x.now) in
      let same : pair ≡ (cs, rest) = same_Some pair (cs, rest) (sym given ∙ again) in
      (ap (λ (p : List Command × List ℕ). p.0) same, ap (λ (p : List Command × List ℕ). p.1) same)

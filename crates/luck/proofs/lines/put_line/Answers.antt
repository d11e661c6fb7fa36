use Rattle.std.proofs.Common.{◌≡◌, ◌∙◌, ◌++◌, ◌∷◌, [], ℕ, ℤ, List, Result, Ok, Err, OnOk, w64, ap, append_assoc}
use Rattle.std.specs.Prelude.{decimal, is_ok, if◌then◌else◌}
use Rattle.std.specs.Fmt.{signed_decimal}
use Rattle.std.proofs.lemmas.Int.{to_z-of_z}
use Rattle.luck.specs.Lines.{luck_line}
use Rattle.luck.proofs.lines.put_line.Goals as goal

on_ok : {X E : Type 0} (result : Result X E) (new more same : List ℕ) (Q : Type 0) → (new ≡ more → Q) → new ≡ (if is_ok result then more else same) → OnOk result Q
on_ok (Ok x) new more same Q so is = so is
on_ok (Err e) new more same Q so is = tt

joined : (out first second a b : List ℕ) → first ≡ out ++ a → second ≡ first ++ b → second ≡ out ++ (a ++ b)
joined out first second a b is next = next ∙ ap (λ (t : List ℕ). t ++ b) is ∙ append_assoc out a b

line_is : (number : ℕ) (name : List ℕ) (payoff luck : ℤ) (parts : ℕ)
    → ((((((((decimal number ++ 32 ∷ []) ++ name) ++ 32 ∷ []) ++ signed_decimal payoff) ++ 32 ∷ []) ++ signed_decimal luck) ++ 47 ∷ []) ++ decimal parts) ++ 10 ∷ [] ≡ luck_line number name payoff luck parts
unfolding luck_line
line_is number name payoff luck parts = simp append_assoc

whole_line : (number : ℕ) (name : List ℕ) (payoff luck : ℤ) (parts : ℕ) (out a e g i first second third fourth fifth sixth seventh eighth ninth tenth : List ℕ)
    → a ≡ decimal number → e ≡ signed_decimal payoff → g ≡ signed_decimal luck → i ≡ decimal parts
    → first ≡ out ++ a → second ≡ first ++ 32 ∷ [] → third ≡ second ++ name → fourth ≡ third ++ 32 ∷ [] → fifth ≡ fourth ++ e → sixth ≡ fifth ++ 32 ∷ []
    → seventh ≡ sixth ++ g → eighth ≡ seventh ++ 47 ∷ [] → ninth ≡ eighth ++ i → tenth ≡ ninth ++ 10 ∷ [] → tenth ≡ out ++ luck_line number name payoff luck parts
whole_line number name payoff luck parts out a e g i first second third fourth fifth sixth seventh eighth ninth tenth as_number as_payoff as_luck as_parts one two three four five six seven eight nine ten =
    let f1 : first ≡ out ++ decimal number = one ∙ ap (λ (t : List ℕ). out ++ t) as_number in
    let f5 : fifth ≡ fourth ++ signed_decimal payoff = five ∙ ap (λ (t : List ℕ). fourth ++ t) as_payoff in
    let f7 : seventh ≡ sixth ++ signed_decimal luck = seven ∙ ap (λ (t : List ℕ). sixth ++ t) as_luck in
    let f9 : ninth ≡ eighth ++ decimal parts = nine ∙ ap (λ (t : List ℕ). eighth ++ t) as_parts in
    joined out ninth tenth _ _ (joined out eighth ninth _ _ (joined out seventh eighth _ _ (joined out sixth seventh _ _ (joined out fifth sixth _ _
    (joined out fourth fifth _ _ (joined out third fourth _ _ (joined out second third _ _ (joined out first second _ _ f1 two) three) four) f5) six) f7) eight) f9) ten
    ∙ ap (λ (t : List ℕ). out ++ t) (line_is number name payoff luck parts)

pub returns : goal.returns
returns c =
    on_ok c.extend_from_slice-10.result c.extend_from_slice-10.new.self.items (c.extend_from_slice-9.new.self.items ++ 10 ∷ []) _ _
    (λ last.
    whole_line c.args.number c.args.name.now c.args.payoff c.args.luck c.args.parts c.args.out.now.items c.as_bytes.result.now c.as_bytes-2.result.now c.as_bytes-3.result.now c.as_bytes-4.result.now
    c.extend_from_slice.new.self.items c.extend_from_slice-2.new.self.items c.extend_from_slice-3.new.self.items c.extend_from_slice-4.new.self.items c.extend_from_slice-5.new.self.items
    c.extend_from_slice-6.new.self.items c.extend_from_slice-7.new.self.items c.extend_from_slice-8.new.self.items c.extend_from_slice-9.new.self.items c.extend_from_slice-10.new.self.items
    (c.as_bytes.ensures.value ∙ c.format.ensures.text) (c.as_bytes-2.ensures.value ∙ c.format-2.ensures.text ∙ ap signed_decimal (to_z-of_z w64 c.args.payoff c.ranges.payoff)) (c.as_bytes-3.ensures.value ∙ c.format-3.ensures.text ∙ ap signed_decimal (to_z-of_z w64 c.args.luck c.ranges.luck)) (c.as_bytes-4.ensures.value ∙ c.format-4.ensures.text)
    c.in_ok-extend_from_slice.ensures.items c.in_ok-extend_from_slice-2.ensures.items c.in_ok-extend_from_slice-3.ensures.items c.in_ok-extend_from_slice-4.ensures.items c.in_ok-extend_from_slice-5.ensures.items
    c.in_ok-extend_from_slice-6.ensures.items c.in_ok-extend_from_slice-7.ensures.items c.in_ok-extend_from_slice-8.ensures.items c.in_ok-extend_from_slice-9.ensures.items last)
    c.extend_from_slice-10.ensures.items

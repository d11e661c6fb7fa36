-- Lives and settings are told to one peer after another.
use Rattle.std.proofs.Common.{◌≡◌, ℕ, ◌+◌, ◌<◌, ◌≤◌, inl, inr, Bool, true, false, List, get_or, set, length, Option, Some, None, is_some, refl, sym, subst, ◌∙◌, arith}
use Rattle.std.proofs.lemmas.Bool.Decides.{eqb_tells}
use Rattle.std.proofs.lemmas.List.{get_or-set_same, get_or-set_other, get_or_default, length-set}
use Rattle.node_links.specs.declared.limits.TheConstants.{NODES}
use Rattle.node_links.specs.declared.lives.Lives.{Lives}
use Rattle.node_links.specs.declared.settings.Settings.{Settings}
use Rattle.node_peers.specs.declared.peer.Peer.{Peer}
use Rattle.node_peers.specs.Handing.{GoBack}
use Rattle.node_peers.specs.Reporting.{takes_lives, informed, IsInformed, informs, again, never, Informed, AreInformed}

pub is_told : (lives : Lives) (settings : Option Settings) (old new : Peer) → new ≡ informed lives settings old → IsInformed lives settings old new
is_told lives settings old new is = informs is

pub told_again : (lives : Lives) (settings : Option Settings) (old new : Peer) → is_some old.lives_told ≡ true → new ≡ old → IsInformed lives settings old new
told_again lives settings old new some is = again some is

pub never_told : (lives : Lives) (settings : Option Settings) (old new : Peer) → takes_lives old ≡ false → new ≡ old → IsInformed lives settings old new
never_told lives settings old new takes is = never takes is

pub none_told_yet : (lives : Lives) (settings : Option Settings) (peers : List Peer) → Informed 0 lives settings peers peers
none_told_yet lives settings peers = record { size = refl; told = λ number nobody below within. absurd (omega (arith, below)); others = λ number nobody above. refl }

-- one more
one_told : (count : ℕ) (lives : Lives) (settings : Option Settings) (old mid : List Peer) (from to : Peer) → count < length mid → from ≡ get_or mid count from → IsInformed lives settings from to → Informed count lives settings old mid
    → (number : ℕ) (nobody : Peer) → number < count + 1 → number < length old → IsInformed lives settings (get_or old number nobody) (get_or (set mid count to) number nobody)
one_told count lives settings old mid from to within at is before number nobody below there = elim (eqb_tells number count) as (λ _. IsInformed lives settings (get_or old number nobody) (get_or (set mid count to) number nobody)) [
  | inl here ↦
      subst (λ (n : ℕ). IsInformed lives settings (get_or old n nobody) (get_or (set mid count to) n nobody)) (sym here.1)
      (subst (λ (p : Peer). IsInformed lives settings (get_or old count nobody) p) (sym (get_or-set_same mid count to nobody within))
      (subst (λ (p : Peer). IsInformed lives settings p to) (at ∙ get_or_default mid count from nobody within ∙ before.others count nobody (omega arith)) is))
  | inr differs ↦
      subst (λ (p : Peer). IsInformed lives settings (get_or old number nobody) p) (sym (get_or-set_other mid count number to nobody differs.1))
      (before.told number nobody (omega (arith, below, differs.1)) there)
]

pub one_informed : (count : ℕ) (lives : Lives) (settings : Option Settings) (old mid : List Peer) (from to : Peer) → count < length mid → from ≡ get_or mid count from → IsInformed lives settings from to → Informed count lives settings old mid
    → Informed (count + 1) lives settings old (set mid count to)
one_informed count lives settings old mid from to within at is before = record {
  size = length-set mid count to ∙ before.size;
  told = one_told count lives settings old mid from to within at is before;
  others = λ number nobody above. get_or-set_other mid count number to nobody (λ same. omega (arith, above, same)) ∙ before.others number nobody (omega (arith, above));
}

-- there are no more
pub none_informed : (count : ℕ) (lives : Lives) (settings : Option Settings) (old mid : List Peer) → length mid ≤ count → Informed count lives settings old mid → Informed (count + 1) lives settings old mid
none_informed count lives settings old mid over before = record {
  size = before.size;
  told = λ number nobody below there. before.told number nobody (omega (arith, over, there, before.size)) there;
  others = λ number nobody above. before.others number nobody (omega (arith, above));
}

pub both_told : (lives : Lives) (settings : Option Settings) (old between new : List Peer) → GoBack old between → Informed NODES lives settings between new → AreInformed lives settings old new
both_told lives settings old between new go told = (between, (go, told))

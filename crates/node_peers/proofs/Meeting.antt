-- What is known of other nodes, one after another, and where a Hello is judged by it.
use Rattle.std.proofs.Common.{◌≡◌, inl, inr, ℕ, ◌+◌, ◌<◌, false, List, set, length, Option, Some, None, ap, sym, subst, ◌∙◌, arith}
use Rattle.std.specs.Prelude.{is_some}
use Rattle.std.proofs.lemmas.Bool.Decides.{eqb_tells}
use Rattle.std.proofs.lemmas.List.{get_or-set_same, get_or-set_other}
use Rattle.peer_codes.specs.declared.hello.Hello.{Hello}
use Rattle.node_links.specs.declared.own.Own.{Own}
use Rattle.node_links.specs.declared.own.Met.{Met}
use Rattle.node_links.specs.Judging.{unmet, met_at, IsKnown}
use Rattle.node_peers.specs.declared.peer.Peer.{Peer}
use Rattle.node_peers.specs.Knowing.{known_of}
use Rattle.node_peers.specs.Meeting.{AreMet, IsKnownBy}

met_by : (own : Own) (count number : ℕ) (met : List Met) (peers : List Peer) (one : Met) → count < length met → one.lives ≡ known_of own count peers → AreMet own count met peers → number < count + 1 → (met_at (set met count one) number).lives ≡ known_of own number peers
met_by own count number met peers one room is are below = elim (eqb_tells number count) as (λ _. (met_at (set met count one) number).lives ≡ known_of own number peers) [
  | inl here ↦ subst (λ (n : ℕ). (met_at (set met count one) n).lives ≡ known_of own n peers) (sym here.1) (ap (λ (m : Met). m.lives) (get_or-set_same met count one unmet room) ∙ is)
  | inr differs ↦ ap (λ (m : Met). m.lives) (get_or-set_other met count number one unmet differs.1) ∙ are number (omega (arith, below, differs.1))
]

pub met_more : (own : Own) (count : ℕ) (met : List Met) (peers : List Peer) (one : Met) → count < length met → one.lives ≡ known_of own count peers → AreMet own count met peers → AreMet own (count + 1) (set met count one) peers
met_more own count met peers one room is are number below = met_by own count number met peers one room is are below

pub known_by : (own : Own) (met : List Met) (old new : Option Hello) → is_some old ≡ false → IsKnown own met old new → IsKnownBy own met new
known_by own met None None none known = tt
known_by own met None (Some hello) none known = known
known_by own met (Some earlier) new none known = absurd cc

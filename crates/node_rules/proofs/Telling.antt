-- Pieces show what was shown.
use Rattle.std.proofs.Common.{◌≡◌, ℕ, inl, inr, List, [], ◌∷◌, ◌++◌, refl, sym, ap, ◌∙◌, reverse}
use Rattle.std.proofs.lemmas.List.{reverse-append}
use Rattle.protocol_model.specs.Moves.{Shown}
use Rattle.node_rules.specs.Showing.{Piece}
use Rattle.node_rules.specs.Called.{text_in, log_with, text_with, log_after, texts_of, AreShown}

pub log_behind : (log : List ℕ) (ps qs : List Piece) → log_after log (ps ++ qs) ≡ log_after (log_after log ps) qs
log_behind log [] qs = refl
log_behind log (p ∷ ps) qs = log_behind (log_with log p.reader p.text) ps qs

texts_behind : (log : List ℕ) (ps qs : List Piece) → texts_of log (ps ++ qs) ≡ texts_of log ps ++ texts_of (log_after log ps) qs
texts_behind log [] qs = refl
texts_behind log (p ∷ ps) qs = ap (λ ts. text_with log p.reader p.text ∷ ts) (texts_behind (log_with log p.reader p.text) ps qs)

pub nothing_shown : (i start : ℕ) (log : List ℕ) → AreShown i start log [] []
nothing_shown i start log = record { texts = refl; of_node = λ t h. absurd h; of_start = λ t h. absurd h }

-- one piece more
pub shown_more : (i start : ℕ) (log : List ℕ) (ps : List Piece) (shown : List Shown) (p : Piece) (t : Shown) → AreShown i start log ps shown
    → text_in t ≡ text_with (log_after log ps) p.reader p.text → t.node ≡ i → t.start ≡ start → AreShown i start log (ps ++ p ∷ []) (t ∷ shown)
shown_more i start log ps shown p t are e node from = record {
  texts = (λ j. e j ∷ are.texts j) ∙ sym (ap reverse (texts_behind log ps (p ∷ [])) ∙ reverse-append (texts_of log ps) (text_with (log_after log ps) p.reader p.text ∷ []));
  of_node = λ u h. elim h [ inl same ↦ ap (λ (x : Shown). x.node) same ∙ node | inr old ↦ are.of_node u old ];
  of_start = λ u h. elim h [ inl same ↦ ap (λ (x : Shown). x.start) same ∙ from | inr old ↦ are.of_start u old ];
}

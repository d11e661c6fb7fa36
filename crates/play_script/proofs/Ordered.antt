-- Where nothing stands behind a word that belongs to it, no line with the word says anything.
use Rattle.std.proofs.Common.{◌≡◌, ℕ, List, ◌∙◌, sym, subst}
use Rattle.play_script.specs.declared.bounds.Bounds.{Bounds}
use Rattle.play_script.specs.declared.word.Word.{Word}
use Rattle.play_script.specs.declared.word.Word.TheVariants as word
use Rattle.play_script.specs.declared.order.Order.{Order}
use Rattle.play_script.specs.declared.order.Order.TheVariants.{Tick, Away, Deliver, Flush, Connect, Drop, Line, Stop, Start}
use Rattle.play_script.specs.Orders.{word_of, SaysBehind, NamesSeat, AddressesSeat, SaysTwo, Names, IsNumber}

-- the text says nothing that belongs to the word
abbrev pub Lacks : Bounds → List ℕ → Word → Type 0
Lacks bounds text word.Tick = (node : ℕ) → ¬ (Names bounds.nodes text node)
Lacks bounds text word.Away = (node : ℕ) → ¬ (Names bounds.nodes text node)
Lacks bounds text word.Deliver = (frame : ℕ) → ¬ (Names bounds.frames text frame)
Lacks bounds text word.Flush = (most : ℕ) → ¬ (IsNumber text most)
Lacks bounds text word.Connect = (pair : ℕ × ℕ) → ¬ (NamesSeat bounds text pair.0 pair.1)
Lacks bounds text word.Drop = (pair : ℕ × ℕ) → ¬ (NamesSeat bounds text pair.0 pair.1)
Lacks bounds text word.Line = (all : ℕ × ℕ × List ℕ) → ¬ (AddressesSeat bounds text all.0 all.1 all.2)
Lacks bounds text word.Stop = (pair : ℕ × ℕ) → ¬ (SaysTwo (Names bounds.nodes) IsNumber text pair.0 pair.1)
Lacks bounds text word.Start = (node : ℕ) → ¬ (Names bounds.nodes text node)

none_behind : (bounds : Bounds) (text : List ℕ) (said : Order) → Lacks bounds text (word_of said) → ¬ (SaysBehind bounds text said)
none_behind bounds text (Tick node) lacks says = lacks node says
none_behind bounds text (Away node) lacks says = lacks node says
none_behind bounds text (Deliver frame) lacks says = lacks frame says
none_behind bounds text (Flush most) lacks says = lacks most says
none_behind bounds text (Connect node seat) lacks says = lacks (node, seat) says
none_behind bounds text (Drop node seat) lacks says = lacks (node, seat) says
none_behind bounds text (Line node seat line) lacks says = lacks (node, seat, line.now) says
none_behind bounds text (Stop node pick) lacks says = lacks (node, pick) says
none_behind bounds text (Start node) lacks says = lacks node says

-- where the word is this one, and the text says nothing that belongs to it
pub no_order : (bounds : Bounds) (text : List ℕ) (one w : Word) → w ≡ one → Lacks bounds text one → (said : Order) → ¬ ((word_of said ≡ w) × SaysBehind bounds text said)
no_order bounds text one w is lacks said both = none_behind bounds text said (subst (Lacks bounds text) (sym (both.0 ∙ is)) lacks) both.1

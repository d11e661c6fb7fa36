-- A node that runs is seen as one standing alone.
use Rattle.std.proofs.Common.{◌≡◌, ℕ, List, Option, Some, None, true, false, IsTrue, ap, sym, ◌∙◌}
use Rattle.promise_store.specs.declared.disk.Disk.{Ghosts}
use Rattle.promise_store.specs.Holding.{holding, store_of}
use Rattle.promise_store.specs.declared.records.Record.{Record}
use Rattle.promise_store.specs.declared.stage.Stage.TheVariants.{New}
use Rattle.promise_store.specs.Journals.{IsJournal}
use Rattle.promise_store.specs.Keeping.{Keeps}
use Rattle.protocol_model.specs.Stores.{Store}
use Rattle.promise_store.specs.declared.store.Store.{Store as Kept}
use Rattle.node_rules.specs.Standings.{Standing}
use Rattle.dealer_node.specs.Nodes.{Node}
use Rattle.dealer_node.specs.declared.up.Up.{Up}
use Rattle.dealer_node.specs.Members.{Membership}
use Rattle.dealer_node.specs.Working.{IsUp}
use Rattle.dealer_node.specs.Seeing.{member_in, runs, is_up, IsSeenBy, IsSeen}

-- one list of records at most
abbrev pub OneReading : Type 0
OneReading = (head bytes : List ℕ) (a b : List Record) → IsJournal head bytes a → IsJournal head bytes b → a ≡ b

module _ {D : Type 0} (g : Ghosts D) where
  kept_as_one : OneReading → (head : List ℕ) (a b : Store) (store : Kept D) → IsTrue g.is_honest → Keeps g head a store → Keeps g head b store → a ≡ b
  kept_as_one reading head a b store honest first second =
      first.is ∙ (ap (λ (records : List Record). store_of (holding head records)) (reading head (g.seen store.disk) first.records second.records
      (first.first, New, first.settled.journal honest) (second.first, New, second.settled.journal honest))
      ∙ sym second.is)

  up_as_one : OneReading → (member : Membership) (up : Up D) (a b : Standing) → IsTrue g.is_honest → IsUp g member up a → IsUp g member up b → a ≡ b
  up_as_one reading member up a b honest first second =
      let stores : a.store ≡ b.store = kept_as_one reading _ a.store b.store _ honest first.keeps second.keeps in
      let begun : a.begun ≡ b.begun = first.unbegun ∙ (stores ∙ sym second.unbegun) in
      let x = first.running in
      let y = second.running in
      same a b (x.up ∙ sym y.up) stores begun (sym x.campaign ∙ y.campaign) (sym x.learned ∙ y.learned) (sym x.waits ∙ y.waits) (sym x.greatest ∙ y.greatest) (sym x.sessions ∙ y.sessions)
    where
      same : (a b : Standing) → a.up ≡ b.up → a.store ≡ b.store → a.begun ≡ b.begun → a.campaign ≡ b.campaign → a.learned ≡ b.learned → a.pending ≡ b.pending → a.seen ≡ b.seen
          → a.sessions ≡ b.sessions → a ≡ b
      same a b up store begun campaign learned pending seen sessions =
          ap (λ u. record a { up = u }) up ∙ (ap (λ u. record a { up = b.up; store = u }) store ∙ (ap (λ u. record a { up = b.up; store = b.store; begun = u }) begun
          ∙ (ap (λ u. record a { up = b.up; store = b.store; begun = b.begun; campaign = u }) campaign
          ∙ (ap (λ u. record a { up = b.up; store = b.store; begun = b.begun; campaign = b.campaign; learned = u }) learned
          ∙ (ap (λ u. record b { pending = u; seen = a.seen; sessions = a.sessions }) pending ∙ (ap (λ u. record b { seen = u; sessions = a.sessions }) seen
          ∙ ap (λ u. record b { sessions = u }) sessions))))))

  by_as_one : OneReading → (member : Membership) (up : Option (Up D)) (disk : Option D) (a b : Standing) → IsTrue g.is_honest → IsSeenBy g member up disk a → IsSeenBy g member up disk b → a.up ≡ true → a ≡ b
  by_as_one reading member (Some up) disk a b honest first second runs = up_as_one reading member up a b honest first second
  by_as_one reading member None (Some disk) a b honest first second runs = absurd (let e : false ≡ true = sym (ap (λ (s : Standing). s.up) first.stopped) ∙ runs in cc)
  by_as_one reading member None None a b honest first second runs = absurd first

  by_up : (member : Membership) (up : Option (Up D)) (disk : Option D) (s : Standing) → IsSeenBy g member up disk s → is_up up ≡ s.up
  by_up member (Some up) disk s seen = sym seen.running.up
  by_up member None (Some disk) s seen = sym (ap (λ (s : Standing). s.up) seen.stopped)
  by_up member None None s seen = absurd seen

  pub as_one : OneReading → (node : Node D) (a b : Standing) → IsTrue g.is_honest → IsSeen g node a → IsSeen g node b → a.up ≡ true → a ≡ b
  as_one reading node a b honest first second runs = by_as_one reading (member_in node) node.up node.disk a b honest first.by second.by runs

  pub tells_up : (node : Node D) (s : Standing) → IsSeen g node s → runs node ≡ s.up
  tells_up node s seen = by_up (member_in node) node.up node.disk s seen.by

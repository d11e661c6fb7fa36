-- One command more is applied.
use Rattle.std.proofs.Common.{◌≡◌, ℕ, ◌+◌, ◌<◌, Bool, List, [], ◌∷◌, ◌++◌, refl, ap, sym, ◌∙◌, subst, append_assoc, length, drop, get_or}
use Rattle.std.specs.Prelude.{map, Option, is_none, if◌then◌else◌}
use Rattle.std.proofs.lemmas.List.{map-append, at_drop_more}
use Rattle.slot_log.specs.Hand.{Match}
use Rattle.slot_log.specs.Dealer as dealer
use Rattle.slot_log.specs.declared.command.Command.{Command}
use Rattle.seat_session.specs.Session.{Standing as Talk}
use Rattle.dealer_kind.specs.Kind.{Setting, hands_after, fits}
use Rattle.node_rules.specs.Showing.{news}
use Rattle.node_rules.specs.Applying.{Scene, kept, taking, taking_all, shown_of}
use Rattle.dealer_node.specs.declared.reader.Reader.{Reader}
use Rattle.dealer_node.specs.Texts.{Marked}
use Rattle.dealer_node.specs.Turned.{printed}
use Rattle.dealer_node.specs.Scenes.{IsTableOf, IsScene}

-- the hands of one command more
pub one_more : (setting : Setting) (before : List Command) (command : Command)
    → hands_after setting (command ∷ before) ≡ dealer.hands_after setting.game setting.title.hands (hands_after setting before) command
unfolding dealer.hands_of
one_more setting before command = refl

-- whether it takes effect
pub fits_by_table : (setting : Setting) (applied : List Command) (table : Match) (command : Command) → IsTableOf setting applied table
    → is_none (dealer.reason_of table.game table.count table.hands command) ≡ fits setting applied command
fits_by_table setting applied table command is =
    ap (λ g. is_none (dealer.reason_of g table.count table.hands command)) is.game
    ∙ ap (λ c. is_none (dealer.reason_of setting.game c table.hands command)) is.count
    ∙ ap (λ h. is_none (dealer.reason_of setting.game setting.title.hands h command)) is.hands

-- the table after it
pub table_after : (setting : Setting) (applied : List Command) (old new : Match) (command : Command) → IsTableOf setting applied old
    → new.game ≡ old.game → new.count ≡ old.count → new.hands ≡ dealer.hands_after old.game old.count old.hands command
    → IsTableOf setting (command ∷ applied) new
table_after setting applied old new command is game count hands = record {
  game = game ∙ is.game;
  count = count ∙ is.count;
  hands = hands
      ∙ ap (λ g. dealer.hands_after g old.count old.hands command) is.game
      ∙ ap (λ c. dealer.hands_after setting.game c old.hands command) is.count
      ∙ ap (λ h. dealer.hands_after setting.game setting.title.hands h command) is.hands
      ∙ sym (one_more setting applied command);
}

-- the scene after it
pub scene_after : (setting : Setting) (sessions : List (Option Talk)) (scene : Scene) (old new : Match) (pending later : Option Command) (before texts more : List (Marked Reader)) (command : Command) (took : Bool)
    → IsScene setting scene old pending before texts
    → took ≡ is_none (dealer.reason_of old.game old.count old.hands command)
    → new.game ≡ old.game → new.count ≡ old.count → new.hands ≡ dealer.hands_after old.game old.count old.hands command
    → more ≡ texts ++ map printed (if took then news setting sessions new.hands else [])
    → ((applied : List Command) → IsTableOf setting applied new → later ≡ kept setting applied pending)
    → IsScene setting (taking setting sessions command scene) new later before more
scene_after setting sessions scene old new pending later before texts more command took is fit game count hands shown forgot =
    let table = table_after setting scene.applied old new command is.hands game count hands in
    let takes : took ≡ fits setting scene.applied command = fit ∙ fits_by_table setting scene.applied old command is.hands in
    let all : (if took then news setting sessions new.hands else []) ≡ shown_of setting sessions scene.applied command =
    ap (λ b. if b then news setting sessions new.hands else []) takes
    ∙ ap (λ h. if fits setting scene.applied command then news setting sessions h else []) table.hands in
    record {
      hands = table;
      waits = forgot (command ∷ scene.applied) table ∙ ap (kept setting (command ∷ scene.applied)) is.waits;
      shown = shown ∙ ap (λ p. texts ++ map printed p) all ∙ ap (λ t. t ++ map printed (shown_of setting sessions scene.applied command)) is.shown
          ∙ append_assoc before (map printed scene.shown) (map printed (shown_of setting sessions scene.applied command))
          ∙ ap (λ t. before ++ t) (sym (map-append printed scene.shown (shown_of setting sessions scene.applied command)));
    }

-- more commands are to be applied, and that leads to this end
pub record GoesOn (setting : Setting) (sessions : List (Option Talk)) (commands : List Command) (end : Scene) (table : Match) (pending : Option Command) (before texts : List (Marked Reader)) : Type 0 where
  pub scene : Scene
  pub is : IsScene setting scene table pending before texts
  pub leads : taking_all setting sessions commands scene ≡ end

taken_first : (setting : Setting) (sessions : List (Option Talk)) (command : Command) (later : List Command) (scene : Scene)
    → taking_all setting sessions (command ∷ later) scene ≡ taking_all setting sessions later (taking setting sessions command scene)
unfolding taking_all
taken_first setting sessions command later scene = refl

taken_none : (setting : Setting) (sessions : List (Option Talk)) (scene : Scene) → taking_all setting sessions [] scene ≡ scene
unfolding taking_all
taken_none setting sessions scene = refl

pub goes_over : (setting : Setting) (sessions : List (Option Talk)) (command : Command) (commands later : List Command) (end : Scene) (table new : Match) (pending kept : Option Command) (before texts more : List (Marked Reader))
    → commands ≡ command ∷ later
    → ((scene : Scene) (front : List (Marked Reader)) → IsScene setting scene table pending front texts → IsScene setting (taking setting sessions command scene) new kept front more)
    → GoesOn setting sessions commands end table pending before texts → GoesOn setting sessions later end new kept before more
goes_over setting sessions command commands later end table new pending kept before texts more first one on = record {
  scene = taking setting sessions command on.scene;
  is = one on.scene before on.is;
  leads = sym (taken_first setting sessions command later on.scene) ∙ (ap (λ cs. taking_all setting sessions cs on.scene) (sym first) ∙ on.leads);
}

pub goes_to : (setting : Setting) (sessions : List (Option Talk)) (commands : List Command) (end : Scene) (table : Match) (pending : Option Command) (before texts : List (Marked Reader))
    → commands ≡ [] → GoesOn setting sessions commands end table pending before texts → IsScene setting end table pending before texts
goes_to setting sessions commands end table pending before texts none on =
    subst (λ s. IsScene setting s table pending before texts) (sym (taken_none setting sessions on.scene) ∙ (ap (λ cs. taking_all setting sessions cs on.scene) (sym none) ∙ on.leads)) on.is

-- the first of those that are left
pub first_left : (commands : List Command) (index : ℕ) (command : Command) → index < length commands → command ≡ get_or commands index command → drop index commands ≡ command ∷ drop (index + 1) commands
first_left commands index command within is =
    at_drop_more (λ (xs : List Command). xs) commands index command within ∙ ap (λ c. c ∷ drop (index + 1) commands) (sym is)

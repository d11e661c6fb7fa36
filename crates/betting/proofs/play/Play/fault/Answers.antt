use Rattle.std.proofs.Common.{◌∙◌, sym, ap}
use Rattle.betting.specs.Betting.{history}
use Rattle.betting.proofs.Legal.{fault_of-position, fault_of-finished}
use Rattle.betting.proofs.Kept.{seen_seat, seen_to_act}
use Rattle.betting.specs.Legal.{fault_at}
use Rattle.betting.proofs.play.Play.fault.Goals as goal

pub returns-in_default : goal.returns-in_default
returns-in_default c = sym (fault_of-finished c.args.self.now.game (history c.args.self.now) c.args.action (sym (seen_to_act c.self.inside c.args.self.now c.self.view_is c.self.invariant) ∙ c.in_default.is))

pub fault_of_fold-requires : goal.fault_of_fold-requires
fault_of_fold-requires c = seen_seat c.self.inside c.args.self.now c.self.view_is c.self.invariant c.in-Some.position c.in-Some.is

pub fault_of_raise-requires : goal.fault_of_raise-requires
fault_of_raise-requires c = seen_seat c.self.inside c.args.self.now c.self.view_is c.self.invariant c.in-Some.position c.in-Some.is

pub returns-in-Fold : goal.returns-in-Fold
unfolding fault_at
returns-in-Fold c = c.fault_of_fold.ensures ∙ sym (fault_of-position c.args.self.now.game (history c.args.self.now) c.args.action c.in-Some.position (sym (seen_to_act c.self.inside c.args.self.now c.self.view_is c.self.invariant) ∙ c.in-Some.is) ∙ ap (fault_at c.args.self.now.game (history c.args.self.now) c.in-Some.position) c.in-Fold.is)

pub returns-in-Call : goal.returns-in-Call
unfolding fault_at
returns-in-Call c = sym (fault_of-position c.args.self.now.game (history c.args.self.now) c.args.action c.in-Some.position (sym (seen_to_act c.self.inside c.args.self.now c.self.view_is c.self.invariant) ∙ c.in-Some.is) ∙ ap (fault_at c.args.self.now.game (history c.args.self.now) c.in-Some.position) c.in-Call.is)

pub returns-in-Raise : goal.returns-in-Raise
unfolding fault_at
returns-in-Raise c = c.fault_of_raise.ensures ∙ sym (fault_of-position c.args.self.now.game (history c.args.self.now) c.args.action c.in-Some.position (sym (seen_to_act c.self.inside c.args.self.now c.self.view_is c.self.invariant) ∙ c.in-Some.is) ∙ ap (fault_at c.args.self.now.game (history c.args.self.now) c.in-Some.position) c.in-Raise.is)

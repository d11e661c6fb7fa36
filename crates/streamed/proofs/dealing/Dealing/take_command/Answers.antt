use Rattle.std.proofs.Common.{◌∙◌, ap, refl, ◌++◌, ◌∷◌, ℕ, List}
use Rattle.std.specs.Prelude.{Option}
use Rattle.std.proofs.lemmas.Result.{on_ok_weaker}
use Rattle.game_def.specs.Game.{Game}
use Rattle.slot_log.specs.Hand.{Match}
use Rattle.streamed.specs.Running.{Stands}
use Rattle.streamed.specs.declared.script_line.ScriptLine.{ScriptLine}
use Rattle.streamed.specs.declared.script_line.ScriptLine.TheVariants.{Told}
use Rattle.streamed.proofs.Streams.{on_ok}
use Rattle.streamed.proofs.Taking.{stands_after, effect_answer, refused_answer, fitting, refused_by}
use Rattle.streamed.proofs.dealing.Dealing.take_command.Goals as goal

pub returns-in-None-clause-stands : goal.returns-in-None-clause-stands
returns-in-None-clause-stands c =
    let a = c.in_ok-reason.ensures in
    on_ok c.put_refusal.result _ (λ game count log before stands. stands_after game count log before c.args.self.now _ c.args.command.now c.requires a.game a.count a.hands refl refl stands)

pub returns-in-None-clause-answered : goal.returns-in-None-clause-answered
returns-in-None-clause-answered c =
    let t = c.args.self.now.table in
    let refused = refused_by t.game t.count t.hands c.args.command.now _ c.in-None.reason c.in_ok-reason.ensures.effect c.in-None.is in
    on_ok_weaker c.put_refusal.result
    (λ put game count log before stands. put ∙ ap (λ z. c.args.out.now.items ++ z) (refused_answer game count log before c.args.self.now c.args.command.now c.in-None.reason refused stands))
    c.put_refusal.ensures

pub returns-in_default : goal.returns-in_default
returns-in_default c =
    let a = c.in_ok-reason.ensures in
    let e = c.put_effect.ensures in
    let t = c.args.self.now.table in
    let fits = fitting t.game t.count t.hands c.args.command.now _ a.effect c.in_default.not-None in
    let after : (game : Game) (count : ℕ) (log : Option (List ℕ)) (before : List ScriptLine) → Stands game count log before c.args.self.now → Stands game count log (Told c.args.command.now ∷ before) c.put_effect.new.self =
    λ game count log before stands. stands_after game count log before c.args.self.now c.put_effect.new.self c.args.command.now c.requires
    (ap (λ (m : Match). m.game) e.same.table ∙ a.game) (ap (λ (m : Match). m.count) e.same.table ∙ a.count) (ap (λ (m : Match). m.hands) e.same.table ∙ a.hands) e.same.names e.same.log stands in
    record {
      stands = on_ok c.put_effect.result _ after;
      answered = on_ok_weaker c.put_effect.result
          (λ put game count log before stands. put ∙ ap (λ z. c.args.out.now.items ++ z)
          (effect_answer game count log before c.args.self.now c.args.command.now c.apply.new.self c.requires fits a.game a.count a.hands stands))
          e.ok;
    }

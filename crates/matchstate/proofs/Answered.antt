-- A fault of an answer's line is the answer's fault.
use Rattle.std.proofs.Common.{ℕ, List, Err, sym, ◌∙◌, subst}
use Rattle.game_def.specs.Game.{Game}
use Rattle.matchstate.specs.Line.{HasFields, ReadsAs}
use Rattle.matchstate.specs.Answer.{IsCut, AnswerReadsAs}
use Rattle.matchstate.specs.declared.line_fault.LineFault.{LineFault}
use Rattle.matchstate.specs.declared.line_fault.LineFault.TheVariants.{NotMatchstate, BadNumber, BadBetting, BadCards, BadAction}
use Rattle.matchstate.proofs.LastField.{same_cut}

pub fault_of_line : (game : Game) (bytes line field : List ℕ) (fault : LineFault) → IsCut bytes line field → ReadsAs game line (Err fault) → AnswerReadsAs game bytes (Err fault)
fault_of_line game bytes line field NotMatchstate cut none =
    λ other last fields else_cut has.
    let same = same_cut other last line field else_cut.last cut.last (sym else_cut.whole ∙ cut.whole) in
    none fields (subst (λ text. HasFields text fields) same.0 has)
fault_of_line game bytes line field BadNumber cut fault = (line, field, cut, fault)
fault_of_line game bytes line field BadBetting cut fault = (line, field, cut, fault)
fault_of_line game bytes line field BadCards cut fault = (line, field, cut, fault)
fault_of_line game bytes line field BadAction cut fault = absurd fault

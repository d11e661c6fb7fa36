-- An answer reads in one way, and has one text.
use Rattle.std.proofs.Common.{◌≡◌, ℕ, List, [], ◌∷◌, ◌++◌, get_or, Option, Some, None, Result, Ok, Err, decimal, refl, sym, ap, ◌∙◌, subst, arith, inl, inr}
use Rattle.std.proofs.lemmas.Fmt.{decimal_injective}
use Rattle.game_def.specs.Game.{Game, IsGame}
use Rattle.betting.specs.declared.action.Action.{Action}
use Rattle.betting.specs.declared.action.Action.TheVariants.{Fold, Call, Raise}
use Rattle.betting.specs.Turns.{Turn}
use Rattle.betting.specs.Rounds.{turns}
use Rattle.betting.specs.Text.{action_text}
use Rattle.matchstate.specs.ActionText.{IsActionText, IsRaiseText, IsLimitAmount}
use Rattle.matchstate.specs.View.{View}
use Rattle.matchstate.specs.Line.{ReadsAs, line_text}
use Rattle.matchstate.specs.Answer.{IsCut, SaysAction, IsAnswer, HasFault, AnswerReadsAs}
use Rattle.matchstate.specs.declared.line_fault.LineFault.{LineFault}
use Rattle.matchstate.specs.declared.line_fault.LineFault.TheVariants.{NotMatchstate, BadNumber, BadBetting, BadCards, BadAction}
use Rattle.matchstate.proofs.LastField.{same_cut}
use Rattle.matchstate.proofs.Words.{text_of_read}
use Rattle.matchstate.specs.OneReading.{AnswersReadOneWay, ActionTextsSayOneAction, AnswersAreTexts}
use Rattle.matchstate.proofs.OneBetting.{letter, letter_is, one_amount}
use Rattle.matchstate.proofs.OneLine.{lines_are_texts, lines_read_one_way}

-- ---- a text says one action

one_limit_amount : (game : Game) (past : List Turn) (sizes : List ℕ) (amount other : ℕ) → game.raise_sizes ≡ Some sizes → IsLimitAmount game past amount → IsLimitAmount game past other → amount ≡ other
one_limit_amount game past sizes amount other limit (inl can) (inl may) = one_amount game past sizes amount other limit can may
one_limit_amount game past sizes amount other limit (inl can) (inr none) = absurd (none.1 amount can)
one_limit_amount game past sizes amount other limit (inr none) (inl may) = absurd (none.1 other may)
one_limit_amount game past sizes amount other limit (inr none) (inr nothing) = none.0 ∙ sym nothing.0

one_raise : (game : Game) (past : List Turn) (bytes : List ℕ) (amount other : ℕ) → IsActionText game past bytes (Raise amount) → IsActionText game past bytes (Raise other) → amount ≡ other
one_raise game past bytes amount other text said = by_sizes game.raise_sizes refl text said
  where
    by_sizes : (sizes : Option (List ℕ)) → game.raise_sizes ≡ sizes → IsRaiseText sizes game past bytes amount → IsRaiseText sizes game past bytes other → amount ≡ other
    by_sizes None kind one two =
        let small = one.1 in
        let fits = two.1 in
        let texts : 114 ∷ decimal amount ≡ 114 ∷ decimal other = sym one.0 ∙ two.0 in
        let digits : decimal amount ≡ decimal other = cc in
        decimal_injective amount other (omega arith) (omega arith) digits
    by_sizes (Some sizes) kind one two = one_limit_amount game past sizes amount other kind one.1 two.1

pub one_action : ActionTextsSayOneAction
one_action game past bytes action other text said =
    let texts : action_text game action ≡ action_text game other = sym (text_of_read game past bytes action text) ∙ text_of_read game past bytes other said in
    by_kind action other text said (sym (letter_is game action []) ∙ ap (λ t. get_or (t ++ []) 0 0) texts ∙ letter_is game other [])
  where
    by_kind : (a b : Action) → IsActionText game past bytes a → IsActionText game past bytes b → letter a ≡ letter b → a ≡ b
    by_kind Fold Fold t s l = refl
    by_kind Fold Call t s l = absurd (omega arith)
    by_kind Fold (Raise y) t s l = absurd (omega arith)
    by_kind Call Fold t s l = absurd (omega arith)
    by_kind Call Call t s l = refl
    by_kind Call (Raise y) t s l = absurd (omega arith)
    by_kind (Raise x) Fold t s l = absurd (omega arith)
    by_kind (Raise x) Call t s l = absurd (omega arith)
    by_kind (Raise x) (Raise y) t s l = ap Raise (one_raise game past bytes x y t s)

-- ---- an answer's line reads in one way

-- what stands before the last field reads as a line
record Front (game : Game) (bytes : List ℕ) (result : Result View LineFault) : Type 0 where
  line : List ℕ
  field : List ℕ
  cut : IsCut bytes line field
  reads : ReadsAs game line result

same_front : (game : Game) (bytes : List ℕ) (result other : Result View LineFault) → IsGame game → Front game bytes result → Front game bytes other → result ≡ other
same_front game bytes result other is front back =
    let same = same_cut front.line front.field back.line back.field front.cut.last back.cut.last (sym front.cut.whole ∙ back.cut.whole) in
    lines_read_one_way game front.line result other is front.reads (subst (λ l. ReadsAs game l other) (sym same.0) back.reads)

same_field : (game : Game) (bytes : List ℕ) (result other : Result View LineFault) (front : Front game bytes result) (back : Front game bytes other) → front.field ≡ back.field
same_field game bytes result other front back =
    (same_cut front.line front.field back.line back.field front.cut.last back.cut.last (sym front.cut.whole ∙ back.cut.whole)).1

abbrev front_of_answer : (game : Game) (bytes : List ℕ) (view : View) (action : Action) → IsAnswer game bytes view action → Front game bytes (Ok view)
front_of_answer game bytes view action answer = record { line = answer.line; field = answer.field; cut = answer.cut; reads = answer.line_is }

front_of_fault : (game : Game) (bytes : List ℕ) (fault : LineFault) → HasFault game bytes fault → Front game bytes (Err fault)
front_of_fault game bytes fault has = record { line = has.0; field = has.1; cut = has.2; reads = has.3 }

abbrev front_of_action : (game : Game) (bytes : List ℕ) (reads : AnswerReadsAs game bytes (Err BadAction)) → Front game bytes (Ok reads.3.0)
front_of_action game bytes reads = record { line = reads.0; field = reads.1; cut = reads.2; reads = reads.3.1 }

one_view : {view other : View} → ◌≡◌ {A = Result View LineFault} (Ok view) (Ok other) → view ≡ other
one_view same = cc

view_is_no_fault : {view : View} {fault : LineFault} → ◌≡◌ {A = Result View LineFault} (Ok view) (Err fault) → ⊥
view_is_no_fault same = cc

one_name : {fault other : LineFault} → ◌≡◌ {A = Result View LineFault} (Err fault) (Err other) → fault ≡ other
one_name same = cc

-- ---- an answer reads in one way

one_said : (game : Game) (bytes : List ℕ) (view other : View) (action step : Action) (front : Front game bytes (Ok view)) (back : Front game bytes (Ok other)) → view ≡ other → SaysAction game view front.field action → SaysAction game other back.field step → action ≡ step
one_said game bytes view other action step front back same said says =
    let field = same_field game bytes (Ok view) (Ok other) front back in
    one_action game (turns game view.past) front.field action step said
    (subst (λ (v : View). SaysAction game v front.field step) (sym same) (subst (λ f. SaysAction game other f step) (sym field) says))

same_answer : (game : Game) (bytes : List ℕ) (view other : View) (action step : Action) → IsGame game → IsAnswer game bytes view action → IsAnswer game bytes other step → (view ≡ other) × (action ≡ step)
same_answer game bytes view other action step is answer reply =
    let front = front_of_answer game bytes view action answer in
    let back = front_of_answer game bytes other step reply in
    let same = one_view (same_front game bytes (Ok view) (Ok other) is front back) in
    (same, one_said game bytes view other action step front back same answer.action_is reply.action_is)

no_bad_action : (game : Game) (bytes : List ℕ) (view : View) (action : Action) → IsGame game → IsAnswer game bytes view action → AnswerReadsAs game bytes (Err BadAction) → ⊥
no_bad_action game bytes view action is answer reads =
    let front = front_of_answer game bytes view action answer in
    let back = front_of_action game bytes reads in
    let same = one_view (same_front game bytes (Ok view) (Ok reads.3.0) is front back) in
    let field = same_field game bytes (Ok view) (Ok reads.3.0) front back in
    reads.3.2 action (subst (λ (v : View). SaysAction game v reads.1 action) same (subst (λ f. SaysAction game view f action) field answer.action_is))

no_fault_of_answer : (game : Game) (bytes : List ℕ) (view : View) (action : Action) (fault : LineFault) → IsGame game → IsAnswer game bytes view action → AnswerReadsAs game bytes (Err fault) → ⊥
no_fault_of_answer game bytes view action NotMatchstate is answer reads = reads answer.line answer.field answer.line_is.fields answer.cut answer.line_is.has_fields
no_fault_of_answer game bytes view action BadNumber is answer reads =
    view_is_no_fault (same_front game bytes (Ok view) (Err BadNumber) is (front_of_answer game bytes view action answer) (front_of_fault game bytes BadNumber reads))
no_fault_of_answer game bytes view action BadBetting is answer reads =
    view_is_no_fault (same_front game bytes (Ok view) (Err BadBetting) is (front_of_answer game bytes view action answer) (front_of_fault game bytes BadBetting reads))
no_fault_of_answer game bytes view action BadCards is answer reads =
    view_is_no_fault (same_front game bytes (Ok view) (Err BadCards) is (front_of_answer game bytes view action answer) (front_of_fault game bytes BadCards reads))
no_fault_of_answer game bytes view action BadAction is answer reads = no_bad_action game bytes view action is answer reads

-- a fault of the line is one fault, and not the action's
one_line_fault : (game : Game) (bytes : List ℕ) (fault other : LineFault) → IsGame game → HasFault game bytes fault → HasFault game bytes other → fault ≡ other
one_line_fault game bytes fault other is has have =
    one_name (same_front game bytes (Err fault) (Err other) is (front_of_fault game bytes fault has) (front_of_fault game bytes other have))

clash_of_action : (game : Game) (bytes : List ℕ) (fault : LineFault) → IsGame game → AnswerReadsAs game bytes (Err BadAction) → HasFault game bytes fault → ⊥
clash_of_action game bytes fault is reads has =
    view_is_no_fault (same_front game bytes (Ok reads.3.0) (Err fault) is (front_of_action game bytes reads) (front_of_fault game bytes fault has))

one_answer_fault : (game : Game) (bytes : List ℕ) (fault other : LineFault) → IsGame game → AnswerReadsAs game bytes (Err fault) → AnswerReadsAs game bytes (Err other) → fault ≡ other
one_answer_fault game bytes NotMatchstate NotMatchstate is a b = refl
one_answer_fault game bytes NotMatchstate BadNumber is a b = absurd (a b.0 b.1 b.3.0 b.2 b.3.1)
one_answer_fault game bytes NotMatchstate BadBetting is a b = absurd (a b.0 b.1 b.3.0 b.2 b.3.1)
one_answer_fault game bytes NotMatchstate BadCards is a b = absurd (a b.0 b.1 b.3.0 b.2 b.3.1)
one_answer_fault game bytes NotMatchstate BadAction is a b = absurd (a b.0 b.1 b.3.1.fields b.2 b.3.1.has_fields)
one_answer_fault game bytes BadNumber NotMatchstate is a b = absurd (b a.0 a.1 a.3.0 a.2 a.3.1)
one_answer_fault game bytes BadNumber BadNumber is a b = refl
one_answer_fault game bytes BadNumber BadBetting is a b = one_line_fault game bytes BadNumber BadBetting is a b
one_answer_fault game bytes BadNumber BadCards is a b = one_line_fault game bytes BadNumber BadCards is a b
one_answer_fault game bytes BadNumber BadAction is a b = absurd (clash_of_action game bytes BadNumber is b a)
one_answer_fault game bytes BadBetting NotMatchstate is a b = absurd (b a.0 a.1 a.3.0 a.2 a.3.1)
one_answer_fault game bytes BadBetting BadNumber is a b = one_line_fault game bytes BadBetting BadNumber is a b
one_answer_fault game bytes BadBetting BadBetting is a b = refl
one_answer_fault game bytes BadBetting BadCards is a b = one_line_fault game bytes BadBetting BadCards is a b
one_answer_fault game bytes BadBetting BadAction is a b = absurd (clash_of_action game bytes BadBetting is b a)
one_answer_fault game bytes BadCards NotMatchstate is a b = absurd (b a.0 a.1 a.3.0 a.2 a.3.1)
one_answer_fault game bytes BadCards BadNumber is a b = one_line_fault game bytes BadCards BadNumber is a b
one_answer_fault game bytes BadCards BadBetting is a b = one_line_fault game bytes BadCards BadBetting is a b
one_answer_fault game bytes BadCards BadCards is a b = refl
one_answer_fault game bytes BadCards BadAction is a b = absurd (clash_of_action game bytes BadCards is b a)
one_answer_fault game bytes BadAction NotMatchstate is a b = absurd (b a.0 a.1 a.3.1.fields a.2 a.3.1.has_fields)
one_answer_fault game bytes BadAction BadNumber is a b = absurd (clash_of_action game bytes BadNumber is a b)
one_answer_fault game bytes BadAction BadBetting is a b = absurd (clash_of_action game bytes BadBetting is a b)
one_answer_fault game bytes BadAction BadCards is a b = absurd (clash_of_action game bytes BadCards is a b)
one_answer_fault game bytes BadAction BadAction is a b = refl

pub answers_read_one_way : AnswersReadOneWay
answers_read_one_way game bytes (Ok answer) (Ok reply) is a b =
    let same = same_answer game bytes answer.0 reply.0 answer.1 reply.1 is a b in
    ap (λ (v : View). Ok (v, answer.1)) same.0 ∙ ap (λ (x : Action). Ok (reply.0, x)) same.1
answers_read_one_way game bytes (Ok answer) (Err fault) is a b = absurd (no_fault_of_answer game bytes answer.0 answer.1 fault is a b)
answers_read_one_way game bytes (Err fault) (Ok answer) is a b = absurd (no_fault_of_answer game bytes answer.0 answer.1 fault is b a)
answers_read_one_way game bytes (Err fault) (Err other) is a b = ap Err (one_answer_fault game bytes fault other is a b)

-- ---- an answer has one text

pub answers_are_texts : AnswersAreTexts
answers_are_texts game bytes view action answer =
    answer.cut.whole
    ∙ ap (λ l. l ++ 58 ∷ answer.field) (lines_are_texts game answer.line view answer.line_is).1
    ∙ ap (λ f. line_text view ++ 58 ∷ f) (text_of_read game (turns game view.past) answer.field action answer.action_is)

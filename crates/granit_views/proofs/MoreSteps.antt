-- Steps behind a pair of a flow sequence and an entry of a block collection.
use Rattle.granit_views.specs.Good.{Holes}
use Rattle.granit_views.specs.Steps.{Steps}
use Rattle.granit_views.specs.View.{Beside}
use Rattle.granit_language.specs.Seen.{terminal_kind}
use Rattle.granit_event_machine.specs.EventMachine.{AskDone, Done, OpenFrame, FlowSequenceFrame, FlowMappingFrame}
use Rattle.granit_event_machine.specs.EventMachine.{FlowPairFrame}
use Rattle.granit_language.specs.Scope.{Scope}
use Rattle.granit_language.specs.Terminal.{is_comma_kind, closes_kind, is_bare_kind}
use Rattle.granit_lexemes.specs.Lexeme.{KeyStart}
use Rattle.granit_lexemes.specs.declared.layout.Bracket.TheVariants.{Square, Curly}
use Rattle.granit_machine.specs.NodeEnds.{end_node}
use Rattle.std.proofs.Common.{◌≡◌, Bool, true, false, List, ◌∷◌, refl, ◌||◌, not, Option, Some, None}
use Rattle.granit_error.specs.OptionsData.{OptionsData}
use Rattle.granit_lexemes.specs.Lexeme as lexemes
use Rattle.granit_lexemes.specs.declared.layout.Bracket.TheVariants as brackets

pub made_done_steps :
    (b : Bool) (k : lexemes.LexemeKind) (key : Option KeyStart) (s : Scope) (l : lexemes.Lexeme) (o : OptionsData)
    (d : Beside) (fs : List OpenFrame) →
    Holes fs →
    ((is_comma_kind (terminal_kind k key) || closes_kind Square (terminal_kind k key))
    || closes_kind Curly (terminal_kind k key))
    ≡ false →
    Steps b k key s l o d (FlowMappingFrame true Done ∷ FlowSequenceFrame false ∷ fs)
unfolding end_node
made_done_steps b (lexemes.Directive directive) key s l o d fs h e = refl
made_done_steps b lexemes.DocumentStart key s l o d fs h e = refl
made_done_steps b lexemes.DocumentEnd key s l o d fs h e = refl
made_done_steps b lexemes.StreamEnd key s l o d fs h e = refl
made_done_steps b lexemes.Comma key s l o d fs h e = cc (e)
made_done_steps b (lexemes.Close brackets.Square) key s l o d fs h e = cc (e)
made_done_steps b (lexemes.Close brackets.Curly) key s l o d fs h e = cc (e)
made_done_steps b lexemes.Dash key s l o d fs h e = refl
made_done_steps b lexemes.Question key s l o d fs h e = refl
made_done_steps b lexemes.Colon None s l o d fs h e = refl
made_done_steps b lexemes.Colon (Some n) s l o d fs h e = refl
made_done_steps true (lexemes.Open brackets.Square) key s l o d fs h e = refl
made_done_steps false (lexemes.Open brackets.Square) key s l o d fs h e = refl
made_done_steps true (lexemes.Open brackets.Curly) key s l o d fs h e = refl
made_done_steps false (lexemes.Open brackets.Curly) key s l o d fs h e = refl
made_done_steps true (lexemes.Alias name) key s l o d fs h e = refl
made_done_steps false (lexemes.Alias name) key s l o d fs h e = refl
made_done_steps true (lexemes.Anchor name) key s l o d fs h e = refl
made_done_steps false (lexemes.Anchor name) key s l o d fs h e = refl
made_done_steps true (lexemes.Tag handle suffix) key s l o d fs h e = refl
made_done_steps false (lexemes.Tag handle suffix) key s l o d fs h e = refl
made_done_steps true (lexemes.Scalar style text) key s l o d fs h e = refl
made_done_steps false (lexemes.Scalar style text) key s l o d fs h e = refl

pub square_asked_steps :
    (b : Bool) (k : lexemes.LexemeKind) (key : Option KeyStart) (s : Scope) (l : lexemes.Lexeme) (o : OptionsData)
    (d : Beside) (fs : List OpenFrame) →
    Holes fs → not (is_bare_kind (terminal_kind k key)) ≡ false →
    Steps b k key s l o d (FlowPairFrame AskDone ∷ FlowSequenceFrame false ∷ fs)
unfolding end_node
square_asked_steps b (lexemes.Directive directive) key s l o d fs h e = cc (e)
square_asked_steps b lexemes.DocumentStart key s l o d fs h e = cc (e)
square_asked_steps b lexemes.DocumentEnd key s l o d fs h e = cc (e)
square_asked_steps b lexemes.StreamEnd key s l o d fs h e = cc (e)
square_asked_steps b lexemes.Comma key s l o d fs h e = cc (e)
square_asked_steps b (lexemes.Close brackets.Square) key s l o d fs h e = cc (e)
square_asked_steps b (lexemes.Close brackets.Curly) key s l o d fs h e = cc (e)
square_asked_steps b lexemes.Dash key s l o d fs h e = cc (e)
square_asked_steps b lexemes.Question key s l o d fs h e = cc (e)
square_asked_steps b lexemes.Colon None s l o d fs h e = (d.last, refl)
square_asked_steps b lexemes.Colon (Some n) s l o d fs h e = cc (e)
square_asked_steps true (lexemes.Open brackets.Square) key s l o d fs h e = cc (e)
square_asked_steps false (lexemes.Open brackets.Square) key s l o d fs h e = cc (e)
square_asked_steps true (lexemes.Open brackets.Curly) key s l o d fs h e = cc (e)
square_asked_steps false (lexemes.Open brackets.Curly) key s l o d fs h e = cc (e)
square_asked_steps true (lexemes.Alias name) key s l o d fs h e = cc (e)
square_asked_steps false (lexemes.Alias name) key s l o d fs h e = cc (e)
square_asked_steps true (lexemes.Anchor name) key s l o d fs h e = cc (e)
square_asked_steps false (lexemes.Anchor name) key s l o d fs h e = cc (e)
square_asked_steps true (lexemes.Tag handle suffix) key s l o d fs h e = cc (e)
square_asked_steps false (lexemes.Tag handle suffix) key s l o d fs h e = cc (e)
square_asked_steps true (lexemes.Scalar style text) key s l o d fs h e = cc (e)
square_asked_steps false (lexemes.Scalar style text) key s l o d fs h e = cc (e)

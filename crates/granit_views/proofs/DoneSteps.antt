-- Steps behind a finished entry, key or pair: no node begins.
use Rattle.granit_views.specs.Good.{Holes}
use Rattle.granit_views.specs.Steps.{Steps}
use Rattle.granit_views.specs.View.{Beside}
use Rattle.granit_event_machine.specs.EventMachine.{KeyDone, AskDone, Solo, Done, OpenFrame, MappingFrame}
use Rattle.granit_event_machine.specs.EventMachine.{FlowSequenceFrame}
use Rattle.granit_event_machine.specs.EventMachine.{FlowMappingFrame}
use Rattle.granit_language.specs.Scope.{Scope}
use Rattle.granit_lexemes.specs.Lexeme.{KeyStart}
use Rattle.granit_machine.specs.Giving.{null_at}
use Rattle.granit_machine.specs.NodeEnds.{end_node}
use Rattle.std.proofs.Common.{ℕ, Bool, true, false, List, [], ◌∷◌, ◌++◌, refl, Option, Some, None}
use Rattle.granit_error.specs.OptionsData.{OptionsData}
use Rattle.granit_lexemes.specs.Lexeme as lexemes
use Rattle.granit_lexemes.specs.PlainEvent as plain
use Rattle.granit_lexemes.specs.PlainEvent.{PlainEvent, event_at}
use Rattle.granit_views.proofs.Standing.{finish_view}
use Rattle.granit_lexemes.specs.declared.layout.Bracket.TheVariants as brackets

pub item_done_steps :
    (b : Bool) (k : lexemes.LexemeKind) (key : Option KeyStart) (s : Scope) (l : lexemes.Lexeme) (o : OptionsData)
    (d : Beside) (fs : List OpenFrame) →
    Holes fs → Steps b k key s l o d (FlowSequenceFrame true ∷ fs)
unfolding end_node
item_done_steps b (lexemes.Directive directive) key s l o d fs h = refl
item_done_steps b lexemes.DocumentStart key s l o d fs h = refl
item_done_steps b lexemes.DocumentEnd key s l o d fs h = refl
item_done_steps b lexemes.StreamEnd key s l o d fs h = refl
item_done_steps b lexemes.Comma key s l o d fs h = (d.last, refl)
item_done_steps b (lexemes.Close brackets.Square) key s l o d fs h = (
  l.shown.end,
  finish_view o fs l.shown.end
      (d.given ++ event_at plain.SequenceEnd (record { start = l.start; end = l.shown.end }) ∷ []) d h,
)
item_done_steps b (lexemes.Close brackets.Curly) key s l o d fs h = refl
item_done_steps b lexemes.Dash key s l o d fs h = refl
item_done_steps b lexemes.Question key s l o d fs h = refl
item_done_steps b lexemes.Colon None s l o d fs h = refl
item_done_steps b lexemes.Colon (Some n) s l o d fs h = refl
item_done_steps true (lexemes.Open brackets.Square) key s l o d fs h = refl
item_done_steps false (lexemes.Open brackets.Square) key s l o d fs h = refl
item_done_steps true (lexemes.Open brackets.Curly) key s l o d fs h = refl
item_done_steps false (lexemes.Open brackets.Curly) key s l o d fs h = refl
item_done_steps true (lexemes.Alias name) key s l o d fs h = refl
item_done_steps false (lexemes.Alias name) key s l o d fs h = refl
item_done_steps true (lexemes.Anchor name) key s l o d fs h = refl
item_done_steps false (lexemes.Anchor name) key s l o d fs h = refl
item_done_steps true (lexemes.Tag handle suffix) key s l o d fs h = refl
item_done_steps false (lexemes.Tag handle suffix) key s l o d fs h = refl
item_done_steps true (lexemes.Scalar style text) key s l o d fs h = refl
item_done_steps false (lexemes.Scalar style text) key s l o d fs h = refl

pub curly_key_steps :
    (b : Bool) (k : lexemes.LexemeKind) (key : Option KeyStart) (s : Scope) (l : lexemes.Lexeme) (o : OptionsData)
    (d : Beside) (fs : List OpenFrame) →
    Holes fs → Steps b k key s l o d (FlowMappingFrame false KeyDone ∷ fs)
unfolding end_node
curly_key_steps b (lexemes.Directive directive) key s l o d fs h = refl
curly_key_steps b lexemes.DocumentStart key s l o d fs h = refl
curly_key_steps b lexemes.DocumentEnd key s l o d fs h = refl
curly_key_steps b lexemes.StreamEnd key s l o d fs h = refl
curly_key_steps b lexemes.Comma key s l o d fs h = refl
curly_key_steps b (lexemes.Close brackets.Square) key s l o d fs h = refl
curly_key_steps b (lexemes.Close brackets.Curly) key s l o d fs h = refl
curly_key_steps b lexemes.Dash key s l o d fs h = refl
curly_key_steps b lexemes.Question key s l o d fs h = refl
curly_key_steps b lexemes.Colon None s l o d fs h = refl
curly_key_steps b lexemes.Colon (Some n) s l o d fs h = (d.last, refl)
curly_key_steps true (lexemes.Open brackets.Square) key s l o d fs h = refl
curly_key_steps false (lexemes.Open brackets.Square) key s l o d fs h = refl
curly_key_steps true (lexemes.Open brackets.Curly) key s l o d fs h = refl
curly_key_steps false (lexemes.Open brackets.Curly) key s l o d fs h = refl
curly_key_steps true (lexemes.Alias name) key s l o d fs h = refl
curly_key_steps false (lexemes.Alias name) key s l o d fs h = refl
curly_key_steps true (lexemes.Anchor name) key s l o d fs h = refl
curly_key_steps false (lexemes.Anchor name) key s l o d fs h = refl
curly_key_steps true (lexemes.Tag handle suffix) key s l o d fs h = refl
curly_key_steps false (lexemes.Tag handle suffix) key s l o d fs h = refl
curly_key_steps true (lexemes.Scalar style text) key s l o d fs h = refl
curly_key_steps false (lexemes.Scalar style text) key s l o d fs h = refl

pub curly_done_steps :
    (b : Bool) (k : lexemes.LexemeKind) (key : Option KeyStart) (s : Scope) (l : lexemes.Lexeme) (o : OptionsData)
    (d : Beside) (fs : List OpenFrame) →
    Holes fs → Steps b k key s l o d (FlowMappingFrame false Done ∷ fs)
unfolding end_node
curly_done_steps b (lexemes.Directive directive) key s l o d fs h = refl
curly_done_steps b lexemes.DocumentStart key s l o d fs h = refl
curly_done_steps b lexemes.DocumentEnd key s l o d fs h = refl
curly_done_steps b lexemes.StreamEnd key s l o d fs h = refl
curly_done_steps b lexemes.Comma key s l o d fs h = (d.last, refl)
curly_done_steps b (lexemes.Close brackets.Square) key s l o d fs h = refl
curly_done_steps b (lexemes.Close brackets.Curly) key s l o d fs h = (
  l.shown.end,
  finish_view o fs l.shown.end
      (d.given ++ event_at plain.MappingEnd (record { start = l.start; end = l.shown.end }) ∷ []) d h,
)
curly_done_steps b lexemes.Dash key s l o d fs h = refl
curly_done_steps b lexemes.Question key s l o d fs h = refl
curly_done_steps b lexemes.Colon None s l o d fs h = refl
curly_done_steps b lexemes.Colon (Some n) s l o d fs h = refl
curly_done_steps true (lexemes.Open brackets.Square) key s l o d fs h = refl
curly_done_steps false (lexemes.Open brackets.Square) key s l o d fs h = refl
curly_done_steps true (lexemes.Open brackets.Curly) key s l o d fs h = refl
curly_done_steps false (lexemes.Open brackets.Curly) key s l o d fs h = refl
curly_done_steps true (lexemes.Alias name) key s l o d fs h = refl
curly_done_steps false (lexemes.Alias name) key s l o d fs h = refl
curly_done_steps true (lexemes.Anchor name) key s l o d fs h = refl
curly_done_steps false (lexemes.Anchor name) key s l o d fs h = refl
curly_done_steps true (lexemes.Tag handle suffix) key s l o d fs h = refl
curly_done_steps false (lexemes.Tag handle suffix) key s l o d fs h = refl
curly_done_steps true (lexemes.Scalar style text) key s l o d fs h = refl
curly_done_steps false (lexemes.Scalar style text) key s l o d fs h = refl

pub curly_solo_steps :
    (b : Bool) (k : lexemes.LexemeKind) (key : Option KeyStart) (s : Scope) (l : lexemes.Lexeme) (o : OptionsData)
    (d : Beside) (fs : List OpenFrame) →
    Holes fs → Steps b k key s l o d (FlowMappingFrame false Solo ∷ fs)
unfolding end_node
curly_solo_steps b (lexemes.Directive directive) key s l o d fs h = refl
curly_solo_steps b lexemes.DocumentStart key s l o d fs h = refl
curly_solo_steps b lexemes.DocumentEnd key s l o d fs h = refl
curly_solo_steps b lexemes.StreamEnd key s l o d fs h = refl
curly_solo_steps b lexemes.Comma key s l o d fs h = (l.start, refl)
curly_solo_steps b (lexemes.Close brackets.Square) key s l o d fs h = refl
curly_solo_steps b (lexemes.Close brackets.Curly) key s l o d fs h = (
  l.shown.end,
  finish_view o fs l.shown.end
      ((d.given ++ null_at l.start ∷ []) ++ event_at plain.MappingEnd (record { start = l.start; end = l.shown.end })
      ∷ [])
      d h,
)
curly_solo_steps b lexemes.Dash key s l o d fs h = refl
curly_solo_steps b lexemes.Question key s l o d fs h = refl
curly_solo_steps b lexemes.Colon None s l o d fs h = refl
curly_solo_steps b lexemes.Colon (Some n) s l o d fs h = refl
curly_solo_steps true (lexemes.Open brackets.Square) key s l o d fs h = refl
curly_solo_steps false (lexemes.Open brackets.Square) key s l o d fs h = refl
curly_solo_steps true (lexemes.Open brackets.Curly) key s l o d fs h = refl
curly_solo_steps false (lexemes.Open brackets.Curly) key s l o d fs h = refl
curly_solo_steps true (lexemes.Alias name) key s l o d fs h = refl
curly_solo_steps false (lexemes.Alias name) key s l o d fs h = refl
curly_solo_steps true (lexemes.Anchor name) key s l o d fs h = refl
curly_solo_steps false (lexemes.Anchor name) key s l o d fs h = refl
curly_solo_steps true (lexemes.Tag handle suffix) key s l o d fs h = refl
curly_solo_steps false (lexemes.Tag handle suffix) key s l o d fs h = refl
curly_solo_steps true (lexemes.Scalar style text) key s l o d fs h = refl
curly_solo_steps false (lexemes.Scalar style text) key s l o d fs h = refl

pub curly_asked_steps :
    (b : Bool) (k : lexemes.LexemeKind) (key : Option KeyStart) (s : Scope) (l : lexemes.Lexeme) (o : OptionsData)
    (d : Beside) (fs : List OpenFrame) →
    Holes fs → Steps b k key s l o d (FlowMappingFrame false AskDone ∷ fs)
unfolding end_node
curly_asked_steps b (lexemes.Directive directive) key s l o d fs h = refl
curly_asked_steps b lexemes.DocumentStart key s l o d fs h = refl
curly_asked_steps b lexemes.DocumentEnd key s l o d fs h = refl
curly_asked_steps b lexemes.StreamEnd key s l o d fs h = refl
curly_asked_steps b lexemes.Comma key s l o d fs h = (l.start, refl)
curly_asked_steps b (lexemes.Close brackets.Square) key s l o d fs h = refl
curly_asked_steps b (lexemes.Close brackets.Curly) key s l o d fs h = (
  l.shown.end,
  finish_view o fs l.shown.end
      ((d.given ++ null_at l.start ∷ []) ++ event_at plain.MappingEnd (record { start = l.start; end = l.shown.end })
      ∷ [])
      d h,
)
curly_asked_steps b lexemes.Dash key s l o d fs h = refl
curly_asked_steps b lexemes.Question key s l o d fs h = refl
curly_asked_steps b lexemes.Colon None s l o d fs h = (d.last, refl)
curly_asked_steps b lexemes.Colon (Some n) s l o d fs h = refl
curly_asked_steps true (lexemes.Open brackets.Square) key s l o d fs h = refl
curly_asked_steps false (lexemes.Open brackets.Square) key s l o d fs h = refl
curly_asked_steps true (lexemes.Open brackets.Curly) key s l o d fs h = refl
curly_asked_steps false (lexemes.Open brackets.Curly) key s l o d fs h = refl
curly_asked_steps true (lexemes.Alias name) key s l o d fs h = refl
curly_asked_steps false (lexemes.Alias name) key s l o d fs h = refl
curly_asked_steps true (lexemes.Anchor name) key s l o d fs h = refl
curly_asked_steps false (lexemes.Anchor name) key s l o d fs h = refl
curly_asked_steps true (lexemes.Tag handle suffix) key s l o d fs h = refl
curly_asked_steps false (lexemes.Tag handle suffix) key s l o d fs h = refl
curly_asked_steps true (lexemes.Scalar style text) key s l o d fs h = refl
curly_asked_steps false (lexemes.Scalar style text) key s l o d fs h = refl

pub made_key_steps :
    (b : Bool) (k : lexemes.LexemeKind) (key : Option KeyStart) (s : Scope) (l : lexemes.Lexeme) (o : OptionsData)
    (d : Beside) (fs : List OpenFrame) →
    Holes fs → Steps b k key s l o d (FlowMappingFrame true KeyDone ∷ FlowSequenceFrame false ∷ fs)
unfolding end_node
made_key_steps b (lexemes.Directive directive) key s l o d fs h = refl
made_key_steps b lexemes.DocumentStart key s l o d fs h = refl
made_key_steps b lexemes.DocumentEnd key s l o d fs h = refl
made_key_steps b lexemes.StreamEnd key s l o d fs h = refl
made_key_steps b lexemes.Comma key s l o d fs h = refl
made_key_steps b (lexemes.Close brackets.Square) key s l o d fs h = refl
made_key_steps b (lexemes.Close brackets.Curly) key s l o d fs h = refl
made_key_steps b lexemes.Dash key s l o d fs h = refl
made_key_steps b lexemes.Question key s l o d fs h = refl
made_key_steps b lexemes.Colon None s l o d fs h = refl
made_key_steps b lexemes.Colon (Some n) s l o d fs h = (d.last, refl)
made_key_steps true (lexemes.Open brackets.Square) key s l o d fs h = refl
made_key_steps false (lexemes.Open brackets.Square) key s l o d fs h = refl
made_key_steps true (lexemes.Open brackets.Curly) key s l o d fs h = refl
made_key_steps false (lexemes.Open brackets.Curly) key s l o d fs h = refl
made_key_steps true (lexemes.Alias name) key s l o d fs h = refl
made_key_steps false (lexemes.Alias name) key s l o d fs h = refl
made_key_steps true (lexemes.Anchor name) key s l o d fs h = refl
made_key_steps false (lexemes.Anchor name) key s l o d fs h = refl
made_key_steps true (lexemes.Tag handle suffix) key s l o d fs h = refl
made_key_steps false (lexemes.Tag handle suffix) key s l o d fs h = refl
made_key_steps true (lexemes.Scalar style text) key s l o d fs h = refl
made_key_steps false (lexemes.Scalar style text) key s l o d fs h = refl

pub key_done_steps :
    (c : ℕ) (b : Bool) (k : lexemes.LexemeKind) (key : Option KeyStart) (s : Scope) (l : lexemes.Lexeme)
    (o : OptionsData) (d : Beside) (fs : List OpenFrame) →
    Holes fs → Steps b k key s l o d (MappingFrame c KeyDone ∷ fs)
unfolding end_node
key_done_steps c b (lexemes.Directive directive) key s l o d fs h = refl
key_done_steps c b lexemes.DocumentStart key s l o d fs h = refl
key_done_steps c b lexemes.DocumentEnd key s l o d fs h = refl
key_done_steps c b lexemes.StreamEnd key s l o d fs h = refl
key_done_steps c b lexemes.Comma key s l o d fs h = refl
key_done_steps c b (lexemes.Close brackets.Square) key s l o d fs h = refl
key_done_steps c b (lexemes.Close brackets.Curly) key s l o d fs h = refl
key_done_steps c b lexemes.Dash key s l o d fs h = refl
key_done_steps c b lexemes.Question key s l o d fs h = refl
key_done_steps c b lexemes.Colon None s l o d fs h = refl
key_done_steps c b lexemes.Colon (Some n) s l o d fs h = (d.last, refl)
key_done_steps c true (lexemes.Open brackets.Square) key s l o d fs h = refl
key_done_steps c false (lexemes.Open brackets.Square) key s l o d fs h = refl
key_done_steps c true (lexemes.Open brackets.Curly) key s l o d fs h = refl
key_done_steps c false (lexemes.Open brackets.Curly) key s l o d fs h = refl
key_done_steps c true (lexemes.Alias name) key s l o d fs h = refl
key_done_steps c false (lexemes.Alias name) key s l o d fs h = refl
key_done_steps c true (lexemes.Anchor name) key s l o d fs h = refl
key_done_steps c false (lexemes.Anchor name) key s l o d fs h = refl
key_done_steps c true (lexemes.Tag handle suffix) key s l o d fs h = refl
key_done_steps c false (lexemes.Tag handle suffix) key s l o d fs h = refl
key_done_steps c true (lexemes.Scalar style text) key s l o d fs h = refl
key_done_steps c false (lexemes.Scalar style text) key s l o d fs h = refl

-- Whether the lexemes of a text, as the reader gives them, are fair.
use Rattle.std.specs.Prelude.{ℕ, Bool, true, false, ◌&&◌, List, [], ◌∷◌, Result, Ok, Err}
use Rattle.granit_error.specs.OptionsData.{OptionsData}
use Rattle.granit_lexemes.specs.Here.{start_of}
use Rattle.granit_lexemes.specs.Lexeme.{Item}
use Rattle.granit_lexemes.specs.Outcome.{Fault}
use Rattle.granit_language.specs.Scope.{no_scope}
use Rattle.granit_event_machine.specs.EventMachine.{IsFresh}
use Rattle.granit_machine.specs.Lexing.{lex}
use Rattle.granit_machine.specs.Reader.{LexState}
use Rattle.granit_agreement.specs.FairTest.{fair_run}
use Rattle.granit_language.specs.Seen.{read_lexemes}

abbrev pub fair_read : Result (List Item × LexState) Fault → Bool
fair_read (Ok x) = fair_run (read_lexemes x.0) no_scope IsFresh
fair_read (Err f) = false

abbrev pub fair_text : OptionsData → List ℕ → Bool
fair_text o text = fair_read (lex o (start_of text))

abbrev pub all_fair : OptionsData → List (List ℕ) → Bool
all_fair o [] = true
all_fair o (text ∷ texts) = fair_text o text && all_fair o texts

-- Neither reading nor feeding looks at whether comments are asked for.
use Rattle.std.proofs.Common.{◌≡◌, ℕ, Bool, List, [], ◌∷◌, Option, None, Result, Ok, refl, ap, ◌∙◌}
use Rattle.std.specs.Prelude.{if◌then◌else◌}
use Rattle.granit_error.specs.OptionsData.{OptionsData}
use Rattle.granit_lexemes.specs.Here.{Here}
use Rattle.granit_lexemes.specs.Outcome.{Fault, ◌>>=◌}
use Rattle.granit_lexemes.specs.Pieces.{with_front, pieces}
use Rattle.granit_lexemes.specs.PlainEvent.{PlainEvent}
use Rattle.granit_machine.specs.BlockSteps.{in_sequence, behind_indicator}
use Rattle.granit_lexemes.specs.Directive.{parameter_behind, directive_of, directive_at, directive}
use Rattle.granit_machine.specs.Columns.{refuse_column}
use Rattle.granit_machine.specs.PossibleKeys.{is_stale}
use Rattle.granit_machine.specs.Closing.{goes_on_with, close_turn}
use Rattle.granit_machine.specs.FlowLexemes.{opener}
use Rattle.granit_machine.specs.Frames.{ParserState}
use Rattle.granit_machine.specs.Gaps.{refuse_tab_at, ready_gap, gap_ends}
use Rattle.granit_machine.specs.Giving.{node_event}
use Rattle.granit_machine.specs.IndicatorLexemes.{dash, question_up_to, question_by, question, keyed_colon, bare_colon}
use Rattle.granit_machine.specs.IndicatorLexemes.{colon}
use Rattle.granit_machine.specs.Lexing.{FlaggedItem, lex, lex_start}
use Rattle.granit_machine.specs.Machine.{feed_all}
use Rattle.granit_machine.specs.NodeEnds.{end_node, end_properties, begin_block}
use Rattle.granit_machine.specs.NodeSteps.{take_dash}
use Rattle.granit_machine.specs.Parser.{next_line, feed}
use Rattle.granit_machine.specs.Reader.{LexState, LexTurn, behind_read, lexeme_of, is_strict_outside, lexeme_in_column}
use Rattle.granit_machine.specs.Reader.{lexeme_by, lex_turn, lex_len, read}
use Rattle.granit_machine.specs.ReaderState.{ReaderState, Read}
use Rattle.granit_quiet.specs.Quiet.{asking}

pub feed_same : (b : Bool) (o : OptionsData) (i : FlaggedItem) (next : Option ℕ) (p : ParserState)
    → feed (asking b o) i next p ≡ feed o i next p
unfolding feed close_turn begin_block take_dash in_sequence behind_indicator node_event end_properties end_node
    goes_on_with
feed_same b o i next p = refl

feeds_same : (b : Bool) (o : OptionsData) (is : List FlaggedItem) (x : List PlainEvent × ParserState)
    → feed_all (asking b o) is x.1 ≡ feed_all o is x.1
    → with_front x.0 (feed_all (asking b o) is x.1) ≡ with_front x.0 (feed_all o is x.1)
feeds_same b o is x e = ap (λ r. with_front x.0 r) e

pub feed_all_same : (b : Bool) (o : OptionsData) (is : List FlaggedItem) (p : ParserState)
    → feed_all (asking b o) is p ≡ feed_all o is p
feed_all_same b o [] p = refl
feed_all_same b o (i ∷ is) p =
    let r = next_line is in
    ap (λ (f : Result (List PlainEvent × ParserState) Fault). f >>= λ x. with_front x.0 (feed_all (asking b o) is x.1))
    (feed_same b o i r p)
    ∙ ap (λ (g : ParserState → Result (List PlainEvent × ParserState) Fault). feed o i r p >>= λ x. with_front x.0
    (g x.1)) (λ k q. feed_all_same b o is q k)

pub read_same : (b : Bool) (o : OptionsData) (s : ReaderState) → read (asking b o) s ≡ read o s
unfolding read refuse_tab_at ready_gap gap_ends is_stale lexeme_by lexeme_in_column lexeme_of is_strict_outside
    refuse_column opener dash question_up_to question_by question keyed_colon bare_colon colon directive directive_at
    directive_of parameter_behind
read_same b o s = refl

turn_same : (b : Bool) (o : OptionsData) (s : LexState) → lex_turn (asking b o) s ≡ lex_turn o s
unfolding lex_turn
turn_same b o s = ap (λ (r : ReaderState → Read). if s.ended then Ok (None, s) else behind_read (r s.reader) s.reader)
    (λ k t. read_same b o t k)

pub lex_same : (b : Bool) (o : OptionsData) (h : Here) → lex (asking b o) h ≡ lex o h
lex_same b o h = ap (λ (turn : LexState → LexTurn). pieces lex_len turn (lex_start h)) (λ k s. turn_same b o s k)

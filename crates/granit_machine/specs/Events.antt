-- The printed lines of events with their indents and tags, for the worked rows.
use Rattle.std.specs.Prelude.{ℕ, ◌+◌, List, [], ◌++◌, codes, Option, Some, None, Result, Ok, Err}
use Rattle.std.specs.List.{flat_map}
use Rattle.granit_base.specs.Place.{Mark, Place}
use Rattle.granit_error.specs.OptionsData.{OptionsData, default_options}
use Rattle.granit_lexemes.specs.Line.{in_quotes, place_line, event_words, answer_lines}
use Rattle.granit_lexemes.specs.Outcome.{Fault}
use Rattle.granit_lexemes.specs.PlainEvent.{PlainEvent, PlainTag, EventKind, Scalar, SequenceStart, MappingStart}
use Rattle.granit_machine.specs.Items.{fault_end, indent_words}
use Rattle.granit_machine.specs.Machine.{run}

abbrev pub moved : ℕ → Place → Place
moved n p = record { index = p.index + n; line = p.line; column = p.column + n }

abbrev pub tag_span_words : Option Mark → ℕ → List ℕ
tag_span_words None n = []
tag_span_words (Some m) n =
    (codes " tagstart=" ++ place_line m.place)
    ++ ((codes " tag=" ++ place_line m.place) ++ (codes "-" ++ place_line (moved n m.place)))

abbrev pub tag_of_kind : EventKind → Option PlainTag
tag_of_kind (Scalar text style anchor tag) = tag
tag_of_kind (SequenceStart style anchor tag) = tag
tag_of_kind (MappingStart style anchor tag) = tag
tag_of_kind kind = None

abbrev pub original_words : Option PlainTag → List ℕ
original_words None = []
original_words (Some t) = codes " original=" ++ in_quotes t.original_handle

unfoldable pub wide_line : PlainEvent → List ℕ
wide_line e =
    (((event_words e.kind ++ codes " ") ++ (place_line e.span.start.place ++ codes "-")) ++ place_line e.span.end.place)
    ++ ((indent_words e.span.indent ++ tag_span_words e.span.tag_start e.span.tag_length)
    ++ (original_words (tag_of_kind e.kind) ++ codes "\n"))

abbrev pub run_lines : Result (List PlainEvent) Fault → List ℕ
run_lines (Ok events) = flat_map wide_line events
run_lines (Err f) = fault_end (Some f)

-- what is printed for a text under some options
abbrev pub tells_under : OptionsData → List ℕ → List ℕ
tells_under o text = run_lines (run o text)

abbrev pub tells : List ℕ → List ℕ
tells text = tells_under default_options text

-- what is printed of a text in the lines of the program
abbrev pub prints_under : OptionsData → List ℕ → List ℕ
prints_under o text = answer_lines (run o text)

abbrev pub prints : List ℕ → List ℕ
prints text = prints_under default_options text

-- Words of the worked examples.
pub use Rattle.granit_machine.specs.ExampleOptions.{no_directives as directives_refused}
use Rattle.std.specs.Prelude.{ℕ, Bool, List, take, Option, Result, Ok, Err}
use Rattle.std.specs.Option.{option_map}
use Rattle.granit_error.specs.FaultKind.{FaultKind}
use Rattle.granit_error.specs.OptionsData.{OptionsData, default_options}
use Rattle.granit_lexemes.specs.Comment.{CommentRead}
use Rattle.granit_lexemes.specs.Here.{Here, start_of}
use Rattle.granit_lexemes.specs.Outcome.{Fault, ◌>>=◌}
use Rattle.granit_lexemes.specs.PlainExtent.{over}
use Rattle.granit_lexemes.specs.Directive.{DirectiveRead, directive_at, directive}
use Rattle.granit_lexemes.specs.Lexeme.{DirectiveKind}
use Rattle.granit_lexemes.specs.Tags.{TagRead, name_at, tag_at}

-- what is read and the index behind it, or what is refused and the index where
abbrev pub outcome_told : {X : Type 0} → Result (X × Here) Fault → Result (X × ℕ) (FaultKind × ℕ)
outcome_told (Ok (x, after)) = Ok (x, after.place.index)
outcome_told (Err f) = Err (f.kind, f.mark.place.index)

-- an index of a text
abbrev pub at_index : List ℕ → ℕ → Here
at_index text index = over (take index text) (start_of text)

abbrev pub tag_seen : Bool → List ℕ → ℕ → Result (TagRead × ℕ) (FaultKind × ℕ)
tag_seen in_flow text index = outcome_told (tag_at in_flow (at_index text index))

abbrev pub name_seen : List ℕ → ℕ → Result (List ℕ × ℕ) (FaultKind × ℕ)
name_seen text index = outcome_told (name_at (at_index text index) >>= λ x. Ok (x.0.characters, x.1))

abbrev pub directive_seen : OptionsData → List ℕ → Result (DirectiveKind × ℕ) (FaultKind × ℕ)
directive_seen o text = outcome_told (directive_at o (start_of text))

-- options with other limits
abbrev pub few_bytes : ℕ → OptionsData
few_bytes n = record default_options { max_directive_bytes = n }

abbrev pub few_words : ℕ → OptionsData
few_words n = record default_options { max_reserved_directive_params = n }

-- a directive, the index behind it, the text of the comment behind it, and the index where reading then stands
abbrev pub line_read : Result (DirectiveRead × Here) Fault
    → Result (DirectiveKind × ℕ × Option (List ℕ) × ℕ) (FaultKind × ℕ)
line_read (Ok (read, after)) =
    let noted = option_map (λ (c : CommentRead). c.text.characters) read.noted in
    Ok (read.kind, read.source.end.place.index, noted, after.place.index)
line_read (Err f) = Err (f.kind, f.mark.place.index)

abbrev pub line_seen : OptionsData → List ℕ → Result (DirectiveKind × ℕ × Option (List ℕ) × ℕ) (FaultKind × ℕ)
line_seen o text = line_read (directive o (start_of text))

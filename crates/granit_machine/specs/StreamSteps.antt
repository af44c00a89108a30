-- A lexeme around documents (YAML 1.2.2, chapter 9).
use Rattle.std.specs.Prelude.{ℕ, Bool, true, false, ◌==◌, if◌then◌else◌, List, [], ◌∷◌, Option, Some, None, Ok}
use Rattle.granit_error.specs.FaultKind.{ExpectedDocumentStart, MissingDocumentEndBeforeDirective}
use Rattle.granit_error.specs.FaultKind.{DuplicateVersionDirective, UnsupportedYamlMajorVersion, DuplicateTagDirective}
use Rattle.granit_error.specs.FaultKind.{UnexpectedEofBlockSequence}
use Rattle.granit_error.specs.OptionsData.{OptionsData}
use Rattle.granit_lexemes.specs.Source.{Source}
use Rattle.granit_lexemes.specs.PlainEvent.{PlainEvent, PlainVersion, event_at, StreamEnd, DocumentStart, DocumentEnd}
use Rattle.granit_machine.specs.Closing.{token_start}
use Rattle.granit_machine.specs.Entries.{lookup_text, remembered}
use Rattle.granit_machine.specs.Frames.{Root, DocumentStage, Fresh, Directives, Inside, BehindRoot, Between}
use Rattle.granit_machine.specs.Frames.{ParserState}
use Rattle.granit_machine.specs.Giving.{with_indent, flush, give}
use Rattle.granit_lexemes.specs.Lexeme as lexemes
use Rattle.granit_lexemes.specs.Lexeme.{DirectiveKind, Version, TagPrefix, Reserved, LexemeKind}
use Rattle.granit_machine.specs.NodeEnds.{empty_span}
use Rattle.granit_machine.specs.NodeSteps.{Stepped, misplaced, node}
use Rattle.granit_machine.specs.TokenSort.{TokenSort, BeginsNode, Token, begins_node}

abbrev pub at_root : OptionsData → Token → ParserState → Stepped
at_root o t p = if begins_node t.sort then node o t p else misplaced UnexpectedEofBlockSequence t

abbrev pub with_version : Token → Option PlainVersion → ℕ → ℕ → ParserState → Stepped
with_version t (Some v) major minor p = misplaced DuplicateVersionDirective t
with_version t None major minor p =
    if major == 1 then Ok (record p { stage = Directives (Some (record { major = major; minor = minor })) })
    else misplaced UnsupportedYamlMajorVersion t

-- a handle of the document, which may stay over documents
abbrev pub declared : Bool → List ℕ → List ℕ → ParserState → ParserState
declared stays handle prefix p = record p {
  handles = remembered handle prefix p.handles;
  kept = if stays then remembered handle prefix p.kept else p.kept;
}

abbrev pub with_handle :
    OptionsData → Token → Option PlainVersion → List ℕ → List ℕ → Option (List ℕ) → ParserState → Stepped
with_handle o t version handle prefix (Some known) p = misplaced DuplicateTagDirective t
with_handle o t version handle prefix None p =
    Ok (record (declared o.keep_tags handle prefix p) { stage = Directives version })

abbrev pub open_document : Token → Option PlainVersion → ParserState → Stepped
open_document t version p =
    let q = give (event_at (DocumentStart true version) t.lexeme.shown) (record p { names = []; stage = Inside }) in
    Ok (record q { frames = Root true ∷ q.frames })

abbrev pub with_directive : OptionsData → Token → DirectiveKind → Option PlainVersion → ParserState → Stepped
with_directive o t (Version major minor) version p = with_version t version major minor p
with_directive o t (TagPrefix handle prefix) version p =
    with_handle o t version handle prefix (lookup_text handle p.handles) p
with_directive o t (Reserved name parameters) version p = Ok (record p { stage = Directives version })

-- behind directives: another, or `---`
abbrev pub behind_directives : OptionsData → LexemeKind → Token → Option PlainVersion → ParserState → Stepped
behind_directives o (lexemes.Directive d) t version p = with_directive o t d version p
behind_directives o lexemes.DocumentStart t version p = open_document t version p
behind_directives o kind t version p = misplaced ExpectedDocumentStart t

-- the span of a document's start without `---`: the first lexeme's, unless a block collection begins with it
abbrev pub bare_start : TokenSort → Token → PlainEvent
bare_start BeginsNode t = with_indent t.lexeme.indent (event_at (DocumentStart false None) t.lexeme.shown)
bare_start sort t = event_at (DocumentStart false None) (token_start t)

abbrev pub begin_document : OptionsData → Token → ParserState → Stepped
begin_document o t p =
    if begins_node t.sort then
    (let q = give (bare_start t.sort t) (record p { names = []; handles = []; stage = Inside }) in
    node o t (record q { frames = Root false ∷ q.frames }))
    else misplaced UnexpectedEofBlockSequence t

abbrev pub without_directives : ParserState → ParserState
without_directives p = record p { handles = []; names = [] }

abbrev pub when_fresh : OptionsData → LexemeKind → Token → ParserState → Stepped
when_fresh o lexemes.DocumentEnd t p = Ok (flush p)
when_fresh o lexemes.StreamEnd t p = Ok (give (event_at StreamEnd t.lexeme.shown) p)
when_fresh o (lexemes.Directive d) t p = with_directive o t d None (without_directives p)
when_fresh o lexemes.DocumentStart t p = open_document t None (record p { handles = [] })
when_fresh o kind t p = begin_document o t p

abbrev pub when_between : LexemeKind → Token → ParserState → Stepped
when_between (lexemes.Directive d) t p = misplaced MissingDocumentEndBeforeDirective t
when_between lexemes.DocumentStart t p = open_document t None (record p { handles = [] })
when_between lexemes.StreamEnd t p = Ok (give (event_at StreamEnd t.lexeme.shown) p)
when_between kind t p = misplaced ExpectedDocumentStart t

-- the end of a document
abbrev pub end_document : Source → DocumentStage → ParserState → ParserState
end_document source stage p = let q = give (event_at DocumentEnd source) p in record q { handles = []; stage = stage }

abbrev pub behind_root : LexemeKind → Token → ParserState → Stepped
behind_root lexemes.DocumentEnd t p = Ok (end_document t.lexeme.shown Fresh p)
behind_root kind t p = when_between kind t (end_document (empty_span p.last_end) Between p)

abbrev pub outside : OptionsData → DocumentStage → Token → ParserState → Stepped
outside o Fresh t p = when_fresh o t.lexeme.kind t p
outside o (Directives version) t p = behind_directives o t.lexeme.kind t version p
outside o BehindRoot t p = behind_root t.lexeme.kind t p
outside o Between t p = when_between t.lexeme.kind t p
outside o Inside t p = misplaced ExpectedDocumentStart t

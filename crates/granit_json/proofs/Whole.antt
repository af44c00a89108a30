-- A whole JSON text is read as its value.
use Rattle.granit_lexemes.specs.Lexeme as lexemes
use Rattle.granit_lexemes.specs.PlainEvent as plain
use Rattle.std.proofs.Common.{List, [], ap, ap₂, arith, false, refl, subst, sym, true, ℕ}
use Rattle.std.proofs.Common.{◌++◌, ◌∙◌, ◌∷◌, ◌≡◌, ◌≤◌}
use Rattle.std.specs.Prelude.{None}
use Rattle.granit_base.specs.Classes.{is_printable}
use Rattle.granit_base.specs.Place.{Mark}
use Rattle.granit_canonical_steps.proofs.Calm.{Calm, calm_start}
use Rattle.granit_canonical_steps.proofs.Marks.{takes_end}
use Rattle.granit_canonical_steps.proofs.Passing.{means_append, plain_root}
use Rattle.granit_canonical_steps.proofs.Places.{Before, Held, starts_end, starts_held}
use Rattle.granit_canonical_steps.proofs.Taking.{Taken, reads_one}
use Rattle.granit_canonical_steps.specs.Canonical.{spot}
use Rattle.granit_error.specs.OptionsData.{OptionsData}
use Rattle.granit_json_scalars.proofs.Gaps.{at_end, whites_gap}
use Rattle.granit_json.proofs.Nodes.{NodeRead}
use Rattle.granit_json_scalars.proofs.Passing.{Flags, items_of, lexed_flags, lexed_whole, seen, seen_append}
use Rattle.granit_json_scalars.proofs.Passing.{terminals_are}
use Rattle.granit_json.proofs.Values.{value_read}
use Rattle.granit_json_scalars.specs.Json.{Json, json_depth}
use Rattle.granit_json_scalars.specs.JsonEvents.{first_source, json_events, value_events}
use Rattle.granit_json_scalars.specs.JsonText.{JsonText, NamesFit, part}
use Rattle.granit_language.proofs.Scopes.{scoped_append}
use Rattle.granit_language.specs.Node.{BareRoot, Beginning, EndRooted}
use Rattle.granit_language.specs.Reached.{ReadWhole}
use Rattle.granit_language.specs.Scope.{Scope, no_scope}
use Rattle.granit_language.specs.Scoping.{Means, scope_behind, scoped}
use Rattle.granit_language.specs.Seen.{Flagged, at_of, terminal_kind, terminal_of, terminals_of}
use Rattle.granit_language.specs.Telling.{events_told}
use Rattle.granit_language.specs.Terminal.{Terminal, TerminalKind, TheEnd, terminal, text_start}
use Rattle.granit_language.specs.TreeEvents.{DocumentEnds, StreamEnds, TreeEvent, node_end, node_events, pointed}
use Rattle.granit_language.specs.TreeEvents.{shown_event, stream_events}
use Rattle.granit_language.specs.Whole.{WholeReading}
use Rattle.granit_lexemes.specs.Gap.{Each, IsGap}
use Rattle.granit_lexemes.specs.Here.{start_of}
use Rattle.granit_lexemes.specs.PlainEvent.{PlainEvent, event_at, event_on}
use Rattle.granit_lexemes.specs.Source.{Source}
use Rattle.granit_machine.specs.Laid.{is_opener}
use Rattle.granit_machine.specs.LexemeSort.{TextEnd}
use Rattle.granit_machine.specs.Reader.{is_end_kind}
use Rattle.granit_machine.specs.ReaderState.{ReaderState, reader_start}

-- the whole text, as it is read
pub record TextRead (o : OptionsData) (x : List ℕ) (es : List PlainEvent) : Type 0 where
  pub read : List Flagged
  pub state : ReaderState
  pub flags : Flags read
  pub whole : ReadWhole o (reader_start (start_of x)) (items_of read) true state
  pub tree_events : List TreeEvent
  pub reading : WholeReading o (terminals_of (items_of read)) tree_events
  pub told : events_told o tree_events ≡ es

ended_quietly : (o : OptionsData) (x : List ℕ) (y : ReaderState) → Held x y.here → y.here.unread.text ≡ []
    → Calm [] y.laid → is_opener y.laid.last ≡ false
    → Taken o x [] TextEnd lexemes.StreamEnd [] [] [] false y
ended_quietly o x y h e c f =
    subst (λ v. Taken o x [] TextEnd lexemes.StreamEnd [] [] [] v y) f (takes_end o x y h e c)

-- a node that is read up to the end
rooted_read : (o : OptionsData) (x : List ℕ) (tell : List PlainEvent → List PlainEvent) (source : Source) (end : Mark)
    → NodeRead o x [] [] (reader_start (start_of x)) tell source end
    → TextRead o x (event_on plain.StreamStart text_start ∷ event_at (plain.DocumentStart false None) source
    ∷ tell (event_on plain.DocumentEnd end ∷ event_on plain.StreamEnd (spot x []) ∷ []))
rooted_read o x tell source end n =
    let start = reader_start (start_of x) in
    let q = reads_one o x [] [] TextEnd lexemes.StreamEnd [] [] [] false n.after n.before n.calm starts_end
    (λ y h e c f. ended_quietly o x y h e c (f ∙ n.opener)) in
    let i = at_of false no_scope q.lexeme in
    let fs = n.passage.lexemes ++ (q.lexeme, false) ∷ [] in
    let flags = lexed_flags o start n.after n.passage.lexemes q.lexeme n.passage.lexed q.key_is q.tail_is in
    let e = terminal_of false no_scope q.lexeme in
    let same : terminal_kind q.lexeme.kind q.lexeme.key ≡ TheEnd = ap₂ terminal_kind q.kind_is q.key_is in
    let last : scoped (scope_behind (seen n.passage.lexemes) no_scope) (e ∷ []) ≡ terminal TheEnd i ∷ [] =
    ap₂ (λ (s : Scope) (k : TerminalKind). terminal k (record (at_of false no_scope q.lexeme) { scope = s }) ∷ [])
    n.passage.scope same in
    let spelled : scoped no_scope (terminals_of (items_of fs))
    ≡ scoped no_scope (seen n.passage.lexemes) ++ terminal TheEnd i ∷ [] =
    ap (scoped no_scope) (terminals_are fs flags ∙ seen_append n.passage.lexemes ((q.lexeme, false) ∷ []))
    ∙ scoped_append no_scope (seen n.passage.lexemes) (e ∷ [])
    ∙ ap (λ (xs : List Terminal). scoped no_scope (seen n.passage.lexemes) ++ xs) last in
    let stream = EndRooted (BareRoot Beginning n.node) i in
    record {
      read = fs;
      state = q.after;
      flags = flags;
      whole = lexed_whole o start n.after q.after n.passage.lexemes q.lexeme n.passage.lexed q.reads
          (ap is_end_kind q.kind_is);
      tree_events = stream_events stream [];
      reading = record {
        stream = stream;
        spelled = n.passage.spelled (terminal TheEnd i ∷ []) ∙ sym spelled;
        placed = (tt, n.placed _ plain_root (terminal TheEnd i));
        within = n.within o.block_nesting_limit 0 true;
        means = subst (Means o) (sym spelled)
            (means_append o (scoped no_scope (seen n.passage.lexemes))
            (terminal TheEnd i ∷ []) n.passage.means (refl, tt));
        events_are = refl;
      };
      told =
          ap (λ (es : List PlainEvent). event_on plain.StreamStart text_start ∷ es)
          (n.starts (events_told o (node_events n.node None (pointed DocumentEnds (node_end n.node)
          ∷ shown_event StreamEnds i ∷ [])))
          ∙ ap (λ (es : List PlainEvent). event_at (plain.DocumentStart false None) source ∷ es)
          (n.told (pointed DocumentEnds (node_end n.node) ∷ shown_event StreamEnds i ∷ [])
          ∙ ap₂ (λ (m : Mark) (s : Source). tell (event_on plain.DocumentEnd m ∷ event_at plain.StreamEnd s ∷ []))
          n.ends q.shown_is));
    }

-- in front of the whole text stands the white space before its value
at_start : (x before value : List ℕ) → x ≡ before ++ value → IsGap before → Before x value (start_of x)
at_start x before value e i = record { gap = before; held = starts_held x; text = e; is_gap = i }

pub text_read : (o : OptionsData) (x : List ℕ) (t : Json) (d : JsonText x t) → Each is_printable x
    → json_depth t ≤ o.flow_nesting_limit → NamesFit o.simple_key_max_lookahead d → TextRead o x (json_events x d)
text_read o x t (part before value after w e v d) prints deep fit =
    rooted_read o x (value_events x d) (first_source x d) (spot x (after ++ []))
    (value_read o x prints d [] after [] (reader_start (start_of x)) (whites_gap after v) refl at_end
    (omega (arith, deep)) fit (at_start x before value e (whites_gap before w)) calm_start tt)

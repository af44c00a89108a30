-- Items whose places lie in the text are fed to events whose spans do.
use Rattle.std.proofs.Common.{ℕ, zero, suc, Bool, true, false, List, [], ◌∷◌, Option, Some, None, Result, Ok, Err}
use Rattle.std.specs.Prelude.{if◌then◌else◌}
use Rattle.granit_error.specs.OptionsData.{OptionsData}
use Rattle.granit_lexemes.specs.Comment.{CommentRead}
use Rattle.granit_lexemes.specs.Lexeme.{DirectiveKind, Version, TagPrefix, Reserved, LexemeKind, Lexeme, Item, OfLexeme}
use Rattle.granit_lexemes.specs.Lexeme.{OfComment}
use Rattle.granit_lexemes.specs.Lexeme as lexemes
use Rattle.granit_lexemes.specs.Outcome.{Fault, ◌>>=◌}
use Rattle.granit_lexemes.specs.Pieces.{with_front, then_more, turns, pieces}
use Rattle.granit_lexemes.specs.PlainEvent.{PlainEvent, PlainVersion, event_at}
use Rattle.granit_lexemes.specs.PlainEvent as events
use Rattle.granit_lexemes.specs.Source.{Source}
use Rattle.granit_machine.specs.Closing.{ends_top, token_start, end_top, close_turn, depth, close}
use Rattle.granit_machine.specs.Frames.{Frame, Root, WithProperties, BlockSequence, BlockMapping, FlowSequence}
use Rattle.granit_machine.specs.Frames.{FlowMapping, FlowPair, DocumentStage, Fresh, Directives, Inside, BehindRoot}
use Rattle.granit_machine.specs.Frames.{Between, Waiting, ParserState}
use Rattle.granit_machine.specs.Giving.{give}
use Rattle.granit_machine.specs.Lexing.{FlaggedItem}
use Rattle.granit_machine.specs.Machine.{feed_all}
use Rattle.granit_machine.specs.NodeEnds.{empty_span}
use Rattle.granit_machine.specs.NodeSteps.{Stepped}
use Rattle.granit_machine.specs.Entries.{lookup_text}
use Rattle.granit_machine.specs.Parser.{take_in, take_token, placed, hold, take_comment, take_tail, take_item}
use Rattle.granit_machine.specs.Parser.{next_line, feed}
use Rattle.granit_machine.specs.StreamSteps.{at_root, with_version, with_handle, open_document, with_directive}
use Rattle.granit_machine.specs.StreamSteps.{behind_directives, bare_start, begin_document, without_directives}
use Rattle.granit_machine.specs.StreamSteps.{when_fresh, when_between, end_document, behind_root, outside}
use Rattle.granit_machine.specs.TokenSort.{TokenSort, BeginsNode, Token, token_of}
use Rattle.granit_invariants.specs.EventPlaces.{SpanInText, SpansInText}
use Rattle.granit_invariants.proofs.SpanSteps.{SourceIn, FramesIn, WaitingIn, Sound, TailIn, LexemeIn, SoundStep, ok}
use Rattle.granit_invariants.proofs.SpanSteps.{no, step_if, step_then, empty_in, spans_joined, give_in, flush_in}
use Rattle.granit_invariants.proofs.SpanSteps.{null_in, framed, finish_sound, end_node_in, end_properties_in, node_in}
use Rattle.granit_invariants.proofs.SpanSteps.{in_sequence_in, in_mapping_in, flow_sequence_in, flow_mapping_in}
use Rattle.granit_invariants.proofs.SpanSteps.{flow_pair_in}

module _ (x ms : List ℕ) where
  abbrev StepIn : Stepped → Type 0
  StepIn r = SoundStep x ms r

  abbrev pub StateIn : ParserState → Type 0
  StateIn p = Sound x ms p

  event_in : (kind : events.EventKind) (s : Source) (p : ParserState) → SourceIn x ms s → StateIn p
      → StateIn (give (event_at kind s) p)
  event_in kind s p i q = give_in x ms (event_at kind s) p (i, tt) q

  module _ (o : OptionsData) (t : Token) (y : LexemeIn x ms t.lexeme) where
    -- ---- documents

    at_root_in : (p : ParserState) → StateIn p → StepIn (at_root o t p)
    at_root_in p q = step_if x ms _ _ _ (node_in x ms o t y p q) (no x ms _)

    with_version_in : (known : Option PlainVersion) (major minor : ℕ) (p : ParserState) → StateIn p
        → StepIn (with_version t known major minor p)
    with_version_in (Some v) major minor p q = no x ms _
    with_version_in None major minor p q = step_if x ms _ _ _
        (ok x ms _ (record { frames = q.frames; last_end = q.last_end; waiting = q.waiting; given = q.given }))
        (no x ms _)

    with_handle_in : (version : Option PlainVersion) (handle prefix : List ℕ) (known : Option (List ℕ))
        (p : ParserState) → StateIn p → StepIn (with_handle o t version handle prefix known p)
    with_handle_in version handle prefix (Some known) p q = no x ms _
    with_handle_in version handle prefix None p q = ok x ms _
        (record { frames = q.frames; last_end = q.last_end; waiting = q.waiting; given = q.given })

    open_document_in : (version : Option PlainVersion) (p : ParserState) → StateIn p
        → StepIn (open_document t version p)
    open_document_in version p q =
        let r = event_in (events.DocumentStart true version) t.lexeme.shown (record p { names = []; stage = Inside })
        y.shown (record { frames = q.frames; last_end = q.last_end; waiting = q.waiting; given = q.given }) in
        ok x ms _ (framed x ms _ _ r.frames r)

    directive_in : (d : DirectiveKind) (version : Option PlainVersion) (p : ParserState) → StateIn p
        → StepIn (with_directive o t d version p)
    directive_in (Version major minor) version p q = with_version_in version major minor p q
    directive_in (TagPrefix handle prefix) version p q = with_handle_in version handle prefix
        (lookup_text handle p.handles) p q
    directive_in (Reserved name parameters) version p q = ok x ms _
        (record { frames = q.frames; last_end = q.last_end; waiting = q.waiting; given = q.given })

    directives_in : (kind : LexemeKind) (version : Option PlainVersion) (p : ParserState) → StateIn p
        → StepIn (behind_directives o kind t version p)
    directives_in (lexemes.Directive d) version p q = directive_in d version p q
    directives_in lexemes.DocumentStart version p q = open_document_in version p q
    directives_in kind version p q = no x ms _

    bare_start_in : (sort : TokenSort) → SpanInText x ms (bare_start sort t).span
    bare_start_in BeginsNode = (y.shown, tt)
    bare_start_in sort = (empty_in x ms t.lexeme.start y.start, tt)

    begin_document_in : (p : ParserState) → StateIn p → StepIn (begin_document o t p)
    begin_document_in p q =
        let r = give_in x ms (bare_start t.sort t) (record p { names = []; handles = []; stage = Inside })
        (bare_start_in t.sort) (record {
          frames = q.frames;
          last_end = q.last_end;
          waiting = q.waiting;
          given =
              q.given;
        }) in
        step_if x ms _ _ _ (node_in x ms o t y _ (framed x ms _ _ r.frames r)) (no x ms _)

    stream_end_in : (p : ParserState) → StateIn p → StepIn (Ok (give (event_at events.StreamEnd t.lexeme.shown) p))
    stream_end_in p q = ok x ms _ (event_in events.StreamEnd t.lexeme.shown p y.shown q)

    fresh_in : (kind : LexemeKind) (p : ParserState) → StateIn p → StepIn (when_fresh o kind t p)
    fresh_in lexemes.DocumentEnd p q = ok x ms _ (flush_in x ms p q)
    fresh_in lexemes.StreamEnd p q = stream_end_in p q
    fresh_in (lexemes.Directive d) p q = directive_in d None (without_directives p)
        (record { frames = q.frames; last_end = q.last_end; waiting = q.waiting; given = q.given })
    fresh_in lexemes.DocumentStart p q = open_document_in None (record p { handles = [] })
        (record { frames = q.frames; last_end = q.last_end; waiting = q.waiting; given = q.given })
    fresh_in kind p q = begin_document_in p q

    between_in : (kind : LexemeKind) (p : ParserState) → StateIn p → StepIn (when_between kind t p)
    between_in (lexemes.Directive d) p q = no x ms _
    between_in lexemes.DocumentStart p q = open_document_in None (record p { handles = [] })
        (record { frames = q.frames; last_end = q.last_end; waiting = q.waiting; given = q.given })
    between_in lexemes.StreamEnd p q = stream_end_in p q
    between_in kind p q = no x ms _

    end_document_in : (s : Source) (stage : DocumentStage) (p : ParserState) → SourceIn x ms s → StateIn p
        → StateIn (end_document s stage p)
    end_document_in s stage p i q = let r = event_in events.DocumentEnd s p i
        q in record { frames = r.frames; last_end = r.last_end; waiting = r.waiting; given = r.given }

    behind_root_in : (kind : LexemeKind) (p : ParserState) → StateIn p → StepIn (behind_root kind t p)
    behind_root_in lexemes.DocumentEnd p q = ok x ms _ (end_document_in t.lexeme.shown Fresh p y.shown q)
    behind_root_in kind p q = between_in kind (end_document (empty_span p.last_end) Between p)
        (end_document_in (empty_span p.last_end) Between p (empty_in x ms p.last_end q.last_end) q)

    outside_in : (stage : DocumentStage) (p : ParserState) → StateIn p → StepIn (outside o stage t p)
    outside_in Fresh p q = fresh_in t.lexeme.kind p q
    outside_in (Directives version) p q = directives_in t.lexeme.kind version p q
    outside_in BehindRoot p q = behind_root_in t.lexeme.kind p q
    outside_in Between p q = between_in t.lexeme.kind p q
    outside_in Inside p q = no x ms _

    -- ---- a token at the open place

    token_in : (fs : List Frame) (p : ParserState) → StateIn p → StepIn (take_in o fs t p)
    token_in [] p q = outside_in p.stage p q
    token_in (Root explicit ∷ fs) p q = at_root_in p q
    token_in (WithProperties r ∷ fs) p q = node_in x ms o t y p q
    token_in (BlockSequence column indentless ∷ fs) p q = in_sequence_in x ms o t y column indentless p q
    token_in (BlockMapping column stage ∷ fs) p q = in_mapping_in x ms o t y column stage p q
    token_in (FlowSequence behind_entry ∷ fs) p q = flow_sequence_in x ms o t y behind_entry p q
    token_in (FlowMapping single stage ∷ fs) p q = flow_mapping_in x ms o t y single stage t.sort p q
    token_in (FlowPair stage ∷ fs) p q = flow_pair_in x ms o t y stage t.sort p q

    -- ---- what a token ends

    end_top_in : (fs : List Frame) (p : ParserState) → FramesIn x ms fs → StateIn p → StateIn (end_top o t p fs)
    end_top_in (Root explicit ∷ fs) p f q = finish_sound x ms _ (null_in x ms p.last_end p q.last_end q)
    end_top_in (WithProperties r ∷ fs) p f q = end_properties_in x ms o r p f.0.2 q
    end_top_in fs p f q = end_node_in x ms t.lexeme.start (token_start t) p y.start
        (empty_in x ms t.lexeme.start y.start) q

    abbrev ClosedIn : Result (List PlainEvent × ParserState) Fault → Type 0
    ClosedIn (Ok r) = StateIn r.1
    ClosedIn (Err f) = Unit {0}

    front_closed : (r : Result (List PlainEvent × ParserState) Fault) → ClosedIn r → ClosedIn (with_front [] r)
    front_closed (Ok r) q = q
    front_closed (Err f) q = tt

    turns_in : (n : ℕ) (p : ParserState) → StateIn p → ClosedIn (turns (close_turn o t) n p)
    unfolding turns close_turn
    turns_in zero p q = q
    turns_in (suc n) p q = on (ends_top t p p.frames) (turns_in n (end_top o t p p.frames))
      where
        on : (v : Bool) → (StateIn (end_top o t p p.frames)
            → ClosedIn (turns (close_turn o t) n (end_top o t p p.frames)))
            → ClosedIn (◌>>=◌ {A = Option (List PlainEvent) × ParserState}
            (if v then Ok (Some [], end_top o t p p.frames) else Ok (None, p))
            (λ r. then_more (turns (close_turn o t) n) r.0 r.1))
        on true more = front_closed (turns (close_turn o t) n (end_top o t p p.frames))
            (more (end_top_in p.frames p q.frames q))
        on false more = q

    closed_step : (r : Result (List PlainEvent × ParserState) Fault) → ClosedIn r → StepIn (r >>= λ r. Ok r.1)
    closed_step (Ok r) q = ok x ms r.1 q
    closed_step (Err f) q = no x ms f

    close_in : (p : ParserState) → StateIn p → StepIn (close o t p)
    unfolding pieces
    close_in p q = closed_step (turns (close_turn o t) (suc (depth p)) p) (turns_in (suc (depth p)) p q)

  -- ---- comments

  hold_in : (c : CommentRead) (e : PlainEvent) (w : Option Waiting) (p : ParserState) → SpanInText x ms e.span
      → WaitingIn x ms w → StateIn p → StepIn (hold c e w p)
  hold_in c e None p i v q = ok x ms _ (record {
    frames = q.frames;
    last_end = q.last_end;
    waiting = q.waiting;
    given =
        spans_joined x ms p.given (e ∷ []) q.given (i, tt);
  })
  hold_in c e (Some w) p i v q = step_if x ms _ _ _ (no x ms _)
      (ok x ms _ (record {
        frames = q.frames;
        last_end = q.last_end;
        waiting =
            (v.0, spans_joined x ms w.held (e ∷ []) v.1 (i, tt));
        given = q.given;
      }))

  comment_in : (c : CommentRead) (next : Option ℕ) (p : ParserState) → SourceIn x ms c.source → StateIn p
      → StepIn (take_comment c next p)
  comment_in c next p i q = hold_in c (event_at (events.Comment c.text (placed c next)) c.source) p.waiting p (i, tt)
      q.waiting q

  tail_in : (kind : LexemeKind) (tail : Option CommentRead) (next : Option ℕ) (p : ParserState) → TailIn x ms tail
      → StateIn p → StepIn (take_tail kind tail next p)
  tail_in lexemes.Dash tail next p i q = ok x ms p q
  tail_in kind None next p i q = ok x ms p q
  tail_in kind (Some c) next p i q = comment_in c next p i q

  -- ---- items

  abbrev pub ItemIn : Item → Type 0
  ItemIn (OfLexeme l) = LexemeIn x ms l
  ItemIn (OfComment c) = SourceIn x ms c.source

  abbrev pub ItemsIn : List FlaggedItem → Type 0
  ItemsIn [] = Unit {0}
  ItemsIn (i ∷ is) = ItemIn i.item × ItemsIn is

  item_in : (o : OptionsData) (i : Item) (begins_key : Bool) (next : Option ℕ) (p : ParserState) → ItemIn i → StateIn p
      → StepIn (take_item o i begins_key next p)
  item_in o (OfComment c) begins_key next p y q = comment_in c next p y q
  item_in o (OfLexeme l) begins_key next p y q =
      let t = token_of begins_key l in
      step_then x ms (close o t p >>= take_token o t) _
      (step_then x ms (close o t p) (take_token o t) (close_in o t y p q) (λ r s. token_in o t y r.frames r s))
      (λ r s. tail_in l.kind l.tail next r y.tail s)

  abbrev pub FedIn : Result (List PlainEvent × ParserState) Fault → Type 0
  FedIn (Ok r) = SpansInText x ms r.0 × StateIn r.1
  FedIn (Err f) = Unit {0}

  fed_by : (r : Stepped) → StepIn r → FedIn (r >>= λ q. Ok (q.given, record q { given = [] }))
  fed_by (Ok p) s = let q = s.says in (
    q.given,
    record { frames = q.frames; last_end = q.last_end; waiting = q.waiting; given = tt },
  )
  fed_by (Err f) s = tt

  feed_in : (o : OptionsData) (i : FlaggedItem) (next : Option ℕ) (p : ParserState) → ItemIn i.item → StateIn p
      → FedIn (feed o i next p)
  unfolding feed
  feed_in o i next p y q = fed_by (take_item o i.item i.begins_key next p) (item_in o i.item i.begins_key next p y q)

  front_fed : (es : List PlainEvent) (r : Result (List PlainEvent × ParserState) Fault) → SpansInText x ms es → FedIn r
      → FedIn (with_front es r)
  front_fed es (Ok r) s q = (spans_joined x ms es r.0 s q.0, q.1)
  front_fed es (Err f) s q = tt

  fed_then : (r : Result (List PlainEvent × ParserState) Fault)
      (f : ParserState → Result (List PlainEvent × ParserState) Fault) → FedIn r
      → ((p : ParserState) → StateIn p → FedIn (f p)) → FedIn (r >>= λ y. with_front y.0 (f y.1))
  fed_then (Ok r) f s g = front_fed r.0 (f r.1) s.0 (g r.1 s.1)
  fed_then (Err e) f s g = tt

  pub feed_all_in : (o : OptionsData) (is : List FlaggedItem) (p : ParserState) → ItemsIn is → StateIn p
      → FedIn (feed_all o is p)
  feed_all_in o [] p y q = (tt, q)
  feed_all_in o (i ∷ is) p y q = fed_then (feed o i (next_line is) p) (feed_all o is)
      (feed_in o i (next_line is) p y.0 q) (λ r s. feed_all_in o is r y.1 s)

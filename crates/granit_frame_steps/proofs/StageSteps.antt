-- Steps around documents: directives, marks and the end, and the first lexeme of a document without `---`.
use Rattle.granit_views.specs.Good.{hole, at_root, is_fresh, directed}
use Rattle.granit_views.specs.Running.{Knows, NextView}
use Rattle.granit_views.specs.Stepping.{taken, LimitView, at_kind, knowing, staying}
use Rattle.granit_views.specs.View.{Beside, state_of, give_all}
use Rattle.granit_language.specs.Seen.{terminal_kind, at_of, indent_of}
use Rattle.granit_event_machine.proofs.Limit.{from_zero}
use Rattle.granit_event_machine.specs.EventMachine.{OpenFrame, DocumentFrame, EventState, IsFresh, HasDirectives}
use Rattle.granit_event_machine.specs.EventMachine.{IsRooted}
use Rattle.granit_event_machine.specs.EventMachine.{InFrames, ended_by, EventStep, GoesTo, StopsWith, after_events}
use Rattle.granit_event_machine.specs.EventMachine.{take_frames, want_frames}
use Rattle.granit_event_machine.specs.Guarded.{first_fault, fault_unless}
use Rattle.granit_language.specs.GrammarFault.{GrammarFault, fault_of, UnexpectedEofBlockSequence}
use Rattle.granit_language.specs.GrammarFault.{DuplicateVersionDirective, UnsupportedYamlMajorVersion}
use Rattle.granit_language.specs.GrammarFault.{DuplicateTagDirective}
use Rattle.granit_language.specs.Node.{NoProperties}
use Rattle.granit_language.specs.Scope.{Scope, entry_of}
use Rattle.granit_language.specs.Scoping.{version_fault, handle_fault, unless}
use Rattle.granit_language.specs.Telling.{event_told, version_told, indent_told}
use Rattle.granit_language.specs.Terminal.{Directive, Terminal, is_stream_kind}
use Rattle.granit_language.specs.TreeEvents.{TreeEvent, bare_document_start, pointed, shown_event, DocumentStarts}
use Rattle.granit_language.specs.TreeEvents.{DocumentEnds, StreamEnds}
use Rattle.granit_lexemes.specs.Lexeme.{KeyStart, DirectiveKind, Version, TagPrefix, Reserved}
use Rattle.granit_lexemes.specs.declared.layout.Bracket.TheVariants.{Square, Curly}
use Rattle.granit_machine.specs.NodeSteps.{Stepped}
use Rattle.granit_machine.specs.Parser.{take_token}
use Rattle.granit_machine.specs.StreamSteps.{bare_start, begin_document, with_directive, with_handle}
use Rattle.granit_machine.specs.TokenSort.{token_of, token_sort, begins_node}
use Rattle.std.proofs.Common.{◌≡◌, ℕ, Bool, true, false, ◌==◌, List, [], ◌∷◌, ◌++◌, refl, sym, ap, ap₂, ◌∙◌}
use Rattle.std.proofs.Common.{subst, Option, Some, None, Ok, Err}
use Rattle.std.specs.Prelude.{nat_le, if◌then◌else◌}
use Rattle.granit_base.specs.Place.{Mark}
use Rattle.granit_error.specs.OptionsData.{OptionsData}
use Rattle.granit_lexemes.specs.Outcome.{Fault}
use Rattle.granit_lexemes.specs.PlainEvent.{PlainEvent, event_at}
use Rattle.granit_lexemes.specs.PlainEvent as plain
use Rattle.granit_machine.specs.Giving.{with_indent}
use Rattle.granit_lexemes.specs.Lexeme as lexemes
use Rattle.granit_machine.specs.NodeSteps as steps
use Rattle.granit_views.proofs.Dashes.{dash_or}
use Rattle.granit_frame_steps.proofs.FrameNexts.{limit_next}
use Rattle.granit_frame_steps.proofs.GoodSteps.{after_step, want_stands}
use Rattle.granit_node_steps.proofs.NodeTests.{Tested}
use Rattle.granit_views.proofs.Lookups.{found_in_order}
use Rattle.granit_views.specs.Ordered.{ordered}
use Rattle.granit_machine.specs.Entries.{lookup_text, remembered}
use Rattle.granit_frame_steps.proofs.SequencePlaces.{root_by}
use Rattle.granit_views.proofs.Views.{after_nothing, events_before, met_as}

-- no block collection is open around documents, so that only what stands declared refuses
guarded_by :
    (n : ℕ) (k : GrammarFault) (f : Option GrammarFault) → first_fault (fault_unless (nat_le 0 n) k) f ≡ f
guarded_by n k f = ap (λ b. first_fault (fault_unless b k) f) (from_zero n)

abbrev StageView :
    Bool → lexemes.LexemeKind → Option KeyStart → Scope → lexemes.Lexeme → OptionsData → Beside → EventState → Type 0
StageView b k key s l o d st =
    NextView o (met_as b k key s l) s d.given (take_token o (token_of b (at_kind l k key)) (state_of o st d))
    (taken (ended_by (met_as b k key s l) st) (met_as b k key s l))

-- ---- directives

abbrev With : OptionsData → Bool → DirectiveKind → Option KeyStart → lexemes.Lexeme → Option (ℕ × ℕ) → Beside → Stepped
With o b c key l v d =
    with_directive o (token_of b (at_kind l (lexemes.Directive c) key)) c (version_told v)
    (state_of o (HasDirectives v) d)

abbrev Then :
    Bool → DirectiveKind → Option KeyStart → Scope → lexemes.Lexeme → OptionsData → Option (ℕ × ℕ) → Beside →
    Stepped → Type 0
Then b c key s l o v d r =
    NextView o (met_as b (lexemes.Directive c) key s l) s d.given r
    (take_frames (HasDirectives v) (Directive c) (at_of b s (at_kind l (lexemes.Directive c) key)))

version_by :
    (b : Bool) (major minor : ℕ) (key : Option KeyStart) (s : Scope) (l : lexemes.Lexeme) (o : OptionsData) (d : Beside)
    (same : Bool) → (major == 1) ≡ same → d.count ≡ s.count → d.handles ≡ ordered s.pending → s.version ≡ None →
    d.kept ≡ staying o s → Then b (Version major minor) key s l o None d (With o b (Version major minor) key l None d)
version_by b major minor key s l o d true e c h v k =
    subst (Then b (Version major minor) key s l o None d)
    (sym
    (ap
    (λ q.
    if q then Ok (state_of o (HasDirectives (Some (major, minor))) d)
    else Err (fault_of UnsupportedYamlMajorVersion (met_as b (lexemes.Directive (Version major minor)) key s l)))
    e))
    (record {
      beside = d;
      is_seen = refl;
      gives = refl;
      knows = (c, h, refl, k);
      passes =
          guarded_by o.block_nesting_limit _ _
          ∙ (ap (version_fault major) v ∙ ap (λ q. unless q (Some UnsupportedYamlMajorVersion)) e);
      comes = directed;
    })
version_by b major minor key s l o d false e c h v k =
    subst (Then b (Version major minor) key s l o None d)
    (sym
    (ap
    (λ q.
    if q then Ok (state_of o (HasDirectives (Some (major, minor))) d)
    else Err (fault_of UnsupportedYamlMajorVersion (met_as b (lexemes.Directive (Version major minor)) key s l)))
    e)) (
      UnsupportedYamlMajorVersion,
      guarded_by o.block_nesting_limit _ _
          ∙ (ap (version_fault major) v ∙ ap (λ q. unless q (Some UnsupportedYamlMajorVersion)) e),
      refl,
    )

-- a handle that is declared stays, where handles do
stays_behind :
    (keep : Bool) (handle prefix : List ℕ) (kept all : List (List ℕ × List ℕ)) →
    kept ≡ (if keep then ordered all else []) →
    (if keep then remembered handle prefix kept else kept)
    ≡ (if keep then remembered handle prefix (ordered all) else [])
stays_behind true handle prefix kept all e = ap (remembered handle prefix) e
stays_behind false handle prefix kept all e = e

-- a `%TAG` is taken, by what its handle stands for already
abbrev HandleNext :
    Bool → List ℕ → List ℕ → Option KeyStart → Scope → lexemes.Lexeme → OptionsData → Option (ℕ × ℕ) → Beside →
    Option (List ℕ) → Type 0
HandleNext b handle prefix key s l o v d known =
    Then b (TagPrefix handle prefix) key s l o v d
    (with_handle o (token_of b (at_kind l (lexemes.Directive (TagPrefix handle prefix)) key))
    (version_told v) handle prefix known (state_of o (HasDirectives v) d))

new_handle :
    (b : Bool) (handle prefix : List ℕ) (key : Option KeyStart) (s : Scope) (l : lexemes.Lexeme) (o : OptionsData)
    (v : Option (ℕ × ℕ)) (d : Beside) → entry_of handle s.pending ≡ None →
    d.count ≡ s.count → d.handles ≡ ordered s.pending → s.version ≡ v → d.kept ≡ staying o s →
    HandleNext b handle prefix key s l o v d None
new_handle b handle prefix key s l o v d e c h w k = record {
  beside = record d {
    handles = remembered handle prefix d.handles;
    kept = if o.keep_tags then remembered handle prefix d.kept else d.kept;
  };
  is_seen = refl;
  gives = refl;
  knows = (c, ap (remembered handle prefix) h, w, stays_behind o.keep_tags handle prefix d.kept s.all_handles k);
  passes = guarded_by o.block_nesting_limit _ _ ∙ ap handle_fault e;
  comes = directed;
}

handle_next :
    (b : Bool) (handle prefix : List ℕ) (key : Option KeyStart) (s : Scope) (l : lexemes.Lexeme) (o : OptionsData)
    (v : Option (ℕ × ℕ)) (d : Beside) →
    d.count ≡ s.count → d.handles ≡ ordered s.pending → s.version ≡ v → d.kept ≡ staying o s →
    HandleNext b handle prefix key s l o v d (entry_of handle s.pending)
handle_next b handle prefix key s l o v d c h w k =
    elim (entry_of handle s.pending) as
    (λ known. entry_of handle s.pending ≡ known → HandleNext b handle prefix key s l o v d known) [
      | Some known ↦
          λ e. (DuplicateTagDirective, guarded_by o.block_nesting_limit _ _ ∙ ap handle_fault e, refl)
      | None ↦ λ e. new_handle b handle prefix key s l o v d e c h w k
    ] refl

directive_next :
    (b : Bool) (c : DirectiveKind) (key : Option KeyStart) (s : Scope) (l : lexemes.Lexeme) (o : OptionsData)
    (v : Option (ℕ × ℕ)) (d : Beside) → d.count ≡ s.count → d.handles ≡ ordered s.pending → s.version ≡ v →
    d.kept ≡ staying o s → Then b c key s l o v d (With o b c key l v d)
directive_next b (Version major minor) key s l o None d c h w k =
    version_by b major minor key s l o d (major == 1) refl c h w k
directive_next b (Version major minor) key s l o (Some v) d c h w k =
    (DuplicateVersionDirective, guarded_by o.block_nesting_limit _ _ ∙ ap (version_fault major) w, refl)
directive_next b (TagPrefix handle prefix) key s l o v d c h w k =
    subst (HandleNext b handle prefix key s l o v d)
    (sym (ap (lookup_text handle) h ∙ found_in_order handle s.pending))
    (handle_next b handle prefix key s l o v d c h w k)
directive_next b (Reserved name parameters) key s l o v d c h w k = record {
  beside = d;
  is_seen = refl;
  gives = refl;
  knows = (c, h, w, k);
  passes = guarded_by o.block_nesting_limit _ _;
  comes = directed;
}

-- ---- behind directives

abbrev StartedAs : lexemes.Lexeme → List PlainEvent → ℕ → (handles kept : List (List ℕ × List ℕ)) → Beside
StartedAs l given count handles kept =
    record { last = l.shown.end; count = count; names = []; handles = handles; kept = kept; given = given }

abbrev Started : lexemes.Lexeme → Beside → List (List ℕ × List ℕ) → List PlainEvent → Beside
Started l d handles given = StartedAs l given d.count handles d.kept

started_same :
    (l : lexemes.Lexeme) (given : List PlainEvent) {n m : ℕ} {hs gs ks js : List (List ℕ × List ℕ)} → n ≡ m → hs ≡ gs →
    ks ≡ js → StartedAs l given n hs ks ≡ StartedAs l given m gs js
started_same l given {m = m} {gs = gs} {ks = ks} e h k =
    ap₂ (λ n hs. StartedAs l given n hs ks) e h ∙ ap (StartedAs l given m gs) k

pub directed_next :
    (b : Bool) (k : lexemes.LexemeKind) (key : Option KeyStart) (s : Scope) (l : lexemes.Lexeme) (o : OptionsData)
    (v : Option (ℕ × ℕ)) (d : Beside) → Knows o (HasDirectives v) s d → StageView b k key s l o d (HasDirectives v)
directed_next b (lexemes.Directive c) key s l o v d w = directive_next b c key s l o v d w.0 w.1 w.2 w.3
directed_next b lexemes.DocumentStart key s l o v d w =
    let given = give_all o (shown_event (DocumentStarts true v) (at_of b s (at_kind l lexemes.DocumentStart key)) ∷ [])
    d.given in
    record {
      beside = Started l d d.handles given;
      is_seen = refl;
      gives = refl;
      knows = (
        started_same l given w.0 w.1 w.3,
        refl,
        refl,
      );
      passes = guarded_by o.block_nesting_limit _ _;
      comes = hole at_root;
    }
directed_next b lexemes.DocumentEnd key s l o v d w = refl
directed_next b lexemes.StreamEnd key s l o v d w = refl
directed_next b (lexemes.Open bracket) key s l o v d w = refl
directed_next b (lexemes.Close bracket) key s l o v d w = refl
directed_next b lexemes.Comma key s l o v d w = refl
directed_next b lexemes.Dash key s l o v d w = refl
directed_next b lexemes.Question key s l o v d w = refl
directed_next b lexemes.Colon key s l o v d w = refl
directed_next b (lexemes.Alias name) key s l o v d w = refl
directed_next b (lexemes.Anchor name) key s l o v d w = refl
directed_next b (lexemes.Tag handle suffix) key s l o v d w = refl
directed_next b (lexemes.Scalar style text) key s l o v d w = refl

-- ---- behind a root

pub rooted_next :
    (b : Bool) (k : lexemes.LexemeKind) (key : Option KeyStart) (s : Scope) (l : lexemes.Lexeme) (o : OptionsData)
    (e : Mark) (d : Beside) → Knows o (IsRooted e) s d → StageView b k key s l o d (IsRooted e)
rooted_next b (lexemes.Directive c) key s l o e d w = refl
rooted_next b lexemes.DocumentStart key s l o e d w =
    let given = give_all o
    (pointed DocumentEnds e ∷ shown_event (DocumentStarts true None) (at_of b s (at_kind l lexemes.DocumentStart key))
    ∷ [])
    d.given in
    record {
      beside = Started l d [] given;
      is_seen = refl;
      gives = refl;
      knows = (
        started_same l given (ap (λ d. d.count) w.0) (ap ordered (sym w.1)) (ap (λ d. d.kept) w.0),
        refl,
        refl,
      );
      passes = guarded_by o.block_nesting_limit _ _;
      comes = hole at_root;
    }
rooted_next b lexemes.DocumentEnd key s l o e d w = record {
  beside = record d {
    last = l.shown.end;
    handles = [];
    given = give_all o (shown_event DocumentEnds (at_of b s (at_kind l lexemes.DocumentEnd key)) ∷ []) d.given;
  };
  is_seen = refl;
  gives = refl;
  knows = (ap (λ d. d.count) w.0, refl, refl, refl, refl, ap (λ d. d.kept) w.0);
  passes = guarded_by o.block_nesting_limit _ _;
  comes = is_fresh;
}
rooted_next b lexemes.StreamEnd key s l o e d w = record {
  beside = record d {
    given =
        give_all o (pointed DocumentEnds e ∷ shown_event StreamEnds (at_of b s (at_kind l lexemes.StreamEnd key)) ∷ [])
        d.given;
  };
  is_seen = (refl, refl);
  gives = refl;
  knows = tt;
  passes = guarded_by o.block_nesting_limit _ _;
  comes = tt;
}
rooted_next b (lexemes.Open bracket) key s l o e d w = refl
rooted_next b (lexemes.Close bracket) key s l o e d w = refl
rooted_next b lexemes.Comma key s l o e d w = refl
rooted_next b lexemes.Dash key s l o e d w = refl
rooted_next b lexemes.Question key s l o e d w = refl
rooted_next b lexemes.Colon key s l o e d w = refl
rooted_next b (lexemes.Alias name) key s l o e d w = refl
rooted_next b (lexemes.Anchor name) key s l o e d w = refl
rooted_next b (lexemes.Tag handle suffix) key s l o e d w = refl
rooted_next b (lexemes.Scalar style text) key s l o e d w = refl

-- ---- where a document may begin

indent_same : (i : Option ℕ) → indent_told (indent_of i) ≡ i
indent_same None = refl
indent_same (Some n) = refl

-- a document without `---` starts alike
bare_same :
    (b : Bool) (k : lexemes.LexemeKind) (key : Option KeyStart) (s : Scope) (l : lexemes.Lexeme) (o : OptionsData) →
    begins_node (token_sort b key k) ≡ true →
    event_told o (bare_document_start (terminal_kind k key) (at_of b s (at_kind l k key)))
    ≡ bare_start (token_sort b key k) (token_of b (at_kind l k key)) ∷ []
bare_same b (lexemes.Directive c) key s l o e = cc (e)
bare_same b lexemes.DocumentStart key s l o e = cc (e)
bare_same b lexemes.DocumentEnd key s l o e = cc (e)
bare_same b lexemes.StreamEnd key s l o e = cc (e)
bare_same b lexemes.Comma key s l o e = cc (e)
bare_same b (lexemes.Close Square) key s l o e = cc (e)
bare_same b (lexemes.Close Curly) key s l o e = cc (e)
bare_same b lexemes.Dash key s l o e = refl
bare_same b lexemes.Question key s l o e = refl
bare_same b lexemes.Colon None s l o e = refl
bare_same b lexemes.Colon (Some n) s l o e = cc (e)
bare_same true (lexemes.Open bracket) key s l o e = refl
bare_same false (lexemes.Open bracket) key s l o e =
    ap (λ i. with_indent i (event_at (plain.DocumentStart false None) l.shown) ∷ []) (indent_same l.indent)
bare_same true (lexemes.Alias name) key s l o e = refl
bare_same false (lexemes.Alias name) key s l o e =
    ap (λ i. with_indent i (event_at (plain.DocumentStart false None) l.shown) ∷ []) (indent_same l.indent)
bare_same true (lexemes.Anchor name) key s l o e = refl
bare_same false (lexemes.Anchor name) key s l o e =
    ap (λ i. with_indent i (event_at (plain.DocumentStart false None) l.shown) ∷ []) (indent_same l.indent)
bare_same true (lexemes.Tag handle suffix) key s l o e = refl
bare_same false (lexemes.Tag handle suffix) key s l o e =
    ap (λ i. with_indent i (event_at (plain.DocumentStart false None) l.shown) ∷ []) (indent_same l.indent)
bare_same true (lexemes.Scalar style text) key s l o e = refl
bare_same false (lexemes.Scalar style text) key s l o e =
    ap (λ i. with_indent i (event_at (plain.DocumentStart false None) l.shown) ∷ []) (indent_same l.indent)

abbrev BareAt : Bool → lexemes.LexemeKind → Option KeyStart → lexemes.Lexeme → PlainEvent
BareAt b k key l = bare_start (token_sort b key k) (token_of b (at_kind l k key))

abbrev BareEvent : Bool → lexemes.LexemeKind → Option KeyStart → Scope → lexemes.Lexeme → TreeEvent
BareEvent b k key s l = bare_document_start (terminal_kind k key) (at_of b s (at_kind l k key))

abbrev Root : List OpenFrame
Root = DocumentFrame None ∷ []

abbrev NodeFrom : Bool → lexemes.LexemeKind → Option KeyStart → lexemes.Lexeme → OptionsData → Beside → Stepped
NodeFrom b k key l o d = steps.node o (token_of b (at_kind l k key)) (state_of o (InFrames Root) d)

-- behind its start, the parser is at the root of a document
abbrev Begun : Bool → lexemes.LexemeKind → Option KeyStart → lexemes.Lexeme → Beside → Beside
Begun b k key l d = record {
  last = (BareAt b k key l).span.end;
  count = d.count;
  names = [];
  handles = [];
  kept = d.kept;
  given = d.given ++ BareAt b k key l ∷ [];
}

abbrev begun_as :
    (b : Bool) (k : lexemes.LexemeKind) (key : Option KeyStart) (l : lexemes.Lexeme) (given : List PlainEvent) →
    ℕ → List (List ℕ × ℕ) → (handles kept : List (List ℕ × List ℕ)) → Beside
begun_as b k key l given count names handles kept = record {
  last = (BareAt b k key l).span.end;
  count = count;
  names = names;
  handles = handles;
  kept = kept;
  given = given ++ BareAt b k key l ∷ [];
}

begun_knows :
    (o : OptionsData) (b : Bool) (k : lexemes.LexemeKind) (key : Option KeyStart) (s : Scope) (l : lexemes.Lexeme)
    (d : Beside) → Knows o IsFresh s d →
    Begun b k key l d ≡ knowing o s (BareAt b k key l).span.end (d.given ++ BareAt b k key l ∷ [])
begun_knows o b k key s l d w =
    ap₂ (λ n ks. begun_as b k key l d.given n [] [] ks) w.0 w.5
    ∙ ap₂ (λ ns hs. begun_as b k key l d.given s.count ns hs (staying o s)) (ap ordered (sym w.1))
    (ap ordered (sym w.2))

err_before :
    (o : OptionsData) (x : Terminal) (d c : Beside) (f : Fault) (es : List TreeEvent) (y : EventStep) →
    LimitView o x d (Err f) y → LimitView o x c (Err f) (after_events es y)
err_before o x d c f es (GoesTo st more) h = h
err_before o x d c f es (StopsWith k) h = h

fresh_by :
    (b : Bool) (k : lexemes.LexemeKind) (key : Option KeyStart) (s : Scope) (l : lexemes.Lexeme) (o : OptionsData)
    (d : Beside) (begins : Bool) → Knows o IsFresh s d → begins_node (token_sort b key k) ≡ begins →
    LimitView o (met_as b k key s l) (knowing o s (BareAt b k key l).span.end (d.given ++ BareAt b k key l ∷ []))
    (Tested begins (NodeFrom b k key l o (knowing o s (BareAt b k key l).span.end (d.given ++ BareAt b k key l ∷ [])))
    UnexpectedEofBlockSequence (met_as b k key s l))
    (want_frames Root NoProperties (terminal_kind k key) (at_of b s (at_kind l k key))) →
    LimitView o (met_as b k key s l) (knowing o s l.start d.given)
    (Tested begins (NodeFrom b k key l o (Begun b k key l d)) UnexpectedEofBlockSequence (met_as b k key s l))
    (after_events (BareEvent b k key s l ∷ [])
    (want_frames Root NoProperties (terminal_kind k key) (at_of b s (at_kind l k key))))
fresh_by b k key s l o d true w e h =
    subst
    (λ c.
    LimitView o (met_as b k key s l) (knowing o s l.start d.given) (NodeFrom b k key l o c)
    (after_events (BareEvent b k key s l ∷ [])
    (want_frames Root NoProperties (terminal_kind k key) (at_of b s (at_kind l k key)))))
    (sym (begun_knows o b k key s l d w))
    (events_before o (met_as b k key s l) s (BareAt b k key l).span.end l.start d.given (BareEvent b k key s l ∷ [])
    (NodeFrom b k key l o (knowing o s (BareAt b k key l).span.end (d.given ++ BareAt b k key l ∷ [])))
    (want_frames Root NoProperties (terminal_kind k key) (at_of b s (at_kind l k key)))
    (subst
    (λ es.
    LimitView o (met_as b k key s l) (knowing o s (BareAt b k key l).span.end (d.given ++ es))
    (NodeFrom b k key l o (knowing o s (BareAt b k key l).span.end (d.given ++ BareAt b k key l ∷ [])))
    (want_frames Root NoProperties (terminal_kind k key) (at_of b s (at_kind l k key))))
    (sym (bare_same b k key s l o e)) h))
fresh_by b k key s l o d false w e h =
    err_before o (met_as b k key s l) (knowing o s (BareAt b k key l).span.end (d.given ++ BareAt b k key l ∷ []))
    (knowing o s l.start d.given) (fault_of UnexpectedEofBlockSequence (met_as b k key s l))
    (BareEvent b k key s l ∷ [])
    (want_frames Root NoProperties (terminal_kind k key) (at_of b s (at_kind l k key))) h

fresh_other :
    (b : Bool) (k : lexemes.LexemeKind) (key : Option KeyStart) (s : Scope) (l : lexemes.Lexeme) (o : OptionsData)
    (d : Beside) → Knows o IsFresh s d → is_stream_kind (terminal_kind k key) ≡ false →
    NextView o (met_as b k key s l) s d.given (begin_document o (token_of b (at_kind l k key)) (state_of o IsFresh d))
    (after_events []
    (after_events (BareEvent b k key s l ∷ [])
    (want_frames Root NoProperties (terminal_kind k key) (at_of b s (at_kind l k key)))))
fresh_other b k key s l o d w n =
    subst
    (NextView o (met_as b k key s l) s d.given (begin_document o (token_of b (at_kind l k key)) (state_of o IsFresh d)))
    (sym (after_nothing (after_events (BareEvent b k key s l ∷ [])
    (want_frames Root NoProperties (terminal_kind k key) (at_of b s (at_kind l k key))))))
    (limit_next o (met_as b k key s l) s l.start d.given
    (begin_document o (token_of b (at_kind l k key)) (state_of o IsFresh d))
    (after_events (BareEvent b k key s l ∷ [])
    (want_frames Root NoProperties (terminal_kind k key) (at_of b s (at_kind l k key))))
    (fresh_by b k key s l o d (begins_node (token_sort b key k)) w refl
    (root_by b k key
    (record {
      scope = s;
      lexeme = l;
      options = o;
      last = (BareAt b k key l).span.end;
      given = d.given ++ BareAt b k key l ∷ [];
    })
    None (dash_or b key k) (from_zero o.block_nesting_limit)))
    (after_step (BareEvent b k key s l ∷ [])
    (want_frames Root NoProperties (terminal_kind k key) (at_of b s (at_kind l k key)))
    (want_stands Root NoProperties (terminal_kind k key) (at_of b s (at_kind l k key)) at_root))
    n w.3 w.4)

pub fresh_next :
    (b : Bool) (k : lexemes.LexemeKind) (key : Option KeyStart) (s : Scope) (l : lexemes.Lexeme) (o : OptionsData)
    (d : Beside) → Knows o IsFresh s d → StageView b k key s l o d IsFresh
fresh_next b (lexemes.Directive (Version major minor)) key s l o d w =
    directive_next b (Version major minor) key s l o None (record d { names = []; handles = [] }) w.0
    (ap ordered (sym w.3)) w.4 w.5
fresh_next b (lexemes.Directive (TagPrefix handle prefix)) key s l o d w =
    directive_next b (TagPrefix handle prefix) key s l o None (record d { names = []; handles = [] }) w.0
    (ap ordered (sym w.3)) w.4 w.5
fresh_next b (lexemes.Directive (Reserved name parameters)) key s l o d w =
    directive_next b (Reserved name parameters) key s l o None (record d { names = []; handles = [] }) w.0
    (ap ordered (sym w.3)) w.4 w.5
fresh_next b lexemes.DocumentStart key s l o d w =
    let given = give_all o
    (shown_event (DocumentStarts true None) (at_of b s (at_kind l lexemes.DocumentStart key)) ∷ []) d.given in
    record {
      beside = Started l d [] given;
      is_seen = refl;
      gives = refl;
      knows = (
        started_same l given w.0 (ap ordered (sym w.3)) w.5,
        refl,
        refl,
      );
      passes = guarded_by o.block_nesting_limit _ _;
      comes = hole at_root;
    }
fresh_next b lexemes.DocumentEnd key s l o d w = record {
  beside = d;
  is_seen = refl;
  gives = refl;
  knows = (w.0, refl, refl, refl, refl, w.5);
  passes = guarded_by o.block_nesting_limit _ _;
  comes = is_fresh;
}
fresh_next b lexemes.StreamEnd key s l o d w = record {
  beside = record d {
    given = give_all o (shown_event StreamEnds (at_of b s (at_kind l lexemes.StreamEnd key)) ∷ []) d.given;
  };
  is_seen = (refl, refl);
  gives = refl;
  knows = tt;
  passes = guarded_by o.block_nesting_limit _ _;
  comes = tt;
}
fresh_next b (lexemes.Open bracket) key s l o d w = fresh_other b (lexemes.Open bracket) key s l o d w refl
fresh_next b (lexemes.Close bracket) key s l o d w = fresh_other b (lexemes.Close bracket) key s l o d w refl
fresh_next b lexemes.Comma key s l o d w = fresh_other b lexemes.Comma key s l o d w refl
fresh_next b lexemes.Dash key s l o d w = fresh_other b lexemes.Dash key s l o d w refl
fresh_next b lexemes.Question key s l o d w = fresh_other b lexemes.Question key s l o d w refl
fresh_next b lexemes.Colon key s l o d w = fresh_other b lexemes.Colon key s l o d w refl
fresh_next b (lexemes.Alias name) key s l o d w = fresh_other b (lexemes.Alias name) key s l o d w refl
fresh_next b (lexemes.Anchor name) key s l o d w = fresh_other b (lexemes.Anchor name) key s l o d w refl
fresh_next b (lexemes.Tag handle suffix) key s l o d w = fresh_other b (lexemes.Tag handle suffix) key s l o d w refl
fresh_next b (lexemes.Scalar style text) key s l o d w = fresh_other b (lexemes.Scalar style text) key s l o d w refl

-- The whole canonical text is read as its documents.
use Rattle.granit_lexemes.specs.Lexeme as lexemes
use Rattle.granit_lexemes.specs.PlainEvent as plain
use Rattle.std.proofs.Common.{Bool, List, Option, [], add-zero, ap, ap₂, arith, drop, false, length, map, refl, subst}
use Rattle.std.proofs.Common.{suc, sym, true, ℕ, ◌++◌, ◌+◌, ◌-◌, ◌∙◌, ◌∷◌, ◌≡◌, ◌≤◌}
use Rattle.std.proofs.Math.Nat.{le-max_left, le-max_right}
use Rattle.std.proofs.lemmas.List.{length-drop}
use Rattle.std.specs.Prelude.{None, Some}
use Rattle.granit_base.specs.Place.{Mark}
use Rattle.granit_canonical_steps.proofs.Calm.{Calm, calm_start}
use Rattle.granit_canonical_steps.proofs.Known.{knows_none}
use Rattle.granit_canonical_steps.proofs.Marks.{takes_end, takes_start}
use Rattle.granit_canonical_steps.proofs.Names.{ends_fed}
use Rattle.granit_canonical_steps.proofs.Nodes.{dash_starts}
use Rattle.granit_canonical_steps.proofs.Passing.{Lexed, Passage, and_lexeme, means_append, no_lexeme, passage_none}
use Rattle.granit_canonical_steps.proofs.Passing.{passage_one, passage_then, place_in, plain_root, scope_of}
use Rattle.granit_canonical_steps.proofs.Passing.{seen, seen_append}
use Rattle.granit_canonical_steps.proofs.Places.{Before, Held, Starts, directly, starts_end, starts_held}
use Rattle.granit_canonical_steps.proofs.Spelling.{CanSpell, CanSpellTrees, documents_spell}
use Rattle.granit_canonical_steps.proofs.Taking.{Taken, at_line, reads_one}
use Rattle.granit_canonical.proofs.Trees.{tree_read}
use Rattle.granit_canonical_steps.specs.Canonical.{Anchors, canonical_events, documents_before, past_documents}
use Rattle.granit_canonical_steps.specs.Canonical.{past_tree}
use Rattle.granit_canonical_steps.specs.Canonical.{renewed, stretch, tree_before}
use Rattle.granit_error.specs.OptionsData.{OptionsData}
use Rattle.granit_language.proofs.Scopes.{scoped_append}
use Rattle.granit_language.specs.Node.{AfterRoot, AtFresh, Beginning, EndFresh, EndRooted, ExplicitRoot, Just, Rooted}
use Rattle.granit_language.specs.Node.{Start, Stream}
use Rattle.granit_language.specs.Placed.{RootedPlaced, StartPlaced, StreamPlaced}
use Rattle.granit_language.specs.Reached.{ReadWhole, Reads, whole_ends, whole_goes_on}
use Rattle.granit_language.specs.Room.{RightOf}
use Rattle.granit_language.specs.Scope.{Scope, no_scope}
use Rattle.granit_language.specs.Scoping.{Means, scope_behind, scoped}
use Rattle.granit_language.specs.Seen.{at_of, lexemes_flagged, terminal_kind, terminal_of, terminal_seen, terminals_of}
use Rattle.granit_language.specs.Telling.{events_told, version_told}
use Rattle.granit_language.specs.Terminal.{At, DocumentStart, Terminal, TerminalKind, TheEnd, terminal, text_start}
use Rattle.granit_language.specs.TreeEvents.{DocumentEnds, DocumentStarts, StreamEnds, TreeEvent, node_end, node_events}
use Rattle.granit_language.specs.TreeEvents.{pointed, shown_event, start_events, start_version, stream_events}
use Rattle.granit_language.specs.Whole.{WholeReading}
use Rattle.granit_language.specs.Within.{rooted_within, start_within, stream_within}
use Rattle.granit_language.specs.Yield.{spell, spell_start, spell_stream}
use Rattle.granit_lexemes.specs.Here.{Here, start_of}
use Rattle.granit_lexemes.specs.Lexeme.{Item, Lexeme, OfLexeme}
use Rattle.granit_lexemes.specs.Place.{since_line_end}
use Rattle.granit_lexemes.specs.PlainEvent.{PlainEvent, event_at, event_on}
use Rattle.granit_lexemes.specs.Source.{Source}
use Rattle.granit_machine.specs.Laid.{is_opener}
use Rattle.granit_machine.specs.LexemeSort.{StartMark, TextEnd}
use Rattle.granit_machine.specs.Lexing.{FlaggedItem, Flagging, flagged, flagging}
use Rattle.granit_machine.specs.Reader.{is_end_kind}
use Rattle.granit_machine.specs.ReaderState.{ReaderState, reader_start}
use Rattle.granit_model.specs.Characters.{HasCharacters}
use Rattle.granit_model.specs.FlowText.{documents_text, flow_characters, tree_text}
use Rattle.granit_model.specs.Tree.{AfterTrees, DocumentsFit, NoTrees, PlainTree, PlainTrees, TreeFits, tree_depth}
use Rattle.granit_model.specs.Tree.{trees_depth}
use Rattle.granit_canonical_steps.proofs.Places.{column_behind}
use Rattle.granit_canonical_steps.proofs.Passing.{flag_bare}

-- ---- documents

-- documents before a place, where there are any
abbrev pub start_behind : Option Rooted → Start
start_behind None = AtFresh Beginning
start_behind (Some ro) = AfterRoot ro

abbrev pub RootsPlaced : Option Rooted → Terminal → Type 0
RootsPlaced None y = Unit {0}
RootsPlaced (Some ro) y = RootedPlaced ro y

abbrev pub roots_within : ℕ → Option Rooted → Bool
roots_within n None = true
roots_within n (Some ro) = rooted_within n ro

pub start_placed : (r : Option Rooted) (i : At) → RootsPlaced r (terminal DocumentStart i)
    → StartPlaced (start_behind r) i
start_placed None i h = tt
start_placed (Some ro) i h = h

pub start_within_roots : (n : ℕ) (r : Option Rooted) → start_within n (start_behind r) ≡ roots_within n r
start_within_roots n None = refl
start_within_roots n (Some ro) = refl

pub no_version : (r : Option Rooted) → start_version (start_behind r) ≡ None
no_version None = refl
no_version (Some ro) = refl

-- documents that are read
pub record DocumentsRead (o : OptionsData) (x : List ℕ) (rest : List ℕ) (ts : PlainTrees) : Type 0 where
  pub after : ReaderState
  pub roots : Option Rooted
  pub passage : Passage o (reader_start (start_of x)) (record { count = 0; names = [] }) (past_documents ts)
      (spell_start (start_behind roots)) after
  pub before : Before x rest after.here
  pub column : (h : Here) → Held x h → h.unread.text ≡ rest → h.place.column ≡ 0
  pub calm : Calm [] after.laid
  pub opener : is_opener after.laid.last ≡ false
  pub placed : (y : Terminal) → RootsPlaced roots y
  pub within : (n : ℕ) → roots_within n roots ≡ true
  pub told : (more : List TreeEvent)
      → events_told o (start_events (start_behind roots) more)
      ≡ event_on plain.StreamStart text_start ∷ documents_before o x ts rest (events_told o more)

-- a place behind a line feed is in column 0
behind_feed : (x rest : List ℕ) (i : ℕ) → drop i x ≡ 0x0A ∷ rest → (h : Here) → Held x h → h.unread.text ≡ rest
    → h.place.column ≡ 0
behind_feed x rest i e h held t =
    let long : length (drop i x) ≡ length x - i = length-drop i x in
    let feed : length (drop i x) ≡ suc (length rest) = ap (length {A = ℕ}) e in
    let sum : held.index + length rest ≡ length x = sym (ap (λ (l : List ℕ). held.index + length l) t) ∙ held.sum in
    let same : held.index ≡ suc i = omega (arith, long, feed, sum) in
    sym (add-zero h.place.column) ∙ held.counted.mark.column ∙ ap (since_line_end x) same
    ∙ column_behind x i 0x0A rest e

module _ (o : OptionsData) (x : List ℕ) where
  no_documents : (rest : List ℕ) → x ≡ rest → DocumentsRead o x rest NoTrees
  no_documents rest e = record {
    after = reader_start (start_of x);
    roots = None;
    passage = passage_none o (reader_start (start_of x)) (record { count = 0; names = [] });
    before = directly x rest (start_of x) (starts_held x) e;
    column = λ h held t. at_first h held (sym (ap (λ (l : List ℕ). held.index + length l) t) ∙ held.sum);
    calm = calm_start;
    opener = refl;
    placed = λ y. tt;
    within = λ n. refl;
    told = λ more. refl;
  }
    where
      at_first : (h : Here) (held : Held x h) → held.index + length rest ≡ length x → h.place.column ≡ 0
      at_first h held sum =
          let long : length x ≡ length rest = ap (length {A = ℕ}) e in
          let same : held.index ≡ 0 = omega (arith, long, sum) in
          sym (add-zero h.place.column) ∙ held.counted.mark.column ∙ ap (since_line_end x) same

  one_document : (rest : List ℕ) (ts : PlainTrees) (t : PlainTree) → CanSpell t → TreeFits t []
      → tree_depth t ≤ o.flow_nesting_limit → Starts rest
      → DocumentsRead o x (0x2D ∷ 0x2D ∷ 0x2D ∷ 0x20 ∷ tree_text t (0x0A ∷ rest)) ts
      → DocumentsRead o x rest (AfterTrees ts t)
  one_document rest ts t can fits deep starts d =
      let behind = 0x0A ∷ rest in
      let root = tree_text t behind in
      let from = 0x2D ∷ 0x2D ∷ 0x2D ∷ 0x20 ∷ root in
      let a = past_documents ts in
      let b = renewed a in
      let c = past_tree t b in
      let q = reads_one o x [] [] StartMark lexemes.DocumentStart from (0x20 ∷ root) root false d.after d.before d.calm
      (dash_starts (0x2D ∷ 0x2D ∷ 0x20 ∷ root))
      (λ y h e c f. takes_start o x root y (d.column y.here h e) h e c) in
      let n = tree_read o x t [] can fits [] (0x0A ∷ []) rest q.after b (at_line starts) (ends_fed rest)
      (knows_none a.count)
      (omega (arith, deep)) q.before q.calm tt in
      let i = place_in a q.lexeme in
      let first = passage_one o lexemes.DocumentStart d.after a b q.read refl refl refl in
      let marked_by = λ (more : List Terminal). terminal DocumentStart i ∷ more in
      let rear = passage_then o d.after q.after n.after a b c marked_by (spell n.node) first n.passage in
      record {
        after = n.after;
        roots = Some (ExplicitRoot (start_behind d.roots) i (Just n.node));
        passage = passage_then o (reader_start (start_of x)) d.after n.after (record { count = 0; names = [] }) a c
            (spell_start (start_behind d.roots)) (λ more. marked_by (spell n.node more)) d.passage rear;
        before = n.before;
        column = behind_feed x rest n.passed.0 n.passed.1;
        calm = n.calm;
        opener = n.opener;
        placed = λ y. (start_placed d.roots i (d.placed (terminal DocumentStart i)), n.placed (RightOf 0) plain_root y);
        within = λ m. n.within m 0 (start_within m (start_behind d.roots)) ∙ start_within_roots m d.roots ∙ d.within m;
        told = λ more.
            d.told (shown_event (DocumentStarts true (start_version (start_behind d.roots))) i
            ∷ node_events n.node None (pointed DocumentEnds (node_end n.node) ∷ more))
            ∙ ap (λ (es : List PlainEvent). event_on plain.StreamStart text_start ∷ documents_before o x ts from es)
            (ap₂ (λ (v : Option (ℕ × ℕ)) (s : Source). event_at (plain.DocumentStart true (version_told v)) s
            ∷ events_told o (node_events n.node None (pointed DocumentEnds (node_end n.node) ∷ more)))
            (no_version d.roots) q.shown_is
            ∙ ap (λ (es : List PlainEvent). event_at (plain.DocumentStart true None) (stretch x from (0x20 ∷ root))
            ∷ es)
            (n.told (pointed DocumentEnds (node_end n.node) ∷ more)
            ∙ ap (λ (m : Mark). tree_before o x t b behind (event_on plain.DocumentEnd m ∷ events_told o more))
            n.ends));
      }

  documents_read : (ts : PlainTrees) (rest : List ℕ) → CanSpellTrees ts → DocumentsFit ts
      → trees_depth ts ≤ o.flow_nesting_limit → Starts rest → x ≡ documents_text ts rest → DocumentsRead o x rest ts
  documents_read NoTrees rest can fits deep starts e = no_documents rest e
  documents_read (AfterTrees ts t) rest can fits deep starts e =
      let from = 0x2D ∷ 0x2D ∷ 0x2D ∷ 0x20 ∷ tree_text t (0x0A ∷ rest) in
      let front : trees_depth ts ≤ o.flow_nesting_limit = omega
      (arith, deep, le-max_left (trees_depth ts) (tree_depth t)) in
      let last : tree_depth t ≤ o.flow_nesting_limit = omega
      (arith, deep, le-max_right (trees_depth ts) (tree_depth t)) in
      one_document rest ts t can.1 fits.1 last starts
      (documents_read ts from can.0 fits.0 front (dash_starts (0x2D ∷ 0x2D ∷ 0x20 ∷ tree_text t (0x0A ∷ rest))) e)

-- ---- the whole text

abbrev pub items_of : List Lexeme → List Item
items_of [] = []
items_of (l ∷ ls) = OfLexeme l ∷ items_of ls

-- no lexeme has a key or a tail
abbrev pub AreBare : List Lexeme → Type 0
AreBare [] = Unit {0}
AreBare (l ∷ ls) = (l.key ≡ None) × (l.tail ≡ None) × AreBare ls

lexed_bare : (o : OptionsData) (s t : ReaderState) (ls : List Lexeme) (e : Lexeme) → Lexed o s ls t → e.key ≡ None
    → e.tail ≡ None → AreBare (ls ++ e ∷ [])
lexed_bare o _ _ _ e no_lexeme k n = (k, n, tt)
lexed_bare o _ t _ e (and_lexeme {ls = ls} l next r f i j p) k n = (i, j, lexed_bare o next t ls e p k n)

lexed_whole : (o : OptionsData) (s t next : ReaderState) (ls : List Lexeme) (e : Lexeme) → Lexed o s ls t
    → Reads o t (OfLexeme e ∷ []) next → is_end_kind e.kind ≡ true → ReadWhole o s (items_of (ls ++ e ∷ [])) true next
lexed_whole o _ _ next _ e no_lexeme r end = whole_ends r end
lexed_whole o _ t next _ e (and_lexeme {ls = ls} l middle q f i j p) r end =
    whole_goes_on middle (OfLexeme l ∷ []) (items_of (ls ++ e ∷ [])) q f (lexed_whole o middle t next ls e p r end) refl

abbrev pub unflagged : List Lexeme → List FlaggedItem
unflagged [] = []
unflagged (l ∷ ls) = record { item = OfLexeme l; begins_key = false } ∷ unflagged ls

flagging_bare : (ls : List Lexeme) → AreBare ls → flagging (items_of ls) ≡ (unflagged ls, [])
flagging_bare [] b = refl
flagging_bare (l ∷ ls) b = flag_bare l (flagging (items_of ls)) (unflagged ls, []) (flagging_bare ls b.2) refl b.0

pub flagged_bare : (ls : List Lexeme) → AreBare ls → flagged (items_of ls) ≡ unflagged ls
flagged_bare ls b = ap (λ (x : Flagging). x.0) (flagging_bare ls b)

seen_unflagged : (ls : List Lexeme) → map terminal_seen (lexemes_flagged (unflagged ls)) ≡ seen ls
seen_unflagged [] = refl
seen_unflagged (l ∷ ls) = ap (λ (xs : List Terminal). terminal_of false no_scope l ∷ xs) (seen_unflagged ls)

terminals_bare : (ls : List Lexeme) → AreBare ls → terminals_of (items_of ls) ≡ seen ls
terminals_bare ls b =
    ap (λ (fs : List FlaggedItem). map terminal_seen (lexemes_flagged fs)) (flagged_bare ls b) ∙ seen_unflagged ls

abbrev pub stream_of : Option Rooted → At → Stream
stream_of None i = EndFresh Beginning i
stream_of (Some ro) i = EndRooted ro i

stream_spells : (r : Option Rooted) (i : At) → spell_stream (stream_of r i) []
    ≡ spell_start (start_behind r) (terminal TheEnd i ∷ [])
stream_spells None i = refl
stream_spells (Some ro) i = refl

stream_placed : (r : Option Rooted) (i : At) → RootsPlaced r (terminal TheEnd i) → StreamPlaced (stream_of r i)
stream_placed None i h = tt
stream_placed (Some ro) i h = h

stream_is_within : (n : ℕ) (r : Option Rooted) (i : At) → stream_within n (stream_of r i) ≡ roots_within n r
stream_is_within n None i = refl
stream_is_within n (Some ro) i = refl

pub stream_tells : (r : Option Rooted) (i : At) → stream_events (stream_of r i) []
    ≡ start_events (start_behind r) (shown_event StreamEnds i ∷ [])
stream_tells None i = refl
stream_tells (Some ro) i = refl

-- a whole text of lexemes without keys and comments that is read, with the events of its trees
pub record BareRead (o : OptionsData) (x : List ℕ) (es : List TreeEvent) : Type 0 where
  pub read : List Lexeme
  pub state : ReaderState
  pub bare : AreBare read
  pub whole : ReadWhole o (reader_start (start_of x)) (items_of read) true state
  pub reading : WholeReading o (terminals_of (items_of read)) es

abbrev pub no_anchors : Anchors
no_anchors = record { count = 0; names = [] }

-- lexemes that documents spell, and then the end
pub whole_read : (o : OptionsData) (x : List ℕ) (roots : Option Rooted) (after next : ReaderState) (a : Anchors)
    (p : Passage o (reader_start (start_of x)) no_anchors a (spell_start (start_behind roots)) after) (l : Lexeme)
    → Reads o after (OfLexeme l ∷ []) next → l.kind ≡ lexemes.StreamEnd → l.key ≡ None → l.tail ≡ None
    → RootsPlaced roots (terminal TheEnd (place_in a l)) → roots_within o.block_nesting_limit roots ≡ true
    → BareRead o x (stream_events (stream_of roots (place_in a l)) [])
whole_read o x roots after next a p l reads kind key tail placed within =
    let i = place_in a l in
    let ls = p.lexemes ++ l ∷ [] in
    let bare = lexed_bare o (reader_start (start_of x)) after p.lexemes l p.lexed key tail in
    let e = terminal_of false no_scope l in
    let same : terminal_kind l.kind l.key ≡ TheEnd = ap₂ terminal_kind kind key in
    let seen_ls : seen ls ≡ seen p.lexemes ++ e ∷ [] = seen_append p.lexemes (l ∷ []) in
    let last : scoped (scope_behind (seen p.lexemes) (scope_of no_anchors)) (e ∷ []) ≡ terminal TheEnd i ∷ [] =
    ap₂ (λ (s : Scope) (k : TerminalKind). terminal k (record (at_of false no_scope l) { scope = s }) ∷ []) p.scope
    same in
    let spelled : scoped no_scope (terminals_of (items_of ls))
    ≡ scoped (scope_of no_anchors) (seen p.lexemes) ++ terminal TheEnd i ∷ [] =
    ap (scoped no_scope) (terminals_bare ls bare ∙ seen_ls)
    ∙ scoped_append (scope_of no_anchors) (seen p.lexemes) (e ∷ [])
    ∙ ap (λ (xs : List Terminal). scoped (scope_of no_anchors) (seen p.lexemes) ++ xs) last in
    record {
      read = ls;
      state = next;
      bare = bare;
      whole = lexed_whole o (reader_start (start_of x)) after next p.lexemes l p.lexed reads (ap is_end_kind kind);
      reading = record {
        stream = stream_of roots i;
        spelled = stream_spells roots i ∙ p.spelled (terminal TheEnd i ∷ []) ∙ sym spelled;
        placed = stream_placed roots i placed;
        within = stream_is_within o.block_nesting_limit roots i ∙ within;
        means = subst (Means o) (sym spelled)
            (means_append o (scoped (scope_of no_anchors) (seen p.lexemes))
            (terminal TheEnd i ∷ []) p.means (refl, tt));
        events_are = refl;
      };
    }

-- the whole of canonical text, as it is read
pub record TextRead (o : OptionsData) (ts : PlainTrees) : Type 0 where
  pub tree_events : List TreeEvent
  pub text : BareRead o (flow_characters ts) tree_events
  pub told : events_told o tree_events ≡ canonical_events o ts

pub text_read : (o : OptionsData) (ts : PlainTrees) → DocumentsFit ts → HasCharacters ts
    → trees_depth ts ≤ o.flow_nesting_limit → TextRead o ts
text_read o ts fits written deep =
    let x = flow_characters ts in
    let d = documents_read o x ts [] (documents_spell ts fits written) fits deep starts_end refl in
    let a = past_documents ts in
    let q = reads_one o x [] [] TextEnd lexemes.StreamEnd [] [] [] false d.after d.before d.calm starts_end
    (λ y h e c f. ended_quietly o x y h e c (f ∙ d.opener)) in
    let i = place_in a q.lexeme in
    record {
      tree_events = stream_events (stream_of d.roots i) [];
      text = whole_read o x d.roots d.after q.after a d.passage q.lexeme q.reads q.kind_is q.key_is q.tail_is
          (d.placed (terminal TheEnd i)) (d.within o.block_nesting_limit);
      told = ap (events_told o) (stream_tells d.roots i) ∙ d.told (shown_event StreamEnds i ∷ [])
          ∙ ap (λ (s : Source). event_on plain.StreamStart text_start
          ∷ documents_before o x ts [] (event_at plain.StreamEnd s ∷ [])) q.shown_is;
    }
  where
    ended_quietly : (o : OptionsData) (x : List ℕ) (y : ReaderState) → Held x y.here → y.here.unread.text ≡ []
        → Calm [] y.laid → is_opener y.laid.last ≡ false
        → Taken o x [] TextEnd lexemes.StreamEnd [] [] [] false y
    ended_quietly o x y h e c f =
        subst (λ v. Taken o x [] TextEnd lexemes.StreamEnd [] [] [] v y) f (takes_end o x y h e c)

-- The whole block text is read as its documents.
use Rattle.granit_lexemes.specs.Lexeme as lexemes
use Rattle.granit_lexemes.specs.PlainEvent as plain
use Rattle.std.proofs.Common.{List, Option, [], ap, arith, refl, subst, sym, true, ℕ, ◌++◌, ◌∙◌, ◌∷◌, ◌≡◌, ◌≤◌}
use Rattle.std.proofs.Math.Nat.{le-max_left, le-max_right}
use Rattle.std.specs.Prelude.{None, Some}
use Rattle.granit_block_layout.proofs.Fronts.{open_behind, open_gap, open_text, opening}
use Rattle.granit_block_lines.proofs.Marks.{takes_end, takes_start}
use Rattle.granit_block_lines.proofs.Passing.{Follows, right_of}
use Rattle.granit_block_lines.proofs.Ready.{Begun, Ready, leads, none_past, outside}
use Rattle.granit_block_lines.proofs.Taking.{reads_one}
use Rattle.granit_block_layout.proofs.Telling.{documents_kinds, documents_tell}
use Rattle.granit_block_layout.proofs.Trees.{tree_read}
use Rattle.granit_block_layout.specs.Alike.{kinds_of}
use Rattle.granit_canonical_steps.proofs.Known.{knows_none}
use Rattle.granit_canonical_steps.proofs.Nodes.{dash_starts}
use Rattle.granit_canonical_steps.proofs.Passing.{Passage, passage_none, passage_one, passage_then, place_in}
use Rattle.granit_canonical_steps.proofs.Places.{Starts, starts_end, starts_held}
use Rattle.granit_canonical_steps.proofs.Spelling.{CanSpell, CanSpellTrees, documents_spell}
use Rattle.granit_canonical.proofs.Whole.{BareRead, RootsPlaced, no_anchors, no_version, roots_within, start_behind}
use Rattle.granit_canonical.proofs.Whole.{start_placed, start_within_roots, stream_of, stream_tells, whole_read}
use Rattle.granit_canonical_steps.specs.Canonical.{canonical_events, past_documents, past_tree, renewed, spot}
use Rattle.granit_error.specs.OptionsData.{OptionsData}
use Rattle.granit_generator.specs.BlockText.{block_characters, block_documents, block_node}
use Rattle.granit_language.specs.Node.{ExplicitRoot, Just, Rooted}
use Rattle.granit_language.specs.Room.{RightOf}
use Rattle.granit_language.specs.Telling.{events_told, version_told}
use Rattle.granit_language.specs.Terminal.{DocumentStart, Terminal, TheEnd, terminal}
use Rattle.granit_language.specs.TreeEvents.{DocumentEnds, DocumentStarts, StreamEnds, TreeEvent, node_end, node_events}
use Rattle.granit_language.specs.TreeEvents.{pointed, shown_event, start_events, start_version, stream_events}
use Rattle.granit_language.specs.Yield.{spell, spell_start}
use Rattle.granit_lexemes.specs.Here.{start_of}
use Rattle.granit_lexemes.specs.PlainEvent.{EventKind, event_on}
use Rattle.granit_machine.specs.LexemeSort.{StartMark, TextEnd}
use Rattle.granit_machine.specs.ReaderState.{ReaderState, reader_start}
use Rattle.granit_model.specs.Characters.{HasCharacters}
use Rattle.granit_model.specs.FlowText.{flow_characters}
use Rattle.granit_model.specs.Tree.{AfterTrees, DocumentsFit, NoTrees, PlainTree, PlainTrees, TreeFits, tree_depth}
use Rattle.granit_model.specs.Tree.{trees_depth}

-- documents that are read
pub record DocumentsRead (o : OptionsData) (x : List ℕ) (rest : List ℕ) (ts : PlainTrees) : Type 0 where
  pub after : ReaderState
  pub left : List ℕ
  pub roots : Option Rooted
  pub passage : Passage o (reader_start (start_of x)) no_anchors (past_documents ts) (spell_start (start_behind roots))
      after
  pub ready : Ready x rest [] left (Begun 0) after
  pub placed : (y : Terminal) → Follows x 0 rest y → RootsPlaced roots y
  pub within : roots_within o.block_nesting_limit roots ≡ true
  pub told : (more : List TreeEvent)
      → kinds_of (events_told o (start_events (start_behind roots) more))
      ≡ plain.StreamStart ∷ documents_tell o ts (kinds_of (events_told o more))

module _ (o : OptionsData) (x : List ℕ) where
  no_documents : (rest : List ℕ) → x ≡ rest → DocumentsRead o x rest NoTrees
  no_documents rest e = record {
    after = reader_start (start_of x);
    left = [];
    roots = None;
    passage = passage_none o (reader_start (start_of x)) no_anchors;
    ready = record {
      gap = [];
      held = starts_held x;
      text = e;
      is_gap = tt;
      lies = record { column = refl; begins = refl; tab = refl; past = none_past 1 };
      around = outside;
      columns = refl;
      cut = refl;
    };
    placed = λ y f. tt;
    within = refl;
    told = λ more. refl;
  }

  one_document : (rest : List ℕ) (ts : PlainTrees) (t : PlainTree) → CanSpell t → TreeFits t []
      → tree_depth t ≤ o.flow_nesting_limit → tree_depth t ≤ o.block_nesting_limit → Starts rest
      → DocumentsRead o x (0x2D ∷ 0x2D ∷ 0x2D ∷ block_node 0 t rest) ts → DocumentsRead o x rest (AfterTrees ts t)
  one_document rest ts t can fits flat deep starts d =
      let from = 0x2D ∷ 0x2D ∷ 0x2D ∷ (open_gap 0 t ++ open_text 0 t rest) in
      let same : 0x2D ∷ 0x2D ∷ 0x2D ∷ block_node 0 t rest ≡ from =
      ap (λ (l : List ℕ). 0x2D ∷ 0x2D ∷ 0x2D ∷ l) (opening 0 t rest) in
      let a = past_documents ts in
      let b = renewed a in
      let c = past_tree t b in
      let w = leads (open_behind 0 t) 0 in
      let q = reads_one o x [] [] d.left [] (Begun 0) w StartMark lexemes.DocumentStart from (open_text 0 t rest)
      d.after (subst (λ (l : List ℕ). Ready x l [] d.left (Begun 0) d.after) same d.ready)
      (dash_starts (0x2D ∷ 0x2D ∷ (open_gap 0 t ++ open_text 0 t rest)))
      (λ y f. takes_start o x (open_behind 0 t) d.left (open_text 0 t rest) y f) in
      let n = tree_read o x t [] can fits [] 0 0 rest rest q.after b (omega arith) (omega arith) starts refl
      (knows_none a.count) (omega (arith, deep)) flat q.ready in
      let i = place_in a q.lexeme in
      let first = passage_one o lexemes.DocumentStart d.after a b q.read refl refl refl in
      let marked_by = λ (more : List Terminal). terminal DocumentStart i ∷ more in
      let rear = passage_then o d.after q.after n.after a b c marked_by (spell n.node) first n.passage in
      let start = d.placed (terminal DocumentStart i)
      (record { start = q.start_is ∙ ap (spot x) (sym same); reaches = omega arith }) in
      record {
        after = n.after;
        left = n.left;
        roots = Some (ExplicitRoot (start_behind d.roots) i (Just n.node));
        passage = passage_then o (reader_start (start_of x)) d.after n.after no_anchors a c
            (spell_start (start_behind d.roots)) (λ more. marked_by (spell n.node more)) d.passage rear;
        ready = n.ready;
        placed = λ y f. (start_placed d.roots i start, n.placed (RightOf 0) right_of y f);
        within = n.within _ ∙ start_within_roots o.block_nesting_limit d.roots ∙ d.within;
        told = λ more.
            let last = pointed DocumentEnds (node_end n.node) ∷ more in
            d.told (shown_event (DocumentStarts true (start_version (start_behind d.roots))) i
            ∷ node_events n.node None last)
            ∙ ap (λ (v : Option (ℕ × ℕ)). plain.StreamStart ∷ documents_tell o ts
            (plain.DocumentStart true (version_told v) ∷ kinds_of (events_told o (node_events n.node None last))))
            (no_version d.roots)
            ∙ ap (λ (ks : List EventKind). plain.StreamStart ∷ documents_tell o ts
            (plain.DocumentStart true None ∷ ks)) (n.told None last);
      }

  documents_read : (ts : PlainTrees) (rest : List ℕ) → CanSpellTrees ts → DocumentsFit ts
      → trees_depth ts ≤ o.flow_nesting_limit → trees_depth ts ≤ o.block_nesting_limit → Starts rest
      → x ≡ block_documents ts rest → DocumentsRead o x rest ts
  documents_read NoTrees rest can fits flat deep starts e = no_documents rest e
  documents_read (AfterTrees ts t) rest can fits flat deep starts e =
      let left = le-max_left (trees_depth ts) (tree_depth t) in
      let right = le-max_right (trees_depth ts) (tree_depth t) in
      one_document rest ts t can.1 fits.1 (omega (arith, flat, right)) (omega (arith, deep, right)) starts
      (documents_read ts (0x2D ∷ 0x2D ∷ 0x2D ∷ block_node 0 t rest) can.0 fits.0 (omega (arith, flat, left))
      (omega (arith, deep, left)) (dash_starts (0x2D ∷ 0x2D ∷ block_node 0 t rest)) e)

-- the whole of block text, as it is read
pub record BlockRead (o : OptionsData) (ts : PlainTrees) : Type 0 where
  pub tree_events : List TreeEvent
  pub text : BareRead o (block_characters ts) tree_events
  pub told : kinds_of (events_told o tree_events) ≡ kinds_of (canonical_events o ts)

pub block_read : (o : OptionsData) (ts : PlainTrees) → DocumentsFit ts → HasCharacters ts
    → trees_depth ts ≤ o.flow_nesting_limit → trees_depth ts ≤ o.block_nesting_limit → BlockRead o ts
block_read o ts fits written flat deep =
    let x = block_characters ts in
    let y = flow_characters ts in
    let d = documents_read o x ts [] (documents_spell ts fits written) fits flat deep starts_end refl in
    let a = past_documents ts in
    let q = reads_one o x [] [] d.left [] (Begun 0) (Begun 0) TextEnd lexemes.StreamEnd [] [] d.after d.ready starts_end
    (λ s f. takes_end o x d.left s f) in
    let i = place_in a q.lexeme in
    record {
      tree_events = stream_events (stream_of d.roots i) [];
      text = whole_read o x d.roots d.after q.after a d.passage q.lexeme q.reads q.kind_is q.key_is q.tail_is
          (d.placed (terminal TheEnd i) (record { start = q.start_is; reaches = omega arith })) d.within;
      told = ap (λ (es : List TreeEvent). kinds_of (events_told o es)) (stream_tells d.roots i)
          ∙ d.told (shown_event StreamEnds i ∷ [])
          ∙ ap (λ (ks : List EventKind). plain.StreamStart ∷ ks)
          (sym (documents_kinds o y ts [] (event_on plain.StreamEnd (spot y []) ∷ [])));
    }

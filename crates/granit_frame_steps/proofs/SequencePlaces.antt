-- Steps at a document's root, behind a `-` and behind an entry of a block sequence.
use Rattle.granit_views.specs.Fair.{frame_ends_at}
use Rattle.granit_views.specs.Good.{Holes, at_root, at_entry, IsPositive}
use Rattle.granit_views.specs.Stepping.{taken, LimitView, at_kind}
use Rattle.granit_language.specs.Seen.{terminal_kind}
use Rattle.granit_event_machine.proofs.Limit.{same_left}
use Rattle.granit_event_machine.specs.EventMachine.{OpenFrame, DocumentFrame, SequenceFrame, EventState, InFrames}
use Rattle.granit_event_machine.specs.EventMachine.{Ending}
use Rattle.granit_event_machine.specs.EventMachine.{ending, with_event, finish_frames, frames_empty, nothing_frames}
use Rattle.granit_event_machine.specs.EventMachine.{GoesTo}
use Rattle.granit_event_machine.specs.EventMachine.{StopsWith, after_events, if_gives, take_frames, want_frames}
use Rattle.granit_event_machine.specs.Guarded.{blocks_open, first_fault}
use Rattle.granit_language.specs.Choice.{choose}
use Rattle.granit_language.specs.GrammarFault.{GrammarFault, UnexpectedEofBlockSequence, ExpectedBlockSequenceEntry}
use Rattle.granit_language.specs.GrammarFault.{fault_of}
use Rattle.granit_language.specs.Node.{NoProperties}
use Rattle.granit_language.specs.Room.{sequence_over}
use Rattle.granit_language.specs.Telling.{one_less}
use Rattle.granit_language.specs.Terminal.{Terminal, TerminalKind, Dash, At, is_dash_kind, stands_left, stands_in}
use Rattle.granit_language.specs.Terminal.{dash_in, entry_in}
use Rattle.granit_lexemes.specs.Lexeme.{KeyStart}
use Rattle.granit_language.specs.TreeEvents.{null, pointed, SequenceEnds}
use Rattle.granit_machine.specs.BlockSteps.{in_sequence}
use Rattle.granit_machine.specs.Frames.{ParserState}
use Rattle.granit_machine.specs.Giving.{put, null_at, give_empty}
use Rattle.granit_machine.specs.NodeEnds.{waits, with_top}
use Rattle.granit_machine.specs.NodeSteps.{take_dash, NextEntry}
use Rattle.granit_machine.specs.Parser.{take_token}
use Rattle.granit_machine.specs.TokenSort.{TokenSort, token_sort, begins_node, is_dash_token, column_of_token}
use Rattle.granit_machine.specs.TokenSort.{token_column, is_in_column, is_right_of, BeginsKey, BeginsNode, DashToken}
use Rattle.granit_machine.specs.TokenSort.{QuestionToken, BareColon, KeyedColon, CommaToken, SequenceCloser}
use Rattle.granit_machine.specs.TokenSort.{MappingCloser, OfStream}
use Rattle.std.proofs.Common.{◌≡◌, ℕ, suc, zero, Bool, true, false, arith, ◌||◌, ◌&&◌, ◌==◌, not, nat_lt, List, [], ◌∷◌}
use Rattle.std.proofs.Common.{refl, sym, ap, ap₂, ◌∙◌, subst, Option, Some, None, Result, Ok, Err}
use Rattle.std.proofs.lemmas.Bool.Decides.{nat_tests}
use Rattle.std.specs.Prelude.{nat_le, if◌then◌else◌}
use Rattle.granit_base.specs.Place.{Mark}
use Rattle.granit_error.specs.OptionsData.{OptionsData}
use Rattle.granit_lexemes.specs.Outcome.{Fault}
use Rattle.granit_lexemes.specs.Lexeme as lexemes
use Rattle.granit_machine.specs.Frames as machine
use Rattle.granit_views.proofs.Arrivals.{Arrival, arriving, arriving_token, beside_at, parser_at, StepsLimited}
use Rattle.granit_views.proofs.Dashes.{DashOr, a_dash, another, dash_or}
use Rattle.granit_node_steps.proofs.NodeTests.{joined_none, Tested, NodeOf, node_tested, dash_tested}
use Rattle.granit_views.proofs.Pops.{flushed}
use Rattle.granit_views.proofs.Sorts.{sort_is, right_column, stands_same}
use Rattle.granit_views.proofs.Views.{after_nothing, count_flat}
use Rattle.granit_views.proofs.Wants.{root_hole, entry_hole}

-- where nothing ends before a lexeme, it is taken
pub stays_taken :
    (e : Bool) (y : Ending) (st : EventState) (x : Terminal) → e ≡ false →
    taken (choose e y (ending st [])) x ≡ take_frames st x.kind x.at
stays_taken true y st x h = cc (h)
stays_taken false y st x h = after_nothing (take_frames st x.kind x.at)

-- ---- at the root of a document

right_zero : (k : ℕ) → nat_lt 0 (suc k) ≡ true
right_zero k = grind (arith, nat_tests)

and_true : (a b : Bool) → b ≡ true → (a && b) ≡ a
and_true true b e = e
and_true false b e = refl

root_empty :
    (m : Option Mark) (x : Terminal) → frame_ends_at x (InFrames (DocumentFrame m ∷ [])) ≡ false →
    frames_empty (DocumentFrame m ∷ []) x ≡ false
root_empty None x e = refl
root_empty (Some m) x e = e

abbrev pub RootStep : Bool → lexemes.LexemeKind → Option KeyStart → Arrival → Option Mark → Bool → Type 0
RootStep b k key a m r =
    LimitView a.options (arriving b k key a) (beside_at a)
    (Tested r (NodeOf b k key a NoProperties (DocumentFrame m ∷ [])) UnexpectedEofBlockSequence
    (arriving b k key a))
    (want_frames (DocumentFrame m ∷ []) NoProperties (terminal_kind k key) (arriving b k key a).at)

pub root_by :
    (b : Bool) (k : lexemes.LexemeKind) (key : Option KeyStart) (a : Arrival) (m : Option Mark) → DashOr b key k →
    nat_le 0 a.options.block_nesting_limit ≡ true → RootStep b k key a m (begins_node (token_sort b key k))
root_by b k key a m (another n) e =
    subst (RootStep b k key a m)
    (and_true (begins_node (token_sort b key k)) _ (right_zero a.lexeme.start.place.column))
    (node_tested b k key a NoProperties (DocumentFrame m ∷ []) at_root root_hole e
    (joined_none b (terminal_kind k key)) n)
root_by b lexemes.Dash key a m a_dash e =
    subst (RootStep b lexemes.Dash key a m) (right_zero a.lexeme.start.place.column)
    (dash_tested b key a NoProperties (DocumentFrame m ∷ []) at_root root_hole)

pub root_steps :
    (b : Bool) (k : lexemes.LexemeKind) (key : Option KeyStart) (a : Arrival) (m : Option Mark) →
    frame_ends_at (arriving b k key a) (InFrames (DocumentFrame m ∷ [])) ≡ false →
    nat_le 0 a.options.block_nesting_limit ≡ true →
    StepsLimited b k key a (DocumentFrame m ∷ [])
root_steps b k key a m f e =
    subst
    (LimitView a.options (arriving b k key a) (beside_at a)
    (take_token a.options (arriving_token b k key a) (parser_at (DocumentFrame m ∷ []) a)))
    (sym
    (stays_taken (frames_empty (DocumentFrame m ∷ []) (arriving b k key a))
    (nothing_frames (arriving b k key a) (DocumentFrame m ∷ []))
    (InFrames (DocumentFrame m ∷ [])) (arriving b k key a) (root_empty m (arriving b k key a) f)))
    (root_by b k key a m (dash_or b key k) e)

-- ---- behind a `-`

pub begins_right :
    (q : TokenSort) (k c : ℕ) → IsPositive c →
    (begins_node q && is_right_of (column_of_token q k) (Some (one_less c))) ≡ (begins_node q && nat_lt c (suc k))
begins_right BeginsKey k c p = right_column k c p
begins_right BeginsNode k c p = right_column k c p
begins_right DashToken k c p = right_column k c p
begins_right QuestionToken k c p = right_column k c p
begins_right BareColon k c p = right_column k c p
begins_right KeyedColon k c p = refl
begins_right CommaToken k c p = refl
begins_right SequenceCloser k c p = refl
begins_right MappingCloser k c p = refl
begins_right OfStream k c p = refl

-- what a lexeme that goes on with no entry finds
entry_same_empty :
    (left dash pair loose : Bool) → dash ≡ false → (left || (loose && pair)) ≡ false →
    (left || (dash || (loose && pair))) ≡ false
entry_same_empty true dash pair loose e f = cc (f)
entry_same_empty false true pair loose e f = cc (e)
entry_same_empty false false pair loose e f = f

abbrev Entry : Bool → ℕ → Mark → List OpenFrame → List OpenFrame
Entry loose c w fs = SequenceFrame loose c (Some w) ∷ fs

abbrev Chosen :
    Result ParserState Fault → Result ParserState Fault → GrammarFault → Terminal → Bool → Bool →
    Result ParserState Fault
Chosen y n stop x a r = if a then y else Tested r n stop x

abbrev Next : Bool → lexemes.LexemeKind → Option KeyStart → Arrival → Bool → List OpenFrame → Result ParserState Fault
Next b k key a loose fs =
    take_dash a.options (arriving_token b k key a) NextEntry loose
    (give_empty (parser_at fs a))

entry_other :
    (b : Bool) (k : lexemes.LexemeKind) (key : Option KeyStart) (a : Arrival) (loose : Bool) (c : ℕ) (w : Mark)
    (fs : List OpenFrame) → IsPositive c → Holes fs → is_dash_token (token_sort b key k) ≡ false →
    frame_ends_at (arriving b k key a) (InFrames (Entry loose c w fs)) ≡ false →
    nat_le (blocks_open (Entry loose c w fs)) a.options.block_nesting_limit ≡ true →
    StepsLimited b k key a (Entry loose c w fs)
unfolding in_sequence
entry_other b k key a loose c w fs p h n f e =
    subst
    (LimitView a.options (arriving b k key a) (beside_at a)
    (take_token a.options (arriving_token b k key a) (parser_at (Entry loose c w fs) a)))
    (sym
    (stays_taken (frames_empty (Entry loose c w fs) (arriving b k key a))
    (nothing_frames (arriving b k key a) (Entry loose c w fs))
    (InFrames (Entry loose c w fs)) (arriving b k key a)
    (entry_same_empty (stands_left (arriving b k key a) c) (dash_in (arriving b k key a) c)
    (entry_in (arriving b k key a) c) loose
    (ap (λ d. d && stands_in (arriving b k key a) c) (sym (sort_is b key k).dash ∙ n)) f)))
    (subst
    (λ r.
    LimitView a.options (arriving b k key a) (beside_at a) r
    (want_frames (Entry loose c w fs) NoProperties (terminal_kind k key) (arriving b k key a).at))
    (sym
    (ap₂
    (Chosen (Next b k key a loose (Entry loose c w fs))
    (NodeOf b k key a NoProperties (Entry loose c w fs)) UnexpectedEofBlockSequence
    (arriving b k key a))
    (ap (λ d. d && is_in_column (token_column (arriving_token b k key a)) (one_less c)) n)
    (begins_right (token_sort b key k) a.lexeme.start.place.column c p)))
    (node_tested b k key a NoProperties (Entry loose c w fs) (at_entry p h) entry_hole e
    (joined_none b (terminal_kind k key)) n))

-- a `-` that isn't in the column of its sequence
entry_dash_other :
    (b : Bool) (key : Option KeyStart) (a : Arrival) (loose : Bool) (c : ℕ) (w : Mark) (fs : List OpenFrame) →
    IsPositive c → Holes fs → stands_in (arriving b lexemes.Dash key a) c ≡ false →
    frame_ends_at (arriving b lexemes.Dash key a) (InFrames (Entry loose c w fs)) ≡ false →
    StepsLimited b lexemes.Dash key a (Entry loose c w fs)
unfolding in_sequence
entry_dash_other b key a loose c w fs p h n f =
    subst
    (LimitView a.options (arriving b lexemes.Dash key a) (beside_at a)
    (take_token a.options (arriving_token b lexemes.Dash key a) (parser_at (Entry loose c w fs) a)))
    (sym
    (stays_taken (frames_empty (Entry loose c w fs) (arriving b lexemes.Dash key a))
    (nothing_frames (arriving b lexemes.Dash key a) (Entry loose c w fs)) (InFrames (Entry loose c w fs))
    (arriving b lexemes.Dash key a)
    (entry_same_empty (stands_left (arriving b lexemes.Dash key a) c) (dash_in (arriving b lexemes.Dash key a) c)
    (entry_in (arriving b lexemes.Dash key a) c) loose n f)))
    (subst
    (λ r.
    LimitView a.options (arriving b lexemes.Dash key a) (beside_at a) r
    (want_frames (Entry loose c w fs) NoProperties (terminal_kind lexemes.Dash key)
    (arriving b lexemes.Dash key a).at))
    (sym
    (ap₂
    (Chosen (Next b lexemes.Dash key a loose (Entry loose c w fs))
    (NodeOf b lexemes.Dash key a NoProperties (Entry loose c w fs))
    UnexpectedEofBlockSequence
    (arriving b lexemes.Dash key a))
    (stands_same b a.scope (at_kind a.lexeme lexemes.Dash key) c p ∙ n)
    (begins_right DashToken a.lexeme.start.place.column c p)))
    (dash_tested b key a NoProperties (Entry loose c w fs) (at_entry p h) entry_hole))

pub column_is : (k c : ℕ) → IsPositive c → (suc k == c) ≡ true → k ≡ one_less c
column_is k zero p e = absurd p
column_is k (suc c) p e = grind (arith, nat_tests)

-- the next entry of a sequence, on both sides
abbrev Entered : OptionsData → lexemes.Lexeme → Bool → ℕ → ParserState → Result ParserState Fault
Entered o l loose k q = Ok (waits l.end o.max_buffered_comment_events (with_top (machine.BlockSequence k loose) q))

goes_entry :
    (x : Terminal) (loose : Bool) (c : ℕ) (w : Mark) (fs : List OpenFrame) (empty over same : Bool) (on : Ending) →
    empty ≡ true → over ≡ false → same ≡ true →
    taken
    (choose empty
    (with_event (null w None) (choose over on (ending (InFrames (SequenceFrame loose c None ∷ fs)) [])))
    (ending (InFrames (Entry loose c w fs)) []))
    x
    ≡ after_events (null w None ∷ []) (take_frames (InFrames (SequenceFrame loose c None ∷ fs)) x.kind x.at)
goes_entry x loose c w fs true false same on e f g = refl
goes_entry x loose c w fs true true same on e f g = cc (f)
goes_entry x loose c w fs false over same on e f g = cc (e)

sequence_goes_on :
    (loose : Bool) (c : ℕ) (x : Terminal) → dash_in x c ≡ true → stands_left x c ≡ false →
    sequence_over loose c x ≡ false
sequence_goes_on true c x e f = ap not e
sequence_goes_on false c x e f = f

entry_is_empty : (left dash both : Bool) → dash ≡ true → (left || (dash || both)) ≡ true
entry_is_empty true dash both e = refl
entry_is_empty false true both e = refl
entry_is_empty false false both e = cc (e)

entry_dash :
    (b : Bool) (key : Option KeyStart) (a : Arrival) (loose : Bool) (c : ℕ) (w : Mark) (fs : List OpenFrame) →
    IsPositive c → Holes fs → stands_in (arriving b lexemes.Dash key a) c ≡ true →
    nat_le (blocks_open (Entry loose c w fs)) a.options.block_nesting_limit ≡ true →
    StepsLimited b lexemes.Dash key a (Entry loose c w fs)
unfolding in_sequence take_dash
entry_dash b key a loose c w fs p h n e =
    subst
    (LimitView a.options (arriving b lexemes.Dash key a) (beside_at a)
    (take_token a.options (arriving_token b lexemes.Dash key a) (parser_at (Entry loose c w fs) a)))
    (sym
    (goes_entry (arriving b lexemes.Dash key a) loose c w fs _ _ true
    (with_event (pointed SequenceEnds a.lexeme.start) (finish_frames (arriving b lexemes.Dash key a) a.lexeme.start fs))
    (entry_is_empty (stands_left (arriving b lexemes.Dash key a) c) (dash_in (arriving b lexemes.Dash key a) c)
    (loose && entry_in (arriving b lexemes.Dash key a) c) n)
    (sequence_goes_on loose c (arriving b lexemes.Dash key a) n (same_left (suc a.lexeme.start.place.column) c n))
    refl
    ∙ ap
    (λ r.
    after_events (null w None ∷ [])
    (if_gives r ExpectedBlockSequenceEntry (GoesTo (InFrames (Entry loose c a.lexeme.end fs)) [])))
    n))
    (subst
    (λ t.
    LimitView a.options (arriving b lexemes.Dash key a) (beside_at a)
    (Chosen (Next b lexemes.Dash key a loose (Entry loose c w fs))
    (NodeOf b lexemes.Dash key a NoProperties (Entry loose c w fs))
    UnexpectedEofBlockSequence
    (arriving b lexemes.Dash key a) t (is_right_of (Some a.lexeme.start.place.column) (Some (one_less c))))
    (GoesTo (InFrames (Entry loose c a.lexeme.end fs)) (null w None ∷ [])))
    (sym (stands_same b a.scope (at_kind a.lexeme lexemes.Dash key) c p ∙ n))
    (subst
    (λ r.
    LimitView a.options (arriving b lexemes.Dash key a) (beside_at a) r
    (GoesTo (InFrames (Entry loose c a.lexeme.end fs)) (null w None ∷ [])))
    (sym
    (ap₂ (λ k q. Entered a.options a.lexeme loose k q) (column_is a.lexeme.start.place.column c p n)
    (flushed a.options w a.options.max_buffered_comment_events
    (put (null_at w) (parser_at (Entry loose c w fs) a))))) (
      (w, refl),
      ap (λ f. first_fault f None)
          (count_flat a.options.block_nesting_limit (suc (blocks_open fs)) (InFrames (Entry loose c a.lexeme.end fs))
          refl e),
    )))

entry_by :
    (b : Bool) (k : lexemes.LexemeKind) (key : Option KeyStart) (a : Arrival) (loose : Bool) (c : ℕ) (w : Mark)
    (fs : List OpenFrame) (q : Bool) → DashOr b key k → IsPositive c → Holes fs → stands_in (arriving b k key a) c ≡ q →
    frame_ends_at (arriving b k key a) (InFrames (Entry loose c w fs)) ≡ false →
    nat_le (blocks_open (Entry loose c w fs)) a.options.block_nesting_limit ≡ true →
    StepsLimited b k key a (Entry loose c w fs)
entry_by b k key a loose c w fs q (another n) p h t f e =
    entry_other b k key a loose c w fs p h n f e
entry_by b lexemes.Dash key a loose c w fs true a_dash p h t f e =
    entry_dash b key a loose c w fs p h t e
entry_by b lexemes.Dash key a loose c w fs false a_dash p h t f e =
    entry_dash_other b key a loose c w fs p h t f

pub entry_steps :
    (b : Bool) (k : lexemes.LexemeKind) (key : Option KeyStart) (a : Arrival) (loose : Bool) (c : ℕ) (w : Mark)
    (fs : List OpenFrame) → IsPositive c →
    Holes fs → frame_ends_at (arriving b k key a) (InFrames (Entry loose c w fs)) ≡ false →
    nat_le (blocks_open (Entry loose c w fs)) a.options.block_nesting_limit ≡ true →
    StepsLimited b k key a (Entry loose c w fs)
entry_steps b k key a loose c w fs p h f e =
    entry_by b k key a loose c w fs (stands_in (arriving b k key a) c) (dash_or b key k) p h refl f e

-- ---- behind an entry

abbrev Past : Bool → ℕ → List OpenFrame → List OpenFrame
Past loose c fs = SequenceFrame loose c None ∷ fs

no_entry :
    (kind : TerminalKind) (i : At) (loose : Bool) (c : ℕ) (fs : List OpenFrame) → is_dash_kind kind ≡ false →
    take_frames (InFrames (Past loose c fs)) kind i ≡ StopsWith ExpectedBlockSequenceEntry
no_entry Dash i loose c fs e = cc (e)
no_entry kind i loose c fs e = refl

past_other :
    (b : Bool) (k : lexemes.LexemeKind) (key : Option KeyStart) (a : Arrival) (loose : Bool) (c : ℕ)
    (fs : List OpenFrame) →
    is_dash_token (token_sort b key k) ≡ false → sequence_over loose c (arriving b k key a) ≡ false →
    StepsLimited b k key a (Past loose c fs)
unfolding in_sequence
past_other b k key a loose c fs n f =
    subst
    (LimitView a.options (arriving b k key a) (beside_at a)
    (take_token a.options (arriving_token b k key a) (parser_at (Past loose c fs) a)))
    (sym
    (stays_taken (sequence_over loose c (arriving b k key a))
    (with_event (pointed SequenceEnds a.lexeme.start) (finish_frames (arriving b k key a) a.lexeme.start fs))
    (InFrames (Past loose c fs))
    (arriving b k key a) f
    ∙ no_entry (terminal_kind k key) (arriving b k key a).at loose c fs (sym (sort_is b key k).dash ∙ n)))
    (subst
    (λ t.
    LimitView a.options (arriving b k key a) (beside_at a)
    (if t then Next b k key a loose (Past loose c fs)
    else Err (fault_of ExpectedBlockSequenceEntry (arriving b k key a)))
    (StopsWith ExpectedBlockSequenceEntry))
    (sym (ap (λ d. d && is_in_column (token_column (arriving_token b k key a)) (one_less c)) n)) refl)

past_dash :
    (b : Bool) (key : Option KeyStart) (a : Arrival) (loose : Bool) (c : ℕ) (fs : List OpenFrame) (same : Bool) →
    IsPositive c → (suc a.lexeme.start.place.column == c) ≡ same →
    nat_le (blocks_open (Past loose c fs)) a.options.block_nesting_limit ≡ true →
    LimitView a.options (arriving b lexemes.Dash key a) (beside_at a)
    (if same then Next b lexemes.Dash key a loose (Past loose c fs)
    else Err (fault_of ExpectedBlockSequenceEntry (arriving b lexemes.Dash key a)))
    (if_gives same ExpectedBlockSequenceEntry (GoesTo (InFrames (Entry loose c a.lexeme.end fs)) []))
unfolding take_dash
past_dash b key a loose c fs true p t e = (
  (
    a.last,
    ap (λ k. waits a.lexeme.end a.options.max_buffered_comment_events
        (with_top (machine.BlockSequence k loose) (parser_at (Past loose c fs) a)))
        (column_is a.lexeme.start.place.column c p t),
  ),
  ap (λ f. first_fault f None)
      (count_flat a.options.block_nesting_limit (suc (blocks_open fs)) (InFrames (Entry loose c a.lexeme.end fs)) refl
      e),
)
past_dash b key a loose c fs false p t e = refl

past_by :
    (b : Bool) (k : lexemes.LexemeKind) (key : Option KeyStart) (a : Arrival) (loose : Bool) (c : ℕ)
    (fs : List OpenFrame) → DashOr b key k → IsPositive c → sequence_over loose c (arriving b k key a) ≡ false →
    nat_le (blocks_open (Past loose c fs)) a.options.block_nesting_limit ≡ true →
    StepsLimited b k key a (Past loose c fs)
unfolding in_sequence
past_by b k key a loose c fs (another n) p f e = past_other b k key a loose c fs n f
past_by b lexemes.Dash key a loose c fs a_dash p f e =
    subst
    (LimitView a.options (arriving b lexemes.Dash key a) (beside_at a)
    (take_token a.options (arriving_token b lexemes.Dash key a) (parser_at (Past loose c fs) a)))
    (sym
    (stays_taken (sequence_over loose c (arriving b lexemes.Dash key a))
    (with_event (pointed SequenceEnds a.lexeme.start) (finish_frames (arriving b lexemes.Dash key a) a.lexeme.start fs))
    (InFrames (Past loose c fs)) (arriving b lexemes.Dash key a) f))
    (subst
    (λ t.
    LimitView a.options (arriving b lexemes.Dash key a) (beside_at a)
    (if t then Next b lexemes.Dash key a loose (Past loose c fs)
    else Err (fault_of ExpectedBlockSequenceEntry (arriving b lexemes.Dash key a)))
    (if_gives (stands_in (arriving b lexemes.Dash key a) c) ExpectedBlockSequenceEntry
    (GoesTo (InFrames (Entry loose c a.lexeme.end fs)) [])))
    (sym (stands_same b a.scope (at_kind a.lexeme lexemes.Dash key) c p))
    (past_dash b key a loose c fs (stands_in (arriving b lexemes.Dash key a) c) p refl e))

pub past_steps :
    (b : Bool) (k : lexemes.LexemeKind) (key : Option KeyStart) (a : Arrival) (loose : Bool) (c : ℕ)
    (fs : List OpenFrame) → IsPositive c →
    frame_ends_at (arriving b k key a) (InFrames (Past loose c fs)) ≡ false →
    nat_le (blocks_open (Past loose c fs)) a.options.block_nesting_limit ≡ true →
    StepsLimited b k key a (Past loose c fs)
past_steps b k key a loose c fs p f e =
    past_by b k key a loose c fs (dash_or b key k) p f e

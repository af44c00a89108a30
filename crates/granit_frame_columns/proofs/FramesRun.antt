-- The frames that the parser has behind lexemes, with the columns that the reader keeps.
use Rattle.std.proofs.Common.{◌≡◌, ℕ, Bool, true, false, List, [], ◌∷◌, map, Option, Some, None, ◌⊎◌, inl, inr, Result}
use Rattle.std.proofs.Common.{Ok, Err, refl, sym, ap, ◌∙◌, subst}
use Rattle.std.specs.Prelude.{nat_lt, nat_le}
use Rattle.granit_error.specs.OptionsData.{OptionsData}
use Rattle.granit_views.specs.Fair.{frame_ends_at}
use Rattle.granit_views.specs.Good.{Good}
use Rattle.granit_views.specs.Running.{ComesTo, FairNext, Knows, NextView, ParserSeen}
use Rattle.granit_views.specs.Stepping.{at_kind, taken}
use Rattle.granit_views.specs.View.{Beside, frames_of, item_of, state_of}
use Rattle.granit_views.proofs.Closes.{close_agrees}
use Rattle.granit_agreement.proofs.WholeRuns.{Emptied, Fed, Cleared, fed_ok, fed_is, seen_cleared, knows_cleared}
use Rattle.granit_agreement.proofs.WholeRuns.{fault_passed}
use Rattle.granit_frame_steps.proofs.WholeSteps.{step_next}
use Rattle.granit_event_machine.specs.EventMachine.{OpenFrame, Key, KeyDone, Asking, AskDone, Opened, Solo, Done, Value}
use Rattle.granit_event_machine.specs.EventMachine.{DocumentFrame, PropertiesFrame, SequenceFrame, MappingFrame}
use Rattle.granit_event_machine.specs.EventMachine.{FlowSequenceFrame, FlowMappingFrame, FlowPairFrame, EventState}
use Rattle.granit_event_machine.specs.EventMachine.{IsFresh}
use Rattle.granit_event_machine.specs.EventMachine.{HasDirectives, IsRooted, InFrames, IsEnded, EventStep, GoesTo}
use Rattle.granit_event_machine.specs.EventMachine.{StopsWith}
use Rattle.granit_event_machine.specs.EventMachine.{ended_by}
use Rattle.granit_event_machine.specs.Guarded.{state_count, is_loose}
use Rattle.granit_language.specs.GrammarFault.{TooManyBlocks}
use Rattle.granit_language.specs.OpenColumns.{AtMost, Falls}
use Rattle.granit_language.specs.Reading.{begins_kind}
use Rattle.granit_language.specs.Scope.{Scope}
use Rattle.granit_language.specs.Scoping.{next_scope}
use Rattle.granit_language.specs.Seen.{Flagged, terminal_of, terminal_kind}
use Rattle.granit_language.specs.Telling.{one_less}
use Rattle.granit_language.specs.Terminal.{TerminalKind, Directive, DocumentStart, DocumentEnd, TheEnd, Dash, Question}
use Rattle.granit_language.specs.Terminal.{Comma, Colon, Close, Part, At, Terminal, edge, reach_of}
use Rattle.granit_lexemes.specs.Lexeme as lexemes
use Rattle.granit_lexemes.specs.Outcome.{Fault, ◌>>=◌}
use Rattle.granit_lexemes.specs.PlainEvent.{PlainEvent}
use Rattle.granit_lexemes.specs.declared.layout.Bracket.{Bracket}
use Rattle.granit_machine.specs.BlockSteps.{in_sequence, behind_indicator}
use Rattle.granit_machine.specs.Frames.{ParserState, Frame}
use Rattle.granit_machine.specs.Machine.{feed_all}
use Rattle.granit_machine.specs.Closing.{close}
use Rattle.granit_lexemes.specs.Pieces.{with_front}
use Rattle.granit_machine.specs.Parser.{take_token}
use Rattle.granit_machine.specs.TokenSort.{token_of}
use Rattle.granit_places.proofs.ColumnsKept.{chosen, pop, unless_top, push, pop_at_most, pop_below, at_most_more}
use Rattle.granit_order.specs.FrameColumns.{block_columns, due_along}
use Rattle.granit_order.specs.Order.{open_behind, due_if, due_behind, may_follow, InOrder, EndsThere, OrderedFrom}
use Rattle.granit_order.proofs.ColumnLists.{due_pushed, columns_behind, KeysTo}
use Rattle.granit_frame_columns.proofs.ColumnCloses.{open_columns, state_columns, StateSits, Holds, sits_fall}
use Rattle.granit_frame_columns.proofs.ColumnCloses.{closed_columns}
use Rattle.granit_frame_columns.proofs.ColumnCloses.{begun_if, stepped}
use Rattle.granit_frame_columns.proofs.ColumnSteps.{step_holds}
use Rattle.granit_order.proofs.Enclosing.{Suits, suits_fresh, suits_directed, suits_rooted, suits_blocks, suits_item}
use Rattle.granit_order.proofs.Enclosing.{suits_curly, suits_curly_asked, suits_curly_value, suits_made_value}
use Rattle.granit_order.proofs.Enclosing.{suits_pair_asked, suits_pair_value, suits_one, suits_two, suits_past_entry}
use Rattle.granit_order.proofs.Enclosing.{suits_key_done, suits_ask_done, suits_done, suits_item_done}
use Rattle.granit_order.proofs.Enclosing.{suits_curly_key_done, suits_curly_ask_done, suits_curly_solo}
use Rattle.granit_order.proofs.Enclosing.{suits_curly_done, suits_made_key_done, suits_made_done}
use Rattle.granit_order.proofs.Enclosing.{suits_square_ask_done, suits_square_done, suits_fair}
use Rattle.granit_order.proofs.KeysKept.{Aim}
use Rattle.granit_order.proofs.OrderSteps.{On, closed_suits, taken_suits}

-- ---- the columns of frames, and what is due

abbrev DueOver : Option ℕ → List ℕ → Type 0
DueOver None cs = Unit {0}
DueOver (Some d) cs = AtMost d cs

-- columns of a state, those that are kept with the one that is due
pub record Stands (st : EventState) (due : Option ℕ) (cs : List ℕ) : Type 0 where
  pub columns : state_columns st ≡ due_pushed due cs
  pub over : DueOver due cs
  pub sits : StateSits st

none_gone : (k : ℕ) (ns : List ℕ) → AtMost k ns → pop k ns ≡ ns
none_gone k [] p = refl
none_gone k (n ∷ ns) p = ap (λ v. chosen v (pop k ns) (n ∷ ns)) p.0

top_kept : (k d : ℕ) (ns : List ℕ) → nat_lt k d ≡ false → pop k (d ∷ ns) ≡ d ∷ ns
top_kept k d ns e = ap (λ v. chosen v (pop k ns) (d ∷ ns)) e

-- behind a lexeme with no key due
module _ (i : At) (cs : List ℕ) (falls : Falls cs) where
  abbrev Next : TerminalKind → Option ℕ → Type 0
  Next kind due =
      (begun_if (begins_kind kind i.begins_key) (edge i) (pop (reach_of kind i) cs)
      ≡ due_pushed (due_behind [] kind i due) (columns_behind [] kind i due cs))
      × DueOver (due_behind [] kind i due) (columns_behind [] kind i due cs)

  part_free : (flag : Bool) → (begun_if flag (edge i) (pop (edge i) cs)
      ≡ due_pushed (due_if flag (edge i) None) (pop (edge i) cs))
      × DueOver (due_if flag (edge i) None) (pop (edge i) cs)
  part_free true = (refl, pop_below (edge i) cs falls)
  part_free false = (refl, tt)

  free_next : (kind : TerminalKind) → Next kind None
  free_next (Part k) = part_free i.begins_key
  free_next (Colon None) = (refl, tt)
  free_next (Colon (Some n)) = (refl, tt)
  free_next kind = (refl, tt)

-- behind one inside a key that is due
module _ (i : At) (d : ℕ) (cs : List ℕ) (over : AtMost d cs) where
  abbrev Within : TerminalKind → Type 0
  Within kind =
      (begun_if (begins_kind kind i.begins_key) (edge i) (pop (reach_of kind i) (push d cs))
      ≡ due_pushed (due_behind [] kind i (Some d)) (columns_behind [] kind i (Some d) cs))
      × DueOver (due_behind [] kind i (Some d)) (columns_behind [] kind i (Some d) cs)

  stays_due : (r : ℕ) → nat_lt r d ≡ false → (pop r (push d cs) ≡ push d (pop r cs)) × AtMost d (pop r cs)
  stays_due r e = (
    top_kept r d (unless_top d cs) e
        ∙ sym (ap (push d) (none_gone r cs (at_most_more r d cs e over))),
    pop_at_most d r cs over,
  )

  part_due : (flag : Bool) → flag ≡ false → nat_lt (edge i) d ≡ false
      → (begun_if flag (edge i) (pop (edge i) (push d cs))
      ≡ due_pushed (due_if flag (edge i) (Some d)) (pop (edge i) cs))
      × DueOver (due_if flag (edge i) (Some d)) (pop (edge i) cs)
  part_due true f e = absurd cc
  part_due false f e = stays_due (edge i) e

  due_next : (kind : TerminalKind) → begins_kind kind i.begins_key ≡ false → nat_lt (reach_of kind i) d ≡ false
      → Within kind
  due_next (Part k) f e = part_due i.begins_key f e
  due_next (Directive v) f e = stays_due 0 e
  due_next DocumentStart f e = stays_due 0 e
  due_next DocumentEnd f e = stays_due 0 e
  due_next TheEnd f e = stays_due 0 e
  due_next Dash f e = absurd cc
  due_next Question f e = absurd cc
  due_next Comma f e = stays_due (edge i) e
  due_next (Close b) f e = stays_due (edge i) e
  due_next (Colon None) f e = absurd cc
  due_next (Colon (Some n)) f e = ((stays_due (edge i) e).0, tt)

next_stands : (x : Terminal) (bs : List Bracket) (due : Option ℕ) (may : Bool) (cs : List ℕ) (st after : EventState)
    → InOrder bs due may x → Stands st due cs
    → Holds (stepped bs x.kind x.at (closed_columns bs (reach_of x.kind x.at) (state_columns st))) after
    → Stands after (due_behind bs x.kind x.at due) (columns_behind bs x.kind x.at due cs)
next_stands x (b ∷ bs) due may cs st after o s h = record { columns = h.0 ∙ s.columns; over = s.over; sits = h.1 }
next_stands x [] None may cs st after o s h =
    let n = free_next x.at cs (subst Falls s.columns (falls_of st s.sits)) x.kind in
    record {
      columns = h.0 ∙ ap (λ ns. begun_if (begins_kind x.kind x.at.begins_key) (edge x.at)
          (pop (reach_of x.kind x.at) ns)) s.columns ∙ n.0;
      over = n.1;
      sits = h.1;
    }
  where
    falls_of : (st : EventState) → StateSits st → Falls (state_columns st)
    falls_of (InFrames fs) s = sits_fall fs s
    falls_of IsFresh s = tt
    falls_of (HasDirectives v) s = tt
    falls_of (IsRooted m) s = tt
    falls_of IsEnded s = tt
next_stands x [] (Some d) may cs st after o s h =
    let n = due_next x.at d cs s.over x.kind (o.begins_none d refl refl) (o.stands_right d refl refl) in
    record {
      columns = h.0 ∙ ap (λ ns. begun_if (begins_kind x.kind x.at.begins_key) (edge x.at)
          (pop (reach_of x.kind x.at) ns)) s.columns ∙ n.0;
      over = n.1;
      sits = h.1;
    }

-- ---- as the parser has them

frames_counted : (o : OptionsData) (fs : List OpenFrame)
    → block_columns (frames_of o fs) ≡ map one_less (open_columns fs)
frames_counted o [] = refl
frames_counted o (SequenceFrame true c w ∷ fs) = frames_counted o fs
frames_counted o (SequenceFrame false c w ∷ fs) = ap (λ (ns : List ℕ). one_less c ∷ ns) (frames_counted o fs)
frames_counted o (MappingFrame c at ∷ fs) = ap (λ (ns : List ℕ). one_less c ∷ ns) (frames_counted o fs)
frames_counted o (DocumentFrame m ∷ fs) = frames_counted o fs
frames_counted o (PropertiesFrame p ∷ fs) = frames_counted o fs
frames_counted o (FlowSequenceFrame d ∷ fs) = frames_counted o fs
frames_counted o (FlowMappingFrame single at ∷ fs) = frames_counted o fs
frames_counted o (FlowPairFrame at ∷ fs) = frames_counted o fs

-- behind the end only the frames count
abbrev Shows : EventState → ParserState → Type 0
Shows IsEnded p = block_columns p.frames ≡ []
Shows st p = Unit {0}

state_counted : (o : OptionsData) (st : EventState) (d : Beside) (p : ParserState) → ParserSeen o st p d → Shows st p
    → block_columns p.frames ≡ map one_less (state_columns st)
state_counted o IsFresh d p e h = ap (λ (p : ParserState). block_columns p.frames) e
state_counted o (HasDirectives v) d p e h = ap (λ (p : ParserState). block_columns p.frames) e
state_counted o (IsRooted m) d p e h = ap (λ (p : ParserState). block_columns p.frames) e
state_counted o (InFrames fs) d p e h = ap (λ (p : ParserState). block_columns p.frames) e ∙ frames_counted o fs
state_counted o IsEnded d p e h = h

-- ---- the end

abbrev frames_in : Result ParserState Fault → List Frame
frames_in (Ok p) = p.frames
frames_in (Err f) = []

module _ (o : OptionsData) (b : Bool) (s : Scope) (l : lexemes.Lexeme) (key : Option lexemes.KeyStart) where
  frames_gone : (st : EventState) (d : Beside)
      → frame_ends_at (terminal_of b s (at_kind l lexemes.StreamEnd key)) st ≡ false
      → frames_in (take_token o (token_of b (at_kind l lexemes.StreamEnd key)) (state_of o st d)) ≡ []
  unfolding in_sequence behind_indicator
  frames_gone IsFresh d e = refl
  frames_gone (HasDirectives v) d e = refl
  frames_gone (IsRooted m) d e = refl
  frames_gone IsEnded d e = refl
  frames_gone (InFrames []) d e = refl
  frames_gone (InFrames (DocumentFrame m ∷ fs)) d e = refl
  frames_gone (InFrames (PropertiesFrame p ∷ fs)) d e = absurd cc
  frames_gone (InFrames (SequenceFrame loose c None ∷ fs)) d e = refl
  frames_gone (InFrames (SequenceFrame loose c (Some w) ∷ fs)) d e = refl
  frames_gone (InFrames (MappingFrame c Opened ∷ fs)) d e = refl
  frames_gone (InFrames (MappingFrame c Key ∷ fs)) d e = refl
  frames_gone (InFrames (MappingFrame c KeyDone ∷ fs)) d e = refl
  frames_gone (InFrames (MappingFrame c Asking ∷ fs)) d e = refl
  frames_gone (InFrames (MappingFrame c AskDone ∷ fs)) d e = refl
  frames_gone (InFrames (MappingFrame c Solo ∷ fs)) d e = refl
  frames_gone (InFrames (MappingFrame c Done ∷ fs)) d e = refl
  frames_gone (InFrames (MappingFrame c (Value w) ∷ fs)) d e = refl
  frames_gone (InFrames (FlowSequenceFrame true ∷ fs)) d e = refl
  frames_gone (InFrames (FlowSequenceFrame false ∷ fs)) d e = refl
  frames_gone (InFrames (FlowMappingFrame true Opened ∷ fs)) d e = refl
  frames_gone (InFrames (FlowMappingFrame true Key ∷ fs)) d e = refl
  frames_gone (InFrames (FlowMappingFrame true KeyDone ∷ fs)) d e = refl
  frames_gone (InFrames (FlowMappingFrame true Asking ∷ fs)) d e = refl
  frames_gone (InFrames (FlowMappingFrame true AskDone ∷ fs)) d e = refl
  frames_gone (InFrames (FlowMappingFrame true Solo ∷ fs)) d e = refl
  frames_gone (InFrames (FlowMappingFrame true Done ∷ fs)) d e = refl
  frames_gone (InFrames (FlowMappingFrame true (Value w) ∷ fs)) d e = refl
  frames_gone (InFrames (FlowMappingFrame false Opened ∷ fs)) d e = refl
  frames_gone (InFrames (FlowMappingFrame false Key ∷ fs)) d e = refl
  frames_gone (InFrames (FlowMappingFrame false KeyDone ∷ fs)) d e = refl
  frames_gone (InFrames (FlowMappingFrame false Asking ∷ fs)) d e = refl
  frames_gone (InFrames (FlowMappingFrame false AskDone ∷ fs)) d e = refl
  frames_gone (InFrames (FlowMappingFrame false Solo ∷ fs)) d e = refl
  frames_gone (InFrames (FlowMappingFrame false Done ∷ fs)) d e = refl
  frames_gone (InFrames (FlowMappingFrame false (Value w) ∷ fs)) d e = refl
  frames_gone (InFrames (FlowPairFrame Opened ∷ fs)) d e = refl
  frames_gone (InFrames (FlowPairFrame Key ∷ fs)) d e = refl
  frames_gone (InFrames (FlowPairFrame KeyDone ∷ fs)) d e = refl
  frames_gone (InFrames (FlowPairFrame Asking ∷ fs)) d e = refl
  frames_gone (InFrames (FlowPairFrame AskDone ∷ fs)) d e = absurd cc
  frames_gone (InFrames (FlowPairFrame Solo ∷ fs)) d e = refl
  frames_gone (InFrames (FlowPairFrame Done ∷ fs)) d e = absurd cc
  frames_gone (InFrames (FlowPairFrame (Value w) ∷ fs)) d e = refl

  end_frames : (st : EventState) (d : Beside) (p : ParserState) → Good st
      → Rattle.granit_views.specs.Fair.Fair (terminal_of b s (at_kind l lexemes.StreamEnd key)) st
      → (close o (token_of b (at_kind l lexemes.StreamEnd key)) (state_of o st d) >>= take_token o
      (token_of b (at_kind l lexemes.StreamEnd key))) ≡ Ok p → p.frames ≡ []
  end_frames st d p g f e =
      let c = close_agrees b s (at_kind l lexemes.StreamEnd key) o st d g f in
      let v = c.viewed in
      sym (ap frames_in e) ∙ ap (λ r. frames_in (r >>= take_token o (token_of b (at_kind l lexemes.StreamEnd key))))
      (c.closes_to ∙ ap (λ (p : ParserState). Ok p) v.view) ∙ frames_gone v.closed_state _ v.stays

end_of : (kind : lexemes.LexemeKind) (key : Option lexemes.KeyStart) → terminal_kind kind key ≡ TheEnd
    → kind ≡ lexemes.StreamEnd
end_of lexemes.StreamEnd key e = refl
end_of (lexemes.Directive d) key e = absurd cc
end_of lexemes.DocumentStart key e = absurd cc
end_of lexemes.DocumentEnd key e = absurd cc
end_of (lexemes.Open b) key e = absurd cc
end_of (lexemes.Close b) key e = absurd cc
end_of lexemes.Comma key e = absurd cc
end_of lexemes.Dash key e = absurd cc
end_of lexemes.Question key e = absurd cc
end_of lexemes.Colon key e = absurd cc
end_of (lexemes.Alias name) key e = absurd cc
end_of (lexemes.Anchor name) key e = absurd cc
end_of (lexemes.Tag handle suffix) key e = absurd cc
end_of (lexemes.Scalar style text) key e = absurd cc

abbrev Lives : EventState → Type 0
Lives IsEnded = ⊥
Lives st = Unit {0}

lives : {bs : List Bracket} {due : Option ℕ} {may : Bool} {st : EventState} → Suits bs due may st → Lives st
lives suits_fresh = tt
lives suits_directed = tt
lives suits_rooted = tt
lives (suits_blocks a) = tt
lives (suits_item a) = tt
lives (suits_curly a) = tt
lives (suits_curly_asked a) = tt
lives (suits_curly_value a) = tt
lives (suits_made_value a) = tt
lives (suits_pair_asked a) = tt
lives (suits_pair_value a) = tt
lives (suits_one a b) = tt
lives (suits_two a b) = tt
lives (suits_past_entry a) = tt
lives (suits_key_done a) = tt
lives (suits_ask_done a) = tt
lives (suits_done a) = tt
lives (suits_item_done a) = tt
lives (suits_curly_key_done a) = tt
lives (suits_curly_ask_done a) = tt
lives (suits_curly_solo a) = tt
lives (suits_curly_done a) = tt
lives (suits_made_key_done a) = tt
lives (suits_made_done a) = tt
lives (suits_square_ask_done a) = tt
lives (suits_square_done a) = tt

-- ---- runs

pub record LandsAt (z : Aim) (due : Option ℕ) (q : ParserState) : Type 0 where
  pub brackets : List Bracket
  pub columns : List ℕ
  pub says : z brackets due columns
  pub are : block_columns q.frames ≡ map one_less (due_pushed due columns)

abbrev state_or : ParserState → Result (List PlainEvent × ParserState) Fault → ParserState
state_or p (Ok y) = y.1
state_or p (Err f) = p

module _ (o : OptionsData) (z : Aim) where
  abbrev Goes : List Flagged → Type 0
  Goes fs =
      (s : Scope) (bs : List Bracket) (due : Option ℕ) (may : Bool) (cs : List ℕ) (st : EventState) (d : Beside)
      (p : ParserState) (gs : List PlainEvent) (q : ParserState) →
      ComesTo st → Knows o st s d → nat_le (state_count st) o.block_nesting_limit ≡ true → d.given ≡ []
      → (Suits bs due may st ⊎ ((st ≡ IsEnded) × (fs ≡ []))) → Stands st due cs →
      OrderedFrom fs s bs due may → KeysTo z fs s bs due cs → ParserSeen o st p d → Shows st p
      → feed_all o (map item_of fs) p ≡ Ok (gs, q) → LandsAt z (due_along fs s bs due) q

  unfront : (es gs : List PlainEvent) (q : ParserState) (r : Result (List PlainEvent × ParserState) Fault)
      → with_front es r ≡ Ok (gs, q) → (hs : List PlainEvent) × (r ≡ Ok (hs, q))
  unfront es gs q (Ok y) e = let f : y.1 ≡ q = ap (state_or q) e in (y.0, ap (λ (q : ParserState). Ok (y.0, q)) f)
  unfront es gs q (Err f) e = absurd cc

  module _ (f : Flagged) (fs : List Flagged) (s : Scope) (bs : List Bracket) (due : Option ℕ) (may : Bool) (cs : List ℕ)
      (st : EventState) (d : Beside) (gs : List PlainEvent) (q : ParserState) (stands : Stands st due cs)
      (ordered : OrderedFrom (f ∷ fs) s bs due may) (keys : KeysTo z (f ∷ fs) s bs due cs) (go : Goes fs) where
    abbrev here : Terminal
    here = terminal_of f.1 s f.0

    shows_at : (after : EventState) (p : ParserState) → On bs due here.kind here.at after
        → (here.kind ≡ TheEnd → p.frames ≡ []) → Shows after (Emptied p)
    shows_at IsFresh p on ends = tt
    shows_at (HasDirectives v) p on ends = tt
    shows_at (IsRooted m) p on ends = tt
    shows_at (InFrames gs) p on ends = tt
    shows_at IsEnded p (inl a) ends = absurd (lives a)
    shows_at IsEnded p (inr a) ends = ap block_columns (ends a.1)

    goes_to : (after : EventState) → On bs due here.kind here.at after
        → Suits (open_behind here.kind bs) (due_behind bs here.kind here.at due) (may_follow here.kind) after
        ⊎ ((after ≡ IsEnded) × (fs ≡ []))
    goes_to after (inl a) = inl a
    goes_to after (inr a) = inr (a.0, subst (λ kind. EndsThere kind fs) a.1 ordered.1)

    step : (r : Result ParserState Fault) (y : EventStep) → d.given ≡ [] → NextView o here s d.given r y
        → FairNext y (On bs due here.kind here.at)
        → FairNext y (Holds (stepped bs here.kind here.at
        (closed_columns bs (reach_of here.kind here.at) (state_columns st))))
        → ((p : ParserState) → r ≡ Ok p → here.kind ≡ TheEnd → p.frames ≡ []) → Fed o f (map item_of fs) r ≡ Ok (gs, q)
        → LandsAt z (due_along (f ∷ fs) s bs due) q
    step (Err g) y n h on hold ends e = absurd cc
    step (Ok p) (StopsWith k) n h on hold ends e = absurd h
    step (Ok p) (GoesTo after es) n h on hold ends e =
        let (hs, more) = unfront p.given gs q (feed_all o (map item_of fs) (Emptied p))
        (sym (fed_ok o f (map item_of fs) p) ∙ e) in
        go (next_scope here.kind s) (open_behind here.kind bs) (due_behind bs here.kind here.at due)
        (may_follow here.kind) (columns_behind bs here.kind here.at due cs) after (Cleared h.beside) (Emptied p) hs
        q
        h.comes (knows_cleared o after (next_scope here.kind s) h.beside h.knows)
        (fault_passed (nat_le (state_count after) o.block_nesting_limit) (TooManyBlocks (is_loose after)) _ h.passes)
        refl
        (goes_to after on) (next_stands here bs due may cs st after ordered.0 stands hold) ordered.2 keys.1
        (seen_cleared o after p h.beside h.is_seen) (shows_at after p on (ends p refl)) more

    one : Good st → Knows o st s d → nat_le (state_count st) o.block_nesting_limit ≡ true → d.given ≡ []
        → Suits bs due may st → feed_all o (map item_of (f ∷ fs)) (state_of o st d) ≡ Ok (gs, q)
        → LandsAt z (due_along (f ∷ fs) s bs due) q
    one g k n given suits e =
        let fair = suits_fair here ordered.0 suits in
        step (close o (token_of f.1 (at_kind f.0 f.0.kind f.0.key)) (state_of o st d) >>= take_token o
        (token_of f.1 (at_kind f.0 f.0.kind f.0.key))) (taken (ended_by here st) here) given
        (step_next f.1 f.0.kind f.0.key s f.0 o st d g fair k n)
        (taken_suits here bs due may (ended_by here st) (closed_suits here bs due may st suits) ordered.0)
        (step_holds here bs due may st ordered.0 suits stands.sits)
        (λ p r kind. ends p (end_of f.0.kind f.0.key kind) g fair r)
        (sym (fed_is o f (map item_of fs) (state_of o st d)) ∙ e)
      where
        ends : (p : ParserState) → f.0.kind ≡ lexemes.StreamEnd → Good st
            → Rattle.granit_views.specs.Fair.Fair (terminal_of f.1 s (at_kind f.0 f.0.kind f.0.key)) st
            → (close o (token_of f.1 (at_kind f.0 f.0.kind f.0.key)) (state_of o st d) >>= take_token o
            (token_of f.1 (at_kind f.0 f.0.kind f.0.key))) ≡ Ok p → p.frames ≡ []
        ends p kind = subst (λ k. Good st → Rattle.granit_views.specs.Fair.Fair
            (terminal_of f.1 s (at_kind f.0 k f.0.key)) st
            → (close o (token_of f.1 (at_kind f.0 k f.0.key)) (state_of o st d) >>= take_token o
            (token_of f.1 (at_kind f.0 k f.0.key))) ≡ Ok p → p.frames ≡ []) (sym kind)
            (end_frames o f.1 s f.0 f.0.key st d p)

  none_fed : (s : Scope) (bs : List Bracket) (due : Option ℕ) (cs : List ℕ) (st : EventState) (d : Beside)
      (p : ParserState) (gs : List PlainEvent) (q : ParserState) → Stands st due cs → z bs due cs → ParserSeen o st p d
      → Shows st p → ◌≡◌ {A = Result (List PlainEvent × ParserState) Fault} (Ok ([], p)) (Ok (gs, q)) → LandsAt z due q
  none_fed s bs due cs st d p gs q stands says seen shows e =
      let f : p ≡ q = ap (state_or p) e in
      record {
        brackets = bs;
        columns = cs;
        says = says;
        are = ap (λ (p : ParserState). block_columns p.frames) (sym f)
            ∙ state_counted o st d p seen shows ∙ ap (map one_less) stands.columns;
      }

  ended_none : {bs : List Bracket} {due : Option ℕ} {may : Bool} (f : Flagged) (fs : List Flagged)
      → Suits bs due may IsEnded ⊎ ((IsEnded ≡ IsEnded) × ((f ∷ fs) ≡ [])) → ⊥
  ended_none f fs (inl a) = lives a
  ended_none f fs (inr a) = let e = a.1 in cc

  there : {bs : List Bracket} {due : Option ℕ} {may : Bool} (st : EventState) (f : Flagged) (fs : List Flagged)
      → Suits bs due may st ⊎ ((st ≡ IsEnded) × ((f ∷ fs) ≡ [])) → Suits bs due may st
  there st f fs (inl a) = a
  there st f fs (inr a) = absurd (let e = a.1 in cc)

  pub all_go : (fs : List Flagged) → Goes fs
  all_go [] s bs due may cs st d p gs q c k n given a stands ordered keys seen shows e = none_fed s bs due cs st d p gs
      q stands keys seen shows e
  all_go (f ∷ fs) s bs due may cs IsEnded d p gs q c k n given a stands ordered keys seen shows e = absurd
      (ended_none f fs a)
  all_go (f ∷ fs) s bs due may cs IsFresh d p gs q c k n given a stands ordered keys seen shows e = one f fs s bs due
      may cs IsFresh d gs q stands ordered keys (all_go fs) c k n given (there IsFresh f fs a)
      (ap (λ p. feed_all o (map item_of (f ∷ fs)) p) (sym seen) ∙ e)
  all_go (f ∷ fs) s bs due may cs (HasDirectives v) d p gs q c k n given a stands ordered keys seen shows e = one f fs s
      bs due may cs (HasDirectives v) d gs q stands ordered keys (all_go fs) c k n given
      (there (HasDirectives v) f fs a) (ap (λ p. feed_all o (map item_of (f ∷ fs)) p) (sym seen) ∙ e)
  all_go (f ∷ fs) s bs due may cs (IsRooted m) d p gs q c k n given a stands ordered keys seen shows e = one f fs s bs
      due may cs (IsRooted m) d gs q stands ordered keys (all_go fs) c k n given (there (IsRooted m) f fs a)
      (ap (λ p. feed_all o (map item_of (f ∷ fs)) p) (sym seen) ∙ e)
  all_go (f ∷ fs) s bs due may cs (InFrames hs) d p gs q c k n given a stands ordered keys seen shows e = one f fs s bs
      due may cs (InFrames hs) d gs q stands ordered keys (all_go fs) c k n given (there (InFrames hs) f fs a)
      (ap (λ p. feed_all o (map item_of (f ∷ fs)) p) (sym seen) ∙ e)

-- A step inside a document, with what stands declared behind it.
use Rattle.granit_views.specs.Fair.{FairAt, frame_ends_at}
use Rattle.granit_views.specs.Good.{at_root, at_entry, at_key, at_asked, at_value, at_item, at_curly, curly_key}
use Rattle.granit_views.specs.Good.{curly_asked, curly_value, made_key, made_value, pair_asked, pair_value, Good}
use Rattle.granit_views.specs.Good.{hole, behind_properties, past_entry, key_done, ask_done, pair_done, item_done}
use Rattle.granit_views.specs.Good.{curly_key_done, curly_ask_done, curly_solo, curly_done, made_key_done}
use Rattle.granit_views.specs.Good.{made_done, square_ask_done, square_done, rooted}
use Rattle.granit_views.specs.Running.{NextView}
use Rattle.granit_views.specs.Stepping.{taken, LimitView, at_kind, knowing, known_behind, moved_on}
use Rattle.granit_views.specs.View.{Beside, state_of, give_all}
use Rattle.granit_language.specs.Seen.{terminal_kind}
use Rattle.granit_event_machine.specs.EventMachine.{OpenFrame, IsFresh, HasDirectives, IsRooted, InFrames, IsEnded}
use Rattle.granit_event_machine.specs.EventMachine.{Ending}
use Rattle.granit_event_machine.specs.EventMachine.{ending, ended_by, EventStep, GoesTo, StopsWith, take_frames}
use Rattle.granit_event_machine.specs.Guarded.{blocks_open}
use Rattle.granit_language.specs.Node.{TreeProperties}
use Rattle.granit_language.specs.Room.{Room, continues_node}
use Rattle.granit_language.specs.Scope.{Scope}
use Rattle.granit_language.specs.Scoping.{next_scope}
use Rattle.granit_language.specs.Terminal.{Anchor, Tag, Alias, Property, Scalar, Open, TerminalKind, Directive}
use Rattle.granit_language.specs.Terminal.{DocumentStart, DocumentEnd, TheEnd, Colon, Part, At, Terminal}
use Rattle.granit_language.specs.Terminal.{is_stream_kind, is_bare_kind}
use Rattle.granit_lexemes.specs.Lexeme.{KeyStart}
use Rattle.granit_machine.specs.BlockSteps.{in_sequence, behind_indicator}
use Rattle.granit_machine.specs.Frames.{ParserState}
use Rattle.granit_machine.specs.Parser.{take_token}
use Rattle.granit_machine.specs.TokenSort.{Token, TokenSort, token_sort, is_of_stream, BeginsKey, BeginsNode, DashToken}
use Rattle.granit_machine.specs.TokenSort.{QuestionToken, BareColon, KeyedColon, CommaToken, SequenceCloser}
use Rattle.granit_machine.specs.TokenSort.{MappingCloser, OfStream}
use Rattle.std.proofs.Common.{◌≡◌, Bool, true, false, not, List, [], refl, sym, ap, ◌∙◌, subst, Option, None, Result}
use Rattle.std.proofs.Common.{Ok, Err}
use Rattle.std.specs.Prelude.{nat_le}
use Rattle.granit_base.specs.Place.{Mark}
use Rattle.granit_error.specs.OptionsData.{OptionsData}
use Rattle.granit_lexemes.specs.Outcome.{Fault}
use Rattle.granit_lexemes.specs.PlainEvent.{PlainEvent}
use Rattle.granit_lexemes.specs.Lexeme as lexemes
use Rattle.granit_views.proofs.Arrivals.{Arrival, arriving, arriving_token, beside_at, parser_at}
use Rattle.granit_frame_steps.proofs.FrameSteps.{frame_steps}
use Rattle.granit_frame_steps.proofs.GoodSteps.{GoodEnding, ends_well, GoodStep, goes_well, stops_well, after_step}
use Rattle.granit_frame_steps.proofs.GoodSteps.{closes_stand, take_stands}
use Rattle.granit_views.proofs.Sorts.{sort_is}

-- ---- what is of the stream is refused inside a document

abbrev IsErr : Result ParserState Fault → Type 0
IsErr (Ok p) = ⊥
IsErr (Err f) = Unit {0}

abbrev StreamToken : lexemes.Lexeme → Token
StreamToken l = record { lexeme = l; sort = OfStream }

no_stream_continues :
    (room : Room) (p : TreeProperties) (kind : TerminalKind) (i : At) → is_stream_kind kind ≡ true →
    continues_node room p kind i ≡ false
no_stream_continues room p (Directive d) i e = refl
no_stream_continues room p DocumentStart i e = refl
no_stream_continues room p DocumentEnd i e = refl
no_stream_continues room p TheEnd i e = refl
no_stream_continues room p kind i e = cc (e)

no_stream_colon : (kind : TerminalKind) → is_stream_kind kind ≡ true → is_bare_kind kind ≡ false
no_stream_colon (Colon n) e = cc (e)
no_stream_colon (Directive d) e = refl
no_stream_colon DocumentStart e = refl
no_stream_colon DocumentEnd e = refl
no_stream_colon TheEnd e = refl
no_stream_colon kind e = cc (e)

wrong : true ≡ false → ⊥
wrong e = cc (e)

stream_errs :
    (o : OptionsData) (l : lexemes.Lexeme) (x : Terminal) (d : Beside) (fs : List OpenFrame) → Good (InFrames fs) →
    is_stream_kind x.kind ≡ true → frame_ends_at x (InFrames fs) ≡ false →
    IsErr (take_token o (StreamToken l) (state_of o (InFrames fs) d))
unfolding in_sequence behind_indicator
stream_errs o l x d fs (hole at_root) e n = tt
stream_errs o l x d fs (hole (at_entry p h)) e n = tt
stream_errs o l x d fs (hole (at_key p h)) e n = tt
stream_errs o l x d fs (hole (at_asked p h)) e n = tt
stream_errs o l x d fs (hole (at_value p h)) e n = tt
stream_errs o l x d fs (hole (at_item h)) e n = tt
stream_errs o l x d fs (hole (at_curly h)) e n = tt
stream_errs o l x d fs (hole (curly_key h)) e n = tt
stream_errs o l x d fs (hole (curly_asked h)) e n = tt
stream_errs o l x d fs (hole (curly_value h)) e n = tt
stream_errs o l x d fs (hole (made_key h)) e n = tt
stream_errs o l x d fs (hole (made_value h)) e n = tt
stream_errs o l x d fs (hole (pair_asked h)) e n = tt
stream_errs o l x d fs (hole (pair_value h)) e n = tt
stream_errs o l x d fs (past_entry p h) e n = tt
stream_errs o l x d fs (key_done p h) e n = tt
stream_errs o l x d fs (ask_done p h) e n = tt
stream_errs o l x d fs (pair_done p h) e n = tt
stream_errs o l x d fs (item_done h) e n = tt
stream_errs o l x d fs (curly_key_done h) e n = tt
stream_errs o l x d fs (curly_ask_done h) e n = tt
stream_errs o l x d fs (curly_solo h) e n = tt
stream_errs o l x d fs (curly_done h) e n = tt
stream_errs o l x d fs (made_key_done h) e n = tt
stream_errs o l x d fs (made_done h) e n = tt
stream_errs o l x d fs (behind_properties {p = p} {fs = gs} g h) e n =
    absurd (wrong (sym (ap not (no_stream_continues _ p x.kind x.at e)) ∙ n))
stream_errs o l x d fs (square_ask_done h) e n = absurd (wrong (sym (ap not (no_stream_colon x.kind e)) ∙ n))
stream_errs o l x d fs (square_done h) e n = absurd (wrong n)

sort_stream : (q : TokenSort) → is_of_stream q ≡ true → q ≡ OfStream
sort_stream OfStream e = refl
sort_stream BeginsKey e = cc (e)
sort_stream BeginsNode e = cc (e)
sort_stream DashToken e = cc (e)
sort_stream QuestionToken e = cc (e)
sort_stream BareColon e = cc (e)
sort_stream KeyedColon e = cc (e)
sort_stream CommaToken e = cc (e)
sort_stream SequenceCloser e = cc (e)
sort_stream MappingCloser e = cc (e)

err_next :
    (o : OptionsData) (x : Terminal) (d : Beside) (s : Scope) (given : List PlainEvent) (r : Result ParserState Fault)
    (y : EventStep) → IsErr r → LimitView o x d r y → NextView o x s given r y
err_next o x d s given (Ok p) y i h = absurd i
err_next o x d s given (Err f) (GoesTo st es) i h = h
err_next o x d s given (Err f) (StopsWith k) i h = h

-- ---- another lexeme

-- what is known is what stands declared behind it
known_same :
    (o : OptionsData) (k : TerminalKind) (s : Scope) (a m : Mark) (g h : List PlainEvent) → is_stream_kind k ≡ false →
    record (known_behind k (knowing o s a g)) { last = m; given = h } ≡ knowing o (next_scope k s) m h
known_same o (Part (Property (Anchor name))) s a m g h e = refl
known_same o (Part (Property (Tag handle suffix))) s a m g h e = refl
known_same o (Part (Alias name)) s a m g h e = refl
known_same o (Part (Scalar style text)) s a m g h e = refl
known_same o (Part (Open bracket)) s a m g h e = refl
known_same o (Directive d) s a m g h e = cc (e)
known_same o DocumentStart s a m g h e = cc (e)
known_same o DocumentEnd s a m g h e = cc (e)
known_same o TheEnd s a m g h e = cc (e)
known_same o k s a m g h e = refl

still_pending : (k : TerminalKind) (s : Scope) → is_stream_kind k ≡ false → (next_scope k s).pending ≡ s.pending
still_pending (Part (Property (Anchor name))) s e = refl
still_pending (Part (Property (Tag handle suffix))) s e = refl
still_pending (Part (Alias name)) s e = refl
still_pending (Part (Scalar style text)) s e = refl
still_pending (Part (Open bracket)) s e = refl
still_pending (Directive d) s e = cc (e)
still_pending DocumentStart s e = cc (e)
still_pending DocumentEnd s e = cc (e)
still_pending TheEnd s e = cc (e)
still_pending k s e = refl

still_version : (k : TerminalKind) (s : Scope) → is_stream_kind k ≡ false → (next_scope k s).version ≡ s.version
still_version (Part (Property (Anchor name))) s e = refl
still_version (Part (Property (Tag handle suffix))) s e = refl
still_version (Part (Alias name)) s e = refl
still_version (Part (Scalar style text)) s e = refl
still_version (Part (Open bracket)) s e = refl
still_version (Directive d) s e = cc (e)
still_version DocumentStart s e = cc (e)
still_version DocumentEnd s e = cc (e)
still_version TheEnd s e = cc (e)
still_version k s e = refl

pub limit_next :
    (o : OptionsData) (x : Terminal) (s : Scope) (last : Mark) (given : List PlainEvent) (r : Result ParserState Fault)
    (y : EventStep) → LimitView o x (knowing o s last given) r y → GoodStep y → is_stream_kind x.kind ≡ false →
    s.pending ≡ [] → s.version ≡ None → NextView o x s given r y
limit_next o x s last given (Ok p) (GoesTo (InFrames fs) es) h (goes_well g) e q v = record {
  beside = moved_on o x h.0.0 (give_all o es given) (knowing o s last given);
  is_seen = h.0.1;
  gives = refl;
  knows = (
    known_same o x.kind s last h.0.0 given (give_all o es given) e,
    still_pending x.kind s e ∙ q,
    still_version x.kind s e ∙ v,
  );
  passes = h.1;
  comes = g;
}
limit_next o x s last given (Ok p) (GoesTo (IsRooted m) es) h (goes_well g) e q v = record {
  beside = moved_on o x h.0.0 (give_all o es given) (knowing o s last given);
  is_seen = h.0.1;
  gives = refl;
  knows = (
    known_same o x.kind s last h.0.0 given (give_all o es given) e,
    still_pending x.kind s e ∙ q,
    still_version x.kind s e ∙ v,
  );
  passes = h.1;
  comes = rooted;
}
limit_next o x s last given (Ok p) (GoesTo IsFresh es) h (goes_well g) e q v = absurd g
limit_next o x s last given (Ok p) (GoesTo (HasDirectives w) es) h (goes_well g) e q v = absurd g
limit_next o x s last given (Ok p) (GoesTo IsEnded es) h (goes_well g) e q v = absurd g
limit_next o x s last given (Ok p) (StopsWith k) h g e q v = h
limit_next o x s last given (Err f) (GoesTo st es) h g e q v = h
limit_next o x s last given (Err f) (StopsWith k) h g e q v = h

-- ---- the steps

rooted_stops :
    (m : Mark) (kind : TerminalKind) (i : At) → is_stream_kind kind ≡ false → GoodStep (take_frames (IsRooted m) kind i)
rooted_stops m (Directive d) i e = cc (e)
rooted_stops m DocumentStart i e = cc (e)
rooted_stops m DocumentEnd i e = cc (e)
rooted_stops m TheEnd i e = cc (e)
rooted_stops m kind i e = stops_well

taken_well : (x : Terminal) (y : Ending) → GoodEnding y → is_stream_kind x.kind ≡ false → GoodStep (taken y x)
taken_well x (ending (InFrames fs) es) (ends_well g) e =
    after_step es (take_frames (InFrames fs) x.kind x.at) (take_stands fs x.kind x.at g)
taken_well x (ending (IsRooted m) es) (ends_well g) e =
    after_step es (take_frames (IsRooted m) x.kind x.at) (rooted_stops m x.kind x.at e)
taken_well x (ending IsFresh es) (ends_well g) e = absurd g
taken_well x (ending (HasDirectives v) es) (ends_well g) e = absurd g
taken_well x (ending IsEnded es) (ends_well g) e = absurd g

frame_by :
    (b : Bool) (k : lexemes.LexemeKind) (key : Option KeyStart) (a : Arrival) (fs : List OpenFrame) (stream : Bool) →
    Good (InFrames fs) →
    FairAt (arriving b k key a) (InFrames fs) → frame_ends_at (arriving b k key a) (InFrames fs) ≡ false →
    nat_le (blocks_open fs) a.options.block_nesting_limit ≡ true → is_stream_kind (terminal_kind k key) ≡ stream →
    a.scope.pending ≡ [] → a.scope.version ≡ None →
    NextView a.options (arriving b k key a) a.scope a.given
    (take_token a.options (arriving_token b k key a) (parser_at fs a))
    (taken (ended_by (arriving b k key a) (InFrames fs)) (arriving b k key a))
frame_by b k key a fs false g f n e t q v =
    limit_next a.options (arriving b k key a) a.scope a.last a.given
    (take_token a.options (arriving_token b k key a) (parser_at fs a))
    (taken (ended_by (arriving b k key a) (InFrames fs)) (arriving b k key a)) (frame_steps b k key a fs g f n e)
    (taken_well (arriving b k key a) (ended_by (arriving b k key a) (InFrames fs))
    (closes_stand (arriving b k key a) fs g) t) t q v
frame_by b k key a fs true g f n e t q v =
    err_next a.options (arriving b k key a) (beside_at a) a.scope a.given
    (take_token a.options (arriving_token b k key a) (parser_at fs a))
    (taken (ended_by (arriving b k key a) (InFrames fs)) (arriving b k key a))
    (subst
    (λ q.
    IsErr
    (take_token a.options (record { lexeme = at_kind a.lexeme k key; sort = q }) (parser_at fs a)))
    (sym (sort_stream (token_sort b key k) ((sort_is b key k).stream ∙ t)))
    (stream_errs a.options (at_kind a.lexeme k key) (arriving b k key a) (beside_at a) fs g t n))
    (frame_steps b k key a fs g f n e)

pub frame_next :
    (b : Bool) (k : lexemes.LexemeKind) (key : Option KeyStart) (a : Arrival) (fs : List OpenFrame) →
    Good (InFrames fs) →
    FairAt (arriving b k key a) (InFrames fs) → frame_ends_at (arriving b k key a) (InFrames fs) ≡ false →
    nat_le (blocks_open fs) a.options.block_nesting_limit ≡ true → a.scope.pending ≡ [] → a.scope.version ≡ None →
    NextView a.options (arriving b k key a) a.scope a.given
    (take_token a.options (arriving_token b k key a) (parser_at fs a))
    (taken (ended_by (arriving b k key a) (InFrames fs)) (arriving b k key a))
frame_next b k key a fs g f n e q v =
    frame_by b k key a fs (is_stream_kind (terminal_kind k key)) g f n e refl q v

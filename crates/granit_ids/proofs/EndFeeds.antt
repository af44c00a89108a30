-- The end of a stream is the last event that its lexeme gives.
use Rattle.std.proofs.Common.{◌≡◌, ℕ, ◌||◌, Bool, true, false, List, [], ◌∷◌, ◌++◌, Option, None, Ok, Err}
use Rattle.std.proofs.Common.{refl, sym, ap, subst}
use Rattle.granit_error.specs.OptionsData.{OptionsData}
use Rattle.granit_quiet.proofs.EndTelling.{not_both}
use Rattle.granit_quiet.proofs.TellStream.{all_closed, Closed}
use Rattle.granit_lexemes.specs.Comment.{CommentRead}
use Rattle.granit_lexemes.specs.Lexeme as lexemes
use Rattle.granit_lexemes.specs.Lexeme.{Lexeme, LexemeKind, Item, OfLexeme, OfComment}
use Rattle.granit_lexemes.specs.Outcome.{◌>>=◌}
use Rattle.granit_lexemes.specs.Pieces.{pieces}
use Rattle.granit_lexemes.specs.PlainEvent as events
use Rattle.granit_lexemes.specs.PlainEvent.{PlainEvent, event_at}
use Rattle.granit_machine.proofs.ClosingLemmas.{FeedGiven}
use Rattle.granit_machine.proofs.SortLemmas.{end_kind_is}
use Rattle.granit_machine.specs.Closing.{close, close_turn, depth, ends_top, goes_on_by_kind, goes_on_with}
use Rattle.granit_machine.specs.FlowSteps.{in_flow_mapping_by, in_flow_pair, in_flow_sequence}
use Rattle.granit_machine.specs.Frames.{DocumentStage, Frame, Root, WithProperties, BlockSequence, BlockMapping}
use Rattle.granit_machine.specs.Frames.{FlowSequence, FlowMapping, FlowPair, Fresh, Directives, Inside, BehindRoot}
use Rattle.granit_machine.specs.Frames.{Between, NodeProperties, PairStage, AtKey, BehindKey, BehindQuestion}
use Rattle.granit_machine.specs.Frames.{ParserState}
use Rattle.granit_machine.specs.Giving.{flush, give}
use Rattle.granit_machine.specs.Lexing.{FlaggedItem}
use Rattle.granit_machine.specs.NodeEnds.{empty_span, may_be_indentless, under_column}
use Rattle.granit_machine.specs.NodeSteps.{Stepped}
use Rattle.granit_machine.specs.Parser.{feed, take_in, take_item, take_tail, take_token}
use Rattle.granit_machine.specs.StreamSteps.{behind_directives, behind_root, end_document, outside, when_between}
use Rattle.granit_machine.specs.StreamSteps.{when_fresh}
use Rattle.granit_machine.specs.TokenSort.{is_right_of, OfStream, Token, token_column, token_sort, TokenSort}
use Rattle.granit_streams.proofs.StreamNesting.{is_end_item}
use Rattle.granit_recovery.proofs.MarkRefusals.{end_token}

-- the end of the stream stands last
pub record EndsStream (es : List PlainEvent) : Type 0 where
  pub front : List PlainEvent
  pub end : PlainEvent
  pub are : es ≡ front ++ end ∷ []
  pub kind : end.kind ≡ events.StreamEnd

abbrev EndsStep : Stepped → Type 0
EndsStep (Ok q) = EndsStream q.given
EndsStep (Err f) = Unit {0}

given_last : (l : Lexeme) (p : ParserState) → EndsStream (give (event_at events.StreamEnd l.shown) p).given
given_last l p =
    record { front = (flush p).given; end = event_at events.StreamEnd l.shown; are = refl; kind = refl }

-- ---- where the end is taken

outside_ends : (o : OptionsData) (stage : DocumentStage) (l : Lexeme) (p : ParserState) → l.kind ≡ lexemes.StreamEnd
    → EndsStep (outside o stage (end_token l) p)
outside_ends o Fresh l p e =
    subst (λ kind. EndsStep (when_fresh o kind (end_token l) p)) (sym e) (given_last l p)
outside_ends o (Directives version) l p e =
    subst (λ kind. EndsStep (behind_directives o kind (end_token l) version p)) (sym e) tt
outside_ends o BehindRoot l p e =
    subst (λ kind. EndsStep (behind_root kind (end_token l) p)) (sym e)
    (given_last l (end_document (empty_span p.last_end) Between p))
outside_ends o Between l p e =
    subst (λ kind. EndsStep (when_between kind (end_token l) p)) (sym e) (given_last l p)
outside_ends o Inside l p e = tt

sequence_ends : (o : OptionsData) (l : Lexeme) (behind : Bool) (p : ParserState)
    → EndsStep (in_flow_sequence o (end_token l) behind p)
sequence_ends o l true p = tt
sequence_ends o l false p = tt

mapping_ends : (o : OptionsData) (l : Lexeme) (single : Bool) (stage : PairStage) (p : ParserState)
    → EndsStep (in_flow_mapping_by o (end_token l) single stage OfStream p)
mapping_ends o l single AtKey p = tt
mapping_ends o l single BehindKey p = tt
mapping_ends o l single stage p = tt

pair_ends : (o : OptionsData) (l : Lexeme) (stage : PairStage) (p : ParserState) (fs : List Frame)
    → ends_top (end_token l) p (FlowPair stage ∷ fs) ≡ false → EndsStep (in_flow_pair o (end_token l) stage OfStream p)
pair_ends o l BehindQuestion p fs e = absurd (cc)
pair_ends o l stage p fs e = tt

-- no property goes on with it
properties_end : (l : Lexeme) (q : NodeProperties) (fs : List Frame) → l.kind ≡ lexemes.StreamEnd
    → goes_on_with (end_token l) q fs ≡ false
unfolding goes_on_with
properties_end l q fs e =
    ap (λ kind. goes_on_by_kind (l.in_flow || is_right_of (token_column (end_token l)) (under_column fs)) l.in_flow
    (may_be_indentless l.start.place.column fs) q OfStream kind) e

take_ends : (o : OptionsData) (fs : List Frame) (l : Lexeme) (p : ParserState) → l.kind ≡ lexemes.StreamEnd
    → ends_top (end_token l) p fs ≡ false → EndsStep (take_in o fs (end_token l) p)
take_ends o [] l p kind e = outside_ends o p.stage l p kind
take_ends o (Root explicit ∷ fs) l p kind e = tt
take_ends o (WithProperties q ∷ fs) l p kind e =
    absurd (not_both (goes_on_with (end_token l) q fs) (properties_end l q fs kind) e)
take_ends o (BlockSequence column indentless ∷ fs) l p kind e = absurd (cc)
take_ends o (BlockMapping column stage ∷ fs) l p kind e = absurd (cc)
take_ends o (FlowSequence behind ∷ fs) l p kind e = sequence_ends o l behind p
take_ends o (FlowMapping single stage ∷ fs) l p kind e = mapping_ends o l single stage p
take_ends o (FlowPair stage ∷ fs) l p kind e = pair_ends o l stage p fs e

closed_ends : (o : OptionsData) (l : Lexeme) (p : ParserState) (r : FeedGiven) → l.kind ≡ lexemes.StreamEnd
    → Closed (end_token l) p r → EndsStep ((r >>= λ x. Ok x.1) >>= take_token o (end_token l))
closed_ends o l p (Ok x) kind c = take_ends o x.1.frames l x.1 kind c.1
closed_ends o l p (Err f) kind c = tt

-- ---- an item

untailed_ends : (next : Option ℕ) (r : Stepped) → EndsStep r → EndsStep (r >>= take_tail lexemes.StreamEnd None next)
untailed_ends next (Ok q) x = x
untailed_ends next (Err f) x = tt

tail_ends : (kind : LexemeKind) (tail : Option CommentRead) (next : Option ℕ) (r : Stepped)
    → kind ≡ lexemes.StreamEnd → tail ≡ None → EndsStep r → EndsStep (r >>= take_tail kind tail next)
tail_ends kind tail next r is none x =
    subst (λ k. EndsStep (r >>= take_tail k tail next)) (sym is)
    (subst (λ c. EndsStep (r >>= take_tail lexemes.StreamEnd c next)) (sym none) (untailed_ends next r x))

-- no comment stands behind it on its line
abbrev pub Untailed : Item → Type 0
Untailed (OfLexeme l) = l.tail ≡ None
Untailed (OfComment c) = Unit {0}

item_ends : (o : OptionsData) (i : Item) (b : Bool) (next : Option ℕ) (p : ParserState) → is_end_item i ≡ true
    → Untailed i → EndsStep (take_item o i b next p)
item_ends o (OfComment c) b next p e none = absurd (cc)
item_ends o (OfLexeme l) b next p e none =
    let kind = end_kind_is l.kind e in
    let t = end_token l in
    subst (λ s. EndsStep (taken_with s)) (sym (ap (token_sort b l.key) kind))
    (tail_ends l.kind l.tail next (close o t p >>= take_token o t) kind none
    (closed_ends o l p (pieces depth (close_turn o t) p) kind (all_closed o t p)))
  where
    taken_with : TokenSort → Stepped
    taken_with s =
        let t : Token = record { lexeme = l; sort = s } in
        close o t p >>= take_token o t >>= take_tail l.kind l.tail next

-- what an item gives ends with the end of the stream
abbrev pub EndsFed : FeedGiven → Type 0
EndsFed (Ok x) = EndsStream x.0
EndsFed (Err f) = Unit {0}

fed_ends : (r : Stepped) → EndsStep r → EndsFed (r >>= λ q. Ok (q.given, record q { given = [] }))
fed_ends (Ok q) x = x
fed_ends (Err f) x = tt

pub feed_ends : (o : OptionsData) (i : FlaggedItem) (next : Option ℕ) (p : ParserState) → is_end_item i.item ≡ true
    → Untailed i.item → EndsFed (feed o i next p)
unfolding feed
feed_ends o i next p e none =
    fed_ends (take_item o i.item i.begins_key next p) (item_ends o i.item i.begins_key next p e none)

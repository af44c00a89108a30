-- Where no node is open, a parser stands around documents, or behind a root.
use Rattle.std.proofs.Common.{◌≡◌, ℕ, Bool, true, false, List, [], ◌∷◌, Option, Some, None, Result, Ok}
use Rattle.std.proofs.Common.{Err, refl, sym, subst, ◌∙◌}
use Rattle.std.proofs.Common.{◌&&◌, ◌||◌, not}
use Rattle.std.specs.Prelude.{if◌then◌else◌, is_none, nat_le}
use Rattle.granit_base.specs.Place.{Mark}
use Rattle.granit_base.specs.Written.{Written}
use Rattle.granit_error.specs.FaultKind.{RecursionLimitExceeded}
use Rattle.granit_error.specs.OptionsData.{OptionsData}
use Rattle.granit_lexemes.specs.Basics.{fails_at}
use Rattle.granit_lexemes.specs.Lexeme as lexemes
use Rattle.granit_lexemes.specs.Lexeme.{LexemeKind}
use Rattle.granit_lexemes.specs.Outcome.{Fault, ◌>>=◌}
use Rattle.granit_lexemes.specs.PlainEvent.{PlainTag, EventKind}
use Rattle.granit_lexemes.specs.Source.{Source}
use Rattle.granit_lexemes.specs.declared.layout.Bracket.{Bracket}
use Rattle.granit_lexemes.specs.declared.layout.Bracket.TheVariants.{Square, Curly}
use Rattle.granit_machine.proofs.ClosingLemmas.{tail_frames, flush_frames}
use Rattle.granit_machine.proofs.ClosingLemmas.{owed_in-frames, node_event-frames}
use Rattle.granit_machine.specs.BlockSteps.{in_sequence, mapping_at, mapping_colon, bare_colon_in_mapping, next_pair}
use Rattle.granit_machine.specs.BlockSteps.{behind_indicator, at_block_key, behind_block_key, in_mapping, takes_node}
use Rattle.granit_machine.specs.Closing.{end_top, ends_top}
use Rattle.granit_machine.specs.Entries.{lookup_text}
use Rattle.granit_machine.specs.FlowSteps.{close_flow, flow_at, flow_colon, begin_pair, at_entry, behind_entry_of}
use Rattle.granit_machine.specs.FlowSteps.{in_flow_sequence, in_flow_mapping_by, in_flow_pair}
use Rattle.granit_machine.specs.Frames.{PairStage, BeforePair, AtKey, BehindKey, AtQuestion, BehindQuestion, AtValue}
use Rattle.granit_machine.specs.Frames.{NodeProperties, Frame, Root, WithProperties}
use Rattle.granit_machine.specs.Frames.{BlockSequence, BlockMapping, FlowSequence, FlowMapping, FlowPair}
use Rattle.granit_machine.specs.Frames.{DocumentStage, Fresh, Directives, BehindRoot}
use Rattle.granit_machine.specs.Frames.{ParserState}
use Rattle.granit_machine.specs.Giving.{null_at, flush, give, give_empty, below_properties}
use Rattle.granit_machine.specs.Giving.{node_event}
use Rattle.granit_machine.specs.NodeEnds.{finish_in, finish, owed, below, end_node, end_properties, begin}
use Rattle.granit_machine.specs.NodeEnds.{begin_block, block_mapping, waits, may_be_indentless, null_node}
use Rattle.granit_machine.specs.NodeEnds.{empty_span, block_count}
use Rattle.granit_machine.specs.NodeSteps.{Stepped, alias_by, tag_prefix, block_sequence, DashRole}
use Rattle.granit_machine.specs.NodeSteps.{known_prefix, NextEntry, NewSequence, IndentlessSequence, dash_room}
use Rattle.granit_machine.specs.NodeSteps.{give_tail, token_number, take_dash, first_dash, open_flow, bare_by, bare}
use Rattle.granit_machine.specs.NodeSteps.{node_by, node}
use Rattle.granit_machine.specs.TokenSort.{TokenSort, BeginsKey, BeginsNode, QuestionToken, BareColon, KeyedColon}
use Rattle.granit_machine.specs.TokenSort.{CommaToken, SequenceCloser, MappingCloser, Token, token_column, begins_node}
use Rattle.granit_machine.specs.TokenSort.{begins_pair, is_dash_token, is_in_column, is_right_of}
use Rattle.granit_streams.proofs.Nesting.{Fine}
pub use Rattle.granit_streams.proofs.Nesting.{Clean}

-- ---- where a parser stands

abbrev pub IsOuter : DocumentStage → Type 0
IsOuter Fresh = Unit {0}
IsOuter (Directives version) = Unit {0}
IsOuter BehindRoot = Unit {0}
IsOuter stage = ⊥

abbrev pub SitsBy : List Frame → DocumentStage → Type 0
SitsBy [] stage = IsOuter stage
SitsBy (f ∷ fs) stage = Unit {0}

abbrev pub Sits : ParserState → Type 0
Sits p = SitsBy p.frames p.stage

abbrev pub StepSits : Stepped → Type 0
StepSits (Ok q) = Sits q
StepSits (Err f) = Unit {0}

-- a root is among them
abbrev pub Rooted : List Frame → Type 0
Rooted [] = ⊥
Rooted (Root explicit ∷ fs) = Unit {0}
Rooted (f ∷ fs) = Rooted fs

pub clean_rooted : (fs : List Frame) → Clean fs → Rooted fs
clean_rooted [] c = absurd c
clean_rooted (Root explicit ∷ fs) c = tt
clean_rooted (WithProperties q ∷ fs) c = absurd c
clean_rooted (BlockSequence column indentless ∷ fs) c = clean_rooted fs c
clean_rooted (BlockMapping column stage ∷ fs) c = clean_rooted fs c
clean_rooted (FlowSequence behind ∷ fs) c = clean_rooted fs c
clean_rooted (FlowMapping single stage ∷ fs) c = clean_rooted fs c
clean_rooted (FlowPair stage ∷ fs) c = clean_rooted fs c

behind_sits : (fs : List Frame) → SitsBy fs BehindRoot
behind_sits [] = tt
behind_sits (f ∷ fs) = tt

topped : (q : ParserState) (f : Frame) (fs : List Frame) → q.frames ≡ f ∷ fs → Sits q
topped q f fs e = subst (λ fs. SitsBy fs q.stage) (sym e) tt

pub sits_if : (b : Bool) (r s : Stepped) → StepSits r → StepSits s → StepSits (if b then r else s)
sits_if true r s x y = x
sits_if false r s x y = y

sits_then : {A : Type 0} (r : Result A Fault) (f : A → Stepped) → ((x : A) → StepSits (f x)) → StepSits (r >>= f)
sits_then (Ok x) f more = more x
sits_then (Err e) f more = tt

-- ---- frames stay

owed_frames : (x : Mark) (p : ParserState) → (owed x p).frames ≡ p.frames
owed_frames x p = owed_in-frames p.frames x p

-- ---- a node ends

finish_by : (fs : List Frame) (p : ParserState) → p.frames ≡ fs → Rooted fs → Sits (finish_in fs p)
finish_by [] p e r = absurd r
finish_by (Root explicit ∷ fs) p e r = behind_sits fs
finish_by (WithProperties q ∷ fs) p e r = topped p (WithProperties q) fs e
finish_by (BlockSequence column indentless ∷ fs) p e r = topped p (BlockSequence column indentless) fs e
finish_by (BlockMapping column stage ∷ fs) p e r = tt
finish_by (FlowSequence behind ∷ fs) p e r = tt
finish_by (FlowMapping single stage ∷ fs) p e r = tt
finish_by (FlowPair stage ∷ fs) p e r = tt

finish_sits : (p : ParserState) (fs : List Frame) → p.frames ≡ fs → Rooted fs → Sits (finish p)
finish_sits p fs e r = finish_by p.frames p refl (subst Rooted (sym e) r)

rooted_below : (fs : List Frame) → Rooted fs → Rooted (below_properties fs)
rooted_below [] r = r
rooted_below (WithProperties q ∷ fs) r = r
rooted_below (Root explicit ∷ fs) r = r
rooted_below (BlockSequence column indentless ∷ fs) r = r
rooted_below (BlockMapping column stage ∷ fs) r = r
rooted_below (FlowSequence behind ∷ fs) r = r
rooted_below (FlowMapping single stage ∷ fs) r = r
rooted_below (FlowPair stage ∷ fs) r = r

leaf_sits : (o : OptionsData) (kind : ℕ → Option PlainTag → EventKind) (source : Source) (indent : Option ℕ)
    (p : ParserState) → Rooted p.frames → Sits (finish (node_event o kind source indent p))
leaf_sits o kind source indent p r =
    finish_sits (node_event o kind source indent p) (below_properties p.frames)
    (node_event-frames o kind source indent p)
    (rooted_below p.frames r)

-- the frames below the one on top have a root
abbrev Below : ParserState → Type 0
Below p = Rooted (below p.frames)

end_node_sits : (m : Mark) (source : Source) (p : ParserState) → Below p → Sits (end_node m source p)
unfolding end_node
end_node_sits m source p r =
    finish_sits _ (below (owed m p).frames) (flush_frames (record (owed m p) { frames = below (owed m p).frames }))
    (subst (λ fs. Rooted (below fs)) (sym (owed_frames m p)) r)

end_properties_sits : (o : OptionsData) (q : NodeProperties) (p : ParserState) → Rooted p.frames
    → Sits (end_properties o q p)
unfolding end_properties
end_properties_sits o q p r = leaf_sits o (null_node q) (empty_span q.end) None p r

-- ---- a node begins

waits_sits : (m : Mark) (room : ℕ) (p : ParserState) (f : Frame) (fs : List Frame) → p.frames ≡ f ∷ fs
    → Sits (waits m room p)
waits_sits m room p f fs e = topped (waits m room p) f fs (flush_frames p ∙ e)

-- a frame on top, over those of which one is a root
abbrev StepTops : Stepped → Type 0
StepTops (Ok q) = (f : Frame) × (fs : List Frame) × (q.frames ≡ f ∷ fs) × Rooted (f ∷ fs)
StepTops (Err f) = Unit {0}

tops_if : (b : Bool) (r s : Stepped) → StepTops r → StepTops s → StepTops (if b then r else s)
tops_if true r s x y = x
tops_if false r s x y = y

block_tops : (o : OptionsData) (kind : ℕ → Option PlainTag → EventKind) (m : Mark) (column : ℕ) (stage : PairStage)
    (p : ParserState) → Rooted p.frames → StepTops (begin_block o kind m (BlockMapping column stage) p)
unfolding begin_block
block_tops o kind m column stage p r =
    let q = node_event o kind (empty_span m) None p in
    tops_if (nat_le o.block_nesting_limit (block_count p.frames)) (fails_at RecursionLimitExceeded m)
    (Ok (begin o kind (empty_span m) (BlockMapping column stage) p)) tt (
      BlockMapping column stage,
      q.frames,
      refl,
      subst Rooted (sym (node_event-frames o kind (empty_span m) None p)) (rooted_below p.frames r),
    )

-- any frame on top
abbrev StepFull : Stepped → Type 0
StepFull (Ok q) = (f : Frame) × (fs : List Frame) × (q.frames ≡ f ∷ fs)
StepFull (Err f) = Unit {0}

full_if : (b : Bool) (r s : Stepped) → StepFull r → StepFull s → StepFull (if b then r else s)
full_if true r s x y = x
full_if false r s x y = y

block_full : (o : OptionsData) (kind : ℕ → Option PlainTag → EventKind) (m : Mark) (f : Frame) (p : ParserState)
    → StepFull (begin_block o kind m f p)
unfolding begin_block
block_full o kind m f p =
    full_if (nat_le o.block_nesting_limit (block_count p.frames)) (fails_at RecursionLimitExceeded m)
    (Ok (begin o kind (empty_span m) f p)) tt (f, (node_event o kind (empty_span m) None p).frames, refl)

full_sits : (r : Stepped) → StepFull r → StepSits r
full_sits (Ok q) x = topped q x.0 x.1 x.2
full_sits (Err f) x = tt

full_then : (r : Stepped) (f : ParserState → Stepped) → StepFull r
    → ((q : ParserState) (g : Frame) (fs : List Frame) → q.frames ≡ g ∷ fs → StepSits (f q)) → StepSits (r >>= f)
full_then (Ok q) f x more = more q x.0 x.1 x.2
full_then (Err e) f x more = tt

tops_then : (r : Stepped) (f : ParserState → Stepped) → StepTops r
    → ((q : ParserState) → Rooted q.frames → StepSits (f q)) → StepSits (r >>= f)
tops_then (Ok q) f x more = more q (subst Rooted (sym x.2) x.3)
tops_then (Err e) f x more = tt

alias_sits : (o : OptionsData) (t : Token) (name : Written) (known : Option ℕ) (p : ParserState) → Rooted p.frames
    → StepSits (alias_by o t name known p)
alias_sits o t name (Some n) p r = leaf_sits o _ t.lexeme.shown None p r
alias_sits o t name None p r = sits_if o.emit_unresolved_aliases _ _ (leaf_sits o _ t.lexeme.shown None p r) tt

dash_sits : (o : OptionsData) (t : Token) (role : DashRole) (indentless : Bool) (p : ParserState)
    → StepSits (take_dash o t role indentless p)
unfolding take_dash
dash_sits o t NextEntry indentless p =
    sits_then (dash_room o t.lexeme.tail) _
    (λ room. waits_sits t.lexeme.end room _ (BlockSequence (token_number t) indentless) _ refl)
dash_sits o t NewSequence indentless p =
    full_then (begin_block o block_sequence t.lexeme.start (BlockSequence (token_number t) false) p) _
    (block_full o block_sequence t.lexeme.start (BlockSequence (token_number t) false) p)
    (λ q f fs e. sits_then (dash_room o t.lexeme.tail) _
    (λ room. waits_sits t.lexeme.end room (give_tail t.lexeme.tail q) f fs (tail_frames t.lexeme.tail q ∙ e)))
dash_sits o t IndentlessSequence indentless p =
    sits_if (nat_le o.block_nesting_limit (block_count p.frames)) _ _ tt
    (sits_then (dash_room o t.lexeme.tail) _
    (λ room. waits_sits t.lexeme.end room _ (BlockSequence (token_number t) true) _ refl))

flow_sits : (o : OptionsData) (bracket : Bracket) (t : Token) (p : ParserState) → Sits (open_flow o bracket t p)
flow_sits o Square t p = tt
flow_sits o Curly t p = tt

bare_by_sits : (o : OptionsData) (kind : LexemeKind) (t : Token) (p : ParserState) → Rooted p.frames
    → StepSits (bare_by o kind t p)
bare_by_sits o (lexemes.Alias name) t p r = alias_sits o t name (lookup_text name.characters p.names) p r
bare_by_sits o (lexemes.Scalar style text) t p r = leaf_sits o _ t.lexeme.shown t.lexeme.indent p r
bare_by_sits o (lexemes.Open bracket) t p r = flow_sits o bracket t p
bare_by_sits o (lexemes.Anchor name) t p r = tt
bare_by_sits o (lexemes.Tag handle suffix) t p r =
    sits_then (tag_prefix t handle (known_prefix o handle p)) _ (λ prefix. tt)
bare_by_sits o lexemes.Dash t p r =
    dash_sits o t (first_dash (may_be_indentless (token_number t) (below_properties p.frames))) false p
bare_by_sits o lexemes.Question t p r =
    full_sits _ (block_full o block_mapping t.lexeme.start (BlockMapping (token_number t) AtQuestion) p)
bare_by_sits o kind t p r =
    full_then (begin_block o block_mapping t.lexeme.start (BlockMapping (token_number t) AtValue) p) _
    (block_full o block_mapping t.lexeme.start (BlockMapping (token_number t) AtValue) p)
    (λ q f fs e. waits_sits t.lexeme.start o.max_buffered_comment_events (give (null_at t.lexeme.start) q) f fs
    (flush_frames q ∙ e))

bare_sits : (o : OptionsData) (t : Token) (p : ParserState) → Rooted p.frames → StepSits (bare o t p)
bare_sits o t p r = bare_by_sits o t.lexeme.kind t p r

node_by_sits : (o : OptionsData) (sort : TokenSort) (t : Token) (p : ParserState) → Rooted p.frames
    → StepSits (node_by o sort t p)
node_by_sits o BeginsKey t p r =
    tops_then (begin_block o block_mapping t.lexeme.start (BlockMapping (token_number t) AtKey) p) (bare o t)
    (block_tops o block_mapping t.lexeme.start (token_number t) AtKey p r) (λ q x. bare_sits o t q x)
node_by_sits o sort t p r = bare_sits o t p r

pub node_sits : (o : OptionsData) (t : Token) (p : ParserState) → Rooted p.frames → StepSits (node o t p)
node_sits o t p r = node_by_sits o t.sort t p r

-- ---- in a block collection

pub sequence_sits : (o : OptionsData) (t : Token) (column : ℕ) (indentless : Bool) (p : ParserState) → Rooted p.frames
    → StepSits (in_sequence o t column indentless p)
unfolding in_sequence
sequence_sits o t column indentless p r =
    sits_if (is_dash_token t.sort && is_in_column (token_column t) column) _ _
    (dash_sits o t NextEntry indentless (give_empty p))
    (sits_if (is_none p.waiting) _ _ tt
    (sits_if (begins_node t.sort && is_right_of (token_column t) (Some column)) _ _ (node_sits o t p r) tt))

colon_sits : (o : OptionsData) (t : Token) (column : ℕ) (p : ParserState) → Sits (mapping_colon o t column p)
colon_sits o t column p =
    waits_sits t.lexeme.start o.max_buffered_comment_events (mapping_at column AtValue p) (BlockMapping column AtValue)
    (below (flush p).frames) refl

bare_colon_sits : (o : OptionsData) (t : Token) (column : ℕ) (stage : PairStage) (p : ParserState)
    → Sits (bare_colon_in_mapping o t column stage p)
bare_colon_sits o t column AtQuestion p = colon_sits o t column _
bare_colon_sits o t column BehindQuestion p = colon_sits o t column p
bare_colon_sits o t column stage p = colon_sits o t column _

next_pair_sits : (o : OptionsData) (t : Token) (column : ℕ) (stage : PairStage) (sort : TokenSort) (p : ParserState)
    → Below p → StepSits (next_pair o t column stage sort p)
next_pair_sits o t column stage BeginsKey p r =
    bare_sits o t (mapping_at column AtKey (owed t.lexeme.start p))
    (subst (λ fs. Rooted (below fs)) (sym (flush_frames (owed t.lexeme.start p) ∙ owed_frames t.lexeme.start p)) r)
next_pair_sits o t column stage QuestionToken p r = tt
next_pair_sits o t column stage sort p r = bare_colon_sits o t column stage p

indicator_sits : (o : OptionsData) (t : Token) (column : ℕ) (stage : PairStage) (p : ParserState) → Rooted p.frames
    → Below p → StepSits (behind_indicator o t column stage p)
unfolding behind_indicator
indicator_sits o t column stage p r b =
    sits_if (begins_pair t.sort && is_in_column (token_column t) column) _ _
    (next_pair_sits o t column stage t.sort p b)
    (sits_if (not (takes_node stage)) _ _ tt
    (sits_if ((is_dash_token t.sort && is_in_column (token_column t) column)
    || (begins_node t.sort && is_right_of (token_column t) (Some column))) _ _ (node_sits o t p r) tt))

block_key_sits : (o : OptionsData) (t : Token) (sort : TokenSort) (p : ParserState) → Rooted p.frames
    → StepSits (at_block_key o t sort p)
block_key_sits o t BeginsNode p r = bare_sits o t p r
block_key_sits o t sort p r = tt

behind_key_sits : (o : OptionsData) (t : Token) (column : ℕ) (sort : TokenSort) (p : ParserState)
    → StepSits (behind_block_key o t column sort p)
behind_key_sits o t column KeyedColon p = colon_sits o t column p
behind_key_sits o t column sort p = tt

pub mapping_sits : (o : OptionsData) (t : Token) (column : ℕ) (stage : PairStage) (p : ParserState) → Rooted p.frames
    → Below p → StepSits (in_mapping o t column stage p)
mapping_sits o t column AtKey p r b = block_key_sits o t t.sort p r
mapping_sits o t column BehindKey p r b = behind_key_sits o t column t.sort p
mapping_sits o t column stage p r b = indicator_sits o t column stage p r b

-- ---- in a flow collection

close_flow_sits : (t : Token) (p : ParserState) → Below p → Sits (close_flow t p)
close_flow_sits t p b = end_node_sits t.lexeme.start _ p b

flow_colon_sits : (o : OptionsData) (t : Token) (single : Bool) (p : ParserState) → Sits (flow_colon o t single p)
flow_colon_sits o t single p =
    waits_sits t.lexeme.start o.max_buffered_comment_events (flow_at single AtValue p) (FlowMapping single AtValue)
    (below (flush p).frames) refl

entry_sits : (o : OptionsData) (t : Token) (sort : TokenSort) (p : ParserState) → Rooted p.frames → Below p
    → StepSits (at_entry o t sort p)
entry_sits o t SequenceCloser p r b = close_flow_sits t p b
entry_sits o t QuestionToken p r b = tt
entry_sits o t BareColon p r b = flow_colon_sits o t true _
entry_sits o t BeginsKey p r b =
    bare_sits o t (begin_pair t t.lexeme.start (FlowMapping true AtKey) p) (subst Rooted (sym (flush_frames p)) r)
entry_sits o t BeginsNode p r b = bare_sits o t p r
entry_sits o t sort p r b = tt

behind_entry_sits : (t : Token) (sort : TokenSort) (p : ParserState) → Below p → StepSits (behind_entry_of t sort p)
behind_entry_sits t SequenceCloser p b = close_flow_sits t p b
behind_entry_sits t CommaToken p b = tt
behind_entry_sits t sort p b = tt

pub flow_sequence_sits : (o : OptionsData) (t : Token) (behind : Bool) (p : ParserState) → Rooted p.frames → Below p
    → StepSits (in_flow_sequence o t behind p)
flow_sequence_sits o t false p r b = entry_sits o t t.sort p r b
flow_sequence_sits o t true p r b = behind_entry_sits t t.sort p b

pub flow_mapping_sits : (o : OptionsData) (t : Token) (single : Bool) (stage : PairStage) (sort : TokenSort)
    (p : ParserState) → Rooted p.frames → Below p → StepSits (in_flow_mapping_by o t single stage sort p)
flow_mapping_sits o t single AtKey BeginsNode p r b = bare_sits o t p r
flow_mapping_sits o t single AtKey sort p r b = tt
flow_mapping_sits o t single BehindKey KeyedColon p r b = flow_colon_sits o t single p
flow_mapping_sits o t single BehindKey sort p r b = tt
flow_mapping_sits o t single stage MappingCloser p r b = close_flow_sits t p b
flow_mapping_sits o t single BeforePair CommaToken p r b = tt
flow_mapping_sits o t single stage CommaToken p r b = tt
flow_mapping_sits o t single BeforePair QuestionToken p r b = tt
flow_mapping_sits o t single BeforePair BeginsKey p r b =
    bare_sits o t (flow_at single AtKey p) (subst (λ fs. Rooted (below fs)) (sym (flush_frames p)) b)
flow_mapping_sits o t single BeforePair BareColon p r b = flow_colon_sits o t single _
flow_mapping_sits o t single AtQuestion BareColon p r b = flow_colon_sits o t single _
flow_mapping_sits o t single BehindQuestion BareColon p r b = flow_colon_sits o t single p
flow_mapping_sits o t single BeforePair BeginsNode p r b = bare_sits o t p r
flow_mapping_sits o t single AtQuestion BeginsNode p r b = bare_sits o t p r
flow_mapping_sits o t single AtValue BeginsNode p r b = bare_sits o t p r
flow_mapping_sits o t single stage sort p r b = tt

pub flow_pair_sits : (o : OptionsData) (t : Token) (stage : PairStage) (sort : TokenSort) (p : ParserState)
    → Rooted p.frames → StepSits (in_flow_pair o t stage sort p)
flow_pair_sits o t BehindQuestion sort p r = tt
flow_pair_sits o t stage BeginsNode p r = bare_sits o t p r
flow_pair_sits o t stage sort p r = tt

-- ---- the frame on top ends

pub end_top_sits : (o : OptionsData) (t : Token) (p : ParserState) (fs : List Frame) → p.frames ≡ fs → Fine fs
    → ends_top t p fs ≡ true → Sits (end_top o t p fs)
end_top_sits o t p [] e c ends = absurd (cc)
end_top_sits o t p (Root explicit ∷ fs) e c ends =
    finish_sits (give (null_at p.last_end) p) (Root explicit ∷ fs) (flush_frames p ∙ e) tt
end_top_sits o t p (WithProperties q ∷ fs) e c ends =
    end_properties_sits o q p (subst Rooted (sym e) (clean_rooted fs c))
end_top_sits o t p (BlockSequence column indentless ∷ fs) e c ends =
    end_node_sits _ _ p (subst (λ fs. Rooted (below fs)) (sym e) (clean_rooted fs c))
end_top_sits o t p (BlockMapping column stage ∷ fs) e c ends =
    end_node_sits _ _ p (subst (λ fs. Rooted (below fs)) (sym e) (clean_rooted fs c))
end_top_sits o t p (FlowSequence behind ∷ fs) e c ends =
    end_node_sits _ _ p (subst (λ fs. Rooted (below fs)) (sym e) (clean_rooted fs c))
end_top_sits o t p (FlowMapping single stage ∷ fs) e c ends =
    end_node_sits _ _ p (subst (λ fs. Rooted (below fs)) (sym e) (clean_rooted fs c))
end_top_sits o t p (FlowPair stage ∷ fs) e c ends =
    end_node_sits _ _ p (subst (λ fs. Rooted (below fs)) (sym e) (clean_rooted fs c))

-- ---- the frames that are left

done_fine : (fs : List Frame) (p : ParserState) → p.frames ≡ fs → Clean fs → Fine (finish_in fs p).frames
done_fine [] p e c = absurd c
done_fine (Root explicit ∷ []) p e c = tt
done_fine (Root explicit ∷ f ∷ fs) p e c = absurd c
done_fine (WithProperties q ∷ fs) p e c = absurd c
done_fine (BlockSequence column indentless ∷ fs) p e c = subst Fine (sym e) c
done_fine (BlockMapping column stage ∷ fs) p e c = c
done_fine (FlowSequence behind ∷ fs) p e c = c
done_fine (FlowMapping single stage ∷ fs) p e c = c
done_fine (FlowPair stage ∷ fs) p e c = c

finish_fine : (p : ParserState) (fs : List Frame) → p.frames ≡ fs → Clean fs → Fine (finish p).frames
finish_fine p fs e c = done_fine p.frames p refl (subst Clean (sym e) c)

end_node_fine : (m : Mark) (source : Source) (p : ParserState) → Clean (below p.frames)
    → Fine (end_node m source p).frames
unfolding end_node
end_node_fine m source p c =
    finish_fine _ (below (owed m p).frames) (flush_frames (record (owed m p) { frames = below (owed m p).frames }))
    (subst (λ fs. Clean (below fs)) (sym (owed_frames m p)) c)

end_properties_fine : (o : OptionsData) (q : NodeProperties) (p : ParserState) → Clean (below_properties p.frames)
    → Fine (end_properties o q p).frames
unfolding end_properties
end_properties_fine o q p c =
    finish_fine _ (below_properties p.frames) (node_event-frames o (null_node q) (empty_span q.end) None p) c

pub end_top_fine : (o : OptionsData) (t : Token) (p : ParserState) (fs : List Frame) → p.frames ≡ fs → Fine fs
    → ends_top t p fs ≡ true → Fine (end_top o t p fs).frames
end_top_fine o t p [] e c ends = absurd (cc)
end_top_fine o t p (Root explicit ∷ fs) e c ends =
    finish_fine (give (null_at p.last_end) p) (Root explicit ∷ fs) (flush_frames p ∙ e) c
end_top_fine o t p (WithProperties q ∷ fs) e c ends =
    end_properties_fine o q p (subst (λ fs. Clean (below_properties fs)) (sym e) c)
end_top_fine o t p (BlockSequence column indentless ∷ fs) e c ends =
    end_node_fine _ _ p (subst (λ fs. Clean (below fs)) (sym e) c)
end_top_fine o t p (BlockMapping column stage ∷ fs) e c ends =
    end_node_fine _ _ p (subst (λ fs. Clean (below fs)) (sym e) c)
end_top_fine o t p (FlowSequence behind ∷ fs) e c ends =
    end_node_fine _ _ p (subst (λ fs. Clean (below fs)) (sym e) c)
end_top_fine o t p (FlowMapping single stage ∷ fs) e c ends =
    end_node_fine _ _ p (subst (λ fs. Clean (below fs)) (sym e) c)
end_top_fine o t p (FlowPair stage ∷ fs) e c ends =
    end_node_fine _ _ p (subst (λ fs. Clean (below fs)) (sym e) c)

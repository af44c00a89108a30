-- Each step of the parser does the same to a state without what comments left in it, unless too many comments are held.
use Rattle.std.proofs.Common.{◌≡◌, ℕ, Bool, true, false, [], ◌∷◌, ◌⊎◌, inl, inr, Option, Some, None, Result, Ok, Err}
use Rattle.std.proofs.Common.{refl, sym, ap, subst, ◌∙◌}
use Rattle.std.specs.Prelude.{if◌then◌else◌}
use Rattle.granit_base.specs.Place.{Mark}
use Rattle.granit_base.specs.Written.{Written}
use Rattle.granit_base.specs.declared.style.Placement.TheVariants.{Right}
use Rattle.granit_base.specs.declared.style.StructureStyle.TheVariants.{Flow}
use Rattle.granit_error.specs.OptionsData.{OptionsData}
use Rattle.granit_lexemes.specs.Comment.{CommentRead}
use Rattle.granit_lexemes.specs.declared.layout.Bracket.{Bracket}
use Rattle.granit_lexemes.specs.declared.layout.Bracket.TheVariants.{Square, Curly}
use Rattle.granit_lexemes.specs.Lexeme.{LexemeKind}
use Rattle.granit_lexemes.specs.Outcome.{Fault, ◌>>=◌}
use Rattle.granit_lexemes.specs.PlainEvent.{PlainEvent, PlainTag, EventKind, event_at}
use Rattle.granit_machine.specs.BlockSteps.{in_sequence, mapping_at, mapping_colon, bare_colon_in_mapping, next_pair}
use Rattle.granit_machine.specs.BlockSteps.{behind_indicator, at_block_key, behind_block_key, in_mapping}
use Rattle.granit_machine.specs.FlowSteps.{close_flow, flow_at, flow_colon, begin_pair, at_entry, behind_entry_of}
use Rattle.granit_machine.specs.FlowSteps.{in_flow_sequence, in_flow_mapping_by, in_flow_pair}
use Rattle.granit_machine.specs.Frames.{PairStage, BeforePair, AtKey, BehindKey, AtQuestion, BehindQuestion, AtValue}
use Rattle.granit_machine.specs.Frames.{Frame, BlockSequence, BlockMapping, FlowSequence, FlowMapping, FlowPair}
use Rattle.granit_machine.specs.Frames.{Waiting, ParserState}
use Rattle.granit_machine.specs.Giving.{null_at, with_indent, flush_held, flush, give, give_empty, below_properties}
use Rattle.granit_machine.specs.Giving.{node_event}
use Rattle.granit_machine.specs.NodeEnds.{owed, empty_span, begin, begin_block, block_mapping, waits, with_top}
use Rattle.granit_machine.specs.NodeEnds.{may_be_indentless}
use Rattle.granit_machine.specs.NodeSteps.{Stepped, alias_by, tag_prefix, tagged, anchored, block_sequence, NextEntry}
use Rattle.granit_machine.specs.NodeSteps.{known_prefix}
use Rattle.granit_machine.specs.NodeSteps.{NewSequence, IndentlessSequence, dash_room, give_tail, token_number}
use Rattle.granit_machine.specs.NodeSteps.{take_dash, first_dash, open_flow, bare_by, bare, node_by, node}
use Rattle.granit_machine.specs.Entries.{lookup_text}
use Rattle.granit_machine.specs.TokenSort.{TokenSort, BeginsKey, BeginsNode, QuestionToken, BareColon, KeyedColon}
use Rattle.granit_machine.specs.TokenSort.{CommaToken, SequenceCloser, MappingCloser, Token}
use Rattle.granit_lexemes.specs.PlainEvent as events
use Rattle.granit_lexemes.specs.Lexeme as lexemes
use Rattle.granit_quiet.specs.Quiet.{quiet}
use Rattle.granit_quiet.proofs.Quieting.{untold_last, flush_quiet, give_quiet, null_quiet, give_empty_quiet}
use Rattle.granit_quiet.proofs.Quieting.{waits_none, NodeKind, leaf_quiet, begin_quiet, waits_quiet, owed_quiet}
use Rattle.granit_quiet.proofs.Quieting.{end_node_quiet}

-- ---- steps that may fail

-- a step with a comment too many behind a `-`, where that without comments goes on to wait for a node
pub record TailTooMany (o : OptionsData) (tail : Option CommentRead) (f : Fault) (r : Stepped) : Type 0 where
  pub refused : dash_room o tail ≡ Err f
  pub taken : ParserState
  pub waiting : Waiting
  pub is_taken : r ≡ Ok taken
  pub waits : taken.waiting ≡ Some waiting

abbrev pub FitsBy : OptionsData → Option CommentRead → Stepped → Stepped → Type 0
FitsBy o tail (Ok p) r = r ≡ Ok (quiet o p)
FitsBy o tail (Err f) r = TailTooMany o tail f r ⊎ (r ≡ Err f)

-- a step without comments does what one with them does, unless too many comments are held
pub record Fits (o : OptionsData) (tail : Option CommentRead) (r s : Stepped) : Type 0 where
  pub says : FitsBy o tail r s

pub fits_ok : {tail : Option CommentRead} (o : OptionsData) (p q : ParserState) → q ≡ quiet o p →
    Fits o tail (Ok p) (Ok q)
fits_ok o p q e = record { says = ap (λ (x : ParserState). let r : Stepped = Ok x in r) e }

pub refuses : {tail : Option CommentRead} (o : OptionsData) (f : Fault) → Fits o tail (Err f) (Err f)
refuses o f = record { says = inr refl }

pub fits_if :
    {tail : Option CommentRead} (o : OptionsData) (b c : Bool) (x y v w : Stepped) → c ≡ b → Fits o tail x v →
    Fits o tail y w → Fits o tail (if b then x else y) (if c then v else w)
fits_if {tail = tail} o b c x y v w e p q =
    subst (λ d. Fits o tail (if b then x else y) (if d then v else w)) (sym e) (on b)
  where
    on : (b : Bool) → Fits o tail (if b then x else y) (if b then v else w)
    on true = p
    on false = q

pub fits_behind :
    {A : Type 0} {tail : Option CommentRead} (o : OptionsData) (r : Result A Fault) (f g : A → Stepped) →
    ((x : A) → Fits o tail (f x) (g x)) → Fits o tail (r >>= f) (r >>= g)
fits_behind o (Ok x) f g h = h x
fits_behind o (Err e) f g h = refuses o e

abbrev AlikeBy : OptionsData → Stepped → Stepped → Type 0
AlikeBy o (Ok p) r = r ≡ Ok (quiet o p)
AlikeBy o (Err f) r = r ≡ Err f

-- a step that holds no comments
pub record Alike (o : OptionsData) (r s : Stepped) : Type 0 where
  pub says : AlikeBy o r s

pub alike_ok : (o : OptionsData) (p q : ParserState) → q ≡ quiet o p → Alike o (Ok p) (Ok q)
alike_ok o p q e = record { says = ap (λ (x : ParserState). let r : Stepped = Ok x in r) e }

pub alike_err : (o : OptionsData) (f : Fault) → Alike o (Err f) (Err f)
alike_err o f = record { says = refl }

alike_if : (o : OptionsData) (b : Bool) (x y v w : Stepped) → Alike o x v → Alike o y w →
    Alike o (if b then x else y) (if b then v else w)
alike_if o true x y v w p q = p
alike_if o false x y v w p q = q

alike_fits_by : {tail : Option CommentRead} (o : OptionsData) (r s : Stepped) → AlikeBy o r s → Fits o tail r s
alike_fits_by o (Ok p) s e = record { says = e }
alike_fits_by o (Err f) s e = record { says = inr e }

pub alike_fits : {tail : Option CommentRead} (o : OptionsData) (r s : Stepped) → Alike o r s → Fits o tail r s
alike_fits o r s a = alike_fits_by o r s a.says

then_by :
    {tail : Option CommentRead} (o : OptionsData) (r s : Stepped) (f g : ParserState → Stepped) → AlikeBy o r s →
    ((p : ParserState) → Fits o tail (f p) (g (quiet o p))) → Fits o tail (r >>= f) (s >>= g)
then_by {tail = tail} o (Ok p) s f g e h = subst (λ (s : Stepped). Fits o tail (f p) (s >>= g)) (sym e) (h p)
then_by o (Err x) s f g e h = record { says = inr (ap (λ (s : Stepped). s >>= g) e) }

pub fits_then :
    {tail : Option CommentRead} (o : OptionsData) (r s : Stepped) (f g : ParserState → Stepped) → Alike o r s →
    ((p : ParserState) → Fits o tail (f p) (g (quiet o p))) → Fits o tail (r >>= f) (s >>= g)
fits_then o r s f g e h = then_by o r s f g e.says h

-- a token without its tail
abbrev pub untailed_token : Token → Token
untailed_token t = record { lexeme = record (t.lexeme) { tail = None }; sort = t.sort }

-- ---- a node's lexeme

alias_fits : (o : OptionsData) (t : Token) (name : Written) (n : Option ℕ) (p : ParserState)
    → Fits o t.lexeme.tail (alias_by o t name n p) (alias_by o (untailed_token t) name n (quiet o p))
alias_fits o t name (Some n) p = fits_ok o _ _
    (leaf_quiet o (λ number tag. events.Alias n) t.lexeme.shown None p (λ n t. refl))
alias_fits o t name None p =
    fits_if o o.emit_unresolved_aliases o.emit_unresolved_aliases _ _ _ _ refl
    (fits_ok o _ _ (leaf_quiet o (λ number tag. events.UnresolvedAlias name) t.lexeme.shown None p (λ n t. refl)))
    (refuses o _)

pub begin_block_fits :
    (o : OptionsData) (kind : ℕ → Option PlainTag → EventKind) (m : Mark) (f : Frame) (p : ParserState) → NodeKind kind
    →
    Alike o (begin_block o kind m f p) (begin_block o kind m f (quiet o p))
unfolding begin_block
begin_block_fits o kind m f p h =
    alike_if o _ _ _ _ _ (alike_err o _) (alike_ok o _ _ (begin_quiet o kind (empty_span m) f p h))

-- ---- a `-`

-- the room behind a `-` is what it is with no tail, unless no comment may be held
dash_by :
    (o : OptionsData) (tail : Option CommentRead) (f : ℕ → ParserState) (q : ParserState) (w : Waiting) →
    q.waiting ≡ Some w → ((room : ℕ) → Fits o tail (Ok (f room)) (Ok q)) → (r : Result ℕ Fault) →
    dash_room o tail ≡ r → Fits o tail (r >>= λ room. Ok (f room)) (Ok q)
dash_by o tail f q w n h (Ok room) e = h room
dash_by o tail f q w n h (Err x) e =
    record { says = inl (record { refused = e; taken = q; waiting = w; is_taken = refl; waits = n }) }

dash_fits :
    (o : OptionsData) (tail : Option CommentRead) (f : ℕ → ParserState) (q : ParserState) (w : Waiting) →
    q.waiting ≡ Some w → ((room : ℕ) → Fits o tail (Ok (f room)) (Ok q)) →
    Fits o tail (dash_room o tail >>= λ room. Ok (f room)) (Ok q)
dash_fits o tail f q w n h = dash_by o tail f q w n h (dash_room o tail) refl

flush_twice_by : (w : Option Waiting) (p : ParserState)
    → flush (flush_held w (record p { waiting = w })) ≡ flush_held w (record p { waiting = w })
flush_twice_by None p = refl
flush_twice_by (Some w) p = refl

flush_twice : (p : ParserState) → flush (flush p) ≡ flush p
flush_twice p = flush_twice_by p.waiting p

-- a tail flushes what is held, and changes nothing else
tail_flushed : (o : OptionsData) (tail : Option CommentRead) (p : ParserState)
    → flush (quiet o p) ≡ flush (quiet o (give_tail tail p))
tail_flushed o None p = refl
tail_flushed o (Some c) p =
    let e = event_at (events.Comment c.text Right) c.source in
    let same = ap (λ es. record (quiet o (flush p)) { given = es }) (untold_last (flush p).given e refl) in
    sym (ap flush same ∙ ap flush (sym (flush_quiet o p)) ∙ flush_twice (quiet o p))

-- what waits, and a collection's beginning, stand behind what is held
waits_top : (m : Mark) (room : ℕ) (f : Frame) (w : Option Waiting) (p : ParserState)
    → waits m room (with_top f (record p { waiting = w }))
    ≡ waits m room (with_top f (flush_held w (record p { waiting = w })))
waits_top m room f None p = refl
waits_top m room f (Some w) p = refl

begins_flushed : (o : OptionsData) (kind : ℕ → Option PlainTag → EventKind) (m : Mark) (f : Frame) (w : Option Waiting)
    (p : ParserState) → begin o kind (empty_span m) f (record p { waiting = w })
    ≡ begin o kind (empty_span m) f (flush_held w (record p { waiting = w }))
unfolding node_event
begins_flushed o kind m f None p = refl
begins_flushed o kind m f (Some w) p = refl

next_dash_fits : (o : OptionsData) (t : Token) (indentless : Bool) (p : ParserState)
    → Fits o t.lexeme.tail (take_dash o t NextEntry indentless p)
    (take_dash o (untailed_token t) NextEntry indentless (quiet o p))
unfolding take_dash
next_dash_fits o t indentless p =
    let m = t.lexeme.end in
    let most = o.max_buffered_comment_events in
    let f = BlockSequence (token_number t) indentless in
    let q = give_tail t.lexeme.tail p in
    dash_fits o t.lexeme.tail (λ room. waits m room (with_top f q)) (waits m most (with_top f (quiet o p))) _ refl
    (λ room. fits_ok o (waits m room (with_top f q)) (waits m most (with_top f (quiet o p)))
    (waits_top m most f (quiet o p).waiting (quiet o p)
    ∙ ap (λ (x : ParserState). waits m most (with_top f x)) (tail_flushed o t.lexeme.tail p)
    ∙ sym (waits_top m most f (quiet o q).waiting (quiet o q)) ∙ waits_quiet o m room (with_top f q)))

new_dash_fits : (o : OptionsData) (t : Token) (indentless : Bool) (p : ParserState)
    → Fits o t.lexeme.tail (take_dash o t NewSequence indentless p)
    (take_dash o (untailed_token t) NewSequence indentless (quiet o p))
unfolding take_dash
new_dash_fits o t indentless p =
    let m = t.lexeme.end in
    let most = o.max_buffered_comment_events in
    fits_then o _ _ (λ q. dash_room o t.lexeme.tail >>= λ room. Ok (waits m room (give_tail t.lexeme.tail q)))
    (λ q. Ok (waits m most q))
    (begin_block_fits o block_sequence t.lexeme.start (BlockSequence (token_number t) false) p (λ n t. refl))
    (λ q. dash_fits o t.lexeme.tail (λ room. waits m room (give_tail t.lexeme.tail q)) (waits m most (quiet o q)) _ refl
    (λ room. fits_ok o (waits m room (give_tail t.lexeme.tail q)) (waits m most (quiet o q))
    (ap (λ (x : ParserState). record x { waiting = Some (record { at = m; room = most; held = [] }) })
    (tail_flushed o t.lexeme.tail q) ∙ waits_quiet o m room (give_tail t.lexeme.tail q))))

indentless_dash_fits : (o : OptionsData) (t : Token) (indentless : Bool) (p : ParserState)
    → Fits o t.lexeme.tail (take_dash o t IndentlessSequence indentless p)
    (take_dash o (untailed_token t) IndentlessSequence indentless (quiet o p))
unfolding take_dash
indentless_dash_fits o t indentless p =
    let m = t.lexeme.end in
    let most = o.max_buffered_comment_events in
    let f = BlockSequence (token_number t) true in
    let q = give_tail t.lexeme.tail p in
    let start : ParserState → ParserState = λ x. begin o block_sequence (empty_span m) f x in
    let e : start (quiet o p) ≡ quiet o (start q) = begins_flushed o block_sequence m f (quiet o p).waiting (quiet o p)
    ∙ ap start (tail_flushed o t.lexeme.tail p)
    ∙ sym (begins_flushed o block_sequence m f (quiet o q).waiting (quiet o q))
    ∙ begin_quiet o block_sequence (empty_span m) f q (λ n t. refl) in
    fits_if o _ _ _ _ _ _ refl (refuses o _) (dash_fits o t.lexeme.tail (λ room. waits m room (start q))
    (waits m most (start (quiet o p))) _ refl
    (λ room. fits_ok o (waits m room (start q)) (waits m most (start (quiet o p)))
    (ap (waits m most) e ∙ waits_quiet o m room (start q))))

first_dash_fits : (o : OptionsData) (t : Token) (b indentless : Bool) (p : ParserState)
    → Fits o t.lexeme.tail (take_dash o t (first_dash b) indentless p)
    (take_dash o (untailed_token t) (first_dash b) indentless (quiet o p))
first_dash_fits o t true indentless p = indentless_dash_fits o t indentless p
first_dash_fits o t false indentless p = new_dash_fits o t indentless p

-- ---- any lexeme of a node

open_flow_fits : (o : OptionsData) (b : Bracket) (t : Token) (p : ParserState)
    → open_flow o b (untailed_token t) (quiet o p) ≡ quiet o (open_flow o b t p)
open_flow_fits o Square t p = begin_quiet o (λ number tag. events.SequenceStart Flow number tag) t.lexeme.shown
    (FlowSequence false) p (λ n t. refl)
open_flow_fits o Curly t p = begin_quiet o (λ number tag. events.MappingStart Flow number tag) t.lexeme.shown
    (FlowMapping false BeforePair) p (λ n t. refl)

colon_fits : (o : OptionsData) (t : Token) (p : ParserState)
    → Fits o t.lexeme.tail (begin_block o block_mapping t.lexeme.start (BlockMapping (token_number t) AtValue) p >>=
    λ q. Ok (waits t.lexeme.start o.max_buffered_comment_events (give (null_at t.lexeme.start) q)))
    (begin_block o block_mapping t.lexeme.start (BlockMapping (token_number t) AtValue) (quiet o p) >>= λ q. Ok
    (waits t.lexeme.start o.max_buffered_comment_events (give (null_at t.lexeme.start) q)))
colon_fits o t p =
    let m = t.lexeme.start in
    let most = o.max_buffered_comment_events in
    let to : ParserState → Stepped = λ q. Ok (waits m most (give (null_at m) q)) in
    fits_then o _ _ to to (begin_block_fits o block_mapping m (BlockMapping (token_number t) AtValue) p (λ n t. refl))
    (λ q. fits_ok o _ _ (ap (waits m most) (null_quiet o m q) ∙ waits_quiet o m most (give (null_at m) q)))

bare_by_fits : (o : OptionsData) (kind : LexemeKind) (t : Token) (p : ParserState)
    → Fits o t.lexeme.tail (bare_by o kind t p) (bare_by o kind (untailed_token t) (quiet o p))
bare_by_fits o (lexemes.Alias name) t p = alias_fits o t name (lookup_text name.characters p.names) p
bare_by_fits o (lexemes.Scalar style text) t p = fits_ok o _ _
    (leaf_quiet o (λ number tag. events.Scalar text style number tag) t.lexeme.shown t.lexeme.indent p (λ n t. refl))
bare_by_fits o (lexemes.Open bracket) t p = fits_ok o _ _ (open_flow_fits o bracket t p)
bare_by_fits o (lexemes.Anchor name) t p = fits_ok o (anchored t name (flush p)) (anchored t name (flush (quiet o p)))
    (ap (anchored t name) (flush_quiet o p))
bare_by_fits o (lexemes.Tag handle suffix) t p =
    fits_behind o (tag_prefix t handle (known_prefix o handle p)) _ _
    (λ prefix. fits_ok o (tagged t handle suffix prefix (flush p))
    (tagged t handle suffix prefix (flush (quiet o p))) (ap (tagged t handle suffix prefix) (flush_quiet o p)))
bare_by_fits o lexemes.Dash t p = first_dash_fits o t (may_be_indentless (token_number t) (below_properties p.frames))
    false p
bare_by_fits o lexemes.Question t p =
    alike_fits o _ _ (begin_block_fits o block_mapping t.lexeme.start (BlockMapping (token_number t) AtQuestion) p
    (λ n t. refl))
bare_by_fits o kind t p = colon_fits o t p

pub bare_fits : (o : OptionsData) (t : Token) (p : ParserState)
    → Fits o t.lexeme.tail (bare o t p) (bare o (untailed_token t) (quiet o p))
bare_fits o t p = bare_by_fits o t.lexeme.kind t p

node_by_fits : (o : OptionsData) (sort : TokenSort) (t : Token) (p : ParserState)
    → Fits o t.lexeme.tail (node_by o sort t p) (node_by o sort (untailed_token t) (quiet o p))
node_by_fits o BeginsKey t p =
    fits_then o _ _ (bare o t) (bare o (untailed_token t))
    (begin_block_fits o block_mapping t.lexeme.start (BlockMapping (token_number t) AtKey) p (λ n t. refl))
    (λ q. bare_fits o t q)
node_by_fits o sort t p = bare_fits o t p

pub node_fits : (o : OptionsData) (t : Token) (p : ParserState)
    → Fits o t.lexeme.tail (node o t p) (node o (untailed_token t) (quiet o p))
node_fits o t p = node_by_fits o t.sort t p

-- ---- block collections

pub in_sequence_fits : (o : OptionsData) (t : Token) (column : ℕ) (indentless : Bool) (p : ParserState)
    → Fits o t.lexeme.tail (in_sequence o t column indentless p)
    (in_sequence o (untailed_token t) column indentless (quiet o p))
unfolding in_sequence
in_sequence_fits o t column indentless p =
    let dash : Fits o t.lexeme.tail (take_dash o t NextEntry indentless (give_empty p))
    (take_dash o (untailed_token t) NextEntry indentless (give_empty (quiet o p))) =
    subst (λ (q : ParserState). Fits o t.lexeme.tail (take_dash o t NextEntry indentless (give_empty p))
    (take_dash o (untailed_token t) NextEntry indentless q)) (sym (give_empty_quiet o p))
    (next_dash_fits o t indentless (give_empty p)) in
    fits_if o _ _ _ _ _ _ refl dash
    (fits_if o _ _ _ _ _ _ (waits_none o.max_buffered_comment_events p.waiting) (refuses o _)
    (fits_if o _ _ _ _ _ _ refl (node_fits o t p) (refuses o _)))

mapping_at_quiet : (o : OptionsData) (column : ℕ) (stage : PairStage) (p : ParserState)
    → mapping_at column stage (quiet o p) ≡ quiet o (mapping_at column stage p)
mapping_at_quiet o column stage p = ap (with_top (BlockMapping column stage)) (flush_quiet o p)

mapping_colon_quiet : (o : OptionsData) (t : Token) (column : ℕ) (p : ParserState)
    → mapping_colon o (untailed_token t) column (quiet o p) ≡ quiet o (mapping_colon o t column p)
mapping_colon_quiet o t column p =
    let most = o.max_buffered_comment_events in
    ap (waits t.lexeme.start most) (mapping_at_quiet o column AtValue p)
    ∙ waits_quiet o t.lexeme.start most (mapping_at column AtValue p)

bare_colon_quiet : (o : OptionsData) (t : Token) (column : ℕ) (stage : PairStage) (p : ParserState)
    → bare_colon_in_mapping o (untailed_token t) column stage (quiet o p)
    ≡ quiet o (bare_colon_in_mapping o t column stage p)
bare_colon_quiet o t column AtQuestion p =
    let e = with_indent (Some column) (null_at t.lexeme.start) in
    ap (mapping_colon o t column) (give_quiet o e p refl) ∙ mapping_colon_quiet o t column (give e p)
bare_colon_quiet o t column BehindQuestion p = mapping_colon_quiet o t column p
bare_colon_quiet o t column stage p =
    let m = t.lexeme.start in
    ap (λ (q : ParserState). mapping_colon o t column (give (null_at m) q)) (owed_quiet o m p)
    ∙ ap (mapping_colon o t column) (null_quiet o m (owed m p))
    ∙ mapping_colon_quiet o t column (give (null_at m) (owed m p))

next_pair_fits : (o : OptionsData) (t : Token) (column : ℕ) (stage : PairStage) (sort : TokenSort) (p : ParserState)
    → Fits o t.lexeme.tail (next_pair o t column stage sort p)
    (next_pair o (untailed_token t) column stage sort (quiet o p))
next_pair_fits o t column stage BeginsKey p =
    let q = owed t.lexeme.start p in
    let e : mapping_at column AtKey (owed t.lexeme.start (quiet o p))
    ≡ quiet o (mapping_at column AtKey q) = ap (mapping_at column AtKey) (owed_quiet o t.lexeme.start p)
    ∙ mapping_at_quiet o column AtKey q in
    subst (λ (x : ParserState). Fits o t.lexeme.tail (bare o t (mapping_at column AtKey q))
    (bare o (untailed_token t) x)) (sym e) (bare_fits o t (mapping_at column AtKey q))
next_pair_fits o t column stage QuestionToken p =
    fits_ok o _ _ (ap (mapping_at column AtQuestion) (owed_quiet o t.lexeme.start p)
    ∙ mapping_at_quiet o column AtQuestion (owed t.lexeme.start p))
next_pair_fits o t column stage sort p = fits_ok o _ _ (bare_colon_quiet o t column stage p)

behind_indicator_fits : (o : OptionsData) (t : Token) (column : ℕ) (stage : PairStage) (p : ParserState)
    → Fits o t.lexeme.tail (behind_indicator o t column stage p)
    (behind_indicator o (untailed_token t) column stage (quiet o p))
unfolding behind_indicator
behind_indicator_fits o t column stage p =
    fits_if o _ _ _ _ _ _ refl (next_pair_fits o t column stage t.sort p)
    (fits_if o _ _ _ _ _ _ refl (refuses o _) (fits_if o _ _ _ _ _ _ refl (node_fits o t p) (refuses o _)))

at_block_key_fits : (o : OptionsData) (t : Token) (sort : TokenSort) (p : ParserState)
    → Fits o t.lexeme.tail (at_block_key o t sort p) (at_block_key o (untailed_token t) sort (quiet o p))
at_block_key_fits o t BeginsNode p = bare_fits o t p
at_block_key_fits o t sort p = refuses o _

behind_block_key_fits : (o : OptionsData) (t : Token) (column : ℕ) (sort : TokenSort) (p : ParserState)
    → Fits o t.lexeme.tail (behind_block_key o t column sort p)
    (behind_block_key o (untailed_token t) column sort (quiet o p))
behind_block_key_fits o t column KeyedColon p = fits_ok o _ _ (mapping_colon_quiet o t column p)
behind_block_key_fits o t column sort p = refuses o _

pub in_mapping_fits : (o : OptionsData) (t : Token) (column : ℕ) (stage : PairStage) (p : ParserState)
    → Fits o t.lexeme.tail (in_mapping o t column stage p) (in_mapping o (untailed_token t) column stage (quiet o p))
in_mapping_fits o t column AtKey p = at_block_key_fits o t t.sort p
in_mapping_fits o t column BehindKey p = behind_block_key_fits o t column t.sort p
in_mapping_fits o t column stage p = behind_indicator_fits o t column stage p

-- ---- flow collections

close_flow_quiet : (o : OptionsData) (t : Token) (p : ParserState)
    → close_flow (untailed_token t) (quiet o p) ≡ quiet o (close_flow t p)
close_flow_quiet o t p = end_node_quiet o t.lexeme.start (record { start = t.lexeme.start; end = t.lexeme.shown.end }) p

flow_at_quiet : (o : OptionsData) (single : Bool) (stage : PairStage) (p : ParserState)
    → flow_at single stage (quiet o p) ≡ quiet o (flow_at single stage p)
flow_at_quiet o single stage p = ap (with_top (FlowMapping single stage)) (flush_quiet o p)

flow_colon_quiet : (o : OptionsData) (t : Token) (single : Bool) (p : ParserState)
    → flow_colon o (untailed_token t) single (quiet o p) ≡ quiet o (flow_colon o t single p)
flow_colon_quiet o t single p =
    let most = o.max_buffered_comment_events in
    ap (waits t.lexeme.start most) (flow_at_quiet o single AtValue p)
    ∙ waits_quiet o t.lexeme.start most (flow_at single AtValue p)

null_colon_quiet : (o : OptionsData) (t : Token) (single : Bool) (p : ParserState)
    → flow_colon o (untailed_token t) single (give (null_at t.lexeme.start) (quiet o p))
    ≡ quiet o (flow_colon o t single (give (null_at t.lexeme.start) p))
null_colon_quiet o t single p = ap (flow_colon o t single) (null_quiet o t.lexeme.start p)
    ∙ flow_colon_quiet o t single (give (null_at t.lexeme.start) p)

begin_pair_quiet : (o : OptionsData) (t : Token) (end : Mark) (f : Frame) (p : ParserState)
    → begin_pair (untailed_token t) end f (quiet o p) ≡ quiet o (begin_pair t end f p)
begin_pair_quiet o t end f p =
    ap (λ (q : ParserState). record q { frames = f ∷ q.frames })
    (give_quiet o (event_at (events.MappingStart Flow 0 None) (record { start = t.lexeme.start; end = end })) p
    refl)

bare_from : (o : OptionsData) (t : Token) (p q : ParserState) → q ≡ quiet o p
    → Fits o t.lexeme.tail (bare o t p) (bare o (untailed_token t) q)
bare_from o t p q e = subst (λ (x : ParserState). Fits o t.lexeme.tail (bare o t p) (bare o (untailed_token t) x))
    (sym e) (bare_fits o t p)

at_entry_fits : (o : OptionsData) (t : Token) (sort : TokenSort) (p : ParserState)
    → Fits o t.lexeme.tail (at_entry o t sort p) (at_entry o (untailed_token t) sort (quiet o p))
at_entry_fits o t SequenceCloser p = fits_ok o _ _ (close_flow_quiet o t p)
at_entry_fits o t QuestionToken p = fits_ok o _ _ (begin_pair_quiet o t t.lexeme.shown.end (FlowPair AtQuestion) p)
at_entry_fits o t BareColon p =
    let q = begin_pair t t.lexeme.start (FlowMapping true BeforePair) p in
    fits_ok o _ _ (ap (λ (x : ParserState). flow_colon o t true (give (null_at t.lexeme.start) x))
    (begin_pair_quiet o t t.lexeme.start (FlowMapping true BeforePair) p) ∙ null_colon_quiet o t true q)
at_entry_fits o t BeginsKey p = bare_from o t (begin_pair t t.lexeme.start (FlowMapping true AtKey) p) _
    (begin_pair_quiet o t t.lexeme.start (FlowMapping true AtKey) p)
at_entry_fits o t BeginsNode p = bare_fits o t p
at_entry_fits o t sort p = refuses o _

behind_entry_fits : (o : OptionsData) (t : Token) (sort : TokenSort) (p : ParserState)
    → Fits o t.lexeme.tail (behind_entry_of t sort p) (behind_entry_of (untailed_token t) sort (quiet o p))
behind_entry_fits o t SequenceCloser p = fits_ok o _ _ (close_flow_quiet o t p)
behind_entry_fits o t CommaToken p = fits_ok o _ _ refl
behind_entry_fits o t sort p = refuses o _

pub in_flow_sequence_fits : (o : OptionsData) (t : Token) (b : Bool) (p : ParserState)
    → Fits o t.lexeme.tail (in_flow_sequence o t b p) (in_flow_sequence o (untailed_token t) b (quiet o p))
in_flow_sequence_fits o t false p = at_entry_fits o t t.sort p
in_flow_sequence_fits o t true p = behind_entry_fits o t t.sort p

-- what one step of a flow mapping may do
record Ways (o : OptionsData) (t : Token) (single : Bool) (p : ParserState) : Type 0 where
  takes : Fits o t.lexeme.tail (bare o t p) (bare o (untailed_token t) (quiet o p))
  keyed : Fits o t.lexeme.tail (bare o t (flow_at single AtKey p))
      (bare o (untailed_token t) (flow_at single AtKey (quiet o p)))
  colon : Fits o t.lexeme.tail (Ok (flow_colon o t single p)) (Ok (flow_colon o (untailed_token t) single (quiet o p)))
  null_colon : Fits o t.lexeme.tail (Ok (flow_colon o t single (give (null_at t.lexeme.start) p)))
      (Ok (flow_colon o (untailed_token t) single (give (null_at t.lexeme.start) (quiet o p))))
  closes : Fits o t.lexeme.tail (Ok (close_flow t p)) (Ok (close_flow (untailed_token t) (quiet o p)))
  comma : Fits o t.lexeme.tail (Ok (flow_at single BeforePair (owed t.lexeme.start p)))
      (Ok (flow_at single BeforePair (owed t.lexeme.start (quiet o p))))
  asks : Fits o t.lexeme.tail (Ok (flow_at single AtQuestion p)) (Ok (flow_at single AtQuestion (quiet o p)))

ways : (o : OptionsData) (t : Token) (single : Bool) (p : ParserState) → Ways o t single p
ways o t single p = record {
  takes = bare_fits o t p;
  keyed = bare_from o t (flow_at single AtKey p) _ (flow_at_quiet o single AtKey p);
  colon = fits_ok o _ _ (flow_colon_quiet o t single p);
  null_colon = fits_ok o _ _ (null_colon_quiet o t single p);
  closes = fits_ok o _ _ (close_flow_quiet o t p);
  comma = fits_ok o _ _ (ap (flow_at single BeforePair) (owed_quiet o t.lexeme.start p)
      ∙ flow_at_quiet o single BeforePair (owed t.lexeme.start p));
  asks = fits_ok o _ _ (flow_at_quiet o single AtQuestion p);
}

flow_mapping_by : (o : OptionsData) (t : Token) (single : Bool) (stage : PairStage) (sort : TokenSort) (p : ParserState)
    → Ways o t single p → Fits o t.lexeme.tail (in_flow_mapping_by o t single stage sort p)
    (in_flow_mapping_by o (untailed_token t) single stage sort (quiet o p))
flow_mapping_by o t single AtKey BeginsNode p w = w.takes
flow_mapping_by o t single AtKey sort p w = refuses o _
flow_mapping_by o t single BehindKey KeyedColon p w = w.colon
flow_mapping_by o t single BehindKey sort p w = refuses o _
flow_mapping_by o t single stage MappingCloser p w = w.closes
flow_mapping_by o t single BeforePair CommaToken p w = refuses o _
flow_mapping_by o t single stage CommaToken p w = w.comma
flow_mapping_by o t single BeforePair QuestionToken p w = w.asks
flow_mapping_by o t single BeforePair BeginsKey p w = w.keyed
flow_mapping_by o t single BeforePair BareColon p w = w.null_colon
flow_mapping_by o t single AtQuestion BareColon p w = w.null_colon
flow_mapping_by o t single BehindQuestion BareColon p w = w.colon
flow_mapping_by o t single BeforePair BeginsNode p w = w.takes
flow_mapping_by o t single AtQuestion BeginsNode p w = w.takes
flow_mapping_by o t single AtValue BeginsNode p w = w.takes
flow_mapping_by o t single BeforePair sort p w = refuses o _
flow_mapping_by o t single AtQuestion sort p w = refuses o _
flow_mapping_by o t single AtValue sort p w = refuses o _
flow_mapping_by o t single stage sort p w = refuses o _

pub flow_mapping_fits : (o : OptionsData) (t : Token) (single : Bool) (stage : PairStage) (p : ParserState)
    → Fits o t.lexeme.tail (in_flow_mapping_by o t single stage t.sort p)
    (in_flow_mapping_by o (untailed_token t) single stage t.sort (quiet o p))
flow_mapping_fits o t single stage p = flow_mapping_by o t single stage t.sort p (ways o t single p)

pub flow_pair_fits : (o : OptionsData) (t : Token) (stage : PairStage) (sort : TokenSort) (p : ParserState)
    → Fits o t.lexeme.tail (in_flow_pair o t stage sort p) (in_flow_pair o (untailed_token t) stage sort (quiet o p))
flow_pair_fits o t BehindQuestion sort p = fits_ok o _ _ refl
flow_pair_fits o t stage BeginsNode p = bare_fits o t p
flow_pair_fits o t stage sort p = refuses o _

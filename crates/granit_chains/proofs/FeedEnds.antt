-- An item that is fed gives the end of at most one document.
use Rattle.std.proofs.Common.{◌≡◌, ℕ, ◌+◌, ◌≤◌, Bool, true, false, List, [], ◌∷◌, ◌++◌, Option, Some, None, Result}
use Rattle.std.proofs.Common.{Ok, Err, refl, ap, arith}
use Rattle.std.specs.Prelude.{if◌then◌else◌}
use Rattle.granit_base.specs.Place.{Mark}
use Rattle.granit_base.specs.Written.{Written}
use Rattle.granit_base.specs.declared.style.Placement.TheVariants.{Right}
use Rattle.granit_base.specs.declared.style.StructureStyle.TheVariants.{Flow}
use Rattle.granit_chains.specs.Chains.{ends_among, ends_of_kind, given_ends, held_events}
use Rattle.granit_error.specs.OptionsData.{OptionsData}
use Rattle.granit_lexemes.specs.Comment.{CommentRead}
use Rattle.granit_lexemes.specs.Lexeme as lexemes
use Rattle.granit_lexemes.specs.Lexeme.{DirectiveKind, Item, Lexeme, LexemeKind, OfComment, OfLexeme, Reserved}
use Rattle.granit_lexemes.specs.Lexeme.{TagPrefix, Version}
use Rattle.granit_lexemes.specs.Outcome.{Fault, ◌>>=◌}
use Rattle.granit_lexemes.specs.PlainEvent as events
use Rattle.granit_lexemes.specs.PlainEvent.{Anchor, Comment, event_at, EventKind, PlainEvent, PlainTag, PlainVersion}
use Rattle.granit_lexemes.specs.Source.{Source}
use Rattle.granit_lexemes.specs.declared.layout.Bracket.{Bracket}
use Rattle.granit_lexemes.specs.declared.layout.Bracket.TheVariants.{Curly, Square}
use Rattle.granit_machine.specs.Entries.{lookup_text}
use Rattle.granit_machine.specs.Frames.{AtKey, AtQuestion, AtValue, BeforePair, BehindAlone, BehindQuestion}
use Rattle.granit_machine.specs.Frames.{BlockMapping, BlockSequence, FlowMapping, FlowPair, FlowSequence, Frame}
use Rattle.granit_machine.specs.Frames.{NodeProperties, ParserState, Root, Waiting, WithProperties}
use Rattle.granit_machine.specs.Giving.{anchor_number, below_properties, empty_by, flush, flush_held, give}
use Rattle.granit_machine.specs.Giving.{give_empty, key_indent, node_event, node_event_by, null_at, properties_on}
use Rattle.granit_machine.specs.Giving.{put, span_with_tag, tag_value, tell_anchor}
use Rattle.granit_machine.specs.NodeEnds.{begin, begin_block, below, block_mapping, end_kind, end_node}
use Rattle.granit_machine.specs.NodeEnds.{end_properties, empty_span, finish, finish_in, null_node, owed, owed_in}
use Rattle.granit_machine.specs.NodeEnds.{waits, with_top}
use Rattle.granit_machine.specs.NodeSteps.{alias_by, bare, bare_by, block_sequence, dash_room, DashRole, token_number}
use Rattle.granit_machine.specs.NodeSteps.{first_dash, give_tail, IndentlessSequence, known_prefix, NewSequence}
use Rattle.granit_machine.specs.NodeSteps.{NextEntry, node, node_by, open_flow, Stepped, tag_prefix, take_dash}
use Rattle.granit_machine.specs.TokenSort.{BeginsKey, Token, TokenSort}

-- ---- events

pub ends_join : (xs ys : List PlainEvent) → ends_among (xs ++ ys) ≡ ends_among xs + ends_among ys
ends_join [] ys = omega arith
ends_join (x ∷ xs) ys = let e = ends_join xs ys in omega (arith, e)

-- no end more than so many
abbrev pub KeepsEnds : ℕ → Stepped → Type 0
KeepsEnds n (Ok q) = given_ends q ≤ n
KeepsEnds n (Err f) = Unit {0}

pub keeps_if : (n : ℕ) (b : Bool) (r s : Stepped) → KeepsEnds n r → KeepsEnds n s → KeepsEnds n (if b then r else s)
keeps_if n true r s x y = x
keeps_if n false r s x y = y

keeps_then : {A : Type 0} (n : ℕ) (r : Result A Fault) (f : A → Stepped) → ((x : A) → KeepsEnds n (f x))
    → KeepsEnds n (r >>= f)
keeps_then n (Ok x) f more = more x
keeps_then n (Err e) f more = tt

pub keeps_on : (n m : ℕ) (r : Stepped) (f : ParserState → Stepped) → KeepsEnds n r
    → ((q : ParserState) → given_ends q ≤ n → KeepsEnds m (f q)) → KeepsEnds m (r >>= f)
keeps_on n m (Ok q) f p more = more q p
keeps_on n m (Err e) f p more = tt

pub keeps_more : (n m : ℕ) (r : Stepped) → n ≤ m → KeepsEnds n r → KeepsEnds m r
keeps_more n m (Ok q) less p = omega (arith, less, p)
keeps_more n m (Err e) less p = tt

-- ---- giving

flushed_by : (w : Option Waiting) (p : ParserState) → p.waiting ≡ w → given_ends (flush_held w p) ≤ given_ends p
flushed_by None p e = omega arith
flushed_by (Some w) p e =
    let a = ends_join p.given w.held in
    let b : ends_among (held_events p.waiting) ≡ ends_among w.held =
    ap (λ (x : Option Waiting). ends_among (held_events x)) e in omega (arith, a, b)

pub flushed : (p : ParserState) → given_ends (flush p) ≤ given_ends p
flushed p = flushed_by p.waiting p refl

put_ends : (e : PlainEvent) (p : ParserState) → ends_of_kind e.kind ≡ 0 → given_ends (put e p) ≤ given_ends p
put_ends e p k = let a = ends_join p.given (e ∷ []) in omega (arith, a, k)

pub give_ends : (e : PlainEvent) (p : ParserState) → ends_of_kind e.kind ≡ 0 → given_ends (give e p) ≤ given_ends p
give_ends e p k = let a = flushed p in let b = put_ends e (flush p) k in omega (arith, a, b)

empty_ends_by : (w : Option Waiting) (p : ParserState) → given_ends (empty_by w p) ≤ given_ends p
empty_ends_by None p = omega arith
empty_ends_by (Some w) p =
    let a = put_ends (null_at w.at) p refl in let b = flushed (put (null_at w.at) p) in omega (arith, a, b)

pub empty_ends : (p : ParserState) → given_ends (give_empty p) ≤ given_ends p
empty_ends p = empty_ends_by p.waiting p

given_if : (b : Bool) (p q : ParserState) (n : ℕ) → given_ends p ≤ n → given_ends q ≤ n
    → given_ends (if b then p else q) ≤ n
given_if true p q n x y = x
given_if false p q n x y = y

anchor_ends : (o : OptionsData) (a : Option (ℕ × Written × Source)) (p : ParserState)
    → given_ends (tell_anchor o a p) ≤ given_ends p
anchor_ends o None p = omega arith
anchor_ends o (Some a) p =
    let e = event_at (Anchor a.0 a.1) a.2 in
    let j = ends_join p.given (e ∷ []) in
    given_if o.emit_anchor_events (record p { given = p.given ++ e ∷ [] }) p (given_ends p) (omega (arith, j))
    (omega arith)

abbrev NoEnd : (ℕ → Option PlainTag → EventKind) → Type 0
NoEnd kind = (number : ℕ) (tag : Option PlainTag) → ends_of_kind (kind number tag) ≡ 0

node_by_ends : (o : OptionsData) (q : NodeProperties) (kind : ℕ → Option PlainTag → EventKind) (source : Source)
    (indent : Option ℕ) (p : ParserState) → NoEnd kind
    → given_ends (node_event_by o q kind source indent p) ≤ given_ends p
node_by_ends o q kind source indent p none =
    let e : PlainEvent = record {
      kind = kind (anchor_number q.anchor) (tag_value q.tag);
      span = span_with_tag q.tag source (key_indent p.frames indent);
    } in
    let a = give_ends e p (none (anchor_number q.anchor) (tag_value q.tag)) in
    let b = anchor_ends o q.anchor (give e p) in omega (arith, a, b)

node_ends : (o : OptionsData) (kind : ℕ → Option PlainTag → EventKind) (source : Source) (indent : Option ℕ)
    (p : ParserState) → NoEnd kind → given_ends (node_event o kind source indent p) ≤ given_ends p
unfolding node_event
node_ends o kind source indent p none =
    node_by_ends o (properties_on p.frames source.end) kind source indent
    (record p { frames = below_properties p.frames }) none

finished_by : (fs : List Frame) (p : ParserState) → given_ends (finish_in fs p) ≤ given_ends p
finished_by [] p = omega arith
finished_by (Root explicit ∷ fs) p = omega arith
finished_by (WithProperties q ∷ fs) p = omega arith
finished_by (BlockSequence column indentless ∷ fs) p = omega arith
finished_by (BlockMapping column stage ∷ fs) p = omega arith
finished_by (FlowMapping single stage ∷ fs) p = omega arith
finished_by (FlowPair stage ∷ fs) p = omega arith
finished_by (FlowSequence behind_entry ∷ fs) p = omega arith

pub finished : (p : ParserState) → given_ends (finish p) ≤ given_ends p
finished p = finished_by p.frames p

two_ends : (d e : PlainEvent) (p : ParserState) → ends_of_kind d.kind ≡ 0 → ends_of_kind e.kind ≡ 0
    → given_ends (give d (give e p)) ≤ given_ends p
two_ends d e p x y = let a = give_ends e p y in let b = give_ends d (give e p) x in omega (arith, a, b)

owed_ends_by : (fs : List Frame) (x : Mark) (p : ParserState) → given_ends (owed_in fs x p) ≤ given_ends p
owed_ends_by (BlockSequence column indentless ∷ fs) x p = empty_ends p
owed_ends_by (BlockMapping column AtValue ∷ fs) x p = empty_ends p
owed_ends_by (FlowMapping single AtValue ∷ fs) x p = empty_ends p
owed_ends_by (BlockMapping column AtQuestion ∷ fs) x p = two_ends _ _ p refl refl
owed_ends_by (FlowMapping single AtQuestion ∷ fs) x p = two_ends _ _ p refl refl
owed_ends_by (FlowPair AtQuestion ∷ fs) x p = two_ends _ _ p refl refl
owed_ends_by (BlockMapping column BehindQuestion ∷ fs) x p = give_ends _ p refl
owed_ends_by (FlowMapping single BehindQuestion ∷ fs) x p = give_ends _ p refl
owed_ends_by (FlowMapping single BehindAlone ∷ fs) x p = give_ends _ p refl
owed_ends_by (FlowPair BehindQuestion ∷ fs) x p = give_ends _ p refl
owed_ends_by (FlowPair AtValue ∷ fs) x p = give_ends _ p refl
owed_ends_by fs x p = omega arith

pub owed_ends : (x : Mark) (p : ParserState) → given_ends (owed x p) ≤ given_ends p
owed_ends x p = owed_ends_by p.frames x p

kind_ends : (fs : List Frame) → ends_of_kind (end_kind fs) ≡ 0
kind_ends (BlockSequence column indentless ∷ fs) = refl
kind_ends (FlowSequence behind_entry ∷ fs) = refl
kind_ends fs = refl

pub closed_ends : (x : Mark) (source : Source) (p : ParserState) → given_ends (end_node x source p) ≤ given_ends p
unfolding end_node
closed_ends x source p =
    let q = owed x p in
    let e = event_at (end_kind q.frames) source in
    let r : ParserState = record q { frames = below q.frames } in
    let a = owed_ends x p in let b = give_ends e r (kind_ends q.frames) in let c = finished (give e r) in
    omega (arith, a, b, c)

pub properties_ends : (o : OptionsData) (q : NodeProperties) (p : ParserState)
    → given_ends (end_properties o q p) ≤ given_ends p
unfolding end_properties
properties_ends o q p =
    let a = node_ends o (null_node q) (empty_span q.end) None p (λ number tag. refl) in
    let b = finished (node_event o (null_node q) (empty_span q.end) None p) in omega (arith, a, b)

begun_ends : (o : OptionsData) (kind : ℕ → Option PlainTag → EventKind) (source : Source) (frame : Frame)
    (p : ParserState) → NoEnd kind → given_ends (begin o kind source frame p) ≤ given_ends p
begun_ends o kind source frame p none = node_ends o kind source None p none

block_ends : (o : OptionsData) (kind : ℕ → Option PlainTag → EventKind) (m : Mark) (frame : Frame) (p : ParserState)
    → NoEnd kind → KeepsEnds (given_ends p) (begin_block o kind m frame p)
unfolding begin_block
block_ends o kind m frame p none =
    let e = begun_ends o kind (empty_span m) frame p none in search (keeps_if, e)

pub waits_ends : (m : Mark) (room : ℕ) (p : ParserState) → given_ends (waits m room p) ≤ given_ends p
waits_ends m room p = let a = flushed p in omega (arith, a)

tail_ends : (c : Option CommentRead) (p : ParserState) → given_ends (give_tail c p) ≤ given_ends p
tail_ends None p = omega arith
tail_ends (Some c) p =
    let e = event_at (Comment c.text Right) c.source in
    let a = flushed p in let b = ends_join (flush p).given (e ∷ []) in omega (arith, a, b)

-- ---- a node

alias_ends : (o : OptionsData) (t : Token) (name : Written) (known : Option ℕ) (p : ParserState)
    → KeepsEnds (given_ends p) (alias_by o t name known p)
alias_ends o t name (Some n) p =
    let q = node_event o (λ number tag. events.Alias n) t.lexeme.shown None p in
    let a = node_ends o (λ number tag. events.Alias n) t.lexeme.shown None p (λ number tag. refl) in
    let b = finished q in omega (arith, a, b)
alias_ends o t name None p =
    let q = node_event o (λ number tag. events.UnresolvedAlias name) t.lexeme.shown None p in
    let a = node_ends o (λ number tag. events.UnresolvedAlias name) t.lexeme.shown None p (λ number tag. refl) in
    let b = finished q in
    let e : given_ends (finish q) ≤ given_ends p = omega (arith, a, b) in search (keeps_if, e)

pub dash_ends : (o : OptionsData) (t : Token) (role : DashRole) (indentless : Bool) (p : ParserState)
    → KeepsEnds (given_ends p) (take_dash o t role indentless p)
unfolding take_dash
dash_ends o t NextEntry indentless p =
    keeps_then (given_ends p) (dash_room o t.lexeme.tail) _ (λ room.
    let q = give_tail t.lexeme.tail p in
    let r = with_top (BlockSequence (token_number t) indentless) q in
    let a = tail_ends t.lexeme.tail p in let b = waits_ends t.lexeme.end room r in omega (arith, a, b))
dash_ends o t NewSequence indentless p =
    keeps_on (given_ends p) (given_ends p)
    (begin_block o block_sequence t.lexeme.start (BlockSequence (token_number t) false) p) _
    (block_ends o block_sequence t.lexeme.start (BlockSequence (token_number t) false) p (λ number tag. refl))
    (λ q less.
    keeps_then (given_ends p) (dash_room o t.lexeme.tail) _ (λ room.
    let a = tail_ends t.lexeme.tail q in let b = waits_ends t.lexeme.end room (give_tail t.lexeme.tail q) in
    omega (arith, a, b, less)))
dash_ends o t IndentlessSequence indentless p =
    let e = keeps_then (given_ends p) (dash_room o t.lexeme.tail)
    (λ room. Ok (waits t.lexeme.end room
    (begin o block_sequence (empty_span t.lexeme.end) (BlockSequence (token_number t) true)
    (give_tail t.lexeme.tail p)))) (λ room.
    let q = give_tail t.lexeme.tail p in
    let frame = BlockSequence (token_number t) true in
    let a = tail_ends t.lexeme.tail p in
    let b = begun_ends o block_sequence (empty_span t.lexeme.end) frame q (λ number tag. refl) in
    let c = waits_ends t.lexeme.end room (begin o block_sequence (empty_span t.lexeme.end) frame q) in
    omega (arith, a, b, c)) in search (keeps_if, e)

open_ends : (o : OptionsData) (bracket : Bracket) (t : Token) (p : ParserState)
    → given_ends (open_flow o bracket t p) ≤ given_ends p
open_ends o Square t p =
    begun_ends o (λ number tag. events.SequenceStart Flow number tag) t.lexeme.shown (FlowSequence false) p
    (λ number tag. refl)
open_ends o Curly t p =
    begun_ends o (λ number tag. events.MappingStart Flow number tag) t.lexeme.shown (FlowMapping false BeforePair) p
    (λ number tag. refl)

colon_ends : (o : OptionsData) (t : Token) (p : ParserState)
    → KeepsEnds (given_ends p)
    (begin_block o block_mapping t.lexeme.start (BlockMapping (token_number t) AtValue) p >>= λ q.
    Ok (waits t.lexeme.start o.max_buffered_comment_events (give (null_at t.lexeme.start) q)))
colon_ends o t p =
    keeps_on (given_ends p) (given_ends p)
    (begin_block o block_mapping t.lexeme.start (BlockMapping (token_number t) AtValue) p) _
    (block_ends o block_mapping t.lexeme.start (BlockMapping (token_number t) AtValue) p (λ number tag. refl))
    (λ q less.
    let r = give (null_at t.lexeme.start) q in
    let a = give_ends (null_at t.lexeme.start) q refl in
    let b = waits_ends t.lexeme.start o.max_buffered_comment_events r in omega (arith, a, b, less))

bare_ends_by : (o : OptionsData) (kind : LexemeKind) (t : Token) (p : ParserState)
    → KeepsEnds (given_ends p) (bare_by o kind t p)
bare_ends_by o (lexemes.Alias name) t p = alias_ends o t name (lookup_text name.characters p.names) p
bare_ends_by o (lexemes.Scalar style text) t p =
    let kind : ℕ → Option PlainTag → EventKind = λ number tag. events.Scalar text style number tag in
    let a = node_ends o kind t.lexeme.shown t.lexeme.indent p (λ number tag. refl) in
    let b = finished (node_event o kind t.lexeme.shown t.lexeme.indent p) in omega (arith, a, b)
bare_ends_by o (lexemes.Open bracket) t p = open_ends o bracket t p
bare_ends_by o (lexemes.Anchor name) t p = let a = flushed p in omega (arith, a)
bare_ends_by o (lexemes.Tag handle suffix) t p =
    keeps_then (given_ends p) (tag_prefix t handle (known_prefix o handle p)) _ (λ prefix.
    let a = flushed p in omega (arith, a))
bare_ends_by o lexemes.Dash t p = dash_ends o t (first_dash _) false p
bare_ends_by o lexemes.Question t p =
    block_ends o block_mapping t.lexeme.start (BlockMapping (token_number t) AtQuestion) p (λ number tag. refl)
bare_ends_by o kind t p = colon_ends o t p

pub bare_ends : (o : OptionsData) (t : Token) (p : ParserState) → KeepsEnds (given_ends p) (bare o t p)
bare_ends o t p = bare_ends_by o t.lexeme.kind t p

node_begins : (o : OptionsData) (sort : TokenSort) (t : Token) (p : ParserState)
    → KeepsEnds (given_ends p) (node_by o sort t p)
node_begins o BeginsKey t p =
    keeps_on (given_ends p) (given_ends p)
    (begin_block o block_mapping t.lexeme.start (BlockMapping (token_number t) AtKey) p) (bare o t)
    (block_ends o block_mapping t.lexeme.start (BlockMapping (token_number t) AtKey) p (λ number tag. refl))
    (λ q less. keeps_more (given_ends q) (given_ends p) (bare o t q) less (bare_ends o t q))
node_begins o sort t p = bare_ends o t p

pub node_keeps : (o : OptionsData) (t : Token) (p : ParserState) → KeepsEnds (given_ends p) (node o t p)
node_keeps o t p = node_begins o t.sort t p

-- Each step of the parser keeps its frames what its events left open.
use Rattle.std.proofs.Common.{◌≡◌, ℕ, suc, Bool, true, false, List, [], ◌∷◌, Option, Some, None, Result, Ok, Err, refl}
use Rattle.std.proofs.Common.{ap}
use Rattle.std.specs.Prelude.{if◌then◌else◌}
use Rattle.granit_base.specs.Place.{Mark}
use Rattle.granit_base.specs.Written.{Written}
use Rattle.granit_base.specs.declared.style.Placement.TheVariants.{Right}
use Rattle.granit_base.specs.declared.style.StructureStyle.TheVariants.{Flow}
use Rattle.granit_error.specs.OptionsData.{OptionsData}
use Rattle.granit_lexemes.specs.Lexeme.{LexemeKind}
use Rattle.granit_lexemes.specs.declared.layout.Bracket.{Bracket}
use Rattle.granit_lexemes.specs.declared.layout.Bracket.TheVariants.{Square, Curly}
use Rattle.granit_lexemes.specs.Outcome.{Fault, ◌>>=◌}
use Rattle.granit_lexemes.specs.PlainEvent.{PlainEvent, PlainVersion, PlainTag, EventKind, event_at}
use Rattle.granit_machine.specs.BlockSteps.{in_sequence, mapping_at, mapping_colon, bare_colon_in_mapping, next_pair}
use Rattle.granit_machine.specs.BlockSteps.{behind_indicator, at_block_key, behind_block_key, in_mapping}
use Rattle.granit_machine.specs.FlowSteps.{close_flow, flow_at, flow_colon, begin_pair, at_entry, behind_entry_of}
use Rattle.granit_machine.specs.FlowSteps.{in_flow_sequence, in_flow_mapping_by, in_flow_pair}
use Rattle.granit_machine.specs.Frames.{PairStage, BeforePair, AtKey, BehindKey, AtQuestion, BehindQuestion, AtValue}
use Rattle.granit_machine.specs.Frames.{NodeProperties, Frame, WithProperties, BlockSequence, BlockMapping}
use Rattle.granit_machine.specs.Frames.{FlowSequence, FlowMapping, FlowPair, DocumentStage, ParserState}
use Rattle.granit_machine.specs.Giving.{null_at, with_indent, flush, give, give_empty, below_properties}
use Rattle.granit_machine.specs.NodeEnds.{end_kind, owed, empty_span, begin, begin_block, block_mapping, waits}
use Rattle.granit_machine.specs.NodeEnds.{with_top, may_be_indentless}
use Rattle.granit_machine.specs.NodeSteps.{Stepped, alias_by, tag_prefix, with_properties, tagged, block_sequence}
use Rattle.granit_machine.specs.NodeSteps.{known_prefix}
use Rattle.granit_machine.specs.NodeSteps.{NextEntry, dash_room, give_tail, token_number, take_dash, first_dash}
use Rattle.granit_machine.specs.NodeSteps.{open_flow, bare_by, bare, node_by, node}
use Rattle.granit_machine.specs.Entries.{lookup_text, remembered}
use Rattle.granit_machine.specs.TokenSort.{TokenSort, BeginsKey, BeginsNode, QuestionToken, BareColon, KeyedColon}
use Rattle.granit_machine.specs.TokenSort.{CommaToken, SequenceCloser, MappingCloser, Token}
use Rattle.granit_steps.specs.Levels.{Level, InSequence, InMapping, node_done, node_begun, behind_event}
use Rattle.granit_lexemes.specs.PlainEvent as events
use Rattle.granit_lexemes.specs.Comment.{CommentRead}
use Rattle.granit_lexemes.specs.Lexeme as lexemes
use Rattle.granit_streams.proofs.Nesting.{levels_of, Clean, Fine, more_left, clean_begun, Is, Agrees, agrees, flush_is}
use Rattle.granit_streams.proofs.Nesting.{give_is, give_empty_is, Open, leaf_agrees, begin_is, waits_is, top_is}
use Rattle.granit_streams.proofs.Nesting.{null_is}
use Rattle.granit_streams.proofs.Nesting.{owed_is, end_node_agrees, ActsAs}

-- ---- steps that may fail

abbrev pub Agreed : List Level → Stepped → Type 0
Agreed a (Ok q) = Agrees a q
Agreed a (Err f) = Unit {0}

pub agreed_if : (a : List Level) (b : Bool) (x y : Stepped) → Agreed a x → Agreed a y → Agreed a (if b then x else y)
agreed_if a true x y p q = p
agreed_if a false x y p q = q

agreed_behind : {A : Type 0} (a : List Level) (r : Result A Fault) (f : A → Stepped) → ((x : A) → Agreed a (f x))
    → Agreed a (r >>= f)
agreed_behind a (Ok x) f q = q x
agreed_behind a (Err e) f q = tt

abbrev IsIn : List Level → List Frame → DocumentStage → List Level → Stepped → Type 0
IsIn a fs st ls (Ok q) = Is a q fs st ls
IsIn a fs st ls (Err f) = Unit {0}

is_in_if : (a : List Level) (fs : List Frame) (st : DocumentStage) (ls : List Level) (b : Bool) (x y : Stepped)
    → IsIn a fs st ls x → IsIn a fs st ls y → IsIn a fs st ls (if b then x else y)
is_in_if a fs st ls true x y p q = p
is_in_if a fs st ls false x y p q = q

agreed_from : (a : List Level) (fs : List Frame) (st : DocumentStage) (ls : List Level) (r : Stepped)
    (f : ParserState → Stepped) → IsIn a fs st ls r → ((q : ParserState) → Is a q fs st ls → Agreed a (f q))
    → Agreed a (r >>= f)
agreed_from a fs st ls (Ok q) f p k = k q p
agreed_from a fs st ls (Err e) f p k = tt

agreed_is : (a : List Level) (fs : List Frame) (st : DocumentStage) (r : Stepped) → Fine fs
    → IsIn a fs st (levels_of fs st) r → Agreed a r
agreed_is a fs st (Ok q) fine p = agrees a q fs st p fine
agreed_is a fs st (Err f) fine p = tt

open_flush : (a : List Level) (p : ParserState) (fs : List Frame) (st : DocumentStage) → Open a p fs st
    → Open a (flush p) fs st
open_flush a p fs st x = record { is = flush_is a p fs st _ x.is; clean = x.clean }

-- ---- a node's lexeme

alias_agreed : (a : List Level) (o : OptionsData) (t : Token) (name : Written) (n : Option ℕ) (p : ParserState)
    (fs : List Frame) (st : DocumentStage) → Open a p fs st → Agreed a (alias_by o t name n p)
alias_agreed a o t name (Some n) p fs st x = leaf_agrees a o (λ number tag. events.Alias n) t.lexeme.shown None p fs st
    (λ n t ls. refl) x
alias_agreed a o t name None p fs st x =
    let e = leaf_agrees a o (λ number tag. events.UnresolvedAlias name) t.lexeme.shown None p fs st (λ n t ls. refl)
    x in
    search (agreed_if, e)

properties_agree : (a : List Level) (q : NodeProperties) (p : ParserState) (fs : List Frame) (st : DocumentStage)
    → Open a p fs st → Agrees a (with_properties q p)
properties_agree a q p fs st x =
    agrees a (with_properties q p) (WithProperties q ∷ below_properties fs) st
    (record {
      left = x.is.left;
      frames = ap (λ gs. WithProperties q ∷ below_properties gs) x.is.frames;
      stage =
          x.is.stage;
      held = x.is.held;
    }) x.clean

give_tail_is : (a : List Level) (c : Option CommentRead) (p : ParserState) (fs : List Frame) (st : DocumentStage)
    (ls : List Level) → Is a p fs st ls → Is a (give_tail c p) fs st ls
give_tail_is a None p fs st ls x = x
give_tail_is a (Some c) p fs st ls x =
    let q = flush_is a p fs st ls x in
    record {
      left = more_left a (flush p).given (event_at (events.Comment c.text Right) c.source ∷ []) ls ls q.left
          refl;
      frames = q.frames;
      stage = q.stage;
      held = q.held;
    }

begin_block_is : (a : List Level) (o : OptionsData) (kind : ℕ → Option PlainTag → EventKind) (m : Mark) (l : Level)
    (f : Frame) (p : ParserState) (fs : List Frame) (st : DocumentStage) → ActsAs kind (node_begun l) → Open a p fs st
    → IsIn a (f ∷ below_properties fs) st (l ∷ levels_of (below_properties fs) st) (begin_block o kind m f p)
unfolding begin_block
begin_block_is a o kind m l f p fs st h x = let e = begin_is a o kind (empty_span m) l f p fs st h x in search
    (is_in_if, e)

waits_agrees : (a : List Level) (m : Mark) (room : ℕ) (p : ParserState) (fs : List Frame) (st : DocumentStage) → Fine fs
    → Is a p fs st (levels_of fs st) → Agrees a (waits m room p)
waits_agrees a m room p fs st fine x = agrees a (waits m room p) fs st (waits_is a m room p fs st (levels_of fs st) x)
    fine

next_dash : (a : List Level) (o : OptionsData) (t : Token) (indentless old : Bool) (column : ℕ) (p : ParserState)
    (fs : List Frame) (st : DocumentStage) → Is a p (BlockSequence column old ∷ fs) st (InSequence ∷ levels_of fs st)
    → Clean fs → Agreed a (take_dash o t NextEntry indentless p)
unfolding take_dash
next_dash a o t indentless old column p fs st x c =
    agreed_behind a (dash_room o t.lexeme.tail) _
    (λ room. waits_agrees a t.lexeme.end room
    (with_top (BlockSequence (token_number t) indentless) (give_tail t.lexeme.tail p))
    (BlockSequence (token_number t) indentless ∷ fs) st c
    (top_is a (BlockSequence (token_number t) indentless) (BlockSequence column old) (give_tail t.lexeme.tail p) fs st
    (InSequence ∷ levels_of fs st) (give_tail_is a t.lexeme.tail p (BlockSequence column old ∷ fs) st
    (InSequence ∷ levels_of fs st) x)))

first_dash_agreed : (a : List Level) (o : OptionsData) (t : Token) (b indentless : Bool) (p : ParserState)
    (fs : List Frame) (st : DocumentStage) → Open a p fs st → Agreed a (take_dash o t (first_dash b) indentless p)
unfolding take_dash
first_dash_agreed a o t false indentless p fs st x =
    let gs = below_properties fs in
    agreed_from a (BlockSequence (token_number t) false ∷ gs) st (InSequence ∷ levels_of gs st)
    (begin_block o block_sequence t.lexeme.start (BlockSequence (token_number t) false) p)
    (λ q. dash_room o t.lexeme.tail >>= λ room. Ok (waits t.lexeme.end room (give_tail t.lexeme.tail q)))
    (begin_block_is a o block_sequence t.lexeme.start InSequence (BlockSequence (token_number t) false) p fs st
    (λ n t ls. refl) x)
    (λ q y. agreed_behind a (dash_room o t.lexeme.tail)
    (λ room. Ok (waits t.lexeme.end room (give_tail t.lexeme.tail q)))
    (λ room. waits_agrees a t.lexeme.end room (give_tail t.lexeme.tail q)
    (BlockSequence (token_number t) false ∷ gs) st x.clean
    (give_tail_is a t.lexeme.tail q (BlockSequence (token_number t) false ∷ gs) st (InSequence ∷ levels_of gs st) y)))
first_dash_agreed a o t true indentless p fs st x =
    let gs = below_properties fs in
    let y : Open a (give_tail t.lexeme.tail p) fs st =
    record { is = give_tail_is a t.lexeme.tail p fs st (levels_of gs st) x.is; clean = x.clean } in
    let e = agreed_behind a (dash_room o t.lexeme.tail)
    (λ room. Ok (waits t.lexeme.end room (begin o block_sequence (empty_span t.lexeme.end)
    (BlockSequence (token_number t) true) (give_tail t.lexeme.tail p))))
    (λ room. waits_agrees a t.lexeme.end room
    (begin o block_sequence (empty_span t.lexeme.end) (BlockSequence (token_number t) true)
    (give_tail t.lexeme.tail p)) (BlockSequence (token_number t) true ∷ gs) st x.clean
    (begin_is a o block_sequence (empty_span t.lexeme.end) InSequence (BlockSequence (token_number t) true)
    (give_tail t.lexeme.tail p) fs st (λ n t ls. refl) y)) in
    search (agreed_if, e)

open_flow_agrees : (a : List Level) (o : OptionsData) (b : Bracket) (t : Token) (p : ParserState) (fs : List Frame)
    (st : DocumentStage) → Open a p fs st → Agrees a (open_flow o b t p)
open_flow_agrees a o Square t p fs st x = agrees a (open_flow o Square t p) (FlowSequence false ∷ below_properties fs)
    st (begin_is a o _ t.lexeme.shown InSequence (FlowSequence false) p fs st (λ n t ls. refl) x) x.clean
open_flow_agrees a o Curly t p fs st x = agrees a (open_flow o Curly t p)
    (FlowMapping false BeforePair ∷ below_properties fs) st
    (begin_is a o _ t.lexeme.shown InMapping (FlowMapping false BeforePair) p fs st (λ n t ls. refl) x) x.clean

question_agreed : (a : List Level) (o : OptionsData) (t : Token) (p : ParserState) (fs : List Frame)
    (st : DocumentStage) → Open a p fs st → Agreed a
    (begin_block o block_mapping t.lexeme.start (BlockMapping (token_number t) AtQuestion) p)
question_agreed a o t p fs st x =
    agreed_is a (BlockMapping (token_number t) AtQuestion ∷ below_properties fs) st _ x.clean
    (begin_block_is a o block_mapping t.lexeme.start InMapping (BlockMapping (token_number t) AtQuestion) p fs st
    (λ n t ls. refl) x)

colon_agreed : (a : List Level) (o : OptionsData) (t : Token) (p : ParserState) (fs : List Frame) (st : DocumentStage)
    → Open a p fs st
    → Agreed a (begin_block o block_mapping t.lexeme.start (BlockMapping (token_number t) AtValue) p >>= λ q. Ok
    (waits t.lexeme.start o.max_buffered_comment_events (give (null_at t.lexeme.start) q)))
colon_agreed a o t p fs st x =
    let gs = below_properties fs in
    agreed_from a (BlockMapping (token_number t) AtValue ∷ gs) st (InMapping ∷ levels_of gs st)
    (begin_block o block_mapping t.lexeme.start (BlockMapping (token_number t) AtValue) p)
    (λ q. Ok (waits t.lexeme.start o.max_buffered_comment_events (give (null_at t.lexeme.start) q)))
    (begin_block_is a o block_mapping t.lexeme.start InMapping (BlockMapping (token_number t) AtValue) p fs st
    (λ n t ls. refl) x)
    (λ q y. waits_agrees a t.lexeme.start o.max_buffered_comment_events (give (null_at t.lexeme.start) q)
    (BlockMapping (token_number t) AtValue ∷ gs) st x.clean
    (null_is a t.lexeme.start q (BlockMapping (token_number t) AtValue ∷ gs) st (InMapping ∷ levels_of gs st)
    (InMapping ∷ levels_of gs st) refl y))

bare_by_agreed : (a : List Level) (o : OptionsData) (kind : LexemeKind) (t : Token) (p : ParserState) (fs : List Frame)
    (st : DocumentStage) → Open a p fs st → Agreed a (bare_by o kind t p)
bare_by_agreed a o (lexemes.Alias name) t p fs st x = alias_agreed a o t name (lookup_text name.characters p.names) p fs
    st x
bare_by_agreed a o (lexemes.Scalar style text) t p fs st x = leaf_agrees a o
    (λ number tag. events.Scalar text style number tag) t.lexeme.shown t.lexeme.indent p fs st (λ n t ls. refl) x
bare_by_agreed a o (lexemes.Open bracket) t p fs st x = open_flow_agrees a o bracket t p fs st x
bare_by_agreed a o (lexemes.Anchor name) t p fs st x =
    let y = open_flush a p fs st x in
    properties_agree a _ (record (flush p) {
      count = suc (flush p).count;
      names = remembered name.characters
          (suc (flush p).count) (flush p).names;
    }) fs st
    (record {
      is = record { left = y.is.left; frames = y.is.frames; stage = y.is.stage; held = y.is.held };
      clean =
          y.clean;
    })
bare_by_agreed a o (lexemes.Tag handle suffix) t p fs st x =
    agreed_behind a (tag_prefix t handle (known_prefix o handle p))
    (λ prefix. Ok (tagged t handle suffix prefix (flush p)))
    (λ prefix. properties_agree a _ (flush p) fs st (open_flush a p fs st x))
bare_by_agreed a o lexemes.Dash t p fs st x = first_dash_agreed a o t
    (may_be_indentless (token_number t) (below_properties p.frames)) false p fs st x
bare_by_agreed a o lexemes.Question t p fs st x = question_agreed a o t p fs st x
bare_by_agreed a o kind t p fs st x = colon_agreed a o t p fs st x

pub bare_agreed : (a : List Level) (o : OptionsData) (t : Token) (p : ParserState) (fs : List Frame)
    (st : DocumentStage) → Open a p fs st → Agreed a (bare o t p)
bare_agreed a o t p fs st x = bare_by_agreed a o t.lexeme.kind t p fs st x

node_by_agreed : (a : List Level) (o : OptionsData) (sort : TokenSort) (t : Token) (p : ParserState) (fs : List Frame)
    (st : DocumentStage) → Open a p fs st → Agreed a (node_by o sort t p)
node_by_agreed a o BeginsKey t p fs st x =
    let gs = below_properties fs in
    agreed_from a (BlockMapping (token_number t) AtKey ∷ gs) st (InMapping ∷ levels_of gs st)
    (begin_block o block_mapping t.lexeme.start (BlockMapping (token_number t) AtKey) p) (bare o t)
    (begin_block_is a o block_mapping t.lexeme.start InMapping (BlockMapping (token_number t) AtKey) p fs st
    (λ n t ls. refl) x)
    (λ q y. bare_agreed a o t q (BlockMapping (token_number t) AtKey ∷ gs) st (record { is = y; clean = x.clean }))
node_by_agreed a o sort t p fs st x = bare_agreed a o t p fs st x

pub node_agreed : (a : List Level) (o : OptionsData) (t : Token) (p : ParserState) (fs : List Frame)
    (st : DocumentStage) → Open a p fs st → Agreed a (node o t p)
node_agreed a o t p fs st x = node_by_agreed a o t.sort t p fs st x

-- ---- block collections

open_sequence : (a : List Level) (column : ℕ) (indentless : Bool) (p : ParserState) (fs : List Frame)
    (st : DocumentStage) → Is a p (BlockSequence column indentless ∷ fs) st (InSequence ∷ levels_of fs st) → Clean fs
    → Open a p (BlockSequence column indentless ∷ fs) st
open_sequence a column indentless p fs st x c = record { is = x; clean = c }

pub in_sequence_agreed : (a : List Level) (o : OptionsData) (t : Token) (column : ℕ) (indentless : Bool)
    (p : ParserState) (fs : List Frame) (st : DocumentStage)
    → Is a p (BlockSequence column indentless ∷ fs) st (InSequence ∷ levels_of fs st) → Clean fs
    → Agreed a (in_sequence o t column indentless p)
unfolding in_sequence
in_sequence_agreed a o t column indentless p fs st x c =
    let d = next_dash a o t indentless indentless column (give_empty p) fs st
    (give_empty_is a p (BlockSequence column indentless ∷ fs) st (InSequence ∷ levels_of fs st) refl x) c in
    let n = node_agreed a o t p (BlockSequence column indentless ∷ fs) st (record { is = x; clean = c }) in
    search (agreed_if, d, n)

mapping_at_is : (a : List Level) (column : ℕ) (stage : PairStage) (f : Frame) (p : ParserState) (fs : List Frame)
    (st : DocumentStage) (ls : List Level) → Is a p (f ∷ fs) st ls
    → Is a (mapping_at column stage p) (BlockMapping column stage ∷ fs) st ls
mapping_at_is a column stage f p fs st ls x = top_is a (BlockMapping column stage) f (flush p) fs st ls
    (flush_is a p (f ∷ fs) st ls x)

mapping_colon_agrees : (a : List Level) (o : OptionsData) (t : Token) (column : ℕ) (f : Frame) (p : ParserState)
    (fs : List Frame) (st : DocumentStage) → Is a p (f ∷ fs) st (InMapping ∷ levels_of fs st) → Clean fs
    → Agrees a (mapping_colon o t column p)
mapping_colon_agrees a o t column f p fs st x c =
    waits_agrees a t.lexeme.start o.max_buffered_comment_events (mapping_at column AtValue p)
    (BlockMapping column AtValue ∷ fs) st c
    (mapping_at_is a column AtValue f p fs st (InMapping ∷ levels_of fs st) x)

with_null : (a : List Level) (m : Mark) (p : ParserState) (fs : List Frame) (st : DocumentStage) (ls : List Level)
    → Is a p fs st (InMapping ∷ ls) → Is a (give (null_at m) p) fs st (InMapping ∷ ls)
with_null a m p fs st ls x = null_is a m p fs st (InMapping ∷ ls) (InMapping ∷ ls) refl x

bare_colon_agrees : (a : List Level) (o : OptionsData) (t : Token) (column : ℕ) (stage : PairStage) (p : ParserState)
    (fs : List Frame) (st : DocumentStage) → Is a p (BlockMapping column stage ∷ fs) st (InMapping ∷ levels_of fs st)
    → Clean fs → Agrees a (bare_colon_in_mapping o t column stage p)
bare_colon_agrees a o t column AtQuestion p fs st x c =
    mapping_colon_agrees a o t column (BlockMapping column AtQuestion) _ fs st
    (give_is a (with_indent (Some column) (null_at t.lexeme.start)) p (BlockMapping column AtQuestion ∷ fs) st
    (InMapping ∷ levels_of fs st) (InMapping ∷ levels_of fs st) refl x) c
bare_colon_agrees a o t column BehindQuestion p fs st x c =
    mapping_colon_agrees a o t column (BlockMapping column BehindQuestion) p fs st x c
bare_colon_agrees a o t column stage p fs st x c =
    let f = BlockMapping column stage in
    mapping_colon_agrees a o t column f (give (null_at t.lexeme.start) (owed t.lexeme.start p)) fs st
    (with_null a t.lexeme.start (owed t.lexeme.start p) (f ∷ fs) st (levels_of fs st)
    (owed_is a t.lexeme.start p (f ∷ fs) st x)) c

next_pair_agreed : (a : List Level) (o : OptionsData) (t : Token) (column : ℕ) (stage : PairStage) (sort : TokenSort)
    (p : ParserState) (fs : List Frame) (st : DocumentStage)
    → Is a p (BlockMapping column stage ∷ fs) st (InMapping ∷ levels_of fs st) → Clean fs
    → Agreed a (next_pair o t column stage sort p)
next_pair_agreed a o t column stage BeginsKey p fs st x c =
    bare_agreed a o t (mapping_at column AtKey (owed t.lexeme.start p)) (BlockMapping column AtKey ∷ fs) st
    (record {
      is = mapping_at_is a column AtKey (BlockMapping column stage) (owed t.lexeme.start p) fs st
          (InMapping ∷ levels_of fs st) (owed_is a t.lexeme.start p (BlockMapping column stage ∷ fs) st x);
      clean = c;
    })
next_pair_agreed a o t column stage QuestionToken p fs st x c =
    agrees a (mapping_at column AtQuestion (owed t.lexeme.start p)) (BlockMapping column AtQuestion ∷ fs) st
    (mapping_at_is a column AtQuestion (BlockMapping column stage) (owed t.lexeme.start p) fs st
    (InMapping ∷ levels_of fs st) (owed_is a t.lexeme.start p (BlockMapping column stage ∷ fs) st x)) c
next_pair_agreed a o t column stage sort p fs st x c = bare_colon_agrees a o t column stage p fs st x c

behind_indicator_agreed : (a : List Level) (o : OptionsData) (t : Token) (column : ℕ) (stage : PairStage)
    (p : ParserState) (fs : List Frame) (st : DocumentStage)
    → Is a p (BlockMapping column stage ∷ fs) st (InMapping ∷ levels_of fs st) → Clean fs
    → Agreed a (behind_indicator o t column stage p)
unfolding behind_indicator
behind_indicator_agreed a o t column stage p fs st x c =
    let d = next_pair_agreed a o t column stage t.sort p fs st x c in
    let n = node_agreed a o t p (BlockMapping column stage ∷ fs) st (record { is = x; clean = c }) in
    search (agreed_if, d, n)

at_key_agreed : (a : List Level) (o : OptionsData) (t : Token) (sort : TokenSort) (p : ParserState) (fs : List Frame)
    (st : DocumentStage) → Open a p fs st → Agreed a (at_block_key o t sort p)
at_key_agreed a o t BeginsNode p fs st x = bare_agreed a o t p fs st x
at_key_agreed a o t sort p fs st x = tt

behind_key_agreed : (a : List Level) (o : OptionsData) (t : Token) (column : ℕ) (f : Frame) (sort : TokenSort)
    (p : ParserState) (fs : List Frame) (st : DocumentStage) → Is a p (f ∷ fs) st (InMapping ∷ levels_of fs st)
    → Clean fs → Agreed a (behind_block_key o t column sort p)
behind_key_agreed a o t column f KeyedColon p fs st x c = mapping_colon_agrees a o t column f p fs st x c
behind_key_agreed a o t column f sort p fs st x c = tt

pub in_mapping_agreed : (a : List Level) (o : OptionsData) (t : Token) (column : ℕ) (stage : PairStage)
    (p : ParserState) (fs : List Frame) (st : DocumentStage)
    → Is a p (BlockMapping column stage ∷ fs) st (InMapping ∷ levels_of fs st) → Clean fs
    → Agreed a (in_mapping o t column stage p)
in_mapping_agreed a o t column AtKey p fs st x c = at_key_agreed a o t t.sort p (BlockMapping column AtKey ∷ fs) st
    (record { is = x; clean = c })
in_mapping_agreed a o t column BehindKey p fs st x c = behind_key_agreed a o t column (BlockMapping column BehindKey)
    t.sort p fs st x c
in_mapping_agreed a o t column stage p fs st x c = behind_indicator_agreed a o t column stage p fs st x c

-- ---- flow collections

close_flow_agrees : (a : List Level) (t : Token) (p : ParserState) (f : Frame) (fs : List Frame) (st : DocumentStage)
    → behind_event (end_kind (f ∷ fs)) (levels_of (f ∷ fs) st) ≡ node_done (levels_of fs st) → Clean fs
    → Is a p (f ∷ fs) st (levels_of (f ∷ fs) st) → Agrees a (close_flow t p)
close_flow_agrees a t p f fs st h c x = end_node_agrees a t.lexeme.start
    (record { start = t.lexeme.start; end = t.lexeme.shown.end }) p f fs st h c x

flow_at_is : (a : List Level) (single : Bool) (stage : PairStage) (f : Frame) (p : ParserState) (fs : List Frame)
    (st : DocumentStage) (ls : List Level) → Is a p (f ∷ fs) st ls
    → Is a (flow_at single stage p) (FlowMapping single stage ∷ fs) st ls
flow_at_is a single stage f p fs st ls x = top_is a (FlowMapping single stage) f (flush p) fs st ls
    (flush_is a p (f ∷ fs) st ls x)

flow_colon_agrees : (a : List Level) (o : OptionsData) (t : Token) (single : Bool) (f : Frame) (p : ParserState)
    (fs : List Frame) (st : DocumentStage) → Is a p (f ∷ fs) st (InMapping ∷ levels_of fs st) → Clean fs
    → Agrees a (flow_colon o t single p)
flow_colon_agrees a o t single f p fs st x c =
    waits_agrees a t.lexeme.start o.max_buffered_comment_events (flow_at single AtValue p)
    (FlowMapping single AtValue ∷ fs) st c (flow_at_is a single AtValue f p fs st (InMapping ∷ levels_of fs st) x)

begin_pair_is : (a : List Level) (t : Token) (end : Mark) (g : Frame) (p : ParserState) (fs : List Frame)
    (st : DocumentStage) → Clean fs → Is a p fs st (levels_of fs st)
    → Is a (begin_pair t end g p) (g ∷ fs) st (InMapping ∷ levels_of fs st)
begin_pair_is a t end g p fs st c x =
    let q = give_is a (event_at (events.MappingStart Flow 0 None) (record { start = t.lexeme.start; end = end })) p fs
    st (levels_of fs st) (InMapping ∷ levels_of fs st) (clean_begun InMapping fs st c) x in
    record { left = q.left; frames = ap (λ gs. g ∷ gs) q.frames; stage = q.stage; held = q.held }

at_entry_agreed : (a : List Level) (o : OptionsData) (t : Token) (b : Bool) (sort : TokenSort) (p : ParserState)
    (fs : List Frame) (st : DocumentStage) → Is a p (FlowSequence b ∷ fs) st (InSequence ∷ levels_of fs st) → Clean fs
    → Agreed a (at_entry o t sort p)
at_entry_agreed a o t b SequenceCloser p fs st x c = close_flow_agrees a t p (FlowSequence b) fs st refl c x
at_entry_agreed a o t b QuestionToken p fs st x c =
    agrees a (begin_pair t t.lexeme.shown.end (FlowPair AtQuestion) p) (FlowPair AtQuestion ∷ FlowSequence b ∷ fs) st
    (begin_pair_is a t t.lexeme.shown.end (FlowPair AtQuestion) p (FlowSequence b ∷ fs) st c x) c
at_entry_agreed a o t b BareColon p fs st x c =
    let q = begin_pair t t.lexeme.start (FlowMapping true BeforePair) p in
    flow_colon_agrees a o t true (FlowMapping true BeforePair) (give (null_at t.lexeme.start) q) (FlowSequence b ∷ fs)
    st
    (with_null a t.lexeme.start q (FlowMapping true BeforePair ∷ FlowSequence b ∷ fs) st (InSequence ∷ levels_of fs st)
    (begin_pair_is a t t.lexeme.start (FlowMapping true BeforePair) p (FlowSequence b ∷ fs) st c x)) c
at_entry_agreed a o t b BeginsKey p fs st x c =
    bare_agreed a o t (begin_pair t t.lexeme.start (FlowMapping true AtKey) p)
    (FlowMapping true AtKey ∷ FlowSequence b ∷ fs) st
    (record {
      is = begin_pair_is a t t.lexeme.start (FlowMapping true AtKey) p (FlowSequence b ∷ fs) st c x;
      clean =
          c;
    })
at_entry_agreed a o t b BeginsNode p fs st x c = bare_agreed a o t p (FlowSequence b ∷ fs) st
    (record { is = x; clean = c })
at_entry_agreed a o t b sort p fs st x c = tt

behind_entry_agreed : (a : List Level) (t : Token) (b : Bool) (sort : TokenSort) (p : ParserState) (fs : List Frame)
    (st : DocumentStage) → Is a p (FlowSequence b ∷ fs) st (InSequence ∷ levels_of fs st) → Clean fs
    → Agreed a (behind_entry_of t sort p)
behind_entry_agreed a t b SequenceCloser p fs st x c = close_flow_agrees a t p (FlowSequence b) fs st refl c x
behind_entry_agreed a t b CommaToken p fs st x c = agrees a (with_top (FlowSequence false) p) (FlowSequence false ∷ fs)
    st (top_is a (FlowSequence false) (FlowSequence b) p fs st (InSequence ∷ levels_of fs st) x) c
behind_entry_agreed a t b sort p fs st x c = tt

pub in_flow_sequence_agreed : (a : List Level) (o : OptionsData) (t : Token) (b : Bool) (p : ParserState)
    (fs : List Frame) (st : DocumentStage) → Is a p (FlowSequence b ∷ fs) st (InSequence ∷ levels_of fs st) → Clean fs
    → Agreed a (in_flow_sequence o t b p)
in_flow_sequence_agreed a o t false p fs st x c = at_entry_agreed a o t false t.sort p fs st x c
in_flow_sequence_agreed a o t true p fs st x c = behind_entry_agreed a t true t.sort p fs st x c

-- what one step of a flow mapping may do
pub record Ways (a : List Level) (o : OptionsData) (t : Token) (single : Bool) (p : ParserState) : Type 0 where
  takes : Agreed a (bare o t p)
  keyed : Agreed a (bare o t (flow_at single AtKey p))
  colon : Agrees a (flow_colon o t single p)
  null_colon : Agrees a (flow_colon o t single (give (null_at t.lexeme.start) p))
  closes : Agrees a (close_flow t p)
  comma : Agrees a (flow_at single BeforePair (owed t.lexeme.start p))
  asks : Agrees a (flow_at single AtQuestion p)

pub ways : (a : List Level) (o : OptionsData) (t : Token) (single : Bool) (stage : PairStage) (p : ParserState)
    (fs : List Frame) (st : DocumentStage) → Is a p (FlowMapping single stage ∷ fs) st (InMapping ∷ levels_of fs st)
    → Clean fs → Ways a o t single p
ways a o t single stage p fs st x c =
    let f = FlowMapping single stage in
    let ls = InMapping ∷ levels_of fs st in
    record {
      takes = bare_agreed a o t p (f ∷ fs) st (record { is = x; clean = c });
      keyed = bare_agreed a o t (flow_at single AtKey p) (FlowMapping single AtKey ∷ fs) st
          (record { is = flow_at_is a single AtKey f p fs st ls x; clean = c });
      colon = flow_colon_agrees a o t single f p fs st x c;
      null_colon = flow_colon_agrees a o t single f (give (null_at t.lexeme.start) p) fs st
          (with_null a t.lexeme.start p (f ∷ fs) st (levels_of fs st) x) c;
      closes = close_flow_agrees a t p f fs st refl c x;
      comma = agrees a (flow_at single BeforePair (owed t.lexeme.start p)) (FlowMapping single BeforePair ∷ fs) st
          (flow_at_is a single BeforePair f (owed t.lexeme.start p) fs st ls (owed_is a t.lexeme.start p (f ∷ fs) st x))
          c;
      asks = agrees a (flow_at single AtQuestion p) (FlowMapping single AtQuestion ∷ fs) st
          (flow_at_is a single AtQuestion f p fs st ls x) c;
    }

pub flow_mapping_agreed : (a : List Level) (o : OptionsData) (t : Token) (single : Bool) (stage : PairStage)
    (sort : TokenSort) (p : ParserState) → Ways a o t single p → Agreed a (in_flow_mapping_by o t single stage sort p)
flow_mapping_agreed a o t single AtKey BeginsNode p w = w.takes
flow_mapping_agreed a o t single AtKey sort p w = tt
flow_mapping_agreed a o t single BehindKey KeyedColon p w = w.colon
flow_mapping_agreed a o t single BehindKey sort p w = tt
flow_mapping_agreed a o t single stage MappingCloser p w = w.closes
flow_mapping_agreed a o t single BeforePair CommaToken p w = tt
flow_mapping_agreed a o t single stage CommaToken p w = w.comma
flow_mapping_agreed a o t single BeforePair QuestionToken p w = w.asks
flow_mapping_agreed a o t single BeforePair BeginsKey p w = w.keyed
flow_mapping_agreed a o t single BeforePair BareColon p w = w.null_colon
flow_mapping_agreed a o t single AtQuestion BareColon p w = w.null_colon
flow_mapping_agreed a o t single BehindQuestion BareColon p w = w.colon
flow_mapping_agreed a o t single BeforePair BeginsNode p w = w.takes
flow_mapping_agreed a o t single AtQuestion BeginsNode p w = w.takes
flow_mapping_agreed a o t single AtValue BeginsNode p w = w.takes
flow_mapping_agreed a o t single BeforePair sort p w = tt
flow_mapping_agreed a o t single AtQuestion sort p w = tt
flow_mapping_agreed a o t single AtValue sort p w = tt
flow_mapping_agreed a o t single stage sort p w = tt

pub flow_pair_agreed : (a : List Level) (o : OptionsData) (t : Token) (stage old : PairStage) (sort : TokenSort)
    (p : ParserState) (fs : List Frame) (st : DocumentStage)
    → Is a p (FlowPair old ∷ fs) st (InMapping ∷ levels_of fs st) → Clean fs → Agreed a (in_flow_pair o t stage sort p)
flow_pair_agreed a o t BehindQuestion old sort p fs st x c = agrees a (with_top (FlowPair AtValue) p)
    (FlowPair AtValue ∷ fs) st (top_is a (FlowPair AtValue) (FlowPair old) p fs st (InMapping ∷ levels_of fs st) x) c
flow_pair_agreed a o t stage old BeginsNode p fs st x c = bare_agreed a o t p (FlowPair old ∷ fs) st
    (record { is = x; clean = c })
flow_pair_agreed a o t stage old sort p fs st x c = tt

-- The parser ends the frame on top where the grammar's machine does.
use Rattle.std.proofs.Common.{◌≡◌, ℕ, suc, zero, Bool, true, false, List, refl, sym, ap, ap₂, ◌∙◌, arith, ◌==◌, ◌&&◌}
use Rattle.std.proofs.Common.{◌||◌, not, nat_lt, Option, Some, None}
use Rattle.std.proofs.Math.Bool.{or_comm, or-false, and-true}
use Rattle.std.proofs.lemmas.Bool.{and_right}
use Rattle.std.specs.Prelude.{if◌then◌else◌, is_none}
use Rattle.std.proofs.lemmas.Bool.Decides.{nat_tests}
use Rattle.granit_error.specs.OptionsData.{OptionsData}
use Rattle.granit_lexemes.specs.Lexeme as lexemes
use Rattle.granit_views.specs.Fair.{frames_in_flow, is_key_part, FairBehind, FairAt, frame_ends_at}
use Rattle.granit_views.specs.Good.{IsPositive, Holes, at_root, at_entry, at_key, at_asked, at_value, at_item}
use Rattle.granit_views.specs.Good.{at_curly, curly_key, curly_asked, curly_value, made_key, made_value, pair_asked}
use Rattle.granit_views.specs.Good.{pair_value, GoodProperties, Good, is_fresh, directed, rooted, hole}
use Rattle.granit_views.specs.Good.{behind_properties, past_entry, key_done, ask_done, pair_done, item_done}
use Rattle.granit_views.specs.Good.{curly_key_done, curly_ask_done, curly_solo, curly_done, made_key_done}
use Rattle.granit_views.specs.Good.{made_done, square_ask_done, square_done}
use Rattle.granit_views.specs.View.{frames_of, parser_properties, Beside, state_of}
use Rattle.granit_language.specs.Seen.{terminal_kind, at_of, terminal_of}
use Rattle.granit_event_machine.specs.EventMachine.{OpenFrame, EventState, frames_room}
use Rattle.granit_language.specs.Node.{TreeProperties, NoProperties, One, Two}
use Rattle.granit_language.specs.Reading.{begins_kind}
use Rattle.granit_language.specs.Room.{Room, RightOf, ValueIn, BehindKey, Inside, behind_property, joins}
use Rattle.granit_language.specs.Room.{continues_node, sequence_over}
use Rattle.granit_language.specs.Scope.{Scope}
use Rattle.granit_language.specs.Telling.{one_less, properties_anchor, properties_tag}
use Rattle.granit_language.specs.Terminal.{TerminalKind, Dash, Alias, Property, Scalar, Open, Part, Question, Colon, At}
use Rattle.granit_language.specs.Terminal.{Anchor, Tag, Terminal, edge, stands_left, dash_in, entry_in, stands_in}
use Rattle.granit_language.specs.Terminal.{reach_of, is_dash_kind, begins_entry_kind}
use Rattle.granit_lexemes.specs.Lexeme.{KeyStart}
use Rattle.granit_lexemes.specs.declared.layout.Bracket.{Bracket}
use Rattle.granit_machine.specs.Closing.{goes_on_by_kind, goes_on_with, ends_top}
use Rattle.granit_machine.specs.NodeEnds.{under_column}
use Rattle.granit_machine.specs.TokenSort.{TokenSort, BareColon, CommaToken, SequenceCloser, token_of, ends_frame}
use Rattle.granit_machine.specs.TokenSort.{is_in_column, is_dash_token, begins_pair, is_bare_colon, ends_entry}
use Rattle.granit_machine.specs.TokenSort.{token_sort, is_key_token, column_of_token, is_right_of}
use Rattle.granit_base.specs.Written.{Written}
use Rattle.granit_base.specs.declared.style.ScalarStyle.{ScalarStyle}
use Rattle.granit_views.proofs.Sorts.{Column, sort_is, right_column, left_same, dash_same, entry_same}
use Rattle.granit_lexemes.specs.declared.layout.Bracket.TheVariants as brackets

-- ---- sequences

-- what stands left of a column stands not in it
pub left_not_in : (r c : ℕ) → nat_lt r c ≡ true → (r == c) ≡ false
left_not_in r c e = grind (arith, nat_tests)

past_by :
    (left dash both : Bool) → (left ≡ true → dash ≡ false) → (left || ((true && not dash) && (true || both))) ≡ not dash
past_by true true both h = cc (h refl)
past_by true false both h = refl
past_by false true both h = refl
past_by false false both h = refl

pub left_no_dash : (x : Terminal) (c : ℕ) → stands_left x c ≡ true → dash_in x c ≡ false
left_no_dash x c e = and_right (is_dash_kind x.kind) (stands_in x c) (left_not_in (reach_of x.kind x.at) c e)

turn_and : (a b : Bool) → (a && b) ≡ (b && a)
turn_and true true = refl
turn_and true false = refl
turn_and false true = refl
turn_and false false = refl

-- behind an entry
entry_over :
    (loose : Bool) (left dash pair : Bool) (x : Terminal) (c : ℕ) → left ≡ stands_left x c → dash ≡ dash_in x c →
    (left || ((loose && not dash) && (true || pair))) ≡ sequence_over loose c x
entry_over true left dash pair x c e h = past_by left dash pair (λ t. h ∙ left_no_dash x c (sym e ∙ t)) ∙ ap not h
entry_over false left dash pair x c e h = or-false left ∙ e

-- a `-` is no entry of a mapping
kind_no_dash : (k : TerminalKind) (b t u : Bool) → (begins_entry_kind k b && t) ≡ true → (is_dash_kind k && u) ≡ false
kind_no_dash Dash b t u e = cc (e)
kind_no_dash k b t u e = refl

pub dash_no_entry : (x : Terminal) (c : ℕ) → entry_in x c ≡ true → dash_in x c ≡ false
dash_no_entry x c e = kind_no_dash x.kind x.at.begins_key (stands_in x c) (stands_in x c) e

wait_by :
    (left dash pair : Bool) → (pair ≡ true → dash ≡ false) →
    (left || ((true && not dash) && (false || pair))) ≡ (left || (true && pair))
wait_by true dash pair h = refl
wait_by false true true h = cc (h refl)
wait_by false true false h = refl
wait_by false false pair h = refl

entry_waits :
    (loose : Bool) (left dash pair : Bool) (x : Terminal) (c : ℕ) → left ≡ stands_left x c → dash ≡ dash_in x c →
    pair ≡ entry_in x c →
    (left || ((loose && not dash) && (false || pair))) ≡ (stands_left x c || (loose && entry_in x c))
entry_waits true left dash pair x c e h g =
    wait_by left dash pair (λ t. h ∙ dash_no_entry x c (sym g ∙ t)) ∙ ap₂ (λ a b. a || b) e g
entry_waits false left dash pair x c e h g = ap (λ a. a || false) e

-- ---- properties

joins_anchor :
    (p : TreeProperties) (name : Written) → GoodProperties p →
    is_none (properties_anchor p) ≡ joins p (Property (Anchor name))
joins_anchor NoProperties name g = absurd g
joins_anchor (One (Anchor a) i) name g = refl
joins_anchor (One (Tag h t) i) name g = refl
joins_anchor (Two (Anchor a) i (Anchor b) j) name g = cc (g)
joins_anchor (Two (Anchor a) i (Tag h t) j) name g = refl
joins_anchor (Two (Tag h t) i (Anchor a) j) name g = refl
joins_anchor (Two (Tag h t) i (Tag u v) j) name g = cc (g)

joins_tag :
    (o : OptionsData) (p : TreeProperties) (handle suffix : List ℕ) → GoodProperties p →
    is_none (properties_tag o p) ≡ joins p (Property (Tag handle suffix))
joins_tag o NoProperties handle suffix g = absurd g
joins_tag o (One (Anchor a) i) handle suffix g = refl
joins_tag o (One (Tag h t) i) handle suffix g = refl
joins_tag o (Two (Anchor a) i (Anchor b) j) handle suffix g = cc (g)
joins_tag o (Two (Anchor a) i (Tag h t) j) handle suffix g = refl
joins_tag o (Two (Tag h t) i (Anchor a) j) handle suffix g = refl
joins_tag o (Two (Tag h t) i (Tag u v) j) handle suffix g = cc (g)

joins_alias : (p : TreeProperties) (name : Written) → GoodProperties p → joins p (Alias name) ≡ false
joins_alias NoProperties name g = absurd g
joins_alias (One k i) name g = refl
joins_alias (Two k i m j) name g = refl

joins_scalar :
    (p : TreeProperties) (style : ScalarStyle) (text : Written) → GoodProperties p → joins p (Scalar style text) ≡ true
joins_scalar NoProperties style text g = refl
joins_scalar (One k i) style text g = refl
joins_scalar (Two k i m j) style text g = refl

joins_open : (p : TreeProperties) (bracket : Bracket) → GoodProperties p → joins p (Open bracket) ≡ true
joins_open NoProperties bracket g = refl
joins_open (One k i) bracket g = refl
joins_open (Two k i m j) bracket g = refl

-- what going on asks, of the parser
abbrev Asks : OptionsData → (right in_flow loose b : Bool) → Option KeyStart → TreeProperties → lexemes.LexemeKind
    → Bool
Asks o right in_flow loose b key p k =
    if is_key_token (token_sort b key k) && not in_flow then right
    else goes_on_by_kind right in_flow loose (parser_properties o p) (token_sort b key k) k

-- a room in a block collection: flagged parts, others, `-`, and the rest
key_part : (r j : Bool) → r ≡ ((true && r) || ((not true && r) && j))
key_part true j = refl
key_part false j = refl

plain_part : (r j h : Bool) → h ≡ j → (r && h) ≡ ((false && r) || ((not false && r) && j))
plain_part true j h e = e
plain_part false j h e = refl

body_part : (r j : Bool) → j ≡ true → r ≡ ((false && r) || ((not false && r) && j))
body_part true j e = sym e
body_part false j e = refl

no_part : (r j : Bool) → j ≡ false → false ≡ ((false && r) || ((not false && r) && j))
no_part true j e = sym e
no_part false j e = refl

-- the grammar's test in a room right of a column, or of a value, as a test of the column
abbrev Grows : (r loose b : Bool) → TreeProperties → TerminalKind → Bool
Grows r loose b p (Part k) = (b && r) || ((not b && r) && joins p k)
Grows r loose b p Dash = loose || r
Grows r loose b p Question = r
Grows r loose b p (Colon None) = r
Grows r loose b p kind = false

grows_block :
    (o : OptionsData) (r loose b : Bool) (key : Option KeyStart) (p : TreeProperties) (k : lexemes.LexemeKind)
    → GoodProperties p →
    Asks o r false loose b key p k ≡ Grows r loose b p (terminal_kind k key)
grows_block o r loose b key p (lexemes.Directive directive) g = refl
grows_block o r loose b key p lexemes.DocumentStart g = refl
grows_block o r loose b key p lexemes.DocumentEnd g = refl
grows_block o r loose b key p lexemes.StreamEnd g = refl
grows_block o r loose b key p (lexemes.Close brackets.Square) g = refl
grows_block o r loose b key p (lexemes.Close brackets.Curly) g = refl
grows_block o r loose b key p lexemes.Comma g = refl
grows_block o r loose b key p lexemes.Dash g = or_comm r loose
grows_block o r loose b key p lexemes.Question g = and-true r
grows_block o r loose b None p lexemes.Colon g = and-true r
grows_block o r loose b (Some n) p lexemes.Colon g = refl
grows_block o r loose true key p (lexemes.Open bracket) g = key_part r (joins p (Open bracket))
grows_block o r loose false key p (lexemes.Open bracket) g = body_part r (joins p (Open bracket))
    (joins_open p bracket g)
grows_block o r loose true key p (lexemes.Alias name) g = key_part r (joins p (Alias name))
grows_block o r loose false key p (lexemes.Alias name) g = no_part r (joins p (Alias name)) (joins_alias p name g)
grows_block o r loose true key p (lexemes.Anchor name) g = key_part r (joins p (Property (Anchor name)))
grows_block o r loose false key p (lexemes.Anchor name) g =
    plain_part r (joins p (Property (Anchor name))) (is_none (properties_anchor p)) (joins_anchor p name g)
grows_block o r loose true key p (lexemes.Tag handle suffix) g = key_part r (joins p (Property (Tag handle suffix)))
grows_block o r loose false key p (lexemes.Tag handle suffix) g =
    plain_part r (joins p (Property (Tag handle suffix))) (is_none (properties_tag o p)) (joins_tag o p handle suffix g)
grows_block o r loose true key p (lexemes.Scalar style text) g = key_part r (joins p (Scalar style text))
grows_block o r loose false key p (lexemes.Scalar style text) g =
    body_part r (joins p (Scalar style text)) (joins_scalar p style text g)

-- behind the properties of a key
abbrev GrowsKey : (r b : Bool) → TreeProperties → TerminalKind → Bool
GrowsKey r b p (Part k) = (b && false) || ((not b && r) && joins p k)
GrowsKey r b p kind = false

grows_key :
    (o : OptionsData) (r loose b : Bool) (key : Option KeyStart) (p : TreeProperties) (k : lexemes.LexemeKind)
    → GoodProperties p →
    begins_kind (terminal_kind k key) b ≡ false → Asks o r false loose b key p k ≡ GrowsKey r b p (terminal_kind k key)
grows_key o r loose b key p (lexemes.Directive directive) g f = refl
grows_key o r loose b key p lexemes.DocumentStart g f = refl
grows_key o r loose b key p lexemes.DocumentEnd g f = refl
grows_key o r loose b key p lexemes.StreamEnd g f = refl
grows_key o r loose b key p (lexemes.Close brackets.Square) g f = refl
grows_key o r loose b key p (lexemes.Close brackets.Curly) g f = refl
grows_key o r loose b key p lexemes.Comma g f = refl
grows_key o r loose b key p lexemes.Dash g f = cc (f)
grows_key o r loose b key p lexemes.Question g f = cc (f)
grows_key o r loose b None p lexemes.Colon g f = cc (f)
grows_key o r loose b (Some n) p lexemes.Colon g f = refl
grows_key o r loose true key p (lexemes.Open bracket) g f = cc (f)
grows_key o r loose false key p (lexemes.Open bracket) g f = body_part r (joins p (Open bracket))
    (joins_open p bracket g)
grows_key o r loose true key p (lexemes.Alias name) g f = cc (f)
grows_key o r loose false key p (lexemes.Alias name) g f = no_part r (joins p (Alias name)) (joins_alias p name g)
grows_key o r loose true key p (lexemes.Anchor name) g f = cc (f)
grows_key o r loose false key p (lexemes.Anchor name) g f =
    plain_part r (joins p (Property (Anchor name))) (is_none (properties_anchor p)) (joins_anchor p name g)
grows_key o r loose true key p (lexemes.Tag handle suffix) g f = cc (f)
grows_key o r loose false key p (lexemes.Tag handle suffix) g f =
    plain_part r (joins p (Property (Tag handle suffix))) (is_none (properties_tag o p)) (joins_tag o p handle suffix g)
grows_key o r loose true key p (lexemes.Scalar style text) g f = cc (f)
grows_key o r loose false key p (lexemes.Scalar style text) g f =
    body_part r (joins p (Scalar style text)) (joins_scalar p style text g)

-- in flow
abbrev GrowsFlow : Bool → TreeProperties → TerminalKind → Bool
GrowsFlow b p (Part k) = (b && false) || (not b && joins p k)
GrowsFlow b p kind = false

grows_flow :
    (o : OptionsData) (loose b : Bool) (key : Option KeyStart) (p : TreeProperties) (k : lexemes.LexemeKind)
    → GoodProperties p →
    is_key_part (terminal_kind k key) b ≡ false → is_dash_kind (terminal_kind k key) ≡ false →
    Asks o true true loose b key p k ≡ GrowsFlow b p (terminal_kind k key)
grows_flow o loose b key p (lexemes.Directive directive) g f d = refl
grows_flow o loose b key p lexemes.DocumentStart g f d = refl
grows_flow o loose b key p lexemes.DocumentEnd g f d = refl
grows_flow o loose b key p lexemes.StreamEnd g f d = refl
grows_flow o loose b key p (lexemes.Close brackets.Square) g f d = refl
grows_flow o loose b key p (lexemes.Close brackets.Curly) g f d = refl
grows_flow o loose b key p lexemes.Comma g f d = refl
grows_flow o loose b key p lexemes.Dash g f d = cc (d)
grows_flow o loose b key p lexemes.Question g f d = refl
grows_flow o loose b None p lexemes.Colon g f d = refl
grows_flow o loose b (Some n) p lexemes.Colon g f d = refl
grows_flow o loose true key p (lexemes.Open bracket) g f d = cc (f)
grows_flow o loose false key p (lexemes.Open bracket) g f d = sym (joins_open p bracket g)
grows_flow o loose true key p (lexemes.Alias name) g f d = cc (f)
grows_flow o loose false key p (lexemes.Alias name) g f d = sym (joins_alias p name g)
grows_flow o loose true key p (lexemes.Anchor name) g f d = cc (f)
grows_flow o loose false key p (lexemes.Anchor name) g f d = joins_anchor p name g
grows_flow o loose true key p (lexemes.Tag handle suffix) g f d = cc (f)
grows_flow o loose false key p (lexemes.Tag handle suffix) g f d = joins_tag o p handle suffix g
grows_flow o loose true key p (lexemes.Scalar style text) g f d = cc (f)
grows_flow o loose false key p (lexemes.Scalar style text) g f d = sym (joins_scalar p style text g)

-- the grammar's tests are these
goes_right :
    (n : ℕ) (p : TreeProperties) (k : TerminalKind) (i : At) →
    continues_node (RightOf n) p k i ≡ Grows (nat_lt n (edge i)) false i.begins_key p k
goes_right n p (Part k) i = refl
goes_right n p Dash i = refl
goes_right n p Question i = refl
goes_right n p (Colon None) i = refl
goes_right n p (Colon (Some m)) i = refl
goes_right n p k i = refl

goes_value :
    (c : ℕ) (p : TreeProperties) (k : TerminalKind) (i : At) →
    continues_node (ValueIn c) p k i ≡ Grows (nat_lt c (edge i)) (edge i == c) i.begins_key p k
goes_value c p (Part k) i = refl
goes_value c p Dash i = refl
goes_value c p Question i = refl
goes_value c p (Colon None) i = refl
goes_value c p (Colon (Some m)) i = refl
goes_value c p k i = refl

goes_key :
    (c : ℕ) (p : TreeProperties) (k : TerminalKind) (i : At) →
    continues_node (BehindKey c) p k i ≡ GrowsKey (nat_lt c (edge i)) i.begins_key p k
goes_key c p (Part k) i = refl
goes_key c p Dash i = refl
goes_key c p Question i = refl
goes_key c p (Colon None) i = refl
goes_key c p (Colon (Some m)) i = refl
goes_key c p k i = refl

goes_flow : (p : TreeProperties) (k : TerminalKind) (i : At) → continues_node Inside p k i ≡ GrowsFlow i.begins_key p k
goes_flow p (Part k) i = refl
goes_flow p Dash i = refl
goes_flow p Question i = refl
goes_flow p (Colon None) i = refl
goes_flow p (Colon (Some m)) i = refl
goes_flow p k i = refl

-- ---- what the parser asks, for a token in a column

-- being right of a column matters for no token of the stream
asks_by_column :
    (o : OptionsData) (b : Bool) (key : Option KeyStart) (p : TreeProperties) (k : lexemes.LexemeKind) (col : ℕ)
    (under : Option ℕ)
    (in_flow loose : Bool) →
    Asks o (in_flow || is_right_of (column_of_token (token_sort b key k) col) under) in_flow loose b key p k
    ≡ Asks o (in_flow || is_right_of (Some col) under) in_flow loose b key p k
asks_by_column o b key p (lexemes.Directive directive) col under f loose = refl
asks_by_column o b key p lexemes.DocumentStart col under f loose = refl
asks_by_column o b key p lexemes.DocumentEnd col under f loose = refl
asks_by_column o b key p lexemes.StreamEnd col under f loose = refl
asks_by_column o b key p (lexemes.Close brackets.Square) col under f loose = refl
asks_by_column o b key p (lexemes.Close brackets.Curly) col under f loose = refl
asks_by_column o b key p lexemes.Comma col under f loose = refl
asks_by_column o b key p lexemes.Dash col under f loose = refl
asks_by_column o b key p lexemes.Question col under f loose = refl
asks_by_column o b None p lexemes.Colon col under f loose = refl
asks_by_column o b (Some n) p lexemes.Colon col under f loose = refl
asks_by_column o true key p (lexemes.Open bracket) col under f loose = refl
asks_by_column o false key p (lexemes.Open bracket) col under f loose = refl
asks_by_column o true key p (lexemes.Alias name) col under f loose = refl
asks_by_column o false key p (lexemes.Alias name) col under f loose = refl
asks_by_column o true key p (lexemes.Anchor name) col under f loose = refl
asks_by_column o false key p (lexemes.Anchor name) col under f loose = refl
asks_by_column o true key p (lexemes.Tag handle suffix) col under f loose = refl
asks_by_column o false key p (lexemes.Tag handle suffix) col under f loose = refl
asks_by_column o true key p (lexemes.Scalar style text) col under f loose = refl
asks_by_column o false key p (lexemes.Scalar style text) col under f loose = refl

-- ---- behind properties

-- at each place for a node
going_block :
    (o : OptionsData) (room : Room) (b : Bool) (s : Scope) (l : lexemes.Lexeme) (p : TreeProperties)
    (under : Option ℕ) (loose : Bool) → GoodProperties p → l.in_flow ≡ false →
    continues_node room p (terminal_kind l.kind l.key) (at_of b s l)
    ≡ Grows (is_right_of (Some l.start.place.column) under) loose b p (terminal_kind l.kind l.key) →
    Asks o (l.in_flow || is_right_of (column_of_token (token_sort b l.key l.kind) l.start.place.column) under) l.in_flow
    loose b l.key p l.kind
    ≡ continues_node room p (terminal_kind l.kind l.key) (at_of b s l)
going_block o room b s l p under loose g flow h =
    asks_by_column o b l.key p l.kind l.start.place.column under l.in_flow loose
    ∙ (ap (λ f. Asks o (f || is_right_of (Some l.start.place.column) under) f loose b l.key p l.kind) flow
    ∙ (grows_block o (is_right_of (Some l.start.place.column) under) loose b l.key p l.kind g ∙ sym h))

positive_right : (col c : ℕ) → IsPositive c → is_right_of (Some col) (Some (one_less c)) ≡ nat_lt c (suc col)
positive_right col c q = right_column col c q

loose_column : (col c : ℕ) → IsPositive c → (one_less c == col) ≡ (suc col == c)
loose_column col zero q = absurd q
loose_column col (suc c) q = grind (arith, nat_tests)

zero_right : (col : ℕ) → true ≡ nat_lt 0 (suc col)
zero_right col = grind (arith, nat_tests)

-- where a value may stand
going_value :
    (o : OptionsData) (b : Bool) (s : Scope) (l : lexemes.Lexeme) (p : TreeProperties) (c : ℕ) → GoodProperties p →
    IsPositive c → l.in_flow ≡ false →
    Asks o
    (l.in_flow
    || is_right_of (column_of_token (token_sort b l.key l.kind) l.start.place.column) (Some (one_less c))) l.in_flow
    (one_less c == l.start.place.column) b l.key p l.kind
    ≡ continues_node (ValueIn c) p (terminal_kind l.kind l.key) (at_of b s l)
going_value o b s l p c g q flow =
    going_block o (ValueIn c) b s l p (Some (one_less c)) (one_less c == l.start.place.column) g flow
    (goes_value c p (terminal_kind l.kind l.key) (at_of b s l)
    ∙ ap₂ (λ r d. Grows r d b p (terminal_kind l.kind l.key)) (sym (positive_right l.start.place.column c q))
    (sym (loose_column l.start.place.column c q)))

going_flow :
    (o : OptionsData) (b : Bool) (s : Scope) (l : lexemes.Lexeme) (p : TreeProperties) (under : Option ℕ) (loose : Bool)
    →
    GoodProperties p → l.in_flow ≡ true → FairBehind Inside (terminal_of b s l) →
    Asks o (l.in_flow || is_right_of (column_of_token (token_sort b l.key l.kind) l.start.place.column) under) l.in_flow
    loose b l.key p l.kind
    ≡ continues_node Inside p (terminal_kind l.kind l.key) (at_of b s l)
going_flow o b s l p under loose g flow f =
    asks_by_column o b l.key p l.kind l.start.place.column under l.in_flow loose
    ∙ (ap (λ f. Asks o (f || is_right_of (Some l.start.place.column) under) f loose b l.key p l.kind) flow
    ∙ (grows_flow o loose b l.key p l.kind g f.0 f.1 ∙ sym (goes_flow p (terminal_kind l.kind l.key) (at_of b s l))))

goes_on_same :
    (o : OptionsData) (b : Bool) (s : Scope) (l : lexemes.Lexeme) (p : TreeProperties) (fs : List OpenFrame)
    → GoodProperties p →
    Holes fs → l.in_flow ≡ frames_in_flow fs → FairBehind (behind_property (frames_room fs)) (terminal_of b s l) →
    goes_on_with (token_of b l) (parser_properties o p) (frames_of o fs)
    ≡ continues_node (behind_property (frames_room fs)) p (terminal_kind l.kind l.key) (at_of b s l)
unfolding goes_on_with
goes_on_same o b s l p fs g at_root flow f =
    going_block o (RightOf 0) b s l p None false g flow
    (goes_right 0 p (terminal_kind l.kind l.key) (at_of b s l)
    ∙ ap (λ r. Grows r false b p (terminal_kind l.kind l.key)) (sym (zero_right l.start.place.column)))
goes_on_same o b s l p fs g (at_entry {c = c} q h) flow f =
    going_block o (RightOf c) b s l p (Some (one_less c)) false g flow
    (goes_right c p (terminal_kind l.kind l.key) (at_of b s l)
    ∙ ap (λ r. Grows r false b p (terminal_kind l.kind l.key)) (sym (positive_right l.start.place.column c q)))
goes_on_same o b s l p fs g (at_asked {c = c} q h) flow f = going_value o b s l p c g q flow
goes_on_same o b s l p fs g (at_value {c = c} q h) flow f = going_value o b s l p c g q flow
goes_on_same o b s l p fs g (at_key {c = c} q h) flow f =
    asks_by_column o b l.key p l.kind l.start.place.column (Some (one_less c)) l.in_flow false
    ∙ (ap (λ f. Asks o (f || is_right_of (Some l.start.place.column) (Some (one_less c))) f false b l.key p l.kind) flow
    ∙ (ap (λ r. Asks o r false false b l.key p l.kind) (positive_right l.start.place.column c q)
    ∙
    (grows_key o (nat_lt c (suc l.start.place.column)) false b l.key p l.kind g f
    ∙ sym (goes_key c p (terminal_kind l.kind l.key) (at_of b s l)))))
goes_on_same o b s l p fs g (at_item {fs = gs} h) flow f = going_flow o b s l p (under_column (frames_of o gs)) false g
    flow f
goes_on_same o b s l p fs g (at_curly {fs = gs} h) flow f =
    going_flow o b s l p (under_column (frames_of o gs)) false g flow f
goes_on_same o b s l p fs g (curly_key {fs = gs} h) flow f =
    going_flow o b s l p (under_column (frames_of o gs)) false g flow f
goes_on_same o b s l p fs g (curly_asked {fs = gs} h) flow f =
    going_flow o b s l p (under_column (frames_of o gs)) false g flow f
goes_on_same o b s l p fs g (curly_value {fs = gs} h) flow f =
    going_flow o b s l p (under_column (frames_of o gs)) false g flow f
goes_on_same o b s l p fs g (made_key {fs = gs} h) flow f =
    going_flow o b s l p (under_column (frames_of o gs)) false g flow f
goes_on_same o b s l p fs g (made_value {fs = gs} h) flow f =
    going_flow o b s l p (under_column (frames_of o gs)) false g flow f
goes_on_same o b s l p fs g (pair_asked {fs = gs} h) flow f =
    going_flow o b s l p (under_column (frames_of o gs)) false g flow f
goes_on_same o b s l p fs g (pair_value {fs = gs} h) flow f =
    going_flow o b s l p (under_column (frames_of o gs)) false g flow f

-- ---- the frame on top

bare_over : (t : TokenSort) → ((ends_entry t || false) || (true && not (is_bare_colon t))) ≡ not (is_bare_colon t)
bare_over BareColon = refl
bare_over CommaToken = refl
bare_over SequenceCloser = refl
bare_over t = refl

over_done : (a : Bool) → ((a || true) || false) ≡ true
over_done true = refl
over_done false = refl

pub ends_same :
    (b : Bool) (s : Scope) (l : lexemes.Lexeme) (o : OptionsData) (d : Beside) (st : EventState) → Good st →
    FairAt (terminal_of b s l) st →
    ends_top (token_of b l) (state_of o st d) (state_of o st d).frames ≡ frame_ends_at (terminal_of b s l) st
ends_same b s l o d st is_fresh f = refl
ends_same b s l o d st directed f = refl
ends_same b s l o d st rooted f = refl
ends_same b s l o d st (hole (at_root {m = None})) f = refl
ends_same b s l o d st (hole (at_root {m = Some m})) f = (sort_is b l.key l.kind).stream
ends_same b s l o d st (hole (at_entry {loose = loose} {c = c} q h)) f =
    ap
    (λ t.
    ends_frame (Column b l) (one_less c)
    || ((loose && not (is_dash_token (token_of b l).sort && is_in_column (Column b l) (one_less c)))
    && (false || t)))
    (turn_and (is_in_column (Column b l) (one_less c)) (begins_pair (token_of b l).sort))
    ∙ entry_waits loose _ _ _ (terminal_of b s l) c (left_same b s l c q) (dash_same b s l c q) (entry_same b s l c q)
ends_same b s l o d st (hole (at_key q h)) f = absurd f
ends_same b s l o d st (hole (at_asked {c = c} q h)) f = left_same b s l c q
ends_same b s l o d st (hole (at_value {c = c} q h)) f = left_same b s l c q
ends_same b s l o d st (hole (at_item h)) f = refl
ends_same b s l o d st (hole (at_curly h)) f = refl
ends_same b s l o d st (hole (curly_key h)) f = absurd f
ends_same b s l o d st (hole (curly_asked h)) f = refl
ends_same b s l o d st (hole (curly_value h)) f = refl
ends_same b s l o d st (hole (made_key h)) f = absurd f
ends_same b s l o d st (hole (made_value h)) f = (sort_is b l.key l.kind).ends
ends_same b s l o d st (hole (pair_asked h)) f =
    or-false (ends_entry (token_of b l).sort || false)
    ∙ (or-false (ends_entry (token_of b l).sort) ∙ (sort_is b l.key l.kind).ends)
ends_same b s l o d st (hole (pair_value h)) f =
    or-false (ends_entry (token_of b l).sort || false)
    ∙ (or-false (ends_entry (token_of b l).sort) ∙ (sort_is b l.key l.kind).ends)
ends_same b s l o d st (behind_properties {p = p} {fs = fs} g h) f = ap not (goes_on_same o b s l p fs g h f.0 f.1)
ends_same b s l o d st (past_entry {loose = loose} {c = c} q h) f =
    entry_over loose (ends_frame (Column b l) (one_less c))
    (is_dash_token (token_of b l).sort && is_in_column (Column b l) (one_less c)) false (terminal_of b s l) c
    (left_same b s l c q) (dash_same b s l c q)
ends_same b s l o d st (key_done {c = c} q h) f = left_same b s l c q ∙ f
ends_same b s l o d st (ask_done {c = c} q h) f = left_same b s l c q
ends_same b s l o d st (pair_done {c = c} q h) f = left_same b s l c q
ends_same b s l o d st (item_done h) f = refl
ends_same b s l o d st (curly_key_done h) f = refl
ends_same b s l o d st (curly_ask_done h) f = refl
ends_same b s l o d st (curly_solo h) f = refl
ends_same b s l o d st (curly_done h) f = refl
ends_same b s l o d st (made_key_done h) f = refl
ends_same b s l o d st (made_done h) f = (sort_is b l.key l.kind).ends
ends_same b s l o d st (square_ask_done h) f = bare_over (token_of b l).sort ∙ ap not (sort_is b l.key l.kind).bare
ends_same b s l o d st (square_done h) f = over_done (ends_entry (token_of b l).sort)

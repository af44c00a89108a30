-- A lexeme where a node must stand outside flow: both test its column, and take it or refuse it.
use Rattle.granit_views.specs.Good.{Holes, at_asked, at_value, IsPositive}
use Rattle.granit_views.specs.Stepping.{LimitView}
use Rattle.granit_views.specs.Steps.{topped, asks, colons, dashes}
use Rattle.granit_views.specs.View.{Beside, frames_of}
use Rattle.granit_language.specs.Seen.{terminal_kind}
use Rattle.granit_event_machine.specs.EventMachine.{Asking, Value, OpenFrame, MappingFrame, EventStep, StopsWith}
use Rattle.granit_event_machine.specs.EventMachine.{if_gives}
use Rattle.granit_event_machine.specs.EventMachine.{part_frames, frames_room, stop_kind, want_frames}
use Rattle.granit_event_machine.specs.Guarded.{blocks_open}
use Rattle.granit_language.specs.Choice.{choose}
use Rattle.granit_language.specs.GrammarFault.{GrammarFault, fault_of}
use Rattle.granit_language.specs.Node.{TreeProperties, NoProperties, One, Two}
use Rattle.granit_language.specs.Room.{room_behind, loose_fits, joins}
use Rattle.granit_language.specs.Telling.{one_less}
use Rattle.granit_language.specs.Terminal.{Anchor, Tag, Part, PartKind, Alias, Property, Scalar, Open, Dash, At}
use Rattle.granit_language.specs.Terminal.{Terminal, TerminalKind}
use Rattle.granit_lexemes.specs.Lexeme.{KeyStart}
use Rattle.granit_lexemes.specs.declared.layout.Bracket.TheVariants.{Square, Curly}
use Rattle.granit_machine.specs.Frames.{ParserState}
use Rattle.granit_machine.specs.Giving.{below_properties}
use Rattle.granit_machine.specs.NodeEnds.{may_be_indentless}
use Rattle.granit_machine.specs.NodeSteps.{node, take_dash, first_dash}
use Rattle.granit_machine.specs.TokenSort.{token_sort, begins_node, is_dash_token}
use Rattle.std.proofs.Common.{◌≡◌, ℕ, suc, zero, Bool, true, false, arith, ◌||◌, ◌&&◌, ◌==◌, nat_lt, List, ◌∷◌, refl}
use Rattle.std.proofs.Common.{sym, subst, Option, Some, None, Result, Err}
use Rattle.std.proofs.lemmas.Bool.Decides.{nat_tests}
use Rattle.std.specs.Prelude.{nat_le, if◌then◌else◌}
use Rattle.granit_error.specs.OptionsData.{OptionsData}
use Rattle.granit_lexemes.specs.Outcome.{Fault}
use Rattle.granit_lexemes.specs.Lexeme as lexemes
use Rattle.granit_views.proofs.Arrivals.{Arrival, arriving, arriving_token, beside_at, parser_at}
use Rattle.granit_node_steps.proofs.BlockBegins.{question_begins, colon_begins, dash_begins, loose_begins}
use Rattle.granit_node_steps.proofs.BlockNodes.{KeyTaken, scalar_key, square_key, curly_key_node, anchor_key, tag_key}
use Rattle.granit_node_steps.proofs.BlockNodes.{alias_key, part_limited}
use Rattle.granit_node_steps.proofs.PartSteps.{scalar_parts, square_parts, curly_parts, anchor_parts, tag_parts}
use Rattle.granit_node_steps.proofs.PartSteps.{alias_parts}
use Rattle.granit_views.proofs.Wants.{BlockHole, root_hole, entry_hole, asked_hole, value_hole, hole_column}
use Rattle.granit_views.proofs.Wants.{want_plain, want_key, want_question, want_colon, want_dash}

-- ---- tests on both sides

abbrev pub Tested : Bool → Result ParserState Fault → GrammarFault → Terminal → Result ParserState Fault
Tested r n stop x = if r then n else Err (fault_of stop x)

pub if_view :
    (o : OptionsData) (x : Terminal) (d : Beside) (r : Bool) (n : Result ParserState Fault) (stop : GrammarFault)
    (y : EventStep) → LimitView o x d n y → LimitView o x d (Tested r n stop x) (if_gives r stop y)
if_view o x d true n stop y h = h
if_view o x d false n stop y h = refl

-- what stands behind properties joins them
abbrev pub Joined : TreeProperties → Bool → TerminalKind → Type 0
Joined p false (Part m) = joins p m ≡ true
Joined p b kind = Unit {0}

-- anything joins no properties
pub joined_none : (b : Bool) (kind : TerminalKind) → Joined NoProperties b kind
joined_none false (Part m) = refl
joined_none true (Part m) = tt
joined_none true kind = tt
joined_none false kind = tt

abbrev pub NodeOf :
    Bool → lexemes.LexemeKind → Option KeyStart → Arrival → TreeProperties → List OpenFrame → Result ParserState Fault
NodeOf b k key a p fs =
    node a.options (arriving_token b k key a) (parser_at (topped p fs) a)

abbrev pub RightOfHole : lexemes.Lexeme → List OpenFrame → Bool
RightOfHole l fs = nat_lt (hole_column fs) (suc l.start.place.column)

-- the parser's test, and what the grammar's machine wants
abbrev pub Wanted :
    Bool → lexemes.LexemeKind → Option KeyStart → Arrival → TreeProperties → List OpenFrame → Bool → Type 0
Wanted b k key a p fs r =
    LimitView a.options (arriving b k key a) (beside_at a)
    (Tested r (NodeOf b k key a p fs) (stop_kind fs) (arriving b k key a))
    (want_frames fs p (terminal_kind k key) (arriving b k key a).at)

plain_wanted :
    (m : PartKind) (k : lexemes.LexemeKind) (a : Arrival) (p : TreeProperties) (fs : List OpenFrame)
    (n : Result ParserState Fault) → BlockHole fs →
    LimitView a.options (arriving false k None a) (beside_at a) n
    (part_frames (stop_kind fs) fs p m (arriving false k None a).at) →
    LimitView a.options (arriving false k None a) (beside_at a)
    (Tested (RightOfHole a.lexeme fs) n (stop_kind fs) (arriving false k None a))
    (want_frames fs p (Part m) (arriving false k None a).at)
plain_wanted m k a p fs n h v =
    subst
    (LimitView a.options (arriving false k None a) (beside_at a)
    (Tested (RightOfHole a.lexeme fs) n (stop_kind fs) (arriving false k None a)))
    (sym (want_plain fs p m (arriving false k None a).at h refl))
    (if_view a.options (arriving false k None a) (beside_at a) (RightOfHole a.lexeme fs) n (stop_kind fs)
    (part_frames (stop_kind fs) fs p m (arriving false k None a).at) v)

key_wanted :
    (m : PartKind) (k : lexemes.LexemeKind) (a : Arrival) (p : TreeProperties) (fs : List OpenFrame)
    (n : Result ParserState Fault) → BlockHole fs → terminal_kind k None ≡ Part m →
    LimitView a.options (arriving true k None a) (beside_at a) n (KeyTaken m k a p fs (stop_kind fs)) →
    LimitView a.options (arriving true k None a) (beside_at a)
    (Tested (RightOfHole a.lexeme fs) n (stop_kind fs) (arriving true k None a))
    (want_frames fs p (Part m) (arriving true k None a).at)
key_wanted m k a p fs n h e v =
    subst
    (LimitView a.options (arriving true k None a) (beside_at a)
    (Tested (RightOfHole a.lexeme fs) n (stop_kind fs) (arriving true k None a)))
    (sym (want_key fs p m (arriving true k None a).at h refl))
    (if_view a.options (arriving true k None a) (beside_at a) (RightOfHole a.lexeme fs) n (stop_kind fs)
    (KeyTaken m k a p fs (stop_kind fs)) v)

-- any but a `-`
pub node_or :
    (b : Bool) (k : lexemes.LexemeKind) (key : Option KeyStart) (a : Arrival) (p : TreeProperties)
    (fs : List OpenFrame) → Holes fs → BlockHole fs →
    nat_le (blocks_open fs) a.options.block_nesting_limit ≡ true → Joined p b (terminal_kind k key) →
    begins_node (token_sort b key k) ≡ true → is_dash_token (token_sort b key k) ≡ false →
    Wanted b k key a p fs (RightOfHole a.lexeme fs)
node_or b (lexemes.Directive directive) key a p fs h q e j c n = cc (c)
node_or b lexemes.DocumentStart key a p fs h q e j c n = cc (c)
node_or b lexemes.DocumentEnd key a p fs h q e j c n = cc (c)
node_or b lexemes.StreamEnd key a p fs h q e j c n = cc (c)
node_or b lexemes.Comma key a p fs h q e j c n = cc (c)
node_or b (lexemes.Close Square) key a p fs h q e j c n = cc (c)
node_or b (lexemes.Close Curly) key a p fs h q e j c n = cc (c)
node_or b lexemes.Dash key a p fs h q e j c n = cc (n)
node_or b lexemes.Question key a p fs h q e j c n =
    subst (LimitView a.options (arriving b lexemes.Question key a) (beside_at a)
    (Tested (RightOfHole a.lexeme fs) (NodeOf b lexemes.Question key a p fs) (stop_kind fs)
    (arriving b lexemes.Question key a)))
    (sym (want_question fs p (arriving b lexemes.Question key a).at q))
    (if_view a.options (arriving b lexemes.Question key a) (beside_at a) (RightOfHole a.lexeme fs)
    (NodeOf b lexemes.Question key a p fs) (stop_kind fs)
    (asks p (arriving b lexemes.Question key a) fs) (question_begins b a.scope a.lexeme a.options (beside_at a) p fs h))
node_or b lexemes.Colon None a p fs h q e j c n =
    subst (LimitView a.options (arriving b lexemes.Colon None a) (beside_at a)
    (Tested (RightOfHole a.lexeme fs) (NodeOf b lexemes.Colon None a p fs) (stop_kind fs)
    (arriving b lexemes.Colon None a)))
    (sym (want_colon fs p (arriving b lexemes.Colon None a).at q))
    (if_view a.options (arriving b lexemes.Colon None a) (beside_at a) (RightOfHole a.lexeme fs)
    (NodeOf b lexemes.Colon None a p fs) (stop_kind fs)
    (colons p (arriving b lexemes.Colon None a) fs) (colon_begins b a.scope a.lexeme a.options (beside_at a) p fs h))
node_or b lexemes.Colon (Some n) a p fs h q e j c d = cc (c)
node_or false (lexemes.Scalar style text) key a p fs h q e j c n =
    plain_wanted (Scalar style text) (lexemes.Scalar style text) a p fs
    (NodeOf false (lexemes.Scalar style text) key a p fs) q
    (part_limited false (Scalar style text) (lexemes.Scalar style text) a p fs (stop_kind fs) h e
    (scalar_parts false style text a p fs (stop_kind fs) h))
node_or false (lexemes.Open Square) key a p fs h q e j c n =
    plain_wanted (Open Square) (lexemes.Open Square) a p fs
    (NodeOf false (lexemes.Open Square) key a p fs) q
    (part_limited false (Open Square) (lexemes.Open Square) a p fs (stop_kind fs) h e
    (square_parts false a p fs (stop_kind fs) h))
node_or false (lexemes.Open Curly) key a p fs h q e j c n =
    plain_wanted (Open Curly) (lexemes.Open Curly) a p fs
    (NodeOf false (lexemes.Open Curly) key a p fs) q
    (part_limited false (Open Curly) (lexemes.Open Curly) a p fs (stop_kind fs) h e
    (curly_parts false a p fs (stop_kind fs) h))
node_or false (lexemes.Anchor name) key a p fs h q e j c n =
    plain_wanted (Property (Anchor name)) (lexemes.Anchor name) a p fs
    (NodeOf false (lexemes.Anchor name) key a p fs) q
    (part_limited false (Property (Anchor name)) (lexemes.Anchor name) a p fs (stop_kind fs) h e
    (anchor_parts false name a p fs (stop_kind fs) h j))
node_or false (lexemes.Tag handle suffix) key a p fs h q e j c n =
    plain_wanted (Property (Tag handle suffix)) (lexemes.Tag handle suffix) a p fs
    (NodeOf false (lexemes.Tag handle suffix) key a p fs) q
    (part_limited false (Property (Tag handle suffix)) (lexemes.Tag handle suffix)
    a p fs (stop_kind fs) h e
    (tag_parts false handle suffix a p fs (stop_kind fs) h j))
node_or false (lexemes.Alias name) key a NoProperties fs h q e j c n =
    plain_wanted (Alias name) (lexemes.Alias name) a NoProperties fs
    (NodeOf false (lexemes.Alias name) key a NoProperties fs) q
    (part_limited false (Alias name) (lexemes.Alias name) a NoProperties fs (stop_kind fs) h e
    (alias_parts false name a fs (stop_kind fs) h))
node_or false (lexemes.Alias name) key a (One r i) fs h q e j c n = cc (j)
node_or false (lexemes.Alias name) key a (Two r i u v) fs h q e j c n = cc (j)
node_or true (lexemes.Scalar style text) key a p fs h q e j c n =
    key_wanted (Scalar style text) (lexemes.Scalar style text) a p fs
    (NodeOf true (lexemes.Scalar style text) key a p fs) q refl
    (scalar_key style text a p fs (stop_kind fs) h)
node_or true (lexemes.Open Square) key a p fs h q e j c n =
    key_wanted (Open Square) (lexemes.Open Square) a p fs
    (NodeOf true (lexemes.Open Square) key a p fs) q refl
    (square_key a p fs (stop_kind fs) h)
node_or true (lexemes.Open Curly) key a p fs h q e j c n =
    key_wanted (Open Curly) (lexemes.Open Curly) a p fs
    (NodeOf true (lexemes.Open Curly) key a p fs) q refl
    (curly_key_node a p fs (stop_kind fs) h)
node_or true (lexemes.Anchor name) key a p fs h q e j c n =
    key_wanted (Property (Anchor name)) (lexemes.Anchor name) a p fs
    (NodeOf true (lexemes.Anchor name) key a p fs) q refl
    (anchor_key name a p fs (stop_kind fs) h)
node_or true (lexemes.Tag handle suffix) key a p fs h q e j c n =
    key_wanted (Property (Tag handle suffix)) (lexemes.Tag handle suffix) a p fs
    (NodeOf true (lexemes.Tag handle suffix) key a p fs) q refl
    (tag_key handle suffix a p fs (stop_kind fs) h)
node_or true (lexemes.Alias name) key a p fs h q e j c n =
    key_wanted (Alias name) (lexemes.Alias name) a p fs
    (NodeOf true (lexemes.Alias name) key a p fs) q refl
    (alias_key name a p fs (stop_kind fs) h)

-- a lexeme that begins no node
want_stops :
    (b : Bool) (k : lexemes.LexemeKind) (key : Option KeyStart) (fs : List OpenFrame) (p : TreeProperties) (i : At) →
    BlockHole fs → begins_node (token_sort b key k) ≡ false →
    want_frames fs p (terminal_kind k key) i ≡ StopsWith (stop_kind fs)
want_stops b (lexemes.Directive directive) key fs p i h c = refl
want_stops b lexemes.DocumentStart key fs p i h c = refl
want_stops b lexemes.DocumentEnd key fs p i h c = refl
want_stops b lexemes.StreamEnd key fs p i h c = refl
want_stops b lexemes.Comma key fs p i h c = refl
want_stops b (lexemes.Close bracket) key fs p i root_hole c = refl
want_stops b (lexemes.Close bracket) key fs p i entry_hole c = refl
want_stops b (lexemes.Close bracket) key fs p i asked_hole c = refl
want_stops b (lexemes.Close bracket) key fs p i value_hole c = refl
want_stops b lexemes.Colon (Some n) fs p i h c = refl
want_stops b lexemes.Colon None fs p i h c = cc (c)
want_stops b lexemes.Dash key fs p i h c = cc (c)
want_stops b lexemes.Question key fs p i h c = cc (c)
want_stops true (lexemes.Scalar style text) key fs p i h c = cc (c)
want_stops false (lexemes.Scalar style text) key fs p i h c = cc (c)
want_stops true (lexemes.Open bracket) key fs p i h c = cc (c)
want_stops false (lexemes.Open bracket) key fs p i h c = cc (c)
want_stops true (lexemes.Anchor name) key fs p i h c = cc (c)
want_stops false (lexemes.Anchor name) key fs p i h c = cc (c)
want_stops true (lexemes.Tag handle suffix) key fs p i h c = cc (c)
want_stops false (lexemes.Tag handle suffix) key fs p i h c = cc (c)
want_stops true (lexemes.Alias name) key fs p i h c = cc (c)
want_stops false (lexemes.Alias name) key fs p i h c = cc (c)

tested_by :
    (b : Bool) (k : lexemes.LexemeKind) (key : Option KeyStart) (a : Arrival) (p : TreeProperties)
    (fs : List OpenFrame) (r : Bool) → Holes fs →
    BlockHole fs → nat_le (blocks_open fs) a.options.block_nesting_limit ≡ true → Joined p b (terminal_kind k key) →
    is_dash_token (token_sort b key k) ≡ false → begins_node (token_sort b key k) ≡ r →
    Wanted b k key a p fs (r && RightOfHole a.lexeme fs)
tested_by b k key a p fs true h q e j n c = node_or b k key a p fs h q e j c n
tested_by b k key a p fs false h q e j n c =
    subst (LimitView a.options (arriving b k key a) (beside_at a) (Err (fault_of (stop_kind fs) (arriving b k key a))))
    (sym (want_stops b k key fs p (arriving b k key a).at q c)) refl

-- any but a `-`, where it begins a node right of the hole's column, or is refused
pub node_tested :
    (b : Bool) (k : lexemes.LexemeKind) (key : Option KeyStart) (a : Arrival) (p : TreeProperties)
    (fs : List OpenFrame) → Holes fs → BlockHole fs →
    nat_le (blocks_open fs) a.options.block_nesting_limit ≡ true → Joined p b (terminal_kind k key) →
    is_dash_token (token_sort b key k) ≡ false →
    Wanted b k key a p fs (begins_node (token_sort b key k) && RightOfHole a.lexeme fs)
node_tested b k key a p fs h q e j n =
    tested_by b k key a p fs (begins_node (token_sort b key k)) h q e j n refl

-- ---- a `-`

loose_column : (k c : ℕ) → IsPositive c → (suc k == c) ≡ (one_less c == k)
loose_column k zero h = absurd h
loose_column k (suc c) h = grind (arith, nat_tests)

-- both say whether a sequence may begin in the column of its mapping
pub loose_same :
    (o : OptionsData) (p : TreeProperties) (k : ℕ) (fs : List OpenFrame) → Holes fs → BlockHole fs →
    loose_fits (room_behind p (frames_room fs)) (suc k)
    ≡ may_be_indentless k (below_properties (frames_of o (topped p fs)))
loose_same o NoProperties k fs h root_hole = refl
loose_same o (One r i) k fs h root_hole = refl
loose_same o (Two r i m j) k fs h root_hole = refl
loose_same o NoProperties k fs h entry_hole = refl
loose_same o (One r i) k fs h entry_hole = refl
loose_same o (Two r i m j) k fs h entry_hole = refl
loose_same o NoProperties k (MappingFrame c Asking ∷ fs) (at_asked g h) asked_hole = loose_column k c g
loose_same o (One r i) k (MappingFrame c Asking ∷ fs) (at_asked g h) asked_hole = loose_column k c g
loose_same o (Two r i m j) k (MappingFrame c Asking ∷ fs) (at_asked g h) asked_hole = loose_column k c g
loose_same o NoProperties k (MappingFrame c (Value w) ∷ fs) (at_value g h) value_hole = loose_column k c g
loose_same o (One r i) k (MappingFrame c (Value w) ∷ fs) (at_value g h) value_hole = loose_column k c g
loose_same o (Two r i m j) k (MappingFrame c (Value w) ∷ fs) (at_value g h) value_hole = loose_column k c g

abbrev LooseFits : lexemes.Lexeme → TreeProperties → List OpenFrame → Bool
LooseFits l p fs = loose_fits (room_behind p (frames_room fs)) (suc l.start.place.column)

dash_by :
    (b : Bool) (key : Option KeyStart) (a : Arrival) (p : TreeProperties) (fs : List OpenFrame) (loose : Bool) →
    Holes fs →
    LimitView a.options (arriving b lexemes.Dash key a) (beside_at a)
    (Tested (loose || RightOfHole a.lexeme fs)
    (take_dash a.options (arriving_token b lexemes.Dash key a) (first_dash loose) false (parser_at (topped p fs) a))
    (stop_kind fs) (arriving b lexemes.Dash key a))
    (choose loose (dashes true p (arriving b lexemes.Dash key a) fs)
    (if_gives (RightOfHole a.lexeme fs) (stop_kind fs) (dashes false p (arriving b lexemes.Dash key a) fs)))
unfolding take_dash
dash_by b key a p fs true h = loose_begins b a.scope a.lexeme a.options (beside_at a) p fs h
dash_by b key a p fs false h =
    if_view a.options (arriving b lexemes.Dash key a) (beside_at a) (RightOfHole a.lexeme fs)
    (take_dash a.options (arriving_token b lexemes.Dash key a) (first_dash false) false (parser_at (topped p fs) a))
    (stop_kind fs) (dashes false p (arriving b lexemes.Dash key a) fs)
    (dash_begins b a.scope a.lexeme a.options (beside_at a) p fs h)

-- a `-` in the column of its mapping, or right of the hole's column
pub dash_tested :
    (b : Bool) (key : Option KeyStart) (a : Arrival) (p : TreeProperties) (fs : List OpenFrame) →
    Holes fs → BlockHole fs →
    Wanted b lexemes.Dash key a p fs (LooseFits a.lexeme p fs || RightOfHole a.lexeme fs)
dash_tested b key a p fs h q =
    subst
    (λ loose.
    LimitView a.options (arriving b lexemes.Dash key a) (beside_at a)
    (Tested (LooseFits a.lexeme p fs || RightOfHole a.lexeme fs)
    (take_dash a.options (arriving_token b lexemes.Dash key a) (first_dash loose) false (parser_at (topped p fs) a))
    (stop_kind fs) (arriving b lexemes.Dash key a))
    (want_frames fs p Dash (arriving b lexemes.Dash key a).at))
    (loose_same a.options p a.lexeme.start.place.column fs h q)
    (subst
    (LimitView a.options (arriving b lexemes.Dash key a) (beside_at a)
    (Tested (LooseFits a.lexeme p fs || RightOfHole a.lexeme fs)
    (take_dash a.options (arriving_token b lexemes.Dash key a) (first_dash (LooseFits a.lexeme p fs)) false
    (parser_at (topped p fs) a))
    (stop_kind fs) (arriving b lexemes.Dash key a)))
    (sym (want_dash fs p (arriving b lexemes.Dash key a).at q))
    (dash_by b key a p fs (LooseFits a.lexeme p fs) h))

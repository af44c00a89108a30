-- Steps in a block mapping: behind `?`, its key, `:` and its value.
use Rattle.granit_views.specs.Good.{Holes, at_key, at_asked, at_value, IsPositive}
use Rattle.granit_views.specs.Stepping.{taken, LimitView, at_kind}
use Rattle.granit_views.specs.View.{give_all, stage_of}
use Rattle.granit_language.specs.Seen.{terminal_kind}
use Rattle.granit_event_machine.specs.EventMachine.{PairAt, Key, Asking, AskDone, Done, Value, OpenFrame, MappingFrame}
use Rattle.granit_event_machine.specs.EventMachine.{EventState, InFrames, Ending, ending, with_event, finish_frames}
use Rattle.granit_event_machine.specs.EventMachine.{nothing_frames, ended_by, GoesTo, after_events, if_gives}
use Rattle.granit_event_machine.specs.EventMachine.{take_frames}
use Rattle.granit_event_machine.specs.EventMachine.{want_frames, part_frames, entry_frames, BlockSite}
use Rattle.granit_event_machine.specs.Guarded.{blocks_open, first_fault}
use Rattle.granit_language.specs.Choice.{choose}
use Rattle.granit_language.specs.GrammarFault.{UnexpectedEofBlockMapping, ExpectedBlockMappingKey, fault_of}
use Rattle.granit_language.specs.Node.{NoProperties}
use Rattle.granit_language.specs.Telling.{one_less}
use Rattle.granit_language.specs.Terminal.{Anchor, Tag, Part, PartKind, Alias, Property, Scalar, Open, Colon, Terminal}
use Rattle.granit_language.specs.Terminal.{TerminalKind, At, terminal, stands_left, stands_in, entry_in, bare_in}
use Rattle.granit_language.specs.Terminal.{is_bare_kind, begins_entry_kind}
use Rattle.granit_language.specs.TreeEvents.{TreeEvent, null, pointed, MappingEnds}
use Rattle.granit_lexemes.specs.Lexeme.{KeyStart}
use Rattle.granit_lexemes.specs.declared.layout.Bracket.TheVariants.{Square, Curly}
use Rattle.granit_machine.specs.BlockSteps.{behind_indicator, next_pair, takes_node, mapping_at, mapping_colon}
use Rattle.granit_machine.specs.BlockSteps.{bare_colon_in_mapping}
use Rattle.granit_machine.specs.Frames.{ParserState}
use Rattle.granit_machine.specs.Giving.{put, null_at}
use Rattle.granit_machine.specs.NodeEnds.{owed}
use Rattle.granit_machine.specs.NodeSteps.{bare}
use Rattle.granit_machine.specs.Parser.{take_token}
use Rattle.granit_machine.specs.TokenSort.{token_of, token_sort, begins_node, is_dash_token, token_column, is_in_column}
use Rattle.granit_machine.specs.TokenSort.{is_right_of, DashToken}
use Rattle.std.proofs.Common.{◌≡◌, ℕ, suc, Bool, true, false, ◌||◌, ◌&&◌, not, List, [], ◌∷◌, refl, sym, ap, ap₂, ◌∙◌}
use Rattle.std.proofs.Common.{subst, Option, Some, None, Result, Err}
use Rattle.std.proofs.lemmas.Bool.{or_from}
use Rattle.std.specs.Prelude.{nat_le, if◌then◌else◌}
use Rattle.granit_base.specs.Place.{Mark}
use Rattle.granit_lexemes.specs.Outcome.{Fault}
use Rattle.granit_lexemes.specs.Lexeme as lexemes
use Rattle.granit_machine.specs.Frames as machine
use Rattle.granit_views.proofs.Arrivals.{Arrival, arriving, arriving_token, beside_at, parser_at, PartsAgree}
use Rattle.granit_views.proofs.Arrivals.{StepsLimited}
use Rattle.granit_node_steps.proofs.BlockNodes.{part_limited}
use Rattle.granit_views.proofs.Dashes.{DashOr, a_dash, another, dash_or}
use Rattle.granit_node_steps.proofs.NodeTests.{joined_none, Tested, NodeOf, node_tested, dash_tested}
use Rattle.granit_node_steps.proofs.PartSteps.{scalar_parts, square_parts, curly_parts, anchor_parts, tag_parts}
use Rattle.granit_node_steps.proofs.PartSteps.{alias_parts}
use Rattle.granit_views.proofs.Pops.{flushed}
use Rattle.granit_frame_steps.proofs.SequencePlaces.{stays_taken, begins_right}
use Rattle.granit_views.proofs.Sorts.{stands_same, entry_same}
use Rattle.granit_views.proofs.Views.{count_flat, events_before}
use Rattle.granit_views.proofs.Wants.{asked_hole, value_hole, key_entry}

-- where an entry may follow
pub data Between : PairAt → Type 0 where
  asking : Between Asking
  asked : Between AskDone
  valued : {w : Mark} → Between (Value w)
  paired : Between Done

-- what ends before the next entry
abbrev Before : PairAt → ℕ → Mark → List TreeEvent
Before Asking c x = null x (Some c) ∷ null x None ∷ []
Before AskDone c x = null x None ∷ []
Before (Value w) c x = null w None ∷ []
Before at c x = []

abbrev In : ℕ → PairAt → List OpenFrame → EventState
In c at fs = InFrames (MappingFrame c at ∷ fs)

-- the tests are whether the lexeme stands left of the mapping, begins an entry of it and is a `:` without key there
abbrev AskedEnds : Terminal → ℕ → List OpenFrame → Ending → Bool → Bool → Ending
AskedEnds x c fs on left colon =
    choose (not colon) (with_event (null x.at.start None) (choose left on (ending (In c Done fs) [])))
    (ending (In c AskDone fs) [])

asking_ends :
    (x : Terminal) (c : ℕ) (fs : List OpenFrame) (on y : Ending) (left entry colon : Bool) → left ≡ false →
    entry ≡ true → colon ≡ false →
    taken (choose (left || entry) (with_event (null x.at.start (Some c)) (AskedEnds x c fs on left colon)) y) x
    ≡ after_events (Before Asking c x.at.start) (take_frames (In c Done fs) x.kind x.at)
asking_ends x c fs on y false true false e f g = refl
asking_ends x c fs on y true entry colon e f g = cc (e)
asking_ends x c fs on y false false colon e f g = cc (f)
asking_ends x c fs on y false true true e f g = cc (g)

asked_ends :
    (x : Terminal) (c : ℕ) (fs : List OpenFrame) (on : Ending) (left colon : Bool) → left ≡ false → colon ≡ false →
    taken (AskedEnds x c fs on left colon) x
    ≡ after_events (Before AskDone c x.at.start) (take_frames (In c Done fs) x.kind x.at)
asked_ends x c fs on false false e g = refl
asked_ends x c fs on true colon e g = cc (e)
asked_ends x c fs on false true e g = cc (g)

valued_ends :
    (x : Terminal) (c : ℕ) (w : Mark) (fs : List OpenFrame) (on y : Ending) (left entry : Bool) → left ≡ false →
    entry ≡ true →
    taken (choose (left || entry) (with_event (null w None) (choose left on (ending (In c Done fs) []))) y) x
    ≡ after_events (Before (Value w) c x.at.start) (take_frames (In c Done fs) x.kind x.at)
valued_ends x c w fs on y false true e f = refl
valued_ends x c w fs on y true entry e f = cc (e)
valued_ends x c w fs on y false false e f = cc (f)

paired_ends :
    (x : Terminal) (c : ℕ) (fs : List OpenFrame) (on : Ending) (left : Bool) → left ≡ false →
    taken (choose left on (ending (In c Done fs) [])) x
    ≡ after_events (Before Done c x.at.start) (take_frames (In c Done fs) x.kind x.at)
paired_ends x c fs on false e = refl
paired_ends x c fs on true e = cc (e)

abbrev PastMapping : Terminal → List OpenFrame → Ending
PastMapping x fs = with_event (pointed MappingEnds x.at.start) (finish_frames x x.at.start fs)

-- an entry follows, which is no `:`
entry_follows :
    (x : Terminal) (c : ℕ) (at : PairAt) (fs : List OpenFrame) → Between at → stands_left x c ≡ false →
    entry_in x c ≡ true → bare_in x c ≡ false →
    taken (ended_by x (In c at fs)) x
    ≡ after_events (Before at c x.at.start) (entry_frames ExpectedBlockMappingKey (BlockSite c fs) x.kind x.at)
entry_follows x c at fs asking e f g =
    asking_ends x c fs (PastMapping x fs) (ending (In c Asking fs) []) (stands_left x c) (entry_in x c) (bare_in x c) e
    f g
    ∙ ap
    (λ b.
    after_events (Before Asking c x.at.start)
    (if_gives b ExpectedBlockMappingKey (entry_frames ExpectedBlockMappingKey (BlockSite c fs) x.kind x.at)))
    f
entry_follows x c at fs asked e f g =
    asked_ends x c fs (PastMapping x fs) (stands_left x c) (bare_in x c) e g
    ∙ ap
    (λ b.
    after_events (Before AskDone c x.at.start)
    (if_gives b ExpectedBlockMappingKey (entry_frames ExpectedBlockMappingKey (BlockSite c fs) x.kind x.at)))
    f
entry_follows x c at fs (valued {w = w}) e f g =
    valued_ends x c w fs (PastMapping x fs) (ending (In c (Value w) fs) []) (stands_left x c) (entry_in x c) e f
    ∙ ap
    (λ b.
    after_events (Before (Value w) c x.at.start)
    (if_gives b ExpectedBlockMappingKey (entry_frames ExpectedBlockMappingKey (BlockSite c fs) x.kind x.at)))
    f
entry_follows x c at fs paired e f g =
    paired_ends x c fs (PastMapping x fs) (stands_left x c) e
    ∙ ap
    (λ b.
    after_events (Before Done c x.at.start)
    (if_gives b ExpectedBlockMappingKey (entry_frames ExpectedBlockMappingKey (BlockSite c fs) x.kind x.at)))
    f

-- a `:` without key follows
abbrev ColonBefore : PairAt → ℕ → Mark → List TreeEvent
ColonBefore Asking c x = null x (Some c) ∷ []
ColonBefore AskDone c x = []
ColonBefore (Value w) c x = null w None ∷ null x None ∷ []
ColonBefore at c x = null x None ∷ []

abbrev ColonAt : At → Terminal
ColonAt i = terminal (Colon None) i

asking_colon :
    (i : At) (c : ℕ) (fs : List OpenFrame) (on y : Ending) (left same : Bool) → left ≡ false → same ≡ true →
    taken (choose (left || same) (with_event (null i.start (Some c)) (AskedEnds (ColonAt i) c fs on left same)) y)
    (ColonAt i)
    ≡ after_events (ColonBefore Asking c i.start) (take_frames (In c AskDone fs) (Colon None) i)
asking_colon i c fs on y false true e f = refl
asking_colon i c fs on y true same e f = cc (e)
asking_colon i c fs on y false false e f = cc (f)

asked_colon :
    (i : At) (c : ℕ) (fs : List OpenFrame) (on : Ending) (left same : Bool) → same ≡ true →
    taken (AskedEnds (ColonAt i) c fs on left same) (ColonAt i)
    ≡ after_events [] (take_frames (In c AskDone fs) (Colon None) i)
asked_colon i c fs on left true e = refl
asked_colon i c fs on left false e = cc (e)

colon_follows :
    (i : At) (c : ℕ) (at : PairAt) (fs : List OpenFrame) → Between at → stands_left (ColonAt i) c ≡ false →
    stands_in (ColonAt i) c ≡ true →
    taken (ended_by (ColonAt i) (In c at fs)) (ColonAt i) ≡ GoesTo (In c (Value i.start) fs) (ColonBefore at c i.start)
colon_follows i c at fs asking e f =
    asking_colon i c fs (PastMapping (ColonAt i) fs) (ending (In c Asking fs) []) (stands_left (ColonAt i) c)
    (stands_in (ColonAt i) c) e f
    ∙ ap
    (λ b.
    after_events (ColonBefore Asking c i.start)
    (if_gives b ExpectedBlockMappingKey (GoesTo (In c (Value i.start) fs) [])))
    f
colon_follows i c at fs asked e f =
    asked_colon i c fs (PastMapping (ColonAt i) fs) (stands_left (ColonAt i) c) (stands_in (ColonAt i) c) f
    ∙ ap (λ b. after_events [] (if_gives b ExpectedBlockMappingKey (GoesTo (In c (Value i.start) fs) []))) f
colon_follows i c at fs (valued {w = w}) e f =
    valued_ends (ColonAt i) c w fs (PastMapping (ColonAt i) fs) (ending (In c (Value w) fs) [])
    (stands_left (ColonAt i) c)
    (stands_in (ColonAt i) c) e f
    ∙ ap
    (λ b.
    after_events (Before (Value w) c i.start)
    (if_gives b ExpectedBlockMappingKey (GoesTo (In c (Value i.start) fs) (null i.start None ∷ []))))
    f
colon_follows i c at fs paired e f =
    paired_ends (ColonAt i) c fs (PastMapping (ColonAt i) fs) (stands_left (ColonAt i) c) e
    ∙ ap
    (λ b.
    after_events []
    (if_gives b ExpectedBlockMappingKey (GoesTo (In c (Value i.start) fs) (null i.start None ∷ []))))
    f

-- ---- what the parser owes

abbrev LastOf : PairAt → Mark → Mark → Mark
LastOf Asking x last = x
LastOf AskDone x last = x
LastOf (Value w) x last = w
LastOf at x last = last

-- behind what ends before the next entry
abbrev behind_pair : PairAt → ℕ → Arrival → Arrival
behind_pair at c a = record a {
  last = LastOf at a.lexeme.start a.last;
  given = give_all a.options (Before at c a.lexeme.start) a.given;
}

owed_key :
    (a : Arrival) (c : ℕ) (at : PairAt) (fs : List OpenFrame) → Between at →
    mapping_at (one_less c) machine.AtKey (owed a.lexeme.start (parser_at (MappingFrame c at ∷ fs) a))
    ≡ parser_at (MappingFrame c Key ∷ fs) (behind_pair at c a)
owed_key a c at fs asking = refl
owed_key a c at fs asked = refl
owed_key a c at fs (valued {w = w}) =
    ap (mapping_at (one_less c) machine.AtKey)
    (flushed a.options w a.options.max_buffered_comment_events
    (put (null_at w) (parser_at (MappingFrame c (Value w) ∷ fs) a)))
owed_key a c at fs paired = refl

owed_question :
    (a : Arrival) (c : ℕ) (at : PairAt) (fs : List OpenFrame) → Between at →
    mapping_at (one_less c) machine.AtQuestion (owed a.lexeme.start (parser_at (MappingFrame c at ∷ fs) a))
    ≡ parser_at (MappingFrame c Asking ∷ fs) (behind_pair at c a)
owed_question a c at fs asking = refl
owed_question a c at fs asked = refl
owed_question a c at fs (valued {w = w}) =
    ap (mapping_at (one_less c) machine.AtQuestion)
    (flushed a.options w a.options.max_buffered_comment_events
    (put (null_at w) (parser_at (MappingFrame c (Value w) ∷ fs) a)))
owed_question a c at fs paired = refl

abbrev ColonLast : PairAt → Mark → Mark → Mark
ColonLast AskDone x last = last
ColonLast at x last = x

owed_colon :
    (b : Bool) (a : Arrival) (c : ℕ) (at : PairAt) (fs : List OpenFrame) → Between at →
    bare_colon_in_mapping a.options (arriving_token b lexemes.Colon None a) (one_less c) (stage_of at)
    (parser_at (MappingFrame c at ∷ fs) a)
    ≡ parser_at (MappingFrame c (Value a.lexeme.start) ∷ fs)
    (record a {
      last = ColonLast at a.lexeme.start a.last;
      given = give_all a.options (ColonBefore at c a.lexeme.start) a.given;
    })
owed_colon b a c at fs asking = refl
owed_colon b a c at fs asked = refl
owed_colon b a c at fs (valued {w = w}) =
    ap (λ q. mapping_colon a.options (arriving_token b lexemes.Colon None a) (one_less c)
    (put (null_at a.lexeme.start) q))
    (flushed a.options w a.options.max_buffered_comment_events
    (put (null_at w) (parser_at (MappingFrame c (Value w) ∷ fs) a)))
owed_colon b a c at fs paired = refl

-- ---- an entry follows

abbrev Rest :
    Bool → lexemes.LexemeKind → Option KeyStart → Arrival → ℕ → PairAt → List OpenFrame → Result ParserState Fault
Rest b k key a c at fs =
    if not (takes_node (stage_of at)) then Err (fault_of ExpectedBlockMappingKey (arriving b k key a))
    else Tested
    ((is_dash_token (token_sort b key k) && is_in_column (token_column (arriving_token b k key a)) (one_less c))
    ||
    (begins_node (token_sort b key k) && is_right_of (token_column (arriving_token b k key a)) (Some (one_less c))))
    (NodeOf b k key a NoProperties (MappingFrame c at ∷ fs)) UnexpectedEofBlockMapping (arriving b k key a)

abbrev NextPair :
    Bool → lexemes.LexemeKind → Option KeyStart → Arrival → ℕ → PairAt → List OpenFrame → Result ParserState Fault
NextPair b k key a c at fs =
    next_pair a.options (arriving_token b k key a) (one_less c) (stage_of at) (token_sort b key k)
    (parser_at (MappingFrame c at ∷ fs) a)

-- the parser's step where an entry may follow
abbrev MappingToken :
    Bool → lexemes.LexemeKind → Option KeyStart → Arrival → ℕ → PairAt → List OpenFrame → Result ParserState Fault
MappingToken b k key a c at fs = take_token a.options (arriving_token b k key a) (parser_at (MappingFrame c at ∷ fs) a)

indicator_is :
    (b : Bool) (k : lexemes.LexemeKind) (key : Option KeyStart) (a : Arrival) (c : ℕ) (at : PairAt)
    (fs : List OpenFrame) → Between at → IsPositive c →
    MappingToken b k key a c at fs
    ≡ (if entry_in (arriving b k key a) c then NextPair b k key a c at fs
    else Rest b k key a c at fs)
unfolding behind_indicator
indicator_is b k key a c at fs asking p =
    ap (λ e. if e then NextPair b k key a c at fs else Rest b k key a c at fs)
    (entry_same b a.scope (at_kind a.lexeme k key) c p)
indicator_is b k key a c at fs asked p =
    ap (λ e. if e then NextPair b k key a c at fs else Rest b k key a c at fs)
    (entry_same b a.scope (at_kind a.lexeme k key) c p)
indicator_is b k key a c at fs valued p =
    ap (λ e. if e then NextPair b k key a c at fs else Rest b k key a c at fs)
    (entry_same b a.scope (at_kind a.lexeme k key) c p)
indicator_is b k key a c at fs paired p =
    ap (λ e. if e then NextPair b k key a c at fs else Rest b k key a c at fs)
    (entry_same b a.scope (at_kind a.lexeme k key) c p)

abbrev EntryView : Bool → lexemes.LexemeKind → Option KeyStart → Arrival → ℕ → PairAt → List OpenFrame → Type 0
EntryView b k key a c at fs =
    LimitView a.options (arriving b k key a) (beside_at a) (NextPair b k key a c at fs)
    (taken (ended_by (arriving b k key a) (In c at fs)) (arriving b k key a))

-- a simple key's first lexeme
key_follows :
    (m : PartKind) (k : lexemes.LexemeKind) (a : Arrival) (c : ℕ) (at : PairAt) (fs : List OpenFrame) →
    Between at → IsPositive c → Holes fs →
    terminal_kind k None ≡ Part m → stands_left (arriving true k None a) c ≡ false →
    entry_in (arriving true k None a) c ≡ true →
    nat_le (blocks_open (MappingFrame c at ∷ fs)) a.options.block_nesting_limit ≡ true →
    PartsAgree true m k (behind_pair at c a) NoProperties
    (MappingFrame c Key ∷ fs) ExpectedBlockMappingKey →
    LimitView a.options (arriving true k None a) (beside_at a)
    (bare a.options (arriving_token true k None a)
    (mapping_at (one_less c) machine.AtKey (owed a.lexeme.start (parser_at (MappingFrame c at ∷ fs) a))))
    (after_events (Before at c a.lexeme.start)
    (part_frames ExpectedBlockMappingKey (MappingFrame c Key ∷ fs) NoProperties m (arriving true k None a).at))
key_follows m k a c at fs w p h g f e q v =
    subst
    (λ q.
    LimitView a.options (arriving true k None a) (beside_at a) (bare a.options (arriving_token true k None a) q)
    (after_events (Before at c a.lexeme.start)
    (part_frames ExpectedBlockMappingKey (MappingFrame c Key ∷ fs) NoProperties m (arriving true k None a).at)))
    (sym (owed_key a c at fs w))
    (events_before a.options (arriving true k None a) a.scope (LastOf at a.lexeme.start a.last) a.last a.given
    (Before at c a.lexeme.start)
    (bare a.options (arriving_token true k None a) (parser_at (MappingFrame c Key ∷ fs) (behind_pair at c a)))
    (part_frames ExpectedBlockMappingKey (MappingFrame c Key ∷ fs) NoProperties m (arriving true k None a).at)
    (part_limited true m k (behind_pair at c a) NoProperties
    (MappingFrame c Key ∷ fs) ExpectedBlockMappingKey (at_key p h) q v))

entry_given :
    (b : Bool) (k : lexemes.LexemeKind) (key : Option KeyStart) (a : Arrival) (c : ℕ) (at : PairAt)
    (fs : List OpenFrame) → Between at → IsPositive c →
    Holes fs → stands_left (arriving b k key a) c ≡ false → entry_in (arriving b k key a) c ≡ true →
    nat_le (blocks_open (MappingFrame c at ∷ fs)) a.options.block_nesting_limit ≡ true →
    EntryView b k key a c at fs
entry_given b (lexemes.Directive directive) key a c at fs w p h f e q = cc (e)
entry_given b lexemes.DocumentStart key a c at fs w p h f e q = cc (e)
entry_given b lexemes.DocumentEnd key a c at fs w p h f e q = cc (e)
entry_given b lexemes.StreamEnd key a c at fs w p h f e q = cc (e)
entry_given b lexemes.Comma key a c at fs w p h f e q = cc (e)
entry_given b (lexemes.Close bracket) key a c at fs w p h f e q = cc (e)
entry_given b lexemes.Dash key a c at fs w p h f e q = cc (e)
entry_given b lexemes.Colon (Some n) a c at fs w p h f e q = cc (e)
entry_given b lexemes.Colon None a c at fs w p h f e q =
    subst
    (LimitView a.options (arriving b lexemes.Colon None a) (beside_at a) (NextPair b lexemes.Colon None a c at fs))
    (sym (colon_follows (arriving b lexemes.Colon None a).at c at fs w f e)) (
      (ColonLast at a.lexeme.start a.last, owed_colon b a c at fs w),
      ap (λ f. first_fault f None)
          (count_flat a.options.block_nesting_limit (suc (blocks_open fs)) (In c (Value a.lexeme.start) fs) refl q),
    )
entry_given b lexemes.Question key a c at fs w p h f e q =
    subst
    (LimitView a.options (arriving b lexemes.Question key a) (beside_at a)
    (NextPair b lexemes.Question key a c at fs))
    (sym (entry_follows (arriving b lexemes.Question key a) c at fs w f e refl))
    (events_before a.options (arriving b lexemes.Question key a) a.scope (LastOf at a.lexeme.start a.last) a.last
    a.given (Before at c a.lexeme.start)
    (NextPair b lexemes.Question key a c at fs) (GoesTo (In c Asking fs) []) (
      (LastOf at a.lexeme.start a.last, owed_question a c at fs w),
      ap (λ f. first_fault f None)
          (count_flat a.options.block_nesting_limit (suc (blocks_open fs)) (In c Asking fs) refl q),
    ))
entry_given false (lexemes.Scalar style text) key a c at fs w p h f e q = cc (e)
entry_given true (lexemes.Scalar style text) key a c at fs w p h f e q =
    subst
    (LimitView a.options (arriving true (lexemes.Scalar style text) key a) (beside_at a)
    (NextPair true (lexemes.Scalar style text) key a c at fs))
    (sym
    (entry_follows (arriving true (lexemes.Scalar style text) key a) c at fs w f e refl
    ∙ ap (after_events (Before at c a.lexeme.start))
    (key_entry ExpectedBlockMappingKey c fs (Scalar style text)
    (arriving true (lexemes.Scalar style text) key a).at)))
    (key_follows (Scalar style text) (lexemes.Scalar style text) a c at fs w p h refl f e q
    (scalar_parts true style text (behind_pair at c a)
    NoProperties (MappingFrame c Key ∷ fs)
    ExpectedBlockMappingKey (at_key p h)))
entry_given false (lexemes.Open Square) key a c at fs w p h f e q = cc (e)
entry_given true (lexemes.Open Square) key a c at fs w p h f e q =
    subst
    (LimitView a.options (arriving true (lexemes.Open Square) key a) (beside_at a)
    (NextPair true (lexemes.Open Square) key a c at fs))
    (sym
    (entry_follows (arriving true (lexemes.Open Square) key a) c at fs w f e refl
    ∙ ap (after_events (Before at c a.lexeme.start))
    (key_entry ExpectedBlockMappingKey c fs (Open Square) (arriving true (lexemes.Open Square) key a).at)))
    (key_follows (Open Square) (lexemes.Open Square) a c at fs w p h refl f e q
    (square_parts true (behind_pair at c a) NoProperties
    (MappingFrame c Key ∷ fs)
    ExpectedBlockMappingKey (at_key p h)))
entry_given false (lexemes.Open Curly) key a c at fs w p h f e q = cc (e)
entry_given true (lexemes.Open Curly) key a c at fs w p h f e q =
    subst
    (LimitView a.options (arriving true (lexemes.Open Curly) key a) (beside_at a)
    (NextPair true (lexemes.Open Curly) key a c at fs))
    (sym
    (entry_follows (arriving true (lexemes.Open Curly) key a) c at fs w f e refl
    ∙ ap (after_events (Before at c a.lexeme.start))
    (key_entry ExpectedBlockMappingKey c fs (Open Curly) (arriving true (lexemes.Open Curly) key a).at)))
    (key_follows (Open Curly) (lexemes.Open Curly) a c at fs w p h refl f e q
    (curly_parts true (behind_pair at c a) NoProperties
    (MappingFrame c Key ∷ fs)
    ExpectedBlockMappingKey (at_key p h)))
entry_given false (lexemes.Anchor name) key a c at fs w p h f e q = cc (e)
entry_given true (lexemes.Anchor name) key a c at fs w p h f e q =
    subst
    (LimitView a.options (arriving true (lexemes.Anchor name) key a) (beside_at a)
    (NextPair true (lexemes.Anchor name) key a c at fs))
    (sym
    (entry_follows (arriving true (lexemes.Anchor name) key a) c at fs w f e refl
    ∙ ap (after_events (Before at c a.lexeme.start))
    (key_entry ExpectedBlockMappingKey c fs (Property (Anchor name))
    (arriving true (lexemes.Anchor name) key a).at)))
    (key_follows (Property (Anchor name)) (lexemes.Anchor name) a c at fs w p h refl f e q
    (anchor_parts true name (behind_pair at c a) NoProperties
    (MappingFrame c Key ∷ fs)
    ExpectedBlockMappingKey (at_key p h) refl))
entry_given false (lexemes.Tag handle suffix) key a c at fs w p h f e q = cc (e)
entry_given true (lexemes.Tag handle suffix) key a c at fs w p h f e q =
    subst
    (LimitView a.options (arriving true (lexemes.Tag handle suffix) key a) (beside_at a)
    (NextPair true (lexemes.Tag handle suffix) key a c at fs))
    (sym
    (entry_follows (arriving true (lexemes.Tag handle suffix) key a) c at fs w f e refl
    ∙ ap (after_events (Before at c a.lexeme.start))
    (key_entry ExpectedBlockMappingKey c fs (Property (Tag handle suffix))
    (arriving true (lexemes.Tag handle suffix) key a).at)))
    (key_follows (Property (Tag handle suffix)) (lexemes.Tag handle suffix) a c at fs w p h refl f e q
    (tag_parts true handle suffix (behind_pair at c a)
    NoProperties (MappingFrame c Key ∷ fs)
    ExpectedBlockMappingKey (at_key p h) refl))
entry_given false (lexemes.Alias name) key a c at fs w p h f e q = cc (e)
entry_given true (lexemes.Alias name) key a c at fs w p h f e q =
    subst
    (LimitView a.options (arriving true (lexemes.Alias name) key a) (beside_at a)
    (NextPair true (lexemes.Alias name) key a c at fs))
    (sym
    (entry_follows (arriving true (lexemes.Alias name) key a) c at fs w f e refl
    ∙ ap (after_events (Before at c a.lexeme.start))
    (key_entry ExpectedBlockMappingKey c fs (Alias name) (arriving true (lexemes.Alias name) key a).at)))
    (key_follows (Alias name) (lexemes.Alias name) a c at fs w p h refl f e q
    (alias_parts true name (behind_pair at c a)
    (MappingFrame c Key ∷ fs)
    ExpectedBlockMappingKey (at_key p h)))

-- ---- no entry follows

bare_no :
    (k : TerminalKind) (b t : Bool) → (begins_entry_kind k b && t) ≡ false → (is_bare_kind k && t) ≡ false
bare_no (Colon None) b t e = e
bare_no k b t e = refl

abbrev RestView : Bool → lexemes.LexemeKind → Option KeyStart → Arrival → ℕ → PairAt → List OpenFrame → Type 0
RestView b k key a c at fs =
    LimitView a.options (arriving b k key a) (beside_at a) (Rest b k key a c at fs)
    (taken (ended_by (arriving b k key a) (In c at fs)) (arriving b k key a))

-- the test of a node, and what is wanted
abbrev WantedView : Bool → lexemes.LexemeKind → Option KeyStart → Arrival → ℕ → PairAt → List OpenFrame → Bool → Type 0
WantedView b k key a c at fs r =
    LimitView a.options (arriving b k key a) (beside_at a)
    (Tested r (NodeOf b k key a NoProperties (MappingFrame c at ∷ fs)) UnexpectedEofBlockMapping
    (arriving b k key a))
    (want_frames (MappingFrame c at ∷ fs) NoProperties (terminal_kind k key) (arriving b k key a).at)

abbrev NodeTest : Bool → lexemes.LexemeKind → Option KeyStart → lexemes.Lexeme → ℕ → Bool
NodeTest b k key l c =
    (is_dash_token (token_sort b key k) && is_in_column (token_column (token_of b (at_kind l k key))) (one_less c))
    ||
    (begins_node (token_sort b key k)
    && is_right_of (token_column (token_of b (at_kind l k key))) (Some (one_less c)))

node_asked :
    (b : Bool) (k : lexemes.LexemeKind) (key : Option KeyStart) (a : Arrival) (c : ℕ) (fs : List OpenFrame) →
    DashOr b key k → IsPositive c → Holes fs →
    nat_le (blocks_open (MappingFrame c Asking ∷ fs)) a.options.block_nesting_limit ≡ true →
    WantedView b k key a c Asking fs (NodeTest b k key a.lexeme c)
node_asked b k key a c fs (another n) p h e =
    subst (WantedView b k key a c Asking fs)
    (sym
    (ap₂ (λ d r. d || r)
    (ap (λ d. d && is_in_column (token_column (arriving_token b k key a)) (one_less c)) n)
    (begins_right (token_sort b key k) a.lexeme.start.place.column c p)))
    (node_tested b k key a NoProperties (MappingFrame c Asking ∷ fs) (at_asked p h) asked_hole e
    (joined_none b (terminal_kind k key)) n)
node_asked b lexemes.Dash key a c fs a_dash p h e =
    subst (WantedView b lexemes.Dash key a c Asking fs)
    (sym
    (ap₂ (λ d r. d || r) (stands_same b a.scope (at_kind a.lexeme lexemes.Dash key) c p)
    (begins_right DashToken a.lexeme.start.place.column c p)))
    (dash_tested b key a NoProperties (MappingFrame c Asking ∷ fs) (at_asked p h) asked_hole)

node_valued :
    (b : Bool) (k : lexemes.LexemeKind) (key : Option KeyStart) (a : Arrival) (c : ℕ) (w : Mark) (fs : List OpenFrame) →
    DashOr b key k → IsPositive c →
    Holes fs → nat_le (blocks_open (MappingFrame c (Value w) ∷ fs)) a.options.block_nesting_limit ≡ true →
    WantedView b k key a c (Value w) fs (NodeTest b k key a.lexeme c)
node_valued b k key a c w fs (another n) p h e =
    subst (WantedView b k key a c (Value w) fs)
    (sym
    (ap₂ (λ d r. d || r)
    (ap (λ d. d && is_in_column (token_column (arriving_token b k key a)) (one_less c)) n)
    (begins_right (token_sort b key k) a.lexeme.start.place.column c p)))
    (node_tested b k key a NoProperties (MappingFrame c (Value w) ∷ fs) (at_value p h) value_hole e
    (joined_none b (terminal_kind k key)) n)
node_valued b lexemes.Dash key a c w fs a_dash p h e =
    subst (WantedView b lexemes.Dash key a c (Value w) fs)
    (sym
    (ap₂ (λ d r. d || r) (stands_same b a.scope (at_kind a.lexeme lexemes.Dash key) c p)
    (begins_right DashToken a.lexeme.start.place.column c p)))
    (dash_tested b key a NoProperties (MappingFrame c (Value w) ∷ fs) (at_value p h) value_hole)

rest_given :
    (b : Bool) (k : lexemes.LexemeKind) (key : Option KeyStart) (a : Arrival) (c : ℕ) (at : PairAt)
    (fs : List OpenFrame) → Between at → IsPositive c →
    Holes fs → stands_left (arriving b k key a) c ≡ false → entry_in (arriving b k key a) c ≡ false →
    nat_le (blocks_open (MappingFrame c at ∷ fs)) a.options.block_nesting_limit ≡ true →
    RestView b k key a c at fs
rest_given b k key a c at fs asking p h f e q =
    subst (LimitView a.options (arriving b k key a) (beside_at a) (Rest b k key a c Asking fs))
    (sym
    (stays_taken (stands_left (arriving b k key a) c || entry_in (arriving b k key a) c)
    (nothing_frames (arriving b k key a) (MappingFrame c Asking ∷ fs)) (In c Asking fs) (arriving b k key a)
    (or_from _ _ f e)))
    (node_asked b k key a c fs (dash_or b key k) p h q)
rest_given b k key a c at fs (valued {w = w}) p h f e q =
    subst (LimitView a.options (arriving b k key a) (beside_at a) (Rest b k key a c (Value w) fs))
    (sym
    (stays_taken (stands_left (arriving b k key a) c || entry_in (arriving b k key a) c)
    (nothing_frames (arriving b k key a) (MappingFrame c (Value w) ∷ fs)) (In c (Value w) fs) (arriving b k key a)
    (or_from _ _ f e)))
    (node_valued b k key a c w fs (dash_or b key k) p h q)
rest_given b k key a c at fs asked p h f e q =
    subst (LimitView a.options (arriving b k key a) (beside_at a) (Rest b k key a c AskDone fs))
    (sym
    (asked_ends (arriving b k key a) c fs (PastMapping (arriving b k key a) fs) (stands_left (arriving b k key a) c)
    (bare_in (arriving b k key a) c) f (bare_no (terminal_kind k key) b (stands_in (arriving b k key a) c) e)
    ∙ ap
    (λ r.
    after_events (Before AskDone c a.lexeme.start)
    (if_gives r ExpectedBlockMappingKey
    (entry_frames ExpectedBlockMappingKey (BlockSite c fs) (arriving b k key a).kind (arriving b k key a).at)))
    e))
    refl
rest_given b k key a c at fs paired p h f e q =
    subst (LimitView a.options (arriving b k key a) (beside_at a) (Rest b k key a c Done fs))
    (sym
    (paired_ends (arriving b k key a) c fs (PastMapping (arriving b k key a) fs) (stands_left (arriving b k key a) c) f
    ∙ ap
    (λ r.
    after_events (Before Done c a.lexeme.start)
    (if_gives r ExpectedBlockMappingKey
    (entry_frames ExpectedBlockMappingKey (BlockSite c fs) (arriving b k key a).kind (arriving b k key a).at)))
    e))
    refl

mapping_by :
    (b : Bool) (k : lexemes.LexemeKind) (key : Option KeyStart) (a : Arrival) (c : ℕ) (at : PairAt)
    (fs : List OpenFrame) (entry : Bool) → Between at →
    IsPositive c → Holes fs → stands_left (arriving b k key a) c ≡ false → entry_in (arriving b k key a) c ≡ entry →
    nat_le (blocks_open (MappingFrame c at ∷ fs)) a.options.block_nesting_limit ≡ true →
    LimitView a.options (arriving b k key a) (beside_at a)
    (if entry then NextPair b k key a c at fs else Rest b k key a c at fs)
    (taken (ended_by (arriving b k key a) (In c at fs)) (arriving b k key a))
mapping_by b k key a c at fs true w p h f e q = entry_given b k key a c at fs w p h f e q
mapping_by b k key a c at fs false w p h f e q = rest_given b k key a c at fs w p h f e q

pub mapping_steps :
    (b : Bool) (k : lexemes.LexemeKind) (key : Option KeyStart) (a : Arrival) (c : ℕ) (at : PairAt)
    (fs : List OpenFrame) → Between at → IsPositive c → Holes fs → stands_left (arriving b k key a) c ≡ false →
    nat_le (blocks_open (MappingFrame c at ∷ fs)) a.options.block_nesting_limit ≡ true →
    StepsLimited b k key a (MappingFrame c at ∷ fs)
mapping_steps b k key a c at fs w p h f q =
    subst
    (λ r.
    LimitView a.options (arriving b k key a) (beside_at a) r
    (taken (ended_by (arriving b k key a) (In c at fs)) (arriving b k key a)))
    (sym (indicator_is b k key a c at fs w p))
    (mapping_by b k key a c at fs (entry_in (arriving b k key a) c) w p h f refl q)

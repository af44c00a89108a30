-- Steps behind properties.
use Rattle.granit_views.specs.Fair.{FairAt, FairBehind, frame_ends_at}
use Rattle.granit_views.specs.Good.{Holes, at_root, at_entry, at_key, at_asked, at_value, at_item, at_curly}
use Rattle.granit_views.specs.Good.{curly_key, curly_asked, curly_value, made_key, made_value, pair_asked}
use Rattle.granit_views.specs.Good.{pair_value, GoodProperties}
use Rattle.granit_views.specs.Stepping.{taken, LimitView}
use Rattle.granit_language.specs.Seen.{terminal_kind}
use Rattle.granit_event_machine.specs.EventMachine.{OpenFrame, PropertiesFrame, InFrames, EventState, Ending, ending}
use Rattle.granit_event_machine.specs.EventMachine.{with_event, finish_frames, if_gives, begin_pair_frames, frames_room}
use Rattle.granit_event_machine.specs.EventMachine.{frames_indent, part_frames, stop_kind, take_frames, want_frames}
use Rattle.granit_event_machine.specs.Guarded.{blocks_open}
use Rattle.granit_language.specs.Choice.{choose}
use Rattle.granit_language.specs.Node.{TreeProperties, NoProperties, One, Two}
use Rattle.granit_language.specs.Room.{BehindKey, Inside, behind_property, right_fits, loose_fits}
use Rattle.granit_language.specs.Room.{indicates, part_fits, joins, continues_node}
use Rattle.granit_language.specs.Terminal.{Anchor, Tag, Part, PartKind, Alias, Property, Scalar, Open, Question, Colon}
use Rattle.granit_language.specs.Terminal.{At, Terminal, edge}
use Rattle.granit_language.specs.TreeEvents.{alone_event, properties_end}
use Rattle.granit_lexemes.specs.Lexeme.{KeyStart}
use Rattle.granit_lexemes.specs.declared.layout.Bracket.TheVariants.{Square, Curly}
use Rattle.granit_machine.specs.Frames.{ParserState}
use Rattle.granit_machine.specs.Parser.{take_token}
use Rattle.std.proofs.Common.{◌≡◌, ℕ, suc, Bool, true, false, ◌||◌, ◌&&◌, not, nat_lt, List, [], ◌∷◌, refl, sym, ap}
use Rattle.std.proofs.Common.{ap₂, ◌∙◌, subst, Option, Some, None, Result}
use Rattle.std.proofs.lemmas.Bool.{and_parts, not-false}
use Rattle.std.specs.Prelude.{nat_le}
use Rattle.granit_lexemes.specs.Outcome.{Fault}
use Rattle.granit_lexemes.specs.Lexeme as lexemes
use Rattle.granit_views.proofs.Arrivals.{Arrival, arriving, arriving_token, beside_at, parser_at, StepsLimited}
use Rattle.granit_node_steps.proofs.BlockNodes.{part_limited}
use Rattle.granit_node_steps.proofs.NodeTests.{Joined, Tested, NodeOf, RightOfHole, node_or, dash_tested}
use Rattle.granit_node_steps.proofs.PartSteps.{scalar_parts, square_parts, curly_parts, anchor_parts, tag_parts}
use Rattle.granit_views.proofs.Views.{after_nothing}
use Rattle.granit_views.proofs.Wants.{BlockHole, root_hole, entry_hole, asked_hole, value_hole, hole_column, RoomOf}
use Rattle.granit_views.proofs.Wants.{right_is, indicates_is, part_fits_is}

-- the place of properties: outside flow, in a simple key there, or in flow
data PlaceOr (p : TreeProperties) (fs : List OpenFrame) : Type 0 where
  in_block : BlockHole fs → PlaceOr p fs
  in_key : {c : ℕ} → RoomOf p fs ≡ BehindKey c → PlaceOr p fs
  in_flow : RoomOf p fs ≡ Inside → PlaceOr p fs

place_or : (p : TreeProperties) (fs : List OpenFrame) → GoodProperties p → Holes fs → PlaceOr p fs
place_or NoProperties fs g h = absurd g
place_or (One k i) fs g at_root = in_block root_hole
place_or (One k i) fs g (at_entry q h) = in_block entry_hole
place_or (One k i) fs g (at_key {c = c} q h) = in_key {c = c} refl
place_or (One k i) fs g (at_asked q h) = in_block asked_hole
place_or (One k i) fs g (at_value q h) = in_block value_hole
place_or (One k i) fs g (at_item h) = in_flow refl
place_or (One k i) fs g (at_curly h) = in_flow refl
place_or (One k i) fs g (curly_key h) = in_flow refl
place_or (One k i) fs g (curly_asked h) = in_flow refl
place_or (One k i) fs g (curly_value h) = in_flow refl
place_or (One k i) fs g (made_key h) = in_flow refl
place_or (One k i) fs g (made_value h) = in_flow refl
place_or (One k i) fs g (pair_asked h) = in_flow refl
place_or (One k i) fs g (pair_value h) = in_flow refl
place_or (Two k i m j) fs g at_root = in_block root_hole
place_or (Two k i m j) fs g (at_entry q h) = in_block entry_hole
place_or (Two k i m j) fs g (at_key {c = c} q h) = in_key {c = c} refl
place_or (Two k i m j) fs g (at_asked q h) = in_block asked_hole
place_or (Two k i m j) fs g (at_value q h) = in_block value_hole
place_or (Two k i m j) fs g (at_item h) = in_flow refl
place_or (Two k i m j) fs g (at_curly h) = in_flow refl
place_or (Two k i m j) fs g (curly_key h) = in_flow refl
place_or (Two k i m j) fs g (curly_asked h) = in_flow refl
place_or (Two k i m j) fs g (curly_value h) = in_flow refl
place_or (Two k i m j) fs g (made_key h) = in_flow refl
place_or (Two k i m j) fs g (made_value h) = in_flow refl
place_or (Two k i m j) fs g (pair_asked h) = in_flow refl
place_or (Two k i m j) fs g (pair_value h) = in_flow refl

-- ---- a lexeme that begins no simple key

plain_is :
    (fs : List OpenFrame) (p : TreeProperties) (m : PartKind) (i : At) → i.begins_key ≡ false →
    part_fits (RoomOf p fs) i ≡ true → want_frames fs p (Part m) i ≡ part_frames (stop_kind fs) fs p m i
plain_is fs p m i e f =
    ap₂
    (λ a b.
    choose a (begin_pair_frames (stop_kind fs) fs p (Part m) i)
    (if_gives b (stop_kind fs) (part_frames (stop_kind fs) fs p m i)))
    (ap (λ b. b && indicates (RoomOf p fs) i) e) f

abbrev BehindView : Bool → lexemes.LexemeKind → Option KeyStart → Arrival → TreeProperties → List OpenFrame → Type 0
BehindView b k key a p fs =
    LimitView a.options (arriving b k key a) (beside_at a) (NodeOf b k key a p fs)
    (want_frames fs p (terminal_kind k key) (arriving b k key a).at)

plain_behind :
    (m : PartKind) (k : lexemes.LexemeKind) (a : Arrival) (p : TreeProperties) (fs : List OpenFrame)
    (n : Result ParserState Fault) → (part_fits (RoomOf p fs) (arriving false k None a).at && joins p m) ≡ true →
    LimitView a.options (arriving false k None a) (beside_at a) n
    (part_frames (stop_kind fs) fs p m (arriving false k None a).at) →
    LimitView a.options (arriving false k None a) (beside_at a) n
    (want_frames fs p (Part m) (arriving false k None a).at)
plain_behind m k a p fs n c v =
    subst (LimitView a.options (arriving false k None a) (beside_at a) n)
    (sym (plain_is fs p m (arriving false k None a).at refl (and_parts _ _ c).0)) v

-- ---- one that begins something outside flow

keyed_right :
    (b ind fits j r : Bool) → b ≡ true → ind ≡ r → fits ≡ (not b && r) → ((b && ind) || (fits && j)) ≡ true → r ≡ true
keyed_right true ind fits j true e f g h = refl
keyed_right true true fits j false e f g h = cc (f)
keyed_right true false true j false e f g h = cc (g)
keyed_right true false false j false e f g h = cc (h)
keyed_right false ind fits j r e f g h = cc (e)

key_right :
    (fs : List OpenFrame) (p : TreeProperties) (m : PartKind) (i : At) → BlockHole fs → i.begins_key ≡ true →
    continues_node (RoomOf p fs) p (Part m) i ≡ true → nat_lt (hole_column fs) (edge i) ≡ true
key_right fs p m i q e c =
    keyed_right i.begins_key (indicates (RoomOf p fs) i) (part_fits (RoomOf p fs) i) (joins p m)
    (nat_lt (hole_column fs) (edge i)) e (indicates_is p fs i q) (part_fits_is p fs i q) c

-- the test holds
tested_true :
    (b : Bool) (k : lexemes.LexemeKind) (key : Option KeyStart) (a : Arrival) (p : TreeProperties)
    (fs : List OpenFrame) (r : Bool) → r ≡ true →
    LimitView a.options (arriving b k key a) (beside_at a)
    (Tested r (NodeOf b k key a p fs) (stop_kind fs) (arriving b k key a))
    (want_frames fs p (terminal_kind k key) (arriving b k key a).at) →
    BehindView b k key a p fs
tested_true b k key a p fs r e v =
    subst
    (λ r.
    LimitView a.options (arriving b k key a) (beside_at a)
    (Tested r (NodeOf b k key a p fs) (stop_kind fs) (arriving b k key a))
    (want_frames fs p (terminal_kind k key) (arriving b k key a).at))
    e v

no_room : false ≡ true → ⊥
no_room e = cc (e)

no_key : true ≡ false → ⊥
no_key e = cc (e)

joined_question : (p : TreeProperties) (b : Bool) → Joined p b Question
joined_question p true = tt
joined_question p false = tt

joined_colon : (p : TreeProperties) (b : Bool) → Joined p b (Colon None)
joined_colon p true = tt
joined_colon p false = tt

behind_given :
    (b : Bool) (k : lexemes.LexemeKind) (key : Option KeyStart) (a : Arrival) (p : TreeProperties)
    (fs : List OpenFrame) → GoodProperties p → Holes fs →
    PlaceOr p fs → nat_le (blocks_open fs) a.options.block_nesting_limit ≡ true →
    continues_node (RoomOf p fs) p (terminal_kind k key) (arriving b k key a).at ≡ true →
    FairBehind (RoomOf p fs) (arriving b k key a) → BehindView b k key a p fs
behind_given b (lexemes.Directive directive) key a p fs g h r e c f = cc (c)
behind_given b lexemes.DocumentStart key a p fs g h r e c f = cc (c)
behind_given b lexemes.DocumentEnd key a p fs g h r e c f = cc (c)
behind_given b lexemes.StreamEnd key a p fs g h r e c f = cc (c)
behind_given b lexemes.Comma key a p fs g h r e c f = cc (c)
behind_given b (lexemes.Close bracket) key a p fs g h r e c f = cc (c)
behind_given b lexemes.Colon (Some n) a p fs g h r e c f = cc (c)
behind_given b lexemes.Colon None a p fs g h (in_block q) e c f =
    tested_true b lexemes.Colon None a p fs (RightOfHole a.lexeme fs)
    (sym (indicates_is p fs (arriving b lexemes.Colon None a).at q) ∙ c)
    (node_or b lexemes.Colon None a p fs h q e (joined_colon p b) refl refl)
behind_given b lexemes.Colon None a p fs g h (in_key w) e c f =
    absurd (no_room (ap (λ r. indicates r (arriving b lexemes.Colon None a).at) (sym w) ∙ c))
behind_given b lexemes.Colon None a p fs g h (in_flow w) e c f =
    absurd (no_room (ap (λ r. indicates r (arriving b lexemes.Colon None a).at) (sym w) ∙ c))
behind_given b lexemes.Question key a p fs g h (in_block q) e c f =
    tested_true b lexemes.Question key a p fs (RightOfHole a.lexeme fs)
    (sym (indicates_is p fs (arriving b lexemes.Question key a).at q) ∙ c)
    (node_or b lexemes.Question key a p fs h q e (joined_question p b) refl refl)
behind_given b lexemes.Question key a p fs g h (in_key w) e c f =
    absurd (no_room (ap (λ r. indicates r (arriving b lexemes.Question key a).at) (sym w) ∙ c))
behind_given b lexemes.Question key a p fs g h (in_flow w) e c f =
    absurd (no_room (ap (λ r. indicates r (arriving b lexemes.Question key a).at) (sym w) ∙ c))
behind_given b lexemes.Dash key a p fs g h (in_block q) e c f =
    tested_true b lexemes.Dash key a p fs
    (loose_fits (RoomOf p fs) (suc a.lexeme.start.place.column) || RightOfHole a.lexeme fs)
    (ap (λ r. loose_fits (RoomOf p fs) (suc a.lexeme.start.place.column) || r)
    (sym (right_is p fs (suc a.lexeme.start.place.column) q))
    ∙ c)
    (dash_tested b key a p fs h q)
behind_given b lexemes.Dash key a p fs g h (in_key w) e c f =
    absurd
    (no_room
    (ap (λ r. loose_fits r (suc a.lexeme.start.place.column) || right_fits r (suc a.lexeme.start.place.column)) (sym w)
    ∙ c))
behind_given b lexemes.Dash key a p fs g h (in_flow w) e c f =
    absurd
    (no_room
    (ap (λ r. loose_fits r (suc a.lexeme.start.place.column) || right_fits r (suc a.lexeme.start.place.column)) (sym w)
    ∙ c))
behind_given false (lexemes.Scalar style text) key a p fs g h r e c f =
    plain_behind (Scalar style text) (lexemes.Scalar style text) a p fs
    (NodeOf false (lexemes.Scalar style text) key a p fs) c
    (part_limited false (Scalar style text) (lexemes.Scalar style text) a p fs (stop_kind fs) h e
    (scalar_parts false style text a p fs (stop_kind fs) h))
behind_given false (lexemes.Open Square) key a p fs g h r e c f =
    plain_behind (Open Square) (lexemes.Open Square) a p fs
    (NodeOf false (lexemes.Open Square) key a p fs) c
    (part_limited false (Open Square) (lexemes.Open Square) a p fs (stop_kind fs) h e
    (square_parts false a p fs (stop_kind fs) h))
behind_given false (lexemes.Open Curly) key a p fs g h r e c f =
    plain_behind (Open Curly) (lexemes.Open Curly) a p fs
    (NodeOf false (lexemes.Open Curly) key a p fs) c
    (part_limited false (Open Curly) (lexemes.Open Curly) a p fs (stop_kind fs) h e
    (curly_parts false a p fs (stop_kind fs) h))
behind_given false (lexemes.Anchor name) key a p fs g h r e c f =
    plain_behind (Property (Anchor name)) (lexemes.Anchor name) a p fs
    (NodeOf false (lexemes.Anchor name) key a p fs) c
    (part_limited false (Property (Anchor name)) (lexemes.Anchor name) a p fs (stop_kind fs) h e
    (anchor_parts false name a p fs (stop_kind fs) h (and_parts _ _ c).1))
behind_given false (lexemes.Tag handle suffix) key a p fs g h r e c f =
    plain_behind (Property (Tag handle suffix)) (lexemes.Tag handle suffix) a p fs
    (NodeOf false (lexemes.Tag handle suffix) key a p fs) c
    (part_limited false (Property (Tag handle suffix)) (lexemes.Tag handle suffix)
    a p fs (stop_kind fs) h e
    (tag_parts false handle suffix a p fs (stop_kind fs) h (and_parts _ _ c).1))
behind_given false (lexemes.Alias name) key a NoProperties fs g h r e c f = absurd g
behind_given false (lexemes.Alias name) key a (One k i) fs g h r e c f =
    absurd (no_room (and_parts _ _ c).1)
behind_given false (lexemes.Alias name) key a (Two k i m j) fs g h r e c f =
    absurd (no_room (and_parts _ _ c).1)
behind_given true (lexemes.Scalar style text) key a p fs g h (in_block q) e c f =
    tested_true true (lexemes.Scalar style text) key a p fs (RightOfHole a.lexeme fs)
    (key_right fs p (Scalar style text) (arriving true (lexemes.Scalar style text) key a).at q refl c)
    (node_or true (lexemes.Scalar style text) key a p fs h q e tt refl refl)
behind_given true (lexemes.Scalar style text) key a p fs g h (in_key w) e c f =
    absurd (no_key (subst (λ r. FairBehind r (arriving true (lexemes.Scalar style text) key a)) w f))
behind_given true (lexemes.Scalar style text) key a p fs g h (in_flow w) e c f =
    absurd (no_key (subst (λ r. FairBehind r (arriving true (lexemes.Scalar style text) key a)) w f).0)
behind_given true (lexemes.Open Square) key a p fs g h (in_block q) e c f =
    tested_true true (lexemes.Open Square) key a p fs (RightOfHole a.lexeme fs)
    (key_right fs p (Open Square) (arriving true (lexemes.Open Square) key a).at q refl c)
    (node_or true (lexemes.Open Square) key a p fs h q e tt refl refl)
behind_given true (lexemes.Open Square) key a p fs g h (in_key w) e c f =
    absurd (no_key (subst (λ r. FairBehind r (arriving true (lexemes.Open Square) key a)) w f))
behind_given true (lexemes.Open Square) key a p fs g h (in_flow w) e c f =
    absurd (no_key (subst (λ r. FairBehind r (arriving true (lexemes.Open Square) key a)) w f).0)
behind_given true (lexemes.Open Curly) key a p fs g h (in_block q) e c f =
    tested_true true (lexemes.Open Curly) key a p fs (RightOfHole a.lexeme fs)
    (key_right fs p (Open Curly) (arriving true (lexemes.Open Curly) key a).at q refl c)
    (node_or true (lexemes.Open Curly) key a p fs h q e tt refl refl)
behind_given true (lexemes.Open Curly) key a p fs g h (in_key w) e c f =
    absurd (no_key (subst (λ r. FairBehind r (arriving true (lexemes.Open Curly) key a)) w f))
behind_given true (lexemes.Open Curly) key a p fs g h (in_flow w) e c f =
    absurd (no_key (subst (λ r. FairBehind r (arriving true (lexemes.Open Curly) key a)) w f).0)
behind_given true (lexemes.Anchor name) key a p fs g h (in_block q) e c f =
    tested_true true (lexemes.Anchor name) key a p fs (RightOfHole a.lexeme fs)
    (key_right fs p (Property (Anchor name)) (arriving true (lexemes.Anchor name) key a).at q refl c)
    (node_or true (lexemes.Anchor name) key a p fs h q e tt refl refl)
behind_given true (lexemes.Anchor name) key a p fs g h (in_key w) e c f =
    absurd (no_key (subst (λ r. FairBehind r (arriving true (lexemes.Anchor name) key a)) w f))
behind_given true (lexemes.Anchor name) key a p fs g h (in_flow w) e c f =
    absurd (no_key (subst (λ r. FairBehind r (arriving true (lexemes.Anchor name) key a)) w f).0)
behind_given true (lexemes.Tag handle suffix) key a p fs g h (in_block q) e c f =
    tested_true true (lexemes.Tag handle suffix) key a p fs (RightOfHole a.lexeme fs)
    (key_right fs p (Property (Tag handle suffix)) (arriving true (lexemes.Tag handle suffix) key a).at q refl c)
    (node_or true (lexemes.Tag handle suffix) key a p fs h q e tt refl refl)
behind_given true (lexemes.Tag handle suffix) key a p fs g h (in_key w) e c f =
    absurd (no_key (subst (λ r. FairBehind r (arriving true (lexemes.Tag handle suffix) key a)) w f))
behind_given true (lexemes.Tag handle suffix) key a p fs g h (in_flow w) e c f =
    absurd (no_key (subst (λ r. FairBehind r (arriving true (lexemes.Tag handle suffix) key a)) w f).0)
behind_given true (lexemes.Alias name) key a p fs g h (in_block q) e c f =
    tested_true true (lexemes.Alias name) key a p fs (RightOfHole a.lexeme fs)
    (key_right fs p (Alias name) (arriving true (lexemes.Alias name) key a).at q refl c)
    (node_or true (lexemes.Alias name) key a p fs h q e tt refl refl)
behind_given true (lexemes.Alias name) key a p fs g h (in_key w) e c f =
    absurd (no_key (subst (λ r. FairBehind r (arriving true (lexemes.Alias name) key a)) w f))
behind_given true (lexemes.Alias name) key a p fs g h (in_flow w) e c f =
    absurd (no_key (subst (λ r. FairBehind r (arriving true (lexemes.Alias name) key a)) w f).0)

-- ---- the steps

continuing :
    (e : Bool) (st : EventState) (y : Ending) (x : Terminal) → not e ≡ false →
    taken (choose e (ending st []) y) x ≡ take_frames st x.kind x.at
continuing true st y x h = after_nothing (take_frames st x.kind x.at)
continuing false st y x h = cc (h)

pub behind_properties_steps :
    (b : Bool) (k : lexemes.LexemeKind) (key : Option KeyStart) (a : Arrival) (p : TreeProperties)
    (fs : List OpenFrame) → GoodProperties p → Holes fs →
    FairAt (arriving b k key a) (InFrames (PropertiesFrame p ∷ fs)) →
    frame_ends_at (arriving b k key a) (InFrames (PropertiesFrame p ∷ fs)) ≡ false →
    nat_le (blocks_open fs) a.options.block_nesting_limit ≡ true →
    StepsLimited b k key a (PropertiesFrame p ∷ fs)
behind_properties_steps b k key a NoProperties fs g h f n e = absurd g
behind_properties_steps b k key a (One r i) fs g h f n e =
    subst
    (LimitView a.options (arriving b k key a) (beside_at a)
    (take_token a.options (arriving_token b k key a) (parser_at (PropertiesFrame (One r i) ∷ fs) a)))
    (sym
    (continuing
    (continues_node (behind_property (frames_room fs)) (One r i) (terminal_kind k key) (arriving b k key a).at)
    (InFrames (PropertiesFrame (One r i) ∷ fs))
    (with_event (alone_event (One r i) (frames_indent fs))
    (finish_frames (arriving b k key a) (properties_end (One r i)) fs))
    (arriving b k key a) n))
    (behind_given b k key a (One r i) fs g h (place_or (One r i) fs g h) e (not-false _ n) f.1)
behind_properties_steps b k key a (Two r i m j) fs g h f n e =
    subst
    (LimitView a.options (arriving b k key a) (beside_at a)
    (take_token a.options (arriving_token b k key a) (parser_at (PropertiesFrame (Two r i m j) ∷ fs) a)))
    (sym
    (continuing
    (continues_node (behind_property (frames_room fs)) (Two r i m j) (terminal_kind k key) (arriving b k key a).at)
    (InFrames (PropertiesFrame (Two r i m j) ∷ fs))
    (with_event (alone_event (Two r i m j) (frames_indent fs))
    (finish_frames (arriving b k key a) (properties_end (Two r i m j)) fs))
    (arriving b k key a) n))
    (behind_given b k key a (Two r i m j) fs g h (place_or (Two r i m j) fs g h) e (not-false _ n) f.1)

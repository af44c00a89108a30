-- Each lexeme in order leads the grammar's machine to a state that suits what stands behind it, so whole lists are
-- fair.
use Rattle.std.proofs.Common.{◌≡◌, ℕ, ◌==◌, ◌&&◌, ◌||◌, Bool, true, false, List, [], ◌∷◌, Option, Some, None, ◌⊎◌, inl}
use Rattle.std.proofs.Common.{inr, refl, sym, ap, ◌∙◌, subst, arith}
use Rattle.std.proofs.lemmas.Bool.{and_parts}
use Rattle.std.proofs.lemmas.Bool.Decides.{nat_tests}
use Rattle.granit_base.specs.Place.{Mark}
use Rattle.granit_views.specs.Running.{FairNext, FairRun}
use Rattle.granit_views.specs.Stepping.{taken}
use Rattle.granit_language.specs.Seen.{Flagged, terminal_of}
use Rattle.granit_event_machine.specs.EventMachine.{Key, Asking, AskDone, Done, Value, OpenFrame, DocumentFrame}
use Rattle.granit_event_machine.specs.EventMachine.{PropertiesFrame, SequenceFrame, MappingFrame, FlowSequenceFrame}
use Rattle.granit_event_machine.specs.EventMachine.{FlowMappingFrame, EventState, IsFresh, InFrames, IsEnded}
use Rattle.granit_event_machine.specs.EventMachine.{FlowPairFrame}
use Rattle.granit_event_machine.specs.EventMachine.{Ending, ending, with_event, past_sequence, past_mapping, past_asked}
use Rattle.granit_event_machine.specs.EventMachine.{past_curly, past_curly_asked, past_made, past_square_asked}
use Rattle.granit_event_machine.specs.EventMachine.{frames_room}
use Rattle.granit_event_machine.specs.EventMachine.{frames_indent, nothing_event, site_opens, stop_kind, Opened}
use Rattle.granit_event_machine.specs.EventMachine.{finish_frames, nothing_frames, frames_empty, nothing_end}
use Rattle.granit_event_machine.specs.EventMachine.{close_frames}
use Rattle.granit_event_machine.specs.EventMachine.{ended_by, EventStep, GoesTo, StopsWith, after_events, if_gives}
use Rattle.granit_event_machine.specs.EventMachine.{part_frames, BlockSite, FlowSite, entry_frames, begin_pair_frames}
use Rattle.granit_event_machine.specs.EventMachine.{want_frames, take_frames}
use Rattle.granit_language.specs.Choice.{choose}
use Rattle.granit_language.specs.GrammarFault.{GrammarFault, ExpectedBlockMappingKey, ExpectedBlockSequenceEntry}
use Rattle.granit_language.specs.Node.{TreeProperties, NoProperties, One, Two}
use Rattle.granit_language.specs.Room.{BlockIn, FlowIn, BehindKey, ItemIn, Inside, behind_property, differ}
use Rattle.granit_language.specs.Room.{continues_node, sequence_over, ask_over, right_fits, loose_fits, part_fits}
use Rattle.granit_language.specs.Room.{opens, room_behind, indicates}
use Rattle.granit_language.specs.Scope.{Scope, no_scope}
use Rattle.granit_language.specs.Scoping.{next_scope}
use Rattle.granit_language.specs.Terminal.{PartKind, Alias, Property, Scalar, Open, TerminalKind, Directive}
use Rattle.granit_language.specs.Terminal.{DocumentStart, DocumentEnd, TheEnd, Dash, Question, Comma, Colon, Close}
use Rattle.granit_language.specs.Terminal.{Part, At, Terminal, terminal, edge, entry_in, stands_left, is_comma_kind}
use Rattle.granit_language.specs.Terminal.{closes_kind, text_start}
use Rattle.granit_language.specs.TreeEvents.{SequenceEnds, MappingEnds, TreeEvent, pointed, null, properties_end}
use Rattle.granit_language.specs.TreeEvents.{alone_event, mapping_start, sequence_start, bare_document_start}
use Rattle.granit_lexemes.specs.declared.layout.Bracket.{Bracket}
use Rattle.granit_lexemes.specs.declared.layout.Bracket.TheVariants.{Square, Curly}
use Rattle.granit_order.specs.Order.{open_behind, due_if, due_behind, may_follow, InOrder, EndsThere, OrderedFrom}
use Rattle.granit_order.specs.Order.{BracketsFrom, KeysFrom}
use Rattle.granit_order.proofs.Enclosing.{Blocks, block_root, block_entry, block_asked, block_value, Encloses}
use Rattle.granit_order.proofs.Enclosing.{in_blocks, in_key, in_item, in_curly, in_curly_key, in_curly_asked}
use Rattle.granit_order.proofs.Enclosing.{in_curly_value, in_made_key, in_made_value, in_pair_asked, in_pair_value}
use Rattle.granit_order.proofs.Enclosing.{Suits, suits_fresh, suits_directed, suits_rooted, suits_blocks, suits_item}
use Rattle.granit_order.proofs.Enclosing.{suits_curly, suits_curly_asked, suits_curly_value, suits_made_value}
use Rattle.granit_order.proofs.Enclosing.{suits_pair_asked, suits_pair_value, suits_one, suits_two, suits_past_entry}
use Rattle.granit_order.proofs.Enclosing.{suits_key_done, suits_ask_done, suits_done, suits_item_done}
use Rattle.granit_order.proofs.Enclosing.{suits_curly_key_done, suits_curly_ask_done, suits_curly_solo}
use Rattle.granit_order.proofs.Enclosing.{suits_curly_done, suits_made_key_done, suits_made_done}
use Rattle.granit_order.proofs.Enclosing.{suits_square_ask_done, suits_square_done, put_suits, suits_fair}

-- ---- closing

abbrev pub EndSuits : List Bracket → Option ℕ → Bool → Ending → Type 0
EndSuits bs due may (ending st es) = Suits bs due may st

event_suits : (bs : List Bracket) (due : Option ℕ) (may : Bool) (e : TreeEvent) (y : Ending) → EndSuits bs due may y
    → EndSuits bs due may (with_event e y)
event_suits bs due may e (ending st es) p = p

either_suits : (bs : List Bracket) (due : Option ℕ) (may : Bool) (b : Bool) (y z : Ending) → EndSuits bs due may y
    → EndSuits bs due may z → EndSuits bs due may (choose b y z)
either_suits bs due may true y z p q = p
either_suits bs due may false y z p q = q

module _ (x : Terminal) (bs : List Bracket) (due : Option ℕ) (may : Bool) where
  abbrev To : Ending → Type 0
  To y = EndSuits bs due may y

  sequence_to : (loose : Bool) (c : ℕ) (fs : List OpenFrame) (on : Ending) → To on
      → Suits bs due may (InFrames (SequenceFrame loose c None ∷ fs)) → To (past_sequence x loose c fs on)
  sequence_to loose c fs on p q = either_suits bs due may (sequence_over loose c x)
      (with_event (pointed SequenceEnds x.at.start) on) (ending (InFrames (SequenceFrame loose c None ∷ fs)) [])
      (event_suits bs due may (pointed SequenceEnds x.at.start) on p) q

  mapping_to : (c : ℕ) (fs : List OpenFrame) (on : Ending) → To on
      → Suits bs due may (InFrames (MappingFrame c Done ∷ fs)) → To (past_mapping x c fs on)
  mapping_to c fs on p q = either_suits bs due may (stands_left x c) (with_event (pointed MappingEnds x.at.start) on)
      (ending (InFrames (MappingFrame c Done ∷ fs)) []) (event_suits bs due may (pointed MappingEnds x.at.start) on p) q

  asked_to : (c : ℕ) (fs : List OpenFrame) (on : Ending) → To on
      → Suits bs due may (InFrames (MappingFrame c Done ∷ fs))
      → Suits bs due may (InFrames (MappingFrame c AskDone ∷ fs)) → To (past_asked x c fs on)
  asked_to c fs on p q r = either_suits bs due may (ask_over (BlockIn c) x)
      (with_event (null x.at.start None) (past_mapping x c fs on)) (ending (InFrames (MappingFrame c AskDone ∷ fs)) [])
      (event_suits bs due may (null x.at.start None) (past_mapping x c fs on) (mapping_to c fs on p q)) r

  curly_asked_to : (fs : List OpenFrame) → Suits bs due may (InFrames (FlowMappingFrame false Done ∷ fs))
      → Suits bs due may (InFrames (FlowMappingFrame false AskDone ∷ fs)) → To (past_curly_asked x fs)
  curly_asked_to fs q r = either_suits bs due may (ask_over (FlowIn Curly) x)
      (with_event (null x.at.start None) (past_curly fs)) (ending (InFrames (FlowMappingFrame false AskDone ∷ fs)) []) q
      r

  made_to : (fs : List OpenFrame) (on : Ending) → To on → Suits bs due may (InFrames (FlowMappingFrame true Done ∷ fs))
      → To (past_made x fs on)
  made_to fs on p q = either_suits bs due may (is_comma_kind x.kind || closes_kind Square x.kind)
      (with_event (pointed MappingEnds x.at.start) on) (ending (InFrames (FlowMappingFrame true Done ∷ fs)) [])
      (event_suits bs due may (pointed MappingEnds x.at.start) on p) q

  square_asked_to : (fs : List OpenFrame) (on : Ending) → To on
      → Suits bs due may (InFrames (FlowPairFrame AskDone ∷ fs)) → To (past_square_asked x fs on)
  square_asked_to fs on p q =
      either_suits bs due may (ask_over (FlowIn Square) x)
      (with_event (null x.at.start None) (with_event (pointed MappingEnds x.at.start) on))
      (ending (InFrames (FlowPairFrame AskDone ∷ fs)) [])
      (event_suits bs due may (null x.at.start None) (with_event (pointed MappingEnds x.at.start) on)
      (event_suits bs due may (pointed MappingEnds x.at.start) on p)) q

  -- where a node may stand, or nothing does
  hole_to : (fs : List OpenFrame) → To (finish_frames x (nothing_end fs) fs) → Suits bs due may (InFrames fs)
      → To (choose (frames_empty fs x) (nothing_frames x fs) (ending (InFrames fs) []))
  hole_to fs p q = either_suits bs due may (frames_empty fs x) (nothing_frames x fs) (ending (InFrames fs) [])
      (event_suits bs due may (nothing_event x fs) (finish_frames x (nothing_end fs) fs) p) q

blocks_end : (x : Terminal) (e : Mark) (due : Option ℕ) (may : Bool) (fs : List OpenFrame) → Blocks fs
    → EndSuits [] due may (finish_frames x e fs)
blocks_end x e due may fs block_root = suits_rooted
blocks_end x e due may fs (block_entry {loose = loose} {c = c} {fs = gs} b) = sequence_to x [] due may loose c gs
    (finish_frames x x.at.start gs) (blocks_end x x.at.start due may gs b) (suits_past_entry b)
blocks_end x e due may fs (block_asked {c = c} {fs = gs} b) = asked_to x [] due may c gs (finish_frames x x.at.start gs)
    (blocks_end x x.at.start due may gs b) (suits_done b) (suits_ask_done b)
blocks_end x e due may fs (block_value {c = c} {fs = gs} b) = mapping_to x [] due may c gs
    (finish_frames x x.at.start gs) (blocks_end x x.at.start due may gs b) (suits_done b)

finish_suits : (x : Terminal) (e : Mark) (bs : List Bracket) (due : Option ℕ) (may : Bool) (fs : List OpenFrame)
    → Encloses bs due fs → EndSuits bs due may (finish_frames x e fs)
finish_suits x e bs due may fs (in_blocks b) = blocks_end x e due may fs b
finish_suits x e bs due may fs (in_key b) = suits_key_done b
finish_suits x e bs due may fs (in_item p) = suits_item_done p
finish_suits x e bs due may fs (in_curly p) = suits_curly_solo p
finish_suits x e bs due may fs (in_curly_key p) = suits_curly_key_done p
finish_suits x e bs due may fs (in_curly_asked {fs = gs} p) = curly_asked_to x bs due may gs (suits_curly_done p)
    (suits_curly_ask_done p)
finish_suits x e bs due may fs (in_curly_value p) = suits_curly_done p
finish_suits x e bs due may fs (in_made_key p) = suits_made_key_done p
finish_suits x e bs due may fs (in_made_value {fs = gs} p) = made_to x bs due may (FlowSequenceFrame false ∷ gs)
    (ending (InFrames (FlowSequenceFrame true ∷ gs)) []) (suits_item_done p) (suits_made_done p)
finish_suits x e bs due may fs (in_pair_asked {fs = gs} p) = square_asked_to x bs due may (FlowSequenceFrame false ∷ gs)
    (ending (InFrames (FlowSequenceFrame true ∷ gs)) []) (suits_item_done p) (suits_square_ask_done p)
finish_suits x e bs due may fs (in_pair_value p) = suits_item_done p

-- behind properties
properties_to : (x : Terminal) (bs : List Bracket) (due : Option ℕ) (may : Bool) (p : TreeProperties)
    (fs : List OpenFrame) → Encloses bs due fs → Suits bs due may (InFrames (PropertiesFrame p ∷ fs))
    → EndSuits bs due may (close_frames x (PropertiesFrame p ∷ fs))
properties_to x bs due may p fs e q =
    either_suits bs due may (continues_node (behind_property (frames_room fs)) p x.kind x.at)
    (ending (InFrames (PropertiesFrame p ∷ fs)) [])
    (with_event (alone_event p (frames_indent fs)) (finish_frames x (properties_end p) fs)) q
    (event_suits bs due may (alone_event p (frames_indent fs)) (finish_frames x (properties_end p) fs)
    (finish_suits x (properties_end p) bs due may fs e))

module _ (x : Terminal) where
  pub closed_suits : (bs : List Bracket) (due : Option ℕ) (may : Bool) (st : EventState) → Suits bs due may st
      → EndSuits bs due may (ended_by x st)
  closed_suits bs due may st suits_fresh = suits_fresh
  closed_suits bs due may st suits_directed = suits_directed
  closed_suits bs due may st suits_rooted = suits_rooted
  closed_suits bs due may st (suits_blocks {fs = fs} block_root) = hole_to x bs due may fs
      (blocks_end x (nothing_end fs) due may fs block_root) (suits_blocks block_root)
  closed_suits bs due may st (suits_blocks {fs = fs} (block_entry b)) = hole_to x bs due may fs
      (blocks_end x (nothing_end fs) due may fs (block_entry b)) (suits_blocks (block_entry b))
  closed_suits bs due may st (suits_blocks {fs = fs} (block_asked b)) = hole_to x bs due may fs
      (blocks_end x (nothing_end fs) due may fs (block_asked b)) (suits_blocks (block_asked b))
  closed_suits bs due may st (suits_blocks {fs = fs} (block_value b)) = hole_to x bs due may fs
      (blocks_end x (nothing_end fs) due may fs (block_value b)) (suits_blocks (block_value b))
  closed_suits bs due may st (suits_item p) = suits_item p
  closed_suits bs due may st (suits_curly p) = suits_curly p
  closed_suits bs due may st (suits_curly_asked {fs = gs} p) = hole_to x bs due may (FlowMappingFrame false Asking ∷ gs)
      (finish_suits x text_start bs due may (FlowMappingFrame false Asking ∷ gs) (in_curly_asked p))
      (suits_curly_asked p)
  closed_suits bs due may st (suits_curly_value {w = w} {fs = gs} p) = hole_to x bs due may
      (FlowMappingFrame false (Value w) ∷ gs) (suits_curly_done p) (suits_curly_value p)
  closed_suits bs due may st (suits_made_value {w = w} {fs = gs} p) =
      hole_to x bs due may (FlowMappingFrame true (Value w) ∷ FlowSequenceFrame false ∷ gs)
      (finish_suits x text_start bs due may (FlowMappingFrame true (Value w) ∷ FlowSequenceFrame false ∷ gs)
      (in_made_value p)) (suits_made_value p)
  closed_suits bs due may st (suits_pair_asked {fs = gs} p) = hole_to x bs due may
      (FlowPairFrame Asking ∷ FlowSequenceFrame false ∷ gs)
      (finish_suits x text_start bs due may (FlowPairFrame Asking ∷ FlowSequenceFrame false ∷ gs) (in_pair_asked p))
      (suits_pair_asked p)
  closed_suits bs due may st (suits_pair_value {w = w} {fs = gs} p) = hole_to x bs due may
      (FlowPairFrame (Value w) ∷ FlowSequenceFrame false ∷ gs) (suits_item_done p) (suits_pair_value p)
  closed_suits bs due may st (suits_one {k = k} {i = i} {fs = fs} off p) = properties_to x bs due may (One k i) fs p
      (suits_one off p)
  closed_suits bs due may st (suits_two {k = k} {m = m} {i = i} {j = j} {fs = fs} off p) = properties_to x bs due may
      (Two k i m j) fs p (suits_two off p)
  closed_suits bs due may st (suits_past_entry {loose = loose} {c = c} {fs = gs} b) = sequence_to x bs due may loose c
      gs (finish_frames x x.at.start gs) (blocks_end x x.at.start due may gs b) (suits_past_entry b)
  closed_suits bs due may st (suits_key_done b) = suits_key_done b
  closed_suits bs due may st (suits_ask_done {c = c} {fs = gs} b) = asked_to x bs due may c gs
      (finish_frames x x.at.start gs) (blocks_end x x.at.start due may gs b) (suits_done b) (suits_ask_done b)
  closed_suits bs due may st (suits_done {c = c} {fs = gs} b) = mapping_to x bs due may c gs
      (finish_frames x x.at.start gs) (blocks_end x x.at.start due may gs b) (suits_done b)
  closed_suits bs due may st (suits_item_done p) = suits_item_done p
  closed_suits bs due may st (suits_curly_key_done p) = suits_curly_key_done p
  closed_suits bs due may st (suits_curly_ask_done {fs = gs} p) = curly_asked_to x bs due may gs (suits_curly_done p)
      (suits_curly_ask_done p)
  closed_suits bs due may st (suits_curly_solo p) = suits_curly_solo p
  closed_suits bs due may st (suits_curly_done p) = suits_curly_done p
  closed_suits bs due may st (suits_made_key_done p) = suits_made_key_done p
  closed_suits bs due may st (suits_made_done {fs = gs} p) = made_to x bs due may (FlowSequenceFrame false ∷ gs)
      (ending (InFrames (FlowSequenceFrame true ∷ gs)) []) (suits_item_done p) (suits_made_done p)
  closed_suits bs due may st (suits_square_ask_done {fs = gs} p) = square_asked_to x bs due may
      (FlowSequenceFrame false ∷ gs) (ending (InFrames (FlowSequenceFrame true ∷ gs)) []) (suits_item_done p)
      (suits_square_ask_done p)
  closed_suits bs due may st (suits_square_done p) = suits_item_done p

-- ---- taking

-- behind a lexeme, or the end
abbrev pub On : List Bracket → Option ℕ → TerminalKind → At → EventState → Type 0
On bs due kind i st = Suits (open_behind kind bs) (due_behind bs kind i due) (may_follow kind) st
    ⊎ ((st ≡ IsEnded) × (kind ≡ TheEnd))

pub after_next : (P : EventState → Type 0) (es : List TreeEvent) (y : EventStep) → FairNext y P
    → FairNext (after_events es y) P
after_next P es (GoesTo st more) p = p
after_next P es (StopsWith k) p = p

pub if_next : (P : EventState → Type 0) (b : Bool) (k : GrammarFault) (y : EventStep) → (b ≡ true → FairNext y P)
    → FairNext (if_gives b k y) P
if_next P true k y p = p refl
if_next P false k y p = tt

pub choose_next : (P : EventState → Type 0) (b : Bool) (y z : EventStep) → (b ≡ true → FairNext y P) → FairNext z P
    → FairNext (choose b y z) P
choose_next P true y z p q = p refl
choose_next P false y z p q = q

-- a key that begins here is none there
pub no_opening : {A : Type 0} (flag : Bool) → (flag && false) ≡ true → A
no_opening true e = absurd cc
no_opening false e = absurd cc

-- a lexeme of a node in frames that enclose it
abbrev pub IsSome : TreeProperties → Type 0
IsSome NoProperties = ⊥
IsSome p = Unit {0}

abbrev PartOn : List Bracket → Option ℕ → PartKind → EventState → Type 0
PartOn bs due k st = Suits (open_behind (Part k) bs) due (may_follow (Part k)) st ⊎ ((st ≡ IsEnded) × (Part k ≡ TheEnd))

module _ (stop : GrammarFault) (i : At) where
  part_next : {bs : List Bracket} {due : Option ℕ} {fs : List OpenFrame} (p : TreeProperties) (k : PartKind)
      → Encloses bs due fs → FairNext (part_frames stop fs p k i) (PartOn bs due k)
  part_next NoProperties (Alias name) e = inl (put_suits _ e)
  part_next NoProperties (Property k) e = inl (suits_one (λ f. refl) e)
  part_next NoProperties (Scalar style text) e = inl (put_suits _ e)
  part_next NoProperties (Open Square) e = inl (suits_item e)
  part_next NoProperties (Open Curly) e = inl (suits_curly e)
  part_next (One m j) (Alias name) e = tt
  part_next {bs = bs} {due = due} {fs = fs} (One m j) (Property k) e = if_next (PartOn bs due (Property k)) (differ m k)
      stop (GoesTo (InFrames (PropertiesFrame (Two m j k i) ∷ fs)) []) (λ d. inl (suits_two (λ f. refl) e))
  part_next (One m j) (Scalar style text) e = inl (put_suits _ e)
  part_next (One m j) (Open Square) e = inl (suits_item e)
  part_next (One m j) (Open Curly) e = inl (suits_curly e)
  part_next (Two m j n h) (Alias name) e = tt
  part_next (Two m j n h) (Property k) e = tt
  part_next (Two m j n h) (Scalar style text) e = inl (put_suits _ e)
  part_next (Two m j n h) (Open Square) e = inl (suits_item e)
  part_next (Two m j n h) (Open Curly) e = inl (suits_curly e)

  -- the key of an entry begins in its column
  abbrev KeyThere : TerminalKind → ℕ → Type 0
  KeyThere (Part k) c = (edge i ≡ c) × (i.begins_key ≡ true)
  KeyThere kind c = Unit {0}

  key_due : (c : ℕ) (due : Option ℕ) → edge i ≡ c → i.begins_key ≡ true → Some c ≡ due_if i.begins_key (edge i) due
  key_due c due e f = sym (ap (λ v. due_if v (edge i) due) f ∙ ap (λ n. Some n) e)

  entry_block : (due : Option ℕ) {fs : List OpenFrame} (kind : TerminalKind) (c : ℕ) → Blocks fs → KeyThere kind c
      → FairNext (entry_frames stop (BlockSite c fs) kind i) (On [] due kind i)
  entry_block due {fs = fs} (Part k) c b there = after_next (On [] due (Part k) i) []
      (part_frames stop (MappingFrame c Key ∷ fs) NoProperties k i)
      (part_next NoProperties k (subst (λ d. Encloses [] d (MappingFrame c Key ∷ fs)) (key_due c due there.0 there.1)
      (in_key b)))
  entry_block due Question c b there = inl (suits_blocks (block_asked b))
  entry_block due (Colon None) c b there = inl (suits_blocks (block_value b))
  entry_block due kind c b there = tt

  entry_square : {bs : List Bracket} {due : Option ℕ} {fs : List OpenFrame} (kind : TerminalKind) → Encloses bs due fs
      → FairNext (entry_frames stop (FlowSite Square fs) kind i) (On (Square ∷ bs) due kind i)
  entry_square {bs = bs} {due = due} {fs = fs} (Part k) p = after_next (On (Square ∷ bs) due (Part k) i)
      (site_opens (FlowSite Square fs) (Part k) i)
      (part_frames stop (FlowMappingFrame true Key ∷ FlowSequenceFrame false ∷ fs) NoProperties k i)
      (part_next NoProperties k (in_made_key p))
  entry_square Question p = inl (suits_pair_asked p)
  entry_square (Colon None) p = inl (suits_made_value p)
  entry_square kind p = tt

  entry_curly : {bs : List Bracket} {due : Option ℕ} {fs : List OpenFrame} (kind : TerminalKind) → Encloses bs due fs
      → FairNext (entry_frames stop (FlowSite Curly fs) kind i) (On (Curly ∷ bs) due kind i)
  entry_curly {bs = bs} {due = due} {fs = fs} (Part k) p = after_next (On (Curly ∷ bs) due (Part k) i) []
      (part_frames stop (FlowMappingFrame false Key ∷ fs) NoProperties k i) (part_next NoProperties k (in_curly_key p))
  entry_curly Question p = inl (suits_curly_asked p)
  entry_curly (Colon None) p = inl (suits_curly_value p)
  entry_curly kind p = tt

  pair_block : (due : Option ℕ) (fs : List OpenFrame) (p : TreeProperties) (kind : TerminalKind) → Blocks fs
      → KeyThere kind (edge i) → FairNext (begin_pair_frames stop fs p kind i) (On [] due kind i)
  pair_block due fs NoProperties kind block_root there = after_next (On [] due kind i)
      (mapping_start NoProperties (terminal kind i) (frames_indent fs) ∷ [])
      (entry_frames stop (BlockSite (edge i) fs) kind i) (entry_block due kind (edge i) block_root there)
  pair_block due fs NoProperties kind (block_entry b) there = after_next (On [] due kind i)
      (mapping_start NoProperties (terminal kind i) (frames_indent fs) ∷ [])
      (entry_frames stop (BlockSite (edge i) fs) kind i) (entry_block due kind (edge i) (block_entry b) there)
  pair_block due fs NoProperties kind (block_asked b) there = after_next (On [] due kind i)
      (mapping_start NoProperties (terminal kind i) (frames_indent fs) ∷ [])
      (entry_frames stop (BlockSite (edge i) fs) kind i) (entry_block due kind (edge i) (block_asked b) there)
  pair_block due fs NoProperties kind (block_value b) there = after_next (On [] due kind i)
      (mapping_start NoProperties (terminal kind i) (frames_indent fs) ∷ [])
      (entry_frames stop (BlockSite (edge i) fs) kind i) (entry_block due kind (edge i) (block_value b) there)
  pair_block due fs (One m j) kind b there = after_next (On [] due kind i)
      (mapping_start (One m j) (terminal kind i) (frames_indent fs) ∷ [])
      (entry_frames stop (BlockSite (edge i) fs) kind i) (entry_block due kind (edge i) b there)
  pair_block due fs (Two m j n h) kind b there = after_next (On [] due kind i)
      (mapping_start (Two m j n h) (terminal kind i) (frames_indent fs) ∷ [])
      (entry_frames stop (BlockSite (edge i) fs) kind i) (entry_block due kind (edge i) b there)

  -- a lexeme of a node that begins no key
  enclosed_on : {bs : List Bracket} {due : Option ℕ} {may : Bool} {fs : List OpenFrame} (k : PartKind)
      → InOrder bs due may (terminal (Part k) i) → Encloses bs due fs → Encloses bs (due_behind bs (Part k) i due) fs
  enclosed_on k o (in_blocks b) = in_blocks b
  enclosed_on k o (in_key {c = c} {fs = fs} b) = subst (λ d. Encloses [] d (MappingFrame c Key ∷ fs))
      (sym (ap (λ v. due_if v (edge i) (Some c)) (o.begins_none c refl refl))) (in_key b)
  enclosed_on k o (in_item p) = in_item p
  enclosed_on k o (in_curly p) = in_curly p
  enclosed_on k o (in_curly_key p) = in_curly_key p
  enclosed_on k o (in_curly_asked p) = in_curly_asked p
  enclosed_on k o (in_curly_value p) = in_curly_value p
  enclosed_on k o (in_made_key p) = in_made_key p
  enclosed_on k o (in_made_value p) = in_made_value p
  enclosed_on k o (in_pair_asked p) = in_pair_asked p
  enclosed_on k o (in_pair_value p) = in_pair_value p

-- ---- places for a node

module _ (i : At) where
  part_want : (due : Option ℕ) (fs : List OpenFrame) (p : TreeProperties) (k : PartKind) → Blocks fs
      → FairNext (choose (opens (room_behind p (frames_room fs)) i) (begin_pair_frames (stop_kind fs) fs p (Part k) i)
      (if_gives (part_fits (room_behind p (frames_room fs)) i) (stop_kind fs) (part_frames (stop_kind fs) fs p k i)))
      (On [] due (Part k) i)
  part_want due fs p k b =
      choose_next (On [] due (Part k) i) (opens (room_behind p (frames_room fs)) i)
      (begin_pair_frames (stop_kind fs) fs p (Part k) i)
      (if_gives (part_fits (room_behind p (frames_room fs)) i) (stop_kind fs) (part_frames (stop_kind fs) fs p k i))
      (λ e. pair_block (stop_kind fs) i due fs p (Part k) b
      (refl, (and_parts i.begins_key (indicates (room_behind p (frames_room fs)) i) e).0))
      (if_next (On [] due (Part k) i) (part_fits (room_behind p (frames_room fs)) i) (stop_kind fs)
      (part_frames (stop_kind fs) fs p k i) (λ e. part_next (stop_kind fs) i p k (in_blocks b)))

  dash_want : (due : Option ℕ) (fs : List OpenFrame) (p : TreeProperties) → Blocks fs
      → FairNext (choose (loose_fits (room_behind p (frames_room fs)) (edge i))
      (GoesTo (InFrames (SequenceFrame true (edge i) (Some i.end) ∷ fs))
      (sequence_start p true i (frames_indent fs) ∷ []))
      (if_gives (right_fits (room_behind p (frames_room fs)) (edge i)) (stop_kind fs)
      (GoesTo (InFrames (SequenceFrame false (edge i) (Some i.end) ∷ fs))
      (sequence_start p false i (frames_indent fs) ∷ [])))) (On [] due Dash i)
  dash_want due fs p b =
      choose_next (On [] due Dash i) (loose_fits (room_behind p (frames_room fs)) (edge i))
      (GoesTo (InFrames (SequenceFrame true (edge i) (Some i.end) ∷ fs))
      (sequence_start p true i (frames_indent fs) ∷ []))
      (if_gives (right_fits (room_behind p (frames_room fs)) (edge i)) (stop_kind fs)
      (GoesTo (InFrames (SequenceFrame false (edge i) (Some i.end) ∷ fs))
      (sequence_start p false i (frames_indent fs) ∷ [])))
      (λ e. inl (suits_blocks (block_entry b)))
      (if_next (On [] due Dash i) (right_fits (room_behind p (frames_room fs)) (edge i)) (stop_kind fs)
      (GoesTo (InFrames (SequenceFrame false (edge i) (Some i.end) ∷ fs))
      (sequence_start p false i (frames_indent fs) ∷ [])) (λ e. inl (suits_blocks (block_entry b))))

  pair_want : (due : Option ℕ) (fs : List OpenFrame) (p : TreeProperties) (kind : TerminalKind) → Blocks fs
      → KeyThere (stop_kind fs) i kind (edge i)
      → FairNext (if_gives (indicates (room_behind p (frames_room fs)) i) (stop_kind fs)
      (begin_pair_frames (stop_kind fs) fs p kind i)) (On [] due kind i)
  pair_want due fs p kind b there = if_next (On [] due kind i) (indicates (room_behind p (frames_room fs)) i)
      (stop_kind fs) (begin_pair_frames (stop_kind fs) fs p kind i)
      (λ e. pair_block (stop_kind fs) i due fs p kind b there)

  block_want : (due : Option ℕ) (fs : List OpenFrame) (p : TreeProperties) (kind : TerminalKind) → Blocks fs
      → FairNext (want_frames fs p kind i) (On [] due kind i)
  block_want due fs p (Part k) block_root = part_want due fs p k block_root
  block_want due fs p Dash block_root = dash_want due fs p block_root
  block_want due fs p Question block_root = pair_want due fs p Question block_root tt
  block_want due fs p (Colon None) block_root = pair_want due fs p (Colon None) block_root tt
  block_want due fs p kind block_root = tt
  block_want due fs p (Part k) (block_entry b) = part_want due fs p k (block_entry b)
  block_want due fs p Dash (block_entry b) = dash_want due fs p (block_entry b)
  block_want due fs p Question (block_entry b) = pair_want due fs p Question (block_entry b) tt
  block_want due fs p (Colon None) (block_entry b) = pair_want due fs p (Colon None) (block_entry b) tt
  block_want due fs p kind (block_entry b) = tt
  block_want due fs p (Part k) (block_asked b) = part_want due fs p k (block_asked b)
  block_want due fs p Dash (block_asked b) = dash_want due fs p (block_asked b)
  block_want due fs p Question (block_asked b) = pair_want due fs p Question (block_asked b) tt
  block_want due fs p (Colon None) (block_asked b) = pair_want due fs p (Colon None) (block_asked b) tt
  block_want due fs p kind (block_asked b) = tt
  block_want due fs p (Part k) (block_value b) = part_want due fs p k (block_value b)
  block_want due fs p Dash (block_value b) = dash_want due fs p (block_value b)
  block_want due fs p Question (block_value b) = pair_want due fs p Question (block_value b) tt
  block_want due fs p (Colon None) (block_value b) = pair_want due fs p (Colon None) (block_value b) tt
  block_want due fs p kind (block_value b) = tt

  -- where no pair may begin
  tight_part : (bs : List Bracket) (due : Option ℕ) (fs : List OpenFrame) (p : TreeProperties) (k : PartKind)
      (stop : GrammarFault) (y : EventStep) (v : Bool) → Encloses bs (due_behind bs (Part k) i due) fs
      → FairNext (choose (i.begins_key && false) y (if_gives v stop (part_frames stop fs p k i))) (On bs due (Part k) i)
  tight_part bs due fs p k stop y v e =
      choose_next (On bs due (Part k) i) (i.begins_key && false) y (if_gives v stop (part_frames stop fs p k i))
      (λ e. no_opening i.begins_key e)
      (if_next (On bs due (Part k) i) v stop (part_frames stop fs p k i) (λ f. part_next stop i p k e))

  behind_want : (bs : List Bracket) (due : Option ℕ) (may : Bool) (fs : List OpenFrame) (p : TreeProperties)
      (kind : TerminalKind) → IsSome p → Encloses bs due fs → InOrder bs due may (terminal kind i)
      → FairNext (want_frames fs p kind i) (On bs due kind i)
  behind_want bs due may fs p kind some (in_blocks b) o = block_want due fs p kind b
  behind_want bs due may fs (One m j) (Part k) some (in_key {c = c} {fs = gs} b) o = tight_part bs due
      (MappingFrame c Key ∷ gs) (One m j) k (stop_kind (MappingFrame c Key ∷ gs))
      (begin_pair_frames (stop_kind (MappingFrame c Key ∷ gs)) (MappingFrame c Key ∷ gs) (One m j) (Part k) i)
      (part_fits (BehindKey c) i) (enclosed_on (stop_kind fs) i k o (in_key b))
  behind_want bs due may fs (One m j) (Colon None) some (in_key b) o = tt
  behind_want bs due may fs (One m j) kind some (in_key b) o = tt
  behind_want bs due may fs (One m j) (Part k) some (in_item {fs = gs} e) o = tight_part bs due
      (FlowSequenceFrame false ∷ gs) (One m j) k (stop_kind (FlowSequenceFrame false ∷ gs))
      (begin_pair_frames (stop_kind (FlowSequenceFrame false ∷ gs)) (FlowSequenceFrame false ∷ gs) (One m j) (Part k) i)
      (part_fits Inside i) (enclosed_on (stop_kind fs) i k o (in_item e))
  behind_want bs due may fs (One m j) (Colon None) some (in_item e) o = tt
  behind_want bs due may fs (One m j) kind some (in_item e) o = tt
  behind_want bs due may fs (One m j) (Part k) some (in_curly {fs = gs} e) o = tight_part bs due
      (FlowMappingFrame false Opened ∷ gs) (One m j) k (stop_kind (FlowMappingFrame false Opened ∷ gs))
      (begin_pair_frames (stop_kind (FlowMappingFrame false Opened ∷ gs)) (FlowMappingFrame false Opened ∷ gs) (One m j)
      (Part k) i) (part_fits Inside i) (enclosed_on (stop_kind fs) i k o (in_curly e))
  behind_want bs due may fs (One m j) (Colon None) some (in_curly e) o = tt
  behind_want bs due may fs (One m j) kind some (in_curly e) o = tt
  behind_want bs due may fs (One m j) (Part k) some (in_curly_key {fs = gs} e) o = tight_part bs due
      (FlowMappingFrame false Key ∷ gs) (One m j) k (stop_kind (FlowMappingFrame false Key ∷ gs))
      (begin_pair_frames (stop_kind (FlowMappingFrame false Key ∷ gs)) (FlowMappingFrame false Key ∷ gs) (One m j)
      (Part k) i) (part_fits Inside i) (enclosed_on (stop_kind fs) i k o (in_curly_key e))
  behind_want bs due may fs (One m j) (Colon None) some (in_curly_key e) o = tt
  behind_want bs due may fs (One m j) kind some (in_curly_key e) o = tt
  behind_want bs due may fs (One m j) (Part k) some (in_curly_asked {fs = gs} e) o = tight_part bs due
      (FlowMappingFrame false Asking ∷ gs) (One m j) k (stop_kind (FlowMappingFrame false Asking ∷ gs))
      (begin_pair_frames (stop_kind (FlowMappingFrame false Asking ∷ gs)) (FlowMappingFrame false Asking ∷ gs) (One m j)
      (Part k) i) (part_fits Inside i) (enclosed_on (stop_kind fs) i k o (in_curly_asked e))
  behind_want bs due may fs (One m j) (Colon None) some (in_curly_asked e) o = tt
  behind_want bs due may fs (One m j) kind some (in_curly_asked e) o = tt
  behind_want bs due may fs (One m j) (Part k) some (in_curly_value {w = w} {fs = gs} e) o = tight_part bs due
      (FlowMappingFrame false (Value w) ∷ gs) (One m j) k (stop_kind (FlowMappingFrame false (Value w) ∷ gs))
      (begin_pair_frames (stop_kind (FlowMappingFrame false (Value w) ∷ gs)) (FlowMappingFrame false (Value w) ∷ gs)
      (One m j) (Part k) i) (part_fits Inside i) (enclosed_on (stop_kind fs) i k o (in_curly_value e))
  behind_want bs due may fs (One m j) (Colon None) some (in_curly_value e) o = tt
  behind_want bs due may fs (One m j) kind some (in_curly_value e) o = tt
  behind_want bs due may fs (One m j) (Part k) some (in_made_key {fs = gs} e) o = tight_part bs due
      (FlowMappingFrame true Key ∷ FlowSequenceFrame false ∷ gs) (One m j) k
      (stop_kind (FlowMappingFrame true Key ∷ FlowSequenceFrame false ∷ gs))
      (begin_pair_frames (stop_kind (FlowMappingFrame true Key ∷ FlowSequenceFrame false ∷ gs))
      (FlowMappingFrame true Key ∷ FlowSequenceFrame false ∷ gs) (One m j) (Part k) i) (part_fits Inside i)
      (enclosed_on (stop_kind fs) i k o (in_made_key e))
  behind_want bs due may fs (One m j) (Colon None) some (in_made_key e) o = tt
  behind_want bs due may fs (One m j) kind some (in_made_key e) o = tt
  behind_want bs due may fs (One m j) (Part k) some (in_made_value {w = w} {fs = gs} e) o = tight_part bs due
      (FlowMappingFrame true (Value w) ∷ FlowSequenceFrame false ∷ gs) (One m j) k
      (stop_kind (FlowMappingFrame true (Value w) ∷ FlowSequenceFrame false ∷ gs))
      (begin_pair_frames (stop_kind (FlowMappingFrame true (Value w) ∷ FlowSequenceFrame false ∷ gs))
      (FlowMappingFrame true (Value w) ∷ FlowSequenceFrame false ∷ gs) (One m j) (Part k) i) (part_fits Inside i)
      (enclosed_on (stop_kind fs) i k o (in_made_value e))
  behind_want bs due may fs (One m j) (Colon None) some (in_made_value e) o = tt
  behind_want bs due may fs (One m j) kind some (in_made_value e) o = tt
  behind_want bs due may fs (One m j) (Part k) some (in_pair_asked {fs = gs} e) o = tight_part bs due
      (FlowPairFrame Asking ∷ FlowSequenceFrame false ∷ gs) (One m j) k
      (stop_kind (FlowPairFrame Asking ∷ FlowSequenceFrame false ∷ gs))
      (begin_pair_frames (stop_kind (FlowPairFrame Asking ∷ FlowSequenceFrame false ∷ gs))
      (FlowPairFrame Asking ∷ FlowSequenceFrame false ∷ gs) (One m j) (Part k) i) (part_fits Inside i)
      (enclosed_on (stop_kind fs) i k o (in_pair_asked e))
  behind_want bs due may fs (One m j) (Colon None) some (in_pair_asked e) o = tt
  behind_want bs due may fs (One m j) kind some (in_pair_asked e) o = tt
  behind_want bs due may fs (One m j) (Part k) some (in_pair_value {w = w} {fs = gs} e) o = tight_part bs due
      (FlowPairFrame (Value w) ∷ FlowSequenceFrame false ∷ gs) (One m j) k
      (stop_kind (FlowPairFrame (Value w) ∷ FlowSequenceFrame false ∷ gs))
      (begin_pair_frames (stop_kind (FlowPairFrame (Value w) ∷ FlowSequenceFrame false ∷ gs))
      (FlowPairFrame (Value w) ∷ FlowSequenceFrame false ∷ gs) (One m j) (Part k) i) (part_fits Inside i)
      (enclosed_on (stop_kind fs) i k o (in_pair_value e))
  behind_want bs due may fs (One m j) (Colon None) some (in_pair_value e) o = tt
  behind_want bs due may fs (One m j) kind some (in_pair_value e) o = tt
  behind_want bs due may fs (Two m j n h) (Part k) some (in_key {c = c} {fs = gs} b) o = tight_part bs due
      (MappingFrame c Key ∷ gs) (Two m j n h) k (stop_kind (MappingFrame c Key ∷ gs))
      (begin_pair_frames (stop_kind (MappingFrame c Key ∷ gs)) (MappingFrame c Key ∷ gs) (Two m j n h) (Part k) i)
      (part_fits (BehindKey c) i) (enclosed_on (stop_kind fs) i k o (in_key b))
  behind_want bs due may fs (Two m j n h) (Colon None) some (in_key b) o = tt
  behind_want bs due may fs (Two m j n h) kind some (in_key b) o = tt
  behind_want bs due may fs (Two m j n h) (Part k) some (in_item {fs = gs} e) o = tight_part bs due
      (FlowSequenceFrame false ∷ gs) (Two m j n h) k (stop_kind (FlowSequenceFrame false ∷ gs))
      (begin_pair_frames (stop_kind (FlowSequenceFrame false ∷ gs)) (FlowSequenceFrame false ∷ gs) (Two m j n h)
      (Part k) i) (part_fits Inside i) (enclosed_on (stop_kind fs) i k o (in_item e))
  behind_want bs due may fs (Two m j n h) (Colon None) some (in_item e) o = tt
  behind_want bs due may fs (Two m j n h) kind some (in_item e) o = tt
  behind_want bs due may fs (Two m j n h) (Part k) some (in_curly {fs = gs} e) o = tight_part bs due
      (FlowMappingFrame false Opened ∷ gs) (Two m j n h) k (stop_kind (FlowMappingFrame false Opened ∷ gs))
      (begin_pair_frames (stop_kind (FlowMappingFrame false Opened ∷ gs)) (FlowMappingFrame false Opened ∷ gs)
      (Two m j n h) (Part k) i) (part_fits Inside i) (enclosed_on (stop_kind fs) i k o (in_curly e))
  behind_want bs due may fs (Two m j n h) (Colon None) some (in_curly e) o = tt
  behind_want bs due may fs (Two m j n h) kind some (in_curly e) o = tt
  behind_want bs due may fs (Two m j n h) (Part k) some (in_curly_key {fs = gs} e) o = tight_part bs due
      (FlowMappingFrame false Key ∷ gs) (Two m j n h) k (stop_kind (FlowMappingFrame false Key ∷ gs))
      (begin_pair_frames (stop_kind (FlowMappingFrame false Key ∷ gs)) (FlowMappingFrame false Key ∷ gs) (Two m j n h)
      (Part k) i) (part_fits Inside i) (enclosed_on (stop_kind fs) i k o (in_curly_key e))
  behind_want bs due may fs (Two m j n h) (Colon None) some (in_curly_key e) o = tt
  behind_want bs due may fs (Two m j n h) kind some (in_curly_key e) o = tt
  behind_want bs due may fs (Two m j n h) (Part k) some (in_curly_asked {fs = gs} e) o = tight_part bs due
      (FlowMappingFrame false Asking ∷ gs) (Two m j n h) k (stop_kind (FlowMappingFrame false Asking ∷ gs))
      (begin_pair_frames (stop_kind (FlowMappingFrame false Asking ∷ gs)) (FlowMappingFrame false Asking ∷ gs)
      (Two m j n h) (Part k) i) (part_fits Inside i) (enclosed_on (stop_kind fs) i k o (in_curly_asked e))
  behind_want bs due may fs (Two m j n h) (Colon None) some (in_curly_asked e) o = tt
  behind_want bs due may fs (Two m j n h) kind some (in_curly_asked e) o = tt
  behind_want bs due may fs (Two m j n h) (Part k) some (in_curly_value {w = w} {fs = gs} e) o = tight_part bs due
      (FlowMappingFrame false (Value w) ∷ gs) (Two m j n h) k (stop_kind (FlowMappingFrame false (Value w) ∷ gs))
      (begin_pair_frames (stop_kind (FlowMappingFrame false (Value w) ∷ gs)) (FlowMappingFrame false (Value w) ∷ gs)
      (Two m j n h) (Part k) i) (part_fits Inside i) (enclosed_on (stop_kind fs) i k o (in_curly_value e))
  behind_want bs due may fs (Two m j n h) (Colon None) some (in_curly_value e) o = tt
  behind_want bs due may fs (Two m j n h) kind some (in_curly_value e) o = tt
  behind_want bs due may fs (Two m j n h) (Part k) some (in_made_key {fs = gs} e) o = tight_part bs due
      (FlowMappingFrame true Key ∷ FlowSequenceFrame false ∷ gs) (Two m j n h) k
      (stop_kind (FlowMappingFrame true Key ∷ FlowSequenceFrame false ∷ gs))
      (begin_pair_frames (stop_kind (FlowMappingFrame true Key ∷ FlowSequenceFrame false ∷ gs))
      (FlowMappingFrame true Key ∷ FlowSequenceFrame false ∷ gs) (Two m j n h) (Part k) i) (part_fits Inside i)
      (enclosed_on (stop_kind fs) i k o (in_made_key e))
  behind_want bs due may fs (Two m j n h) (Colon None) some (in_made_key e) o = tt
  behind_want bs due may fs (Two m j n h) kind some (in_made_key e) o = tt
  behind_want bs due may fs (Two m j n h) (Part k) some (in_made_value {w = w} {fs = gs} e) o = tight_part bs due
      (FlowMappingFrame true (Value w) ∷ FlowSequenceFrame false ∷ gs) (Two m j n h) k
      (stop_kind (FlowMappingFrame true (Value w) ∷ FlowSequenceFrame false ∷ gs))
      (begin_pair_frames (stop_kind (FlowMappingFrame true (Value w) ∷ FlowSequenceFrame false ∷ gs))
      (FlowMappingFrame true (Value w) ∷ FlowSequenceFrame false ∷ gs) (Two m j n h) (Part k) i) (part_fits Inside i)
      (enclosed_on (stop_kind fs) i k o (in_made_value e))
  behind_want bs due may fs (Two m j n h) (Colon None) some (in_made_value e) o = tt
  behind_want bs due may fs (Two m j n h) kind some (in_made_value e) o = tt
  behind_want bs due may fs (Two m j n h) (Part k) some (in_pair_asked {fs = gs} e) o = tight_part bs due
      (FlowPairFrame Asking ∷ FlowSequenceFrame false ∷ gs) (Two m j n h) k
      (stop_kind (FlowPairFrame Asking ∷ FlowSequenceFrame false ∷ gs))
      (begin_pair_frames (stop_kind (FlowPairFrame Asking ∷ FlowSequenceFrame false ∷ gs))
      (FlowPairFrame Asking ∷ FlowSequenceFrame false ∷ gs) (Two m j n h) (Part k) i) (part_fits Inside i)
      (enclosed_on (stop_kind fs) i k o (in_pair_asked e))
  behind_want bs due may fs (Two m j n h) (Colon None) some (in_pair_asked e) o = tt
  behind_want bs due may fs (Two m j n h) kind some (in_pair_asked e) o = tt
  behind_want bs due may fs (Two m j n h) (Part k) some (in_pair_value {w = w} {fs = gs} e) o = tight_part bs due
      (FlowPairFrame (Value w) ∷ FlowSequenceFrame false ∷ gs) (Two m j n h) k
      (stop_kind (FlowPairFrame (Value w) ∷ FlowSequenceFrame false ∷ gs))
      (begin_pair_frames (stop_kind (FlowPairFrame (Value w) ∷ FlowSequenceFrame false ∷ gs))
      (FlowPairFrame (Value w) ∷ FlowSequenceFrame false ∷ gs) (Two m j n h) (Part k) i) (part_fits Inside i)
      (enclosed_on (stop_kind fs) i k o (in_pair_value e))
  behind_want bs due may fs (Two m j n h) (Colon None) some (in_pair_value e) o = tt
  behind_want bs due may fs (Two m j n h) kind some (in_pair_value e) o = tt
  behind_want bs due may fs NoProperties kind some e o = absurd some

  entry_there : (stop : GrammarFault) (kind : TerminalKind) (c : ℕ) → entry_in (terminal kind i) c ≡ true
      → KeyThere stop i kind c
  entry_there stop (Part k) c e = let p = and_parts i.begins_key (edge i == c) e in let q =
      p.1 in (grind (arith, nat_tests, q), p.0)
  entry_there stop kind c e = tt

  -- ---- all places

  take_suits : (bs : List Bracket) (due : Option ℕ) (may : Bool) (st : EventState) (kind : TerminalKind)
      → Suits bs due may st → InOrder bs due may (terminal kind i) → FairNext (take_frames st kind i) (On bs due kind i)
  take_suits bs due may st (Directive d) suits_fresh o = inl suits_directed
  take_suits bs due may st DocumentStart suits_fresh o = inl (suits_blocks block_root)
  take_suits bs due may st DocumentEnd suits_fresh o = inl suits_fresh
  take_suits bs due may st TheEnd suits_fresh o = inr (refl, refl)
  take_suits bs due may st kind suits_fresh o = after_next (On [] due kind i) (bare_document_start kind i ∷ [])
      (want_frames (DocumentFrame None ∷ []) NoProperties kind i)
      (block_want due (DocumentFrame None ∷ []) NoProperties kind block_root)
  take_suits bs due may st (Directive d) suits_directed o = inl suits_directed
  take_suits bs due may st DocumentStart suits_directed o = inl (suits_blocks block_root)
  take_suits bs due may st kind suits_directed o = tt
  take_suits bs due may st DocumentStart suits_rooted o = inl (suits_blocks block_root)
  take_suits bs due may st DocumentEnd suits_rooted o = inl suits_fresh
  take_suits bs due may st TheEnd suits_rooted o = inr (refl, refl)
  take_suits bs due may st kind suits_rooted o = tt
  take_suits bs due may st kind (suits_blocks {fs = fs} block_root) o = block_want due fs NoProperties kind block_root
  take_suits bs due may st kind (suits_blocks {fs = fs} (block_entry b)) o = block_want due fs NoProperties kind
      (block_entry b)
  take_suits bs due may st kind (suits_blocks {fs = fs} (block_asked b)) o = block_want due fs NoProperties kind
      (block_asked b)
  take_suits bs due may st kind (suits_blocks {fs = fs} (block_value b)) o = block_want due fs NoProperties kind
      (block_value b)
  take_suits bs due may st (Part k) (suits_item {fs = gs} e) o = choose_next (On bs due (Part k) i)
      (i.begins_key && true) (begin_pair_frames (stop_kind (FlowSequenceFrame false ∷ gs))
      (FlowSequenceFrame false ∷ gs) NoProperties (Part k) i)
      (if_gives (part_fits ItemIn i) (stop_kind (FlowSequenceFrame false ∷ gs))
      (part_frames (stop_kind (FlowSequenceFrame false ∷ gs)) (FlowSequenceFrame false ∷ gs) NoProperties k i))
      (λ f. entry_square (stop_kind (FlowSequenceFrame false ∷ gs)) i (Part k) e)
      (if_next (On bs due (Part k) i) (part_fits ItemIn i) (stop_kind (FlowSequenceFrame false ∷ gs))
      (part_frames (stop_kind (FlowSequenceFrame false ∷ gs)) (FlowSequenceFrame false ∷ gs) NoProperties k i)
      (λ f. part_next (stop_kind (FlowSequenceFrame false ∷ gs)) i NoProperties k (in_item e)))
  take_suits bs due may st Question (suits_item e) o = inl (suits_pair_asked e)
  take_suits bs due may st (Colon None) (suits_item e) o = inl (suits_made_value e)
  take_suits bs due may st (Close Square) (suits_item e) o = inl (put_suits i.shown.end e)
  take_suits bs due may st kind (suits_item e) o = tt
  take_suits bs due may st (Part k) (suits_curly {fs = gs} e) o = choose_next (On bs due (Part k) i)
      (i.begins_key && true) (begin_pair_frames (stop_kind (FlowMappingFrame false Opened ∷ gs))
      (FlowMappingFrame false Opened ∷ gs) NoProperties (Part k) i)
      (if_gives (part_fits ItemIn i) (stop_kind (FlowMappingFrame false Opened ∷ gs))
      (part_frames (stop_kind (FlowMappingFrame false Opened ∷ gs)) (FlowMappingFrame false Opened ∷ gs) NoProperties k
      i)) (λ f. entry_curly (stop_kind (FlowMappingFrame false Opened ∷ gs)) i (Part k) e)
      (if_next (On bs due (Part k) i) (part_fits ItemIn i) (stop_kind (FlowMappingFrame false Opened ∷ gs))
      (part_frames (stop_kind (FlowMappingFrame false Opened ∷ gs)) (FlowMappingFrame false Opened ∷ gs) NoProperties k
      i) (λ f. part_next (stop_kind (FlowMappingFrame false Opened ∷ gs)) i NoProperties k (in_curly e)))
  take_suits bs due may st Question (suits_curly e) o = inl (suits_curly_asked e)
  take_suits bs due may st (Colon None) (suits_curly e) o = inl (suits_curly_value e)
  take_suits bs due may st (Close Curly) (suits_curly e) o = inl (put_suits i.shown.end e)
  take_suits bs due may st kind (suits_curly e) o = tt
  take_suits bs due may st (Part k) (suits_curly_asked {fs = gs} e) o = tight_part bs due
      (FlowMappingFrame false Asking ∷ gs) NoProperties k (stop_kind (FlowMappingFrame false Asking ∷ gs))
      (begin_pair_frames (stop_kind (FlowMappingFrame false Asking ∷ gs)) (FlowMappingFrame false Asking ∷ gs)
      NoProperties (Part k) i) (part_fits Inside i) (in_curly_asked e)
  take_suits bs due may st (Colon None) (suits_curly_asked e) o = tt
  take_suits bs due may st kind (suits_curly_asked e) o = tt
  take_suits bs due may st (Part k) (suits_curly_value {w = w} {fs = gs} e) o = tight_part bs due
      (FlowMappingFrame false (Value w) ∷ gs) NoProperties k (stop_kind (FlowMappingFrame false (Value w) ∷ gs))
      (begin_pair_frames (stop_kind (FlowMappingFrame false (Value w) ∷ gs)) (FlowMappingFrame false (Value w) ∷ gs)
      NoProperties (Part k) i) (part_fits Inside i) (in_curly_value e)
  take_suits bs due may st (Colon None) (suits_curly_value e) o = tt
  take_suits bs due may st kind (suits_curly_value e) o = tt
  take_suits bs due may st (Part k) (suits_made_value {w = w} {fs = gs} e) o = tight_part bs due
      (FlowMappingFrame true (Value w) ∷ FlowSequenceFrame false ∷ gs) NoProperties k
      (stop_kind (FlowMappingFrame true (Value w) ∷ FlowSequenceFrame false ∷ gs))
      (begin_pair_frames (stop_kind (FlowMappingFrame true (Value w) ∷ FlowSequenceFrame false ∷ gs))
      (FlowMappingFrame true (Value w) ∷ FlowSequenceFrame false ∷ gs) NoProperties (Part k) i) (part_fits Inside i)
      (in_made_value e)
  take_suits bs due may st (Colon None) (suits_made_value e) o = tt
  take_suits bs due may st kind (suits_made_value e) o = tt
  take_suits bs due may st (Part k) (suits_pair_asked {fs = gs} e) o = tight_part bs due
      (FlowPairFrame Asking ∷ FlowSequenceFrame false ∷ gs) NoProperties k
      (stop_kind (FlowPairFrame Asking ∷ FlowSequenceFrame false ∷ gs))
      (begin_pair_frames (stop_kind (FlowPairFrame Asking ∷ FlowSequenceFrame false ∷ gs))
      (FlowPairFrame Asking ∷ FlowSequenceFrame false ∷ gs) NoProperties (Part k) i) (part_fits Inside i)
      (in_pair_asked e)
  take_suits bs due may st (Colon None) (suits_pair_asked e) o = tt
  take_suits bs due may st kind (suits_pair_asked e) o = tt
  take_suits bs due may st (Part k) (suits_pair_value {w = w} {fs = gs} e) o = tight_part bs due
      (FlowPairFrame (Value w) ∷ FlowSequenceFrame false ∷ gs) NoProperties k
      (stop_kind (FlowPairFrame (Value w) ∷ FlowSequenceFrame false ∷ gs))
      (begin_pair_frames (stop_kind (FlowPairFrame (Value w) ∷ FlowSequenceFrame false ∷ gs))
      (FlowPairFrame (Value w) ∷ FlowSequenceFrame false ∷ gs) NoProperties (Part k) i) (part_fits Inside i)
      (in_pair_value e)
  take_suits bs due may st (Colon None) (suits_pair_value e) o = tt
  take_suits bs due may st kind (suits_pair_value e) o = tt
  take_suits bs due may st kind (suits_one {k = k} {i = j} {fs = fs} off e) o = behind_want bs due may fs (One k j) kind
      tt e o
  take_suits bs due may st kind (suits_two {k = k} {m = m} {i = j} {j = h} {fs = fs} off e) o = behind_want bs due may
      fs (Two k j m h) kind tt e o
  take_suits bs due may st Dash (suits_past_entry {loose = loose} {c = c} {fs = gs} b) o = if_next (On [] due Dash i)
      (edge i == c) ExpectedBlockSequenceEntry (GoesTo (InFrames (SequenceFrame loose c (Some i.end) ∷ gs)) [])
      (λ e. inl (suits_blocks (block_entry b)))
  take_suits bs due may st kind (suits_past_entry b) o = tt
  take_suits bs due may st (Colon (Some n)) (suits_key_done b) o = inl (suits_blocks (block_value b))
  take_suits bs due may st kind (suits_key_done b) o = tt
  take_suits bs due may st (Colon None) (suits_ask_done {c = c} {fs = gs} b) o = if_next (On [] due (Colon None) i)
      (edge i == c) ExpectedBlockMappingKey (GoesTo (InFrames (MappingFrame c (Value i.start) ∷ gs)) [])
      (λ e. inl (suits_blocks (block_value b)))
  take_suits bs due may st kind (suits_ask_done b) o = tt
  take_suits bs due may st kind (suits_done {c = c} {fs = gs} b) o = if_next (On [] due kind i)
      (entry_in (terminal kind i) c) ExpectedBlockMappingKey
      (entry_frames ExpectedBlockMappingKey (BlockSite c gs) kind i)
      (λ e. entry_block ExpectedBlockMappingKey i due kind c b (entry_there ExpectedBlockMappingKey kind c e))
  take_suits bs due may st Comma (suits_item_done e) o = inl (suits_item e)
  take_suits bs due may st (Close Square) (suits_item_done e) o = inl (put_suits i.shown.end e)
  take_suits bs due may st kind (suits_item_done e) o = tt
  take_suits bs due may st (Colon (Some n)) (suits_curly_key_done e) o = inl (suits_curly_value e)
  take_suits bs due may st kind (suits_curly_key_done e) o = tt
  take_suits bs due may st (Colon None) (suits_curly_ask_done e) o = inl (suits_curly_value e)
  take_suits bs due may st kind (suits_curly_ask_done e) o = tt
  take_suits bs due may st Comma (suits_curly_solo e) o = inl (suits_curly e)
  take_suits bs due may st (Close Curly) (suits_curly_solo e) o = inl (put_suits i.shown.end e)
  take_suits bs due may st kind (suits_curly_solo e) o = tt
  take_suits bs due may st Comma (suits_curly_done e) o = inl (suits_curly e)
  take_suits bs due may st (Close Curly) (suits_curly_done e) o = inl (put_suits i.shown.end e)
  take_suits bs due may st kind (suits_curly_done e) o = tt
  take_suits bs due may st (Colon (Some n)) (suits_made_key_done e) o = inl (suits_made_value e)
  take_suits bs due may st kind (suits_made_key_done e) o = tt
  take_suits bs due may st kind (suits_made_done e) o = tt
  take_suits bs due may st (Colon None) (suits_square_ask_done e) o = inl (suits_pair_value e)
  take_suits bs due may st kind (suits_square_ask_done e) o = tt
  take_suits bs due may st kind (suits_square_done e) o = tt

-- ---- lists

pub taken_suits : (x : Terminal) (bs : List Bracket) (due : Option ℕ) (may : Bool) (y : Ending) → EndSuits bs due may y
    → InOrder bs due may x → FairNext (taken y x) (On bs due x.kind x.at)
taken_suits x bs due may (ending st es) p o = after_next (On bs due x.kind x.at) es (take_frames st x.kind x.at)
    (take_suits x.at bs due may st x.kind p o)

abbrev GoesOn : List Flagged → Type 0
GoesOn fs = (s : Scope) (bs : List Bracket) (due : Option ℕ) (may : Bool) (st : EventState) → Suits bs due may st
    → OrderedFrom fs s bs due may → FairRun fs s st

next_fair : (fs : List Flagged) (s : Scope) (x : Terminal) (bs : List Bracket) (due : Option ℕ) (y : EventStep)
    → GoesOn fs → FairNext y (On bs due x.kind x.at) → EndsThere x.kind fs
    → OrderedFrom fs s (open_behind x.kind bs) (due_behind bs x.kind x.at due) (may_follow x.kind)
    → FairNext y (λ st. FairRun fs s st)
next_fair fs s x bs due (StopsWith k) go p e q = tt
next_fair fs s x bs due (GoesTo st es) go (inl p) e q = go s (open_behind x.kind bs) (due_behind bs x.kind x.at due)
    (may_follow x.kind) st p q
next_fair fs s x bs due (GoesTo st es) go (inr p) e q = subst (λ fs. FairRun fs s st)
    (sym (subst (λ kind. EndsThere kind fs) p.1 e)) tt

goes_on : (fs : List Flagged) → GoesOn fs
goes_on [] s bs due may st p q = tt
goes_on (f ∷ fs) s bs due may st p q =
    let x = terminal_of f.1 s f.0 in (
      suits_fair x q.0 p,
      next_fair fs (next_scope x.kind s) x bs due (taken (ended_by x st) x) (goes_on fs)
          (taken_suits x bs due may (ended_by x st) (closed_suits x bs due may st p) q.0) q.1 q.2,
    )

pub ordered_fair : (fs : List Flagged) → OrderedFrom fs no_scope [] None false → FairRun fs no_scope IsFresh
ordered_fair fs q = goes_on fs no_scope [] None false IsFresh suits_fresh q

pub make_order : (fs : List Flagged) (s : Scope) (bs : List Bracket) (due : Option ℕ) (may : Bool)
    → BracketsFrom fs s bs may → KeysFrom fs s bs due → OrderedFrom fs s bs due may
make_order [] s bs due may p q = tt
make_order (f ∷ fs) s bs due may p q =
    let x = terminal_of f.1 s f.0 in (
      record {
        in_flow = p.0.in_flow;
        closes = p.0.closes;
        no_dash = p.0.no_dash;
        begins = p.0.begins;
        begins_none =
            q.0.begins_none;
        stands_right = q.0.stands_right;
      },
      p.1,
      make_order fs (next_scope x.kind s) (open_behind x.kind bs) (due_behind bs x.kind x.at due) (may_follow x.kind)
          p.2 q.1,
    )

-- What a lexeme that closes or stands behind what is closed makes of the columns of the frames.
use Rattle.std.proofs.Common.{◌≡◌, ℕ, ◌==◌, ◌&&◌, ◌||◌, Bool, true, false, List, [], ◌∷◌, Option, Some, None, refl, sym}
use Rattle.std.proofs.Common.{ap, ◌∙◌, subst, arith}
use Rattle.std.specs.Prelude.{not, nat_lt}
use Rattle.std.proofs.lemmas.Bool.{and_parts, or_parts, not-false}
use Rattle.std.proofs.lemmas.Bool.Decides.{nat_tests}
use Rattle.granit_base.specs.Place.{Mark}
use Rattle.granit_views.specs.Running.{FairNext}
use Rattle.granit_event_machine.specs.EventMachine.{Key, Asking, AskDone, Done, Value, OpenFrame}
use Rattle.granit_event_machine.specs.EventMachine.{PropertiesFrame, SequenceFrame, MappingFrame, FlowSequenceFrame}
use Rattle.granit_event_machine.specs.EventMachine.{FlowMappingFrame, EventState, InFrames, FlowPairFrame, Ending}
use Rattle.granit_event_machine.specs.EventMachine.{ending}
use Rattle.granit_event_machine.specs.EventMachine.{with_event, past_sequence, past_mapping, past_asked, past_curly}
use Rattle.granit_event_machine.specs.EventMachine.{past_curly_asked, past_made, past_square_asked, frames_room}
use Rattle.granit_event_machine.specs.EventMachine.{frames_indent, nothing_event, site_opens}
use Rattle.granit_event_machine.specs.EventMachine.{finish_frames, nothing_frames, frames_empty, nothing_end}
use Rattle.granit_event_machine.specs.EventMachine.{close_frames}
use Rattle.granit_event_machine.specs.EventMachine.{ended_by, EventStep, GoesTo, put_frames, part_frames, BlockSite}
use Rattle.granit_event_machine.specs.EventMachine.{FlowSite, entry_frames, begin_pair_frames}
use Rattle.granit_language.specs.Choice.{choose}
use Rattle.granit_language.specs.GrammarFault.{GrammarFault}
use Rattle.granit_language.specs.Node.{TreeProperties, NoProperties, One, Two}
use Rattle.granit_language.specs.OpenColumns.{AtMost, Falls}
use Rattle.granit_language.specs.Reading.{begins_kind}
use Rattle.granit_language.specs.Room.{BlockIn, FlowIn, RightOf, ValueIn}
use Rattle.granit_language.specs.Room.{behind_property, differ, continues_node, joins, ask_over}
use Rattle.granit_language.specs.Terminal.{PartKind, Alias, Property, Scalar, Open, TerminalKind}
use Rattle.granit_language.specs.Terminal.{Dash, Question, Colon}
use Rattle.granit_language.specs.Terminal.{Part, At, Terminal, terminal, edge, reach_of, dash_in, bare_in}
use Rattle.granit_language.specs.Terminal.{stands_left, is_comma_kind, closes_kind}
use Rattle.granit_language.specs.TreeEvents.{SequenceEnds, MappingEnds, TreeEvent, pointed, null, properties_end}
use Rattle.granit_language.specs.TreeEvents.{alone_event, mapping_start}
use Rattle.granit_lexemes.specs.declared.layout.Bracket.{Bracket}
use Rattle.granit_lexemes.specs.declared.layout.Bracket.TheVariants.{Square, Curly}
use Rattle.granit_places.proofs.ColumnsKept.{chosen, pop, unless_top, push, pop_below}
use Rattle.granit_order.proofs.Enclosing.{Blocks, block_root, block_entry, block_asked, block_value, Encloses}
use Rattle.granit_order.proofs.Enclosing.{in_blocks, in_key, in_item, in_curly, in_curly_key, in_curly_asked}
use Rattle.granit_order.proofs.Enclosing.{in_curly_value, in_made_key, in_made_value, in_pair_asked, in_pair_value}
use Rattle.granit_order.proofs.Enclosing.{Suits, suits_fresh, suits_directed, suits_rooted, suits_blocks, suits_item}
use Rattle.granit_order.proofs.Enclosing.{suits_curly, suits_curly_asked, suits_curly_value, suits_made_value}
use Rattle.granit_order.proofs.Enclosing.{suits_pair_asked, suits_pair_value, suits_one, suits_two, suits_past_entry}
use Rattle.granit_order.proofs.Enclosing.{suits_key_done, suits_ask_done, suits_done, suits_item_done}
use Rattle.granit_order.proofs.Enclosing.{suits_curly_key_done, suits_curly_ask_done, suits_curly_solo}
use Rattle.granit_order.proofs.Enclosing.{suits_curly_done, suits_made_key_done, suits_made_done}
use Rattle.granit_order.proofs.Enclosing.{suits_square_ask_done, suits_square_done}
use Rattle.granit_order.proofs.OrderSteps.{after_next, if_next}
use Rattle.granit_order.specs.FrameColumns.{other_columns}

-- ---- columns of frames

abbrev pub open_columns : List OpenFrame → List ℕ
open_columns [] = []
open_columns (SequenceFrame loose c w ∷ fs) = other_columns loose c (open_columns fs)
open_columns (MappingFrame c at ∷ fs) = c ∷ open_columns fs
open_columns (f ∷ fs) = open_columns fs

abbrev pub state_columns : EventState → List ℕ
state_columns (InFrames fs) = open_columns fs
state_columns st = []

-- an indentless sequence stands in the innermost column
abbrev Seated : Bool → ℕ → List ℕ → Type 0
Seated true c ns = push c ns ≡ ns
Seated false c ns = Unit {0}

abbrev pub Sits : List OpenFrame → Type 0
Sits [] = Unit {0}
Sits (SequenceFrame loose c w ∷ fs) = Seated loose c (open_columns fs) × AtMost c (open_columns fs) × Sits fs
Sits (MappingFrame c at ∷ fs) = AtMost c (open_columns fs) × Sits fs
Sits (f ∷ fs) = Sits fs

abbrev pub StateSits : EventState → Type 0
StateSits (InFrames fs) = Sits fs
StateSits st = Unit {0}

abbrev pub Holds : List ℕ → EventState → Type 0
Holds cs st = (state_columns st ≡ cs) × StateSits st

pub sits_fall : (fs : List OpenFrame) → Sits fs → Falls (open_columns fs)
sits_fall [] s = tt
sits_fall (SequenceFrame true c w ∷ fs) s = sits_fall fs s.2
sits_fall (SequenceFrame false c w ∷ fs) s = (s.1, sits_fall fs s.2)
sits_fall (MappingFrame c at ∷ fs) s = (s.0, sits_fall fs s.1)
sits_fall (f ∷ fs) s = sits_fall fs s

-- ---- lists of columns

pub at_most_behind : (k c : ℕ) (ns : List ℕ) → nat_lt k c ≡ false → AtMost c ns → Falls ns → AtMost k (c ∷ ns)
at_most_behind k c ns e p f = subst (λ v. AtMost k (chosen v (pop k ns) (c ∷ ns))) e (pop_below k (c ∷ ns) (p, f))

none_popped : (k : ℕ) (ns : List ℕ) → AtMost k ns → ns ≡ pop k ns
none_popped k [] p = refl
none_popped k (n ∷ ns) p = sym (ap (λ v. chosen v (pop k ns) (n ∷ ns)) p.0)

top_popped : (k c : ℕ) (ns : List ℕ) → nat_lt k c ≡ true → pop k ns ≡ pop k (c ∷ ns)
top_popped k c ns e = sym (ap (λ v. chosen v (pop k ns) (c ∷ ns)) e)

pub push_same : (e c : ℕ) (ns : List ℕ) → (e == c) ≡ true → push e (c ∷ ns) ≡ c ∷ ns
push_same e c ns f =
    let g : (c == e) ≡ true = grind (arith, nat_tests, f) in
    let h : e ≡ c = grind (arith, nat_tests, f) in
    ap (λ v. e ∷ chosen v ns (c ∷ ns)) g ∙ ap (λ (e : ℕ). e ∷ ns) h

under_top : (c e : ℕ) (ns : List ℕ) → nat_lt c e ≡ true → AtMost c ns → unless_top e ns ≡ ns
under_top c e [] f p = refl
under_top c e (n ∷ ns) f p =
    let q = p.0 in
    let g : (n == e) ≡ false = grind (arith, nat_tests, f, q) in
    ap (λ v. chosen v ns (n ∷ ns)) g

-- a column right of all that are open
abbrev pub Beyond : ℕ → List ℕ → Type 0
Beyond e ns = AtMost e ns × (push e ns ≡ e ∷ ns)

pub beyond_all : (c e : ℕ) (ns : List ℕ) → nat_lt c e ≡ true → AtMost c ns → Falls ns → Beyond e ns
beyond_all c e ns f p g =
    let h : nat_lt e c ≡ false = grind (arith, nat_tests, f) in
    ((at_most_behind e c ns h p g).1, ap (λ (ns : List ℕ). e ∷ ns) (under_top c e ns f p))

pub beyond_top : (c e : ℕ) (ns : List ℕ) → nat_lt c e ≡ true → AtMost c ns → Falls ns → Beyond e (c ∷ ns)
beyond_top c e ns f p g =
    let h : nat_lt e c ≡ false = grind (arith, nat_tests, f) in
    let i : (c == e) ≡ false = grind (arith, nat_tests, f) in
    (at_most_behind e c ns h p g, ap (λ v. e ∷ chosen v ns (c ∷ ns)) i)

-- ---- closing

abbrev pub EndHolds : List ℕ → Ending → Type 0
EndHolds cs (ending st es) = Holds cs st

event_holds : (cs : List ℕ) (e : TreeEvent) (y : Ending) → EndHolds cs y → EndHolds cs (with_event e y)
event_holds cs e (ending st es) p = p

either_holds : (cs : List ℕ) (b : Bool) (y z : Ending) → (b ≡ true → EndHolds cs y) → (b ≡ false → EndHolds cs z)
    → EndHolds cs (choose b y z)
either_holds cs true y z p q = p refl
either_holds cs false y z p q = q refl

abbrev pub closed_columns : List Bracket → ℕ → List ℕ → List ℕ
closed_columns [] k cs = pop k cs
closed_columns (b ∷ bs) k cs = cs

module _ (x : Terminal) where
  abbrev reach : ℕ
  reach = reach_of x.kind x.at

  abbrev Left : List ℕ → List ℕ
  Left = pop reach

  stays_in : (c : ℕ) (ns : List ℕ) → (reach == c) ≡ true → AtMost c ns → AtMost reach ns
  stays_in c ns e p = let f : c ≡ reach = grind (arith, nat_tests, e) in subst (λ c. AtMost c ns) f p

  not_left : (c : ℕ) → (reach == c) ≡ true → nat_lt reach c ≡ false
  not_left c e = grind (arith, nat_tests, e)

  kept_top : (c : ℕ) (ns : List ℕ) → nat_lt reach c ≡ false → c ∷ ns ≡ Left (c ∷ ns)
  kept_top c ns e = sym (ap (λ v. chosen v (Left ns) (c ∷ ns)) e)

  sequence_holds : (loose : Bool) (c : ℕ) (fs : List OpenFrame) (on : Ending) → Sits (SequenceFrame loose c None ∷ fs)
      → EndHolds (Left (open_columns fs)) on → EndHolds (Left (other_columns loose c (open_columns fs)))
      (past_sequence x loose c fs on)
  sequence_holds true c fs on s p =
      either_holds (Left (open_columns fs)) (not (dash_in x c)) (with_event (pointed SequenceEnds x.at.start) on)
      (ending (InFrames (SequenceFrame true c None ∷ fs)) [])
      (λ e. event_holds (Left (open_columns fs)) (pointed SequenceEnds x.at.start) on p)
      (λ e. (
        none_popped reach (open_columns fs)
            (stays_in c (open_columns fs) (and_parts _ _ (not-false (dash_in x c) e)).1 s.1),
        s,
      ))
  sequence_holds false c fs on s p =
      either_holds (Left (c ∷ open_columns fs)) (stands_left x c) (with_event (pointed SequenceEnds x.at.start) on)
      (ending (InFrames (SequenceFrame false c None ∷ fs)) [])
      (λ e. event_holds (Left (c ∷ open_columns fs)) (pointed SequenceEnds x.at.start) on
      (subst (λ cs. EndHolds cs on) (top_popped reach c (open_columns fs) e) p))
      (λ e. (kept_top c (open_columns fs) e, s))

  mapping_holds : (c : ℕ) (fs : List OpenFrame) (on : Ending) → AtMost c (open_columns fs) × Sits fs
      → EndHolds (Left (open_columns fs)) on → EndHolds (Left (c ∷ open_columns fs)) (past_mapping x c fs on)
  mapping_holds c fs on s p =
      either_holds (Left (c ∷ open_columns fs)) (stands_left x c) (with_event (pointed MappingEnds x.at.start) on)
      (ending (InFrames (MappingFrame c Done ∷ fs)) [])
      (λ e. event_holds (Left (c ∷ open_columns fs)) (pointed MappingEnds x.at.start) on
      (subst (λ cs. EndHolds cs on) (top_popped reach c (open_columns fs) e) p))
      (λ e. (kept_top c (open_columns fs) e, s))

  asked_holds : (c : ℕ) (fs : List OpenFrame) (on : Ending) → AtMost c (open_columns fs) × Sits fs
      → EndHolds (Left (open_columns fs)) on → EndHolds (Left (c ∷ open_columns fs)) (past_asked x c fs on)
  asked_holds c fs on s p =
      either_holds (Left (c ∷ open_columns fs)) (ask_over (BlockIn c) x)
      (with_event (null x.at.start None) (past_mapping x c fs on))
      (ending (InFrames (MappingFrame c AskDone ∷ fs)) [])
      (λ e. event_holds (Left (c ∷ open_columns fs)) (null x.at.start None) (past_mapping x c fs on)
      (mapping_holds c fs on s p))
      (λ e. (kept_top c (open_columns fs) (not_left c (and_parts _ _ (not-false (bare_in x c) e)).1), s))

  blocks_hold : (e : Mark) (fs : List OpenFrame) → Blocks fs → Sits fs
      → EndHolds (Left (open_columns fs)) (finish_frames x e fs)
  blocks_hold e fs block_root s = (refl, tt)
  blocks_hold e fs (block_entry {loose = loose} {c = c} {fs = gs} b) s = sequence_holds loose c gs
      (finish_frames x x.at.start gs) s (blocks_hold x.at.start gs b s.2)
  blocks_hold e fs (block_asked {c = c} {fs = gs} b) s = asked_holds c gs (finish_frames x x.at.start gs) s
      (blocks_hold x.at.start gs b s.1)
  blocks_hold e fs (block_value {c = c} {fs = gs} b) s = mapping_holds c gs (finish_frames x x.at.start gs) s
      (blocks_hold x.at.start gs b s.1)

  -- where something may stand, no column ends
  kept_open : (fs : List OpenFrame) → Blocks fs → Sits fs → frames_empty fs x ≡ false
      → open_columns fs ≡ Left (open_columns fs)
  kept_open fs block_root s e = refl
  kept_open fs (block_entry {loose = true} {c = c} {fs = gs} b) s e = none_popped reach (open_columns gs)
      (at_most_behind reach c (open_columns gs) (or_parts (stands_left x c) _ e).0 s.1 (sits_fall gs s.2)).1
  kept_open fs (block_entry {loose = false} {c = c} {fs = gs} b) s e = kept_top c (open_columns gs)
      (or_parts (stands_left x c) _ e).0
  kept_open fs (block_asked {c = c} {fs = gs} b) s e = kept_top c (open_columns gs) (or_parts (stands_left x c) _ e).0
  kept_open fs (block_value {c = c} {fs = gs} b) s e = kept_top c (open_columns gs) (or_parts (stands_left x c) _ e).0

  hole_holds : (fs : List OpenFrame) → Blocks fs → Sits fs
      → EndHolds (Left (open_columns fs)) (choose (frames_empty fs x) (nothing_frames x fs) (ending (InFrames fs) []))
  hole_holds fs b s =
      either_holds (Left (open_columns fs)) (frames_empty fs x) (nothing_frames x fs) (ending (InFrames fs) [])
      (λ e. event_holds (Left (open_columns fs)) (nothing_event x fs) (finish_frames x (nothing_end fs) fs)
      (blocks_hold (nothing_end fs) fs b s))
      (λ e. (kept_open fs b s e, s))

  -- behind properties in a block, where their node goes on
  part_right : (c e : ℕ) (flag joined : Bool) → ((flag && nat_lt c e) || ((not flag && nat_lt c e) && joined)) ≡ true
      → nat_lt e c ≡ false
  part_right c e true joined f = let g : nat_lt c e ≡ true = first_true (nat_lt c e) f in grind (arith, nat_tests, g)
    where
      first_true : (a : Bool) → (a || false) ≡ true → a ≡ true
      first_true true p = refl
      first_true false p = absurd cc
  part_right c e false joined f = let g : nat_lt c e
      ≡ true = (and_parts (nat_lt c e) joined f).0 in grind (arith, nat_tests, g)

  same_right : (c e : ℕ) → ((e == c) || nat_lt c e) ≡ true → nat_lt e c ≡ false
  same_right c e f = on (e == c) refl f
    where
      on : (v : Bool) → (e == c) ≡ v → (v || nat_lt c e) ≡ true → nat_lt e c ≡ false
      on true g f = grind (arith, nat_tests, g)
      on false g f = grind (arith, nat_tests, f)

  lt_right : (c e : ℕ) → nat_lt c e ≡ true → nat_lt e c ≡ false
  lt_right c e f = grind (arith, nat_tests, f)

  goes_right : (c : ℕ) (p : TreeProperties) (kind : TerminalKind) → continues_node (RightOf c) p kind x.at ≡ true
      → nat_lt (reach_of kind x.at) c ≡ false
  goes_right c p (Part k) e = part_right c (edge x.at) x.at.begins_key (joins p k) e
  goes_right c p Dash e = lt_right c (edge x.at) e
  goes_right c p Question e = lt_right c (edge x.at) e
  goes_right c p (Colon None) e = lt_right c (edge x.at) e
  goes_right c p kind e = absurd cc

  goes_on : (c : ℕ) (p : TreeProperties) (kind : TerminalKind) → continues_node (ValueIn c) p kind x.at ≡ true
      → nat_lt (reach_of kind x.at) c ≡ false
  goes_on c p (Part k) e = part_right c (edge x.at) x.at.begins_key (joins p k) e
  goes_on c p Dash e = same_right c (edge x.at) e
  goes_on c p Question e = lt_right c (edge x.at) e
  goes_on c p (Colon None) e = lt_right c (edge x.at) e
  goes_on c p kind e = absurd cc

  kept_behind : (p : TreeProperties) (fs : List OpenFrame) → Blocks fs → Sits fs
      → continues_node (behind_property (frames_room fs)) p x.kind x.at ≡ true
      → open_columns fs ≡ Left (open_columns fs)
  kept_behind p fs block_root s e = refl
  kept_behind p fs (block_entry {loose = true} {c = c} {fs = gs} b) s e = none_popped reach (open_columns gs)
      (at_most_behind reach c (open_columns gs) (goes_right c p x.kind e) s.1 (sits_fall gs s.2)).1
  kept_behind p fs (block_entry {loose = false} {c = c} {fs = gs} b) s e = kept_top c (open_columns gs)
      (goes_right c p x.kind e)
  kept_behind p fs (block_asked {c = c} {fs = gs} b) s e = kept_top c (open_columns gs) (goes_on c p x.kind e)
  kept_behind p fs (block_value {c = c} {fs = gs} b) s e = kept_top c (open_columns gs) (goes_on c p x.kind e)

  -- in flow
  curly_asked_holds : (cs : List ℕ) (fs : List OpenFrame) → Holds cs (InFrames (FlowMappingFrame false Done ∷ fs))
      → EndHolds cs (past_curly_asked x fs)
  curly_asked_holds cs fs h =
      either_holds cs (ask_over (FlowIn Curly) x) (with_event (null x.at.start None) (past_curly fs))
      (ending (InFrames (FlowMappingFrame false AskDone ∷ fs)) [])
      (λ e. h) (λ e. h)

  made_holds : (cs : List ℕ) (fs : List OpenFrame) (on : Ending) → EndHolds cs on
      → Holds cs (InFrames (FlowMappingFrame true Done ∷ fs)) → EndHolds cs (past_made x fs on)
  made_holds cs fs on p h =
      either_holds cs (is_comma_kind x.kind || closes_kind Square x.kind)
      (with_event (pointed MappingEnds x.at.start) on) (ending (InFrames (FlowMappingFrame true Done ∷ fs)) [])
      (λ e. event_holds cs (pointed MappingEnds x.at.start) on p) (λ e. h)

  square_asked_holds : (cs : List ℕ) (fs : List OpenFrame) (on : Ending) → EndHolds cs on
      → Holds cs (InFrames (FlowPairFrame AskDone ∷ fs)) → EndHolds cs (past_square_asked x fs on)
  square_asked_holds cs fs on p h =
      either_holds cs (ask_over (FlowIn Square) x)
      (with_event (null x.at.start None) (with_event (pointed MappingEnds x.at.start) on))
      (ending (InFrames (FlowPairFrame AskDone ∷ fs)) [])
      (λ e. event_holds cs (null x.at.start None) (with_event (pointed MappingEnds x.at.start) on)
      (event_holds cs (pointed MappingEnds x.at.start) on p)) (λ e. h)

  empty_holds : (cs : List ℕ) (fs : List OpenFrame) → EndHolds cs (finish_frames x (nothing_end fs) fs)
      → Holds cs (InFrames fs) → EndHolds cs (choose (frames_empty fs x) (nothing_frames x fs)
      (ending (InFrames fs) []))
  empty_holds cs fs p h =
      either_holds cs (frames_empty fs x) (nothing_frames x fs) (ending (InFrames fs) [])
      (λ e. event_holds cs (nothing_event x fs) (finish_frames x (nothing_end fs) fs) p) (λ e. h)

  -- outside flow a lexeme stands right of the key that is due
  abbrev RightOfDue : List Bracket → Option ℕ → Type 0
  RightOfDue bs due = (c : ℕ) → bs ≡ [] → due ≡ Some c → stands_left x c ≡ false

  finish_holds : (e : Mark) {bs : List Bracket} {due : Option ℕ} (fs : List OpenFrame) → RightOfDue bs due
      → Encloses bs due fs → Sits fs → EndHolds (closed_columns bs reach (open_columns fs)) (finish_frames x e fs)
  finish_holds e fs r (in_blocks b) s = blocks_hold e fs b s
  finish_holds e fs r (in_key {c = c} {fs = gs} b) s = (kept_top c (open_columns gs) (r c refl refl), s)
  finish_holds e fs r (in_item p) s = (refl, s)
  finish_holds e fs r (in_curly p) s = (refl, s)
  finish_holds e fs r (in_curly_key p) s = (refl, s)
  finish_holds e fs r (in_curly_asked {fs = gs} p) s = curly_asked_holds (open_columns gs) gs (refl, s)
  finish_holds e fs r (in_curly_value p) s = (refl, s)
  finish_holds e fs r (in_made_key p) s = (refl, s)
  finish_holds e fs r (in_made_value {fs = gs} p) s = made_holds (open_columns gs) (FlowSequenceFrame false ∷ gs)
      (ending (InFrames (FlowSequenceFrame true ∷ gs)) []) (refl, s) (refl, s)
  finish_holds e fs r (in_pair_asked {fs = gs} p) s = square_asked_holds (open_columns gs)
      (FlowSequenceFrame false ∷ gs) (ending (InFrames (FlowSequenceFrame true ∷ gs)) []) (refl, s) (refl, s)
  finish_holds e fs r (in_pair_value p) s = (refl, s)

  kept_enclosed : {bs : List Bracket} {due : Option ℕ} (p : TreeProperties) (fs : List OpenFrame) → RightOfDue bs due
      → Encloses bs due fs → Sits fs → continues_node (behind_property (frames_room fs)) p x.kind x.at ≡ true
      → open_columns fs ≡ closed_columns bs reach (open_columns fs)
  kept_enclosed p fs r (in_blocks b) s e = kept_behind p fs b s e
  kept_enclosed p fs r (in_key {c = c} {fs = gs} b) s e = kept_top c (open_columns gs) (r c refl refl)
  kept_enclosed p fs r (in_item q) s e = refl
  kept_enclosed p fs r (in_curly q) s e = refl
  kept_enclosed p fs r (in_curly_key q) s e = refl
  kept_enclosed p fs r (in_curly_asked q) s e = refl
  kept_enclosed p fs r (in_curly_value q) s e = refl
  kept_enclosed p fs r (in_made_key q) s e = refl
  kept_enclosed p fs r (in_made_value q) s e = refl
  kept_enclosed p fs r (in_pair_asked q) s e = refl
  kept_enclosed p fs r (in_pair_value q) s e = refl

  properties_hold : {bs : List Bracket} {due : Option ℕ} (p : TreeProperties) (fs : List OpenFrame) → RightOfDue bs due
      → Encloses bs due fs → Sits fs → EndHolds (closed_columns bs reach (open_columns fs))
      (close_frames x (PropertiesFrame p ∷ fs))
  properties_hold {bs = bs} p fs r q s =
      either_holds (closed_columns bs reach (open_columns fs))
      (continues_node (behind_property (frames_room fs)) p x.kind x.at)
      (ending (InFrames (PropertiesFrame p ∷ fs)) [])
      (with_event (alone_event p (frames_indent fs)) (finish_frames x (properties_end p) fs))
      (λ e. (kept_enclosed p fs r q s e, s))
      (λ e. event_holds (closed_columns bs reach (open_columns fs)) (alone_event p (frames_indent fs))
      (finish_frames x (properties_end p) fs) (finish_holds (properties_end p) fs r q s))

  pub closed_hold : (bs : List Bracket) (due : Option ℕ) (may : Bool) (st : EventState) → RightOfDue bs due
      → Suits bs due may st → StateSits st → EndHolds (closed_columns bs reach (state_columns st)) (ended_by x st)
  closed_hold bs due may st r suits_fresh s = (refl, tt)
  closed_hold bs due may st r suits_directed s = (refl, tt)
  closed_hold bs due may st r suits_rooted s = (refl, tt)
  closed_hold bs due may st r (suits_blocks {fs = fs} block_root) s = hole_holds fs block_root s
  closed_hold bs due may st r (suits_blocks {fs = fs} (block_entry b)) s = hole_holds fs (block_entry b) s
  closed_hold bs due may st r (suits_blocks {fs = fs} (block_asked b)) s = hole_holds fs (block_asked b) s
  closed_hold bs due may st r (suits_blocks {fs = fs} (block_value b)) s = hole_holds fs (block_value b) s
  closed_hold bs due may st r (suits_item p) s = (refl, s)
  closed_hold bs due may st r (suits_curly p) s = (refl, s)
  closed_hold bs due may st r (suits_curly_asked {fs = gs} p) s = empty_holds (open_columns gs)
      (FlowMappingFrame false Asking ∷ gs) (curly_asked_holds (open_columns gs) gs (refl, s)) (refl, s)
  closed_hold bs due may st r (suits_curly_value {w = w} {fs = gs} p) s = empty_holds (open_columns gs)
      (FlowMappingFrame false (Value w) ∷ gs) (refl, s) (refl, s)
  closed_hold bs due may st r (suits_made_value {w = w} {fs = gs} p) s = empty_holds (open_columns gs)
      (FlowMappingFrame true (Value w) ∷ FlowSequenceFrame false ∷ gs)
      (made_holds (open_columns gs) (FlowSequenceFrame false ∷ gs) (ending (InFrames (FlowSequenceFrame true ∷ gs)) [])
      (refl, s) (refl, s)) (refl, s)
  closed_hold bs due may st r (suits_pair_asked {fs = gs} p) s = empty_holds (open_columns gs)
      (FlowPairFrame Asking ∷ FlowSequenceFrame false ∷ gs)
      (square_asked_holds (open_columns gs) (FlowSequenceFrame false ∷ gs)
      (ending (InFrames (FlowSequenceFrame true ∷ gs)) []) (refl, s) (refl, s)) (refl, s)
  closed_hold bs due may st r (suits_pair_value {w = w} {fs = gs} p) s = empty_holds (open_columns gs)
      (FlowPairFrame (Value w) ∷ FlowSequenceFrame false ∷ gs) (refl, s) (refl, s)
  closed_hold bs due may st r (suits_one {k = k} {i = i} {fs = fs} off p) s = properties_hold (One k i) fs r p s
  closed_hold bs due may st r (suits_two {k = k} {m = m} {i = i} {j = j} {fs = fs} off p) s = properties_hold
      (Two k i m j) fs r p s
  closed_hold bs due may st r (suits_past_entry {loose = loose} {c = c} {fs = gs} b) s = sequence_holds loose c gs
      (finish_frames x x.at.start gs) s (blocks_hold x.at.start gs b s.2)
  closed_hold bs due may st r (suits_key_done {c = c} {fs = gs} b) s = (kept_top c (open_columns gs) (r c refl refl), s)
  closed_hold bs due may st r (suits_ask_done {c = c} {fs = gs} b) s = asked_holds c gs (finish_frames x x.at.start gs)
      s (blocks_hold x.at.start gs b s.1)
  closed_hold bs due may st r (suits_done {c = c} {fs = gs} b) s = mapping_holds c gs (finish_frames x x.at.start gs) s
      (blocks_hold x.at.start gs b s.1)
  closed_hold bs due may st r (suits_item_done p) s = (refl, s)
  closed_hold bs due may st r (suits_curly_key_done p) s = (refl, s)
  closed_hold bs due may st r (suits_curly_ask_done {fs = gs} p) s = curly_asked_holds (open_columns gs) gs (refl, s)
  closed_hold bs due may st r (suits_curly_solo p) s = (refl, s)
  closed_hold bs due may st r (suits_curly_done p) s = (refl, s)
  closed_hold bs due may st r (suits_made_key_done p) s = (refl, s)
  closed_hold bs due may st r (suits_made_done {fs = gs} p) s = made_holds (open_columns gs)
      (FlowSequenceFrame false ∷ gs) (ending (InFrames (FlowSequenceFrame true ∷ gs)) []) (refl, s) (refl, s)
  closed_hold bs due may st r (suits_square_ask_done {fs = gs} p) s = square_asked_holds (open_columns gs)
      (FlowSequenceFrame false ∷ gs) (ending (InFrames (FlowSequenceFrame true ∷ gs)) []) (refl, s) (refl, s)
  closed_hold bs due may st r (suits_square_done p) s = (refl, s)

-- ---- taking

-- a key, a `-`, a `?` or a `:` without key begins an entry in its column
abbrev pub begun_if : Bool → ℕ → List ℕ → List ℕ
begun_if true c ns = push c ns
begun_if false c ns = ns

abbrev pub stepped : List Bracket → TerminalKind → At → List ℕ → List ℕ
stepped [] kind i cs = begun_if (begins_kind kind i.begins_key) (edge i) cs
stepped (b ∷ bs) kind i cs = cs

abbrev pub To : List ℕ → EventStep → Type 0
To cs y = FairNext y (Holds cs)

pub to_as : (y : EventStep) {cs ds : List ℕ} → cs ≡ ds → To cs y → To ds y
to_as y e p = subst (λ cs. To cs y) e p

pub put_holds : (e : Mark) {bs : List Bracket} {due : Option ℕ} {fs : List OpenFrame} → Encloses bs due fs → Sits fs
    → Holds (open_columns fs) (put_frames e fs)
put_holds e (in_blocks block_root) s = (refl, tt)
put_holds e (in_blocks (block_entry b)) s = (refl, s)
put_holds e (in_blocks (block_asked b)) s = (refl, s)
put_holds e (in_blocks (block_value b)) s = (refl, s)
put_holds e (in_key b) s = (refl, s)
put_holds e (in_item p) s = (refl, s)
put_holds e (in_curly p) s = (refl, s)
put_holds e (in_curly_key p) s = (refl, s)
put_holds e (in_curly_asked p) s = (refl, s)
put_holds e (in_curly_value p) s = (refl, s)
put_holds e (in_made_key p) s = (refl, s)
put_holds e (in_made_value p) s = (refl, s)
put_holds e (in_pair_asked p) s = (refl, s)
put_holds e (in_pair_value p) s = (refl, s)

module _ (stop : GrammarFault) (i : At) where
  pub part_holds : {bs : List Bracket} {due : Option ℕ} {fs : List OpenFrame} (p : TreeProperties) (k : PartKind)
      → Encloses bs due fs → Sits fs → To (open_columns fs) (part_frames stop fs p k i)
  part_holds NoProperties (Alias name) e s = put_holds _ e s
  part_holds NoProperties (Property k) e s = (refl, s)
  part_holds NoProperties (Scalar style text) e s = put_holds _ e s
  part_holds NoProperties (Open Square) e s = (refl, s)
  part_holds NoProperties (Open Curly) e s = (refl, s)
  part_holds (One m j) (Alias name) e s = tt
  part_holds {fs = fs} (One m j) (Property k) e s = if_next (Holds (open_columns fs)) (differ m k) stop
      (GoesTo (InFrames (PropertiesFrame (Two m j k i) ∷ fs)) []) (λ d. (refl, s))
  part_holds (One m j) (Scalar style text) e s = put_holds _ e s
  part_holds (One m j) (Open Square) e s = (refl, s)
  part_holds (One m j) (Open Curly) e s = (refl, s)
  part_holds (Two m j n h) (Alias name) e s = tt
  part_holds (Two m j n h) (Property k) e s = tt
  part_holds (Two m j n h) (Scalar style text) e s = put_holds _ e s
  part_holds (Two m j n h) (Open Square) e s = (refl, s)
  part_holds (Two m j n h) (Open Curly) e s = (refl, s)

  -- an entry in the column of a mapping, of which it may be the first
  pub entry_holds : {fs : List OpenFrame} (kind : TerminalKind) (c : ℕ) → Blocks fs
      → AtMost c (open_columns fs) × Sits fs
      → To (c ∷ open_columns fs) (entry_frames stop (BlockSite c fs) kind i)
  entry_holds {fs = fs} (Part k) c b s = after_next (Holds (c ∷ open_columns fs)) []
      (part_frames stop (MappingFrame c Key ∷ fs) NoProperties k i) (part_holds NoProperties k (in_key b) s)
  entry_holds Question c b s = (refl, s)
  entry_holds (Colon None) c b s = (refl, s)
  entry_holds kind c b s = tt

  pub square_holds : {bs : List Bracket} {due : Option ℕ} {fs : List OpenFrame} (kind : TerminalKind)
      → Encloses bs due fs
      → Sits fs → To (open_columns fs) (entry_frames stop (FlowSite Square fs) kind i)
  square_holds {fs = fs} (Part k) p s = after_next (Holds (open_columns fs))
      (site_opens (FlowSite Square fs) (Part k) i)
      (part_frames stop (FlowMappingFrame true Key ∷ FlowSequenceFrame false ∷ fs) NoProperties k i)
      (part_holds NoProperties k (in_made_key p) s)
  square_holds Question p s = (refl, s)
  square_holds (Colon None) p s = (refl, s)
  square_holds kind p s = tt

  pub curly_holds : {bs : List Bracket} {due : Option ℕ} {fs : List OpenFrame} (kind : TerminalKind)
      → Encloses bs due fs
      → Sits fs → To (open_columns fs) (entry_frames stop (FlowSite Curly fs) kind i)
  curly_holds {fs = fs} (Part k) p s = after_next (Holds (open_columns fs)) []
      (part_frames stop (FlowMappingFrame false Key ∷ fs) NoProperties k i)
      (part_holds NoProperties k (in_curly_key p) s)
  curly_holds Question p s = (refl, s)
  curly_holds (Colon None) p s = (refl, s)
  curly_holds kind p s = tt

  pub pair_holds : (fs : List OpenFrame) (p : TreeProperties) (kind : TerminalKind) → Blocks fs
      → AtMost (edge i) (open_columns fs) × Sits fs → To (edge i ∷ open_columns fs) (begin_pair_frames stop fs p kind i)
  pair_holds fs NoProperties kind block_root s = after_next (Holds (edge i ∷ open_columns fs))
      (mapping_start NoProperties (terminal kind i) (frames_indent fs) ∷ [])
      (entry_frames stop (BlockSite (edge i) fs) kind i) (entry_holds kind (edge i) block_root s)
  pair_holds fs NoProperties kind (block_entry b) s = after_next (Holds (edge i ∷ open_columns fs))
      (mapping_start NoProperties (terminal kind i) (frames_indent fs) ∷ [])
      (entry_frames stop (BlockSite (edge i) fs) kind i) (entry_holds kind (edge i) (block_entry b) s)
  pair_holds fs NoProperties kind (block_asked b) s = after_next (Holds (edge i ∷ open_columns fs))
      (mapping_start NoProperties (terminal kind i) (frames_indent fs) ∷ [])
      (entry_frames stop (BlockSite (edge i) fs) kind i) (entry_holds kind (edge i) (block_asked b) s)
  pair_holds fs NoProperties kind (block_value b) s = after_next (Holds (edge i ∷ open_columns fs))
      (mapping_start NoProperties (terminal kind i) (frames_indent fs) ∷ [])
      (entry_frames stop (BlockSite (edge i) fs) kind i) (entry_holds kind (edge i) (block_value b) s)
  pair_holds fs (One m j) kind b s = after_next (Holds (edge i ∷ open_columns fs))
      (mapping_start (One m j) (terminal kind i) (frames_indent fs) ∷ [])
      (entry_frames stop (BlockSite (edge i) fs) kind i) (entry_holds kind (edge i) b s)
  pair_holds fs (Two m j n h) kind b s = after_next (Holds (edge i ∷ open_columns fs))
      (mapping_start (Two m j n h) (terminal kind i) (frames_indent fs) ∷ [])
      (entry_frames stop (BlockSite (edge i) fs) kind i) (entry_holds kind (edge i) b s)

-- ---- places for a node

-- What a lexeme ends keeps the limit as it was, and what it begins counts one more.
use Rattle.std.proofs.Common.{◌≡◌, ℕ, suc, Bool, true, false, refl, ap, ◌∙◌, arith, ◌==◌, ◌&&◌, Some, None}
use Rattle.std.specs.Prelude.{nat_le}
use Rattle.granit_event_machine.specs.EventMachine.{PairAt, KeyDone, AskDone, Done, pair_frames}
use Rattle.granit_event_machine.specs.Guarded.{blocks_open, state_count}
use Rattle.granit_event_machine.specs.OpenWithin.{around_blocks, hole_blocks, around_within, hole_within, open_within}
use Rattle.granit_event_machine.specs.OpenWithin.{open_blocks}
use Rattle.granit_event_machine.specs.PlaceFrames.{site_in, hole_frames, pair_made, state_at}
use Rattle.granit_grammar.specs.TreeMachine.{NextPlace, Go, NotTaken, if_go, part_take, entry_take, entry_at}
use Rattle.granit_grammar.specs.TreeMachine.{plain_site, pair_site, want_take, take}
use Rattle.granit_language.specs.Choice.{choose}
use Rattle.granit_language.specs.Node.{TreeProperties, NoProperties, One, Two, Node, AliasNode, ScalarNode, Alone, Flow}
use Rattle.granit_language.specs.Node.{Sequence, Mapping, Content, Nothing, Just, Entries, Entry, Through, NoPair}
use Rattle.granit_language.specs.Node.{AfterPair, Pair, WithColon, AskOnly, SimpleKey, Asked, NoKey, NoLast, LastItem}
use Rattle.granit_language.specs.Node.{Single, Paired}
use Rattle.granit_language.specs.OpenPlace.{Bare, Explicit, Around, BlockPairs, FlowPairs, Hole, AtRoot, AtEntry}
use Rattle.granit_language.specs.OpenPlace.{AtItem, AtKey, AtAsk, AtColon, OpenPlace, Fresh, InDirectives, BehindRoot}
use Rattle.granit_language.specs.OpenPlace.{Want, PastEntry, PastKey, PastAsk, PastPair, PastItem, Ended, holder}
use Rattle.granit_language.specs.OpenPlace.{room_of}
use Rattle.granit_language.specs.Room.{room_behind, right_fits, loose_fits, indicates, opens, part_fits, differ}
use Rattle.granit_language.specs.Room.{continues_node, sequence_over, ask_over, place_fits, pair_over}
use Rattle.granit_language.specs.Settling.{put_in, empty_fits, end_entries, end_pair, end_ask, finish_at, settle_want}
use Rattle.granit_language.specs.Settling.{settle_place}
use Rattle.granit_language.specs.Terminal.{PartKind, Alias, Property, Scalar, Open, TerminalKind, Directive}
use Rattle.granit_language.specs.Terminal.{DocumentStart, DocumentEnd, TheEnd, Dash, Question, Comma, Colon, Close}
use Rattle.granit_language.specs.Terminal.{Part, At, Terminal, terminal, edge, stands_left, entry_in}
use Rattle.granit_language.specs.Within.{content_within, entries_within, pair_within}
use Rattle.granit_lexemes.specs.declared.layout.Bracket.TheVariants.{Square, Curly}
use Rattle.std.proofs.lemmas.Bool.Decides.{nat_tests}
use Rattle.granit_grammar.proofs.Sound.{either}

-- what stands before a place keeps a limit as something did
abbrev pub Keeps : ℕ → Bool → OpenPlace → Type 0
Keeps n b p = open_within n p ≡ b

abbrev Filled : ℕ → Hole → Content → Bool
Filled n r v = content_within n v (hole_blocks r) (hole_within n r)

put_keeps : (n : ℕ) (r : Hole) (v : Content) → Keeps n (Filled n r v) (put_in r v)
put_keeps n (AtRoot (Bare b)) Nothing = refl
put_keeps n (AtRoot (Bare b)) (Just t) = refl
put_keeps n (AtRoot (Explicit s i)) v = refl
put_keeps n (AtEntry r p loose c lead i) v = refl
put_keeps n (AtItem r p bracket o lead) Nothing = refl
put_keeps n (AtItem r p bracket o lead) (Just t) = refl
put_keeps n (AtKey r a f) Nothing = refl
put_keeps n (AtKey r a f) (Just t) = refl
put_keeps n (AtAsk r a q) v = refl
put_keeps n (AtColon r a left m) v = refl

entries_keep :
    (n : ℕ) (x : Terminal) (on : Content → OpenPlace) (r : Hole) (p : TreeProperties) (loose : Bool) (c : ℕ)
    (es : Entries) →
    ((v : Content) → Keeps n (Filled n r v) (on v)) →
    Keeps n (entries_within n es (suc (hole_blocks r)) (hole_within n r && nat_le (suc (hole_blocks r)) n))
    (end_entries x on r p loose c es)
entries_keep n x on r p loose c es h =
    either (Keeps n _) (sequence_over loose c x) _ _ (h (Just (Sequence p loose c es x.at.start))) refl

pair_keeps :
    (n : ℕ) (x : Terminal) (on : Content → OpenPlace) (r : Hole) (a : Around) (pair : Pair) →
    ((v : Content) → Keeps n (Filled n r v) (on v)) →
    Keeps n (pair_within n pair (around_blocks a (hole_blocks r)) (around_within n a (hole_blocks r) (hole_within n r)))
    (end_pair x on r a pair)
pair_keeps n x on r (BlockPairs p c lead) pair h =
    either (Keeps n _) (stands_left x c) _ _ (h (Just (Mapping p c (Through lead pair) x.at.start))) refl
pair_keeps n x on r (FlowPairs p bracket o lead) pair h = either (Keeps n _) (pair_over bracket pair x) _ _ refl refl

ask_keeps :
    (n : ℕ) (x : Terminal) (on : Content → OpenPlace) (r : Hole) (a : Around) (q : At) (v : Content) →
    ((v : Content) → Keeps n (Filled n r v) (on v)) →
    Keeps n (content_within n v (around_blocks a (hole_blocks r)) (around_within n a (hole_blocks r) (hole_within n r)))
    (end_ask x on r a q v)
ask_keeps n x on r a q v h =
    either (Keeps n _) (ask_over (holder a) x) _ _ (pair_keeps n x on r a (AskOnly q v x.at.start) h) refl

finish_keeps : (n : ℕ) (x : Terminal) (r : Hole) (v : Content) → Keeps n (Filled n r v) (finish_at x r v)
finish_keeps n x (AtRoot root) v = put_keeps n (AtRoot root) v
finish_keeps n x (AtEntry r p loose c lead i) v =
    entries_keep n x (finish_at x r) r p loose c (Entry lead i v) (finish_keeps n x r)
finish_keeps n x (AtItem r p bracket o lead) v = put_keeps n (AtItem r p bracket o lead) v
finish_keeps n x (AtKey r a f) v = put_keeps n (AtKey r a f) v
finish_keeps n x (AtAsk r a q) v = ask_keeps n x (finish_at x r) r a q v (finish_keeps n x r)
finish_keeps n x (AtColon r a left m) v = pair_keeps n x (finish_at x r) r a (WithColon left m v) (finish_keeps n x r)

want_keeps : (n : ℕ) (x : Terminal) (r : Hole) (p : TreeProperties) → Keeps n (hole_within n r) (settle_want x r p)
want_keeps n x r NoProperties = either (Keeps n _) (empty_fits r x) _ _ (finish_keeps n x r Nothing) refl
want_keeps n x r (One k i) =
    either (Keeps n _) (continues_node (room_behind (One k i) (room_of r)) (One k i) x.kind x.at) _ _ refl
    (finish_keeps n x r (Just (Alone (One k i))))
want_keeps n x r (Two k i m j) =
    either (Keeps n _) (continues_node (room_behind (Two k i m j) (room_of r)) (Two k i m j) x.kind x.at) _ _ refl
    (finish_keeps n x r (Just (Alone (Two k i m j))))

pub close_keeps : (n : ℕ) (x : Terminal) (p : OpenPlace) → Keeps n (open_within n p) (settle_place x p)
close_keeps n x (Want r p) = want_keeps n x r p
close_keeps n x (PastEntry r p loose c es) = entries_keep n x (finish_at x r) r p loose c es (finish_keeps n x r)
close_keeps n x (PastAsk r a q v) = ask_keeps n x (finish_at x r) r a q v (finish_keeps n x r)
close_keeps n x (PastPair r a pair) = pair_keeps n x (finish_at x r) r a pair (finish_keeps n x r)
close_keeps n x p = refl

-- A step begins a block collection, or begins none.
pub data StepKeeps (n : ℕ) (b : Bool) (d : ℕ) : OpenPlace → Type 0 where
  begins : {q : OpenPlace} → open_within n q ≡ (b && nat_le (suc d) n) → open_blocks q ≡ suc d → StepKeeps n b d q
  stays : {q : OpenPlace} → open_within n q ≡ b → open_blocks q ≡ d → StepKeeps n b d q

abbrev pub NextKeeps : ℕ → Bool → ℕ → NextPlace → Type 0
NextKeeps n b d (Go q) = StepKeeps n b d q
NextKeeps n b d NotTaken = Unit {0}

if_keeps : (n : ℕ) (b : Bool) (d : ℕ) (t : Bool) (m : NextPlace) → NextKeeps n b d m → NextKeeps n b d (if_go t m)
if_keeps n b d true m h = h
if_keeps n b d false m h = tt

choose_keep :
    (n : ℕ) (b : Bool) (d : ℕ) (t : Bool) (m k : NextPlace) → NextKeeps n b d m → NextKeeps n b d k →
    NextKeeps n b d (choose t m k)
choose_keep n b d true m k h g = h
choose_keep n b d false m k h g = g

-- it begins none
abbrev pub NextStays : ℕ → Bool → ℕ → NextPlace → Type 0
NextStays n b d (Go q) = (open_within n q ≡ b) × (open_blocks q ≡ d)
NextStays n b d NotTaken = Unit {0}

if_stays : (n : ℕ) (b : Bool) (d : ℕ) (t : Bool) (m : NextPlace) → NextStays n b d m → NextStays n b d (if_go t m)
if_stays n b d true m h = h
if_stays n b d false m h = tt

as_kept : (n : ℕ) (b : Bool) (d : ℕ) (m : NextPlace) → NextStays n b d m → NextKeeps n b d m
as_kept n b d (Go q) h = stays h.0 h.1
as_kept n b d NotTaken h = tt

as_begun : (n : ℕ) (b : Bool) (d : ℕ) (m : NextPlace)
    → NextStays n (b && nat_le (suc d) n) (suc d) m → NextKeeps n b d m
as_begun n b d (Go q) h = begins h.0 h.1
as_begun n b d NotTaken h = tt

pub put_blocks : (r : Hole) (t : Node) → open_blocks (put_in r (Just t)) ≡ hole_blocks r
put_blocks (AtRoot (Bare b)) t = refl
put_blocks (AtRoot (Explicit s i)) t = refl
put_blocks (AtEntry r p loose c lead i) t = refl
put_blocks (AtItem r p bracket o lead) t = refl
put_blocks (AtKey r a f) t = refl
put_blocks (AtAsk r a q) t = refl
put_blocks (AtColon r a left m) t = refl

node_stays :
    (n : ℕ) (r : Hole) (t : Node) → (content_within n (Just t) (hole_blocks r) (hole_within n r) ≡ hole_within n r) →
    NextStays n (hole_within n r) (hole_blocks r) (Go (put_in r (Just t)))
node_stays n r t e = (put_keeps n r (Just t) ∙ e, put_blocks r t)

filled_keeps : (n : ℕ) (r : Hole) (t : Node) → StepKeeps n (Filled n r (Just t)) (hole_blocks r) (put_in r (Just t))
filled_keeps n r t = stays (put_keeps n r (Just t)) (put_blocks r t)

pub part_stays :
    (n : ℕ) (r : Hole) (p : TreeProperties) (k : PartKind) (i : At) →
    NextStays n (hole_within n r) (hole_blocks r) (part_take r p k i)
part_stays n r NoProperties (Alias name) i = node_stays n r (AliasNode name i) refl
part_stays n r NoProperties (Property k) i = (refl, refl)
part_stays n r (One m j) (Property k) i = if_stays n _ _ (differ m k) _ (refl, refl)
part_stays n r p (Scalar style text) i = node_stays n r (ScalarNode p style text i) refl
part_stays n r p (Open bracket) i = (refl, refl)
part_stays n r p k i = tt

pub entry_stays :
    (n : ℕ) (r : Hole) (a : Around) (kind : TerminalKind) (i : At) →
    NextStays n (around_within n a (hole_blocks r) (hole_within n r)) (around_blocks a (hole_blocks r))
    (entry_take r a kind i)
entry_stays n r a (Part k) i = part_stays n (AtKey r a (terminal (Part k) i)) NoProperties k i
entry_stays n r a Question i = (refl, refl)
entry_stays n r a (Colon None) i = (refl, refl)
entry_stays n r a kind i = tt

-- a new block mapping
block_begins :
    (n : ℕ) (r : Hole) (p : TreeProperties) (kind : TerminalKind) (i : At) →
    NextKeeps n (hole_within n r) (hole_blocks r) (entry_take r (BlockPairs p (edge i) NoPair) kind i)
block_begins n r p kind i = as_begun n _ _ _ (entry_stays n r (BlockPairs p (edge i) NoPair) kind i)

plain_keeps :
    (n : ℕ) (r : Hole) (kind : TerminalKind) (i : At) →
    NextKeeps n (hole_within n r) (hole_blocks r) (entry_at (plain_site r i) kind i)
plain_keeps n (AtItem r q bracket o lead) kind i = as_kept n _ _ _ (entry_stays n r (FlowPairs q bracket o lead) kind i)
plain_keeps n (AtRoot root) kind i = block_begins n (AtRoot root) NoProperties kind i
plain_keeps n (AtEntry r p loose c lead j) kind i = block_begins n (AtEntry r p loose c lead j) NoProperties kind i
plain_keeps n (AtKey r a f) kind i = block_begins n (AtKey r a f) NoProperties kind i
plain_keeps n (AtAsk r a q) kind i = block_begins n (AtAsk r a q) NoProperties kind i
plain_keeps n (AtColon r a left m) kind i = block_begins n (AtColon r a left m) NoProperties kind i

site_keeps :
    (n : ℕ) (r : Hole) (p : TreeProperties) (kind : TerminalKind) (i : At) →
    NextKeeps n (hole_within n r) (hole_blocks r) (entry_at (pair_site r p i) kind i)
site_keeps n r NoProperties kind i = plain_keeps n r kind i
site_keeps n r (One k j) kind i = block_begins n r (One k j) kind i
site_keeps n r (Two k j m h) kind i = block_begins n r (Two k j m h) kind i

want_next :
    (n : ℕ) (r : Hole) (p : TreeProperties) (kind : TerminalKind) (i : At) →
    NextKeeps n (hole_within n r) (hole_blocks r) (want_take r p kind i)
want_next n r p (Part k) i =
    choose_keep n _ _ (opens (room_behind p (room_of r)) i) _ _ (site_keeps n r p (Part k) i)
    (if_keeps n _ _ (part_fits (room_behind p (room_of r)) i) _ (as_kept n _ _ _ (part_stays n r p k i)))
want_next n r p Dash i =
    choose_keep n _ _ (loose_fits (room_behind p (room_of r)) (edge i)) _ _ (begins refl refl)
    (if_keeps n _ _ (right_fits (room_behind p (room_of r)) (edge i)) _ (begins refl refl))
want_next n r p Question i = if_keeps n _ _ (indicates (room_behind p (room_of r)) i) _ (site_keeps n r p Question i)
want_next n r p (Colon None) i =
    if_keeps n _ _ (indicates (room_behind p (room_of r)) i) _ (site_keeps n r p (Colon None) i)
want_next n (AtItem r q Square o lead) NoProperties (Close Square) i = filled_keeps n r (Flow q Square o lead NoLast i)
want_next n (AtItem r q Curly o lead) NoProperties (Close Curly) i = filled_keeps n r (Flow q Curly o lead NoLast i)
want_next n r p kind i = tt

pub take_keeps :
    (n : ℕ) (p : OpenPlace) (kind : TerminalKind) (i : At) →
    NextKeeps n (open_within n p) (open_blocks p) (take p kind i)
take_keeps n (Fresh b) (Directive d) i = stays refl refl
take_keeps n (Fresh b) DocumentStart i = stays refl refl
take_keeps n (Fresh b) DocumentEnd i = stays refl refl
take_keeps n (Fresh b) TheEnd i = stays refl refl
take_keeps n (Fresh b) kind i = want_next n (AtRoot (Bare b)) NoProperties kind i
take_keeps n (InDirectives ds) (Directive d) i = stays refl refl
take_keeps n (InDirectives ds) DocumentStart i = stays refl refl
take_keeps n (BehindRoot ro) DocumentStart i = stays refl refl
take_keeps n (BehindRoot ro) DocumentEnd i = stays refl refl
take_keeps n (BehindRoot ro) TheEnd i = stays refl refl
take_keeps n (Want r p) kind i = want_next n r p kind i
take_keeps n (PastEntry r p loose c es) Dash i = if_keeps n _ _ (edge i == c) _ (stays refl refl)
take_keeps n (PastKey r a f k) (Colon (Some m)) i = stays refl refl
take_keeps n (PastAsk r a q v) (Colon None) i = if_keeps n _ _ (place_fits (holder a) i) _ (stays refl refl)
take_keeps n (PastPair r (BlockPairs p c lead) pair) kind i =
    if_keeps n _ _ (entry_in (terminal kind i) c) _
    (as_kept n _ _ _ (entry_stays n r (BlockPairs p c (AfterPair (Through lead pair))) kind i))
take_keeps n (PastPair r (FlowPairs p Curly o lead) pair) Comma i = stays refl refl
take_keeps n (PastPair r (FlowPairs p Curly o lead) pair) (Close Curly) i =
    filled_keeps n r (Flow p Curly o lead (LastItem (Paired pair)) i)
take_keeps n (PastItem r p bracket o lead item) Comma i = stays refl refl
take_keeps n (PastItem r p Square o lead item) (Close Square) i =
    filled_keeps n r (Flow p Square o lead (LastItem item) i)
take_keeps n (PastItem r p Curly o lead item) (Close Curly) i = filled_keeps n r (Flow p Curly o lead (LastItem item) i)
take_keeps n p kind i = tt

-- ---- what only ends begins none

-- the end, a closer, a `:` with its key, a `---`
abbrev pub IsClosing : TerminalKind → Type 0
IsClosing TheEnd = Unit {0}
IsClosing (Close bracket) = Unit {0}
IsClosing (Colon (Some m)) = Unit {0}
IsClosing DocumentStart = Unit {0}
IsClosing kind = ⊥

filled_stays :
    (n : ℕ) (r : Hole) (t : Node) → NextStays n (Filled n r (Just t)) (hole_blocks r) (Go (put_in r (Just t)))
filled_stays n r t = (put_keeps n r (Just t), put_blocks r t)

pub closing_stays :
    (n : ℕ) (p : OpenPlace) (kind : TerminalKind) (i : At) → IsClosing kind →
    NextStays n (open_within n p) (open_blocks p) (take p kind i)
closing_stays n (Fresh b) TheEnd i c = (refl, refl)
closing_stays n (BehindRoot ro) TheEnd i c = (refl, refl)
closing_stays n (PastPair r (BlockPairs p d lead) pair) TheEnd i c = tt
closing_stays n (PastPair r (FlowPairs p Square o lead) pair) TheEnd i c = tt
closing_stays n (PastItem r p Square o lead item) TheEnd i c = tt
closing_stays n (PastPair r (FlowPairs p Curly o lead) pair) TheEnd i c = tt
closing_stays n (PastItem r p Curly o lead item) TheEnd i c = tt
closing_stays n p TheEnd i c = tt
closing_stays n (Fresh b) DocumentStart i c = (refl, refl)
closing_stays n (InDirectives ds) DocumentStart i c = (refl, refl)
closing_stays n (BehindRoot ro) DocumentStart i c = (refl, refl)
closing_stays n (PastPair r (BlockPairs p d lead) pair) DocumentStart i c = tt
closing_stays n (PastPair r (FlowPairs p Square o lead) pair) DocumentStart i c = tt
closing_stays n (PastItem r p Square o lead item) DocumentStart i c = tt
closing_stays n (PastPair r (FlowPairs p Curly o lead) pair) DocumentStart i c = tt
closing_stays n (PastItem r p Curly o lead item) DocumentStart i c = tt
closing_stays n p DocumentStart i c = tt
closing_stays n (PastKey r a f k) (Colon (Some m)) i c = (refl, refl)
closing_stays n (PastPair r (BlockPairs p d lead) pair) (Colon (Some m)) i c = tt
closing_stays n (PastPair r (FlowPairs p Square o lead) pair) (Colon (Some m)) i c = tt
closing_stays n (PastItem r p Square o lead item) (Colon (Some m)) i c = tt
closing_stays n (PastPair r (FlowPairs p Curly o lead) pair) (Colon (Some m)) i c = tt
closing_stays n (PastItem r p Curly o lead item) (Colon (Some m)) i c = tt
closing_stays n p (Colon (Some m)) i c = tt
closing_stays n (Want (AtItem r q Square o lead) NoProperties) (Close Square) i c =
    filled_stays n r (Flow q Square o lead NoLast i)
closing_stays n (Want (AtItem r q Curly o lead) NoProperties) (Close Curly) i c =
    filled_stays n r (Flow q Curly o lead NoLast i)
closing_stays n (PastPair r (BlockPairs p d lead) pair) (Close bracket) i c = tt
closing_stays n (PastPair r (FlowPairs p Curly o lead) pair) (Close Curly) i c =
    filled_stays n r (Flow p Curly o lead (LastItem (Paired pair)) i)
closing_stays n (PastItem r p Square o lead item) (Close Square) i c =
    filled_stays n r (Flow p Square o lead (LastItem item) i)
closing_stays n (PastItem r p Curly o lead item) (Close Curly) i c =
    filled_stays n r (Flow p Curly o lead (LastItem item) i)
closing_stays n p (Close bracket) i c = tt
closing_stays n p kind i c = absurd c

-- ---- ending leaves no more around

abbrev AtMost : ℕ → OpenPlace → Type 0
AtMost d q = nat_le (open_blocks q) d ≡ true

less : (a d : ℕ) → nat_le (suc a) d ≡ true → nat_le a d ≡ true
less a d e = grind (arith, nat_tests)

around_less : (a : Around) (m d : ℕ) → nat_le (around_blocks a m) d ≡ true → nat_le m d ≡ true
around_less (BlockPairs p c lead) m d e = less m d e
around_less (FlowPairs p bracket o lead) m d e = e

zero_most : (m d : ℕ) → nat_le m d ≡ true → nat_le 0 d ≡ true
zero_most m d e = grind (arith, nat_tests)

put_most : (d : ℕ) (r : Hole) (v : Content) → nat_le (hole_blocks r) d ≡ true → AtMost d (put_in r v)
put_most d (AtRoot (Bare b)) Nothing e = e
put_most d (AtRoot (Bare b)) (Just t) e = e
put_most d (AtRoot (Explicit s i)) v e = e
put_most d (AtEntry r p loose c lead i) v e = e
put_most d (AtItem r p bracket o lead) Nothing e = e
put_most d (AtItem r p bracket o lead) (Just t) e = e
put_most d (AtKey r a f) Nothing e = e
put_most d (AtKey r a f) (Just t) e = e
put_most d (AtAsk r a q) v e = e
put_most d (AtColon r a left m) v e = e

entries_most :
    (d : ℕ) (x : Terminal) (on : Content → OpenPlace) (r : Hole) (p : TreeProperties) (loose : Bool) (c : ℕ)
    (es : Entries) →
    ((v : Content) → AtMost d (on v)) → nat_le (suc (hole_blocks r)) d ≡ true →
    AtMost d (end_entries x on r p loose c es)
entries_most d x on r p loose c es h e =
    either (AtMost d) (sequence_over loose c x) _ _ (h (Just (Sequence p loose c es x.at.start))) e

pair_most :
    (d : ℕ) (x : Terminal) (on : Content → OpenPlace) (r : Hole) (a : Around) (pair : Pair) →
    ((v : Content) → AtMost d (on v)) → nat_le (around_blocks a (hole_blocks r)) d ≡ true →
    AtMost d (end_pair x on r a pair)
pair_most d x on r (BlockPairs p c lead) pair h e =
    either (AtMost d) (stands_left x c) _ _ (h (Just (Mapping p c (Through lead pair) x.at.start))) e
pair_most d x on r (FlowPairs p bracket o lead) pair h e = either (AtMost d) (pair_over bracket pair x) _ _ e e

ask_most :
    (d : ℕ) (x : Terminal) (on : Content → OpenPlace) (r : Hole) (a : Around) (q : At) (v : Content) →
    ((v : Content) → AtMost d (on v)) → nat_le (around_blocks a (hole_blocks r)) d ≡ true →
    AtMost d (end_ask x on r a q v)
ask_most d x on r a q v h e =
    either (AtMost d) (ask_over (holder a) x) _ _ (pair_most d x on r a (AskOnly q v x.at.start) h e) e

finish_most :
    (d : ℕ) (x : Terminal) (r : Hole) (v : Content) → nat_le (hole_blocks r) d ≡ true → AtMost d (finish_at x r v)
finish_most d x (AtRoot root) v e = put_most d (AtRoot root) v e
finish_most d x (AtEntry r p loose c lead i) v e =
    entries_most d x (finish_at x r) r p loose c (Entry lead i v) (λ v. finish_most d x r v (less (hole_blocks r) d e))
    e
finish_most d x (AtItem r p bracket o lead) v e = put_most d (AtItem r p bracket o lead) v e
finish_most d x (AtKey r a f) v e = put_most d (AtKey r a f) v e
finish_most d x (AtAsk r a q) v e =
    ask_most d x (finish_at x r) r a q v (λ v. finish_most d x r v (around_less a (hole_blocks r) d e)) e
finish_most d x (AtColon r a left m) v e =
    pair_most d x (finish_at x r) r a (WithColon left m v)
    (λ v. finish_most d x r v (around_less a (hole_blocks r) d e)) e

want_most :
    (d : ℕ) (x : Terminal) (r : Hole) (p : TreeProperties) → nat_le (hole_blocks r) d ≡ true →
    AtMost d (settle_want x r p)
want_most d x r NoProperties e = either (AtMost d) (empty_fits r x) _ _ (finish_most d x r Nothing e) e
want_most d x r (One k i) e =
    either (AtMost d) (continues_node (room_behind (One k i) (room_of r)) (One k i) x.kind x.at) _ _ e
    (finish_most d x r (Just (Alone (One k i))) e)
want_most d x r (Two k i m j) e =
    either (AtMost d) (continues_node (room_behind (Two k i m j) (room_of r)) (Two k i m j) x.kind x.at) _ _ e
    (finish_most d x r (Just (Alone (Two k i m j))) e)

pub close_most :
    (d : ℕ) (x : Terminal) (p : OpenPlace) → nat_le (open_blocks p) d ≡ true →
    nat_le (open_blocks (settle_place x p)) d ≡ true
close_most d x (Want r p) e = want_most d x r p e
close_most d x (PastEntry r p loose c es) e =
    entries_most d x (finish_at x r) r p loose c es (λ v. finish_most d x r v (less (hole_blocks r) d e)) e
close_most d x (PastAsk r a q v) e =
    ask_most d x (finish_at x r) r a q v (λ v. finish_most d x r v (around_less a (hole_blocks r) d e)) e
close_most d x (PastPair r a pair) e =
    pair_most d x (finish_at x r) r a pair (λ v. finish_most d x r v (around_less a (hole_blocks r) d e)) e
close_most d x p e = e

-- ---- the frames count them

frames_count : (r : Hole) → blocks_open (hole_frames r) ≡ hole_blocks r
frames_count (AtRoot (Bare b)) = refl
frames_count (AtRoot (Explicit s i)) = refl
frames_count (AtEntry r p loose c lead i) = ap suc (frames_count r)
frames_count (AtItem r p Square o lead) = frames_count r
frames_count (AtItem r p Curly o lead) = frames_count r
frames_count (AtKey r (BlockPairs p c lead) f) = ap suc (frames_count r)
frames_count (AtKey r (FlowPairs p Square o lead) f) = frames_count r
frames_count (AtKey r (FlowPairs p Curly o lead) f) = frames_count r
frames_count (AtAsk r (BlockPairs p c lead) q) = ap suc (frames_count r)
frames_count (AtAsk r (FlowPairs p Square o lead) q) = frames_count r
frames_count (AtAsk r (FlowPairs p Curly o lead) q) = frames_count r
frames_count (AtColon r (BlockPairs p c lead) left m) = ap suc (frames_count r)
frames_count (AtColon r (FlowPairs p Curly o lead) left m) = frames_count r
frames_count (AtColon r (FlowPairs p Square o lead) (SimpleKey f t n) m) = frames_count r
frames_count (AtColon r (FlowPairs p Square o lead) (Asked j v) m) = frames_count r
frames_count (AtColon r (FlowPairs p Square o lead) NoKey m) = frames_count r

pair_count :
    (r : Hole) (a : Around) (made : Bool) (at : PairAt) →
    blocks_open (pair_frames (site_in a (hole_frames r)) made at) ≡ around_blocks a (hole_blocks r)
pair_count r (BlockPairs p c lead) made at = ap suc (frames_count r)
pair_count r (FlowPairs p Square o lead) true at = frames_count r
pair_count r (FlowPairs p Square o lead) false at = frames_count r
pair_count r (FlowPairs p Curly o lead) made at = frames_count r

pub count_same : (p : OpenPlace) → state_count (state_at p) ≡ open_blocks p
count_same (Fresh b) = refl
count_same (InDirectives ds) = refl
count_same (BehindRoot ro) = refl
count_same (Ended s) = refl
count_same (Want r NoProperties) = frames_count r
count_same (Want r (One k i)) = frames_count r
count_same (Want r (Two k i m j)) = frames_count r
count_same (PastEntry r p loose c es) = ap suc (frames_count r)
count_same (PastKey r a f k) = pair_count r a true KeyDone
count_same (PastAsk r a q v) = pair_count r a false AskDone
count_same (PastPair r a pair) = pair_count r a (pair_made pair) Done
count_same (PastItem r p Square o lead item) = frames_count r
count_same (PastItem r p Curly o lead (Single t)) = frames_count r
count_same (PastItem r p Curly o lead (Paired pair)) = frames_count r

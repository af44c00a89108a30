-- The machine that builds trees: one step for each lexeme.
use Rattle.std.specs.Prelude.{Bool, true, false, ◌==◌, List, [], ◌∷◌, Some, None}
use Rattle.granit_language.specs.Choice.{choose}
use Rattle.granit_language.specs.Node.{TreeProperties, NoProperties, One, Two, AliasNode, ScalarNode, Flow, Just}
use Rattle.granit_language.specs.Node.{NoEntry, AfterEntry, Through, NoPair, AfterPair, SimpleKey, Asked, NoKey, NoItem}
use Rattle.granit_language.specs.Node.{AfterItem, NoLast, LastItem, Paired, Beginning, ExtraEnd, Closed, FirstDirective}
use Rattle.granit_language.specs.Node.{NextDirective, AtFresh, AfterDirectives, AfterRoot, Stream, EndFresh, EndRooted}
use Rattle.granit_language.specs.OpenPlace.{Bare, Explicit, Around, BlockPairs, FlowPairs, Hole, AtRoot, AtEntry}
use Rattle.granit_language.specs.OpenPlace.{AtItem, AtKey, AtAsk, AtColon, OpenPlace, Fresh, InDirectives, BehindRoot}
use Rattle.granit_language.specs.OpenPlace.{Ended, Want, PastEntry, PastKey, PastAsk, PastPair, PastItem, holder}
use Rattle.granit_language.specs.OpenPlace.{room_of}
use Rattle.granit_language.specs.Room.{room_behind, right_fits, loose_fits, indicates, opens, part_fits, differ}
use Rattle.granit_language.specs.Room.{place_fits}
use Rattle.granit_language.specs.Settling.{put_in, settle_place}
use Rattle.granit_language.specs.Terminal.{PartKind, Alias, Property, Scalar, Open, TerminalKind, Directive}
use Rattle.granit_language.specs.Terminal.{DocumentStart, DocumentEnd, TheEnd, Dash, Question, Comma, Colon, Close}
use Rattle.granit_language.specs.Terminal.{Part, At, Terminal, terminal, edge, entry_in}
use Rattle.granit_lexemes.specs.declared.layout.Bracket.TheVariants.{Square, Curly}

pub data NextPlace : Type 0 where
  Go : OpenPlace → NextPlace
  NotTaken : NextPlace

abbrev pub if_go : Bool → NextPlace → NextPlace
if_go true n = n
if_go false n = NotTaken

-- a lexeme of a node, behind properties
abbrev pub part_take : Hole → TreeProperties → PartKind → At → NextPlace
part_take r NoProperties (Alias name) i = Go (put_in r (Just (AliasNode name i)))
part_take r NoProperties (Property k) i = Go (Want r (One k i))
part_take r (One m j) (Property k) i = if_go (differ m k) (Go (Want r (Two m j k i)))
part_take r p (Scalar style text) i = Go (put_in r (Just (ScalarNode p style text i)))
part_take r p (Open bracket) i = Go (Want (AtItem r p bracket i NoItem) NoProperties)
part_take r p k i = NotTaken

-- the first lexeme of a pair
abbrev pub entry_take : Hole → Around → TerminalKind → At → NextPlace
entry_take r a (Part k) i = part_take (AtKey r a (terminal (Part k) i)) NoProperties k i
entry_take r a Question i = Go (Want (AtAsk r a i) NoProperties)
entry_take r a (Colon None) i = Go (Want (AtColon r a NoKey i) NoProperties)
entry_take r a kind i = NotTaken

pub data Site : Type 0 where
  site : Hole → Around → Site

abbrev pub entry_at : Site → TerminalKind → At → NextPlace
entry_at (site r a) kind i = entry_take r a kind i

-- the collection of a pair that begins at a hole
abbrev pub plain_site : Hole → At → Site
plain_site (AtItem r q bracket o lead) i = site r (FlowPairs q bracket o lead)
plain_site r i = site r (BlockPairs NoProperties (edge i) NoPair)

-- the same behind properties
abbrev pub pair_site : Hole → TreeProperties → At → Site
pair_site r NoProperties i = plain_site r i
pair_site r p i = site r (BlockPairs p (edge i) NoPair)

-- a lexeme at a hole, behind properties
abbrev pub want_take : Hole → TreeProperties → TerminalKind → At → NextPlace
want_take r p (Part k) i =
    choose (opens (room_behind p (room_of r)) i) (entry_at (pair_site r p i) (Part k) i)
    (if_go (part_fits (room_behind p (room_of r)) i) (part_take r p k i))
want_take r p Dash i =
    choose (loose_fits (room_behind p (room_of r)) (edge i))
    (Go (Want (AtEntry r p true (edge i) NoEntry i) NoProperties))
    (if_go (right_fits (room_behind p (room_of r)) (edge i))
    (Go (Want (AtEntry r p false (edge i) NoEntry i) NoProperties)))
want_take r p Question i = if_go (indicates (room_behind p (room_of r)) i) (entry_at (pair_site r p i) Question i)
want_take r p (Colon None) i =
    if_go (indicates (room_behind p (room_of r)) i) (entry_at (pair_site r p i) (Colon None) i)
want_take (AtItem r q Square o lead) NoProperties (Close Square) i =
    Go (put_in r (Just (Flow q Square o lead NoLast i)))
want_take (AtItem r q Curly o lead) NoProperties (Close Curly) i = Go (put_in r (Just (Flow q Curly o lead NoLast i)))
want_take r p kind i = NotTaken

-- a lexeme where nothing ends before it
abbrev pub take : OpenPlace → TerminalKind → At → NextPlace
take (Fresh b) (Directive d) i = Go (InDirectives (FirstDirective b d i))
take (Fresh b) DocumentStart i = Go (Want (AtRoot (Explicit (AtFresh b) i)) NoProperties)
take (Fresh b) DocumentEnd i = Go (Fresh (ExtraEnd b i))
take (Fresh b) TheEnd i = Go (Ended (EndFresh b i))
take (Fresh b) kind i = want_take (AtRoot (Bare b)) NoProperties kind i
take (InDirectives ds) (Directive d) i = Go (InDirectives (NextDirective ds d i))
take (InDirectives ds) DocumentStart i = Go (Want (AtRoot (Explicit (AfterDirectives ds) i)) NoProperties)
take (BehindRoot ro) DocumentStart i = Go (Want (AtRoot (Explicit (AfterRoot ro) i)) NoProperties)
take (BehindRoot ro) DocumentEnd i = Go (Fresh (Closed ro i))
take (BehindRoot ro) TheEnd i = Go (Ended (EndRooted ro i))
take (Want r p) kind i = want_take r p kind i
take (PastEntry r p loose c es) Dash i =
    if_go (edge i == c) (Go (Want (AtEntry r p loose c (AfterEntry es) i) NoProperties))
take (PastKey r a f k) (Colon (Some n)) i = Go (Want (AtColon r a (SimpleKey f k n) i) NoProperties)
take (PastAsk r a q v) (Colon None) i =
    if_go (place_fits (holder a) i) (Go (Want (AtColon r a (Asked q v) i) NoProperties))
take (PastPair r (BlockPairs p c lead) pair) kind i =
    if_go (entry_in (terminal kind i) c) (entry_take r (BlockPairs p c (AfterPair (Through lead pair))) kind i)
take (PastPair r (FlowPairs p Curly o lead) pair) Comma i =
    Go (Want (AtItem r p Curly o (AfterItem lead (Paired pair) i)) NoProperties)
take (PastPair r (FlowPairs p Curly o lead) pair) (Close Curly) i =
    Go (put_in r (Just (Flow p Curly o lead (LastItem (Paired pair)) i)))
take (PastItem r p bracket o lead item) Comma i = Go (Want (AtItem r p bracket o (AfterItem lead item i)) NoProperties)
take (PastItem r p Square o lead item) (Close Square) i = Go (put_in r (Just (Flow p Square o lead (LastItem item) i)))
take (PastItem r p Curly o lead item) (Close Curly) i = Go (put_in r (Just (Flow p Curly o lead (LastItem item) i)))
take p kind i = NotTaken

abbrev pub tree_step : OpenPlace → Terminal → NextPlace
tree_step p l = take (settle_place l p) l.kind l.at

pub data TreeAnswer : Type 0 where
  ReadAs : Stream → TreeAnswer
  -- the open place, once what the lexeme ends is finished
  RefusedAt : OpenPlace → Terminal → TreeAnswer
  Short : OpenPlace → TreeAnswer

abbrev pub at_end : OpenPlace → TreeAnswer
at_end (Ended s) = ReadAs s
at_end p = Short p

abbrev pub tree_goes : NextPlace → OpenPlace → Terminal → (OpenPlace → TreeAnswer) → TreeAnswer
tree_goes (Go p') p l on = on p'
tree_goes NotTaken p l on = RefusedAt p l

abbrev pub parse : List Terminal → OpenPlace → TreeAnswer
parse [] p = at_end p
parse (l ∷ ls) p = tree_goes (take (settle_place l p) l.kind l.at) (settle_place l p) l (parse ls)

abbrev pub tree_start : OpenPlace
tree_start = Fresh Beginning

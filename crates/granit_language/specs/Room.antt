-- What a place demands of the node there, and what may follow (YAML 1.2.2, 6.1, 7.4 and 8.2). Each test is one for the
-- machines and for the trees.
use Rattle.std.specs.Prelude.{◌≡◌, ℕ, Bool, true, false, ◌&&◌, ◌||◌, not, ◌==◌, nat_lt, None}
use Rattle.granit_language.specs.Node.{TreeProperties, NoProperties, One, Two, Pair, WithColon, AskOnly, Left, Asked}
use Rattle.granit_language.specs.Terminal.{PropertyKind, Anchor, Tag, PartKind, Alias, Property, TerminalKind, Dash}
use Rattle.granit_language.specs.Terminal.{Question, Colon, Part, At, Terminal, terminal, edge, stands_left, dash_in}
use Rattle.granit_language.specs.Terminal.{entry_in, bare_in, is_comma_kind, closes_kind, is_bare_kind}
use Rattle.granit_lexemes.specs.declared.layout.Bracket.{Bracket}
use Rattle.granit_lexemes.specs.declared.layout.Bracket.TheVariants.{Square, Curly}

-- the collection around a pair: a block mapping in a column, or a flow collection
pub data Holder : Type 0 where
  BlockIn : ℕ → Holder
  FlowIn : Bracket → Holder

pub data Room : Type 0 where
  RightOf : ℕ → Room
  -- right of a column, or an indentless sequence in it (8.2.3)
  ValueIn : ℕ → Room
  -- a simple key whose first lexeme is given (7.4.2, 8.2.2)
  KeyIn : Holder → Terminal → Room
  -- a simple key outside flow, behind its properties
  BehindKey : ℕ → Room
  -- directly behind a flow collection's opener or a comma
  ItemIn : Room
  -- elsewhere in flow
  Inside : Room

-- behind properties
abbrev pub behind_property : Room → Room
behind_property (RightOf n) = RightOf n
behind_property (ValueIn c) = ValueIn c
behind_property (KeyIn (BlockIn c) f) = BehindKey c
behind_property (KeyIn (FlowIn bracket) f) = Inside
behind_property (BehindKey c) = BehindKey c
behind_property ItemIn = Inside
behind_property Inside = Inside

abbrev pub room_behind : TreeProperties → Room → Room
room_behind NoProperties room = room
room_behind (One k i) room = behind_property room
room_behind (Two k i m j) room = behind_property room

-- a block collection may stand in column e
abbrev pub right_fits : Room → ℕ → Bool
right_fits (RightOf n) e = nat_lt n e
right_fits (ValueIn c) e = nat_lt c e
right_fits room e = false

-- an indentless sequence may stand in column e
abbrev pub loose_fits : Room → ℕ → Bool
loose_fits (ValueIn c) e = e == c
loose_fits room e = false

abbrev pub sequence_fits : Room → Bool → ℕ → Bool
sequence_fits room true c = loose_fits room c
sequence_fits room false c = right_fits room c

-- a pair may begin here
abbrev pub indicates : Room → At → Bool
indicates ItemIn i = true
indicates room i = right_fits room (edge i)

-- a pair begins here, with its simple key
abbrev pub opens : Room → At → Bool
opens room i = i.begins_key && indicates room i

-- a lexeme of a node that is no simple key
abbrev pub part_fits : Room → At → Bool
part_fits (RightOf n) i = not i.begins_key && nat_lt n (edge i)
part_fits (ValueIn c) i = not i.begins_key && nat_lt c (edge i)
part_fits (BehindKey c) i = not i.begins_key && nat_lt c (edge i)
part_fits (KeyIn h f) i = false
part_fits ItemIn i = not i.begins_key
part_fits Inside i = not i.begins_key

-- a lexeme of a node
abbrev pub PartFits : Room → PartKind → At → Type 0
PartFits (KeyIn h f) k i = terminal (Part k) i ≡ f
PartFits room k i = part_fits room i ≡ true

abbrev pub differ : PropertyKind → PropertyKind → Bool
differ (Anchor a) (Tag h s) = true
differ (Tag h s) (Anchor a) = true
differ k m = false

-- a lexeme of a node may stand behind these properties
abbrev pub joins : TreeProperties → PartKind → Bool
joins NoProperties k = true
joins (One k i) (Property m) = differ k m
joins (Two k i m j) (Property n) = false
joins p (Alias name) = false
joins p k = true

-- a lexeme goes on with the node whose properties stand before it
abbrev pub continues_node : Room → TreeProperties → TerminalKind → At → Bool
continues_node room p (Part k) i = opens room i || (part_fits room i && joins p k)
continues_node room p Dash i = loose_fits room (edge i) || right_fits room (edge i)
continues_node room p Question i = indicates room i
continues_node room p (Colon None) i = indicates room i
continues_node room p kind i = false

-- nothing may stand behind a `-` in front of x
abbrev pub entry_empty : Bool → ℕ → Terminal → Bool
entry_empty loose c x = stands_left x c || (dash_in x c || (loose && entry_in x c))

-- a sequence ends in front of x
abbrev pub sequence_over : Bool → ℕ → Terminal → Bool
sequence_over true c x = not (dash_in x c)
sequence_over false c x = stands_left x c

-- a key behind `?`, or a value behind `:`
abbrev pub room_value : Holder → Room
room_value (BlockIn c) = ValueIn c
room_value (FlowIn bracket) = Inside

-- nothing may stand behind a `:` in front of x
abbrev pub value_empty : Holder → Terminal → Bool
value_empty (BlockIn c) x = stands_left x c || entry_in x c
value_empty (FlowIn bracket) x = is_comma_kind x.kind || closes_kind bracket x.kind

-- nothing may stand behind a `?` in front of x
abbrev pub ask_empty : Holder → Terminal → Bool
ask_empty (BlockIn c) x = stands_left x c || entry_in x c
ask_empty (FlowIn Square) x = is_comma_kind x.kind || closes_kind Square x.kind
ask_empty (FlowIn Curly) x = is_comma_kind x.kind || (closes_kind Curly x.kind || is_bare_kind x.kind)

-- no `:` follows a `?` key
abbrev pub ask_over : Holder → Terminal → Bool
ask_over (BlockIn c) x = not (bare_in x c)
ask_over (FlowIn bracket) x = not (is_bare_kind x.kind)

-- where an entry, its `?`, its keyless `:` or its simple key may stand
abbrev pub place_fits : Holder → At → Bool
place_fits (BlockIn c) i = edge i == c
place_fits (FlowIn bracket) i = true

abbrev pub KeyBegins : Holder → Terminal → Type 0
KeyBegins h f = (f.at.begins_key && place_fits h f.at) ≡ true

-- a pair of a flow collection is finished where x follows; one that a `:` makes in a sequence waits for a comma or the
-- closer
abbrev pub is_made : Left → Bool
is_made (Asked q v) = false
is_made left = true

abbrev pub pair_over : Bracket → Pair → Terminal → Bool
pair_over Curly pair x = true
pair_over Square (AskOnly q v e) x = true
pair_over Square (WithColon left m v) x = not (is_made left) || (is_comma_kind x.kind || closes_kind Square x.kind)

-- Simple keys that are still possible (YAML 1.2.2, 7.4.2 and 8.2.2), and what a scalar is told.
use Rattle.std.specs.List.{list_any}
use Rattle.std.specs.Prelude.{ℕ, ◌+◌, Bool, true, false, ◌==◌, ◌&&◌, ◌||◌, not, nat_lt, if◌then◌else◌, List, [], ◌∷◌}
use Rattle.std.specs.Prelude.{map, Option, Some, None, is_none, Result, Ok}
use Rattle.granit_base.specs.Place.{Place, Mark}
use Rattle.granit_error.specs.FaultKind.{SimpleKeyExpected}
use Rattle.granit_error.specs.OptionsData.{OptionsData}
use Rattle.granit_lexemes.specs.Basics.{fails_at}
use Rattle.granit_lexemes.specs.LayoutData.{LayoutData, is_left}
use Rattle.granit_lexemes.specs.Lexeme.{KeyStart}
use Rattle.granit_lexemes.specs.Outcome.{Fault, ◌>>=◌}
use Rattle.granit_machine.specs.Laid.{Laid, is_opener, is_dash, is_indicator, is_in_flow, in_square, block_column}
use Rattle.granit_machine.specs.Laid.{is_column}
use Rattle.granit_lexemes.specs.declared.layout.PossibleKey.{PossibleKey}
use Rattle.granit_lexemes.specs.declared.layout.OpenBracket.{OpenBracket}
use Rattle.granit_lexemes.specs.declared.layout.OpenColumn.{OpenColumn}

abbrev pub key_in : List OpenBracket → Option PossibleKey → Option PossibleKey
key_in [] key = key
key_in (b ∷ bs) key = b.key

-- the possible key in the innermost bracket, or outside all
abbrev pub top_key : Laid → Option PossibleKey
top_key l = key_in l.brackets l.key

abbrev pub outer_key : List OpenBracket → (new old : Option PossibleKey) → Option PossibleKey
outer_key [] new old = new
outer_key (b ∷ bs) new old = old

abbrev pub keyed_brackets : Option PossibleKey → List OpenBracket → List OpenBracket
keyed_brackets key [] = []
keyed_brackets key (b ∷ bs) = record b { key = key } ∷ bs

abbrev pub with_top_key : Option PossibleKey → Laid → Laid
with_top_key key l = record l { key = outer_key l.brackets key l.key; brackets = keyed_brackets key l.brackets }

abbrev pub forgets_key : Laid → Laid
forgets_key l = with_top_key None l

abbrev pub is_of : ℕ → Option PossibleKey → Bool
is_of number None = false
is_of number (Some k) = k.number == number

-- whether a possible key begins with the lexeme of a number, in any bracket
abbrev pub is_possible : ℕ → Laid → Bool
is_possible number l = is_of number l.key || list_any (λ b. is_of number b.key) l.brackets

-- ---- keys that have no `:` (8.2.2)

abbrev pub refuse_required : Option PossibleKey → Result (Unit {0}) Fault
refuse_required None = Ok tt
refuse_required (Some k) = if k.is_required then fails_at SimpleKeyExpected k.start else Ok tt

abbrev pub drop_key : Laid → Result Laid Fault
drop_key l = refuse_required (top_key l) >>= λ u. Ok (forgets_key l)

-- whether a key began too far before a place, or outside flow on an earlier line (7.4.2)
unfoldable pub is_stale : OptionsData → (in_flow : Bool) → Mark → PossibleKey → Bool
is_stale o in_flow m k =
    nat_lt (k.start.place.index + o.simple_key_max_lookahead) m.place.index
    || (not in_flow && nat_lt k.start.place.line m.place.line)

abbrev pub fresh_key : OptionsData → Bool → Mark → Option PossibleKey → Option PossibleKey
fresh_key o in_flow m None = None
fresh_key o in_flow m (Some k) = if is_stale o in_flow m k then None else Some k

abbrev pub stale_key : OptionsData → Bool → Mark → Option PossibleKey → Option PossibleKey
stale_key o in_flow m None = None
stale_key o in_flow m (Some k) = if is_stale o in_flow m k then Some k else None

abbrev pub fresh_bracket : OptionsData → Mark → OpenBracket → OpenBracket
fresh_bracket o m b = record b { key = fresh_key o true m b.key }

-- without the keys that reading has left behind a place
abbrev pub fresh : OptionsData → Mark → Laid → Laid
fresh o m l = record l { key = fresh_key o (is_in_flow l) m l.key; brackets = map (fresh_bracket o m) l.brackets }

abbrev pub without_stale : OptionsData → Mark → Laid → Result Laid Fault
without_stale o m l = refuse_required (stale_key o (is_in_flow l) m l.key) >>= λ u. Ok (fresh o m l)

-- ---- a lexeme of a node

-- whether a key, a `-`, a `?` or a `:` without key may stand here (8.2)
unfoldable pub is_allowed : (begins_line : Bool) → (tab : Option Mark) → Laid → Bool
is_allowed begins_line tab l =
    if is_in_flow l then is_opener l.last
    else (begins_line || is_dash l.last) || (is_indicator l.last && is_none tab)

abbrev pub new_key : Bool → Mark → Laid → PossibleKey
new_key property m l = record {
  number = l.number;
  start = m;
  is_required = not (is_in_flow l) && is_column (block_column l) m.place.column;
  is_low = is_left (block_column l) m.place.column;
  is_head = property;
}

-- a key goes on with a property, or with the first lexeme behind its properties
abbrev pub key_goes_on : Bool → Bool → Option PossibleKey → Option PossibleKey
key_goes_on property low None = None
key_goes_on property low (Some k) =
    if k.is_head then Some (record k { is_low = k.is_low || low; is_head = property }) else Some k

unfoldable pub node_key : (property allowed : Bool) → Mark → Laid → Option PossibleKey
node_key property allowed m l =
    if allowed then Some (new_key property m l)
    else key_goes_on property (is_left (block_column l) m.place.column) (top_key l)

-- a lexeme of a node stands at a mark, a property or not, where a key may begin or not
abbrev pub with_node : (property allowed : Bool) → Mark → Laid → Laid
with_node property allowed m l = with_top_key (node_key property allowed m l) l

-- ---- a `:` and its key

abbrev pub start_of_key : PossibleKey → KeyStart
start_of_key k = record { number = k.number; start = k.start }

-- whether a `:` on a later line than its key is refused: in a sequence, and left of where a node may stand
unfoldable pub is_far_below : Place → Laid → PossibleKey → Bool
is_far_below p l k =
    (is_in_flow l && nat_lt k.start.place.line p.line)
    && ((k.is_low || is_left (block_column l) p.column) || in_square l.brackets)

-- ---- what a scalar is told

abbrev pub is_wide_at : Bool → ℕ → List OpenColumn → Bool
is_wide_at in_flow column [] = false
is_wide_at in_flow column (c ∷ cs) = c.is_wide && (in_flow || not (c.column == column))

abbrev pub tab_column_of : (further : Bool) → Option ℕ → ℕ
tab_column_of further None = 0
tab_column_of further (Some n) = if further then n + 1 else n

-- the layout of a scalar that begins in a column
abbrev pub layout_of : OptionsData → ℕ → Laid → LayoutData
layout_of o column l = record {
  block_column = block_column l;
  tab_column = tab_column_of (is_wide_at (is_in_flow l) column l.columns || (is_in_flow l && o.strict_indentation))
      (block_column l);
  in_flow = is_in_flow l;
  strict = o.strict_indentation;
  comments = true;
}

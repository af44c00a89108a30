-- Which lexeme a text begins with, as the code has it.
use Rattle.std.specs.Prelude.{◌≡◌, Bool, true, false, if◌then◌else◌}
use Rattle.granit_base.specs.PlainContent.{is_content}
use Rattle.granit_error.specs.FaultKind.{BomInsideDocument}
use Rattle.granit_error.specs.OptionsData.{OptionsData}
use Rattle.granit_lexemes.specs.Basics.{fails_at}
use Rattle.granit_lexemes.specs.BlockScalar.{block_indicator}
use Rattle.granit_lexemes.specs.Here.{Here, next_char, mark_of}
use Rattle.granit_lexemes.specs.QuotedScalar.{quote_char}
use Rattle.granit_machine.specs.FlowLexemes.{opener, closer, comma}
use Rattle.granit_machine.specs.IndicatorLexemes.{dash, question, colon}
use Rattle.granit_machine.specs.Laid.{Laid}
use Rattle.granit_machine.specs.LexemeSort as spec
use Rattle.granit_machine.specs.NodeLexemes.{alias_lexeme, anchor_lexeme, tag_lexeme, block_lexeme, plain_lexeme}
use Rattle.granit_machine.specs.NodeLexemes.{quoted_and_gap}
use Rattle.granit_machine.specs.Reader.{noded}
use Rattle.granit_machine.specs.ReaderState.{Read, unexpected}
use Rattle.granit_reader.specs.declared.sort.LexemeSort.{LexemeSort}
use Rattle.granit_reader.specs.declared.sort.LexemeSort.TheVariants as sorts
use Rattle.granit_reader.specs.declared.sort.PlacedSort.{PlacedSort}
use Rattle.granit_reader.specs.declared.sort.PlacedSort.TheVariants as placed

abbrev pub placed_view : PlacedSort → spec.PlacedSort
placed_view (placed.OpenSign bracket) = spec.OpenSign bracket
placed_view (placed.CloseSign bracket) = spec.CloseSign bracket
placed_view placed.CommaSign = spec.CommaSign
placed_view placed.DashSign = spec.DashSign
placed_view placed.QuestionSign = spec.QuestionSign
placed_view placed.ColonSign = spec.ColonSign
placed_view placed.AliasSign = spec.AliasSign
placed_view placed.AnchorSign = spec.AnchorSign
placed_view placed.TagSign = spec.TagSign
placed_view (placed.BlockSign literal) = spec.BlockSign literal
placed_view (placed.QuoteSign single) = spec.QuoteSign single
placed_view placed.StrayMark = spec.StrayMark
placed_view placed.NoSign = spec.NoSign
placed_view placed.PlainSign = spec.PlainSign

abbrev pub lexeme_sort_view : LexemeSort → spec.LexemeSort
lexeme_sort_view sorts.TextEnd = spec.TextEnd
lexeme_sort_view sorts.StartMark = spec.StartMark
lexeme_sort_view sorts.EndMark = spec.EndMark
lexeme_sort_view sorts.Unprintable = spec.Unprintable
lexeme_sort_view sorts.DirectiveSign = spec.DirectiveSign
lexeme_sort_view (sorts.Placed sort) = spec.Placed (placed_view sort)

-- ---- what a sort says of the text

abbrev pub PlacedFits : (in_flow : Bool) → spec.PlacedSort → Here → Type 0
PlacedFits in_flow spec.AliasSign h = next_char h ≡ 0x2A
PlacedFits in_flow spec.AnchorSign h = next_char h ≡ 0x26
PlacedFits in_flow spec.TagSign h = next_char h ≡ 0x21
PlacedFits in_flow (spec.BlockSign literal) h = next_char h ≡ block_indicator literal
PlacedFits in_flow (spec.QuoteSign single) h = next_char h ≡ quote_char single
PlacedFits in_flow spec.PlainSign h = is_content in_flow h.unread.text ≡ true
PlacedFits in_flow other h = Unit {0}

abbrev pub SortFits : (in_flow : Bool) → spec.LexemeSort → Here → Type 0
SortFits in_flow spec.DirectiveSign h = next_char h ≡ 0x25
SortFits in_flow (spec.Placed sort) h = PlacedFits in_flow sort h
SortFits in_flow other h = Unit {0}

-- ---- nodes

-- whether a lexeme is one of a node, and whether it is a property
abbrev pub is_node : spec.PlacedSort → Bool
is_node (spec.OpenSign bracket) = true
is_node spec.AliasSign = true
is_node spec.AnchorSign = true
is_node spec.TagSign = true
is_node (spec.BlockSign literal) = true
is_node (spec.QuoteSign single) = true
is_node spec.PlainSign = true
is_node other = false

abbrev pub is_property : spec.PlacedSort → Bool
is_property spec.AnchorSign = true
is_property spec.TagSign = true
is_property other = false

abbrev pub noded_by : spec.PlacedSort → Here → Laid → Laid
noded_by sort h l = if is_node sort then noded (is_property sort) h l else l

-- the lexeme of a sort, where its node has begun
abbrev pub begun : OptionsData → spec.PlacedSort → Bool → Here → Laid → Read
begun o (spec.OpenSign bracket) ends h l = opener o bracket ends h l
begun o (spec.CloseSign bracket) ends h l = closer bracket ends h l
begun o spec.CommaSign ends h l = comma ends h l
begun o spec.DashSign ends h l = dash o ends h l
begun o spec.QuestionSign ends h l = question o ends h l
begun o spec.ColonSign ends h l = colon o ends h l
begun o spec.AliasSign ends h l = alias_lexeme ends h l
begun o spec.AnchorSign ends h l = anchor_lexeme o ends h l
begun o spec.TagSign ends h l = tag_lexeme o ends h l
begun o (spec.BlockSign literal) ends h l = block_lexeme literal ends h l
begun o (spec.QuoteSign single) ends h l = quoted_and_gap o single ends h l
begun o spec.StrayMark ends h l = fails_at BomInsideDocument (mark_of h)
begun o spec.NoSign ends h l = unexpected h
begun o spec.PlainSign ends h l = plain_lexeme o ends h l

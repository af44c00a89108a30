-- Properties, aliases and scalars (YAML 1.2.2, 6.9, 7.1, 7.3 and 8.1).
use Rattle.std.specs.Prelude.{ℕ, Bool, false, ◌&&◌, if◌then◌else◌, List, [], ◌∷◌, ◌++◌, Option, Some, None, Ok}
use Rattle.granit_base.specs.Written.{Written}
use Rattle.granit_base.specs.declared.style.ScalarStyle.TheVariants.{Plain}
use Rattle.granit_error.specs.OptionsData.{OptionsData}
use Rattle.granit_lexemes.specs.BlockScalar.{BlockGiven, block_style, block_scalar}
use Rattle.granit_lexemes.specs.Comment.{CommentRead}
use Rattle.granit_lexemes.specs.Here.{Here, mark_of}
use Rattle.granit_lexemes.specs.Lexeme.{Alias, Anchor, Tag, Scalar, Lexeme, Item, OfComment}
use Rattle.granit_lexemes.specs.Outcome.{◌>>=◌}
use Rattle.granit_lexemes.specs.PlainScalar.{PlainRead, plain_scalar}
use Rattle.granit_lexemes.specs.QuotedScalar.{QuotedRead, quoted_style, quoted_scalar}
use Rattle.granit_lexemes.specs.Tags.{TagRead, tag_at, name_at}
use Rattle.granit_machine.specs.Gaps.{gap}
use Rattle.granit_machine.specs.Laid.{Laid, is_question, is_in_flow, block_column}
use Rattle.granit_lexemes.specs.declared.layout.LastLexeme.{LastLexeme}
use Rattle.granit_lexemes.specs.declared.layout.LastLexeme.TheVariants.{BehindProperty, Adjacent, Another}
use Rattle.granit_machine.specs.PossibleKeys.{layout_of}
use Rattle.granit_machine.specs.ReaderState.{ReaderState, Read, lexeme_to, with_tail, given}

-- ---- aliases and properties (6.9, 7.1)

abbrev pub alias_given : Bool → Here → Laid → (name : Written) → Here → Read
alias_given ends h l name after = given (lexeme_to ends (Alias name) (mark_of after) h l) Another after l

abbrev pub alias_lexeme : Bool → Here → Laid → Read
alias_lexeme ends h l = name_at h >>= λ x. alias_given ends h l x.0 x.1

-- behind a property; where indentation is strict, one behind `?` leaves no room for a tab
abbrev pub last_of_property : OptionsData → Laid → LastLexeme
last_of_property o l = if o.strict_indentation && is_question l.last then BehindProperty else Another

abbrev pub anchor_given : OptionsData → Bool → Here → Laid → (name : Written) → Here → Read
anchor_given o ends h l name after =
    given (lexeme_to ends (Anchor name) (mark_of after) h l) (last_of_property o l) after l

abbrev pub anchor_lexeme : OptionsData → Bool → Here → Laid → Read
anchor_lexeme o ends h l = name_at h >>= λ x. anchor_given o ends h l x.0 x.1

abbrev pub tag_given : OptionsData → Bool → Here → Laid → TagRead → Here → Read
tag_given o ends h l tag after =
    given (lexeme_to ends (Tag tag.handle tag.suffix) (mark_of after) h l) (last_of_property o l) after l

abbrev pub tag_lexeme : OptionsData → Bool → Here → Laid → Read
tag_lexeme o ends h l = tag_at (is_in_flow l) h >>= λ x. tag_given o ends h l x.0 x.1

-- ---- scalars (7.3, 8.1)

-- behind a plain scalar or a block scalar, a tab may stand in the innermost column
abbrev pub unrolled : Laid → Laid
unrolled l = record l { rolled = false }

abbrev pub block_shown : Bool → Bool → BlockGiven → Here → Here → Laid → Lexeme
block_shown literal ends b after h l =
    record (lexeme_to ends (Scalar (block_style literal) b.read.text) (mark_of after) h l) {
      shown = record { start = b.read.shown; end = mark_of after };
      indent = b.read.indent;
      tail = b.noted;
    }

abbrev pub block_given : Bool → Bool → Here → Laid → BlockGiven → Here → Read
block_given literal ends h l b after = given (block_shown literal ends b after h l) Another after (unrolled l)

abbrev pub block_lexeme : Bool → Bool → Here → Laid → Read
block_lexeme literal ends h l = block_scalar literal (block_column l) h >>= λ x. block_given literal ends h l x.0 x.1

abbrev pub behind_plain_scalar : PlainRead → Laid → Laid
behind_plain_scalar read l = record l { rolled = false; cut = read.cut_by_comment }

abbrev pub plain_given : Bool → Here → Laid → PlainRead → Here → Read
plain_given ends h l read after =
    given (lexeme_to ends (Scalar Plain read.text) read.source.end h l) Another after (behind_plain_scalar read l)

abbrev pub plain_lexeme : OptionsData → Bool → Here → Laid → Read
plain_lexeme o ends h l = plain_scalar (layout_of o h.place.column l) h >>= λ x. plain_given ends h l x.0 x.1

abbrev pub quoted_given : Bool → Bool → Here → Laid → QuotedRead → Here → Read
quoted_given single ends h l read after =
    given (with_tail (lexeme_to ends
    (Scalar (quoted_style single) read.text) read.source.end h l) read.comment) Adjacent after l

abbrev pub quoted_lexeme : OptionsData → Bool → Bool → Here → Laid → Read
quoted_lexeme o single ends h l =
    quoted_scalar single (layout_of o h.place.column l) h >>= λ x. quoted_given single ends h l x.0 x.1

-- ---- the gap behind a quoted scalar, which belongs to its read, up to and with a comment

abbrev pub note_items : Option CommentRead → List Item
note_items None = []
note_items (Some c) = OfComment c ∷ []

-- a value may stand at once behind that gap, unless a comment does
abbrev pub adjacent_unless : Option CommentRead → LastLexeme
adjacent_unless None = Adjacent
adjacent_unless (Some c) = Another

abbrev pub with_note : List Item → Option CommentRead → ReaderState → Read
with_note items note s =
    Ok (items ++ note_items note, record { here = s.here; laid = record (s.laid) { last = adjacent_unless note } })

abbrev pub with_gap : OptionsData → List Item → ReaderState → Read
with_gap o items s = gap o s.here s.laid >>= λ x. with_note items x.0 x.1

-- a quoted scalar, and the gap behind it
abbrev pub quoted_and_gap : OptionsData → Bool → Bool → Here → Laid → Read
quoted_and_gap o single ends h l = quoted_lexeme o single ends h l >>= λ x. with_gap o x.0 x.1

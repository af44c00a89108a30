-- Words of the worked examples of quoted scalars.
use Rattle.std.specs.Prelude.{◌≡◌, ℕ, Bool, true, false, List, ◌++◌, take, Option, Some, None, Result, Ok, Err, codes}
use Prim.Native.String.{String}
use Rattle.granit_base.specs.Place.{Place}
use Rattle.granit_lexemes.specs.Comment.{CommentRead}
use Rattle.granit_lexemes.specs.Here.{Here, start_of}
use Rattle.granit_lexemes.specs.LayoutData.{LayoutData}
use Rattle.granit_lexemes.specs.Line.{fault_line}
use Rattle.granit_lexemes.specs.Outcome.{Fault}
use Rattle.granit_lexemes.specs.PlainExtent.{over}
use Rattle.granit_lexemes.specs.QuotedScalar.{QuotedRead, quoted_style, quoted_scalar}
use Rattle.granit_scalar_examples.specs.Examples.{scalar_line}

-- block column, tab column, in flow, strict
abbrev pub quoted_layout : Option ℕ → ℕ → Bool → Bool → LayoutData
quoted_layout block_column tab_column in_flow strict = record {
  block_column = block_column;
  tab_column = tab_column;
  in_flow = in_flow;
  strict = strict;
  comments = true;
}

-- at the root, there in flow, behind a `-` in column 0, and as the value of a key in column 0
abbrev pub root : LayoutData
root = quoted_layout None 0 false false

abbrev pub root_flow : LayoutData
root_flow = quoted_layout None 0 true false

abbrev pub in_block : LayoutData
in_block = quoted_layout (Some 0) 0 false false

abbrev pub under_key : LayoutData
under_key = quoted_layout (Some 0) 1 false false

-- the quoted scalar that begins at an index of a text
abbrev pub quoted_in : (single : Bool) → LayoutData → List ℕ → ℕ → Result (QuotedRead × Here) Fault
quoted_in single at text index = quoted_scalar single at (over (take index text) (start_of text))

abbrev pub quoted_token_line : (single : Bool) → Result (QuotedRead × Here) Fault → List ℕ
quoted_token_line single (Ok (read, after)) = scalar_line (quoted_style single) read.text read.source
quoted_token_line single (Err f) = fault_line f

-- its token, or its fault
abbrev pub quoted_line : (single : Bool) → LayoutData → List ℕ → ℕ → List ℕ
quoted_line single at text index = quoted_token_line single (quoted_in single at text index)

-- the quoted scalar of a style that begins at an index of a text has this token
abbrev pub ReadsSingle : LayoutData → ℕ → (text line : String) → Type 0
ReadsSingle at index text line = quoted_line true at (codes text) index ≡ codes line

abbrev pub ReadsDouble : LayoutData → ℕ → (text line : String) → Type 0
ReadsDouble at index text line = quoted_line false at (codes text) index ≡ codes line

-- or it is refused with this message, at this place
abbrev pub FailsSingle : LayoutData → ℕ → (text message place : String) → Type 0
FailsSingle at index text message place = quoted_line true at (codes text) index ≡ codes message ++ codes place

abbrev pub FailsDouble : LayoutData → ℕ → (text message place : String) → Type 0
FailsDouble at index text message place = quoted_line false at (codes text) index ≡ codes message ++ codes place

-- where reading stands, the text of the comment that was read, and whether a break was
pub record QuotedBehind : Type 0 where
  pub place : Place
  pub comment : Option (List ℕ)
  pub on_new_line : Bool

abbrev pub comment_text : Option CommentRead → Option (List ℕ)
comment_text None = None
comment_text (Some c) = Some c.text.characters

abbrev pub quoted_behind : ℕ → ℕ → ℕ → Option (List ℕ) → Option QuotedBehind
quoted_behind index line column comment = Some (record {
  place = record { index = index; line = line; column = column };
  comment = comment;
  on_new_line = false;
})

abbrev pub quoted_behind_of : Result (QuotedRead × Here) Fault → Option QuotedBehind
quoted_behind_of (Ok (read, after)) =
    Some (record { place = after.place; comment = comment_text read.comment; on_new_line = read.on_new_line })
quoted_behind_of (Err f) = None

abbrev pub quoted_behind_line : (single : Bool) → LayoutData → List ℕ → ℕ → Option QuotedBehind
quoted_behind_line single at text index = quoted_behind_of (quoted_in single at text index)

-- Words of the worked examples.
use Rattle.std.specs.Prelude.{◌≡◌, ℕ, Bool, true, false, List, ◌++◌, take, Option, Some, None, Result, Ok, Err, codes}
use Prim.Native.String.{String}
use Rattle.granit_base.specs.Place.{Place, Mark}
use Rattle.granit_base.specs.Written.{Written}
use Rattle.granit_base.specs.declared.style.ScalarStyle.{ScalarStyle}
use Rattle.granit_base.specs.declared.style.ScalarStyle.TheVariants.{Plain}
use Rattle.granit_lexemes.specs.Here.{Here, start_of}
use Rattle.granit_lexemes.specs.LayoutData.{LayoutData}
use Rattle.granit_lexemes.specs.Line.{event_line, fault_line}
use Rattle.granit_lexemes.specs.Outcome.{Fault}
use Rattle.granit_lexemes.specs.PlainEvent.{Scalar, event_at}
use Rattle.granit_lexemes.specs.PlainExtent.{over}
use Rattle.granit_lexemes.specs.PlainScalar.{PlainRead, plain_scalar}
use Rattle.granit_lexemes.specs.Source.{Source}

-- block column, in flow, strict
abbrev pub layout : Option ℕ → Bool → Bool → LayoutData
layout block_column in_flow strict = record {
  block_column = block_column;
  tab_column = 0;
  in_flow = in_flow;
  strict = strict;
  comments = true;
}

-- at the root, and in a block in column 0, and both in flow
abbrev pub plain_at_root : LayoutData
plain_at_root = layout None false false

abbrev pub plain_at_root_flow : LayoutData
plain_at_root_flow = layout None true false

abbrev pub plain_in_block : LayoutData
plain_in_block = layout (Some 0) false false

abbrev pub block_flow : LayoutData
block_flow = layout (Some 0) true false

-- the plain scalar that begins at an index of a text
abbrev pub plain_in : LayoutData → List ℕ → ℕ → Result (PlainRead × Here) Fault
plain_in at text index = plain_scalar at (over (take index text) (start_of text))

-- the line of a scalar's token, which is an event's
abbrev pub scalar_line : ScalarStyle → Written → Source → List ℕ
scalar_line style text source = event_line (event_at (Scalar text style 0 None) source)

abbrev pub token_line : Result (PlainRead × Here) Fault → List ℕ
token_line (Ok (read, after)) = scalar_line Plain read.text read.source
token_line (Err f) = fault_line f

-- its token, or its fault
abbrev pub plain_line : LayoutData → List ℕ → ℕ → List ℕ
plain_line at text index = token_line (plain_in at text index)

-- the plain scalar that begins at an index of a text has this token
abbrev pub ReadsPlain : LayoutData → ℕ → (text line : String) → Type 0
ReadsPlain at index text line = plain_line at (codes text) index ≡ codes line

-- or it is refused with this message, at this place
abbrev pub FailsPlain : LayoutData → ℕ → (text message place : String) → Type 0
FailsPlain at index text message place = plain_line at (codes text) index ≡ codes message ++ codes place

-- where reading stands, the index of the `#` that cut the scalar short, and whether a break was read
pub record PlainBehind : Type 0 where
  pub place : Place
  pub cut : Option ℕ
  pub on_new_line : Bool

abbrev pub index_of : Option Mark → Option ℕ
index_of None = None
index_of (Some m) = Some m.place.index

abbrev pub rest_behind : ℕ → ℕ → ℕ → Option ℕ → Bool → Option PlainBehind
rest_behind index line column cut on_new_line = Some (record {
  place = record { index = index; line = line; column = column };
  cut = cut;
  on_new_line = on_new_line;
})

abbrev pub rest_of : Result (PlainRead × Here) Fault → Option PlainBehind
rest_of (Ok (read, after)) =
    Some (record { place = after.place; cut = index_of read.cut_by_comment; on_new_line = read.on_new_line })
rest_of (Err f) = None

abbrev pub behind_line : LayoutData → List ℕ → ℕ → Option PlainBehind
behind_line at text index = rest_of (plain_in at text index)

-- A quoted scalar as one: what stands between its quotes, what that spells, and what stands behind.
use Rattle.std.proofs.Common.{ℕ, Bool, List}
use Rattle.granit_lexemes.specs.Here.{Here}
use Rattle.granit_lexemes.specs.LayoutData.{LayoutData}
use Rattle.granit_lexemes.specs.QuotedExtent.{Between, QuotedFront, QuotedStands, front_end, quoted_end, quoted_value}

-- content, its value and whether it ends in an escaped break; a gap; and the text from the closing quote on
pub record QuotedForm : Type 0 where
  pub source : List ℕ
  pub value : List ℕ
  pub gap : List ℕ
  pub left : Bool
  pub between : Between
  pub rest : List ℕ

abbrev pub FrontStands : Bool → LayoutData → Here → QuotedForm → Type 0
FrontStands single at h x = QuotedFront single at h x.source x.value x.gap x.left x.between x.rest

abbrev pub FormStands : Bool → LayoutData → Here → QuotedForm → Type 0
FormStands single at h x = QuotedStands single at h x.source x.value x.gap x.left x.between x.rest

abbrev pub form_value : QuotedForm → List ℕ
form_value x = quoted_value x.value x.left x.between

-- up to its closing quote, and behind it
abbrev pub front_of_form : Bool → Here → QuotedForm → Here
front_of_form single h x = front_end single h x.source x.gap

abbrev pub end_of_form : Bool → Here → QuotedForm → Here
end_of_form single h x = quoted_end single h x.source x.gap

-- What stands behind `---`, `-`, `?` and `:` of block text: a gap, and the text from the next lexeme on.
use Rattle.std.proofs.Common.{List, Option, [], ap, refl, ℕ, ◌++◌, ◌+◌, ◌∙◌, ◌∷◌, ◌≡◌}
use Rattle.std.specs.Prelude.{None, Some}
use Rattle.std.specs.Str.{encode_utf8_all}
use Rattle.granit_block_lines.proofs.Lines.{indent_front}
use Rattle.granit_block_lines.proofs.Ready.{Behind, fed_to, spaced}
use Rattle.granit_canonical_steps.proofs.Names.{tag_source}
use Rattle.granit_canonical_steps.proofs.Nodes.{anchor_starts, anchor_text_is, dash_starts, opener_starts}
use Rattle.granit_canonical_steps.proofs.Nodes.{properties_start}
use Rattle.granit_canonical_steps.proofs.Nodes.{question_starts, quote_starts, star_starts, tag_is, tag_starts}
use Rattle.granit_canonical_steps.proofs.Places.{Starts}
use Rattle.granit_generator.specs.BlockText.{block_entries, block_node, block_pairs, indent, spaced_anchor}
use Rattle.granit_generator.specs.BlockText.{spaced_properties}
use Rattle.granit_lexemes.specs.declared.layout.Bracket.TheVariants.{Curly, Square}
use Rattle.granit_model.specs.FlowText.{anchor_text, quoted_characters, tag_bytes, tag_text, tree_text}
use Rattle.granit_model.specs.Tree.{AfterPairs, AfterTrees, AliasOf, MappingOf, NoPairs, NoTrees, PlainPairs, PlainTree}
use Rattle.granit_model.specs.Tree.{PlainTrees, ScalarOf, SequenceOf}

-- ---- properties, with a gap behind each

abbrev pub front_gap : (name anchor : Option (List ℕ)) → List ℕ → List ℕ
front_gap None None g = g
front_gap None (Some anchor) g = 0x20 ∷ []
front_gap (Some name) anchor g = 0x20 ∷ []

abbrev pub front_behind : (name anchor : Option (List ℕ)) {g : List ℕ} → Behind g → Behind (front_gap name anchor g)
front_behind None None b = b
front_behind None (Some anchor) b = spaced
front_behind (Some name) anchor b = spaced

abbrev pub front_text : (name anchor : Option (List ℕ)) → (g own : List ℕ) → List ℕ
front_text None None g own = own
front_text None (Some anchor) g own = 0x26 ∷ (anchor ++ (g ++ own))
front_text (Some name) None g own = tag_source name ++ (g ++ own)
front_text (Some name) (Some anchor) g own = tag_source name ++ 0x20 ∷ 0x26 ∷ (anchor ++ (g ++ own))

pub front_starts : (name anchor : Option (List ℕ)) (g own : List ℕ) → Starts own → Starts (front_text name anchor g own)
front_starts None None g own s = s
front_starts None (Some anchor) g own s = anchor_starts (anchor ++ (g ++ own))
front_starts (Some name) None g own s =
    tag_starts (0x3C ∷ ((tag_bytes (encode_utf8_all name) [] ++ 0x3E ∷ []) ++ (g ++ own)))
front_starts (Some name) (Some anchor) g own s =
    tag_starts (0x3C ∷ ((tag_bytes (encode_utf8_all name) [] ++ 0x3E ∷ []) ++ 0x20 ∷ 0x26 ∷ (anchor ++ (g ++ own))))

-- in front of a node on the same line
pub inline_front : (name anchor : Option (List ℕ)) (own : List ℕ)
    → tag_text name (anchor_text anchor own) ≡ front_text name anchor (0x20 ∷ []) own
inline_front None None own = refl
inline_front None (Some anchor) own = anchor_text_is anchor own
inline_front (Some name) None own = tag_is name (0x20 ∷ own)
inline_front (Some name) (Some anchor) own =
    tag_is name (0x20 ∷ anchor_text (Some anchor) own)
    ∙ ap (λ (l : List ℕ). tag_source name ++ 0x20 ∷ l) (anchor_text_is anchor own)

-- in front of entries on the next lines
block_front : (name anchor : Option (List ℕ)) (g own : List ℕ)
    → spaced_properties (record { tag = name; anchor = anchor }) (g ++ own)
    ≡ front_gap name anchor g ++ front_text name anchor g own
block_front None None g own = refl
block_front None (Some anchor) g own = refl
block_front (Some name) None g own = ap (λ (l : List ℕ). 0x20 ∷ l) (tag_is name (g ++ own))
block_front (Some name) (Some anchor) g own =
    ap (λ (l : List ℕ). 0x20 ∷ l) (tag_is name (spaced_anchor (Some anchor) (g ++ own)))

-- ---- entries, from the first sign on

abbrev pub front_entries : ℕ → PlainTrees → PlainTree → List ℕ → List ℕ
front_entries c NoTrees t rest = 0x2D ∷ block_node (c + 2) t rest
front_entries c (AfterTrees us u) t rest = front_entries c us u (indent c (0x2D ∷ block_node (c + 2) t rest))

entries_is : (c : ℕ) (ts : PlainTrees) (t : PlainTree) (rest : List ℕ)
    → block_entries c (AfterTrees ts t) rest ≡ indent c [] ++ front_entries c ts t rest
entries_is c NoTrees t rest = indent_front c (0x2D ∷ block_node (c + 2) t rest)
entries_is c (AfterTrees us u) t rest = entries_is c us u (indent c (0x2D ∷ block_node (c + 2) t rest))

pub entries_start : (c : ℕ) (ts : PlainTrees) (t : PlainTree) (rest : List ℕ) → Starts (front_entries c ts t rest)
entries_start c NoTrees t rest = dash_starts (block_node (c + 2) t rest)
entries_start c (AfterTrees us u) t rest = entries_start c us u (indent c (0x2D ∷ block_node (c + 2) t rest))

-- one pair
abbrev pub block_pair : ℕ → PlainTree → PlainTree → List ℕ → List ℕ
block_pair c k v rest = 0x3F ∷ block_node (c + 2) k (indent c (0x3A ∷ block_node (c + 2) v rest))

abbrev pub front_pairs : ℕ → PlainPairs → (key value : PlainTree) → List ℕ → List ℕ
front_pairs c NoPairs k v rest = block_pair c k v rest
front_pairs c (AfterPairs qs l w) k v rest = front_pairs c qs l w (indent c (block_pair c k v rest))

pairs_are : (c : ℕ) (ps : PlainPairs) (k v : PlainTree) (rest : List ℕ)
    → block_pairs c (AfterPairs ps k v) rest ≡ indent c [] ++ front_pairs c ps k v rest
pairs_are c NoPairs k v rest = indent_front c (block_pair c k v rest)
pairs_are c (AfterPairs qs l w) k v rest = pairs_are c qs l w (indent c (block_pair c k v rest))

pub pairs_start : (c : ℕ) (ps : PlainPairs) (k v : PlainTree) (rest : List ℕ) → Starts (front_pairs c ps k v rest)
pairs_start c NoPairs k v rest = question_starts (block_node (c + 2) k (indent c (0x3A ∷ block_node (c + 2) v rest)))
pairs_start c (AfterPairs qs l w) k v rest = pairs_start c qs l w (indent c (block_pair c k v rest))

-- ---- a node behind a sign

abbrev pub open_gap : ℕ → PlainTree → List ℕ
open_gap c (AliasOf name) = 0x20 ∷ []
open_gap c (ScalarOf p text) = 0x20 ∷ []
open_gap c (SequenceOf p NoTrees) = 0x20 ∷ []
open_gap c (SequenceOf p (AfterTrees ts t)) = front_gap p.tag p.anchor (0x0A ∷ indent c [])
open_gap c (MappingOf p NoPairs) = 0x20 ∷ []
open_gap c (MappingOf p (AfterPairs ps k v)) = front_gap p.tag p.anchor (0x0A ∷ indent c [])

abbrev pub open_behind : (c : ℕ) (t : PlainTree) → Behind (open_gap c t)
open_behind c (AliasOf name) = spaced
open_behind c (ScalarOf p text) = spaced
open_behind c (SequenceOf p NoTrees) = spaced
open_behind c (SequenceOf p (AfterTrees ts t)) = front_behind p.tag p.anchor (fed_to c)
open_behind c (MappingOf p NoPairs) = spaced
open_behind c (MappingOf p (AfterPairs ps k v)) = front_behind p.tag p.anchor (fed_to c)

abbrev pub open_text : (c : ℕ) → PlainTree → List ℕ → List ℕ
open_text c (AliasOf name) rest = tree_text (AliasOf name) (0x0A ∷ rest)
open_text c (ScalarOf p text) rest = tree_text (ScalarOf p text) (0x0A ∷ rest)
open_text c (SequenceOf p NoTrees) rest = tree_text (SequenceOf p NoTrees) (0x0A ∷ rest)
open_text c (SequenceOf p (AfterTrees ts t)) rest =
    front_text p.tag p.anchor (0x0A ∷ indent c []) (front_entries c ts t rest)
open_text c (MappingOf p NoPairs) rest = tree_text (MappingOf p NoPairs) (0x0A ∷ rest)
open_text c (MappingOf p (AfterPairs ps k v)) rest =
    front_text p.tag p.anchor (0x0A ∷ indent c []) (front_pairs c ps k v rest)

pub opening : (c : ℕ) (t : PlainTree) (rest : List ℕ) → block_node c t rest ≡ open_gap c t ++ open_text c t rest
opening c (AliasOf name) rest = refl
opening c (ScalarOf p text) rest = refl
opening c (SequenceOf p NoTrees) rest = refl
opening c (SequenceOf p (AfterTrees ts t)) rest =
    ap (λ (l : List ℕ). spaced_properties p (0x0A ∷ l)) (entries_is c ts t rest)
    ∙ block_front p.tag p.anchor (0x0A ∷ indent c []) (front_entries c ts t rest)
opening c (MappingOf p NoPairs) rest = refl
opening c (MappingOf p (AfterPairs ps k v)) rest =
    ap (λ (l : List ℕ). spaced_properties p (0x0A ∷ l)) (pairs_are c ps k v rest)
    ∙ block_front p.tag p.anchor (0x0A ∷ indent c []) (front_pairs c ps k v rest)

pub open_starts : (c : ℕ) (t : PlainTree) (rest : List ℕ) → Starts (open_text c t rest)
open_starts c (AliasOf name) rest = star_starts (name ++ 0x0A ∷ rest)
open_starts c (ScalarOf p text) rest =
    properties_start p (0x22 ∷ quoted_characters text (0x22 ∷ 0x0A ∷ rest))
    (quote_starts (quoted_characters text (0x22 ∷ 0x0A ∷ rest)))
open_starts c (SequenceOf p NoTrees) rest =
    properties_start p (0x5B ∷ 0x5D ∷ 0x0A ∷ rest) (opener_starts Square (0x5D ∷ 0x0A ∷ rest))
open_starts c (SequenceOf p (AfterTrees ts t)) rest =
    front_starts p.tag p.anchor (0x0A ∷ indent c []) (front_entries c ts t rest) (entries_start c ts t rest)
open_starts c (MappingOf p NoPairs) rest =
    properties_start p (0x7B ∷ 0x7D ∷ 0x0A ∷ rest) (opener_starts Curly (0x7D ∷ 0x0A ∷ rest))
open_starts c (MappingOf p (AfterPairs ps k v)) rest =
    front_starts p.tag p.anchor (0x0A ∷ indent c []) (front_pairs c ps k v rest) (pairs_start c ps k v rest)

-- the same of lists that aren't empty
abbrev pub first_entries : ℕ → PlainTrees → List ℕ → List ℕ
first_entries c NoTrees rest = rest
first_entries c (AfterTrees ts t) rest = front_entries c ts t rest

abbrev pub first_pairs : ℕ → PlainPairs → List ℕ → List ℕ
first_pairs c NoPairs rest = rest
first_pairs c (AfterPairs ps k v) rest = front_pairs c ps k v rest

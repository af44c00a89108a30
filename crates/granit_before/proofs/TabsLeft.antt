-- What a lexeme leaves of the open columns, and of what is kept of tabs.
use Rattle.std.proofs.Common.{◌≡◌, Bool, true, false, ◌&&◌, ◌||◌, not, List, [], ◌∷◌, Option, Some, None, refl, sym, ap}
use Rattle.std.proofs.Common.{◌∙◌}
use Rattle.std.proofs.Math.Bool.{and-false, and-true}
use Rattle.std.specs.Prelude.{if◌then◌else◌}
use Rattle.granit_base.specs.Written.{Written}
use Rattle.granit_base.specs.declared.style.ScalarStyle.TheVariants.{Plain}
use Rattle.granit_error.specs.OptionsData.{OptionsData}
use Rattle.granit_language.specs.Before.{closed_for, run_for, in_front, behind_colon, behind_question_sign, left}
use Rattle.granit_language.specs.Standing.{GapStands, in_front_of_comment, in_front_of_lexeme, Given}
use Rattle.granit_lexemes.specs.BlockScalar.{block_style}
use Rattle.granit_lexemes.specs.Comment.{CommentRead}
use Rattle.granit_lexemes.specs.Here.{Here, mark_of}
use Rattle.granit_lexemes.specs.LayoutData.{is_left}
use Rattle.granit_lexemes.specs.Lexeme.{Scalar, Lexeme, Item, OfLexeme}
use Rattle.granit_lexemes.specs.QuotedScalar.{quoted_style}
use Rattle.granit_lexemes.specs.declared.layout.LastLexeme.{LastLexeme}
use Rattle.granit_lexemes.specs.declared.layout.PossibleKey.{PossibleKey}
use Rattle.granit_machine.specs.Columns.{up_to_column}
use Rattle.granit_machine.specs.Laid.{Laid, behind_lexeme, is_in_flow, block_column}
use Rattle.granit_machine.specs.LexemeSort.{PlacedSort, OpenSign, CloseSign, CommaSign, DashSign, QuestionSign}
use Rattle.granit_machine.specs.LexemeSort.{ColonSign, AliasSign, AnchorSign, TagSign, BlockSign, QuoteSign, PlainSign}
use Rattle.granit_machine.specs.LexemeSort.{StrayMark, NoSign, LexemeSort, TextEnd, StartMark, EndMark, DirectiveSign}
use Rattle.granit_machine.specs.LexemeSort.{Unprintable, Placed}
use Rattle.granit_machine.specs.PossibleKeys.{forgets_key}
use Rattle.granit_machine.specs.ReaderState.{ReaderState}
use Rattle.granit_machine.specs.StreamLexemes.{behind_end}

pub same_head : {x y : Lexeme} {xs ys : List Item} → ◌≡◌ {A = List Item} (OfLexeme x ∷ xs) (OfLexeme y ∷ ys) → x ≡ y
same_head e = cc (e)

-- ---- what is left

pub record SameTabs (a b : Laid) : Type 0 where
  pub columns : a.columns ≡ b.columns
  pub rolled : a.rolled ≡ b.rolled

abbrev pub left_of : LexemeSort → (after h : Here) → Laid → Laid
left_of TextEnd g h l = behind_end (forgets_key l)
left_of StartMark g h l = l
left_of EndMark g h l = l
left_of DirectiveSign g h l = l
left_of Unprintable g h l = l
left_of (Placed sort) g h l = left sort None g h l

behind_tabs : {a m : Laid} (last : LastLexeme) → a ≡ behind_lexeme last m → SameTabs a m
behind_tabs last e = record { columns = ap (λ (l : Laid). l.columns) e; rolled = ap (λ (l : Laid). l.rolled) e }

pub gap_tabs : {o : OptionsData} {h : Here} {l : Laid} {c : Option CommentRead} {t : ReaderState} →
    GapStands o h l c t → SameTabs t.laid l
gap_tabs (in_front_of_comment at end g p) = record { columns = refl; rolled = refl }
gap_tabs (in_front_of_lexeme at g n t k) = record { columns = refl; rolled = refl }

pub left_tabs :
    (o : OptionsData) (ends : Bool) (sort : LexemeSort) (h : Here) (l : Laid) (items : List Item)
    (after : ReaderState) → Given o ends sort h l items after → SameTabs after.laid (left_of sort after.here h l)
left_tabs o ends (Placed (QuoteSign single)) h l items after p =
    let g = gap_tabs p.gap in
    record {
      columns = ap (λ (s : ReaderState). s.laid.columns) p.leaves ∙ g.columns;
      rolled = ap (λ (s : ReaderState). s.laid.rolled) p.leaves ∙ g.rolled;
    }
left_tabs o ends TextEnd h l (OfLexeme x ∷ []) after p =
    record { columns = ap (λ (l : Laid). l.columns) p.1; rolled = ap (λ (l : Laid). l.rolled) p.1 }
left_tabs o ends StartMark h l (OfLexeme x ∷ []) after p =
    record { columns = ap (λ (l : Laid). l.columns) p.1; rolled = ap (λ (l : Laid). l.rolled) p.1 }
left_tabs o ends EndMark h l (OfLexeme x ∷ []) after p =
    record { columns = ap (λ (l : Laid). l.columns) p.1; rolled = ap (λ (l : Laid). l.rolled) p.1 }
left_tabs o ends DirectiveSign h l (OfLexeme x ∷ []) after p =
    record { columns = ap (λ (l : Laid). l.columns) p.1; rolled = ap (λ (l : Laid). l.rolled) p.1 }
left_tabs o ends Unprintable h l (OfLexeme x ∷ []) after p = absurd p.0
left_tabs o ends (Placed (OpenSign bracket)) h l (OfLexeme x ∷ []) after p = behind_tabs _ p.1
left_tabs o ends (Placed (CloseSign bracket)) h l (OfLexeme x ∷ []) after p = behind_tabs _ p.1
left_tabs o ends (Placed CommaSign) h l (OfLexeme x ∷ []) after p = behind_tabs _ p.1
left_tabs o ends (Placed DashSign) h l (OfLexeme x ∷ []) after p = behind_tabs _ p.1
left_tabs o ends (Placed QuestionSign) h l (OfLexeme x ∷ []) after p = behind_tabs _ p.1
left_tabs o ends (Placed ColonSign) h l (OfLexeme x ∷ []) after p = behind_tabs _ p.1
left_tabs o ends (Placed AliasSign) h l (OfLexeme x ∷ []) after p = behind_tabs _ p.1
left_tabs o ends (Placed AnchorSign) h l (OfLexeme x ∷ []) after p = behind_tabs _ p.1
left_tabs o ends (Placed TagSign) h l (OfLexeme x ∷ []) after p = behind_tabs _ p.1
left_tabs o ends (Placed (BlockSign literal)) h l (OfLexeme x ∷ []) after p = behind_tabs _ p.1
left_tabs o ends (Placed PlainSign) h l (OfLexeme x ∷ []) after p =
    record { columns = ap (λ (l : Laid). l.columns) p.2; rolled = ap (λ (l : Laid). l.rolled) p.2 }
left_tabs o ends (Placed StrayMark) h l (OfLexeme x ∷ []) after p = absurd p.0
left_tabs o ends (Placed NoSign) h l (OfLexeme x ∷ []) after p = absurd p.0
left_tabs o ends sort h l items after p = absurd p

-- ---- what a lexeme says beside its sort: its style, and where a `-` ends

abbrev pub Styled : LexemeSort → (after : Here) → Lexeme → Type 0
Styled (Placed (QuoteSign single)) g x = (text : Written) × (x.kind ≡ Scalar (quoted_style single) text)
Styled (Placed (BlockSign literal)) g x = (text : Written) × (x.kind ≡ Scalar (block_style literal) text)
Styled (Placed PlainSign) g x = (text : Written) × (x.kind ≡ Scalar Plain text)
Styled (Placed DashSign) g x = x.end ≡ mark_of g
Styled sort g x = Unit {0}

pub styled :
    (o : OptionsData) (ends : Bool) (sort : LexemeSort) (h : Here) (l : Laid) (items : List Item)
    (after : ReaderState) (x : Lexeme) (notes : List Item) → items ≡ OfLexeme x ∷ notes →
    Given o ends sort h l items after → Styled sort after.here x
styled o ends (Placed (QuoteSign single)) h l items after x notes e p =
    (p.read.text, sym (ap (λ (x : Lexeme). x.kind) (same_head (sym p.gives ∙ e))))
styled o ends (Placed (BlockSign literal)) h l (OfLexeme y ∷ []) after x notes e p =
    (p.0.given.read.text, sym (ap (λ (x : Lexeme). x.kind) (same_head e)) ∙ ap (λ (x : Lexeme). x.kind) p.0.is)
styled o ends (Placed PlainSign) h l (OfLexeme y ∷ []) after x notes e p =
    (p.1.read.text, sym (ap (λ (x : Lexeme). x.kind) (same_head e)) ∙ ap (λ (x : Lexeme). x.kind) p.1.is)
styled o ends (Placed DashSign) h l (OfLexeme y ∷ []) after x notes e p =
    sym (ap (λ (x : Lexeme). x.end) (same_head e)) ∙ ap (λ (x : Lexeme). x.end) p.0.is
styled o ends (Placed (BlockSign literal)) h l items after x notes e p = absurd p
styled o ends (Placed PlainSign) h l items after x notes e p = absurd p
styled o ends (Placed DashSign) h l items after x notes e p = absurd p
styled o ends TextEnd h l items after x notes e p = tt
styled o ends StartMark h l items after x notes e p = tt
styled o ends EndMark h l items after x notes e p = tt
styled o ends DirectiveSign h l items after x notes e p = tt
styled o ends Unprintable h l items after x notes e p = tt
styled o ends (Placed (OpenSign bracket)) h l items after x notes e p = tt
styled o ends (Placed (CloseSign bracket)) h l items after x notes e p = tt
styled o ends (Placed CommaSign) h l items after x notes e p = tt
styled o ends (Placed QuestionSign) h l items after x notes e p = tt
styled o ends (Placed ColonSign) h l items after x notes e p = tt
styled o ends (Placed AliasSign) h l items after x notes e p = tt
styled o ends (Placed AnchorSign) h l items after x notes e p = tt
styled o ends (Placed TagSign) h l items after x notes e p = tt
styled o ends (Placed StrayMark) h l items after x notes e p = tt
styled o ends (Placed NoSign) h l items after x notes e p = tt

-- ---- in front of a lexeme

pub run_tabs : (sort : LexemeSort) (h : Here) (l : Laid) → SameTabs (run_for sort h l) l
run_tabs (Placed (OpenSign bracket)) h l = record { columns = refl; rolled = refl }
run_tabs (Placed AliasSign) h l = record { columns = refl; rolled = refl }
run_tabs (Placed AnchorSign) h l = record { columns = refl; rolled = refl }
run_tabs (Placed TagSign) h l = record { columns = refl; rolled = refl }
run_tabs (Placed (BlockSign literal)) h l = record { columns = refl; rolled = refl }
run_tabs (Placed (QuoteSign single)) h l = record { columns = refl; rolled = refl }
run_tabs (Placed PlainSign) h l = record { columns = refl; rolled = refl }
run_tabs (Placed sort) h l = record { columns = refl; rolled = refl }
run_tabs sort h l = record { columns = refl; rolled = refl }

-- in flow nothing ends
pub flow_tabs : (sort : LexemeSort) (h : Here) (l : Laid) → is_in_flow l ≡ true → SameTabs (in_front sort h l) l
flow_tabs sort h l e = record { columns = r.columns ∙ columns sort; rolled = r.rolled ∙ rolled sort }
  where
    r : SameTabs (in_front sort h l) (closed_for sort h l)
    r = run_tabs sort h (closed_for sort h l)

    columns : (sort : LexemeSort) → (closed_for sort h l).columns ≡ l.columns
    columns TextEnd = refl
    columns Unprintable = refl
    columns StartMark = ap (λ v. if v then l.columns else []) e
    columns EndMark = ap (λ v. if v then l.columns else []) e
    columns DirectiveSign = ap (λ v. if v then l.columns else []) e
    columns (Placed sort) = ap (λ v. if v then l.columns else up_to_column h.place.column l.columns) e

    rolled : (sort : LexemeSort) → (closed_for sort h l).rolled ≡ l.rolled
    rolled TextEnd = refl
    rolled Unprintable = refl
    rolled StartMark = ap (λ v. l.rolled && v) e ∙ and-true l.rolled
    rolled EndMark = ap (λ v. l.rolled && v) e ∙ and-true l.rolled
    rolled DirectiveSign = ap (λ v. l.rolled && v) e ∙ and-true l.rolled
    rolled (Placed sort) =
        ap (λ v. l.rolled && (v || not (is_left (block_column l) h.place.column))) e ∙ and-true l.rolled

-- outside flow what a lexeme in a column ends
pub placed_columns : (sort : PlacedSort) (h : Here) (l : Laid) → is_in_flow l ≡ false →
    (in_front (Placed sort) h l).columns ≡ up_to_column h.place.column l.columns
placed_columns sort h l e =
    (run_tabs (Placed sort) h (closed_for (Placed sort) h l)).columns
    ∙ ap (λ v. if v then l.columns else up_to_column h.place.column l.columns) e

pub placed_rolled : (sort : PlacedSort) (h : Here) (l : Laid) → is_in_flow l ≡ false →
    (in_front (Placed sort) h l).rolled ≡ (l.rolled && not (is_left (block_column l) h.place.column))
placed_rolled sort h l e =
    (run_tabs (Placed sort) h (closed_for (Placed sort) h l)).rolled
    ∙ ap (λ v. l.rolled && (v || not (is_left (block_column l) h.place.column))) e

abbrev pub EndsAll : LexemeSort → Type 0
EndsAll StartMark = Unit {0}
EndsAll EndMark = Unit {0}
EndsAll DirectiveSign = Unit {0}
EndsAll sort = ⊥

pub outer_columns : (sort : LexemeSort) (h : Here) (l : Laid) → EndsAll sort → is_in_flow l ≡ false →
    (in_front sort h l).columns ≡ []
outer_columns StartMark h l s e = ap (λ v. if v then l.columns else []) e
outer_columns EndMark h l s e = ap (λ v. if v then l.columns else []) e
outer_columns DirectiveSign h l s e = ap (λ v. if v then l.columns else []) e
outer_columns sort h l s e = absurd s

pub outer_rolled : (sort : LexemeSort) (h : Here) (l : Laid) → EndsAll sort → is_in_flow l ≡ false →
    (in_front sort h l).rolled ≡ false
outer_rolled StartMark h l s e = ap (λ v. l.rolled && v) e ∙ and-false l.rolled
outer_rolled EndMark h l s e = ap (λ v. l.rolled && v) e ∙ and-false l.rolled
outer_rolled DirectiveSign h l s e = ap (λ v. l.rolled && v) e ∙ and-false l.rolled
outer_rolled sort h l s e = absurd s

-- ---- `?` and `:`

pub question_rolled : (v : Bool) (h : Here) (l : Laid) → (behind_question_sign v h l).rolled ≡ (v && l.rolled)
question_rolled true h l = refl
question_rolled false h l = refl

pub colon_rolled : (v : Bool) (key : Option PossibleKey) (h : Here) (l : Laid) →
    (behind_colon v key h l).rolled ≡ (if v then l.rolled else true)
colon_rolled true (Some k) h l = refl
colon_rolled true None h l = refl
colon_rolled false (Some k) h l = refl
colon_rolled false None h l = refl

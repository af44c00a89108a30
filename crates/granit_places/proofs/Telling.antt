-- What one read gives of the lexeme that stands, and what it leaves.
pub use Rattle.granit_reading.proofs.SortAnswers.{kind_not_end, sort_answers}
pub use Rattle.granit_reading.proofs.ReadAnswers.{by_answers}
pub use Rattle.granit_reading.proofs.ReadingLaw.{ReadsBy, lexed, read-is, stops_there}
pub use Rattle.granit_reading.proofs.Answering.{Answers}
use Rattle.std.proofs.Common.{◌≡◌, ℕ, ◌||◌, Bool, true, false, List, [], ◌∷◌, Option, Some, None, ◌⊎◌, inl, inr, refl}
use Rattle.std.proofs.Common.{sym, ap, ◌∙◌, subst}
use Rattle.granit_base.specs.Place.{Mark}
use Rattle.granit_base.specs.Written.{Written}
use Rattle.granit_base.specs.declared.style.ScalarStyle.{ScalarStyle}
use Rattle.granit_error.specs.OptionsData.{OptionsData}
use Rattle.granit_lexemes.specs.Comment.{CommentRead}
use Rattle.granit_lexemes.specs.Here.{Here, mark_of}
use Rattle.granit_lexemes.specs.Lexeme.{LexemeKind, DirectiveKind, Directive, DocumentStart, DocumentEnd, StreamEnd}
use Rattle.granit_lexemes.specs.Lexeme.{Open, Close, Comma, Dash, Question, Colon, Alias, Anchor, Tag, Scalar, Lexeme}
use Rattle.granit_lexemes.specs.Lexeme.{Item, OfLexeme}
use Rattle.granit_machine.specs.Laid.{Laid, is_opener, is_dash, is_indicator, is_in_flow}
use Rattle.granit_lexemes.specs.declared.layout.LastLexeme.{LastLexeme}
use Rattle.granit_lexemes.specs.declared.layout.LastLexeme.TheVariants.{Opener, BehindDash, BehindQuestion}
use Rattle.granit_lexemes.specs.declared.layout.LastLexeme.TheVariants.{BehindBareColon, BehindProperty, Adjacent}
use Rattle.granit_lexemes.specs.declared.layout.LastLexeme.TheVariants.{Another}
use Rattle.granit_lexemes.specs.declared.layout.PossibleKey.{PossibleKey}
use Rattle.granit_machine.specs.LexemeSort.{PlacedSort, OpenSign, CloseSign, CommaSign, DashSign, QuestionSign}
use Rattle.granit_machine.specs.LexemeSort.{ColonSign, AliasSign, AnchorSign, TagSign, BlockSign, QuoteSign, StrayMark}
use Rattle.granit_machine.specs.LexemeSort.{NoSign, PlainSign, LexemeSort, TextEnd, StartMark, EndMark, Unprintable}
use Rattle.granit_machine.specs.LexemeSort.{DirectiveSign, Placed}
use Rattle.granit_machine.specs.NodeLexemes.{note_items, adjacent_unless}
use Rattle.granit_machine.specs.Gaps.{no_more_adjacent, last_behind}
use Rattle.granit_machine.specs.PossibleKeys.{top_key, is_allowed}
use Rattle.granit_machine.specs.ReaderState.{ReaderState, lexeme_to, with_tail}
use Rattle.granit_language.specs.Before.{behind}
use Rattle.granit_language.specs.Allowed.{outside}
use Rattle.granit_reading.proofs.Deciding.{asserts, begin_decided, flow_same}
use Rattle.granit_language.specs.Standing.{GapStands, in_front_of_comment, in_front_of_lexeme, QuestionStands}
use Rattle.granit_language.specs.Standing.{ColonFits, key_start, ClosesInnermost, QuotedLexeme, Given}
use Rattle.granit_machine.specs.Reader.{is_end_kind}

-- what is told of a lexeme by what stands in front of it
pub record Told (h : Here) (l : Laid) (x : Lexeme) : Type 0 where
  pub number : x.number ≡ l.number
  pub start : x.start ≡ mark_of h
  pub flow : x.in_flow ≡ is_in_flow l
  pub line : x.begins_line ≡ h.begins_line
  pub follows : x.follows_indicator ≡ (is_dash l.last || is_indicator l.last)

told_as : (h : Here) (l : Laid) (x y : Lexeme) → x ≡ y → Told h l y → Told h l x
told_as h l x y e p = subst (Told h l) (sym e) p

-- ---- what a sort says of its lexeme

pub record Unkeyed (kind : LexemeKind) (x : Lexeme) : Type 0 where
  pub is : x.kind ≡ kind
  pub key : x.key ≡ None

unkeyed_as : (kind : LexemeKind) (x y : Lexeme) → x ≡ y → Unkeyed kind y → Unkeyed kind x
unkeyed_as kind x y e p = subst (Unkeyed kind) (sym e) p

abbrev pub Allowed : Here → Laid → Type 0
Allowed h l = is_allowed h.begins_line h.tab l ≡ true

abbrev pub IsScalar : Lexeme → Type 0
IsScalar x = (style : ScalarStyle) × (text : Written) × Unkeyed (Scalar style text) x

abbrev pub Says : PlacedSort → Here → Laid → Lexeme → Type 0
Says (OpenSign bracket) h l x = Unkeyed (Open bracket) x
Says (CloseSign bracket) h l x = Unkeyed (Close bracket) x × ClosesInnermost bracket l.brackets
Says CommaSign h l x = Unkeyed Comma x
Says DashSign h l x = Unkeyed Dash x × (is_in_flow l ≡ false) × Allowed h l
Says QuestionSign h l x = Unkeyed Question x × ((is_in_flow l ≡ true) ⊎ Allowed h l)
Says ColonSign h l x = (x.kind ≡ Colon) × (x.key ≡ key_start (top_key l))
    × ((is_in_flow l ≡ false) → (top_key l ≡ None) → Allowed h l)
Says AliasSign h l x = (name : Written) × Unkeyed (Alias name) x
Says AnchorSign h l x = (name : Written) × Unkeyed (Anchor name) x
Says TagSign h l x = (handle suffix : List ℕ) × Unkeyed (Tag handle suffix) x
Says (BlockSign literal) h l x = IsScalar x
Says (QuoteSign single) h l x = IsScalar x
Says PlainSign h l x = IsScalar x
Says sort h l x = ⊥

abbrev pub SaysOf : LexemeSort → Here → Laid → Lexeme → Type 0
SaysOf TextEnd h l x = Unkeyed StreamEnd x × (l.brackets ≡ [])
SaysOf StartMark h l x = Unkeyed DocumentStart x × (l.brackets ≡ [])
SaysOf EndMark h l x = Unkeyed DocumentEnd x × (l.brackets ≡ [])
SaysOf DirectiveSign h l x = (d : DirectiveKind) × Unkeyed (Directive d) x
SaysOf Unprintable h l x = ⊥
SaysOf (Placed sort) h l x = Says sort h l x

pub end_sort : (h : Here) (l : Laid) (x : Lexeme) (sort : LexemeSort) → SaysOf sort h l x → is_end_kind x.kind ≡ true
    → sort ≡ TextEnd
end_sort h l x TextEnd s e = refl
end_sort h l x StartMark s e = kind_not_end _ x s.0.is refl e
end_sort h l x EndMark s e = kind_not_end _ x s.0.is refl e
end_sort h l x DirectiveSign s e = kind_not_end _ x s.1.is refl e
end_sort h l x Unprintable s e = absurd s
end_sort h l x (Placed (OpenSign bracket)) s e = kind_not_end _ x s.is refl e
end_sort h l x (Placed (CloseSign bracket)) s e = kind_not_end _ x s.0.is refl e
end_sort h l x (Placed CommaSign) s e = kind_not_end _ x s.is refl e
end_sort h l x (Placed DashSign) s e = kind_not_end _ x s.0.is refl e
end_sort h l x (Placed QuestionSign) s e = kind_not_end _ x s.0.is refl e
end_sort h l x (Placed ColonSign) s e = kind_not_end _ x s.0 refl e
end_sort h l x (Placed AliasSign) s e = kind_not_end _ x s.1.is refl e
end_sort h l x (Placed AnchorSign) s e = kind_not_end _ x s.1.is refl e
end_sort h l x (Placed TagSign) s e = kind_not_end _ x s.2.is refl e
end_sort h l x (Placed (BlockSign literal)) s e = kind_not_end _ x s.2.is refl e
end_sort h l x (Placed (QuoteSign single)) s e = kind_not_end _ x s.2.is refl e
end_sort h l x (Placed PlainSign) s e = kind_not_end _ x s.2.is refl e
end_sort h l x (Placed StrayMark) s e = absurd s
end_sort h l x (Placed NoSign) s e = absurd s

-- ---- what is left

-- last lexemes that let the next one begin the same keys
pub record SameLast (a b : LastLexeme) : Type 0 where
  pub opener : is_opener a ≡ is_opener b
  pub dash : is_dash a ≡ is_dash b
  pub indicator : is_indicator a ≡ is_indicator b

same_last : {a b : LastLexeme} → a ≡ b → SameLast a b
same_last e = record { opener = ap is_opener e; dash = ap is_dash e; indicator = ap is_indicator e }

last_then : {a b c : LastLexeme} → SameLast a b → SameLast b c → SameLast a c
last_then p q = record { opener = p.opener ∙ q.opener; dash = p.dash ∙ q.dash; indicator = p.indicator ∙ q.indicator }

no_more_same : (a : LastLexeme) → SameLast (no_more_adjacent a) a
no_more_same Adjacent = record { opener = refl; dash = refl; indicator = refl }
no_more_same Opener = same_last refl
no_more_same BehindDash = same_last refl
no_more_same BehindQuestion = same_last refl
no_more_same BehindBareColon = same_last refl
no_more_same BehindProperty = same_last refl
no_more_same Another = same_last refl

last_behind_same : (moved : Bool) (a : LastLexeme) → SameLast (last_behind moved a) a
last_behind_same true a = no_more_same a
last_behind_same false a = same_last refl

noted_same : (note : Option CommentRead) → SameLast (adjacent_unless note) Adjacent
noted_same None = same_last refl
noted_same (Some c) = record { opener = refl; dash = refl; indicator = refl }

-- the same but for what was cut and whether a value may stand at once
pub record Agrees (a b : Laid) : Type 0 where
  pub number : a.number ≡ b.number
  pub key : a.key ≡ b.key
  pub brackets : a.brackets ≡ b.brackets
  pub columns : a.columns ≡ b.columns
  pub last : SameLast a.last b.last

agrees_as : {a b : Laid} → a ≡ b → Agrees a b
agrees_as e = record {
  number = ap (λ (l : Laid). l.number) e;
  key = ap (λ (l : Laid). l.key) e;
  brackets = ap
      (λ (l : Laid). l.brackets) e;
  columns = ap (λ (l : Laid). l.columns) e;
  last = same_last
      (ap (λ (l : Laid). l.last) e);
}

pub gap_agrees : {o : OptionsData} {h : Here} {l : Laid} {c : Option CommentRead} {t : ReaderState}
    → GapStands o h l c t → Agrees t.laid l
gap_agrees {l = l} (in_front_of_comment at end g p) =
    record { number = refl; key = refl; brackets = refl; columns = refl; last = no_more_same l.last }
gap_agrees {l = l} (in_front_of_lexeme at g n t k) =
    record { number = refl; key = refl; brackets = refl; columns = refl; last = last_behind_same _ l.last }

-- the lexeme of a read, perhaps a comment behind it, and what is left
pub record Telling (o : OptionsData) (sort : LexemeSort) (h : Here) (l : Laid) (items : List Item)
    (after : ReaderState) : Type 0 where
  pub lexeme : Lexeme
  pub note : Option CommentRead
  pub are : items ≡ OfLexeme lexeme ∷ note_items note
  pub told : Told h l lexeme
  pub says : SaysOf sort h l lexeme
  pub cut : Option Mark
  pub reached : Here
  pub leaves : Agrees after.laid (behind o sort lexeme cut reached h l)

question_told : (o : OptionsData) (ends : Bool) (h : Here) (l : Laid) (x : Lexeme) (after : Here) (v : Bool)
    → is_in_flow l ≡ v → QuestionStands o ends h l x after v → Told h l x × Says QuestionSign h l x
question_told o ends h l x after true e p = (
  told_as h l x _ p.is
      (record { number = refl; start = refl; flow = refl; line = refl; follows = refl }),
  (unkeyed_as Question x _ p.is (record { is = refl; key = refl }), inl e),
)
question_told o ends h l x after false e p = (
  told_as h l x _ p.is
      (record { number = refl; start = refl; flow = refl; line = refl; follows = refl }),
  (
    unkeyed_as Question x _ p.is (record { is = refl; key = refl }),
    inr
        (asserts (begin_decided h l) p.entry.allowed),
  ),
)

colon_allowed : (o : OptionsData) (v : Bool) (key : Option PossibleKey) (h : Here) (l : Laid) → ColonFits o v key h l
    → v ≡ false → key ≡ None → Allowed h l
colon_allowed o false None h l f e k = asserts (begin_decided h l) f.0
colon_allowed o false (Some k) h l f e g = absurd cc
colon_allowed o true key h l f e g = absurd cc

module _ (o : OptionsData) (ends : Bool) (h : Here) (l : Laid) where
  abbrev plain_told : (kind : LexemeKind) (m : Mark) (tail : Option CommentRead)
      → Told h l (with_tail (lexeme_to ends kind m h l) tail)
  plain_told kind m tail = record { number = refl; start = refl; flow = refl; line = refl; follows = refl }

  -- one whose lexeme is told by its kind alone
  alone : (sort : LexemeSort) (kind : LexemeKind) (m : Mark) (tail : Option CommentRead) (x : Lexeme)
      (after : ReaderState) → x ≡ with_tail (lexeme_to ends kind m h l) tail → (Unkeyed kind x → SaysOf sort h l x)
      → after.laid ≡ behind o sort x None after.here h l → Telling o sort h l (OfLexeme x ∷ []) after
  alone sort kind m tail x after e says leaves = record {
    lexeme = x;
    note = None;
    are = refl;
    told = told_as h l x _ e (plain_told kind m tail);
    says = says (unkeyed_as kind x _ e (record { is = refl; key = refl }));
    cut = None;
    reached = after.here;
    leaves = agrees_as leaves;
  }

  quoted_told : (single : Bool) (items : List Item) (after : ReaderState) → QuotedLexeme o single ends h l items after
      → Telling o (Placed (QuoteSign single)) h l items after
  quoted_told single items after p =
      let g = gap_agrees p.gap in
      let e = ap (λ (s : ReaderState). s.laid) p.leaves in
      record {
        lexeme = _;
        note = p.note;
        are = p.gives;
        told = record { number = refl; start = refl; flow = refl; line = refl; follows = refl };
        says = (_, _, record { is = refl; key = refl });
        cut = None;
        reached = p.end;
        leaves = record {
          number = ap (λ (l : Laid). l.number) e ∙ g.number;
          key = ap (λ (l : Laid). l.key) e
              ∙ g.key;
          brackets = ap (λ (l : Laid). l.brackets) e ∙ g.brackets;
          columns = ap (λ (l : Laid). l.columns) e
              ∙ g.columns;
          last = last_then (same_last (ap (λ (l : Laid). l.last) e)) (noted_same p.note);
        };
      }

  pub telling : (sort : LexemeSort) (items : List Item) (after : ReaderState) → Given o ends sort h l items after
      → Telling o sort h l items after
  telling (Placed (QuoteSign single)) items after p = quoted_told single items after p
  telling TextEnd (OfLexeme x ∷ []) after p = alone TextEnd StreamEnd _ None x after p.0.0.is (λ u. (u, p.0.1)) p.1
  telling StartMark (OfLexeme x ∷ []) after p = alone StartMark DocumentStart _ None x after p.0.0.is (λ u. (u, p.0.1))
      p.1
  telling EndMark (OfLexeme x ∷ []) after p = alone EndMark DocumentEnd _ p.0.0.tail x after p.0.0.is (λ u. (u, p.0.2))
      p.1
  telling DirectiveSign (OfLexeme x ∷ []) after p = alone DirectiveSign (Directive p.0.read.kind) _ p.0.read.noted x
      after p.0.is (λ u. (p.0.read.kind, u)) p.1
  telling Unprintable (OfLexeme x ∷ []) after p = absurd p.0
  telling (Placed (OpenSign bracket)) (OfLexeme x ∷ []) after p = alone (Placed (OpenSign bracket)) (Open bracket) _
      p.0.0.tail x after p.0.0.is (λ u. u) p.1
  telling (Placed (CloseSign bracket)) (OfLexeme x ∷ []) after p = alone (Placed (CloseSign bracket)) (Close bracket) _
      p.0.0.tail x after p.0.0.is (λ u. (u, p.0.1)) p.1
  telling (Placed CommaSign) (OfLexeme x ∷ []) after p = alone (Placed CommaSign) Comma _ p.0.0.tail x after p.0.0.is
      (λ u. u) p.1
  telling (Placed DashSign) (OfLexeme x ∷ []) after p = record {
    lexeme = x;
    note = None;
    are = refl;
    told = told_as h l x _ p.0.is (record { number = refl; start = refl; flow = refl; line = refl; follows = refl });
    says = (
      unkeyed_as Dash x _ p.0.is (record { is = refl; key = refl }),
      flow_same {l = l}
          (outside p.0.entry.outside),
      asserts (begin_decided h l) p.0.entry.allowed,
    );
    cut = None;
    reached = after.here;
    leaves = agrees_as p.1;
  }
  telling (Placed QuestionSign) (OfLexeme x ∷ []) after p =
      let q = question_told o ends h l x after.here (is_in_flow l) refl p.0 in
      record {
        lexeme = x;
        note = None;
        are = refl;
        told = q.0;
        says = q.1;
        cut = None;
        reached = after.here;
        leaves =
            agrees_as p.1;
      }
  telling (Placed ColonSign) (OfLexeme x ∷ []) after p = record {
    lexeme = x;
    note = None;
    are = refl;
    told = told_as h l x _ p.0.is (record { number = refl; start = refl; flow = refl; line = refl; follows = refl });
    says = (
      ap (λ (x : Lexeme). x.kind) p.0.is,
      ap (λ (x : Lexeme). x.key) p.0.is,
      colon_allowed o (is_in_flow l)
          (top_key l) h l p.0.fits,
    );
    cut = None;
    reached = after.here;
    leaves = agrees_as p.1;
  }
  telling (Placed AliasSign) (OfLexeme x ∷ []) after p = alone (Placed AliasSign) _ _ None x after p.0.is (λ u. (_, u))
      p.1
  telling (Placed AnchorSign) (OfLexeme x ∷ []) after p = alone (Placed AnchorSign) _ _ None x after p.0.is
      (λ u. (_, u)) p.1
  telling (Placed TagSign) (OfLexeme x ∷ []) after p = alone (Placed TagSign) _ _ None x after p.0.is (λ u. (_, _, u))
      p.1
  telling (Placed (BlockSign literal)) (OfLexeme x ∷ []) after p = record {
    lexeme = x;
    note = None;
    are = refl;
    told = told_as h l x _ p.0.is (record { number = refl; start = refl; flow = refl; line = refl; follows = refl });
    says = (_, _, unkeyed_as _ x _ p.0.is (record { is = refl; key = refl }));
    cut = None;
    reached = after.here;
    leaves = agrees_as p.1;
  }
  telling (Placed PlainSign) (OfLexeme x ∷ []) after p = record {
    lexeme = x;
    note = None;
    are = refl;
    told = told_as h l x _ p.1.is (record { number = refl; start = refl; flow = refl; line = refl; follows = refl });
    says = (_, _, unkeyed_as _ x _ p.1.is (record { is = refl; key = refl }));
    cut = p.0;
    reached = after.here;
    leaves = agrees_as p.2;
  }
  telling (Placed StrayMark) (OfLexeme x ∷ []) after p = absurd p.0
  telling (Placed NoSign) (OfLexeme x ∷ []) after p = absurd p.0
  telling sort items after p = absurd p

-- Behind which lexemes a key of a `?` may still come.
use Rattle.std.proofs.Common.{◌≡◌, ◌&&◌, not, Bool, true, false, List, [], ◌∷◌, Option, Some, None, inl, inr, refl, sym}
use Rattle.std.proofs.Common.{ap, ◌∙◌, subst}
use Rattle.std.specs.Bool.{Decides}
use Rattle.std.specs.Prelude.{if◌then◌else◌}
use Rattle.std.proofs.lemmas.Bool.Decides.{Decides-at}
use Rattle.granit_error.specs.OptionsData.{OptionsData}
use Rattle.granit_language.specs.Before.{freshened, in_front, last_of_colon}
use Rattle.granit_language.specs.OpenColumns.{latest}
use Rattle.granit_language.specs.Reached.{ends_column_by, Reads, of_comment, of_lexeme, Reached, stops, goes_on}
use Rattle.granit_language.specs.Standing.{GapStands, in_front_of_comment, in_front_of_lexeme, Given}
use Rattle.granit_lexemes.specs.Comment.{CommentRead}
use Rattle.granit_lexemes.specs.Here.{Here}
use Rattle.granit_lexemes.specs.Lexeme.{LexemeKind, StreamEnd, Question, Lexeme, Item, OfLexeme}
use Rattle.granit_lexemes.specs.declared.layout.LastLexeme.{LastLexeme}
use Rattle.granit_lexemes.specs.declared.layout.LastLexeme.TheVariants.{Opener, BehindDash, BehindQuestion}
use Rattle.granit_lexemes.specs.declared.layout.LastLexeme.TheVariants.{BehindBareColon, BehindProperty, Adjacent}
use Rattle.granit_lexemes.specs.declared.layout.LastLexeme.TheVariants.{Another}
use Rattle.granit_lexemes.specs.declared.layout.PossibleKey.{PossibleKey}
use Rattle.granit_machine.specs.Gaps.{no_more_adjacent, last_behind}
use Rattle.granit_machine.specs.Laid.{Laid, is_question, is_in_flow}
use Rattle.granit_machine.specs.LexemeSort.{OpenSign, CloseSign, CommaSign, DashSign, QuestionSign}
use Rattle.granit_machine.specs.LexemeSort.{ColonSign, AliasSign, AnchorSign, TagSign, BlockSign, QuoteSign, PlainSign}
use Rattle.granit_machine.specs.LexemeSort.{StrayMark, NoSign, LexemeSort, TextEnd, StartMark, EndMark, DirectiveSign}
use Rattle.granit_machine.specs.LexemeSort.{Unprintable, Placed}
use Rattle.granit_machine.specs.NodeLexemes.{adjacent_unless}
use Rattle.granit_machine.specs.PossibleKeys.{top_key}
use Rattle.granit_machine.specs.ReaderState.{ReaderState, reader_start, behind_tail}
use Rattle.granit_places.proofs.ColumnsWhole.{latest_noted}
pub use Rattle.granit_places.proofs.ColumnsWhole.{latest_joined}
use Rattle.granit_places.proofs.Telling.{SaysOf, telling}
use Rattle.granit_before.specs.Tabs.{is_property_kind, BehindQuestionSign}

pub front_last : (sort : LexemeSort) (h : Here) (l : Laid) → (in_front sort h l).last ≡ l.last
front_last TextEnd h l = refl
front_last Unprintable h l = refl
front_last StartMark h l = refl
front_last EndMark h l = refl
front_last DirectiveSign h l = refl
front_last (Placed (OpenSign bracket)) h l = refl
front_last (Placed AliasSign) h l = refl
front_last (Placed AnchorSign) h l = refl
front_last (Placed TagSign) h l = refl
front_last (Placed (BlockSign literal)) h l = refl
front_last (Placed (QuoteSign single)) h l = refl
front_last (Placed PlainSign) h l = refl
front_last (Placed sort) h l = refl

-- ---- what stays

no_more_same : (a : LastLexeme) → is_question (no_more_adjacent a) ≡ is_question a
no_more_same Adjacent = refl
no_more_same Opener = refl
no_more_same BehindDash = refl
no_more_same BehindQuestion = refl
no_more_same BehindBareColon = refl
no_more_same BehindProperty = refl
no_more_same Another = refl

moved_same : (moved : Bool) (a : LastLexeme) → is_question (last_behind moved a) ≡ is_question a
moved_same true a = no_more_same a
moved_same false a = refl

gap_same : {o : OptionsData} {h : Here} {l : Laid} {c : Option CommentRead} {t : ReaderState} →
    GapStands o h l c t → is_question t.laid.last ≡ is_question l.last
gap_same {l = l} (in_front_of_comment at end g p) = no_more_same l.last
gap_same {l = l} (in_front_of_lexeme at g n t k) = moved_same _ l.last

-- ---- one lexeme

abbrev question_of : OptionsData → LexemeSort → (in_flow before : Bool) → Bool
question_of o (Placed QuestionSign) in_flow before = not in_flow
question_of o (Placed AnchorSign) in_flow before = o.strict_indentation && before
question_of o (Placed TagSign) in_flow before = o.strict_indentation && before
question_of o TextEnd in_flow before = before
question_of o sort in_flow before = false

close_none : (tail : Option CommentRead) → is_question (behind_tail Adjacent tail) ≡ false
close_none None = refl
close_none (Some c) = refl

note_none : (note : Option CommentRead) → is_question (adjacent_unless note) ≡ false
note_none None = refl
note_none (Some c) = refl

comma_none : (v : Bool) → is_question (if v then Opener else Another) ≡ false
comma_none true = refl
comma_none false = refl

colon_none : (v : Bool) (key : Option PossibleKey) → is_question (last_of_colon v key) ≡ false
colon_none false None = refl
colon_none false (Some k) = refl
colon_none true key = refl

sign_is : (v : Bool) → is_question (if v then Another else BehindQuestion) ≡ not v
sign_is true = refl
sign_is false = refl

property_is : (v : Bool) → is_question (if v then BehindProperty else Another) ≡ v
property_is true = refl
property_is false = refl

last_in : {a b : Laid} → a ≡ b → is_question a.last ≡ is_question b.last
last_in e = ap (λ (l : Laid). is_question l.last) e

left_by :
    (o : OptionsData) (ends : Bool) (sort : LexemeSort) (h : Here) (l : Laid) (items : List Item)
    (after : ReaderState) → Given o ends sort h l items after →
    is_question after.laid.last ≡ question_of o sort (is_in_flow l) (is_question l.last)
left_by o ends (Placed (QuoteSign single)) h l items after p =
    ap (λ (s : ReaderState). is_question s.laid.last) p.leaves ∙ note_none p.note
left_by o ends TextEnd h l (OfLexeme x ∷ []) after p = last_in p.1
left_by o ends StartMark h l (OfLexeme x ∷ []) after p = last_in p.1
left_by o ends EndMark h l (OfLexeme x ∷ []) after p = last_in p.1
left_by o ends DirectiveSign h l (OfLexeme x ∷ []) after p = last_in p.1
left_by o ends Unprintable h l (OfLexeme x ∷ []) after p = absurd p.0
left_by o ends (Placed (OpenSign bracket)) h l (OfLexeme x ∷ []) after p = last_in p.1
left_by o ends (Placed (CloseSign bracket)) h l (OfLexeme x ∷ []) after p = last_in p.1 ∙ close_none x.tail
left_by o ends (Placed CommaSign) h l (OfLexeme x ∷ []) after p = last_in p.1 ∙ comma_none (is_in_flow l)
left_by o ends (Placed DashSign) h l (OfLexeme x ∷ []) after p = last_in p.1
left_by o ends (Placed QuestionSign) h l (OfLexeme x ∷ []) after p = last_in p.1 ∙ sign_is (is_in_flow l)
left_by o ends (Placed ColonSign) h l (OfLexeme x ∷ []) after p = last_in p.1 ∙ colon_none (is_in_flow l) (top_key l)
left_by o ends (Placed AliasSign) h l (OfLexeme x ∷ []) after p = last_in p.1
left_by o ends (Placed AnchorSign) h l (OfLexeme x ∷ []) after p =
    last_in p.1 ∙ property_is (o.strict_indentation && is_question l.last)
left_by o ends (Placed TagSign) h l (OfLexeme x ∷ []) after p =
    last_in p.1 ∙ property_is (o.strict_indentation && is_question l.last)
left_by o ends (Placed (BlockSign literal)) h l (OfLexeme x ∷ []) after p = last_in p.1
left_by o ends (Placed PlainSign) h l (OfLexeme x ∷ []) after p = last_in p.2
left_by o ends (Placed StrayMark) h l (OfLexeme x ∷ []) after p = absurd p.0
left_by o ends (Placed NoSign) h l (OfLexeme x ∷ []) after p = absurd p.0
left_by o ends sort h l items after p = absurd p

-- kinds with which nothing is behind `?`
abbrev says_no : LexemeKind → Bool
says_no Question = false
says_no StreamEnd = false
says_no kind = not (is_property_kind kind)

module _ (o : OptionsData) (ls : List Lexeme) (x : Lexeme) (before : Bool)
    (d : Decides before (BehindQuestionSign o ls)) where
  abbrev Goal : Bool → Type 0
  Goal b = Decides b (BehindQuestionSign o (x ∷ ls))

  says_none : {kind : LexemeKind} → x.kind ≡ kind → says_no kind ≡ true → is_property_kind kind ≡ false → Goal false
  says_none {kind = kind} is n q = (λ e. absurd cc, λ p. absurd (none p))
    where
      none : BehindQuestionSign o (x ∷ ls) → ⊥
      none (inl p) = let z = sym (ap says_no (sym p.0 ∙ is) ∙ n) in cc
      none (inr (inl g, p)) = let z = sym g.1 ∙ (ap is_property_kind is ∙ q) in cc
      none (inr (inr e, p)) = let z = sym (ap says_no (sym e ∙ is) ∙ n) in cc

  property_says : {kind : LexemeKind} → x.kind ≡ kind → is_property_kind kind ≡ true → (strict : Bool) →
      o.strict_indentation ≡ strict → Goal (strict && before)
  property_says is q true e = (λ f. inr (inl (e, ap is_property_kind is ∙ q), d.0 f), λ p. by p)
    where
      by : BehindQuestionSign o (x ∷ ls) → before ≡ true
      by (inl p) = absurd (let z = sym (ap is_property_kind (sym p.0 ∙ is) ∙ q) in cc)
      by (inr (g, p)) = d.1 p
  property_says is q false e = (λ f. absurd cc, λ p. absurd (none p))
    where
      none : BehindQuestionSign o (x ∷ ls) → ⊥
      none (inl p) = let z = sym (ap is_property_kind (sym p.0 ∙ is) ∙ q) in cc
      none (inr (inl g, p)) = let z = sym g.0 ∙ e in cc
      none (inr (inr f, p)) = let z = sym (ap is_property_kind (sym f ∙ is) ∙ q) in cc

  end_says : x.kind ≡ StreamEnd → Goal before
  end_says is = (λ f. inr (inr is, d.0 f), λ p. by p)
    where
      by : BehindQuestionSign o (x ∷ ls) → before ≡ true
      by (inl p) = absurd (let z = sym p.0 ∙ is in cc)
      by (inr (g, p)) = d.1 p

  question_says : x.kind ≡ Question → (v : Bool) → x.in_flow ≡ v → Goal (not v)
  question_says is false e = (λ f. inl (is, e), λ p. refl)
  question_says is true e = (λ f. absurd cc, λ p. absurd (none p))
    where
      none : BehindQuestionSign o (x ∷ ls) → ⊥
      none (inl p) = let z = sym p.1 ∙ e in cc
      none (inr (inl g, p)) = let z = ap is_property_kind (sym is) ∙ g.1 in cc
      none (inr (inr f, p)) = let z = sym f ∙ is in cc

  step : (sort : LexemeSort) (h : Here) (l : Laid) → SaysOf sort h l x → x.in_flow ≡ is_in_flow l →
      Goal (question_of o sort (is_in_flow l) before)
  step TextEnd h l s f = end_says s.0.is
  step StartMark h l s f = says_none s.0.is refl refl
  step EndMark h l s f = says_none s.0.is refl refl
  step DirectiveSign h l s f = says_none s.1.is refl refl
  step Unprintable h l s f = absurd s
  step (Placed (OpenSign bracket)) h l s f = says_none s.is refl refl
  step (Placed (CloseSign bracket)) h l s f = says_none s.0.is refl refl
  step (Placed CommaSign) h l s f = says_none s.is refl refl
  step (Placed DashSign) h l s f = says_none s.0.is refl refl
  step (Placed QuestionSign) h l s f = question_says s.0.is (is_in_flow l) f
  step (Placed ColonSign) h l s f = says_none s.0 refl refl
  step (Placed AliasSign) h l s f = says_none s.1.is refl refl
  step (Placed AnchorSign) h l s f = property_says s.1.is refl o.strict_indentation refl
  step (Placed TagSign) h l s f = property_says s.2.is refl o.strict_indentation refl
  step (Placed (BlockSign literal)) h l s f = says_none s.2.is refl refl
  step (Placed (QuoteSign single)) h l s f = says_none s.2.is refl refl
  step (Placed PlainSign) h l s f = says_none s.2.is refl refl
  step (Placed StrayMark) h l s f = absurd s
  step (Placed NoSign) h l s f = absurd s

-- ---- all

read_said : (o : OptionsData) (ls : List Lexeme) {s after : ReaderState} {items : List Item} → Reads o s items after →
    Decides (is_question s.laid.last) (BehindQuestionSign o ls) →
    Decides (is_question after.laid.last) (BehindQuestionSign o (latest items ls))
read_said o ls {s = s} {after = after} (of_comment at g k) d =
    Decides-at (is_question after.laid.last) (is_question s.laid.last) (gap_same g) d
read_said o ls {s = s} (of_lexeme {items = items} at behind sort comes given keys) d =
    let f = freshened o at in
    let m = in_front sort f.here f.laid in
    let t = telling o (ends_column_by sort f) f.here _ sort items behind given.1 in
    let same = ap (λ (is : List Item). latest is ls) t.are ∙ latest_noted t.lexeme t.note ls in
    let e = ap is_question (front_last sort f.here f.laid) ∙ gap_same comes.gap in
    subst (λ (l : List Lexeme). Decides (is_question behind.laid.last) (BehindQuestionSign o l)) (sym same)
    (Decides-at (is_question behind.laid.last) (question_of o sort (is_in_flow m) (is_question m.last))
    (left_by o (ends_column_by sort f) sort f.here m items behind given.1)
    (step o ls t.lexeme (is_question m.last) (Decides-at (is_question m.last) (is_question s.laid.last) e d) sort f.here
    m t.says t.told.flow))

reached_said : (o : OptionsData) (ls : List Lexeme) {s t : ReaderState} {items : List Item} → Reached o s items t →
    Decides (is_question s.laid.last) (BehindQuestionSign o ls) →
    Decides (is_question t.laid.last) (BehindQuestionSign o (latest items ls))
reached_said o ls stops d = d
reached_said o ls {t = t} (goes_on next items more r last rest e) d =
    subst (λ (l : List Lexeme). Decides (is_question t.laid.last) (BehindQuestionSign o l))
    (sym (ap (λ (is : List Item). latest is ls) e ∙ latest_joined items more ls))
    (reached_said o (latest items ls) rest (read_said o ls r d))

pub question_said : (o : OptionsData) (h : Here) (items : List Item) (t : ReaderState) →
    Reached o (reader_start h) items t → Decides (is_question t.laid.last) (BehindQuestionSign o (latest items []))
question_said o h items t r = reached_said o [] r (λ e. absurd cc, λ p. absurd p)

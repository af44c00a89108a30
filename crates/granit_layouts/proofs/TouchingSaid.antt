-- Behind which items a value may stand at once.
use Rattle.std.proofs.Common.{◌≡◌, ◌&&◌, Bool, true, false, List, [], ◌∷◌, ◌++◌, Option, Some, None, refl, sym, ap, ◌∙◌}
use Rattle.std.specs.Prelude.{if◌then◌else◌}
use Rattle.granit_declared.proofs.FieldsSaid.{clash}
use Rattle.granit_base.specs.Written.{Written}
use Rattle.granit_error.specs.OptionsData.{OptionsData}
use Rattle.granit_language.specs.Before.{freshened, in_front, last_of_colon}
use Rattle.granit_language.specs.HeldSaid.{has_ended}
use Rattle.granit_language.specs.OpenColumns.{latest}
use Rattle.granit_language.specs.Reached.{ends_column_by, Reads, of_comment, of_lexeme, Reached, stops, goes_on}
use Rattle.granit_language.specs.Standing.{GapStands, in_front_of_comment, QuestionStands, Given}
use Rattle.granit_language.specs.Standing.{quoted_lexeme_of}
use Rattle.granit_lexemes.specs.Comment.{CommentRead}
use Rattle.granit_lexemes.specs.Here.{Here}
use Rattle.granit_lexemes.specs.Lexeme.{LexemeKind, Close, Question, Scalar, Lexeme, Item, OfLexeme, OfComment}
use Rattle.granit_lexemes.specs.QuotedScalar.{quoted_style}
use Rattle.granit_lexemes.specs.declared.layout.Bracket.{Bracket}
use Rattle.granit_lexemes.specs.declared.layout.LastLexeme.{LastLexeme}
use Rattle.granit_lexemes.specs.declared.layout.LastLexeme.TheVariants.{Opener, BehindDash, BehindQuestion}
use Rattle.granit_lexemes.specs.declared.layout.LastLexeme.TheVariants.{BehindBareColon, BehindProperty, Adjacent}
use Rattle.granit_lexemes.specs.declared.layout.LastLexeme.TheVariants.{Another}
use Rattle.granit_lexemes.specs.declared.layout.PossibleKey.{PossibleKey}
use Rattle.granit_machine.specs.Gaps.{no_more_adjacent}
use Rattle.granit_machine.specs.Laid.{Laid, is_adjacent, is_question, is_in_flow}
use Rattle.granit_machine.specs.LexemeSort.{OpenSign, CloseSign, CommaSign, DashSign, QuestionSign}
use Rattle.granit_machine.specs.LexemeSort.{ColonSign, AliasSign, AnchorSign, TagSign, BlockSign, QuoteSign, PlainSign}
use Rattle.granit_machine.specs.LexemeSort.{StrayMark, NoSign, LexemeSort, TextEnd, StartMark, EndMark, DirectiveSign}
use Rattle.granit_machine.specs.LexemeSort.{Unprintable, Placed}
use Rattle.granit_machine.specs.NodeLexemes.{note_items, adjacent_unless}
use Rattle.granit_machine.specs.PossibleKeys.{top_key}
use Rattle.granit_machine.specs.Reader.{is_end_kind, is_end}
use Rattle.granit_machine.specs.ReaderState.{ReaderState, reader_start, behind_tail}
use Rattle.granit_places.proofs.ColumnsWhole.{latest_joined}
use Rattle.granit_key_runs.proofs.HeldLaw.{read_ends}
use Rattle.granit_places.proofs.Telling.{telling}
use Rattle.granit_before.specs.Touching.{is_touching, ends_touching}

-- ---- what a lexeme leaves

no_more : (a : LastLexeme) → is_adjacent (no_more_adjacent a) ≡ false
no_more Adjacent = refl
no_more Opener = refl
no_more BehindDash = refl
no_more BehindQuestion = refl
no_more BehindBareColon = refl
no_more BehindProperty = refl
no_more Another = refl

note_stops : {o : OptionsData} {h : Here} {l : Laid} {c : CommentRead} {t : ReaderState} →
    GapStands o h l (Some c) t → is_adjacent t.laid.last ≡ false
note_stops {l = l} (in_front_of_comment at end g p) = no_more l.last

close_touches : (kind : LexemeKind) (bracket : Bracket)
    (tail : Option CommentRead) → kind ≡ Close bracket →
    is_adjacent (behind_tail Adjacent tail) ≡ is_touching kind tail
close_touches kind bracket None e = sym (ap (λ kind. is_touching kind None) e)
close_touches kind bracket (Some c) e = sym (ap (λ kind. is_touching kind (Some c)) e)

quoted_touches : (single : Bool) (x : Lexeme) (note : Option CommentRead) (text : Written) →
    x.kind ≡ Scalar (quoted_style single) text →
    is_adjacent (adjacent_unless note) ≡ ends_touching false (OfLexeme x ∷ note_items note)
quoted_touches true x None text e = sym (ap (λ kind. is_touching kind x.tail) e)
quoted_touches false x None text e = sym (ap (λ kind. is_touching kind x.tail) e)
quoted_touches single x (Some c) text e = refl

comma_not : (v : Bool) → is_adjacent (if v then Opener else Another) ≡ false
comma_not true = refl
comma_not false = refl

colon_not : (v : Bool) (key : Option PossibleKey) → is_adjacent (last_of_colon v key) ≡ false
colon_not false None = refl
colon_not false (Some k) = refl
colon_not true key = refl

sign_not : (v : Bool) → is_adjacent (if v then Another else BehindQuestion) ≡ false
sign_not true = refl
sign_not false = refl

property_not : (v : Bool) → is_adjacent (if v then BehindProperty else Another) ≡ false
property_not true = refl
property_not false = refl

last_in : {a b : Laid} → a ≡ b → is_adjacent a.last ≡ is_adjacent b.last
last_in e = ap (λ (l : Laid). is_adjacent l.last) e

-- a kind behind which no value stands at once
not_by : {kind : LexemeKind} (x : Lexeme) (v : Bool) → x.kind ≡ kind → is_touching kind x.tail ≡ false → v ≡ false →
    v ≡ is_touching x.kind x.tail
not_by x v is n e = e ∙ (sym n ∙ sym (ap (λ kind. is_touching kind x.tail) is))

left_by :
    (o : OptionsData) (ends : Bool) (sort : LexemeSort) (h : Here) (l : Laid) (items : List Item)
    (after : ReaderState) → Given o ends sort h l items after → is_end items ≡ false →
    is_adjacent after.laid.last ≡ ends_touching false items
left_by o ends (Placed (QuoteSign single)) h l items after p n =
    ap (λ (s : ReaderState). is_adjacent s.laid.last) p.leaves
    ∙ (quoted_touches single (quoted_lexeme_of single ends h l p.read) p.note p.read.text refl
    ∙ sym (ap (ends_touching false) p.gives))
left_by o ends TextEnd h l (OfLexeme x ∷ []) after p n =
    absurd (let z = sym (ap (λ (x : Lexeme). is_end_kind x.kind) p.0.0.is) ∙ n in cc)
left_by o ends StartMark h l (OfLexeme x ∷ []) after p n =
    not_by x _ (ap (λ (x : Lexeme). x.kind) p.0.0.is) refl (last_in p.1)
left_by o ends EndMark h l (OfLexeme x ∷ []) after p n =
    not_by x _ (ap (λ (x : Lexeme). x.kind) p.0.0.is) refl (last_in p.1)
left_by o ends DirectiveSign h l (OfLexeme x ∷ []) after p n =
    not_by x _ (ap (λ (x : Lexeme). x.kind) p.0.is) refl (last_in p.1)
left_by o ends Unprintable h l (OfLexeme x ∷ []) after p n = absurd p.0
left_by o ends (Placed (OpenSign bracket)) h l (OfLexeme x ∷ []) after p n =
    not_by x _ (ap (λ (x : Lexeme). x.kind) p.0.0.is) refl (last_in p.1)
left_by o ends (Placed (CloseSign bracket)) h l (OfLexeme x ∷ []) after p n =
    last_in p.1 ∙ close_touches x.kind bracket x.tail (ap (λ (x : Lexeme). x.kind) p.0.0.is)
left_by o ends (Placed CommaSign) h l (OfLexeme x ∷ []) after p n =
    not_by x _ (ap (λ (x : Lexeme). x.kind) p.0.0.is) refl (last_in p.1 ∙ comma_not (is_in_flow l))
left_by o ends (Placed DashSign) h l (OfLexeme x ∷ []) after p n =
    not_by x _ (ap (λ (x : Lexeme). x.kind) p.0.is) refl (last_in p.1)
left_by o ends (Placed QuestionSign) h l (OfLexeme x ∷ []) after p n =
    not_by x _ (question_kind (is_in_flow l) p.0) refl (last_in p.1 ∙ sign_not (is_in_flow l))
  where
    question_kind : (v : Bool) → QuestionStands o ends h l x after.here v →
        x.kind ≡ Question
    question_kind true q = ap (λ (x : Lexeme). x.kind) q.is
    question_kind false q = ap (λ (x : Lexeme). x.kind) q.is
left_by o ends (Placed ColonSign) h l (OfLexeme x ∷ []) after p n =
    not_by x _ (ap (λ (x : Lexeme). x.kind) p.0.is) refl (last_in p.1 ∙ colon_not (is_in_flow l) (top_key l))
left_by o ends (Placed AliasSign) h l (OfLexeme x ∷ []) after p n =
    not_by x _ (ap (λ (x : Lexeme). x.kind) p.0.is) refl (last_in p.1)
left_by o ends (Placed AnchorSign) h l (OfLexeme x ∷ []) after p n =
    not_by x _ (ap (λ (x : Lexeme). x.kind) p.0.is) refl
    (last_in p.1 ∙ property_not (o.strict_indentation && is_question l.last))
left_by o ends (Placed TagSign) h l (OfLexeme x ∷ []) after p n =
    not_by x _ (ap (λ (x : Lexeme). x.kind) p.0.is) refl
    (last_in p.1 ∙ property_not (o.strict_indentation && is_question l.last))
left_by o ends (Placed (BlockSign true)) h l (OfLexeme x ∷ []) after p n =
    not_by x _ (ap (λ (x : Lexeme). x.kind) p.0.is) refl (last_in p.1)
left_by o ends (Placed (BlockSign false)) h l (OfLexeme x ∷ []) after p n =
    not_by x _ (ap (λ (x : Lexeme). x.kind) p.0.is) refl (last_in p.1)
left_by o ends (Placed PlainSign) h l (OfLexeme x ∷ []) after p n =
    not_by x _ (ap (λ (x : Lexeme). x.kind) p.1.is) refl (last_in p.2)
left_by o ends (Placed StrayMark) h l (OfLexeme x ∷ []) after p n = absurd p.0
left_by o ends (Placed NoSign) h l (OfLexeme x ∷ []) after p n = absurd p.0
left_by o ends sort h l items after p n = absurd p

-- ---- one read

read_touches : (o : OptionsData) {s after : ReaderState} {items : List Item} → Reads o s items after →
    is_end items ≡ false → is_adjacent after.laid.last ≡ ends_touching false items
read_touches o (of_comment at g k) n = note_stops g
read_touches o (of_lexeme {items = items} at behind sort comes given keys) n =
    let f = freshened o at in
    left_by o (ends_column_by sort f) sort f.here (in_front sort f.here f.laid) items behind given.1 n

-- what was before a read says nothing behind it
read_forgets : (o : OptionsData) {s after : ReaderState} {items : List Item} → Reads o s items after → (v : Bool) →
    ends_touching v items ≡ ends_touching false items
read_forgets o (of_comment at g k) v = refl
read_forgets o (of_lexeme {items = items} at behind sort comes given keys) v =
    let f = freshened o at in
    let t = telling o (ends_column_by sort f) f.here _ sort items behind given.1 in
    ap (ends_touching v) t.are ∙ sym (ap (ends_touching false) t.are)

-- ---- all

joined_touching : (v : Bool) (items more : List Item) →
    ends_touching v (items ++ more) ≡ ends_touching (ends_touching v items) more
joined_touching v [] more = refl
joined_touching v (OfLexeme x ∷ is) more = joined_touching (is_touching x.kind x.tail) is more
joined_touching v (OfComment c ∷ is) more = joined_touching false is more

reached_touches : (o : OptionsData) (ls : List Lexeme) (v : Bool) {s t : ReaderState} {items : List Item} →
    Reached o s items t → is_adjacent s.laid.last ≡ v → has_ended (latest items ls) ≡ false →
    is_adjacent t.laid.last ≡ ends_touching v items
reached_touches o ls v stops e n = e
reached_touches o ls v {t = t} {items = all} (goes_on next items more r last rest is) e n =
    on (is_end items) refl
    (λ f. reached_touches o (latest items ls) (ends_touching v items) rest
    (read_touches o r f ∙ sym (read_forgets o r v)) (sym (ap has_ended same) ∙ n))
    ∙ (sym (joined_touching v items more) ∙ sym (ap (ends_touching v) is))
  where
    same : latest all ls ≡ latest more (latest items ls)
    same = ap (λ (is : List Item). latest is ls) is ∙ latest_joined items more ls

    on : (b : Bool) → is_end items ≡ b →
        (is_end items ≡ false → is_adjacent t.laid.last ≡ ends_touching (ends_touching v items) more) →
        is_adjacent t.laid.last ≡ ends_touching (ends_touching v items) more
    on false f go = go f
    on true f go =
        clash (has_ended (latest items ls)) (read_ends o ls r f)
        (sym (ap (λ (more : List Item). has_ended (latest more (latest items ls))) (last f))
        ∙ (sym (ap has_ended same) ∙ n))

pub touching_said : (o : OptionsData) (h : Here) (items : List Item) (t : ReaderState) →
    Reached o (reader_start h) items t → has_ended (latest items []) ≡ false →
    is_adjacent t.laid.last ≡ ends_touching false items
touching_said o h items t r n = reached_touches o [] false r refl n

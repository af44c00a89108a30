-- What the reader reads of a text is what the text holds.
pub use Rattle.granit_blocks.proofs.BlockSpans.{body_reaches, front_reaches, header_reaches}
use Rattle.std.proofs.Common.{◌≡◌, ℕ, ◌&&◌, Bool, true, false, List, [], ◌∷◌, ◌++◌, Option, Some, None, Result}
use Rattle.std.proofs.Common.{Ok, Err, ◌⊎◌, inl, inr, refl, sym, ap, ap₂, ◌∙◌, subst, append_assoc}
use Rattle.std.specs.Prelude.{if◌then◌else◌}
use Rattle.std.proofs.lemmas.List.{append-nil}
use Rattle.granit_base.specs.Classes.{is_gap}
use Rattle.granit_base.specs.Place.{first}
use Rattle.granit_base.specs.Place.{Mark}
use Rattle.granit_error.specs.FaultKind.{FaultKind, SimpleKeyExpected}
use Rattle.granit_error.specs.OptionsData.{OptionsData}
use Rattle.granit_lexemes.specs.Basics.{fails_at}
use Rattle.granit_lexemes.specs.Comment.{CommentRead}
use Rattle.granit_lexemes.specs.Here.{Here, next_char, mark_of}
use Rattle.granit_lexemes.specs.LayoutData.{is_left}
use Rattle.granit_lexemes.specs.Lexeme.{Item, OfComment}
use Rattle.granit_lexemes.specs.NameExtent.{is_name_sign}
use Rattle.granit_lexemes.specs.Outcome.{Fault, ◌>>=◌}
use Rattle.granit_lexemes.specs.Pieces.{with_front, pieces}
use Rattle.granit_base.specs.PlainContent.{is_content}
use Rattle.granit_lexemes.specs.QuotedScalar.{quote_char}
use Rattle.granit_blocks.proofs.Leading.{Carries, pieces_hold}
use Rattle.granit_machine.specs.Columns.{closed_at, closed_all, ends_at, ends_all}
use Rattle.granit_machine.specs.Gaps.{gap}
use Rattle.granit_machine.specs.Laid.{Laid, is_in_flow, is_adjacent, innermost_column, block_column}
use Rattle.granit_lexemes.specs.declared.layout.PossibleKey.{PossibleKey}
use Rattle.granit_lexemes.specs.declared.layout.OpenColumn.{OpenColumn}
use Rattle.granit_machine.specs.LexemeSort.{PlacedSort, OpenSign, CloseSign, CommaSign, DashSign, QuestionSign}
use Rattle.granit_machine.specs.LexemeSort.{ColonSign, AliasSign, AnchorSign, TagSign, BlockSign, QuoteSign, StrayMark}
use Rattle.granit_machine.specs.LexemeSort.{NoSign, PlainSign, LexemeSort, TextEnd, StartMark, EndMark, Unprintable}
use Rattle.granit_machine.specs.LexemeSort.{DirectiveSign, Placed, sort_at}
use Rattle.granit_machine.specs.Lexing.{lex, lex_start}
use Rattle.granit_machine.specs.PossibleKeys.{is_stale, refuse_required, stale_key, fresh, without_stale}
use Rattle.granit_machine.specs.Reader.{noded, lexeme_of, is_strict_outside, lexeme_in_column, lexeme_by, lexeme}
use Rattle.granit_machine.specs.Reader.{read_behind, read_whole, read, LexState, is_end, behind_read, lex_turn, lex_len}
use Rattle.granit_machine.specs.ReaderState.{ReaderState}
use Rattle.granit_termination.proofs.LexLengths.{lex_turn-Shortens}
pub use Rattle.granit_termination.proofs.LexLengths.{noded-flow}
use Rattle.granit_machine.proofs.SortLemmas.{plain_sign-content}
use Rattle.granit_language.specs.Before.{freshened, with_run, in_front}
use Rattle.granit_language.specs.Begins.{SignBegins, alias, anchor, tag, quote, Begins, directive, sign}
use Rattle.granit_language.specs.Allowed.{LeftBehind, LeftInside}
use Rattle.granit_reading.proofs.Deciding.{tells, denies, stale_decided, outside_block_decided}
use Rattle.granit_language.specs.Reached.{StandsInside, NoneOverdue, Overdue, ends_column_by, Comes, Reads, of_comment}
use Rattle.granit_language.specs.Reached.{of_lexeme, Reached, stops, goes_on, in_gap, key_overdue, at_lexeme}
use Rattle.granit_language.specs.Reached.{key_overdue_behind, ReadRefused, EndsBy}
use Rattle.granit_language.specs.Refusing.{GapRefused, left_of_block, nothing, stray, RefusesSort, placed, unprintable}
use Rattle.granit_language.specs.Refusing.{MisspellsSort, of_sign}
use Rattle.granit_language.specs.Standing.{GapStands, in_front_of_lexeme, Given}
use Rattle.granit_reading.proofs.Answering.{Answers, answers_then, answers_if}
use Rattle.granit_reading.proofs.Gapping.{GapAt, gap_is}
use Rattle.granit_reading.proofs.Lexemes.{GivenBy, SpelledAs, spelled_as, ReadAs, opener-is, closer-is, comma-is}
use Rattle.granit_reading.proofs.Lexemes.{dash-is, question-is, colon-is, alias-is, anchor-is, tag-is, block-is}
use Rattle.granit_reading.proofs.Lexemes.{plain-is, quoted-is, text_end-is, start_mark-is, end_mark-is, directive-is}
use Rattle.granit_reading.proofs.Sorting.{begins_is}

-- ---- what a lexeme of a node leaves alone

pub run_flow : (sort : PlacedSort) (h : Here) (l : Laid) → is_in_flow (with_run sort h l) ≡ is_in_flow l
run_flow (OpenSign bracket) h l = noded-flow false h l
run_flow AliasSign h l = noded-flow false h l
run_flow AnchorSign h l = noded-flow true h l
run_flow TagSign h l = noded-flow true h l
run_flow (BlockSign literal) h l = noded-flow false h l
run_flow (QuoteSign single) h l = noded-flow false h l
run_flow PlainSign h l = noded-flow false h l
run_flow sort h l = refl

pub run_columns : (sort : PlacedSort) (h : Here) (l : Laid) → (with_run sort h l).columns ≡ l.columns
run_columns (OpenSign bracket) h l = refl
run_columns AliasSign h l = refl
run_columns AnchorSign h l = refl
run_columns TagSign h l = refl
run_columns (BlockSign literal) h l = refl
run_columns (QuoteSign single) h l = refl
run_columns PlainSign h l = refl
run_columns sort h l = refl

-- ---- a lexeme by its sort

-- what a sort says of the text
abbrev pub Starts : PlacedSort → Bool → Here → Type 0
Starts AliasSign in_flow h = is_name_sign (next_char h) ≡ true
Starts AnchorSign in_flow h = is_name_sign (next_char h) ≡ true
Starts TagSign in_flow h = next_char h ≡ 0x21
Starts (QuoteSign single) in_flow h = next_char h ≡ quote_char single
Starts PlainSign in_flow h = is_content in_flow h.unread.text ≡ true
Starts sort in_flow h = Unit {0}

abbrev pub Signs : PlacedSort → ℕ → Type 0
Signs AliasSign c = is_name_sign c ≡ true
Signs AnchorSign c = is_name_sign c ≡ true
Signs TagSign c = c ≡ 0x21
Signs (QuoteSign single) c = c ≡ quote_char single
Signs sort c = Unit {0}

signs : {in_flow adjacent : Bool} {next c : ℕ} {sort : PlacedSort} → SignBegins in_flow adjacent next c sort
    → Signs sort c
signs alias = refl
signs anchor = refl
signs tag = refl
signs (quote single) = refl
signs (Rattle.granit_language.specs.Begins.opens b) = tt
signs (Rattle.granit_language.specs.Begins.closes b) = tt
signs Rattle.granit_language.specs.Begins.comma = tt
signs (Rattle.granit_language.specs.Begins.dash e) = tt
signs (Rattle.granit_language.specs.Begins.question e) = tt
signs (Rattle.granit_language.specs.Begins.colon e) = tt
signs (Rattle.granit_language.specs.Begins.block literal e) = tt
signs Rattle.granit_language.specs.Begins.stray = tt
signs (Rattle.granit_language.specs.Begins.nothing r n) = tt
signs (Rattle.granit_language.specs.Begins.other a b d e f g i j k m n) = tt

pub signed : {in_flow adjacent : Bool} {column : ℕ} {text : List ℕ} {sort : PlacedSort}
    → Begins in_flow adjacent column text (Placed sort) → Signs sort (first text)
signed (sign m p d s) = signs s

pub percent_there : {in_flow adjacent : Bool} {column : ℕ} {text : List ℕ}
    → Begins in_flow adjacent column text DirectiveSign → first text ≡ 0x25
percent_there (directive e) = refl

pub starts : (sort : PlacedSort) (in_flow : Bool) (h : Here) → Signs sort (next_char h)
    → (sort ≡ PlainSign → is_content in_flow h.unread.text ≡ true) → Starts sort in_flow h
starts AliasSign in_flow h s p = s
starts AnchorSign in_flow h s p = s
starts TagSign in_flow h s p = s
starts (QuoteSign single) in_flow h s p = s
starts PlainSign in_flow h s p = p refl
starts (OpenSign bracket) in_flow h s p = tt
starts (CloseSign bracket) in_flow h s p = tt
starts CommaSign in_flow h s p = tt
starts DashSign in_flow h s p = tt
starts QuestionSign in_flow h s p = tt
starts ColonSign in_flow h s p = tt
starts (BlockSign literal) in_flow h s p = tt
starts StrayMark in_flow h s p = tt
starts NoSign in_flow h s p = tt

lexeme_of-is : (o : OptionsData) (sort : PlacedSort) (ends : Bool) (h : Here) (l : Laid) → Starts sort (is_in_flow l) h
    → SpelledAs o ends sort h (with_run sort h l) (lexeme_of o sort ends h l)
unfolding lexeme_of
lexeme_of-is o (OpenSign bracket) ends h l p = spelled_as o ends (OpenSign bracket) h (noded false h l) _
    (opener-is o bracket ends h (noded false h l))
lexeme_of-is o (CloseSign bracket) ends h l p = spelled_as o ends (CloseSign bracket) h l _
    (closer-is o bracket ends h l)
lexeme_of-is o CommaSign ends h l p = spelled_as o ends CommaSign h l _ (comma-is o ends h l)
lexeme_of-is o DashSign ends h l p = spelled_as o ends DashSign h l _ (dash-is o ends h l)
lexeme_of-is o QuestionSign ends h l p = spelled_as o ends QuestionSign h l _ (question-is o ends h l)
lexeme_of-is o ColonSign ends h l p = spelled_as o ends ColonSign h l _ (colon-is o ends h l)
lexeme_of-is o AliasSign ends h l p = spelled_as o ends AliasSign h (noded false h l) _
    (alias-is o ends h (noded false h l) p)
lexeme_of-is o AnchorSign ends h l p = spelled_as o ends AnchorSign h (noded true h l) _
    (anchor-is o ends h (noded true h l) p)
lexeme_of-is o TagSign ends h l p = tag-is o ends h (noded true h l) p
lexeme_of-is o (BlockSign literal) ends h l p = spelled_as o ends (BlockSign literal) h (noded false h l) _
    (block-is o literal ends h (noded false h l))
lexeme_of-is o (QuoteSign single) ends h l p = quoted-is o single ends h (noded false h l) p
lexeme_of-is o PlainSign ends h l p = spelled_as o ends PlainSign h (noded false h l) _
    (plain-is o ends h (noded false h l) (ap (λ f. is_content f h.unread.text) (noded-flow false h l) ∙ p))
lexeme_of-is o StrayMark ends h l p = inl stray
lexeme_of-is o NoSign ends h l p = inl nothing

-- what is wrong at a lexeme, or inside it
abbrev pub RefusesAny : OptionsData → LexemeSort → Here → Laid → FaultKind → Mark → Type 0
RefusesAny o sort h l kind m = RefusesSort o h l sort kind m ⊎ MisspellsSort o h l sort kind m

abbrev pub InsideBy : OptionsData → Bool → LexemeSort → Here → Laid → List Item × ReaderState → Type 0
InsideBy o ends sort h l x = StandsInside o sort h l × Given o ends sort h l x.0 x.1

placed_as : (o : OptionsData) (ends : Bool) (sort : PlacedSort) (h : Here) (l : Laid)
    (r : Result (List Item × ReaderState) Fault) → (LeftInside o h l → ⊥) → SpelledAs o ends sort h l r
    → Answers (InsideBy o ends (Placed sort) h l) (RefusesAny o (Placed sort) h l) r
placed_as o ends sort h l (Ok x) s p = (s, p)
placed_as o ends sort h l (Err f) s (inl p) = inl (placed s p)
placed_as o ends sort h l (Err f) s (inr p) = inr (of_sign s p)

inside_as : (o : OptionsData) (ends : Bool) (sort : LexemeSort) (h : Here) (l : Laid)
    (r : Result (List Item × ReaderState) Fault) → StandsInside o sort h l → ReadAs o ends sort h l r
    → Answers (InsideBy o ends sort h l) (RefusesAny o sort h l) r
inside_as o ends sort h l (Ok x) s p = (s, p)
inside_as o ends sort h l (Err f) s p = inl p

directive_as : (o : OptionsData) (ends : Bool) (h : Here) (l : Laid) (r : Result (List Item × ReaderState) Fault)
    → Answers (GivenBy o ends DirectiveSign h l) (MisspellsSort o h l DirectiveSign) r
    → Answers (InsideBy o ends DirectiveSign h l) (RefusesAny o DirectiveSign h l) r
directive_as o ends h l (Ok x) p = (tt, p)
directive_as o ends h l (Err f) p = inr p

column-is : (o : OptionsData) (sort : PlacedSort) (ends : Bool) (h : Here) (l : Laid) → Starts sort (is_in_flow l) h
    → Answers (InsideBy o ends (Placed sort) h (with_run sort h l)) (RefusesAny o (Placed sort) h (with_run sort h l))
    (lexeme_in_column o sort ends h l)
unfolding lexeme_in_column is_strict_outside
column-is o sort ends h l p =
    let t = with_run sort h l in
    let same : ((o.strict_indentation && is_in_flow t) && is_left (block_column t) h.place.column)
    ≡ is_strict_outside o h.place.column l =
    ap₂ (λ (f : Bool) (cs : List OpenColumn). (o.strict_indentation && f)
    && is_left (innermost_column cs) h.place.column) (run_flow sort h l) (run_columns sort h l) in
    answers_if (InsideBy o ends (Placed sort) h t) (RefusesAny o (Placed sort) h t)
    (is_strict_outside o h.place.column l) _ _
    (λ y. inl (left_of_block (tells (outside_block_decided o h t) (same ∙ y))))
    (λ n. let s = denies (outside_block_decided o h t) (same ∙ n) in placed_as o ends sort h t _ s
    (lexeme_of-is o sort ends h l p))

lexeme_by-is : (o : OptionsData) (sort : LexemeSort) (s : ReaderState)
    → Begins (is_in_flow s.laid) (is_adjacent s.laid.last) s.here.place.column s.here.unread.text sort
    → sort_at (is_in_flow s.laid) (is_adjacent s.laid.last) s.here ≡ sort → is_gap (next_char s.here) ≡ false
    → Answers (InsideBy o (ends_column_by sort s) sort s.here (in_front sort s.here s.laid))
    (RefusesAny o sort s.here (in_front sort s.here s.laid)) (lexeme_by o sort s.here s.laid)
unfolding lexeme_by
lexeme_by-is o TextEnd s b e g = inside_as o (ends_all s.laid) TextEnd s.here s.laid _ tt (text_end-is o s.here s.laid)
lexeme_by-is o StartMark s b e g = inside_as o (ends_all s.laid) StartMark s.here (closed_all s.laid) _ tt
    (start_mark-is o (ends_all s.laid) s.here (closed_all s.laid) s.laid.brackets refl)
lexeme_by-is o EndMark s b e g = inside_as o (ends_all s.laid) EndMark s.here (closed_all s.laid) _ tt
    (end_mark-is o (ends_all s.laid) s.here (closed_all s.laid) s.laid.brackets refl)
lexeme_by-is o DirectiveSign s b e g = directive_as o (ends_all s.laid) s.here (closed_all s.laid) _
    (directive-is o (ends_all s.laid) s.here (closed_all s.laid) (percent_there b))
lexeme_by-is o Unprintable s b e g = inl unprintable
lexeme_by-is o (Placed sort) s b e g =
    column-is o sort (ends_at s.here.place.column s.laid) s.here (closed_at s.here.place.column s.laid)
    (starts sort (is_in_flow s.laid) s.here (signed b)
    (λ p. plain_sign-content (is_in_flow s.laid) (is_adjacent s.laid.last) s.here g
    (e ∙ ap (λ (sort : PlacedSort). Placed sort) p)))

-- ---- one read

abbrev Freshened : OptionsData → ReaderState → Laid → Type 0
Freshened o s l = (l ≡ fresh o (mark_of s.here) s.laid) × NoneOverdue o s

fresh_is : (o : OptionsData) (s : ReaderState)
    → Answers (Freshened o s) (Overdue o s) (without_stale o (mark_of s.here) s.laid)
fresh_is o s = on s.laid.key refl
  where
    left : Laid
    left = fresh o (mark_of s.here) s.laid

    by : (k : PossibleKey) → s.laid.key ≡ Some k → (v w : Bool) → is_stale o (is_in_flow s.laid) (mark_of s.here) k ≡ v
        → k.is_required ≡ w
        → Answers (Freshened o s) (Overdue o s) (refuse_required (if v then Some k else None) >>= λ u. Ok left)
    by k e false w f g = (
      refl,
      λ j p q. absurd
          (let m : k ≡ j = cc in denies (stale_decided o s.laid (mark_of s.here) k) f
          (subst (LeftBehind o s.laid (mark_of s.here)) (sym m) q)),
    )
    by k e true true f g = required k.is_required g
      where
        required : (w : Bool) → w ≡ true → Answers (Freshened o s) (Overdue o s)
            ((if w then fails_at SimpleKeyExpected k.start else Ok (tt {0})) >>= λ u. Ok left)
        required true r = record {
          key = k;
          is_outer = e;
          stale = tells (stale_decided o s.laid (mark_of s.here) k) f;
          required = g;
          names = refl;
          marks = refl;
        }
        required false r = absurd cc
    by k e true false f g = free k.is_required g
      where
        free : (w : Bool) → w ≡ false → Answers (Freshened o s) (Overdue o s)
            ((if w then fails_at SimpleKeyExpected k.start else Ok (tt {0})) >>= λ u. Ok left)
        free true r = absurd cc
        free false r = (refl, λ j p q. let m : k ≡ j = cc in subst (λ j. j.is_required ≡ false) m g)

    on : (key : Option PossibleKey) → s.laid.key ≡ key
        → Answers (Freshened o s) (Overdue o s)
        (refuse_required (stale_key o (is_in_flow s.laid) (mark_of s.here) key) >>= λ u. Ok left)
    on None e = (refl, λ k p q. absurd cc)
    on (Some k) e = by k e (is_stale o (is_in_flow s.laid) (mark_of s.here) k) k.is_required refl refl

abbrev pub ReadsBy : OptionsData → ReaderState → List Item × ReaderState → Type 0
ReadsBy o s x = Reads o s x.0 x.1

abbrev finish : OptionsData → List Item × ReaderState → Result (List Item × ReaderState) Fault
finish o y = read_whole o y.0 y.1

pub stops_there : {o : OptionsData} {h : Here} {l : Laid} {t : ReaderState} → GapStands o h l None t
    → is_gap (next_char t.here) ≡ false
stops_there (in_front_of_lexeme at g n t k) = g.stops.0

read_lexeme : (o : OptionsData) (s at : ReaderState) → GapStands o s.here s.laid None at → NoneOverdue o at
    → Answers (ReadsBy o s) (ReadRefused o s) (lexeme o at.here (fresh o (mark_of at.here) at.laid) >>= finish o)
read_lexeme o s at g k =
    let f = freshened o at in
    let sort = sort_at (is_in_flow f.laid) (is_adjacent f.laid.last) f.here in
    let begins = begins_is (is_in_flow f.laid) (is_adjacent f.laid.last) f.here in
    let comes : Comes o s at sort = record { gap = g; keys = k; begins = begins } in
    answers_then (InsideBy o (ends_column_by sort f) sort f.here (in_front sort f.here f.laid))
    (RefusesAny o sort f.here (in_front sort f.here f.laid)) (ReadsBy o s) (ReadRefused o s)
    (lexeme o f.here f.laid) (finish o)
    (lexeme_by-is o sort f begins refl (stops_there g))
    (λ y p. answers_then (Freshened o y.1) (Overdue o y.1) (ReadsBy o s) (ReadRefused o s)
    (without_stale o (mark_of y.1.here) y.1.laid) _ (fresh_is o y.1)
    (λ t q. subst (λ (t : Laid). Reads o s y.0 (record { here = y.1.here; laid = t })) (sym q.0)
    (of_lexeme at y.1 sort comes p q.1)) (λ kind m q. inl (key_overdue_behind y.0 at y.1 sort comes p q)))
    (λ kind m p. elim p [
      | inl q ↦ inl (at_lexeme at sort comes q)
      | inr q ↦ inr
          (record { at = at; sort = sort; comes = comes; wrong = q })
    ])

bind_assoc : {A B C : Type 0} (r : Result A Fault) (f : A → Result B Fault) (g : B → Result C Fault)
    → ((r >>= f) >>= g) ≡ (r >>= λ x. f x >>= g)
bind_assoc (Ok x) f g = refl
bind_assoc (Err e) f g = refl

read_behind-is : (o : OptionsData) (s : ReaderState) (c : Option CommentRead) (at : ReaderState)
    → GapStands o s.here s.laid c at → Answers (ReadsBy o s) (ReadRefused o s) (read_behind o c at >>= finish o)
read_behind-is o s (Some c) at g =
    answers_then (Freshened o at) (Overdue o at) (ReadsBy o s) (ReadRefused o s)
    (without_stale o (mark_of at.here) at.laid) _ (fresh_is o at)
    (λ t q. subst (λ (t : Laid). Reads o s (OfComment c ∷ []) (record { here = at.here; laid = t })) (sym q.0)
    (of_comment at g q.1)) (λ kind m q. inl (key_overdue (Some c) at g q))
read_behind-is o s None at g =
    subst (Answers (ReadsBy o s) (ReadRefused o s))
    (sym (bind_assoc (without_stale o (mark_of at.here) at.laid) (lexeme o at.here) (finish o)))
    (answers_then (Freshened o at) (Overdue o at) (ReadsBy o s) (ReadRefused o s)
    (without_stale o (mark_of at.here) at.laid) _ (fresh_is o at)
    (λ t q. subst (λ (t : Laid). Answers (ReadsBy o s) (ReadRefused o s) (lexeme o at.here t >>= finish o)) (sym q.0)
    (read_lexeme o s at g q.1)) (λ kind m q. inl (key_overdue None at g q)))

-- what a read gives stands there, and what it refuses has its cause
pub read-is : (o : OptionsData) (s : ReaderState) → Answers (ReadsBy o s) (ReadRefused o s) (read o s)
unfolding read
read-is o s =
    answers_then (GapAt o s.here s.laid) (GapRefused o s.here s.laid) (ReadsBy o s) (ReadRefused o s)
    (gap o s.here s.laid) (λ x. read_behind o x.0 x.1 >>= finish o) (gap_is o s.here s.laid)
    (λ x p. read_behind-is o s x.0 x.1 p) (λ kind m p. inl (in_gap p))

pub refusal_caused : (o : OptionsData) (s : ReaderState) (f : Fault) → read o s ≡ Err f → ReadRefused o s f.kind f.mark
refusal_caused o s f e = subst (Answers (ReadsBy o s) (ReadRefused o s)) e (read-is o s)

-- ---- all reads

pub record Lexed (o : OptionsData) (s : ReaderState) (items : List Item) (t : LexState) : Type 0 where
  pub reached : Reached o s items t.reader
  pub ends : EndsBy o items t.reader t.fault

abbrev HoldsBy : OptionsData → Bool → LexState → List Item → LexState → Type 0
HoldsBy o true s items t = (items ≡ []) × (t ≡ s)
HoldsBy o false s items t = Lexed o s.reader items t

abbrev Holds : OptionsData → LexState → Result (List Item × LexState) Fault → Type 0
Holds o s (Ok x) = HoldsBy o s.ended s x.0 x.1
Holds o s (Err f) = ⊥

more_of : (o : OptionsData) (s : ReaderState) (items : List Item) (after : ReaderState) → Reads o s items after
    → (v : Bool) → is_end items ≡ v → (more : List Item) (t : LexState)
    → HoldsBy o v (record { reader = after; ended = v; fault = None }) more t → Lexed o s (items ++ more) t
more_of o s items after r true e more t h =
    subst (Lexed o s (items ++ more)) (sym h.1) (record {
      reached = goes_on after items more r (λ _. h.0) (subst (λ l. Reached o after l after) (sym h.0) stops) refl;
      ends = ([], items, ap (λ (l : List Item). items ++ l) h.0 ∙ append-nil items, e);
    })
more_of o s items after r false e more t h = record {
  reached = goes_on after items more r (λ p. absurd cc) h.reached
      refl;
  ends = ends_more t.fault h.ends;
}
  where
    ends_more : (f : Option Fault) → EndsBy o more t.reader f → EndsBy o (items ++ more) t.reader f
    ends_more None (front, last, p, q) = (
      items ++ front,
      last,
      ap (λ (l : List Item). items ++ l) p
          ∙ rw append_assoc refl,
      q,
    )
    ends_more (Some f) p = p

carried : (o : OptionsData) (s : ReaderState) (items : List Item) (after : ReaderState) → Reads o s items after
    → (given : Result (List Item × LexState) Fault)
    → Holds o (record { reader = after; ended = is_end items; fault = None }) given
    → Holds o (record { reader = s; ended = false; fault = None }) (with_front items given)
carried o s items after r (Ok x) h = more_of o s items after r (is_end items) refl x.0 x.1 h
carried o s items after r (Err f) h = absurd h

turn_by : (o : OptionsData) (s : LexState) (r : Result (List Item × ReaderState) Fault)
    → Answers (ReadsBy o s.reader) (ReadRefused o s.reader) r → (v : Bool) → s.ended ≡ v
    → Carries (Holds o) s (if v then Ok (None, s) else behind_read r s.reader)
turn_by o s r p true e = subst (λ v. HoldsBy o v s [] s) (sym e) (refl, refl)
turn_by o s (Ok x) p false e = λ given h. held given (carried o s.reader x.0 x.1 p given h)
  where
    held : (given : Result (List Item × LexState) Fault)
        → Holds o (record { reader = s.reader; ended = false; fault = None }) (with_front x.0 given)
        → Holds o s (with_front x.0 given)
    held (Ok y) q = subst (λ v. HoldsBy o v s (x.0 ++ y.0) y.1) (sym e) q
    held (Err f) q = q
turn_by o s (Err f) p false e = subst (λ v. HoldsBy o v s []
    (record { reader = s.reader; ended = false; fault = Some f })) (sym e) (record { reached = stops; ends = p })

turn-is : (o : OptionsData) (s : LexState) → Carries (Holds o) s (lex_turn o s)
unfolding lex_turn
turn-is o s = turn_by o s (read o s.reader) (read-is o s.reader) s.ended refl

abbrev pub Total : Result (List Item × LexState) Fault → Type 0
Total (Ok x) = Unit {0}
Total (Err f) = ⊥

-- from any state reading gives items and a state
pub total : (o : OptionsData) (s : LexState) → Total (pieces lex_len (lex_turn o) s)
total o s = on (pieces lex_len (lex_turn o) s)
    (pieces_hold (Holds o) lex_len (lex_turn o) (lex_turn-Shortens o) (turn-is o) s)
  where
    on : (r : Result (List Item × LexState) Fault) → Holds o s r → Total r
    on (Ok x) p = tt
    on (Err f) p = p

lex_holds : (o : OptionsData) (h : Here) → Holds o (lex_start h) (lex o h)
lex_holds o h = pieces_hold (Holds o) lex_len (lex_turn o) (lex_turn-Shortens o) (turn-is o) (lex_start h)

-- what is read of a text is what it holds, up to the end or to what is refused
pub lexed : (o : OptionsData) (h : Here) (items : List Item) (t : LexState) → lex o h ≡ Ok (items, t)
    → Lexed o (lex_start h).reader items t
lexed o h items t e = subst (Holds o (lex_start h)) e (lex_holds o h)

-- reading always gives items and a state
pub lex_answers : (o : OptionsData) (h : Here) (f : Fault) → lex o h ≡ Err f → ⊥
lex_answers o h f e = subst (Holds o (lex_start h)) e (lex_holds o h)

-- A lexeme that stands is the one that the reader gives.
use Rattle.std.proofs.Common.{◌≡◌, ℕ, ◌<◌, ◌==◌, ◌&&◌, not, Bool, true, false, List, [], ◌∷◌, length, drop, Option}
use Rattle.std.proofs.Common.{Some, None, Result, Ok, ◌⊎◌, inl, inr, refl, sym, ap, ap₂, ◌∙◌, subst, arith}
use Rattle.std.specs.Prelude.{if◌then◌else◌, nat_le, slice_index}
use Rattle.std.proofs.lemmas.Bool.{cond-true, cond-false}
use Rattle.std.proofs.lemmas.Bool.Decides.{nat_tests}
use Rattle.granit_base.specs.Classes.{is_blank}
use Rattle.granit_base.specs.Place.{Mark}
use Rattle.granit_error.specs.FaultKind.{SimpleKeyExpected, RecursionLimitExceeded, MappingKeyNotAllowed}
use Rattle.granit_error.specs.FaultKind.{MappingValueNotAllowed}
use Rattle.granit_error.specs.OptionsData.{OptionsData}
use Rattle.granit_lexemes.specs.Basics.{fails_at}
use Rattle.granit_lexemes.specs.Comment.{CommentRead}
use Rattle.granit_lexemes.specs.HeaderExtent.{LexemeTail}
use Rattle.granit_lexemes.specs.Here.{Here, next_char, mark_of, step}
use Rattle.granit_lexemes.specs.Lexeme.{Question, Lexeme, Item, OfLexeme}
use Rattle.granit_lexemes.specs.declared.layout.Bracket.{Bracket}
use Rattle.granit_lexemes.specs.LayoutData.{LayoutData}
use Rattle.granit_lexemes.specs.PlainExtent.{AnswersPlain}
use Rattle.granit_lexemes.specs.QuotedExtent.{AnswersQuoted}
use Rattle.granit_lexemes.specs.Outcome.{Fault, ◌>>=◌}
use Rattle.granit_lexemes.specs.QuotedScalar.{quoted_scalar}
use Rattle.granit_lexemes.specs.Tail.{tail_at}
use Rattle.granit_blocks.proofs.BlockHeads.{comment_answered}
use Rattle.granit_blocks.proofs.BlockSpans.{is_answered}
pub use Rattle.granit_blocks.proofs.Moving.{quoted_is_answered}
pub use Rattle.granit_blocks.proofs.BlockHeads.{tail_is}
use Rattle.granit_blocks.proofs.BlockLaw.{block_is_answered}
use Rattle.granit_directive_laws.proofs.LineLaw.{name_is}
use Rattle.granit_directive_laws.proofs.LineLaw.{tag_is}
use Rattle.granit_machine.specs.Columns.{refuse_column, entered, with_entry, with_pair}
use Rattle.granit_machine.specs.FlowLexemes.{opener, closed_bracket, closes, closer_by, comma}
use Rattle.granit_machine.specs.IndicatorLexemes.{is_tabbed_dash, behind_dash, dash_up_to, dash, question_up_to}
use Rattle.granit_machine.specs.IndicatorLexemes.{nul_behind, behind_question, question_by, question, colon_lexeme}
use Rattle.granit_machine.specs.IndicatorLexemes.{keyed_given, keyed_colon, bare_given, bare_colon, colon_by_key}
use Rattle.granit_machine.specs.IndicatorLexemes.{colon_tail, opens_flow, colon}
use Rattle.granit_machine.specs.Laid.{Laid, behind_lexeme, is_adjacent, is_in_flow, same_bracket, block_column}
use Rattle.granit_machine.specs.Laid.{is_column}
use Rattle.granit_lexemes.specs.declared.layout.LastLexeme.TheVariants.{BehindQuestion, Adjacent, Another}
use Rattle.granit_lexemes.specs.declared.layout.PossibleKey.{PossibleKey}
use Rattle.granit_lexemes.specs.declared.layout.OpenBracket.{OpenBracket}
use Rattle.granit_machine.specs.LexemeSort.{PlacedSort, OpenSign, CloseSign, CommaSign, DashSign, QuestionSign}
use Rattle.granit_machine.specs.LexemeSort.{ColonSign, AliasSign, AnchorSign, TagSign, BlockSign, QuoteSign, StrayMark}
use Rattle.granit_machine.specs.LexemeSort.{NoSign, PlainSign, Placed}
use Rattle.granit_machine.specs.NodeLexemes.{quoted_and_gap}
use Rattle.granit_machine.specs.PossibleKeys.{top_key, forgets_key, refuse_required, drop_key, is_allowed, start_of_key}
use Rattle.granit_machine.specs.PossibleKeys.{is_far_below, layout_of}
use Rattle.granit_machine.specs.Reader.{noded, lexeme_of}
use Rattle.granit_machine.specs.ReaderState.{ReaderState, Read, sign_lexeme, read_to, given, behind_tail, tailed}
use Rattle.granit_language.specs.Allowed.{outside, RoomFor}
use Rattle.granit_language.specs.Before.{behind_colon, behind_question_sign, last_of_colon, with_run, behind}
use Rattle.granit_language.specs.Standing.{NoneRequired, a_comment, no_comment, QuestionTail, QuestionStands, ColonFits}
use Rattle.granit_language.specs.Standing.{key_start, ClosesInnermost, QuotedLexeme, Given}
use Rattle.granit_language.specs.Stretch.{TailIf}
use Rattle.granit_reading.proofs.Deciding.{asserts, rejects, flow_same, begin_decided, innermost_decided, full_decided}
use Rattle.granit_reading.proofs.Deciding.{bracket_decided, far_decided, tabbed_decided, nul_decided, touching_decided}
use Rattle.granit_reading.proofs.Deciding.{layout_same}
use Rattle.granit_reading.proofs.GapAnswers.{hash_is, past_white_answers, tab_answers, gap_answers}
use Rattle.granit_reading.proofs.Lexemes.{comma_last, bind_bind}

-- ---- parts that lexemes share

pub then_is : {A B : Type 0} {r : Result A Fault} {x : A} (f : A → Result B Fault) → r ≡ Ok x → (r >>= f) ≡ f x
then_is f e = ap (λ r. r >>= f) e

-- a read of this lexeme up to there
pub read_as : {x y : Lexeme} {l : Laid} {after : ReaderState} → x ≡ y → after.laid ≡ l
    → read_to y after.here l ≡ Ok (OfLexeme x ∷ [], after)
read_as {after = after} e f = ap₂ (λ (y : Lexeme) (l : Laid). read_to y after.here l) (sym e) (sym f)

pub read_at : {x y : Lexeme} {g : Here} {l : Laid} {after : ReaderState} → after.here ≡ g → x ≡ y → after.laid ≡ l
    → read_to y g l ≡ Ok (OfLexeme x ∷ [], after)
read_at {y = y} {l = l} r e f = ap (λ (g : Here). read_to y g l) (sym r) ∙ read_as e f

pub tail_then : {B : Type 0} {end after : Here} {held : Option CommentRead}
    (f : Option CommentRead × Here → Result B Fault) → LexemeTail end held after → (tail_at end >>= f) ≡ f (held, after)
tail_then {end = end} {after = after} {held = held} f t = then_is f (tail_is end held after t)

pub drop_answers : (l : Laid) → NoneRequired l → drop_key l ≡ Ok (forgets_key l)
drop_answers l free = ap (λ r. r >>= λ u. Ok (forgets_key l)) (on (top_key l) refl)
  where
    on : (key : Option PossibleKey) → top_key l ≡ key → refuse_required key ≡ Ok tt
    on None e = refl
    on (Some k) e = cond-false k.is_required _ _ (free k e)

pub room_answers : (o : OptionsData) (column : ℕ) (mark : Mark) (l : Laid) → RoomFor o column l
    → refuse_column o column mark l.columns ≡ Ok tt
unfolding refuse_column
room_answers o column mark l r = on (is_column (block_column l) column)
    (nat_le o.block_nesting_limit (length l.columns))
    (elim r [
      | inl e ↦ inl (asserts (innermost_decided l column) e)
      | inr n ↦ inr
          (rejects (full_decided o l) (λ m. omega (arith, m, n)))
    ])
  where
    on : (v w : Bool) → (v ≡ true) ⊎ (w ≡ false)
        → ◌≡◌ {A = Result (Unit {0}) Fault} (if v then Ok tt else if w then fails_at RecursionLimitExceeded mark else Ok
        tt) (Ok tt)
    on true w r = refl
    on false false r = refl
    on false true (inl e) = absurd cc
    on false true (inr e) = absurd cc

pub not_less : (a b : ℕ) → b < a → nat_le a b ≡ false
not_less a b p = grind (arith, nat_tests, p)

-- ---- brackets and `,`

module _ (o : OptionsData) (ends : Bool) (h : Here) (l : Laid) (x : Lexeme) (after : ReaderState) where
  abbrev Is : Read → Type 0
  Is r = r ≡ Ok (OfLexeme x ∷ [], after)

  opener_answers : (bracket : Bracket) → Given o ends (Placed (OpenSign bracket)) h l (OfLexeme x ∷ []) after
      → Is (opener o bracket ends h l)
  unfolding opener tailed
  opener_answers bracket p = cond-false (nat_le o.flow_nesting_limit (length l.brackets)) _ _
      (not_less o.flow_nesting_limit (length l.brackets) p.0.1) ∙ tail_then _ p.0.0.tailed ∙ read_as p.0.0.is p.1

  closer_answers : (bracket : Bracket) (bs : List OpenBracket) → l.brackets ≡ bs → ClosesInnermost bracket bs
      → Given o ends (Placed (CloseSign bracket)) h l (OfLexeme x ∷ []) after → Is (closer_by bracket bs ends h l)
  unfolding closes tailed
  closer_answers bracket [] e c p = absurd c
  closer_answers bracket (b ∷ bs) e c p =
      cond-false (not (same_bracket b.bracket bracket)) _ _ (ap not (asserts (bracket_decided b.bracket bracket) c))
      ∙ tail_then _ p.0.0.tailed
      ∙ read_as p.0.0.is (p.1 ∙ ap₂ (λ (y : Lexeme) (k : List OpenBracket). behind_lexeme (behind_tail Adjacent y.tail)
      (closed_bracket (drop 1 k) l)) p.0.0.is e)

  comma_answers : Given o ends (Placed CommaSign) h l (OfLexeme x ∷ []) after → Is (comma ends h l)
  unfolding tailed
  comma_answers p = then_is _ (drop_answers l p.0.1) ∙ tail_then _ p.0.0.tailed
      ∙ read_as p.0.0.is (p.1 ∙ ap (λ last. behind_lexeme last (forgets_key l)) (sym (comma_last l p.0.0.tail)))

  -- ---- `-`, `?` and `:`

  dash_answers : Given o ends (Placed DashSign) h l (OfLexeme x ∷ []) after → Is (dash o ends h l)
  unfolding dash dash_up_to behind_dash
  dash_answers p =
      cond-false (is_in_flow l) _ _ (flow_same {l = l} (outside p.0.entry.outside))
      ∙ cond-false (not (is_allowed h.begins_line h.tab l)) _ _
      (ap not (asserts (begin_decided h l) p.0.entry.allowed))
      ∙ then_is _ (then_is _ (room_answers o h.place.column (mark_of h) l p.0.entry.room)) ∙ tail_then _ p.0.tailed
      ∙ cond-false (is_tabbed_dash after.here) _ _ (rejects (tabbed_decided after.here) p.0.no_tab) ∙ read_as p.0.is p.1

  abbrev question_laid : Laid
  question_laid = behind_question (entered h.place.column l)

  question_answers : (v : Bool) → is_in_flow l ≡ v → QuestionStands o ends h l x after.here v
      → after.laid ≡ behind_lexeme (if v then Another else BehindQuestion) (behind_question_sign v h l)
      → Is (if v then given (sign_lexeme ends Question h l) Another (step h) (forgets_key l) else if not
      (is_allowed h.begins_line h.tab l) then fails_at MappingKeyNotAllowed (mark_of h) else with_entry o h.place.column
      (mark_of h) l >>= question_by o (sign_lexeme ends Question h l) h)
  unfolding question_by question_up_to
  question_answers true e p q = ap₂ (λ (g : Here) (r : Laid). read_to (sign_lexeme ends Question h l) g r)
      (sym p.reaches) (sym q) ∙ ap (λ (y : Lexeme). Ok (OfLexeme y ∷ [], after)) (sym p.is)
  question_answers false e p q =
      cond-false (not (is_allowed h.begins_line h.tab l)) _ _ (ap not (asserts (begin_decided h l) p.entry.allowed))
      ∙ then_is _ (then_is _ (room_answers o h.place.column (mark_of h) l p.entry.room))
      ∙ cond-false (nul_behind h) _ _ (rejects (nul_decided h) p.no_nul)
      ∙ ap (λ at. question_up_to o (sign_lexeme ends Question h l) at question_laid)
      (past_white_answers (step h) p.at p.gap) ∙ on p.tail after.here refl p.is p.tailed
    where
      reach : (g : Here) (y : Lexeme) → after.here ≡ g → x ≡ y → Is (given y BehindQuestion g question_laid)
      reach g y e is = ap (λ (g : Here). given y BehindQuestion g question_laid) (sym e) ∙ read_as is q

      on : (held : Option CommentRead) (g : Here) → after.here ≡ g
          → x ≡ record (sign_lexeme ends Question h l) { tail = held } → QuestionTail o question_laid p.at held g
          → Is (question_up_to o (sign_lexeme ends Question h l) p.at question_laid)
      on held g e is (a_comment {comment = c} s) = cond-true (next_char p.at == 0x23) _ _ (hash_is s)
          ∙ then_is _ (comment_answered p.at c g s) ∙ reach g _ e is
      on held g e is (no_comment n t) = cond-false (next_char p.at == 0x23) _ _ n
          ∙ then_is _ (tab_answers o question_laid p.at t) ∙ reach g _ e is

  question_whole : Given o ends (Placed QuestionSign) h l (OfLexeme x ∷ []) after → Is (question o ends h l)
  unfolding question
  question_whole p = question_answers (is_in_flow l) refl p.0 p.1

  keyed_answers : (v : Bool) (k : PossibleKey) → ColonFits o v (Some k) h l → (held : Option CommentRead)
      → x ≡ colon_lexeme ends (Some (start_of_key k)) held h l
      → after.laid ≡ behind_lexeme (last_of_colon v (Some k)) (behind_colon v (Some k) h l)
      → Is (if is_far_below h.place l k then fails_at Rattle.granit_error.specs.FaultKind.InvalidColonPlacement
      (mark_of h) else if v then keyed_given (colon_lexeme ends (Some (start_of_key k)) held h l) after.here l
      else with_pair o k.start.place.column k.start l >>= keyed_given
      (colon_lexeme ends (Some (start_of_key k)) held h l) after.here)
  keyed_answers true k f held is q = cond-false (is_far_below h.place l k) _ _ (rejects (far_decided h l k) f)
      ∙ read_as is q
  keyed_answers false k f held is q = cond-false (is_far_below h.place l k) _ _ (rejects (far_decided h l k) f.0)
      ∙ then_is _ (then_is _ (room_answers o k.start.place.column k.start l f.1)) ∙ read_as is q

  bare_answers : (v : Bool) → ColonFits o v None h l → (held : Option CommentRead) → x ≡ colon_lexeme ends None held h l
      → after.laid ≡ behind_lexeme (last_of_colon v None) (behind_colon v None h l)
      → Is (if v then given (colon_lexeme ends None held h l) Another after.here l else if not
      (is_allowed h.begins_line h.tab l) then fails_at MappingValueNotAllowed (mark_of h) else with_pair o
      h.place.column (mark_of h) l >>= bare_given (colon_lexeme ends None held h l) after.here)
  bare_answers true f held is q = read_as is q
  bare_answers false f held is q = cond-false (not (is_allowed h.begins_line h.tab l)) _ _
      (ap not (asserts (begin_decided h l) f.0))
      ∙ then_is _ (then_is _ (room_answers o h.place.column (mark_of h) l f.1)) ∙ read_as is q

  by_key_answers : (key : Option PossibleKey) → ColonFits o (is_in_flow l) key h l → (held : Option CommentRead)
      → x ≡ colon_lexeme ends (key_start key) held h l
      → after.laid ≡ behind_lexeme (last_of_colon (is_in_flow l) key) (behind_colon (is_in_flow l) key h l)
      → Is (colon_by_key o ends key held after.here h l)
  unfolding keyed_colon bare_colon
  by_key_answers None f held is q = bare_answers (is_in_flow l) f held is q
  by_key_answers (Some k) f held is q = keyed_answers (is_in_flow l) k f held is q

  colon_answers : Given o ends (Placed ColonSign) h l (OfLexeme x ∷ []) after → Is (colon o ends h l)
  unfolding colon colon_tail
  colon_answers p =
      cond-false (not (is_adjacent l.last) && opens_flow (slice_index h.unread.text 1)) _ _
      (rejects (touching_decided h l) (λ t. p.0.apart t.0 t.1))
      ∙ then_is _ (on (is_blank (next_char (step h))) p.0.tailed)
      ∙ by_key_answers (top_key l) p.0.fits p.0.tail p.0.is p.1
    where
      on : (v : Bool) → TailIf v (step h) p.0.tail after.here
          → (if v then tail_at (step h) else Ok (None, step h)) ≡ Ok (p.0.tail, after.here)
      on true t = tail_is (step h) p.0.tail after.here t
      on false t = ap₂ (λ (c : Option CommentRead) (g : Here). Ok (c, g)) (sym t.0) (sym t.1)

-- ---- the quoted scalar and its gap

quoted_answers : (o : OptionsData) (single ends : Bool) (h : Here) (l : Laid) (items : List Item) (after : ReaderState)
    → QuotedLexeme o single ends h l items after → quoted_and_gap o single ends h l ≡ Ok (items, after)
quoted_answers o single ends h l items after p =
    bind_bind (quoted_scalar single (layout_of o h.place.column l) h) _ _
    ∙ then_is _ (quoted_is_answered single (layout_of o h.place.column l) h p.read p.end
    (subst (λ (d : LayoutData). AnswersQuoted single d h p.read p.end) (sym (layout_same o h.place.column l p.told))
    p.answers))
    ∙ then_is _ (gap_answers p.gap)
    ∙ ap₂ (λ (is : List Item) (s : ReaderState). Ok (is, s)) (sym p.gives) (sym p.leaves)

-- ---- by sorts

module _ (o : OptionsData) (ends : Bool) (h : Here) (l : Laid) where
  pub placed_answers : (sort : PlacedSort) (items : List Item) (after : ReaderState)
      → Given o ends (Placed sort) h (with_run sort h l) items after → lexeme_of o sort ends h l ≡ Ok (items, after)
  unfolding lexeme_of
  placed_answers (QuoteSign single) items after p = quoted_answers o single ends h (noded false h l) items after p
  placed_answers (OpenSign bracket) (OfLexeme x ∷ []) after p = opener_answers o ends h (noded false h l) x after
      bracket p
  placed_answers (CloseSign bracket) (OfLexeme x ∷ []) after p = closer_answers o ends h l x after bracket l.brackets
      refl p.0.1 p
  placed_answers CommaSign (OfLexeme x ∷ []) after p = comma_answers o ends h l x after p
  placed_answers DashSign (OfLexeme x ∷ []) after p = dash_answers o ends h l x after p
  placed_answers QuestionSign (OfLexeme x ∷ []) after p = question_whole o ends h l x after p
  placed_answers ColonSign (OfLexeme x ∷ []) after p = colon_answers o ends h l x after p
  placed_answers AliasSign (OfLexeme x ∷ []) after p = then_is _ (name_is h p.0.name after.here p.0.answers)
      ∙ read_as p.0.is p.1
  placed_answers AnchorSign (OfLexeme x ∷ []) after p = then_is _ (name_is h p.0.name after.here p.0.answers)
      ∙ read_as p.0.is p.1
  placed_answers TagSign (OfLexeme x ∷ []) after p = then_is _
      (tag_is (is_in_flow (noded true h l)) h p.0.read after.here p.0.answers) ∙ read_as p.0.is p.1
  placed_answers (BlockSign literal) (OfLexeme x ∷ []) after p = then_is _
      (block_is_answered literal (block_column (noded false h l)) h p.0.given after.here p.0.answers)
      ∙ read_as p.0.is p.1
  placed_answers PlainSign (OfLexeme x ∷ []) after p =
      then_is _ (is_answered (layout_of o h.place.column (noded false h l)) h p.1.read after.here
      (subst (λ (d : LayoutData). AnswersPlain d h p.1.read after.here)
      (sym (layout_same o h.place.column (noded false h l) p.1.told)) p.1.answers))
      ∙ read_as p.1.is (p.2 ∙ ap (λ (c : Option Mark). behind o (Placed PlainSign) x c after.here h (noded false h l))
      p.1.cuts)
  placed_answers StrayMark (OfLexeme x ∷ []) after p = absurd p.0
  placed_answers NoSign (OfLexeme x ∷ []) after p = absurd p.0
  placed_answers sort items after p = absurd p

-- What the reader reads as a lexeme of a sort stands there, and what it refuses is wrong there.
use Rattle.std.proofs.Common.{◌≡◌, ℕ, ◌<◌, ◌==◌, ◌&&◌, not, Bool, true, false, List, [], ◌∷◌, length, Option, Some}
use Rattle.std.proofs.Common.{None, Result, Ok, Err, ◌⊎◌, inl, inr, refl, sym, ap, ◌∙◌, subst, arith}
use Rattle.std.proofs.lemmas.Bool.{not-false, not-true, leb-true}
use Rattle.std.specs.Prelude.{if◌then◌else◌, nat_le, slice_index}
use Rattle.std.proofs.lemmas.Bool.Decides.{nat_tests}
use Rattle.granit_base.specs.Classes.{is_gap, is_blank, is_breakz}
use Rattle.granit_base.specs.Place.{Mark}
use Rattle.granit_error.specs.FaultKind.{FaultKind, SimpleKeyExpected, RecursionLimitExceeded, MappingKeyNotAllowed}
use Rattle.granit_error.specs.FaultKind.{MappingValueNotAllowed}
use Rattle.granit_error.specs.OptionsData.{OptionsData}
use Rattle.granit_lexemes.specs.Basics.{fails_at}
use Rattle.granit_lexemes.specs.BlockScalar.{block_scalar}
use Rattle.granit_lexemes.specs.Comment.{CommentRead, comment, Spoils}
use Rattle.granit_lexemes.specs.Directive as directives
use Rattle.granit_lexemes.specs.HeaderExtent.{LexemeTail}
use Rattle.granit_lexemes.specs.Here.{Here, next_char, mark_of, step, past}
use Rattle.granit_lexemes.specs.Lexeme.{Question, Lexeme, Item, OfLexeme}
use Rattle.granit_lexemes.specs.declared.layout.Bracket.{Bracket}
use Rattle.granit_lexemes.specs.Moves.{steps}
use Rattle.granit_lexemes.specs.NameExtent.{is_name_sign}
use Rattle.granit_lexemes.specs.Outcome.{Fault, ◌>>=◌}
use Rattle.granit_lexemes.specs.PlainScalar.{plain_scalar}
use Rattle.granit_base.specs.PlainContent.{is_content}
use Rattle.granit_lexemes.specs.QuotedScalar.{quote_char, quoted_scalar}
use Rattle.granit_lexemes.specs.Tags.{name_at, tag_at}
use Rattle.granit_lexemes.specs.Tail.{tail_at}
use Rattle.granit_blocks.proofs.BlockSpans.{is_standing, is_refused}
use Rattle.granit_blocks.proofs.Moving.{quoted_standing, quoted_refused}
use Rattle.granit_blocks.proofs.BlockLaw.{block_standing}
pub use Rattle.granit_blocks.proofs.BlockLaw.{block_refused}
use Rattle.granit_directive_laws.proofs.LineLaw.{name_stands, name_refused}
use Rattle.granit_directive_laws.proofs.LineLaw.{tag_stands, tag_refused}
use Rattle.granit_directive_laws.proofs.LineLaw.{whole_stands, whole_caused}
use Rattle.granit_machine.specs.Columns.{refuse_column, entered, with_entry, pair_entered, with_pair, ends_all}
use Rattle.granit_machine.specs.FlowLexemes.{opener, closed_bracket, closes, closer_by, closer, last_of_comma, comma}
use Rattle.granit_machine.specs.Gaps.{gap}
use Rattle.granit_machine.specs.IndicatorLexemes.{is_tabbed_dash, behind_dash, dash_up_to, dash, question_up_to}
use Rattle.granit_machine.specs.IndicatorLexemes.{nul_behind, behind_question, question_by, question, colon_lexeme}
use Rattle.granit_machine.specs.IndicatorLexemes.{keyed_given, keyed_colon, bare_given, bare_colon, colon_by_key}
use Rattle.granit_machine.specs.IndicatorLexemes.{colon_tail, opens_flow, colon}
use Rattle.granit_machine.specs.Laid.{Laid, behind_lexeme, is_adjacent, is_in_flow, same_bracket, block_column}
use Rattle.granit_machine.specs.Laid.{is_column}
use Rattle.granit_lexemes.specs.declared.layout.LastLexeme.TheVariants.{Opener, BehindQuestion, Adjacent, Another}
use Rattle.granit_lexemes.specs.declared.layout.PossibleKey.{PossibleKey}
use Rattle.granit_lexemes.specs.declared.layout.OpenBracket.{OpenBracket}
use Rattle.granit_machine.specs.LexemeSort.{PlacedSort, OpenSign, CloseSign, CommaSign, DashSign, QuestionSign}
use Rattle.granit_machine.specs.LexemeSort.{ColonSign, AliasSign, AnchorSign, TagSign, BlockSign, QuoteSign, PlainSign}
use Rattle.granit_machine.specs.LexemeSort.{LexemeSort, TextEnd, StartMark, EndMark, DirectiveSign, Placed}
use Rattle.granit_machine.specs.NodeLexemes.{alias_lexeme, anchor_lexeme, tag_lexeme, block_lexeme, plain_lexeme}
use Rattle.granit_machine.specs.NodeLexemes.{quoted_and_gap}
use Rattle.granit_machine.specs.PossibleKeys.{top_key, forgets_key, refuse_required, drop_key, is_allowed, start_of_key}
use Rattle.granit_machine.specs.PossibleKeys.{is_far_below, layout_of}
use Rattle.granit_machine.specs.ReaderState.{ReaderState, sign_lexeme, given, behind_tail, tailed, refuse_open}
use Rattle.granit_machine.specs.StreamLexemes.{text_end, start_mark, end_mark_up_to, end_mark, directive_lexeme}
use Rattle.granit_language.specs.Before.{behind_colon, behind_question_sign, last_of_colon}
use Rattle.granit_language.specs.Allowed.{TooMany, RoomFor, EntryFits, FarBelow}
use Rattle.granit_language.specs.Refusing.{GapRefused, KeyWaits, ColonTailed, tail_of_open, tail_of_close}
use Rattle.granit_language.specs.Refusing.{tail_of_comma, tail_of_dash, tail_of_colon, QuestionGap, Refuses, tail}
use Rattle.granit_language.specs.Refusing.{mismatched, misplaced, flow_deep, dash_deep, question_deep, colon_deep}
use Rattle.granit_language.specs.Refusing.{key_deep, comma_waits, dash_in_flow, dash_here, dash_behind_tab}
use Rattle.granit_language.specs.Refusing.{question_here, nul, question_spoiled, question_tab, colon_touches, far_below}
use Rattle.granit_language.specs.Refusing.{colon_here, in_alias, in_anchor, in_block, in_plain, quoted_gap, Misspells}
use Rattle.granit_language.specs.Refusing.{in_tag, in_quoted, MisspellsSort, IsOuter, end_is, start_mark_is}
use Rattle.granit_language.specs.Refusing.{end_mark_is, RefusesSort, unclosed, end_waits, dots_tail, behind_dots}
use Rattle.granit_language.specs.Refusing.{in_directive}
use Rattle.granit_language.specs.Standing.{NoneRequired, a_comment, no_comment, QuestionStands, ColonFits, key_start}
use Rattle.granit_language.specs.Standing.{ColonApart, ClosesInnermost, Given}
use Rattle.granit_language.specs.Stretch.{WrongTail, TailIf}
use Rattle.granit_reading.proofs.Answering.{Answers, answers_then, answers_as, answers_if}
use Rattle.granit_reading.proofs.Deciding.{tells, denies, flow_decided, outside_decided, begin_decided}
use Rattle.granit_reading.proofs.Deciding.{innermost_decided, full_decided, bracket_decided, far_decided}
use Rattle.granit_reading.proofs.Deciding.{tabbed_decided, nul_decided, touching_decided, layout_is}
use Rattle.granit_reading.proofs.Gapping.{TailAt, tail_is, NotedAt, comment_at_is, refuse_tab_is, GapAt, gap_is}
use Rattle.granit_reading.proofs.Gapping.{past_white}

abbrev pub GivenBy : OptionsData → Bool → LexemeSort → Here → Laid → List Item × ReaderState → Type 0
GivenBy o ends sort h l x = Given o ends sort h l x.0 x.1

-- what a read gives stands there, and what it refuses is wrong there
abbrev pub PlacedAs : OptionsData → Bool → PlacedSort → Here → Laid → Result (List Item × ReaderState) Fault → Type 0
PlacedAs o ends sort h l r = Answers (GivenBy o ends (Placed sort) h l) (Refuses o h l sort) r

abbrev pub ReadAs : OptionsData → Bool → LexemeSort → Here → Laid → Result (List Item × ReaderState) Fault → Type 0
ReadAs o ends sort h l r = Answers (GivenBy o ends sort h l) (RefusesSort o h l sort) r

-- the same of a lexeme that may be misspelt
abbrev pub MayRefuse : OptionsData → PlacedSort → Here → Laid → FaultKind → Mark → Type 0
MayRefuse o sort h l kind m = Refuses o h l sort kind m ⊎ Misspells o h l sort kind m

abbrev pub SpelledAs : OptionsData → Bool → PlacedSort → Here → Laid → Result (List Item × ReaderState) Fault → Type 0
SpelledAs o ends sort h l r = Answers (GivenBy o ends (Placed sort) h l) (MayRefuse o sort h l) r

pub widened_answers : {A : Type 0} (P : A → Type 0) (Q W : FaultKind → Mark → Type 0) (r : Result A Fault)
    → ((kind : FaultKind) (m : Mark) → Q kind m → W kind m) → Answers P Q r → Answers P W r
widened_answers P Q W (Ok x) f p = p
widened_answers P Q W (Err e) f p = f e.kind e.mark p

pub spelled_as : (o : OptionsData) (ends : Bool) (sort : PlacedSort) (h : Here) (l : Laid)
    (r : Result (List Item × ReaderState) Fault) → PlacedAs o ends sort h l r → SpelledAs o ends sort h l r
spelled_as o ends sort h l r p = widened_answers (GivenBy o ends (Placed sort) h l) (Refuses o h l sort)
    (MayRefuse o sort h l) r (λ kind m q. inl q) p

-- ---- parts that lexemes share

tail_then : {B : Type 0} (R : B → Type 0) (W : FaultKind → Mark → Type 0) (end : Here)
    (f : Option CommentRead × Here → Result B Fault) → ((kind : FaultKind) (m : Mark) → WrongTail end kind m → W kind m)
    → ((x : Option CommentRead × Here) → LexemeTail end x.0 x.1 → Answers R W (f x)) → Answers R W (tail_at end >>= f)
tail_then R W end f w g = answers_then (TailAt end) (WrongTail end) R W (tail_at end) f (tail_is end) g w

drop_then : {B : Type 0} (R : B → Type 0) (W : FaultKind → Mark → Type 0) (l : Laid) (f : Laid → Result B Fault)
    → ((m : Mark) → KeyWaits l m → W SimpleKeyExpected m)
    → (NoneRequired l → Answers R W (f (forgets_key l))) → Answers R W (drop_key l >>= f)
drop_then R W l f w g = on (top_key l) refl
  where
    by : (k : PossibleKey) → top_key l ≡ Some k → (v : Bool) → k.is_required ≡ v
        → Answers R W (((if v then fails_at SimpleKeyExpected k.start else Ok (tt {0})) >>= λ u. Ok (forgets_key l)) >>=
        f)
    by k e true r = w k.start (record { key = k; is_top = e; required = r; marks = refl })
    by k e false r = g (λ j p. let q : k ≡ j = cc in ap (λ (k : PossibleKey). k.is_required) (sym q) ∙ r)

    on : (key : Option PossibleKey) → top_key l ≡ key
        → Answers R W ((refuse_required key >>= λ u. Ok (forgets_key l)) >>= f)
    on None e = g (λ k p. absurd (let q : None ≡ Some k = sym e ∙ p in cc))
    on (Some k) e = by k e k.is_required refl

less : (a b : ℕ) → nat_le a b ≡ false → b < a
less a b e = grind (arith, nat_tests)

-- room for an entry
module _ {B : Type 0} (R : B → Type 0) (W : FaultKind → Mark → Type 0) (o : OptionsData) (column : ℕ) (mark : Mark)
    (l m : Laid) (f : Laid → Result B Fault) (bad : TooMany o column l → W RecursionLimitExceeded mark)
    (g : RoomFor o column l → Answers R W (f m)) where
  room_on : (v w : Bool) → is_column (block_column l) column ≡ v → nat_le o.block_nesting_limit (length l.columns) ≡ w
      → Answers R W (((if v then Ok tt else if w then fails_at RecursionLimitExceeded mark else Ok (tt {0})) >>= λ u. Ok
      m) >>= f)
  room_on true w e h = g (inl (tells (innermost_decided l column) e))
  room_on false true e h = bad (record {
    new = denies (innermost_decided l column) e;
    full = tells (full_decided o l)
        h;
  })
  room_on false false e h = g (inr (less _ _ h))

  room_then : Answers R W ((refuse_column o column mark l.columns >>= λ u. Ok m) >>= f)
  unfolding refuse_column
  room_then = room_on (is_column (block_column l) column) (nat_le o.block_nesting_limit (length l.columns)) refl refl

-- ---- brackets and `,`

pub opener-is : (o : OptionsData) (bracket : Bracket) (ends : Bool) (h : Here) (l : Laid)
    → PlacedAs o ends (OpenSign bracket) h l (opener o bracket ends h l)
unfolding opener tailed
opener-is o bracket ends h l =
    let R = GivenBy o ends (Placed (OpenSign bracket)) h l in let W = Refuses o h l (OpenSign bracket) in
    answers_if R W (nat_le o.flow_nesting_limit (length l.brackets)) _ _ (λ y. flow_deep (leb-true _ _ y))
    (λ n. tail_then R W (step h) _ (λ kind m p. tail (tail_of_open (less _ _ n)) p)
    (λ x p. ((record { tail = x.0; tailed = p; is = refl }, less _ _ n), refl)))

closes-is : (o : OptionsData) (bracket : Bracket) (b : OpenBracket) (bs : List OpenBracket) (ends : Bool) (h : Here)
    (l : Laid) → l.brackets ≡ b ∷ bs → PlacedAs o ends (CloseSign bracket) h l (closes bracket b bs ends h l)
unfolding closes tailed
closes-is o bracket b bs ends h l e =
    let R = GivenBy o ends (Placed (CloseSign bracket)) h l in let W = Refuses o h l (CloseSign bracket) in
    answers_if R W (not (same_bracket b.bracket bracket)) _ _
    (λ y. mismatched e (denies (bracket_decided b.bracket bracket) (not-true _ y)))
    (λ n. let inner : ClosesInnermost bracket l.brackets = subst (ClosesInnermost bracket) (sym e)
    (tells (bracket_decided b.bracket bracket) (not-false _ n)) in
    tail_then R W (step h) _ (λ kind m p. tail (tail_of_close inner) p)
    (λ y p. (
      (record { tail = y.0; tailed = p; is = refl }, inner),
      ap
          (λ (k : List OpenBracket). behind_lexeme (behind_tail Adjacent y.0)
          (closed_bracket (Rattle.std.proofs.Common.drop 1 k) l)) (sym e),
    )))

pub closer-is : (o : OptionsData) (bracket : Bracket) (ends : Bool) (h : Here) (l : Laid)
    → PlacedAs o ends (CloseSign bracket) h l (closer bracket ends h l)
closer-is o bracket ends h l = on l.brackets refl
  where
    on : (bs : List OpenBracket) → l.brackets ≡ bs
        → PlacedAs o ends (CloseSign bracket) h l (closer_by bracket bs ends h l)
    on [] e = misplaced e
    on (b ∷ bs) e = closes-is o bracket b bs ends h l e

pub comma_last : (l : Laid) (held : Option CommentRead) → behind_tail (last_of_comma l) held ≡ last_of_comma l
comma_last l held = on (is_in_flow l)
  where
    on : (v : Bool) → behind_tail (if v then Opener else Another) held ≡ (if v then Opener else Another)
    on true = refl
    on false = refl

pub comma-is : (o : OptionsData) (ends : Bool) (h : Here) (l : Laid) → PlacedAs o ends CommaSign h l (comma ends h l)
unfolding tailed
comma-is o ends h l =
    let R = GivenBy o ends (Placed CommaSign) h l in let W = Refuses o h l CommaSign in
    drop_then R W l _ (λ m p. comma_waits p)
    (λ free. tail_then R W (step h) _ (λ kind m p. tail (tail_of_comma free) p)
    (λ x p. (
      (record { tail = x.0; tailed = p; is = refl }, free),
      ap (λ last. behind_lexeme last (forgets_key l))
          (comma_last l x.0),
    )))

-- ---- `-`

pub dash-is : (o : OptionsData) (ends : Bool) (h : Here) (l : Laid) → PlacedAs o ends DashSign h l (dash o ends h l)
unfolding dash dash_up_to behind_dash
dash-is o ends h l =
    let R = GivenBy o ends (Placed DashSign) h l in let W = Refuses o h l DashSign in
    answers_if R W (is_in_flow l) _ _ (λ y. dash_in_flow (tells (flow_decided l) y)) (λ in_flow.
    let out = tells (outside_decided l) (ap not in_flow) in
    answers_if R W (not (is_allowed h.begins_line h.tab l)) _ _
    (λ y. dash_here out (denies (begin_decided h l) (not-true _ y))) (λ not_here.
    let may = tells (begin_decided h l) (not-false _ not_here) in
    room_then R W o h.place.column (mark_of h) l (entered h.place.column l) _ (λ many. dash_deep out may many) (λ room.
    let entry : EntryFits o h l = record { outside = out; allowed = may; room = room } in
    tail_then R W (step h) _ (λ kind m p. tail (tail_of_dash entry) p) (λ x p.
    answers_if R W (is_tabbed_dash x.1) _ _ (λ y. dash_behind_tab entry x.0 x.1 p (tells (tabbed_decided x.1) y))
    (λ n. (
      record { entry = entry; tail = x.0; tailed = p; no_tab = denies (tabbed_decided x.1) n; is = refl },
      refl,
    ))))))

-- ---- `?`

module _ (o : OptionsData) (ends : Bool) (h : Here) (l : Laid) where
  abbrev question_laid : Bool → Laid
  question_laid v = behind_lexeme (if v then Another else BehindQuestion) (behind_question_sign v h l)

  question_leaf : (v : Bool) → is_in_flow l ≡ v → (x : Lexeme) (after : Here) → QuestionStands o ends h l x after v
      → Given o ends (Placed QuestionSign) h l (OfLexeme x ∷ []) (record { here = after; laid = question_laid v })
  question_leaf v e x after =
      subst (λ v. QuestionStands o ends h l x after v
      → Given o ends (Placed QuestionSign) h l (OfLexeme x ∷ []) (record { here = after; laid = question_laid v }))
      e (λ f. (f, refl))

  abbrev question_front : Laid
  question_front = behind_question (entered h.place.column l)

  question_gap-is : (at : Here) → is_in_flow l ≡ false → QuestionGap o h l at
      → PlacedAs o ends QuestionSign h l (question_up_to o (sign_lexeme ends Question h l) at question_front)
  unfolding question_up_to
  question_gap-is at out g =
      let R = GivenBy o ends (Placed QuestionSign) h l in let W = Refuses o h l QuestionSign in
      answers_if R W (next_char at == 0x23) _ _
      (λ y. answers_then (NotedAt at) (Spoils at) R W (comment at) _ (comment_at_is at y)
      (λ x p. question_leaf false out _ x.1 (record {
        entry = g.entry;
        no_nul = g.no_nul;
        at = at;
        gap = g.gap;
        tail =
            Some x.0;
        tailed = a_comment p;
        is = refl;
      }))
      (λ kind m p. question_spoiled at g p))
      (λ n. refuse_tab_is R W o question_front at _ (λ kind m p. question_tab at g n p)
      (λ t. question_leaf false out _ at (record {
        entry = g.entry;
        no_nul = g.no_nul;
        at = at;
        gap = g.gap;
        tail =
            None;
        tailed = no_comment n t;
        is = refl;
      })))

  question_on : (v : Bool) → is_in_flow l ≡ v
      → PlacedAs o ends QuestionSign h l (if v then given (sign_lexeme ends Question h l) Another (step h)
      (forgets_key l)
      else if not (is_allowed h.begins_line h.tab l) then fails_at MappingKeyNotAllowed (mark_of h)
      else with_entry o h.place.column (mark_of h) l >>= question_by o (sign_lexeme ends Question h l) h)
  unfolding question_by
  question_on true e = question_leaf true e _ (step h) (record { is = refl; reaches = refl })
  question_on false e =
      let R = GivenBy o ends (Placed QuestionSign) h l in let W = Refuses o h l QuestionSign in
      let out = tells (outside_decided l) (ap not e) in
      answers_if R W (not (is_allowed h.begins_line h.tab l)) _ _
      (λ y. question_here out (denies (begin_decided h l) (not-true _ y))) (λ not_here.
      let may = tells (begin_decided h l) (not-false _ not_here) in
      room_then R W o h.place.column (mark_of h) l (entered h.place.column l) _ (λ many. question_deep out may many)
      (λ room.
      let entry : EntryFits o h l = record { outside = out; allowed = may; room = room } in
      answers_if R W (nul_behind h) _ _ (λ y. nul entry (tells (nul_decided h) y))
      (λ un. question_gap-is (past is_gap (step h)) e
      (record { entry = entry; no_nul = denies (nul_decided h) un; gap = past_white (step h) }))))

  pub question-is : PlacedAs o ends QuestionSign h l (question o ends h l)
  unfolding question
  question-is = question_on (is_in_flow l) refl

-- ---- `:`

module _ (o : OptionsData) (ends : Bool) (h : Here) (l : Laid) where
  abbrev colon_laid : Bool → Option PossibleKey → Laid
  colon_laid v key = behind_lexeme (last_of_colon v key) (behind_colon v key h l)

  abbrev Apart : Type 0
  Apart = ColonApart h l

  abbrev TailHere : Option CommentRead → Here → Type 0
  TailHere held after = TailIf (is_blank (next_char (step h))) (step h) held after

  abbrev ColonLeaf : Bool → Option PossibleKey → Type 0
  ColonLeaf v key = (held : Option CommentRead) (after : Here) → Apart → TailHere held after → ColonFits o v key h l
      → Given o ends (Placed ColonSign) h l (OfLexeme (colon_lexeme ends (key_start key) held h l) ∷ [])
      (record { here = after; laid = colon_laid v key })

  colon_leaf : (v : Bool) (key : Option PossibleKey) → is_in_flow l ≡ v → top_key l ≡ key → ColonLeaf v key
  colon_leaf v key e f = subst (λ v. ColonLeaf v key) e
      (subst (ColonLeaf (is_in_flow l)) f (λ held after apart t fits. (
        record {
          apart = apart;
          tail = held;
          tailed = t;
          fits = fits;
          is = refl;
        },
        refl,
      )))

  near_on : (v : Bool) (k : PossibleKey) → is_in_flow l ≡ v → top_key l ≡ Some k
      → (held : Option CommentRead) (after : Here) → Apart → TailHere held after → (FarBelow h l k → ⊥)
      → PlacedAs o ends ColonSign h l (if v then keyed_given (colon_lexeme ends (Some (start_of_key k)) held h l) after
      l else with_pair o k.start.place.column k.start l >>= keyed_given
      (colon_lexeme ends (Some (start_of_key k)) held h l) after)
  near_on true k e f held after apart t near = colon_leaf true (Some k) e f held after apart t near
  near_on false k e f held after apart t near =
      room_then (GivenBy o ends (Placed ColonSign) h l) (Refuses o h l ColonSign) o k.start.place.column k.start l
      (pair_entered k.start.place.column l) _
      (λ many. key_deep (record { apart = apart; tail = held; after = after; tailed = t }) f near
      (tells (outside_decided l) (ap not e)) many)
      (λ room. colon_leaf false (Some k) e f held after apart t (near, room))

  keyed-is : (k : PossibleKey) → top_key l ≡ Some k → (held : Option CommentRead) (after : Here) → Apart
      → TailHere held after → PlacedAs o ends ColonSign h l (keyed_colon o ends k held after h l)
  unfolding keyed_colon
  keyed-is k f held after apart t =
      answers_if (GivenBy o ends (Placed ColonSign) h l) (Refuses o h l ColonSign) (is_far_below h.place l k) _ _
      (λ y. far_below (record { apart = apart; tail = held; after = after; tailed = t }) f
      (tells (far_decided h l k) y)) (λ n. near_on (is_in_flow l) k refl f held after apart t
      (denies (far_decided h l k) n))

  bare_on : (v : Bool) → is_in_flow l ≡ v → top_key l ≡ None → (held : Option CommentRead) (after : Here) → Apart
      → TailHere held after
      → PlacedAs o ends ColonSign h l (if v then given (colon_lexeme ends None held h l) Another after l else if not
      (is_allowed h.begins_line h.tab l) then fails_at MappingValueNotAllowed (mark_of h)
      else with_pair o h.place.column (mark_of h) l >>= bare_given (colon_lexeme ends None held h l) after)
  bare_on true e f held after apart t = colon_leaf true None e f held after apart t tt
  bare_on false e f held after apart t =
      let out = tells (outside_decided l) (ap not e) in
      let here : ColonTailed h l = record { apart = apart; tail = held; after = after; tailed = t } in
      answers_if (GivenBy o ends (Placed ColonSign) h l) (Refuses o h l ColonSign)
      (not (is_allowed h.begins_line h.tab l)) _ _
      (λ y. colon_here here f out (denies (begin_decided h l) (not-true _ y))) (λ not_here.
      let may = tells (begin_decided h l) (not-false _ not_here) in
      room_then (GivenBy o ends (Placed ColonSign) h l) (Refuses o h l ColonSign) o h.place.column (mark_of h) l
      (pair_entered h.place.column l) _ (λ many. colon_deep here f out may many)
      (λ room. colon_leaf false None e f held after apart t (may, room)))

  bare-is : top_key l ≡ None → (held : Option CommentRead) (after : Here) → Apart → TailHere held after
      → PlacedAs o ends ColonSign h l (bare_colon o ends held after h l)
  unfolding bare_colon
  bare-is f held after apart t = bare_on (is_in_flow l) refl f held after apart t

  by_key-is : (key : Option PossibleKey) → top_key l ≡ key → (held : Option CommentRead) (after : Here) → Apart
      → TailHere held after → PlacedAs o ends ColonSign h l (colon_by_key o ends key held after h l)
  by_key-is None f held after apart t = bare-is f held after apart t
  by_key-is (Some k) f held after apart t = keyed-is k f held after apart t

  colon_tail-is : (v : Bool) → is_blank (next_char (step h)) ≡ v → Apart
      → PlacedAs o ends ColonSign h l ((if v then tail_at (step h) else Ok (None, step h)) >>= λ x. colon_by_key o ends
      (top_key l) x.0 x.1 h l)
  colon_tail-is true e apart =
      tail_then (GivenBy o ends (Placed ColonSign) h l) (Refuses o h l ColonSign) (step h) _
      (λ kind m p. tail (tail_of_colon apart e) p)
      (λ x p. by_key-is (top_key l) refl x.0 x.1 apart (subst (λ v. TailIf v (step h) x.0 x.1) (sym e) p))
  colon_tail-is false e apart = by_key-is (top_key l) refl None (step h) apart
      (subst (λ v. TailIf v (step h) None (step h)) (sym e) (refl, refl))

  pub colon-is : PlacedAs o ends ColonSign h l (colon o ends h l)
  unfolding colon colon_tail
  colon-is =
      answers_if (GivenBy o ends (Placed ColonSign) h l) (Refuses o h l ColonSign)
      (not (is_adjacent l.last) && opens_flow (slice_index h.unread.text 1)) _ _
      (λ y. let p = tells (touching_decided h l) y in colon_touches p.0 p.1)
      (λ n. colon_tail-is (is_blank (next_char (step h))) refl (λ a b. denies (touching_decided h l) n (a, b)))

-- ---- names, tags and scalars

pub alias-is : (o : OptionsData) (ends : Bool) (h : Here) (l : Laid) → is_name_sign (next_char h) ≡ true
    → PlacedAs o ends AliasSign h l (alias_lexeme ends h l)
alias-is o ends h l begins =
    answers_as (GivenBy o ends (Placed AliasSign) h l) (Refuses o h l AliasSign) (name_at h) _
    (λ x e. (record { name = x.0; answers = name_stands h x.0 x.1 begins e; is = refl }, refl))
    (λ f e. in_alias (name_refused h f begins e).0)

pub anchor-is : (o : OptionsData) (ends : Bool) (h : Here) (l : Laid) → is_name_sign (next_char h) ≡ true
    → PlacedAs o ends AnchorSign h l (anchor_lexeme o ends h l)
anchor-is o ends h l begins =
    answers_as (GivenBy o ends (Placed AnchorSign) h l) (Refuses o h l AnchorSign) (name_at h) _
    (λ x e. (record { name = x.0; answers = name_stands h x.0 x.1 begins e; is = refl }, refl))
    (λ f e. in_anchor (name_refused h f begins e).0)

pub tag-is : (o : OptionsData) (ends : Bool) (h : Here) (l : Laid) → next_char h ≡ 0x21
    → SpelledAs o ends TagSign h l (tag_lexeme o ends h l)
tag-is o ends h l begins =
    answers_as (GivenBy o ends (Placed TagSign) h l) (MayRefuse o TagSign h l) (tag_at (is_in_flow l) h) _
    (λ x e. (record { read = x.0; answers = tag_stands (is_in_flow l) h x.0 x.1 begins e; is = refl }, refl))
    (λ f e. inr (in_tag (tag_refused (is_in_flow l) h f begins e).0))

pub block-is : (o : OptionsData) (literal ends : Bool) (h : Here) (l : Laid)
    → PlacedAs o ends (BlockSign literal) h l (block_lexeme literal ends h l)
block-is o literal ends h l =
    answers_as (GivenBy o ends (Placed (BlockSign literal)) h l) (Refuses o h l (BlockSign literal))
    (block_scalar literal (block_column l) h) _
    (λ x e. (record { given = x.0; answers = block_standing literal (block_column l) h x.0 x.1 e; is = refl }, refl))
    (λ f e. in_block (block_refused literal (block_column l) h f e).0)

pub plain-is : (o : OptionsData) (ends : Bool) (h : Here) (l : Laid) → is_content (is_in_flow l) h.unread.text ≡ true
    → PlacedAs o ends PlainSign h l (plain_lexeme o ends h l)
plain-is o ends h l begins =
    let at = layout_of o h.place.column l in
    answers_as (GivenBy o ends (Placed PlainSign) h l) (Refuses o h l PlainSign) (plain_scalar at h) _
    (λ x e. (
      x.0.cut_by_comment,
      record {
        read = x.0;
        layout = at;
        told = layout_is o h.place.column l;
        answers =
            is_standing at h x.0 x.1 begins e;
        is = refl;
        cuts = refl;
      },
      refl,
    ))
    (λ f e. in_plain at (layout_is o h.place.column l) (is_refused at h f begins e))

pub bind_bind : {A B C : Type 0} (r : Result A Fault) (g : A → B) (f : B → Result C Fault)
    → ((r >>= λ t. Ok (g t)) >>= f) ≡ (r >>= λ t. f (g t))
bind_bind (Ok x) g f = refl
bind_bind (Err e) g f = refl

pub quoted-is : (o : OptionsData) (single ends : Bool) (h : Here) (l : Laid) → next_char h ≡ quote_char single
    → SpelledAs o ends (QuoteSign single) h l (quoted_and_gap o single ends h l)
quoted-is o single ends h l begins =
    let R = GivenBy o ends (Placed (QuoteSign single)) h l in let W = MayRefuse o (QuoteSign single) h l in
    let at = layout_of o h.place.column l in
    let t = behind_lexeme Adjacent l in
    subst (Answers R W) (sym (bind_bind (quoted_scalar single at h) _ _))
    (answers_as R W (quoted_scalar single at h) _
    (λ x e. let a = quoted_standing single at h x.0 x.1 begins e in
    answers_then (GapAt o x.1 t) (GapRefused o x.1 t) R W (gap o x.1 t) _ (gap_is o x.1 t)
    (λ y p. record {
      read = x.0;
      end = x.1;
      note = y.0;
      at = y.1;
      layout = at;
      told = layout_is o h.place.column l;
      answers = a;
      gap = p;
      gives = refl;
      leaves = refl;
    })
    (λ kind m p. inl (quoted_gap at (layout_is o h.place.column l) x.0 x.1 a p)))
    (λ f e. inr (in_quoted at (layout_is o h.place.column l) (quoted_refused single at h f begins e))))

-- ---- the end, marks and directives

open_then : {B : Type 0} (R : B → Type 0) (o : OptionsData) (h : Here) (l : Laid) (sort : LexemeSort)
    (bs : List OpenBracket) (f : Unit {0} → Result B Fault) → IsOuter sort → l.brackets ≡ bs
    → (l.brackets ≡ [] → Answers R (RefusesSort o h l sort) (f tt))
    → Answers R (RefusesSort o h l sort) (refuse_open bs >>= f)
open_then R o h l sort [] f outer e g = g e
open_then R o h l sort (b ∷ bs) f outer e g = unclosed outer e

pub text_end-is : (o : OptionsData) (h : Here) (l : Laid) → ReadAs o (ends_all l) TextEnd h l (text_end h l)
text_end-is o h l =
    let R = GivenBy o (ends_all l) TextEnd h l in let W = RefusesSort o h l TextEnd in
    open_then R o h l TextEnd l.brackets _ end_is refl (λ shut.
    drop_then R W l _ (λ m p. end_waits shut p) (λ free. ((record { is = refl; reaches = refl }, shut, free), refl)))

pub start_mark-is : (o : OptionsData) (ends : Bool) (h : Here) (l : Laid) (bs : List OpenBracket) → l.brackets ≡ bs
    → ReadAs o ends StartMark h l (refuse_open bs >>= λ u. start_mark ends h l)
start_mark-is o ends h l bs e = open_then (GivenBy o ends StartMark h l) o h l StartMark bs _ start_mark_is e
    (λ shut. ((record { is = refl; reaches = refl }, shut), refl))

pub end_mark-is : (o : OptionsData) (ends : Bool) (h : Here) (l : Laid) (bs : List OpenBracket) → l.brackets ≡ bs
    → ReadAs o ends EndMark h l (refuse_open bs >>= λ u. end_mark ends h l)
unfolding end_mark_up_to
end_mark-is o ends h l bs e =
    let R = GivenBy o ends EndMark h l in let W = RefusesSort o h l EndMark in
    open_then R o h l EndMark bs _ end_mark_is e (λ shut.
    tail_then R W (steps 3 h) _ (λ kind m p. dots_tail shut p) (λ x p.
    answers_if R W (is_breakz (next_char x.1)) _ _
    (λ y. ((record { tail = x.0; tailed = p; is = refl }, y, shut), refl)) (λ n. behind_dots shut x.0 x.1 p n)))

pub directive-is : (o : OptionsData) (ends : Bool) (h : Here) (l : Laid) → next_char h ≡ 0x25
    → Answers (GivenBy o ends DirectiveSign h l) (MisspellsSort o h l DirectiveSign) (directive_lexeme o ends h l)
directive-is o ends h l begins =
    answers_as (GivenBy o ends DirectiveSign h l) (MisspellsSort o h l DirectiveSign) (directives.directive o h) _
    (λ x e. (
      record { read = x.0; end = x.1; answers = whole_stands o h x.0 x.1 begins e; is = refl; reaches = refl },
      refl,
    )) (λ f e. in_directive (whole_caused o h f begins e).0)

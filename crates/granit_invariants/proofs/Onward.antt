-- What was read and what is left are the whole text, wherever reading stands; and a lexeme leaves less.
use Rattle.std.proofs.Common.{◌≡◌, ℕ, zero, suc, ◌+◌, ◌<◌, ◌≤◌, Bool, true, false, List, [], ◌∷◌, ◌++◌, length, Option}
use Rattle.std.proofs.Common.{Some, None, Ok, refl, ap, ◌∙◌, subst, arith, length-append}
use Rattle.std.specs.Prelude.{if◌then◌else◌}
use Rattle.granit_base.specs.Place.{ends_line, first}
use Rattle.granit_blocks.proofs.BlockSpans.{block_reaches}
use Rattle.granit_error.specs.OptionsData.{OptionsData}
use Rattle.granit_language.specs.Before.{freshened}
use Rattle.granit_language.specs.Reached.{Comes, GivenAt, NoneOverdue, Reads, of_comment, of_lexeme, Reached, stops}
use Rattle.granit_language.specs.Reached.{goes_on}
use Rattle.granit_language.specs.Standing.{GapStands, in_front_of_comment, in_front_of_lexeme, QuestionTail, a_comment}
use Rattle.granit_language.specs.Standing.{no_comment, QuestionStands, QuotedLexeme, Given}
use Rattle.granit_language.specs.Stretch.{GapTo, ends, white, prefix_mark, TailIf}
use Rattle.granit_lexemes.proofs.HereLemmas.{not_empty}
use Rattle.granit_lexemes.specs.Basics.{past_break}
use Rattle.granit_lexemes.specs.BlockExtent.{AnswersBlock}
use Rattle.granit_lexemes.specs.BlockScalar.{BlockGiven}
use Rattle.granit_lexemes.specs.Comment.{CommentRead, StandsComment}
use Rattle.granit_lexemes.specs.DirectiveExtent.{DirectiveLineEnds, AnswersDirective}
use Rattle.granit_lexemes.specs.DirectiveExtent as lines
use Rattle.granit_lexemes.specs.HeaderExtent.{LexemeTail, commented, uncommented}
use Rattle.granit_lexemes.specs.Here.{Here, text_len, step}
use Rattle.granit_lexemes.specs.LayoutData.{LayoutData}
use Rattle.granit_lexemes.specs.Lexeme.{Lexeme, Item, OfLexeme, OfComment}
use Rattle.granit_lexemes.specs.Moves.{steps, past_prefix_mark}
use Rattle.granit_lexemes.specs.PlainExtent.{over, separation_text}
use Rattle.granit_lexemes.specs.QuotedExtent.{Trails}
use Rattle.granit_lexemes.specs.QuotedExtent as quoted
use Rattle.granit_lexemes.specs.QuotedScalar.{quote_char}
use Rattle.granit_base.specs.Place.{Mark}
use Rattle.granit_machine.specs.Gaps.{over_break_if}
use Rattle.granit_termination.proofs.LexLengths.{ReadFits, lexeme-fits, read-fits}
use Rattle.granit_termination.proofs.ReadLengths.{reader_len}
use Rattle.granit_machine.specs.Laid.{Laid, is_in_flow, is_adjacent, block_column}
use Rattle.granit_machine.specs.LexemeSort.{OpenSign, CloseSign, CommaSign, DashSign, QuestionSign, ColonSign}
use Rattle.granit_machine.specs.LexemeSort.{AliasSign, AnchorSign, TagSign, BlockSign, QuoteSign, StrayMark, NoSign}
use Rattle.granit_machine.specs.LexemeSort.{PlainSign, LexemeSort, TextEnd, StartMark, EndMark, Unprintable}
use Rattle.granit_machine.specs.LexemeSort.{DirectiveSign, Placed}
use Rattle.granit_places.proofs.Counting.{place_index}
use Rattle.granit_places.proofs.Telling.{by_answers}
use Rattle.granit_places.proofs.Counting.{read_answers}
use Rattle.granit_places.proofs.Telling.{stops_there}
use Rattle.granit_places.proofs.Signs.{gap_text}
use Rattle.granit_places.proofs.Telling.{sort_answers}
use Rattle.granit_machine.specs.Reader.{is_end, lexeme_by, lexeme}
use Rattle.granit_machine.specs.ReaderState.{ReaderState}

-- how many characters were read and how many are left
abbrev pub whole : Here → ℕ
whole h = h.place.index + text_len h

-- ---- moves

step_by : (text : List ℕ) (h : Here) → h.unread.text ≡ text → whole (step h) ≡ whole h
unfolding step
step_by [] h e = rw e refl
step_by (c ∷ cs) h e = rw e (rw (not_empty c cs) (let n = place_index (ends_line (c ∷ cs)) h.place in omega (arith, n)))

pub step_whole : (h : Here) → whole (step h) ≡ whole h
step_whole h = step_by h.unread.text h refl

pub over_whole : (cs : List ℕ) (h : Here) → whole (over cs h) ≡ whole h
over_whole [] h = refl
over_whole (c ∷ cs) h = over_whole cs (step h) ∙ step_whole h

pub steps_whole : (n : ℕ) (h : Here) → whole (steps n h) ≡ whole h
unfolding steps
steps_whole zero h = refl
steps_whole (suc n) h = steps_whole n (step h) ∙ step_whole h

gap_whole : {may : Type 0} {h at : Here} {cs : List ℕ} → GapTo may h cs at → whole at ≡ whole h
unfolding past_prefix_mark
gap_whole ends = refl
gap_whole (white {h = h} e w g) = gap_whole g ∙ step_whole h
gap_whole (prefix_mark {h = h} may column e g) = gap_whole g ∙ rw e (omega arith)

-- ---- what stands between lexemes and behind them

comment_whole : {h after : Here} {c : CommentRead} → StandsComment h c after → whole after ≡ whole h
comment_whole {h = h} {c = c} p = ap whole p.lands ∙ steps_whole (suc (length c.text.characters)) h

tail_whole : {end after : Here} {held : Option CommentRead} → LexemeTail end held after → whole after ≡ whole end
tail_whole {end = end} (commented b blanks rest c p y s) = comment_whole s ∙ over_whole (b ∷ blanks) end
tail_whole {end = end} (uncommented blanks rest p n lands) = ap whole lands ∙ over_whole blanks end

break_whole : (h : Here) → whole (past_break h) ≡ whole h
unfolding past_break
break_whole h = on _
  where
    on : (v : Bool) → whole (if v then step (step h) else step h) ≡ whole h
    on true = step_whole (step h) ∙ step_whole h
    on false = step_whole h

over_break_whole : (h : Here) → whole (over_break_if h) ≡ whole h
unfolding over_break_if
over_break_whole h = on _
  where
    on : (v : Bool) → whole (if v then past_break h else h) ≡ whole h
    on true = break_whole h
    on false = refl

pub gap_stands_whole : {o : OptionsData} {h : Here} {l : Laid} {c : Option CommentRead} {t : ReaderState}
    → GapStands o h l c t → whole t.here ≡ whole h
gap_stands_whole (in_front_of_comment at end g p) = over_break_whole end ∙ comment_whole p ∙ gap_whole g.over
gap_stands_whole (in_front_of_lexeme at g n t k) = gap_whole g.over

question_tail_whole : {o : OptionsData} {l : Laid} {at after : Here} {held : Option CommentRead}
    → QuestionTail o l at held after → whole after ≡ whole at
question_tail_whole (a_comment q) = comment_whole q
question_tail_whole (no_comment n t) = refl

tail_if_whole : (v : Bool) (end after : Here) (held : Option CommentRead) → TailIf v end held after
    → whole after ≡ whole end
tail_if_whole true end after held p = tail_whole p
tail_if_whole false end after held p = ap whole p.1

line_end_whole : {v : Bool} {end after : Here} {held : Option CommentRead} → DirectiveLineEnds v end held after
    → whole after ≡ whole end
line_end_whole {end = end} (lines.DirectiveLineEnds.nothing {blanks = blanks} p e) = over_whole blanks end
line_end_whole {end = end} (lines.DirectiveLineEnds.comment {blanks = blanks} p m s c) = comment_whole c
    ∙ over_whole blanks end

trail_whole : {at : LayoutData} {m : Mark} {end after : Here} {held : Option CommentRead} → Trails at m end held after
    → whole after ≡ whole end
trail_whole {end = end} (quoted.Trails.comment b blanks rest c p y s e) = comment_whole s ∙ over_whole (b ∷ blanks) end
trail_whole {end = end} (quoted.Trails.nothing blanks rest p n lands e) = ap whole lands ∙ over_whole blanks end

-- ---- lexemes

quoted_whole : (o : OptionsData) (single ended : Bool) (h : Here) (l : Laid) (items : List Item) (after : ReaderState)
    → QuotedLexeme o single ended h l items after → whole after.here ≡ whole h
quoted_whole o single ended h l items after p =
    let cs = quote_char single ∷ (p.answers.source ++ p.answers.gap) in
    ap (λ (s : ReaderState). whole s.here) p.leaves ∙ gap_stands_whole p.gap ∙ trail_whole p.answers.trails
    ∙ over_whole (quote_char single ∷ []) (over cs h) ∙ over_whole cs h

block_whole : (literal : Bool) (block : Option ℕ) (h : Here) (given : BlockGiven) (after : Here)
    → AnswersBlock literal block h given after → whole after ≡ whole h
block_whole literal block h given after p = let r = block_reaches literal block h given after p in ap whole r.1.lands
    ∙ over_whole r.0 h

question_whole : (o : OptionsData) (ended : Bool) (h : Here) (l : Laid) (y : Lexeme) (after : Here) (v : Bool)
    → QuestionStands o ended h l y after v → whole after ≡ whole h
question_whole o ended h l y after true p = ap whole p.reaches ∙ step_whole h
question_whole o ended h l y after false p = question_tail_whole p.tailed ∙ gap_whole p.gap.over ∙ step_whole h

directive_whole : (o : OptionsData) (h : Here) (read : Rattle.granit_lexemes.specs.Directive.DirectiveRead) (end : Here)
    → AnswersDirective o h read end → whole (over_break_if end) ≡ whole h
directive_whole o h read end a = over_break_whole end ∙ line_end_whole a.line ∙ ap whole a.stands.reached
    ∙ over_whole (0x25 ∷ (a.stands.name ++ a.stands.source)) h

-- what one read of a lexeme leaves
pub given_whole : (o : OptionsData) (ended : Bool) (sort : LexemeSort) (h : Here) (l : Laid) (items : List Item)
    (after : ReaderState) → Given o ended sort h l items after → whole after.here ≡ whole h
given_whole o ended (Placed (QuoteSign single)) h l items after p = quoted_whole o single ended h l items after p
given_whole o ended TextEnd h l (OfLexeme y ∷ []) after p = ap whole p.0.0.reaches
given_whole o ended StartMark h l (OfLexeme y ∷ []) after p = ap whole p.0.0.reaches ∙ steps_whole 3 h
given_whole o ended EndMark h l (OfLexeme y ∷ []) after p = tail_whole p.0.0.tailed ∙ steps_whole 3 h
given_whole o ended DirectiveSign h l (OfLexeme y ∷ []) after p = ap whole p.0.reaches
    ∙ directive_whole o h p.0.read p.0.end p.0.answers
given_whole o ended (Placed (OpenSign bracket)) h l (OfLexeme y ∷ []) after p = tail_whole p.0.0.tailed ∙ step_whole h
given_whole o ended (Placed (CloseSign bracket)) h l (OfLexeme y ∷ []) after p = tail_whole p.0.0.tailed ∙ step_whole h
given_whole o ended (Placed CommaSign) h l (OfLexeme y ∷ []) after p = tail_whole p.0.0.tailed ∙ step_whole h
given_whole o ended (Placed DashSign) h l (OfLexeme y ∷ []) after p = tail_whole p.0.tailed ∙ step_whole h
given_whole o ended (Placed QuestionSign) h l (OfLexeme y ∷ []) after p = question_whole o ended h l y after.here
    (is_in_flow l) p.0
given_whole o ended (Placed ColonSign) h l (OfLexeme y ∷ []) after p = tail_if_whole _ (step h) after.here p.0.tail
    p.0.tailed ∙ step_whole h
given_whole o ended (Placed AliasSign) h l (OfLexeme y ∷ []) after p = ap whole p.0.answers.reached
    ∙ over_whole (first h.unread.text ∷ p.0.name.characters) h
given_whole o ended (Placed AnchorSign) h l (OfLexeme y ∷ []) after p = ap whole p.0.answers.reached
    ∙ over_whole (first h.unread.text ∷ p.0.name.characters) h
given_whole o ended (Placed TagSign) h l (OfLexeme y ∷ []) after p = ap whole p.0.answers.reached
    ∙ over_whole p.0.answers.source h
given_whole o ended (Placed (BlockSign literal)) h l (OfLexeme y ∷ []) after p = block_whole literal (block_column l) h
    p.0.given after.here p.0.answers
given_whole o ended (Placed PlainSign) h l (OfLexeme y ∷ []) after p = ap whole p.1.answers.reached
    ∙ over_whole (separation_text p.1.answers.tail) (over p.1.answers.source h) ∙ over_whole p.1.answers.source h
given_whole o ended Unprintable h l (OfLexeme y ∷ []) after p = absurd p.0
given_whole o ended (Placed StrayMark) h l (OfLexeme y ∷ []) after p = absurd p.0
given_whole o ended (Placed NoSign) h l (OfLexeme y ∷ []) after p = absurd p.0
given_whole o ended sort h l items after p = absurd p

-- ---- how far a read goes

-- where less is left, reading stands further on
further_on : (g h : Here) → whole h ≡ whole g → text_len h < text_len g → g.place.index < h.place.index
further_on g h e l = omega (arith, e, l)

pub gap_on : {o : OptionsData} {h : Here} {l : Laid} {t : ReaderState} → GapStands o h l None t
    → h.place.index ≤ t.here.place.index
gap_on {h = h} (in_front_of_lexeme at g n t k) =
    let e : text_len h ≡ length g.gap + text_len at = ap (length {A = ℕ}) (gap_text g.over)
    ∙ length-append g.gap at.unread.text in
    let w : whole at ≡ whole h = gap_whole g.over in
    omega (arith, e, w)

-- a comment with its gap
pub comment_on : {o : OptionsData} {s at : ReaderState} {c : CommentRead} → GapStands o s.here s.laid (Some c) at
    → NoneOverdue o at → s.here.place.index < at.here.place.index
comment_on {o = o} {s = s} {at = at} {c = c} g k =
    let fits : ReadFits (reader_len s) (Ok (OfComment c ∷ [], freshened o at)) = subst (ReadFits (reader_len s))
    (read_answers o (of_comment at g k)) (read-fits o s) in
    further_on s.here at.here (gap_stands_whole g) (fits refl)

module _ (o : OptionsData) (s at behind : ReaderState) (sort : LexemeSort) (items : List Item)
    (comes : Comes o s at sort) (given : GivenAt o sort (freshened o at) items behind) where
  abbrev front : Laid
  front = (freshened o at).laid

  lexeme_given : lexeme o at.here front ≡ Ok (items, behind)
  lexeme_given = ap (λ sort. lexeme_by o sort at.here front)
      (sort_answers (is_in_flow front) (is_adjacent front.last) at.here comes.begins)
      ∙ by_answers o sort (freshened o at) items behind given

  shorter : is_end items ≡ false → text_len behind.here < text_len at.here
  shorter more = subst (ReadFits (text_len at.here)) lexeme_given
      (lexeme-fits (text_len at.here) o at.here front (omega arith) (stops_there comes.gap)) more

  -- a lexeme that isn't the end of the text
  pub lexeme_on : is_end items ≡ false → at.here.place.index < behind.here.place.index
  lexeme_on more = further_on at.here behind.here (given_whole o _ sort at.here _ items behind given.1) (shorter more)

-- ---- all of a text

reads_whole : (o : OptionsData) {s after : ReaderState} {items : List Item} → Reads o s items after
    → whole after.here ≡ whole s.here
reads_whole o (of_comment at g k) = gap_stands_whole g
reads_whole o (of_lexeme {items = items} at behind sort comes given keys) = given_whole o _ sort at.here _ items behind
    given.1 ∙ gap_stands_whole comes.gap

pub reached_whole : (o : OptionsData) {s t : ReaderState} {items : List Item} → Reached o s items t
    → whole t.here ≡ whole s.here
reached_whole o stops = refl
reached_whole o (goes_on next items more r last rest e) = reached_whole o rest ∙ reads_whole o r

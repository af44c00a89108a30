-- Lines stay counted from 1 wherever reading goes.
use Rattle.std.proofs.Common.{◌≡◌, ℕ, suc, Bool, true, false, List, [], ◌∷◌, ◌++◌, length, Option, Ok}
use Rattle.std.proofs.Common.{sym, subst}
use Rattle.granit_base.specs.Place.{first, Mark}
use Rattle.granit_blocks.proofs.BlockSpans.{block_reaches}
use Rattle.granit_error.specs.OptionsData.{OptionsData}
use Rattle.granit_language.specs.Reached.{of_comment, of_lexeme, Reads}
use Rattle.granit_language.specs.Standing.{a_comment, GapStands, Given, in_front_of_comment, in_front_of_lexeme}
use Rattle.granit_language.specs.Standing.{no_comment, QuestionStands, QuestionTail, QuotedLexeme}
use Rattle.granit_language.specs.Stretch.{ends, GapTo, prefix_mark, TailIf, white}
use Rattle.granit_lexemes.specs.Basics.{past_break}
use Rattle.granit_lexemes.specs.BlockExtent.{AnswersBlock}
use Rattle.granit_lexemes.specs.BlockScalar.{BlockGiven}
use Rattle.granit_lexemes.specs.Comment.{CommentRead, StandsComment}
use Rattle.granit_lexemes.specs.Directive.{DirectiveRead}
use Rattle.granit_lexemes.specs.DirectiveExtent as lines
use Rattle.granit_lexemes.specs.DirectiveExtent.{AnswersDirective, DirectiveLineEnds}
use Rattle.granit_lexemes.specs.HeaderExtent.{commented, LexemeTail, uncommented}
use Rattle.granit_lexemes.specs.Here.{Here, step}
use Rattle.granit_lexemes.specs.LayoutData.{LayoutData}
use Rattle.granit_lexemes.specs.Lexeme.{Item, Lexeme, OfLexeme}
use Rattle.granit_lexemes.specs.PlainExtent.{over, separation_text}
use Rattle.granit_lexemes.specs.QuotedExtent as quoted
use Rattle.granit_lexemes.specs.QuotedExtent.{Trails}
use Rattle.granit_lexemes.specs.QuotedScalar.{quote_char}
use Rattle.granit_machine.specs.Gaps.{over_break_if}
use Rattle.granit_machine.specs.Laid.{block_column, is_in_flow, Laid}
use Rattle.granit_machine.specs.LexemeSort.{AliasSign, AnchorSign, BlockSign, CloseSign, ColonSign, CommaSign, DashSign}
use Rattle.granit_machine.specs.LexemeSort.{DirectiveSign, EndMark, LexemeSort, NoSign, OpenSign, Placed, PlainSign}
use Rattle.granit_machine.specs.LexemeSort.{QuestionSign, QuoteSign, StartMark, StrayMark, TagSign, TextEnd}
use Rattle.granit_machine.specs.LexemeSort.{Unprintable}
use Rattle.granit_machine.specs.Reader.{read}
use Rattle.granit_machine.specs.ReaderState.{ReaderState}
use Rattle.granit_behind.proofs.TextEnds.{Answers}
use Rattle.granit_behind.proofs.TextEnds.{read-is, ReadsBy}
use Rattle.granit_behind.proofs.BoundaryTells.{IsCounted, mark_counted, step_counted, stepped, steps_counted}

over_counted : (cs : List ℕ) (h : Here) → IsCounted h → IsCounted (over cs h)
over_counted [] h q = q
over_counted (c ∷ cs) h q = over_counted cs (step h) (step_counted h q)

-- where a place is another
there : {h g : Here} → h ≡ g → IsCounted g → IsCounted h
there e q = subst IsCounted (sym e) q

gap_counted : {may : Type 0} {h at : Here} {cs : List ℕ} → GapTo may h cs at → IsCounted h → IsCounted at
gap_counted ends q = q
gap_counted (white {h = h} e w g) q = gap_counted g (step_counted h q)
gap_counted (prefix_mark {h = h} may column e g) q = gap_counted g (mark_counted h q)

comment_counted : {h after : Here} {c : CommentRead} → StandsComment h c after → IsCounted h → IsCounted after
comment_counted {h = h} {c = c} p q = there p.lands (steps_counted (suc (length c.text.characters)) h q)

tail_counted : {end after : Here} {held : Option CommentRead} → LexemeTail end held after → IsCounted end
    → IsCounted after
tail_counted {end = end} (commented b blanks rest c p y s) q = comment_counted s (over_counted (b ∷ blanks) end q)
tail_counted {end = end} (uncommented blanks rest p n lands) q = there lands (over_counted blanks end q)

break_counted : (h : Here) → IsCounted h → IsCounted (past_break h)
unfolding past_break
break_counted h q = stepped _ (step (step h)) (step h) (step_counted (step h) (step_counted h q)) (step_counted h q)

over_break_counted : (h : Here) → IsCounted h → IsCounted (over_break_if h)
unfolding over_break_if
over_break_counted h q = stepped _ (past_break h) h (break_counted h q) q

gap_stands_counted : {o : OptionsData} {h : Here} {l : Laid} {c : Option CommentRead} {t : ReaderState}
    → GapStands o h l c t → IsCounted h → IsCounted t.here
gap_stands_counted (in_front_of_comment at end g p) q =
    over_break_counted end (comment_counted p (gap_counted g.over q))
gap_stands_counted (in_front_of_lexeme at g n t k) q = gap_counted g.over q

question_tail_counted : {o : OptionsData} {l : Laid} {at after : Here} {held : Option CommentRead}
    → QuestionTail o l at held after → IsCounted at → IsCounted after
question_tail_counted (a_comment s) q = comment_counted s q
question_tail_counted (no_comment n t) q = q

tail_if_counted : (v : Bool) (end after : Here) (held : Option CommentRead) → TailIf v end held after → IsCounted end
    → IsCounted after
tail_if_counted true end after held p q = tail_counted p q
tail_if_counted false end after held p q = there p.1 q

line_end_counted : {v : Bool} {end after : Here} {held : Option CommentRead} → DirectiveLineEnds v end held after
    → IsCounted end → IsCounted after
line_end_counted {end = end} (lines.DirectiveLineEnds.nothing {blanks = blanks} p e) q = over_counted blanks end q
line_end_counted {end = end} (lines.DirectiveLineEnds.comment {blanks = blanks} p m s c) q =
    comment_counted c (over_counted blanks end q)

trail_counted : {at : LayoutData} {m : Mark} {end after : Here} {held : Option CommentRead}
    → Trails at m end held after → IsCounted end → IsCounted after
trail_counted {end = end} (quoted.Trails.comment b blanks rest c p y s e) q =
    comment_counted s (over_counted (b ∷ blanks) end q)
trail_counted {end = end} (quoted.Trails.nothing blanks rest p n lands e) q = there lands (over_counted blanks end q)

-- ---- lexemes

quoted_counted : (o : OptionsData) (single ended : Bool) (h : Here) (l : Laid) (is : List Item) (after : ReaderState)
    → QuotedLexeme o single ended h l is after → IsCounted h → IsCounted after.here
quoted_counted o single ended h l is after p q =
    let cs = quote_char single ∷ (p.answers.source ++ p.answers.gap) in
    subst (λ (s : ReaderState). IsCounted s.here) (sym p.leaves)
    (gap_stands_counted p.gap (trail_counted p.answers.trails
    (over_counted (quote_char single ∷ []) (over cs h) (over_counted cs h q))))

block_counted : (literal : Bool) (block : Option ℕ) (h : Here) (given : BlockGiven) (after : Here)
    → AnswersBlock literal block h given after → IsCounted h → IsCounted after
block_counted literal block h given after p q =
    let r = block_reaches literal block h given after p in
    subst IsCounted (sym r.1.lands) (over_counted r.0 h q)

question_counted : (o : OptionsData) (ended : Bool) (h : Here) (l : Laid) (y : Lexeme) (after : Here) (v : Bool)
    → QuestionStands o ended h l y after v → IsCounted h → IsCounted after
question_counted o ended h l y after true p q = there p.reaches (step_counted h q)
question_counted o ended h l y after false p q =
    question_tail_counted p.tailed (gap_counted p.gap.over (step_counted h q))

directive_counted : (o : OptionsData) (h : Here) (given : DirectiveRead) (end : Here) → AnswersDirective o h given end
    → IsCounted h → IsCounted (over_break_if end)
directive_counted o h given end a q =
    over_break_counted end (line_end_counted a.line
    (there a.stands.reached (over_counted (0x25 ∷ (a.stands.name ++ a.stands.source)) h q)))

-- what one read of a lexeme leaves
given_counted : (o : OptionsData) (ended : Bool) (sort : LexemeSort) (h : Here) (l : Laid) (is : List Item)
    (after : ReaderState) → Given o ended sort h l is after → IsCounted h → IsCounted after.here
given_counted o ended (Placed (QuoteSign single)) h l is after p q = quoted_counted o single ended h l is after p q
given_counted o ended TextEnd h l (OfLexeme y ∷ []) after p q = there p.0.0.reaches q
given_counted o ended StartMark h l (OfLexeme y ∷ []) after p q = there p.0.0.reaches (steps_counted 3 h q)
given_counted o ended EndMark h l (OfLexeme y ∷ []) after p q = tail_counted p.0.0.tailed (steps_counted 3 h q)
given_counted o ended DirectiveSign h l (OfLexeme y ∷ []) after p q =
    there p.0.reaches (directive_counted o h p.0.read p.0.end p.0.answers q)
given_counted o ended (Placed (OpenSign bracket)) h l (OfLexeme y ∷ []) after p q =
    tail_counted p.0.0.tailed (step_counted h q)
given_counted o ended (Placed (CloseSign bracket)) h l (OfLexeme y ∷ []) after p q =
    tail_counted p.0.0.tailed (step_counted h q)
given_counted o ended (Placed CommaSign) h l (OfLexeme y ∷ []) after p q = tail_counted p.0.0.tailed (step_counted h q)
given_counted o ended (Placed DashSign) h l (OfLexeme y ∷ []) after p q = tail_counted p.0.tailed (step_counted h q)
given_counted o ended (Placed QuestionSign) h l (OfLexeme y ∷ []) after p q =
    question_counted o ended h l y after.here (is_in_flow l) p.0 q
given_counted o ended (Placed ColonSign) h l (OfLexeme y ∷ []) after p q =
    tail_if_counted _ (step h) after.here p.0.tail p.0.tailed (step_counted h q)
given_counted o ended (Placed AliasSign) h l (OfLexeme y ∷ []) after p q =
    there p.0.answers.reached (over_counted (first h.unread.text ∷ p.0.name.characters) h q)
given_counted o ended (Placed AnchorSign) h l (OfLexeme y ∷ []) after p q =
    there p.0.answers.reached (over_counted (first h.unread.text ∷ p.0.name.characters) h q)
given_counted o ended (Placed TagSign) h l (OfLexeme y ∷ []) after p q =
    there p.0.answers.reached (over_counted p.0.answers.source h q)
given_counted o ended (Placed (BlockSign literal)) h l (OfLexeme y ∷ []) after p q =
    block_counted literal (block_column l) h p.0.given after.here p.0.answers q
given_counted o ended (Placed PlainSign) h l (OfLexeme y ∷ []) after p q =
    there p.1.answers.reached (over_counted (separation_text p.1.answers.tail) (over p.1.answers.source h)
    (over_counted p.1.answers.source h q))
given_counted o ended Unprintable h l (OfLexeme y ∷ []) after p q = absurd p.0
given_counted o ended (Placed StrayMark) h l (OfLexeme y ∷ []) after p q = absurd p.0
given_counted o ended (Placed NoSign) h l (OfLexeme y ∷ []) after p q = absurd p.0
given_counted o ended sort h l is after p q = absurd p

reads_counted : (o : OptionsData) (s after : ReaderState) (is : List Item) → Reads o s is after → IsCounted s.here
    → IsCounted after.here
reads_counted o s after is (of_comment at g k) q = gap_stands_counted g q
reads_counted o s after is (of_lexeme at behind sort comes given keys) q =
    given_counted o _ sort at.here _ is behind given.1 (gap_stands_counted comes.gap q)

-- one read
pub read_counted : (o : OptionsData) (s after : ReaderState) (is : List Item) → read o s ≡ Ok (is, after)
    → IsCounted s.here → IsCounted after.here
read_counted o s after is e =
    reads_counted o s after is (subst (Answers (ReadsBy o s) _) e (read-is o s))

-- Each lexeme and each comment is shown from a place to one that is no earlier.
use Rattle.std.proofs.Common.{◌≡◌, ℕ, zero, suc, ◌≤◌, Bool, true, false, List, [], ◌∷◌, ◌++◌, length, Option, Some}
use Rattle.std.proofs.Common.{None, if◌then◌else◌, inl, inr, sym, ap, subst, arith, ◌==◌, Ok, ◌∙◌}
use Rattle.std.proofs.lemmas.Bool.Decides.{nat_tests}
use Rattle.granit_base.specs.Place.{Mark, first}
use Rattle.granit_base.specs.PlainContent.{is_content}
use Rattle.granit_blocks.proofs.BlockSpans.{Reaches, block_reaches, body_reaches}
use Rattle.granit_error.specs.OptionsData.{OptionsData}
use Rattle.granit_language.specs.Reached.{Reads, of_comment, of_lexeme, Reached, stops, goes_on}
use Rattle.granit_language.specs.Standing.{GapStands, in_front_of_comment, in_front_of_lexeme, QuestionTail, a_comment}
use Rattle.granit_language.specs.Standing.{no_comment, QuestionStands, QuotedLexeme, Given}
use Rattle.granit_language.specs.Stretch.{TailIf}
use Rattle.granit_lexemes.proofs.HereLemmas.{step_len}
use Rattle.granit_lexemes.specs.BlockExtent.{AnswersBlock}
use Rattle.granit_lexemes.specs.BlockScalar.{BlockGiven}
use Rattle.granit_lexemes.specs.Comment.{CommentRead, StandsComment}
use Rattle.granit_lexemes.specs.Directive.{DirectiveRead}
use Rattle.granit_lexemes.specs.DirectiveExtent.{DirectiveLineEnds, AnswersDirective}
use Rattle.granit_lexemes.specs.DirectiveExtent as lines
use Rattle.granit_lexemes.specs.HeaderExtent.{LexemeTail, commented, uncommented}
use Rattle.granit_lexemes.specs.Here.{Here, mark_of, step, text_len}
use Rattle.granit_lexemes.specs.LayoutData.{LayoutData}
use Rattle.granit_lexemes.specs.Lexeme.{Lexeme, Item, OfLexeme, OfComment}
use Rattle.granit_lexemes.specs.Moves.{steps}
use Rattle.granit_lexemes.specs.PlainExtent.{over, separation_text}
use Rattle.granit_lexemes.specs.PlainScalar.{PlainRead, plain_scalar}
use Rattle.granit_lexemes.specs.QuotedExtent.{Trails}
use Rattle.granit_lexemes.specs.QuotedExtent as quoted
use Rattle.granit_lexemes.specs.QuotedScalar.{QuotedRead, quote_char}
use Rattle.granit_lexemes.specs.Source.{Source}
use Rattle.granit_machine.specs.Laid.{Laid, is_in_flow, block_column}
use Rattle.granit_machine.specs.LexemeSort.{OpenSign, CloseSign, CommaSign, DashSign, QuestionSign, ColonSign}
use Rattle.granit_machine.specs.LexemeSort.{AliasSign, AnchorSign, TagSign, BlockSign, QuoteSign, StrayMark, NoSign}
use Rattle.granit_machine.specs.LexemeSort.{PlainSign, LexemeSort, TextEnd, StartMark, EndMark, Unprintable}
use Rattle.granit_machine.specs.LexemeSort.{DirectiveSign, Placed}
use Rattle.granit_machine.specs.NodeLexemes.{block_shown, note_items}
use Rattle.granit_machine.specs.ReaderState.{ReaderState}
use Rattle.granit_places.proofs.PlacesLaw.{shown_from}
use Rattle.granit_scalars.proofs.PlainLaw.{Answered, answered}
use Rattle.granit_invariants.proofs.Onward.{step_whole}

-- a mark is no later than another
abbrev pub Before : Mark → Mark → Type 0
Before m n = m.place.index ≤ n.place.index

abbrev pub SourceRuns : Source → Type 0
SourceRuns s = Before s.start s.end

abbrev pub TailRuns : Option CommentRead → Type 0
TailRuns None = Unit {0}
TailRuns (Some c) = SourceRuns c.source

abbrev pub LexemeRuns : Lexeme → Type 0
LexemeRuns y = Before y.start y.shown.end × SourceRuns y.shown × TailRuns y.tail

abbrev pub ItemsRun : List Item → Type 0
ItemsRun [] = Unit {0}
ItemsRun (OfLexeme y ∷ is) = LexemeRuns y × ItemsRun is
ItemsRun (OfComment c ∷ is) = SourceRuns c.source × ItemsRun is

-- ---- moves

step_on : (h : Here) → h.place.index ≤ (step h).place.index
step_on h = let w = step_whole h in let n = step_len h in omega (arith, w, n)

over_on : (cs : List ℕ) (h : Here) → h.place.index ≤ (over cs h).place.index
over_on [] h = omega arith
over_on (c ∷ cs) h = let a = step_on h in let b = over_on cs (step h) in omega (arith, a, b)

steps_on : (n : ℕ) (h : Here) → h.place.index ≤ (steps n h).place.index
unfolding steps
steps_on zero h = omega arith
steps_on (suc n) h = let a = step_on h in let b = steps_on n (step h) in omega (arith, a, b)

reaches_on : {h after : Here} → Reaches h after → h.place.index ≤ after.place.index
reaches_on {h = h} {after = after} r = let e : after.place.index
    ≡ (over r.0 h).place.index = ap (λ (h : Here). h.place.index) r.1.lands in let n = over_on r.0 h in omega
    (arith, e, n)

-- ---- comments

comment_runs : {h after : Here} {c : CommentRead} → StandsComment h c after → SourceRuns c.source
comment_runs {h = h} {c = c} p = subst (λ (c : CommentRead). SourceRuns c.source) (sym p.is)
    (steps_on (suc (length c.text.characters)) h)

tail_runs : {end after : Here} {held : Option CommentRead} → LexemeTail end held after → TailRuns held
tail_runs (commented b blanks rest c p y s) = comment_runs s
tail_runs (uncommented blanks rest p n lands) = tt

gap_runs : {o : OptionsData} {h : Here} {l : Laid} {c : Option CommentRead} {t : ReaderState} → GapStands o h l c t
    → TailRuns c
gap_runs (in_front_of_comment at end g p) = comment_runs p
gap_runs (in_front_of_lexeme at g n t k) = tt

question_runs : {o : OptionsData} {l : Laid} {at after : Here} {held : Option CommentRead}
    → QuestionTail o l at held after → TailRuns held
question_runs (a_comment q) = comment_runs q
question_runs (no_comment n t) = tt

tail_if_runs : (v : Bool) (end after : Here) (held : Option CommentRead) → TailIf v end held after → TailRuns held
tail_if_runs true end after held p = tail_runs p
tail_if_runs false end after held p = subst TailRuns (sym p.0) tt

line_end_runs : {v : Bool} {end after : Here} {held : Option CommentRead} → DirectiveLineEnds v end held after
    → TailRuns held
line_end_runs (lines.DirectiveLineEnds.nothing p e) = tt
line_end_runs (lines.DirectiveLineEnds.comment p m s c) = comment_runs c

asked_runs : (c : CommentRead) (asked : Bool) → SourceRuns c.source → TailRuns (if asked then Some c else None)
asked_runs c true r = r
asked_runs c false r = tt

trail_runs : {at : LayoutData} {m : Mark} {end after : Here} {held : Option CommentRead} → Trails at m end held after
    → TailRuns held
trail_runs (quoted.Trails.comment b blanks rest c p y s e) = subst TailRuns (sym e) (asked_runs c _ (comment_runs s))
trail_runs (quoted.Trails.nothing blanks rest p n lands e) = tt

note_runs : (note : Option CommentRead) → TailRuns note → ItemsRun (note_items note)
note_runs None r = tt
note_runs (Some c) r = (r, tt)

-- ---- lexemes

one : (y z : Lexeme) → y ≡ z → LexemeRuns z → ItemsRun (OfLexeme y ∷ [])
one y z e r = (subst LexemeRuns (sym e) r, tt)

quoted_runs : (o : OptionsData) (single ended : Bool) (h : Here) (l : Laid) (items : List Item) (after : ReaderState)
    → QuotedLexeme o single ended h l items after → ItemsRun items
quoted_runs o single ended h l items after p =
    let cs = quote_char single ∷ (p.answers.source ++ p.answers.gap) in
    let end = over (quote_char single ∷ []) (over cs h) in
    let e : p.read.source.end ≡ mark_of end = ap (λ (r : QuotedRead). r.source.end) p.answers.answer in
    let c : p.read.comment ≡ p.answers.noted = ap (λ (r : QuotedRead). r.comment) p.answers.answer in
    let a = over_on cs h in let b = over_on (quote_char single ∷ []) (over cs h) in
    let on : Before (mark_of h) p.read.source.end = subst (Before (mark_of h)) (sym e) (omega (arith, a, b)) in
    subst ItemsRun (sym p.gives) (
      (on, on, subst TailRuns (sym c) (trail_runs p.answers.trails)),
      note_runs p.note
          (gap_runs p.gap),
    )

block_runs : (literal ended : Bool) (h : Here) (l : Laid) (given : BlockGiven) (after : Here)
    → AnswersBlock literal (block_column l) h given after → LexemeRuns (block_shown literal ended given after h l)
block_runs literal ended h l given after p =
    let a = reaches_on (block_reaches literal (block_column l) h given after p) in
    let shown : Before given.read.shown (mark_of after) = elim (shown_from p.body) [
      | inl e ↦ subst (λ m. Before m (mark_of after)) (sym e) a
      | inr e ↦ subst (λ m. Before m (mark_of after))
          (sym e) (reaches_on (body_reaches p.body))
    ] in
    (a, shown, tail_runs p.front.tails)

question_lexeme_runs : (o : OptionsData) (ended : Bool) (h : Here) (l : Laid) (y : Lexeme) (after : Here) (v : Bool)
    → QuestionStands o ended h l y after v → ItemsRun (OfLexeme y ∷ [])
question_lexeme_runs o ended h l y after true p = one y _ p.is (step_on h, step_on h, tt)
question_lexeme_runs o ended h l y after false p = one y _ p.is (step_on h, step_on h, question_runs p.tailed)

directive_runs : (o : OptionsData) (h : Here) (read : DirectiveRead) (end : Here) → AnswersDirective o h read end
    → Before (mark_of h) read.source.end
directive_runs o h read end a =
    let e : read.source.end ≡ mark_of a.end = ap (λ (s : Source). s.end) a.place in
    let r : a.end.place.index ≡ (over (0x25 ∷ (a.stands.name ++ a.stands.source)) h).place.index = ap
    (λ (h : Here). h.place.index) a.stands.reached in
    let n = over_on (0x25 ∷ (a.stands.name ++ a.stands.source)) h in
    subst (Before (mark_of h)) (sym e) (omega (arith, r, n))

plain_runs : (at : LayoutData) (h : Here) (read : PlainRead) (after : Here)
    → Rattle.granit_lexemes.specs.PlainExtent.AnswersPlain at h read after → Before (mark_of h) read.source.end
plain_runs at h read after a =
    let e : read.source.end ≡ mark_of (over a.source h) = ap (λ (r : PlainRead). r.source.end)
    a.answer in subst (Before (mark_of h)) (sym e) (over_on a.source h)

-- a plain scalar that stands there ends behind its beginning
extends_by : (at : LayoutData) (h : Here) (read : PlainRead) (after : Here)
    → Rattle.granit_lexemes.specs.PlainExtent.AnswersPlain at h read after
    → (h.place.index == read.source.end.place.index) ≡ false
extends_by at h read after a =
    let s = a.stands.extent.spelled in
    let text : h.unread.text ≡ s.start ∷ (s.more ++ (separation_text a.tail ++ a.rest)) = a.stands.extent.whole
    ∙ ap (λ (l : List ℕ). l ++ (separation_text a.tail ++ a.rest)) s.begins in
    let some : text_len h ≡ suc (length (s.more ++ (separation_text a.tail ++ a.rest))) = ap length text in
    let n = step_len h in let w = step_whole h in let b = over_on s.more (step h) in
    let end : read.source.end.place.index ≡ (over s.more (step h)).place.index =
    ap (λ (r : PlainRead). r.source.end.place.index) a.answer ∙ ap (λ (l : List ℕ). (over l h).place.index) s.begins in
    grind (arith, nat_tests, end, some, n, w, b)

pub plain_extends : (at : LayoutData) (h : Here) (read : PlainRead) (after : Here)
    → is_content at.in_flow h.unread.text ≡ true → plain_scalar at h ≡ Ok (read, after)
    → (h.place.index == read.source.end.place.index) ≡ false
plain_extends at h read after content e = extends_by at h read after
    (subst (Answered at h) e (answered at h content))

-- behind characters of the text
reached_on : (h after : Here) (cs : List ℕ) → after ≡ over cs h → Before (mark_of h) (mark_of after)
reached_on h after cs e = subst (λ (g : Here). Before (mark_of h) (mark_of g)) (sym e) (over_on cs h)

given_runs : (o : OptionsData) (ended : Bool) (sort : LexemeSort) (h : Here) (l : Laid) (items : List Item)
    (after : ReaderState) → Given o ended sort h l items after → ItemsRun items
given_runs o ended (Placed (QuoteSign single)) h l items after p = quoted_runs o single ended h l items after p
given_runs o ended TextEnd h l (OfLexeme y ∷ []) after p = one y _ p.0.0.is (omega arith, omega arith, tt)
given_runs o ended StartMark h l (OfLexeme y ∷ []) after p = one y _ p.0.0.is (steps_on 3 h, steps_on 3 h, tt)
given_runs o ended EndMark h l (OfLexeme y ∷ []) after p = one y _ p.0.0.is
    (steps_on 3 h, steps_on 3 h, tail_runs p.0.0.tailed)
given_runs o ended DirectiveSign h l (OfLexeme y ∷ []) after p = let d = directive_runs o h p.0.read p.0.end
    p.0.answers in one y _ p.0.is (d, d, line_end_runs p.0.answers.line)
given_runs o ended (Placed (OpenSign bracket)) h l (OfLexeme y ∷ []) after p = one y _ p.0.0.is
    (step_on h, step_on h, tail_runs p.0.0.tailed)
given_runs o ended (Placed (CloseSign bracket)) h l (OfLexeme y ∷ []) after p = one y _ p.0.0.is
    (step_on h, step_on h, tail_runs p.0.0.tailed)
given_runs o ended (Placed CommaSign) h l (OfLexeme y ∷ []) after p = one y _ p.0.0.is
    (step_on h, step_on h, tail_runs p.0.0.tailed)
given_runs o ended (Placed DashSign) h l (OfLexeme y ∷ []) after p = one y _ p.0.is
    (step_on h, step_on h, tail_runs p.0.tailed)
given_runs o ended (Placed QuestionSign) h l (OfLexeme y ∷ []) after p = question_lexeme_runs o ended h l y after.here
    (is_in_flow l) p.0
given_runs o ended (Placed ColonSign) h l (OfLexeme y ∷ []) after p = one y _ p.0.is
    (step_on h, step_on h, tail_if_runs _ (step h) after.here p.0.tail p.0.tailed)
given_runs o ended (Placed AliasSign) h l (OfLexeme y ∷ []) after p = let r = reached_on h after.here
    (first h.unread.text ∷ p.0.name.characters) p.0.answers.reached in one y _ p.0.is (r, r, tt)
given_runs o ended (Placed AnchorSign) h l (OfLexeme y ∷ []) after p = let r = reached_on h after.here
    (first h.unread.text ∷ p.0.name.characters) p.0.answers.reached in one y _ p.0.is (r, r, tt)
given_runs o ended (Placed TagSign) h l (OfLexeme y ∷ []) after p = let r = reached_on h after.here p.0.answers.source
    p.0.answers.reached in one y _ p.0.is (r, r, tt)
given_runs o ended (Placed (BlockSign literal)) h l (OfLexeme y ∷ []) after p = one y _ p.0.is
    (block_runs literal ended h l p.0.given after.here p.0.answers)
given_runs o ended (Placed PlainSign) h l (OfLexeme y ∷ []) after p = let r = plain_runs p.1.layout h p.1.read
    after.here p.1.answers in one y _ p.1.is (r, r, tt)
given_runs o ended Unprintable h l (OfLexeme y ∷ []) after p = absurd p.0
given_runs o ended (Placed StrayMark) h l (OfLexeme y ∷ []) after p = absurd p.0
given_runs o ended (Placed NoSign) h l (OfLexeme y ∷ []) after p = absurd p.0
given_runs o ended sort h l items after p = absurd p

-- ---- all of a text

reads_run : (o : OptionsData) {s after : ReaderState} {items : List Item} → Reads o s items after → ItemsRun items
reads_run o (of_comment at g k) = (gap_runs g, tt)
reads_run o (of_lexeme {items = items} at behind sort comes given keys) = given_runs o _ sort at.here _ items behind
    given.1

runs_joined : (is more : List Item) → ItemsRun is → ItemsRun more → ItemsRun (is ++ more)
runs_joined [] more r s = s
runs_joined (OfLexeme y ∷ is) more r s = (r.0, runs_joined is more r.1 s)
runs_joined (OfComment c ∷ is) more r s = (r.0, runs_joined is more r.1 s)

pub reached_run : (o : OptionsData) {s t : ReaderState} {items : List Item} → Reached o s items t → ItemsRun items
reached_run o stops = tt
reached_run o (goes_on next items more r last rest e) = subst ItemsRun (sym e)
    (runs_joined items more (reads_run o r) (reached_run o rest))

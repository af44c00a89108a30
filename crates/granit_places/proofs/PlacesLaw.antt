-- Wherever the reader stands, and wherever a lexeme or a comment begins, the place is counted on the whole text.
use Rattle.std.proofs.Common.{◌≡◌, ℕ, suc, ◌≤◌, Bool, true, false, List, [], ◌∷◌, ◌++◌, length, Option, Some, None, ◌⊎◌}
use Rattle.std.proofs.Common.{inl, inr, refl, sym, ap, ap₂, ◌∙◌, subst, arith, append_assoc}
use Rattle.std.specs.Prelude.{if◌then◌else◌}
use Rattle.granit_error.specs.OptionsData.{OptionsData}
use Rattle.granit_lexemes.specs.Basics.{past_break}
use Rattle.granit_lexemes.specs.BlockExtent.{BlockBody, without_content, with_content, AnswersBlock}
use Rattle.granit_lexemes.specs.BlockHeader.{Chomping}
use Rattle.granit_lexemes.specs.BlockScalar.{BlockRead, BlockGiven}
use Rattle.granit_lexemes.specs.Moves.{steps}
use Rattle.granit_lexemes.specs.Comment.{CommentRead, StandsComment}
use Rattle.granit_lexemes.specs.DirectiveExtent.{DirectiveLineEnds, AnswersDirective}
use Rattle.granit_lexemes.specs.Directive.{DirectiveRead}
use Rattle.granit_lexemes.specs.Source.{Source}
use Rattle.granit_lexemes.specs.DirectiveExtent as lines
use Rattle.granit_lexemes.specs.HeaderExtent.{LexemeTail, commented, uncommented}
use Rattle.granit_lexemes.specs.Here.{Here, mark_of, step, mid_line, start_of}
use Rattle.granit_lexemes.specs.Lexeme.{Lexeme, Item, OfLexeme, OfComment}
use Rattle.granit_lexemes.specs.PlainExtent.{over, separation_text, AnswersPlain}
use Rattle.granit_lexemes.specs.PlainScalar.{PlainRead}
use Rattle.granit_lexemes.specs.QuotedExtent.{Trails}
use Rattle.granit_lexemes.specs.QuotedExtent as quoted
use Rattle.granit_lexemes.specs.QuotedScalar.{QuotedRead, quote_char}
use Rattle.granit_base.specs.Place.{Mark, first}
use Rattle.granit_reading.proofs.ReadingLaw.{header_reaches, front_reaches, body_reaches}
use Rattle.granit_machine.specs.Gaps.{over_break_if}
use Rattle.granit_machine.specs.Laid.{Laid, is_in_flow, block_column}
use Rattle.granit_machine.specs.PossibleKeys.{layout_of}
use Rattle.granit_lexemes.specs.LayoutData.{LayoutData}
use Rattle.granit_language.specs.Allowed.{LayoutIs}
use Rattle.granit_reading.proofs.Deciding.{layout_same}
use Rattle.granit_machine.specs.LexemeSort.{OpenSign, CloseSign, CommaSign, DashSign, QuestionSign, ColonSign}
use Rattle.granit_machine.specs.LexemeSort.{AliasSign, AnchorSign, TagSign, BlockSign, QuoteSign, StrayMark, NoSign}
use Rattle.granit_machine.specs.LexemeSort.{PlainSign, LexemeSort, TextEnd, StartMark, EndMark, Unprintable}
use Rattle.granit_machine.specs.LexemeSort.{DirectiveSign, Placed}
use Rattle.granit_machine.specs.NodeLexemes.{block_shown, note_items}
use Rattle.granit_machine.specs.ReaderState.{ReaderState, reader_start}
use Rattle.granit_language.specs.Counting.{CountedMark, comment_places, tail_places, lexeme_places, places_of}
use Rattle.granit_language.specs.Counting.{PlacesCounted, ItemsCounted}
use Rattle.granit_language.specs.Reached.{Reads, of_comment, of_lexeme, Reached, stops, goes_on}
use Rattle.granit_language.specs.Standing.{GapStands, in_front_of_comment, in_front_of_lexeme, QuestionTail, a_comment}
use Rattle.granit_language.specs.Standing.{no_comment, QuestionStands, quoted_lexeme_of, QuotedLexeme, Given}
use Rattle.granit_language.specs.Stretch.{TailIf}
use Rattle.granit_places.proofs.Counting.{ahead_self, AllFrom, from_less, counted_more, At, Further, MovesTo, stay}
use Rattle.granit_places.proofs.Counting.{further_then, move_then, move_as, to_step, to_steps, to_over, to_place}
use Rattle.granit_places.proofs.Counting.{to_gap, start_at}

-- places of indices up to one
abbrev pub CountedTo : List ℕ → List ℕ → ℕ → Mark → Type 0
CountedTo x ms j m = (i : ℕ) × (i ≤ j) × CountedMark x ms i m

abbrev pub AllTo : List ℕ → List ℕ → ℕ → List Mark → Type 0
AllTo x ms j [] = Unit {0}
AllTo x ms j (m ∷ rest) = CountedTo x ms j m × AllTo x ms j rest

one_more : (x more ms : List ℕ) (j k : ℕ) (m : Mark) → AllFrom j more → j ≤ k → CountedTo x ms j m
    → CountedTo x (more ++ ms) k m
one_more x more ms j k m f l (i, less, c) = (
  i,
  omega (arith, less, l),
  counted_more x more ms i m
      (from_less i j more less f) c,
)

all_more : (x more ms : List ℕ) (j k : ℕ) (ps : List Mark) → AllFrom j more → j ≤ k → AllTo x ms j ps
    → AllTo x (more ++ ms) k ps
all_more x more ms j k [] f l s = tt
all_more x more ms j k (m ∷ ps) f l s = (one_more x more ms j k m f l s.0, all_more x more ms j k ps f l s.1)

all_joined : (x ms : List ℕ) (j : ℕ) (ps more : List Mark) → AllTo x ms j ps → AllTo x ms j more
    → AllTo x ms j (ps ++ more)
all_joined x ms j [] more s t = t
all_joined x ms j (m ∷ ps) more s t = (s.0, all_joined x ms j ps more s.1 t)

pub all_parts : (x ms : List ℕ) (j : ℕ) (ps more : List Mark) → AllTo x ms j (ps ++ more)
    → AllTo x ms j ps × AllTo x ms j more
all_parts x ms j [] more s = (tt, s)
all_parts x ms j (m ∷ ps) more s = let p = all_parts x ms j ps more s.1 in ((s.0, p.0), p.1)

all_counted : (x ms : List ℕ) (j : ℕ) (ps : List Mark) → AllTo x ms j ps → PlacesCounted x ms ps
all_counted x ms j [] s = tt
all_counted x ms j (m ∷ ps) s = ((s.0.0, s.0.2), all_counted x ms j ps s.1)

-- a block scalar is shown from its first content, or where there is none from its start
pub shown_from : {literal : Bool} {chomping : Chomping} {broken : Bool} {block : Option ℕ} {column k : ℕ} {start : Mark}
    {place : Here} {read : BlockRead} {after : Here}
    → BlockBody literal chomping broken block column k start place read after
    → (read.shown ≡ start) ⊎ (read.shown ≡ mark_of place)
shown_from (without_content e) = inl refl
shown_from (with_content lines t after some right ls out c u) = inr refl

module _ (x : List ℕ) where
  -- from a place to another, past these
  pub record Past (h : Here) (a : At x h) (ps : List Mark) (after : Here) : Type 0 where
    pub further : Further x h a after
    pub places : AllTo x further.place.marks further.place.index ps

  abbrev pub Passes : Here → List Mark → Here → Type 0
  Passes h ps after = (a : At x h) → Past h a ps after

  passes_none : {h after : Here} → MovesTo x h after → Passes h [] after
  passes_none f a = record { further = f a; places = tt }

  pub pass_here : (h : Here) → Passes h (mark_of h ∷ []) h
  pass_here h a = record {
    further = record {
      place = a;
      more = [];
      marks = refl;
      beyond = tt;
      index = omega arith;
      ahead = ahead_self h.place;
    };
    places = ((a.index, omega arith, a.here.mark), tt);
  }

  pub pass_then : {h g k : Here} {ps more : List Mark} → Passes h ps g → Passes g more k → Passes h (ps ++ more) k
  unfolding further_then
  pass_then {ps = ps} {more = more} f t a =
      let b = f a in let c = t b.further.place in
      let j = c.further.index in
      record {
        further = further_then x a b.further c.further;
        places = all_joined x c.further.place.marks c.further.place.index ps more
            (subst (λ ms. AllTo x ms c.further.place.index ps) (sym c.further.marks)
            (all_more x c.further.more b.further.place.marks b.further.place.index c.further.place.index ps
            c.further.beyond j b.places)) c.places;
      }

  -- the same places in another order
  pass_as : {h after : Here} {ps qs : List Mark} → ((ms : List ℕ) (j : ℕ) → AllTo x ms j ps → AllTo x ms j qs)
      → Passes h ps after → Passes h qs after
  pass_as f p a = let b = p a in record {
    further = b.further;
    places = f b.further.place.marks b.further.place.index
        b.places;
  }

  pass_to : {h after : Here} {ps qs : List Mark} → ps ≡ qs → Passes h ps after → Passes h qs after
  pass_to {h = h} {after = after} e p = subst (λ ps. Passes h ps after) e p

  -- ---- what stands between lexemes and behind them

  comment_passes : {h after : Here} {c : CommentRead} → StandsComment h c after → Passes h (comment_places c) after
  comment_passes {h = h} {c = c} p =
      let g = steps (suc (length c.text.characters)) h in
      pass_to (sym (ap comment_places p.is)) (pass_then (pass_here h)
      (pass_then (passes_none (to_steps x (suc (length c.text.characters)) h))
      (pass_then (pass_here g) (passes_none (to_place x g _ (sym (ap mid_line p.lands)))))))

  tail_passes : {end after : Here} {held : Option CommentRead} → LexemeTail end held after
      → Passes end (tail_places held) after
  tail_passes {end = end} (commented b blanks rest c p y s) = pass_then (passes_none (to_over x (b ∷ blanks) end))
      (comment_passes s)
  tail_passes {end = end} (uncommented blanks rest p n lands) = passes_none (move_as x lands (to_over x blanks end))

  to_break : (h : Here) → MovesTo x h (past_break h)
  unfolding past_break
  to_break h = on _
    where
      on : (v : Bool) → MovesTo x h (if v then step (step h) else step h)
      on true = move_then x (to_step x h) (to_step x (step h))
      on false = to_step x h

  over_break : (h : Here) → MovesTo x h (over_break_if h)
  unfolding over_break_if
  over_break h = on _
    where
      on : (v : Bool) → MovesTo x h (if v then past_break h else h)
      on true = to_break h
      on false = stay x h

  pub gap_passes : {o : OptionsData} {h : Here} {l : Laid} {c : Option CommentRead} {t : ReaderState}
      → GapStands o h l c t → Passes h (tail_places c) t.here
  gap_passes (in_front_of_comment {comment = c} at end g p) = pass_as
      (λ ms j s. (all_parts x ms j (comment_places c) [] s).0)
      (pass_then (passes_none (to_gap x g.over)) (pass_then (comment_passes p) (passes_none (over_break end))))
  gap_passes (in_front_of_lexeme at g n t k) = passes_none (to_gap x g.over)

  question_passes : {o : OptionsData} {l : Laid} {at after : Here} {held : Option CommentRead}
      → QuestionTail o l at held after → Passes at (tail_places held) after
  question_passes (a_comment q) = comment_passes q
  question_passes {at = at} (no_comment n t) = passes_none (stay x at)

  tail_if_passes : (v : Bool) (end after : Here) (held : Option CommentRead) → TailIf v end held after
      → Passes end (tail_places held) after
  tail_if_passes true end after held p = tail_passes p
  tail_if_passes false end after held p = pass_to (sym (ap tail_places p.0)) (passes_none (move_as x p.1 (stay x end)))

  line_end_passes : {v : Bool} {end after : Here} {held : Option CommentRead} → DirectiveLineEnds v end held after
      → Passes end (tail_places held) after
  line_end_passes {end = end} (lines.DirectiveLineEnds.nothing {blanks = blanks} p e) = passes_none
      (to_over x blanks end)
  line_end_passes {end = end} (lines.DirectiveLineEnds.comment {blanks = blanks} p m s c) = pass_then
      (passes_none (to_over x blanks end)) (comment_passes c)

  trail_told : (o : OptionsData) (column : ℕ) (l : Laid) {m : Mark} {end after : Here} {held : Option CommentRead}
      → Trails (layout_of o column l) m end held after → Passes end (tail_places held) after
  trail_told o column l {end = end} (quoted.Trails.comment b blanks rest c p y s e) = pass_to (sym (ap tail_places e))
      (pass_then (passes_none (to_over x (b ∷ blanks) end)) (comment_passes s))
  trail_told o column l {end = end} (quoted.Trails.nothing blanks rest p n lands e) = passes_none
      (move_as x lands (to_over x blanks end))

  trail_passes : (o : OptionsData) (column : ℕ) (l : Laid) (layout : LayoutData) → LayoutIs o column l layout
      → (m : Mark) (end after : Here) (held : Option CommentRead) → Trails layout m end held after
      → Passes end (tail_places held) after
  trail_passes o column l layout told m end after held t = trail_told o column l
      (subst (λ (d : LayoutData). Trails d m end held after) (sym (layout_same o column l told)) t)

  -- ---- lexemes

  -- one that ends where its tail begins
  shown_passes : {h end after : Here} (held : Option CommentRead) → MovesTo x h end
      → Passes end (tail_places held) after → Passes h
      (mark_of h ∷ mark_of h ∷ mark_of end ∷ mark_of end ∷ tail_places held) after
  shown_passes {h = h} {end = end} held f t = pass_as (λ ms j s. (s.0, (s.0, (s.1.0, (s.1.0, s.1.1)))))
      (pass_then (pass_here h) (pass_then (passes_none f) (pass_then (pass_here end) t)))

  pub record LexemePlaces (h : Here) (items : List Item) (after : Here) : Type 0 where
    pub lexeme : Lexeme
    pub notes : List Item
    pub are : items ≡ OfLexeme lexeme ∷ notes
    pub passes : Passes h (lexeme_places lexeme ++ places_of notes) after

  one : (h : Here) (y z : Lexeme) (after : Here) → y ≡ z → Passes h (lexeme_places z) after
      → LexemePlaces h (OfLexeme y ∷ []) after
  one h y z after e p = record {
    lexeme = y;
    notes = [];
    are = refl;
    passes = pass_to
        (ap (λ (y : Lexeme). lexeme_places y ++ []) (sym e))
        (pass_as (λ ms j s. all_joined x ms j (lexeme_places z) [] s tt) p);
  }

  notes_are : (note : Option CommentRead) → tail_places note ≡ places_of (note_items note)
  notes_are None = refl
  notes_are (Some c) = refl

  quoted_places : (o : OptionsData) (single ends : Bool) (h : Here) (l : Laid) (items : List Item) (after : ReaderState)
      → QuotedLexeme o single ends h l items after → LexemePlaces h items after.here
  quoted_places o single ends h l items after p =
      let end = over (quote_char single ∷ []) (over (quote_char single ∷ (p.answers.source ++ p.answers.gap)) h) in
      let e : p.read.source.end ≡ mark_of end = ap (λ (r : QuotedRead). r.source.end) p.answers.answer in
      let c : p.read.comment ≡ p.answers.noted = ap (λ (r : QuotedRead). r.comment) p.answers.answer in
      let f = move_then x (to_over x (quote_char single ∷ (p.answers.source ++ p.answers.gap)) h)
      (to_over x (quote_char single ∷ []) _) in
      let all = shown_passes p.answers.noted f
      (trail_passes o h.place.column l p.layout p.told _ _ _ _ p.answers.trails) in
      record {
        lexeme = quoted_lexeme_of single ends h l p.read;
        notes = note_items p.note;
        are = p.gives;
        passes = subst (λ (s : ReaderState). Passes h
            (lexeme_places (quoted_lexeme_of single ends h l p.read) ++ places_of (note_items p.note)) s.here)
            (sym p.leaves)
            (pass_then (pass_to (sym (ap₂ (λ (m : Mark) (c : Option CommentRead). mark_of h ∷ mark_of h ∷ m ∷ m
            ∷ tail_places c) e c)) all) (pass_to (notes_are p.note) (gap_passes p.gap)));
      }

  block_passes : (literal ends : Bool) (h : Here) (l : Laid) (given : BlockGiven) (after : Here)
      → AnswersBlock literal (block_column l) h given after
      → Passes h (lexeme_places (block_shown literal ends given after h l)) after
  block_passes literal ends h l given after p =
      let f = p.front in
      let head = header_reaches f.heads in
      let front = front_reaches f in
      let body = body_reaches p.body in
      pass_as (λ ms j s. let t = all_parts x ms j (tail_places given.noted) (mark_of p.place ∷ mark_of after ∷ [])
      s.1 in (s.0, (shown ms j s.0 t.1.0, (t.1.1.0, (t.1.1.0, t.0)))))
      (pass_then (pass_here h) (pass_then (passes_none
      (move_then x (to_over x head.0 h) (to_place x _ _ (sym head.1.lands)))) (pass_then (tail_passes f.tails)
      (pass_then (passes_none (move_then x (to_over x front.0 _) (to_place x _ _ (sym front.1.lands))))
      (pass_then (pass_here p.place)
      (pass_then (passes_none (move_then x (to_over x body.0 _) (to_place x _ _ (sym body.1.lands))))
      (pass_here after)))))))
    where
      shown : (ms : List ℕ) (j : ℕ) → CountedTo x ms j (mark_of h) → CountedTo x ms j (mark_of p.place)
          → CountedTo x ms j given.read.shown
      shown ms j a b = elim (shown_from p.body)
          [ inl e ↦ subst (CountedTo x ms j) (sym e) a | inr e ↦ subst (CountedTo x ms j) (sym e) b ]

  question_places : (o : OptionsData) (ends : Bool) (h : Here) (l : Laid) (y : Lexeme) (after : Here) (v : Bool)
      → QuestionStands o ends h l y after v → LexemePlaces h (OfLexeme y ∷ []) after
  question_places o ends h l y after true p = one h y _ after p.is
      (shown_passes None (to_step x h) (passes_none (move_as x p.reaches (stay x (step h)))))
  question_places o ends h l y after false p = one h y _ after p.is
      (shown_passes p.tail (to_step x h) (pass_then (passes_none (to_gap x p.gap.over)) (question_passes p.tailed)))

  dash_passes : (h after : Here) (held : Option CommentRead) → LexemeTail (step h) held after
      → Passes h (mark_of h ∷ mark_of h ∷ mark_of (step h) ∷ mark_of after ∷ tail_places held) after
  dash_passes h after held t =
      pass_as (λ ms j s. let p = all_parts x ms j (tail_places held) (mark_of after ∷ [])
      s.1.1 in (s.0, (s.0, (s.1.0, (p.1.0, p.0)))))
      (pass_then (pass_here h) (pass_then (passes_none (to_step x h))
      (pass_then (pass_here (step h)) (pass_then (tail_passes t) (pass_here after)))))

  directive_passes : (o : OptionsData) (h : Here) (read : DirectiveRead) (end : Here) → AnswersDirective o h read end
      → Passes h (mark_of h ∷ mark_of h ∷ read.source.end ∷ read.source.end ∷ tail_places read.noted)
      (over_break_if end)
  directive_passes o h read end a =
      let e : read.source.end ≡ mark_of a.end = ap (λ (s : Source). s.end) a.place in
      let all = shown_passes read.noted (move_as x a.stands.reached
      (to_over x (0x25 ∷ (a.stands.name ++ a.stands.source)) h))
      (pass_as (λ ms j s. (all_parts x ms j (tail_places read.noted) [] s).0)
      (pass_then (line_end_passes a.line) (passes_none (over_break end)))) in
      pass_to (sym (ap (λ (m : Mark). mark_of h ∷ mark_of h ∷ m ∷ m ∷ tail_places read.noted) e)) all

  -- one that ends where reading goes on
  alone_passes : {h after : Here} → MovesTo x h after
      → Passes h (mark_of h ∷ mark_of h ∷ mark_of after ∷ mark_of after ∷ []) after
  alone_passes {after = after} f = shown_passes None f (passes_none (stay x after))

  plain_passes : (layout : LayoutData) (h : Here) (read : PlainRead) (after : Here) → AnswersPlain layout h read after
      → Passes h (mark_of h ∷ mark_of h ∷ read.source.end ∷ read.source.end ∷ []) after
  plain_passes layout h read after a =
      let e : read.source.end ≡ mark_of (over a.source h) = ap (λ (r : PlainRead). r.source.end) a.answer in
      let all = shown_passes None (to_over x a.source h)
      (passes_none (move_as x a.reached (to_over x (separation_text a.tail) (over a.source h)))) in
      pass_to (sym (ap (λ (m : Mark). mark_of h ∷ mark_of h ∷ m ∷ m ∷ []) e)) all

  pub given_places : (o : OptionsData) (ends : Bool) (sort : LexemeSort) (h : Here) (l : Laid) (items : List Item)
      (after : ReaderState) → Given o ends sort h l items after → LexemePlaces h items after.here
  given_places o ends (Placed (QuoteSign single)) h l items after p = quoted_places o single ends h l items after p
  given_places o ends TextEnd h l (OfLexeme y ∷ []) after p = one h y _ after.here p.0.0.is
      (shown_passes None (stay x h) (passes_none (move_as x p.0.0.reaches (stay x h))))
  given_places o ends StartMark h l (OfLexeme y ∷ []) after p = one h y _ after.here p.0.0.is
      (shown_passes None (to_steps x 3 h) (passes_none (move_as x p.0.0.reaches (stay x (steps 3 h)))))
  given_places o ends EndMark h l (OfLexeme y ∷ []) after p = one h y _ after.here p.0.0.is
      (shown_passes p.0.0.tail (to_steps x 3 h) (tail_passes p.0.0.tailed))
  given_places o ends DirectiveSign h l (OfLexeme y ∷ []) after p = one h y _ after.here p.0.is
      (pass_end p.0.reaches (directive_passes o h p.0.read p.0.end p.0.answers))
    where
      pass_end : {h g after : Here} {ps : List Mark} → after ≡ g → Passes h ps g → Passes h ps after
      pass_end {h = h} {ps = ps} e q = subst (λ (g : Here). Passes h ps g) (sym e) q
  given_places o ends (Placed (OpenSign bracket)) h l (OfLexeme y ∷ []) after p = one h y _ after.here p.0.0.is
      (shown_passes p.0.0.tail (to_step x h) (tail_passes p.0.0.tailed))
  given_places o ends (Placed (CloseSign bracket)) h l (OfLexeme y ∷ []) after p = one h y _ after.here p.0.0.is
      (shown_passes p.0.0.tail (to_step x h) (tail_passes p.0.0.tailed))
  given_places o ends (Placed CommaSign) h l (OfLexeme y ∷ []) after p = one h y _ after.here p.0.0.is
      (shown_passes p.0.0.tail (to_step x h) (tail_passes p.0.0.tailed))
  given_places o ends (Placed DashSign) h l (OfLexeme y ∷ []) after p = one h y _ after.here p.0.is
      (dash_passes h after.here p.0.tail p.0.tailed)
  given_places o ends (Placed QuestionSign) h l (OfLexeme y ∷ []) after p = question_places o ends h l y after.here
      (is_in_flow l) p.0
  given_places o ends (Placed ColonSign) h l (OfLexeme y ∷ []) after p = one h y _ after.here p.0.is
      (shown_passes p.0.tail (to_step x h) (tail_if_passes _ (step h) after.here p.0.tail p.0.tailed))
  given_places o ends (Placed AliasSign) h l (OfLexeme y ∷ []) after p = one h y _ after.here p.0.is
      (alone_passes (move_as x p.0.answers.reached (to_over x (first h.unread.text ∷ p.0.name.characters) h)))
  given_places o ends (Placed AnchorSign) h l (OfLexeme y ∷ []) after p = one h y _ after.here p.0.is
      (alone_passes (move_as x p.0.answers.reached (to_over x (first h.unread.text ∷ p.0.name.characters) h)))
  given_places o ends (Placed TagSign) h l (OfLexeme y ∷ []) after p = one h y _ after.here p.0.is
      (alone_passes (move_as x p.0.answers.reached (to_over x p.0.answers.source h)))
  given_places o ends (Placed (BlockSign literal)) h l (OfLexeme y ∷ []) after p = one h y _ after.here p.0.is
      (block_passes literal ends h l p.0.given after.here p.0.answers)
  given_places o ends (Placed PlainSign) h l (OfLexeme y ∷ []) after p = one h y _ after.here p.1.is
      (plain_passes p.1.layout h p.1.read after.here p.1.answers)
  given_places o ends Unprintable h l (OfLexeme y ∷ []) after p = absurd p.0
  given_places o ends (Placed StrayMark) h l (OfLexeme y ∷ []) after p = absurd p.0
  given_places o ends (Placed NoSign) h l (OfLexeme y ∷ []) after p = absurd p.0
  given_places o ends sort h l items after p = absurd p

  reads_pass : (o : OptionsData) {s after : ReaderState} {items : List Item} → Reads o s items after
      → Passes s.here (places_of items) after.here
  reads_pass o (of_comment {comment = c} at g k) = pass_as (λ ms j s. all_joined x ms j (comment_places c) [] s tt)
      (gap_passes g)
  reads_pass o {s = s} {after = after} (of_lexeme {items = items} at behind sort comes given keys) =
      let p = given_places o _ sort at.here _ items behind given.1 in
      subst (λ (l : List Item). Passes s.here (places_of l) behind.here) (sym p.are)
      (pass_then (gap_passes comes.gap) p.passes)

  places_joined : (is more : List Item) → places_of (is ++ more) ≡ places_of is ++ places_of more
  places_joined [] more = refl
  places_joined (OfLexeme y ∷ is) more = ap (λ (l : List Mark). lexeme_places y ++ l) (places_joined is more)
      ∙ sym (append_assoc (lexeme_places y) (places_of is) (places_of more))
  places_joined (OfComment c ∷ is) more = ap (λ (l : List Mark). comment_places c ++ l) (places_joined is more)

  pub reached_passes : (o : OptionsData) {s t : ReaderState} {items : List Item} → Reached o s items t
      → Passes s.here (places_of items) t.here
  reached_passes o {s = s} stops = passes_none (stay x s.here)
  reached_passes o {s = s} {t = t} (goes_on next items more r last rest e) =
      subst (λ (l : List Item). Passes s.here (places_of l) t.here) (sym e)
      (pass_to (sym (places_joined items more)) (pass_then (reads_pass o r) (reached_passes o rest)))

-- the places of the lexemes and comments of a text are counted
pub places_counted : (o : OptionsData) (x : List ℕ) (items : List Item) (t : ReaderState)
    → Reached o (reader_start (start_of x)) items t → ItemsCounted x items
places_counted o x items t r =
    let p = reached_passes x o r (start_at x) in
    record {
      marks = p.further.place.marks;
      stand = p.further.place.stand;
      places = all_counted x p.further.place.marks
          p.further.place.index (places_of items) p.places;
    }

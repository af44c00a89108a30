-- A `...` that was read and not used is the last item that was, and reading stands at the end of its line.
pub use Rattle.granit_led.proofs.FoundMarks.{cursor_there, found_waiting}
pub use Rattle.granit_led.proofs.StartWaits.{StartLast}
pub use Rattle.granit_led.proofs.StartsRead.{any_starts, is_start, starts}
pub use Rattle.granit_led.proofs.MarkWaits.{none_waits, one_waits}
pub use Rattle.granit_led.proofs.ToldOnce.{told_alone}
use Rattle.std.proofs.Common.{◌≡◌, ℕ, ◌||◌, ◌&&◌, ◌==◌, not, Bool, true, false, List, [], ◌∷◌, ◌++◌, length, Option}
use Rattle.std.proofs.Common.{Some, None, Ok, refl, sym, ap, subst, ◌∙◌, drop}
use Rattle.std.proofs.Math.Bool.{and-false}
use Rattle.std.proofs.Math.Nat.{le_refl}
use Rattle.std.proofs.lemmas.Bool.{or_from, le-ltb}
use Rattle.std.specs.Prelude.{if◌then◌else◌, nat_lt}
use Rattle.granit_base.specs.Classes.{is_blank, is_break}
use Rattle.granit_base.specs.Place.{ends_line, first}
use Rattle.granit_declared.proofs.OneLine.{tail_line}
use Rattle.granit_error.specs.OptionsData.{OptionsData}
use Rattle.granit_language.specs.Before.{freshened, in_front}
use Rattle.granit_language.specs.Begins.{Begins, dots}
use Rattle.granit_language.specs.Reached.{BeginsAt, ends_column_by, of_comment, of_lexeme, Reads}
use Rattle.granit_language.specs.Standing.{Given, GivenOne}
use Rattle.granit_lexemes.proofs.CharTests.{blank_apart_from_break}
use Rattle.granit_lexemes.proofs.HereLemmas.{no_line_end, not_empty, step_text}
use Rattle.granit_lexemes.specs.Comment.{CommentRead}
use Rattle.granit_lexemes.specs.Gap.{Each}
use Rattle.granit_lexemes.specs.HeaderExtent.{commented, LexemeTail, uncommented}
use Rattle.granit_lexemes.specs.Here.{begins_behind, Here, is_quiet, next_char, step, text_len}
use Rattle.granit_lexemes.specs.Lexeme as lexemes
use Rattle.granit_lexemes.specs.Lexeme.{Item, Lexeme, LexemeKind, OfComment, OfLexeme}
use Rattle.granit_lexemes.specs.Moves.{steps}
use Rattle.granit_lexemes.specs.PlainExtent.{over}
use Rattle.granit_machine.specs.Laid.{Laid}
use Rattle.granit_machine.specs.LexemeSort.{AliasSign, AnchorSign, BlockSign, CloseSign, ColonSign, CommaSign, DashSign}
use Rattle.granit_machine.specs.LexemeSort.{DirectiveSign, EndMark, LexemeSort, NoSign, OpenSign, Placed, PlainSign}
use Rattle.granit_machine.specs.LexemeSort.{QuestionSign, QuoteSign, StartMark, StrayMark, TagSign, TextEnd}
use Rattle.granit_machine.specs.LexemeSort.{Unprintable}
use Rattle.granit_machine.specs.Lexing.{FlaggedItem}
use Rattle.granit_machine.specs.NodeLexemes.{note_items}
use Rattle.granit_machine.specs.Reader.{LexState, read}
use Rattle.granit_machine.specs.ReaderState.{ReaderState}
use Rattle.granit_behind.proofs.TextEnds.{Answers}
use Rattle.granit_behind.proofs.TextEnds.{read-is, ReadsBy}
use Rattle.granit_led.proofs.StartsRead.{SaysOf, telling}
use Rattle.granit_restart.proofs.MarkLaws.{items, MarksSettled}
use Rattle.granit_restart.proofs.MarkReads.{is_mark}
use Rattle.granit_restart.specs.Boundary.{AtStart, AtTextEnd, Boundary, next_boundary, PastEnd}
use Rattle.granit_restart.specs.NextBoundary.{IsLineEnd}
use Rattle.granit_restart.specs.Restart.{at_boundary, at_found, at_lexeme, behind_fault, behind_fault_at, cursor_at}
use Rattle.granit_restart.specs.Restart.{is_boundary, read_boundary}
pub use Rattle.granit_behind.proofs.FoundLaws.{led_holds}
use Rattle.granit_led.proofs.FoundMarks.{cursor_waiting}
use Rattle.granit_led.proofs.MarkWaits as waiting
use Rattle.granit_led.proofs.MarkWaits.{any_of, none_in, one_in, OneIn, WaitsLast}
use Rattle.granit_led.proofs.StartsRead.{or_false}
use Rattle.granit_led.specs.Led.{Led, led_anew, led_keeping, led_on, led_start, led_with}
use Rattle.granit_steps.specs.Steps.{is_open_comment, step_turn, StepState, Turn}

abbrev pub is_end : LexemeKind → Bool
is_end lexemes.DocumentEnd = true
is_end kind = false

-- reading stands behind it on its line, and the comment behind it is on that line too
pub record EndRead (h : Here) (x : Lexeme) : Type 0 where
  pub kind : x.kind ≡ lexemes.DocumentEnd
  pub line : x.end.place.line ≡ h.place.line
  pub right : is_open_comment x.tail ≡ false

abbrev pub EndsIn : Here → List Item → Type 0
EndsIn after is = OneIn is_end EndRead after is

-- ---- what stands behind it on its line

if_false : (b : Bool) (g h : Here) → b ≡ false → (if b then g else h) ≡ h
if_false true g h e = absurd (cc)
if_false false g h e = refl

-- behind a character what is known of the line is what it leaves
step_begins : (h : Here) (c : ℕ) (cs : List ℕ) → h.unread.text ≡ c ∷ cs → (step h).begins_line ≡ begins_behind h
unfolding step
step_begins h c cs e =
    ap (λ (g : Here). g.begins_line)
    (if_false (length h.unread.text == 0) h _ (ap (λ (t : List ℕ). length t == 0) e ∙ not_empty c cs))

-- one that ends no line and changes nothing of it
stays_begun : (h : Here) (c : ℕ) (cs : List ℕ) → h.unread.text ≡ c ∷ cs → is_break c ≡ false
    → (is_quiet c && h.begins_line) ≡ false → (step h).begins_line ≡ false
unfolding begins_behind
stays_begun h c cs e line quiet =
    step_begins h c cs e
    ∙ ap (λ (t : List ℕ). ends_line t || (is_quiet (first t) && h.begins_line)) e
    ∙ or_from (ends_line (c ∷ cs)) (is_quiet c && h.begins_line) (no_line_end c cs line) quiet

over_begun : (cs more : List ℕ) (h : Here) → h.unread.text ≡ cs ++ more → Each is_blank cs → h.begins_line ≡ false
    → (over cs h).begins_line ≡ false
over_begun [] more h e each begun = begun
over_begun (c ∷ cs) more h e each begun =
    over_begun cs more (step h) (step_text h ∙ ap (drop 1) e) each.1
    (stays_begun h c (cs ++ more) e (blank_apart_from_break c each.0)
    (ap (λ b. is_quiet c && b) begun ∙ and-false (is_quiet c)))

tail_right : {end after : Here} {held : Option CommentRead} → LexemeTail end held after → end.begins_line ≡ false
    → is_open_comment held ≡ false
tail_right {end = end} (commented b blanks rest c p y s) begun =
    let inside = over_begun (b ∷ blanks) rest end p.whole p.each begun in
    ap (λ (x : CommentRead). not x.is_right) s.is ∙ ap (λ v. not (not v)) inside
tail_right (uncommented blanks rest p n lands) begun = refl

dots_begun : (h : Here) (behind : List ℕ) → h.unread.text ≡ 0x2E ∷ 0x2E ∷ 0x2E ∷ behind
    → (steps 3 h).begins_line ≡ false
unfolding steps is_break
dots_begun h behind e =
    let one : (step h).unread.text ≡ 0x2E ∷ 0x2E ∷ behind = step_text h ∙ ap (drop 1) e in
    let two : (step (step h)).unread.text ≡ 0x2E ∷ behind = step_text (step h) ∙ ap (drop 1) one in
    stays_begun (step (step h)) 0x2E behind two refl refl

-- ---- one read

end_at : (o : OptionsData) (ends : Bool) (h : Here) (l : Laid) (is : List Item) (after : ReaderState)
    (in_flow adjacent : Bool) → Begins in_flow adjacent h.place.column h.unread.text EndMark
    → GivenOne o ends EndMark h l is after → EndsIn after.here is
end_at o ends h l (OfLexeme x ∷ []) after in_flow adjacent (dots stands) p =
    one_in (record {
      kind = ap (λ (y : Lexeme). y.kind) p.0.0.is;
      line = ap (λ (y : Lexeme). y.end.place.line) p.0.0.is ∙ sym (tail_line p.0.0.tailed);
      right = ap (λ (y : Lexeme). is_open_comment y.tail) p.0.0.is
          ∙ tail_right p.0.0.tailed (dots_begun h stands.1 stands.2);
    })
end_at o ends h l [] after in_flow adjacent b p = absurd p
end_at o ends h l (OfComment c ∷ is) after in_flow adjacent b p = absurd p
end_at o ends h l (OfLexeme x ∷ i ∷ is) after in_flow adjacent b p = absurd p

abbrev has_end : List Item → Bool
has_end is = any_of is_end EndRead is

other_kind : (x : Lexeme) (kind : LexemeKind) (behind : Option CommentRead) → x.kind ≡ kind → is_end kind ≡ false
    → has_end (OfLexeme x ∷ note_items behind) ≡ false
other_kind x kind None e n = or_false (is_end x.kind) (ap is_end e ∙ n)
other_kind x kind (Some c) e n = or_false (is_end x.kind) (ap is_end e ∙ n)

-- what is said of a lexeme of another sort
other_sort : (h : Here) (l : Laid) (x : Lexeme) (behind : Option CommentRead) (sort : LexemeSort) → SaysOf sort h l x
    → (sort ≡ EndMark → has_end (OfLexeme x ∷ note_items behind) ≡ false)
    → has_end (OfLexeme x ∷ note_items behind) ≡ false
other_sort h l x behind TextEnd s mark = other_kind x _ behind s.0.is refl
other_sort h l x behind StartMark s mark = other_kind x _ behind s.0.is refl
other_sort h l x behind EndMark s mark = mark refl
other_sort h l x behind DirectiveSign s mark = other_kind x _ behind s.1.is refl
other_sort h l x behind Unprintable s mark = absurd s
other_sort h l x behind (Placed (OpenSign bracket)) s mark = other_kind x _ behind s.is refl
other_sort h l x behind (Placed (CloseSign bracket)) s mark = other_kind x _ behind s.0.is refl
other_sort h l x behind (Placed CommaSign) s mark = other_kind x _ behind s.is refl
other_sort h l x behind (Placed DashSign) s mark = other_kind x _ behind s.0.is refl
other_sort h l x behind (Placed QuestionSign) s mark = other_kind x _ behind s.0.is refl
other_sort h l x behind (Placed ColonSign) s mark = other_kind x _ behind s.0 refl
other_sort h l x behind (Placed AliasSign) s mark = other_kind x _ behind s.1.is refl
other_sort h l x behind (Placed AnchorSign) s mark = other_kind x _ behind s.1.is refl
other_sort h l x behind (Placed TagSign) s mark = other_kind x _ behind s.2.is refl
other_sort h l x behind (Placed (BlockSign literal)) s mark = other_kind x _ behind s.2.is refl
other_sort h l x behind (Placed (QuoteSign single)) s mark = other_kind x _ behind s.2.is refl
other_sort h l x behind (Placed PlainSign) s mark = other_kind x _ behind s.2.is refl
other_sort h l x behind (Placed StrayMark) s mark = absurd s
other_sort h l x behind (Placed NoSign) s mark = absurd s

by_sort : (o : OptionsData) (at behind : ReaderState) (is : List Item) (sort : LexemeSort)
    → BeginsAt (freshened o at) sort
    → Given o (ends_column_by sort (freshened o at)) sort at.here (in_front sort at.here (freshened o at).laid) is
    behind
    → EndsIn behind.here is
by_sort o at behind is EndMark b given = end_at o _ at.here _ is behind _ _ b given
by_sort o at behind is sort b given =
    let t = telling o (ends_column_by sort (freshened o at)) at.here (in_front sort at.here (freshened o at).laid) sort
    is behind given in
    none_in (ap has_end t.are ∙ other_sort at.here (in_front sort at.here (freshened o at).laid) t.lexeme t.note sort
    t.says (λ e. absurd (cc)))

reads_end : (o : OptionsData) (s after : ReaderState) (is : List Item) → Reads o s is after → EndsIn after.here is
reads_end o s after is (of_comment at g k) = none_in refl
reads_end o s after is (of_lexeme at behind sort comes given keys) =
    by_sort o at behind is sort comes.begins given.1

read_end : (o : OptionsData) (s after : ReaderState) (is : List Item) → read o s ≡ Ok (is, after)
    → EndsIn after.here is
read_end o s after is e = reads_end o s after is (subst (Answers (ReadsBy o s) _) e (read-is o s))

-- ---- each state that is led to

abbrev pub EndLast : LexState → List FlaggedItem → Type 0
EndLast l q = WaitsLast is_end EndRead l q

untailed : (h : Here) (x : Lexeme) → EndRead h x → EndRead h (record x { tail = None })
untailed h x r = record { kind = r.kind; line = r.line; right = refl }

marked : (k : LexemeKind) → is_end k ≡ true → is_mark k ≡ true
marked lexemes.DocumentEnd e = refl
marked k e = absurd (cc)

abbrev TurnLast : Turn → Type 0
TurnLast r = waiting.TurnLast is_end EndRead r

turn_last : (o : OptionsData) (s : StepState) → EndLast s.reading s.queue
    → MarksSettled s.reading.reader.laid (items s.queue) → TurnLast (step_turn o s)
turn_last o = waiting.turn_last is_end EndRead untailed marked (λ h x r. ap is_end r.kind) (λ h x r. r.right) o
    (read_end o)

boundary_last : (s : StepState) (b : Boundary) → EndLast (at_boundary s b).1.reading (at_boundary s b).1.queue
boundary_last s (AtStart g) = none_waits refl
boundary_last s (PastEnd g) = none_waits refl
boundary_last s (AtTextEnd g) = none_waits refl

lexeme_last : (h : Here) (s : StepState) (l : Lexeme) (kind : LexemeKind) → l.kind ≡ kind
    → EndLast (at_lexeme h s kind l).1.reading (at_lexeme h s kind l).1.queue
lexeme_last h s l lexemes.DocumentStart e = none_waits (ap (λ (k : LexemeKind). is_end k || false) e)
lexeme_last h s l lexemes.DocumentEnd e = none_waits refl
lexeme_last h s l kind e = none_waits refl

found_last : (h : Here) (s : StepState) (r : Option Lexeme)
    → EndLast (at_found h s r).1.reading (at_found h s r).1.queue
found_last h s None = boundary_last s (next_boundary h)
found_last h s (Some l) = lexeme_last h s l l.kind refl

restart_last : (stop : Here) (s : StepState) → EndLast (behind_fault stop s).1.reading (behind_fault stop s).1.queue
unfolding behind_fault_at
restart_last stop s = let h = cursor_at stop s.reading in found_last h s (read_boundary h s.queue)

pub led_last : (o : OptionsData) (s : StepState) → Led o s → EndLast s.reading s.queue
led_last o s (led_start h) = none_waits refl
led_last o s (led_on {s = before} led e) =
    subst TurnLast e (turn_last o before (led_last o before led) (led_holds o before led).sound.marked)
led_last o s (led_with {s = before} p es led kept) = again (led_last o before led)
  where
    again : EndLast before.reading before.queue → EndLast before.reading before.queue
    again x = x
led_last o s (led_anew {s = before} stop led) = restart_last stop before
led_last o s (led_keeping keep led) = led_last (record o { keep_tags = keep }) s led

-- ---- a `...` that is found

end_of_line : (text : List ℕ) → (length text == 0 || is_break (first text)) ≡ true → IsLineEnd text
end_of_line [] e = tt
end_of_line (c ∷ cs) e = ap (λ b. b || is_break c) (sym (not_empty c cs)) ∙ e

line_ends : (h : Here) (l : Lexeme) → EndRead h l → is_boundary h l.kind l ≡ true → IsLineEnd h.unread.text
line_ends h l r is =
    end_of_line h.unread.text
    (ap (λ b. b || (text_len h == 0 || is_break (next_char h)))
    (sym (ap (λ n. nat_lt n h.place.line) r.line ∙ (le-ltb h.place.line h.place.line (le_refl h.place.line))))
    ∙ ap (λ (k : LexemeKind). is_boundary h k l) (sym r.kind) ∙ is)

end_kind : (k : LexemeKind) → k ≡ lexemes.DocumentEnd → is_end k ≡ true
end_kind k e = ap is_end e

-- where one is found, its line ends where the cursor stands
pub found_end : (o : OptionsData) (stop : Here) (s : StepState) (l : Lexeme) → Led o s
    → read_boundary (cursor_at stop s.reading) s.queue ≡ Some l → l.kind ≡ lexemes.DocumentEnd
    → is_boundary (cursor_at stop s.reading) l.kind l ≡ true → IsLineEnd (cursor_at stop s.reading).unread.text
found_end o stop s l led found kind is =
    line_ends (cursor_at stop s.reading) l
    (cursor_waiting is_end EndRead stop s.reading s.queue l (led_last o s led) found (end_kind l.kind kind)) is

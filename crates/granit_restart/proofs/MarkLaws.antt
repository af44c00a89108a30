-- What waits in front of a document mark, and the mark itself, is settled, so what may go behind a refused read holds
-- the same boundary as all that waits.
use Rattle.std.proofs.Common.{◌≡◌, ℕ, suc, ◌<◌, Bool, true, false, ◌||◌, not, List, [], ◌∷◌, ◌++◌, map, Option, Some}
use Rattle.std.proofs.Common.{None, Result, Ok, Err, refl, sym, ap, subst, ◌∙◌, append_assoc, arith}
use Rattle.std.proofs.lemmas.Bool.{not-true, or_parts}
use Rattle.std.proofs.lemmas.List.{append-nil}
use Rattle.std.proofs.lemmas.Option.{same_Some}
use Rattle.std.specs.Prelude.{if◌then◌else◌}
use Rattle.granit_error.specs.OptionsData.{OptionsData}
use Rattle.granit_lexemes.specs.Comment.{CommentRead}
use Rattle.granit_lexemes.specs.Here.{Here}
use Rattle.granit_lexemes.specs.Lexeme as lexemes
use Rattle.granit_lexemes.specs.Lexeme.{LexemeKind, Lexeme, Item, OfLexeme, OfComment}
use Rattle.granit_lexemes.specs.Outcome.{Fault, ◌>>=◌}
use Rattle.granit_lexemes.specs.PlainEvent.{PlainEvent}
use Rattle.granit_machine.specs.Frames.{ParserState}
use Rattle.granit_machine.specs.Laid.{Laid}
use Rattle.granit_machine.specs.Lexing.{FlaggedItem}
use Rattle.granit_machine.specs.Machine.{front_if, is_settled, settled}
use Rattle.granit_machine.specs.Parser.{feed}
use Rattle.granit_machine.specs.PossibleKeys.{is_possible}
use Rattle.granit_machine.specs.Reader.{behind_read, lex_turn, read}
use Rattle.granit_machine.specs.ReaderState.{Read, ReaderState}
use Rattle.granit_restart.proofs.MarkReads.{any_marks, Clears, is_mark, IsClear, marks, none_possible, read_clears}
use Rattle.granit_restart.specs.Boundary.{Boundary, AtStart, PastEnd, AtTextEnd, next_boundary}
use Rattle.granit_restart.specs.Following.{item_without_flag, past_lexeme}
use Rattle.granit_restart.specs.Restart.{anew, at_boundary, at_found, at_lexeme, behind_fault_at, boundary_of}
use Rattle.granit_restart.specs.Restart.{is_boundary, laid_anew, lexeme_or, read_boundary}
use Rattle.granit_restart.specs.Turned.{Turned, turned_start, turned_on, turned_with, turned_anew}
use Rattle.granit_restart.specs.Turned.{turned_counting, turned_keeping}
use Rattle.granit_steps.proofs.Futures.{AllOld, IsReady, pushed_nil, Ready, turn_keeps, TurnKeeps}
use Rattle.granit_steps.proofs.Queues.{IsOld}
use Rattle.granit_steps.proofs.StepLaws.{never_possible_again}
use Rattle.granit_steps.specs.Steps.{StepState, front_turn, incoming, line_behind, marked_by, may_go, pushed, read_more}
use Rattle.granit_steps.specs.Steps.{read_unless, step_turn, Turn, turn_by, unflagged, with_fed, with_read}

-- ---- items of a queue

abbrev pub items : List FlaggedItem → List Item
items q = map item_without_flag q

marked_items : (i : Item) (q : List FlaggedItem)
    → items (map (marked_by i) q ++ unflagged i ∷ []) ≡ items q ++ i ∷ []
marked_items i [] = refl
marked_items i (f ∷ q) = ap (λ xs. f.item ∷ xs) (marked_items i q)

pub pushed_items : (q : List FlaggedItem) (is : List Item) → items (pushed q is) ≡ items q ++ is
pushed_items q [] = sym (append-nil (items q))
pushed_items q (i ∷ is) =
    pushed_items (map (marked_by i) q ++ unflagged i ∷ []) is ∙ ap (λ xs. xs ++ is) (marked_items i q)
    ∙ append_assoc (items q) (i ∷ []) is

-- ---- settled up to the last mark

abbrev pub MarksSettled : Laid → List Item → Type 0
MarksSettled l [] = Unit {0}
MarksSettled l (i ∷ is) = (any_marks (i ∷ is) ≡ true → is_settled l i ≡ true) × MarksSettled l is

clear_settles : (l : Laid) (i : Item) → IsClear l → is_settled l i ≡ true
clear_settles l (OfLexeme x) p = ap not (none_possible x.number l p)
clear_settles l (OfComment c) p = refl

all_settled : (l : Laid) (is : List Item) → IsClear l → MarksSettled l is
all_settled l [] p = tt
all_settled l (i ∷ is) p = (λ e. clear_settles l i p, all_settled l is p)

unmarked_settled : (l : Laid) (is : List Item) → any_marks is ≡ false → MarksSettled l is
unmarked_settled l [] e = tt
unmarked_settled l (i ∷ is) e =
    (λ any. absurd (cc), unmarked_settled l is (or_parts (marks i) (any_marks is) e).1)

any_append : (xs ys : List Item) → any_marks ys ≡ false → any_marks (xs ++ ys) ≡ any_marks xs
any_append [] ys e = e
any_append (x ∷ xs) ys e = ap (λ b. marks x || b) (any_append xs ys e)

-- items that were settled stay so, and none of those that come is a mark
more_settled : (s t : Laid) (q : List FlaggedItem) (ys : List Item)
    → ((i : Item) → IsOld s.number i → is_settled s i ≡ true → is_settled t i ≡ true) → AllOld s.number q
    → any_marks ys ≡ false → MarksSettled s (items q) → MarksSettled t (items q ++ ys)
more_settled s t [] ys stays old none p = unmarked_settled t ys none
more_settled s t (f ∷ q) ys stays old none p = (
  λ any. stays f.item old.0 (p.0 (sym (any_append (f.item ∷ items q) ys none) ∙ any)),
  more_settled s t q ys stays old.1 none p.1,
)

asked_marks : (b : Bool) (is : List Item) → any_marks (incoming b is) ≡ any_marks is
asked_marks true is = refl
asked_marks false [] = refl
asked_marks false (OfLexeme l ∷ is) = ap (λ c. is_mark l.kind || c) (asked_marks false is)
asked_marks false (OfComment c ∷ is) = asked_marks false is

-- ---- one turn

abbrev Marked : StepState → Type 0
Marked s = MarksSettled s.reading.reader.laid (items s.queue)

abbrev TurnMarked : Turn → Type 0
TurnMarked (Ok x) = Marked x.1
TurnMarked (Err f) = Unit {0}

fed_marked : (s : StepState) (i : FlaggedItem) (is : List FlaggedItem)
    (r : Result (List PlainEvent × ParserState) Fault)
    → MarksSettled s.reading.reader.laid (i.item ∷ items is) → TurnMarked (r >>= λ x. Ok (Some [], with_fed s is x))
fed_marked s i is (Ok x) p = p.1
fed_marked s i is (Err f) p = tt

stays_settled : (o : OptionsData) (s t : ReaderState) (is : List Item) → read o s ≡ Ok (is, t) → (i : Item)
    → IsOld s.laid.number i → is_settled s.laid i ≡ true → is_settled t.laid i ≡ true
stays_settled o s t is r (OfLexeme l) old e =
    ap not (never_possible_again o s t is l.number r old (not-true (is_possible l.number s.laid) e))
stays_settled o s t is r (OfComment c) old e = refl

read_settled : (o : OptionsData) (s t : ReaderState) (is : List Item) (q : List FlaggedItem) (b : Bool)
    → read o s ≡ Ok (is, t) → any_marks is ≡ b → (any_marks is ≡ true → IsClear t.laid) → AllOld s.laid.number q
    → MarksSettled s.laid (items q) → MarksSettled t.laid (items q ++ incoming o.emit_comments is)
read_settled o s t is q true r any clear old p = all_settled t.laid (items q ++ incoming o.emit_comments is) (clear any)
read_settled o s t is q false r any clear old p =
    more_settled s.laid t.laid q (incoming o.emit_comments is) (stays_settled o s t is r) old
    (asked_marks o.emit_comments is ∙ any) p

read_marked : (o : OptionsData) (s : StepState) (r : Read) → AllOld s.reading.reader.laid.number s.queue
    → read o s.reading.reader ≡ r → Clears r → Marked s
    → TurnMarked (behind_read r s.reading.reader >>= λ x. Ok (Some [], with_read o s x))
read_marked o s (Err f) old r clear p =
    subst (λ q. MarksSettled s.reading.reader.laid (items q)) (sym (pushed_nil o.emit_comments s.queue)) p
read_marked o s (Ok x) old r clear p =
    subst (MarksSettled x.1.laid) (sym (pushed_items s.queue (incoming o.emit_comments x.0)))
    (read_settled o s.reading.reader x.1 x.0 s.queue (any_marks x.0) r refl clear old p)

turned_marked : (b : Bool) (o : OptionsData) (s : StepState) → AllOld s.reading.reader.laid.number s.queue → Marked s
    → TurnMarked ((if b then Ok (None, s.reading) else behind_read (read o s.reading.reader) s.reading.reader)
    >>= λ x. Ok (Some [], with_read o s x))
turned_marked true o s old p =
    subst (λ q. MarksSettled s.reading.reader.laid (items q)) (sym (pushed_nil o.emit_comments s.queue)) p
turned_marked false o s old p = read_marked o s (read o s.reading.reader) old refl (read_clears o s.reading.reader) p

unless_marked : (o : OptionsData) (fault : Option Fault) (s : StepState) → AllOld s.reading.reader.laid.number s.queue
    → Marked s → TurnMarked (read_unless o fault s)
unfolding lex_turn
unless_marked o (Some f) s old p = tt
unless_marked o None s old p = turned_marked s.reading.ended o s old p

more_marked : (o : OptionsData) (b : Bool) (s : StepState) → AllOld s.reading.reader.laid.number s.queue → Marked s
    → TurnMarked (read_more o b s)
more_marked o true s old p = p
more_marked o false s old p = unless_marked o s.reading.fault s old p

front_marked : (b : Bool) (o : OptionsData) (i : FlaggedItem) (is : List FlaggedItem) (s : StepState)
    → s.queue ≡ i ∷ is → AllOld s.reading.reader.laid.number s.queue → Marked s → TurnMarked (front_turn b o i is s)
front_marked true o i is s queue old p =
    fed_marked s i is (feed o i (line_behind s.reading is) s.parser)
    (subst (λ q. MarksSettled s.reading.reader.laid (items q)) queue p)
front_marked false o i is s queue old p = more_marked o s.reading.ended s old p

by_marked : (o : OptionsData) (es : List PlainEvent) (q : List FlaggedItem) (s : StepState) → s.queue ≡ q
    → AllOld s.reading.reader.laid.number s.queue → Marked s → TurnMarked (turn_by o es q s)
by_marked o (e ∷ es) q s queue old p = p
by_marked o [] [] s queue old p = more_marked o s.reading.ended s old p
by_marked o [] (i ∷ is) s queue old p = front_marked (may_go s.reading i is) o i is s queue old p

turn_marked : (o : OptionsData) (s : StepState) → AllOld s.reading.reader.laid.number s.queue → Marked s
    → TurnMarked (step_turn o s)
unfolding step_turn
turn_marked o s old p = by_marked o s.pending s.queue s refl old p

-- ---- what holds of each state

pub record Sound (s : StepState) : Type 0 where
  pub ready : IsReady s
  pub marked : Marked s

abbrev TurnReady : Turn → Type 0
TurnReady (Ok x) = IsReady x.1
TurnReady (Err f) = Unit {0}

ready_by : (o : OptionsData) (s : StepState) (r : Turn) → IsReady s → TurnKeeps o s r → TurnReady r
ready_by o s (Ok (Some y, t)) ready k = k.0
ready_by o s (Ok (None, t)) ready k = subst IsReady (sym k.0) ready
ready_by o s (Err f) ready k = tt

abbrev pub TurnSound : Turn → Type 0
TurnSound (Ok x) = Sound x.1
TurnSound (Err f) = Unit {0}

both_sound : (r : Turn) → TurnReady r → TurnMarked r → TurnSound r
both_sound (Ok x) ready marked = record { ready = ready; marked = marked }
both_sound (Err f) ready marked = tt

pub turn_sound : (o : OptionsData) (s : StepState) → Sound s → TurnSound (step_turn o s)
turn_sound o s p =
    let ready : Ready s.reading s.queue = p.ready in
    both_sound (step_turn o s) (ready_by o s (step_turn o s) p.ready (turn_keeps o s p.ready))
    (turn_marked o s ready.old p.marked)

-- behind a fault, with nothing that waits or a `---`
anew_sound : (may_prefix : Bool) (q : List FlaggedItem) (h : Here) (s : StepState)
    → AllOld (suc s.reading.reader.laid.number) q → Sound (anew may_prefix q h s)
anew_sound may_prefix q h s old = record {
  ready = record { below = tt; old = old; one_end = λ e. absurd (cc) };
  marked = all_settled (laid_anew may_prefix s.reading.reader.laid) (items q) (refl, refl);
}

boundary_sound : (s : StepState) (b : Boundary) → Sound (at_boundary s b).1
boundary_sound s (AtStart h) = anew_sound false _ _ s (omega arith, tt)
boundary_sound s (PastEnd h) = anew_sound true [] h s tt
boundary_sound s (AtTextEnd h) = anew_sound false [] h s tt

lexeme_sound : (h : Here) (s : StepState) (kind : LexemeKind) (l : Lexeme) → l.number < s.reading.reader.laid.number
    → Sound (at_lexeme h s kind l).1
lexeme_sound h s lexemes.DocumentStart l less = anew_sound false _ h s (omega (arith, less), tt)
lexeme_sound h s lexemes.DocumentEnd l less = anew_sound true [] h s tt
lexeme_sound h s kind l less = anew_sound false [] h s tt

found_or : (n : ℕ) (b : Bool) (x : Lexeme) (later : Option Lexeme) (l : Lexeme) → x.number < n
    → (later ≡ Some l → l.number < n) → lexeme_or b x later ≡ Some l → l.number < n
found_or n true x later l less more e = subst (λ (y : Lexeme). y.number < n) (same_Some x l e) less
found_or n false x later l less more e = more e

found_in : (h : Here) (n : ℕ) (i : Item) (later : Option Lexeme) (l : Lexeme) → IsOld n i
    → (later ≡ Some l → l.number < n) → boundary_of h i later ≡ Some l → l.number < n
found_in h n (OfLexeme x) later l old more e = found_or n (is_boundary h x.kind x) x later l old more e
found_in h n (OfComment c) later l old more e = more e

-- the boundary among items is one of them
found_old : (h : Here) (n : ℕ) (q : List FlaggedItem) (l : Lexeme) → AllOld n q → read_boundary h q ≡ Some l
    → l.number < n
found_old h n [] l old e = absurd (cc)
found_old h n (f ∷ q) l old e = found_in h n f.item (read_boundary h q) l old.0 (found_old h n q l old.1) e

at_found_sound : (h : Here) (s : StepState) (r : Option Lexeme) → read_boundary h s.queue ≡ r → IsReady s
    → Sound (at_found h s r).1
at_found_sound h s (Some l) e ready =
    let known : Ready s.reading s.queue = ready in
    lexeme_sound h s l.kind l (found_old h s.reading.reader.laid.number s.queue l known.old e)
at_found_sound h s None e ready = boundary_sound s (next_boundary h)

pub restart_sound : (h : Here) (s : StepState) → Sound s → Sound (behind_fault_at h s).1
unfolding behind_fault_at
restart_sound h s p = at_found_sound h s (read_boundary h s.queue) refl p.ready

pub turned_sound : (o : OptionsData) (s : StepState) → Turned o s → Sound s
turned_sound o s (turned_start h) = record { ready = record { below = tt; old = tt; one_end = λ e. refl }; marked = tt }
turned_sound o s (turned_on {s = before} p e) = subst TurnSound e (turn_sound o before (turned_sound o before p))
turned_sound o s (turned_with {s = before} es p) =
    let x = turned_sound o before p in record { ready = x.ready; marked = x.marked }
turned_sound o s (turned_anew {s = before} h p) = restart_sound h before (turned_sound o before p)
turned_sound o s (turned_counting {s = before} count p) =
    let x = turned_sound o before p in record { ready = x.ready; marked = x.marked }
turned_sound o s (turned_keeping keep p) = turned_sound (record o { keep_tags = keep }) s p

-- ---- the boundary among what may go

other_kind : (h : Here) (kind : LexemeKind) (l : Lexeme) → is_mark kind ≡ false → is_boundary h kind l ≡ false
other_kind h lexemes.DocumentStart l e = absurd (cc)
other_kind h lexemes.DocumentEnd l e = absurd (cc)
other_kind h lexemes.StreamEnd l e = absurd (cc)
other_kind h kind l e = refl

none_in : (h : Here) (i : Item) (later : Option Lexeme) → marks i ≡ false → later ≡ None
    → boundary_of h i later ≡ None
none_in h (OfLexeme l) later e none = ap (λ b. lexeme_or b l later) (other_kind h l.kind l e) ∙ none
none_in h (OfComment c) later e none = none

pub none_read : (h : Here) (q : List FlaggedItem) → any_marks (items q) ≡ false → read_boundary h q ≡ None
none_read h [] e = refl
none_read h (f ∷ q) e =
    none_in h f.item (read_boundary h q) (or_parts (marks f.item) (any_marks (items q)) e).0
    (none_read h q (or_parts (marks f.item) (any_marks (items q)) e).1)

pub unsettled_none : (l : Laid) (i : Item) (is : List Item) (b : Bool) → any_marks (i ∷ is) ≡ b
    → MarksSettled l (i ∷ is) → is_settled l i ≡ false → b ≡ false
unsettled_none l i is true e p none = absurd (let f = p.0 e in cc)
unsettled_none l i is false e p none = refl

settled_front : (h : Here) (l : Laid) (f : FlaggedItem) (q : List FlaggedItem) (b : Bool) → is_settled l f.item ≡ b
    → MarksSettled l (items (f ∷ q)) → read_boundary h q ≡ read_boundary h (settled l q)
    → read_boundary h (f ∷ q) ≡ read_boundary h (front_if b f (settled l q))
settled_front h l f q true e p more = ap (boundary_of h f.item) more
settled_front h l f q false e p more =
    none_read h (f ∷ q) (unsettled_none l f.item (items q) (any_marks (items (f ∷ q))) refl p e)

settled_read : (h : Here) (l : Laid) (q : List FlaggedItem) → MarksSettled l (items q)
    → read_boundary h q ≡ read_boundary h (settled l q)
settled_read h l [] p = refl
settled_read h l (f ∷ q) p = settled_front h l f q (is_settled l f.item) refl p (settled_read h l q p.1)

-- what may go holds the same boundary as all that waits
pub what_goes_holds : (o : OptionsData) (h : Here) (s : StepState) → Turned o s
    → read_boundary h s.queue ≡ read_boundary h (settled s.reading.reader.laid s.queue)
what_goes_holds o h s t = let p = turned_sound o s t in settled_read h s.reading.reader.laid s.queue p.marked

-- ---- what is no mark begins a document

pub other_kind_passes : (left : ℕ) (kind : LexemeKind) (tail : Option CommentRead) (more : ℕ → Result Bool Fault)
    → is_mark kind ≡ false → past_lexeme left kind tail more ≡ Ok true
other_kind_passes left lexemes.DocumentStart tail more e = absurd (cc)
other_kind_passes left lexemes.DocumentEnd tail more e = absurd (cc)
other_kind_passes left lexemes.StreamEnd tail more e = absurd (cc)
other_kind_passes left kind tail more e = refl

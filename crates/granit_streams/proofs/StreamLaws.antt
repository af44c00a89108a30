-- A run's events are a whole stream, and those before a fault begin one.
use Rattle.std.proofs.Common.{◌≡◌, ℕ, zero, suc, ◌<◌, ◌||◌, Bool, true, false, List, [], ◌∷◌, ◌++◌, map, Option, Some}
use Rattle.std.proofs.Common.{None, Result, Ok, Err, refl, sym, ap, subst, ◌∙◌, arith}
use Rattle.std.proofs.lemmas.Bool.{or_right, or_left}
use Rattle.std.specs.Prelude.{if◌then◌else◌}
use Rattle.granit_base.specs.Place.{Mark}
use Rattle.granit_error.specs.OptionsData.{OptionsData}
use Rattle.granit_lexemes.specs.Here.{Here, mark_of, start_of}
use Rattle.granit_lexemes.specs.Lexeme.{Item, OfLexeme, OfComment}
use Rattle.granit_lexemes.specs.Outcome.{Fault, ◌>>=◌}
use Rattle.granit_lexemes.specs.Pieces.{with_front, then_more, turns, pieces}
use Rattle.granit_lexemes.specs.PlainEvent.{PlainEvent, event_on, StreamStart, StreamEnd, DocumentEnd, SequenceEnd}
use Rattle.granit_lexemes.specs.PlainEvent.{MappingEnd}
use Rattle.granit_machine.specs.Frames.{Frame, Root, WithProperties, BlockSequence, BlockMapping, FlowSequence}
use Rattle.granit_machine.specs.Frames.{FlowMapping, FlowPair, DocumentStage, Fresh, Directives, Inside, BehindRoot}
use Rattle.granit_machine.specs.Frames.{Between, ParserState, parser_start}
use Rattle.granit_machine.specs.Giving.{null_at}
use Rattle.granit_machine.specs.Laid.{Laid}
use Rattle.granit_machine.specs.Lexing.{FlaggedItem, flagged, lex_start, lex}
use Rattle.granit_machine.specs.Machine.{asked_items, is_settled, settled, front_if, run}
use Rattle.granit_machine.specs.Parser.{next_line, feed}
use Rattle.granit_machine.specs.Reader.{read, LexState, behind_read, is_end, is_end_kind, lex_turn, lex_len}
use Rattle.granit_machine.specs.ReaderState.{Read}
use Rattle.granit_steps.specs.Flags.{flags}
use Rattle.granit_steps.specs.Levels.{Level, InStream, and_then, behind_events, IsStream, BeginsStream}
use Rattle.granit_steps.specs.Steps.{incoming}
use Rattle.granit_steps.specs.Told.{EventsTold, before_told, told_behind, fed, parsers_items, told_read, told_of}
use Rattle.granit_steps.specs.Told.{answer}
use Rattle.granit_steps.proofs.Futures.{lex_turn-Shortens}
use Rattle.granit_steps.proofs.Chains.{LexChain, pieces_chain}
use Rattle.granit_steps.proofs.KeyReads.{possibles, Items, IsComment, Lexed, read_keys}
use Rattle.granit_streams.proofs.Nesting.{base_levels, levels_of, Clean, Fine, more_left, done_levels, clean_done}
use Rattle.granit_steps.proofs.Queues.{asked_flags}
use Rattle.granit_steps.proofs.StepLaws.{run_told}
use Rattle.granit_streams.proofs.StreamNesting.{is_end_item, Rests, Over, Fed, feed_fed, comment_over}

-- ---- what is open can be closed

Closers : List Level → Type 0
Closers ls = (es : List PlainEvent) × (behind_events es ls ≡ Some [])

done_closers : (m : Mark) (fs : List Frame) (st : DocumentStage) → Clean fs
    → (es : List PlainEvent) × (behind_events es (done_levels fs st) ≡ Some [])
done_closers m [] st c = absurd c
done_closers m (Root explicit ∷ fs) st c = (event_on DocumentEnd m ∷ event_on StreamEnd m ∷ [], refl)
done_closers m (WithProperties q ∷ fs) st c = absurd c
done_closers m (BlockSequence column indentless ∷ fs) st c = let r = done_closers m fs st
    c in (event_on SequenceEnd m ∷ r.0, ap (λ x. and_then x (behind_events r.0)) (clean_done fs st c) ∙ r.1)
done_closers m (BlockMapping column stage ∷ fs) st c = let r = done_closers m fs st
    c in (event_on MappingEnd m ∷ r.0, ap (λ x. and_then x (behind_events r.0)) (clean_done fs st c) ∙ r.1)
done_closers m (FlowSequence b ∷ fs) st c = let r = done_closers m fs st
    c in (event_on SequenceEnd m ∷ r.0, ap (λ x. and_then x (behind_events r.0)) (clean_done fs st c) ∙ r.1)
done_closers m (FlowMapping single stage ∷ fs) st c = let r = done_closers m fs st
    c in (event_on MappingEnd m ∷ r.0, ap (λ x. and_then x (behind_events r.0)) (clean_done fs st c) ∙ r.1)
done_closers m (FlowPair stage ∷ fs) st c = let r = done_closers m fs st
    c in (event_on MappingEnd m ∷ r.0, ap (λ x. and_then x (behind_events r.0)) (clean_done fs st c) ∙ r.1)

-- an empty node where one stands, and then the ends
clean_closers : (m : Mark) (fs : List Frame) (st : DocumentStage) → Clean fs
    → (es : List PlainEvent) × (behind_events es (levels_of fs st) ≡ Some [])
clean_closers m fs st c = let r = done_closers m fs st
    c in (null_at m ∷ r.0, ap (λ x. and_then x (behind_events r.0)) (clean_done fs st c) ∙ r.1)

base_closers : (m : Mark) (st : DocumentStage) → (es : List PlainEvent) × (behind_events es (base_levels st) ≡ Some [])
base_closers m BehindRoot = (event_on DocumentEnd m ∷ event_on StreamEnd m ∷ [], refl)
base_closers m Fresh = (event_on StreamEnd m ∷ [], refl)
base_closers m (Directives version) = (event_on StreamEnd m ∷ [], refl)
base_closers m Inside = (event_on StreamEnd m ∷ [], refl)
base_closers m Between = (event_on StreamEnd m ∷ [], refl)

fine_closers : (m : Mark) (fs : List Frame) (st : DocumentStage) → Fine fs
    → (es : List PlainEvent) × (behind_events es (levels_of fs st) ≡ Some [])
fine_closers m [] st c = base_closers m st
fine_closers m (WithProperties q ∷ fs) st c = clean_closers m fs st c
fine_closers m (Root explicit ∷ fs) st c = clean_closers m (Root explicit ∷ fs) st c
fine_closers m (BlockSequence column indentless ∷ fs) st c = clean_closers m (BlockSequence column indentless ∷ fs) st c
fine_closers m (BlockMapping column stage ∷ fs) st c = clean_closers m (BlockMapping column stage ∷ fs) st c
fine_closers m (FlowSequence b ∷ fs) st c = clean_closers m (FlowSequence b ∷ fs) st c
fine_closers m (FlowMapping single stage ∷ fs) st c = clean_closers m (FlowMapping single stage ∷ fs) st c
fine_closers m (FlowPair stage ∷ fs) st c = clean_closers m (FlowPair stage ∷ fs) st c

-- ---- items of which the end is the last lexeme

abbrev pub OnlyComments : List Item → Type 0
OnlyComments [] = Unit {0}
OnlyComments (OfLexeme l ∷ is) = ⊥
OnlyComments (OfComment c ∷ is) = OnlyComments is

abbrev pub Fit : List Item → Type 0
Fit [] = Unit {0}
Fit (i ∷ is) = (is_end_item i ≡ true → OnlyComments is) × Fit is

abbrev pub has_end : List Item → Bool
has_end [] = false
has_end (i ∷ is) = is_end_item i || has_end is

record LexFits (ended : Bool) (items : List Item) (t : LexState) : Type 0 where
  fit : Fit items
  none : ended ≡ true → items ≡ []
  ends : t.fault ≡ None → ended ≡ false → has_end items ≡ true

abbrev LexFit : Bool → Result (List Item × LexState) Fault → Type 0
LexFit ended (Ok x) = LexFits ended x.0 x.1
LexFit ended (Err f) = Unit {0}

fit_tail : (tail items : List Item) → IsComment tail → Fit items → Fit (tail ++ items)
fit_tail [] items p f = f
fit_tail (OfLexeme l ∷ is) items p f = absurd p
fit_tail (OfComment c ∷ []) items p f = (λ e. absurd (cc), f)
fit_tail (OfComment c ∷ i ∷ is) items p f = absurd p

only_tail : (tail items : List Item) → IsComment tail → items ≡ [] → OnlyComments (tail ++ items)
only_tail [] items p e = subst OnlyComments (sym e) tt
only_tail (OfLexeme l ∷ is) items p e = absurd p
only_tail (OfComment c ∷ []) items p e = subst OnlyComments (sym e) tt
only_tail (OfComment c ∷ i ∷ is) items p e = absurd p

fit_front : (number : ℕ) (before : List ℕ) (front items : List Item) (t : Laid) → Items number before front t
    → Fit items → (is_end front ≡ true → items ≡ []) → Fit (front ++ items)
fit_front number before [] items t p f none = absurd p
fit_front number before (OfComment c ∷ []) items t p f none = (λ e. absurd (cc), f)
fit_front number before (OfComment c ∷ i ∷ is) items t p f none = absurd p
fit_front number before (OfLexeme l ∷ is) items t p f none =
    (λ e. only_tail is items p.3 (none e), fit_tail is items p.3 f)

end_front : (front items : List Item) → is_end front ≡ true → has_end (front ++ items) ≡ true
end_front [] items e = absurd (cc)
end_front (OfLexeme l ∷ is) items e = or_left (is_end_kind l.kind) (has_end (is ++ items)) e
end_front (OfComment c ∷ is) items e = absurd (cc)

pub end_behind : (front items : List Item) → has_end items ≡ true → has_end (front ++ items) ≡ true
end_behind [] items e = e
end_behind (i ∷ is) items e = or_right (is_end_item i) (has_end (is ++ items)) (end_behind is items e)

ends_by : (b : Bool) (front items : List Item) → is_end front ≡ b → (b ≡ false → has_end items ≡ true)
    → has_end (front ++ items) ≡ true
ends_by true front items e more = end_front front items e
ends_by false front items e more = end_behind front items (more refl)

front_fits : (number : ℕ) (before : List ℕ) (front : List Item) (u : Laid) (r : Result (List Item × LexState) Fault)
    → Items number before front u → LexFit (is_end front) r → LexFit false (with_front front r)
front_fits number before front u (Err f) p x = tt
front_fits number before front u (Ok y) p x = record {
  fit = fit_front number before front y.0 u p x.fit x.none;
  none = λ e. absurd (cc);
  ends = λ e f. ends_by (is_end front) front y.0 refl (x.ends e);
}

abbrev FitsAll : OptionsData → ℕ → Type 0
FitsAll o n = (s : LexState) → lex_len s < n → LexFit s.ended (turns (lex_turn o) n s)

read_fit : (o : OptionsData) (n : ℕ) (s : LexState) (r : Read) → FitsAll o n → lex_turn o s ≡ behind_read r s.reader
    → lex_len s < suc n → Lexed s.reader.laid.number (possibles s.reader.laid) r
    → LexFit false (behind_read r s.reader >>= λ x. then_more (turns (lex_turn o) n) x.0 x.1)
read_fit o n s (Err f) more is h p = record { fit = tt; none = λ e. refl; ends = λ e. absurd (cc) }
read_fit o n s (Ok x) more is h p =
    let after : LexState = record { reader = x.1; ended = is_end x.0; fault = None } in
    let less = lex_turn-Shortens o s after x.0 is in
    front_fits s.reader.laid.number (possibles s.reader.laid) x.0 x.1.laid (turns (lex_turn o) n after) p
    (more after (omega (arith, less, h)))

fit_turn : (o : OptionsData) (n : ℕ) (s : LexState) (b : Bool) → FitsAll o n → s.ended ≡ b
    → lex_turn o s ≡ (if b then Ok (None, s) else behind_read (read o s.reader) s.reader) → lex_len s < suc n
    → LexFit b ((if b then Ok (None, s) else behind_read (read o s.reader) s.reader) >>= λ x. then_more
    (turns (lex_turn o) n) x.0 x.1)
fit_turn o n s true more e is h = record { fit = tt; none = λ e. refl; ends = λ e f. absurd (cc) }
fit_turn o n s false more e is h = read_fit o n s (read o s.reader) more is h (read_keys o s.reader)

fit_turns : (o : OptionsData) (n : ℕ) → FitsAll o n
unfolding turns lex_turn
fit_turns o zero s h = absurd (omega arith)
fit_turns o (suc n) s h = fit_turn o n s s.ended (fit_turns o n) refl refl h

lex_fit : (o : OptionsData) (h : Here) → LexFit false (lex o h)
unfolding pieces
lex_fit o h = fit_turns o (suc (lex_len (lex_start h))) (lex_start h) (omega arith)

-- ---- what the parser gets of them

abbrev in_item : FlaggedItem → Item
in_item f = f.item

abbrev in_items : List FlaggedItem → List Item
in_items fs = map in_item fs

flags_items : (is : List Item) → in_items (flags is) ≡ is
flags_items [] = refl
flags_items (i ∷ is) = ap (λ xs. i ∷ xs) (flags_items is)

only_asked : (b : Bool) (is : List Item) → OnlyComments is → OnlyComments (incoming b is)
only_asked true is p = p
only_asked false [] p = tt
only_asked false (OfLexeme l ∷ is) p = absurd p
only_asked false (OfComment c ∷ is) p = only_asked false is p

fit_asked : (b : Bool) (is : List Item) → Fit is → Fit (incoming b is)
fit_asked true is p = p
fit_asked false [] p = tt
fit_asked false (OfLexeme l ∷ is) p = (λ e. only_asked false is (p.0 e), fit_asked false is p.1)
fit_asked false (OfComment c ∷ is) p = fit_asked false is p.1

end_asked : (b : Bool) (is : List Item) → has_end (incoming b is) ≡ has_end is
end_asked true is = refl
end_asked false [] = refl
end_asked false (OfLexeme l ∷ is) = ap (λ c. is_end_kind l.kind || c) (end_asked false is)
end_asked false (OfComment c ∷ is) = end_asked false is

only_front : (b : Bool) (s : Laid) (i : FlaggedItem) (is : List FlaggedItem) → OnlyComments (in_items (i ∷ is))
    → OnlyComments (in_items (settled s is)) → OnlyComments (in_items (front_if b i (settled s is)))
only_front false s i is p q = tt
only_front true s i is p q = only_one i.item (in_items is) (in_items (settled s is)) p q
  where
    only_one : (i : Item) (is js : List Item) → OnlyComments (i ∷ is) → OnlyComments js → OnlyComments (i ∷ js)
    only_one (OfLexeme l) is js p q = absurd p
    only_one (OfComment c) is js p q = q

pub only_rest : (i : Item) (is : List Item) → OnlyComments (i ∷ is) → OnlyComments is
only_rest (OfLexeme l) is p = absurd p
only_rest (OfComment c) is p = p

only_settled : (s : Laid) (fs : List FlaggedItem) → OnlyComments (in_items fs) → OnlyComments (in_items (settled s fs))
only_settled s [] p = tt
only_settled s (i ∷ is) p = only_front (is_settled s i.item) s i is p
    (only_settled s is (only_rest i.item (in_items is) p))

fit_settled_by : (b : Bool) (s : Laid) (i : FlaggedItem) (is : List FlaggedItem)
    → (is_end_item i.item ≡ true → OnlyComments (in_items (settled s is))) → Fit (in_items (settled s is))
    → Fit (in_items (front_if b i (settled s is)))
fit_settled_by true s i is p q = (p, q)
fit_settled_by false s i is p q = tt

fit_settled : (s : Laid) (fs : List FlaggedItem) → Fit (in_items fs) → Fit (in_items (settled s fs))
fit_settled s [] p = tt
fit_settled s (i ∷ is) p = fit_settled_by (is_settled s i.item) s i is (λ e. only_settled s is (p.0 e))
    (fit_settled s is p.1)

fit_parsers : (s : Laid) (end : Option Fault) (fs : List FlaggedItem) → Fit (in_items fs)
    → Fit (in_items (parsers_items s end fs))
fit_parsers s None fs p = p
fit_parsers s (Some f) fs p = fit_settled s fs p

-- ---- what is told of them

record Ends (a : List Level) (t : EventsTold) (b : Bool) : Type 0 where
  levels : List Level
  left : behind_events t.0 a ≡ Some levels
  closed : t.1 ≡ None → b ≡ true → levels ≡ []
  more : List PlainEvent
  closes : behind_events more levels ≡ Some []

over_told : (o : OptionsData) (end : Option Fault) (is : List FlaggedItem) (p : ParserState)
    → OnlyComments (in_items is) → Over p → behind_events (fed o end is p).0 [] ≡ Some []
over_told o end [] p c x = refl
over_told o end (i ∷ is) p c x = over_item o end is (feed o i (next_line is) p) (comment_fed i.item i.begins_key c)
    (λ q y. over_told o end is q (only_rest i.item (in_items is) c) y)
  where
    comment_fed : (j : Item) (b : Bool) → OnlyComments (j ∷ in_items is)
        → Fed true [] (feed o (record { item = j; begins_key = b }) (next_line is) p)
    comment_fed (OfLexeme l) b c = absurd c
    comment_fed (OfComment d) b c = comment_over o d b (next_line is) p x

    over_item : (o : OptionsData) (end : Option Fault) (is : List FlaggedItem)
        (r : Result (List PlainEvent × ParserState) Fault) → Fed true [] r
        → ((q : ParserState) → Over q → behind_events (fed o end is q).0 [] ≡ Some [])
        → behind_events (told_behind r (λ q. fed o end is q)).0 [] ≡ Some []
    over_item o end is (Ok x) f more = more_left [] x.0 (fed o end is x.1).0 [] [] f.0 (more x.1 f.1)
    over_item o end is (Err g) f more = refl

fault_ends : (a : List Level) (f : Fault) (b : Bool) (es : List PlainEvent) → behind_events es a ≡ Some []
    → Ends a ([], Some f) b
fault_ends a f b es e = record { levels = a; left = refl; closed = λ h. absurd (cc); more = es; closes = e }

item_ends : (o : OptionsData) (end : Option Fault) (i : FlaggedItem) (is : List FlaggedItem) (a : List Level) (b : Bool)
    (r : Result (List PlainEvent × ParserState) Fault) → is_end_item i.item ≡ b
    → (is_end_item i.item ≡ true → OnlyComments (in_items is)) → (es : List PlainEvent) → behind_events es a ≡ Some []
    → Fed b a r → ((q : ParserState) → Rests q
    → Ends (levels_of q.frames q.stage) (fed o end is q) (has_end (in_items is)))
    → Ends a (told_behind r (λ q. fed o end is q)) (is_end_item i.item || has_end (in_items is))
item_ends o end i is a true (Err f) e only es c x more = fault_ends a f _ es c
item_ends o end i is a false (Err f) e only es c x more = fault_ends a f _ es c
item_ends o end i is a true (Ok y) e only es c x more = record {
  levels = [];
  left = more_left a y.0 (fed o end is y.1).0 [] [] x.0 (over_told o end is y.1 (only e) x.1);
  closed = λ h k. refl;
  more = [];
  closes = refl;
}
item_ends o end i is a false (Ok y) e only es c x more =
    let r = more y.1 x.1 in
    record {
      levels = r.levels;
      left = more_left a y.0 (fed o end is y.1).0 (levels_of y.1.frames y.1.stage) r.levels x.0 r.left;
      closed = λ h k. r.closed h (sym (ap (λ b. b || has_end (in_items is)) e) ∙ k);
      more = r.more;
      closes = r.closes;
    }

fed_ends : (m : Mark) (o : OptionsData) (end : Option Fault) (is : List FlaggedItem) (p : ParserState)
    → Fit (in_items is) → Rests p → Ends (levels_of p.frames p.stage) (fed o end is p) (has_end (in_items is))
fed_ends m o end [] p fit x = let c = fine_closers m p.frames p.stage
    x.fine in record {
      levels = levels_of p.frames p.stage;
      left = refl;
      closed = λ h k. absurd (cc);
      more = c.0;
      closes = c.1;
    }
fed_ends m o end (i ∷ is) p fit x =
    let c = fine_closers m p.frames p.stage x.fine in
    item_ends o end i is (levels_of p.frames p.stage) (is_end_item i.item) (feed o i (next_line is) p) refl fit.0 c.0
    c.1 (feed_fed o i (next_line is) p x) (λ q y. fed_ends m o end is q fit.1 y)

parser_rests : (m : Mark) → Rests (parser_start m)
parser_rests m = record { given = refl; fine = tt; held = tt }

-- of all that is read
record Told_well (t : EventsTold) : Type 0 where
  whole : t.1 ≡ None → IsStream t.0
  begins : BeginsStream t.0

told_well : (m : Mark) (t : EventsTold) (b : Bool) → (t.1 ≡ None → b ≡ true) → Ends (InStream ∷ []) t b
    → Told_well (before_told (event_on StreamStart m ∷ []) t)
told_well m t b all x = record {
  whole = λ e. x.left ∙ ap (λ ls. Some ls) (x.closed e (all e));
  begins = (x.more, more_left (InStream ∷ []) t.0 x.more x.levels [] x.left x.closes);
}

behind_fault : (o : OptionsData) (end : Option Fault) (is : List FlaggedItem)
    (r : Result (List PlainEvent × ParserState) Fault) → ((p : ParserState) → (fed o end is p).1 ≡ None → end ≡ None)
    → (told_behind r (λ q. fed o end is q)).1 ≡ None → end ≡ None
behind_fault o end is (Ok x) more e = more x.1 e
behind_fault o end is (Err f) more e = absurd (cc)

fault_told : (o : OptionsData) (end : Option Fault) (is : List FlaggedItem) (p : ParserState)
    → (fed o end is p).1 ≡ None → end ≡ None
fault_told o end [] p e = e
fault_told o end (i ∷ is) p e = behind_fault o end is (feed o i (next_line is) p) (fault_told o end is) e

well_by : (o : OptionsData) (m : Mark) (h : Here) (r : Result (List Item × LexState) Fault)
    → LexChain (lex_start h).reader.laid r → LexFit false r
    → Told_well (before_told (event_on StreamStart m ∷ []) (told_read o (parser_start m) r))
well_by o m h (Err f) ch x = absurd ch
well_by o m h (Ok y) ch x =
    let b = o.emit_comments in
    let items = asked_items b (flagged y.0) in
    let is : in_items items ≡ incoming b y.0 = ap in_items (ap (asked_items b) ch.same_flags ∙ asked_flags b y.0)
    ∙ flags_items (incoming b y.0) in
    let fit : Fit (in_items items) = subst Fit (sym is) (fit_asked b y.0 x.fit) in
    let all : y.1.fault ≡ None → has_end (in_items items) ≡ true = λ e. ap has_end is ∙ end_asked b y.0
    ∙ x.ends e refl in
    told_well m (fed o y.1.fault (parsers_items y.1.reader.laid y.1.fault items) (parser_start m))
    (has_end (in_items (parsers_items y.1.reader.laid y.1.fault items)))
    (λ e. let f = fault_told o y.1.fault (parsers_items y.1.reader.laid y.1.fault items) (parser_start m) e in ap
    (λ end. has_end (in_items (parsers_items y.1.reader.laid end items))) f ∙ all f)
    (fed_ends m o y.1.fault (parsers_items y.1.reader.laid y.1.fault items) (parser_start m)
    (fit_parsers y.1.reader.laid y.1.fault items fit) (parser_rests m))

text_well : (o : OptionsData) (text : List ℕ) → Told_well (told_of o text)
text_well o text = well_by o (mark_of (start_of text)) (start_of text) (lex o (start_of text))
    (pieces_chain o (lex_start (start_of text)) tt) (lex_fit o (start_of text))

-- the events told before a fault begin a stream
pub told_begins : (o : OptionsData) (text : List ℕ) → BeginsStream (told_of o text).0
told_begins o text = (text_well o text).begins

answer_ok : (t : EventsTold) (end : Option Fault) (es : List PlainEvent) → t.1 ≡ end → answer t end ≡ Ok es
    → (t.1 ≡ None) × (t.0 ≡ es)
answer_ok t None es e h = (e, cc)
answer_ok t (Some f) es e h = absurd (cc)

-- a run's events are a whole stream
pub run_is_stream : (o : OptionsData) (text : List ℕ) (es : List PlainEvent) → run o text ≡ Ok es → IsStream es
run_is_stream o text es e =
    let t = answer_ok (told_of o text) (told_of o text).1 es refl (sym (run_told o text) ∙ e) in
    subst IsStream t.1 ((text_well o text).whole t.0)

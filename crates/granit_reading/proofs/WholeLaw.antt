-- Reading a text comes to all its items, and all its items are what reading comes to.
use Rattle.std.proofs.Common.{◌≡◌, Bool, true, false, List, [], ◌++◌, Option, Some, None, Result, Ok, Err, refl, sym}
use Rattle.std.proofs.Common.{ap, ◌∙◌, subst}
use Rattle.std.specs.Prelude.{if◌then◌else◌, is_none}
use Rattle.std.proofs.lemmas.List.{append-nil}
use Rattle.granit_error.specs.OptionsData.{OptionsData}
use Rattle.granit_lexemes.proofs.PieceLemmas.{pieces_done, pieces_more}
use Rattle.granit_lexemes.specs.Here.{Here}
use Rattle.granit_lexemes.specs.Lexeme.{Item}
use Rattle.granit_lexemes.specs.Outcome.{Fault}
use Rattle.granit_lexemes.specs.Pieces.{with_front, pieces}
pub use Rattle.granit_blocks.proofs.Leading.{Carries, pieces_hold}
use Rattle.granit_machine.specs.Lexing.{lex, lex_start}
use Rattle.granit_machine.specs.Reader.{read, LexState, is_end, behind_read, lex_turn, lex_len}
use Rattle.granit_machine.specs.ReaderState.{ReaderState, Read, reader_start}
use Rattle.granit_termination.proofs.LexLengths.{at_read}
pub use Rattle.granit_termination.proofs.LexLengths.{lex_turn-Shortens}
use Rattle.granit_language.specs.Reached.{Reads, ReadRefused, StopsThere, ReadWhole, whole_ends, whole_stops}
use Rattle.granit_language.specs.Reached.{whole_goes_on}
use Rattle.granit_reading.proofs.Answering.{Answers}
use Rattle.granit_reading.proofs.ReadAnswers.{read_answers, turn_answers}
use Rattle.granit_reading.proofs.ReadingLaw.{ReadsBy, read-is}

-- ---- what reading comes to

pub record LexedWhole (o : OptionsData) (s : ReaderState) (items : List Item) (t : LexState) : Type 0 where
  pub whole : ReadWhole o s items (is_none t.fault) t.reader
  pub refused : (f : Fault) → t.fault ≡ Some f → read o t.reader ≡ Err f

abbrev WholeBy : OptionsData → Bool → LexState → List Item → LexState → Type 0
WholeBy o true s items t = (items ≡ []) × (t ≡ s)
WholeBy o false s items t = LexedWhole o s.reader items t

abbrev Whole : OptionsData → LexState → Result (List Item × LexState) Fault → Type 0
Whole o s (Ok x) = WholeBy o s.ended s x.0 x.1
Whole o s (Err f) = ⊥

none_refused : {A : Type 0} (f : Fault) → ◌≡◌ {A = Option Fault} None (Some f) → A
none_refused f e = absurd cc

more_of :
    (o : OptionsData) (s : ReaderState) (items : List Item) (after : ReaderState) → Reads o s items after → (v : Bool) →
    is_end items ≡ v → (more : List Item) (t : LexState) →
    WholeBy o v (record { reader = after; ended = v; fault = None }) more t → LexedWhole o s (items ++ more) t
more_of o s items after r true e more t h =
    subst (LexedWhole o s (items ++ more)) (sym h.1) (record {
      whole =
          subst (λ l. ReadWhole o s l true after) (sym (ap (λ (l : List Item). items ++ l) h.0 ∙ append-nil items))
          (whole_ends r e);
      refused = λ f n. none_refused f n;
    })
more_of o s items after r false e more t h =
    record { whole = whole_goes_on after items more r e h.whole refl; refused = h.refused }

carried :
    (o : OptionsData) (s : ReaderState) (items : List Item) (after : ReaderState) → Reads o s items after →
    (given : Result (List Item × LexState) Fault) →
    Whole o (record { reader = after; ended = is_end items; fault = None }) given →
    Whole o (record { reader = s; ended = false; fault = None }) (with_front items given)
carried o s items after r (Ok x) h = more_of o s items after r (is_end items) refl x.0 x.1 h
carried o s items after r (Err f) h = absurd h

no_read : (o : OptionsData) (s : ReaderState) (f : Fault) → read o s ≡ Err f → StopsThere o s
no_read o s f e items next r = let a = read_answers o r in cc (a, e)

same_fault : (f g : Fault) → ◌≡◌ {A = Option Fault} (Some f) (Some g) → f ≡ g
same_fault f g e = cc (e)

turn_by :
    (o : OptionsData) (s : LexState) (r : Read) → read o s.reader ≡ r →
    Answers (ReadsBy o s.reader) (ReadRefused o s.reader) r → (v : Bool) → s.ended ≡ v →
    Carries (Whole o) s (if v then Ok (None, s) else behind_read r s.reader)
turn_by o s r q p true e = subst (λ v. WholeBy o v s [] s) (sym e) (refl, refl)
turn_by o s (Ok x) q p false e = λ given h. held given (carried o s.reader x.0 x.1 p given h)
  where
    held :
        (given : Result (List Item × LexState) Fault) →
        Whole o (record { reader = s.reader; ended = false; fault = None }) (with_front x.0 given) →
        Whole o s (with_front x.0 given)
    held (Ok y) q = subst (λ v. WholeBy o v s (x.0 ++ y.0) y.1) (sym e) q
    held (Err f) q = q
turn_by o s (Err f) q p false e =
    subst (λ v. WholeBy o v s [] (record { reader = s.reader; ended = false; fault = Some f })) (sym e)
    (record {
      whole = whole_stops (no_read o s.reader f q);
      refused = λ g n. q ∙ ap (λ f. Err f) (same_fault f g n);
    })

turn-is : (o : OptionsData) (s : LexState) → Carries (Whole o) s (lex_turn o s)
unfolding lex_turn
turn-is o s = turn_by o s (read o s.reader) refl (read-is o s.reader) s.ended refl

lex_whole : (o : OptionsData) (h : Here) → Whole o (lex_start h) (lex o h)
lex_whole o h = pieces_hold (Whole o) lex_len (lex_turn o) (lex_turn-Shortens o) (turn-is o) (lex_start h)

pub lexed_whole :
    (o : OptionsData) (h : Here) (items : List Item) (t : LexState) → lex o h ≡ Ok (items, t) →
    LexedWhole o (reader_start h) items t
lexed_whole o h items t e = subst (Whole o (lex_start h)) e (lex_whole o h)

-- ---- all items are what it comes to

pub record ReadsWhole (o : OptionsData) (s : LexState) (items : List Item) (ended : Bool)
    (t : ReaderState) : Type 0 where
  pub left : LexState
  pub given : pieces lex_len (lex_turn o) s ≡ Ok (items, left)
  pub fault_is : is_none left.fault ≡ ended
  pub reader_is : left.reader ≡ t

ended_done :
    (o : OptionsData) (next : ReaderState) →
    lex_turn o (record { reader = next; ended = true; fault = None })
    ≡ Ok (None, record { reader = next; ended = true; fault = None })
unfolding lex_turn
ended_done o next = refl

turn_on :
    (o : OptionsData) (s next : ReaderState) (items : List Item) (v : Bool) → is_end items ≡ v → Reads o s items next →
    lex_turn o (at_read s) ≡ Ok (Some items, record { reader = next; ended = v; fault = None })
turn_on o s next items v e r =
    turn_answers o s next None items r ∙ ap (λ v. Ok (Some items, record { reader = next; ended = v; fault = None })) e

refused_turn :
    (o : OptionsData) (s : ReaderState) (f : Fault) → read o s ≡ Err f →
    lex_turn o (at_read s) ≡ Ok (None, record { reader = s; ended = false; fault = Some f })
unfolding lex_turn
refused_turn o s f e = ap (λ r. behind_read r s) e

stopped :
    (o : OptionsData) (s : ReaderState) → StopsThere o s → (r : Read) → read o s ≡ r →
    Answers (ReadsBy o s) (ReadRefused o s) r → (f : Fault) × (read o s ≡ Err f)
stopped o s n (Ok x) e p = absurd (n x.0 x.1 p)
stopped o s n (Err f) e p = (f, e)

pub refused_there : (o : OptionsData) (s : ReaderState) → StopsThere o s → (f : Fault) × (read o s ≡ Err f)
refused_there o s n = stopped o s n (read o s) refl (read-is o s)

more_given :
    (o : OptionsData) (s next : ReaderState) (items more : List Item) (v : Bool) (left : LexState) →
    lex_turn o (at_read s) ≡ Ok (Some items, record { reader = next; ended = v; fault = None }) →
    pieces lex_len (lex_turn o) (record { reader = next; ended = v; fault = None }) ≡ Ok (more, left) →
    pieces lex_len (lex_turn o) (at_read s) ≡ Ok (items ++ more, left)
more_given o s next items more v left turn given =
    pieces_more lex_len (lex_turn o) (lex_turn-Shortens o) (at_read s) (record {
      reader = next;
      ended = v;
      fault =
          None;
    }) items
    turn
    ∙ ap (with_front items) given

pub reads_whole :
    (o : OptionsData) {s t : ReaderState} {items : List Item} {ended : Bool} → ReadWhole o s items ended t →
    ReadsWhole o (at_read s) items ended t
reads_whole o {s = s} {items = items} (whole_ends {next = next} r e) =
    let done : LexState = record { reader = next; ended = true; fault = None } in
    record {
      left = done;
      given =
          more_given o s next items [] true done (turn_on o s next items true e r)
          (pieces_done lex_len (lex_turn o) done done (ended_done o next))
          ∙ ap (λ (l : List Item). Ok (l, done)) (append-nil items);
      fault_is = refl;
      reader_is = refl;
    }
reads_whole o {s = s} (whole_stops n) =
    let f = refused_there o s n in
    let left : LexState = record { reader = s; ended = false; fault = Some f.0 } in
    record {
      left = left;
      given = pieces_done lex_len (lex_turn o) (at_read s) left (refused_turn o s f.0 f.1);
      fault_is = refl;
      reader_is = refl;
    }
reads_whole o {s = s} {items = all} (whole_goes_on next items more r e rest is) =
    let w = reads_whole o rest in
    record {
      left = w.left;
      given =
          more_given o s next items more false w.left (turn_on o s next items false e r) w.given
          ∙ ap (λ (l : List Item). Ok (l, w.left)) (sym is);
      fault_is = w.fault_is;
      reader_is = w.reader_is;
    }

pub all_read_whole :
    (o : OptionsData) (h : Here) (items : List Item) (ended : Bool) (s : ReaderState) →
    ReadWhole o (reader_start h) items ended s →
    (t : LexState) × (lex o h ≡ Ok (items, t)) × (is_none t.fault ≡ ended) × (t.reader ≡ s)
all_read_whole o h items ended s r =
    let w = reads_whole o r in (w.left, w.given, w.fault_is, w.reader_is)

pub one_whole :
    (o : OptionsData) (h : Here) (xs ys : List Item) (a b : Bool) (s t : ReaderState) →
    ReadWhole o (reader_start h) xs a s → ReadWhole o (reader_start h) ys b t → (xs ≡ ys) × (a ≡ b) × (s ≡ t)
one_whole o h xs ys a b s t p q =
    let v = all_read_whole o h xs a s p in
    let w = all_read_whole o h ys b t q in
    let e : ◌≡◌ {A = Result (List Item × LexState) Fault} (Ok (xs, v.0)) (Ok (ys, w.0)) = sym v.1 ∙ w.1 in
    let f : ◌≡◌ {A = List Item × LexState} (xs, v.0) (ys, w.0) = cc in
    let left = ap (λ (y : List Item × LexState). y.1) f in (
      ap (λ (y : List Item × LexState). y.0) f,
      sym v.2 ∙ (ap (λ (t : LexState). is_none t.fault) left ∙ w.2),
      sym v.3 ∙ (ap (λ (t : LexState). t.reader) left ∙ w.3),
    )

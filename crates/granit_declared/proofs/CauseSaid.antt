-- A cause of a text is a declared one.
use Rattle.std.proofs.Common.{◌≡◌, ℕ, Bool, true, false, List, [], map, inl, inr, refl, sym, subst}
use Rattle.std.specs.Bool.{Decides}
use Rattle.granit_error.specs.OptionsData.{OptionsData}
use Rattle.granit_language.specs.Reached.{ReadWhole}
use Rattle.granit_language.specs.Seen.{Flagged, terminal_seen, lexemes_flagged}
use Rattle.granit_language.specs.TextFault.{SettledFront, ItemsBefore, NoneTold, OfLexemes, to_end, before_stop}
use Rattle.granit_language.specs.TextFault.{OfReading, OfComments, WholeCause}
use Rattle.granit_language.specs.Whole.{WholeFault}
use Rattle.granit_lexemes.specs.Here.{start_of}
use Rattle.granit_lexemes.specs.Lexeme.{Item}
use Rattle.granit_lexemes.specs.Outcome.{Fault}
use Rattle.granit_machine.specs.Laid.{Laid}
use Rattle.granit_machine.specs.Lexing.{FlaggedItem, flagged}
use Rattle.granit_machine.specs.PossibleKeys.{is_possible}
use Rattle.granit_machine.specs.ReaderState.{ReaderState, reader_start}
use Rattle.granit_order.proofs.BracketsKept.{lexed}
use Rattle.granit_order.proofs.BracketsKept.{all_read_whole}
use Rattle.granit_declared.proofs.CertainSaid.{possible_decided, front_certain, front_settled, told_before}
use Rattle.granit_declared.proofs.CertainSaid.{items_before}
use Rattle.granit_declared.proofs.KeyFlags.{items_same, flags_said}
use Rattle.granit_declared.proofs.ReadingSaid.{flags_once}
use Rattle.granit_declared.specs.DeclaredCause.{AllItems, MayBegin, NoneAmong, LexemesCause, at_end, at_stop}
use Rattle.granit_declared.specs.DeclaredCause.{ReadingCause}
use Rattle.granit_declared.specs.DeclaredCause.{CommentsCause, DeclaredCause}
use Rattle.granit_before.specs.KeyBegins.{items_of, FlagsSay}

-- ---- all items of a text are flagged as their flags say

whole_flags : (o : OptionsData) (x : List ℕ) (items : List Item) (ended : Bool) (s : ReaderState) →
    ReadWhole o (reader_start (start_of x)) items ended s → FlagsSay o x [] (flagged items)
whole_flags o x items ended s w =
    let r = all_read_whole o (start_of x) items ended s w in
    flags_said o x items r.0.reader (lexed o (start_of x) items r.0 r.1).reached

all_flagged : (o : OptionsData) (x : List ℕ) (items : List Item) (ended : Bool) (s : ReaderState) →
    ReadWhole o (reader_start (start_of x)) items ended s → AllItems o x (flagged items) ended s
all_flagged o x items ended s w = record {
  stand =
      subst (λ (is : List Item). ReadWhole o (reader_start (start_of x)) is ended s) (sym (items_same items)) w;
  flags = whole_flags o x items ended s w;
}

same_flags : (o : OptionsData) (x : List ℕ) (items : List FlaggedItem) (ended : Bool) (s : ReaderState) →
    AllItems o x items ended s → flagged (items_of items) ≡ items
same_flags o x items ended s a =
    flags_once o x [] (flagged (items_of items)) items (items_same (items_of items))
    (whole_flags o x (items_of items) ended s a.stand) a.flags

-- where reading stopped, a key is held possible exactly with what may still begin one
decided : (o : OptionsData) (x : List ℕ) (items : List FlaggedItem) (ended : Bool) (s : ReaderState) →
    AllItems o x items ended s → ended ≡ false → (n : ℕ) → Decides (is_possible n s.laid) (MayBegin o x items s n)
decided o x items ended s a e n =
    possible_decided o x (items_of items) s
    (subst (λ (v : Bool). ReadWhole o (reader_start (start_of x)) (items_of items) v s) e a.stand) n

-- ---- comments that are too many

none_among : (o : OptionsData) (x : List ℕ) (items : List Item) (ended : Bool) (s : ReaderState) →
    AllItems o x (flagged items) ended s → NoneTold o ended s.laid items → NoneAmong o x ended s (flagged items)
none_among o x items ended s a n =
    λ e given b. n e given (items_before ended s.laid (MayBegin o x (flagged items) s)
    (decided o x (flagged items) ended s a) b)

none_told : (o : OptionsData) (x : List ℕ) (items : List FlaggedItem) (ended : Bool) (s : ReaderState) →
    AllItems o x items ended s → NoneAmong o x ended s items → NoneTold o ended s.laid (items_of items)
none_told o x items ended s a n =
    λ e given b. n e given (told_before ended s.laid (MayBegin o x items s) (decided o x items ended s a)
    (subst (λ (fs : List FlaggedItem). ItemsBefore ended s.laid fs given) (same_flags o x items ended s a) b))

front_as : (l : Laid) {fs gs : List FlaggedItem} {front : List Flagged} → fs ≡ gs →
    SettledFront l (lexemes_flagged gs) front → SettledFront l (lexemes_flagged fs) front
front_as l {front = front} e s = subst (λ (fs : List FlaggedItem). SettledFront l (lexemes_flagged fs) front) (sym e) s

-- ---- each way

lexemes_declared : (o : OptionsData) (x : List ℕ) (f : Fault) → OfLexemes o x f → LexemesCause o x f
lexemes_declared o x f (to_end {items = items} {s = s} w c n e) =
    let a = all_flagged o x items true s w in
    at_end a c (none_among o x items true s a n) e
lexemes_declared o x f (before_stop {items = items} {s = s} front w t c n e) =
    let a = all_flagged o x items false s w in
    at_stop front a (front_certain s.laid (MayBegin o x (flagged items) s)
    (decided o x (flagged items) false s a refl) t) c (none_among o x items false s a n) e

reading_declared : (o : OptionsData) (x : List ℕ) (f : Fault) → OfReading o x f → ReadingCause o x f
reading_declared o x f c =
    let a = all_flagged o x c.items false c.state c.whole in
    record {
      items = flagged c.items;
      state = c.state;
      all = a;
      front = c.front;
      certain =
          front_certain c.state.laid (MayBegin o x (flagged c.items) c.state)
          (decided o x (flagged c.items) false c.state a refl) c.settled;
      viable = c.viable;
      refused = c.refused;
      unnamed = c.unnamed;
      none = none_among o x c.items false c.state a c.none;
    }

comments_declared : (o : OptionsData) (x : List ℕ) (f : Fault) → OfComments o x f → CommentsCause o x f
comments_declared o x f c =
    let a = all_flagged o x c.items c.ended c.state c.whole in
    record {
      asked = c.asked;
      items = flagged c.items;
      state = c.state;
      ended = c.ended;
      all = a;
      given = c.given;
      before =
          told_before c.ended c.state.laid (MayBegin o x (flagged c.items) c.state)
          (decided o x (flagged c.items) c.ended c.state a) c.before;
      front = c.front;
      many = c.many;
      first = c.first;
    }

pub cause_declared : (o : OptionsData) (x : List ℕ) (f : Fault) → WholeCause o x f → DeclaredCause o x f
cause_declared o x f (inl c) = inl (lexemes_declared o x f c)
cause_declared o x f (inr (inl c)) = inr (inl (reading_declared o x f c))
cause_declared o x f (inr (inr c)) = inr (inr (comments_declared o x f c))

lexemes_caused : (o : OptionsData) (x : List ℕ) (f : Fault) → LexemesCause o x f → OfLexemes o x f
lexemes_caused o x f (at_end {items = items} {s = s} {k = k} {x = y} a c n e) =
    let same = same_flags o x items true s a in
    to_end a.stand
    (subst (λ (fs : List FlaggedItem). WholeFault o (map terminal_seen (lexemes_flagged fs)) k y) (sym same) c)
    (none_told o x items true s a n) e
lexemes_caused o x f (at_stop {items = items} {s = s} front a t c n e) =
    let same = same_flags o x items false s a in
    before_stop front a.stand
    (front_as s.laid same (front_settled s.laid (MayBegin o x items s) (decided o x items false s a refl) t)) c
    (none_told o x items false s a n) e

reading_caused : (o : OptionsData) (x : List ℕ) (f : Fault) → ReadingCause o x f → OfReading o x f
reading_caused o x f c =
    let same = same_flags o x c.items false c.state c.all in
    record {
      items = items_of c.items;
      state = c.state;
      whole = c.all.stand;
      front = c.front;
      settled =
          front_as c.state.laid same (front_settled c.state.laid (MayBegin o x c.items c.state)
          (decided o x c.items false c.state c.all refl) c.certain);
      viable = c.viable;
      refused = c.refused;
      unnamed = c.unnamed;
      none = none_told o x c.items false c.state c.all c.none;
    }

comments_caused : (o : OptionsData) (x : List ℕ) (f : Fault) → CommentsCause o x f → OfComments o x f
comments_caused o x f c =
    let same = same_flags o x c.items c.ended c.state c.all in
    record {
      asked = c.asked;
      items = items_of c.items;
      state = c.state;
      ended = c.ended;
      whole = c.all.stand;
      given = c.given;
      before =
          subst (λ (fs : List FlaggedItem). ItemsBefore c.ended c.state.laid fs c.given) (sym same)
          (items_before c.ended c.state.laid (MayBegin o x c.items c.state)
          (decided o x c.items c.ended c.state c.all) c.before);
      front = c.front;
      many = c.many;
      first = c.first;
    }

pub declared_cause : (o : OptionsData) (x : List ℕ) (f : Fault) → DeclaredCause o x f → WholeCause o x f
declared_cause o x f (inl c) = inl (lexemes_caused o x f c)
declared_cause o x f (inr (inl c)) = inr (inl (reading_caused o x f c))
declared_cause o x f (inr (inr c)) = inr (inr (comments_caused o x f c))

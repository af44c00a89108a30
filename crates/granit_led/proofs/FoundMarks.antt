-- A document mark of a sort that is found among what was read is the one that waits, and reading stands behind it.
use Rattle.std.proofs.Common.{◌≡◌, Bool, true, false, List, [], ◌∷◌, ◌++◌, Option, Some, None, sym, ap, subst, ◌∙◌}
use Rattle.std.proofs.lemmas.Bool.{or_parts}
use Rattle.granit_lexemes.specs.Here.{Here}
use Rattle.granit_lexemes.specs.Lexeme.{Lexeme, LexemeKind, Item, OfLexeme, OfComment}
use Rattle.granit_machine.specs.Lexing.{FlaggedItem}
use Rattle.granit_machine.specs.Reader.{LexState}
use Rattle.granit_restart.proofs.MarkLaws.{items}
use Rattle.granit_restart.specs.Restart.{boundary_of, cursor_at, is_boundary, lexeme_or, read_boundary}
use Rattle.granit_led.proofs.MarkWaits.{any_of, none_waits, of_sort, one_waits, WaitsLast}

-- without a refused read the cursor is where reading stands
pub cursor_there : (stop : Here) (l : LexState) → l.fault ≡ None → cursor_at stop l ≡ l.reader.here
cursor_there stop l e =
    ap (λ (f : Option _). Rattle.std.specs.Prelude.if◌then◌else◌ {A = Here} (Rattle.std.specs.Prelude.is_some f) stop
    l.reader.here) e

module _ (has : LexemeKind → Bool) (Stands : Here → Lexeme → Type 0) where
  abbrev sort_here : Item → Bool
  sort_here i = of_sort has Stands i

  abbrev any_here : List Item → Bool
  any_here is = any_of has Stands is

  found_or : (b : Bool) (x l : Lexeme) (later : Option Lexeme) → has x.kind ≡ false
      → (later ≡ Some l → has l.kind ≡ false) → lexeme_or b x later ≡ Some l → has l.kind ≡ false
  found_or true x l later bare more e = let same : x ≡ l = cc in subst (λ (y : Lexeme). has y.kind ≡ false) same bare
  found_or false x l later bare more e = more e

  found_of : (h : Here) (i : Item) (l : Lexeme) (later : Option Lexeme) → sort_here i ≡ false
      → (later ≡ Some l → has l.kind ≡ false) → boundary_of h i later ≡ Some l → has l.kind ≡ false
  found_of h (OfLexeme x) l later bare more e = found_or (is_boundary h x.kind x) x l later bare more e
  found_of h (OfComment c) l later bare more e = more e

  -- none of them is one
  found_other : (h : Here) (q : List FlaggedItem) (l : Lexeme) → any_here (items q) ≡ false
      → read_boundary h q ≡ Some l → has l.kind ≡ false
  found_other h [] l bare e = absurd (cc)
  found_other h (i ∷ is) l bare e = found_of h i.item l (read_boundary h is)
      (or_parts (sort_here i.item) (any_here (items is)) bare).0
      (found_other h is l (or_parts (sort_here i.item) (any_here (items is)) bare).1) e

  last_or : (b : Bool) (x l : Lexeme) → lexeme_or b x None ≡ Some l → x ≡ l
  last_or true x l e = cc
  last_or false x l e = absurd (cc)

  -- or the last one is
  behind_or : (b : Bool) (y x l : Lexeme) (later : Option Lexeme) → has y.kind ≡ false → has l.kind ≡ true
      → (later ≡ Some l → x ≡ l) → lexeme_or b y later ≡ Some l → x ≡ l
  behind_or true y x l later bare begins more e =
      absurd (let same : y ≡ l = cc in
      let false_true : has l.kind ≡ false = subst (λ (y : Lexeme). has y.kind ≡ false) same bare in cc)
  behind_or false y x l later bare begins more e = more e

  behind_of : (h : Here) (i : Item) (x l : Lexeme) (later : Option Lexeme) → sort_here i ≡ false → has l.kind ≡ true
      → (later ≡ Some l → x ≡ l) → boundary_of h i later ≡ Some l → x ≡ l
  behind_of h (OfLexeme y) x l later bare begins more e =
      behind_or (is_boundary h y.kind y) y x l later bare begins more e
  behind_of h (OfComment c) x l later bare begins more e = more e

  found_last : (h : Here) (front : List FlaggedItem) (x l : Lexeme) (flag : Bool) → any_here (items front) ≡ false
      → has l.kind ≡ true
      → read_boundary h (front ++ record { item = OfLexeme x; begins_key = flag } ∷ []) ≡ Some l → x ≡ l
  found_last h [] x l flag bare begins e = last_or (is_boundary h x.kind x) x l e
  found_last h (g ∷ gs) x l flag bare begins e =
      behind_of h g.item x l (read_boundary h (gs ++ record { item = OfLexeme x; begins_key = flag } ∷ []))
      (or_parts (sort_here g.item) (any_here (items gs)) bare).0 begins
      (found_last h gs x l flag (or_parts (sort_here g.item) (any_here (items gs)) bare).1 begins) e

  pub record Waited (l : LexState) (x : Lexeme) : Type 0 where
    pub stands : Stands l.reader.here x
    pub fault : l.fault ≡ None

  pub found_waiting : (h : Here) (l : LexState) (q : List FlaggedItem) (x : Lexeme) → WaitsLast has Stands l q
      → read_boundary h q ≡ Some x → has x.kind ≡ true → Waited l x
  found_waiting h l q x (none_waits bare) e begins = absurd (let other = found_other h q x bare e in cc)
  found_waiting h l q x (one_waits w fault) e begins =
      let same : w.lexeme ≡ x = found_last h w.front w.lexeme x w.flag w.before begins
      (ap (read_boundary h) (sym w.are) ∙ e) in
      record { stands = subst (Stands l.reader.here) same w.stands; fault = fault }

  -- where the cursor stands
  pub cursor_waiting : (stop : Here) (l : LexState) (q : List FlaggedItem) (x : Lexeme) → WaitsLast has Stands l q
      → read_boundary (cursor_at stop l) q ≡ Some x → has x.kind ≡ true → Stands (cursor_at stop l) x
  cursor_waiting stop l q x last e is =
      let w = found_waiting (cursor_at stop l) l q x last e is in
      subst (λ (h : Here). Stands h x) (sym (cursor_there stop l w.fault)) w.stands

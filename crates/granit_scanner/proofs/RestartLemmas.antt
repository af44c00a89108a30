-- The first boundary among items, and the last lexeme.
use Rattle.std.proofs.Common.{◌≡◌, ℕ, zero, suc, ◌≤◌, Bool, true, false, List, [], ◌∷◌, drop, length, Option, Some}
use Rattle.std.proofs.Common.{None, refl, sym, ap, subst, ◌∙◌, arith}
use Rattle.std.proofs.lemmas.Option.{same_Some}
use Rattle.std.specs.List.{slice_get}
use Rattle.granit_base.specs.Place.{Mark, Unread}
use Rattle.granit_boundary.specs.Found.{FoundAs}
use Rattle.granit_boundary.specs.declared.boundary.Boundary.TheVariants as found
use Rattle.granit_cursor.specs.Reading.{Stands}
use Rattle.granit_lexemes.specs.Here.{Here, mark_of}
use Rattle.granit_lexemes.specs.Lexeme.{DocumentStart, Lexeme, Item, OfLexeme, OfComment}
use Rattle.granit_lexemes.specs.Moves.{steps}
use Rattle.granit_machine.specs.Laid.{Laid, laid_start}
use Rattle.granit_machine.specs.Lexing.{FlaggedItem}
use Rattle.granit_machine.specs.ReaderState.{lexeme_to}
use Rattle.granit_restart.specs.Boundary.{AtStart, AtTextEnd, Boundary, PastEnd, next_boundary}
use Rattle.granit_restart.specs.Header.{ends_in_directive, last_is_directive}
use Rattle.granit_restart.specs.Restart.{anew, at_boundary, at_found, behind_fault_at, boundary_of, is_boundary}
use Rattle.granit_restart.specs.Restart.{laid_anew, lexeme_or, read_boundary, start_found}
use Rattle.granit_scanner.specs.Restarts.{Restarts, finds_start, finds_start_by, is_start_in_text}
use Rattle.granit_scanner.specs.Scans.{KnownBy, Scanning}
use Rattle.granit_steps.specs.Steps.{StepState, unflagged}

-- nothing waits
pub read_none : (h : Here) (q : List FlaggedItem) → None ≡ slice_get q 0 → None ≡ read_boundary h q
read_none h [] e = refl
read_none h (i ∷ is) e = absurd (cc)

-- an item that is one is one whatever comes behind it, and one that is none is passed
found_or : (b : Bool) (l x : Lexeme) (later : Option Lexeme) → lexeme_or b l None ≡ Some x
    → lexeme_or b l later ≡ Some x
found_or true l x later e = e
found_or false l x later e = absurd (cc)

passed_or : (b : Bool) (l : Lexeme) (later : Option Lexeme) → lexeme_or b l None ≡ None → lexeme_or b l later ≡ later
passed_or true l later e = absurd (cc)
passed_or false l later e = refl

pub found_in : (h : Here) (i : Item) (x : Lexeme) (later : Option Lexeme) → boundary_of h i None ≡ Some x
    → boundary_of h i later ≡ Some x
found_in h (OfComment c) x later e = absurd (cc)
found_in h (OfLexeme l) x later e = found_or (is_boundary h l.kind l) l x later e

pub passed_in : (h : Here) (i : Item) (later : Option Lexeme) → boundary_of h i None ≡ None
    → boundary_of h i later ≡ later
passed_in h (OfComment c) later e = refl
passed_in h (OfLexeme l) later e = passed_or (is_boundary h l.kind l) l later e

-- the oldest item is one
pub read_here : (h : Here) (q : List FlaggedItem) (i : FlaggedItem) (x : Lexeme) → Some i ≡ slice_get q 0
    → Some x ≡ boundary_of h i.item None → Some x ≡ read_boundary h q
read_here h [] i x e is = absurd (cc)
read_here h (j ∷ js) i x e is =
    sym (found_in h j.item x (read_boundary h js)
    (ap (λ (f : FlaggedItem). boundary_of h f.item None) (sym (same_Some i j e)) ∙ sym is))

-- it is none
pub read_past : (h : Here) (q : List FlaggedItem) (i : FlaggedItem) → Some i ≡ slice_get q 0
    → None ≡ boundary_of h i.item None → read_boundary h (drop 1 q) ≡ read_boundary h q
read_past h [] i e is = absurd (cc)
read_past h (j ∷ js) i e is =
    sym (passed_in h j.item (read_boundary h js)
    (ap (λ (f : FlaggedItem). boundary_of h f.item None) (sym (same_Some i j e)) ∙ sym is))

-- a state goes on by what was found
pub goes_by : (h : Here) (s : StepState) (r : Option Lexeme) → read_boundary h s.queue ≡ r
    → behind_fault_at h s ≡ at_found h s r
unfolding behind_fault_at
goes_by h s r e = ap (at_found h s) e

-- ---- the last lexeme among items

-- no item stands there
pub last_none : (b : Bool) (q : List FlaggedItem) (n : ℕ) → None ≡ slice_get q n
    → ends_in_directive b (drop (suc n) q) ≡ ends_in_directive b (drop n q)
last_none b [] zero e = refl
last_none b [] (suc n) e = refl
last_none b (i ∷ is) zero e = absurd (cc)
last_none b (i ∷ is) (suc n) e = last_none b is n e

-- one item on
pub last_on : (b : Bool) (q : List FlaggedItem) (n : ℕ) (i : FlaggedItem) → Some i ≡ slice_get q n
    → ends_in_directive (last_is_directive b i.item) (drop (suc n) q) ≡ ends_in_directive b (drop n q)
last_on b [] zero i e = absurd (cc)
last_on b [] (suc n) i e = absurd (cc)
last_on b (j ∷ js) zero i e =
    ap (λ (f : FlaggedItem). ends_in_directive (last_is_directive b f.item) js) (same_Some i j e)
last_on b (j ∷ js) (suc n) i e = last_on b js n i e

pub last_all : (b : Bool) (q : List FlaggedItem) (n : ℕ) → length q ≤ n → b ≡ ends_in_directive b (drop n q)
last_all b [] zero all = refl
last_all b [] (suc n) all = refl
last_all b (i ∷ is) zero all = absurd (omega (arith, all))
last_all b (i ∷ is) (suc n) all = last_all b is n (omega (arith, all))

-- ---- nothing is open any more

pub same_anew : (may_prefix : Bool) (a b : Laid) → a.number ≡ b.number → laid_anew may_prefix a ≡ laid_anew may_prefix b
same_anew may_prefix a b e =
    ap (λ n. record laid_start { number = suc n; may_prefix = may_prefix }) e

-- a scanner that begins anew is known to stand there
pub begun_anew : {I : Type 0} (unread : I → Unread → Type 0) (n : Scanning I) (may_prefix : Bool) (q : List FlaggedItem)
    (h : Here) (s : StepState) (starts : Bool) → Stands unread n.cursor h
    → n.laid ≡ laid_anew may_prefix s.reading.reader.laid → n.queue ≡ q → n.ended ≡ false → n.fault ≡ None
    → Restarts unread (starts, anew may_prefix q h s) n starts
begun_anew unread n may_prefix q h s starts stands laid queue ended fault =
    let x = anew may_prefix q h s in (
      refl,
      subst (λ f. KnownBy unread f n x.reading x.queue) (sym fault)
          ((stands, sym laid), sym ended, refl, sym queue),
    )

-- ---- a `---` in the text

pub start_is : (k : Here) (s : StepState) (view : Lexeme) (number : ℕ) (end : Mark) (laid : Laid)
    → view ≡ lexeme_to false DocumentStart end k laid → end ≡ mark_of (steps 3 k)
    → laid ≡ laid_anew false s.reading.reader.laid → number ≡ s.reading.reader.laid.number
    → unflagged (OfLexeme (record view { number = number })) ≡ unflagged (OfLexeme (start_found k s))
start_is k s view number end laid is ends anew counted = rw (is, ends, anew, counted) refl

module _ {I : Type 0} (unread : I → Unread → Type 0) (n : Scanning I) (s : StepState) where
  abbrev StartsAnew : Here → Type 0
  StartsAnew k =
      Restarts unread (true, anew false (unflagged (OfLexeme (start_found k s)) ∷ []) (steps 3 k) s) n true

  -- where that was found a `---` is the boundary
  pub start_anew : (Lands : Here → Type 0) (mark : Mark) (begins_line : Bool) (b : Boundary)
      → FoundAs Lands (found.Start mark begins_line) b
      → ((k : Here) → mark ≡ mark_of k → begins_line ≡ k.begins_line → Lands (steps 3 k) → StartsAnew k)
      → Restarts unread (at_boundary s b) n true
  start_anew Lands mark begins_line (AtStart k) there starts = starts k there.0 there.1 there.2
  start_anew Lands mark begins_line (PastEnd k) there starts = absurd there
  start_anew Lands mark begins_line (AtTextEnd k) there starts = absurd there

-- ---- what makes a lexeme

-- what isn't a `---` of the text is found as something else
pub no_start : (Lands : Here → Type 0) (mark : Mark) (begins_line : Bool) (b : Boundary)
    → FoundAs Lands (found.Start mark begins_line) b → is_start_in_text b ≡ false → ⊥
no_start Lands mark begins_line (AtStart k) there none = absurd cc
no_start Lands mark begins_line (PastEnd k) there none = there
no_start Lands mark begins_line (AtTextEnd k) there none = there

-- nothing that was read is a boundary, so it is told by the text
pub text_tells : (h : Here) (q : List FlaggedItem) → None ≡ read_boundary h q → finds_start h q ≡ false
    → is_start_in_text (next_boundary h) ≡ false
text_tells h q none free = ap (λ (r : Option Lexeme). finds_start_by r (next_boundary h)) none ∙ free

-- Behind a fault less is left, or nothing but the end of the text.
use Rattle.std.proofs.Common.{◌≡◌, ℕ, suc, ◌+◌, ◌*◌, ◌<◌, ◌≤◌, ◌⊎◌, inl, inr, Bool, true, false, List, [], ◌∷◌}
use Rattle.std.proofs.Common.{length, Option, Some, None, is_some, Ok, refl, sym, ap, ◌∙◌, arith}
use Rattle.std.specs.Prelude.{if◌then◌else◌}
use Rattle.granit_chains.proofs.BoundaryLeft.{boundary_left, LeftAt, onward_len}
use Rattle.granit_chains.proofs.StartWaits.{led_bare}
use Rattle.granit_chains.proofs.Stuck.{item_refused, read_refused, Stuck}
use Rattle.granit_chains.proofs.TextOver.{over_tells}
use Rattle.granit_chains.specs.Chains.{is_open_parser, state_left, left_unread}
use Rattle.granit_error.specs.OptionsData.{OptionsData}
use Rattle.granit_lexemes.specs.Here.{Here, text_len}
use Rattle.granit_lexemes.specs.Lexeme as lexemes
use Rattle.granit_lexemes.specs.Lexeme.{Item, Lexeme, LexemeKind, OfComment, OfLexeme}
use Rattle.granit_lexemes.specs.Onward.{Onward}
use Rattle.granit_lexemes.specs.Outcome.{Fault}
use Rattle.granit_machine.specs.Lexing.{FlaggedItem}
use Rattle.granit_machine.specs.Reader.{LexState}
use Rattle.granit_restart.specs.Boundary.{AtStart, AtTextEnd, Boundary, next_boundary, PastEnd}
use Rattle.granit_restart.specs.Following.{document_follows}
use Rattle.granit_restart.specs.Restart.{anew, at_boundary, at_found, at_lexeme, behind_fault, behind_fault_at}
use Rattle.granit_restart.specs.Restart.{boundary_of, cursor_at, is_boundary, lexeme_or, read_boundary}
use Rattle.granit_alone.proofs.EndMarks.{led_holds}
use Rattle.granit_alone.proofs.EndMarks.{cursor_there, found_waiting}
use Rattle.granit_alone.proofs.EndMarks.{none_waits}
use Rattle.granit_alone.proofs.EndMarks.{is_start, starts}
use Rattle.granit_alone.specs.Behind.{StartRead}
use Rattle.granit_alone.specs.Behind.{Led}
use Rattle.granit_steps.proofs.Futures.{Ready}
use Rattle.granit_steps.specs.Steps.{StepState}

-- no document is told of
abbrev pub TellsNone : OptionsData → StepState → Type 0
TellsNone o t = (room : ℕ) → document_follows o room t ≡ Ok false

abbrev pub RestartsLess : OptionsData → StepState → Bool × StepState → Type 0
RestartsLess o s x = (state_left x.1 < state_left s) ⊎ ((x.0 ≡ false) × TellsNone o x.1)

-- ---- where reading stands

unread_by : (l : LexState) (b c : Bool) → b ≡ false
    → 9 * suc (text_len l.reader.here) ≤ (if b then 0 else 9 * suc (text_len l.reader.here) + (if c then 0 else 1))
unread_by l true c e = absurd (cc)
unread_by l false true e = omega arith
unread_by l false false e = omega arith

unread_least : (l : LexState) → l.ended ≡ false → 9 * suc (text_len l.reader.here) ≤ left_unread l
unread_least l e = unread_by l l.ended (is_some l.fault) e

unread_whole : (l : LexState) → l.ended ≡ false → l.fault ≡ None
    → left_unread l ≡ 9 * suc (text_len l.reader.here) + 1
unread_whole l e none =
    ap (λ b. if b then 0 else 9 * suc (text_len l.reader.here) + (if is_some l.fault then 0 else 1)) e
    ∙ ap (λ (f : Option Fault). 9 * suc (text_len l.reader.here) + (if is_some f then 0 else 1)) none

cursor_by : (b : Bool) (stop here : Here) → Onward here stop → text_len (if b then stop else here) ≤ text_len here
cursor_by true stop here on = onward_len here stop on
cursor_by false stop here on = omega arith

cursor_len : (stop : Here) (l : LexState) → Onward l.reader.here stop
    → text_len (cursor_at stop l) ≤ text_len l.reader.here
cursor_len stop l on = cursor_by (is_some l.fault) stop l.reader.here on

-- where reading has ended nothing is left
cursor_over : (o : OptionsData) (stop : Here) (s : StepState) → Led o s → s.reading.ended ≡ true
    → (cursor_at stop s.reading).unread.text ≡ []
cursor_over o stop s led ended =
    let holds = led_holds o s led in
    let known : Ready s.reading s.queue = holds.sound.ready in
    ap (λ (h : Here). h.unread.text) (cursor_there stop s.reading (known.one_end ended)) ∙ holds.ends.left ended

goes_on : (b : Bool) (l : LexState) (h : Here) → l.ended ≡ b → 1 ≤ text_len h
    → (l.ended ≡ true → h.unread.text ≡ []) → l.ended ≡ false
goes_on true l h e some over =
    absurd (let n : text_len h ≡ 0 = ap (λ (text : List ℕ). length text) (over e) in omega (arith, n, some))
goes_on false l h e some over = e

-- ---- at a boundary of the text

text_restarts : (o : OptionsData) (s : StepState) (h : Here) (b : Boundary) → LeftAt h b
    → text_len h ≤ text_len s.reading.reader.here → (s.reading.ended ≡ true → h.unread.text ≡ [])
    → RestartsLess o s (at_boundary s b)
text_restarts o s h (AtStart k) fewer less over =
    let going = goes_on s.reading.ended s.reading h refl (omega (arith, fewer)) over in
    let m = unread_least s.reading going in inl (omega (arith, fewer, less, m))
text_restarts o s h (PastEnd k) fewer less over =
    let going = goes_on s.reading.ended s.reading h refl (omega (arith, fewer)) over in
    let m = unread_least s.reading going in inl (omega (arith, fewer, less, m))
text_restarts o s h (AtTextEnd k) none less over = inr (refl, λ room. over_tells o false k s room none)

-- ---- at a mark that was read

some_wait : (h : Here) (q : List FlaggedItem) (l : Lexeme) → read_boundary h q ≡ Some l → 1 ≤ length q
some_wait h [] l e = absurd (cc)
some_wait h (i ∷ is) l e = omega arith

-- behind a `...` or the end nothing waits
bare_restarts : (o : OptionsData) (s : StepState) (h : Here) (may ended : Bool) → s.reading.ended ≡ ended
    → 1 ≤ length s.queue → text_len h ≤ text_len s.reading.reader.here
    → (s.reading.ended ≡ true → h.unread.text ≡ [])
    → RestartsLess o s (false, anew may [] h s)
bare_restarts o s h may true e some less over = inr (refl, λ room. over_tells o may h s room (over e))
bare_restarts o s h may false e some less over =
    let m = unread_least s.reading e in inl (omega (arith, some, less, m))

alone_or : (b : Bool) (x l : Lexeme) → lexeme_or b x None ≡ Some l → x ≡ l
alone_or true x l e = cc
alone_or false x l e = absurd (cc)

alone_in : (h : Here) (i : Item) (l : Lexeme) → boundary_of h i None ≡ Some l → is_start l.kind ≡ true
    → starts i ≡ true
alone_in h (OfLexeme x) l e start =
    ap (λ (y : Lexeme). is_start y.kind) (alone_or (is_boundary h x.kind x) x l e) ∙ start
alone_in h (OfComment c) l e start = absurd (cc)

-- what was refused goes, or the document that was open
stuck_more : (s : StepState) (h : Here) (l : Lexeme) → Stuck s → s.reading.fault ≡ None
    → read_boundary h s.queue ≡ Some l → is_start l.kind ≡ true
    → 5 ≤ 4 * length s.queue + (if is_open_parser s.parser then 1 else 0)
stuck_more s h l (item_refused i [] queue opens) none e start =
    let alone = alone_in h i.item l (ap (read_boundary h) (sym queue) ∙ e) start in
    let n : length s.queue ≡ 1 = ap (λ (q : List FlaggedItem). length q) queue in
    let m : ◌≡◌ {A = ℕ} (if is_open_parser s.parser then 1 else 0) 1 = ap (λ b. if b then 1 else 0) (opens alone) in
    omega (arith, n, m)
stuck_more s h l (item_refused i (j ∷ js) queue opens) none e start =
    let n : length s.queue ≡ suc (suc (length js)) = ap (λ (q : List FlaggedItem). length q) queue in omega (arith, n)
stuck_more s h l (read_refused some) none e start =
    absurd (let f : false ≡ true = sym (ap (λ (x : Option Fault). is_some x) none) ∙ some in cc)

start_open : (o : OptionsData) (s : StepState) (h : Here) (l : Lexeme) (f : Fault) (ended : Bool) → Led o s
    → s.reading.ended ≡ ended → read_boundary h s.queue ≡ Some l → is_start l.kind ≡ true → s.reading.ended ≡ false
start_open o s h l f true led is e start =
    let elsewhere : LexState = record { reader = s.reading.reader; ended = true; fault = Some f } in
    let w = found_waiting is_start StartRead h elsewhere s.queue l (none_waits (led_bare o s led is)) e start in
    absurd (let none : Some f ≡ None = w.fault in cc)
start_open o s h l f false led is e start = is

start_restarts : (o : OptionsData) (s : StepState) (h : Here) (l : Lexeme) (f : Fault) → Led o s → Stuck s
    → read_boundary h s.queue ≡ Some l → is_start l.kind ≡ true → text_len h ≤ text_len s.reading.reader.here
    → (t : StepState) → state_left t ≡ 9 * suc (text_len h) + 5 → state_left t < state_left s
start_restarts o s h l f led st e start less t is =
    let w = found_waiting is_start StartRead h s.reading s.queue l (led_holds o s led).last e start in
    let going = start_open o s h l f s.reading.ended led refl e start in
    let whole = unread_whole s.reading going w.fault in
    let more = stuck_more s h l st w.fault e start in
    omega (arith, is, whole, more, less)

module _ (o : OptionsData) (f : Fault) (stop : Here) (s : StepState) (led : Led o s) (st : Stuck s)
    (on : Onward s.reading.reader.here stop) where
  abbrev Cursor : Here
  Cursor = cursor_at stop s.reading

  lexeme_restarts : (kind : LexemeKind) (l : Lexeme) → l.kind ≡ kind → read_boundary Cursor s.queue ≡ Some l
      → RestartsLess o s (at_lexeme Cursor s kind l)
  lexeme_restarts lexemes.DocumentStart l k e =
      inl (start_restarts o s Cursor l f led st e (ap is_start k) (cursor_len stop s.reading on)
      (at_lexeme Cursor s lexemes.DocumentStart l).1 (omega arith))
  lexeme_restarts lexemes.DocumentEnd l k e =
      bare_restarts o s Cursor true s.reading.ended refl (some_wait Cursor s.queue l e)
      (cursor_len stop s.reading on) (cursor_over o stop s led)
  lexeme_restarts kind l k e =
      bare_restarts o s Cursor false s.reading.ended refl (some_wait Cursor s.queue l e)
      (cursor_len stop s.reading on) (cursor_over o stop s led)

  found_restarts : (r : Option Lexeme) → read_boundary Cursor s.queue ≡ r → RestartsLess o s (at_found Cursor s r)
  found_restarts (Some l) e = lexeme_restarts l.kind l refl e
  found_restarts None e =
      text_restarts o s Cursor (next_boundary Cursor) (boundary_left Cursor) (cursor_len stop s.reading on)
      (cursor_over o stop s led)

  pub restarts : RestartsLess o s (behind_fault stop s)
  unfolding behind_fault_at
  restarts = found_restarts (read_boundary Cursor s.queue) refl

-- The `---` that is found among what was read is the one that waits, and reading stands behind it.
use Rattle.std.proofs.Common.{◌||◌, ◌≡◌, ℕ, Bool, true, false, List, [], ◌∷◌, Option, Some, None}
use Rattle.std.proofs.Common.{Ok, Err, refl, ap, subst, ◌∙◌}
use Rattle.std.proofs.lemmas.Bool.{or_right}
use Rattle.granit_error.specs.OptionsData.{OptionsData}
use Rattle.granit_lexemes.specs.Here.{Here}
use Rattle.granit_lexemes.specs.Lexeme.{Lexeme, LexemeKind, Item, OfLexeme, OfComment}
use Rattle.granit_lexemes.specs.Lexeme as lexemes
use Rattle.granit_lexemes.specs.Moves.{steps}
use Rattle.granit_machine.specs.Lexing.{FlaggedItem}
use Rattle.granit_restart.proofs.BoundaryLaws.{finds_next}
use Rattle.granit_restart.proofs.MarkLaws.{Sound, TurnSound, items, restart_sound, turn_sound}
use Rattle.granit_restart.specs.Boundary.{Boundary, AtStart, PastEnd, AtTextEnd, is_separated, next_boundary}
use Rattle.granit_restart.specs.NextBoundary.{BoundaryStands, stands_start, stands_end, stands_text_end, NextBoundary}
use Rattle.granit_restart.specs.NextBoundary.{next_here, next_behind}
use Rattle.granit_restart.specs.Restart.{at_boundary, at_found, at_lexeme, behind_fault, behind_fault_at, boundary_of}
use Rattle.granit_restart.specs.Restart.{cursor_at}
use Rattle.granit_restart.specs.Restart.{is_boundary, lexeme_or, read_boundary, start_found, without_columns}
use Rattle.granit_steps.specs.Steps.{StepState, Turn, step_turn}
use Rattle.granit_machine.specs.Reader.{is_end_kind}
use Rattle.granit_steps.proofs.Futures.{Ready}
use Rattle.granit_led.proofs.EndWaits.{has_end}
use Rattle.granit_led.proofs.EndWaits.{is_end_item}
use Rattle.granit_led.proofs.EndWaits.{EndLast, TurnEnds, not_ended, turn_ends}
use Rattle.granit_behind.proofs.StartReads.{parted}
use Rattle.granit_led.proofs.FoundMarks.{cursor_there, cursor_waiting}
use Rattle.granit_led.proofs.MarkWaits.{none_waits, one_waits}
use Rattle.granit_led.proofs.StartWaits.{StartLast, TurnLast, turn_last}
use Rattle.granit_led.proofs.StartsRead.{is_start}
use Rattle.granit_led.specs.Found.{StartRead}
use Rattle.granit_led.specs.Led.{Led, led_start, led_on, led_with, led_anew, led_keeping}

-- ---- each state that is led to

pub record Holds (s : StepState) : Type 0 where
  pub sound : Sound s
  pub last : StartLast s.reading s.queue
  pub ends : EndLast s.reading s.queue

-- a `---` in the text
abbrev StartsThere : Boundary → Type 0
StartsThere (AtStart g) =
    (behind : List ℕ) × (g.place.column ≡ 0) × (g.unread.text ≡ 0x2D ∷ 0x2D ∷ 0x2D ∷ behind)
    × (is_separated behind ≡ true)
StartsThere b = Unit {0}

stands_there : (h : Here) (b : Boundary) → BoundaryStands h b → StartsThere b
stands_there h b (stands_start behind column text separated) = (behind, column, text, separated)
stands_there h b (stands_end line behind column text separated finishes ends) = tt
stands_there h b (stands_text_end text) = tt

next_there : (h : Here) (b : Boundary) → NextBoundary h b → StartsThere b
next_there h b (next_here stands) = stands_there h b stands
next_there h b (next_behind other more) = next_there _ b more

text_start : (s : StepState) (g : Here) → StartsThere (AtStart g) → StartRead (steps 3 g) (start_found g s)
text_start s g there = record {
  place = g;
  behind = there.0;
  column = there.1;
  text = there.2;
  parted = parted there.0 there.3;
  kind = refl;
  untailed = refl;
  keyless = refl;
  shown = refl;
  end = refl;
  reaches = refl;
}

boundary_last : (s : StepState) (b : Boundary) → StartsThere b
    → StartLast (at_boundary s b).1.reading (at_boundary s b).1.queue
boundary_last s (AtStart g) there = one_waits (record {
  front = [];
  lexeme = start_found g s;
  flag = false;
  are = refl;
  before = refl;
  stands = text_start s g there;
}) refl
boundary_last s (PastEnd g) there = none_waits refl
boundary_last s (AtTextEnd g) there = none_waits refl

-- columns that it ends are of bare matter
pub start_without : (h : Here) (l : Lexeme) → StartRead h l → StartRead h (without_columns l)
start_without h l r = record {
  place = r.place;
  behind = r.behind;
  column = r.column;
  text = r.text;
  parted = r.parted;
  kind = r.kind;
  untailed = r.untailed;
  keyless = r.keyless;
  shown = r.shown;
  end = r.end;
  reaches = r.reaches;
}

lexeme_last : (h : Here) (s : StepState) (l : Lexeme) (kind : LexemeKind) → (is_start kind ≡ true → StartRead h l)
    → StartLast (at_lexeme h s kind l).1.reading (at_lexeme h s kind l).1.queue
lexeme_last h s l lexemes.DocumentStart stands = one_waits (record {
  front = [];
  lexeme = without_columns l;
  flag = false;
  are = refl;
  before = refl;
  stands = start_without h l (stands refl);
}) refl
lexeme_last h s l lexemes.DocumentEnd stands = none_waits refl
lexeme_last h s l kind stands = none_waits refl

pub cursor_start : (stop : Here) (s : StepState) (l : Lexeme) → Holds s
    → read_boundary (cursor_at stop s.reading) s.queue ≡ Some l → is_start l.kind ≡ true
    → StartRead (cursor_at stop s.reading) l
cursor_start stop s l holds e begins = cursor_waiting is_start StartRead stop s.reading s.queue l holds.last e begins

found_holds : (stop : Here) (s : StepState) (r : Option Lexeme) → Holds s
    → read_boundary (cursor_at stop s.reading) s.queue ≡ r
    → StartLast (at_found (cursor_at stop s.reading) s r).1.reading (at_found (cursor_at stop s.reading) s r).1.queue
found_holds stop s None holds e =
    boundary_last s (next_boundary (cursor_at stop s.reading)) (next_there _ _ (finds_next (cursor_at stop s.reading)))
found_holds stop s (Some l) holds e =
    lexeme_last (cursor_at stop s.reading) s l l.kind (cursor_start stop s l holds e)

pub boundary_ends : (s : StepState) (b : Boundary) → EndLast (at_boundary s b).1.reading (at_boundary s b).1.queue
boundary_ends s (AtStart g) = not_ended _ _ refl refl
boundary_ends s (PastEnd g) = not_ended _ _ refl refl
boundary_ends s (AtTextEnd g) = not_ended _ _ refl refl

pub lexeme_ends : (h : Here) (s : StepState) (l : Lexeme) (kind : LexemeKind) → l.kind ≡ kind
    → EndLast (at_lexeme h s kind l).1.reading (at_lexeme h s kind l).1.queue
lexeme_ends h s l lexemes.DocumentStart e = not_ended _ _ (ap (λ (k : LexemeKind). is_end_kind k || false) e) refl
lexeme_ends h s l lexemes.DocumentEnd e = not_ended _ _ refl refl
lexeme_ends h s l kind e = not_ended _ _ refl refl

pub found_ends : (h : Here) (s : StepState) (r : Option Lexeme)
    → EndLast (at_found h s r).1.reading (at_found h s r).1.queue
found_ends h s None = boundary_ends s (next_boundary h)
found_ends h s (Some l) = lexeme_ends h s l l.kind refl

-- the end of the text that is found was read, and nothing is left there
end_or : (b d : Bool) (x l : Lexeme) (later : Option Lexeme) → is_end_kind l.kind ≡ true
    → (later ≡ Some l → d ≡ true) → lexeme_or b x later ≡ Some l → (is_end_kind x.kind || d) ≡ true
end_or true d x l later end more e =
    let same : x ≡ l = cc in ap (λ (y : Lexeme). is_end_kind y.kind || d) same ∙ ap (λ (b : Bool). b || d) end
end_or false d x l later end more e = or_right (is_end_kind x.kind) d (more e)

end_of : (h : Here) (i : Item) (d : Bool) (l : Lexeme) (later : Option Lexeme) → is_end_kind l.kind ≡ true
    → (later ≡ Some l → d ≡ true) → boundary_of h i later ≡ Some l → (is_end_item i || d) ≡ true
end_of h (OfLexeme x) d l later end more e = end_or (is_boundary h x.kind x) d x l later end more e
end_of h (OfComment c) d l later end more e = more e

end_in : (h : Here) (q : List FlaggedItem) (l : Lexeme) → is_end_kind l.kind ≡ true → read_boundary h q ≡ Some l
    → has_end (items q) ≡ true
end_in h [] l end e = absurd (cc)
end_in h (i ∷ is) l end e = end_of h i.item (has_end (items is)) l (read_boundary h is) end (end_in h is l end) e

pub cursor_end : (stop : Here) (s : StepState) (l : Lexeme) → Holds s
    → read_boundary (cursor_at stop s.reading) s.queue ≡ Some l → is_end_kind l.kind ≡ true
    → (cursor_at stop s.reading).unread.text ≡ []
cursor_end stop s l holds e end =
    let known : Ready s.reading s.queue = holds.sound.ready in
    let over : s.reading.ended ≡ true = holds.ends.waits (end_in (cursor_at stop s.reading) s.queue l end e) in
    ap (λ (h : Here). h.unread.text) (cursor_there stop s.reading (known.one_end over)) ∙ holds.ends.left over

restart_holds : (stop : Here) (s : StepState) → Holds s → Holds (behind_fault stop s).1
unfolding behind_fault_at
restart_holds stop s holds = record {
  sound = restart_sound (cursor_at stop s.reading) s holds.sound;
  last = found_holds stop s (read_boundary (cursor_at stop s.reading) s.queue) holds refl;
  ends = found_ends (cursor_at stop s.reading) s (read_boundary (cursor_at stop s.reading) s.queue);
}

abbrev TurnHolds : Turn → Type 0
TurnHolds (Ok x) = Holds x.1
TurnHolds (Err f) = Unit {0}

step_holds : (o : OptionsData) (s : StepState) (r : Turn) → step_turn o s ≡ r → Holds s → TurnHolds r
step_holds o s (Ok x) e holds = record {
  sound = subst TurnSound e (turn_sound o s holds.sound);
  last = subst TurnLast e (turn_last o s holds.last holds.sound.marked);
  ends = subst TurnEnds e (turn_ends o s holds.ends);
}
step_holds o s (Err f) e holds = tt

pub led_holds : (o : OptionsData) (s : StepState) → Led o s → Holds s
led_holds o s (led_start h) = record {
  sound = record { ready = record { below = tt; old = tt; one_end = λ e. refl }; marked = tt };
  last = none_waits refl;
  ends = not_ended _ _ refl refl;
}
led_holds o s (led_on {s = before} {t = t} {given = given} led e) =
    step_holds o before (Ok (given, t)) e (led_holds o before led)
led_holds o s (led_with {s = before} p es led kept) =
    let holds = led_holds o before led in
    record {
      sound = record { ready = holds.sound.ready; marked = holds.sound.marked };
      last = holds.last;
      ends = holds.ends;
    }
led_holds o s (led_anew {s = before} stop led) = restart_holds stop before (led_holds o before led)
led_holds o s (led_keeping keep led) = led_holds (record o { keep_tags = keep }) s led

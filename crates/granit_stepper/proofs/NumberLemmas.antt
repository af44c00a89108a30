-- Why no anchor gets the greatest number.
use Rattle.std.proofs.Common.{◌≡◌, ◌⊎◌, inl, inr, ℕ, ◌<◌, ◌≤◌, ◌==◌, ◌-◌, ◌^◌, Bool, true, false, List, [], ◌∷◌}
use Rattle.std.proofs.Common.{Option, Some, None, Result, Ok, Err, refl, sym, ap, ◌∙◌, arith}
use Rattle.std.proofs.lemmas.Bool.Decides.{nat_tests}
use Rattle.std.specs.Option.{option_map}
use Rattle.std.specs.Prelude.{nat_le, if◌then◌else◌}
use Rattle.granit_base.specs.Place.{Mark}
use Rattle.granit_base.specs.Written.{Written}
use Rattle.granit_cursor.specs.Reading.{GivesTo}
use Rattle.granit_error.specs.FaultKind.{AnchorCountOverflow}
use Rattle.granit_error.specs.OptionsData.{OptionsData}
use Rattle.granit_error.specs.Refused.{Refused}
use Rattle.granit_lexemes.specs.Lexeme.{Anchor, Item, Lexeme, LexemeKind, OfComment, OfLexeme}
use Rattle.granit_lexemes.specs.Outcome.{Fault, Fails, fault_at, ◌>>=◌}
use Rattle.granit_lexemes.specs.PlainEvent.{PlainEvent}
use Rattle.granit_machine.specs.Frames.{ParserState}
use Rattle.granit_machine.specs.Lexing.{FlaggedItem}
use Rattle.granit_machine.specs.Parser.{feed}
use Rattle.granit_refusals.specs.BeforeTurn.{recounted}
use Rattle.granit_refusals.specs.declared.refusal.Refusal.{Refusal}
use Rattle.granit_scanner.specs.Scans.{line_asked}
use Rattle.granit_stepper.specs.Numbers.{GetsLast, GivesOr, IsNumberless, NoNumberLeft, RefusesNumber, TurnsTo}
use Rattle.granit_stepper.specs.Numbers.{anchor_start, is_anchor, no_turn, one_turn, start_if}
use Rattle.granit_stepper.specs.Numbers.{GetsLast, GivesOr, IsAnchorStart, IsNumberless, NoNumberLeft, RefusesNumber}
use Rattle.granit_stepper.specs.Numbers.{TurnsTo, anchor_start, is_anchor, last_anchor, no_turn, one_turn, start_if}
use Rattle.granit_stepper.proofs.TurnLemmas.{turn_feeds}
use Rattle.granit_steps.specs.Steps.{StepState, Turn, line_behind, may_go, step_turn, with_fed}

-- ---- numbers

pub some_number : 0 < 2 ^ 64 - 1
some_number = omega arith

pub is_last : (n last : ℕ) → (n == last) ≡ true → n ≡ last
is_last n last is = grind (arith, nat_tests)

pub not_last : (n last : ℕ) → n ≤ last → (n == last) ≡ false → n < last
not_last n last within other = grind (arith, nat_tests)

-- ---- turns one behind the other

pub turns_more : {o : OptionsData} {m n t : StepState} → TurnsTo o m n → step_turn o n ≡ Ok (Some [], t) → TurnsTo o m t
turns_more no_turn is = one_turn is no_turn
turns_more (one_turn first rest) is = one_turn first (turns_more rest is)

turns_on : {o : OptionsData} {m n t : StepState} → TurnsTo o m n → TurnsTo o n t → TurnsTo o m t
turns_on no_turn more = more
turns_on (one_turn first rest) more = one_turn first (turns_on rest more)

-- what is so behind turns is so before them
pub left_behind : {o : OptionsData} {m n : StepState} {e : Refused} → TurnsTo o m n → NoNumberLeft o n e
    → NoNumberLeft o m e
left_behind turns l = record {
  before = l.before;
  turns = turns_on turns l.turns;
  anchor = l.anchor;
  name = l.name;
  named = l.named;
  begins_key = l.begins_key;
  behind = l.behind;
  front = l.front;
  after = l.after;
  taken = l.taken;
  gone = l.gone;
  last = l.last;
  refusal = l.refusal;
}

-- ---- an anchor

record IsAnchorAt (i : Item) (start : Mark) : Type 0 where
  anchor : Lexeme
  name : Written
  named : anchor.kind ≡ Anchor name
  item : i ≡ OfLexeme anchor
  begins : start ≡ anchor.shown.start

named_by : (k : LexemeKind) → is_anchor k ≡ true → (name : Written) × (k ≡ Anchor name)
named_by (Anchor name) is = (name, refl)
named_by k is = absurd (cc)

started_by : (b : Bool) (mark start : Mark) → start_if b mark ≡ Some start → (b ≡ true) × (start ≡ mark)
started_by true mark start is = (refl, cc)
started_by false mark start is = absurd (cc)

anchor_at : (i : Item) (start : Mark) → anchor_start i ≡ Some start → IsAnchorAt i start
anchor_at (OfLexeme l) start is =
    let begun = started_by (is_anchor l.kind) l.shown.start start is in
    let name = named_by l.kind begun.0 in
    record { anchor = l; name = name.0; named = name.1; item = refl; begins = begun.1 }
anchor_at (OfComment c) start is = absurd (cc)

-- the last anchor that is told is one
pub tells_last : (count : ℕ) (i : Item) (start : Option Mark) → start ≡ last_anchor count i → IsAnchorStart start i
tells_last count i None is = tt
tells_last count i (Some start) is = on (nat_le (2 ^ 64 - 2) count) is
  where
    on : (b : Bool) → Some start ≡ (if b then anchor_start i else None) → anchor_start i ≡ Some start
    on true is = sym is
    on false is = absurd (cc)

-- ---- the greatest number was given

module _ (o : OptionsData) (x : FlaggedItem × Option ℕ) (p : ParserState) (given : List PlainEvent × ParserState)
    (fed : feed o x.0 x.1 p ≡ Ok given) (last : given.1.count ≡ 2 ^ 64 - 1) where
  gets_last : (start : Mark) (e : Refused) → anchor_start x.0.item ≡ Some start → e ≡ fault_at AnchorCountOverflow start
      → GetsLast o x p e
  gets_last start e is refusal =
      let a = anchor_at x.0.item start is in
      record {
        anchor = a.anchor;
        name = a.name;
        named = a.named;
        item = a.item;
        given = given;
        fed = fed;
        last = last;
        refusal = refusal ∙ ap (fault_at AnchorCountOverflow) a.begins;
      }

  -- memory ran out, or it is an anchor's
  pub numberless : {Y : Type 0} (fails : Result Y Fault) (renumbered : Bool) (start : Option Mark) (e : Refused)
      → IsAnchorStart start x.0.item → IsNumberless renumbered start e
      → Fails e fails ⊎ ((renumbered ≡ true) × GetsLast o x p e)
  numberless fails true (Some start) e is why = inr (refl, gets_last start e is why)
  numberless fails true None e is why = inl (λ other. absurd (other why))
  numberless fails false start e is why = inl (λ other. absurd (other why))

-- ---- turns

-- what takes no item isn't refused so
pub gives_or : {X Y S : Type 0} (view : X → Y) (r : Result X Refused) (Lands : S → Type 0)
    (given : Result (Y × S) Fault) (Refuses : Refused → Type 0) → GivesTo view r Lands given
    → GivesOr view r Lands given Refuses
gives_or view (Ok x) Lands given Refuses g = g
gives_or view (Err e) Lands given Refuses g = inl g

module _ (o : OptionsData) (m : StepState) (x : FlaggedItem × Option ℕ) (is : List FlaggedItem)
    (none : m.pending ≡ []) (front : m.queue ≡ x.0 ∷ is) (goes : may_go m.reading x.0 is ≡ true)
    (line : x.1 ≡ line_asked x.0.item (line_behind m.reading is)) where
  -- the turn that takes the anchor
  pub last_turn : (e : Refused) → GetsLast o x m.parser e → NoNumberLeft o m e
  last_turn e g = record {
    before = m;
    turns = no_turn;
    anchor = g.anchor;
    name = g.name;
    named = g.named;
    begins_key = x.0.begins_key;
    behind = is;
    front = front ∙ ap (λ (i : Item). record { item = i; begins_key = x.0.begins_key } ∷ is) g.item;
    after = with_fed (record m { queue = is }) is g.given;
    taken = turn_feeds o m x is none front goes line
        ∙ ap (λ (r : Result (List PlainEvent × ParserState) Fault). r >>= λ y. Ok
        (Some [], with_fed (record m { queue = is }) is y)) g.fed;
    gone = refl;
    last = g.last;
    refusal = g.refusal;
  }

  pub turn_or : {X : Type 0} (view : X → Option (List PlainEvent)) (r : Result X Refused) (Lands : StepState → Type 0)
      (renumbered : Bool) (given : Turn)
      → GivesOr view r Lands given (λ e. (renumbered ≡ true) × GetsLast o x m.parser e)
      → GivesOr view r Lands given (RefusesNumber renumbered o m)
  turn_or view (Ok y) Lands renumbered given g = g
  turn_or view (Err e) Lands renumbered given (inl fails) = inl fails
  turn_or view (Err e) Lands renumbered given (inr left) = inr (left.0, last_turn e left.1)

-- ---- a refusal behind which a number was set

pub none_recounted : (offset : ℕ) (refusal : Option Refusal) → refusal ≡ None
    → option_map (recounted offset) refusal ≡ None
none_recounted offset refusal is = ap (option_map (recounted offset)) is

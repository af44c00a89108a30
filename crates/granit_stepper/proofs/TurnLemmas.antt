-- The machine's turn, by what a stepper finds.
use Rattle.std.proofs.Common.{◌≡◌, ℕ, suc, Bool, true, false, ◌==◌, not, List, [], ◌∷◌, length, Option, Some, None}
use Rattle.std.proofs.Common.{Result, Ok, if◌then◌else◌, refl, sym, ap, ◌∙◌, arith}
use Rattle.std.proofs.lemmas.Bool.Decides.{nat_tests}
use Rattle.granit_error.specs.OptionsData.{OptionsData}
use Rattle.granit_lexemes.specs.Outcome.{Fault, ◌>>=◌}
use Rattle.granit_lexemes.specs.PlainEvent.{PlainEvent}
use Rattle.granit_machine.specs.Lexing.{FlaggedItem}
use Rattle.granit_machine.specs.Frames.{ParserState}
use Rattle.granit_machine.specs.Parser.{feed}
use Rattle.granit_scanner.specs.Scans.{line_asked, may_front_go}
use Rattle.granit_stepper.specs.Stepping.{feed_item}
use Rattle.granit_steps.specs.Steps.{StepState, asks_next, front_turn, line_behind, may_go, read_more, step_turn}
use Rattle.granit_steps.specs.Steps.{turn_by, with_fed}
use Rattle.granit_steps.proofs.Feeding.{feed_any}

not_true : (b : Bool) → not b ≡ true → b ≡ false
not_true true e = absurd (cc)
not_true false e = refl

not_false : (b : Bool) → not b ≡ false → b ≡ true
not_false true e = refl
not_false false e = absurd (cc)

pub suc_zero : (n : ℕ) → (suc n == 0) ≡ false
suc_zero n = grind (arith, nat_tests)

-- what a test of emptiness says
pub some_given : (es : List PlainEvent) → not (length es == 0) ≡ true → (length es == 0) ≡ false
some_given es some = not_true (length es == 0) some

pub none_given : (es : List PlainEvent) → not (length es == 0) ≡ false → es ≡ []
none_given [] none = refl
none_given (x ∷ es) none =
    let e : true ≡ false = sym (not_false (suc (length es) == 0) none) ∙ suc_zero (length es) in absurd (cc)

waits_by : (o : OptionsData) (m : StepState) (q : List FlaggedItem) (es : List PlainEvent) → (length es == 0) ≡ false
    → turn_by o es q m ≡ Ok (None, m)
waits_by o m q [] e = absurd (cc)
waits_by o m q (x ∷ es) e = refl

-- an event waits
pub turn_waits : (o : OptionsData) (m : StepState) → (length m.pending == 0) ≡ false → step_turn o m ≡ Ok (None, m)
unfolding step_turn
turn_waits o m waits = waits_by o m m.queue m.pending waits

pub turn_waits_on : (o : OptionsData) (m : StepState) (x : PlainEvent) (es : List PlainEvent) → m.pending ≡ x ∷ es
    → step_turn o m ≡ Ok (None, m)
unfolding step_turn
turn_waits_on o m x es is = ap (λ (ys : List PlainEvent). turn_by o ys m.queue m) is

-- an item is fed as with the line of what stands behind it, which is told where the item asks for that
fed_asked : (o : OptionsData) (i : FlaggedItem) (line : Option ℕ) (p : ParserState)
    → feed o i (line_asked i.item line) p ≡ feed o i line p
fed_asked o i line p = by (asks_next i.item) refl
  where
    by : (b : Bool) → asks_next i.item ≡ b → feed o i (if b then line else None) p ≡ feed o i line p
    by true e = refl
    by false e = feed_any o i None line p e

-- the oldest item may go
pub turn_feeds : (o : OptionsData) (m : StepState) (x : FlaggedItem × Option ℕ) (is : List FlaggedItem) → m.pending ≡ []
    → m.queue ≡ x.0 ∷ is → may_go m.reading x.0 is ≡ true → x.1 ≡ line_asked x.0.item (line_behind m.reading is)
    → step_turn o m ≡ feed_item o x (record m { queue = is })
unfolding step_turn
turn_feeds o m x is none front goes line =
    ap (λ (es : List PlainEvent). turn_by o es m.queue m) none
    ∙ ap (λ (q : List FlaggedItem). turn_by o [] q m) front
    ∙ ap (λ (b : Bool). front_turn b o x.0 is m) goes
    ∙ ap (λ (r : Result (List PlainEvent × ParserState) Fault). r >>= λ y. Ok (Some [], with_fed m is y))
    (sym (ap (λ (n : Option ℕ). feed o x.0 n m.parser) line ∙ fed_asked o x.0 (line_behind m.reading is) m.parser))

reads_by : (o : OptionsData) (m : StepState) (q : List FlaggedItem) → may_front_go m.reading q ≡ false
    → turn_by o [] q m ≡ read_more o m.reading.ended m
reads_by o m [] waits = refl
reads_by o m (i ∷ is) waits = ap (λ (b : Bool). front_turn b o i is m) waits

-- no item may go
pub turn_reads : (o : OptionsData) (m : StepState) → m.pending ≡ [] → may_front_go m.reading m.queue ≡ false
    → step_turn o m ≡ read_more o m.reading.ended m
unfolding step_turn
turn_reads o m none waits =
    ap (λ (es : List PlainEvent). turn_by o es m.queue m) none ∙ reads_by o m m.queue waits

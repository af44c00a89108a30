-- What comes of an include.
use Rattle.std.proofs.Common.{◌≡◌, ◌∙◌, ℕ, suc, ◌≤◌, ◌-◌, ◌⊎◌, inl, inr, List, [], ◌∷◌, Option, Some, None}
use Rattle.std.proofs.Common.{◌<◌, Ok, sym, ap, arith, false, subst}
use Rattle.std.specs.Str.{chars}
use Rattle.granit_base.specs.Counts.{last_count}
use Rattle.granit_base.specs.Written.{Written, string_chars}
use Rattle.granit_error.specs.OptionsData.{OptionsData}
use Rattle.granit_layers.specs.Kinds.{SetsAny}
use Rattle.granit_layers.specs.Passing.{ReplayComesThrough}
use Rattle.granit_layers.specs.Stacking.{Pushes, layer_of}
use Rattle.granit_layers.specs.Turning.{Next}
use Rattle.granit_layers.specs.declared.layer.Layer.{Layer}
use Rattle.granit_layers.specs.declared.kinds.AnyKind.TheVariants.{First, Second, Third, Fourth}
use Rattle.granit_lexemes.specs.Here.{Here, start_of}
use Rattle.granit_lexemes.specs.Outcome.{Fault}
use Rattle.granit_lexemes.specs.PlainEvent.{PlainEvent}
use Rattle.granit_parser.specs.Streams.{bare_text_start}
use Rattle.granit_parser.specs.Parsing.{LeadsTo, first_given, none_given}
use Rattle.granit_ids.specs.Ids.{Counted, IdsFrom, counted_start, counted_step, counting_from, id_of}
use Rattle.granit_replay.specs.Replaying.{Replay}
use Rattle.granit_replay.specs.declared.resolver.Included.{Included}
use Rattle.granit_replay.specs.declared.resolver.Included.TheVariants.{Owned, Borrowed}
use Rattle.granit_stack_laws.proofs.SingleLemmas.{OneStart, single}
use Rattle.granit_stack_laws.proofs.LifeLemmas.{IdsUnder, StepsCount, all_below}
use Rattle.granit_stack_laws.specs.Coming.{IncludeComesThrough}
use Rattle.granit_stack_laws.specs.Fresh.{IdsBelow}
use Rattle.granit_stack.specs.Including.{Handling, ReadsText, number_above, replayed}
use Rattle.granit_steps.specs.Steps.{StepState}
use Rattle.granit_steps.specs.Told.{GivesEvents}

-- ---- ids

-- the law on ids of a machine that has just begun
abbrev pub BeginIds : Type 0
BeginIds = (o : OptionsData) (h : Here) (count : ℕ) (es : List PlainEvent) (f : Option Fault)
    → GivesEvents o (counting_from count h) es f → IdsFrom (suc count) es

from_less : (m n : ℕ) (es : List PlainEvent) → m ≤ n → IdsFrom n es → IdsFrom m es
from_less m n [] less ids = tt
from_less m n (e ∷ es) less ids = (one ids.0, from_less m n es less ids.1)
  where
    one : (id_of e.kind ≡ 0) ⊎ (n ≤ id_of e.kind) → (id_of e.kind ≡ 0) ⊎ (m ≤ id_of e.kind)
    one (inl none) = inl none
    one (inr more) = inr (omega arith)

pub text_ids : BeginIds → (o : OptionsData) (n : ℕ) (text : Included) (p : Replay) → ReadsText o (Some n) text (Ok p)
    → IdsFrom n (replayed p)
text_ids law o n (Borrowed text) p reads =
    from_less n (suc (n - 1)) (replayed p) (omega arith)
    (law o (start_of (chars text.now)) (n - 1) (replayed p) None reads.0)
text_ids law o n (Owned text) p reads =
    from_less n (suc (n - 1)) (replayed p) (omega arith)
    (law o (bare_text_start (string_chars text)) (n - 1) (replayed p) None reads.0)

-- ids of events are no greater than the count behind them
counted_ids : StepsCount → (o : OptionsData) (top : ℕ) (m n : StepState) (es : List PlainEvent) → Counted o m
    → LeadsTo o m es n → n.parser.count < top → (m.parser.count < top) × IdsUnder top es
counted_ids law o top m n [] counted none_given few = (few, tt)
counted_ids law o top m n (e ∷ es) counted (first_given {next = next} is leads) few =
    let counts = law o m next (Some e) counted is in
    let rest = counted_ids law o top next n es (counted_step counted is) leads few in
    let more : m.parser.count ≤ next.parser.count = counts.0 in
    let id : id_of e.kind ≤ next.parser.count = counts.1 in
    let below : next.parser.count < top = rest.0 in
    (omega arith, (omega arith, rest.1))

-- so those of a text are below the greatest number
pub text_under : StepsCount → (o : OptionsData) (n : ℕ) (text : Included) (p : Replay)
    → ReadsText o (Some n) text (Ok p) → IdsUnder last_count (replayed p)
text_under law o n (Borrowed text) p (gives, number, (last, leads, few)) =
    let start = start_of (chars text.now) in
    (counted_ids law o last_count (counting_from (n - 1) start) last (replayed p) (counted_start (n - 1) start) leads
    few).1
text_under law o n (Owned text) p (gives, number, (last, leads, few)) =
    let start = bare_text_start (string_chars text) in
    (counted_ids law o last_count (counting_from (n - 1) start) last (replayed p) (counted_start (n - 1) start) leads
    few).1

-- ---- parsers of several kinds

-- the number of a replay is set, and nothing else
abbrev Resets : {S : Type 0} → (ℕ → S → S → Type 0) → (Replay → S) → Type 0
Resets sets again = (n : ℕ) (p : Replay) (q : _) → sets n (again p) q → q ≡ again (record p { anchor_offset = n })

pub fourth_resets : {A B C : Type 0} (a : ℕ → A → A → Type 0) (b : ℕ → B → B → Type 0) (c : ℕ → C → C → Type 0)
    → Resets (SetsAny a b c (λ n p q. q ≡ record p { anchor_offset = n })) Fourth
fourth_resets a b c n p (First q) set = absurd set
fourth_resets a b c n p (Second q) set = absurd set
fourth_resets a b c n p (Third q) set = absurd set
fourth_resets a b c n p (Fourth q) set = ap Fourth set

-- ---- an include

module _ {S R : Type 0} (steps : S → Next → S → Type 0) (h : Handling S R) where
  pub include_comes : StepsCount → BeginIds → OneStart → ReplayComesThrough steps h.offset_of h.sets_offset h.again
      → Resets h.sets_offset h.again → IncludeComesThrough steps h
  include_comes counts ids start comes resets old new k ks name above include =
      let r = include.2.0 in
      let title : Written = record { characters = name; is_borrowed = false } in
      let read : ReadsText old.options (Some (h.offset_of k.parser)) include.0 (Ok r) = subst
      (λ (ls : List (Layer S)). ReadsText old.options (number_above h.offset_of ls) include.0 (Ok r)) above
      include.2.1 in
      let pushed : Pushes h.offset_of h.sets_offset h.offset_over (k ∷ ks) (h.again r) title new.stack.layers = subst
      (λ (ls : List (Layer S)). Pushes h.offset_of h.sets_offset h.offset_over ls (h.again r) title new.stack.layers)
      above include.2.2 in
      let n : ℕ = h.offset_over (h.again r) (h.offset_of k.parser) in
      let lies = pushed.2 ∙ ap (λ (q : S). layer_of q title ∷ k ∷ ks) (resets n r pushed.0 pushed.1) in
      record {
        text = include.0;
        found = include.1;
        events = r;
        read = read;
        ids = text_ids ids old.options (h.offset_of k.parser) include.0 r read;
        below =
            subst (λ (m : ℕ). IdsBelow m r.events) (sym read.1)
            (all_below r.events (h.offset_of k.parser)
            (text_under counts old.options (h.offset_of k.parser) include.0 r read));
        comes = λ one p q given at calls.
            comes p q title (record r { anchor_offset = n }) k ks given (at ∙ lies)
            (single start old.options (Some (h.offset_of k.parser)) include.0 r read one) calls;
      }

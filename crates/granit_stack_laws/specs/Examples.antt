-- A text that may be included, and a stack in which it is.
use Rattle.std.specs.Prelude.{ℕ, ◌+◌, true, false, List, [], ◌∷◌, ◌++◌, take, drop, codes, None, Some}
use Rattle.granit_base.specs.Place.{Mark}
use Rattle.granit_base.specs.Written.{Written}
use Rattle.granit_base.specs.declared.place.Span.{Span}
use Rattle.granit_base.specs.declared.style.ScalarStyle.TheVariants.{Plain}
use Rattle.granit_base.specs.declared.style.StructureStyle.TheVariants.{Block}
use Rattle.granit_error.specs.OptionsData.{default_options}
use Rattle.granit_event.specs.declared.event.Event.{Event}
use Rattle.granit_event.specs.declared.event.Event.TheVariants.{StreamStart, StreamEnd, DocumentStart, DocumentEnd}
use Rattle.granit_event.specs.declared.event.Event.TheVariants.{Scalar, SequenceStart, SequenceEnd}
use Rattle.granit_layers.specs.Nested.{those_through}
use Rattle.granit_layers.specs.Stacking.{Stack, layer_of}
use Rattle.granit_layers.specs.declared.kinds.AnyKind.{AnyKind}
use Rattle.granit_layers.specs.declared.kinds.AnyKind.TheVariants.{Fourth}
use Rattle.granit_layers.specs.declared.layer.Layer.{Layer}
use Rattle.granit_lexemes.specs.PlainEvent.{plain_span}
use Rattle.granit_replay.specs.Replaying.{Replay}
use Rattle.granit_stack.specs.Stacked.{Stacked}

-- a list of one entry with an anchor
abbrev pub small_text : List ℕ
small_text = codes "- &a b\n"

-- a place of a text of small characters
abbrev pub example_mark : (index line column : ℕ) → Mark
example_mark index line column = record {
  place = record { index = index; line = line; column = column };
  byte_offset = Some index;
}

abbrev pub event_on_mark : Event → Mark → Event × Span
event_on_mark event mark = (event, plain_span mark mark)

-- its events, where its anchor gets that number
abbrev pub small_events : ℕ → List (Event × Span)
small_events n =
    event_on_mark StreamStart (example_mark 0 1 0)
    ∷ event_on_mark (DocumentStart false None) (example_mark 0 1 0)
    ∷ event_on_mark (SequenceStart Block 0 None) (example_mark 0 1 0)
    ∷ (
      Scalar (record { characters = codes "b"; is_borrowed = true }) Plain n None,
      plain_span (example_mark 5 1 5) (example_mark 6 1 6),
    )
    ∷ event_on_mark SequenceEnd (example_mark 7 2 0) ∷ event_on_mark DocumentEnd (example_mark 7 2 0)
    ∷ event_on_mark StreamEnd (example_mark 7 2 0) ∷ []

-- the same, to be given once more
abbrev pub small_replay : ℕ → Replay
small_replay n = record { events = small_events n; anchor_offset = n + 1 }

abbrev pub owned_name : List ℕ → Written
owned_name name = record { characters = name; is_borrowed = false }

-- a parser that gave them up to the scalar, or with so many others
abbrev pub small_layer : {A B C : Type 0} → (given number : ℕ) → Layer (AnyKind A B C Replay)
small_layer given number =
    layer_of (Fourth (record { events = drop given (small_events 1); anchor_offset = number }))
    (owned_name (codes "root"))

-- a stack of these parsers, of which nothing was looked at
abbrev pub running : {S : Type 0} → List (Layer S) → Stack S
running layers = record { layers = layers; emits_comments = false; peeked = None; end = None }

-- the same, with somebody who finds includes
abbrev pub lone : {S R : Type 0} → List (Layer S) → R → Stacked S R
lone layers resolver = record {
  stack = running layers;
  options = default_options;
  resolver = Some resolver;
}

-- what a stack gives behind the text's inclusion: what comes through of it, and then the ends of the text below
abbrev pub small_end : List (Event × Span)
small_end = those_through false (small_events 2) ++ take 2 (drop 4 (small_events 1))

-- what a stack gives that includes the text behind the scalar of the same text
abbrev pub small_life : List (Event × Span)
small_life = take 4 (small_events 1) ++ small_end

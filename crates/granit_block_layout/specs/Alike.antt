-- What events tell but for the styles of collections and their spans.
use Rattle.std.specs.Prelude.{◌≡◌, List, Ok, map}
use Rattle.granit_base.specs.declared.style.StructureStyle.TheVariants.{Flow}
use Rattle.granit_canonical_steps.specs.Canonical.{canonical_events}
use Rattle.granit_error.specs.OptionsData.{OptionsData}
use Rattle.granit_generator.specs.BlockText.{block_characters}
use Rattle.granit_lexemes.specs.PlainEvent.{EventKind, MappingStart, PlainEvent, SequenceStart}
use Rattle.granit_machine.specs.Machine.{run}
use Rattle.granit_model.specs.Tree.{PlainTrees}

-- a collection of either style
abbrev pub unstyled : EventKind → EventKind
unstyled (SequenceStart style anchor tag) = SequenceStart Flow anchor tag
unstyled (MappingStart style anchor tag) = MappingStart Flow anchor tag
unstyled kind = kind

-- events without the styles of collections and without spans
abbrev pub kinds_of : List PlainEvent → List EventKind
kinds_of es = map (λ (e : PlainEvent). unstyled e.kind) es

-- the block text is answered with events that tell what those of the flow text do
pub record BlockAnswered (o : OptionsData) (ts : PlainTrees) : Type 0 where
  pub events : List PlainEvent
  pub answered : run o (block_characters ts) ≡ Ok events
  pub alike : kinds_of events ≡ kinds_of (canonical_events o ts)

-- What the statuses Done and Fault say of the text itself, under the options that the words say.
use Rattle.std.specs.Prelude.{◌≡◌, ℕ, ◌≤◌, List, length, Option, Some}
use Rattle.std.specs.Io.KnownBytes.{Appends}
use Rattle.std.specs.Str.{chars, IsUtf8}
use Rattle.granit_base.specs.Classes.{is_printable}
use Rattle.granit_base.specs.Written.{Written}
use Rattle.granit_declared.specs.DeclaredCause.{DeclaredCause}
use Rattle.granit_declared.specs.DeclaredReading.{DeclaredReading}
use Rattle.granit_block_layout.specs.Alike.{kinds_of}
use Rattle.granit_canonical_steps.specs.Canonical.{canonical_events}
use Rattle.granit_comments.specs.TextComments.{TellsComments, ToldUnasked}
use Rattle.granit_error.specs.OptionsData.{OptionsData}
use Rattle.granit_generator.specs.BlockText.{block_characters}
use Rattle.granit_json_scalars.specs.Json.{Json, json_depth}
use Rattle.granit_json_scalars.specs.JsonEvents.{json_events}
use Rattle.granit_json_scalars.specs.JsonText.{JsonText, NamesFit}
use Rattle.granit_lexemes.specs.Gap.{Each}
use Rattle.granit_lexemes.specs.Line.{event_lines, fault_line}
use Rattle.granit_lexemes.specs.Outcome.{Fault}
use Rattle.granit_lexemes.specs.PlainEvent.{PlainEvent}
use Rattle.granit_model.specs.Characters.{HasCharacters}
use Rattle.granit_model.specs.FlowText.{flow_characters}
use Rattle.granit_model.specs.Tree.{DocumentsFit, PlainTrees, trees_depth}
use Rattle.granit_events.specs.Came.{most_bytes, CameWhole}
use Rattle.granit_events.specs.Ended.{SayOptions}

-- All bytes came, they are UTF-8, and what was written are the lines of events that are, comments aside, those of the
-- one reading of the text, with exactly its comments where these are asked for, and the same but for them else.
pub record PrintsReading (words : List Written) (left now : Option (List ℕ)) (written after : Option (List ℕ)) : Type
    0 where
  pub options : OptionsData
  pub said : SayOptions words options
  pub bytes : List ℕ
  pub came : CameWhole left now bytes
  pub utf8 : IsUtf8 bytes
  pub events : List PlainEvent
  pub reading : DeclaredReading options (chars bytes) events
  pub comments : TellsComments options (chars bytes) events
  pub uncommented : ToldUnasked options (chars bytes) events
  pub wrote : Appends written after (event_lines events)

-- All bytes came, they are UTF-8, and what was written is the line of a fault that is a cause of the text.
pub record PrintsFault (words : List Written) (left now : Option (List ℕ)) (written after : Option (List ℕ)) : Type
    0 where
  pub options : OptionsData
  pub said : SayOptions words options
  pub bytes : List ℕ
  pub came : CameWhole left now bytes
  pub utf8 : IsUtf8 bytes
  pub fault : Fault
  pub cause : DeclaredCause options (chars bytes) fault
  pub wrote : Appends written after (fault_line fault)

-- the words are right, and a source has the UTF-8 of a text left that has a reading, within the limit of an input
pub record CanRead (words : List Written) (left : Option (List ℕ)) : Type 0 where
  pub options : OptionsData
  pub said : SayOptions words options
  pub bytes : List ℕ
  pub told : left ≡ Some bytes
  pub fits : length bytes ≤ most_bytes
  pub utf8 : IsUtf8 bytes
  pub events : List PlainEvent
  pub reading : DeclaredReading options (chars bytes) events

-- the words are right, and a source has the UTF-8 of a text left that has that cause, within the limit of an input
pub record HasCause (words : List Written) (left : Option (List ℕ)) (f : Fault) : Type 0 where
  pub options : OptionsData
  pub said : SayOptions words options
  pub bytes : List ℕ
  pub told : left ≡ Some bytes
  pub fits : length bytes ≤ most_bytes
  pub utf8 : IsUtf8 bytes
  pub cause : DeclaredCause options (chars bytes) f

-- the events of a text that is canonical text of trees, or JSON text of a value
pub data HasKnownEvents (o : OptionsData) (x : List ℕ) (es : List PlainEvent) : Type 0 where
  of_trees : (ts : PlainTrees) → DocumentsFit ts → HasCharacters ts → trees_depth ts ≤ o.flow_nesting_limit
      → x ≡ flow_characters ts → es ≡ canonical_events o ts → HasKnownEvents o x es
  of_json : (t : Json) (d : JsonText x t) → Each is_printable x → json_depth t ≤ o.flow_nesting_limit
      → NamesFit o.simple_key_max_lookahead d → es ≡ json_events x d → HasKnownEvents o x es

-- the words are right, and a source has the UTF-8 of such a text left, within the limit of an input
pub record HasEvents (words : List Written) (left : Option (List ℕ)) (es : List PlainEvent) : Type 0 where
  pub options : OptionsData
  pub said : SayOptions words options
  pub bytes : List ℕ
  pub told : left ≡ Some bytes
  pub fits : length bytes ≤ most_bytes
  pub utf8 : IsUtf8 bytes
  pub known : HasKnownEvents options (chars bytes) es

-- the words are right, and a source has the UTF-8 of the canonical block text of trees left that fit and are no deeper
-- than the limits, within the limit of an input
pub record HasBlockText (words : List Written) (left : Option (List ℕ)) (ts : PlainTrees) : Type 0 where
  pub options : OptionsData
  pub said : SayOptions words options
  pub bytes : List ℕ
  pub told : left ≡ Some bytes
  pub fits : length bytes ≤ most_bytes
  pub utf8 : IsUtf8 bytes
  pub trees_fit : DocumentsFit ts
  pub has_characters : HasCharacters ts
  pub flow_fits : trees_depth ts ≤ options.flow_nesting_limit
  pub block_fits : trees_depth ts ≤ options.block_nesting_limit
  pub is : chars bytes ≡ block_characters ts

-- what was written are the lines of events that are those of the flow text of trees but for the styles of collections
-- and for spans
pub record PrintsAlike (o : OptionsData) (ts : PlainTrees) (written after : Option (List ℕ)) : Type 0 where
  pub events : List PlainEvent
  pub wrote : Appends written after (event_lines events)
  pub alike : kinds_of events ≡ kinds_of (canonical_events o ts)

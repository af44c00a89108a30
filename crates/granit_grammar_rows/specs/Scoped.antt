-- Lists of lexemes with names, handles and the limit of open block collections.
use Rattle.std.specs.Prelude.{ℕ, ◌+◌, List, [], ◌∷◌, codes}
use Rattle.granit_error.specs.OptionsData.{OptionsData, default_options}
use Rattle.granit_lexemes.specs.Basics.{owned}
use Rattle.granit_lexemes.specs.Lexeme.{Version, TagPrefix}
use Rattle.granit_language.specs.Terminal.{Anchor, Tag, Alias, Property, Directive, Part}
use Rattle.granit_event_machine.specs.EventMachine.{EventAnswer, Events, Faulty, Unfinished}
use Rattle.granit_event_machine.specs.Guarded.{whole_run}
use Rattle.granit_grammar_rows.specs.Row.{Sketch, sketched, all_drawn, Telling, RefusedAs, EventsAre, Stops}

-- `&` or `*` and one letter
abbrev pub anchor_named : ℕ → ℕ → ℕ → Sketch
anchor_named letter start column = sketched (Part (Property (Anchor (owned (letter ∷ []))))) start (start + 2) column

abbrev pub alias_named : ℕ → ℕ → ℕ → Sketch
alias_named letter start column = sketched (Part (Alias (owned (letter ∷ [])))) start (start + 2) column

-- the tag `!x!y`, and the directive `%TAG !x! z`
abbrev pub tag_x : ℕ → ℕ → Sketch
tag_x start column = sketched (Part (Property (Tag (codes "!x!") (codes "y")))) start (start + 4) column

abbrev pub handle_x : ℕ → Sketch
handle_x start = sketched (Directive (TagPrefix (codes "!x!") (codes "z"))) start (start + 10) 0

abbrev pub version : (major minor : ℕ) → ℕ → Sketch
version major minor start = sketched (Directive (Version major minor)) start (start + 9) 0

abbrev pub limited : ℕ → OptionsData
limited n = record default_options { block_nesting_limit = n }

-- only whether there are events
abbrev pub outcome : EventAnswer → Telling
outcome (Events es) = EventsAre []
outcome (Faulty k x) = RefusedAs k x.at.number
outcome Unfinished = Stops

abbrev pub answered_by : OptionsData → List Sketch → Telling
answered_by o ss = outcome (whole_run o (all_drawn 0 ss))

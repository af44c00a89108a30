-- What of an answer is lent from the source.
use Rattle.std.specs.Prelude.{◌≡◌, ℕ, Bool, true, false, ◌⊎◌, List, [], ◌∷◌, Result, Ok, Err}
use Rattle.std.specs.List.{flat_map}
use Rattle.granit_base.specs.Place.{Mark}
use Rattle.granit_error.specs.OptionsData.{OptionsData, default_options}
use Rattle.granit_lexemes.specs.Here.{Here, start_of}
use Rattle.granit_lexemes.specs.Outcome.{Fault}
use Rattle.granit_lexemes.specs.PlainEvent.{EventKind, Anchor, UnresolvedAlias, Comment, Scalar, PlainEvent}
use Rattle.granit_machine.specs.Machine.{run, run_from}
use Rattle.granit_feeding.specs.Offsets.{Kept, is_empty_node}

-- all is kept but whether texts are lent
abbrev pub but_lending : Kept
but_lending = record { offsets = true; lending = false }

-- the same beginning of an input that lends nothing
abbrev pub lending_nothing : Here → Here
lending_nothing h = record h { unread = record (h.unread) { lends = false } }

-- the text of an event that stands there, if it has one, is owned, unless it is an empty node
abbrev pub OwnsText : (start end : Mark) → EventKind → Type 0
OwnsText start end (Anchor n name) = name.is_borrowed ≡ false
OwnsText start end (UnresolvedAlias name) = name.is_borrowed ≡ false
OwnsText start end (Comment text placement) = text.is_borrowed ≡ false
OwnsText start end (Scalar text style n tag) = (text.is_borrowed ≡ false) ⊎ (is_empty_node style start end ≡ true)
OwnsText start end kind = Unit {0}

abbrev pub OwnTexts : List PlainEvent → Type 0
OwnTexts [] = Unit {0}
OwnTexts (e ∷ es) = OwnsText e.span.start e.span.end e.kind × OwnTexts es

-- ---- which texts are borrowed

abbrev pub text_borrowed : EventKind → List Bool
text_borrowed (Anchor n name) = name.is_borrowed ∷ []
text_borrowed (UnresolvedAlias name) = name.is_borrowed ∷ []
text_borrowed (Comment text placement) = text.is_borrowed ∷ []
text_borrowed (Scalar text style n tag) = text.is_borrowed ∷ []
text_borrowed kind = []

abbrev pub texts_borrowed : Result (List PlainEvent) Fault → List Bool
texts_borrowed (Ok es) = flat_map (λ e. text_borrowed e.kind) es
texts_borrowed (Err f) = []

-- where comments and anchors are told, of a string, and of an input of that text that lends nothing
abbrev telling_all : OptionsData
telling_all = record default_options { emit_comments = true; emit_anchor_events = true }

abbrev pub borrowed_of : List ℕ → List Bool
borrowed_of text = texts_borrowed (run telling_all text)

abbrev pub borrowed_unlent : List ℕ → List Bool
borrowed_unlent text = texts_borrowed (run_from telling_all (lending_nothing (start_of text)))

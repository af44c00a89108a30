-- The events that lexemes give before it is known what comes behind them.
use Rattle.std.specs.Prelude.{◌≡◌, List, []}
use Rattle.granit_base.specs.Place.{Mark}
use Rattle.granit_error.specs.OptionsData.{OptionsData}
use Rattle.granit_language.specs.OpenEvents.{open_events}
use Rattle.granit_language.specs.OpenPlace.{Hole, AtEntry, AtColon, OpenPlace, OpenPlaced, spell_open}
use Rattle.granit_language.specs.Telling.{events_told}
use Rattle.granit_language.specs.Terminal.{Terminal}
use Rattle.granit_lexemes.specs.PlainEvent.{PlainEvent}

-- An open place stands behind these lexemes, and these are the events before it, wherever the next lexeme stands.
pub record ToldBefore (o : OptionsData) (xs : List Terminal) (place : OpenPlace) (es : List PlainEvent) : Type 0 where
  pub spelled : spell_open place [] ≡ xs
  pub placed : (x : Terminal) → OpenPlaced x place
  pub told : (next : Mark) → events_told o (open_events next place []) ≡ es

-- the empty node of a place directly behind a `-` or a `:` stands behind the `-`, or at the `:`
abbrev pub EmptyAt : Hole → Mark → Type 0
EmptyAt (AtEntry r p indentless column lead dash) m = m ≡ dash.end
EmptyAt (AtColon r around left colon) m = m ≡ colon.start
EmptyAt r m = ⊥

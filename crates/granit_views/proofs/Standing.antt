-- The states that the grammar's machine comes to, and what finishing a node does to them on both sides.
use Rattle.granit_views.specs.Good.{rooted, Good, Holes, ask_done, at_asked, at_curly, at_entry, at_item, at_key}
use Rattle.granit_views.specs.Good.{at_root, at_value, curly_ask_done, curly_asked, curly_done, curly_key}
use Rattle.granit_views.specs.Good.{curly_key_done, curly_solo, curly_value, item_done, key_done, made_done}
use Rattle.granit_views.specs.Good.{made_key, made_key_done, made_value, pair_asked, pair_done, pair_value}
use Rattle.granit_views.specs.Good.{past_entry, square_ask_done, square_done}
use Rattle.granit_views.specs.View.{frames_of, Beside, state_of, with_given}
use Rattle.granit_base.specs.Place.{Mark}
use Rattle.granit_event_machine.specs.EventMachine.{OpenFrame, finish_frames, ended_by, put_frames}
use Rattle.granit_language.specs.Terminal.{Terminal}
use Rattle.granit_machine.specs.Frames.{ParserState}
use Rattle.granit_machine.specs.NodeEnds.{finish}
use Rattle.std.proofs.Common.{◌≡◌, List, refl, None}
use Rattle.granit_base.specs.Place.{Mark}
use Rattle.granit_error.specs.OptionsData.{OptionsData}
use Rattle.granit_lexemes.specs.PlainEvent.{PlainEvent}
use Rattle.granit_machine.specs.Frames as machine

-- a node is finished
pub put_good : (e : Mark) (fs : List OpenFrame) → Holes fs → Good (put_frames e fs)
put_good e fs at_root = rooted
put_good e fs (at_entry p h) = past_entry p h
put_good e fs (at_key p h) = key_done p h
put_good e fs (at_asked p h) = ask_done p h
put_good e fs (at_value p h) = pair_done p h
put_good e fs (at_item h) = item_done h
put_good e fs (at_curly h) = curly_solo h
put_good e fs (curly_key h) = curly_key_done h
put_good e fs (curly_asked h) = curly_ask_done h
put_good e fs (curly_value h) = curly_done h
put_good e fs (made_key h) = made_key_done h
put_good e fs (made_value h) = made_done h
put_good e fs (pair_asked h) = square_ask_done h
put_good e fs (pair_value h) = square_done h

-- what the lexeme then ends is what it ends behind the finished node
pub finish_closes :
    (x : Terminal) (e : Mark) (fs : List OpenFrame) → Holes fs → finish_frames x e fs ≡ ended_by x (put_frames e fs)
finish_closes x e fs at_root = refl
finish_closes x e fs (at_entry p h) = refl
finish_closes x e fs (at_key p h) = refl
finish_closes x e fs (at_asked p h) = refl
finish_closes x e fs (at_value p h) = refl
finish_closes x e fs (at_item h) = refl
finish_closes x e fs (at_curly h) = refl
finish_closes x e fs (curly_key h) = refl
finish_closes x e fs (curly_asked h) = refl
finish_closes x e fs (curly_value h) = refl
finish_closes x e fs (made_key h) = refl
finish_closes x e fs (made_value h) = refl
finish_closes x e fs (pair_asked h) = refl
finish_closes x e fs (pair_value h) = refl

-- the parser where a node has just ended with an event whose end is a mark
abbrev pub popped : OptionsData → List OpenFrame → Mark → List PlainEvent → Beside → ParserState
popped o fs e given b = record {
  frames = frames_of o fs;
  stage = machine.Inside;
  last_end = e;
  count = b.count;
  names = b.names;
  handles = b.handles;
  kept = b.kept;
  waiting = None;
  given = given;
}

pub finish_view :
    (o : OptionsData) (fs : List OpenFrame) (e : Mark) (given : List PlainEvent) (b : Beside) → Holes fs →
    finish (popped o fs e given b) ≡ state_of o (put_frames e fs) (with_given e given b)
finish_view o fs e given b at_root = refl
finish_view o fs e given b (at_entry p h) = refl
finish_view o fs e given b (at_key p h) = refl
finish_view o fs e given b (at_asked p h) = refl
finish_view o fs e given b (at_value p h) = refl
finish_view o fs e given b (at_item h) = refl
finish_view o fs e given b (at_curly h) = refl
finish_view o fs e given b (curly_key h) = refl
finish_view o fs e given b (curly_asked h) = refl
finish_view o fs e given b (curly_value h) = refl
finish_view o fs e given b (made_key h) = refl
finish_view o fs e given b (made_value h) = refl
finish_view o fs e given b (pair_asked h) = refl
finish_view o fs e given b (pair_value h) = refl

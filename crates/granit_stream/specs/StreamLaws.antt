-- Why a stream keeps the laws of an input.
use Rattle.std.proofs.Common.{◌≡◌, ◌+◌, ◌≤◌, ℕ, Bool, true, false, List, [], ◌∷◌, ◌++◌, length, Option, None, Some}
use Rattle.std.proofs.Common.{is_some, ◌&&◌}
use Rattle.std.specs.Prelude.{if◌then◌else◌}
use Rattle.granit_error.specs.FaultKind.{FaultKind, UnexpectedEof}
use Rattle.std.proofs.Common.{ap, sym, ◌∙◌, arith}
use Rattle.std.proofs.lemmas.List.{length-append}
use Rattle.std.specs.Iterator.{Count}
use Rattle.granit_base.specs.Place.{Unread}
use Rattle.granit_input.specs.Origin.{Agrees, Origin}
use Rattle.granit_stream.specs.Stream.{StreamHolds, of_stream}
use Rattle.granit_buffered.specs.Feeds.{StillGives, still_left}

rest_bounded : {S : Type 0} (steps : S → Option ℕ → S → Type 0) (remaining : S → Count) (done : Bool) (s : S)
    (xs : List ℕ)
    → StillGives steps remaining done s xs → length xs ≤ still_left done (remaining s)
rest_bounded steps remaining true s xs none = omega (arith, ap length none)
rest_bounded steps remaining false s [] known = omega arith
rest_bounded steps remaining false s (x ∷ xs) known = omega (arith, known.0)

rest_exact : (done : Bool) (c : Count) (front rest text : List ℕ) → done ≡ true → text ≡ front ++ rest
    → length text ≡ 0 → length front + still_left done c ≡ 0
rest_exact true c front rest text e is none = omega (arith, ap length is ∙ length-append front rest)
rest_exact false c front rest text e is none = absurd cc

-- A stream that holds some characters of an iterator, which has ended or not.
pub record StreamState (S L : Type 0) : Type 0 where
  pub iterator : S
  pub done : Bool
  pub front : List ℕ
  pub breaks_off : Bool
  pub handed_out : Bool
  pub lends : Option L

pub stream_agrees : {S L : Type 0} (steps : S → Option ℕ → S → Type 0) (remaining : S → Count) (origin : L → Origin)
    (s : StreamState S L) (u : Unread)
    → (s.lends ≡ None) × (u.offset ≡ None) × (u.lends ≡ false)
    × StreamHolds steps remaining s.done s.iterator s.front u.text
    → Agrees (length s.front + still_left s.done (remaining s.iterator))
    (of_stream s.done s.breaks_off s.handed_out origin s.lends) u
stream_agrees steps remaining origin s u k =
    let held = k.3 in record {
      bounded = omega (
        arith,
        ap length held.1 ∙ length-append s.front held.0,
        rest_bounded steps remaining s.done s.iterator held.0 held.2,
      );
      exact = λ known none. rest_exact s.done (remaining s.iterator) s.front held.0 u.text known held.1 none;
      offset = ap is_some k.1 ∙ ap is_some (sym k.0);
      lends = rw k.0 k.2;
      sliced = λ bytes at from told. absurd (cc (k.1, told));
      lent = λ bytes at from told. absurd (cc (k.1, told));
    }

pub stream_fails : (done breaks_off : Bool) (f : Option FaultKind) → done ≡ true
    → f ≡ (if breaks_off then Some UnexpectedEof else None)
    → f ≡ (if done && breaks_off then Some UnexpectedEof else None)
stream_fails true breaks_off f known is = is
stream_fails false breaks_off f known is = absurd cc

-- What is held of keys and brackets behind the lexemes of a text, said of these.
use Rattle.std.proofs.Common.{◌≡◌, Bool, true, false, List, [], ◌∷◌, length, drop, map, Option, Some}
use Rattle.std.proofs.Common.{None, refl, sym, ap, ap₂, ◌∙◌, subst}
use Rattle.std.specs.Prelude.{if◌then◌else◌}
use Rattle.granit_base.specs.Place.{Mark}
use Rattle.granit_error.specs.OptionsData.{OptionsData}
use Rattle.granit_language.specs.Allowed.{InFlow}
use Rattle.granit_language.specs.Before.{freshened, closed_for, in_front, run_for, behind_colon}
use Rattle.granit_language.specs.Before.{behind_question_sign, behind}
use Rattle.granit_language.specs.OpenColumns.{latest}
use Rattle.granit_language.specs.Reached.{ends_column_by, Reads, of_comment, of_lexeme, Reached, stops, goes_on}
use Rattle.granit_lexemes.specs.Here.{Here, mark_of}
use Rattle.granit_lexemes.specs.Lexeme.{LexemeKind, Lexeme, Item}
use Rattle.granit_lexemes.specs.declared.layout.OpenBracket.{OpenBracket}
use Rattle.granit_lexemes.specs.declared.layout.PossibleKey.{PossibleKey}
use Rattle.granit_machine.specs.Laid.{Laid, is_in_flow}
use Rattle.granit_machine.specs.LexemeSort.{OpenSign, CloseSign, CommaSign, DashSign, QuestionSign}
use Rattle.granit_machine.specs.LexemeSort.{ColonSign, AliasSign, AnchorSign, TagSign, BlockSign, QuoteSign, PlainSign}
use Rattle.granit_machine.specs.LexemeSort.{StrayMark, NoSign, LexemeSort, TextEnd, StartMark, EndMark, DirectiveSign}
use Rattle.granit_machine.specs.LexemeSort.{Unprintable, Placed}
use Rattle.granit_machine.specs.PossibleKeys.{keyed_brackets, top_key, is_stale, fresh_key, fresh_bracket, fresh}
use Rattle.granit_machine.specs.ReaderState.{ReaderState, reader_start}
use Rattle.granit_places.proofs.ColumnsKept.{OpenSays}
pub use Rattle.granit_places.proofs.ColumnsLaw.{closed_brackets, front_flow}
use Rattle.granit_places.proofs.ColumnsWhole.{reads_said, latest_noted, latest_joined}
pub use Rattle.granit_places.proofs.ColumnsWhole.{agrees_said, fresh_said}
use Rattle.granit_places.proofs.Moving.{closed_held, lexeme_moved}
use Rattle.granit_places.proofs.Telling.{SaysOf, gap_agrees, telling}
pub use Rattle.granit_places.proofs.Telling.{Agrees}
use Rattle.granit_before.proofs.HeldSteps.{outer_of, NoHeads, KeysSay, keys_as, keys_step}
use Rattle.granit_before.proofs.Numbered.{read_bears}
use Rattle.granit_before.specs.HeldKeys.{HeldSays, EachSays, keys_in, keys_of}
use Rattle.granit_before.specs.Openers.{Opener, inside_of, openers_behind, openers, IsInside}

-- ---- keys that go

module _ (o : OptionsData) (m : Mark) (ls : List Lexeme) where
  fresh_one : (in_flow : Bool) (key : Option PossibleKey) → HeldSays ls key → HeldSays ls (fresh_key o in_flow m key)
  fresh_one in_flow None s = tt
  fresh_one in_flow (Some k) s = on (is_stale o in_flow m k)
    where
      on : (v : Bool) → HeldSays ls (if v then None else Some k)
      on true = tt
      on false = s

  fresh_each : (in_flow : Bool) (bs : List OpenBracket) (key : Option PossibleKey) → EachSays ls (keys_in bs key) →
      EachSays ls (keys_in (map (fresh_bracket o m) bs) (fresh_key o in_flow m key))
  fresh_each in_flow [] key s = (fresh_one in_flow key s.0, tt)
  fresh_each in_flow (b ∷ bs) key s = (fresh_one true b.key s.0, fresh_each in_flow bs key s.1)

  abbrev Heads : Option PossibleKey → Type 0
  Heads key = NoHeads (key ∷ [])

  fresh_head : (in_flow : Bool) (key : Option PossibleKey) → Heads key → Heads (fresh_key o in_flow m key)
  fresh_head in_flow None n = (tt, tt)
  fresh_head in_flow (Some k) n = on (is_stale o in_flow m k)
    where
      on : (v : Bool) → Heads (if v then None else Some k)
      on true = (tt, tt)
      on false = n

  fresh_heads : (in_flow : Bool) (bs : List OpenBracket) (key : Option PossibleKey) → NoHeads (keys_in bs key) →
      NoHeads (keys_in (map (fresh_bracket o m) bs) (fresh_key o in_flow m key))
  fresh_heads in_flow [] key n = fresh_head in_flow key n
  fresh_heads in_flow (b ∷ bs) key n = ((fresh_head true b.key (n.0, tt)).0, fresh_heads in_flow bs key n.1)

  fresh_outer : (in_flow : Bool) (bs : List OpenBracket) (key : Option PossibleKey) →
      NoHeads (outer_of (keys_in bs key)) →
      NoHeads (outer_of (keys_in (map (fresh_bracket o m) bs) (fresh_key o in_flow m key)))
  fresh_outer in_flow [] key n = tt
  fresh_outer in_flow (b ∷ bs) key n = fresh_heads in_flow bs key n

  fresh_keys : (l : Laid) → KeysSay ls (keys_of l) → KeysSay ls (keys_of (fresh o m l))
  fresh_keys l w = record {
    says = fresh_each (is_in_flow l) l.brackets l.key w.says;
    heads = fresh_outer (is_in_flow l) l.brackets l.key w.heads;
  }

-- ---- brackets

abbrev pub opener_of : OpenBracket → Opener
opener_of b = (b.bracket, b.mark)

abbrev pub openers_of : Laid → List Opener
openers_of l = map opener_of l.brackets

keyed_openers : (new : Option PossibleKey) (bs : List OpenBracket) →
    map opener_of (keyed_brackets new bs) ≡ map opener_of bs
keyed_openers new [] = refl
keyed_openers new (b ∷ bs) = refl

shut_openers : (bs : List OpenBracket) → map opener_of (drop 1 bs) ≡ inside_of (map opener_of bs)
shut_openers [] = refl
shut_openers (b ∷ bs) = refl

pub fresh_openers : (o : OptionsData) (m : Mark) (bs : List OpenBracket) →
    map opener_of (map (fresh_bracket o m) bs) ≡ map opener_of bs
fresh_openers o m [] = refl
fresh_openers o m (b ∷ bs) = ap (λ (ys : List Opener). opener_of b ∷ ys) (fresh_openers o m bs)

run_openers : (sort : LexemeSort) (h : Here) (l : Laid) → openers_of (run_for sort h l) ≡ openers_of l
run_openers (Placed (OpenSign bracket)) h l = keyed_openers _ l.brackets
run_openers (Placed AliasSign) h l = keyed_openers _ l.brackets
run_openers (Placed AnchorSign) h l = keyed_openers _ l.brackets
run_openers (Placed TagSign) h l = keyed_openers _ l.brackets
run_openers (Placed (BlockSign literal)) h l = keyed_openers _ l.brackets
run_openers (Placed (QuoteSign single)) h l = keyed_openers _ l.brackets
run_openers (Placed PlainSign) h l = keyed_openers _ l.brackets
run_openers (Placed sort) h l = refl
run_openers sort h l = refl

pub front_openers : (sort : LexemeSort) (h : Here) (l : Laid) → openers_of (in_front sort h l) ≡ openers_of l
front_openers sort h l =
    run_openers sort h (closed_for sort h l)
    ∙ ap (λ (bs : List OpenBracket). map opener_of bs) (closed_brackets sort h l)

question_openers : (v : Bool) (h : Here) (l : Laid) → openers_of (behind_question_sign v h l) ≡ openers_of l
question_openers true h l = keyed_openers None l.brackets
question_openers false h l = keyed_openers None l.brackets

colon_openers : (v : Bool) (key : Option PossibleKey) (h : Here) (l : Laid) →
    openers_of (behind_colon v key h l) ≡ openers_of l
colon_openers true (Some k) h l = keyed_openers None l.brackets
colon_openers true None h l = refl
colon_openers false (Some k) h l = keyed_openers None l.brackets
colon_openers false None h l = refl

-- what a lexeme leaves open
module _ (o : OptionsData) (h : Here) (l : Laid) (x : Lexeme) (cut : Option Mark) (g : Here)
    (start : x.start ≡ mark_of h) where
  abbrev Opens : Laid → Type 0
  Opens after = openers_of after ≡ openers_behind x.kind x.start (openers_of l)

  by_kind : {kind : LexemeKind} (os : List Opener) → x.kind ≡ kind →
      os ≡ openers_behind kind (mark_of h) (openers_of l) → os ≡ openers_behind x.kind x.start (openers_of l)
  by_kind {kind = kind} os is e =
      e ∙ (sym (ap (λ m. openers_behind kind m (openers_of l)) start)
      ∙ sym (ap (λ kind. openers_behind kind x.start (openers_of l)) is))

  step_openers : (sort : LexemeSort) → SaysOf sort h l x → Opens (behind o sort x cut g h l)
  step_openers TextEnd s = by_kind _ s.0.is (keyed_openers None l.brackets)
  step_openers StartMark s = by_kind _ s.0.is (keyed_openers None l.brackets)
  step_openers EndMark s = by_kind _ s.0.is (keyed_openers None l.brackets)
  step_openers DirectiveSign s = by_kind _ s.1.is (keyed_openers None l.brackets)
  step_openers Unprintable s = absurd s
  step_openers (Placed (OpenSign bracket)) s = by_kind _ s.is refl
  step_openers (Placed (CloseSign bracket)) s = by_kind _ s.0.is (shut_openers l.brackets)
  step_openers (Placed CommaSign) s = by_kind _ s.is (keyed_openers None l.brackets)
  step_openers (Placed DashSign) s = by_kind _ s.0.is (keyed_openers None l.brackets)
  step_openers (Placed QuestionSign) s = by_kind _ s.0.is (question_openers (is_in_flow l) h l)
  step_openers (Placed ColonSign) s = by_kind _ s.0 (colon_openers (is_in_flow l) (top_key l) h l)
  step_openers (Placed AliasSign) s = by_kind _ s.1.is refl
  step_openers (Placed AnchorSign) s = by_kind _ s.1.is refl
  step_openers (Placed TagSign) s = by_kind _ s.2.is refl
  step_openers (Placed (BlockSign literal)) s = by_kind _ s.2.is refl
  step_openers (Placed (QuoteSign single)) s = by_kind _ s.2.is refl
  step_openers (Placed PlainSign) s = by_kind _ s.2.is refl
  step_openers (Placed StrayMark) s = absurd s
  step_openers (Placed NoSign) s = absurd s

-- ---- one read

pub record HeldSay (ls : List Lexeme) (l : Laid) : Type 0 where
  pub columns : OpenSays ls l
  pub number : l.number ≡ length ls
  pub keys : KeysSay ls (keys_of l)
  pub brackets : openers_of l ≡ openers ls

agrees_keys : {ls : List Lexeme} {a b : Laid} → Agrees a b → KeysSay ls (keys_of b) → KeysSay ls (keys_of a)
agrees_keys e w = keys_as (ap₂ keys_in e.brackets e.key) w

agrees_openers : {a b : Laid} → Agrees a b → openers_of a ≡ openers_of b
agrees_openers e = ap (λ (bs : List OpenBracket). map opener_of bs) e.brackets

pub read_held : (o : OptionsData) (ls : List Lexeme) {s after : ReaderState} {items : List Item} →
    Reads o s items after → HeldSay ls s.laid → HeldSay (latest items ls) after.laid
read_held o ls (of_comment at g k) w = record {
  columns = reads_said o ls (of_comment at g k) w.columns;
  number = (read_bears o ls (of_comment at g k) w.number).number;
  keys = fresh_keys o (mark_of at.here) ls at.laid (agrees_keys (gap_agrees g) w.keys);
  brackets =
      fresh_openers o (mark_of at.here) at.laid.brackets ∙ (agrees_openers (gap_agrees g) ∙ w.brackets);
}
read_held o ls {s = s} (of_lexeme {items = items} at behind sort comes given keys) w =
    let f = freshened o at in
    let a = gap_agrees comes.gap in
    let n = fresh_said o ls at (agrees_said ls s.laid at.laid a w.columns) in
    let ks = fresh_keys o (mark_of at.here) ls at.laid (agrees_keys a w.keys) in
    let bs = fresh_openers o (mark_of at.here) at.laid.brackets ∙ (agrees_openers a ∙ w.brackets) in
    let t = telling o (ends_column_by sort f) f.here _ sort items behind given.1 in
    let x = t.lexeme in
    let c = closed_held sort f.here f.laid in
    let v = lexeme_moved o sort f.here (closed_for sort f.here f.laid) x t.cut t.reached behind.laid t.told t.says
    t.leaves in
    let same = ap (λ (is : List Item). latest is ls) t.are ∙ latest_noted x t.note ls in
    let r = of_lexeme at behind sort comes given keys in
    record {
      columns = reads_said o ls r w.columns;
      number = (read_bears o ls r w.number).number;
      keys =
          subst (λ (l : List Lexeme). KeysSay l (keys_of (freshened o behind).laid)) (sym same)
          (fresh_keys o (mark_of behind.here) (x ∷ ls) behind.laid
          (keys_step o ls f.laid n.columns (a.number ∙ w.number) ks f.here x t.told.start
          (t.told.flow ∙ front_flow sort f.here f.laid) (v.number ∙ c.0) sort t.cut t.reached behind.laid t.says
          t.leaves));
      brackets =
          fresh_openers o (mark_of behind.here) behind.laid.brackets
          ∙ (agrees_openers t.leaves
          ∙ (step_openers o f.here (in_front sort f.here f.laid) x t.cut t.reached t.told.start sort t.says
          ∙ (ap (openers_behind x.kind x.start) (front_openers sort f.here f.laid ∙ bs) ∙ sym (ap openers same))));
    }

-- ---- all

reached_held : (o : OptionsData) (ls : List Lexeme) {s t : ReaderState} {items : List Item} → Reached o s items t →
    HeldSay ls s.laid → HeldSay (latest items ls) t.laid
reached_held o ls stops w = w
reached_held o ls {t = t} (goes_on next items more r last rest e) w =
    subst (λ (l : List Lexeme). HeldSay l t.laid)
    (sym (ap (λ (is : List Item). latest is ls) e ∙ latest_joined items more ls))
    (reached_held o (latest items ls) rest (read_held o ls r w))

pub held_said : (o : OptionsData) (h : Here) (items : List Item) (t : ReaderState) →
    Reached o (reader_start h) items t →
    HeldSay (latest items []) t.laid
held_said o h items t r =
    reached_held o [] r (record {
      columns = record { columns = record { are_open = λ c p. p; are_kept = λ c p. p; fall = tt }; key = tt };
      number = refl;
      keys = record { says = (tt, tt); heads = tt };
      brackets = refl;
    })

-- a bracket is held exactly where one is open
pub inside_said : (ls : List Lexeme) (l : Laid) → openers_of l ≡ openers ls → (InFlow l → IsInside ls)
    × (IsInside ls → InFlow l)
inside_said ls l e = (
  λ p. (opener_of p.bracket, map opener_of p.around, sym e ∙ ap (λ (bs : List OpenBracket). map opener_of bs) p.is),
  λ p. on l.brackets refl p,
)
  where
    on : (bs : List OpenBracket) → l.brackets ≡ bs → IsInside ls → InFlow l
    on [] f p =
        absurd (let z = sym (sym e ∙ ap (λ (bs : List OpenBracket). map opener_of bs) f) ∙ p.2 in cc)
    on (b ∷ bs) f p = record { bracket = b; around = bs; is = f }

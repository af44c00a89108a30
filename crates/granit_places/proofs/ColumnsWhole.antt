-- The columns that the reader keeps are the open ones of the lexemes that it has read.
use Rattle.std.proofs.Common.{◌≡◌, suc, ◌<◌, Bool, true, false, List, [], ◌∷◌, ◌++◌, map, Option, Some, None, refl, sym}
use Rattle.std.proofs.Common.{ap, ◌∙◌, subst}
use Rattle.std.specs.Prelude.{if◌then◌else◌}
use Rattle.granit_base.specs.Place.{Mark}
use Rattle.granit_error.specs.OptionsData.{OptionsData}
use Rattle.granit_lexemes.specs.Comment.{CommentRead}
use Rattle.granit_lexemes.specs.Here.{Here, mark_of}
use Rattle.granit_lexemes.specs.Lexeme.{Lexeme, Item, OfLexeme, OfComment}
use Rattle.granit_machine.specs.Laid.{Laid, is_in_flow}
use Rattle.granit_lexemes.specs.declared.layout.PossibleKey.{PossibleKey}
use Rattle.granit_lexemes.specs.declared.layout.OpenColumn.{OpenColumn}
use Rattle.granit_machine.specs.NodeLexemes.{note_items}
use Rattle.granit_machine.specs.PossibleKeys.{is_stale, fresh_key}
use Rattle.granit_machine.specs.ReaderState.{ReaderState, reader_start}
use Rattle.granit_language.specs.Before.{freshened, closed_for}
use Rattle.granit_language.specs.OpenColumns.{latest, Has, Falls, start_column, AtMost, columns_of, ColumnsSay}
use Rattle.granit_language.specs.Reached.{ends_column_by, Reads, of_comment, of_lexeme, Reached, stops, goes_on}
use Rattle.granit_places.proofs.ColumnsKept.{SameKey, KeySays, OpenSays, changed}
use Rattle.granit_places.proofs.ColumnsLaw.{same_self, columns_change}
use Rattle.granit_places.proofs.Moving.{closed_held, lexeme_moved}
use Rattle.granit_places.proofs.Telling.{Agrees, gap_agrees, telling}

-- the same columns, and the same key or none
said_as : (ls : List Lexeme) (l m : Laid) → columns_of m ≡ columns_of l → m.number ≡ l.number → SameKey m.key l.key
    → OpenSays ls l → OpenSays ls m
said_as ls l m cs n k s = record {
  columns = record {
    are_open = λ c h. s.columns.are_open c (subst (Has c) cs h);
    are_kept = λ c p. subst (Has c)
        (sym cs) (s.columns.are_kept c p);
    fall = subst Falls (sym cs) s.columns.fall;
  };
  key = on m.key k;
}
  where
    on : (key : Option PossibleKey) → SameKey key l.key → KeySays ls m key
    on None p = tt
    on (Some k) (j, old, i, e) =
        let q : KeySays ls l (Some j) = subst (KeySays ls l) old s.key in
        let c = ap (λ (m : Mark). m.place.column) e in (
          ap (λ n. start_column n ls) i ∙ q.0 ∙ ap (λ n. Some n) (sym c),
          subst (λ ns. AtMost k.start.place.column ns) (sym cs) (subst (λ c. AtMost c (columns_of l)) (sym c) q.1),
          subst (λ a. a < m.number) (sym i) (subst (λ b. j.number < b) (sym n) q.2),
        )

pub agrees_said : (ls : List Lexeme) (l m : Laid) → Agrees m l → OpenSays ls l → OpenSays ls m
agrees_said ls l m a s = said_as ls l m (ap (λ (l : List OpenColumn). map (λ (x : OpenColumn). x.column) l) a.columns)
    a.number (subst (λ key. SameKey key l.key) (sym a.key) (same_self l.key)) s

pub fresh_kept : (o : OptionsData) (m : Mark) (in_flow : Bool) (key : Option PossibleKey)
    → SameKey (fresh_key o in_flow m key) key
fresh_kept o m in_flow None = tt
fresh_kept o m in_flow (Some k) = on (is_stale o in_flow m k)
  where
    on : (v : Bool) → SameKey (if v then None else Some k) (Some k)
    on true = tt
    on false = (k, refl, refl, refl)

pub fresh_said : (o : OptionsData) (ls : List Lexeme) (s : ReaderState) → OpenSays ls s.laid
    → OpenSays ls (freshened o s).laid
fresh_said o ls s m = said_as ls s.laid (freshened o s).laid refl refl
    (fresh_kept o (mark_of s.here) (is_in_flow s.laid) s.laid.key) m

pub latest_noted : (x : Lexeme) (note : Option CommentRead) (ls : List Lexeme)
    → latest (OfLexeme x ∷ note_items note) ls ≡ x ∷ ls
latest_noted x None ls = refl
latest_noted x (Some c) ls = refl

pub reads_said : (o : OptionsData) (ls : List Lexeme) {s after : ReaderState} {items : List Item}
    → Reads o s items after → OpenSays ls s.laid → OpenSays (latest items ls) after.laid
reads_said o ls {s = s} (of_comment at g k) m = fresh_said o ls at (agrees_said ls s.laid at.laid (gap_agrees g) m)
reads_said o ls {s = s} (of_lexeme {items = items} at behind sort comes given keys) m =
    let f = freshened o at in
    let n = fresh_said o ls at (agrees_said ls s.laid at.laid (gap_agrees comes.gap) m) in
    let t = telling o (ends_column_by sort f) f.here _ sort items behind given.1 in
    let c = closed_held sort f.here f.laid in
    let v = lexeme_moved o sort f.here (closed_for sort f.here f.laid) t.lexeme t.cut t.reached behind.laid t.told
    t.says t.leaves in
    let d = changed ls f.laid t.lexeme behind.laid n (v.number ∙ c.0) (v.next ∙ ap suc c.0)
    (columns_change o sort f.here f.laid t.lexeme t.cut t.reached behind.laid t.told t.says t.leaves) in
    subst (λ (l : List Lexeme). OpenSays l (freshened o behind).laid)
    (sym (ap (λ (is : List Item). latest is ls) t.are ∙ latest_noted t.lexeme t.note ls))
    (fresh_said o (t.lexeme ∷ ls) behind d)

pub latest_joined : (items more : List Item) (ls : List Lexeme)
    → latest (items ++ more) ls ≡ latest more (latest items ls)
latest_joined [] more ls = refl
latest_joined (OfLexeme x ∷ is) more ls = latest_joined is more (x ∷ ls)
latest_joined (OfComment c ∷ is) more ls = latest_joined is more ls

reached_said : (o : OptionsData) (ls : List Lexeme) {s t : ReaderState} {items : List Item} → Reached o s items t
    → OpenSays ls s.laid → OpenSays (latest items ls) t.laid
reached_said o ls stops m = m
reached_said o ls {t = t} (goes_on next items more r last rest e) m =
    subst (λ (l : List Lexeme). OpenSays l t.laid)
    (sym (ap (λ (is : List Item). latest is ls) e ∙ latest_joined items more ls))
    (reached_said o (latest items ls) rest (reads_said o ls r m))

-- behind the lexemes of a text, the columns that are kept are the open ones
pub columns_said : (o : OptionsData) (h : Here) (items : List Item) (t : ReaderState)
    → Reached o (reader_start h) items t → ColumnsSay (latest items []) t.laid
columns_said o h items t r = (reached_said o [] r
    (record { columns = record { are_open = λ c p. p; are_kept = λ c p. p; fall = tt }; key = tt })).columns

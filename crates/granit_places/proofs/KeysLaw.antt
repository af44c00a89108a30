-- The flagged lexemes of a text fit: each keyed `:` names the last key start at its depth, and entries begin their
-- lines.
use Rattle.std.proofs.Common.{◌≡◌, ℕ, Bool, true, false, List, [], ◌∷◌, ◌++◌, Option, Some, None, refl, sym, ap, ◌∙◌}
use Rattle.std.proofs.Common.{subst}
use Rattle.std.specs.Prelude.{if◌then◌else◌}
use Rattle.granit_base.specs.Place.{Mark}
use Rattle.granit_error.specs.OptionsData.{OptionsData}
use Rattle.granit_lexemes.specs.Comment.{CommentRead}
use Rattle.granit_lexemes.specs.Here.{Here, mark_of}
use Rattle.granit_lexemes.specs.Lexeme.{KeyStart, Lexeme, Item, OfLexeme, OfComment}
use Rattle.granit_lexemes.specs.declared.layout.PossibleKey.{PossibleKey}
use Rattle.granit_machine.specs.Laid.{Laid}
use Rattle.granit_machine.specs.Lexing.{Flagging, is_nearest, others, and_key, flag_lexeme, flag_item, flagging}
use Rattle.granit_machine.specs.Lexing.{flagged}
use Rattle.granit_machine.specs.NodeLexemes.{note_items}
use Rattle.granit_machine.specs.PossibleKeys.{fresh, fresh_key, is_stale}
use Rattle.granit_machine.specs.ReaderState.{ReaderState, reader_start}
use Rattle.granit_language.specs.Before.{freshened, closed_for}
use Rattle.granit_language.specs.Fitting.{role_of, role_fits, keys_behind, ItemKeysFit, ItemLinesFit}
use Rattle.granit_language.specs.Reached.{ends_column_by, GivenAt, Reads, of_comment, of_lexeme, Reached, stops}
use Rattle.granit_language.specs.Reached.{goes_on}
use Rattle.granit_language.specs.Seen.{key_number}
use Rattle.granit_places.proofs.Choosing.{Held, Within, Below, below_within, Chosen, nones, chosen_none, chosen_within}
use Rattle.granit_places.proofs.Choosing.{and_number, pending, stepped, below_moves, role_key}
use Rattle.granit_places.proofs.Holding.{held, full, fresh-within}
use Rattle.granit_places.proofs.Moving.{Moved, agrees_held, lexeme_moved, closed_held}
use Rattle.granit_places.proofs.Telling.{gap_agrees, telling}

-- flagged items that fit where these keys are possible
record Fits (hs : Held) (y : Flagging) : Type 0 where
  ks : Held
  chosen : Chosen hs ks y.1
  keys : ItemKeysFit ks y.0
  lines : ItemLinesFit y.0

fits_within : (a b : Held) (y : Flagging) → Within a b → Fits a y → Fits b y
fits_within a b y p f = record {
  ks = f.ks;
  chosen = chosen_within a b f.ks y.1 p f.chosen;
  keys = f.keys;
  lines =
      f.lines;
}

comment_fits : (hs : Held) (c : CommentRead) (y : Flagging) → Fits hs y → Fits hs (flag_item (OfComment c) y)
comment_fits hs c y f = record { ks = f.ks; chosen = f.chosen; keys = (refl, f.keys); lines = (refl, f.lines) }

pub named : (key : Option KeyStart) (ns : List ℕ) → and_key key ns ≡ and_number (key_number key) ns
named None ns = refl
named (Some k) ns = refl

module _ (l after : Laid) (x : Lexeme) (m : Moved l x after) (y : Flagging) (f : Fits (held after) y) where
  as_chosen : (before : Held) (ns : List ℕ) → Chosen (held l) before (and_number (role_key (role_of x.kind x.key)) ns)
      → Chosen (held l) before (and_key x.key ns)
  as_chosen before ns c = subst (Chosen (held l) before) (sym (named x.key ns))
      (subst (λ key. Chosen (held l) before (and_number key ns)) (sym m.key) c)

  as_flagged : (flag : Bool) (before : Held) → (flag ≡ true → m.new ≡ true)
      → Chosen (held l) before (pending flag (role_of x.kind x.key) y.1)
      → role_fits (role_of x.kind x.key) before ≡ true → keys_behind (role_of x.kind x.key) flag l.number before ≡ f.ks
      → Fits (held l) (flag_lexeme flag x y)
  as_flagged true before b c k n = record {
    ks = before;
    chosen = as_chosen before (others y.1) c;
    keys = (
      k,
      subst (λ ks. ItemKeysFit ks y.0)
          (sym (ap (λ i. keys_behind (role_of x.kind x.key) true i before) m.number ∙ n)) f.keys,
    );
    lines = (m.lines true b, f.lines);
  }
  as_flagged false before b c k n = record {
    ks = before;
    chosen = as_chosen before y.1 c;
    keys = (
      k,
      subst (λ ks. ItemKeysFit ks y.0)
          (sym (ap (λ i. keys_behind (role_of x.kind x.key) false i before) m.number ∙ n)) f.keys,
    );
    lines = (m.lines false b, f.lines);
  }

  lexeme_fits : Below l.number (held l) → Fits (held l) (flag_item (OfLexeme x) y)
  lexeme_fits b =
      let t = stepped (role_of x.kind x.key) m.new l.number (held l) (held after) f.ks y.1 (full l) b m.moves
      f.chosen in
      subst (λ flag. Fits (held l) (flag_lexeme flag x y)) (sym (ap (λ n. is_nearest n y.1) m.number ∙ t.flags))
      (as_flagged t.flag t.before t.begun t.chosen t.fits t.next)

noted_fits : (l after : Laid) (x : Lexeme) (note : Option CommentRead) (more : List Item) → Below l.number (held l)
    → Moved l x after → Fits (held after) (flagging more)
    → Fits (held l) (flagging ((OfLexeme x ∷ note_items note) ++ more))
noted_fits l after x None more b m f = lexeme_fits l after x m (flagging more) f b
noted_fits l after x (Some c) more b m f = lexeme_fits l after x m (flag_item (OfComment c) (flagging more))
    (comment_fits (held after) c (flagging more) f) b

-- ---- one read

record ReadFits (l : Laid) (items : List Item) (after : Laid) : Type 0 where
  below : Below after.number (held after)
  fits : (more : List Item) → Fits (held after) (flagging more) → Fits (held l) (flagging (items ++ more))

-- the lexeme of a read moves the keys in front of it
pub given_moved : (o : OptionsData) (s : ReaderState) (items : List Item) (after : ReaderState)
    (sort : Rattle.granit_machine.specs.LexemeSort.LexemeSort) → GivenAt o sort s items after
    → (x : Lexeme) × (note : Option CommentRead) × (items ≡ OfLexeme x ∷ note_items note) × Moved s.laid x after.laid
given_moved o s items after sort given =
    let t = telling o (ends_column_by sort s) s.here _ sort items after given.1 in
    let c = closed_held sort s.here s.laid in
    let m = lexeme_moved o sort s.here (closed_for sort s.here s.laid) t.lexeme t.cut t.reached after.laid t.told t.says
    t.leaves in (
      t.lexeme,
      t.note,
      t.are,
      record {
        number = m.number ∙ c.0;
        next = m.next ∙ ap Rattle.std.proofs.Common.suc c.0;
        key = m.key;
        new = m.new;
        moves = subst (λ n. Rattle.granit_places.proofs.Choosing.Moves (role_of t.lexeme.kind t.lexeme.key) m.new n
            (held s.laid) (held after.laid)) c.0
            (subst (λ (hs : Held). Rattle.granit_places.proofs.Choosing.Moves (role_of t.lexeme.kind t.lexeme.key)
            m.new (closed_for sort s.here s.laid).number hs (held after.laid)) c.1 m.moves);
        lines = m.lines;
      },
    )

read_fits : (o : OptionsData) (s : ReaderState) {items : List Item} {after : ReaderState} → Reads o s items after
    → Below s.laid.number (held s.laid) → ReadFits s.laid items after.laid
read_fits o s (of_comment {comment = c} at g k) p =
    let a = gap_agrees g in
    let f = fresh o (mark_of at.here) at.laid in
    let w = subst (Within (held f)) (agrees_held a) (fresh-within o (mark_of at.here) at.laid) in
    record {
      below = below_within at.laid.number (held f) (held s.laid) w
          (subst (λ n. Below n (held s.laid)) (sym a.number) p);
      fits = λ more g. comment_fits (held s.laid) c (flagging more)
          (fits_within (held f) (held s.laid) (flagging more) w g);
    }
read_fits o s (of_lexeme {items = items} at behind sort comes given keys) p =
    let a = gap_agrees comes.gap in
    let f = (freshened o at).laid in
    let w = subst (Within (held f)) (agrees_held a) (fresh-within o (mark_of at.here) at.laid) in
    let q : Below f.number (held f) = below_within at.laid.number (held f) (held s.laid) w
    (subst (λ n. Below n (held s.laid)) (sym a.number) p) in
    let (x, note, are, m) = given_moved o (freshened o at) items behind sort given in
    let b = fresh-within o (mark_of behind.here) behind.laid in
    record {
      below = below_within behind.laid.number (held (freshened o behind).laid) (held behind.laid) b
          (subst (λ n. Below n (held behind.laid)) (sym m.next)
          (below_moves (role_of x.kind x.key) m.new f.number (held f) (held behind.laid) q m.moves));
      fits = λ more g. fits_within (held f) (held s.laid) (flagging (items ++ more)) w
          (subst (λ (l : List Item). Fits (held f) (flagging (l ++ more))) (sym are)
          (noted_fits f behind.laid x note more q m
          (fits_within (held (freshened o behind).laid) (held behind.laid) (flagging more) b g)));
    }

all_fit : (o : OptionsData) {s t : ReaderState} {items : List Item} → Reached o s items t
    → Below s.laid.number (held s.laid) → Fits (held s.laid) (flagging items)
all_fit o {s = s} stops p = record {
  ks = nones (held s.laid);
  chosen = chosen_none (held s.laid);
  keys = tt;
  lines =
      tt;
}
all_fit o {s = s} (goes_on after items more r last rest e) p =
    let f = read_fits o s r p in
    subst (λ (l : List Item). Fits (held s.laid) (flagging l)) (sym e) (f.fits more (all_fit o rest f.below))

first_keys : (ks : Held) (ns : List ℕ) → Chosen (None ∷ []) ks ns → ks ≡ None ∷ []
first_keys [] ns c = absurd c
first_keys (Some k ∷ ks) [] c = absurd c
first_keys (Some k ∷ ks) (n ∷ ns) c = absurd (let e = c.0 in cc)
first_keys (None ∷ []) ns c = refl
first_keys (None ∷ k ∷ ks) ns c = absurd (none k ks ns c)
  where
    none : (k : Option ℕ) (ks : Held) (ns : List ℕ) → Chosen [] (k ∷ ks) ns → ⊥
    none None ks ns c = c
    none (Some n) ks ns c = c

-- the flagged items of a text fit
pub keys_fit : (o : OptionsData) (h : Here) (items : List Item) (t : ReaderState) → Reached o (reader_start h) items t
    → ItemKeysFit (None ∷ []) (flagged items)
keys_fit o h items t r = let f = all_fit o r tt in subst (λ ks. ItemKeysFit ks (flagged items))
    (first_keys f.ks _ f.chosen) f.keys

pub lines_fit : (o : OptionsData) (h : Here) (items : List Item) (t : ReaderState) → Reached o (reader_start h) items t
    → ItemLinesFit (flagged items)
lines_fit o h items t r = (all_fit o r tt).lines

pub fresh_some : (o : OptionsData) (f : Bool) (m : Mark) (key : Option PossibleKey) (k : PossibleKey) →
    fresh_key o f m key ≡ Some k → key ≡ Some k
fresh_some o f m None k e = e
fresh_some o f m (Some j) k e = on (is_stale o f m j) e
  where
    on : (v : Bool) → ◌≡◌ {A = Option PossibleKey} (if v then None else Some j) (Some k) → Some j ≡ Some k
    on true e = absurd cc
    on false e = e

-- Where reading stands in block text: in a line right of the open columns, or at the front of a line. No possible key
-- is required, and at the front of a line each began on an earlier one.
use Rattle.std.proofs.Common.{Bool, List, Option, [], ap, arith, false, map, not, refl, subst, suc, sym, true}
use Rattle.std.proofs.Common.{ℕ, ◌&&◌, ◌++◌, ◌+◌, ◌<◌, ◌||◌, ◌∙◌, ◌∷◌, ◌≡◌, ◌≤◌}
use Rattle.std.proofs.lemmas.Bool.Decides.{nat_tests}
use Rattle.std.specs.Prelude.{None, Some, if◌then◌else◌, nat_lt}
use Rattle.granit_base.specs.Classes.{is_blank}
use Rattle.granit_base.specs.Place.{Mark, Place, first}
use Rattle.granit_block_lines.proofs.Lines.{along_one, line_gap, over_line, space_flat}
use Rattle.granit_canonical_steps.proofs.Calm.{Mild, some_same}
use Rattle.granit_canonical_steps.proofs.Places.{Held, Starts, blank_feed, blank_space, past_all, space_gap}
use Rattle.granit_error.specs.OptionsData.{OptionsData}
use Rattle.granit_generator.specs.BlockText.{indent}
use Rattle.granit_language.specs.Stretch.{TailIf}
use Rattle.granit_lexemes.proofs.CharTests.{solid_no_blank}
use Rattle.granit_lexemes.specs.Gap.{IsGap}
use Rattle.granit_lexemes.specs.HeaderExtent.{LexemeTail, uncommented}
use Rattle.granit_lexemes.specs.Here.{Here}
use Rattle.granit_lexemes.specs.PlainExtent.{over}
use Rattle.granit_lexemes.specs.declared.layout.Bracket.{Bracket}
use Rattle.granit_lexemes.specs.declared.layout.OpenBracket.{OpenBracket}
use Rattle.granit_lexemes.specs.declared.layout.PossibleKey.{PossibleKey}
use Rattle.granit_machine.specs.Laid.{is_nonempty}
use Rattle.granit_machine.specs.PossibleKeys.{fresh_bracket, fresh_key, is_stale}
use Rattle.granit_machine.specs.ReaderState.{ReaderState}
use Rattle.granit_canonical_steps.proofs.Places.{cols}
use Rattle.granit_canonical_steps.proofs.Places.{fresh_some}

-- ---- keys

-- a key that needs no `:`, and began on this line or before it
abbrev pub Kept : Option PossibleKey → ℕ → Type 0
Kept key n = (k : PossibleKey) → key ≡ Some k → (k.is_required ≡ false) × (k.start.place.line ≤ n)

-- the same, and it began before this line
abbrev pub Past : Option PossibleKey → ℕ → Type 0
Past key n = (k : PossibleKey) → key ≡ Some k → (k.is_required ≡ false) × (k.start.place.line < n)

pub none_kept : (n : ℕ) → Kept None n
none_kept n k e = absurd cc

pub none_past : (n : ℕ) → Past None n
none_past n k e = absurd cc

pub one_kept : (k : PossibleKey) (n : ℕ) → k.is_required ≡ false → k.start.place.line ≤ n → Kept (Some k) n
one_kept k n p q j e =
    subst (λ (j : PossibleKey). (j.is_required ≡ false) × (j.start.place.line ≤ n)) (some_same k j e) (p, q)

pub kept_on : (key : Option PossibleKey) (n m : ℕ) → n ≡ m → Kept key m → Kept key n
kept_on key n m e h k f = let r = h k f in let q = r.1 in (r.0, omega (arith, e, q))

-- ---- places

-- in a line, in a column from m on
pub record NodeAt (m : ℕ) (key : Option PossibleKey) (p : Here) : Type 0 where
  pub right : m ≤ p.place.column
  pub tab : p.tab ≡ None
  pub kept : Kept key p.place.line

-- in column n, with nothing but spaces before it on its line
pub record LineAt (n : ℕ) (key : Option PossibleKey) (p : Here) : Type 0 where
  pub column : p.place.column ≡ n
  pub begins : p.begins_line ≡ true
  pub tab : p.tab ≡ None
  pub past : Past key p.place.line

pub data Where : Type 0 where
  OnLine Begun : ℕ → Where

abbrev pub Lies : Where → Option PossibleKey → Here → Type 0
Lies (OnLine m) key p = NodeAt m key p
Lies (Begun n) key p = LineAt n key p

-- the same of a column
abbrev pub InColumn : Where → ℕ → Type 0
InColumn (OnLine m) c = m ≤ c
InColumn (Begun n) c = c ≡ n

pub lies_column : (w : Where) (key : Option PossibleKey) (p : Here) → Lies w key p → InColumn w p.place.column
lies_column (OnLine m) key p h = h.right
lies_column (Begun n) key p h = h.column

pub lies_tab : (w : Where) (key : Option PossibleKey) (p : Here) → Lies w key p → p.tab ≡ None
lies_tab (OnLine m) key p h = h.tab
lies_tab (Begun n) key p h = h.tab

pub lies_mild : (w : Where) (key : Option PossibleKey) (p : Here) → Lies w key p → Mild key
lies_mild (OnLine m) key p h k e = (h.kept k e).0
lies_mild (Begun n) key p h k e = (h.past k e).0

pub lies_fresh : (w : Where) (o : OptionsData) (in_flow : Bool) (m : Mark) (key : Option PossibleKey) (p : Here)
    → Lies w key p → Lies w (fresh_key o in_flow m key) p
lies_fresh (OnLine n) o in_flow m key p h = record {
  right = h.right;
  tab = h.tab;
  kept = λ k e. h.kept k (fresh_some o in_flow m key k e);
}
lies_fresh (Begun n) o in_flow m key p h = record {
  column = h.column;
  begins = h.begins;
  tab = h.tab;
  past = λ k e. h.past k (fresh_some o in_flow m key k e);
}

-- outside brackets no key is left at the front of a line
abbrev pub Fresh : Where → List Bracket → Option PossibleKey → Type 0
Fresh (OnLine m) bs key = Unit {0}
Fresh (Begun n) [] key = key ≡ None
Fresh (Begun n) (b ∷ bs) key = Unit {0}

stale_line : (a v : Bool) (key : Option PossibleKey) → v ≡ true → (if a || (not false && v) then None else key) ≡ None
stale_line true v key e = refl
stale_line false true key e = refl
stale_line false false key e = absurd cc

past_gone : (o : OptionsData) (m : Mark) (key : Option PossibleKey) → Past key m.place.line
    → fresh_key o false m key ≡ None
unfolding is_stale
past_gone o m None h = refl
past_gone o m (Some k) h =
    let r = (h k refl).1 in
    stale_line (nat_lt (k.start.place.index + o.simple_key_max_lookahead) m.place.index)
    (nat_lt k.start.place.line m.place.line) (Some k) (grind (arith, nat_tests))

-- at most one bracket is open, with no key in it
pub data Around : List Bracket → List OpenBracket → Type 0 where
  outside : Around [] []
  inside : (b : Bracket) (m : Mark) → Around (b ∷ []) (record { bracket = b; mark = m; key = None } ∷ [])

pub fresh_around : (o : OptionsData) (m : Mark) (bs : List Bracket) (obs : List OpenBracket) → Around bs obs
    → Around bs (map (fresh_bracket o m) obs)
fresh_around o m _ _ outside = outside
fresh_around o m _ _ (inside b n) = inside b n

pub around_none : (obs : List OpenBracket) → Around [] obs → obs ≡ []
around_none _ outside = refl

pub outside_flow : (obs : List OpenBracket) → Around [] obs → is_nonempty obs ≡ false
outside_flow _ outside = refl

pub lies_gone : (w : Where) (bs : List Bracket) (o : OptionsData) (m : Mark) (key : Option PossibleKey) (p : Here)
    (obs : List OpenBracket) → Around bs obs → m.place ≡ p.place → Lies w key p
    → Fresh w bs (fresh_key o (is_nonempty obs) m key)
lies_gone (OnLine n) bs o m key p obs s e h = tt
lies_gone (Begun n) (b ∷ bs) o m key p obs s e h = tt
lies_gone (Begun n) [] o m key p obs s e h =
    ap (λ v. fresh_key o v m key) (outside_flow obs s)
    ∙ past_gone o m key (subst (λ (q : Place). Past key q.line) (sym e) h.past)

-- ---- what stands behind a lexeme

-- a space, or a line's end and the spaces that begin the next one
pub data Behind : List ℕ → Type 0 where
  spaced : Behind (0x20 ∷ [])
  fed_to : (c : ℕ) → Behind (0x0A ∷ indent c [])

-- where it leads to, from a column on
abbrev pub leads : {g : List ℕ} → Behind g → ℕ → Where
leads spaced m = OnLine m
leads (fed_to c) m = Begun c

pub behind_gap_is : {g : List ℕ} → Behind g → IsGap g
behind_gap_is spaced = space_gap
behind_gap_is (fed_to c) = line_gap c

pub lands : {g : List ℕ} (b : Behind g) (m : ℕ) (rest : List ℕ) (key : Option PossibleKey) (e : Here)
    → e.unread.text ≡ g ++ rest → NodeAt m key e → Lies (leads b m) key (over g e)
lands spaced m rest key e t n =
    let a = along_one 0x20 rest e t space_flat in
    let r = n.right in
    let c = (a.0).column in record {
      right = omega (arith, r, c);
      tab = (a.0).tab n.tab;
      kept = kept_on key (over (0x20 ∷ []) e).place.line e.place.line (a.0).line n.kept;
    }
lands (fed_to c) m rest key e t n =
    let b = over_line c rest e t in
    let l = b.on in record {
      column = b.column;
      begins = b.begins;
      tab = b.tab;
      past = λ k f. let r = n.kept k f in let q = r.1 in (r.0, omega (arith, l, q));
    }

-- ---- columns

-- the first column that is right of all open ones
abbrev pub bound : List ℕ → ℕ
bound [] = 0
bound (c ∷ cs) = suc c

-- those that a lexeme in a column leaves open
abbrev pub up_to : ℕ → List ℕ → List ℕ
up_to n [] = []
up_to n (c ∷ cs) = if nat_lt n c then up_to n cs else c ∷ cs

-- ---- reading stands in a text before a place where a lexeme begins

pub record Ready (x next : List ℕ) (bs : List Bracket) (cs : List ℕ) (w : Where) (s : ReaderState) : Type 0 where
  pub gap : List ℕ
  pub held : Held x s.here
  pub text : s.here.unread.text ≡ gap ++ next
  pub is_gap : IsGap gap
  pub lies : Lies w s.laid.key (over gap s.here)
  pub around : Around bs s.laid.brackets
  pub columns : cols s.laid.columns ≡ cs
  pub cut : s.laid.cut ≡ None

-- and at that place
pub record Arrived (x from : List ℕ) (bs : List Bracket) (cs : List ℕ) (w : Where) (t : ReaderState) : Type 0 where
  pub held : Held x t.here
  pub text : t.here.unread.text ≡ from
  pub lies : Lies w t.laid.key t.here
  pub fresh : Fresh w bs t.laid.key
  pub around : Around bs t.laid.brackets
  pub columns : cols t.laid.columns ≡ cs
  pub cut : t.laid.cut ≡ None

-- ---- tails

-- a lexeme's tail in front of what stands behind it
pub record TailRead (x g : List ℕ) (w : Where) (rest : List ℕ) (key : Option PossibleKey) (e : Here) : Type 0 where
  pub after : Here
  pub gap : List ℕ
  pub tail : LexemeTail e None after
  -- where it is asked for behind a blank alone
  pub asked : TailIf (is_blank (first (g ++ rest))) e None after
  pub held : Held x after
  pub text : after.unread.text ≡ gap ++ rest
  pub is_gap : IsGap gap
  pub lies : Lies w key (over gap after)
  pub tab : after.tab ≡ None

pub tail_read : {g : List ℕ} (x : List ℕ) (b : Behind g) (m : ℕ) (rest : List ℕ) (key : Option PossibleKey) (e : Here)
    → Starts rest → Held x e → e.unread.text ≡ g ++ rest → NodeAt m key e → TailRead x g (leads b m) rest key e
unfolding is_blank
tail_read x spaced m rest key e s held t n =
    let p = past_all x (0x20 ∷ []) rest e t held in
    let l = lands spaced m rest key e t n in
    let tail : LexemeTail e None (over (0x20 ∷ []) e) = uncommented (0x20 ∷ []) rest
    (record { whole = t; each = blank_space; all = solid_no_blank (first rest) s.no_gap }) s.no_comment refl in record {
      after = over (0x20 ∷ []) e;
      gap = [];
      tail = tail;
      asked = tail;
      held = p.held;
      text = p.text;
      is_gap = tt;
      lies = l;
      tab = l.tab;
    }
tail_read x (fed_to c) m rest key e s held t n = record {
  after = e;
  gap = 0x0A ∷ indent c [];
  tail = uncommented [] ((0x0A ∷ indent c []) ++ rest) (record { whole = t; each = tt; all = blank_feed }) refl refl;
  asked = (refl, refl);
  held = held;
  text = t;
  is_gap = line_gap c;
  lies = lands (fed_to c) m rest key e t n;
  tab = n.tab;
}

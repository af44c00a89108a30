-- The tokens of what is read pass what is open, read by read.
use Rattle.std.proofs.Common.{◌≡◌, ℕ, Bool, true, false, List, [], ◌∷◌, ◌++◌, drop, map, Option, Some, None}
use Rattle.std.proofs.Common.{refl, sym, ap, ◌∙◌, subst}
use Rattle.granit_views.specs.Fair.{is_key_part}
use Rattle.granit_error.specs.OptionsData.{OptionsData}
use Rattle.granit_language.specs.Before.{freshened, closed_for}
use Rattle.granit_language.specs.Fitting.{role_of, outer_keys}
use Rattle.granit_language.specs.Reached.{ends_column_by, Reads, of_comment, of_lexeme}
use Rattle.granit_language.specs.Scope.{no_scope}
use Rattle.granit_language.specs.Seen.{Flagged, terminal_kind, at_of, lexemes_flagged, key_number}
use Rattle.granit_lexemes.specs.Comment.{CommentRead}
use Rattle.granit_lexemes.specs.Here.{mark_of}
use Rattle.granit_lexemes.specs.Lexeme.{LexemeKind, Open, Close, Colon, Alias, Anchor, Tag, Scalar, KeyStart, Lexeme}
use Rattle.granit_lexemes.specs.Lexeme.{Item}
use Rattle.granit_lexemes.specs.Lexeme.{OfLexeme, OfComment}
use Rattle.granit_lexemes.specs.declared.layout.Bracket.{Bracket}
use Rattle.granit_lexemes.specs.declared.layout.OpenBracket.{OpenBracket}
use Rattle.granit_lexemes.specs.declared.layout.PossibleKey.{PossibleKey}
use Rattle.granit_machine.specs.Items.{has_key}
use Rattle.granit_machine.specs.Laid.{Laid, is_opener, is_nonempty}
use Rattle.granit_machine.specs.Lexing.{FlaggedItem, Flagging, is_nearest, flag_lexeme, flag_item, flagging}
use Rattle.granit_machine.specs.NodeLexemes.{note_items}
use Rattle.granit_machine.specs.ReaderState.{ReaderState}
use Rattle.granit_places.proofs.Choosing.{Held, Within, Below, below_within, below_others, Chosen, nones, chosen_none}
use Rattle.granit_places.proofs.Choosing.{chosen_within, not_nearest, Moves, role_key, stepped}
use Rattle.granit_places.proofs.Holding.{held_in, held, full, fresh-within}
use Rattle.granit_places.proofs.Moving.{agrees_held, lexeme_moved, closed_held}
use Rattle.granit_places.proofs.Telling.{gap_agrees, telling}
use Rattle.granit_steps.specs.Flags.{is_keyed, flags}
use Rattle.granit_steps.specs.Tokens.{tokens_of, pairs_of, begins_single, with_pair_if, StateItem, item_in, tokens}
use Rattle.granit_order.specs.FrameColumns.{flag_before}
use Rattle.granit_order.specs.Order.{may_follow, closes_innermost, due_behind}
use Rattle.granit_order.proofs.BracketsKept.{fresh_kinds, closed_same}
use Rattle.granit_order.proofs.BracketsPassed.{kinds_in, Passed, passed}
use Rattle.granit_order.proofs.ColumnLists.{KeysTo, columns_behind, edges}
use Rattle.granit_order.proofs.KeysKept.{due_of, Aim, KeyFits}
use Rattle.granit_order.proofs.KeysMoved.{outer_in, clash}
use Rattle.granit_tokens.proofs.Laying.{Fresh, lexeme_passes, pairs_after}
use Rattle.granit_tokens.proofs.Openings as openings
use Rattle.granit_tokens.proofs.Openings.{Openings, passed_both}
use Rattle.granit_tokens.specs.Keys.{is_keyed_kind}
use Rattle.granit_tokens.proofs.Stacks.{open_at, IsFlaggedNode, DueFits, PairsInside, fresh_behind}

-- ---- which lexemes a key begins with

no_flag : {A : Type 0} (n : ℕ) (hs ks : Held) (ns : List ℕ) → Below n hs → Chosen hs ks ns → (flag : Bool)
    → is_nearest n ns ≡ flag → flag ≡ true → A
no_flag n hs ks ns b c flag e f = absurd (let g = not_nearest n hs ks ns b c in cc (e, f, g))

node_flag : (kind : LexemeKind) (key : Option KeyStart) (new : Bool) (n : ℕ) (hs gs ks : Held) (ns : List ℕ)
    → Below n hs → Moves (role_of kind key) new n hs gs → Chosen gs ks ns → (flag : Bool) → is_nearest n ns ≡ flag
    → IsFlaggedNode flag kind key
node_flag (Open bracket) key new n hs gs ks ns b m c flag e f = f
node_flag (Alias name) key new n hs gs ks ns b m c flag e f = f
node_flag (Anchor name) key new n hs gs ks ns b m c flag e f = f
node_flag (Tag handle suffix) key new n hs gs ks ns b m c flag e f = f
node_flag (Scalar style text) key new n hs gs ks ns b m c flag e f = f
node_flag (Close bracket) key new n hs gs ks ns b m c flag e f =
    no_flag n gs ks ns (below_within n gs (outer_keys hs) m (below_others n hs b)) c flag e f
node_flag Colon (Some k) new n hs gs ks ns b m c flag e f =
    no_flag n gs ks ns (below_within n gs (None ∷ outer_keys hs) m.1 (below_others n hs b)) c flag e f
node_flag Colon None new n hs gs ks ns b m c flag e f =
    no_flag n gs ks ns (below_within n gs hs m b) c flag e f
node_flag kind key new n hs gs ks ns b m c flag e f = no_flag n gs ks ns (below_within n gs hs m b) c flag e f

-- ---- no lexeme but a `:` has a key

only_colons : (kind : LexemeKind) (key : Option KeyStart) → key_number key ≡ role_key (role_of kind key)
    → has_key key ≡ is_keyed_kind kind key
only_colons Colon key e = refl
only_colons kind None e = refl
only_colons kind (Some k) e = absurd cc

abbrev pub HasOwnKeys : List Item → Type 0
HasOwnKeys [] = Unit {0}
HasOwnKeys (OfLexeme x ∷ is) = (has_key x.key ≡ is_keyed_kind x.kind x.key) × HasOwnKeys is
HasOwnKeys (OfComment c ∷ is) = HasOwnKeys is

-- what a read says of its lexeme
pub record Said (s : Laid) (x : Lexeme) (after : Laid) : Type 0 where
  pub keyed : has_key x.key ≡ is_keyed_kind x.kind x.key
  pub closes : closes_innermost (terminal_kind x.kind x.key) (kinds_in s.brackets) ≡ true
  pub last : is_nonempty (kinds_in after.brackets) ≡ true
      → is_opener after.last ≡ may_follow (terminal_kind x.kind x.key)
  pub node : (ks : Held) (ns : List ℕ) → Chosen (held after) ks ns → (flag : Bool) → is_nearest x.number ns ≡ flag
      → IsFlaggedNode flag x.kind x.key
  pub opener : (ks : Held) (ns : List ℕ) → Chosen (held after) ks ns → (flag : Bool) → is_nearest x.number ns ≡ flag
      → is_nonempty (kinds_in s.brackets) ≡ true → flag ≡ true → is_opener s.last ≡ true

-- by the state in front of the lexeme, and the one behind it
said_by : (s l behind after : Laid) (x : Lexeme) → kinds_in l.brackets ≡ kinds_in s.brackets
    → is_opener l.last ≡ is_opener s.last → x.number ≡ l.number → Below l.number (held l) → Passed l x behind
    → kinds_in after.brackets ≡ kinds_in behind.brackets → is_opener after.last ≡ is_opener behind.last
    → Within (held after) (held behind) → key_number x.key ≡ role_key (role_of x.kind x.key) → Said s x after
said_by s l behind after x k a n b p j d w h = record {
  keyed = only_colons x.kind x.key h;
  closes = ap (λ kind. closes_innermost kind (kinds_in s.brackets)) p.term_is
      ∙ ap (closes_innermost p.term) (sym k) ∙ p.closes;
  last = λ e. d ∙ p.last (sym (ap (λ (bs : List Bracket). is_nonempty bs) j) ∙ e) ∙ ap may_follow (sym p.term_is);
  node = λ ks ns c flag e. node_flag x.kind x.key p.new l.number (held l) (held behind) ks ns b p.moves
      (chosen_within (held after) (held behind) ks ns w c) flag (sym (ap (λ n. is_nearest n ns) n) ∙ e);
  opener = λ ks ns c flag e f g.
      sym a ∙ opens ks ns flag (chosen_within (held after) (held behind) ks ns w c)
      (sym (ap (λ n. is_nearest n ns) n) ∙ e) (ap (λ (bs : List Bracket). is_nonempty bs) k ∙ f) g;
}
  where
    opens : (ks : Held) (ns : List ℕ) (flag : Bool) → Chosen (held behind) ks ns → is_nearest l.number ns ≡ flag
        → is_nonempty (kinds_in l.brackets) ≡ true → flag ≡ true → is_opener l.last ≡ true
    opens ks ns flag c e f g =
        let t = stepped (role_of x.kind x.key) p.new l.number (held l) (held behind) ks ns (full l) b p.moves c in
        let same : flag ≡ t.flag = sym e ∙ t.flags in
        let node = node_flag x.kind x.key p.new l.number (held l) (held behind) ks ns b p.moves c flag e g in
        on (is_opener l.last) refl (λ q. clash (is_key_part p.term flag)
        (sym (ap (λ kind. is_key_part kind flag) p.term_is) ∙ node)
        (p.begins flag (λ u. t.begun (sym same ∙ u)) f q))
      where
        on : (v : Bool) → is_opener l.last ≡ v → (is_opener l.last ≡ false → is_opener l.last ≡ true)
            → is_opener l.last ≡ true
        on true h q = h
        on false h q = q h

-- ---- one read

pub data ReadSays (s after : Laid) : List Item → Type 0 where
  of_note : (c : CommentRead) → is_opener after.last ≡ is_opener s.last → ReadSays s after (OfComment c ∷ [])
  of_one : (x : Lexeme) (note : Option CommentRead) → Said s x after
      → ReadSays s after (OfLexeme x ∷ note_items note)

pub read_says : (o : OptionsData) (s after : ReaderState) (items : List Item) → Reads o s items after
    → Below s.laid.number (held s.laid) → ReadSays s.laid after.laid items
read_says o s after items (of_comment {comment = c} at g k) p = of_note c (gap_agrees g).last.opener
read_says o s after items (of_lexeme at behind sort comes given keys) p =
    let a = gap_agrees comes.gap in
    let h = at.here in
    let f = (freshened o at).laid in
    let w = subst (Within (held f)) (agrees_held a) (fresh-within o (mark_of h) at.laid) in
    let q : Below f.number (held f) = below_within at.laid.number (held f) (held s.laid) w
    (subst (λ n. Below n (held s.laid)) (sym a.number) p) in
    let c = closed_for sort h f in
    let v = closed_held sort h f in
    let u = closed_same sort h f in
    let t = telling o (ends_column_by sort (freshened o at)) h _ sort items behind given.1 in
    let m = lexeme_moved o sort h c t.lexeme t.cut t.reached behind.laid t.told t.says t.leaves in
    let g = passed o h c t.lexeme t.cut t.reached behind.laid m sort t.says t.leaves in
    let r : Below c.number (held c) = subst (λ n. Below n (held c)) (sym v.0)
    (subst (λ hs. Below f.number hs) (sym v.1) q) in
    subst (ReadSays s.laid (freshened o behind).laid) (sym t.are)
    (of_one t.lexeme t.note (said_by s.laid c behind.laid (freshened o behind).laid t.lexeme
    (u.0 ∙ fresh_kinds o (mark_of h) at.laid.brackets ∙ ap kinds_in a.brackets) (u.1 ∙ a.last.opener) m.number r g
    (fresh_kinds o (mark_of behind.here) behind.laid.brackets) refl
    (fresh-within o (mark_of behind.here) behind.laid) m.key))

-- ---- the tokens of the items from a state on

pub record Goes (s : Laid) (xs : List StateItem) (t : Laid) : Type 0 where
  pub ks : Held
  pub chosen : Chosen (held s) ks (flagging (map item_in xs)).1
  pub keyed : HasOwnKeys (map item_in xs)
  pub passes : (ps : List Bool) → PairsInside (kinds_in s.brackets) ps → Fresh (kinds_in s.brackets) s ps
      → DueFits (due_of s ks) (edges s)
      → (qs : List Bool) × (openings.passed (tokens ps xs) (open_at (kinds_in s.brackets) ps (due_of s ks) (edges s))
      ≡ Some (open_at (kinds_in t.brackets) qs None (edges t)))

none_chosen : (bs : List OpenBracket) (key : Option PossibleKey)
    → outer_in (kinds_in bs) (nones (held_in bs key)) ≡ None
none_chosen [] key = refl
none_chosen (b ∷ bs) key = none_chosen bs key

pub goes_nothing : (s : Laid) → Goes s [] s
goes_nothing s = record {
  ks = nones (held s);
  chosen = chosen_none (held s);
  keyed = tt;
  passes = λ ps pairs opener fits. (
    ps,
    ap (λ k. Some (open_at (kinds_in s.brackets) ps (Rattle.granit_order.proofs.KeysMoved.due_by_key k s.key)
        (edges s))) (none_chosen s.brackets s.key),
  );
}

-- a comment of the same read
goes_noted : (s u t : Laid) (c : CommentRead) (xs : List StateItem) → Goes u xs t → Goes u ((s, OfComment c) ∷ xs) t
goes_noted s u t c xs g = record { ks = g.ks; chosen = g.chosen; keyed = g.keyed; passes = g.passes }

-- what is read from a state leads to another
abbrev pub Leads : Laid → Laid → Held → Aim
Leads u s ks bs due cs = (bs ≡ kinds_in u.brackets) × (due ≡ due_of u ks) × (cs ≡ edges u)

goes_comment : (s u t : Laid) (c : CommentRead) (xs : List StateItem) (g : Goes u xs t)
    → is_opener u.last ≡ is_opener s.last → (ks : Held) → Chosen (held s) ks (flagging (map item_in xs)).1
    → Leads u s g.ks (kinds_in s.brackets) (due_of s ks) (edges s) → Goes s ((s, OfComment c) ∷ xs) t
goes_comment s u t c xs g a ks chosen l = record {
  ks = ks;
  chosen = chosen;
  keyed = g.keyed;
  passes = λ ps pairs opener fits.
      let r = g.passes ps (subst (λ bs. PairsInside bs ps) l.0 pairs)
      (λ e f. opener (ap (λ (bs : List Bracket). is_nonempty bs) l.0 ∙ e) (sym a ∙ f))
      (subst (λ cs. DueFits (due_of u g.ks) cs) l.2 (subst (λ due. DueFits due (edges s)) l.1 fits)) in (
        r.0,
        ap (λ bs. openings.passed (tokens ps xs) (open_at bs ps (due_of s ks) (edges s))) l.0
            ∙ ap (λ due. openings.passed (tokens ps xs) (open_at (kinds_in u.brackets) ps due (edges s))) l.1
            ∙ ap (λ cs. openings.passed (tokens ps xs) (open_at (kinds_in u.brackets) ps (due_of u g.ks) cs)) l.2
            ∙ r.1,
      );
}

module _ (s u t : Laid) (x : Lexeme) (xs : List StateItem) (g : Goes u xs t) (said : Said s x u) (ks : Held)
    (chosen : Chosen (held s) ks (flagging (OfLexeme x ∷ map item_in xs)).1)
    (leads : (flag : Bool) → is_nearest x.number (flagging (map item_in xs)).1 ≡ flag
    → KeysTo (Leads u s g.ks) ((x, flag) ∷ []) no_scope (kinds_in s.brackets) (due_of s ks) (edges s))
    (begun : is_keyed x.number (map item_in xs) ≡ is_nearest x.number (flagging (map item_in xs)).1) where
  abbrev flag : Bool
  flag = is_keyed x.number (map item_in xs)

  abbrev ns : List ℕ
  ns = (flagging (map item_in xs)).1

  goes_lexeme : Goes s ((s, OfLexeme x) ∷ xs) t
  goes_lexeme = record {
    ks = ks;
    chosen = chosen;
    keyed = (said.keyed, g.keyed);
    passes = λ ps pairs opener fits.
        let k = leads flag (sym begun) in
        let l = k.1 in
        let node = said.node g.ks ns g.chosen flag (sym begun) in
        let qs = pairs_of s flag ps (OfLexeme x) in
        let p = lexeme_passes s x flag ps node (kinds_in s.brackets) (due_of s ks) refl said.closes
        (said.opener g.ks ns g.chosen flag (sym begun)) k.0 pairs opener fits in
        let after = pairs_after s x flag ps node (kinds_in s.brackets) refl said.closes pairs in
        let r = g.passes qs (subst (λ bs. PairsInside bs qs) l.0 after)
        (λ e f. fresh_behind x.kind x.key (with_pair_if (begins_single flag x s) ps) (sym (said.last e) ∙ f))
        (subst (λ cs. DueFits (due_of u g.ks) cs) l.2 (subst (λ due. DueFits due
        (columns_behind (kinds_in s.brackets) (terminal_kind x.kind x.key) (at_of flag no_scope x) (due_of s ks)
        (edges s))) l.1 p.fits)) in (
          r.0,
          passed_both (tokens_of s flag ps (OfLexeme x)) (tokens qs xs)
              (open_at (kinds_in s.brackets) ps (due_of s ks) (edges s))
              (open_at (kinds_in u.brackets) qs (due_of u g.ks) (edges u)) _
              (p.tokens
              ∙ ap (λ bs. Some (open_at bs qs
              (due_behind (kinds_in s.brackets) (terminal_kind x.kind x.key) (at_of flag no_scope x) (due_of s ks))
              (columns_behind (kinds_in s.brackets) (terminal_kind x.kind x.key) (at_of flag no_scope x) (due_of s ks)
              (edges s)))) l.0
              ∙ ap (λ due. Some (open_at (kinds_in u.brackets) qs due
              (columns_behind (kinds_in s.brackets) (terminal_kind x.kind x.key) (at_of flag no_scope x) (due_of s ks)
              (edges s)))) l.1
              ∙ ap (λ cs. Some (open_at (kinds_in u.brackets) qs (due_of u g.ks) cs)) l.2) r.1,
        );
  }

-- ---- flags

abbrev head_flag : List FlaggedItem → Bool
head_flag [] = false
head_flag (f ∷ fs) = f.begins_key

flag_there : (b : Bool) (x : Lexeme) (y : Flagging) → head_flag (flag_lexeme b x y).0 ≡ b
flag_there true x y = refl
flag_there false x y = refl

flags_behind : (b : Bool) (x : Lexeme) (y : Flagging) → drop 1 (flag_lexeme b x y).0 ≡ y.0
flags_behind true x y = refl
flags_behind false x y = refl

abbrev pub SameFlags : List Item → Type 0
SameFlags is = (flagging is).0 ≡ flags is

pub begun_there : (x : Lexeme) (is : List Item) → SameFlags (OfLexeme x ∷ is)
    → is_keyed x.number is ≡ is_nearest x.number (flagging is).1
begun_there x is e =
    sym (ap head_flag e) ∙ flag_there (is_nearest x.number (flagging is).1) x (flagging is)

pub flags_on : (x : Lexeme) (is : List Item) → SameFlags (OfLexeme x ∷ is) → SameFlags is
flags_on x is e =
    sym (flags_behind (is_nearest x.number (flagging is).1) x (flagging is))
    ∙ ap (λ (fs : List FlaggedItem). drop 1 fs) e

pub flags_noted : (c : CommentRead) (is : List Item) → SameFlags (OfComment c ∷ is) → SameFlags is
flags_noted c is e = ap (λ (fs : List FlaggedItem). drop 1 fs) e

pub tail_flags : (items more : List Item) → SameFlags (items ++ more) → SameFlags more
tail_flags [] more e = e
tail_flags (OfLexeme x ∷ is) more e = tail_flags is more (flags_on x (is ++ more) e)
tail_flags (OfComment c ∷ is) more e = tail_flags is more (flags_noted c (is ++ more) e)

-- ---- all items of one read

one_flagged : (b : Bool) (x : Lexeme) (y : Flagging)
    → lexemes_flagged (flag_lexeme b x y).0 ≡ (x, b) ∷ lexemes_flagged y.0
one_flagged true x y = refl
one_flagged false x y = refl

same_numbers : (b : Bool) (x : Lexeme) (y z : Flagging) → y.1 ≡ z.1
    → (flag_lexeme b x y).1 ≡ (flag_lexeme b x z).1
same_numbers true x y z e = ap (λ ns. Rattle.granit_machine.specs.Lexing.and_key x.key
    (Rattle.granit_machine.specs.Lexing.others ns)) e
same_numbers false x y z e = ap (λ ns. Rattle.granit_machine.specs.Lexing.and_key x.key ns) e

abbrev pub with_state : Laid → List Item → List StateItem
with_state s items = map (λ (i : Item). (s, i)) items

pub same_items : (s : Laid) (items : List Item) (xs : List StateItem)
    → map item_in (with_state s items ++ xs) ≡ items ++ map item_in xs
same_items s [] xs = refl
same_items s (i ∷ is) xs = ap (λ (is : List Item). i ∷ is) (same_items s is xs)

-- nothing flagged, and the numbers of the keys that are wanted behind it
abbrev pub behind_all : List StateItem → Flagging
behind_all xs = ([], (flagging (map item_in xs)).1)

module _ (s u t : Laid) (xs : List StateItem) (g : Goes u xs t) where
  abbrev pub Fitted : List Item → Type 0
  Fitted items = KeyFits (Leads u s g.ks) s (edges s) (flag_before items (behind_all xs))

  -- a lexeme, behind which the items to come are these
  one_goes : (x : Lexeme) (ys : List StateItem) (y : Flagging) (h : Goes u ys t) → h.ks ≡ g.ks → Said s x u
      → y.1 ≡ (flagging (map item_in ys)).1 → lexemes_flagged y.0 ≡ []
      → KeyFits (Leads u s g.ks) s (edges s) (flag_item (OfLexeme x) y) → SameFlags (OfLexeme x ∷ map item_in ys)
      → Goes s ((s, OfLexeme x) ∷ ys) t
  one_goes x ys y h same said e none f all =
      goes_lexeme s u t x ys h said f.ks
      (subst (Chosen (held s) f.ks) numbers f.chosen)
      (λ flag q. subst (λ fs. KeysTo (Leads u s h.ks) fs no_scope (kinds_in s.brackets) (due_of s f.ks) (edges s))
      (lone flag q)
      (subst (λ ks. KeysTo (Leads u s ks) (lexemes_flagged (flag_item (OfLexeme x) y).0) no_scope (kinds_in s.brackets)
      (due_of s f.ks) (edges s)) (sym same) (f.ordered no_scope)))
      (begun_there x (map item_in ys) all)
    where
      ns : List ℕ
      ns = (flagging (map item_in ys)).1

      nearest : is_nearest x.number y.1 ≡ is_nearest x.number ns
      nearest = ap (is_nearest x.number) e

      numbers : (flag_item (OfLexeme x) y).1 ≡ (flag_item (OfLexeme x) (flagging (map item_in ys))).1
      numbers = ap (λ b. (flag_lexeme b x y).1) nearest ∙ same_numbers (is_nearest x.number ns) x y
          (flagging (map item_in ys)) e

      lone : (flag : Bool) → is_nearest x.number ns ≡ flag
          → lexemes_flagged (flag_item (OfLexeme x) y).0 ≡ (x, flag) ∷ []
      lone flag q = ap (λ b. lexemes_flagged (flag_lexeme b x y).0) (nearest ∙ q) ∙ one_flagged flag x y
          ∙ ap (λ (fs : List Flagged). (x, flag) ∷ fs) none

  pub read_goes : (items : List Item) → ReadSays s u items → Fitted items → SameFlags (items ++ map item_in xs)
      → Goes s (with_state s items ++ xs) t
  unfolding goes_noted
  read_goes items (of_note c a) f same = goes_comment s u t c xs g a f.ks f.chosen (f.ordered no_scope)
  read_goes items (of_one x None said) f same = one_goes x xs (behind_all xs) g refl said refl refl f same
  read_goes items (of_one x (Some c) said) f same =
      one_goes x ((s, OfComment c) ∷ xs) (flag_item (OfComment c) (behind_all xs)) (goes_noted s u t c xs g) refl said
      refl refl f same

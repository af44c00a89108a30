-- What each lexeme makes of the keys that are held, said of the lexemes.
use Rattle.std.proofs.Common.{◌≡◌, suc, ◌||◌, Bool, true, false, List, [], ◌∷◌, length, drop, Option, Some}
use Rattle.std.proofs.Common.{None, ◌⊎◌, inl, inr, refl, sym, ap, ap₂, ◌∙◌, subst, arith}
use Rattle.std.specs.Bool.{Decides}
use Rattle.std.specs.Prelude.{if◌then◌else◌}
use Rattle.granit_base.specs.Place.{Mark}
use Rattle.granit_error.specs.OptionsData.{OptionsData}
use Rattle.granit_language.specs.Before.{closed_for, run_for, behind_colon, behind_question_sign, behind}
use Rattle.granit_language.specs.OpenColumns.{is_outer_kind, ColumnsSay}
use Rattle.granit_lexemes.specs.Here.{Here, mark_of}
use Rattle.granit_lexemes.specs.LayoutData.{is_left}
use Rattle.granit_lexemes.specs.Lexeme.{LexemeKind, Lexeme}
use Rattle.granit_lexemes.specs.declared.layout.OpenBracket.{OpenBracket}
use Rattle.granit_lexemes.specs.declared.layout.PossibleKey.{PossibleKey}
use Rattle.granit_machine.specs.Columns.{closed_at}
use Rattle.granit_machine.specs.Laid.{Laid, is_in_flow, block_column}
use Rattle.granit_machine.specs.LexemeSort.{OpenSign, CloseSign, CommaSign, DashSign, QuestionSign}
use Rattle.granit_machine.specs.LexemeSort.{ColonSign, AliasSign, AnchorSign, TagSign, BlockSign, QuoteSign, PlainSign}
use Rattle.granit_machine.specs.LexemeSort.{StrayMark, NoSign, LexemeSort, TextEnd, StartMark, EndMark, DirectiveSign}
use Rattle.granit_machine.specs.LexemeSort.{Unprintable, Placed}
use Rattle.granit_machine.specs.PossibleKeys.{key_in, top_key, outer_key, keyed_brackets, is_allowed, new_key}
use Rattle.granit_machine.specs.PossibleKeys.{key_goes_on, node_key}
use Rattle.granit_places.proofs.ColumnsLaw.{closed_brackets}
pub use Rattle.granit_places.proofs.ColumnsLaw.{closed_key}
use Rattle.granit_places.proofs.Moving.{left_open}
use Rattle.granit_places.proofs.Telling.{SaysOf, Agrees}
use Rattle.granit_before.proofs.HeldLow.{low_decided, required_decided}
use Rattle.granit_before.proofs.Numbered.{ends_short}
use Rattle.granit_before.specs.HeldKeys.{EndsIn, all_of_it, behind_one, PropertiesAlone, none_yet, one_more, StandsLow}
use Rattle.granit_before.specs.HeldKeys.{IsLow, KeySays, HeldSays, EachSays, keys_in, keys_of}
use Rattle.granit_before.specs.Tabs.{is_property_kind}

-- ---- the keys around the innermost one hold more than properties

abbrev pub outer_of : List (Option PossibleKey) → List (Option PossibleKey)
outer_of [] = []
outer_of (k ∷ ks) = ks

abbrev NoHead : Option PossibleKey → Type 0
NoHead None = Unit {0}
NoHead (Some k) = k.is_head ≡ false

abbrev pub NoHeads : List (Option PossibleKey) → Type 0
NoHeads [] = Unit {0}
NoHeads (k ∷ ks) = NoHead k × NoHeads ks

pub record KeysSay (ls : List Lexeme) (ks : List (Option PossibleKey)) : Type 0 where
  pub says : EachSays ls ks
  pub heads : NoHeads (outer_of ks)

-- ---- one lexeme more

short_end : (ls rest : List Lexeme) (x first : Lexeme) → EndsIn ls (first ∷ rest) → x ∷ ls ≡ rest → ⊥
short_end ls rest x first e f =
    let p = ends_short e in let q : suc (length ls) ≡ length rest = ap length f in omega (arith, p, q)

no_end : (ls : List Lexeme) (x : Lexeme) → EndsIn ls (x ∷ ls) → ⊥
no_end ls x e = let p = ends_short e in omega (arith, p)

no_self : (ls : List Lexeme) (x : Lexeme) → x ∷ ls ≡ ls → ⊥
no_self ls x e = let q : suc (length ls) ≡ length ls = ap length e in omega (arith, q)

prop_ends : {xs ys : List Lexeme} → PropertiesAlone xs ys → EndsIn xs ys
prop_ends none_yet = all_of_it
prop_ends (one_more e p) = behind_one (prop_ends p)

prop_parts : (ls : List Lexeme) (x : Lexeme) (rest : List Lexeme) → PropertiesAlone (x ∷ ls) rest →
    (x ∷ ls ≡ rest) ⊎ ((is_property_kind x.kind ≡ true) × PropertiesAlone ls rest)
prop_parts ls x rest none_yet = inl refl
prop_parts ls x rest (one_more e p) = inr (e, p)

module _ (ls : List Lexeme) (x : Lexeme) (rest : List Lexeme) where
  ends_parts : (y : Lexeme) (before : List Lexeme) → EndsIn (x ∷ ls) (y ∷ before) →
      ((x ≡ y) × (ls ≡ before)) ⊎ EndsIn ls (y ∷ before)
  ends_parts y before all_of_it = inl (refl, refl)
  ends_parts y before (behind_one e) = inr e

  low_parts : IsLow (x ∷ ls) rest → (PropertiesAlone ls rest × StandsLow ls x) ⊎ IsLow ls rest
  low_parts p = elim (ends_parts p.lexeme p.before p.ends) [
    | inl q ↦ inl (
      subst (λ (ls : List Lexeme). PropertiesAlone ls rest) (sym q.1) p.heads,
      subst (λ (ls : List Lexeme). StandsLow ls x) (sym q.1)
          (subst (StandsLow p.before) (sym q.0) p.stands),
    )
    | inr q ↦ inr (record {
      lexeme = p.lexeme;
      before = p.before;
      ends = q;
      heads = p.heads;
      stands = p.stands;
    })
  ]

  low_on : IsLow ls rest → IsLow (x ∷ ls) rest
  low_on p = record {
    lexeme = p.lexeme;
    before = p.before;
    ends = behind_one p.ends;
    heads = p.heads;
    stands = p.stands;
  }

  low_here : PropertiesAlone ls rest → StandsLow ls x → IsLow (x ∷ ls) rest
  low_here p s = record { lexeme = x; before = ls; ends = all_of_it; heads = p; stands = s }

no_head : (v : Bool) {P : Type 0} → Decides v P → v ≡ false → P → ⊥
no_head v d e p = let z = sym e ∙ d.1 p in cc

-- a key that holds more than properties stays as it is
pub key_stays : (ls : List Lexeme) (x : Lexeme) (k : PossibleKey) → KeySays ls k → k.is_head ≡ false →
    KeySays (x ∷ ls) k
key_stays ls x k s e = record {
  first = s.first;
  rest = s.rest;
  ends = behind_one s.ends;
  number = s.number;
  start = s.start;
  required = s.required;
  low = (
    λ f. low_on ls x s.rest (s.low.0 f),
    λ p. elim (low_parts ls x s.rest p) [
      | inl q ↦ absurd (no_head k.is_head s.head e q.0)
      | inr q ↦ s.low.1 q
    ],
  );
  head = (
    λ f. absurd (let z = sym e ∙ f in cc),
    λ p. elim (prop_parts ls x s.rest p) [
      | inl q ↦ absurd (short_end ls s.rest x s.first s.ends q)
      | inr q ↦ absurd (no_head k.is_head s.head e q.1)
    ],
  );
}

outer_stays : (ls : List Lexeme) (x : Lexeme) (ks : List (Option PossibleKey)) → EachSays ls ks → NoHeads ks →
    EachSays (x ∷ ls) ks
outer_stays ls x [] s n = tt
outer_stays ls x (None ∷ ks) s n = (tt, outer_stays ls x ks s.1 n.1)
outer_stays ls x (Some k ∷ ks) s n = (key_stays ls x k s.0 n.0, outer_stays ls x ks s.1 n.1)

-- ---- a lexeme of a node

module _ (ls : List Lexeme) (l : Laid) (said : ColumnsSay ls l) (number : l.number ≡ length ls) (h : Here) (x : Lexeme)
    (start : x.start ≡ mark_of h) (flow : x.in_flow ≡ is_in_flow l) (outer : is_outer_kind x.kind ≡ false)
    (at : x.number ≡ l.number) (property : Bool) (kind : is_property_kind x.kind ≡ property) where
  abbrev m : Laid
  m = closed_at h.place.column l

  new_says : KeySays (x ∷ ls) (new_key property (mark_of h) m)
  new_says = record {
    first = x;
    rest = ls;
    ends = all_of_it;
    number = (sym at, number);
    start = sym start;
    required = required_decided ls l said h x start flow outer;
    low =
        let d = low_decided ls l said h x start flow outer in
        (λ e. low_here ls x ls none_yet (d.0 e), λ p. d.1 (by (low_parts ls x ls p)));
    head = (
      λ e. one_more (kind ∙ e) none_yet,
      λ p. elim (prop_parts ls x ls p) [
        | inl q ↦ absurd (no_self ls x q)
        | inr q ↦ sym kind ∙ q.0
      ],
    );
  }
    where
      by : (PropertiesAlone ls ls × StandsLow ls x) ⊎ IsLow ls ls → StandsLow ls x
      by (inl q) = q.1
      by (inr q) = absurd (let p = ends_short q.ends in let r = ends_short (prop_ends q.heads) in omega (arith, p, r))

  or_left : (a b : Bool) → a ≡ true → (a || b) ≡ true
  or_left a b e = ap (λ a. a || b) e

  or_right : (a b : Bool) → b ≡ true → (a || b) ≡ true
  or_right true b e = refl
  or_right false b e = e

  or_parts : (a b : Bool) → (a || b) ≡ true → (a ≡ true) ⊎ (b ≡ true)
  or_parts true b e = inl refl
  or_parts false b e = inr e

  abbrev low : Bool
  low = is_left (block_column m) h.place.column

  goes_says : (k : PossibleKey) → KeySays ls k → k.is_head ≡ true →
      KeySays (x ∷ ls) (record k { is_low = k.is_low || low; is_head = property })
  goes_says k s e =
      let d = low_decided ls l said h x start flow outer in
      record {
        first = s.first;
        rest = s.rest;
        ends = behind_one s.ends;
        number = s.number;
        start = s.start;
        required = s.required;
        low = (
          λ f. elim (or_parts k.is_low low f) [
            | inl q ↦ low_on ls x s.rest (s.low.0 q)
            | inr q ↦ low_here ls x s.rest (s.head.0 e) (d.0 q)
          ],
          λ p. elim (low_parts ls x s.rest p) [
            | inl q ↦ or_right k.is_low low (d.1 q.1)
            | inr q ↦ or_left k.is_low low (s.low.1 q)
          ],
        );
        head = (
          λ f. one_more (kind ∙ f) (s.head.0 e),
          λ p. elim (prop_parts ls x s.rest p) [
            | inl q ↦ absurd (short_end ls s.rest x s.first s.ends q)
            | inr q ↦ sym kind ∙ q.0
          ],
        );
      }

  on_says : (key : Option PossibleKey) → HeldSays ls key → HeldSays (x ∷ ls) (key_goes_on property low key)
  on_says None s = tt
  on_says (Some k) s = on k.is_head refl
    where
      on : (v : Bool) → k.is_head ≡ v →
          HeldSays (x ∷ ls) (if v then Some (record k { is_low = k.is_low || low; is_head = property }) else Some k)
      on true e = goes_says k s e
      on false e = key_stays ls x k s e

  pub node_says : (allowed : Bool) → HeldSays ls (top_key m) →
      HeldSays (x ∷ ls) (node_key property allowed (mark_of h) m)
  unfolding node_key
  node_says true s = new_says
  node_says false s = on_says (top_key m) s

-- a lexeme that is no property leaves a key that holds more
goes_no_head : (left : Bool) (key : Option PossibleKey) → NoHead (key_goes_on false left key)
goes_no_head left None = tt
goes_no_head left (Some k) = on k.is_head refl
  where
    on : (v : Bool) → k.is_head ≡ v →
        NoHead (if v then Some (record k { is_low = k.is_low || left; is_head = false }) else Some k)
    on true e = refl
    on false e = e

node_no_head : (allowed : Bool) (h : Here) (m : Laid) → NoHead (node_key false allowed (mark_of h) m)
unfolding node_key
node_no_head true h m = refl
node_no_head false h m = goes_no_head (is_left (block_column m) h.place.column) (top_key m)

-- ---- lists of keys

with_top : (bs : List OpenBracket) (new old : Option PossibleKey) →
    keys_in (keyed_brackets new bs) (outer_key bs new old) ≡ new ∷ outer_of (keys_in bs old)
with_top [] new old = refl
with_top (b ∷ bs) new old = refl

top_of : (bs : List OpenBracket) (key : Option PossibleKey) →
    keys_in bs key ≡ key_in bs key ∷ outer_of (keys_in bs key)
top_of [] key = refl
top_of (b ∷ bs) key = refl

shut_in : (bs : List OpenBracket) (key : Option PossibleKey) (b : OpenBracket) (cs : List OpenBracket) → bs ≡ b ∷ cs →
    keys_in (drop 1 bs) key ≡ outer_of (keys_in bs key)
shut_in bs key b cs e =
    ap (λ (bs : List OpenBracket). keys_in (drop 1 bs) key) e
    ∙ sym (ap (λ (bs : List OpenBracket). outer_of (keys_in bs key)) e)

pub keys_as : {ls : List Lexeme} {ks js : List (Option PossibleKey)} → ks ≡ js → KeysSay ls js → KeysSay ls ks
keys_as {ls = ls} e p = subst (KeysSay ls) (sym e) p

module _ (ls : List Lexeme) (x : Lexeme) (bs : List OpenBracket) (key : Option PossibleKey)
    (w : KeysSay ls (keys_in bs key)) where
  full : KeysSay ls (key_in bs key ∷ outer_of (keys_in bs key))
  full = subst (KeysSay ls) (top_of bs key) w

  abbrev outers : List (Option PossibleKey)
  outers = outer_of (keys_in bs key)

  top_says : HeldSays ls (key_in bs key)
  top_says = full.says.0

  outers_say : EachSays (x ∷ ls) outers
  outers_say = outer_stays ls x outers full.says.1 full.heads

  -- with another key inside
  replaced : (new : Option PossibleKey) → HeldSays (x ∷ ls) new → KeysSay (x ∷ ls) (new ∷ outers)
  replaced new s = record { says = (s, outers_say); heads = full.heads }

  opened_says : (new : Option PossibleKey) → HeldSays (x ∷ ls) new → NoHead new →
      KeysSay (x ∷ ls) (None ∷ new ∷ outers)
  opened_says new s n = record { says = (tt, (s, outers_say)); heads = (n, full.heads) }

  closed_says : KeysSay (x ∷ ls) outers
  closed_says = record { says = outers_say; heads = tail outers full.heads }
    where
      tail : (ks : List (Option PossibleKey)) → NoHeads ks → NoHeads (outer_of ks)
      tail [] n = tt
      tail (k ∷ ks) n = n.1

  kept_says : key_in bs key ≡ None → KeysSay (x ∷ ls) (keys_in bs key)
  kept_says e =
      keys_as (top_of bs key) (replaced (key_in bs key) (subst (HeldSays (x ∷ ls)) (sym e) tt))

-- ---- `?` and `:`

question_keys : (v : Bool) (h : Here) (l : Laid) → keys_of (behind_question_sign v h l) ≡ None ∷ outer_of (keys_of l)
question_keys true h l = with_top l.brackets None l.key
question_keys false h l = with_top l.brackets None l.key

colon_says : (ls : List Lexeme) (x : Lexeme) (v : Bool) (key : Option PossibleKey) (h : Here) (l : Laid) →
    top_key l ≡ key → KeysSay ls (keys_of l) → KeysSay (x ∷ ls) (keys_of (behind_colon v key h l))
colon_says ls x true None h l e w = kept_says ls x l.brackets l.key w e
colon_says ls x false None h l e w = kept_says ls x l.brackets l.key w e
colon_says ls x true (Some k) h l e w =
    keys_as (with_top l.brackets None l.key) (replaced ls x l.brackets l.key w None tt)
colon_says ls x false (Some k) h l e w =
    keys_as (with_top l.brackets None l.key) (replaced ls x l.brackets l.key w None tt)

-- ---- one lexeme

module _ (o : OptionsData) (ls : List Lexeme) (l : Laid) (said : ColumnsSay ls l) (number : l.number ≡ length ls)
    (w : KeysSay ls (keys_of l)) (h : Here) (x : Lexeme) (start : x.start ≡ mark_of h)
    (flow : x.in_flow ≡ is_in_flow l) (at : x.number ≡ l.number) where
  closed_keys : (sort : LexemeSort) → keys_of (closed_for sort h l) ≡ keys_of l
  closed_keys sort = ap₂ keys_in (closed_brackets sort h l) (closed_key sort h l)

  after_keys : {a b : Laid} → Agrees a b → keys_of a ≡ keys_of b
  after_keys e = ap₂ keys_in e.brackets e.key

  forgotten : (sort : LexemeSort) (after : Laid) →
      keys_of after ≡ None ∷ outer_of (keys_of (closed_for sort h l)) → KeysSay (x ∷ ls) (keys_of after)
  forgotten sort after e =
      let c = closed_for sort h l in
      keys_as e (replaced ls x c.brackets c.key (keys_as (closed_keys sort) w) None tt)

  node : {kind : LexemeKind} (property : Bool) (after : Laid) → x.kind ≡ kind → is_outer_kind kind ≡ false →
      is_property_kind kind ≡ property →
      keys_of after ≡ keys_in
      (keyed_brackets (node_key property (is_allowed h.begins_line h.tab (closed_at h.place.column l)) (mark_of h)
      (closed_at h.place.column l)) l.brackets)
      (outer_key l.brackets (node_key property (is_allowed h.begins_line h.tab (closed_at h.place.column l)) (mark_of h)
      (closed_at h.place.column l)) l.key) → KeysSay (x ∷ ls) (keys_of after)
  node property after is u p e =
      let new = node_key property (is_allowed h.begins_line h.tab (closed_at h.place.column l)) (mark_of h)
      (closed_at h.place.column l) in
      keys_as (e ∙ with_top l.brackets new l.key) (replaced ls x l.brackets l.key w new
      (node_says ls l said number h x start flow (ap is_outer_kind is ∙ u) at property (ap is_property_kind is ∙ p) _
      (top_says ls x l.brackets l.key w)))

  opens : {kind : LexemeKind} (after : Laid) → x.kind ≡ kind → is_outer_kind kind ≡ false →
      is_property_kind kind ≡ false →
      keys_of after ≡ None ∷ keys_in
      (keyed_brackets (node_key false (is_allowed h.begins_line h.tab (closed_at h.place.column l)) (mark_of h)
      (closed_at h.place.column l)) l.brackets)
      (outer_key l.brackets (node_key false (is_allowed h.begins_line h.tab (closed_at h.place.column l)) (mark_of h)
      (closed_at h.place.column l)) l.key) → KeysSay (x ∷ ls) (keys_of after)
  opens after is u p e =
      let allowed = is_allowed h.begins_line h.tab (closed_at h.place.column l) in
      let new = node_key false allowed (mark_of h) (closed_at h.place.column l) in
      keys_as (e ∙ ap (λ (ks : List (Option PossibleKey)). None ∷ ks) (with_top l.brackets new l.key))
      (opened_says ls x l.brackets l.key w new
      (node_says ls l said number h x start flow (ap is_outer_kind is ∙ u) at false (ap is_property_kind is ∙ p) allowed
      (top_says ls x l.brackets l.key w)) (node_no_head allowed h (closed_at h.place.column l)))

  pub keys_step : (sort : LexemeSort) (cut : Option Mark) (g : Here) (after : Laid) →
      SaysOf sort h (run_for sort h (closed_for sort h l)) x →
      Agrees after (behind o sort x cut g h (run_for sort h (closed_for sort h l))) →
      KeysSay (x ∷ ls) (keys_of after)
  keys_step TextEnd cut g after s a = forgotten TextEnd after (after_keys a ∙ with_top l.brackets None l.key)
  keys_step StartMark cut g after s a =
      let c = closed_for StartMark h l in
      forgotten StartMark after (after_keys a ∙ with_top c.brackets None c.key)
  keys_step EndMark cut g after s a =
      let c = closed_for EndMark h l in forgotten EndMark after (after_keys a ∙ with_top c.brackets None c.key)
  keys_step DirectiveSign cut g after s a =
      let c = closed_for DirectiveSign h l in
      forgotten DirectiveSign after (after_keys a ∙ with_top c.brackets None c.key)
  keys_step Unprintable cut g after s a = absurd s
  keys_step (Placed (OpenSign bracket)) cut g after s a = opens after s.is refl refl (after_keys a)
  keys_step (Placed (CloseSign bracket)) cut g after s a =
      let b = left_open l.brackets bracket s.1 in
      keys_as (after_keys a ∙ shut_in l.brackets l.key b.0 b.1 b.2) (closed_says ls x l.brackets l.key w)
  keys_step (Placed CommaSign) cut g after s a =
      forgotten (Placed CommaSign) after (after_keys a ∙ with_top l.brackets None l.key)
  keys_step (Placed DashSign) cut g after s a =
      forgotten (Placed DashSign) after (after_keys a ∙ with_top l.brackets None l.key)
  keys_step (Placed QuestionSign) cut g after s a =
      let c = closed_for (Placed QuestionSign) h l in
      forgotten (Placed QuestionSign) after (after_keys a ∙ question_keys (is_in_flow c) h c)
  keys_step (Placed ColonSign) cut g after s a =
      let c = closed_for (Placed ColonSign) h l in
      keys_as (after_keys a) (colon_says ls x (is_in_flow c) (top_key c) h c refl w)
  keys_step (Placed AliasSign) cut g after s a = node false after s.1.is refl refl (after_keys a)
  keys_step (Placed AnchorSign) cut g after s a = node true after s.1.is refl refl (after_keys a)
  keys_step (Placed TagSign) cut g after s a = node true after s.2.is refl refl (after_keys a)
  keys_step (Placed (BlockSign literal)) cut g after s a = node false after s.2.is refl refl (after_keys a)
  keys_step (Placed (QuoteSign single)) cut g after s a = node false after s.2.is refl refl (after_keys a)
  keys_step (Placed PlainSign) cut g after s a = node false after s.2.is refl refl (after_keys a)
  keys_step (Placed StrayMark) cut g after s a = absurd s
  keys_step (Placed NoSign) cut g after s a = absurd s

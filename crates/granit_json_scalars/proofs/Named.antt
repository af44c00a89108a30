-- Between a name and its colon: the innermost bracket is an object's, and the key that may be there is the name.
use Rattle.std.proofs.Common.{Bool, List, Option, [], ap, arith, false, map, not, refl, subst, sym, true, ℕ}
use Rattle.std.proofs.Common.{◌&&◌, ◌+◌, ◌||◌, ◌∙◌, ◌∷◌, ◌≡◌, ◌≤◌, inl, inr}
use Rattle.std.proofs.lemmas.Bool.Decides.{nat_tests}
use Rattle.std.specs.Prelude.{None, Some, if◌then◌else◌, is_none, nat_lt}
use Rattle.granit_base.specs.Place.{Mark}
use Rattle.granit_canonical_steps.proofs.Calm.{Calm, Mild, Shape, calm_fresh, in_curly, none_mild, shape_flow}
use Rattle.granit_canonical_steps.proofs.Calm.{fresh_mild}
use Rattle.granit_error.specs.OptionsData.{OptionsData}
use Rattle.granit_language.specs.Allowed.{FarBelow}
use Rattle.granit_language.specs.Reached.{NoneOverdue}
use Rattle.granit_lexemes.specs.Here.{Here, mark_of}
use Rattle.granit_lexemes.specs.LayoutData.{is_left}
use Rattle.granit_lexemes.specs.declared.layout.Bracket.{Bracket}
use Rattle.granit_lexemes.specs.declared.layout.Bracket.TheVariants.{Curly, Square}
use Rattle.granit_lexemes.specs.declared.layout.OpenBracket.{OpenBracket}
use Rattle.granit_lexemes.specs.declared.layout.OpenColumn.{OpenColumn}
use Rattle.granit_lexemes.specs.declared.layout.PossibleKey.{PossibleKey}
use Rattle.granit_machine.specs.Laid.{Laid, block_column, innermost_column, is_dash, is_in_flow, is_indicator}
use Rattle.granit_machine.specs.Laid.{is_nonempty}
use Rattle.granit_machine.specs.Laid.{is_opener}
use Rattle.granit_machine.specs.PossibleKeys.{forgets_key, fresh, fresh_bracket, fresh_key, is_allowed, is_stale}
use Rattle.granit_machine.specs.PossibleKeys.{key_goes_on, key_in, keyed_brackets, new_key, node_key, outer_key}
use Rattle.granit_machine.specs.PossibleKeys.{top_key}
use Rattle.granit_machine.specs.Reader.{noded}
use Rattle.granit_machine.specs.ReaderState.{ReaderState}

-- what is known there
pub record Named (bs : List Bracket) (k : PossibleKey) (l : Laid) : Type 0 where
  pub mark : Mark
  pub around : List OpenBracket
  pub brackets : l.brackets ≡ record { bracket = Curly; mark = mark; key = Some k } ∷ around
  pub shape : Shape bs around
  pub key : Mild l.key
  pub columns : l.columns ≡ []
  pub cut : l.cut ≡ None

-- ---- a name begins a key

allowed_is : (h : Here) (bs : List Bracket) (l : Laid) → Calm (Curly ∷ bs) l → is_opener l.last ≡ true
    → is_allowed h.begins_line h.tab l ≡ true
unfolding is_allowed
allowed_is h bs l c f =
    ap (λ v. if v then is_opener l.last
    else (h.begins_line || is_dash l.last) || (is_indicator l.last && is_none h.tab))
    (shape_flow Curly bs l.brackets c.shape) ∙ f

node_key_is : (m : Mark) (l : Laid) (v : Bool) → v ≡ true → node_key false v m l ≡ Some (new_key false m l)
unfolding node_key
node_key_is m l v e =
    ap (λ v. if v then Some (new_key false m l) else key_goes_on false (is_left (block_column l) m.place.column)
    (top_key l)) e

pub record Keyed (bs : List Bracket) (k : PossibleKey) (obs : List OpenBracket) : Type 0 where
  pub mark : Mark
  pub around : List OpenBracket
  pub brackets : obs ≡ record { bracket = Curly; mark = mark; key = Some k } ∷ around
  pub shape : Shape bs around

keyed_so : (bs : List Bracket) (k : PossibleKey) (key : Option PossibleKey) (obs : List OpenBracket)
    → Shape (Curly ∷ bs) obs → key ≡ Some k → Keyed bs k (keyed_brackets key obs)
keyed_so bs k key _ (in_curly {obs = obs} m s) e = record {
  mark = m;
  around = obs;
  brackets = ap (λ (key : Option PossibleKey). record { bracket = Curly; mark = m; key = key } ∷ obs) e;
  shape = s;
}

outer_mild : (bs : List Bracket) (obs : List OpenBracket) (new old : Option PossibleKey) → Shape (Curly ∷ bs) obs
    → Mild old → Mild (outer_key obs new old)
outer_mild bs _ new old (in_curly m s) h = h

pub named_noded : (h : Here) (bs : List Bracket) (l : Laid) → Calm (Curly ∷ bs) l → is_opener l.last ≡ true
    → Named bs (new_key false (mark_of h) l) (noded false h l)
named_noded h bs l c f =
    let allowed = is_allowed h.begins_line h.tab l in
    let key = node_key false allowed (mark_of h) l in
    let k = keyed_so bs (new_key false (mark_of h) l) key l.brackets c.shape
    (node_key_is (mark_of h) l allowed (allowed_is h bs l c f)) in
    record {
      mark = k.mark;
      around = k.around;
      brackets = k.brackets;
      shape = k.shape;
      key = outer_mild bs l.brackets key l.key c.shape c.key;
      columns = c.columns;
      cut = c.cut;
    }

pub new_key_low : (m : Mark) (l : Laid) → l.columns ≡ [] → (new_key false m l).is_low ≡ false
new_key_low m l e = ap (λ (cs : List OpenColumn). is_left (innermost_column cs) m.place.column) e

-- ---- it stays one up to the limit

near : (k n m : ℕ) → m ≤ k + n → nat_lt (k + n) m ≡ false
near k n m h = grind (arith, nat_tests)

pub not_stale : (o : OptionsData) (m : Mark) (k : PossibleKey)
    → m.place.index ≤ k.start.place.index + o.simple_key_max_lookahead → is_stale o true m k ≡ false
unfolding is_stale
not_stale o m k h =
    ap (λ v. v || (not true && nat_lt k.start.place.line m.place.line))
    (near k.start.place.index o.simple_key_max_lookahead m.place.index h)

fresh_is : (o : OptionsData) (m : Mark) (k : PossibleKey) → is_stale o true m k ≡ false
    → fresh_key o true m (Some k) ≡ Some k
fresh_is o m k e = ap (λ v. if v then None else Some k) e

fresh_shape : (o : OptionsData) (m : Mark) (bs : List Bracket) (l : Laid) (obs : List OpenBracket) → Shape bs obs
    → Shape bs (map (fresh_bracket o m) obs)
fresh_shape o m bs l obs s =
    (calm_fresh o m bs (record l { key = None; brackets = obs; columns = []; cut = None })
    (record { key = none_mild; shape = s; columns = refl; cut = refl })).shape

pub named_fresh : (o : OptionsData) (m : Mark) (bs : List Bracket) (k : PossibleKey) (l : Laid) → Named bs k l
    → is_stale o true m k ≡ false → Named bs k (fresh o m l)
named_fresh o m bs k l n e = record {
  mark = n.mark;
  around = map (fresh_bracket o m) n.around;
  brackets = ap (map (fresh_bracket o m)) n.brackets
      ∙ ap (λ (key : Option PossibleKey). record { bracket = Curly; mark = n.mark; key = key }
      ∷ map (fresh_bracket o m) n.around) (fresh_is o m k e);
  shape = fresh_shape o m bs l n.around n.shape;
  key = fresh_mild o (is_in_flow l) m l.key n.key;
  columns = n.columns;
  cut = n.cut;
}

-- ---- what is asked there

pub named_flow : (bs : List Bracket) (k : PossibleKey) (l : Laid) → Named bs k l → is_in_flow l ≡ true
named_flow bs k l n = ap (λ (obs : List OpenBracket). is_nonempty obs) n.brackets

pub named_key : (bs : List Bracket) (k : PossibleKey) (l : Laid) → Named bs k l → top_key l ≡ Some k
named_key bs k l n = ap (λ (obs : List OpenBracket). key_in obs l.key) n.brackets

pub named_due : (o : OptionsData) (bs : List Bracket) (k : PossibleKey) (s : ReaderState) → Named bs k s.laid
    → NoneOverdue o s
named_due o bs k s n j e l = n.key j e

curly_first : (b c : OpenBracket) (bs cs : List OpenBracket) → b ∷ bs ≡ c ∷ cs → b.bracket ≡ c.bracket
curly_first b c bs cs e = ap (λ (b : OpenBracket). b.bracket) same
  where
    same : b ≡ c
    same = cc

no_square : Curly ≡ Square → ⊥
no_square e = cc

-- no colon is too far below its name
pub none_below : (h : Here) (bs : List Bracket) (k : PossibleKey) (l : Laid) → Named bs k l → k.is_low ≡ false
    → FarBelow h l k → ⊥
none_below h bs k l n low (line, inl (inl low')) = let y : false ≡ true = sym low ∙ low' in cc
none_below h bs k l n low (line, inl (inr left)) = let e : [] ≡ left.0 ∷ left.1 = sym n.columns ∙ left.2 in cc
none_below h bs k l n low (line, inr square) =
    no_square (curly_first (record { bracket = Curly; mark = n.mark; key = Some k }) square.0 n.around square.1
    (sym n.brackets ∙ square.2) ∙ square.3)

-- behind the colon there is no key
pub named_done : (bs : List Bracket) (k : PossibleKey) (l : Laid) → Named bs k l → Calm (Curly ∷ bs) (forgets_key l)
named_done bs k l n = record {
  key = subst (λ obs. Mild (outer_key obs None l.key)) (sym n.brackets) n.key;
  shape = subst (λ obs. Shape (Curly ∷ bs) (keyed_brackets None obs)) (sym n.brackets) (in_curly n.mark n.shape);
  columns = n.columns;
  cut = n.cut;
}

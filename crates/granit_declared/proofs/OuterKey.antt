-- The key outside all brackets, while some are open.
use Rattle.std.proofs.Common.{◌≡◌, ℕ, ◌+◌, ◌≤◌, ◌<◌, ◌||◌, Bool, true, false, List, [], ◌∷◌, map, drop, Option}
use Rattle.std.proofs.Common.{Some, None, ◌⊎◌, inl, inr, refl, sym, ap, ◌∙◌, subst, arith}
use Rattle.std.proofs.Math.Nat.{le_refl}
use Rattle.std.proofs.lemmas.Bool.{le-ltb}
use Rattle.std.specs.Prelude.{if◌then◌else◌, nat_lt}
use Rattle.std.proofs.lemmas.Bool.Decides.{nat_tests}
use Rattle.granit_base.specs.Place.{Mark}
use Rattle.granit_error.specs.OptionsData.{OptionsData}
use Rattle.granit_language.specs.Before.{run_for, behind_colon, behind_question_sign, behind}
use Rattle.granit_language.specs.Begins.{SignBegins, Begins, sign}
use Rattle.granit_language.specs.Begins as begins
use Rattle.granit_language.specs.Fitting.{Opens}
use Rattle.granit_language.specs.HeldSaid.{Lead}
use Rattle.granit_language.specs.KeyRuns.{role, WholeBrackets, whole_none, whole_other, whole_pair, MayBeKey, too_far}
use Rattle.granit_language.specs.Standing.{Given}
use Rattle.granit_lexemes.specs.Here.{Here, mark_of, step}
use Rattle.granit_lexemes.specs.Lexeme.{Lexeme, Item, OfLexeme, OfComment}
use Rattle.granit_lexemes.specs.declared.layout.Bracket.{Bracket}
use Rattle.granit_lexemes.specs.declared.layout.OpenBracket.{OpenBracket}
use Rattle.granit_lexemes.specs.declared.layout.PossibleKey.{PossibleKey}
use Rattle.granit_lexemes.specs.LayoutData.{is_left}
use Rattle.granit_machine.specs.Laid.{Laid, is_in_flow, is_nonempty, block_column}
use Rattle.granit_machine.specs.LexemeSort.{OpenSign, CloseSign, CommaSign, DashSign, QuestionSign, ColonSign}
use Rattle.granit_machine.specs.LexemeSort.{AliasSign, AnchorSign, TagSign, BlockSign, QuoteSign, PlainSign, StrayMark}
use Rattle.granit_machine.specs.LexemeSort.{NoSign, LexemeSort, TextEnd, StartMark, EndMark, DirectiveSign}
use Rattle.granit_machine.specs.LexemeSort.{Unprintable, Placed}
use Rattle.granit_machine.specs.PossibleKeys.{key_in, top_key, outer_key, keyed_brackets, is_stale, fresh_key}
use Rattle.granit_machine.specs.PossibleKeys.{fresh_bracket, is_allowed, key_goes_on, node_key}
use Rattle.granit_machine.specs.ReaderState.{ReaderState}
use Rattle.granit_key_runs.proofs.RunsLaw.{Onward}
use Rattle.granit_declared.proofs.Bracketed.{opens_one, whole_openers}
use Rattle.granit_declared.proofs.OneLine.{opener_line, tail_line}
use Rattle.granit_before.specs.Openers.{Opener, openers, IsInside}

-- ---- what a lexeme makes of that key

never_past : (d n : ℕ) → nat_lt (d + n) d ≡ false
never_past d n = grind (arith, nat_tests)

module _ (o : OptionsData) (h : Here) (l : Laid) where
  abbrev pub Near : Option PossibleKey → Type 0
  Near key = (k : PossibleKey) → key ≡ Some k → is_stale o false (mark_of h) k ≡ false

  -- inside brackets nothing; outside it stays near; and one that opens the first bracket ends on its line
  pub record Moves (after : Laid) (reached : Here) : Type 0 where
    pub in_flow : (b : OpenBracket) (bs : List OpenBracket) → l.brackets ≡ b ∷ bs → after.key ≡ l.key
    pub outside : l.brackets ≡ [] → Near l.key → Near after.key
    pub line :
        (b : OpenBracket) (bs : List OpenBracket) → l.brackets ≡ [] → after.brackets ≡ b ∷ bs →
        reached.place.line ≡ h.place.line

  new_near : (k : PossibleKey) → k.start ≡ mark_of h → is_stale o false (mark_of h) k ≡ false
  unfolding is_stale
  new_near k e =
      subst (λ (m : Mark). (nat_lt (m.place.index + o.simple_key_max_lookahead) h.place.index
      || nat_lt m.place.line h.place.line) ≡ false) (sym e)
      (rw (never_past h.place.index o.simple_key_max_lookahead, le-ltb h.place.line _ (le_refl h.place.line)) refl)

  start_near : (j k : PossibleKey) → k.start ≡ j.start → is_stale o false (mark_of h) j ≡ false →
      is_stale o false (mark_of h) k ≡ false
  unfolding is_stale
  start_near j k e n =
      subst (λ (m : Mark). (nat_lt (m.place.index + o.simple_key_max_lookahead) h.place.index
      || nat_lt m.place.line h.place.line) ≡ false) (sym e) n

  none_near : Near None
  none_near k e = absurd cc

  some_near : (j : PossibleKey) → is_stale o false (mark_of h) j ≡ false → Near (Some j)
  some_near j n k e = let q : j ≡ k = cc in subst (λ k. is_stale o false (mark_of h) k ≡ false) q n

  goes_near : (property low : Bool) (key : Option PossibleKey) → Near key → Near (key_goes_on property low key)
  goes_near property low None n = none_near
  goes_near property low (Some j) n = on j.is_head
    where
      on : (v : Bool) →
          Near (if v then Some (record j { is_low = j.is_low || low; is_head = property }) else Some j)
      on true = some_near _ (start_near j _ refl (n j refl))
      on false = n

  node_near : (property allowed : Bool) → l.brackets ≡ [] → Near l.key →
      Near (node_key property allowed (mark_of h) l)
  unfolding node_key
  node_near property true e n = some_near _ (new_near _ refl)
  node_near property false e n =
      subst (λ (bs : List OpenBracket). Near (key_goes_on property (is_left (block_column l) h.place.column)
      (key_in bs l.key))) (sym e)
      (goes_near property (is_left (block_column l) h.place.column) l.key n)

  none_keyed : (new : Option PossibleKey) (b : OpenBracket) (bs cs : List OpenBracket) → cs ≡ [] →
      keyed_brackets new cs ≡ b ∷ bs → ⊥
  none_keyed new b bs cs e f = let z = sym (ap (keyed_brackets new) e) ∙ f in cc

  none_dropped : (b : OpenBracket) (bs cs : List OpenBracket) → cs ≡ [] → drop 1 cs ≡ b ∷ bs → ⊥
  none_dropped b bs cs e f = let z = sym (ap (drop 1) e) ∙ f in cc

  module _ (after : Laid) (reached : Here) where
    -- a lexeme leaves it
    leaves : after.key ≡ l.key → ((b : OpenBracket) (bs : List OpenBracket) → l.brackets ≡ [] →
        after.brackets ≡ b ∷ bs → reached.place.line ≡ h.place.line) → Moves after reached
    leaves e f = record { in_flow = λ b bs g. e; outside = λ g n. subst Near (sym e) n; line = f }

    -- or sets the key of the innermost bracket, or this one where none is open
    sets : (new : Option PossibleKey) → after.key ≡ outer_key l.brackets new l.key →
        (l.brackets ≡ [] → Near l.key → Near new) → ((b : OpenBracket) (bs : List OpenBracket) → l.brackets ≡ [] →
        after.brackets ≡ b ∷ bs → reached.place.line ≡ h.place.line) → Moves after reached
    sets new e near f = record {
      in_flow = λ b bs g. e ∙ ap (λ (bs : List OpenBracket). outer_key bs new l.key) g;
      outside =
          λ g n. subst Near (sym (e ∙ ap (λ (bs : List OpenBracket). outer_key bs new l.key) g)) (near g n);
      line = f;
    }

  module _ (x : Lexeme) (cut : Option Mark) (g reached : Here) where
    forgets : (after : Laid) → after.key ≡ outer_key l.brackets None l.key →
        after.brackets ≡ keyed_brackets None l.brackets → Moves after reached
    forgets after e f =
        sets after reached None e (λ g n. none_near)
        (λ b bs g i. absurd (none_keyed None b bs l.brackets g (sym f ∙ i)))

    keeps : (after : Laid) → after.key ≡ l.key → after.brackets ≡ l.brackets → Moves after reached
    keeps after e f = leaves after reached e (λ b bs g i. absurd (let z = sym g ∙ (sym f ∙ i) in cc))

    nodes : (property : Bool) (after : Laid) →
        after.key ≡ outer_key l.brackets (node_key property (is_allowed h.begins_line h.tab l) (mark_of h) l) l.key →
        after.brackets
        ≡ keyed_brackets (node_key property (is_allowed h.begins_line h.tab l) (mark_of h) l) l.brackets →
        Moves after reached
    nodes property after e f =
        sets after reached _ e (λ g n. node_near property (is_allowed h.begins_line h.tab l) g n)
        (λ b bs g i. absurd (none_keyed _ b bs l.brackets g (sym f ∙ i)))

    question : (v : Bool) (after : Laid) → after.key ≡ (behind_question_sign v h l).key →
        after.brackets ≡ (behind_question_sign v h l).brackets → Moves after reached
    question true after e f = forgets after e f
    question false after e f = forgets after e f

    colon : (v : Bool) (key : Option PossibleKey) (after : Laid) → after.key ≡ (behind_colon v key h l).key →
        after.brackets ≡ (behind_colon v key h l).brackets → Moves after reached
    colon true (Some k) after e f = forgets after e f
    colon true None after e f = keeps after e f
    colon false (Some k) after e f = forgets after e f
    colon false None after e f = keeps after e f

    pub moves : (sort : LexemeSort) →
        ((b : Bracket) → sort ≡ Placed (OpenSign b) → reached.place.line ≡ h.place.line) →
        Moves (behind o sort x cut g h (run_for sort h l)) reached
    moves TextEnd s = forgets _ refl refl
    moves StartMark s = forgets _ refl refl
    moves EndMark s = forgets _ refl refl
    moves DirectiveSign s = forgets _ refl refl
    moves Unprintable s = keeps _ refl refl
    moves (Placed (OpenSign bracket)) s =
        sets _ reached _ refl (λ g n. node_near false (is_allowed h.begins_line h.tab l) g n)
        (λ b bs g i. s bracket refl)
    moves (Placed (CloseSign bracket)) s =
        leaves _ reached refl (λ b bs g i. absurd (none_dropped b bs l.brackets g i))
    moves (Placed CommaSign) s = forgets _ refl refl
    moves (Placed DashSign) s = forgets _ refl refl
    moves (Placed QuestionSign) s = question (is_in_flow l) _ refl refl
    moves (Placed ColonSign) s = colon (is_in_flow l) (top_key l) _ refl refl
    moves (Placed AliasSign) s = nodes false _ refl refl
    moves (Placed AnchorSign) s = nodes true _ refl refl
    moves (Placed TagSign) s = nodes true _ refl refl
    moves (Placed (BlockSign literal)) s = nodes false _ refl refl
    moves (Placed (QuoteSign single)) s = nodes false _ refl refl
    moves (Placed PlainSign) s = nodes false _ refl refl
    moves (Placed StrayMark) s = keeps _ refl refl
    moves (Placed NoSign) s = keeps _ refl refl

-- an opener's tail ends on its line
opens_line : {in_flow adjacent : Bool} {column : ℕ} (b : Bracket) (h : Here) →
    Begins in_flow adjacent column h.unread.text (Placed (OpenSign b)) → (step h).place.line ≡ h.place.line
opens_line b h p = on h.unread.text refl p
  where
    on : {in_flow adjacent : Bool} {column : ℕ} (text : List ℕ) → h.unread.text ≡ text →
        Begins in_flow adjacent column text (Placed (OpenSign b)) → (step h).place.line ≡ h.place.line
    on text e (sign {text = t} m p d (begins.SignBegins.opens bracket)) = opener_line bracket h t e

pub opened_line : (o : OptionsData) (ends : Bool) (sort : LexemeSort) (h : Here) (l : Laid) (items : List Item)
    (after : ReaderState) {in_flow adjacent : Bool} {column : ℕ} →
    Begins in_flow adjacent column h.unread.text sort → Given o ends sort h l items after → (b : Bracket) →
    sort ≡ Placed (OpenSign b) → after.here.place.line ≡ h.place.line
opened_line o ends sort h l items after {in_flow = f} {adjacent = a} {column = c} q p b e =
    by items (subst (λ (sort : LexemeSort). Given o ends sort h l items after) e p)
    (subst (Begins f a c h.unread.text) e q)
  where
    by : (items : List Item) → Given o ends (Placed (OpenSign b)) h l items after →
        Begins f a c h.unread.text (Placed (OpenSign b)) → after.here.place.line ≡ h.place.line
    by (OfLexeme y ∷ []) p q = tail_line p.0.0.tailed ∙ opens_line b h q
    by [] p q = absurd p
    by (OfComment c ∷ is) p q = absurd p
    by (OfLexeme y ∷ i ∷ is) p q = absurd p

-- ---- the outermost open bracket

-- the first bracket, which is open since
pub data OpenSince : (ls : List Lexeme) (opener : Lexeme) (before : List Lexeme) → Type 0 where
  opens_it : {x : Lexeme} {xs : List Lexeme} → role x ≡ Opens → openers xs ≡ [] → OpenSince (x ∷ xs) x xs
  still_open :
      {x opener : Lexeme} {xs before : List Lexeme} → IsInside (x ∷ xs) → OpenSince xs opener before →
      OpenSince (x ∷ xs) opener before

since_inside : {ls before : List Lexeme} {opener : Lexeme} → OpenSince ls opener before → openers ls ≡ [] → ⊥
since_inside (opens_it {x = x} {xs = xs} r e) f = let p = opens_one x xs r in let z = sym p.1 ∙ f in cc
since_inside (still_open i s) f = let z = sym i.2 ∙ f in cc

-- where one is open before a lexeme, that isn't the first
since_within : {x opener : Lexeme} {xs before : List Lexeme} (b : Opener) (bs : List Opener) → openers xs ≡ b ∷ bs →
    OpenSince (x ∷ xs) opener before → OpenSince xs opener before
since_within b bs e (opens_it t f) = absurd (let z = sym f ∙ e in cc)
since_within b bs e (still_open i s) = s

since_first : {x opener : Lexeme} {xs before : List Lexeme} → openers xs ≡ [] →
    OpenSince (x ∷ xs) opener before → (opener ≡ x) × (before ≡ xs)
since_first e (opens_it t f) = (refl, refl)
since_first e (still_open i s) = absurd (since_inside s e)

-- inside whole brackets that stand inside it, it is open too
pub whole_since : {ls rest before : List Lexeme} {opener : Lexeme} (b : Opener) (bs : List Opener) →
    WholeBrackets ls rest → openers rest ≡ b ∷ bs → OpenSince ls opener before → OpenSince rest opener before
whole_since b bs whole_none e s = s
whole_since b bs (whole_other n c w) e (opens_it r f) = absurd (n r)
whole_since b bs (whole_other n c w) e (still_open i s) = whole_since b bs w e s
whole_since b bs (whole_pair {closer = x} r w q v) e (opens_it t f) = absurd (let z = sym r ∙ t in cc)
whole_since b bs (whole_pair {opener = y} {ys = ys} r w q v) e (still_open i s) =
    let p = opens_one y ys q in
    whole_since b bs v e (since_within b bs (whole_openers v ∙ e) (whole_since p.0 (openers ys) w p.1 s))

-- it is the one before which none is open
pub since_is : {ls before zs : List Lexeme} {opener x : Lexeme} → WholeBrackets ls (x ∷ zs) → role x ≡ Opens →
    openers zs ≡ [] → OpenSince ls opener before → (opener ≡ x) × (before ≡ zs)
since_is {zs = zs} {x = x} w r e s =
    let p = opens_one x zs r in
    since_first e (whole_since p.0 (openers zs) w p.1 s)

-- further out it is still the one
pub since_out : {ls before zs : List Lexeme} {opener x : Lexeme} (b : Opener) (bs : List Opener) →
    WholeBrackets ls (x ∷ zs) → role x ≡ Opens → openers zs ≡ b ∷ bs → OpenSince ls opener before →
    OpenSince zs opener before
since_out {zs = zs} {x = x} b bs w r e s =
    let p = opens_one x zs r in
    since_within b bs e (whole_since p.0 (openers zs) w p.1 s)

-- ---- what is held of it

-- the key that is held is that of the run; where none is, that may be none, is too far, or began on an earlier line
abbrev pub Kept : OptionsData → List ℕ → Mark → (opener first : Lexeme) → List Lexeme → Option PossibleKey → Type 0
Kept o text m opener first rest None =
    MayBeKey text false first rest →
    (too_far o true first.start m ≡ true) ⊎ (first.start.place.line < opener.start.place.line)
Kept o text m opener first rest (Some k) =
    (k.start ≡ first.start) × (opener.start.place.line ≤ first.start.place.line)

pub record OuterKey (o : OptionsData) (text : List ℕ) (m : Mark) (ls : List Lexeme) (key : Option PossibleKey) :
    Type 0 where
  pub opener : Lexeme
  pub before : List Lexeme
  pub since : OpenSince ls opener before
  pub first : Lexeme
  pub rest : List Lexeme
  pub lead : Lead opener before first rest
  pub kept : Kept o text m opener first rest key

abbrev pub OuterSays : OptionsData → List ℕ → Mark → List Lexeme → List OpenBracket → Option PossibleKey → Type 0
OuterSays o text m ls [] key = Unit {0}
OuterSays o text m ls (b ∷ bs) key = OuterKey o text m ls key

far_on : (o : OptionsData) (s m n : Mark) → Onward m n → too_far o true s m ≡ true → too_far o true s n ≡ true
far_on o s m n w e =
    or_more (later (s.place.index + o.simple_key_max_lookahead) m.place.index n.place.index w.0 (or_less e))
  where
    later : (a b c : ℕ) → b ≤ c → nat_lt a b ≡ true → nat_lt a c ≡ true
    later a b c p q = grind (arith, nat_tests, p, q)

    or_less : {v : Bool} → (v || false) ≡ true → v ≡ true
    or_less {v = true} e = refl
    or_less {v = false} e = e

    or_more : {v : Bool} → v ≡ true → (v || false) ≡ true
    or_more {v = true} e = refl
    or_more {v = false} e = e

stale_far : (o : OptionsData) (m s : Mark) (k : PossibleKey) → k.start ≡ s → is_stale o true m k ≡ true →
    too_far o true s m ≡ true
unfolding is_stale
stale_far o m s k e y = subst (λ s. too_far o true s m ≡ true) e y

kept_fresh : (o : OptionsData) (text : List ℕ) (m n : Mark) → Onward m n → (opener first : Lexeme)
    (rest : List Lexeme) (key : Option PossibleKey) → Kept o text m opener first rest key →
    Kept o text n opener first rest (fresh_key o true n key)
kept_fresh o text m n w opener first rest None p =
    λ y. elim (p y) [ inl q ↦ inl (far_on o first.start m n w q) | inr q ↦ inr q ]
kept_fresh o text m n w opener first rest (Some k) p = on (is_stale o true n k) refl
  where
    on : (v : Bool) → is_stale o true n k ≡ v → Kept o text n opener first rest (if v then None else Some k)
    on true e = λ y. inl (stale_far o n first.start k p.0 e)
    on false e = p

pub outer_fresh : (o : OptionsData) (text : List ℕ) (m n : Mark) (ls : List Lexeme) → Onward m n →
    (bs : List OpenBracket) (key : Option PossibleKey) → OuterSays o text m ls bs key →
    OuterSays o text n ls (map (fresh_bracket o n) bs) (fresh_key o (is_nonempty bs) n key)
outer_fresh o text m n ls w [] key p = tt
outer_fresh o text m n ls w (b ∷ bs) key p = record {
  opener = p.opener;
  before = p.before;
  since = p.since;
  first = p.first;
  rest = p.rest;
  lead = p.lead;
  kept = kept_fresh o text m n w p.opener p.first p.rest key p.kept;
}

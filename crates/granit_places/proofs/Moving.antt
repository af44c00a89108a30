-- What a lexeme of each sort makes of the possible keys, and where it may stand on its line.
use Rattle.std.proofs.Common.{◌≡◌, ℕ, suc, ◌&&◌, ◌||◌, not, Bool, true, false, List, [], ◌∷◌, Option, Some, None, inl}
use Rattle.std.proofs.Common.{inr, refl, sym, ap, ap₂, ◌∙◌, subst}
use Rattle.std.specs.Prelude.{if◌then◌else◌, is_none}
use Rattle.granit_base.specs.Place.{Mark}
use Rattle.granit_error.specs.OptionsData.{OptionsData}
use Rattle.granit_lexemes.specs.Here.{Here}
use Rattle.granit_lexemes.specs.Lexeme.{LexemeKind, Open, Close, KeyStart, Lexeme}
use Rattle.granit_lexemes.specs.declared.layout.Bracket.{Bracket}
use Rattle.granit_machine.specs.Columns.{pair_entered, entered}
use Rattle.granit_machine.specs.IndicatorLexemes.{is_before_break, widened_if}
use Rattle.granit_machine.specs.Laid.{Laid, is_opener, is_dash, is_indicator, is_in_flow}
use Rattle.granit_lexemes.specs.declared.layout.PossibleKey.{PossibleKey}
use Rattle.granit_lexemes.specs.declared.layout.OpenBracket.{OpenBracket}
use Rattle.granit_machine.specs.LexemeSort.{OpenSign, CloseSign, CommaSign, DashSign, QuestionSign, ColonSign}
use Rattle.granit_machine.specs.LexemeSort.{AliasSign, AnchorSign, TagSign, BlockSign, QuoteSign, StrayMark, NoSign}
use Rattle.granit_machine.specs.LexemeSort.{PlainSign, LexemeSort, TextEnd, StartMark, EndMark, Unprintable}
use Rattle.granit_machine.specs.LexemeSort.{DirectiveSign, Placed}
use Rattle.granit_machine.specs.PossibleKeys.{top_key, is_allowed}
use Rattle.granit_machine.specs.Reader.{noded}
use Rattle.granit_reading.proofs.ReadingLaw.{noded-flow}
use Rattle.granit_language.specs.Before.{behind_colon, behind_question_sign, closed_for, run_for, behind}
use Rattle.granit_language.specs.Fitting.{OfNode, Opens, Closes, Keyed, Other, role_of, outer_keys, begins_block_entry}
use Rattle.granit_language.specs.Fitting.{stands_as_entry}
use Rattle.granit_language.specs.Seen.{key_number as start_number}
use Rattle.granit_language.specs.Standing.{key_start, ClosesInnermost}
use Rattle.granit_places.proofs.Choosing.{Held, top_of, Within, within_self, Moves, role_key}
use Rattle.granit_places.proofs.Holding.{key_number, held_in, held, top_held, Noted, node_noted, forgets-held}
use Rattle.granit_places.proofs.Holding.{forgets-within, shut_in}
use Rattle.granit_places.proofs.Telling.{Told, Unkeyed, Allowed, SaysOf, Agrees}

-- what one lexeme makes of the possible keys
pub record Moved (l : Laid) (x : Lexeme) (after : Laid) : Type 0 where
  pub number : x.number ≡ l.number
  pub next : after.number ≡ suc l.number
  pub key : start_number x.key ≡ role_key (role_of x.kind x.key)
  pub new : Bool
  pub moves : Moves (role_of x.kind x.key) new l.number (held l) (held after)
  pub lines : (flag : Bool) → (flag ≡ true → new ≡ true) → stands_as_entry x flag ≡ true

-- ---- lines

abbrev LineOf : Here → Laid → Bool
LineOf h l = is_in_flow l || (h.begins_line || (is_dash l.last || is_indicator l.last))

allowed_line : (flow opens line dash sign none : Bool)
    → (if flow then opens else (line || dash) || (sign && none)) ≡ true → (flow || (line || (dash || sign))) ≡ true
allowed_line true opens line dash sign none e = refl
allowed_line false opens true dash sign none e = refl
allowed_line false opens false true sign none e = refl
allowed_line false opens false false true none e = refl
allowed_line false opens false false false none e = e

line_of : (h : Here) (l : Laid) → Allowed h l → LineOf h l ≡ true
unfolding is_allowed
line_of h l e = allowed_line (is_in_flow l) (is_opener l.last) h.begins_line (is_dash l.last) (is_indicator l.last)
    (is_none h.tab) e

flow_line : (h : Here) (l : Laid) → is_in_flow l ≡ true → LineOf h l ≡ true
flow_line h l e = ap (λ b. b || (h.begins_line || (is_dash l.last || is_indicator l.last))) e

node_line : (flow flag new x : Bool) → (new ≡ true → (flow || x) ≡ true) → (flag ≡ true → new ≡ true)
    → (flow || (not flag || x)) ≡ true
node_line true flag new x p q = refl
node_line false true new x p q = p (q refl)
node_line false false new x p q = refl

never : (flow x : Bool) → (flow || (not false || x)) ≡ true
never true x = refl
never false x = refl

weaker : (f b x : Bool) → (f || x) ≡ true → (f || (not b || x)) ≡ true
weaker true b x p = refl
weaker false true x p = p
weaker false false x p = refl

-- where a lexeme stands on its line
line_told : {h : Here} {l : Laid} {x : Lexeme} → Told h l x → (b : Bool)
    → (x.in_flow || (b || (x.begins_line || x.follows_indicator)))
    ≡ (is_in_flow l || (b || (h.begins_line || (is_dash l.last || is_indicator l.last))))
line_told {l = l} {x = x} p b = ap (λ f. f || (b || (x.begins_line || x.follows_indicator))) p.flow
    ∙ ap₂ (λ (v w : Bool). is_in_flow l || (b || (v || w))) p.line p.follows

-- ---- lexemes by what they do to the keys

-- what is told of a lexeme by its kind where it names no key
pub role_unkeyed : {kind : LexemeKind} {x : Lexeme} → Unkeyed kind x → role_of x.kind x.key ≡ role_of kind None
role_unkeyed u = ap₂ role_of u.is u.key

module _ (h : Here) (l : Laid) (x : Lexeme) (after : Laid) (next : after.number ≡ suc l.number) (kind : LexemeKind)
    (u : Unkeyed kind x) where
  -- one that begins and names no key, and may begin an entry anywhere
  other_moved : x.number ≡ l.number → role_of kind None ≡ Other
      → ((flag : Bool) → begins_block_entry Other kind flag ≡ false)
      → Within (held after) (held l) → Moved l x after
  other_moved number r none w =
      let role = role_unkeyed u ∙ r in
      record {
        number = number;
        next = next;
        key = ap start_number u.key ∙ ap role_key (sym role);
        new = false;
        moves = subst (λ r. Moves r false l.number (held l) (held after)) (sym role) w;
        lines = λ flag q. ap (λ (b : Bool). x.in_flow || (not b || (x.begins_line || x.follows_indicator)))
            (ap₂ (λ r k. begins_block_entry r k flag) role u.is ∙ none flag)
            ∙ never x.in_flow (x.begins_line || x.follows_indicator);
      }

  -- the same, where it stands on its line as an indicator must
  sign_moved : Told h l x → role_of kind None ≡ Other → LineOf h l ≡ true → Within (held after) (held l)
      → Moved l x after
  sign_moved t r e w =
      let role = role_unkeyed u ∙ r in
      record {
        number = t.number;
        next = next;
        key = ap start_number u.key ∙ ap role_key (sym role);
        new = false;
        moves = subst (λ r. Moves r false l.number (held l) (held after)) (sym role) w;
        lines = λ flag q. weaker x.in_flow (begins_block_entry (role_of x.kind x.key) x.kind flag)
            (x.begins_line || x.follows_indicator) (line_told t false ∙ e);
      }

  closes_moved : x.number ≡ l.number → role_of kind None ≡ Closes → held after ≡ outer_keys (held l) → Moved l x after
  closes_moved number r e =
      let role = role_unkeyed u ∙ r in
      record {
        number = number;
        next = next;
        key = ap start_number u.key ∙ ap role_key (sym role);
        new = false;
        moves = subst (λ r. Moves r false l.number (held l) (held after)) (sym role)
            (subst (λ gs. Within gs (outer_keys (held l))) (sym e) (within_self (outer_keys (held l))));
        lines = λ flag q. ap (λ (b : Bool). x.in_flow || (not b || (x.begins_line || x.follows_indicator)))
            (ap (λ r. begins_block_entry r x.kind flag) role) ∙ never x.in_flow (x.begins_line || x.follows_indicator);
      }

  -- a lexeme of a node
  module _ (property : Bool) (t : Told h (noded property h l) x) where
    abbrev allowed : Bool
    allowed = is_allowed h.begins_line h.tab l

    new_line : allowed ≡ true → LineOf h (noded property h l) ≡ true
    new_line e = ap (λ f. f || (h.begins_line || (is_dash l.last || is_indicator l.last))) (noded-flow property h l)
        ∙ line_of h l e

    node_moves : (v : Bool) (hs gs : Held) → Noted v l.number hs gs → Moves OfNode v l.number hs gs
    node_moves true hs gs e = subst (λ gs. Within gs (Some l.number ∷ outer_keys hs)) (sym e)
        (within_self (Some l.number ∷ outer_keys hs))
    node_moves false hs gs e = subst (λ gs. Within gs hs) (sym e) (within_self hs)

    opens_moves : (v : Bool) (hs gs : Held) → Noted v l.number hs gs → Moves Opens v l.number hs (None ∷ gs)
    opens_moves true hs gs e = subst (λ gs. Within (None ∷ gs) (None ∷ Some l.number ∷ outer_keys hs)) (sym e)
        (within_self (None ∷ Some l.number ∷ outer_keys hs))
    opens_moves false hs gs e = subst (λ gs. Within (None ∷ gs) (None ∷ hs)) (sym e) (within_self (None ∷ hs))

    entry_line : ((flag : Bool) → begins_block_entry (role_of kind None) kind flag ≡ flag) → (flag : Bool)
        → (flag ≡ true → allowed ≡ true) → stands_as_entry x flag ≡ true
    entry_line is flag q =
        ap (λ (b : Bool). x.in_flow || (not b || (x.begins_line || x.follows_indicator)))
        (ap₂ (λ k key. begins_block_entry (role_of k key) k flag) u.is u.key ∙ is flag)
        ∙ line_told t (not flag) ∙ node_line (is_in_flow (noded property h l)) flag allowed
        (h.begins_line || (is_dash l.last || is_indicator l.last)) new_line q

    node_moved : role_of kind None ≡ OfNode → ((flag : Bool) → begins_block_entry (role_of kind None) kind flag ≡ flag)
        → held after ≡ held (noded property h l) → Moved l x after
    node_moved r is e =
        let role = role_unkeyed u ∙ r in
        record {
          number = t.number;
          next = next;
          key = ap start_number u.key ∙ ap role_key (sym role);
          new = allowed;
          moves = subst (λ r. Moves r allowed l.number (held l) (held after)) (sym role)
              (subst (Moves OfNode allowed l.number (held l)) (sym e)
              (node_moves allowed (held l) (held (noded property h l)) (node_noted property h l)));
          lines = entry_line is;
        }

    opens_moved : role_of kind None ≡ Opens → ((flag : Bool) → begins_block_entry (role_of kind None) kind flag ≡ flag)
        → held after ≡ None ∷ held (noded property h l) → Moved l x after
    opens_moved r is e =
        let role = role_unkeyed u ∙ r in
        record {
          number = t.number;
          next = next;
          key = ap start_number u.key ∙ ap role_key (sym role);
          new = allowed;
          moves = subst (λ r. Moves r allowed l.number (held l) (held after)) (sym role)
              (subst (Moves Opens allowed l.number (held l)) (sym e)
              (opens_moves allowed (held l) (held (noded property h l)) (node_noted property h l)));
          lines = entry_line is;
        }

-- ---- `:`

keyed_moved : (l : Laid) (x : Lexeme) (after : Laid) (k : KeyStart) → x.number ≡ l.number → after.number ≡ suc l.number
    → role_of x.kind x.key ≡ Keyed k.number → start_number x.key ≡ Some k.number → top_of (held l) ≡ Some k.number
    → held after ≡ None ∷ outer_keys (held l) → Moved l x after
keyed_moved l x after k n next role key t e = record {
  number = n;
  next = next;
  key = key ∙ ap role_key (sym role);
  new = false;
  moves = subst (λ r. Moves r false l.number (held l) (held after)) (sym role)
      (t, subst (λ gs. Within gs (None ∷ outer_keys (held l))) (sym e) (within_self (None ∷ outer_keys (held l))));
  lines = λ flag q. ap (λ (b : Bool). x.in_flow || (not b || (x.begins_line || x.follows_indicator)))
      (ap (λ r. begins_block_entry r x.kind flag) role) ∙ never x.in_flow (x.begins_line || x.follows_indicator);
}

colon_moved : (h : Here) (l : Laid) (x : Lexeme) (after : Laid) (v : Bool) (key : Option PossibleKey) → Told h l x
    → is_in_flow l ≡ v → top_key l ≡ key → x.kind ≡ Rattle.granit_lexemes.specs.Lexeme.Colon → x.key ≡ key_start key
    → (v ≡ false → key ≡ None → Allowed h l)
    → after.number ≡ suc (behind_colon v key h l).number → held after ≡ held (behind_colon v key h l) → Moved l x after
colon_moved h l x after true None t f k is e may n g = sign_moved h l x after n _ (record { is = is; key = e }) t refl
    (flow_line h l f) (subst (λ gs. Within gs (held l)) (sym g) (within_self (held l)))
colon_moved h l x after false None t f k is e may n g = sign_moved h l x after n _ (record { is = is; key = e }) t refl
    (line_of h l (may refl refl)) (subst (λ gs. Within gs (held l)) (sym g) (within_self (held l)))
colon_moved h l x after true (Some j) t f k is e may n g = keyed_moved l x after
    (record { number = j.number; start = j.start }) t.number n (ap₂ role_of is e) (ap start_number e)
    (sym (top_held l) ∙ ap key_number k) (g ∙ forgets-held l)
colon_moved h l x after false (Some j) t f k is e may n g = keyed_moved l x after
    (record { number = j.number; start = j.start }) t.number n (ap₂ role_of is e) (ap start_number e)
    (sym (top_held l) ∙ ap key_number k) (g ∙ forgets-held (pair_entered j.start.place.column l))

question_within : (h : Here) (l : Laid) (v : Bool) → Within (held (behind_question_sign v h l)) (held l)
question_within h l true = forgets-within l
question_within h l false = forgets-within (entered h.place.column l)

question_number : (h : Here) (l : Laid) (v : Bool) → (behind_question_sign v h l).number ≡ l.number
question_number h l true = refl
question_number h l false = refl

colon_number : (h : Here) (l : Laid) (v : Bool) (key : Option PossibleKey) → (behind_colon v key h l).number ≡ l.number
colon_number h l true None = refl
colon_number h l false None = refl
colon_number h l true (Some k) = refl
colon_number h l false (Some k) = refl

pub left_open : (bs : List OpenBracket) (bracket : Bracket) → ClosesInnermost bracket bs
    → (b : OpenBracket) × (cs : List OpenBracket) × (bs ≡ b ∷ cs)
left_open [] bracket p = absurd p
left_open (b ∷ bs) bracket p = (b, bs, refl)

pub agrees_held : {a b : Laid} → Agrees a b → held a ≡ held b
agrees_held p = ap₂ held_in p.brackets p.key

-- ---- one lexeme

pub lexeme_moved : (o : OptionsData) (sort : LexemeSort) (h : Here) (l : Laid) (x : Lexeme) (cut : Option Mark)
    (reached : Here) (after : Laid) → Told h (run_for sort h l) x → SaysOf sort h (run_for sort h l) x
    → Agrees after (behind o sort x cut reached h (run_for sort h l)) → Moved l x after
lexeme_moved o TextEnd h l x cut g after t s a = other_moved h l x after a.number _ s.0 t.number refl (λ flag. refl)
    (subst (λ gs. Within gs (held l)) (sym (agrees_held a)) (forgets-within l))
lexeme_moved o StartMark h l x cut g after t s a = other_moved h l x after a.number _ s.0 t.number refl (λ flag. refl)
    (subst (λ gs. Within gs (held l)) (sym (agrees_held a)) (forgets-within l))
lexeme_moved o EndMark h l x cut g after t s a = other_moved h l x after a.number _ s.0 t.number refl (λ flag. refl)
    (subst (λ gs. Within gs (held l)) (sym (agrees_held a)) (forgets-within l))
lexeme_moved o DirectiveSign h l x cut g after t s a = other_moved h l x after a.number _ s.1 t.number refl
    (λ flag. refl) (subst (λ gs. Within gs (held l)) (sym (agrees_held a)) (forgets-within l))
lexeme_moved o Unprintable h l x cut g after t s a = absurd s
lexeme_moved o (Placed (OpenSign bracket)) h l x cut g after t s a = opens_moved h l x after a.number (Open bracket) s
    false t refl (λ flag. refl) (agrees_held a)
lexeme_moved o (Placed (CloseSign bracket)) h l x cut g after t s a =
    let b = left_open l.brackets bracket s.1 in closes_moved h l x after a.number (Close bracket) s.0 t.number refl
    (agrees_held a ∙ shut_in l.brackets l.key b.0 b.1 b.2)
lexeme_moved o (Placed CommaSign) h l x cut g after t s a = other_moved h l x after a.number _ s t.number refl
    (λ flag. refl) (subst (λ gs. Within gs (held l)) (sym (agrees_held a)) (forgets-within l))
lexeme_moved o (Placed DashSign) h l x cut g after t s a =
    sign_moved h l x after a.number _ s.0 t refl (line_of h l s.2)
    (subst (λ gs. Within gs (held l)) (sym (agrees_held a))
    (forgets-within (widened_if (is_before_break g) (entered h.place.column l))))
lexeme_moved o (Placed QuestionSign) h l x cut g after t s a =
    sign_moved h l x after (a.number ∙ ap suc (question_number h l (is_in_flow l))) _ s.0 t refl
    (elim s.1 [ inl e ↦ flow_line h l e | inr e ↦ line_of h l e ])
    (subst (λ gs. Within gs (held l)) (sym (agrees_held a)) (question_within h l (is_in_flow l)))
lexeme_moved o (Placed ColonSign) h l x cut g after t s a = colon_moved h l x after (is_in_flow l) (top_key l) t refl
    refl s.0 s.1 s.2 a.number (agrees_held a)
lexeme_moved o (Placed AliasSign) h l x cut g after t s a = node_moved h l x after a.number _ s.1 false t refl
    (λ flag. refl) (agrees_held a)
lexeme_moved o (Placed AnchorSign) h l x cut g after t s a = node_moved h l x after a.number _ s.1 true t refl
    (λ flag. refl) (agrees_held a)
lexeme_moved o (Placed TagSign) h l x cut g after t s a = node_moved h l x after a.number _ s.2 true t refl
    (λ flag. refl) (agrees_held a)
lexeme_moved o (Placed (BlockSign literal)) h l x cut g after t s a = node_moved h l x after a.number _ s.2 false t refl
    (λ flag. refl) (agrees_held a)
lexeme_moved o (Placed (QuoteSign single)) h l x cut g after t s a = node_moved h l x after a.number _ s.2 false t refl
    (λ flag. refl) (agrees_held a)
lexeme_moved o (Placed PlainSign) h l x cut g after t s a = node_moved h l x after a.number _ s.2 false t refl
    (λ flag. refl) (agrees_held a)
lexeme_moved o (Placed StrayMark) h l x cut g after t s a = absurd s
lexeme_moved o (Placed NoSign) h l x cut g after t s a = absurd s

-- what a lexeme closes leaves the possible keys
pub closed_held : (sort : LexemeSort) (h : Here) (l : Laid)
    → ((closed_for sort h l).number ≡ l.number) × (held (closed_for sort h l) ≡ held l)
closed_held TextEnd h l = (refl, refl)
closed_held StartMark h l = (refl, refl)
closed_held EndMark h l = (refl, refl)
closed_held DirectiveSign h l = (refl, refl)
closed_held Unprintable h l = (refl, refl)
closed_held (Placed sort) h l = (refl, refl)

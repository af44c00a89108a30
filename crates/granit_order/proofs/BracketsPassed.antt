-- What a lexeme of each sort makes of the open brackets, and where a simple key may begin with it in flow.
use Rattle.std.proofs.Common.{◌≡◌, ℕ, ◌&&◌, ◌||◌, Bool, true, false, List, [], ◌∷◌, drop, map, Option, Some, None, refl}
use Rattle.std.proofs.Common.{sym, ap, ap₂, ◌∙◌, subst}
use Rattle.std.specs.Prelude.{if◌then◌else◌, is_none}
use Rattle.granit_base.specs.Place.{Mark}
use Rattle.granit_error.specs.OptionsData.{OptionsData}
use Rattle.granit_views.specs.Fair.{is_key_part}
use Rattle.granit_language.specs.Seen.{key_number, terminal_kind}
use Rattle.granit_language.specs.Before.{run_for, behind_colon, behind_question_sign, last_of_colon, behind}
use Rattle.granit_language.specs.Fitting.{OfNode, Opens, role_of}
use Rattle.granit_language.specs.Standing.{ClosesInnermost}
use Rattle.granit_language.specs.Terminal.{Part, PartKind, TerminalKind, is_dash_kind, bracket_is}
use Rattle.granit_lexemes.specs.Comment.{CommentRead}
use Rattle.granit_lexemes.specs.Here.{Here}
use Rattle.granit_lexemes.specs.Lexeme.{LexemeKind, Lexeme}
use Rattle.granit_lexemes.specs.declared.layout.Bracket.{Bracket}
use Rattle.granit_lexemes.specs.declared.layout.Bracket.TheVariants.{Square, Curly}
use Rattle.granit_lexemes.specs.declared.layout.LastLexeme.TheVariants.{Opener, BehindProperty, BehindQuestion}
use Rattle.granit_lexemes.specs.declared.layout.LastLexeme.TheVariants.{Adjacent, Another}
use Rattle.granit_lexemes.specs.declared.layout.OpenBracket.{OpenBracket}
use Rattle.granit_lexemes.specs.declared.layout.PossibleKey.{PossibleKey}
use Rattle.granit_machine.specs.Laid.{Laid, is_opener, is_dash, is_indicator, is_question, is_nonempty, is_in_flow}
use Rattle.granit_machine.specs.Laid.{same_bracket}
use Rattle.granit_machine.specs.LexemeSort.{OpenSign, CloseSign, CommaSign, DashSign, QuestionSign, ColonSign}
use Rattle.granit_machine.specs.LexemeSort.{AliasSign, AnchorSign, TagSign, BlockSign, QuoteSign, StrayMark, NoSign}
use Rattle.granit_machine.specs.LexemeSort.{PlainSign, LexemeSort, TextEnd, StartMark, EndMark, Unprintable}
use Rattle.granit_machine.specs.LexemeSort.{DirectiveSign, Placed}
use Rattle.granit_machine.specs.NodeLexemes.{last_of_property}
use Rattle.granit_machine.specs.PossibleKeys.{top_key, keyed_brackets, is_allowed}
use Rattle.granit_machine.specs.Reader.{noded}
use Rattle.granit_machine.specs.ReaderState.{behind_tail}
use Rattle.granit_reading.proofs.Deciding.{asserts, bracket_decided}
use Rattle.granit_places.proofs.Choosing.{Held, Within, within_self, Moves}
use Rattle.granit_places.proofs.Holding.{held, Noted, node_noted}
use Rattle.granit_places.proofs.Moving.{Moved, agrees_held, role_unkeyed}
use Rattle.granit_places.proofs.Telling.{Unkeyed, Agrees}
pub use Rattle.granit_places.proofs.Telling.{SaysOf}
use Rattle.granit_order.specs.Order.{outer_brackets, open_behind, may_follow, is_innermost, closes_innermost}

abbrev pub kinds_in : List OpenBracket → List Bracket
kinds_in bs = map (λ b. b.bracket) bs

pub kinds_flow : (bs : List OpenBracket) → is_nonempty (kinds_in bs) ≡ is_nonempty bs
kinds_flow [] = refl
kinds_flow (b ∷ bs) = refl

pub keyed_kinds : (key : Option PossibleKey) (bs : List OpenBracket) → kinds_in (keyed_brackets key bs) ≡ kinds_in bs
keyed_kinds key [] = refl
keyed_kinds key (b ∷ bs) = refl

dropped_kinds : (bs : List OpenBracket) → kinds_in (drop 1 bs) ≡ outer_brackets (kinds_in bs)
dropped_kinds [] = refl
dropped_kinds (b ∷ bs) = refl

same_is : (a b : Bracket) → same_bracket a b ≡ true → bracket_is a b ≡ true
same_is Square Square e = refl
same_is Curly Curly e = refl
same_is Square Curly e = absurd cc
same_is Curly Square e = absurd cc

closes_kinds : (bracket : Bracket) (bs : List OpenBracket) → ClosesInnermost bracket bs →
    is_innermost bracket (kinds_in bs) ≡ true
closes_kinds bracket [] p = absurd p
closes_kinds bracket (b ∷ bs) p = same_is b.bracket bracket (asserts (bracket_decided b.bracket bracket) p)

-- a lexeme passes the keys and the brackets on
pub record Passed (l : Laid) (x : Lexeme) (after : Laid) : Type 0 where
  pub new : Bool
  pub moves : Moves (role_of x.kind x.key) new l.number (held l) (held after)
  pub term : TerminalKind
  pub term_is : terminal_kind x.kind x.key ≡ term
  pub kinds : kinds_in after.brackets ≡ open_behind term (kinds_in l.brackets)
  pub last : is_nonempty (kinds_in after.brackets) ≡ true → is_opener after.last ≡ may_follow term
  pub closes : closes_innermost term (kinds_in l.brackets) ≡ true
  pub no_dash : is_nonempty (kinds_in l.brackets) ≡ true → is_dash_kind term ≡ false
  pub begins : (flag : Bool) → (flag ≡ true → new ≡ true) → is_nonempty (kinds_in l.brackets) ≡ true →
      is_opener l.last ≡ false → is_key_part term flag ≡ false

pub term_of : {kind : LexemeKind} {x : Lexeme} → Unkeyed kind x → terminal_kind x.kind x.key ≡ terminal_kind kind None
term_of u = ap₂ terminal_kind u.is u.key

-- ---- lexemes of nodes

node_moves : (v : Bool) (n : ℕ) (hs gs : Held) → Noted v n hs gs → Moves OfNode v n hs gs
node_moves true n hs gs e =
    subst (λ gs. Within gs (Some n ∷ Rattle.granit_language.specs.Fitting.outer_keys hs)) (sym e)
    (within_self (Some n ∷ Rattle.granit_language.specs.Fitting.outer_keys hs))
node_moves false n hs gs e = subst (λ gs. Within gs hs) (sym e) (within_self hs)

opens_moves : (v : Bool) (n : ℕ) (hs gs : Held) → Noted v n hs gs → Moves Opens v n hs (None ∷ gs)
opens_moves true n hs gs e =
    subst (λ gs. Within (None ∷ gs) (None ∷ Some n ∷ Rattle.granit_language.specs.Fitting.outer_keys hs)) (sym e)
    (within_self (None ∷ Some n ∷ Rattle.granit_language.specs.Fitting.outer_keys hs))
opens_moves false n hs gs e = subst (λ gs. Within (None ∷ gs) (None ∷ hs)) (sym e) (within_self (None ∷ hs))

allowed_opener : (h : Here) (l : Laid) → is_in_flow l ≡ true → is_allowed h.begins_line h.tab l ≡ true →
    is_opener l.last ≡ true
unfolding is_allowed
allowed_opener h l f e =
    sym (ap (λ (f : Bool). if f then is_opener l.last else (h.begins_line || is_dash l.last) ||
    (is_indicator l.last && is_none h.tab)) f) ∙ e

begins_part : (h : Here) (l : Laid) (k : PartKind) (flag : Bool) →
    (flag ≡ true → is_allowed h.begins_line h.tab l ≡ true) → is_nonempty (kinds_in l.brackets) ≡ true →
    is_opener l.last ≡ false → is_key_part (Part k) flag ≡ false
begins_part h l k false p f q = refl
begins_part h l k true p f q = let z = allowed_opener h l (sym (kinds_flow l.brackets) ∙ f) (p refl) in absurd cc

module _ (h : Here) (l : Laid) (x : Lexeme) (after : Laid) (kind : LexemeKind) (k : PartKind) (property : Bool)
    (u : Unkeyed kind x) where
  node_passed : terminal_kind kind None ≡ Part k → role_of kind None ≡ OfNode → held after ≡ held (noded property h l) →
      kinds_in after.brackets ≡ kinds_in (noded property h l).brackets → is_opener after.last ≡ false
      → open_behind (Part k) (kinds_in l.brackets) ≡ kinds_in l.brackets → may_follow (Part k) ≡ false →
      Passed l x after
  node_passed t r e b q same quiet = record {
    new = is_allowed h.begins_line h.tab l;
    moves =
        subst (λ r. Moves r (is_allowed h.begins_line h.tab l) l.number (held l) (held after)) (sym (role_unkeyed u
        ∙ r)) (subst (Moves OfNode (is_allowed h.begins_line h.tab l) l.number (held l)) (sym e)
        (node_moves (is_allowed h.begins_line h.tab l) l.number (held l) (held (noded property h l))
        (node_noted property h l)));
    term = Part k;
    term_is = term_of u ∙ t;
    kinds = b ∙ keyed_kinds _ l.brackets ∙ sym same;
    last = λ f. q ∙ sym quiet;
    closes = refl;
    no_dash = λ f. refl;
    begins = begins_part h l k;
  }

-- ---- others

module _ (l : Laid) (x : Lexeme) (after : Laid) (m : Moved l x after) where
  sign_passed : (term : TerminalKind) → terminal_kind x.kind x.key ≡ term →
      kinds_in after.brackets ≡ open_behind term (kinds_in l.brackets) →
      (is_nonempty (kinds_in after.brackets) ≡ true → is_opener after.last ≡ may_follow term)
      → closes_innermost term (kinds_in l.brackets) ≡ true →
      (is_nonempty (kinds_in l.brackets) ≡ true → is_dash_kind term ≡ false) →
      ((flag : Bool) → is_key_part term flag ≡ false) → Passed l x after
  sign_passed term is kinds last closes dash part =
      record {
        new = m.new;
        moves = m.moves;
        term = term;
        term_is = is;
        kinds = kinds;
        last = last;
        closes = closes;
        no_dash = dash;
        begins = λ flag p f q. part flag;
      }

none_open : (bs cs : List OpenBracket) → bs ≡ [] → kinds_in cs ≡ kinds_in bs → {A : Type 0} →
    is_nonempty (kinds_in cs) ≡ true → A
none_open bs cs e f g =
    let z = ap (λ (ks : List Bracket). is_nonempty ks) (f ∙ ap (λ (bs : List OpenBracket). kinds_in bs) e) in absurd cc

property_quiet : (o : OptionsData) (l : Laid) → is_opener (last_of_property o l) ≡ false
property_quiet o l = on (o.strict_indentation && is_question l.last)
  where
    on : (v : Bool) → is_opener (if v then BehindProperty else Another) ≡ false
    on true = refl
    on false = refl

tail_quiet : (tail : Option CommentRead) → is_opener (behind_tail Adjacent tail) ≡ false
tail_quiet None = refl
tail_quiet (Some c) = refl

question_kinds : (h : Here) (l : Laid) (v : Bool) → kinds_in (behind_question_sign v h l).brackets ≡ kinds_in l.brackets
question_kinds h l true = keyed_kinds None l.brackets
question_kinds h l false = keyed_kinds None l.brackets

question_quiet : (v : Bool) → is_opener (if v then Another else BehindQuestion) ≡ false
question_quiet true = refl
question_quiet false = refl

colon_kinds : (h : Here) (l : Laid) (v : Bool) (key : Option PossibleKey) →
    kinds_in (behind_colon v key h l).brackets ≡ kinds_in l.brackets
colon_kinds h l true None = refl
colon_kinds h l true (Some k) = keyed_kinds None l.brackets
colon_kinds h l false None = refl
colon_kinds h l false (Some k) = keyed_kinds None l.brackets

colon_quiet : (v : Bool) (key : Option PossibleKey) → is_opener (last_of_colon v key) ≡ false
colon_quiet true None = refl
colon_quiet true (Some k) = refl
colon_quiet false None = refl
colon_quiet false (Some k) = refl

comma_opens : (v : Bool) → v ≡ true → is_opener (if v then Opener else Another) ≡ true
comma_opens true e = refl
comma_opens false e = absurd cc

module _ (o : OptionsData) (h : Here) (l : Laid) (x : Lexeme) (cut : Option Mark) (reached : Here) (after : Laid)
    (m : Moved l x after) where
  kinds_as : (a : Laid) → Agrees after a → kinds_in after.brackets ≡ kinds_in a.brackets
  kinds_as a e = ap (λ (bs : List OpenBracket). kinds_in bs) e.brackets

  pub passed : (sort : LexemeSort) → SaysOf sort h (run_for sort h l) x →
      Agrees after (behind o sort x cut reached h (run_for sort h l)) → Passed l x after
  passed TextEnd s a =
      sign_passed l x after m _ (term_of s.0) (kinds_as _ a
      ∙ keyed_kinds None l.brackets) (λ f. none_open l.brackets after.brackets s.1 (kinds_as _ a
      ∙ keyed_kinds None l.brackets) f) refl (λ f. refl) (λ flag. refl)
  passed StartMark s a =
      sign_passed l x after m _ (term_of s.0) (kinds_as _ a
      ∙ keyed_kinds None l.brackets) (λ f. a.last.opener) refl (λ f. refl) (λ flag. refl)
  passed EndMark s a =
      sign_passed l x after m _ (term_of s.0) (kinds_as _ a
      ∙ keyed_kinds None l.brackets) (λ f. a.last.opener) refl (λ f. refl) (λ flag. refl)
  passed DirectiveSign s a =
      sign_passed l x after m _ (term_of s.1) (kinds_as _ a
      ∙ keyed_kinds None l.brackets) (λ f. a.last.opener) refl (λ f. refl) (λ flag. refl)
  passed Unprintable s a = absurd s
  passed (Placed (OpenSign bracket)) s a = record {
    new = is_allowed h.begins_line h.tab l;
    moves =
        subst (λ r. Moves r (is_allowed h.begins_line h.tab l) l.number (held l) (held after)) (sym (role_unkeyed s))
        (subst (Moves Opens (is_allowed h.begins_line h.tab l) l.number (held l)) (sym (agrees_held a))
        (opens_moves (is_allowed h.begins_line h.tab l) l.number (held l) (held (noded false h l))
        (node_noted false h l)));
    term = Part (Rattle.granit_language.specs.Terminal.Open bracket);
    term_is = term_of s;
    kinds = kinds_as _ a ∙ ap (λ (ks : List Bracket). bracket ∷ ks) (keyed_kinds _ l.brackets);
    last = λ f. a.last.opener;
    closes = refl;
    no_dash = λ f. refl;
    begins = begins_part h l (Rattle.granit_language.specs.Terminal.Open bracket);
  }
  passed (Placed (CloseSign bracket)) s a =
      sign_passed l x after m _ (term_of s.0) (kinds_as _ a ∙ dropped_kinds l.brackets) (λ f. a.last.opener
      ∙ tail_quiet x.tail) (closes_kinds bracket l.brackets s.1) (λ f. refl) (λ flag. refl)
  passed (Placed CommaSign) s a =
      let e = kinds_as _ a ∙ keyed_kinds None l.brackets in
      sign_passed l x after m _ (term_of s) e (λ f. a.last.opener
      ∙ comma_opens (is_in_flow l) (sym (kinds_flow l.brackets) ∙ ap (λ (ks : List Bracket). is_nonempty ks) (sym e)
      ∙ f)) refl (λ f. refl) (λ flag. refl)
  passed (Placed DashSign) s a =
      sign_passed l x after m _ (term_of s.0) (kinds_as _ a
      ∙ keyed_kinds None l.brackets) (λ f. a.last.opener) refl (λ f. let z =
      sym (kinds_flow l.brackets) ∙ f in let y = s.1 in absurd cc) (λ flag. refl)
  passed (Placed QuestionSign) s a =
      sign_passed l x after m _ (term_of s.0) (kinds_as _ a ∙ question_kinds h l (is_in_flow l)) (λ f. a.last.opener
      ∙ question_quiet (is_in_flow l)) refl (λ f. refl) (λ flag. refl)
  passed (Placed ColonSign) s a =
      sign_passed l x after m (Rattle.granit_language.specs.Terminal.Colon (key_number x.key))
      (ap (λ kind. terminal_kind kind x.key) s.0) (kinds_as _ a
      ∙ colon_kinds h l (is_in_flow l) (top_key l)) (λ f. a.last.opener
      ∙ colon_quiet (is_in_flow l) (top_key l)) refl (λ f. refl) (λ flag. refl)
  passed (Placed AliasSign) s a =
      node_passed h l x after _ _ false s.1 refl refl (agrees_held a) (kinds_as _ a) a.last.opener refl refl
  passed (Placed AnchorSign) s a =
      node_passed h l x after _ _ true s.1 refl refl (agrees_held a) (kinds_as _ a) (a.last.opener
      ∙ property_quiet o (noded true h l)) refl refl
  passed (Placed TagSign) s a =
      node_passed h l x after _ _ true s.2 refl refl (agrees_held a) (kinds_as _ a) (a.last.opener
      ∙ property_quiet o (noded true h l)) refl refl
  passed (Placed (BlockSign literal)) s a =
      node_passed h l x after _ _ false s.2 refl refl (agrees_held a) (kinds_as _ a) a.last.opener refl refl
  passed (Placed (QuoteSign single)) s a =
      node_passed h l x after _ _ false s.2 refl refl (agrees_held a) (kinds_as _ a) a.last.opener refl refl
  passed (Placed PlainSign) s a =
      node_passed h l x after _ _ false s.2 refl refl (agrees_held a) (kinds_as _ a) a.last.opener refl refl
  passed (Placed StrayMark) s a = absurd s
  passed (Placed NoSign) s a = absurd s

-- Brackets nest within the limit, and those that are held are the open ones.
use Rattle.std.proofs.Common.{◌≡◌, ℕ, suc, ◌<◌, Bool, List, [], ◌∷◌, ◌++◌, length, map, Option, Some, None, inr, refl}
use Rattle.std.proofs.Common.{sym, ap, ◌∙◌, subst}
use Rattle.granit_error.specs.OptionsData.{OptionsData}
use Rattle.granit_language.specs.Before.{freshened, closed_for, run_for}
use Rattle.granit_language.specs.Reached.{ends_column_by, Reads, of_comment, of_lexeme, Reached, stops, goes_on}
use Rattle.granit_language.specs.Seen.{terminal_kind}
use Rattle.granit_language.specs.Standing.{key_start, ColonFits, Given}
use Rattle.granit_language.specs.Terminal.{TerminalKind}
use Rattle.granit_lexemes.specs.Comment.{CommentRead}
use Rattle.granit_lexemes.specs.Here.{Here, mark_of}
use Rattle.granit_lexemes.specs.Lexeme.{LexemeKind, Colon, Lexeme, Item, OfLexeme, OfComment}
use Rattle.granit_lexemes.specs.declared.layout.Bracket.{Bracket}
use Rattle.granit_lexemes.specs.declared.layout.Bracket.TheVariants.{Square, Curly}
use Rattle.granit_lexemes.specs.declared.layout.OpenBracket.{OpenBracket}
use Rattle.granit_lexemes.specs.declared.layout.PossibleKey.{PossibleKey}
use Rattle.granit_machine.specs.Laid.{Laid, is_nonempty, is_in_flow}
use Rattle.granit_machine.specs.LexemeSort.{OpenSign, CloseSign, CommaSign, DashSign, QuestionSign, ColonSign}
use Rattle.granit_machine.specs.LexemeSort.{AliasSign, AnchorSign, TagSign, BlockSign, QuoteSign, PlainSign, StrayMark}
use Rattle.granit_machine.specs.LexemeSort.{NoSign, LexemeSort, TextEnd, StartMark, EndMark, DirectiveSign, Unprintable}
use Rattle.granit_machine.specs.LexemeSort.{Placed}
use Rattle.granit_machine.specs.NodeLexemes.{note_items}
use Rattle.granit_machine.specs.PossibleKeys.{top_key}
use Rattle.granit_machine.specs.ReaderState.{ReaderState, reader_start}
use Rattle.granit_order.proofs.BracketsKept.{lexeme_moved}
use Rattle.granit_order.proofs.BracketsPassed.{SaysOf}
use Rattle.granit_order.proofs.BracketsKept.{gap_agrees, telling}
use Rattle.granit_answers.specs.FlowLimit.{brackets_behind, OpensInside, NestWithin, KeyOnLine, KeysOnLines}
use Rattle.granit_order.specs.Order.{open_behind}
use Rattle.granit_order.proofs.BracketsKept.{fresh_kinds, closed_same}
use Rattle.granit_order.proofs.BracketsPassed.{kinds_in, keyed_kinds, term_of, passed}

length_kinds : (bs : List OpenBracket) → length (kinds_in bs) ≡ length bs
length_kinds [] = refl
length_kinds (b ∷ bs) = ap suc (length_kinds bs)

-- ---- what opens stands inside fewer than the limit

module _ (o : OptionsData) (ends : Bool) (h : Here) (l : Laid) (bs : List Bracket)
    (same : kinds_in l.brackets ≡ bs) where
  abbrev Inside : Lexeme → Type 0
  Inside x = OpensInside o.flow_nesting_limit (terminal_kind x.kind x.key) bs

  other : (x : Lexeme) (kind : TerminalKind) → terminal_kind x.kind x.key ≡ kind →
      OpensInside o.flow_nesting_limit kind bs → Inside x
  other x kind e p = subst (λ kind. OpensInside o.flow_nesting_limit kind bs) (sym e) p

  opens_by : (bracket : Bracket) (items : List Item) (after : ReaderState) →
      Given o ends (Placed (OpenSign bracket)) h (run_for (Placed (OpenSign bracket)) h l) items after →
      length bs < o.flow_nesting_limit
  opens_by bracket (OfLexeme x ∷ []) after p =
      subst (λ n. n < o.flow_nesting_limit)
      (sym (length_kinds (run_for (Placed (OpenSign bracket)) h l).brackets)
      ∙ ap length (keyed_kinds _ l.brackets ∙ same)) p.0.1
  opens_by bracket items after p = absurd p

  inside : (sort : LexemeSort) (items : List Item) (after : ReaderState) (x : Lexeme) →
      Given o ends sort h (run_for sort h l) items after → SaysOf sort h (run_for sort h l) x → Inside x
  inside TextEnd items after x p s = other x _ (term_of s.0) tt
  inside StartMark items after x p s = other x _ (term_of s.0) tt
  inside EndMark items after x p s = other x _ (term_of s.0) tt
  inside DirectiveSign items after x p s = other x _ (term_of s.1) tt
  inside Unprintable items after x p s = absurd s
  inside (Placed (OpenSign bracket)) items after x p s = other x _ (term_of s) (opens_by bracket items after p)
  inside (Placed (CloseSign bracket)) items after x p s = other x _ (term_of s.0) tt
  inside (Placed CommaSign) items after x p s = other x _ (term_of s) tt
  inside (Placed DashSign) items after x p s = other x _ (term_of s.0) tt
  inside (Placed QuestionSign) items after x p s = other x _ (term_of s.0) tt
  inside (Placed ColonSign) items after x p s = other x _ (ap (λ kind. terminal_kind kind x.key) s.0) tt
  inside (Placed AliasSign) items after x p s = other x _ (term_of s.1) tt
  inside (Placed AnchorSign) items after x p s = other x _ (term_of s.1) tt
  inside (Placed TagSign) items after x p s = other x _ (term_of s.2) tt
  inside (Placed (BlockSign literal)) items after x p s = other x _ (term_of s.2) tt
  inside (Placed (QuoteSign single)) items after x p s = other x _ (term_of s.2) tt
  inside (Placed PlainSign) items after x p s = other x _ (term_of s.2) tt
  inside (Placed StrayMark) items after x p s = absurd s
  inside (Placed NoSign) items after x p s = absurd s

-- ---- a `:` of a sequence stands on the line of its key

square_of : (bs : List OpenBracket) (rest : List Bracket) → kinds_in bs ≡ Square ∷ rest →
    (b : OpenBracket) × (around : List OpenBracket) × (bs ≡ b ∷ around) × (b.bracket ≡ Square)
square_of [] rest e = absurd cc
square_of (b ∷ bs) rest e = let is : b.bracket ≡ Square = cc (e) in (b, bs, refl, is)

module _ (o : OptionsData) (ends : Bool) (h : Here) (l : Laid) (bs : List Bracket)
    (same : kinds_in l.brackets ≡ bs) where
  abbrev OnLine : Lexeme → Type 0
  OnLine x = KeyOnLine x.kind x.key x.start bs

  colon_by : (tk : Option PossibleKey) (cs : List Bracket) → kinds_in l.brackets ≡ cs →
      ColonFits o (is_in_flow l) tk h l → KeyOnLine Colon (key_start tk) (mark_of h) cs
  colon_by None cs e p = tt
  colon_by (Some k) [] e p = tt
  colon_by (Some k) (Curly ∷ cs) e p = tt
  colon_by (Some k) (Square ∷ cs) e p =
      let (b, around, is, square) = square_of l.brackets cs e in
      let fits = subst (λ v. ColonFits o v (Some k) h l) (ap (λ (bs : List OpenBracket). is_nonempty bs) is) p in
      λ less. fits ((record { bracket = b; around = around; is = is }, less), inr (b, around, is, square))

  colon_at : (items : List Item) (after : ReaderState) (x : Lexeme) (more : List Item) → items ≡ OfLexeme x ∷ more →
      Given o ends (Placed ColonSign) h l items after → OnLine x
  colon_at (OfLexeme y ∷ []) after x more e p =
      let yx : y ≡ x = cc (e) in
      subst OnLine yx
      (subst OnLine (sym p.0.is) (colon_by (top_key l) bs same p.0.fits))
  colon_at items after x more e p = absurd p

  of_kind : (x : Lexeme) (kind : LexemeKind) → x.kind ≡ kind → KeyOnLine kind x.key x.start bs → OnLine x
  of_kind x kind e p = subst (λ kind. KeyOnLine kind x.key x.start bs) (sym e) p

  on_line : (sort : LexemeSort) (items : List Item) (after : ReaderState) (x : Lexeme) (more : List Item) →
      items ≡ OfLexeme x ∷ more → Given o ends sort h (run_for sort h l) items after →
      SaysOf sort h (run_for sort h l) x → OnLine x
  on_line TextEnd items after x more e p s = of_kind x _ s.0.is tt
  on_line StartMark items after x more e p s = of_kind x _ s.0.is tt
  on_line EndMark items after x more e p s = of_kind x _ s.0.is tt
  on_line DirectiveSign items after x more e p s = of_kind x _ s.1.is tt
  on_line Unprintable items after x more e p s = absurd s
  on_line (Placed (OpenSign bracket)) items after x more e p s = of_kind x _ s.is tt
  on_line (Placed (CloseSign bracket)) items after x more e p s = of_kind x _ s.0.is tt
  on_line (Placed CommaSign) items after x more e p s = of_kind x _ s.is tt
  on_line (Placed DashSign) items after x more e p s = of_kind x _ s.0.is tt
  on_line (Placed QuestionSign) items after x more e p s = of_kind x _ s.0.is tt
  on_line (Placed ColonSign) items after x more e p s = colon_at items after x more e p
  on_line (Placed AliasSign) items after x more e p s = of_kind x _ s.1.is tt
  on_line (Placed AnchorSign) items after x more e p s = of_kind x _ s.1.is tt
  on_line (Placed TagSign) items after x more e p s = of_kind x _ s.2.is tt
  on_line (Placed (BlockSign literal)) items after x more e p s = of_kind x _ s.2.is tt
  on_line (Placed (QuoteSign single)) items after x more e p s = of_kind x _ s.2.is tt
  on_line (Placed PlainSign) items after x more e p s = of_kind x _ s.2.is tt
  on_line (Placed StrayMark) items after x more e p s = absurd s
  on_line (Placed NoSign) items after x more e p s = absurd s

-- ---- one read

record Nests (o : OptionsData) (bs : List Bracket) (items : List Item) (after : Laid) : Type 0 where
  within : NestWithin o.flow_nesting_limit items bs
  lines : KeysOnLines items bs
  kinds : kinds_in after.brackets ≡ brackets_behind items bs

noted_nests : (o : OptionsData) (bs : List Bracket) (x : Lexeme) (note : Option CommentRead) (after : Laid) →
    OpensInside o.flow_nesting_limit (terminal_kind x.kind x.key) bs → KeyOnLine x.kind x.key x.start bs →
    kinds_in after.brackets ≡ open_behind (terminal_kind x.kind x.key) bs →
    Nests o bs (OfLexeme x ∷ note_items note) after
noted_nests o bs x None after p n e = record { within = (p, tt); lines = (n, tt); kinds = e }
noted_nests o bs x (Some c) after p n e = record { within = (p, tt); lines = (n, tt); kinds = e }

read_nests : (o : OptionsData) (s : ReaderState) {items : List Item} {after : ReaderState} → Reads o s items after →
    Nests o (kinds_in s.laid.brackets) items after.laid
read_nests o s (of_comment at g k) =
    record {
      within = tt;
      lines = tt;
      kinds = fresh_kinds o (mark_of at.here) at.laid.brackets
          ∙ ap kinds_in (gap_agrees g).brackets;
    }
read_nests o s (of_lexeme {items = items} at behind sort comes given keys) =
    let h = at.here in
    let f = (freshened o at).laid in
    let c = closed_for sort h f in
    let same : kinds_in c.brackets ≡ kinds_in s.laid.brackets =
    (closed_same sort h f).0
    ∙ (fresh_kinds o (mark_of h) at.laid.brackets ∙ ap kinds_in (gap_agrees comes.gap).brackets) in
    let t = telling o (ends_column_by sort (freshened o at)) h _ sort items behind given.1 in
    let m = lexeme_moved o sort h c t.lexeme t.cut t.reached behind.laid t.told t.says t.leaves in
    let g = passed o h c t.lexeme t.cut t.reached behind.laid m sort t.says t.leaves in
    subst (λ (is : List Item). Nests o (kinds_in s.laid.brackets) is (freshened o behind).laid) (sym t.are)
    (noted_nests o (kinds_in s.laid.brackets) t.lexeme t.note (freshened o behind).laid
    (inside o _ h c (kinds_in s.laid.brackets) same sort items behind t.lexeme given.1 t.says)
    (on_line o _ h c (kinds_in s.laid.brackets) same sort items behind t.lexeme
    (note_items t.note) t.are given.1 t.says)
    (fresh_kinds o (mark_of behind.here) behind.laid.brackets
    ∙ g.kinds
    ∙ ap (λ kind. open_behind kind (kinds_in c.brackets)) (sym g.term_is)
    ∙ ap (open_behind (terminal_kind t.lexeme.kind t.lexeme.key)) same))

-- ---- all that was read

behind_joined : (items more : List Item) (bs : List Bracket) →
    brackets_behind (items ++ more) bs ≡ brackets_behind more (brackets_behind items bs)
behind_joined [] more bs = refl
behind_joined (OfLexeme x ∷ is) more bs = behind_joined is more (open_behind (terminal_kind x.kind x.key) bs)
behind_joined (OfComment c ∷ is) more bs = behind_joined is more bs

within_joined : (n : ℕ) (items more : List Item) (bs : List Bracket) → NestWithin n items bs →
    NestWithin n more (brackets_behind items bs) → NestWithin n (items ++ more) bs
within_joined n [] more bs p q = q
within_joined n (OfLexeme x ∷ is) more bs p q =
    (p.0, within_joined n is more (open_behind (terminal_kind x.kind x.key) bs) p.1 q)
within_joined n (OfComment c ∷ is) more bs p q = within_joined n is more bs p q

lines_joined : (items more : List Item) (bs : List Bracket) → KeysOnLines items bs →
    KeysOnLines more (brackets_behind items bs) → KeysOnLines (items ++ more) bs
lines_joined [] more bs p q = q
lines_joined (OfLexeme x ∷ is) more bs p q =
    (p.0, lines_joined is more (open_behind (terminal_kind x.kind x.key) bs) p.1 q)
lines_joined (OfComment c ∷ is) more bs p q = lines_joined is more bs p q

all_nest : (o : OptionsData) {s t : ReaderState} {items : List Item} → Reached o s items t →
    Nests o (kinds_in s.laid.brackets) items t.laid
all_nest o stops = record { within = tt; lines = tt; kinds = refl }
all_nest o {s = s} {t = t} (goes_on next items more r last rest e) =
    let bs = kinds_in s.laid.brackets in
    let p = read_nests o s r in
    let q = all_nest o rest in
    subst (λ (is : List Item). Nests o bs is t.laid) (sym e)
    (record {
      within =
          within_joined o.flow_nesting_limit items more bs p.within
          (subst (NestWithin o.flow_nesting_limit more) p.kinds q.within);
      lines = lines_joined items more bs p.lines (subst (KeysOnLines more) p.kinds q.lines);
      kinds = q.kinds ∙ ap (brackets_behind more) p.kinds ∙ sym (behind_joined items more bs);
    })

pub nested_within : (o : OptionsData) (h : Here) (items : List Item) (t : ReaderState) →
    Reached o (reader_start h) items t →
    NestWithin o.flow_nesting_limit items []
nested_within o h items t r = (all_nest o r).within

pub held_brackets : (o : OptionsData) (h : Here) (items : List Item) (t : ReaderState) →
    Reached o (reader_start h) items t →
    map (λ (b : OpenBracket). b.bracket) t.laid.brackets ≡ brackets_behind items []
held_brackets o h items t r = (all_nest o r).kinds

pub keys_on_lines : (o : OptionsData) (h : Here) (items : List Item) (t : ReaderState) →
    Reached o (reader_start h) items t →
    KeysOnLines items []
keys_on_lines o h items t r = (all_nest o r).lines

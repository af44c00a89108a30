-- What stands between lexemes and behind them is what the reader skips.
use Rattle.std.proofs.Common.{◌≡◌, ℕ, suc, ◌≤◌, ◌==◌, ◌&&◌, ◌||◌, not, Bool, true, false, List, [], ◌∷◌, ◌++◌, length}
use Rattle.std.proofs.Common.{drop, Option, Some, None, Result, Ok, Err, refl, sym, ap, ◌∙◌, subst, arith}
use Rattle.std.specs.Bool.{Decides}
use Rattle.std.proofs.lemmas.Bool.{and_parts, or_parts, or_left, or_right}
use Rattle.std.specs.Prelude.{if◌then◌else◌, nat_lt}
use Rattle.std.proofs.lemmas.Bool.Decides.{nat_tests, Decides-and}
use Rattle.granit_base.specs.Classes.{is_gap, is_blank, is_break, is_bom}
use Rattle.granit_base.specs.Place.{Mark, first, ends_line}
use Rattle.granit_error.specs.FaultKind.{FaultKind, TabNotAllowed, TabInBlockIndentation, CommentInterceptedScalar}
use Rattle.granit_error.specs.OptionsData.{OptionsData}
use Rattle.granit_lexemes.specs.Basics.{fails_at}
use Rattle.granit_lexemes.specs.Comment.{CommentRead, comment, StandsComment, Spoils, ReadsComment}
use Rattle.granit_lexemes.specs.HeaderExtent.{LexemeTail}
use Rattle.granit_lexemes.specs.Here.{Here, text_len, next_char, is_quiet, mark_of, step, chosen, past}
use Rattle.granit_lexemes.specs.LayoutData.{is_left}
use Rattle.granit_lexemes.specs.Moves.{past_prefix_mark}
use Rattle.granit_lexemes.specs.Outcome.{Fault, ◌>>=◌}
use Rattle.granit_lexemes.specs.PlainExtent.{over}
use Rattle.granit_lexemes.specs.Tail.{tail_at}
use Rattle.granit_lexemes.proofs.HereLemmas.{stepped_text}
use Rattle.granit_lexemes.specs.Gap.{Each}
use Rattle.granit_blocks.proofs.BlockHeads.{comment_reads}
use Rattle.granit_blocks.proofs.BlockHeads.{TailWrong, touches, spoils}
pub use Rattle.granit_blocks.proofs.BlockHeads.{TailReads, tail_reads}
use Rattle.granit_blocks.proofs.Moving.{past_reads}
use Rattle.granit_termination.proofs.LengthLemmas.{step-less}
use Rattle.granit_termination.proofs.ReadLengths.{past_prefix_mark-less}
use Rattle.granit_machine.specs.Gaps.{leading_tab, refuse_tab_at, refuse_tab, at_prefix_mark, begins_gap, skip_gap}
use Rattle.granit_machine.specs.Gaps.{past_gap, goes_on_behind, refuse_cut_by, noted_gap, ready_gap, gap_ends}
use Rattle.granit_machine.specs.Gaps.{takes_prefix, gap}
use Rattle.granit_machine.specs.Laid.{Laid, is_nonempty, is_question, block_column}
use Rattle.granit_machine.specs.ReaderState.{ReaderState}
use Rattle.granit_language.specs.Allowed.{GoesOnBehind, LeftOfKey, InBlock, TabsFit, CutFits, MayPrefix}
use Rattle.granit_language.specs.Refusing.{WrongTab, left_of_key, in_indentation, spoiled as gap_spoiled, tab, cut}
use Rattle.granit_language.specs.Refusing.{GapRefused}
use Rattle.granit_language.specs.Standing.{GapStands, in_front_of_comment, in_front_of_lexeme}
use Rattle.granit_language.specs.Stretch.{GapTo, ends, white, prefix_mark, NoGap, GapHere, WrongTail, touching, spoiled}
use Rattle.granit_reading.proofs.Answering.{Answers, answers_then, answers_if}
use Rattle.granit_reading.proofs.Deciding.{tells, denies, rejects, is_decided, goes_decided, tab_told, tab_leads}
use Rattle.granit_reading.proofs.Deciding.{key_tab_decided, tab_limit, block_tab_decided, prefix_decided}

-- ---- comments

hash_there : (h : Here) → (next_char h == 0x23) ≡ true → next_char h ≡ 0x23
hash_there h e = grind (arith, nat_tests)

abbrev pub NotedAt : Here → CommentRead × Here → Type 0
NotedAt h x = StandsComment h x.0 x.1

pub comment_at_is : (h : Here) → (next_char h == 0x23) ≡ true → Answers (NotedAt h) (Spoils h) (comment h)
comment_at_is h is = on (comment h) (comment_reads h (hash_there h is))
  where
    on : (r : Result (CommentRead × Here) Fault) → ReadsComment h r → Answers (NotedAt h) (Spoils h) r
    on (Ok x) p = p
    on (Err f) p = p

-- ---- tails

abbrev pub TailAt : Here → Option CommentRead × Here → Type 0
TailAt end x = LexemeTail end x.0 x.1

tail_wrong : {end : Here} {kind : FaultKind} {m : Mark} → TailWrong end kind m → WrongTail end kind m
tail_wrong (touches e) = touching (ap (λ n. n == 0x23) e)
tail_wrong (spoils b blanks rest p s) = spoiled b blanks rest p s

pub tail_is : (end : Here) → Answers (TailAt end) (WrongTail end) (tail_at end)
tail_is end = on (tail_at end) (tail_reads end)
  where
    on : (r : Result (Option CommentRead × Here) Fault) → TailReads end r → Answers (TailAt end) (WrongTail end) r
    on (Ok x) p = p
    on (Err f) p = tail_wrong p.0

-- ---- gaps

-- a gap as far as it goes, where marks may stand in it by a test
record Skips (May : Type 0) (may : Bool) (h at : Here) : Type 0 where
  here : GapHere May h at
  moved : begins_gap may h ≡ is_nonempty here.gap

pub is_gap_nul : is_gap 0 ≡ false
unfolding is_gap is_blank is_break
is_gap_nul = refl

is_bom_nul : is_bom 0 ≡ false
unfolding is_bom
is_bom_nul = refl

text_as : (test : ℕ → Bool) (text : List ℕ) → test 0 ≡ false → test (first text) ≡ true
    → text ≡ first text ∷ drop 1 text
text_as test [] nul held = absurd cc
text_as test (c ∷ cs) nul held = refl

bom_there : is_bom 0xFEFF ≡ true
unfolding is_bom
bom_there = refl

pub mark_decided : {May : Type 0} (may : Bool) (h : Here) → Decides may May
    → Decides (at_prefix_mark may h) ((May × (next_char h ≡ 0xFEFF)) × (h.place.column ≡ 0))
unfolding is_bom
mark_decided may h d = Decides-and (may && is_bom (next_char h)) (h.place.column == 0)
    (Decides-and may (is_bom (next_char h)) d (is_decided (next_char h) 0xFEFF)) (is_decided h.place.column 0)

pub stops_told : {May : Type 0} (may : Bool) (h : Here) → Decides may May → begins_gap may h ≡ false → NoGap May h
stops_told may h d e = let p = or_parts (is_gap (next_char h)) (at_prefix_mark may h)
    e in (p.0, λ m z b. denies (mark_decided may h d) p.1 ((m, b), z))

pub stops_tells : {May : Type 0} (may : Bool) (h : Here) → Decides may May → NoGap May h → begins_gap may h ≡ false
stops_tells may h d n = neither (is_gap (next_char h)) (at_prefix_mark may h) n.0
    (rejects (mark_decided may h d) (λ p. n.1 p.0.0 p.1 p.0.1))
  where
    neither : (a b : Bool) → a ≡ false → b ≡ false → (a || b) ≡ false
    neither true b e f = absurd cc
    neither false b e f = f

pub gap_decided : (h : Here) (l : Laid) → Decides (not (begins_gap (takes_prefix l) h)) (NoGap (MayPrefix l) h)
gap_decided h l = (
  λ e. stops_told (takes_prefix l) h (prefix_decided l) (not_set (begins_gap (takes_prefix l) h) e),
  λ n. ap not (stops_tells (takes_prefix l) h (prefix_decided l) n),
)
  where
    not_set : (v : Bool) → not v ≡ true → v ≡ false
    not_set true e = absurd cc
    not_set false e = refl

module _ {May : Type 0} (may : Bool) (d : Decides may May) where
  marked : (xs : List ℕ) (h : Here) → ((g : Here) → text_len g ≤ length xs → Skips May may g (skip_gap may xs g))
      → text_len h ≤ suc (length xs) → at_prefix_mark may h ≡ true
      → Skips May may h (skip_gap may xs (past_prefix_mark h))
  marked xs h more less f =
      let p = (mark_decided may h d).0 f in
      let t : h.unread.text ≡ 0xFEFF ∷ drop 1 h.unread.text = text_as is_bom h.unread.text is_bom_nul
      (ap is_bom p.0.1 ∙ bom_there) ∙ ap (λ (n : ℕ). n ∷ drop 1 h.unread.text) p.0.1 in
      let r = (more (past_prefix_mark h) (past_prefix_mark-less (length xs) h less)).here in
      record {
        here = record { gap = 0xFEFF ∷ r.gap; over = prefix_mark p.0.0 p.1 t r.over; stops = r.stops };
        moved =
            or_right (is_gap (next_char h)) (at_prefix_mark may h) f;
      }

  skip_on : (xs : List ℕ) (h : Here) → ((g : Here) → text_len g ≤ length xs → Skips May may g (skip_gap may xs g))
      → text_len h ≤ suc (length xs) → (g p : Bool) → is_gap (next_char h) ≡ g → at_prefix_mark may h ≡ p
      → Skips May may h (chosen (g || p) (skip_gap may xs (if p then past_prefix_mark h else step h)) h)
  skip_on xs h more less true true e f = marked xs h more less f
  skip_on xs h more less false true e f = marked xs h more less f
  skip_on xs h more less true false e f =
      let r = (more (step h) (step-less (length xs) h less)).here in
      record {
        here = record {
          gap = next_char h
              ∷ r.gap;
          over = white (text_as is_gap h.unread.text is_gap_nul e) e r.over;
          stops = r.stops;
        };
        moved = or_left
            (is_gap (next_char h)) (at_prefix_mark may h) e;
      }
  skip_on xs h more less false false e f = let n : begins_gap may h
      ≡ false = rw (e, f) refl in record {
        here = record { gap = []; over = ends; stops = stops_told may h d n };
        moved = n;
      }

  at_nothing : (h : Here) (text : List ℕ) → text ≡ h.unread.text → length text ≤ 0 → begins_gap may h ≡ false
  at_nothing h [] e p = ap (λ (t : List ℕ). is_gap (first t) || ((may && is_bom (first t)) && h.place.column == 0))
      (sym e) ∙ rw (is_gap_nul, is_bom_nul) (no_more may (h.place.column == 0))
    where
      no_more : (a b : Bool) → ((a && false) && b) ≡ false
      no_more true b = refl
      no_more false b = refl
  at_nothing h (x ∷ xs) e p = absurd (omega arith)

  skip_is : (xs : List ℕ) (h : Here) → text_len h ≤ length xs → Skips May may h (skip_gap may xs h)
  skip_is [] h p = let n = at_nothing h h.unread.text refl
      p in record { here = record { gap = []; over = ends; stops = stops_told may h d n }; moved = n }
  skip_is (x ∷ xs) h p = skip_on xs h (skip_is xs) (omega (arith, p)) (is_gap (next_char h)) (at_prefix_mark may h) refl
      refl

  past_gap_is : (h : Here) → Skips May may h (past_gap may h)
  unfolding past_gap
  past_gap_is h = skip_is h.unread.text h (omega arith)

pub never_decided : Decides false ⊥
never_decided = (λ e. absurd cc, λ p. absurd p)

-- blanks and breaks alone
pub past_white : (h : Here) → GapHere ⊥ h (past is_gap h)
past_white h = let p = past_reads is_gap is_gap_nul
    h in record {
      gap = p.characters;
      over = on p.characters h (past is_gap h) (past is_gap h).unread.text p.spans.text
          p.spans.lands p.each;
      stops = (p.stops, λ m. absurd m);
    }
  where
    on : (cs : List ℕ) (g at : Here) (rest : List ℕ) → g.unread.text ≡ cs ++ rest → at ≡ over cs g → Each is_gap cs
        → GapTo ⊥ g cs at
    on [] g at rest t l e = subst (GapTo ⊥ g []) (sym l) ends
    on (c ∷ cs) g at rest t l e = white t e.0 (on cs (step g) at rest (stepped_text g c (cs ++ rest) t) l e.1)

pub gap_break : (c : ℕ) → is_gap c ≡ true → is_quiet c ≡ false → is_break c ≡ true
unfolding is_gap is_blank is_break
gap_break c g q = grind (arith, nat_tests, g, q)

pub line_feed : (c d : ℕ) → (c == 0x0D && d == 0x0A) ≡ true → is_break d ≡ true
unfolding is_break
line_feed c d e = ap (λ v. v || d == 0x0D) (and_parts (c == 0x0D) (d == 0x0A) e).1

pub no_break_bom : is_break 0xFEFF ≡ false
unfolding is_break
no_break_bom = refl

-- a break that ends no line is the CR of a CR LF
pub carriage : (h : Here) (c : ℕ) (t : List ℕ) → h.unread.text ≡ c ∷ t → ends_line h.unread.text ≡ false
    → is_break (next_char h) ≡ true → is_break (next_char (step h)) ≡ true
unfolding is_break
carriage h c t e f b =
    let n : (c == 0x0A || c == 0x0D) ≡ true = ap (λ (l : List ℕ). first l == 0x0A || first l == 0x0D) (sym e) ∙ b in
    let m : (c == 0x0A || (c == 0x0D && not (first t == 0x0A))) ≡ false = ap (λ (l : List ℕ). ends_line l) (sym e)
    ∙ f in
    ap (λ (l : List ℕ). first l == 0x0A || first l == 0x0D) (stepped_text h c t e)
    ∙ on (c == 0x0A) (c == 0x0D) (first t == 0x0A) (first t == 0x0D) n m
  where
    on : (a b d f : Bool) → (a || b) ≡ true → (a || (b && not d)) ≡ false → (d || f) ≡ true
    on true b d f n m = absurd cc
    on false false d f n m = absurd cc
    on false true true f n m = refl
    on false true false f n m = absurd cc

-- ---- what the gap in front of a place gives

pub refuse_tab_is : {B : Type 0} (R : B → Type 0) (W : FaultKind → Mark → Type 0) (o : OptionsData) (l : Laid)
    (h : Here) (f : Unit {0} → Result B Fault)
    → ((kind : FaultKind) (m : Mark) → WrongTab o l h kind m → W kind m) → (TabsFit o l h → Answers R W (f tt))
    → Answers R W (refuse_tab o l (mark_of h) (leading_tab h) >>= f)
unfolding refuse_tab_at
refuse_tab_is {B = B} R W o l h f w p = on (leading_tab h) refl
  where
    at_tab : (t : Mark) → leading_tab h ≡ Some t → (a b : Bool)
        → (is_question l.last && is_left (block_column l) t.place.column) ≡ a
        → nat_lt t.place.column (tab_limit o l) ≡ b
        → Answers R W ((if a then fails_at TabNotAllowed t else if b then fails_at TabInBlockIndentation (mark_of h)
        else Ok tt) >>= f)
    at_tab t e true b y z = w _ _ (left_of_key (tab_told h t e) (tells (key_tab_decided l t) y))
    at_tab t e false true y z = w _ _ (in_indentation (tab_told h t e) (denies (key_tab_decided l t) y)
        (tells (block_tab_decided o l t) z))
    at_tab t e false false y z = p (λ tab begins. let same : t
        ≡ tab = (let q = sym e ∙ tab_leads h tab begins in cc) in subst (λ (tab : Mark). (LeftOfKey l tab → ⊥)
        × (InBlock o l tab → ⊥)) same (denies (key_tab_decided l t) y, denies (block_tab_decided o l t) z))

    on : (t : Option Mark) → leading_tab h ≡ t → Answers R W (refuse_tab o l (mark_of h) t >>= f)
    on None e = p (λ tab begins. absurd (let q = sym e ∙ tab_leads h tab begins in cc))
    on (Some t) e = at_tab t e (is_question l.last && is_left (block_column l) t.place.column)
        (nat_lt t.place.column (tab_limit o l)) refl refl

refuse_cut_is : {B : Type 0} (R : B → Type 0) (W : FaultKind → Mark → Type 0) (l : Laid) (h : Here)
    (f : Unit {0} → Result B Fault)
    → ((m : Mark) → l.cut ≡ Some m → GoesOnBehind l h m → W CommentInterceptedScalar m) → (t : Option Mark) → l.cut ≡ t
    → (CutFits l h → Answers R W (f tt)) → Answers R W (refuse_cut_by l h t >>= f)
refuse_cut_is R W l h f w None e p = p (λ cut is. absurd (let q = sym e ∙ is in cc))
refuse_cut_is R W l h f w (Some t) e p = on (goes_on_behind l h t) refl
  where
    on : (v : Bool) → goes_on_behind l h t ≡ v
        → Answers R W ((if v then fails_at CommentInterceptedScalar t else Ok tt) >>= f)
    on true y = w t e (tells (goes_decided l h t) y)
    on false y = p (λ cut is. let same : t ≡ cut =
        (let q = sym e ∙ is in cc) in subst (λ (cut : Mark). GoesOnBehind l h cut → ⊥) same
        (denies (goes_decided l h t) y))

abbrev pub GapAt : OptionsData → Here → Laid → Option CommentRead × ReaderState → Type 0
GapAt o h l x = GapStands o h l x.0 x.1

abbrev GapWrong : OptionsData → Here → Laid → FaultKind → Mark → Type 0
GapWrong o h l kind m = GapRefused o h l kind m

gap_ends_is : (o : OptionsData) (h : Here) (l : Laid) (at : Here) (g : GapHere (MayPrefix l) h at)
    → Answers (GapAt o h l) (GapWrong o h l) (gap_ends o (is_nonempty g.gap) at l)
unfolding gap_ends noted_gap ready_gap
gap_ends_is o h l at g =
    answers_if (GapAt o h l) (GapWrong o h l) (next_char at == 0x23) _ _
    (λ y. answers_then (NotedAt at) (Spoils at) (GapAt o h l) (GapWrong o h l) (comment at) _ (comment_at_is at y)
    (λ x p. in_front_of_comment at x.1 g p) (λ kind m p. record { at = at; gap = g; wrong = gap_spoiled p }))
    (λ n. refuse_tab_is (GapAt o h l) (GapWrong o h l) o l at _
    (λ kind m p. record { at = at; gap = g; wrong = tab n p })
    (λ t. refuse_cut_is (GapAt o h l) (GapWrong o h l) l at _
    (λ m e p. record { at = at; gap = g; wrong = cut n t e p }) l.cut refl (λ k. in_front_of_lexeme at g n t k)))

pub gap_is : (o : OptionsData) (h : Here) (l : Laid) → Answers (GapAt o h l) (GapRefused o h l) (gap o h l)
gap_is o h l =
    let s = past_gap_is (takes_prefix l) (prefix_decided l) h in
    subst (λ moved. Answers (GapAt o h l) (GapWrong o h l) (gap_ends o moved (past_gap (takes_prefix l) h) l))
    (sym s.moved) (gap_ends_is o h l (past_gap (takes_prefix l) h) s.here)

-- Over a quoted scalar of one line.
use Rattle.std.proofs.Common.{◌≡◌, ℕ, ◌+◌, ◌-◌, ◌<◌, ◌≤◌, Bool, true, false, List, ◌∷◌, ◌++◌, length, drop, Option}
use Rattle.std.proofs.Common.{Some, None, is_some, IfSome, refl, sym, ap, ◌∙◌, subst, arith}
use Rattle.std.specs.Borrow.{Bor}
use Rattle.std.specs.Str.{chars}
use Rattle.std.proofs.lemmas.Bool.{and_parts}
use Rattle.std.proofs.Math.Seq.{drop-append_seam}
use Rattle.granit_base.specs.Place.{Unread, ends_line, first}
use Rattle.granit_input.specs.Origin.{Origin, Agrees, Goes}
use Rattle.granit_runs.specs.Cuts.{PartOf}
use Rattle.granit_runs.specs.Quotes.{IsQuoted, QuotedAt, quote_of}
use Rattle.granit_runs.specs.Runs.{run_length, is_quoted_word}
use Rattle.granit_runs.specs.Unread.{past_count}
use Rattle.granit_input.proofs.QuoteTakes.{lent_inside}
use Rattle.granit_input.proofs.UnreadLemmas.{past_twice}
use Rattle.granit_lexemes.specs.Here.{Here, is_quiet, step}
use Rattle.granit_lexemes.specs.Moves.{steps}
use Rattle.granit_lexemes.specs.QuotedScalar.{quote_char}
use Rattle.granit_lexemes.proofs.HereLemmas.{step_text}
use Rattle.granit_scalars.proofs.Comments.{steps_text}
use Rattle.granit_cursor.specs.QuotedReads.{LendsQuoted}
use Rattle.granit_cursor.proofs.MoveLemmas.{Along, Spot, StandsAt, along_stands, moved, run_along, step_along}
use Rattle.granit_cursor.proofs.MoveLemmas.{step_shows, steps_twice}
use Rattle.granit_cursor.proofs.SourceLemmas.{spelled_on}
use Rattle.granit_cursor.proofs.WordLemmas.{joined_line, quoted_joins}

pub same_quote : (single : Bool) → quote_of single ≡ quote_char single
same_quote true = refl
same_quote false = refl

quote_shows : (single : Bool) (text : List ℕ) → first text ≡ quote_of single
    → (ends_line text ≡ false) × (is_quiet (first text) ≡ false)
quote_shows true text is = rw is (refl, refl)
quote_shows false text is = rw is (refl, refl)

along_on : (m n : ℕ) (a b c : Here) → Along m a b → Along n b c → Along (m + n) a c
along_on m n a b c front more =
    let i : a.place.index + m + n ≡ a.place.index + (m + n) = omega arith in
    let k : a.place.column + m + n ≡ a.place.column + (m + n) = omega arith in
    record {
      unread = more.unread ∙ ap (past_count n) front.unread ∙ past_twice m n a.unread;
      place = more.place ∙ ap (moved n) front.place ∙ rw (i, k) refl;
    }

-- the quotes, and what stands between them
pub quoted_steps : (n : ℕ) (h : Here) → steps (n + 2) h ≡ step (steps n (step h))
unfolding steps
quoted_steps n h =
    let all : 1 + n + 1 ≡ n + 2 = omega arith in
    ap (λ (m : ℕ). steps m h) (sym all) ∙ sym (steps_twice (1 + n) 1 h) ∙ ap step (sym (steps_twice 1 n h))

-- behind the opening quote, and before the closing one
pub behind_opening : (single in_flow : Bool) (h : Here) (inside : List ℕ)
    (q : IsQuoted single in_flow h.unread.text inside) → (step h).unread.text ≡ inside ++ quote_of single ∷ q.behind
behind_opening single in_flow h inside q = step_text h ∙ ap (drop 1) q.is

pub before_closing : (single in_flow : Bool) (h : Here) (inside : List ℕ)
    (q : IsQuoted single in_flow h.unread.text inside)
    → (steps (length inside) (step h)).unread.text ≡ quote_of single ∷ q.behind
before_closing single in_flow h inside q = steps_text (length inside) (step h)
    ∙ ap (drop (length inside)) (behind_opening single in_flow h inside q)
    ∙ drop-append_seam inside (quote_of single ∷ q.behind)

pub words_fit : (single in_flow : Bool) (h : Here) (inside : List ℕ) → IsQuoted single in_flow h.unread.text inside
    → length inside ≤ run_length (is_quoted_word single) (step h).unread.text
words_fit single in_flow h inside q = rw (step_text h) q.words

-- so many characters of one line are behind, and the last of them shows
pub record OverQuoted (n : ℕ) (h : Here) : Type 0 where
  pub along : Along (n + 2) h (steps (n + 2) h)
  pub begins_line : (steps (n + 2) h).begins_line ≡ false
  pub tab : (steps (n + 2) h).tab ≡ None

pub over_quoted : (single in_flow : Bool) (h : Here) (inside : List ℕ) → IsQuoted single in_flow h.unread.text inside
    → OverQuoted (length inside) h
over_quoted single in_flow h inside q =
    let n = length inside in
    let there = steps n (step h) in
    let closing = before_closing single in_flow h inside q in
    let opens = quote_shows single h.unread.text (ap first q.is) in
    let closes = quote_shows single there.unread.text (ap first closing) in
    let some : 0 < length h.unread.text = omega (arith, ap length q.is) in
    let more : 0 < length there.unread.text = omega (arith, ap length closing) in
    let line = joined_line (is_quoted_word single) (quoted_joins single) in
    let words = run_along (is_quoted_word single) n (step h) line (words_fit single in_flow h inside q) in
    let first = along_on 1 n h (step h) there (step_along h some opens.0) words in
    let all = along_on (1 + n) 1 h there (step there) first (step_along there more closes.0) in
    let shows = step_shows there more closes.0 closes.1 in
    let far : 1 + n + 1 ≡ n + 2 = omega arith in
    let is = quoted_steps n h in
    record {
      along = subst (Along (n + 2) h) (sym is) (subst (λ (m : ℕ). Along m h (step there)) far all);
      begins_line = ap (λ (x : Here). x.begins_line) is ∙ shows.0;
      tab = ap (λ (x : Here). x.tab) is ∙ shows.1;
    }

-- ---- where a cursor stands behind it

pub count_is : (start end n : ℕ) → end ≡ start + n → end - start + 2 ≡ n + 2
count_is start end n is = omega (arith, is)

pub lands_quoted :
    {I : Type 0} (unread : I → Unread → Type 0) (old new : Spot I) (h : Here) (single in_flow : Bool) (inside : List ℕ)
    (count : ℕ) → count ≡ length inside + 2 → IsQuoted single in_flow h.unread.text inside → StandsAt unread old h
    → unread new.input (past_count (length inside + 2) h.unread) → new.place ≡ moved count old.place
    → new.begins_line ≡ false → new.tab ≡ None → StandsAt unread new (steps (length inside + 2) h)
lands_quoted unread old new h single in_flow inside count is q k known place begins tab =
    let o = over_quoted single in_flow h inside q in
    let a = along_stands unread (is_quoted_word single) (length inside + 2) old new h o.along k known
    (place ∙ ap (λ (n : ℕ). moved n old.place) is) in
    (a.0, a.1, o.begins_line ∙ sym begins, o.tab ∙ sym tab)

-- ---- what is lent of it

lends_by : (single in_flow : Bool) (h : Here) (inside : List ℕ) (answer : Option (Bor (List ℕ))) (Lands : Here → Type 0)
    → is_some answer ≡ true → IfSome answer (λ part. chars part.now ≡ inside)
    → IsQuoted single in_flow h.unread.text inside → h.unread.lends ≡ true → Lands (steps (length inside + 2) h)
    → LendsQuoted single in_flow h answer Lands
lends_by single in_flow h inside None Lands some is q lends there = absurd cc
lends_by single in_flow h inside (Some part) Lands some is q lends there = (
  subst (IsQuoted single in_flow h.unread.text) (sym is) q,
  lends,
  subst (λ (t : List ℕ). Lands (steps (length t + 2) h)) (sym is) there,
)

-- what stands between quotes, and the offsets between which it does
pub record QuotedPart : Type 0 where
  pub single : Bool
  pub inside : List ℕ
  pub start : ℕ
  pub end : ℕ

pub lends_quoted : (p : QuotedPart) (in_flow : Bool) (h : Here) (old now : Origin) (left : ℕ)
    (answer : Option (Bor (List ℕ))) (Lands : Here → Type 0) → Goes old now → Agrees left old h.unread
    → QuotedAt p.single in_flow h.unread p.inside p.start p.end → PartOf now.lent p.start p.end answer
    → Lands (steps (length p.inside + 2) h) → LendsQuoted p.single in_flow h answer Lands
lends_quoted p in_flow h old now left answer Lands goes agrees q part there =
    let on = spelled_on old now left h.unread goes agrees q.lends in
    let both = and_parts now.tells_offset (is_some now.lent) on.1 in
    let lent = lent_inside now.lent p.single in_flow h.unread p.inside p.start p.end answer on.0 both.1
    (agrees.offset ∙ sym goes.tells_offset ∙ both.0) q part in
    lends_by p.single in_flow h p.inside answer Lands lent.0 lent.1 q.quoted q.lends there

-- Where a block scalar stands, characters of the text stand from its indicator up to its end.
pub use Rattle.granit_quoted_laws.proofs.QuotedLaw.{is_answered, is_refused, is_standing}
use Rattle.std.proofs.Common.{◌≡◌, ℕ, ◌==◌, Bool, true, false, List, [], ◌∷◌, ◌++◌, length, Option, refl, sym, ap, ◌∙◌}
use Rattle.std.proofs.Common.{subst, append_assoc}
use Rattle.granit_base.specs.Place.{Mark}
use Rattle.granit_lexemes.proofs.HereLemmas.{stays_at_end}
use Rattle.granit_lexemes.specs.Comment.{CommentRead, StandsComment}
use Rattle.granit_lexemes.specs.Here.{Here, mid_line, step}
use Rattle.granit_lexemes.specs.Moves.{steps}
use Rattle.granit_lexemes.specs.PlainExtent.{over}
use Rattle.granit_quoted_laws.proofs.QuotedOnce.{over_text}
use Rattle.granit_quoted_laws.proofs.QuotedOnce.{over-append}
use Rattle.granit_lexemes.specs.BlockHeader.{Chomping, BlockHeader}
use Rattle.granit_lexemes.specs.BlockScalar.{BlockRead, BlockGiven}
use Rattle.granit_lexemes.specs.BlockExtent.{BlockFront, BlockBody, without_content, with_content, AnswersBlock}
use Rattle.granit_lexemes.specs.BlockMoves.{Crosses, Covers, Breaks, Spaces, at_column, no_space_left, space_left}
use Rattle.granit_lexemes.specs.HeaderExtent.{Indicator, takes_sign, takes_digit, takes_none, HeaderStands, LexemeTail}
use Rattle.granit_lexemes.specs.HeaderExtent.{commented, uncommented, LineEnds, line_broken, line_unbroken}
use Rattle.granit_lexemes.specs.LinesExtent.{Empties, no_empty_line, empty_line, BlockLine, BehindLine, by_break}
use Rattle.granit_lexemes.specs.LinesExtent.{by_end, ContentLines, no_line, more_lines}

-- some characters stand between two places
abbrev pub Reaches : (h after : Here) → Type 0
Reaches h after = (source : List ℕ) × Covers h source after

stays : (h : Here) → Reaches h h
stays h = ([], record { text = refl; lands = refl })

-- what is known of the line changes neither what is left behind it nor its place
same_if : (h : Here) (b : Bool) → (length h.unread.text == 0) ≡ b → mid_line (step (mid_line h)) ≡ mid_line (step h)
unfolding step
same_if h true e = rw e refl
same_if h false e = rw e refl

same_step : (h : Here) → mid_line (step (mid_line h)) ≡ mid_line (step h)
same_step h = same_if h (length h.unread.text == 0) refl

same_over : (cs : List ℕ) (g h : Here) → mid_line g ≡ mid_line h → mid_line (over cs g) ≡ mid_line (over cs h)
same_over [] g h e = e
same_over (c ∷ cs) g h e = same_over cs (step g) (step h)
    (sym (same_step g) ∙ ap (λ (i : Here). mid_line (step i)) e ∙ same_step h)

joined : {h g after : Here} → Reaches h g → Reaches g after → Reaches h after
joined {h} {g} {after} a b = (
  a.0 ++ b.0,
  record {
    text = a.1.text ∙ ap (λ (t : List ℕ). a.0 ++ t) b.1.text ∙ sym (append_assoc a.0 b.0 after.unread.text);
    lands = b.1.lands ∙ same_over b.0 g (over a.0 h) a.1.lands ∙ ap mid_line (sym (over-append a.0 b.0 h));
  },
)

crosses_reaches : {h after : Here} {cs : List ℕ} → Crosses h cs after → Reaches h after
crosses_reaches {cs = cs} s = (cs, record { text = s.text; lands = ap mid_line s.lands })

mid_reaches : {h after : Here} → Reaches h after → Reaches h (mid_line after)
mid_reaches r = (r.0, record { text = r.1.text; lands = r.1.lands })

from_mid : {h after : Here} → Reaches (mid_line h) after → Reaches h after
from_mid {h} r = (r.0, record { text = r.1.text; lands = r.1.lands ∙ same_over r.0 (mid_line h) h refl })

over_reaches : (cs t : List ℕ) (h : Here) → h.unread.text ≡ cs ++ t → Reaches h (over cs h)
over_reaches cs t h e = (
  cs,
  record {
    text = e
        ∙ ap (λ (l : List ℕ). cs ++ l) (sym (over_text cs t h e));
    lands = refl;
  },
)

step_by : (t : List ℕ) (h : Here) → h.unread.text ≡ t → Reaches h (step h)
step_by [] h e = subst (λ (g : Here). Reaches h g) (sym (stays_at_end h e)) (stays h)
step_by (c ∷ t) h e = over_reaches (c ∷ []) t h e

step_reaches : (h : Here) → Reaches h (step h)
step_reaches h = step_by h.unread.text h refl

breaks_reach : {h after : Here} → Breaks h after → Reaches h after
breaks_reach b = crosses_reaches b.spans

spaces_reach : {column : ℕ} {h after : Here} → Spaces column h after → Reaches h after
spaces_reach {h = h} (at_column p) = stays h
spaces_reach {h = h} (no_space_left n) = stays h
spaces_reach {h = h} (space_left p y more) = joined (step_reaches h) (spaces_reach more)

empties_reach : {column : ℕ} {h after : Here} {k : ℕ} → Empties column h after k → Reaches h after
empties_reach (no_empty_line s n) = spaces_reach s
empties_reach (empty_line s b more) = joined (spaces_reach s) (joined (breaks_reach b) (empties_reach more))

behind_reaches : {column : ℕ} {h after : Here} {k : ℕ} → BehindLine column h after k → Reaches h after
behind_reaches (by_break b e) = joined (breaks_reach b) (empties_reach e)
behind_reaches {h = h} (by_end e) = stays h

lines_reach : {column k : ℕ} {h after : Here} {lines : List BlockLine} {t : ℕ} → ContentLines column k h after lines t
    → Reaches h after
lines_reach {h = h} no_line = stays h
lines_reach (more_lines {cs = cs} l b ls) = joined (crosses_reaches l.spans)
    (joined (from_mid (behind_reaches b)) (lines_reach ls))

indicator_reaches : {b : BlockHeader} {h : Here} {c : BlockHeader} {g : Here} → Indicator b h c g → Reaches h g
indicator_reaches {h = h} (takes_sign x n s) = step_reaches h
indicator_reaches {h = h} (takes_digit n w) = step_reaches h
indicator_reaches {h = h} (takes_none s d) = stays h

pub header_reaches : {h g : Here} {header : BlockHeader} → HeaderStands h header g → Reaches h g
header_reaches {h} p = joined (step_reaches h) (joined (indicator_reaches p.earlier) (indicator_reaches p.later))

pub steps_over : (cs : List ℕ) (h : Here) → steps (length cs) h ≡ over cs h
unfolding steps
steps_over [] h = refl
steps_over (c ∷ cs) h = steps_over cs (step h)

pub comment_reaches : {h : Here} {c : CommentRead} {after : Here} → StandsComment h c after → Reaches h after
comment_reaches {h} {c} s = subst (λ (g : Here). Reaches h g)
    (sym (s.lands ∙ ap mid_line (steps_over (0x23 ∷ c.text.characters) h)))
    (mid_reaches (over_reaches (0x23 ∷ c.text.characters) s.spelled.behind h s.spelled.spelled))

tail_reaches : {h after : Here} {noted : Option CommentRead} → LexemeTail h noted after → Reaches h after
tail_reaches {h} (commented b blanks rest c p y s) = joined (over_reaches (b ∷ blanks) rest h p.whole)
    (comment_reaches s)
tail_reaches {h} (uncommented blanks rest p n lands) = subst (λ (g : Here). Reaches h g) (sym lands)
    (over_reaches blanks rest h p.whole)

ends_reach : {h after : Here} {broken : Bool} → LineEnds h broken after → Reaches h after
ends_reach (line_broken b) = breaks_reach b
ends_reach {h} (line_unbroken e) = stays h

-- from behind the header's line to where content would begin
pub front_reaches : {block : Option ℕ} {h : Here} {header : BlockHeader} {noted : Option CommentRead} {broken : Bool}
    {column k : ℕ} {place : Here} (f : BlockFront block h header noted broken column k place)
    → Reaches f.behind_tail place
front_reaches f = joined (ends_reach f.ends) (empties_reach f.empties)

pub body_reaches : {literal : Bool} {chomping : Chomping} {broken : Bool} {block : Option ℕ} {column k : ℕ}
    {start : Mark} {place : Here} {read : BlockRead} {after : Here}
    → BlockBody literal chomping broken block column k start place read after → Reaches place after
body_reaches {place = place} (without_content e) = stays place
body_reaches (with_content lines t after some right ls out c u) = lines_reach ls

pub block_reaches : (literal : Bool) (block : Option ℕ) (h : Here) (given : BlockGiven) (after : Here)
    → AnswersBlock literal block h given after → Reaches h after
block_reaches literal block h given after p =
    let f = p.front in
    joined (header_reaches f.heads) (joined (tail_reaches f.tails) (joined (front_reaches f) (body_reaches p.body)))

-- Where reading stands in a text: a place, and what is left there.
pub use Rattle.granit_places.proofs.Counting.{column_behind, place_by}
pub use Rattle.granit_places.proofs.KeysLaw.{fresh_some}
pub use Rattle.granit_places.proofs.ColumnsLaw.{cols}
use Rattle.std.proofs.Common.{List, Option, [], add-zero, ap, arith, false, length, refl, suc, sym, take}
use Rattle.std.proofs.Common.{true, ℕ, ◌++◌, ◌+◌, ◌-◌, ◌==◌, ◌∙◌, ◌∷◌, ◌≡◌, ◌≢◌}
use Rattle.std.specs.Prelude.{None, Some}
use Rattle.std.specs.Str.{encode_utf8_all}
use Rattle.granit_base.specs.Classes.{is_blank, is_break, is_gap}
use Rattle.granit_base.specs.Place.{Mark, Place, first}
use Rattle.granit_canonical_steps.specs.Canonical.{spot}
use Rattle.granit_language.specs.Counting.{CountedHere, CountedMark}
use Rattle.granit_language.specs.Stretch.{GapTo, NoGap, ends, white}
use Rattle.granit_lexemes.proofs.CharTests.{solid_no_blank}
use Rattle.granit_lexemes.proofs.HereLemmas.{step_lends, stepped_text}
use Rattle.granit_lexemes.specs.Gap.{Each, IsGap}
use Rattle.granit_lexemes.specs.HeaderExtent.{LexemeTail, uncommented}
use Rattle.granit_lexemes.specs.Here.{Here, mark_of, start_of, step}
use Rattle.granit_lexemes.specs.Place.{line_ends, mark_at, place_of, since_line_end}
use Rattle.granit_lexemes.specs.PlainExtent.{over, starts_comment}
use Rattle.granit_lexemes.specs.QuotedExtent.{BlanksBehind}
use Rattle.granit_places.proofs.Counting.{stepped_on}

-- a reader stands in a text, with no byte-order mark in front of a document
pub record Held (x : List ℕ) (h : Here) : Type 0 where
  pub index : ℕ
  pub counted : CountedHere x [] index h
  pub sum : index + length h.unread.text ≡ length x
  pub lends : h.unread.lends ≡ true

pub starts_held : (x : List ℕ) → Held x (start_of x)
starts_held x = record {
  index = 0;
  counted = record {
    text = refl;
    mark = record { offset = refl; index = refl; line = refl; column = refl };
    below = tt;
  };
  sum = omega arith;
  lends = refl;
}

pub held_on : (x : List ℕ) (h : Here) (c : ℕ) (t : List ℕ) → h.unread.text ≡ c ∷ t → Held x h → Held x (step h)
held_on x h c t e held = record {
  index = suc held.index;
  counted = stepped_on x [] held.index c t h e held.counted;
  sum = ap (λ (l : List ℕ). suc held.index + length l) (stepped_text h c t e)
      ∙ (let more : held.index + suc (length t) ≡ length x = sym (ap (λ (l : List ℕ). held.index + length l) e)
      ∙ held.sum in
      omega (arith, more));
  lends = step_lends h ∙ held.lends;
}

-- behind these characters a rest is left
pub record Past (x : List ℕ) (cs rest : List ℕ) (h : Here) : Type 0 where
  pub held : Held x (over cs h)
  pub text : (over cs h).unread.text ≡ rest

pub past_all : (x cs rest : List ℕ) (h : Here) → h.unread.text ≡ cs ++ rest → Held x h → Past x cs rest h
past_all x [] rest h e held = record { held = held; text = e }
past_all x (c ∷ cs) rest h e held =
    let on = past_all x cs rest (step h) (stepped_text h c (cs ++ rest) e) (held_on x h c (cs ++ rest) e held) in
    record { held = on.held; text = on.text }

place_is : (p : Place) (i l c : ℕ) → p.index ≡ i → p.line ≡ l → p.column ≡ c
    → ◌≡◌ {A = Place} p (record { index = i; line = l; column = c })
place_is p i l c a b d =
    ap (placed p.line p.column) a ∙ (ap (λ (n : ℕ). placed n p.column i) b ∙ ap (λ (n : ℕ). placed l n i) d)
  where
    placed : (l c i : ℕ) → Place
    placed l c i = record { index = i; line = l; column = c }

mark_is : (m : Mark) (p : Place) (b : Option ℕ) → m.place ≡ p → m.byte_offset ≡ b
    → ◌≡◌ {A = Mark} m (record { place = p; byte_offset = b })
mark_is m p b e f = ap (marking m.byte_offset) e ∙ ap (λ (b : Option ℕ). marking b p) f
  where
    marking : Option ℕ → Place → Mark
    marking b p = record { place = p; byte_offset = b }

counted_mark : (x : List ℕ) (i : ℕ) (m : Mark) → CountedMark x [] i m → m ≡ mark_at x i
counted_mark x i m c =
    mark_is m (place_of x i) (Some (length (encode_utf8_all (take i x))))
    (place_is m.place i (suc (line_ends x i)) (since_line_end x i) c.index c.line
    (sym (add-zero m.place.column) ∙ c.column))
    c.offset

-- the mark of a place is that where so much is left
pub marked : (x rest : List ℕ) (h : Here) → Held x h → h.unread.text ≡ rest → mark_of h ≡ spot x rest
marked x rest h held e =
    let more : held.index + length rest ≡ length x = sym (ap (λ (l : List ℕ). held.index + length l) e) ∙ held.sum in
    counted_mark x held.index (mark_of h) held.counted.mark
    ∙ ap (mark_at x) (let i : held.index ≡ length x - length rest = omega (arith, more) in i)

-- ---- in front of a rest, perhaps with a gap before it

pub record Before (x rest : List ℕ) (h : Here) : Type 0 where
  pub gap : List ℕ
  pub held : Held x h
  pub text : h.unread.text ≡ gap ++ rest
  pub is_gap : IsGap gap

pub directly : (x rest : List ℕ) (h : Here) → Held x h → h.unread.text ≡ rest → Before x rest h
directly x rest h held e = record { gap = []; held = held; text = e; is_gap = tt }

pub gap_to : (may : Type 0) (g rest : List ℕ) (h : Here) → h.unread.text ≡ g ++ rest → IsGap g
    → GapTo may h g (over g h)
gap_to may [] rest h e i = ends
gap_to may (c ∷ cs) rest h e i =
    white e i.0 (gap_to may cs rest (step h) (stepped_text h c (cs ++ rest) e) i.1)

-- what may stand between lexemes here
pub data Parts : List ℕ → Type 0 where
  touching : Parts []
  spaced : Parts (0x20 ∷ [])
  fed : Parts (0x0A ∷ [])

pub space_gap : IsGap (0x20 ∷ [])
unfolding is_gap is_blank
space_gap = (refl, tt)

feed_gap : IsGap (0x0A ∷ [])
unfolding is_gap is_blank is_break
feed_gap = (refl, tt)

pub parts_gap : {g : List ℕ} → Parts g → IsGap g
parts_gap touching = tt
parts_gap spaced = space_gap
parts_gap fed = feed_gap

-- no gap and no comment stands at the front of a text
pub record Starts (rest : List ℕ) : Type 0 where
  pub no_gap : is_gap (first rest) ≡ false
  pub no_comment : (first rest == 0x23) ≡ false
  pub no_mark : first rest ≢ 0xFEFF

pub starts_end : Starts []
unfolding is_gap is_blank is_break
starts_end = record { no_gap = refl; no_comment = refl; no_mark = λ e. cc }

-- a gap ends in front of it
pub gap_stops : (may : Type 0) (rest : List ℕ) (h : Here) → h.unread.text ≡ rest → Starts rest → NoGap may h
gap_stops may rest h e s = (
  ap (λ (l : List ℕ). is_gap (first l)) e ∙ s.no_gap,
  λ m c f. s.no_mark (sym (ap first e) ∙ f),
)

pub blank_space : Each is_blank (0x20 ∷ [])
unfolding is_blank
blank_space = (refl, tt)

pub blank_feed : is_blank 0x0A ≡ false
unfolding is_blank
blank_feed = refl

-- what is left behind the blanks of a gap
abbrev pub left_of : {g : List ℕ} → Parts g → List ℕ → List ℕ
left_of touching rest = rest
left_of spaced rest = rest
left_of fed rest = 0x0A ∷ rest

-- a lexeme's tail: blanks at most, and then what follows
pub record Tail (x rest leaves : List ℕ) (end : Here) : Type 0 where
  pub after : Here
  pub blanks : List ℕ
  pub behind : BlanksBehind end blanks leaves
  pub no_comment : starts_comment leaves ≡ false
  pub lands : after ≡ over blanks end
  pub text : after.unread.text ≡ leaves
  pub tail : LexemeTail end None after
  pub before : Before x rest after

pub tail_of : (x rest g : List ℕ) (end : Here) → (p : Parts g) → Starts rest → Held x end → end.unread.text ≡ g ++ rest
    → Tail x rest (left_of p rest) end
tail_of x rest _ end touching s held e =
    let behind : BlanksBehind end [] rest = record {
      whole = e;
      each = tt;
      all = solid_no_blank (first rest)
          s.no_gap;
    } in record {
      after = end;
      blanks = [];
      behind = behind;
      no_comment = s.no_comment;
      lands = refl;
      text = e;
      tail = uncommented [] rest behind s.no_comment refl;
      before = directly x rest end held e;
    }
tail_of x rest _ end spaced s held e =
    let behind : BlanksBehind end (0x20 ∷ []) rest =
    record { whole = e; each = blank_space; all = solid_no_blank (first rest) s.no_gap } in
    let p = past_all x (0x20 ∷ []) rest end e held in record {
      after = over (0x20 ∷ []) end;
      blanks = 0x20 ∷ [];
      behind = behind;
      no_comment = s.no_comment;
      lands = refl;
      text = p.text;
      tail = uncommented (0x20 ∷ []) rest behind s.no_comment refl;
      before = directly x rest (over (0x20 ∷ []) end) p.held p.text;
    }
tail_of x rest _ end fed s held e =
    let behind : BlanksBehind end [] (0x0A ∷ rest) = record { whole = e; each = tt; all = blank_feed } in record {
      after = end;
      blanks = [];
      behind = behind;
      no_comment = refl;
      lands = refl;
      text = e;
      tail = uncommented [] (0x0A ∷ rest) behind refl refl;
      before = record { gap = 0x0A ∷ []; held = held; text = e; is_gap = feed_gap };
    }

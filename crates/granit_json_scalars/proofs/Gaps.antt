-- White space between the lexemes of JSON, and what is read behind a lexeme.
use Rattle.std.proofs.Common.{Bool, List, [], ap, append_assoc, arith, false, inl, inr, refl, true, ℕ, ◌++◌}
use Rattle.std.proofs.Common.{◌==◌, ◌||◌, ◌∙◌}
use Rattle.std.proofs.Common.{◌∷◌, ◌≡◌, ◌⊎◌}
use Rattle.std.proofs.lemmas.Bool.Decides.{nat_tests}
use Rattle.granit_base.specs.Classes.{is_blank, is_break, is_gap}
use Rattle.granit_base.specs.Place.{first}
use Rattle.granit_canonical_steps.proofs.Places.{Held, Starts, Tail, past_all, starts_end}
use Rattle.granit_canonical_steps.proofs.Taking.{is_mark, mark_starts}
use Rattle.granit_json_scalars.specs.JsonScalars.{White, is_json_white}
use Rattle.granit_lexemes.proofs.CharTests.{solid_no_blank}
use Rattle.granit_lexemes.specs.Gap.{Each, IsGap}
use Rattle.granit_lexemes.specs.HeaderExtent.{uncommented}
use Rattle.granit_lexemes.specs.Here.{Here}
use Rattle.granit_lexemes.specs.PlainExtent.{over, starts_comment}
use Rattle.granit_lexemes.specs.QuotedExtent.{BlanksBehind}
use Rattle.granit_lexemes.specs.declared.layout.Bracket.{Bracket}

white_gap : (c : ℕ) → is_json_white c ≡ true → is_gap c ≡ true
unfolding is_json_white is_gap is_blank is_break
white_gap c e = grind (arith, nat_tests)

pub whites_gap : (w : List ℕ) → White w → IsGap w
whites_gap [] i = tt
whites_gap (c ∷ cs) i = (white_gap c i.0, whites_gap cs i.1)

-- ---- what follows a lexeme

-- what stands behind a value and its white space: `,` or a closer, and at the root the end
pub data Ends : List Bracket → (rest : List ℕ) → Type 0 where
  at_sign : {b : Bracket} {bs : List Bracket} {c : ℕ} {rest : List ℕ} → is_mark c ≡ true → (c == 0x3A) ≡ false
      → Ends (b ∷ bs) (c ∷ rest)
  at_end : Ends [] []

pub ends_start : {bs : List Bracket} {rest : List ℕ} → Ends bs rest → Starts rest
ends_start (at_sign {c = c} {rest = rest} e n) = mark_starts c rest e
ends_start at_end = starts_end

-- ---- a gap as blanks, and what begins with a break

pub gap_breaks : (c : ℕ) → is_gap c ≡ true → is_blank c ≡ false → is_break c ≡ true
unfolding is_gap
gap_breaks c e n = by (is_blank c) (is_break c) e n
  where
    by : (a b : Bool) → (a || b) ≡ true → a ≡ false → b ≡ true
    by true b e n = absurd cc
    by false b e n = e

no_hash : (c : ℕ) → is_gap c ≡ true → (c == 0x23) ≡ false
unfolding is_gap is_blank is_break
no_hash c e = grind (arith, nat_tests)

pub record Split (g rest : List ℕ) : Type 0 where
  pub blanks : List ℕ
  pub others : List ℕ
  pub whole : g ≡ blanks ++ others
  pub each : Each is_blank blanks
  pub gap : IsGap others
  pub stops : is_blank (first (others ++ rest)) ≡ false
  pub no_comment : starts_comment (others ++ rest) ≡ false
  pub begins : (is_break (first (others ++ rest)) ≡ true) ⊎ (others ≡ [])

split_on : (c : ℕ) (cs rest : List ℕ) → is_blank c ≡ true → Split cs rest → Split (c ∷ cs) rest
split_on c cs rest e s = record {
  blanks = c ∷ s.blanks;
  others = s.others;
  whole = ap (λ (l : List ℕ). c ∷ l) s.whole;
  each = (e, s.each);
  gap = s.gap;
  stops = s.stops;
  no_comment = s.no_comment;
  begins = s.begins;
}

pub split_gap : (g rest : List ℕ) → IsGap g → Starts rest → Split g rest
split_gap [] rest i s = record {
  blanks = [];
  others = [];
  whole = refl;
  each = tt;
  gap = tt;
  stops = solid_no_blank (first rest) s.no_gap;
  no_comment = s.no_comment;
  begins = inr refl;
}
split_gap (c ∷ cs) rest i s = by (is_blank c) refl (split_gap cs rest i.1 s)
  where
    by : (v : Bool) → is_blank c ≡ v → Split cs rest → Split (c ∷ cs) rest
    by true e r = split_on c cs rest e r
    by false e r = record {
      blanks = [];
      others = c ∷ cs;
      whole = refl;
      each = tt;
      gap = i;
      stops = e;
      no_comment = no_hash c i.0;
      begins = inl (gap_breaks c i.0 e);
    }

-- the tail of a lexeme: its blanks, and then what follows
pub record Behind (x rest : List ℕ) (end : Here) : Type 0 where
  pub leaves : List ℕ
  pub tail : Tail x rest leaves end
  pub begins : (is_break (first leaves) ≡ true) ⊎ (leaves ≡ rest)

pub tail_past : (x rest g : List ℕ) (end : Here) → IsGap g → Starts rest → Held x end
    → end.unread.text ≡ g ++ rest → Behind x rest end
tail_past x rest g end i st held e =
    let s = split_gap g rest i st in
    let whole : end.unread.text ≡ s.blanks ++ (s.others ++ rest) = e ∙ ap (λ (l : List ℕ). l ++ rest) s.whole
    ∙ append_assoc s.blanks s.others rest in
    let behind : BlanksBehind end s.blanks (s.others ++ rest) =
    record { whole = whole; each = s.each; all = s.stops } in
    let p = past_all x s.blanks (s.others ++ rest) end whole held in record {
      leaves = s.others ++ rest;
      tail = record {
        after = over s.blanks end;
        blanks = s.blanks;
        behind = behind;
        no_comment = s.no_comment;
        lands = refl;
        text = p.text;
        tail = uncommented s.blanks (s.others ++ rest) behind s.no_comment refl;
        before = record { gap = s.others; held = p.held; text = p.text; is_gap = s.gap };
      };
      begins = by s.others rest s.begins;
    }
  where
    by : (others rest : List ℕ) → (is_break (first (others ++ rest)) ≡ true) ⊎ (others ≡ [])
        → (is_break (first (others ++ rest)) ≡ true) ⊎ (others ++ rest ≡ rest)
    by others rest (inl b) = inl b
    by others rest (inr n) = inr (ap (λ (l : List ℕ). l ++ rest) n)

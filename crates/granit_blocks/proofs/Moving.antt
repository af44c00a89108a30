-- How places move over characters, breaks and spaces.
pub use Rattle.granit_quoted_laws.proofs.QuotedLaw.{quoted_refused, quoted_standing}
pub use Rattle.granit_quoted_laws.proofs.QuotedOnce.{quoted_is_answered}
use Rattle.std.proofs.Common.{◌≡◌, ℕ, zero, suc, ◌+◌, ◌-◌, ◌<◌, ◌≤◌, Bool, true, false, List, [], ◌∷◌, ◌++◌, length}
use Rattle.std.proofs.Common.{take, refl, sym, ap, ◌∙◌, subst, arith}
use Rattle.std.specs.Prelude.{if◌then◌else◌}
use Rattle.std.proofs.lemmas.Bool.{cond-true, cond-false}
use Rattle.std.proofs.lemmas.Bool.Decides.{nat_tests}
use Rattle.std.proofs.lemmas.List.{length-append}
use Rattle.std.proofs.Math.Seq.{take-append_seam}
use Rattle.granit_base.specs.Classes.{is_break}
use Rattle.granit_base.specs.Place.{first}
use Rattle.granit_lexemes.specs.Gap.{Each}
use Rattle.granit_lexemes.specs.Here.{Here, text_len, next_char, step, past}
use Rattle.granit_lexemes.specs.Basics.{past_break, text_up_to}
use Rattle.granit_lexemes.specs.BlockHeader.{is_space}
use Rattle.granit_lexemes.specs.BlockScalar.{over_spaces, indented}
use Rattle.granit_lexemes.specs.BlockMoves.{Crosses, Breaks, AllSpaces, no_space, space, Spaces, at_column}
use Rattle.granit_lexemes.specs.BlockMoves.{no_space_left, space_left}
use Rattle.granit_lexemes.proofs.HereLemmas.{past_goes, past_stops, step_len, stepped_text}
use Rattle.granit_quoted_laws.proofs.QuotedKept.{one_broken}
use Rattle.granit_quoted_laws.proofs.QuotedLaw.{seen}
use Rattle.granit_quoted_laws.proofs.QuotedGaps.{column_on, broken}
use Rattle.granit_quoted_laws.proofs.QuotedGaps.{break_first, past_one}

-- ---- over the characters that pass a test

pub record Past (test : ℕ → Bool) (h after : Here) : Type 0 where
  pub characters : List ℕ
  pub spans : Crosses h characters after
  pub each : Each test characters
  pub stops : test (next_char after) ≡ false

stays : (test : ℕ → Bool) (h : Here) → test (next_char h) ≡ false → Past test h (past test h)
stays test h n = subst (λ (g : Here). Past test h g) (sym (past_stops test h n))
    (record { characters = []; spans = record { text = refl; lands = refl }; each = tt; stops = n })

past_if : (test : ℕ → Bool) (h : Here) → test 0 ≡ false → (c : ℕ) (t : List ℕ) → h.unread.text ≡ c ∷ t
    → Past test (step h) (past test (step h)) → (b : Bool) → test c ≡ b → Past test h (past test h)
past_if test h nul c t e p true y =
    let next : test (next_char h) ≡ true = ap (λ (l : List ℕ). test (first l)) e ∙ y in
    subst (λ (g : Here). Past test h g) (past_goes test h nul next) (record {
      characters = c ∷ p.characters;
      spans = record {
        text = e ∙ ap (λ (l : List ℕ). c ∷ l) (sym (stepped_text h c t e) ∙ p.spans.text);
        lands =
            p.spans.lands;
      };
      each = (y, p.each);
      stops = p.stops;
    })
past_if test h nul c t e p false y = stays test h (ap (λ (l : List ℕ). test (first l)) e ∙ y)

past_by : (test : ℕ → Bool) → test 0 ≡ false → (text : List ℕ) (h : Here) → h.unread.text ≡ text
    → Past test h (past test h)
past_by test nul [] h e = stays test h (ap (λ (l : List ℕ). test (first l)) e ∙ nul)
past_by test nul (c ∷ t) h e = past_if test h nul c t e (past_by test nul t (step h) (stepped_text h c t e)) (test c)
    refl

pub past_reads : (test : ℕ → Bool) → test 0 ≡ false → (h : Here) → Past test h (past test h)
past_reads test nul h = past_by test nul h.unread.text h refl

pub past_is : (test : ℕ → Bool) → test 0 ≡ false → (cs : List ℕ) (h after : Here) → Crosses h cs after → Each test cs
    → test (next_char after) ≡ false → past test h ≡ after
past_is test nul [] h after s y n = past_stops test h (ap (λ (l : List ℕ). test (first l)) s.text ∙ n) ∙ sym s.lands
past_is test nul (c ∷ cs) h after s y n =
    sym (past_goes test h nul (ap (λ (l : List ℕ). test (first l)) s.text ∙ y.0))
    ∙ past_is test nul cs (step h) after (record {
      text = stepped_text h c (cs ++ after.unread.text) s.text;
      lands =
          s.lands;
    }) y.1 n

-- the characters between two places
pub text_of : (h : Here) (cs : List ℕ) (after : Here) → Crosses h cs after → text_up_to h after ≡ cs
text_of h cs after s =
    let t = after.unread.text in
    let n : length (cs ++ t) - length t ≡ length cs = omega (arith, length-append cs t) in
    ap (λ (l : List ℕ). take (length l - length t) l) s.text ∙ ap (λ (m : ℕ). take m (cs ++ t)) n
    ∙ take-append_seam cs t

pub crosses_len : (h : Here) (cs : List ℕ) (after : Here) → Crosses h cs after → text_len after ≤ text_len h
crosses_len h cs after s = let e = ap (λ (l : List ℕ). length l) s.text in omega
    (arith, length-append cs after.unread.text)

-- ---- breaks

pub breaks_of : (h : Here) → is_break (next_char h) ≡ true → Breaks h (past_break h)
breaks_of h y = let b = one_broken h y in record {
  characters = b.characters;
  spans =
      record { text = b.text; lands = b.is };
  one = b.one;
}

pub breaks_is : (h after : Here) → Breaks h after → past_break h ≡ after
breaks_is h after b = past_one b.one h b.spans.text ∙ sym b.spans.lands

pub breaks_first : (h after : Here) → Breaks h after → is_break (next_char h) ≡ true
breaks_first h after b = ap (λ (t : List ℕ). is_break (first t)) b.spans.text ∙ break_first b.one

pub break_shorter : (h : Here) → is_break (next_char h) ≡ true → text_len (past_break h) < text_len h
break_shorter h y = (broken h y).shortens

-- ---- spaces

all_spaces_if : (h : Here) → AllSpaces (step h) (past is_space (step h)) → (b : Bool) → is_space (next_char h) ≡ b
    → AllSpaces h (past is_space h)
all_spaces_if h more true y = subst (λ (g : Here). AllSpaces h g) (past_goes is_space h refl y) (space y more)
all_spaces_if h more false y = subst (λ (g : Here). AllSpaces h g) (sym (past_stops is_space h y)) (no_space y)

all_spaces_by : (text : List ℕ) (h : Here) → h.unread.text ≡ text → AllSpaces h (past is_space h)
all_spaces_by [] h e = let n : is_space (next_char h)
    ≡ false = ap (λ (l : List ℕ). is_space (first l)) e in subst (λ (g : Here). AllSpaces h g)
    (sym (past_stops is_space h n)) (no_space n)
all_spaces_by (c ∷ t) h e = all_spaces_if h (all_spaces_by t (step h) (stepped_text h c t e)) (is_space (next_char h))
    refl

pub all_spaces : (h : Here) → AllSpaces h (past is_space h)
all_spaces h = all_spaces_by h.unread.text h refl

pub all_spaces_is : {h after : Here} → AllSpaces h after → past is_space h ≡ after
all_spaces_is {h} (no_space n) = past_stops is_space h n
all_spaces_is {h} (space y more) = sym (past_goes is_space h refl y) ∙ all_spaces_is more

pub all_spaces_len : {h after : Here} → AllSpaces h after → text_len after ≤ text_len h
all_spaces_len (no_space n) = omega arith
all_spaces_len {h} (space y more) = let a = all_spaces_len more in omega (arith, step_len h)

space_no_break : (c : ℕ) → is_space c ≡ true → is_break c ≡ false
unfolding is_break
space_no_break c y = grind (arith, nat_tests)

pub space_moves : (h : Here) → is_space (next_char h) ≡ true → (step h).place.column ≡ h.place.column + 1
space_moves h y = column_on h (seen is_space h refl y) (space_no_break (next_char h) y)

spaces_if : (column n : ℕ) (h : Here) → suc n ≡ column - h.place.column
    → (n ≡ column - (step h).place.column → Spaces column (step h) (over_spaces n (step h))) → (b : Bool)
    → is_space (next_char h) ≡ b
    → Spaces column h (if b then over_spaces n (step h) else h)
spaces_if column n h e more true y = let m = space_moves h y in space_left (omega arith) y (more (omega arith))
spaces_if column n h e more false y = no_space_left y

pub spaces_of : (column n : ℕ) (h : Here) → n ≡ column - h.place.column → Spaces column h (over_spaces n h)
unfolding over_spaces
spaces_of column zero h e = at_column (omega arith)
spaces_of column (suc n) h e = spaces_if column n h e (spaces_of column n (step h)) (is_space (next_char h)) refl

pub spaces : (column : ℕ) (h : Here) → Spaces column h (indented column h)
spaces column h = spaces_of column (column - h.place.column) h refl

pub spaces_by : (column n : ℕ) {h after : Here} → n ≡ column - h.place.column → Spaces column h after
    → over_spaces n h ≡ after
unfolding over_spaces
spaces_by column zero e (at_column p) = refl
spaces_by column (suc n) e (at_column p) = absurd (omega arith)
spaces_by column zero e (no_space_left y) = refl
spaces_by column (suc n) {h} e (no_space_left y) = cond-false (is_space (next_char h)) _ _ y
spaces_by column zero e (space_left p y more) = absurd (omega arith)
spaces_by column (suc n) {h} e (space_left p y more) = let m = space_moves h y in cond-true (is_space (next_char h)) _ _
    y ∙ spaces_by column n (omega arith) more

pub spaces_is : (column : ℕ) {h after : Here} → Spaces column h after → indented column h ≡ after
spaces_is column {h} s = spaces_by column (column - h.place.column) refl s

pub spaces_len : {column : ℕ} {h after : Here} → Spaces column h after → text_len after ≤ text_len h
spaces_len (at_column p) = omega arith
spaces_len (no_space_left y) = omega arith
spaces_len {h = h} (space_left p y more) = let a = spaces_len more in omega (arith, step_len h)

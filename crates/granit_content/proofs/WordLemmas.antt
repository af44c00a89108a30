-- A plain scalar that was passed at once is what its reader gives.
use Rattle.std.proofs.Common.{◌≡◌, ℕ, ◌==◌, ◌||◌, Bool, true, false, List, drop, Option, Some, None, Result, Ok, sym}
use Rattle.std.proofs.Common.{ap, ap₂, ◌∙◌, subst}
use Rattle.std.proofs.lemmas.Bool.{and_parts}
use Rattle.granit_base.specs.Classes.{is_flow, is_within}
use Rattle.granit_base.specs.Place.{Mark, first}
use Rattle.granit_base.specs.Written.{lent}
use Rattle.granit_cursor.specs.Plain.{EndsWordsAt, PlainPassed}
use Rattle.granit_runs.specs.White.{blanks_length}
use Rattle.granit_runs.specs.Words.{EndsBelow}
use Rattle.granit_runs.specs.declared.whitespace.SkipTabs.TheVariants.{No}
use Rattle.granit_lexemes.specs.Here.{Here, mark_of, next_char, step}
use Rattle.granit_lexemes.specs.LayoutData.{LayoutData}
use Rattle.granit_lexemes.specs.Moves.{steps}
use Rattle.granit_lexemes.specs.Outcome.{Fault}
use Rattle.granit_lexemes.specs.PlainExtent.{is_flow_dash}
use Rattle.granit_lexemes.specs.PlainScalar.{PlainRead, plain_scalar}
use Rattle.granit_lexemes.proofs.HereLemmas.{step_text}
use Rattle.granit_quoted.proofs.SeenQuoted.{steps_text}
use Rattle.granit_plain.proofs.WordScalars.{stop_alone, words_and_line, words_no_dash, words_read}

-- what is read of a scalar by its text and the mark behind it
abbrev pub passed_read : Here → (text : List ℕ) → (behind : Mark) → (on_new_line : Bool) → PlainRead
passed_read h text behind on_new_line = record {
  text = lent text;
  source = record { start = mark_of h; end = behind };
  cut_by_comment = None;
  on_new_line = on_new_line;
}

-- the same of one that was passed so, and where reading then stands
pub record ReadAtOnce (at : LayoutData) (h : Here) (text : List ℕ) (behind : Mark) (Lands : Here → Type 0) : Type
    0 where
  pub on_new_line : Bool
  pub after : Here
  pub lands : Lands after
  pub is : plain_scalar at h ≡ Ok (passed_read h text behind on_new_line, after)

module _ (at : LayoutData) (h : Here) (text : List ℕ) (behind : Mark) (Lands : Here → Type 0)
    (p : PlainPassed at.in_flow at.block_column h text behind Lands) where
  dash : is_flow_dash at h.unread.text ≡ false
  dash = words_no_dash at h.unread.text p.count p.whole p.words.dash

  abbrev there : Here
  there = steps p.count h

  -- by what the cursor told
  same : (on_new_line : Bool) (after : Here) → ◌≡◌ {A = Result (PlainRead × Here) Fault}
      (Ok (words_read h p.count on_new_line, after)) (Ok (passed_read h text behind on_new_line, after))
  same on_new_line after =
      ap₂ (λ (t : List ℕ) (m : Mark). Ok (passed_read h t m on_new_line, after)) (sym p.is) (sym p.mark)

  by : (spaces : Option ℕ) → EndsWordsAt at.in_flow at.block_column there spaces Lands
      → ReadAtOnce at h text behind Lands
  by None e = record {
    on_new_line = false;
    after = there;
    lands = e.1;
    is = stop_alone at h p.count p.words.some p.whole p.lends dash p.words.printable
        (and_parts (next_char there == 0x3A || is_flow (next_char there)) _ e.0).0 ∙ same false there;
  }
  by (Some spaces) e =
      let line = e.0 in
      let next = step_text there in
      let far : (steps spaces (step there)).unread.text ≡ drop spaces (drop 1 there.unread.text) =
      steps_text spaces (step there) ∙ ap (drop spaces) next in
      record {
        on_new_line = true;
        after = steps spaces (step there);
        lands = e.1;
        is = words_and_line at h p.count p.words.some p.whole p.lends dash p.words.printable line.feed spaces
            (line.blanks ∙ ap (blanks_length No) (sym next))
            (ap (λ (t : List ℕ). is_within 0x21 0x7E (first t)) far ∙ line.visible)
            (subst (λ (t : List ℕ). EndsBelow at.in_flow at.block_column spaces (first t)) (sym far) line.ends)
            ∙ same true (steps spaces (step there));
      }

  -- it is read where it was passed
  pub passed_at_once : ReadAtOnce at h text behind Lands
  passed_at_once = by p.spaces p.ends

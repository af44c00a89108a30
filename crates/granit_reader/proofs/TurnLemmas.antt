-- A turn of the machine's reader, by what the read in it gives.
use Rattle.std.proofs.Common.{◌≡◌, ℕ, Bool, true, false, List, [], ◌∷◌, None, Some, Ok, Err, refl, ap, subst, ◌∙◌}
use Rattle.granit_error.specs.OptionsData.{OptionsData}
use Rattle.granit_error.specs.Refused.{Refused}
use Rattle.granit_lexemes.specs.Lexeme.{Item, OfLexeme, OfComment}
use Rattle.granit_machine.specs.Laid.{Laid}
use Rattle.granit_machine.specs.Reader.{is_end, lex_turn, read}
use Rattle.granit_machine.specs.ReaderState.{ReaderState, Read}
use Rattle.granit_steps.specs.Steps.{incoming}
use Rattle.granit_steps.proofs.KeyReads.{possibles, Items, Lexed, read_keys}
use Rattle.granit_cursor.specs.Reading.{coded}
use Rattle.granit_reader.specs.Turns.{before_turn, turn_items}

-- the end is no comment, and the first of what is read
end_by : (asked : Bool) (number : ℕ) (before : List ℕ) (items : List Item) (t : Laid) → Items number before items t
    → is_end items ≡ is_end (incoming asked items)
end_by asked number before [] t told = absurd told
end_by true number before (OfComment c ∷ []) t told = refl
end_by false number before (OfComment c ∷ []) t told = refl
end_by asked number before (OfComment c ∷ i ∷ is) t told = absurd told
end_by true number before (OfLexeme x ∷ is) t told = refl
end_by false number before (OfLexeme x ∷ is) t told = refl

module _ (o : OptionsData) (s : ReaderState) where
  end_seen : (asked : Bool) (items : List Item) (after : ReaderState) → read o s ≡ Ok (items, after)
      → is_end items ≡ is_end (incoming asked items)
  end_seen asked items after is = end_by asked s.laid.number (possibles s.laid) items after.laid
      (subst (λ (r : Read). Lexed s.laid.number (possibles s.laid) r) is (read_keys o s))

  turned : (asked : Bool) (items : List Item) (after : ReaderState) → read o s ≡ Ok (items, after)
      → coded (turn_items asked) (lex_turn o (before_turn false s))
      ≡ Ok (incoming asked items, before_turn (is_end items) after)
  unfolding lex_turn
  turned asked items after is = rw is refl

  pub turn_given : (asked : Bool) (items found : List Item) (after : ReaderState) → read o s ≡ Ok (items, after)
      → incoming asked items ≡ found
      → coded (turn_items asked) (lex_turn o (before_turn false s)) ≡ Ok (found, before_turn (is_end found) after)
  turn_given asked items found after is same =
      turned asked items after is
      ∙ ap (λ (b : Bool). Ok (incoming asked items, before_turn b after)) (end_seen asked items after is)
      ∙ ap (λ (xs : List Item). Ok (xs, before_turn (is_end xs) after)) same

  pub turn_refused : (e : Refused) → read o s ≡ Err e
      → lex_turn o (before_turn false s) ≡ Ok (None, record { reader = s; ended = false; fault = Some e })
  unfolding lex_turn
  turn_refused e is = rw is refl

  pub turn_ended : (asked : Bool) → coded (turn_items asked) (lex_turn o (before_turn true s))
      ≡ Ok ([], before_turn true s)
  unfolding lex_turn
  turn_ended true = refl
  turn_ended false = refl

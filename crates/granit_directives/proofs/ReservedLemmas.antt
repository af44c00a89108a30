-- The parameters of a reserved directive, a turn at a time.
use Rattle.std.proofs.Common.{◌≡◌, ℕ, zero, suc, ◌+◌, ◌<◌, ◌==◌, Bool, true, false, ◌||◌, List, [], ◌∷◌, ◌++◌, length}
use Rattle.std.proofs.Common.{map, Option, Some, None, Result, Ok, Err, refl, sym, ap, ◌∙◌, subst, arith, length-append}
use Rattle.std.specs.Prelude.{if◌then◌else◌, nat_le}
use Rattle.std.proofs.lemmas.Bool.{cond-true, cond-false}
use Rattle.granit_base.specs.Classes.{is_blank, is_blank_or_breakz, is_yaml_non_space}
use Rattle.granit_base.specs.Place.{Mark}
use Rattle.granit_base.specs.Written.{Written}
use Rattle.granit_directives.specs.ReservedCode.{reserved_words, all_owned, parameters_at, parameters_whole}
use Rattle.granit_directives.specs.WordCode.{past_spelled}
use Rattle.granit_directives.specs.declared.reserved.ParameterParts.{ParameterParts}
use Rattle.granit_error.specs.FaultKind.{TooManyReservedDirectiveParams}
use Rattle.granit_error.specs.OptionsData.{OptionsData}
use Rattle.granit_error.specs.Refused.{Refused}
use Rattle.granit_lexemes.proofs.HereLemmas.{past_len}
use Rattle.granit_lexemes.proofs.PieceLemmas.{loop_more, loop_done, loop_fails}
use Rattle.granit_lexemes.specs.Basics.{fails_at, owned, count_up_to, text_up_to}
use Rattle.granit_lexemes.specs.Directive.{word_up_to, ParameterState, parameter_behind, parameter_turn, parameters_len}
use Rattle.granit_lexemes.specs.Here.{Here, text_len, next_char, past}
use Rattle.granit_lexemes.specs.Outcome.{Fault, Fails, ◌>>=◌}
use Rattle.granit_lexemes.specs.Pieces.{Shortens}
use Rattle.granit_lexemes.specs.Tags.{Budget, spent}

abbrev Turn : Type 0
Turn = Result (Option (List (List ℕ)) × ParameterState) Fault

module _ (o : OptionsData) (start : Mark) (s : ParameterState) where
  -- behind the blanks
  abbrev place : Here
  place = past is_blank s.here

  abbrev pub ends_here : Bool
  ends_here = (count_up_to s.here place == 0 || next_char place == 0x23) || is_blank_or_breakz (next_char place)

  abbrev given_word : Option Budget × Here → Turn
  given_word x = Ok (Some (text_up_to place x.1 ∷ []), record { here = x.1; budget = x.0; count = s.count + 1 })

  abbrev counted : Option Budget → Turn
  counted left =
      if nat_le o.max_reserved_directive_params s.count then fails_at
      (TooManyReservedDirectiveParams o.max_reserved_directive_params) start
      else word_up_to left start place (past_spelled place) >>= given_word

  abbrev parted : Turn
  parted = spent s.budget (count_up_to s.here place) start >>= counted

  turn_is : parameter_turn o start s ≡ (if ends_here then Ok (None, record s { here = place }) else parted)
  unfolding parameter_behind
  turn_is = refl

  -- ---- a turn, by what stands there

  pub no_parameter : ends_here ≡ true → parameter_turn o start s ≡ Ok (None, record s { here = place })
  no_parameter e = turn_is ∙ cond-true ends_here _ _ e

  pub blanks_fail : (e : Refused) → ends_here ≡ false → Fails e (spent s.budget (count_up_to s.here place) start)
      → Fails e (parameter_turn o start s)
  blanks_fail e more fails other = turn_is ∙ cond-false ends_here _ _ more
      ∙ ap (λ (r : Result (Option Budget) Fault). r >>= counted) (fails other)

  behind_blanks : (left : Option Budget) → ends_here ≡ false → spent s.budget (count_up_to s.here place) start ≡ Ok left
      → parameter_turn o start s ≡ counted left
  behind_blanks left more within = turn_is ∙ cond-false ends_here _ _ more
      ∙ ap (λ (r : Result (Option Budget) Fault). r >>= counted) within

  pub one_too_many : (left : Option Budget) → ends_here ≡ false
      → spent s.budget (count_up_to s.here place) start ≡ Ok left
      → nat_le o.max_reserved_directive_params s.count ≡ true
      → parameter_turn o start s ≡ fails_at (TooManyReservedDirectiveParams o.max_reserved_directive_params) start
  one_too_many left more within many = behind_blanks left more within
      ∙ cond-true (nat_le o.max_reserved_directive_params s.count) _ _ many

  pub word_fails : (e : Refused) (left : Option Budget) → ends_here ≡ false
      → spent s.budget (count_up_to s.here place) start ≡ Ok left
      → nat_le o.max_reserved_directive_params s.count ≡ false
      → Fails e (word_up_to left start place (past_spelled place)) → Fails e (parameter_turn o start s)
  word_fails e left more within few fails other =
      behind_blanks left more within ∙ cond-false (nat_le o.max_reserved_directive_params s.count) _ _ few
      ∙ ap (λ (r : Result (Option Budget × Here) Fault). r >>= given_word) (fails other)

  pub word_taken : (left rest : Option Budget) → ends_here ≡ false
      → spent s.budget (count_up_to s.here place) start ≡ Ok left
      → nat_le o.max_reserved_directive_params s.count ≡ false
      → word_up_to left start place (past_spelled place) ≡ Ok (rest, past_spelled place)
      → parameter_turn o start s ≡ Ok (
        Some (text_up_to place (past_spelled place) ∷ []),
        record { here = past_spelled place; budget = rest; count = s.count + 1 },
      )
  word_taken left rest more within few is =
      behind_blanks left more within ∙ cond-false (nat_le o.max_reserved_directive_params s.count) _ _ few
      ∙ ap (λ (r : Result (Option Budget × Here) Fault). r >>= given_word) is

  -- ---- a turn makes the rest shorter

  abbrev Less : Turn → Type 0
  Less (Ok (Some piece, after)) = text_len after.here < text_len s.here
  Less (Ok (None, after)) = Unit {0}
  Less (Err f) = Unit {0}

  some_between : (n : ℕ) (b c : Bool) → ((n == 0 || b) || c) ≡ false → 0 < n
  some_between zero b c e = absurd cc
  some_between (suc n) b c e = omega arith

  word_less : text_len (past_spelled place) < text_len s.here → (r : Result (Option Budget) Fault)
      → Less ((r >>= λ left. Ok (left, past_spelled place)) >>= given_word)
  word_less less (Ok left) = less
  word_less less (Err f) = tt

  counted_less : text_len (past_spelled place) < text_len s.here → (left : Option Budget) (v : Bool)
      → Less (if v then fails_at (TooManyReservedDirectiveParams o.max_reserved_directive_params) start else word_up_to
      left start place (past_spelled place) >>= given_word)
  counted_less less left true = tt
  counted_less less left false = word_less less _

  blanks_less : text_len (past_spelled place) < text_len s.here → (r : Result (Option Budget) Fault)
      → Less (r >>= counted)
  blanks_less less (Ok left) = counted_less less left (nat_le o.max_reserved_directive_params s.count)
  blanks_less less (Err f) = tt

  parted_less : (v : Bool) → ends_here ≡ v → Less (if v then Ok (None, record s { here = place }) else parted)
  parted_less true e = tt
  parted_less false e =
      let some = some_between (count_up_to s.here place) (next_char place == 0x23)
      (is_blank_or_breakz (next_char place)) e in
      let le = past_len is_yaml_non_space place in
      blanks_less (omega (arith, some, le)) (spent s.budget (count_up_to s.here place) start)

  turn_less : Less (parameter_turn o start s)
  turn_less = subst Less (sym turn_is) (parted_less ends_here refl)

pub parameters_shorten : (o : OptionsData) (start : Mark) → Shortens parameters_len (parameter_turn o start)
parameters_shorten o start s after piece e = subst (Less o start s) e (turn_less o start s)

-- ---- what a turn of the code leaves of the whole

words_more : (list : List Written) (w : Written)
    → reserved_words (list ++ w ∷ []) ≡ reserved_words list ++ w.characters ∷ []
words_more [] w = refl
words_more (v ∷ list) w = ap (λ (l : List (List ℕ)). v.characters ∷ l) (words_more list w)

owned_more : (words : List (List ℕ)) (word : List ℕ)
    → map owned (words ++ word ∷ []) ≡ map owned words ++ owned word ∷ []
owned_more [] word = refl
owned_more (v ∷ words) word = ap (λ (l : List Written). owned v ∷ l) (owned_more words word)

pub still_owned : (old new : List Written) (word : List ℕ) → new ≡ old ++ owned word ∷ [] → all_owned old
    → all_owned new
still_owned old new word grown all =
    grown ∙ ap (λ (l : List Written). l ++ owned word ∷ []) all ∙ sym (owned_more (reserved_words old) word)
    ∙ ap (λ (l : List (List ℕ)). map owned l) (sym (words_more old (owned word)))
    ∙ ap (λ (l : List Written). map owned (reserved_words l)) (sym grown)

pub parameters_go : (o : OptionsData) (start : Mark) (p q : ParameterParts) (h now : Here) (word : List ℕ)
    → q.list ≡ p.list ++ owned word ∷ []
    → parameter_turn o start (parameters_at o p h)
    ≡ Ok (Some (word ∷ []), record { here = now; budget = (parameters_at o q now).budget; count = length p.list + 1 })
    → parameters_whole o start q now ≡ parameters_whole o start p h
parameters_go o start p q h now word grown is =
    let count : length q.list ≡ length p.list + 1 = ap (length {A = Written}) grown
    ∙ length-append p.list (owned word ∷ []) in
    let words : reserved_words q.list ≡ reserved_words p.list ++ word ∷ [] = ap reserved_words grown
    ∙ words_more p.list (owned word) in
    loop_more parameters_len (parameter_turn o start) (parameters_shorten o start) (reserved_words p.list)
    (reserved_words q.list) (parameters_at o p h) (parameters_at o q now) (word ∷ []) (parameters_whole o start p h)
    refl
    (is ∙ ap (λ (n : ℕ). Ok (
      Some (word ∷ []),
      record { here = now; budget = (parameters_at o q now).budget; count = n },
    )) (sym count)) words

pub parameters_fail : (o : OptionsData) (start : Mark) (p : ParameterParts) (h : Here) (e : Refused)
    → Fails e (parameter_turn o start (parameters_at o p h)) → Fails e (parameters_whole o start p h)
parameters_fail o start p h e fails = loop_fails parameters_len (parameter_turn o start) (reserved_words p.list)
    (parameters_at o p h) e (parameters_whole o start p h) refl fails

pub parameters_end : (o : OptionsData) (start : Mark) (p : ParameterParts) (h now : Here)
    → parameter_turn o start (parameters_at o p h) ≡ Ok (None, parameters_at o p now)
    → parameters_whole o start p h ≡ Ok (reserved_words p.list, parameters_at o p now)
parameters_end o start p h now is = loop_done parameters_len (parameter_turn o start) (reserved_words p.list)
    (parameters_at o p h) (parameters_at o p now) (parameters_whole o start p h) refl is

-- The words of a reserved directive: what is read is there, and what is there is read.
use Rattle.std.proofs.Common.{◌≡◌, ℕ, zero, suc, ◌+◌, ◌-◌, ◌≤◌, ◌<◌, ◌==◌, Bool, true, false, ◌||◌, List, [], ◌∷◌, ◌++◌}
use Rattle.std.proofs.Common.{length, Option, Some, None, Result, Ok, Err, refl, sym, ap, ap₂, ◌∙◌, subst, arith}
use Rattle.std.proofs.Common.{append_assoc, length-append, ◌⊎◌, inl, inr}
use Rattle.std.specs.Prelude.{if◌then◌else◌, nat_lt, nat_le}
use Rattle.std.specs.Str.{encode_utf8_all}
use Rattle.std.proofs.lemmas.Bool.{cond-true, cond-false, cases_lt}
use Rattle.std.proofs.lemmas.Bool.Decides.{nat_tests}
use Rattle.std.proofs.lemmas.Str.{encodes-append, encode_ascii}
use Rattle.granit_base.specs.Classes.{is_blank, is_blank_or_breakz, is_yaml_non_space, is_yaml_non_break, is_printable}
use Rattle.granit_base.specs.Classes.{is_break}
use Rattle.granit_base.specs.Place.{Mark}
use Rattle.granit_error.specs.FaultKind.{DirectiveByteLimitExceeded, TooManyReservedDirectiveParams}
use Rattle.granit_error.specs.OptionsData.{OptionsData}
use Rattle.granit_lexemes.specs.Gap.{Each}
use Rattle.granit_lexemes.specs.Here.{Here, text_len, next_char, past}
use Rattle.granit_lexemes.specs.Outcome.{Fault, ◌>>=◌}
use Rattle.granit_lexemes.specs.PlainExtent.{over}
use Rattle.granit_lexemes.specs.Basics.{fails_at}
use Rattle.granit_lexemes.specs.Pieces.{with_front, then_more, turns, pieces}
use Rattle.granit_names.proofs.Runs.{over_text}
use Rattle.granit_names.proofs.Kept.{over-append}
use Rattle.granit_lexemes.specs.Basics.{text_up_to}
use Rattle.granit_lexemes.specs.Directive.{word_up_to, ParameterState, parameter_behind, parameter_turn, parameters_len}
use Rattle.granit_lexemes.specs.Directive.{reserved_directive}
use Rattle.granit_lexemes.specs.Lexeme.{Reserved}
use Rattle.granit_lexemes.specs.Tags.{Budget, spent}
use Rattle.granit_lexemes.specs.DirectiveExtent.{bytes_of, All, ends_words, WordStands, NoWord, WordsStand, no_more}
use Rattle.granit_lexemes.specs.DirectiveExtent.{one_more}
use Rattle.granit_names.proofs.Runs.{count_over, text_over}
use Rattle.granit_handles.proofs.VersionLaw.{no_blank_nul, all_over, all_past}

pub no_word_nul : is_yaml_non_space 0 ≡ false
unfolding is_yaml_non_space is_yaml_non_break is_printable is_break
no_word_nul = refl

pub blank_small : (c : ℕ) → is_blank c ≡ true → c < 128
unfolding is_blank
blank_small c e = grind (arith, nat_tests)

pub bytes-append : (a b : List ℕ) → bytes_of (a ++ b) ≡ bytes_of a + bytes_of b
bytes-append a b = ap (length {A = ℕ}) (encodes-append a b) ∙ length-append (encode_utf8_all a) (encode_utf8_all b)

pub blank_bytes : (blanks : List ℕ) → Each is_blank blanks → bytes_of blanks ≡ length blanks
blank_bytes [] y = refl
blank_bytes (c ∷ blanks) y =
    let e : bytes_of (c ∷ blanks) ≡ length (c ∷ encode_utf8_all blanks) = ap
    (λ (l : List ℕ). length (l ++ encode_utf8_all blanks)) (encode_ascii c (blank_small c y.0)) in
    e ∙ ap suc (blank_bytes blanks y.1)

module _ (o : OptionsData) (start : Mark) (limit : ℕ) where
  abbrev pub budget : ℕ → Option Budget
  budget left = Some (record { left = left; limit = limit })

  abbrev pub reading : (left count : ℕ) → Here → ParameterState
  reading left count h = record { here = h; budget = budget left; count = count }

  data WordTurn (left count : ℕ) (h : Here) : Result (Option (List (List ℕ)) × ParameterState) Fault → Type 0 where
    stop : (blanks : List ℕ) → NoWord h.unread.text blanks (over blanks h).unread.text
        → WordTurn left count h (Ok (None, reading left count (over blanks h)))
    took : (piece word : List ℕ) (more : ℕ) → WordStands h.unread.text piece word (over piece h).unread.text
        → more + bytes_of piece ≡ left → count < o.max_reserved_directive_params → 0 < length piece
        → WordTurn left count h (Ok (Some (word ∷ []), reading more (count + 1) (over piece h)))
    long : (piece word rest : List ℕ) → WordStands h.unread.text piece word rest
        → count < o.max_reserved_directive_params → left < bytes_of piece
        → WordTurn left count h (fails_at (DirectiveByteLimitExceeded limit) start)
    over_blanks : (piece word rest : List ℕ) (s : WordStands h.unread.text piece word rest)
        → o.max_reserved_directive_params ≤ count → left < bytes_of s.blanks
        → WordTurn left count h (fails_at (DirectiveByteLimitExceeded limit) start)
    many : (piece word rest : List ℕ) (s : WordStands h.unread.text piece word rest)
        → o.max_reserved_directive_params ≤ count → bytes_of s.blanks ≤ left
        → WordTurn left count h
        (fails_at (TooManyReservedDirectiveParams o.max_reserved_directive_params) start)

  -- ---- a turn, by its blanks and its word

  module _ (left count : ℕ) (h : Here) (blanks word rest : List ℕ)
      (a : All is_blank h.unread.text blanks (over blanks h).unread.text)
      (w : All is_yaml_non_space (over blanks h).unread.text word rest) where
    abbrev place : Here
    place = over blanks h

    -- what is given for a word
    abbrev given_word : Option Budget × Here → Result (Option (List (List ℕ)) × ParameterState) Fault
    given_word x = Ok (Some (text_up_to place x.1 ∷ []), record { here = x.1; budget = x.0; count = count + 1 })

    abbrev counted : Option Budget → Result (Option (List (List ℕ)) × ParameterState) Fault
    counted l =
        if nat_le o.max_reserved_directive_params count then fails_at
        (TooManyReservedDirectiveParams o.max_reserved_directive_params) start
        else word_up_to l start place (past is_yaml_non_space place) >>= given_word

    abbrev chain : ℕ → Result (Option (List (List ℕ)) × ParameterState) Fault
    chain k =
        if (k == 0 || next_char place == 0x23)
        || is_blank_or_breakz (next_char place) then Ok (None, reading left count place)
        else spent (budget left) k start >>= counted

    turn_is : parameter_turn o start (reading left count h) ≡ chain (length blanks)
    unfolding parameter_behind
    turn_is = ap (parameter_behind o start (reading left count h))
        (all_past is_blank no_blank_nul h blanks (over blanks h).unread.text a)
        ∙ ap chain (count_over blanks (over blanks h).unread.text h a.whole)

    word_is : (l : Option Budget) → (word_up_to l start place (past is_yaml_non_space place) >>= given_word)
        ≡ ((spent l (bytes_of word) start >>= λ left. Ok (left, over word place)) >>= given_word)
    word_is l =
        ap (λ (g : Here). word_up_to l start place g >>= given_word)
        (all_past is_yaml_non_space no_word_nul place word rest w)
        ∙ ap (λ (t : List ℕ). (spent l (bytes_of t) start >>= λ left. Ok (left, over word place)) >>= given_word)
        (text_over word rest place w.whole)

    abbrev stands : ends_words blanks place.unread.text ≡ false → WordStands h.unread.text (blanks ++ word) word rest
    stands n = record { blanks = blanks; behind = place.unread.text; parted = a; begins = n; is = w; source_is = refl }

    piece_bytes : bytes_of (blanks ++ word) ≡ length blanks + bytes_of word
    piece_bytes = bytes-append blanks word ∙ ap (λ n. n + bytes_of word) (blank_bytes blanks a.each)

    some_blank : (l t : List ℕ) → ends_words l t ≡ false → 0 < length l
    some_blank [] t n = absurd cc
    some_blank (c ∷ l) t n = omega arith

    -- behind the word
    after_word : ends_words blanks place.unread.text ≡ false → nat_lt left (length blanks) ≡ false
        → nat_le o.max_reserved_directive_params count ≡ false → (v : Bool)
        → nat_lt (left - length blanks) (bytes_of word) ≡ v
        → WordTurn left count h (((if v then fails_at (DirectiveByteLimitExceeded limit) start else Ok
        (budget ((left - length blanks) - bytes_of word))) >>= λ l. Ok (l, over word place)) >>= given_word)
    after_word n f m true e =
        let k = piece_bytes in
        long (blanks ++ word) word rest (stands n) (grind (arith, nat_tests)) (grind (arith, nat_tests))
    after_word n f m false e =
        let k = piece_bytes in
        let some = some_blank blanks place.unread.text n in
        let t : (over (blanks ++ word) h).unread.text
        ≡ rest = over_text (blanks ++ word) rest h
        (a.whole ∙ ap (λ (l : List ℕ). blanks ++ l) w.whole ∙ sym (append_assoc blanks word rest)) in
        let s : WordStands h.unread.text (blanks ++ word) word (over (blanks ++ word) h).unread.text =
        subst (WordStands h.unread.text (blanks ++ word) word) (sym t) (stands n) in
        let end : over (blanks ++ word) h ≡ over word place = over-append blanks word h in
        let fits : ((left - length blanks) - bytes_of word) + bytes_of (blanks ++ word)
        ≡ left = grind (arith, nat_tests) in
        let room : count < o.max_reserved_directive_params = grind (arith, nat_tests) in
        let longer : 0 < length (blanks ++ word) = omega (arith, length-append blanks word) in
        subst (λ (g : Here). WordTurn left count h
        (Ok (
          Some (text_up_to place (over word place) ∷ []),
          reading ((left - length blanks) - bytes_of word)
              (count + 1) g,
        ))) end
        (subst (λ (l : List ℕ). WordTurn left count h
        (Ok (
          Some (l ∷ []),
          reading ((left - length blanks) - bytes_of word) (count + 1)
              (over (blanks ++ word) h),
        ))) (sym (text_over word rest place w.whole))
        (took (blanks ++ word) word ((left - length blanks) - bytes_of word) s fits room longer))

    count_if : ends_words blanks place.unread.text ≡ false → nat_lt left (length blanks) ≡ false → (v : Bool)
        → nat_le o.max_reserved_directive_params count ≡ v
        → WordTurn left count h (if v then fails_at (TooManyReservedDirectiveParams o.max_reserved_directive_params)
        start else word_up_to (budget (left - length blanks)) start place (past is_yaml_non_space place) >>= given_word)
    count_if n f true e =
        let b = blank_bytes blanks a.each in
        many (blanks ++ word) word rest (stands n) (grind (arith, nat_tests)) (grind (arith, nat_tests))
    count_if n f false e = subst (WordTurn left count h) (sym (word_is (budget (left - length blanks))))
        (after_word n f e (nat_lt (left - length blanks) (bytes_of word)) refl)

    blanks_over : ends_words blanks place.unread.text ≡ false → nat_lt left (length blanks) ≡ true → (v : Bool)
        → nat_le o.max_reserved_directive_params count ≡ v
        → WordTurn left count h (fails_at (DirectiveByteLimitExceeded limit) start)
    blanks_over n f true e =
        let b = blank_bytes blanks a.each in
        over_blanks (blanks ++ word) word rest (stands n) (grind (arith, nat_tests)) (grind (arith, nat_tests))
    blanks_over n f false e =
        let k = piece_bytes in
        long (blanks ++ word) word rest (stands n) (grind (arith, nat_tests)) (grind (arith, nat_tests))

    blanks_if : ends_words blanks place.unread.text ≡ false → (v : Bool) → nat_lt left (length blanks) ≡ v
        → WordTurn left count h ((if v then fails_at (DirectiveByteLimitExceeded limit) start else Ok
        (budget (left - length blanks))) >>= counted)
    blanks_if n true e = blanks_over n e (nat_le o.max_reserved_directive_params count) refl
    blanks_if n false e = count_if n e (nat_le o.max_reserved_directive_params count) refl

    ends_if : (v : Bool) → ends_words blanks place.unread.text ≡ v
        → WordTurn left count h (if v then Ok (None, reading left count place) else spent (budget left) (length blanks)
        start >>= counted)
    ends_if true e = stop blanks (record { is = a; none = e })
    ends_if false e = blanks_if e (nat_lt left (length blanks)) refl

    turn_by : WordTurn left count h (parameter_turn o start (reading left count h))
    turn_by = subst (WordTurn left count h) (sym turn_is) (ends_if (ends_words blanks place.unread.text) refl)

    -- and what stands there is what the turn gives
    takes : ends_words blanks place.unread.text ≡ false → bytes_of (blanks ++ word) ≤ left
        → count < o.max_reserved_directive_params
        → parameter_turn o start (reading left count h)
        ≡ Ok (Some (word ∷ []), reading (left - bytes_of (blanks ++ word)) (count + 1) (over (blanks ++ word) h))
    takes n fits room =
        let k = piece_bytes in
        let f : nat_lt left (length blanks) ≡ false = grind (arith, nat_tests) in
        let m : nat_le o.max_reserved_directive_params count ≡ false = grind (arith, nat_tests) in
        let g : nat_lt (left - length blanks) (bytes_of word) ≡ false = grind (arith, nat_tests) in
        let same : (left - length blanks) - bytes_of word ≡ left - bytes_of (blanks ++ word) = omega arith in
        turn_is
        ∙ cond-false (ends_words blanks place.unread.text) _ _ n
        ∙ ap (λ (v : Bool). (if v then fails_at (DirectiveByteLimitExceeded limit) start else Ok
        (budget (left - length blanks))) >>= counted) f
        ∙ cond-false (nat_le o.max_reserved_directive_params count) _ _ m
        ∙ word_is (budget (left - length blanks))
        ∙ ap (λ (v : Bool). ((if v then fails_at (DirectiveByteLimitExceeded limit) start else Ok
        (budget ((left - length blanks) - bytes_of word))) >>= λ l. Ok (l, over word place)) >>= given_word) g
        ∙ ap (λ (l : List ℕ). Ok (
          Some (l ∷ []),
          reading ((left - length blanks) - bytes_of word) (count + 1)
              (over word place),
        )) (text_over word rest place w.whole)
        ∙ ap₂ (λ (x : ℕ) (i : Here). Ok (Some (word ∷ []), reading x (count + 1) i)) same
        (sym (over-append blanks word h))

    stops : ends_words blanks place.unread.text ≡ true
        → parameter_turn o start (reading left count h) ≡ Ok (None, reading left count (over blanks h))
    stops e = turn_is ∙ cond-true (ends_words blanks place.unread.text) _ _ e

    abbrev spent_blanks : Bool → Result (Option (List (List ℕ)) × ParameterState) Fault
    spent_blanks v = (if v then fails_at (DirectiveByteLimitExceeded limit) start else Ok
        (budget (left - length blanks))) >>= counted

    -- a word that is refused, for the limit or for its number
    wide_turn : ends_words blanks place.unread.text ≡ false → left < length blanks
        → parameter_turn o start (reading left count h) ≡ fails_at (DirectiveByteLimitExceeded limit) start
    wide_turn n l =
        let f : nat_lt left (length blanks) ≡ true = grind (arith, nat_tests) in
        turn_is ∙ cond-false (ends_words blanks place.unread.text) _ _ n ∙ ap spent_blanks f

    many_turn : ends_words blanks place.unread.text ≡ false → length blanks ≤ left
        → o.max_reserved_directive_params ≤ count
        → parameter_turn o start (reading left count h)
        ≡ fails_at (TooManyReservedDirectiveParams o.max_reserved_directive_params) start
    many_turn n l c =
        let f : nat_lt left (length blanks) ≡ false = grind (arith, nat_tests) in
        let m : nat_le o.max_reserved_directive_params count ≡ true = grind (arith, nat_tests) in
        turn_is ∙ cond-false (ends_words blanks place.unread.text) _ _ n ∙ ap spent_blanks f
        ∙ cond-true (nat_le o.max_reserved_directive_params count) _ _ m

    long_turn : ends_words blanks place.unread.text ≡ false → left < bytes_of (blanks ++ word)
        → count < o.max_reserved_directive_params
        → parameter_turn o start (reading left count h) ≡ fails_at (DirectiveByteLimitExceeded limit) start
    long_turn n l c = by (cases_lt left (length blanks))
      where
        by : (left < length blanks) ⊎ (length blanks ≤ left)
            → parameter_turn o start (reading left count h) ≡ fails_at (DirectiveByteLimitExceeded limit) start
        by (inl few) = wide_turn n few
        by (inr fits) =
            let k = piece_bytes in
            let f : nat_lt left (length blanks) ≡ false = grind (arith, nat_tests) in
            let m : nat_le o.max_reserved_directive_params count ≡ false = grind (arith, nat_tests) in
            let g : nat_lt (left - length blanks) (bytes_of word) ≡ true = grind (arith, nat_tests) in
            turn_is ∙ cond-false (ends_words blanks place.unread.text) _ _ n ∙ ap spent_blanks f
            ∙ cond-false (nat_le o.max_reserved_directive_params count) _ _ m
            ∙ word_is (budget (left - length blanks))
            ∙ ap (λ (v : Bool). ((if v then fails_at (DirectiveByteLimitExceeded limit) start else Ok
            (budget ((left - length blanks) - bytes_of word))) >>= λ l. Ok (l, over word place)) >>= given_word) g

  word_turn : (left count : ℕ) (h : Here) → WordTurn left count h (parameter_turn o start (reading left count h))
  word_turn left count h =
      let b = all_over is_blank no_blank_nul h in
      let w = all_over is_yaml_non_space no_word_nul (over b.0 h) in
      turn_by left count h b.0 w.0 (over w.0 (over b.0 h)).unread.text b.1 w.1

  -- ---- all words

  pub data WordsRead (left count : ℕ) (h : Here) : Result (List (List ℕ) × ParameterState) Fault → Type 0 where
    read : {after : ParameterState} (source blanks : List ℕ) (words : List (List ℕ))
        → WordsStand h.unread.text source words (over source h).unread.text
        → NoWord (over source h).unread.text blanks (over blanks (over source h)).unread.text
        → bytes_of source ≤ left → count + length words ≤ o.max_reserved_directive_params
        → after.here ≡ over (source ++ blanks) h → WordsRead left count h (Ok (words, after))
    too_long : (source piece word rest behind : List ℕ) (words : List (List ℕ))
        → WordsStand h.unread.text source words rest → WordStands rest piece word behind
        → count + length words < o.max_reserved_directive_params → left < bytes_of (source ++ piece)
        → WordsRead left count h (fails_at (DirectiveByteLimitExceeded limit) start)
    too_wide : (source piece word rest behind : List ℕ) (words : List (List ℕ))
        → WordsStand h.unread.text source words rest → (s : WordStands rest piece word behind)
        → count + length words ≡ o.max_reserved_directive_params → left < bytes_of (source ++ s.blanks)
        → WordsRead left count h (fails_at (DirectiveByteLimitExceeded limit) start)
    too_many : (source piece word rest behind : List ℕ) (words : List (List ℕ))
        → WordsStand h.unread.text source words rest → (s : WordStands rest piece word behind)
        → count + length words ≡ o.max_reserved_directive_params → bytes_of (source ++ s.blanks) ≤ left
        → WordsRead left count h (fails_at (TooManyReservedDirectiveParams o.max_reserved_directive_params) start)

  one_before : (left count more : ℕ) (h : Here) (front word : List ℕ)
      → WordStands h.unread.text front word (over front h).unread.text → more + bytes_of front ≡ left
      → (r : Result (List (List ℕ) × ParameterState) Fault) → WordsRead more (count + 1) (over front h) r
      → WordsRead left count h (with_front (word ∷ []) r)
  one_before left count more h front word s f r (read source blanks words t n b c l) =
      let g = sym (over-append front source h) in
      read (front ++ source) blanks (word ∷ words)
      (subst (λ (i : Here). WordsStand h.unread.text (front ++ source) (word ∷ words) i.unread.text) g (one_more s t))
      (subst (λ (i : Here). NoWord i.unread.text blanks (over blanks i).unread.text) g n)
      (omega (arith, bytes-append front source)) (omega arith)
      (l ∙ sym (over-append front (source ++ blanks) h)
      ∙ ap (λ (k : List ℕ). over k h) (sym (append_assoc front source blanks)))
  one_before left count more h front word s f r (too_long source piece last rest behind words t p c l) =
      too_long (front ++ source) piece last rest behind (word ∷ words) (one_more s t) p (omega arith)
      (omega (arith, bytes-append front source, bytes-append source piece, bytes-append (front ++ source) piece))
  one_before left count more h front word s f r (too_wide source piece last rest behind words t p c l) =
      let b = p.blanks in
      too_wide (front ++ source) piece last rest behind (word ∷ words) (one_more s t) p (omega arith)
      (omega (arith, bytes-append front source, bytes-append source b, bytes-append (front ++ source) b))
  one_before left count more h front word s f r (too_many source piece last rest behind words t p c l) =
      let b = p.blanks in
      too_many (front ++ source) piece last rest behind (word ∷ words) (one_more s t) p (omega arith)
      (omega (arith, bytes-append front source, bytes-append source b, bytes-append (front ++ source) b))

  less : (h : Here) (front : List ℕ) (n : ℕ) → 0 < length front → h.unread.text ≡ front ++ (over front h).unread.text
      → text_len h < suc n → text_len (over front h) < n
  less h front n some t l = let e : text_len h ≡ length front + text_len (over front h) = ap (length {A = ℕ}) t
      ∙ length-append front (over front h).unread.text in omega arith

  word_whole : (text piece word rest : List ℕ) → WordStands text piece word rest → text ≡ piece ++ rest
  word_whole text piece word rest s = s.parted.whole ∙ ap (λ (l : List ℕ). s.blanks ++ l) s.is.whole
      ∙ sym (append_assoc s.blanks word rest) ∙ ap (λ (l : List ℕ). l ++ rest) (sym s.source_is)

  turn_reads : (n left count : ℕ) (h : Here) → text_len h < suc n → count ≤ o.max_reserved_directive_params
      → ((l c : ℕ) (g : Here) → text_len g < n → c ≤ o.max_reserved_directive_params
      → WordsRead l c g (turns (parameter_turn o start) n (reading l c g)))
      → (r : Result (Option (List (List ℕ)) × ParameterState) Fault) → WordTurn left count h r
      → WordsRead left count h (r >>= λ x. then_more (turns (parameter_turn o start) n) x.0 x.1)
  turn_reads n left count h l c more r (stop blanks s) = read [] blanks [] no_more s (omega arith) (omega arith) refl
  turn_reads n left count h l c more r (took piece word rest s f m some) =
      one_before left count rest h piece word s f _
      (more rest (count + 1) (over piece h)
      (less h piece n some (word_whole h.unread.text piece word (over piece h).unread.text s) l) (omega arith))
  turn_reads n left count h l c more r (long piece word rest s k f) =
      too_long [] piece word h.unread.text rest [] no_more s (omega arith) f
  turn_reads n left count h l c more r (over_blanks piece word rest s k f) =
      too_wide [] piece word h.unread.text rest [] no_more s (omega arith) f
  turn_reads n left count h l c more r (many piece word rest s k f) =
      too_many [] piece word h.unread.text rest [] no_more s (omega arith) f

  turns_read : (n left count : ℕ) (h : Here) → text_len h < n → count ≤ o.max_reserved_directive_params
      → WordsRead left count h (turns (parameter_turn o start) n (reading left count h))
  unfolding turns
  turns_read zero left count h l c = absurd (omega arith)
  turns_read (suc n) left count h l c = turn_reads n left count h l c (λ a b g m k. turns_read n a b g m k)
      (parameter_turn o start (reading left count h)) (word_turn left count h)

  pub words_read : (left : ℕ) (h : Here) → WordsRead left 0 h
      (pieces parameters_len (parameter_turn o start) (reading left 0 h))
  unfolding pieces
  words_read left h = turns_read (suc (text_len h)) left 0 h (omega arith) (omega arith)

  -- ---- words that stand there are read

  turns_are : (n left count : ℕ) (source blanks more rest : List ℕ) (words : List (List ℕ)) (h : Here) (text : List ℕ)
      → h.unread.text ≡ text → WordsStand text source words more → NoWord more blanks rest → bytes_of source ≤ left
      → count + length words ≤ o.max_reserved_directive_params → text_len h < n
      → (left_over : ℕ) × (c : ℕ) × (turns (parameter_turn o start) n (reading left count h)
      ≡ Ok (words, reading left_over c (over (source ++ blanks) h)))
  unfolding turns
  turns_are zero left count source blanks more rest words h text is s n b c l = absurd (omega arith)
  turns_are (suc k) left count source blanks more rest words h text is no_more n b c l =
      let a : All is_blank h.unread.text blanks rest = subst (λ (t : List ℕ). All is_blank t blanks rest) (sym is)
      n.is in
      let t : (over blanks h).unread.text ≡ rest = over_text blanks rest h a.whole in
      let w = all_over is_yaml_non_space no_word_nul (over blanks h) in (
        left,
        count,
        ap (λ r. r >>= λ x. then_more (turns (parameter_turn o start) k) x.0 x.1)
            (stops left count h blanks w.0 (over w.0 (over blanks h)).unread.text
            (subst (All is_blank h.unread.text blanks) (sym t) a) w.1 (ap (ends_words blanks) t ∙ n.none)),
      )
  turns_are (suc k) left count source blanks more rest words h text is
      (one_more {piece} {word} {behind} {source = others} {words = further} s p) n b c l =
      let whole : h.unread.text ≡ piece ++ behind = is ∙ word_whole text piece word behind s in
      let a : All is_blank h.unread.text s.blanks s.behind = subst (λ (t : List ℕ). All is_blank t s.blanks s.behind)
      (sym is) s.parted in
      let t : (over s.blanks h).unread.text ≡ s.behind = over_text s.blanks s.behind h a.whole in
      let i : (s.blanks ++ word) ≡ piece = sym s.source_is in
      let u : (over piece h).unread.text ≡ behind = over_text piece behind h whole in
      let sum = bytes-append piece others in
      let some = some_blank left count h s.blanks word behind (subst (All is_blank h.unread.text s.blanks) (sym t) a)
      (subst (λ (x : List ℕ). All is_yaml_non_space x word behind) (sym t) s.is) s.blanks s.behind s.begins in
      let longer : 0 < length piece = omega (arith, ap (length {A = ℕ}) s.source_is, length-append s.blanks word) in
      let same : bytes_of (s.blanks ++ word) ≡ bytes_of piece = ap bytes_of i in
      let turn = takes left count h s.blanks word behind (subst (All is_blank h.unread.text s.blanks) (sym t) a)
      (subst (λ (x : List ℕ). All is_yaml_non_space x word behind) (sym t) s.is)
      (ap (ends_words s.blanks) t ∙ s.begins) (omega arith) (omega arith) in
      let m : text_len (over piece h) < k = less h piece k longer (whole ∙ ap (λ (x : List ℕ). piece ++ x) (sym u)) l in
      let next = turns_are k (left - bytes_of piece) (count + 1) others blanks more rest further (over piece h) behind u
      p n (omega arith) (omega arith) m in (
        next.0,
        next.1,
        ap (λ r. r >>= λ x. then_more (turns (parameter_turn o start) k) x.0 x.1)
            (turn ∙ ap (λ (x : List ℕ). Ok (Some (word ∷ []), reading (left - bytes_of x) (count + 1) (over x h))) i)
            ∙ ap (with_front (word ∷ [])) next.2
            ∙ ap (λ (g : Here). Ok (word ∷ further, reading next.0 next.1 g))
            (sym (over-append piece (others ++ blanks) h)
            ∙ ap (λ (x : List ℕ). over x h) (sym (append_assoc piece others blanks))),
      )

  pub reserved_is : (left : ℕ) (name source blanks more rest : List ℕ) (words : List (List ℕ)) (h : Here)
      → WordsStand h.unread.text source words more → NoWord more blanks rest → bytes_of source ≤ left
      → length words ≤ o.max_reserved_directive_params
      → reserved_directive o (budget left) start name h ≡ Ok (Reserved name words, over (source ++ blanks) h)
  unfolding pieces
  reserved_is left name source blanks more rest words h s n b c =
      let t = turns_are (suc (text_len h)) left 0 source blanks more rest words h h.unread.text refl s n b (omega arith)
      (omega arith) in
      ap (λ r. r >>= λ x. Ok (Reserved name x.0, x.1.here)) t.2

  -- ---- words that are refused

  module _ (left count : ℕ) (h : Here) (piece word behind : List ℕ) (s : WordStands h.unread.text piece word behind)
    where
      blanks_text : (over s.blanks h).unread.text ≡ s.behind
      blanks_text = over_text s.blanks s.behind h s.parted.whole

      blanks_there : All is_blank h.unread.text s.blanks (over s.blanks h).unread.text
      blanks_there = subst (All is_blank h.unread.text s.blanks) (sym blanks_text) s.parted

      word_there : All is_yaml_non_space (over s.blanks h).unread.text word behind
      word_there = subst (λ (x : List ℕ). All is_yaml_non_space x word behind) (sym blanks_text) s.is

      begins_word : ends_words s.blanks (over s.blanks h).unread.text ≡ false
      begins_word = ap (ends_words s.blanks) blanks_text ∙ s.begins

      piece_is : bytes_of piece ≡ bytes_of (s.blanks ++ word)
      piece_is = ap bytes_of s.source_is

      piece_longer : 0 < length piece
      piece_longer =
          let some = some_blank left count h s.blanks word behind blanks_there word_there s.blanks
          (over s.blanks h).unread.text begins_word in
          omega (arith, ap (length {A = ℕ}) s.source_is, length-append s.blanks word)

      taken_here : bytes_of piece ≤ left → count < o.max_reserved_directive_params
          → parameter_turn o start (reading left count h)
          ≡ Ok (Some (word ∷ []), reading (left - bytes_of piece) (count + 1) (over piece h))
      taken_here l c =
          let k = piece_is in
          takes left count h s.blanks word behind blanks_there word_there begins_word (omega arith) c
          ∙ ap (λ (x : List ℕ). Ok (Some (word ∷ []), reading (left - bytes_of x) (count + 1) (over x h)))
          (sym s.source_is)

      pub long_here : left < bytes_of piece → count < o.max_reserved_directive_params
          → parameter_turn o start (reading left count h) ≡ fails_at (DirectiveByteLimitExceeded limit) start
      long_here l c = let k = piece_is in
          long_turn left count h s.blanks word behind blanks_there word_there begins_word (omega arith) c

      pub wide_here : left < bytes_of s.blanks
          → parameter_turn o start (reading left count h) ≡ fails_at (DirectiveByteLimitExceeded limit) start
      wide_here l = let b = blank_bytes s.blanks s.parted.each in
          wide_turn left count h s.blanks word behind blanks_there word_there begins_word (omega arith)

      pub many_here : bytes_of s.blanks ≤ left → o.max_reserved_directive_params ≤ count
          → parameter_turn o start (reading left count h)
          ≡ fails_at (TooManyReservedDirectiveParams o.max_reserved_directive_params) start
      many_here l c = let b = blank_bytes s.blanks s.parted.each in
          many_turn left count h s.blanks word behind blanks_there word_there begins_word (omega arith) c

  abbrev then_turns : ℕ → Option (List (List ℕ)) × ParameterState → Result (List (List ℕ) × ParameterState) Fault
  then_turns k x = then_more (turns (parameter_turn o start) k) x.0 x.1

  turns_end : (n left count : ℕ) (source rest : List ℕ) (words : List (List ℕ)) (f : Fault) (h : Here) (text : List ℕ)
      → h.unread.text ≡ text → WordsStand text source words rest → bytes_of source ≤ left
      → count + length words ≤ o.max_reserved_directive_params → text_len h < n
      → ((i c : ℕ) (g : Here) → i + bytes_of source ≡ left → c ≡ count + length words → g.unread.text ≡ rest
      → parameter_turn o start (reading i c g) ≡ Err f)
      → turns (parameter_turn o start) n (reading left count h) ≡ Err f
  unfolding turns
  turns_end zero left count source rest words f h text is s b c l w = absurd (omega arith)
  turns_end (suc k) left count source rest words f h text is no_more b c l w =
      ap (λ r. r >>= then_turns k) (w left count h (omega arith) (omega arith) is)
  turns_end (suc k) left count source rest words f h text is
      (one_more {piece} {word} {behind} {source = others} {words = further} s p) b c l w =
      let s₁ = subst (λ (t : List ℕ). WordStands t piece word behind) (sym is) s in
      let whole : h.unread.text ≡ piece ++ behind = is ∙ word_whole text piece word behind s in
      let u : (over piece h).unread.text ≡ behind = over_text piece behind h whole in
      let sum = bytes-append piece others in
      let longer = piece_longer left count h piece word behind s₁ in
      let m : text_len (over piece h) < k =
      less h piece k longer (whole ∙ ap (λ (x : List ℕ). piece ++ x) (sym u)) l in
      ap (λ r. r >>= then_turns k) (taken_here left count h piece word behind s₁ (omega arith) (omega arith))
      ∙ ap (with_front (word ∷ []))
      (turns_end k (left - bytes_of piece) (count + 1) others rest further f (over piece h) behind u p (omega arith)
      (omega arith) m (λ i c g e d t. w i c g (omega arith) (omega arith) t))

  turns_over : (n left count : ℕ) (source rest : List ℕ) (words : List (List ℕ)) (h : Here) (text : List ℕ)
      → h.unread.text ≡ text → WordsStand text source words rest → left < bytes_of source
      → count + length words ≤ o.max_reserved_directive_params → text_len h < n
      → turns (parameter_turn o start) n (reading left count h) ≡ fails_at (DirectiveByteLimitExceeded limit) start
  unfolding turns
  turns_over zero left count source rest words h text is s b c l = absurd (omega arith)
  turns_over (suc k) left count source rest words h text is no_more b c l = absurd (omega arith)
  turns_over (suc k) left count source rest words h text is
      (one_more {piece} {word} {behind} {source = others} {words = further} s p) b c l =
      let s₁ = subst (λ (t : List ℕ). WordStands t piece word behind) (sym is) s in
      let whole : h.unread.text ≡ piece ++ behind = is ∙ word_whole text piece word behind s in
      let u : (over piece h).unread.text ≡ behind = over_text piece behind h whole in
      let sum = bytes-append piece others in
      let longer = piece_longer left count h piece word behind s₁ in
      let m : text_len (over piece h) < k =
      less h piece k longer (whole ∙ ap (λ (x : List ℕ). piece ++ x) (sym u)) l in
      let room : count < o.max_reserved_directive_params = omega arith in
      by s₁ room
      (λ fits. turns_over k (left - bytes_of piece) (count + 1) others rest further (over piece h) behind u p
      (omega (arith, fits)) (omega arith) m) (cases_lt left (bytes_of piece))
    where
      by : WordStands h.unread.text piece word behind → count < o.max_reserved_directive_params
          → (bytes_of piece ≤ left → turns (parameter_turn o start) k
          (reading (left - bytes_of piece) (count + 1) (over piece h))
          ≡ fails_at (DirectiveByteLimitExceeded limit) start)
          → (left < bytes_of piece) ⊎ (bytes_of piece ≤ left)
          → turns (parameter_turn o start) (suc k) (reading left count h)
          ≡ fails_at (DirectiveByteLimitExceeded limit) start
      by s₁ room more (inl passed) =
          ap (λ r. r >>= then_turns k) (long_here left count h piece word behind s₁ passed room)
      by s₁ room more (inr fits) =
          ap (λ r. r >>= then_turns k) (taken_here left count h piece word behind s₁ fits room)
          ∙ ap (with_front (word ∷ [])) (more fits)

  pub reserved_fails : (left : ℕ) (name source rest : List ℕ) (words : List (List ℕ)) (f : Fault) (h : Here)
      → WordsStand h.unread.text source words rest → bytes_of source ≤ left
      → length words ≤ o.max_reserved_directive_params
      → ((i c : ℕ) (g : Here) → i + bytes_of source ≡ left → c ≡ length words → g.unread.text ≡ rest
      → parameter_turn o start (reading i c g) ≡ Err f)
      → reserved_directive o (budget left) start name h ≡ Err f
  unfolding pieces
  reserved_fails left name source rest words f h s b c w =
      ap (λ r. r >>= λ x. Ok (Reserved name x.0, x.1.here))
      (turns_end (suc (text_len h)) left 0 source rest words f h h.unread.text refl s b (omega arith) (omega arith)
      (λ i c g e d t. w i c g e (omega (arith, d)) t))

  pub reserved_over : (left : ℕ) (name source rest : List ℕ) (words : List (List ℕ)) (h : Here)
      → WordsStand h.unread.text source words rest → left < bytes_of source
      → length words ≤ o.max_reserved_directive_params
      → reserved_directive o (budget left) start name h ≡ fails_at (DirectiveByteLimitExceeded limit) start
  unfolding pieces
  reserved_over left name source rest words h s b c =
      ap (λ r. r >>= λ x. Ok (Reserved name x.0, x.1.here))
      (turns_over (suc (text_len h)) left 0 source rest words h h.unread.text refl s b (omega arith) (omega arith))

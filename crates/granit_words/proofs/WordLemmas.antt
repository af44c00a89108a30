-- What the words of the program say: right words say options, and no others are read as right.
use Rattle.std.proofs.Common.{◌≡◌, ◌⊎◌, inl, inr, ℕ, zero, suc, ◌+◌, ◌<◌, ◌≤◌, Bool, true, false, ◌==◌, ◌||◌, List, []}
use Rattle.std.proofs.Common.{◌∷◌, ◌++◌, length, take, drop, get_or, set, codes, Option, Some, None, refl, sym, ap, ap₂}
use Rattle.std.proofs.Common.{subst, ◌∙◌, arith}
use Rattle.std.specs.Prelude.{if◌then◌else◌, nat_eq, replicate, IfNone, IfSome}
use Rattle.std.specs.Fmt.{decimal}
use Rattle.std.specs.Str.Parse.{digits_value}
use Rattle.std.specs.Option.{option_map}
use Rattle.std.specs.Str.{encode_utf8_all}
use Rattle.std.specs.Cmp.Lexicographic.{pointwise, bytes_decides}
use Rattle.std.proofs.lemmas.Bool.{eqb-true, eqb-false, eq-eqb, or_from, or_parts}
use Rattle.std.proofs.lemmas.List.{append_cancel_left, get_or-map, get_or-set_same, get_or-set_other, length-map}
use Rattle.std.proofs.lemmas.List.{length-take-le, take_all}
use Rattle.std.proofs.Math.Seq.{take-suc, split_at}
use Rattle.granit_base.specs.Written.{Written}
use Rattle.granit_error.specs.OptionsData.{OptionsData, default_options}
use Rattle.granit_words.proofs.AskLemmas.{spelled_length}
use Rattle.granit_words.specs.Words.{switch_text, word_of, IsNumber, Fits, IsSaidBy, set_in, option_of, sets, AreSaidBy}
use Rattle.granit_words.specs.Words.{SetOnce, set_all, Say, AreInGrammar, GoWrongAt, spelled}
use Rattle.granit_words.specs.declared.words.Setting.{Setting}
use Rattle.granit_words.specs.declared.words.Setting.TheVariants as setting
use Rattle.granit_words.proofs.NumberLemmas.{decimal_value}

-- ---- a word says one setting

behind : List ℕ → List ℕ → Option (List ℕ)
behind [] x = Some x
behind (c ∷ front) [] = None
behind (c ∷ front) (d ∷ x) = if d == c then behind front x else None

or_else : Option Setting → Option Setting → Option Setting
or_else None more = more
or_else (Some s) more = Some s

is_on : List ℕ → Bool
is_on (c ∷ d ∷ []) = true
is_on _ = false

switched : List ℕ → (Bool → Setting) → List ℕ → Option Setting
switched name make w = option_map (λ v. make (is_on v)) (behind name w)

numbered : List ℕ → (ℕ → Setting) → List ℕ → Option Setting
numbered name make w = option_map (λ v. make (digits_value 10 v)) (behind name w)

-- a setting whose word may be that
heard : List ℕ → Option Setting
heard w =
    or_else (switched (codes "strict=") setting.StrictIndentation w)
    (or_else (switched (codes "no-directives=") setting.DisallowDirectives w)
    (or_else (switched (codes "unresolved=") setting.EmitUnresolvedAliases w)
    (or_else (switched (codes "anchors=") setting.EmitAnchorEvents w)
    (or_else (switched (codes "comments=") setting.EmitComments w)
    (or_else (numbered (codes "max-comments=") setting.MaxBufferedCommentEvents w)
    (or_else (numbered (codes "key-lookahead=") setting.SimpleKeyMaxLookahead w)
    (or_else (numbered (codes "flow-limit=") setting.FlowNestingLimit w)
    (or_else (numbered (codes "block-limit=") setting.BlockNestingLimit w)
    (or_else (numbered (codes "directive-bytes=") setting.MaxDirectiveBytes w)
    (numbered (codes "directive-params=") setting.MaxReservedDirectiveParams w))))))))))

heard_word : (s : Setting) → Fits s → heard (word_of s) ≡ Some s
unfolding heard or_else switched behind is_on numbered
heard_word (setting.StrictIndentation true) h = refl
heard_word (setting.StrictIndentation false) h = refl
heard_word (setting.DisallowDirectives true) h = refl
heard_word (setting.DisallowDirectives false) h = refl
heard_word (setting.EmitUnresolvedAliases true) h = refl
heard_word (setting.EmitUnresolvedAliases false) h = refl
heard_word (setting.EmitAnchorEvents true) h = refl
heard_word (setting.EmitAnchorEvents false) h = refl
heard_word (setting.EmitComments true) h = refl
heard_word (setting.EmitComments false) h = refl
heard_word (setting.MaxBufferedCommentEvents n) h =
    ap (λ (m : ℕ). Some (setting.MaxBufferedCommentEvents m)) (decimal_value n h)
heard_word (setting.SimpleKeyMaxLookahead n) h =
    ap (λ (m : ℕ). Some (setting.SimpleKeyMaxLookahead m)) (decimal_value n h)
heard_word (setting.FlowNestingLimit n) h =
    ap (λ (m : ℕ). Some (setting.FlowNestingLimit m)) (decimal_value n h)
heard_word (setting.BlockNestingLimit n) h =
    ap (λ (m : ℕ). Some (setting.BlockNestingLimit m)) (decimal_value n h)
heard_word (setting.MaxDirectiveBytes n) h =
    ap (λ (m : ℕ). Some (setting.MaxDirectiveBytes m)) (decimal_value n h)
heard_word (setting.MaxReservedDirectiveParams n) h =
    ap (λ (m : ℕ). Some (setting.MaxReservedDirectiveParams m)) (decimal_value n h)

some_same : (s t : Setting) → ◌≡◌ {A = Option Setting} (Some s) (Some t) → s ≡ t
some_same s t e = cc

one_setting : (s t : Setting) (w : List ℕ) → IsSaidBy s w → IsSaidBy t w → s ≡ t
one_setting s t w p q = some_same s t
    (sym (heard_word s p.0) ∙ ap heard (sym p.1 ∙ q.1) ∙ heard_word t q.0)

-- ---- words say one list of settings

same_settings : (ss ts : List Setting) (ws : List (List ℕ)) → AreSaidBy ss ws → AreSaidBy ts ws → ss ≡ ts
same_settings [] [] [] p q = refl
same_settings [] (t ∷ ts) [] p q = absurd q
same_settings (s ∷ ss) ts [] p q = absurd p
same_settings [] ts (w ∷ ws) p q = absurd p
same_settings (s ∷ ss) [] (w ∷ ws) p q = absurd q
same_settings (s ∷ ss) (t ∷ ts) (w ∷ ws) p q =
    ap₂ (λ (x : Setting) (xs : List Setting). x ∷ xs) (one_setting s t w p.0 q.0) (same_settings ss ts ws p.1 q.1)

tails : (a b : List (List ℕ)) (w : List ℕ) → ◌≡◌ {A = List (List ℕ)} (w ∷ a) (w ∷ b) → a ≡ b
tails a b w e = cc

-- right words say one choice of options
pub say_one : (ws : List (List ℕ)) (o p : OptionsData) → Say ws o → Say ws p → o ≡ p
say_one ws o p a b =
    let same_words = tails a.options b.options (codes "events") (sym a.begin ∙ b.begin) in
    let those = subst (λ (xs : List (List ℕ)). AreSaidBy a.settings xs) same_words a.said in
    let same = same_settings a.settings b.settings b.options those b.said in
    a.are ∙ ap (λ (ss : List Setting). set_all ss default_options) same ∙ sym b.are

-- ---- one word more

said_more : (ss : List Setting) (ws : List (List ℕ)) (s : Setting) (w : List ℕ) → AreSaidBy ss ws → IsSaidBy s w
    → AreSaidBy (ss ++ s ∷ []) (ws ++ w ∷ [])
said_more [] [] s w p q = (q, tt)
said_more [] (v ∷ ws) s w p q = absurd p
said_more (t ∷ ss) [] s w p q = absurd p
said_more (t ∷ ss) (v ∷ ws) s w p q = (p.0, said_more ss ws s w p.1 q)

sets_more : (ss : List Setting) (s : Setting) (k : ℕ) → sets (ss ++ s ∷ []) k ≡ (sets ss k || (option_of s == k))
sets_more [] s k = or_false (option_of s == k)
  where
    or_false : (b : Bool) → (b || false) ≡ b
    or_false true = refl
    or_false false = refl
sets_more (t ∷ ss) s k = ap (λ (b : Bool). (option_of t == k) || b) (sets_more ss s k)
    ∙ or_assoc (option_of t == k) (sets ss k) (option_of s == k)
  where
    or_assoc : (a b d : Bool) → (a || (b || d)) ≡ ((a || b) || d)
    or_assoc true b d = refl
    or_assoc false b d = refl

other_way : (j k : ℕ) → (j == k) ≡ (k == j)
other_way j k = on_test (j == k) refl
  where
    on_test : (v : Bool) → (j == k) ≡ v → v ≡ (k == j)
    on_test true e = sym (eq-eqb k j (sym (eqb-true j k e)))
    on_test false e = sym (on_other (k == j) refl)
      where
        on_other : (u : Bool) → (k == j) ≡ u → u ≡ false
        on_other true d = absurd (eqb-false j k e (sym (eqb-true k j d)))
        on_other false d = refl

once_more : (ss : List Setting) (s : Setting) → SetOnce ss → sets ss (option_of s) ≡ false → SetOnce (ss ++ s ∷ [])
once_more [] s p q = (refl, tt)
once_more (t ∷ ss) s p q =
    let front = (or_parts (option_of t == option_of s) (sets ss (option_of s)) q).0 in (
      sets_more ss s (option_of t) ∙ or_from (sets ss (option_of t)) (option_of s == option_of t) p.0
          (other_way (option_of s) (option_of t) ∙ front),
      once_more ss s p.1 (or_parts (option_of t == option_of s) (sets ss (option_of s)) q).1,
    )

once_last : (ss : List Setting) (s : Setting) → SetOnce (ss ++ s ∷ []) → sets ss (option_of s) ≡ false
once_last [] s p = refl
once_last (t ∷ ss) s p = or_from (option_of t == option_of s) (sets ss (option_of s))
    (other_way (option_of t) (option_of s)
    ∙ (or_parts (sets ss (option_of t)) (option_of s == option_of t) (sym (sets_more ss s (option_of t)) ∙ p.0)).1)
    (once_last ss s p.1)

set_more : (ss : List Setting) (s : Setting) (o : OptionsData) → set_all (ss ++ s ∷ []) o ≡ set_in s (set_all ss o)
set_more [] s o = refl
set_more (t ∷ ss) s o = set_more ss s (set_in t o)

-- ---- one word

pub told : {A : Type 0} (P : Type 0) (r : Option A) → P → IfNone r P
told P None p = p
told P (Some x) p = tt

pub none_of : {A : Type 0} (P : Type 0) (r : Option A) → IfNone r P → ((x : A) → r ≡ Some x → ⊥) → P
none_of P None p n = p
none_of P (Some x) p n = absurd (n x refl)

pub no_number : (w name v : List ℕ) (r : Option ℕ) → w ≡ name ++ v
    → IfNone r ((n : ℕ) → IsNumber n → v ≡ decimal n → ⊥)
    → IfNone r ((n : ℕ) → IsNumber n → w ≡ name ++ decimal n → ⊥)
no_number w name v (Some n) e h = tt
no_number w name v None e h = λ n small is. h n small (append_cancel_left name v (decimal n) (sym e ∙ is))

pub no_switch_text : (w name v : List ℕ) (a b : Bool) → w ≡ name ++ v → a ≡ pointwise nat_eq v (codes "on") → a ≡ false
    → b ≡ pointwise nat_eq v (codes "off") → b ≡ false → (on : Bool) → w ≡ name ++ switch_text on → ⊥
no_switch_text w name v a b e p f q g true is =
    let t = (bytes_decides v (codes "on")).1 (append_cancel_left name v (codes "on") (sym e ∙ is)) in
    let never : true ≡ false = sym t ∙ sym p ∙ f in cc
no_switch_text w name v a b e p f q g false is =
    let t = (bytes_decides v (codes "off")).1 (append_cancel_left name v (codes "off") (sym e ∙ is)) in
    let never : true ≡ false = sym t ∙ sym q ∙ g in cc

abbrev pub NoSwitch : List ℕ → List ℕ → Type 0
NoSwitch w name = (on : Bool) → w ≡ name ++ switch_text on → ⊥

abbrev pub NoNumber : List ℕ → List ℕ → Type 0
NoNumber w name = (n : ℕ) → IsNumber n → w ≡ name ++ decimal n → ⊥

pub no_switch : (w : List ℕ) → NoSwitch w (codes "strict=") → NoSwitch w (codes "no-directives=")
    → NoSwitch w (codes "unresolved=") → NoSwitch w (codes "anchors=") → NoSwitch w (codes "comments=")
    → (s : Setting) → option_of s < 5 → IsSaidBy s w → ⊥
no_switch w strict directives aliases anchors comments (setting.StrictIndentation on) l h = strict on h.1
no_switch w strict directives aliases anchors comments (setting.DisallowDirectives on) l h = directives on h.1
no_switch w strict directives aliases anchors comments (setting.EmitUnresolvedAliases on) l h = aliases on h.1
no_switch w strict directives aliases anchors comments (setting.EmitAnchorEvents on) l h = anchors on h.1
no_switch w strict directives aliases anchors comments (setting.EmitComments on) l h = comments on h.1
no_switch w strict directives aliases anchors comments _ l h = absurd (omega (arith, l))

pub no_limit : (w : List ℕ) → NoNumber w (codes "max-comments=") → NoNumber w (codes "key-lookahead=")
    → NoNumber w (codes "flow-limit=") → NoNumber w (codes "block-limit=") → NoNumber w (codes "directive-bytes=")
    → NoNumber w (codes "directive-params=") → (s : Setting) → 5 ≤ option_of s → IsSaidBy s w → ⊥
no_limit w comments lookahead flow block bytes params (setting.MaxBufferedCommentEvents n) l h = comments n h.0 h.1
no_limit w comments lookahead flow block bytes params (setting.SimpleKeyMaxLookahead n) l h = lookahead n h.0 h.1
no_limit w comments lookahead flow block bytes params (setting.FlowNestingLimit n) l h = flow n h.0 h.1
no_limit w comments lookahead flow block bytes params (setting.BlockNestingLimit n) l h = block n h.0 h.1
no_limit w comments lookahead flow block bytes params (setting.MaxDirectiveBytes n) l h = bytes n h.0 h.1
no_limit w comments lookahead flow block bytes params (setting.MaxReservedDirectiveParams n) l h = params n h.0 h.1
no_limit w comments lookahead flow block bytes params _ l h = absurd (omega (arith, l))

below_or_above : (k : ℕ) → (k < 5) ⊎ (5 ≤ k)
below_or_above zero = inl (omega arith)
below_or_above (suc zero) = inl (omega arith)
below_or_above (suc (suc zero)) = inl (omega arith)
below_or_above (suc (suc (suc zero))) = inl (omega arith)
below_or_above (suc (suc (suc (suc zero)))) = inl (omega arith)
below_or_above (suc (suc (suc (suc (suc k))))) = inr (omega arith)

neither :
    (s : Setting) (w : List ℕ) → ((s : Setting) → option_of s < 5 → IsSaidBy s w → ⊥) →
    ((s : Setting) → 5 ≤ option_of s → IsSaidBy s w → ⊥) → (option_of s < 5) ⊎ (5 ≤ option_of s) →
    IsSaidBy s w → ⊥
neither s w a b (inl l) h = a s l h
neither s w a b (inr l) h = b s l h

pub not_said : (v w : List ℕ) (r : Option Setting) → v ≡ w → ((s : Setting) → option_of s < 5 → IsSaidBy s v → ⊥)
    → IfNone r ((s : Setting) → 5 ≤ option_of s → IsSaidBy s v → ⊥) → IfNone r ((s : Setting) → IsSaidBy s w → ⊥)
not_said v w (Some s) e a b = tt
not_said v w None e a b =
    λ s h. neither s v a b (below_or_above (option_of s)) (subst (λ (x : List ℕ). IsSaidBy s x) (sym e) h)

pub is_said : (v w : List ℕ) (s : Setting) → v ≡ w → IsSaidBy s v → IsSaidBy s w
is_said v w s e h = subst (λ (x : List ℕ). IsSaidBy s x) e h

pub may_be_said : (v w : List ℕ) (r : Option Setting) → v ≡ w → IfSome r (λ s. IsSaidBy s v)
    → IfSome r (λ s. IsSaidBy s w)
may_be_said v w None e h = tt
may_be_said v w (Some s) e h = is_said v w s e h

pub is_text : (v : Bool) (a b s : List ℕ) → s ≡ a → v ≡ pointwise nat_eq s b → v ≡ true → a ≡ b
is_text v a b s e p t = sym e ∙ (bytes_decides s b).0 (sym p ∙ t)

pub is_no_text : (v : Bool) (a b s : List ℕ) → s ≡ a → v ≡ pointwise nat_eq s b → v ≡ false → a ≡ b → ⊥
is_no_text v a b s e p f is =
    let t = (bytes_decides s b).1 (e ∙ is) in
    let never : true ≡ false = sym t ∙ sym p ∙ f in cc

-- ---- the words that were read

-- the words say the options, and the flags tell which are set
pub record Reaches (words : List (List ℕ)) (flags : List Bool) (o : OptionsData) : Type 0 where
  pub say : Say words o
  pub flags_are : (k : ℕ) → get_or flags k false ≡ sets say.settings k

none_set : (n k : ℕ) → get_or (replicate n false) k false ≡ false
none_set zero k = refl
none_set (suc n) zero = refl
none_set (suc n) (suc k) = none_set n k

pub reaches_start : (words : List Written) (w : Written) (n : ℕ) (o : OptionsData) → 0 < length words
    → w ≡ get_or words 0 w → encode_utf8_all w.characters ≡ codes "events" → o ≡ default_options
    → Reaches (take 1 (spelled words)) (replicate n false) o
reaches_start words w n o some is events e =
    record {
      say = record {
        settings = [];
        options = [];
        begin =
            take-suc (spelled words) 0 [] (omega
            (arith, some, length-map words (λ (v : Written). encode_utf8_all v.characters)))
            ∙ ap (λ (x : List ℕ). x ∷ []) (get_or-map (λ (v : Written). encode_utf8_all v.characters) words 0 w [] some
            ∙ ap (λ (v : Written). encode_utf8_all v.characters) (sym is) ∙ events);
        said = tt;
        once = tt;
        are = e;
      };
      flags_are = λ k. none_set n k;
    }

spelled_at : (words : List Written) (w : Written) (i : ℕ) → i < length words → w ≡ get_or words i w
    → get_or (spelled words) i [] ≡ encode_utf8_all w.characters
spelled_at words w i l is = get_or-map (λ (v : Written). encode_utf8_all v.characters) words i w [] l
    ∙ ap (λ (v : Written). encode_utf8_all v.characters) (sym is)

flag_on : (v : Bool) (flags : List Bool) (j k : ℕ) (seen : Bool) → j < length flags → (j == k) ≡ v
    → get_or flags k false ≡ seen → get_or (set flags j true) k false ≡ (seen || v)
flag_on true flags j k seen l t e = ap (λ (i : ℕ). get_or (set flags j true) i false) (sym (eqb-true j k t))
    ∙ get_or-set_same flags j true false l ∙ sym (or_true seen)
  where
    or_true : (b : Bool) → (b || true) ≡ true
    or_true true = refl
    or_true false = refl
flag_on false flags j k seen l t e = get_or-set_other flags j k true false (λ is. eqb-false j k t (sym is))
    ∙ e ∙ sym (or_false seen)
  where
    or_false : (b : Bool) → (b || false) ≡ b
    or_false true = refl
    or_false false = refl

reaches_word : (ws : List (List ℕ)) (flags : List Bool) (o p : OptionsData) (s : Setting) (w : List ℕ)
    → Reaches ws flags o
    → IsSaidBy s w → option_of s < length flags → get_or flags (option_of s) false ≡ false → p ≡ set_in s o
    → Reaches (ws ++ w ∷ []) (set flags (option_of s) true) p
reaches_word ws flags o p s w r h l new e =
    let say = r.say in
    record {
      say = record {
        settings = say.settings ++ s ∷ [];
        options = say.options ++ w ∷ [];
        begin = ap (λ (xs : List (List ℕ)). xs ++ w ∷ []) say.begin;
        said = said_more say.settings say.options s w say.said h;
        once = once_more say.settings s say.once (sym (r.flags_are (option_of s)) ∙ new);
        are = e ∙ ap (set_in s) say.are ∙ sym (set_more say.settings s default_options);
      };
      flags_are = λ k. flag_on (option_of s == k) flags (option_of s) k (sets say.settings k) l refl (r.flags_are k)
          ∙ sym (sets_more say.settings s k);
    }

pub reaches_more : (words : List Written) (i : ℕ) (v : Written) (flags : List Bool) (option : ℕ) (o p : OptionsData)
    (s : Setting) → Reaches (take i (spelled words)) flags o → i < length words → v ≡ get_or words i v
    → IsSaidBy s (encode_utf8_all v.characters) → option ≡ option_of s → option < length flags
    → get_or flags option false ≡ false → p ≡ set_in s o
    → Reaches (take (i + 1) (spelled words)) (set flags option true) p
reaches_more words i v flags option o p s r l is h which within new e =
    let w = encode_utf8_all v.characters in
    let next : i + 1 ≡ suc i = omega arith in
    let front = take-suc (spelled words) i [] (omega (arith, l, spelled_length words))
    ∙ ap (λ (x : List ℕ). take i (spelled words) ++ x ∷ []) (spelled_at words v i l is) in
    let one = reaches_word (take i (spelled words)) flags o p s w r h
    (subst (λ (k : ℕ). k < length flags) which within) (subst (λ (k : ℕ). get_or flags k false ≡ false) which new) e in
    rw (next, front, which) one

last_said : (ss : List Setting) (ws : List (List ℕ)) (w : List ℕ) → AreSaidBy ss (ws ++ w ∷ [])
    → (s : Setting) × IsSaidBy s w
last_said [] [] w p = absurd p
last_said (s ∷ ss) [] w p = (s, p.0)
last_said [] (v ∷ ws) w p = absurd p
last_said (s ∷ ss) (v ∷ ws) w p = last_said ss ws w p.1

-- the option words that begin right words
rest_of : (ws : List (List ℕ)) (o p : OptionsData) (w : List ℕ) (a : Say ws o) (b : Say (ws ++ w ∷ []) p)
    → a.options ++ w ∷ [] ≡ b.options
rest_of ws o p w a b = tails (a.options ++ w ∷ []) b.options (codes "events")
    (sym (ap (λ (xs : List (List ℕ)). xs ++ w ∷ []) a.begin) ∙ b.begin)

pub wrong_here : (words : List Written) (i : ℕ) (v : Written) (flags : List Bool) (o : OptionsData)
    → Reaches (take i (spelled words)) flags o → i < length words → v ≡ get_or words i v
    → ((p : OptionsData) → Say (take i (spelled words) ++ encode_utf8_all v.characters ∷ []) p → ⊥)
    → GoWrongAt (spelled words) (i + 1)
wrong_here words i v flags o r l is never =
    inr record {
      front = take i (spelled words);
      word = encode_utf8_all v.characters;
      rest = drop (suc i) (spelled words);
      are = split_at (spelled words) i [] (omega (arith, l, spelled_length words))
          ∙ ap (λ (x : List ℕ). take i (spelled words) ++ x ∷ drop (suc i) (spelled words)) (spelled_at words v i l is);
      number = omega (arith, length-take-le i (spelled words) (omega (arith, l, spelled_length words)));
      right = (o, r.say);
      wrong = λ right. never right.0 right.1;
    }

pub wrong_word : (words : List Written) (i : ℕ) (v : Written) (flags : List Bool) (o : OptionsData)
    → Reaches (take i (spelled words)) flags o → i < length words → v ≡ get_or words i v → (answer : Option Setting)
    → IfNone answer ((s : Setting) → IsSaidBy s (encode_utf8_all v.characters) → ⊥)
    → ((s : Setting) → answer ≡ Some s → ⊥) → GoWrongAt (spelled words) (i + 1)
wrong_word words i v flags o r l is answer none never = wrong_here words i v flags o r l is
    (λ p b. let w = encode_utf8_all v.characters in
    let those = rest_of (take i (spelled words)) o p w r.say b in
    let last = last_said b.settings r.say.options w
    (subst (λ (xs : List (List ℕ)). AreSaidBy b.settings xs) (sym those) b.said) in
    none_of ((s : Setting) → IsSaidBy s (encode_utf8_all v.characters) → ⊥) answer none never last.0 last.1)

pub wrong_again : (words : List Written) (i : ℕ) (v : Written) (flags : List Bool) (option : ℕ) (o : OptionsData)
    (s : Setting) → Reaches (take i (spelled words)) flags o → i < length words → v ≡ get_or words i v
    → IsSaidBy s (encode_utf8_all v.characters) → option ≡ option_of s → get_or flags option false ≡ true
    → GoWrongAt (spelled words) (i + 1)
wrong_again words i v flags option o s r l is h which again = wrong_here words i v flags o r l is
    (λ p b. let w = encode_utf8_all v.characters in
    let those = rest_of (take i (spelled words)) o p w r.say b in
    let said = said_more r.say.settings r.say.options s w r.say.said h in
    let same = same_settings b.settings (r.say.settings ++ s ∷ []) (r.say.options ++ w ∷ [])
    (subst (λ (xs : List (List ℕ)). AreSaidBy b.settings xs) (sym those) b.said) said in
    let new = once_last r.say.settings s (subst SetOnce same b.once) in
    let seen = sym (r.flags_are (option_of s)) ∙ subst (λ (k : ℕ). get_or flags k false ≡ true) which again in
    let never : true ≡ false = sym seen ∙ new in cc)

pub no_words : (words : List Written) → length words ≡ 0 → GoWrongAt (spelled words) 1
no_words [] none = inl ((λ options e. absurd cc), refl)
no_words (w ∷ ws) none = absurd (omega (arith, none))

pub wrong_first : (words : List Written) (w : Written) → 0 < length words → w ≡ get_or words 0 w
    → (encode_utf8_all w.characters ≡ codes "events" → ⊥) → GoWrongAt (spelled words) 1
wrong_first [] w some is other = absurd (omega (arith, some))
wrong_first (v ∷ ws) w some is other = inl ((λ options e. other (heads_are options e)), refl)
  where
    heads_are : (options : List (List ℕ)) → spelled (v ∷ ws) ≡ codes "events" ∷ options
        → encode_utf8_all w.characters ≡ codes "events"
    heads_are options e =
        let head : encode_utf8_all v.characters ≡ codes "events" = cc in
        ap (λ (u : Written). encode_utf8_all u.characters) is ∙ head

pub all_read : (words : List Written) (i : ℕ) (flags : List Bool) (o : OptionsData)
    → Reaches (take i (spelled words)) flags o → length words ≤ i → Say (spelled words) o
all_read words i flags o r l = subst (λ (xs : List (List ℕ)). Say xs o)
    (take_all i (spelled words) (omega (arith, l, spelled_length words))) r.say

-- ---- right words aren't wrong

front_said : (ss : List Setting) (ws rest : List (List ℕ)) (w : List ℕ) → AreSaidBy ss (ws ++ w ∷ rest) → SetOnce ss
    → (ts : List Setting) × AreSaidBy ts (ws ++ w ∷ []) × SetOnce ts × ((k : ℕ) → sets ss k ≡ false → sets ts k ≡ false)
front_said [] [] rest w p q = absurd p
front_said (s ∷ ss) [] rest w p q = (
  s ∷ [],
  (p.0, tt),
  (refl, tt),
  λ k e. or_from (option_of s == k) false (or_parts (option_of s == k) (sets ss k) e).0 refl,
)
front_said [] (v ∷ ws) rest w p q = absurd p
front_said (s ∷ ss) (v ∷ ws) rest w p q =
    let h = front_said ss ws rest w p.1 q.1 in (
      s ∷ h.0,
      (p.0, h.1),
      (h.3 (option_of s) q.0, h.2),
      λ k e. or_from (option_of s == k) (sets h.0 k) (or_parts (option_of s == k) (sets ss k) e).0
          (h.3 k (or_parts (option_of s == k) (sets ss k) e).1),
    )

pub right_or_wrong : (words : List (List ℕ)) (k : ℕ) → AreInGrammar words → GoWrongAt words k → ⊥
right_or_wrong words k (o, say) (inl h) = h.0 say.options say.begin
right_or_wrong words k (o, say) (inr h) =
    let front = h.right.1 in
    let options = front.options ++ h.word ∷ h.rest in
    let begin : words ≡ codes "events" ∷ options =
    h.are ∙ ap (λ (xs : List (List ℕ)). xs ++ h.word ∷ h.rest) front.begin in
    let those = tails say.options options (codes "events") (sym say.begin ∙ begin) in
    let f = front_said say.settings front.options h.rest h.word
    (subst (λ (xs : List (List ℕ)). AreSaidBy say.settings xs) those say.said) say.once in
    h.wrong (
      set_all f.0 default_options,
      record {
        settings = f.0;
        options = front.options ++ h.word ∷ [];
        begin = ap (λ (xs : List (List ℕ)). xs ++ h.word ∷ []) front.begin;
        said = f.1;
        once = f.2;
        are = refl;
      },
    )

-- Wherever turns and restarts lead, the handles that stay were declared: a text declares them anew.
use Rattle.std.proofs.Common.{◌≡◌, inl, inr, ℕ, ◌+◌, ◌≤◌, Bool, true, false, ◌==◌, List, [], ◌∷◌, ◌++◌}
use Rattle.std.proofs.Common.{Option, Some, None, Result, Ok, Err, refl, sym, ap, subst, ◌∙◌, append_assoc, true≢false}
use Rattle.std.specs.Prelude.{if◌then◌else◌, codes}
use Rattle.granit_base.specs.Classes.{is_alpha, is_blank_or_breakz, is_digit, is_tag_char, is_uri_char}
use Rattle.granit_base.specs.Classes.{is_uri_sign, is_word_char}
use Rattle.granit_base.specs.Place.{first}
use Rattle.granit_error.specs.OptionsData.{OptionsData}
use Rattle.granit_language.specs.Before.{freshened, in_front}
use Rattle.granit_language.specs.Reached.{ends_column_by, of_comment, of_lexeme, Reads}
use Rattle.granit_language.specs.Standing.{Given, GivenOne}
use Rattle.granit_lexemes.specs.Comment.{CommentRead}
use Rattle.granit_lexemes.specs.DirectiveExtent.{alone, begins_prefix, bytes_of, Continues, handle, named}
use Rattle.granit_lexemes.specs.DirectiveExtent.{PrefixStands, reserved, SpellsHandle, version}
use Rattle.granit_lexemes.specs.Here.{Here}
use Rattle.granit_lexemes.specs.Lexeme as lexemes
use Rattle.granit_lexemes.specs.Lexeme.{DirectiveKind, Item, Lexeme, LexemeKind, OfComment, OfLexeme, TagPrefix}
use Rattle.granit_lexemes.specs.Outcome.{Fault, ◌>>=◌}
use Rattle.granit_lexemes.specs.PlainEvent.{PlainEvent}
use Rattle.granit_machine.specs.Frames.{ParserState}
use Rattle.granit_machine.specs.Laid.{Laid}
use Rattle.granit_machine.specs.LexemeSort.{AliasSign, AnchorSign, BlockSign, CloseSign, ColonSign, CommaSign, DashSign}
use Rattle.granit_machine.specs.LexemeSort.{DirectiveSign, EndMark, LexemeSort, NoSign, OpenSign, Placed, PlainSign}
use Rattle.granit_machine.specs.LexemeSort.{QuestionSign, QuoteSign, StartMark, StrayMark, TagSign, TextEnd}
use Rattle.granit_machine.specs.LexemeSort.{Unprintable}
use Rattle.granit_machine.specs.Lexing.{FlaggedItem}
use Rattle.granit_machine.specs.NodeLexemes.{note_items}
use Rattle.granit_machine.specs.Parser.{feed}
use Rattle.granit_machine.specs.Reader.{behind_read, lex_turn, read}
use Rattle.granit_machine.specs.ReaderState.{Read, ReaderState}
use Rattle.granit_places.proofs.Telling.{Answers}
use Rattle.granit_places.proofs.Telling.{read-is, ReadsBy}
use Rattle.granit_places.proofs.Telling.{SaysOf, telling}
use Rattle.granit_restart.proofs.MarkLaws.{items, pushed_items}
use Rattle.granit_restart.specs.Boundary.{AtStart, AtTextEnd, Boundary, next_boundary, PastEnd}
use Rattle.granit_restart.specs.Restart.{at_boundary, at_found, at_lexeme, behind_fault, behind_fault_at, cursor_at}
use Rattle.granit_restart.specs.Restart.{read_boundary}
use Rattle.granit_led.proofs.KeptStream.{feed_remembers, FedRemembers, Remembers, RemembersOf}
use Rattle.granit_led.proofs.KeptSteps.{KeptHandles}
use Rattle.granit_led.specs.Declaring.{DeclaresAnew, DeclaresHandle, empty_document, none_declared, one_more}
use Rattle.granit_led.specs.Led.{Led, led_anew, led_keeping, led_on, led_start, led_with}
use Rattle.granit_steps.specs.Steps.{front_turn, incoming, line_behind, may_go, pushed, read_more, read_unless}
use Rattle.granit_steps.specs.Steps.{step_turn, StepState, Turn, turn_by, with_fed, with_read}

-- a text declares these handles anew
abbrev pub DeclaredHandles : OptionsData → KeptHandles → Type 0
DeclaredHandles o kept = (before : List ℕ) × DeclaresAnew o before kept

-- ---- a `%TAG` that was read declares its handle in any text

-- a handle and a prefix stand alike, whatever follows the prefix
same_first_character : (gap spelled rest more : List ℕ) → begins_prefix (first spelled) ≡ true
    → first (gap ++ (spelled ++ rest)) ≡ first (gap ++ (spelled ++ more))
unfolding is_digit is_tag_char is_uri_char is_uri_sign is_word_char
same_first_character [] [] rest more e = absurd (true≢false (sym e))
same_first_character [] (c ∷ cs) rest more e = refl
same_first_character (g ∷ gs) spelled rest more e = refl

spells_same : {word : List ℕ} (front behind : List ℕ) → first front ≡ first behind → SpellsHandle word front
    → SpellsHandle word behind
spells_same front behind e (named word each) = named word each
spells_same front behind e (alone no_word no_second) =
    alone (subst (λ c. is_alpha c ≡ false) e no_word)
    (subst (λ c. (c == 0x21) ≡ false) e no_second)

pub stands_before : {text source word prefix rest : List ℕ} (more : List ℕ) → PrefixStands text source word prefix rest
    → PrefixStands (source ++ more) source word prefix more
stands_before {source = source} {word = word} {rest = rest} more p = record {
  blanks = p.blanks;
  gap = p.gap;
  behind = p.behind;
  spelled = p.spelled;
  handle_is = record {
    whole = ap (λ (cs : List ℕ). cs ++ more) p.is
        ∙ append_assoc p.blanks (word ++ (p.gap ++ p.spelled)) more
        ∙ ap (λ (cs : List ℕ). p.blanks ++ cs)
        (append_assoc word (p.gap ++ p.spelled) more
        ∙ ap (λ (cs : List ℕ). word ++ cs) (append_assoc p.gap p.spelled more));
    each = p.handle_is.each;
    spells = spells_same (p.gap ++ (p.spelled ++ rest)) (p.gap ++ (p.spelled ++ more))
        (same_first_character p.gap p.spelled rest more p.begins) p.handle_is.spells;
  };
  each = p.each;
  begins = p.begins;
  prefix_is = p.prefix_is;
  is = p.is;
}

-- what a `%TAG` says, a line declares
abbrev pub SpelledKind : OptionsData → LexemeKind → Type 0
SpelledKind o (lexemes.Directive (TagPrefix word prefix)) = (line : List ℕ) × DeclaresHandle o line word prefix
SpelledKind o kind = Unit {0}

-- blanks or a handle begin it, whatever follows
begins_same : {word behind : List ℕ} (blanks front more : List ℕ) → SpellsHandle word behind
    → first (blanks ++ (word ++ front)) ≡ first (blanks ++ (word ++ more))
begins_same [] front more (named word each) = refl
begins_same [] front more (alone no_word no_second) = refl
begins_same (c ∷ cs) front more spells = refl

prefix_begins : {text source word prefix rest : List ℕ} → PrefixStands text source word prefix rest
    → first text ≡ first source
prefix_begins {rest = rest} p =
    ap first p.handle_is.whole
    ∙ begins_same p.blanks (p.gap ++ (p.spelled ++ rest)) (p.gap ++ p.spelled) p.handle_is.spells
    ∙ sym (ap first p.is)

goes_spelled : (o : OptionsData) (name text source : List ℕ) (kind : DirectiveKind) → o.disallow_directives ≡ false
    → is_blank_or_breakz (first text) ≡ true → Continues o name text source kind
    → SpelledKind o (lexemes.Directive kind)
goes_spelled o name text source kind allowed ends (version e v) = tt
goes_spelled o name text source kind allowed ends (reserved n m w t b c) = tt
goes_spelled o name text source kind allowed ends (handle rest e stands parted within) = (
  0x25 ∷ (codes "TAG" ++ source),
  record {
    source = source;
    is = refl;
    stands = stands_before (0x0A ∷ []) stands;
    parted = ap is_blank_or_breakz (sym (prefix_begins stands)) ∙ ends;
    within = subst (λ (n : List ℕ). bytes_of n + bytes_of source ≤ o.max_directive_bytes) e within;
    allowed = allowed;
  },
)

-- ---- each item that is read

abbrev SpelledItem : OptionsData → Item → Type 0
SpelledItem o (OfLexeme l) = SpelledKind o l.kind
SpelledItem o (OfComment c) = Unit {0}

abbrev AllSpelled : OptionsData → List Item → Type 0
AllSpelled o [] = Unit {0}
AllSpelled o (i ∷ is) = SpelledItem o i × AllSpelled o is

module _ (o : OptionsData) where
  spelled_both : (xs ys : List Item) → AllSpelled o xs → AllSpelled o ys → AllSpelled o (xs ++ ys)
  spelled_both [] ys p q = q
  spelled_both (x ∷ xs) ys p q = (p.0, spelled_both xs ys p.1 q)

  spelled_in : (b : Bool) (is : List Item) → AllSpelled o is → AllSpelled o (incoming b is)
  spelled_in true is p = p
  spelled_in false [] p = tt
  spelled_in false (OfLexeme l ∷ is) p = (p.0, spelled_in false is p.1)
  spelled_in false (OfComment c ∷ is) p = spelled_in false is p.1

  spelled_note : (behind : Option CommentRead) → AllSpelled o (note_items behind)
  spelled_note None = tt
  spelled_note (Some c) = (tt, tt)

  -- a lexeme of a kind that is no directive
  spelled_other : (x : Lexeme) (kind : LexemeKind) (behind : Option CommentRead) → x.kind ≡ kind → SpelledKind o kind
      → AllSpelled o (OfLexeme x ∷ note_items behind)
  spelled_other x kind behind e p = (subst (SpelledKind o) (sym e) p, spelled_note behind)

  other_spelled : (h : Here) (l : Laid) (x : Lexeme) (behind : Option CommentRead) (sort : LexemeSort)
      → SaysOf sort h l x → (sort ≡ DirectiveSign → AllSpelled o (OfLexeme x ∷ note_items behind))
      → AllSpelled o (OfLexeme x ∷ note_items behind)
  other_spelled h l x behind TextEnd s sign = spelled_other x _ behind s.0.is tt
  other_spelled h l x behind StartMark s sign = spelled_other x _ behind s.0.is tt
  other_spelled h l x behind EndMark s sign = spelled_other x _ behind s.0.is tt
  other_spelled h l x behind DirectiveSign s sign = sign refl
  other_spelled h l x behind Unprintable s sign = absurd s
  other_spelled h l x behind (Placed (OpenSign bracket)) s sign = spelled_other x _ behind s.is tt
  other_spelled h l x behind (Placed (CloseSign bracket)) s sign = spelled_other x _ behind s.0.is tt
  other_spelled h l x behind (Placed CommaSign) s sign = spelled_other x _ behind s.is tt
  other_spelled h l x behind (Placed DashSign) s sign = spelled_other x _ behind s.0.is tt
  other_spelled h l x behind (Placed QuestionSign) s sign = spelled_other x _ behind s.0.is tt
  other_spelled h l x behind (Placed ColonSign) s sign = spelled_other x _ behind s.0 tt
  other_spelled h l x behind (Placed AliasSign) s sign = spelled_other x _ behind s.1.is tt
  other_spelled h l x behind (Placed AnchorSign) s sign = spelled_other x _ behind s.1.is tt
  other_spelled h l x behind (Placed TagSign) s sign = spelled_other x _ behind s.2.is tt
  other_spelled h l x behind (Placed (BlockSign literal)) s sign = spelled_other x _ behind s.2.is tt
  other_spelled h l x behind (Placed (QuoteSign single)) s sign = spelled_other x _ behind s.2.is tt
  other_spelled h l x behind (Placed PlainSign) s sign = spelled_other x _ behind s.2.is tt
  other_spelled h l x behind (Placed StrayMark) s sign = absurd s
  other_spelled h l x behind (Placed NoSign) s sign = absurd s

  directive_spelled : (ends : Bool) (h : Here) (l : Laid) (is : List Item) (after : ReaderState)
      → GivenOne o ends DirectiveSign h l is after → AllSpelled o is
  directive_spelled ends h l (OfLexeme x ∷ []) after p =
      let stands = p.0.answers.stands in (
        subst (SpelledKind o) (sym (ap (λ (y : Lexeme). y.kind) p.0.is))
            (goes_spelled o stands.name stands.rest stands.source p.0.read.kind p.0.answers.allowed
            stands.stands.parted stands.goes),
        tt,
      )
  directive_spelled ends h l [] after p = absurd p
  directive_spelled ends h l (OfComment c ∷ is) after p = absurd p
  directive_spelled ends h l (OfLexeme x ∷ i ∷ is) after p = absurd p

  sort_spelled : (at behind : ReaderState) (is : List Item) (sort : LexemeSort)
      → Given o (ends_column_by sort (freshened o at)) sort at.here (in_front sort at.here (freshened o at).laid) is
      behind → AllSpelled o is
  sort_spelled at behind is DirectiveSign given = directive_spelled _ at.here _ is behind given
  sort_spelled at behind is sort given =
      let t = telling o (ends_column_by sort (freshened o at)) at.here (in_front sort at.here (freshened o at).laid)
      sort is behind given in
      subst (AllSpelled o) (sym t.are) (other_spelled at.here (in_front sort at.here (freshened o at).laid) t.lexeme
      t.note sort t.says (λ e. absurd (cc)))

  reads_spelled : (s after : ReaderState) (is : List Item) → Reads o s is after → AllSpelled o is
  reads_spelled s after is (of_comment at g k) = (tt, tt)
  reads_spelled s after is (of_lexeme at behind sort comes given keys) = sort_spelled at behind is sort given.1

  read_spelled : (s after : ReaderState) (is : List Item) → read o s ≡ Ok (is, after) → AllSpelled o is
  read_spelled s after is e = reads_spelled s after is (subst (Answers (ReadsBy o s) _) e (read-is o s))

  -- ---- one turn

  record KeptFrom (s : StepState) : Type 0 where
    pub kept : DeclaredHandles o s.parser.kept
    pub spelled : AllSpelled o (items s.queue)

  abbrev TurnKeptFrom : Turn → Type 0
  TurnKeptFrom (Ok x) = KeptFrom x.1
  TurnKeptFrom (Err f) = Unit {0}

  kind_declares : (kind : LexemeKind) (kept now : KeptHandles) → DeclaredHandles o kept → SpelledKind o kind
      → Remembers kind kept now → DeclaredHandles o now
  kind_declares kind kept now d spelled (inl e) = subst (DeclaredHandles o) (sym e) d
  kind_declares kind kept now d spelled (inr (word, prefix, e, same)) =
      let line : (line : List ℕ) × DeclaresHandle o line word prefix = subst (SpelledKind o) e spelled in
      subst (DeclaredHandles o) (sym same) (d.0 ++ (line.0 ++ empty_document), one_more d.1 line.1)

  item_declares : (i : Item) (kept now : KeptHandles) → DeclaredHandles o kept → SpelledItem o i
      → RemembersOf i kept now → DeclaredHandles o now
  item_declares (OfLexeme l) kept now d spelled r = kind_declares l.kind kept now d spelled r
  item_declares (OfComment c) kept now d spelled r = subst (DeclaredHandles o) (sym r) d

  fed_declares : (s : StepState) (i : FlaggedItem) (is : List FlaggedItem)
      (r : Result (List PlainEvent × ParserState) Fault) → FedRemembers i.item s.parser.kept r
      → DeclaredHandles o s.parser.kept → AllSpelled o (i.item ∷ items is)
      → TurnKeptFrom (r >>= λ x. Ok (Some [], with_fed s is x))
  fed_declares s i is (Ok x) r d p =
      record { kept = item_declares i.item s.parser.kept x.1.kept d p.0 r; spelled = p.1 }
  fed_declares s i is (Err f) r d p = tt

  came_declared : (s : StepState) (is : List Item) → KeptFrom s → AllSpelled o is
      → AllSpelled o (items (pushed s.queue (incoming o.emit_comments is)))
  came_declared s is p q =
      subst (AllSpelled o) (sym (pushed_items s.queue (incoming o.emit_comments is)))
      (spelled_both (items s.queue) (incoming o.emit_comments is) p.spelled (spelled_in o.emit_comments is q))

  read_declares : (s : StepState) (r : Read) → read o s.reading.reader ≡ r → KeptFrom s
      → TurnKeptFrom (behind_read r s.reading.reader >>= λ x. Ok (Some [], with_read o s x))
  read_declares s (Ok x) e p =
      record { kept = p.kept; spelled = came_declared s x.0 p (read_spelled s.reading.reader x.1 x.0 e) }
  read_declares s (Err f) e p = record { kept = p.kept; spelled = came_declared s [] p tt }

  lexed_declares : (b : Bool) (s : StepState) → KeptFrom s
      → TurnKeptFrom ((if b then Ok (None, s.reading) else behind_read (read o s.reading.reader) s.reading.reader)
      >>= λ x. Ok (Some [], with_read o s x))
  lexed_declares true s p = record { kept = p.kept; spelled = came_declared s [] p tt }
  lexed_declares false s p = read_declares s (read o s.reading.reader) refl p

  unless_declares : (f : Option Fault) (s : StepState) → KeptFrom s → TurnKeptFrom (read_unless o f s)
  unfolding lex_turn
  unless_declares (Some f) s p = tt
  unless_declares None s p = lexed_declares s.reading.ended s p

  more_declares : (b : Bool) (s : StepState) → KeptFrom s → TurnKeptFrom (read_more o b s)
  more_declares true s p = p
  more_declares false s p = unless_declares s.reading.fault s p

  front_declares : (b : Bool) (i : FlaggedItem) (is : List FlaggedItem) (s : StepState) → s.queue ≡ i ∷ is
      → KeptFrom s → TurnKeptFrom (front_turn b o i is s)
  front_declares true i is s queue p =
      fed_declares s i is (feed o i (line_behind s.reading is) s.parser)
      (feed_remembers o i (line_behind s.reading is) s.parser) p.kept
      (subst (λ (q : List FlaggedItem). AllSpelled o (items q)) queue p.spelled)
  front_declares false i is s queue p = more_declares s.reading.ended s p

  by_declares : (es : List PlainEvent) (q : List FlaggedItem) (s : StepState) → s.queue ≡ q → KeptFrom s
      → TurnKeptFrom (turn_by o es q s)
  by_declares (e ∷ es) q s queue p = p
  by_declares [] [] s queue p = more_declares s.reading.ended s p
  by_declares [] (i ∷ is) s queue p = front_declares (may_go s.reading i is) i is s queue p

  turn_declares : (s : StepState) → KeptFrom s → TurnKeptFrom (step_turn o s)
  unfolding step_turn
  turn_declares s p = by_declares s.pending s.queue s refl p

  -- ---- a restart

  boundary_declares : (s : StepState) (b : Boundary) → KeptFrom s → KeptFrom (at_boundary s b).1
  boundary_declares s (AtStart h) p = record { kept = p.kept; spelled = (tt, tt) }
  boundary_declares s (PastEnd h) p = record { kept = p.kept; spelled = tt }
  boundary_declares s (AtTextEnd h) p = record { kept = p.kept; spelled = tt }

  lexeme_declares : (h : Here) (s : StepState) (l : Lexeme) (kind : LexemeKind) → l.kind ≡ kind → KeptFrom s
      → KeptFrom (at_lexeme h s kind l).1
  lexeme_declares h s l lexemes.DocumentStart e p =
      record { kept = p.kept; spelled = (subst (SpelledKind o) (sym e) tt, tt) }
  lexeme_declares h s l lexemes.DocumentEnd e p = record { kept = p.kept; spelled = tt }
  lexeme_declares h s l kind e p = record { kept = p.kept; spelled = tt }

  found_declares : (h : Here) (s : StepState) (r : Option Lexeme) → KeptFrom s → KeptFrom (at_found h s r).1
  found_declares h s None p = boundary_declares s (next_boundary h) p
  found_declares h s (Some l) p = lexeme_declares h s l l.kind refl p

  restart_declares : (stop : Here) (s : StepState) → KeptFrom s → KeptFrom (behind_fault stop s).1
  unfolding behind_fault_at
  restart_declares stop s p =
      let h = cursor_at stop s.reading in found_declares h s (read_boundary h s.queue) p

-- ---- whether handles stay is no matter of what a text declares

module _ (o : OptionsData) (keep : Bool) where
  abbrev with_keeping : OptionsData
  with_keeping = record o { keep_tags = keep }

  handle_anew : {line word prefix : List ℕ} → DeclaresHandle with_keeping line word prefix
      → DeclaresHandle o line word prefix
  handle_anew d = record {
    source = d.source;
    is = d.is;
    stands = d.stands;
    parted = d.parted;
    within = d.within;
    allowed = d.allowed;
  }

  declared_anew : {text : List ℕ} {kept : KeptHandles} → DeclaresAnew with_keeping text kept → DeclaresAnew o text kept
  declared_anew none_declared = none_declared
  declared_anew (one_more d line) = one_more (declared_anew d) (handle_anew line)

  kind_anew : (kind : LexemeKind) → SpelledKind with_keeping kind → SpelledKind o kind
  kind_anew (lexemes.Directive (TagPrefix word prefix)) p = (p.0, handle_anew p.1)
  kind_anew kind p = tt

  item_anew : (i : Item) → SpelledItem with_keeping i → SpelledItem o i
  item_anew (OfLexeme l) p = kind_anew l.kind p
  item_anew (OfComment c) p = tt

  all_anew : (is : List Item) → AllSpelled with_keeping is → AllSpelled o is
  all_anew [] p = tt
  all_anew (i ∷ is) p = (item_anew i p.0, all_anew is p.1)

  kept_anew : (s : StepState) → KeptFrom with_keeping s → KeptFrom o s
  kept_anew s p = record { kept = (p.kept.0, declared_anew p.kept.1); spelled = all_anew (items s.queue) p.spelled }

-- ---- each state that is led to

led_kept : (o : OptionsData) (s : StepState) → Led o s → KeptFrom o s
led_kept o s (led_start h) = record { kept = ([], none_declared); spelled = tt }
led_kept o s (led_on {s = before} led e) = subst (TurnKeptFrom o) e (turn_declares o before (led_kept o before led))
led_kept o s (led_with {s = before} p es led same) =
    let x = led_kept o before led in
    record { kept = subst (DeclaredHandles o) (sym same) x.kept; spelled = x.spelled }
led_kept o s (led_anew {s = before} stop led) = restart_declares o stop before (led_kept o before led)
led_kept o s (led_keeping keep led) = kept_anew o keep s (led_kept (record o { keep_tags = keep }) s led)

-- the handles that stay were declared, wherever calls lead
pub led_declared : (o : OptionsData) (s : StepState) → Led o s
    → (before : List ℕ) × DeclaresAnew o before s.parser.kept
led_declared o s led = let x = led_kept o s led in x.kept

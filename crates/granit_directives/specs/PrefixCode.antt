-- How the code reads the handle and the prefix of `%TAG`.
use Rattle.std.specs.Prelude.{◌≡◌, ℕ, ◌==◌, Bool, true, false, List, [], ◌∷◌, ◌++◌, Option, Some, Result, Ok, Err}
use Rattle.granit_base.specs.Classes.{is_alpha, is_uri_char}
use Rattle.granit_base.specs.Place.{Mark}
use Rattle.granit_base.specs.Written.{string_chars}
use Rattle.granit_error.specs.Refused.{Refused}
use Rattle.granit_lexemes.specs.Basics.{text_up_to, count_up_to}
use Rattle.granit_lexemes.specs.Directive.{behind_word, ends_handle, prefix_ends}
use Rattle.granit_lexemes.specs.Here.{Here, next_char, step, past}
use Rattle.granit_lexemes.specs.Lexeme.{DirectiveKind, TagPrefix}
use Rattle.granit_lexemes.specs.Outcome.{Fault, Fails, ◌>>=◌}
use Rattle.granit_lexemes.specs.Pieces.{with_front}
use Rattle.granit_lexemes.specs.Tags.{Budget, decoded}
use Rattle.granit_properties.specs.UriCode.{budget_of}
use Rattle.granit_directives.specs.declared.tag_directive.HandleText.{HandleText}
use Rattle.granit_directives.specs.declared.tag_directive.PrefixText.{PrefixText}
use Rattle.granit_directives.specs.declared.tag_directive.SpelledHandle.{SpelledHandle}

abbrev pub prefix_directive : PrefixText → DirectiveKind
prefix_directive p = TagPrefix (string_chars p.handle) (string_chars p.prefix)

-- a second `!` was taken where it is next
abbrev pub ClosesTo : {E : Type 0} → Result Bool E → (Here → Type 0) → (old new : List ℕ) → Here → Type 0
ClosesTo (Ok true) Lands old new h = (next_char h ≡ 0x21) × Lands (step h) × (new ≡ old ++ 0x21 ∷ [])
ClosesTo (Ok false) Lands old new h = ((next_char h == 0x21) ≡ false) × Lands h × (new ≡ old)
ClosesTo (Err e) Lands old new h = Unit {0}

-- behind a `!`, the word that follows it, and a second `!`
abbrev pub past_handle : Here → Here
past_handle h = behind_word (past is_alpha (step h))

-- what may be a handle was read, of so many bytes
abbrev pub SpellsTo : {E : Type 0} → Result SpelledHandle E → (Here → Type 0) → Here → Type 0
SpellsTo (Ok p) Lands h =
    Lands (past_handle h) × (string_chars p.text ≡ text_up_to h (past_handle h))
    × (p.bytes ≡ count_up_to h (past_handle h))
    × (p.ends ≡ ends_handle h (past is_alpha (step h)))
SpellsTo (Err e) Lands h = Unit {0}

-- a handle was read, and so much is left behind it
abbrev pub HandleTo : ℕ → Result HandleText Refused → (Here → Type 0) → Here → Result (Option Budget × Here) Fault
    → Type 0
HandleTo limit (Ok p) Lands h given =
    (now : Here) × Lands now × (given ≡ Ok (budget_of (Some limit) p.left, now))
    × (string_chars p.text ≡ text_up_to h now)
HandleTo limit (Err e) Lands h given = Fails e given

-- a prefix behind what was read of it, and its end
abbrev pub prefix_rest : Mark → Option Budget → (handle front : List ℕ) → Here → Result (DirectiveKind × Here) Fault
prefix_rest start budget handle front h =
    with_front front (decoded is_uri_char start budget h) >>= λ x. prefix_ends start handle x.0 x.1.here

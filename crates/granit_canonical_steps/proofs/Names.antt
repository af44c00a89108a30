-- Aliases, anchors and tags of canonical text stand.
use Rattle.std.proofs.Common.{Bool, List, [], ap, false, refl, sym, true, ℕ, ◌&&◌, ◌++◌, ◌∙◌, ◌∷◌, ◌≡◌, ◌≢◌}
use Rattle.std.specs.Prelude.{None}
use Rattle.std.specs.Str.{encode_utf8_all}
use lib.Utf8.{scalars}
use Rattle.granit_base.specs.Classes.{is_anchor_char, is_blank, is_blank_or_breakz, is_bom, is_break, is_flow}
use Rattle.granit_base.specs.Classes.{is_printable, is_yaml_non_break, is_yaml_non_space}
use Rattle.granit_base.specs.Place.{first}
use Rattle.granit_canonical_steps.proofs.Calm.{Calm, Fine, calm_behind, calm_closed, calm_noded, stands_inside}
use Rattle.granit_canonical_steps.proofs.Naming.{bytes_spell, each_of, uri_some, utf8_bytes}
use Rattle.granit_canonical_steps.proofs.Places.{Held, Parts, marked, parts_gap, past_all, spaced}
use Rattle.granit_canonical_steps.proofs.Signs.{choose_opener, source_is}
use Rattle.granit_canonical_steps.proofs.Taking.{Taken, begins_text, begins_with, passed_at}
use Rattle.granit_canonical_steps.specs.Canonical.{lent_name}
use Rattle.granit_error.specs.OptionsData.{OptionsData}
use Rattle.granit_language.specs.Before.{behind, in_front}
use Rattle.granit_language.specs.Begins.{Begins, alias, anchor, tag}
use Rattle.granit_language.specs.Reached.{ends_column_by}
use Rattle.granit_lexemes.specs.Basics.{as_spelled}
use Rattle.granit_lexemes.specs.Here.{mark_of}
use Rattle.granit_lexemes.specs.Lexeme.{Alias, Anchor, Tag, closer_char}
use Rattle.granit_lexemes.specs.PlainExtent.{over}
use Rattle.granit_lexemes.specs.TagExtent.{ends_tag, verbatim}
use Rattle.granit_lexemes.specs.Tags.{tag_of}
use Rattle.granit_lexemes.specs.declared.layout.Bracket.{Bracket}
use Rattle.granit_lexemes.specs.declared.layout.Bracket.TheVariants.{Curly, Square}
use Rattle.granit_lexemes.specs.declared.layout.LastLexeme.TheVariants.{Another, BehindProperty}
use Rattle.granit_machine.specs.Columns.{closed_at}
use Rattle.granit_machine.specs.Laid.{is_adjacent, is_in_flow, is_question}
use Rattle.granit_machine.specs.LexemeSort.{AliasSign, AnchorSign, Placed, TagSign}
use Rattle.granit_machine.specs.NodeLexemes.{last_of_property}
use Rattle.granit_machine.specs.ReaderState.{ReaderState, lexeme_to}
use Rattle.granit_model.specs.FlowText.{tag_bytes}
use Rattle.granit_model.specs.Tree.{IsAnchorName}

pub alias_begins : (flow adjacent : Bool) (column : ℕ) (text : List ℕ)
    → Begins flow adjacent column (0x2A ∷ text) (Placed AliasSign)
unfolding is_printable is_break
alias_begins flow adjacent column text = begins_with flow adjacent column 0x2A text AliasSign refl refl refl refl alias

pub anchor_begins : (flow adjacent : Bool) (column : ℕ) (text : List ℕ)
    → Begins flow adjacent column (0x26 ∷ text) (Placed AnchorSign)
unfolding is_printable is_break
anchor_begins flow adjacent column text = begins_with flow adjacent column 0x26 text AnchorSign refl refl refl refl
    anchor

pub tag_begins : (flow adjacent : Bool) (column : ℕ) (text : List ℕ)
    → Begins flow adjacent column (0x21 ∷ text) (Placed TagSign)
unfolding is_printable is_break
tag_begins flow adjacent column text = begins_with flow adjacent column 0x21 text TagSign refl refl refl refl tag

space_ends : is_anchor_char 0x20 ≡ false
unfolding is_anchor_char is_yaml_non_space is_yaml_non_break is_printable is_break is_blank is_flow is_bom
space_ends = refl

feed_ends : is_anchor_char 0x0A ≡ false
unfolding is_anchor_char is_yaml_non_space is_yaml_non_break is_printable is_break is_blank is_flow is_bom
feed_ends = refl

-- what stands behind an alias, a gap or a character directly, is of no name
pub data EndsName : (g rest : List ℕ) → Type 0 where
  by_gap : {c : ℕ} {g rest : List ℕ} → is_anchor_char c ≡ false → EndsName (c ∷ g) rest
  by_rest : {c : ℕ} {rest : List ℕ} → is_anchor_char c ≡ false → EndsName [] (c ∷ rest)

name_ends : {g rest : List ℕ} → EndsName g rest → is_anchor_char (first (g ++ rest)) ≡ false
name_ends (by_gap e) = e
name_ends (by_rest e) = e

pub ends_spaced : (rest : List ℕ) → EndsName (0x20 ∷ []) rest
ends_spaced rest = by_gap space_ends

pub ends_fed : (rest : List ℕ) → EndsName (0x0A ∷ []) rest
ends_fed rest = by_gap feed_ends

pub ends_comma : (rest : List ℕ) → EndsName [] (0x2C ∷ rest)
unfolding is_anchor_char is_yaml_non_space is_yaml_non_break is_printable is_break is_blank is_flow is_bom
ends_comma rest = by_rest refl

pub ends_closer : (b : Bracket) (rest : List ℕ) → EndsName [] (closer_char b ∷ rest)
unfolding is_anchor_char is_yaml_non_space is_yaml_non_break is_printable is_break is_blank is_flow is_bom
ends_closer Square rest = by_rest refl
ends_closer Curly rest = by_rest refl

space_ends_tag : (flow : Bool) → ends_tag flow 0x20 ≡ true
unfolding ends_tag is_blank_or_breakz is_blank
space_ends_tag flow = refl

-- a verbatim tag
abbrev pub tag_source : List ℕ → List ℕ
tag_source name = 0x21 ∷ 0x3C ∷ (tag_bytes (encode_utf8_all name) [] ++ 0x3E ∷ [])

-- a text that begins with a character, by its own first one
pub head_is : (text : List ℕ) (c : ℕ) (t : List ℕ) → text ≡ c ∷ t → text ≡ first text ∷ t
head_is text c t e = e ∙ ap (λ n. n ∷ t) (sym (ap first e))

module _ (o : OptionsData) (x : List ℕ) where
  pub takes_alias : (bs : List Bracket) (name g rest : List ℕ) (t : ReaderState) → Parts g → EndsName g rest
      → IsAnchorName name → Held x t.here → t.here.unread.text ≡ 0x2A ∷ (name ++ (g ++ rest)) → Calm bs t.laid
      → Fine bs t.laid.last
      → Taken o x bs (Placed AliasSign) (Alias (lent_name name)) (0x2A ∷ (name ++ (g ++ rest))) (g ++ rest) rest false t
  takes_alias bs name g rest t parts ended n held e c f =
      let h = t.here in
      let l = in_front (Placed AliasSign) h t.laid in
      let calm = calm_noded false h bs (closed_at h.place.column t.laid) (calm_closed h.place.column bs t.laid c) f in
      let p = past_all x (first h.unread.text ∷ name) (g ++ rest) h (head_is h.unread.text 0x2A (name ++ (g ++ rest)) e)
      held in
      let after = over (first h.unread.text ∷ name) h in
      let y = lexeme_to (ends_column_by (Placed AliasSign) t) (Alias (as_spelled h name)) (mark_of after) h l in
      record {
        lexeme = y;
        behind = record { here = after; laid = behind o (Placed AliasSign) y None after h l };
        begins = begins_text t (0x2A ∷ (name ++ (g ++ rest))) (Placed AliasSign) e
            (alias_begins (is_in_flow t.laid) (is_adjacent t.laid.last) h.place.column (name ++ (g ++ rest)));
        given = (
          stands_inside o AliasSign bs l h calm,
          (
            record {
              name = as_spelled h name;
              answers = record {
                rest = g ++ rest;
                stands = record {
                  sign = 0x2A;
                  begins = refl;
                  whole = e;
                  each = each_of is_anchor_char name n.1;
                  some = n.0;
                  all = name_ends ended;
                };
                is = refl;
                reached = refl;
              };
              is = refl;
            },
            refl,
          ),
        );
        kind_is = ap (λ (lends : Bool). Alias (record { characters = name; is_borrowed = lends })) held.lends;
        key_is = refl;
        tail_is = refl;
        indent_is = refl;
        start_is = marked x (0x2A ∷ (name ++ (g ++ rest))) h held e;
        shown_is = source_is (marked x (0x2A ∷ (name ++ (g ++ rest))) h held e)
            (marked x (g ++ rest) after p.held p.text);
        before = record { gap = g; held = p.held; text = p.text; is_gap = parts_gap parts };
        passed = passed_at x (g ++ rest) after p.held p.text;
        calm = calm_behind Another bs l calm;
        opener = refl;
      }

  pub takes_anchor : (bs : List Bracket) (name rest : List ℕ) (t : ReaderState)
      → IsAnchorName name → Held x t.here → t.here.unread.text ≡ 0x26 ∷ (name ++ 0x20 ∷ rest) → Calm bs t.laid
      → Fine bs t.laid.last
      → Taken o x bs (Placed AnchorSign) (Anchor (lent_name name)) (0x26 ∷ (name ++ 0x20 ∷ rest)) (0x20 ∷ rest) rest
      false t
  takes_anchor bs name rest t n held e c f =
      let h = t.here in
      let l = in_front (Placed AnchorSign) h t.laid in
      let calm = calm_noded true h bs (closed_at h.place.column t.laid) (calm_closed h.place.column bs t.laid c) f in
      let p = past_all x (first h.unread.text ∷ name) (0x20 ∷ rest) h
      (head_is h.unread.text 0x26 (name ++ 0x20 ∷ rest) e) held in
      let after = over (first h.unread.text ∷ name) h in
      let y = lexeme_to (ends_column_by (Placed AnchorSign) t) (Anchor (as_spelled h name)) (mark_of after) h l in
      record {
        lexeme = y;
        behind = record { here = after; laid = behind o (Placed AnchorSign) y None after h l };
        begins = begins_text t (0x26 ∷ (name ++ 0x20 ∷ rest)) (Placed AnchorSign) e
            (anchor_begins (is_in_flow t.laid) (is_adjacent t.laid.last) h.place.column (name ++ 0x20 ∷ rest));
        given = (
          stands_inside o AnchorSign bs l h calm,
          (
            record {
              name = as_spelled h name;
              answers = record {
                rest = 0x20 ∷ rest;
                stands = record {
                  sign = 0x26;
                  begins = refl;
                  whole = e;
                  each = each_of is_anchor_char name n.1;
                  some = n.0;
                  all = space_ends;
                };
                is = refl;
                reached = refl;
              };
              is = refl;
            },
            refl,
          ),
        );
        kind_is = ap (λ (lends : Bool). Anchor (record { characters = name; is_borrowed = lends })) held.lends;
        key_is = refl;
        tail_is = refl;
        indent_is = refl;
        start_is = marked x (0x26 ∷ (name ++ 0x20 ∷ rest)) h held e;
        shown_is = source_is (marked x (0x26 ∷ (name ++ 0x20 ∷ rest)) h held e)
            (marked x (0x20 ∷ rest) after p.held p.text);
        before = record { gap = 0x20 ∷ []; held = p.held; text = p.text; is_gap = parts_gap spaced };
        passed = passed_at x (0x20 ∷ rest) after p.held p.text;
        calm = calm_behind (last_of_property o l) bs l calm;
        opener = choose_opener (o.strict_indentation && is_question l.last) BehindProperty Another refl refl;
      }

  pub takes_tag : (bs : List Bracket) (name rest : List ℕ) (t : ReaderState) → name ≢ [] → scalars name ≡ true
      → Held x t.here → t.here.unread.text ≡ tag_source name ++ 0x20 ∷ rest → Calm bs t.laid
      → Fine bs t.laid.last
      → Taken o x bs (Placed TagSign) (Tag [] name) (tag_source name ++ 0x20 ∷ rest) (0x20 ∷ rest) rest false t
  takes_tag bs name rest t n s held e c f =
      let h = t.here in
      let l = in_front (Placed TagSign) h t.laid in
      let calm = calm_noded true h bs (closed_at h.place.column t.laid) (calm_closed h.place.column bs t.laid c) f in
      let source = tag_source name in
      let p = past_all x source (0x20 ∷ rest) h e held in
      let after = over source h in
      let y = lexeme_to (ends_column_by (Placed TagSign) t) (Tag [] name) (mark_of after) h l in
      record {
        lexeme = y;
        behind = record { here = after; laid = behind o (Placed TagSign) y None after h l };
        begins = begins_text t (source ++ 0x20 ∷ rest) (Placed TagSign) e
            (tag_begins (is_in_flow t.laid) (is_adjacent t.laid.last) h.place.column
            (0x3C ∷ ((tag_bytes (encode_utf8_all name) [] ++ 0x3E ∷ []) ++ 0x20 ∷ rest)));
        given = (
          stands_inside o TagSign bs l h calm,
          (
            record {
              read = tag_of [] name;
              answers = record {
                source = source;
                handle = [];
                suffix = name;
                rest = 0x20 ∷ rest;
                stands = record {
                  whole = e;
                  spells = verbatim (uri_some name n)
                      (record {
                        bytes = encode_utf8_all name;
                        spells = bytes_spell (encode_utf8_all name) (utf8_bytes name s);
                        scalar = s;
                        encodes = refl;
                      });
                  ends = space_ends_tag (is_in_flow l);
                };
                answer = refl;
                reached = refl;
              };
              is = refl;
            },
            refl,
          ),
        );
        kind_is = refl;
        key_is = refl;
        tail_is = refl;
        indent_is = refl;
        start_is = marked x (source ++ 0x20 ∷ rest) h held e;
        shown_is = source_is (marked x (source ++ 0x20 ∷ rest) h held e) (marked x (0x20 ∷ rest) after p.held p.text);
        before = record { gap = 0x20 ∷ []; held = p.held; text = p.text; is_gap = parts_gap spaced };
        passed = passed_at x (0x20 ∷ rest) after p.held p.text;
        calm = calm_behind (last_of_property o l) bs l calm;
        opener = choose_opener (o.strict_indentation && is_question l.last) BehindProperty Another refl refl;
      }

-- Aliases, anchors and tags of block text stand in their lines.
use Rattle.std.proofs.Common.{Bool, List, [], ap, false, refl, true, ℕ, ◌++◌, ◌∙◌, ◌∷◌, ◌≡◌, ◌≢◌}
use Rattle.std.specs.Prelude.{None}
use Rattle.std.specs.Str.{encode_utf8_all}
use lib.Utf8.{scalars}
use Rattle.granit_base.specs.Classes.{is_anchor_char, is_blank, is_blank_or_breakz, is_bom, is_break, is_breakz}
use Rattle.granit_base.specs.Classes.{is_flow, is_printable, is_yaml_non_break, is_yaml_non_space, is_z}
use Rattle.granit_base.specs.Place.{first}
use Rattle.granit_block_lines.proofs.Flats.{name_flat, tag_flat}
use Rattle.granit_block_lines.proofs.Keyed.{node_on, noded_kept, open_columns}
use Rattle.granit_block_lines.proofs.Lines.{Along, along_all, is_flat}
use Rattle.granit_block_lines.proofs.Ready.{Arrived, Behind, OnLine, behind_gap_is, bound, fed_to, lands}
use Rattle.granit_block_lines.proofs.Ready.{leads, spaced}
use Rattle.granit_block_lines.proofs.Signs.{keyed_outside, no_left_inside}
use Rattle.granit_block_lines.proofs.Taking.{Taken}
use Rattle.granit_canonical_steps.proofs.Names.{alias_begins, anchor_begins, head_is, tag_begins, tag_source}
use Rattle.granit_canonical_steps.proofs.Naming.{bytes_spell, each_of, uri_some, utf8_bytes}
use Rattle.granit_canonical_steps.proofs.Places.{Held, past_all}
use Rattle.granit_canonical_steps.proofs.Taking.{begins_text}
use Rattle.granit_canonical_steps.specs.Canonical.{lent_name}
use Rattle.granit_error.specs.OptionsData.{OptionsData}
use Rattle.granit_language.specs.Before.{behind, in_front}
use Rattle.granit_language.specs.Reached.{ends_column_by}
use Rattle.granit_lexemes.specs.Basics.{as_spelled}
use Rattle.granit_lexemes.specs.Gap.{Each}
use Rattle.granit_lexemes.specs.Here.{Here, mark_of}
use Rattle.granit_lexemes.specs.Lexeme.{Alias, Anchor, Tag}
use Rattle.granit_lexemes.specs.NameExtent.{AnswersName, is_name_sign}
use Rattle.granit_lexemes.specs.PlainExtent.{over}
use Rattle.granit_lexemes.specs.TagExtent.{ends_tag, verbatim}
use Rattle.granit_lexemes.specs.Tags.{tag_of}
use Rattle.granit_machine.specs.Laid.{is_adjacent, is_in_flow}
use Rattle.granit_machine.specs.LexemeSort.{AliasSign, AnchorSign, Placed, TagSign}
use Rattle.granit_machine.specs.ReaderState.{ReaderState, lexeme_to}
use Rattle.granit_model.specs.FlowText.{tag_bytes}
use Rattle.granit_model.specs.Tree.{IsAnchorName}

-- what stands behind a name, or a tag, ends it
name_over : {g : List ℕ} → Behind g → (rest : List ℕ) → is_anchor_char (first (g ++ rest)) ≡ false
unfolding is_anchor_char is_yaml_non_space is_yaml_non_break is_printable is_break is_blank is_flow is_bom
name_over spaced rest = refl
name_over (fed_to c) rest = refl

tag_over : {g : List ℕ} → Behind g → (flow : Bool) (rest : List ℕ) → ends_tag flow (first (g ++ rest)) ≡ true
unfolding ends_tag is_blank_or_breakz is_blank is_breakz is_break is_z
tag_over spaced flow rest = refl
tag_over (fed_to c) flow rest = refl

sign_flat : (text : List ℕ) (c : ℕ) (t name : List ℕ) → text ≡ c ∷ t → is_flat c ≡ true → Each is_anchor_char name
    → Each is_flat (first text ∷ name)
sign_flat text c t name e f n = (ap (λ (l : List ℕ). is_flat (first l)) e ∙ f, name_flat name n)

star_flat : is_flat 0x2A ≡ true
unfolding is_break
star_flat = refl

ampersand_flat : is_flat 0x26 ≡ true
unfolding is_break
ampersand_flat = refl

-- a name that stands behind its sign
record Named (x g rest : List ℕ) (name : List ℕ) (m : ℕ) (h : Here) : Type 0 where
  after : Here
  answers : AnswersName h (as_spelled h name) after
  held : Held x after
  text : after.unread.text ≡ g ++ rest
  along : Along h after

named : {g : List ℕ} (x : List ℕ) (b : Behind g) (sign : ℕ) (name rest : List ℕ) (m : ℕ) (h : Here)
    → is_name_sign sign ≡ true → is_flat sign ≡ true → IsAnchorName name → Held x h
    → h.unread.text ≡ sign ∷ (name ++ (g ++ rest)) → Named x g rest name m h
named {g} x b sign name rest m h s f n held e =
    let each = each_of is_anchor_char name n.1 in
    let whole = head_is h.unread.text sign (name ++ (g ++ rest)) e in
    let p = past_all x (first h.unread.text ∷ name) (g ++ rest) h whole held in
    record {
      after = over (first h.unread.text ∷ name) h;
      answers = record {
        rest = g ++ rest;
        stands = record {
          sign = sign;
          begins = s;
          whole = e;
          each = each;
          some = n.0;
          all = name_over b rest;
        };
        is = refl;
        reached = refl;
      };
      held = p.held;
      text = p.text;
      along = along_all (first h.unread.text ∷ name) (g ++ rest) h whole
          (sign_flat h.unread.text sign (name ++ (g ++ rest)) name e f each);
    }

module _ (o : OptionsData) (x : List ℕ) where
  pub takes_alias : {g : List ℕ} (b : Behind g) (cs : List ℕ) (name rest : List ℕ) (t : ReaderState)
      → IsAnchorName name → Arrived x (0x2A ∷ (name ++ (g ++ rest))) [] cs (OnLine (bound cs)) t
      → Taken o x [] cs (leads b (bound cs)) (Placed AliasSign) (Alias (lent_name name)) rest t
  takes_alias {g} b cs name rest t n a =
      let h = t.here in
      let l = in_front (Placed AliasSign) h t.laid in
      let r = named x b 0x2A name rest (bound cs) h refl star_flat n a.held a.text in
      let kept = noded_kept false h t.laid cs a.around a.columns a.lies in
      let y = lexeme_to (ends_column_by (Placed AliasSign) t) (Alias (as_spelled h name)) (mark_of r.after) h l in
      record {
        lexeme = y;
        behind = record { here = r.after; laid = behind o (Placed AliasSign) y None r.after h l };
        begins = begins_text t (0x2A ∷ (name ++ (g ++ rest))) (Placed AliasSign) a.text
            (alias_begins (is_in_flow t.laid) (is_adjacent t.laid.last) h.place.column (name ++ (g ++ rest)));
        given = (
          no_left_inside o h l (keyed_outside t.laid.brackets _ a.around),
          (record { name = as_spelled h name; answers = r.answers; is = refl }, refl),
        );
        kind_is = ap (λ (lends : Bool). Alias (record { characters = name; is_borrowed = lends })) (a.held).lends;
        key_is = refl;
        tail_is = refl;
        indent_is = refl;
        place_is = refl;
        ready = record {
          gap = g;
          held = r.held;
          text = r.text;
          is_gap = behind_gap_is b;
          lies = lands b (bound cs) rest l.key r.after r.text
              (node_on (bound cs) l.key t.laid.key h r.after r.along a.lies kept);
          around = keyed_outside t.laid.brackets _ a.around;
          columns = open_columns h.place.column t.laid cs a.around a.columns (a.lies).right;
          cut = a.cut;
        };
      }

  pub takes_anchor : {g : List ℕ} (b : Behind g) (cs : List ℕ) (name rest : List ℕ) (t : ReaderState)
      → IsAnchorName name → Arrived x (0x26 ∷ (name ++ (g ++ rest))) [] cs (OnLine (bound cs)) t
      → Taken o x [] cs (leads b (bound cs)) (Placed AnchorSign) (Anchor (lent_name name)) rest t
  takes_anchor {g} b cs name rest t n a =
      let h = t.here in
      let l = in_front (Placed AnchorSign) h t.laid in
      let r = named x b 0x26 name rest (bound cs) h refl ampersand_flat n a.held a.text in
      let kept = noded_kept true h t.laid cs a.around a.columns a.lies in
      let y = lexeme_to (ends_column_by (Placed AnchorSign) t) (Anchor (as_spelled h name)) (mark_of r.after) h l in
      record {
        lexeme = y;
        behind = record { here = r.after; laid = behind o (Placed AnchorSign) y None r.after h l };
        begins = begins_text t (0x26 ∷ (name ++ (g ++ rest))) (Placed AnchorSign) a.text
            (anchor_begins (is_in_flow t.laid) (is_adjacent t.laid.last) h.place.column (name ++ (g ++ rest)));
        given = (
          no_left_inside o h l (keyed_outside t.laid.brackets _ a.around),
          (record { name = as_spelled h name; answers = r.answers; is = refl }, refl),
        );
        kind_is = ap (λ (lends : Bool). Anchor (record { characters = name; is_borrowed = lends })) (a.held).lends;
        key_is = refl;
        tail_is = refl;
        indent_is = refl;
        place_is = refl;
        ready = record {
          gap = g;
          held = r.held;
          text = r.text;
          is_gap = behind_gap_is b;
          lies = lands b (bound cs) rest l.key r.after r.text
              (node_on (bound cs) l.key t.laid.key h r.after r.along a.lies kept);
          around = keyed_outside t.laid.brackets _ a.around;
          columns = open_columns h.place.column t.laid cs a.around a.columns (a.lies).right;
          cut = a.cut;
        };
      }

  pub takes_tag : {g : List ℕ} (b : Behind g) (cs : List ℕ) (name rest : List ℕ) (t : ReaderState)
      → name ≢ [] → scalars name ≡ true → Arrived x (tag_source name ++ (g ++ rest)) [] cs (OnLine (bound cs)) t
      → Taken o x [] cs (leads b (bound cs)) (Placed TagSign) (Tag [] name) rest t
  takes_tag {g} b cs name rest t n s a =
      let h = t.here in
      let l = in_front (Placed TagSign) h t.laid in
      let source = tag_source name in
      let p = past_all x source (g ++ rest) h a.text a.held in
      let after = over source h in
      let along = along_all source (g ++ rest) h a.text (tag_flat name) in
      let kept = noded_kept true h t.laid cs a.around a.columns a.lies in
      let y = lexeme_to (ends_column_by (Placed TagSign) t) (Tag [] name) (mark_of after) h l in
      record {
        lexeme = y;
        behind = record { here = after; laid = behind o (Placed TagSign) y None after h l };
        begins = begins_text t (source ++ (g ++ rest)) (Placed TagSign) a.text
            (tag_begins (is_in_flow t.laid) (is_adjacent t.laid.last) h.place.column
            (0x3C ∷ ((tag_bytes (encode_utf8_all name) [] ++ 0x3E ∷ []) ++ (g ++ rest))));
        given = (
          no_left_inside o h l (keyed_outside t.laid.brackets _ a.around),
          (
            record {
              read = tag_of [] name;
              answers = record {
                source = source;
                handle = [];
                suffix = name;
                rest = g ++ rest;
                stands = record {
                  whole = a.text;
                  spells = verbatim (uri_some name n)
                      (record {
                        bytes = encode_utf8_all name;
                        spells = bytes_spell (encode_utf8_all name) (utf8_bytes name s);
                        scalar = s;
                        encodes = refl;
                      });
                  ends = tag_over b (is_in_flow l) rest;
                };
                answer = refl;
                reached = refl;
              };
              is = refl;
            },
            refl,
          ),
        );
        kind_is = refl;
        key_is = refl;
        tail_is = refl;
        indent_is = refl;
        place_is = refl;
        ready = record {
          gap = g;
          held = p.held;
          text = p.text;
          is_gap = behind_gap_is b;
          lies = lands b (bound cs) rest l.key after p.text
              (node_on (bound cs) l.key t.laid.key h after along a.lies kept);
          around = keyed_outside t.laid.brackets _ a.around;
          columns = open_columns h.place.column t.laid cs a.around a.columns (a.lies).right;
          cut = a.cut;
        };
      }

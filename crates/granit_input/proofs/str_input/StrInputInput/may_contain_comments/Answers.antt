use Rattle.std.proofs.Common.{◌≡◌, sym, ap, ◌∙◌}
use Rattle.granit_base.specs.Place.{Unread}
use Rattle.granit_runs.specs.White.{holds}
use Rattle.granit_runs.proofs.HoldsLemmas.{no_hash_left}
use Rattle.granit_input.proofs.str_input.StrInputInput.may_contain_comments.Goals as goal

pub returns : goal.returns
returns c =
    let source = c.args.self.now.source.now in
    let exact : c.has_byte.result ≡ holds 0x23 source = c.has_byte.ensures in
    record {
      rest = λ without u is. ap (λ (v : Unread). holds 0x23 v.text) is
          ∙ no_hash_left source c.args.self.now.rest.now c.args.self.now.suffix c.args.self.now.utf8
          (sym exact ∙ without);
      source = λ without. sym exact ∙ without;
      exact = exact;
    }

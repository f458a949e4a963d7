use Rattle.std.proofs.Common.{refl, ap, ◌∙◌}
use Rattle.pim_text.specs.Fields.{lacks}
use Rattle.pim_imply.proofs.TextLemmas.{instr_is, lacks-instr, line_is_some}
use Rattle.pim_imply.proofs.draft.ImplyDraftDraft.tell_kind.Goals as goal

pub returns : goal.returns
returns c = record {
  first = refl;
  one = λ line i e. (instr_is c.line_laws.ensures.one line i e).0;
  lack = λ line i e. let h = instr_is c.line_laws.ensures.one line i e in ap (lacks 10) h.0 ∙ lacks-instr c.line_laws.ensures.lack i h.1;
  some = line_is_some;
}

use Rattle.std.proofs.Common.{refl, ap, ◌∙◌}
use Rattle.pim_text.specs.Fields.{lacks}
use Rattle.pim_text.proofs.ProgramLemmas.{line_is_some}
use Rattle.pim_text.proofs.programs.ProgramDraftDraft.tell_kind.Goals as goal

pub returns : goal.returns
returns c = record {
  first = refl;
  one = λ line i e. (c.line_laws.ensures.one.instr line i e).0;
  lack = λ line i e. let h = c.line_laws.ensures.one.instr line i e in ap (lacks 10) h.0 ∙ c.line_laws.ensures.lack.instr i h.1;
  some = line_is_some;
}

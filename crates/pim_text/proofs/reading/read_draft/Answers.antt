use Rattle.pim_text.proofs.SmallTexts.{few_parts, gives_sized}
use Rattle.pim_text.proofs.reading.read_draft.Goals as goal

pub returns-clause-exact : goal.returns-clause-exact
returns-clause-exact g c = gives_sized g.D.Draft.kind c.tell_kind.ensures g.D.Draft.parts c.args.bytes.now c.kept.result c.kept.ensures

pub returns-clause-few : goal.returns-clause-few
returns-clause-few g c = few_parts g.D.Draft.kind c.tell_kind.ensures g.D.Draft.parts c.args.bytes.now c.kept.result (c.text_laws.ensures.one c.args.bytes.now) c.requires c.kept.ensures

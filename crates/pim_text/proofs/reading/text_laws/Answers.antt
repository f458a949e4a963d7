use Rattle.pim_text.proofs.ReadBack.{parts_of-text, parts_of-cut}
use Rattle.pim_text.proofs.WholeText.{parts_are}
use Rattle.pim_text.proofs.reading.text_laws.Goals as goal

pub returns : goal.returns
returns g c = record {
  one = parts_are g.D.Draft.kind c.line_laws.ensures.one c.tell_kind.ensures;
  read = parts_of-text g.D.Draft.kind c.line_laws.ensures.read c.line_laws.ensures.lack c.tell_kind.ensures;
  cut = parts_of-cut g.D.Draft.kind c.line_laws.ensures.read c.line_laws.ensures.lack c.tell_kind.ensures;
}

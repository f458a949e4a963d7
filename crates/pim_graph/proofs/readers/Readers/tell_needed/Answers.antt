use Rattle.pim_graph.proofs.ReadLemmas.{read_by-reads, needed_counted}
use Rattle.pim_graph.proofs.readers.Readers.tell_needed.Goals as goal

pub returns-clause-read : goal.returns-clause-read
returns-clause-read c = read_by-reads

pub returns-clause-needed : goal.returns-clause-needed
returns-clause-needed c = λ g readers counts x h. needed_counted g readers c.args.self.now x (counts.counts x h)

use Rattle.std.proofs.Common.{◌∙◌, sym}
use Rattle.pim_rewrite.proofs.Loops.{pair_before}
use Rattle.pim_rewrite.proofs.cases.case_of.Goals as goal

pub returns-in-Some-clause-before : goal.returns-in-Some-clause-before
returns-in-Some-clause-before c = λ n h.
    let m = c.args.node in
    let t = c.requires.there in
    pair_before c.args.reading.now m.x m.y m.z c.in-Some.case n c.nodes.ensures.sound t.x t.y (sym c.match_pair.ensures ∙ c.in-Some.is) h.x h.y h.z

pub returns-in-Some-match_pair-clause-before : goal.returns-in-Some-match_pair-clause-before
returns-in-Some-match_pair-clause-before c = λ n h.
    let m = c.args.node in
    let t = c.requires.there in
    pair_before c.args.reading.now m.x m.z m.y c.in-Some-match_pair.case n c.nodes.ensures.sound t.x t.z (sym c.match_pair-2.ensures ∙ c.in-Some-match_pair.is) h.x h.z h.y

pub returns-in-Some-last-clause-before : goal.returns-in-Some-last-clause-before
returns-in-Some-last-clause-before c = λ n h.
    let m = c.args.node in
    let t = c.requires.there in
    pair_before c.args.reading.now m.y m.z m.x c.in-Some-last.case n c.nodes.ensures.sound t.y t.z (sym c.match_pair-last.ensures ∙ c.in-Some-last.is) h.y h.z h.x

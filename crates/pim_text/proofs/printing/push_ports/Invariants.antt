use Rattle.std.proofs.Common.{◌≡◌, ◌++◌, drop}
use Rattle.pim_text.specs.Text.{ports_text}
use Rattle.pim_text.proofs.printing.push_ports.Given as goal

-- the text so far, with the lines of the ports that are left, is the whole
abbrev pub invariant-loop-port : goal.invariant-loop-port
invariant-loop-port l =
    l.text ++ ports_text l.word (drop l.port-index l.ports) ≡ l.initial.text ++ ports_text l.word l.ports

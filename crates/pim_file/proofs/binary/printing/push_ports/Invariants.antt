use Rattle.std.proofs.Common.{◌≡◌, ◌++◌, drop}
use Rattle.pim_file.specs.Binary.{each_bin, port_bin}
use Rattle.pim_file.proofs.binary.printing.push_ports.Given as goal

-- the bytes so far, with the ports that are left, are the whole
abbrev pub invariant-loop-port : goal.invariant-loop-port
invariant-loop-port l =
    l.bytes.items ++ each_bin port_bin (drop l.port-index l.ports) ≡ l.initial.bytes.items ++ each_bin port_bin l.ports

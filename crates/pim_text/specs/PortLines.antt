-- A port as a line spells it.
use Rattle.pim_isa.specs.declared.port.Port.{Port}
use Rattle.pim_text.specs.declared.lines.PortLine.{PortLine}

-- a port as a line spells it, without where its label lies in memory
abbrev pub port_view : PortLine → Port
port_view port = record { cell = port.cell; label = port.label.now }

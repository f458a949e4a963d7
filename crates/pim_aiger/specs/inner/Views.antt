-- Inner: types of the code as the definitions see them.
use Rattle.pim_aiger.specs.HeaderLine.{Form, Text, Binary}
use Rattle.pim_aiger.specs.Numbers.{HeaderView}
use Rattle.pim_aiger.specs.SymbolTable.{Port, Input, Output, SymbolView}
use Rattle.pim_aiger.specs.declared.header.Form.{Form as ReadForm}
use Rattle.pim_aiger.specs.declared.header.Form.TheVariants as forms
use Rattle.pim_aiger.specs.declared.header.Header.{Header}
use Rattle.pim_aiger.specs.declared.symbol.Port.{Port as ReadPort}
use Rattle.pim_aiger.specs.declared.symbol.Port.TheVariants as ports
use Rattle.pim_aiger.specs.declared.symbol.Symbol.{Symbol}

-- the form of the same name
abbrev pub form_view : ReadForm → Form
form_view forms.Text = Text
form_view forms.Binary = Binary

-- the numbers of a header
abbrev pub header_view : Header → HeaderView
header_view h = record { greatest = h.greatest; inputs = h.inputs; latches = h.latches; outputs = h.outputs; gates = h.gates }

-- the port of the same name
abbrev pub port_view : ReadPort → Port
port_view ports.Input = Input
port_view ports.Output = Output

-- a symbol without where it lies in memory
abbrev pub symbol_view : Symbol → SymbolView
symbol_view symbol = record { port = port_view symbol.port; position = symbol.position; name = symbol.name.now }

-- Inner: the directive that was found in a statement, as the definitions name it.
use Rattle.pim_blif.specs.Directives.{Directive, Model, Inputs, Outputs, Names, End, PassedOver, Unsupported}
use Rattle.pim_blif.specs.declared.directive.Directive.{Directive as Found}
use Rattle.pim_blif.specs.declared.directive.Directive.TheVariants as found

-- the directive of the same name
abbrev pub directive_view : Found → Directive
directive_view found.Model = Model
directive_view found.Inputs = Inputs
directive_view found.Outputs = Outputs
directive_view found.Names = Names
directive_view found.End = End
directive_view found.PassedOver = PassedOver
directive_view found.Unsupported = Unsupported

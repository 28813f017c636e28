use Rattle.abstract_types.specs.TypeView.{annotation}
use Rattle.signature_judging.proofs.Copied.{parameter_again}
use Rattle.signature_judging.proofs.copying.copied_parameter.Goals as goal

pub returns : goal.returns
returns c = parameter_again c.in_ok-name.name c.args.one.now.name (annotation c.in_ok-bound.bound) (annotation c.args.one.now.bound) c.in_ok-name.ensures c.in_ok-bound.ensures

use Rattle.kernel_expressions.proofs.ByForm.{of_tree}
use Rattle.kernel_expressions.proofs.entering.written_by.Goals as goal

pub returns-clause-made : goal.returns-clause-made
returns-clause-made g c = of_tree c.args.part.types.now c.args.frames.now c.args.part.expression.now c.get.result.now c.by_form.result c.get.ensures c.by_form.ensures.made

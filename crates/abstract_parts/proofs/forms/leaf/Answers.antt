use Rattle.abstract_parts.specs.Shapes.{leaf_form}
use Rattle.abstract_parts.proofs.FormMaking.{alone_made}
use Rattle.abstract_parts.proofs.forms.leaf.Goals as goal

pub returns : goal.returns
returns c = alone_made (leaf_form c.args.form) _ c.args.at c.args.tokens c.finish.result c.in_ok-form.ensures c.finish.ensures

use Rattle.core_ir.specs.View.{core_body}
use Rattle.core_parts.proofs.Going.{on_ok}
use Rattle.mo_elab.proofs.Serving.{method_parts, method_view}
use Rattle.mo_elab.proofs.methods.method_of.Goals as goal

pub returns : goal.returns
returns c =
    on_ok c.method_with.result c.method_with.ensures (λ made is.
    method_parts c.args.method.now (core_body c.args.body) c.in_ok-name.name c.is_query_sort.result c.in_ok-parameters.parameters c.in_ok-results.results (method_view made) is c.in_ok-name.ensures c.is_query_sort.ensures c.in_ok-parameters.ensures
    c.in_ok-results.ensures)

use Rattle.std.proofs.Common.{◌∙◌, List, Option, Some, ap, map, option_map, sym}
use Rattle.abstract_types.specs.declared.types.TypeNode as written
use Rattle.abstract_types.specs.TypeView.{type_node}
use Rattle.typing_rules.specs.AbstractSyntax.{TypeNode}
use Rattle.application_rules.proofs.calls.copied.Goals as goal

pub returns-in_ok-copied_types-in-Some : goal.returns-in_ok-copied_types-in-Some
returns-in_ok-copied_types-in-Some c =
    ap (λ (ns : List TypeNode). Some ns) (c.in_ok-copied_types-in-Some.ensures ∙ ap (map type_node) c.as_slice.ensures)
    ∙ sym (ap (λ (o : Option (List written.TypeNode)). option_map (map type_node) o) c.in-Some.is)

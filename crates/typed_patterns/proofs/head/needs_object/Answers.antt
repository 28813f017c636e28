use denote.Bor.{Bor}
use Rattle.std.proofs.Common.{◌∙◌, List, ap, is_some, sym}
use Rattle.mo_types.specs.declared.node.Field.{Field}
use Rattle.mo_types.specs.declared.node.TypeId.{TypeId}
use Rattle.typed_patterns.proofs.Literals.{is_some_seen}
use Rattle.typed_patterns.proofs.Parts.{object_judged}
use Rattle.typed_patterns.proofs.head.needs_object.Goals as goal

pub returns : goal.returns
returns c =
    object_judged c.args.types.now c.args.kind c.in_ok-head.head.now c.in_ok-head.ensures c.args.at c.is_some.result c.tests.result
    (c.is_some.ensures ∙ (sym (is_some_seen (λ (r : Bor (List (Field TypeId))). r.now) c.object_of.result) ∙ ap is_some c.object_of.ensures)) (c.tests.ensures c.args.types.now)

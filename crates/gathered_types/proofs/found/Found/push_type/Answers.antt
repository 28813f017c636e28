use Rattle.std.proofs.Common.{ap, append-nil, sym, ◌∙◌}
use Rattle.type_definitions.specs.Definitions.{Listed}
use Rattle.gathered_types.specs.Finding.{joined, one_type}
use Rattle.gathered_types.proofs.Finding.{listed_same}
use Rattle.gathered_types.proofs.found.Found.push_type.Goals as goal

pub returns : goal.returns
returns c = listed_same _ _ _ _ _ _ _ _ c.in_ok-push.ensures.items c.in_ok-push-2.ensures.items (sym (append-nil c.self.inside.bounded.items)) (sym (append-nil c.self.inside.bounds.items))
    ∙ ap (λ (l : Listed). joined l (one_type c.args.name c.args.definition)) c.self.view_is

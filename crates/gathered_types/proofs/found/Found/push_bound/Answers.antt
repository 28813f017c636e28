use Rattle.std.proofs.Common.{ap, append-nil, sym, ◌∙◌}
use Rattle.type_definitions.specs.Definitions.{Listed}
use Rattle.gathered_types.specs.Finding.{joined, one_bound}
use Rattle.gathered_types.proofs.Finding.{listed_same}
use Rattle.gathered_types.proofs.found.Found.push_bound.Goals as goal

pub returns : goal.returns
returns c = listed_same _ _ _ _ _ _ _ _ (sym (append-nil c.self.inside.names.items)) (sym (append-nil c.self.inside.types.items)) c.in_ok-push.ensures.items c.in_ok-push-2.ensures.items
    ∙ ap (λ (l : Listed). joined l (one_bound c.args.name c.args.bound)) c.self.view_is

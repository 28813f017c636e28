use Rattle.std.proofs.Common.{◌∙◌, sym}
use Rattle.met_types.proofs.Staying.{node_there, no_node, some_of, none_of}
use Rattle.met_types.proofs.types.Types.node.Goals as goal

pub returns-in-Some-clause-there : goal.returns-in-Some-clause-there
returns-in-Some-clause-there c = some_of (λ n. n.now) c.get.result _
    (λ n e. node_there c.self.inside.terms c.self.inside.definitions c.self.inside.outcomes.items c.self.inside.reached c.self.inside.graph c.args.self.now c.self.view_is c.requires.kept c.args.id c.in-Some.at n.now c.in-Some.ensures.there
    (sym c.get.ensures ∙ e))

pub returns-in-Some-clause-missing : goal.returns-in-Some-clause-missing
returns-in-Some-clause-missing c = none_of (λ n. n.now) c.get.result _
    (λ e r. no_node c.self.inside.terms c.self.inside.definitions c.self.inside.outcomes.items c.self.inside.reached c.self.inside.graph c.args.self.now c.self.view_is c.requires.kept c.args.id c.in-Some.at c.in-Some.ensures.there (sym c.get.ensures ∙ e))

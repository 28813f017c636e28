use Rattle.std.proofs.Common.{sym, ap, ◌∙◌}
use Rattle.typed_tree.specs.ProgramView.{is_query}
use Rattle.arena_events.proofs.Named.{query_is}
use Rattle.arena_events.proofs.methods.query_of.Goals as goal

pub returns-in-Query : goal.returns-in-Query
returns-in-Query c = sym (query_is c.args.method.now ∙ ap is_query c.in-Query.is)

pub returns-in-Local : goal.returns-in-Local
returns-in-Local c = sym (query_is c.args.method.now ∙ ap is_query c.in-Local.is)

pub returns-in-Shared : goal.returns-in-Shared
returns-in-Shared c = sym (query_is c.args.method.now ∙ ap is_query c.in-Shared.is)

use Rattle.std.proofs.Common.{[], ◌∷◌, List, subst}
use Rattle.std.specs.Prelude.{IfOk}
use Rattle.mo_types.specs.declared.node.Field.{Field}
use Rattle.type_terms.specs.declared.form.Form.TheVariants as form
use Rattle.type_terms.specs.declared.form.TermId.{TermId}
use Rattle.typing_rules.specs.Members.{function}
use Rattle.typing_rules.specs.Terms as t
use Rattle.built_in_members.specs.Written.{Writes, plain_term}
use Rattle.built_in_members.proofs.Interned.{plain_actor}
use Rattle.built_in_members.proofs.module_members.from_actor.Goals as goal

pub plain_function-requires-clause-parameter : goal.plain_function-requires-clause-parameter
plain_function-requires-clause-parameter c = plain_actor c.new.result c.new.ensures

pub returns : goal.returns
returns c =
    subst (λ (fs : List (Field TermId)). IfOk c.plain_function.result (λ id. Writes c.args.types.now (function (plain_term (form.Actor fs) ∷ []) t.Principal) id c.plain_function.new.types)) c.new.ensures c.plain_function.ensures

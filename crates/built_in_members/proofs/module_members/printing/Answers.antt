use Rattle.std.proofs.Common.{[], ◌∷◌, List, subst}
use Rattle.std.specs.Prelude.{IfOk}
use Rattle.type_terms.specs.declared.form.Form.TheVariants as form
use Rattle.type_terms.specs.declared.form.TermId.{TermId}
use Rattle.typing_rules.specs.Members.{function}
use Rattle.typing_rules.specs.Terms as t
use Rattle.built_in_members.specs.Written.{Writes, plain_term}
use Rattle.built_in_members.proofs.Interned.{plain_tuple}
use Rattle.built_in_members.proofs.module_members.printing.Goals as goal

pub plain_function-requires-clause-given : goal.plain_function-requires-clause-given
plain_function-requires-clause-given c = plain_tuple c.new.result c.new.ensures

pub returns : goal.returns
returns c =
    subst (λ (ids : List TermId). IfOk c.plain_function.result (λ id. Writes c.args.types.now (function (t.Text ∷ []) (plain_term (form.Tuple ids))) id c.plain_function.new.types)) c.new.ensures c.plain_function.ensures

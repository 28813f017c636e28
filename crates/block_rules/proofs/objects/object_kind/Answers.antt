use Rattle.std.proofs.Common.{◌≡◌, ◌∙◌, ap, subst}
use Rattle.type_scopes.specs.Scopes.{Names, cut}
use Rattle.typing_rules.specs.DeclaredTypes.{member_fields}
use Rattle.typing_rules.specs.Terms as t
use Rattle.typing_rules.specs.TypeScopes.{TypeScope}
use Rattle.written_types.specs.Written.{Wrote}
use Rattle.declared_names.proofs.Entering.{taken_back}
use Rattle.judging.specs.Views.{term_in}
use Rattle.judging.proofs.Chains.{no_memory}
use Rattle.scope_judging.specs.Rules.{kind_within}
use Rattle.list_judging.specs.Lists.{seen_list}
use Rattle.block_rules.proofs.ObjectParts.{kind_made}
use Rattle.block_rules.proofs.objects.object_kind.Goals as goal

pub returns-in_err-push_list : goal.returns-in_err-push_list
returns-in_err-push_list c = no_memory term_in kind_within _ c.args.scopes.now _ c.args.checker.now _ c.from_residual.result c.from_residual.ensures

pub returns-in_err-kind : goal.returns-in_err-kind
returns-in_err-kind c = no_memory term_in kind_within _ c.args.scopes.now _ c.args.checker.now _ c.from_residual-in_err-kind.result c.from_residual-in_err-kind.ensures

pub returns : goal.returns
returns c =
    let scope : c.object_type.new.scope ≡ c.push_list.new.scope = c.in_ok-kind.ensures.scope in
    let back : c.truncate.new.self ≡ c.args.scopes.now.types = c.truncate.ensures ∙ (ap (λ (s : Names). cut c.len-count.result s) scope ∙ taken_back c.args.scopes.now.types c.push_list.new.scope c.len-count.result c.len-count.ensures.names c.len-count.ensures.declared c.in_ok-push_list.ensures.extends) in
    kind_made c.args.list.now c.args.scopes.now (record c.args.scopes.now { types = c.truncate.new.self }) c.args.checker.now c.object_type.new.types c.in_ok-kind.kind c.requires
    (ap (λ (s : Names). record c.args.scopes.now { types = s }) back)
    (subst (λ (s : TypeScope). Wrote c.args.checker.now.types c.object_type.new.types (t.Object (member_fields s (seen_list c.args.list.now))) c.in_ok-kind.kind) c.in_ok-push_list.ensures.seen c.in_ok-kind.ensures.made)

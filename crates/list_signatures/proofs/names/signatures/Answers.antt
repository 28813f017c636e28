use Rattle.std.proofs.Common.{◌+◌, ◌∙◌, ℕ, Err, List, Ok, ap, drop, refl, subst, take}
use Rattle.definition_rules.proofs.Adding.{take_all}
use Rattle.abstract_tree.specs.declared.declarations.Declaration.{Declaration}
use Rattle.type_scopes.specs.Scopes.{seen}
use Rattle.proper_types.proofs.Turns.{around}
use Rattle.typed_patterns.specs.Binding.{Binds}
use Rattle.typed_patterns.proofs.Joining.{handed_on}
use Rattle.typed_patterns.proofs.Several.{item_more}
use Rattle.signatures.specs.Naming.{no_more}
use Rattle.list_signatures.proofs.Bound.{all, none_bound, one_bound, one_refused, one_there}
use Rattle.list_signatures.proofs.names.signatures.Goals as goal

pub loop-one-init : goal.loop-one-init
loop-one-init c = record { scope = refl; judged = none_bound (seen c.args.scope.now) c.args.types.now c.args.sharing.now c.args.names.now c.requires }

pub loop-one-preserved : goal.loop-one-preserved
loop-one-preserved c = record {
  scope = c.in_ok-declared.ensures.scope ∙ c.loop-one.invariant.scope;
  judged = one_bound (seen c.args.scope.now) c.args.types.now c.loop-one.types c.declared.new.types c.loop-one.sharing c.declared.new.sharing c.args.names.now c.loop-one.names c.declared.new.names (take c.loop-one.one-index c.args.list.now) (take (c.loop-one.one-index + 1) c.args.list.now) c.one-item.result
      (item_more c.args.list.now c.loop-one.one-index c.one-item.result c.loop-one-test.true c.one-item.is) c.loop-one.invariant.judged
      (one_there (seen c.args.scope.now) (seen c.loop-one.scope) c.one-item.result c.get.result.now c.loop-one.types c.declared.new.types c.declared.new.sharing c.loop-one.names c.declared.new.names no_more (Ok tt) (ap seen c.loop-one.invariant.scope) c.get.ensures c.in_ok-declared.ensures.judged);
}

pub returns-in_err-declared-clause-judged : goal.returns-in_err-declared-clause-judged
returns-in_err-declared-clause-judged c =
    handed_on (all (seen c.args.scope.now) c.args.list.now) c.args.types.now c.declared.new.types c.declared.new.sharing c.args.names.now c.declared.new.names no_more c.in_err-declared.field-0.0 c.from_residual.result c.from_residual.ensures
    (one_refused (seen c.args.scope.now) c.args.types.now c.loop-one.types c.declared.new.types c.loop-one.sharing c.declared.new.sharing c.args.names.now c.loop-one.names c.declared.new.names (take c.loop-one.one-index c.args.list.now) (drop (c.loop-one.one-index + 1) c.args.list.now) c.args.list.now c.one-item.result
    c.in_err-declared.field-0.0 (around c.args.list.now c.loop-one.one-index c.one-item.result (item_more c.args.list.now c.loop-one.one-index c.one-item.result c.loop-one-test.true c.one-item.is)) c.loop-one.invariant.judged
    (one_there (seen c.args.scope.now) (seen c.loop-one.scope) c.one-item.result c.get.result.now c.loop-one.types c.declared.new.types c.declared.new.sharing c.loop-one.names c.declared.new.names no_more (Err c.in_err-declared.field-0.0) (ap seen c.loop-one.invariant.scope) c.get.ensures c.in_err-declared.ensures.judged))

pub returns-clause-judged : goal.returns-clause-judged
returns-clause-judged c =
    subst (λ (ds : List (Declaration ℕ)). Binds (all (seen c.args.scope.now) ds) c.args.types.now c.loop-one.types c.loop-one.sharing c.args.names.now c.loop-one.names (no_more tt)) (take_all c.args.list.now c.loop-one.one-index c.loop-one-test.false) c.loop-one.invariant.judged

pub returns-clause-scope : goal.returns-clause-scope
returns-clause-scope c = c.loop-one.invariant.scope

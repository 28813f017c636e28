use Rattle.std.proofs.Common.{map, option_map, ap}
use Rattle.abstract_types.specs.TypeView.{type_node}
use Rattle.abstract_tree.specs.TreeView.{plain}
use Rattle.met_types.specs.States.{State}
use Rattle.typing_rules.specs.TypedTrees.{place}
use Rattle.judging.specs.declared.checker.Checker.{Checker}
use Rattle.judging.specs.Views.{kind_reached, typed_in}
use Rattle.judging.proofs.Chains.{no_memory}
use Rattle.judging.proofs.Forms.{seen}
use Rattle.judging.proofs.Steps.{ready_on, sound_on}
use Rattle.application_rules.proofs.CalleeParts.{is_generic, is_plain}
use Rattle.application_rules.proofs.callees.callee.Goals as goal

abbrev with_terms : Checker → State → Checker
with_terms k t = record k { types = t }

pub at_types-requires-clause-ready : goal.at_types-requires-clause-ready
at_types-requires-clause-ready g c =
    ready_on c.args.checker.now (with_terms c.args.checker.now c.polymorphic.new.types) c.args.scopes.now c.args.scopes.now c.args.layer.now.site c.requires.ready
    (sound_on c.args.checker.now c.args.scopes.now c.polymorphic.new.types c.requires.ready.sound c.in_ok-generic.ensures.kept c.in_ok-generic.ensures.goes) c.in_ok-generic.ensures.goes

pub plain_callee-requires-clause-ready : goal.plain_callee-requires-clause-ready
plain_callee-requires-clause-ready g c =
    ready_on c.args.checker.now (with_terms c.args.checker.now c.polymorphic.new.types) c.args.scopes.now c.args.scopes.now c.args.layer.now.site c.requires.ready
    (sound_on c.args.checker.now c.args.scopes.now c.polymorphic.new.types c.requires.ready.sound c.in_ok-generic.ensures.kept c.in_ok-generic.ensures.goes) c.in_ok-generic.ensures.goes

pub returns-in_err-generic : goal.returns-in_err-generic
returns-in_err-generic g c = no_memory typed_in kind_reached _ c.args.scopes.now _ c.args.checker.now _ c.from_residual.result c.from_residual.ensures

pub returns-in-Some : goal.returns-in-Some
returns-in-Some g c =
    is_generic c.args.layer.now.site (plain c.args.f.now) (option_map (map type_node) c.args.types.now) c.args.scopes.now c.args.scopes.now c.args.checker.now c.polymorphic.new.types c.in_ok-generic.field-0 c.in_ok-generic.ensures
    c.at_types.new.checker c.at_types.result c.in-Some.generic c.args.f.now.note c.in-Some.is (ap place (seen (λ n. n) c.args.f.now)) c.at_types.ensures

pub returns-in-None : goal.returns-in-None
returns-in-None g c =
    is_plain c.args.layer.now.site (plain c.args.f.now) (option_map (map type_node) c.args.types.now) c.args.scopes.now c.plain_callee.new.scopes c.args.checker.now c.polymorphic.new.types c.in_ok-generic.field-0 c.in_ok-generic.ensures
    c.plain_callee.new.checker c.plain_callee.result c.in-None.is c.plain_callee.ensures

use Rattle.std.proofs.Common.{◌∙◌, ap, length, sym}
use Rattle.value_scopes.specs.declared.scopes.Scopes.{Scopes}
use Rattle.list_rules.proofs.Whole.{no_definitions, no_run, no_signatures, run_given}
use Rattle.list_rules.proofs.listing.list_within.Goals as goal

pub definitions_of-requires : goal.definitions_of-requires
definitions_of-requires g c = c.requires.ready.sound

pub signatures-requires : goal.signatures-requires
signatures-requires g c = c.in_ok-definitions_of.ensures.answer.outcome.sound

pub order_and_bodies-requires-clause-ready : goal.order_and_bodies-requires-clause-ready
order_and_bodies-requires-clause-ready g c = c.in_ok-signatures.ensures.ready c.args.lists.now.layer.site (c.in_ok-definitions_of.ensures.ready c.args.lists.now.layer.site c.requires.ready)

pub returns-in_err-definitions_of : goal.returns-in_err-definitions_of
returns-in_err-definitions_of g c =
    no_definitions c.args.lists.now.layer.site c.args.value c.args.list.now c.args.scopes.now c.definitions_of.new.scopes c.definitions_of.new.scopes c.args.checker.now c.definitions_of.new.checker c.in_err-definitions_of.field-0.0
    c.from_residual.result c.from_residual.ensures c.in_err-definitions_of.ensures.answer

pub returns-in_err-signatures : goal.returns-in_err-signatures
returns-in_err-signatures g c =
    no_signatures c.args.lists.now.layer.site c.args.value c.args.list.now c.args.scopes.now c.definitions_of.new.scopes c.args.checker.now c.definitions_of.new.checker tt c.in_ok-definitions_of.ensures.answer
    c.signatures.new.scopes c.signatures.new.scopes c.signatures.new.checker c.in_err-signatures.field-0.0 c.from_residual-in_err-signatures.result c.from_residual-in_err-signatures.ensures c.in_err-signatures.ensures.binds

pub returns-in_err-made : goal.returns-in_err-made
returns-in_err-made g c =
    no_run c.args.lists.now.layer.site c.args.value c.args.list.now c.args.scopes.now c.definitions_of.new.scopes c.args.checker.now c.definitions_of.new.checker tt c.in_ok-definitions_of.ensures.answer
    c.signatures.new.scopes c.signatures.new.checker tt c.in_ok-signatures.ensures.binds
    c.order_and_bodies.new.scopes c.order_and_bodies.new.scopes c.order_and_bodies.new.checker c.in_err-made.field-0.0 c.from_residual-in_err-made.result c.from_residual-in_err-made.ensures c.in_err-made.ensures

pub returns : goal.returns
returns g c =
    run_given c.args.lists.now.layer.site c.args.value c.args.list.now c.args.scopes.now c.definitions_of.new.scopes c.args.checker.now c.definitions_of.new.checker tt c.in_ok-definitions_of.ensures.answer
    c.signatures.new.scopes c.signatures.new.checker tt c.in_ok-signatures.ensures.binds
    c.order_and_bodies.new.scopes c.unbind.new.scopes c.order_and_bodies.new.checker c.in_ok-made.made c.len-count.result c.unbind.ensures
    (c.len-count.ensures ∙ ap (λ (z : Scopes). length z.values) (sym c.in_ok-definitions_of.ensures.answer.outcome.same)) c.in_ok-made.ensures

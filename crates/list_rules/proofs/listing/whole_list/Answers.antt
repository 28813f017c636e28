use Rattle.std.proofs.Common.{◌≡◌, ◌∙◌, ap, subst}
use Rattle.type_scopes.specs.Scopes.{cut}
use Rattle.value_scopes.specs.declared.scopes.Scopes.{Scopes}
use Rattle.declared_names.proofs.Entering.{taken_back}
use Rattle.judging.specs.Parts.{Sound}
use Rattle.judging.proofs.Chains.{no_memory}
use Rattle.list_judging.specs.Lists.{list_in, list_reached}
use Rattle.list_rules.proofs.Whole.{list_given, no_list, taken_off, typed_ready, untyped_sound}
use Rattle.list_rules.proofs.listing.whole_list.Goals as goal

pub list_within-requires-clause-ready : goal.list_within-requires-clause-ready
list_within-requires-clause-ready g c = typed_ready c.args.lists.now.layer.site c.args.scopes.now c.args.checker.now c.push_list.new.scope c.requires.ready

pub returns-in_err-push_list : goal.returns-in_err-push_list
returns-in_err-push_list g c = no_memory list_in list_reached _ c.args.scopes.now _ c.args.checker.now _ c.from_residual.result c.from_residual.ensures

pub returns-in_err-made : goal.returns-in_err-made
returns-in_err-made g c =
    no_list c.args.lists.now.layer.site c.args.value c.args.list.now c.args.scopes.now c.args.checker.now c.list_within.new.checker c.push_list.new.scope c.in_ok-push_list.ensures.seen
    c.list_within.new.scopes c.list_within.new.scopes c.in_err-made.field-0.0 c.from_residual-in_err-made.result c.from_residual-in_err-made.ensures c.in_err-made.ensures

pub returns : goal.returns
returns g c =
    let inner : c.list_within.new.scopes ≡ record c.args.scopes.now { types = c.push_list.new.scope } = c.in_ok-made.ensures.outcome.same in
    let back : record c.list_within.new.scopes { types = c.truncate.new.self } ≡ c.args.scopes.now =
    taken_off c.args.scopes.now c.list_within.new.scopes c.push_list.new.scope c.truncate.new.self inner
    (c.truncate.ensures ∙ (ap (λ (z : Scopes). cut c.len-count.result z.types) inner ∙ taken_back c.args.scopes.now.types c.push_list.new.scope c.len-count.result c.len-count.ensures.names c.len-count.ensures.declared c.in_ok-push_list.ensures.extends)) in
    list_given c.args.lists.now.layer.site c.args.value c.args.list.now c.args.scopes.now c.args.checker.now c.list_within.new.checker c.push_list.new.scope c.in_ok-push_list.ensures.seen
    c.list_within.new.scopes (record c.list_within.new.scopes { types = c.truncate.new.self }) c.in_ok-made.made back
    (untyped_sound c.args.scopes.now c.list_within.new.checker c.push_list.new.scope (subst (λ (z : Scopes). Sound c.list_within.new.checker z) inner c.in_ok-made.ensures.outcome.sound)) c.in_ok-made.ensures

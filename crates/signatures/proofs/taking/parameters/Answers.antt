use Rattle.std.proofs.Common.{◌+◌, ◌∙◌, ℕ, [], ◌∷◌, List, ap, drop, length, map, subst, sym, take}
use Rattle.std.proofs.lemmas.List.{map-append}
use Rattle.std.specs.Prelude.{slice_get}
use Rattle.definition_rules.proofs.Adding.{take_all}
use Rattle.mo_types.specs.Sub.{Each}
use Rattle.type_definitions.specs.Meanings.{term}
use Rattle.met_types.specs.States.{IsReached}
use Rattle.abstract_types.specs.declared.patterns.Pattern.{Pattern}
use Rattle.abstract_types.specs.PatternView.{plain}
use Rattle.type_scopes.specs.Scopes.{seen}
use Rattle.proper_types.proofs.Readings.{each_more, each_reached_on}
use Rattle.proper_types.proofs.Turns.{around}
use Rattle.typed_patterns.specs.Binding.{Binds, patterns_in}
use Rattle.typed_patterns.proofs.Joining.{handed_on}
use Rattle.typed_patterns.proofs.Several.{item_more}
use Rattle.signatures.specs.Taking.{one_in, parameters, taken_in}
use Rattle.signatures.proofs.Several.{none_made, one_not_taken, one_taken, one_longer, wanted_reached}
use Rattle.signatures.proofs.taking.parameters.Goals as goal

pub loop-pattern-init : goal.loop-pattern-init
loop-pattern-init c = record {
  many = ap length c.new-kinds.ensures;
  reached = subst (Each (IsReached c.args.types.now)) (sym c.new-kinds.ensures) tt;
  binds = none_made (seen c.args.scope.now) c.args.wanted.now c.args.types.now c.args.sharing.now c.args.names.now c.requires.ready c.new-kinds.result c.new-made.result c.new-kinds.ensures c.new-made.ensures;
}

pub parameter-requires-clause-reached : goal.parameter-requires-clause-reached
parameter-requires-clause-reached c = wanted_reached c.args.types.now c.loop-pattern.types c.args.wanted.now c.wanted_at-wanted.result _ c.wanted_at-wanted.ensures c.loop-pattern.invariant.binds.passed.goes c.requires.reached

pub loop-pattern-preserved : goal.loop-pattern-preserved
loop-pattern-preserved c = record {
  many = one_longer c.loop-pattern.kinds c.push.new.self (map plain (take c.loop-pattern.pattern-index c.args.patterns.now)) (map plain (take (c.loop-pattern.pattern-index + 1) c.args.patterns.now)) _ _ c.in_ok-push.ensures.ok (ap (map plain) (item_more c.args.patterns.now c.loop-pattern.pattern-index c.pattern-item.result c.loop-pattern-test.true c.pattern-item.is) ∙ map-append plain (take c.loop-pattern.pattern-index c.args.patterns.now) (c.pattern-item.result ∷ [])) c.loop-pattern.invariant.many;
  reached = each_more (IsReached c.parameter.new.types) c.loop-pattern.kinds c.push.new.self c.in_ok-kind.field-0.kind c.in_ok-push.ensures.ok (each_reached_on c.loop-pattern.types c.parameter.new.types c.loop-pattern.kinds c.in_ok-kind.ensures.judged.passed.goes c.loop-pattern.invariant.reached) c.in_ok-kind.ensures.reached;
  binds = one_taken (seen c.args.scope.now) c.args.wanted.now (map plain (take c.loop-pattern.pattern-index c.args.patterns.now)) (map plain (take (c.loop-pattern.pattern-index + 1) c.args.patterns.now)) (plain c.pattern-item.result) c.wanted_at-wanted.result (ap (map plain) (item_more c.args.patterns.now c.loop-pattern.pattern-index c.pattern-item.result c.loop-pattern-test.true c.pattern-item.is) ∙ map-append plain (take c.loop-pattern.pattern-index c.args.patterns.now) (c.pattern-item.result ∷ [])) (c.wanted_at-wanted.ensures ∙ ap (λ (n : ℕ). slice_get c.args.wanted.now n) (c.len.ensures ∙ c.loop-pattern.invariant.many)) c.args.types.now c.loop-pattern.types c.parameter.new.types c.loop-pattern.sharing c.parameter.new.sharing c.args.names.now c.loop-pattern.names c.parameter.new.names
      c.loop-pattern.kinds c.push.new.self c.loop-pattern.made c.push-in-loop-pattern.new.self c.in_ok-kind.field-0.kind c.in_ok-kind.field-0.pattern c.in_ok-push.ensures.ok c.in_ok-push-2.ensures.ok c.loop-pattern.invariant.binds c.in_ok-kind.ensures.judged;
}

pub returns-in_err-kind-clause-judged : goal.returns-in_err-kind-clause-judged
returns-in_err-kind-clause-judged c =
    handed_on (parameters (seen c.args.scope.now) (map plain c.args.patterns.now) c.args.wanted.now) c.args.types.now c.parameter.new.types c.parameter.new.sharing c.args.names.now c.parameter.new.names taken_in c.in_err-kind.field-0.0 c.from_residual.result c.from_residual.ensures
    (one_not_taken (seen c.args.scope.now) c.args.wanted.now (map plain (take c.loop-pattern.pattern-index c.args.patterns.now)) (map plain (drop (c.loop-pattern.pattern-index + 1) c.args.patterns.now)) (map plain c.args.patterns.now) (plain c.pattern-item.result) c.wanted_at-wanted.result
    (ap (map plain) (around c.args.patterns.now c.loop-pattern.pattern-index c.pattern-item.result (item_more c.args.patterns.now c.loop-pattern.pattern-index c.pattern-item.result c.loop-pattern-test.true c.pattern-item.is)) ∙ map-append plain (take c.loop-pattern.pattern-index c.args.patterns.now) (c.pattern-item.result ∷ drop (c.loop-pattern.pattern-index + 1) c.args.patterns.now)) (c.wanted_at-wanted.ensures ∙ ap (λ (n : ℕ). slice_get c.args.wanted.now n) (c.len.ensures ∙ c.loop-pattern.invariant.many)) c.args.types.now c.loop-pattern.types c.parameter.new.types c.loop-pattern.sharing c.parameter.new.sharing c.args.names.now c.loop-pattern.names c.parameter.new.names
    (λ later. (map (term later) c.loop-pattern.kinds, patterns_in c.loop-pattern.made later)) one_in taken_in c.in_err-kind.field-0.0 c.loop-pattern.invariant.binds c.in_err-kind.ensures.judged)

pub returns-clause-judged : goal.returns-clause-judged
returns-clause-judged c = subst (λ (qs : List (Pattern ℕ)). Binds (parameters (seen c.args.scope.now) (map plain qs) c.args.wanted.now) c.args.types.now c.loop-pattern.types c.loop-pattern.sharing c.args.names.now c.loop-pattern.names (λ later. (map (term later) c.loop-pattern.kinds, patterns_in c.loop-pattern.made later))) (take_all c.args.patterns.now c.loop-pattern.pattern-index c.loop-pattern-test.false) c.loop-pattern.invariant.binds

use Rattle.std.proofs.lemmas.List.{take_more}
use Rattle.std.proofs.Common.{◌∷◌, ◌++◌, [], ℕ, ap, sym, take, ◌∙◌}
use Rattle.definition_rules.proofs.Adding.{take_all}
use Rattle.abstract_types.specs.declared.patterns.Pattern.{Pattern}
use Rattle.abstract_types.specs.PatternView.{plain}
use Rattle.typing_rules.specs.DeclaredTypes.{pattern_term}
use Rattle.type_scopes.specs.Scopes.{seen}
use Rattle.declared_types.proofs.Signed.{all_made, next_made}
use Rattle.declared_types.proofs.signatures.parameter_terms.Goals as goal

pub loop-q-preserved : goal.loop-q-preserved
loop-q-preserved c = next_made (λ q. pattern_term (seen c.args.scope.now) (plain q)) c.args.types.now c.loop-q.types c.pattern_term.new.types c.args.patterns.now c.loop-q.q-index c.q-item.result c.loop-q.made c.push.new.self c.in_ok-pattern_term.field-0
    (take_more c.args.patterns.now c.loop-q.q-index c.q-item.result c.loop-q-test.true ∙ ap (λ (n : Pattern ℕ). take c.loop-q.q-index c.args.patterns.now ++ n ∷ []) (sym c.q-item.is))
    c.in_ok-push.ensures.ok c.loop-q.invariant c.in_ok-pattern_term.ensures

pub returns : goal.returns
returns c = all_made (λ q. pattern_term (seen c.args.scope.now) (plain q)) c.args.types.now c.loop-q.types c.args.patterns.now (take c.loop-q.q-index c.args.patterns.now) c.loop-q.made (take_all c.args.patterns.now c.loop-q.q-index c.loop-q-test.false) c.loop-q.invariant

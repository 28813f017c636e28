use Rattle.std.proofs.Common.{◌∙◌, sym}
use Rattle.abstract_type_walk.proofs.TypeMaking.{parameters_made, parameter_made}
use Rattle.abstract_type_walk.proofs.type_walk.TypeWalk.parameters.Goals as goal

pub returns-in_ok-number_behind-in-Parenthesized : goal.returns-in_ok-number_behind-in-Parenthesized
returns-in_ok-number_behind-in-Parenthesized g c = parameters_made c.args.a.now _ _ _ _ _ (sym c.get.ensures ∙ c.in-Parenthesized.is) (rw c.as_slice.ensures at c.in_ok-made-in-Parenthesized.ensures) c.in_ok-number_behind-in-Parenthesized.ensures

pub returns-in_ok-only-in_default : goal.returns-in_ok-only-in_default
returns-in_ok-only-in_default g c = parameter_made c.args.a.now _ _ _ _ (λ xs q. c.in_default.not-Parenthesized xs (c.get.ensures ∙ q)) c.in_ok-node-in_default.ensures c.in_ok-only-in_default.ensures

use Rattle.std.proofs.Common.{ℕ, ◌∷◌, ◌∙◌, List, ap, sym}
use Rattle.typed_patterns.specs.Making.{pattern_in}
use Rattle.typed_patterns.proofs.Standing.{variable_stands}
use Rattle.typed_patterns.proofs.leaves.variable_stands.Goals as goal

pub returns : goal.returns
returns c s =
    variable_stands s c.args.note.at c.args.note.kind c.args.types.now c.args.sharing.now c.args.names.now c.requires.ready c.args.name.now c.constant.result c.push.new.self (pattern_in c.in_ok-variable.field-0) c.constant.ensures
    (c.in_ok-push.ensures.ok ∙ ap (λ (x : List ℕ). (x, c.constant.result) ∷ c.args.names.now) c.as_slice.ensures) c.requires.reached (λ later. sym (c.in_ok-variable.ensures later))

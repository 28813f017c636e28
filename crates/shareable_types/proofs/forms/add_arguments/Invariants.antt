use Rattle.std.proofs.Common.{◌≡◌, ◌&&◌, ℕ, Bool, take}
use Rattle.mo_types.specs.Heads.{map_option}
use Rattle.shareable_types.specs.Sharing.{all, allowed}
use Rattle.shareable_types.specs.Parts.{argument_allowed}
use Rattle.shareable_types.proofs.forms.add_arguments.Given as goal

abbrev pub invariant-loop-parameter : goal.invariant-loop-parameter
invariant-loop-parameter l = (x : ℕ → Bool) → allowed x l.needs ≡ (allowed x l.fn.needs && all (argument_allowed x l.known (map_option (λ d. d.now) l.fn.definition) l.arguments) (take l.parameter-index l.parameters))

use Rattle.std.proofs.Common.{◌≡◌, ◌++◌, take, map}
use Rattle.met_types.proofs.nodes.push_fields.Given as goal

abbrev pub invariant-loop-field : goal.invariant-loop-field
invariant-loop-field l = l.out.items ≡ l.initial.out.items ++ map (λ f. f.part) (take l.field-index l.fields)

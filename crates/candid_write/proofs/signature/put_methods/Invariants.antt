use Rattle.std.proofs.Common.{◌≡◌, ◌++◌, take}
use Rattle.std.specs.List.{flat_map}
use Rattle.candid_write.specs.Signature.{method_numbers}
use Rattle.candid_write.proofs.signature.put_methods.Given as goal

abbrev pub invariant-loop-method : goal.invariant-loop-method
invariant-loop-method l = l.out.items ≡ l.initial.out.items ++ flat_map (method_numbers l.classes) (take l.method-index l.methods)

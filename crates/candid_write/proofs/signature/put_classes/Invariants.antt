use Rattle.std.proofs.Common.{◌≡◌, ◌++◌, take}
use Rattle.candid_write.specs.Signature.{class_list}
use Rattle.candid_write.proofs.signature.put_classes.Given as goal

abbrev pub invariant-loop-part : goal.invariant-loop-part
invariant-loop-part l = l.out.items ≡ l.initial.out.items ++ class_list l.classes (take l.part-index l.parts)

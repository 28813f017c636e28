use Rattle.std.proofs.Common.{◌≡◌, List, length}
use Rattle.type_terms.specs.declared.form.Form.{Form}
use Rattle.type_definitions.specs.Tables.{Later}
use Rattle.shareable_types.specs.Settled.{Valid}
use Rattle.shareable_types.proofs.sharing.settle.Given as goal

abbrev pub invariant-loop-turn : goal.invariant-loop-turn
invariant-loop-turn l = record {
  many : length l.needed.items ≡ length l.types.listed.types;
  valid : (later : List Form) → Later l.types.forms later → Valid l.any l.types.listed l.needed.items later;
}

use Rattle.std.proofs.Common.{◌≡◌, drop, map}
use Rattle.core_ir.specs.CodeView.{code_body}
use Rattle.core_ir.specs.ProgramView.{group}
use Rattle.low_emit.specs.Texts.{groups_texts}
use Rattle.program_texts.proofs.program.add_groups.Given as goal

abbrev pub invariant-loop-group : goal.invariant-loop-group
invariant-loop-group l = groups_texts (map (group code_body) (drop l.group-index l.groups)) l.table ≡ groups_texts (map (group code_body) l.groups) l.fn.table

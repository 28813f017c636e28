use Rattle.std.proofs.Common.{◌≡◌, ◌+◌, ◌++◌, drop, map}
use Rattle.typing_rules.specs.AbstractPrograms.{imports_size}
use Rattle.abstract_programs.specs.ProgramWalks.{import_view, written_import}
use Rattle.abstract_programs.proofs.program_making.abstract_imports.Given as goal

abbrev pub invariant-loop-one : goal.invariant-loop-one
invariant-loop-one l = record {
  parts : map import_view l.made ++ map written_import (drop l.one-index l.written) ≡ map written_import l.written;
  size : l.next + imports_size (drop l.one-index l.written) ≡ imports_size l.written;
}

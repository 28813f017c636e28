use Rattle.std.proofs.Common.{◌≡◌, ◌++◌, drop}
use Rattle.std.specs.List.{flat_map}
use Rattle.mo_syntax.specs.ProgramGrammar.{import_tokens}
use Rattle.mo_tokens.proofs.writing.put_imports.Given as goal

abbrev pub invariant-loop-one : goal.invariant-loop-one
invariant-loop-one l = l.initial.out ++ flat_map import_tokens l.imports ≡ l.out ++ flat_map import_tokens (drop l.one-index l.imports)

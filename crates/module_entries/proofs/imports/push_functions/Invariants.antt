use Rattle.std.proofs.Common.{◌≡◌, ◌++◌, drop}
use Rattle.module_entries.specs.Imported.{functions_of}
use Rattle.module_entries.proofs.imports.push_functions.Given as goal

abbrev pub invariant-loop-import : goal.invariant-loop-import
invariant-loop-import l = l.functions ++ functions_of (drop l.import-index l.imports) ≡ l.fn.functions ++ functions_of l.imports

use Rattle.std.proofs.Common.{◌≡◌, ◌++◌, drop}
use Rattle.std.specs.Prelude.{map}
use Rattle.wasm_tree.specs.Rules.{imported_signatures}
use Rattle.wasm_layout.specs.Modules.{imported_layout}
use Rattle.wasm_layout.proofs.module_layout.each_imported.Given as goal

abbrev pub invariant-loop-import : goal.invariant-loop-import
invariant-loop-import l =
    l.functions.items ++ map (imported_layout l.types) (imported_signatures (drop l.import-index l.imports)) ≡ map (imported_layout l.types) (imported_signatures l.imports)

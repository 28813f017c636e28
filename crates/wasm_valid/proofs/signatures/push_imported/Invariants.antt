use Rattle.std.proofs.Common.{◌≡◌, ◌++◌, drop}
use Rattle.wasm_tree.specs.Rules.{imported_signatures}
use Rattle.wasm_valid.proofs.signatures.push_imported.Given as goal

abbrev pub invariant-loop-import : goal.invariant-loop-import
invariant-loop-import l = l.indices.items ++ imported_signatures (drop l.import-index l.imports) ≡ l.fn.indices.items ++ imported_signatures l.imports

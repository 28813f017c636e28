-- What an export names.
use Rattle.std.specs.Prelude.{Option, Some, None}
use Rattle.wasm_tree.specs.declared.module_parts.ExportKind.{ExportKind}
use Rattle.wasm_tree.specs.declared.module_parts.Export.{Export}

abbrev pub kind_found : Option Export → Option ExportKind
kind_found None = None
kind_found (Some e) = Some e.kind

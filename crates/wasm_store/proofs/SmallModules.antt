-- A valid module may be loaded.
use Rattle.std.proofs.Common.{◌≤◌, List, [], ◌∷◌, length, arith}
use Rattle.std.specs.List.{AllByRecursion}
use Rattle.wasm_tree.specs.declared.types.Limits.{Limits}
use Rattle.wasm_tree.specs.declared.module_parts.Module.{Module}
use Rattle.wasm_tree.specs.Rules.{every}
use Rattle.wasm_tree.specs.Valid.{IsValidTable, ValidModule}
use Rattle.wasm_tree.specs.Load.{first_size}

pub few_globals : (m : Module) → ValidModule m → length m.globals ≤ 10000
few_globals m valid = (valid.parts.small tt).globals

first_few : (m : Module) (ls : List Limits) → AllByRecursion (IsValidTable every m) ls → first_size ls ≤ 100000
first_few m [] all = omega arith
first_few m (l ∷ ls) all = all.0.small tt

pub few_entries : (m : Module) → ValidModule m → first_size m.tables ≤ 100000
few_entries m valid = first_few m m.tables valid.parts.tables

-- The host of low code: the functions of its interface by their numbers. IC interface specification, section Overview of imports.
use Rattle.std.specs.Prelude.{slice_get}
use Rattle.wasm_tree.specs.Exec.{Host}
use Rattle.ic0_world.specs.Names.{functions}
use Rattle.ic0_world.specs.declared.world.World.{World}
use Rattle.canister_host.specs.Entries.{answer_of, call_of}

abbrev pub low_host : Host World
low_host function args memory w = answer_of (call_of (slice_get functions function) args memory w)

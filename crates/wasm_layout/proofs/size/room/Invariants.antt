use Rattle.std.proofs.Common.{◌≡◌, ◌<◌, ◌^◌, take}
use Rattle.wasm_layout.specs.Sizes.{room_of}
use Rattle.wasm_layout.proofs.Rooms.{EachSmall}
use Rattle.wasm_layout.proofs.size.room.Given as goal

abbrev pub invariant-loop-function : goal.invariant-loop-function
invariant-loop-function l = record {
  so_far : l.room ≡ room_of (take l.function-index l.functions);
  few : l.room < 2 ^ 32;
  each : EachSmall l.functions l.function-index;
}

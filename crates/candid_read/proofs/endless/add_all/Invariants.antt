use Rattle.std.proofs.Common.{◌≡◌, drop}
use Rattle.std.specs.Prelude.{nat_eq}
use Rattle.indexmap.specs.IndexSet.{insert_all}
use Rattle.candid_types.specs.Inside.{parts_of}
use Rattle.candid_read.proofs.endless.add_all.Given as goal

abbrev pub invariant-loop-field : goal.invariant-loop-field
invariant-loop-field l = insert_all nat_eq l.fn.seen.keys (parts_of l.fields) ≡ insert_all nat_eq l.seen.keys (parts_of (drop l.field-index l.fields))

use Rattle.std.proofs.Common.{◌≡◌, ◌++◌, map, take}
use Rattle.play_script.specs.declared.item.Item.TheVariants as item
use Rattle.arena_outcomes.proofs.items.with_prints.Given as goal

abbrev pub invariant-loop-line : goal.invariant-loop-line
invariant-loop-line l = l.all ≡ l.fn.items ++ map item.Print (take l.line-index l.prints)

-- The brackets that the code holds.
use Rattle.mo_depth.specs.declared.nesting.Nesting.{Nesting}
use Rattle.mo_depth.specs.Depth.{Standing}

abbrev pub standing : Nesting → Standing
standing n = (n.inner, n.outer.items)

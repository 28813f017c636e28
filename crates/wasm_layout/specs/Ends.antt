-- The exits of blocks, by one pass from the end of the code.
use Rattle.std.specs.Prelude.{◌+◌, List, [], ◌∷◌}
use Rattle.wasm_tree.specs.declared.op.Op.{Op}
use Rattle.wasm_tree.specs.declared.op.Op.TheVariants as op
use Rattle.wasm_layout.specs.declared.exits.Exit.{Exit}
use Rattle.wasm_layout.specs.declared.exits.Exits.{Exits}

abbrev pub none : Exits
none = record { behind = 0; «open» = []; found = [] }

abbrev pub first_exit : List Exit → Exit
first_exit [] = record { otherwise = 0; end = 0 }
first_exit (e ∷ es) = e

abbrev pub without_first : {A : Type 0} → List A → List A
without_first [] = []
without_first (x ∷ xs) = xs

-- One step more.
abbrev pub further : Exits → Exits
further e = record { behind = e.behind + 1; «open» = e.open; found = e.found }

-- The block begins whose end was met last.
abbrev pub begins : Exits → Exits
begins e = record { behind = e.behind + 1; «open» = without_first e.open; found = first_exit e.open ∷ e.found }

abbrev pub back : Op → Exits → Exits
back (op.Plain p) e = further e
back op.Unreachable e = further e
back (op.Block kind) e = begins e
back (op.Loop kind) e = record { behind = e.behind + 1; «open» = without_first e.open; found = e.found }
back (op.If kind) e = begins e
back op.Else e =
    record { behind = e.behind + 1; «open» = record { otherwise = e.behind; end = (first_exit e.open).end } ∷ without_first e.open; found = e.found }
back op.End e = record { behind = e.behind; «open» = record { otherwise = e.behind; end = e.behind } ∷ e.open; found = e.found }
back (op.Br l) e = further e
back (op.BrIf l) e = further e
back (op.BrTable count) e = further e
back (op.Target l) e = further e
back op.Return e = further e
back (op.Call f) e = further e
back (op.CallIndirect t) e = further e

abbrev pub backs : List Op → Exits → Exits
backs [] e = e
backs (o ∷ ops) e = back o (backs ops e)

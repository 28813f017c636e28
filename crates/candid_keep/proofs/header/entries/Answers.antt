use Rattle.std.proofs.Common.{◌-◌, ◌≤◌, List, [], ◌∷◌, ◌++◌, length, map, drop, arith, ap, ap₂, sym, ◌∙◌, length-drop}
use Rattle.std.proofs.lemmas.List.{take_all}
use Rattle.mo_types.specs.declared.wire.TableRef.{TableRef}
use Rattle.mo_types.specs.declared.wire.Wire.{Wire}
use Rattle.mo_types.specs.Wire.{map_wire}
use Rattle.candid_keep.specs.Refs.{table_ref}
use Rattle.candid_keep.proofs.Lists.{next_behind}
use Rattle.candid_keep.proofs.header.entries.Goals as goal

pub loop-number-preserved : goal.loop-number-preserved
loop-number-preserved c =
    c.in_ok-push.ensures.ok
    ∙ ap₂ (λ (l : List (Wire TableRef)) (w : Wire TableRef). l ++ w ∷ []) c.loop-number.invariant c.in_ok-head.ensures
    ∙ sym (next_behind (map_wire table_ref) c.args.shapes.now c.loop-number.number c.in-Some.shape.now (omega arith) c.in-Some.ensures)

pub returns : goal.returns
returns c =
    let shapes = c.args.shapes.now in
    let n = c.loop-number.number in
    let all : length (drop 18 shapes) ≤ n - 18 = omega (arith, length-drop 18 shapes) in
    c.loop-number.invariant ∙ ap (map (map_wire table_ref)) (take_all (n - 18) (drop 18 shapes) all)

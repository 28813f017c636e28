use Rattle.std.proofs.Common.{◌++◌, ◌∙◌, sym, ap, subst, map, arith}
use Rattle.mo_types.specs.Wire.{map_wire}
use Rattle.candid_types.specs.Shapes.{ref_of, IsTableOf}
use Rattle.candid_types.proofs.Orders.{take_whole}
use Rattle.candid_types.proofs.Tables.{slot_more, is_table, slot_wire, plain_wires}
use Rattle.candid_types.proofs.table.Shapes.new.Goals as goal

pub loop-index-preserved : goal.loop-index-preserved
loop-index-preserved c =
    ap (map (map_wire ref_of)) c.in_ok-push-2.ensures.items ∙ slot_more c.args.types.now c.loop-index.heads.items c.loop-index.index c.in_ok-head_at.field-0 (omega arith) c.loop-index.invariant c.in_ok-head_at.ensures

pub returns : goal.returns
returns c = subst (IsTableOf c.args.types.now) (sym c.from_vec.ensures) (is_table c.args.types.now c.loop-index.heads.items
    (c.loop-index.invariant ∙ ap (λ l. plain_wires c.args.types.now ++ map (slot_wire c.args.types.now) l) (take_whole c.args.types.now c.loop-index.index (omega arith))))

use Rattle.std.proofs.Common.{map}
use Rattle.std.proofs.lemmas.Result.{err_from_is_err_and}
use Rattle.mo_types.specs.Graph.{head_at}
use Rattle.mo_types.specs.Values.{HaveTypes, tree}
use Rattle.candid_types.specs.Shapes.{ref_of}
use Rattle.candid_write.proofs.Whole.{first_is}
use Rattle.candid_encode.specs.Flat.{Holds}
use Rattle.candid_encode.proofs.Heads.{refused_as}
use Rattle.candid_encode.proofs.Messages.{written, typed_parts}
use Rattle.candid_encode.proofs.message.encode_checked.Goals as goal

pub put_type_table-requires : goal.put_type_table-requires
put_type_table-requires c = first_is c.args.types.now c.in_ok-shapes.shapes c.in_ok-shapes.ensures

pub returns-in_err-put_parts-clause-refused : goal.returns-in_err-put_parts-clause-refused
returns-in_err-put_parts-clause-refused c =
    let p = err_from_is_err_and c.from_residual-in_err-put_parts.result c.from_residual-in_err-put_parts.ensures.1 in
    rw (p.1, p.2)
    (refused_as (Holds (head_at c.args.types.now) (map ref_of c.as_slice-2.result.now) c.args.values.now) (HaveTypes (head_at c.args.types.now) c.args.ids.now (tree c.args.values.now)) c.in_err-put_parts.field-0.0
    (typed_parts c.args.types.now c.args.ids.now c.args.values.now c.in_ok-arguments.arguments.items c.as_slice-2.result.now c.in_ok-arguments.ensures c.as_slice-2.ensures.value) c.in_err-put_parts.ensures)

pub returns-clause-typed : goal.returns-clause-typed
returns-clause-typed c = (written c.args.types.now c.args.ids.now c.args.values.now c.in_ok-shapes.shapes c.in_ok-arguments.arguments.items c.as_slice.result.now c.as_slice-2.result.now _ c.put_type_table.new.out c.put_parts.new.out c.in_ok-shapes.ensures c.in_ok-arguments.ensures
    c.as_slice.ensures.value c.as_slice-2.ensures.value c.new-out.ensures c.in_ok-shapes-2.ensures.header c.in_ok-put_parts.ensures.1).0

pub returns-clause-written : goal.returns-clause-written
returns-clause-written c = (written c.args.types.now c.args.ids.now c.args.values.now c.in_ok-shapes.shapes c.in_ok-arguments.arguments.items c.as_slice.result.now c.as_slice-2.result.now _ c.put_type_table.new.out c.put_parts.new.out c.in_ok-shapes.ensures c.in_ok-arguments.ensures
    c.as_slice.ensures.value c.as_slice-2.ensures.value c.new-out.ensures c.in_ok-shapes-2.ensures.header c.in_ok-put_parts.ensures.1).1

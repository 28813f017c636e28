use Rattle.std.proofs.Common.{◌≡◌, [], subst}
use Rattle.mo_types.specs.declared.node.Node.TheVariants as node
use Rattle.candid_encode.specs.Puts.{Puts, PutsPart, IsRecord}
use Rattle.candid_encode.proofs.Heads.{at_node, any_is, tuple_is, object_is}
use Rattle.candid_encode.proofs.part.put_by.Goals as goal

pub returns-in-Number : goal.returns-in-Number
returns-in-Number c = at_node (node.Number c.in-Number.kind) c.args.node.now c.args.part.now c.put_kind.result c.args.out.now c.put_kind.new.out c.in-Number.is c.put_kind.ensures

pub returns-in-Bool : goal.returns-in-Bool
returns-in-Bool c = at_node (node.Bool) c.args.node.now c.args.part.now c.put_flag.result c.args.out.now c.put_flag.new.out c.in-Bool.is c.put_flag.ensures

pub returns-in-Char : goal.returns-in-Char
returns-in-Char c = at_node (node.Char) c.args.node.now c.args.part.now c.put_char.result c.args.out.now c.put_char.new.out c.in-Char.is c.put_char.ensures

pub returns-in-Text : goal.returns-in-Text
returns-in-Text c = at_node (node.Text) c.args.node.now c.args.part.now c.put_text.result c.args.out.now c.put_text.new.out c.in-Text.is c.put_text.ensures

pub returns-in-Blob : goal.returns-in-Blob
returns-in-Blob c = at_node (node.Blob) c.args.node.now c.args.part.now c.put_blob.result c.args.out.now c.put_blob.new.out c.in-Blob.is c.put_blob.ensures

pub returns-in-Principal : goal.returns-in-Principal
returns-in-Principal c = at_node (node.Principal) c.args.node.now c.args.part.now c.put_plain_principal.result c.args.out.now c.put_plain_principal.new.out c.in-Principal.is c.put_plain_principal.ensures

pub returns-in-Null : goal.returns-in-Null
returns-in-Null c = at_node (node.Null) c.args.node.now c.args.part.now c.put_null.result c.args.out.now c.args.out.now c.in-Null.is (c.put_null.ensures c.args.out.now)

pub returns-in-Any : goal.returns-in-Any
returns-in-Any c = at_node node.Any c.args.node.now c.args.part.now c.put_record.result c.args.out.now c.args.out.now c.in-Any.is (any_is c.args.part.now c.put_record.result c.args.out.now c.args.out.now (c.put_record.ensures c.args.out.now))

pub returns-in-Opt : goal.returns-in-Opt
returns-in-Opt c = at_node (node.Opt c.in-Opt.field-0) c.args.node.now c.args.part.now c.put_option.result c.args.out.now c.put_option.new.out c.in-Opt.is (c.put_option.ensures c.in-Opt.field-0)

pub returns-in-Array : goal.returns-in-Array
returns-in-Array c = at_node (node.Array c.in-Array.field-0) c.args.node.now c.args.part.now c.put_array.result c.args.out.now c.put_array.new.out c.in-Array.is (c.put_array.ensures c.in-Array.field-0)

pub returns-in-Tuple : goal.returns-in-Tuple
returns-in-Tuple c = at_node (node.Tuple c.in-Tuple.parts) c.args.node.now c.args.part.now c.put_record-in-Tuple.result c.args.out.now c.args.out.now c.in-Tuple.is
    (tuple_is c.in-Tuple.parts c.args.part.now c.put_record-in-Tuple.result c.args.out.now c.args.out.now (subst (λ n. Puts (IsRecord n c.args.part.now) (λ b. b ≡ []) c.put_record-in-Tuple.result c.args.out.now c.args.out.now) c.len.ensures (c.put_record-in-Tuple.ensures c.args.out.now)))

pub returns-in-Object : goal.returns-in-Object
returns-in-Object c = at_node (node.Object c.in-Object.fields) c.args.node.now c.args.part.now c.put_record-in-Object.result c.args.out.now c.args.out.now c.in-Object.is
    (object_is c.in-Object.fields c.args.part.now c.put_record-in-Object.result c.args.out.now c.args.out.now (subst (λ n. Puts (IsRecord n c.args.part.now) (λ b. b ≡ []) c.put_record-in-Object.result c.args.out.now c.args.out.now) c.len-in-Object.ensures (c.put_record-in-Object.ensures c.args.out.now)))

pub returns-in-Actor : goal.returns-in-Actor
returns-in-Actor c = at_node (node.Actor c.in-Actor.field-0) c.args.node.now c.args.part.now c.put_actor.result c.args.out.now c.put_actor.new.out c.in-Actor.is (c.put_actor.ensures c.in-Actor.field-0)

pub returns-in-Variant : goal.returns-in-Variant
returns-in-Variant c = at_node (node.Variant c.in-Variant.tags) c.args.node.now c.args.part.now c.put_tag.result c.args.out.now c.put_tag.new.out c.in-Variant.is (subst (λ fs. PutsPart (node.Variant fs) c.args.part.now c.put_tag.result c.args.out.now c.put_tag.new.out) c.as_slice.ensures c.put_tag.ensures)

pub returns-in-Func : goal.returns-in-Func
returns-in-Func c = at_node (node.Func c.in-Func.sort c.in-Func.field-1 c.in-Func.field-2) c.args.node.now c.args.part.now c.put_function.result c.args.out.now c.put_function.new.out c.in-Func.is (c.put_function.ensures c.in-Func.field-1 c.in-Func.field-2)

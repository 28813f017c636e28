use Rattle.mo_types.specs.Spelling.{shortest}
use Rattle.mo_types.specs.Header.{IsField}
use Rattle.candid_write.specs.Appends.{IsRefIn}
use Rattle.candid_write.proofs.Adds.{each_more, each_all, nothing_is}
use Rattle.candid_write.proofs.header.put_each_field.Goals as goal

pub loop-field-init : goal.loop-field-init
loop-field-init c = nothing_is c.args.out.now

pub loop-field-preserved : goal.loop-field-preserved
loop-field-preserved c = each_more (λ x b. IsField shortest (IsRefIn c.args.table.now) x b) c.args.fields.now c.loop-field.field-index (record { id = 0; part = 0 }) c.args.out.now c.loop-field.out _ c.loop-field-test.true c.loop-field.invariant c.in_ok-put_field.ensures

pub returns : goal.returns
returns c = each_all (λ x b. IsField shortest (IsRefIn c.args.table.now) x b) c.args.fields.now c.loop-field.field-index c.args.out.now c.loop-field.out c.loop-field.invariant c.loop-field-test.false

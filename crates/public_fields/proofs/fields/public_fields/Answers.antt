use Rattle.std.proofs.lemmas.List.{drop_all}
use Rattle.std.proofs.Common.{◌+◌, ◌∙◌, ap, drop}
use Rattle.annotated_names.proofs.Annotated.{drop_more}
use Rattle.public_fields.proofs.Listing.{all_of, next_fine, stops_there}
use Rattle.public_fields.proofs.fields.public_fields.Goals as goal

pub loop-one-preserved : goal.loop-one-preserved
loop-one-preserved c =
    next_fine c.args.list.now (drop c.loop-one.one-index c.args.list.now) (drop (c.loop-one.one-index + 1) c.args.list.now) c.one-item.result
    (drop_more c.args.list.now c.loop-one.one-index c.one-item.result c.loop-one-test.true c.one-item.is) c.loop-one.invariant c.in_ok-field.ensures

pub returns-in_err-field : goal.returns-in_err-field
returns-in_err-field c =
    stops_there c.args.list.now (drop c.loop-one.one-index c.args.list.now) (drop (c.loop-one.one-index + 1) c.args.list.now) c.one-item.result
    (drop_more c.args.list.now c.loop-one.one-index c.one-item.result c.loop-one-test.true c.one-item.is) c.loop-one.invariant c.in_err-field.field-0.0 c.from_residual.result c.from_residual.ensures c.in_err-field.ensures

pub returns : goal.returns
returns c = c.loop-one.invariant ∙ ap all_of (drop_all c.loop-one.one-index c.args.list.now c.loop-one-test.false)

use Rattle.abstract_types.specs.TypeView.{parameter}
use Rattle.public_fields.proofs.Listing.{none_there, some_there}
use Rattle.public_fields.proofs.fields.no_generics.Goals as goal

pub returns-then-is_empty : goal.returns-then-is_empty
returns-then-is_empty c = none_there c.args.place c.args.signature.now.generics parameter c.is_empty.result c.is_empty.ensures c.if-is_empty.true

pub returns-else-is_empty : goal.returns-else-is_empty
returns-else-is_empty c = some_there c.args.place c.args.signature.now.generics parameter c.is_empty.result c.is_empty.ensures c.if-is_empty.false

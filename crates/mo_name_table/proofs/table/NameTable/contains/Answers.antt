use Rattle.std.proofs.Common.{◌∙◌, ap, is_some, Option, ℕ}
use Rattle.mo_name_table.proofs.Finding.{among}
use Rattle.mo_name_table.proofs.table.NameTable.contains.Goals as goal

pub returns : goal.returns
returns c = c.is_some.ensures ∙ (ap (λ (o : Option ℕ). is_some o) c.find.ensures.last ∙ among c.args.self.now c.args.name.now.bytes)

use Rattle.std.proofs.Common.{◌≡◌, ◌∙◌, ap}
use Rattle.low_emit.specs.Texts.{words_from}
use Rattle.text_table.proofs.Places.{ends}
use Rattle.text_table.proofs.table.TextTable.end.Goals as goal

pub returns : goal.returns
returns c = ends (λ k. k.items) c.self.inside.places.entries 1 c.self.inside.end c.self.invariant ∙ ap (words_from 1) c.self.view_is

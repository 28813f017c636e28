-- What the code lays out, as contracts see it.
use Rattle.mo_types.specs.declared.node.TypeId.{TypeId}
use Rattle.mo_types.specs.declared.layout.Laid.{Laid}
use Rattle.mo_types.specs.Layout.{Layout}

abbrev pub seen : Laid → Layout TypeId
seen l = record { form = l.form; detail = l.detail; first = l.first.now; second = l.second.now; fields = l.fields.now }

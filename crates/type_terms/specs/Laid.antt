-- What the code lays out, as contracts see it.
use Rattle.mo_types.specs.Layout.{Layout}
use Rattle.type_terms.specs.declared.form.TermId.{TermId}
use Rattle.type_terms.specs.declared.layout.Laid.{Laid}

abbrev pub seen : Laid → Layout TermId
seen l = record { form = l.form; detail = l.detail; first = l.first.now; second = l.second.now; fields = l.fields.now }

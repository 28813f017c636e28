-- The parts of the forms of the tests come before them.
use Rattle.std.proofs.Common.{ℕ, ◌<◌}
use Rattle.mo_num.specs.declared.kind.Kind.{Kind}
use Rattle.type_terms.specs.declared.form.Form.TheVariants as form
use Rattle.type_terms.specs.declared.form.TermId.{TermId}
use Rattle.type_terms.specs.Layouts.{layout}
use Rattle.type_terms.specs.Tables.{PartsBelow}

pub number_below : (n : ℕ) (k : Kind) → PartsBelow n (form.Number k)
unfolding layout
number_below n k = tt

pub option_below : (n : ℕ) (id : TermId) → id.index < n → PartsBelow n (form.Optional id)
unfolding layout
option_below n id l = (l, tt)

pub array_below : (n : ℕ) (id : TermId) → id.index < n → PartsBelow n (form.Array id)
unfolding layout
array_below n id l = (l, tt)

pub variable_below : (n : ℕ) (id : TermId) → id.index < n → PartsBelow n (form.MutableArray id)
unfolding layout
variable_below n id l = (l, tt)

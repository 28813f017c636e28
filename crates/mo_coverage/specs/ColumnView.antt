-- Columns as the code holds them.
use Rattle.std.specs.Prelude.{List, map}
use Rattle.mo_coverage.specs.declared.columns.Column.{Column}
use Rattle.mo_coverage.specs.declared.columns.Taken.{Taken}
use Rattle.mo_coverage.specs.declared.columns.Taken.TheVariants as taken
use Rattle.mo_coverage.specs.Columns as columns
use Rattle.mo_coverage.specs.Columns.{column, Taking, Took, Left}
use Rattle.mo_coverage.specs.Shapes.{all_known, known}

abbrev pub column_in : Column → columns.Column
column_in s = column s.matched (all_known s.parts.items)

abbrev pub columns_in : List Column → List columns.Column
columns_in ss = map column_in ss

abbrev pub taking_in : Taken → Taking
taking_in (taken.Parts ks) = Took (all_known ks.items)
taking_in (taken.Other k) = Left (known k)

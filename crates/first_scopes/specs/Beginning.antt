-- Where a program begins.
use Rattle.std.specs.Prelude.{false, List, [], ◌∷◌, Option, Some, None}
use Rattle.type_terms.specs.declared.form.TermId.{TermId}
use Rattle.typing_rules.specs.AbstractSyntax.{Bytes}
use Rattle.abstract_tree.specs.declared.program.Import.{Import}
use Rattle.value_scopes.specs.declared.bound.Bound.{Bound}
use Rattle.value_scopes.specs.declared.place.Around.TheVariants as around
use Rattle.value_scopes.specs.declared.place.Body.TheVariants as body
use Rattle.value_scopes.specs.declared.place.Place.{Place}

-- where the fields of a program stand
abbrev pub first_place : Place
first_place = record { returns = None; ends = false; body = body.Local; around = around.Other }

abbrev pub with_path : Import → Bytes × Bytes
with_path i = (i.name, i.path)

-- the name of a program, which stands for a value of this type
abbrev pub own_names : Option Bytes → TermId → List (Bytes × Bound)
own_names None id = []
own_names (Some x) id = (x, record { kind = id; mutable = false; generics = [] }) ∷ []

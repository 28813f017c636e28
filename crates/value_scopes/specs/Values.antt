-- The values in scope and the notes of nodes as the code has them, and what they are to the rules in a table of terms.
use Rattle.std.specs.Prelude.{List, map}
use Rattle.mo_types.specs.Sub.{Each}
use Rattle.type_terms.specs.declared.form.Form.{Form}
use Rattle.typing_rules.specs.AbstractSyntax.{Bytes}
use Rattle.typing_rules.specs.Contexts.{Bound, Scope}
use Rattle.typing_rules.specs.TypedTrees.{Note, note}
use Rattle.type_definitions.specs.Meanings.{term}
use Rattle.type_definitions.specs.Tables.{Within}
use Rattle.value_scopes.specs.declared.bound.Bound as value
use Rattle.value_scopes.specs.declared.note.Note as value_note

abbrev pub noted : List Form → value_note.Note → Note
noted later n = note n.at (term later n.kind)

abbrev pub bound_in : List Form → value.Bound → Bound
bound_in later b = record { type = term later b.kind; mutable = b.mutable; generics = b.generics }

abbrev pub scope_in : List Form → List (Bytes × value.Bound) → Scope
scope_in later s = map (λ q. (q.0, bound_in later q.1)) s

-- the types of values are terms of the table
abbrev pub Hold : List Form → List (Bytes × value.Bound) → Type 0
Hold forms s = Each (λ q. Within forms q.1.kind) s

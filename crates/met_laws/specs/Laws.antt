-- Types that are met whether or not a node has them.
use Rattle.std.specs.Prelude.{ℕ, false, List, [], ◌∷◌, None, Ok, codes}
use Rattle.mo_types.specs.Sub.{Each}
use Rattle.subtype_laws.specs.Reached.{Among}
use Rattle.typing_rules.specs.AbstractSyntax.{Program, TypeParameter}
use Rattle.typing_rules.specs.AbstractSyntax as p
use Rattle.typing_rules.specs.Answers.{answer, Comes}
use Rattle.typing_rules.specs.Definitions.{Definitions}
use Rattle.typing_rules.specs.Programs.{Checks, basics, own_types}
use Rattle.typing_rules.specs.Rows.{actor, token}
use Rattle.typing_rules.specs.Terms.{Term}
use Rattle.typing_rules.specs.Terms as t
use Rattle.typing_rules.specs.TypedTrees.{Note}
use Rattle.typing_rules.specs.TypeScopes.{TypeScope}
use Rattle.typing_rules.specs.Types.{Generics}

-- where the program is typed, these are among the types that are met
abbrev pub AreTypes : Program ℕ → List Term → Type 0
AreTypes program us = (made : Program Note) (c : Checks program (Ok made)) → Each (λ u. Among u c.met) us

abbrev pub BasicsAreTypes : Type 0
BasicsAreTypes = (program : Program ℕ) → AreTypes program basics

abbrev pub OwnTypesAreTypes : Type 0
OwnTypesAreTypes = (program : Program ℕ) → AreTypes program (own_types program)

-- where type parameters are as they have to be, they are met
abbrev pub ParametersAreTypes : Type 0
ParametersAreTypes =
    (defs : Definitions) (s : TypeScope) (gs : List TypeParameter) (met now : List Term) → Comes defs (Generics defs s gs) met (answer (Ok tt) now)
    → Each (λ g. Among (t.Parameter g.name.at) now) gs

-- `actor { func f<T>() {} }`
abbrev pub unused : Program ℕ
unused =
    actor
    (p.Then false 2
    (p.Func (token 3 (codes "f")) (record { generics = record { name = token 5 (codes "T"); bound = None } ∷ []; parameters = p.Nil; result = None }) (p.exp 9 (p.Block p.End)))
    p.End)

abbrev pub UnusedIsAType : Type 0
UnusedIsAType = AreTypes unused (t.Parameter 5 ∷ [])

-- The names of the public declarations of a list, before and after it is judged.
use Rattle.std.proofs.Common.{◌≡◌, ℕ, Bool, true, false, List, [], ◌∷◌, ◌++◌, Option, Some, None, refl, sym, ap₂, subst}
use Rattle.typing_rules.specs.AbstractSyntax.{Declaration, Declarations}
use Rattle.typing_rules.specs.AbstractSyntax as p
use Rattle.typing_rules.specs.AsyncPlaces.{Other, Local, around_of, body_of}
use Rattle.typing_rules.specs.Contexts.{Context, directly, with_values, with_types, in_body}
use Rattle.typing_rules.specs.DeclaredTypes.{within, with_list}
use Rattle.typing_rules.specs.Definitions.{Definitions}
use Rattle.typing_rules.specs.Expressions.{Judge, JudgeOne, JudgeOrder, JudgeBody, JudgeBodies}
use Rattle.typing_rules.specs.Judgements.{Case, Part as Bind}
use Rattle.typing_rules.specs.Lists.{Made, Entry as Given, Run, EndsList, of_expression, TakesMade}
use Rattle.typing_rules.specs.Patterns.{Stands}
use Rattle.typing_rules.specs.PublicFields.{PublicFields}
use Rattle.typing_rules.specs.Signatures.{Parameters, ContextOf, Signatures, DefinitionsOf, async_term}
use Rattle.typing_rules.specs.Terms.{Term, unit}
use Rattle.typing_rules.specs.TypedTrees.{Note, annotation, declared_type}
use Rattle.typing_rules.specs.Types.{Reads}
use Rattle.typing_rules.specs.TypeScopes.{term_or}
use Rattle.desugaring.specs.Expressions.{public_names}
use Rattle.desugaring.specs.FreeNames.{names_in, field_names}
use Rattle.desugaring_laws.specs.Yields.{Yields}
use Rattle.desugaring_laws.proofs.Yielding.{anything, part as after}
use Rattle.expression_laws.proofs.BoundNames.{names_kept}
use Rattle.declaration_laws.specs.Objects.{FieldsJudged}
use Rattle.block_forms.specs.Fields.{public_fields}

-- what is taken of the declarations that were evaluated: the next one, which has the names of this one, or none
abbrev One : Declaration ℕ → List Made → List Made → Type 0
One d ms ns = (m : Made) × (ms ≡ m ∷ ns) × (field_names m.1 ≡ field_names d)

abbrev TakesOf : Declaration ℕ → List Made → List Made → Type 0
TakesOf (p.Let q a) ms ns = One (p.Let q a) ms ns
TakesOf (p.Var stable x u a) ms ns = One (p.Var stable x u a) ms ns
TakesOf (p.NamedObject x fields) ms ns = One (p.NamedObject x fields) ms ns
TakesOf (p.Evaluate a) ms ns = One (p.Evaluate a) ms ns
TakesOf _ ms ns = ms ≡ ns

abbrev AreTaken : Declarations ℕ → List Made → Type 0
AreTaken p.End ms = Unit {0}
AreTaken (p.Then public n d rest) ms = (ns : List Made) × TakesOf d ms ns × AreTaken rest ns

module _ (defs : Definitions) (terms : List Term) where
  abbrev Evaluated : Declaration ℕ → Given → Type 0
  Evaluated d one = (ns : List Made) → TakesOf d (one.made ++ ns) ns

  one_evaluated : (e : Context) (n : ℕ) (d : Declaration ℕ) (v : Option Term) → Yields defs terms (JudgeOne defs (directly Other e) n d v) (Evaluated d)
  one_evaluated e n (p.Let q a) v =
      let j = Case (annotation q) (λ u. Bind (Reads defs e.types u) (λ v. Judge defs (directly Other e) a (Some v))) (λ z. Judge defs (directly (around_of q) (directly Other e)) a None) in
      after defs terms j _ (λ b. Unit {0}) (Evaluated (p.Let q a)) (anything defs terms j) (λ b z.
      after defs terms (Stands defs e.types q (declared_type e.types (annotation q) b)) _ (λ r. names_in r.1 ≡ names_in q) (Evaluated (p.Let q a)) (names_kept defs terms e.types q (declared_type e.types (annotation q) b)) (λ r h. λ ns. (_, refl, h)))
  one_evaluated e n (p.Var false x u a) v =
      let j = Case u (λ u. Bind (Reads defs e.types u) (λ v. Judge defs (directly Other e) a (Some v))) (λ z. Judge defs (directly Other e) a None) in
      after defs terms j _ (λ b. Unit {0}) (Evaluated (p.Var false x u a)) (anything defs terms j) (λ b z. λ ns. (_, refl, refl))
  one_evaluated e n (p.Var true x u a) v =
      let j = Case u (λ u. Bind (Reads defs e.types u) (λ v. Judge defs (directly Other e) a (Some v))) (λ z. Judge defs (directly Other e) a None) in
      after defs terms j _ (λ b. Unit {0}) (Evaluated (p.Var true x u a)) (anything defs terms j) (λ b z. (λ h. λ ns. (_, refl, refl), λ no. tt))
  one_evaluated e n (p.Func x g body) v = λ ns. refl
  one_evaluated e n (p.Method query context x g body) v = λ ns. refl
  one_evaluated e n (p.System x body) v = λ ns. refl
  one_evaluated e n (p.TypeAlias x parameters u) v = λ ns. refl
  one_evaluated e n (p.Class x g fields) v = λ ns. refl
  one_evaluated e n (p.NamedObject x fields) v =
      after defs terms (PublicFields fields) _ (λ z. Unit {0}) (Evaluated (p.NamedObject x fields)) (anything defs terms (PublicFields fields)) (λ z y.
      after defs terms (FieldsJudged defs (directly Other e) n fields) _ (λ q. Unit {0}) (Evaluated (p.NamedObject x fields)) (anything defs terms (FieldsJudged defs (directly Other e) n fields)) (λ q i. λ m. λ ns. (_, refl, refl)))
  one_evaluated e n (p.Evaluate a) v =
      after defs terms (Judge defs (directly Other e) a v) _ (λ b. Unit {0}) (Evaluated (p.Evaluate a)) (anything defs terms (Judge defs (directly Other e) a v)) (λ b z. λ ns. (_, refl, refl))

  abbrev Ran : Declarations ℕ → Run → Type 0
  Ran ds run = AreTaken ds run.made

  order_ran : (e : Context) (at : ℕ) (value : Bool) (ds : Declarations ℕ) (last w : Option Term) → Yields defs terms (JudgeOrder defs (directly Other e) at value ds last w) (Ran ds)
  order_ran e at value p.End last w = after defs terms (EndsList at last w) _ (λ u. Unit {0}) (Ran p.End) (anything defs terms (EndsList at last w)) (λ u i. tt)
  order_ran e at value (p.Then public n d rest) last w =
      let P = Ran (p.Then public n d rest) in
      after defs terms (JudgeOne defs (directly Other e) n d (of_expression value rest w)) _ (Evaluated d) P (one_evaluated e n d (of_expression value rest w)) (λ one i.
      after defs terms (JudgeOrder defs (directly Other (with_values one.scope e)) at value rest one.value w) _ (Ran rest) P (order_ran (with_values one.scope e) at value rest one.value w) (λ run j.
      (run.made, i run.made, j)))

  abbrev Named : Declaration ℕ → List Made → Made × List Made → Type 0
  Named d ns q = (q.1 ≡ ns) × (field_names q.0.1 ≡ field_names d)

  takes_one : (d : Declaration ℕ) (ms ns : List Made) → One d ms ns → Yields defs terms (TakesMade ms) (Named d ns)
  takes_one d ms ns i = subst (λ z. Yields defs terms (TakesMade z) (Named d ns)) (sym i.1) (refl, i.2)

  body_named : (e : Context) (n : ℕ) (d : Declaration ℕ) (ms ns : List Made) → TakesOf d ms ns → Yields defs terms (JudgeBody defs e n d ms) (Named d ns)
  body_named e n (p.Let q a) ms ns i = takes_one (p.Let q a) ms ns i
  body_named e n (p.Var stable x u a) ms ns i = takes_one (p.Var stable x u a) ms ns i
  body_named e n (p.NamedObject x fields) ms ns i = takes_one (p.NamedObject x fields) ms ns i
  body_named e n (p.Evaluate a) ms ns i = takes_one (p.Evaluate a) ms ns i
  body_named e n (p.Func x g body) ms ns i =
      let P = Named (p.Func x g body) ns in
      after defs terms (Parameters defs (within e.types g) g.parameters []) _ (λ ps. Unit {0}) P (anything defs terms (Parameters defs (within e.types g) g.parameters [])) (λ ps z.
      let j = Judge defs (in_body Local (Some (term_or (within e.types g) g.result unit)) ps.scope (with_types (within e.types g) e)) body (Some (term_or (within e.types g) g.result unit)) in
      after defs terms j _ (λ b. Unit {0}) P (anything defs terms j) (λ b y. (i, refl)))
  body_named e n (p.Method query context x g body) ms ns i =
      let P = Named (p.Method query context x g body) ns in
      after defs terms (ContextOf defs e.types context) _ (λ c. Unit {0}) P (anything defs terms (ContextOf defs e.types context)) (λ c z.
      after defs terms (Parameters defs e.types g.parameters []) _ (λ ps. Unit {0}) P (anything defs terms (Parameters defs e.types g.parameters [])) (λ ps y.
      let j = Judge defs (in_body (body_of query) (Some (async_term e.types g.result)) (ps.scope ++ c.0) e) body (Some (async_term e.types g.result)) in
      after defs terms j _ (λ b. Unit {0}) P (anything defs terms j) (λ b x'. (i, refl))))
  body_named e n (p.System x body) ms ns i =
      let j = Judge defs (in_body Local (Some unit) [] e) body (Some unit) in
      after defs terms j _ (λ b. Unit {0}) (Named (p.System x body) ns) (anything defs terms j) (λ b y. (i, refl))
  body_named e n (p.TypeAlias x parameters u) ms ns i = (i, refl)
  body_named e n (p.Class x g fields) ms ns i =
      let P = Named (p.Class x g fields) ns in
      after defs terms (Parameters defs (within e.types g) g.parameters []) _ (λ ps. Unit {0}) P (anything defs terms (Parameters defs (within e.types g) g.parameters [])) (λ ps z.
      after defs terms (PublicFields fields) _ (λ y. Unit {0}) P (anything defs terms (PublicFields fields)) (λ y x'.
      let j = FieldsJudged defs (in_body Local None ps.scope (with_types (within e.types g) e)) n fields in
      after defs terms j _ (λ q. Unit {0}) P (anything defs terms j) (λ q w. (i, refl))))

  abbrev SameNames : Declarations ℕ → Declarations Note → Type 0
  SameNames ds bs = public_names bs ≡ public_fields ds

  one_public : (public : Bool) (n : ℕ) (d : Declaration ℕ) (rest : Declarations ℕ) (m : Made) (bs : Declarations Note) → field_names m.1 ≡ field_names d → SameNames rest bs → SameNames (p.Then public n d rest) (p.Then public m.0 m.1 bs)
  one_public true n d rest m bs h k = ap₂ (λ x y. x ++ y) h k
  one_public false n d rest m bs h k = k

  bodies_named : (e : Context) (ds : Declarations ℕ) (ms : List Made) → AreTaken ds ms → Yields defs terms (JudgeBodies defs e ds ms) (SameNames ds)
  bodies_named e p.End ms i = refl
  bodies_named e (p.Then public n d rest) ms i =
      let P = SameNames (p.Then public n d rest) in
      after defs terms (JudgeBody defs e n d ms) _ (Named d i.0) P (body_named e n d ms i.0 i.1) (λ q h.
      after defs terms (JudgeBodies defs e rest q.1) _ (SameNames rest) P (subst (λ z. Yields defs terms (JudgeBodies defs e rest z) (SameNames rest)) (sym h.0) (bodies_named e rest i.0 i.2)) (λ bs k.
      one_public public n d rest q.0 bs h.1 k))

  pub names_stay : (e : Context) (at : ℕ) (fields : Declarations ℕ) → Yields defs terms (FieldsJudged defs (directly Other e) at fields) (λ q. SameNames fields q.1)
  names_stay e at fields =
      let inner = with_list e.types fields in
      let P = λ (q : Term × Declarations Note). SameNames fields q.1 in
      after defs terms (DefinitionsOf defs inner fields) _ (λ u. Unit {0}) P (anything defs terms (DefinitionsOf defs inner fields)) (λ u z.
      after defs terms (Signatures defs inner fields) _ (λ names. Unit {0}) P (anything defs terms (Signatures defs inner fields)) (λ names y.
      after defs terms (JudgeOrder defs (directly Other (with_values names (with_types inner e))) at false fields None None) _ (Ran fields) P (order_ran (with_values names (with_types inner e)) at false fields None None) (λ run i.
      after defs terms (JudgeBodies defs run.known fields run.made) _ (SameNames fields) P (bodies_named run.known fields run.made i) (λ made k. k))))

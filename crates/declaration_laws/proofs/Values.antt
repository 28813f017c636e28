-- Expressions in lists, and the values of what is declared with a type.
use Rattle.std.proofs.Common.{◌≡◌, ℕ, List, Option, Some, None, sym, subst}
use Rattle.mo_types.specs.declared.node.TypeId.{TypeId}
use Rattle.mo_types.specs.Graph.{Slot}
use Rattle.subtype_laws.specs.Reached.{Among}
use Rattle.typed_tree.specs.Typing.{Typed}
use Rattle.typed_tree.specs.Wants.{Of}
use Rattle.typing_rules.specs.AbstractSyntax.{TypeNode, Expression}
use Rattle.typing_rules.specs.AbstractSyntax as p
use Rattle.typing_rules.specs.AsyncPlaces.{Other}
use Rattle.typing_rules.specs.Contexts.{Context, directly}
use Rattle.typing_rules.specs.Definitions.{Definitions}
use Rattle.typing_rules.specs.Expressions.{Judge}
use Rattle.typing_rules.specs.Judgements.{Case, Part as Bind}
use Rattle.typing_rules.specs.Terms.{Term, unit}
use Rattle.typing_rules.specs.TypedTrees.{Note, type_of}
use Rattle.typing_rules.specs.Types.{Reads}
use Rattle.typing_rules.specs.TypeScopes.{term, term_or}
use Rattle.desugaring.specs.Expressions.{tree as written_out}
use Rattle.desugaring.specs.FreeNames.{occurring}
use Rattle.desugaring_laws.specs.GraphOf.{IsGraphOf}
use Rattle.desugaring_laws.specs.Known.{IsKnown}
use Rattle.desugaring_laws.specs.Yields.{Yields}
use Rattle.desugaring_laws.proofs.Scoping.{written_fine}
use Rattle.desugaring_laws.proofs.Yielding.{more, part as after}
use Rattle.expression_laws.specs.Results.{IsWantFine, Becomes, AreTyped}
use Rattle.expression_laws.proofs.BoundNames.{both}
use Rattle.expression_laws.proofs.Ending.{Setting, value_of, as_wanted, as_given}
use Rattle.expression_laws.proofs.Wanting.{for_all}
use Rattle.declaration_laws.specs.Made.{Standing, ValueMade, OneMade}
use Rattle.declaration_laws.specs.Laws.{ValuesAreTyped}
use Rattle.declaration_laws.proofs.Reading.{reads_term}

module _ (defs : Definitions) (slots : List Slot) (terms : List Term) (number : Term → TypeId) (graph : IsGraphOf defs slots terms number) (units : Among unit terms) (vs : List ℕ) (e : Context) (a : Expression ℕ)
    (j : AreTyped defs slots terms number e.types a) where
  abbrev pub setting : Setting
  setting = record { defs = defs; slots = slots; terms = terms; number = number; graph = graph; units = units; scope = e.types }

  abbrev pub E : Context
  E = directly Other e

  abbrev pub Stood : Type 0
  Stood = Standing defs slots terms number vs (occurring a) (directly Other e)

  -- wherever it stands
  abbrev pub Part : Option Term → p.Expression Note → Type 0
  Part w b = (s : Stood) → Becomes defs slots terms number Other e.labels s.frame s.context w b

  pub judged : (w : Option Term) → ((s : Stood) → IsWantFine defs s.context.parameters w) → Yields defs terms (Judge defs E a w) (Part w)
  judged w k =
      for_all defs terms (Judge defs E a w) (λ (s : Stood) b. Becomes defs slots terms number Other e.labels s.frame s.context w b) (λ s.
      j E s.frame s.context s.fits w (k s))

  -- a value of this type
  pub record IsAt (u : Term) (b : p.Expression Note) (s : Stood) : Type 0 where
    pub known : IsKnown defs terms s.context.parameters u
    pub typed : Typed slots (written_out defs number s.frame b) s.context (Of (number u))

  abbrev pub AtType : Term → p.Expression Note → Type 0
  AtType u b = (s : Stood) → IsAt u b s

  -- a type that is read is known wherever this stands
  pub reads_known : (u : TypeNode) → Yields defs terms (Reads defs e.types u) (λ v. ((s : Stood) → IsKnown defs terms s.context.parameters v) × (v ≡ term e.types u))
  reads_known u =
      both defs terms (Reads defs e.types u) (λ v. (s : Stood) → IsKnown defs terms s.context.parameters v) (λ v. v ≡ term e.types u)
      (for_all defs terms (Reads defs e.types u) (λ (s : Stood) v. IsKnown defs terms s.context.parameters v) (λ s. written_fine defs s.context.parameters e.types s.fits.types s.fits.bounds terms u)) (reads_term defs terms e.types u)

  at_written : (u : Term) (v : Term) → v ≡ u → (b : p.Expression Note) → ((s : Stood) → IsKnown defs terms s.context.parameters v) → Part (Some v) b → AtType u b
  at_written u v e' b k i s = subst (λ z. IsAt z b s) e' (record { known = k s; typed = as_wanted setting e.labels s.frame s.context v b (i s) })

  -- with a type that is written, or without
  pub value_at : (o : Option TypeNode) → Yields defs terms (Case o (λ u. Bind (Reads defs e.types u) (λ v. Judge defs E a (Some v))) (λ z. Judge defs E a None)) (λ b. AtType (term_or e.types o (type_of b)) b)
  value_at None =
      more defs terms (Judge defs E a None) (Part None) (λ b. AtType (type_of b) b) (judged None (λ s. tt)) (λ b i. λ s.
      record { known = (value_of setting e.labels s.frame s.context None b (i s)).known; typed = as_given setting e.labels s.frame s.context None b (i s) })
  value_at (Some u) =
      after defs terms (Reads defs e.types u) _ (λ v. ((s : Stood) → IsKnown defs terms s.context.parameters v) × (v ≡ term e.types u)) (λ b. AtType (term e.types u) b) (reads_known u) (λ v k.
      more defs terms (Judge defs E a (Some v)) (Part (Some v)) (λ b. AtType (term e.types u) b) (judged (Some v) (λ s. (k.0 s).fine)) (λ b i. at_written (term e.types u) v k.1 b k.0 i))

want_fine : (defs : Definitions) (vs ws : List ℕ) → ws ≡ vs → (w : Option Term) → IsWantFine defs vs w → IsWantFine defs ws w
want_fine defs vs ws e w k = subst (λ z. IsWantFine defs z w) (sym e) k

pub values_are_typed : ValuesAreTyped
values_are_typed defs slots terms number graph units vs e n a j w k =
    let S = setting defs slots terms number graph units vs e a j in
    after defs terms (Judge defs (directly Other e) a w) _ (Part defs slots terms number graph units vs e a j w) (λ one. OneMade defs slots terms number (ValueMade defs slots terms number vs (occurring a) (directly Other e) w one.value) one)
    (judged defs slots terms number graph units vs e a j w (λ s. want_fine defs vs s.context.parameters s.parameters w k)) (λ b i. λ s.
    ((i s).below, value_of S e.labels s.frame s.context w b (i s)))

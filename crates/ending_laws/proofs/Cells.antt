-- The cells of stable variables at the end of an actor's declarations.
use Rattle.std.proofs.Common.{◌≡◌, inl, ℕ, Bool, true, false, List, [], ◌∷◌, ◌++◌, length, None, Some, refl, sym, ap, ◌∙◌, subst}
use Rattle.std.proofs.lemmas.Slice.Eq.{bytes_eq-Decides}
use Rattle.std.specs.Prelude.{cond, slice_get}
use Rattle.mo_scopes.specs.Scopes.{named}
use Rattle.mo_types.specs.declared.node.TypeId.{TypeId}
use Rattle.mo_types.specs.Graph.{head_at}
use Rattle.mo_types.specs.Sub.{Each}
use Rattle.typed_tree.specs.OperationTypes.{Distinct}
use Rattle.typed_tree.specs.Shareable.{IsShareable}
use Rattle.typed_tree.specs.Wants.{Want, CellOf}
use Rattle.typing_rules.specs.AbstractSyntax.{Bytes, Declaration, Declarations}
use Rattle.typing_rules.specs.AbstractSyntax as p
use Rattle.typing_rules.specs.AsyncPlaces.{Local}
use Rattle.typing_rules.specs.Contexts.{Scope, variable}
use Rattle.typing_rules.specs.DeclaredTypes.{with_list}
use Rattle.typing_rules.specs.Heads.{head}
use Rattle.typing_rules.specs.Lists.{Entry as Given}
use Rattle.typing_rules.specs.Terms.{Term}
use Rattle.typing_rules.specs.Terms as t
use Rattle.typing_rules.specs.TypedTrees.{Note}
use Rattle.typing_rules.specs.TypeScopes.{TypeScope, no_types}
use Rattle.desugaring.specs.Expressions.{becomes}
use Rattle.desugaring.specs.FreeNames.{names_of, names_of_list, declared}
use Rattle.desugaring.specs.Frames.{found}
use Rattle.expression_laws.specs.Fitting.{StandsFor, AValue, ACell, AFuture, AGeneric}
use Rattle.list_laws.specs.Facts.{Fact, scope_at}
use Rattle.list_laws.specs.Standing.{StandsIn}
use Rattle.block_laws.specs.Lists.{IsMade, AreMade}
use Rattle.block_laws.specs.Order.{fact_of, facts_of}
use Rattle.block_laws.proofs.Facts.{scope_of, scope_first}
use Rattle.block_laws.proofs.Keeping.{AllBindOnly, differ_apart, differ_behind, kept}
use Rattle.block_laws.proofs.Naming.{defined_named}
use Rattle.block_laws.proofs.Whole.{all_bind_only, scope_is}
use Rattle.actor_laws.specs.Actors.{IsBehind, AreBehind}
use Rattle.program_laws.specs.Around.{stables}
use Rattle.program_laws.proofs.Around.{by_form, skip_stables, same_type}
use Rattle.ending_laws.proofs.Place.{Setting, all, base, facts, frame, known, last, end, end_is, reached, values_are}
use Rattle.ending_laws.proofs.Place as place
use Rattle.ending_laws.proofs.Sharing.{shareable_types_are_seen}

apart : true ≡ false → ⊥
apart h = cc

module _ (S : Setting) where
  abbrev s : TypeScope
  s = with_list no_types S.program.fields

  abbrev Facts : Declarations ℕ → Declarations Note → List Given → List Fact
  Facts ds made given = facts_of S.slots S.number s (all S) ds made given

  -- bound behind these to a variable of this type, which may be sent
  abbrev Cell : List Fact → Scope → Bytes × TypeId → Type 0
  Cell fs v z = (u : Term) × (z.1 ≡ S.number u) × IsShareable (head (place.defs S)) u × (named (scope_at (length fs) fs v) z.0 ≡ Some (variable u))

  shift : (x : Fact) (fs : List Fact) (v z : Scope) → z ≡ scope_of x → (zs : List (Bytes × TypeId)) → Each (Cell fs (z ++ v)) zs → Each (Cell (x ∷ fs) v) zs
  shift x fs v z e [] h = tt
  shift x fs v z e (y ∷ ys) h = (
    (h.0.0, h.0.1, h.0.2, ap (λ i. named i y.0) (scope_first x (length fs) fs v ∙ ap (λ i. scope_at (length fs) fs (i ++ v)) (sym e)) ∙ h.0.3),
    shift x fs v z e ys h.1,
  )

  abbrev One : Declaration ℕ → Given → Note → Declaration Note → Type 0
  One d one l b =
      (v : Scope) → IsMade (place.defs S) S.slots S.terms S.number [] (last S) (record (known S) { values = v }) d (Some t.unit) one (becomes (place.defs S) S.number l b) → (public_too : Bool) (rest : Declarations ℕ) (bs : Declarations Note) (ones : List Given)
      → Distinct (names_of d ++ names_of_list rest) → AllBindOnly (Facts rest bs ones) → (u : Scope) → Each (Cell (Facts rest bs ones) (one.scope ++ u)) (stables S.number bs)
      → Each (Cell (fact_of S.slots S.number s (all S) (declared b) d one.scope ∷ Facts rest bs ones) u) (stables S.number (p.Then public_too l b bs))

  -- those of the others stay so
  later : (d : Declaration ℕ) (one : Given) (l : Note) (b : Declaration Note) (v : Scope) → IsMade (place.defs S) S.slots S.terms S.number [] (last S) (record (known S) { values = v }) d (Some t.unit) one (becomes (place.defs S) S.number l b)
      → (rest : Declarations ℕ) (bs : Declarations Note) (ones : List Given) (u : Scope) → Each (Cell (Facts rest bs ones) (one.scope ++ u)) (stables S.number bs)
      → Each (Cell (fact_of S.slots S.number s (all S) (declared b) d one.scope ∷ Facts rest bs ones) u) (stables S.number bs)
  later d one l b v made rest bs ones u cells =
      shift (fact_of S.slots S.number s (all S) (declared b) d one.scope) (Facts rest bs ones) u one.scope
      (scope_is (place.defs S) S.slots S.terms S.number [] (last S) false None (known S) (all S) v d (Some t.unit) one (declared b) (becomes (place.defs S) S.number l b) made) (stables S.number bs) cells

  one_cell : (d : Declaration ℕ) (one : Given) (l : Note) (b : Declaration Note) → IsBehind (place.defs S) S.slots S.terms S.number (last S) d one (l, b) → One d one l b
  one_cell = by_form (place.defs S) S.slots S.terms S.number (last S) One
      (λ query context x g body one l query' context' y h b i. λ v made public_too rest bs ones d only u cells. later (p.Method query context x g body) one l (p.Method query' context' y h b) v made rest bs ones u cells)
      (λ x body one l y b i. λ v made public_too rest bs ones d only u cells. later (p.System x body) one l (p.System y b) v made rest bs ones u cells)
      (λ x k a one l y k' b e t. λ v made public_too rest bs ones d only u cells.
      let fs = Facts rest bs ones in
      let same : made.2.0 ≡ l.type = same_type x made.2.0 l.type (sym made.2.1 ∙ t) in
      let bound : named (scope_at (length fs) fs (one.scope ++ u)) x.bytes ≡ Some (variable l.type) =
      kept x.bytes fs only (λ i. differ_apart (x.bytes ∷ []) (names_of_list rest) d x.bytes (inl refl) (defined_named S.slots S.number s (all S) rest bs ones x.bytes i)) (length fs) (one.scope ++ u)
      ∙ (ap (λ z. named (z ++ u) x.bytes) t ∙ ap (λ z. cond z (Some (variable l.type)) (named u x.bytes)) ((bytes_eq-Decides x.bytes x.bytes).1 refl)) in (
        (l.type, refl, subst (λ z. IsShareable (head (place.defs S)) z) same made.2.2, subst (λ z. named (scope_at (length fs) fs (one.scope ++ u)) z.bytes ≡ Some (variable l.type)) (sym e) bound),
        later (p.Var true x k a) one l (p.Var true y k' b) v made rest bs ones u cells,
      ))
      (λ d one l b plain plain'. λ v made public_too rest bs ones dist only u cells.
      subst (λ zs. Each (Cell (fact_of S.slots S.number s (all S) (declared b) d one.scope ∷ Facts rest bs ones) u) zs) (sym (skip_stables S.number public_too l b bs plain')) (later d one l b v made rest bs ones u cells))

  list_cells : (v : Scope) (ds : Declarations ℕ) (given : List Given) (made : Declarations Note) → AreMade (place.defs S) S.slots S.terms S.number [] (last S) false (record (known S) { values = v }) ds None given made
      → AreBehind (place.defs S) S.slots S.terms S.number (last S) ds given made → Distinct (names_of_list ds) → (u : Scope) → Each (Cell (Facts ds made given) u) (stables S.number made)
  list_cells v p.End [] p.End m i d u = tt
  list_cells v p.End [] (p.Then public l b bs) m i d u = absurd m
  list_cells v p.End (one ∷ ones) made m i d u = absurd m
  list_cells v (p.Then public j x rest) [] made m i d u = absurd m
  list_cells v (p.Then public j x rest) (one ∷ ones) p.End m i d u = absurd m
  list_cells v (p.Then public j x rest) (one ∷ ones) (p.Then public_too l b bs) m i d u =
      one_cell x one l b i.0 v m.1 public_too rest bs ones d (all_bind_only (place.defs S) S.slots S.terms S.number [] (last S) false None (known S) (all S) (one.scope ++ v) rest ones bs m.2) u
      (list_cells (one.scope ++ v) rest ones bs m.2 i.1 (differ_behind (names_of x) (names_of_list rest) d) (one.scope ++ u))

  -- so their names stand for them
  abbrev StandsSo : Bytes × TypeId → Type 0
  StandsSo z = IsShareable (head_at S.slots) z.1 × (slice_get (end S).names (found (frame S) z.0).index ≡ Some (CellOf z.1))

  stands : (z : Bytes × TypeId) → Cell (facts S) (base S) z → StandsSo z
  stands z c =
      let r = reached S z.0 (variable c.0) (ap (λ v. named v z.0) (values_are S) ∙ c.3) in
      let i : StandsIn (place.defs S) S.slots S.terms S.number [] Local (frame S).names (end S).names z.0 (variable c.0) = (end_is S).stand z.0 r (variable c.0) c.3 in
      by i.0 i.1 (found (frame S) z.0).cell i.2
    where
      by : (w : Want TypeId) → slice_get (end S).names (found (frame S) z.0).index ≡ Some w → (cell : Bool) → StandsFor (place.defs S) S.slots S.terms S.number [] Local (variable c.0) cell w → StandsSo z
      by w e cell (AValue m g k i is) = absurd (apart m)
      by w e cell (ACell m g k i is) = (
        subst (λ t. IsShareable (head_at S.slots) t) (sym c.1) (shareable_types_are_seen (place.defs S) S.slots S.terms S.number S.graph c.0 i.there c.2),
        e ∙ ap (λ n. Some n) (is ∙ ap (λ t. CellOf t) (sym c.1)),
      )
      by w e cell (AFuture m g k a h i is) = absurd (apart m)
      by w e cell (AGeneric m g k i is) = absurd (apart m)

  all_stand : (zs : List (Bytes × TypeId)) → Each (Cell (facts S) (base S)) zs → Each StandsSo zs
  all_stand [] h = tt
  all_stand (z ∷ zs) h = (stands z h.0, all_stand zs h.1)

  pub stable_cells : Each StandsSo (stables S.number S.q.1)
  stable_cells = all_stand (stables S.number S.q.1) (list_cells (base S) S.program.fields S.m.list.given S.q.1 S.m.list.made S.m.behind_list S.o.differ (base S))

-- Lists in the order of evaluation, wherever they stand.
use Rattle.std.proofs.Common.{◌≡◌, inl, inr, ℕ, zero, Bool, true, false, not, List, [], ◌∷◌, length, map, Option, Some, None, refl, sym, ap, ◌∙◌, subst}
use Rattle.std.proofs.lemmas.Slice.Eq.{bytes_eq-Decides}
use Rattle.std.specs.Prelude.{cond, ◌||◌}
use Rattle.std.specs.List.{list_any}
use Rattle.std.specs.Str.{bytes_eq}
use Rattle.mo_scopes.specs.Scopes.{named}
use Rattle.mo_types.specs.declared.node.TypeId.{TypeId}
use Rattle.mo_types.specs.Graph.{Slot}
use Rattle.subtype_laws.specs.Reached.{Among}
use Rattle.typed_tree.specs.ActionTypes as typed
use Rattle.typed_tree.specs.Placing.{Declared}
use Rattle.typed_tree.specs.Wants.{Of}
use Rattle.typing_rules.specs.AbstractSyntax.{Bytes, Declarations}
use Rattle.typing_rules.specs.AsyncPlaces.{Other}
use Rattle.typing_rules.specs.Contexts.{Bound, Context, directly}
use Rattle.typing_rules.specs.DeclaredTypes.{with_list}
use Rattle.typing_rules.specs.Definitions.{Definitions}
use Rattle.typing_rules.specs.Terms.{Term}
use Rattle.typing_rules.specs.TypedTrees.{Note}
use Rattle.desugaring.specs.Expressions.{pieces}
use Rattle.desugaring.specs.FreeNames.{names_of_list, in_declarations, without}
use Rattle.desugaring.specs.Frames.{Frame}
use Rattle.desugaring.specs.Pieces.{arranged}
use Rattle.desugaring_laws.specs.GraphOf.{IsGraphOf}
use Rattle.expression_laws.specs.Fitting.{Fits}
use Rattle.list_laws.specs.Facts.{Fact, At, scope_at, Stands}
use Rattle.list_laws.specs.Laws.{Walked}
use Rattle.list_laws.proofs.Placed.{lists_are_typed}
use Rattle.block_laws.specs.Laws.{ListsAreWalked}
use Rattle.block_laws.specs.Lists.{AreMade, AreKept, ListMade, in_scope, behind}
use Rattle.block_laws.specs.Order.{IsInOrder, facts_of}
use Rattle.block_laws.proofs.Naming.{defined_named, facts_apart, functions_apart, facts_bound, skip_signed}
use Rattle.block_laws.proofs.Whole.{facts_are, all_bind_only, behind_all}

any_among : (bound : List Bytes) (x : Bytes) → Among x bound → list_any (λ y. bytes_eq x y) bound ≡ true
any_among [] x m = absurd m
any_among (y ∷ ys) x (inl e) = ap (λ b. b || list_any (λ z. bytes_eq x z) ys) ((bytes_eq-Decides x y).1 (sym e))
any_among (y ∷ ys) x (inr m) = by (bytes_eq x y) (any_among ys x m) where
  by : (b : Bool) → list_any (λ z. bytes_eq x z) ys ≡ true → (b || list_any (λ z. bytes_eq x z) ys) ≡ true
  by true h = refl
  by false h = h

clash : (b : Bool) → b ≡ false → b ≡ true → ⊥
clash b h i = cc

-- what is used from outside is not bound by the list
pub not_bound : (bound used : List Bytes) (y : Bytes) → Among y (without bound used) → Among y bound → ⊥
not_bound bound [] y m n = m
not_bound bound (x ∷ xs) y m n = by (list_any (λ z. bytes_eq x z) bound) refl m (λ i. not_bound bound xs y i n) where
  by : (b : Bool) → list_any (λ z. bytes_eq x z) bound ≡ b → Among y (cond (not b) (x ∷ without bound xs) (without bound xs)) → (Among y (without bound xs) → ⊥) → ⊥
  by true h i next = next i
  by false h (inl e) next = clash (list_any (λ z. bytes_eq x z) bound) h (any_among bound x (subst (λ z. Among z bound) (sym e) n))
  by false h (inr i) next = next i

module _ (defs : Definitions) (slots : List Slot) (terms : List Term) (number : Term → TypeId) (graph : IsGraphOf defs slots terms number) (e : Context) (ds : Declarations ℕ) (f : Frame) (c : typed.Context)
    (fits : Fits defs slots terms number e.types (without (names_of_list ds) (in_declarations ds)) (directly Other e) f c) (value : Bool) (w : Option Term) (q : Term × Declarations Note)
    (m : ListMade defs slots terms number c.parameters value e ds w q) (kept : AreKept defs slots terms number f c ds m.given) (o : IsInOrder defs slots number (with_list e.types ds) ds q.1) where
  abbrev k : Context
  k = in_scope e ds

  abbrev all : List Declared
  all = map (λ b. b.declared) (pieces defs number q.1)

  abbrev outer : List Bytes
  outer = without (names_of_list ds) (in_declarations ds)

  abbrev facts : List Fact
  facts = facts_of slots number (with_list e.types ds) all ds q.1 m.given

  inside : Fits defs slots terms number (with_list e.types ds) [] (directly Other (in_scope e ds)) f c
  inside = record {
    names = λ x n b h. absurd n;
    labels = fits.labels;
    returns = fits.returns;
    options = fits.options;
    body_is = fits.body_is;
    types = m.fine;
    bounds = fits.bounds;
    scope_is = refl;
  }

  made : AreMade defs slots terms number c.parameters (directly Other (record (in_scope e ds) { values = scope_at (length facts) facts (in_scope e ds).values })) value (in_scope e ds) ds w m.given q.1
  made =
      subst (λ z. AreMade defs slots terms number c.parameters (directly Other (record (in_scope e ds) { values = z })) value (in_scope e ds) ds w m.given q.1)
      (behind_all defs slots terms number c.parameters (directly Other (record (in_scope e ds) { values = behind m.given (in_scope e ds).values })) value w (in_scope e ds) all (in_scope e ds).values ds m.given q.1 m.made) m.made

  outside : (y : Bytes) → Among y outer → (b : Bound) → named (in_scope e ds).values y ≡ Some b → Stands defs slots terms number e.body (in_scope e ds).values f c outer facts f c y b
  outside y i b h = fits.names y i b (sym (skip_signed (with_list e.types ds) ds y (not_bound (names_of_list ds) (in_declarations ds) y i) e.values) ∙ h)

  pub walked : (has_value : Bool) → Walked slots (pieces defs number q.1) (At defs slots terms number e.body (in_scope e ds).values f c outer facts) (Of (number q.0)) (arranged has_value (pieces defs number q.1) f) c
  walked has_value =
      lists_are_typed defs slots terms number e.body (in_scope e ds).values f c outer facts (pieces defs number q.1) has_value (Of (number q.0))
      (facts_are defs slots terms number graph (in_scope e ds) (in_scope e ds).values f c outer facts inside all (pieces defs number q.1) has_value value w q.0
      (all_bind_only defs slots terms number c.parameters (directly Other (record (in_scope e ds) { values = scope_at (length facts) facts (in_scope e ds).values })) value w (in_scope e ds) all (in_scope e ds).values ds m.given q.1 made)
      (facts_apart slots number (with_list e.types ds) all ds q.1 m.given o.differ)
      (λ y i n. not_bound (names_of_list ds) (in_declarations ds) y i (defined_named slots number (with_list e.types ds) all ds q.1 m.given y n))
      (functions_apart slots number (with_list e.types ds) all ds q.1 m.given o.differ)
      (facts_bound slots number (with_list e.types ds) all ds q.1 m.given o.differ e.values)
      zero (in_scope e ds).values refl ds m.given q.1 None made m.known (o.used m.given) refl m.type_is kept) outside

pub lists_are_walked : ListsAreWalked
lists_are_walked defs slots terms number graph e ds f c fits value w q m kept o has_value = walked defs slots terms number graph e ds f c fits value w q m kept o has_value

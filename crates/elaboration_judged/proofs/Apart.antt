-- The functions of a judged program are typed where names of what an upgrade kept stand for nothing.
use Rattle.std.proofs.Common.{◌≡◌, ℕ, Bool, true, false, zero, suc, List, [], ◌∷◌, map, Option, Some, None, sym, ap, subst, slice_get}
use Rattle.std.specs.Prelude.{cond}
use Rattle.std.specs.Str.{bytes_eq}
use Rattle.mo_types.specs.declared.node.Node.TheVariants as node
use Rattle.mo_types.specs.declared.node.TypeId.{TypeId}
use Rattle.mo_types.specs.Graph.{Slot, head_at}
use Rattle.mo_types.specs.Sub.{Each}
use Rattle.subtype_laws.specs.Reached.{Among}
use Rattle.typed_tree.specs.declared.expression.Function.{Function}
use Rattle.typed_tree.specs.declared.program.Method.{Method}
use Rattle.typed_tree.specs.ActionTypes as typed
use Rattle.typed_tree.specs.Typing.{IsFunctionOf}
use Rattle.typed_tree.specs.View.{FunctionView}
use Rattle.typed_tree.specs.Wants.{Want}
use Rattle.typed_tree.specs.WellTyped.{sort_of, IsPublic, IsSystem}
use Rattle.typed_tree.proofs.Views.{declaration_views}
use Rattle.typing_rules.specs.AbstractSyntax.{Bytes, Named, Pattern, Signature, Expression, Declaration, Declarations}
use Rattle.typing_rules.specs.AbstractSyntax as p
use Rattle.typing_rules.specs.AsyncPlaces.{Body}
use Rattle.typing_rules.specs.Contexts.{Bound, Label, Context}
use Rattle.typing_rules.specs.Definitions.{Definitions, unfolded}
use Rattle.typing_rules.specs.DeclaredTypes.{with_list}
use Rattle.typing_rules.specs.Heads.{results}
use Rattle.typing_rules.specs.Lists.{Entry as Given}
use Rattle.typing_rules.specs.Terms.{Term, unit}
use Rattle.typing_rules.specs.Terms as t
use Rattle.typing_rules.specs.TypedTrees.{Note}
use Rattle.typing_rules.specs.TypeScopes.{TypeScope, no_types}
use Rattle.desugaring.specs.FreeNames.{occurring}
use Rattle.desugaring.specs.Frames.{Frame, found}
use Rattle.desugaring.specs.Programs.{parameters_of, result_term, context_pattern, method_function, count_behind, methods_of, system_of}
use Rattle.desugaring.specs.Programs as written
use Rattle.desugaring_laws.proofs.Graph.{head_there}
use Rattle.expression_laws.specs.Fitting.{Fits, StandsFor, AValue, ACell, AFuture, AGeneric, IsLabelled, IsReturned}
use Rattle.block_laws.specs.Lists.{method_term}
use Rattle.method_laws.specs.Methods.{method_uses, Behind, MethodMade, SystemMade}
use Rattle.actor_laws.specs.Actors.{IsBehind, AreBehind}
use Rattle.program_laws.proofs.Around.{IsPlain, by_form}
use Rattle.ending_laws.specs.Ending.{Ended}
use Rattle.ending_laws.proofs.AtEnd.{programs_end}
use Rattle.ending_laws.proofs.Place.{Setting, last}
use Rattle.ending_laws.proofs.Place as place
use Rattle.well_typed_laws.proofs.Forms.{skipped}
use Rattle.well_typed_laws.proofs.Functions.{frame, context, tuple_head}
use Rattle.elaboration_typed.specs.Standing.{unkept, without_kept}

-- ---- what stands around

get_map : (ws : List (Want TypeId)) (i : ℕ) (w : Want TypeId) → slice_get ws i ≡ Some w → slice_get (map unkept ws) i ≡ Some (unkept w)
get_map [] i w q = absurd (let z : None ≡ Some w = q in cc)
get_map (v ∷ ws) zero w q = let same : v ≡ w = cc in ap (λ x. Some (unkept x)) same
get_map (v ∷ ws) (suc i) w q = get_map ws i w q

module _ (defs : Definitions) (slots : List Slot) (terms : List Term) (number : Term → TypeId) where
  stands_unkept : (vs : List ℕ) (body : Body) (b : Bound) (cell : Bool) (w : Want TypeId) → StandsFor defs slots terms number vs body b cell w → StandsFor defs slots terms number vs body b cell (unkept w)
  stands_unkept vs body b cell w (AValue m g c k e) = AValue m g c k (ap unkept e)
  stands_unkept vs body b cell w (ACell m g c k e) = ACell m g c k (ap unkept e)
  stands_unkept vs body b cell w (AFuture m g c a h k e) = AFuture m g c a h k (λ i. ap unkept (e i))
  stands_unkept vs body b cell w (AGeneric m g c k e) = AGeneric m g c k (ap unkept e)

  labels_unkept : (f : Frame) (c : typed.Context) (x : Bytes) (l : Label) → IsLabelled defs slots terms number f c x l → IsLabelled defs slots terms number f (without_kept c) x l
  labels_unkept f c x l h = record { known = h.known; left = h.left; continued = h.continued }

  returns_unkept : (f : Frame) (c : typed.Context) (u : Term) → IsReturned defs slots terms number f c u → IsReturned defs slots terms number f (without_kept c) u
  returns_unkept f c u h = record { known = h.known; left = h.left }

  fits_unkept : (scope : TypeScope) (uses : List Bytes) (e : Context) (f : Frame) (c : typed.Context) → Fits defs slots terms number scope uses e f c → Fits defs slots terms number scope uses e f (without_kept c)
  fits_unkept scope uses e f c h = record {
    names = λ x m b q. let r = h.names x m b q in (unkept r.0, get_map c.names (found f x).index r.0 r.1, stands_unkept c.parameters e.body b (found f x).cell r.0 r.2);
    labels = λ x l q. labels_unkept f c x l (h.labels x l q);
    returns = λ u q. returns_unkept f c u (h.returns u q);
    options = h.options;
    body_is = h.body_is;
    types = h.types;
    bounds = h.bounds;
    scope_is = h.scope_is;
  }

-- ---- the functions

module _ (S : Setting) (units : Among unit S.terms) where
  ended : Ended S.program S.slots S.terms S.number S.q.1 S.m.list.given
  ended = programs_end S.program S.slots S.terms S.number S.graph S.there S.q S.m S.o

  abbrev outside : typed.Context
  outside = context S units

  abbrev around : Frame
  around = frame S units

  abbrev at_end : (uses : List Bytes) → Behind (place.defs S) S.slots S.terms S.number uses (last S)
  at_end uses =
      let e = programs_end S.program S.slots S.terms S.number S.graph S.there S.q S.m S.o in
      record {
        frame = around;
        context = without_kept outside;
        parameters = e.parameters;
        fits = fits_unkept (place.defs S) S.slots S.terms S.number (with_list no_types S.program.fields) uses (last S) around outside (e.fits (count_behind S.q.1) uses);
        plain = λ x m b h. e.plain x b h;
      }

  pub record Half (made : Declarations Note) : Type 0 where
    pub public : Each (IsPublic S.slots outside) (methods_of (place.defs S) S.number around made) → Each (IsPublic S.slots (without_kept outside)) (methods_of (place.defs S) S.number around made)
    pub system : (x : Bytes) → IsSystem S.slots (without_kept outside) (system_of (place.defs S) S.number around x made)

  abbrev One : Declaration ℕ → Given → Note → Declaration Note → Type 0
  One d one l b = (public_too : Bool) (bs : Declarations Note) → Half bs → Half (p.Then public_too l b bs)

  abbrev method_at : Note → Bool → Option (Pattern Note) → Named → Signature Note → Expression Note → Method
  method_at l query context' y h b = record {
    name = y.bytes;
    context = context_pattern (place.defs S) S.number context';
    parameters = map S.number (parameters_of l.type);
    results = map S.number (results (result_term l.type) (unfolded (place.defs S).types (result_term l.type)));
    function = method_function (place.defs S) S.number around query context' h b;
  }

  sort_is : (query : Bool) (context' : Option (Pattern Note)) (y : Named) (h : Signature Note) (b : Expression Note) (l : Note) → sort_of (method_at l query context' y h b) ≡ written.method_sort query
  sort_is query context' y h b l = ap (λ (f : FunctionView). f.how) (declaration_views.function_of (written.method_sort query) [] _ _ _)

  method_half : (query : Bool) (c : Option (Pattern ℕ)) (x : Named) (g : Signature ℕ) (body : Expression ℕ) (one : Given) (l : Note) (query' : Bool) (c' : Option (Pattern Note)) (y : Named) (h : Signature Note) (b : Expression Note)
      → MethodMade (place.defs S) S.slots S.terms S.number (method_uses c g body) (last S) query x (method_term (last S).types query g) (l, p.Method query' c' y h b) → One (p.Method query c x g body) one l (p.Method query' c' y h b)
  method_half query c x g body one l query' c' y h b i public_too bs r =
      let m = method_at l query' c' y h b in
      let z = i.3 (at_end (method_uses c g body)) in
      record {
        public = λ old. (
          record {
            name = (old.0).name;
            shared = (old.0).shared;
            parameters = (old.0).parameters;
            results = (old.0).results;
            body = (
              z.names,
              z.result,
              z.context_names,
              z.result_of,
              subst (λ v. IsFunctionOf S.slots m.function (without_kept outside) (record { sort = v; generics = []; context = z.names; parameters = m.parameters; result = z.result })) (sym (sort_is query' c' y h b l)) z.function,
            );
          },
          r.public old.1,
        );
        system = r.system;
      }

  chosen : (b : Bool) (f : Function) (o : Option Function) → IsSystem S.slots (without_kept outside) (Some f) → IsSystem S.slots (without_kept outside) o → IsSystem S.slots (without_kept outside) (cond b (Some f) o)
  chosen true f o h i = h
  chosen false f o h i = i

  system_half : (x : Named) (body : Expression ℕ) (one : Given) (l : Note) (y : Named) (b : Expression Note) → SystemMade (place.defs S) S.slots S.terms S.number (occurring body) (last S) x (l, p.System y b) → One (p.System x body) one l (p.System y b)
  system_half x body one l y b i public_too bs r =
      let unit_is : head_at S.slots (S.number unit) ≡ node.Tuple [] = head_there (place.defs S) S.slots S.terms S.number S.graph unit units (node.Tuple []) (tuple_head (place.defs S) t.Nil) in
      record { public = r.public; system = λ z. chosen (bytes_eq y.bytes z) _ (system_of (place.defs S) S.number around z bs) (S.number unit, unit_is, i.1 (at_end (occurring body))) (r.system z) }

  other_half : (d : Declaration ℕ) (one : Given) (l : Note) (b : Declaration Note) → IsPlain d → IsPlain b → One d one l b
  other_half d one l b plain plain' public_too bs r =
      let k = skipped (place.defs S) S.number l public_too b bs plain' in
      record {
        public = λ old. subst (λ ms. Each (IsPublic S.slots (without_kept outside)) ms) (sym (k.methods around)) (r.public (subst (λ ms. Each (IsPublic S.slots outside) ms) (k.methods around) old));
        system = λ x. subst (λ o. IsSystem S.slots (without_kept outside) o) (sym (k.systems around x)) (r.system x);
      }

  one_half : (d : Declaration ℕ) (one : Given) (l : Note) (b : Declaration Note) → IsBehind (place.defs S) S.slots S.terms S.number (last S) d one (l, b) → One d one l b
  one_half = by_form (place.defs S) S.slots S.terms S.number (last S) One method_half system_half (λ x u a one l y v b e t. λ public_too bs r. record { public = r.public; system = r.system }) other_half

  list_half : (ds : Declarations ℕ) (given : List Given) (made : Declarations Note) → AreBehind (place.defs S) S.slots S.terms S.number (last S) ds given made → Half made
  list_half p.End [] p.End h = record { public = λ old. tt; system = λ x. tt }
  list_half p.End [] (p.Then public l b bs) h = absurd h
  list_half p.End (one ∷ ones) made h = absurd h
  list_half (p.Then public n d ds) [] made h = absurd h
  list_half (p.Then public n d ds) (one ∷ ones) p.End h = absurd h
  list_half (p.Then public n d ds) (one ∷ ones) (p.Then public_too l b bs) h = one_half d one l b h.0 public_too bs (list_half ds ones bs h.1)

  pub half : Half S.q.1
  half = list_half S.program.fields S.m.list.given S.q.1 S.m.behind_list

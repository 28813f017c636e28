-- Public and system functions of a program, and the type of its actor.
use Rattle.std.proofs.Common.{◌≡◌, ◌≢◌, inl, inr, ℕ, suc, Bool, true, false, List, [], ◌∷◌, ◌++◌, length, map, Option, Some, refl, sym, ap, ap₂, ◌∙◌, subst}
use Rattle.std.proofs.lemmas.Slice.Eq.{bytes_eq-Decides}
use Rattle.std.specs.Prelude.{cond, if◌then◌else◌}
use Rattle.std.specs.Str.{bytes_eq}
use Rattle.mo_types.specs.declared.node.Field.{Field}
use Rattle.mo_types.specs.declared.node.Node.{Node}
use Rattle.mo_types.specs.declared.node.Node.TheVariants as node
use Rattle.mo_types.specs.declared.node.Sort.{Sort}
use Rattle.mo_types.specs.declared.node.Sort.TheVariants as sort
use Rattle.mo_types.specs.declared.node.TypeId.{TypeId}
use Rattle.mo_types.specs.Graph.{head_at}
use Rattle.mo_types.specs.Sub.{Each, Pairwise, find}
use Rattle.mo_types.specs.Values.{copies}
use Rattle.mo_subtype.specs.Renamed.{on_field}
use Rattle.subtype_laws.specs.Reached.{Among}
use Rattle.typed_tree.specs.declared.expression.Function.{Function}
use Rattle.typed_tree.specs.declared.program.Method.{Method}
use Rattle.typed_tree.specs.ActionTypes as typed
use Rattle.typed_tree.specs.Instances.{types_in}
use Rattle.typed_tree.specs.OperationTypes.{Distinct}
use Rattle.typed_tree.specs.Shareable.{PartsShareable, Shares, IsShareable}
use Rattle.typed_tree.specs.Typing.{with_names, IsFunctionOf}
use Rattle.typed_tree.specs.View.{FunctionView}
use Rattle.typed_tree.specs.Wants.{Anything, Below}
use Rattle.typed_tree.specs.WellTyped.{sort_of, IsMethodOf, AreMethods, IsPublic, IsSystem}
use Rattle.typed_tree.proofs.Views.{declaration_views}
use Rattle.typing_rules.specs.AbstractSyntax.{Bytes, Named, Pattern, Signature, Expression, Declaration, Declarations}
use Rattle.typing_rules.specs.AbstractSyntax as p
use Rattle.typing_rules.specs.DeclaredTypes.{with_list, parameter_terms}
use Rattle.typing_rules.specs.Definitions.{Definitions, unfolded}
use Rattle.typing_rules.specs.Heads.{head, results, shape}
use Rattle.typing_rules.specs.Lists.{Entry as Given}
use Rattle.typing_rules.specs.Programs.{method_fields}
use Rattle.typing_rules.specs.Signatures.{async_term, method_sort}
use Rattle.typing_rules.specs.Terms.{Term, Terms, unit, listed, listed_fields}
use Rattle.typing_rules.specs.Terms as t
use Rattle.typing_rules.specs.TypedTrees.{Note}
use Rattle.typing_rules.specs.TypeScopes.{TypeScope, no_types}
use Rattle.desugaring.specs.FreeNames.{occurring}
use Rattle.desugaring.specs.Frames.{Unnamed, Frame, with_entries}
use Rattle.desugaring.specs.Programs.{parameters_of, result_term, context_pattern, method_function, count_behind, methods_of, system_of}
use Rattle.desugaring.specs.Programs as written
use Rattle.desugaring_laws.proofs.Graph.{among_each, reflexive, head_there, parts_there}
use Rattle.list_laws.proofs.Reaching.{unequal}
use Rattle.block_laws.specs.Lists.{method_term, IsSigned, AreSigned}
use Rattle.method_laws.specs.Methods.{method_uses, Behind, MethodMade, SystemMade}
use Rattle.actor_laws.specs.Actors.{IsBehind, AreBehind}
use Rattle.actor_laws.specs.Order.{public_functions}
use Rattle.program_laws.specs.Around.{method_wants}
use Rattle.program_laws.proofs.Around.{IsPlain, by_form, skip_wants}
use Rattle.ending_laws.specs.Ending.{Ended, end_frame}
use Rattle.ending_laws.proofs.AtEnd.{programs_end}
use Rattle.ending_laws.proofs.Place.{Setting, last}
use Rattle.ending_laws.proofs.Place as place
use Rattle.ending_laws.proofs.Sharing.{shareable_types_are_seen}
use Rattle.well_typed_laws.specs.Source.{system_names, IsMethodName}
use Rattle.well_typed_laws.proofs.Forms.{skipped, skipped_source}

-- ---- heads

shared_head : (defs : Definitions) (how : Sort) (ps : Terms) (r : Term) → head defs (t.Shared how ps r) ≡ node.Func how (listed ps) (results r (unfolded defs.types r))
unfolding head
shared_head defs how ps r = refl

pub tuple_head : (defs : Definitions) (ps : Terms) → head defs (t.Tuple ps) ≡ node.Tuple (listed ps)
unfolding head
tuple_head defs ps = refl

unfolds : (defs : Definitions) (r : Term) (ps : Terms) → unfolded defs.types r ≡ t.Tuple ps → head defs r ≡ node.Tuple (listed ps)
unfolding head
unfolds defs r ps e = ap (shape defs) e

parts_sent : (defs : Definitions) (r : Term) (ps : Terms) → unfolded defs.types r ≡ t.Tuple ps → IsShareable (head defs) r → (n : ℕ) → Each (Shares (head defs) n) (listed ps)
unfolding Shares
parts_sent defs r ps e i n = subst (λ y. PartsShareable (Shares (head defs) n) y) (unfolds defs r ps e) (i.by (suc n)).1

not_local : (query : Bool) → method_sort query ≡ sort.Local → ⊥
not_local false h = cc
not_local true h = cc

-- ---- lists

each_mapped : {A B : Type 0} (f : A → B) (P : B → Type 0) (xs : List A) → ((x : A) → Among x xs → P (f x)) → Each P (map f xs)
each_mapped f P [] h = tt
each_mapped f P (x ∷ xs) h = (h x (inl refl), each_mapped f P xs (λ y m. h y (inr m)))

first_of_both : {A : Type 0} (xs ys : List A) (x : A) → Among x xs → Among x (xs ++ ys)
first_of_both [] ys x m = absurd m
first_of_both (z ∷ xs) ys x (inl e) = inl e
first_of_both (z ∷ xs) ys x (inr m) = inr (first_of_both xs ys x m)

last_of_both : {A : Type 0} (xs ys : List A) (x : A) → Among x ys → Among x (xs ++ ys)
last_of_both [] ys x m = m
last_of_both (z ∷ xs) ys x m = inr (last_of_both xs ys x m)

labelled : {A : Type 0} (fs : List (Field A)) (f : Field A) → Among f fs → Among f.label (map (λ g. g.label) fs)
labelled [] f n = absurd n
labelled (g ∷ gs) f (inl e) = inl (ap (λ z. z.label) e)
labelled (g ∷ gs) f (inr n) = inr (labelled gs f n)

-- a field of those whose labels differ is found
find_own : {A : Type 0} (fs : List (Field A)) → Distinct (map (λ f. f.label) fs) → (f : Field A) → Among f fs → find f.label fs ≡ Some f
find_own [] d f m = absurd m
find_own (x ∷ fs) d f (inl e) = ap (λ b. if b then Some x else find f.label fs) ((bytes_eq-Decides x.label f.label).1 (ap (λ g. g.label) e)) ∙ ap (λ g. Some g) e
find_own (x ∷ fs) d f (inr m) =
    ap (λ b. if b then Some x else find f.label fs) (unequal x.label f.label (λ e. among_each (λ l. x.label ≢ l) (map (λ g. g.label) fs) f.label d.0 (labelled fs f m) (sym e))) ∙ find_own fs d.1 f m

module _ (S : Setting) (units : Among unit S.terms) where
  abbrev s : TypeScope
  s = with_list no_types S.program.fields

  abbrev head_of : TypeId → Node TypeId
  head_of = head_at S.slots

  abbrev ended : Ended S.program S.slots S.terms S.number S.q.1 S.m.list.given
  ended = programs_end S.program S.slots S.terms S.number S.graph S.there S.q S.m S.o

  -- where the functions are
  abbrev pub frame : Frame
  frame = with_entries (copies (count_behind S.q.1) Unnamed) (end_frame S.program S.number S.q.1)

  abbrev pub context : typed.Context
  context = with_names (copies (count_behind S.q.1) Anything) (programs_end S.program S.slots S.terms S.number S.graph S.there S.q S.m S.o).end

  abbrev at_end : (uses : List Bytes) → Behind (place.defs S) S.slots S.terms S.number uses (last S)
  at_end uses = record { frame = frame; context = context; parameters = ended.parameters; fits = ended.fits (count_behind S.q.1) uses; plain = λ x m b h. ended.plain x b h }

  -- ---- the type of a public function

  abbrev results_of : Term → List Term
  results_of u = results (result_term u) (unfolded (place.defs S).types (result_term u))

  record IsMethodType (query : Bool) (u : Term) : Type 0 where
    is_head : head_of (S.number u) ≡ node.Func (method_sort query) (map S.number (parameters_of u)) (map S.number (results_of u))
    parameters : Each (IsShareable (head_at S.slots)) (map S.number (parameters_of u))
    results : Each (IsShareable (head_at S.slots)) (map S.number (results_of u))

  itself : (r : Term) → IsShareable (head (place.defs S)) r → (v : Term) → Among v (r ∷ []) → IsShareable (head (place.defs S)) v
  itself r i v (inl e) = subst (λ z. IsShareable (head (place.defs S)) z) e i
  itself r i v (inr n) = absurd n

  -- if the result may be sent, so may its parts
  results_sent : (r z : Term) → unfolded (place.defs S).types r ≡ z → IsShareable (head (place.defs S)) r → (v : Term) → Among v (results r z) → IsShareable (head (place.defs S)) v
  results_sent r (t.Tuple ps) e i v m = record { by = λ n. among_each (Shares (head (place.defs S)) n) (listed ps) v (parts_sent (place.defs S) r ps e i n) m }
  results_sent r (t.Number k) e i v m = itself r i v m
  results_sent r t.Boolean e i v m = itself r i v m
  results_sent r t.Character e i v m = itself r i v m
  results_sent r t.Text e i v m = itself r i v m
  results_sent r t.Blob e i v m = itself r i v m
  results_sent r t.Principal e i v m = itself r i v m
  results_sent r t.Error e i v m = itself r i v m
  results_sent r t.Null e i v m = itself r i v m
  results_sent r t.Any e i v m = itself r i v m
  results_sent r t.Bottom e i v m = itself r i v m
  results_sent r (t.Optional a) e i v m = itself r i v m
  results_sent r (t.Array a) e i v m = itself r i v m
  results_sent r (t.MutableArray a) e i v m = itself r i v m
  results_sent r (t.Object fs) e i v m = itself r i v m
  results_sent r (t.Actor fs) e i v m = itself r i v m
  results_sent r (t.Variant fs) e i v m = itself r i v m
  results_sent r (t.Function ps q) e i v m = itself r i v m
  results_sent r (t.Shared how ps q) e i v m = itself r i v m
  results_sent r (t.Async a) e i v m = itself r i v m
  results_sent r (t.Parameter at) e i v m = itself r i v m
  results_sent r (t.Use at us) e i v m = itself r i v m

  method_type : (query : Bool) (context' : Option (Pattern ℕ)) (x : Named) (g : Signature ℕ) (body : Expression ℕ) → IsSigned (place.defs S) S.terms [] s (p.Method query context' x g body) → IsMethodType query (method_term s query g)
  method_type query context' x g body k =
      let r = async_term s g.result in
      let ps = listed (parameter_terms s g.parameters) in
      let rs = results r (unfolded (place.defs S).types r) in
      let is = shared_head (place.defs S) (method_sort query) (parameter_terms s g.parameters) r in
      let seen : (v : Term) → Among v (ps ++ rs) → IsShareable (head (place.defs S)) v → IsShareable (head_at S.slots) (S.number v) =
      λ v n i. shareable_types_are_seen (place.defs S) S.slots S.terms S.number S.graph v (parts_there (place.defs S) S.slots S.terms S.number S.graph (method_term s query g) v k.0.there (subst (λ y. Among v (types_in y)) (sym is) n)) i in
      record {
        is_head = head_there (place.defs S) S.slots S.terms S.number S.graph (method_term s query g) k.0.there (node.Func (method_sort query) ps rs) is;
        parameters = each_mapped S.number (IsShareable (head_at S.slots)) ps (λ v n. seen v (first_of_both ps rs v n) (among_each (IsShareable (head (place.defs S))) ps v k.2.1 n));
        results = each_mapped S.number (IsShareable (head_at S.slots)) rs (λ v n. seen v (last_of_both ps rs v n) (results_sent r (unfolded (place.defs S).types r) refl k.2.0 v n));
      }

  -- ---- a list of an actor and what it becomes

  pub record Half (ds : Declarations ℕ) (made : Declarations Note) : Type 0 where
    pub public : Each IsMethodName (public_functions ds) → Each (IsPublic S.slots context) (methods_of (place.defs S) S.number frame made)
    pub system : (x : Bytes) → IsSystem S.slots context (system_of (place.defs S) S.number frame x made)
    pub methods : AreMethods S.slots (methods_of (place.defs S) S.number frame made) (method_wants S.number made)
    -- each is one of the fields of the actor's type
    pub fields : (fs : List (Field TypeId)) → ((f : Field TypeId) → Among f (map (on_field S.number) (listed_fields (method_fields s ds))) → Among f fs) → Distinct (map (λ f. f.label) fs)
        → Each (IsMethodOf S.slots fs) (methods_of (place.defs S) S.number frame made)
    pub many : length (listed_fields (method_fields s ds)) ≡ length (methods_of (place.defs S) S.number frame made)
    pub labels : map (λ f. f.label) (listed_fields (method_fields s ds)) ≡ public_functions ds
    pub names : system_names made ≡ system_names ds

  abbrev One : Declaration ℕ → Given → Note → Declaration Note → Type 0
  One d one l b = (public public_too : Bool) (n : ℕ) (ds : Declarations ℕ) (bs : Declarations Note) → IsSigned (place.defs S) S.terms [] s d → Half ds bs → Half (p.Then public n d ds) (p.Then public_too l b bs)

  -- a public function as it is written out
  abbrev method_at : Note → Bool → Option (Pattern Note) → Named → Signature Note → Expression Note → Method
  method_at l query context' y h b = record {
    name = y.bytes;
    context = context_pattern (place.defs S) S.number context';
    parameters = map S.number (parameters_of l.type);
    results = map S.number (results_of l.type);
    function = method_function (place.defs S) S.number frame query context' h b;
  }

  sort_is : (query : Bool) (context' : Option (Pattern Note)) (y : Named) (h : Signature Note) (b : Expression Note) (l : Note) → sort_of (method_at l query context' y h b) ≡ written.method_sort query
  sort_is query context' y h b l = ap (λ (f : FunctionView). f.how) (declaration_views.function_of (written.method_sort query) [] _ _ _)

  same_sort : (query : Bool) → written.method_sort query ≡ method_sort query
  same_sort false = refl
  same_sort true = refl

  each_below : (ts : List TypeId) → Pairwise (Below (head_at S.slots)) ts ts
  each_below [] = tt
  each_below (x ∷ xs) = (reflexive (place.defs S) S.slots S.terms S.number S.graph x, each_below xs)

  method_half : (query : Bool) (c : Option (Pattern ℕ)) (x : Named) (g : Signature ℕ) (body : Expression ℕ) (one : Given) (l : Note) (query' : Bool) (c' : Option (Pattern Note)) (y : Named) (h : Signature Note) (b : Expression Note)
      → MethodMade (place.defs S) S.slots S.terms S.number (method_uses c g body) (last S) query x (method_term s query g) (l, p.Method query' c' y h b) → One (p.Method query c x g body) one l (p.Method query' c' y h b)
  method_half query c x g body one l query' c' y h b i public public_too n ds bs k r =
      let m = method_at l query' c' y h b in
      let is : IsMethodType query l.type = subst (λ u. IsMethodType query u) (sym i.2) (method_type query c x g body k) in
      let so : sort_of m ≡ method_sort query = sort_is query' c' y h b l ∙ (ap written.method_sort i.0 ∙ same_sort query) in
      let head_is : head_at S.slots (S.number l.type) ≡ node.Func (sort_of m) m.parameters m.results = subst (λ z. head_at S.slots (S.number l.type) ≡ node.Func z m.parameters m.results) (sym so) is.is_head in
      let f : Field TypeId = record { label = x.bytes; mutable = false; part = S.number (method_term s query g) } in
      let w = at_end (method_uses c g body) in
      let z = i.3 w in
      record {
        public = λ named. (
          record {
            name = subst (λ v. IsMethodName v.bytes) (sym i.1) named.0;
            shared = λ e. not_local query (sym so ∙ e);
            parameters = is.parameters;
            results = is.results;
            body = (
              z.names,
              z.result,
              z.context_names,
              z.result_of,
              subst (λ v. IsFunctionOf S.slots m.function context (record { sort = v; generics = []; context = z.names; parameters = m.parameters; result = z.result })) (sym (sort_is query' c' y h b l)) z.function,
            );
          },
          r.public named.1,
        );
        system = r.system;
        methods = (inr (S.number l.type, head_is, refl), r.methods);
        fields = λ fs into d. (
          (
            f,
            m.parameters,
            m.results,
            subst (λ v. find v.bytes fs ≡ Some f) (sym i.1) (find_own fs d f (into f (inl refl))),
            subst (λ u. head_at S.slots (S.number u) ≡ node.Func (sort_of m) m.parameters m.results) i.2 head_is,
            each_below m.parameters,
            each_below m.results,
          ),
          r.fields fs (λ v q. into v (inr q)) d,
        );
        many = ap suc r.many;
        labels = ap (λ zs. x.bytes ∷ zs) r.labels;
        names = r.names;
      }

  chosen : (b : Bool) (f : Function) (o : Option Function) → IsSystem S.slots context (Some f) → IsSystem S.slots context o → IsSystem S.slots context (cond b (Some f) o)
  chosen true f o h i = h
  chosen false f o h i = i

  system_half : (x : Named) (body : Expression ℕ) (one : Given) (l : Note) (y : Named) (b : Expression Note) → SystemMade (place.defs S) S.slots S.terms S.number (occurring body) (last S) x (l, p.System y b) → One (p.System x body) one l (p.System y b)
  system_half x body one l y b i public public_too n ds bs k r =
      let unit_is : head_at S.slots (S.number unit) ≡ node.Tuple [] = head_there (place.defs S) S.slots S.terms S.number S.graph unit units (node.Tuple []) (tuple_head (place.defs S) t.Nil) in
      record {
        public = r.public;
        system = λ z. chosen (bytes_eq y.bytes z) _ (system_of (place.defs S) S.number frame z bs) (S.number unit, unit_is, i.1 (at_end (occurring body))) (r.system z);
        methods = r.methods;
        fields = r.fields;
        many = r.many;
        labels = r.labels;
        names = ap₂ (λ z zs. z ∷ zs) (ap (λ z. z.bytes) i.0) r.names;
      }

  other_half : (d : Declaration ℕ) (one : Given) (l : Note) (b : Declaration Note) → IsPlain d → IsPlain b → One d one l b
  other_half d one l b plain plain' public public_too n ds bs signed r =
      let k = skipped (place.defs S) S.number l public_too b bs plain' in
      let j = skipped_source s public n d ds plain in
      record {
        public = λ named. subst (λ ms. Each (IsPublic S.slots context) ms) (sym (k.methods frame)) (r.public (subst (λ xs. Each IsMethodName xs) j.functions named));
        system = λ x. subst (λ o. IsSystem S.slots context o) (sym (k.systems frame x)) (r.system x);
        methods =
            subst (λ ms. AreMethods S.slots ms (method_wants S.number (p.Then public_too l b bs))) (sym (k.methods frame))
            (subst (λ ws. AreMethods S.slots (methods_of (place.defs S) S.number frame bs) ws) (sym (skip_wants S.number public_too l b bs plain')) r.methods);
        fields = λ fs into d'.
            subst (λ ms. Each (IsMethodOf S.slots fs) ms) (sym (k.methods frame)) (r.fields fs (λ f q. into f (subst (λ gs. Among f (map (on_field S.number) (listed_fields gs))) (sym j.fields) q)) d');
        many = ap (λ gs. length (listed_fields gs)) j.fields ∙ (r.many ∙ sym (ap (λ ms. length ms) (k.methods frame)));
        labels = ap (λ gs. map (λ f. f.label) (listed_fields gs)) j.fields ∙ (r.labels ∙ sym j.functions);
        names = k.names ∙ (r.names ∙ sym j.names);
      }

  one_half : (d : Declaration ℕ) (one : Given) (l : Note) (b : Declaration Note) → IsBehind (place.defs S) S.slots S.terms S.number (last S) d one (l, b) → One d one l b
  one_half = by_form (place.defs S) S.slots S.terms S.number (last S) One method_half system_half
      (λ x u a one l y v b e t. λ public public_too n ds bs k r. record { public = r.public; system = r.system; methods = r.methods; fields = r.fields; many = r.many; labels = r.labels; names = r.names })
      other_half

  list_half : (ds : Declarations ℕ) (given : List Given) (made : Declarations Note) → AreSigned (place.defs S) S.terms [] s ds → AreBehind (place.defs S) S.slots S.terms S.number (last S) ds given made → Half ds made
  list_half p.End [] p.End k h = record { public = λ named. tt; system = λ x. tt; methods = tt; fields = λ fs into d. tt; many = refl; labels = refl; names = refl }
  list_half p.End [] (p.Then public l b bs) k h = absurd h
  list_half p.End (one ∷ ones) made k h = absurd h
  list_half (p.Then public n d ds) [] made k h = absurd h
  list_half (p.Then public n d ds) (one ∷ ones) p.End k h = absurd h
  list_half (p.Then public n d ds) (one ∷ ones) (p.Then public_too l b bs) k h = one_half d one l b h.0 public public_too n ds bs k.0 (list_half ds ones bs k.1 h.1)

  pub half : Half S.program.fields S.q.1
  half = list_half S.program.fields S.m.list.given S.q.1 S.m.list.known S.m.behind_list

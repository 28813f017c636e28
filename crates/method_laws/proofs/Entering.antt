-- In the body of a public or system function.
use Rattle.std.proofs.Common.{◌≡◌, ◌≢◌, ◌⊎◌, inl, inr, ℕ, zero, suc, false, true, Bool, not, List, [], ◌∷◌, ◌++◌, length, map, Some, None, refl, sym, ap, ◌∙◌, subst, append_assoc}
use Rattle.std.specs.Prelude.{cond, slice_get}
use Rattle.std.specs.List.{list_any}
use Rattle.std.specs.Str.{bytes_eq}
use Rattle.mo_scopes.specs.Scopes.{named}
use Rattle.mo_types.specs.declared.node.TypeId.{TypeId}
use Rattle.mo_types.specs.Graph.{Slot}
use Rattle.mo_types.specs.Heads.{async_of}
use Rattle.mo_types.specs.Sub.{Each}
use Rattle.subtype_laws.specs.Reached.{Among}
use Rattle.typed_tree.specs.ActionTypes as typed
use Rattle.typed_tree.specs.OperationTypes.{Distinct}
use Rattle.typed_tree.specs.Wants.{Want, in_function}
use Rattle.typing_rules.specs.AbstractSyntax.{Bytes}
use Rattle.typing_rules.specs.AsyncPlaces.{Body}
use Rattle.typing_rules.specs.Contexts.{Bound, Scope, Label, Context}
use Rattle.typing_rules.specs.Contexts as rules
use Rattle.typing_rules.specs.Definitions.{Definitions}
use Rattle.typing_rules.specs.Heads.{head}
use Rattle.typing_rules.specs.Terms.{Term}
use Rattle.desugaring.specs.Frames.{Entry, Unnamed, value, hidden_by, found_from, found}
use Rattle.desugaring.specs.Frames as frames
use Rattle.desugaring.specs.FreeNames.{without}
use Rattle.desugaring_laws.specs.Known.{IsKnown}
use Rattle.desugaring_laws.specs.Laws.{wants}
use Rattle.desugaring_laws.specs.Names.{Names, entered}
use Rattle.desugaring_laws.proofs.Patterns.{entered_on}
use Rattle.expression_laws.specs.Fitting.{sort_of, StandsFor, AValue, ACell, AFuture, AGeneric, Fits}
use Rattle.expression_laws.proofs.Forms.{in_right}
use Rattle.expression_laws.proofs.Naming.{names_of, names_stand, not_entered}
use Rattle.expression_laws.proofs.Outside.{outside}
use Rattle.list_laws.specs.Standing.{entry_names, StandsAt}
use Rattle.list_laws.specs.Standing as standing
use Rattle.list_laws.proofs.Reaching.{stands_beyond, unequal}
use Rattle.block_laws.proofs.Walking.{not_bound}
use Rattle.method_laws.specs.Methods.{Behind}

got_mapped : {A B : Type 0} (g : A → B) (xs : List A) (n : ℕ) (x : A) → slice_get xs n ≡ Some x → slice_get (map g xs) n ≡ Some (g x)
got_mapped g [] n x h = cc
got_mapped g (y ∷ xs) zero x h = let e : Some y ≡ Some x = h in let f : y ≡ x = cc in ap (λ z. Some (g z)) f
got_mapped g (y ∷ xs) (suc n) x h = got_mapped g xs n x h

no_label : (x : Bytes) (l : Label) → None ≡ Some l → ⊥
no_label x l h = cc

not_so : false ≡ true → ⊥
not_so e = cc

none_some : {A : Type 0} (a : A) → Some a ≡ None → ⊥
none_some a h = cc

same_some : (u v : Term) → Some u ≡ Some v → u ≡ v
same_some u v h = cc

pub among_split : (xs ys : List Bytes) (y : Bytes) → Among y (xs ++ ys) → Among y xs ⊎ Among y ys
among_split [] ys y m = inr m
among_split (x ∷ xs) ys y (inl e) = inl (inl e)
among_split (x ∷ xs) ys y (inr m) = by (among_split xs ys y m) where
  by : Among y xs ⊎ Among y ys → Among y (x ∷ xs) ⊎ Among y ys
  by (inl k) = inl (inr k)
  by (inr k) = inr k

-- ---- names of a context, of which those that a parameter has are hidden

pub hidden_apart : (ps xs : List Bytes) (y : Bytes) → Among y ps → Among y (entry_names (map (hidden_by ps) xs)) → ⊥
hidden_apart ps [] y m k = k
hidden_apart ps (x ∷ xs) y m k = by (list_any (λ z. bytes_eq x z) ps) refl k (hidden_apart ps xs y m) where
  by : (b : Bool) → list_any (λ z. bytes_eq x z) ps ≡ b → Among y (entry_names (cond b Unnamed (value x) ∷ map (hidden_by ps) xs)) → (Among y (entry_names (map (hidden_by ps) xs)) → ⊥) → ⊥
  by true h k next = next k
  by false h (inl e) next = not_bound ps (x ∷ []) x (subst (λ b. Among x (cond (not b) (x ∷ []) [])) (sym h) (inl refl)) (subst (λ z. Among z ps) (sym e) m)
  by false h (inr k) next = next k

-- another name is found as if none were hidden
hidden_found : (ps xs : List Bytes) (rest : List Entry) (y : Bytes) → (Among y ps → ⊥) → (n : ℕ) → found_from n (map (hidden_by ps) xs ++ rest) y ≡ found_from n (map value xs ++ rest) y
hidden_found ps [] rest y out n = refl
hidden_found ps (x ∷ xs) rest y out n = by (list_any (λ z. bytes_eq x z) ps) refl (hidden_found ps xs rest y out (suc n)) where
  by : (b : Bool) → list_any (λ z. bytes_eq x z) ps ≡ b → found_from (suc n) (map (hidden_by ps) xs ++ rest) y ≡ found_from (suc n) (map value xs ++ rest) y
      → found_from n (cond b Unnamed (value x) ∷ (map (hidden_by ps) xs ++ rest)) y ≡ found_from n (value x ∷ (map value xs ++ rest)) y
  by true h next =
      next ∙ sym (ap (λ b. cond b (record { index = n; cell = false }) (found_from (suc n) (map value xs ++ rest) y)) (unequal x y (λ e. out (subst (λ z. Among z ps) (sym e) (on (outside ps (x ∷ []) x (inl refl)))))))
    where
      on : Among x ps ⊎ Among x (without ps (x ∷ [])) → Among x ps
      on (inl m) = m
      on (inr m) = absurd (subst (λ b. Among x (cond (not b) (x ∷ []) [])) h m)
  by false h next = ap (λ u. cond (bytes_eq x y) (record { index = n; cell = false }) u) next

as_many_hidden : (number : Term → TypeId) (ps : List Bytes) (xs : Names) → length (wants number xs) ≡ length (map (hidden_by ps) (names_of xs))
as_many_hidden number ps [] = refl
as_many_hidden number ps (x ∷ xs) = ap suc (as_many_hidden number ps xs)

each_apart : (xs : List Bytes) (y : Bytes) → (Among y xs → ⊥) → Each (λ x. y ≢ x) xs
each_apart [] y n = tt
each_apart (x ∷ xs) y n = ((λ e. n (inl (sym e))), each_apart xs y (λ m. n (inr m)))

entered_both : (xs ys : Names) (s : Scope) → entered ys (entered xs s) ≡ (entered ys [] ++ entered xs []) ++ s
entered_both xs ys s = entered_on ys (entered xs s) ∙ (ap (λ z. entered ys [] ++ z) (entered_on xs s) ∙ sym (append_assoc (entered ys []) (entered xs []) s))

module _ (defs : Definitions) (slots : List Slot) (terms : List Term) (number : Term → TypeId) (vs : List ℕ) (body : Body) where
  abbrev StandsIn : List Entry → List (Want TypeId) → Bytes → Bound → Type 0
  StandsIn es ns y b = standing.StandsIn defs slots terms number vs body es ns y b

  -- what y stands for does what is so called
  abbrev StandsSo : Scope → List Entry → List (Want TypeId) → Bytes → Type 0
  StandsSo s es ns y = (b : Bound) → named s y ≡ Some b → StandsIn es ns y b

  only : (s : Scope) (es : List Entry) (ns : List (Want TypeId)) (y : Bytes) → StandsSo s es ns y → (z : Bytes) → Among z (y ∷ []) → StandsSo s es ns z
  only s es ns y i z (inl e) = subst (λ v. StandsSo s es ns v) e i
  only s es ns y i z (inr n) = absurd n

  -- a name of the parameters qs, of the context cs, or of neither
  method_stands : (cs qs : Names) → Distinct (names_of cs) → Distinct (names_of qs) → Each (λ x. IsKnown defs terms vs x.1) cs → Each (λ x. IsKnown defs terms vs x.1) qs → (s : Scope) (es : List Entry) (ns : List (Want TypeId)) (y : Bytes)
      → Among y (names_of qs) ⊎ ((Among y (names_of qs) → ⊥) × (Among y (names_of cs) ⊎ StandsSo s es ns y))
      → StandsSo (entered qs (entered cs s)) (map (hidden_by (names_of qs)) (names_of cs) ++ (map value (names_of qs) ++ es)) (wants number cs ++ (wants number qs ++ ns)) y
  method_stands cs qs dc dq kc kq s es ns y (inl m) b h =
      stands_beyond defs slots terms number vs body (map (hidden_by (names_of qs)) (names_of cs)) (map value (names_of qs) ++ es) (wants number cs) (wants number qs ++ ns) y b
      (hidden_apart (names_of qs) (names_of cs) y m) (as_many_hidden number (names_of qs) cs)
      (names_stand defs slots terms number vs body [] qs dq kq (entered cs s) es ns (λ z n. absurd n) y (inl m) b h)
  method_stands cs qs dc dq kc kq s es ns y (inr r) b h =
      subst (λ u. StandsAt defs slots terms number vs body u (wants number cs ++ (wants number qs ++ ns)) b) (sym (hidden_found (names_of qs) (names_of cs) (map value (names_of qs) ++ es) y r.0 zero))
      (by r.1 (sym (not_entered qs (entered cs s) y (each_apart (names_of qs) y r.0)) ∙ h))
    where
      by : Among y (names_of cs) ⊎ StandsSo s es ns y → named (entered cs s) y ≡ Some b → StandsIn (map value (names_of cs) ++ (map value (names_of qs) ++ es)) (wants number cs ++ (wants number qs ++ ns)) y b
      by (inl m) g = names_stand defs slots terms number vs body [] cs dc kc s (map value (names_of qs) ++ es) (wants number qs ++ ns) (λ z n. absurd n) y (inl m) b g
      by (inr i) g =
          names_stand defs slots terms number vs body (y ∷ []) cs dc kc s (map value (names_of qs) ++ es) (wants number qs ++ ns) (only s (map value (names_of qs) ++ es) (wants number qs ++ ns) y (λ b' g'.
          names_stand defs slots terms number vs body (y ∷ []) qs dq kq s es ns (only s es ns y i) y (inr (inl refl)) b' (not_entered qs s y (each_apart (names_of qs) y r.0) ∙ g'))) y (inr (inl refl)) b g

module _ (defs : Definitions) (slots : List Slot) (terms : List Term) (number : Term → TypeId) where
  -- a name that is none of a future stands for the same inside
  stands_behind : (vs : List ℕ) (from to : Body) (b : Bound) (cell : Bool) (w : Want TypeId) → async_of (head defs b.type) ≡ None → StandsFor defs slots terms number vs from b cell w → StandsFor defs slots terms number vs to b cell (in_function w)
  stands_behind vs from to b cell w n (AValue m g c k e) = AValue m g c k (ap (λ z. in_function z) e)
  stands_behind vs from to b cell w n (ACell m g c k e) = ACell m g c k (ap (λ z. in_function z) e)
  stands_behind vs from to b cell w n (AFuture m g c a h k e) = absurd (none_some a (sym (ap async_of h) ∙ n))
  stands_behind vs from to b cell w n (AGeneric m g c k e) = AGeneric m g c k (ap (λ z. in_function z) e)

  module _ (e : Context) (uses : List Bytes) (w : Behind defs slots terms number uses e) (to : Body) (r : Term) (known : IsKnown defs terms w.context.parameters r) where
    -- with these names first
    abbrev pub Inner : List (Want TypeId) → typed.Context
    Inner ns = record { names = ns ++ map in_function w.context.names; labels = number r ∷ []; body = sort_of to; parameters = w.context.parameters }

    base : Fits defs slots terms number e.types uses (rules.in_body to (Some r) [] e) (frames.in_function [] w.frame) (Inner [])
    base = record {
      names = λ x m b h.
          let i = w.fits.names x m b h in
          (in_function i.0, got_mapped in_function w.context.names (found w.frame x).index i.0 i.1, stands_behind w.context.parameters e.body to b (found w.frame x).cell i.0 (w.plain x m b h) i.2);
      labels = λ x l h. absurd (no_label x l h);
      returns = λ u h. record { known = subst (λ z. IsKnown defs terms w.context.parameters z) (same_some r u h) known; left = ap (λ z. Some (number z)) (same_some r u h) };
      options = λ h. absurd (not_so h);
      body_is = refl;
      types = w.fits.types;
      bounds = w.fits.bounds;
      scope_is = refl;
    }

    -- behind the names of its context, and of its parameters, which hide those
    pub body_fits : (cs qs : Names) (used : List Bytes) → Distinct (names_of cs) → Distinct (names_of qs) → Each (λ x. IsKnown defs terms w.context.parameters x.1) cs → Each (λ x. IsKnown defs terms w.context.parameters x.1) qs
        → ((x : Bytes) → Among x (without (names_of cs ++ names_of qs) used) → Among x uses)
        → Fits defs slots terms number e.types used (rules.in_body to (Some r) (entered qs [] ++ entered cs []) e) (frames.in_method (names_of cs) (names_of qs) w.frame) (Inner (wants number cs ++ wants number qs))
    body_fits cs qs used dc dq kc kq within = record {
      names = λ y m b h.
          subst (λ ns. StandsIn defs slots terms number w.context.parameters to (frames.in_method (names_of cs) (names_of qs) w.frame).names ns y b) (sym (append_assoc (wants number cs) (wants number qs) (map in_function w.context.names)))
          (method_stands defs slots terms number w.context.parameters to cs qs dc dq kc kq e.values w.frame.names (map in_function w.context.names) y (where_is y m) b (ap (λ s. named s y) (entered_both cs qs e.values) ∙ h));
      labels = λ x l h. absurd (no_label x l h);
      returns = λ u h. let i = base.returns u h in record { known = i.known; left = i.left };
      options = λ h. absurd (not_so h);
      body_is = refl;
      types = w.fits.types;
      bounds = w.fits.bounds;
      scope_is = refl;
    }
      where
        stands : (y : Bytes) → Among y uses → StandsSo defs slots terms number w.context.parameters to e.values w.frame.names (map in_function w.context.names) y
        stands y n b h = base.names y n b h

        among : (y : Bytes) → Among y (without (names_of cs ++ names_of qs) used) → (Among y (names_of qs) → ⊥) × (Among y (names_of cs) ⊎ StandsSo defs slots terms number w.context.parameters to e.values w.frame.names (map in_function w.context.names) y)
        among y n = ((λ m. not_bound (names_of cs ++ names_of qs) used y n (in_right (names_of cs) (names_of qs) y m)), inr (stands y (within y n)))

        where_is : (y : Bytes) → Among y used → Among y (names_of qs) ⊎ ((Among y (names_of qs) → ⊥) × (Among y (names_of cs) ⊎ StandsSo defs slots terms number w.context.parameters to e.values w.frame.names (map in_function w.context.names) y))
        where_is y m = by (outside (names_of qs) used y m) (outside (names_of cs ++ names_of qs) used y m) where
          by : Among y (names_of qs) ⊎ Among y (without (names_of qs) used) → Among y (names_of cs ++ names_of qs) ⊎ Among y (without (names_of cs ++ names_of qs) used)
              → Among y (names_of qs) ⊎ ((Among y (names_of qs) → ⊥) × (Among y (names_of cs) ⊎ StandsSo defs slots terms number w.context.parameters to e.values w.frame.names (map in_function w.context.names) y))
          by (inl k) i = inl k
          by (inr k) (inl i) = on (among_split (names_of cs) (names_of qs) y i) where
            on : Among y (names_of cs) ⊎ Among y (names_of qs) → Among y (names_of qs) ⊎ ((Among y (names_of qs) → ⊥) × (Among y (names_of cs) ⊎ StandsSo defs slots terms number w.context.parameters to e.values w.frame.names (map in_function w.context.names) y))
            on (inl c) = inr ((λ q. not_bound (names_of qs) used y k q), inl c)
            on (inr q) = inl q
          by (inr k) (inr i) = inr (among y i)

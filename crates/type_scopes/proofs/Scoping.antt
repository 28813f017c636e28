-- Names that are entered into a scope and found in it.
use Rattle.std.proofs.Common.{◌≡◌, ℕ, zero, suc, ◌+◌, ◌-◌, ◌<◌, ◌≤◌, Bool, true, false, cond, List, [], ◌∷◌, ◌++◌, length, take, get_or, slice_get, Option, Some, None, IfSome, IsSome, option_to_list, ◌↔◌, refl, sym, ap, ◌∙◌, subst, arith, length-append, append_assoc, append-nil}
use Rattle.std.proofs.Math.Seq.{take-append_seam}
use Rattle.std.specs.Option.{option_or}
use Rattle.std.specs.Str.{bytes_eq}
use Rattle.mo_name_table.specs.Places.{last_place, later}
use Rattle.mo_name_table.proofs.Finding.{within}
use Rattle.typing_rules.specs.AbstractSyntax.{Bytes}
use Rattle.typing_rules.specs.TypeScopes.{TypeName, IsParameter, IsDefinition, TypeScope, no_types, type_named}
use Rattle.type_scopes.specs.declared.scope.Declared.{Declared}
use Rattle.type_scopes.specs.declared.scope.Declared.TheVariants as declared
use Rattle.type_scopes.specs.Scopes.{Counts, Fit, Names, enter, entered, named, named_at, outer_of, parameters_of, seen, both, with}

pub entered_more : (s : TypeScope) (xs : List Bytes) (ds : List Declared) (x : Bytes) (d : Declared) → length xs ≡ length ds → entered s (xs ++ x ∷ []) (ds ++ d ∷ []) ≡ enter (entered s xs ds) x d
entered_more s [] [] x d h = refl
entered_more s [] (e ∷ ds) x d h = absurd (omega arith)
entered_more s (y ∷ xs) [] x d h = absurd (omega arith)
entered_more s (y ∷ xs) (e ∷ ds) x d h = entered_more (enter s y e) xs ds x d (omega arith)

pub entered_parameters : (s : TypeScope) (xs : List Bytes) (ds : List Declared) → length xs ≡ length ds → (entered s xs ds).parameters ≡ s.parameters ++ parameters_of ds
entered_parameters s [] [] h = sym (append-nil s.parameters)
entered_parameters s [] (e ∷ ds) h = absurd (omega arith)
entered_parameters s (y ∷ xs) [] h = absurd (omega arith)
entered_parameters s (y ∷ xs) (declared.Parameter at ∷ ds) h =
    entered_parameters (enter s y (declared.Parameter at)) xs ds (omega arith) ∙ append_assoc s.parameters (at ∷ []) (parameters_of ds)
entered_parameters s (y ∷ xs) (declared.Definition at outer own ∷ ds) h = entered_parameters (enter s y (declared.Definition at outer own)) xs ds (omega arith)

-- ---- what is found

-- what a name means as it is entered
entered_as : TypeScope → Declared → TypeName
entered_as s (declared.Parameter at) = IsParameter at
entered_as s (declared.Definition at outer own) = IsDefinition at s.parameters own

there : (ps : List ℕ) (ds : List Declared) (p : ℕ) → p < length ds → (u : TypeName) × (named_at ps ds (Some p) ≡ Some u)
there ps [] p h = absurd (omega arith)
there ps (d ∷ ds) zero h = (named ps d, refl)
there ps (d ∷ ds) (suc p) h = there ps ds p (omega arith)

one_found : (ps : List ℕ) (d : Declared) (ds : List Declared) (m : TypeName) (o : Option TypeName) (l : Option ℕ) (b : Bool) → m ≡ named ps d → IfSome l (λ p. p < length ds)
    → option_or (named_at ps ds l) (cond b (Some m) o) ≡ option_or (named_at ps (d ∷ ds) (later l b)) o
one_found ps d ds m o (Some p) b e h =
    let (u, k) = there ps ds p h in
    ap (λ (v : Option TypeName). option_or v (cond b (Some m) o)) k ∙ ap (λ (v : Option TypeName). option_or v o) (sym k)
one_found ps d ds m o None true e h = ap Some e
one_found ps d ds m o None false e h = refl

pub found : (s : TypeScope) (xs : List Bytes) (ds : List Declared) (ps : List ℕ) (x : Bytes) → length xs ≡ length ds → ps ≡ s.parameters ++ parameters_of ds → Counts (length s.parameters) ds
    → type_named (entered s xs ds) x ≡ option_or (named_at ps ds (last_place xs x)) (type_named s x)
found s [] [] ps x h e c = refl
found s [] (d ∷ ds) ps x h e c = absurd (omega arith)
found s (y ∷ xs) [] ps x h e c = absurd (omega arith)
found s (y ∷ xs) (declared.Parameter at ∷ ds) ps x h e c =
    let n : length xs ≡ length ds = omega arith in
    let k : length (s.parameters ++ at ∷ []) ≡ suc (length s.parameters) = length-append s.parameters (at ∷ []) ∙ omega arith in
    found (enter s y (declared.Parameter at)) xs ds ps x n (e ∙ sym (append_assoc s.parameters (at ∷ []) (parameters_of ds))) (subst (λ (m : ℕ). Counts m ds) (sym k) c)
    ∙ one_found ps (declared.Parameter at) ds (IsParameter at) (type_named s x) (last_place xs x) (bytes_eq x y) refl
    (subst (λ (m : ℕ). IfSome (last_place xs x) (λ p. p < m)) n (within xs x))
found s (y ∷ xs) (declared.Definition at outer own ∷ ds) ps x h e c =
    let n : length xs ≡ length ds = omega arith in
    let k : s.parameters ≡ take outer ps = sym (ap (λ (m : ℕ). take m ps) c.0 ∙ (ap (take (length s.parameters)) e ∙ take-append_seam s.parameters (parameters_of ds))) in
    found (enter s y (declared.Definition at outer own)) xs ds ps x n e c.1
    ∙ one_found ps (declared.Definition at outer own) ds (IsDefinition at s.parameters own) (type_named s x) (last_place xs x) (bytes_eq x y) (ap (λ (l : List ℕ). IsDefinition at l own) k)
    (subst (λ (m : ℕ). IfSome (last_place xs x) (λ p. p < m)) n (within xs x))

pub bounded : (n : ℕ) (ds : List Declared) (i : ℕ) (d : Declared) → Counts n ds → slice_get ds i ≡ Some d → outer_of d ≤ n + length (parameters_of ds)
bounded n [] i d c e = cc
bounded n (declared.Parameter at ∷ ds) zero d c e = let g : declared.Parameter at ≡ d = cc in subst (λ (z : Declared). outer_of z ≤ n + suc (length (parameters_of ds))) g (omega arith)
bounded n (declared.Parameter at ∷ ds) (suc i) d c e = let r : outer_of d ≤ suc n + length (parameters_of ds) = bounded (suc n) ds i d c e in omega arith
bounded n (declared.Definition at outer own ∷ ds) zero d c e =
    let g : declared.Definition at outer own ≡ d = cc in
    let o : outer ≡ n = c.0 in
    subst (λ (z : Declared). outer_of z ≤ n + length (parameters_of ds)) g (omega arith)
bounded n (declared.Definition at outer own ∷ ds) (suc i) d c e = bounded n ds i d c.1 e

-- ---- what is kept

parameters_more : (ds : List Declared) (d : Declared) → parameters_of (ds ++ d ∷ []) ≡ parameters_of ds ++ parameters_of (d ∷ [])
parameters_more [] d = refl
parameters_more (declared.Parameter at ∷ ds) d = ap (λ (l : List ℕ). at ∷ l) (parameters_more ds d)
parameters_more (declared.Definition at outer own ∷ ds) d = parameters_more ds d

counts_more : (n : ℕ) (ds : List Declared) (d : Declared) → Counts n ds → Counts (n + length (parameters_of ds)) (d ∷ []) → Counts n (ds ++ d ∷ [])
counts_more n [] d c e = let k : n + 0 ≡ n = omega arith in subst (λ (m : ℕ). Counts m (d ∷ [])) k e
counts_more n (declared.Parameter at ∷ ds) d c e =
    let k : n + suc (length (parameters_of ds)) ≡ suc n + length (parameters_of ds) = omega arith in
    counts_more (suc n) ds d c (subst (λ (m : ℕ). Counts m (d ∷ [])) k e)
counts_more n (declared.Definition at outer own ∷ ds) d c e = (c.0, counts_more n ds d c.1 e)

counts_less : (n : ℕ) (ds : List Declared) (d : Declared) → Counts n (ds ++ d ∷ []) → Counts n ds
counts_less n [] d c = tt
counts_less n (declared.Parameter at ∷ ds) d c = counts_less (suc n) ds d c
counts_less n (declared.Definition at outer own ∷ ds) d c = (c.0, counts_less n ds d c.1)

many : {A B : Type 0} (xs : List A) (ys : List B) (x : A) (y : B) → length xs ≡ length ys → length (xs ++ x ∷ []) ≡ length (ys ++ y ∷ [])
many xs ys x y h = length-append xs (x ∷ []) ∙ (ap (λ n. n + 1) h ∙ sym (length-append ys (y ∷ [])))

pub fit_parameter : (xs : List Bytes) (ds : List Declared) (ps : List ℕ) (x : Bytes) (at : ℕ) → Fit xs ds ps → Fit (xs ++ x ∷ []) (ds ++ declared.Parameter at ∷ []) (ps ++ at ∷ [])
fit_parameter xs ds ps x at f = record {
  as_many = many xs ds x (declared.Parameter at) f.as_many;
  parameters = ap (λ (l : List ℕ). l ++ at ∷ []) f.parameters ∙ sym (parameters_more ds (declared.Parameter at));
  counts = counts_more 0 ds (declared.Parameter at) f.counts tt;
}

pub fit_definition : (xs : List Bytes) (ds : List Declared) (ps : List ℕ) (x : Bytes) (at outer own : ℕ) → outer ≡ length ps → Fit xs ds ps → Fit (xs ++ x ∷ []) (ds ++ declared.Definition at outer own ∷ []) ps
fit_definition xs ds ps x at outer own o f = record {
  as_many = many xs ds x (declared.Definition at outer own) f.as_many;
  parameters = f.parameters ∙ (sym (append-nil (parameters_of ds)) ∙ sym (parameters_more ds (declared.Definition at outer own)));
  counts = counts_more 0 ds (declared.Definition at outer own) f.counts (let k : outer ≡ 0 + length (parameters_of ds) = o ∙ (ap length f.parameters ∙ omega arith) in (k, tt));
}

-- ---- the last name taken away

take_last : {A : Type 0} (xs : List A) (x : A) (n : ℕ) → n ≡ length (xs ++ x ∷ []) - 1 → take n (xs ++ x ∷ []) ≡ xs
take_last xs x n e =
    let l : length (xs ++ x ∷ []) ≡ length xs + 1 = length-append xs (x ∷ []) in
    let k : n ≡ length xs = omega arith in
    ap (λ m. take m (xs ++ x ∷ [])) k ∙ take-append_seam xs (x ∷ [])

-- a list that is not empty, in two
split_last : {A : Type 0} (xs : List A) → 0 < length xs → (front : List A) × ((x : A) × (xs ≡ front ++ x ∷ []))
split_last [] h = absurd (omega arith)
split_last (x ∷ []) h = ([], (x, refl))
split_last (x ∷ y ∷ xs) h = let (front, (z, e)) = split_last (y ∷ xs) (omega arith) in (x ∷ front, (z, ap (λ l. x ∷ l) e))

module _ (xs left : List Bytes) (ds : List Declared) (ps : List ℕ) where
  -- a definition is taken away
  pub less_definition : (at outer own : ℕ) → Fit xs (ds ++ declared.Definition at outer own ∷ []) ps → left ≡ take (length xs - 1) xs → Fit left ds ps
  less_definition at outer own f e =
      let m : length (ds ++ declared.Definition at outer own ∷ []) ≡ length ds + 1 = length-append ds (declared.Definition at outer own ∷ []) in
      let a : length xs ≡ length (ds ++ declared.Definition at outer own ∷ []) = f.as_many in
      let (front, (x, k)) = split_last xs (omega arith) in
      let r : length xs ≡ length front + 1 = ap length k ∙ length-append front (x ∷ []) in
      let t : left ≡ front = e ∙ (ap (λ (l : List Bytes). take (length l - 1) l) k ∙ take_last front x (length (front ++ x ∷ []) - 1) refl) in
      let n : length front ≡ length ds = omega arith in
      record {
        as_many = ap length t ∙ n;
        parameters = f.parameters ∙ (parameters_more ds (declared.Definition at outer own) ∙ append-nil (parameters_of ds));
        counts = counts_less 0 ds (declared.Definition at outer own) f.counts;
      }

  -- a parameter is taken away
  pub less_parameter : (at : ℕ) (qs : List ℕ) → Fit xs (ds ++ declared.Parameter at ∷ []) ps → left ≡ take (length xs - 1) xs → qs ≡ take (length ps - 1) ps → Fit left ds qs
  less_parameter at qs f e g =
      let m : length (ds ++ declared.Parameter at ∷ []) ≡ length ds + 1 = length-append ds (declared.Parameter at ∷ []) in
      let a : length xs ≡ length (ds ++ declared.Parameter at ∷ []) = f.as_many in
      let (front, (x, k)) = split_last xs (omega arith) in
      let r : length xs ≡ length front + 1 = ap length k ∙ length-append front (x ∷ []) in
      let t : left ≡ front = e ∙ (ap (λ (l : List Bytes). take (length l - 1) l) k ∙ take_last front x (length (front ++ x ∷ []) - 1) refl) in
      let n : length front ≡ length ds = omega arith in
      let p : ps ≡ parameters_of ds ++ at ∷ [] = f.parameters ∙ parameters_more ds (declared.Parameter at) in
      record {
        as_many = ap length t ∙ n;
        parameters = g ∙ (ap (λ (l : List ℕ). take (length l - 1) l) p ∙ take_last (parameters_of ds) at (length (parameters_of ds ++ at ∷ []) - 1) refl);
        counts = counts_less 0 ds (declared.Parameter at) f.counts;
      }

-- ---- the same, of what the code has

pub seen_parameters : (xs : List Bytes) (ds : List Declared) (ps : List ℕ) (old : Names) → both xs ds ≡ old → Fit xs ds ps → ps ≡ (seen old).parameters
seen_parameters xs ds ps old v f = f.parameters ∙ (sym (entered_parameters no_types xs ds f.as_many) ∙ ap (λ (s : Names). (seen s).parameters) v)

pub seen_more : (xs ys : List Bytes) (ds es : List Declared) (ps : List ℕ) (old : Names) (x : Bytes) (d : Declared) → both xs ds ≡ old → Fit xs ds ps → ys ≡ xs ++ x ∷ [] → es ≡ ds ++ d ∷ []
    → seen (both ys es) ≡ enter (seen old) x d
seen_more xs ys ds es ps old x d v f e g =
    ap (λ (l : List Bytes). entered no_types l es) e ∙ (ap (λ (l : List Declared). entered no_types (xs ++ x ∷ []) l) g
    ∙ (entered_more no_types xs ds x d f.as_many ∙ ap (λ (s : Names). enter (seen s) x d) v))

-- the same lists with one more of each
pub both_more : (xs ys : List Bytes) (ds es : List Declared) (old : Names) (x : Bytes) (d e : Declared) → both xs ds ≡ old → ys ≡ xs ++ x ∷ [] → es ≡ ds ++ d ∷ [] → d ≡ e → both ys es ≡ with old x e
both_more xs ys ds es old x d e v f g k =
    ap (λ (l : List Bytes). both l es) f ∙ (ap (λ (l : List Declared). both (xs ++ x ∷ []) l) g ∙ (ap (λ (s : Names). with s x d) v ∙ ap (λ (c : Declared). with old x c) k))

pub get_there : (ds : List Declared) (i : ℕ) (d : Declared) → i < length ds → d ≡ get_or ds i d → slice_get ds i ≡ Some d
get_there [] i d h e = absurd (omega arith)
get_there (x ∷ ds) zero d h e = ap Some (sym e)
get_there (x ∷ ds) (suc i) d h e = get_there ds i d (omega arith) e

named_there : (ps : List ℕ) (ds : List Declared) (i : ℕ) (d : Declared) → slice_get ds i ≡ Some d → named_at ps ds (Some i) ≡ Some (named ps d)
named_there ps [] i d e = cc
named_there ps (x ∷ ds) zero d e = let g : x ≡ d = cc in ap (λ (c : Declared). Some (named ps c)) g
named_there ps (x ∷ ds) (suc i) d e = named_there ps ds i d e

module _ (xs : List Bytes) (ds : List Declared) (ps : List ℕ) (old : Names) (x : Bytes) (v : both xs ds ≡ old) (f : Fit xs ds ps) where
  looked : type_named (seen old) x ≡ option_or (named_at ps ds (last_place xs x)) None
  looked = ap (λ (s : Names). type_named (seen s) x) (sym v) ∙ found no_types xs ds ps x f.as_many f.parameters f.counts

  pub not_found : None ≡ last_place xs x → None ≡ type_named (seen old) x
  not_found e = ap (λ (o : Option ℕ). option_or (named_at ps ds o) None) e ∙ sym looked

  pub found_at : (i : ℕ) (d : Declared) → Some i ≡ last_place xs x → slice_get ds i ≡ Some d → Some (named ps d) ≡ type_named (seen old) x
  found_at i d e g = ap (λ (o : Option TypeName). option_or o None) (sym (named_there ps ds i d g)) ∙ (ap (λ (o : Option ℕ). option_or (named_at ps ds o) None) e ∙ sym looked)

-- the numbers without the last
pub without_last : (r : Option ℕ) (ps qs : List ℕ) (n : ℕ) → ps ≡ qs ++ option_to_list r → IsSome r ↔ (0 < n) → n ≡ length ps → qs ≡ take (length ps - 1) ps
without_last (Some x) ps qs n e v m = sym (ap (λ (l : List ℕ). take (length l - 1) l) e ∙ take_last qs x (length (qs ++ x ∷ []) - 1) refl)
without_last None [] [] n e v m = refl
without_last None [] (q ∷ qs) n e v m = cc
without_last None (p ∷ ps) qs n e v m = let some : 0 < n = omega arith in let no : false ≡ true = v.1 some in cc

-- The functions of a program's low module are formed.
use Rattle.std.proofs.Common.{◌≡◌, ℕ, zero, suc, ◌+◌, ◌≤◌, List, [], ◌∷◌, ◌++◌, length, map, Some, slice_get, refl, sym, ap, ◌∙◌, arith}
use Rattle.std.proofs.lemmas.List.{length-map}
use Rattle.std.specs.List.{AllByRecursion}
use Rattle.mo_num.specs.declared.kind.Kind.{Kind}
use Rattle.mo_num.specs.declared.kind.Kind.TheVariants.{Nat, Int, Nat8, Nat16, Nat32, Nat64, Int8, Int16, Int32, Int64}
use Rattle.mo_num.specs.declared.operator.Operator.{Operator}
use Rattle.mo_num.specs.declared.operator.Operator.TheVariants as operator
use Rattle.wasm_tree.specs.Rules.{or_no}
use Rattle.core_ir.specs.Programs.{Group, Method}
use Rattle.core_ir.specs.Code.{Body, CodeProgram}
use Rattle.low_ir.specs.declared.module_parts.LowExport.{LowExport}
use Rattle.low_ir.specs.Tree.{Function, Module}
use Rattle.low_ir.specs.Numbering.{host_count, host_types, host_signatures, all_types, all_signatures, type_of, upto}
use Rattle.low_ir.specs.Formed.{FunctionIsFormed}
use Rattle.low_ir.proofs.Numbers.{host_types_counted, host_signatures_counted}
use Rattle.memory_routines.proofs.Formed.{routines_formed as memory_formed}
use Rattle.flat_emission.specs.Emission.{function_of}
use Rattle.number_lines.specs.Laws.{arithmetic_routine}
use Rattle.operation_codes.specs.Codes.{way}
use Rattle.operation_forms.specs.Laws.{of_words, IsCalled, TypesFit}
use Rattle.operation_forms.proofs.AllCodes.{codes_formed, routines_formed}
use Rattle.emission_forms.specs.Laws.{LinkFits}
use Rattle.emission_forms.proofs.Functions.{functions_formed}
use Rattle.low_emit.specs.Modules.{Routine, calculating, allocating, failing, most_arity, arity_type, plan, link, links, traps, routines, first_arity, functions_from, of_groups, alone, functions, module_with}
use Rattle.emitted_modules.proofs.Lists.{get_front, get_behind, get_map, get_upto}
use Rattle.module_forms.specs.Laws.{RoutineIsFormed, BodyIsSpelled, IsSpelled, FunctionsAreFormed}

pub joined : {A : Type 0} (P : A → Type 0) (xs ys : List A) → AllByRecursion P xs → AllByRecursion P ys → AllByRecursion P (xs ++ ys)
joined P [] ys p q = q
joined P (x ∷ xs) ys p q = (p.0, joined P xs ys p.1 q)

pub mapped : {A B : Type 0} (P : B → Type 0) (f : A → B) (xs : List A) → AllByRecursion (λ a. P (f a)) xs → AllByRecursion P (map f xs)
mapped P f [] p = tt
mapped P f (x ∷ xs) p = (p.0, mapped P f xs p.1)

turned : {A : Type 0} (P Q : A → Type 0) → ((a : A) → P a → Q a) → (xs : List A) → AllByRecursion P xs → AllByRecursion Q xs
turned P Q f [] p = tt
turned P Q f (x ∷ xs) p = (f x p.0, turned P Q f xs p.1)

module _ (p : CodeProgram) (more : List Routine) (own : ℕ) (entries : List Function) (exports : List LowExport) (spelled : IsSpelled p more own) where
  abbrev m : Module
  m = module_with p more own entries exports

  abbrev R : List Routine
  R = routines p more own

  counted_types : length (map (λ (r : Routine). r.type) R) ≡ length R
  counted_types = length-map R (λ r. r.type)

  -- ---- types

  arity_at : (n : ℕ) → n ≤ most_arity p → slice_get (all_types m) (first_arity p more own + n) ≡ Some (arity_type n)
  arity_at n le =
      let long = counted_types in
      ap (slice_get (all_types m)) (omega (arith, host_types_counted, long))
      ∙ get_behind host_types m.types (suc (length (map (λ (r : Routine). r.type) R) + n))
      ∙ get_behind (map (λ (r : Routine). r.type) R) (map arity_type (upto 0 (suc (most_arity p)))) n
      ∙ get_map arity_type (upto 0 (suc (most_arity p))) n n (get_upto 0 (suc (most_arity p)) n (omega (arith, le)) ∙ ap Some (omega arith))

  routine_type_at : (j : ℕ) (r : Routine) → slice_get R j ≡ Some r → slice_get (all_types m) (suc host_count + j) ≡ Some r.type
  routine_type_at j r e =
      ap (slice_get (all_types m)) (omega (arith, host_types_counted))
      ∙ get_behind host_types m.types (suc j)
      ∙ get_front (map (λ (r : Routine). r.type) R) (map arity_type (upto 0 (suc (most_arity p)))) j r.type (get_map (λ (r : Routine). r.type) R j r e)

  signature_at : (j : ℕ) (f : Function) → slice_get m.functions j ≡ Some f → slice_get (all_signatures m) (host_count + j) ≡ Some f.signature
  signature_at j f e =
      ap (λ n. slice_get (all_signatures m) (n + j)) (sym host_signatures_counted)
      ∙ get_behind host_signatures (map (λ (f : Function). f.signature) m.functions) j ∙ get_map (λ (f : Function). f.signature) m.functions j f e

  from_at : (signature : ℕ) (rs : List Routine) (j : ℕ) (r : Routine) → slice_get rs j ≡ Some r → slice_get (functions_from p more own signature rs) j ≡ Some (r.function (signature + j))
  from_at signature [] j r e = absurd (cc)
  from_at signature (s ∷ rs) zero r e = let same : s ≡ r = cc in ap (λ (r : Routine). Some (r.function signature)) same ∙ ap (λ n. Some (r.function n)) (omega arith)
  from_at signature (s ∷ rs) (suc j) r e = from_at (suc signature) rs j r e ∙ ap (λ n. Some (r.function n)) (omega arith)

  -- the type of a routine, by its number
  typed_at : (j : ℕ) (r : Routine) → slice_get R j ≡ Some r → (r.function (suc host_count + j)).signature ≡ suc host_count + j → type_of m (host_count + j) ≡ Some r.type
  typed_at j r e own_signature =
      let there : slice_get m.functions j ≡ Some (r.function (suc host_count + j)) =
      get_front (functions p more own) entries j (r.function (suc host_count + j)) (get_front (functions_from p more own (suc host_count) R) (of_groups p more own p.groups ++ (map (λ (m : Method Body). alone p more own m.body) p.methods ++ alone p more own p.start ∷ [])) j (r.function (suc host_count + j)) (from_at (suc host_count) R j r e)) in
      ap (λ s. or_no s (slice_get (all_types m))) (signature_at j (r.function (suc host_count + j)) there ∙ ap Some own_signature) ∙ routine_type_at j r e

  calculation_typed : (o : Operator) (k : Kind) → IsCalled (way o k) → type_of m ((links p more own).calculation o k) ≡ Some of_words
  calculation_typed operator.Add Nat c = absurd c
  calculation_typed operator.Add Int c = absurd c
  calculation_typed operator.Add Nat8 c = absurd c
  calculation_typed operator.Add Nat16 c = absurd c
  calculation_typed operator.Add Nat32 c = absurd c
  calculation_typed operator.Add Nat64 c = absurd c
  calculation_typed operator.Add Int8 c = typed_at 12 (calculating (traps p more own) (record { operator = operator.Add; kind = Int8 })) refl refl
  calculation_typed operator.Add Int16 c = typed_at 13 (calculating (traps p more own) (record { operator = operator.Add; kind = Int16 })) refl refl
  calculation_typed operator.Add Int32 c = typed_at 14 (calculating (traps p more own) (record { operator = operator.Add; kind = Int32 })) refl refl
  calculation_typed operator.Add Int64 c = absurd c
  calculation_typed operator.Sub Nat c = absurd c
  calculation_typed operator.Sub Int c = absurd c
  calculation_typed operator.Sub Nat8 c = absurd c
  calculation_typed operator.Sub Nat16 c = absurd c
  calculation_typed operator.Sub Nat32 c = absurd c
  calculation_typed operator.Sub Nat64 c = absurd c
  calculation_typed operator.Sub Int8 c = typed_at 15 (calculating (traps p more own) (record { operator = operator.Sub; kind = Int8 })) refl refl
  calculation_typed operator.Sub Int16 c = typed_at 16 (calculating (traps p more own) (record { operator = operator.Sub; kind = Int16 })) refl refl
  calculation_typed operator.Sub Int32 c = typed_at 17 (calculating (traps p more own) (record { operator = operator.Sub; kind = Int32 })) refl refl
  calculation_typed operator.Sub Int64 c = absurd c
  calculation_typed operator.Mul Nat c = absurd c
  calculation_typed operator.Mul Int c = typed_at 18 (calculating (traps p more own) (record { operator = operator.Mul; kind = Int })) refl refl
  calculation_typed operator.Mul Nat8 c = absurd c
  calculation_typed operator.Mul Nat16 c = absurd c
  calculation_typed operator.Mul Nat32 c = absurd c
  calculation_typed operator.Mul Nat64 c = absurd c
  calculation_typed operator.Mul Int8 c = typed_at 20 (calculating (traps p more own) (record { operator = operator.Mul; kind = Int8 })) refl refl
  calculation_typed operator.Mul Int16 c = typed_at 21 (calculating (traps p more own) (record { operator = operator.Mul; kind = Int16 })) refl refl
  calculation_typed operator.Mul Int32 c = typed_at 22 (calculating (traps p more own) (record { operator = operator.Mul; kind = Int32 })) refl refl
  calculation_typed operator.Mul Int64 c = typed_at 19 (calculating (traps p more own) (record { operator = operator.Mul; kind = Int64 })) refl refl
  calculation_typed operator.Div Nat c = absurd c
  calculation_typed operator.Div Int c = absurd c
  calculation_typed operator.Div Nat8 c = absurd c
  calculation_typed operator.Div Nat16 c = absurd c
  calculation_typed operator.Div Nat32 c = absurd c
  calculation_typed operator.Div Nat64 c = absurd c
  calculation_typed operator.Div Int8 c = absurd c
  calculation_typed operator.Div Int16 c = absurd c
  calculation_typed operator.Div Int32 c = absurd c
  calculation_typed operator.Div Int64 c = absurd c
  calculation_typed operator.Rem Nat c = absurd c
  calculation_typed operator.Rem Int c = absurd c
  calculation_typed operator.Rem Nat8 c = absurd c
  calculation_typed operator.Rem Nat16 c = absurd c
  calculation_typed operator.Rem Nat32 c = absurd c
  calculation_typed operator.Rem Nat64 c = absurd c
  calculation_typed operator.Rem Int8 c = absurd c
  calculation_typed operator.Rem Int16 c = absurd c
  calculation_typed operator.Rem Int32 c = absurd c
  calculation_typed operator.Rem Int64 c = absurd c
  calculation_typed operator.Pow Nat c = typed_at 2 (calculating (traps p more own) (record { operator = operator.Pow; kind = Nat })) refl refl
  calculation_typed operator.Pow Int c = typed_at 3 (calculating (traps p more own) (record { operator = operator.Pow; kind = Int })) refl refl
  calculation_typed operator.Pow Nat8 c = typed_at 4 (calculating (traps p more own) (record { operator = operator.Pow; kind = Nat8 })) refl refl
  calculation_typed operator.Pow Nat16 c = typed_at 5 (calculating (traps p more own) (record { operator = operator.Pow; kind = Nat16 })) refl refl
  calculation_typed operator.Pow Nat32 c = typed_at 6 (calculating (traps p more own) (record { operator = operator.Pow; kind = Nat32 })) refl refl
  calculation_typed operator.Pow Nat64 c = typed_at 7 (calculating (traps p more own) (record { operator = operator.Pow; kind = Nat64 })) refl refl
  calculation_typed operator.Pow Int8 c = typed_at 8 (calculating (traps p more own) (record { operator = operator.Pow; kind = Int8 })) refl refl
  calculation_typed operator.Pow Int16 c = typed_at 9 (calculating (traps p more own) (record { operator = operator.Pow; kind = Int16 })) refl refl
  calculation_typed operator.Pow Int32 c = typed_at 10 (calculating (traps p more own) (record { operator = operator.Pow; kind = Int32 })) refl refl
  calculation_typed operator.Pow Int64 c = typed_at 11 (calculating (traps p more own) (record { operator = operator.Pow; kind = Int64 })) refl refl

  types_fit : TypesFit m (links p more own)
  types_fit = record { calculation = calculation_typed; allocation = typed_at 0 allocating refl refl; failing = typed_at 1 failing refl refl }

  link_fits : LinkFits m (link p more own) (most_arity p)
  link_fits = record {
    types = arity_at;
    allocation = typed_at 0 allocating refl refl;
    operations = λ q treated locals results labels to free xs there are. codes_formed m p.head (plan p more own) (links p more own) types_fit spelled.traps spelled.texts q treated locals results labels to free xs there are;
  }

  -- ---- functions

  abbrev F : Function → Type 0
  F f = FunctionIsFormed m f

  body_formed : (members : ℕ) (b : Body) → BodyIsSpelled p more own members b → F (function_of (plan p more own) (link p more own) members b)
  body_formed members b s = functions_formed m (plan p more own) (link p more own) (most_arity p) link_fits members b s.few s.parameters s.short s.code

  groups_formed : (gs : List (Group Body)) → AllByRecursion (λ (g : Group Body). AllByRecursion (BodyIsSpelled p more own (length g.bodies)) g.bodies) gs → AllByRecursion F (of_groups p more own gs)
  groups_formed [] s = tt
  groups_formed (g ∷ gs) s =
      joined F (map (function_of (plan p more own) (link p more own) (length g.bodies)) g.bodies) (of_groups p more own gs)
      (mapped F (function_of (plan p more own) (link p more own) (length g.bodies)) g.bodies (turned (BodyIsSpelled p more own (length g.bodies)) _ (body_formed (length g.bodies)) g.bodies s.0)) (groups_formed gs s.1)

  from_formed : (signature : ℕ) (rs : List Routine) → ((j : ℕ) (r : Routine) → slice_get rs j ≡ Some r → slice_get (all_types m) (signature + j) ≡ Some r.type) → AllByRecursion (RoutineIsFormed m) rs → AllByRecursion F (functions_from p more own signature rs)
  from_formed signature [] types all = tt
  from_formed signature (r ∷ rs) types all = (
    all.0 signature (ap (slice_get (all_types m)) (omega_none signature) ∙ types 0 r refl),
    from_formed (suc signature) rs (λ j s e. ap (slice_get (all_types m)) (omega_next signature j) ∙ types (suc j) s e) all.1,
  )
    where
      omega_none : (s : ℕ) → s ≡ s + 0
      omega_none s = omega arith

      omega_next : (s j : ℕ) → suc s + j ≡ s + suc j
      omega_next s j = omega arith

  calculation_formed : (o : Operator) (k : Kind) → IsCalled (way o k) → (signature : ℕ) → slice_get (all_types m) signature ≡ Some of_words → FunctionIsFormed m (arithmetic_routine signature (traps p more own) o k)
  calculation_formed o k c signature typed = (routines_formed m signature).0 (traps p more own) spelled.traps o k c typed

  all_routines : AllByRecursion (RoutineIsFormed m) more → AllByRecursion (RoutineIsFormed m) R
  all_routines others = (
    λ signature typed. (memory_formed m signature).0 typed refl,
    (
      λ signature typed. (routines_formed m signature).1 typed,
      (
        calculation_formed operator.Pow Nat tt,
        (
          calculation_formed operator.Pow Int tt,
          (
            calculation_formed operator.Pow Nat8 tt,
            (
              calculation_formed operator.Pow Nat16 tt,
              (
                calculation_formed operator.Pow Nat32 tt,
                (
                  calculation_formed operator.Pow Nat64 tt,
                  (
                    calculation_formed operator.Pow Int8 tt,
                    (
                      calculation_formed operator.Pow Int16 tt,
                      (
                        calculation_formed operator.Pow Int32 tt,
                        (
                          calculation_formed operator.Pow Int64 tt,
                          (
                            calculation_formed operator.Add Int8 tt,
                            (
                              calculation_formed operator.Add Int16 tt,
                              (
                                calculation_formed operator.Add Int32 tt,
                                (
                                  calculation_formed operator.Sub Int8 tt,
                                  (
                                    calculation_formed operator.Sub Int16 tt,
                                    (
                                      calculation_formed operator.Sub Int32 tt,
                                      (
                                        calculation_formed operator.Mul Int tt,
                                        (
                                          calculation_formed operator.Mul Int64 tt,
                                          (
                                            calculation_formed operator.Mul Int8 tt,
                                            (
                                              calculation_formed operator.Mul Int16 tt,
                                              (
                                                calculation_formed operator.Mul Int32 tt,
                                                others,
                                              ),
                                            ),
                                          ),
                                        ),
                                      ),
                                    ),
                                  ),
                                ),
                              ),
                            ),
                          ),
                        ),
                      ),
                    ),
                  ),
                ),
              ),
            ),
          ),
        ),
      ),
    ),
  )

  pub all_formed : AllByRecursion (RoutineIsFormed m) more → AllByRecursion F entries → AllByRecursion F m.functions
  all_formed others entered =
      joined F (functions p more own) entries
      (joined F (functions_from p more own (suc host_count) R) (of_groups p more own p.groups ++ (map (λ (m : Method Body). alone p more own m.body) p.methods ++ alone p more own p.start ∷ [])) (from_formed (suc host_count) R routine_type_at (all_routines others))
      (joined F (of_groups p more own p.groups) (map (λ (m : Method Body). alone p more own m.body) p.methods ++ alone p more own p.start ∷ []) (groups_formed p.groups spelled.groups)
      (joined F (map (λ (m : Method Body). alone p more own m.body) p.methods) (alone p more own p.start ∷ [])
      (mapped F (λ (m : Method Body). alone p more own m.body) p.methods (turned (λ (m : Method Body). BodyIsSpelled p more own 0 m.body) _ (λ m s. body_formed 0 m.body s) p.methods spelled.methods)) (body_formed 0 p.start spelled.start, tt))))
      entered

pub functions_formed_all : FunctionsAreFormed
functions_formed_all p more own entries exports spelled others entered = all_formed p more own entries exports spelled others entered

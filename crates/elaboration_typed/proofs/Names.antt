-- What an elaborated well-typed program names is there.
use Rattle.std.proofs.Common.{◌≡◌, ◌≢◌, ◌<◌, ℕ, true, List, [], ◌∷◌, ◌++◌, map, refl, sym, ap, ◌∙◌, subst, codes, arith}
use Rattle.std.specs.List.{All, AllPairs, AllByRecursion}
use Rattle.std.specs.Prelude.{Contains}
use Rattle.std.proofs.lemmas.List.Elements.{All-cons, All-nil, Contains-append_right}
use Rattle.std.proofs.lemmas.List.Kept.{AllPairs-cons}
use Rattle.mo_types.specs.Graph.{Slot}
use Rattle.mo_types.specs.Label.{label_id}
use Rattle.mo_types.specs.Sub.{Each}
use Rattle.mo_types.specs.Values.{is_method_name}
use Rattle.mo_values.specs.Shapes.{Bytes}
use Rattle.core_ir.specs.Expressions.{Body}
use Rattle.core_ir.specs.Programs as core_program
use Rattle.typed_tree.specs.declared.program.Method.{Method}
use Rattle.typed_tree.specs.ActionTypes.{Context}
use Rattle.typed_tree.specs.OperationTypes.{Distinct}
use Rattle.typed_tree.specs.ProgramView.{program, method}
use Rattle.typed_tree.specs.WellTyped.{IsPublic}
use Rattle.elaboration.specs.Programs.{elaborated, methods_of}
use Rattle.elaboration_formed.proofs.Programs.{programs_are_shaped}
use Rattle.elaboration_names.proofs.Named.{programs_are_named}
use Rattle.elaboration_typed.specs.Names.{MethodsAreNamed, CodeIsNamed}

-- ---- lists

others_apart : (x r : Bytes) (xs : List Bytes) → Each (λ y. x ≢ y) xs → x ≢ r → All (λ y. x ≢ y) (xs ++ r ∷ [])
others_apart x r [] h n = All-cons (λ y. x ≢ y) r [] n (All-nil (λ y. x ≢ y))
others_apart x r (y ∷ xs) h n = All-cons (λ z. x ≢ z) y (xs ++ r ∷ []) h.0 (others_apart x r xs h.1 n)

none_apart : AllPairs {X = Bytes} (λ m n. m ≢ n) []
none_apart i j d a b = absurd (omega (arith, b))

all_apart : (xs : List Bytes) (r : Bytes) → Distinct xs → Each (λ x. x ≢ r) xs → AllPairs (λ m n. m ≢ n) (xs ++ r ∷ [])
all_apart [] r d h = AllPairs-cons (λ m n. m ≢ n) r [] (All-nil (λ y. r ≢ y)) none_apart
all_apart (x ∷ xs) r d h = AllPairs-cons (λ m n. m ≢ n) x (xs ++ r ∷ []) (others_apart x r xs d.0 h.0) (all_apart xs r d.1 h.1)

one_there : (r : Bytes) → Contains (r ∷ []) r
one_there r = (0, omega arith, refl)

-- ---- methods

abbrev own_names : List Method → List Bytes
own_names ms = map (λ (m : Method). m.name) ms

differ_from : (m : Method) (ms : List Method) → Each (λ y. label_id m.name ≢ y) (map (λ (n : Method). label_id n.name) ms) → Each (λ y. m.name ≢ y) (own_names ms)
differ_from m [] h = tt
differ_from m (n ∷ ms) h = ((λ e. h.0 (ap label_id e)), differ_from m ms h.1)

names_differ : (ms : List Method) → Distinct (map (λ (m : Method). label_id m.name) ms) → Distinct (own_names ms)
names_differ [] h = tt
names_differ (m ∷ ms) h = (differ_from m ms h.0, names_differ ms h.1)

names_are : (ms : List Method) (bodies : List Body) → map (λ (m : core_program.Method Body). m.name) (methods_of (map method ms) bodies) ≡ own_names ms ++ codes "__resume" ∷ []
names_are [] bodies = refl
names_are (m ∷ ms) [] = ap (λ xs. m.name ∷ xs) (names_are ms [])
names_are (m ∷ ms) (b ∷ bodies) = ap (λ xs. m.name ∷ xs) (names_are ms bodies)

module _ (types : List Slot) (c : Context) where
  not_resume : (ms : List Method) → Each (IsPublic types c) ms → Each (λ x. x ≢ codes "__resume") (own_names ms)
  not_resume [] h = tt
  not_resume (m ∷ ms) h = ((h.0).name.1, not_resume ms h.1)

  all_named : (ms : List Method) (bodies : List Body) → Each (IsPublic types c) ms → AllByRecursion (λ (m : core_program.Method Body). is_method_name m.name ≡ true) (methods_of (map method ms) bodies)
  all_named [] bodies h = (refl, tt)
  all_named (m ∷ ms) [] h = ((h.0).name.0, all_named ms [] h.1)
  all_named (m ∷ ms) (b ∷ bodies) h = ((h.0).name.0, all_named ms bodies h.1)

pub methods_are_named : MethodsAreNamed
methods_are_named p w =
    let names : map (λ (m : core_program.Method Body). m.name) (elaborated (program p)).methods ≡ own_names p.methods ++ codes "__resume" ∷ [] = names_are p.methods _ in
    record {
      different = subst (λ (xs : List Bytes). AllPairs (λ m n. m ≢ n) xs) (sym names) (all_apart (own_names p.methods) (codes "__resume") (names_differ p.methods w.method_labels) (not_resume p.types _ p.methods w.public));
      names = all_named p.types _ p.methods _ w.public;
      resume = subst (λ (xs : List Bytes). Contains xs (codes "__resume")) (sym names) (Contains-append_right (own_names p.methods) (codes "__resume" ∷ []) (codes "__resume") (one_there (codes "__resume")));
    }

pub code_is_named : CodeIsNamed
code_is_named p w a = programs_are_named (program p) a (programs_are_shaped p w)

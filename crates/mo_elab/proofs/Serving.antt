-- Methods and stable variables, one after another.
use Rattle.std.proofs.Common.{◌≡◌, ◌∙◌, ℕ, ◌+◌, ◌<◌, ◌≤◌, List, [], ◌∷◌, ◌++◌, drop, take, get_or, length, map, refl, sym, ap, ap₂, append_assoc}
use Rattle.std.specs.Prelude.{Bool, reverse}
use Rattle.std.proofs.lemmas.List.{at_drop_all, at_drop_more, map-append, reverse-append, take_all, take_more}
use Rattle.mo_types.specs.declared.node.TypeId.{TypeId}
use Rattle.core_ir.specs.declared.expression.CoreBody.{CoreBody}
use Rattle.core_ir.specs.declared.program.Method.{Method as MethodTree}
use Rattle.core_ir.specs.declared.program.StableVariable.{StableVariable as VariableTree}
use Rattle.core_ir.specs.Expressions.{Body}
use Rattle.core_ir.specs.Programs.{Method}
use Rattle.core_ir.specs.Programs as core_program
use Rattle.core_ir.specs.ProgramView as core
use Rattle.core_ir.specs.View.{core_body}
use Rattle.typed_tree.specs.declared.program.Method.{Method as TypedMethod}
use Rattle.typed_tree.specs.declared.program.StableVariable.{StableVariable as TypedVariable}
use Rattle.typed_tree.specs.ProgramView as source
use Rattle.typed_tree.specs.View.{FunctionView, function}
use Rattle.typed_tree.specs.Programs as typed
use Rattle.elaboration.specs.Programs.{method_of, methods_of, resume_method, variable_of}
use Rattle.core_blocks.proofs.Writing.{function_is}
use Rattle.mo_elab.specs.Serving.{Takes, next_of, others_of}

abbrev pub method_view : MethodTree CoreBody → Method Body
method_view = core.method (λ functions sees. core_body)

pub method_parts : (m : TypedMethod) (b : Body) (name : List ℕ) (query : Bool) (ps rs : List TypeId) (made : Method Body)
    → made ≡ record { name = name; query = query; signature = record { parameters = ps; results = rs }; body = b }
    → name ≡ m.name → query ≡ source.is_query m.function.sort → ps ≡ m.parameters → rs ≡ m.results → made ≡ method_of (source.method m) b
method_parts m b name query ps rs made is named asked taken given =
    let q : Bool = source.is_query (function m.function).how in
    let asks : query ≡ q = asked ∙ ap (λ (f : FunctionView). source.is_query f.how) (sym (function_is m.function)) in
    let M : List ℕ → Bool → List TypeId → List TypeId → Method Body = λ x y u v. record { name = x; query = y; signature = record { parameters = u; results = v }; body = b } in
    is ∙ (ap₂ (λ x y. M x y ps rs) named asks ∙ ap₂ (λ u v. M m.name q u v) taken given)

methods_turn : (m : typed.Method) (ms : List typed.Method) (bs : List Body) → methods_of (m ∷ ms) bs ≡ method_of m (next_of bs) ∷ methods_of ms (others_of bs)
methods_turn m ms [] = refl
methods_turn m ms (b ∷ bs) = refl

-- one more before others
more_made : {A B : Type 0} (f : A → B) (made : List A) (x : A) (rest : List B) → map f (made ++ x ∷ []) ++ rest ≡ map f made ++ (f x ∷ rest)
more_made f made x rest = ap (λ l. l ++ rest) (map-append f made (x ∷ [])) ∙ append_assoc (map f made) (f x ∷ []) rest

-- the last one of bodies is the first one of those reversed
pub last_taken : (old new : List CoreBody) (b : CoreBody) → old ≡ new ++ b ∷ [] → Takes (map core_body (reverse old)) b (map core_body (reverse new))
last_taken old new b is =
    let at : map core_body (reverse old) ≡ core_body b ∷ map core_body (reverse new) = ap (λ bs. map core_body (reverse bs)) is ∙ ap (map core_body) (reverse-append new (b ∷ [])) in
    record { body = sym (ap next_of at); left = sym (ap others_of at) }

pub more_methods : (xs : List TypedMethod) (i : ℕ) (x : TypedMethod) (whole : List (Method Body)) (old new : List Body) (made more : List (MethodTree CoreBody)) (b : CoreBody) (m : MethodTree CoreBody)
    → i < length xs → x ≡ get_or xs i x → Takes old b new → method_view m ≡ method_of (source.method x) (core_body b) → more ≡ made ++ m ∷ []
    → map method_view made ++ methods_of (map source.method (drop i xs)) old ≡ whole → map method_view more ++ methods_of (map source.method (drop (i + 1) xs)) new ≡ whole
more_methods xs i x whole old new made more b m below is takes one longer so =
    let F : List TypedMethod → List (Method Body) = λ ys. map method_view made ++ methods_of (map source.method ys) old in
    let ys : List TypedMethod = drop (i + 1) xs in
    let rest : List Body → List (Method Body) = λ bs. methods_of (map source.method ys) bs in
    let here : method_view m ≡ method_of (source.method (get_or xs i x)) (next_of old) = one ∙ ap₂ (λ y z. method_of (source.method y) z) is takes.body in
    ap (λ l. map method_view l ++ rest new) longer ∙ (more_made method_view made m (rest new)
    ∙ (ap₂ (λ y bs. map method_view made ++ (y ∷ rest bs)) here takes.left
    ∙ (ap (λ l. map method_view made ++ l) (sym (methods_turn (source.method (get_or xs i x)) (map source.method ys) old)) ∙ (sym (at_drop_more F xs i x below) ∙ so))))

pub no_more_methods : (xs : List TypedMethod) (i : ℕ) (whole : List (Method Body)) (left : List Body) (made more : List (MethodTree CoreBody)) (m : MethodTree CoreBody) → length xs ≤ i
    → method_view m ≡ resume_method → more ≡ made ++ m ∷ [] → map method_view made ++ methods_of (map source.method (drop i xs)) left ≡ whole → map method_view more ≡ whole
no_more_methods xs i whole left made more m past resume longer so =
    let F : List TypedMethod → List (Method Body) = λ ys. map method_view made ++ methods_of (map source.method ys) left in
    ap (map method_view) longer ∙ (map-append method_view made (m ∷ []) ∙ (ap (λ y. map method_view made ++ y ∷ []) resume ∙ (sym (at_drop_all F xs i past) ∙ so)))

-- ---- stable variables

abbrev pub variables_view : List TypedVariable → List core_program.StableVariable
variables_view vs = map variable_of (map source.stable_variable vs)

pub more_variables : (xs : List TypedVariable) (i : ℕ) (x : TypedVariable) (made more : List VariableTree) (v : VariableTree) → i < length xs → x ≡ get_or xs i x → more ≡ made ++ v ∷ []
    → core.stable_variable v ≡ variable_of (source.stable_variable x) → map core.stable_variable made ≡ variables_view (take i xs) → map core.stable_variable more ≡ variables_view (take (i + 1) xs)
more_variables xs i x made more v below is longer one so =
    let y : TypedVariable = get_or xs i x in
    let F : TypedVariable → core_program.StableVariable = λ w. variable_of (source.stable_variable w) in
    ap (map core.stable_variable) longer ∙ (map-append core.stable_variable made (v ∷ []) ∙ (ap₂ (λ l w. l ++ w ∷ []) so (one ∙ ap F is)
    ∙ (sym (ap (map variable_of) (map-append source.stable_variable (take i xs) (y ∷ [])) ∙ map-append variable_of (map source.stable_variable (take i xs)) (source.stable_variable y ∷ []))
    ∙ ap variables_view (sym (take_more xs i x below)))))

pub all_variables : (xs : List TypedVariable) (i : ℕ) (made : List VariableTree) → length xs ≤ i → map core.stable_variable made ≡ variables_view (take i xs) → map core.stable_variable made ≡ variables_view xs
all_variables xs i made past so = so ∙ ap variables_view (take_all i xs past)

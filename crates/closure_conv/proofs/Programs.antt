-- Parts of programs that are made one by one.
use Rattle.std.proofs.Common.{◌≡◌, ℕ, zero, suc, ◌+◌, ◌<◌, refl, ap, ◌∙◌, List, [], ◌∷◌, ◌++◌, length, map, drop, get_or, arith}
use Rattle.std.proofs.lemmas.List.{append_assoc, map_push}
use Rattle.core_ir.specs.declared.code.CodeBody.{CodeBody}
use Rattle.core_ir.specs.declared.program.Group.{Group as GroupTree}
use Rattle.core_ir.specs.declared.program.Method.{Method as MethodTree}
use Rattle.core_ir.specs.declared.program.Signature.{Signature}
use Rattle.core_ir.specs.declared.program.Program.{Program as ProgramTree}
use Rattle.core_ir.specs.declared.program.Flat.{Flat}
use Rattle.mo_types.specs.declared.node.Node.{Node}
use Rattle.mo_types.specs.declared.node.TypeId.{TypeId}
use Rattle.mo_types.specs.Graph.{head_at}
use Rattle.core_ir.specs.Choices.{nth}
use Rattle.core_ir.specs.Code.{Body, CodeProgram}
use Rattle.core_ir.specs.Programs.{Group, Method, StableVariable}
use Rattle.core_ir.specs.ProgramView.{flat, program, stable_variable}
use Rattle.core_ir.specs.CodeView.{code_body}
use Rattle.core_ir.specs.View.{signature}
use Rattle.core_laws.specs.Conversion.{convert_body, convert_group, convert_groups, convert_method, converted}
use Rattle.closure_conv.specs.Parts.{group_view, method_view}

pub map_twice : {A B C : Type 0} (f : A → B) (g : B → C) (xs : List A) → map (λ x. g (f x)) xs ≡ map g (map f xs)
map_twice f g [] = refl
map_twice f g (x ∷ xs) = ap (λ ys. g (f x) ∷ ys) (map_twice f g xs)

module _ (needs : List (List ℕ)) where
  pub body_is : (used : List ℕ) (parameters slots nodes : ℕ) (xs ys : List _) → xs ≡ ys
      → ◌≡◌ {A = Body} (record { parameters = parameters; slots = slots; nodes = nodes; segments = xs }) (record { parameters = parameters; slots = slots; nodes = nodes; segments = ys })
  body_is used parameters slots nodes xs ys e = ap (λ zs. record { parameters = parameters; slots = slots; nodes = nodes; segments = zs }) e

  pub method_is : (name : List ℕ) (s : Signature) (b : CodeBody) (m : MethodTree CodeBody) → name ≡ m.name → s ≡ m.signature → code_body 0 0 b ≡ convert_body needs [] (code_body 0 0 m.body)
      → method_view (record { name = name; query = m.query; signature = s; body = b }) ≡ convert_method needs (method_view m)
  method_is name s b m e i h =
      ap (λ (n : List ℕ). let made : Method Body = record { name = n; query = m.query; signature = signature s; body = code_body 0 0 b } in made) e
      ∙ ap (λ (t : Signature). let made : Method Body = record { name = m.name; query = m.query; signature = signature t; body = code_body 0 0 b } in made) i
      ∙ ap (λ (c : Body). let made : Method Body = record { name = m.name; query = m.query; signature = signature m.signature; body = c } in made) h

  pub groups_more : (all : List (List ℕ)) (made : List (GroupTree CodeBody)) (gs : List (GroupTree CodeBody)) (i : ℕ) (d : GroupTree CodeBody) (x : GroupTree CodeBody) → i < length gs
      → group_view x ≡ convert_group needs (nth [] all i) (group_view (get_or gs i d))
      → map group_view (made ++ x ∷ []) ++ convert_groups needs (drop (i + 1) all) (map group_view (drop (i + 1) gs)) ≡ map group_view made ++ convert_groups needs (drop i all) (map group_view (drop i gs))
  groups_more all made gs i d x l e =
      ap (λ (ys : List (Group Body)). ys ++ convert_groups needs (drop (i + 1) all) (map group_view (drop (i + 1) gs))) (map_push group_view made x)
      ∙ append_assoc (map group_view made) (group_view x ∷ []) (convert_groups needs (drop (i + 1) all) (map group_view (drop (i + 1) gs)))
      ∙ ap (λ ys. map group_view made ++ ys) (ap (λ y. y ∷ convert_groups needs (drop (i + 1) all) (map group_view (drop (i + 1) gs))) e ∙ step all gs i l)
    where
      step_none : (gs : List (GroupTree CodeBody)) (i : ℕ) → i < length gs
          → convert_group needs [] (group_view (get_or gs i d)) ∷ convert_groups needs [] (map group_view (drop (i + 1) gs)) ≡ convert_groups needs [] (map group_view (drop i gs))
      step_none [] i l = absurd (omega (arith, l))
      step_none (g ∷ gs) zero l = refl
      step_none (g ∷ gs) (suc i) l =
          ap (λ n. convert_group needs [] (group_view (get_or gs i d)) ∷ convert_groups needs [] (map group_view (drop n (g ∷ gs)))) (let e : suc i + 1 ≡ suc (i + 1) = omega arith in e) ∙ step_none gs i (omega (arith, l))

      step : (all : List (List ℕ)) (gs : List (GroupTree CodeBody)) (i : ℕ) → i < length gs
          → convert_group needs (nth [] all i) (group_view (get_or gs i d)) ∷ convert_groups needs (drop (i + 1) all) (map group_view (drop (i + 1) gs)) ≡ convert_groups needs (drop i all) (map group_view (drop i gs))
      step all [] i l = absurd (omega (arith, l))
      step [] (g ∷ gs) zero l = refl
      step (u ∷ all) (g ∷ gs) zero l = refl
      step [] (g ∷ gs) (suc i) l =
          ap (λ n. convert_group needs [] (group_view (get_or gs i d)) ∷ convert_groups needs (drop n []) (map group_view (drop n (g ∷ gs)))) (let e : suc i + 1 ≡ suc (i + 1) = omega arith in e) ∙ step_none gs i (omega (arith, l))
      step (u ∷ all) (g ∷ gs) (suc i) l =
          ap (λ n. convert_group needs (nth [] all i) (group_view (get_or gs i d)) ∷ convert_groups needs (drop n (u ∷ all)) (map group_view (drop n (g ∷ gs)))) (let e : suc i + 1 ≡ suc (i + 1) = omega arith in e) ∙ step all gs i (omega (arith, l))

pub program_is : (source : ProgramTree CodeBody) (made : Flat) (needs : List (List ℕ)) → made.program.types ≡ source.types → map group_view made.program.groups ≡ convert_groups needs needs (map group_view source.groups)
    → map method_view made.program.methods ≡ map (convert_method needs) (map method_view source.methods) → made.program.stable ≡ source.stable
    → code_body 0 0 made.program.save ≡ convert_body needs [] (code_body 0 0 source.save) → code_body 0 0 made.program.start ≡ convert_body needs [] (code_body 0 0 source.start)
    → flat made ≡ converted needs (program code_body source)
program_is source made needs t g m s a b = built _ _ _ _ _ _ _ _ _ _ _ _ (ap head_at t) g m (ap (map stable_variable) s) a b
  where
    built : (h k : TypeId → Node TypeId) (gs hs : List (Group Body)) (ms ns : List (Method Body)) (ss ts : List StableVariable) (a b c d : Body)
        → h ≡ k → gs ≡ hs → ms ≡ ns → ss ≡ ts → a ≡ b → c ≡ d
        → ◌≡◌ {A = CodeProgram} (record { head = h; groups = gs; methods = ms; stable = ss; save = a; start = c }) (record { head = k; groups = hs; methods = ns; stable = ts; save = b; start = d })
    built h k gs hs ms ns ss ts a b c d p q r s t u =
        ap (λ (x : TypeId → Node TypeId). let made : CodeProgram = record { head = x; groups = gs; methods = ms; stable = ss; save = a; start = c } in made) p
        ∙ ap (λ (x : List (Group Body)). let made : CodeProgram = record { head = k; groups = x; methods = ms; stable = ss; save = a; start = c } in made) q
        ∙ ap (λ (x : List (Method Body)). let made : CodeProgram = record { head = k; groups = hs; methods = x; stable = ss; save = a; start = c } in made) r
        ∙ ap (λ (x : List StableVariable). let made : CodeProgram = record { head = k; groups = hs; methods = ns; stable = x; save = a; start = c } in made) s
        ∙ ap (λ (x : Body). let made : CodeProgram = record { head = k; groups = hs; methods = ns; stable = ts; save = x; start = c } in made) t
        ∙ ap (λ (x : Body). let made : CodeProgram = record { head = k; groups = hs; methods = ns; stable = ts; save = b; start = x } in made) u

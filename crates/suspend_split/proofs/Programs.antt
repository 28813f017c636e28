-- Programs, from their parts.
use Rattle.std.proofs.Common.{◌≡◌, ℕ, zero, suc, refl, sym, ap, ◌∙◌, List, [], ◌∷◌, length, map}
use Rattle.std.proofs.lemmas.List.{length-map}
use mathlib.Core.Path.{fun_ext}
use Rattle.mo_types.specs.declared.node.Node.{Node}
use Rattle.mo_types.specs.declared.node.TypeId.{TypeId}
use Rattle.mo_types.specs.Graph.{head_at}
use Rattle.core_ir.specs.declared.code.CodeBody.{CodeBody}
use Rattle.core_ir.specs.declared.expression.CoreBody.{CoreBody}
use Rattle.core_ir.specs.declared.program.Group.{Group as GroupTree}
use Rattle.core_ir.specs.declared.program.Core.{Core}
use Rattle.core_ir.specs.declared.program.SplitCore.{SplitCore}
use Rattle.core_ir.specs.Programs.{Group, Method, StableVariable}
use Rattle.core_ir.specs.Code.{Body, CodeProgram}
use Rattle.core_ir.specs.CodeView.{code_body}
use Rattle.core_ir.specs.ProgramView.{core, split_core, stable_variable}
use Rattle.core_ir.specs.View.{core_body}
use Rattle.core_laws.specs.Split.{split_body, split_group, split_method, split_program, size_at}
use Rattle.suspend_split.specs.Makes.{size_of}
use Rattle.suspend_split.specs.Parts.{SplitBy, code_group, core_group, core_method, sizes_of}

pub map_twice : {A B C : Type 0} (f : A → B) (g : B → C) (xs : List A) → map (λ x. g (f x)) xs ≡ map g (map f xs)
map_twice f g [] = refl
map_twice f g (x ∷ xs) = ap (λ ys. g (f x) ∷ ys) (map_twice f g xs)

pub group_is : (sizes : ℕ → ℕ) (g : GroupTree CoreBody) (bodies : List CodeBody) (functions : ℕ) → functions ≡ length g.bodies → map (code_body functions g.sees) bodies ≡ map (λ b. split_body sizes functions g.sees (core_body b)) g.bodies
    → code_group (record { sees = g.sees; bodies = bodies }) ≡ split_group sizes (core_group g)
group_is sizes g bodies functions n e =
    ap (λ m. of (map (code_body m g.sees) bodies)) (count ∙ sym n) ∙ ap of e
    ∙ ap (λ m. of (map (λ b. split_body sizes m g.sees (core_body b)) g.bodies)) (n ∙ sym (length-map g.bodies core_body))
    ∙ ap of (map_twice core_body (split_body sizes (length (map core_body g.bodies)) g.sees) g.bodies)
  where
    of : List Body → Group Body
    of xs = record { sees = g.sees; bodies = xs }

    count : length bodies ≡ length g.bodies
    count = sym (length-map bodies (code_body functions g.sees)) ∙ ap length e ∙ length-map g.bodies (λ b. split_body sizes functions g.sees (core_body b))

size_is : (gs : List (GroupTree CoreBody)) (k : ℕ) → size_of (sizes_of gs) k ≡ size_at (map core_group gs) k
size_is [] k = refl
size_is (g ∷ gs) zero = sym (length-map g.bodies core_body)
size_is (g ∷ gs) (suc k) = size_is gs k

built : (h k : TypeId → Node TypeId) (gs hs : List (Group Body)) (ms ns : List (Method Body)) (ss ts : List StableVariable) (a b c d : Body) → h ≡ k → gs ≡ hs → ms ≡ ns → ss ≡ ts → a ≡ b → c ≡ d
    → ◌≡◌ {A = CodeProgram} (record { head = h; groups = gs; methods = ms; stable = ss; save = a; start = c }) (record { head = k; groups = hs; methods = ns; stable = ts; save = b; start = d })
built h k gs hs ms ns ss ts a b c d p q r s t u =
    ap (λ (x : TypeId → Node TypeId). let made : CodeProgram = record { head = x; groups = gs; methods = ms; stable = ss; save = a; start = c } in made) p
    ∙ ap (λ (x : List (Group Body)). let made : CodeProgram = record { head = k; groups = x; methods = ms; stable = ss; save = a; start = c } in made) q
    ∙ ap (λ (x : List (Method Body)). let made : CodeProgram = record { head = k; groups = hs; methods = x; stable = ss; save = a; start = c } in made) r
    ∙ ap (λ (x : List StableVariable). let made : CodeProgram = record { head = k; groups = hs; methods = ns; stable = x; save = a; start = c } in made) s
    ∙ ap (λ (x : Body). let made : CodeProgram = record { head = k; groups = hs; methods = ns; stable = ts; save = x; start = c } in made) t
    ∙ ap (λ (x : Body). let made : CodeProgram = record { head = k; groups = hs; methods = ns; stable = ts; save = b; start = x } in made) u

pub program_is : (p : Core) (q : SplitCore) (sizes : List ℕ) → sizes ≡ sizes_of p.program.groups → SplitBy (size_of sizes) p.program q → split_core q ≡ split_program (core p)
program_is p q sizes e by =
    built _ _ _ _ _ _ _ _ _ _ _ _ (ap head_at by.types)
    (by.groups ∙ map_twice core_group (split_group (size_of sizes)) p.program.groups ∙ ap (λ (f : ℕ → ℕ). map (split_group f) (map core_group p.program.groups)) same)
    (by.methods ∙ map_twice core_method (split_method (size_of sizes)) p.program.methods ∙ ap (λ (f : ℕ → ℕ). map (split_method f) (map core_method p.program.methods)) same)
    (ap (map stable_variable) by.stable) (by.save ∙ ap (λ (f : ℕ → ℕ). split_body f 0 0 (core_body p.program.save)) same) (by.start ∙ ap (λ (f : ℕ → ℕ). split_body f 0 0 (core_body p.program.start)) same)
  where
    same : size_of sizes ≡ size_at (map core_group p.program.groups)
    same = fun_ext (λ k. ap (λ s. size_of s k) e ∙ size_is p.program.groups k)

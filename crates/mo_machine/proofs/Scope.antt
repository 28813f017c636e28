-- Environments hold what is put in the place of names.
use Rattle.std.proofs.Common.{◌≡◌, ℕ, zero, suc, ◌+◌, List, [], ◌∷◌, ◌++◌, length, Option, Some, None, refl, sym, ap, ap₂, ◌∙◌}
use Rattle.mo_values.specs.Recoding.{recodes}
use Rattle.mo_values.specs.Shapes.{Shape}
use Rattle.typed_tree.specs.Language.{Exp, Functions, NoFunction, AFunction, Val, Name}
use Rattle.typed_tree.specs.Substitution.{Slots, pick, hide, count, put, put_functions, merge, functions, group_of, group_nodes}
use Rattle.typed_tree.specs.Opening.{slots_of}
use Rattle.typed_tree.specs.Language as language
use Rattle.typed_tree.specs.Opening as opening
use Rattle.typed_tree.proofs.Put.{put_put}
use Rattle.mo_machine.specs.Values.{Value, NoValue, AValue, Code, values_list}
use Rattle.mo_machine.specs.Environments.{Environment, at, extended, closures, with_group}
use Rattle.mo_machine.specs.Unload.{unload, slots}
use Rattle.mo_machine.proofs.Unloaded.{closed, value_closed}

abbrev pub name_or : Option Value → ℕ → Exp
name_or None x = Name x
name_or (Some v) x = Val (unload v)

pub pick_at : (env : Environment) (n x : ℕ) → pick (slots env) n x ≡ name_or (at env n) x
pick_at NoValue n x = refl
pick_at (AValue v env) zero x = refl
pick_at (AValue v env) (suc n) x = pick_at env n x

pub slots_extended : (ss : List (Shape Code)) (env : Environment) → slots (extended (values_list ss) env) ≡ slots_of (recodes closed ss) ++ slots env
slots_extended [] env = refl
slots_extended (s ∷ ss) env = ap₂ (λ x y. Some x ∷ y) (sym (value_closed s)) (slots_extended ss env)

pub slots_group : (env : Environment) (group rest : Functions) (n : ℕ) (j : Slots) (others : Environment)
    → slots (closures env group rest n others) ≡ functions (put_functions (hide (count group) (slots env)) group) (put_functions j rest) n ++ slots others
slots_group env group NoFunction n j others = refl
slots_group env group (AFunction how m ps body fns) n j others =
    ap (λ r. Some (language.Function (put_functions (hide (count group) (slots env)) group) n) ∷ r) (slots_group env group fns (suc n) j others)

pub merge_over : (ss : List (Shape opening.Code)) (t s : Slots) → merge (slots_of ss ++ t) (hide (length ss) s) ≡ slots_of ss ++ merge t s
merge_over [] t s = refl
merge_over (v ∷ ss) t s = ap (λ r. Some (opening.value_of v) ∷ r) (merge_over ss t s)

-- what is not there leaves the rest
pub merge_nothing : (s : Slots) → merge [] s ≡ s
merge_nothing [] = refl
merge_nothing (o ∷ s) = refl

pub merge_group : (group rest : Functions) (n : ℕ) (j s : Slots) → merge (functions group (put_functions j rest) n) (hide (count rest) s) ≡ functions group (put_functions j rest) n ++ s
merge_group group NoFunction n j s = merge_nothing s
merge_group group (AFunction how m ps body fns) n j s = ap (λ r. Some (language.Function group n) ∷ r) (merge_group group fns (suc n) j s)

append_nil : (s : Slots) → s ++ [] ≡ s
append_nil [] = refl
append_nil (o ∷ s) = ap (λ r. o ∷ r) (append_nil s)

-- the values of a pattern's names, put in place under these names
pub put_extended : (ss : List (Shape Code)) (n : ℕ) (env : Environment) (e : Exp) → length (recodes closed ss) ≡ n
    → put (slots_of (recodes closed ss)) (put (hide n (slots env)) e) ≡ put (slots (extended (values_list ss) env)) e
put_extended ss n env e h =
    let ts = recodes closed ss in
    put_put (slots_of ts) (hide n (slots env)) e
    ∙ ap (λ m. put (merge (slots_of ts) (hide m (slots env))) e) (sym h)
    ∙ ap (λ t. put (merge t (hide (length ts) (slots env))) e) (sym (append_nil (slots_of ts)))
    ∙ ap (λ t. put t e) (merge_over ts [] (slots env) ∙ ap (λ t. slots_of ts ++ t) (merge_nothing (slots env)))
    ∙ ap (λ t. put t e) (sym (slots_extended ss env))

-- a group's functions, put in place under their names
pub put_group : (fns : Functions) (env : Environment) (e : Exp)
    → put (group_of (put_functions (hide (count fns) (slots env)) fns)) (put (hide (count fns) (slots env)) e) ≡ put (slots (with_group fns env)) e
put_group fns env e =
    let j = hide (count fns) (slots env) in
    put_put (group_of (put_functions j fns)) j e
    ∙ ap (λ t. put t e) (merge_group (put_functions j fns) fns 0 j (slots env))
    ∙ ap (λ t. put t e) (sym (slots_group env fns fns 0 j env))

-- a body of a group, entered with the values of its parameters
pub put_entered : (ss : List (Shape Code)) (n : ℕ) (fns : Functions) (env : Environment) (e : Exp) → length (recodes closed ss) ≡ n
    → put (slots_of (recodes closed ss) ++ group_of (put_functions (hide (count fns) (slots env)) fns)) (put (hide n (hide (count fns) (slots env))) e)
    ≡ put (slots (extended (values_list ss) (with_group fns env))) e
put_entered ss n fns env e h =
    let j = hide (count fns) (slots env) in
    let ts = recodes closed ss in
    put_put (slots_of ts ++ group_of (put_functions j fns)) (hide n j) e
    ∙ ap (λ m. put (merge (slots_of ts ++ group_of (put_functions j fns)) (hide m j)) e) (sym h)
    ∙ ap (λ t. put t e) (merge_over ts (group_of (put_functions j fns)) j)
    ∙ ap (λ t. put (slots_of ts ++ t) e) (merge_group (put_functions j fns) fns 0 j (slots env) ∙ sym (slots_group env fns fns 0 j env))
    ∙ ap (λ t. put t e) (sym (slots_extended ss (with_group fns env)))

pub nodes_put : (s : Slots) (fns : Functions) → group_nodes (put_functions s fns) ≡ group_nodes fns
nodes_put s NoFunction = refl
nodes_put s (AFunction how n ps body fns) = ap (λ m. n + m) (nodes_put s fns)

-- Patterns meet a machine's value as they meet the value that it stands for.
use Rattle.std.proofs.Common.{◌≡◌, ℕ, ◌+◌, List, [], ◌∷◌, length, Option, Some, None, refl, sym, ap, ap₂, ◌∙◌}
use Rattle.mo_types.specs.Heads.{map_option}
use Rattle.mo_values.specs.Costs.{Cost, weighing}
use Rattle.mo_values.specs.Recoding.{recodes}
use Rattle.mo_values.specs.Shapes.{Shape}
use Rattle.typed_tree.specs.Patterns.{Pat, Pats, NoPat, APat, names, matches}
use Rattle.typed_tree.specs.PatternWeights.{pattern_weight, weight_of_all}
use Rattle.typed_tree.specs.Language.{Exp, Cases, NoCase, ACase}
use Rattle.typed_tree.specs.Substitution.{Slots, hide, put, put_cases}
use Rattle.typed_tree.specs.Opening as opening
use Rattle.typed_tree.proofs.Counts.{as_many_as_names}
use Rattle.typed_tree.proofs.Natural.{matches_same}
use Rattle.typed_tree.proofs.Weights.{weight_same}
use Rattle.mo_meaning.specs.Acts as meaning
use Rattle.mo_meaning.specs.Matching as matching
use Rattle.mo_machine.specs.Values.{Value, Code, shape_of}
use Rattle.mo_machine.specs.Environments.{Environment, extended}
use Rattle.mo_machine.specs.Frames.{Joining, Stack, Eval}
use Rattle.mo_machine.specs.Acts.{Store, Act, Goes}
use Rattle.mo_machine.specs.Matching.{on_match, trying, first_case}
use Rattle.mo_machine.specs.Unload.{unload, unload_list, slots, plug}
use Rattle.mo_machine.specs.Agrees.{unload_act}
use Rattle.mo_machine.proofs.Looks.{length_same}
use Rattle.mo_machine.proofs.Scope.{put_extended}
use Rattle.mo_machine.proofs.Unloaded.{closed, shape_unload}

pub match_same : (p : Pat) (v : Value) → matches p (opening.shape_of (unload v)) ≡ map_option (recodes closed) (matches p (shape_of v))
match_same p v = ap (matches p) (shape_unload v) ∙ matches_same closed p (shape_of v)

pub trying_same : (p : Pat) (v : Value) → matching.trying p (unload v) ≡ trying p v
trying_same p v = ap (pattern_weight p) (shape_unload v) ∙ weight_same closed p (shape_of v)

pub weights_same : (ps : Pats) (ss : List (Shape Code)) → weight_of_all ps (recodes closed ss) ≡ weight_of_all ps ss
weights_same NoPat ss = refl
weights_same (APat p ps) [] = refl
weights_same (APat p ps) (s ∷ ss) = ap₂ (λ m n. m + n) (weight_same closed p s) (weights_same ps ss)

-- as many values as names, where there are any
abbrev pub AreAsMany : ℕ → Option (List (Shape Code)) → Type 0
AreAsMany n o = (ss : List (Shape Code)) → o ≡ Some ss → length ss ≡ n

-- what goes on where a pattern matches, and what happens else
pub on_match_same : (n : ℕ) (o : Option (List (Shape Code))) → AreAsMany n o → (env : Environment) (e : Exp) (k : Stack) (cost : Cost) (store : Store) (m : Act) (a : meaning.Act) → unload_act m ≡ a
    → unload_act (on_match o (λ vs. Goes cost store (Eval e (extended vs env)) (Joining ∷ k)) m)
    ≡ matching.on_match (map_option (recodes closed) o) (λ s. meaning.Goes cost (unload_list store) (plug k (put s (put (hide n (slots env)) e)))) a
on_match_same n None h env e k cost store m a same = same
on_match_same n (Some ss) h env e k cost store m a same = ap (λ r. meaning.Goes cost (unload_list store) (plug k r)) (sym (put_extended ss n env e (length_same closed ss ∙ h ss refl)))

pub first_case_same : (store : Store) (weight : ℕ) (v : Value) (cases : Cases) (env : Environment)
    → unload_act (first_case store weight v cases env) ≡ matching.first_case (unload_list store) weight (unload v) (put_cases (slots env) cases)
first_case_same store weight v NoCase env = refl
first_case_same store weight v (ACase p e cases) env =
    let later = λ (n : ℕ). matching.first_case (unload_list store) (weight + n) (unload v) (put_cases (slots env) cases) in
    let on = λ (n : ℕ) (s : Slots). meaning.Goes (weighing (weight + n)) (unload_list store) (put s (put (hide (names p) (slots env)) e)) in
    on_match_same (names p) (matches p (shape_of v)) (as_many_as_names p (shape_of v)) env e [] (weighing (weight + trying p v)) store
    (first_case store (weight + trying p v) v cases env) (later (trying p v)) (first_case_same store (weight + trying p v) v cases env)
    ∙ ap (λ o. matching.on_match o (on (trying p v)) (later (trying p v))) (sym (match_same p v))
    ∙ ap (λ n. matching.on_match (matches p (opening.shape_of (unload v))) (on n) (later n)) (sym (trying_same p v))

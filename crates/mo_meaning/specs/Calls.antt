-- Calls of functions: Motoko language manual, sections "Functions" and "Function calls". The arguments are put in the place
-- of the parameters' names, and the body stands in a frame that knows its number of nodes.
use Rattle.std.specs.Prelude.{ℕ, zero, suc, ◌+◌, List, [], ◌∷◌, ◌++◌, length, Bool, true, false, cond, Option, Some, None}
use Rattle.mo_values.specs.Costs.{Cost, weighing}
use Rattle.mo_values.specs.Shapes.{Shape}
use Rattle.typed_tree.specs.Patterns.{Pats, NoPat, APat, matches_all}
use Rattle.typed_tree.specs.PatternWeights.{weight_of_all}
use Rattle.typed_tree.specs.Language.{Value, Exp, Functions, NoFunction, AFunction, Frame}
use Rattle.typed_tree.specs.Substitution.{put, group_of}
use Rattle.typed_tree.specs.Opening.{Code, slots_of, shapes_list}
use Rattle.mo_meaning.specs.Acts.{Store, Act, Goes, Traps, Stuck}
use Rattle.mo_meaning.specs.Depth.{levels_of_body}
use Rattle.mo_meaning.specs.Matching.{pattern_failed}

-- as many arguments as parameters
abbrev pub are_as_many : Pats → List Value → Bool
are_as_many NoPat [] = true
are_as_many (APat p ps) (v ∷ vs) = are_as_many ps vs
are_as_many _ _ = false

-- Arguments are tried in the body that they are for: where they do not match, the body's frame counts, and the text that is made.
abbrev pub failing : ℕ → ℕ → Cost
failing weight nodes = record { weight = weight + length pattern_failed; levels = levels_of_body nodes }

-- a body that is entered at this weight, or whose parameters the arguments do not match
abbrev pub entered : Store → Functions → ℕ → ℕ → Exp → Option (List (Shape Code)) → Act
entered store group weight nodes body None = Traps (failing weight nodes) pattern_failed
entered store group weight nodes body (Some vs) = Goes (weighing weight) store (Frame nodes (put (slots_of vs ++ group_of group) body))

-- the nodes of the body with its parameters, and the parameters' patterns as they are tried
abbrev pub entering : ℕ → Pats → List (Shape Code) → ℕ
entering nodes ps vs = 1 + nodes + weight_of_all ps vs

-- the function of this place in its group is called
abbrev pub call_function : Store → Functions → Functions → ℕ → List Value → Act
call_function store group NoFunction n vs = Stuck
call_function store group (AFunction how nodes ps body fns) zero vs =
    cond (are_as_many ps vs) (entered store group (entering nodes ps (shapes_list vs)) nodes body (matches_all ps (shapes_list vs))) Stuck
call_function store group (AFunction how nodes ps body fns) (suc n) vs = call_function store group fns n vs

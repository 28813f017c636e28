-- Lists of declarations in the order of evaluation, with the types as they are in the table and in the graph.
use Rattle.std.specs.Prelude.{◌≡◌, ◌-◌, ◌<◌, ◌≤◌, ◌⊎◌, ℕ, Bool, false, List, [], ◌∷◌, ◌++◌, Option, Some, None, drop, flat_map, length, map, slice_get, slice_index_or}
use Rattle.typed_tree.specs.declared.expression.Function.{Function}
use Rattle.typed_tree.specs.declared.expression.Step.{Step}
use Rattle.typed_tree.specs.Placing.{Declared}
use Rattle.abstract_tree.specs.declared.declarations.Declaration.{Declaration}
use Rattle.abstract_tree.specs.declared.expressions.Expression.{Expression}
use Rattle.abstract_tree.specs.TreeView.{declaration_form}
use Rattle.value_scopes.specs.declared.note.Note.{Note}
use Rattle.value_scopes.specs.Values.{noted}
use Rattle.met_types.specs.States.{State}
use Rattle.desugaring.specs.FreeNames.{declared}
use Rattle.desugaring.specs.Frames.{Frame, with_entries}
use Rattle.desugaring.specs.Pieces.{AFunction, AStep, AnExpression, Arranged, Becomes, Named, Nothing, Piece, arranged, arranged_from, before, function_of, group_at, group_steps, names_of}
use Rattle.kernel_nodes.specs.Made.{functions_step}
use Rattle.kernel_parts.specs.declared.lists.Arranged as value
use Rattle.kernel_declarations.specs.Becoming.{becomes_in, value_becomes}

-- ---- groups

-- These functions, in the frame behind their names, were added to these steps as one step, and then their names.
pub record IsGroup (group : List Named) (old : List Step) (f : Frame) (new : List Step) (g : Frame) : Type 0 where
  pub steps : new ≡ old ++ group_steps group f
  pub frame : g ≡ with_entries (names_of group) f

-- one step, where there are functions
abbrev pub group_step : List Function → List Step
group_step [] = []
group_step (f ∷ fs) = functions_step (f ∷ fs) ∷ []

-- ---- what a list becomes

pub record IsArranged (a : Arranged) (made : value.Arranged) (f : Frame) : Type 0 where
  pub steps : made.steps ≡ a.steps
  pub last : made.last ≡ a.last
  pub frame : f ≡ a.frame

-- it is no expression, whose value might be that of the list
abbrev pub IsNoValue : Becomes → Type 0
IsNoValue (AStep binds step) = Unit {0}
IsNoValue (AFunction x g) = Unit {0}
IsNoValue (AnExpression e) = ⊥
IsNoValue Nothing = Unit {0}

-- none of so many declarations is the value of the list
abbrev pub GoesOn : Bool → ℕ → List (Declaration Note) → Type 0
GoesOn has_value n ds = (has_value ≡ false) ⊎ (n < length ds)

module _ (s : State) where
  -- a declaration as a piece of its list
  abbrev pub piece_of : Declaration Note → Piece
  piece_of d = record { declared = declared (declaration_form (noted s.forms) d.form); becomes = becomes_in s d }

  abbrev pub pieces_of : List (Declaration Note) → List Piece
  pieces_of ds = map piece_of ds

  -- the declarations as they are placed
  abbrev pub all_of : List (Declaration Note) → List Declared
  all_of ds = map (λ b. b.declared) (pieces_of ds)

  -- the function that a declaration is, if there is one
  abbrev pub function_at : Option (Declaration Note) → List Named
  function_at None = []
  function_at (Some d) = function_of (becomes_in s d)

  -- the functions at these indexes
  abbrev pub group_in : List (Declaration Note) → List ℕ → List Named
  group_in ds indexes = flat_map (λ k. function_at (slice_get ds k)) indexes

  -- At the indexes of each group stand the functions whose place is there.
  abbrev pub AreGroups : List (Declaration Note) → List (List ℕ) → Type 0
  AreGroups ds groups = (n : ℕ) → n ≤ length ds → group_in ds (slice_index_or groups n []) ≡ group_at (all_of ds) n (pieces_of ds)

  -- what the list becomes from the n-th declaration on, behind these steps and in this frame
  unfoldable pub from_here : Bool → List (Declaration Note) → ℕ → List Step → Frame → Arranged
  from_here has_value ds n steps f = before steps (arranged_from (all_of ds) (pieces_of ds) has_value n (drop n (pieces_of ds)) f)

  -- the last declaration of the list is this expression
  pub record EndsIn (ds : List (Declaration Note)) (a : Expression Note) : Type 0 where
    pub last : Declaration Note
    pub at : slice_get ds (length ds - 1) ≡ Some last
    pub is : becomes_in s last ≡ value_becomes s a

  -- the list has no value
  abbrev pub HasNoValue : Bool → List (Declaration Note) → Type 0
  HasNoValue has_value ds = (f : Frame) → arranged has_value (pieces_of ds) f ≡ arranged false (pieces_of ds) f

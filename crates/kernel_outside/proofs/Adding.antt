-- What one declaration adds, by its role.
use Rattle.std.proofs.Common.{◌≡◌, ◌∙◌, ℕ, suc, ◌+◌, ◌<◌, ◌≤◌, length, drop, get_or, Bool, true, false, List, [], ◌∷◌, ◌++◌, refl, sym, ap, arith}
use Rattle.std.specs.Prelude.{Result, Ok, Err, IfOk, OnOk}
use Rattle.std.proofs.lemmas.List.{append-nil}
use Rattle.mo_types.specs.declared.node.TypeId.{TypeId}
use Rattle.typed_tree.specs.declared.program.StableVariable.{StableVariable}
use Rattle.typing_rules.specs.AbstractSyntax.{Bytes, Declarations}
use Rattle.typing_rules.specs.AbstractSyntax as p
use Rattle.typing_rules.specs.Nodes.{in_declaration}
use Rattle.typing_rules.specs.TypedTrees.{Note}
use Rattle.type_terms.specs.declared.form.TermId.{TermId}
use Rattle.abstract_tree.specs.declared.declarations.Declaration.{Declaration}
use Rattle.abstract_tree.specs.TreeView.{declaration_form}
use Rattle.value_scopes.specs.declared.note.Note as value_note
use Rattle.value_scopes.specs.Values.{noted}
use Rattle.met_types.specs.States.{State}
use Rattle.judged_parts.specs.Parts.{See}
use Rattle.desugaring.specs.Frames.{Frame, found}
use Rattle.desugaring.specs.Programs as programs
use Rattle.kernel_types.specs.Numbers.{definitions, number, number_of}
use Rattle.kernel_parts.specs.Views.{list_in}
use Rattle.kernel_counts.specs.Counting.{Counts}
use Rattle.kernel_roles.specs.Roles.{Role, list_seen, role_in, role_of}
use Rattle.kernel_roles.proofs.Walking.{drop_all, drop_none, first_seen, next}
use Rattle.kernel_outside.specs.Parts.{method_name, nodes_as, stable_in, stable_name, variable_in}

module _ {B : Type 0} (f : Role → List B) (z w : Role) (old new : List B) (e : z ≡ w) where
  pub added_as : {A E : Type 0} (r : Result A E) (more : List B) → more ≡ f z → OnOk r (new ≡ old ++ more) → OnOk r (new ≡ old ++ f w)
  added_as (Ok a) more h k = k ∙ (ap (λ (l : List B). old ++ l) h ∙ ap (λ (y : Role). old ++ f y) e)
  added_as (Err x) more h k = tt

pub stays : {B : Type 0} (f : Role → List B) (z w : Role) (old : List B) → z ≡ w → f z ≡ [] → old ≡ old ++ f w
stays {B} f z w old e h = sym (append-nil old) ∙ (ap (λ (l : List B). old ++ l) (sym h) ∙ ap (λ (y : Role). old ++ f y) e)

module _ (public : Bool) (n : Note) (rest : Declarations Note) where
  methods_of : (d : p.Declaration Note) → programs.method_names (p.Then public n d rest) ≡ method_name (role_of d) ++ programs.method_names rest
  methods_of (p.Let q a) = refl
  methods_of (p.Var false x u a) = refl
  methods_of (p.Var true x u a) = refl
  methods_of (p.Func x g body) = refl
  methods_of (p.Method query context x g body) = refl
  methods_of (p.System x body) = refl
  methods_of (p.TypeAlias x parameters u) = refl
  methods_of (p.Class x g fields) = refl
  methods_of (p.NamedObject x fields) = refl
  methods_of (p.Evaluate a) = refl

  stable_of : (d : p.Declaration Note) → programs.stable_names (p.Then public n d rest) ≡ stable_name (role_of d) ++ programs.stable_names rest
  stable_of (p.Let q a) = refl
  stable_of (p.Var false x u a) = refl
  stable_of (p.Var true x u a) = refl
  stable_of (p.Func x g body) = refl
  stable_of (p.Method query context x g body) = refl
  stable_of (p.System x body) = refl
  stable_of (p.TypeAlias x parameters u) = refl
  stable_of (p.Class x g fields) = refl
  stable_of (p.NamedObject x fields) = refl
  stable_of (p.Evaluate a) = refl

-- the nodes of a declaration by its role
nodes_are : (d : p.Declaration Note) → programs.own_nodes d ≡ nodes_as (role_of d) (in_declaration d)
nodes_are (p.Let q a) = refl
nodes_are (p.Var false x u a) = refl
nodes_are (p.Var true x u a) = refl
nodes_are (p.Func x g body) = refl
nodes_are (p.Method query context x g body) = refl
nodes_are (p.System x body) = refl
nodes_are (p.TypeAlias x parameters u) = refl
nodes_are (p.Class x g fields) = refl
nodes_are (p.NamedObject x fields) = refl
nodes_are (p.Evaluate a) = refl

module _ (see : See) where
  pub methods_next : (d : Declaration value_note.Note) (ds : List (Declaration value_note.Note)) → programs.method_names (list_seen see (d ∷ ds)) ≡ method_name (role_in see d) ++ programs.method_names (list_seen see ds)
  methods_next d ds = first_seen see programs.method_names d ds ∙ methods_of d.public (see d.note) (list_seen see ds) (declaration_form see d.form)

  pub stable_next : (d : Declaration value_note.Note) (ds : List (Declaration value_note.Note)) → programs.stable_names (list_seen see (d ∷ ds)) ≡ stable_name (role_in see d) ++ programs.stable_names (list_seen see ds)
  stable_next d ds = first_seen see programs.stable_names d ds ∙ stable_of d.public (see d.note) (list_seen see ds) (declaration_form see d.form)

  pub nodes_next : (d : Declaration value_note.Note) (ds : List (Declaration value_note.Note)) → programs.own_nodes_of (list_seen see (d ∷ ds)) ≡ suc (programs.own_nodes (declaration_form see d.form) + programs.own_nodes_of (list_seen see ds))
  nodes_next d ds = first_seen see programs.own_nodes_of d ds

-- ---- counts

module _ (z : Role) (d : p.Declaration Note) (before more : ℕ) (e : z ≡ role_of d) (one : more ≡ before + 1) where
  pub none_counted : nodes_as z (in_declaration d) ≡ 0 → Counts (suc (programs.own_nodes d)) before more
  none_counted h =
      let k : programs.own_nodes d ≡ 0 = nodes_are d ∙ (ap (λ (y : Role). nodes_as y (in_declaration d)) (sym e) ∙ h) in
      record { is = omega (arith, k, one) }

  pub all_counted : {E : Type 0} (r : Result ℕ E) → nodes_as z (in_declaration d) ≡ in_declaration d → IfOk r (Counts (in_declaration d) more) → IfOk r (Counts (suc (programs.own_nodes d)) before)
  all_counted (Ok m) h c =
      let k : programs.own_nodes d ≡ in_declaration d = nodes_are d ∙ (ap (λ (y : Role). nodes_as y (in_declaration d)) (sym e) ∙ h) in
      let g : m ≡ more + in_declaration d = c.is in
      record { is = omega (arith, k, one, g) }
  all_counted (Err x) h c = tt

count_next : (own rest left all counted more : ℕ) → left ≡ suc (own + rest) → counted + left ≡ all → Counts (suc own) counted more → more + rest ≡ all
count_next own rest left all counted more e h c = let g : more ≡ counted + suc own = c.is in omega (arith, e, h, g)

module _ (see : See) (ds : List (Declaration value_note.Note)) where
  abbrev left_from : ℕ → ℕ
  left_from i = programs.own_nodes_of (list_seen see (drop i ds))

  pub nodes_begun : 0 + left_from 0 ≡ programs.own_nodes_of (list_seen see ds)
  nodes_begun = let e : left_from 0 ≡ programs.own_nodes_of (list_seen see ds) = ap (λ (l : List (Declaration value_note.Note)). programs.own_nodes_of (list_seen see l)) (drop_none ds) in omega (arith, e)

  pub nodes_more : (i : ℕ) (d : Declaration value_note.Note) (counted more : ℕ) → i < length ds → d ≡ get_or ds i d → counted + left_from i ≡ programs.own_nodes_of (list_seen see ds) → Counts (suc (programs.own_nodes (declaration_form see d.form))) counted more
      → more + left_from (i + 1) ≡ programs.own_nodes_of (list_seen see ds)
  nodes_more i d counted more l e h c =
      count_next (programs.own_nodes (declaration_form see d.form)) (left_from (i + 1)) (left_from i) (programs.own_nodes_of (list_seen see ds)) counted more
      (ap (λ (z : List (Declaration value_note.Note)). programs.own_nodes_of (list_seen see z)) (next ds i d l e) ∙ nodes_next see d (drop (i + 1) ds)) h c

  pub nodes_end : (i counted : ℕ) → length ds ≤ i → counted + left_from i ≡ programs.own_nodes_of (list_seen see ds) → counted ≡ programs.own_nodes_of (list_seen see ds)
  nodes_end i counted l h = let e : left_from i ≡ 0 = ap (λ (z : List (Declaration value_note.Note)). programs.own_nodes_of (list_seen see z)) (drop_all ds i l) in omega (arith, e, h)

-- ---- stable variables

abbrev as_variable : Bytes → TypeId → ℕ → StableVariable
as_variable x u m = record { name = x; of_type = u; cell = m }

module _ (s : State) (f : Frame) where
  pub variable_is : (kind : TermId) (x y : Bytes) (u : TypeId) (m : ℕ) → y ≡ x → u ≡ number_of s kind → m ≡ (found f x).index → as_variable y u m ≡ variable_in s f kind x
  variable_is kind x y u m e h k =
      ap (λ (z : Bytes). as_variable z u m) e ∙ (ap (λ (t : TypeId). as_variable x t m) h ∙ ap (λ (i : ℕ). as_variable x (number_of s kind) i) k)

  variables_of : (public : Bool) (n : value_note.Note) (rest : Declarations Note) (d : p.Declaration Note) → programs.stable_of (definitions s) (number s) f (p.Then public (noted s.forms n) d rest) ≡ stable_in s f n (role_of d) ++ programs.stable_of (definitions s) (number s) f rest
  variables_of public n rest (p.Let q a) = refl
  variables_of public n rest (p.Var false x u a) = refl
  variables_of public n rest (p.Var true x u a) = refl
  variables_of public n rest (p.Func x g body) = refl
  variables_of public n rest (p.Method query context x g body) = refl
  variables_of public n rest (p.System x body) = refl
  variables_of public n rest (p.TypeAlias x parameters u) = refl
  variables_of public n rest (p.Class x g fields) = refl
  variables_of public n rest (p.NamedObject x fields) = refl
  variables_of public n rest (p.Evaluate a) = refl

  pub variables_next : (d : Declaration value_note.Note) (ds : List (Declaration value_note.Note))
      → programs.stable_of (definitions s) (number s) f (list_in s (d ∷ ds)) ≡ stable_in s f d.note (role_in (noted s.forms) d) ++ programs.stable_of (definitions s) (number s) f (list_in s ds)
  variables_next d ds = first_seen (noted s.forms) (programs.stable_of (definitions s) (number s) f) d ds ∙ variables_of d.public d.note (list_in s ds) (declaration_form (noted s.forms) d.form)

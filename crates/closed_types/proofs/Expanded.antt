-- In each environment the types of a program come to closed ones.
use Rattle.std.proofs.Common.{◌≡◌, ◌∙◌, ◌<◌, ◌≤◌, ℕ, ◌+◌, ◌-◌, List, [], ◌∷◌, length, map, Bool, true, false, cond, Some, None, refl, sym, ap, arith, nat_eq, if◌then◌else◌}
use Rattle.std.specs.Prelude.{nat_lt}
use Rattle.std.specs.Cmp.Lexicographic.{pointwise}
use Rattle.std.proofs.lemmas.Bool.{le-ltb, lt-ltb, ltb-false}
use Rattle.std.proofs.lemmas.Option.{slice_get_past}
use Rattle.mo_types.specs.declared.node.Field.{Field}
use Rattle.mo_types.specs.declared.node.Node.{Node}
use Rattle.mo_types.specs.declared.node.Node.TheVariants as node
use Rattle.mo_types.specs.declared.node.TypeId.{TypeId}
use Rattle.mo_types.specs.Graph.{Slot, node_of_slot, node_or_bottom, head_at}
use Rattle.mo_types.specs.Heads.{map_option, variable_of}
use Rattle.mo_types.specs.Sub.{Each, find}
use Rattle.mo_subtype.specs.Renamed.{on_field, on_node}
use Rattle.subtype_laws.specs.Labels.{OwnLabels}
use Rattle.closed_types.specs.Closings.{IsNoVariable, AreClosed, Closing}
use Rattle.closed_types.specs.Expanded.{Environment, id_of, written, read, none_id, value_in, placed, closed_as, close_in, opened, opened_list, expanded}
use Rattle.closed_types.specs.Numbering.{number_of_list, list_of_number}
use Rattle.closed_types.proofs.Nodes.{no_variable_on}
use Rattle.closed_types.proofs.Numbering.{number_back}

read_back : (e : Environment) → read (written e) ≡ e
read_back [] = refl
read_back (b ∷ e) = ap (λ (l : Environment). b ∷ l) (read_back e)

-- ---- labels

module _ {A B : Type 0} (f : A → B) where
  pub found : (l : List ℕ) (fs : List (Field A)) → find l (map (on_field f) fs) ≡ map_option (on_field f) (find l fs)
  found l [] = refl
  found l (x ∷ fs) = by (pointwise nat_eq x.label l) (found l fs) where
    by : (b : Bool) → find l (map (on_field f) fs) ≡ map_option (on_field f) (find l fs)
        → (if b then Some (on_field f x) else find l (map (on_field f) fs)) ≡ map_option (on_field f) (if b then Some x else find l fs)
    by true e = refl
    by false e = e

  each_own : (all fs : List (Field A)) → Each (λ x. find x.label all ≡ Some x) fs → Each (λ x. find x.label (map (on_field f) all) ≡ Some x) (map (on_field f) fs)
  each_own all [] h = tt
  each_own all (x ∷ fs) h = (found x.label all ∙ ap (map_option (on_field f)) h.0, each_own all fs h.1)

  pub own_on : (x : Node A) → OwnLabels x → OwnLabels (on_node f x)
  own_on (node.Object fs) h = each_own fs fs h
  own_on (node.Actor fs) h = each_own fs fs h
  own_on (node.Variant fs) h = each_own fs fs h
  own_on x h = tt

module _ (types : List Slot) (first : ℕ) (past : length types ≤ first) where
  out_of_range : (t : TypeId) → first ≤ t.index → head_at types t ≡ node.Bottom
  out_of_range t l = ap (λ s. node_or_bottom (node_of_slot s)) (slice_get_past types t.index (over (length types) first t.index past l)) where
    over : (k n m : ℕ) → k ≤ n → n ≤ m → k ≤ m
    over k n m p q = omega arith

  opened_as : (e : Environment) (x : Node TypeId) → IsNoVariable x → opened types first e x ≡ on_node (close_in types first e) x
  opened_as e (node.Variable v b) i = absurd (let z : Some v ≡ None = i in cc)
  opened_as e x i = refl

  -- what stands behind the program's types
  behind : (ns : List ℕ) → expanded types first (id_of (first + number_of_list ns)) ≡ opened_list types first ns
  behind ns =
      ap (λ b. cond b (opened types first [] (head_at types (id_of (first + number_of_list ns)))) (opened_list types first (list_of_number ((first + number_of_list ns) - first)))) (le-ltb (first + number_of_list ns) first (more first (number_of_list ns)))
      ∙ ap (λ n. opened_list types first (list_of_number n)) (taken first (number_of_list ns))
      ∙ ap (opened_list types first) (number_back ns)
    where
      more : (n m : ℕ) → n ≤ n + m
      more n m = omega arith

      taken : (n m : ℕ) → (n + m) - n ≡ m
      taken n m = omega arith

  pub none_there : expanded types first (none_id types first) ≡ node.Bottom
  none_there = ap (λ n. expanded types first (id_of n)) (plain first) ∙ behind [] where
    plain : (n : ℕ) → n ≡ n + 0
    plain n = omega arith

  pub placed_head : (e : Environment) (t : TypeId) → IsNoVariable (head_at types t) → expanded types first (placed types first e t) ≡ on_node (close_in types first e) (head_at types t)
  placed_head [] t i = by (nat_lt t.index first) refl where
    by : (b : Bool) → nat_lt t.index first ≡ b → expanded types first (cond b t (none_id types first)) ≡ on_node (close_in types first []) (head_at types t)
    by true k =
        ap (λ b. cond b (opened types first [] (head_at types t)) (opened_list types first (list_of_number (t.index - first)))) k
        ∙ opened_as [] (head_at types t) i
    by false k = none_there ∙ sym (ap (on_node (close_in types first [])) (out_of_range t (ltb-false t.index first k)))
  placed_head (b ∷ e) t i =
      behind (t.index ∷ written (b ∷ e))
      ∙ ap (λ (f : Environment). opened types first f (head_at types t)) (read_back (b ∷ e))
      ∙ opened_as (b ∷ e) (head_at types t) i

  abbrev pub closing : (e : Environment) → Closing (head_at types) (expanded types first)
  closing e = record {
    value = value_in types first e;
    close = close_in types first e;
    variables = λ t b v f. ap (closed_as types first e t) (ap variable_of f);
    others = λ t i. ap (λ o. expanded types first (closed_as types first e t o)) i ∙ placed_head e t i;
  }

  -- ---- closed types

  opened_none : (e : Environment) (x : Node TypeId) → IsNoVariable (opened types first e x)
  opened_none e (node.Variable v b) = refl
  opened_none e (node.Number k) = refl
  opened_none e x = no_variable_on (close_in types first e) x refl

  opened_own : (e : Environment) (x : Node TypeId) → OwnLabels x → OwnLabels (opened types first e x)
  opened_own e (node.Variable v b) h = tt
  opened_own e x h = own_on (close_in types first e) x h

  list_none : (ns : List ℕ) → IsNoVariable (opened_list types first ns)
  list_none [] = refl
  list_none (t ∷ ns) = opened_none (read ns) (head_at types (id_of t))

  list_own : ((t : TypeId) → OwnLabels (head_at types t)) → (ns : List ℕ) → OwnLabels (opened_list types first ns)
  list_own own [] = tt
  list_own own (t ∷ ns) = opened_own (read ns) (head_at types (id_of t)) (own (id_of t))

  pub expanded_closed : ((t : TypeId) → OwnLabels (head_at types t)) → AreClosed (expanded types first)
  expanded_closed own = record {
    own = λ t. at_own t (nat_lt t.index first);
    none = λ t. at_none t (nat_lt t.index first);
  } where
    at_own : (t : TypeId) (b : Bool) → OwnLabels (cond b (opened types first [] (head_at types t)) (opened_list types first (list_of_number (t.index - first))))
    at_own t true = opened_own [] (head_at types t) (own t)
    at_own t false = list_own own (list_of_number (t.index - first))

    at_none : (t : TypeId) (b : Bool) → IsNoVariable (cond b (opened types first [] (head_at types t)) (opened_list types first (list_of_number (t.index - first))))
    at_none t true = opened_none [] (head_at types t)
    at_none t false = list_none (list_of_number (t.index - first))

module _ (types : List Slot) (first : ℕ) where
  -- a type of the program that is no type parameter is itself where nothing is put in
  pub itself : (t : TypeId) → t.index < first → IsNoVariable (head_at types t) → close_in types first [] t ≡ t
  itself t l i = ap (closed_as types first [] t) i ∙ ap (λ b. cond b t (none_id types first)) (lt-ltb t.index first l)

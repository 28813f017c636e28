-- What loading a valid module leaves is an instance of it.
use Rattle.std.proofs.lemmas.List.{length-map}
use Rattle.std.proofs.Common.{◌≡◌, ◌+◌, ◌<◌, ◌≤◌, ℕ, zero, suc, Bool, true, false, cond, List, [], ◌∷◌, ◌++◌, length, take, drop, map, replicate, Option, Some, None, refl, sym, ap, subst, ◌∙◌, nat_le, arith}
use Rattle.std.specs.Prelude.{IfSome, slice_get, ⊤}
use Rattle.std.specs.List.{AllByRecursion, refill, length_refill}
use Rattle.wasm_tree.specs.declared.module_parts.ElementSegment.{ElementSegment}
use Rattle.wasm_tree.specs.declared.module_parts.Module.{Module}
use Rattle.wasm_tree.specs.declared.rule.Rule.TheVariants as rule
use Rattle.wasm_tree.specs.Rules.{every, signatures}
use Rattle.wasm_tree.specs.Valid.{IsValidElement, ValidModule}
use Rattle.wasm_tree.specs.Exec.{ExecutionLimits}
use Rattle.wasm_tree.specs.Load.{Instance, Load, AboveLimit, OutOfBounds, Loaded, blank, constant, first_size, put_at, then_put, with_segments, with_elements, filled, load}
use Rattle.std.specs.Prelude.{OnOk, IsErrOf}
use Rattle.std.proofs.Common.{Result, Ok, Err}
use Rattle.wasm_store.specs.declared.store.LoadTrap.{LoadTrap}
use Rattle.wasm_store.specs.Loading.{Answers, load_within}
use Rattle.wasm_instance.specs.Fits.{IsInstanceOf}

-- Every entry that is filled is below the bound.
abbrev pub Below : ℕ → List (Option ℕ) → Type 0
Below bound table = AllByRecursion (λ o. IfSome o (λ f. f < bound)) table

joined : (bound : ℕ) (a b : List (Option ℕ)) → Below bound a → Below bound b → Below bound (a ++ b)
joined bound [] b p q = q
joined bound (x ∷ a) b p q = (p.0, joined bound a b p.1 q)

taken : (bound n : ℕ) (a : List (Option ℕ)) → Below bound a → Below bound (take n a)
taken bound zero a p = tt
taken bound (suc n) [] p = tt
taken bound (suc n) (x ∷ a) p = (p.0, taken bound n a p.1)

dropped : (bound n : ℕ) (a : List (Option ℕ)) → Below bound a → Below bound (drop n a)
dropped bound zero a p = p
dropped bound (suc n) [] p = tt
dropped bound (suc n) (x ∷ a) p = dropped bound n a p.1

empty : (bound n : ℕ) → Below bound (replicate n None)
empty bound zero = tt
empty bound (suc n) = (tt, empty bound n)

given : (bound : ℕ) (fs : List ℕ) → AllByRecursion (λ f. every rule.Index → f < bound) fs → Below bound (map Some fs)
given bound [] p = tt
given bound (f ∷ fs) p = (p.0 tt, given bound fs p.1)

same_item : {A : Type 0} (a b : A) → Some a ≡ Some b → a ≡ b
same_item {A = A} a b e = ap (or_other a) e
  where
    or_other : A → Option A → A
    or_other x None = x
    or_other x (Some y) = y

some_below : (bound : ℕ) (b : Bool) (these r : List (Option ℕ)) → Below bound these → cond b (Some these) None ≡ Some r → Below bound r
some_below bound true these r p e = subst (Below bound) (same_item these r e) p
some_below bound false these r p e = absurd (cc)

put_below : (bound place : ℕ) (items table r : List (Option ℕ)) → Below bound items → Below bound table → put_at place items table ≡ Some r → Below bound r
put_below bound place items table r p q e =
    some_below bound (nat_le (place + length items) (length table)) (take place table ++ items ++ drop (place + length items) table) r
    (joined bound (take place table ++ items) (drop (place + length items) table) (joined bound (take place table) items (taken bound place table q) p) (dropped bound (place + length items) table q)) e

then_below : (bound : ℕ) (o : Option (List (Option ℕ))) (next : List (Option ℕ) → Option (List (Option ℕ))) (r : List (Option ℕ))
    → ((t : List (Option ℕ)) → o ≡ Some t → next t ≡ Some r → Below bound r) → then_put o next ≡ Some r → Below bound r
then_below bound None next r n e = absurd (cc)
then_below bound (Some t) next r n e = n t refl e

segments_below : (m : Module) (segments : List ElementSegment) (table r : List (Option ℕ)) → AllByRecursion (IsValidElement every m) segments
    → Below (length (signatures m)) table → with_elements segments table ≡ Some r → Below (length (signatures m)) r
segments_below m [] table r all p e = subst (Below (length (signatures m))) (same_item table r e) p
segments_below m (s ∷ segments) table r all p e =
    then_below (length (signatures m)) (put_at (constant s.offset) (map Some s.functions) table) (with_elements segments) r
    (λ t put rest. segments_below m segments t r all.1
    (put_below (length (signatures m)) (constant s.offset) (map Some s.functions) table t (given (length (signatures m)) s.functions all.0.functions) p put) rest) e

abbrev pub instance_of : Load → Instance
instance_of AboveLimit = record { memory = []; globals = []; table = [] }
instance_of OutOfBounds = record { memory = []; globals = []; table = [] }
instance_of (Loaded i) = i

record IsFilled (globals : List ℕ) (table : Option (List (Option ℕ))) (i : Instance) : Type 0 where
  globals_are : i.globals ≡ globals
  table_is : table ≡ Some i.table

filled_is : (globals : List ℕ) (memory : Option (List ℕ)) (table : Option (List (Option ℕ))) (i : Instance) → filled globals memory table ≡ Loaded i → IsFilled globals table i
filled_is globals None table i e = absurd (cc)
filled_is globals (Some memory) None i e = absurd (cc)
filled_is globals (Some memory) (Some table) i e =
    record { globals_are = sym (ap (λ l. (instance_of l).globals) e); table_is = ap (λ l. Some (instance_of l).table) e }

chosen : (b : Bool) (l : Load) (i : Instance) → cond b l AboveLimit ≡ Loaded i → l ≡ Loaded i
chosen true l i e = e
chosen false l i e = absurd (cc)

below_at : (bound : ℕ) (table : List (Option ℕ)) (place f : ℕ) → Below bound table → slice_get table place ≡ Some (Some f) → f < bound
below_at bound [] place f p e = absurd (cc)
below_at bound (x ∷ table) zero f p e = subst (λ o. IfSome o (λ f. f < bound)) (same_item x (Some f) e) p.0
below_at bound (x ∷ table) (suc place) f p e = below_at bound table place f p.1 e

blank_below : (bound n : ℕ) → Below bound (blank n None)
unfolding blank
blank_below bound n = empty bound n

pub fits : (limits : ExecutionLimits) (m : Module) (i : Instance) → ValidModule m → load limits m ≡ Loaded i → IsInstanceOf m i
fits limits m i valid e =
    let whole : IsFilled (map (λ g. constant g.init) m.globals) (with_elements m.elements (blank (first_size m.tables) None)) i =
    filled_is _ _ _ i (chosen _ _ i e) in
    record {
      globals = sym (length-map m.globals (λ g. constant g.init)) ∙ sym (ap length whole.globals_are);
      table = λ place function found. below_at (length (signatures m)) i.table place function
          (segments_below m m.elements (blank (first_size m.tables) None) i.table valid.parts.elements (blank_below (length (signatures m)) (first_size m.tables)) whole.table_is) found;
    }

answered : {A : Type 0} (l : Load) (result : Result A LoadTrap) (left : Instance) → Answers l result left → OnOk result (l ≡ Loaded left)
answered AboveLimit (Ok x) left a = absurd (cc)
answered AboveLimit (Err cause) left a = tt
answered OutOfBounds (Ok x) left a = absurd (cc)
answered OutOfBounds (Err cause) left a = tt
answered (Loaded first) (Ok x) left a = ap Loaded (sym a.1)
answered (Loaded first) (Err cause) left a = tt

mapped : {A B : Type 0} {P Q : Type 0} (result : Result A B) → (P → Q) → OnOk result P → OnOk result Q
mapped (Ok x) f p = f p
mapped (Err cause) f p = tt

pub fits_where_loaded : {A : Type 0} (pages : ℕ) (m : Module) (result : Result A LoadTrap) (left : Instance) → ValidModule m → Answers (load_within pages m) result left → OnOk result (IsInstanceOf m left)
fits_where_loaded pages m result left valid a =
    mapped result (fits (record { steps = 0; pages = pages; stack = 0 }) m left valid) (answered (load_within pages m) result left a)

-- It still is one when the globals are written.
pub still_fits : (m : Module) (i now : Instance) (memory written : List ℕ) → i ≡ now → IsInstanceOf m now → IsInstanceOf m (record { memory = memory; globals = refill (length i.globals) i.globals written; table = i.table })
still_fits m i now memory written same fits = record {
  globals = fits.globals ∙ sym (ap (λ x. length x.globals) same) ∙ length_refill (length i.globals) i.globals written refl;
  table = λ place function e. fits.table place function (ap (λ x. slice_get x.table place) (sym same) ∙ e);
}

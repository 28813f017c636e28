-- Methods by their names.
use Rattle.std.proofs.Common.{◌≡◌, ℕ, suc, ◌+◌, ◌<◌, ◌≤◌, List, [], ◌∷◌, length, get_or, map, drop, Bool, true, false, cond, Option, Some, refl, sym, ap, ◌∙◌, arith}
use Rattle.std.proofs.Math.Seq.{drop-cons}
use Rattle.std.proofs.Math.ListN.{drop_of_length-le}
use Rattle.mo_values.specs.Shapes.{Bytes}
use Rattle.typed_tree.specs.declared.program.Method.{Method as Written}
use Rattle.typed_tree.specs.ProgramView.{is_query, method}
use Rattle.typed_tree.specs.View.{FunctionView}
use Rattle.mo_meaning.specs.Actor.{method_from}
use Rattle.mo_meaning.specs.Actor as meaning
use Rattle.mo_meaning.specs.Kernel.{Entry}
use Rattle.arena_calls.proofs.Entries.{function_is}
use Rattle.arena_events.specs.Methods.{is_method, query_of}

-- whether it is a query method is its sort
pub query_is : (m : Written) → (method m).query ≡ query_of m
query_is m = ap (λ (f : FunctionView). is_query f.how) (function_is m.function)

abbrev from : ℕ → Bool → Bytes → List Written → Option Entry
from place query name ms = method_from place query name (map method ms)

first_is : (place : ℕ) (query : Bool) (name : Bytes) (m : Written) (ms : List Written) (b : Bool) → is_method query name (method m) ≡ b
    → from place query name (m ∷ ms) ≡ cond b (Some (meaning.entry_of place (method m))) (from (suc place) query name ms)
first_is place query name m ms b is = ap (λ (c : Bool). cond c (Some (meaning.entry_of place (method m))) (from (suc place) query name ms)) is

module _ (query : Bool) (name : Bytes) (ms : List Written) where
  dropped : (i : ℕ) (m : Written) → i < length ms → m ≡ get_or ms i m → drop i ms ≡ m ∷ drop (suc i) ms
  dropped i m below is = drop-cons ms i m below ∙ ap (λ (x : Written). x ∷ drop (suc i) ms) (sym is)

  -- this one is it
  pub found_at : (i : ℕ) (m : Written) → i < length ms → m ≡ get_or ms i m → true ≡ is_method query name (method m) → from i query name (drop i ms) ≡ from 0 query name ms
      → Some (meaning.entry_of i (method m)) ≡ from 0 query name ms
  found_at i m below is so invariant = sym (ap (λ (l : List Written). from i query name l) (dropped i m below is) ∙ first_is i query name m (drop (suc i) ms) true (sym so)) ∙ invariant

  -- this one is passed
  pub passed_at : (i : ℕ) (m : Written) → i < length ms → m ≡ get_or ms i m → false ≡ is_method query name (method m) → from i query name (drop i ms) ≡ from 0 query name ms
      → from (i + 1) query name (drop (i + 1) ms) ≡ from 0 query name ms
  passed_at i m below is so invariant =
      let number : i + 1 ≡ suc i = omega arith in
      ap (λ (n : ℕ). from n query name (drop n ms)) number
      ∙ sym (ap (λ (l : List Written). from i query name l) (dropped i m below is) ∙ first_is i query name m (drop (suc i) ms) false (sym so))
      ∙ invariant

  -- none of them is it
  resume_anywhere : (i j : ℕ) → method_from i query name [] ≡ method_from j query name []
  resume_anywhere i j = refl

  pub none_is : (i : ℕ) (o : Option Entry) → length ms ≤ i → o ≡ method_from 0 query name [] → from i query name (drop i ms) ≡ from 0 query name ms → o ≡ from 0 query name ms
  none_is i o all is invariant = is ∙ resume_anywhere 0 i ∙ sym (ap (λ (l : List Written). from i query name l) (drop_of_length-le ms {i = i} all)) ∙ invariant
